-- Function parts of declarators are given: their parameters stand in a scope of their own, which is left at the end.
use Rattle.std.proofs.Common.{◌≡◌, ◌≤◌, ◌<◌, ◌+◌, ℕ, Bool, true, List, [], ◌++◌, length, refl, ap, sym, subst, ◌∙◌, arith}
use Rattle.cc_base.specs.declared.place.Place.{Place}
use Rattle.cc_base.specs.declared.number.TypeId.{TypeId}
use Rattle.c_types.specs.declared.shape.TypeShape.TheVariants.{Function}
use Rattle.c_types.specs.Table.{Table, HasShape}
use Rattle.c_tree.specs.Tree as tree
use Rattle.c_tree.specs.TypedTree as typed
use Rattle.c_tree.specs.TypedTree.{TypedParts, TypedParameters}
use Rattle.c_tree.specs.TypedParts.{made_by_parts, made_by_parameters, is_void_list}
use Rattle.c_typing.specs.Declaring
use Rattle.c_typing.specs.Declaring.{left, stopped_outside, stopping_outside}
use Rattle.c_typing.specs.Judging.{State, Outcome, Gives, ◌>>=◌, pure}
use Rattle.c_typing.specs.Refusals.{is_void_alone}
use Rattle.c_typing.specs.Scopes.{entering, leaving}
use Rattle.c_typing.specs.Settled.{IsBasic}
use Rattle.c_typing.specs.Walks.{judge_parts, judge_parameters, judge_prototype}
use Rattle.c_typing_laws.proofs.JudgedDeclarators.{entered-judged, left-judged, voids-alike}
use Rattle.c_typing_laws.proofs.JudgedTrees.{void_self}
use Rattle.c_typing_unique.specs.Points.{Point}
use Rattle.c_typing_unique.proofs.PartSteps.{AreParametersRead, are_parts, entered, left_behind}
use Rattle.c_typing_exact.proofs.SameParts.{distinct}
use Rattle.c_unit_typing.specs.Holding.{parts_holds, parameters_holds}
use Rattle.c_typing_given.specs.Given.{point_at, IsHere, IsReached, IsGivenAs}
use Rattle.c_typing_given.specs.Spending.{HasRoom}
use Rattle.c_type_order.specs.TypesUsed.{AreUses, used_by_parts, used_by_parameters}
use Rattle.c_typing_given.proofs.CallsGiven.{reached-none}
use Rattle.c_typing_given.proofs.Constructing.{reached-both, uses-at, max-left, max-right}
use Rattle.c_typing_given.proofs.EnumeratorsGiven.{in_state, reached-in}
use Rattle.c_typing_given.proofs.FormsGiven.{ArePartsGiven}
use Rattle.c_typing_given.proofs.LevelsKept.{entered-levels, left-levels, parameters-levels}
use Rattle.c_typing_given.proofs.ParametersGiven.{AreParametersGiven}
use Rattle.c_typing_given.proofs.Spent.{room-first, room-then}
use Rattle.c_typing_given.proofs.Steps.{then-is}
use Rattle.c_typing_given.proofs.TypeGiven.{lt_true}
use Rattle.c_typing_given.proofs.ValuesGiven.{uses-first}

-- What judging is made of

abbrev inside : State → State
inside s = in_state (entering s.seen.scopes) s

abbrev outside : State → State
outside s = in_state (leaving s.seen.scopes) s

enters : (s : State) → Declaring.entered s ≡ Gives true (inside s)
unfolding Declaring.entered
enters s = refl

leaves : (at : Place) (list : TypedParameters) (s : State) → 1 < length s.seen.scopes.levels → left at list s ≡ Gives list (outside s)
unfolding left
leaves at list s h = rw (lt_true 1 (length s.seen.scopes.levels) h) refl

judges_function : (at : Place) (all : tree.Parts) (paren : Place) (parameters : tree.Parameters) (parts : TypedParts) (list : TypedParameters) (s k m : State)
    → judge_parts at all s ≡ Gives parts k → judge_parameters (is_void_alone parameters) parameters (inside k) ≡ Gives list m → left at list m ≡ Gives list (outside m)
    → judge_parts at (tree.AndFunction all paren parameters) s ≡ Gives (typed.AndFunction parts paren list) (outside m)
unfolding judge_parts
judges_function at all paren parameters parts list s k m h g f =
    let o : Outcome TypedParts = Gives (typed.AndFunction parts paren list) (outside m) in
    then-is (judge_parts at all)
    (λ p. Declaring.entered >>= (λ i. stopping_outside (judge_parameters (is_void_alone parameters) parameters) >>= (λ l. left at l >>= (λ w. pure (typed.AndFunction p paren w))))) parts s k o h
    (then-is Declaring.entered (λ i. stopping_outside (judge_parameters (is_void_alone parameters) parameters) >>= (λ l. left at l >>= (λ w. pure (typed.AndFunction parts paren w)))) true k (inside k) o
    (enters k)
    (then-is (stopping_outside (judge_parameters (is_void_alone parameters) parameters)) (λ l. left at l >>= (λ w. pure (typed.AndFunction parts paren w))) list (inside k) m o (ap stopped_outside g)
    (then-is (left at list) (λ w. pure (typed.AndFunction parts paren w)) list m (outside m) o f refl)))

judges_prototype : (at : Place) (parameters : tree.Parameters) (list : TypedParameters) (s m : State)
    → judge_parameters (is_void_alone parameters) parameters (inside s) ≡ Gives list m → left at list m ≡ Gives list (outside m)
    → judge_prototype at parameters s ≡ Gives list (outside m)
unfolding judge_prototype
judges_prototype at parameters list s m g f =
    let o : Outcome TypedParameters = Gives list (outside m) in
    then-is Declaring.entered (λ i. stopping_outside (judge_parameters (is_void_alone parameters) parameters) >>= (λ l. left at l)) true s (inside s) o (enters s)
    (then-is (stopping_outside (judge_parameters (is_void_alone parameters) parameters)) (λ l. left at l) list (inside s) m o (ap stopped_outside g) f)

module _ (T : Table) (basic : IsBasic T) (few : (t : TypeId) (parameters : List TypeId) (result : TypeId) → HasShape T t (Function parameters result) → length parameters ≤ 127) where
  -- parameters in a scope of their own, after which it is left
  record IsListGiven (at : Place) (parameters : tree.Parameters) (list : TypedParameters) (s : State) (b : Point) (count : ℕ) : Type 0 where
    pub last : State
    pub gives : judge_parameters (is_void_alone parameters) parameters (inside s) ≡ Gives list last
    pub leaving_gives : left at list last ≡ Gives list (outside last)
    pub reached : IsReached T (made_by_parameters list) s (outside last) (left_behind b) count

  list_given : (at : Place) (parameters : tree.Parameters) → AreParametersGiven T basic few parameters → (list : TypedParameters) (s : State) (n : Point) (count : ℕ) → IsHere T s
      → AreParametersRead T (distinct T basic) (is_void_list list) parameters list (entered (point_at s)) n → AreUses (used_by_parameters T list) (length s.table) count
      → HasRoom T (made_by_parameters list) s → parameters_holds parameters ≤ 256 → IsListGiven at parameters list s n count
  list_given at parameters gp list s n count here h uses room holds =
      let void : is_void_list list ≡ is_void_alone parameters = voids-alike list ∙ ap is_void_alone h.0 in
      let known = (entered-judged true s (inside s) here.known (enters s)).1.known in
      let start = reached-none T basic s (point_at s) (length s.table) here refl refl in
      let began =
      reached-in T basic [] s s (point_at s) (entered (point_at s)) (length s.table) (entering s.seen.scopes) start known refl refl
      (λ o. let l = entered-levels s.seen.scopes in omega (arith, l)) here.own refl refl in
      let read : AreParametersRead T (distinct T basic) (is_void_alone parameters) parameters list (point_at (inside s)) n =
      subst (λ (v : Bool). AreParametersRead T (distinct T basic) v parameters list (point_at (inside s)) n) void h in
      let g =
      gp (is_void_alone parameters) list (inside s) n count (void_self parameters) began.here read uses (record { things = room.things; nodes = room.nodes; globals = room.globals; cells = room.cells }) holds in
      let both = reached-both T basic [] (made_by_parameters list) s (inside s) g.after (entered (point_at s)) n (length s.table) count began g.reached in
      let kept = parameters-levels T (is_void_list list) list (entering s.seen.scopes) n.scopes h.1 in
      let more = entered-levels s.seen.scopes in
      let levels : length g.after.seen.scopes.levels ≡ length s.seen.scopes.levels + 1 =
      ap (λ (a : Point). length a.scopes.levels) g.reached.point ∙ (kept ∙ more) in
      let some = here.small.opened in
      let leave = leaves at list g.after (omega (arith, levels, some)) in
      let left_known = (left-judged at list list g.after (outside g.after) g.reached.here.known leave).2.known in
      let fewer = left-levels (length s.seen.scopes.levels) g.after.seen.scopes levels in
      record {
        last = g.after;
        gives = g.gives;
        leaving_gives = leave;
        reached = reached-in T basic (made_by_parameters list) s g.after n (left_behind n) count (leaving g.after.seen.scopes) both left_known refl refl
            (λ o. omega (arith, fewer, some)) g.reached.here.own (ap (λ (a : Point). leaving a.scopes) (sym g.reached.point)) refl;
      }

  pub prototype-given : (at : Place) (parameters : tree.Parameters) → AreParametersGiven T basic few parameters → (list : TypedParameters) (s : State) (n : Point) (count : ℕ) → IsHere T s
      → AreParametersRead T (distinct T basic) (is_void_list list) parameters list (entered (point_at s)) n → AreUses (used_by_parameters T list) (length s.table) count
      → HasRoom T (made_by_parameters list) s → parameters_holds parameters ≤ 256
      → IsGivenAs T (made_by_parameters list) (judge_prototype at parameters s) list s (left_behind n) count
  prototype-given at parameters gp list s n count here h uses room holds =
      let g = list_given at parameters gp list s n count here h uses room holds in
      record { after = outside g.last; gives = judges_prototype at parameters list s g.last g.gives g.leaving_gives; reached = g.reached }

  pub function-part-given : (all : tree.Parts) (paren : Place) (parameters : tree.Parameters) → ArePartsGiven T basic all → AreParametersGiven T basic few parameters
      → ArePartsGiven T basic (tree.AndFunction all paren parameters)
  function-part-given all paren parameters ga gp at y s b count here h uses room holds =
      let i = are_parts T (distinct T basic) (tree.AndFunction all paren parameters) y (point_at s) b h in
      let us =
      uses-first (used_by_parts T i.0) (used_by_parameters T i.1) (length s.table) count (subst (λ (x : TypedParts). AreUses (used_by_parts T x) (length s.table) count) i.7 uses) in
      let rm = subst (λ (x : TypedParts). HasRoom T (made_by_parts x) s) i.7 room in
      let g =
      ga at i.0 s i.2 us.0 here i.4 us.1 (room-first T (made_by_parts i.0) (made_by_parameters i.1) s rm) (max-left (parts_holds all) (parameters_holds parameters) 256 holds) in
      let read : AreParametersRead T (distinct T basic) (is_void_list i.1) parameters i.1 (entered (point_at g.after)) i.3 =
      subst (λ (a : Point). AreParametersRead T (distinct T basic) (is_void_list i.1) parameters i.1 (entered a) i.3) (sym g.reached.point) i.5 in
      let l =
      list_given at parameters gp i.1 g.after i.3 count g.reached.here read (uses-at T basic (used_by_parameters T i.1) (made_by_parts i.0) s g.after i.2 us.0 count g.reached us.2)
      (room-then T (made_by_parts i.0) (made_by_parameters i.1) s g.after rm g.reached.way.spent) (max-right (parts_holds all) (parameters_holds parameters) 256 holds) in
      let whole =
      reached-both T basic (made_by_parts i.0) (made_by_parameters i.1) s g.after (outside l.last) i.2 (left_behind i.3) us.0 count g.reached l.reached in
      subst (λ (x : TypedParts). IsGivenAs T (made_by_parts x) (judge_parts at (tree.AndFunction all paren parameters) s) x s b count) (sym i.7)
      (subst (λ (p : Point). IsGivenAs T (made_by_parts i.0 ++ made_by_parameters i.1) (judge_parts at (tree.AndFunction all paren parameters) s) (typed.AndFunction i.0 paren i.1) s p count) (sym i.6)
      (record { after = outside l.last; gives = judges_function at all paren parameters i.0 i.1 s g.after l.last g.gives l.gives l.leaving_gives; reached = whole }))
