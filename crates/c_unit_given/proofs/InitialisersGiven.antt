-- Initialisers are given.
use Rattle.std.proofs.Common.{◌≡◌, ◌≤◌, ℕ, max, Bool, true, false, not, ◌&&◌, nat_lt, List, [], ◌∷◌, ◌++◌, length, take, Option, Some, None, refl, ap, sym, ◌∙◌, arith}
use Rattle.std.proofs.lemmas.Bool.Decides.{nat_tests}
use Rattle.cc_base.specs.declared.place.Place.{Place}
use Rattle.cc_base.specs.declared.number.NodeId.{NodeId}
use Rattle.cc_base.specs.declared.number.TypeId.{TypeId}
use Rattle.cc_base.specs.declared.fault.Rule.TheVariants as rule
use Rattle.c_types.specs.declared.shape.TypeShape.{TypeShape}
use Rattle.c_types.specs.declared.shape.TypeShape.TheVariants.{Void, Integer, Pointer, Array, Function, Struct, Union}
use Rattle.c_types.specs.Table.{Table, IsComplete, shape_at, is_aggregate_shape}
use Rattle.c_tree.specs.Literals.{pieces_bytes}
use Rattle.c_tree.specs.declared.leaf.StringPiece.{StringPiece}
use Rattle.c_tree.specs.Erasure.{erased, erased_place, erased_initialiser, erased_items}
use Rattle.c_tree.specs.Places.{expr_place}
use Rattle.c_tree.specs.Tree as tree
use Rattle.c_tree.specs.TypedTree as typed
use Rattle.c_tree.specs.TypedTree.{TypedExpr, TypedPlace, TypedInitialiser, TypedItems}
use Rattle.c_tree.specs.TypedParts.{Made, Copy, place_type, item_place, made_by, made_by_place, made_by_initialiser, made_by_items}
use Rattle.c_typing.specs.Cells.{count_cells}
use Rattle.c_typing.specs.Checking.{checked_value}
use Rattle.c_typing.specs.Conversions.{IsAssigned}
use Rattle.c_typing.specs.Judging.{State}
use Rattle.c_typing.specs.Scopes.{Scopes}
use Rattle.c_typing.specs.Settled.{IsBasic, IsKnown}
use Rattle.c_typing.specs.Shapes.{IsScalar, is_scalar_shape}
use Rattle.c_typing.specs.Typing.{IsTyped, IsPlace}
use Rattle.c_typing_laws.proofs.JudgedWhole.{checked_value-judged}
use Rattle.c_typing_unique.proofs.Numbering.{two-parts}
use Rattle.c_typing_unique.proofs.Shapes.{no_true}
use Rattle.c_typing_exact.specs.Passing.{Passes}
use Rattle.c_typing_exact.proofs.Unbroken.{passes_one}
use Rattle.c_cells_kept.proofs.PointersKept.{pointers-most}
use Rattle.c_type_order.specs.TypesUsed.{Use, used_by, used_by_place}
use Rattle.c_typing_given.proofs.AssignmentsGiven.{counting_cells, cells-counted}
use Rattle.c_typing_given.proofs.Settling.{small-kept}
use Rattle.c_typing_given.proofs.TypeGiven.{none-same}
use Rattle.c_unit_rules_alike.proofs.InitialiserRules.{constant-over, char_count-over, item_slot-over}
use Rattle.c_unit_typing.specs.Holding.{initialiser_holds, items_holds}
use Rattle.c_unit_typing.specs.Initialisers.{Slot, char_count_of_shape, items_count, is_constant, is_constant_initialiser, are_constant_items, IsText, IsSlot, IsItemFor, IsInitialiser, AreItems}
use Rattle.c_unit_typing.specs.InitialiserJudging.{text_tests, text, initialised, constant_tests, value_for, value_or_text, judge_plain, item_slot, slot_type, with_item, judge_initialiser, judge_items}
use Rattle.c_unit_typing.specs.Units.{Known, with_scopes}
use Rattle.c_unit_typing.specs.UnitJudged.{state_of}
use Rattle.c_unit_typing.specs.UnitJudging.{UnitState, Gives, known, known_of, pure, obeying, by_known, lifted, ◌>>=◌}
use Rattle.c_unit_typing.proofs.JudgedInitialisers.{slot_is}
use Rattle.c_unit_typing.proofs.KeptInitialisers.{complete-in, complete-kept, slot-complete}
use Rattle.c_unit_typing.proofs.UnitOutcomes.{lifted-gives}
use Rattle.c_unit_given.proofs.UnitGiven.{IsUnitHere, IsRun, IsKept, Nothing, And, AreScopesKept, AreExpressionsGiven}
use Rattle.c_unit_typing.specs.TypesUsed.{used_by_initialiser, used_by_items}
use Rattle.c_unit_given.proofs.Runs.{then-is, obeying-is, lifted-is, Among, run-then, run-last, run-first, run-as, run-none, run-lifted}
use Rattle.c_unit_given.proofs.UnitRoom.{unit-room-first, unit-room-then, unit-spent-both}

is_unread : TypedExpr → Bool
is_unread (typed.Unread p) = true
is_unread e = false

initialised-value : (at : Place) (e : TypedExpr) (s : UnitState) → is_unread e ≡ false → initialised at e s ≡ Gives (typed.Value e) s
unfolding initialised is_unread
initialised-value at (typed.Unread p) s h = no_true (sym h)
initialised-value at e s h = refl

-- no struct is assigned to a scalar
assigned-read : (T : Table) (s : Scopes) (at : Place) (t : TypeId) (e : TypedExpr) → IsAssigned T s at t e → is_unread e ≡ false
unfolding is_unread
assigned-read T s at t (typed.Unread p) h = no_true h.plain
assigned-read T s at t e h = refl

no_text : (constant : Bool) (at : Place) (t : TypeId) (e : tree.Expr) (s : UnitState) → value_or_text constant at t e None s ≡ value_for constant at t e s
unfolding value_or_text
no_text constant at t (tree.String pieces) s = refl
no_text constant at t e s = refl

pub no-chars : (T : Table) (x : TypeShape) → is_scalar_shape x ≡ true → char_count_of_shape T x ≡ None
no-chars T (Integer bytes signed) h = refl
no-chars T (Pointer n t) h = refl
no-chars T Void h = refl
no-chars T (Array t n) h = no_true h
no-chars T (Function ps r) h = refl
no-chars T (Struct n) h = refl
no-chars T (Union n) h = refl

pub no-chars-struct : (T : Table) (x : TypeShape) → is_aggregate_shape x ≡ true → char_count_of_shape T x ≡ None
no-chars-struct T (Struct n) h = refl
no-chars-struct T (Union n) h = refl
no-chars-struct T (Integer bytes signed) h = refl
no-chars-struct T (Pointer n t) h = refl
no-chars-struct T Void h = refl
no-chars-struct T (Array t n) h = no_true h
no-chars-struct T (Function ps r) h = refl

and_not_false : (a b : Bool) → (a ≡ true → b ≡ true) → (a && not b) ≡ false
and_not_false true b h = ap not (h refl)
and_not_false false b h = refl

and_left : (a b : Bool) → (a && b) ≡ true → a ≡ true
and_left true b h = refl
and_left false b h = h

and_right : (a b : Bool) → (a && b) ≡ true → b ≡ true
and_right true b h = h
and_right false b h = no_true h

never : {P : Type 0} (c : Bool) → (c ≡ true → false ≡ true) → c ≡ true → P
never c h q = no_true (h q)

pub left-held : (a b n : ℕ) → max a b ≤ n → a ≤ n
left-held a b n h = omega (arith, h)

pub right-held : (a b n : ℕ) → max a b ≤ n → b ≤ n
right-held a b n h = omega (arith, h)

module _ (T : Table) (basic : IsBasic T) (exprs : AreExpressionsGiven T) (scopes : AreScopesKept T) where
  abbrev pub IsWhole : TypeId → Table → Type 0
  IsWhole t J = IsComplete J t

  pub whole-kept : (t : TypeId) → IsKept (IsWhole t)
  whole-kept t J U x b h = complete-kept J U x b t h

  -- an initialiser of the type; `constant` says that it has to be constant
  abbrev pub IsInitialising : Bool → TypedInitialiser → Place → TypeId → Known → Known → Type 0
  IsInitialising constant i at t k k' = Among (IsInitialiser T i at t) k k' × (constant ≡ true → is_constant_initialiser T k.statics i ≡ true)

  abbrev pub AreInitialising : Bool → TypedItems → Bool → TypeId → Known → Known → Type 0
  AreInitialising constant list text t k k' = Among (AreItems T list text t) k k' × (constant ≡ true → are_constant_items T k.statics list ≡ true)

  -- Values

  module _ (constant : Bool) (at : Place) (t : TypeId) where
    needs_type : (s : State) → IsComplete s.table t → Rattle.c_types.specs.Table.IsType s.table t
    needs_type s c = complete-in s.table t c

    -- a value is constant where it has to be
    constant_passes : (begin : Place) (e : TypedExpr) (homes : List NodeId) (s0 : Scopes) (r : UnitState) → IsUnitHere T r → IsTyped r.table e s0 r.seen.scopes
        → (constant ≡ true → is_constant T homes e ≡ true) → Passes (constant_tests r.table constant homes begin e)
    constant_passes begin e homes s0 r here j h =
        passes_one rule.NotConstant begin (constant && not (is_constant r.table homes e))
        (and_not_false constant (is_constant r.table homes e)
        (λ q. constant-over r.table T here.here.first here.here.known.basic homes e s0 r.seen.scopes j ∙ h q))

    pub value-run : (e : TypedExpr) → IsScalar T t → initialiser_holds (tree.Value (erased e)) ≤ 256
        → IsRun T (IsWhole t) Nothing (IsInitialising constant (typed.Value e) at t) (made_by e) (used_by T e) (value_for constant at t (erased e)) (typed.Value e)
    unfolding value_for
    value-run e scalar holds s k n count here c h numbers uses room =
        let assigned = h.0.1.2 in
        let one =
        run-lifted T (IsWhole t) Nothing (λ a b. IsTyped T e a b × IsAssigned T b at t e) (made_by e) (used_by T e) _ (checked_value t at true (erased e)) e
        (λ x y w. scopes.value e x y w.0) (exprs.initial t at e scalar holds) (λ q w. needs_type q w) (λ q r y w g. tt) s k n count here c (h.0.0, (h.0.1.0, assigned), h.0.2) numbers uses room in
        let r : UnitState = one.after in
        let l = lifted-gives (checked_value t at true (erased e)) e s r one.gives in
        let j = checked_value-judged t at true (erased e) e (state_of s) (state_of r) here.here.known (complete-in s.table t c) l.0 in
        let homes : r.linkage.statics ≡ s.linkage.statics = ap (λ (x : _). x.statics) l.1 in
        let pass = constant_passes (expr_place (erased e)) e r.linkage.statics s.seen.scopes r one.reached.here j.typed (λ q. ap (λ (x : List NodeId). is_constant T x e) homes ∙ h.1 q) in
        record {
          after = r;
          gives = then-is (lifted (checked_value t at true (erased e)))
              (λ v. obeying (λ (q : UnitState). constant_tests q.table constant q.linkage.statics (expr_place (erased e)) v) (initialised at v)) e s r (Gives (typed.Value e) r) one.gives
              (obeying-is (λ (q : UnitState). constant_tests q.table constant q.linkage.statics (expr_place (erased e)) e) (initialised at e) r (Gives (typed.Value e) r) pass
              (initialised-value at e r (assigned-read T h.0.0 at t e assigned)));
          reached = one.reached;
          gains = tt;
        }

    -- a struct is copied, and its pointers are counted
    pub copied-run : (p : TypedPlace) → is_aggregate_shape (shape_at T (place_type p)) ≡ true → Rattle.c_types.specs.Sameness.IsSameType T t (place_type p) → initialiser_holds (tree.Value (erased_place p)) ≤ 256
        → IsRun T (IsWhole t) Nothing (IsInitialising constant (typed.Copied p at) at t) (made_by_place p ++ Copy (place_type p) ∷ []) (used_by_place T p) (value_for constant at t (erased_place p))
        (typed.Copied p at)
    unfolding value_for initialised
    copied-run p aggregate same holds s k n count here c h numbers uses room =
        let u : TypeId = place_type p in
        let cut = two-parts (made_by_place p) (Copy u ∷ []) s.seen.node n numbers in
        let one =
        run-lifted T (IsWhole t) Nothing (IsPlace T p) (made_by_place p) (used_by_place T p) _ (checked_value t at true (erased_place p)) (typed.Unread p)
        (λ x y w. scopes.place p x y w) (exprs.copied t at p aggregate same holds) (λ q w. needs_type q w) (λ q r y w g. tt) s k cut.0 count here c (h.0.0, h.0.1.0, h.0.2) cut.1 uses (unit-room-first T (made_by_place p) (Copy u ∷ []) s room) in
        let r : UnitState = one.after in
        let l = lifted-gives (checked_value t at true (erased_place p)) (typed.Unread p) s r one.gives in
        let j = checked_value-judged t at true (erased_place p) (typed.Unread p) (state_of s) (state_of r) here.here.known (complete-in s.table t c) l.0 in
        let pass = constant_passes (expr_place (erased_place p)) (typed.Unread p) r.linkage.statics s.seen.scopes r one.reached.here j.typed (λ q. no_true (h.1 q)) in
        let known_there = one.reached.here.here in
        let most = pointers-most r.table T known_there.first known_there.known.basic.formed u in
        let rest = (unit-room-then T (made_by_place p) (Copy u ∷ []) s r room one.reached.spent).cells in
        let counted : State = counting_cells u (state_of r) in
        let after : UnitState = known counted.table counted.seen r.linkage in
        let all_known : IsKnown (state_of after) =
        record { basic = known_there.known.basic; followed = known_there.known.followed; levels = known_there.known.levels; numbered = known_there.known.numbered } in
        record {
          after = after;
          gives = then-is (lifted (checked_value t at true (erased_place p)))
              (λ v. obeying (λ (q : UnitState). constant_tests q.table constant q.linkage.statics (expr_place (erased_place p)) v) (initialised at v)) (typed.Unread p) s r (Gives (typed.Copied p at) after) one.gives
              (obeying-is (λ (q : UnitState). constant_tests q.table constant q.linkage.statics (expr_place (erased_place p)) (typed.Unread p)) (initialised at (typed.Unread p)) r
              (Gives (typed.Copied p at) after) pass
              (then-is (lifted (count_cells at u)) (λ w. pure (typed.Copied p at)) u r after (Gives (typed.Copied p at) after)
              (lifted-is (count_cells at u) u r counted (cells-counted at u (state_of r) (omega (arith, most, rest)))) refl));
          reached = record {
            here = record {
              here = record { known = all_known; first = known_there.first; small = small-kept (state_of r) (state_of after) known_there.small refl refl (omega arith) (λ p. p) (none-same r.table); own = known_there.own };
              unit = record { known = all_known; linked = one.reached.here.unit.linked };
              open_ = one.reached.here.open_;
              homes = one.reached.here.homes;
            };
            grown = one.reached.grown;
            known = one.reached.known;
            node = one.reached.node ∙ sym cut.2;
            types = one.reached.types;
            outer = one.reached.outer;
            spent = unit-spent-both T (made_by_place p) (Copy u ∷ []) s r after one.reached.spent (record { nodes = omega arith; globals = omega arith; cells = omega (arith, most) });
          };
          gains = tt;
        }

    -- without a count of characters it is a value
    plain_none : (e : tree.Expr) (s : UnitState) → IsUnitHere T s → IsComplete s.table t → char_count_of_shape T (shape_at T t) ≡ None
        → judge_plain constant e at (Some t) s ≡ value_for constant at t e s
    unfolding judge_plain
    plain_none e s here c q =
        ap (λ (o : Option ℕ). value_or_text constant at t e o s) (char_count-over s.table T here.here.first here.here.known.basic t (complete-in s.table t c) ∙ q)
        ∙ no_text constant at t e s

    pub plain-run : (e : tree.Expr) (i : TypedInitialiser) (made : List Made) (us : List Use) → char_count_of_shape T (shape_at T t) ≡ None
        → IsRun T (IsWhole t) Nothing (IsInitialising constant i at t) made us (value_for constant at t e) i
        → IsRun T (IsWhole t) Nothing (IsInitialising constant i at t) made us (judge_plain constant e at (Some t)) i
    plain-run e i made us q p s k n count here c h numbers uses room =
        let one = p s k n count here c h numbers uses room in
        record { after = one.after; gives = plain_none e s here c q ∙ one.gives; reached = one.reached; gains = tt }

    -- a text
    text_is : (pieces : List StringPiece) (bytes : List ℕ) (o : Option ℕ) → char_count_of_shape T (shape_at T t) ≡ o → IsText o (pieces_bytes pieces) bytes → (s : UnitState) → IsUnitHere T s
        → IsComplete s.table t → judge_plain constant (tree.String pieces) at (Some t) s ≡ Gives (typed.Text pieces bytes) s
    unfolding judge_plain value_or_text text
    text_is pieces bytes None q h s here c = absurd h
    text_is pieces bytes (Some count) q h s here c =
        let short = h.0 in
        let fits : nat_lt count (length (pieces_bytes pieces)) ≡ false = not_longer count (length (pieces_bytes pieces)) short in
        ap (λ (o : Option ℕ). value_or_text constant at t (tree.String pieces) o s) (char_count-over s.table T here.here.first here.here.known.basic t (complete-in s.table t c) ∙ q)
        ∙ obeying-is (λ (r : UnitState). text_tests at count pieces) (pure (typed.Text pieces (take count (pieces_bytes pieces ++ 0 ∷ [])))) s (Gives (typed.Text pieces bytes) s)
        (passes_one rule.Mismatch at (nat_lt count (length (pieces_bytes pieces))) fits) (ap (λ (w : List ℕ). Gives (typed.Text pieces w) s) (sym h.1))
      where
        not_longer : (a b : ℕ) → b ≤ a → nat_lt a b ≡ false
        not_longer a b h = grind (arith, nat_tests)

    pub text-run : (pieces : List StringPiece) (bytes : List ℕ)
        → IsRun T (IsWhole t) Nothing (IsInitialising constant (typed.Text pieces bytes) at t) [] [] (judge_plain constant (tree.String pieces) at (Some t)) (typed.Text pieces bytes)
    text-run pieces bytes s k n count here c h numbers uses room =
        run-none T (IsWhole t) Nothing (judge_plain constant (tree.String pieces) at (Some t)) (typed.Text pieces bytes)
        (λ q there w. (text_is pieces bytes (char_count_of_shape T (shape_at T t)) refl h.0.1.1 q there w, tt)) s k n count here c
        (h.0.2 ∙ ap (with_scopes (known_of s)) h.0.1.0) numbers uses room

  -- Braces

  abbrev pub IsInitialiserRun : TypedInitialiser → Type 0
  IsInitialiserRun i =
      (constant : Bool) (at : Place) (t : TypeId) (single : Bool) → IsItemFor single i → initialiser_holds (erased_initialiser i) ≤ 256
      → IsRun T (IsWhole t) Nothing (IsInitialising constant i at t) (made_by_initialiser i) (used_by_initialiser T i) (judge_initialiser constant (erased_initialiser i) at (Some t) single) i

  abbrev pub AreItemsRun : TypedItems → Type 0
  AreItemsRun list =
      (constant text : Bool) (t : TypeId) → items_holds (erased_items list) ≤ 256
      → IsRun T (IsWhole t) Nothing (AreInitialising constant list text t) (made_by_items list) (used_by_items T list) (judge_items constant (erased_items list) text t) list

  pub no-item-run : AreItemsRun typed.NoItem
  unfolding judge_items
  no-item-run constant text t holds s k n count here c h numbers uses room =
      run-none T (IsWhole t) Nothing (judge_items constant tree.NoItem text t) typed.NoItem (λ q there w. (refl, tt)) s k n count here c
      (h.0.2 ∙ ap (with_scopes (known_of s)) h.0.1) numbers uses room

  slot_as : (text : Bool) (t : TypeId) (i offset : ℕ) (u : TypeId) → IsSlot text T t i offset u → item_slot T text t i ≡ Some (record { offset = offset; type = u })
  slot_as true t i offset u h = (λ j. Some (record { offset = (sym h.0) j; type = (sym h.1) j }))
  slot_as false t i offset u h = h

  pub item-run : (all : TypedItems) (offset : ℕ) (u : TypeId) (i : TypedInitialiser) → AreItemsRun all → IsInitialiserRun i → AreItemsRun (typed.AndItem all offset u i)
  unfolding judge_items with_item
  item-run all offset u i pa pi constant text t holds s k n count here c h numbers uses room =
      let typed_here = h.0.1 in
      let slot : Slot = record { offset = offset; type = u } in
      let single : Bool = is_scalar_shape (shape_at T t) in
      let few = right-held (items_holds (erased_items all)) (initialiser_holds (erased_initialiser i)) 256 holds in
      let more = left-held (items_holds (erased_items all)) (initialiser_holds (erased_initialiser i)) 256 holds in
      let place : Place = item_place i in
      let last : IsRun T (And (And (And (IsWhole t) Nothing) (IsWhole u)) Nothing) Nothing (IsInitialising constant i place u) (made_by_initialiser i) (used_by_initialiser T i)
      (judge_initialiser constant (erased_initialiser i) place (Some u) single >>= (λ one. with_item all (Some slot) one)) (typed.AndItem all offset u i) =
      run-as T (IsWhole u) (And (And (And (IsWhole t) Nothing) (IsWhole u)) Nothing) Nothing Nothing (IsInitialising constant i place u) (IsInitialising constant i place u) (made_by_initialiser i)
      (used_by_initialiser T i) (judge_initialiser constant (erased_initialiser i) place (Some u) single >>= (λ one. with_item all (Some slot) one)) (typed.AndItem all offset u i)
      (λ J w. w.0.1) (λ J w. w) (λ a b w. w)
      (run-last T (IsWhole u) Nothing Nothing (whole-kept u) (IsInitialising constant i place u) (made_by_initialiser i) (used_by_initialiser T i)
      (judge_initialiser constant (erased_initialiser i) place (Some u) single) (λ one. with_item all (Some slot) one) i (typed.AndItem all offset u i) (pi constant place u single typed_here.4 few)
      (λ r there w v. (refl, tt))) in
      let scalar : (q : UnitState) → IsUnitHere T q → IsComplete q.table t → is_scalar_shape (shape_at q.table t) ≡ single =
      λ q there w. ap is_scalar_shape (sym (there.here.first.shapes t (complete-in q.table t w))) in
      let slots : (q : UnitState) → IsUnitHere T q → IsComplete q.table t → item_slot q.table text t (items_count all) ≡ Some slot =
      λ q there w. item_slot-over q.table T there.here.first there.here.known.basic text t (items_count all) w ∙ slot_as text t (items_count all) offset u typed_here.3 in
      let middle : IsRun T (And (And (IsWhole t) Nothing) (IsWhole u)) Nothing (IsInitialising constant i place u) (made_by_initialiser i) (used_by_initialiser T i)
      (by_known (λ q. pure (is_scalar_shape (shape_at q.table t))) >>= (λ one. judge_initialiser constant (erased_initialiser i) place (Some u) one >>= (λ v. with_item all (Some slot) v)))
      (typed.AndItem all offset u i) =
      run-first T (And (And (IsWhole t) Nothing) (IsWhole u)) Nothing Nothing (IsInitialising constant i place u) (made_by_initialiser i) (used_by_initialiser T i)
      (by_known (λ q. pure (is_scalar_shape (shape_at q.table t)))) (λ one. judge_initialiser constant (erased_initialiser i) place (Some u) one >>= (λ v. with_item all (Some slot) v)) single
      (typed.AndItem all offset u i) (λ q there w. (ap (λ (b : Bool). Gives b q) (scalar q there w.0.0), tt)) last in
      let rest : IsRun T (And (IsWhole t) Nothing) Nothing (IsInitialising constant i place u) (made_by_initialiser i) (used_by_initialiser T i)
      (by_known (λ q. pure (item_slot q.table text t (items_count all))) >>= (λ o. by_known (λ q. pure (is_scalar_shape (shape_at q.table t)))
      >>= (λ one. judge_initialiser constant (erased_initialiser i) place (slot_type o) one >>= (λ v. with_item all o v))))
      (typed.AndItem all offset u i) =
      run-first T (And (IsWhole t) Nothing) (IsWhole u) Nothing (IsInitialising constant i place u) (made_by_initialiser i) (used_by_initialiser T i)
      (by_known (λ q. pure (item_slot q.table text t (items_count all))))
      (λ o. by_known (λ q. pure (is_scalar_shape (shape_at q.table t))) >>= (λ one. judge_initialiser constant (erased_initialiser i) place (slot_type o) one >>= (λ v. with_item all o v))) (Some slot)
      (typed.AndItem all offset u i)
      (λ q there w. (
        ap (λ (o : Option Slot). Gives o q) (slots q there w.0),
        slot-complete q.table there.here.known.basic text t (items_count all) offset u w.0 (slot_is q.table text t (items_count all) slot (slots q there w.0)),
      )) middle in
      run-then T (IsWhole t) Nothing Nothing (whole-kept t) (AreInitialising constant all text t) (IsInitialising constant i place u) (made_by_items all) (made_by_initialiser i)
      (used_by_items T all) (used_by_initialiser T i) (judge_items constant (erased_items all) text t)
      (λ list. by_known (λ q. pure (item_slot q.table text t (items_count list))) >>= (λ o. by_known (λ q. pure (is_scalar_shape (shape_at q.table t)))
      >>= (λ one. judge_initialiser constant (erased_initialiser i) place (slot_type o) one >>= (λ v. with_item list o v))))
      all (typed.AndItem all offset u i) (pa constant text t more) rest s k n count here c (
        with_scopes (known_of s) typed_here.0,
        ((typed_here.0, typed_here.1, refl), λ q. and_left (are_constant_items T s.linkage.statics all) (is_constant_initialiser T s.linkage.statics i) (h.1 q)),
        ((h.0.0, typed_here.2, h.0.2), λ q. and_right (are_constant_items T s.linkage.statics all) (is_constant_initialiser T s.linkage.statics i) (h.1 q)),
      )
      numbers uses room
