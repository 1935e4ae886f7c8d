-- Calls are given, with their arguments.
use Rattle.std.proofs.Common.{◌≡◌, ◌≤◌, ◌+◌, ℕ, max, Bool, true, false, List, [], ◌∷◌, ◌++◌, length, map, None, refl, ap, sym, subst, ◌∙◌, inl, inr, ◌⊎◌, arith}
use Rattle.std.specs.List.{AllZip}
use Rattle.std.proofs.lemmas.List.{map-append, length-append}
use Rattle.cc_base.specs.declared.place.Place.{Place}
use Rattle.c_types.specs.Table.{Table}
use Rattle.c_tree.specs.declared.typed_word.Runtime.{Runtime}
use Rattle.c_tree.specs.Tree as tree
use Rattle.c_tree.specs.TypedTree as typed
use Rattle.c_tree.specs.TypedTree.{TypedExpr, TypedArguments}
use Rattle.c_tree.specs.TypedParts.{Made, made_by, made_by_arguments}
use Rattle.c_typing.specs.Assignments.{call, called, arguments_held}
use Rattle.c_typing.specs.Conversions.{bare, is_taken_over}
use Rattle.c_typing.specs.Held.{held, held_with, held_by_arguments, count_of}
use Rattle.c_typing.specs.Judging.{State, Outcome, Gives, next, ◌>>=◌, pure, by_known}
use Rattle.c_typing.specs.Operands.{Operand, Value, value, argument_of}
use Rattle.c_typing.specs.Rules.{IsRuntimeCallOf, runtime_named, listed_arguments}
use Rattle.c_typing.specs.Settled.{IsBasic, IsAlike}
use Rattle.c_typing.specs.Tests.{Elaborated, AsValue, AsAllocation, Argument, first_broken, call_tests}
use Rattle.c_typing.specs.Walks.{judge, judge_arguments}
use Rattle.c_typing_laws.specs.Numbers.{made_by_part}
use Rattle.c_typing_laws.proofs.ExtensionLaws.{extended_refl}
use Rattle.c_typing_laws.proofs.JudgedTrees.{arguments-judged}
use Rattle.c_typing_laws.proofs.ValuesTaken.{natural-no_allocation}
use Rattle.c_typing_unique.specs.Points.{Point, IsRead}
use Rattle.c_typing_unique.proofs.CallLaws.{ArePlain, IsCalled, function, runtime, allocation, taken, called-plain, called-over}
use Rattle.c_typing_unique.proofs.Reading.{OfValue}
use Rattle.c_typing_unique.proofs.Readings.{AreRead, Both}
use Rattle.c_typing_unique.proofs.Shapes.{no_true}
use Rattle.c_typing_unique.proofs.SpecifierSteps.{are_arguments}
use Rattle.c_typing_exact.specs.Numbered.{IsElaboratedAt}
use Rattle.c_typing_exact.specs.Passing.{Passes, AreAlike}
use Rattle.c_typing_exact.proofs.CallPasses.{call-passes, runtime-call-passes}
use Rattle.c_typing_exact.proofs.SameParts.{distinct}
use Rattle.c_rules_alike.proofs.CallRules.{call-over}
use Rattle.c_rules_alike.proofs.PartsThere.{part_there-kept, values-there}
use Rattle.c_type_order.specs.Uses.{used_by_part}
use Rattle.c_typing_given.specs.Given.{point_at, IsHere, IsOnWay, IsReached, IsPartGiven, IsGiven}
use Rattle.c_unit_typing.specs.Holding.{expr_holds, arguments_holds}
use Rattle.c_typing_given.specs.Spending.{HasRoom}
use Rattle.c_type_order.specs.TypesUsed.{AreUses, used_by, used_by_arguments, Use}
use Rattle.c_typing_given.proofs.Constructing.{part-value, as-value, as-block, of-part, finish, uses-as, room-as, uses-at, alike-as, reached-both, plain-given, max-left, max-right}
use Rattle.c_typing_given.proofs.OperatorsGiven.{then-again, stay}
use Rattle.c_typing_given.proofs.Settling.{of_part}
use Rattle.c_typing_given.proofs.Spent.{room-first, room-then}
use Rattle.c_typing_given.proofs.Steps.{then-is, construct-is, operand_with}
use Rattle.c_typing_given.proofs.ValuesGiven.{uses-first, value-given}

judges_call : (at_call : Bool) (x : tree.Expr) (at : Place) (xs : tree.Arguments) (f : Value) (values : List Value) (s k r : State) (o : Outcome Operand) → next (judge true x s) value ≡ Gives f k
    → judge_arguments xs k ≡ Gives values r → call f at values r ≡ o → judge at_call (tree.Call x at xs) s ≡ o
unfolding judge
judges_call at_call x at xs f values s k r o h j l =
    sym (then-again (judge true x s) value (λ g. judge_arguments xs >>= (λ list. call g at list)))
    ∙ then-is (judge true x >>= value) (λ g. judge_arguments xs >>= (λ list. call g at list)) f s k o h
    (then-is (judge_arguments xs) (λ list. call f at list) values k r o j l)

judges_none : (s : State) → judge_arguments tree.NoArgument s ≡ Gives [] s
unfolding judge_arguments
judges_none s = refl

judges_more : (xs : tree.Arguments) (x : tree.Expr) (values : List Value) (v : Value) (s k r : State) → judge_arguments xs s ≡ Gives values k → next (judge false x k) value ≡ Gives v r
    → judge_arguments (tree.AndArgument xs x) s ≡ Gives (values ++ v ∷ []) r
unfolding judge_arguments
judges_more xs x values v s k r h j =
    then-is (judge_arguments xs) (λ list. (judge false x >>= value) >>= (λ w. pure (list ++ w ∷ []))) values s k (Gives (values ++ v ∷ []) r) h
    (then-is (judge false x >>= value) (λ w. pure (values ++ w ∷ [])) v k r (Gives (values ++ v ∷ []) r) j refl)

call_is : (f : Value) (at : Place) (values : List Value) (r : State) → first_broken (call_tests r.table at (AsValue f.expr) (map argument_of values)) ≡ None
    → held_with 0 (max f.held (arguments_held 1 values) ∷ []) ≤ 256
    → call f at values r ≡ Gives (operand_with f.place (called r.table f.expr at values (runtime_named f.expr)) (held_with 0 (max f.held (arguments_held 1 values) ∷ []))) r
unfolding call
call_is f at values r pass few =
    construct-is (λ s. call_tests s.table at (AsValue f.expr) (map argument_of values)) f.place (max f.held (arguments_held 1 values) ∷ [])
    (by_known (λ s. pure (called s.table f.expr at values (runtime_named f.expr)))) r r (called r.table f.expr at values (runtime_named f.expr)) pass few refl

-- What arguments hold

held_last : (i : ℕ) (vs : List Value) (v : Value) → arguments_held i (vs ++ v ∷ []) ≤ max (arguments_held i vs) (max (i + length vs + v.held) (i + length vs + 2))
held_last i [] v = omega arith
held_last i (w ∷ vs) v = let h = held_last (i + 1) vs v in omega (arith, h)

pub record AreWithin (xs : tree.Arguments) (values : List Value) : Type 0 where
  pub many : length values ≡ count_of xs
  pub most : arguments_held 1 values ≤ max (held_by_arguments xs) (count_of xs + 2)

within_last : (xs : tree.Arguments) (x : tree.Expr) (values : List Value) (v : Value) → AreWithin xs values → v.held ≡ held x → AreWithin (tree.AndArgument xs x) (values ++ v ∷ [])
within_last xs x values v h k =
    let n = h.many in
    let m = h.most in
    let l = held_last 1 values v in
    record { many = omega (arith, n, length-append values (v ∷ [])); most = omega (arith, n, m, l, k) }

zip_last : {A B : Type 0} (R : A → B → Type 0) (xs : List A) (ys : List B) (x : A) (y : B) → AllZip R xs ys → R x y → AllZip R (xs ++ x ∷ []) (ys ++ y ∷ [])
zip_last R [] [] x y h k = (k, tt)
zip_last R [] (z ∷ ys) x y h k = absurd h
zip_last R (z ∷ xs) [] x y h k = absurd h
zip_last R (z ∷ xs) (w ∷ ys) x y h k = (h.0, zip_last R xs ys x y h.1 k)

module _ (T : Table) (basic : IsBasic T) where
  -- arguments are given, one after another
  pub record AreArgumentsGiven (xs : tree.Arguments) (list : TypedArguments) (s : State) (b : Point) (count : ℕ) : Type 0 where
    pub values : List Value
    pub after : State
    pub gives : judge_arguments xs s ≡ Gives values after
    pub alike : AreAlike T (map argument_of values) (listed_arguments list)
    pub within : AreWithin xs values
    pub reached : IsReached T (made_by_arguments list) s after b count

  abbrev pub AreGiven : tree.Arguments → Type 0
  AreGiven xs =
      (list : TypedArguments) (s : State) (b : Point) (count : ℕ) → IsHere T s → AreRead T xs list (point_at s) b → ArePlain list → AreUses (used_by_arguments T list) (length s.table) count
      → HasRoom T (made_by_arguments list) s → arguments_holds xs ≤ 256 → AreArgumentsGiven xs list s b count

  -- where nothing was made
  pub reached-none : (s : State) (b : Point) (count : ℕ) → IsHere T s → b ≡ point_at s → AreUses [] (length s.table) count → IsReached T [] s s b count
  reached-none s b count here p uses = record {
    here = here;
    grown = extended_refl s.table;
    point = sym p;
    way = stay T basic s count here uses;
  }

  pub reached-as : (xs ys : List Made) (s r : State) (b : Point) (count : ℕ) → xs ≡ ys → IsReached T xs s r b count → IsReached T ys s r b count
  reached-as xs ys s r b count q h = subst (λ (made : List Made). IsReached T made s r b count) q h

  pub no-argument-given : AreGiven tree.NoArgument
  no-argument-given list s b count here h plain uses room holds =
      let left = are_arguments T (distinct T basic) tree.NoArgument list (point_at s) b h in
      let none = subst (λ (l : TypedArguments). AreUses (used_by_arguments T l) (length s.table) count) left.0 uses in
      record {
        values = [];
        after = s;
        gives = judges_none s;
        alike = subst (λ (l : TypedArguments). AreAlike T [] (listed_arguments l)) (sym left.0) tt;
        within = record { many = refl; most = omega arith };
        reached = reached-as [] (made_by_arguments list) s s b count (ap made_by_arguments (sym left.0)) (reached-none s b count here left.1 none);
      }

  pub argument-given : (xs : tree.Arguments) (x : tree.Expr) → AreGiven xs → IsGiven T x → AreGiven (tree.AndArgument xs x)
  argument-given xs x gxs gx list s b count here h plain uses room holds =
      let left = are_arguments T (distinct T basic) (tree.AndArgument xs x) list (point_at s) b h in
      let all : TypedArguments = left.0 in
      let e : TypedExpr = left.1 in
      let plains = subst ArePlain left.3 plain in
      let us = uses-first (used_by_arguments T left.0) (used_by T left.1) (length s.table) count (subst (λ (l : TypedArguments). AreUses (used_by_arguments T l) (length s.table) count) left.3 uses) in
      let rm = subst (λ (l : TypedArguments). HasRoom T (made_by_arguments l) s) left.3 room in
      let g =
      gxs left.0 s left.2.0 us.0 here left.2.1 plains.0 us.1 (room-first T (made_by_arguments left.0) (made_by left.1) s rm) (max-left (arguments_holds xs) (expr_holds x) 256 holds) in
      let read : IsRead T x left.1 (point_at g.after) b = subst (λ (a : Point). IsRead T x left.1 a b) (sym g.reached.point) left.2.2 in
      let d =
      plain-given T basic x gx left.1 g.after b count g.reached.here read plains.1 (uses-at T basic (used_by T left.1) (made_by_arguments left.0) s g.after left.2.0 us.0 count g.reached us.2)
      (room-then T (made_by_arguments left.0) (made_by left.1) s g.after rm g.reached.way.spent) (max-right (arguments_holds xs) (expr_holds x) 256 holds) in
      record {
        values = g.values ++ d.value ∷ [];
        after = d.after;
        gives = judges_more xs x g.values d.value s g.after d.after g.gives d.gives;
        alike =
            subst (λ (every : List Argument). AreAlike T every (listed_arguments list)) (sym (map-append argument_of g.values (d.value ∷ [])))
            (subst (λ (l : TypedArguments). AreAlike T (map argument_of g.values ++ argument_of d.value ∷ []) (listed_arguments l)) (sym left.3)
            (zip_last (λ (a : Argument) (f : TypedExpr). IsAlike T a.part (bare f)) (map argument_of g.values) (listed_arguments left.0) (argument_of d.value) left.1 g.alike
            (alike-as T basic d.value.expr (bare left.1) d.same)));
        within = within_last xs x g.values d.value g.within d.held;
        reached = reached-as (made_by_arguments left.0 ++ made_by left.1) (made_by_arguments list) s d.after b count (ap made_by_arguments (sym left.3))
            (reached-both T basic (made_by_arguments left.0) (made_by left.1) s g.after d.after left.2.0 b us.0 count g.reached d.reached);
      }

  -- Calls

  module _ (x : tree.Expr) (at : Place) (xs : tree.Arguments) (gx : IsGiven T x) (gxs : AreGiven xs) (at_call : Bool) (z : Elaborated) (s : State) (b : Point) (count : ℕ) (here : IsHere T s)
      (h : IsElaboratedAt T (tree.Call x at xs) z (point_at s) b) (uses : AreUses (used_by_part T z) (length s.table) count) (room : HasRoom T (made_by_part z) s)
      (holds : expr_holds (tree.Call x at xs) ≤ 256) where
    call_by : (e : TypedExpr) (list : TypedArguments) (m : Point) (u : Elaborated) → Both (IsRead T x e) (AreRead T xs list) (point_at s) m → bare e ≡ e → is_taken_over (bare e) ≡ false → ArePlain list
        → z ≡ u → used_by_part T u ≡ used_by T e ++ used_by_arguments T list → made_by_part u ≡ made_by e ++ made_by_arguments list
        → ((f : TypedExpr) (all : List Argument) → f ≡ bare e → AreAlike T all (listed_arguments list) → Passes (call_tests T at (AsValue f) all))
        → IsPartGiven T at_call (tree.Call x at xs) z s b count
    call_by e list m u both own over plain q used made passes =
        let us =
        uses-first (used_by T e) (used_by_arguments T list) (length s.table) count
        (subst (λ (all : List Use). AreUses all (length s.table) count) used (uses-as T basic z u (length s.table) count q uses)) in
        let rm = subst (λ (all : List Made). HasRoom T all s) made (room-as T basic z u s q room) in
        let rest = max-right (held (tree.Call x at xs)) (max (expr_holds x) (arguments_holds xs)) 256 holds in
        let g =
        value-given T basic x gx true e s both.0 us.0 here both.1 over (max-left (expr_holds x) (arguments_holds xs) 256 rest) (λ f. no_true (sym f)) us.1
        (room-first T (made_by e) (made_by_arguments list) s rm) in
        let read : AreRead T xs list (point_at g.after) m = subst (λ (a : Point). AreRead T xs list a m) (sym g.reached.point) both.2 in
        let d =
        gxs list g.after m count g.reached.here read plain (uses-at T basic (used_by_arguments T list) (made_by e) s g.after both.0 us.0 count g.reached us.2)
        (room-then T (made_by e) (made_by_arguments list) s g.after rm g.reached.way.spent) (max-right (expr_holds x) (arguments_holds xs) 256 rest) in
        let f : Value = g.value in
        let r : State = d.after in
        let whole = reached-both T basic (made_by e) (made_by_arguments list) s g.after d.after both.0 m us.0 count g.reached d.reached in
        let left = part_there-kept g.after.table d.after.table d.reached.grown g.reached.here.known.basic (AsValue g.value.expr) g.there in
        let judged = (arguments-judged xs d.values g.after d.after g.reached.here.known d.gives).0 in
        let right = values-there d.after.table d.reached.here.known.basic xs d.values g.after.seen.scopes d.after.seen.scopes judged in
        let pass =
        ap first_broken (call-over r.table T d.reached.way.first d.reached.here.known.basic at (AsValue f.expr) (map argument_of d.values) left right)
        ∙ passes f.expr (map argument_of d.values) g.same d.alike in
        let top = max-left (held (tree.Call x at xs)) (max (expr_holds x) (arguments_holds xs)) 256 holds in
        let held_f = g.held in
        let most = d.within.most in
        let few : held_with 0 (max f.held (arguments_held 1 d.values) ∷ []) ≤ 256 = omega (arith, top, held_f, most) in
        finish T basic at_call (tree.Call x at xs) z u
        (operand_with f.place (called r.table f.expr at d.values (runtime_named f.expr)) (held_with 0 (max f.held (arguments_held 1 d.values) ∷ []))) s r b count here h q
        (judges_call at_call x at xs f d.values s g.after r
        (Gives (operand_with f.place (called r.table f.expr at d.values (runtime_named f.expr)) (held_with 0 (max f.held (arguments_held 1 d.values) ∷ []))) r) g.gives d.gives
        (call_is f at d.values r pass few))
        (subst (λ (all : List Made). IsOnWay T all s r count) (sym made) whole.way)

    runtime_passes : (k : Runtime) (e : TypedExpr) (list : TypedArguments) → bare e ≡ e → IsRuntimeCallOf T k e list
        → (f : TypedExpr) (all : List Argument) → f ≡ bare e → AreAlike T all (listed_arguments list) → Passes (call_tests T at (AsValue f) all)
    runtime_passes k e list own w f all same like = runtime-call-passes T at k e list (AsValue f) all w (ap AsValue (same ∙ own)) like

    called_given : (e : TypedExpr) (list : TypedArguments) (v : TypedExpr) (m : Point) → Both (IsRead T x e) (AreRead T xs list) (point_at s) m → IsCalled T e at list m.node v → of_part z ≡ OfValue v
        → IsPartGiven T at_call (tree.Call x at xs) z s b count
    called_given e list _ m both (function t w) k =
        let over = called-over T e at list m.node (typed.Call e at list t) (function t w) in
        call_by e list m (AsValue (typed.Call e at list t)) both over.0 over.1 (called-plain T e at list m.node (typed.Call e at list t) (function t w))
        (as-value T basic (tree.Call x at xs) z (typed.Call e at list t) (point_at s) b h k refl) refl refl
        (λ f all same like. call-passes T at e list t (AsValue f) all w (alike-as T basic f (bare e) same) like)
    called_given e list _ m both (runtime g t w) k =
        let over = called-over T e at list m.node (typed.CallRuntime g e at list t) (runtime g t w) in
        call_by e list m (AsValue (typed.CallRuntime g e at list t)) both over.0 over.1 (called-plain T e at list m.node (typed.CallRuntime g e at list t) (runtime g t w))
        (as-value T basic (tree.Call x at xs) z (typed.CallRuntime g e at list t) (point_at s) b h k refl) refl refl (runtime_passes g e list over.0 w.call)
    called_given e list _ m both (taken g t w) k =
        let over = called-over T e at list m.node (typed.AllocateFor g e at list t) (taken g t w) in
        call_by e list m (AsAllocation (typed.AllocateFor g e at list t)) both over.0 over.1 (called-plain T e at list m.node (typed.AllocateFor g e at list t) (taken g t w))
        (as-block T basic (tree.Call x at xs) z (typed.AllocateFor g e at list t) (point_at s) b h k refl) refl refl (runtime_passes g e list over.0 w.call)
    called_given e list _ m both (allocation g n t w o) k = by (part-value z (typed.Allocate g e at list n t) k)
      where
        by : (z ≡ AsValue (typed.Allocate g e at list n t)) ⊎ (z ≡ AsAllocation (typed.Allocate g e at list n t)) → IsPartGiven T at_call (tree.Call x at xs) z s b count
        by (inl q) = no_true (sym (natural-no_allocation (typed.Allocate g e at list n t) (subst (λ (y : Elaborated). IsElaboratedAt T (tree.Call x at xs) y (point_at s) b) q h).1))
        by (inr q) = no_true (subst (λ (y : Elaborated). IsElaboratedAt T (tree.Call x at xs) y (point_at s) b) q h).1

  pub call-given : (x : tree.Expr) (at : Place) (xs : tree.Arguments) → IsGiven T x → AreGiven xs → IsGiven T (tree.Call x at xs)
  call-given x at xs gx gxs at_call z s b count here h c uses room holds =
      let i = of-part T basic (tree.Call x at xs) z (point_at s) b h in
      called_given x at xs gx gxs at_call z s b count here h uses room holds i.0 i.1 i.2 i.3 i.4 i.6 i.7
