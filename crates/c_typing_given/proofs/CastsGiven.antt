-- Casts, and `sizeof` of a type, are given.
use Rattle.std.proofs.Common.{◌≡◌, ◌≤◌, ℕ, max, Bool, true, false, ◌&&◌, [], ◌∷◌, length, None, refl, ap, sym, subst, ◌∙◌, inl, inr, arith}
use Rattle.cc_base.specs.declared.place.Place.{Place}
use Rattle.cc_base.specs.declared.number.TypeId.{TypeId}
use Rattle.c_types.specs.declared.shape.TypeShape.{TypeShape}
use Rattle.c_types.specs.declared.shape.TypeShape.TheVariants.{Void}
use Rattle.c_types.specs.Layouts.{size_of}
use Rattle.c_types.specs.Table.{Table, shape_at}
use Rattle.c_tree.specs.declared.typed_word.Conversion.{Conversion}
use Rattle.c_tree.specs.Tree as tree
use Rattle.c_tree.specs.TypedTree as typed
use Rattle.c_tree.specs.TypedTree.{TypedExpr, TypedPlace, TypedTypeName}
use Rattle.c_tree.specs.TypedParts.{made_by, made_by_type_name, named_type}
use Rattle.c_typing.specs.Assignments.{cast, cast_given, cast_part, size_of_type}
use Rattle.c_typing.specs.Conversions.{bare, is_allocation, is_taken_over, takes_over, is_pointer_to_complete_shape}
use Rattle.c_typing.specs.Held.{held, held_with}
use Rattle.c_typing.specs.Judging.{State, Outcome, Gives, ◌>>=◌, pure, by_known}
use Rattle.c_typing.specs.Operands.{Operand, given}
use Rattle.c_typing.specs.Operations.{size_type}
use Rattle.c_typing.specs.Refusals.{type_size_tests}
use Rattle.c_typing.specs.Rules.{IsCast, IsScalarCast}
use Rattle.c_typing.specs.Scopes.{Scopes}
use Rattle.c_typing.specs.Settled.{IsBasic}
use Rattle.c_typing.specs.Tests.{Elaborated, AsValue, first_broken, cast_tests}
use Rattle.c_typing.specs.Walks.{judge, judge_type_name}
use Rattle.c_typing_laws.proofs.ExtensionLaws.{still_in}
use Rattle.c_typing_laws.proofs.JudgedTrees.{type_name-judged}
use Rattle.c_typing_unique.specs.Points.{Point, IsRead}
use Rattle.c_typing_unique.proofs.OperatorLaws.{bare-plain}
use Rattle.c_typing_unique.proofs.Reading.{OfValue}
use Rattle.c_typing_unique.proofs.Readings.{Both, IsTypeNameRead}
use Rattle.c_typing_unique.proofs.Shapes.{no_true}
use Rattle.c_typing_exact.specs.Passing.{Passes}
use Rattle.c_typing_exact.proofs.ConversionPasses.{void-cast-passes, given-cast-passes}
use Rattle.c_typing_exact.proofs.ExprExact.{droppable_over}
use Rattle.c_typing_exact.proofs.OperatorPasses.{type-size-passes}
use Rattle.c_rules_alike.proofs.ConversionRules.{cast-over}
use Rattle.c_rules_alike.proofs.OperatorRules.{type_size-over}
use Rattle.c_typing_given.specs.Given.{point_at, IsPartGiven, IsGiven, IsNameGiven}
use Rattle.c_unit_typing.specs.Holding.{expr_holds, type_name_holds}
use Rattle.c_type_order.specs.TypesUsed.{used_by, used_by_type_name}
use Rattle.c_typing_given.proofs.Constructing.{as-value, of-part, finish, uses-as, room-as, uses-at, scopes-at, reached-both, plain-simple, IsSimple, max-left, max-right, held-as}
use Rattle.c_typing_given.proofs.GivenTo.{IsGivenFor, given-for, given-as}
use Rattle.c_typing_given.proofs.Settling.{of_part}
use Rattle.c_typing_given.proofs.Spent.{room-first, room-then}
use Rattle.c_typing_given.proofs.Steps.{then-is, construct-is, operand_with}
use Rattle.c_typing_given.proofs.ValuesGiven.{uses-first}

judges_cast : (called : Bool) (at : Place) (name : tree.TypeName) (x : tree.Expr) (to : TypedTypeName) (p : Operand) (s m k : State) (o : Outcome Operand) → judge_type_name name s ≡ Gives to m
    → judge false x m ≡ Gives p k → cast at to p k ≡ o → judge called (tree.Cast at name x) s ≡ o
unfolding judge
judges_cast called at name x to p s m k o h j l =
    then-is (judge_type_name name) (λ t. judge false x >>= (λ q. cast at t q)) to s m o h (then-is (judge false x) (λ q. cast at to q) p m k o j l)

judges_size : (called : Bool) (at paren : Place) (name : tree.TypeName) (t : TypedTypeName) (s m : State) (o : Outcome Operand) → judge_type_name name s ≡ Gives t m
    → size_of_type at paren t m ≡ o → judge called (tree.SizeOfType at paren name) s ≡ o
unfolding judge
judges_size called at paren name t s m o h l = then-is (judge_type_name name) (size_of_type at paren) t s m o h l

cast_is : (at : Place) (to : TypedTypeName) (x : Operand) (u : Elaborated) (k r : State) (o : Outcome Operand) → given (named_type to) x.place x.part k ≡ Gives u r
    → cast_given at to (record x { part = u }) r ≡ o → cast at to x k ≡ o
unfolding cast
cast_is at to x u k r o g l = then-is (given (named_type to) x.place x.part) (λ v. cast_given at to (record x { part = v })) u k r o g l

cast_given_is : (at : Place) (to : TypedTypeName) (x : Operand) (u : Elaborated) (r : State) → first_broken (cast_tests r.table at u (named_type to)) ≡ None → held_with 0 (x.held ∷ []) ≤ 256
    → cast_given at to (record x { part = u }) r ≡ Gives (operand_with at (AsValue (cast_part r.table at to u)) (held_with 0 (x.held ∷ []))) r
unfolding cast_given
cast_given_is at to x u r pass few =
    construct-is (λ s. cast_tests s.table at u (named_type to)) at (x.held ∷ []) (by_known (λ s. pure (AsValue (cast_part s.table at to u)))) r r (AsValue (cast_part r.table at to u)) pass few refl

size_is : (at paren : Place) (t : TypedTypeName) (r : State) → first_broken (type_size_tests r.table r.seen.scopes at (named_type t)) ≡ None
    → size_of_type at paren t r ≡ Gives (operand_with at (AsValue (typed.SizeOfType at paren t (size_of r.table (named_type t)) size_type)) (held_with 0 [])) r
unfolding size_of_type
size_is at paren t r pass =
    construct-is (λ s. type_size_tests s.table s.seen.scopes at (named_type t)) at []
    (by_known (λ s. pure (AsValue (typed.SizeOfType at paren t (size_of s.table (named_type t)) size_type)))) r r
    (AsValue (typed.SizeOfType at paren t (size_of r.table (named_type t)) size_type)) pass (omega arith) refl

module _ (T : Table) (basic : IsBasic T) where
  pub size-of-type-given : (at paren : Place) (name : tree.TypeName) → IsNameGiven T name → IsGiven T (tree.SizeOfType at paren name)
  size-of-type-given at paren name gn called z s b count here h c uses room holds =
      let i = of-part T basic (tree.SizeOfType at paren name) z (point_at s) b h in
      let t : TypedTypeName = i.0 in
      let q = as-value T basic (tree.SizeOfType at paren name) z (typed.SizeOfType at paren i.0 i.1 i.2) (point_at s) b h i.5 refl in
      let g =
      gn i.0 s b count here i.3 (uses-as T basic z (AsValue (typed.SizeOfType at paren i.0 i.1 i.2)) (length s.table) count q uses)
      (room-as T basic z (AsValue (typed.SizeOfType at paren i.0 i.1 i.2)) s q room) (max-right (held (tree.SizeOfType at paren name)) (type_name_holds name) 256 holds) in
      let r : State = g.after in
      let there = (type_name-judged name i.0 s g.after here.known g.gives).there in
      let pass =
      ap first_broken (type_size-over r.table T g.reached.way.first g.reached.here.known.basic r.seen.scopes at (named_type i.0) there)
      ∙ subst (λ (sc : Scopes). Passes (type_size_tests T sc at (named_type i.0))) (sym (scopes-at T basic (made_by_type_name i.0) s r b count g.reached))
      (type-size-passes T b.scopes at (named_type i.0) i.1 i.2 i.4) in
      finish T basic called (tree.SizeOfType at paren name) z (AsValue (typed.SizeOfType at paren i.0 i.1 i.2))
      (operand_with at (AsValue (typed.SizeOfType at paren i.0 (size_of r.table (named_type i.0)) size_type)) (held_with 0 [])) s r b count here h q
      (judges_size called at paren name i.0 s r (Gives (operand_with at (AsValue (typed.SizeOfType at paren i.0 (size_of r.table (named_type i.0)) size_type)) (held_with 0 [])) r)
      g.gives (size_is at paren i.0 r pass))
      g.reached.way

  -- nothing is taken over by `void`
  void_takes : (sc : Scopes) (t : TypeId) (e : TypedExpr) → shape_at T t ≡ Void → takes_over T sc t e ≡ false
  void_takes sc t e h = ap (λ (x : TypeShape). is_allocation (bare e) && is_pointer_to_complete_shape T sc x) h ∙ and_off (is_allocation (bare e))
    where
      and_off : (b : Bool) → (b && false) ≡ false
      and_off true = refl
      and_off false = refl

  pub cast-given : (at : Place) (name : tree.TypeName) (x : tree.Expr) → IsNameGiven T name → IsGiven T x → IsGiven T (tree.Cast at name x)
  cast-given at name x gn gx called z s b count here h c uses room holds = by i.4
    where
      i : (which : Conversion) × (to : TypedTypeName) × (e : TypedExpr) × Both (IsTypeNameRead T name to) (IsRead T x e) (point_at s) b × IsCast T b.scopes which (named_type to) e
          × (of_part z ≡ OfValue (typed.Cast which at to e))
      i = of-part T basic (tree.Cast at name x) z (point_at s) b h

      q : z ≡ AsValue (typed.Cast i.0 at i.1 i.2)
      q = as-value T basic (tree.Cast at name x) z (typed.Cast i.0 at i.1 i.2) (point_at s) b h i.5 refl

      done : (over : takes_over T b.scopes (named_type i.1) i.2 ≡ true → is_taken_over i.2 ≡ true) → (takes_over T b.scopes (named_type i.1) i.2 ≡ false → IsSimple T basic i.2)
          → ((k : State) (n : ℕ) (d : IsGivenFor T basic (named_type i.1) x i.2 k b n) → Passes (cast_tests T at d.part (named_type i.1)))
          → IsPartGiven T called (tree.Cast at name x) z s b count
      done over simple passes =
          let rm = room-as T basic z (AsValue (typed.Cast i.0 at i.1 i.2)) s q room in
          let cut = uses-first (used_by_type_name T i.1) (used_by T i.2) (length s.table) count (uses-as T basic z (AsValue (typed.Cast i.0 at i.1 i.2)) (length s.table) count q uses) in
          let rest = max-right (held (tree.Cast at name x)) (max (type_name_holds name) (expr_holds x)) 256 holds in
          let g =
          gn i.1 s i.3.0 cut.0 here i.3.1 cut.1 (room-first T (made_by_type_name i.1) (made_by i.2) s rm) (max-left (type_name_holds name) (expr_holds x) 256 rest) in
          let there = (type_name-judged name i.1 s g.after here.known g.gives).there in
          let read : IsRead T x i.2 (point_at g.after) b = subst (λ (a : Point). IsRead T x i.2 a b) (sym g.reached.point) i.3.2 in
          let d =
          given-for T basic (named_type i.1) x gx i.2 g.after b count g.reached.here read there
          (uses-at T basic (used_by T i.2) (made_by_type_name i.1) s g.after i.3.0 cut.0 count g.reached cut.2)
          (room-then T (made_by_type_name i.1) (made_by i.2) s g.after rm g.reached.way.spent) (max-right (type_name_holds name) (expr_holds x) 256 rest) over simple in
          let r : State = d.after in
          let whole = reached-both T basic (made_by_type_name i.1) (made_by i.2) s g.after d.after i.3.0 b cut.0 count g.reached d.reached in
          let pass =
          ap first_broken (cast-over r.table T d.reached.way.first d.reached.here.known.basic at d.part (named_type i.1) d.there (still_in g.after.table r.table d.reached.grown (named_type i.1) there))
          ∙ passes g.after count d in
          let few = held-as (held_with 0 (d.operand.held ∷ [])) (held (tree.Cast at name x)) 256 (λ j. held_with 0 (d.held j ∷ []))
          (max-left (held (tree.Cast at name x)) (max (type_name_holds name) (expr_holds x)) 256 holds) in
          finish T basic called (tree.Cast at name x) z (AsValue (typed.Cast i.0 at i.1 i.2))
          (operand_with at (AsValue (cast_part r.table at i.1 d.part)) (held_with 0 (d.operand.held ∷ []))) s r b count here h q
          (judges_cast called at name x i.1 d.operand s g.after d.between (Gives (operand_with at (AsValue (cast_part r.table at i.1 d.part)) (held_with 0 (d.operand.held ∷ []))) r) g.gives d.gives
          (cast_is at i.1 d.operand d.part d.between r (Gives (operand_with at (AsValue (cast_part r.table at i.1 d.part)) (held_with 0 (d.operand.held ∷ []))) r) d.giving
          (cast_given_is at i.1 d.operand d.part r pass few)))
          whole.way

      by : IsCast T b.scopes i.0 (named_type i.1) i.2 → IsPartGiven T called (tree.Cast at name x) z s b count
      by (inl w) =
          done (λ f. no_true (sym (void_takes b.scopes (named_type i.1) i.2 w.0.1) ∙ f)) (λ f. droppable_over i.2 w.2)
          (λ k n d. void-cast-passes T at d.part (named_type i.1) w.0.1)
      by (inr w) =
          done (λ f. (subst (λ (v : Bool). IsScalarCast v T i.0 (named_type i.1) i.2) f w).1.over)
          (λ f. plain-simple T basic i.2 (bare-plain i.2 (subst (λ (v : Bool). IsScalarCast v T i.0 (named_type i.1) i.2) f w).0))
          (λ k n d. given-cast-passes T b.scopes at i.0 (named_type i.1) i.2 d.part w
          (given-as T basic (named_type i.1) x i.2 k b n d (λ f. bare-plain i.2 (subst (λ (v : Bool). IsScalarCast v T i.0 (named_type i.1) i.2) f w).0)))
