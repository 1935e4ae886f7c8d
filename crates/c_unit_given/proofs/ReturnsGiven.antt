-- Labels of a `switch` and returned values are given.
use Rattle.std.proofs.Common.{◌≡◌, ℤ, Bool, true, false, not, ◌||◌, List, [], ◌∷◌, ◌++◌, Option, Some, None, refl, ap, sym, ◌∙◌}
use Rattle.std.specs.List.{All, list_any}
use Rattle.std.specs.Ordering.{int_eq}
use Rattle.std.proofs.lemmas.List.Elements.{All-head, All-tail, All-nil, All-cons}
use Rattle.std.proofs.lemmas.Bool.Decides.{Decides-int_eq}
use Rattle.cc_base.specs.declared.number.TypeId.{TypeId}
use Rattle.cc_base.specs.declared.place.Place.{Place}
use Rattle.cc_base.specs.declared.fault.Rule.TheVariants as rule
use Rattle.c_types.specs.Table.{Table, shape_at}
use Rattle.c_tree.specs.Erasure.{erased, erased_block_items}
use Rattle.c_tree.specs.Tree as tree
use Rattle.c_tree.specs.TypedTree as typed
use Rattle.c_tree.specs.TypedTree.{TypedExpr, TypedBlockItems}
use Rattle.c_tree.specs.TypedParts.{made_by, made_by_block_items}
use Rattle.integers.specs.Arithmetic.{IntegerType}
use Rattle.c_typing.specs.Checking.{Constant, checked_constant, checked_value}
use Rattle.c_typing.specs.Settled.{IsBasic}
use Rattle.c_typing.specs.Shapes.{is_void_shape}
use Rattle.c_typing.specs.Tests.{broken_at, first_broken}
use Rattle.c_typing.specs.Typing.{IsTyped}
use Rattle.c_typing_exact.proofs.Unbroken.{passes_one, off}
use Rattle.c_unit_typing.specs.Holding.{expr_holds, block_items_holds}
use Rattle.c_type_order.specs.TypesUsed.{used_by}
use Rattle.c_unit_rules_alike.proofs.StatementRules.{return_none-over, label_as-over}
use Rattle.c_unit_typing.specs.StatementJudging.{label_as, labelled, case_label, returned, judge_statement, judge_block_items}
use Rattle.c_unit_typing.specs.Units.{AreBlockItems, AreDifferent, labels_of}
use Rattle.c_unit_typing.specs.UnitJudging.{UnitState, UnitJudging, Gives, pure, by_known, lifted, ◌>>=◌}
use Rattle.c_unit_typing.specs.UnitRefusals.{converted_label}
use Rattle.c_unit_given.proofs.UnitGiven.{IsUnitHere, IsRun, Nothing, And, Has, HasType, Always, AreSizesWritten, AreScopesKept, AreExpressionsGiven, AreDeclaratorsGiven}
use Rattle.c_unit_typing.specs.TypesUsed.{used_by_block_items}
use Rattle.c_unit_given.proofs.BlockItemsGiven.{NeedsOf, needs-kept, AreBlockItemsRun}
use Rattle.c_unit_given.proofs.DeclarationsGiven.{left-held, right-held}
use Rattle.c_unit_given.proofs.Runs.{Among, obeying-is, run-then, run-last, run-none, run-lifted, nothing-kept, type-kept, both-kept}
use Rattle.c_unit_given.proofs.StatementsGiven.{IsStatementRun}

-- Labels

all_last : (P : ℤ → Type 0) (xs : List ℤ) (z : ℤ) → All P (xs ++ z ∷ []) → P z
all_last P [] z h = All-head P z [] h
all_last P (x ∷ xs) z h = all_last P xs z (All-tail P x (xs ++ z ∷ []) h)

all_first : (P : ℤ → Type 0) (xs : List ℤ) (z : ℤ) → All P (xs ++ z ∷ []) → All P xs
all_first P [] z h = All-nil P
all_first P (x ∷ xs) z h = All-cons P x xs (All-head P x (xs ++ z ∷ []) h) (all_first P xs z (All-tail P x (xs ++ z ∷ []) h))

first_different : (xs : List ℤ) (z : ℤ) → AreDifferent (xs ++ z ∷ []) → AreDifferent xs
first_different [] z h = tt
first_different (x ∷ xs) z h = (all_first (λ other. ¬ (x ≡ other)) xs z h.0, first_different xs z h.1)

or_off : (a b : Bool) → a ≡ false → b ≡ false → (a || b) ≡ false
or_off true b h k = h
or_off false b h k = k

not_equal : (z y : ℤ) → ¬ (y ≡ z) → int_eq z y ≡ false
not_equal z y h = by (int_eq z y) refl
  where
    by : (b : Bool) → int_eq z y ≡ b → b ≡ false
    by false q = refl
    by true q = absurd (h (sym ((Decides-int_eq z y).0 q)))

new_label : (xs : List ℤ) (z : ℤ) → AreDifferent (xs ++ z ∷ []) → list_any (λ each. int_eq z each) xs ≡ false
new_label [] z h = refl
new_label (y ∷ ys) z h = or_off (int_eq z y) (list_any (λ each. int_eq z each) ys) (not_equal z y (all_last (λ other. ¬ (y ≡ other)) ys z h.0)) (new_label ys z h.1)

module _ (T : Table) (basic : IsBasic T) (exprs : AreExpressionsGiven T) (scopes : AreScopesKept T) (decls : AreDeclaratorsGiven T) (sizes : AreSizesWritten T) where
  label_gives : (t : TypeId) (at : Place) (all : TypedBlockItems) (e : TypedExpr) (z value : ℤ) (r : UnitState) → IsUnitHere T r → Rattle.c_types.specs.Table.IsType r.table t
      → label_as T (Some t) z ≡ Some value → AreDifferent (labels_of all ++ value ∷ [])
      → labelled at (labels_of all) all e (label_as r.table (Some t) z) r ≡ Gives (typed.AndCase all at e value) r
  unfolding labelled
  label_gives t at all e z value r here there same labels =
      ap (λ (o : Option ℤ). labelled at (labels_of all) all e o r) (label_as-over r.table T here.here.first here.here.known.basic (Some t) z there ∙ same)
      ∙ obeying-is (λ (s : UnitState). broken_at rule.Redeclared at (list_any (λ each. int_eq value each) (labels_of all)) ∷ []) (pure (typed.AndCase all at e value)) r
      (Gives (typed.AndCase all at e value) r) (passes_one rule.Redeclared at (list_any (λ each. int_eq value each) (labels_of all)) (new_label (labels_of all) value labels)) refl

  -- a `case` of a `switch`
  pub case-run : (all : TypedBlockItems) (at : Place) (e : TypedExpr) (value : ℤ) → AreBlockItemsRun T basic exprs scopes decls sizes all
      → AreBlockItemsRun T basic exprs scopes decls sizes (typed.AndCase all at e value)
  unfolding judge_block_items case_label
  case-run all at e value p a None labels defaults holds s k n count here w h numbers uses room = absurd h.4
  case-run all at e value p a (Some t) labels defaults holds s k n count here w h numbers uses room =
      let on : Option TypeId = Some t in
      let N = NeedsOf T basic exprs scopes decls sizes a on in
      let keep = needs-kept T basic exprs scopes decls sizes a on in
      let u = block_items_holds (erased_block_items all) in
      let v = expr_holds (erased e) in
      let z : ℤ = h.4.1 in
      let c : Constant = record { expr = e; value = z } in
      let same : label_as T (Some t) z ≡ Some value = ap (λ (o : Option IntegerType). Some (converted_label o z)) h.4.3 ∙ ap Some (sym h.4.5) in
      let one : TypedBlockItems = typed.AndCase all at e value in
      let constant =
      run-lifted T (And N Nothing) Nothing (IsTyped T e) (made_by e) (used_by T e) Always (checked_constant (erased e)) c (scopes.value e) (exprs.constant e z h.4.2 h.4.4 (right-held u v 256 holds))
      (λ q i. tt) (λ q r i j g. tt) in
      let last : IsRun T (And N Nothing) Nothing (Among (IsTyped T e)) (made_by e) (used_by T e)
      (lifted (checked_constant (erased e)) >>= (λ x. by_known (λ q. labelled at (labels_of all) all x.expr (label_as q.table on x.value)))) one =
      run-last T (And N Nothing) Nothing Nothing (both-kept N Nothing keep nothing-kept) (Among (IsTyped T e)) (made_by e) (used_by T e) (lifted (checked_constant (erased e)))
      (λ x. by_known (λ q. labelled at (labels_of all) all x.expr (label_as q.table on x.value))) c one constant
      (λ r there i j. (label_gives t at all e z value r there i.0.1 same labels, tt)) in
      run-then T N Nothing Nothing keep (AreBlockItems T a on all) (Among (IsTyped T e)) (made_by_block_items all) (made_by e) (used_by_block_items T all) (used_by T e)
      (judge_block_items a on (erased_block_items all))
      (λ list. lifted (checked_constant (erased e)) >>= (λ x. by_known (λ q. labelled at (labels_of list) list x.expr (label_as q.table on x.value)))) all one
      (p a on (first_different (labels_of all) value labels) defaults (left-held u v 256 holds)) last s k n count here w (h.0, h.2, (h.1, h.3, h.5)) numbers uses room

  -- `return`
  pub return-run : (at : Place) (e : Option TypedExpr) → IsStatementRun T basic exprs scopes (typed.Return at e)
  unfolding judge_statement returned
  return-run at None a holds s k n count here w h numbers uses room =
      run-none T (HasType a.result) Nothing (judge_statement a (tree.Return at None)) (typed.Return at None)
      (λ r there i. (
        ap (λ (o : Option _). (Rattle.c_unit_typing.specs.UnitJudging.unless o (pure None) >>= (λ v. pure (typed.Return at v))) r)
            (ap first_broken (return_none-over r.table T there.here.first there.here.known.basic at a.result i)
            ∙ passes_one rule.Mismatch at (not (is_void_shape (shape_at T a.result))) (off (is_void_shape (shape_at T a.result)) h.1)),
        tt,
      )) s k n count here w h.0 numbers uses room
  return-run at (Some e) a holds s k n count here w h numbers uses room =
      let t = a.result in
      let N = HasType t in
      let value = checked_value t at false (erased e) in
      let one = run-lifted T N Nothing (IsTyped T e) (made_by e) (used_by T e) (Has t) value e (scopes.value e) (exprs.returned t at e h.2 holds) (λ q i. i) (λ q r i j g. tt) in
      let some = run-last T N Nothing Nothing (type-kept t) (Among (IsTyped T e)) (made_by e) (used_by T e) (lifted value) (λ v. pure (Some v)) e (Some e) one (λ r there i j. (refl, tt)) in
      run-last T N Nothing Nothing (type-kept t) (Among (IsTyped T e)) (made_by e) (used_by T e) (returned at t (Some (erased e))) (λ v. pure (typed.Return at v)) (Some e) (typed.Return at (Some e)) some
      (λ r there i j. (refl, tt)) s k n count here w (h.0, h.1, h.3) numbers uses room
