-- `switch`, whose labels are in a scope of their own, is given.
use Rattle.std.proofs.Common.{◌≡◌, ◌≤◌, ◌++◌, true, not, Option, Some, refl, ap, sym, subst, ◌∙◌}
use Rattle.cc_base.specs.declared.number.TypeId.{TypeId}
use Rattle.cc_base.specs.declared.place.Place.{Place}
use Rattle.cc_base.specs.declared.fault.Rule.TheVariants as rule
use Rattle.c_types.specs.Table.{Table, IsType, shape_at}
use Rattle.c_types.specs.Sound.{IsIntegerSize}
use Rattle.c_tree.specs.Erasure.{erased, erased_block_items}
use Rattle.c_tree.specs.TypedTree as typed
use Rattle.c_tree.specs.TypedTree.{TypedExpr, TypedStatement, TypedBlockItems}
use Rattle.c_tree.specs.TypedParts.{made_by, made_by_block_items, type_of}
use Rattle.integers.specs.Arithmetic.{IntegerType}
use Rattle.c_typing.specs.Checking.{checked}
use Rattle.c_typing.specs.Conversions.{bare, IsPlain, to_integer}
use Rattle.c_typing.specs.Integers.{promoted}
use Rattle.c_typing.specs.Judging.{integer_type}
use Rattle.c_typing.specs.Rules.{IsPromoted}
use Rattle.c_typing.specs.Settled.{IsBasic}
use Rattle.c_typing.specs.Shapes.{IsIntegerType, is_integer_shape, integer_of_shape, integer_at}
use Rattle.c_typing.specs.Tests.{AsValue}
use Rattle.c_typing.specs.Typing.{IsTyped}
use Rattle.c_typing_laws.proofs.ConstructLaws.{integer_size, promoted_size}
use Rattle.c_typing_laws.proofs.JudgedWhole.{checked-judged}
use Rattle.c_typing_unique.proofs.Reading.{plain-over}
use Rattle.c_typing_unique.proofs.Shapes.{is-integer}
use Rattle.c_typing_exact.proofs.InfixPasses.{integer_shape}
use Rattle.c_typing_exact.proofs.SameParts.{plain_runtime}
use Rattle.c_typing_exact.proofs.Unbroken.{passes_one, off}
use Rattle.c_rules_alike.proofs.PartsThere.{checked-there}
use Rattle.c_type_order.specs.TypesUsed.{used_by}
use Rattle.c_unit_typing.specs.Holding.{expr_holds, block_items_holds}
use Rattle.c_unit_typing.specs.StatementJudging.{promoted_by, promotion, switched, within, judge_statement, judge_block_items}
use Rattle.c_unit_typing.specs.UnitJudging.{UnitState, UnitJudging, Gives, known_of, pure, lifted, ◌>>=◌}
use Rattle.c_unit_typing.specs.UnitRefusals.{switch_tests}
use Rattle.c_unit_typing.specs.Units.{Around, with_scopes, leaving_known, in_a_switch, AreBlockItems, AreDifferent, labels_of, defaults_in}
use Rattle.c_unit_given.proofs.UnitGiven.{IsUnitHere, IsRun, Nothing, And, HasType, Always, AreSizesWritten, AreScopesKept, AreExpressionsGiven, AreDeclaratorsGiven}
use Rattle.c_unit_typing.specs.TypesUsed.{used_by_block_items}
use Rattle.c_unit_given.proofs.BlockItemsGiven.{NeedsOf, AreBlockItemsRun}
use Rattle.c_unit_given.proofs.DeclarationsGiven.{left-held, right-held}
use Rattle.c_unit_given.proofs.Runs.{Among, Then, obeying-is, run-then, run-last, run-first, run-as, run-lifted, type-kept, both-kept}
use Rattle.c_unit_given.proofs.ScopesGiven.{Inside, within-run}
use Rattle.c_unit_given.proofs.StatementsGiven.{IsStatementRun}

-- What a `switch` is on

module _ (T : Table) (basic : IsBasic T) (at : Place) (e : TypedExpr) (h : IsPromoted T at e (type_of e)) where
  promoted_bytes : IsIntegerSize (promoted h.kind).bytes
  promoted_bytes =
      promoted_size h.kind (integer_size T (type_of (bare e)) h.kind.bytes h.kind.signed basic.formed (integer_shape (shape_at T (type_of (bare e))) h.kind h.integer))

  -- the type of an integer is the one that every table has
  one_type : (t : TypeId) → IsIntegerType T (promoted h.kind) t → t ≡ integer_type (promoted h.kind)
  one_type t shape =
      let there = basic.integers (promoted h.kind) promoted_bytes in
      basic.formed.distinct t (integer_type (promoted h.kind)) shape.0 (there.0, there.1 ∙ sym shape.1)

  promoted_same : promoted_by at (bare e) (Some h.kind) ≡ e
  promoted_same = sym (h.operand.made ∙ ap (λ (t : TypeId). to_integer at t (bare e)) (one_type h.operand.type h.operand.shape))

  promoted_there : (J : Table) → IsBasic J → IsType J (type_of e)
  promoted_there J b = subst (IsType J) (sym (one_type (type_of e) h.type)) (b.integers (promoted h.kind) promoted_bytes).0

  promotion_gives : (r : UnitState) → IsUnitHere T r → IsType r.table (type_of (bare e)) → promotion at (bare e) r ≡ Gives e r
  unfolding promotion
  promotion_gives r here there =
      let kind : integer_at r.table (type_of (bare e)) ≡ Some h.kind = ap integer_of_shape (sym (here.here.first.shapes (type_of (bare e)) there)) ∙ h.integer in
      ap (λ (o : Option IntegerType). Gives (promoted_by at (bare e) o) r) kind ∙ ap (λ (v : TypedExpr). Gives v r) promoted_same

  switched_gives : (one : TypedStatement) (r : UnitState) → IsUnitHere T r → IsType r.table (type_of (bare e)) → switched at (bare e) one r ≡ Gives one r
  unfolding switched
  switched_gives one r here there =
      let t : TypeId = type_of (bare e) in
      let shape : is_integer_shape (shape_at r.table t) ≡ true = ap is_integer_shape (sym (here.here.first.shapes t there)) ∙ is-integer T t h.kind h.integer in
      obeying-is (λ (s : UnitState). switch_tests s.table at (AsValue (bare e))) (pure one) r (Gives one r)
      (passes_one rule.Mismatch at (not (is_integer_shape (shape_at r.table t))) (off (is_integer_shape (shape_at r.table t)) shape)) refl

module _ (T : Table) (basic : IsBasic T) (exprs : AreExpressionsGiven T) (scopes : AreScopesKept T) (decls : AreDeclaratorsGiven T) (sizes : AreSizesWritten T) where
  -- the value, without its promotion
  value_run : (e : TypedExpr) → IsPlain (bare e) → expr_holds (erased e) ≤ 256
      → IsRun T Nothing (HasType (type_of (bare e))) (Among (IsTyped T e)) (made_by e) (used_by T e) (lifted (checked (erased e))) (bare e)
  value_run e plain holds =
      let c : TypedExpr = bare e in
      run-lifted T Nothing (HasType (type_of c)) (IsTyped T e) (made_by e) (used_by T e) Always (checked (erased e)) c (scopes.value e)
      (exprs.dropped e (plain-over c plain) (plain_runtime c plain) holds) (λ s w. tt)
      (λ s q here w g. (checked-there (erased e) c s q (checked-judged (erased e) c s q here.known g)).type)

  module _ (a : Around) (at paren : Place) (e : TypedExpr) (brace : Place) (items : TypedBlockItems) (h : IsPromoted T at e (type_of e)) where
    abbrev whole : TypedStatement
    whole = typed.Switch at paren e brace items

    abbrev on : Option TypeId
    on = Some (type_of e)

    abbrev Before : Table → Type 0
    Before = And (And (HasType a.result) (HasType (type_of (bare e)))) (HasType (type_of e))

    -- the block, in its scope, and then the rule of a `switch`
    items_run : AreBlockItemsRun T basic exprs scopes decls sizes items → AreDifferent (labels_of items) → defaults_in items ≤ 1 → block_items_holds (erased_block_items items) ≤ 256
        → IsRun T Before Nothing (Inside T (AreBlockItems T (in_a_switch a) on items)) (made_by_block_items items) (used_by_block_items T items)
        (within brace (judge_block_items (in_a_switch a) on (erased_block_items items)) >>= (λ list. switched at (bare e) (typed.Switch at paren e brace list))) whole
    items_run p labels defaults holds =
        let b : Around = in_a_switch a in
        let N = NeedsOf T basic exprs scopes decls sizes b on in
        let P = AreBlockItems T b on items in
        let xs = made_by_block_items items in
        let us = used_by_block_items T items in
        let m = judge_block_items b on (erased_block_items items) in
        let keep =
        both-kept (And (HasType a.result) (HasType (type_of (bare e)))) (HasType (type_of e)) (both-kept (HasType a.result) (HasType (type_of (bare e))) (type-kept a.result) (type-kept (type_of (bare e))))
        (type-kept (type_of e)) in
        run-last T Before Nothing Nothing keep (Inside T P) xs us (within brace m) (λ list. switched at (bare e) (typed.Switch at paren e brace list)) items whole
        (run-as T N Before Nothing Nothing (Inside T P) (Inside T P) xs us (within brace m) items (λ J w. (w.0.0, w.1)) (λ J w. w) (λ i j w. w)
        (within-run T N Nothing P xs us m items brace (p b on labels defaults holds)))
        (λ r here w v. (switched_gives T basic at e h whole r here w.0.1, tt))

  pub switch-run : (at paren : Place) (e : TypedExpr) (brace : Place) (items : TypedBlockItems) → AreBlockItemsRun T basic exprs scopes decls sizes items
      → IsStatementRun T basic exprs scopes (typed.Switch at paren e brace items)
  unfolding judge_statement
  switch-run at paren e brace items p a holds s k n count here w h numbers uses room =
      let c : TypedExpr = bare e in
      let N = HasType a.result in
      let M = HasType (type_of c) in
      let b : Around = in_a_switch a in
      let Q = Inside T (AreBlockItems T b (Some (type_of e)) items) in
      let xs = made_by e in
      let ys = made_by_block_items items in
      let us = used_by T e in
      let vs = used_by_block_items T items in
      let u = expr_holds (erased e) in
      let v = block_items_holds (erased_block_items items) in
      let operand : IsPromoted T at e (type_of e) = h.3.operand in
      let one : TypedStatement = typed.Switch at paren e brace items in
      let inner : TypedExpr → TypedExpr → UnitJudging TypedStatement = λ x y. within brace (judge_block_items b (Some (type_of y)) (erased_block_items items))
      >>= (λ list. switched at x (typed.Switch at paren y brace list)) in
      let rest : IsRun T (And N M) Nothing Q ys vs (promotion at c >>= inner c) one =
      run-first T (And N M) (HasType (type_of e)) Nothing Q ys vs (promotion at c) (inner c) e one
      (λ r there i. (promotion_gives T basic at e operand r there i.1, promoted_there T basic at e operand r.table there.here.known.basic))
      (items_run a at paren e brace items operand p h.3.labels h.3.defaults (right-held u v 256 holds)) in
      within-run T N Nothing (Then (Among (IsTyped T e)) Q) (xs ++ ys) (us ++ vs) (lifted (checked (erased e)) >>= (λ x. promotion at x >>= inner x)) one at
      (run-then T N M Nothing (type-kept a.result) (Among (IsTyped T e)) Q xs ys us vs (lifted (checked (erased e))) (λ x. promotion at x >>= inner x) c one
      (run-as T Nothing N M M (Among (IsTyped T e)) (Among (IsTyped T e)) xs us (lifted (checked (erased e))) c (λ J i. tt) (λ J i. i) (λ i j g. g)
      (value_run e operand.operand.plain (left-held u v 256 holds))) rest)
      s k n count here w (leaving_known h.1, (with_scopes (known_of s) h.0, (h.0, h.2, refl), (h.1, h.4, refl)), h.5) numbers uses room
