-- Statements are given: one lemma for each.
use Rattle.std.proofs.Common.{◌≡◌, ◌≤◌, max, Bool, true, false, not, List, ◌++◌, None, refl, ap, sym, subst, ◌∙◌}
use Rattle.cc_base.specs.declared.place.Place.{Place}
use Rattle.cc_base.specs.declared.fault.Rule.TheVariants as rule
use Rattle.c_types.specs.Table.{Table, IsType, shape_at}
use Rattle.c_tree.specs.Erasure.{erased, erased_statement}
use Rattle.c_tree.specs.Tree as tree
use Rattle.c_tree.specs.TypedTree as typed
use Rattle.c_tree.specs.TypedTree.{TypedExpr, TypedDeclaration, TypedStatement, TypedBlockItems}
use Rattle.c_tree.specs.TypedParts.{Made, made_by, made_by_statement, type_of}
use Rattle.c_typing.specs.Checking.{checked}
use Rattle.c_typing.specs.Conversions.{bare, is_droppable, is_plain, is_taken_over}
use Rattle.c_typing.specs.Rules.{IsCondition, runtime_named}
use Rattle.c_typing.specs.Settled.{IsBasic}
use Rattle.c_typing.specs.Shapes.{IsScalar, is_scalar_shape}
use Rattle.c_typing.specs.Tests.{AsValue}
use Rattle.c_typing.specs.Typing.{IsTyped}
use Rattle.c_typing_laws.proofs.JudgedWhole.{checked-judged}
use Rattle.c_typing_unique.proofs.Reading.{plain-bare, plain-over}
use Rattle.c_typing_exact.proofs.SameParts.{plain_runtime}
use Rattle.c_typing_exact.proofs.Unbroken.{passes_one, off}
use Rattle.c_rules_alike.proofs.PartsThere.{checked-there}
use Rattle.c_unit_typing.specs.Holding.{expr_holds, statement_holds}
use Rattle.c_type_order.specs.TypesUsed.{Use, used_by}
use Rattle.c_unit_typing.specs.StatementJudging.{tested, jump, within, judge_statement}
use Rattle.c_unit_typing.specs.Units.{Known, Around, in_a_loop, leaving_known, IsTested, IsStatement}
use Rattle.c_unit_typing.specs.UnitJudging.{UnitState, UnitJudging, Gives, pure, lifted, ◌>>=◌}
use Rattle.c_unit_typing.specs.UnitRefusals.{condition_tests, jump_tests}
use Rattle.c_unit_given.proofs.UnitGiven.{IsUnitHere, IsRun, IsPartRun, IsKept, Nothing, And, HasType, Always, AreScopesKept, AreExpressionsGiven}
use Rattle.c_unit_typing.specs.TypesUsed.{used_by_statement}
use Rattle.c_unit_given.proofs.DeclarationsGiven.{left-held, right-held}
use Rattle.c_unit_given.proofs.Runs.{Among, Then, obeying-is, run-then, run-last, run-as, run-none, run-three, run-lifted, nothing-kept, type-kept, both-kept}
use Rattle.c_unit_given.proofs.ScopesGiven.{Inside, within-run}

-- Values that may be dropped

droppable_bare : (e : TypedExpr) → is_droppable e ≡ true → bare e ≡ e
droppable_bare (typed.Unread p) h = refl
droppable_bare e h = plain-bare e h

droppable_over : (e : TypedExpr) → is_droppable e ≡ true → is_taken_over e ≡ false
droppable_over (typed.Unread p) h = refl
droppable_over e h = plain-over e h

droppable_runtime : (e : TypedExpr) → is_droppable e ≡ true → runtime_named e ≡ None
droppable_runtime (typed.Unread p) h = refl
droppable_runtime e h = plain_runtime e h

pub plain-droppable : (e : TypedExpr) → is_plain e ≡ true → is_droppable e ≡ true
plain-droppable (typed.Unread p) h = refl
plain-droppable e h = h

module _ (T : Table) (basic : IsBasic T) (exprs : AreExpressionsGiven T) (scopes : AreScopesKept T) where
  pub dropped-run : (e : TypedExpr) → is_droppable e ≡ true → expr_holds (erased e) ≤ 256
      → IsRun T Nothing (HasType (type_of e)) (Among (IsTyped T e)) (made_by e) (used_by T e) (lifted (checked (erased e))) e
  dropped-run e d holds =
      let same = droppable_bare e d in
      let part : IsPartRun T (IsTyped T e) (made_by e) (used_by T e) Always (checked (erased e)) e =
      subst (IsPartRun T (IsTyped T e) (made_by e) (used_by T e) Always (checked (erased e))) same
      (exprs.dropped e (ap is_taken_over same ∙ droppable_over e d) (ap runtime_named same ∙ droppable_runtime e d) holds) in
      run-lifted T Nothing (HasType (type_of e)) (IsTyped T e) (made_by e) (used_by T e) Always (checked (erased e)) e (scopes.value e) part (λ s w. tt)
      (λ s q here w g. (checked-there (erased e) e s q (checked-judged (erased e) e s q here.known g)).type)

  pub tested-gives : (at : Place) (c : TypedExpr) (one : TypedStatement) (r : UnitState) → IsUnitHere T r → IsType r.table (type_of c) → IsScalar T (type_of c) → tested at c one r ≡ Gives one r
  unfolding tested
  tested-gives at c one r here there scalar =
      let shape : is_scalar_shape (shape_at r.table (type_of c)) ≡ true = ap is_scalar_shape (sym (here.here.first.shapes (type_of c) there)) ∙ scalar in
      obeying-is (λ (s : UnitState). condition_tests s.table at (AsValue c)) (pure one) r (Gives one r)
      (passes_one rule.Mismatch at (not (is_scalar_shape (shape_at r.table (type_of c)))) (off (is_scalar_shape (shape_at r.table (type_of c))) shape)) refl

  module _ (N : Table → Type 0) (keep : IsKept N) where
    -- a condition, and then a part
    pub test-then : {B : Type 0} (c : TypedExpr) → IsCondition T c → expr_holds (erased c) ≤ 256 → (Q : Known → Known → Type 0) (ys : List Made) (vs : List Use) (f : TypedExpr → UnitJudging B) (y : B)
        → IsRun T (And N (HasType (type_of c))) Nothing Q ys vs (f c) y → IsRun T N Nothing (Then (IsTested T c) Q) (made_by c ++ ys) (used_by T c ++ vs) (lifted (checked (erased c)) >>= f) y
    test-then c condition holds Q ys vs f y rest =
        run-then T N (HasType (type_of c)) Nothing keep (IsTested T c) Q (made_by c) ys (used_by T c) vs (lifted (checked (erased c))) f c y
        (run-as T Nothing N (HasType (type_of c)) (HasType (type_of c)) (Among (IsTyped T c)) (IsTested T c) (made_by c) (used_by T c) (lifted (checked (erased c))) c (λ J w. tt) (λ J w. w)
        (λ k k' w. (w.0, w.1, w.3)) (dropped-run c (plain-droppable c condition.plain) holds)) rest

    -- a part, and then the rule of a condition
    pub tested-last : (c : TypedExpr) → IsCondition T c → (at : Place) (P : Known → Known → Type 0) (ys : List Made) (vs : List Use) (m : UnitJudging TypedStatement) (s : TypedStatement)
        (g : TypedStatement → TypedStatement) → IsRun T N Nothing P ys vs m s → IsRun T (And N (HasType (type_of c))) Nothing P ys vs (m >>= (λ one. tested at c (g one))) (g s)
    tested-last c condition at P ys vs m s g p =
        run-last T (And N (HasType (type_of c))) Nothing Nothing (both-kept N (HasType (type_of c)) keep (type-kept (type_of c))) P ys vs m (λ one. tested at c (g one)) s (g s)
        (run-as T N (And N (HasType (type_of c))) Nothing Nothing P P ys vs m s (λ J w. w.0) (λ J w. w) (λ k k' w. w) p)
        (λ r here w v. (tested-gives at c (g s) r here w.1 condition.scalar, tt))

  -- Statements

  abbrev pub IsStatementRun : TypedStatement → Type 0
  IsStatementRun y =
      (a : Around) → statement_holds (erased_statement y) ≤ 256
      → IsRun T (HasType a.result) Nothing (IsStatement T a y) (made_by_statement y) (used_by_statement T y) (judge_statement a (erased_statement y)) y

  pub empty-run : IsStatementRun typed.Empty
  unfolding judge_statement
  empty-run a holds = run-none T (HasType a.result) Nothing (judge_statement a tree.Empty) typed.Empty (λ s here w. (refl, tt))

  pub express-run : (e : TypedExpr) → IsStatementRun (typed.Express e)
  unfolding judge_statement
  express-run e a holds s k n count here c h numbers uses room =
      let N = HasType a.result in
      run-last T N (HasType (type_of e)) Nothing (type-kept a.result) (Among (IsTyped T e)) (made_by e) (used_by T e) (lifted (checked (erased e))) (λ v. pure (typed.Express v)) e (typed.Express e)
      (run-as T Nothing N (HasType (type_of e)) (HasType (type_of e)) (Among (IsTyped T e)) (Among (IsTyped T e)) (made_by e) (used_by T e) (lifted (checked (erased e))) e (λ J w. tt) (λ J w. w)
      (λ x y w. w) (dropped-run e h.2 holds))
      (λ r there w v. (refl, tt)) s k n count here c (h.0, h.1, h.3) numbers uses room

  pub if-run : (at paren : Place) (c : TypedExpr) (x : TypedStatement) → IsStatementRun x → IsStatementRun (typed.If at paren c x)
  unfolding judge_statement
  if-run at paren c x p a holds s k n count here w h numbers uses room =
      let N = HasType a.result in
      let u = expr_holds (erased c) in
      let v = statement_holds (erased_statement x) in
      let P = Inside T (IsStatement T a x) in
      let body = within at (judge_statement a (erased_statement x)) in
      let rest : TypedExpr → UnitJudging TypedStatement = λ test. body >>= (λ one. tested at test (typed.If at paren test one)) in
      within-run T N Nothing (Then (IsTested T c) P) (made_by c ++ made_by_statement x) (used_by T c ++ used_by_statement T x) (lifted (checked (erased c)) >>= rest) (typed.If at paren c x) at
      (test-then N (type-kept a.result) c h.2.2 (left-held u v 256 holds) P (made_by_statement x) (used_by_statement T x) rest (typed.If at paren c x)
      (tested-last N (type-kept a.result) c h.2.2 at P (made_by_statement x) (used_by_statement T x) body x (typed.If at paren c)
      (within-run T N Nothing (IsStatement T a x) (made_by_statement x) (used_by_statement T x) (judge_statement a (erased_statement x)) x at (p a (right-held u v 256 holds)))))
      s k n count here w (leaving_known h.1, (h.0, h.2, (h.1, h.3, refl)), h.4) numbers uses room

  pub while-run : (at paren : Place) (c : TypedExpr) (x : TypedStatement) → IsStatementRun x → IsStatementRun (typed.While at paren c x)
  unfolding judge_statement
  while-run at paren c x p a holds s k n count here w h numbers uses room =
      let N = HasType a.result in
      let u = expr_holds (erased c) in
      let v = statement_holds (erased_statement x) in
      let b : Around = in_a_loop a in
      let P = Inside T (IsStatement T b x) in
      let body = within at (judge_statement b (erased_statement x)) in
      let rest : TypedExpr → UnitJudging TypedStatement = λ test. body >>= (λ one. tested at test (typed.While at paren test one)) in
      within-run T N Nothing (Then (IsTested T c) P) (made_by c ++ made_by_statement x) (used_by T c ++ used_by_statement T x) (lifted (checked (erased c)) >>= rest) (typed.While at paren c x) at
      (test-then N (type-kept a.result) c h.2.2 (left-held u v 256 holds) P (made_by_statement x) (used_by_statement T x) rest (typed.While at paren c x)
      (tested-last N (type-kept a.result) c h.2.2 at P (made_by_statement x) (used_by_statement T x) body x (typed.While at paren c)
      (within-run T N Nothing (IsStatement T b x) (made_by_statement x) (used_by_statement T x) (judge_statement b (erased_statement x)) x at (p b (right-held u v 256 holds)))))
      s k n count here w (leaving_known h.1, (h.0, h.2, (h.1, h.3, refl)), h.4) numbers uses room

  pub if-else-run : (at paren : Place) (c : TypedExpr) (x y : TypedStatement) → IsStatementRun x → IsStatementRun y → IsStatementRun (typed.IfElse at paren c x y)
  unfolding judge_statement
  if-else-run at paren c x y p q a holds s k n count here w h numbers uses room =
      let N = HasType a.result in
      let tc = type_of c in
      let u = expr_holds (erased c) in
      let v1 = statement_holds (erased_statement x) in
      let v2 = statement_holds (erased_statement y) in
      let rest = right-held u (max v1 v2) 256 holds in
      let P = Inside T (IsStatement T a x) in
      let Q = Inside T (IsStatement T a y) in
      let xs = made_by c in
      let ys = made_by_statement x in
      let zs = made_by_statement y in
      let us = used_by T c in
      let vs = used_by_statement T x in
      let ws = used_by_statement T y in
      let whole : TypedStatement = typed.IfElse at paren c x y in
      let first = within at (judge_statement a (erased_statement x)) in
      let second = within at (judge_statement a (erased_statement y)) in
      let behind : TypedExpr → TypedStatement → UnitJudging TypedStatement = λ test one. second >>= (λ two. tested at test (typed.IfElse at paren test one two)) in
      let after : TypedExpr → UnitJudging TypedStatement = λ test. first >>= (λ one. behind test one) in
      let other = tested-last N (type-kept a.result) c h.3.2 at Q zs ws second y (typed.IfElse at paren c x)
      (within-run T N Nothing (IsStatement T a y) zs ws (judge_statement a (erased_statement y)) y at (q a (right-held v1 v2 256 rest))) in
      let both : IsRun T (And N (HasType tc)) Nothing (Then P Q) (ys ++ zs) (vs ++ ws) (after c) whole =
      run-then T (And N (HasType tc)) Nothing Nothing (both-kept N (HasType tc) (type-kept a.result) (type-kept tc)) P Q ys zs vs ws first (λ one. behind c one) x whole
      (run-as T N (And N (HasType tc)) Nothing Nothing P P ys vs first x (λ J e. e.0) (λ J e. e) (λ i j e. e)
      (within-run T N Nothing (IsStatement T a x) ys vs (judge_statement a (erased_statement x)) x at (p a (left-held v1 v2 256 rest))))
      (run-as T (And N (HasType tc)) (And (And N (HasType tc)) Nothing) Nothing Nothing Q Q zs ws (behind c x) whole (λ J e. e.0) (λ J e. e) (λ i j e. e) other) in
      within-run T N Nothing (Then (IsTested T c) (Then P Q)) (xs ++ ys ++ zs) (us ++ vs ++ ws) (lifted (checked (erased c)) >>= after) whole at
      (run-three T N Nothing (Then (IsTested T c) (Then P Q)) xs ys zs us vs ws (lifted (checked (erased c)) >>= after) whole
      (test-then N (type-kept a.result) c h.3.2 (left-held u (max v1 v2) 256 holds) (Then P Q) (ys ++ zs) (vs ++ ws) after whole both))
      s k n count here w (leaving_known h.2, (h.0, h.3, (leaving_known h.1, (h.1, h.4, refl), (h.2, h.5, refl))), h.6) numbers uses room

  pub do-while-run : (x : TypedStatement) (at paren : Place) (c : TypedExpr) → IsStatementRun x → IsStatementRun (typed.DoWhile x at paren c)
  unfolding judge_statement
  do-while-run x at paren c p a holds s k n count here w h numbers uses room =
      let N = HasType a.result in
      let tc = type_of c in
      let b : Around = in_a_loop a in
      let u = expr_holds (erased c) in
      let v = statement_holds (erased_statement x) in
      let P = Inside T (IsStatement T b x) in
      let body = within at (judge_statement b (erased_statement x)) in
      let rest : TypedStatement → UnitJudging TypedStatement = λ one. lifted (checked (erased c)) >>= (λ test. tested at test (typed.DoWhile one at paren test)) in
      let last : IsRun T (And N Nothing) Nothing (IsTested T c) (made_by c) (used_by T c) (rest x) (typed.DoWhile x at paren c) =
      run-last T (And N Nothing) (HasType tc) Nothing (both-kept N Nothing (type-kept a.result) nothing-kept) (IsTested T c) (made_by c) (used_by T c) (lifted (checked (erased c)))
      (λ test. tested at test (typed.DoWhile x at paren test)) c (typed.DoWhile x at paren c)
      (run-as T Nothing (And N Nothing) (HasType tc) (HasType tc) (Among (IsTyped T c)) (IsTested T c) (made_by c) (used_by T c) (lifted (checked (erased c))) c (λ J e. tt) (λ J e. e)
      (λ i j e. (e.0, e.1, e.3)) (dropped-run c (plain-droppable c h.3.2.plain) (right-held v u 256 holds)))
      (λ r there e f. (tested-gives at c (typed.DoWhile x at paren c) r there f h.3.2.scalar, tt)) in
      within-run T N Nothing (Then P (IsTested T c)) (made_by_statement x ++ made_by c) (used_by_statement T x ++ used_by T c) (body >>= rest) (typed.DoWhile x at paren c) at
      (run-then T N Nothing Nothing (type-kept a.result) P (IsTested T c) (made_by_statement x) (made_by c) (used_by_statement T x) (used_by T c) body rest x (typed.DoWhile x at paren c)
      (within-run T N Nothing (IsStatement T b x) (made_by_statement x) (used_by_statement T x) (judge_statement b (erased_statement x)) x at (p b (left-held v u 256 holds))) last)
      s k n count here w (h.1, (leaving_known h.0, (h.0, h.2, refl), h.3), h.4) numbers uses room

  jump_gives : (at : Place) (allowed : Bool) (one : TypedStatement) (r : UnitState) → allowed ≡ true → jump at allowed one r ≡ Gives one r
  unfolding jump
  jump_gives at allowed one r h = obeying-is (λ (s : UnitState). jump_tests at allowed) (pure one) r (Gives one r) (passes_one rule.Mismatch at (not allowed) (off allowed h)) refl

  pub break-run : (at : Place) → IsStatementRun (typed.Break at)
  unfolding judge_statement
  break-run at a holds s k n count here w h numbers uses room =
      run-none T (HasType a.result) Nothing (judge_statement a (tree.Break at)) (typed.Break at) (λ r there e. (jump_gives at a.breakable (typed.Break at) r h.1, tt)) s k n count here w h.0 numbers uses room

  pub continue-run : (at : Place) → IsStatementRun (typed.Continue at)
  unfolding judge_statement
  continue-run at a holds s k n count here w h numbers uses room =
      run-none T (HasType a.result) Nothing (judge_statement a (tree.Continue at)) (typed.Continue at) (λ r there e. (jump_gives at a.in_loop (typed.Continue at) r h.1, tt)) s k n count here w h.0 numbers uses room
