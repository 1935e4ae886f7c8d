-- `for` is given.
use Rattle.std.proofs.Common.{◌≡◌, ◌≤◌, max, ◌++◌, Option, Some, None, refl}
use Rattle.cc_base.specs.declared.place.Place.{Place}
use Rattle.c_types.specs.Table.{Table}
use Rattle.c_tree.specs.Erasure.{erased, erased_optional, erased_statement}
use Rattle.c_tree.specs.TypedTree as typed
use Rattle.c_tree.specs.TypedTree.{TypedExpr, TypedStatement}
use Rattle.c_tree.specs.TypedParts.{made_by, made_by_optional, made_by_statement, type_of}
use Rattle.c_typing.specs.Checking.{checked}
use Rattle.c_typing.specs.Settled.{IsBasic}
use Rattle.c_typing.specs.Shapes.{IsScalar}
use Rattle.c_typing.specs.Typing.{IsTyped}
use Rattle.c_type_order.specs.TypesUsed.{used_by}
use Rattle.c_unit_typing.specs.Holding.{optional_holds, statement_holds}
use Rattle.c_unit_typing.specs.StatementJudging.{dropped, tested_or_none, within, judge_statement}
use Rattle.c_unit_typing.specs.Units.{Known, Around, in_a_loop, leaving_known, IsDropped, IsTestedOrNone, IsStatement}
use Rattle.c_unit_typing.specs.UnitJudging.{UnitState, UnitJudging, Gives, pure, lifted, ◌>>=◌}
use Rattle.c_unit_given.proofs.UnitGiven.{IsUnitHere, IsRun, IsKept, Nothing, And, HasType, AreScopesKept, AreExpressionsGiven}
use Rattle.c_unit_typing.specs.TypesUsed.{used_by_optional, used_by_statement}
use Rattle.c_unit_given.proofs.DeclarationsGiven.{left-held, right-held}
use Rattle.c_unit_given.proofs.Runs.{Among, Then, run-then, run-last, run-as, run-none, run-three, nothing-kept, type-kept, both-kept}
use Rattle.c_unit_given.proofs.ScopesGiven.{Inside, within-run}
use Rattle.c_unit_given.proofs.StatementsGiven.{IsStatementRun, dropped-run, tested-gives, plain-droppable}

-- the type of an expression that stands there is in the table
abbrev pub IsOptionThere : Option TypedExpr → Table → Type 0
IsOptionThere None J = Unit {0}
IsOptionThere (Some e) J = HasType (type_of e) J

option-kept : (e : Option TypedExpr) → IsKept (IsOptionThere e)
option-kept None J U x b h = tt
option-kept (Some e) J U x b h = type-kept (type_of e) J U x b h

abbrev pub IsScalarIf : Table → Option TypedExpr → Type 0
IsScalarIf T None = Unit {0}
IsScalarIf T (Some e) = IsScalar T (type_of e)

pub scalar-if : (T : Table) (e : Option TypedExpr) (k k' : Known) → IsTestedOrNone T e k k' → IsScalarIf T e
scalar-if T None k k' h = tt
scalar-if T (Some e) k k' h = h.2.scalar

module _ (T : Table) (basic : IsBasic T) (exprs : AreExpressionsGiven T) (scopes : AreScopesKept T) where
  pub option-run : (e : Option TypedExpr) → optional_holds (erased_optional e) ≤ 256
      → IsRun T Nothing Nothing (IsDropped T e) (made_by_optional e) (used_by_optional T e) (dropped (erased_optional e)) e
  unfolding dropped
  option-run None holds s k n count here w h numbers uses room = run-none T Nothing Nothing (dropped None) None (λ r there i. (refl, tt)) s k n count here w h numbers uses room
  option-run (Some e) holds s k n count here w h numbers uses room =
      run-last T Nothing (HasType (type_of e)) Nothing nothing-kept (Among (IsTyped T e)) (made_by e) (used_by T e) (lifted (checked (erased e))) (λ v. pure (Some v)) e (Some e)
      (dropped-run T basic exprs scopes e h.2 holds) (λ r there i j. (refl, tt)) s k n count here w (h.0, h.1, h.3) numbers uses room

  pub test-option-run : (e : Option TypedExpr) → optional_holds (erased_optional e) ≤ 256
      → IsRun T Nothing (IsOptionThere e) (IsTestedOrNone T e) (made_by_optional e) (used_by_optional T e) (dropped (erased_optional e)) e
  unfolding dropped
  test-option-run None holds s k n count here w h numbers uses room =
      run-none T Nothing (IsOptionThere None) (dropped None) None (λ r there i. (refl, tt)) s k n count here w h numbers uses room
  test-option-run (Some e) holds s k n count here w h numbers uses room =
      run-last T Nothing (HasType (type_of e)) (HasType (type_of e)) nothing-kept (Among (IsTyped T e)) (made_by e) (used_by T e) (lifted (checked (erased e))) (λ v. pure (Some v)) e (Some e)
      (dropped-run T basic exprs scopes e (plain-droppable e h.2.plain) holds) (λ r there i j. (refl, j)) s k n count here w (h.0, h.1, h.3) numbers uses room

  tested-or-none-gives : (at : Place) (c : Option TypedExpr) (one : TypedStatement) (r : UnitState) → IsUnitHere T r → IsOptionThere c r.table → IsScalarIf T c → tested_or_none at c one r ≡ Gives one r
  unfolding tested_or_none
  tested-or-none-gives at None one r here there scalar = refl
  tested-or-none-gives at (Some c) one r here there scalar = tested-gives T basic exprs scopes at c one r here there scalar

  -- the test, the step and the body of a loop
  pub loop-run : (a : Around) (at : Place) (test step : Option TypedExpr) (x : TypedStatement) (g : Option TypedExpr → Option TypedExpr → TypedStatement → TypedStatement) → IsStatementRun T basic exprs scopes x
      → IsScalarIf T test → optional_holds (erased_optional test) ≤ 256 → optional_holds (erased_optional step) ≤ 256 → statement_holds (erased_statement x) ≤ 256
      → IsRun T (HasType a.result) Nothing (Then (IsTestedOrNone T test) (Then (IsDropped T step) (Inside T (IsStatement T (in_a_loop a) x)))) (made_by_optional test ++ (made_by_optional step ++ made_by_statement x))
      (used_by_optional T test ++ (used_by_optional T step ++ used_by_statement T x))
      (dropped (erased_optional test) >>= (λ c. dropped (erased_optional step) >>= (λ after. within at (judge_statement (in_a_loop a) (erased_statement x)) >>= (λ one. tested_or_none at c (g c after one)))))
      (g test step x)
  loop-run a at test step x g p scalar hold_test hold_step hold_body =
      let N = HasType a.result in
      let C = IsOptionThere test in
      let b : Around = in_a_loop a in
      let NC = And N C in
      let keep = both-kept N C (type-kept a.result) (option-kept test) in
      let P = IsTestedOrNone T test in
      let Q = IsDropped T step in
      let R = Inside T (IsStatement T b x) in
      let inner = within at (judge_statement b (erased_statement x)) in
      let xs = made_by_optional test in
      let ys = made_by_optional step in
      let zs = made_by_statement x in
      let us = used_by_optional T test in
      let vs = used_by_optional T step in
      let ws = used_by_statement T x in
      let body : IsRun T (And NC Nothing) Nothing R zs ws (inner >>= (λ one. tested_or_none at test (g test step one))) (g test step x) =
      run-last T (And NC Nothing) Nothing Nothing (both-kept NC Nothing keep nothing-kept) R zs ws inner (λ one. tested_or_none at test (g test step one)) x (g test step x)
      (run-as T N (And NC Nothing) Nothing Nothing R R zs ws inner x (λ J w. w.0.0) (λ J w. w) (λ k k' w. w)
      (within-run T N Nothing (IsStatement T b x) zs ws (judge_statement b (erased_statement x)) x at (p b hold_body)))
      (λ r here w v. (tested-or-none-gives at test (g test step x) r here w.0.1 scalar, tt)) in
      let steps : IsRun T NC Nothing (Then Q R) (ys ++ zs) (vs ++ ws)
      (dropped (erased_optional step) >>= (λ after. inner >>= (λ one. tested_or_none at test (g test after one)))) (g test step x) =
      run-then T NC Nothing Nothing keep Q R ys zs vs ws (dropped (erased_optional step)) (λ after. inner >>= (λ one. tested_or_none at test (g test after one))) step (g test step x)
      (run-as T Nothing NC Nothing Nothing Q Q ys vs (dropped (erased_optional step)) step (λ J w. tt) (λ J w. w) (λ k k' w. w) (option-run step hold_step)) body in
      run-then T N C Nothing (type-kept a.result) P (Then Q R) xs (ys ++ zs) us (vs ++ ws) (dropped (erased_optional test))
      (λ c. dropped (erased_optional step) >>= (λ after. inner >>= (λ one. tested_or_none at c (g c after one)))) test (g test step x)
      (run-as T Nothing N C C P P xs us (dropped (erased_optional test)) test (λ J w. tt) (λ J w. w) (λ k k' w. w) (test-option-run test hold_test)) steps

  pub for-run : (at paren : Place) (first test step : Option TypedExpr) (x : TypedStatement) → IsStatementRun T basic exprs scopes x → IsStatementRun T basic exprs scopes (typed.For at paren first test step x)
  unfolding judge_statement
  for-run at paren first test step x p a holds s k n count here w h numbers uses room =
      let N = HasType a.result in
      let b : Around = in_a_loop a in
      let h1 = optional_holds (erased_optional first) in
      let h2 = optional_holds (erased_optional test) in
      let h3 = optional_holds (erased_optional step) in
      let h4 = statement_holds (erased_statement x) in
      let r1 = right-held h1 (max h2 (max h3 h4)) 256 holds in
      let r2 = right-held h2 (max h3 h4) 256 r1 in
      let O = IsDropped T first in
      let P = IsTestedOrNone T test in
      let Q = IsDropped T step in
      let R = Inside T (IsStatement T b x) in
      let inner = within at (judge_statement b (erased_statement x)) in
      let os = made_by_optional first in
      let xs = made_by_optional test in
      let ys = made_by_optional step in
      let zs = made_by_statement x in
      let ts = used_by_optional T first in
      let us = used_by_optional T test in
      let vs = used_by_optional T step in
      let ws = used_by_statement T x in
      let whole : TypedStatement = typed.For at paren first test step x in
      let m : UnitJudging TypedStatement = dropped (erased_optional first) >>= (λ before. dropped (erased_optional test) >>= (λ c. dropped (erased_optional step) >>= (λ after. inner
      >>= (λ one. tested_or_none at c (typed.For at paren before c after one))))) in
      let loop =
      loop-run a at test step x (λ c after one. typed.For at paren first c after one) p (scalar-if T test h.0 h.1 h.5) (left-held h2 (max h3 h4) 256 r1) (left-held h3 h4 256 r2) (right-held h3 h4 256 r2) in
      let all =
      run-then T N Nothing Nothing (type-kept a.result) O (Then P (Then Q R)) os (xs ++ (ys ++ zs)) ts (us ++ (vs ++ ws)) (dropped (erased_optional first))
      (λ before. dropped (erased_optional test) >>= (λ c. dropped (erased_optional step) >>= (λ after. inner
      >>= (λ one. tested_or_none at c (typed.For at paren before c after one))))) first whole
      (run-as T Nothing N Nothing Nothing O O os ts (dropped (erased_optional first)) first (λ J i. tt) (λ J i. i) (λ i j e. e) (option-run first (left-held h1 (max h2 (max h3 h4)) 256 holds)))
      (run-as T N (And N Nothing) Nothing Nothing (Then P (Then Q R)) (Then P (Then Q R)) (xs ++ (ys ++ zs)) (us ++ (vs ++ ws))
      (dropped (erased_optional test) >>= (λ c. dropped (erased_optional step) >>= (λ after. inner
      >>= (λ one. tested_or_none at c (typed.For at paren first c after one))))) whole (λ J i. i.0) (λ J i. i) (λ i j e. e) loop) in
      within-run T N Nothing (Then O (Then P (Then Q R))) (os ++ xs ++ ys ++ zs) (ts ++ us ++ vs ++ ws) m whole at
      (run-three T N Nothing (Then O (Then P (Then Q R))) (os ++ xs) ys zs (ts ++ us) vs ws m whole (run-three T N Nothing (Then O (Then P (Then Q R))) os xs (ys ++ zs) ts us (vs ++ ws) m whole all))
      s k n count here w (leaving_known h.3, (h.0, h.4, (h.1, h.5, (h.2, h.6, (h.3, h.7, refl)))), h.8) numbers uses room
