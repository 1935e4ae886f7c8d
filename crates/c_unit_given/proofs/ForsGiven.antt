-- `for` with a declaration, whose names are in a scope of its own, is given.
use Rattle.std.proofs.Common.{max, false, ◌++◌, Option, refl}
use Rattle.cc_base.specs.declared.place.Place.{Place}
use Rattle.c_types.specs.Table.{Table}
use Rattle.c_tree.specs.Erasure.{erased_optional, erased_statement, erased_declaration}
use Rattle.c_tree.specs.TypedTree as typed
use Rattle.c_tree.specs.TypedTree.{TypedExpr, TypedDeclaration, TypedStatement}
use Rattle.c_tree.specs.TypedParts.{made_by_optional, made_by_statement, made_by_declaration}
use Rattle.c_typing.specs.Settled.{IsBasic}
use Rattle.c_unit_typing.specs.DeclarationJudging.{judge_declaration}
use Rattle.c_unit_typing.specs.Holding.{optional_holds, statement_holds, declaration_holds}
use Rattle.c_unit_typing.specs.StatementJudging.{dropped, tested_or_none, within, judge_statement}
use Rattle.c_unit_typing.specs.Units.{Around, in_a_loop, leaving_known, IsDropped, IsTestedOrNone, IsDeclaration, IsStatement}
use Rattle.c_unit_typing.specs.UnitJudging.{UnitJudging, ◌>>=◌}
use Rattle.c_unit_given.proofs.UnitGiven.{Nothing, And, HasType, AreSizesWritten, AreScopesKept, AreExpressionsGiven, AreDeclaratorsGiven}
use Rattle.c_unit_typing.specs.TypesUsed.{used_by_optional, used_by_statement, used_by_declaration}
use Rattle.c_unit_given.proofs.DeclarationsGiven.{left-held, right-held}
use Rattle.c_unit_given.proofs.DeclarationTrees.{declaration-run}
use Rattle.c_unit_given.proofs.LoopsGiven.{scalar-if, loop-run}
use Rattle.c_unit_given.proofs.Runs.{Then, run-then, run-as, run-three, type-kept}
use Rattle.c_unit_given.proofs.ScopesGiven.{Inside, within-run}
use Rattle.c_unit_given.proofs.StatementsGiven.{IsStatementRun}

module _ (T : Table) (basic : IsBasic T) (exprs : AreExpressionsGiven T) (scopes : AreScopesKept T) (decls : AreDeclaratorsGiven T) (sizes : AreSizesWritten T) where
  pub for-declaration-run : (at paren : Place) (d : TypedDeclaration) (test step : Option TypedExpr) (x : TypedStatement) → IsStatementRun T basic exprs scopes x
      → IsStatementRun T basic exprs scopes (typed.ForDeclaration at paren d test step x)
  unfolding judge_statement
  for-declaration-run at paren d test step x p a holds s k n count here w h numbers uses room =
      let N = HasType a.result in
      let b : Around = in_a_loop a in
      let h1 = declaration_holds (erased_declaration d) in
      let h2 = optional_holds (erased_optional test) in
      let h3 = optional_holds (erased_optional step) in
      let h4 = statement_holds (erased_statement x) in
      let r1 = right-held h1 (max h2 (max h3 h4)) 256 holds in
      let r2 = right-held h2 (max h3 h4) 256 r1 in
      let O = IsDeclaration T false d in
      let P = IsTestedOrNone T test in
      let Q = IsDropped T step in
      let R = Inside T (IsStatement T b x) in
      let os = made_by_declaration d in
      let xs = made_by_optional test in
      let ys = made_by_optional step in
      let zs = made_by_statement x in
      let ts = used_by_declaration T d in
      let us = used_by_optional T test in
      let vs = used_by_optional T step in
      let ws = used_by_statement T x in
      let whole : TypedStatement = typed.ForDeclaration at paren d test step x in
      let inner = within at (judge_statement b (erased_statement x)) in
      let looping : TypedDeclaration → UnitJudging TypedStatement = λ before. dropped (erased_optional test) >>= (λ c. dropped (erased_optional step) >>= (λ after.
      inner >>= (λ one. tested_or_none at c (typed.ForDeclaration at paren before c after one)))) in
      let first = judge_declaration false (erased_declaration d) in
      let m : UnitJudging TypedStatement = first >>= looping in
      let loop =
      loop-run T basic exprs scopes a at test step x (λ c after one. typed.ForDeclaration at paren d c after one) p (scalar-if T test h.0 h.1 h.5) (left-held h2 (max h3 h4) 256 r1) (left-held h3 h4 256 r2)
      (right-held h3 h4 256 r2) in
      let all =
      run-then T N Nothing Nothing (type-kept a.result) O (Then P (Then Q R)) os (xs ++ (ys ++ zs)) ts (us ++ (vs ++ ws)) first looping d whole
      (run-as T Nothing N Nothing Nothing O O os ts first d (λ J i. tt) (λ J i. i) (λ i j e. e)
      (declaration-run T basic exprs scopes decls sizes d false (left-held h1 (max h2 (max h3 h4)) 256 holds)))
      (run-as T N (And N Nothing) Nothing Nothing (Then P (Then Q R)) (Then P (Then Q R)) (xs ++ (ys ++ zs)) (us ++ (vs ++ ws)) (looping d) whole (λ J i. i.0) (λ J i. i) (λ i j e. e) loop) in
      within-run T N Nothing (Then O (Then P (Then Q R))) (os ++ xs ++ ys ++ zs) (ts ++ us ++ vs ++ ws) m whole at
      (run-three T N Nothing (Then O (Then P (Then Q R))) (os ++ xs) ys zs (ts ++ us) vs ws m whole (run-three T N Nothing (Then O (Then P (Then Q R))) os xs (ys ++ zs) ts us (vs ++ ws) m whole all))
      s k n count here w (leaving_known h.3, (h.0, h.4, (h.1, h.5, (h.2, h.6, (h.3, h.7, refl)))), h.8) numbers uses room
