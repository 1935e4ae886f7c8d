-- Declarations are given: specifiers, and the declarators behind them.
use Rattle.std.proofs.Common.{◌≡◌, ◌≤◌, max, Bool, true, false, ◌++◌, refl}
use Rattle.c_types.specs.Table.{Table}
use Rattle.c_tree.specs.Erasure.{erased_specifiers, erased_init_declarators, erased_declaration}
use Rattle.c_tree.specs.TypedTree as typed
use Rattle.c_tree.specs.TypedTree.{TypedSpecifiers, TypedInitDeclarators, TypedDeclaration}
use Rattle.c_tree.specs.TypedParts.{made_by_specifiers, made_by_init_declarators, made_by_declaration, specified_type}
use Rattle.c_typing.specs.Judging as judging
use Rattle.c_typing.specs.Judging.{State}
use Rattle.c_typing.specs.Scopes.{Scopes}
use Rattle.c_typing.specs.Settled.{IsBasic}
use Rattle.c_typing.specs.Typing.{AreSpecifiers, AreAlone}
use Rattle.c_typing.specs.Walks.{judge_specifiers_of}
use Rattle.c_typing_laws.proofs.JudgedWhole.{specifiers_of-judged}
use Rattle.c_typing_given.specs.Given.{IsHere}
use Rattle.c_unit_typing.specs.Holding.{specifiers_holds, init_declarators_holds, declaration_holds}
use Rattle.c_type_order.specs.TypesUsed.{used_by_specifiers}
use Rattle.c_unit_typing.specs.DeclarationJudging.{judge_init_declarators, judge_declaration}
use Rattle.c_unit_typing.specs.Units.{with_scopes, storage_of, AreDeclarators, IsDeclaration}
use Rattle.c_unit_typing.specs.UnitJudging.{UnitJudging, known_of, pure, lifted, ◌>>=◌}
use Rattle.c_unit_given.proofs.UnitGiven.{AreSizesWritten, IsRun, Nothing, And, HasType, IsPartRun, Always, IsScopeKept, AreScopesKept, AreExpressionsGiven, AreDeclaratorsGiven}
use Rattle.c_unit_typing.specs.TypesUsed.{used_by_init_declarators, used_by_declaration}
use Rattle.c_unit_given.proofs.DeclarationsGiven.{left-held, right-held, declarators-run}
use Rattle.c_unit_given.proofs.Runs.{Among, Then, run-then, run-last, run-as, run-lifted, nothing-kept, type-kept}

module _ (T : Table) (basic : IsBasic T) (exprs : AreExpressionsGiven T) (scopes : AreScopesKept T) (decls : AreDeclaratorsGiven T) (sizes : AreSizesWritten T) where
  abbrev pub IsDeclarationRun : TypedDeclaration → Type 0
  IsDeclarationRun one =
      (file : Bool) → declaration_holds (erased_declaration one) ≤ 256
      → IsRun T Nothing Nothing (IsDeclaration T file one) (made_by_declaration one) (used_by_declaration T one) (judge_declaration file (erased_declaration one)) one

  module _ (file : Bool) (x : TypedSpecifiers) (list : TypedInitDeclarators) (holds : max (specifiers_holds (erased_specifiers x)) (init_declarators_holds (erased_init_declarators list)) ≤ 256) where
    -- specifiers, and then declarators
    both_run : (alone : Bool) (P : Scopes → Scopes → Type 0) → ((a b : Scopes) → P a b → IsScopeKept a b)
        → IsPartRun T P (made_by_specifiers x) (used_by_specifiers T x) Always (judge_specifiers_of alone (erased_specifiers x)) x
        → IsRun T Nothing Nothing (Then (Among P) (AreDeclarators T file (storage_of x) (specified_type x) list)) (made_by_specifiers x ++ made_by_init_declarators list)
        (used_by_specifiers T x ++ used_by_init_declarators T list)
        (lifted (judge_specifiers_of alone (erased_specifiers x)) >>= (λ base. judge_init_declarators file base (erased_init_declarators list) >>= (λ all. pure (typed.Declare base all)))) (typed.Declare x list)
    both_run alone P keeps part =
        let u = specified_type x in
        let Q = AreDeclarators T file (storage_of x) u list in
        let xs = made_by_specifiers x in
        let ys = made_by_init_declarators list in
        let us = used_by_specifiers T x in
        let vs = used_by_init_declarators T list in
        let give : TypedInitDeclarators → UnitJudging TypedDeclaration = λ all. pure (typed.Declare x all) in
        let there : (s q : State) → IsHere T s → Nothing s.table → judge_specifiers_of alone (erased_specifiers x) s ≡ judging.Gives x q → HasType u q.table =
        λ s q here w g. (specifiers_of-judged alone (erased_specifiers x) x s q here.known g).there in
        let first = run-lifted T Nothing (HasType u) P xs us Always (judge_specifiers_of alone (erased_specifiers x)) x keeps part (λ s w. tt) there in
        let rest = declarators-run T basic exprs scopes decls sizes list file x (right-held (specifiers_holds (erased_specifiers x)) (init_declarators_holds (erased_init_declarators list)) 256 holds) in
        let last =
        run-as T (HasType u) (And Nothing (HasType u)) Nothing Nothing Q Q ys vs (judge_init_declarators file x (erased_init_declarators list) >>= give) (typed.Declare x list) (λ J w. w.1) (λ J w. w)
        (λ a b w. w)
        (run-last T (HasType u) Nothing Nothing (type-kept u) Q ys vs (judge_init_declarators file x (erased_init_declarators list)) give list (typed.Declare x list) rest (λ r here w v. (refl, tt))) in
        run-then T Nothing (HasType u) Nothing nothing-kept (Among P) Q xs ys us vs (lifted (judge_specifiers_of alone (erased_specifiers x)))
        (λ base. judge_init_declarators file base (erased_init_declarators list) >>= (λ all. pure (typed.Declare base all))) x (typed.Declare x list) first last

  few : (x : TypedSpecifiers) (list : TypedInitDeclarators) → declaration_holds (erased_declaration (typed.Declare x list)) ≤ 256 → specifiers_holds (erased_specifiers x) ≤ 256
  few x list h = left-held (specifiers_holds (erased_specifiers x)) (init_declarators_holds (erased_init_declarators list)) 256 h

  -- a declaration that is well typed is given
  pub declaration-run : (one : TypedDeclaration) → IsDeclarationRun one
  unfolding judge_declaration
  declaration-run (typed.Declare x typed.NoInitDeclarator) file holds s k n count here c h numbers uses room =
      both_run file x typed.NoInitDeclarator holds true (AreAlone T x) (scopes.alone x) (decls.alone x (few x typed.NoInitDeclarator holds)) s k n count here c (k, h, refl) numbers uses room
  declaration-run (typed.Declare x (typed.AndPlain all d)) file holds s k n count here c h numbers uses room =
      both_run file x (typed.AndPlain all d) holds false (AreSpecifiers T x) (scopes.specifiers x) (decls.specifiers x (few x (typed.AndPlain all d) holds)) s k n count here c
      (with_scopes (known_of s) h.0, (h.0, h.1, refl), h.2) numbers uses room
  declaration-run (typed.Declare x (typed.AndInitialised all d at i)) file holds s k n count here c h numbers uses room =
      both_run file x (typed.AndInitialised all d at i) holds false (AreSpecifiers T x) (scopes.specifiers x) (decls.specifiers x (few x (typed.AndInitialised all d at i) holds)) s k n count here c
      (with_scopes (known_of s) h.0, (h.0, h.1, refl), h.2) numbers uses room
