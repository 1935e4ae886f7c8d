use Rattle.std.proofs.Common.{false}
use Rattle.cc_base.specs.declared.fault.Fault.TheVariants.{Refused}
use Rattle.c_tree.specs.TypedParts.{made_by_declarator, specified_type}
use Rattle.c_tree.specs.TypedViews.{typed_declarator_view, typed_specifiers_view}
use Rattle.c_tree.specs.Views.{declarator_view}
use Rattle.c_typing.specs.Judging.{known}
use Rattle.c_typing_laws.specs.Judged.{IsDeclaratorJudged, DeclaratorFails, IsRefused}
use Rattle.c_typing_laws.specs.Numbers.{AreNumberedFrom}
use Rattle.c_typing_laws.proofs.AnswerLaws.{given-ok, refused-err}
use Rattle.c_typing_laws.proofs.JudgedWhole.{declarator-at}
use Rattle.c_typing_laws.proofs.NumberedWhole.{declarator-numbers}
use Rattle.c_typing_laws.proofs.RefusedWhole.{declarator-refuses}
use Rattle.c_tree.specs.Places.{nowhere}
use Rattle.c_typing.specs.Declaring.{declarator_name}
use Rattle.c_typing.specs.Refusals.{name_place}
use Rattle.c_typing.specs.Walks.{judge_declarator, outermost_of}
use Rattle.c_check_expr.proofs.GivenLaws.{declares-given}
use Rattle.c_check_expr.proofs.AcceptedLaws.{accepted}
use Rattle.c_unit_typing.specs.Holding.{declarator_holds}
use Rattle.c_check_expr.specs.Limited.{IsWithin}
use Rattle.c_check_expr.proofs.LimitFacts.{declarator-within}
use Rattle.c_typing.proofs.GrowingLaws.{grown-same}
use Rattle.c_check_expr.proofs.calls.check_declarator.Goals as goal

pub returns-clause-typed : goal.returns-clause-typed
returns-clause-typed c k b =
    given-ok typed_declarator_view (judge_declarator c.args.naming (typed_specifiers_view c.args.base.now) c.args.size (declarator_view c.args.d.now) (known c.args.types.now c.args.scope.now)) c.declarator_behind.result (known c.declarator_behind.new.types c.declarator_behind.new.scope) (λ v. IsDeclaratorJudged c.args.naming (outermost_of c.args.size) (specified_type (typed_specifiers_view c.args.base.now)) (declarator_view c.args.d.now) v (known c.args.types.now c.args.scope.now) (known c.declarator_behind.new.types c.declarator_behind.new.scope)) (λ v h. declarator-at (name_place (declarator_name (declarator_view c.args.d.now)) nowhere) c.args.naming (specified_type (typed_specifiers_view c.args.base.now)) c.args.size (declarator_view c.args.d.now) v (known c.args.types.now c.args.scope.now) (known c.declarator_behind.new.types c.declarator_behind.new.scope) k b h) c.declarator_behind.ensures.judged

pub returns-clause-numbered : goal.returns-clause-numbered
returns-clause-numbered c k =
    given-ok typed_declarator_view (judge_declarator c.args.naming (typed_specifiers_view c.args.base.now) c.args.size (declarator_view c.args.d.now) (known c.args.types.now c.args.scope.now)) c.declarator_behind.result (known c.declarator_behind.new.types c.declarator_behind.new.scope) (λ v. AreNumberedFrom (made_by_declarator v) (known c.args.types.now c.args.scope.now) (known c.declarator_behind.new.types c.declarator_behind.new.scope)) (λ v h. declarator-numbers (name_place (declarator_name (declarator_view c.args.d.now)) nowhere) c.args.naming (specified_type (typed_specifiers_view c.args.base.now)) c.args.size (declarator_view c.args.d.now) v (known c.args.types.now c.args.scope.now) (known c.declarator_behind.new.types c.declarator_behind.new.scope) k h) c.declarator_behind.ensures.judged

pub returns-clause-refused : goal.returns-clause-refused
returns-clause-refused c k b =
    refused-err typed_declarator_view (judge_declarator c.args.naming (typed_specifiers_view c.args.base.now) c.args.size (declarator_view c.args.d.now) (known c.args.types.now c.args.scope.now)) c.declarator_behind.result (known c.declarator_behind.new.types c.declarator_behind.new.scope) (λ p t. IsRefused (λ T. DeclaratorFails T (outermost_of c.args.size) (specified_type (typed_specifiers_view c.args.base.now)) (declarator_view c.args.d.now) c.args.scope.now.scopes (Refused p t)) (known c.args.types.now c.args.scope.now) (known c.declarator_behind.new.types c.declarator_behind.new.scope)) (λ p t h. declarator-refuses p t c.args.naming (specified_type (typed_specifiers_view c.args.base.now)) c.args.size (declarator_view c.args.d.now) (known c.args.types.now c.args.scope.now) (known c.declarator_behind.new.types c.declarator_behind.new.scope) k b h) c.declarator_behind.ensures.judged

pub returns-clause-accepts : goal.returns-clause-accepts
returns-clause-accepts c T one b count can there read =
    let s = known c.args.types.now c.args.scope.now in
    accepted typed_declarator_view (judge_declarator c.args.naming (typed_specifiers_view c.args.base.now) c.args.size (declarator_view c.args.d.now) s) one T (made_by_declarator one) s b count c.declarator_behind.result (known c.declarator_behind.new.types c.declarator_behind.new.scope)
    (declares-given T c.args.naming (typed_specifiers_view c.args.base.now) c.args.size (declarator_view c.args.d.now) one s b count can there read) c.declarator_behind.ensures.judged

pub returns-clause-limited : goal.returns-clause-limited
returns-clause-limited c =
    let s = known c.args.types.now c.args.scope.now in
    let r = known c.declarator_behind.new.types c.declarator_behind.new.scope in
    given-ok typed_declarator_view (judge_declarator c.args.naming (typed_specifiers_view c.args.base.now) c.args.size (declarator_view c.args.d.now) s) c.declarator_behind.result r (λ v. IsWithin (declarator_holds (declarator_view c.args.d.now)) s r)
    (λ v h. declarator-within c.args.naming (typed_specifiers_view c.args.base.now) c.args.size (declarator_view c.args.d.now) v s r h) c.declarator_behind.ensures.judged

pub returns-clause-grown : goal.returns-clause-grown
returns-clause-grown c = c.declarator_behind.ensures.grows false (known c.args.types.now c.args.scope.now) (grown-same false (known c.args.types.now c.args.scope.now))
