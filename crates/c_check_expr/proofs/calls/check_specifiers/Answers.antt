use Rattle.std.proofs.Common.{false}
use Rattle.cc_base.specs.declared.fault.Fault.TheVariants.{Refused}
use Rattle.c_tree.specs.TypedParts.{made_by_specifiers}
use Rattle.c_tree.specs.TypedViews.{typed_specifiers_view}
use Rattle.c_tree.specs.Views.{specifiers_view}
use Rattle.c_typing.specs.Judging.{known}
use Rattle.c_typing_laws.specs.Judged.{AreSpecifiersJudged, SpecifiersFail, IsRefused}
use Rattle.c_typing_laws.specs.Numbers.{AreNumberedFrom}
use Rattle.c_typing_laws.proofs.AnswerLaws.{given-ok, refused-err}
use Rattle.c_typing_laws.proofs.JudgedWhole.{specifiers_of-judged}
use Rattle.c_typing_laws.proofs.NumberedWhole.{specifiers-numbers}
use Rattle.c_typing_laws.proofs.RefusedWhole.{specifiers_of-refuses}
use Rattle.c_typing.specs.Walks.{judge_specifiers_of}
use Rattle.c_check_expr.proofs.GivenLaws.{specifiers-by-given}
use Rattle.c_check_expr.proofs.AcceptedLaws.{accepted}
use Rattle.c_unit_typing.specs.Holding.{specifiers_holds}
use Rattle.c_check_expr.specs.Limited.{IsWithin}
use Rattle.c_check_expr.proofs.LimitFacts.{specifiers-within}
use Rattle.c_typing.proofs.GrowingLaws.{grown-same}
use Rattle.c_check_expr.proofs.calls.check_specifiers.Goals as goal

pub returns-clause-typed : goal.returns-clause-typed
returns-clause-typed c k =
    given-ok typed_specifiers_view (judge_specifiers_of c.args.alone (specifiers_view c.args.specifiers.now) (known c.args.types.now c.args.scope.now)) c.specifiers_by.result (known c.specifiers_by.new.types c.specifiers_by.new.scope) (λ v. AreSpecifiersJudged c.args.alone (specifiers_view c.args.specifiers.now) v (known c.args.types.now c.args.scope.now) (known c.specifiers_by.new.types c.specifiers_by.new.scope)) (λ v h. specifiers_of-judged c.args.alone (specifiers_view c.args.specifiers.now) v (known c.args.types.now c.args.scope.now) (known c.specifiers_by.new.types c.specifiers_by.new.scope) k h) c.specifiers_by.ensures.answers

pub returns-clause-numbered : goal.returns-clause-numbered
returns-clause-numbered c k =
    given-ok typed_specifiers_view (judge_specifiers_of c.args.alone (specifiers_view c.args.specifiers.now) (known c.args.types.now c.args.scope.now)) c.specifiers_by.result (known c.specifiers_by.new.types c.specifiers_by.new.scope) (λ v. AreNumberedFrom (made_by_specifiers v) (known c.args.types.now c.args.scope.now) (known c.specifiers_by.new.types c.specifiers_by.new.scope)) (λ v h. specifiers-numbers c.args.alone (specifiers_view c.args.specifiers.now) v (known c.args.types.now c.args.scope.now) (known c.specifiers_by.new.types c.specifiers_by.new.scope) k h) c.specifiers_by.ensures.answers

pub returns-clause-refused : goal.returns-clause-refused
returns-clause-refused c k =
    refused-err typed_specifiers_view (judge_specifiers_of c.args.alone (specifiers_view c.args.specifiers.now) (known c.args.types.now c.args.scope.now)) c.specifiers_by.result (known c.specifiers_by.new.types c.specifiers_by.new.scope) (λ p t. IsRefused (λ T. SpecifiersFail c.args.alone T (specifiers_view c.args.specifiers.now) c.args.scope.now.scopes (Refused p t)) (known c.args.types.now c.args.scope.now) (known c.specifiers_by.new.types c.specifiers_by.new.scope)) (λ p t h. specifiers_of-refuses p t c.args.alone (specifiers_view c.args.specifiers.now) (known c.args.types.now c.args.scope.now) (known c.specifiers_by.new.types c.specifiers_by.new.scope) k h) c.specifiers_by.ensures.answers

pub returns-clause-accepts : goal.returns-clause-accepts
returns-clause-accepts c T t b count can read =
    let s = known c.args.types.now c.args.scope.now in
    accepted typed_specifiers_view (judge_specifiers_of c.args.alone (specifiers_view c.args.specifiers.now) s) t T (made_by_specifiers t) s b count c.specifiers_by.result (known c.specifiers_by.new.types c.specifiers_by.new.scope)
    (specifiers-by-given T c.args.alone (specifiers_view c.args.specifiers.now) t s b count can read) c.specifiers_by.ensures.answers

pub returns-clause-limited : goal.returns-clause-limited
returns-clause-limited c =
    let s = known c.args.types.now c.args.scope.now in
    let r = known c.specifiers_by.new.types c.specifiers_by.new.scope in
    given-ok typed_specifiers_view (judge_specifiers_of c.args.alone (specifiers_view c.args.specifiers.now) s) c.specifiers_by.result r (λ v. IsWithin (specifiers_holds (specifiers_view c.args.specifiers.now)) s r)
    (λ v h. specifiers-within c.args.alone (specifiers_view c.args.specifiers.now) v s r h) c.specifiers_by.ensures.answers

pub returns-clause-grown : goal.returns-clause-grown
returns-clause-grown c = c.specifiers_by.ensures.grows false (known c.args.types.now c.args.scope.now) (grown-same false (known c.args.types.now c.args.scope.now))
