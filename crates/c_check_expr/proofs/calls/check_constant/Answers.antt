use Rattle.std.proofs.Common.{false}
use Rattle.cc_base.specs.declared.fault.Fault.TheVariants.{Refused}
use Rattle.c_tree.specs.TypedParts.{made_by}
use Rattle.c_tree.specs.Views.{expr_view}
use Rattle.c_typing.specs.Judging.{known}
use Rattle.c_typing_laws.specs.Judged.{IsConstantJudged, ConstantFails, IsRefused}
use Rattle.c_typing_laws.specs.Numbers.{AreNumberedFrom}
use Rattle.c_typing_laws.proofs.AnswerLaws.{given-ok, refused-err}
use Rattle.c_typing_laws.proofs.JudgedWhole.{constant-judged}
use Rattle.c_typing_laws.proofs.NumberedWhole.{constant-numbers}
use Rattle.c_typing_laws.proofs.RefusedWhole.{constant-refuses}
use Rattle.c_typing.specs.Checking.{checked_constant}
use Rattle.c_check_walk.specs.CheckingViews.{constant_view}
use Rattle.c_check_expr.proofs.GivenLaws.{number-given}
use Rattle.c_check_expr.proofs.AcceptedLaws.{accepted}
use Rattle.c_unit_typing.specs.Holding.{expr_holds}
use Rattle.c_check_expr.specs.Limited.{IsWithin}
use Rattle.c_check_expr.proofs.LimitFacts.{constant-within}
use Rattle.c_typing.proofs.GrowingLaws.{grown-same}
use Rattle.c_check_expr.proofs.calls.check_constant.Goals as goal

pub returns-clause-typed : goal.returns-clause-typed
returns-clause-typed c k =
    given-ok constant_view (checked_constant (expr_view c.args.e.now) (known c.args.types.now c.args.scope.now)) c.checked_constant.result (known c.checked_constant.new.types c.checked_constant.new.scope) (λ v. IsConstantJudged (expr_view c.args.e.now) v (known c.args.types.now c.args.scope.now) (known c.checked_constant.new.types c.checked_constant.new.scope)) (λ v h. constant-judged (expr_view c.args.e.now) v (known c.args.types.now c.args.scope.now) (known c.checked_constant.new.types c.checked_constant.new.scope) k h) c.checked_constant.ensures.answers

pub returns-clause-numbered : goal.returns-clause-numbered
returns-clause-numbered c k =
    given-ok constant_view (checked_constant (expr_view c.args.e.now) (known c.args.types.now c.args.scope.now)) c.checked_constant.result (known c.checked_constant.new.types c.checked_constant.new.scope) (λ v. AreNumberedFrom (made_by v.expr) (known c.args.types.now c.args.scope.now) (known c.checked_constant.new.types c.checked_constant.new.scope)) (λ v h. constant-numbers (expr_view c.args.e.now) v (known c.args.types.now c.args.scope.now) (known c.checked_constant.new.types c.checked_constant.new.scope) k h) c.checked_constant.ensures.answers

pub returns-clause-refused : goal.returns-clause-refused
returns-clause-refused c k =
    refused-err constant_view (checked_constant (expr_view c.args.e.now) (known c.args.types.now c.args.scope.now)) c.checked_constant.result (known c.checked_constant.new.types c.checked_constant.new.scope) (λ p t. IsRefused (λ T. ConstantFails T (expr_view c.args.e.now) c.args.scope.now.scopes (Refused p t)) (known c.args.types.now c.args.scope.now) (known c.checked_constant.new.types c.checked_constant.new.scope)) (λ p t h. constant-refuses p t (expr_view c.args.e.now) (known c.args.types.now c.args.scope.now) (known c.checked_constant.new.types c.checked_constant.new.scope) k h) c.checked_constant.ensures.answers

pub returns-clause-accepts : goal.returns-clause-accepts
returns-clause-accepts c T v z b count can read plain value =
    let s = known c.args.types.now c.args.scope.now in
    accepted constant_view (checked_constant (expr_view c.args.e.now) s) (record { expr = v; value = z }) T (made_by v) s b count c.checked_constant.result (known c.checked_constant.new.types c.checked_constant.new.scope)
    (number-given T (expr_view c.args.e.now) v s b count can read z plain value) c.checked_constant.ensures.answers

pub returns-clause-limited : goal.returns-clause-limited
returns-clause-limited c =
    let s = known c.args.types.now c.args.scope.now in
    let r = known c.checked_constant.new.types c.checked_constant.new.scope in
    given-ok constant_view (checked_constant (expr_view c.args.e.now) s) c.checked_constant.result r (λ v. IsWithin (expr_holds (expr_view c.args.e.now)) s r)
    (λ v h. constant-within (expr_view c.args.e.now) v s r h) c.checked_constant.ensures.answers

pub returns-clause-grown : goal.returns-clause-grown
returns-clause-grown c = c.checked_constant.ensures.grows false (known c.args.types.now c.args.scope.now) (grown-same false (known c.args.types.now c.args.scope.now))
