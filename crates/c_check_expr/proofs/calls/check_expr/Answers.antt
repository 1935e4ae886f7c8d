use Rattle.std.proofs.Common.{false}
use Rattle.cc_base.specs.declared.fault.Fault.TheVariants.{Refused}
use Rattle.c_tree.specs.TypedParts.{made_by}
use Rattle.c_tree.specs.TypedViews.{typed_expr_view}
use Rattle.c_tree.specs.Views.{expr_view}
use Rattle.c_typing.specs.Judging.{known}
use Rattle.c_typing_laws.specs.Judged.{IsChecked, IsRefused}
use Rattle.c_typing_laws.specs.Numbers.{AreNumberedFrom}
use Rattle.c_typing_laws.proofs.AnswerLaws.{given-ok, refused-err}
use Rattle.c_typing_laws.proofs.JudgedWhole.{checked-judged}
use Rattle.c_typing_laws.proofs.NumberedWhole.{checked-numbers}
use Rattle.c_typing_laws.proofs.RefusedWhole.{checked-refuses}
use Rattle.c_typing.specs.Checking.{checked}
use Rattle.c_typing.specs.Refusals.{Refuses}
use Rattle.c_typing.specs.Conversions.{bare}
use Rattle.c_check_expr.proofs.GivenLaws.{value-given}
use Rattle.c_check_expr.proofs.AcceptedLaws.{accepted}
use Rattle.c_unit_typing.specs.Holding.{expr_holds}
use Rattle.c_check_expr.specs.Limited.{IsWithin}
use Rattle.c_check_expr.proofs.LimitFacts.{expr-within}
use Rattle.c_typing.proofs.GrowingLaws.{grown-same}
use Rattle.c_check_expr.proofs.calls.check_expr.Goals as goal

pub returns-clause-typed : goal.returns-clause-typed
returns-clause-typed c k =
    given-ok typed_expr_view (checked (expr_view c.args.e.now) (known c.args.types.now c.args.scope.now)) c.checked.result (known c.checked.new.types c.checked.new.scope) (λ v. IsChecked (expr_view c.args.e.now) v (known c.args.types.now c.args.scope.now) (known c.checked.new.types c.checked.new.scope)) (λ v h. checked-judged (expr_view c.args.e.now) v (known c.args.types.now c.args.scope.now) (known c.checked.new.types c.checked.new.scope) k h) c.checked.ensures.answers

pub returns-clause-numbered : goal.returns-clause-numbered
returns-clause-numbered c k =
    given-ok typed_expr_view (checked (expr_view c.args.e.now) (known c.args.types.now c.args.scope.now)) c.checked.result (known c.checked.new.types c.checked.new.scope) (λ v. AreNumberedFrom (made_by v) (known c.args.types.now c.args.scope.now) (known c.checked.new.types c.checked.new.scope)) (λ v h. checked-numbers (expr_view c.args.e.now) v (known c.args.types.now c.args.scope.now) (known c.checked.new.types c.checked.new.scope) k h) c.checked.ensures.answers

pub returns-clause-refused : goal.returns-clause-refused
returns-clause-refused c k =
    refused-err typed_expr_view (checked (expr_view c.args.e.now) (known c.args.types.now c.args.scope.now)) c.checked.result (known c.checked.new.types c.checked.new.scope) (λ p t. IsRefused (λ T. Refuses T false (expr_view c.args.e.now) c.args.scope.now.scopes (Refused p t)) (known c.args.types.now c.args.scope.now) (known c.checked.new.types c.checked.new.scope)) (λ p t h. checked-refuses p t (expr_view c.args.e.now) (known c.args.types.now c.args.scope.now) (known c.checked.new.types c.checked.new.scope) k h) c.checked.ensures.answers

pub returns-clause-accepts : goal.returns-clause-accepts
returns-clause-accepts c T v b count can read over runtime =
    let s = known c.args.types.now c.args.scope.now in
    accepted typed_expr_view (checked (expr_view c.args.e.now) s) (bare v) T (made_by v) s b count c.checked.result (known c.checked.new.types c.checked.new.scope)
    (value-given T (expr_view c.args.e.now) v s b count can read over runtime) c.checked.ensures.answers

pub returns-clause-limited : goal.returns-clause-limited
returns-clause-limited c =
    let s = known c.args.types.now c.args.scope.now in
    let r = known c.checked.new.types c.checked.new.scope in
    given-ok typed_expr_view (checked (expr_view c.args.e.now) s) c.checked.result r (λ v. IsWithin (expr_holds (expr_view c.args.e.now)) s r)
    (λ v h. expr-within (expr_view c.args.e.now) v s r h) c.checked.ensures.answers

pub returns-clause-grown : goal.returns-clause-grown
returns-clause-grown c = c.checked.ensures.grows false (known c.args.types.now c.args.scope.now) (grown-same false (known c.args.types.now c.args.scope.now))
