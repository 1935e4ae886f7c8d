use Rattle.std.proofs.Common.{false}
use Rattle.cc_base.specs.declared.fault.Fault.TheVariants.{Refused}
use Rattle.c_tree.specs.TypedParts.{made_by, made_by_place}
use Rattle.c_tree.specs.TypedViews.{typed_expr_view}
use Rattle.c_tree.specs.Views.{expr_view}
use Rattle.c_typing.specs.Judging.{known}
use Rattle.c_typing_laws.specs.Judged.{IsCheckedFor, ValueFails, IsRefused}
use Rattle.c_typing_laws.specs.Numbers.{AreNumberedFrom}
use Rattle.c_typing_laws.proofs.AnswerLaws.{given-ok, refused-err}
use Rattle.c_typing_laws.proofs.JudgedWhole.{checked_value-judged}
use Rattle.c_typing_laws.proofs.NumberedWhole.{checked_value-numbers}
use Rattle.c_typing_laws.proofs.RefusedWhole.{checked_value-refuses}
use Rattle.c_typing.specs.Checking.{checked_value}
use Rattle.c_tree.specs.TypedTree as typed
use Rattle.c_check_expr.proofs.GivenLaws.{becoming-given, unread-given}
use Rattle.c_check_expr.proofs.AcceptedLaws.{accepted}
use Rattle.c_unit_typing.specs.Holding.{expr_holds}
use Rattle.c_check_expr.specs.Limited.{IsWithin}
use Rattle.c_check_expr.proofs.LimitFacts.{value-within}
use Rattle.c_typing.proofs.GrowingLaws.{grown-same}
use Rattle.c_check_expr.proofs.calls.check_value.Goals as goal

pub returns-clause-typed : goal.returns-clause-typed
returns-clause-typed c k b =
    given-ok typed_expr_view (checked_value c.args.to c.args.at c.args.init (expr_view c.args.e.now) (known c.args.types.now c.args.scope.now)) c.checked_for.result (known c.checked_for.new.types c.checked_for.new.scope) (λ v. IsCheckedFor c.args.to c.args.at c.args.init (expr_view c.args.e.now) v (known c.args.types.now c.args.scope.now) (known c.checked_for.new.types c.checked_for.new.scope)) (λ v h. checked_value-judged c.args.to c.args.at c.args.init (expr_view c.args.e.now) v (known c.args.types.now c.args.scope.now) (known c.checked_for.new.types c.checked_for.new.scope) k b h) c.checked_for.ensures.answers

pub returns-clause-numbered : goal.returns-clause-numbered
returns-clause-numbered c k =
    given-ok typed_expr_view (checked_value c.args.to c.args.at c.args.init (expr_view c.args.e.now) (known c.args.types.now c.args.scope.now)) c.checked_for.result (known c.checked_for.new.types c.checked_for.new.scope) (λ v. AreNumberedFrom (made_by v) (known c.args.types.now c.args.scope.now) (known c.checked_for.new.types c.checked_for.new.scope)) (λ v h. checked_value-numbers c.args.to c.args.at c.args.init (expr_view c.args.e.now) v (known c.args.types.now c.args.scope.now) (known c.checked_for.new.types c.checked_for.new.scope) k h) c.checked_for.ensures.answers

pub returns-clause-refused : goal.returns-clause-refused
returns-clause-refused c k b =
    refused-err typed_expr_view (checked_value c.args.to c.args.at c.args.init (expr_view c.args.e.now) (known c.args.types.now c.args.scope.now)) c.checked_for.result (known c.checked_for.new.types c.checked_for.new.scope) (λ p t. IsRefused (λ T. ValueFails T c.args.to c.args.at (expr_view c.args.e.now) c.args.scope.now.scopes (Refused p t)) (known c.args.types.now c.args.scope.now) (known c.checked_for.new.types c.checked_for.new.scope)) (λ p t h. checked_value-refuses p t c.args.to c.args.at c.args.init (expr_view c.args.e.now) (known c.args.types.now c.args.scope.now) (known c.checked_for.new.types c.checked_for.new.scope) k b h) c.checked_for.ensures.answers

pub returns-clause-accepts : goal.returns-clause-accepts
returns-clause-accepts c T v b count can read there becomes =
    let s = known c.args.types.now c.args.scope.now in
    accepted typed_expr_view (checked_value c.args.to c.args.at c.args.init (expr_view c.args.e.now) s) v T (made_by v) s b count c.checked_for.result (known c.checked_for.new.types c.checked_for.new.scope)
    (becoming-given T (expr_view c.args.e.now) v s b count can read c.args.init c.args.to c.args.at there becomes) c.checked_for.ensures.answers

pub returns-clause-accepts_copied : goal.returns-clause-accepts_copied
returns-clause-accepts_copied c T p b count can read initial there aggregate shaped same =
    let s = known c.args.types.now c.args.scope.now in
    accepted typed_expr_view (checked_value c.args.to c.args.at c.args.init (expr_view c.args.e.now) s) (typed.Unread p) T (made_by_place p) s b count c.checked_for.result (known c.checked_for.new.types c.checked_for.new.scope)
    (unread-given T c.args.init c.args.to c.args.at (expr_view c.args.e.now) p s b count can read initial there aggregate shaped same) c.checked_for.ensures.answers

pub returns-clause-limited : goal.returns-clause-limited
returns-clause-limited c =
    let s = known c.args.types.now c.args.scope.now in
    let r = known c.checked_for.new.types c.checked_for.new.scope in
    given-ok typed_expr_view (checked_value c.args.to c.args.at c.args.init (expr_view c.args.e.now) s) c.checked_for.result r (λ v. IsWithin (expr_holds (expr_view c.args.e.now)) s r)
    (λ v h. value-within c.args.to c.args.at c.args.init (expr_view c.args.e.now) v s r h) c.checked_for.ensures.answers

pub returns-clause-grown : goal.returns-clause-grown
returns-clause-grown c = c.checked_for.ensures.grows false (known c.args.types.now c.args.scope.now) (grown-same false (known c.args.types.now c.args.scope.now))
