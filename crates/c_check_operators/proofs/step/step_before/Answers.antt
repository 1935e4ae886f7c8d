use Rattle.std.proofs.Common.{sym, ◌∙◌, rules}
use Rattle.c_typing.specs.Judging.{known}
use Rattle.c_check_operators.proofs.StepLaws.{before_gives, before_stops}
use Rattle.c_check_operators.proofs.step.step_before.Goals as goal

pub returns-in_err-part-clause-answers : goal.returns-in_err-part-clause-answers
returns-in_err-part-clause-answers c =
    search (
      rules,
      before_stops c.args.operator c.args.at c.args.x c.in_ok-allowed.allowed.part (known c.args.types.now c.args.scope.now) (known c.args.types.now c.args.scope.now)
          (sym c.step_fault-fault.ensures ∙ c.in_ok-allowed.ensures.ok.0) c.in_ok-allowed.ensures.ok.3 c.in_ok-allowed.ensures.ok.1,
    )

pub returns-clause-answers : goal.returns-clause-answers
returns-clause-answers c =
    before_gives c.args.operator c.args.at c.args.x c.in_ok-allowed.allowed.held c.in_ok-allowed.allowed.part c.in_ok-part.part (known c.args.types.now c.args.scope.now) (known c.args.types.now c.args.scope.now)
    (sym c.step_fault-fault.ensures ∙ c.in_ok-allowed.ensures.ok.0) c.in_ok-allowed.ensures.ok.3 c.in_ok-allowed.ensures.ok.2 c.in_ok-allowed.ensures.ok.1 c.in_ok-part.ensures
