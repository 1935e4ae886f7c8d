use Rattle.std.proofs.Common.{sym, subst}
use Rattle.cure_code.specs.Codes.{IsCurableBody}
use Rattle.cure_code.proofs.FunctionLaws.{initialisers_curable}
use Rattle.cure_code.proofs.start.code_of.Goals as goal

pub code_in-code-requires-clause-curable : goal.code_in-code-requires-clause-curable
code_in-code-requires-clause-curable c =
    subst (λ x. IsCurableBody x c.args.w.now.program.now.initialisers.0.items) (sym c.scope-k.ensures.world) (initialisers_curable c.args.w.now c.requires)
