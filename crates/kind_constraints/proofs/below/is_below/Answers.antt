use Rattle.std.proofs.lemmas.Result.{IfOk-weaker}
use Rattle.kind_constraints.proofs.Belows.{first_below}
use Rattle.kind_constraints.proofs.below.is_below.Goals as goal

pub returns-clause-below : goal.returns-clause-below
returns-clause-below c =
    let a = c.requires.asked in
    IfOk-weaker c.kept_below.result _ _
    (λ below h. first_below c.args.asked.now.types.now a.formed c.args.asked.now.sites.now c.args.asked.now.firsts.items a.equal a.typed c.args.t c.first_of-first.result
    c.first_of-first.ensures.first below h)
    c.kept_below.ensures.below
