use Rattle.std.proofs.lemmas.Result.{on_ok_weaker}
use Rattle.kind_constraints.proofs.GivenPieces.{flow_pieces}
use Rattle.kind_constraints.proofs.sites.add_flow.Goals as goal

pub returns-clause-added : goal.returns-clause-added
returns-clause-added c =
    on_ok_weaker c.push.result
    (λ h. flow_pieces c.args.asked.now.types.now c.args.asked.now.sites.now c.args.source.0 c.args.source.1 c.args.target.0 c.args.target.1 c.args.place c.in_ok-class.class c.in_ok-below.below
    c.in_ok-class.ensures.class c.in_ok-below.ensures.below c.args.list.now.items c.push.new.list.items h)
    c.push.ensures
