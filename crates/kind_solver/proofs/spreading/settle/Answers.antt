use Rattle.std.proofs.Common.{arith, length}
use Rattle.kind_solver.proofs.Offers.{shows_chains}
use Rattle.kind_solver.proofs.spreading.settle.Goals as goal

pub returns : goal.returns
returns c =
    shows_chains c.args.origins.now c.args.edges.now (length c.args.causes.now) c.offer_all.new.causes c.spread.new.causes
    c.offer_all.ensures c.requires.fit (omega arith) c.spread.ensures.comes c.spread.ensures.earliest
