use Rattle.phys_types.proofs.MixedSpots.{one_union_more}
use Rattle.phys_types.proofs.mixed_unions.add_union.Goals as goal

pub returns-in_ok-insert : goal.returns-in_ok-insert
returns-in_ok-insert c = one_union_more c.args.unions.now.keys c.insert.new.self.keys c.in-Some.t c.args.union c.in-Some.is c.in_ok-insert.ensures.keys
