use Rattle.phys_types.proofs.Crossed.{held_eq, same_held, held_more}
use Rattle.phys_types.proofs.crossing.add_pointer.Goals as goal

pub returns-in_ok-insert : goal.returns-in_ok-insert
returns-in_ok-insert c =
    held_more held_eq same_held c.args.pointers.now.keys c.insert.new.self.keys _ c.args.pointer c.in-Some.is c.in_ok-insert.ensures.keys
