use Rattle.c_check_walk.proofs.PartsSeen.{specifiers_seen}
use Rattle.c_check_walk.proofs.walker.Walker.specifier_list.Goals as goal

pub listed-requires : goal.listed-requires
listed-requires g c = record { nests = rw c.as_slice.ensures (rw (specifiers_seen c.args.specifiers.now) at c.requires.nests) }
