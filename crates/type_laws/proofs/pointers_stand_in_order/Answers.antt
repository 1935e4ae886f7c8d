use Rattle.c_types.proofs.OrderedPointers.{cells_ordered}
use Rattle.type_laws.proofs.pointers_stand_in_order.Goals as goal

pub returns : goal.returns
returns c table t w = cells_ordered table w t
