use Rattle.c_tree.proofs.TypedPartLaws.{of_specifiers}
use Rattle.lower_sites.proofs.walk.is_typedef.Goals as goal

pub returns : goal.returns
returns c = rw (of_specifiers c.args.one.now) (rw c.as_slice.ensures at c.is_typedef_list.ensures)
