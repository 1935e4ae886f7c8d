use Rattle.std.proofs.Common.{refl}
use Rattle.c_printed.proofs.Laws.{prints_one}
use Rattle.c_printed.proofs.leaves.put_pointer.Goals as goal

pub returns : goal.returns
returns c = prints_one _ _ _ _ refl c.put.ensures
