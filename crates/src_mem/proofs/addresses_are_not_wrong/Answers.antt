use Rattle.src_mem.proofs.AddressesRight.{addressed_right}
use Rattle.src_mem.proofs.addresses_are_not_wrong.Goals as goal

pub returns : goal.returns
returns c = addressed_right
