use Rattle.std.proofs.Common.{arith, sym}
use Rattle.c_check_operators.proofs.SizeLaws.{untyped_size}
use Rattle.c_check_operators.proofs.address.size_at.Goals as goal

pub returns-then-t-count : goal.returns-then-t-count
returns-then-t-count c = sym (untyped_size c.args.types.now c.args.t (omega arith))
