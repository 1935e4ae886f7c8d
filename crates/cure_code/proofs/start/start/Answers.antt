use Rattle.std.proofs.Common.{refl}
use Rattle.cure_code.proofs.FunctionLaws.{start_function}
use Rattle.cure_code.proofs.start.start.Goals as goal

pub returns : goal.returns
returns c = start_function c.args.w.now c.requires _ refl refl refl c.new.ensures.items c.in_ok-body.ensures
