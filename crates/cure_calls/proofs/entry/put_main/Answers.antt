use Rattle.std.proofs.Common.{arith}
use Rattle.check_insert.proofs.Laws.{grows_as}
use Rattle.cure_scope.proofs.Laws.{grows_row}
use Rattle.cure_calls.proofs.FrameLaws.{enters}
use Rattle.cure_calls.proofs.entry.put_main.Goals as goal

pub returns : goal.returns
returns c =
    grows_as _ _ _ _ _ (λ code. enters c.args.k.now c.args.main.0 _ c.args.at code (omega arith))
    (grows_row _ _ _ _ _ c.put.ensures (grows_row _ _ _ _ _ c.put_guarded.ensures c.put_two.ensures))
