use Rattle.std.proofs.Common.{sym, arith}
use Rattle.phys_types.specs.Numbers.{number_in}
use Rattle.phys_types.proofs.Loops.{begin_short, begin_both, begin_first}
use Rattle.phys_types.proofs.comparing.begin_with_spots.Goals as goal

pub returns-then-front-spots : goal.returns-then-front-spots
returns-then-front-spots c = sym (begin_short (number_in c.args.numbers.now) c.args.n c.args.spots.now c.args.front.now (omega arith))

pub returns-then-same_spots : goal.returns-then-same_spots
returns-then-same_spots c =
    begin_both (number_in c.args.numbers.now) c.args.n c.args.spots.now c.args.front.now _ _ c.same_spots.result c.start_from.result (omega arith)
    c.split_at.ensures.front c.split_at.ensures.back c.same_spots.ensures c.if-same_spots.true c.start_from.ensures

pub returns-else-same_spots : goal.returns-else-same_spots
returns-else-same_spots c =
    begin_first (number_in c.args.numbers.now) c.args.n c.args.spots.now c.args.front.now _ c.same_spots.result (omega arith)
    c.split_at.ensures.front c.same_spots.ensures c.if-same_spots.false
