use Rattle.cure_ranges.proofs.Bodies.{bodies}
use Rattle.cure_ranges.proofs.bodies_are_in_range.Goals as goal

pub returns : goal.returns
returns c p kind node parents parts shape cured targets = bodies p kind node parents parts shape cured.numbers cured.are_cured targets
