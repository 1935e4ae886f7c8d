use Rattle.std.proofs.Common.{refl}
use Rattle.parse_rules.specs.Example.{leaf, operand, more, layer, sum}
use Rattle.parse_rules.proofs.answers_to_small_sums.Goals as goal

pub returns : goal.returns
unfolding leaf operand more layer sum
returns c = record { whole = refl; front = refl; unfinished = refl; empty_pair = refl; too_deep = refl; deep_enough = refl }
