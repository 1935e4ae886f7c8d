use Rattle.std.proofs.Common.{refl, arith}
use Rattle.sim_relation.proofs.Small.{small-related, wrong-byte, tag-more, wrong-depth, too-near, no-object, too-short}
use Rattle.sim_relation.proofs.small_states_are_related.Goals as goal

pub returns-clause-related : goal.returns-clause-related
returns-clause-related c = small-related

pub returns-clause-byte : goal.returns-clause-byte
returns-clause-byte c = wrong-byte

pub returns-clause-tag : goal.returns-clause-tag
returns-clause-tag c = tag-more

pub returns-clause-depth : goal.returns-clause-depth
returns-clause-depth c = wrong-depth

pub returns-clause-near : goal.returns-clause-near
returns-clause-near c = too-near

pub returns-clause-object : goal.returns-clause-object
returns-clause-object c = no-object

pub returns-clause-range : goal.returns-clause-range
returns-clause-range c = too-short

pub returns-clause-exact : goal.returns-clause-exact
returns-clause-exact c = refl

pub returns-clause-zeroed : goal.returns-clause-zeroed
returns-clause-zeroed c = refl

pub returns-clause-low : goal.returns-clause-low
returns-clause-low c = refl

pub returns-clause-not_exact : goal.returns-clause-not_exact
returns-clause-not_exact c h = absurd (omega arith)
