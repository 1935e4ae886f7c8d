use Rattle.c_unit_limits.proofs.LastingUnits.{whole-counted}
use Rattle.c_unit_limits.proofs.lasting.judging_counts_what_the_limit_counts.Goals as goal

pub returns : goal.returns
returns c = whole-counted
