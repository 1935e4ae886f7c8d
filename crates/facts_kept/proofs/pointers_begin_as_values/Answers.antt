use Rattle.facts_kept.proofs.Sources.{gives-number, function-value}
use Rattle.facts_kept.proofs.Homes.{home-place}
use Rattle.facts_kept.proofs.pointers_begin_as_values.Goals as goal

pub returns-clause-integers : goal.returns-clause-integers
returns-clause-integers c = gives-number

pub returns-clause-functions : goal.returns-clause-functions
returns-clause-functions c = function-value

pub returns-clause-homes : goal.returns-clause-homes
returns-clause-homes c w memory number depth deeper v sound = home-place w sound memory number depth deeper v
