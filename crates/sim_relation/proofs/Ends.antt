-- Related states are seen alike at the end.
use Rattle.sim_relation.specs.Laws.{RelatedStatesEndAlike}

pub ends-alike : RelatedStatesEndAlike
ends-alike w number_of e s f c r alike = record {
  ending = alike;
  output = r.outside.output;
  read = r.outside.read;
  faithful = record { accesses = r.accesses; entered = r.outside.entered };
  memory = record { areas = r.areas.count; objects = r.holds };
}
