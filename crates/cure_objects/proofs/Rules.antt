-- The laws of lists of objects.
use Rattle.std.proofs.lemmas.Option.{slice_get-map}

pub ruleset plan_rules = (slice_get-map)
