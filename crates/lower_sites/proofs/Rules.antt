-- The laws of what is told, by the functions that use them.
use Rattle.lower_sites.proofs.NameLaws.{function_again, function_first, object_again, object_first, tells_failed, tells_none}

pub ruleset told_rules = (tells_none)

pub ruleset one_rules = (object_again, object_first, function_again, function_first, tells_failed)
