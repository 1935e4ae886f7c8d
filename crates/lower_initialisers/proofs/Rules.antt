-- The laws of drafts, by the functions that use them.
use Rattle.lower_exprs.proofs.Laws.{grows_nothing, grows_then}
use Rattle.lower_initialisers.proofs.Laws.{grows_found, grows_missing}

pub ruleset nothing_rules = (grows_nothing)

pub ruleset object_rules = (grows_found, grows_missing)

pub ruleset byte_rules = (grows_then)
