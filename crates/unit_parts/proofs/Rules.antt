-- The laws of what is collected, by the functions that use them.
use Rattle.unit_parts.proofs.Laws.{asked, asks_failed, asks_nothing, asks_one, collects_failed, collects_nothing, one_static, one_local}

pub ruleset site_rules = (asked, asks_failed, asks_nothing)

pub ruleset both_rules = (asks_one)

pub ruleset made_rules = (collects_nothing, collects_failed, one_static, one_local)
