-- The laws of drafts, by the functions that use them.
use Rattle.check_insert.proofs.Laws.{grows_chosen, grows_failed, grows_nothing, grows_skipped, tests_chosen, tests_after, tests_pass}

pub ruleset nothing_rules = (grows_nothing)

pub ruleset chosen_rules = (grows_chosen, grows_failed, grows_skipped)

pub ruleset choice_rules = (tests_chosen, tests_after, tests_pass)
