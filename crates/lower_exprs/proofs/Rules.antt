-- The laws of drafts, by the functions that use them.
use Rattle.lower_exprs.proofs.Laws.{grows_always, grows_chosen, grows_decided_false, grows_decided_true, grows_failed, grows_fixed, grows_line, grows_never, grows_nothing, grows_numbered, grows_object, grows_skipped, grows_when}

pub ruleset fixed_rules = (grows_fixed, grows_failed)

pub ruleset nothing_rules = (grows_nothing)

pub ruleset failed_rules = (grows_failed, grows_never, grows_nothing, grows_always, grows_when)

pub ruleset compared_rules = (grows_failed, grows_always)

pub ruleset numbered_rules = (grows_numbered, grows_failed)

pub ruleset object_rules = (grows_object, grows_failed)

pub ruleset line_rules = (grows_line)

pub ruleset chosen_rules = (grows_chosen, grows_failed, grows_skipped)

pub ruleset logical_rules = (grows_decided_true, grows_decided_false)
