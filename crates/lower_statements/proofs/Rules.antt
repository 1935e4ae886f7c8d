-- The laws of drafts, by the functions that use them.
use Rattle.c_tree.proofs.TypedStatementViewLaws.{typed_block_item-Statement, typed_block_item-Declaration, typed_block_item-Case, typed_block_item-Default}
use Rattle.lower_exprs.proofs.Laws.{grows_failed, grows_nothing, grows_skipped, grows_when}

pub ruleset nothing_rules = (grows_nothing)

pub ruleset whole_rules = (grows_when, grows_failed, grows_skipped)

pub ruleset label_rules = (typed_block_item-Statement, typed_block_item-Declaration, typed_block_item-Case, typed_block_item-Default)
