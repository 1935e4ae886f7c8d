-- The laws of drafts, by the functions that use them.
use Rattle.check_insert.proofs.Laws.{grows_failed, grows_skipped}
use Rattle.cure_blocks.proofs.ConvertLaws.{grows_known}

pub ruleset class_rules = (grows_known, grows_failed, grows_skipped)
