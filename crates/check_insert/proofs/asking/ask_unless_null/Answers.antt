use Rattle.check_insert.proofs.Laws.{asks_one, tests_after}
use Rattle.check_insert.proofs.asking.ask_unless_null.Goals as goal

pub returns : goal.returns
returns c = asks_one _ _ _ _ _ (tests_after _ _ _ _ _ _ c.put_lines.ensures c.put_unless.ensures)
