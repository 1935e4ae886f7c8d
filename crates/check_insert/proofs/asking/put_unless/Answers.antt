use Rattle.check_insert.proofs.Laws.{tests_chosen, tests_pass}
use Rattle.check_insert.proofs.asking.put_unless.Goals as goal

pub returns : goal.returns
returns c =
    tests_chosen _ _ _ _ _ _ _ _ _ _ c.choose.ensures c.put_condition.ensures c.start-testing.ensures (tests_pass _ _) c.start-passing.ensures
