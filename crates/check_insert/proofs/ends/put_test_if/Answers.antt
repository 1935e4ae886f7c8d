use Rattle.check_insert.proofs.Laws.{tests_after, tests_chosen, tests_pass}
use Rattle.check_insert.proofs.ends.put_test_if.Goals as goal

pub returns : goal.returns
returns c =
    tests_after _ _ _ _ _ _ c.put_lines.ensures
    (tests_chosen _ _ _ _ _ _ _ _ _ _ c.choose.ensures c.put_test.ensures c.start-testing.ensures (tests_pass _ _) c.start-passing.ensures)
