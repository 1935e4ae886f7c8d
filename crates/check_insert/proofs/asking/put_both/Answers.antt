use Rattle.check_insert.proofs.Laws.{tests_after, tests_chosen, tests_pass, tests_then}
use Rattle.check_insert.proofs.asking.put_both.Goals as goal

pub returns : goal.returns
returns c =
    tests_after _ _ _ _ _ _ c.put_lines.ensures
    (tests_chosen _ _ _ _ _ _ _ _ _ _ c.choose.ensures (tests_pass _ _) c.start-passing.ensures
    (tests_then _ _ _ _ _ _ c.put_unless.ensures c.put_unless-2.ensures) c.start-testing.ensures)
