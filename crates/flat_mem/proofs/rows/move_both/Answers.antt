use Rattle.flat_mem.proofs.RowLaws.{moved-down, moved-up}
use Rattle.flat_mem.proofs.rows.move_both.Goals as goal

pub returns-then-second : goal.returns-then-second
returns-then-second c = moved-down _ _ _ _ _ _ _ _ _ _ c.requires.lengths c.requires.targets c.requires.target c.min-seen.ensures c.if-second.true c.move_within.ensures c.move_within-then-second.ensures

pub returns-else-second : goal.returns-else-second
returns-else-second c =
    moved-up _ _ _ _ _ _ _ _ _ _ _ _ c.requires.lengths c.requires.sources c.requires.targets c.requires.target c.min-seen.ensures c.if-second.false c.saturating_sub-shared.ensures c.move_within-else-second.ensures
    c.move_within-else-second-2.ensures c.move_within-else-second-3.ensures
