-- An order in which words may be zeroed with no tag lost that is still to be read.
use Rattle.std.specs.Prelude.{ℕ, ◌+◌, ◌*◌, ◌/◌}
use Rattle.flat_mem.specs.Placement.{word_count}

-- in an area of n bytes, the first word whose tag does not stand in a later data word: the least i with
-- 2 * word_count n + i / 64 <= i
abbrev pub turn_of : ℕ → ℕ
turn_of n = 2 * word_count n + 2 * word_count n / 63
