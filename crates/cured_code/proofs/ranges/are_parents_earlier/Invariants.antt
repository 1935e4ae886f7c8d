use Rattle.std.proofs.Common.{ℕ, ◌<◌, ◌≤◌, slice_index}
use Rattle.cured_code.proofs.ranges.are_parents_earlier.Given as goal

-- the parents so far are earlier nodes
abbrev pub invariant-loop-k : goal.invariant-loop-k
invariant-loop-k l = (j : ℕ) → j < l.k → slice_index l.parents j ≤ j
