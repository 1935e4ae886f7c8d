use Rattle.std.proofs.Common.{◌≡◌, ◌-◌, length}
use Rattle.cured_code.specs.Tables.{is_below, is_below_within}
use Rattle.cured_machine.proofs.lookups.is_node_below.Given as goal

-- walking on from the node decides as walking from the first does
abbrev pub invariant-loop-step : goal.invariant-loop-step
invariant-loop-step l = is_below_within (length l.parents - l.step) l.parents l.node l.n ≡ is_below l.parents l.a l.n
