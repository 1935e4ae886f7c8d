use Rattle.std.proofs.Common.{◌≡◌, ◌-◌, length}
use Rattle.cured_code.specs.Tables.{is_below_within}
use Rattle.rtti_nodes.proofs.nodes.is_below.Given as goal

abbrev pub invariant-steps : goal.invariant-steps
invariant-steps l = is_below_within (length l.parents) l.parents l.a l.b ≡ is_below_within (length l.parents - l._step) l.parents l.node l.b
