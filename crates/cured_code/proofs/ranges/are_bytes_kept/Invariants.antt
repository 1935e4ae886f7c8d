use Rattle.std.proofs.Common.{◌≡◌, ◌+◌, sum_by, take}
use Rattle.cured_code.specs.Ranges.{global_bytes_limit}
use Rattle.cured_code.proofs.ranges.are_bytes_kept.Given as goal

-- what is left of the limit, with what the globals so far have, is the limit
abbrev pub invariant-loop-global : goal.invariant-loop-global
invariant-loop-global l = l.left + sum_by (λ g. g.area.bytes) (take l.global-index l.globals) ≡ global_bytes_limit
