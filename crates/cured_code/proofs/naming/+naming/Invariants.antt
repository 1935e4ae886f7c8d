use Rattle.std.proofs.Common.{ℕ, ◌<◌, get_or}
use Rattle.cured_code.specs.declared.instr.Instr.{Instr}
use Rattle.cured_code.specs.Ranges.{IsInstrInRange}
use Rattle.cured_code.proofs.naming.+naming.Given as goal

-- the instructions so far are in range
abbrev pub invariant-are_instrs_in_range-loop-instr : goal.invariant-are_instrs_in_range-loop-instr
invariant-are_instrs_in_range-loop-instr l = (k : ℕ) → (d : Instr) → k < l.instr-index → IsInstrInRange l.names (get_or l.instrs k d)
