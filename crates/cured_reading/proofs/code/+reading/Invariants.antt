use Rattle.std.proofs.Common.{◌≡◌, ◌≤◌, ◌++◌, ◌*◌, ◌+◌, ◌-◌, List, length}
use Rattle.std.specs.Prelude.{flat_map}
use Rattle.cured_code.specs.Ranges.{Names, AreInstrsInRange}
use Rattle.cured_spelling.specs.Lines.{line_text}
use Rattle.cured_spelling.specs.Spelling.{code_lines}
use Rattle.cured_reading.specs.Faults.{Part}
use Rattle.cured_reading.specs.Refusals.{AreRead, in_part}
use Rattle.cured_reading.proofs.code.+reading.Given as goal

abbrev pub decreases-part : goal.decreases-part
decreases-part l = 2 * (1024 - l.names.now.nest) + 1

abbrev pub decreases-branch : goal.decreases-branch
decreases-branch l = 2 * (1024 - l.names.now.nest)

abbrev pub decreases-held : goal.decreases-held
decreases-held l = 2 * (1024 - l.names.now.nest)

abbrev pub invariant-part-reading : goal.invariant-part-reading
invariant-part-reading l = record {
  spelled : l.fn.lines.text ≡ flat_map line_text (code_lines l.instrs.items) ++ l.lines.text;
  shorter : length l.lines.text ≤ length l.fn.lines.text;
  kept : AreInstrsInRange l.names l.instrs.items;
  read : (parts : List Part) (rest : List Names) → AreRead (in_part l.names l.closing parts rest) l.fn.lines (in_part l.names l.closing parts rest) l.lines;
}

abbrev pub decreases-part-reading : goal.decreases-part-reading
decreases-part-reading l = length l.lines.text
