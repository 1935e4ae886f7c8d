use Rattle.std.proofs.Common.{[], ◌∷◌, ◌≡◌, ◌++◌, ◌-◌, map, length}
use Rattle.std.specs.Prelude.{codes, flat_map, All}
use Rattle.cured_code.specs.Ranges.{IsSigInRange}
use Rattle.cured_spelling.specs.Lines.{line, line_text}
use Rattle.cured_spelling.specs.Spelling.{sig_line}
use Rattle.cured_reading.specs.Faults.{TheSigs, MoreSigs}
use Rattle.cured_reading.specs.Refusals.{AreRead}
use Rattle.cured_reading.proofs.sections.sigs.Given as goal

abbrev pub invariant-loop-i : goal.invariant-loop-i
invariant-loop-i l = record {
  spelled : l.fn.lines.text ≡ flat_map line_text (line (codes "sigs") (l.n ∷ []) ∷ map sig_line l.sigs.items) ++ l.lines.text;
  many : length l.sigs.items ≡ l.i;
  kept : All IsSigInRange l.sigs.items;
  read : AreRead TheSigs l.fn.lines (MoreSigs (l.n - l.i) l.sigs.items) l.lines;
}
