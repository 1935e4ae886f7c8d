use Rattle.std.proofs.Common.{[], ◌≡◌, ◌≤◌, ◌++◌, ◌-◌, List, map, length}
use Rattle.std.specs.Prelude.{flat_map, All}
use Rattle.cured_code.specs.Ranges.{Names, local_bytes_limit}
use Rattle.cured_spelling.specs.Lines.{line_text}
use Rattle.cured_spelling.specs.Spelling.{local_line}
use Rattle.cured_reading.specs.Faults.{Part, InBody}
use Rattle.cured_reading.specs.Refusals.{AreRead}
use Rattle.cured_reading.proofs.sections.locals.Given as goal

abbrev pub invariant-loop-i : goal.invariant-loop-i
invariant-loop-i l = record {
  spelled : l.fn.lines.text ≡ flat_map line_text (map local_line l.areas.items) ++ l.lines.text;
  many : length l.areas.items ≡ l.i;
  kept : All (λ area. area.bytes ≤ local_bytes_limit) l.areas.items;
  read : (part : Part) (rest : List Names) → AreRead (InBody l.n part [] rest) l.fn.lines (InBody (l.n - l.i) part [] rest) l.lines;
}
