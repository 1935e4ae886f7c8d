use Rattle.std.proofs.Common.{◌≡◌, ◌++◌, map, take, drop}
use Rattle.std.specs.Prelude.{flat_map, All}
use Rattle.cured_code.specs.Ranges.{IsFunctionInRange, sigs_of}
use Rattle.cured_spelling.specs.Lines.{line_text}
use Rattle.cured_spelling.specs.Spelling.{function_line, body_lines}
use Rattle.cured_reading.specs.Heads.{head_line}
use Rattle.cured_reading.specs.Faults.{names_of, bodies}
use Rattle.cured_reading.specs.Refusals.{AreRead}
use Rattle.cured_reading.proofs.reading.functions.Given as goal

abbrev pub invariant-loop-head : goal.invariant-loop-head
invariant-loop-head l = record {
  spelled : l.fn.lines.text ≡ flat_map line_text (flat_map body_lines l.functions.items) ++ l.lines.text;
  same : map function_line l.functions.items ≡ map head_line (take l.head-index l.heads);
  sigs : sigs_of l.functions.items ≡ map (λ h. h.sig) (take l.head-index l.heads);
  kept : All (IsFunctionInRange l.sigs (map (λ h. h.sig) l.heads) l.nodes) l.functions.items;
  read : AreRead (bodies (map (names_of l.sigs l.nodes l.heads) l.heads)) l.fn.lines
      (bodies (map (names_of l.sigs l.nodes l.heads) (drop l.head-index l.heads))) l.lines;
}
