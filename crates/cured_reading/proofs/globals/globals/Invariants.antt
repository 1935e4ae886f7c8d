use Rattle.std.proofs.Common.{ℕ, [], ◌∷◌, ◌≡◌, ◌++◌, ◌-◌, ◌+◌, List, map, length}
use Rattle.std.specs.Prelude.{codes, flat_map, All, sum_by}
use Rattle.cured_code.specs.declared.parts.Sig.{Sig}
use Rattle.cured_code.specs.Ranges.{IsGlobalInRange, global_bytes_limit}
use Rattle.cured_spelling.specs.Lines.{line, line_text}
use Rattle.cured_spelling.specs.Spelling.{area_line}
use Rattle.cured_reading.specs.Faults.{MoreNodes, MoreGlobals}
use Rattle.cured_reading.specs.Refusals.{AreRead}
use Rattle.cured_reading.proofs.globals.globals.Given as goal

abbrev pub invariant-loop-i : goal.invariant-loop-i
invariant-loop-i l = record {
  spelled : l.fn.lines.text ≡ flat_map line_text (line (codes "globals") (l.n ∷ []) ∷ map area_line l.globals.items) ++ l.lines.text;
  many : length l.globals.items ≡ l.i;
  kept : All IsGlobalInRange l.globals.items;
  bytes : sum_by (λ g. g.area.bytes) l.globals.items + l.left ≡ global_bytes_limit;
  read : (sigs : List Sig) (nodes : ℕ) → AreRead (MoreNodes 0 sigs nodes) l.fn.lines (MoreGlobals (l.n - l.i) l.left sigs nodes) l.lines;
}
