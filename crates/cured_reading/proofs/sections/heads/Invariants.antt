use Rattle.std.proofs.Common.{ℕ, [], ◌∷◌, ◌≡◌, ◌++◌, ◌-◌, map, length}
use Rattle.std.specs.Prelude.{codes, flat_map}
use Rattle.cured_spelling.specs.Lines.{line, line_text}
use Rattle.cured_reading.specs.Heads.{head_line}
use Rattle.cured_reading.specs.Faults.{MoreGlobals, functions_left}
use Rattle.cured_reading.specs.Refusals.{AreRead, AreHeadsInOrder}
use Rattle.cured_reading.proofs.sections.heads.Given as goal

abbrev pub invariant-loop-i : goal.invariant-loop-i
invariant-loop-i l = record {
  spelled : l.fn.lines.text ≡ flat_map line_text (line (codes "functions") (l.n ∷ []) ∷ map head_line l.heads.items) ++ l.lines.text;
  many : length l.heads.items ≡ l.i;
  kept : AreHeadsInOrder l.sigs 0 l.heads.items;
  read : (left nodes : ℕ) → AreRead (MoreGlobals 0 left l.sigs nodes) l.fn.lines (functions_left (l.n - l.i) l.sigs nodes l.heads.items) l.lines;
}
