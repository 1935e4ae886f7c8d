use Rattle.std.proofs.Common.{[], ◌∷◌, ◌≡◌, ◌++◌, ◌-◌, List, map, length}
use Rattle.std.specs.Prelude.{codes, flat_map}
use Rattle.cured_code.specs.declared.parts.Sig.{Sig}
use Rattle.cured_code.specs.Ranges.{AreParentsEarlier}
use Rattle.cured_spelling.specs.Lines.{line, line_text}
use Rattle.cured_spelling.specs.Spelling.{node_line}
use Rattle.cured_reading.specs.Faults.{MoreSigs, MoreNodes}
use Rattle.cured_reading.specs.Refusals.{AreRead}
use Rattle.cured_reading.proofs.sections.nodes.Given as goal

abbrev pub invariant-loop-i : goal.invariant-loop-i
invariant-loop-i l = record {
  spelled : l.fn.lines.text ≡ flat_map line_text (line (codes "nodes") (l.n ∷ []) ∷ map node_line l.nodes.items) ++ l.lines.text;
  many : length l.nodes.items ≡ l.i;
  kept : AreParentsEarlier l.nodes.items;
  read : (sigs : List Sig) → AreRead (MoreSigs 0 sigs) l.fn.lines (MoreNodes (l.n - l.i) sigs l.i) l.lines;
}
