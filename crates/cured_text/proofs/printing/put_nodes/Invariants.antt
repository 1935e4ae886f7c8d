use Rattle.std.proofs.Common.{[], ◌∷◌, ◌≡◌, ◌++◌, map, take, length}
use Rattle.std.specs.Prelude.{codes, flat_map}
use Rattle.cured_spelling.specs.Lines.{line, line_text}
use Rattle.cured_spelling.specs.Spelling.{node_line}
use Rattle.cured_text.proofs.printing.put_nodes.Given as goal

abbrev pub invariant-loop-parent : goal.invariant-loop-parent
invariant-loop-parent l = l.out.items ≡ l.fn.out.items ++ flat_map line_text (line (codes "nodes") (length l.parents ∷ []) ∷ map node_line (take l.parent-index l.parents))
