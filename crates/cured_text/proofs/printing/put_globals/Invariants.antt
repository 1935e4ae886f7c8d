use Rattle.std.proofs.Common.{[], ◌∷◌, ◌≡◌, ◌++◌, map, take, length}
use Rattle.std.specs.Prelude.{codes, flat_map}
use Rattle.cured_spelling.specs.Lines.{line, line_text}
use Rattle.cured_spelling.specs.Spelling.{area_line}
use Rattle.cured_text.proofs.printing.put_globals.Given as goal

abbrev pub invariant-loop-global : goal.invariant-loop-global
invariant-loop-global l = l.out.items ≡ l.fn.out.items ++ flat_map line_text (line (codes "globals") (length l.globals ∷ []) ∷ map area_line (take l.global-index l.globals))
