use Rattle.std.proofs.Common.{◌≡◌, ◌++◌, map, take}
use Rattle.std.specs.Prelude.{flat_map}
use Rattle.cured_spelling.specs.Lines.{line_text}
use Rattle.cured_spelling.specs.Spelling.{local_line}
use Rattle.cured_text.proofs.printing.put_locals.Given as goal

abbrev pub invariant-loop-area : goal.invariant-loop-area
invariant-loop-area l = l.out.items ≡ l.fn.out.items ++ flat_map line_text (map local_line (take l.area-index l.locals))
