-- The lines of functions, before their bodies are read.
use Rattle.std.specs.Prelude.{[], ◌∷◌, codes}
use Rattle.cured_spelling.specs.Lines.{Line, line}
use Rattle.cured_reading.specs.declared.sections.Head.{Head}

abbrev pub head_line : Head → Line
head_line head = line (codes "fn") (head.sig ∷ head.slots ∷ head.charge ∷ head.areas ∷ [])
