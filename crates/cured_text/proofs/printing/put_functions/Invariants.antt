use Rattle.std.proofs.Common.{[], ◌∷◌, ◌≡◌, ◌++◌, map, take, length}
use Rattle.std.specs.Prelude.{codes, flat_map}
use Rattle.cured_spelling.specs.Lines.{line, line_text}
use Rattle.cured_spelling.specs.Spelling.{function_line}
use Rattle.cured_text.proofs.printing.put_functions.Given as goal

abbrev pub invariant-loop-function : goal.invariant-loop-function
invariant-loop-function l = l.out.items ≡ l.fn.out.items ++ flat_map line_text (line (codes "functions") (length l.functions ∷ []) ∷ map function_line (take l.function-index l.functions))
