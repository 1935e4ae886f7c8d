use Rattle.std.proofs.Common.{◌≡◌, ◌++◌, take}
use Rattle.std.specs.Prelude.{flat_map}
use Rattle.cured_spelling.specs.Lines.{line_text}
use Rattle.cured_spelling.specs.Spelling.{body_lines}
use Rattle.cured_text.proofs.printing.put_bodies.Given as goal

abbrev pub invariant-loop-function : goal.invariant-loop-function
invariant-loop-function l = l.out.items ≡ l.fn.out.items ++ flat_map line_text (flat_map body_lines (take l.function-index l.functions))
