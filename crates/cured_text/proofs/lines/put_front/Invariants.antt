use Rattle.std.proofs.Common.{◌≡◌, ◌++◌, map, take}
use Rattle.cured_spelling.specs.Lines.{Number, fields_text}
use Rattle.cured_text.proofs.lines.put_front.Given as goal

abbrev pub invariant-loop-n : goal.invariant-loop-n
invariant-loop-n l = l.out.items ≡ l.fn.out.items ++ (l.name ++ fields_text (map Number (take l.n-index l.numbers)))
