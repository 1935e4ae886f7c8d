use Rattle.std.proofs.Common.{◌≡◌, ◌++◌, take}
use Rattle.std.specs.Prelude.{flat_map}
use Rattle.cured_spelling.specs.Lines.{line_text}
use Rattle.cured_spelling.specs.Spelling.{code_lines}
use Rattle.cured_text.proofs.instructions.+writing.Given as goal

abbrev pub invariant-put_code-loop-instr : goal.invariant-put_code-loop-instr
invariant-put_code-loop-instr l = l.out.items ≡ l.fn.out.items ++ flat_map line_text (code_lines (take l.instr-index l.instrs))
