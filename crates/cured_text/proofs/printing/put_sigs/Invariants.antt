use Rattle.std.proofs.Common.{[], ◌∷◌, ◌≡◌, ◌++◌, map, take, length}
use Rattle.std.specs.Prelude.{codes, flat_map}
use Rattle.cured_spelling.specs.Lines.{line, line_text}
use Rattle.cured_spelling.specs.Spelling.{sig_line}
use Rattle.cured_text.proofs.printing.put_sigs.Given as goal

abbrev pub invariant-loop-sig : goal.invariant-loop-sig
invariant-loop-sig l = l.out.items ≡ l.fn.out.items ++ flat_map line_text (line (codes "sigs") (length l.sigs ∷ []) ∷ map sig_line (take l.sig-index l.sigs))
