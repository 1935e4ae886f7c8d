-- No text spells two programs.
use Rattle.std.proofs.Common.{◌≡◌}
use Rattle.cured_code.specs.declared.parts.Parts.{Parts}
use Rattle.cured_spelling.specs.Spelling.{program_lines, cured_spelling}
use Rattle.cured_spelling.specs.InRange.{AreNumbersInRange}
use Rattle.cured_spelling.specs.Plain.{plain}
use Rattle.cured_spelling.proofs.LineLaws.{lines_told}
use Rattle.cured_spelling.proofs.WrittenLaws.{program-written}
use Rattle.cured_spelling.proofs.ProgramLaws.{program_told}

-- programs with one spelling have the same lines
pub one_list_of_lines : (p q : Parts) → AreNumbersInRange p → AreNumbersInRange q → cured_spelling p ≡ cured_spelling q
    → program_lines p ≡ program_lines q
one_list_of_lines p q = lines_told (program_lines p) (program_lines q) (program-written p) (program-written q)

-- programs with one spelling are the same
pub one_program : (p q : Parts) → AreNumbersInRange p → AreNumbersInRange q → cured_spelling p ≡ cured_spelling q → plain p ≡ plain q
one_program p q a b e = program_told p q (one_list_of_lines p q a b e)
