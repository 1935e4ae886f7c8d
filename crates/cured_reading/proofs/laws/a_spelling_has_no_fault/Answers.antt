use Rattle.std.proofs.Common.{length, ◌+◌, ◌∙◌}
use Rattle.cured_reading.specs.Faults.{TheVersion}
use Rattle.cured_reading.proofs.FaultLaws.{right-apart}
use Rattle.cured_reading.proofs.SpellingTold.{told_program, program-text, program-right, lines-kept}
use Rattle.cured_reading.proofs.laws.a_spelling_has_no_fault.Goals as goal

pub returns : goal.returns
returns c = λ p why range numbers places f.
    right-apart TheVersion f.awaited f.lines (told_program p) f.rest (length f.lines + 1) why f.right (program-right p range (lines-kept p numbers places))
    (program-text p ∙ f.cut) f.wrong
