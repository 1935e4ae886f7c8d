use Rattle.cured_spelling.proofs.ToldLaws.{one_list_of_lines, one_program}
use Rattle.cured_spelling.proofs.no_text_spells_two_programs.Goals as goal

pub returns-clause-lines : goal.returns-clause-lines
returns-clause-lines c = one_list_of_lines

pub returns-clause-programs : goal.returns-clause-programs
returns-clause-programs c = one_program
