use Rattle.cured_reading.proofs.StraightLaws.{unnamed}
use Rattle.cured_reading.proofs.WordLaws.{word-before}
use Rattle.cured_reading.proofs.lines.Fields.name.Goals as goal

pub returns-in-Some-clause-word : goal.returns-in-Some-clause-word
returns-in-Some-clause-word c = word-before c.self.inside.line.now c.in-Some.part.now c.self.inside.at c.in-Some.field-0-1 c.in-Some.ensures.found
