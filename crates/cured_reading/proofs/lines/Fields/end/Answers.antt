use Rattle.cured_reading.proofs.InstrLaws.{named-some}
use Rattle.std.proofs.Common.{◌∙◌, refl}
use Rattle.cured_reading.proofs.BeforeLaws.{ended-at}
use Rattle.cured_reading.proofs.SectionLaws.{sig-read}
use Rattle.cured_reading.proofs.lines.Fields.end.Goals as goal

pub returns-else-self-clause-more : goal.returns-else-self-clause-more
returns-else-self-clause-more c =
    (refl, λ e. c.if-self.false (ended-at c.self.inside.line.now c.self.inside.at c.self.invariant (c.self.view_is ∙ e)))
