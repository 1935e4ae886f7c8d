use Rattle.cured_reading.proofs.BodyLaws.{begun}
use Rattle.std.proofs.Common.{refl, sym, ap, subst, drop}
use Rattle.cured_reading.specs.Parts.{IsWithout}
use Rattle.cured_reading.proofs.WordLaws.{before-without, none-without}
use Rattle.cured_reading.proofs.lines.Lines.next.Goals as goal

pub returns-in-None-clause-none : goal.returns-in-None-clause-none
returns-in-None-clause-none c =
    let none = none-without 10 (drop c.self.inside.from c.self.inside.text.now) c.in-None.ensures.none in
    (refl, subst (λ left. IsWithout 10 left.text) c.self.view_is none)

pub returns-in-Some-clause-whole : goal.returns-in-Some-clause-whole
returns-in-Some-clause-whole c =
    subst (IsWithout 10) (sym c.in-Some.ensures.found.bytes) (before-without 10 (drop c.self.inside.from c.self.inside.text.now))
