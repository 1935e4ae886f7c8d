use Rattle.cured_reading.proofs.RefusalLaws.{refused-on, more-fails}
use Rattle.cured_reading.proofs.reading.whole.Goals as goal

pub returns-then-not-is_empty-clause-refused : goal.returns-then-not-is_empty-clause-refused
returns-then-not-is_empty-clause-refused c =
    refused-on _ _ _ _ _ _ c.in_ok-parts.ensures.read (more-fails _ (λ e. let t = c.is_empty.ensures.1 e in absurd (cc (t, c.if-not-is_empty.true))))

pub returns-in-None-clause-refused : goal.returns-in-None-clause-refused
returns-in-None-clause-refused c = let there = c.in-None.ensures.exact.1 c.in_ok-parts.ensures.kept in λ other. absurd (cc there)
