use Rattle.std.proofs.Common.{◌∷◌, refl}
use Rattle.cured_spelling.specs.Lines.{Number}
use Rattle.cured_reading.proofs.ExitLaws.{exit-passes}
use Rattle.cured_reading.proofs.MisreadLaws.{after-two}
use Rattle.cured_reading.proofs.straight.three.Goals as goal

pub returns-in_err-first-clause-none : goal.returns-in_err-first-clause-none
returns-in_err-first-clause-none c =
    exit-passes c.from_residual.result _ _ c.from_residual.ensures.1
    (c.in_err-first.ensures.none.0, λ p more w e. c.in_err-first.ensures.none.1 (p.0, p.1) (Number p.2 ∷ more) (w.0, (w.1.0, tt)) e)

pub returns-in_err-third-clause-none : goal.returns-in_err-third-clause-none
returns-in_err-third-clause-none c =
    exit-passes c.from_residual-in_err-third.result _ _ c.from_residual-in_err-third.ensures.1 (
      c.in_err-third.ensures.none.0,
      λ p more w e.
          c.in_err-third.ensures.none.1 p.2 more (w.1.1.0, tt)
          (after-two _ _ c.in_ok-first.first c.in_ok-first.second p.0 p.1 (Number p.2 ∷ more) c.in_ok-first.ensures.small.0 c.in_ok-first.ensures.small.1 w.0 w.1.0
          c.in_ok-first.ensures.ends c.in_ok-first.ensures.cut e),
    )
