use Rattle.std.proofs.Common.{◌∷◌, refl}
use Rattle.cured_spelling.specs.Lines.{Number}
use Rattle.cured_reading.proofs.ExitLaws.{exit-passes}
use Rattle.cured_reading.proofs.WordLaws.{after-field}
use Rattle.cured_reading.proofs.straight.two.Goals as goal

pub returns-in_err-first-clause-none : goal.returns-in_err-first-clause-none
returns-in_err-first-clause-none c =
    exit-passes c.from_residual.result _ _ c.from_residual.ensures.1
    (c.in_err-first.ensures.none.0, λ p more w e. c.in_err-first.ensures.none.1 p.0 (Number p.1 ∷ more) (w.0, tt) e)

pub returns-in_err-second-clause-none : goal.returns-in_err-second-clause-none
returns-in_err-second-clause-none c =
    exit-passes c.from_residual-in_err-second.result _ _ c.from_residual-in_err-second.ensures.1 (
      c.in_err-second.ensures.none.0,
      λ p more w e.
          c.in_err-second.ensures.none.1 p.1 more (w.1.0, tt)
          (after-field _ _ (Number c.in_ok-first.first) (Number p.0) (Number p.1 ∷ more) c.in_ok-first.ensures.small w.0 c.in_ok-first.ensures.ends
          c.in_ok-first.ensures.cut e),
    )
