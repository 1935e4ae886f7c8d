use Rattle.std.proofs.Common.{refl}
use Rattle.cured_reading.proofs.ExitLaws.{exit-passes}
use Rattle.cured_reading.proofs.PairLaws.{next_pair, byte-push, odd-digits, first-undigit, second-undigit}
use Rattle.cured_reading.proofs.globals.pairs.Goals as goal

pub pairing-preserved : goal.pairing-preserved
pairing-preserved c = record {
  cut = next_pair _ _ _ _ _ _ _ _ _ _ c.pairing.invariant.cut c.in-Some.ensures.cases.0 c.in-Some-split_first.ensures.cases.0 c.in_ok-low.ensures.found.0 c.in_ok-high.ensures.found.1 c.in_ok-low.ensures.found.1 c.in_ok-push.ensures.items;
  small = byte-push _ _ _ _ c.in_ok-push.ensures.items c.in_ok-high.ensures.found.0 c.in_ok-low.ensures.found.0 c.pairing.invariant.small;
}

pub returns-in_default-split_first-clause-none : goal.returns-in_default-split_first-clause-none
returns-in_default-split_first-clause-none c = λ no. (refl, odd-digits _ _ _ _ _ c.pairing.invariant.cut c.in-Some.ensures.cases.0 c.in_default-split_first.ensures.cases)

pub returns-in_err-high-clause-none : goal.returns-in_err-high-clause-none
returns-in_err-high-clause-none c =
    exit-passes c.from_residual.result _ _ c.from_residual.ensures.1
    (λ no. (c.in_err-high.ensures.none.0, first-undigit _ _ _ _ _ c.pairing.invariant.cut c.in-Some.ensures.cases.0 c.in_err-high.ensures.none.1))

pub returns-in_err-low-clause-none : goal.returns-in_err-low-clause-none
returns-in_err-low-clause-none c =
    exit-passes c.from_residual-in_err-low.result _ _ c.from_residual-in_err-low.ensures.1
    (λ no. (
      c.in_err-low.ensures.none.0,
      second-undigit _ _ _ _ _ c.pairing.invariant.cut c.in-Some.ensures.cases.0 _ _ c.in-Some-split_first.ensures.cases.0 c.in_err-low.ensures.none.1,
    ))

pub returns-in_err-push-clause-none : goal.returns-in_err-push-clause-none
returns-in_err-push-clause-none c =
    exit-passes c.from_residual-in_err-push.result _ _ c.from_residual-in_err-push.ensures.1
    (λ no. absurd (no refl))
