use Rattle.std.proofs.Common.{sym, subst}
use Rattle.cured_reading.specs.Operations.{wide_fields}
use Rattle.cured_reading.specs.Refusals.{LacksFields}
use Rattle.cured_reading.proofs.ExitLaws.{exit-passes}
use Rattle.cured_reading.proofs.StraightLaws.{lacks-Two, lacks-Three, lacks-Four, lacks-OneLong, lacks-TwoLong, lacks-ThreeLong, lacks-FourLong, lacks-Access, more-Four, more-ThreeLong, more-FourLong}
use Rattle.cured_reading.proofs.straight.wide.Goals as goal

pub returns-in_err-of-in-Two-clause-none : goal.returns-in_err-of-in-Two-clause-none
returns-in_err-of-in-Two-clause-none c =
    exit-passes c.from_residual-in_err-of-in-Two.result _ _ c.from_residual-in_err-of-in-Two.ensures.1
    (c.in_err-of-in-Two.ensures.none.0, subst (λ f. LacksFields (wide_fields f) c.args.fields.now) (sym c.in-Two.is) (lacks-Two _ c.in_err-of-in-Two.ensures.none.1))

pub returns-in_err-of-in-Three-clause-none : goal.returns-in_err-of-in-Three-clause-none
returns-in_err-of-in-Three-clause-none c =
    exit-passes c.from_residual-in_err-of-in-Three.result _ _ c.from_residual-in_err-of-in-Three.ensures.1
    (c.in_err-of-in-Three.ensures.none.0, subst (λ f. LacksFields (wide_fields f) c.args.fields.now) (sym c.in-Three.is) (lacks-Three _ c.in_err-of-in-Three.ensures.none.1))

pub returns-in_err-of-in-Four-clause-none : goal.returns-in_err-of-in-Four-clause-none
returns-in_err-of-in-Four-clause-none c =
    exit-passes c.from_residual-in_err-of-in-Four.result _ _ c.from_residual-in_err-of-in-Four.ensures.1
    (c.in_err-of-in-Four.ensures.none.0, subst (λ f. LacksFields (wide_fields f) c.args.fields.now) (sym c.in-Four.is) (lacks-Four _ c.in_err-of-in-Four.ensures.none.1))

pub returns-in_err-of-in-Four-2-clause-none : goal.returns-in_err-of-in-Four-2-clause-none
returns-in_err-of-in-Four-2-clause-none c =
    exit-passes c.from_residual-in_err-of-in-Four-2.result _ _ c.from_residual-in_err-of-in-Four-2.ensures.1 (
      c.in_err-of-in-Four-2.ensures.none.0,
      subst (λ f. LacksFields (wide_fields f) c.args.fields.now) (sym c.in-Four.is)
          (more-Four _ _ c.in_ok-of-in-Four.field-0-0 c.in_ok-of-in-Four.field-0-1 c.in_ok-of-in-Four.ensures.small.0 c.in_ok-of-in-Four.ensures.small.1 c.in_ok-of-in-Four.ensures.ends c.in_ok-of-in-Four.ensures.cut c.in_err-of-in-Four-2.ensures.none.1),
    )

pub returns-in_err-of-in-OneLong-clause-none : goal.returns-in_err-of-in-OneLong-clause-none
returns-in_err-of-in-OneLong-clause-none c =
    exit-passes c.from_residual-in_err-of-in-OneLong.result _ _ c.from_residual-in_err-of-in-OneLong.ensures.1
    (c.in_err-of-in-OneLong.ensures.none.0, subst (λ f. LacksFields (wide_fields f) c.args.fields.now) (sym c.in-OneLong.is) (lacks-OneLong _ c.in_err-of-in-OneLong.ensures.none.1))

pub returns-in_err-of-in-TwoLong-clause-none : goal.returns-in_err-of-in-TwoLong-clause-none
returns-in_err-of-in-TwoLong-clause-none c =
    exit-passes c.from_residual-in_err-of-in-TwoLong.result _ _ c.from_residual-in_err-of-in-TwoLong.ensures.1
    (c.in_err-of-in-TwoLong.ensures.none.0, subst (λ f. LacksFields (wide_fields f) c.args.fields.now) (sym c.in-TwoLong.is) (lacks-TwoLong _ c.in_err-of-in-TwoLong.ensures.none.1))

pub returns-in_err-of-in-ThreeLong-clause-none : goal.returns-in_err-of-in-ThreeLong-clause-none
returns-in_err-of-in-ThreeLong-clause-none c =
    exit-passes c.from_residual-in_err-of-in-ThreeLong.result _ _ c.from_residual-in_err-of-in-ThreeLong.ensures.1
    (c.in_err-of-in-ThreeLong.ensures.none.0, subst (λ f. LacksFields (wide_fields f) c.args.fields.now) (sym c.in-ThreeLong.is) (lacks-ThreeLong _ c.in_err-of-in-ThreeLong.ensures.none.1))

pub returns-in_err-of-in-ThreeLong-2-clause-none : goal.returns-in_err-of-in-ThreeLong-2-clause-none
returns-in_err-of-in-ThreeLong-2-clause-none c =
    exit-passes c.from_residual-in_err-of-in-ThreeLong-2.result _ _ c.from_residual-in_err-of-in-ThreeLong-2.ensures.1 (
      c.in_err-of-in-ThreeLong-2.ensures.none.0,
      subst (λ f. LacksFields (wide_fields f) c.args.fields.now) (sym c.in-ThreeLong.is)
          (more-ThreeLong _ _ c.in_ok-of-in-ThreeLong.field-0-0 c.in_ok-of-in-ThreeLong.field-0-1 c.in_ok-of-in-ThreeLong.ensures.small.0 c.in_ok-of-in-ThreeLong.ensures.small.1 c.in_ok-of-in-ThreeLong.ensures.ends c.in_ok-of-in-ThreeLong.ensures.cut c.in_err-of-in-ThreeLong-2.ensures.none.1),
    )

pub returns-in_err-of-in-FourLong-clause-none : goal.returns-in_err-of-in-FourLong-clause-none
returns-in_err-of-in-FourLong-clause-none c =
    exit-passes c.from_residual-in_err-of-in-FourLong.result _ _ c.from_residual-in_err-of-in-FourLong.ensures.1
    (c.in_err-of-in-FourLong.ensures.none.0, subst (λ f. LacksFields (wide_fields f) c.args.fields.now) (sym c.in-FourLong.is) (lacks-FourLong _ c.in_err-of-in-FourLong.ensures.none.1))

pub returns-in_err-of-in-FourLong-2-clause-none : goal.returns-in_err-of-in-FourLong-2-clause-none
returns-in_err-of-in-FourLong-2-clause-none c =
    exit-passes c.from_residual-in_err-of-in-FourLong-2.result _ _ c.from_residual-in_err-of-in-FourLong-2.ensures.1 (
      c.in_err-of-in-FourLong-2.ensures.none.0,
      subst (λ f. LacksFields (wide_fields f) c.args.fields.now) (sym c.in-FourLong.is)
          (more-FourLong _ _ c.in_ok-of-in-FourLong.field-0-0 c.in_ok-of-in-FourLong.field-0-1 c.in_ok-of-in-FourLong.ensures.small.0 c.in_ok-of-in-FourLong.ensures.small.1 c.in_ok-of-in-FourLong.ensures.ends c.in_ok-of-in-FourLong.ensures.cut c.in_err-of-in-FourLong-2.ensures.none.1),
    )

pub returns-in_err-of-in-Access-clause-none : goal.returns-in_err-of-in-Access-clause-none
returns-in_err-of-in-Access-clause-none c =
    exit-passes c.from_residual-in_err-of-in-Access.result _ _ c.from_residual-in_err-of-in-Access.ensures.1
    (c.in_err-of-in-Access.ensures.none.0, subst (λ f. LacksFields (wide_fields f) c.args.fields.now) (sym c.in-Access.is) (lacks-Access _ c.in_err-of-in-Access.ensures.none.1))
