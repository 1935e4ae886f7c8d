use Rattle.std.proofs.Common.{Option, None, Some, ◌≡◌, ◌<◌, ◌≤◌, ◌^◌, refl, arith, inl, inr}
use Rattle.kind_solver.specs.declared.constraint.Why.{Why}
use Rattle.kind_solver.specs.declared.constraint.Why.TheVariants.{Arith, Integer, Down, Tile, Bad, Union}
use Rattle.kind_solver.specs.declared.cause.Cause.{Cause}
use Rattle.kind_solver.specs.Order.{why_order, rank, late, Fits, ComesBefore}

-- The order of causes as numbers.

why_order_small : (w : Why) → why_order w < 6
why_order_small Arith = omega arith
why_order_small Integer = omega arith
why_order_small Down = omega arith
why_order_small Tile = omega arith
why_order_small Bad = omega arith
why_order_small Union = omega arith

pub rank_small : (c : Cause) → Fits c → rank c < 2 ^ 70
rank_small c fits = omega (arith, why_order_small c.why, fits.0, fits.1)

pub rank_before : (a b : Cause) → Fits a → Fits b → ComesBefore a b → rank a < rank b
rank_before a b fits_a fits_b h =
    let small_a = why_order_small a.why in
    let small_b = why_order_small b.why in
    elim h [
      | inl place ↦ elim place [ inl line ↦ omega arith | inr col ↦ omega arith ]
      | inr why ↦ omega arith
    ]

pub late_some : (o : Option Cause) (c : Cause) → late o ≤ rank c → Fits c → (b : Cause) × (o ≡ Some b) × (rank b ≤ rank c)
late_some None c h fits = absurd (omega (arith, rank_small c fits))
late_some (Some b) c h fits = (b, refl, h)
