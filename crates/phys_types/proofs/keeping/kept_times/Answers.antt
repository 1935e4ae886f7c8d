use Rattle.std.proofs.Common.{inl, inr, refl}
use Rattle.phys_types.proofs.keeping.kept_times.Goals as goal

-- the copies are written out
pub returns-then-saturating_mul-le-FEW_SPOTS : goal.returns-then-saturating_mul-le-FEW_SPOTS
returns-then-saturating_mul-le-FEW_SPOTS c = inr (refl, c.in_ok-whole.ensures)

-- the part is kept
pub returns : goal.returns
returns c = inl (refl, c.in_ok-copy.ensures)
