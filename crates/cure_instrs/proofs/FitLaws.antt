-- Integers of C's types fit 128 bits.
use Rattle.std.proofs.Common.{◌≡◌, refl, ap, sym, subst, ◌∙◌, ℕ, ◌-◌, ◌*◌, ◌^◌, ◌<◌, ◌≤◌, ◌⊎◌, inl, inr, ℤ, pos, negsuc, Bool, true, false, nat_lt, if◌then◌else◌, arith}
use mir.Syntax.{w128}
use Rattle.std.proofs.lemmas.Int.{to_z-of_z}
use mir.Val.{SFits as FitsSigned, to_z, of_z}
use Rattle.c_types.specs.Sound.{IsIntegerSize}
use Rattle.integers.specs.Words.{residue}
use Rattle.integers.specs.Arithmetic.{IntegerType, converted, bits_of}
use Rattle.integers.proofs.WordLaws.{residue-below}

size-small : (n : ℕ) → IsIntegerSize n → (0 < 2 ^ (8 * n)) × (2 ^ (8 * n) ≤ 2 ^ 64)
size-small n (inl e) = subst (λ m. (0 < 2 ^ (8 * m)) × (2 ^ (8 * m) ≤ 2 ^ 64)) (sym e) (omega arith, omega arith)
size-small n (inr (inl e)) = subst (λ m. (0 < 2 ^ (8 * m)) × (2 ^ (8 * m) ≤ 2 ^ 64)) (sym e) (omega arith, omega arith)
size-small n (inr (inr (inl e))) = subst (λ m. (0 < 2 ^ (8 * m)) × (2 ^ (8 * m) ≤ 2 ^ 64)) (sym e) (omega arith, omega arith)
size-small n (inr (inr (inr e))) = subst (λ m. (0 < 2 ^ (8 * m)) × (2 ^ (8 * m) ≤ 2 ^ 64)) (sym e) (omega arith, omega arith)

fits-pos : (r : ℕ) → r < 2 ^ 64 → FitsSigned w128 (pos r)
fits-pos r h = record { sfits = omega (arith, h) }

fits-neg : (q : ℕ) → q < 2 ^ 64 → FitsSigned w128 (negsuc q)
fits-neg q h = record { sfits = omega (arith, h) }

fits-by : (signed b : Bool) (r q : ℕ) → r < 2 ^ 64 → q < 2 ^ 64 → FitsSigned w128 (if signed then (if b then pos r else negsuc q) else pos r)
fits-by false b r q h g = fits-pos r h
fits-by true true r q h g = fits-pos r h
fits-by true false r q h g = fits-neg q g

pub read_back : (i : IntegerType) (z : ℤ) → IsIntegerSize i.bytes → converted i z ≡ z → to_z w128 (of_z w128 z) ≡ z
read_back i z size e =
    let s = size-small i.bytes size in
    let m = 2 ^ bits_of i in
    let r = residue z m in
    let b = residue-below z m s.0 in
    to_z-of_z w128 z (subst (FitsSigned w128) e
    (fits-by i.signed (nat_lt r (2 ^ (bits_of i - 1))) r (m - 1 - r) (let k = s.1 in omega (arith, b, k)) (let k = s.1 in omega (arith, b, k))))
