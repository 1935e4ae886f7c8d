-- Words against integers, and distances on words.
use Rattle.std.proofs.Common.{◌≡◌, ◌∙◌, ℕ, ◌+◌, ◌-◌, ◌*◌, ◌/◌, ◌%◌, ◌≤◌, ◌^◌, ℤ, pos, negsuc, ◌+ℤ◌, ◌-ℤ◌, true, ◌&&◌, inl, inr, nat_lt, nat_eq, refl, ap, sym, subst, arith}
use Rattle.std.specs.Prelude.{int_lt, int_le, int_div, int_rem, neg_ℤ, ◌*ℤ◌}
use Rattle.std.proofs.lemmas.Bool.Decides.{nat_tests}
use Rattle.std.proofs.lemmas.Int.{ints}
use Rattle.flat_mem.specs.Bytes.{IsAccessSize}
use Rattle.type_laws.proofs.Stairs.{stair-bounds, stair-mono}
use Rattle.integers.specs.Words.{word, residue, signed_of, truth_word}
use Rattle.integers.specs.Operators.{signed, remainder_signed, low_bits, shifted_down}
use Rattle.integers.proofs.WordLaws.{word-small}
use Rattle.integers.proofs.SignedLaws.{IsNear, IsReach, sum-word, difference-word, signed-word, less-word, in_part-word, in_area-word}
use Rattle.sim_checks.specs.Moving.{steps}
use Rattle.sim_checks.specs.Words.{IsSigned, SumsStand, DifferencesStand, ProductsStand, ReadingsStand, QuotientsStand, SignedQuotientsStand, ComparisonsStand, ShiftsStand, NarrowingsStand, MovesAreExact, ElementsAreExact, PartsAreExact, CuredPartsAreExact, CuredDistancesAreOrdered, RemaindersAreExact, AreasAreExact, AlignmentsAreExact}
use Rattle.sim_checks.proofs.Distances.{product-word, near-moved, elements-between}
use Rattle.sim_checks.proofs.Differences.{rem-zero}
use Rattle.sim_checks.proofs.Tagged.{align-word}

-- what 64 bits hold, as the laws of words say it
near : (z : ℤ) → IsSigned z → IsNear z
near (pos n) h = record { low = refl; high = (let x : int_lt (pos n) (pos (2 ^ 63)) ≡ true = grind (arith, ints, h) in x) }
near (negsuc n) h = record { low = (let x : int_le (negsuc (2 ^ 63 - 1)) (negsuc n) ≡ true = grind (arith, ints, h) in x); high = refl }

-- Words

pub sums-stand : SumsStand
sums-stand x y = sum-word x y

pub differences-stand : DifferencesStand
differences-stand x y = difference-word x y

pub products-stand : ProductsStand
products-stand x m = product-word x m

pub readings-stand : ReadingsStand
readings-stand = (λ x h. signed-word x (near x h), λ n h. word-small n h)

pub quotients-stand : QuotientsStand
quotients-stand a b ha hb = (
  ap (λ x. x / word (pos b)) (word-small a ha) ∙ ap (λ y. a / y) (word-small b hb),
  ap (λ x. x % word (pos b)) (word-small a ha) ∙ ap (λ y. a % y) (word-small b hb),
)

pub signed-quotients-stand : SignedQuotientsStand
signed-quotients-stand x y hx hy = (
  ap (λ a. word (int_div a (signed (word y)))) (signed-word x (near x hx)) ∙ ap (λ b. word (int_div x b)) (signed-word y (near y hy)),
  ap (λ a. word (int_rem a (signed (word y)))) (signed-word x (near x hx)) ∙ ap (λ b. word (int_rem x b)) (signed-word y (near y hy)),
)

pub comparisons-stand : ComparisonsStand
comparisons-stand = (
  λ a b ha hb. ap (λ x. truth_word (nat_lt x (word (pos b)))) (word-small a ha) ∙ ap (λ y. truth_word (nat_lt a y)) (word-small b hb),
  λ x y hx hy. less-word x y (near x hx) (near y hy),
)

pub shifts-stand : ShiftsStand
shifts-stand = (
  λ x k. product-word x (2 ^ (k % 64)),
  λ n k h. ap (λ x. x / 2 ^ (k % 64)) (word-small n h),
  λ x k h. ap (λ a. word (shifted_down a (k % 64))) (signed-word x (near x h)),
)

-- the low bits of a word
low-bits : (n : ℕ) → IsAccessSize n → (x : ℤ) → low_bits (8 * n) (word x) ≡ residue x (2 ^ (8 * n))
low-bits n (inl e) x = subst (λ k. low_bits (8 * k) (word x) ≡ residue x (2 ^ (8 * k))) (sym e) (of x)
  where
    of : (x : ℤ) → word x % 2 ^ 8 ≡ residue x (2 ^ 8)
    of (pos m) = omega arith
    of (negsuc m) = omega arith
low-bits n (inr (inl e)) x = subst (λ k. low_bits (8 * k) (word x) ≡ residue x (2 ^ (8 * k))) (sym e) (of x)
  where
    of : (x : ℤ) → word x % 2 ^ 16 ≡ residue x (2 ^ 16)
    of (pos m) = omega arith
    of (negsuc m) = omega arith
low-bits n (inr (inr (inl e))) x = subst (λ k. low_bits (8 * k) (word x) ≡ residue x (2 ^ (8 * k))) (sym e) (of x)
  where
    of : (x : ℤ) → word x % 2 ^ 32 ≡ residue x (2 ^ 32)
    of (pos m) = omega arith
    of (negsuc m) = omega arith
low-bits n (inr (inr (inr e))) x = subst (λ k. low_bits (8 * k) (word x) ≡ residue x (2 ^ (8 * k))) (sym e) (of x)
  where
    of : (x : ℤ) → word x % 2 ^ 64 ≡ residue x (2 ^ 64)
    of (pos m) = omega arith
    of (negsuc m) = omega arith

pub narrowings-stand : NarrowingsStand
narrowings-stand n h = (low-bits n h, λ x. ap (λ r. word (signed_of (8 * n) r)) (low-bits n h x))

-- Distances

near-is : (u : ℤ) (span : ℕ) → span ≤ 2 ^ 63 → IsSigned u → nat_lt (word u) span ≡ (int_le (pos 0) u && int_lt u (pos span))
near-is (pos n) span s h = grind (arith, nat_tests)
near-is (negsuc n) span s h = grind (arith, nat_tests)

pub moves-are-exact : MovesAreExact
moves-are-exact way low size x z least span hl hk hs h =
    near-moved way low size x z least span hl hk ∙ near-is ((x +ℤ steps way z *ℤ pos size) +ℤ pos least) span hs h

pub elements-are-exact : ElementsAreExact
elements-are-exact q a m r b h = elements-between q a m r b h

pub parts-are-exact : PartsAreExact
parts-are-exact m a low high hm ha hl hd = in_part-word m a low high (near m hm) (near a ha) (near low hl) (near _ hd)

pub cured-parts-are-exact : CuredPartsAreExact
cured-parts-are-exact f u n some first next last d length end = stair-bounds f u n (record { some = some; first = first; next = next }) last d length end

pub cured-distances-are-ordered : CuredDistancesAreOrdered
cured-distances-are-ordered f u n some first next x y h = stair-mono f u n (record { some = some; first = first; next = next }) x y h

pub remainders-are-exact : RemaindersAreExact
remainders-are-exact x y m h some few =
    ap (λ a. nat_eq (remainder_signed a m) 0) (difference-word x y)
    ∙ ap (λ a. nat_eq (word (int_rem a (signed m))) 0) (signed-word (x -ℤ y) (near (x -ℤ y) h))
    ∙ ap (λ a. nat_eq (word (int_rem (x -ℤ y) (signed a))) 0) (sym (word-small m (omega (arith, few))))
    ∙ ap (λ a. nat_eq (word (int_rem (x -ℤ y) a)) 0) (signed-word (pos m) (near (pos m) (omega (arith, few))))
    ∙ rem-zero (x -ℤ y) m some few

reach : (z : ℤ) → int_le (neg_ℤ (pos (2 ^ 41))) z ≡ true → int_le z (pos (2 ^ 41)) ≡ true → IsReach z
reach (pos n) h k = let x : n ≤ 2 ^ 41 = grind (arith, ints, k) in x
reach (negsuc n) h k = let x : n ≤ 2 ^ 41 = grind (arith, ints, h) in x

pub areas-are-exact : AreasAreExact
areas-are-exact size m z hs hm low high = in_area-word size m z hs hm (reach z low high)

pub alignments-are-exact : AlignmentsAreExact
alignments-are-exact a z h = align-word a z h
