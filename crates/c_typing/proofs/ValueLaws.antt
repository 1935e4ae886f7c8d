-- Values of integer types.
use Rattle.std.proofs.Common.{zero, suc, Option, None, Some, not, ◌&&◌, ◌≢◌, ◌-ℤ◌, ◌/◌, neg_ℤ, int_div, FitsSigned, true≢false, ℕ, ℤ, pos, negsuc, ◌-◌, ◌*◌, ◌^◌, ◌<◌, ◌≡◌, ◌⊎◌, Bool, true, false, refl, ap, sym, ◌∙◌, arith, inl, inr, if◌then◌else◌}
use mir.Syntax.{w128}
use lib.Signed.{mag}
use Rattle.std.specs.Int.{int_wrap}
use Rattle.std.specs.Ordering.{int_eq}
use Rattle.std.proofs.lemmas.Nat.{div_below}
use Rattle.std.proofs.Math.Nat.{div-le_self}
use Rattle.std.proofs.lemmas.Int.{quot_fits, ints}
use Rattle.std.proofs.lemmas.Bool.Decides.{nat_tests}
use Rattle.integers.specs.Words.{residue, signed_of}
use Rattle.integers.specs.Arithmetic.{IntegerType, Operator, converted, least, divides}
use Rattle.c_typing.specs.Constants.{cannot_divide, with_value}

pub residue_wrapped_64 : (z : ℤ) → residue (int_wrap w128 z) (2 ^ 64) ≡ residue z (2 ^ 64)
unfolding int_wrap
residue_wrapped_64 (pos n) = grind (arith, nat_tests)
residue_wrapped_64 (negsuc n) = grind (arith, nat_tests)

pub residue_wrapped_32 : (z : ℤ) → residue (int_wrap w128 z) (2 ^ 32) ≡ residue z (2 ^ 32)
unfolding int_wrap
residue_wrapped_32 (pos n) = grind (arith, nat_tests)
residue_wrapped_32 (negsuc n) = grind (arith, nat_tests)

pub residue_wrapped_16 : (z : ℤ) → residue (int_wrap w128 z) (2 ^ 16) ≡ residue z (2 ^ 16)
unfolding int_wrap
residue_wrapped_16 (pos n) = grind (arith, nat_tests)
residue_wrapped_16 (negsuc n) = grind (arith, nat_tests)

pub residue_wrapped_8 : (z : ℤ) → residue (int_wrap w128 z) (2 ^ 8) ≡ residue z (2 ^ 8)
unfolding int_wrap
residue_wrapped_8 (pos n) = grind (arith, nat_tests)
residue_wrapped_8 (negsuc n) = grind (arith, nat_tests)

IsSize : ℕ → Type 0
IsSize n = (n ≡ 1) ⊎ (n ≡ 2) ⊎ (n ≡ 4) ⊎ (n ≡ 8)

residue_wrapped : (n : ℕ) → (n ≡ 1) ⊎ (n ≡ 2) ⊎ (n ≡ 4) ⊎ (n ≡ 8) → (z : ℤ) → residue (int_wrap w128 z) (2 ^ (8 * n)) ≡ residue z (2 ^ (8 * n))
residue_wrapped n (inl e) z = rw e (residue_wrapped_8 z)
residue_wrapped n (inr (inl e)) z = rw e (residue_wrapped_16 z)
residue_wrapped n (inr (inr (inl e))) z = rw e (residue_wrapped_32 z)
residue_wrapped n (inr (inr (inr e))) z = rw e (residue_wrapped_64 z)

by_sign : (n : ℕ) (b : Bool) (y z : ℤ) → residue y (2 ^ (8 * n)) ≡ residue z (2 ^ (8 * n)) → converted (record { bytes = n; signed = b }) y ≡ converted (record { bytes = n; signed = b }) z
by_sign n true y z h = ap (signed_of (8 * n)) h
by_sign n false y z h = ap pos h

pub converted_wrapped : (k : IntegerType) (z : ℤ) → (k.bytes ≡ 1) ⊎ (k.bytes ≡ 2) ⊎ (k.bytes ≡ 4) ⊎ (k.bytes ≡ 8) → converted k (int_wrap w128 z) ≡ converted k z
converted_wrapped k z h = by_sign k.bytes k.signed (int_wrap w128 z) z (residue_wrapped k.bytes h z)

pub from_zero : (x : ℤ) → pos 0 -ℤ x ≡ neg_ℤ x
from_zero x = omega (arith, ints)

pub is_minus_one : (y : ℤ) → int_eq y (negsuc 0) ≡ true → y ≡ negsuc 0
is_minus_one y h = grind (arith, ints, h)

pub divided_by_minus_one : (x : ℤ) → int_div x (negsuc 0) ≡ neg_ℤ x
divided_by_minus_one (pos a) = ap (λ n. neg_ℤ (pos n)) (omega arith)
divided_by_minus_one (negsuc a) = ap pos (omega arith)

pub quotient_by_minus_one : (x y : ℤ) → int_eq y (negsuc 0) ≡ true → neg_ℤ x ≡ int_div x y
quotient_by_minus_one x y h = rw (is_minus_one y h) (sym (divided_by_minus_one x))

mag_neg : (n : ℕ) → mag (neg_ℤ (pos n)) ≡ n - 1
mag_neg zero = refl
mag_neg (suc n) = omega arith

above_zero : (b : ℕ) → pos b ≢ pos 0 → 0 < b
above_zero zero h = absurd (h refl)
above_zero (suc b) h = omega arith

pub quotient_fits : (x y : ℤ) → FitsSigned w128 x → y ≢ pos 0 → int_eq y (negsuc 0) ≡ false → FitsSigned w128 (int_div x y)
quotient_fits x (pos b) f h g = let p : 0 < b = above_zero b h in quot_fits w128 x (pos b) f (omega (arith, ints))
quotient_fits (pos a) (negsuc b) f h g = record { sfits = omega (arith, mag_neg (a / suc b), div-le_self a (suc b), f.sfits) }
quotient_fits (negsuc a) (negsuc zero) f h g = absurd (true≢false g)
quotient_fits (negsuc a) (negsuc (suc b)) f h g = record { sfits = div_below (suc a) (suc (suc b)) (2 ^ 127) (omega arith) (omega (arith, f.sfits)) }

-- the values of the tests of a division, by those of their parts
pub unsigned_is_small : (s a b : Bool) → not s ≡ true → false ≡ s && (a && b)
unsigned_is_small true a b h = absurd (true≢false (sym h))
unsigned_is_small false a b h = refl

pub large_by_last : (s a b p r : Bool) → not s ≡ false → p ≡ a → p ≡ true → r ≡ b → r ≡ s && (a && b)
large_by_last true a b p r hs ha hp hr = rw (← ha, hp, hr) refl
large_by_last false a b p r hs ha hp hr = absurd (true≢false hs)

pub large_by_first : (s a b p : Bool) → not s ≡ false → p ≡ a → p ≡ false → p ≡ s && (a && b)
large_by_first true a b p hs ha hp = rw (← ha, hp) refl
large_by_first false a b p hs ha hp = absurd (true≢false hs)

pub divides_by_last : (z l p r : Bool) → p ≡ z → p ≡ false → r ≡ l → not r ≡ not z && not l
divides_by_last z l p r hz hp hl = rw (← hz, hp, hl) refl

pub divides_by_first : (z l p : Bool) → p ≡ z → p ≡ true → not p ≡ not z && not l
divides_by_first z l p hz hp = rw (← hz, hp) refl

pub least_of : (k : IntegerType) (n : ℕ) → k.bytes ≡ n → least (record { bytes = n; signed = true }) ≡ least k
least_of k n e = ap (λ m. neg_ℤ (pos (2 ^ (8 * m - 1)))) (sym e)

pub last_size : (n : ℕ) → (n ≡ 1) ⊎ (n ≡ 2) ⊎ (n ≡ 4) ⊎ (n ≡ 8) → n ≢ 1 → n ≢ 2 → n ≢ 4 → n ≡ 8
last_size n (inl e) h i j = absurd (h e)
last_size n (inr (inl e)) h i j = absurd (i e)
last_size n (inr (inr (inl e))) h i j = absurd (j e)
last_size n (inr (inr (inr e))) h i j = e

-- a divisor that is not 0
pub not_zero : (y : ℤ) → int_eq y (pos 0) ≡ false → y ≢ pos 0
not_zero y h e = true≢false (sym (ap (λ z. int_eq z (pos 0)) e) ∙ h)

nonzero_by : (d z r : Bool) → (d && not (not z && r)) ≡ false → d ≡ true → z ≡ false
nonzero_by true true r h e = absurd (true≢false h)
nonzero_by true false r h e = refl
nonzero_by false z r h e = absurd (true≢false (sym e))

-- where a division has a result, its divisor is not 0
pub divisor_is_some : (operator : Operator) (k : IntegerType) (x y : ℤ) → cannot_divide operator k x y ≡ false → divides operator ≡ true → int_eq y (pos 0) ≡ false
divisor_is_some operator k x y = nonzero_by (divides operator) (int_eq y (pos 0)) (not (k.signed && (int_eq x (least k) && int_eq y (negsuc 0))))

-- the value of an operator, where it has one
pub checked_none : (b p : Bool) (z : ℤ) → p ≡ b → p ≡ true → None ≡ (if b then None else Some z)
checked_none true p z e h = refl
checked_none false p z e h = absurd (true≢false (sym h ∙ e))

pub checked_some : (b p : Bool) (z w : ℤ) → p ≡ b → p ≡ false → w ≡ z → Some w ≡ (if b then None else Some z)
checked_some false p z w e h f = ap Some f
checked_some true p z w e h f = absurd (true≢false (sym e ∙ h))

-- an operator on two values that are there
pub values-there : (f : ℤ → ℤ → Option ℤ) (x y : Option ℤ) (a b : ℤ) (r : Option ℤ) → x ≡ Some a → y ≡ Some b → r ≡ f a b
    → r ≡ with_value x (λ v. with_value y (λ w. f v w))
values-there f x y a b r p q h =
    h ∙ ap (λ z. with_value z (λ v. with_value (Some b) (λ w. f v w))) (sym p) ∙ ap (λ z. with_value x (λ v. with_value z (λ w. f v w))) (sym q)
