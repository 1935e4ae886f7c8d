-- Integers by their low bytes.
use Rattle.std.proofs.Common.{◌≡◌, ◌≢◌, ℕ, zero, suc, ◌-◌, ◌*◌, ◌%◌, ◌^◌, ◌<◌, ℤ, pos, negsuc, Bool, true, false, not, refl, ap, sym, subst, ◌∙◌, ⊎_elim, arith, if◌then◌else◌, nat_lt, int_eq}
use Rattle.std.proofs.lemmas.Bool.Decides.{nat_tests}
use Rattle.std.proofs.Math.Nat.{mod-eq_of_lt}
use Rattle.integers.specs.Words.{word, residue, as_signed, signed_of, is_true_word}
use Rattle.integers.specs.Arithmetic.{IntegerType, converted, bits_of}
use Rattle.flat_mem.specs.Bytes.{IsAccessSize}
use Rattle.src_mem.specs.Pointers.{Integer, is_true}
use Rattle.sim_relation.specs.Points.{Form, Exact, Zeroed, Low, HoldsAs}

-- the number of values of so many bytes
pub data IsWidth : ℕ → Type 0 where
  one : IsWidth 256
  two : IsWidth 65536
  four : IsWidth 4294967296
  eight : IsWidth 18446744073709551616

pub width-of : (n : ℕ) → IsAccessSize n → IsWidth (2 ^ (8 * n))
width-of n h = ⊎_elim (λ e. subst (λ (k : ℕ). IsWidth (2 ^ (8 * k))) (sym e) one)
    (λ h. ⊎_elim (λ e. subst (λ (k : ℕ). IsWidth (2 ^ (8 * k))) (sym e) two)
    (λ h. ⊎_elim (λ e. subst (λ (k : ℕ). IsWidth (2 ^ (8 * k))) (sym e) four) (λ e. subst (λ (k : ℕ). IsWidth (2 ^ (8 * k))) (sym e) eight) h) h) h

pub word-low : (m : ℕ) → IsWidth m → (z : ℤ) → word z % m ≡ residue z m
word-low m one (pos n) = omega arith
word-low m two (pos n) = omega arith
word-low m four (pos n) = omega arith
word-low m eight (pos n) = omega arith
word-low m one (negsuc n) = omega arith
word-low m two (negsuc n) = omega arith
word-low m four (negsuc n) = omega arith
word-low m eight (negsuc n) = omega arith

pub residue-below : (m : ℕ) → IsWidth m → (z : ℤ) → residue z m < m
residue-below m one (pos n) = omega arith
residue-below m two (pos n) = omega arith
residue-below m four (pos n) = omega arith
residue-below m eight (pos n) = omega arith
residue-below m one (negsuc n) = omega arith
residue-below m two (negsuc n) = omega arith
residue-below m four (negsuc n) = omega arith
residue-below m eight (negsuc n) = omega arith

-- a slot in any form holds the integer by its low bytes
pub low-of : (i : IntegerType) → IsAccessSize i.bytes → (f : Form) (z : ℤ) (n : ℕ) → HoldsAs f i z n → HoldsAs Low i z n
low-of i h Exact z n e = ap (λ (k : ℕ). k % 2 ^ bits_of i) e ∙ word-low (2 ^ bits_of i) (width-of i.bytes h) z
low-of i h Low z n e = e
low-of i h Zeroed z n e = ap (λ (k : ℕ). k % 2 ^ bits_of i) e ∙ mod-eq_of_lt (residue-below (2 ^ bits_of i) (width-of i.bytes h) z)

-- Conversion

residue-signed_of : (b m half : ℕ) → m < b → (q : Bool) → residue (if q then pos m else negsuc (b - 1 - m)) b ≡ m
residue-signed_of b m half h true = mod-eq_of_lt h
residue-signed_of b m half h false = let e : (b - 1 - m) % b ≡ b - 1 - m = mod-eq_of_lt (omega arith) in omega (arith, e)

-- it keeps the low bytes
pub converted-low : (i : IntegerType) → IsAccessSize i.bytes → (z : ℤ) → residue (converted i z) (2 ^ bits_of i) ≡ residue z (2 ^ bits_of i)
converted-low i h z = by i.signed
  where
    by : (q : Bool) → residue (if q then as_signed (bits_of i) z else pos (residue z (2 ^ bits_of i))) (2 ^ bits_of i) ≡ residue z (2 ^ bits_of i)
    by true = residue-signed_of (2 ^ bits_of i) (residue z (2 ^ bits_of i)) 0 (residue-below (2 ^ bits_of i) (width-of i.bytes h) z) _
    by false = mod-eq_of_lt (residue-below (2 ^ bits_of i) (width-of i.bytes h) z)

-- and depends on nothing else
pub converted-same : (i : IntegerType) (y z : ℤ) → residue y (2 ^ bits_of i) ≡ residue z (2 ^ bits_of i) → converted i y ≡ converted i z
converted-same i y z e = by i.signed
  where
    by : (q : Bool) → (if q then as_signed (bits_of i) y else pos (residue y (2 ^ bits_of i))) ≡ (if q then as_signed (bits_of i) z else pos (residue z (2 ^ bits_of i)))
    by true = ap (signed_of (bits_of i)) e
    by false = ap pos e

pub converted-twice : (i : IntegerType) → IsAccessSize i.bytes → (z : ℤ) → converted i (converted i z) ≡ converted i z
converted-twice i h z = converted-same i (converted i z) z (converted-low i h z)

-- Whether an integer is 0

zero-modulo : (n : ℕ) → IsAccessSize n → 0 % 2 ^ (8 * n) ≡ 0
zero-modulo n h = ⊎_elim (λ k. subst (λ (m : ℕ). 0 % 2 ^ (8 * m) ≡ 0) (sym k) refl)
    (λ h. ⊎_elim (λ k. subst (λ (m : ℕ). 0 % 2 ^ (8 * m) ≡ 0) (sym k) refl)
    (λ h. ⊎_elim (λ k. subst (λ (m : ℕ). 0 % 2 ^ (8 * m) ≡ 0) (sym k) refl) (λ k. subst (λ (m : ℕ). 0 % 2 ^ (8 * m) ≡ 0) (sym k) refl) h) h) h

half-of : (n : ℕ) → IsAccessSize n → 0 < 2 ^ (8 * n - 1)
half-of n h = ⊎_elim (λ e. subst (λ (k : ℕ). 0 < 2 ^ (8 * k - 1)) (sym e) (omega arith))
    (λ h. ⊎_elim (λ e. subst (λ (k : ℕ). 0 < 2 ^ (8 * k - 1)) (sym e) (omega arith))
    (λ h. ⊎_elim (λ e. subst (λ (k : ℕ). 0 < 2 ^ (8 * k - 1)) (sym e) (omega arith)) (λ e. subst (λ (k : ℕ). 0 < 2 ^ (8 * k - 1)) (sym e) (omega arith)) h) h) h

-- an integer of a type whose low bytes are 0 is 0
zero-of : (i : IntegerType) → IsAccessSize i.bytes → (z : ℤ) → converted i z ≡ z → residue z (2 ^ bits_of i) ≡ 0 → z ≡ pos 0
zero-of i size z range e = sym range ∙ by i.signed
  where
    half : 0 < 2 ^ (bits_of i - 1)
    half = half-of i.bytes size

    by : (q : Bool) → (if q then as_signed (bits_of i) z else pos (residue z (2 ^ bits_of i))) ≡ pos 0
    by true = ap (signed_of (bits_of i)) e
        ∙ ap (λ (b : Bool). if b then pos 0 else negsuc (2 ^ bits_of i - 1 - 0)) (let h : nat_lt 0 (2 ^ (bits_of i - 1)) ≡ true = grind (arith, nat_tests, half) in h)
    by false = ap pos e

low-zero : (i : IntegerType) → IsAccessSize i.bytes → (f : Form) → f ≢ Low → (z : ℤ) (n : ℕ) → HoldsAs f i z n → n ≡ 0 → residue z (2 ^ bits_of i) ≡ 0
low-zero i size Exact other z n h e =
    sym (word-low (2 ^ bits_of i) (width-of i.bytes size) z) ∙ ap (λ (k : ℕ). k % 2 ^ bits_of i) (sym h ∙ e) ∙ zero-modulo i.bytes size
low-zero i size Zeroed other z n h e = sym h ∙ e
low-zero i size Low other z n h e = absurd (other refl)

of-zero : (i : IntegerType) → IsAccessSize i.bytes → (f : Form) → f ≢ Low → (n : ℕ) → HoldsAs f i (pos 0) n → n ≡ 0
of-zero i size Exact other n h = h
of-zero i size Zeroed other n h = h ∙ zero-modulo i.bytes size
of-zero i size Low other n h = absurd (other refl)

true-of : (z : ℤ) (n : ℕ) → (n ≡ 0 → z ≡ pos 0) → (z ≡ pos 0 → n ≡ 0) → is_true_word n ≡ is_true (Integer z)
true-of (pos zero) n h k = ap is_true_word (k refl)
true-of (pos (suc m)) zero h k = let e = h refl in absurd (cc (e))
true-of (pos (suc m)) (suc n) h k = let e : is_true_word (suc n) ≡ true = grind (arith, nat_tests) in let f : int_eq (pos (suc m)) (pos 0) ≡ false = grind (arith, nat_tests) in e ∙ ap not (sym f)
true-of (negsuc m) zero h k = let e = h refl in absurd (cc (e))
true-of (negsuc m) (suc n) h k = let e : is_true_word (suc n) ≡ true = grind (arith, nat_tests) in e

-- a slot that doesn't hold it by its low bytes alone is as true as it is
pub true-integer : (i : IntegerType) → IsAccessSize i.bytes → (f : Form) → f ≢ Low → (z : ℤ) (n : ℕ) → converted i z ≡ z → HoldsAs f i z n
    → is_true_word n ≡ is_true (Integer z)
true-integer i size f other z n range h =
    true-of z n (λ e. zero-of i size z range (low-zero i size f other z n h e)) (λ e. of-zero i size f other n (subst (λ (y : ℤ). HoldsAs f i y n) e h))
