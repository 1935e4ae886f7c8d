-- DIVIDE: the tests on the words of two integers are those on the integers.
use Rattle.std.proofs.Common.{◌≡◌, ◌∙◌, inl, inr, ℕ, zero, suc, ◌+◌, ◌-◌, ◌*◌, ◌<◌, ◌≤◌, ◌^◌, ◌%◌, ℤ, pos, negsuc, neg_ℤ, Bool, true, false, not, ◌&&◌, nat_eq, nat_lt, refl, ap, sym, subst, arith, if◌then◌else◌}
use Rattle.std.specs.Ordering.{int_eq}
use Rattle.std.proofs.lemmas.Bool.Decides.{nat_tests}
use Rattle.std.proofs.lemmas.Nat.{pow_pos}
use Rattle.std.proofs.Math.Nat.{mod-lt}
use Rattle.flat_mem.specs.Bytes.{IsAccessSize}
use Rattle.flat_mem.specs.Memory.{Memory}
use Rattle.integers.specs.Words.{word, as_signed, as_unsigned}
use Rattle.integers.specs.Arithmetic.{IntegerType, converted, least}
use Rattle.src_mem.specs.State as source
use Rattle.src_mem.specs.State.{Setting}
use Rattle.src_mem.specs.Checks.{CanDivide, holds}
use Rattle.cured_code.specs.declared.parts.Parts.{Parts}
use Rattle.check_forms.specs.declared.slots.Fixed.{Fixed}
use Rattle.check_forms.specs.Conditions.{IsNotZero, IsNoOverflow, Both, flat_holds}

-- Unsigned

unsigned-zero : (bits : ℕ) (y : ℤ) → as_unsigned bits y ≡ y → 2 ^ bits ≤ 2 ^ 64 → nat_eq (word y) 0 ≡ int_eq y (pos 0)
unsigned-zero bits (pos n) e h = by n (below n e)
  where
    below : (n : ℕ) → pos (n % 2 ^ bits) ≡ pos n → n < 2 ^ 64 + 0
    below n f =
        let g : n % 2 ^ bits ≡ n = cc (f) in
        let l = mod-lt n (pow_pos bits) in omega (arith, g, l, h)

    by : (n : ℕ) → n < 2 ^ 64 + 0 → nat_eq (n % 2 ^ 64) 0 ≡ int_eq (pos n) (pos 0)
    by n l = grind (arith, nat_tests)
unsigned-zero bits (negsuc n) e h = absurd (cc (e))

-- Signed

-- powers of two of as many bits as an integer has
pub record Powers (bits : ℕ) : Type 0 where
  pub some : 0 < bits
  pub twice : 2 ^ bits ≡ 2 ^ (bits - 1) + 2 ^ (bits - 1)
  pub most : 2 ^ (bits - 1) ≤ 2 ^ 63
  pub least_some : 0 < 2 ^ (bits - 1)

pub powers : (n : ℕ) → IsAccessSize n → Powers (8 * n)
powers n (inl e) = subst (λ k. Powers (8 * k)) (sym e) (record { some = omega arith; twice = omega arith; most = omega arith; least_some = omega arith })
powers n (inr (inl e)) = subst (λ k. Powers (8 * k)) (sym e) (record { some = omega arith; twice = omega arith; most = omega arith; least_some = omega arith })
powers n (inr (inr (inl e))) =
    subst (λ k. Powers (8 * k)) (sym e) (record { some = omega arith; twice = omega arith; most = omega arith; least_some = omega arith })
powers n (inr (inr (inr e))) =
    subst (λ k. Powers (8 * k)) (sym e) (record { some = omega arith; twice = omega arith; most = omega arith; least_some = omega arith })

-- a signed integer of so many bits lies between two powers
signed-low : (bits n : ℕ) → as_signed bits (pos n) ≡ pos n → n < 2 ^ (bits - 1)
signed-low bits n e = by (nat_lt (n % 2 ^ bits) (2 ^ (bits - 1))) refl e
  where
    by : (b : Bool) → nat_lt (n % 2 ^ bits) (2 ^ (bits - 1)) ≡ b
        → (if b then pos (n % 2 ^ bits) else negsuc (2 ^ bits - 1 - n % 2 ^ bits)) ≡ pos n → n < 2 ^ (bits - 1)
    by true f g = let h : n % 2 ^ bits ≡ n = cc (g) in grind (arith, nat_tests, f, h)
    by false f g = absurd (cc (g))

signed-high : (bits n : ℕ) → 0 < 2 ^ (bits - 1) → 2 ^ bits ≡ 2 ^ (bits - 1) + 2 ^ (bits - 1) → as_signed bits (negsuc n) ≡ negsuc n → n < 2 ^ (bits - 1)
signed-high bits n some twice e = by (nat_lt (2 ^ bits - 1 - n % 2 ^ bits) (2 ^ (bits - 1))) refl e
  where
    by : (b : Bool) → nat_lt (2 ^ bits - 1 - n % 2 ^ bits) (2 ^ (bits - 1)) ≡ b
        → (if b then pos (2 ^ bits - 1 - n % 2 ^ bits) else negsuc (2 ^ bits - 1 - (2 ^ bits - 1 - n % 2 ^ bits))) ≡ negsuc n → n < 2 ^ (bits - 1)
    by true f g = absurd (cc (g))
    by false f g =
        let h : 2 ^ bits - 1 - (2 ^ bits - 1 - n % 2 ^ bits) ≡ n = cc (g) in
        let k : 2 ^ (bits - 1) ≤ 2 ^ bits - 1 - n % 2 ^ bits = grind (arith, nat_tests, f) in
        omega (arith, h, k, twice, some)

-- of at most 64 bits
abbrev pub IsShort : ℤ → Type 0
IsShort (pos n) = n < 2 ^ 63
IsShort (negsuc n) = n < 2 ^ 63

pub signed-short : (bits : ℕ) (y : ℤ) → Powers bits → as_signed bits y ≡ y → IsShort y
signed-short bits (pos n) p e = let h = signed-low bits n e in let m = p.most in omega (arith, h, m)
signed-short bits (negsuc n) p e = let h = signed-high bits n p.least_some p.twice e in let m = p.most in omega (arith, h, m)

-- words of such integers are told apart as the integers are
word-zero : (y : ℤ) → IsShort y → nat_eq (word y) 0 ≡ int_eq y (pos 0)
word-zero (pos n) h = grind (arith, nat_tests)
word-zero (negsuc n) h = grind (arith, nat_tests)

word-minus_one : (y : ℤ) → IsShort y → nat_eq (word y) (2 ^ 64 - 1) ≡ int_eq y (negsuc 0)
word-minus_one (pos n) h = grind (arith, nat_tests)
word-minus_one (negsuc n) h = grind (arith, nat_tests)

word-same : (x y : ℤ) → IsShort x → IsShort y → nat_eq (word x) (word y) ≡ int_eq x y
word-same (pos m) (pos n) h k = grind (arith, nat_tests)
word-same (pos m) (negsuc n) h k = grind (arith, nat_tests)
word-same (negsuc m) (pos n) h k = grind (arith, nat_tests)
word-same (negsuc m) (negsuc n) h k = grind (arith, nat_tests)

-- the least one
least-short : (m : ℕ) → 0 < m → m ≤ 2 ^ 63 → IsShort (neg_ℤ (pos m))
least-short zero some most = absurd (omega (arith, some))
least-short (suc m) some most = omega (arith, most)

not-both : (p q : Bool) → not (p && q) ≡ not (true && (q && p))
not-both true true = refl
not-both true false = refl
not-both false true = refl
not-both false false = refl

not-alone : (p q : Bool) → not p ≡ (not p && not (false && q))
not-alone true q = refl
not-alone false q = refl

-- as the tests say it
signed-test : (x y l : ℤ) (one low : ℕ) → IsShort x → IsShort y → IsShort l → one ≡ 2 ^ 64 - 1 → low ≡ word l
    → (not (nat_eq (word y) 0) && not (nat_eq (word y) one && nat_eq (word x) low)) ≡ (not (int_eq y (pos 0)) && not (true && (int_eq x l && int_eq y (negsuc 0))))
signed-test x y l one low hx hy hl is_one is_low =
    ap (λ n. not (nat_eq (word y) 0) && not (nat_eq (word y) n && nat_eq (word x) low)) is_one
    ∙ ap (λ n. not (nat_eq (word y) 0) && not (nat_eq (word y) (2 ^ 64 - 1) && nat_eq (word x) n)) is_low
    ∙ ap (λ p. not p && not (nat_eq (word y) (2 ^ 64 - 1) && nat_eq (word x) (word l))) (word-zero y hy)
    ∙ ap (λ p. not (int_eq y (pos 0)) && not (p && nat_eq (word x) (word l))) (word-minus_one y hy)
    ∙ ap (λ p. not (int_eq y (pos 0)) && not (int_eq y (negsuc 0) && p)) (word-same x l hx hl)
    ∙ ap (λ p. not (int_eq y (pos 0)) && p) (not-both (int_eq y (negsuc 0)) (int_eq x l))

module _ (w : Setting) (s : source.State) (m : Memory) (parts : Parts) where
  pub as-unsigned : (i : IntegerType) (y : ℤ) → i.signed ≡ false → converted i y ≡ y → as_unsigned (8 * i.bytes) y ≡ y
  as-unsigned i y e f = sym (ap (λ q. if q then as_signed (8 * i.bytes) y else as_unsigned (8 * i.bytes) y) e) ∙ f

  pub as-signed : (i : IntegerType) (y : ℤ) → i.signed ≡ true → converted i y ≡ y → as_signed (8 * i.bytes) y ≡ y
  as-signed i y e f = sym (ap (λ q. if q then as_signed (8 * i.bytes) y else as_unsigned (8 * i.bytes) y) e) ∙ f

  pub unsigned-compared : (i : IntegerType) (x y : ℤ) (e : ℕ → ℕ) (b : ℕ) → IsAccessSize i.bytes → i.signed ≡ false → converted i y ≡ y → e b ≡ word y
      → flat_holds parts m (IsNotZero b) e ≡ holds w s.memory (CanDivide i x y)
  unsigned-compared i x y e b size unsigned fits is =
      ap (λ n. not (nat_eq n 0)) is
      ∙ ap not (unsigned-zero (8 * i.bytes) y (as-unsigned i y unsigned fits) (let p = powers i.bytes size in let a = p.twice in let c = p.most in omega (arith, a, c)))
      ∙ not-alone (int_eq y (pos 0)) (int_eq x (least i) && int_eq y (negsuc 0))
      ∙ ap (λ q. not (int_eq y (pos 0)) && not (q && (int_eq x (least i) && int_eq y (negsuc 0)))) (sym unsigned)

  pub signed-compared : (i : IntegerType) (x y : ℤ) (e : ℕ → ℕ) (a b : ℕ) (low minus_one : Fixed) → IsAccessSize i.bytes → i.signed ≡ true
      → converted i x ≡ x → converted i y ≡ y → e a ≡ word x → e b ≡ word y → low.value ≡ word (least i) → minus_one.value ≡ 2 ^ 64 - 1
      → flat_holds parts m (Both (IsNotZero b) (IsNoOverflow a b low minus_one)) e ≡ holds w s.memory (CanDivide i x y)
  signed-compared i x y e a b low minus_one size signed fits_x fits_y is_x is_y is_low is_one =
      let p = powers i.bytes size in
      ap (λ n. not (nat_eq n 0) && not (nat_eq n minus_one.value && nat_eq (e a) low.value)) is_y
      ∙ ap (λ n. not (nat_eq (word y) 0) && not (nat_eq (word y) minus_one.value && nat_eq n low.value)) is_x
      ∙ signed-test x y (least i) minus_one.value low.value (signed-short (8 * i.bytes) x p (as-signed i x signed fits_x))
      (signed-short (8 * i.bytes) y p (as-signed i y signed fits_y)) (least-short (2 ^ (8 * i.bytes - 1)) p.least_some p.most) is_one is_low
      ∙ ap (λ q. not (int_eq y (pos 0)) && not (q && (int_eq x (least i) && int_eq y (negsuc 0)))) (sym signed)
