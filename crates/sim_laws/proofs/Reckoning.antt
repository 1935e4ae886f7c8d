-- Sums, differences, products, and what is done bit by bit: all by the low bytes of their operands.
use Rattle.std.proofs.Common.{◌≡◌, ℕ, zero, suc, ◌-◌, ◌*◌, ◌%◌, ◌^◌, ◌<◌, ℤ, pos, negsuc, ◌+ℤ◌, ◌-ℤ◌, neg_ℤ, refl, ap, sym, ◌∙◌, arith}
use Rattle.std.specs.Prelude.{◌*ℤ◌, bit_and, bit_or, bit_xor}
use Rattle.std.proofs.lemmas.Nat.{mul-mod, and_mod, or_mod, xor_mod, or_lt, xor_lt, and_le_l}
use Rattle.integers.specs.Words.{word, residue}
use Rattle.integers.specs.Operators.{sum_words, difference_words, product_words}
use Rattle.integers.specs.Arithmetic.{IntegerType, bits_of}
use Rattle.integers.proofs.WordLaws.{word-below}
use Rattle.integers.proofs.SignedLaws.{sum-word, difference-word}
use Rattle.flat_mem.specs.Bytes.{IsAccessSize}
use Rattle.cil_form.specs.declared.instr.Operator.TheVariants as operator
use Rattle.cured_code.specs.declared.instr.Instr.TheVariants as flat_instr
use Rattle.sim_relation.specs.Points.{Low, HoldsAs}
use Rattle.sim_laws.proofs.Integers.{IsWidth, one, two, four, eight, width-of, word-low}
use Rattle.sim_laws.proofs.Calculations.{Reckoning}

-- Sums and differences

low-sum : (m : ℕ) → IsWidth m → (x y : ℤ) (a b : ℕ) → a % m ≡ word x % m → b % m ≡ word y % m → sum_words a b % m ≡ word (x +ℤ y) % m
low-sum m k x y a b e f = by m k (word x) (word y) e f ∙ ap (λ (n : ℕ). n % m) (sum-word x y)
  where
    by : (m : ℕ) → IsWidth m → (p q : ℕ) → a % m ≡ p % m → b % m ≡ q % m → sum_words a b % m ≡ sum_words p q % m
    by m one p q e f = omega (arith, e, f)
    by m two p q e f = omega (arith, e, f)
    by m four p q e f = omega (arith, e, f)
    by m eight p q e f = omega (arith, e, f)

pub low-difference : (m : ℕ) → IsWidth m → (x y : ℤ) (a b : ℕ) → b < 2 ^ 64 → a % m ≡ word x % m → b % m ≡ word y % m
    → difference_words a b % m ≡ word (x -ℤ y) % m
low-difference m k x y a b below e f = by m k (word x) (word y) (word-below y) e f ∙ ap (λ (n : ℕ). n % m) (difference-word x y)
  where
    by : (m : ℕ) → IsWidth m → (p q : ℕ) → q < 2 ^ 64 → a % m ≡ p % m → b % m ≡ q % m → difference_words a b % m ≡ difference_words p q % m
    by m one p q l e f = omega (arith, e, f, l, below)
    by m two p q l e f = omega (arith, e, f, l, below)
    by m four p q l e f = omega (arith, e, f, l, below)
    by m eight p q l e f = omega (arith, e, f, l, below)

-- low bytes of a word are those of the integer
pub low-word : (i : IntegerType) → IsAccessSize i.bytes → (z : ℤ) (n : ℕ) → HoldsAs Low i z n → n % 2 ^ bits_of i ≡ word z % 2 ^ bits_of i
low-word i size z n h = h ∙ sym (word-low (2 ^ bits_of i) (width-of i.bytes size) z)

pub of-word : (i : IntegerType) → IsAccessSize i.bytes → (z : ℤ) (n : ℕ) → n % 2 ^ bits_of i ≡ word z % 2 ^ bits_of i → HoldsAs Low i z n
of-word i size z n h = h ∙ word-low (2 ^ bits_of i) (width-of i.bytes size) z

pub adding : Reckoning flat_instr.Add sum_words operator.Add (λ x y. x +ℤ y)
adding = record {
  runs = λ v p q rest ctx c. refl;
  gives = λ w at t x y s. refl;
  low = λ i x y a b size ha hb e f. of-word i size (x +ℤ y) (sum_words a b)
      (low-sum (2 ^ bits_of i) (width-of i.bytes size) x y a b (low-word i size x a e) (low-word i size y b f));
  below = λ a b ha hb. omega arith;
}

pub subtracting : Reckoning flat_instr.Sub difference_words operator.Subtract (λ x y. x -ℤ y)
subtracting = record {
  runs = λ v p q rest ctx c. refl;
  gives = λ w at t x y s. refl;
  low = λ i x y a b size ha hb e f. of-word i size (x -ℤ y) (difference_words a b)
      (low-difference (2 ^ bits_of i) (width-of i.bytes size) x y a b hb (low-word i size x a e) (low-word i size y b f));
  below = λ a b ha hb. omega arith;
}

-- Products

-- a natural number that is an integer modulo m
abbrev stand : ℕ → ℤ → ℕ
stand m (pos n) = n
stand m (negsuc n) = suc n * (m - 1)

stand-residue : (m : ℕ) → IsWidth m → (z : ℤ) → residue z m ≡ stand m z % m
stand-residue m k (pos n) = refl
stand-residue m one (negsuc n) = omega arith
stand-residue m two (negsuc n) = omega arith
stand-residue m four (negsuc n) = omega arith
stand-residue m eight (negsuc n) = omega arith

negated-residue : (m : ℕ) → IsWidth m → (n : ℕ) → residue (neg_ℤ (pos n)) m ≡ (n * (m - 1)) % m
negated-residue m one zero = refl
negated-residue m two zero = refl
negated-residue m four zero = refl
negated-residue m eight zero = refl
negated-residue m k (suc n) = stand-residue m k (negsuc n)

-- the square of -1 is 1
squared : (m : ℕ) → IsWidth m → (n : ℕ) → n % m ≡ (n * ((m - 1) * (m - 1))) % m
squared m one n = omega arith
squared m two n = omega arith
squared m four n = omega arith
squared m eight n = omega arith

factors-right : (a b p : ℕ) → a * (b * p) ≡ (a * b) * p
factors-right a b p = grind arith

factors-left : (a b p : ℕ) → (a * p) * b ≡ (a * b) * p
factors-left a b p = grind arith

factors-both : (a b p : ℕ) → (a * p) * (b * p) ≡ (a * b) * (p * p)
factors-both a b p = grind arith

product-residue : (m : ℕ) → IsWidth m → (x y : ℤ) → residue (x *ℤ y) m ≡ (stand m x * stand m y) % m
product-residue m k (pos a) (pos b) = refl
product-residue m k (pos a) (negsuc b) = negated-residue m k (a * suc b) ∙ ap (λ (n : ℕ). n % m) (sym (factors-right a (suc b) (m - 1)))
product-residue m k (negsuc a) (pos b) = negated-residue m k (suc a * b) ∙ ap (λ (n : ℕ). n % m) (sym (factors-left (suc a) b (m - 1)))
product-residue m k (negsuc a) (negsuc b) = squared m k (suc a * suc b) ∙ ap (λ (n : ℕ). n % m) (sym (factors-both (suc a) (suc b) (m - 1)))

word-modulo : (m : ℕ) → IsWidth m → (n : ℕ) → (n % 2 ^ 64) % m ≡ n % m
word-modulo m one n = omega arith
word-modulo m two n = omega arith
word-modulo m four n = omega arith
word-modulo m eight n = omega arith

pub low-product : (m : ℕ) → IsWidth m → (x y : ℤ) (a b : ℕ) → a % m ≡ residue x m → b % m ≡ residue y m → product_words a b % m ≡ residue (x *ℤ y) m
low-product m k x y a b e f =
    word-modulo m k (a * b) ∙ mul-mod a b m
    ∙ ap (λ (n : ℕ). (n * (b % m)) % m) (e ∙ stand-residue m k x) ∙ ap (λ (n : ℕ). ((stand m x % m) * n) % m) (f ∙ stand-residue m k y)
    ∙ sym (mul-mod (stand m x) (stand m y) m) ∙ sym (product-residue m k x y)

pub multiplying : Reckoning flat_instr.Mul product_words operator.Multiply (λ x y. x *ℤ y)
multiplying = record {
  runs = λ v p q rest ctx c. refl;
  gives = λ w at t x y s. refl;
  low = λ i x y a b size ha hb e f. low-product (2 ^ bits_of i) (width-of i.bytes size) x y a b e f;
  below = λ a b ha hb. let n : ℕ = a * b in omega arith;
}

-- Bits

low-bits : (f : ℕ → ℕ → ℕ) → ((a b k : ℕ) → f a b % 2 ^ k ≡ f (a % 2 ^ k) (b % 2 ^ k)) → (i : IntegerType) (x y : ℤ) (a b : ℕ) → IsAccessSize i.bytes
    → HoldsAs Low i x a → HoldsAs Low i y b → HoldsAs Low i (pos (f (word x) (word y))) (f a b)
low-bits f law i x y a b size e g =
    law a b (bits_of i) ∙ ap (λ (n : ℕ). f n (b % 2 ^ bits_of i)) (low-word i size x a e)
    ∙ ap (λ (n : ℕ). f (word x % 2 ^ bits_of i) n) (low-word i size y b g) ∙ sym (law (word x) (word y) (bits_of i))

pub anding : Reckoning flat_instr.And bit_and operator.And (λ x y. pos (bit_and (word x) (word y)))
anding = record {
  runs = λ v p q rest ctx c. refl;
  gives = λ w at t x y s. refl;
  low = λ i x y a b size ha hb e f. low-bits bit_and and_mod i x y a b size e f;
  below = λ a b ha hb. let l = and_le_l a b in omega (arith, ha, l);
}

pub oring : Reckoning flat_instr.Or bit_or operator.Or (λ x y. pos (bit_or (word x) (word y)))
oring = record {
  runs = λ v p q rest ctx c. refl;
  gives = λ w at t x y s. refl;
  low = λ i x y a b size ha hb e f. low-bits bit_or or_mod i x y a b size e f;
  below = λ a b ha hb. or_lt 64 a b ha hb;
}

pub xoring : Reckoning flat_instr.Xor bit_xor operator.ExclusiveOr (λ x y. pos (bit_xor (word x) (word y)))
xoring = record {
  runs = λ v p q rest ctx c. refl;
  gives = λ w at t x y s. refl;
  low = λ i x y a b size ha hb e f. low-bits bit_xor xor_mod i x y a b size e f;
  below = λ a b ha hb. xor_lt 64 a b ha hb;
}
