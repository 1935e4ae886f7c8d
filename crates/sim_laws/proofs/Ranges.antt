-- Which integers are of a type: what lies nearer to 0 than one that is.
use Rattle.std.proofs.Common.{◌≡◌, ℕ, ◌-◌, ◌*◌, ◌%◌, ◌^◌, ◌<◌, ◌≤◌, inl, inr, ℤ, pos, negsuc, Bool, true, false, refl, ap, sym, subst, arith, if◌then◌else◌, nat_lt}
use Rattle.std.proofs.lemmas.Bool.Decides.{nat_tests}
use Rattle.integers.specs.Words.{residue}
use Rattle.integers.specs.Arithmetic.{IntegerType, converted}
use Rattle.flat_mem.specs.Bytes.{IsAccessSize}

-- how many values of so many bytes there are, and half of that
pub data Halved : ℕ → ℕ → Type 0 where
  one : Halved 256 128
  two : Halved 65536 32768
  four : Halved 4294967296 2147483648
  eight : Halved 18446744073709551616 9223372036854775808

pub halved : (n : ℕ) → IsAccessSize n → Halved (2 ^ (8 * n)) (2 ^ (8 * n - 1))
halved n (inl e) = subst (λ (k : ℕ). Halved (2 ^ (8 * k)) (2 ^ (8 * k - 1))) (sym e) one
halved n (inr (inl e)) = subst (λ (k : ℕ). Halved (2 ^ (8 * k)) (2 ^ (8 * k - 1))) (sym e) two
halved n (inr (inr (inl e))) = subst (λ (k : ℕ). Halved (2 ^ (8 * k)) (2 ^ (8 * k - 1))) (sym e) four
halved n (inr (inr (inr e))) = subst (λ (k : ℕ). Halved (2 ^ (8 * k)) (2 ^ (8 * k - 1))) (sym e) eight

-- so many values, from less than 0 on or from 0 on
abbrev pub IsBetween : Bool → ℕ → ℕ → ℤ → Type 0
IsBetween true m half (pos n) = n < half
IsBetween true m half (negsuc n) = n < half
IsBetween false m half (pos n) = n < m
IsBetween false m half (negsuc n) = ⊥

abbrev pub IsInRange : IntegerType → ℤ → Type 0
IsInRange i z = IsBetween i.signed (2 ^ (8 * i.bytes)) (2 ^ (8 * i.bytes - 1)) z

abbrev fitted : Bool → ℕ → ℕ → ℕ → ℤ
fitted true m half r = if nat_lt r half then pos r else negsuc (m - 1 - r)
fitted false m half r = pos r

fitted-between : (q : Bool) (m half : ℕ) → Halved m half → (z : ℤ) → fitted q m half (residue z m) ≡ z → IsBetween q m half z
fitted-between true m half k (pos n) e = by m half k (nat_lt (n % m) half) refl e
  where
    by : (m half : ℕ) → Halved m half → (b : Bool) → nat_lt (n % m) half ≡ b → (if b then pos (n % m) else negsuc (m - 1 - n % m)) ≡ pos n → n < half
    by m half k true f g = let h : n % m ≡ n = cc (g) in let l : n % m < half = grind (arith, nat_tests, f) in omega (arith, h, l)
    by m half k false f g = absurd (cc (g))
fitted-between true m half k (negsuc n) e = by m half k (nat_lt (m - 1 - n % m) half) refl e
  where
    by : (m half : ℕ) → Halved m half → (b : Bool) → nat_lt (m - 1 - n % m) half ≡ b
        → (if b then pos (m - 1 - n % m) else negsuc (m - 1 - (m - 1 - n % m))) ≡ negsuc n → n < half
    by m half k true f g = absurd (cc (g))
    by m half k false f g = let h : m - 1 - (m - 1 - n % m) ≡ n = cc (g) in let l : half ≤ m - 1 - n % m = grind (arith, nat_tests, f) in high m half k (n % m) h l
      where
        high : (m half : ℕ) → Halved m half → (r : ℕ) → m - 1 - (m - 1 - r) ≡ n → half ≤ m - 1 - r → n < half
        high m half one r h l = omega (arith, h, l)
        high m half two r h l = omega (arith, h, l)
        high m half four r h l = omega (arith, h, l)
        high m half eight r h l = omega (arith, h, l)
fitted-between false m half k (pos n) e = let h : n % m ≡ n = cc (e) in by m half k h
  where
    by : (m half : ℕ) → Halved m half → n % m ≡ n → n < m
    by m half one h = omega (arith, h)
    by m half two h = omega (arith, h)
    by m half four h = omega (arith, h)
    by m half eight h = omega (arith, h)
fitted-between false m half k (negsuc n) e = absurd (cc (e))

between-fitted : (q : Bool) (m half : ℕ) → Halved m half → (z : ℤ) → IsBetween q m half z → fitted q m half (residue z m) ≡ z
between-fitted true m half one (pos n) h = grind (arith, nat_tests, h)
between-fitted true m half two (pos n) h = grind (arith, nat_tests, h)
between-fitted true m half four (pos n) h = grind (arith, nat_tests, h)
between-fitted true m half eight (pos n) h = grind (arith, nat_tests, h)
between-fitted true m half one (negsuc n) h = grind (arith, nat_tests, h)
between-fitted true m half two (negsuc n) h = grind (arith, nat_tests, h)
between-fitted true m half four (negsuc n) h = grind (arith, nat_tests, h)
between-fitted true m half eight (negsuc n) h = grind (arith, nat_tests, h)
between-fitted false m half one (pos n) h = ap pos (let e : n % 256 ≡ n = omega (arith, h) in e)
between-fitted false m half two (pos n) h = ap pos (let e : n % 65536 ≡ n = omega (arith, h) in e)
between-fitted false m half four (pos n) h = ap pos (let e : n % 4294967296 ≡ n = omega (arith, h) in e)
between-fitted false m half eight (pos n) h = ap pos (let e : n % 18446744073709551616 ≡ n = omega (arith, h) in e)
between-fitted false m half k (negsuc n) h = absurd h

-- the two ways in which it is said that an integer is of a type
pub in-range : (i : IntegerType) → IsAccessSize i.bytes → (z : ℤ) → converted i z ≡ z → IsInRange i z
in-range i size z e = by i.signed e
  where
    by : (q : Bool) → converted (record { bytes = i.bytes; signed = q }) z ≡ z → IsBetween q (2 ^ (8 * i.bytes)) (2 ^ (8 * i.bytes - 1)) z
    by true f = fitted-between true (2 ^ (8 * i.bytes)) (2 ^ (8 * i.bytes - 1)) (halved i.bytes size) z f
    by false f = fitted-between false (2 ^ (8 * i.bytes)) (2 ^ (8 * i.bytes - 1)) (halved i.bytes size) z f

pub range-in : (i : IntegerType) → IsAccessSize i.bytes → (z : ℤ) → IsInRange i z → converted i z ≡ z
range-in i size z e = by i.signed e
  where
    by : (q : Bool) → IsBetween q (2 ^ (8 * i.bytes)) (2 ^ (8 * i.bytes - 1)) z → converted (record { bytes = i.bytes; signed = q }) z ≡ z
    by true f = between-fitted true (2 ^ (8 * i.bytes)) (2 ^ (8 * i.bytes - 1)) (halved i.bytes size) z f
    by false f = between-fitted false (2 ^ (8 * i.bytes)) (2 ^ (8 * i.bytes - 1)) (halved i.bytes size) z f

-- u lies between 0 and z
abbrev pub IsNearer : ℤ → ℤ → Type 0
IsNearer (pos m) (pos n) = m ≤ n
IsNearer (negsuc m) (negsuc n) = m ≤ n
IsNearer u z = ⊥

pub nearer-in : (i : IntegerType) → IsAccessSize i.bytes → (u z : ℤ) → IsNearer u z → converted i z ≡ z → converted i u ≡ u
nearer-in i size u z near e = range-in i size u (by i.signed (2 ^ (8 * i.bytes)) (2 ^ (8 * i.bytes - 1)) u z near (in-range i size z e))
  where
    by : (q : Bool) (m half : ℕ) (u z : ℤ) → IsNearer u z → IsBetween q m half z → IsBetween q m half u
    by true m half (pos a) (pos c) h l = omega (arith, h, l)
    by true m half (pos a) (negsuc c) h l = absurd h
    by true m half (negsuc a) (pos c) h l = absurd h
    by true m half (negsuc a) (negsuc c) h l = omega (arith, h, l)
    by false m half (pos a) (pos c) h l = omega (arith, h, l)
    by false m half (pos a) (negsuc c) h l = absurd h
    by false m half (negsuc a) (pos c) h l = absurd h
    by false m half (negsuc a) (negsuc c) h l = absurd l
