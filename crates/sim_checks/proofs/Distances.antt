-- How far a pointer lies once it is moved: the tests on words against those on integers.
use Rattle.std.proofs.Common.{◌≡◌, ◌∙◌, ◌⊎◌, ⊎_elim, ℕ, zero, suc, ◌+◌, ◌-◌, ◌*◌, ◌%◌, ◌<◌, ◌≤◌, ◌^◌, ℤ, pos, negsuc, neg_ℤ, ◌+ℤ◌, ◌-ℤ◌, ◌<ℤ◌, ◌≤ℤ◌, Bool, true, false, ◌&&◌, nat_lt, ap, sym, subst, arith, if◌then◌else◌}
use Rattle.std.specs.Prelude.{int_lt, int_le, ◌*ℤ◌}
use Rattle.std.proofs.lemmas.Bool.Decides.{nat_tests}
use Rattle.std.proofs.lemmas.Int.{ints}
use Rattle.std.proofs.lemmas.Nat.{pow_pos}
use Rattle.std.proofs.Math.Nat.{mul-le-mul_right}
use Rattle.std.proofs.Math.IntN.{*ℤ-zero}
use Rattle.integers.specs.Words.{word, residue, as_signed, as_unsigned}
use Rattle.integers.specs.Arithmetic.{IntegerType, converted, bits_of}
use Rattle.integers.specs.Operators.{sum_words, difference_words, product_words}
use Rattle.integers.proofs.SignedLaws.{sum-word, difference-word}
use Rattle.integers.proofs.WordLaws.{residue-below, word-small, word-sum}
use Rattle.type_laws.proofs.Stairs.{IsWithin, same_le}
use Rattle.check_forms.specs.declared.slots.Direction.{Direction}
use Rattle.check_forms.specs.declared.slots.Direction.TheVariants.{Forward, Backward}
use Rattle.check_forms.specs.Conditions.{moved, is_near}
use Rattle.sim_checks.specs.Moving.{steps}

-- Products

times-next : (x : ℤ) (m : ℕ) → x *ℤ pos (suc m) ≡ x *ℤ pos m +ℤ x
times-next (pos a) m = omega (arith, ints)
times-next (negsuc a) m = omega (arith, ints)

pub times-sum : (a b : ℤ) (m : ℕ) → (a +ℤ b) *ℤ pos m ≡ a *ℤ pos m +ℤ b *ℤ pos m
times-sum a b zero = let e = *ℤ-zero (a +ℤ b) in let f = *ℤ-zero a in let h = *ℤ-zero b in omega (arith, ints, e, f, h)
times-sum a b (suc m) =
    let h = times-sum a b m in let e = times-next (a +ℤ b) m in let f = times-next a m in let k = times-next b m in omega (arith, ints, h, e, f, k)

pub times-neg : (z : ℤ) (m : ℕ) → neg_ℤ z *ℤ pos m ≡ neg_ℤ (z *ℤ pos m)
times-neg (pos zero) m = omega (arith, ints)
times-neg (pos (suc n)) m = omega (arith, ints)
times-neg (negsuc n) m = omega (arith, ints)

-- the word of a product
product-next : (x m y : ℕ) → y ≡ (x * m) % 2 ^ 64 → (y + x) % 2 ^ 64 ≡ (x * suc m) % 2 ^ 64
product-next x m y e = omega (arith, e)

pub product-word : (z : ℤ) (m : ℕ) → product_words (word z) m ≡ word (z *ℤ pos m)
product-word z zero = none (word z) ∙ sym (ap word (*ℤ-zero z))
  where
    none : (x : ℕ) → (x * 0) % 2 ^ 64 ≡ 0
    none x = omega arith
product-word z (suc m) =
    sym (product-next (word z) m (word (z *ℤ pos m)) (sym (product-word z m)))
    ∙ sym (word-sum (z *ℤ pos m) z) ∙ ap word (sym (times-next z m))

-- Where a word is near

-- an integer that no wrapping brings near to 0 from afar
abbrev pub IsClose : ℤ → Type 0
IsClose (pos n) = n < 2 ^ 64
IsClose (negsuc n) = n < 2 ^ 63 - 2 ^ 60

pub close : (z : ℤ) → IsWithin z (2 ^ 62 + 2 ^ 59) → IsClose z
close (pos n) h = let a = h.high in omega (arith, ints, a)
close (negsuc n) h = let a = h.low in omega (arith, ints, a)

pub near-word : (u : ℤ) (span : ℕ) → span ≤ 2 ^ 63 + 1 → IsClose u → nat_lt (word u) span ≡ (int_le (pos 0) u && int_lt u (pos span))
near-word (pos n) span s h = grind (arith, nat_tests)
near-word (negsuc n) span s h = grind (arith, nat_tests)

-- the distance of a pointer that is moved, as a word
pub near-moved : (way : Direction) (low size : ℕ) (x z : ℤ) (least span : ℕ) → low < 2 ^ 64 → least < 2 ^ 64
    → is_near (difference_words (moved way (word (pos low +ℤ x)) (word (z *ℤ pos size))) low) least span
    ≡ nat_lt (word ((x +ℤ steps way z *ℤ pos size) +ℤ pos least)) span
near-moved way low size x z least span hl hk =
    ap (λ k. is_near (difference_words (moved way (word (pos low +ℤ x)) (word (z *ℤ pos size))) k) least span) (sym (word-small low hl))
    ∙ ap (λ k. is_near (difference_words k (word (pos low))) least span) (to way)
    ∙ ap (λ k. is_near k least span) (difference-word ((pos low +ℤ x) +ℤ steps way z *ℤ pos size) (pos low))
    ∙ ap (λ k. nat_lt (sum_words (word (((pos low +ℤ x) +ℤ steps way z *ℤ pos size) -ℤ pos low)) k) span) (sym (word-small least hk))
    ∙ ap (λ k. nat_lt k span) (sum-word (((pos low +ℤ x) +ℤ steps way z *ℤ pos size) -ℤ pos low) (pos least))
    ∙ ap (λ k. nat_lt (word k) span) (rest (pos low) x (steps way z *ℤ pos size) (pos least))
  where
    rest : (a x y b : ℤ) → (((a +ℤ x) +ℤ y) -ℤ a) +ℤ b ≡ (x +ℤ y) +ℤ b
    rest a x y b = omega (arith, ints)

    less : (a y : ℤ) → a -ℤ y ≡ a +ℤ neg_ℤ y
    less a y = omega (arith, ints)

    to : (way : Direction) → moved way (word (pos low +ℤ x)) (word (z *ℤ pos size)) ≡ word ((pos low +ℤ x) +ℤ steps way z *ℤ pos size)
    to Forward = sum-word (pos low +ℤ x) (z *ℤ pos size)
    to Backward =
        difference-word (pos low +ℤ x) (z *ℤ pos size)
        ∙ ap word (less (pos low +ℤ x) (z *ℤ pos size) ∙ ap (λ y. (pos low +ℤ x) +ℤ y) (sym (times-neg z size)))

-- Elements

-- an integer by its quotient
euclid-low : (k : ℤ) (m r : ℕ) → r < m → int_le (pos 0) (k *ℤ pos m +ℤ pos r) ≡ int_le (pos 0) k
euclid-low k m r h = same_le (pos 0) (k *ℤ pos m +ℤ pos r) (pos 0) k (up k) (down k)
  where
    up : (k : ℤ) → pos 0 ≤ℤ (k *ℤ pos m +ℤ pos r) → pos 0 ≤ℤ k
    up (pos a) f = omega (arith, ints)
    up (negsuc a) f = absurd (omega (arith, ints, f, h))

    down : (k : ℤ) → (k *ℤ pos m +ℤ pos r) <ℤ pos 0 → k <ℤ pos 0
    down (pos a) f = absurd (omega (arith, ints, f))
    down (negsuc a) f = omega (arith, ints)

euclid-high : (k : ℤ) (m r b : ℕ) → r < m → int_le (k *ℤ pos m +ℤ pos r) (pos (b * m + m) -ℤ pos 1) ≡ int_le k (pos b)
euclid-high k m r b h = same_le (k *ℤ pos m +ℤ pos r) (pos (b * m + m) -ℤ pos 1) k (pos b) (up k) (down k)
  where
    case : (a b : ℕ) → (a ≤ b) ⊎ (b < a)
    case a b = grind arith

    up : (k : ℤ) → (k *ℤ pos m +ℤ pos r) ≤ℤ (pos (b * m + m) -ℤ pos 1) → k ≤ℤ pos b
    up (pos a) f = ⊎_elim (λ l. omega (arith, ints, l))
        (λ l. absurd (let p : suc b * m ≤ a * m = mul-le-mul_right m (let x : suc b ≤ a = omega (arith, l) in x) in omega (arith, ints, f, p, h))) (case a b)
    up (negsuc a) f = omega (arith, ints)

    down : (k : ℤ) → (pos (b * m + m) -ℤ pos 1) <ℤ (k *ℤ pos m +ℤ pos r) → pos b <ℤ k
    down (pos a) f = ⊎_elim (λ l. absurd (let p : a * m ≤ b * m = mul-le-mul_right m l in omega (arith, ints, f, p, h))) (λ l. omega (arith, ints, l)) (case a b)
    down (negsuc a) f = absurd (omega (arith, ints, f, h))

less-one : (x y : ℤ) → int_lt x y ≡ int_le x (y -ℤ pos 1)
less-one x y = grind (arith, ints)

-- a distance lies between so many elements before the start and as many behind it, where its quotient does
pub elements-between : (q a : ℤ) (m r b : ℕ) → r < m
    → (int_le (pos 0) (((q *ℤ pos m +ℤ pos r) +ℤ a *ℤ pos m) +ℤ pos (b * m)) && int_lt (((q *ℤ pos m +ℤ pos r) +ℤ a *ℤ pos m) +ℤ pos (b * m)) (pos (2 * b * m + m)))
    ≡ (int_le (neg_ℤ (pos b)) (q +ℤ a) && int_le (q +ℤ a) (pos b))
elements-between q a m r b h =
    ap (λ u. int_le (pos 0) u && int_lt u (pos (2 * b * m + m))) one
    ∙ ap (λ c. c && int_lt (((q +ℤ a) +ℤ pos b) *ℤ pos m +ℤ pos r) (pos (2 * b * m + m))) (euclid-low ((q +ℤ a) +ℤ pos b) m r h ∙ low)
    ∙ ap (λ c. int_le (neg_ℤ (pos b)) (q +ℤ a) && c)
    (less-one (((q +ℤ a) +ℤ pos b) *ℤ pos m +ℤ pos r) (pos (2 * b * m + m)) ∙ euclid-high ((q +ℤ a) +ℤ pos b) m r (2 * b) h ∙ high)
  where
    one : ((q *ℤ pos m +ℤ pos r) +ℤ a *ℤ pos m) +ℤ pos (b * m) ≡ ((q +ℤ a) +ℤ pos b) *ℤ pos m +ℤ pos r
    one = let e = times-sum (q +ℤ a) (pos b) m in let f = times-sum q a m in omega (arith, ints, e, f)

    low : int_le (pos 0) ((q +ℤ a) +ℤ pos b) ≡ int_le (neg_ℤ (pos b)) (q +ℤ a)
    low = same_le (pos 0) ((q +ℤ a) +ℤ pos b) (neg_ℤ (pos b)) (q +ℤ a) (λ k. omega (arith, ints, k)) (λ k. omega (arith, ints, k))

    high : int_le ((q +ℤ a) +ℤ pos b) (pos (2 * b)) ≡ int_le (q +ℤ a) (pos b)
    high = same_le ((q +ℤ a) +ℤ pos b) (pos (2 * b)) (q +ℤ a) (pos b) (λ k. omega (arith, ints, k)) (λ k. omega (arith, ints, k))

-- Integers of a type

between-bits : (b r : ℕ) (q : Bool) → r < b → IsWithin (if q then pos r else negsuc (b - 1 - r)) b
between-bits b r true h = record { low = omega (arith, ints, h); high = omega (arith, ints, h) }
between-bits b r false h = record { low = omega (arith, ints, h); high = omega (arith, ints, h) }

pub integer-within : (i : IntegerType) (z : ℤ) → converted i z ≡ z → IsWithin z (2 ^ bits_of i)
integer-within i z e = subst (λ y. IsWithin y (2 ^ bits_of i)) e (by i.signed)
  where
    less : residue z (2 ^ bits_of i) < 2 ^ bits_of i
    less = residue-below z (2 ^ bits_of i) (pow_pos (bits_of i))

    by : (signed : Bool) → IsWithin (if signed then as_signed (bits_of i) z else as_unsigned (bits_of i) z) (2 ^ bits_of i)
    by true = between-bits (2 ^ bits_of i) (residue z (2 ^ bits_of i)) (nat_lt (residue z (2 ^ bits_of i)) (2 ^ (bits_of i - 1))) less
    by false = between-bits (2 ^ bits_of i) (residue z (2 ^ bits_of i)) true less

-- products of what is small
pub within-times : (z : ℤ) (b m c : ℕ) → IsWithin z b → b * m ≤ c → IsWithin (z *ℤ pos m) c
within-times (pos n) b m c h k =
    let p : n * m ≤ b * m = mul-le-mul_right m (let a = h.high in let x : n ≤ b = omega (arith, ints, a) in x) in
    record { low = omega (arith, ints, p, k); high = omega (arith, ints, p, k) }
within-times (negsuc n) b m c h k =
    let p : suc n * m ≤ b * m = mul-le-mul_right m (let a = h.low in let x : suc n ≤ b = omega (arith, ints, a) in x) in
    record { low = omega (arith, ints, p, k); high = omega (arith, ints, p, k) }

pub within-steps : (way : Direction) (z : ℤ) (b : ℕ) → IsWithin z b → IsWithin (steps way z) b
within-steps Forward z b h = h
within-steps Backward z b h = let l = h.low in let k = h.high in record { low = omega (arith, ints, l, k); high = omega (arith, ints, l, k) }
