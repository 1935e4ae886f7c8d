-- The laws of words against the integers that they hold: sums, differences, order, and conversions. A test on words gives
-- what the test on integers gives wherever the integers are near enough to 0.
use Rattle.std.proofs.Common.{ℕ, ℤ, pos, negsuc, ◌-◌, ◌*◌, ◌%◌, ◌^◌, ◌<◌, ◌≤◌, ◌≡◌, ◌+ℤ◌, ◌-ℤ◌, Bool, true, false, not, ◌&&◌, refl, ap, sym, ◌∙◌, arith, if◌then◌else◌}
use Rattle.std.specs.Prelude.{int_lt, int_le, nat_lt, bit_or, ◌||◌}
use Rattle.std.proofs.Math.Nat.{mod-eq_of_lt}
use Rattle.std.proofs.lemmas.Bool.Decides.{nat_tests}
use Rattle.integers.specs.Words.{residue, word, signed_of, as_signed, truth_word, equal_words, is_true_word}
use Rattle.integers.specs.Operators.{signed, sum_words, difference_words, less_signed}
use Rattle.integers.specs.Arithmetic.{IntegerType, converted}

-- Truth values as words

pub or-truth : (p q : Bool) → bit_or (truth_word p) (truth_word q) ≡ truth_word (p || q)
or-truth true true = refl
or-truth true false = refl
or-truth false true = refl
or-truth false false = refl

pub not-truth : (p : Bool) → equal_words (truth_word p) 0 ≡ truth_word (not p)
not-truth true = refl
not-truth false = refl

-- neither holds
pub neither-truth : (p q : Bool) → equal_words (truth_word (p || q)) 0 ≡ truth_word (not p && not q)
neither-truth true q = refl
neither-truth false true = refl
neither-truth false false = refl

pub is_true-truth : (p : Bool) → is_true_word (truth_word p) ≡ p
is_true-truth true = refl
is_true-truth false = refl

-- Words of integers

pub sum-word : (x y : ℤ) → sum_words (word x) (word y) ≡ word (x +ℤ y)
sum-word (pos m) (pos n) = omega arith
sum-word (pos m) (negsuc n) = grind (arith, nat_tests)
sum-word (negsuc m) (pos n) = grind (arith, nat_tests)
sum-word (negsuc m) (negsuc n) = omega arith

pub difference-word : (x y : ℤ) → difference_words (word x) (word y) ≡ word (x -ℤ y)
difference-word (pos m) (pos n) = grind (arith, nat_tests)
difference-word (pos m) (negsuc n) = grind (arith, nat_tests)
difference-word (negsuc m) (pos n) = grind (arith, nat_tests)
difference-word (negsuc m) (negsuc n) = grind (arith, nat_tests)

-- an integer that its word's signed reading gives back
pub record IsNear (z : ℤ) : Type 0 where
  pub low : int_le (negsuc (2 ^ 63 - 1)) z ≡ true
  pub high : int_lt z (pos (2 ^ 63)) ≡ true

pub signed-word : (z : ℤ) → IsNear z → signed (word z) ≡ z
signed-word (pos n) near = let h : n < 2 ^ 63 = grind (arith, nat_tests, near.high) in grind (arith, nat_tests)
signed-word (negsuc n) near = let h : n < 2 ^ 63 = grind (arith, nat_tests, near.low) in grind (arith, nat_tests)

pub less-word : (x y : ℤ) → IsNear x → IsNear y → less_signed (word x) (word y) ≡ truth_word (int_lt x y)
less-word x y hx hy = ap (λ a. truth_word (int_lt a (signed (word y)))) (signed-word x hx) ∙ ap (λ a. truth_word (int_lt x a)) (signed-word y hy)

-- Parts of objects: m bytes at a lie between two ends

-- the test on words: a isn't below `low`, and `high` is at least m beyond it
abbrev pub is_in_part : ℕ → ℕ → ℕ → ℕ → Bool
is_in_part m a low high = not (int_lt (signed a) (signed low)) && not (int_lt (signed (difference_words high a)) (signed m))

pub in_part-word : (m a low high : ℤ) → IsNear m → IsNear a → IsNear low → IsNear (high -ℤ a)
    → is_in_part (word m) (word a) (word low) (word high) ≡ (not (int_lt a low) && not (int_lt (high -ℤ a) m))
in_part-word m a low high hm ha hl hd =
    ap (λ (x : ℤ). not (int_lt x (signed (word low))) && not (int_lt (signed (difference_words (word high) (word a))) (signed (word m)))) (signed-word a ha)
    ∙ ap (λ (x : ℤ). not (int_lt a x) && not (int_lt (signed (difference_words (word high) (word a))) (signed (word m)))) (signed-word low hl)
    ∙ ap (λ (x : ℕ). not (int_lt a low) && not (int_lt (signed x) (signed (word m)))) (difference-word high a)
    ∙ ap (λ (x : ℤ). not (int_lt a low) && not (int_lt x (signed (word m)))) (signed-word (high -ℤ a) hd)
    ∙ ap (λ (x : ℤ). not (int_lt a low) && not (int_lt (high -ℤ a) x)) (signed-word m hm)

-- nothing lies between two ends that are 0
pub no-part : (m n : ℕ) → 0 < m → m < 2 ^ 40 → n < 2 ^ 64 → is_in_part m n 0 0 ≡ false
no-part m n some small below = grind (arith, nat_tests)

-- Areas: m bytes at the distance z lie in `size` bytes. The test takes the size less the distance, which wraps.

abbrev pub is_in_area : ℕ → ℕ → ℕ → Bool
is_in_area size m d = not (nat_lt size (difference_words size d)) && not (nat_lt (difference_words size d) m)

-- a distance that no wrapping makes small
abbrev pub IsReach : ℤ → Type 0
IsReach (pos n) = n ≤ 2 ^ 41
IsReach (negsuc n) = n ≤ 2 ^ 41

pub in_area-word : (size m : ℕ) (z : ℤ) → size < 2 ^ 40 → m < 2 ^ 40 → IsReach z → is_in_area size m (word z) ≡ (int_le (pos 0) z && int_le (z +ℤ pos m) (pos size))
in_area-word size m (pos n) hs hm r = grind (arith, nat_tests)
in_area-word size m (negsuc n) hs hm r = grind (arith, nat_tests)

-- Conversions of numbers that fit their type's bits: as a load gives them

residue-signed_of : (b m : ℕ) → m < b → (q : Bool) → residue (if q then pos m else negsuc (b - 1 - m)) b ≡ m
residue-signed_of b m h true = mod-eq_of_lt h
residue-signed_of b m h false = let e : (b - 1 - m) % b ≡ b - 1 - m = mod-eq_of_lt (omega arith) in omega (arith, e)

-- the converted number has the same residue
pub residue-converted : (t : IntegerType) (m : ℕ) → m < 2 ^ (8 * t.bytes) → residue (converted t (pos m)) (2 ^ (8 * t.bytes)) ≡ m
residue-converted t m h = by t.signed
  where
    same : m % 2 ^ (8 * t.bytes) ≡ m
    same = mod-eq_of_lt h

    by : (q : Bool) → residue (if q then as_signed (8 * t.bytes) (pos m) else pos (residue (pos m) (2 ^ (8 * t.bytes)))) (2 ^ (8 * t.bytes)) ≡ m
    by true = ap (λ (k : ℕ). residue (signed_of (8 * t.bytes) k) (2 ^ (8 * t.bytes))) same ∙ residue-signed_of (2 ^ (8 * t.bytes)) m h _
    by false = ap (λ (k : ℕ). k % 2 ^ (8 * t.bytes)) same ∙ same

-- and to convert it once more changes nothing
pub converted-again : (t : IntegerType) (m : ℕ) → m < 2 ^ (8 * t.bytes) → converted t (converted t (pos m)) ≡ converted t (pos m)
converted-again t m h = by t.signed refl
  where
    same : m % 2 ^ (8 * t.bytes) ≡ m
    same = mod-eq_of_lt h

    by : (q : Bool) → t.signed ≡ q → converted t (converted t (pos m)) ≡ converted t (pos m)
    by true e =
        ap (λ (q : Bool). if q then as_signed (8 * t.bytes) (converted t (pos m)) else pos (residue (converted t (pos m)) (2 ^ (8 * t.bytes)))) e
        ∙ ap (signed_of (8 * t.bytes)) (residue-converted t m h ∙ sym same)
        ∙ sym (ap (λ (q : Bool). if q then as_signed (8 * t.bytes) (pos m) else pos (residue (pos m) (2 ^ (8 * t.bytes)))) e)
    by false e =
        ap (λ (q : Bool). if q then as_signed (8 * t.bytes) (converted t (pos m)) else pos (residue (converted t (pos m)) (2 ^ (8 * t.bytes)))) e
        ∙ ap pos (residue-converted t m h ∙ sym same)
        ∙ sym (ap (λ (q : Bool). if q then as_signed (8 * t.bytes) (pos m) else pos (residue (pos m) (2 ^ (8 * t.bytes)))) e)
