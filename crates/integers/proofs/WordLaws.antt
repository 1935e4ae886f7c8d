-- The laws of residues and words.
use Rattle.std.proofs.Common.{ℕ, ℤ, pos, negsuc, ◌+◌, ◌%◌, ◌^◌, ◌<◌, ◌≡◌, ◌≢◌, ◌+ℤ◌, true, false, refl, arith}
use Rattle.std.proofs.Math.Nat.{mod-eq_of_lt}
use Rattle.std.proofs.lemmas.Bool.Decides.{nat_tests}
use Rattle.integers.specs.Words.{residue, word, as_signed, equal_words, different_words, is_true_word, low_byte}

-- a residue is below its modulus
pub residue-below : (z : ℤ) (m : ℕ) → 0 < m → residue z m < m
residue-below (pos n) m h = omega arith
residue-below (negsuc n) m h = omega arith

-- a word is below 2^64
pub word-below : (z : ℤ) → word z < 2 ^ 64
word-below (pos n) = omega arith
word-below (negsuc n) = omega arith

-- a number below the modulus is its own residue
pub residue-small : (n m : ℕ) → n < m → residue (pos n) m ≡ n
residue-small n m h = mod-eq_of_lt h

-- a number below 2^64 is its own word
pub word-small : (n : ℕ) → n < 2 ^ 64 → word (pos n) ≡ n
word-small n h = omega arith

-- a residue is its own residue
pub residue-twice : (z : ℤ) (m : ℕ) → 0 < m → residue (pos (residue z m)) m ≡ residue z m
residue-twice z m h = residue-small (residue z m) m (residue-below z m h)

-- the word of a sum
pub word-sum : (x y : ℤ) → word (x +ℤ y) ≡ (word x + word y) % 2 ^ 64
word-sum (pos m) (pos n) = omega arith
word-sum (pos m) (negsuc n) = grind (arith, nat_tests)
word-sum (negsuc m) (pos n) = grind (arith, nat_tests)
word-sum (negsuc m) (negsuc n) = omega arith

-- the low byte of an integer's word is the integer's residue
pub low_byte-word : (z : ℤ) → low_byte (word z) ≡ residue z 256
low_byte-word (pos n) = omega arith
low_byte-word (negsuc n) = omega arith

-- a low byte is a byte
pub low_byte-below : (a : ℕ) → low_byte a < 256
low_byte-below a = omega arith

-- a conversion to 32 bits and back changes nothing of an int's word in its low 32 bits
pub residue-signed_32 : (z : ℤ) → residue (as_signed 32 z) (2 ^ 32) ≡ residue z (2 ^ 32)
residue-signed_32 (pos n) = grind (arith, nat_tests)
residue-signed_32 (negsuc n) = grind (arith, nat_tests)

-- equal words give 1
pub equal_words-same : (a b : ℕ) → a ≡ b → equal_words a b ≡ 1
equal_words-same a b h = grind (arith, nat_tests)

-- and others 0
pub equal_words-other : (a b : ℕ) → a ≢ b → equal_words a b ≡ 0
equal_words-other a b h = grind (arith, nat_tests)

pub different_words-same : (a b : ℕ) → a ≡ b → different_words a b ≡ 0
different_words-same a b h = grind (arith, nat_tests)

pub different_words-other : (a b : ℕ) → a ≢ b → different_words a b ≡ 1
different_words-other a b h = grind (arith, nat_tests)

-- a word stands for true exactly where it isn't zero
pub is_true_word-zero : is_true_word 0 ≡ false
is_true_word-zero = refl

pub is_true_word-other : (a : ℕ) → a ≢ 0 → is_true_word a ≡ true
is_true_word-other a h = grind (arith, nat_tests)
