-- The laws of what is left of an input: the next byte is the one behind those that were read.
use Rattle.std.proofs.Common.{ℕ, zero, suc, ◌≡◌, refl, ap, List, [], ◌∷◌, drop, slice_get, Some, None}
use Rattle.runs.specs.Input.{Input, Closed, Open, left}

pub left-none : (input : Input) → left input 0 ≡ input
left-none (Closed bytes) = refl
left-none (Open bytes) = refl

next-byte : (bytes : List ℕ) (n b : ℕ) → slice_get bytes n ≡ Some b → drop n bytes ≡ b ∷ drop (suc n) bytes
next-byte [] n b is = absurd (cc (is))
next-byte (c ∷ bytes) zero b is = let same : c ≡ b = cc (is) in ap (λ x. x ∷ bytes) same
next-byte (c ∷ bytes) (suc n) b is = next-byte bytes n b is

no-byte : (bytes : List ℕ) (n : ℕ) → slice_get bytes n ≡ None → drop n bytes ≡ []
no-byte [] zero is = refl
no-byte [] (suc n) is = refl
no-byte (c ∷ bytes) zero is = absurd (cc (is))
no-byte (c ∷ bytes) (suc n) is = no-byte bytes n is

-- where there is a byte behind those that were read, it is the first that is left
pub left-byte : (bytes : List ℕ) (n b : ℕ) → slice_get bytes n ≡ Some b → (left (Closed bytes) n ≡ Closed (b ∷ drop (suc n) bytes)) × (left (Open bytes) n ≡ Open (b ∷ drop (suc n) bytes))
left-byte bytes n b is = (ap Closed (next-byte bytes n b is), ap Open (next-byte bytes n b is))

-- and where there is none nothing is left
pub left-end : (bytes : List ℕ) (n : ℕ) → slice_get bytes n ≡ None → (left (Closed bytes) n ≡ Closed []) × (left (Open bytes) n ≡ Open [])
left-end bytes n is = (ap Closed (no-byte bytes n is), ap Open (no-byte bytes n is))
