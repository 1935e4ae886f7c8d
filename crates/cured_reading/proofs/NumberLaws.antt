-- The number that digits give, modulo 2^64, is the one that they are written for.
use Rattle.std.proofs.Common.{ℕ, suc, ◌+◌, ◌*◌, ◌%◌, ◌/◌, ◌<◌, ◌≤◌, ◌≡◌, ◌^◌, ◌∙◌, List, [], ◌∷◌, ◌++◌, length, drop, get_or, refl, ap, sym, subst, arith, drop-cons, add-one}
use Rattle.std.specs.Prelude.{bit_and}
use Rattle.std.specs.Fmt.{decimal}
use Rattle.std.proofs.lemmas.Fmt.{decimal_by_steps}
use Rattle.std.proofs.lemmas.Nat.{and_mask}

abbrev pub with_digit : ℕ → ℕ → ℕ
with_digit v digit = (v * 10 % 2 ^ 64 + bit_and digit 15) % 2 ^ 64

-- the number so far, and the digits that come
abbrev pub value_of : ℕ → List ℕ → ℕ
value_of v [] = v
value_of v (digit ∷ digits) = value_of (with_digit v digit) digits

value-append : (v digit : ℕ) (digits : List ℕ) → value_of v (digits ++ (digit ∷ [])) ≡ with_digit (value_of v digits) digit
value-append v digit [] = refl
value-append v digit (d ∷ digits) = value-append (with_digit v d) digit digits

digit-alone : (d : ℕ) → d < 10 → bit_and (48 + d) 15 ≡ d
digit-alone d h = let e : bit_and (48 + d) 15 ≡ (48 + d) % 16 = and_mask (48 + d) 4 in omega (arith, e)

with_last : (n : ℕ) → n < 2 ^ 64 → with_digit (n / 10) (48 + n % 10) ≡ n
with_last n h =
    let e : bit_and (48 + n % 10) 15 ≡ n % 10 = digit-alone (n % 10) (omega arith) in
    omega (arith, e)

pub value-decimal : (n : ℕ) → n < 2 ^ 64 → value_of 0 (decimal n) ≡ n
value-decimal n small =
    decimal_by_steps (λ m digits. m < 2 ^ 64 → value_of 0 digits ≡ m)
    (λ m less h. let e : bit_and (48 + m) 15 ≡ m = digit-alone m less in omega (arith, e))
    (λ m digits more ih h.
    value-append 0 (48 + m % 10) digits ∙ ap (λ v. with_digit v (48 + m % 10)) (ih (omega (arith, h))) ∙ with_last m h)
    n small small

-- one more digit
pub next_digit : (v w i d : ℕ) (digits : List ℕ) → i < length digits → w ≡ with_digit v (get_or digits i d) → value_of v (drop i digits) ≡ value_of 0 digits
    → value_of w (drop (i + 1) digits) ≡ value_of 0 digits
next_digit v w i d digits lt e h =
    let front : drop i digits ≡ get_or digits i d ∷ drop (suc i) digits = drop-cons digits i d lt in
    rw (e, add-one) (sym (ap (λ l. value_of v l) front) ∙ h)
