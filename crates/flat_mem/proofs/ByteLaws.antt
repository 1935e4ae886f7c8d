-- Laws on numbers in a list of bytes: what a write, a zeroing and a move give where they write, and that they
-- leave the rest.
use Rattle.std.specs.Prelude.{◌≡◌, ℕ, zero, suc, ◌+◌, ◌*◌, ◌/◌, ◌%◌, ◌^◌, ◌<◌, ◌≤◌, ◌⊎◌, List, [], ◌∷◌, length, slice_index, slice_set, refl}
use Rattle.std.proofs.Common.{zero-add, mul_assoc, ⊎_elim, ◌∙◌, ap, subst, inl, arith, get_or-set_other, get_or-set_same, length-set}
use Rattle.std.proofs.Math.Arith.{mod-mul}
use Rattle.std.proofs.Math.Nat.{pow-suc, pow-succ'}
use Rattle.flat_mem.specs.Bytes.{number, stored, zeroed, bytes_at, written, moved, AreBytes}

-- Lengths stay

pub length-stored : (n : ℕ) (bytes : List ℕ) (a v : ℕ) → length (stored n bytes a v) ≡ length bytes
unfolding stored
length-stored zero bytes a v = refl
length-stored (suc n) bytes a v = length-stored n (slice_set bytes a (v % 256)) (a + 1) (v / 256) ∙ length-set bytes a (v % 256)

pub length-zeroed : (n : ℕ) (bytes : List ℕ) (a : ℕ) → length (zeroed n bytes a) ≡ length bytes
unfolding zeroed
length-zeroed zero bytes a = refl
length-zeroed (suc n) bytes a = length-zeroed n (slice_set bytes a 0) (a + 1) ∙ length-set bytes a 0

pub length-bytes_at : (n : ℕ) (bytes : List ℕ) (a : ℕ) → length (bytes_at n bytes a) ≡ n
unfolding bytes_at
length-bytes_at zero bytes a = refl
length-bytes_at (suc n) bytes a = ap suc (length-bytes_at n bytes (a + 1))

pub length-written : (new bytes : List ℕ) (a : ℕ) → length (written new bytes a) ≡ length bytes
unfolding written
length-written [] bytes a = refl
length-written (b ∷ new) bytes a = length-written new (slice_set bytes a b) (a + 1) ∙ length-set bytes a b

pub length-moved : (n : ℕ) (bytes : List ℕ) (to from : ℕ) → length (moved n bytes to from) ≡ length bytes
length-moved n bytes to from = length-written (bytes_at n bytes from) bytes to

-- A byte outside the range that is written stays

pub get-stored_other : (n : ℕ) (bytes : List ℕ) (a v i : ℕ) → (i < a) ⊎ (a + n ≤ i) → slice_index (stored n bytes a v) i ≡ slice_index bytes i
unfolding stored
get-stored_other zero bytes a v i h = refl
get-stored_other (suc n) bytes a v i h =
    get-stored_other n (slice_set bytes a (v % 256)) (a + 1) (v / 256) i (grind arith) ∙ get_or-set_other bytes a i (v % 256) 0 (grind arith)

pub get-zeroed_other : (n : ℕ) (bytes : List ℕ) (a i : ℕ) → (i < a) ⊎ (a + n ≤ i) → slice_index (zeroed n bytes a) i ≡ slice_index bytes i
unfolding zeroed
get-zeroed_other zero bytes a i h = refl
get-zeroed_other (suc n) bytes a i h =
    get-zeroed_other n (slice_set bytes a 0) (a + 1) i (grind arith) ∙ get_or-set_other bytes a i 0 0 (grind arith)

pub get-written_other : (new bytes : List ℕ) (a i : ℕ) → (i < a) ⊎ (a + length new ≤ i) → slice_index (written new bytes a) i ≡ slice_index bytes i
unfolding written
get-written_other [] bytes a i h = refl
get-written_other (b ∷ new) bytes a i h =
    get-written_other new (slice_set bytes a b) (a + 1) i (grind arith) ∙ get_or-set_other bytes a i b 0 (grind arith)

pub get-moved_other : (n : ℕ) (bytes : List ℕ) (to from i : ℕ) → (i < to) ⊎ (to + n ≤ i) → slice_index (moved n bytes to from) i ≡ slice_index bytes i
get-moved_other n bytes to from i h =
    get-written_other (bytes_at n bytes from) bytes to i (let e = length-bytes_at n bytes from in grind (arith, e))

-- What stands in the range that is written

get-set_zero : (bytes : List ℕ) (a : ℕ) → slice_index (slice_set bytes a 0) a ≡ 0
get-set_zero [] a = refl
get-set_zero (b ∷ bytes) zero = refl
get-set_zero (b ∷ bytes) (suc a) = get-set_zero bytes a

first_or_later : (a i : ℕ) → a ≤ i → (a ≡ i) ⊎ (a + 1 ≤ i)
first_or_later a i low = grind arith

pub get-zeroed_inside : (n : ℕ) (bytes : List ℕ) (a i : ℕ) → a ≤ i → i < a + n → slice_index (zeroed n bytes a) i ≡ 0
unfolding zeroed
get-zeroed_inside zero bytes a i low high = absurd (omega arith)
get-zeroed_inside (suc n) bytes a i low high =
    ⊎_elim
    (λ same. subst (λ k. slice_index (zeroed n (slice_set bytes a 0) (a + 1)) k ≡ 0) same (get-zeroed_other n (slice_set bytes a 0) (a + 1) a (inl (omega arith)) ∙ get-set_zero bytes a))
    (λ more. get-zeroed_inside n (slice_set bytes a 0) (a + 1) i (omega arith) (omega arith))
    (first_or_later a i low)

pub get-bytes_at : (n : ℕ) (bytes : List ℕ) (a i : ℕ) → i < n → slice_index (bytes_at n bytes a) i ≡ slice_index bytes (a + i)
unfolding bytes_at
get-bytes_at zero bytes a i h = absurd (omega arith)
get-bytes_at (suc n) bytes a zero h = ap (slice_index bytes) (omega arith)
get-bytes_at (suc n) bytes a (suc i) h = get-bytes_at n bytes (a + 1) i (omega arith) ∙ ap (slice_index bytes) (omega arith)

pub get-written_inside : (new bytes : List ℕ) (a i : ℕ) → i < length new → a + length new ≤ length bytes → slice_index (written new bytes a) (a + i) ≡ slice_index new i
unfolding written
get-written_inside [] bytes a i h room = absurd (omega arith)
get-written_inside (b ∷ new) bytes a zero h room =
    get-written_other new (slice_set bytes a b) (a + 1) (a + 0) (inl (omega arith))
    ∙ (ap (slice_index (slice_set bytes a b)) (omega arith) ∙ get_or-set_same bytes a b 0 (omega arith))
get-written_inside (b ∷ new) bytes a (suc i) h room =
    ap (slice_index (written new (slice_set bytes a b) (a + 1))) (omega arith)
    ∙ get-written_inside new (slice_set bytes a b) (a + 1) i (omega arith) (let e = length-set bytes a b in omega (arith, e))

pub get-moved_inside : (n : ℕ) (bytes : List ℕ) (to from i : ℕ) → i < n → to + n ≤ length bytes → slice_index (moved n bytes to from) (to + i) ≡ slice_index bytes (from + i)
get-moved_inside n bytes to from i h room =
    let e : length (bytes_at n bytes from) ≡ n = length-bytes_at n bytes from in
    get-written_inside (bytes_at n bytes from) bytes to i (omega (arith, e)) (omega (arith, e)) ∙ get-bytes_at n bytes from i h

power_positive : (n : ℕ) → 0 < 256 ^ n
power_positive zero = omega arith
power_positive (suc n) = let h : 0 < 256 ^ n = power_positive n in let e : 256 ^ suc n ≡ 256 ^ n * 256 = pow-suc 256 n in omega (arith, h, e)

set_below : (bytes : List ℕ) (a v i : ℕ) → v < 256 → slice_index bytes i < 256 → slice_index (slice_set bytes a v) i < 256
set_below [] a v i small old = old
set_below (b ∷ bytes) zero v zero small old = small
set_below (b ∷ bytes) zero v (suc i) small old = old
set_below (b ∷ bytes) (suc a) v zero small old = old
set_below (b ∷ bytes) (suc a) v (suc i) small old = set_below bytes a v i small old

each : (n : ℕ) (bytes : List ℕ) (a : ℕ) → AreBytes bytes → (i : ℕ) → slice_index (bytes_at n bytes a) i < 256
unfolding bytes_at
each zero bytes a are i = omega arith
each (suc n) bytes a are zero = are.below a
each (suc n) bytes a are (suc i) = each n bytes (a + 1) are i

-- Numbers

-- a number is that of its bytes alone
pub number-same : (n : ℕ) (bytes others : List ℕ) (a b : ℕ) → ((i : ℕ) → i < n → slice_index bytes (a + i) ≡ slice_index others (b + i)) → number n bytes a ≡ number n others b
unfolding number
number-same zero bytes others a b same = refl
number-same (suc n) bytes others a b same =
    let first : slice_index bytes a ≡ slice_index others b =
    ap (slice_index bytes) (omega arith) ∙ (same 0 (omega arith) ∙ ap (slice_index others) (omega arith)) in
    let rest : number n bytes (a + 1) ≡ number n others (b + 1) =
    number-same n bytes others (a + 1) (b + 1) (λ i h.
    ap (slice_index bytes) (omega arith) ∙ (same (i + 1) (omega arith) ∙ ap (slice_index others) (omega arith))) in
    omega (arith, first, rest)

pub number-stored_apart : (m n : ℕ) (bytes : List ℕ) (a b v : ℕ) → (b + m ≤ a) ⊎ (a + n ≤ b) → number m (stored n bytes a v) b ≡ number m bytes b
number-stored_apart m n bytes a b v apart =
    number-same m (stored n bytes a v) bytes b b (λ i h. get-stored_other n bytes a v (b + i) (grind arith))

pub number-zeroed_apart : (m n : ℕ) (bytes : List ℕ) (a b : ℕ) → (b + m ≤ a) ⊎ (a + n ≤ b) → number m (zeroed n bytes a) b ≡ number m bytes b
number-zeroed_apart m n bytes a b apart =
    number-same m (zeroed n bytes a) bytes b b (λ i h. get-zeroed_other n bytes a (b + i) (grind arith))

pub number-written_apart : (m : ℕ) (new bytes : List ℕ) (a b : ℕ) → (b + m ≤ a) ⊎ (a + length new ≤ b) → number m (written new bytes a) b ≡ number m bytes b
number-written_apart m new bytes a b apart =
    number-same m (written new bytes a) bytes b b (λ i h. get-written_other new bytes a (b + i) (grind arith))

pub number-moved_apart : (m n : ℕ) (bytes : List ℕ) (to from b : ℕ) → (b + m ≤ to) ⊎ (to + n ≤ b) → number m (moved n bytes to from) b ≡ number m bytes b
number-moved_apart m n bytes to from b apart =
    number-same m (moved n bytes to from) bytes b b (λ i h. get-moved_other n bytes to from (b + i) (grind arith))

-- a number that was moved whole, at its new place
pub number-moved : (m n : ℕ) (bytes : List ℕ) (to from k : ℕ) → k + m ≤ n → to + n ≤ length bytes → number m (moved n bytes to from) (to + k) ≡ number m bytes (from + k)
number-moved m n bytes to from k inside room =
    number-same m (moved n bytes to from) bytes (to + k) (from + k) (λ i h.
    ap (slice_index (moved n bytes to from)) (omega arith)
    ∙ (get-moved_inside n bytes to from (k + i) (omega arith) room ∙ ap (slice_index bytes) (omega arith)))

-- zero bytes are the number 0
pub number-zeros : (m : ℕ) (bytes : List ℕ) (b : ℕ) → ((i : ℕ) → i < m → slice_index bytes (b + i) ≡ 0) → number m bytes b ≡ 0
unfolding number
number-zeros zero bytes b zeros = refl
number-zeros (suc m) bytes b zeros =
    let first : slice_index bytes b ≡ 0 = ap (slice_index bytes) (omega arith) ∙ zeros 0 (omega arith) in
    let rest : number m bytes (b + 1) ≡ 0 = number-zeros m bytes (b + 1) (λ i h. ap (slice_index bytes) (omega arith) ∙ zeros (i + 1) (omega arith)) in
    omega (arith, first, rest)

pub number-zeroed : (m n : ℕ) (bytes : List ℕ) (a b : ℕ) → a ≤ b → b + m ≤ a + n → number m (zeroed n bytes a) b ≡ 0
number-zeroed m n bytes a b low high =
    number-zeros m (zeroed n bytes a) b (λ i h. get-zeroed_inside n bytes a (b + i) (omega arith) (omega arith))

-- a number of n bytes is below 256 ^ n
pub number-below : (n : ℕ) (bytes : List ℕ) (a : ℕ) → AreBytes bytes → number n bytes a < 256 ^ n
unfolding number
number-below zero bytes a are = omega arith
number-below (suc n) bytes a are =
    let first : slice_index bytes a < 256 = are.below a in
    let rest : number n bytes (a + 1) < 256 ^ n = number-below n bytes (a + 1) are in
    omega (arith, first, rest)

-- what was stored is read again
pub number-stored : (n : ℕ) (bytes : List ℕ) (a v : ℕ) → a + n ≤ length bytes → v < 256 ^ n → number n (stored n bytes a v) a ≡ v
unfolding number stored
number-stored zero bytes a v room small = omega arith
number-stored (suc n) bytes a v room small =
    let e : length (slice_set bytes a (v % 256)) ≡ length bytes = length-set bytes a (v % 256) in
    let first : slice_index (stored n (slice_set bytes a (v % 256)) (a + 1) (v / 256)) a ≡ v % 256 =
    get-stored_other n (slice_set bytes a (v % 256)) (a + 1) (v / 256) a (inl (omega arith)) ∙ get_or-set_same bytes a (v % 256) 0 (omega arith) in
    let rest : number n (stored n (slice_set bytes a (v % 256)) (a + 1) (v / 256)) (a + 1) ≡ v / 256 =
    number-stored n (slice_set bytes a (v % 256)) (a + 1) (v / 256) (omega (arith, e)) (omega arith) in
    omega (arith, first, rest)

-- the low n bytes of what was stored are read again
pub number-stored_low : (n : ℕ) (bytes : List ℕ) (a v : ℕ) → a + n ≤ length bytes → number n (stored n bytes a v) a ≡ v % 256 ^ n
unfolding number stored
number-stored_low zero bytes a v room = omega arith
number-stored_low (suc n) bytes a v room =
    let e : length (slice_set bytes a (v % 256)) ≡ length bytes = length-set bytes a (v % 256) in
    let first : slice_index (stored n (slice_set bytes a (v % 256)) (a + 1) (v / 256)) a ≡ v % 256 =
    get-stored_other n (slice_set bytes a (v % 256)) (a + 1) (v / 256) a (inl (omega arith)) ∙ get_or-set_same bytes a (v % 256) 0 (omega arith) in
    let rest : number n (stored n (slice_set bytes a (v % 256)) (a + 1) (v / 256)) (a + 1) ≡ v / 256 % 256 ^ n =
    number-stored_low n (slice_set bytes a (v % 256)) (a + 1) (v / 256) (omega (arith, e)) in
    let split : v % (256 ^ n * 256) ≡ (v / 256 % 256 ^ n) * 256 + v % 256 = mod-mul v (power_positive n) (omega arith) in
    let powers : v % 256 ^ suc n ≡ v % (256 ^ n * 256) = ap (λ k. v % k) (pow-suc 256 n) in
    omega (arith, first, rest, split, powers)

-- two numbers that lie one after the other are one longer number
pub number-append : (m n : ℕ) (bytes : List ℕ) (a : ℕ) → number (m + n) bytes a ≡ number m bytes a + 256 ^ m * number n bytes (a + m)
unfolding number
number-append zero n bytes a =
    let size : number (0 + n) bytes a ≡ number n bytes a = ap (λ k. number k bytes a) (zero-add n) in
    let place : number n bytes (a + 0) ≡ number n bytes a = ap (number n bytes) (omega arith) in
    omega (arith, size, place)
number-append (suc m) n bytes a =
    let more : suc m + n ≡ suc (m + n) = omega arith in
    let size : number (suc m + n) bytes a ≡ number (suc (m + n)) bytes a = ap (λ k. number k bytes a) more in
    let rest : number (m + n) bytes (a + 1) ≡ number m bytes (a + 1) + 256 ^ m * number n bytes (a + 1 + m) = number-append m n bytes (a + 1) in
    let place : number n bytes (a + suc m) ≡ number n bytes (a + 1 + m) = ap (number n bytes) (omega arith) in
    let powers : 256 ^ suc m * number n bytes (a + suc m) ≡ 256 * (256 ^ m * number n bytes (a + 1 + m)) =
    ap (λ k. 256 ^ suc m * k) place ∙ (ap (λ k. k * number n bytes (a + 1 + m)) (pow-succ' 256 m) ∙ mul_assoc 256 (256 ^ m) (number n bytes (a + 1 + m))) in
    size ∙ omega (arith, rest, powers)

-- Bytes stay bytes

set-bytes : (bytes : List ℕ) (a v : ℕ) → v < 256 → AreBytes bytes → AreBytes (slice_set bytes a v)
set-bytes bytes a v small are = record { below = λ i. set_below bytes a v i small (are.below i) }

pub stored-bytes : (n : ℕ) (bytes : List ℕ) (a v : ℕ) → AreBytes bytes → AreBytes (stored n bytes a v)
unfolding stored
stored-bytes zero bytes a v are = are
stored-bytes (suc n) bytes a v are = stored-bytes n (slice_set bytes a (v % 256)) (a + 1) (v / 256) (set-bytes bytes a (v % 256) (omega arith) are)

pub zeroed-bytes : (n : ℕ) (bytes : List ℕ) (a : ℕ) → AreBytes bytes → AreBytes (zeroed n bytes a)
unfolding zeroed
zeroed-bytes zero bytes a are = are
zeroed-bytes (suc n) bytes a are = zeroed-bytes n (slice_set bytes a 0) (a + 1) (set-bytes bytes a 0 (omega arith) are)

pub written-bytes : (new bytes : List ℕ) (a : ℕ) → AreBytes new → AreBytes bytes → AreBytes (written new bytes a)
unfolding written
written-bytes [] bytes a small are = are
written-bytes (b ∷ new) bytes a small are =
    written-bytes new (slice_set bytes a b) (a + 1) (record { below = λ i. small.below (suc i) }) (set-bytes bytes a b (small.below 0) are)

pub bytes_at-bytes : (n : ℕ) (bytes : List ℕ) (a : ℕ) → AreBytes bytes → AreBytes (bytes_at n bytes a)
bytes_at-bytes n bytes a are = record { below = each n bytes a are }

pub moved-bytes : (n : ℕ) (bytes : List ℕ) (to from : ℕ) → AreBytes bytes → AreBytes (moved n bytes to from)
moved-bytes n bytes to from are = written-bytes (bytes_at n bytes from) bytes to (bytes_at-bytes n bytes from are) are
