-- What the code of loads, stores, zeroing and moving computes is what the definitions say.
use Rattle.std.specs.Prelude.{◌≡◌, ℕ, zero, suc, ◌+◌, ◌-◌, ◌*◌, ◌/◌, ◌%◌, ◌<◌, ◌≤◌, List, [], ◌∷◌, ◌++◌, length, slice_index, slice_set, refl}
use Rattle.std.proofs.Common.{sym, ◌∙◌, ap, inl, inr, arith}
use Rattle.flat_mem.specs.Bytes.{number, stored, zeroed, bytes_at, written, moved}
use Rattle.flat_mem.proofs.ByteLaws.{length-bytes_at, get-written_other}

-- Loads

number-step : (n : ℕ) (bytes : List ℕ) (a b : ℕ) → a + 1 ≡ b → number (suc n) bytes a ≡ slice_index bytes a + 256 * number n bytes b
unfolding number
number-step n bytes a b e = ap (λ k. slice_index bytes a + 256 * number n bytes k) e

number-none : (bytes : List ℕ) (a : ℕ) → number 0 bytes a ≡ 0
unfolding number
number-none bytes a = refl

pub number-1 : (bytes : List ℕ) (a : ℕ) → number 1 bytes a ≡ slice_index bytes a
number-1 bytes a =
    let n0 : number 1 bytes a ≡ slice_index bytes a + 256 * number 0 bytes (a + 1) = number-step 0 bytes a (a + 1) (omega arith) in
    let none : number 0 bytes (a + 1) ≡ 0 = number-none bytes (a + 1) in
    omega (arith, none, n0)

pub number-2 : (bytes : List ℕ) (a : ℕ) → number 2 bytes a ≡ slice_index bytes a + slice_index bytes (a + 1) * 256
number-2 bytes a =
    let n0 : number 2 bytes a ≡ slice_index bytes a + 256 * number 1 bytes (a + 1) = number-step 1 bytes a (a + 1) (omega arith) in
    let n1 : number 1 bytes (a + 1) ≡ slice_index bytes (a + 1) + 256 * number 0 bytes (a + 2) = number-step 0 bytes (a + 1) (a + 2) (omega arith) in
    let none : number 0 bytes (a + 2) ≡ 0 = number-none bytes (a + 2) in
    omega (arith, none, n0, n1)

pub number-4 : (bytes : List ℕ) (a : ℕ) → number 4 bytes a ≡ slice_index bytes a + slice_index bytes (a + 1) * 256 + slice_index bytes (a + 2) * 65536 + slice_index bytes (a + 3) * 16777216
number-4 bytes a =
    let n0 : number 4 bytes a ≡ slice_index bytes a + 256 * number 3 bytes (a + 1) = number-step 3 bytes a (a + 1) (omega arith) in
    let n1 : number 3 bytes (a + 1) ≡ slice_index bytes (a + 1) + 256 * number 2 bytes (a + 2) = number-step 2 bytes (a + 1) (a + 2) (omega arith) in
    let n2 : number 2 bytes (a + 2) ≡ slice_index bytes (a + 2) + 256 * number 1 bytes (a + 3) = number-step 1 bytes (a + 2) (a + 3) (omega arith) in
    let n3 : number 1 bytes (a + 3) ≡ slice_index bytes (a + 3) + 256 * number 0 bytes (a + 4) = number-step 0 bytes (a + 3) (a + 4) (omega arith) in
    let none : number 0 bytes (a + 4) ≡ 0 = number-none bytes (a + 4) in
    omega (arith, none, n0, n1, n2, n3)

pub number-8 : (bytes : List ℕ) (a : ℕ) → number 8 bytes a ≡ slice_index bytes a + slice_index bytes (a + 1) * 256 + slice_index bytes (a + 2) * 65536 + slice_index bytes (a + 3) * 16777216 + slice_index bytes (a + 4) * 4294967296 + slice_index bytes (a + 5) * 1099511627776 + slice_index bytes (a + 6) * 281474976710656 + slice_index bytes (a + 7) * 72057594037927936
number-8 bytes a =
    let n0 : number 8 bytes a ≡ slice_index bytes a + 256 * number 7 bytes (a + 1) = number-step 7 bytes a (a + 1) (omega arith) in
    let n1 : number 7 bytes (a + 1) ≡ slice_index bytes (a + 1) + 256 * number 6 bytes (a + 2) = number-step 6 bytes (a + 1) (a + 2) (omega arith) in
    let n2 : number 6 bytes (a + 2) ≡ slice_index bytes (a + 2) + 256 * number 5 bytes (a + 3) = number-step 5 bytes (a + 2) (a + 3) (omega arith) in
    let n3 : number 5 bytes (a + 3) ≡ slice_index bytes (a + 3) + 256 * number 4 bytes (a + 4) = number-step 4 bytes (a + 3) (a + 4) (omega arith) in
    let n4 : number 4 bytes (a + 4) ≡ slice_index bytes (a + 4) + 256 * number 3 bytes (a + 5) = number-step 3 bytes (a + 4) (a + 5) (omega arith) in
    let n5 : number 3 bytes (a + 5) ≡ slice_index bytes (a + 5) + 256 * number 2 bytes (a + 6) = number-step 2 bytes (a + 5) (a + 6) (omega arith) in
    let n6 : number 2 bytes (a + 6) ≡ slice_index bytes (a + 6) + 256 * number 1 bytes (a + 7) = number-step 1 bytes (a + 6) (a + 7) (omega arith) in
    let n7 : number 1 bytes (a + 7) ≡ slice_index bytes (a + 7) + 256 * number 0 bytes (a + 8) = number-step 0 bytes (a + 7) (a + 8) (omega arith) in
    let none : number 0 bytes (a + 8) ≡ 0 = number-none bytes (a + 8) in
    omega (arith, none, n0, n1, n2, n3, n4, n5, n6, n7)

-- Stores

sets : {xs ys : List ℕ} {i j x y : ℕ} → xs ≡ ys → i ≡ j → x ≡ y → slice_set xs i x ≡ slice_set ys j y
sets {xs = xs} {ys = ys} {i = i} {j = j} {x = x} {y = y} list place value =
    ap (λ l. slice_set l i x) list ∙ (ap (λ k. slice_set ys k x) place ∙ ap (slice_set ys j) value)

pub stored-1 : (bytes : List ℕ) (a v : ℕ) → stored 1 bytes a v ≡ slice_set bytes a (v % 256)
unfolding stored
stored-1 bytes a v = refl

pub stored-2 : (bytes : List ℕ) (a v : ℕ) → stored 2 bytes a v ≡ slice_set (slice_set bytes a (v % 256)) (a + 1) (v / 256 % 256)
unfolding stored
stored-2 bytes a v = sets (sets refl (omega arith) (omega arith)) (omega arith) (omega arith)

pub stored-4 : (bytes : List ℕ) (a v : ℕ) → stored 4 bytes a v ≡ slice_set (slice_set (slice_set (slice_set bytes a (v % 256)) (a + 1) (v / 256 % 256)) (a + 2) (v / 65536 % 256)) (a + 3) (v / 16777216 % 256)
unfolding stored
stored-4 bytes a v = sets (sets (sets (sets refl (omega arith) (omega arith)) (omega arith) (omega arith)) (omega arith) (omega arith)) (omega arith) (omega arith)

pub stored-8 : (bytes : List ℕ) (a v : ℕ) → stored 8 bytes a v ≡ slice_set (slice_set (slice_set (slice_set (slice_set (slice_set (slice_set (slice_set bytes a (v % 256)) (a + 1) (v / 256 % 256)) (a + 2) (v / 65536 % 256)) (a + 3) (v / 16777216 % 256)) (a + 4) (v / 4294967296 % 256)) (a + 5) (v / 1099511627776 % 256)) (a + 6) (v / 281474976710656 % 256)) (a + 7) (v / 72057594037927936 % 256)
unfolding stored
stored-8 bytes a v = sets (sets (sets (sets (sets (sets (sets (sets refl (omega arith) (omega arith)) (omega arith) (omega arith)) (omega arith) (omega arith)) (omega arith) (omega arith)) (omega arith) (omega arith)) (omega arith) (omega arith)) (omega arith) (omega arith)) (omega arith) (omega arith)

-- Zeroing, one byte more at the end

pub zeroed-more : (n : ℕ) (bytes : List ℕ) (a : ℕ) → zeroed (suc n) bytes a ≡ slice_set (zeroed n bytes a) (a + n) 0
unfolding zeroed
zeroed-more zero bytes a = ap (λ k. slice_set bytes k 0) (omega arith)
zeroed-more (suc n) bytes a = zeroed-more n (slice_set bytes a 0) (a + 1) ∙ ap (λ k. slice_set (zeroed n (slice_set bytes a 0) (a + 1)) k 0) (omega arith)

-- Moving, one byte more at the end or before the start

bytes_at-more : (n : ℕ) (bytes : List ℕ) (a : ℕ) → bytes_at (suc n) bytes a ≡ bytes_at n bytes a ++ slice_index bytes (a + n) ∷ []
unfolding bytes_at
bytes_at-more zero bytes a = ap (λ k. slice_index bytes k ∷ []) (omega arith)
bytes_at-more (suc n) bytes a =
    ap (λ l. slice_index bytes a ∷ l) (bytes_at-more n bytes (a + 1) ∙ ap (λ k. bytes_at n bytes (a + 1) ++ slice_index bytes k ∷ []) (omega arith))

pub written-more : (new bytes : List ℕ) (a b : ℕ) → written (new ++ b ∷ []) bytes a ≡ slice_set (written new bytes a) (a + length new) b
unfolding written
written-more [] bytes a b = ap (λ k. slice_set bytes k b) (omega arith)
written-more (x ∷ new) bytes a b =
    written-more new (slice_set bytes a x) (a + 1) b ∙ ap (λ k. slice_set (written new (slice_set bytes a x) (a + 1)) k b) (omega arith)

set-set_apart : (bytes : List ℕ) (i j x y : ℕ) → i < j → slice_set (slice_set bytes i x) j y ≡ slice_set (slice_set bytes j y) i x
set-set_apart [] i j x y h = refl
set-set_apart (b ∷ bytes) i zero x y h = absurd (omega arith)
set-set_apart (b ∷ bytes) zero (suc j) x y h = refl
set-set_apart (b ∷ bytes) (suc i) (suc j) x y h = ap (λ l. b ∷ l) (set-set_apart bytes i j x y (omega arith))

written-set_before : (new bytes : List ℕ) (a i x : ℕ) → i < a → written new (slice_set bytes i x) a ≡ slice_set (written new bytes a) i x
unfolding written
written-set_before [] bytes a i x h = refl
written-set_before (b ∷ new) bytes a i x h =
    ap (λ l. written new l (a + 1)) (set-set_apart bytes i a x b h) ∙ written-set_before new (slice_set bytes a b) (a + 1) i x (omega arith)

-- going up: the byte that is read next stands at or after those that were written
pub moved-up : (n : ℕ) (bytes : List ℕ) (to from : ℕ) → to ≤ from → moved (suc n) bytes to from ≡ slice_set (moved n bytes to from) (to + n) (slice_index (moved n bytes to from) (from + n))
moved-up n bytes to from h =
    let e : length (bytes_at n bytes from) ≡ n = length-bytes_at n bytes from in
    ap (λ l. written l bytes to) (bytes_at-more n bytes from)
    ∙ (written-more (bytes_at n bytes from) bytes to (slice_index bytes (from + n))
    ∙ sets refl (omega (arith, e)) (sym (get-written_other (bytes_at n bytes from) bytes to (from + n) (inr (omega (arith, e, h))))))

-- going down: the byte that is read next stands before those that were written
pub moved-down : (n : ℕ) (bytes : List ℕ) (to from : ℕ) → from ≤ to → moved (suc n) bytes to from ≡ slice_set (moved n bytes (to + 1) (from + 1)) to (slice_index (moved n bytes (to + 1) (from + 1)) from)
unfolding bytes_at written
moved-down n bytes to from h =
    written-set_before (bytes_at n bytes (from + 1)) bytes (to + 1) to (slice_index bytes from) (omega arith)
    ∙ sets refl refl (sym (get-written_other (bytes_at n bytes (from + 1)) bytes (to + 1) from (inl (omega (arith, h)))))

-- The loops that zero and move, at their start and after one byte more

pub zeroed-start : (bytes : List ℕ) (a : ℕ) → bytes ≡ zeroed (a - a) bytes a
unfolding zeroed
zeroed-start bytes a = let none : 0 ≡ a - a = omega arith in ap (λ k. zeroed k bytes a) none

pub zeroed-next : (now bytes : List ℕ) (a i : ℕ) → now ≡ zeroed (i - a) bytes a → a ≤ i → slice_set now i 0 ≡ zeroed (i + 1 - a) bytes a
zeroed-next now bytes a i is low =
    let more : suc (i - a) ≡ i + 1 - a = omega arith in
    sets is (omega arith) refl ∙ (sym (zeroed-more (i - a) bytes a) ∙ ap (λ k. zeroed k bytes a) more)

pub moved-none : (bytes : List ℕ) (to from : ℕ) → bytes ≡ moved 0 bytes to from
unfolding bytes_at written
moved-none bytes to from = refl

pub moved-next : (now bytes : List ℕ) (to from i : ℕ) → now ≡ moved i bytes to from → to ≤ from → slice_set now (to + i) (slice_index now (from + i)) ≡ moved (i + 1) bytes to from
moved-next now bytes to from i is down =
    let more : suc i ≡ i + 1 = omega arith in
    sets is refl (ap (λ l. slice_index l (from + i)) is) ∙ (sym (moved-up i bytes to from down) ∙ ap (λ k. moved k bytes to from) more)

moved-same : (n : ℕ) (bytes : List ℕ) {to from t f : ℕ} → to ≡ t → from ≡ f → moved n bytes to from ≡ moved n bytes t f
moved-same n bytes {to = to} {from = from} {t = t} {f = f} d e = ap (λ k. moved n bytes k from) d ∙ ap (moved n bytes t) e

pub moved-none_up : (n : ℕ) (bytes : List ℕ) (to from : ℕ) → bytes ≡ moved (n - n) bytes to from
moved-none_up n bytes to from = let none : 0 ≡ n - n = omega arith in moved-none bytes to from ∙ ap (λ k. moved k bytes to from) none

pub moved-next_up : (now bytes : List ℕ) (to from n i : ℕ) → now ≡ moved (n - i) bytes (to + i) (from + i) → from ≤ to → 0 < i → i ≤ n → slice_set now (to + (i - 1)) (slice_index now (from + (i - 1))) ≡ moved (n - (i - 1)) bytes (to + (i - 1)) (from + (i - 1))
moved-next_up now bytes to from n i is up low high =
    let more : suc (n - i) ≡ n - (i - 1) = omega arith in
    let here : now ≡ moved (n - i) bytes (to + (i - 1) + 1) (from + (i - 1) + 1) = is ∙ moved-same (n - i) bytes (omega arith) (omega arith) in
    sets here refl (ap (λ l. slice_index l (from + (i - 1))) here)
    ∙ (sym (moved-down (n - i) bytes (to + (i - 1)) (from + (i - 1)) (omega arith)) ∙ ap (λ k. moved k bytes (to + (i - 1)) (from + (i - 1))) more)
