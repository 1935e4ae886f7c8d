-- The laws of slots: one or a row of them, written and read, and words in the byte list.
use Rattle.std.proofs.Common.{◌≡◌, ◌≢◌, ◌⊎◌, inl, ℕ, zero, suc, ◌+◌, ◌*◌, ◌^◌, ◌<◌, ◌≤◌, Bool, true, false, List, [], ◌∷◌, length, replicate, slice_index, slice_set, refl, ap, ◌∙◌, arith, nat_eq, if◌then◌else◌, get_or-set_other, get_or-set_same, length-set}
use Rattle.std.proofs.lemmas.Bool.Decides.{nat_tests}
use Rattle.flat_mem.specs.Bytes.{number, stored, bytes_at, written, AreBytes}
use Rattle.flat_mem.proofs.ByteLaws.{length-stored, get-stored_other, stored-bytes, number-stored, number-stored_apart, number-zeros, get-written_other, length-written}
use Rattle.cured_code.specs.FlatState.{Local, slot, with_slot, slots_at, with_slots, words_at, words_stored}
use Rattle.cured_code.specs.Straight.{with_value}

-- a slot that is set has its word
pub slot-same : (v n : ℕ) (c : Local) → v < length c.slots → slot (with_slot v n c) v ≡ n
slot-same v n c h = get_or-set_same c.slots v n 0 h

-- and the others stay
pub slot-other : (v n a : ℕ) (c : Local) → a ≢ v → slot (with_slot v n c) a ≡ slot c a
slot-other v n a c d = get_or-set_other c.slots v a n 0 (λ e. d e)

-- both at once
pub slot-with_slot : (v n : ℕ) (c : Local) (a : ℕ) → v < length c.slots → slot (with_slot v n c) a ≡ with_value v n (slot c) a
slot-with_slot v n c a h = by (nat_eq a v) refl
  where
    by : (b : Bool) → nat_eq a v ≡ b → slot (with_slot v n c) a ≡ (if b then n else slot c a)
    by true e = let f : a ≡ v = grind (arith, nat_tests) in ap (slot (with_slot v n c)) f ∙ slot-same v n c h
    by false e = slot-other v n a c (λ f. let g : nat_eq a v ≡ true = grind (arith, nat_tests) in absurd (cc (e, g)))

-- a row of slots is what its slots are
pub slots-same : (n a : ℕ) (xs ys : List ℕ) → ((j : ℕ) → j < n → slice_index ys (a + j) ≡ slice_index xs (a + j)) → bytes_at n ys a ≡ bytes_at n xs a
unfolding bytes_at
slots-same zero a xs ys h = refl
slots-same (suc n) a xs ys h =
    let here : slice_index ys a ≡ slice_index xs a = let e : a + 0 ≡ a = omega arith in ap (slice_index ys) (omega arith) ∙ h 0 (omega arith) ∙ ap (slice_index xs) e in
    ap (λ x. x ∷ bytes_at n ys (a + 1)) here
    ∙ ap (λ l. slice_index xs a ∷ l) (slots-same n (a + 1) xs ys (λ j k. let e : a + 1 + j ≡ a + suc j = omega arith in let f : a + suc j ≡ a + 1 + j = omega arith in ap (slice_index ys) e ∙ h (suc j) (omega arith) ∙ ap (slice_index xs) f))

-- a row that is written has its words
written-again : (words slots : List ℕ) (v : ℕ) → v + length words ≤ length slots → bytes_at (length words) (written words slots v) v ≡ words
unfolding bytes_at written
written-again [] slots v h = refl
written-again (w ∷ words) slots v h =
    let size = length-set slots v w in
    ap (λ x. x ∷ bytes_at (length words) (written words (slice_set slots v w) (v + 1)) (v + 1))
    (get-written_other words (slice_set slots v w) (v + 1) v (inl (omega arith)) ∙ get_or-set_same slots v w 0 (omega arith))
    ∙ ap (λ l. w ∷ l) (written-again words (slice_set slots v w) (v + 1) (omega (arith, size)))

pub slots-set : (v : ℕ) (words : List ℕ) (c : Local) → v + length words ≤ length c.slots → slots_at (length words) v (with_slots v words c) ≡ words
slots-set v words c h = written-again words c.slots v h

-- and the slots beside it stay
pub slot-set_other : (v : ℕ) (words : List ℕ) (c : Local) (a : ℕ) → (a < v) ⊎ (v + length words ≤ a) → slot (with_slots v words c) a ≡ slot c a
slot-set_other v words c a h = get-written_other words c.slots v a h

pub length-with_slots : (v : ℕ) (words : List ℕ) (c : Local) → length (with_slots v words c).slots ≡ length c.slots
length-with_slots v words c = length-written words c.slots v

-- Words in the byte list

pub length-words_stored : (words bytes : List ℕ) (at : ℕ) → length (words_stored words bytes at) ≡ length bytes
length-words_stored [] bytes at = refl
length-words_stored (w ∷ words) bytes at = length-words_stored words (stored 8 bytes at w) (at + 8) ∙ length-stored 8 bytes at w

pub words_stored-bytes : (words bytes : List ℕ) (at : ℕ) → AreBytes bytes → AreBytes (words_stored words bytes at)
words_stored-bytes [] bytes at are = are
words_stored-bytes (w ∷ words) bytes at are = words_stored-bytes words (stored 8 bytes at w) (at + 8) (stored-bytes 8 bytes at w are)

-- other bytes stay, and so numbers and words apart from those that are stored
pub get-words_stored_other : (words bytes : List ℕ) (at i : ℕ) → (i < at) ⊎ (at + 8 * length words ≤ i) → slice_index (words_stored words bytes at) i ≡ slice_index bytes i
get-words_stored_other [] bytes at i h = refl
get-words_stored_other (w ∷ words) bytes at i h = get-words_stored_other words (stored 8 bytes at w) (at + 8) i (grind arith) ∙ get-stored_other 8 bytes at w i (grind arith)

pub number-words_stored_apart : (m : ℕ) (words bytes : List ℕ) (at p : ℕ) → (p + m ≤ at) ⊎ (at + 8 * length words ≤ p) → number m (words_stored words bytes at) p ≡ number m bytes p
number-words_stored_apart m [] bytes at p h = refl
number-words_stored_apart m (w ∷ words) bytes at p h =
    number-words_stored_apart m words (stored 8 bytes at w) (at + 8) p (grind arith) ∙ number-stored_apart m 8 bytes at p w (grind arith)

pub words-words_stored_apart : (k : ℕ) (words bytes : List ℕ) (at p : ℕ) → (p + 8 * k ≤ at) ⊎ (at + 8 * length words ≤ p) → words_at k (words_stored words bytes at) p ≡ words_at k bytes p
words-words_stored_apart zero words bytes at p h = refl
words-words_stored_apart (suc k) words bytes at p h =
    ap (λ (x : ℕ). x ∷ words_at k (words_stored words bytes at) (p + 8)) (number-words_stored_apart 8 words bytes at p (grind arith))
    ∙ ap (λ (l : List ℕ). number 8 bytes p ∷ l) (words-words_stored_apart k words bytes at (p + 8) (grind arith))

-- each number is a word of 64 bits
abbrev pub AreWords : List ℕ → Type 0
AreWords [] = Unit {0}
AreWords (w ∷ words) = (w < 2 ^ 64) × AreWords words

-- words that were stored are read again
pub words-again : (words bytes : List ℕ) (at : ℕ) → AreWords words → at + 8 * length words ≤ length bytes → words_at (length words) (words_stored words bytes at) at ≡ words
words-again [] bytes at are h = refl
words-again (w ∷ words) bytes at are h =
    let size : length (stored 8 bytes at w) ≡ length bytes = length-stored 8 bytes at w in
    let here : number 8 (words_stored words (stored 8 bytes at w) (at + 8)) at ≡ w =
    number-words_stored_apart 8 words (stored 8 bytes at w) (at + 8) at (inl (omega arith)) ∙ number-stored 8 bytes at w (omega arith) are.0 in
    ap (λ (x : ℕ). x ∷ words_at (length words) (words_stored words (stored 8 bytes at w) (at + 8)) (at + 8)) here
    ∙ ap (λ (l : List ℕ). w ∷ l) (words-again words (stored 8 bytes at w) (at + 8) are.1 (omega (arith, size)))

-- words over zero bytes are zero
pub words-zero : (k : ℕ) (bytes : List ℕ) (p : ℕ) → ((i : ℕ) → i < 8 * k → slice_index bytes (p + i) ≡ 0) → words_at k bytes p ≡ replicate k 0
words-zero zero bytes p h = refl
words-zero (suc k) bytes p h =
    ap (λ (x : ℕ). x ∷ words_at k bytes (p + 8)) (number-zeros 8 bytes p (λ i l. h i (omega arith)))
    ∙ ap (λ (l : List ℕ). 0 ∷ l) (words-zero k bytes (p + 8) (λ i l. let e : p + 8 + i ≡ p + (8 + i) = omega arith in ap (slice_index bytes) e ∙ h (8 + i) (omega arith)))
