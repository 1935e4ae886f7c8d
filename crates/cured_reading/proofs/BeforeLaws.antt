-- The bytes before a byte.
use Rattle.std.proofs.Common.{ℕ, suc, ◌+◌, ◌<◌, ◌≤◌, ◌≡◌, ◌∙◌, Bool, true, false, List, [], ◌∷◌, ◌++◌, length, drop, get_or, ap, refl, sym, arith, drop-cons, add-one, IsTrue, ◌↔◌, length-drop}
use Rattle.std.specs.Prelude.{nat_eq}
use Rattle.std.proofs.lemmas.Bool.Decides.{nat_tests}
use Rattle.std.proofs.Math.Seq.{drop-length}
use Rattle.std.proofs.lemmas.List.{length-take-le, drop-drop}
use Rattle.cured_reading.specs.Parts.{size_before, before, Holds, IsLineAt}

-- it is not at a place that another byte stands at
pub passed : (b i : ℕ) (xs : List ℕ) → i < length xs → nat_eq (get_or xs i 0) b ≡ false
    → size_before b (drop i xs) ≡ 1 + size_before b (drop (i + 1) xs)
passed b i xs lt other = rw (add-one, drop-cons xs i 0, other) (omega arith)

pub stopped : (b i : ℕ) (xs : List ℕ) → i < length xs → nat_eq (get_or xs i 0) b ≡ true → size_before b (drop i xs) ≡ 0
stopped b i xs lt same = rw (drop-cons xs i 0, same) refl

split-step : (b x : ℕ) (xs : List ℕ) (t : Bool) → nat_eq x b ≡ t → (Holds b xs → xs ≡ before b xs ++ (b ∷ drop (suc (size_before b xs)) xs))
    → Holds b (x ∷ xs) → x ∷ xs ≡ before b (x ∷ xs) ++ (b ∷ drop (suc (size_before b (x ∷ xs))) (x ∷ xs))
split-step b x xs true e ih h = let same : x ≡ b = grind (arith, nat_tests, e) in rw e (ap (λ y. y ∷ xs) same)
split-step b x xs false e ih h = rw e (ap (λ l. x ∷ l) (ih (let g = rw e at h in omega (arith, g))))

-- where it stands, it comes right after them
pub split : (b : ℕ) (xs : List ℕ) → Holds b xs → xs ≡ before b xs ++ (b ∷ drop (suc (size_before b xs)) xs)
split b [] h = absurd (omega arith)
split b (x ∷ xs) h = split-step b x xs (nat_eq x b) refl (split b xs) h

-- a list in two parts
before-step : (b x : ℕ) (xs : List ℕ) (t : Bool) → nat_eq x b ≡ t → (before b xs ++ drop (size_before b xs) xs ≡ xs)
    → before b (x ∷ xs) ++ drop (size_before b (x ∷ xs)) (x ∷ xs) ≡ x ∷ xs
before-step b x xs true e ih = rw e refl
before-step b x xs false e ih = rw e (ap (λ l. x ∷ l) ih)

pub two-parts : (b : ℕ) (xs : List ℕ) → before b xs ++ drop (size_before b xs) xs ≡ xs
two-parts b [] = refl
two-parts b (x ∷ xs) = before-step b x xs (nat_eq x b) refl (two-parts b xs)

-- the line that begins at a place, and what comes after its line feed
pub line_read : (text part : List ℕ) (from after : ℕ) → IsLineAt text from part after → drop from text ≡ part ++ (10 ∷ drop after text)
line_read text part from after at =
    let n = size_before 10 (drop from text) in
    let next : drop (suc n) (drop from text) ≡ drop after text =
    drop-drop (suc n) from text ∙ ap (λ n. drop n text) (let place = at.place in omega arith) in
    rw at.bytes (split 10 (drop from text) at.ended ∙ ap (λ l. before 10 (drop from text) ++ (10 ∷ l)) next)

size-step : (b x : ℕ) (xs : List ℕ) (t : Bool) → nat_eq x b ≡ t → size_before b xs ≤ length xs → size_before b (x ∷ xs) ≤ length (x ∷ xs)
size-step b x xs true e ih = rw e (omega arith)
size-step b x xs false e ih = rw e (omega arith)

-- the size of the bytes before another is a size of the list's
pub size_before-le : (b : ℕ) (xs : List ℕ) → size_before b xs ≤ length xs
size_before-le b [] = omega arith
size_before-le b (x ∷ xs) = size-step b x xs (nat_eq x b) refl (size_before-le b xs)

-- the word that begins at a place, and what comes after it
pub word_read : (line part : List ℕ) (at after : ℕ) → part ≡ before 32 (drop at line) → after ≡ at + length part
    → drop at line ≡ part ++ drop after line
word_read line part at after e f =
    let size : length part ≡ size_before 32 (drop at line) = ap length e
    ∙ length-take-le (size_before 32 (drop at line)) (drop at line) (size_before-le 32 (drop at line)) in
    rw e (sym (two-parts 32 (drop at line)) ∙ ap (λ l. before 32 (drop at line) ++ l) (drop-drop (size_before 32 (drop at line)) at line
    ∙ ap (λ n. drop n line) (omega arith)))

pub ended-at : (text : List ℕ) (from : ℕ) → from ≤ length text → drop from text ≡ [] → from ≡ length text
ended-at text from h e = let n : length (drop from text) ≡ 0 = ap length e in omega (arith, n, length-drop from text)

-- nothing is left at the end alone
pub nothing_left : (text : List ℕ) (from : ℕ) → from ≤ length text → IsTrue (nat_eq from (length text)) ↔ (drop from text ≡ [])
nothing_left text from h = (
  (λ t. let e : from ≡ length text = grind (arith, nat_tests, t) in rw e (drop-length text)),
  (λ e. let same = ended-at text from h e in grind (arith, nat_tests, same)),
)
