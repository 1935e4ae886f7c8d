-- Words and lines, as the reader cuts them and as they are written.
use Rattle.std.proofs.Common.{ℕ, suc, ◌+◌, ◌<◌, ◌≤◌, ◌≡◌, ◌≢◌, ◌∙◌, Bool, true, false, List, [], ◌∷◌, ◌++◌, length, drop, take, get_or, cond, ap, refl, sym, subst, arith, append_assoc, drop-cons}
use Rattle.std.specs.Prelude.{nat_eq, codes, flat_map}
use Rattle.std.specs.List.{AllByRecursion as Each}
use Rattle.std.specs.Fmt.{decimal}
use Rattle.std.specs.Str.{bytes_eq}
use Rattle.std.proofs.lemmas.Bool.{false≢true}
use Rattle.std.proofs.lemmas.Bool.Decides.{nat_tests}
use Rattle.std.proofs.lemmas.Fmt.{decimal_is_IsNumeral}
use Rattle.std.proofs.lemmas.List.{drop-drop, length-take-le}
use Rattle.std.proofs.lemmas.Slice.Eq.{bytes_eq-Decides}
use Rattle.cc_base.specs.declared.fault.Check.{Check}
use Rattle.cc_base.specs.declared.fault.Check.TheVariants as check
use Rattle.cc_base.specs.Names.{check_name}
use Rattle.cured_code.specs.declared.instr.Narrow.{Narrow}
use Rattle.cured_code.specs.declared.instr.Narrow.TheVariants.{S8, S16, S32, U8, U16, U32}
use Rattle.cured_spelling.specs.Lines.{Field, Number, Form, Name, Tag, Hex, Line, form_text, tag_text, field_text, fields_text, words_text, line_text}
use Rattle.cured_spelling.specs.InRange.{IsFieldInRange}
use Rattle.cured_spelling.proofs.Cuts.{cons_head, cons_tail, AreAbove}
use Rattle.cured_spelling.proofs.FieldLaws.{field-above}
use Rattle.cured_reading.specs.Parts.{size_before, before, Holds, IsLineAt, IsWordAt, IsWithout, EndsWord, IsWordBefore}
use Rattle.cured_reading.specs.Refusals.{any_field, LacksFields}
use Rattle.cured_reading.proofs.BeforeLaws.{size_before-le}

-- The reader's cuts

without-step : (b x : ℕ) (xs : List ℕ) (t : Bool) → nat_eq x b ≡ t → IsWithout b (before b xs)
    → IsWithout b (take (cond t 0 (suc (size_before b xs))) (x ∷ xs))
without-step b x xs true e ih = tt
without-step b x xs false e ih = let apart : x ≢ b = grind (arith, nat_tests, e) in (apart, ih)

-- the bytes before the first b
pub before-without : (b : ℕ) (xs : List ℕ) → IsWithout b (before b xs)
before-without b [] = tt
before-without b (x ∷ xs) = without-step b x xs (nat_eq x b) refl (before-without b xs)

none-step : (b x : ℕ) (xs : List ℕ) (t : Bool) → nat_eq x b ≡ t → ((size_before b xs < length xs → ⊥) → IsWithout b xs)
    → (cond t 0 (suc (size_before b xs)) < suc (length xs) → ⊥) → IsWithout b (x ∷ xs)
none-step b x xs true e ih h = absurd (h (omega arith))
none-step b x xs false e ih h = let apart : x ≢ b = grind (arith, nat_tests, e) in (apart, ih (λ lt. h (omega (arith, lt))))

pub none-without : (b : ℕ) (xs : List ℕ) → (Holds b xs → ⊥) → IsWithout b xs
none-without b [] h = tt
none-without b (x ∷ xs) h = none-step b x xs (nat_eq x b) refl (none-without b xs) h

ends-step : (x : ℕ) (xs : List ℕ) (t : Bool) → nat_eq x 32 ≡ t → EndsWord (drop (size_before 32 xs) xs)
    → EndsWord (drop (cond t 0 (suc (size_before 32 xs))) (x ∷ xs))
ends-step x xs true e ih = let same : x ≡ 32 = grind (arith, nat_tests, e) in same
ends-step x xs false e ih = ih

-- a word ends at the first space
ends-after : (xs : List ℕ) → EndsWord (drop (size_before 32 xs) xs)
ends-after [] = tt
ends-after (x ∷ xs) = ends-step x xs (nat_eq x 32) refl (ends-after xs)

-- the word at a place, and what comes after it
pub word-before : (line part : List ℕ) (at after : ℕ) → IsWordAt line at part after → IsWordBefore part (drop (at + length part) line)
word-before line part at after w =
    let size : length part ≡ size_before 32 (drop at line) = ap length w.bytes
    ∙ length-take-le (size_before 32 (drop at line)) (drop at line) (size_before-le 32 (drop at line)) in
    let some = w.some in
    let place : at + size_before 32 (drop at line) ≡ at + length part = omega (arith, size) in
    record {
      some = omega (arith, size, some);
      whole = subst (IsWithout 32) (sym w.bytes) (before-without 32 (drop at line));
      ends = subst EndsWord (drop-drop (size_before 32 (drop at line)) at line ∙ ap (λ n. drop n line) place) (ends-after (drop at line));
    }

-- Lists that are cut at the first byte that is no part of a word or a line

pub words-cut : (v w r s : List ℕ) → IsWithout 32 v → IsWithout 32 w → EndsWord r → EndsWord s → v ++ r ≡ w ++ s → (v ≡ w) × (r ≡ s)
words-cut [] [] r s f g h k e = (refl, e)
words-cut [] (y ∷ w) [] s f g h k e = (cc, cc)
words-cut [] (y ∷ w) (x ∷ r) s f g h k e = absurd (g.0 (sym (cons_head e) ∙ h))
words-cut (x ∷ v) [] r [] f g h k e = (cc, cc)
words-cut (x ∷ v) [] r (y ∷ s) f g h k e = absurd (f.0 (cons_head e ∙ k))
words-cut (x ∷ v) (y ∷ w) r s f g h k e =
    let rest = words-cut v w r s f.1 g.1 h k (cons_tail e) in
    (ap (λ z. z ∷ v) (cons_head e) ∙ ap (λ l. y ∷ l) rest.0, rest.1)

pub lines-cut : (v w r s : List ℕ) → IsWithout 10 v → IsWithout 10 w → v ++ (10 ∷ r) ≡ w ++ (10 ∷ s) → (v ≡ w) × (r ≡ s)
lines-cut [] [] r s f g e = (refl, cons_tail e)
lines-cut [] (y ∷ w) r s f g e = absurd (g.0 (sym (cons_head e)))
lines-cut (x ∷ v) [] r s f g e = absurd (f.0 (cons_head e))
lines-cut (x ∷ v) (y ∷ w) r s f g e =
    let rest = lines-cut v w r s f.1 g.1 (cons_tail e) in
    (ap (λ z. z ∷ v) (cons_head e) ∙ ap (λ l. y ∷ l) rest.0, rest.1)

-- what has a line feed isn't without one
pub feed-held : (text w r : List ℕ) → IsWithout 10 text → text ≡ w ++ (10 ∷ r) → ⊥
feed-held [] [] r f e = cc
feed-held [] (y ∷ w) r f e = cc
feed-held (x ∷ text) [] r f e = f.0 (cons_head e)
feed-held (x ∷ text) (y ∷ w) r f e = feed-held text w r f.1 (cons_tail e)

-- a word that begins isn't one that could end
pub word-begins : (word rest after : List ℕ) → 0 < length word → IsWithout 32 word → EndsWord after → after ≡ word ++ rest → ⊥
word-begins [] rest after n f h e = omega arith
word-begins (x ∷ word) rest [] n f h e = cc
word-begins (x ∷ word) rest (y ∷ after) n f h e = f.0 (sym (cons_head e) ∙ h)

-- bytes that differ by a test are not the same
pub different : (xs ys : List ℕ) → false ≡ bytes_eq xs ys → xs ≡ ys → ⊥
different xs ys e h = false≢true (e ∙ (bytes_eq-Decides xs ys).1 h)

-- The words of lines as they are written

pub above-without : (b : ℕ) (bytes : List ℕ) → AreAbove b bytes → IsWithout b bytes
above-without b [] h = tt
above-without b (x ∷ bytes) h = (λ e. let lt : b < x = h.0 in omega (arith, lt, e), above-without b bytes h.1)

pub field-without : (f : Field) → IsFieldInRange f → IsWithout 32 (field_text f)
field-without f h = above-without 32 (field_text f) (field-above f h)

form-some : (form : Narrow) → 0 < length (form_text form)
form-some S8 = omega arith
form-some S16 = omega arith
form-some S32 = omega arith
form-some U8 = omega arith
form-some U16 = omega arith
form-some U32 = omega arith

check-some : (c : Check) → 0 < length (check_name c)
check-some check.Null = omega arith
check-some check.Bounds = omega arith
check-some check.Wbounds = omega arith
check-some check.Base = omega arith
check-some check.Range = omega arith
check-some check.Tag = omega arith
check-some check.Align = omega arith
check-some check.Cast = omega arith
check-some check.Escape = omega arith
check-some check.Fun = omega arith
check-some check.Same = omega arith
check-some check.Divide = omega arith
check-some check.Depth = omega arith

tag-some : (tagged : Bool) → 0 < length (tag_text tagged)
tag-some true = omega arith
tag-some false = omega arith

-- a field has a byte
pub field-some : (f : Field) → IsFieldInRange f → 0 < length (field_text f)
field-some (Number n) h = (decimal_is_IsNumeral n h).0.0
field-some (Form form) h = form-some form
field-some (Name c) h = check-some c
field-some (Tag tagged) h = tag-some tagged
field-some (Hex []) h = omega arith
field-some (Hex (byte ∷ bytes)) h = omega arith

-- a word may end before fields
pub fields-end : (fs : List Field) → EndsWord (fields_text fs)
fields-end [] = tt
fields-end (f ∷ fs) = refl

-- what comes after a field is the same, whichever way the field is read
pub after-field : (bytes left : List ℕ) (f g : Field) (more : List Field) → IsFieldInRange f → IsFieldInRange g → EndsWord left
    → bytes ≡ 32 ∷ (field_text f ++ left) → bytes ≡ fields_text (g ∷ more) → left ≡ fields_text more
after-field bytes left f g more v w ends e h =
    (words-cut (field_text f) (field_text g) left (fields_text more) (field-without f v) (field-without g w) ends (fields-end more)
    (cons_tail (sym e ∙ h))).1

-- where a space and no word come, no field does
pub no-field : (line bytes : List ℕ) (at : ℕ) → at < length line → get_or line at 0 ≡ 32 → drop at line ≡ bytes → EndsWord (drop (at + 1) line)
    → LacksFields any_field bytes
no-field line bytes at lt space e ends =
    λ f more w h.
    let front : drop at line ≡ get_or line at 0 ∷ drop (suc at) line = drop-cons line at 0 lt in
    let same : at + 1 ≡ suc at = omega arith in
    word-begins (field_text f) (fields_text more) (drop (suc at) line) (field-some f w.0) (field-without f w.0)
    (subst (λ n. EndsWord (drop n line)) same ends) (cons_tail (sym front ∙ e ∙ h))
