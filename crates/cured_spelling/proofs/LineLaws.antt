-- Lines are told apart by their text.
use Rattle.std.proofs.Common.{ℕ, ◌<◌, List, [], ◌∷◌, ◌++◌, ◌≡◌, ◌∙◌, map, length, ap, append_assoc, refl, sym, arith}
use Rattle.std.proofs.lemmas.List.{length-map}
use Rattle.std.specs.Prelude.{flat_map}
use Rattle.std.specs.List.{AllByRecursion as Each}
use Rattle.cured_spelling.specs.Lines.{Field, Line, field_text, fields_text, words_text, line_text}
use Rattle.cured_spelling.specs.InRange.{IsFieldInRange, AreLinesInRange}
use Rattle.cured_spelling.proofs.Writings.{writings, IsWritten}
use Rattle.cured_spelling.proofs.Cuts.{cons_head, cons_tail, each-append, AreAbove, ended, ended_told}
use Rattle.cured_spelling.proofs.FieldLaws.{field-above, fields-above, fields_told}

-- with a space after it, a line's words have one each
words-ended : (name : List ℕ) (fs : List Field) → (name ++ fields_text fs) ++ (32 ∷ []) ≡ ended 32 (name ∷ map field_text fs)
words-ended name [] = rw (append_assoc name [] (32 ∷ [])) (ap (λ l. l) (sym (append_assoc name (32 ∷ []) [])))
words-ended name (f ∷ fs) =
    append_assoc name (32 ∷ (field_text f ++ fields_text fs)) (32 ∷ [])
    ∙ ap (λ l. name ++ (32 ∷ l)) (words-ended (field_text f) fs)
    ∙ sym (append_assoc name (32 ∷ []) (ended 32 (field_text f ∷ map field_text fs)))

pub above-less : (bytes : List ℕ) → AreAbove 32 bytes → AreAbove 10 bytes
above-less [] h = tt
above-less (b ∷ bytes) h = (omega (arith, h.0), above-less bytes h.1)

pub fields-no_feed : (fs : List Field) → Each IsFieldInRange fs → AreAbove 10 (fields_text fs)
fields-no_feed [] h = tt
fields-no_feed (f ∷ fs) h = (
  omega arith,
  each-append (λ byte. 10 < byte) (field_text f) (fields_text fs)
      (above-less (field_text f) (field-above f h.0)) (fields-no_feed fs h.1),
)

same-line : (l m : Line) → l.name ≡ m.name → l.fields ≡ m.fields → l ≡ m
same-line l m n f = ap (λ x. record { name = x; fields = l.fields }) n ∙ ap (λ x. record { name = m.name; fields = x }) f

-- lines with the same words are the same
pub line_told : (l m : Line) → IsWritten l → IsWritten m → Each IsFieldInRange l.fields → Each IsFieldInRange m.fields
    → words_text l ≡ words_text m → l ≡ m
line_told l m v w p q e =
    let words : l.name ∷ map field_text l.fields ≡ m.name ∷ map field_text m.fields =
    ended_told 32 (l.name ∷ map field_text l.fields) (m.name ∷ map field_text m.fields)
    (v.name, fields-above l.fields p) (w.name, fields-above m.fields q)
    (sym (words-ended l.name l.fields) ∙ ap (λ t. t ++ (32 ∷ [])) e ∙ words-ended m.name m.fields) in
    let names = cons_head words in
    let texts = cons_tail words in
    let sizes : length l.fields ≡ length m.fields = sym (length-map l.fields field_text) ∙ ap length texts ∙ length-map m.fields field_text in
    same-line l m names (fields_told l.fields m.fields
    (v.fields ∙ ap (λ n. writings n (length l.fields)) names ∙ ap (writings m.name) sizes ∙ sym w.fields) p q texts)

lines-ended : (ls : List Line) → flat_map line_text ls ≡ ended 10 (map words_text ls)
lines-ended [] = refl
lines-ended (l ∷ ls) = ap (λ t. line_text l ++ t) (lines-ended ls)

pub words-no_feed : (ls : List Line) → Each IsWritten ls → AreLinesInRange ls → Each (AreAbove 10) (map words_text ls)
words-no_feed [] w p = tt
words-no_feed (l ∷ ls) w p = (
  each-append (λ byte. 10 < byte) l.name (fields_text l.fields) (above-less l.name w.0.name) (fields-no_feed l.fields p.0),
  words-no_feed ls w.1 p.1,
)

each-line_told : (ls ms : List Line) → Each IsWritten ls → Each IsWritten ms → AreLinesInRange ls → AreLinesInRange ms
    → map words_text ls ≡ map words_text ms → ls ≡ ms
each-line_told [] [] v w p q e = refl
each-line_told [] (m ∷ ms) v w p q e = cc
each-line_told (l ∷ ls) [] v w p q e = cc
each-line_told (l ∷ ls) (m ∷ ms) v w p q e =
    ap (λ x. x ∷ ls) (line_told l m v.0 w.0 p.0 q.0 (cons_head e))
    ∙ ap (λ x. m ∷ x) (each-line_told ls ms v.1 w.1 p.1 q.1 (cons_tail e))

-- a text is that of one list of lines
pub lines_told : (ls ms : List Line) → Each IsWritten ls → Each IsWritten ms → AreLinesInRange ls → AreLinesInRange ms
    → flat_map line_text ls ≡ flat_map line_text ms → ls ≡ ms
lines_told ls ms v w p q e =
    each-line_told ls ms v w p q
    (ended_told 10 (map words_text ls) (map words_text ms)
    (words-no_feed ls v p) (words-no_feed ms w q) (sym (lines-ended ls) ∙ e ∙ lines-ended ms))
