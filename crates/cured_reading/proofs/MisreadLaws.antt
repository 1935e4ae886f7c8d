-- What a line lacks that was read in part: its name, a field, or its end.
use Rattle.std.proofs.Common.{ℕ, ◌+◌, ◌<◌, List, [], ◌∷◌, ◌++◌, ◌≡◌, ◌≢◌, ◌∙◌, length, ap, subst, append_assoc, append-nil, refl, sym, arith}
use Rattle.std.specs.Prelude.{flat_map, map, ◌^◌}
use Rattle.std.specs.List.{AllByRecursion as Each}
use Rattle.std.specs.Fmt.{decimal}
use Rattle.cured_code.specs.declared.parts.AreaLine.{AreaLine}
use Rattle.cured_spelling.specs.Lines.{Field, Number, Tag, Hex, Line, line, tag_text, hex_text, field_text, fields_text, words_text, line_text}
use Rattle.cured_spelling.specs.InRange.{IsFieldInRange}
use Rattle.cured_spelling.proofs.Cuts.{cons_tail, each-append, AreAbove}
use Rattle.cured_spelling.proofs.LineLaws.{above-less, fields-no_feed}
use Rattle.cured_reading.specs.declared.wrong.CuredFault.TheVariants as fault
use Rattle.cured_reading.specs.declared.wrong.Form.TheVariants as form
use Rattle.cured_reading.specs.declared.wrong.Wrong.{Wrong}
use Rattle.cured_reading.specs.declared.wrong.Wrong.TheVariants as wrong
use Rattle.cured_reading.specs.Parts.{Left, IsWithout, EndsWord, IsWordBefore}
use Rattle.cured_reading.specs.Refusals.{fault_at, IsName, LacksName, LacksFields, IsMisread, two_numbers}
use Rattle.cured_reading.proofs.WordLaws.{words-cut, lines-cut, feed-held, word-begins, above-without, field-without, fields-end, after-field}

-- One field

-- the word of a field, and what comes after it
pub field-read : (bytes word left : List ℕ) (g : Field) (more : List Field) → IsWordBefore word left → IsFieldInRange g → bytes ≡ 32 ∷ (word ++ left)
    → bytes ≡ fields_text (g ∷ more) → (word ≡ field_text g) × (left ≡ fields_text more)
field-read bytes word left g more w k e h =
    words-cut word (field_text g) left (fields_text more) w.whole (field-without g k) w.ends (fields-end more) (cons_tail (sym e ∙ h))

-- two numbers, and what comes after them
pub after-two : (bytes left : List ℕ) (m n x y : ℕ) (more : List Field) → m < 2 ^ 64 → n < 2 ^ 64 → x < 2 ^ 64 → y < 2 ^ 64 → EndsWord left
    → bytes ≡ 32 ∷ (decimal m ++ (32 ∷ (decimal n ++ left))) → bytes ≡ fields_text (Number x ∷ Number y ∷ more) → left ≡ fields_text more
after-two bytes left m n x y more p q r s ends e h =
    let first = after-field bytes (32 ∷ (decimal n ++ left)) (Number m) (Number x) (Number y ∷ more) p r refl e h in
    after-field (32 ∷ (decimal n ++ left)) left (Number n) (Number y) more q s ends refl first

-- an area, and what comes after it
pub after-area : (bytes left : List ℕ) (a b : AreaLine) (more : List Field) → a.bytes < 2 ^ 64 → b.bytes < 2 ^ 64 → EndsWord left
    → bytes ≡ fields_text (Tag a.tagged ∷ Number a.bytes ∷ []) ++ left → bytes ≡ fields_text (Tag b.tagged ∷ Number b.bytes ∷ more)
    → left ≡ fields_text more
after-area bytes left a b more p q ends e h =
    let parts : bytes ≡ 32 ∷ (tag_text a.tagged ++ (32 ∷ (decimal a.bytes ++ left))) =
    e ∙ append_assoc (32 ∷ tag_text a.tagged) (32 ∷ (decimal a.bytes ++ [])) left
    ∙ ap (λ l. 32 ∷ (tag_text a.tagged ++ (32 ∷ l))) (append_assoc (decimal a.bytes) [] left) in
    let first = after-field bytes (32 ∷ (decimal a.bytes ++ left)) (Tag a.tagged) (Tag b.tagged) (Number b.bytes ∷ more) tt tt refl parts h in
    after-field (32 ∷ (decimal a.bytes ++ left)) left (Number a.bytes) (Number b.bytes) more p q ends refl first

-- A line

name-without : (name : List ℕ) → IsName name → IsWithout 32 name
name-without name is = above-without 32 name is.bytes

pub words-without : (l : Line) → AreAbove 32 l.name → Each IsFieldInRange l.fields → IsWithout 10 (words_text l)
words-without l above kept =
    above-without 10 (words_text l)
    (each-append (λ byte. 10 < byte) l.name (fields_text l.fields) (above-less l.name above) (fields-no_feed l.fields kept))

-- a text of a line alone has that line's words first
pub words-first : (l : Line) (fields text after rest : List ℕ) → AreAbove 32 l.name → Each IsFieldInRange l.fields → IsWithout 10 fields
    → text ≡ fields ++ (10 ∷ after) → text ≡ line_text l ++ rest → (fields ≡ words_text l) × (after ≡ rest)
words-first l fields text after rest above kept whole e h =
    lines-cut fields (words_text l) after rest whole (words-without l above kept) (sym e ∙ h ∙ append_assoc (words_text l) (10 ∷ []) rest)

-- no line is there
pub lineless : {A : Type 0} (of : A → Line) (a : Left) (why : Wrong) (n : ℕ) → (why ≡ wrong.Next) × IsWithout 10 a.text → n ≡ a.number → IsMisread of a why n
lineless of a why n none still = record {
  place = ap (λ w. fault_at w n) none.0 ∙ ap (λ m. fault.Form (m + 1) form.Syntax) still;
  none = λ x rest w e. feed-held a.text (words_text (of x)) rest none.1 (e ∙ append_assoc (words_text (of x)) (10 ∷ []) rest);
}

module _ {A : Type 0} (of : A → Line) (name : List ℕ) (is : IsName name) (named : (x : A) → (of x).name ≡ name) (a : Left) (fields after : List ℕ) (n : ℕ) (why : Wrong)
    (cut : a.text ≡ fields ++ (10 ∷ after)) (whole : IsWithout 10 fields) (counted : n ≡ a.number + 1) (syntax : why ≡ wrong.Form form.Syntax) where
  -- what is there is no such line
  pub misread : ((x : A) → Each IsFieldInRange (of x).fields → fields ≡ name ++ fields_text (of x).fields → ⊥) → IsMisread of a why n
  misread none = record {
    place = ap (λ w. fault_at w n) syntax ∙ ap (λ m. fault.Form m form.Syntax) counted;
    none = λ x rest w e.
        let above : AreAbove 32 (of x).name = subst (AreAbove 32) (sym (named x)) is.bytes in
        none x w ((words-first (of x) fields a.text after rest above w whole cut e).0 ∙ ap (λ l. l ++ fields_text (of x).fields) (named x));
  }

  -- it has another name
  pub misnamed : LacksName name fields → IsMisread of a why n
  misnamed lacks = misread (λ x w e. lacks (of x).fields e)

  -- its name is right, and what comes after it is no such fields
  pub misfielded : (left : List ℕ) → fields ≡ name ++ left → EndsWord left
      → ((x : A) → Each IsFieldInRange (of x).fields → left ≡ fields_text (of x).fields → ⊥)
      → IsMisread of a why n
  misfielded left e ends none =
      misread (λ x w h.
      none x w (words-cut name name left (fields_text (of x).fields) (name-without name is) (name-without name is) ends (fields-end (of x).fields) (sym e ∙ h)).1)

-- a name that is read is no other
pub another-name : (name word left : List ℕ) (bytes : List ℕ) → IsName name → IsWordBefore word left → bytes ≡ word ++ left → word ≢ name
    → LacksName name bytes
another-name name word left bytes is w e other =
    λ fields h. other (words-cut word name left (fields_text fields) w.whole (name-without name is) w.ends (fields-end fields) (sym e ∙ h)).0

-- where no word begins there is no name
pub no-name : (name bytes : List ℕ) → IsName name → EndsWord bytes → LacksName name bytes
no-name name bytes is ends = λ fields h. word-begins name (fields_text fields) bytes is.some (name-without name is) ends h

-- A line that was read to its end

pub line-from : (l : Line) (text fields left after : List ℕ) → text ≡ fields ++ (10 ∷ after) → fields ≡ l.name ++ left → left ≡ fields_text l.fields
    → text ≡ line_text l ++ after
line-from l text fields left after e f g =
    e ∙ ap (λ w. w ++ (10 ∷ after)) (f ∙ ap (λ w. l.name ++ w) g) ∙ sym (append_assoc (words_text l) (10 ∷ []) after)

pub whole-front : (fs : List Field) (left end : List ℕ) → left ≡ fields_text fs ++ end → end ≡ [] → left ≡ fields_text fs
whole-front fs left end e f = e ∙ ap (λ l. fields_text fs ++ l) f ∙ append-nil (fields_text fs)

-- the fields of a global
pub global-fields : (area : AreaLine) (first middle word end left : List ℕ) → left ≡ fields_text (Tag area.tagged ∷ Number area.bytes ∷ []) ++ middle
    → middle ≡ 32 ∷ (word ++ end) → hex_text first ≡ word → end ≡ [] → left ≡ fields_text (Tag area.tagged ∷ Number area.bytes ∷ Hex first ∷ [])
global-fields area first middle word end left e f g h =
    let tag = tag_text area.tagged in
    let size = decimal area.bytes in
    let last : middle ≡ 32 ∷ (hex_text first ++ []) = f ∙ ap (λ w. 32 ∷ (w ++ end)) (sym g) ∙ ap (λ l. 32 ∷ (hex_text first ++ l)) h in
    e ∙ append_assoc (32 ∷ tag) (32 ∷ (size ++ [])) middle ∙ ap (λ l. 32 ∷ (tag ++ (32 ∷ l))) (append_assoc size [] middle)
    ∙ ap (λ m. 32 ∷ (tag ++ (32 ∷ (size ++ m)))) last
