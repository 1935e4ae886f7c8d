-- Fields are told apart by how they are written.
use Rattle.std.proofs.Common.{ℕ, zero, suc, ◌-◌, ◌/◌, ◌%◌, ◌<◌, Bool, true, false, List, [], ◌∷◌, ◌≡◌, ◌∙◌, map, ap, refl, sym, arith, below_more}
use Rattle.std.specs.Prelude.{nat_eq, nat_lt, flat_map, cond, codes}
use Rattle.std.specs.Fmt.{decimal}
use Rattle.std.specs.Str.{bytes_eq}
use Rattle.std.specs.Str.Parse.{AllDigits}
use Rattle.std.specs.List.{AllByRecursion as Each}
use Rattle.std.proofs.lemmas.Fmt.{decimal_injective, decimal_is_IsNumeral}
use Rattle.std.proofs.lemmas.Bool.Decides.{nat_tests}
use Rattle.std.proofs.lemmas.Str.Parse.{digit_from_value}
use Rattle.cc_base.specs.declared.fault.Check.{Check}
use Rattle.cc_base.specs.declared.fault.Check.TheVariants as check
use Rattle.cc_base.specs.Names.{check_name}
use Rattle.cured_code.specs.declared.instr.Narrow.{Narrow}
use Rattle.cured_code.specs.declared.instr.Narrow.TheVariants.{S8, S16, S32, U8, U16, U32}
use Rattle.cured_spelling.specs.Lines.{Field, Number, Form, Name, Tag, Hex, form_text, tag_text, hex_digit, hex_byte, hex_text, field_text}
use Rattle.cured_spelling.specs.InRange.{IsFieldInRange}
use Rattle.cured_spelling.proofs.Writings.{writing}
use Rattle.cured_spelling.proofs.Cuts.{cons_head, cons_tail, AreAbove}

-- Tests of all

abbrev pub are_above : List ℕ → Bool
are_above [] = true
are_above (b ∷ bytes) = cond (nat_lt 32 b) (are_above bytes) false

above-step : (b : ℕ) (bytes : List ℕ) (t : Bool) → nat_lt 32 b ≡ t → cond t (are_above bytes) false ≡ true
    → (are_above bytes ≡ true → AreAbove 32 bytes)
    → AreAbove 32 (b ∷ bytes)
above-step b bytes true e h k = (grind (arith, nat_tests, e), k h)
above-step b bytes false e h k = cc

pub above-tested : (bytes : List ℕ) → are_above bytes ≡ true → AreAbove 32 bytes
above-tested [] h = tt
above-tested (b ∷ bytes) h = above-step b bytes (nat_lt 32 b) refl h (above-tested bytes)

all_below : ℕ → (ℕ → Bool) → Bool
all_below zero test = true
all_below (suc m) test = cond (test m) (all_below m test) false

below-step : (m : ℕ) (test : ℕ → Bool) (t : Bool) → test m ≡ t → cond t (all_below m test) false ≡ true
    → (all_below m test ≡ true → (k : ℕ) → k < m → test k ≡ true)
    → (k : ℕ) → k < suc m → test k ≡ true
below-step m test true e h f k lt = below_more (λ j. test j ≡ true) m (f h) e k (omega arith)
below-step m test false e h f k lt = cc

below-tested : (m : ℕ) (test : ℕ → Bool) → all_below m test ≡ true → (k : ℕ) → k < m → test k ≡ true
unfolding all_below
below-tested zero test h k lt = absurd (omega arith)
below-tested (suc m) test h k lt = below-step m test (test m) refl h (below-tested m test) k lt

-- Hexadecimal digits

digit_value : ℕ → ℕ
digit_value c = cond (bytes_eq (c / 97 ∷ []) (0 ∷ [])) (c - 48) (c - 87)

-- a digit is read back, and is above a space
is_read : ℕ → Bool
is_read n = cond (nat_eq (digit_value (hex_digit n)) n) (nat_lt 32 (hex_digit n)) false

read-tested : (n : ℕ) (s t : Bool) → nat_eq (digit_value (hex_digit n)) n ≡ s → nat_lt 32 (hex_digit n) ≡ t → cond s t false ≡ true
    → (digit_value (hex_digit n) ≡ n) × (32 < hex_digit n)
read-tested n true true e f h = (grind (arith, nat_tests, e), grind (arith, nat_tests, f))
read-tested n true false e f h = cc
read-tested n false t e f h = cc

digit-read : (n : ℕ) → n < 16 → (digit_value (hex_digit n) ≡ n) × (32 < hex_digit n)
unfolding is_read all_below digit_value
digit-read n h =
    read-tested n (nat_eq (digit_value (hex_digit n)) n) (nat_lt 32 (hex_digit n)) refl refl (below-tested 16 is_read refl n h)

digit_told : (m n : ℕ) → m < 16 → n < 16 → hex_digit m ≡ hex_digit n → m ≡ n
digit_told m n p q e = sym (digit-read m p).0 ∙ ap digit_value e ∙ (digit-read n q).0

bytes_told : (ks ls : List ℕ) → Each (λ byte. byte < 256) ks → Each (λ byte. byte < 256) ls → flat_map hex_byte ks ≡ flat_map hex_byte ls → ks ≡ ls
bytes_told [] [] f g e = refl
bytes_told [] (b ∷ ls) f g e = cc
bytes_told (a ∷ ks) [] f g e = cc
bytes_told (a ∷ ks) (b ∷ ls) f g e =
    let after_high = cons_tail e in
    let high = digit_told (a / 16) (b / 16) (omega (arith, f.0)) (omega (arith, g.0)) (cons_head e) in
    let low = digit_told (a % 16) (b % 16) (omega arith) (omega arith) (cons_head after_high) in
    let rest = bytes_told ks ls f.1 g.1 (cons_tail after_high) in
    let same : a ≡ b = omega (arith, high, low) in
    ap (λ n. n ∷ ks) same ∙ ap (λ l. b ∷ l) rest

hex_told : (ks ls : List ℕ) → Each (λ byte. byte < 256) ks → Each (λ byte. byte < 256) ls → hex_text ks ≡ hex_text ls → ks ≡ ls
hex_told [] [] f g e = refl
hex_told [] (b ∷ ls) f g e = cc
hex_told (a ∷ ks) [] f g e = cc
hex_told (a ∷ ks) (b ∷ ls) f g e = bytes_told (a ∷ ks) (b ∷ ls) f g e

bytes-above : (bytes : List ℕ) → Each (λ byte. byte < 256) bytes → AreAbove 32 (flat_map hex_byte bytes)
bytes-above [] f = tt
bytes-above (a ∷ ks) f = ((digit-read (a / 16) (omega (arith, f.0))).1, ((digit-read (a % 16) (omega arith)).1, bytes-above ks f.1))

hex-above : (bytes : List ℕ) → Each (λ byte. byte < 256) bytes → AreAbove 32 (hex_text bytes)
hex-above [] f = (omega arith, tt)
hex-above (a ∷ ks) f = bytes-above (a ∷ ks) f

-- Numbers

digits-above : (ds : List ℕ) → AllDigits 10 ds → AreAbove 32 ds
digits-above [] d = tt
digits-above (c ∷ cs) d = (omega (arith, digit_from_value c d.0), digits-above cs d.1)

-- Words

form_of : List ℕ → Narrow
form_of text =
    cond (bytes_eq text (codes "s8")) S8
    (cond (bytes_eq text (codes "s16")) S16
    (cond (bytes_eq text (codes "s32")) S32
    (cond (bytes_eq text (codes "u8")) U8
    (cond (bytes_eq text (codes "u16")) U16
    (U32)))))

form-read : (form : Narrow) → form_of (form_text form) ≡ form
unfolding form_of
form-read S8 = refl
form-read S16 = refl
form-read S32 = refl
form-read U8 = refl
form-read U16 = refl
form-read U32 = refl

form-above : (form : Narrow) → AreAbove 32 (form_text form)
form-above S8 = above-tested (form_text S8) refl
form-above S16 = above-tested (form_text S16) refl
form-above S32 = above-tested (form_text S32) refl
form-above U8 = above-tested (form_text U8) refl
form-above U16 = above-tested (form_text U16) refl
form-above U32 = above-tested (form_text U32) refl

check_of : List ℕ → Check
check_of text =
    cond (bytes_eq text (codes "NULL")) check.Null
    (cond (bytes_eq text (codes "BOUNDS")) check.Bounds
    (cond (bytes_eq text (codes "WBOUNDS")) check.Wbounds
    (cond (bytes_eq text (codes "BASE")) check.Base
    (cond (bytes_eq text (codes "RANGE")) check.Range
    (cond (bytes_eq text (codes "TAG")) check.Tag
    (cond (bytes_eq text (codes "ALIGN")) check.Align
    (cond (bytes_eq text (codes "CAST")) check.Cast
    (cond (bytes_eq text (codes "ESCAPE")) check.Escape
    (cond (bytes_eq text (codes "FUN")) check.Fun
    (cond (bytes_eq text (codes "SAME")) check.Same
    (cond (bytes_eq text (codes "DIVIDE")) check.Divide
    (check.Depth))))))))))))

check-read : (c : Check) → check_of (check_name c) ≡ c
unfolding check_of
check-read check.Null = refl
check-read check.Bounds = refl
check-read check.Wbounds = refl
check-read check.Base = refl
check-read check.Range = refl
check-read check.Tag = refl
check-read check.Align = refl
check-read check.Cast = refl
check-read check.Escape = refl
check-read check.Fun = refl
check-read check.Same = refl
check-read check.Divide = refl
check-read check.Depth = refl

check-above : (c : Check) → AreAbove 32 (check_name c)
check-above check.Null = above-tested (check_name check.Null) refl
check-above check.Bounds = above-tested (check_name check.Bounds) refl
check-above check.Wbounds = above-tested (check_name check.Wbounds) refl
check-above check.Base = above-tested (check_name check.Base) refl
check-above check.Range = above-tested (check_name check.Range) refl
check-above check.Tag = above-tested (check_name check.Tag) refl
check-above check.Align = above-tested (check_name check.Align) refl
check-above check.Cast = above-tested (check_name check.Cast) refl
check-above check.Escape = above-tested (check_name check.Escape) refl
check-above check.Fun = above-tested (check_name check.Fun) refl
check-above check.Same = above-tested (check_name check.Same) refl
check-above check.Divide = above-tested (check_name check.Divide) refl
check-above check.Depth = above-tested (check_name check.Depth) refl

tag_told : (s t : Bool) → tag_text s ≡ tag_text t → s ≡ t
tag_told true true e = refl
tag_told false false e = refl
tag_told true false e = absurd (omega (arith, cons_head e))
tag_told false true e = absurd (omega (arith, cons_head e))

tag-above : (tagged : Bool) → AreAbove 32 (tag_text tagged)
tag-above true = above-tested (tag_text true) refl
tag-above false = above-tested (tag_text false) refl

-- Fields

pub field-above : (f : Field) → IsFieldInRange f → AreAbove 32 (field_text f)
field-above (Number n) h = digits-above (decimal n) (decimal_is_IsNumeral n h).0.1
field-above (Form form) h = form-above form
field-above (Name c) h = check-above c
field-above (Tag tagged) h = tag-above tagged
field-above (Hex bytes) h = hex-above bytes h

-- fields that are written in the same way, with the same text, are the same
pub field_told : (f g : Field) → writing f ≡ writing g → IsFieldInRange f → IsFieldInRange g → field_text f ≡ field_text g → f ≡ g
field_told (Number m) (Number n) w p q e = ap Number (decimal_injective m n p q e)
field_told (Form a) (Form b) w p q e = ap Form (sym (form-read a) ∙ ap form_of e ∙ form-read b)
field_told (Name a) (Name b) w p q e = ap Name (sym (check-read a) ∙ ap check_of e ∙ check-read b)
field_told (Tag a) (Tag b) w p q e = ap Tag (tag_told a b e)
field_told (Hex ks) (Hex ls) w p q e = ap Hex (hex_told ks ls p q e)
field_told f g w p q e = cc

pub fields-above : (fs : List Field) → Each IsFieldInRange fs → Each (AreAbove 32) (map field_text fs)
fields-above [] h = tt
fields-above (f ∷ fs) h = (field-above f h.0, fields-above fs h.1)

pub fields_told : (fs gs : List Field) → map writing fs ≡ map writing gs → Each IsFieldInRange fs → Each IsFieldInRange gs
    → map field_text fs ≡ map field_text gs → fs ≡ gs
fields_told [] [] w p q e = refl
fields_told [] (g ∷ gs) w p q e = cc
fields_told (f ∷ fs) [] w p q e = cc
fields_told (f ∷ fs) (g ∷ gs) w p q e =
    let head = field_told f g (cons_head w) p.0 q.0 (cons_head e) in
    let tail = fields_told fs gs (cons_tail w) p.1 q.1 (cons_tail e) in
    ap (λ x. x ∷ fs) head ∙ ap (λ l. g ∷ l) tail
