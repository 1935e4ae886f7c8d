-- Lines of instructions that hold no others: what is wrong with one, and what one says.
use Rattle.std.proofs.Common.{ℕ, ◌+◌, ◌<◌, ◌≤◌, Bool, List, [], ◌∷◌, ◌++◌, ◌≡◌, ◌≢◌, ◌∙◌, length, map, ap, subst, append_assoc, append-nil, refl, sym, arith}
use Rattle.std.specs.Prelude.{codes, flat_map, ◌^◌}
use Rattle.std.specs.List.{AllByRecursion as Each}
use Rattle.std.specs.Fmt.{decimal}
use Rattle.cc_base.specs.declared.fault.Check.{Check}
use Rattle.cc_base.specs.Names.{check_name}
use Rattle.cured_code.specs.declared.instr.Narrow.{Narrow}
use Rattle.cured_code.specs.declared.instr.Instr.{Instr}
use Rattle.cured_code.specs.declared.instr.Instr.TheVariants as instr
use Rattle.cured_code.specs.Ranges.{Names, IsInstrInRange}
use Rattle.cured_spelling.specs.Lines.{Field, Number, Form, Name, Tag, Line, line, form_text, tag_text, field_text, fields_text}
use Rattle.cured_spelling.specs.Spelling.{line_of, lines_of}
use Rattle.cured_spelling.specs.InRange.{IsFieldInRange}
use Rattle.cured_spelling.proofs.Cuts.{cons_head, cons_tail}
use Rattle.cured_spelling.proofs.Heads.{first_line}
use Rattle.cured_reading.specs.declared.operation.Operation.{Operation}
use Rattle.cured_reading.specs.declared.operation.Operands.{Operands}
use Rattle.cured_reading.specs.declared.operation.Wide.{Wide}
use Rattle.cured_reading.specs.declared.operation.Format.{Format}
use Rattle.cured_reading.specs.declared.operation.Format.TheVariants.{One, Two, Three, Four, OneLong, TwoLong, ThreeLong, FourLong, Access}
use Rattle.cured_reading.specs.declared.wrong.Form.TheVariants as forms
use Rattle.cured_reading.specs.declared.wrong.Wrong.{Wrong}
use Rattle.cured_reading.specs.declared.wrong.Wrong.TheVariants as wrong
use Rattle.cured_reading.specs.Operations.{operation_name, format_of, made, numbers_of, wide_numbers_of, wide_fields, IsPadded}
use Rattle.cured_reading.specs.Parts.{EndsWord}
use Rattle.cured_reading.specs.Faults.{IsPlaceKept}
use Rattle.cured_reading.specs.Refusals.{IsFew, IsLineOf, IsBadLine, LacksFields, AreFieldsInRange, one_number, two_numbers, three_numbers}
use Rattle.cured_reading.proofs.WordLaws.{words-cut, field-without, fields-end, after-field}
use Rattle.cured_reading.proofs.MisreadLaws.{after-two}
use Rattle.cured_reading.proofs.OperationLaws.{made-lines}
use Rattle.cured_reading.proofs.InstrLaws.{ext-shape, new-shape, check-shape, made-shape, named-some, made-straight, AreSmall, small-operands}

pub after-three : (bytes left : List ℕ) (m n o x y z : ℕ) (more : List Field) → m < 2 ^ 64 → n < 2 ^ 64 → o < 2 ^ 64 → x < 2 ^ 64 → y < 2 ^ 64 → z < 2 ^ 64
    → EndsWord left → bytes ≡ 32 ∷ (decimal m ++ (32 ∷ (decimal n ++ (32 ∷ (decimal o ++ left)))))
    → bytes ≡ fields_text (Number x ∷ Number y ∷ Number z ∷ more)
    → left ≡ fields_text more
after-three bytes left m n o x y z more a b c d e f ends g h =
    let first = after-two bytes (32 ∷ (decimal o ++ left)) m n x y (Number z ∷ more) a b d e refl g h in
    after-field (32 ∷ (decimal o ++ left)) left (Number o) (Number z) more c f ends refl first

-- `ext`, `new` and `check`

module _ (names : Names) (bytes : List ℕ) where
  pub ext-none : ((v a : ℕ) (form : Narrow) → v < 2 ^ 64 → a < 2 ^ 64 → bytes ≡ fields_text (Number v ∷ Number a ∷ Form form ∷ []) → ⊥)
      → IsBadLine names (codes "ext") bytes (wrong.Form forms.Syntax)
  ext-none none = λ i l.
      let x = ext-shape i l.straight l.named in
      let k : IsLineOf (instr.Ext x.0 x.1 x.2) (codes "ext") bytes = subst (λ j. IsLineOf j (codes "ext") bytes) x.3 l in
      none x.0 x.1 x.2 k.writable.0 k.writable.1.0 k.spelled

  pub ext-line : (v a : ℕ) (form : Narrow) → v < 2 ^ 64 → a < 2 ^ 64 → bytes ≡ fields_text (Number v ∷ Number a ∷ Form form ∷ [])
      → IsLineOf (instr.Ext v a form) (codes "ext") bytes
  ext-line v a form p q e = record { straight = tt; writable = (p, (q, (tt, tt))); named = refl; spelled = e }

  pub ext-over : (v a : ℕ) (form : Narrow) → v < 2 ^ 64 → a < 2 ^ 64 → bytes ≡ fields_text (Number v ∷ Number a ∷ Form form ∷ []) → IsFew names
      → (v < 2 ^ 32 → a < 2 ^ 32 → ⊥) → IsBadLine names (codes "ext") bytes (wrong.Form forms.Range)
  ext-over v a form p q e few out =
      (instr.Ext v a form, ext-line v a form p q e, λ r. let s = few.slots in let x = r.0.0 in let y = r.0.1 in out (omega (arith, s, x)) (omega (arith, s, y)))

  pub new-none : ((tagged : Bool) (v n s : ℕ) → v < 2 ^ 64 → n < 2 ^ 64 → s < 2 ^ 64
      → bytes ≡ fields_text (Tag tagged ∷ Number v ∷ Number n ∷ Number s ∷ []) → ⊥)
      → IsBadLine names (codes "new") bytes (wrong.Form forms.Syntax)
  new-none none = λ i l.
      let x = new-shape i l.straight l.named in
      let k : IsLineOf (instr.New x.0 x.1 x.2 x.3) (codes "new") bytes = subst (λ j. IsLineOf j (codes "new") bytes) x.4 l in
      none x.0 x.1 x.2 x.3 k.writable.1.0 k.writable.1.1.0 k.writable.1.1.1.0 k.spelled

  pub new-line : (tagged : Bool) (v n s : ℕ) → v < 2 ^ 64 → n < 2 ^ 64 → s < 2 ^ 64
      → bytes ≡ fields_text (Tag tagged ∷ Number v ∷ Number n ∷ Number s ∷ [])
      → IsLineOf (instr.New tagged v n s) (codes "new") bytes
  new-line tagged v n s p q t e = record { straight = tt; writable = (tt, (p, (q, (t, tt)))); named = refl; spelled = e }

  pub new-over : (tagged : Bool) (v n s : ℕ) → v < 2 ^ 64 → n < 2 ^ 64 → s < 2 ^ 64
      → bytes ≡ fields_text (Tag tagged ∷ Number v ∷ Number n ∷ Number s ∷ []) → IsFew names
      → (v < 2 ^ 32 → n < 2 ^ 32 → s < 2 ^ 32 → ⊥) → IsBadLine names (codes "new") bytes (wrong.Form forms.Range)
  new-over tagged v n s p q t e few out = (
    instr.New tagged v n s,
    new-line tagged v n s p q t e,
    λ r. let w = few.slots in let x = r.0.0 in let y = r.0.1 in let z = r.0.2 in out (omega (arith, w, x)) (omega (arith, w, y)) (omega (arith, w, z)),
  )

  pub check-none : ((c : Check) (row col a : ℕ) → row < 2 ^ 64 → col < 2 ^ 64 → a < 2 ^ 64
      → bytes ≡ fields_text (Name c ∷ Number row ∷ Number col ∷ Number a ∷ []) → ⊥)
      → IsBadLine names (codes "check") bytes (wrong.Form forms.Syntax)
  check-none none = λ i l.
      let x = check-shape i l.straight l.named in
      let k : IsLineOf (instr.Check x.0 (record { line = x.1; col = x.2 }) x.3) (codes "check") bytes = subst (λ j. IsLineOf j (codes "check") bytes) x.4 l in
      none x.0 x.1 x.2 x.3 k.writable.1.0 k.writable.1.1.0 k.writable.1.1.1.0 k.spelled

  pub check-line : (c : Check) (row col a : ℕ) → row < 2 ^ 64 → col < 2 ^ 64 → a < 2 ^ 64
      → bytes ≡ fields_text (Name c ∷ Number row ∷ Number col ∷ Number a ∷ [])
      → IsLineOf (instr.Check c (record { line = row; col = col }) a) (codes "check") bytes
  check-line c row col a p q t e = record { straight = tt; writable = (tt, (p, (q, (t, tt)))); named = refl; spelled = e }

  pub check-over : (c : Check) (row col a : ℕ) → row < 2 ^ 64 → col < 2 ^ 64 → a < 2 ^ 64
      → bytes ≡ fields_text (Name c ∷ Number row ∷ Number col ∷ Number a ∷ []) → IsFew names
      → (row < 2 ^ 32 → col < 2 ^ 32 → a < 2 ^ 32 → ⊥) → IsBadLine names (codes "check") bytes (wrong.Form forms.Range)
  check-over c row col a p q t e few out = (
    instr.Check c (record { line = row; col = col }) a,
    check-line c row col a p q t e,
    λ r. let w = few.slots in let x = r.0 in out r.1.0 r.1.1 (omega (arith, w, x)),
  )

-- Operations

made-line : (o : Operation) (of : Operands) → line_of (made o of) ≡ line (operation_name o) (numbers_of (format_of o) of)
made-line o of = cons_head (sym (first_line (made o of)) ∙ made-lines o of)

-- the operands as they are read
abbrev pub wide_of : Operands → Wide
wide_of of = record { a = of.a; b = of.b; c = of.c; d = of.d; n = of.n }

abbrev pub operands_of : Wide → Operands
operands_of of = record { a = of.a; b = of.b; c = of.c; d = of.d; n = of.n }

same-wide : (f : Format) (of : Operands) → numbers_of f of ≡ wide_numbers_of f (wide_of of)
same-wide One of = refl
same-wide Two of = refl
same-wide Three of = refl
same-wide Four of = refl
same-wide OneLong of = refl
same-wide TwoLong of = refl
same-wide ThreeLong of = refl
same-wide FourLong of = refl
same-wide Access of = refl

pub same-length : (f : Format) (v w : Wide) → length (wide_fields f v) ≡ length (wide_fields f w)
same-length One v w = refl
same-length Two v w = refl
same-length Three v w = refl
same-length Four v w = refl
same-length OneLong v w = refl
same-length TwoLong v w = refl
same-length ThreeLong v w = refl
same-length FourLong v w = refl
same-length Access v w = refl

fields-append-end : (fs : List Field) (left : List ℕ) → EndsWord left → EndsWord (fields_text fs ++ left)
fields-append-end [] left h = h
fields-append-end (f ∷ fs) left h = refl

-- what comes after as many fields is the same, whichever way they are read
pub after-fields : (fs gs : List Field) (left rest : List ℕ) → length fs ≡ length gs → Each IsFieldInRange fs → Each IsFieldInRange gs → EndsWord left
    → EndsWord rest → fields_text fs ++ left ≡ fields_text gs ++ rest → left ≡ rest
after-fields [] [] left rest n v w p q e = e
after-fields [] (g ∷ gs) left rest n v w p q e = absurd (omega (arith, n))
after-fields (f ∷ fs) [] left rest n v w p q e = absurd (omega (arith, n))
after-fields (f ∷ fs) (g ∷ gs) left rest n v w p q e =
    let tails : field_text f ++ (fields_text fs ++ left) ≡ field_text g ++ (fields_text gs ++ rest) =
    sym (append_assoc (field_text f) (fields_text fs) left) ∙ cons_tail e ∙ append_assoc (field_text g) (fields_text gs) rest in
    let both = words-cut (field_text f) (field_text g) (fields_text fs ++ left) (fields_text gs ++ rest) (field-without f v.0) (field-without g w.0)
    (fields-append-end fs left p) (fields-append-end gs rest q) tails in
    after-fields fs gs left rest (omega (arith, n)) v.1 w.1 p q both.1

fields-of : (o : Operation) (of : Operands) → (line_of (made o of)).fields ≡ wide_fields (format_of o) (wide_of of)
fields-of o of = ap (λ l. l.fields) (made-line o of) ∙ ap (map Number) (same-wide (format_of o) of)

module _ (o : Operation) (bytes : List ℕ) where
  pub operation-line : (of : Operands) (wide : Wide) → wide_of of ≡ wide → AreFieldsInRange (wide_fields (format_of o) wide)
      → bytes ≡ fields_text (wide_fields (format_of o) wide)
      → IsLineOf (made o of) (operation_name o) bytes
  operation-line of wide same w e =
      let fields : (line_of (made o of)).fields ≡ wide_fields (format_of o) wide = fields-of o of ∙ ap (wide_fields (format_of o)) same in record {
        straight = made-straight o of;
        writable = subst (Each IsFieldInRange) (sym fields) w;
        named = ap (λ l. l.name) (made-line o of);
        spelled = e ∙ ap fields_text (sym fields);
      }

module _ (o : Operation) (names : Names) (bytes : List ℕ) where
  -- no such fields are there, or there are more
  pub operation-none : ((wide : Wide) → AreFieldsInRange (wide_fields (format_of o) wide) → bytes ≡ fields_text (wide_fields (format_of o) wide) → ⊥)
      → IsBadLine names (operation_name o) bytes (wrong.Form forms.Syntax)
  operation-none none = λ i l.
      let x = made-shape o i l.straight l.named in
      let k : IsLineOf (made o x.0) (operation_name o) bytes = subst (λ j. IsLineOf j (operation_name o) bytes) x.1 l in
      none (wide_of x.0) (subst (Each IsFieldInRange) (fields-of o x.0) k.writable) (k.spelled ∙ ap fields_text (fields-of o x.0))

  pub operation-over : (wide : Wide) → AreFieldsInRange (wide_fields (format_of o) wide) → bytes ≡ fields_text (wide_fields (format_of o) wide)
      → IsPadded (format_of o) wide → IsFew names
      → (wide.a < 2 ^ 32 → wide.b < 2 ^ 32 → wide.c < 2 ^ 32 → wide.d < 2 ^ 32 → ⊥)
      → IsBadLine names (operation_name o) bytes (wrong.Form forms.Range)
  operation-over wide w e pad few out = (
    made o (operands_of wide),
    operation-line o bytes (operands_of wide) wide refl w e,
    λ r. let s = small-operands o (operands_of wide) names few pad r.0 in out s.0 s.1 s.2 s.3,
  )

numbers-kept : (ns : List ℕ) → IsPlaceKept (map Number ns)
numbers-kept [] = tt
numbers-kept (n ∷ ns) = tt

pub operation-kept : (o : Operation) (of : Operands) → IsPlaceKept (line_of (made o of)).fields
operation-kept o of = subst IsPlaceKept (sym (fields-of o of)) (numbers-kept (wide_numbers_of (format_of o) (wide_of of)))

-- a name that no instruction has
pub unnamed : (names : Names) (name bytes : List ℕ) → ((o : Operation) → operation_name o ≡ name → ⊥) → (name ≡ codes "ext" → ⊥) → (name ≡ codes "new" → ⊥)
    → (name ≡ codes "check" → ⊥)
    → IsBadLine names name bytes (wrong.Form forms.Syntax)
unnamed names name bytes f x y z =
    λ i l. named-some i l.straight (λ o e. f o (e ∙ l.named)) (λ e. x (sym l.named ∙ e)) (λ e. y (sym l.named ∙ e)) (λ e. z (sym l.named ∙ e))

-- Operations, by what was read of them

whole_fields : (o : Operation) (bytes : List ℕ) (format : Format) (is : format ≡ format_of o) (wide : Wide) (left : List ℕ)
    → bytes ≡ fields_text (wide_fields format wide) ++ left → left ≡ [] → bytes ≡ fields_text (wide_fields (format_of o) wide)
whole_fields o bytes format is wide left cut e =
    cut ∙ ap (λ l. fields_text (wide_fields format wide) ++ l) e ∙ append-nil (fields_text (wide_fields format wide))
    ∙ ap (λ f. fields_text (wide_fields f wide)) is

pub bad-as : (names : Names) (name bytes : List ℕ) (why other : Wrong) → why ≡ other → IsBadLine names name bytes other → IsBadLine names name bytes why
bad-as names name bytes why other e h = subst (λ w. IsBadLine names name bytes w) (sym e) h

module _ (o : Operation) (names : Names) (bytes : List ℕ) (format : Format) (is : format ≡ format_of o) where
  pub operation-lacks : LacksFields (wide_fields format) bytes → IsBadLine names (operation_name o) bytes (wrong.Form forms.Syntax)
  operation-lacks lacks =
      let lack : LacksFields (wide_fields (format_of o)) bytes = subst (λ f. LacksFields (wide_fields f) bytes) is lacks in
      operation-none o names bytes (λ wide k e. lack wide [] k (e ∙ ap fields_text (sym (append-nil (wide_fields (format_of o) wide)))))

  module _ (wide : Wide) (left : List ℕ) (small : AreFieldsInRange (wide_fields format wide)) (cut : bytes ≡ fields_text (wide_fields format wide) ++ left) where
    pub operation-more : EndsWord left → (left ≡ [] → ⊥) → IsBadLine names (operation_name o) bytes (wrong.Form forms.Syntax)
    operation-more ends more =
        operation-none o names bytes (λ other k e.
        let kept : AreFieldsInRange (wide_fields format other) = subst (λ f. AreFieldsInRange (wide_fields f other)) (sym is) k in
        let same : bytes ≡ fields_text (wide_fields format other) ++ [] =
        e ∙ ap (λ f. fields_text (wide_fields f other)) (sym is) ∙ sym (append-nil (fields_text (wide_fields format other))) in
        more (after-fields (wide_fields format wide) (wide_fields format other) left [] (same-length format wide other) small kept ends tt (sym cut ∙ same)))

    pub operation-unkept : left ≡ [] → IsPadded format wide → IsFew names → (wide.a < 2 ^ 32 → wide.b < 2 ^ 32 → wide.c < 2 ^ 32 → wide.d < 2 ^ 32 → ⊥)
        → IsBadLine names (operation_name o) bytes (wrong.Form forms.Range)
    operation-unkept e pad few out =
        operation-over o names bytes wide (subst (λ f. AreFieldsInRange (wide_fields f wide)) is small) (whole_fields o bytes format is wide left cut e) (subst (λ f. IsPadded f wide) is pad) few out

module _ (o : Operation) (bytes : List ℕ) (format : Format) (is : format ≡ format_of o) (wide : Wide) (left : List ℕ)
    (small : AreFieldsInRange (wide_fields format wide)) (cut : bytes ≡ fields_text (wide_fields format wide) ++ left) where
  pub operation-told : left ≡ [] → (of : Operands) → of.a ≡ wide.a → of.b ≡ wide.b → of.c ≡ wide.c → of.d ≡ wide.d → of.n ≡ wide.n
      → IsLineOf (made o of) (operation_name o) bytes × IsPlaceKept (line_of (made o of)).fields
  operation-told e of p q r s t =
      let again : ℕ → ℕ → ℕ → ℕ → ℕ → Wide = λ a b c d n. record { a = a; b = b; c = c; d = d; n = n } in
      let same : wide_of of ≡ wide =
      ap (λ a. again a of.b of.c of.d of.n) p ∙ ap (λ b. again wide.a b of.c of.d of.n) q ∙ ap (λ c. again wide.a wide.b c of.d of.n) r
      ∙ ap (λ d. again wide.a wide.b wide.c d of.n) s ∙ ap (λ n. again wide.a wide.b wide.c wide.d n) t in
      (operation-line o bytes of wide same (subst (λ f. AreFieldsInRange (wide_fields f wide)) is small) (whole_fields o bytes format is wide left cut e), operation-kept o of)

-- Fields of a format that are not there

module _ (bytes : List ℕ) where
  pub lacks-One : LacksFields one_number bytes → LacksFields (wide_fields One) bytes
  lacks-One h = λ w more k e. h w.a more k e

  pub lacks-Two : LacksFields two_numbers bytes → LacksFields (wide_fields Two) bytes
  lacks-Two h = λ w more k e. h (w.a, w.b) more k e

  pub lacks-Three : LacksFields three_numbers bytes → LacksFields (wide_fields Three) bytes
  lacks-Three h = λ w more k e. h (w.a, w.b, w.c) more k e

  pub lacks-Four : LacksFields two_numbers bytes → LacksFields (wide_fields Four) bytes
  lacks-Four h = λ w more k e. h (w.a, w.b) (Number w.c ∷ Number w.d ∷ more) (k.0, (k.1.0, tt)) e

  pub lacks-OneLong : LacksFields two_numbers bytes → LacksFields (wide_fields OneLong) bytes
  lacks-OneLong h = λ w more k e. h (w.a, w.n) more k e

  pub lacks-TwoLong : LacksFields three_numbers bytes → LacksFields (wide_fields TwoLong) bytes
  lacks-TwoLong h = λ w more k e. h (w.a, w.b, w.n) more k e

  pub lacks-ThreeLong : LacksFields two_numbers bytes → LacksFields (wide_fields ThreeLong) bytes
  lacks-ThreeLong h = λ w more k e. h (w.a, w.b) (Number w.c ∷ Number w.n ∷ more) (k.0, (k.1.0, tt)) e

  pub lacks-FourLong : LacksFields two_numbers bytes → LacksFields (wide_fields FourLong) bytes
  lacks-FourLong h = λ w more k e. h (w.a, w.b) (Number w.c ∷ Number w.d ∷ Number w.n ∷ more) (k.0, (k.1.0, tt)) e

  pub lacks-Access : LacksFields three_numbers bytes → LacksFields (wide_fields Access) bytes
  lacks-Access h = λ w more k e. h (w.n, w.a, w.b) more k e

  -- after the first two
  module _ (left : List ℕ) (a b : ℕ) (p : a < 2 ^ 64) (q : b < 2 ^ 64) (ends : EndsWord left) (cut : bytes ≡ 32 ∷ (decimal a ++ (32 ∷ (decimal b ++ left)))) where
    pub more-Four : LacksFields two_numbers left → LacksFields (wide_fields Four) bytes
    more-Four h = λ w more k e.
        h (w.c, w.d) more (k.1.1.0, (k.1.1.1.0, tt))
        (after-two bytes left a b w.a w.b (Number w.c ∷ Number w.d ∷ more) p q k.0 k.1.0 ends cut e)

    pub more-ThreeLong : LacksFields two_numbers left → LacksFields (wide_fields ThreeLong) bytes
    more-ThreeLong h = λ w more k e.
        h (w.c, w.n) more (k.1.1.0, (k.1.1.1.0, tt))
        (after-two bytes left a b w.a w.b (Number w.c ∷ Number w.n ∷ more) p q k.0 k.1.0 ends cut e)

    pub more-FourLong : LacksFields three_numbers left → LacksFields (wide_fields FourLong) bytes
    more-FourLong h = λ w more k e.
        h (w.c, w.d, w.n) more (k.1.1.0, (k.1.1.1.0, (k.1.1.1.1.0, tt)))
        (after-two bytes left a b w.a w.b (Number w.c ∷ Number w.d ∷ Number w.n ∷ more) p q k.0 k.1.0 ends cut e)

-- Lines with a word

pub word-bytes : (bytes word left end : List ℕ) (f : Field) (m n o : ℕ) → bytes ≡ 32 ∷ (word ++ left) → field_text f ≡ word
    → left ≡ 32 ∷ (decimal m ++ (32 ∷ (decimal n ++ (32 ∷ (decimal o ++ end))))) → end ≡ []
    → bytes ≡ fields_text (f ∷ Number m ∷ Number n ∷ Number o ∷ [])
word-bytes bytes word left end f m n o e g h i =
    e ∙ ap (λ w. 32 ∷ (w ++ left)) (sym g) ∙ ap (λ l. 32 ∷ (field_text f ++ l)) h
    ∙ ap (λ l. 32 ∷ (field_text f ++ (32 ∷ (decimal m ++ (32 ∷ (decimal n ++ (32 ∷ (decimal o ++ l)))))))) i

pub ext-bytes : (bytes left word end : List ℕ) (v a : ℕ) (form : Narrow) → bytes ≡ 32 ∷ (decimal v ++ (32 ∷ (decimal a ++ left))) → left ≡ 32 ∷ (word ++ end)
    → form_text form ≡ word → end ≡ [] → bytes ≡ fields_text (Number v ∷ Number a ∷ Form form ∷ [])
ext-bytes bytes left word end v a form e f g h =
    e ∙ ap (λ l. 32 ∷ (decimal v ++ (32 ∷ (decimal a ++ l)))) (f ∙ ap (λ w. 32 ∷ (w ++ end)) (sym g) ∙ ap (λ l. 32 ∷ (form_text form ++ l)) h)

-- what is written of equal numbers
pub ext-told : (bytes : List ℕ) (v a x y : ℕ) (form : Narrow) → v < 2 ^ 64 → a < 2 ^ 64 → bytes ≡ fields_text (Number v ∷ Number a ∷ Form form ∷ [])
    → x ≡ v → y ≡ a → IsLineOf (instr.Ext x y form) (codes "ext") bytes × IsPlaceKept (line_of (instr.Ext x y form)).fields
ext-told bytes v a x y form p q e f g =
    let same : bytes ≡ fields_text (Number x ∷ Number y ∷ Form form ∷ []) =
    e ∙ ap (λ n. fields_text (Number n ∷ Number a ∷ Form form ∷ [])) (sym f) ∙ ap (λ n. fields_text (Number x ∷ Number n ∷ Form form ∷ [])) (sym g) in
    (record { straight = tt; writable = (omega (arith, p, f), (omega (arith, q, g), (tt, tt))); named = refl; spelled = same }, tt)

pub new-told : (bytes : List ℕ) (tagged : Bool) (v n s x y z : ℕ) → v < 2 ^ 64 → n < 2 ^ 64 → s < 2 ^ 64
    → bytes ≡ fields_text (Tag tagged ∷ Number v ∷ Number n ∷ Number s ∷ []) → x ≡ v → y ≡ n → z ≡ s
    → IsLineOf (instr.New tagged x y z) (codes "new") bytes × IsPlaceKept (line_of (instr.New tagged x y z)).fields
new-told bytes tagged v n s x y z p q r e f g h =
    let same : bytes ≡ fields_text (Tag tagged ∷ Number x ∷ Number y ∷ Number z ∷ []) =
    e ∙ ap (λ m. fields_text (Tag tagged ∷ Number m ∷ Number n ∷ Number s ∷ [])) (sym f)
    ∙ ap (λ m. fields_text (Tag tagged ∷ Number x ∷ Number m ∷ Number s ∷ [])) (sym g)
    ∙ ap (λ m. fields_text (Tag tagged ∷ Number x ∷ Number y ∷ Number m ∷ [])) (sym h) in
    (record { straight = tt; writable = (tt, (omega (arith, p, f), (omega (arith, q, g), (omega (arith, r, h), tt)))); named = refl; spelled = same }, tt)

pub check-told : (bytes : List ℕ) (c : Check) (row col a x y z : ℕ) → x < 2 ^ 32 → y < 2 ^ 32 → a < 2 ^ 64
    → bytes ≡ fields_text (Name c ∷ Number row ∷ Number col ∷ Number a ∷ []) → x ≡ row → y ≡ col → z ≡ a
    → IsLineOf (instr.Check c (record { line = x; col = y }) z) (codes "check") bytes
    × IsPlaceKept (line_of (instr.Check c (record { line = x; col = y }) z)).fields
check-told bytes c row col a x y z p q r e f g h =
    let same : bytes ≡ fields_text (Name c ∷ Number x ∷ Number y ∷ Number z ∷ []) =
    e ∙ ap (λ m. fields_text (Name c ∷ Number m ∷ Number col ∷ Number a ∷ [])) (sym f)
    ∙ ap (λ m. fields_text (Name c ∷ Number x ∷ Number m ∷ Number a ∷ [])) (sym g)
    ∙ ap (λ m. fields_text (Name c ∷ Number x ∷ Number y ∷ Number m ∷ [])) (sym h) in
    (record { straight = tt; writable = (tt, (omega (arith, p), (omega (arith, q), (omega (arith, r, h), tt)))); named = refl; spelled = same }, (p, q))

-- an instruction that is out of range
pub out_of_range : (names : Names) (name bytes : List ℕ) (i : Instr) (why : Wrong) → IsLineOf i name bytes → why ≡ wrong.Form forms.Range
    → (IsInstrInRange names i → ⊥) → IsBadLine names name bytes why
out_of_range names name bytes i why l e out = bad-as names name bytes why (wrong.Form forms.Range) e (i, l, λ r. out r.0)

pub same-line : (name bytes : List ℕ) (i j : Instr) → j ≡ i → IsLineOf i name bytes × IsPlaceKept (line_of i).fields
    → IsLineOf j name bytes × IsPlaceKept (line_of j).fields
same-line name bytes i j e h = subst (λ k. IsLineOf k name bytes × IsPlaceKept (line_of k).fields) (sym e) h
