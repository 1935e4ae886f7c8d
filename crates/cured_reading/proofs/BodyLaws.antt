-- The lines of a part: what each says by its name, and what is wrong with one.
use Rattle.std.proofs.Common.{ℕ, zero, suc, ◌+◌, ◌<◌, ◌≤◌, Bool, true, false, List, [], ◌∷◌, ◌++◌, ◌≡◌, ◌≢◌, ◌∙◌, length, ap, subst, append_assoc, append-nil, refl, sym, arith}
use Rattle.std.specs.Prelude.{codes, flat_map, ◌^◌}
use Rattle.std.specs.List.{AllByRecursion as Each}
use Rattle.std.specs.Fmt.{decimal}
use Rattle.cured_code.specs.declared.instr.Instr.{Instr}
use Rattle.cured_code.specs.declared.instr.Instr.TheVariants as instr
use Rattle.cured_code.specs.Ranges.{Names, IsInstrInRange, HasSlot, inside_if, inside_block, flat_nest_limit}
use Rattle.cured_spelling.specs.Lines.{Field, Number, Line, line, fields_text, words_text, line_text}
use Rattle.cured_spelling.specs.Spelling.{line_of, else_line, end_line}
use Rattle.cured_spelling.specs.InRange.{IsFieldInRange}
use Rattle.cured_spelling.proofs.Heads.{head, number, first_field}
use Rattle.cured_reading.specs.declared.code.Closing.{Closing}
use Rattle.cured_reading.specs.declared.code.Closing.TheVariants as closing
use Rattle.cured_reading.specs.declared.wrong.CuredLimit.TheVariants as limit
use Rattle.cured_reading.specs.declared.wrong.CuredFault.TheVariants as fault
use Rattle.cured_reading.specs.declared.wrong.Form.TheVariants as form
use Rattle.cured_reading.specs.declared.wrong.Wrong.{Wrong}
use Rattle.cured_reading.specs.declared.wrong.Wrong.TheVariants as wrong
use Rattle.cured_reading.specs.Openings.{closing_line}
use Rattle.cured_reading.specs.Parts.{Left, IsWithout, EndsWord, IsWordBefore}
use Rattle.cured_reading.specs.Faults.{Told, Version, Count, Signature, Node, Area, Fn, Local, Straight, If, Block, Loop, Else, End, Part, Awaited, InBody, told_line, told_text, IsWritable, IsStraight, MayStand, next, Begins, IsDone, IsPlaceKept}
use Rattle.cured_reading.specs.Refusals.{IsFew, IsBegun, in_part, told_held, told_closing, IsLineOf, IsBadLine, AreRead, IsRefused}
use Rattle.cured_reading.proofs.FaultLaws.{from_head, read_back, read-back, told-written}
use Rattle.cured_reading.proofs.WordLaws.{words-cut, feed-held, word-begins, above-without, fields-end}
use Rattle.cured_reading.proofs.MisreadLaws.{words-first}
use Rattle.cured_reading.proofs.RefusalLaws.{one-read, syntax-fails, limit-fails, range-fails}

-- What a line says where instructions stand, by its name

module _ (part : Part) (parts : List Part) (rest : List Names) (t : Told) (stands : MayStand (InBody 0 part parts rest) t) where
  told-named : (name : List ℕ) → (told_line t).name ≡ name → t ≡ read_back (InBody 0 part parts rest) (record { name = name; fields = (told_line t).fields })
  told-named name e =
      let again : List ℕ → Line = λ n. record { name = n; fields = (told_line t).fields } in
      sym (read-back (InBody 0 part parts rest) t stands) ∙ ap (λ n. read_back (InBody 0 part parts rest) (again n)) e

  pub told-else : (told_line t).name ≡ codes "else" → t ≡ Else
  unfolding read_back from_head head
  told-else e = told-named (codes "else") e

  pub told-end : (told_line t).name ≡ codes "end" → t ≡ End
  unfolding read_back from_head head
  told-end e = told-named (codes "end") e

  pub told-if : (told_line t).name ≡ codes "if" → (a : ℕ) × (t ≡ If a)
  unfolding read_back from_head head
  told-if e =
      let l : Line = record { name = codes "if"; fields = (told_line t).fields } in
      (number (first_field l), told-named (codes "if") e)

  pub told-block : (told_line t).name ≡ codes "block" → t ≡ Block
  unfolding read_back from_head head
  told-block e = told-named (codes "block") e

  pub told-loop : (told_line t).name ≡ codes "loop" → t ≡ Loop
  unfolding read_back from_head head
  told-loop e = told-named (codes "loop") e

  nameless-end : (told_line t).name ≡ [] → t ≡ End
  unfolding read_back from_head head
  nameless-end e = told-named [] e

  -- each line has a name
  told-some : (told_line t).name ≡ [] → ⊥
  told-some e = let same : codes "end" ≡ [] = sym (ap (λ u. (told_line u).name) (nameless-end e)) ∙ e in cc

told-straight : (part : Part) (parts : List Part) (rest : List Names) (t : Told) → MayStand (InBody 0 part parts rest) t
    → ((told_line t).name ≡ codes "else" → ⊥) → ((told_line t).name ≡ codes "end" → ⊥) → ((told_line t).name ≡ codes "if" → ⊥)
    → ((told_line t).name ≡ codes "block" → ⊥) → ((told_line t).name ≡ codes "loop" → ⊥)
    → (i : Instr) × (t ≡ Straight i)
told-straight part parts rest (Straight i) h a b c d e = (i, refl)
told-straight part parts rest Else h a b c d e = absurd (a refl)
told-straight part parts rest End h a b c d e = absurd (b refl)
told-straight part parts rest (If n) h a b c d e = absurd (c refl)
told-straight part parts rest Block h a b c d e = absurd (d refl)
told-straight part parts rest Loop h a b c d e = absurd (e refl)
told-straight part parts rest (Local area) h a b c d e = absurd (omega (arith, h))
told-straight part parts rest t h a b c d e = absurd h

-- A line of which the name was read

pub begun : (fields name left : List ℕ) (a b : Left) → a.text ≡ fields ++ (10 ∷ b.text) → IsWithout 10 fields → b.number ≡ a.number + 1 → fields ≡ name ++ left
    → IsWordBefore name left → IsBegun name left a b
begun fields name left a b e whole n f w = record {
  cut = e ∙ ap (λ l. l ++ (10 ∷ b.text)) f;
  whole = subst (IsWithout 10) f whole;
  counted = n;
  word = w;
}

begun-told : (s : Awaited) (name fields : List ℕ) (a b : Left) (t : Told) → IsBegun name fields a b → Begins s a.text t
    → ((told_line t).name ≡ name) × (fields ≡ fields_text (told_line t).fields)
begun-told s name fields a b t g h =
    let l = told_line t in
    let w = told-written t in
    let words = (words-first l (name ++ fields) a.text b.text h.rest w.name h.writable g.whole g.cut h.cut).0 in
    let both = words-cut name l.name fields (fields_text l.fields) g.word.whole (above-without 32 l.name w.name) g.word.ends (fields-end l.fields) words in
    (sym both.0, both.1)

module _ (names : Names) (closing : Closing) (parts : List Part) (rest : List Names) where
  here : Part
  here = record { names = names; closing = closing }

  pub no-line : (a : Left) (n : ℕ) → IsWithout 10 a.text → n ≡ a.number → IsRefused (in_part names closing parts rest) a wrong.Next n
  no-line a n none still =
      syntax-fails (in_part names closing parts rest) a wrong.Next n (ap (λ m. fault.Form (m + 1) form.Syntax) still) (λ d. d)
      (λ t h. feed-held a.text (words_text (told_line t)) h.rest none (h.cut ∙ append_assoc (words_text (told_line t)) (10 ∷ []) h.rest))

  some-byte : (xs : List ℕ) → (xs ≡ [] → ⊥) → 0 < length xs
  some-byte [] h = absurd (h refl)
  some-byte (x ∷ xs) h = omega arith

  pub no-name-there : (fields : List ℕ) (a : Left) (after : List ℕ) (n : ℕ) → a.text ≡ fields ++ (10 ∷ after) → IsWithout 10 fields → n ≡ a.number + 1
      → EndsWord fields → IsRefused (in_part names closing parts rest) a (wrong.Form form.Syntax) n
  no-name-there fields a after n e whole counted ends =
      syntax-fails (in_part names closing parts rest) a (wrong.Form form.Syntax) n (ap (λ m. fault.Form m form.Syntax) counted) (λ d. d) (λ t h.
      let l = told_line t in
      let w = told-written t in
      let words = (words-first l fields a.text after h.rest w.name h.writable whole e h.cut).0 in
      let some = some-byte l.name (told-some (record { names = names; closing = closing }) parts rest t h.stands) in
      word-begins l.name (fields_text l.fields) fields some (above-without 32 l.name w.name) ends words)

  module _ (name fields : List ℕ) (a b : Left) (g : IsBegun name fields a b) where
    none-there : ((t : Told) → MayStand (in_part names closing parts rest) t → (told_line t).name ≡ name → IsWritable t
        → fields ≡ fields_text (told_line t).fields → ⊥)
        → IsRefused (in_part names closing parts rest) a (wrong.Form form.Syntax) b.number
    none-there none =
        syntax-fails (in_part names closing parts rest) a (wrong.Form form.Syntax) b.number (ap (λ n. fault.Form n form.Syntax) g.counted) (λ d. d) (λ t h.
        let both = begun-told (in_part names closing parts rest) name fields a b t g h in
        none t h.stands both.0 h.writable both.1)

    -- the text, where the line has these words
    line-text : (l : Line) → name ≡ l.name → fields ≡ fields_text l.fields → a.text ≡ line_text l ++ b.text
    line-text l e f =
        g.cut ∙ ap (λ n. (n ++ fields) ++ (10 ∷ b.text)) e ∙ ap (λ n. (l.name ++ n) ++ (10 ∷ b.text)) f
        ∙ sym (append_assoc (words_text l) (10 ∷ []) b.text)

    -- An instruction that holds no others

    pub straight-read : (i : Instr) → IsLineOf i name fields → IsPlaceKept (line_of i).fields → IsInstrInRange names i
        → AreRead (in_part names closing parts rest) a (in_part names closing parts rest) b
    straight-read i l p r =
        one-read (in_part names closing parts rest) (Straight i) a b
        (record { stands = (refl, l.straight); writable = l.writable; known = λ o. o; limits = λ m q. q; range = (r, p) })
        (line-text (line_of i) (sym l.named) l.spelled) g.counted

    pub straight-refused : (why : Wrong) → IsBadLine names name fields why → (name ≡ codes "else" → ⊥) → (name ≡ codes "end" → ⊥) → (name ≡ codes "if" → ⊥)
        → (name ≡ codes "block" → ⊥)
        → (name ≡ codes "loop" → ⊥)
        → IsRefused (in_part names closing parts rest) a why b.number
    straight-refused (wrong.Form form.Syntax) bad x y z u v =
        none-there (λ t h e w f.
        let s = told-straight (record { names = names; closing = closing }) parts rest t h (λ q. x (sym e ∙ q)) (λ q. y (sym e ∙ q)) (λ q. z (sym e ∙ q))
        (λ q. u (sym e ∙ q)) (λ q. v (sym e ∙ q)) in
        let stands : MayStand (in_part names closing parts rest) (Straight s.0) = subst (MayStand (in_part names closing parts rest)) s.1 h in
        bad s.0 (record {
          straight = stands.1;
          writable = subst IsWritable s.1 w;
          named = ap (λ t. (told_line t).name) (sym s.1) ∙ e;
          spelled = f ∙ ap (λ t. fields_text (told_line t).fields) s.1;
        }))
    straight-refused (wrong.Form form.Range) bad x y z u v =
        range-fails (in_part names closing parts rest) (Straight bad.0) a b.text b.number (refl, bad.1.straight) bad.1.writable (λ o. o) (λ m q. q) bad.2
        (line-text (line_of bad.0) (sym bad.1.named) bad.1.spelled) g.counted
    straight-refused (wrong.Form form.Version) bad x y z u v = absurd bad
    straight-refused wrong.Next bad x y z u v = absurd bad
    straight-refused (wrong.TooLarge m) bad x y z u v = absurd bad
    straight-refused wrong.NoMemory bad x y z u v = absurd bad

-- The end of a part

module _ (names : Names) (parts : List Part) (rest : List Names) (fields : List ℕ) (a b : Left) where
  pub else-refused : (c : Closing) → IsBegun (codes "else") fields a b → (c ≡ closing.Else → fields ≡ [] → ⊥)
      → IsRefused (in_part names c parts rest) a (wrong.Form form.Syntax) b.number
  else-refused c g none =
      none-there names c parts rest (codes "else") fields a b g (λ t h e w f.
      let same = told-else (record { names = names; closing = c }) parts rest t h e in
      let stands : MayStand (in_part names c parts rest) Else = subst (MayStand (in_part names c parts rest)) same h in
      none stands.1 (f ∙ ap (λ u. fields_text (told_line u).fields) same))

  pub end-refused : (c : Closing) → IsBegun (codes "end") fields a b → (c ≡ closing.End → fields ≡ [] → ⊥)
      → IsRefused (in_part names c parts rest) a (wrong.Form form.Syntax) b.number
  end-refused c g none =
      none-there names c parts rest (codes "end") fields a b g (λ t h e w f.
      let same = told-end (record { names = names; closing = c }) parts rest t h e in
      let stands : MayStand (in_part names c parts rest) End = subst (MayStand (in_part names c parts rest)) same h in
      none stands.1 (f ∙ ap (λ u. fields_text (told_line u).fields) same))

  pub closed : (name : List ℕ) (c : Closing) → IsBegun name fields a b → fields ≡ [] → name ≡ words_text (closing_line c)
      → AreRead (in_part names c parts rest) a (next (in_part names c parts rest) (told_closing c)) b
  closed name closing.Else g e n =
      one-read (in_part names closing.Else parts rest) Else a b
      (record { stands = (refl, refl); writable = tt; known = λ o. o; limits = λ l p. p; range = tt })
      (line-text names closing.Else parts rest name fields a b g else_line n e) g.counted
  closed name closing.End g e n =
      one-read (in_part names closing.End parts rest) End a b
      (record { stands = (refl, refl); writable = tt; known = λ o. o; limits = λ l p. p; range = tt })
      (line-text names closing.End parts rest name fields a b g end_line n e) g.counted

-- Instructions that hold others

module _ (names : Names) (c : Closing) (parts : List Part) (rest : List Names) (fields : List ℕ) (a b : Left) where
  module _ (g : IsBegun (codes "if") fields a b) where
    if-text : (slot : ℕ) → fields ≡ 32 ∷ (decimal slot ++ []) → a.text ≡ told_text (If slot) ++ b.text
    if-text slot e = line-text names c parts rest (codes "if") fields a b g (line (codes "if") (slot ∷ [])) refl e

    pub if-unread : ((slot : ℕ) → slot < 2 ^ 64 → fields ≡ fields_text (Number slot ∷ []) → ⊥)
        → IsRefused (in_part names c parts rest) a (wrong.Form form.Syntax) b.number
    if-unread none =
        none-there names c parts rest (codes "if") fields a b g (λ t h e w f.
        let same = told-if (record { names = names; closing = c }) parts rest t h e in
        let kept : IsWritable (If same.0) = subst IsWritable same.1 w in
        none same.0 kept.0 (f ∙ ap (λ u. fields_text (told_line u).fields) same.1))

    pub if-nested : (slot : ℕ) → slot < 2 ^ 64 → fields ≡ 32 ∷ (decimal slot ++ []) → flat_nest_limit ≤ names.nest
        → IsRefused (in_part names c parts rest) a (wrong.TooLarge limit.Nest) b.number
    if-nested slot small e over =
        limit-fails (in_part names c parts rest) (If slot) a b.text b.number limit.Nest refl (small, tt) (refl, over) (if-text slot e) g.counted

    pub if-out : (slot : ℕ) → slot < 2 ^ 64 → fields ≡ 32 ∷ (decimal slot ++ []) → names.nest < flat_nest_limit → names.slots ≤ slot
        → IsRefused (in_part names c parts rest) a (wrong.Form form.Range) b.number
    if-out slot small e nest out =
        range-fails (in_part names c parts rest) (If slot) a b.text b.number refl (small, tt) (λ o. o) (λ l p. let q = p.1 in omega (arith, q, nest))
        (λ r. omega (arith, r, out)) (if-text slot e) g.counted

    if-read-inside : (slot : ℕ) → slot < 2 ^ 64 → fields ≡ 32 ∷ (decimal slot ++ []) → names.nest < flat_nest_limit → HasSlot names slot
        → AreRead (in_part names c parts rest) a (in_part (inside_if names) closing.Else (record { names = names; closing = c } ∷ parts) rest) b
    if-read-inside slot small e nest in_range =
        one-read (in_part names c parts rest) (If slot) a b
        (record { stands = refl; writable = (small, tt); known = λ o. o; limits = λ l p. let q = p.1 in omega (arith, q, nest); range = in_range })
        (if-text slot e) g.counted

    pub if-read : (slot : ℕ) (inner : Names) → inner ≡ inside_if names → slot < 2 ^ 64 → fields ≡ 32 ∷ (decimal slot ++ []) → names.nest < flat_nest_limit → HasSlot names slot
        → AreRead (in_part names c parts rest) a (in_part inner closing.Else (record { names = names; closing = c } ∷ parts) rest) b
    if-read slot inner same small e nest in_range =
        subst (λ n. AreRead (in_part names c parts rest) a (in_part n closing.Else (record { names = names; closing = c } ∷ parts) rest) b) (sym same) (if-read-inside slot small e nest in_range)

  pub held-unread : (is_loop : Bool) → IsBegun (told_line (told_held is_loop)).name fields a b → (fields ≡ [] → ⊥)
      → IsRefused (in_part names c parts rest) a (wrong.Form form.Syntax) b.number
  held-unread true g none =
      none-there names c parts rest (codes "loop") fields a b g (λ t h e w f.
      none (f ∙ ap (λ u. fields_text (told_line u).fields) (told-loop (record { names = names; closing = c }) parts rest t h e)))
  held-unread false g none =
      none-there names c parts rest (codes "block") fields a b g (λ t h e w f.
      none (f ∙ ap (λ u. fields_text (told_line u).fields) (told-block (record { names = names; closing = c }) parts rest t h e)))

  pub held-nested : (is_loop : Bool) → IsBegun (told_line (told_held is_loop)).name fields a b → fields ≡ [] → flat_nest_limit ≤ names.nest
      → IsRefused (in_part names c parts rest) a (wrong.TooLarge limit.Nest) b.number
  held-nested true g e over =
      limit-fails (in_part names c parts rest) Loop a b.text b.number limit.Nest refl tt (refl, over)
      (line-text names c parts rest (codes "loop") fields a b g (told_line Loop) refl e) g.counted
  held-nested false g e over =
      limit-fails (in_part names c parts rest) Block a b.text b.number limit.Nest refl tt (refl, over)
      (line-text names c parts rest (codes "block") fields a b g (told_line Block) refl e) g.counted

  held-inside : (is_loop : Bool) → IsBegun (told_line (told_held is_loop)).name fields a b → fields ≡ [] → names.nest < flat_nest_limit
      → AreRead (in_part names c parts rest) a (in_part (inside_block names) closing.End (record { names = names; closing = c } ∷ parts) rest) b
  held-inside true g e nest =
      one-read (in_part names c parts rest) Loop a b
      (record { stands = refl; writable = tt; known = λ o. o; limits = λ l p. let q = p.1 in omega (arith, q, nest); range = tt })
      (line-text names c parts rest (codes "loop") fields a b g (told_line Loop) refl e) g.counted
  held-inside false g e nest =
      one-read (in_part names c parts rest) Block a b
      (record { stands = refl; writable = tt; known = λ o. o; limits = λ l p. let q = p.1 in omega (arith, q, nest); range = tt })
      (line-text names c parts rest (codes "block") fields a b g (told_line Block) refl e) g.counted

  pub held-read : (is_loop : Bool) (inner : Names) → inner ≡ inside_block names → IsBegun (told_line (told_held is_loop)).name fields a b → fields ≡ []
      → names.nest < flat_nest_limit
      → AreRead (in_part names c parts rest) a (in_part inner closing.End (record { names = names; closing = c } ∷ parts) rest) b
  held-read is_loop inner same g e nest =
      subst (λ n. AreRead (in_part names c parts rest) a (in_part n closing.End (record { names = names; closing = c } ∷ parts) rest) b) (sym same)
      (held-inside is_loop g e nest)

-- What an inner part may name is as few

pub few-if : (names inner : Names) → inner ≡ inside_if names → IsFew names → names.nest < flat_nest_limit → IsFew inner
few-if names inner e few lt =
    let blocks = few.blocks in
    subst IsFew (sym e) (record {
      sigs = few.sigs;
      functions = few.functions;
      nodes = few.nodes;
      slots = few.slots;
      areas = few.areas;
      blocks = omega (arith, blocks);
      nest = omega (arith, lt);
    })

pub few-block : (names inner : Names) → inner ≡ inside_block names → IsFew names → names.nest < flat_nest_limit → IsFew inner
few-block names inner e few lt =
    let blocks = few.blocks in
    subst IsFew (sym e) (record {
      sigs = few.sigs;
      functions = few.functions;
      nodes = few.nodes;
      slots = few.slots;
      areas = few.areas;
      blocks = omega (arith, blocks);
      nest = omega (arith, lt);
    })
