-- The lines of `if`, blocks, loops, and of what leaves them; code in order.
use Rattle.std.proofs.Common.{◌≡◌, refl, ap, sym, subst, ◌∙◌, ℕ, suc, ◌+◌, ◌<◌, ◌≤◌, arith, true, false, List, [], ◌∷◌, ◌++◌, length, take, drop, get_or, slice_get, Option, Some, None, IsSome, append_assoc, append-nil}
use Rattle.std.proofs.lemmas.List.{drop_all}
use Rattle.cc_base.specs.declared.number.TypeId.{TypeId}
use Rattle.cc_base.specs.declared.place.Place.{Place}
use Rattle.c_types.specs.Table.{shape_at}
use Rattle.cured_code.specs.declared.instr.Instr as flat
use Rattle.cured_code.specs.declared.instr.Instr.TheVariants as line
use Rattle.check_forms.specs.Pieces.{Piece, Line, Then, Choice, Blocked, Looped}
use Rattle.check_insert.specs.declared.draft.Draft.{Draft}
use Rattle.check_insert.specs.Drafts.{Grows, Starts, Chosen, AreBothReady}
use Rattle.cil_form.specs.declared.number.Temp.{Temp}
use Rattle.cil_form.specs.declared.instr.Code.{Code}
use Rattle.cil_form.specs.declared.instr.Instr.{Instr, Row_of-Instr, end_of-Instr, more_of-Instr}
use Rattle.cil_form.specs.declared.instr.Instr.TheVariants as source
use Rattle.cil_form.specs.declared.instr.Instr.TheBlock.{hidden-the_row-Instr-0, items-the_row-Instr, items_hidden-the_row-Instr-0}
use Rattle.cil_form.specs.Typing.{Context, HeldType, Typing, Includes, no_types, inside}
use Rattle.cil_form.proofs.TypingLaws.{shaped-held, shaped-more, shaped-less, includes-more}
use Rattle.sim_relation.specs.Points.{Knowledge}
use Rattle.cure_rules.specs.Known as known
use Rattle.cure_rules.specs.Known.{World, known_of, words_by}
use Rattle.cure_rules.specs.Setting.{IsTested}
use Rattle.cure_rules.specs.Code.{Blocks, IsCuringRow, AreCuring}
use Rattle.cure_scope.specs.declared.scope.Scope.{Scope}
use Rattle.cure_scope.specs.Scopes.{fixed_column, whole_of, world_of}
use Rattle.cure_instrs.specs.Lines.{tested_slot, tested_lines}
use Rattle.cure_rules.specs.Setting.{is_wide}
use Rattle.cure_instrs.proofs.KnownLaws.{includes_held}
use Rattle.cure_instrs.proofs.CalculateLaws.{is_tested}
use Rattle.cure_calls.specs.Cured.{ReturnCured}
use Rattle.cure_bodies.specs.declared.holding.Holdings.{Holdings}
use Rattle.cure_bodies.specs.Holding.{typing_of, holds_now, Extends, Makes, TestedFor, BlockOf, LoopOf}
use Rattle.cure_bodies.specs.Bodies.{IsInside, known_behind, InstrCured, CodeCured, Begun, BodyCured}
use Rattle.cure_bodies.proofs.Laws.{makes_each, makes_as, unnoted, rewound, extends-none}

-- Code that instructions hold

list-row : {m : _} (r : Row_of-Instr m) (w : World) (b : Blocks) (K A : Knowledge) (code : List flat.Instr) → AreCuring (items-the_row-Instr m r) w b K A code
    → IsCuringRow r w b K A code
unfolding Then
list-row end_of-Instr w b K A code h = h
list-row (more_of-Instr i r) w b K A code h = (h.0, (h.1.0, h.1.1, h.1.2, list-row r w b h.0 A h.1.1 h.1.3, h.1.4))

held-row : (x : Code) (w : World) (b : Blocks) (K A : Knowledge) (code : List flat.Instr) → AreCuring x.0.items w b K A code
    → IsCuringRow (hidden-the_row-Instr-0 x.0) w b K A code
held-row x w b K A code h =
    list-row (hidden-the_row-Instr-0 x.0) w b K A code (subst (λ l. AreCuring l w b K A code) (sym (items_hidden-the_row-Instr-0 x.0)) h)

-- what was made in an empty draft
made-in : (P : Piece) (s d : Draft) → Starts s → Makes P s d → d.fine ≡ true → P d.items.items
unfolding Makes Starts
made-in P s d empty f fine = let p = (f fine).1 in subst P (sym (p.2 ∙ ap (λ z. z ++ p.0) empty.0)) p.1

-- what was written inside is dropped
extends-same : (g r h : Holdings) → Extends g r → r.items.items ≡ h.items.items → Extends g h
extends-same g r h more e = (more.0, more.1 ∙ ap (λ z. z ++ more.0) e)

-- Tests

pub tested_made : (k : Scope) (T : Typing) (t : Temp) (x : HeldType) (slot : ℕ) (a b : Draft) → T t ≡ Some x
    → slot ≡ tested_slot (is_wide (whole_of k) x) (fixed_column t)
    → Makes (Line (tested_lines (is_wide (whole_of k) x) (fixed_column t))) a b → TestedFor (world_of k) T t slot a b
unfolding TestedFor
tested_made k T t x slot a b e same made =
    makes_as _ _ a b
    (λ code line types y more f.
    let one : y ≡ x = cc (sym (more t y f) ∙ e) in
    subst (λ z. IsTested (world_of k) (known_of (world_of k).slots types) t z code) (sym same) (is_tested k types t x code (f ∙ ap Some one) line))
    made

pub tested_failed : (w : World) (T : Typing) (t : Temp) (slot : ℕ) (a b : Draft) → b.fine ≡ false → TestedFor w T t slot a b
unfolding TestedFor Makes
tested_failed w T t slot a b f = λ fine. cc (f, fine)

-- If

pub if_made : (w : World) (t : Temp) (x y : Code) (slot n : ℕ) (h g r e : Holdings) (a b c one two left right : Draft)
    → TestedFor w (holds_now h) t slot a b
    → Starts one → Makes (CodeCured x.0.items w h g) one left → n ≡ length h.items.items → r.items.items ≡ take n g.items.items
    → Starts two → Makes (CodeCured y.0.items w r e) two right
    → Grows (Chosen slot left right) (AreBothReady left right) b c
    → Makes (InstrCured (source.If t x y) w h e) a c
unfolding Makes InstrCured CodeCured TestedFor Grows Chosen Choice Then Line
if_made w t x y slot n h g r e a b c one two left right tested s1 m1 len cut s2 m2 chosen = λ fine.
    let q = chosen.0 fine in let d = q.1.1 in let p = tested q.0 in
    let c1 = made-in (CodeCured x.0.items w h g) one left s1 m1 d.0 in
    let c2 = made-in (CodeCured y.0.items w r e) two right s2 m2 d.1 in
    let back : r.items.items ≡ h.items.items = rewound h g r n c1.0 len cut in (
      p.0,
      (
        p.1.0 ++ q.1.0,
        (
          extends-same e r h c2.0 back,
          λ cx blocks types less is more s.
              let l = c1.1 cx blocks types less is more (shaped-held x cx types less s.1) in
              let m = c2.1 cx blocks types less is (subst (λ z. Includes (typing_of z) types) (sym back) more) (shaped-held y cx types less s.2) in (
                m.0,
                (
                  slot,
                  (
                    p.1.0,
                    q.1.0,
                    p.1.1 types s.0.0 more s.0.1.1,
                    (
                      d.2.0,
                      d.2.1,
                      subst (IsCuringRow (hidden-the_row-Instr-0 x.0) w (known_behind w blocks) (known_of w.slots types) (known_of w.slots less)) (sym d.2.2) (held-row x w _ _ _ _ l.1),
                      subst (IsCuringRow (hidden-the_row-Instr-0 y.0) w (known_behind w blocks) (known_of w.slots types) (known_of w.slots less)) (sym d.2.3) (held-row y w _ _ _ _ m.1),
                      d.2.4,
                    ),
                    refl,
                  ),
                ),
              ),
        ),
        q.1.2 ∙ ap (λ z. z ++ q.1.0) p.1.2 ∙ append_assoc a.items.items p.1.0 q.1.0,
      ),
    )

-- Blocks and loops

behind-kept : (c : Context) (blocks : List Typing) (entry less : Typing) → Includes entry less → Includes entry c.kept
    → ((n : ℕ) (b : Typing) → slice_get blocks n ≡ Some b → Includes c.kept b)
    → (n : ℕ) (b : Typing) → slice_get (less ∷ blocks) n ≡ Some b → Includes entry b
behind-kept c blocks entry less ends keeps kept ℕ.zero b e = subst (Includes entry) (cc (e)) ends
behind-kept c blocks entry less ends keeps kept (ℕ.suc n) b e = includes-more entry c.kept b keeps (kept n b e)

pub inside-block : (w : World) (c : Context) (blocks : List Typing) (entry less : Typing) → IsInside w c blocks → Includes entry less → Includes entry c.kept
    → IsInside w (inside c entry) (less ∷ blocks)
inside-block w c blocks entry less is ends keeps = record {
  stands = record { formed = is.stands.formed; table = is.stands.table; statics = is.stands.statics; variables = is.stands.variables };
  result = is.result;
  numbered = is.numbered;
  members = is.members;
  parts = is.parts;
  count = ap suc is.count;
  kept = behind-kept c blocks entry less ends keeps is.kept;
}

pub block_made : (w : World) (x : Code) (n : ℕ) (h g r : Holdings) (a c one inner : Draft)
    → Starts one → Makes (CodeCured x.0.items w h g) one inner → n ≡ length h.items.items → r.items.items ≡ take n g.items.items
    → BlockOf inner a c → Makes (InstrCured (source.Block x) w h r) a c
unfolding Makes InstrCured CodeCured BlockOf Blocked
block_made w x n h g r a c one inner s1 m1 len cut block = λ fine.
    let q = block fine in
    let c1 = made-in (CodeCured x.0.items w h g) one inner s1 m1 q.1 in
    let back : r.items.items ≡ h.items.items = rewound h g r n c1.0 len cut in (
      q.0,
      (
        line.Block (record { 0 = inner.items }) ∷ [],
        (
          extends-same r r h (extends-none r) back,
          λ cx blocks types less is more s.
              let entry = s.0 in let p = s.1 in
              let code = shaped-less x.0.items (inside cx entry) types entry less
              (shaped-more x.0.items (inside cx entry) types entry entry p.begins (shaped-held x (inside cx entry) entry entry s.2)) p.ends in
              let l = c1.1 (inside cx entry) (less ∷ blocks) types less (inside-block w cx blocks entry less is p.ends p.keeps) more code in (
                subst (λ z. Includes (typing_of z) less) (sym back) (includes-more (holds_now h) types less more (includes-more types entry less p.begins p.ends)),
                (record { 0 = inner.items }, held-row x w _ _ _ _ l.1, refl),
              ),
        ),
        q.2,
      ),
    )

pub loop_made : (w : World) (x : Code) (n : ℕ) (h g r : Holdings) (a c one inner : Draft)
    → ((types less : Typing) → Includes types less → known.Includes (known_of w.slots types) (known_of w.slots less))
    → Starts one → Makes (CodeCured x.0.items w h g) one inner → n ≡ length h.items.items → r.items.items ≡ take n g.items.items
    → LoopOf inner a c → Makes (InstrCured (source.Loop x) w h r) a c
unfolding Makes InstrCured CodeCured LoopOf Looped
loop_made w x n h g r a c one inner forget s1 m1 len cut loop = λ fine.
    let q = loop fine in
    let c1 = made-in (CodeCured x.0.items w h g) one inner s1 m1 q.1 in
    let back : r.items.items ≡ h.items.items = rewound h g r n c1.0 len cut in (
      q.0,
      (
        line.Loop (record { 0 = inner.items }) ∷ [],
        (
          extends-same r r h (extends-none r) back,
          λ cx blocks types less is more s.
              let entry = s.0 in let p = s.1 in
              let l = c1.1 (inside cx entry) (less ∷ blocks) entry entry (inside-block w cx blocks entry less is p.ends p.keeps)
              (includes-more (holds_now h) types entry more p.begins) (shaped-held x (inside cx entry) entry entry s.2) in (
                subst (λ z. Includes (typing_of z) less) (sym back) (includes-more (holds_now h) types less more (includes-more types entry less p.begins p.ends)),
                (
                  known_of w.slots entry,
                  forget types entry p.begins,
                  (record { 0 = inner.items }, held-row x w _ _ _ _ l.1, refl),
                  forget entry less p.ends,
                ),
              ),
        ),
        q.2,
      ),
    )

-- What leaves blocks and functions

block-at : (s : World) (blocks : List Typing) (n : ℕ) → n < length blocks
    → (b : Typing) × (slice_get blocks n ≡ Some b) × (slice_get (known_behind s blocks) n ≡ Some (known_of s.slots b))
block-at s [] n e = absurd (omega (arith, e))
block-at s (x ∷ xs) ℕ.zero e = (x, refl, refl)
block-at s (x ∷ xs) (ℕ.suc n) e = block-at s xs n (omega (arith, e))

pub break_made : (w : World) (n : ℕ) (h : Holdings) (a b : Draft)
    → ((types less : Typing) → Includes types less → known.Includes (known_of w.slots types) (known_of w.slots less))
    → Makes (Line (line.Break n ∷ [])) a b → Makes (InstrCured (source.Break n) w h h) a b
break_made w n h a b forget made =
    unnoted (source.Break n) w h a b (Line (line.Break n ∷ []))
    (λ code cx blocks types less p is more s.
    let at = block-at w blocks n (subst (λ z. n < z) is.count s.0) in
    (known_of w.slots at.0, at.2, forget types at.0 (includes-more types cx.kept at.0 s.1 (is.kept n at.0 at.1)), p, forget types less s.2))
    (λ cx types less s. s.2) made

is-some : (o : Option TypeId) (t : TypeId) → o ≡ Some t → IsSome o
is-some None t e = cc (e)
is-some (Some u) t e = refl

pub return_made : (w : World) (h : Holdings) (a b : Draft)
    → ((types less : Typing) → Includes types less → known.Includes (known_of w.slots types) (known_of w.slots less))
    → Makes (Line (line.Return w.slots.nought ∷ [])) a b → Makes (InstrCured source.Return w h h) a b
return_made w h a b forget made =
    unnoted source.Return w h a b (Line (line.Return w.slots.nought ∷ []))
    (λ code cx blocks types less p is more s. (
      (
        s.0.0,
        is.numbered (is-some cx.result s.0.0 s.0.1),
        sym is.result ∙ s.0.1,
        ap (words_by w.whole.kind) (ap (λ z. shape_at z s.0.0) (sym is.stands.table) ∙ s.0.2),
        p,
      ),
      forget types less s.1,
    ))
    (λ cx types less s. s.1) made

pub value_made : (w : World) (v : Temp) (t : TypeId) (at : Place) (h : Holdings) (a b : Draft)
    → ((types less : Typing) → Includes types less → known.Includes (known_of w.slots types) (known_of w.slots less))
    → ((types : Typing) → Makes (ReturnCured v t at w types) a b) → Makes (InstrCured (source.ReturnValue v t at) w h h) a b
unfolding ReturnCured
value_made w v t at h a b forget made =
    unnoted (source.ReturnValue v t at) w h a b (λ code. (types : Typing) → Unit {0} → ReturnCured v t at w types code)
    (λ code cx blocks types less p is more s. (p types tt cx is.stands is.result s.0 s.1, forget types less s.2))
    (λ cx types less s. s.2)
    (makes_each (λ types. Unit {0}) (λ types. ReturnCured v t at w types) (holds_now h) a b tt (λ types u. made types))

-- what is known of columns is no less where more is held
pub forgets : (k : Scope) (types less : Typing) → Includes types less
    → known.Includes (known_of (world_of k).slots types) (known_of (world_of k).slots less)
forgets k types less more = includes_held k.parameters types less more

-- Code in order

pub code_begun : (is : List Instr) (w : World) (h : Holdings) (a : Draft) → Makes (Begun is is w h h) a a
unfolding Makes Begun
code_begun is w h a = λ fine. (fine, ([], λ last lines rest. rest, sym (append-nil a.items.items)))

code-cons : (i : Instr) (is : List Instr) (w : World) (h g last : Holdings) (x y : List flat.Instr) → InstrCured i w h g x → CodeCured is w g last y
    → CodeCured (i ∷ is) w h last (x ++ y)
unfolding InstrCured CodeCured Then
code-cons i is w h g last x y one rest = (
  (one.0.0 ++ rest.0.0, rest.0.1 ∙ ap (λ z. z ++ rest.0.0) one.0.1 ∙ append_assoc h.items.items one.0.0 rest.0.0),
  λ cx blocks types less is more s.
      let a = one.1 cx blocks types s.0 is more s.1 in
      let b = rest.1 cx blocks s.0 less is a.0 s.2 in
      (b.0, (known_of w.slots s.0, (x, y, a.1, b.1, refl))),
)

code-more : (whole : List Instr) (i : Instr) (rest : List Instr) (w : World) (first h g : Holdings) (a b c : Draft)
    → Makes (Begun whole (i ∷ rest) w first h) a b → Makes (InstrCured i w h g) b c → Makes (Begun whole rest w first g) a c
unfolding Makes Begun
code-more whole i rest w first h g a b c begun one = λ fine.
    let q = one fine in let p = begun q.0 in (
      p.0,
      (
        p.1.0 ++ q.1.0,
        λ last lines more.
            subst (CodeCured whole w first last) (sym (append_assoc p.1.0 q.1.0 lines)) (p.1.1 last (q.1.0 ++ lines) (code-cons i rest w h g last q.1.0 lines q.1.1 more)),
        q.1.2 ∙ ap (λ z. z ++ q.1.0) p.1.2 ∙ append_assoc a.items.items p.1.0 q.1.0,
      ),
    )

code-none : (w : World) (k : Scope) (h : Holdings) → w ≡ world_of k → CodeCured [] w h h []
unfolding CodeCured Line
code-none w k h e = (extends-none h, λ cx blocks types less is more s. (includes-more (holds_now h) types less more s, (subst (λ z. known.Includes (known_of z.slots types) (known_of z.slots less)) (sym e) (forgets k types less s), refl)))

code-ended : (whole : List Instr) (k : Scope) (first h : Holdings) (a b : Draft) → Makes (Begun whole [] (world_of k) first h) a b
    → Makes (CodeCured whole (world_of k) first h) a b
unfolding Makes Begun
code-ended whole k first h a b begun = λ fine.
    let p = begun fine in
    (p.0, (p.1.0, subst (CodeCured whole (world_of k) first h) (append-nil p.1.0) (p.1.1 h [] (code-none (world_of k) k h refl)), p.1.2))

pub code_ended : (whole : List Instr) (i : ℕ) (k : Scope) (first h : Holdings) (a b : Draft) → length whole ≤ i
    → Makes (Begun whole (drop i whole) (world_of k) first h) a b → Makes (CodeCured whole (world_of k) first h) a b
code_ended whole i k first h a b end begun =
    code-ended whole k first h a b (subst (λ z. Makes (Begun whole z (world_of k) first h) a b) (drop_all i whole end) begun)

pub drop-at : (xs : List Instr) (i : ℕ) (x : Instr) → i < length xs → x ≡ get_or xs i x → drop i xs ≡ x ∷ drop (suc i) xs
drop-at [] i x e f = absurd (omega (arith, e))
drop-at (y ∷ ys) ℕ.zero x e f = ap (λ z. z ∷ ys) (sym f)
drop-at (y ∷ ys) (ℕ.suc i) x e f = drop-at ys i x (omega (arith, e)) f

pub code_next : (whole : List Instr) (i : ℕ) (x : Instr) (w : World) (first h g : Holdings) (a b c : Draft) → i < length whole → x ≡ get_or whole i x
    → Makes (Begun whole (drop i whole) w first h) a b → Makes (InstrCured x w h g) b c → Makes (Begun whole (drop (i + 1) whole) w first g) a c
code_next whole i x w first h g a b c less at begun one =
    let e : suc i ≡ i + 1 = omega arith in
    subst (λ z. Makes (Begun whole (drop z whole) w first g) a c) e
    (code-more whole x (drop (suc i) whole) w first h g a b c (subst (λ z. Makes (Begun whole z w first h) a b) (drop-at whole i x less at) begun) one)

body-cured : (is : List Instr) (k : Scope) (h g : Holdings) (code : List flat.Instr) → CodeCured is (world_of k) h g code → BodyCured is (world_of k) code
unfolding CodeCured BodyCured
body-cured is k h g code p = λ cx inside shaped. (p.1 cx [] no_types no_types inside (λ t x e. cc (e)) shaped).1

-- a body begins and ends with nothing known
pub body_made : (is : List Instr) (k : Scope) (h g : Holdings) (a b : Draft) → Makes (CodeCured is (world_of k) h g) a b
    → Makes (BodyCured is (world_of k)) a b
body_made is k h g a b made =
    makes_as (CodeCured is (world_of k) h g) (BodyCured is (world_of k)) a b (λ code p. body-cured is k h g code p) made
