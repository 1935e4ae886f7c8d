-- The arguments of a call are put into the row: what is known of each is copied, slot by slot.
use Rattle.std.proofs.Common.{◌≡◌, Bool, ℕ, zero, suc, ◌+◌, ◌<◌, ◌≤◌, inl, List, [], ◌∷◌, ◌++◌, length, slice_index, Some, refl, ap, sym, subst, ◌∙◌, arith}
use Rattle.std.proofs.lemmas.List.{length-append}
use Rattle.cc_base.specs.declared.number.TypeId.{TypeId}
use Rattle.c_types.specs.declared.shape.TypeShape.{TypeShape}
use Rattle.c_types.specs.declared.shape.TypeShape.TheVariants as shape
use Rattle.c_types.specs.Table.{shape_at}
use Rattle.c_types.specs.Sound.{IsProper, IsWellFormed}
use Rattle.flat_mem.specs.Bytes.{IsAccessSize, bytes_at}
use Rattle.flat_mem.proofs.ByteLaws.{get-bytes_at, length-bytes_at}
use Rattle.src_mem.specs.Pointers.{Value}
use Rattle.cil_form.specs.declared.number.Temp.{Temp}
use Rattle.cil_form.specs.declared.number.Temp.TheVariants as temp
use Rattle.cil_form.specs.State as code
use Rattle.cil_form.specs.Typing.{HeldType, IntegerOf, PointerTo}
use Rattle.cil_form.specs.Meaning.{row_of}
use Rattle.cured_code.specs.FlatState as flat
use Rattle.cured_code.specs.FlatState.{slot}
use Rattle.cured_code.specs.FlatMachine.{run}
use Rattle.check_forms.specs.Pieces.{Line, Then}
use Rattle.check_forms.proofs.TestLaws.{append-append}
use Rattle.sim_relation.specs.Points.{Low, Known, Knowledge, AreWords}
use Rattle.cure_rules.specs.Slots.{AreSlots}
use Rattle.cure_rules.specs.Known.{copies, words_by, words_in, held_words, held_shape, held_by}
use Rattle.cure_rules.specs.Calling.{AreArguments}
use Rattle.sim_laws.specs.Scenes.{Programs, Scene, Running, world_of, context_of}
use Rattle.sim_laws.specs.Points.{Point, IsLasting, Passed}
use Rattle.sim_laws.specs.Statements.{Lines, IsPassed, held_at}
use Rattle.sim_laws.specs.Calls.{AreArgumentsOf}
use Rattle.sim_laws.proofs.Points.{some-words}
use Rattle.sim_laws.proofs.Addresses.{one-at}
use Rattle.sim_laws.proofs.Giving.{Changed}
use Rattle.sim_laws.proofs.Sets.{Copied, copied}
use Rattle.sim_laws.proofs.Guards.{passed-none, passed-then}
use Rattle.sim_laws.proofs.Checks.{passed-point, known-lasting}
use Rattle.sim_laws.proofs.Calculations.{Operand, lowly}
use Rattle.sim_laws.proofs.Reaching.{Pointed, pointed}
use Rattle.sim_laws.proofs.Storing.{known-words}
use Rattle.sim_laws.proofs.PassedWords.{StandFrom, both-from}

-- an integer type of a table has 1, 2, 4 or 8 bytes
pub access-size : (p : Programs) → IsWellFormed p.whole.table → (t : TypeId) (bytes : ℕ) (signed : Bool) → shape_at p.whole.table t ≡ shape.Integer bytes signed → IsAccessSize bytes
access-size p formed t bytes signed e = subst IsProper e (formed.each t).proper

-- what is held is held in a slot at least
words-some : (p : Programs) (h : TypeShape) (x : HeldType) → held_shape h ≡ Some x → (words_by p.whole.kind h ≡ held_words p.whole x) × (0 < words_by p.whole.kind h)
words-some p (shape.Integer bytes signed) x e = (ap (held_words p.whole) (let f : IntegerOf (record { bytes = bytes; signed = signed }) ≡ x = cc (e) in f), omega arith)
words-some p (shape.Pointer n u) x e = (ap (held_words p.whole) (let f : PointerTo n u ≡ x = cc (e) in f), some-words (p.whole.kind n))
words-some p other x e = absurd (cc (e))

-- what a temporary holds is passed by the words in its slots; of a pointer they are its own, in every form
module _ (w : Scene) (formed : IsWellFormed w.programs.whole.table) (g : AreSlots w.slots) (b : Running) (known : Knowledge) (l : code.Local) (c : flat.Local)
    (p : Point w g b known l c) (t : Temp) (x : Known) (a : ℕ) (fact : known t ≡ Some x) (place : x.place ≡ Some a) where
  passed-as : (ty : TypeId) (h : TypeShape) → shape_at w.programs.whole.table ty ≡ h → held_shape h ≡ Some x.type
      → IsPassed w.programs b.depth l.state c.state Low (held_shape h) (l.temps t) (bytes_at (words_by w.programs.whole.kind h) c.slots a)
  passed-as ty (shape.Integer bytes signed) e is = of (lowly w g b known l c p t (record { bytes = bytes; signed = signed }) a
      (access-size w.programs formed ty bytes signed e) (x, fact, (let f : x.type ≡ IntegerOf (record { bytes = bytes; signed = signed }) = cc (is) in f), place))
    where
      of : Operand l c t (record { bytes = bytes; signed = signed }) a Low
          → IsPassed w.programs b.depth l.state c.state Low (Some (IntegerOf (record { bytes = bytes; signed = signed }))) (l.temps t) (bytes_at 1 c.slots a)
      of m = subst (λ (v : Value). IsPassed w.programs b.depth l.state c.state Low (Some (IntegerOf (record { bytes = bytes; signed = signed }))) v (bytes_at 1 c.slots a))
          (sym m.value) (m.range, (slot c a, one-at c.slots a (slot c a) refl, m.holds))
  passed-as ty (shape.Pointer n u) e is = of (pointed w g b known l c p t n u a x.sure (x, fact, inl type, place, refl))
    where
      type : x.type ≡ PointerTo n u
      type = cc (is)

      of : Pointed w g b l c t n u a
          → IsPassed w.programs b.depth l.state c.state Low (Some (PointerTo n u)) (l.temps t) (bytes_at (words_by w.programs.whole.kind (shape.Pointer n u)) c.slots a)
      of m = subst (λ (v : Value). IsPassed w.programs b.depth l.state c.state Low (Some (PointerTo n u)) v
          (bytes_at (words_by w.programs.whole.kind (shape.Pointer n u)) c.slots a)) (sym m.value) (
            m.held,
            (m.words, subst AreWords (sym m.words) (known-words w g b known l c p t n u a x.sure (x, fact, type, place, refl) m.pointer m.value)),
          )
  passed-as ty other e is = absurd (cc (is))

  pub value-passed : (ty : TypeId) → held_by (world_of w) ty ≡ Some x.type
      → IsPassed w.programs b.depth l.state c.state Low (held_at w.programs.whole ty) (l.temps t) (bytes_at (words_in w.programs.whole ty) c.slots a)
  value-passed ty is = passed-as ty (shape_at w.programs.whole.table ty) refl is

-- The row

changed-both : (k m v : ℕ) (before middle after : List ℕ) → Changed k v before middle → Changed m (v + k) middle after → Changed (k + m) v before after
changed-both k m v before middle after one other = record {
  others = λ a h. other.others a (λ j l e. h (k + j) (omega (arith, l)) (omega (arith, e))) ∙ one.others a (λ j l e. h j (omega (arith, l)) e);
  long = other.long ∙ one.long;
}

row-room : (w : Scene) (g : AreSlots w.slots) (j k : ℕ) → 0 < k → j + k ≤ w.slots.row_width → w.slots.row + j + k ≤ w.slots.count
row-room w g j zero some room = absurd (omega (arith, some))
row-room w g j (suc k) some room = let h = (g.row (j + k) (omega (arith, room))).below in omega (arith, h)

-- a slot of the row is none that lasts
row-apart : (w : Scene) (g : AreSlots w.slots) (a j : ℕ) → IsLasting (g.owner a) → j < w.slots.row_width → (a ≡ w.slots.row + j) → ⊥
row-apart w g a j lasts less e = absurd (subst IsLasting (ap g.owner e ∙ (g.row j less).is) lasts)

-- What the lines leave: these words stand in the row from its slot j on, which are those of the arguments.
pub record Rowed (w : Scene) (g : AreSlots w.slots) (b : Running) (l : code.Local) (c : flat.Local) (ts : List TypeId) (n j : ℕ) (lines : Lines) : Type 0 where
  pub words : List ℕ
  pub after : flat.Local
  pub state : after.state ≡ c.state
  pub passed : Passed w g c.slots after.slots
  pub runs : (rest : Lines) → run (lines ++ rest) (context_of w b) c ≡ run rest (context_of w b) after
  pub changed : Changed (length words) (w.slots.row + j) c.slots after.slots
  pub stand : StandFrom words after.slots (w.slots.row + j)
  pub are : AreArgumentsOf w.programs b.depth l.state c.state ts (row_of l.temps n (length ts)) words

pub rows-argued : (w : Scene) (formed : IsWellFormed w.programs.whole.table) (g : AreSlots w.slots) (b : Running) (known : Knowledge) (l : code.Local) (ts : List TypeId) (n j : ℕ)
    (lines : Lines) (c : flat.Local) → Point w g b known l c → AreArguments (world_of w) known n ts j lines → Rowed w g b l c ts n j lines
unfolding Line Then
rows-argued w formed g b known l [] n j lines c p is = subst (λ (js : Lines). Rowed w g b l c [] n j js) (sym is) (record {
  words = [];
  after = c;
  state = refl;
  passed = passed-none w g c.slots;
  runs = λ rest. refl;
  changed = record { others = λ a h. refl; long = refl };
  stand = λ i h. absurd (omega (arith, h));
  are = refl;
})
rows-argued w formed g b known l (t ∷ ts) n j lines c p (x, a, fact, place, held, room, (first, rest, copies_are, more, is)) =
    subst (λ (js : Lines). Rowed w g b l c (t ∷ ts) n j js) (sym (is ∙ ap (λ (js : Lines). js ++ rest) copies_are))
    (of (rows-argued w formed g b known l ts (suc n) (j + k) rest c1 p1 more))
  where
    k : ℕ
    k = words_in w.programs.whole t

    row : ℕ
    row = w.slots.row + j

    long : (words_by w.programs.whole.kind (shape_at w.programs.whole.table t) ≡ held_words w.programs.whole x.type)
        × (0 < words_by w.programs.whole.kind (shape_at w.programs.whole.table t))
    long = words-some w.programs (shape_at w.programs.whole.table t) x.type held

    z : Copied (context_of w b) c (words_in w.programs.whole t) (w.slots.row + j) a
    z = copied (context_of w b) c k row a (let h = row-room w g j k long.1 room in let e = p.count in omega (arith, h, e))

    apart : (q i : ℕ) → IsLasting (g.owner q) → i < words_in w.programs.whole t → (q ≡ w.slots.row + j + i) → ⊥
    apart q i lasts less e = row-apart w g q (j + i) lasts (omega (arith, less, room)) (omega (arith, e))

    same : bytes_at (words_in w.programs.whole t) z.by.slots (w.slots.row + j) ≡ bytes_at (words_in w.programs.whole t) c.slots a
    same = z.values (λ i m less few e. apart (a + m) i (known-lasting w g b known l c p (temp.Value n) x fact a place m (let h = long.0 in omega (arith, few, h)))
        (omega (arith, less, few)) e)

    passed : Passed w g c.slots z.by.slots
    passed = record { others = λ q lasts. z.by.changed.others q (λ i less e. apart q i lasts less e); long = z.by.changed.long }

    c1 : flat.Local
    c1 = record c { slots = z.by.slots }

    p1 : Point w g b known l (record c { slots = z.by.slots })
    p1 = passed-point w g b known l c (record c { slots = z.by.slots }) p refl passed

    own : List ℕ
    own = bytes_at (words_in w.programs.whole t) c.slots a

    count : length (bytes_at (words_in w.programs.whole t) c.slots a) ≡ words_in w.programs.whole t
    count = length-bytes_at (words_in w.programs.whole t) c.slots a

    of : Rowed w g b l (record c { slots = z.by.slots }) ts (suc n) (j + words_in w.programs.whole t) rest
        → Rowed w g b l c (t ∷ ts) n j (copies (words_in w.programs.whole t) (w.slots.row + j) a ++ rest)
    of r = record {
      words = own ++ r.words;
      after = r.after;
      state = r.state;
      passed = passed-then w g c.slots z.by.slots r.after.slots passed r.passed;
      runs = λ last. ap (λ (js : Lines). run js (context_of w b) c) (append-append (copies k row a) rest last) ∙ z.by.runs (rest ++ last) ∙ r.runs last;
      changed = subst (λ (m : ℕ). Changed m row c.slots r.after.slots) (let e = length-append own r.words in let f = count in sym (e ∙ ap (λ (m : ℕ). m + length r.words) f))
          (changed-both k (length r.words) row c.slots z.by.slots r.after.slots z.by.changed
          (subst (λ (m : ℕ). Changed (length r.words) m z.by.slots r.after.slots) (let e : w.slots.row + (j + k) ≡ row + k = omega arith in e) r.changed));
      stand = both-from own r.words r.after.slots row
          (λ i less. r.changed.others (row + i) (λ m h e. let f = count in omega (arith, less, e, f))
          ∙ sym (get-bytes_at k z.by.slots row i (let f = count in omega (arith, less, f))) ∙ ap (λ (ws : List ℕ). slice_index ws i) same)
          (subst (λ (m : ℕ). StandFrom r.words r.after.slots m) (let f = count in let e : w.slots.row + (j + k) ≡ row + length own = omega (arith, f) in e) r.stand);
      are = (
        own,
        r.words,
        refl,
        value-passed w formed g b known l c p (temp.Value n) x a fact place t held,
        subst (λ (m : ℕ). AreArgumentsOf w.programs b.depth l.state c.state ts (row_of l.temps m (length ts)) r.words) (let e : suc n ≡ n + 1 = omega arith in e) r.are,
      );
    }
