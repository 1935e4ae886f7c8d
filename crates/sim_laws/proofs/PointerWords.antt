-- The words of the address of a part: what its lines leave in the column stands for the pointer that C makes.
use Rattle.std.proofs.Common.{◌≡◌, ◌≢◌, ℕ, ◌+◌, ◌%◌, ◌^◌, ◌<◌, ◌≤◌, ◌⊎◌, inl, inr, List, [], ◌∷◌, pos, slice_get, slice_index, slice_set, Some, refl, ap, sym, subst, ◌∙◌, arith, length-set, get_or-set_same, get_or-set_other, length}
use Rattle.std.proofs.Math.Nat.{mod-eq_of_lt}
use Rattle.cc_base.specs.declared.kind.Kind.{Kind}
use Rattle.cc_base.specs.declared.kind.Kind.TheVariants.{Safe, Seq, Rtti, Wild}
use Rattle.cc_base.specs.declared.number.TypeId.{TypeId}
use Rattle.cc_base.specs.declared.number.NodeId.{NodeId}
use Rattle.c_types.specs.Sound.{IsWellFormed}
use Rattle.c_types.specs.Widths.{before}
use Rattle.integers.specs.Operators.{sum_words}
use Rattle.runs.specs.Outcome.{Done, Matches}
use Rattle.runs.specs.Control.{Goes}
use Rattle.src_mem.specs.Pointers.{Location, Pointer, At, Address}
use Rattle.src_mem.specs.State as source
use Rattle.src_mem.specs.State.{Setting}
use Rattle.src_mem.specs.Outlines.{Outline, outlines_of, lives_of, LivesAt}
use Rattle.src_mem.specs.Facts.{IsHeldIn, IsSequenceAt}
use Rattle.cil_form.specs.declared.number.Temp.{Temp}
use Rattle.cil_form.specs.State as code
use Rattle.cured_code.specs.declared.instr.Instr.TheVariants as flat_instr
use Rattle.cured_code.specs.FlatState as flat
use Rattle.cured_code.specs.FlatState.{slot}
use Rattle.cured_code.specs.FlatMachine.{Context, run}
use Rattle.check_forms.specs.Pieces.{Line, Then}
use Rattle.sim_relation.specs.Ground.{Ground, address, pointer_words, word_number}
use Rattle.sim_relation.specs.Related.{Related, ground_of}
use Rattle.sim_relation.specs.Points.{Knowledge, Number, AreWords}
use Rattle.sim_checks.proofs.Addresses.{there}
use Rattle.sim_memory.proofs.Finding.{sequence-here}
use Rattle.cure_rules.specs.Slots.{AreSlots, Column, Working, Role, Size, Offset, role_number, slot_of}
use Rattle.cure_rules.specs.Known.{Takes, Gets}
use Rattle.cure_rules.specs.Checks.{Seat}
use Rattle.cure_rules.specs.Pointing.{PartWords}
use Rattle.sim_laws.specs.Scenes.{Scene, Running, world_of, context_of}
use Rattle.sim_laws.specs.Points as points
use Rattle.sim_laws.specs.Points.{Point, IsLasting, Passed}
use Rattle.sim_laws.specs.Statements.{Lines, FlatOutcome, StatesEndAlike}
use Rattle.sim_laws.specs.Plain.{IsPlainKind}
use Rattle.sim_laws.proofs.Guards.{kept-at, passed-none, role-below, Got, got-number}
use Rattle.sim_laws.proofs.Giving.{Gave, gave-past, Changed, changed-one, changed-more, column-room}
use Rattle.sim_laws.proofs.Checks.{got-spares, passed-point}
use Rattle.sim_laws.proofs.Sets.{words-more, words-none}
use Rattle.sim_laws.proofs.Addresses.{one-at, three-at}
use Rattle.sim_laws.proofs.Rows.{HoldsRow, Comes, comes-same}

-- The pointer

-- to so many bytes of an object, where it stands
abbrev pub made_pointer : ℕ → ℕ → ℕ → TypeId → Pointer
made_pointer object from m t = At (record { object = object; part = record { low = from; high = from + m }; offset = pos from; made = t })

-- its words, where its part begins and ends at these addresses
abbrev pub made_words : Kind → ℕ → ℕ → List ℕ
made_words Safe start end = start ∷ []
made_words Seq start end = start ∷ start ∷ end ∷ []
made_words kind start end = []

pub words-made : (w : Setting) (number_of : TypeId → ℕ) (s : source.State) (c : flat.State) → IsWellFormed w.table → Related w number_of s c → (depth object from m : ℕ) (t : TypeId)
    (o : Outline) → slice_get (outlines_of s.memory) object ≡ Some o → LivesAt (lives_of s.memory) depth object → w.kind o.node ≢ Wild → (k : Kind) → IsPlainKind k
    → IsHeldIn w s.memory depth k t (made_pointer object from m t)
    → pointer_words (ground_of w number_of s c) k (made_pointer object from m t)
    ≡ made_words k (address (ground_of w number_of s c) object + before w.kind o.cells from) (address (ground_of w number_of s c) object + before w.kind o.cells (from + m))
words-made w number_of s c sound r depth object from m t o found lives untagged Safe plain held =
    ap (λ (n : ℕ). n ∷ []) (there w number_of s c r depth object from o found lives untagged).is
words-made w number_of s c sound r depth object from m t o found lives untagged Seq plain held = of held.value
  where
    g : Ground
    g = ground_of w number_of s c

    l : Location
    l = record { object = object; part = record { low = from; high = from + m }; offset = pos from; made = t }

    of : IsSequenceAt w (outlines_of s.memory) t l
        → pointer_words g Seq (At l) ≡ made_words Seq (address g object + before w.kind o.cells from) (address g object + before w.kind o.cells (from + m))
    of v =
        let same : v.object ≡ o = (let a = v.located.found in cc (a, found)) in
        let first = sequence-here w number_of s c sound t l v r depth lives from refl (omega arith) (omega arith)
        ∙ ap (λ (y : Outline). address g object + before w.kind y.cells from) same in
        let low = (there w number_of s c r depth object from o found lives untagged).is in
        let high = (there w number_of s c r depth object (from + m) o found lives untagged).is in
        three _ _ _ _ _ _ first low high
      where
        three : (a b c x y z : ℕ) → a ≡ x → b ≡ y → c ≡ z → a ∷ b ∷ c ∷ [] ≡ x ∷ y ∷ z ∷ []
        three a b c x y z e f h = cc (e, f, h)
words-made w number_of s c sound r depth object from m t o found lives untagged Rtti plain held = absurd plain
words-made w number_of s c sound r depth object from m t o found lives untagged Wild plain held = absurd plain

pub made-below : (k : Kind) (start end : ℕ) → start < 2 ^ 64 → end < 2 ^ 64 → AreWords (made_words k start end)
made-below Safe start end a b = words-more start [] a words-none
made-below Seq start end a b = words-more start (start ∷ end ∷ []) a (words-more start (end ∷ []) a (words-more end [] b words-none))
made-below Rtti start end a b = words-none
made-below Wild start end a b = words-none

-- The lines

-- a number that is kept, or set in the working slot of its role, is in no column
pub seat-apart : (w : Scene) (g : AreSlots w.slots) (into : Temp) (k : ℕ) → Takes (world_of w) into k → (r : Role) (n a : ℕ) (lines : Lines)
    → Gets (world_of w) r (Number n) a lines → (j : ℕ) → j < k → a ≢ w.slots.column into + j
seat-apart w g into k takes r n a lines gets j less e = by gets
  where
    column : g.owner a ≡ Column into j
    column = ap g.owner e ∙ (g.columns into j takes.0 (let h = takes.1 in omega (arith, less, h))).is

    by : Gets (world_of w) r (Number n) a lines → ⊥
    by (inl h) =
        let k = kept-at w (record { slot = a; content = Number n }) h.0 in let f = (g.kept k.0 (record { slot = a; content = Number n }) k.1).is in absurd (cc (column, f))
    by (inr h) = let f : g.owner a ≡ Working (role_number r) = ap g.owner h.0 ∙ (g.works (role_number r) (role-below r)).is in absurd (cc (column, f))

-- behind the number that they take, the lines write the words into the column, and no more
pub record RowMade (w : Scene) (g : AreSlots w.slots) (b : Running) (into : Temp) (k : Kind) (c : flat.Local) (lines : Lines) (words : List ℕ) : Type 0 where
  pub middle : flat.Local
  pub state : middle.state ≡ c.state
  pub passed : Passed w g c.slots middle.slots
  pub slots : List ℕ
  pub row : HoldsRow (word_number k) (w.slots.column into) words middle.slots slots
  pub runs : run lines (context_of w b) c ≡ Done Goes (record middle { slots = slots })

-- an address, the same again, and a sum
three-lines : (ctx : Context) (d : flat.Local) (v a o s : ℕ)
    → run (flat_instr.Add v a o ∷ flat_instr.Copy (v + 1) v ∷ flat_instr.Add (v + 2) v s ∷ []) ctx d
    ≡ Done Goes (record d {
      slots = slice_set (slice_set (slice_set d.slots v (sum_words (slot d a) (slot d o))) (v + 1) (slice_index (slice_set d.slots v (sum_words (slot d a) (slot d o))) v)) (v + 2)
          (sum_words (slice_index (slice_set (slice_set d.slots v (sum_words (slot d a) (slot d o))) (v + 1) (slice_index (slice_set d.slots v (sum_words (slot d a) (slot d o))) v)) v)
          (slice_index (slice_set (slice_set d.slots v (sum_words (slot d a) (slot d o))) (v + 1) (slice_index (slice_set d.slots v (sum_words (slot d a) (slot d o))) v)) s));
    })
three-lines ctx d v a o s = refl

-- what they leave
three-row : (slots : List ℕ) (v s start size : ℕ) → v + 3 ≤ length slots → (n m k : ℕ) → n ≡ start → m ≡ slice_index (slice_set slots v n) v
    → k ≡ sum_words (slice_index (slice_set (slice_set slots v n) (v + 1) m) v) (slice_index (slice_set (slice_set slots v n) (v + 1) m) s)
    → s ≢ v → s ≢ v + 1 → slice_index slots s ≡ size → start + size < 2 ^ 64
    → HoldsRow 3 v (start ∷ start ∷ (start + size) ∷ []) slots (slice_set (slice_set (slice_set slots v n) (v + 1) m) (v + 2) k)
three-row slots v s start size room n m k is_n is_m is_k other next sized small = record {
  changed = subst (λ (i : ℕ). Changed 3 v slots (slice_set (slice_set (slice_set slots v n) (v + 1) m) i k)) (let e : v + 1 + 1 ≡ v + 2 = omega arith in e)
      (changed-more 2 v n slots (slice_set (slice_set one (v + 1) m) (v + 1 + 1) k)
      (changed-more 1 (v + 1) m one (slice_set (slice_set one (v + 1) m) (v + 1 + 1) k) (changed-one two (v + 1 + 1) k)));
  is = three-at (slice_set two (v + 2) k) v start start (start + size)
      (get_or-set_other two (v + 2) v k 0 (λ e. omega (arith, e)) ∙ first)
      (get_or-set_other two (v + 2) (v + 1) k 0 (λ e. omega (arith, e)) ∙ get_or-set_same one (v + 1) m 0 (let e = length-set slots v n in omega (arith, e, room)) ∙ second)
      (ap (slice_index (slice_set two (v + 2) k)) (let e : v + 1 + 1 ≡ v + 2 = omega arith in e)
      ∙ get_or-set_same two (v + 2) k 0 (let e = length-set slots v n in let f = length-set one (v + 1) m in omega (arith, e, f, room)) ∙ third);
}
  where
    one : List ℕ
    one = slice_set slots v n

    two : List ℕ
    two = slice_set (slice_set slots v n) (v + 1) m

    start-is : slice_index (slice_set slots v n) v ≡ start
    start-is = get_or-set_same slots v n 0 (omega (arith, room)) ∙ is_n

    first : slice_index (slice_set (slice_set slots v n) (v + 1) m) v ≡ start
    first = get_or-set_other one (v + 1) v m 0 (λ e. omega (arith, e)) ∙ start-is

    second : m ≡ start
    second = is_m ∙ start-is

    size-is : slice_index (slice_set (slice_set slots v n) (v + 1) m) s ≡ size
    size-is = get_or-set_other one (v + 1) s m 0 next ∙ get_or-set_other slots v s n 0 other ∙ sized

    third : k ≡ start + size
    third = is_k ∙ ap (λ (x : ℕ). sum_words x (slice_index two s)) first ∙ ap (sum_words start) size-is ∙ mod-eq_of_lt small

pub row-made : (w : Scene) (g : AreSlots w.slots) (b : Running) (known : Knowledge) (l : code.Local) (c : flat.Local) → Point w g b known l c → (into : Temp) (k : Kind)
    → IsPlainKind k → Takes (world_of w) into (word_number k) → (seat : Seat) (size : ℕ) (t : TypeId) (a o base : ℕ) (lines : Lines)
    → PartWords k (world_of w) seat size t (w.slots.column into) a o base lines → IsLasting (g.owner a) → IsLasting (g.owner o) ⊎ (o ≡ slot_of w.slots Offset)
    → (start : ℕ) → slot c a + slot c o ≡ start → start + size < 2 ^ 64 → RowMade w g b into k c lines (made_words k start (start + size))
unfolding Line Then
row-made w g b known l c p into Safe plain takes seat size t a o base lines is a_lasts o_stays start sum small = record {
  middle = c;
  state = refl;
  passed = passed-none w g c.slots;
  slots = slice_set c.slots v (sum_words (slot c a) (slot c o));
  row = record {
    changed = changed-one c.slots v (sum_words (slot c a) (slot c o));
    is = one-at (slice_set c.slots v (sum_words (slot c a) (slot c o))) v start
        (get_or-set_same c.slots v (sum_words (slot c a) (slot c o)) 0 (let r = column-room w g into 1 takes (omega arith) in let n = p.count in omega (arith, r, n))
        ∙ ap (λ (n : ℕ). n % 2 ^ 64) sum ∙ mod-eq_of_lt (omega (arith, small)));
  };
  runs = ap (λ (js : Lines). run js (context_of w b) c) is;
}
  where
    v : ℕ
    v = w.slots.column into
row-made w g b known l c p into Seq plain takes seat size t a o base lines (first, rest, gets, is_rest, is) a_lasts o_stays start sum small =
    of (got-number w g b known l c p Size (omega arith) size (seat Size) first gets)
  where
    v : ℕ
    v = w.slots.column into

    of : Got w g (context_of w b) first c (seat Size) size → RowMade w g b into Seq c lines (start ∷ start ∷ (start + size) ∷ [])
    of z = record {
      middle = z.after;
      state = z.state;
      passed = z.passed;
      slots = slice_set (slice_set (slice_set z.after.slots v n) (v + 1) m) (v + 2) k;
      row = three-row z.after.slots v (seat Size) start size
          (let r = column-room w g into 3 takes (omega arith) in let e = p.count in let f = z.passed.long in omega (arith, r, e, f)) n m k is_n refl refl
          (λ e. seat-apart w g into 3 takes Size size (seat Size) first gets 0 (omega arith) (omega (arith, e)))
          (λ e. seat-apart w g into 3 takes Size size (seat Size) first gets 1 (omega arith) (omega (arith, e))) z.is small;
      runs = ap (λ (js : Lines). run js (context_of w b) c) is ∙ z.runs rest ∙ ap (λ (js : Lines). run js (context_of w b) z.after) is_rest
          ∙ three-lines (context_of w b) z.after v a o (seat Size);
    }
      where
        n : ℕ
        n = sum_words (slot z.after a) (slot z.after o)

        m : ℕ
        m = slice_index (slice_set z.after.slots v n) v

        k : ℕ
        k = sum_words (slice_index (slice_set (slice_set z.after.slots v n) (v + 1) m) v) (slice_index (slice_set (slice_set z.after.slots v n) (v + 1) m) (seat Size))

        is_n : n ≡ start
        is_n =
            ap (λ (x : ℕ). sum_words x (slot z.after o)) (z.passed.others a a_lasts)
            ∙ ap (sum_words (slot c a)) (got-spares w g b c Size size (seat Size) first gets z Offset refl o o_stays)
            ∙ ap (λ (x : ℕ). x % 2 ^ 64) sum ∙ mod-eq_of_lt (omega (arith, small))
row-made w g b known l c p into Rtti plain takes seat size t a o base lines is a_lasts o_stays start sum small = absurd plain
row-made w g b known l c p into Wild plain takes seat size t a o base lines is a_lasts o_stays start sum small = absurd plain

-- What is given

-- the column holds the words of the pointer
pub row-gives : (w : Scene) (g : AreSlots w.slots) (b : Running) (known after : Knowledge) (into : Temp) (l : code.Local) (c : flat.Local) → Point w g b known l c
    → (inner : NodeId) (q : Pointer) (lines : Lines) → Takes (world_of w) into (word_number (w.programs.whole.kind inner))
    → AreWords (pointer_words (points.ground_of w.programs l.state c.state) (w.programs.whole.kind inner) q)
    → RowMade w g b into (w.programs.whole.kind inner) c lines (pointer_words (points.ground_of w.programs l.state c.state) (w.programs.whole.kind inner) q)
    → ((d e : flat.Local) → Comes w g b into l d l.state e inner q → Gave w g b known after into l d (Address q) l.state Goes e)
    → Matches (Gave w g b known after into l c) (λ e s k d. StatesEndAlike w.programs e s k d.state) (Done (Address q) l.state) (run lines (context_of w b) c)
row-gives w g b known after into l c p inner q lines takes below y given =
    subst (λ (o : FlatOutcome). Matches (Gave w g b known after into l c) (λ e s k d. StatesEndAlike w.programs e s k d.state) (Done (Address q) l.state) o) (sym y.runs)
    (gave-past w g b known after into l c y.middle y.state y.passed (Address q) l.state Goes (record y.middle { slots = y.slots })
    (given y.middle (record y.middle { slots = y.slots })
    (comes-same w g b known into l y.middle y.slots inner q (passed-point w g b known l c y.middle p y.state y.passed) takes
    (subst (λ (x : flat.State). AreWords (pointer_words (points.ground_of w.programs l.state x) (w.programs.whole.kind inner) q)) (sym y.state) below)
    (subst (λ (x : flat.State). HoldsRow (word_number (w.programs.whole.kind inner)) (w.slots.column into)
    (pointer_words (points.ground_of w.programs l.state x) (w.programs.whole.kind inner) q) y.middle.slots y.slots) (sym y.state) y.row))))
