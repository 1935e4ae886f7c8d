-- Loads of integers and pointers, and stores of integers, through pointers without tags, behind NULL or BOUNDS.
use Rattle.std.proofs.Common.{◌≡◌, ◌≢◌, ℕ, ◌+◌, ◌^◌, ◌<◌, ◌≤◌, ℤ, pos, Bool, true, false, List, [], ◌∷◌, ◌++◌, length, slice_index, slice_set, Option, Some, None, refl, ap, sym, subst, ◌∙◌, arith, length-set, get_or-set_same}
use Rattle.std.proofs.Math.Nat.{mod-eq_of_lt}
use Rattle.cc_base.specs.declared.kind.Kind.{Kind}
use Rattle.cc_base.specs.declared.kind.Kind.TheVariants.{Safe, Seq, Rtti, Wild}
use Rattle.cc_base.specs.declared.number.TypeId.{TypeId}
use Rattle.cc_base.specs.declared.number.NodeId.{NodeId}
use Rattle.cc_base.specs.declared.place.Place.{Place}
use Rattle.c_types.specs.declared.shape.TypeShape.{TypeShape}
use Rattle.kind_sites.specs.declared.site.Site.{Site}
use Rattle.c_types.specs.declared.shape.TypeShape.TheVariants as shape
use Rattle.c_types.specs.Table.{IsComplete, shape_at, members_at, is_complete_entry}
use Rattle.c_types.specs.Layouts.{size_of}
use Rattle.integers.specs.Arithmetic.{IntegerType, converted, bits_of}
use Rattle.runs.specs.Outcome.{Outcome, Ended, Done, done, leaves, from, allowed, Matches, ◌>>◌}
use Rattle.runs.specs.Control.{Goes, then_go}
use Rattle.runs.proofs.RunLaws.{matches-weaker}
use Rattle.flat_mem.specs.Bytes.{IsAccessSize, bytes_at, written}
use Rattle.src_mem.specs.Pointers.{Pointer, Value, Integer, Address}
use Rattle.src_mem.specs.Memory.{Memory}
use Rattle.src_mem.specs.State as source
use Rattle.src_mem.specs.State.{Setting}
use Rattle.src_mem.specs.Checks.{Condition, NotNull, InBounds, ReadInteger, ReadPointer, WriteInteger, check_of, conditions_of, holds, all_placed, place_of_write}
use Rattle.src_mem.specs.Primitives.{load_integer, load_pointer, store_integer}
use Rattle.src_mem.specs.Uses.{read_shape, conditions_of_write, store_shape}
use Rattle.src_mem.specs.Values.{loaded, stored}
use Rattle.src_mem.specs.Outlines.{Life, AreOutlines, AreNoDeeper, outlines_of, lives_of}
use Rattle.src_mem.specs.Facts.{IsHeldIn, IsHeldBy, IsPlaceIn, IsSoundAt}
use Rattle.src_mem.specs.Laws.{Gives}
use Rattle.src_mem.proofs.Right.{integer_cells, pointer_size}
use Rattle.facts_kept.specs.Kept.{AllHold, GivesPointer, IsKept, asked_of}
use Rattle.facts_kept.proofs.Complete.{complete-some, complete-data}
use Rattle.facts_kept.proofs.Places.{held-place}
use Rattle.facts_kept.proofs.Reading.{gives-loaded}
use Rattle.facts_kept.proofs.Writing.{gives-stored_integer}
use Rattle.cil_form.specs.declared.number.Temp.{Temp}
use Rattle.cil_form.specs.declared.instr.Access.TheVariants as access
use Rattle.cil_form.specs.declared.instr.Target.TheVariants as target
use Rattle.cil_form.specs.declared.instr.Instr.TheVariants as instr
use Rattle.cil_form.specs.State as code
use Rattle.cil_form.specs.State.{with_temp, beside}
use Rattle.cil_form.specs.Meaning as meaning
use Rattle.cured_code.specs.declared.instr.Instr.TheVariants as flat_instr
use Rattle.cured_code.specs.FlatState as flat
use Rattle.cured_code.specs.FlatState.{slot, with_slot}
use Rattle.cured_code.specs.FlatMachine.{act, run}
use Rattle.check_forms.specs.declared.slots.PointerSlots.{PointerSlots}
use Rattle.check_forms.specs.declared.slots.Fixed.{Fixed}
use Rattle.check_forms.specs.declared.op.Op.TheVariants as op
use Rattle.check_forms.specs.declared.op.WildNumbers.{WildNumbers}
use Rattle.check_forms.specs.Pieces.{Line, Then}
use Rattle.check_forms.specs.Rows.{Asked, flat_conditions, reached}
use Rattle.check_forms.specs.RowChecks.{AreChecks, first_false, stopped_by}
use Rattle.sim_checks.specs.Rows.{AreWordsOf}
use Rattle.sim_relation.specs.Ground.{Ground, first_word, pointer_words, word_number}
use Rattle.sim_relation.specs.Points.{Form, Exact, Zeroed, Low, Knowledge, Sure, AreWords}
use Rattle.sim_relation.proofs.Pointers.{row-length}
use Rattle.sim_memory.specs.Found.{IsFound, GoOnAlike, loading}
use Rattle.sim_memory.specs.Laws.{IntegerIsLoaded, PointerIsLoaded}
use Rattle.sim_memory.proofs.Finding.{places-found}
use Rattle.sim_memory.proofs.Loading.{integers-loaded, pointers-loaded}
use Rattle.sim_memory.proofs.Storing.{integers-stored}
use Rattle.cure_rules.specs.Slots.{AreSlots, work_of}
use Rattle.cure_rules.specs.Known as rules
use Rattle.cure_rules.specs.Known.{Includes, IsAddress, IsLowly, IsPlainInteger, Takes, an_integer, pointer_slots}
use Rattle.cure_rules.specs.Checks.{Need, Seat, AreGot, numbers_of, reach_needs, size_at, read_pointer, wild_numbers}
use Rattle.cure_rules.specs.Accesses.{NarrowsLoaded, LoadsInteger, LoadsPointer, PointerLoaded, StoresInteger, integer_stored, words_loaded}
use Rattle.cure_rules.specs.Code.{Blocks}
use Rattle.sim_laws.specs.Scenes.{Scene, Running, setting_of, world_of, around_of, context_of}
use Rattle.sim_laws.specs.Points.{Point, Grows, IsLasting, Passed, ground_of}
use Rattle.sim_laws.specs.Statements.{Lines, CodeOutcome, FlatOutcome, StatesEndAlike, Match, Follows}
use Rattle.sim_laws.proofs.Points.{grows-then, some-words, unwritten}
use Rattle.sim_laws.proofs.Guards.{passed-none}
use Rattle.sim_laws.proofs.Giving.{Gave, changed-one, column-room}
use Rattle.sim_laws.proofs.Sets.{gave-integer}
use Rattle.sim_laws.proofs.Integers.{IsWidth, one, two, four, eight, width-of, converted-low, converted-twice}
use Rattle.sim_laws.proofs.Calculations.{Operand, lowly, low-gives}
use Rattle.sim_laws.proofs.Names.{Names, pointer-asked}
use Rattle.sim_laws.proofs.Rows.{HoldsRow, changed-written, gives-pointer}
use Rattle.sim_laws.proofs.Checks.{Guarded, StopsAlike, guarded, guarded-lasting, stops-alike, guard-gives}
use Rattle.sim_laws.proofs.Reaching.{Pointed, pointed, checked-words, reach-roles, reach-ready, reach-compared}
use Rattle.sim_laws.proofs.Stays.{grounds-kept, grows-kept, there-kept}

-- What C asks

-- conditions that let a run go on hold
pub all-held : (w : Setting) (place : Condition → Place) (cs : List Condition) (s : source.State) → all_placed w place cs s ≡ Done tt s → AllHold w s.memory cs
all-held w place [] s e = tt
all-held w place (c ∷ cs) s e = by (λ g. all-held w place cs s g) (holds w s.memory c) refl e
  where
    first : Bool → Outcome source.Ending source.State (Unit {0})
    first q = allowed q (source.Stopped (check_of c) (place c)) (done tt) s

    passes : Bool → Outcome source.Ending source.State (Unit {0})
    passes q = from (first q) (λ _. all_placed w place cs)

    on : Outcome source.Ending source.State (Unit {0})
    on = Done tt s

    by : (all_placed w place cs s ≡ on → AllHold w s.memory cs) → (q : Bool) → holds w s.memory c ≡ q → passes q ≡ on → (holds w s.memory c ≡ true) × AllHold w s.memory cs
    by further true f g = (f, further g)
    by further false f g = absurd (cc (g))

asked-of-read : (m : ℕ) (k : Kind) → k ≢ Wild → (q : Pointer) → conditions_of (ReadInteger m) k q ≡ asked_of m k q
asked-of-read m Safe plain q = refl
asked-of-read m Rtti plain q = refl
asked-of-read m Seq plain q = refl
asked-of-read m Wild plain q = absurd (plain refl)

pub asked-of-write : (m : ℕ) (k : Kind) → k ≢ Wild → (q : Pointer) → conditions_of (WriteInteger m) k q ≡ asked_of m k q
asked-of-write m Safe plain q = refl
asked-of-write m Rtti plain q = refl
asked-of-write m Seq plain q = refl
asked-of-write m Wild plain q = absurd (plain refl)

-- and what the lines ask
lines-of-read : (k : Kind) → k ≢ Wild → (p : PointerSlots) (size : Fixed) (at : Place) → flat_conditions (op.ReadInteger p size) k at ≡ reached k p size at
lines-of-read Safe plain p size at = refl
lines-of-read Rtti plain p size at = refl
lines-of-read Seq plain p size at = refl
lines-of-read Wild plain p size at = absurd (plain refl)

-- the first word stands in the first slot
pub first-of : (gr : Ground) (e : ℕ → ℕ) (p : PointerSlots) (k : Kind) (q : Pointer) → AreWordsOf gr e p k q → e p.first ≡ first_word gr k q
first-of gr e p Safe q h = h
first-of gr e p Rtti q h = h.0
first-of gr e p Seq q h = h.0
first-of gr e p Wild q h = h.0

-- an integer's type is complete, and has as many bytes
pub integer-complete : (w : Scene) (t : TypeId) (i : IntegerType) → shape_at w.programs.whole.table t ≡ shape.Integer i.bytes i.signed
    → IsComplete w.programs.whole.table t
integer-complete w t i e = ap (λ (s : TypeShape). is_complete_entry s (members_at w.programs.whole.table t)) e

-- C gives a value from a state in which no more has changed
gave-on : (w : Scene) (g : AreSlots w.slots) (b : Running) (known after : Knowledge) (into : Temp) (l k : code.Local) (c d : flat.Local)
    → Grows w.programs b.depth l.state k.state c.state d.state → d.slots ≡ c.slots
    → (o : Outcome source.Ending source.State Value) (q : FlatOutcome)
    → Matches (Gave w g b known after into k d) (λ e s f x. StatesEndAlike w.programs e s f x.state) o q
    → Matches (Gave w g b known after into l c) (λ e s f x. StatesEndAlike w.programs e s f x.state) o q
gave-on w g b known after into l k c d grow same o q h =
    matches-weaker (Gave w g b known after into k d) (Gave w g b known after into l c) (λ e s f x. StatesEndAlike w.programs e s f x.state)
    (λ e s f x. StatesEndAlike w.programs e s f x.state) o q (λ v s z x y. record {
      goes = y.goes;
      there = y.there;
      grows = grows-then w.programs b.depth l.state k.state s c.state d.state x.state grow y.grows;
      wrote = record {
        others = λ a spared. y.wrote.others a spared ∙ ap (λ (xs : List ℕ). slice_index xs a) same;
        long = y.wrote.long ∙ ap (λ (xs : List ℕ). length xs) same;
      };
      fact = y.fact;
      fits = y.fits;
      leave = y.leave;
    }) (λ e s f x y. y) h

-- An instruction that changes no temporary, behind what it checks.
pub guard-changes : (w : Scene) (g : AreSlots w.slots) (b : Running) (known after : Knowledge) (blocks : Blocks) (l : code.Local) (d : flat.Local)
    → Point w g b known l d → (first : Option Asked) (o : Outcome source.Ending source.State (Unit {0})) → StopsAlike first o l.state
    → (F : Outcome source.Ending source.State (Unit {0}) → Outcome source.Ending source.State (Unit {0})) → ((e : source.Ending) (s : source.State) → F (Ended e s) ≡ Ended e s)
    → (rest : Lines)
    → (first ≡ None → Match w g b after blocks (from (beside l.temps (F (Done tt l.state))) (λ u. done Goes)) (run rest (context_of w b) d))
    → Match w g b after blocks (from (beside l.temps (F o)) (λ u. done Goes)) (from (stopped_by first d) (λ x. then_go x (run rest (context_of w b))))
guard-changes w g b known after blocks l d p None o alike F ended rest goes =
    subst (λ (z : Outcome source.Ending source.State (Unit {0})). Match w g b after blocks (from (beside l.temps (F z)) (λ u. done Goes)) (run rest (context_of w b) d))
    (sym alike) (goes refl)
guard-changes w g b known after blocks l d p (Some a) o alike F ended rest goes =
    subst (λ (z : Outcome source.Ending source.State (Unit {0})). Match w g b after blocks (from (beside l.temps (F z)) (λ u. done Goes)) (Ended (flat.Stopped a.check a.place) d)) (sym alike)
    (subst (λ (z : Outcome source.Ending source.State (Unit {0})). Match w g b after blocks (from (beside l.temps z) (λ u. done Goes)) (Ended (flat.Stopped a.check a.place) d))
    (sym (ended (source.Stopped a.check a.place) l.state)) ((refl, refl), p.there.related))

-- A pointer behind its check

module _ (w : Scene) (names : Names w) (g : AreSlots w.slots) (b : Running) (known : Knowledge) (l : code.Local) (c : flat.Local) (p : Point w g b known l c)
    (t : Temp) (n : NodeId) (u : TypeId) (a : ℕ) (m : Pointed w g b l c t n u a) (plain : w.programs.whole.kind n ≢ Wild) (complete : IsComplete w.programs.whole.table u)
    (seat : Seat) (at : Place) (lines : Lines)
    (guard : Then (AreGot (world_of w) (reach_needs (w.programs.whole.kind n) (size_at (world_of w) seat (w.programs.whole.kind n) u)))
    (AreChecks (work_of w.slots) (reached (w.programs.whole.kind n) (pointer_slots a) (size_at (world_of w) seat (w.programs.whole.kind n) u) at)) lines) where
  abbrev k : Kind
  k = w.programs.whole.kind n

  abbrev size : Fixed
  size = size_at (world_of w) seat (w.programs.whole.kind n) u

  pub reach-guarded : Guarded w g b known l (reach_needs (w.programs.whole.kind n) (size_at (world_of w) seat (w.programs.whole.kind n) u))
      (reached (w.programs.whole.kind n) (pointer_slots a) (size_at (world_of w) seat (w.programs.whole.kind n) u) at) lines c
  reach-guarded = guarded w g b known l (reach_needs k size) (reached k (pointer_slots a) size at) lines c p
      (reach-roles w names g b known l c p t n u a m complete k plain size) guard
      (λ d passed there. reach-ready w names g b known l c p t n u a m complete k refl plain size at d there)

  abbrev first : Option Asked
  first = first_false w.programs.parts c.state.memory (reached k (pointer_slots a) size at) (slot reach-guarded.middle)

  pub reach-stops : (place : Condition → Place) → ((q : Pointer) → place (NotNull q) ≡ at) → ((i : ℕ) (q : Pointer) → place (InBounds i q) ≡ at)
      → StopsAlike (first_false w.programs.parts c.state.memory (reached (w.programs.whole.kind n) (pointer_slots a) (size_at (world_of w) seat (w.programs.whole.kind n) u) at) (slot reach-guarded.middle))
      (all_placed (setting_of w.programs) place (asked_of (size_of w.programs.whole.table u) (w.programs.whole.kind n) m.pointer) l.state) l.state
  reach-stops place null bounds = stops-alike w.programs.parts c.state.memory (slot reach-guarded.middle) (setting_of w.programs) place l.state
      (reached k (pointer_slots a) size at) (asked_of (size_of w.programs.whole.table u) k m.pointer)
      (reach-compared w names g b known l c p t n u a m complete k refl plain seat at place null bounds reach-guarded.middle reach-guarded.passed)

  -- where it passes, the pointer is a place
  pub reach-place : (place : Condition → Place) → all_placed (setting_of w.programs) place (asked_of (size_of w.programs.whole.table u) (w.programs.whole.kind n) m.pointer) l.state ≡ Done tt l.state
      → IsPlaceIn (setting_of w.programs) l.state.memory b.depth (w.programs.whole.kind n) u m.pointer
  reach-place place passes = held-place (setting_of w.programs) names.solved.well_formed (outlines_of l.state.memory) (lives_of l.state.memory) b.depth l.state.memory k u m.pointer
      (complete-data w.programs.whole.table names.solved.well_formed u complete) m.held.held
      (all-held (setting_of w.programs) place (asked_of (size_of w.programs.whole.table u) k m.pointer) l.state passes)

  -- and both machines find the same there
  pub reach-found : IsPlaceIn (setting_of w.programs) l.state.memory b.depth (w.programs.whole.kind n) u m.pointer
      → IsFound (setting_of w.programs) w.programs.whole.node l.state reach-guarded.after.state u m.pointer (slot reach-guarded.after a)
  reach-found placed =
      subst (λ (x : flat.State). IsFound (setting_of w.programs) w.programs.whole.node l.state x u m.pointer (slot reach-guarded.after a)) (sym reach-guarded.state)
      (subst (λ (x : ℕ). IsFound (setting_of w.programs) w.programs.whole.node l.state c.state u m.pointer x)
      (sym (guarded-lasting w g b known l (reach_needs k size) (reached k (pointer_slots a) size at) lines c reach-guarded a lasts
      ∙ first-of (ground_of w.programs l.state c.state) (slot c) (pointer_slots a) k m.pointer
      (checked-words w g b known l c c p (passed-none w g c.slots) t n u a m).words))
      (places-found (setting_of w.programs) w.programs.whole.node l.state c.state b.depth k u m.pointer names.solved.well_formed plain p.there.related m.held.held placed))
    where
      lasts : IsLasting (g.owner a)
      lasts = subst (λ (j : ℕ). IsLasting (g.owner j)) (let e : a + 0 ≡ a = omega arith in e) (m.lasting 0 (some-words k))

-- Loads

-- an integer with zeros above its bytes, or narrowed
loaded-gives : (w : Scene) (g : AreSlots w.slots) (b : Running) (known after : Knowledge) (into : Temp) (l : code.Local) (c : flat.Local) → Point w g b known l c
    → (i : IntegerType) (f : Form) (rest : Lines) → IsAccessSize i.bytes → Takes (world_of w) into 1 → NarrowsLoaded i (w.slots.column into) f rest
    → rules.Leaves known into (Some (an_integer (w.slots.column into) f i)) after → (n : ℕ) → n < 2 ^ bits_of i → n < 2 ^ 64
    → Matches (Gave w g b known after into l c) (λ e s k d. StatesEndAlike w.programs e s k d.state) (Done (Integer (converted i (pos n))) l.state)
    (run rest (context_of w b) (with_slot (w.slots.column into) n c))
unfolding Line
loaded-gives w g b known after into l c p i Exact rest size takes narrows leave n less below =
    low-gives w g b known after into l c p i Exact rest size takes narrows leave (pos n) n refl below
loaded-gives w g b known after into l c p i Low rest size takes narrows leave n less below = absurd narrows
loaded-gives w g b known after into l c p i Zeroed rest size takes narrows leave n less below =
    subst (λ (js : Lines). Matches (Gave w g b known after into l c) (λ e s k d. StatesEndAlike w.programs e s k d.state) (Done (Integer (converted i (pos n))) l.state)
    (run js (context_of w b) (with_slot v n c))) (sym narrows)
    (gave-integer w g b known after into i Zeroed (converted i (pos n)) l c (slice_set c.slots v n) p takes (changed-one c.slots v n) size (converted-twice i size (pos n))
    (here ∙ sym (mod-eq_of_lt less) ∙ sym (converted-low i size (pos n))) (subst (λ (x : ℕ). x < 2 ^ 64) (sym here) below) leave)
  where
    v : ℕ
    v = w.slots.column into

    here : slice_index (slice_set c.slots (w.slots.column into) n) (w.slots.column into) ≡ n
    here = get_or-set_same c.slots (w.slots.column into) n 0 (let r = column-room w g into 1 takes (omega arith) in let q = p.count in omega (arith, r, q))

-- an integer of at most 64 bits is a word
small-word : (n m : ℕ) → IsWidth m → n < m → n < 2 ^ 64
small-word n m one h = omega (arith, h)
small-word n m two h = omega (arith, h)
small-word n m four h = omega (arith, h)
small-word n m eight h = h

pub load-integer-follows : (w : Scene) (names : Names w) (g : AreSlots w.slots) (b : Running) (into held : Temp) (n : NodeId) (t : TypeId) (at : Place) (known after : Knowledge)
    (blocks : Blocks) (lines : Lines) (a : ℕ) (sure : List Sure) → w.programs.whole.kind n ≢ Wild → IsAddress known held n t a sure
    → LoadsInteger (world_of w) into t a (w.programs.whole.kind n) at known after lines
    → Follows w g b blocks known after (meaning.act (instr.Access (access.Load into held n t at)) (around_of w b)) lines
unfolding Line Then
load-integer-follows w names g b into held n t at known after blocks lines a sure plain address
    (i, f, seat, integer, takes, (first, more, guard, (line, rest, is_line, narrows, is_more), is), leave) l c p =
    subst (λ (js : Lines). Match w g b after blocks (given (loaded (setting_of w.programs) at n t (l.temps held) l.state)) (run js (context_of w b) c)) (sym is)
    (subst (λ (v : Value). Match w g b after blocks (given (loaded (setting_of w.programs) at n t v l.state)) (run (first ++ more) (context_of w b) c)) (sym m.value)
    (subst (λ (h : TypeShape). Match w g b after blocks (given (read_shape (setting_of w.programs) at k h m.pointer l.state)) (run (first ++ more) (context_of w b) c)) (sym integer.0)
    (subst (λ (cs : List Condition). Match w g b after blocks (given (F (all_placed (setting_of w.programs) (λ x. at) cs l.state))) (run (first ++ more) (context_of w b) c))
    (sym (asked-of-read i.bytes k plain m.pointer ∙ ap (λ (x : ℕ). asked_of x k m.pointer) (sym sized)))
    (subst (λ (o : FlatOutcome). Match w g b after blocks (given (F (all_placed (setting_of w.programs) (λ x. at) (asked_of (size_of w.programs.whole.table t) k m.pointer) l.state))) o) (sym (z.runs more))
    (guard-gives w g b known after blocks into l z.after z.point stop
    (all_placed (setting_of w.programs) (λ x. at) (asked_of (size_of w.programs.whole.table t) k m.pointer) l.state) alike F (λ e s. refl) more gives)))))
  where
    k : Kind
    k = w.programs.whole.kind n

    m : Pointed w g b l c held n t a
    m = pointed w g b known l c p held n t a sure address

    complete : IsComplete w.programs.whole.table t
    complete = integer-complete w t i integer.0

    sized : size_of w.programs.whole.table t ≡ i.bytes
    sized = sym (complete-some w.programs.whole.table names.solved.well_formed t complete).1 ∙ integer_cells w.programs.whole.table t i.bytes i.signed integer.0

    given : Outcome source.Ending source.State Value → CodeOutcome
    given y = from (beside l.temps y) (λ v. leaves (λ (x : code.Local). record x { temps = with_temp into v x.temps }) >> done Goes)

    F : Outcome source.Ending source.State (Unit {0}) → Outcome source.Ending source.State Value
    F o = from o (λ u. λ s. from (load_integer (w.programs.whole.kind n) i m.pointer s) (λ z. done (Integer z)))

    conditions : List Asked
    conditions = reached (w.programs.whole.kind n) (pointer_slots a) (size_at (world_of w) seat (w.programs.whole.kind n) t) at

    guarding : Then (AreGot (world_of w) (reach_needs (w.programs.whole.kind n) (size_at (world_of w) seat (w.programs.whole.kind n) t)))
        (AreChecks (work_of w.slots) (reached (w.programs.whole.kind n) (pointer_slots a) (size_at (world_of w) seat (w.programs.whole.kind n) t) at)) first
    guarding = subst (λ (as' : List Asked). Then (AreGot (world_of w) (reach_needs (w.programs.whole.kind n) (size_at (world_of w) seat (w.programs.whole.kind n) t))) (AreChecks (work_of w.slots) as') first)
        (lines-of-read (w.programs.whole.kind n) plain (pointer_slots a) (size_at (world_of w) seat (w.programs.whole.kind n) t) at) guard

    z : Guarded w g b known l (reach_needs (w.programs.whole.kind n) (size_at (world_of w) seat (w.programs.whole.kind n) t))
        (reached (w.programs.whole.kind n) (pointer_slots a) (size_at (world_of w) seat (w.programs.whole.kind n) t) at) first c
    z = reach-guarded w names g b known l c p held n t a m plain complete seat at first guarding

    stop : Option Asked
    stop = first_false w.programs.parts c.state.memory (reached (w.programs.whole.kind n) (pointer_slots a) (size_at (world_of w) seat (w.programs.whole.kind n) t) at) (slot z.middle)

    alike : StopsAlike stop (all_placed (setting_of w.programs) (λ x. at) (asked_of (size_of w.programs.whole.table t) (w.programs.whole.kind n) m.pointer) l.state) l.state
    alike = reach-stops w names g b known l c p held n t a m plain complete seat at first guarding (λ x. at) (λ q. refl) (λ j q. refl)

    passes : stop ≡ None → all_placed (setting_of w.programs) (λ x. at) (asked_of (size_of w.programs.whole.table t) (w.programs.whole.kind n) m.pointer) l.state ≡ Done tt l.state
    passes e = subst (λ (o : Option Asked). StopsAlike o (all_placed (setting_of w.programs) (λ x. at) (asked_of (size_of w.programs.whole.table t) (w.programs.whole.kind n) m.pointer) l.state) l.state) e alike

    gives : stop ≡ None → Matches (Gave w g b known after into l z.after) (λ e s h d. StatesEndAlike w.programs e s h d.state) (F (Done tt l.state)) (run more (context_of w b) z.after)
    gives none = of (integers-loaded (setting_of w.programs) w.programs.whole.node k t i m.pointer l.state (context_of w b) (w.slots.column into) a z.after plain integer.0 integer.1
        z.point.there.related (reach-found w names g b known l c p held n t a m plain complete seat at first guarding
        (reach-place w names g b known l c p held n t a m plain complete seat at first guarding (λ x. at) (passes none))))
      where
        Goal : Outcome source.Ending source.State Value → FlatOutcome → Type 0
        Goal o q = Matches (Gave w g b known after into l z.after) (λ e s h d. StatesEndAlike w.programs e s h d.state) o q

        of : IntegerIsLoaded (setting_of w.programs) w.programs.whole.node (w.programs.whole.kind n) i m.pointer l.state (context_of w b) (w.slots.column into) a z.after
            → Goal (F (Done tt l.state)) (run more (context_of w b) z.after)
        of y =
            subst (λ (js : Lines). Goal (F (Done tt l.state)) (run js (context_of w b) z.after)) (sym (is_more ∙ ap (λ (js : Lines). js ++ rest) is_line))
            (subst (λ (o : Outcome source.Ending source.State ℤ). Goal (from o (λ v. done (Integer v))) (run (flat_instr.Ld i.bytes (w.slots.column into) a ∷ rest) (context_of w b) z.after)) (sym y.goes_on.source_goes)
            (subst (λ (q : FlatOutcome). Goal (Done (Integer (converted i (pos y.number))) y.goes_on.next) (from q (λ x. then_go x (run rest (context_of w b))))) (sym y.goes_on.flat_goes)
            (subst (λ (xs : List ℕ). Goal (Done (Integer (converted i (pos y.number))) y.goes_on.next) (run rest (context_of w b) (record { state = y.goes_on.after.state; slots = xs }))) (sym y.goes_on.slots_are)
            (gave-on w g b known after into l (record { state = y.goes_on.next; temps = l.temps }) z.after (record { state = y.goes_on.after.state; slots = z.after.slots }) grow refl
            (Done (Integer (converted i (pos y.number))) y.goes_on.next) (run rest (context_of w b) (with_slot (w.slots.column into) y.number (record { state = y.goes_on.after.state; slots = z.after.slots })))
            (loaded-gives w g b known after into (record { state = y.goes_on.next; temps = l.temps }) (record { state = y.goes_on.after.state; slots = z.after.slots }) there
            i f rest integer.1 takes narrows leave y.number y.below (small-word y.number (2 ^ bits_of i) (width-of i.bytes integer.1) y.below))))))
          where
            grow : Grows w.programs b.depth l.state y.goes_on.next z.after.state y.goes_on.after.state
            grow = grows-kept w.programs l.state y.goes_on.next z.after.state y.goes_on.after.state y.goes_on.stays b.depth

            there : Point w g b known (record { state = y.goes_on.next; temps = l.temps }) (record { state = y.goes_on.after.state; slots = z.after.slots })
            there = unwritten w g b known known l y.goes_on.next z.after (record { state = y.goes_on.after.state; slots = z.after.slots }) z.point
                (there-kept w.programs l.state y.goes_on.next z.after.state y.goes_on.after.state y.goes_on.stays b p.outer z.point.there y.goes_on.related
                (subst (λ (x : Memory). IsSoundAt (setting_of w.programs) w.programs.sites x b.depth) (sym y.memory) p.there.facts))
                grow (passed-none w g z.after.slots) (λ x d e. e)

few-words : (k : Kind) → word_number k ≤ 3
few-words Safe = omega arith
few-words Rtti = omega arith
few-words Seq = omega arith
few-words Wild = omega arith

-- A pointer of any kind

lines-of-pointer : (k : Kind) → k ≢ Wild → (p : PointerSlots) (size : Fixed) (numbers : WildNumbers) (at : Place)
    → flat_conditions (op.ReadPointer p size numbers) k at ≡ reached k p size at
lines-of-pointer Safe plain p size numbers at = refl
lines-of-pointer Rtti plain p size numbers at = refl
lines-of-pointer Seq plain p size numbers at = refl
lines-of-pointer Wild plain p size numbers at = absurd (plain refl)

nil-twice : (xs : List Need) → xs ++ [] ++ [] ≡ xs
nil-twice [] = refl
nil-twice (x ∷ xs) = ap (λ (ys : List Need). x ∷ ys) (nil-twice xs)

needs-of-pointer : (k : Kind) → k ≢ Wild → (p : PointerSlots) (size : Fixed) (numbers : WildNumbers) → numbers_of (op.ReadPointer p size numbers) k ≡ reach_needs k size
needs-of-pointer Safe plain p size numbers = refl
needs-of-pointer Rtti plain p size numbers = refl
needs-of-pointer Seq plain p size numbers = nil-twice (reach_needs Seq size)
needs-of-pointer Wild plain p size numbers = absurd (plain refl)

asked-of-pointer : (k : Kind) → k ≢ Wild → (q : Pointer) → conditions_of ReadPointer k q ≡ asked_of 8 k q
asked-of-pointer Safe plain q = refl
asked-of-pointer Rtti plain q = refl
asked-of-pointer Seq plain q = refl
asked-of-pointer Wild plain q = absurd (plain refl)

line-of-load : (k : Kind) → (v a : ℕ) → words_loaded k v a ≡ loading k v a ∷ []
line-of-load Safe v a = refl
line-of-load Rtti v a = refl
line-of-load Seq v a = refl
line-of-load Wild v a = refl

lines-of-load : (outer k : Kind) → outer ≢ Wild → (w : Scene) (v a : ℕ) (lines : Lines) → PointerLoaded outer k (world_of w) v a lines → lines ≡ loading k v a ∷ []
unfolding Line
lines-of-load Safe k plain w v a lines h = h ∙ line-of-load k v a
lines-of-load Rtti k plain w v a lines h = h ∙ line-of-load k v a
lines-of-load Seq k plain w v a lines h = h ∙ line-of-load k v a
lines-of-load Wild k plain w v a lines h = absurd (plain refl)

-- what is written into a row of slots stands there
pub written-row : (words slots : List ℕ) (v : ℕ) → v + length words ≤ length slots → bytes_at (length words) (written words slots v) v ≡ words
unfolding bytes_at written
written-row [] slots v room = refl
written-row (n ∷ words) slots v room =
    ap (λ (x : ℕ). x ∷ bytes_at (length words) (written words (slice_set slots v n) (v + 1)) (v + 1))
    ((changed-written words (slice_set slots v n) (v + 1)).others v (λ j l e. omega (arith, e)) ∙ get_or-set_same slots v n 0 (omega (arith, room)))
    ∙ ap (λ (xs : List ℕ). n ∷ xs) (written-row words (slice_set slots v n) (v + 1) (let e = length-set slots v n in omega (arith, room, e)))

pub load-pointer-follows : (w : Scene) (names : Names w) (g : AreSlots w.slots) (b : Running) (into held : Temp) (n : NodeId) (t : TypeId) (at : Place) (known after : Knowledge)
    (blocks : Blocks) (lines : Lines) (a : ℕ) (sure : List Sure) → w.programs.whole.kind n ≢ Wild → IsAddress known held n t a sure
    → LoadsPointer (world_of w) into t a (w.programs.whole.kind n) at known after lines
    → Follows w g b blocks known after (meaning.act (instr.Access (access.Load into held n t at)) (around_of w b)) lines
unfolding Then
load-pointer-follows w names g b into held n t at known after blocks lines a sure plain address
    (x, u, seat, pointer, takes, (first, more, guard, loads, is), leave) l c p =
    subst (λ (js : Lines). Match w g b after blocks (given (loaded (setting_of w.programs) at n t (l.temps held) l.state)) (run js (context_of w b) c)) (sym is)
    (subst (λ (v : Value). Match w g b after blocks (given (loaded (setting_of w.programs) at n t v l.state)) (run (first ++ more) (context_of w b) c)) (sym m.value)
    (subst (λ (h : TypeShape). Match w g b after blocks (given (read_shape (setting_of w.programs) at k h m.pointer l.state)) (run (first ++ more) (context_of w b) c)) (sym pointer)
    (subst (λ (cs : List Condition). Match w g b after blocks (given (F (all_placed (setting_of w.programs) (λ y. at) cs l.state))) (run (first ++ more) (context_of w b) c))
    (sym (asked-of-pointer k plain m.pointer ∙ ap (λ (y : ℕ). asked_of y k m.pointer) (sym sized)))
    (subst (λ (o : FlatOutcome). Match w g b after blocks (given (F (all_placed (setting_of w.programs) (λ y. at) (asked_of (size_of w.programs.whole.table t) k m.pointer) l.state))) o) (sym (z.runs more))
    (guard-gives w g b known after blocks into l z.after z.point stop
    (all_placed (setting_of w.programs) (λ y. at) (asked_of (size_of w.programs.whole.table t) k m.pointer) l.state) alike F (λ e s. refl) more gives)))))
  where
    k : Kind
    k = w.programs.whole.kind n

    m : Pointed w g b l c held n t a
    m = pointed w g b known l c p held n t a sure address

    complete : IsComplete w.programs.whole.table t
    complete = ap (λ (s : TypeShape). is_complete_entry s (members_at w.programs.whole.table t)) pointer

    sized : size_of w.programs.whole.table t ≡ 8
    sized = pointer_size w.programs.whole.table t x u pointer

    given : Outcome source.Ending source.State Value → CodeOutcome
    given y = from (beside l.temps y) (λ v. leaves (λ (x : code.Local). record x { temps = with_temp into v x.temps }) >> done Goes)

    F : Outcome source.Ending source.State (Unit {0}) → Outcome source.Ending source.State Value
    F o = from o (λ u. λ s. from (load_pointer (w.programs.whole.kind n) m.pointer s) (λ q. done (Address q)))

    guarding : Then (AreGot (world_of w) (reach_needs (w.programs.whole.kind n) (size_at (world_of w) seat (w.programs.whole.kind n) t)))
        (AreChecks (work_of w.slots) (reached (w.programs.whole.kind n) (pointer_slots a) (size_at (world_of w) seat (w.programs.whole.kind n) t) at)) first
    guarding = subst (λ (as' : List Asked). Then (AreGot (world_of w) (reach_needs (w.programs.whole.kind n) (size_at (world_of w) seat (w.programs.whole.kind n) t))) (AreChecks (work_of w.slots) as') first)
        (lines-of-pointer (w.programs.whole.kind n) plain (pointer_slots a) (size_at (world_of w) seat (w.programs.whole.kind n) t) (wild_numbers (world_of w) seat) at)
        (subst (λ (xs : List Need). Then (AreGot (world_of w) xs) (AreChecks (work_of w.slots) (flat_conditions (read_pointer (world_of w) seat (w.programs.whole.kind n) t (pointer_slots a)) (w.programs.whole.kind n) at)) first)
        (needs-of-pointer (w.programs.whole.kind n) plain (pointer_slots a) (size_at (world_of w) seat (w.programs.whole.kind n) t) (wild_numbers (world_of w) seat)) guard)

    z : Guarded w g b known l (reach_needs (w.programs.whole.kind n) (size_at (world_of w) seat (w.programs.whole.kind n) t))
        (reached (w.programs.whole.kind n) (pointer_slots a) (size_at (world_of w) seat (w.programs.whole.kind n) t) at) first c
    z = reach-guarded w names g b known l c p held n t a m plain complete seat at first guarding

    stop : Option Asked
    stop = first_false w.programs.parts c.state.memory (reached (w.programs.whole.kind n) (pointer_slots a) (size_at (world_of w) seat (w.programs.whole.kind n) t) at) (slot z.middle)

    alike : StopsAlike stop (all_placed (setting_of w.programs) (λ x. at) (asked_of (size_of w.programs.whole.table t) (w.programs.whole.kind n) m.pointer) l.state) l.state
    alike = reach-stops w names g b known l c p held n t a m plain complete seat at first guarding (λ x. at) (λ q. refl) (λ j q. refl)

    passes : stop ≡ None → all_placed (setting_of w.programs) (λ x. at) (asked_of (size_of w.programs.whole.table t) (w.programs.whole.kind n) m.pointer) l.state ≡ Done tt l.state
    passes e = subst (λ (o : Option Asked). StopsAlike o (all_placed (setting_of w.programs) (λ x. at) (asked_of (size_of w.programs.whole.table t) (w.programs.whole.kind n) m.pointer) l.state) l.state) e alike

    gives : stop ≡ None → Matches (Gave w g b known after into l z.after) (λ e s h d. StatesEndAlike w.programs e s h d.state) (F (Done tt l.state)) (run more (context_of w b) z.after)
    gives none = of (pointers-loaded (setting_of w.programs) w.programs.sites w.programs.whole.node k t x u m.pointer l.state (context_of w b) (w.slots.column into) a z.after names.solved.well_formed
        plain pointer p.there.facts.objects z.point.there.related (reach-found w names g b known l c p held n t a m plain complete seat at first guarding placed))
      where
        placed : IsPlaceIn (setting_of w.programs) l.state.memory b.depth (w.programs.whole.kind n) t m.pointer
        placed = reach-place w names g b known l c p held n t a m plain complete seat at first guarding (λ y. at) (passes none)

        Goal : Outcome source.Ending source.State Value → FlatOutcome → Type 0
        Goal o q = Matches (Gave w g b known after into l z.after) (λ e s h d. StatesEndAlike w.programs e s h d.state) o q

        of : PointerIsLoaded (setting_of w.programs) w.programs.whole.node (w.programs.whole.kind n) x m.pointer l.state (context_of w b) (w.slots.column into) a z.after
            → Goal (F (Done tt l.state)) (run more (context_of w b) z.after)
        of y =
            subst (λ (js : Lines). Goal (F (Done tt l.state)) (run js (context_of w b) z.after))
            (sym (lines-of-load (w.programs.whole.kind n) (w.programs.whole.kind x) plain w (w.slots.column into) a more loads))
            (subst (λ (o : Outcome source.Ending source.State Pointer). Goal (from o (λ q. done (Address q))) (run (loading (w.programs.whole.kind x) (w.slots.column into) a ∷ []) (context_of w b) z.after)) (sym y.goes_on.source_goes)
            (subst (λ (q : FlatOutcome). Goal (Done (Address y.pointer) y.goes_on.next) (from q (λ h. then_go h (run [] (context_of w b))))) (sym y.goes_on.flat_goes)
            (gives-pointer w g b known after into l z.after y.goes_on.next y.goes_on.after x u y.pointer (record {
              there = there-kept w.programs l.state y.goes_on.next z.after.state y.goes_on.after.state y.goes_on.stays b p.outer z.point.there y.goes_on.related
                  (subst (λ (h : Memory). IsSoundAt (setting_of w.programs) w.programs.sites h b.depth) (sym y.memory) p.there.facts);
              grows = grow;
              takes = takes;
              words = subst AreWords (sym grounds) y.words;
              row = subst (λ (ws : List ℕ). HoldsRow (word_number (w.programs.whole.kind x)) (w.slots.column into) ws z.after.slots y.goes_on.after.slots) (sym grounds)
                  (subst (λ (xs : List ℕ). HoldsRow (word_number (w.programs.whole.kind x)) (w.slots.column into) words z.after.slots xs) (sym y.goes_on.slots_are)
                  (subst (λ (j : ℕ). HoldsRow j (w.slots.column into) words z.after.slots (written words z.after.slots (w.slots.column into))) wide
                  (record { changed = changed-written words z.after.slots (w.slots.column into); is = written-row words z.after.slots (w.slots.column into) room })));
            }) given-held (pointer-asked w names t x u pointer) leave)))
          where
            grow : Grows w.programs b.depth l.state y.goes_on.next z.after.state y.goes_on.after.state
            grow = grows-kept w.programs l.state y.goes_on.next z.after.state y.goes_on.after.state y.goes_on.stays b.depth

            words : List ℕ
            words = pointer_words (ground_of w.programs l.state z.after.state) (w.programs.whole.kind x) y.pointer

            wide : length (pointer_words (ground_of w.programs l.state z.after.state) (w.programs.whole.kind x) y.pointer) ≡ word_number (w.programs.whole.kind x)
            wide = row-length (w.programs.whole.kind x) _ _ _

            room : w.slots.column into + length (pointer_words (ground_of w.programs l.state z.after.state) (w.programs.whole.kind x) y.pointer) ≤ length z.after.slots
            room = let r = column-room w g into (word_number (w.programs.whole.kind x)) takes (few-words (w.programs.whole.kind x)) in let q = z.point.count in let e = wide in omega (arith, r, q, e)

            grounds : pointer_words (ground_of w.programs y.goes_on.next y.goes_on.after.state) (w.programs.whole.kind x) y.pointer
                ≡ pointer_words (ground_of w.programs l.state z.after.state) (w.programs.whole.kind x) y.pointer
            grounds = ap (λ (h : Ground). pointer_words h (w.programs.whole.kind x) y.pointer)
                (grounds-kept w.programs l.state y.goes_on.next z.after.state y.goes_on.after.state y.goes_on.stays)

            given-pointer : GivesPointer (setting_of w.programs) w.programs.sites b.depth (w.programs.whole.kind x) u l.state y.pointer y.goes_on.next
            given-pointer = subst (λ (o : Outcome source.Ending source.State Pointer). Gives o (GivesPointer (setting_of w.programs) w.programs.sites b.depth (w.programs.whole.kind x) u l.state)) y.goes_on.source_goes
                (gives-loaded (setting_of w.programs) names.solved.well_formed w.programs.sites t u x pointer l.state b.depth p.there.facts.objects (w.programs.whole.kind n) plain m.pointer placed)

            given-held : IsHeldBy (setting_of w.programs) w.programs.sites y.goes_on.next.memory b.depth x u y.pointer
            given-held = record {
              held = subst (λ (h : Memory). IsHeldIn (setting_of w.programs) h b.depth (w.programs.whole.kind x) u y.pointer) (sym y.memory) given-pointer.held;
              made = λ h. given-pointer.made;
            }

-- Stores

-- the memory behind a store is sound, with the outlines and lives that it had
pub facts-kept : (w : Setting) (sites : List Site) (old new : Memory) (depth : ℕ) → IsKept w sites old new → IsSoundAt w sites old depth → IsSoundAt w sites new depth
facts-kept w sites old new depth kept facts = record {
  objects = kept.sound;
  outlines = subst (AreOutlines w) (sym kept.outlines) facts.outlines;
  lives = subst (λ (ls : List Life). AreNoDeeper ls depth) (sym kept.lives) facts.lives;
}

lines-of-write : (k : Kind) → k ≢ Wild → (p : PointerSlots) (size : Fixed) (at : Place) → flat_conditions (op.WriteInteger p size) k at ≡ reached k p size at
lines-of-write Safe plain p size at = refl
lines-of-write Rtti plain p size at = refl
lines-of-write Seq plain p size at = refl
lines-of-write Wild plain p size at = absurd (plain refl)

pub line-of-store : (k : Kind) → k ≢ Wild → (bytes : ℕ) (s : PointerSlots) (v : ℕ) → integer_stored k bytes s v ≡ flat_instr.St bytes s.first v ∷ []
line-of-store Safe plain bytes s v = refl
line-of-store Rtti plain bytes s v = refl
line-of-store Seq plain bytes s v = refl
line-of-store Wild plain bytes s v = absurd (plain refl)

pub store-integer-follows : (w : Scene) (names : Names w) (g : AreSlots w.slots) (b : Running) (to v : Temp) (n : NodeId) (t : TypeId) (at assignment : Place) (known after : Knowledge)
    (blocks : Blocks) (lines : Lines) (a : ℕ) (sure : List Sure) → w.programs.whole.kind n ≢ Wild → IsAddress known to n t a sure → Includes known after
    → StoresInteger (world_of w) v t (pointer_slots a) (w.programs.whole.kind n) at known lines
    → Follows w g b blocks known after (meaning.act (instr.Access (access.Store (target.Pointer to n) v t at assignment)) (around_of w b)) lines
unfolding Line Then
store-integer-follows w names g b to v n t at assignment known after blocks lines a sure plain address less
    (i, d, seat, integer, low, (first, more, guard, line, is)) l c p =
    subst (λ (js : Lines). Match w g b after blocks (changed (stored (setting_of w.programs) at assignment n t (l.temps to) (l.temps v) l.state)) (run js (context_of w b) c)) (sym is)
    (subst (λ (x : Value). Match w g b after blocks (changed (stored (setting_of w.programs) at assignment n t x (l.temps v) l.state)) (run (first ++ more) (context_of w b) c)) (sym m.value)
    (subst (λ (x : Value). Match w g b after blocks (changed (stored (setting_of w.programs) at assignment n t (Address m.pointer) x l.state)) (run (first ++ more) (context_of w b) c)) (sym o.value)
    (subst (λ (h : TypeShape). Match w g b after blocks (changed (writes h)) (run (first ++ more) (context_of w b) c)) (sym integer.0)
    (subst (λ (cs : List Condition). Match w g b after blocks (changed (F (all_placed (setting_of w.programs) place cs l.state))) (run (first ++ more) (context_of w b) c))
    (sym (asked-of-write i.bytes k plain m.pointer ∙ ap (λ (x : ℕ). asked_of x k m.pointer) (sym sized)))
    (subst (λ (q : FlatOutcome). Match w g b after blocks (changed (F (all_placed (setting_of w.programs) place (asked_of (size_of w.programs.whole.table t) k m.pointer) l.state))) q) (sym (z.runs more))
    (guard-changes w g b known after blocks l z.after z.point stop
    (all_placed (setting_of w.programs) place (asked_of (size_of w.programs.whole.table t) k m.pointer) l.state) alike F (λ e s. refl) more goes))))))
  where
    k : Kind
    k = w.programs.whole.kind n

    place : Condition → Place
    place = place_of_write at assignment

    m : Pointed w g b l c to n t a
    m = pointed w g b known l c p to n t a sure address

    complete : IsComplete w.programs.whole.table t
    complete = integer-complete w t i integer.0

    sized : size_of w.programs.whole.table t ≡ i.bytes
    sized = sym (complete-some w.programs.whole.table names.solved.well_formed t complete).1 ∙ integer_cells w.programs.whole.table t i.bytes i.signed integer.0

    guarding : Then (AreGot (world_of w) (reach_needs (w.programs.whole.kind n) (size_at (world_of w) seat (w.programs.whole.kind n) t)))
        (AreChecks (work_of w.slots) (reached (w.programs.whole.kind n) (pointer_slots a) (size_at (world_of w) seat (w.programs.whole.kind n) t) at)) first
    guarding = subst (λ (as' : List Asked). Then (AreGot (world_of w) (reach_needs (w.programs.whole.kind n) (size_at (world_of w) seat (w.programs.whole.kind n) t))) (AreChecks (work_of w.slots) as') first)
        (lines-of-write (w.programs.whole.kind n) plain (pointer_slots a) (size_at (world_of w) seat (w.programs.whole.kind n) t) at) guard

    z : Guarded w g b known l (reach_needs (w.programs.whole.kind n) (size_at (world_of w) seat (w.programs.whole.kind n) t))
        (reached (w.programs.whole.kind n) (pointer_slots a) (size_at (world_of w) seat (w.programs.whole.kind n) t) at) first c
    z = reach-guarded w names g b known l c p to n t a m plain complete seat at first guarding

    -- the value, which no check writes
    o : Operand l z.after v i d Low
    o = lowly w g b known l z.after z.point v i d integer.1 low

    changed : Outcome source.Ending source.State (Unit {0}) → CodeOutcome
    changed y = from (beside l.temps y) (λ u. done Goes)

    writes : TypeShape → Outcome source.Ending source.State (Unit {0})
    writes h = from (all_placed (setting_of w.programs) (place_of_write at assignment) (conditions_of_write (w.programs.whole.kind n) h m.pointer (Integer o.z)) l.state)
        (λ u. store_shape (w.programs.whole.kind n) h m.pointer (Integer o.z))

    F : Outcome source.Ending source.State (Unit {0}) → Outcome source.Ending source.State (Unit {0})
    F y = from y (λ u. store_integer (w.programs.whole.kind n) i m.pointer o.z)

    stop : Option Asked
    stop = first_false w.programs.parts c.state.memory (reached (w.programs.whole.kind n) (pointer_slots a) (size_at (world_of w) seat (w.programs.whole.kind n) t) at) (slot z.middle)

    alike : StopsAlike stop (all_placed (setting_of w.programs) (place_of_write at assignment) (asked_of (size_of w.programs.whole.table t) (w.programs.whole.kind n) m.pointer) l.state) l.state
    alike = reach-stops w names g b known l c p to n t a m plain complete seat at first guarding place (λ q. refl) (λ j q. refl)

    passes : stop ≡ None → all_placed (setting_of w.programs) (place_of_write at assignment) (asked_of (size_of w.programs.whole.table t) (w.programs.whole.kind n) m.pointer) l.state ≡ Done tt l.state
    passes e = subst (λ (o : Option Asked). StopsAlike o (all_placed (setting_of w.programs) (place_of_write at assignment) (asked_of (size_of w.programs.whole.table t) (w.programs.whole.kind n) m.pointer) l.state) l.state) e alike

    goes : stop ≡ None → Match w g b after blocks (changed (F (Done tt l.state))) (run more (context_of w b) z.after)
    goes none = of placed (integers-stored (setting_of w.programs) w.programs.whole.node k t i m.pointer o.z l.state (context_of w b) a d z.after plain integer.0 integer.1
        z.point.there.related (reach-found w names g b known l c p to n t a m plain complete seat at first guarding placed) o.holds)
      where
        placed : IsPlaceIn (setting_of w.programs) l.state.memory b.depth (w.programs.whole.kind n) t m.pointer
        placed = reach-place w names g b known l c p to n t a m plain complete seat at first guarding place (passes none)

        of : IsPlaceIn (setting_of w.programs) l.state.memory b.depth (w.programs.whole.kind n) t m.pointer
            → GoOnAlike (setting_of w.programs) w.programs.whole.node l.state z.after (store_integer (w.programs.whole.kind n) i m.pointer o.z l.state)
            (act (flat_instr.St i.bytes a d) (context_of w b) z.after) tt z.after.slots
            → Match w g b after blocks (changed (F (Done tt l.state))) (run more (context_of w b) z.after)
        of placed y =
            subst (λ (js : Lines). Match w g b after blocks (changed (F (Done tt l.state))) (run js (context_of w b) z.after))
            (sym (line ∙ line-of-store (w.programs.whole.kind n) plain i.bytes (pointer_slots a) d))
            (subst (λ (x : Outcome source.Ending source.State (Unit {0})). Match w g b after blocks (changed x) (run (flat_instr.St i.bytes a d ∷ []) (context_of w b) z.after)) (sym y.source_goes)
            (subst (λ (q : FlatOutcome). Match w g b after blocks (changed (Done tt y.next)) (from q (λ x. then_go x (run [] (context_of w b))))) (sym y.flat_goes)
            (unwritten w g b known after l y.next z.after y.after z.point
            (there-kept w.programs l.state y.next z.after.state y.after.state y.stays b p.outer z.point.there y.related
            (facts-kept (setting_of w.programs) w.programs.sites l.state.memory y.next.memory b.depth kept p.there.facts))
            (grows-kept w.programs l.state y.next z.after.state y.after.state y.stays b.depth)
            (subst (λ (xs : List ℕ). Passed w g z.after.slots xs) (sym y.slots_are) (passed-none w g z.after.slots)) less)))
          where
            kept : IsKept (setting_of w.programs) w.programs.sites l.state.memory y.next.memory
            kept = subst (λ (x : Outcome source.Ending source.State (Unit {0})). Gives x (λ u r. IsKept (setting_of w.programs) w.programs.sites l.state.memory r.memory)) y.source_goes
                (gives-stored_integer (setting_of w.programs) names.solved.well_formed w.programs.sites t i integer.0 l.state b.depth p.there.facts.objects o.z
                (w.programs.whole.kind n) plain m.pointer p.there.facts.outlines placed)
