-- The address of what stands at a place, as a SAFE or a SEQ pointer: `&`, and an array at a place that decays.
use Rattle.runs.specs.Control.{Goes}
use Rattle.std.proofs.Common.{false, ◌≡◌, ◌≢◌, ℕ, ◌+◌, ◌^◌, ◌<◌, ◌⊎◌, ℤ, pos, ◌+ℤ◌, inl, inr, List, length, ap, sym, subst, ◌∙◌, arith, Some, []}
use Rattle.cc_base.specs.declared.kind.Kind.{Kind}
use Rattle.cc_base.specs.declared.kind.Kind.TheVariants.{Safe, Seq, Rtti, Wild}
use Rattle.cc_base.specs.declared.number.TypeId.{TypeId}
use Rattle.cc_base.specs.declared.number.NodeId.{NodeId}
use Rattle.cc_base.specs.declared.place.Place.{Place}
use Rattle.c_types.specs.declared.shape.TypeShape.TheVariants as shape
use Rattle.c_types.specs.Table.{IsComplete, shape_at}
use Rattle.c_types.specs.Layouts.{size_of}
use Rattle.c_types.specs.Equality.{cells_of}
use Rattle.c_types.specs.Widths.{before}
use Rattle.runs.specs.Outcome.{Outcome, Done, done, from, Matches}
use Rattle.src_mem.specs.Pointers.{Location, Pointer, At, Value, Address}
use Rattle.src_mem.specs.State as source
use Rattle.src_mem.specs.State.{Setting, given}
use Rattle.src_mem.specs.Primitives as primitive
use Rattle.src_mem.specs.Primitives.{new_part}
use Rattle.src_mem.specs.Operations.{decayed}
use Rattle.src_mem.specs.Values.{addressed, decayed_value}
use Rattle.src_mem.specs.Outlines.{outline, lives_of, LivesAt}
use Rattle.src_mem.specs.Facts.{HoldType, Reaches, IsPlaceIn, IsHeldIn, IsHeldBy}
use Rattle.src_mem.specs.Laws.{Gives}
use Rattle.src_mem.proofs.Outlines.{get-mapped}
use Rattle.facts_kept.specs.Kept.{GivesPointer, GivesAddress}
use Rattle.facts_kept.proofs.Complete.{complete-some}
use Rattle.facts_kept.proofs.Addressing.{gives-addressed, gives-decayed_place}
use Rattle.cil_form.specs.declared.number.Temp.{Temp}
use Rattle.cil_form.specs.declared.instr.Point.TheVariants as point
use Rattle.cil_form.specs.declared.instr.Instr.TheVariants as instr
use Rattle.cil_form.specs.State as code
use Rattle.cil_form.specs.Told.{IsAsked}
use Rattle.cil_form.specs.Typing.{HeldType, PointerTo, PlaceOf, no_types}
use Rattle.cil_form.specs.Meaning as meaning
use Rattle.cil_facts.proofs.Points.{array-complete, element-complete}
use Rattle.cured_code.specs.FlatState as flat
use Rattle.cured_code.specs.FlatState.{slot}
use Rattle.cured_code.specs.FlatMachine.{run}
use Rattle.sim_relation.specs.Ground.{Ground, address, pointer_words, word_number}
use Rattle.sim_relation.specs.Points.{Knowledge, Sure, AreWords}
use Rattle.sim_relation.proofs.Kept.{typed-contents}
use Rattle.sim_memory.specs.Found.{IsFound}
use Rattle.sim_memory.proofs.Copying.{before-held}
use Rattle.sim_memory.proofs.Finding.{places-found}
use Rattle.cure_rules.specs.Slots.{AreSlots, Offset, slot_of}
use Rattle.cure_rules.specs.Known as rules
use Rattle.cure_rules.specs.Known.{cured_size, Takes, IsPlaced, a_pointer}
use Rattle.cure_rules.specs.Checks.{Seat}
use Rattle.cure_rules.specs.Pointing.{PartWords, IsCuringPoint}
use Rattle.cure_rules.specs.Code.{Blocks}
use Rattle.sim_laws.specs.Scenes.{Scene, Running, setting_of, world_of, around_of, context_of}
use Rattle.sim_laws.specs.Points.{Holds, Point, IsLasting, ground_of}
use Rattle.sim_laws.specs.Statements.{Lines, StatesEndAlike, Follows}
use Rattle.sim_laws.specs.Plain.{IsPlainKind}
use Rattle.sim_laws.proofs.Guards.{passed-none}
use Rattle.sim_laws.proofs.Giving.{Gave, gives-follows}
use Rattle.sim_laws.proofs.Names.{Names, context_in, solved-in, facts-at, types_of}
use Rattle.sim_laws.proofs.Rows.{Comes, gives-pointer}
use Rattle.sim_laws.proofs.Reaching.{Pointed, pointed, first-lasts, plain-tags, checked-words}
use Rattle.sim_laws.proofs.Accessing.{first-of}
use Rattle.sim_laws.proofs.PointerWords.{made_pointer, made_words, words-made, made-below, RowMade, row-made, row-gives}

-- What C makes

pub address-made : (k : Kind) → IsPlainKind k → (n m : ℕ) (t : TypeId) (l : Location) (at : ℕ) (s : source.State) → l.offset ≡ pos at
    → primitive.address k n m t (At l) s ≡ Done (made_pointer l.object (at + n) m t) s
address-made k plain n m t l at s e = by k plain
  where
    makes : Kind → ℤ → Outcome source.Ending source.State Pointer
    makes k z = given (new_part k s.memory.objects l.object (z +ℤ pos n) m) (λ part. done (At (record { object = l.object; part = part; offset = z +ℤ pos n; made = t }))) s

    by : (k : Kind) → IsPlainKind k → primitive.address k n m t (At l) s ≡ Done (made_pointer l.object (at + n) m t) s
    by Safe plain = ap (makes Safe) e
    by Seq plain = ap (makes Seq) e
    by Rtti plain = absurd plain
    by Wild plain = absurd plain

-- What the lines leave

-- the address of so many bytes behind a place that both machines find: as many as x has, which stands there
pub part-gives : (w : Scene) (names : Names w) (g : AreSlots w.slots) (b : Running) (known after : Knowledge) (into : Temp) (l : code.Local) (c : flat.Local) → Point w g b known l c
    → (outer inner : NodeId) (t x u : TypeId) (q : Pointer) → IsHeldBy (setting_of w.programs) w.programs.sites l.state.memory b.depth outer t q → (a : ℕ) → IsLasting (g.owner a)
    → (found : IsFound (setting_of w.programs) w.programs.whole.node l.state c.state t q (slot c a)) → (n high : ℕ) → IsComplete w.programs.whole.table x
    → HoldType (setting_of w.programs) found.object.cells (found.at + n) high x → (o : ℕ) → IsLasting (g.owner o) ⊎ (o ≡ slot_of w.slots Offset)
    → slot c a + slot c o ≡ address (ground_of w.programs l.state c.state) found.location.object + before w.programs.whole.kind found.object.cells (found.at + n)
    → IsPlainKind (w.programs.whole.kind inner)
    → IsHeldIn (setting_of w.programs) l.state.memory b.depth (w.programs.whole.kind inner) u (made_pointer found.location.object (found.at + n) (size_of w.programs.whole.table x) u)
    → Takes (world_of w) into (word_number (w.programs.whole.kind inner)) → (seat : Seat) (base : ℕ) (lines : Lines)
    → PartWords (w.programs.whole.kind inner) (world_of w) seat (cured_size w.programs.whole x) u (w.slots.column into) a o base lines
    → ((d e : flat.Local) → Comes w g b into l d l.state e inner (made_pointer found.location.object (found.at + n) (size_of w.programs.whole.table x) u)
    → Gave w g b known after into l d (Address (made_pointer found.location.object (found.at + n) (size_of w.programs.whole.table x) u)) l.state Goes e)
    → Matches (Gave w g b known after into l c) (λ e s k d. StatesEndAlike w.programs e s k d.state)
    (Done (Address (made_pointer found.location.object (found.at + n) (size_of w.programs.whole.table x) u)) l.state) (run lines (context_of w b) c)
part-gives w names g b known after into l c p outer inner t x u q is_held a lasts found n high complete holds o stays sum plain held takes seat base lines words given =
    row-gives w g b known after into l c p inner q' lines takes (subst AreWords (sym rows) (made-below (w.programs.whole.kind inner) start end start_small end_small))
    (subst (RowMade w g b into (w.programs.whole.kind inner) c lines) (sym rows)
    (subst (λ (i : ℕ). RowMade w g b into (w.programs.whole.kind inner) c lines (made_words (w.programs.whole.kind inner) start i)) (sym end_is)
    (row-made w g b known l c p into (w.programs.whole.kind inner) plain takes seat (cured_size w.programs.whole x) u a o base lines words lasts stays start sum
    (subst (λ (i : ℕ). i < 2 ^ 64) end_is end_small)))) given
  where
    S : Setting
    S = setting_of w.programs

    gr : Ground
    gr = ground_of w.programs l.state c.state

    q' : Pointer
    q' = made_pointer found.location.object (found.at + n) (size_of w.programs.whole.table x) u

    start : ℕ
    start = address gr found.location.object + before w.programs.whole.kind found.object.cells (found.at + n)

    end : ℕ
    end = address gr found.location.object + before w.programs.whole.kind found.object.cells (found.at + n + size_of w.programs.whole.table x)

    lives : LivesAt (lives_of l.state.memory) b.depth found.location.object
    lives = subst (λ (z : Pointer). Reaches (lives_of l.state.memory) b.depth z) found.is is_held.held.reaches

    rows : pointer_words gr (w.programs.whole.kind inner) q' ≡ made_words (w.programs.whole.kind inner) start end
    rows = words-made S w.programs.whole.node l.state c.state names.solved.well_formed p.there.related b.depth found.location.object (found.at + n) (size_of w.programs.whole.table x) u
        (outline found.object) (get-mapped outline l.state.memory.objects found.location.object found.object found.found) lives found.untagged (w.programs.whole.kind inner) plain held

    end_is : end ≡ start + cured_size w.programs.whole x
    end_is =
        let long = (complete-some w.programs.whole.table names.solved.well_formed x complete).1 in
        let run = before-held S names.solved.well_formed x found.object.cells (found.at + n) high holds (length (cells_of w.programs.whole.table x)) (omega arith) in
        let size : w.programs.whole.size x ≡ before w.programs.whole.kind (cells_of w.programs.whole.table x) (length (cells_of w.programs.whole.table x)) = names.sizes.size x complete in
        let to = ap (λ (i : ℕ). before w.programs.whole.kind found.object.cells (found.at + n + i)) long in omega (arith, long, run, size, to)

    within : (i : ℕ) → address gr found.location.object + before w.programs.whole.kind found.object.cells i < 2 ^ 64
    within i =
        let m = typed-contents w.programs.whole.kind (w.programs.whole.kind found.object.node) found.untagged (outline found.object) i in
        let j = (p.there.related.areas.lie found.location.object found.object found.found found.live).inside in
        let k = p.there.related.small in omega (arith, m, j, k)

    start_small : start < 2 ^ 64
    start_small = within (found.at + n)

    end_small : end < 2 ^ 64
    end_small = within (found.at + n + size_of w.programs.whole.table x)

-- At a place

-- its address, and so many bytes behind it none
module _ (w : Scene) (names : Names w) (g : AreSlots w.slots) (b : Running) (known : Knowledge) (l : code.Local) (c : flat.Local) (p : Point w g b known l c)
    (held : Temp) (outer : NodeId) (t : TypeId) (a : ℕ) (sure : List Sure) (is_placed : IsPlaced known held outer t a sure) (plain : w.programs.whole.kind outer ≢ Wild) where
  pub place-pointed : Pointed w g b l c held outer t a
  place-pointed = let h = is_placed in pointed w g b known l c p held outer t a sure (h.0, h.1, inr h.2, h.3, h.4)

  pub place-is : IsPlaceIn (setting_of w.programs) l.state.memory b.depth (w.programs.whole.kind outer) t place-pointed.pointer
  place-is = of (subst (λ (z : Value). Holds w.programs l.state b.depth (PlaceOf outer t) z) place-pointed.value
      (let h = is_placed in subst (λ (x : HeldType). Holds w.programs l.state b.depth x (l.temps held)) h.2 (p.held held h.0 h.1)))
    where
      of : Holds w.programs l.state b.depth (PlaceOf outer t) (Address place-pointed.pointer)
          → IsPlaceIn (setting_of w.programs) l.state.memory b.depth (w.programs.whole.kind outer) t place-pointed.pointer
      of h = h.1

  pub place-found : IsFound (setting_of w.programs) w.programs.whole.node l.state c.state t place-pointed.pointer (slot c a)
  place-found =
      subst (λ (i : ℕ). IsFound (setting_of w.programs) w.programs.whole.node l.state c.state t place-pointed.pointer i)
      (sym (first-of (ground_of w.programs l.state c.state) (slot c) _ (w.programs.whole.kind outer) place-pointed.pointer
      (checked-words w g b known l c c p (passed-none w g c.slots) held outer t a place-pointed).words))
      (places-found (setting_of w.programs) w.programs.whole.node l.state c.state b.depth (w.programs.whole.kind outer) t place-pointed.pointer names.solved.well_formed plain
      p.there.related place-pointed.held.held place-is)

  -- the pointer to what stands there, made at the type u
  abbrev pub here : TypeId → Pointer
  here u = made_pointer place-found.location.object (place-found.at + 0) (size_of w.programs.whole.table t) u

  pub place-gives : (after : Knowledge) (into : Temp) (inner : NodeId) (u : TypeId) → IsComplete w.programs.whole.table t → IsPlainKind (w.programs.whole.kind inner)
      → IsAsked w.programs.sites (PointerTo inner u) → Holds w.programs l.state b.depth (PointerTo inner u) (Address (here u))
      → Takes (world_of w) into (word_number (w.programs.whole.kind inner)) → (seat : Seat) (lines : Lines)
      → PartWords (w.programs.whole.kind inner) (world_of w) seat (cured_size w.programs.whole t) u (w.slots.column into) a w.slots.nought (a + 1) lines
      → rules.Leaves known into (Some (a_pointer (w.slots.column into) inner u [])) after
      → Matches (Gave w g b known after into l c) (λ e s k d. StatesEndAlike w.programs e s k d.state) (Done (Address (here u)) l.state) (run lines (context_of w b) c)
  place-gives after into inner u complete kind told holds takes seat lines words leave =
      part-gives w names g b known after into l c p outer inner t t u place-pointed.pointer place-pointed.held a (first-lasts w g b l c held outer t a place-pointed) place-found 0
      place-found.location.part.high complete
      (subst (λ (i : ℕ). HoldType (setting_of w.programs) place-found.object.cells i place-found.location.part.high t) (let e : place-found.at ≡ place-found.at + 0 = omega arith in e)
      place-found.holds) w.slots.nought (inl (subst IsLasting (sym g.nought.is) tt)) sum kind holds.held takes seat (a + 1) lines words
      (λ d e come. gives-pointer w g b known after into l d l.state e inner u (here u) come holds told leave)
    where
      sum : slot c a + slot c w.slots.nought
          ≡ address (ground_of w.programs l.state c.state) place-found.location.object + before w.programs.whole.kind place-found.object.cells (place-found.at + 0)
      sum =
          let h = place-found.here in let n = p.nought in
          let e = ap (before w.programs.whole.kind place-found.object.cells) (let z : place-found.at + 0 ≡ place-found.at = omega arith in z) in omega (arith, h, n, e)

-- `&`
pub address-follows : (w : Scene) (names : Names w) (g : AreSlots w.slots) (b : Running) (into held : Temp) (outer inner : NodeId) (t : TypeId) (known after : Knowledge) (blocks : Blocks)
    (lines : Lines) → w.programs.whole.kind outer ≢ Wild → IsPlainKind (w.programs.whole.kind inner) → IsComplete w.programs.whole.table t → IsAsked w.programs.sites (PointerTo inner t)
    → IsCuringPoint (point.Address into held outer inner t) (world_of w) known after lines
    → Follows w g b blocks known after (meaning.act (instr.Point (point.Address into held outer inner t)) (around_of w b)) lines
address-follows w names g b into held outer inner t known after blocks lines plain kind complete told (a, sure, seat, is_placed, takes, words, leave) l c p =
    gives-follows w g b known after blocks into l c p (addressed S inner t (l.temps held) l.state) (run lines (context_of w b) c)
    (subst (λ (o : Outcome source.Ending source.State Value). Matches (Gave w g b known after into l c) (λ e s k d. StatesEndAlike w.programs e s k d.state) o (run lines (context_of w b) c)) (sym made)
    (place-gives w names g b known l c p held outer t a sure is_placed plain after into inner t complete kind told holds takes seat lines words leave))
  where
    S : Setting
    S = setting_of w.programs

    m : Pointed w g b l c held outer t a
    m = place-pointed w names g b known l c p held outer t a sure is_placed plain

    f : IsFound S w.programs.whole.node l.state c.state t m.pointer (slot c a)
    f = place-found w names g b known l c p held outer t a sure is_placed plain

    q : Pointer
    q = made_pointer f.location.object (f.at + 0) (size_of w.programs.whole.table t) t

    from_pointer : addressed S inner t (Address m.pointer) l.state ≡ Done (Address q) l.state
    from_pointer =
        ap (λ (y : Pointer). addressed S inner t (Address y) l.state) f.is
        ∙ ap (λ (o : Outcome source.Ending source.State Pointer). from o (λ y. done (Address y)))
        (address-made (w.programs.whole.kind inner) kind 0 (size_of w.programs.whole.table t) t f.location f.at l.state f.offset)

    made : addressed S inner t (l.temps held) l.state ≡ Done (Address q) l.state
    made = ap (λ (z : Value). addressed S inner t z l.state) m.value ∙ from_pointer

    gives : GivesAddress S w.programs.sites b.depth (w.programs.whole.kind inner) t l.state (Address q) l.state
    gives = subst (λ (o : Outcome source.Ending source.State Value). Gives o (GivesAddress S w.programs.sites b.depth (w.programs.whole.kind inner) t l.state)) from_pointer
        (gives-addressed S names.solved.well_formed w.programs.sites l.state b.depth (w.programs.whole.kind outer) inner t m.pointer
        (λ e. absurd (plain e), λ e. absurd (plain-tags (w.programs.whole.kind inner) kind e)) complete told p.there.facts.outlines
        (place-is w names g b known l c p held outer t a sure is_placed plain))

    holds : Holds w.programs l.state b.depth (PointerTo inner t) (Address q)
    holds = subst (λ (y : Pointer). IsHeldBy S w.programs.sites l.state.memory b.depth inner t y) (let e = gives.is in let h : gives.pointer ≡ q = cc (e) in h)
        (record { held = gives.gives.held; made = λ h. gives.gives.made })

-- an array at a place
pub decay-place-follows : (w : Scene) (names : Names w) (g : AreSlots w.slots) (b : Running) (into held : Temp) (outer inner : NodeId) (array element : TypeId) (count : ℕ) (at : Place)
    (known after : Knowledge) (blocks : Blocks) (lines : Lines) → w.programs.whole.kind outer ≢ Wild → IsPlainKind (w.programs.whole.kind inner)
    → shape_at w.programs.whole.table array ≡ shape.Array element count → IsAsked w.programs.sites (PointerTo inner element)
    → IsCuringPoint (point.Decay into held outer array false inner element at) (world_of w) known after lines
    → Follows w g b blocks known after (meaning.act (instr.Point (point.Decay into held outer array false inner element at)) (around_of w b)) lines
decay-place-follows w names g b into held outer inner array element count at known after blocks lines plain kind is_array told
    (a, sure, seat, is_placed, takes, words, leave) l c p =
    gives-follows w g b known after blocks into l c p (decayed_value S at outer array false inner element (l.temps held) l.state) (run lines (context_of w b) c)
    (subst (λ (o : Outcome source.Ending source.State Value). Matches (Gave w g b known after into l c) (λ e s k d. StatesEndAlike w.programs e s k d.state) o (run lines (context_of w b) c)) (sym made)
    (place-gives w names g b known l c p held outer array a sure is_placed plain after into inner element complete kind told holds takes seat lines words leave))
  where
    S : Setting
    S = setting_of w.programs

    complete : IsComplete w.programs.whole.table array
    complete = array-complete (context_in w names 0 no_types) (around_of w b) (solved-in w names 0 no_types) (types_of known) (types_of known) l (facts-at w names g b known l c p 0 no_types)
        array element count is_array

    m : Pointed w g b l c held outer array a
    m = place-pointed w names g b known l c p held outer array a sure is_placed plain

    f : IsFound S w.programs.whole.node l.state c.state array m.pointer (slot c a)
    f = place-found w names g b known l c p held outer array a sure is_placed plain

    q : Pointer
    q = made_pointer f.location.object (f.at + 0) (size_of w.programs.whole.table array) element

    from_pointer : decayed S at (w.programs.whole.kind outer) array false inner element m.pointer l.state ≡ Done q l.state
    from_pointer =
        ap (λ (y : Pointer). decayed S at (w.programs.whole.kind outer) array false inner element y l.state) f.is
        ∙ address-made (w.programs.whole.kind inner) kind 0 (size_of w.programs.whole.table array) element f.location f.at l.state f.offset

    made : decayed_value S at outer array false inner element (l.temps held) l.state ≡ Done (Address q) l.state
    made = ap (λ (z : Value). decayed_value S at outer array false inner element z l.state) m.value
        ∙ ap (λ (o : Outcome source.Ending source.State Pointer). from o (λ y. done (Address y))) from_pointer

    gives : GivesPointer S w.programs.sites b.depth (w.programs.whole.kind inner) element l.state q l.state
    gives = subst (λ (o : Outcome source.Ending source.State Pointer). Gives o (GivesPointer S w.programs.sites b.depth (w.programs.whole.kind inner) element l.state)) from_pointer
        (gives-decayed_place S names.solved.well_formed w.programs.sites l.state b.depth at (w.programs.whole.kind outer) inner array element count m.pointer
        (λ e. absurd (plain e), λ e. absurd (plain-tags (w.programs.whole.kind inner) kind e)) is_array complete
        (element-complete (context_in w names 0 no_types) (around_of w b) (solved-in w names 0 no_types) (types_of known) (types_of known) l (facts-at w names g b known l c p 0 no_types)
        array element count is_array) told p.there.facts.outlines
        (place-is w names g b known l c p held outer array a sure is_placed plain))

    holds : Holds w.programs l.state b.depth (PointerTo inner element) (Address q)
    holds = record { held = gives.held; made = λ h. gives.made }
