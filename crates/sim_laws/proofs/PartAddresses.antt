-- The address of a part behind its check: of a member, and of an array that decays.
use Rattle.std.proofs.Common.{◌≡◌, ◌≢◌, ℕ, ◌+◌, ◌%◌, ◌<◌, Bool, true, false, List, [], ◌∷◌, ◌++◌, length, slice_get, Option, Some, None, refl, ap, sym, subst, ◌∙◌, arith, nat_eq, if◌then◌else◌, inl}
use Rattle.cc_base.specs.declared.kind.Kind.{Kind}
use Rattle.cc_base.specs.declared.kind.Kind.TheVariants.{Safe, Seq, Rtti, Wild}
use Rattle.cc_base.specs.declared.number.TypeId.{TypeId}
use Rattle.cc_base.specs.declared.number.NodeId.{NodeId}
use Rattle.cc_base.specs.declared.place.Place.{Place}
use Rattle.c_types.specs.declared.shape.TypeShape.TheVariants as shape
use Rattle.c_types.specs.Table.{IsComplete, IsAggregate, shape_at, members_at}
use Rattle.c_types.specs.Layouts.{size_of, member_at, offset_of}
use Rattle.c_types.specs.Cells.{Cell, IsBetweenPointers}
use Rattle.c_types.specs.Equality.{cells_of, repeated_cell}
use Rattle.c_types.specs.Flows.{CellsAgree}
use Rattle.c_types.specs.Sound.{IsWellFormed}
use Rattle.c_types.specs.Widths.{before}
use Rattle.kind_sites.specs.Solutions.{IsWildWhereMixed, IsUnionAllowed}
use Rattle.runs.specs.Outcome.{Outcome, Done, done, leaves, from, Matches, ◌>>◌}
use Rattle.runs.specs.Control.{Goes}
use Rattle.src_mem.specs.Pointers.{Pointer, Value, Address}
use Rattle.src_mem.specs.State as source
use Rattle.src_mem.specs.State.{Setting}
use Rattle.src_mem.specs.Checks.{Condition, AddressMember, conditions_of, all_placed}
use Rattle.src_mem.specs.Primitives as primitive
use Rattle.src_mem.specs.Operations.{member, decayed}
use Rattle.src_mem.specs.Values.{member_value, decayed_value}
use Rattle.src_mem.specs.Outlines.{outlines_of, lives_of}
use Rattle.src_mem.specs.Facts.{HoldType, IsHeldIn, IsPlaceIn}
use Rattle.src_mem.specs.Laws.{Gives}
use Rattle.facts_kept.specs.Kept.{GivesPointer, IsSub, asked_of}
use Rattle.facts_kept.proofs.Giving.{gives-more}
use Rattle.facts_kept.proofs.Agree.{agree-twice}
use Rattle.facts_kept.proofs.Flow.{rep-there}
use Rattle.facts_kept.proofs.Holds.{first-between}
use Rattle.facts_kept.proofs.Complete.{complete-some, complete-data}
use Rattle.facts_kept.proofs.Members.{sub-own}
use Rattle.facts_kept.proofs.Parts.{sub-member}
use Rattle.facts_kept.proofs.PlaceParts.{gives-member_place}
use Rattle.facts_kept.proofs.Addresses.{gives-decayed}
use Rattle.facts_kept.proofs.Places.{held-place}
use Rattle.cil_form.specs.declared.number.Temp.{Temp}
use Rattle.cil_form.specs.declared.instr.Point.TheVariants as point
use Rattle.cil_form.specs.declared.instr.Instr.TheVariants as instr
use Rattle.cil_form.specs.State as code
use Rattle.cil_form.specs.State.{with_temp, beside}
use Rattle.cil_form.specs.Told.{IsAsked}
use Rattle.cil_form.specs.Typing.{HeldType, PointerTo, PlaceOf, IsTemp, no_types}
use Rattle.cil_form.specs.Meaning as meaning
use Rattle.cil_facts.proofs.Accesses.{allowed-held}
use Rattle.cil_facts.proofs.Points.{union-allowed, member-complete, array-complete, element-complete}
use Rattle.cured_code.specs.FlatState as flat
use Rattle.cured_code.specs.FlatState.{slot}
use Rattle.cured_code.specs.FlatMachine.{run}
use Rattle.check_forms.specs.declared.slots.Fixed.{Fixed}
use Rattle.check_forms.specs.declared.slots.PointerSlots.{PointerSlots}
use Rattle.check_forms.specs.declared.op.Reach.{Reach}
use Rattle.check_forms.specs.declared.op.WildNumbers.{WildNumbers}
use Rattle.check_forms.specs.declared.op.Op.TheVariants as op
use Rattle.check_forms.specs.Pieces.{Then}
use Rattle.check_forms.specs.Rows.{Asked, flat_conditions, reached}
use Rattle.check_forms.specs.RowChecks.{AreChecks, first_false}
use Rattle.check_forms.proofs.TestLaws.{append-append}
use Rattle.sim_relation.specs.Ground.{address, word_number}
use Rattle.sim_relation.specs.Points.{Knowledge, Sure, Number}
use Rattle.sim_memory.specs.Found.{IsFound}
use Rattle.sim_memory.proofs.Copying.{before-held}
use Rattle.sim_memory.proofs.Finding.{places-found}
use Rattle.cure_rules.specs.Slots.{AreSlots, Size, Offset, work_of}
use Rattle.cure_rules.specs.Known.{cured_size, Takes, Gets, IsAddress, pointer_slots}
use Rattle.cure_rules.specs.Checks.{Seat, Need, need, number_at, reach_needs, numbers_of, size_at, wild_numbers, reach_at, AreGot, IsGuarded, address_of_part}
use Rattle.cure_rules.specs.Pointing.{PartWords, cured_offset, IsCuringPoint}
use Rattle.cure_rules.specs.Code.{Blocks}
use Rattle.sim_laws.specs.Scenes.{Scene, Running, setting_of, world_of, around_of, context_of}
use Rattle.sim_laws.specs.Points.{Holds, Point, ground_of}
use Rattle.sim_laws.specs.Statements.{Lines, FlatOutcome, StatesEndAlike, Match, Follows}
use Rattle.sim_laws.specs.Plain.{IsPlainKind}
use Rattle.sim_laws.proofs.Guards.{passed-none}
use Rattle.sim_laws.proofs.Giving.{Gave}
use Rattle.sim_laws.proofs.Names.{Names, context_in, solved-in, facts-at, types_of}
use Rattle.sim_laws.proofs.Rows.{Comes, gives-pointer, gives-place}
use Rattle.sim_laws.proofs.Checks.{IsNoneOf, Guarded, StopsAlike, guarded, guarded-lasting, stops-alike, guard-gives, got-spot}
use Rattle.sim_laws.proofs.Reaching.{Pointed, pointed, first-lasts, plain-tags, checked-words, reach-roles, reach-ready, reach-compared}
use Rattle.sim_laws.proofs.Accessing.{all-held, first-of}
use Rattle.sim_laws.proofs.Storing.{holds-address}
use Rattle.sim_laws.proofs.PointerWords.{made_pointer}
use Rattle.sim_laws.proofs.Making.{address-made, part-gives}

-- What stands in a type

module _ (w : Setting) (sound : IsWellFormed w.table) (t v : TypeId) (offset : ℕ) (sub : IsSub w t offset v) where
  -- it stands wherever the type does
  sub-held : (cells : List Cell) (at high : ℕ) → HoldType w cells at high t → HoldType w cells (at + offset) high v
  sub-held cells at high h = record {
    room = let a = h.room in let b = sub.room in omega (arith, a, b);
    agree = λ j d e.
        let y = sub.agree j d e in let z = h.agree (offset + j) y.0 y.1 in
        let f : at + (offset + j) ≡ at + offset + j = omega arith in
        (z.0, ap (slice_get cells) (sym f) ∙ z.1, agree-twice w sound z.0 y.0 d z.2 y.2);
  }

  -- and cuts no pointer
  sub-between : IsComplete w.table v → IsBetweenPointers (cells_of w.table t) offset
  sub-between complete = of (sub.agree 0 (repeated_cell (cells_of w.table v) 0)
      (ap (slice_get (cells_of w.table v)) (sym (zero-mod (length (cells_of w.table v)))) ∙ rep-there (cells_of w.table v) 0 some))
    where
      some : 0 < length (cells_of w.table v)
      some = (complete-some w.table sound v complete).0

      zero-mod : (n : ℕ) → 0 % n ≡ 0
      zero-mod n = grind arith

      of : (c : Cell) × (slice_get (cells_of w.table t) (offset + 0) ≡ Some c) × CellsAgree w.table w.kind c (repeated_cell (cells_of w.table v) 0)
          → IsBetweenPointers (cells_of w.table t) offset
      of (c, found, agree) = first-between w sound v (cells_of w.table t) offset some c
          (ap (slice_get (cells_of w.table t)) (let e : offset ≡ offset + 0 = omega arith in e) ∙ found) agree

-- What C asks, and what the lines ask

conditions-are : (k : Kind) → k ≢ Wild → (n m : ℕ) (p : Pointer) → conditions_of (AddressMember n m) k p ≡ asked_of m k p
conditions-are Safe plain n m p = refl
conditions-are Rtti plain n m p = refl
conditions-are Seq plain n m p = refl
conditions-are Wild plain n m p = absurd (plain refl)

lines-are : (k : Kind) → k ≢ Wild → (p : PointerSlots) (size : Fixed) (numbers : WildNumbers) (offset : ℕ) (reach : Reach) (at : Place)
    → flat_conditions (op.Member p size numbers offset reach) k at ≡ reached k p size at
lines-are Safe plain p size numbers offset reach at = refl
lines-are Rtti plain p size numbers offset reach at = refl
lines-are Seq plain p size numbers offset reach at = refl
lines-are Wild plain p size numbers offset reach at = absurd (plain refl)

needs-are : (k : Kind) → k ≢ Wild → (p : PointerSlots) (size : Fixed) (numbers : WildNumbers) (offset : ℕ) (reach : Reach)
    → numbers_of (op.Member p size numbers offset reach) k ≡ reach_needs k size
needs-are Safe plain p size numbers offset reach = refl
needs-are Rtti plain p size numbers offset reach = refl
needs-are Seq plain p size numbers offset reach = refl
needs-are Wild plain p size numbers offset reach = absurd (plain refl)

-- the offset has a role of its own
offset-alone : (k : Kind) → k ≢ Wild → (size : Fixed) → IsNoneOf Offset (reach_needs k size)
offset-alone Safe plain size = tt
offset-alone Rtti plain size = tt
offset-alone Seq plain size = by (nat_eq size.value 1)
  where
    by : (q : Bool) → IsNoneOf Offset (if q then [] else need Size size ∷ [])
    by true = tt
    by false = (refl, tt)
offset-alone Wild plain size = absurd (plain refl)

-- an offset that isn't one of a WILD object
offset-cured : (w : Scene) (k : Kind) → k ≢ Wild → (t : TypeId) (n : ℕ) → cured_offset (world_of w) k t n ≡ w.programs.whole.offset t n
offset-cured w Safe plain t n = refl
offset-cured w Rtti plain t n = refl
offset-cured w Seq plain t n = refl
offset-cured w Wild plain t n = absurd (plain refl)

-- The law

-- behind NULL or BOUNDS of a pointer to t: the address of so many bytes as x has, which stands at the offset in t
part-follows : (w : Scene) (names : Names w) (g : AreSlots w.slots) (b : Running) (known after : Knowledge) (blocks : Blocks) (into held : Temp) (l : code.Local) (c : flat.Local)
    → (p : Point w g b known l c) → (outer inner : NodeId) (t x u : TypeId) (offset far a : ℕ) (sure : List Sure) (h : IsAddress known held outer t a sure) (seat : Seat) (at : Place)
    → w.programs.whole.kind outer ≢ Wild → IsPlainKind (w.programs.whole.kind inner) → IsComplete w.programs.whole.table t → IsComplete w.programs.whole.table x
    → IsSub (setting_of w.programs) t offset x → far ≡ before w.programs.whole.kind (cells_of w.programs.whole.table t) offset
    → Takes (world_of w) into (word_number (w.programs.whole.kind inner)) → (type : HeldType)
    → Gives (from (all_placed (setting_of w.programs) (λ y. at) (conditions_of (AddressMember offset (size_of w.programs.whole.table t)) (w.programs.whole.kind outer)
    (pointed w g b known l c p held outer t a sure h).pointer) l.state)
    (λ y. primitive.address (w.programs.whole.kind inner) offset (size_of w.programs.whole.table x) u (pointed w g b known l c p held outer t a sure h).pointer))
    (λ q s. IsHeldIn (setting_of w.programs) l.state.memory b.depth (w.programs.whole.kind inner) u q × Holds w.programs l.state b.depth type (Address q))
    → ((q : Pointer) → Holds w.programs l.state b.depth type (Address q) → (d e : flat.Local) → Comes w g b into l d l.state e inner q
    → Gave w g b known after into l d (Address q) l.state Goes e) → (lines : Lines)
    → Then (Gets (world_of w) Offset (Number far) (seat Offset)) (Then (IsGuarded (world_of w) (address_of_part (world_of w) seat (w.programs.whole.kind outer) t (pointer_slots a))
    (w.programs.whole.kind outer) at) (PartWords (w.programs.whole.kind inner) (world_of w) seat (cured_size w.programs.whole x) u (w.slots.column into) a (seat Offset) (a + 1))) lines
    → Match w g b after blocks (from (beside l.temps (from (from (all_placed (setting_of w.programs) (λ y. at)
    (conditions_of (AddressMember offset (size_of w.programs.whole.table t)) (w.programs.whole.kind outer) (pointed w g b known l c p held outer t a sure h).pointer) l.state)
    (λ y. primitive.address (w.programs.whole.kind inner) offset (size_of w.programs.whole.table x) u (pointed w g b known l c p held outer t a sure h).pointer)) (λ q. done (Address q))))
    (λ v. leaves (λ (k : code.Local). record k { temps = with_temp into v k.temps }) >> done Goes)) (run lines (context_of w b) c)
unfolding Then
part-follows w names g b known after blocks into held l c p outer inner t x u offset far a sure h seat at plain kind complete part_complete sub far_is takes type facts given lines
    (first, rest, gets, (second, last, (numbers, checks, got, checked, second_is), words, rest_is), lines_is) =
    subst (λ (js : Lines). Goal (run js (context_of w b) c)) (sym (lines_is ∙ ap (λ (js : Lines). first ++ js) (rest_is ∙ ap (λ (js : Lines). js ++ last) second_is)
    ∙ joins))
    (subst (λ (o : FlatOutcome). Goal o) (sym (z.runs last))
    (guard-gives w g b known after blocks into l z.after z.point stop (all_placed S (λ y. at) conditions l.state) alike F (λ e s. refl) last gives))
  where
    S : Setting
    S = setting_of w.programs

    k : Kind
    k = w.programs.whole.kind outer

    m : Pointed w g b l c held outer t a
    m = pointed w g b known l c p held outer t a sure h

    size : Fixed
    size = size_at (world_of w) seat (w.programs.whole.kind outer) t

    needs : List Need
    needs = need Offset (number_at seat Offset far) ∷ reach_needs (w.programs.whole.kind outer) size

    asks : List Asked
    asks = reached (w.programs.whole.kind outer) (pointer_slots a) size at

    conditions : List Condition
    conditions = conditions_of (AddressMember offset (size_of w.programs.whole.table t)) (w.programs.whole.kind outer) (pointed w g b known l c p held outer t a sure h).pointer

    F : Outcome source.Ending source.State (Unit {0}) → Outcome source.Ending source.State Value
    F o = from (from o (λ y. primitive.address (w.programs.whole.kind inner) offset (size_of w.programs.whole.table x) u (pointed w g b known l c p held outer t a sure h).pointer))
        (λ q. done (Address q))

    Goal : FlatOutcome → Type 0
    Goal o = Match w g b after blocks (from (beside l.temps (F (all_placed S (λ y. at) conditions l.state)))
        (λ v. leaves (λ (k : code.Local). record k { temps = with_temp into v k.temps }) >> done Goes)) o

    joins : first ++ ((numbers ++ checks) ++ last) ≡ ((first ++ numbers) ++ checks) ++ last
    joins = sym (append-append first (numbers ++ checks) last) ∙ ap (λ (js : Lines). js ++ last) (sym (append-append first numbers checks))

    guarding : Then (AreGot (world_of w) needs) (AreChecks (work_of w.slots) asks) ((first ++ numbers) ++ checks)
    guarding = (
      first ++ numbers,
      checks,
      (first, numbers, gets, subst (λ (xs : List Need). AreGot (world_of w) xs numbers) (needs-are k plain (pointer_slots a) size (wild_numbers (world_of w) seat) (seat Offset) (reach_at seat k 1)) got, refl),
      subst (λ (xs : List Asked). AreChecks (work_of w.slots) xs checks) (lines-are k plain (pointer_slots a) size (wild_numbers (world_of w) seat) (seat Offset) (reach_at seat k 1) at) checked,
      refl,
    )

    z : Guarded w g b known l needs asks ((first ++ numbers) ++ checks) c
    z = guarded w g b known l needs asks ((first ++ numbers) ++ checks) c p
        (refl, offset-alone k plain size, reach-roles w names g b known l c p held outer t a m complete k plain size) guarding
        (λ d passed there. reach-ready w names g b known l c p held outer t a m complete k refl plain size at d there.2)

    stop : Option Asked
    stop = first_false w.programs.parts c.state.memory asks (slot z.middle)

    alike : StopsAlike stop (all_placed S (λ y. at) conditions l.state) l.state
    alike = subst (λ (cs : List Condition). StopsAlike stop (all_placed S (λ y. at) cs l.state) l.state) (sym (conditions-are k plain offset (size_of w.programs.whole.table t) m.pointer))
        (stops-alike w.programs.parts c.state.memory (slot z.middle) S (λ y. at) l.state asks (asked_of (size_of w.programs.whole.table t) k m.pointer)
        (reach-compared w names g b known l c p held outer t a m complete k refl plain seat at (λ y. at) (λ q. refl) (λ j q. refl) z.middle z.passed))

    gives : stop ≡ None → Matches (Gave w g b known after into l z.after) (λ e s k d. StatesEndAlike w.programs e s k d.state) (F (Done tt l.state)) (run last (context_of w b) z.after)
    gives none = of found
      where
        passes : all_placed S (λ y. at) conditions l.state ≡ Done tt l.state
        passes = subst (λ (o : Option Asked). StopsAlike o (all_placed S (λ y. at) conditions l.state) l.state) none alike

        placed : IsPlaceIn S l.state.memory b.depth (w.programs.whole.kind outer) t m.pointer
        placed = held-place S names.solved.well_formed (outlines_of l.state.memory) (lives_of l.state.memory) b.depth l.state.memory k t m.pointer
            (complete-data w.programs.whole.table names.solved.well_formed t complete) m.held.held
            (all-held S (λ y. at) (asked_of (size_of w.programs.whole.table t) k m.pointer) l.state
            (subst (λ (cs : List Condition). all_placed S (λ y. at) cs l.state ≡ Done tt l.state) (conditions-are k plain offset (size_of w.programs.whole.table t) m.pointer) passes))

        found : IsFound S w.programs.whole.node l.state z.after.state t m.pointer (slot z.after a)
        found =
            subst (λ (y : flat.State). IsFound S w.programs.whole.node l.state y t m.pointer (slot z.after a)) (sym z.state)
            (subst (λ (i : ℕ). IsFound S w.programs.whole.node l.state c.state t m.pointer i)
            (sym (guarded-lasting w g b known l needs asks ((first ++ numbers) ++ checks) c z a (first-lasts w g b l c held outer t a m)
            ∙ first-of (ground_of w.programs l.state c.state) (slot c) (pointer_slots a) k m.pointer (checked-words w g b known l c c p (passed-none w g c.slots) held outer t a m).words))
            (places-found S w.programs.whole.node l.state c.state b.depth k t m.pointer names.solved.well_formed plain p.there.related m.held.held placed))

        far-there : slot z.after (seat Offset) ≡ far
        far-there = z.others (seat Offset) z.there.1 ∙ z.there.0

        of : (f : IsFound S w.programs.whole.node l.state z.after.state t m.pointer (slot z.after a))
            → Matches (Gave w g b known after into l z.after) (λ e s k d. StatesEndAlike w.programs e s k d.state) (F (Done tt l.state)) (run last (context_of w b) z.after)
        of f =
            subst (λ (o : Outcome source.Ending source.State Value). Matches (Gave w g b known after into l z.after) (λ e s k d. StatesEndAlike w.programs e s k d.state) o (run last (context_of w b) z.after))
            (sym (ap (λ (o : Outcome source.Ending source.State Pointer). from o (λ y. done (Address y))) makes))
            (part-gives w names g b known after into l z.after z.point outer inner t x u m.pointer m.held a (first-lasts w g b l c held outer t a m) f offset f.location.part.high part_complete
            (sub-held S names.solved.well_formed t x offset sub f.object.cells f.at f.location.part.high f.holds) (seat Offset) (got-spot w g Offset far (seat Offset) first gets) sum kind
            is-held.0 takes seat (a + 1) last words (given q is-held.1))
          where
            q : Pointer
            q = made_pointer f.location.object (f.at + offset) (size_of w.programs.whole.table x) u

            makes : primitive.address (w.programs.whole.kind inner) offset (size_of w.programs.whole.table x) u m.pointer l.state ≡ Done q l.state
            makes = ap (λ (y : Pointer). primitive.address (w.programs.whole.kind inner) offset (size_of w.programs.whole.table x) u y l.state) f.is
                ∙ address-made (w.programs.whole.kind inner) kind offset (size_of w.programs.whole.table x) u f.location f.at l.state f.offset

            is-held : IsHeldIn S l.state.memory b.depth (w.programs.whole.kind inner) u q × Holds w.programs l.state b.depth type (Address q)
            is-held = subst (λ (o : Outcome source.Ending source.State Pointer).
                Gives o (λ y s. IsHeldIn S l.state.memory b.depth (w.programs.whole.kind inner) u y × Holds w.programs l.state b.depth type (Address y)))
                (ap (λ (o : Outcome source.Ending source.State (Unit {0})). from o
                (λ y. primitive.address (w.programs.whole.kind inner) offset (size_of w.programs.whole.table x) u m.pointer)) passes ∙ makes) facts

            sum : slot z.after a + slot z.after (seat Offset)
                ≡ address (ground_of w.programs l.state z.after.state) f.location.object + before w.programs.whole.kind f.object.cells (f.at + offset)
            sum =
                let run = before-held S names.solved.well_formed t f.object.cells f.at f.location.part.high f.holds offset
                (let r = sub.room in omega (arith, r)) in
                let e = f.here in let d = far-there in omega (arith, run, e, d, far_is)

-- Members
pub member-follows : (w : Scene) (names : Names w) (g : AreSlots w.slots) (b : Running) (into held : Temp) (outer inner : NodeId) (t u : TypeId) (i : ℕ) (at : Place)
    (known after : Knowledge) (blocks : Blocks) (lines : Lines) → w.programs.whole.kind outer ≢ Wild → IsPlainKind (w.programs.whole.kind inner) → IsTemp held
    → IsComplete w.programs.whole.table t → IsAggregate w.programs.whole.table t → i < length (members_at w.programs.whole.table t) → member_at w.programs.whole.table t i ≡ u
    → IsAsked w.programs.sites (PointerTo inner u) → IsCuringPoint (point.Member into held outer t i inner u at) (world_of w) known after lines
    → Follows w g b blocks known after (meaning.act (instr.Point (point.Member into held outer t i inner u at)) (around_of w b)) lines
member-follows w names g b into held outer inner t u i at known after blocks lines plain kind temp complete aggregate less is told (a, sure, seat, h, takes, pieces, leave) l c p =
    subst (λ (v : Value). Match w g b after blocks (from (beside l.temps (member_value S at outer t i inner u v l.state))
    (λ y. leaves (λ (k : code.Local). record k { temps = with_temp into y k.temps }) >> done Goes)) (run lines (context_of w b) c)) (sym m.value)
    (part-follows w names g b known after blocks into held l c p outer inner t u u (offset_of w.programs.whole.table t i) far a sure h seat at plain kind complete part_complete sub
    far_is takes (PlaceOf inner u) facts (λ q holds d e come. gives-place w g b known after into l d l.state e inner u q come holds (inl told) leave) lines
    (subst (λ (n : ℕ). Then (Gets (world_of w) Offset (Number n) (seat Offset)) (Then (IsGuarded (world_of w)
    (address_of_part (world_of w) seat (w.programs.whole.kind outer) t (pointer_slots a)) (w.programs.whole.kind outer) at)
    (PartWords (w.programs.whole.kind inner) (world_of w) seat (cured_size w.programs.whole u) u (w.slots.column into) a (seat Offset) (a + 1))) lines)
    (offset-cured w (w.programs.whole.kind outer) plain t (offset_of w.programs.whole.table t i)) pieces))
  where
    S : Setting
    S = setting_of w.programs

    m : Pointed w g b l c held outer t a
    m = pointed w g b known l c p held outer t a sure h

    far : ℕ
    far = w.programs.whole.offset t (offset_of w.programs.whole.table t i)

    part_complete : IsComplete w.programs.whole.table u
    part_complete = subst (IsComplete w.programs.whole.table) is
        (member-complete (context_in w names 0 no_types) (around_of w b) (solved-in w names 0 no_types) (types_of known) (types_of known) l (facts-at w names g b known l c p 0 no_types)
        t i aggregate less)

    unions : (v : TypeId) (tag : ℕ) → shape_at w.programs.whole.table v ≡ shape.Union tag → IsUnionAllowed w.programs.whole.table w.programs.whole.kind v
    unions = union-allowed (context_in w names 0 no_types) (around_of w b) (solved-in w names 0 no_types) (types_of known) (types_of known) l (facts-at w names g b known l c p 0 no_types)

    mixed : IsWildWhereMixed w.programs.whole.table w.programs.whole.kind outer t
    mixed = (allowed-held (context_in w names 0 no_types) (around_of w b) (solved-in w names 0 no_types) (types_of known) (types_of known) l
        (facts-at w names g b known l c p 0 no_types) t (complete-data w.programs.whole.table names.solved.well_formed t complete) held outer
        (holds-address known held outer t a sure temp h)).1

    sub : IsSub S t (offset_of w.programs.whole.table t i) u
    sub = subst (IsSub S t (offset_of w.programs.whole.table t i)) is
        (sub-member S names.solved.well_formed unions t i aggregate less (λ v holds_mixed. plain (mixed v holds_mixed)))

    far_is : far ≡ before w.programs.whole.kind (cells_of w.programs.whole.table t) (offset_of w.programs.whole.table t i)
    far_is = names.sizes.offset t (offset_of w.programs.whole.table t i) complete
        (let r = sub.room in let e = (complete-some w.programs.whole.table names.solved.well_formed t complete).1 in omega (arith, r, e))
        (sub-between S names.solved.well_formed t u (offset_of w.programs.whole.table t i) sub part_complete)

    Gives_it : TypeId → Pointer → source.State → Type 0
    Gives_it v q r = GivesPointer S w.programs.sites b.depth (w.programs.whole.kind inner) v l.state q r × IsPlaceIn S l.state.memory b.depth (w.programs.whole.kind inner) v q

    member_gives : Gives (member S at (w.programs.whole.kind outer) t i inner u m.pointer l.state) (Gives_it u)
    member_gives = subst (λ (v : TypeId). Gives (member S at (w.programs.whole.kind outer) t i inner v m.pointer l.state) (Gives_it v)) is
        (gives-member_place S names.solved.well_formed w.programs.sites l.state b.depth unions at outer inner t i m.pointer
        (λ e. absurd (plain e), λ e. absurd (plain-tags (w.programs.whole.kind inner) kind e)) mixed complete aggregate less
        (subst (IsComplete w.programs.whole.table) (sym is) part_complete) (subst (λ (v : TypeId). IsAsked w.programs.sites (PointerTo inner v)) (sym is) told)
        p.there.facts.outlines m.held.held)

    facts : Gives (member S at (w.programs.whole.kind outer) t i inner u m.pointer l.state)
        (λ q s. IsHeldIn S l.state.memory b.depth (w.programs.whole.kind inner) u q × Holds w.programs l.state b.depth (PlaceOf inner u) (Address q))
    facts = gives-more (Gives_it u) _ (member S at (w.programs.whole.kind outer) t i inner u m.pointer l.state) member_gives
        (λ q r h. (h.0.held, (record { held = h.0.held; made = λ k. h.0.made }, h.1)))

-- Arrays
pub decay-follows : (w : Scene) (names : Names w) (g : AreSlots w.slots) (b : Running) (into held : Temp) (outer inner : NodeId) (array element : TypeId) (count : ℕ) (at : Place)
    (known after : Knowledge) (blocks : Blocks) (lines : Lines) → w.programs.whole.kind outer ≢ Wild → IsPlainKind (w.programs.whole.kind inner)
    → shape_at w.programs.whole.table array ≡ shape.Array element count → IsAsked w.programs.sites (PointerTo inner element)
    → IsCuringPoint (point.Decay into held outer array true inner element at) (world_of w) known after lines
    → Follows w g b blocks known after (meaning.act (instr.Point (point.Decay into held outer array true inner element at)) (around_of w b)) lines
decay-follows w names g b into held outer inner array element count at known after blocks lines plain kind is_array told
    (a, sure, seat, h, takes, pieces, leave) l c p =
    subst (λ (v : Value). Match w g b after blocks (from (beside l.temps (decayed_value S at outer array true inner element v l.state))
    (λ y. leaves (λ (k : code.Local). record k { temps = with_temp into y k.temps }) >> done Goes)) (run lines (context_of w b) c)) (sym m.value)
    (part-follows w names g b known after blocks into held l c p outer inner array array element 0 0 a sure h seat at plain kind complete complete (sub-own S names.solved.well_formed array)
    refl takes (PointerTo inner element) facts (λ q holds d e come. gives-pointer w g b known after into l d l.state e inner element q come holds told leave) lines
    pieces)
  where
    S : Setting
    S = setting_of w.programs

    m : Pointed w g b l c held outer array a
    m = pointed w g b known l c p held outer array a sure h

    complete : IsComplete w.programs.whole.table array
    complete = array-complete (context_in w names 0 no_types) (around_of w b) (solved-in w names 0 no_types) (types_of known) (types_of known) l (facts-at w names g b known l c p 0 no_types)
        array element count is_array

    facts : Gives (decayed S at (w.programs.whole.kind outer) array true inner element m.pointer l.state)
        (λ q s. IsHeldIn S l.state.memory b.depth (w.programs.whole.kind inner) element q × Holds w.programs l.state b.depth (PointerTo inner element) (Address q))
    facts = gives-more (GivesPointer S w.programs.sites b.depth (w.programs.whole.kind inner) element l.state) _ (decayed S at (w.programs.whole.kind outer) array true inner element m.pointer l.state)
        (gives-decayed S names.solved.well_formed w.programs.sites l.state b.depth at (w.programs.whole.kind outer) inner array element count m.pointer
        (λ e. absurd (plain e), λ e. absurd (plain-tags (w.programs.whole.kind inner) kind e)) is_array complete
        (element-complete (context_in w names 0 no_types) (around_of w b) (solved-in w names 0 no_types) (types_of known) (types_of known) l (facts-at w names g b known l c p 0 no_types)
        array element count is_array) told p.there.facts.outlines m.held.held)
        (λ q r g. (g.held, record { held = g.held; made = λ k. g.made }))
