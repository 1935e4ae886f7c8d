-- Copies of structs and unions between objects without tags.
use Rattle.std.proofs.Common.{◌≡◌, ◌≢◌, ℕ, ◌*◌, pos, ◌+ℤ◌, Bool, true, false, List, [], ◌∷◌, ◌++◌, Option, Some, None, refl, ap, sym, subst, ◌∙◌, arith, nat_eq, if◌then◌else◌}
use Rattle.std.proofs.lemmas.List.{append-nil}
use Rattle.cc_base.specs.declared.kind.Kind.{Kind}
use Rattle.cc_base.specs.declared.kind.Kind.TheVariants.{Safe, Seq, Rtti, Wild}
use Rattle.cc_base.specs.declared.number.TypeId.{TypeId}
use Rattle.cc_base.specs.declared.number.NodeId.{NodeId}
use Rattle.cc_base.specs.declared.place.Place.{Place}
use Rattle.c_types.specs.Table.{IsComplete, is_function}
use Rattle.c_types.specs.Layouts.{size_of}
use Rattle.c_types.specs.Cells.{holds_pointer}
use Rattle.c_types.specs.Widths as widths
use Rattle.runs.specs.Outcome.{Outcome, Ended, Done, done, either, from, allowed}
use Rattle.runs.specs.Control.{Goes, then_go}
use Rattle.flat_mem.specs.Memory as flat_memory
use Rattle.src_mem.specs.Pointers.{Location, Pointer, At, Value, Address}
use Rattle.src_mem.specs.State as source_state
use Rattle.src_mem.specs.State.{Setting}
use Rattle.src_mem.specs.Checks.{Condition, CopyFrom, CopyTo, conditions_of, all_checked, Outlives, check_of, checked, holds}
use Rattle.src_mem.specs.Primitives.{copy, load_pointer}
use Rattle.src_mem.specs.Uses.{keep_pointers, load_pointers, pointer_offsets, forward}
use Rattle.src_mem.specs.Values.{copied}
use Rattle.src_mem.specs.Facts.{IsPlaceIn}
use Rattle.src_mem.specs.Laws.{Gives}
use Rattle.facts_kept.specs.Kept.{IsKept, asked_of}
use Rattle.facts_kept.proofs.Complete.{complete-data}
use Rattle.facts_kept.proofs.Copying.{gives-copied}
use Rattle.cil_form.specs.declared.number.Temp.{Temp}
use Rattle.cil_form.specs.declared.number.Object.{Object}
use Rattle.cil_form.specs.declared.instr.Access.TheVariants as access
use Rattle.cil_form.specs.declared.instr.Target.TheVariants as target
use Rattle.cil_form.specs.declared.instr.Instr.TheVariants as instr
use Rattle.cil_form.specs.Typing.{Typing, IsObject, IsPart}
use Rattle.cil_form.specs.Meaning as meaning
use Rattle.cil_form.specs.Meaning.{number_of}
use Rattle.cil_facts.proofs.PartStores.{whole-complete}
use Rattle.cil_form.specs.State as code
use Rattle.cil_form.specs.State.{beside}
use Rattle.cured_code.specs.declared.instr.Instr.TheVariants as flat_instr
use Rattle.cured_code.specs.FlatState as flat
use Rattle.cured_code.specs.FlatState.{slot}
use Rattle.cured_code.specs.FlatMachine.{act, run}
use Rattle.cured_code.specs.declared.parts.Parts.{Parts}
use Rattle.check_forms.specs.declared.slots.PointerSlots.{PointerSlots}
use Rattle.check_forms.specs.declared.slots.Fixed.{Fixed}
use Rattle.check_forms.specs.declared.op.Op.TheVariants as op
use Rattle.check_forms.specs.Pieces.{Line, Then}
use Rattle.check_forms.specs.Conditions.{flat_holds}
use Rattle.check_forms.specs.Rows.{Asked, flat_conditions, reached, home_slot}
use Rattle.check_forms.specs.RowChecks.{AreChecks, first_false}
use Rattle.check_forms.proofs.TestLaws.{append-append}
use Rattle.sim_relation.specs.Ground.{place}
use Rattle.sim_relation.specs.Points.{Knowledge, Number, Start, Sure}
use Rattle.sim_memory.specs.Found.{GoOnAlike}
use Rattle.sim_memory.proofs.BlockWidths.{blocks-of-bytes, blocks-of-elements}
use Rattle.sim_memory.proofs.Copying.{structs-copied}
use Rattle.cure_rules.specs.Slots.{AreSlots, Role, Address as AddressRole, Base, Offset, Size, work_of, slot_of}
use Rattle.cure_rules.specs.Known as rules
use Rattle.cure_rules.specs.Known.{Includes, Gets, IsAddress, pointer_slots}
use Rattle.cure_rules.specs.Checks.{Seat, Need, AreGot, IsGuarded, need, number_at, reach_needs, size_at, size_needed, numbers_of, wild_numbers, aligned_needs}
use Rattle.cure_rules.specs.Pointing.{cured_offset}
use Rattle.cure_rules.specs.Accesses.{CopiedBy, part_slots, plain_copied, CellsKept, PointersCopied}
use Rattle.cure_rules.specs.Code.{Blocks}
use Rattle.sim_laws.specs.Scenes.{Scene, Running, setting_of, world_of, around_of, context_of}
use Rattle.sim_checks.specs.Rows.{AreWordsOf}
use Rattle.sim_laws.specs.Points.{Point, Passed, ground_of}
use Rattle.sim_laws.specs.Statements.{Lines, CodeOutcome, FlatOutcome, Match, Follows}
use Rattle.sim_laws.proofs.Points.{unwritten}
use Rattle.sim_laws.proofs.Guards.{Got, passed-none, passed-then, got-number}
use Rattle.sim_laws.proofs.Names.{Names, context_in, facts-at, solved-in, types_of}
use Rattle.sim_laws.proofs.Checks.{AllGot, AreCompared, AreThere, IsNoneOf, Sparing, StopsAlike, all-got, checked-got, got-spares, passed-point, stops-alike}
use Rattle.sim_laws.proofs.Reaching.{Pointed, IsSlotOf, pointed, needs-roles, slots-ready, slots-compared}
use Rattle.sim_laws.proofs.Aiming.{Aimed, first-slot, address-spared, aimed-other, aimed-checked, aimed-place, aimed-found, aimed-pointer, words-same}
use Rattle.sim_laws.proofs.Parts.{Reached, part-reached, part-aim, safe_not_wild}
use Rattle.sim_laws.proofs.Accessing.{all-held, guard-changes, facts-kept}
use Rattle.sim_laws.proofs.Storing.{ready-both}
use Rattle.sim_laws.proofs.Stays.{grows-kept, there-kept}
use Rattle.check_forms.specs.declared.op.WildNumbers.{WildNumbers}
use Rattle.sim_laws.proofs.KeptCells.{Ready, keep-cells}

-- Numbers that two checks share

-- a number is set, or kept, and then once more
twice-got : (w : Scene) (g : AreSlots w.slots) (b : Running) (known : Knowledge) (l : code.Local) (size : Fixed) (lines : Lines) (c : flat.Local) → Point w g b known l c
    → AreGot (world_of w) (need Size size ∷ need Size size ∷ []) lines → AllGot w g b (need Size size ∷ need Size size ∷ []) lines c
unfolding Line Then
twice-got w g b known l size lines c p (one, more, gets, (two, rest, again, nothing, is'), is) = record {
  after = y.after;
  state = y.state ∙ z.state;
  passed = passed-then w g c.slots z.after.slots y.after.slots z.passed y.passed;
  runs = λ more'. ap (λ (js : Lines). run (js ++ more') (context_of w b) c) whole ∙ ap (λ (js : Lines). run js (context_of w b) c) (append-append one two more')
      ∙ z.runs (two ++ more') ∙ y.runs more';
  there = (y.is, y.other, (y.is, y.other, tt));
  spares = λ r none a h. got-spares w g b z.after Size size.value size.slot two again y r none.0 a h ∙ got-spares w g b c Size size.value size.slot one gets z r none.0 a h;
}
  where
    z : Got w g (context_of w b) one c size.slot size.value
    z = got-number w g b known l c p Size (omega arith) size.value size.slot one gets

    y : Got w g (context_of w b) two z.after size.slot size.value
    y = got-number w g b known l z.after (passed-point w g b known l c z.after p z.state z.passed) Size (omega arith) size.value size.slot two again

    whole : lines ≡ one ++ two
    whole = is ∙ ap (λ (js : Lines). one ++ js) (is' ∙ ap (λ (js : Lines). two ++ js) nothing ∙ append-nil two)

-- the numbers of two uses of one size
both-got : (w : Scene) (g : AreSlots w.slots) (b : Running) (known : Knowledge) (l : code.Local) (k j : Kind) → k ≢ Wild → j ≢ Wild → (size : Fixed) (lines : Lines)
    (c : flat.Local) → Point w g b known l c → AreGot (world_of w) (reach_needs k size ++ reach_needs j size) lines
    → AllGot w g b (reach_needs k size ++ reach_needs j size) lines c
both-got w g b known l Safe j plain other size lines c p got = all-got w g b known l (reach_needs j size) lines c p (needs-roles j other size) got
both-got w g b known l Rtti j plain other size lines c p got = all-got w g b known l (reach_needs j size) lines c p (needs-roles j other size) got
both-got w g b known l Seq Safe plain other size lines c p got =
    subst (λ (xs : List Need). AllGot w g b xs lines c) (sym (append-nil (size_needed size)))
    (all-got w g b known l (size_needed size) lines c p (needs-roles Seq plain size) (subst (λ (xs : List Need). AreGot (world_of w) xs lines) (append-nil (size_needed size)) got))
both-got w g b known l Seq Rtti plain other size lines c p got =
    subst (λ (xs : List Need). AllGot w g b xs lines c) (sym (append-nil (size_needed size)))
    (all-got w g b known l (size_needed size) lines c p (needs-roles Seq plain size) (subst (λ (xs : List Need). AreGot (world_of w) xs lines) (append-nil (size_needed size)) got))
both-got w g b known l Seq Seq plain other size lines c p got = by (nat_eq size.value 1) got
  where
    by : (q : Bool) → AreGot (world_of w) ((if q then [] else need Size size ∷ []) ++ (if q then [] else need Size size ∷ [])) lines
        → AllGot w g b ((if q then [] else need Size size ∷ []) ++ (if q then [] else need Size size ∷ [])) lines c
    by true h = all-got w g b known l [] lines c p tt h
    by false h = twice-got w g b known l size lines c p h
both-got w g b known l Seq Wild plain other size lines c p got = absurd (other refl)
both-got w g b known l Wild j plain other size lines c p got = absurd (plain refl)

none-both : (r : Role) (xs ys : List Need) → IsNoneOf r xs → IsNoneOf r ys → IsNoneOf r (xs ++ ys)
none-both r [] ys a b = b
none-both r (x ∷ xs) ys a b = (a.0, none-both r xs ys a.1 b)

there-first : (w : Scene) (c : flat.Local) (xs ys : List Need) → AreThere w c (xs ++ ys) → AreThere w c xs
there-first w c [] ys h = tt
there-first w c (x ∷ xs) ys h = (h.0, h.1, there-first w c xs ys h.2)

there-second : (w : Scene) (c : flat.Local) (xs ys : List Need) → AreThere w c (xs ++ ys) → AreThere w c ys
there-second w c [] ys h = h
there-second w c (x ∷ xs) ys h = there-second w c xs ys h.2

-- Conditions at two places

stops-both : (parts : Parts) (m : flat_memory.Memory) (e : ℕ → ℕ) (s : source_state.State) (xs ys : List Asked) (o : Outcome source_state.Ending source_state.State (Unit {0}))
    (f : source_state.State → Outcome source_state.Ending source_state.State (Unit {0})) → StopsAlike (first_false parts m xs e) o s → StopsAlike (first_false parts m ys e) (f s) s
    → StopsAlike (first_false parts m (xs ++ ys) e) (from o (λ u. f)) s
stops-both parts m e s [] ys o f a b = subst (λ (z : Outcome source_state.Ending source_state.State (Unit {0})). StopsAlike (first_false parts m ys e) (from z (λ u. f)) s) (sym a) b
stops-both parts m e s (x ∷ xs) ys o f a b = by (λ h. stops-both parts m e s xs ys o f h b) (flat_holds parts m x.condition e) a
  where
    by : (StopsAlike (first_false parts m xs e) o s → StopsAlike (first_false parts m (xs ++ ys) e) (from o (λ u. f)) s) → (q : Bool)
        → StopsAlike (if q then first_false parts m xs e else Some x) o s → StopsAlike (if q then first_false parts m (xs ++ ys) e else Some x) (from o (λ u. f)) s
    by further true h = further h
    by further false h = ap (λ (z : Outcome source_state.Ending source_state.State (Unit {0})). from z (λ u. f)) h

-- where the lines go on, they go on behind each
none-first : (parts : Parts) (m : flat_memory.Memory) (e : ℕ → ℕ) (xs ys : List Asked) → first_false parts m (xs ++ ys) e ≡ None
    → (first_false parts m xs e ≡ None) × (first_false parts m ys e ≡ None)
none-first parts m e [] ys h = (refl, h)
none-first parts m e (x ∷ xs) ys h = by (λ k. none-first parts m e xs ys k) (flat_holds parts m x.condition e) h
  where
    by : (first_false parts m (xs ++ ys) e ≡ None → (first_false parts m xs e ≡ None) × (first_false parts m ys e ≡ None)) → (q : Bool)
        → (if q then first_false parts m (xs ++ ys) e else Some x) ≡ None → ((if q then first_false parts m xs e else Some x) ≡ None) × (first_false parts m ys e ≡ None)
    by further true k = further k
    by further false k = absurd (cc (k))

-- What is asked of the two sides

asked-from : (k : Kind) → k ≢ Wild → (holds : Bool) (m : ℕ) (p : Pointer) → conditions_of (CopyFrom holds m) k p ≡ asked_of m k p
asked-from Safe plain false m p = refl
asked-from Safe plain true m p = refl
asked-from Rtti plain false m p = refl
asked-from Rtti plain true m p = refl
asked-from Seq plain false m p = refl
asked-from Seq plain true m p = refl
asked-from Wild plain holds m p = absurd (plain refl)

asked-to : (k : Kind) → k ≢ Wild → (holds : Bool) (m : ℕ) (p : Pointer) → conditions_of (CopyTo holds m) k p ≡ asked_of m k p
asked-to Safe plain false m p = refl
asked-to Safe plain true m p = refl
asked-to Rtti plain false m p = refl
asked-to Rtti plain true m p = refl
asked-to Seq plain false m p = refl
asked-to Seq plain true m p = refl
asked-to Wild plain holds m p = absurd (plain refl)

size-alike : (w : Scene) (seat : Seat) (k : Kind) → k ≢ Wild → (t : TypeId) → size_at (world_of w) seat k t ≡ number_at seat Size (rules.cured_size w.programs.whole t)
size-alike w seat Safe plain t = refl
size-alike w seat Rtti plain t = refl
size-alike w seat Seq plain t = refl
size-alike w seat Wild plain t = absurd (plain refl)

lines-of-copy : (k l : Kind) → k ≢ Wild → (p q : PointerSlots) (size : Fixed) (from_place to_place : Place)
    → flat_conditions (op.CopyPlain p q l size to_place) k from_place ≡ reached k p size from_place ++ reached l q size to_place
lines-of-copy Safe l plain p q size from_place to_place = refl
lines-of-copy Rtti l plain p q size from_place to_place = refl
lines-of-copy Seq l plain p q size from_place to_place = refl
lines-of-copy Wild l plain p q size from_place to_place = absurd (plain refl)

line-of-move : (k : Kind) → k ≢ Wild → (p q : PointerSlots) (size : ℕ) → plain_copied k p q size ≡ flat_instr.Move q.first p.first size ∷ []
line-of-move Safe plain p q size = refl
line-of-move Rtti plain p q size = refl
line-of-move Seq plain p q size = refl
line-of-move Wild plain p q size = absurd (plain refl)

regrouped : (o : Outcome source_state.Ending source_state.State (Unit {0})) (f g : source_state.State → Outcome source_state.Ending source_state.State (Unit {0}))
    → from o (λ x. λ s. from (f s) (λ y. λ r. g r)) ≡ from (from o (λ x. f)) (λ y. g)
regrouped (Ended e s) f g = refl
regrouped (Done x s) f g = refl

-- A struct without pointers

-- is as long as before
pub plain-width : (w : Scene) (names : Names w) (t : TypeId) → IsComplete w.programs.whole.table t → holds_pointer w.programs.whole.table t ≡ false
    → size_of w.programs.whole.table t ≡ widths.cured_size w.programs.whole.table w.programs.whole.kind t
plain-width w names t complete none =
    let a = blocks-of-bytes (setting_of w.programs) t (1 * size_of w.programs.whole.table t) names.solved.well_formed none in
    let e = blocks-of-elements (setting_of w.programs) t 1 names.solved.well_formed complete in omega (arith, a, e)

plain-size : (w : Scene) (names : Names w) (t : TypeId) → IsComplete w.programs.whole.table t → holds_pointer w.programs.whole.table t ≡ false
    → rules.source_size w.programs.whole t ≡ widths.cured_size w.programs.whole.table w.programs.whole.kind t
plain-size w names t complete none = ap (λ (q : Bool). if q then size_of w.programs.whole.table t else 0) complete ∙ plain-width w names t complete none

-- A struct with pointers

lines-of-pointers : (k j : Kind) → k ≢ Wild → j ≢ Wild → (p q : PointerSlots) (size : Fixed) (numbers : WildNumbers) (from_place to_place assignment : Place)
    → flat_conditions (op.CopyPointers p q j size numbers to_place assignment) k from_place ≡ reached k p size from_place ++ reached j q size to_place
lines-of-pointers Safe Safe plain other p q size numbers from_place to_place assignment = refl
lines-of-pointers Safe Rtti plain other p q size numbers from_place to_place assignment = refl
lines-of-pointers Safe Seq plain other p q size numbers from_place to_place assignment = refl
lines-of-pointers Safe Wild plain other p q size numbers from_place to_place assignment = absurd (other refl)
lines-of-pointers Rtti Safe plain other p q size numbers from_place to_place assignment = refl
lines-of-pointers Rtti Rtti plain other p q size numbers from_place to_place assignment = refl
lines-of-pointers Rtti Seq plain other p q size numbers from_place to_place assignment = refl
lines-of-pointers Rtti Wild plain other p q size numbers from_place to_place assignment = absurd (other refl)
lines-of-pointers Seq Safe plain other p q size numbers from_place to_place assignment = refl
lines-of-pointers Seq Rtti plain other p q size numbers from_place to_place assignment = refl
lines-of-pointers Seq Seq plain other p q size numbers from_place to_place assignment = refl
lines-of-pointers Seq Wild plain other p q size numbers from_place to_place assignment = absurd (other refl)
lines-of-pointers Wild j plain other p q size numbers from_place to_place assignment = absurd (plain refl)

aligned-none : (k : Kind) → k ≢ Wild → (numbers : WildNumbers) → aligned_needs k numbers ≡ []
aligned-none Safe plain numbers = refl
aligned-none Rtti plain numbers = refl
aligned-none Seq plain numbers = refl
aligned-none Wild plain numbers = absurd (plain refl)

dropped : (rs xs ys zs : List Need) → xs ≡ [] → zs ≡ [] → rs ++ xs ++ ys ++ zs ≡ rs ++ ys
dropped [] xs ys zs first last = ap (λ (is : List Need). is ++ ys ++ zs) first ∙ ap (λ (is : List Need). ys ++ is) last ∙ append-nil ys
dropped (r ∷ rs) xs ys zs first last = ap (λ (is : List Need). r ∷ is) (dropped rs xs ys zs first last)

needs-of-pointers : (k j : Kind) → k ≢ Wild → j ≢ Wild → (p q : PointerSlots) (size : Fixed) (numbers : WildNumbers) (to_place assignment : Place)
    → numbers_of (op.CopyPointers p q j size numbers to_place assignment) k ≡ reach_needs k size ++ reach_needs j size
needs-of-pointers k j plain other p q size numbers to_place assignment =
    dropped (reach_needs k size) (aligned_needs k numbers) (reach_needs j size) (aligned_needs j numbers) (aligned-none k plain numbers) (aligned-none j other numbers)

-- the lines behind the checks
pieces : (k j : Kind) → k ≢ Wild → j ≢ Wild → (w : Scene) (seat : Seat) (t : TypeId) (source target : PointerSlots) (assignment : Place) (lines : Lines)
    → PointersCopied k j (world_of w) seat t source target assignment lines
    → Then (CellsKept (world_of w) seat k t source.first (home_slot j target) assignment (pointer_offsets w.programs.whole.table t))
    (Line (flat_instr.Move target.first source.first (rules.cured_size w.programs.whole t) ∷ [])) lines
pieces Safe Safe plain other w seat t source target assignment lines h = h
pieces Safe Rtti plain other w seat t source target assignment lines h = h
pieces Safe Seq plain other w seat t source target assignment lines h = h
pieces Safe Wild plain other w seat t source target assignment lines h = absurd (other refl)
pieces Rtti Safe plain other w seat t source target assignment lines h = h
pieces Rtti Rtti plain other w seat t source target assignment lines h = h
pieces Rtti Seq plain other w seat t source target assignment lines h = h
pieces Rtti Wild plain other w seat t source target assignment lines h = absurd (other refl)
pieces Seq Safe plain other w seat t source target assignment lines h = h
pieces Seq Rtti plain other w seat t source target assignment lines h = h
pieces Seq Seq plain other w seat t source target assignment lines h = h
pieces Seq Wild plain other w seat t source target assignment lines h = absurd (other refl)
pieces Wild j plain other w seat t source target assignment lines h = absurd (plain refl)

kept-plain : (w : Setting) (a : Place) (k : Kind) → k ≢ Wild → (p q : Pointer) (t : TypeId) (s : source_state.State)
    → keep_pointers w a k p q t s ≡ load_pointers w a k p q (pointer_offsets w.table t) s
kept-plain w a Safe plain p q t s = refl
kept-plain w a Rtti plain p q t s = refl
kept-plain w a Seq plain p q t s = refl
kept-plain w a Wild plain p q t s = absurd (plain refl)

-- The two sides behind their checks

module _ (w : Scene) (names : Names w) (g : AreSlots w.slots) (b : Running) (node home : NodeId) (t : TypeId) (from_place to_place : Place) (known : Knowledge)
    (source target : PointerSlots) (plain : w.programs.whole.kind node ≢ Wild) (other : w.programs.whole.kind home ≢ Wild) (complete : IsComplete w.programs.whole.table t)
    (seat : Seat) (l : code.Local) (c : flat.Local) (p : Point w g b known l c) (onto : Aimed w g b l c target (w.programs.whole.kind home) t)
    (what : Aimed w g b l c source (w.programs.whole.kind node) t) where
  abbrev S : Setting
  S = setting_of w.programs

  abbrev k : Kind
  k = w.programs.whole.kind node

  abbrev j : Kind
  j = w.programs.whole.kind home

  abbrev size : Fixed
  size = number_at seat Size (rules.cured_size w.programs.whole t)

  abbrev needs : List Need
  needs = reach_needs (w.programs.whole.kind node) size ++ reach_needs (w.programs.whole.kind home) size

  abbrev from_asks : List Asked
  from_asks = reached (w.programs.whole.kind node) source size from_place

  abbrev to_asks : List Asked
  to_asks = reached (w.programs.whole.kind home) target size to_place

  abbrev m : ℕ
  m = size_of w.programs.whole.table t

  -- what C asks
  abbrev sides : Outcome source_state.Ending source_state.State (Unit {0})
  sides = from (all_checked (setting_of w.programs) from_place (asked_of (size_of w.programs.whole.table t) (w.programs.whole.kind node) what.pointer) l.state)
      (λ u. all_checked (setting_of w.programs) to_place (asked_of (size_of w.programs.whole.table t) (w.programs.whole.kind home) onto.pointer))

  pub sides-guarded : (first : Lines)
      → Then (AreGot (world_of w) (reach_needs (w.programs.whole.kind node) size ++ reach_needs (w.programs.whole.kind home) size))
      (AreChecks (work_of w.slots) (reached (w.programs.whole.kind node) source size from_place ++ reached (w.programs.whole.kind home) target size to_place)) first
      → Sparing w g b known l (reach_needs (w.programs.whole.kind node) size ++ reach_needs (w.programs.whole.kind home) size)
      (reached (w.programs.whole.kind node) source size from_place ++ reached (w.programs.whole.kind home) target size to_place) first c
  unfolding Then
  sides-guarded first (x, y, gets, checks, is) =
      subst (λ (js : Lines). Sparing w g b known l needs (from_asks ++ to_asks) js c) (sym is) (of (both-got w g b known l k j plain other size x c p gets))
    where
      of : AllGot w g b needs x c → Sparing w g b known l needs (from_asks ++ to_asks) (x ++ y) c
      of z = checked-got w g b known l needs (from_asks ++ to_asks) x y c p z checks
          (ready-both w c z.after from_asks to_asks
          (slots-ready w c z.after k plain source size from_place (aimed-other w g b l c source k t what) (there-first w z.after (reach_needs k size) (reach_needs j size) z.there))
          (slots-ready w c z.after j other target size to_place (aimed-other w g b l c target j t onto) (there-second w z.after (reach_needs k size) (reach_needs j size) z.there)))

  module _ (first : Lines) (z : Sparing w g b known l (reach_needs (w.programs.whole.kind node) size ++ reach_needs (w.programs.whole.kind home) size)
      (reached (w.programs.whole.kind node) source size from_place ++ reached (w.programs.whole.kind home) target size to_place) first c) where
    abbrev stop : Option Asked
    stop = first_false w.programs.parts c.state.memory (reached (w.programs.whole.kind node) source size from_place ++ reached (w.programs.whole.kind home) target size to_place)
        (slot z.guarded.middle)

    spared : IsNoneOf AddressRole (reach_needs k size ++ reach_needs j size)
    spared = none-both AddressRole (reach_needs k size) (reach_needs j size) (address-spared k plain size) (address-spared j other size)

    from-middle : (a : ℕ) → IsSlotOf k source a → slot z.guarded.middle a ≡ slot c a
    from-middle a h = z.spared AddressRole spared a (what.stays a h)

    to-middle : (a : ℕ) → IsSlotOf j target a → slot z.guarded.middle a ≡ slot c a
    to-middle a h = z.spared AddressRole spared a (onto.stays a h)

    -- behind the checks too
    pub from-after : (a : ℕ) → IsSlotOf (w.programs.whole.kind node) source a → slot z.guarded.after a ≡ slot c a
    from-after a h = z.guarded.others a (aimed-other w g b l c source k t what a h) ∙ from-middle a h

    pub to-after : (a : ℕ) → IsSlotOf (w.programs.whole.kind home) target a → slot z.guarded.after a ≡ slot c a
    to-after a h = z.guarded.others a (aimed-other w g b l c target j t onto a h) ∙ to-middle a h

    from-alike : StopsAlike (first_false w.programs.parts c.state.memory from_asks (slot z.guarded.middle)) (all_checked S from_place (asked_of m k what.pointer) l.state) l.state
    from-alike = stops-alike w.programs.parts c.state.memory (slot z.guarded.middle) S (λ x. from_place) l.state from_asks (asked_of m k what.pointer)
        (subst (λ (f : Fixed). AreCompared w.programs.parts c.state.memory (slot z.guarded.middle) S l.state.memory (λ x. from_place) (reached k source f from_place) (asked_of m k what.pointer))
        (size-alike w seat k plain t)
        (slots-compared w names l.state c.state b.depth k plain t complete what.pointer (slot z.guarded.middle) source seat from_place (λ x. from_place) (λ r. refl) (λ i r. refl)
        (aimed-checked w g b l c source k t what known p z.guarded.middle from-middle)))

    to-alike : StopsAlike (first_false w.programs.parts c.state.memory to_asks (slot z.guarded.middle)) (all_checked S to_place (asked_of m j onto.pointer) l.state) l.state
    to-alike = stops-alike w.programs.parts c.state.memory (slot z.guarded.middle) S (λ x. to_place) l.state to_asks (asked_of m j onto.pointer)
        (subst (λ (f : Fixed). AreCompared w.programs.parts c.state.memory (slot z.guarded.middle) S l.state.memory (λ x. to_place) (reached j target f to_place) (asked_of m j onto.pointer))
        (size-alike w seat j other t)
        (slots-compared w names l.state c.state b.depth j other t complete onto.pointer (slot z.guarded.middle) target seat to_place (λ x. to_place) (λ r. refl) (λ i r. refl)
        (aimed-checked w g b l c target j t onto known p z.guarded.middle to-middle)))

    pub sides-alike : StopsAlike stop sides l.state
    sides-alike = stops-both w.programs.parts c.state.memory (slot z.guarded.middle) l.state from_asks to_asks (all_checked S from_place (asked_of m k what.pointer) l.state)
        (all_checked S to_place (asked_of m j onto.pointer)) from-alike to-alike

    -- where they pass, both are places
    data_type : is_function w.programs.whole.table t ≡ false
    data_type = complete-data w.programs.whole.table names.solved.well_formed t complete

    pub from-placed : stop ≡ None → IsPlaceIn (setting_of w.programs) l.state.memory b.depth (w.programs.whole.kind node) t what.pointer
    from-placed none = aimed-place w g b l c source k t what names data_type (all-held S (λ x. from_place) (asked_of m k what.pointer) l.state
        (subst (λ (x : Option Asked). StopsAlike x (all_checked S from_place (asked_of m k what.pointer) l.state) l.state)
        (none-first w.programs.parts c.state.memory (slot z.guarded.middle) from_asks to_asks none).0 from-alike))

    pub to-placed : stop ≡ None → IsPlaceIn (setting_of w.programs) l.state.memory b.depth (w.programs.whole.kind home) t onto.pointer
    to-placed none = aimed-place w g b l c target j t onto names data_type (all-held S (λ x. to_place) (asked_of m j onto.pointer) l.state
        (subst (λ (x : Option Asked). StopsAlike x (all_checked S to_place (asked_of m j onto.pointer) l.state) l.state)
        (none-first w.programs.parts c.state.memory (slot z.guarded.middle) from_asks to_asks none).1 to-alike))

    pub sides-pass : stop ≡ None → sides ≡ Done tt l.state
    sides-pass none = subst (λ (x : Option Asked). StopsAlike x sides l.state) none sides-alike

    -- what C does behind them, and the lines
    module _ (assignment : Place) (cells : Seat) (after : Knowledge) (blocks : Blocks) (less : Includes known after) (q : Bool)
        (holds : holds_pointer w.programs.whole.table t ≡ q) where
      abbrev last : source_state.State → Outcome source_state.Ending source_state.State (Unit {0})
      last r = from (either q (keep_pointers (setting_of w.programs) assignment (w.programs.whole.kind node) what.pointer onto.pointer t) (done tt) r)
          (λ i. copy (size_of w.programs.whole.table t) (w.programs.whole.kind node) what.pointer (w.programs.whole.kind home) onto.pointer)

      abbrev changed : Outcome source_state.Ending source_state.State (Unit {0}) → CodeOutcome
      changed r = from (beside l.temps r) (λ x. done Goes)

      abbrev parts-of : Bool → List Condition → List Condition → Outcome source_state.Ending source_state.State (Unit {0})
      parts-of i xs ys = from (all_checked S from_place xs l.state) (λ x. λ s. from (all_checked S to_place ys s)
          (λ y. λ r. from (either i (keep_pointers S assignment k what.pointer onto.pointer t) (done tt) r) (λ e. copy m k what.pointer j onto.pointer)))

      copies : copied (setting_of w.programs) t from_place node (Address what.pointer) to_place home (Address onto.pointer) assignment l.state ≡ from sides (λ u. last)
      copies = ap (λ (i : Bool). parts-of i (conditions_of (CopyFrom i m) k what.pointer) (conditions_of (CopyTo i m) j onto.pointer)) holds
          ∙ ap (λ (xs : List Condition). parts-of q xs (conditions_of (CopyTo q m) j onto.pointer)) (asked-from k plain q m what.pointer)
          ∙ ap (parts-of q (asked_of m k what.pointer)) (asked-to j other q m onto.pointer)
          ∙ regrouped (all_checked S from_place (asked_of m k what.pointer) l.state) (all_checked S to_place (asked_of m j onto.pointer)) last

      pub started : stop ≡ None → Ready w names g b node home t assignment known source target plain other complete cells l what.pointer onto.pointer
          (what.stays source.first (first-slot (w.programs.whole.kind node) source)) onto.stays l.state z.guarded.after
      started none = record {
        memory = refl;
        point = z.guarded.point;
        placed = from-placed none;
        held = onto.held;
        words = subst (λ (x : flat.State). AreWordsOf (ground_of w.programs l.state x) (slot z.guarded.after) target j onto.pointer) (sym z.guarded.state)
            (words-same (ground_of w.programs l.state c.state) j target onto.pointer (slot c) (slot z.guarded.after) to-after onto.words);
        source_found = aimed-found w g b l c source k t what names plain known p z.guarded.after z.guarded.state (from-after source.first (first-slot k source)) (from-placed none);
        target_found = aimed-found w g b l c target j t onto names other known p z.guarded.after z.guarded.state (to-after target.first (first-slot j target)) (to-placed none);
      }

      -- the bytes move
      pub moves : stop ≡ None → (s : source_state.State) (d : flat.Local)
          → Ready w names g b node home t assignment known source target plain other complete cells l what.pointer onto.pointer
          (what.stays source.first (first-slot (w.programs.whole.kind node) source)) onto.stays s d
          → last l.state ≡ copy (size_of w.programs.whole.table t) (w.programs.whole.kind node) what.pointer (w.programs.whole.kind home) onto.pointer s
          → (n : ℕ) → n ≡ widths.cured_size w.programs.whole.table w.programs.whole.kind t
          → Match w g b after blocks
          (from (beside l.temps (copy (size_of w.programs.whole.table t) (w.programs.whole.kind node) what.pointer (w.programs.whole.kind home) onto.pointer s)) (λ x. done Goes))
          (run (flat_instr.Move target.first source.first n ∷ []) (context_of w b) d)
      moves none s d ready goes n wide = of (structs-copied S w.programs.whole.node k j t what.pointer onto.pointer s (context_of w b) target.first source.first n d
          names.solved.well_formed complete plain other ready.point.there.related ready.source_found ready.target_found wide)
        where
          of : GoOnAlike S w.programs.whole.node s d (copy (size_of w.programs.whole.table t) k what.pointer j onto.pointer s)
              (act (flat_instr.Move target.first source.first n) (context_of w b) d) tt d.slots
              → Match w g b after blocks (changed (copy m k what.pointer j onto.pointer s)) (run (flat_instr.Move target.first source.first n ∷ []) (context_of w b) d)
          of y =
              subst (λ (r : Outcome source_state.Ending source_state.State (Unit {0})). Match w g b after blocks (changed r)
              (run (flat_instr.Move target.first source.first n ∷ []) (context_of w b) d)) (sym y.source_goes)
              (subst (λ (o : FlatOutcome). Match w g b after blocks (changed (Done tt y.next)) (from o (λ x. then_go x (run [] (context_of w b))))) (sym y.flat_goes)
              (unwritten w g b known after (record l { state = s }) y.next d y.after ready.point
              (there-kept w.programs s y.next d.state y.after.state y.stays b p.outer ready.point.there y.related
              (facts-kept S w.programs.sites l.state.memory y.next.memory b.depth is_kept p.there.facts))
              (grows-kept w.programs s y.next d.state y.after.state y.stays b.depth)
              (subst (λ (xs : List ℕ). Passed w g d.slots xs) (sym y.slots_are) (passed-none w g d.slots)) less))
            where
              is_kept : IsKept S w.programs.sites l.state.memory y.next.memory
              is_kept = subst (λ (r : Outcome source_state.Ending source_state.State (Unit {0})). Gives r (λ i r. IsKept S w.programs.sites l.state.memory r.memory))
                  (copies ∙ ap (λ (o : Outcome source_state.Ending source_state.State (Unit {0})). from o (λ u. last)) (sides-pass none) ∙ goes ∙ y.source_goes)
                  (gives-copied S names.solved.well_formed w.programs.sites b.depth t complete k j plain other what.pointer onto.pointer from_place to_place assignment l.state
                  p.there.facts.objects p.there.facts.outlines what.held onto.held)

      pub copies-alike : (rest : Lines) → (stop ≡ None → Match w g b after blocks (from (beside l.temps (last l.state)) (λ x. done Goes)) (run rest (context_of w b) z.guarded.after))
          → Match w g b after blocks
          (from (beside l.temps (copied (setting_of w.programs) t from_place node (Address what.pointer) to_place home (Address onto.pointer) assignment l.state)) (λ x. done Goes))
          (run (first ++ rest) (context_of w b) c)
      copies-alike rest goes =
          subst (λ (r : Outcome source_state.Ending source_state.State (Unit {0})). Match w g b after blocks (changed r) (run (first ++ rest) (context_of w b) c)) (sym copies)
          (subst (λ (o : FlatOutcome). Match w g b after blocks (changed (from sides (λ u. last))) o) (sym (z.guarded.runs rest))
          (guard-changes w g b known after blocks l z.guarded.after z.guarded.point stop sides sides-alike (λ o. from o (λ u. last)) (λ e s. refl) rest goes))

  -- a struct of either sort
  module _ (assignment : Place) (cells : Seat) (after : Knowledge) (blocks : Blocks) (less : Includes known after) (lines : Lines) where
    abbrev Goal : Type 0
    Goal = Match w g b after blocks
        (from (beside l.temps (copied (setting_of w.programs) t from_place node (Address what.pointer) to_place home (Address onto.pointer) assignment l.state)) (λ x. done Goes))
        (run lines (context_of w b) c)

    copy-plain : holds_pointer w.programs.whole.table t ≡ false
        → CopiedBy false (world_of w) seat cells (w.programs.whole.kind node) (w.programs.whole.kind home) t source target from_place to_place assignment lines → Goal
    unfolding Line Then
    copy-plain none (first, rest, guard, line, is) =
        subst (λ (js : Lines). Match w g b after blocks
        (from (beside l.temps (copied (setting_of w.programs) t from_place node (Address what.pointer) to_place home (Address onto.pointer) assignment l.state)) (λ x. done Goes))
        (run js (context_of w b) c)) (sym is)
        (copies-alike first z assignment cells after blocks less false none rest (λ h.
        subst (λ (js : Lines). Match w g b after blocks (from (beside l.temps (copy m k what.pointer j onto.pointer l.state)) (λ x. done Goes)) (run js (context_of w b) z.guarded.after))
        (sym (line ∙ line-of-move j other source target (rules.source_size w.programs.whole t)))
        (moves first z assignment cells after blocks less false none h l.state z.guarded.after (started first z assignment cells after blocks less false none h) refl
        (rules.source_size w.programs.whole t) (plain-size w names t complete none))))
      where
        z : Sparing w g b known l (reach_needs k size ++ reach_needs j size) (reached k source size from_place ++ reached j target size to_place) first c
        z = sides-guarded first (subst (λ (as' : List Asked). Then (AreGot (world_of w) (reach_needs k size ++ reach_needs j size)) (AreChecks (work_of w.slots) as') first)
            (lines-of-copy k j plain source target size from_place to_place)
            (subst (λ (f : Fixed). IsGuarded (world_of w) (op.CopyPlain source target j f to_place) k from_place first) (size-alike w seat k plain t) guard))

    -- each pointer is loaded and passes ESCAPE
    copy-pointers : holds_pointer w.programs.whole.table t ≡ true
        → CopiedBy true (world_of w) seat cells (w.programs.whole.kind node) (w.programs.whole.kind home) t source target from_place to_place assignment lines → Goal
    unfolding Line Then
    copy-pointers some (first, rest, guard, copies, is) =
        subst (λ (js : Lines). Match w g b after blocks
        (from (beside l.temps (copied (setting_of w.programs) t from_place node (Address what.pointer) to_place home (Address onto.pointer) assignment l.state)) (λ x. done Goes))
        (run js (context_of w b) c)) (sym is)
        (copies-alike first z assignment cells after blocks less true some rest (λ h. goes h (pieces k j plain other w cells t source target assignment rest copies)))
      where
        numbers : WildNumbers
        numbers = wild_numbers (world_of w) seat

        z : Sparing w g b known l (reach_needs k size ++ reach_needs j size) (reached k source size from_place ++ reached j target size to_place) first c
        z = sides-guarded first (subst (λ (as' : List Asked). Then (AreGot (world_of w) (reach_needs k size ++ reach_needs j size)) (AreChecks (work_of w.slots) as') first)
            (lines-of-pointers k j plain other source target size numbers from_place to_place assignment)
            (subst (λ (xs : List Need). Then (AreGot (world_of w) xs)
            (AreChecks (work_of w.slots) (flat_conditions (op.CopyPointers source target j size numbers to_place assignment) k from_place)) first)
            (needs-of-pointers k j plain other source target size numbers to_place assignment)
            (subst (λ (f : Fixed). IsGuarded (world_of w) (op.CopyPointers source target j f numbers to_place assignment) k from_place first) (size-alike w seat k plain t) guard)))

        goes : first_false w.programs.parts c.state.memory (reached k source size from_place ++ reached j target size to_place) (slot z.guarded.middle) ≡ None
            → Then (CellsKept (world_of w) cells (w.programs.whole.kind node) t source.first (home_slot (w.programs.whole.kind home) target) assignment (pointer_offsets w.programs.whole.table t))
            (Line (flat_instr.Move target.first source.first (rules.cured_size w.programs.whole t) ∷ [])) rest
            → Match w g b after blocks
            (from (beside l.temps (from (keep_pointers S assignment k what.pointer onto.pointer t l.state) (λ i. copy m k what.pointer j onto.pointer))) (λ x. done Goes))
            (run rest (context_of w b) z.guarded.after)
        goes h (own, end, kept, move, whole) =
            subst (λ (js : Lines). Match w g b after blocks
            (from (beside l.temps (from (keep_pointers S assignment k what.pointer onto.pointer t l.state) (λ i. copy m k what.pointer j onto.pointer))) (λ x. done Goes))
            (run js (context_of w b) z.guarded.after)) (sym whole)
            (subst (λ (o : Outcome source_state.Ending source_state.State (Unit {0})). Match w g b after blocks
            (from (beside l.temps (from o (λ i. copy m k what.pointer j onto.pointer))) (λ x. done Goes)) (run (own ++ end) (context_of w b) z.guarded.after))
            (sym (kept-plain S assignment k plain what.pointer onto.pointer t l.state))
            (keep-cells w names g b node home t assignment known source target plain other complete cells l what.pointer onto.pointer (what.stays source.first (first-slot k source)) onto.stays
            after blocks (copy m k what.pointer j onto.pointer) end (pointer_offsets w.programs.whole.table t) own l.state z.guarded.after
            (started first z assignment cells after blocks less true some h) kept
            (λ s d ready went. subst (λ (js : Lines). Match w g b after blocks (from (beside l.temps (copy m k what.pointer j onto.pointer s)) (λ x. done Goes)) (run js (context_of w b) d)) (sym move)
            (moves first z assignment cells after blocks less true some h s d ready
            (ap (λ (o : Outcome source_state.Ending source_state.State (Unit {0})). from o (λ i. copy m k what.pointer j onto.pointer))
            (kept-plain S assignment k plain what.pointer onto.pointer t l.state ∙ went)) (rules.cured_size w.programs.whole t) (names.sizes.size t complete)))))

    pub copy-at : CopiedBy (holds_pointer w.programs.whole.table t) (world_of w) seat cells (w.programs.whole.kind node) (w.programs.whole.kind home) t source target
        from_place to_place assignment lines
        → Match w g b after blocks
        (from (beside l.temps (copied (setting_of w.programs) t from_place node (Address what.pointer) to_place home (Address onto.pointer) assignment l.state)) (λ x. done Goes))
        (run lines (context_of w b) c)
    copy-at copies = by (holds_pointer w.programs.whole.table t) refl copies
      where
        by : (i : Bool) → holds_pointer w.programs.whole.table t ≡ i
            → CopiedBy i (world_of w) seat cells (w.programs.whole.kind node) (w.programs.whole.kind home) t source target from_place to_place assignment lines → Goal
        by true e h = copy-pointers e h
        by false e h = copy-plain e h

-- The instruction

-- where a SAFE address leads doesn't depend on the type at which it was made
made-same : (S : Setting) (a : Place) (k : Kind) (q : Pointer) (x : Location) (r : TypeId) (is : List ℕ) (s : source_state.State)
    → load_pointers S a k q (At x) is s ≡ load_pointers S a k q (At (record x { made = r })) is s
made-same S a k q x r [] s = refl
made-same S a k q x r (i ∷ is) s = by (λ v. made-same S a k q x r is v) (load_pointer k (forward i q) s)
  where
    next : Pointer → Pointer → source_state.State → Outcome source_state.Ending source_state.State (Unit {0})
    next z o u = from (checked S a (Outlives z o) u) (λ y. load_pointers S a k q z is)

    by : ((v : source_state.State) → load_pointers S a k q (At x) is v ≡ load_pointers S a k q (At (record x { made = r })) is v)
        → (o : Outcome source_state.Ending source_state.State Pointer) → from o (next (At x)) ≡ from o (next (At (record x { made = r })))
    by further (Ended e u) = refl
    by further (Done o u) = of (holds S u.memory (Outlives (At x) o))
      where
        asks : Bool → source_state.State → Outcome source_state.Ending source_state.State (Unit {0})
        asks b v = allowed b (source_state.Stopped (check_of (Outlives (At x) o)) a) (done tt) v

        of : (b : Bool) → from (asks b u) (λ y. load_pointers S a k q (At x) is) ≡ from (asks b u) (λ y. load_pointers S a k q (At (record x { made = r })) is)
        of true = further u
        of false = refl

part-copied : (S : Setting) (t : TypeId) (from_place to_place assignment : Place) (n home : NodeId) (r : TypeId) → S.kind n ≢ Wild → S.kind home ≡ Safe
    → (q : Pointer) (x : Location) (s : source_state.State)
    → copied S t from_place n (Address q) to_place home (Address (At x)) assignment s ≡ copied S t from_place n (Address q) to_place home (Address (At (record x { made = r }))) assignment s
part-copied S t from_place to_place assignment n home r plain safe q x s =
    ap (λ (k : Kind). copies (holds_pointer S.table t) k (At x)) safe ∙ one (holds_pointer S.table t) (asked-first (holds_pointer S.table t))
    ∙ sym (ap (λ (k : Kind). copies (holds_pointer S.table t) k (At (record x { made = r }))) safe)
  where
    m : ℕ
    m = size_of S.table t

    asked-first : Bool → Outcome source_state.Ending source_state.State (Unit {0})
    asked-first holds = all_checked S from_place (conditions_of (CopyFrom holds m) (S.kind n) q) s

    last : Bool → Kind → Pointer → source_state.State → Outcome source_state.Ending source_state.State (Unit {0})
    last holds k z v = from (either holds (keep_pointers S assignment (S.kind n) q z t) (done tt) v) (λ y. copy m (S.kind n) q k z)

    second : Bool → Kind → Pointer → source_state.State → Outcome source_state.Ending source_state.State (Unit {0})
    second holds k z u = from (all_checked S to_place (conditions_of (CopyTo holds m) k z) u) (λ j. last holds k z)

    copies : Bool → Kind → Pointer → Outcome source_state.Ending source_state.State (Unit {0})
    copies holds k z = from (asked-first holds) (λ i. second holds k z)

    kept : (v : source_state.State) → last true Safe (At x) v ≡ last true Safe (At (record x { made = r })) v
    kept v = ap (λ (o : Outcome source_state.Ending source_state.State (Unit {0})). from o (λ y. copy m (S.kind n) q Safe (At x)))
        (kept-plain S assignment (S.kind n) plain q (At x) t v ∙ made-same S assignment (S.kind n) q x r (pointer_offsets S.table t) v
        ∙ sym (kept-plain S assignment (S.kind n) plain q (At (record x { made = r })) t v))

    three : (holds : Bool) (v : source_state.State) → last holds Safe (At x) v ≡ last holds Safe (At (record x { made = r })) v
    three true v = kept v
    three false v = refl

    two : (holds : Bool) (o : Outcome source_state.Ending source_state.State (Unit {0})) → from o (λ j. last holds Safe (At x)) ≡ from o (λ j. last holds Safe (At (record x { made = r })))
    two holds (Ended e v) = refl
    two holds (Done j v) = three holds v

    one : (holds : Bool) (o : Outcome source_state.Ending source_state.State (Unit {0})) → from o (λ i. second holds Safe (At x)) ≡ from o (λ i. second holds Safe (At (record x { made = r })))
    one holds (Ended e u) = refl
    one true (Done i u) = two true (all_checked S to_place (conditions_of (CopyTo true m) Safe (At x)) u)
    one false (Done i u) = two false (all_checked S to_place (conditions_of (CopyTo false m) Safe (At x)) u)

module _ (w : Scene) (names : Names w) (g : AreSlots w.slots) (b : Running) (held : Temp) (n : NodeId) (t : TypeId) (from_place to_place assignment : Place) (known after : Knowledge)
    (blocks : Blocks) (plain : w.programs.whole.kind n ≢ Wild) (complete : IsComplete w.programs.whole.table t)
    (a : ℕ) (sure : List Sure) (seat cells : Seat) (address : IsAddress known held n t a sure) (less : Includes known after) where
  abbrev goes_by : code.Local → Outcome source_state.Ending source_state.State (Unit {0}) → CodeOutcome
  goes_by l r = from (beside l.temps r) (λ x. done Goes)

  -- through a pointer
  pub copy-through : (to : Temp) (m : NodeId) (d : ℕ) (sure' : List Sure) → w.programs.whole.kind m ≢ Wild → IsAddress known to m t d sure' → (lines : Lines)
      → CopiedBy (holds_pointer w.programs.whole.table t) (world_of w) seat cells (w.programs.whole.kind n) (w.programs.whole.kind m) t (pointer_slots a) (pointer_slots d)
      from_place to_place assignment lines
      → Follows w g b blocks known after (meaning.act (instr.Access (access.Copy (target.Pointer to m) to_place held n from_place t assignment)) (around_of w b)) lines
  unfolding aimed-pointer
  copy-through to m d sure' other target lines copies l c p =
      subst (λ (x : Value). Match w g b after blocks (goes_by l (copied (setting_of w.programs) t from_place n x to_place m (l.temps to) assignment l.state)) (run lines (context_of w b) c)) (sym what.value)
      (subst (λ (x : Value). Match w g b after blocks (goes_by l (copied (setting_of w.programs) t from_place n (Address what.pointer) to_place m x assignment l.state)) (run lines (context_of w b) c)) (sym onto.value)
      (copy-at w names g b n m t from_place to_place known (pointer_slots a) (pointer_slots d) plain other complete seat l c p (aimed-pointer w g b known l c p to m t d onto)
      (aimed-pointer w g b known l c p held n t a what) assignment cells after blocks less lines copies))
    where
      what : Pointed w g b l c held n t a
      what = pointed w g b known l c p held n t a sure address

      onto : Pointed w g b l c to m t d
      onto = pointed w g b known l c p to m t d sure' target

  -- into a part of an object that is named
  pub copy-part : (around : ℕ) (kept : Typing) (o : Object) (home : NodeId) (u : TypeId) (offset base : ℕ) (own : Seat) (x y : Lines) → w.programs.whole.kind home ≡ Safe
      → IsObject (context_in w names around kept) o home u → IsPart w.programs.whole.table u offset t
      → Then (Gets (world_of w) Base (Start o) base) (Then (Gets (world_of w) Offset (Number (cured_offset (world_of w) (w.programs.whole.kind home) u offset)) (own Offset))
      (Line (flat_instr.Add (slot_of w.slots AddressRole) base (own Offset) ∷ []))) x
      → CopiedBy (holds_pointer w.programs.whole.table t) (world_of w) seat cells (w.programs.whole.kind n) (w.programs.whole.kind home) t (pointer_slots a) (part_slots (world_of w) base)
      from_place to_place assignment y
      → Follows w g b blocks known after (meaning.act (instr.Access (access.Copy (target.Part o home u offset) to_place held n from_place t assignment)) (around_of w b)) (x ++ y)
  unfolding aimed-pointer part-aim
  copy-part around kept o home u offset base own x y safe object part gets copies l c p =
      subst (λ (q : FlatOutcome). Match w g b after blocks (goes_by l (copied (setting_of w.programs) t from_place n (l.temps held) to_place home (Address (At spot)) assignment l.state)) q) (sym (z.runs y))
      (subst (λ (i : Value). Match w g b after blocks (goes_by l (copied (setting_of w.programs) t from_place n i to_place home (Address (At spot)) assignment l.state)) (run y (context_of w b) z.after)) (sym what.value)
      (subst (λ (r : Outcome source_state.Ending source_state.State (Unit {0})). Match w g b after blocks (goes_by l r) (run y (context_of w b) z.after))
      (sym (part-copied (setting_of w.programs) t from_place to_place assignment n home t plain safe what.pointer spot l.state))
      (copy-at w names g b n home t from_place to_place known (pointer_slots a) (part_slots (world_of w) base) plain other complete seat l z.after z.point
      (part-aim w names g b known l c p around kept o home u offset t safe object part has_size data_type x z base)
      (aimed-pointer w g b known l z.after z.point held n t a what) assignment cells after blocks less y copies)))
    where
      spot : Location
      spot = record { object = number_of (around_of w b) o; part = record { low = 0; high = size_of w.programs.whole.table u }; offset = pos 0 +ℤ pos offset; made = u }

      other : w.programs.whole.kind home ≢ Wild
      other e = safe_not_wild (sym safe ∙ e)

      data_type : is_function w.programs.whole.table t ≡ false
      data_type = complete-data w.programs.whole.table names.solved.well_formed t complete

      has_size : IsComplete w.programs.whole.table u
      has_size = whole-complete (context_in w names around kept) (around_of w b) (solved-in w names around kept) (types_of known) (types_of known) l
          (facts-at w names g b known l c p around kept) u offset t part complete

      z : Reached w g b known l x c (place (ground_of w.programs l.state c.state) (number_of (around_of w b) o) offset)
      z = part-reached w names g b known l c p around kept o home u offset t safe object part has_size base own x gets

      what : Pointed w g b l z.after held n t a
      what = pointed w g b known l z.after z.point held n t a sure address
