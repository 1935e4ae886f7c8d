-- Stores of pointers through pointers without tags: behind NULL or BOUNDS, and ESCAPE.
use Rattle.std.proofs.Common.{◌≡◌, ◌≢◌, ℕ, ◌+◌, ◌<◌, inl, inr, false, List, [], ◌∷◌, ◌++◌, Option, Some, None, refl, ap, sym, subst, ◌∙◌, arith}
use Rattle.std.proofs.lemmas.List.{append-nil}
use Rattle.cc_base.specs.declared.fault.Check.TheVariants as check
use Rattle.cc_base.specs.declared.kind.Kind.{Kind}
use Rattle.cc_base.specs.declared.kind.Kind.TheVariants.{Safe, Seq, Rtti, Wild}
use Rattle.cc_base.specs.declared.number.TypeId.{TypeId}
use Rattle.cc_base.specs.declared.number.NodeId.{NodeId}
use Rattle.cc_base.specs.declared.place.Place.{Place}
use Rattle.c_types.specs.declared.shape.TypeShape.{TypeShape}
use Rattle.c_types.specs.Table.{IsComplete, members_at, is_complete_entry, is_function}
use Rattle.c_types.specs.Layouts.{size_of}
use Rattle.kind_sites.specs.Solutions.{SpreadsWild}
use Rattle.runs.specs.Outcome.{Outcome, Done, done, from}
use Rattle.runs.specs.Control.{Goes, then_go}
use Rattle.flat_mem.specs.Bytes.{bytes_at}
use Rattle.flat_mem.specs.Memory as flat_memory
use Rattle.src_mem.specs.Pointers.{Pointer, Value, Address}
use Rattle.src_mem.specs.Memory as stored_memory
use Rattle.src_mem.specs.Memory.{Memory}
use Rattle.src_mem.specs.State as source
use Rattle.src_mem.specs.State.{Setting}
use Rattle.src_mem.specs.Checks.{Condition, Outlives, WritePointer, conditions_of, all_placed, place_of_write}
use Rattle.src_mem.specs.Primitives.{store_pointer}
use Rattle.src_mem.specs.Uses.{conditions_of_write, store_shape}
use Rattle.src_mem.specs.Values.{stored}
use Rattle.src_mem.specs.Facts.{IsPlaceIn}
use Rattle.src_mem.specs.Laws.{Gives}
use Rattle.src_mem.proofs.Right.{pointer_size}
use Rattle.facts_kept.specs.Kept.{AllHold, IsKept, asked_of}
use Rattle.facts_kept.proofs.Complete.{complete-data}
use Rattle.facts_kept.proofs.Writing.{gives-written_pointer_place}
use Rattle.cil_form.specs.declared.number.Temp.{Temp}
use Rattle.cil_form.specs.declared.instr.Access.TheVariants as access
use Rattle.cil_form.specs.declared.instr.Target.TheVariants as target
use Rattle.cil_form.specs.declared.instr.Instr.TheVariants as instr
use Rattle.cil_form.specs.State as code
use Rattle.cil_form.specs.State.{beside}
use Rattle.cil_form.specs.Typing.{HeldType, PointerTo, IsTemp, HoldsAddress, no_types}
use Rattle.cil_form.specs.Meaning as meaning
use Rattle.cil_facts.proofs.Accesses.{allowed-held}
use Rattle.cured_code.specs.FlatState as flat
use Rattle.cured_code.specs.FlatState.{slot}
use Rattle.cured_code.specs.FlatMachine.{act, run}
use Rattle.cured_code.specs.declared.parts.Parts.{Parts}
use Rattle.check_forms.specs.declared.slots.PointerSlots.{PointerSlots}
use Rattle.check_forms.specs.declared.slots.Fixed.{Fixed}
use Rattle.check_forms.specs.declared.slots.Work.{Work}
use Rattle.check_forms.specs.declared.op.Op.TheVariants as op
use Rattle.check_forms.specs.declared.op.WildNumbers.{WildNumbers}
use Rattle.check_forms.specs.Pieces.{Line, Then}
use Rattle.check_forms.specs.Conditions.{IsNoDeeper}
use Rattle.check_forms.specs.Lines.{IsOther}
use Rattle.check_forms.specs.Rows.{Asked, asked, flat_conditions, reached, home_slot}
use Rattle.check_forms.specs.RowChecks.{AreChecks, AreAllApart, AreAllHeld, AreSafe, first_false}
use Rattle.sim_checks.specs.Rows.{IsChecked}
use Rattle.sim_checks.proofs.Escape.{escape-compared}
use Rattle.sim_relation.specs.Ground.{pointer_words, word_number}
use Rattle.sim_relation.specs.Points.{Knowledge, Sure, AreWords, StandsFor}
use Rattle.sim_memory.specs.Found.{IsFound, GoOnAlike, storing}
use Rattle.sim_memory.proofs.Storing.{pointers-stored}
use Rattle.cure_rules.specs.Slots.{AreSlots, Address as AddressRole, work_of}
use Rattle.cure_rules.specs.Known.{Includes, IsAddress, Points, pointer_slots}
use Rattle.cure_rules.specs.Checks.{Need, AreGot, numbers_of, reach_needs, size_at, wild_numbers, write_pointer}
use Rattle.cure_rules.specs.Accesses.{PointerStored, StoresPointer, words_stored}
use Rattle.cure_rules.specs.Code.{Blocks}
use Rattle.sim_laws.specs.Scenes.{Scene, Running, setting_of, world_of, around_of, context_of}
use Rattle.sim_laws.specs.Points.{Point, IsLasting, Passed, ground_of}
use Rattle.sim_laws.specs.Statements.{Lines, CodeOutcome, FlatOutcome, Match, Follows}
use Rattle.sim_laws.proofs.Points.{unwritten}
use Rattle.sim_laws.proofs.Guards.{passed-none, lasting-other}
use Rattle.sim_laws.proofs.Names.{Names, context_in, solved-in, facts-at, types_of, held_type, pointer-asked}
use Rattle.sim_laws.proofs.Checks.{AreReady, AreCompared, Sparing, StopsAlike, guarded-sparing, stops-alike}
use Rattle.sim_laws.proofs.Aiming.{Aimed, first-slot, home-slot, address-spared, aimed-other, aimed-checked, aimed-place, aimed-found, aimed-pointer}
use Rattle.sim_laws.proofs.Reaching.{Pointed, IsSlotOf, pointed, checked-words, needs-roles, slots-ready, slots-compared}
use Rattle.sim_laws.proofs.Accessing.{all-held, guard-changes, facts-kept}
use Rattle.sim_laws.proofs.Stays.{grows-kept, there-kept}

-- Conditions one after another

apart-both : (k : Work) (xs ys : List Asked) → AreAllApart k xs → AreAllApart k ys → AreAllApart k (xs ++ ys)
apart-both k [] ys a b = b
apart-both k (x ∷ xs) ys a b = (a.0, apart-both k xs ys a.1 b)

held-both : (e : ℕ → ℕ) (xs ys : List Asked) → AreAllHeld e xs → AreAllHeld e ys → AreAllHeld e (xs ++ ys)
held-both e [] ys a b = b
held-both e (x ∷ xs) ys a b = (a.0, held-both e xs ys a.1 b)

safe-both : (parts : Parts) (m : flat_memory.Memory) (e : ℕ → ℕ) (xs ys : List Asked) → AreSafe parts m xs e → AreSafe parts m ys e → AreSafe parts m (xs ++ ys) e
safe-both parts m e [] ys a b = b
safe-both parts m e (x ∷ xs) ys a b = (a.0, λ h. safe-both parts m e xs ys (a.1 h) b)

pub ready-both : (w : Scene) (c d : flat.Local) (xs ys : List Asked) → AreReady w c d xs → AreReady w c d ys → AreReady w c d (xs ++ ys)
ready-both w c d xs ys a b = record {
  apart = apart-both (work_of w.slots) xs ys a.apart b.apart;
  held = held-both (slot d) xs ys a.held b.held;
  safe = safe-both w.programs.parts c.state.memory (slot d) xs ys a.safe b.safe;
}

pub compared-both : (parts : Parts) (m : flat_memory.Memory) (e : ℕ → ℕ) (w : Setting) (memory : stored_memory.Memory) (at : Condition → Place) (xs ys : List Asked) (cs ds : List Condition)
    → AreCompared parts m e w memory at xs cs → AreCompared parts m e w memory at ys ds → AreCompared parts m e w memory at (xs ++ ys) (cs ++ ds)
compared-both parts m e w memory at [] ys [] ds a b = b
compared-both parts m e w memory at [] ys (c ∷ cs) ds a b = absurd a
compared-both parts m e w memory at (x ∷ xs) ys [] ds a b = absurd a
compared-both parts m e w memory at (x ∷ xs) ys (c ∷ cs) ds (i, j, k, more) b = (i, j, k, λ h. compared-both parts m e w memory at xs ys cs ds (more h) b)

pub first-hold : (w : Setting) (memory : Memory) (cs ds : List Condition) → AllHold w memory (cs ++ ds) → AllHold w memory cs
first-hold w memory [] ds h = tt
first-hold w memory (c ∷ cs) ds h = (h.0, first-hold w memory cs ds h.1)

-- What C asks, and what the lines ask

pub conditions-are : (k : Kind) → k ≢ Wild → (p q : Pointer) → conditions_of (WritePointer q) k p ≡ asked_of 8 k p ++ Outlives p q ∷ []
conditions-are Safe plain p q = refl
conditions-are Rtti plain p q = refl
conditions-are Seq plain p q = refl
conditions-are Wild plain p q = absurd (plain refl)

pub lines-are : (k : Kind) → k ≢ Wild → (p : PointerSlots) (size : Fixed) (numbers : WildNumbers) (home : ℕ) (at assignment : Place)
    → flat_conditions (op.WritePointer p size numbers home assignment) k at ≡ reached k p size at ++ asked check.Escape assignment (IsNoDeeper home (home_slot k p)) ∷ []
lines-are Safe plain p size numbers home at assignment = refl
lines-are Rtti plain p size numbers home at assignment = refl
lines-are Seq plain p size numbers home at assignment = refl
lines-are Wild plain p size numbers home at assignment = absurd (plain refl)

pub needs-are : (k : Kind) → k ≢ Wild → (p : PointerSlots) (size : Fixed) (numbers : WildNumbers) (home : ℕ) (assignment : Place)
    → numbers_of (op.WritePointer p size numbers home assignment) k ≡ reach_needs k size
needs-are Safe plain p size numbers home assignment = refl
needs-are Rtti plain p size numbers home assignment = refl
needs-are Seq plain p size numbers home assignment = append-nil (reach_needs Seq size)
needs-are Wild plain p size numbers home assignment = absurd (plain refl)

line-of-words : (k : Kind) (a v : ℕ) → words_stored k a v ≡ storing k a v ∷ []
line-of-words Safe a v = refl
line-of-words Rtti a v = refl
line-of-words Seq a v = refl
line-of-words Wild a v = refl

pub line-of-pointer : (outer k : Kind) → outer ≢ Wild → (w : Scene) (s : PointerSlots) (v : ℕ) (lines : Lines) → PointerStored outer k (world_of w) s v lines → lines ≡ storing k s.first v ∷ []
unfolding Line
line-of-pointer Safe k plain w s v lines h = h ∙ line-of-words k s.first v
line-of-pointer Rtti k plain w s v lines h = h ∙ line-of-words k s.first v
line-of-pointer Seq k plain w s v lines h = h ∙ line-of-words k s.first v
line-of-pointer Wild k plain w s v lines h = absurd (plain refl)

-- the slot that tells how deep a pointer's object lies
pub home-other : (w : Scene) (g : AreSlots w.slots) (k : Kind) (a : ℕ) → ((j : ℕ) → j < word_number k → IsLasting (g.owner (a + j))) → IsOther (work_of w.slots) (home_slot k (pointer_slots a))
home-other w g Safe a h = lasting-other w g a (subst (λ (j : ℕ). IsLasting (g.owner j)) (let e : a + 0 ≡ a = omega arith in e) (h 0 (omega arith)))
home-other w g Rtti a h = lasting-other w g a (subst (λ (j : ℕ). IsLasting (g.owner j)) (let e : a + 0 ≡ a = omega arith in e) (h 0 (omega arith)))
home-other w g Seq a h = lasting-other w g (a + 1) (h 1 (omega arith))
home-other w g Wild a h = lasting-other w g (a + 1) (h 1 (omega arith))

-- what is known of an address, as three-address code has it
pub holds-address : (known : Knowledge) (t : Temp) (n : NodeId) (u : TypeId) (a : ℕ) (sure : List Sure) → IsTemp t → IsAddress known t n u a sure → HoldsAddress (types_of known) t n u
holds-address known t n u a sure temp (x, fact, inl is, place, listed) = inl (temp, ap held_type fact ∙ ap Some is)
holds-address known t n u a sure temp (x, fact, inr is, place, listed) = inr (temp, ap held_type fact ∙ ap Some is)

-- a known pointer's words are words
pub known-words : (w : Scene) (g : AreSlots w.slots) (b : Running) (known : Knowledge) (l : code.Local) (c : flat.Local) → Point w g b known l c → (v : Temp) (m : NodeId) (u : TypeId) (d : ℕ)
    (sure : List Sure) → Points known v m u d sure → (q : Pointer) → l.temps v ≡ Address q → AreWords (pointer_words (ground_of w.programs l.state c.state) (w.programs.whole.kind m) q)
known-words w g b known l c p v m u d sure (x, fact, is, place, listed) q value =
    of (subst (λ (z : Value). StandsFor (ground_of w.programs l.state c.state) c.slots x (PointerTo m u) z) value
    (subst (λ (h : HeldType). StandsFor (ground_of w.programs l.state c.state) c.slots x h (l.temps v)) is (p.stands v x fact)))
  where
    of : StandsFor (ground_of w.programs l.state c.state) c.slots x (PointerTo m u) (Address q) → AreWords (pointer_words (ground_of w.programs l.state c.state) (w.programs.whole.kind m) q)
    of h = h.words

pub as-address : (known : Knowledge) (v : Temp) (m : NodeId) (u : TypeId) (d : ℕ) (sure : List Sure) → Points known v m u d sure → IsAddress known v m u d sure
as-address known v m u d sure (x, fact, is, place, listed) = (x, fact, inl is, place, listed)

-- the type of a pointer that is stored is complete, and one of data
pub stored-complete : (w : Scene) (v : Temp) (t : TypeId) (s : PointerSlots) (k : Kind) (at assignment : Place) (known : Knowledge) (lines : Lines)
    → StoresPointer (world_of w) v t s k at assignment known lines → IsComplete w.programs.whole.table t
stored-complete w v t s k at assignment known lines (m, u, d, sure, seat, pointer, points, rest) =
    ap (λ (x : TypeShape). is_complete_entry x (members_at w.programs.whole.table t)) pointer

-- The store of a pointer to where an address leads that is held.
module _ (w : Scene) (names : Names w) (g : AreSlots w.slots) (b : Running) (v : Temp) (home : NodeId) (t : TypeId) (at assignment : Place) (known after : Knowledge)
    (blocks : Blocks) (s : PointerSlots) (plain : w.programs.whole.kind home ≢ Wild) (l : code.Local) (c : flat.Local) (p : Point w g b known l c)
    (aim : Aimed w g b l c s (w.programs.whole.kind home) t) (spreads : SpreadsWild w.programs.whole.table w.programs.whole.kind home t) (less : Includes known after) where
  abbrev S : Setting
  S = setting_of w.programs

  abbrev k : Kind
  k = w.programs.whole.kind home

  abbrev changed : Outcome source.Ending source.State (Unit {0}) → CodeOutcome
  changed y = from (beside l.temps y) (λ x. done Goes)

  pub store-pointer-at : (lines : Lines) → StoresPointer (world_of w) v t s (w.programs.whole.kind home) at assignment known lines
      → Match w g b after blocks (from (beside l.temps (stored (setting_of w.programs) at assignment home t (Address aim.pointer) (l.temps v) l.state)) (λ x. done Goes))
      (run lines (context_of w b) c)
  unfolding Line Then
  store-pointer-at lines (m, u, d, sure, seat, pointer, points, (first, more, guard, line, is)) =
      subst (λ (js : Lines). Match w g b after blocks (changed (stored S at assignment home t (Address aim.pointer) (l.temps v) l.state)) (run js (context_of w b) c)) (sym is)
      (subst (λ (x : Value). Match w g b after blocks (changed (stored S at assignment home t (Address aim.pointer) x l.state)) (run (first ++ more) (context_of w b) c)) (sym what.value)
      (subst (λ (h : TypeShape). Match w g b after blocks (changed (writes h)) (run (first ++ more) (context_of w b) c)) (sym pointer)
      (subst (λ (cs : List Condition). Match w g b after blocks (changed (F (all_placed S place cs l.state))) (run (first ++ more) (context_of w b) c)) (sym asked-are)
      (subst (λ (q : FlatOutcome). Match w g b after blocks (changed (F (all_placed S place conditions l.state))) q) (sym (z.guarded.runs more))
      (guard-changes w g b known after blocks l z.guarded.after z.guarded.point stop (all_placed S place conditions l.state) alike F (λ e x. refl) more goes)))))
    where
      place : Condition → Place
      place = place_of_write at assignment

      what : Pointed w g b l c v m u d
      what = pointed w g b known l c p v m u d sure (as-address known v m u d sure points)

      complete : IsComplete w.programs.whole.table t
      complete = ap (λ (x : TypeShape). is_complete_entry x (members_at w.programs.whole.table t)) pointer

      data_type : is_function w.programs.whole.table t ≡ false
      data_type = complete-data w.programs.whole.table names.solved.well_formed t complete

      sized : size_of w.programs.whole.table t ≡ 8
      sized = pointer_size w.programs.whole.table t m u pointer

      size : Fixed
      size = size_at (world_of w) seat k t

      from_slot : ℕ
      from_slot = home_slot (w.programs.whole.kind m) (pointer_slots d)

      needs : List Need
      needs = reach_needs k size

      escape : List Asked
      escape = asked check.Escape assignment (IsNoDeeper from_slot (home_slot k s)) ∷ []

      asks : List Asked
      asks = reached k s size at ++ escape

      conditions : List Condition
      conditions = asked_of (size_of w.programs.whole.table t) k aim.pointer ++ Outlives aim.pointer what.pointer ∷ []

      asked-are : conditions_of (WritePointer what.pointer) k aim.pointer ≡ conditions
      asked-are = conditions-are k plain aim.pointer what.pointer ∙ ap (λ (y : ℕ). asked_of y k aim.pointer ++ Outlives aim.pointer what.pointer ∷ []) (sym sized)

      guarding : Then (AreGot (world_of w) needs) (AreChecks (work_of w.slots) asks) first
      guarding = subst (λ (as' : List Asked). Then (AreGot (world_of w) needs) (AreChecks (work_of w.slots) as') first)
          (lines-are k plain s size (wild_numbers (world_of w) seat) from_slot at assignment)
          (subst (λ (xs : List Need). Then (AreGot (world_of w) xs) (AreChecks (work_of w.slots)
          (flat_conditions (write_pointer (world_of w) seat k t s from_slot assignment) k at)) first)
          (needs-are k plain s size (wild_numbers (world_of w) seat) from_slot assignment) guard)

      z : Sparing w g b known l needs asks first c
      z = guarded-sparing w g b known l needs asks first c p (needs-roles k plain size) guarding
          (λ x passed there. ready-both w c x (reached k s size at) escape
          (slots-ready w c x k plain s size at (aimed-other w g b l c s k t aim) there)
          (record {
            apart = ((home-other w g (w.programs.whole.kind m) d what.lasting, (aimed-other w g b l c s k t aim (home_slot k s) (home-slot k s), tt)), tt);
            held = (tt, tt);
            safe = (tt, λ q. tt);
          }))

      stop : Option Asked
      stop = first_false w.programs.parts c.state.memory asks (slot z.guarded.middle)

      -- the slots of the address, before the checks and behind them
      middle : (a : ℕ) → IsSlotOf k s a → slot z.guarded.middle a ≡ slot c a
      middle a h = z.spared AddressRole (address-spared k plain size) a (aim.stays a h)

      target : IsChecked S w.programs.whole.node l.state c.state b.depth k t aim.pointer (slot z.guarded.middle) s
      target = aimed-checked w g b l c s k t aim known p z.guarded.middle middle

      alike : StopsAlike stop (all_placed S place conditions l.state) l.state
      alike = stops-alike w.programs.parts c.state.memory (slot z.guarded.middle) S place l.state asks conditions
          (compared-both w.programs.parts c.state.memory (slot z.guarded.middle) S l.state.memory place (reached k s size at) escape
          (asked_of (size_of w.programs.whole.table t) k aim.pointer) (Outlives aim.pointer what.pointer ∷ [])
          (slots-compared w names l.state c.state b.depth k plain t complete aim.pointer (slot z.guarded.middle) s seat at place (λ q. refl) (λ j q. refl) target) (
            refl,
            refl,
            escape-compared S w.programs.whole.node l.state c.state b.depth p.there.laid.functions.apart w.programs.parts (w.programs.whole.kind m) k u t
                what.pointer aim.pointer (slot z.guarded.middle) (pointer_slots d) s (checked-words w g b known l c z.guarded.middle p z.guarded.passed v m u d what) target,
            λ h. tt,
          ))

      passes : stop ≡ None → all_placed S place conditions l.state ≡ Done tt l.state
      passes e = subst (λ (o : Option Asked). StopsAlike o (all_placed S place conditions l.state) l.state) e alike

      writes : TypeShape → Outcome source.Ending source.State (Unit {0})
      writes h = from (all_placed S (place_of_write at assignment) (conditions_of_write k h aim.pointer (Address what.pointer)) l.state)
          (λ x. store_shape k h aim.pointer (Address what.pointer))

      F : Outcome source.Ending source.State (Unit {0}) → Outcome source.Ending source.State (Unit {0})
      F y = from y (λ x. store_pointer k aim.pointer what.pointer)

      goes : stop ≡ None → Match w g b after blocks (changed (F (Done tt l.state))) (run more (context_of w b) z.guarded.after)
      goes none = of (pointers-stored S w.programs.whole.node k t m u aim.pointer what.pointer l.state (context_of w b) s.first d z.guarded.after names.solved.well_formed plain pointer
          z.guarded.point.there.related found words (known-words w g b known l z.guarded.after z.guarded.point v m u d sure points what.pointer what.value))
        where
          placed : IsPlaceIn S l.state.memory b.depth k t aim.pointer
          placed = aimed-place w g b l c s k t aim names data_type
              (first-hold S l.state.memory (asked_of (size_of w.programs.whole.table t) k aim.pointer) (Outlives aim.pointer what.pointer ∷ [])
              (all-held S place conditions l.state (passes none)))

          found : IsFound S w.programs.whole.node l.state z.guarded.after.state t aim.pointer (slot z.guarded.after s.first)
          found = aimed-found w g b l c s k t aim names plain known p z.guarded.after z.guarded.state
              (z.guarded.others s.first (aimed-other w g b l c s k t aim s.first (first-slot k s)) ∙ middle s.first (first-slot k s)) placed

          later : Pointed w g b l z.guarded.after v m u d
          later = pointed w g b known l z.guarded.after z.guarded.point v m u d sure (as-address known v m u d sure points)

          same : later.pointer ≡ what.pointer
          same = let e : Address later.pointer ≡ Address what.pointer = sym later.value ∙ what.value in cc (e)

          words : bytes_at (word_number (w.programs.whole.kind m)) z.guarded.after.slots d
              ≡ pointer_words (ground_of w.programs l.state z.guarded.after.state) (w.programs.whole.kind m) what.pointer
          words = later.words ∙ ap (pointer_words (ground_of w.programs l.state z.guarded.after.state) (w.programs.whole.kind m)) same

          of : GoOnAlike S w.programs.whole.node l.state z.guarded.after (store_pointer k aim.pointer what.pointer l.state)
              (act (storing (w.programs.whole.kind m) s.first d) (context_of w b) z.guarded.after) tt z.guarded.after.slots
              → Match w g b after blocks (changed (F (Done tt l.state))) (run more (context_of w b) z.guarded.after)
          of y =
              subst (λ (js : Lines). Match w g b after blocks (changed (F (Done tt l.state))) (run js (context_of w b) z.guarded.after))
              (sym (line-of-pointer k (w.programs.whole.kind m) plain w s d more line))
              (subst (λ (x : Outcome source.Ending source.State (Unit {0})). Match w g b after blocks (changed x)
              (run (storing (w.programs.whole.kind m) s.first d ∷ []) (context_of w b) z.guarded.after)) (sym y.source_goes)
              (subst (λ (q : FlatOutcome). Match w g b after blocks (changed (Done tt y.next)) (from q (λ x. then_go x (run [] (context_of w b))))) (sym y.flat_goes)
              (unwritten w g b known after l y.next z.guarded.after y.after z.guarded.point
              (there-kept w.programs l.state y.next z.guarded.after.state y.after.state y.stays b p.outer z.guarded.point.there y.related
              (facts-kept S w.programs.sites l.state.memory y.next.memory b.depth is_kept p.there.facts))
              (grows-kept w.programs l.state y.next z.guarded.after.state y.after.state y.stays b.depth)
              (subst (λ (xs : List ℕ). Passed w g z.guarded.after.slots xs) (sym y.slots_are) (passed-none w g z.guarded.after.slots)) less)))
            where
              source_goes : stored S at assignment home t (Address aim.pointer) (Address what.pointer) l.state ≡ Done tt y.next
              source_goes = ap writes pointer ∙ ap (λ (cs : List Condition). F (all_placed S place cs l.state)) asked-are ∙ ap F (passes none) ∙ y.source_goes

              is_kept : IsKept S w.programs.sites l.state.memory y.next.memory
              is_kept = subst (λ (x : Outcome source.Ending source.State (Unit {0})). Gives x (λ i r. IsKept S w.programs.sites l.state.memory r.memory)) source_goes
                  (gives-written_pointer_place S names.solved.well_formed w.programs.sites t u m pointer l.state b.depth p.there.facts.objects what.pointer what.held.held
                  (what.held.made (pointer-asked w names t m u pointer)) at assignment home aim.pointer spreads placed)

pub store-pointer-follows : (w : Scene) (names : Names w) (g : AreSlots w.slots) (b : Running) (to v : Temp) (n : NodeId) (t : TypeId) (at assignment : Place) (known after : Knowledge)
    (blocks : Blocks) (lines : Lines) (a : ℕ) (sure : List Sure) → IsTemp to → w.programs.whole.kind n ≢ Wild → IsAddress known to n t a sure → Includes known after
    → StoresPointer (world_of w) v t (pointer_slots a) (w.programs.whole.kind n) at assignment known lines
    → Follows w g b blocks known after (meaning.act (instr.Access (access.Store (target.Pointer to n) v t at assignment)) (around_of w b)) lines
unfolding aimed-pointer
store-pointer-follows w names g b to v n t at assignment known after blocks lines a sure temp plain address less stores l c p =
    subst (λ (x : Value). Match w g b after blocks (from (beside l.temps (stored (setting_of w.programs) at assignment n t x (l.temps v) l.state)) (λ y. done Goes)) (run lines (context_of w b) c))
    (sym onto.value)
    (store-pointer-at w names g b v n t at assignment known after blocks (pointer_slots a) plain l c p (aimed-pointer w g b known l c p to n t a onto) spreads less lines stores)
  where
    onto : Pointed w g b l c to n t a
    onto = pointed w g b known l c p to n t a sure address

    data_type : is_function w.programs.whole.table t ≡ false
    data_type = complete-data w.programs.whole.table names.solved.well_formed t
        (stored-complete w v t (pointer_slots a) (w.programs.whole.kind n) at assignment known lines stores)

    spreads : SpreadsWild w.programs.whole.table w.programs.whole.kind n t
    spreads = (allowed-held (context_in w names 0 no_types) (around_of w b) (solved-in w names 0 no_types) (types_of known) (types_of known) l
        (facts-at w names g b known l c p 0 no_types) t data_type to n (holds-address known to n t a sure temp address)).0
