-- Conversions between pointers that are SAFE or SEQ.
use Rattle.std.proofs.Common.{◌≡◌, ◌⊎◌, inl, inr, ℕ, suc, ◌+◌, ◌^◌, ◌<◌, ◌≤◌, ℤ, pos, ◌+ℤ◌, Bool, true, false, List, [], ◌∷◌, ◌++◌, length, Option, Some, None, refl, ap, sym, subst, ◌∙◌, arith, nat_eq, if◌then◌else◌}
use Rattle.std.specs.List.{Contains, list_all}
use Rattle.cc_base.specs.declared.fault.Check.TheVariants as check
use Rattle.cc_base.specs.declared.kind.Kind.{Kind}
use Rattle.cc_base.specs.declared.kind.Kind.TheVariants.{Safe, Seq}
use Rattle.cc_base.specs.declared.number.TypeId.{TypeId}
use Rattle.cc_base.specs.declared.number.NodeId.{NodeId}
use Rattle.cc_base.specs.declared.place.Place.{Place}
use Rattle.c_types.specs.declared.flow_class.FlowClass.{FlowClass}
use Rattle.c_types.specs.declared.shape.TypeShape.{TypeShape}
use Rattle.c_types.specs.declared.shape.TypeShape.TheVariants as shape
use Rattle.c_types.specs.Table.{shape_at}
use Rattle.c_types.specs.Layouts.{size_of}
use Rattle.c_types.specs.Flows.{flow_class}
use Rattle.kind_sites.specs.declared.site.Site.TheVariants as site
use Rattle.integers.specs.Words.{word}
use Rattle.runs.specs.Outcome.{Outcome, Done, done, leaves, from, Matches, ◌>>◌}
use Rattle.runs.specs.Control.{Goes}
use Rattle.flat_mem.specs.Bytes.{bytes_at}
use Rattle.flat_mem.specs.Memory as flat_memory
use Rattle.src_mem.specs.Pointers.{Location, Pointer, Null, Number, At, Function, Value, Address}
use Rattle.src_mem.specs.State as source
use Rattle.src_mem.specs.State.{Setting}
use Rattle.src_mem.specs.Checks.{Condition, InBounds, null_or_in_bounds, conditions_by_kinds, conditions_of_conversion, all_checked, holds}
use Rattle.src_mem.specs.Primitives.{convert as convert_by, is_made_anew, made_at}
use Rattle.src_mem.specs.Operations.{node_of_shape, pointee_of_shape, node_at, pointee_at}
use Rattle.src_mem.specs.Values.{pointer_value}
use Rattle.src_mem.specs.Outlines.{outlines_of, lives_of}
use Rattle.src_mem.specs.Facts.{IsSequenceAt, IsValueOf, Reaches}
use Rattle.src_mem.specs.Laws.{Gives}
use Rattle.facts_kept.specs.Kept.{IsFlow}
use Rattle.cil_form.specs.declared.number.Temp.{Temp}
use Rattle.cil_form.specs.declared.instr.Convert.TheVariants as convert
use Rattle.cil_form.specs.declared.instr.Instr.TheVariants as instr
use Rattle.cil_form.specs.State as code
use Rattle.cil_form.specs.State.{with_temp, beside}
use Rattle.cil_form.specs.Typing.{PointerTo, IsShaped, no_types, with_held}
use Rattle.cil_form.specs.Told.{IsAsked}
use Rattle.cil_form.specs.Meaning as meaning
use Rattle.cil_facts.proofs.Conversions.{pointer-keeps}
use Rattle.cured_code.specs.FlatState as flat
use Rattle.cured_code.specs.FlatState.{slot}
use Rattle.cured_code.specs.FlatMachine.{run}
use Rattle.cured_code.specs.declared.parts.Parts.{Parts}
use Rattle.check_forms.specs.declared.slots.Fixed.{Fixed}
use Rattle.check_forms.specs.declared.op.Op.TheVariants as op
use Rattle.check_forms.specs.Pieces.{Line, Then}
use Rattle.check_forms.specs.Conditions.{IsInPart, IsByteInPart, UnlessNull, flat_holds}
use Rattle.check_forms.specs.Lines.{IsOther}
use Rattle.check_forms.specs.Rows.{Asked, asked, in_part, flat_conditions}
use Rattle.check_forms.specs.RowChecks.{AreChecks, first_false}
use Rattle.sim_relation.specs.Ground.{Ground, place, natural, first_word, pointer_words, word_number}
use Rattle.sim_relation.specs.Points.{Knowledge, Sure, AreWords}
use Rattle.sim_checks.specs.Rows.{IsChecked}
use Rattle.sim_memory.proofs.Finding.{sequence-here}
use Rattle.cure_rules.specs.Slots.{AreSlots, Size, work_of}
use Rattle.cure_rules.specs.Known as rules
use Rattle.cure_rules.specs.Known.{IsPointer, Points, Takes, a_pointer, copies, cured_size, held_words, pointer_slots}
use Rattle.cure_rules.specs.Checks.{Seat, Need, AreGot, need, number_at, numbers_of, size_needed}
use Rattle.cure_rules.specs.Pointing.{ConvertedWords, conversion_by, IsCuringConvert}
use Rattle.cure_rules.specs.Code.{Blocks}
use Rattle.sim_laws.specs.Scenes.{Scene, Running, setting_of, world_of, around_of, context_of}
use Rattle.sim_laws.specs.Points.{Holds, Point, Passed, ground_of}
use Rattle.sim_laws.specs.Statements.{Lines, CodeOutcome, FlatOutcome, StatesEndAlike, Match, Follows}
use Rattle.sim_laws.proofs.Points.{same-slots}
use Rattle.sim_laws.proofs.Guards.{lasting-other}
use Rattle.sim_laws.proofs.Giving.{Gave, column-room}
use Rattle.sim_laws.proofs.Sets.{Copied, alone, copied, few-words, settled-apart, words-more, words-none}
use Rattle.sim_laws.proofs.Names.{Names, IsGiven, context_in, facts-at, gives-held, held_type, pointer-asked, types_of}
use Rattle.sim_laws.proofs.Rows.{comes-same, gives-pointer}
use Rattle.sim_laws.proofs.Shaped.{Shaped}
use Rattle.sim_laws.proofs.Checks.{AreOfRoles, AreReady, AreThere, Guarded, StopsAlike, guarded, guarded-lasting, guard-gives, stops-alike}
use Rattle.sim_laws.proofs.Reaching.{Pointed, pointed, checked-words, head, size-roles}
use Rattle.sim_laws.proofs.Aiming.{place-at}
use Rattle.sim_laws.proofs.Storing.{as-address, known-words}
use Rattle.sim_laws.proofs.Tiles.{move-converted}
use Rattle.sim_laws.proofs.Shrinking.{and-true, shrinks-compared}

-- A pointer behind lines that leave the slots that last
pub pointed-behind : (w : Scene) (g : AreSlots w.slots) (b : Running) (l : code.Local) (c d : flat.Local) → d.state ≡ c.state → Passed w g c.slots d.slots
    → (t : Temp) (n : NodeId) (u : TypeId) (a : ℕ) → Pointed w g b l c t n u a → Pointed w g b l d t n u a
pointed-behind w g b l c d same passed t n u a m = record {
  pointer = m.pointer;
  value = m.value;
  held = m.held;
  words = subst (λ (x : flat.State). bytes_at (word_number (w.programs.whole.kind n)) d.slots a ≡ pointer_words (ground_of w.programs l.state x) (w.programs.whole.kind n) m.pointer) (sym same)
      (same-slots (word_number (w.programs.whole.kind n)) a c.slots d.slots (λ j less. passed.others (a + j) (m.lasting j less)) ∙ m.words);
  lasting = m.lasting;
}

-- the slots that last, behind a guard
pub guard-passed : (w : Scene) (g : AreSlots w.slots) (b : Running) (known : Knowledge) (l : code.Local) (needs : List Need) (conditions : List Asked) (lines : Lines)
    (c : flat.Local) → Point w g b known l c → (z : Guarded w g b known l needs conditions lines c) → Passed w g c.slots z.after.slots
guard-passed w g b known l needs conditions lines c p z =
    record { others = λ a h. guarded-lasting w g b known l needs conditions lines c z a h; long = z.point.count ∙ sym p.count }

-- Words that are copied into the column stand for a pointer there
pub copied-gives : (w : Scene) (g : AreSlots w.slots) (b : Running) (known after : Knowledge) (into : Temp) (l : code.Local) (d : flat.Local) (n : NodeId) (v : TypeId)
    (a : ℕ) (q : Pointer) → Point w g b known l d → Takes (world_of w) into (word_number (w.programs.whole.kind n))
    → ((i j : ℕ) → i < j → j < word_number (w.programs.whole.kind n) → a + j ≡ w.slots.column into + i → ⊥)
    → AreWords (pointer_words (ground_of w.programs l.state d.state) (w.programs.whole.kind n) q)
    → bytes_at (word_number (w.programs.whole.kind n)) d.slots a ≡ pointer_words (ground_of w.programs l.state d.state) (w.programs.whole.kind n) q
    → Holds w.programs l.state b.depth (PointerTo n v) (Address q) → IsAsked w.programs.sites (PointerTo n v)
    → rules.Leaves known into (Some (a_pointer (w.slots.column into) n v [])) after
    → Matches (Gave w g b known after into l d) (λ e s f x. StatesEndAlike w.programs e s f x.state) (Done (Address q) l.state)
    (run (copies (word_number (w.programs.whole.kind n)) (w.slots.column into) a) (context_of w b) d)
copied-gives w g b known after into l d n v a q p takes apart words same held told leave =
    of (copied (context_of w b) d (word_number (w.programs.whole.kind n)) (w.slots.column into) a
    (let r = column-room w g into (word_number (w.programs.whole.kind n)) takes (few-words (w.programs.whole.kind n)) in let m = p.count in omega (arith, r, m)))
  where
    Goal : FlatOutcome → Type 0
    Goal o = Matches (Gave w g b known after into l d) (λ e s f x. StatesEndAlike w.programs e s f x.state) (Done (Address q) l.state) o

    of : Copied (context_of w b) d (word_number (w.programs.whole.kind n)) (w.slots.column into) a
        → Goal (run (copies (word_number (w.programs.whole.kind n)) (w.slots.column into) a) (context_of w b) d)
    of h = subst Goal (sym (alone (context_of w b) d (copies (word_number (w.programs.whole.kind n)) (w.slots.column into) a) (word_number (w.programs.whole.kind n)) (w.slots.column into) h.by))
        (gives-pointer w g b known after into l d l.state (record d { slots = h.by.slots }) n v q
        (comes-same w g b known into l d h.by.slots n q p takes words (record { changed = h.by.changed; is = h.values apart ∙ same })) held told leave)

-- One condition of the lines, which holds where a pointer is null or so many bytes from it on lie in its part
pub bounds-stop : (parts : Parts) (m : flat_memory.Memory) (e : ℕ → ℕ) (w : Setting) (s : source.State) (at : Place) (a : Asked) (n : ℕ) (q : Pointer)
    → a.check ≡ check.Bounds → a.place ≡ at → flat_holds parts m a.condition e ≡ list_all (holds w s.memory) (null_or_in_bounds n q)
    → StopsAlike (first_false parts m (a ∷ []) e) (all_checked w at (null_or_in_bounds n q) s) s
bounds-stop parts m e w s at a n Null checks stands value = subst (λ (x : Bool). StopsAlike (if x then None else Some a) (Done tt s) s) (sym value) refl
bounds-stop parts m e w s at a n (Number k) checks stands value =
    stops-alike parts m e w (λ c. at) s (a ∷ []) (InBounds n (Number k) ∷ []) (checks, stands, value ∙ sym (and-true (holds w s.memory (InBounds n (Number k)))), λ h. tt)
bounds-stop parts m e w s at a n (At l) checks stands value =
    stops-alike parts m e w (λ c. at) s (a ∷ []) (InBounds n (At l) ∷ []) (checks, stands, value ∙ sym (and-true (holds w s.memory (InBounds n (At l)))), λ h. tt)
bounds-stop parts m e w s at a n (Function f) checks stands value =
    stops-alike parts m e w (λ c. at) s (a ∷ []) (InBounds n (Function f) ∷ []) (checks, stands, value ∙ sym (and-true (holds w s.memory (InBounds n (Function f)))), λ h. tt)

first-below : (x : ℕ) (xs : List ℕ) → AreWords (x ∷ xs) → x < 2 ^ 64
first-below x xs h = h.below x (0, (let l : 0 < suc (length xs) = omega arith in l), refl)

-- the conversion is among the sites
flow-told : (w : Scene) (names : Names w) (t s : TypeId) (at : Place) (m n : NodeId) (u v : TypeId) → IsPointer (world_of w) t m u → IsPointer (world_of w) s n v
    → Contains w.programs.sites (site.Flow (node_at w.programs.whole.table t) (pointee_at w.programs.whole.table t) (node_at w.programs.whole.table s)
    (pointee_at w.programs.whole.table s) at)
    → IsFlow (setting_of w.programs) w.programs.sites m u n v
flow-told w names t s at m n u v pt ps among = of m n u v
    (subst (λ (y : TypeShape). Contains w.programs.sites (site.Flow m u (node_of_shape y) (pointee_of_shape y) at)) ps
    (subst (λ (x : TypeShape). Contains w.programs.sites
    (site.Flow (node_of_shape x) (pointee_of_shape x) (node_at w.programs.whole.table s) (pointee_at w.programs.whole.table s) at)) pt among))
  where
    of : (m n : NodeId) (u v : TypeId) → Contains w.programs.sites (site.Flow m u n v at) → IsFlow (setting_of w.programs) w.programs.sites m u n v
    of m n u v it = let ends = names.solved.told.flows m n u v at it in record {
      flow = names.solved.solution.each (site.Flow m u n v at) it;
      source = names.solved.solution.each (site.Pointee m u) ends.0;
      target = names.solved.solution.each (site.Pointee n v) ends.1;
      told = ends.1;
    }

module _ (w : Scene) (names : Names w) (g : AreSlots w.slots) (b : Running) (into held : Temp) (t s : TypeId) (at : Place) (known after : Knowledge) (blocks : Blocks)
    (shaped : Shaped (instr.Convert (convert.Pointer into held t s at)) (context_in w names 0 no_types)) (m n : NodeId) (u v : TypeId) (a : ℕ) (sure : List Sure)
    (seat : Seat) (pt : IsPointer (world_of w) t m u) (ps : IsPointer (world_of w) s n v) (points : Points known held m u a sure)
    (takes : Takes (world_of w) into (word_number (w.programs.whole.kind n)))
    (leave : rules.Leaves known into (Some (a_pointer (w.slots.column into) n v [])) after) (l : code.Local) (c : flat.Local) (p : Point w g b known l c) where
  abbrev S : Setting
  S = setting_of w.programs

  abbrev class : FlowClass
  class = flow_class w.programs.whole.table u v

  abbrev gr : Ground
  gr = ground_of w.programs l.state c.state

  abbrev flow : IsFlow (setting_of w.programs) w.programs.sites m u n v
  flow = flow-told w names t s at m n u v pt ps shaped.is.1.0

  abbrev what : Pointed w g b l c held m u a
  what = pointed w g b known l c p held m u a sure (as-address known held m u a sure points)

  -- what the conversion makes of a pointer, for a pointer of this kind
  abbrev made : Kind → Pointer → Pointer
  made j q = if is_made_anew (flow_class w.programs.whole.table u v) (w.programs.whole.kind m) j then made_at v q else q

  abbrev conditions : Kind → Kind → Pointer → List Condition
  conditions k j q = conditions_by_kinds k j (record {
    class = flow_class w.programs.whole.table u v;
    from = w.programs.whole.kind m;
    to = w.programs.whole.kind n;
    from_size = size_of w.programs.whole.table u;
    to_size = size_of w.programs.whole.table v;
    to_type = v;
  }) q

  -- C's conversion
  abbrev F : Pointer → Outcome source.Ending source.State (Unit {0}) → Outcome source.Ending source.State Value
  F q o = from (from o (λ x. convert_by (flow_class w.programs.whole.table u v) (w.programs.whole.kind m) (w.programs.whole.kind n) v q)) (λ r. done (Address r))

  by_shapes : TypeShape → TypeShape → Pointer → Outcome source.Ending source.State Value
  by_shapes x y q = from (from (all_checked (setting_of w.programs) at (conditions_of_conversion (record {
    class = flow_class w.programs.whole.table (pointee_of_shape x) (pointee_of_shape y);
    from = w.programs.whole.kind (node_of_shape x);
    to = w.programs.whole.kind (node_of_shape y);
    from_size = size_of w.programs.whole.table (pointee_of_shape x);
    to_size = size_of w.programs.whole.table (pointee_of_shape y);
    to_type = pointee_of_shape y;
  }) q) l.state) (λ z. convert_by (flow_class w.programs.whole.table (pointee_of_shape x) (pointee_of_shape y)) (w.programs.whole.kind (node_of_shape x))
      (w.programs.whole.kind (node_of_shape y)) (pointee_of_shape y) q)) (λ r. done (Address r))

  converts : (q : Pointer) → pointer_value (setting_of w.programs) at t s (Address q) l.state
      ≡ F q (all_checked (setting_of w.programs) at (conditions (w.programs.whole.kind m) (w.programs.whole.kind n) q) l.state)
  unfolding by_shapes
  converts q = ap (λ (x : TypeShape). by_shapes x (shape_at w.programs.whole.table s) q) pt ∙ ap (λ (y : TypeShape). by_shapes (shape.Pointer m u) y q) ps

  source-goes : pointer_value (setting_of w.programs) at t s (l.temps held) l.state
      ≡ F (what).pointer (all_checked (setting_of w.programs) at (conditions (w.programs.whole.kind m) (w.programs.whole.kind n) (what).pointer) l.state)
  source-goes = ap (λ (x : Value). pointer_value (setting_of w.programs) at t s x l.state) (what).value ∙ converts (what).pointer

  -- what it gives may be held
  shaped-here : IsShaped (instr.Convert (convert.Pointer into held t s at)) (context_in w names 0 no_types) (types_of known)
      (with_held into (Some (PointerTo n v)) (types_of known))
  shaped-here = (
    (m, n, u, v, (shaped.is.0.4.0, pt), (shaped.is.0.5.0, ps), (shaped.is.0.6.0, of points), (takes.0, λ x y e. e)),
    shaped.is.1,
  )
    where
      of : Points known held m u a sure → types_of known held ≡ Some (PointerTo m u)
      of (x, fact, is, stands, listed) = ap held_type fact ∙ ap Some is

  given : Gives (pointer_value (setting_of w.programs) at t s (l.temps held) l.state) (IsGiven w b (PointerTo n v))
  given = gives-held w b (context_in w names 0 no_types) (types_of known) into (PointerTo n v) l (pointer_value (setting_of w.programs) at t s (l.temps held) l.state) refl
      (pointer-keeps (context_in w names 0 no_types) (around_of w b) names.solved (types_of known) (with_held into (Some (PointerTo n v)) (types_of known)) l
      (facts-at w names g b known l c p 0 no_types) into held t s at shaped-here)

  made-held : all_checked (setting_of w.programs) at (conditions (w.programs.whole.kind m) (w.programs.whole.kind n) (what).pointer) l.state ≡ Done tt l.state
      → Holds w.programs l.state b.depth (PointerTo n v) (Address (made (w.programs.whole.kind n) (what).pointer))
  made-held passes = of (subst (λ (o : Outcome source.Ending source.State Value). Gives o (IsGiven w b (PointerTo n v))) (source-goes ∙ ap (F (what).pointer) passes) given)
    where
      of : IsGiven w b (PointerTo n v) (Address (made (w.programs.whole.kind n) (what).pointer)) l.state
          → Holds w.programs l.state b.depth (PointerTo n v) (Address (made (w.programs.whole.kind n) (what).pointer))
      of x = x.held

  -- The lines: a guard, and copies of the words
  guarded-copies : (needs : List Need) (asks : List Asked) (first : Lines) → AreOfRoles needs
      → Then (AreGot (world_of w) needs) (AreChecks (work_of w.slots) asks) first
      → ((d : flat.Local) → Passed w g c.slots d.slots → AreThere w d needs → AreReady w c d asks)
      → ((d : flat.Local) → Passed w g c.slots d.slots → StopsAlike (first_false w.programs.parts c.state.memory asks (slot d))
      (all_checked (setting_of w.programs) at (conditions (w.programs.whole.kind m) (w.programs.whole.kind n) (what).pointer) l.state) l.state)
      → ((i j : ℕ) → i < j → j < word_number (w.programs.whole.kind n) → a + j ≡ w.slots.column into + i → ⊥)
      → (Holds w.programs l.state b.depth (PointerTo n v) (Address (made (w.programs.whole.kind n) (what).pointer))
      → AreWords (pointer_words gr (w.programs.whole.kind n) (made (w.programs.whole.kind n) (what).pointer))
      × (bytes_at (word_number (w.programs.whole.kind n)) c.slots a ≡ pointer_words gr (w.programs.whole.kind n) (made (w.programs.whole.kind n) (what).pointer)))
      → ((j : ℕ) → j < word_number (w.programs.whole.kind n) → j < word_number (w.programs.whole.kind m))
      → Match w g b after blocks (meaning.act (instr.Convert (convert.Pointer into held t s at)) (around_of w b) l)
      (run (first ++ copies (word_number (w.programs.whole.kind n)) (w.slots.column into) a) (context_of w b) c)
  guarded-copies needs asks first roles guard are_ready stops apart words fewer =
      subst (λ (o : Outcome source.Ending source.State Value). Match w g b after blocks (gave o) (run (first ++ rest) (context_of w b) c)) (sym source-goes)
      (subst (λ (o : FlatOutcome). Match w g b after blocks (gave (F (what).pointer outcome)) o) (sym (z.runs rest))
      (guard-gives w g b known after blocks into l z.after z.point stop outcome (stops z.middle z.passed) (F (what).pointer) (λ e x. refl) rest gives))
    where
      rest : Lines
      rest = copies (word_number (w.programs.whole.kind n)) (w.slots.column into) a

      gave : Outcome source.Ending source.State Value → CodeOutcome
      gave o = from (beside l.temps o) (λ x. leaves (λ (k : code.Local). record k { temps = with_temp into x k.temps }) >> done Goes)

      outcome : Outcome source.Ending source.State (Unit {0})
      outcome = all_checked (setting_of w.programs) at (conditions (w.programs.whole.kind m) (w.programs.whole.kind n) (what).pointer) l.state

      z : Guarded w g b known l needs asks first c
      z = guarded w g b known l needs asks first c p roles guard are_ready

      stop : Option Asked
      stop = first_false w.programs.parts c.state.memory asks (slot z.middle)

      j-words : List ℕ
      j-words = pointer_words gr (w.programs.whole.kind n) (made (w.programs.whole.kind n) (what).pointer)

      passed : Passed w g c.slots z.after.slots
      passed = guard-passed w g b known l needs asks first c p z

      gives : stop ≡ None → Matches (Gave w g b known after into l z.after) (λ e x f d. StatesEndAlike w.programs e x f d.state) (F (what).pointer (Done tt l.state))
          (run (copies (word_number (w.programs.whole.kind n)) (w.slots.column into) a) (context_of w b) z.after)
      gives none = copied-gives w g b known after into l z.after n v a (made (w.programs.whole.kind n) (what).pointer) z.point takes apart
          (subst (λ (x : flat.State). AreWords (pointer_words (ground_of w.programs l.state x) (w.programs.whole.kind n) (made (w.programs.whole.kind n) (what).pointer))) (sym z.state) both.0)
          (subst (λ (x : flat.State). bytes_at (word_number (w.programs.whole.kind n)) z.after.slots a
          ≡ pointer_words (ground_of w.programs l.state x) (w.programs.whole.kind n) (made (w.programs.whole.kind n) (what).pointer)) (sym z.state)
          (same-slots (word_number (w.programs.whole.kind n)) a c.slots z.after.slots (λ j less. passed.others (a + j) ((what).lasting j (fewer j less))) ∙ both.1))
          is_held (pointer-asked w names s n v ps) leave
        where
          is_held : Holds w.programs l.state b.depth (PointerTo n v) (Address (made (w.programs.whole.kind n) (what).pointer))
          is_held = made-held (subst (λ (x : Option Asked). StopsAlike x outcome l.state) none (stops z.middle z.passed))

          both : AreWords (pointer_words gr (w.programs.whole.kind n) (made (w.programs.whole.kind n) (what).pointer))
              × (bytes_at (word_number (w.programs.whole.kind n)) c.slots a ≡ pointer_words gr (w.programs.whole.kind n) (made (w.programs.whole.kind n) (what).pointer))
          both = words is_held

  -- Words, by kinds

  safe-same : (anew : Bool) (q : Pointer) → pointer_words gr Safe (if anew then made_at v q else q) ≡ pointer_words gr Safe q
  safe-same false q = refl
  safe-same true Null = refl
  safe-same true (Number k) = refl
  safe-same true (At x) = refl
  safe-same true (Function f) = refl

  sequence-same : w.programs.whole.kind m ≡ Seq → w.programs.whole.kind n ≡ Seq → (q : Pointer) → IsValueOf (setting_of w.programs) (outlines_of l.state.memory) Seq u q
      → pointer_words gr Seq (made_at v q) ≡ pointer_words gr Seq q
  sequence-same em en Null h = refl
  sequence-same em en (Number k) h = refl
  sequence-same em en (At x) h =
      ap (λ (z : ℤ). word (pos (place gr x.object x.part.low) +ℤ z) ∷ place gr x.object x.part.low ∷ place gr x.object x.part.high ∷ [])
      (move-converted (setting_of w.programs) names.solved.well_formed (outlines_of l.state.memory) w.programs.sites m n u v flow em en x h)
  sequence-same em en (Function f) h = absurd h

  -- a SEQ pointer within its part, at this byte
  stands-safe : (x : Location) (q : IsSequenceAt (setting_of w.programs) (outlines_of l.state.memory) u x) → Reaches (lives_of l.state.memory) b.depth (At x)
      → (i : ℕ) → x.offset ≡ pos i → x.part.low ≤ i → i ≤ x.part.high → first_word gr Safe (At x) ≡ first_word gr Seq (At x)
  stands-safe x q reaches i offset low high =
      ap (λ (z : ℤ). place gr x.object (natural z)) offset ∙ place-at gr x.object i q.object q.located.found
      ∙ sym (sequence-here (setting_of w.programs) w.programs.whole.node l.state c.state names.solved.well_formed u x q p.there.related b.depth reaches i offset low high)

  safe-first : (anew : Bool) (q : Pointer) → IsValueOf (setting_of w.programs) (outlines_of l.state.memory) Seq u q → Reaches (lives_of l.state.memory) b.depth q
      → IsValueOf (setting_of w.programs) (outlines_of l.state.memory) Safe v (if anew then made_at v q else q) → first_word gr Safe q ≡ first_word gr Seq q
  safe-first anew Null h reaches k = refl
  safe-first false (Number x) h reaches k = absurd k
  safe-first true (Number x) h reaches k = absurd k
  safe-first anew (Function f) h reaches k = absurd h
  safe-first false (At x) h reaches k = stands-safe x h reaches k.at k.stands.offset k.stands.low k.stands.high
  safe-first true (At x) h reaches k = stands-safe x h reaches k.at k.stands.offset k.stands.low k.stands.high

  -- the words of the pointer that is there
  known-row : (k : Kind) → w.programs.whole.kind m ≡ k → AreWords (pointer_words gr k (what).pointer) × (bytes_at (word_number k) c.slots a ≡ pointer_words gr k (what).pointer)
  known-row k em = (
    subst (λ (i : Kind). AreWords (pointer_words gr i (what).pointer)) em (known-words w g b known l c p held m u a sure points (what).pointer (what).value),
    subst (λ (i : Kind). bytes_at (word_number i) c.slots a ≡ pointer_words gr i (what).pointer) em (what).words,
  )

  -- where as many words are copied as there are
  apart-alike : word_number (w.programs.whole.kind n) ≡ word_number (w.programs.whole.kind m)
      → (i j : ℕ) → i < j → j < word_number (w.programs.whole.kind n) → a + j ≡ w.slots.column into + i → ⊥
  apart-alike same i j less below e = of points
    where
      of : Points known held m u a sure → ⊥
      of (x, fact, is, stands, listed) =
          let long : held_words w.programs.whole x.type ≡ word_number (w.programs.whole.kind n) = ap (held_words w.programs.whole) is ∙ sym same in
          settled-apart w g into held x a (p.settled held x fact) stands (subst (Takes (world_of w) into) (sym long) takes) i j less (omega (arith, below, long)) e

  -- nothing is asked
  none-ready : (d : flat.Local) → AreReady w c d []
  none-ready d = record { apart = tt; held = tt; safe = tt }

  nothing-asked : (first rest : Lines) → conditions (w.programs.whole.kind m) (w.programs.whole.kind n) (what).pointer ≡ []
      → Then (AreGot (world_of w) []) (AreChecks (work_of w.slots) []) first → rest ≡ copies (word_number (w.programs.whole.kind n)) (w.slots.column into) a
      → word_number (w.programs.whole.kind n) ≡ word_number (w.programs.whole.kind m)
      → (AreWords (pointer_words gr (w.programs.whole.kind n) (made (w.programs.whole.kind n) (what).pointer))
      × (bytes_at (word_number (w.programs.whole.kind n)) c.slots a ≡ pointer_words gr (w.programs.whole.kind n) (made (w.programs.whole.kind n) (what).pointer)))
      → Match w g b after blocks (meaning.act (instr.Convert (convert.Pointer into held t s at)) (around_of w b) l) (run (first ++ rest) (context_of w b) c)
  nothing-asked first rest none guard is same words =
      subst (λ (js : Lines). Match w g b after blocks (meaning.act (instr.Convert (convert.Pointer into held t s at)) (around_of w b) l) (run (first ++ js) (context_of w b) c)) (sym is)
      (guarded-copies [] [] first tt guard (λ d passed there. none-ready d)
      (λ d passed. ap (λ (cs : List Condition). all_checked (setting_of w.programs) at cs l.state) none) (apart-alike same) (λ h. words)
      (λ j less. omega (arith, less, same)))

  safe-safe : w.programs.whole.kind m ≡ Safe → w.programs.whole.kind n ≡ Safe → (first rest : Lines) → Then (AreGot (world_of w) []) (AreChecks (work_of w.slots) []) first
      → rest ≡ copies 1 (w.slots.column into) a
      → Match w g b after blocks (meaning.act (instr.Convert (convert.Pointer into held t s at)) (around_of w b) l) (run (first ++ rest) (context_of w b) c)
  safe-safe em en first rest guard is = nothing-asked first rest
      (ap (λ (k : Kind). conditions k (w.programs.whole.kind n) (what).pointer) em ∙ ap (λ (j : Kind). conditions Safe j (what).pointer) en) guard
      (is ∙ ap (λ (k : Kind). copies (word_number k) (w.slots.column into) a) (sym en)) (ap word_number (en ∙ sym em))
      (subst (λ (j : Kind). AreWords (pointer_words gr j (made j (what).pointer)) × (bytes_at (word_number j) c.slots a ≡ pointer_words gr j (made j (what).pointer))) (sym en)
      (subst AreWords (sym same) (known-row Safe em).0, (known-row Safe em).1 ∙ sym same))
    where
      same : pointer_words gr Safe (made Safe (what).pointer) ≡ pointer_words gr Safe (what).pointer
      same = safe-same (is_made_anew (flow_class w.programs.whole.table u v) (w.programs.whole.kind m) Safe) (what).pointer

  sequence-sequence : w.programs.whole.kind m ≡ Seq → w.programs.whole.kind n ≡ Seq → (first rest : Lines)
      → Then (AreGot (world_of w) []) (AreChecks (work_of w.slots) []) first → rest ≡ copies 3 (w.slots.column into) a
      → Match w g b after blocks (meaning.act (instr.Convert (convert.Pointer into held t s at)) (around_of w b) l) (run (first ++ rest) (context_of w b) c)
  sequence-sequence em en first rest guard is = nothing-asked first rest
      (ap (λ (k : Kind). conditions k (w.programs.whole.kind n) (what).pointer) em ∙ ap (λ (j : Kind). conditions Seq j (what).pointer) en) guard
      (is ∙ ap (λ (k : Kind). copies (word_number k) (w.slots.column into) a) (sym en)) (ap word_number (en ∙ sym em))
      (subst (λ (j : Kind). AreWords (pointer_words gr j (made j (what).pointer)) × (bytes_at (word_number j) c.slots a ≡ pointer_words gr j (made j (what).pointer))) (sym en)
      (subst AreWords (sym same) (known-row Seq em).0, (known-row Seq em).1 ∙ sym same))
    where
      same : pointer_words gr Seq (made_at v (what).pointer) ≡ pointer_words gr Seq (what).pointer
      same = sequence-same em en (what).pointer
          (subst (λ (k : Kind). IsValueOf (setting_of w.programs) (outlines_of l.state.memory) k u (what).pointer) em (what).held.held.value)

  -- BOUNDS
  abbrev size : Fixed
  size = number_at seat Size (cured_size w.programs.whole v)

  abbrev asks : List Asked
  asks = asked check.Bounds at (UnlessNull (pointer_slots a) (in_part (pointer_slots a) (number_at seat Size (cured_size w.programs.whole v)))) ∷ []

  shrink-ready : w.programs.whole.kind m ≡ Seq → (d : flat.Local) → AreThere w d (size_needed (number_at seat Size (cured_size w.programs.whole v)))
      → AreReady w c d (asked check.Bounds at (UnlessNull (pointer_slots a) (in_part (pointer_slots a) (number_at seat Size (cured_size w.programs.whole v)))) ∷ [])
  shrink-ready em d there = by (nat_eq (cured_size w.programs.whole v) 1) there
    where
      few : (j : ℕ) → j < 3 → IsOther (work_of w.slots) (a + j)
      few j less = lasting-other w g (a + j) ((what).lasting j (subst (λ (k : Kind). j < word_number k) (sym em) less))

      zeroth : IsOther (work_of w.slots) a
      zeroth = subst (IsOther (work_of w.slots)) (let e : a + 0 ≡ a = omega arith in e) (few 0 (omega arith))

      by : (q : Bool) → AreThere w d (if q then [] else need Size size ∷ [])
          → AreReady w c d (asked check.Bounds at (UnlessNull (pointer_slots a) (if q then IsByteInPart (pointer_slots a) else IsInPart (pointer_slots a) size)) ∷ [])
      by true are = record {
        apart = (((zeroth, (few 1 (omega arith), tt)), (zeroth, (few 1 (omega arith), (few 2 (omega arith), tt)))), tt);
        held = (tt, tt);
        safe = (tt, λ q. tt);
      }
      by false are = record {
        apart = (((zeroth, (few 1 (omega arith), tt)), (zeroth, (few 1 (omega arith), (few 2 (omega arith), (are.1, tt))))), tt);
        held = (are.0, tt);
        safe = (tt, λ q. tt);
      }

  sequence-safe : w.programs.whole.kind m ≡ Seq → w.programs.whole.kind n ≡ Safe → (first rest : Lines)
      → Then (AreGot (world_of w) (size_needed (number_at seat Size (cured_size w.programs.whole v)))) (AreChecks (work_of w.slots) asks) first
      → rest ≡ copies 1 (w.slots.column into) a
      → Match w g b after blocks (meaning.act (instr.Convert (convert.Pointer into held t s at)) (around_of w b) l) (run (first ++ rest) (context_of w b) c)
  unfolding bytes_at
  sequence-safe em en first rest guard is =
      subst (λ (js : Lines). Match w g b after blocks (meaning.act (instr.Convert (convert.Pointer into held t s at)) (around_of w b) l) (run (first ++ js) (context_of w b) c))
      (sym (is ∙ ap (λ (k : Kind). copies (word_number k) (w.slots.column into) a) (sym en)))
      (guarded-copies (size_needed size) asks first (size-roles size) guard (λ d passed there. shrink-ready em d there) stops apart words fewer)
    where
      are : conditions (w.programs.whole.kind m) (w.programs.whole.kind n) (what).pointer ≡ null_or_in_bounds (size_of w.programs.whole.table v) (what).pointer
      are = ap (λ (k : Kind). conditions k (w.programs.whole.kind n) (what).pointer) em ∙ ap (λ (j : Kind). conditions Seq j (what).pointer) en

      stops : (d : flat.Local) → Passed w g c.slots d.slots → StopsAlike (first_false w.programs.parts c.state.memory asks (slot d))
          (all_checked (setting_of w.programs) at (conditions (w.programs.whole.kind m) (w.programs.whole.kind n) (what).pointer) l.state) l.state
      stops d passed =
          subst (λ (cs : List Condition). StopsAlike (first_false w.programs.parts c.state.memory asks (slot d)) (all_checked (setting_of w.programs) at cs l.state) l.state) (sym are)
          (bounds-stop w.programs.parts c.state.memory (slot d) (setting_of w.programs) l.state at
          (asked check.Bounds at (UnlessNull (pointer_slots a) (in_part (pointer_slots a) size))) (size_of w.programs.whole.table v) (what).pointer refl refl
          (shrinks-compared (setting_of w.programs) w.programs.whole.node l.state c.state w.programs.parts b.depth names.solved.well_formed w.programs.sites m n u v flow em en
          (slot d) (pointer_slots a) size (names.sizes.size v) (names.sizes.none v) (what).pointer
          (subst (λ (k : Kind). IsChecked (setting_of w.programs) w.programs.whole.node l.state c.state b.depth k u (what).pointer (slot d) (pointer_slots a)) em
          (checked-words w g b known l c d p passed held m u a what))))

      apart : (i j : ℕ) → i < j → j < word_number (w.programs.whole.kind n) → a + j ≡ w.slots.column into + i → ⊥
      apart i j less below e = let k = ap word_number en in omega (arith, less, below, k)

      fewer : (j : ℕ) → j < word_number (w.programs.whole.kind n) → j < word_number (w.programs.whole.kind m)
      fewer j less = let x = ap word_number en in let y = ap word_number em in omega (arith, less, x, y)

      words : Holds w.programs l.state b.depth (PointerTo n v) (Address (made (w.programs.whole.kind n) (what).pointer))
          → AreWords (pointer_words gr (w.programs.whole.kind n) (made (w.programs.whole.kind n) (what).pointer))
          × (bytes_at (word_number (w.programs.whole.kind n)) c.slots a ≡ pointer_words gr (w.programs.whole.kind n) (made (w.programs.whole.kind n) (what).pointer))
      words h = subst (λ (j : Kind). AreWords (pointer_words gr j (made j (what).pointer)) × (bytes_at (word_number j) c.slots a ≡ pointer_words gr j (made j (what).pointer))) (sym en)
          (of (subst (λ (j : Kind). IsValueOf (setting_of w.programs) (outlines_of l.state.memory) j v (made j (what).pointer)) en h.held.value))
        where
          of : IsValueOf (setting_of w.programs) (outlines_of l.state.memory) Safe v (made Safe (what).pointer)
              → AreWords (pointer_words gr Safe (made Safe (what).pointer)) × (bytes_at 1 c.slots a ≡ pointer_words gr Safe (made Safe (what).pointer))
          of k = (
            subst AreWords (sym same) (words-more (first_word gr Safe (what).pointer) [] (subst (λ (x : ℕ). x < 2 ^ 64) (sym one) (first-below (first_word gr Seq (what).pointer) _ (known-row Seq em).0)) words-none),
            ap (λ (x : ℕ). x ∷ []) (ap head (known-row Seq em).1 ∙ sym one) ∙ sym same,
          )
            where
              one : first_word gr Safe (what).pointer ≡ first_word gr Seq (what).pointer
              one = safe-first (is_made_anew (flow_class w.programs.whole.table u v) (w.programs.whole.kind m) Safe) (what).pointer
                  (subst (λ (i : Kind). IsValueOf (setting_of w.programs) (outlines_of l.state.memory) i u (what).pointer) em (what).held.held.value) (what).held.held.reaches k

              same : pointer_words gr Safe (made Safe (what).pointer) ≡ pointer_words gr Safe (what).pointer
              same = safe-same (is_made_anew (flow_class w.programs.whole.table u v) (w.programs.whole.kind m) Safe) (what).pointer

  -- all that there are
  pub converted-words : (w.programs.whole.kind m ≡ Safe) ⊎ (w.programs.whole.kind m ≡ Seq) → (w.programs.whole.kind n ≡ Safe) ⊎ (w.programs.whole.kind n ≡ Seq) → (lines : Lines)
      → Then (Then (AreGot (world_of w) (numbers_of (op.Convert (pointer_slots a)
      (conversion_by (w.programs.whole.kind m) (w.programs.whole.kind n) (world_of w) seat (flow_class w.programs.whole.table u v) u v)) (w.programs.whole.kind m)))
      (AreChecks (work_of w.slots) (flat_conditions (op.Convert (pointer_slots a)
      (conversion_by (w.programs.whole.kind m) (w.programs.whole.kind n) (world_of w) seat (flow_class w.programs.whole.table u v) u v)) (w.programs.whole.kind m) at)))
      (ConvertedWords (w.programs.whole.kind m) (w.programs.whole.kind n) (world_of w) (flow_class w.programs.whole.table u v) u v (w.slots.column into) a) lines
      → Match w g b after blocks (meaning.act (instr.Convert (convert.Pointer into held t s at)) (around_of w b) l) (run lines (context_of w b) c)
  unfolding Line Then
  converted-words from_kind to_kind lines (first, rest, guard, words, is) =
      subst (λ (js : Lines). Match w g b after blocks (meaning.act (instr.Convert (convert.Pointer into held t s at)) (around_of w b) l) (run js (context_of w b) c)) (sym is)
      (by from_kind to_kind)
    where
      Guard : Kind → Kind → Type 0
      Guard k j = Then (AreGot (world_of w) (numbers_of (op.Convert (pointer_slots a) (conversion_by k j (world_of w) seat (flow_class w.programs.whole.table u v) u v)) k))
          (AreChecks (work_of w.slots) (flat_conditions (op.Convert (pointer_slots a) (conversion_by k j (world_of w) seat (flow_class w.programs.whole.table u v) u v)) k at)) first

      Words : Kind → Kind → Type 0
      Words k j = ConvertedWords k j (world_of w) (flow_class w.programs.whole.table u v) u v (w.slots.column into) a rest

      guard-of : (k j : Kind) → w.programs.whole.kind m ≡ k → w.programs.whole.kind n ≡ j → Guard k j
      guard-of k j em en = subst (λ (i : Kind). Guard k i) en (subst (λ (i : Kind). Guard i (w.programs.whole.kind n)) em guard)

      words-of : (k j : Kind) → w.programs.whole.kind m ≡ k → w.programs.whole.kind n ≡ j → Words k j
      words-of k j em en = subst (λ (i : Kind). Words k i) en (subst (λ (i : Kind). Words i (w.programs.whole.kind n)) em words)

      by : (w.programs.whole.kind m ≡ Safe) ⊎ (w.programs.whole.kind m ≡ Seq) → (w.programs.whole.kind n ≡ Safe) ⊎ (w.programs.whole.kind n ≡ Seq)
          → Match w g b after blocks (meaning.act (instr.Convert (convert.Pointer into held t s at)) (around_of w b) l) (run (first ++ rest) (context_of w b) c)
      by (inl em) (inl en) = safe-safe em en first rest (guard-of Safe Safe em en) (words-of Safe Safe em en)
      by (inl em) (inr en) = absurd (words-of Safe Seq em en)
      by (inr em) (inl en) = sequence-safe em en first rest (guard-of Seq Safe em en) (words-of Seq Safe em en)
      by (inr em) (inr en) = sequence-sequence em en first rest (guard-of Seq Seq em en) (words-of Seq Seq em en)

-- SAFE to SAFE, SEQ to SEQ, and SEQ to SAFE; there is none from SAFE to SEQ
pub convert-pointer-follows : (w : Scene) (names : Names w) (g : AreSlots w.slots) (b : Running) (into held : Temp) (t s : TypeId) (at : Place) (known after : Knowledge) (blocks : Blocks)
    (lines : Lines) → Shaped (instr.Convert (convert.Pointer into held t s at)) (context_in w names 0 no_types)
    → ((m n : NodeId) (u v : TypeId) → IsPointer (world_of w) t m u → IsPointer (world_of w) s n v
    → ((w.programs.whole.kind m ≡ Safe) ⊎ (w.programs.whole.kind m ≡ Seq)) × ((w.programs.whole.kind n ≡ Safe) ⊎ (w.programs.whole.kind n ≡ Seq)))
    → IsCuringConvert (convert.Pointer into held t s at) (world_of w) known after lines
    → Follows w g b blocks known after (meaning.act (instr.Convert (convert.Pointer into held t s at)) (around_of w b)) lines
convert-pointer-follows w names g b into held t s at known after blocks lines shaped kinds (m, n, u, v, a, sure, seat, pt, ps, points, takes, are, leave) l c p =
    converted-words w names g b into held t s at known after blocks shaped m n u v a sure seat pt ps points takes leave l c p
    (kinds m n u v pt ps).0 (kinds m n u v pt ps).1 lines are
