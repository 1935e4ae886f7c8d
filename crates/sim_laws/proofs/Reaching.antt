-- The check in front of a use of a pointer without tags: NULL or BOUNDS. Where it has passed, the pointer is a place, and both machines find
-- the same object there.
use Rattle.std.proofs.Common.{◌≡◌, ◌≢◌, ◌⊎◌, ℕ, ◌+◌, ◌<◌, inl, inr, Bool, true, false, List, [], ◌∷◌, slice_index, Some, refl, ap, sym, subst, ◌∙◌, arith, nat_eq, if◌then◌else◌}
use Rattle.cc_base.specs.declared.fault.Check.TheVariants as check
use Rattle.cc_base.specs.declared.kind.Kind.{Kind}
use Rattle.cc_base.specs.declared.kind.Kind.TheVariants.{Safe, Seq, Rtti, Wild}
use Rattle.cc_base.specs.declared.number.TypeId.{TypeId}
use Rattle.cc_base.specs.declared.number.NodeId.{NodeId}
use Rattle.cc_base.specs.declared.place.Place.{Place}
use Rattle.c_types.specs.Table.{IsComplete}
use Rattle.c_types.specs.Layouts.{size_of}
use Rattle.flat_mem.specs.Bytes.{bytes_at}
use Rattle.src_mem.specs.Pointers.{Location, Pointer, Null, Number, At, Function, Value, Integer, Address, is_at}
use Rattle.src_mem.specs.State as source
use Rattle.src_mem.specs.Checks.{Condition, NotNull, InBounds}
use Rattle.src_mem.specs.Facts.{IsHeldBy}
use Rattle.facts_kept.specs.Kept.{asked_of}
use Rattle.cil_form.specs.declared.number.Temp.{Temp}
use Rattle.cil_form.specs.State as code
use Rattle.cil_form.specs.Typing.{HeldType, PointerTo, PlaceOf}
use Rattle.cured_code.specs.FlatState as flat
use Rattle.cured_code.specs.FlatState.{slot}
use Rattle.check_forms.specs.declared.slots.PointerSlots.{PointerSlots}
use Rattle.check_forms.specs.declared.slots.Fixed.{Fixed}
use Rattle.check_forms.specs.Lines.{IsOther}
use Rattle.check_forms.specs.Conditions.{IsInPart, IsByteInPart}
use Rattle.check_forms.specs.Rows.{asked, reached}
use Rattle.sim_checks.specs.Rows.{AreWordsOf, IsChecked}
use Rattle.sim_checks.proofs.Pointing.{null-compared}
use Rattle.sim_checks.proofs.Sequences.{bounds-compared}
use Rattle.sim_relation.specs.Ground.{Ground, pointer_words, word_number}
use Rattle.sim_relation.specs.Points.{Known, Knowledge, Sure, StandsFor}
use Rattle.cure_rules.specs.Slots.{AreSlots, Size, work_of}
use Rattle.cure_rules.specs.Known.{IsAddress, held_words, pointer_slots}
use Rattle.cure_rules.specs.Checks.{Seat, need, reach_needs, size_at, size_needed}
use Rattle.sim_laws.specs.Scenes.{Scene, Running, setting_of, world_of}
use Rattle.sim_laws.specs.Points.{Holds, Point, Passed, IsLasting, ground_of}
use Rattle.sim_laws.specs.Plain.{IsPlainKind}
use Rattle.sim_laws.proofs.Points.{some-words}
use Rattle.sim_laws.proofs.Guards.{lasting-other}
use Rattle.sim_laws.proofs.Names.{Names}
use Rattle.sim_laws.proofs.Checks.{AreThere, AreOfRoles, AreReady, AreCompared, known-lasting}

-- A pointer or a place that a temporary holds, in slots that last.
pub record Pointed (w : Scene) (g : AreSlots w.slots) (b : Running) (l : code.Local) (c : flat.Local) (t : Temp) (n : NodeId) (u : TypeId) (a : ℕ) : Type 0 where
  pub pointer : Pointer
  pub value : l.temps t ≡ Address pointer
  pub held : IsHeldBy (setting_of w.programs) w.programs.sites l.state.memory b.depth n u pointer
  pub words : bytes_at (word_number (w.programs.whole.kind n)) c.slots a ≡ pointer_words (ground_of w.programs l.state c.state) (w.programs.whole.kind n) pointer
  pub lasting : (j : ℕ) → j < word_number (w.programs.whole.kind n) → IsLasting (g.owner (a + j))

pointed-to : (w : Scene) (g : AreSlots w.slots) (b : Running) (known : Knowledge) (l : code.Local) (c : flat.Local) → Point w g b known l c → (t : Temp) (x : Known)
    → known t ≡ Some x → (a : ℕ) → x.place ≡ Some a → (n : NodeId) (u : TypeId) → held_words w.programs.whole x.type ≡ word_number (w.programs.whole.kind n)
    → (v : Value) → l.temps t ≡ v → Holds w.programs l.state b.depth (PointerTo n u) v
    → StandsFor (ground_of w.programs l.state c.state) c.slots x (PointerTo n u) v → Pointed w g b l c t n u a
pointed-to w g b known l c p t x fact a place n u long (Integer z) value held stands = absurd held
pointed-to w g b known l c p t x fact a place n u long (Address q) value held stands = record {
  pointer = q;
  value = value;
  held = held;
  words = stands.in_slots a place;
  lasting = λ j less. known-lasting w g b known l c p t x fact a place j (omega (arith, less, long));
}

-- a place is a pointer too
place-pointer : (w : Scene) (s : source.State) (depth : ℕ) (n : NodeId) (u : TypeId) (v : Value) → Holds w.programs s depth (PlaceOf n u) v
    → Holds w.programs s depth (PointerTo n u) v
place-pointer w s depth n u (Integer z) h = h
place-pointer w s depth n u (Address q) h = h.0

place-stands : (gr : Ground) (slots : List ℕ) (x : Known) (n : NodeId) (u : TypeId) (v : Value) → StandsFor gr slots x (PlaceOf n u) v
    → StandsFor gr slots x (PointerTo n u) v
place-stands gr slots x n u (Integer z) h = h
place-stands gr slots x n u (Address q) h = h

pub pointed : (w : Scene) (g : AreSlots w.slots) (b : Running) (known : Knowledge) (l : code.Local) (c : flat.Local) → Point w g b known l c → (t : Temp) (n : NodeId)
    (u : TypeId) (a : ℕ) (sure : List Sure) → IsAddress known t n u a sure → Pointed w g b l c t n u a
pointed w g b known l c p t n u a sure (x, fact, inl is, place, listed) =
    pointed-to w g b known l c p t x fact a place n u (ap (held_words w.programs.whole) is) (l.temps t) refl
    (subst (λ (h : HeldType). Holds w.programs l.state b.depth h (l.temps t)) is (p.held t x fact))
    (subst (λ (h : HeldType). StandsFor (ground_of w.programs l.state c.state) c.slots x h (l.temps t)) is (p.stands t x fact))
pointed w g b known l c p t n u a sure (x, fact, inr is, place, listed) =
    pointed-to w g b known l c p t x fact a place n u (ap (held_words w.programs.whole) is) (l.temps t) refl
    (place-pointer w l.state b.depth n u (l.temps t) (subst (λ (h : HeldType). Holds w.programs l.state b.depth h (l.temps t)) is (p.held t x fact)))
    (place-stands (ground_of w.programs l.state c.state) c.slots x n u (l.temps t)
    (subst (λ (h : HeldType). StandsFor (ground_of w.programs l.state c.state) c.slots x h (l.temps t)) is (p.stands t x fact)))

-- the first word stands in a slot that lasts
pub first-lasts : (w : Scene) (g : AreSlots w.slots) (b : Running) (l : code.Local) (c : flat.Local) (t : Temp) (n : NodeId) (u : TypeId) (a : ℕ) → Pointed w g b l c t n u a
    → IsLasting (g.owner a)
first-lasts w g b l c t n u a m =
    subst (λ (j : ℕ). IsLasting (g.owner j)) (let e : a + 0 ≡ a = omega arith in e) (m.lasting 0 (some-words (w.programs.whole.kind n)))

-- Kinds and pointers

-- kinds of plain code aren't WILD
pub plain-tags : (k : Kind) → IsPlainKind k → k ≢ Wild
plain-tags Safe plain e = absurd (cc (e))
plain-tags Seq plain e = absurd (cc (e))
plain-tags Rtti plain e = absurd plain
plain-tags Wild plain e = absurd plain

-- a pointer that was made for an object
pub based-at : (q : Pointer) → is_at q (λ l. true) ≡ true → (l : Location) × (q ≡ At l)
based-at Null e = absurd (cc (e))
based-at (Number n) e = absurd (cc (e))
based-at (At l) e = (l, refl)
based-at (Function f) e = absurd (cc (e))

-- Its words, wherever the slots that last are as they were

abbrev pub head : List ℕ → ℕ
head [] = 0
head (x ∷ xs) = x

abbrev second : List ℕ → ℕ
second [] = 0
second (x ∷ xs) = head xs

abbrev third : List ℕ → ℕ
third [] = 0
third (x ∷ xs) = second xs

pub words-of : (gr : Ground) (k : Kind) (slots : List ℕ) (a : ℕ) (q : Pointer) (e : ℕ → ℕ) → bytes_at (word_number k) slots a ≡ pointer_words gr k q
    → ((j : ℕ) → j < word_number k → e (a + j) ≡ slice_index slots (a + j)) → AreWordsOf gr e (pointer_slots a) k q
unfolding bytes_at
words-of gr k slots a q e h same = by k h same
  where
    at : (j m : ℕ) → a + j ≡ m → e (a + j) ≡ slice_index slots (a + j) → e m ≡ slice_index slots m
    at j m f r = subst (λ (i : ℕ). e i ≡ slice_index slots i) f r

    by : (k : Kind) → bytes_at (word_number k) slots a ≡ pointer_words gr k q → ((j : ℕ) → j < word_number k → e (a + j) ≡ slice_index slots (a + j))
        → AreWordsOf gr e (pointer_slots a) k q
    by Safe h same = at 0 a (omega arith) (same 0 (omega arith)) ∙ ap head h
    by Rtti h same = (at 0 a (omega arith) (same 0 (omega arith)) ∙ ap head h, same 1 (omega arith) ∙ ap second h)
    by Seq h same = (
      at 0 a (omega arith) (same 0 (omega arith)) ∙ ap head h,
      same 1 (omega arith) ∙ ap second h,
      same 2 (omega arith) ∙ ap (slice_index slots) (let f : a + 2 ≡ a + 1 + 1 = omega arith in f) ∙ ap third h,
    )
    by Wild h same = (at 0 a (omega arith) (same 0 (omega arith)) ∙ ap head h, same 1 (omega arith) ∙ ap second h)

pub checked-words : (w : Scene) (g : AreSlots w.slots) (b : Running) (known : Knowledge) (l : code.Local) (c d : flat.Local) → Point w g b known l c
    → Passed w g c.slots d.slots → (t : Temp) (n : NodeId) (u : TypeId) (a : ℕ) (m : Pointed w g b l c t n u a)
    → IsChecked (setting_of w.programs) w.programs.whole.node l.state c.state b.depth (w.programs.whole.kind n) u m.pointer (slot d) (pointer_slots a)
checked-words w g b known l c d p passed t n u a m = record {
  related = p.there.related;
  held = m.held.held;
  words = words-of (ground_of w.programs l.state c.state) (w.programs.whole.kind n) c.slots a m.pointer (slot d) m.words (λ j less. passed.others (a + j) (m.lasting j less));
}

-- NULL and BOUNDS

-- the slots of a pointer of this kind
abbrev pub IsSlotOf : Kind → PointerSlots → ℕ → Type 0
IsSlotOf Safe p a = a ≡ p.first
IsSlotOf Rtti p a = (a ≡ p.first) ⊎ (a ≡ p.second)
IsSlotOf Seq p a = (a ≡ p.first) ⊎ (a ≡ p.second) ⊎ (a ≡ p.third)
IsSlotOf Wild p a = (a ≡ p.first) ⊎ (a ≡ p.second)

pub pointer-slot : (k : Kind) (a i : ℕ) → IsSlotOf k (pointer_slots a) i → (j : ℕ) × (j < word_number k) × (a + j ≡ i)
pointer-slot Safe a i e = (0, omega arith, omega (arith, e))
pointer-slot Rtti a i (inl e) = (0, omega arith, omega (arith, e))
pointer-slot Rtti a i (inr e) = (1, omega arith, omega (arith, e))
pointer-slot Seq a i (inl e) = (0, omega arith, omega (arith, e))
pointer-slot Seq a i (inr (inl e)) = (1, omega arith, omega (arith, e))
pointer-slot Seq a i (inr (inr e)) = (2, omega arith, omega (arith, e))
pointer-slot Wild a i (inl e) = (0, omega arith, omega (arith, e))
pointer-slot Wild a i (inr e) = (1, omega arith, omega (arith, e))

-- the numbers are of roles of their own
pub size-roles : (size : Fixed) → AreOfRoles (size_needed size)
size-roles size = by (nat_eq size.value 1)
  where
    by : (q : Bool) → AreOfRoles (if q then [] else need Size size ∷ [])
    by true = tt
    by false = (refl, tt, tt)

pub needs-roles : (k : Kind) → k ≢ Wild → (size : Fixed) → AreOfRoles (reach_needs k size)
needs-roles Safe other size = tt
needs-roles Rtti other size = tt
needs-roles Seq other size = size-roles size
needs-roles Wild other size = absurd (other refl)

-- what the lines read is there
pub slots-ready : (w : Scene) (c d : flat.Local) (k : Kind) → k ≢ Wild → (p : PointerSlots) (size : Fixed) (at : Place)
    → ((a : ℕ) → IsSlotOf k p a → IsOther (work_of w.slots) a) → AreThere w d (reach_needs k size) → AreReady w c d (reached k p size at)
slots-ready w c d Safe other p size at apart there = record { apart = (apart p.first refl, tt); held = (tt, tt); safe = (tt, λ q. tt) }
slots-ready w c d Rtti other p size at apart there = record { apart = (apart p.first (inl refl), tt); held = (tt, tt); safe = (tt, λ q. tt) }
slots-ready w c d Seq other p size at apart there = by (nat_eq size.value 1) there
  where
    by : (q : Bool) → AreThere w d (if q then [] else need Size size ∷ []) → AreReady w c d (asked check.Bounds at (if q then IsByteInPart p else IsInPart p size) ∷ [])
    by true are = record {
      apart = ((apart p.first (inl refl), (apart p.second (inr (inl refl)), (apart p.third (inr (inr refl)), tt))), tt);
      held = (tt, tt);
      safe = (tt, λ q. tt);
    }
    by false are = record {
      apart = ((apart p.first (inl refl), (apart p.second (inr (inl refl)), (apart p.third (inr (inr refl)), (are.1, tt)))), tt);
      held = (are.0, tt);
      safe = (tt, λ q. tt);
    }
slots-ready w c d Wild other p size at apart there = absurd (other refl)

-- the lines compare what C does
pub slots-compared : (w : Scene) (names : Names w) (s : source.State) (c : flat.State) (depth : ℕ) (k : Kind) → k ≢ Wild → (u : TypeId) → IsComplete w.programs.whole.table u
    → (q : Pointer) (e : ℕ → ℕ) (p : PointerSlots) (seat : Seat) (at : Place) (place : Condition → Place) → ((r : Pointer) → place (NotNull r) ≡ at)
    → ((i : ℕ) (r : Pointer) → place (InBounds i r) ≡ at) → IsChecked (setting_of w.programs) w.programs.whole.node s c depth k u q e p
    → AreCompared w.programs.parts c.memory e (setting_of w.programs) s.memory place (reached k p (size_at (world_of w) seat k u) at)
    (asked_of (size_of w.programs.whole.table u) k q)
slots-compared w names s c depth Safe other u complete q e p seat at place null bounds x =
    (refl, sym (null q), null-compared (setting_of w.programs) w.programs.whole.node s c w.programs.parts depth Safe u q e p (inl refl) x, λ h. tt)
slots-compared w names s c depth Rtti other u complete q e p seat at place null bounds x =
    (refl, sym (null q), null-compared (setting_of w.programs) w.programs.whole.node s c w.programs.parts depth Rtti u q e p (inr refl) x, λ h. tt)
slots-compared w names s c depth Seq other u complete q e p seat at place null bounds x = (
  refl,
  sym (bounds (size_of w.programs.whole.table u) q),
  bounds-compared (setting_of w.programs) w.programs.whole.node s c w.programs.parts depth u names.solved.well_formed complete e p
      (size_at (world_of w) seat Seq u) (names.sizes.size u complete) q x,
  λ h. tt,
)
slots-compared w names s c depth Wild other u complete q e p seat at place null bounds x = absurd (other refl)

module _ (w : Scene) (names : Names w) (g : AreSlots w.slots) (b : Running) (known : Knowledge) (l : code.Local) (c : flat.Local) (p : Point w g b known l c)
    (t : Temp) (n : NodeId) (u : TypeId) (a : ℕ) (m : Pointed w g b l c t n u a) (complete : IsComplete w.programs.whole.table u) where
  pub reach-roles : (k : Kind) → k ≢ Wild → (size : Fixed) → AreOfRoles (reach_needs k size)
  reach-roles k other size = needs-roles k other size

  pub reach-ready : (k : Kind) → w.programs.whole.kind n ≡ k → k ≢ Wild → (size : Fixed) (at : Place) (d : flat.Local) → AreThere w d (reach_needs k size)
      → AreReady w c d (reached k (pointer_slots a) size at)
  reach-ready k e other size at d there = slots-ready w c d k other (pointer_slots a) size at (λ i h. at-slot i (pointer-slot k a i h)) there
    where
      at-slot : (i : ℕ) → (j : ℕ) × (j < word_number k) × (a + j ≡ i) → IsOther (work_of w.slots) i
      at-slot i (j, less, is) = subst (IsOther (work_of w.slots)) is (lasting-other w g (a + j) (m.lasting j (subst (λ (x : Kind). j < word_number x) (sym e) less)))

  pub reach-compared : (k : Kind) → w.programs.whole.kind n ≡ k → k ≢ Wild → (seat : Seat) (at : Place) (place : Condition → Place)
      → ((q : Pointer) → place (NotNull q) ≡ at) → ((i : ℕ) (q : Pointer) → place (InBounds i q) ≡ at) → (d : flat.Local) → Passed w g c.slots d.slots
      → AreCompared w.programs.parts c.state.memory (slot d) (setting_of w.programs) l.state.memory place
      (reached k (pointer_slots a) (size_at (world_of w) seat k u) at) (asked_of (size_of w.programs.whole.table u) k m.pointer)
  reach-compared k e other seat at place null bounds d passed =
      slots-compared w names l.state c.state b.depth k other u complete m.pointer (slot d) (pointer_slots a) seat at place null bounds
      (subst (λ (x : Kind). IsChecked (setting_of w.programs) w.programs.whole.node l.state c.state b.depth x u m.pointer (slot d) (pointer_slots a)) e
      (checked-words w g b known l c d p passed t n u a m))
