-- Instructions that give a pointer or a place, whose words stand in the column.
use Rattle.std.proofs.Common.{◌≡◌, ℕ, ◌+◌, inl, List, [], ◌∷◌, length, slice_set, Some, refl, subst, arith}
use Rattle.std.specs.List.{Contains}
use Rattle.cc_base.specs.declared.number.TypeId.{TypeId}
use Rattle.cc_base.specs.declared.number.NodeId.{NodeId}
use Rattle.runs.specs.Control.{Goes}
use Rattle.flat_mem.specs.Bytes.{bytes_at, written}
use Rattle.src_mem.specs.Pointers.{Pointer, Address}
use Rattle.src_mem.specs.State as source
use Rattle.cil_form.specs.declared.number.Temp.{Temp}
use Rattle.cil_form.specs.State as code
use Rattle.cil_form.specs.Typing.{PointerTo, PlaceOf}
use Rattle.cil_form.specs.Told.{IsAsked}
use Rattle.cured_code.specs.FlatState as flat
use Rattle.cured_code.specs.FlatState.{slot}
use Rattle.sim_relation.specs.Ground.{Ground, pointer_words, word_number}
use Rattle.sim_relation.specs.Points.{Known, Knowledge, AreWords, PointerStands, StandsFor, Sure, IsTrueOf}
use Rattle.cure_rules.specs.Slots.{AreSlots}
use Rattle.cure_rules.specs.Known as rules
use Rattle.cure_rules.specs.Known.{Takes, a_pointer, a_place}
use Rattle.sim_laws.specs.Scenes.{Scene, Running, world_of}
use Rattle.sim_laws.specs.Points.{Holds, Grows, There, Point, Fits, Settled, IsPlainType, IsWordFor, ground_of}
use Rattle.sim_laws.proofs.Points.{grows-same}
use Rattle.sim_laws.proofs.Giving.{Gave, Changed, wrote-column, changed-more}

-- A row of slots that is written

pub changed-written : (words slots : List ℕ) (v : ℕ) → Changed (length words) v slots (written words slots v)
unfolding written
changed-written [] slots v = record { others = λ a h. refl; long = refl }
changed-written (n ∷ words) slots v = changed-more (length words) v n slots (written words (slice_set slots v n) (v + 1)) (changed-written words (slice_set slots v n) (v + 1))

-- so many slots from v on have changed, and hold these words
pub record HoldsRow (k v : ℕ) (words slots after : List ℕ) : Type 0 where
  pub changed : Changed k v slots after
  pub is : bytes_at k after v ≡ words

-- what stands for a pointer in the column
stands-in : (gr : Ground) (slots : List ℕ) (v : ℕ) (x : Known) (n : NodeId) (q : Pointer) → x.place ≡ Some v → AreWords (pointer_words gr (gr.kind n) q)
    → bytes_at (word_number (gr.kind n)) slots v ≡ pointer_words gr (gr.kind n) q → ((y : Sure) → Contains x.sure y → IsTrueOf y q)
    → PointerStands gr slots x n q
stands-in gr slots v x n q place words is sure = record {
  words = words;
  in_slots = λ m f. subst (λ (i : ℕ). bytes_at (word_number (gr.kind n)) slots i ≡ pointer_words gr (gr.kind n) q) (let i : v ≡ m = cc (place, f) in i) is;
  sure = sure;
}

-- The states behind an instruction, and what has become of the column.
pub record Comes (w : Scene) (g : AreSlots w.slots) (b : Running) (into : Temp) (l : code.Local) (c : flat.Local) (s : source.State) (d : flat.Local)
    (n : NodeId) (q : Pointer) : Type 0 where
  pub there : There w.programs b s d.state
  pub grows : Grows w.programs b.depth l.state s c.state d.state
  pub takes : Takes (world_of w) into (word_number (w.programs.whole.kind n))
  pub words : AreWords (pointer_words (ground_of w.programs s d.state) (w.programs.whole.kind n) q)
  pub row : HoldsRow (word_number (w.programs.whole.kind n)) (w.slots.column into)
      (pointer_words (ground_of w.programs s d.state) (w.programs.whole.kind n) q) c.slots d.slots

settled-in : (w : Scene) (g : AreSlots w.slots) (into : Temp) (n : NodeId) (x : Known) → Takes (world_of w) into (word_number (w.programs.whole.kind n))
    → x.place ≡ Some (w.slots.column into) → (rules.held_words w.programs.whole x.type ≡ word_number (w.programs.whole.kind n))
    → IsAsked w.programs.sites x.type → IsPlainType x.type → Settled w g.owner into x
settled-in w g into n x takes place long asked plain = record {
  slots = λ a q. inl (
    (let i : a ≡ w.slots.column into = cc (place, q) in i),
    takes.0,
    (let r = takes.1 in omega (arith, r, long)),
  );
  plain = plain;
  asked = asked;
}

gives-row : (w : Scene) (g : AreSlots w.slots) (b : Running) (known after : Knowledge) (into : Temp) (l : code.Local) (c : flat.Local) (s : source.State)
    (d : flat.Local) (n : NodeId) (q : Pointer) (y : Known) → Comes w g b into l c s d n q → y.place ≡ Some (w.slots.column into) → y.sure ≡ []
    → rules.held_words w.programs.whole y.type ≡ word_number (w.programs.whole.kind n) → Holds w.programs s b.depth y.type (Address q)
    → (PointerStands (ground_of w.programs s d.state) d.slots y n q → StandsFor (ground_of w.programs s d.state) d.slots y y.type (Address q))
    → ((m : ℕ) → IsWordFor y.type m) → IsAsked w.programs.sites y.type → IsPlainType y.type → rules.Leaves known into (Some y) after
    → Gave w g b known after into l c (Address q) s Goes d
gives-row w g b known after into l c s d n q y h place none long held as_known word asked plain leave = record {
  goes = refl;
  there = h.there;
  grows = h.grows;
  wrote = wrote-column w g into (word_number (w.programs.whole.kind n)) c.slots d.slots h.takes h.row.changed;
  fact = Some y;
  fits = λ x e. subst (λ (z : Known). Fits w g b into (Address q) s d z) (let i : y ≡ x = cc (e) in i) (record {
    held = held;
    stands = as_known (stands-in (ground_of w.programs s d.state) d.slots (w.slots.column into) y n q place h.words h.row.is
        (λ z m. absurd (none-listed z (subst (λ (zs : List Sure). Contains zs z) none m))));
    word = λ a m. word (slot d a);
    settled = settled-in w g into n y h.takes place long asked plain;
  });
  leave = leave;
}
  where
    none-listed : (z : Sure) → Contains [] z → ⊥
    none-listed z m = let less = m.1 in omega (arith, less)

pub gives-pointer : (w : Scene) (g : AreSlots w.slots) (b : Running) (known after : Knowledge) (into : Temp) (l : code.Local) (c : flat.Local) (s : source.State)
    (d : flat.Local) (n : NodeId) (u : TypeId) (q : Pointer) → Comes w g b into l c s d n q → Holds w.programs s b.depth (PointerTo n u) (Address q)
    → IsAsked w.programs.sites (PointerTo n u) → rules.Leaves known into (Some (a_pointer (w.slots.column into) n u [])) after
    → Gave w g b known after into l c (Address q) s Goes d
gives-pointer w g b known after into l c s d n u q h held asked leave =
    gives-row w g b known after into l c s d n q (a_pointer (w.slots.column into) n u []) h refl refl refl held (λ x. x) (λ m. tt) asked tt leave

pub gives-place : (w : Scene) (g : AreSlots w.slots) (b : Running) (known after : Knowledge) (into : Temp) (l : code.Local) (c : flat.Local) (s : source.State)
    (d : flat.Local) (n : NodeId) (u : TypeId) (q : Pointer) → Comes w g b into l c s d n q → Holds w.programs s b.depth (PlaceOf n u) (Address q)
    → IsAsked w.programs.sites (PlaceOf n u) → rules.Leaves known into (Some (a_place (w.slots.column into) n u [])) after
    → Gave w g b known after into l c (Address q) s Goes d
gives-place w g b known after into l c s d n u q h held asked leave =
    gives-row w g b known after into l c s d n q (a_place (w.slots.column into) n u []) h refl refl refl held (λ x. x) (λ m. tt) asked tt leave

-- where neither memory nor areas have changed
pub comes-same : (w : Scene) (g : AreSlots w.slots) (b : Running) (known : Knowledge) (into : Temp) (l : code.Local) (c : flat.Local) (slots : List ℕ) (n : NodeId)
    (q : Pointer) → Point w g b known l c → Takes (world_of w) into (word_number (w.programs.whole.kind n))
    → AreWords (pointer_words (ground_of w.programs l.state c.state) (w.programs.whole.kind n) q)
    → HoldsRow (word_number (w.programs.whole.kind n)) (w.slots.column into)
    (pointer_words (ground_of w.programs l.state c.state) (w.programs.whole.kind n) q) c.slots slots
    → Comes w g b into l c l.state (record c { slots = slots }) n q
comes-same w g b known into l c slots n q p takes words row = record {
  there = p.there;
  grows = grows-same w.programs b.depth l.state l.state c.state c.state refl refl;
  takes = takes;
  words = words;
  row = row;
}
