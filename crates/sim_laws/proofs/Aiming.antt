-- A pointer whose words stand in slots that the numbers of checks leave: those of a temporary, or the working slot of an address that was set.
use Rattle.std.proofs.Common.{◌≡◌, ◌≢◌, ◌⊎◌, inl, inr, ℕ, ◌+◌, ◌<◌, Bool, [], ◌∷◌, slice_get, Option, Some, refl, ap, subst, ◌∙◌, arith, sym, true, false, nat_eq, if◌then◌else◌}
use Rattle.cc_base.specs.declared.kind.Kind.{Kind}
use Rattle.cc_base.specs.declared.kind.Kind.TheVariants.{Safe, Seq, Rtti, Wild}
use Rattle.cc_base.specs.declared.number.TypeId.{TypeId}
use Rattle.cc_base.specs.declared.number.NodeId.{NodeId}
use Rattle.c_types.specs.Table.{is_function}
use Rattle.c_types.specs.Layouts.{size_of}
use Rattle.c_types.specs.Widths.{before}
use Rattle.src_mem.specs.Pointers.{Pointer}
use Rattle.src_mem.specs.Outlines.{Outline, outlines_of, lives_of}
use Rattle.src_mem.specs.Facts.{IsHeldIn, IsPlaceIn}
use Rattle.facts_kept.specs.Kept.{AllHold, asked_of}
use Rattle.facts_kept.proofs.Places.{held-place}
use Rattle.cil_form.specs.declared.number.Temp.{Temp}
use Rattle.cil_form.specs.State as code
use Rattle.cured_code.specs.FlatState as flat
use Rattle.cured_code.specs.FlatState.{slot}
use Rattle.check_forms.specs.declared.slots.PointerSlots.{PointerSlots}
use Rattle.check_forms.specs.declared.slots.Fixed.{Fixed}
use Rattle.check_forms.specs.Lines.{IsOther}
use Rattle.check_forms.specs.Rows.{home_slot}
use Rattle.sim_checks.specs.Rows.{AreWordsOf, IsChecked}
use Rattle.sim_relation.specs.Ground.{Ground, address, cells_in, place, word_number}
use Rattle.sim_relation.specs.Points.{Knowledge}
use Rattle.sim_memory.specs.Found.{IsFound}
use Rattle.sim_memory.proofs.Finding.{places-found}
use Rattle.cure_rules.specs.Slots.{AreSlots, Address, Size, slot_of, work_of}
use Rattle.cure_rules.specs.Known.{pointer_slots}
use Rattle.cure_rules.specs.Checks.{need, reach_needs}
use Rattle.sim_laws.specs.Scenes.{Scene, Running, setting_of}
use Rattle.sim_laws.specs.Points.{Point, IsLasting, ground_of}
use Rattle.sim_laws.proofs.Guards.{passed-none, lasting-other, role-other}
use Rattle.sim_laws.proofs.Names.{Names}
use Rattle.sim_laws.proofs.Checks.{IsNoneOf}
use Rattle.sim_laws.proofs.Reaching.{Pointed, IsSlotOf, pointer-slot, checked-words}
use Rattle.sim_laws.proofs.Accessing.{first-of}

pub record Aimed (w : Scene) (g : AreSlots w.slots) (b : Running) (l : code.Local) (c : flat.Local) (s : PointerSlots) (k : Kind) (t : TypeId) : Type 0 where
  pub pointer : Pointer
  pub held : IsHeldIn (setting_of w.programs) l.state.memory b.depth k t pointer
  pub words : AreWordsOf (ground_of w.programs l.state c.state) (slot c) s k pointer
  pub stays : (a : ℕ) → IsSlotOf k s a → IsLasting (g.owner a) ⊎ (a ≡ slot_of w.slots Address)

-- the place of a byte of an object that is there
pub place-at : (gr : Ground) (n i : ℕ) (o : Outline) → slice_get gr.outlines n ≡ Some o → place gr n i ≡ address gr n + before gr.kind o.cells i
place-at gr n i o e = ap (λ (x : Option Outline). address gr n + before gr.kind (cells_in x) i) e

-- Slots of a pointer

pub first-slot : (k : Kind) (s : PointerSlots) → IsSlotOf k s s.first
first-slot Safe s = refl
first-slot Rtti s = inl refl
first-slot Seq s = inl refl
first-slot Wild s = inl refl

pub home-slot : (k : Kind) (s : PointerSlots) → IsSlotOf k s (home_slot k s)
home-slot Safe s = refl
home-slot Rtti s = inl refl
home-slot Seq s = inr (inl refl)
home-slot Wild s = inr refl

pub words-same : (gr : Ground) (k : Kind) (s : PointerSlots) (q : Pointer) (e f : ℕ → ℕ) → ((a : ℕ) → IsSlotOf k s a → f a ≡ e a) → AreWordsOf gr e s k q → AreWordsOf gr f s k q
words-same gr Safe s q e f same h = same s.first refl ∙ h
words-same gr Rtti s q e f same h = (same s.first (inl refl) ∙ h.0, same s.second (inr refl) ∙ h.1)
words-same gr Seq s q e f same h = (same s.first (inl refl) ∙ h.0, same s.second (inr (inl refl)) ∙ h.1, same s.third (inr (inr refl)) ∙ h.2)
words-same gr Wild s q e f same h = (same s.first (inl refl) ∙ h.0, same s.second (inr refl) ∙ h.1)

-- the numbers of BOUNDS leave the address
pub address-spared : (k : Kind) → k ≢ Wild → (size : Fixed) → IsNoneOf Address (reach_needs k size)
address-spared Safe other size = tt
address-spared Rtti other size = tt
address-spared Seq other size = by (nat_eq size.value 1)
  where
    by : (q : Bool) → IsNoneOf Address (if q then [] else need Size size ∷ [])
    by true = tt
    by false = (refl, tt)
address-spared Wild other size = absurd (other refl)

module _ (w : Scene) (g : AreSlots w.slots) (b : Running) (l : code.Local) (c : flat.Local) (s : PointerSlots) (k : Kind) (t : TypeId) (aim : Aimed w g b l c s k t) where
  -- no check writes them
  pub aimed-other : (a : ℕ) → IsSlotOf k s a → IsOther (work_of w.slots) a
  aimed-other a h = by (aim.stays a h)
    where
      by : IsLasting (g.owner a) ⊎ (a ≡ slot_of w.slots Address) → IsOther (work_of w.slots) a
      by (inl lasts) = lasting-other w g a lasts
      by (inr is) = subst (IsOther (work_of w.slots)) (sym is) (role-other w Address (omega arith))

  -- it is checked wherever its slots are as they were
  pub aimed-checked : (known : Knowledge) → Point w g b known l c → (d : flat.Local) → ((a : ℕ) → IsSlotOf k s a → slot d a ≡ slot c a)
      → IsChecked (setting_of w.programs) w.programs.whole.node l.state c.state b.depth k t aim.pointer (slot d) s
  aimed-checked known p d same = record {
    related = p.there.related;
    held = aim.held;
    words = words-same (ground_of w.programs l.state c.state) k s aim.pointer (slot c) (slot d) same aim.words;
  }

  -- behind its check it is a place
  pub aimed-place : (names : Names w) → is_function w.programs.whole.table t ≡ false
      → AllHold (setting_of w.programs) l.state.memory (asked_of (size_of w.programs.whole.table t) k aim.pointer) → IsPlaceIn (setting_of w.programs) l.state.memory b.depth k t aim.pointer
  aimed-place names data_type holds = held-place (setting_of w.programs) names.solved.well_formed (outlines_of l.state.memory) (lives_of l.state.memory) b.depth l.state.memory k t
      aim.pointer data_type aim.held holds

  -- and both machines find the same there
  pub aimed-found : (names : Names w) → k ≢ Wild → (known : Knowledge) → Point w g b known l c → (d : flat.Local) → d.state ≡ c.state → slot d s.first ≡ slot c s.first
      → IsPlaceIn (setting_of w.programs) l.state.memory b.depth k t aim.pointer
      → IsFound (setting_of w.programs) w.programs.whole.node l.state d.state t aim.pointer (slot d s.first)
  aimed-found names plain known p d state same placed =
      subst (λ (x : flat.State). IsFound (setting_of w.programs) w.programs.whole.node l.state x t aim.pointer (slot d s.first)) (sym state)
      (subst (λ (n : ℕ). IsFound (setting_of w.programs) w.programs.whole.node l.state c.state t aim.pointer n)
      (sym (same ∙ first-of (ground_of w.programs l.state c.state) (slot c) s k aim.pointer aim.words))
      (places-found (setting_of w.programs) w.programs.whole.node l.state c.state b.depth k t aim.pointer names.solved.well_formed plain p.there.related aim.held placed))

-- a pointer that a temporary holds
unfoldable pub aimed-pointer : (w : Scene) (g : AreSlots w.slots) (b : Running) (known : Knowledge) (l : code.Local) (c : flat.Local) → Point w g b known l c → (t : Temp) (n : NodeId)
    (u : TypeId) (a : ℕ) → Pointed w g b l c t n u a → Aimed w g b l c (pointer_slots a) (w.programs.whole.kind n) u
aimed-pointer w g b known l c p t n u a m = record {
  pointer = m.pointer;
  held = m.held.held;
  words = (checked-words w g b known l c c p (passed-none w g c.slots) t n u a m).words;
  stays = λ i h. inl (of i (pointer-slot (w.programs.whole.kind n) a i h));
}
  where
    of : (i : ℕ) → (j : ℕ) × (j < word_number (w.programs.whole.kind n)) × (a + j ≡ i) → IsLasting (g.owner i)
    of i (j, less, is) = subst (λ (x : ℕ). IsLasting (g.owner x)) is (m.lasting j less)
