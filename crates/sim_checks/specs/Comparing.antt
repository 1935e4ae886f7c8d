-- SAME, compared: two pointers are subtracted, ordered, or tested for equality.
use Rattle.std.specs.Prelude.{◌≡◌, ◌≢◌, ℕ, true, false, ◌∷◌, Option, Some}
use Rattle.cc_base.specs.declared.fault.Check.TheVariants as check
use Rattle.cc_base.specs.declared.kind.Kind.{Kind}
use Rattle.cc_base.specs.declared.kind.Kind.TheVariants.{Seq, Wild}
use Rattle.cc_base.specs.declared.number.TypeId.{TypeId}
use Rattle.cc_base.specs.declared.place.Place.{Place}
use Rattle.c_types.specs.Table.{IsComplete}
use Rattle.c_types.specs.Layouts.{size_of}
use Rattle.c_types.specs.Sound.{IsWellFormed}
use Rattle.c_types.specs.Widths.{cured_size}
use Rattle.src_mem.specs.Pointers.{Pointer}
use Rattle.src_mem.specs.State as source
use Rattle.src_mem.specs.State.{Setting}
use Rattle.src_mem.specs.Checks.{Used, HasBase, AreOfOnePart, AreElementsApart, AreComparable, used_alike, holds}
use Rattle.src_mem.specs.Outlines.{outlines_of, AreOutlines}
use Rattle.flat_mem.specs.Memory.{Memory}
use Rattle.cured_code.specs.FlatState as flat
use Rattle.cured_code.specs.declared.parts.Parts.{Parts}
use Rattle.check_forms.specs.declared.slots.PointerSlots.{PointerSlots}
use Rattle.check_forms.specs.declared.slots.Fixed.{Fixed}
use Rattle.check_forms.specs.Conditions.{AreOfPart, flat_holds}
use Rattle.check_forms.specs.Rows.{all_asked, of_one, elements_apart, equated}
use Rattle.sim_checks.specs.Rows.{IsChecked}
use Rattle.sim_checks.specs.Moving.{all_hold}

abbrev pub used : Kind → Pointer → Used
used kind p = record { kind = kind; pointer = p }

-- an order of SEQ pointers that were made for objects
abbrev pub OrdersAreCompared : Type 0
OrdersAreCompared = (w : Setting) (number_of : TypeId → ℕ) (s : source.State) (c : flat.State) (parts : Parts) (depth : ℕ) (t u : TypeId) (q r : Pointer) (e : ℕ → ℕ)
    (p o : PointerSlots) → AreOutlines w (outlines_of s.memory) → IsChecked w number_of s c depth Seq t q e p → IsChecked w number_of s c depth Seq u r e o
    → holds w s.memory (HasBase q) ≡ true → holds w s.memory (HasBase r) ≡ true
    → flat_holds parts c.memory (AreOfPart p o) e ≡ holds w s.memory (AreOfOnePart (used Seq q) (used Seq r))

-- a difference of such pointers to elements of one size
abbrev pub DifferencesAreCompared : Type 0
DifferencesAreCompared = (w : Setting) (number_of : TypeId → ℕ) (s : source.State) (c : flat.State) (parts : Parts) (depth : ℕ) (t : TypeId) (q r : Pointer) (e : ℕ → ℕ)
    (p o : PointerSlots) (size : Fixed) (at : Place) → IsWellFormed w.table → IsComplete w.table t → AreOutlines w (outlines_of s.memory)
    → size.value ≡ cured_size w.table w.kind t → IsChecked w number_of s c depth Seq t q e p → IsChecked w number_of s c depth Seq t r e o
    → holds w s.memory (HasBase q) ≡ true → holds w s.memory (HasBase r) ≡ true
    → all_hold parts c.memory (all_asked check.Same at (AreOfPart p o ∷ elements_apart p o (Some size))) e
    ≡ holds w s.memory (AreElementsApart (size_of w.table t) (used Seq q) (used Seq r))

-- equality of pointers that are not WILD
abbrev pub EqualitiesAreCompared : Type 0
EqualitiesAreCompared = (w : Setting) (number_of : TypeId → ℕ) (s : source.State) (c : flat.State) (parts : Parts) (depth : ℕ) (kind other : Kind) (t u : TypeId)
    (q r : Pointer) (e : ℕ → ℕ) (p o : PointerSlots) (at : Place) → IsWellFormed w.table → AreOutlines w (outlines_of s.memory)
    → kind ≢ Wild → other ≢ Wild → IsChecked w number_of s c depth kind t q e p → IsChecked w number_of s c depth other u r e o
    → all_hold parts c.memory (all_asked check.Same at (equated kind other p o)) e ≡ holds w s.memory (AreComparable (used kind q) (used other r))

-- An order, or a difference, of pointers that aren't both SEQ or both WILD, as of a SEQ and a WILD one: no part is the part of both, so neither
-- test holds, whatever the pointers.
abbrev pub MixedOrdersAreCompared : Type 0
MixedOrdersAreCompared = (w : Setting) (s : source.State) (m : Memory) (parts : Parts) (kind other : Kind) (q r : Pointer) (e : ℕ → ℕ) (p o : PointerSlots)
    (apart : Option Fixed) (at : Place) (size : ℕ) → used_alike kind other ≡ false
    → (all_hold parts m (all_asked check.Same at (of_one kind other p o ∷ elements_apart p o apart)) e ≡ holds w s.memory (AreOfOnePart (used kind q) (used other r)))
    × (all_hold parts m (all_asked check.Same at (of_one kind other p o ∷ elements_apart p o apart)) e
    ≡ holds w s.memory (AreElementsApart size (used kind q) (used other r)))
