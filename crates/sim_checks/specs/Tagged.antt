-- The rows of WILD pointers, compared: WBOUNDS, BASE, ALIGN, TAG, SAME.
use Rattle.std.specs.Prelude.{◌≡◌, ◌≢◌, ℕ, ◌<◌, ◌^◌, true, List, ◌∷◌, length, Some}
use Rattle.std.specs.List.{list_all}
use Rattle.cc_base.specs.declared.fault.Check.TheVariants as check
use Rattle.cc_base.specs.declared.kind.Kind.{Kind}
use Rattle.cc_base.specs.declared.kind.Kind.TheVariants.{Wild}
use Rattle.cc_base.specs.declared.number.TypeId.{TypeId}
use Rattle.cc_base.specs.declared.place.Place.{Place}
use Rattle.kind_sites.specs.declared.site.Site.{Site}
use Rattle.c_types.specs.Table.{IsComplete}
use Rattle.c_types.specs.Layouts.{size_of}
use Rattle.c_types.specs.Sound.{IsWellFormed}
use Rattle.flat_mem.specs.Placement.{function_address}
use Rattle.src_mem.specs.Pointers.{Pointer}
use Rattle.src_mem.specs.State as source
use Rattle.src_mem.specs.State.{Setting}
use Rattle.src_mem.specs.Checks.{HasBase, InObject, HoldsNone, AreOfOnePart, AreElementsApart, AreComparable, Keep, conditions_of, holds}
use Rattle.src_mem.specs.Uses.{pointers_behind}
use Rattle.src_mem.specs.Checks as conditions
use Rattle.src_mem.specs.Facts.{IsSoundMemory}
use Rattle.src_mem.specs.Outlines.{outlines_of, AreOutlines}
use Rattle.cured_code.specs.FlatState as flat
use Rattle.cured_code.specs.declared.parts.Parts.{Parts}
use Rattle.check_forms.specs.declared.slots.PointerSlots.{PointerSlots}
use Rattle.check_forms.specs.declared.slots.Fixed.{Fixed}
use Rattle.check_forms.specs.Conditions.{IsArea, IsAligned, HoldsNoPointer, HoldsPointer, AreNoDeeper, AreOfArea, flat_holds}
use Rattle.check_forms.specs.Rows.{all_asked, elements_apart, equated, reached}
use Rattle.sim_checks.specs.Rows.{IsChecked, AreFunctionsApart, AreFunctionsLaid}
use Rattle.sim_checks.specs.Moving.{all_hold}
use Rattle.sim_checks.specs.Comparing.{used}

-- WBOUNDS: so many bytes lie in the object
abbrev pub WildBoundsAreCompared : Type 0
WildBoundsAreCompared = (w : Setting) (number_of : TypeId → ℕ) (s : source.State) (c : flat.State) (parts : Parts) (depth : ℕ) (t : TypeId) (q : Pointer) (e : ℕ → ℕ)
    (p : PointerSlots) (size : Fixed) (at : Place) → AreFunctionsLaid w number_of s c → 0 < size.value → size.value < 2 ^ 40
    → IsChecked w number_of s c depth Wild t q e p
    → all_hold parts c.memory (reached Wild p size at) e ≡ holds w s.memory (InObject size.value q)

-- BASE: the base is no function's, and isn't 0
abbrev pub WildBaseIsCompared : Type 0
WildBaseIsCompared = (w : Setting) (number_of : TypeId → ℕ) (s : source.State) (c : flat.State) (parts : Parts) (depth : ℕ) (t : TypeId) (q : Pointer) (e : ℕ → ℕ)
    (p : PointerSlots) (last : Fixed) → AreFunctionsLaid w number_of s c → last.value ≡ function_address (length w.functions)
    → IsChecked w number_of s c depth Wild t q e p
    → flat_holds parts c.memory (IsArea p.second last) e ≡ holds w s.memory (HasBase q)

-- ALIGN, of a pointer that was made for an object
abbrev pub AlignmentIsCompared : Type 0
AlignmentIsCompared = (w : Setting) (number_of : TypeId → ℕ) (s : source.State) (c : flat.State) (parts : Parts) (depth : ℕ) (t : TypeId) (q : Pointer) (e : ℕ → ℕ)
    (p : PointerSlots) (seven : ℕ) → IsChecked w number_of s c depth Wild t q e p → holds w s.memory (HasBase q) ≡ true
    → flat_holds parts c.memory (IsAligned p.first seven) e ≡ holds w s.memory (conditions.IsAligned q)

-- TAG of what is no pointer, and of a pointer, in the object
abbrev pub PlainIsCompared : Type 0
PlainIsCompared = (w : Setting) (sites : List Site) (number_of : TypeId → ℕ) (s : source.State) (c : flat.State) (parts : Parts) (depth : ℕ) (t : TypeId) (q : Pointer)
    (e : ℕ → ℕ) (p : PointerSlots) (n : ℕ) → IsSoundMemory w sites s.memory → 0 < n → IsChecked w number_of s c depth Wild t q e p
    → holds w s.memory (InObject n q) ≡ true
    → flat_holds parts c.memory (HoldsNoPointer p n) e ≡ holds w s.memory (HoldsNone n q)

abbrev pub TagIsCompared : Type 0
TagIsCompared = (w : Setting) (number_of : TypeId → ℕ) (s : source.State) (c : flat.State) (parts : Parts) (depth : ℕ) (t : TypeId) (q : Pointer)
    (e : ℕ → ℕ) (p : PointerSlots) (eight : ℕ) → IsChecked w number_of s c depth Wild t q e p
    → holds w s.memory (InObject 8 q) ≡ true → holds w s.memory (conditions.IsAligned q) ≡ true
    → flat_holds parts c.memory (HoldsPointer p eight) e ≡ holds w s.memory (conditions.HoldsPointer q)

-- SAME: an order, a difference in elements of any size, and equality
abbrev pub WildOrdersAreCompared : Type 0
WildOrdersAreCompared = (w : Setting) (number_of : TypeId → ℕ) (s : source.State) (c : flat.State) (parts : Parts) (depth : ℕ) (t u : TypeId) (q r : Pointer) (e : ℕ → ℕ)
    (p o : PointerSlots) → IsChecked w number_of s c depth Wild t q e p → IsChecked w number_of s c depth Wild u r e o
    → holds w s.memory (HasBase q) ≡ true → holds w s.memory (HasBase r) ≡ true
    → flat_holds parts c.memory (AreOfArea p o) e ≡ holds w s.memory (AreOfOnePart (used Wild q) (used Wild r))

abbrev pub WildDifferencesAreCompared : Type 0
WildDifferencesAreCompared = (w : Setting) (number_of : TypeId → ℕ) (s : source.State) (c : flat.State) (parts : Parts) (depth : ℕ) (t u : TypeId) (q r : Pointer)
    (e : ℕ → ℕ) (p o : PointerSlots) (size : Fixed) (at : Place) → IsWellFormed w.table → IsComplete w.table t → size.value ≡ size_of w.table t
    → IsChecked w number_of s c depth Wild t q e p → IsChecked w number_of s c depth Wild u r e o
    → holds w s.memory (HasBase q) ≡ true → holds w s.memory (HasBase r) ≡ true
    → all_hold parts c.memory (all_asked check.Same at (AreOfArea p o ∷ elements_apart p o (Some size))) e
    ≡ holds w s.memory (AreElementsApart (size_of w.table t) (used Wild q) (used Wild r))

abbrev pub WildEqualitiesAreCompared : Type 0
WildEqualitiesAreCompared = (w : Setting) (number_of : TypeId → ℕ) (s : source.State) (c : flat.State) (parts : Parts) (depth : ℕ) (t u : TypeId) (q r : Pointer)
    (e : ℕ → ℕ) (p o : PointerSlots) (at : Place) → AreFunctionsLaid w number_of s c → IsChecked w number_of s c depth Wild t q e p
    → IsChecked w number_of s c depth Wild u r e o
    → all_hold parts c.memory (all_asked check.Same at (equated Wild Wild p o)) e ≡ holds w s.memory (AreComparable (used Wild q) (used Wild r))

-- equality of a WILD pointer and one that isn't, in either order
abbrev pub MixedEqualitiesAreCompared : Type 0
MixedEqualitiesAreCompared = (w : Setting) (number_of : TypeId → ℕ) (s : source.State) (c : flat.State) (parts : Parts) (depth : ℕ) (other : Kind) (t u : TypeId)
    (q r : Pointer) (e : ℕ → ℕ) (p o : PointerSlots) (at : Place) → IsWellFormed w.table → AreOutlines w (outlines_of s.memory)
    → AreFunctionsLaid w number_of s c → other ≢ Wild
    → IsChecked w number_of s c depth Wild t q e p → IsChecked w number_of s c depth other u r e o
    → (all_hold parts c.memory (all_asked check.Same at (equated Wild other p o)) e ≡ holds w s.memory (AreComparable (used Wild q) (used other r)))
    × (all_hold parts c.memory (all_asked check.Same at (equated other Wild o p)) e ≡ holds w s.memory (AreComparable (used other r) (used Wild q)))

-- ESCAPE of the pointers that a copy from a WILD pointer brings along: each that is stored in so many bytes of its object lives as long as
-- the target's object
abbrev pub WildCopiesAreCompared : Type 0
WildCopiesAreCompared = (w : Setting) (sites : List Site) (number_of : TypeId → ℕ) (s : source.State) (c : flat.State) (parts : Parts) (depth : ℕ) (t u : TypeId)
    (q r : Pointer) (e : ℕ → ℕ) (p o : PointerSlots) (n : ℕ) → AreFunctionsApart w c.memory → IsSoundMemory w sites s.memory → 0 < n
    → IsChecked w number_of s c depth Wild t q e p → IsChecked w number_of s c depth Wild u r e o
    → holds w s.memory (InObject n q) ≡ true → holds w s.memory (conditions.IsAligned q) ≡ true
    → flat_holds parts c.memory (AreNoDeeper p n o.second) e ≡ list_all (holds w s.memory) (conditions_of (Keep (pointers_behind s.memory.objects q n)) Wild r)
