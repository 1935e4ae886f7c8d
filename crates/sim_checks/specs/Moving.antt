-- RANGE, compared: a pointer is moved by so many elements.
use Rattle.std.specs.Prelude.{◌≡◌, ℕ, ◌+◌, ◌*◌, ◌/◌, ◌^◌, ◌≤◌, ℤ, pos, neg_ℤ, ◌*ℤ◌, Bool, true, false, ◌&&◌, List, [], ◌∷◌, ◌++◌}
use Rattle.cc_base.specs.declared.kind.Kind.TheVariants.{Seq, Wild}
use Rattle.cc_base.specs.declared.number.TypeId.{TypeId}
use Rattle.cc_base.specs.declared.place.Place.{Place}
use Rattle.c_types.specs.Table.{IsComplete}
use Rattle.c_types.specs.Layouts.{size_of}
use Rattle.c_types.specs.Sound.{IsWellFormed}
use Rattle.c_types.specs.Widths.{cured_size}
use Rattle.flat_mem.specs.Bytes.{IsAccessSize}
use Rattle.flat_mem.specs.Memory.{Memory}
use Rattle.integers.specs.Words.{word}
use Rattle.integers.specs.Arithmetic.{IntegerType, converted}
use Rattle.src_mem.specs.Pointers.{Pointer}
use Rattle.src_mem.specs.State as source
use Rattle.src_mem.specs.State.{Setting}
use Rattle.src_mem.specs.Checks.{HasBase, InSequence, InReach, holds}
use Rattle.cured_code.specs.FlatState as flat
use Rattle.cured_code.specs.declared.parts.Parts.{Parts}
use Rattle.check_forms.specs.declared.slots.PointerSlots.{PointerSlots}
use Rattle.check_forms.specs.declared.slots.Distance.{Distance}
use Rattle.check_forms.specs.declared.slots.Distance.TheVariants.{Bytes, Elements}
use Rattle.check_forms.specs.declared.slots.Direction.{Direction}
use Rattle.check_forms.specs.declared.slots.Direction.TheVariants.{Forward, Backward}
use Rattle.check_forms.specs.declared.op.Factor.{Factor}
use Rattle.check_forms.specs.declared.op.Factor.TheVariants.{Any, Signed, Unsigned}
use Rattle.check_forms.specs.declared.op.Reach.{Reach}
use Rattle.check_forms.specs.Conditions.{flat_holds}
use Rattle.check_forms.specs.Rows.{Asked, factor_asked, near}
use Rattle.sim_checks.specs.Rows.{IsChecked}

-- all of these hold
abbrev pub all_hold : Parts → Memory → List Asked → (ℕ → ℕ) → Bool
all_hold parts m [] e = true
all_hold parts m (a ∷ rest) e = flat_holds parts m a.condition e && all_hold parts m rest e

-- by how many elements a pointer moves
abbrev pub steps : Direction → ℤ → ℤ
steps Forward z = z
steps Backward z = neg_ℤ z

-- The numbers that a move of so many elements of this size compares with: of an integer of more than 32 bits, what keeps its product exact;
-- the product; and how far it may bring the pointer.

abbrev pub IsFactor : IntegerType → ℕ → Factor → Type 0
IsFactor i size Any = i.bytes ≤ 4
IsFactor i size (Signed least span) = (i.signed ≡ true) × (least.value ≡ 2 ^ 62 / size) × (span.value ≡ 2 * (2 ^ 62 / size) + 1)
IsFactor i size (Unsigned bound) = (i.signed ≡ false) × (bound.value ≡ 2 ^ 62 / size + 1)

abbrev pub IsDistance : ℕ → ℕ → Distance → Type 0
IsDistance n size (Bytes m) = (m ≡ n) × (size ≡ 1)
IsDistance n size (Elements m f) = (m ≡ n) × (f.value ≡ size)

-- An integer of this type in slot n, by which a pointer to elements of this size is moved.
pub record IsMoved (i : IntegerType) (z : ℤ) (size n : ℕ) (factor : Factor) (distance : Distance) (e : ℕ → ℕ) : Type 0 where
  pub bytes : IsAccessSize i.bytes
  pub fits : converted i z ≡ z
  pub stands : e n ≡ word z
  pub factored : IsFactor i size factor
  pub apart : IsDistance n size distance

-- RANGE: SEQ pointers that were made for an object
abbrev pub MovesAreCompared : Type 0
MovesAreCompared = (w : Setting) (number_of : TypeId → ℕ) (s : source.State) (c : flat.State) (parts : Parts) (depth : ℕ) (t : TypeId) (q : Pointer) (e : ℕ → ℕ)
    (p : PointerSlots) (i : IntegerType) (z : ℤ) (way : Direction) (n : ℕ) (factor : Factor) (distance : Distance) (reach : Reach) (at : Place)
    → IsWellFormed w.table → IsComplete w.table t → IsChecked w number_of s c depth Seq t q e p → holds w s.memory (HasBase q) ≡ true
    → IsMoved i z (cured_size w.table w.kind t) n factor distance e
    → reach.least.value ≡ 2 ^ 31 * cured_size w.table w.kind t
    → reach.span.value ≡ 2 ^ 32 * cured_size w.table w.kind t + cured_size w.table w.kind t
    → all_hold parts c.memory (factor_asked factor n at ++ near p way distance reach at ∷ []) e
    ≡ holds w s.memory (InSequence (size_of w.table t) (steps way z) q)

-- RANGE: WILD ones, by bytes
abbrev pub WildMovesAreCompared : Type 0
WildMovesAreCompared = (w : Setting) (number_of : TypeId → ℕ) (s : source.State) (c : flat.State) (parts : Parts) (depth : ℕ) (t : TypeId) (q : Pointer) (e : ℕ → ℕ)
    (p : PointerSlots) (i : IntegerType) (z : ℤ) (way : Direction) (n : ℕ) (factor : Factor) (distance : Distance) (reach : Reach) (at : Place)
    → IsWellFormed w.table → IsComplete w.table t → IsChecked w number_of s c depth Wild t q e p → holds w s.memory (HasBase q) ≡ true
    → IsMoved i z (size_of w.table t) n factor distance e → reach.least.value ≡ 2 ^ 40 → reach.span.value ≡ 2 ^ 41 + 1
    → all_hold parts c.memory (factor_asked factor n at ++ near p way distance reach at ∷ []) e
    ≡ holds w s.memory (InReach (steps way z *ℤ pos (size_of w.table t)) q)

-- RANGE of the address of a member, or of an array that decays, so many bytes behind where a WILD pointer stands that was made for an object
abbrev pub WildPartsAreCompared : Type 0
WildPartsAreCompared = (w : Setting) (number_of : TypeId → ℕ) (s : source.State) (c : flat.State) (parts : Parts) (depth : ℕ) (t : TypeId) (q : Pointer) (e : ℕ → ℕ)
    (p : PointerSlots) (offset n : ℕ) (reach : Reach) (at : Place)
    → IsChecked w number_of s c depth Wild t q e p → holds w s.memory (HasBase q) ≡ true → offset ≤ 2 ^ 62 → e n ≡ offset
    → reach.least.value ≡ 2 ^ 40 → reach.span.value ≡ 2 ^ 41 + 1
    → all_hold parts c.memory (near p Forward (Bytes n) reach at ∷ []) e ≡ holds w s.memory (InReach (pos offset) q)
