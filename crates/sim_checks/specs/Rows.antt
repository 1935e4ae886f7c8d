-- What each check of cured code compares has the value of C's condition: one statement for each row, over related states and slots that hold
-- the words of what is compared.
use Rattle.std.specs.Prelude.{◌≡◌, ◌⊎◌, ℕ, ◌^◌, ℤ, ◌-◌, ◌<◌, length, slice_get, Some, true, false}
use Rattle.std.specs.List.{list_all}
use Rattle.cc_base.specs.declared.kind.Kind.{Kind}
use Rattle.cc_base.specs.declared.kind.Kind.TheVariants.{Safe, Seq, Rtti, Wild}
use Rattle.cc_base.specs.declared.number.TypeId.{TypeId}
use Rattle.c_types.specs.Table.{IsComplete}
use Rattle.c_types.specs.Layouts.{size_of}
use Rattle.c_types.specs.Equality.{cells_of}
use Rattle.c_types.specs.Widths.{cured_size}
use Rattle.c_types.specs.Sound.{IsWellFormed}
use Rattle.flat_mem.specs.Bytes.{IsAccessSize}
use Rattle.flat_mem.specs.Placement.{function_address}
use Rattle.flat_mem.specs.Memory.{Memory, depth_of}
use Rattle.wild_tags.specs.Words.{length_at}
use Rattle.integers.specs.Arithmetic.{IntegerType, converted, least}
use Rattle.integers.specs.Words.{word}
use Rattle.src_mem.specs.Pointers.{Pointer}
use Rattle.src_mem.specs.Memory.{Object}
use Rattle.src_mem.specs.State as source
use Rattle.src_mem.specs.State.{Setting, Defined}
use Rattle.src_mem.specs.Checks.{NotNull, HasBase, InBounds, Outlives, CanDivide, null_or_in_bounds, holds}
use Rattle.src_mem.specs.Facts.{IsHeldIn, RepeatType}
use Rattle.cured_code.specs.FlatState as flat
use Rattle.cured_code.specs.declared.parts.Parts.{Parts}
use Rattle.check_forms.specs.declared.slots.PointerSlots.{PointerSlots}
use Rattle.check_forms.specs.declared.slots.Fixed.{Fixed}
use Rattle.check_forms.specs.Conditions.{IsNotZero, IsNoDeeper, IsNoOverflow, UnlessNull, Both, flat_holds}
use Rattle.check_forms.specs.Rows.{home_slot, in_part}
use Rattle.sim_relation.specs.Ground.{Ground, address, function_word, first_word, second_word, third_word}
use Rattle.sim_relation.specs.Related.{Related, ground_of}

-- the slots hold the words of a pointer of this kind
abbrev pub AreWordsOf : Ground → (ℕ → ℕ) → PointerSlots → Kind → Pointer → Type 0
AreWordsOf g e p Safe q = e p.first ≡ first_word g Safe q
AreWordsOf g e p Rtti q = (e p.first ≡ first_word g Rtti q) × (e p.second ≡ second_word g Rtti q)
AreWordsOf g e p Seq q = (e p.first ≡ first_word g Seq q) × (e p.second ≡ second_word g Seq q) × (e p.third ≡ third_word g q)
AreWordsOf g e p Wild q = (e p.first ≡ first_word g Wild q) × (e p.second ≡ second_word g Wild q)

-- Two states in which a pointer is checked: they are related, a call of this depth may hold the pointer, and its words stand in the slots.
pub record IsChecked (w : Setting) (number_of : TypeId → ℕ) (s : source.State) (c : flat.State) (depth : ℕ) (kind : Kind) (t : TypeId) (q : Pointer)
    (e : ℕ → ℕ) (p : PointerSlots) : Type 0 where
  pub related : Related w number_of s c
  pub held : IsHeldIn w s.memory depth kind t q
  pub words : AreWordsOf (ground_of w number_of s c) e p kind q

-- NULL: SAFE and RTTI pointers
abbrev pub NullIsCompared : Type 0
NullIsCompared = (w : Setting) (number_of : TypeId → ℕ) (s : source.State) (c : flat.State) (parts : Parts) (depth : ℕ) (kind : Kind) (t : TypeId) (q : Pointer)
    (e : ℕ → ℕ) (p : PointerSlots) → (kind ≡ Safe) ⊎ (kind ≡ Rtti) → IsChecked w number_of s c depth kind t q e p
    → flat_holds parts c.memory (IsNotZero p.first) e ≡ holds w s.memory (NotNull q)

-- BASE: SEQ pointers
abbrev pub BaseIsCompared : Type 0
BaseIsCompared = (w : Setting) (number_of : TypeId → ℕ) (s : source.State) (c : flat.State) (parts : Parts) (depth : ℕ) (t : TypeId) (q : Pointer)
    (e : ℕ → ℕ) (p : PointerSlots) → IsChecked w number_of s c depth Seq t q e p
    → flat_holds parts c.memory (IsNotZero p.second) e ≡ holds w s.memory (HasBase q)

-- BOUNDS: SEQ pointers to what has a size
abbrev pub BoundsAreCompared : Type 0
BoundsAreCompared = (w : Setting) (number_of : TypeId → ℕ) (s : source.State) (c : flat.State) (parts : Parts) (depth : ℕ) (t : TypeId) (q : Pointer)
    (e : ℕ → ℕ) (p : PointerSlots) (size : Fixed) → IsWellFormed w.table → IsComplete w.table t → size.value ≡ cured_size w.table w.kind t
    → IsChecked w number_of s c depth Seq t q e p
    → flat_holds parts c.memory (in_part p size) e ≡ holds w s.memory (InBounds (size_of w.table t) q)

-- BOUNDS of a SEQ pointer that becomes one of one word, where it isn't null: as much has to be there as the new pointer points to, with which the
-- endless repetition of what the old one points to begins
abbrev pub ShrinkingIsCompared : Type 0
ShrinkingIsCompared = (w : Setting) (number_of : TypeId → ℕ) (s : source.State) (c : flat.State) (parts : Parts) (depth : ℕ) (t u : TypeId) (q : Pointer)
    (e : ℕ → ℕ) (p : PointerSlots) (size : Fixed) → IsWellFormed w.table → IsComplete w.table t → IsComplete w.table u
    → RepeatType w (cells_of w.table u) 0 (length (cells_of w.table u)) t → size.value ≡ cured_size w.table w.kind u
    → IsChecked w number_of s c depth Seq t q e p
    → flat_holds parts c.memory (UnlessNull p (in_part p size)) e ≡ list_all (holds w s.memory) (null_or_in_bounds (size_of w.table u) q)

-- The same where it is a conversion to a pointer to what has no size, or from one, as `void`: of no bytes, it has to stand in its part or at
-- the end.
abbrev pub UnsizedShrinkingIsCompared : Type 0
UnsizedShrinkingIsCompared = (w : Setting) (number_of : TypeId → ℕ) (s : source.State) (c : flat.State) (parts : Parts) (depth : ℕ) (t : TypeId) (q : Pointer)
    (e : ℕ → ℕ) (p : PointerSlots) (size : Fixed) → IsWellFormed w.table → size.value ≡ 0 → IsChecked w number_of s c depth Seq t q e p
    → flat_holds parts c.memory (UnlessNull p (in_part p size)) e ≡ list_all (holds w s.memory) (null_or_in_bounds 0 q)

-- the addresses of functions are in no frame
abbrev pub AreFunctionsApart : Setting → Memory → Type 0
AreFunctionsApart w m = (f : ℕ) (d : Defined) → slice_get w.functions f ≡ Some d → depth_of m (function_word f) ≡ 0

-- What the flat machine has where functions are: the word before each is 0, no frame has them, and areas of objects lie beyond them.
pub record AreFunctionsLaid (w : Setting) (number_of : TypeId → ℕ) (s : source.State) (c : flat.State) : Type 0 where
  pub few : function_address (length w.functions) < 2 ^ 32
  pub empty : (f : ℕ) (d : Defined) → slice_get w.functions f ≡ Some d → length_at c.memory.bytes (function_word f) ≡ 0
  pub apart : AreFunctionsApart w c.memory
  pub beyond : (k : ℕ) (o : Object) → slice_get s.memory.objects k ≡ Some o → o.live ≡ true
      → function_address (length w.functions) < address (ground_of w number_of s c) k

-- ESCAPE: a pointer is stored through another
abbrev pub EscapeIsCompared : Type 0
EscapeIsCompared = (w : Setting) (number_of : TypeId → ℕ) (s : source.State) (c : flat.State) (parts : Parts) (depth : ℕ) (kind other : Kind) (t u : TypeId)
    (q target : Pointer) (e : ℕ → ℕ) (p to : PointerSlots) → AreFunctionsApart w c.memory
    → IsChecked w number_of s c depth kind t q e p → IsChecked w number_of s c depth other u target e to
    → flat_holds parts c.memory (IsNoDeeper (home_slot kind p) (home_slot other to)) e ≡ holds w s.memory (Outlives target q)

-- DIVIDE: an unsigned quotient, and a signed one

abbrev pub UnsignedDivisionIsCompared : Type 0
UnsignedDivisionIsCompared = (w : Setting) (s : source.State) (m : Memory) (parts : Parts) (i : IntegerType) (x y : ℤ) (e : ℕ → ℕ) (b : ℕ)
    → IsAccessSize i.bytes → i.signed ≡ false → converted i y ≡ y → e b ≡ word y
    → flat_holds parts m (IsNotZero b) e ≡ holds w s.memory (CanDivide i x y)

abbrev pub SignedDivisionIsCompared : Type 0
SignedDivisionIsCompared = (w : Setting) (s : source.State) (m : Memory) (parts : Parts) (i : IntegerType) (x y : ℤ) (e : ℕ → ℕ) (a b : ℕ) (low minus_one : Fixed)
    → IsAccessSize i.bytes → i.signed ≡ true → converted i x ≡ x → converted i y ≡ y → e a ≡ word x → e b ≡ word y
    → low.value ≡ word (least i) → minus_one.value ≡ 2 ^ 64 - 1
    → flat_holds parts m (Both (IsNotZero b) (IsNoOverflow a b low minus_one)) e ≡ holds w s.memory (CanDivide i x y)
