-- CAST, FUN, DEPTH, ESCAPE of a return, and BOUNDS of an allocation, compared. What the tables of the cured program say is a premise.
use Rattle.std.specs.Prelude.{◌≡◌, ◌≢◌, ◌⊎◌, ℕ, suc, ◌+◌, ◌*◌, ◌<◌, ◌≤◌, true, ◌&&◌, length, nat_eq, nat_lt, nat_le, slice_get, Some, List}
use Rattle.std.specs.List.{list_all}
use Rattle.cc_base.specs.declared.kind.Kind.{Kind}
use Rattle.cc_base.specs.declared.kind.Kind.TheVariants.{Rtti, Wild}
use Rattle.cc_base.specs.declared.number.TypeId.{TypeId}
use Rattle.cc_base.specs.declared.place.Place.{Place}
use Rattle.c_types.specs.Layouts.{size_of}
use Rattle.c_types.specs.Coverage.{covers, of_one_class}
use Rattle.c_types.specs.Widths.{cured_size}
use Rattle.flat_mem.specs.declared.Area.{Area}
use Rattle.flat_mem.specs.Placement.{areas_size}
use Rattle.flat_mem.specs.Memory.{Memory, fits, frame_area}
use Rattle.src_mem.specs.Pointers.{Location, Pointer, Null, At, Function}
use Rattle.src_mem.specs.Memory.{Object}
use Rattle.src_mem.specs.State as source
use Rattle.src_mem.specs.State.{Setting, Defined}
use Rattle.src_mem.specs.Primitives.{block_pointer}
use Rattle.src_mem.specs.Checks.{IsMadeFor, IsNotOfFrame, IsFunctionOf, HasRoom, depth_limit, source_frame_limit, has_room, conditions_of_allocation, holds}
use Rattle.cured_code.specs.FlatState as flat
use Rattle.cured_code.specs.declared.parts.Parts.{Parts}
use Rattle.cured_code.specs.Tables.{call_fits, is_below, sig_word}
use Rattle.check_forms.specs.declared.slots.PointerSlots.{PointerSlots}
use Rattle.check_forms.specs.declared.slots.Fixed.{Fixed}
use Rattle.check_forms.specs.Conditions as condition
use Rattle.check_forms.specs.Conditions.{IsNotOwn, Unless, flat_holds}
use Rattle.check_forms.specs.Rows.{home_slot, allocated}
use Rattle.sim_relation.specs.Ground.{address, function_word}
use Rattle.sim_relation.specs.Related.{Related, ground_of}
use Rattle.sim_checks.specs.Rows.{IsChecked, AreFunctionsApart, AreFunctionsLaid}
use Rattle.sim_checks.specs.Moving.{all_hold}

-- CAST: an RTTI pointer, where a type node lies below another exactly where its type covers the other one's
abbrev pub CastsAreCompared : Type 0
CastsAreCompared = (w : Setting) (number_of : TypeId → ℕ) (s : source.State) (c : flat.State) (parts : Parts) (depth : ℕ) (t u : TypeId) (q : Pointer) (e : ℕ → ℕ)
    (p : PointerSlots) (node : ℕ) → ((l : Location) → q ≡ At l → is_below parts.nodes (number_of l.made) node ≡ covers w.table w.kind l.made u)
    → IsChecked w number_of s c depth Rtti t q e p
    → flat_holds parts c.memory (Unless p.first (condition.IsMadeFor p.second node)) e ≡ holds w s.memory (IsMadeFor u q)

-- ESCAPE of a return, where the call has variables: the first of them has the first area of the newest frame
abbrev pub ReturnsAreCompared : Type 0
ReturnsAreCompared = (w : Setting) (number_of : TypeId → ℕ) (s : source.State) (c : flat.State) (parts : Parts) (depth : ℕ) (kind : Kind) (t : TypeId) (q : Pointer)
    (e : ℕ → ℕ) (p : PointerSlots) (k : ℕ) (o : Object) → AreFunctionsApart w c.memory → 0 < depth → slice_get s.memory.objects k ≡ Some o → o.live ≡ true
    → o.depth ≡ depth → frame_area c.memory 0 ≡ address (ground_of w number_of s c) k → IsChecked w number_of s c depth kind t q e p
    → flat_holds parts c.memory (IsNotOwn (home_slot kind p)) e ≡ holds w s.memory (IsNotOfFrame depth q)

-- The stack has room for a frame exactly where C has. The region has three bytes for each that frames may be charged.
abbrev pub FramesFitAlike : Type 0
FramesFitAlike = (w : Setting) (number_of : TypeId → ℕ) (s : source.State) (c : flat.State) (areas : List Area) (charge depth : ℕ) → Related w number_of s c
    → length c.memory.frames ≡ depth → c.memory.bounds.stack_limit ≡ source_frame_limit → c.memory.bounds.stack_end ≡ c.memory.bounds.stack_start + 3 * source_frame_limit
    → areas_size areas ≤ 3 * charge
    → fits c.memory areas charge ≡ (nat_lt depth depth_limit && nat_le (s.memory.frame_bytes + charge) source_frame_limit)

-- DEPTH: a call of a function, whose frame fits exactly where C has room for it
abbrev pub RoomIsCompared : Type 0
RoomIsCompared = (w : Setting) (s : source.State) (m : Memory) (parts : Parts) (depth f a : ℕ) (d : Defined) (e : ℕ → ℕ) → slice_get w.functions f ≡ Some d
    → length parts.functions ≡ suc (length w.functions) → e a ≡ function_word f
    → call_fits parts (suc f) m ≡ has_room w s.memory depth d
    → flat_holds parts m (condition.HasRoom a) e ≡ holds w s.memory (HasRoom depth (Function f))

-- FUN: a WILD pointer, where the signatures of functions are told apart by one more than their numbers
abbrev pub FunctionsAreCompared : Type 0
FunctionsAreCompared = (w : Setting) (number_of : TypeId → ℕ) (s : source.State) (c : flat.State) (parts : Parts) (depth : ℕ) (t u : TypeId) (q : Pointer) (e : ℕ → ℕ)
    (p : PointerSlots) (signature : Fixed) → AreFunctionsLaid w number_of s c → length parts.functions ≡ suc (length w.functions) → 0 < signature.value
    → ((f : ℕ) (d : Defined) → slice_get w.functions f ≡ Some d
    → nat_eq (sig_word parts (Some (suc f))) signature.value ≡ of_one_class w.table w.kind d.type u)
    → IsChecked w number_of s c depth Wild t q e p
    → flat_holds parts c.memory (condition.IsFunctionOf p signature) e ≡ holds w s.memory (IsFunctionOf u q)

-- What an allocation gave: nothing, or a block of so many bytes, of which the cured program has as many elements.
abbrev pub IsAllocated : Setting → TypeId → ℕ → ℕ → Pointer → Type 0
IsAllocated w t made cured q = ((made ≡ 0) × (q ≡ Null)) ⊎ ((made ≢ 0) × (n bytes : ℕ) × (q ≡ block_pointer n t bytes)
    × (((cured ≡ bytes) × (cured_size w.table w.kind t ≡ size_of w.table t))
    ⊎ ((k : ℕ) × (bytes ≡ k * size_of w.table t) × (cured ≡ k * cured_size w.table w.kind t))))

-- BOUNDS of an allocation: a block for pointers of one word
abbrev pub AllocationsAreCompared : Type 0
AllocationsAreCompared = (w : Setting) (s : source.State) (m : Memory) (parts : Parts) (kind : Kind) (t : TypeId) (q : Pointer) (e : ℕ → ℕ) (made size : ℕ) (needed : Fixed)
    (at : Place) → 0 < size_of w.table t → 0 < cured_size w.table w.kind t → needed.value ≡ cured_size w.table w.kind t
    → IsAllocated w t (e made) (e size) q
    → all_hold parts m (allocated kind made size needed at) e ≡ list_all (holds w s.memory) (conditions_of_allocation kind (size_of w.table t) q)

-- The same for a pointer to what has no size, as `void`: any block is enough. C's condition holds, and nothing is asked.
abbrev pub UnsizedAllocationsAreCompared : Type 0
UnsizedAllocationsAreCompared = (w : Setting) (s : source.State) (m : Memory) (parts : Parts) (kind : Kind) (t : TypeId) (q : Pointer) (e : ℕ → ℕ) (made size : ℕ)
    (needed : Fixed) (at : Place) → size_of w.table t ≡ 0 → needed.value ≡ 0 → (q ≡ Null) ⊎ ((n bytes : ℕ) × (q ≡ block_pointer n t bytes))
    → all_hold parts m (allocated kind made size needed at) e ≡ list_all (holds w s.memory) (conditions_of_allocation kind (size_of w.table t) q)
