-- The statements of the laws: what each operation gives and leaves, on what may be held and in a memory that is sound.
use Rattle.std.specs.Prelude.{◌≡◌, ◌≢◌, ◌⊎◌, ◌↔◌, ℕ, suc, ◌+◌, ◌*◌, ◌<◌, ◌≤◌, ℤ, pos, ◌+ℤ◌, List, [], ◌∷◌, ◌++◌, length, slice_get, Some, true, false, IsFalse}
use Rattle.std.specs.List.{Contains}
use Rattle.cc_base.specs.declared.place.Place.{Place}
use Rattle.cc_base.specs.declared.kind.Kind.{Kind}
use Rattle.cc_base.specs.declared.kind.Kind.TheVariants.{Safe, Seq, Wild}
use Rattle.cc_base.specs.declared.number.TypeId.{TypeId}
use Rattle.cc_base.specs.declared.number.NodeId.{NodeId}
use Rattle.kind_sites.specs.declared.site.Site.{Site}
use Rattle.kind_sites.specs.declared.site.Site.TheVariants.{Pointee}
use Rattle.c_types.specs.declared.shape.TypeShape.TheVariants as shape
use Rattle.c_types.specs.Table.{IsComplete, IsAggregate, shape_at, members_at, is_function}
use Rattle.c_types.specs.Layouts.{size_of, member_at, offset_of}
use Rattle.c_types.specs.Flows.{HeldPointer, pointer_at, IsOfOneClass}
use Rattle.c_types.specs.Contents.{HoldsMixed}
use Rattle.kind_sites.specs.Solutions.{IsPlain, SpreadsWild, IsUnionAllowed, IsWildWhereMixed}
use Rattle.c_types.specs.Sound.{IsWellFormed}
use Rattle.integers.specs.Arithmetic.{IntegerType}
use Rattle.src_mem.specs.Pointers.{Location, Pointer, Function, Value, Integer, Address}
use Rattle.src_mem.specs.Memory.{Object, Memory, Planned, new_variable}
use Rattle.src_mem.specs.State.{State, Setting, Defined}
use Rattle.src_mem.specs.Checks.{InObject, IsAligned, HoldsPointer, Outlives, holds}
use Rattle.src_mem.specs.Primitives.{load_integer, load_pointer, store_integer, store_pointer, pointer_from, clear, allocate, leave}
use Rattle.src_mem.specs.Uses.{read, write, home, copy_all, enter_with}
use Rattle.src_mem.specs.Operations.{kind_in, node_in, pointee, converted_pointer, moved, member, decayed}
use Rattle.src_mem.specs.Values.{addressed}
use Rattle.src_mem.specs.Outlines.{Outline, outline, outlines_of, lives_of, LivesAt, AreOutlines}
use Rattle.src_mem.specs.Facts.{IsValueOf, IsMade, IsHeldIn, IsPlaceIn, IsTypedPlace, IsSoundMemory, IsSoundAt}
use Rattle.src_mem.specs.Laws.{Gives}
use Rattle.facts_kept.specs.Kept.{AllHold, asked_of, IsFlow, GivesPointer, GivesAddress, GivesInteger, GivesIntegerValue, IsKept, GivesBlock, MakesBlocks, IsSub, IsLater, IsVariable, AreArgumentsOf, HasEntered, HasLeft}

-- Pointers

abbrev pub IntegersGivePointers : Type 0
IntegersGivePointers =
    (w : Setting) (sites : List Site) (depth : ℕ) (kind : Kind) (t : TypeId) (z : ℤ) (s : State) → (kind ≡ Seq) ⊎ (kind ≡ Wild)
    → Gives (pointer_from z s) (GivesPointer w sites depth kind t s)

abbrev pub FunctionsAreValues : Type 0
FunctionsAreValues =
    (w : Setting) (outlines : List Outline) (kind : Kind) (f : ℕ) (d : Defined) → slice_get w.functions f ≡ Some d → is_function w.table d.type ≡ true
    → (kind ≡ Safe) ⊎ (kind ≡ Wild) → IsValueOf w outlines kind d.type (Function f)

abbrev pub HomesArePlaces : Type 0
HomesArePlaces =
    (w : Setting) (memory : Memory) (number depth deeper : ℕ) (v : Planned) → IsWellFormed w.table → IsComplete w.table v.type → IsPlain w.kind v.node
    → slice_get (outlines_of memory) number ≡ Some (outline (new_variable w.table deeper v)) → LivesAt (lives_of memory) depth number
    → IsPlaceIn w memory depth (w.kind v.node) v.type (home w.table number v.type)

abbrev pub ValuesPassThroughCalls : Type 0
ValuesPassThroughCalls =
    (w : Setting) (outlines : List Outline) (t u : TypeId) (i : ℕ) (p q : HeldPointer) (v : Pointer) → IsWellFormed w.table
    → IsOfOneClass w.table w.kind t u → pointer_at w.table t i ≡ Some p → pointer_at w.table u i ≡ Some q
    → IsValueOf w outlines (w.kind q.node) q.to v → IsValueOf w outlines (w.kind p.node) p.to v

abbrev pub ValuesPassAlongClasses : Type 0
ValuesPassAlongClasses =
    (w : Setting) (outlines : List Outline) (kind : Kind) (t u : TypeId) (p : Pointer) → IsWellFormed w.table → IsOfOneClass w.table w.kind t u
    → IsValueOf w outlines kind t p → IsValueOf w outlines kind u p

abbrev pub ChecksLeadToPlaces : Type 0
ChecksLeadToPlaces =
    (w : Setting) (memory : Memory) (depth : ℕ) (kind : Kind) (t : TypeId) (p : Pointer) → IsWellFormed w.table → IsFalse (is_function w.table t)
    → IsHeldIn w memory depth kind t p → AllHold w memory (asked_of (size_of w.table t) kind p) → IsPlaceIn w memory depth kind t p

-- Operations on pointers

abbrev pub ConversionsGiveWhatMayBeHeld : Type 0
ConversionsGiveWhatMayBeHeld =
    (w : Setting) (sites : List Site) (at : Place) (depth : ℕ) (t u : TypeId) (p : Pointer) (s : State) → IsWellFormed w.table
    → IsFlow w sites (node_in w t) (pointee w t) (node_in w u) (pointee w u) → IsHeldIn w s.memory depth (kind_in w t) (pointee w t) p
    → IsMade sites p → Gives (converted_pointer w at t u p s) (GivesPointer w sites depth (kind_in w u) (pointee w u) s)

-- Loads and reads

abbrev pub LoadsOfPointers : Type 0
LoadsOfPointers =
    (w : Setting) (sites : List Site) (depth : ℕ) (kind : Kind) (t u : TypeId) (node : NodeId) (p : Pointer) (s : State) → IsWellFormed w.table
    → shape_at w.table t ≡ shape.Pointer node u → IsSoundMemory w sites s.memory → kind ≢ Wild → IsPlaceIn w s.memory depth kind t p
    → Gives (load_pointer kind p s) (GivesPointer w sites depth (w.kind node) u s)

abbrev pub WildLoadsOfPointers : Type 0
WildLoadsOfPointers =
    (w : Setting) (sites : List Site) (depth : ℕ) (outer node : NodeId) (t u : TypeId) (p : Pointer) (s : State) → IsWellFormed w.table
    → shape_at w.table t ≡ shape.Pointer node u → IsSoundMemory w sites s.memory → SpreadsWild w.table w.kind outer t → w.kind outer ≡ Wild
    → IsPlaceIn w s.memory depth Wild t p → AllHold w s.memory (InObject 8 p ∷ IsAligned p ∷ HoldsPointer p ∷ [])
    → Gives (load_pointer Wild p s) (GivesPointer w sites depth (w.kind node) u s)

abbrev pub LoadsOfIntegers : Type 0
LoadsOfIntegers =
    (w : Setting) (depth : ℕ) (kind : Kind) (t : TypeId) (i : IntegerType) (p : Pointer) (s : State) → IsWellFormed w.table
    → shape_at w.table t ≡ shape.Integer i.bytes i.signed → kind ≢ Wild → IsPlaceIn w s.memory depth kind t p
    → Gives (load_integer kind i p s) (GivesInteger i s)

abbrev pub WildLoadsOfIntegers : Type 0
WildLoadsOfIntegers =
    (w : Setting) (depth : ℕ) (t : TypeId) (i : IntegerType) (p : Pointer) (s : State) → IsWellFormed w.table
    → shape_at w.table t ≡ shape.Integer i.bytes i.signed → IsPlaceIn w s.memory depth Wild t p → holds w s.memory (InObject i.bytes p) ≡ true
    → Gives (load_integer Wild i p s) (GivesInteger i s)

abbrev pub ReadsOfPointers : Type 0
ReadsOfPointers =
    (w : Setting) (sites : List Site) (place : Place) (depth : ℕ) (t u : TypeId) (outer node : NodeId) (p : Pointer) (s : State)
    → IsWellFormed w.table → shape_at w.table t ≡ shape.Pointer node u → IsSoundMemory w sites s.memory → SpreadsWild w.table w.kind outer t
    → IsHeldIn w s.memory depth (w.kind outer) t p → Gives (read w place (w.kind outer) t p s) (GivesAddress w sites depth (w.kind node) u s)

abbrev pub ReadsOfIntegers : Type 0
ReadsOfIntegers =
    (w : Setting) (place : Place) (depth : ℕ) (kind : Kind) (t : TypeId) (i : IntegerType) (p : Pointer) (s : State) → IsWellFormed w.table
    → shape_at w.table t ≡ shape.Integer i.bytes i.signed → IsHeldIn w s.memory depth kind t p
    → Gives (read w place kind t p s) (GivesIntegerValue i s)

-- Stores and writes

abbrev pub StoresOfPointers : Type 0
StoresOfPointers =
    (w : Setting) (sites : List Site) (depth : ℕ) (kind : Kind) (t u : TypeId) (node : NodeId) (p q : Pointer) (s : State) → IsWellFormed w.table
    → shape_at w.table t ≡ shape.Pointer node u → IsSoundMemory w sites s.memory → IsHeldIn w s.memory depth (w.kind node) u q → IsMade sites q
    → kind ≢ Wild → IsPlaceIn w s.memory depth kind t p → holds w s.memory (Outlives p q) ≡ true
    → Gives (store_pointer kind p q s) (λ x r. IsKept w sites s.memory r.memory)

abbrev pub WildStoresOfPointers : Type 0
WildStoresOfPointers =
    (w : Setting) (sites : List Site) (depth : ℕ) (outer node : NodeId) (t u : TypeId) (p q : Pointer) (s : State) → IsWellFormed w.table
    → shape_at w.table t ≡ shape.Pointer node u → IsSoundMemory w sites s.memory → IsHeldIn w s.memory depth (w.kind node) u q → IsMade sites q
    → SpreadsWild w.table w.kind outer t → w.kind outer ≡ Wild → IsPlaceIn w s.memory depth Wild t p
    → AllHold w s.memory (InObject 8 p ∷ IsAligned p ∷ Outlives p q ∷ [])
    → Gives (store_pointer Wild p q s) (λ x r. IsKept w sites s.memory r.memory)

abbrev pub StoresOfIntegers : Type 0
StoresOfIntegers =
    (w : Setting) (sites : List Site) (depth : ℕ) (kind : Kind) (t : TypeId) (i : IntegerType) (p : Pointer) (z : ℤ) (s : State)
    → IsWellFormed w.table → shape_at w.table t ≡ shape.Integer i.bytes i.signed → IsSoundMemory w sites s.memory
    → AreOutlines w (outlines_of s.memory) → kind ≢ Wild → IsPlaceIn w s.memory depth kind t p
    → Gives (store_integer kind i p z s) (λ x r. IsKept w sites s.memory r.memory)

abbrev pub WildStoresOfIntegers : Type 0
WildStoresOfIntegers =
    (w : Setting) (sites : List Site) (depth : ℕ) (t : TypeId) (i : IntegerType) (p : Pointer) (z : ℤ) (s : State) → IsWellFormed w.table
    → shape_at w.table t ≡ shape.Integer i.bytes i.signed → IsSoundMemory w sites s.memory → IsPlaceIn w s.memory depth Wild t p
    → holds w s.memory (InObject i.bytes p) ≡ true → Gives (store_integer Wild i p z s) (λ x r. IsKept w sites s.memory r.memory)

abbrev pub WritesOfPointers : Type 0
WritesOfPointers =
    (w : Setting) (sites : List Site) (own assignment : Place) (depth : ℕ) (t u : TypeId) (outer node : NodeId) (p q : Pointer) (s : State)
    → IsWellFormed w.table → shape_at w.table t ≡ shape.Pointer node u → IsSoundMemory w sites s.memory → SpreadsWild w.table w.kind outer t
    → IsHeldIn w s.memory depth (w.kind outer) t p → IsHeldIn w s.memory depth (w.kind node) u q → IsMade sites q
    → Gives (write w own assignment (w.kind outer) t p (Address q) s) (λ x r. IsKept w sites s.memory r.memory)

abbrev pub WritesOfIntegers : Type 0
WritesOfIntegers =
    (w : Setting) (sites : List Site) (own assignment : Place) (depth : ℕ) (kind : Kind) (t : TypeId) (i : IntegerType) (p : Pointer) (z : ℤ) (s : State)
    → IsWellFormed w.table → shape_at w.table t ≡ shape.Integer i.bytes i.signed → IsSoundMemory w sites s.memory
    → AreOutlines w (outlines_of s.memory) → IsHeldIn w s.memory depth kind t p
    → Gives (write w own assignment kind t p (Integer z) s) (λ x r. IsKept w sites s.memory r.memory)

abbrev pub WritesOfPointersToPlaces : Type 0
WritesOfPointersToPlaces =
    (w : Setting) (sites : List Site) (own assignment : Place) (depth : ℕ) (t u : TypeId) (outer node : NodeId) (p q : Pointer) (s : State)
    → IsWellFormed w.table → shape_at w.table t ≡ shape.Pointer node u → IsSoundMemory w sites s.memory → SpreadsWild w.table w.kind outer t
    → IsPlaceIn w s.memory depth (w.kind outer) t p → IsHeldIn w s.memory depth (w.kind node) u q → IsMade sites q
    → Gives (write w own assignment (w.kind outer) t p (Address q) s) (λ x r. IsKept w sites s.memory r.memory)

abbrev pub WritesOfIntegersToPlaces : Type 0
WritesOfIntegersToPlaces =
    (w : Setting) (sites : List Site) (own assignment : Place) (depth : ℕ) (kind : Kind) (t : TypeId) (i : IntegerType) (p : Pointer) (z : ℤ) (s : State)
    → IsWellFormed w.table → shape_at w.table t ≡ shape.Integer i.bytes i.signed → IsSoundMemory w sites s.memory
    → AreOutlines w (outlines_of s.memory) → IsPlaceIn w s.memory depth kind t p
    → Gives (write w own assignment kind t p (Integer z) s) (λ x r. IsKept w sites s.memory r.memory)

abbrev pub KeptMomentsAreSound : Type 0
KeptMomentsAreSound =
    (w : Setting) (sites : List Site) (depth : ℕ) (old new : Memory) → IsSoundAt w sites old depth → IsKept w sites old new
    → IsSoundAt w sites new depth

abbrev pub KeptMemoryHolds : Type 0
KeptMemoryHolds =
    (w : Setting) (sites : List Site) (depth : ℕ) (kind : Kind) (t : TypeId) (p : Pointer) (old new : Memory) → IsKept w sites old new
    → IsHeldIn w old depth kind t p → IsHeldIn w new depth kind t p

-- Moves and parts

abbrev pub MovesGiveWhatMayBeHeld : Type 0
MovesGiveWhatMayBeHeld =
    (w : Setting) (sites : List Site) (at : Place) (depth : ℕ) (t : TypeId) (n : ℤ) (p : Pointer) (s : State) → IsWellFormed w.table
    → (kind_in w t ≡ Seq) ⊎ (kind_in w t ≡ Wild) → IsComplete w.table (pointee w t) → IsHeldIn w s.memory depth (kind_in w t) (pointee w t) p
    → IsMade sites p → Gives (moved w at t n p s) (GivesPointer w sites depth (kind_in w t) (pointee w t) s)

abbrev pub MembersGiveWhatMayBeHeld : Type 0
MembersGiveWhatMayBeHeld =
    (w : Setting) (sites : List Site) (at : Place) (depth : ℕ) (outer node : NodeId) (t : TypeId) (i : ℕ) (p : Pointer) (s : State)
    → IsWellFormed w.table → ((v : TypeId) (tag : ℕ) → shape_at w.table v ≡ shape.Union tag → IsUnionAllowed w.table w.kind v)
    → ((w.kind outer ≡ Wild) ↔ (w.kind node ≡ Wild)) → IsWildWhereMixed w.table w.kind outer t → IsComplete w.table t → IsAggregate w.table t
    → i < length (members_at w.table t) → IsComplete w.table (member_at w.table t i) → Contains sites (Pointee node (member_at w.table t i))
    → AreOutlines w (outlines_of s.memory) → IsHeldIn w s.memory depth (w.kind outer) t p
    → Gives (member w at (w.kind outer) t i node (member_at w.table t i) p s)
    (λ q r. GivesPointer w sites depth (w.kind node) (member_at w.table t i) s q r × IsPlaceIn w s.memory depth (w.kind node) (member_at w.table t i) q)

abbrev pub ArraysGiveWhatMayBeHeld : Type 0
ArraysGiveWhatMayBeHeld =
    (w : Setting) (sites : List Site) (at : Place) (depth : ℕ) (kind : Kind) (node : NodeId) (array element : TypeId) (n : ℕ) (p : Pointer) (s : State)
    → IsWellFormed w.table → ((kind ≡ Wild) ↔ (w.kind node ≡ Wild)) → shape_at w.table array ≡ shape.Array element n → IsComplete w.table array
    → IsComplete w.table element → Contains sites (Pointee node element) → AreOutlines w (outlines_of s.memory)
    → IsHeldIn w s.memory depth kind array p
    → Gives (decayed w at kind array true node element p s) (GivesPointer w sites depth (w.kind node) element s)

abbrev pub MembersStand : Type 0
MembersStand =
    (w : Setting) (t : TypeId) (i : ℕ) → IsWellFormed w.table
    → ((v : TypeId) (tag : ℕ) → shape_at w.table v ≡ shape.Union tag → IsUnionAllowed w.table w.kind v) → IsAggregate w.table t
    → i < length (members_at w.table t) → ((v : TypeId) → HoldsMixed w.table t v → ⊥) → IsSub w t (offset_of w.table t i) (member_at w.table t i)

abbrev pub ElementsStand : Type 0
ElementsStand =
    (w : Setting) (t element : TypeId) (n i : ℕ) → IsWellFormed w.table → shape_at w.table t ≡ shape.Array element n → i < n
    → IsSub w t (i * size_of w.table element) element

abbrev pub PartsOfPartsStand : Type 0
PartsOfPartsStand =
    (w : Setting) (t v x : TypeId) (a b : ℕ) → IsWellFormed w.table → IsSub w t a v → IsSub w v b x → IsSub w t (a + b) x

abbrev pub UnmixedPartsStand : Type 0
UnmixedPartsStand =
    (w : Setting) (t v : TypeId) (a : ℕ) → IsWellFormed w.table → IsSub w t a v → ((x : TypeId) → HoldsMixed w.table t x → ⊥) → (x : TypeId)
    → HoldsMixed w.table v x → ⊥

abbrev pub PartsArePlaces : Type 0
PartsArePlaces =
    (w : Setting) (outlines : List Outline) (t u : TypeId) (offset : ℕ) (l : Location) → IsWellFormed w.table → IsComplete w.table u
    → IsSub w t offset u → IsTypedPlace w outlines t l → IsTypedPlace w outlines u (record l { offset = l.offset +ℤ pos offset })

-- Blocks

abbrev pub AllocationsGiveWhatMayBeHeld : Type 0
AllocationsGiveWhatMayBeHeld =
    (w : Setting) (sites : List Site) (depth : ℕ) (node : NodeId) (t : TypeId) (n : ℕ) (s : State) → IsWellFormed w.table → MakesBlocks w node t
    → IsSoundAt w sites s.memory depth → Gives (allocate w node t n s) (GivesBlock w sites depth node t s)

-- Addresses of places

abbrev pub AddressesAskForPlaces : Type 0
AddressesAskForPlaces =
    (w : Setting) (sites : List Site) (depth : ℕ) (kind : Kind) (node : NodeId) (t : TypeId) (p : Pointer) (s : State) → IsWellFormed w.table
    → ((kind ≡ Wild) ↔ (w.kind node ≡ Wild)) → IsComplete w.table t → Contains sites (Pointee node t) → AreOutlines w (outlines_of s.memory)
    → IsPlaceIn w s.memory depth kind t p → Gives (addressed w node t (Address p) s) (GivesAddress w sites depth (w.kind node) t s)

abbrev pub ArraysAskForPlaces : Type 0
ArraysAskForPlaces =
    (w : Setting) (sites : List Site) (at : Place) (depth : ℕ) (kind : Kind) (node : NodeId) (array element : TypeId) (n : ℕ) (p : Pointer) (s : State)
    → IsWellFormed w.table → ((kind ≡ Wild) ↔ (w.kind node ≡ Wild)) → shape_at w.table array ≡ shape.Array element n → IsComplete w.table array
    → IsComplete w.table element → Contains sites (Pointee node element) → AreOutlines w (outlines_of s.memory)
    → IsPlaceIn w s.memory depth kind array p
    → Gives (decayed w at kind array false node element p s) (GivesPointer w sites depth (w.kind node) element s)

-- Whole objects

abbrev pub ClearingKeepsTheMemorySound : Type 0
ClearingKeepsTheMemorySound =
    (w : Setting) (sites : List Site) (number : ℕ) (o : Object) (s : State) → IsSoundMemory w sites s.memory
    → slice_get s.memory.objects number ≡ Some o → o.live ≡ true → Gives (clear number s) (λ x r. IsKept w sites s.memory r.memory)

abbrev pub TypedCopiesKeepTheMemorySound : Type 0
TypedCopiesKeepTheMemorySound =
    (w : Setting) (sites : List Site) (depth : ℕ) (t : TypeId) (source_place : Place) (from_kind : Kind) (source : Pointer) (target_place : Place) (to_kind : Kind) (target : Pointer) (place : Place) (s : State)
    → IsWellFormed w.table → IsComplete w.table t → from_kind ≢ Wild → to_kind ≢ Wild → IsSoundMemory w sites s.memory
    → AreOutlines w (outlines_of s.memory) → IsHeldIn w s.memory depth from_kind t source → IsHeldIn w s.memory depth to_kind t target
    → Gives (copy_all w t source_place from_kind source target_place to_kind target place s) (λ x r. IsKept w sites s.memory r.memory)

abbrev pub WildCopiesKeepTheMemorySound : Type 0
WildCopiesKeepTheMemorySound =
    (w : Setting) (sites : List Site) (depth : ℕ) (t : TypeId) (source_place : Place) (source : Pointer) (target_place : Place) (target : Pointer) (place : Place) (s : State)
    → IsWellFormed w.table → IsComplete w.table t → IsSoundMemory w sites s.memory → IsHeldIn w s.memory depth Wild t source
    → IsHeldIn w s.memory depth Wild t target
    → Gives (copy_all w t source_place Wild source target_place Wild target place s) (λ x r. IsKept w sites s.memory r.memory)

-- Calls

abbrev pub CallsBegin : Type 0
CallsBegin =
    (w : Setting) (sites : List Site) (depth f : ℕ) (variables : List Planned) (arguments : List Value) (s : State) → IsWellFormed w.table
    → ((j : ℕ) (x : Planned) → slice_get variables j ≡ Some x → IsVariable w x) → IsSoundAt w sites s.memory depth
    → AreArgumentsOf w sites s.memory depth variables arguments
    → Gives (enter_with w (suc depth) f variables arguments s) (λ x r. HasEntered w sites depth variables s.memory r.memory)

abbrev pub CallsEnd : Type 0
CallsEnd =
    (w : Setting) (sites : List Site) (depth : ℕ) (variables : List Planned) (s : State) → IsWellFormed w.table
    → IsSoundAt w sites s.memory (suc depth) → Gives (leave w (suc depth) variables s) (λ x r. HasLeft w sites depth s.memory r.memory)

abbrev pub CallersHold : Type 0
CallersHold =
    (w : Setting) (depth : ℕ) (kind : Kind) (t : TypeId) (p : Pointer) (old new : Memory) → IsLater depth old.objects new.objects
    → IsHeldIn w old depth kind t p → IsHeldIn w new depth kind t p

abbrev pub LaterFollowsLater : Type 0
LaterFollowsLater =
    (depth deeper : ℕ) (a b c : List Object) → depth ≤ deeper → IsLater depth a b → IsLater deeper b c → IsLater depth a c

abbrev pub StoresAreLater : Type 0
StoresAreLater =
    (w : Setting) (sites : List Site) (depth : ℕ) (old new : Memory) → IsKept w sites old new → IsLater depth old.objects new.objects

abbrev pub BlocksAreLater : Type 0
BlocksAreLater =
    (depth : ℕ) (old more : List Object) → IsLater depth old (old ++ more)
