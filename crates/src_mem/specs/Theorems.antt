-- What the laws of the crate say.
use Rattle.std.specs.Prelude.{◌≡◌, ◌≢◌, ◌⊎◌, ◌↔◌, ℕ, ◌+◌, ◌≤◌, ℤ, Bool, List, Some, IsTrue, IsFalse}
use Rattle.cc_base.specs.declared.place.Place.{Place}
use Rattle.cc_base.specs.declared.kind.Kind.{Kind}
use Rattle.cc_base.specs.declared.kind.Kind.TheVariants.{Safe, Seq, Wild}
use Rattle.cc_base.specs.declared.number.TypeId.{TypeId}
use Rattle.cc_base.specs.declared.number.NodeId.{NodeId}
use Rattle.flat_mem.specs.Bytes.{IsAccessSize}
use Rattle.integers.specs.Arithmetic.{IntegerType, converted}
use Rattle.kind_sites.specs.declared.site.Site.{Site}
use Rattle.c_types.specs.Table.{IsComplete, shape_at, is_function}
use Rattle.c_types.specs.Sound.{IsWellFormed}
use Rattle.runs.specs.Outcome.{from}
use Rattle.src_mem.specs.Pointers.{Pointer, Location, At, Value}
use Rattle.src_mem.specs.Memory.{Object, Planned}
use Rattle.src_mem.specs.State.{State, Act, Setting}
use Rattle.src_mem.specs.Primitives.{Spot, spot, load_integer, store_integer, called}
use Rattle.src_mem.specs.Checks.{HasBase, Call, conditions_of, holds, all_checked}
use Rattle.src_mem.specs.Uses.{read, write, copy_all, enter_with}
use Rattle.src_mem.specs.Operations.{decayed, member}
use Rattle.src_mem.specs.Facts.{IsSoundMemory, IsHeldIn}
use Rattle.src_mem.specs.Laws.{AreWhole, GivesNext, IsNotWrong, IsScalar, IsScalarValue, AreArguments}

abbrev pub AStoredIntegerIsLoaded : Type 0
AStoredIntegerIsLoaded =
    (kind : Kind) (t : IntegerType) (p : Pointer) (z : ℤ) (s : State) → AreWhole s.memory.objects → IsAccessSize t.bytes
    → GivesNext (store_integer kind t p z s) (load_integer kind t p) (converted t z)

abbrev pub SpotsLieInParts : Type 0
SpotsLieInParts =
    (kind : Kind) (objects : List Object) (l : Location) (size : ℕ) (x : Spot) → kind ≢ Wild → spot kind objects (At l) size ≡ Some x
    → (l.part.low ≤ x.at) × (x.at + size ≤ l.part.high) × IsTrue x.object.live

abbrev pub ReadingIsNotWrong : Type 0
ReadingIsNotWrong =
    (w : Setting) (sites : List Site) (place : Place) (depth : ℕ) (kind : Kind) (t : TypeId) (p : Pointer) (s : State) → IsSoundMemory w sites s.memory
    → IsScalar (shape_at w.table t) → IsHeldIn w s.memory depth kind t p → IsNotWrong (read w place kind t p s)

abbrev pub WritingIsNotWrong : Type 0
WritingIsNotWrong =
    (w : Setting) (own assignment : Place) (depth : ℕ) (kind : Kind) (t : TypeId) (p : Pointer) (v : Value) (s : State)
    → IsScalarValue (shape_at w.table t) v → IsHeldIn w s.memory depth kind t p → IsNotWrong (write w own assignment kind t p v s)

abbrev pub MembersAreNotWrong : Type 0
MembersAreNotWrong =
    (w : Setting) (at : Place) (depth : ℕ) (kind : Kind) (t : TypeId) (i : ℕ) (node : NodeId) (u : TypeId) (p : Pointer) (s : State)
    → ((kind ≡ Wild) ↔ (w.kind node ≡ Wild)) → IsFalse (is_function w.table t) → IsHeldIn w s.memory depth kind t p
    → IsNotWrong (member w at kind t i node u p s)

abbrev pub CallsAreNotWrong : Type 0
CallsAreNotWrong =
    (w : Setting) (at : Place) (depth deeper : ℕ) (kind : Kind) (t : TypeId) (p : Pointer) (next : ℕ → Act Value) (s : State)
    → (kind ≡ Safe) ⊎ (kind ≡ Wild) → IsTrue (is_function w.table t) → IsHeldIn w s.memory depth kind t p → ((f : ℕ) → IsNotWrong (next f s))
    → IsNotWrong (from (all_checked w at (conditions_of (Call t deeper) kind p) s) (λ a. called p next))

abbrev pub DecayIsNotWrong : Type 0
DecayIsNotWrong =
    (w : Setting) (at : Place) (depth : ℕ) (kind : Kind) (array : TypeId) (check : Bool) (node : NodeId) (element : TypeId) (p : Pointer) (s : State)
    → ((kind ≡ Wild) ↔ (w.kind node ≡ Wild)) → IsFalse (is_function w.table array) → IsHeldIn w s.memory depth kind array p
    → IsTrue check ⊎ ((kind ≢ Seq) × IsTrue (holds w s.memory (HasBase p))) → IsNotWrong (decayed w at kind array check node element p s)

abbrev pub CopyingIsNotWrong : Type 0
CopyingIsNotWrong =
    (w : Setting) (sites : List Site) (depth : ℕ) (t : TypeId) (source_place : Place) (from_kind : Kind) (source : Pointer) (target_place : Place) (to_kind : Kind) (target : Pointer) (place : Place) (s : State)
    → IsWellFormed w.table → IsComplete w.table t → IsSoundMemory w sites s.memory → IsHeldIn w s.memory depth from_kind t source
    → IsHeldIn w s.memory depth to_kind t target → IsNotWrong (copy_all w t source_place from_kind source target_place to_kind target place s)

abbrev pub EntryIsNotWrong : Type 0
EntryIsNotWrong =
    (w : Setting) (depth f : ℕ) (variables : List Planned) (arguments : List Value) (s : State) → AreArguments w.table variables arguments
    → IsNotWrong (enter_with w depth f variables arguments s)
