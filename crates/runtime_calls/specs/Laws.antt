-- What is true of the runtime functions on what well typed calls hand them.
use Rattle.std.specs.Prelude.{◌≡◌, ◌≢◌, List, ⊤}
use Rattle.std.specs.List.{AllZip}
use Rattle.cc_base.specs.declared.place.Place.{Place}
use Rattle.cc_base.specs.declared.number.NodeId.{NodeId}
use Rattle.cc_base.specs.declared.number.TypeId.{TypeId}
use Rattle.c_tree.specs.declared.typed_word.Runtime.{Runtime}
use Rattle.src_mem.specs.Pointers.{Value, Integer}
use Rattle.src_mem.specs.State.{State, Setting}
use Rattle.src_mem.specs.Values.{allocated}
use Rattle.src_mem.specs.Laws.{IsNotWrong}
use Rattle.runtime_calls.specs.declared.function.RuntimeType.{RuntimeType}
use Rattle.runtime_calls.specs.declared.function.RuntimeType.TheVariants.{Int, UnsignedLong, VoidPointer}
use Rattle.runtime_calls.specs.Prototypes.{prototype_of}
use Rattle.runtime_calls.specs.Meanings.{call_runtime, call_allocation}

-- What a well typed call hands to a parameter of this type. To a `void *` it may hand a null constant, which may still be an integer.
abbrev pub IsHanded : RuntimeType → Value → Type 0
IsHanded Int (Integer z) = ⊤
IsHanded UnsignedLong (Integer z) = ⊤
IsHanded VoidPointer v = ⊤
IsHanded type v = ⊥

-- these are the arguments of a well typed call of the runtime function
abbrev pub AreHanded : Runtime → List Value → Type 0
AreHanded function arguments = AllZip IsHanded (prototype_of function).parameters arguments

-- a function that makes no block is wrong nowhere on its arguments
abbrev pub CallsAreNotWrong : Type 0
CallsAreNotWrong = (function : Runtime) (arguments : List Value) (s : State) → (prototype_of function).result ≢ VoidPointer → AreHanded function arguments
    → IsNotWrong (call_runtime function arguments s)

-- nor is one that makes a block, with the condition on what is made of it
abbrev pub AllocationsAreNotWrong : Type 0
AllocationsAreNotWrong = (w : Setting) (at : Place) (node : NodeId) (t : TypeId) (function : Runtime) (arguments : List Value) (s : State)
    → (prototype_of function).result ≡ VoidPointer → AreHanded function arguments
    → IsNotWrong (allocated w at node t (call_allocation w node t function arguments) s)
