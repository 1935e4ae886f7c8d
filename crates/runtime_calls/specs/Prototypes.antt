-- The runtime functions: their names and their prototypes.
use Rattle.std.specs.Prelude.{◌≡◌, ℕ, true, false, List, [], ◌∷◌, codes, Option, find, bytes_eq}
use Rattle.std.specs.List.{AllZip}
use Rattle.cc_base.specs.declared.number.NodeId.{NodeId}
use Rattle.cc_base.specs.declared.number.TypeId.{TypeId}
use Rattle.c_types.specs.declared.shape.TypeShape.TheVariants.{Void as IsVoid, Integer, Pointer, Function}
use Rattle.c_types.specs.Table.{Table, HasShape}
use Rattle.runtime_calls.specs.declared.naming.TheConstants.{RUNTIME}
use Rattle.c_tree.specs.declared.typed_word.Runtime.{Runtime}
use Rattle.c_tree.specs.declared.typed_word.Runtime.TheVariants.{Malloc, Calloc, Free, Getchar, Putchar, Exit}
use Rattle.runtime_calls.specs.declared.function.RuntimeType.{RuntimeType}
use Rattle.runtime_calls.specs.declared.function.RuntimeType.TheVariants.{Void, Int, UnsignedLong, VoidPointer}

abbrev pub runtime_name : Runtime → List ℕ
runtime_name Malloc = codes "malloc"
runtime_name Calloc = codes "calloc"
runtime_name Free = codes "free"
runtime_name Getchar = codes "getchar"
runtime_name Putchar = codes "putchar"
runtime_name Exit = codes "exit"

abbrev pub IsNamed : List ℕ → Runtime → Type 0
IsNamed name function = runtime_name function ≡ name

-- no runtime function has the name
abbrev pub IsNoName : List ℕ → Type 0
IsNoName name = (function : Runtime) → IsNamed name function → ⊥

-- A prototype: the types of the parameters in order, and of the result.
pub record Prototype : Type 0 where
  pub parameters : List RuntimeType
  pub result : RuntimeType

abbrev pub prototype_of : Runtime → Prototype
prototype_of Malloc = record { parameters = UnsignedLong ∷ []; result = VoidPointer }
prototype_of Calloc = record { parameters = UnsignedLong ∷ UnsignedLong ∷ []; result = VoidPointer }
prototype_of Free = record { parameters = VoidPointer ∷ []; result = Void }
prototype_of Getchar = record { parameters = []; result = Int }
prototype_of Putchar = record { parameters = Int ∷ []; result = Int }
prototype_of Exit = record { parameters = Int ∷ []; result = Void }

-- t is a pointer to `void`, with any node
pub record IsVoidPointer (table : Table) (t : TypeId) : Type 0 where
  pub node : NodeId
  pub to : TypeId
  pub pointer : HasShape table t (Pointer node to)
  pub void : HasShape table to IsVoid

-- the type t of the table is the type of a prototype
abbrev pub IsRuntimeType : Table → RuntimeType → TypeId → Type 0
IsRuntimeType table Void t = HasShape table t IsVoid
IsRuntimeType table Int t = HasShape table t (Integer 4 true)
IsRuntimeType table UnsignedLong t = HasShape table t (Integer 8 false)
IsRuntimeType table VoidPointer t = IsVoidPointer table t

-- the type t of the table is the type of the runtime function; each pointer in it may have any node
pub record HasPrototype (table : Table) (function : Runtime) (t : TypeId) : Type 0 where
  pub parameters : List TypeId
  pub result : TypeId
  pub shape : HasShape table t (Function parameters result)
  pub each : AllZip (IsRuntimeType table) (prototype_of function).parameters parameters
  pub last : IsRuntimeType table (prototype_of function).result result

-- the runtime function with the name
abbrev pub runtime_of : List ℕ → Option Runtime
runtime_of name = find (λ each. bytes_eq (runtime_name each) name) RUNTIME
