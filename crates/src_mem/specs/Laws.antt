-- The words of the laws on memory.
use Rattle.std.specs.Prelude.{◌+◌, ◌≤◌, ℤ, ◌≡◌, ◌≢◌, ℕ, List, [], ◌∷◌, ◌++◌, length, slice_get, Some, ⊤}
use Rattle.cc_base.specs.declared.kind.Kind.{Kind}
use Rattle.cc_base.specs.declared.kind.Kind.TheVariants.{Wild}
use Rattle.cc_base.specs.declared.number.TypeId.{TypeId}
use Rattle.cc_base.specs.declared.number.NodeId.{NodeId}
use Rattle.flat_mem.specs.Bytes.{number}
use Rattle.c_types.specs.Table.{Table, shape_at}
use Rattle.c_types.specs.declared.shape.TypeShape.{TypeShape}
use Rattle.c_types.specs.declared.shape.TypeShape.TheVariants as shape
use Rattle.integers.specs.Arithmetic as integer
use Rattle.integers.specs.Arithmetic.{IntegerType, Operator}
use Rattle.runs.specs.Outcome.{Outcome, Ended, Done}
use Rattle.src_mem.specs.Pointers.{Location, Pointer, At, Value, Integer, Address}
use Rattle.src_mem.specs.Memory.{Object, Planned}
use Rattle.src_mem.specs.State.{Ending, Wrong, State, Act, Setting, Access, bytes_of, turn}
use Rattle.runs.specs.Input.{Input}
use Rattle.src_mem.specs.Primitives.{load_integer, load_pointer, store_integer, store_pointer, clear, copy, allocate, enter, leave, get, put}

-- the state in which an outcome leaves a run
abbrev pub left_by : {A : Type 0} → Outcome Ending State A → State
left_by (Ended e s) = s
left_by (Done a s) = s

-- the bytes of an object are as many as its size, and those under a stored pointer are zero
pub record IsWhole (o : Object) : Type 0 where
  pub sized : length o.bytes ≡ o.size
  pub under : (k : ℕ) (p : Pointer) → o.pointers k ≡ Some p → number 8 o.bytes k ≡ 0

pub record AreWhole (objects : List Object) : Type 0 where
  pub each : (number : ℕ) (o : Object) → slice_get objects number ≡ Some o → IsWhole o

-- an operation leaves all objects whole
abbrev pub KeepsWhole : {A : Type 0} → Act A → Type 0
KeepsWhole m = (s : State) → AreWhole s.memory.objects → AreWhole (left_by (m s)).memory.objects

-- where a run has gone on, the next one gives this value
abbrev pub GivesNext : {A B : Type 0} → Outcome Ending State A → Act B → B → Type 0
GivesNext (Ended e s) next b = ⊤
GivesNext (Done a s) next b = (t : State) × (next s ≡ Done b t)

-- a run isn't wrong, and P holds of what it gives and of the state that it leaves
abbrev pub Gives : {A : Type 0} → Outcome Ending State A → (A → State → Type 0) → Type 0
Gives (Ended Wrong s) P = ⊥
Gives (Ended e s) P = ⊤
Gives (Done a s) P = P a s

-- a run isn't wrong
abbrev pub IsNotWrong : {A : Type 0} → Outcome Ending State A → Type 0
IsNotWrong m = Gives m (λ a s. ⊤)

-- an integer or pointer type, and a value that is one of its values
abbrev pub IsScalar : TypeShape → Type 0
IsScalar (shape.Integer bytes signed) = ⊤
IsScalar (shape.Pointer node to) = ⊤
IsScalar other = ⊥

abbrev pub IsScalarValue : TypeShape → Value → Type 0
IsScalarValue (shape.Integer bytes signed) (Integer z) = ⊤
IsScalarValue (shape.Pointer node to) (Address p) = ⊤
IsScalarValue other v = ⊥

-- `<`, `>`, `<=` and `>=`
abbrev pub IsOrder : Operator → Type 0
IsOrder integer.Less = ⊤
IsOrder integer.LessOrEqual = ⊤
IsOrder integer.Greater = ⊤
IsOrder integer.GreaterOrEqual = ⊤
IsOrder operator = ⊥

-- an act leaves what is true of the state true
pub record Keeps {A : Type 0} (P : State → Type 0) (m : Act A) : Type 0 where
  pub by : (s : State) → P s → P (left_by (m s))

-- What is true of the state stays so by every operation that changes it: a load, a store, a clearing, a copy, a block, the entry and
-- the end of a call, a byte read, a byte written, a turn.
pub record IsInvariant (P : State → Type 0) : Type 0 where
  pub integer_loaded : (kind : Kind) (t : IntegerType) (p : Pointer) → Keeps P (load_integer kind t p)
  pub pointer_loaded : (kind : Kind) (p : Pointer) → Keeps P (load_pointer kind p)
  pub integer_stored : (kind : Kind) (t : IntegerType) (p : Pointer) (z : ℤ) → Keeps P (store_integer kind t p z)
  pub pointer_stored : (kind : Kind) (p q : Pointer) → Keeps P (store_pointer kind p q)
  pub cleared : (number : ℕ) → Keeps P (clear number)
  pub copied : (n : ℕ) (from : Kind) (source : Pointer) (to : Kind) (target : Pointer) → Keeps P (copy n from source to target)
  pub allocated : (w : Setting) (node : NodeId) (t : TypeId) (n : ℕ) → Keeps P (allocate w node t n)
  pub entered : (w : Setting) (depth f : ℕ) (variables : List Planned) → Keeps P (enter w depth f variables)
  pub left : (w : Setting) (depth : ℕ) (variables : List Planned) → Keeps P (leave w depth variables)
  pub read : Keeps P get
  pub written : (z : ℤ) → Keeps P (put z)
  pub turned : Keeps P turn

-- the run reads this input, and has read no more than there is
pub record ReadsWhatIsThere (input : Input) (s : State) : Type 0 where
  pub same : s.input ≡ input
  pub most : s.read ≤ length (bytes_of input)

-- an access lies in an object that is there
pub record LiesIn (objects : List Object) (a : Access) : Type 0 where
  pub object : Object
  pub found : slice_get objects a.object ≡ Some object
  pub inside : a.offset + a.size ≤ object.size

-- each access that was noted lies in an object that is there
pub record AccessesLie (s : State) : Type 0 where
  pub each : (i : ℕ) (a : Access) → slice_get s.accesses i ≡ Some a → LiesIn s.memory.objects a

-- where an operation goes on, P holds of the state that it leaves
abbrev pub Where : {A : Type 0} → Outcome Ending State A → (State → Type 0) → Type 0
Where (Ended e s) P = ⊤
Where (Done a s) P = P s

-- One more access was noted: to m bytes of the object that the pointer names, which lie in it and, through a pointer that isn't
-- WILD, in the pointer's part.
pub record NotesAccess (kind : Kind) (p : Pointer) (m : ℕ) (old new : State) : Type 0 where
  pub location : Location
  pub is : p ≡ At location
  pub offset : ℕ
  pub noted : new.accesses ≡ old.accesses ++ record { object = location.object; offset = offset; size = m } ∷ []
  pub lies : LiesIn old.memory.objects (record { object = location.object; offset = offset; size = m })
  pub part : kind ≢ Wild → (location.part.low ≤ offset) × (offset + m ≤ location.part.high)

-- two were noted, one after the other, where the objects are as they were
pub record NotesTwo (from : Kind) (source : Pointer) (to : Kind) (target : Pointer) (m : ℕ) (old new : State) : Type 0 where
  pub middle : State
  pub same : middle.memory ≡ old.memory
  pub read : NotesAccess from source m old middle
  pub written : NotesAccess to target m middle new

-- these arguments are values of the variables that they are stored in, one each and in order
abbrev pub AreArguments : Table → List Planned → List Value → Type 0
AreArguments table variables [] = ⊤
AreArguments table [] (v ∷ vs) = ⊥
AreArguments table (x ∷ xs) (v ∷ vs) = IsScalarValue (shape_at table x.type) v × AreArguments table xs vs
