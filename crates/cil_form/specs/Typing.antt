-- What the temporaries hold where code has come to, and what each instruction asks of them and leaves in them.
use Rattle.std.specs.Prelude.{ℕ, Bool, true, false, suc, ◌+◌, ◌*◌, ◌<◌, ◌≤◌, ◌≡◌, ◌⊎◌, List, [], ◌∷◌, length, slice_get, Option, Some, None, IsSome, IsTrue, All, nat_eq, if◌then◌else◌}
use Rattle.std.specs.List.{Contains, IsDistinct}
use Rattle.cc_base.specs.declared.number.NodeId.{NodeId}
use Rattle.cc_base.specs.declared.number.TypeId.{TypeId}
use Rattle.c_types.specs.declared.shape.TypeShape.{TypeShape}
use Rattle.c_types.specs.declared.shape.TypeShape.TheVariants as shape
use Rattle.kind_sites.specs.declared.site.Site.{Site}
use Rattle.kind_sites.specs.declared.site.Site.TheVariants as site
use Rattle.c_types.specs.Table.{Table, IsType, IsComplete, IsAggregate, shape_at, members_at}
use Rattle.c_types.specs.Layouts.{size_of, member_at, offset_of}
use Rattle.c_types.specs.Equality.{physically_equal}
use Rattle.integers.specs.Arithmetic.{IntegerType, int, long, unsigned_long, converted}
use Rattle.src_mem.specs.Memory.{Planned}
use Rattle.cil_form.specs.declared.number.Temp.{Temp}
use Rattle.cil_form.specs.declared.number.Temp.TheVariants as temp
use Rattle.cil_form.specs.declared.number.Object.{Object}
use Rattle.cil_form.specs.declared.number.Object.TheVariants as object
use Rattle.cil_form.specs.declared.instr.Comparison.{Comparison}
use Rattle.cil_form.specs.declared.instr.Comparison.TheVariants as comparison
use Rattle.cil_form.specs.declared.instr.Operator.{Operator}
use Rattle.cil_form.specs.declared.instr.Operator.TheVariants as operator
use Rattle.cil_form.specs.declared.instr.Set.{Set}
use Rattle.cil_form.specs.declared.instr.Set.TheVariants as set
use Rattle.cil_form.specs.declared.instr.Calculate.{Calculate}
use Rattle.cil_form.specs.declared.instr.Calculate.TheVariants as calculate
use Rattle.cil_form.specs.declared.instr.Point.{Point}
use Rattle.cil_form.specs.declared.instr.Point.TheVariants as point
use Rattle.cil_form.specs.declared.instr.Convert.{Convert}
use Rattle.cil_form.specs.declared.instr.Convert.TheVariants as convert
use Rattle.cil_form.specs.declared.instr.Target.{Target}
use Rattle.cil_form.specs.declared.instr.Target.TheVariants as target
use Rattle.cil_form.specs.declared.instr.Access.{Access}
use Rattle.cil_form.specs.declared.instr.Access.TheVariants as access
use Rattle.cil_form.specs.declared.instr.Allocate.{Allocate}
use Rattle.cil_form.specs.declared.instr.Allocate.TheVariants as allocate
use Rattle.cil_form.specs.declared.instr.Call.{Call}
use Rattle.cil_form.specs.declared.instr.RuntimeCall.{RuntimeCall}
use Rattle.cil_form.specs.declared.instr.RuntimeCall.TheVariants as runtime
use Rattle.cil_form.specs.declared.instr.Instr.{Instr, Row_of-Instr, end_of-Instr, more_of-Instr}
use Rattle.cil_form.specs.declared.instr.Instr.TheVariants as instr
use Rattle.cil_form.specs.State.{is_same}
use Rattle.cil_form.specs.Sites.{AreAmong, sites_of_point, sites_of_convert, sites_of_access, sites_of_allocate}

-- How many values there are: at most so many are held at once.
abbrev pub values_limit : ℕ
values_limit = 256

-- how many `switch` statements are nested, at most
abbrev pub switches_limit : ℕ
switches_limit = 256

-- What a temporary holds: an integer that fits a type, a pointer of a node to a type, or the address, with a node, of an object of a type or of
-- a part of one that is of the type.
pub data HeldType : Type 0 where
  IntegerOf : IntegerType → HeldType
  PointerTo : NodeId → TypeId → HeldType
  PlaceOf : NodeId → TypeId → HeldType

-- what is known of each temporary
abbrev pub Typing : Type 0
Typing = Temp → Option HeldType

abbrev pub no_types : Typing
no_types t = None

-- what is known once temporary t is written
abbrev pub with_held : Temp → Option HeldType → Typing → Typing
with_held t x types u = if is_same u t then x else types u

-- what is known in `less` is known in `types`
abbrev pub Includes : Typing → Typing → Type 0
Includes types less = (t : Temp) (x : HeldType) → less t ≡ Some x → types t ≡ Some x

-- What code may name, and what it stands in.
pub record Context : Type 0 where
  pub table : Table
  pub nodes : ℕ
  -- all sites of the program
  pub sites : List Site
  pub statics : List Planned
  -- the variables of the function
  pub variables : List Planned
  -- the types of the defined functions
  pub functions : List TypeId
  -- the result's type of the function; the static initialisers stand in none
  pub result : Option TypeId
  -- how many blocks and loops are around, and what is known wherever the innermost of them is left
  pub blocks : ℕ
  pub kept : Typing

-- Types

-- what a temporary holds of a value of this shape
abbrev pub held_shape : TypeShape → Option HeldType
held_shape (shape.Integer bytes signed) = Some (IntegerOf (record { bytes = bytes; signed = signed }))
held_shape (shape.Pointer node to) = Some (PointerTo node to)
held_shape other = None

abbrev pub held_by : Context → TypeId → Option HeldType
held_by k t = held_shape (shape_at k.table t)

-- t is the integer type i
abbrev pub IsInteger : Context → TypeId → IntegerType → Type 0
IsInteger k t i = IsType k.table t × (shape_at k.table t ≡ shape.Integer i.bytes i.signed)

-- t is the type of pointers of the node to u
abbrev pub IsPointer : Context → TypeId → NodeId → TypeId → Type 0
IsPointer k t node u = IsType k.table t × (shape_at k.table t ≡ shape.Pointer node u)

-- a value of type t is an integer or a pointer
abbrev pub IsScalar : Context → TypeId → Type 0
IsScalar k t = IsType k.table t × IsSome (held_by k t)

abbrev pub IsObjectType : Context → TypeId → Type 0
IsObjectType k t = IsType k.table t × IsComplete k.table t

abbrev pub IsNode : Context → NodeId → Type 0
IsNode k node = node.0 < k.nodes

abbrev pub ArePhysicallyEqual : Context → TypeId → TypeId → Type 0
ArePhysicallyEqual k t u = IsTrue (physically_equal k.table t u)

-- the types t and u were declared of one name, or stand in a chain of such types
pub data AreDeclaredAlike (sites : List Site) : TypeId → TypeId → Type 0 where
  same : (t : TypeId) → AreDeclaredAlike sites t t
  listed : (t u : TypeId) → Contains sites (site.Same t u) → AreDeclaredAlike sites t u
  turned : (t u : TypeId) → AreDeclaredAlike sites t u → AreDeclaredAlike sites u t
  chained : (t u v : TypeId) → AreDeclaredAlike sites t u → AreDeclaredAlike sites u v → AreDeclaredAlike sites t v

-- Objects

abbrev pub plan_of : Context → Object → Option Planned
plan_of k (object.Static n) = slice_get k.statics n.0
plan_of k (object.Variable n) = slice_get k.variables n.0

-- t is the type u that an object is made with, or one that its name was declared with besides
abbrev pub IsNamedAs : Context → TypeId → TypeId → Type 0
IsNamedAs k u t = (u ≡ t) ⊎ (ArePhysicallyEqual k u t × AreDeclaredAlike k.sites u t)

-- the object has this home, and may be named with this type
abbrev pub IsObject : Context → Object → NodeId → TypeId → Type 0
IsObject k o home t = (u : TypeId) × (plan_of k o ≡ Some (record { type = u; node = home })) × IsNamedAs k u t

-- u stands at the offset in t: it is t, or stands in a member or an element of t
pub data IsPart (table : Table) : TypeId → ℕ → TypeId → Type 0 where
  whole : (t : TypeId) → IsPart table t 0 t
  in_member : (t : TypeId) (i offset : ℕ) (u : TypeId) → IsAggregate table t → i < length (members_at table t)
      → IsPart table (member_at table t i) offset u → IsPart table t (offset_of table t i + offset) u
  in_element : (t element : TypeId) (count i offset : ℕ) (u : TypeId) → shape_at table t ≡ shape.Array element count → i < count
      → IsPart table element offset u → IsPart table t (i * size_of table element + offset) u

-- Temporaries

abbrev pub IsTemp : Temp → Type 0
IsTemp (temp.Value n) = n < values_limit
IsTemp (temp.Switch n) = n < switches_limit
IsTemp (temp.Work w) = Unit {0}

-- what a `switch` keeps lives across statements, and nothing else does
abbrev pub LivesAcrossStatements : Temp → Type 0
LivesAcrossStatements (temp.Value n) = ⊥
LivesAcrossStatements (temp.Switch n) = Unit {0}
LivesAcrossStatements (temp.Work w) = ⊥

-- what is known between two statements: no value
abbrev pub IsBetweenStatements : Typing → Type 0
IsBetweenStatements types = (t : Temp) (x : HeldType) → types t ≡ Some x → LivesAcrossStatements t

-- what is known is of temporaries that there are
abbrev pub AreTemps : Typing → Type 0
AreTemps types = (t : Temp) (x : HeldType) → types t ≡ Some x → IsTemp t

-- at most so many values are held, whichever of them are known
abbrev pub HoldsAtMost : ℕ → Typing → Type 0
HoldsAtMost limit types = (held : List ℕ) → IsDistinct nat_eq held → All (λ n. IsSome (types (temp.Value n))) held → length held ≤ limit

abbrev pub Holds : Typing → Temp → HeldType → Type 0
Holds types t x = IsTemp t × (types t ≡ Some x)

-- an integer of whatever type
abbrev pub HoldsInteger : Typing → Temp → Type 0
HoldsInteger types t = (i : IntegerType) × Holds types t (IntegerOf i)

-- a pointer of the node to u, or a place of u with this node
abbrev pub HoldsAddress : Typing → Temp → NodeId → TypeId → Type 0
HoldsAddress types t node u = Holds types t (PointerTo node u) ⊎ Holds types t (PlaceOf node u)

-- what can be tested for being true
abbrev pub HoldsScalar : Typing → Temp → Type 0
HoldsScalar types t = (x : HeldType) × Holds types t x

-- a value of type t
abbrev pub HoldsOf : Context → Typing → Temp → TypeId → Type 0
HoldsOf k types v t = IsScalar k t × IsTemp v × (types v ≡ held_by k t)

-- what is known behind an instruction that writes a temporary; less may be kept of it
abbrev pub Leaves : Typing → Temp → Option HeldType → Typing → Type 0
Leaves types into x after = IsTemp into × Includes (with_held into x types) after

-- Instructions

abbrev pub IsShapedSet : Set → Context → Typing → Typing → Type 0
IsShapedSet (set.Integer into z t) k types after =
    (i : IntegerType) × IsInteger k t i × (converted i z ≡ z) × Leaves types into (Some (IntegerOf i)) after
IsShapedSet (set.Null into t) k types after = (node : NodeId) × (u : TypeId) × IsPointer k t node u × Leaves types into (Some (PointerTo node u)) after
IsShapedSet (set.Function into f t) k types after = (node : NodeId) × (u v : TypeId) × IsPointer k t node u
    × (slice_get k.functions f.0 ≡ Some v) × ArePhysicallyEqual k u v × AreDeclaredAlike k.sites u v × Leaves types into (Some (PointerTo node u)) after
IsShapedSet (set.Object into o home t) k types after = IsObject k o home t × Leaves types into (Some (PlaceOf home t)) after
IsShapedSet (set.Copy into from) k types after = IsTemp from × Leaves types into (types from) after

-- the right operand of a shift may have a type of its own (C99 6.5.7)
abbrev pub IsRightOperand : Operator → Typing → Temp → IntegerType → Type 0
IsRightOperand operator.ShiftLeft types b i = HoldsInteger types b
IsRightOperand operator.ShiftRight types b i = HoldsInteger types b
IsRightOperand other types b i = Holds types b (IntegerOf i)

-- a comparison gives an int (C99 6.5.8, 6.5.9)
abbrev pub result_type : Operator → IntegerType → IntegerType
result_type (operator.Compare comparison) i = int
result_type other i = i

abbrev pub IsShapedCalculate : Calculate → Context → Typing → Typing → Type 0
IsShapedCalculate (calculate.Negate into a t) k types after = (i : IntegerType) × IsInteger k t i × Holds types a (IntegerOf i) × Leaves types into (Some (IntegerOf i)) after
IsShapedCalculate (calculate.Complement into a t) k types after = (i : IntegerType) × IsInteger k t i × Holds types a (IntegerOf i) × Leaves types into (Some (IntegerOf i)) after
IsShapedCalculate (calculate.Binary into operator a b t at) k types after = (i : IntegerType) × IsInteger k t i
    × Holds types a (IntegerOf i) × IsRightOperand operator types b i × Leaves types into (Some (IntegerOf (result_type operator i))) after
IsShapedCalculate (calculate.Truth into a) k types after = HoldsScalar types a × Leaves types into (Some (IntegerOf int)) after
IsShapedCalculate (calculate.Not into a) k types after = HoldsScalar types a × Leaves types into (Some (IntegerOf int)) after

-- what two pointers that are compared point to: for an order the same (C99 6.5.8)
abbrev pub AreComparable : Context → Comparison → TypeId → TypeId → Type 0
AreComparable k comparison.Equal u v = Unit {0}
AreComparable k comparison.Different u v = Unit {0}
AreComparable k order u v = ArePhysicallyEqual k u v

-- the address of an array that decays: without its check it has to be a place
abbrev pub HoldsArray : Bool → Typing → Temp → NodeId → TypeId → Type 0
HoldsArray true types from outer array = HoldsAddress types from outer array
HoldsArray false types from outer array = Holds types from (PlaceOf outer array)

abbrev pub IsShapedPoint : Point → Context → Typing → Typing → Type 0
IsShapedPoint (point.Move into p n way t at) k types after = (node : NodeId) × (u : TypeId) × IsPointer k t node u × IsObjectType k u
    × Holds types p (PointerTo node u) × HoldsInteger types n × Leaves types into (Some (PointerTo node u)) after
IsShapedPoint (point.Difference into a t b s at) k types after = (m n : NodeId) × (u v : TypeId) × IsPointer k t m u × IsPointer k s n v
    × IsObjectType k u × IsObjectType k v × ArePhysicallyEqual k u v
    × Holds types a (PointerTo m u) × Holds types b (PointerTo n v) × Leaves types into (Some (IntegerOf long)) after
IsShapedPoint (point.Compare into comparison a t b s at) k types after = (m n : NodeId) × (u v : TypeId) × IsPointer k t m u × IsPointer k s n v
    × AreComparable k comparison u v × Holds types a (PointerTo m u) × Holds types b (PointerTo n v) × Leaves types into (Some (IntegerOf int)) after
IsShapedPoint (point.IsNull into p t different) k types after = (node : NodeId) × (u : TypeId) × IsPointer k t node u
    × Holds types p (PointerTo node u) × Leaves types into (Some (IntegerOf int)) after
IsShapedPoint (point.Member into from outer t i inner u at) k types after = IsNode k outer × IsNode k inner
    × IsObjectType k t × IsAggregate k.table t × (i < length (members_at k.table t)) × (member_at k.table t i ≡ u)
    × HoldsAddress types from outer t × Leaves types into (Some (PlaceOf inner u)) after
IsShapedPoint (point.Decay into from outer array check inner element at) k types after = IsNode k outer × IsNode k inner × IsType k.table array
    × ((count : ℕ) × (shape_at k.table array ≡ shape.Array element count))
    × HoldsArray check types from outer array × Leaves types into (Some (PointerTo inner element)) after
IsShapedPoint (point.Address into from outer inner t) k types after = IsNode k outer × IsNode k inner × IsObjectType k t
    × Holds types from (PlaceOf outer t) × Leaves types into (Some (PointerTo inner t)) after

abbrev pub IsShapedConvert : Convert → Context → Typing → Typing → Type 0
IsShapedConvert (convert.Integer into from t) k types after = (i : IntegerType) × IsInteger k t i × HoldsInteger types from × Leaves types into (Some (IntegerOf i)) after
IsShapedConvert (convert.ToPointer into from t at) k types after = (node : NodeId) × (u : TypeId) × IsPointer k t node u
    × HoldsInteger types from × Leaves types into (Some (PointerTo node u)) after
IsShapedConvert (convert.FromPointer into from t s) k types after = (node : NodeId) × (u : TypeId) × (i : IntegerType) × IsPointer k t node u
    × IsInteger k s i × Holds types from (PointerTo node u) × Leaves types into (Some (IntegerOf i)) after
IsShapedConvert (convert.Pointer into from t s at) k types after = (m n : NodeId) × (u v : TypeId) × IsPointer k t m u × IsPointer k s n v
    × Holds types from (PointerTo m u) × Leaves types into (Some (PointerTo n v)) after

-- a value of type t may be stored there
abbrev pub IsTarget : Target → Context → Typing → TypeId → Type 0
IsTarget (target.Pointer p node) k types t = IsNode k node × HoldsAddress types p node t
IsTarget (target.Part o home u offset) k types t = IsObject k o home u × IsPart k.table u offset t

abbrev pub IsShapedAccess : Access → Context → Typing → Typing → Type 0
IsShapedAccess (access.Load into from node t at) k types after = IsNode k node × IsScalar k t
    × HoldsAddress types from node t × Leaves types into (held_by k t) after
IsShapedAccess (access.Store to v t at assignment) k types after = IsTarget to k types t × HoldsOf k types v t × Includes types after
IsShapedAccess (access.Clear o) k types after = IsSome (plan_of k o) × Includes types after
IsShapedAccess (access.Copy to to_place from node from_place t assignment) k types after = IsNode k node
    × IsObjectType k t × IsAggregate k.table t × IsTarget to k types t × HoldsAddress types from node t × Includes types after

-- a block is made for `void`, or for a complete type that a pointer type with this node points to
abbrev pub IsBlockType : Context → NodeId → TypeId → Type 0
IsBlockType k node t = IsType k.table t × ((shape_at k.table t ≡ shape.Void) ⊎ (IsComplete k.table t × ((p : TypeId) × IsPointer k p node t)))

abbrev pub IsShapedAllocate : Allocate → Context → Typing → Typing → Type 0
IsShapedAllocate (allocate.Malloc into n node t at) k types after = IsNode k node × IsBlockType k node t
    × Holds types n (IntegerOf unsigned_long) × Leaves types into (Some (PointerTo node t)) after
IsShapedAllocate (allocate.Calloc into m n node t at) k types after = IsNode k node × IsBlockType k node t
    × Holds types m (IntegerOf unsigned_long) × Holds types n (IntegerOf unsigned_long) × Leaves types into (Some (PointerTo node t)) after

-- the values from number `first` on are of the parameters' types
abbrev pub AreArguments : Context → Typing → ℕ → List TypeId → Type 0
AreArguments k types first parameters = (i : ℕ) (t : TypeId) → slice_get parameters i ≡ Some t → HoldsOf k types (temp.Value (first + i)) t

-- calls are made in functions alone
abbrev pub IsShapedCall : Call → Context → Typing → Typing → Type 0
IsShapedCall call k types after = (node : NodeId) × (u : TypeId) × (parameters : _) × (result : TypeId) × IsPointer k call.ty node u
    × (shape_at k.table u ≡ shape.Function parameters result) × (call.count ≡ length parameters) × IsSome k.result
    × Holds types call.callee (PointerTo node u) × AreArguments k types call.first parameters × Leaves types call.into (held_by k result) after

abbrev pub IsShapedRuntime : RuntimeCall → Context → Typing → Typing → Type 0
IsShapedRuntime (runtime.Free into p) k types after = HoldsScalar types p × Leaves types into None after
IsShapedRuntime (runtime.Getchar into) k types after = Leaves types into (Some (IntegerOf int)) after
IsShapedRuntime (runtime.Putchar into v) k types after = Holds types v (IntegerOf int) × Leaves types into (Some (IntegerOf int)) after
IsShapedRuntime (runtime.Exit into v) k types after = Holds types v (IntegerOf int) × Leaves types into None after

-- Code

-- the context inside a block or loop that begins with what `entry` knows: as much is known wherever it is left
abbrev pub inside : Context → Typing → Context
inside k entry = record k { blocks = suc k.blocks; kept = entry }

-- A block or loop that begins and ends with what `entry` knows stands between the two typings. It knows what is kept where the block around it
-- is left, which may be from inside it. Statements begin and end with it, so that it knows no value.
pub record Passes (types entry : Typing) (k : Context) (after : Typing) : Type 0 where
  pub between : IsBetweenStatements entry
  pub begins : Includes types entry
  pub keeps : Includes entry k.kept
  pub ends : Includes entry after

-- a function that gives nothing
abbrev pub GivesNothing : Context → Type 0
GivesNothing k = (t : TypeId) × (k.result ≡ Some t) × (shape_at k.table t ≡ shape.Void)

-- Code begins with what the first typing knows, and what the second knows holds behind it. What an instruction asks of kinds is among the sites. A block and a loop end with what they began with, so
-- that what the `switch` statements around keep is kept until they are left.
abbrev mutual
  pub IsShaped : Instr → Context → Typing → Typing → Type 0
  IsShaped (instr.Set i) k types after = IsShapedSet i k types after
  IsShaped (instr.Calculate i) k types after = IsShapedCalculate i k types after
  IsShaped (instr.Point i) k types after = IsShapedPoint i k types after × AreAmong k.sites (sites_of_point k.table i)
  IsShaped (instr.Convert i) k types after = IsShapedConvert i k types after × AreAmong k.sites (sites_of_convert k.table i)
  IsShaped (instr.Access i) k types after = IsShapedAccess i k types after × AreAmong k.sites (sites_of_access i)
  IsShaped (instr.Allocate i) k types after = IsShapedAllocate i k types after × AreAmong k.sites (sites_of_allocate i)
  IsShaped (instr.Call i) k types after = IsShapedCall i k types after
  IsShaped (instr.Runtime i) k types after = IsShapedRuntime i k types after
  IsShaped (instr.If' t shape code shape' other) k types after = HoldsScalar types t × IsRowShaped code k types after × IsRowShaped other k types after
  IsShaped (instr.Block' shape code) k types after = (entry : Typing) × Passes types entry k after × IsRowShaped code (inside k entry) entry entry
  IsShaped (instr.Loop' shape code) k types after = (entry : Typing) × Passes types entry k after × IsRowShaped code (inside k entry) entry entry
  IsShaped (instr.Break n) k types after = (n < k.blocks) × Includes types k.kept × Includes types after
  IsShaped instr.Return k types after = GivesNothing k × Includes types after
  IsShaped (instr.ReturnValue v t at) k types after = (k.result ≡ Some t) × HoldsOf k types v t × Includes types after

  -- instructions in order, as an instruction holds them
  pub IsRowShaped : {m : _} → Row_of-Instr m → Context → Typing → Typing → Type 0
  IsRowShaped end_of-Instr k types after = Includes types after
  IsRowShaped (more_of-Instr i rest) k types after = (middle : Typing) × IsShaped i k types middle × IsRowShaped rest k middle after

-- instructions in order
abbrev pub AreShaped : List Instr → Context → Typing → Typing → Type 0
AreShaped [] k types after = Includes types after
AreShaped (i ∷ is) k types after = (middle : Typing) × IsShaped i k types middle × AreShaped is k middle after
