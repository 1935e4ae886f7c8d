-- What operations leave of the facts, in the words of their laws.
use Rattle.std.specs.Prelude.{◌≡◌, ℕ, suc, ◌+◌, ◌≤◌, ℤ, true, ⊤, ◌⊎◌, List, [], ◌∷◌, ◌++◌, map, length, slice_get, Some}
use Rattle.std.specs.List.{Contains}
use Rattle.cc_base.specs.declared.kind.Kind.{Kind}
use Rattle.cc_base.specs.declared.number.TypeId.{TypeId}
use Rattle.cc_base.specs.declared.number.NodeId.{NodeId}
use Rattle.kind_sites.specs.declared.site.Site.{Site}
use Rattle.kind_sites.specs.declared.site.Site.TheVariants as site
use Rattle.c_types.specs.declared.shape.TypeShape.{TypeShape}
use Rattle.c_types.specs.declared.shape.TypeShape.TheVariants as shape
use Rattle.c_types.specs.Table.{HasShape, IsComplete, shape_at}
use Rattle.c_types.specs.Layouts.{size_of}
use Rattle.c_types.specs.Cells.{Cell}
use Rattle.c_types.specs.Equality.{cells_of}
use Rattle.c_types.specs.Flows.{CellsAgree}
use Rattle.kind_sites.specs.Solutions.{IsFlowAllowed, IsPointeeAllowed, IsPlain, SpreadsWild}
use Rattle.integers.specs.Arithmetic.{IntegerType, converted}
use Rattle.src_mem.specs.Pointers.{Pointer, Value, Integer, Address}
use Rattle.src_mem.specs.Memory.{Object, Memory, Planned, new_variable}
use Rattle.src_mem.specs.State.{State, Setting}
use Rattle.src_mem.specs.Checks.{Condition, NotNull, InBounds, InObject, IsNotOfFrame, by_kind, holds, conditions_of_allocation}
use Rattle.src_mem.specs.Outlines.{Outline, Life, outline, life, outlines_of, lives_of}
use Rattle.src_mem.specs.Facts.{IsHeldIn, IsMade, IsSoundMemory, IsSoundAt}

-- Conditions

-- all conditions hold
abbrev pub AllHold : Setting → Memory → List Condition → Type 0
AllHold w memory [] = ⊤
AllHold w memory (c ∷ cs) = (holds w memory c ≡ true) × AllHold w memory cs

-- what is asked before m bytes are used, by kind: NULL, BOUNDS or WBOUNDS
abbrev pub asked_of : ℕ → Kind → Pointer → List Condition
asked_of m k p = by_kind k (NotNull p ∷ []) (InBounds m p ∷ []) (InObject m p ∷ [])

-- What is given

-- A conversion of a pointer of one node to one of another that the sites of a program tell of and a solution of its kinds allows.
pub record IsFlow (w : Setting) (sites : List Site) (m : NodeId) (t : TypeId) (n : NodeId) (u : TypeId) : Type 0 where
  pub flow : IsFlowAllowed w.table sites w.kind m t n u
  pub source : IsPointeeAllowed w.table w.kind m t
  pub target : IsPointeeAllowed w.table w.kind n u
  pub told : Contains sites (site.Pointee n u)

-- the memory is as it was, and the pointer may be held in a call of this depth
pub record GivesPointer (w : Setting) (sites : List Site) (depth : ℕ) (kind : Kind) (t : TypeId) (old : State) (p : Pointer)
    (new : State) : Type 0 where
  pub memory : new.memory ≡ old.memory
  pub held : IsHeldIn w old.memory depth kind t p
  pub made : IsMade sites p

-- the same of a value, which is that pointer
pub record GivesAddress (w : Setting) (sites : List Site) (depth : ℕ) (kind : Kind) (t : TypeId) (old : State) (v : Value)
    (new : State) : Type 0 where
  pub pointer : Pointer
  pub is : v ≡ Address pointer
  pub gives : GivesPointer w sites depth kind t old pointer new

-- the memory is as it was, and the integer is one of this type
pub record GivesInteger (t : IntegerType) (old : State) (z : ℤ) (new : State) : Type 0 where
  pub word : ℤ
  pub is : z ≡ converted t word
  pub memory : new.memory ≡ old.memory

-- the same of a value, which is that integer
pub record GivesIntegerValue (t : IntegerType) (old : State) (v : Value) (new : State) : Type 0 where
  pub integer : ℤ
  pub is : v ≡ Integer integer
  pub gives : GivesInteger t old integer new

-- the memory is sound, and its objects are what they were but for their contents
pub record IsKept (w : Setting) (sites : List Site) (old new : Memory) : Type 0 where
  pub sound : IsSoundMemory w sites new
  pub outlines : outlines_of new ≡ outlines_of old
  pub lives : lives_of new ≡ lives_of old

-- A block was made for a pointer of this node to t, or none; what is given may be held once it passes what is asked of an allocation.
pub record GivesBlock (w : Setting) (sites : List Site) (depth : ℕ) (node : NodeId) (t : TypeId) (old : State) (p : Pointer)
    (new : State) : Type 0 where
  pub more : List Object
  pub grown : new.memory.objects ≡ old.memory.objects ++ more
  pub sound : IsSoundAt w sites new.memory depth
  pub held : AllHold w new.memory (conditions_of_allocation (w.kind node) (size_of w.table t) p) → IsHeldIn w new.memory depth (w.kind node) t p
  pub made : Contains sites (site.Pointee node t) → IsMade sites p

-- what a block may be made of for a pointer of the node: a type that has a size and that a pointer type with this node points to, or `void`
abbrev pub MakesBlocks : Setting → NodeId → TypeId → Type 0
MakesBlocks w node t = (shape_at w.table t ≡ shape.Void) ⊎ (IsComplete w.table t × ((p : TypeId) × HasShape w.table p (shape.Pointer node t)))

-- v stands at an offset in t: its cells agree with those of t there
pub record IsSub (w : Setting) (t : TypeId) (offset : ℕ) (v : TypeId) : Type 0 where
  pub room : offset + length (cells_of w.table v) ≤ length (cells_of w.table t)
  pub agree : (j : ℕ) (d : Cell) → slice_get (cells_of w.table v) j ≡ Some d
      → (c : Cell) × (slice_get (cells_of w.table t) (offset + j) ≡ Some c) × CellsAgree w.table w.kind c d

-- Calls

-- What a call of this depth sees of later objects: those that were there are there, with their outlines, and those that are no
-- deeper live as they did. It may hold what it held.
pub record IsLater (depth : ℕ) (old new : List Object) : Type 0 where
  pub more : List Outline
  pub outlines : map outline new ≡ map outline old ++ more
  pub lives : (k : ℕ) (x : Life) → slice_get (map life old) k ≡ Some x → x.depth ≤ depth → slice_get (map life new) k ≡ Some x

-- a variable of a frame: its type has a size, its home is SAFE or WILD, and in a WILD one all pointers are WILD
pub record IsVariable (w : Setting) (v : Planned) : Type 0 where
  pub complete : IsComplete w.table v.type
  pub plain : IsPlain w.kind v.node
  pub spreads : SpreadsWild w.table w.kind v.node v.type

-- an argument is a value of the variable that it is stored in: an integer, or a pointer that the caller may hold
abbrev pub IsArgumentOf : Setting → List Site → Memory → ℕ → TypeShape → Value → Type 0
IsArgumentOf w sites memory depth (shape.Integer bytes signed) (Integer z) = ⊤
IsArgumentOf w sites memory depth (shape.Pointer node to) (Address p) = IsHeldIn w memory depth (w.kind node) to p × IsMade sites p
IsArgumentOf w sites memory depth other v = ⊥

-- these are arguments of the variables, one each and in order
abbrev pub AreArgumentsOf : Setting → List Site → Memory → ℕ → List Planned → List Value → Type 0
AreArgumentsOf w sites memory depth variables [] = ⊤
AreArgumentsOf w sites memory depth [] (v ∷ vs) = ⊥
AreArgumentsOf w sites memory depth (x ∷ xs) (v ∷ vs) =
    IsArgumentOf w sites memory depth (shape_at w.table x.type) v × AreArgumentsOf w sites memory depth xs vs

-- a call has begun: the variables are there behind the objects that were, and the facts hold for the call
pub record HasEntered (w : Setting) (sites : List Site) (depth : ℕ) (variables : List Planned) (old new : Memory) : Type 0 where
  pub outlines : outlines_of new ≡ outlines_of old ++ map outline (map (new_variable w.table (suc depth)) variables)
  pub lives : lives_of new ≡ lives_of old ++ map life (map (new_variable w.table (suc depth)) variables)
  pub later : IsLater depth old.objects new.objects
  pub sound : IsSoundAt w sites new (suc depth)

-- a call has ended: the facts hold for its caller, and what passed the check of a return may be held there
pub record HasLeft (w : Setting) (sites : List Site) (depth : ℕ) (old new : Memory) : Type 0 where
  pub later : IsLater depth old.objects new.objects
  pub sound : IsSoundAt w sites new depth
  pub returned : (kind : Kind) (t : TypeId) (p : Pointer) → IsHeldIn w old (suc depth) kind t p → holds w old (IsNotOfFrame (suc depth) p) ≡ true
      → IsHeldIn w new depth kind t p
