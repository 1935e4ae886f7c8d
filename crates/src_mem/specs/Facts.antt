-- What is true of the memory and of every pointer at each moment of a run that is not wrong: of a pointer by its kind and by the
-- type that it points to, of an object by whether it carries tags, and of how long objects live. Each step of a run keeps these
-- facts, and the simulation of cured code rests on them. What is said of a pointer reads outlines and lives of objects alone, which
-- a store, a clearing and a copy leave as they are; the end of a call changes lives.
use Rattle.std.specs.Prelude.{◌≡◌, ◌≢◌, ℕ, ◌+◌, ◌-◌, ◌%◌, ◌^◌, ◌<◌, ◌≤◌, ◌≤ℤ◌, ⊤, ℤ, pos, neg_ℤ, ◌+ℤ◌, true, List, [], map, length, slice_get, Some, IsTrue, IsFalse}
use Rattle.std.specs.List.{Contains}
use Rattle.cc_base.specs.declared.number.TypeId.{TypeId}
use Rattle.cc_base.specs.declared.number.NodeId.{NodeId}
use Rattle.cc_base.specs.declared.kind.Kind.{Kind}
use Rattle.cc_base.specs.declared.kind.Kind.TheVariants.{Safe, Seq, Rtti, Wild}
use Rattle.flat_mem.specs.Bytes.{number, AreBytes}
use Rattle.integers.specs.Words.{residue}
use Rattle.kind_sites.specs.declared.site.Site.{Site}
use Rattle.kind_sites.specs.declared.site.Site.TheVariants as site
use Rattle.c_types.specs.declared.shape.TypeShape.TheVariants as shape
use Rattle.c_types.specs.Table.{HasShape, IsComplete, is_function}
use Rattle.c_types.specs.Layouts.{size_of}
use Rattle.c_types.specs.Cells.{Cell, pointer, IsBetweenPointers}
use Rattle.c_types.specs.Equality.{cells_of, repeated_cell}
use Rattle.c_types.specs.Flows.{IsOfOneClass, Covers, CellsAgree}
use Rattle.src_mem.specs.Pointers.{Location, Pointer, Null, Number, At, Function, distance}
use Rattle.src_mem.specs.Memory.{Object, Memory}
use Rattle.src_mem.specs.Outlines.{Outline, Life, outline, life, outlines_of, lives_of, AreOutlines, LivesAt, AreNoDeeper}
use Rattle.src_mem.specs.State.{Defined, Setting}

-- Cells

-- the cells from `at` on, up to `high`, hold a type: there is room for it, and they agree with its cells one by one
pub record HoldType (w : Setting) (cells : List Cell) (at high : ℕ) (t : TypeId) : Type 0 where
  pub room : at + length (cells_of w.table t) ≤ high
  pub agree : (i : ℕ) (d : Cell) → slice_get (cells_of w.table t) i ≡ Some d
      → (c : Cell) × (slice_get cells (at + i) ≡ Some c) × CellsAgree w.table w.kind c d

-- the cells from `low` up to `high` begin the endless repetition of a type: no fact of a pointer, but what its shrinking asks of two types
pub record RepeatType (w : Setting) (cells : List Cell) (low high : ℕ) (t : TypeId) : Type 0 where
  pub agree : (i : ℕ) → low + i < high
      → (c : Cell) × (slice_get cells (low + i) ≡ Some c) × CellsAgree w.table w.kind c (repeated_cell (cells_of w.table t) i)

-- the cells from `low` up to `high`, again and again, are the endless repetition of a type. Of an empty part that says nothing: what fills it is
-- told by the pointer type of its allocation, below.
pub record RepeatAlike (w : Setting) (cells : List Cell) (low high : ℕ) (t : TypeId) : Type 0 where
  pub agree : low < high → (i : ℕ)
      → (c : Cell) × (slice_get cells (low + i % (high - low)) ≡ Some c) × CellsAgree w.table w.kind c (repeated_cell (cells_of w.table t) i)

-- a block of an allocation with this node is one for a type: the type's endless repetition is that of what a pointer type with the node points to
pub record IsBlockFor (w : Setting) (node : NodeId) (t : TypeId) : Type 0 where
  pub pointer : TypeId
  pub to : TypeId
  pub is : HasShape w.table pointer (shape.Pointer node to)
  pub agree : (i : ℕ) → CellsAgree w.table w.kind (repeated_cell (cells_of w.table to) i) (repeated_cell (cells_of w.table t) i)

-- the endless repetition of a type is the same when it is shifted by a distance
pub record IsSameShifted (w : Setting) (t : TypeId) (by : ℤ) : Type 0 where
  pub agree : (i : ℕ)
      → CellsAgree w.table w.kind (repeated_cell (cells_of w.table t) (residue (by +ℤ pos i) (size_of w.table t)))
      (repeated_cell (cells_of w.table t) i)

-- Pointers

-- an object carries tags where its home, or its allocation, is WILD
abbrev pub IsTagged : Setting → Outline → Type 0
IsTagged w o = w.kind o.node ≡ Wild

-- what is true of each pointer to an object, whatever its kind
pub record IsLocated (outlines : List Outline) (l : Location) (o : Outline) : Type 0 where
  pub found : slice_get outlines l.object ≡ Some o
  pub ordered : l.part.low ≤ l.part.high
  pub inside : l.part.high ≤ o.size

-- and of each but a WILD one: its object carries no tags, and its part cuts no pointer
pub record IsTyped (w : Setting) (l : Location) (o : Outline) : Type 0 where
  pub untagged : w.kind o.node ≢ Wild
  pub low : IsBetweenPointers o.cells l.part.low
  pub high : IsBetweenPointers o.cells l.part.high

-- it stands in its part, at `at`, and cuts no pointer
pub record StandsAt (l : Location) (o : Outline) (at : ℕ) : Type 0 where
  pub offset : l.offset ≡ pos at
  pub low : l.part.low ≤ at
  pub high : at ≤ l.part.high
  pub whole : IsBetweenPointers o.cells at

-- SAFE, to the data type t: what it points to is there, and it was made for it or for what begins with it
pub record IsSafeAt (w : Setting) (outlines : List Outline) (t : TypeId) (l : Location) : Type 0 where
  pub object : Outline
  pub at : ℕ
  pub located : IsLocated outlines l object
  pub typed : IsTyped w l object
  pub stands : StandsAt l object at
  pub data_type : IsFalse (is_function w.table t)
  pub holds : HoldType w object.cells at l.part.high t
  pub covers : Covers w.table w.kind l.made t

-- RTTI: what it was made for is there, and covers what it points to
pub record IsTypedAt (w : Setting) (outlines : List Outline) (t : TypeId) (l : Location) : Type 0 where
  pub object : Outline
  pub at : ℕ
  pub located : IsLocated outlines l object
  pub typed : IsTyped w l object
  pub stands : StandsAt l object at
  pub holds : HoldType w object.cells at l.part.high l.made
  pub covers : Covers w.table w.kind l.made t

-- how far a SEQ pointer gets from the start of its part, and a WILD one from that of its object
abbrev pub sequence_least : ℤ
sequence_least = neg_ℤ (pos (2 ^ 51))

abbrev pub sequence_most : ℤ
sequence_most = pos (2 ^ 51 + 2 ^ 20)

abbrev pub wild_least : ℤ
wild_least = neg_ℤ (pos (2 ^ 40))

abbrev pub wild_most : ℤ
wild_most = pos (2 ^ 40)

-- SEQ: its part, again and again, is filled by elements of what it points to, and it stands at one of them, if it moves on in these
-- steps. An empty part is that of a block, made for a pointer to such elements. So all pointers of one part move alike, also outside
-- of it. What has no size is `void`, to which it stands where its part begins; of that part nothing is said.
pub record IsSequenceAt (w : Setting) (outlines : List Outline) (t : TypeId) (l : Location) : Type 0 where
  pub object : Outline
  pub located : IsLocated outlines l object
  pub typed : IsTyped w l object
  pub made : IsOfOneClass w.table w.kind l.made t
  pub least : sequence_least ≤ℤ distance l
  pub most : distance l ≤ℤ sequence_most
  pub filled : IsComplete w.table t → RepeatAlike w object.cells l.part.low l.part.high t
  pub blank : IsComplete w.table t → l.part.low ≡ l.part.high → IsBlockFor w object.node t
  pub shifted : IsComplete w.table t → IsSameShifted w t (distance l)
  pub unmoved : (IsComplete w.table t → ⊥) → (cells_of w.table t ≡ []) × (distance l ≡ pos 0)

-- WILD: its object carries tags, and its part is the whole object
pub record IsWildAt (w : Setting) (outlines : List Outline) (l : Location) : Type 0 where
  pub object : Outline
  pub found : slice_get outlines l.object ≡ Some object
  pub tagged : IsTagged w object
  pub low : l.part.low ≡ 0
  pub high : l.part.high ≡ object.size
  pub least : wild_least ≤ℤ l.offset
  pub most : l.offset ≤ℤ wild_most

-- the pointer is a function whose type is of one class with t
pub record IsFunctionOf (w : Setting) (t : TypeId) (f : ℕ) : Type 0 where
  pub function : Defined
  pub found : slice_get w.functions f ≡ Some function
  pub type : IsTrue (is_function w.table t)
  pub class : IsOfOneClass w.table w.kind function.type t

-- what a pointer is that was made from an integer: one word, which isn't 0
abbrev pub IsWord : ℕ → Type 0
IsWord n = (n ≢ 0) × (n < 2 ^ 64)

-- the value is one of a pointer of this kind to t
abbrev pub IsValueOf : Setting → List Outline → Kind → TypeId → Pointer → Type 0
IsValueOf w outlines kind t Null = ⊤
IsValueOf w outlines Safe t (Number n) = ⊥
IsValueOf w outlines Rtti t (Number n) = ⊥
IsValueOf w outlines Seq t (Number n) = IsWord n
IsValueOf w outlines Wild t (Number n) = IsWord n
IsValueOf w outlines Safe t (At l) = IsSafeAt w outlines t l
IsValueOf w outlines Rtti t (At l) = IsTypedAt w outlines t l
IsValueOf w outlines Seq t (At l) = IsSequenceAt w outlines t l
IsValueOf w outlines Wild t (At l) = IsWildAt w outlines l
IsValueOf w outlines Safe t (Function f) = IsFunctionOf w t f
IsValueOf w outlines Rtti t (Function f) = ⊥
IsValueOf w outlines Seq t (Function f) = ⊥
IsValueOf w outlines Wild t (Function f) = (d : Defined) × (slice_get w.functions f ≡ Some d)

-- the type at which a pointer to an object was made is what some pointer of the program points to
abbrev pub IsMade : List Site → Pointer → Type 0
IsMade sites (At l) = (node : NodeId) × Contains sites (site.Pointee node l.made)
IsMade sites p = ⊤

-- Temporaries

-- the object of a pointer lives, and was made no deeper than this
abbrev pub Reaches : List Life → ℕ → Pointer → Type 0
Reaches lives depth (At l) = LivesAt lives depth l.object
Reaches lives depth p = ⊤

-- a pointer of this kind to t that a call of this depth may hold in a temporary; 0 is the depth of the static initialisers
pub record IsHeld (w : Setting) (outlines : List Outline) (lives : List Life) (depth : ℕ) (kind : Kind) (t : TypeId) (p : Pointer) : Type 0 where
  pub value : IsValueOf w outlines kind t p
  pub reaches : Reaches lives depth p

-- the same in a memory
abbrev pub IsHeldIn : Setting → Memory → ℕ → Kind → TypeId → Pointer → Type 0
IsHeldIn w memory depth kind t p = IsHeld w (outlines_of memory) (lives_of memory) depth kind t p

-- A pointer that a temporary of this node, to t, holds. Where a pointer type of the program has the node, it was made for what a
-- pointer of the program points to; the home of a variable that has another type is a node of its own.
pub record IsHeldBy (w : Setting) (sites : List Site) (memory : Memory) (depth : ℕ) (node : NodeId) (t : TypeId) (p : Pointer) : Type 0 where
  pub held : IsHeldIn w memory depth (w.kind node) t p
  pub made : Contains sites (site.Pointee node t) → IsMade sites p

-- Places

-- something that holds t stands where the pointer stands, within its part
pub record IsTypedPlace (w : Setting) (outlines : List Outline) (t : TypeId) (l : Location) : Type 0 where
  pub object : Outline
  pub at : ℕ
  pub located : IsLocated outlines l object
  pub typed : IsTyped w l object
  pub stands : StandsAt l object at
  pub holds : HoldType w object.cells at l.part.high t

abbrev pub IsPlaceAt : Setting → List Outline → Kind → TypeId → Location → Type 0
IsPlaceAt w outlines Safe t l = IsTypedPlace w outlines t l
IsPlaceAt w outlines Rtti t l = IsTypedPlace w outlines t l
IsPlaceAt w outlines Seq t l = IsTypedPlace w outlines t l
IsPlaceAt w outlines Wild t l = IsWildAt w outlines l

-- A place of type t, through a pointer of this kind, for a call of this depth: a living object that holds t where the pointer stands,
-- or one with tags, where the pointer may stand outside. It is what a held pointer is once NULL, BOUNDS or WBOUNDS held.
pub record IsPlace (w : Setting) (outlines : List Outline) (lives : List Life) (depth : ℕ) (kind : Kind) (t : TypeId) (p : Pointer) : Type 0 where
  pub location : Location
  pub is : p ≡ At location
  pub place : IsPlaceAt w outlines kind t location
  pub reaches : LivesAt lives depth location.object

abbrev pub IsPlaceIn : Setting → Memory → ℕ → Kind → TypeId → Pointer → Type 0
IsPlaceIn w memory depth kind t p = IsPlace w (outlines_of memory) (lives_of memory) depth kind t p

-- Objects

-- a pointer is stored in an object without tags only where a pointer of its type begins, and as one of that kind and type
pub record IsStoredTyped (w : Setting) (outlines : List Outline) (o : Outline) (k : ℕ) (p : Pointer) : Type 0 where
  pub node : NodeId
  pub to : TypeId
  pub begins : slice_get o.cells k ≡ Some (pointer node to 0)
  pub value : IsValueOf w outlines (w.kind node) to p

-- and in one with tags only at a multiple of 8, whole, and as a WILD pointer
pub record IsStoredTagged (w : Setting) (outlines : List Outline) (o : Outline) (k : ℕ) (p : Pointer) : Type 0 where
  pub aligned : k % 8 ≡ 0
  pub inside : k + 8 ≤ o.size
  pub value : (t : TypeId) → IsValueOf w outlines Wild t p

-- a living object
pub record IsSoundObject (w : Setting) (sites : List Site) (outlines : List Outline) (lives : List Life) (o : Object) : Type 0 where
  pub sized : length o.bytes ≡ o.size
  pub bytes : AreBytes o.bytes
  pub typed : w.kind o.node ≢ Wild → (k : ℕ) (p : Pointer) → o.pointers k ≡ Some p → IsStoredTyped w outlines (outline o) k p
  pub tagged : w.kind o.node ≡ Wild → (k : ℕ) (p : Pointer) → o.pointers k ≡ Some p → IsStoredTagged w outlines (outline o) k p
  -- the bytes under a stored pointer, and all those that are of pointers by the object's type, are zero
  pub under : (k : ℕ) (p : Pointer) → o.pointers k ≡ Some p → number 8 o.bytes k ≡ 0
  pub zeros : w.kind o.node ≢ Wild → (k : ℕ) (n : NodeId) (t : TypeId) → slice_get o.cells k ≡ Some (pointer n t 0) → number 8 o.bytes k ≡ 0
  -- what is stored in it lives as long as it does, and was made for what a pointer of the program points to
  pub reaches : (k : ℕ) (p : Pointer) → o.pointers k ≡ Some p → Reaches lives o.depth p
  pub made : (k : ℕ) (p : Pointer) → o.pointers k ≡ Some p → IsMade sites p

-- all that live
pub record AreSound (w : Setting) (sites : List Site) (objects : List Object) : Type 0 where
  pub each : (number : ℕ) (o : Object) → slice_get objects number ≡ Some o → o.live ≡ true
      → IsSoundObject w sites (map outline objects) (map life objects) o

abbrev pub IsSoundMemory : Setting → List Site → Memory → Type 0
IsSoundMemory w sites memory = AreSound w sites memory.objects

-- The facts of all memory while a call of this depth runs: of its living objects, of the cells of all, and of how deep they live.
pub record IsSoundAt (w : Setting) (sites : List Site) (memory : Memory) (depth : ℕ) : Type 0 where
  pub objects : AreSound w sites memory.objects
  pub outlines : AreOutlines w (outlines_of memory)
  pub lives : AreNoDeeper (lives_of memory) depth
