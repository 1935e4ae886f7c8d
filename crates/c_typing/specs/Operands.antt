-- Operands: parts of an expression as they were judged, and the values that are taken of them (C99 6.3.2.1).
use Rattle.std.specs.Prelude.{ℕ, Bool, true, false}
use Rattle.cc_base.specs.declared.place.Place.{Place}
use Rattle.cc_base.specs.declared.number.NodeId.{NodeId}
use Rattle.cc_base.specs.declared.number.TypeId.{TypeId}
use Rattle.cc_base.specs.declared.fault.Fault.TheVariants.{TooLarge}
use Rattle.cc_base.specs.declared.fault.Limit.TheVariants.{Types}
use Rattle.c_types.specs.declared.shape.TypeShape.{TypeShape}
use Rattle.c_types.specs.declared.shape.TypeShape.TheVariants as shape
use Rattle.c_types.specs.Table.{shape_at}
use Rattle.c_tree.specs.TypedTree as typed
use Rattle.c_tree.specs.TypedTree.{TypedExpr, TypedPlace}
use Rattle.c_tree.specs.TypedParts.{place_type}
use Rattle.c_typing.specs.declared.typing.Reading.{Reading}
use Rattle.c_typing.specs.declared.typing.Reading.TheVariants as reading
use Rattle.c_typing.specs.Conversions.{is_pointer_to_complete}
use Rattle.c_typing.specs.Tests as tests
use Rattle.c_typing.specs.Tests.{Elaborated, AsPlace, AsValue, AsAllocation}
use Rattle.c_typing.specs.Judging.{Judging, pure, stop, by_known, ◌>>=◌, new_pointer, void_type}

-- A part, the place of its first token, and how many values it holds at once.
pub record Operand : Type 0 where
  pub part : Elaborated
  pub place : Place
  pub held : ℕ

-- The value of one.
pub record Value : Type 0 where
  pub expr : TypedExpr
  pub place : Place
  pub held : ℕ

-- an allocation with a node and a type of its own, and one for what a pointer type points to
abbrev pub made_raw : NodeId → TypeId → TypedExpr → TypedExpr
made_raw n t (typed.Paren at e) = typed.Paren at (made_raw n t e)
made_raw n t (typed.AllocateFor runtime f at arguments u) = typed.Allocate runtime f at arguments n t
made_raw n t e = e

abbrev pub made_for : TypeId → TypedExpr → TypedExpr
made_for t (typed.Paren at e) = typed.Paren at (made_for t e)
made_for t (typed.AllocateFor runtime f at arguments u) = typed.AllocateFor runtime f at arguments t
made_for t e = e

-- how the value of a place of a type with this shape is taken; no place is of `void` or of a function type
abbrev pub reading_of : TypeShape → Reading
reading_of (shape.Array element count) = reading.Decays element
reading_of (shape.Integer bytes signed) = reading.Reads
reading_of (shape.Pointer n t) = reading.Reads
reading_of (shape.Struct number) = reading.Stays
reading_of (shape.Union number) = reading.Stays
reading_of shape.Void = reading.Nothing
reading_of (shape.Function parameters result) = reading.Nothing

-- the value of a place: an array's is its address
unfoldable pub place_value : Place → TypedPlace → Reading → Judging TypedExpr
place_value at p (reading.Decays element) = do
  made ← new_pointer at element
  pure (typed.Decay p made.node made.type)
place_value at p reading.Reads = pure (typed.Read p)
place_value at p reading.Stays = pure (typed.Unread p)
place_value at p reading.Nothing = stop (TooLarge at Types)

-- an allocation that nothing takes over is of raw bytes
unfoldable pub raw_value : Place → TypedExpr → Judging TypedExpr
raw_value at e = do
  made ← new_pointer at void_type
  pure (made_raw made.node made.type e)

unfoldable pub value_of : Place → Elaborated → Judging TypedExpr
value_of at (AsPlace p) = by_known (λ s. place_value at p (reading_of (shape_at s.table (place_type p))))
value_of at (AsValue e) = pure e
value_of at (AsAllocation e) = raw_value at e

unfoldable pub value : Operand → Judging Value
value x = do
  e ← value_of x.place x.part
  pure (record { expr = e; place = x.place; held = x.held })

-- a value where a struct may stand: a struct that is not read is the place that it is
abbrev pub side_of : TypedExpr → Elaborated
side_of (typed.Unread p) = AsPlace p
side_of e = AsValue e

-- what is given to the type: an allocation is taken over by a pointer to a complete type
unfoldable pub given_allocation : TypeId → Place → TypedExpr → Bool → Judging Elaborated
given_allocation t at e true = pure (AsAllocation (made_for t e))
given_allocation t at e false = do
  v ← raw_value at e
  pure (AsValue v)

unfoldable pub given : TypeId → Place → Elaborated → Judging Elaborated
given t at (AsAllocation e) = by_known (λ s. given_allocation t at e (is_pointer_to_complete s.table s.seen.scopes t))
given t at x = do
  v ← value_of at x
  pure (side_of v)

abbrev pub argument_of : Value → tests.Argument
argument_of v = record { part = AsValue v.expr; place = v.place }
