use Rattle.std.specs.Prelude.{◌≡◌, ◌<◌, ⊤, true, false, map, List, [], ◌∷◌, length, slice_set}
use Rattle.std.specs.List.{All}
use Rattle.cc_base.specs.declared.number.TypeId.{TypeId}
use Rattle.cc_base.specs.declared.fault.Limit.TheVariants.{Types, Object}
use Rattle.c_types.specs.declared.fault.TypeFault.{TypeFault}
use Rattle.c_types.specs.declared.fault.TypeFault.TheVariants.{TooLarge, NoMemory}
use Rattle.c_types.specs.declared.layout.Layout.{Layout}
use Rattle.c_types.specs.declared.shape.TypeShape.{TypeShape}
use Rattle.c_types.specs.declared.shape.TypeShape.TheVariants.{Void, Integer, Array}
use Rattle.c_types.specs.Table.{Table, Entry, IsType, IsComplete, IsAggregate, HasShape, shape_at, members_at, named_by}
use Rattle.c_types.specs.Layouts.{layout_of, layout_of_shape}
use Rattle.c_types.specs.Sound.{IsProper}

-- What the calls of `Types` ask for and do.

-- the entry of a type that has no members so far
abbrev pub basic_entry : TypeShape → Entry
basic_entry shape = record { shape = shape; members = [] }

-- the table of `Types::new`: `void`, and the signed and unsigned integers of 1, 2, 4 and 8 bytes
abbrev pub basic_table : Table
basic_table = map basic_entry (
    Void
    ∷ Integer 1 true ∷ Integer 1 false ∷ Integer 2 true ∷ Integer 2 false
    ∷ Integer 4 true ∷ Integer 4 false ∷ Integer 8 true ∷ Integer 8 false ∷ [])

-- the faults that a call of `Types` can have
abbrev pub IsTypeFault : TypeFault → Type 0
IsTypeFault (TooLarge Types) = ⊤
IsTypeFault (TooLarge Object) = ⊤
IsTypeFault (TooLarge limit) = ⊥
IsTypeFault NoMemory = ⊤

-- no type of the table has the shape
abbrev pub IsNew : Table → TypeShape → Type 0
IsNew table shape = (t : TypeId) → HasShape table t shape → ⊥

abbrev pub has_complete_parts : Table → TypeShape → Type 0
has_complete_parts table (Array element count) = IsComplete table element
has_complete_parts table shape = ⊤

-- the shape may be added: what it names is in the table, and an array has an element, of a complete type
pub record IsAddable (table : Table) (shape : TypeShape) : Type 0 where
  pub proper : IsProper shape
  pub named : All (IsType table) (named_by shape)
  pub parts : has_complete_parts table shape

-- t may be given these members: it is a struct or union without members so far, there is a member, and all are complete
pub record IsDefinable (table : Table) (t : TypeId) (members : List TypeId) : Type 0 where
  pub typed : IsType table t
  pub aggregate : IsAggregate table t
  pub unset : members_at table t ≡ []
  pub some : 0 < length members
  pub complete : All (IsComplete table) members

-- the layout of a shape that has no members so far
abbrev pub new_layout : Table → TypeShape → Layout
new_layout table shape = layout_of_shape (layout_of table) shape []

-- the table with the members of t defined
abbrev pub with_members : Table → TypeId → List TypeId → Table
with_members table t members = slice_set table t.0 (record { shape = shape_at table t; members = members })

-- the layout of t with these members
abbrev pub defined_layout : Table → TypeId → List TypeId → Layout
defined_layout table t members = layout_of_shape (layout_of table) (shape_at table t) members
