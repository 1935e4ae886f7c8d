-- What laws of the rules over two tables ask of the operands of a construct.
use Rattle.std.specs.Prelude.{List, [], ◌∷◌, Option, None, Some}
use Rattle.c_types.specs.Table.{Table, IsType}
use Rattle.c_typing.specs.declared.declared.Tag.{Tag}
use Rattle.c_typing.specs.Assignments.{part_type}
use Rattle.c_typing.specs.Scopes.{Scopes}
use Rattle.c_typing.specs.Settled.{IsPartTyped, IsTagThere}
use Rattle.c_typing.specs.Tests.{Elaborated, Argument}

-- the part is well typed among some scopes, and its type is in the table
pub record IsPartThere (table : Table) (x : Elaborated) : Type 0 where
  pub before : Scopes
  pub after : Scopes
  pub typed : IsPartTyped table x before after
  pub type : IsType table (part_type x)

-- so it is with each argument
abbrev pub AreArgumentsThere : Table → List Argument → Type 0
AreArgumentsThere table [] = Unit {0}
AreArgumentsThere table (a ∷ list) = IsPartThere table a.part × AreArgumentsThere table list

-- the type of a tag is in the table, where there is one
abbrev pub IsTagThereIf : Table → Option Tag → Type 0
IsTagThereIf table None = Unit {0}
IsTagThereIf table (Some what) = IsTagThere table what
