-- What laws of the rules of units over two tables ask of declarations.
use Rattle.std.specs.Prelude.{Option, None, Some}
use Rattle.cc_base.specs.declared.number.TypeId.{TypeId}
use Rattle.c_types.specs.Table.{Table, IsType}
use Rattle.c_typing.specs.declared.declared.Declared.{Declared}
use Rattle.c_typing.specs.Scopes.{Name, entry_of, here}
use Rattle.c_typing.specs.Settled.{IsThere}
use Rattle.c_unit_typing.specs.Units.{Known}

-- the type of what a name was declared as is in the table, where it was declared
abbrev pub IsThereIf : Table → Option Declared → Type 0
IsThereIf table None = Unit {0}
IsThereIf table (Some what) = IsThere table what

-- so it is with the innermost scope's declaration of the name, and with the one that has linkage
pub record IsNameThere (table : Table) (k : Known) (name : Name) : Type 0 where
  pub here : IsThereIf table (here k.scopes.levels name)
  pub linked : IsThereIf table (entry_of k.linked name)

-- the type is in the table, where there is one
abbrev pub IsTypeIf : Table → Option TypeId → Type 0
IsTypeIf table None = Unit {0}
IsTypeIf table (Some t) = IsType table t
