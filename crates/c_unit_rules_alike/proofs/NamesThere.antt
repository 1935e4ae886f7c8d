-- What names stand for in a unit has its type in the table.
use Rattle.std.proofs.Common.{◌≡◌, Option, None, Some, refl}
use Rattle.c_types.specs.Table.{Table}
use Rattle.c_typing.specs.declared.declared.Declared.{Declared}
use Rattle.c_typing.specs.Scopes.{Name, entry_of, here}
use Rattle.c_typing.specs.Settled.{IsThere}
use Rattle.c_unit_typing.specs.UnitJudged.{IsUnitKnown}
use Rattle.c_unit_typing.specs.UnitJudging.{UnitState, known_of}
use Rattle.c_unit_typing.proofs.NameSteps.{here-there, linked-there}
use Rattle.c_unit_rules_alike.specs.NamesThere.{IsThereIf, IsNameThere}

there_if : (T : Table) (o : Option Declared) → ((what : Declared) → o ≡ Some what → IsThere T what) → IsThereIf T o
there_if T None h = tt
there_if T (Some what) h = h what refl

pub linked-if : (s : UnitState) → IsUnitKnown s → (name : Name) → IsThereIf s.table (entry_of s.linkage.linked name)
linked-if s k name = there_if s.table (entry_of s.linkage.linked name) (λ what q. (linked-there s k name what q).0)

pub name-there : (s : UnitState) → IsUnitKnown s → (name : Name) → IsNameThere s.table (known_of s) name
name-there s k name =
    record { here = there_if s.table (here s.seen.scopes.levels name) (λ what q. here-there s k name what q); linked = linked-if s k name }
