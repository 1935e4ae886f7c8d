-- What laws say on the way to the limits of a unit.
use Rattle.std.specs.Prelude.{◌≤◌}
use Rattle.std.specs.List.{All}
use Rattle.c_types.specs.Table.{Table, Entry}
use Rattle.c_typing.specs.Scopes.{Seen}
use Rattle.c_unit_typing.specs.Limits.{parameters_of_shape}

-- a function type has no more than 127 parameters
abbrev pub HasFewParameters : Entry → Type 0
HasFewParameters e = parameters_of_shape e.shape ≤ 127

-- so it is with each type of the table
abbrev pub AreFew : Table → Type 0
AreFew table = All HasFewParameters table

-- besides, what is counted of a unit is within its limits
abbrev pub IsBounded : Table → Seen → Type 0
IsBounded table seen = AreFew table × (seen.globals ≤ 4194304) × (seen.cells ≤ 65536)
