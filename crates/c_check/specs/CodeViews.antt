-- What the code of statements and functions keeps, as plain data.
use Rattle.c_check.specs.declared.around.Around.{Around as CodeAround}
use Rattle.c_unit_typing.specs.Units.{Around}

abbrev pub around_view : CodeAround → Around
around_view a = record { result = a.result; in_loop = a.in_loop; breakable = a.breakable }
