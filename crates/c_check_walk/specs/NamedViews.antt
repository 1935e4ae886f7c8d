-- What the code says of the type that specifiers name, as plain data.
use Rattle.c_typing.specs.Declarators as declarators
use Rattle.c_check_walk.specs.declared.specifiers.Named.{Named}
use Rattle.c_check_walk.specs.declared.specifiers.Named.TheVariants as named

abbrev pub named_view : Named → declarators.Named
named_view named.Nothing = declarators.NoType
named_view (named.Type t) = declarators.IsType t
named_view named.Enumeration = declarators.IsEnumeration
