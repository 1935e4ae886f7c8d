-- What the code says of what stands nearest to a name, as plain data.
use Rattle.c_typing.specs.Declaring as declaring
use Rattle.c_check_declarators.specs.declared.derived.Derived.{Derived}
use Rattle.c_check_declarators.specs.declared.derived.Derived.TheVariants as derived

abbrev pub derived_view : Derived → declaring.Derived
derived_view derived.Nothing = declaring.NotDerived
derived_view derived.ByStar = declaring.ByStar
derived_view (derived.ByArray at) = declaring.ByArray at
derived_view (derived.ByFunction at) = declaring.ByFunction at
