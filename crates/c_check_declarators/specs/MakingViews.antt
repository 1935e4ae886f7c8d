-- What the code says of the part that stands nearest to a name, as plain data.
use Rattle.c_typing.specs.Declarators.{Outermost, Written, Counts, Points}
use Rattle.c_check_declarators.specs.declared.making.Nearest.{Nearest}
use Rattle.c_check_declarators.specs.declared.making.Nearest.TheVariants as nearest

abbrev pub nearest_view : Nearest → Outermost
nearest_view nearest.Written = Written
nearest_view (nearest.Counts count) = Counts count
nearest_view (nearest.Points n) = Points n
