-- The pointers that an object holds: what the assignment of a struct or union moves.
use Rattle.std.specs.Prelude.{◌+◌, nat_le, if◌then◌else◌}
use Rattle.cc_base.specs.declared.place.Place.{Place}
use Rattle.cc_base.specs.declared.number.TypeId.{TypeId}
use Rattle.cc_base.specs.declared.fault.Fault.TheVariants.{TooLarge}
use Rattle.cc_base.specs.declared.fault.Limit.TheVariants.{Cells}
pub use Rattle.c_types.specs.PointerCounts.{pointers_in}
use Rattle.c_typing.specs.Judging.{Judging, Gives, Stops}

-- those that one assignment of the type t moves are counted
unfoldable pub count_cells : Place → TypeId → Judging TypeId
count_cells at t = λ s. if nat_le (s.seen.cells + pointers_in s.table t) 65536
    then Gives t (record s { seen = record s.seen { cells = s.seen.cells + pointers_in s.table t } })
    else Stops (TooLarge at Cells) s
