use Rattle.std.proofs.Common.{◌≡◌, ℕ, zero, suc, ◌*◌, Bool, true, ◌&&◌, length, refl, ap}
use Rattle.cc_base.specs.declared.number.TypeId.{TypeId}
use Rattle.c_types.specs.Table.{Table}
use Rattle.c_types.specs.Layouts.{layout_of}
use Rattle.c_types.specs.Cells.{cells_at, holds_pointer}
use Rattle.c_types.specs.Equality.{equal_at_level, physically_equal}
use Rattle.type_laws.specs.Small.{small_table, mixed_union, int_list, other_list}
use Rattle.type_laws.proofs.Relations.{equal_equiv}
use Rattle.type_laws.proofs.definitions_on_small_types.Goals as goal

from_levels : (table : Table) (t u : TypeId) → ((k : ℕ) → equal_at_level table k t u ≡ true) → physically_equal table t u ≡ true
unfolding physically_equal
from_levels table t u h = h (length table * length table)

-- the lists are equal at each level: their pointers point to lists that are equal at the level before
all_eight : Bool → Bool
all_eight b = b && (b && (b && (b && (b && (b && (b && (b && true)))))))

lists : (k : ℕ) → equal_at_level small_table k int_list other_list ≡ true
unfolding all_eight layout_of cells_at holds_pointer
lists zero = refl
lists (suc k) = ap all_eight (lists k)

pub returns-clause-size : goal.returns-clause-size
unfolding layout_of
returns-clause-size c = refl

pub returns-clause-offset : goal.returns-clause-offset
unfolding layout_of
returns-clause-offset c = refl

pub returns-clause-cells : goal.returns-clause-cells
unfolding layout_of cells_at
returns-clause-cells c = refl

pub returns-clause-below : goal.returns-clause-below
unfolding layout_of cells_at physically_equal
returns-clause-below c = refl

pub returns-clause-tiles : goal.returns-clause-tiles
unfolding layout_of cells_at physically_equal
returns-clause-tiles c = refl

pub returns-clause-is_mixed : goal.returns-clause-is_mixed
unfolding layout_of cells_at holds_pointer
returns-clause-is_mixed c = refl

pub returns-clause-itself : goal.returns-clause-itself
returns-clause-itself c = (equal_equiv small_table).refl mixed_union

pub returns-clause-apart : goal.returns-clause-apart
unfolding layout_of cells_at holds_pointer physically_equal
returns-clause-apart c = refl

pub returns-clause-lists : goal.returns-clause-lists
returns-clause-lists c = from_levels small_table int_list other_list lists
