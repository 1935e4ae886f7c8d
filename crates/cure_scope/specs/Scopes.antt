-- What code is cured by, as the relation sees it. Each temporary has a column of three slots, and nothing is kept.
use Rattle.std.specs.Prelude.{ℕ, ◌+◌, ◌*◌, List, [], map, slice_index, if◌then◌else◌}
use Rattle.cc_base.specs.declared.number.TypeId.{TypeId}
use Rattle.c_types.specs.Table.{Table, entry_at, is_complete}
use Rattle.c_types.specs.Equality.{cells_of}
use Rattle.cc_base.specs.Kinds.{kind_at}
use Rattle.c_types.specs.Widths as widths
use Rattle.cil_form.specs.declared.number.Temp.{Temp}
use Rattle.cil_form.specs.declared.number.Temp.TheVariants as temp
use Rattle.cil_form.specs.declared.number.Work.TheVariants.{First, Second}
use Rattle.cil_form.specs.Machine.{plan}
use Rattle.check_forms.specs.declared.slots.Work.{Work}
use Rattle.fat_layouts.specs.Standing.{Curing}
use Rattle.cure_rules.specs.Slots.{Slots, slot_of, work_of}
use Rattle.cure_rules.specs.Known.{Whole, World}
use Rattle.cure_rules.specs.Checks.{Seat}
use Rattle.cure_scope.specs.declared.scope.Scope.{Scope}

-- Slots: the row of arguments, in which parameters come; a slot that holds 0; the working slots; the columns.

abbrev pub fixed_column : Temp → ℕ
fixed_column (temp.Work First) = 406
fixed_column (temp.Work Second) = 409
fixed_column (temp.Value n) = 412 + 3 * n
fixed_column (temp.Switch n) = 1180 + 3 * n

abbrev pub fixed_slots : ℕ → Slots
fixed_slots parameters = record {
  count = 1948;
  parameters = parameters;
  column = fixed_column;
  width = λ t. 3;
  work = 382;
  row = 0;
  row_width = 381;
  nought = 381;
  kept = [];
}

-- every number stands in the working slot of its role
abbrev pub seat : Seat
seat r = slot_of (fixed_slots 0) r

abbrev pub fixed_work : Work
fixed_work = work_of (fixed_slots 0)

-- the bytes that an object of a type takes once cured; of one that isn't complete none
abbrev pub size_in : Curing → TypeId → ℕ
size_in c t = if is_complete (entry_at c.table t) then widths.cured_size c.table (kind_at c.kinds) t else 0

abbrev pub offset_in : Curing → TypeId → ℕ → ℕ
offset_in c t offset = widths.before (kind_at c.kinds) (cells_of c.table t) offset

abbrev pub whole_of : Scope → Whole
whole_of k = record {
  table = k.layouts.now.table;
  kind = kind_at k.kinds.now;
  size = size_in k.layouts.now;
  offset = offset_in k.layouts.now;
  node = λ t. slice_index k.nodes.now t.0;
  statics = map plan k.statics.now;
  addresses = k.addresses.now;
  functions = k.functions;
  signature = λ t. slice_index k.signatures.now t.0;
}

abbrev pub world_of : Scope → World
world_of k = record {
  whole = whole_of k;
  number = k.number;
  variables = map plan k.variables.now;
  result = k.result;
  slots = fixed_slots k.parameters;
}
