use Rattle.std.proofs.Common.{◌≡◌, map, take}
use Rattle.cc_base.specs.Kinds.{kind_at}
use Rattle.cil_form.specs.Machine.{plan}
use Rattle.cured_code.specs.Tables.{areas_of}
use Rattle.cure_rules.specs.Functions.{areas_for}
use Rattle.cure_tables.proofs.areas.areas_of.Given as goal

abbrev pub invariant-objects : goal.invariant-objects
invariant-objects l = areas_of l.areas.items ≡ areas_for l.layouts.table (kind_at l.kinds) (map plan (take l.object-index l.objects))
