-- Objects that areas are made for.
use Rattle.std.specs.Prelude.{◌≡◌, ℕ, ◌<◌}
use Rattle.cc_base.specs.declared.number.NodeId.{NodeId}
use Rattle.cc_base.specs.declared.kind.Kind.{Kind}
use Rattle.c_types.specs.Table.{Table, IsComplete}
use Rattle.cil_form.specs.declared.number.Planned.{Planned}
use Rattle.cil_form.specs.declared.program.Static.{Static}
use Rattle.cil_form.specs.Machine.{plan}
use Rattle.cured_code.specs.declared.parts.GlobalLine.{GlobalLine}
use Rattle.cured_code.specs.Tables.{area_of}
use Rattle.cure_rules.specs.Functions.{area_for}
use Rattle.cure_rules.specs.Programs.{IsFirstOf}

-- the object has a complete type, and its home is one of so many nodes
pub record IsObject (table : Table) (nodes : ℕ) (o : Planned) : Type 0 where
  pub complete : IsComplete table o.ty
  pub home : o.home.0 < nodes

-- the global of a static object: its area, and what it begins with
pub record IsGlobalOf (table : Table) (kind : NodeId → Kind) (o : Static) (g : GlobalLine) : Type 0 where
  pub area : area_of g.area ≡ area_for table kind (plan o.planned)
  pub first : IsFirstOf o.text g.first
