-- What the laws of the crate say.
use Rattle.std.specs.Prelude.{◌↔◌, ℕ, List, All}
use Rattle.cc_base.specs.declared.number.NodeId.{NodeId}
use Rattle.cc_base.specs.declared.kind.Kind.{Kind}
use Rattle.kind_sites.specs.declared.site.Site.{Site}
use Rattle.c_types.specs.Table.{Table}
use Rattle.kind_sites.specs.Solutions.{IsSolution}
use Rattle.c_types.specs.Sound.{IsWellFormed}
use Rattle.kind_solver.specs.declared.constraint.Constraint.{Constraint}
use Rattle.kind_solver.specs.Constraints.{AreWithin, MeetsAll, PlainApart}
use Rattle.src_mem.specs.Memory.{Planned}
use Rattle.cil_form.specs.Shape.{IsSiteInShape}
use Rattle.cil_form.specs.Told.{AreSitesTold}
use Rattle.constraint_laws.specs.Given.{AreGiven}

abbrev pub SolutionsAreThoseOfTheSites : Type 0
SolutionsAreThoseOfTheSites =
    (table : Table) (made : List Planned) (sites : List Site) (list : List Constraint) (kind : NodeId → Kind) → AreSitesTold table made sites
    → AreGiven table sites list → MeetsAll kind list ↔ IsSolution table sites kind

abbrev pub NodesAreWithinTheProgram : Type 0
NodesAreWithinTheProgram =
    (table : Table) (made : List Planned) (nodes : ℕ) (sites : List Site) (list : List Constraint) → IsWellFormed table → AreSitesTold table made sites
    → All (IsSiteInShape table nodes) sites → AreGiven table sites list → AreWithin nodes list

abbrev pub PlainNodesAreApart : Type 0
PlainNodesAreApart =
    (table : Table) (made : List Planned) (nodes : ℕ) (sites : List Site) (list : List Constraint) → IsWellFormed table → AreSitesTold table made sites
    → All (IsSiteInShape table nodes) sites → AreGiven table sites list → PlainApart list
