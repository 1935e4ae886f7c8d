-- The laws of the list of a program's constraints, over sites that are told.
use Rattle.std.proofs.Common.{ℕ, List}
use Rattle.std.specs.Prelude.{◌↔◌}
use Rattle.std.specs.List.{Contains, All}
use Rattle.std.proofs.lemmas.List.Elements.{All-contains}
use Rattle.cc_base.specs.declared.number.TypeId.{TypeId}
use Rattle.cc_base.specs.declared.number.NodeId.{NodeId}
use Rattle.cc_base.specs.declared.place.Place.{Place}
use Rattle.cc_base.specs.declared.kind.Kind.{Kind}
use Rattle.kind_sites.specs.declared.site.Site.{Site}
use Rattle.kind_sites.specs.declared.site.Site.TheVariants as site
use Rattle.c_types.specs.Table.{Table}
use Rattle.c_types.specs.Contents.{HoldsMixed}
use Rattle.kind_sites.specs.Solutions.{IsSolution}
use Rattle.c_types.specs.Sound.{IsWellFormed}
use Rattle.kind_solver.specs.declared.constraint.Constraint.{Constraint}
use Rattle.kind_solver.specs.Constraints.{AreWithin, MeetsAll, PlainApart}
use Rattle.src_mem.specs.Memory.{Planned}
use Rattle.cil_form.specs.Shape.{IsSiteInShape}
use Rattle.cil_form.specs.Told.{AreSitesTold}
use Rattle.constraint_laws.specs.Given.{AreGiven}
use Rattle.constraint_laws.proofs.Held.{mixed-is-union}
use Rattle.constraint_laws.proofs.Solved.{given-is-solution}
use Rattle.constraint_laws.proofs.Apart.{given-is-apart, given-are-within}

module _ (table : Table) (made : List Planned) (sites : List Site) (told : AreSitesTold table made sites) where
  -- there is a place for each mixed union that something holds
  forced : (t v : TypeId) → HoldsMixed table t v → (place : Place) × Contains sites (site.Union v place)
  forced t v h = let u = mixed-is-union table t v h in told.unions v u.0 u.1

  pub given_is_a_solution : (list : List Constraint) → AreGiven table sites list → (kind : NodeId → Kind) → MeetsAll kind list ↔ IsSolution table sites kind
  given_is_a_solution list given kind = given-is-solution table sites list given kind forced

  module _ (nodes : ℕ) (shaped : All (IsSiteInShape table nodes) sites) (w : IsWellFormed table) (list : List Constraint) (given : AreGiven table sites list) where
    each : (s : Site) → Contains sites s → IsSiteInShape table nodes s
    each s c = All-contains (IsSiteInShape table nodes) sites s shaped c

    pub given_is_apart : PlainApart list
    given_is_apart = given-is-apart table w nodes made sites told each list given

    pub given_is_within : AreWithin nodes list
    given_is_within = given-are-within table w nodes made sites told each list given
