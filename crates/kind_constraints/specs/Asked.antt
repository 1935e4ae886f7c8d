use Rattle.std.specs.Prelude.{◌≡◌, ℕ, List, All}
use Rattle.cc_base.specs.declared.number.TypeId.{TypeId}
use Rattle.cc_base.specs.declared.place.Place.{Place}
use Rattle.kind_sites.specs.declared.site.Site.{Site}
use Rattle.c_types.specs.Table.{Table, IsType}
use Rattle.c_types.specs.Sound.{IsWellFormed}
use Rattle.phys_types.specs.Firsts.{AreFirstEquals}
use Rattle.src_mem.specs.Memory.{Planned}
use Rattle.cil_form.specs.Shape.{IsSiteInShape}
use Rattle.cil_form.specs.Told.{AreSitesTold}
use Rattle.kind_constraints.specs.declared.asked.Asked.{Asked}
use Rattle.kind_constraints.specs.declared.answered.Answered.{Answered}
use Rattle.kind_constraints.specs.Pieces.{IsPointee, ArePointees, AreClasses, AreBelows, AreUnionPlaces}

-- What is known of a program is of this table and these sites.
pub record IsAsked (table : Table) (sites : List Site) (known : Table) (firsts pointees : List TypeId) (unions : List (TypeId × Place)) : Type 0 where
  pub same : known ≡ table
  pub formed : IsWellFormed table
  pub equal : AreFirstEquals table firsts
  pub typed : (t : TypeId) → IsPointee sites t → IsType table t
  pub pointed : ArePointees firsts sites pointees
  pub places : AreUnionPlaces sites unions

abbrev pub IsReady : Asked → Type 0
IsReady a = IsAsked a.types.now a.sites.now a.known a.firsts.items a.pointees.items a.unions.items

-- what was found out so far is so
pub record IsAnswered (table : Table) (sites : List Site) (answered : Answered) : Type 0 where
  pub classes : AreClasses table answered.classes.entries
  pub belows : AreBelows table sites answered.belows.entries

-- the sites are in shape, for some number of nodes
abbrev pub AreShaped : Asked → Type 0
AreShaped a = (nodes : ℕ) × All (IsSiteInShape a.types.now nodes) a.sites.now

-- and tell of the types and of some objects
abbrev pub AreTold : Asked → Type 0
AreTold a = (nodes : ℕ) × (made : List Planned) × All (IsSiteInShape a.types.now nodes) a.sites.now × AreSitesTold a.types.now made a.sites.now
