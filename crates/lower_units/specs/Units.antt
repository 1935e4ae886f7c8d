-- What a unit is made of, as it is found.
use Rattle.std.specs.Prelude.{◌≡◌, ℕ, List, flat_map, Option, None, Some}
use Rattle.cc_base.specs.declared.place.Place.{Place}
use Rattle.c_types.specs.Table.{Table}
use Rattle.c_tree.specs.Places.{nowhere}
use Rattle.c_tree.specs.TypedTree.{TypedTranslationUnit}
use Rattle.c_tree.specs.TypedParts.{static_initialisers}
use Rattle.src_machine.specs.Machine as source
use Rattle.src_machine.specs.Pieces.{pieces_of_unit}
use Rattle.src_machine.specs.Sites.{sites_of_piece}
use Rattle.cil_form.specs.declared.program.Static.{Static}
use Rattle.lower_rules.specs.Initialisers.{IsCodeOfStatics}
use Rattle.lower_rules.specs.Units.{static_context}
use Rattle.unit_parts.specs.declared.collected.Collected.{Collected}
use Rattle.unit_parts.specs.Collecting.{HaveBytes, seen_statics}
use Rattle.lower_units.specs.declared.externals.Found.{Found}
use Rattle.lower_units.specs.declared.units.Lowered.{Lowered}
use Rattle.lower_units.specs.Heads.{homes_of_statics}
use Rattle.lower_units.specs.Mains.{IsMade}

-- the objects of a unit that live as long as the program, and the sites of its pieces
pub record IsFoundIn (table : Table) (u : TypedTranslationUnit) (c : Collected) : Type 0 where
  pub statics : seen_statics c.statics.items ≡ source.statics_in u
  pub sites : c.sites.items ≡ flat_map (sites_of_piece table) (pieces_of_unit u)
  pub bytes : HaveBytes c.statics.items

-- its functions and its static initialisers, among these static objects
pub record IsLoweredIn (table : Table) (statics : List Static) (u : TypedTranslationUnit) (l : Lowered) : Type 0 where
  pub made : IsMade table (homes_of_statics statics) u l.made
  pub initialisers : IsCodeOfStatics (static_initialisers u) (static_context table (homes_of_statics statics)) l.initialisers.0.items

-- the number of `main` among so many functions, and the place of its name
abbrev pub number_in : Option Found → ℕ → ℕ
number_in None count = count
number_in (Some m) count = m.number

abbrev pub place_in : Option Found → Place
place_in None = nowhere
place_in (Some m) = m.place
