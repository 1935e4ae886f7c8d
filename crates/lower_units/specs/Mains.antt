-- Which function is `main`, and the code of functions with it.
use Rattle.std.specs.Prelude.{◌≡◌, ◌<◌, Bool, not, List, length, slice_get, Option, None, Some}
use Rattle.std.specs.List.{prefix_len}
use Rattle.cc_base.specs.declared.number.NodeId.{NodeId}
use Rattle.c_types.specs.Table.{Table}
use Rattle.c_tree.specs.TypedTree.{TypedTranslationUnit}
use Rattle.c_tree.specs.TypedParts.{DefinedFunction, functions_of, name_of}
use Rattle.src_machine.specs.Machine.{is_main, place_of_function}
use Rattle.lower_rules.specs.Units.{AreCodeOf}
use Rattle.lower_units.specs.declared.externals.Found.{Found}
use Rattle.lower_units.specs.declared.externals.Made.{Made}

abbrev pub is_other : DefinedFunction → Bool
is_other f = not (is_main (name_of f.declarator))

-- the first function that is `main`, if there is one, with the place of its name
abbrev pub IsMainOf : List DefinedFunction → Option Found → Type 0
IsMainOf fs None = prefix_len is_other fs ≡ length fs
IsMainOf fs (Some m) = (prefix_len is_other fs ≡ m.number) × (m.number < length fs) × (place_of_function (slice_get fs m.number) ≡ m.place)

-- the code of the functions of a unit, and its `main`
pub record IsMade (table : Table) (statics : List NodeId) (u : TypedTranslationUnit) (made : Made) : Type 0 where
  pub functions : AreCodeOf table statics (functions_of u) made.functions.items
  pub main : IsMainOf (functions_of u) made.main
