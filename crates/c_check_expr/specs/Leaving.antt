-- What the list of parameters nearest to a declarator's name leaves in its scope, as far as a part of the declarator tells it.
use Rattle.std.specs.Prelude.{◌≡◌, Bool, true, false, List, [], Option, None, map}
use Rattle.c_tree.specs.Tree.{Parameters, NoPart}
use Rattle.c_tree.specs.Views.{added, part_view}
use Rattle.c_tree.specs.declared.leaf.Star.{Star}
use Rattle.c_tree.specs.declared.expr.Part.{Part}
use Rattle.c_typing.specs.Judging.{State, Judging}
use Rattle.c_typing.specs.Scopes.{Level, empty_level}
use Rattle.c_unit_typing.specs.ParameterScopes.{level_given, parameters_written, scope_of_list}

-- whether no star and no part stands by a name
abbrev pub is_bare : List Star → List Part → Bool
is_bare [] [] = true
is_bare stars parts = false

-- what stands nearest to the name among these parts leaves this
abbrev pub AreLeaving : List Part → Level → State → Type 0
AreLeaving parts level s =
    (outer : Option Parameters) → (parts ≡ [] → outer ≡ None) → level_given (scope_of_list (parameters_written (added NoPart (map part_view parts)) outer) s) ≡ level

-- What is bare leaves it to what follows; anything else tells what is left, an empty scope where the nearest is no list of parameters.
pub record Tells (scope_of : Option Parameters → Judging Level) (bare : Bool) (level : Level) (s r : State) : Type 0 where
  pub follows : bare ≡ true → (outer : Option Parameters) → scope_of outer s ≡ scope_of_list outer r
  pub nothing : bare ≡ true → level ≡ empty_level
  pub leaves : bare ≡ false → (outer : Option Parameters) → level_given (scope_of outer s) ≡ level
