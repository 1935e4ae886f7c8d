-- The scope that the parameters of a definition leave, which goes on in its body (C99 6.2.1).
use Rattle.std.specs.Prelude.{Option, Some, None}
use Rattle.cc_base.specs.declared.place.Place.{Place}
use Rattle.cc_base.specs.declared.number.TypeId.{TypeId}
use Rattle.cc_base.specs.declared.fault.Fault.TheVariants.{TooLarge}
use Rattle.cc_base.specs.declared.fault.Limit.TheVariants.{Types}
use Rattle.c_types.specs.Table.{shape_at}
use Rattle.c_tree.specs.Places.{nowhere}
use Rattle.c_tree.specs.Tree as tree
use Rattle.c_typing.specs.declared.naming.Naming.{Naming}
use Rattle.c_typing.specs.Scopes.{Level, empty_level, innermost}
use Rattle.c_typing.specs.Judging.{State, Outcome, Gives, Stops, Judging, pure, stop, by_known, ◌>>=◌}
use Rattle.c_typing.specs.Refusals.{is_void_alone, name_place}
use Rattle.c_typing.specs.Declaring.{NotDerived, derived_by, declarator_name, is_function_by, unless_function, home_as, stars_with_nodes, entered}
use Rattle.c_typing.specs.Walks.{judge_parameters}
use Rattle.c_unit_typing.specs.Units.{unless_pointer}

-- the list of parameters that stands nearest to a name, where that is what a definition has to begin with
abbrev pub parameters_written : tree.Parts → Option tree.Parameters → Option tree.Parameters
parameters_written tree.NoPart outer = outer
parameters_written (tree.AndArray all at words) outer = parameters_written all None
parameters_written (tree.AndSizedArray all at words e) outer = parameters_written all None
parameters_written (tree.AndFunction all at parameters) outer = parameters_written all (Some parameters)

-- what that list leaves in its scope
unfoldable pub scope_of_list : Option tree.Parameters → Judging Level
scope_of_list None = stop (TooLarge nowhere Types)
scope_of_list (Some parameters) = do
  inside ← entered
  list ← judge_parameters (is_void_alone parameters) parameters
  by_known (λ s. pure (innermost s.seen.scopes.levels))

-- It is judged first of all that stands in the declarator, but for its stars: so a body has what was declared there, and nothing is judged twice.
unfoldable mutual
  pub scope_of_declarator : Naming → Place → tree.Declarator → Option tree.Parameters → Judging Level
  scope_of_declarator which at (tree.Declares stars core parts) outer = do
    list ← stars_with_nodes at stars
    scope_of_core which at core (parameters_written parts (unless_pointer stars outer))

  pub scope_of_core : Naming → Place → tree.Core → Option tree.Parameters → Judging Level
  scope_of_core which at (tree.Names name) found = do
    home ← home_as at which
    scope_of_list found
  scope_of_core which at tree.Unnamed found = scope_of_list found
  scope_of_core which at (tree.Nested paren d) found = scope_of_declarator which at d found

abbrev pub level_given : Outcome Level → Level
level_given (Gives level s) = level
level_given (Stops fault s) = empty_level

-- what the parameters of a definition leave, whose declarator stands behind specifiers of the type `base` where so much is known
abbrev pub level_of : Naming → TypeId → tree.Declarator → State → Level
level_of which base d s = level_given (scope_of_declarator (unless_function (is_function_by (derived_by d NotDerived) (shape_at s.table base)) which)
    (name_place (declarator_name d) nowhere) d None s)
