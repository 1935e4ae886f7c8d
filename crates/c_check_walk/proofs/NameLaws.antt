-- A declarator that is judged keeps its name.
use Rattle.std.proofs.Common.{◌≡◌, ap, sym, ◌∙◌}
use Rattle.cc_base.specs.declared.place.Place.{Place}
use Rattle.c_tree.specs.Tree as tree
use Rattle.c_tree.specs.TypedTree.{TypedForm, TypedCore}
use Rattle.c_tree.specs.TypedParts.{name_of_form, name_of_core}
use Rattle.c_typing.specs.declared.naming.Naming.{Naming}
use Rattle.c_typing.specs.Declaring.{declarator_name, core_name, stars_with_nodes, home_as}
use Rattle.c_typing.specs.Judging.{State, Gives}
use Rattle.c_typing.specs.Walks.{judge, judge_arguments, judge_form, judge_core, judge_parts}
use Rattle.c_check_walk.proofs.OutcomeLaws.{gives-value, next-gives}

mutual
  unfolding judge judge_arguments

  pub form_name_kept : (which : Naming) (at : Place) (d : tree.Declarator) (s t : State) (form : TypedForm)
      → judge_form which at d s ≡ Gives form t → name_of_form form ≡ declarator_name d
  form_name_kept which at (tree.Declares stars core parts) s t form given =
      let one = next-gives (stars_with_nodes at stars s) _ form t given in
      let two = next-gives (judge_core which at core one.1) _ form t one.3 in
      let three = next-gives (judge_parts at parts two.1) _ form t two.3 in
      ap name_of_form (sym (gives-value _ _ _ _ three.3)) ∙ core_name_kept which at core one.1 two.1 two.0 two.2

  pub core_name_kept : (which : Naming) (at : Place) (c : tree.Core) (s t : State) (core : TypedCore)
      → judge_core which at c s ≡ Gives core t → name_of_core core ≡ core_name c
  core_name_kept which at (tree.Names name) s t core given =
      let one = next-gives (home_as at which s) _ core t given in
      ap name_of_core (sym (gives-value _ _ _ _ one.3))
  core_name_kept which at tree.Unnamed s t core given = ap name_of_core (sym (gives-value _ _ _ _ given))
  core_name_kept which at (tree.Nested paren d) s t core given =
      let one = next-gives (judge_form which at d s) _ core t given in
      ap name_of_core (sym (gives-value _ _ _ _ one.3)) ∙ form_name_kept which at d s one.1 one.0 one.2
