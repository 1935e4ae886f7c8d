use Rattle.std.proofs.Common.{◌≡◌, map, take}
use Rattle.c_tree.specs.TypedViews.{typed_specifiers_of, typed_specifier_view}
use Rattle.src_machine.specs.Names.{is_typedef_list}
use Rattle.lower_sites.proofs.walk.is_typedef_list.Given as goal

abbrev pub invariant-loop-one : goal.invariant-loop-one
invariant-loop-one l = l.found ≡ is_typedef_list (typed_specifiers_of (map typed_specifier_view (take l.one-index l.all)))
