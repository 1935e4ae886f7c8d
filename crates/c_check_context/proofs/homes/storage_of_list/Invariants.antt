use Rattle.std.proofs.Common.{◌≡◌, map, length}
use Rattle.c_tree.specs.TypedViews.{typed_specifier_view, typed_specifiers_of}
use Rattle.c_unit_typing.specs.Units.{storage_of_list}
use Rattle.c_check_context.proofs.homes.storage_of_list.Given as goal

-- what stands behind the rest asks for nothing
abbrev pub invariant-backwards : goal.invariant-backwards
invariant-backwards l =
    storage_of_list (typed_specifiers_of (map typed_specifier_view l.list)) ≡ storage_of_list (typed_specifiers_of (map typed_specifier_view l.rest))

abbrev pub decreases-backwards : goal.decreases-backwards
decreases-backwards l = length l.rest
