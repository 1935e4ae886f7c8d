use Rattle.std.proofs.Common.{◌≡◌, ◌++◌, map, take}
use Rattle.c_tree.specs.TypedViews.{typed_declarator_view, typed_member_declarators_of}
use Rattle.c_typing.specs.Declarators.{declarator_types}
use Rattle.c_check_declarators.proofs.aggregates.push_row_types.Given as goal

-- the types of the members so far
abbrev pub invariant-loop-d : goal.invariant-loop-d
invariant-loop-d l = l.types.items ≡ l.fn.types.items ++ declarator_types (typed_member_declarators_of (map typed_declarator_view (take l.d-index l.row)))
