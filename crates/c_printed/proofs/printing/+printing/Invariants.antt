use Rattle.std.proofs.Common.{map, take}
use Rattle.c_tree.specs.Views.{added}
use Rattle.c_tree.specs.TypedTree as typed
use Rattle.c_tree.specs.TypedParts.{made_by_arguments, made_by_enumerators, made_by_member_declarators, made_by_members, made_by_parameters, made_by_parts, made_by_specifier_list}
use Rattle.c_tree.specs.TypedViews.{typed_arguments_of, typed_specifiers_of, typed_member_declarators_of, typed_expr_view, typed_specifier_view, typed_members_view, typed_declarator_view, typed_enumerator_view, typed_part_view, typed_parameter_view}
use Rattle.c_printed.specs.Printing.{Prints}
use Rattle.c_printed.proofs.printing.+printing.Given as goal

abbrev pub invariant-arguments-loop-e : goal.invariant-arguments-loop-e
invariant-arguments-loop-e l = record {
  found : Prints (made_by_arguments (typed_arguments_of (map typed_expr_view (take l.e-index l.all)))) l.fn.out l.out;
}

abbrev pub invariant-specifier_list-loop-one : goal.invariant-specifier_list-loop-one
invariant-specifier_list-loop-one l = record {
  found : Prints (made_by_specifier_list (typed_specifiers_of (map typed_specifier_view (take l.one-index l.all)))) l.fn.out l.out;
}

abbrev pub invariant-member_rows-loop-row : goal.invariant-member_rows-loop-row
invariant-member_rows-loop-row l = record {
  found : Prints (made_by_members (added typed.NoMember (map typed_members_view (take l.row-index l.all)))) l.fn.out l.out;
}

abbrev pub invariant-member_declarators-loop-one : goal.invariant-member_declarators-loop-one
invariant-member_declarators-loop-one l = record {
  found : Prints (made_by_member_declarators (typed_member_declarators_of (map typed_declarator_view (take l.one-index l.all)))) l.fn.out l.out;
}

abbrev pub invariant-enumerators-loop-one : goal.invariant-enumerators-loop-one
invariant-enumerators-loop-one l = record {
  found : Prints (made_by_enumerators (added typed.NoEnumerator (map typed_enumerator_view (take l.one-index l.all)))) l.fn.out l.out;
}

abbrev pub invariant-parts_behind-loop-one : goal.invariant-parts_behind-loop-one
invariant-parts_behind-loop-one l = record {
  found : Prints (made_by_parts (added typed.NoPart (map typed_part_view (take l.one-index l.all)))) l.fn.out l.out;
}

abbrev pub invariant-parameters-loop-one : goal.invariant-parameters-loop-one
invariant-parameters-loop-one l = record {
  found : Prints (made_by_parameters (added typed.NoParameter (map typed_parameter_view (take l.one-index l.all)))) l.fn.out l.out;
}
