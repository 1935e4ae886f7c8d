-- How a function part of a declarator is judged.
use Rattle.std.proofs.Common.{◌≡◌, sym}
use Rattle.cc_base.specs.declared.place.Place.{Place}
use Rattle.c_tree.specs.Tree as tree
use Rattle.c_tree.specs.TypedTree as typed
use Rattle.c_tree.specs.TypedTree.{TypedParts}
use Rattle.c_typing.specs.Declaring.{entered, left, stopped_outside}
use Rattle.c_typing.specs.Refusals.{is_void_alone}
use Rattle.c_typing.specs.Judging.{State, next, pure}
use Rattle.c_typing.specs.Walks.{judge, judge_arguments, judge_parts, judge_parameters, judge_prototype}
use Rattle.c_check_walk.proofs.OutcomeLaws.{next-next}

function_after : (at paren : Place) (parameters : tree.Parameters) (done : TypedParts) (s : State)
    → next (entered s) (λ b. λ m. next (stopped_outside (judge_parameters (is_void_alone parameters) parameters m)) (λ list. λ r. next (left at list r) (λ whole. pure (typed.AndFunction done paren whole))))
    ≡ next (judge_prototype at parameters s) (λ whole. pure (typed.AndFunction done paren whole))
unfolding entered judge_prototype
function_after at paren parameters done s = sym (next-next _ (λ list. left at list) (λ whole. pure (typed.AndFunction done paren whole)))

pub function_judged : (at paren : Place) (parameters : tree.Parameters) (before : tree.Parts) (start : State)
    → judge_parts at (tree.AndFunction before paren parameters) start
    ≡ next (judge_parts at before start) (λ done. λ s. next (judge_prototype at parameters s) (λ whole. pure (typed.AndFunction done paren whole)))
unfolding judge judge_arguments
function_judged at paren parameters before start = λ i. next (judge_parts at before start) (λ done. λ s. function_after at paren parameters done s i)
