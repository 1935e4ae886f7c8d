use Rattle.std.proofs.Common.{rules, List, map, ap, sym, subst, ◌∙◌}
use Rattle.std.proofs.lemmas.List.{nil_from_length}
use Rattle.c_tree.specs.declared.expr.Part.{Part}
use Rattle.c_tree.specs.declared.typed_expr.TypedPart.{TypedPart}
use Rattle.c_tree.specs.Tree.{NoPart}
use Rattle.c_tree.specs.TypedTree.{NoPart as none_typed}
use Rattle.c_tree.specs.TypedViews.{typed_part_view}
use Rattle.c_tree.specs.Views.{added, part_view}
use Rattle.c_typing.specs.Judging.{Gives, known}
use Rattle.c_typing.specs.Walks.{judge_parts}
use Rattle.c_unit_typing.specs.ParameterScopes.{level_given, parameters_written, scope_of_list}
use Rattle.c_check_expr.specs.Leaving.{AreLeaving}
use Rattle.c_check_expr.proofs.LeavingLaws.{first-fails, no-part-leaves, parts-leave}
use Rattle.c_check_walk.proofs.StayLaws.{no_parts}
use Rattle.c_check_expr.proofs.definitions.nearest_parts.Goals as goal

pub returns-in_default-clause-judged : goal.returns-in_default-clause-judged
returns-in_default-clause-judged c =
    ap (λ (ps : List Part). judge_parts c.args.at (added NoPart (map part_view ps)) (known c.args.types.now c.args.scope.now))
    (nil_from_length c.args.parts.now c.in_default.ensures.cases)
    ∙ no_parts c.args.at (known c.args.types.now c.args.scope.now)
    ∙ ap (λ (made : List TypedPart). Gives (added none_typed (map typed_part_view made)) (known c.args.types.now c.args.scope.now)) (sym c.new.ensures)

pub returns-in_default-clause-left : goal.returns-in_default-clause-left
returns-in_default-clause-left c = λ outer none.
    let none_there = nil_from_length c.args.parts.now c.in_default.ensures.cases in
    ap (λ (ps : List Part). level_given (scope_of_list (parameters_written (added NoPart (map part_view ps)) outer) (known c.args.types.now c.args.scope.now))) none_there
    ∙ no-part-leaves (known c.args.types.now c.args.scope.now) outer (λ e. none none_there)
    ∙ sym c.new-in_default.ensures

pub returns-in_err-one-clause-judged : goal.returns-in_err-one-clause-judged
returns-in_err-one-clause-judged c =
    let stopped = first-fails c.args.at c.args.parts.now c.in-Some.first.now c.in-Some.rest.now c.in-Some.ensures.cases.0
    (known c.args.types.now c.args.scope.now) (known c.nearest_part.new.types c.nearest_part.new.scope) c.in_err-one.field-0.0 c.in_err-one.ensures.judged in
    search rules

pub returns-clause-left : goal.returns-clause-left
returns-clause-left c =
    subst (λ (ps : List Part). AreLeaving ps c.in_ok-one.level (known c.args.types.now c.args.scope.now)) (sym c.in-Some.ensures.cases.0)
    (parts-leave c.in-Some.first.now c.in-Some.rest.now c.in_ok-one.level (known c.args.types.now c.args.scope.now) c.in_ok-one.ensures.left)

pub returns-in_err-parts-clause-grows : goal.returns-in_err-parts-clause-grows
returns-in_err-parts-clause-grows c = λ any first h. c.judge_parts_behind.ensures.grows any first (c.nearest_part.ensures.grows any first h)

pub returns-clause-grows : goal.returns-clause-grows
returns-clause-grows c = λ any first h. c.judge_parts_behind.ensures.grows any first (c.nearest_part.ensures.grows any first h)
