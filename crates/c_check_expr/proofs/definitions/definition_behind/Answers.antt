use Rattle.std.proofs.Common.{rules, ap, ◌∙◌}
use Rattle.c_tree.specs.Places.{nowhere}
use Rattle.c_tree.specs.TypedViews.{typed_form_view}
use Rattle.c_tree.specs.Views.{declarator_view}
use Rattle.c_typing.specs.Judging.{known}
use Rattle.c_typing.specs.Refusals.{name_place}
use Rattle.c_check_expr.proofs.LeavingLaws.{definition-judged, definition-level, definition-stops}
use Rattle.c_check_expr.proofs.definitions.definition_behind.Goals as goal

pub returns-in_err-one-clause-judged : goal.returns-in_err-one-clause-judged
returns-in_err-one-clause-judged c =
    let stopped = definition-stops c.args.naming c.naming_of-which.result c.name_place-at.result c.args.base.now (declarator_view c.args.d.now)
    (known c.args.types.now c.args.scope.now) (known c.judge_definition.new.types c.judge_definition.new.scope) c.naming_of-which.ensures
    (c.name_place-at.ensures ∙ ap (λ name. name_place name nowhere) c.declarator_name.ensures)
    (typed_form_view c.in_ok-left.left.one) c.in_err-one.field-0.0 (known c.with_type.new.types c.with_type.new.scope) c.in_ok-left.ensures.judged c.in_err-one.ensures.made in
    search rules

pub returns-clause-judged : goal.returns-clause-judged
returns-clause-judged c =
    definition-judged c.args.naming c.naming_of-which.result c.name_place-at.result c.args.base.now (declarator_view c.args.d.now)
    (known c.args.types.now c.args.scope.now) (known c.judge_definition.new.types c.judge_definition.new.scope) c.naming_of-which.ensures
    (c.name_place-at.ensures ∙ ap (λ name. name_place name nowhere) c.declarator_name.ensures)
    (typed_form_view c.in_ok-left.left.one) c.in_ok-left.ensures.judged
    ∙ c.in_ok-one.ensures.made

pub returns-clause-level : goal.returns-clause-level
returns-clause-level c =
    definition-level c.args.naming c.naming_of-which.result c.name_place-at.result c.args.base.now (declarator_view c.args.d.now)
    (known c.args.types.now c.args.scope.now) (known c.judge_definition.new.types c.judge_definition.new.scope) c.naming_of-which.ensures
    (c.name_place-at.ensures ∙ ap (λ name. name_place name nowhere) c.declarator_name.ensures)
    c.in_ok-left.left.bare c.in_ok-left.left.level c.in_ok-left.ensures.tells

pub returns-in_err-one-clause-grows : goal.returns-in_err-one-clause-grows
returns-in_err-one-clause-grows c = λ any first h. c.in_err-one.ensures.grows any first (c.in_ok-left.ensures.grows any first h)

pub returns-clause-grows : goal.returns-clause-grows
returns-clause-grows c = λ any first h. c.in_ok-one.ensures.grows any first (c.in_ok-left.ensures.grows any first h)
