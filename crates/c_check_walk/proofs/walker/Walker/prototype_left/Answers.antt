use Rattle.std.proofs.Common.{arith, Bool, ap, map, subst, sym, ◌∙◌}
use Rattle.c_tree.specs.Tree.{NoParameter}
use Rattle.c_tree.specs.TypedTree.{TypedParameters}
use Rattle.c_tree.specs.Views.{added, parameter_view}
use Rattle.c_typing.specs.Declaring.{entered}
use Rattle.c_typing.specs.Judging.{Outcome, known}
use Rattle.c_typing.specs.Refusals.{is_void_alone}
use Rattle.c_typing.specs.Scopes.{Seen}
use Rattle.c_typing.specs.Walks.{judge_parameters}
use Rattle.c_typing.proofs.GrowingLaws.{deep-inside, left-behind, stopped-behind}
use Rattle.c_check_walk.specs.Ending.{EndsIn}
use Rattle.c_check_walk.proofs.walker.Walker.prototype_left.Goals as goal

pub returns-in-Some-clause-level : goal.returns-in-Some-clause-level
unfolding entered
returns-in-Some-clause-level g c =
    let list = added NoParameter (map parameter_view c.args.list.now) in
    subst (λ (o : Outcome TypedParameters). EndsIn c.in-Some.level o)
    (sym c.in_ok-found.ensures.judged
    ∙ ap (λ (void : Bool). judge_parameters void list (known c.args.types.now c.enter.new.self)) c.is_void_alone.ensures
    ∙ ap (λ (seen : Seen). judge_parameters (is_void_alone list) list (known c.args.types.now seen)) c.in_ok-enter.ensures.entered)
    (let innermost = c.in-Some.ensures.level in cc)

pub returns-in_err-found-clause-grows : goal.returns-in_err-found-clause-grows
returns-in_err-found-clause-grows g c = λ any first.
    let left = c.in_err-found.ensures.grows in
    stopped-behind any first c.args.types.now c.parameters_inside.new.types c.args.scope.now c.enter.new.self c.parameters_inside.new.scope left.0 c.depth-open.ensures.some
    c.in_ok-enter.ensures.entered left.1 left.2

pub returns-then-depth-le1-clause-grows : goal.returns-then-depth-le1-clause-grows
returns-then-depth-le1-clause-grows g c =
    let many = deep-inside _ _ c.args.scope.now c.enter.new.self c.parameters_inside.new.scope c.depth-open.ensures.some c.in_ok-enter.ensures.entered c.in_ok-found.ensures.grows in
    absurd (omega (arith, many))

pub returns-in-Some-clause-grows : goal.returns-in-Some-clause-grows
returns-in-Some-clause-grows g c = λ any first.
    left-behind any first _ _ c.args.scope.now c.enter.new.self c.parameters_inside.new.scope c.take_innermost.new.self c.in_ok-enter.ensures.entered c.in_ok-found.ensures.grows c.take_innermost.ensures.left

pub returns-in-None-clause-grows : goal.returns-in-None-clause-grows
returns-in-None-clause-grows g c = λ any first.
    left-behind any first _ _ c.args.scope.now c.enter.new.self c.parameters_inside.new.scope c.take_innermost.new.self c.in_ok-enter.ensures.entered c.in_ok-found.ensures.grows c.take_innermost.ensures.left
