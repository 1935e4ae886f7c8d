use Rattle.std.proofs.Common.{ap, sym, subst, true, ◌∙◌, ◌&&◌, ◌≡◌, List, map}
use Rattle.c_tree.proofs.ViewLaws.{view_core-Names, view_core-Unnamed}
use Rattle.c_tree.specs.declared.expr.Declarator.{out-Declarator}
use Rattle.c_tree.specs.declared.expr.Part.{Part}
use Rattle.c_tree.specs.declared.leaf.Star.{Star}
use Rattle.c_tree.specs.Tree.{Core, Names, Unnamed, NoPart}
use Rattle.c_tree.specs.TypedTree.{NoPart as no_typed_part}
use Rattle.c_tree.specs.TypedViews.{typed_part_view}
use Rattle.c_tree.specs.Views.{added, core_view, part_view}
use Rattle.c_typing.specs.Declaring.{stars_with_nodes}
use Rattle.c_typing.specs.Judging.{Gives, known}
use Rattle.c_typing.specs.Scopes.{Level}
use Rattle.c_typing.specs.Walks.{judge_parts}
use Rattle.c_unit_typing.specs.ParameterScopes.{scope_of_core}
use Rattle.c_check_expr.specs.Leaving.{AreLeaving, Tells, is_bare}
use Rattle.c_check_expr.proofs.LeavingLaws.{definition-tells, names-tell, unnamed-tells}
use Rattle.c_check_expr.proofs.definitions.+definition.Goals as goal

pub core_left-returns-in_ok-copied_name-in-Names-clause-tells : goal.core_left-returns-in_ok-copied_name-in-Names-clause-tells
core_left-returns-in_ok-copied_name-in-Names-clause-tells t c =
    let before = known c.args.types.now c.args.scope.now in
    let after = known c.args.types.now c.home_as.new.scope in
    subst (λ (v : Core). Tells (scope_of_core c.args.which c.args.at v) true c.new.result before after) (sym (ap core_view c.in-Names.is ∙ view_core-Names _))
    (subst (λ (l : Level). Tells (scope_of_core c.args.which c.args.at (Names c.in-Names.name)) true l before after) (sym c.new.ensures)
    (names-tell c.args.which c.args.at c.in-Names.name c.in_ok-home-in-Names.home before after (c.in_ok-home-in-Names.ensures.answers c.args.types.now)))

pub core_left-returns-in-Unnamed-clause-tells : goal.core_left-returns-in-Unnamed-clause-tells
core_left-returns-in-Unnamed-clause-tells t c =
    let before = known c.args.types.now c.args.scope.now in
    subst (λ (v : Core). Tells (scope_of_core c.args.which c.args.at v) true c.new-in-Unnamed.result before before) (sym (ap core_view c.in-Unnamed.is ∙ view_core-Unnamed))
    (subst (λ (l : Level). Tells (scope_of_core c.args.which c.args.at Unnamed) true l before before) (sym c.new-in-Unnamed.ensures)
    (unnamed-tells c.args.which c.args.at before))

pub judge_definition-returns-clause-tells : goal.judge_definition-returns-clause-tells
judge_definition-returns-clause-tells t c =
    let s = known c.args.types.now c.args.scope.now in
    let m = known c.args.types.now c.stars_with_nodes.new.scope in
    let n = known c.core_left.new.types c.core_left.new.scope in
    let r = known c.nearest_parts.new.types c.nearest_parts.new.scope in
    definition-tells c.args.which c.args.at c.args.d.now c.in_ok-stars.stars (added no_typed_part (map typed_part_view c.in_ok-parts.parts)) c.in_ok-inner.inner.level c.in_ok-parts.level c.nearest.result c.in_ok-inner.inner.bare c.stays_bare.result s m n r
    (c.stays_bare.ensures
    ∙ ap (λ (ss : List Star). c.in_ok-inner.inner.bare && is_bare ss c.as_slice-4.result.now) c.as_slice-3.ensures
    ∙ ap (λ (ps : List Part). c.in_ok-inner.inner.bare && is_bare (out-Declarator c.args.d.now).stars ps) c.as_slice-4.ensures)
    c.nearest.ensures
    (subst (λ (ss : List Star). stars_with_nodes c.args.at ss s ≡ Gives c.in_ok-stars.stars m) c.as_slice.ensures (c.in_ok-stars.ensures.answers c.args.types.now))
    c.in_ok-inner.ensures.tells
    (subst (λ (ps : List Part). AreLeaving ps c.in_ok-parts.level n) c.as_slice-2.ensures c.in_ok-parts.ensures.left)
    (subst (λ (ps : List Part). judge_parts c.args.at (added NoPart (map part_view ps)) n ≡ Gives (added no_typed_part (map typed_part_view c.in_ok-parts.parts)) r) c.as_slice-2.ensures c.in_ok-parts.ensures.judged)

pub core_left-returns-in_err-home-in-Names-clause-grows : goal.core_left-returns-in_err-home-in-Names-clause-grows
core_left-returns-in_err-home-in-Names-clause-grows t c = λ any first h. c.home_as.ensures.grows _ any first h

pub core_left-returns-in_err-copied_name-in-Names-clause-grows : goal.core_left-returns-in_err-copied_name-in-Names-clause-grows
core_left-returns-in_err-copied_name-in-Names-clause-grows t c = λ any first h. c.home_as.ensures.grows _ any first h

pub core_left-returns-in_ok-copied_name-in-Names-clause-grows : goal.core_left-returns-in_ok-copied_name-in-Names-clause-grows
core_left-returns-in_ok-copied_name-in-Names-clause-grows t c = λ any first h. c.home_as.ensures.grows _ any first h

pub judge_definition-returns-in_err-stars-clause-grows : goal.judge_definition-returns-in_err-stars-clause-grows
judge_definition-returns-in_err-stars-clause-grows t c = λ any first h. c.stars_with_nodes.ensures.grows _ any first h

pub judge_definition-returns-in_err-inner-clause-grows : goal.judge_definition-returns-in_err-inner-clause-grows
judge_definition-returns-in_err-inner-clause-grows t c = λ any first h. c.core_left.ensures.grows any first (c.stars_with_nodes.ensures.grows _ any first h)

pub judge_definition-returns-in_err-parts-clause-grows : goal.judge_definition-returns-in_err-parts-clause-grows
judge_definition-returns-in_err-parts-clause-grows t c = λ any first h. c.nearest_parts.ensures.grows any first (c.core_left.ensures.grows any first (c.stars_with_nodes.ensures.grows _ any first h))

pub judge_definition-returns-clause-grows : goal.judge_definition-returns-clause-grows
judge_definition-returns-clause-grows t c = λ any first h. c.nearest_parts.ensures.grows any first (c.core_left.ensures.grows any first (c.stars_with_nodes.ensures.grows _ any first h))
