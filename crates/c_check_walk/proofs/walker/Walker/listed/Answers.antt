use Rattle.std.proofs.Common.{rules, arith, map, take, ap, sym, ◌∙◌}
use Rattle.std.proofs.lemmas.Grind.{common_steps}
use Rattle.std.proofs.lemmas.List.{take_all}
use Rattle.c_tree.proofs.TypedPushLaws.{typed_pushes}
use Rattle.c_tree.proofs.TypedViewLaws.{typed_views}
use Rattle.c_tree.specs.Tree.{NoSpecifier, AndSpecifier}
use Rattle.c_tree.specs.TypedViews.{typed_specifier_view, typed_specifiers_of}
use Rattle.c_tree.specs.Views.{specifier_view, specifiers_of}
use Rattle.c_typing.specs.Judging.{known}
use Rattle.c_typing.specs.Walks.{judge_list}
use Rattle.c_tree.specs.Depth.{specifiers_height, specifier_height}
use Rattle.c_check_walk.proofs.NestLaws.{nests-seen, specifiers_count}
use Rattle.c_check_walk.proofs.SeriesLaws.{goes_on, fails_on}
use Rattle.c_check_walk.proofs.SpecifiedLaws.{specifier_goes, specifiers_end, specifiers_stop}
use Rattle.c_check_walk.proofs.StayLaws.{specifiers-stay}
use Rattle.c_check_walk.proofs.walker.Walker.listed.Goals as goal

pub specifier-requires : goal.specifier-requires
specifier-requires g c =
    record { nests = nests-seen specifiers_height AndSpecifier specifier_view specifier_height specifiers_count c.args.specifiers.now c.loop-one.one-index c.one-item.result c.loop-one-test.true c.one-item.is NoSpecifier c.requires.nests }

pub returns-in_err-specifier-clause-answers : goal.returns-in_err-specifier-clause-answers
returns-in_err-specifier-clause-answers g c =
    let stopped = specifiers_stop (specifiers_of (map specifier_view c.args.specifiers.now)) c.in_err-specifier.field-0.0
    (known c.args.types.now c.args.scope.now) (known c.specifier.new.types c.specifier.new.scope)
    (fails_on judge_list AndSpecifier specifier_view specifiers-stay c.args.specifiers.now c.loop-one.one-index c.one-item.result c.loop-one-test.true c.one-item.is NoSpecifier
    (known c.args.types.now c.args.scope.now) (known c.specifier.new.types c.specifier.new.scope) c.in_err-specifier.field-0.0
    (λ real. specifier_goes (specifiers_of (map specifier_view (take c.loop-one.one-index c.args.specifiers.now))) (specifier_view c.one-item.result)
    (typed_specifiers_of (map typed_specifier_view c.loop-one.list)) c.loop-one.words (known c.args.types.now c.args.scope.now) (known c.loop-one.types c.loop-one.scope)
    c.loop-one.invariant.0 c.loop-one.invariant.1.0 _ (c.in_err-specifier.ensures.answers real))) in
    search rules

pub loop-one-preserved : goal.loop-one-preserved
loop-one-preserved g c =
    let judged = goes_on judge_list AndSpecifier specifier_view c.args.specifiers.now c.loop-one.one-index c.one-item.result c.loop-one-test.true c.one-item.is NoSpecifier
    (known c.args.types.now c.args.scope.now) _
    (specifier_goes (specifiers_of (map specifier_view (take c.loop-one.one-index c.args.specifiers.now))) (specifier_view c.one-item.result)
    (typed_specifiers_of (map typed_specifier_view c.loop-one.list)) c.loop-one.words (known c.args.types.now c.args.scope.now) (known c.loop-one.types c.loop-one.scope)
    c.loop-one.invariant.0 c.loop-one.invariant.1.0 _ c.in_ok-specifier.ensures.answers) in (
      first_of (grind (arith, common_steps, typed_pushes), search (rules, typed_pushes)),
      (
        first_of (grind (arith, common_steps, typed_pushes), search (rules, typed_pushes)),
        first_of (grind (arith, common_steps, typed_pushes), search (rules, typed_pushes)),
      ),
      λ any first h. c.in_ok-specifier.ensures.grows any first (c.loop-one.invariant.2 any first h),
    )

pub returns-clause-answers : goal.returns-clause-answers
returns-clause-answers g c =
    let given = specifiers_end (specifiers_of (map specifier_view c.args.specifiers.now)) (typed_specifiers_of (map typed_specifier_view c.loop-one.list))
    (known c.args.types.now c.args.scope.now) (known c.loop-one.types c.loop-one.scope)
    (ap (λ xs. judge_list (specifiers_of (map specifier_view xs)) (known c.args.types.now c.args.scope.now)) (sym (take_all c.loop-one.one-index c.args.specifiers.now c.loop-one-test.false))
    ∙ c.loop-one.invariant.0) in
    first_of (grind (arith, common_steps, typed_views), search (rules, typed_views))

pub returns-in_err-specifier-clause-grows : goal.returns-in_err-specifier-clause-grows
returns-in_err-specifier-clause-grows g c = λ any first h. c.specifier.ensures.grows any first (c.loop-one.invariant.2 any first h)

pub returns-in_err-push-clause-grows : goal.returns-in_err-push-clause-grows
returns-in_err-push-clause-grows g c = λ any first h. c.specifier.ensures.grows any first (c.loop-one.invariant.2 any first h)
