use Rattle.std.proofs.Common.{ap, sym, ◌∙◌, arith, true}
use Rattle.c_tree.specs.Depth.{parameters_height}
use Rattle.c_tree.specs.Tree.{NoParameter}
use Rattle.c_tree.specs.TypedViews.{typed_parameter_view}
use Rattle.c_tree.specs.Views.{parameter_view}
use Rattle.c_typing.specs.Judging.{known}
use Rattle.c_typing.specs.Walks.{judge_parameters}
use Rattle.c_check_declarators.specs.DerivedViews.{derived_view}
use Rattle.c_check_walk.proofs.NestLaws.{nests-within}
use Rattle.c_check_walk.proofs.OutcomeLaws.{answers-moved}
use Rattle.c_check_walk.proofs.PartsSeen.{parameter_seen}
use Rattle.c_check_walk.proofs.SpecifiedLaws.{parameter_goes}
use Rattle.c_check_walk.proofs.walker.Walker.parameter.Goals as goal

pub specifiers-requires : goal.specifiers-requires
specifiers-requires g c =
    let seen = ap parameters_height (parameter_seen c.args.one.now NoParameter) in
    record { nests = nests-within _ _ c.requires.nests (omega (arith, seen)) }

pub declared-requires : goal.declared-requires
declared-requires g c =
    let seen = ap parameters_height (parameter_seen c.args.one.now NoParameter) in
    record { nests = nests-within _ _ c.requires.nests (omega (arith, seen)) }

pub returns-clause-answers : goal.returns-clause-answers
returns-clause-answers g c = λ start before done judged.
    let goes = parameter_goes c.args.void before _ _ start (known c.args.types.now c.args.scope.now) (known c.specifiers.new.types c.specifiers.new.scope)
    (known c.declared.new.types c.declared.new.scope) done judged c.in_ok-specifiers.ensures.listed.0 _ c.in_ok-specifiers.ensures.listed.1 c.in_ok-specifiers.ensures.listed.2
    c.declared_place-at.result c.declared_place-at.ensures _ c.in_ok-declarator.ensures.answers
    (derived_view c.derived_by_declared-derived.result) c.derived_by_declared-derived.ensures c.typedef_place-named.result c.typedef_place-named.ensures in
    answers-moved (λ made. typed_parameter_view made done) (λ o. o) _ (judge_parameters c.args.void (parameter_view c.args.one.now before) start) c.made_parameter.result
    (known c.made_parameter.new.types c.made_parameter.new.scope) (c.made_parameter.ensures.answers done)
    (sym (ap (λ all. judge_parameters c.args.void all start) (parameter_seen c.args.one.now before) ∙ goes))

pub returns-in_err-specifiers-clause-grows : goal.returns-in_err-specifiers-clause-grows
returns-in_err-specifiers-clause-grows g c = λ first h. c.specifiers.ensures.grows true first h

pub returns-in_err-declarator-clause-grows : goal.returns-in_err-declarator-clause-grows
returns-in_err-declarator-clause-grows g c = λ first h. c.declared.ensures.grows true first (c.specifiers.ensures.grows true first h)

pub returns-clause-grows : goal.returns-clause-grows
returns-clause-grows g c = λ first h. c.made_parameter.ensures.grows first (c.declared.ensures.grows true first (c.specifiers.ensures.grows true first h))
