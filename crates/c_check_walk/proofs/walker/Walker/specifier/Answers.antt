use Rattle.std.proofs.Common.{rules, arith}
use Rattle.std.proofs.lemmas.Grind.{common_steps}
use Rattle.c_tree.proofs.ViewLaws.{expr_views}
use Rattle.c_tree.specs.TypedViews.{typed_specifier_view}
use Rattle.c_tree.specs.Views.{specifier_view}
use Rattle.c_typing.specs.Judging.{known}
use Rattle.c_typing.specs.Walks.{judge_specifier}
use Rattle.c_check_walk.proofs.OutcomeLaws.{answers-moved}
use Rattle.c_tree.proofs.ViewLaws.{view_specifier-Aggregate, view_specifier-Enumeration}
use Rattle.c_check_walk.proofs.walker.Walker.specifier.Goals as goal

pub aggregate-requires : goal.aggregate-requires
aggregate-requires g c = record { nests = rw c.as_slice.ensures (rw (c.in-Aggregate.is, view_specifier-Aggregate) at c.requires.nests) }

pub enumeration-requires : goal.enumeration-requires
enumeration-requires g c =
    record { nests = rw c.as_slice-in-Enumeration.ensures (rw (c.in-Enumeration.is, view_specifier-Enumeration) at c.requires.nests) }

pub returns-in-Aggregate-clause-answers : goal.returns-in-Aggregate-clause-answers
returns-in-Aggregate-clause-answers g c =
    answers-moved (λ r. typed_specifier_view r.0) (λ one. judge_specifier c.args.before.now one (known c.args.types.now c.args.scope.now)) _ (specifier_view c.args.one.now) c.aggregate.result
    (known c.aggregate.new.types c.aggregate.new.scope) c.aggregate.ensures.answers (first_of (grind (arith, common_steps, expr_views), search (rules, expr_views)))

pub returns-in-Enumeration-clause-answers : goal.returns-in-Enumeration-clause-answers
returns-in-Enumeration-clause-answers g c =
    answers-moved (λ r. typed_specifier_view r.0) (λ one. judge_specifier c.args.before.now one (known c.args.types.now c.args.scope.now)) _ (specifier_view c.args.one.now) c.enumeration.result
    (known c.enumeration.new.types c.enumeration.new.scope) c.enumeration.ensures.answers (first_of (grind (arith, common_steps, expr_views), search (rules, expr_views)))
