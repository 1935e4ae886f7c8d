use Rattle.std.proofs.Common.{ap, sym, subst, map, ◌∙◌, arith}
use Rattle.c_tree.proofs.ViewLaws.{view_part-Function}
use Rattle.c_tree.specs.Tree.{Parts, AndFunction, NoParameter}
use Rattle.c_tree.specs.TypedViews.{typed_part_view}
use Rattle.c_tree.specs.Views.{added, part_view, parameter_view}
use Rattle.c_typing.specs.Judging.{Answers, known}
use Rattle.c_typing.specs.Walks.{judge_parts}
use Rattle.c_check_walk.proofs.NestLaws.{nests-within}
use Rattle.c_check_walk.proofs.walker.Walker.part.Goals as goal

pub function_part-requires : goal.function_part-requires
function_part-requires g c =
    let inside = rw (c.in-Function.is, view_part-Function) at c.requires.nests in
    record { nests = rw c.as_slice-in-Function.ensures (nests-within _ _ inside (omega arith)) }

pub returns-in-Function-clause-answers : goal.returns-in-Function-clause-answers
returns-in-Function-clause-answers g c = λ start before done judged.
    subst (λ (add : Parts → Parts). Answers (λ made. typed_part_view made done) (judge_parts c.args.at (add before) start) c.function_part.result
    (known c.function_part.new.types c.function_part.new.scope))
    (sym (ap part_view c.in-Function.is ∙ view_part-Function _ _
    ∙ ap (λ list. λ all. AndFunction all c.in-Function.paren (added NoParameter (map parameter_view list))) (sym c.as_slice-in-Function.ensures)))
    (c.function_part.ensures.answers start before done judged)
