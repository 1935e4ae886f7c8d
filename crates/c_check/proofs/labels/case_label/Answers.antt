use Rattle.std.proofs.Common.{◌≡◌, true, Some, ap, sym, ◌∙◌, rules, arith}
use Rattle.std.proofs.lemmas.Grind.{common_steps}
use Rattle.std.specs.List.{list_any}
use Rattle.std.specs.Ordering.{int_eq}
use Rattle.c_check_context.specs.ContextViews.{state_of}
use Rattle.c_tree.specs.Views.{expr_view}
use Rattle.c_unit_typing.specs.StatementJudging.{label_as}
use Rattle.c_check.proofs.LabelLaws.{label_twice}
use Rattle.c_check.proofs.labels.case_label.Goals as goal

pub returns-then-has-clause-answers : goal.returns-then-has-clause-answers
returns-then-has-clause-answers c = λ list holds real.
    let label : label_as c.constant.new.self.types c.args.on c.in_ok-e.value ≡ Some c.in-Some.value = first_of (search rules, grind (arith, common_steps)) in
    let twice : list_any (λ each. int_eq c.in-Some.value each) c.args.labels.now.values ≡ true = first_of (search rules, grind (arith, common_steps)) in
    rw c.refusal.ensures
    (label_twice c.args.on c.args.at (expr_view c.args.e.now) list (state_of c.args.context.now) (state_of c.constant.new.self) _ c.in-Some.value
    c.in_ok-e.ensures label
    (ap (λ labels. list_any (λ each. int_eq c.in-Some.value each) labels) (sym holds.values) ∙ twice))
