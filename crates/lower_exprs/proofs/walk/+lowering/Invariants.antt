use Rattle.std.proofs.Common.{◌≡◌, suc, map, take}
use Rattle.c_tree.specs.TypedViews.{typed_arguments_of, typed_expr_view}
use Rattle.lower_rules.specs.Expressions.{IsCodeOfArguments}
use Rattle.lower_exprs.specs.Drafts.{context_of, Grows}
use Rattle.lower_exprs.specs.Ready.{HaveCode}
use Rattle.lower_exprs.proofs.walk.+lowering.Given as goal

abbrev pub invariant-arguments-loop-e : goal.invariant-arguments-loop-e
invariant-arguments-loop-e l = record {
  made : Grows (IsCodeOfArguments (typed_arguments_of (map typed_expr_view (take l.e-index l.all))) (context_of l.k) (suc l.t))
      (HaveCode (typed_arguments_of (map typed_expr_view (take l.e-index l.all))) (context_of l.k) (suc l.t)) l.fn.out l.out;
  number : l.i ≡ l.e-index;
}
