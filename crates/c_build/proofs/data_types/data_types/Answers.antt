use Rattle.std.proofs.Common.{◌<◌, sym, ◌∙◌, ap, subst, ℕ}
use Rattle.c_types.specs.Table.{is_function_shape}
use Rattle.c_build.proofs.DataTypes.{passed, plain_shape, pushed}
use Rattle.c_build.proofs.data_types.data_types.Goals as goal
use Rattle.c_build.proofs.data_types.data_types.Goals.{in-Function, in-Void+in_ok-push-in-Void}

pub types-preserved : goal.types-preserved
types-preserved c = elim c.match-shape.branch [
  | in-Function w ↦ rw w.all-is
      (passed c.args.types.now c.types.number c.types.all.items c.types.invariant (ap is_function_shape (sym c.shape.ensures ∙ w.in-Function.is)))
  | in-Void+in_ok-push-in-Void w ↦ rw (w.all-is, w.in_ok-push-in-Void.ensures.items)
      (pushed c.args.types.now c.types.number c.types.all.items c.types.invariant
      (subst (λ (n : ℕ). c.types.number < n) c.count-number-end.ensures.number c.types-test.true) (ap is_function_shape (sym c.shape.ensures) ∙ plain_shape c.shape.result.now w.in-Void.is))
]
