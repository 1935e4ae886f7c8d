use Rattle.std.proofs.Common.{arith}
use Rattle.lower_exprs.proofs.Laws.{grows_failed, grows_when}
use Rattle.lower_statements.proofs.nesting.in_switch.Goals as goal
use Rattle.lower_statements.proofs.nesting.in_switch.Goals.{then-v-lt4294967295+then-v-lt255, else-v-lt4294967295, else-v-lt4294967295-via-then-v-lt4294967295+else-v-lt255, else-v-lt4294967295-via-else-v-lt4294967295}

pub returns-clause-room : goal.returns-clause-room
returns-clause-room c = elim c.if-v-lt4294967295.branch [
  | then-v-lt4294967295+then-v-lt255 w ↦ rw w.out-is (grows_when _ _ _ _ _
      (let a = w.if-v-lt4294967295.true in let b = w.if-v-lt255.true in (omega arith, omega arith)) w.keep.ensures)
  | else-v-lt4294967295 w ↦ rw w.out-is (grows_failed _ _ _ _ (elim w.else-v-lt4294967295.branch [
    | else-v-lt4294967295-via-then-v-lt4294967295+else-v-lt255 x ↦ λ r. let a = x.if-v-lt255.false in let b = r.1 in omega arith
    | else-v-lt4294967295-via-else-v-lt4294967295 x ↦ λ r. let a = x.if-v-lt4294967295.false in let b = r.0 in omega arith
  ]) w.refuse.ensures)
]
