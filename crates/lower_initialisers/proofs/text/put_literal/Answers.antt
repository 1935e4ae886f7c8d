use Rattle.std.proofs.Common.{arith}
use Rattle.lower_exprs.proofs.Laws.{grows_failed, grows_of}
use Rattle.lower_initialisers.proofs.text.put_literal.Goals as goal

pub returns-then-bytes-p : goal.returns-then-bytes-p
returns-then-bytes-p c = grows_of _ _ _ _ _ (λ r. r.1) (rw c.element_of.ensures at c.put_text.ensures)

pub returns-else-bytes-p : goal.returns-else-bytes-p
returns-else-bytes-p c = grows_failed _ _ _ _ (λ r. let a = c.if-bytes-p.false in let s = r.0 in omega arith) c.refuse.ensures
