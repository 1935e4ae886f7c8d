use Rattle.std.proofs.Common.{arith}
use Rattle.lower_exprs.proofs.Laws.{grows_failed, grows_nothing, grows_when}
use Rattle.lower_initialisers.proofs.filling.part_of.Goals as goal

pub returns-then-offset-p-clause-room : goal.returns-then-offset-p-clause-room
returns-then-offset-p-clause-room c = grows_failed _ _ _ _ (λ r. let a = c.if-offset-p.true in let s = r in omega arith) c.refuse.ensures

pub returns-clause-room : goal.returns-clause-room
returns-clause-room c = grows_when _ _ _ _ _ (let a = c.if-offset-p.false in omega arith) (grows_nothing _ _)
