use Rattle.program_answers.proofs.Reasons.{keeps_itself}
use Rattle.program_top.proofs.top.on_text.Goals as goal

pub kinds_text-requires : goal.kinds_text-requires
kinds_text-requires g c = rw c.in-Kinds.is at c.requires

pub cure_text-requires : goal.cure_text-requires
cure_text-requires g c = rw c.in-Cure.is at c.requires

pub run_text-requires : goal.run_text-requires
run_text-requires g c = rw c.in-Run.is at c.requires

pub exec_text-requires : goal.exec_text-requires
exec_text-requires g c = rw c.in-Exec.is at c.requires

pub returns-in-Kinds : goal.returns-in-Kinds
returns-in-Kinds g c = rw c.in-Kinds.is (c.kinds_text.ensures _ (keeps_itself _))

pub returns-in-Cure : goal.returns-in-Cure
returns-in-Cure g c = rw c.in-Cure.is (c.cure_text.ensures _ (keeps_itself _))

pub returns-in-Run : goal.returns-in-Run
returns-in-Run g c = rw c.in-Run.is c.run_text.ensures

pub returns-in-Exec : goal.returns-in-Exec
returns-in-Exec g c = rw c.in-Exec.is c.exec_text.ensures
