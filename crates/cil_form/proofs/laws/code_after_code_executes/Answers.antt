use Rattle.cil_form.proofs.ComputesLaws.{executes-append, executes-value, executes-fewer}
use Rattle.cil_form.proofs.laws.code_after_code_executes.Goals as goal

pub returns-clause-statements : goal.returns-clause-statements
returns-clause-statements c = executes-append

pub returns-clause-expression : goal.returns-clause-expression
returns-clause-expression c = executes-value

pub returns-clause-outside : goal.returns-clause-outside
returns-clause-outside c = executes-fewer
