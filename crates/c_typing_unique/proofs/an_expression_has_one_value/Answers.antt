use Rattle.c_typing_unique.proofs.UniqueWhole.{assigned-whole, bare-whole, converted-whole, dropped-whole, plain-whole}
use Rattle.c_typing_unique.proofs.an_expression_has_one_value.Goals as goal

pub returns-clause-plain : goal.returns-clause-plain
returns-clause-plain c = plain-whole

pub returns-clause-dropped : goal.returns-clause-dropped
returns-clause-dropped c = dropped-whole

pub returns-clause-converted : goal.returns-clause-converted
returns-clause-converted c = converted-whole

pub returns-clause-assigned : goal.returns-clause-assigned
returns-clause-assigned c = assigned-whole

pub returns-clause-apart : goal.returns-clause-apart
returns-clause-apart c = bare-whole
