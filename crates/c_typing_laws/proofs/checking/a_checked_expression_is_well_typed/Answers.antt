use Rattle.c_typing_laws.proofs.JudgedWhole.{checked-judged, checked_value-judged, constant-judged}
use Rattle.c_typing_laws.proofs.checking.a_checked_expression_is_well_typed.Goals as goal

pub returns-clause-value : goal.returns-clause-value
returns-clause-value c = checked-judged

pub returns-clause-becomes : goal.returns-clause-becomes
returns-clause-becomes c = checked_value-judged

pub returns-clause-constant : goal.returns-clause-constant
returns-clause-constant c = constant-judged
