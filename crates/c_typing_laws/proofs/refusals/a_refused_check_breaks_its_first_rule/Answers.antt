use Rattle.c_typing_laws.proofs.RefusedWhole.{checked-refuses, checked_value-refuses, constant-refuses}
use Rattle.c_typing_laws.proofs.refusals.a_refused_check_breaks_its_first_rule.Goals as goal

pub returns-clause-value : goal.returns-clause-value
returns-clause-value c e s p t r k h = checked-refuses p t e s r k h

pub returns-clause-becomes : goal.returns-clause-becomes
returns-clause-becomes c u at init e s p t r k b h = checked_value-refuses p t u at init e s r k b h

pub returns-clause-constant : goal.returns-clause-constant
returns-clause-constant c e s p t r k h = constant-refuses p t e s r k h
