use Rattle.c_typing_given.proofs.CheckedGiven.{dropped-given, constant-given}
use Rattle.c_typing_given.proofs.TreesGiven.{expr-given}
use Rattle.c_typing_given.proofs.expressions.a_value_is_given.Goals as goal

pub returns-clause-dropped : goal.returns-clause-dropped
returns-clause-dropped c = λ T e v s b count basic limits here h uses room holds over runtime.
    dropped-given T basic e (expr-given T basic limits.few e) v s b count here h uses room holds (over, runtime)

pub returns-clause-constant : goal.returns-clause-constant
returns-clause-constant c = λ T e v z s b count basic limits here h uses room holds plain known.
    constant-given T basic e (expr-given T basic limits.few e) v s b count here h uses room holds plain z known
