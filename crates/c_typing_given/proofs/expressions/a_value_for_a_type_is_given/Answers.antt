use Rattle.c_typing_given.proofs.CheckedGiven.{returned-given, copied-given}
use Rattle.c_typing_given.proofs.OvertakenGiven.{assigned-given}
use Rattle.c_typing_given.proofs.TreesGiven.{expr-given}
use Rattle.c_typing_given.proofs.expressions.a_value_for_a_type_is_given.Goals as goal

pub returns-clause-returned : goal.returns-clause-returned
returns-clause-returned c = λ T t at e v s b count basic limits here there h uses room holds converted.
    returned-given T basic t at e (expr-given T basic limits.few e) v s b count here there h uses room holds converted

pub returns-clause-initial : goal.returns-clause-initial
returns-clause-initial c = λ T t at e v s b count basic limits here there h uses room holds assigned.
    assigned-given T basic t at e (expr-given T basic limits.few e) v s b count here there h uses room holds assigned

pub returns-clause-copied : goal.returns-clause-copied
returns-clause-copied c = λ T t at e p s b count basic limits here there h uses room holds aggregate shaped same.
    copied-given T basic t at e (expr-given T basic limits.few e) p s b count here there h uses room holds aggregate shaped same
