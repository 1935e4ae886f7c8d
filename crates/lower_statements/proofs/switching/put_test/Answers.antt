use Rattle.lower_exprs.proofs.Laws.{grows_of, grows_then}
use Rattle.lower_statements.specs.Switches.{Tested}
use Rattle.lower_statements.proofs.switching.put_test.Goals as goal

pub returns-in-Statement : goal.returns-in-Statement
unfolding Tested
returns-in-Statement c = rw c.in-Statement.is c.keep.ensures

pub returns-in-Declaration : goal.returns-in-Declaration
unfolding Tested
returns-in-Declaration c = rw c.in-Declaration.is c.keep-in-Declaration.ensures

pub returns-in-Case : goal.returns-in-Case
unfolding Tested
returns-in-Case c = rw c.in-Case.is
    (grows_of _ _ (Unit {0} × Unit {0}) _ _ (λ r. (tt, tt)) (grows_then _ _ _ _ _ _ _ c.put_equal.ensures c.put_chosen.ensures))

pub returns-in-Default : goal.returns-in-Default
unfolding Tested
returns-in-Default c = rw c.in-Default.is c.keep-in-Default.ensures
