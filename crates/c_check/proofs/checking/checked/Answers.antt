use Rattle.c_tree.specs.StatementViews.{unit_view}
use Rattle.c_check_context.specs.ContextViews.{state_of}
use Rattle.c_check.proofs.WholeLaws.{whole_judged, whole_stops}
use Rattle.c_check.proofs.checking.checked.Goals as goal

pub finished-requires : goal.finished-requires
finished-requires c = whole_judged (unit_view c.args.unit.now) _ (state_of c.whole.new.context) _ c.in_ok-context.ensures c.in-Ok.ensures

pub returns-in-Err : goal.returns-in-Err
returns-in-Err c = whole_stops (unit_view c.args.unit.now) _ (state_of c.whole.new.context) _ c.in_ok-context.ensures c.in-Err.ensures
