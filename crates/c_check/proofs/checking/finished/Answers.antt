use Rattle.c_tree.specs.StatementViews.{unit_view}
use Rattle.c_check_context.specs.ContextViews.{state_of}
use Rattle.c_check.proofs.WholeLaws.{whole_gives}
use Rattle.c_check.proofs.checking.finished.Goals as goal

pub returns : goal.returns
returns c =
    whole_gives (unit_view c.args.unit.now) (state_of c.args.context) c.args.whole c.in_ok-typed.field-0 c.requires
    c.in_ok-typed.ensures.unit c.in_ok-typed.ensures.types c.in_ok-typed.ensures.nodes c.in_ok-typed.ensures.printed c.in_ok-typed.ensures.sorted
