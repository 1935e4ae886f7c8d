use Rattle.std.proofs.Common.{rules}
use Rattle.c_tree.specs.StatementViews.{block_view}
use Rattle.c_check.proofs.LeaveLaws.{body_gives, body_stops}
use Rattle.c_check.proofs.definitions.body_in.Goals as goal

pub returns-in_err-leave : goal.returns-in_err-leave
returns-in_err-leave c =
    let stopped = body_stops c.args.brace c.args.to c.args.level (block_view c.args.items.now) _ _ _ _ _ _
    c.in_ok-go_on.ensures c.in_ok-list.ensures c.in_err-leave.ensures in
    search rules

pub returns : goal.returns
returns c =
    body_gives c.args.brace c.args.to c.args.level (block_view c.args.items.now) _ _ _ _ _
    c.in_ok-go_on.ensures c.in_ok-list.ensures c.in_ok-leave.ensures
