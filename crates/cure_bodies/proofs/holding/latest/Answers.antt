use Rattle.std.proofs.Common.{sym, ◌∙◌}
use Rattle.cure_bodies.proofs.Laws.{held_before, held_last}
use Rattle.cure_bodies.proofs.holding.latest.Goals as goal

pub returns-then-is_same : goal.returns-then-is_same
returns-then-is_same c =
    sym (c.looking.invariant ∙ held_last c.in-Some.before.now c.looking.rest.now c.in-Some.last.now c.args.t c.in-Some.ensures.cases.0 (sym c.is_same.ensures ∙ c.if-is_same.true))

pub looking-preserved : goal.looking-preserved
looking-preserved c =
    c.looking.invariant ∙ held_before c.in-Some.before.now c.looking.rest.now c.in-Some.last.now c.args.t c.in-Some.ensures.cases.0 (sym c.is_same.ensures ∙ c.if-is_same.false)
