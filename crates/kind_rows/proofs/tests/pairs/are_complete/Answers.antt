use Rattle.std.proofs.Common.{sym, ◌∙◌, subst}
use Rattle.std.specs.List.{All}
use Rattle.std.proofs.lemmas.List.{take_all}
use Rattle.std.proofs.lemmas.List.Elements.{All-more}
use Rattle.c_types.specs.Table.{IsComplete}
use Rattle.kind_rows.proofs.tests.pairs.are_complete.Goals as goal

pub returns : goal.returns
returns c h = subst (All (IsComplete c.args.types.now)) (take_all c.members.m-index c.args.members.now c.members-test.false) c.members.invariant

pub members-preserved : goal.members-preserved
members-preserved c =
    All-more (IsComplete c.args.types.now) c.args.members.now c.members.m-index (record { 0 = 0 }) c.members-test.true c.members.invariant
    (sym c.is_complete.ensures ∙ c.if-not-is_complete.false)
