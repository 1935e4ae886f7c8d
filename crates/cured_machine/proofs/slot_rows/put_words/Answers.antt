use Rattle.std.proofs.Common.{◌∙◌, sym}
use Rattle.std.proofs.lemmas.Bool.{eqb-true}
use Rattle.std.proofs.lemmas.List.{nil_from_length}
use Rattle.cured_machine.proofs.SlotLaws.{written-next, written-one, written-none}
use Rattle.cured_machine.proofs.slot_rows.put_words.Goals as goal

pub returns-then-not-is_empty : goal.returns-then-not-is_empty
returns-then-not-is_empty c = written-next c.in-Some.first.now c.in-Some.rest.now c.args.words.now c.args.frame.now c.put_each.new.frame c.args.at c.in-Some.ensures.cases.0 c.put_each.ensures

pub returns-else-not-is_empty : goal.returns-else-not-is_empty
returns-else-not-is_empty c =
    written-one c.in-Some.first.now c.in-Some.rest.now c.args.words.now c.args.frame.now c.args.at c.in-Some.ensures.cases.0 (nil_from_length c.in-Some.rest.now (eqb-true _ _ (sym c.is_empty.ensures ∙ c.if-not-is_empty.false)))

pub returns-in_default : goal.returns-in_default
returns-in_default c = written-none c.args.words.now c.args.frame.now c.args.at (nil_from_length c.args.words.now c.in_default.ensures.cases)
