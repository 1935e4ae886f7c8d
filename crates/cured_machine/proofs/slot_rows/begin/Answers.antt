use Rattle.std.proofs.Common.{◌∙◌, ap}
use Rattle.flat_mem.specs.Bytes.{written}
use Rattle.cured_machine.proofs.SlotLaws.{zeroed-all}
use Rattle.cured_machine.proofs.slot_rows.begin.Goals as goal

pub returns : goal.returns
returns c = c.put_words.ensures ∙ ap (λ l. written c.args.words.now l 0) (c.clear.ensures ∙ zeroed-all c.args.frame.now)
