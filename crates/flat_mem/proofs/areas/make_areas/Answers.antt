use Rattle.std.proofs.Common.{◌∙◌, sym}
use Rattle.std.proofs.lemmas.Bool.{eqb-true}
use Rattle.std.proofs.lemmas.List.{nil_from_length}
use Rattle.flat_mem.proofs.AreaCode.{none-made, none-end}
use Rattle.flat_mem.proofs.areas.make_areas.Goals as goal

pub returns-then-is_empty-clause-made : goal.returns-then-is_empty-clause-made
returns-then-is_empty-clause-made c =
    none-made c.args.areas.now c.args.bytes.now c.args.start (nil_from_length c.args.areas.now (eqb-true _ _ (sym c.is_empty.ensures ∙ c.if-is_empty.true)))

pub returns-then-is_empty-clause-end : goal.returns-then-is_empty-clause-end
returns-then-is_empty-clause-end c =
    none-end c.args.areas.now c.args.start (nil_from_length c.args.areas.now (eqb-true _ _ (sym c.is_empty.ensures ∙ c.if-is_empty.true)))
