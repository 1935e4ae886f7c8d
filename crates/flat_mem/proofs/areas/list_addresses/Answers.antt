use Rattle.std.proofs.Common.{◌∙◌, sym}
use Rattle.std.proofs.lemmas.Bool.{eqb-true}
use Rattle.std.proofs.lemmas.List.{nil_from_length}
use Rattle.flat_mem.proofs.AreaCode.{none-listed}
use Rattle.flat_mem.proofs.areas.list_addresses.Goals as goal

pub returns-else-not-is_empty-clause-added : goal.returns-else-not-is_empty-clause-added
returns-else-not-is_empty-clause-added c =
    none-listed c.args.areas.now c.args.list.now.items c.args.start (nil_from_length c.args.areas.now (eqb-true _ _ (sym c.is_empty.ensures ∙ c.if-not-is_empty.false)))
