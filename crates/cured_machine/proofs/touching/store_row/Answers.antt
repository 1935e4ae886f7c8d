use Rattle.std.proofs.Common.{◌∙◌, arith}
use Rattle.cured_machine.proofs.RowLaws.{length-kept, row-room}
use Rattle.cured_machine.proofs.touching.store_row.Goals as goal

pub store-requires-then-k-eq2-clause-inside : goal.store-requires-then-k-eq2-clause-inside
store-requires-then-k-eq2-clause-inside c = row-room c.args.flat.now c.store.new.self c.args.at c.args.k _ c.requires.inside (length-kept c.args.flat.now c.store.new.self _ _ c.store.ensures) (omega arith) (omega arith)

pub store-requires-else-k-eq2-2-clause-inside : goal.store-requires-else-k-eq2-2-clause-inside
store-requires-else-k-eq2-2-clause-inside c = row-room c.args.flat.now c.store-else-k-eq2.new.self c.args.at c.args.k _ c.requires.inside (length-kept c.args.flat.now c.store-else-k-eq2.new.self _ _ c.store-else-k-eq2.ensures) (omega arith) (omega arith)

pub store-requires-else-k-eq2-3-clause-inside : goal.store-requires-else-k-eq2-3-clause-inside
store-requires-else-k-eq2-3-clause-inside c =
    row-room c.args.flat.now c.store-else-k-eq2-2.new.self c.args.at c.args.k _ c.requires.inside
    (length-kept c.store-else-k-eq2.new.self c.store-else-k-eq2-2.new.self _ _ c.store-else-k-eq2-2.ensures ∙ length-kept c.args.flat.now c.store-else-k-eq2.new.self _ _ c.store-else-k-eq2.ensures) (omega arith) (omega arith)
