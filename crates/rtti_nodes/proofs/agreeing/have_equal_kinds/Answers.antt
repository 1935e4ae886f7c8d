use Rattle.std.proofs.lemmas.List.Elements.{Contains-get_or}
use Rattle.rtti_nodes.proofs.agreeing.have_equal_kinds.Goals as goal

pub kind_of-requires : goal.kind_of-requires
kind_of-requires c = c.requires.first _ _ (Contains-get_or c.args.pairs.now c.pairs.pair-index (record { 0 = 0 }, record { 0 = 0 }) c.pairs-test.true)

pub kind_of-requires-in-pairs : goal.kind_of-requires-in-pairs
kind_of-requires-in-pairs c = c.requires.second _ _ (Contains-get_or c.args.pairs.now c.pairs.pair-index (record { 0 = 0 }, record { 0 = 0 }) c.pairs-test.true)
