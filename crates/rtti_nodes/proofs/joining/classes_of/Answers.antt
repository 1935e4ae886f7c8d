use Rattle.std.proofs.Common.{get_or, arith}
use Rattle.std.proofs.lemmas.Option.{slice_get-get_or}
use Rattle.cc_base.specs.Kinds.{kind_at}
use Rattle.rtti_nodes.proofs.Adding.{one_more}
use Rattle.rtti_nodes.proofs.Standing.{few_firsts, all_typed, sizes_at, rising_of}
use Rattle.rtti_nodes.proofs.joining.classes_of.Goals as goal

pub add-requires-clause-types : goal.add-requires-clause-types
add-requires-clause-types c = all_typed c.args.known.now (kind_at c.args.kinds.now) c.types.classes.firsts.items c.types.classes.parents.items c.types.invariant.stand

pub add-requires-clause-few : goal.add-requires-clause-few
add-requires-clause-few c =
    let l = few_firsts c.args.known.now (kind_at c.args.kinds.now) c.types.classes.firsts.items c.types.classes.parents.items c.types.invariant.stand in
    let m = c.requires.formed.small in omega arith

pub types-preserved : goal.types-preserved
types-preserved c =
    one_more c.args.known.now c.requires.formed (kind_at c.args.kinds.now) c.args.ordered.now (sizes_at c.args.known.now c.args.ordered.now c.requires.types)
    (rising_of c.args.ordered.now c.requires.sorted) c.types.one-index (get_or c.args.ordered.now c.types.one-index _)
    (slice_get-get_or c.args.ordered.now c.types.one-index _ c.types-test.true) c.types.classes c.add.new.classes c.types.invariant c.in_ok-add.ensures
