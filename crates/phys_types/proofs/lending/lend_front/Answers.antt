use Rattle.std.proofs.Common.{take, ap, sym, subst, ◌∙◌, arith}
use Rattle.phys_types.specs.Numbers.{AreLow}
use Rattle.phys_types.specs.Spots.{copies}
use Rattle.phys_types.proofs.Kept.{front_copies, fewer_small, once_front, once_all}
use Rattle.phys_types.proofs.lending.lend_front.Goals as goal

pub returns-then-len-limit-clause-size : goal.returns-then-len-limit-clause-size
returns-then-len-limit-clause-size c = once_all c.args.kept.now (omega arith)

pub returns-then-len-limit-clause-spots : goal.returns-then-len-limit-clause-spots
returns-then-len-limit-clause-spots c = once_front c.args.kept.now c.args.limit (omega arith) (omega arith)

pub copied-requires-clause-low : goal.copied-requires-clause-low
copied-requires-clause-low c = subst AreLow (sym c.deref.ensures.value) c.requires.0.0

pub copied-requires-clause-small : goal.copied-requires-clause-small
copied-requires-clause-small c = fewer_small c.enough-count.result c.args.kept.now.count c.args.kept.now.part.size c.enough-count.ensures.few c.requires.1

pub returns-clause-spots : goal.returns-clause-spots
returns-clause-spots c =
    let k = c.args.kept.now in
    c.truncate.ensures.items
    ∙ ap (take c.args.limit) (c.in_ok-spots.ensures ∙ ap (copies c.enough-count.result k.part.size 0) c.deref.ensures.value)
    ∙ front_copies c.enough-count.result k.count c.args.limit k.part.size k.part.spots.items c.enough-count.ensures.few c.enough-count.ensures.enough
