use Rattle.std.proofs.Common.{sym, subst}
use Rattle.phys_types.specs.Numbers.{number_in, same_number}
use Rattle.phys_types.specs.Shown.{IsLayoutOf}
use Rattle.phys_types.proofs.Kept.{kept_low}
use Rattle.phys_types.proofs.SameByPart.{same_seen}
use Rattle.phys_types.proofs.round.look_alike.Goals as goal

pub lend-requires : goal.lend-requires
lend-requires c = kept_low c.args.types.now (same_number (number_in c.args.numbers.now)) c.args.t c.requires.formed c.args.x.now c.requires.first_kept

pub lend-requires-2 : goal.lend-requires-2
lend-requires-2 c = kept_low c.args.types.now (same_number (number_in c.args.numbers.now)) c.args.u c.requires.formed c.args.y.now c.requires.second_kept

-- one copy of each has shown it
pub returns-then-same_by_part : goal.returns-then-same_by_part
returns-then-same_by_part c =
    let table = c.args.types.now in
    same_seen table c.requires.formed (number_in c.args.numbers.now) c.args.t c.args.u c.args.x.now c.args.y.now c.requires.first_kept c.requires.second_kept
    c.is_one_function.result c.is_one_function.ensures c.if-not-is_one_function.true (c.same_by_part.ensures c.if-same_by_part.true)

pub returns : goal.returns
returns c =
    let table = c.args.types.now in
    let E = same_number (number_in c.args.numbers.now) in
    c.looks_alike.ensures E
    (subst (IsLayoutOf table E c.args.t) (sym c.layout.ensures) (c.in_ok-lent.ensures table E c.args.t c.requires.first_kept))
    (subst (IsLayoutOf table E c.args.u) (sym c.layout-2.ensures) (c.in_ok-other.ensures table E c.args.u c.requires.second_kept))
