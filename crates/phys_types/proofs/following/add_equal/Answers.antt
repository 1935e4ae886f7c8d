use Rattle.std.proofs.Common.{sym, subst}
use Rattle.c_types.specs.Equality.{physically_equal}
use Rattle.phys_types.specs.Shown.{IsKeptOf}
use Rattle.phys_types.proofs.following.add_equal.Goals as goal

pub kept-x-requires : goal.kept-x-requires
kept-x-requires c = c.requires.kept.kept c.args.t c.requires.equal.first

pub kept-y-requires : goal.kept-y-requires
kept-y-requires c = c.requires.kept.kept c.args.u c.requires.equal.second

pub add_alike-requires-clause-first_kept : goal.add_alike-requires-clause-first_kept
add_alike-requires-clause-first_kept c =
    let table = c.args.types.now in
    subst (IsKeptOf table (physically_equal table) c.args.t) (sym (c.kept-x.ensures c.kept-x.result.now)) (c.requires.kept.shown c.args.t c.kept-x.result.now c.requires.equal.first)

pub add_alike-requires-clause-second_kept : goal.add_alike-requires-clause-second_kept
add_alike-requires-clause-second_kept c =
    let table = c.args.types.now in
    subst (IsKeptOf table (physically_equal table) c.args.u) (sym (c.kept-y.ensures c.kept-y.result.now)) (c.requires.kept.shown c.args.u c.kept-y.result.now c.requires.equal.second)
