use Rattle.std.proofs.Common.{List, sym, subst}
use Rattle.std.proofs.lemmas.Result.{on_ok_weaker}
use Rattle.c_types.specs.Table.{Entry}
use Rattle.c_types.specs.Equality.{physically_equal}
use Rattle.c_types.specs.Sound.{IsWellFormed}
use Rattle.phys_types.specs.Shown.{IsKeptOf, all_spots}
use Rattle.phys_types.proofs.InCopies.{kept_few, kept_whole}
use Rattle.phys_types.proofs.Tops.{alike_near}
use Rattle.phys_types.proofs.known.Known.add_places.Goals as goal

pub add_alike-requires-clause-first_kept : goal.add_alike-requires-clause-first_kept
add_alike-requires-clause-first_kept c =
    subst (λ (types : List Entry). IsKeptOf types (physically_equal types) c.args.t c.repeated-x.result.now) (sym c.self.view_is) c.repeated-x.ensures

pub add_alike-requires-clause-second_kept : goal.add_alike-requires-clause-second_kept
add_alike-requires-clause-second_kept c =
    subst (λ (types : List Entry). IsKeptOf types (physically_equal types) c.args.u c.repeated-y.result.now) (sym c.self.view_is) c.repeated-y.ensures

pub add_copies-requires-clause-first : goal.add_copies-requires-clause-first
add_copies-requires-clause-first c =
    let table = c.args.self.now in
    kept_few table (subst IsWellFormed c.self.view_is c.self.invariant.formed) (physically_equal table) c.args.t c.repeated-x.result.now c.repeated-x.ensures

pub add_copies-requires-clause-second : goal.add_copies-requires-clause-second
add_copies-requires-clause-second c =
    let table = c.args.self.now in
    kept_few table (subst IsWellFormed c.self.view_is c.self.invariant.formed) (physically_equal table) c.args.u c.repeated-y.result.now c.repeated-y.ensures

pub returns-else-is_equal : goal.returns-else-is_equal
returns-else-is_equal c =
    let table = c.args.self.now in
    let w = subst IsWellFormed c.self.view_is c.self.invariant.formed in
    let v = kept_whole table w (physically_equal table) c.args.t c.repeated-x.result.now c.repeated-x.ensures in
    let z = kept_whole table w (physically_equal table) c.args.u c.repeated-y.result.now c.repeated-y.ensures in
    on_ok_weaker c.add_copies.result
    (alike_near table w c.args.t c.args.u v.0 z.0 c.requires.first c.requires.second v.4 z.4
    c.args.found.now c.add_copies.new.found (all_spots c.repeated-x.result.now) (all_spots c.repeated-y.result.now) v.1 z.1
    c.is_equal.result c.is_equal.ensures c.if-is_equal.false c.requires.near)
    c.add_copies.ensures
