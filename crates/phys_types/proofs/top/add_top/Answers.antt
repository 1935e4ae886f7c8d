use Rattle.std.proofs.Common.{sym, subst, ◌∙◌}
use Rattle.std.proofs.lemmas.Result.{on_ok_weaker}
use Rattle.c_types.specs.Equality.{physically_equal}
use Rattle.phys_types.specs.Shown.{IsLayoutOf, all_spots}
use Rattle.phys_types.proofs.InCopies.{kept_few, kept_whole}
use Rattle.phys_types.proofs.Kept.{kept_low}
use Rattle.phys_types.proofs.Tops.{top_up, top_down, top_up_tile, top_down_tile, no_tile}
use Rattle.phys_types.proofs.top.add_top.Goals as goal

pub add_copies-requires-clause-first : goal.add_copies-requires-clause-first
add_copies-requires-clause-first c = kept_few c.args.types.now c.requires.formed (physically_equal c.args.types.now) c.args.from c.args.x.now c.requires.from_kept

pub add_copies-requires-clause-second : goal.add_copies-requires-clause-second
add_copies-requires-clause-second c = kept_few c.args.types.now c.requires.formed (physically_equal c.args.types.now) c.args.to c.args.y.now c.requires.to_kept

pub add_copies-requires-in-Down-clause-first : goal.add_copies-requires-in-Down-clause-first
add_copies-requires-in-Down-clause-first c = kept_few c.args.types.now c.requires.formed (physically_equal c.args.types.now) c.args.from c.args.x.now c.requires.from_kept

pub add_copies-requires-in-Down-clause-second : goal.add_copies-requires-in-Down-clause-second
add_copies-requires-in-Down-clause-second c = kept_few c.args.types.now c.requires.formed (physically_equal c.args.types.now) c.args.to c.args.y.now c.requires.to_kept

pub returns-in-Up : goal.returns-in-Up
returns-in-Up c =
    let table = c.args.types.now in
    let v = kept_whole table c.requires.formed (physically_equal table) c.args.from c.args.x.now c.requires.from_kept in
    let z = kept_whole table c.requires.formed (physically_equal table) c.args.to c.args.y.now c.requires.to_kept in
    on_ok_weaker c.add_copies.result
    (top_up table c.requires.formed c.args.from c.args.to v.0 z.0 c.requires.from c.requires.to v.4 z.4
    c.args.found.now c.add_copies.new.found (all_spots c.args.x.now) (all_spots c.args.y.now) v.1 z.1 (sym c.requires.class ∙ c.in-Up.is))
    c.add_copies.ensures

pub returns-in-Down : goal.returns-in-Down
returns-in-Down c =
    let table = c.args.types.now in
    let v = kept_whole table c.requires.formed (physically_equal table) c.args.from c.args.x.now c.requires.from_kept in
    let z = kept_whole table c.requires.formed (physically_equal table) c.args.to c.args.y.now c.requires.to_kept in
    on_ok_weaker c.add_copies-in-Down.result
    (top_down table c.requires.formed c.args.from c.args.to v.0 z.0 c.requires.from c.requires.to v.4 z.4
    c.args.found.now c.add_copies-in-Down.new.found (all_spots c.args.x.now) (all_spots c.args.y.now) v.1 z.1 (sym c.requires.class ∙ c.in-Down.is))
    c.add_copies-in-Down.ensures

pub lend-requires : goal.lend-requires
lend-requires c = kept_low c.args.types.now (physically_equal c.args.types.now) c.args.from c.requires.formed c.args.x.now c.requires.from_kept

pub lend-requires-in-UpTile : goal.lend-requires-in-UpTile
lend-requires-in-UpTile c = kept_low c.args.types.now (physically_equal c.args.types.now) c.args.to c.requires.formed c.args.y.now c.requires.to_kept

pub lend-requires-in-DownTile : goal.lend-requires-in-DownTile
lend-requires-in-DownTile c = kept_low c.args.types.now (physically_equal c.args.types.now) c.args.from c.requires.formed c.args.x.now c.requires.from_kept

pub lend-requires-in-DownTile-2 : goal.lend-requires-in-DownTile-2
lend-requires-in-DownTile-2 c = kept_low c.args.types.now (physically_equal c.args.types.now) c.args.to c.requires.formed c.args.y.now c.requires.to_kept

pub returns-in_ok-other-in-UpTile : goal.returns-in_ok-other-in-UpTile
returns-in_ok-other-in-UpTile c =
    let table = c.args.types.now in
    on_ok_weaker c.add_columns.result
    (top_up_tile table c.requires.formed c.args.from c.args.to c.layout-long.result.now c.layout-short.result.now c.requires.from c.requires.to
    (subst (IsLayoutOf table (physically_equal table) c.args.from) (sym c.layout-long.ensures)
    (c.in_ok-lent-in-UpTile.ensures table (physically_equal table) c.args.from c.requires.from_kept))
    (subst (IsLayoutOf table (physically_equal table) c.args.to) (sym c.layout-short.ensures)
    (c.in_ok-other-in-UpTile.ensures table (physically_equal table) c.args.to c.requires.to_kept))
    c.args.found.now c.add_columns.new.found c.deref.result.now c.deref-in-UpTile.result.now c.deref.ensures.value c.deref-in-UpTile.ensures.value
    c.spots_in_unit-step.result c.spots_in_unit-step.ensures.count (sym c.requires.class ∙ c.in-UpTile.is))
    c.add_columns.ensures

pub returns-in_ok-other-in-DownTile : goal.returns-in_ok-other-in-DownTile
returns-in_ok-other-in-DownTile c =
    let table = c.args.types.now in
    on_ok_weaker c.add_columns-in-DownTile.result
    (top_down_tile table c.requires.formed c.args.from c.args.to c.layout-short-in-DownTile.result.now c.layout-long-in-DownTile.result.now c.requires.from c.requires.to
    (subst (IsLayoutOf table (physically_equal table) c.args.from) (sym c.layout-short-in-DownTile.ensures)
    (c.in_ok-lent-in-DownTile.ensures table (physically_equal table) c.args.from c.requires.from_kept))
    (subst (IsLayoutOf table (physically_equal table) c.args.to) (sym c.layout-long-in-DownTile.ensures)
    (c.in_ok-other-in-DownTile.ensures table (physically_equal table) c.args.to c.requires.to_kept))
    c.args.found.now c.add_columns-in-DownTile.new.found c.deref-in-DownTile.result.now c.deref-in-DownTile-2.result.now c.deref-in-DownTile.ensures.value
    c.deref-in-DownTile-2.ensures.value c.spots_in_unit-step-in-DownTile.result c.spots_in_unit-step-in-DownTile.ensures.count (sym c.requires.class ∙ c.in-DownTile.is))
    c.add_columns-in-DownTile.ensures

pub returns-in-Tile : goal.returns-in-Tile
returns-in-Tile c =
    let table = c.args.types.now in
    let v = kept_whole table c.requires.formed (physically_equal table) c.args.from c.args.x.now c.requires.from_kept in
    let z = kept_whole table c.requires.formed (physically_equal table) c.args.to c.args.y.now c.requires.to_kept in
    absurd (no_tile table c.requires.formed c.args.from c.args.to v.0 z.0 c.requires.from c.requires.to v.4 z.4
    c.args.found.now c.args.found.now (all_spots c.args.x.now) (all_spots c.args.y.now) v.1 z.1 (sym c.requires.class ∙ c.in-Tile.is))
