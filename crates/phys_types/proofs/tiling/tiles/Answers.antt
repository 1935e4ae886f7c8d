use Rattle.std.proofs.Common.{◌≡◌, ap, ◌∙◌, arith}
use Rattle.phys_types.specs.Numbers.{number_in, spots_before, same_spots}
use Rattle.phys_types.proofs.Tiled.{low_before, positive_divisor, not_tiled, maybe_tiled}
use Rattle.phys_types.proofs.tiling.tiles.Goals as goal

first_is : (c : goal.After-spots_before-first) → c.spots_before-first.result.now ≡ spots_before c.greatest_common_divisor-unit.result c.args.x.now.spots.items
first_is c = c.spots_before-first.ensures ∙ ap (spots_before c.greatest_common_divisor-unit.result) c.deref.ensures.value

pub end_within-requires : goal.end_within-requires
end_within-requires c = low_before c.greatest_common_divisor-unit.result c.args.x.now.spots.items _ (first_is c) c.requires.low

pub returns-then-not-end_within : goal.returns-then-not-end_within
returns-then-not-end_within c =
    not_tiled (number_in c.args.numbers.now) c.args.x.now.size c.args.n c.greatest_common_divisor-unit.result c.args.x.now.spots.items c.spots_before-first.result.now
    c.greatest_common_divisor-unit.ensures (λ e. omega arith)
    (c.spots_before-first.ensures ∙ ap (spots_before c.greatest_common_divisor-unit.result) c.deref.ensures.value)
    c.end_within.result c.end_within.ensures c.if-not-end_within.true

pub nonzero_div-x : goal.nonzero_div-x
nonzero_div-x c = positive_divisor c.args.x.now.size c.args.n c.greatest_common_divisor-unit.result c.greatest_common_divisor-unit.ensures (λ e. omega arith)

pub copied-requires-clause-low : goal.copied-requires-clause-low
copied-requires-clause-low c =
    low_before c.greatest_common_divisor-unit.result c.args.x.now.spots.items _
    (c.spots_before-first.ensures ∙ ap (spots_before c.greatest_common_divisor-unit.result) c.deref.ensures.value) c.requires.low

pub returns : goal.returns
returns c =
    maybe_tiled (number_in c.args.numbers.now) c.args.x.now.size c.args.n c.greatest_common_divisor-unit.result c.args.x.now.spots.items c.spots_before-first.result.now
    c.greatest_common_divisor-unit.ensures (λ e. omega arith)
    (c.spots_before-first.ensures ∙ ap (spots_before c.greatest_common_divisor-unit.result) c.deref.ensures.value)
    c.end_within.result c.same_spots.result c.in_ok-all.all.items c.end_within.ensures c.if-not-end_within.false c.in_ok-all.ensures
    (c.same_spots.ensures ∙ (λ i. same_spots (number_in c.args.numbers.now) (c.deref-2.ensures.value i) (c.deref-3.ensures.value i)))
