use Rattle.std.specs.Prelude.{◌↔◌}
use Rattle.std.proofs.Common.{◌≤◌, List, length, sym, subst, ◌∙◌, arith}
use Rattle.std.specs.List.{Contains}
use Rattle.cc_base.specs.declared.number.TypeId.{TypeId}
use Rattle.phys_types.specs.declared.spot.Spot.{Spot}
use Rattle.phys_types.specs.Standing.{HoldsUnion}
use Rattle.phys_types.proofs.MixedSpots.{all_of, unions_more}
use Rattle.phys_types.proofs.mixed_unions.unions_of.Goals as goal

pub spots-preserved : goal.spots-preserved
spots-preserved c =
    unions_more c.args.spots.now c.spots.spot-index _ c.spots.unions.keys c.add_union.new.unions.keys c.union_at.result c.spots-test.true c.spots.invariant
    c.union_at.ensures c.in_ok-add_union.ensures

pub returns : goal.returns
returns c v =
    let past : length c.args.spots.now ≤ c.spots.spot-index = let h = c.spots-test.false in omega arith in
    subst (λ (xs : List TypeId). Contains xs v ↔ HoldsUnion c.args.spots.now v) (sym (c.in_ok-from_slice.ensures.items ∙ c.as_slice.ensures.keys))
    (subst (λ (ss : List Spot). Contains c.spots.unions.keys v ↔ HoldsUnion ss v) (all_of c.args.spots.now c.spots.spot-index past) (c.spots.invariant v))
