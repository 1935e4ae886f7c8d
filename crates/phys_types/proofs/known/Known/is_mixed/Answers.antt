use Rattle.std.specs.Prelude.{◌↔◌, IsTrue}
use Rattle.std.proofs.Common.{List, sym, subst}
use Rattle.c_types.specs.Equality.{physically_equal}
use Rattle.phys_types.specs.declared.spot.Spot.{Spot}
use Rattle.phys_types.specs.Shown.{IsLayoutOf}
use Rattle.phys_types.specs.Standing.{HoldsUnion}
use Rattle.phys_types.proofs.MixedSpots.{mixed_spots}
use Rattle.phys_types.proofs.known.Known.is_mixed.Goals as goal

pub returns : goal.returns
returns c =
    let table = c.args.self.now in
    let shows = subst (IsLayoutOf table (physically_equal table) c.args.t) (sym c.layout-2.ensures) c.in_ok-lent.ensures in
    let held = subst (λ (ss : List Spot). IsTrue c.has_union.result ↔ HoldsUnion ss c.args.t) c.deref.ensures.value c.has_union.ensures in
    let mixed = mixed_spots table c.args.t c.layout-2.result.now shows c.args.t in
    (λ h. mixed.0 (held.0 h), λ h. held.1 (mixed.1 h))
