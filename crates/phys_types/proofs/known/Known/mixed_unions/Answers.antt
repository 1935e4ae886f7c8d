use Rattle.std.specs.Prelude.{◌↔◌}
use Rattle.std.proofs.Common.{List, sym, subst}
use Rattle.std.proofs.lemmas.Result.{IfOk-weaker}
use Rattle.std.specs.List.{Contains}
use Rattle.c_types.specs.Equality.{physically_equal}
use Rattle.phys_types.specs.declared.spot.Spot.{Spot}
use Rattle.phys_types.specs.Shown.{IsLayoutOf}
use Rattle.phys_types.specs.Standing.{HoldsUnion}
use Rattle.phys_types.proofs.MixedSpots.{mixed_spots}
use Rattle.phys_types.proofs.known.Known.mixed_unions.Goals as goal

pub returns : goal.returns
returns c =
    let table = c.args.self.now in
    let shows = subst (IsLayoutOf table (physically_equal table) c.args.t) (sym c.layout-2.ensures) c.in_ok-lent.ensures in
    IfOk-weaker c.unions_of.result _ _
    (λ unions h v.
    let held = subst (λ (ss : List Spot). Contains unions.items v ↔ HoldsUnion ss v) c.deref.ensures.value (h v) in
    let mixed = mixed_spots table c.args.t c.layout-2.result.now shows v in
    (λ k. mixed.0 (held.0 k), λ k. held.1 (mixed.1 k)))
    c.unions_of.ensures
