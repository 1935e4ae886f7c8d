use Rattle.std.specs.Prelude.{◌↔◌}
use Rattle.std.proofs.Common.{List, sym, subst}
use Rattle.std.specs.List.{Contains}
use Rattle.std.proofs.lemmas.Result.{on_ok_weaker}
use Rattle.cc_base.specs.declared.number.TypeId.{TypeId}
use Rattle.cc_base.specs.declared.number.NodeId.{NodeId}
use Rattle.cc_base.specs.declared.place.Place.{Place}
use Rattle.c_types.specs.Table.{Entry}
use Rattle.c_types.specs.Contents.{HoldsMixed}
use Rattle.kind_constraints.specs.Pieces.{AreNodesIn, AreUnionPlaces}
use Rattle.kind_constraints.proofs.GivenPieces.{contents_pieces}
use Rattle.kind_constraints.proofs.contents.add_contents.Goals as goal

pub returns : goal.returns
returns c =
    on_ok_weaker c.add_forces.result
    (λ h. contents_pieces c.args.asked.now.types.now c.args.asked.now.sites.now c.args.node c.args.ty c.deref.result.now c.deref-2.result.now c.deref-3.result.now
    (subst (λ (xs : List (NodeId × NodeId)). AreNodesIn c.args.asked.now.types.now c.args.ty xs) (sym c.deref.ensures.value) c.in_ok-nodes.ensures)
    (subst (λ (xs : List TypeId). (v : TypeId) → Contains xs v ↔ HoldsMixed c.args.asked.now.types.now c.args.ty v) (sym c.deref-2.ensures.value)
    (subst (λ (table : List Entry). (v : TypeId) → Contains c.in_ok-mixed.mixed.items v ↔ HoldsMixed table c.args.ty v) c.requires.asked.same c.in_ok-mixed.ensures))
    (subst (λ (xs : List (TypeId × Place)). AreUnionPlaces c.args.asked.now.sites.now xs) (sym c.deref-3.ensures.value) c.requires.asked.places)
    c.args.list.now.items c.add_inner.new.list.items c.add_forces.new.list.items c.in_ok-add_inner.ensures h)
    c.add_forces.ensures
