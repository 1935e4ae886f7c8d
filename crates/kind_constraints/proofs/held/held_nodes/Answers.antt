use Rattle.std.specs.Prelude.{◌↔◌}
use Rattle.std.proofs.Common.{◌<◌, ◌≤◌, List, length, get_or, sym, subst, inl, arith}
use Rattle.std.specs.List.{Contains}
use Rattle.std.proofs.lemmas.List.Elements.{Contains-get_or}
use Rattle.std.proofs.lemmas.Result.{IfOk-weaker}
use Rattle.cc_base.specs.declared.number.TypeId.{TypeId}
use Rattle.c_types.specs.Table.{Entry}
use Rattle.c_types.specs.Flows.{StandAlike}
use Rattle.type_laws.proofs.Relations.{equal_equiv}
use Rattle.phys_types.specs.Found.{no_pairs, Gains}
use Rattle.kind_constraints.specs.Pieces.{HoldsType}
use Rattle.kind_constraints.proofs.Adding.{gains_one_more, gains_all}
use Rattle.kind_constraints.proofs.HeldTypes.{held_typed, nodes_found}
use Rattle.kind_constraints.proofs.held.held_nodes.Goals as goal

pub add_places-requires-clause-first : goal.add_places-requires-clause-first
add_places-requires-clause-first c =
    let x = get_or c.as_slice-x-items.result.now c.held.x-index (record { 0 = 0 }) in
    subst (λ (table : List Entry). x.0 < length table) (sym c.requires.table) (held_typed c.args.types.now c.requires.formed c.args.t x c.requires.typed
    ((c.in_ok-held.ensures x).0 (subst (λ (xs : List TypeId). Contains xs x) c.as_slice-x-items.ensures.keys (Contains-get_or c.as_slice-x-items.result.now c.held.x-index (record { 0 = 0 }) c.held-test.true))))

pub add_places-requires-clause-second : goal.add_places-requires-clause-second
add_places-requires-clause-second c =
    let x = get_or c.as_slice-x-items.result.now c.held.x-index (record { 0 = 0 }) in
    subst (λ (table : List Entry). x.0 < length table) (sym c.requires.table) (held_typed c.args.types.now c.requires.formed c.args.t x c.requires.typed
    ((c.in_ok-held.ensures x).0 (subst (λ (xs : List TypeId). Contains xs x) c.as_slice-x-items.ensures.keys (Contains-get_or c.as_slice-x-items.result.now c.held.x-index (record { 0 = 0 }) c.held-test.true))))

pub add_places-requires-clause-near : goal.add_places-requires-clause-near
add_places-requires-clause-near c = inl ((equal_equiv c.args.known.now).refl (get_or c.as_slice-x-items.result.now c.held.x-index (record { 0 = 0 })))

pub held-preserved : goal.held-preserved
held-preserved c =
    let x = get_or c.as_slice-x-items.result.now c.held.x-index (record { 0 = 0 }) in
    gains_one_more (λ x. StandAlike c.args.types.now x x) c.as_slice-x-items.result.now c.held.x-index (record { 0 = 0 }) no_pairs c.held.found c.add_places.new.found c.held-test.true c.held.invariant
    (subst (λ (table : List Entry). Gains (StandAlike table x x) c.held.found c.add_places.new.found) c.requires.table c.in_ok-add_places.ensures)

pub returns : goal.returns
returns c =
    let past : length c.as_slice-x-items.result.now ≤ c.held.x-index = let h = c.held-test.false in omega arith in
    IfOk-weaker c.into_nodes.result _ _
    (λ nodes e. nodes_found c.args.types.now c.requires.formed c.args.t c.as_slice-x-items.result.now c.held.found nodes.items
    (subst (λ (xs : List TypeId). (x : TypeId) → Contains xs x ↔ HoldsType c.args.types.now c.args.t x) (sym c.as_slice-x-items.ensures.keys) c.in_ok-held.ensures)
    (gains_all (λ x. StandAlike c.args.types.now x x) c.as_slice-x-items.result.now c.held.x-index no_pairs c.held.found past c.held.invariant) e)
    c.into_nodes.ensures.pairs
