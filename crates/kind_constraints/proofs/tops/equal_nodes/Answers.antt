use Rattle.std.specs.Prelude.{◌↔◌}
use Rattle.std.proofs.Common.{List, sym, subst}
use Rattle.std.specs.List.{Contains}
use Rattle.std.proofs.lemmas.Result.{IfOk-weaker}
use Rattle.cc_base.specs.declared.number.NodeId.{NodeId}
use Rattle.cc_base.specs.declared.number.TypeId.{TypeId}
use Rattle.c_types.specs.Table.{Entry}
use Rattle.phys_types.specs.Found.{Gains}
use Rattle.phys_types.specs.Standing.{AreEqualTypes, CorrespondInSome}
use Rattle.constraint_laws.specs.Given.{AreOfOneCell}
use Rattle.constraint_laws.proofs.Tops.{equals-found}
use Rattle.kind_constraints.specs.Adding.{RelatedBySome}
use Rattle.kind_constraints.specs.Pieces.{ArePairs, IsFlowTop}
use Rattle.kind_constraints.proofs.GivenLaws.{tops_found, found_equal, typed_pair}
use Rattle.kind_constraints.proofs.tops.equal_nodes.Goals as goal

pub add_flow_tops-requires-clause-from : goal.add_flow_tops-requires-clause-from
add_flow_tops-requires-clause-from c = λ x k.
    let told = c.requires.told in
    (typed_pair c.args.asked.now.types.now c.args.asked.now.sites.now c.requires.asked.formed told.0 told.1 told.2 told.3 c.in_ok-pairs.pairs.keys c.in_ok-pairs.ensures x
    (subst (λ (xs : List (TypeId × TypeId)). Contains xs x) c.as_slice.ensures.keys k)).0

pub add_flow_tops-requires-clause-to : goal.add_flow_tops-requires-clause-to
add_flow_tops-requires-clause-to c = λ x k.
    let told = c.requires.told in
    (typed_pair c.args.asked.now.types.now c.args.asked.now.sites.now c.requires.asked.formed told.0 told.1 told.2 told.3 c.in_ok-pairs.pairs.keys c.in_ok-pairs.ensures x
    (subst (λ (xs : List (TypeId × TypeId)). Contains xs x) c.as_slice.ensures.keys k)).1

pub follow-requires : goal.follow-requires
follow-requires c = λ t u k.
    let told = c.requires.told in
    subst (λ (table : List Entry). AreEqualTypes table t u) (sym c.requires.asked.same)
    (found_equal c.args.asked.now.types.now c.args.asked.now.sites.now c.requires.asked.formed told.0 told.1 told.2 told.3 c.add_other_tops.new.found
    (tops_found c.args.asked.now.types.now c.args.asked.now.sites.now c.as_slice.result.now
    (subst (ArePairs c.args.asked.now.sites.now) (sym c.as_slice.ensures.keys) c.in_ok-pairs.ensures) c.add_flow_tops.new.found c.add_other_tops.new.found
    (subst (λ old. Gains (RelatedBySome c.as_slice.result.now (IsFlowTop c.args.asked.now.types.now)) old c.add_flow_tops.new.found) c.new-found.ensures c.in_ok-add_flow_tops.ensures)
    c.in_ok-add_other_tops.ensures) t u k)

pub returns : goal.returns
returns c =
    IfOk-weaker c.into_nodes.result _ _
    (λ pairs e a b. subst (λ (xs : List (NodeId × NodeId)). Contains xs (a, b) ↔ AreOfOneCell c.args.asked.now.types.now c.args.asked.now.sites.now a b) (sym e)
    (equals-found c.args.asked.now.types.now c.args.asked.now.sites.now c.add_other_tops.new.found c.follow.new.found
    (tops_found c.args.asked.now.types.now c.args.asked.now.sites.now c.as_slice.result.now
    (subst (ArePairs c.args.asked.now.sites.now) (sym c.as_slice.ensures.keys) c.in_ok-pairs.ensures) c.add_flow_tops.new.found c.add_other_tops.new.found
    (subst (λ old. Gains (RelatedBySome c.as_slice.result.now (IsFlowTop c.args.asked.now.types.now)) old c.add_flow_tops.new.found) c.new-found.ensures c.in_ok-add_flow_tops.ensures)
    c.in_ok-add_other_tops.ensures)
    (subst (λ (table : List Entry). Gains (CorrespondInSome table c.add_other_tops.new.found.pointees) c.add_other_tops.new.found c.follow.new.found) c.requires.asked.same
    c.in_ok-follow.ensures) a b))
    c.into_nodes.ensures.pairs
