use Rattle.std.specs.Prelude.{◌↔◌}
use Rattle.std.proofs.Common.{List, sym, subst}
use Rattle.std.specs.List.{Contains}
use Rattle.cc_base.specs.declared.number.NodeId.{NodeId}
use Rattle.cc_base.specs.Kinds.{kind_at}
use Rattle.c_types.specs.Flows.{CorrespondByPlace}
use Rattle.phys_types.specs.Pairs.{HaveNodes}
use Rattle.rtti_nodes.proofs.PointerKinds.{in_range, covers_tell}
use Rattle.rtti_nodes.proofs.covering.covers_by_pairs.Goals as goal

pub have_equal_kinds-requires-clause-first : goal.have_equal_kinds-requires-clause-first
have_equal_kinds-requires-clause-first c a b m =
    (in_range _ c.args.known.now c.requires.formed c.requires.nodes c.args.t c.args.u c.deref.result.now
    (subst (λ (xs : List (NodeId × NodeId)). (x y : NodeId) → Contains xs (x, y) ↔ HaveNodes (CorrespondByPlace c.args.known.now c.args.t c.args.u) x y) (sym c.deref.ensures.value) c.in_ok-pairs.ensures) a b m).0

pub have_equal_kinds-requires-clause-second : goal.have_equal_kinds-requires-clause-second
have_equal_kinds-requires-clause-second c a b m =
    (in_range _ c.args.known.now c.requires.formed c.requires.nodes c.args.t c.args.u c.deref.result.now
    (subst (λ (xs : List (NodeId × NodeId)). (x y : NodeId) → Contains xs (x, y) ↔ HaveNodes (CorrespondByPlace c.args.known.now c.args.t c.args.u) x y) (sym c.deref.ensures.value) c.in_ok-pairs.ensures) a b m).1

pub returns : goal.returns
returns c =
    covers_tell c.args.known.now (kind_at c.args.kinds.now) c.args.t c.args.u c.deref.result.now
    (subst (λ (xs : List (NodeId × NodeId)). (x y : NodeId) → Contains xs (x, y) ↔ HaveNodes (CorrespondByPlace c.args.known.now c.args.t c.args.u) x y) (sym c.deref.ensures.value) c.in_ok-pairs.ensures)
    c.have_equal_kinds.result c.requires.begins c.have_equal_kinds.ensures
