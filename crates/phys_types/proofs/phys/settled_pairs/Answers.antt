use Rattle.std.specs.Prelude.{◌≢◌}
use Rattle.std.proofs.Common.{List, sym, subst}
use Rattle.std.specs.List.{AllPairs}
use Rattle.std.proofs.lemmas.Result.{IfOk-weaker}
use Rattle.cc_base.specs.declared.number.NodeId.{NodeId}
use Rattle.c_types.specs.Equality.{physically_equal}
use Rattle.phys_types.specs.Shown.{IsKeptOf}
use Rattle.phys_types.proofs.Viewing.{kept_in, kept_is, all_kept}
use Rattle.phys_types.proofs.AllPairsFound.{found_equal, found_nodes}
use Rattle.phys_types.proofs.phys.settled_pairs.Goals as goal

pub kept-x-requires : goal.kept-x-requires
kept-x-requires c =
    kept_in c.args.types.now c.args.order.now c.args.places.now c.requires.order c.args.numbers.now c.args.layouts.now c.requires.settled c.args.from c.requires.from

pub kept-y-requires : goal.kept-y-requires
kept-y-requires c =
    kept_in c.args.types.now c.args.order.now c.args.places.now c.requires.order c.args.numbers.now c.args.layouts.now c.requires.settled c.args.to c.requires.to

pub add_top-requires-clause-from_kept : goal.add_top-requires-clause-from_kept
add_top-requires-clause-from_kept c =
    let table = c.args.types.now in
    subst (IsKeptOf table (physically_equal table) c.args.from) (sym (c.kept-x.ensures c.kept-x.result.now))
    (kept_is table c.args.order.now c.args.places.now c.requires.order c.args.numbers.now c.args.layouts.now c.requires.settled c.args.from c.kept-x.result.now c.requires.from)

pub add_top-requires-clause-to_kept : goal.add_top-requires-clause-to_kept
add_top-requires-clause-to_kept c =
    let table = c.args.types.now in
    subst (IsKeptOf table (physically_equal table) c.args.to) (sym (c.kept-y.ensures c.kept-y.result.now))
    (kept_is table c.args.order.now c.args.places.now c.requires.order c.args.numbers.now c.args.layouts.now c.requires.settled c.args.to c.kept-y.result.now c.requires.to)

pub follow-requires-clause-kept : goal.follow-requires-clause-kept
follow-requires-clause-kept c =
    all_kept c.args.types.now c.args.order.now c.args.places.now c.requires.order c.args.numbers.now c.args.layouts.now c.requires.settled c.requires.formed

pub follow-requires-clause-equal : goal.follow-requires-clause-equal
follow-requires-clause-equal c =
    found_equal c.args.types.now c.requires.formed c.args.from c.args.to c.requires.from c.requires.to c.new-found.result c.add_top.new.found c.new-found.ensures
    c.in_ok-add_top.ensures

pub returns-clause-nodes : goal.returns-clause-nodes
returns-clause-nodes c =
    IfOk-weaker c.into_nodes.result _ _
    (λ pairs h. found_nodes c.args.types.now c.args.from c.args.to c.new-found.result c.add_top.new.found c.follow.new.found pairs.items c.new-found.ensures
    c.in_ok-add_top.ensures c.in_ok-follow.ensures h)
    c.into_nodes.ensures.pairs

pub returns-clause-once : goal.returns-clause-once
returns-clause-once c =
    IfOk-weaker c.into_nodes.result _ _ (λ pairs h. subst (λ (xs : List (NodeId × NodeId)). AllPairs (λ x y. x ≢ y) xs) (sym h) c.into_nodes.ensures.once) c.into_nodes.ensures.pairs
