use Rattle.std.proofs.lemmas.Result.{IfOk-weaker}
use Rattle.rtti_nodes.proofs.PointerKinds.{found_equal, found_nodes}
use Rattle.rtti_nodes.proofs.covering.nodes_by_place.Goals as goal

pub follow-requires : goal.follow-requires
follow-requires c =
    found_equal c.args.known.now c.requires.formed c.args.t c.args.u c.requires.first c.requires.second c.requires.near c.new-found.result c.add_places.new.found c.new-found.ensures
    c.in_ok-add_places.ensures

pub returns : goal.returns
returns c =
    IfOk-weaker c.into_nodes.result _ _
    (λ pairs h. found_nodes c.args.known.now c.args.t c.args.u c.new-found.result c.add_places.new.found c.follow.new.found pairs.items c.new-found.ensures
    c.in_ok-add_places.ensures c.in_ok-follow.ensures h)
    c.into_nodes.ensures.pairs
