use Rattle.std.proofs.Common.{ap, sym, ◌∙◌, [], ◌∷◌, ◌++◌}
use Rattle.cure_code.proofs.Elements.{take_next}
use Rattle.cure_code.proofs.lists.kinds_of.Goals as goal

pub nodes-preserved : goal.nodes-preserved
nodes-preserved c =
    c.in_ok-push.ensures.items ∙ ap (λ xs. xs ++ c.kind_of.result ∷ []) c.nodes.invariant
    ∙ sym (take_next c.args.kinds.now c.nodes.n c.kind_of.result c.kind_of.ensures)
