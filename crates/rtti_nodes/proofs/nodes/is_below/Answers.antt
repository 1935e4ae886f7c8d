use Rattle.std.proofs.Common.{◌+◌, ◌-◌, length, sym, ap, ◌∙◌}
use Rattle.cured_code.specs.Tables.{is_below_within}
use Rattle.rtti_nodes.proofs.Below.{none_below, below_next}
use Rattle.rtti_nodes.proofs.nodes.is_below.Goals as goal

pub returns-then-node-eq0 : goal.returns-then-node-eq0
returns-then-node-eq0 c =
    sym (c.steps.invariant ∙ ap (λ n. is_below_within (length c.args.parents.now - c.steps._step) c.args.parents.now n c.args.b) c.if-node-eq0.true
    ∙ none_below (length c.args.parents.now - c.steps._step) c.args.parents.now c.args.b c.requires)

pub steps-preserved : goal.steps-preserved
steps-preserved c =
    c.steps.invariant ∙ below_next (length c.args.parents.now) c.steps._step c.args.parents.now c.steps.node c.args.b c.steps-test.true c.if-node-b.false
    ∙ ap (λ n. is_below_within (length c.args.parents.now - (c.steps._step + 1)) c.args.parents.now n c.args.b) (sym c.parent_of-node.ensures)
