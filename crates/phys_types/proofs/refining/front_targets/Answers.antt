use Rattle.std.proofs.Common.{ap, ◌∙◌}
use Rattle.std.proofs.lemmas.Result.{IfOk-weaker}
use Rattle.phys_types.specs.declared.spot.Layout.{Layout}
use Rattle.phys_types.specs.Signatures.{targets_at}
use Rattle.phys_types.proofs.refining.front_targets.Goals as goal

pub returns : goal.returns
returns c =
    let first = c.deref.ensures.value ∙ ap (λ (x : Layout). x.spots.items) c.layout.ensures ∙ c.in_ok-lent.ensures.spots in
    IfOk-weaker c.targets_of.result _ _ (λ targets e. e ∙ ap (targets_at c.args.types.now c.args.t) first) c.targets_of.ensures
