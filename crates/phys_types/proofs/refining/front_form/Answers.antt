use Rattle.std.proofs.Common.{ap, ◌∙◌}
use Rattle.phys_types.specs.declared.spot.Layout.{Layout}
use Rattle.phys_types.specs.Signatures.{form_at}
use Rattle.phys_types.proofs.refining.front_form.Goals as goal

pub returns : goal.returns
returns c =
    let same = ap (λ (x : Layout). x.size) c.layout-front.ensures ∙ c.in_ok-lent.ensures.size in
    let first = c.deref.ensures.value ∙ ap (λ (x : Layout). x.spots.items) c.layout-front.ensures ∙ c.in_ok-lent.ensures.spots in
    c.form_of.ensures ∙ (λ i. form_at c.args.types.now c.args.t (same i) (first i))
