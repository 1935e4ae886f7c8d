use Rattle.std.proofs.Common.{[], ◌∷◌, ◌++◌, length, map, ap, sym, ◌∙◌, arith}
use Rattle.std.proofs.lemmas.List.{map-append, length_push, take_all}
use Rattle.phys_types.specs.Lending.{lent_layout}
use Rattle.phys_types.proofs.Unions.{map_more}
use Rattle.phys_types.proofs.building.layouts_of.Goals as goal

pub lents-preserved : goal.lents-preserved
lents-preserved c = (
  ap (map (λ p. p.now)) c.in_ok-push.ensures.items ∙ map-append (λ p. p.now) c.lents.parts.items (c.layout.result ∷ [])
      ∙ (λ i. c.lents.invariant.0 i ++ (c.layout.ensures ∙ ap lent_layout c.lent-item.is) i ∷ [])
      ∙ sym (map_more lent_layout c.args.lents.now c.lents.lent-index c.lent-item.result (omega arith)),
  let e = ap length c.in_ok-push.ensures.items ∙ length_push c.lents.parts.items c.layout.result in let k = c.lents.invariant.1 in omega arith,
)

pub returns-clause-same : goal.returns-clause-same
returns-clause-same c = c.lents.invariant.0 ∙ ap (map lent_layout) (take_all c.lents.lent-index c.args.lents.now (omega arith))
