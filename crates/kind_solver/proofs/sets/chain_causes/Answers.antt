use Rattle.std.proofs.Common.{◌≡◌, ◌∙◌, sym, subst}
use Rattle.kind_solver.specs.Chains.{edges, origins}
use Rattle.kind_solver.specs.Tables.{OriginsWithin, EdgesWithin, OriginsFit}
use Rattle.kind_solver.proofs.Gathered.{edges_within, origins_within, origins_fit}
use Rattle.kind_solver.proofs.sets.chain_causes.Goals as goal

pub first_causes-requires-clause-origins_within : goal.first_causes-requires-clause-origins_within
first_causes-requires-clause-origins_within c =
    subst (λ ss. OriginsWithin c.args.count ss) (sym (c.deref.ensures.value ∙ c.in_ok-origins.ensures.found))
    (origins_within c.args.count c.args.start c.args.list.now c.requires)

pub first_causes-requires-clause-edges_within : goal.first_causes-requires-clause-edges_within
first_causes-requires-clause-edges_within c =
    subst (λ es. EdgesWithin c.args.count es) (sym (c.deref-2.ensures.value ∙ c.in_ok-edges.ensures))
    (edges_within c.args.count c.args.pass c.args.list.now c.requires)

pub first_causes-requires-clause-fit : goal.first_causes-requires-clause-fit
first_causes-requires-clause-fit c =
    subst (λ ss. OriginsFit ss) (sym (c.deref.ensures.value ∙ c.in_ok-origins.ensures.found))
    (origins_fit c.args.start c.args.list.now c.in_ok-origins.ensures.fit)

pub returns : goal.returns
returns c =
    let same : c.deref.result.now ≡ origins c.args.start c.args.list.now = c.deref.ensures.value ∙ c.in_ok-origins.ensures.found in
    let steps : c.deref-2.result.now ≡ edges c.args.pass c.args.list.now = c.deref-2.ensures.value ∙ c.in_ok-edges.ensures in
    rw (same, steps) at c.first_causes.ensures
