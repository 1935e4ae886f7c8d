use Rattle.std.proofs.Common.{◌≡◌, ◌<◌, ◌∙◌, sym, subst, length, filter}
use Rattle.std.proofs.lemmas.Result.{IfOk-weaker}
use Rattle.std.proofs.lemmas.List.Elements.{All-filter}
use Rattle.kind_solver.specs.declared.gathering.Origin.{Origin}
use Rattle.kind_solver.specs.declared.gathering.Pass.TheVariants as pass
use Rattle.kind_solver.specs.declared.gathering.Start.TheVariants as start
use Rattle.kind_solver.specs.Order.{Fits}
use Rattle.kind_solver.specs.Chains.{edges, origins}
use Rattle.kind_solver.specs.Tables.{OriginsWithin, EdgesWithin, OriginsFit, is_outside}
use Rattle.kind_solver.proofs.Gathered.{edges_within, origins_within, origins_fit}
use Rattle.kind_solver.proofs.Shown.{type_shown}
use Rattle.kind_solver.proofs.sets.type_causes.Goals as goal

pub outside-requires : goal.outside-requires
outside-requires c =
    subst (λ ss. OriginsWithin (length c.args.needs.now) ss) (sym (c.deref.ensures.value ∙ c.in_ok-sources.ensures.found))
    (rw c.requires.needs.len (origins_within c.args.count start.Type c.args.list.now c.requires.within))

pub outside-requires-2 : goal.outside-requires-2
outside-requires-2 c =
    let list = c.args.list.now in
    let same : c.deref-2.result.now ≡ filter (is_outside c.args.needs.now) (origins start.Type list)
    = cc (c.in_ok-sources.ensures.found, c.in_ok-others.ensures) in
    subst (λ ss. OriginsWithin (length c.args.wild.now) ss) (sym same)
    (rw c.requires.wild.len
    (All-filter (is_outside c.args.needs.now) (λ (s : Origin). s.node.0 < c.args.count) (origins start.Type list)
    (origins_within c.args.count start.Type list c.requires.within)))

pub first_causes-requires-clause-origins_within : goal.first_causes-requires-clause-origins_within
first_causes-requires-clause-origins_within c =
    let list = c.args.list.now in
    let same : c.deref-3.result.now ≡ filter (is_outside c.args.wild.now) (filter (is_outside c.args.needs.now) (origins start.Type list))
    = cc (c.in_ok-sources.ensures.found, c.in_ok-others.ensures, c.in_ok-origins.ensures) in
    let nodes = λ (s : Origin). s.node.0 < c.args.count in
    subst (λ ss. OriginsWithin c.args.count ss) (sym same)
    (All-filter (is_outside c.args.wild.now) nodes (filter (is_outside c.args.needs.now) (origins start.Type list))
    (All-filter (is_outside c.args.needs.now) nodes (origins start.Type list)
    (origins_within c.args.count start.Type list c.requires.within)))

pub first_causes-requires-clause-edges_within : goal.first_causes-requires-clause-edges_within
first_causes-requires-clause-edges_within c =
    subst (λ es. EdgesWithin c.args.count es) (sym (c.deref-4.ensures.value ∙ c.in_ok-edges.ensures))
    (edges_within c.args.count pass.Type c.args.list.now c.requires.within)

pub first_causes-requires-clause-fit : goal.first_causes-requires-clause-fit
first_causes-requires-clause-fit c =
    let list = c.args.list.now in
    let same : c.deref-3.result.now ≡ filter (is_outside c.args.wild.now) (filter (is_outside c.args.needs.now) (origins start.Type list))
    = cc (c.in_ok-sources.ensures.found, c.in_ok-others.ensures, c.in_ok-origins.ensures) in
    let fits = λ (s : Origin). Fits s.cause in
    subst (λ ss. OriginsFit ss) (sym same)
    (All-filter (is_outside c.args.wild.now) fits (filter (is_outside c.args.needs.now) (origins start.Type list))
    (All-filter (is_outside c.args.needs.now) fits (origins start.Type list)
    (origins_fit start.Type list c.in_ok-sources.ensures.fit)))

pub returns : goal.returns
returns c =
    let list = c.args.list.now in
    let same : c.deref-3.result.now ≡ filter (is_outside c.args.wild.now) (filter (is_outside c.args.needs.now) (origins start.Type list))
    = cc (c.in_ok-sources.ensures.found, c.in_ok-others.ensures, c.in_ok-origins.ensures) in
    let steps : c.deref-4.result.now ≡ edges pass.Type list = c.deref-4.ensures.value ∙ c.in_ok-edges.ensures in
    IfOk-weaker c.first_causes.result _ _
    (λ causes shown. type_shown list c.args.count c.args.needs.now c.args.wild.now causes.items
    c.requires.within c.in_ok-sources.ensures.fit c.requires.needs c.requires.wild shown)
    (rw (same, steps) at c.first_causes.ensures)
