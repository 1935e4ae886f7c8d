use Rattle.std.proofs.Common.{◌≡◌, ◌<◌, ◌++◌, ◌∙◌, sym, subst, length, filter}
use Rattle.std.proofs.lemmas.Result.{IfOk-weaker}
use Rattle.std.proofs.lemmas.List.Elements.{All-append, All-filter}
use Rattle.kind_solver.specs.declared.gathering.Origin.{Origin}
use Rattle.kind_solver.specs.declared.gathering.Pass.TheVariants as pass
use Rattle.kind_solver.specs.declared.gathering.Start.TheVariants as start
use Rattle.kind_solver.specs.Order.{Fits}
use Rattle.kind_solver.specs.Chains.{edges, origins}
use Rattle.kind_solver.specs.Tables.{OriginsWithin, EdgesWithin, OriginsFit, is_outside, free_origins}
use Rattle.kind_solver.proofs.Gathered.{edges_within, origins_within, origins_fit}
use Rattle.kind_solver.proofs.Shown.{need_shown}
use Rattle.kind_solver.proofs.sets.need_causes.Goals as goal

pub push_free-requires-clause-first : goal.push_free-requires-clause-first
push_free-requires-clause-first c =
    subst (λ ss. OriginsWithin (length c.args.first.now) ss) (sym (c.deref.ensures.value ∙ c.in_ok-loose.ensures.found))
    (rw c.requires.first.len (origins_within c.args.count start.Loose c.args.list.now c.requires.within))

pub push_free-requires-clause-wild : goal.push_free-requires-clause-wild
push_free-requires-clause-wild c =
    subst (λ ss. OriginsWithin (length c.args.wild.now) ss) (sym (c.deref.ensures.value ∙ c.in_ok-loose.ensures.found))
    (rw c.requires.wild.len (origins_within c.args.count start.Loose c.args.list.now c.requires.within))

pub push_free-requires-clause-rises : goal.push_free-requires-clause-rises
push_free-requires-clause-rises c =
    subst (λ ss. OriginsWithin (length c.args.rises.now) ss) (sym (c.deref.ensures.value ∙ c.in_ok-loose.ensures.found))
    (rw c.requires.rises.len (origins_within c.args.count start.Loose c.args.list.now c.requires.within))

pub first_causes-requires-clause-origins_within : goal.first_causes-requires-clause-origins_within
first_causes-requires-clause-origins_within c =
    let list = c.args.list.now in
    let free = free_origins c.args.first.now c.args.wild.now c.args.rises.now (origins start.Loose list) in
    let same : c.deref-2.result.now ≡ origins start.Sequence list ++ free
    = cc (c.in_ok-push_free.ensures, c.in_ok-origins.ensures.found, c.in_ok-loose.ensures.found) in
    let nodes = λ (s : Origin). s.node.0 < c.args.count in
    subst (λ ss. OriginsWithin c.args.count ss) (sym same)
    (All-append nodes (origins start.Sequence list) free (origins_within c.args.count start.Sequence list c.requires.within)
    (All-filter (is_outside c.args.rises.now) nodes (filter (is_outside c.args.wild.now) (filter (is_outside c.args.first.now) (origins start.Loose list)))
    (All-filter (is_outside c.args.wild.now) nodes (filter (is_outside c.args.first.now) (origins start.Loose list))
    (All-filter (is_outside c.args.first.now) nodes (origins start.Loose list)
    (origins_within c.args.count start.Loose list c.requires.within)))))

pub first_causes-requires-clause-edges_within : goal.first_causes-requires-clause-edges_within
first_causes-requires-clause-edges_within c =
    subst (λ es. EdgesWithin c.args.count es) (sym (c.deref-3.ensures.value ∙ c.in_ok-edges.ensures))
    (edges_within c.args.count pass.Sequence c.args.list.now c.requires.within)

pub first_causes-requires-clause-fit : goal.first_causes-requires-clause-fit
first_causes-requires-clause-fit c =
    let list = c.args.list.now in
    let free = free_origins c.args.first.now c.args.wild.now c.args.rises.now (origins start.Loose list) in
    let same : c.deref-2.result.now ≡ origins start.Sequence list ++ free
    = cc (c.in_ok-push_free.ensures, c.in_ok-origins.ensures.found, c.in_ok-loose.ensures.found) in
    let fits = λ (s : Origin). Fits s.cause in
    subst (λ ss. OriginsFit ss) (sym same)
    (All-append fits (origins start.Sequence list) free (origins_fit start.Sequence list c.in_ok-origins.ensures.fit)
    (All-filter (is_outside c.args.rises.now) fits (filter (is_outside c.args.wild.now) (filter (is_outside c.args.first.now) (origins start.Loose list)))
    (All-filter (is_outside c.args.wild.now) fits (filter (is_outside c.args.first.now) (origins start.Loose list))
    (All-filter (is_outside c.args.first.now) fits (origins start.Loose list)
    (origins_fit start.Loose list c.in_ok-origins.ensures.fit)))))

pub returns : goal.returns
returns c =
    let list = c.args.list.now in
    let free = free_origins c.args.first.now c.args.wild.now c.args.rises.now (origins start.Loose list) in
    let same : c.deref-2.result.now ≡ origins start.Sequence list ++ free
    = cc (c.in_ok-push_free.ensures, c.in_ok-origins.ensures.found, c.in_ok-loose.ensures.found) in
    let steps : c.deref-3.result.now ≡ edges pass.Sequence list = c.deref-3.ensures.value ∙ c.in_ok-edges.ensures in
    IfOk-weaker c.first_causes.result _ _
    (λ causes shown. need_shown list c.args.count c.args.first.now c.args.wild.now c.args.rises.now causes.items
    c.requires.within c.in_ok-origins.ensures.fit c.requires.first c.requires.wild c.requires.rises shown)
    (rw (same, steps) at c.first_causes.ensures)
