use Rattle.std.proofs.Common.{◌≡◌, ◌<◌, ◌++◌, ◌∙◌, sym, subst, length}
use Rattle.std.specs.List.{flat_map}
use Rattle.std.proofs.lemmas.Result.{IfOk-weaker}
use Rattle.std.proofs.lemmas.List.Elements.{All-append}
use Rattle.kind_solver.specs.declared.gathering.Origin.{Origin}
use Rattle.kind_solver.specs.declared.gathering.Pass.TheVariants as pass
use Rattle.kind_solver.specs.declared.gathering.Start.TheVariants as start
use Rattle.kind_solver.specs.Order.{Fits}
use Rattle.kind_solver.specs.Chains.{edges, origins}
use Rattle.kind_solver.specs.Sets.{FirstNeedFrom}
use Rattle.kind_solver.specs.Tables.{OriginsWithin, EdgesWithin, OriginsFit, across}
use Rattle.kind_solver.proofs.Gathered.{edges_within, origins_within, origins_fit}
use Rattle.kind_solver.proofs.Shown.{across_within, across_fit, wild_shown}
use Rattle.kind_solver.proofs.sets.wild_causes.Goals as goal

pub push_across-requires : goal.push_across-requires
push_across-requires c =
    subst (λ es. EdgesWithin (length c.args.first.now) es) (sym (c.deref.ensures.value ∙ c.in_ok-turns.ensures))
    (rw c.requires.first.len (edges_within c.args.count pass.Turn c.args.list.now c.requires.within))

pub first_causes-requires-clause-origins_within : goal.first_causes-requires-clause-origins_within
first_causes-requires-clause-origins_within c =
    let list = c.args.list.now in
    let first = c.args.first.now in
    let count = c.args.count in
    let same : c.deref-2.result.now ≡ origins start.Wild list ++ flat_map (across first) (edges pass.Turn list)
    = cc (c.in_ok-push_across.ensures, c.in_ok-origins.ensures.found, c.in_ok-turns.ensures) in
    subst (λ ss. OriginsWithin count ss) (sym same)
    (All-append (λ (s : Origin). s.node.0 < count) (origins start.Wild list) (flat_map (across first) (edges pass.Turn list))
    (origins_within count start.Wild list c.requires.within)
    (across_within count (edges pass.Turn list) first (edges_within count pass.Turn list c.requires.within)))

pub first_causes-requires-clause-edges_within : goal.first_causes-requires-clause-edges_within
first_causes-requires-clause-edges_within c =
    subst (λ es. EdgesWithin c.args.count es) (sym (c.deref-3.ensures.value ∙ c.in_ok-edges.ensures))
    (edges_within c.args.count pass.Wild c.args.list.now c.requires.within)

pub first_causes-requires-clause-fit : goal.first_causes-requires-clause-fit
first_causes-requires-clause-fit c =
    let list = c.args.list.now in
    let first = c.args.first.now in
    let same : c.deref-2.result.now ≡ origins start.Wild list ++ flat_map (across first) (edges pass.Turn list)
    = cc (c.in_ok-push_across.ensures, c.in_ok-origins.ensures.found, c.in_ok-turns.ensures) in
    subst (λ ss. OriginsFit ss) (sym same)
    (All-append (λ (s : Origin). Fits s.cause) (origins start.Wild list) (flat_map (across first) (edges pass.Turn list))
    (origins_fit start.Wild list c.in_ok-origins.ensures.fit)
    (across_fit (FirstNeedFrom list) c.args.count (edges pass.Turn list) first
    (edges_within c.args.count pass.Turn list c.requires.within) c.requires.first))

pub returns : goal.returns
returns c =
    let list = c.args.list.now in
    let first = c.args.first.now in
    let same : c.deref-2.result.now ≡ origins start.Wild list ++ flat_map (across first) (edges pass.Turn list)
    = cc (c.in_ok-push_across.ensures, c.in_ok-origins.ensures.found, c.in_ok-turns.ensures) in
    let steps : c.deref-3.result.now ≡ edges pass.Wild list = c.deref-3.ensures.value ∙ c.in_ok-edges.ensures in
    IfOk-weaker c.first_causes.result _ _
    (λ causes shown. wild_shown list c.args.count first causes.items c.requires.within c.in_ok-origins.ensures.fit c.requires.first shown)
    (rw (same, steps) at c.first_causes.ensures)
