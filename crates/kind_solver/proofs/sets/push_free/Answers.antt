use Rattle.std.proofs.Common.{◌<◌, ◌∙◌, sym, subst, length, filter}
use Rattle.std.proofs.lemmas.List.Elements.{All-filter}
use Rattle.kind_solver.specs.declared.gathering.Origin.{Origin}
use Rattle.kind_solver.specs.Tables.{OriginsWithin, is_outside}
use Rattle.kind_solver.proofs.sets.push_free.Goals as goal

pub outside-requires-2 : goal.outside-requires-2
outside-requires-2 c =
    subst (λ ss. OriginsWithin (length c.args.wild.now) ss) (sym (c.deref.ensures.value ∙ c.in_ok-without_needs.ensures))
    (All-filter (is_outside c.args.first.now) (λ (s : Origin). s.node.0 < length c.args.wild.now) c.args.loose.now c.requires.wild)

pub outside-requires-3 : goal.outside-requires-3
outside-requires-3 c =
    let nodes = λ (s : Origin). s.node.0 < length c.args.rises.now in
    subst (λ ss. OriginsWithin (length c.args.rises.now) ss)
    (sym (c.deref-2.ensures.value ∙ c.in_ok-without_wild.ensures))
    (subst (λ ss. OriginsWithin (length c.args.rises.now) (filter (is_outside c.args.wild.now) ss))
    (sym (c.deref.ensures.value ∙ c.in_ok-without_needs.ensures))
    (All-filter (is_outside c.args.wild.now) nodes (filter (is_outside c.args.first.now) c.args.loose.now)
    (All-filter (is_outside c.args.first.now) nodes c.args.loose.now c.requires.rises)))
