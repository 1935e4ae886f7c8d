use Rattle.std.proofs.Common.{List, map, ap, sym, subst, ◌∙◌}
use Rattle.std.proofs.lemmas.Result.{IfOk-weaker}
use Rattle.c_types.specs.Table.{members_at}
use Rattle.phys_types.specs.declared.spot.Layout.{Layout}
use Rattle.phys_types.specs.Lending.{lent_layout}
use Rattle.phys_types.specs.Numbers.{number_in, same_number}
use Rattle.phys_types.specs.Shown.{AreLayoutsOf}
use Rattle.phys_types.proofs.Unions.{union_shown}
use Rattle.phys_types.proofs.building.union_layout.Goals as goal

pub returns : goal.returns
returns c = λ h.
    let table = c.args.types.now in
    let E = same_number (number_in c.args.numbers.now) in
    let parts = ap (map (λ p. p.now)) c.deref-2.ensures.value ∙ c.in_ok-parts.ensures.same ∙ ap (map lent_layout) c.deref.ensures.value in
    IfOk-weaker c.union_of.result _ _
    (λ layout u. union_shown table (number_in c.args.numbers.now) c.requires.formed c.args.t (map (λ p. p.now) c.deref-2.result.now) layout c.size_of.result
    c.requires.aggregate c.requires.complete c.size_of.ensures
    (subst (λ (xs : List Layout). AreLayoutsOf table E (members_at table c.args.t) xs) (sym parts) (c.in_ok-lents.ensures.shown E h)) u)
    c.union_of.ensures
