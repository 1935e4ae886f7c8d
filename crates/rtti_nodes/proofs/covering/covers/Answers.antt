use Rattle.std.specs.Prelude.{◌↔◌, IsTrue}
use Rattle.std.proofs.Common.{List, ℕ, sym, subst, ◌∙◌}
use Rattle.std.proofs.lemmas.Result.{IfOk-weaker}
use Rattle.cc_base.specs.Kinds.{kind_at}
use Rattle.rtti_nodes.specs.Numbering.{AgreeAtPlaces}
use Rattle.rtti_nodes.proofs.Depths.{covers_by_places}
use Rattle.rtti_nodes.proofs.covering.covers.Goals as goal

pub returns : goal.returns
returns c =
    let a = c.args in
    IfOk-weaker c.places_agree.result _ _
    (λ agree h. covers_by_places a.known.now c.requires.formed (kind_at a.kinds.now) a.told.now.numbers.items c.requires.told.coarse (c.requires.told.fine c.if-not-told.false) a.t a.u
    c.requires.first c.requires.second agree (sym c.in_ok-begins_with.ensures ∙ c.if-not-branch.false)
    (subst (λ (ns : List ℕ). IsTrue agree ↔ AgreeAtPlaces a.known.now (kind_at a.kinds.now) ns a.t a.u) c.deref.ensures.value h))
    c.places_agree.ensures
