use Rattle.std.specs.Prelude.{◌↔◌, IsTrue}
use Rattle.std.proofs.Common.{Bool, List, get_or, sym, subst, ◌∙◌}
use Rattle.std.specs.List.{Contains, list_any}
use Rattle.std.proofs.lemmas.List.Elements.{Contains-get_or}
use Rattle.cc_base.specs.declared.number.TypeId.{TypeId}
use Rattle.c_types.specs.Table.{Entry, IsType}
use Rattle.c_types.specs.Equality.{strictly_below}
use Rattle.kind_sites.specs.Solutions.{HasBelow}
use Rattle.kind_constraints.specs.Pieces.{AreBelows}
use Rattle.kind_constraints.proofs.Belows.{type_eq, same_id, below_told, pointees_typed}
use Rattle.kind_constraints.proofs.Kept.{looked_up, inserted}
use Rattle.kind_constraints.proofs.below.kept_below.Goals as goal

pub has_below-requires-clause-pointees : goal.has_below-requires-clause-pointees
has_below-requires-clause-pointees c = λ k d l.
    let a = c.requires.asked in
    subst (λ (table : List Entry). IsType table (get_or c.deref.result.now k d)) (sym a.same)
    (pointees_typed c.args.asked.now.types.now a.formed c.args.asked.now.sites.now c.args.asked.now.firsts.items a.equal a.typed c.args.asked.now.pointees.items a.pointed
    (get_or c.deref.result.now k d)
    (subst (λ (xs : List TypeId). Contains xs (get_or c.deref.result.now k d)) c.deref.ensures.value (Contains-get_or c.deref.result.now k d l)))

pub returns-in-Some-clause-below : goal.returns-in-Some-clause-below
returns-in-Some-clause-below c =
    looked_up (λ e. IsTrue e.1 ↔ HasBelow c.args.asked.now.types.now c.args.asked.now.sites.now e.0) type_eq same_id c.args.belows.now.entries c.args.t c.in-Some.below.now c.requires.kept
    (sym c.in-Some.ensures.value)

pub returns-clause-below : goal.returns-clause-below
returns-clause-below c =
    let a = c.requires.asked in
    subst (λ (b : Bool). IsTrue b ↔ HasBelow c.args.asked.now.types.now c.args.asked.now.sites.now c.args.t)
    (sym (c.in_ok-below.ensures ∙ (λ i. list_any (λ q. strictly_below (a.same i) q c.args.t) (c.deref.ensures.value i))))
    (below_told c.args.asked.now.types.now a.formed c.args.asked.now.sites.now c.args.asked.now.firsts.items a.equal a.typed c.args.asked.now.pointees.items a.pointed c.args.t)

pub returns-clause-kept : goal.returns-clause-kept
returns-clause-kept c =
    let a = c.requires.asked in
    subst (AreBelows c.args.asked.now.types.now c.args.asked.now.sites.now) (sym c.in_ok-insert.ensures.entries)
    (inserted (λ e. IsTrue e.1 ↔ HasBelow c.args.asked.now.types.now c.args.asked.now.sites.now e.0) type_eq same_id c.args.belows.now.entries c.args.t c.in_ok-below.below
    c.requires.kept
    (subst (λ (b : Bool). IsTrue b ↔ HasBelow c.args.asked.now.types.now c.args.asked.now.sites.now c.args.t)
    (sym (c.in_ok-below.ensures ∙ (λ i. list_any (λ q. strictly_below (a.same i) q c.args.t) (c.deref.ensures.value i))))
    (below_told c.args.asked.now.types.now a.formed c.args.asked.now.sites.now c.args.asked.now.firsts.items a.equal a.typed c.args.asked.now.pointees.items a.pointed c.args.t)))
