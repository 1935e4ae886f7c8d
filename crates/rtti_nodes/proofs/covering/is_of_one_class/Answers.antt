use Rattle.std.proofs.Common.{List, ℕ, ap, ◌∙◌}
use Rattle.cc_base.specs.Kinds.{kind_at}
use Rattle.phys_types.specs.Numbers.{number_in}
use Rattle.rtti_nodes.proofs.Depths.{other_class, one_class}
use Rattle.rtti_nodes.proofs.covering.is_of_one_class.Goals as goal

pub returns-then-number_of : goal.returns-then-number_of
returns-then-number_of c =
    let a = c.args in
    other_class a.known.now c.requires.formed (kind_at a.kinds.now) a.told.now.numbers.items c.requires.told.coarse a.t a.u c.requires.first c.requires.second
    c.number_of.result c.number_of-2.result (c.number_of.ensures ∙ ap (λ (ns : List ℕ). number_in ns a.t) c.deref.ensures.value)
    (c.number_of-2.ensures ∙ ap (λ (ns : List ℕ). number_in ns a.u) c.deref-2.ensures.value) c.if-number_of.true

pub returns-then-told : goal.returns-then-told
returns-then-told c =
    let a = c.args in
    one_class a.known.now c.requires.formed (kind_at a.kinds.now) a.told.now.numbers.items (c.requires.told.fine c.if-told.true) a.t a.u c.requires.first c.requires.second
    c.number_of.result c.number_of-2.result (c.number_of.ensures ∙ ap (λ (ns : List ℕ). number_in ns a.t) c.deref.ensures.value)
    (c.number_of-2.ensures ∙ ap (λ (ns : List ℕ). number_in ns a.u) c.deref-2.ensures.value) c.if-number_of.false
