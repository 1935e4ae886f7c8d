use Rattle.std.proofs.Common.{sym, ◌∙◌}
use Rattle.cc_base.specs.declared.kind.Kind.TheVariants.{Safe}
use Rattle.rtti_nodes.proofs.Prefixes.{other_of_length}
use Rattle.rtti_nodes.proofs.covering.begins_with.Goals as goal

pub returns-then-not-is_equal : goal.returns-then-not-is_equal
returns-then-not-is_equal c =
    let a = c.args in
    other_of_length a.known.now c.requires.formed (λ n. Safe) a.t a.u c.requires.first c.requires.second
    (sym c.cell_count.ensures ∙ c.if-cell_count.true ∙ c.cell_count-2.ensures)
    c.is_equal.result c.is_equal.ensures c.if-not-is_equal.true
