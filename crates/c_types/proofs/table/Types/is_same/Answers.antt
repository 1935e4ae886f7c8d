use Rattle.std.proofs.Common.{List, ap, sym, subst, ◌∙◌, nat_eq}
use Rattle.c_types.specs.Table.{Entry, IsType}
use Rattle.c_types.specs.Sameness.{is_same_type}
use Rattle.c_types.specs.Kept.{table_of, firsts_of}
use Rattle.c_types.proofs.Sameness.{firsts_tell}
use Rattle.c_types.proofs.table.Types.is_same.Goals as goal

pub returns : goal.returns
returns c =
    c.eq.ensures
    ∙ (λ i. nat_eq (c.first_of.ensures i).0 (c.first_of-2.ensures i).0)
    ∙ firsts_tell (table_of c.self.inside.entries.entries) (firsts_of c.self.inside.entries.entries) c.self.inside.known.entries
    c.self.invariant.formed c.self.invariant.first c.args.t c.args.u
    (subst (λ (table : List Entry). IsType table c.args.t) (sym c.self.view_is) c.requires.left)
    (subst (λ (table : List Entry). IsType table c.args.u) (sym c.self.view_is) c.requires.right)
    ∙ ap (λ (table : List Entry). is_same_type table c.args.t c.args.u) c.self.view_is
