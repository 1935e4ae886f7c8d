use Rattle.std.proofs.Common.{◌∙◌}
use Rattle.c_types.proofs.Copies.{same_table, same_known, sound_copied}
use Rattle.c_types.proofs.table.Types.copy.Goals as goal

pub invariant_of-result : goal.invariant_of-result
invariant_of-result c =
    sound_copied c.self.inside.entries.entries c.in_ok-clone.field-0.entries c.self.inside.known.entries c.in_ok-clone-2.field-0.entries
    c.in_ok-clone.ensures.cases (same_known c.self.inside.known.entries c.in_ok-clone-2.field-0.entries c.in_ok-clone-2.ensures.cases) c.self.invariant

pub returns : goal.returns
returns c = same_table c.self.inside.entries.entries c.in_ok-clone.field-0.entries c.in_ok-clone.ensures.cases ∙ c.self.view_is
