use Rattle.std.proofs.Common.{[], if◌then◌else◌, sym, ◌∙◌}
use Rattle.lower_sites.proofs.NameLaws.{tells_skip}
use Rattle.lower_sites.proofs.walk.declaration.Goals as goal

pub returns-then-is_typedef : goal.returns-then-is_typedef
returns-then-is_typedef c = rw (sym c.is_typedef.ensures, c.if-is_typedef.true) (tells_skip _ _ _ c.skip.ensures)

pub returns-else-is_typedef : goal.returns-else-is_typedef
returns-else-is_typedef c = rw (sym c.is_typedef.ensures, c.if-is_typedef.false) (rw c.as_slice.ensures at c.declarators.ensures)
