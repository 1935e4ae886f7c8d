use Rattle.std.proofs.Common.{sym}
use Rattle.lower_initialisers.proofs.declarations.declared.Goals as goal

pub returns-in-Local : goal.returns-in-Local
returns-in-Local c = rw (sym c.declared_home.ensures, c.in-Local.is) (rw c.declared_type.ensures at c.initialise.ensures)
