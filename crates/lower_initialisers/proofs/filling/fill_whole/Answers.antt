use Rattle.lower_exprs.proofs.Laws.{grows_then}
use Rattle.lower_initialisers.specs.Ready.{Fills}
use Rattle.lower_initialisers.proofs.filling.fill_whole.Goals as goal

pub returns : goal.returns
unfolding Fills
returns c = grows_then _ _ _ _ _ _ _ (rw c.clears.ensures at c.put_clear.ensures) c.fill.ensures
