use Rattle.lower_statements.proofs.SwitchLaws.{grows_piece}
use Rattle.lower_statements.proofs.switching.put_piece.Goals as goal

pub returns : goal.returns
returns c = grows_piece _ _ _ _ _ _ _ _ c.put_guard.ensures c.choose.ensures c.start-otherwise.ensures
