use Rattle.c_parser.proofs.NamesInForce.{new_read}
use Rattle.c_parser.proofs.externals.new_declarator.Goals as goal

pub returns-clause-new : goal.returns-clause-new
returns-clause-new c = new_read _ _ _ _ _ c.declarator.ensures
