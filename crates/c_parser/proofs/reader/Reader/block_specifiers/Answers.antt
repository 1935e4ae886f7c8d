use Rattle.c_parser.proofs.NamesInForce.{plain_read}
use Rattle.c_parser.proofs.reader.Reader.block_specifiers.Goals as goal

pub returns-clause-plain : goal.returns-clause-plain
returns-clause-plain c = plain_read _ _ _ _ _ c.specifiers.ensures
