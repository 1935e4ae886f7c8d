use Rattle.std.proofs.Common.{◌∙◌}
use Rattle.c_parse_words.proofs.NameLaws.{is_type_name-listed}
use Rattle.c_parse_words.proofs.words.is_type_name.Goals as goal

pub returns : goal.returns
returns c = c.contains.ensures ∙ is_type_name-listed c.args.names.now.keys c.args.bytes.now
