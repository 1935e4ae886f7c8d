use Rattle.parse_rules.proofs.OneAnswer.{one_whole_answer}
use Rattle.c_tree.specs.Depth.{unit_height}
use Rattle.c_parse_words.specs.Written.{IsWritten}
use Rattle.c_parser.specs.Answers.{SpellsUnit}
use Rattle.c_parser.proofs.UnitPromised.{one_unit}
use Rattle.c_parser.proofs.laws.one_answer_is_right.Goals as goal

pub returns : goal.returns
returns c = λ d tokens a b valid shallow_a shallow_b right_a right_b. one_whole_answer IsWritten SpellsUnit unit_height d tokens valid one_unit a b shallow_a shallow_b right_a right_b
