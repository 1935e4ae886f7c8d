-- What an answer to the tokens of a text means. d is the number of nodes that are allowed.
use Rattle.std.specs.Prelude.{ℕ, List}
use Rattle.parse_rules.specs.Parsers.{Answer}
use Rattle.parse_rules.specs.Grammars.{Language}
use Rattle.parse_rules.specs.Promises.{AnsweredWhole}
use Rattle.c_tree.specs.Depth.{unit_height}
use Rattle.c_tree.specs.Grammar.{IsUnit}
use Rattle.c_tree.specs.Spelling.{unit_spelling}
use Rattle.c_tree.specs.Symbols.{Symbol}
use Rattle.c_tree.specs.Tree as tree
use Rattle.c_parse_words.specs.Spells.{Spells}
use Rattle.c_parse_words.specs.Written.{IsWritten}

-- the unit is in the grammar and spells the tokens
abbrev pub SpellsUnit : Language → tree.TranslationUnit → List Symbol → Type 0
SpellsUnit g = Spells (IsUnit g) unit_spelling

abbrev pub UnitAnswered : (d : ℕ) → List Symbol → Answer Symbol tree.TranslationUnit → Type 0
UnitAnswered d tokens = AnsweredWhole IsWritten SpellsUnit unit_height d tokens
