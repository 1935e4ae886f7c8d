-- What the laws of the crate say.
use Rattle.std.specs.Prelude.{◌≡◌, ℕ, false, List}
use Rattle.parse_rules.specs.Parsers.{Answer}
use Rattle.parse_rules.specs.Promises.{is_deep}
use Rattle.parse_rules.specs.Grammars.{Each}
use Rattle.c_parse_words.specs.Written.{IsWritten}
use Rattle.c_tree.specs.Symbols.{Symbol}
use Rattle.c_tree.specs.Tree.{TranslationUnit}
use Rattle.c_parser.specs.Answers.{UnitAnswered}

abbrev pub OneAnswerIsRight : Type 0
OneAnswerIsRight =
    (d : ℕ) (tokens : List Symbol) (a b : Answer Symbol TranslationUnit) → Each IsWritten tokens → is_deep a ≡ false → is_deep b ≡ false
    → UnitAnswered d tokens a → UnitAnswered d tokens b → a ≡ b
