-- When a text is accepted, and with which typed unit.
use Rattle.std.specs.Prelude.{ℕ, ◌≤◌, List, map}
use Rattle.parse_rules.specs.Grammars.{Supported}
use Rattle.c_lexer.specs.Cut.{IsCut}
use Rattle.c_lexer.specs.Tokens.{Token}
use Rattle.c_types.specs.Table.{Table}
use Rattle.c_tree.specs.Depth.{unit_height}
use Rattle.c_tree.specs.Erasure.{erased_unit}
use Rattle.c_tree.specs.Symbols.{symbol_of}
use Rattle.c_tree.specs.Tree.{TranslationUnit}
use Rattle.c_tree.specs.TypedTree.{TypedTranslationUnit}
use Rattle.c_parser.specs.Answers.{SpellsUnit}
use Rattle.c_unit_typing.specs.Limits.{IsWithinLimits}
use Rattle.c_unit_typing.specs.WellTyped.{IsWellTyped}

-- the text is cut into tokens that the unit spells, and no path of the unit has more than 256 nodes
pub record IsUnitOf (text : List ℕ) (unit : TranslationUnit) : Type 0 where
  pub tokens : List Token
  pub cut : IsCut text tokens
  pub spells : SpellsUnit Supported unit (map symbol_of tokens)
  pub low : unit_height unit ≤ 256

-- the text is in the grammar, and this typed unit of it is well typed over the table and within the limits
pub record IsTypedText (text : List ℕ) (T : Table) (whole : TypedTranslationUnit) : Type 0 where
  pub unit : IsUnitOf text (erased_unit whole)
  pub typed : IsWellTyped T whole
  pub limited : IsWithinLimits T whole
