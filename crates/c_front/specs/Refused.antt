-- Why a text is refused: each pass is made over the whole text before the next one.
use Rattle.std.specs.Prelude.{ℕ, ◌≡◌, List, Some, map}
use Rattle.cc_base.specs.declared.place.Place.{Place}
use Rattle.cc_base.specs.declared.fault.Rule.{Rule}
use Rattle.cc_base.specs.declared.fault.Fault.{Fault}
use Rattle.cc_base.specs.declared.fault.Fault.TheVariants.{Refused}
use Rattle.c_lexer.specs.Cut.{IsCut, IsRefusal}
use Rattle.c_lexer.specs.Tokens.{Token}
use Rattle.c_types.specs.Table.{Table}
use Rattle.c_tree.specs.Symbols.{symbol_of}
use Rattle.c_tree.specs.Tree.{TranslationUnit}
use Rattle.c_parse_words.specs.Faults.{IsTold}
use Rattle.c_parser.specs.Answers.{UnitAnswered}
use Rattle.c_check.specs.Judged.{fault_of}
use Rattle.c_unit_typing.specs.DefinitionJudging.{before_unit, judged_unit}
use Rattle.c_unit_typing.specs.UnitJudging.{known_of}
use Rattle.c_unit_typing.specs.UnitRefusals.{RefusesUnit}
use Rattle.c_front.specs.Accepted.{IsUnitOf}

-- the judging of the unit stops with the fault; a rule that it names is the first that is broken
pub record IsIllTyped (unit : TranslationUnit) (fault : Fault) : Type 0 where
  pub stops : fault_of (judged_unit unit) ≡ Some fault
  pub breaks : (place : Place) (rule : Rule) → fault ≡ Refused place rule → (T : Table) × RefusesUnit T unit (known_of (before_unit unit)) (Refused place rule)

-- The first pass that refuses the text does so with this fault.
pub data IsFirstRefusal (text : List ℕ) (fault : Fault) : Type 0 where
  -- the text cannot be cut into tokens
  uncut : (place : Place) (rule : Rule) → fault ≡ Refused place rule → IsRefusal text place rule → IsFirstRefusal text fault
  -- the tokens spell no unit, or one with too long a path
  unread : (tokens : List Token) → IsCut text tokens → IsTold (UnitAnswered 256 (map symbol_of tokens)) text tokens fault → IsFirstRefusal text fault
  -- the unit is not well typed, or not within the limits
  ill_typed : (unit : TranslationUnit) → IsUnitOf text unit → IsIllTyped unit fault → IsFirstRefusal text fault
