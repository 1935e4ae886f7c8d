-- What a fault says of the tokens of a text.
use Rattle.std.specs.Prelude.{◌≡◌, ℕ, List, [], ◌∷◌, ◌++◌, map}
use Rattle.cc_base.specs.declared.place.Place.{Place}
use Rattle.cc_base.specs.declared.fault.Fault.{Fault}
use Rattle.cc_base.specs.declared.fault.Fault.TheVariants.{Refused, TooLarge, NoMemory}
use Rattle.cc_base.specs.declared.fault.Rule.TheVariants as rule
use Rattle.cc_base.specs.declared.fault.Limit.TheVariants as limit
use Rattle.parse_rules.specs.Parsers.{Reason, Syntax, Unsupported, Deep, Answer, Stopped}
use Rattle.c_lexer.specs.Cut.{place_after}
use Rattle.c_lexer.specs.Tokens.{Token}
use Rattle.c_tree.specs.Symbols.{Symbol, symbol_of}
use Rattle.c_parse_words.specs.declared.stop.Stop.{Stop}
use Rattle.c_parse_words.specs.declared.stop.Stop.TheVariants as stop

-- the place of the first of the tokens that are left, or where there is none, just after the last byte of the text
abbrev pub place_of_first : (text : List ℕ) → (left : List Token) → Place
place_of_first text [] = place_after text
place_of_first text (token ∷ left) = token.place

abbrev pub told : Reason → Place → Fault
told Syntax place = Refused place rule.Syntax
told Unsupported place = Refused place rule.Unsupported
told Deep place = TooLarge place limit.Depth

abbrev pub fault_of : Stop → Place → Fault
fault_of stop.Syntax place = told Syntax place
fault_of stop.Unsupported place = told Unsupported place
fault_of stop.Deep place = told Deep place
fault_of stop.NoMemory place = NoMemory

-- The fault tells of a stop before the tokens that are left, which is a right answer.
pub record IsTold {A : Type 0} (Right : Answer Symbol A → Type 0) (text : List ℕ) (tokens : List Token) (fault : Fault) : Type 0 where
  pub why : Reason
  pub before : List Token
  pub left : List Token
  pub whole : tokens ≡ before ++ left
  pub right : Right (Stopped why (map symbol_of left))
  pub told_so : fault ≡ told why (place_of_first text left)
