-- What the calls answer, said of the tokens of a text and of the one at which reading begins.
use Rattle.std.specs.Prelude.{ℕ, ◌≤◌, ⊤, Bool, List, drop, length, map, if◌then◌else◌}
use Rattle.cc_base.specs.declared.fault.Fault.{Fault}
use Rattle.cc_base.specs.declared.fault.Fault.TheVariants.{Refused, TooLarge, NoMemory}
use Rattle.c_lexer.specs.Tokens.{Token}
use Rattle.parse_rules.specs.Parsers.{Answer, Read}
use Rattle.c_tree.specs.Operators.{comma_level, assignment_level, conditional_level}
use Rattle.c_tree.specs.Symbols.{Symbol, symbol_of}
use Rattle.c_tree.specs.Words.{Scope, AtFile, InBlock}
use Rattle.c_parse_words.specs.Faults.{IsTold}
use Rattle.c_expr_parse.specs.declared.calls.Level.{Level}
use Rattle.c_expr_parse.specs.declared.calls.Level.TheVariants as level

abbrev pub least_level : Level → ℕ
least_level level.Comma = comma_level
least_level level.Assign = assignment_level
least_level level.Conditional = conditional_level

-- where the specifiers of a declaration stand
abbrev pub scope_of : (at_file : Bool) → Scope
scope_of at_file = if at_file then AtFile else InBlock

-- what the tree keeps of the tokens from the n-th on
abbrev pub symbols_from : List Token → (n : ℕ) → List Symbol
symbols_from tokens n = map symbol_of (drop n tokens)

-- `Right`: which answers to the tokens from `from` are right.
module _ {A : Type 0} (Right : Answer Symbol A → Type 0) (tokens : List Token) (from : ℕ) where
  -- the part is read, and `next` is the number of the first token after it
  pub record IsReadTo (a : A) (next : ℕ) : Type 0 where
    pub from_there : from ≤ next
    pub in_tokens : next ≤ length tokens
    pub right : Right (Read a (symbols_from tokens next))

-- the fault tells why no part is read and where, if it isn't the want of memory
abbrev pub IsFault : {A : Type 0} → (Right : Answer Symbol A → Type 0) → (text : List ℕ) → List Token → Fault → Type 0
IsFault Right text tokens (Refused place rule) = IsTold Right text tokens (Refused place rule)
IsFault Right text tokens (TooLarge place limit) = IsTold Right text tokens (TooLarge place limit)
IsFault Right text tokens NoMemory = ⊤
