-- Tokens that close or end something are expected.
use Rattle.std.proofs.Common.{◌≡◌, ℕ, Bool, false, List, [], ◌∷◌, refl}
use Rattle.parse_rules.specs.Parsers.{expect}
use Rattle.parse_rules.specs.Grammars.{Any}
use Rattle.parse_rules.specs.Rules.{Rule}
use Rattle.parse_rules.proofs.Combinators.{rule_expect_the}
use Rattle.c_tree.specs.declared.leaf.Separator.TheVariants as separator
use Rattle.c_tree.specs.Symbols.{Symbol, Bare}
use Rattle.c_parse_words.specs.Tests.{is_close_paren, is_close_bracket, is_close_brace, is_semicolon, is_colon}
use Rattle.c_parse_words.specs.Written.{IsWritten}
use Rattle.c_parse_words.proofs.TokenLaws.{close_paren_only, close_bracket_only, close_brace_only, semicolon_only, colon_only}
use Rattle.c_parse_words.proofs.Written.{written_close_paren, written_close_bracket, written_close_brace, written_semicolon, written_colon}

module _ {cut : Bool} {d : ℕ} {ts : List Symbol} where
  pub keeps_close_paren : Rule IsWritten cut false (λ _. expect is_close_paren) d (λ _ _ s. s ≡ Bare separator.CloseParen ∷ []) (λ _. Unit {0}) Any ts
  keeps_close_paren = rule_expect_the is_close_paren (Bare separator.CloseParen) written_close_paren refl refl close_paren_only

  pub keeps_close_bracket : Rule IsWritten cut false (λ _. expect is_close_bracket) d (λ _ _ s. s ≡ Bare separator.CloseBracket ∷ []) (λ _. Unit {0}) Any ts
  keeps_close_bracket = rule_expect_the is_close_bracket (Bare separator.CloseBracket) written_close_bracket refl refl close_bracket_only

  pub keeps_close_brace : Rule IsWritten cut false (λ _. expect is_close_brace) d (λ _ _ s. s ≡ Bare separator.CloseBrace ∷ []) (λ _. Unit {0}) Any ts
  keeps_close_brace = rule_expect_the is_close_brace (Bare separator.CloseBrace) written_close_brace refl refl close_brace_only

  pub keeps_semicolon : Rule IsWritten cut false (λ _. expect is_semicolon) d (λ _ _ s. s ≡ Bare separator.Semicolon ∷ []) (λ _. Unit {0}) Any ts
  keeps_semicolon = rule_expect_the is_semicolon (Bare separator.Semicolon) written_semicolon refl refl semicolon_only

  pub keeps_colon : Rule IsWritten cut false (λ _. expect is_colon) d (λ _ _ s. s ≡ Bare separator.Colon ∷ []) (λ _. Unit {0}) Any ts
  keeps_colon = rule_expect_the is_colon (Bare separator.Colon) written_colon refl refl colon_only
