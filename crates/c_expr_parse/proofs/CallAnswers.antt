-- The answers of the rules to the tokens from one on are right ones of the calls.
use Rattle.std.proofs.Common.{◌≡◌, ℕ, ◌-◌, ◌≤◌, List, length, map, take, drop, ap, ◌∙◌, arith}
use Rattle.std.proofs.lemmas.List.{length-drop, take_all}
use Rattle.c_lexer.specs.Tokens.{Token}
use Rattle.c_tree.specs.Grammar.{Naming}
use Rattle.c_tree.specs.Symbols.{Symbol, symbol_of}
use Rattle.c_tree.specs.Words.{TypeNames, Scope}
use Rattle.c_expr_parse.specs.Answers.{ExprAnswered, SpecifiersAnswered, DeclaratorAnswered}
use Rattle.c_expr_parse.specs.Calls.{least_level, symbols_from}
use Rattle.c_expr_parse.specs.Rules.{rules}
use Rattle.c_expr_parse.specs.declared.calls.Level.{Level}
use Rattle.c_expr_parse.specs.declared.calls.Level.TheVariants as level
use Rattle.c_expr_parse.proofs.AllReads.{inner_reads}
use Rattle.c_expr_parse.proofs.Promised.{expr_answered, specifiers_answered, declarator_answered}

level_small : (l : Level) → least_level l ≤ 14
level_small level.Comma = omega arith
level_small level.Assign = omega arith
level_small level.Conditional = omega arith

-- a slice up to the end
rest_of : (tokens : List Token) (from : ℕ) → take (length tokens - from) (drop from tokens) ≡ drop from tokens
rest_of tokens from = take_all (length tokens - from) (drop from tokens) (at_most (length-drop from tokens))
  where
    at_most : {n m : ℕ} → n ≡ m → n ≤ m
    at_most e = omega arith

module _ (names : TypeNames) (tokens : List Token) (from d nodes : ℕ) (ts : List Symbol) (same_d : nodes ≡ d)
    (whole : ts ≡ map symbol_of (take (length tokens - from) (drop from tokens))) where
  same : ts ≡ symbols_from tokens from
  same = whole ∙ ap (map symbol_of) (rest_of tokens from)

  pub expr_right : (l : Level) (least : ℕ) → least ≡ least_level l → ExprAnswered names (least_level l) d (symbols_from tokens from) ((rules names nodes).expr least ts)
  expr_right l least e = rw (same_d, same, e) (expr_answered names (inner_reads names) (least_level l) (level_small l) d (symbols_from tokens from))

  pub specifiers_right : (scope said : Scope) → said ≡ scope → SpecifiersAnswered names scope d (symbols_from tokens from) ((rules names nodes).specifiers said ts)
  specifiers_right scope said e = rw (same_d, same, e) (specifiers_answered names (inner_reads names) scope d (symbols_from tokens from))

  pub declarator_right : (naming : Naming) → DeclaratorAnswered names naming d (symbols_from tokens from) ((rules names nodes).declarator naming ts)
  declarator_right naming = rw (same_d, same) (declarator_answered names (inner_reads names) naming d (symbols_from tokens from))
