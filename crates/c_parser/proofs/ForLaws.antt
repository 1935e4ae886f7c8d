-- The parts of a `for` after the first, each with the token that ends it.
use Rattle.std.proofs.Common.{◌≡◌, ℕ, Option, List, refl, sym}
use Rattle.parse_rules.specs.Parsers.{Answer, Read, Stopped, Parser, next, expect}
use Rattle.c_tree.specs.Symbols.{Symbol}
use Rattle.c_tree.specs.Tree as tree
use Rattle.c_tree.specs.Words.{TypeNames}
use Rattle.c_parse_words.specs.Tests.{is_close_paren, is_semicolon}
use Rattle.c_parser.specs.StatementRules.{for_rest, optional, optional_then}

module _ {A B C : Type 0} (k k' : A → Parser Symbol B) (same : (a : A) (ts : List Symbol) → k a ts ≡ k' a ts) where
  after_end : (a : A) (end : Answer Symbol C) → next (next end (λ _ rest. Read a rest)) k ≡ next end (λ _. k' a)
  after_end a (Read c rest) = same a rest
  after_end a (Stopped why rest) = refl

  -- a part and its end, and then k
  with_end : (part : Answer Symbol A) (end : Parser Symbol C) → next (next part (λ a rest. next (end rest) (λ _ left. Read a left))) k ≡ next part (λ a rest. next (end rest) (λ _. k' a))
  with_end (Read a rest) end = after_end a (end rest)
  with_end (Stopped why rest) end = refl

pub for_rest_parts : (names : TypeNames) (d : ℕ) (inner : Parser Symbol tree.Statement) (made : Option tree.Expr → Option tree.Expr → tree.Statement → tree.Statement) (ts : List Symbol)
    → for_rest names d inner made ts
    ≡ next (optional_then names d is_semicolon ts) (λ test r1. next (optional_then names d is_close_paren r1) (λ step r2. next (inner r2) (λ s r3. Read (made test step s) r3)))
unfolding for_rest optional_then
for_rest_parts names d inner made ts = sym (with_end _ _ (λ test r1. with_end _ _ (λ step r2. refl) (optional names d r1) (expect is_close_paren)) (optional names d ts) (expect is_semicolon))
