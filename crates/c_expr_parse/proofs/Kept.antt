-- What the rules one node further down keep, as what the rules here may rely on.
use Rattle.std.proofs.Common.{◌≡◌, ℕ, ◌≤◌, Bool, true, false, List, ◌∷◌}
use Rattle.cc_base.specs.declared.place.Place.{Place}
use Rattle.c_lexer.specs.declared.punctuator.Punctuator.TheVariants as mark
use Rattle.parse_rules.specs.Parsers.{first}
use Rattle.parse_rules.specs.Grammars.{Any}
use Rattle.parse_rules.specs.Rules.{Rule}
use Rattle.c_tree.specs.Depth.{expr_height, specifier_list_height, declarator_height}
use Rattle.c_tree.specs.Grammar.{Naming}
use Rattle.c_tree.specs.Symbols.{Symbol, Mark}
use Rattle.c_tree.specs.Tree as tree
use Rattle.c_tree.specs.Words.{TypeNames, Scope}
use Rattle.c_parse_words.specs.Tests.{binds, begins_expr, begins_specifier, begins_declarator}
use Rattle.c_parse_words.specs.Written.{IsWritten}
use Rattle.c_expr_parse.specs.Parts.{SpellsExpr, SpellsSpecifiers, SpellsDeclarator}
use Rattle.c_expr_parse.specs.Rules.{rules}

-- after an expression of at least this level comes no operator that would make a longer one
abbrev pub NoOperator : ℕ → tree.Expr → List Symbol → Type 0
NoOperator least e rest = binds least (first rest) ≡ false

-- Each rule reads a token first where one comes that begins its part.
pub record InnerKeeps (names : TypeNames) (d : ℕ) : Type 0 where
  pub expr : (least : ℕ) (moves : Bool) (ts : List Symbol) → least ≤ 14 → (moves ≡ true → begins_expr names (first ts) ≡ true)
      → Rule IsWritten true moves (λ d'. (rules names d').expr least) d (SpellsExpr names least) (λ e. expr_height e ≤ d) (NoOperator least) ts
  pub paren : (at : Place) (ts : List Symbol)
      → Rule IsWritten true false (λ d'. (rules names d').paren at) d (λ g e s. SpellsExpr names 14 g e (Mark mark.OpenParen at ∷ s)) (λ e. expr_height e ≤ d) Any ts
  pub specifiers : (scope : Scope) (moves : Bool) (ts : List Symbol) → (moves ≡ true → begins_specifier names scope (first ts) ≡ true)
      → Rule IsWritten true moves (λ d'. (rules names d').specifiers scope) d (SpellsSpecifiers names scope) (λ x. specifier_list_height x ≤ d) Any ts
  pub declarator : (naming : Naming) (moves : Bool) (ts : List Symbol) → (moves ≡ true → begins_declarator names naming (first ts) ≡ true)
      → Rule IsWritten true moves (λ d'. (rules names d').declarator naming) d (SpellsDeclarator names naming) (λ x. declarator_height x ≤ d) Any ts
