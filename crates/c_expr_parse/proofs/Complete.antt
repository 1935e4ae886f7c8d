-- That each part is read from its spelling, where d nodes are allowed and nothing comes that goes on with it.
use Rattle.std.proofs.Common.{◌≡◌, ℕ, ◌≤◌, true, false, ◌&&◌, ◌==◌, Option, None, is_some, nat_le, if◌then◌else◌, List, ◌∷◌, ◌++◌}
use Rattle.cc_base.specs.declared.place.Place.{Place}
use Rattle.c_lexer.specs.declared.punctuator.Punctuator.TheVariants as mark
use Rattle.parse_rules.specs.Parsers.{Read, first}
use Rattle.parse_rules.specs.Grammars.{Language}
use Rattle.parse_rules.proofs.Completeness.{LeadsTo}
use Rattle.c_tree.specs.declared.operator.Assignment.{Assignment}
use Rattle.c_tree.specs.Depth.{expr_height, specifier_list_height, declarator_height}
use Rattle.c_tree.specs.Grammar.{Naming, IsExpr, AreSpecifiers, IsDeclarator, level}
use Rattle.c_tree.specs.Spelling.{expr_spelling, specifiers_spelling, declarator_spelling}
use Rattle.c_tree.specs.Symbols.{Symbol, Mark}
use Rattle.c_tree.specs.Tree as tree
use Rattle.c_tree.specs.Words.{TypeNames, Scope, has_type}
use Rattle.c_parse_words.specs.Levels.{question_after}
use Rattle.c_parse_words.specs.Tests.{Operator, assignment_operator, is_comma, open_brace, star_sign, qualifier_word, string_piece, binds, has_suffix, begins_specifier, begins_part, core_start, is_core}
use Rattle.c_expr_parse.specs.Rules.{rules}

-- the next token goes on with no operand
pub record EndsOperand (next : Option Symbol) : Type 0 where
  pub no_suffix : has_suffix next ≡ false
  pub no_piece : is_some (string_piece next) ≡ false
  pub no_brace : is_some (open_brace next) ≡ false

-- an assignment operator, where an expression of this level may have one
abbrev pub assignment_at : (least : ℕ) → Option Symbol → Option (Operator Assignment)
assignment_at least next = if nat_le least 1 then assignment_operator next else None

-- nor with an expression of this level
pub record EndsExpr (least : ℕ) (next : Option Symbol) : Type 0 where
  pub operand : EndsOperand next
  pub no_operator : binds least next ≡ false
  pub no_question : question_after least next ≡ None
  pub no_assignment : assignment_at least next ≡ None
  pub no_comma : (least == 0 && is_comma next) ≡ false

-- the next token goes on with no specifiers
pub record EndsSpecifiers (names : TypeNames) (scope : Scope) (next : Option Symbol) : Type 0 where
  pub no_specifier : begins_specifier names scope next ≡ false
  pub no_brace : is_some (open_brace next) ≡ false

-- the next token goes on with no declarator
pub record EndsDeclarator (names : TypeNames) (naming : Naming) (next : Option Symbol) : Type 0 where
  pub no_part : begins_part next ≡ false
  pub no_qualifier : is_some (qualifier_word next) ≡ false
  pub no_star : is_some (star_sign next) ≡ false
  pub no_core : is_core (core_start names naming next) ≡ false

-- what the rules where d nodes are allowed read
pub record InnerReads (names : TypeNames) (d : ℕ) : Type 0 where
  pub expr : (g : Language) (least : ℕ) (e : tree.Expr) (rest : List Symbol) → least ≤ 14 → IsExpr g names e → least ≤ level e → expr_height e ≤ d → EndsExpr least (first rest)
      → LeadsTo g ((rules names d).expr least (expr_spelling e ++ rest)) (Read e rest)
  -- the `(` of the expression was read before
  pub paren : (g : Language) (at : Place) (e : tree.Expr) (tail rest : List Symbol) → expr_spelling e ≡ Mark mark.OpenParen at ∷ tail → IsExpr g names e → 14 ≤ level e → expr_height e ≤ d → EndsOperand (first rest)
      → LeadsTo g ((rules names d).paren at (tail ++ rest)) (Read e rest)
  pub specifiers : (g : Language) (scope : Scope) (x : tree.Specifiers) (rest : List Symbol) → AreSpecifiers g names scope x → has_type x ≡ true → specifier_list_height x ≤ d → EndsSpecifiers names scope (first rest)
      → LeadsTo g ((rules names d).specifiers scope (specifiers_spelling x ++ rest)) (Read x rest)
  pub declarator : (g : Language) (naming : Naming) (x : tree.Declarator) (rest : List Symbol) → IsDeclarator g names naming x → declarator_height x ≤ d → EndsDeclarator names naming (first rest)
      → LeadsTo g ((rules names d).declarator naming (declarator_spelling x ++ rest)) (Read x rest)
