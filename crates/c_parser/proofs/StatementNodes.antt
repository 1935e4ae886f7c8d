-- What is read where at least one node is allowed, and where none is.
use Rattle.std.proofs.Common.{◌≡◌, ◌∙◌, ℕ, suc, ◌-◌, Bool, false, cond, is_some, List, Result, refl, sym, ap, subst, arith}
use Rattle.parse_rules.specs.Parsers.{Stopped, first, expect, pure, too_deep, ◌>>=◌, ◌>>◌}
use Rattle.c_tree.specs.Grammar.{names_after, type_names}
use Rattle.c_tree.specs.StatementViews.{statement_view}
use Rattle.c_tree.specs.Symbols.{Symbol}
use Rattle.c_tree.specs.Tree as tree
use Rattle.c_tree.specs.Words.{TypeNames, has_typedef}
use Rattle.c_tree.specs.declared.statement.Statement.{Statement}
use Rattle.c_parse_words.specs.WordRules.{take}
use Rattle.c_parse_words.specs.Seen.{Reads, reason_of}
use Rattle.c_parse_words.specs.Tests.{is_close_brace, open_brace}
use Rattle.c_parse_words.specs.declared.stop.Stop.{Stop}
use Rattle.c_parse_words.specs.declared.stop.Stop.TheVariants as stop
use Rattle.c_expr_parse.proofs.Layers.{none_allowed}
use Rattle.c_parser.specs.StatementRules.{block_items, statement, statement_from}
use Rattle.c_parser.specs.Tests.{StatementStart, begins_statement, statement_start}
use Rattle.c_parser.specs.UnitRules.{function_body}

pub no_statement : (names : TypeNames) (depth : ℕ) (ts : List Symbol) (begins : Bool) (why : Stop) → depth ≡ 0 → begins ≡ begins_statement names (first ts) → why ≡ cond begins stop.Deep stop.Syntax
    → statement names depth ts ≡ Stopped (reason_of why) ts
unfolding statement
no_statement names depth ts begins why none said told = ap (λ n. statement names n ts) none ∙ none_allowed (begins_statement names) ts begins why told said

one_less : (depth : ℕ) → (depth ≡ 0 → ⊥) → depth ≡ suc (depth - 1)
one_less depth some = omega arith

pub some_statement : (names : TypeNames) (depth : ℕ) → (depth ≡ 0 → ⊥) → (ts : List Symbol) (start : StatementStart) → start ≡ statement_start (first ts) → (r : Result Statement Stop) (left : List Symbol)
    → Reads statement_view (statement_from names (depth - 1) (statement names (depth - 1)) start ts) r left → Reads statement_view (statement names depth ts) r left
unfolding statement
some_statement names depth some ts start begun r left h =
    subst (λ n. Reads statement_view (statement names n ts) r left) (sym (one_less depth some))
    (subst (λ s. Reads statement_view (statement_from names (depth - 1) (statement names (depth - 1)) s ts) r left) begun h)

-- the typedef names in a function's body
abbrev names_in : tree.TranslationUnit → tree.Specifiers → tree.Declarator → TypeNames
names_in unit specifiers x = names_after (has_typedef specifiers) (type_names unit) x

pub body_deeper : (unit : tree.TranslationUnit) (specifiers : tree.Specifiers) (x : tree.Declarator) (depth : ℕ) (ts : List Symbol) → (depth ≡ 0 → ⊥)
    → function_body unit specifiers x depth ts
    ≡ (take open_brace >>= (λ brace. block_items (names_in unit specifiers x) (depth - 1) (statement (names_in unit specifiers x) (depth - 1)) false >>= (λ items. expect is_close_brace >> pure (tree.AndFunctionBody unit specifiers x brace items)))) ts
unfolding function_body
body_deeper unit specifiers x depth ts some = ap (λ n. function_body unit specifiers x n ts) (one_less depth some)

pub body_too_deep : (unit : tree.TranslationUnit) (specifiers : tree.Specifiers) (x : tree.Declarator) (depth : ℕ) (ts : List Symbol) → depth ≡ 0
    → function_body unit specifiers x depth ts ≡ too_deep (λ next. is_some (open_brace next)) ts
unfolding function_body
body_too_deep unit specifiers x depth ts e = rw e refl
