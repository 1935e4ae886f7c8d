-- How the spelling of a statement begins.
use Rattle.std.proofs.Common.{◌≡◌, Bool, true, false, ◌||◌, Option, Some, List, ◌++◌, refl, append_assoc}
use Rattle.cc_base.specs.declared.place.Place.{Place}
use Rattle.c_lexer.specs.declared.word.Keyword.{Keyword}
use Rattle.c_lexer.specs.declared.word.Keyword.TheVariants as keyword
use Rattle.c_lexer.specs.declared.punctuator.Punctuator.TheVariants as mark
use Rattle.parse_rules.specs.Parsers.{first}
use Rattle.parse_rules.specs.Grammars.{Language}
use Rattle.c_tree.specs.declared.leaf.Separator.TheVariants as separator
use Rattle.c_tree.specs.Grammar.{IsStatement}
use Rattle.c_tree.specs.Spelling.{semicolon, expr_spelling, statement_spelling}
use Rattle.c_tree.specs.Symbols.{Symbol, Name, Integer, Character, Quoted, Word, Mark, Bare}
use Rattle.c_tree.specs.Tree as tree
use Rattle.c_tree.specs.Words.{TypeNames, InBlock}
use Rattle.c_parse_words.specs.Tests.{begins_expr, begins_specifier, is_start, start_of_word, is_specifier_start, specifier_start_of_word}
use Rattle.c_parse_words.proofs.Starts.{expr_starts, expr_apart}
use Rattle.c_parser.specs.Tests.{is_else, statement_start, start_of_keyword, is_statement_start, NoStatementStart, begins_statement, label_start, label_of_keyword, is_label_start}

-- an expression begins with none of the words of statements
no_word : (word : Keyword) (at : Place) → is_start (start_of_word word at) ≡ true → start_of_keyword word at ≡ NoStatementStart
no_word keyword.Sizeof at e = refl
no_word word at e = cc

pub expr_no_start : (names : TypeNames) (next : Option Symbol) → begins_expr names next ≡ true → statement_start next ≡ NoStatementStart
expr_no_start names (Some (Name bytes at)) e = refl
expr_no_start names (Some (Integer type value at)) e = refl
expr_no_start names (Some (Character value at)) e = refl
expr_no_start names (Some (Quoted bytes at)) e = refl
expr_no_start names (Some (Word word at)) e = no_word word at e
expr_no_start names (Some (Mark mark.OpenBrace at)) e = cc
expr_no_start names (Some (Mark p at)) e = refl
expr_no_start names next e = cc

pub or_right : (a b : Bool) → b ≡ true → (a || b) ≡ true
or_right true b e = refl
or_right false b e = e

pub statement_starts : (g : Language) (names : TypeNames) (s : tree.Statement) (rest : List Symbol) → IsStatement g names s → begins_statement names (first (statement_spelling s ++ rest)) ≡ true
statement_starts g names (tree.Block brace items) rest w = refl
statement_starts g names (tree.Express e) rest w = rw (append_assoc (expr_spelling e) semicolon rest) (or_right _ _ (expr_starts g names e w (semicolon ++ rest)))
statement_starts g names tree.Empty rest w = refl
statement_starts g names (tree.If at paren test s) rest w = refl
statement_starts g names (tree.IfElse at paren test s other) rest w = refl
statement_starts g names (tree.Switch at paren e brace items) rest w = refl
statement_starts g names (tree.While at paren test s) rest w = refl
statement_starts g names (tree.DoWhile s at paren test) rest w = refl
statement_starts g names (tree.For at paren start test step s) rest w = refl
statement_starts g names (tree.ForDeclaration at paren start test step s) rest w = refl
statement_starts g names (tree.Break at) rest w = refl
statement_starts g names (tree.Continue at) rest w = refl
statement_starts g names (tree.Return at e) rest w = refl

-- A token that begins a statement begins no declaration, no label and no `else`.

pub record Apart (names : TypeNames) (next : Option Symbol) : Type 0 where
  pub no_specifier : begins_specifier names InBlock next ≡ false
  pub no_label : is_label_start (label_start next) ≡ false
  pub no_else : is_else next ≡ false

word_apart : (word : Keyword) (at : Place) → (is_statement_start (start_of_keyword word at) || is_start (start_of_word word at)) ≡ true → (is_specifier_start (specifier_start_of_word InBlock word at) ≡ false) × (is_label_start (label_of_keyword word at) ≡ false)
word_apart keyword.If at e = (refl, refl)
word_apart keyword.Switch at e = (refl, refl)
word_apart keyword.While at e = (refl, refl)
word_apart keyword.For at e = (refl, refl)
word_apart keyword.Break at e = (refl, refl)
word_apart keyword.Continue at e = (refl, refl)
word_apart keyword.Return at e = (refl, refl)
word_apart keyword.Sizeof at e = (refl, refl)
word_apart word at e = cc

pub statement_apart : (names : TypeNames) (next : Option Symbol) → begins_statement names next ≡ true → Apart names next
statement_apart names (Some (Word word at)) e =
    let parts = word_apart word at e in
    record { no_specifier = parts.0; no_label = parts.1; no_else = refl }
statement_apart names (Some (Name bytes at)) e = record { no_specifier = expr_apart names InBlock (Some (Name bytes at)) e; no_label = refl; no_else = refl }
statement_apart names (Some (Integer type value at)) e = record { no_specifier = refl; no_label = refl; no_else = refl }
statement_apart names (Some (Character value at)) e = record { no_specifier = refl; no_label = refl; no_else = refl }
statement_apart names (Some (Quoted bytes at)) e = record { no_specifier = refl; no_label = refl; no_else = refl }
statement_apart names (Some (Mark p at)) e = record { no_specifier = refl; no_label = refl; no_else = refl }
statement_apart names (Some (Bare separator.Semicolon)) e = record { no_specifier = refl; no_label = refl; no_else = refl }
statement_apart names (Some (Bare separator.Do)) e = record { no_specifier = refl; no_label = refl; no_else = refl }
statement_apart names next e = cc
