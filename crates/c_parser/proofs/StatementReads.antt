-- The spelling of each statement leads to it, at each number of nodes that is allowed.
use Rattle.std.proofs.Common.{◌≡◌, ℕ, zero, suc, ◌≤◌, true, false, Option, Some, None, List, [], ◌∷◌, ◌++◌, refl, sym, ◌∙◌, append_assoc, true≢false, arith}
use Rattle.c_lexer.specs.declared.word.Keyword.TheVariants as keyword
use Rattle.c_lexer.specs.declared.punctuator.Punctuator.TheVariants as mark
use Rattle.parse_rules.specs.Parsers.{Read, first}
use Rattle.parse_rules.specs.Grammars.{Language}
use Rattle.parse_rules.proofs.Completeness.{LeadsTo, equal, leads_next, leads_passes, leads_fails, leads_first}
use Rattle.c_tree.specs.declared.leaf.Separator.TheVariants as separator
use Rattle.c_tree.specs.Depth.{statement_height}
use Rattle.c_tree.specs.Grammar.{IsOptional, IsStatement, is_open}
use Rattle.c_tree.specs.Spelling.{close_brace, semicolon, expr_spelling, optional_spelling, declaration_spelling, statement_spelling, block_items_spelling}
use Rattle.c_tree.specs.Symbols.{Symbol, Word, Mark, Bare}
use Rattle.c_tree.specs.Tree as tree
use Rattle.c_tree.specs.Words.{TypeNames, InBlock}
use Rattle.c_parse_words.specs.WordRules.{take}
use Rattle.c_parse_words.specs.Tests.{begins_specifier}
use Rattle.c_parse_words.proofs.Starts.{expr_starts, expr_apart}
use Rattle.c_expr_parse.proofs.AllReads.{inner_reads}
use Rattle.c_expr_parse.proofs.ExprReads.{bare_expr}
use Rattle.c_parser.specs.StatementRules.{with_else, for_rest, for_expr, for_declaration, statement_from, statement}
use Rattle.c_parser.specs.Tests.{is_else, statement_start}
use Rattle.c_parser.proofs.BlockReads.{ReadsStatement, declaration_starts, optional_reads, condition_reads, block_items_read}
use Rattle.c_parser.proofs.DeclarationReads.{declaration_reads}
use Rattle.c_parser.proofs.StatementStarts.{expr_no_start}

-- Rows of pieces, flat.

flat : (a : List Symbol) (x : Symbol) (b rest : List Symbol) → (a ++ x ∷ b) ++ rest ≡ a ++ x ∷ (b ++ rest)
flat a x b rest = append_assoc a (x ∷ b) rest

flat_two : (a : List Symbol) (x : Symbol) (b : List Symbol) (y : Symbol) (c rest : List Symbol) → (a ++ x ∷ (b ++ y ∷ c)) ++ rest ≡ a ++ x ∷ (b ++ y ∷ (c ++ rest))
flat_two a x b y c rest = simp append_assoc

flat_three : (a : List Symbol) (x : Symbol) (b : List Symbol) (y : Symbol) (c : List Symbol) (z : Symbol) (e rest : List Symbol) → (a ++ x ∷ (b ++ y ∷ (c ++ z ∷ e))) ++ rest ≡ a ++ x ∷ (b ++ y ∷ (c ++ z ∷ (e ++ rest)))
flat_three a x b y c z e rest = simp append_assoc

flat_declaration : (a b : List Symbol) (y : Symbol) (c : List Symbol) (z : Symbol) (e rest : List Symbol) → (a ++ (b ++ y ∷ (c ++ z ∷ e))) ++ rest ≡ a ++ (b ++ y ∷ (c ++ z ∷ (e ++ rest)))
flat_declaration a b y c z e rest = simp append_assoc

no_specifier : (g : Language) (names : TypeNames) (e : Option tree.Expr) (rest : List Symbol) → IsOptional g names e → begins_specifier names InBlock (first (optional_spelling e ++ Bare separator.Semicolon ∷ rest)) ≡ false
no_specifier g names None rest w = refl
no_specifier g names (Some e) rest w = expr_apart names InBlock _ (expr_starts g names e w (Bare separator.Semicolon ∷ rest))

pub statement_high : (s : tree.Statement) → 1 ≤ statement_height s
statement_high tree.Empty = omega arith
statement_high s = omega arith

module _ (names : TypeNames) (d : ℕ) (g : Language) (inner : ReadsStatement names d g) where
  from_reads : (s : tree.Statement) (rest : List Symbol) → IsStatement g names s → statement_height s ≤ suc d → (is_open s ≡ true → is_else (first rest) ≡ false)
      → LeadsTo g (statement names (suc d) (statement_spelling s ++ rest)) (Read s rest)
  unfolding statement statement_from with_else for_rest for_expr for_declaration take
  from_reads (tree.Block brace items) rest w low ends =
      rw (append_assoc (block_items_spelling items) close_brace rest) (leads_next _ (block_items_read names d g inner false items rest w.0 w.1 (omega arith)) (equal refl))
  from_reads (tree.Express e) rest w low ends =
      rw (append_assoc (expr_spelling e) semicolon rest)
      (leads_first statement_start (statement_from names d (statement names d)) (expr_spelling e ++ Bare separator.Semicolon ∷ rest) (expr_no_start names _ (expr_starts g names e w (Bare separator.Semicolon ∷ rest)))
      (leads_next _ ((inner_reads names d).expr g 0 e (Bare separator.Semicolon ∷ rest) (omega arith) w (omega arith) (omega arith) (bare_expr 0 separator.Semicolon refl)) (equal refl)))
  from_reads tree.Empty rest w low ends = equal refl
  from_reads (tree.If at paren test s) rest w low ends =
      rw (flat (expr_spelling test) (Bare separator.CloseParen) (statement_spelling s) rest)
      (leads_next _ (condition_reads names d g test (statement_spelling s ++ rest) w.0 (omega arith))
      (leads_next _ (inner s rest w.1 (omega arith) (λ _. ends refl)) (leads_fails _ (ends refl) (equal refl))))
  from_reads (tree.IfElse at paren test s other) rest w low ends =
      rw (flat_two (expr_spelling test) (Bare separator.CloseParen) (statement_spelling s) (Bare separator.Else) (statement_spelling other) rest)
      (leads_next _ (condition_reads names d g test (statement_spelling s ++ Bare separator.Else ∷ (statement_spelling other ++ rest)) w.0 (omega arith))
      (leads_next _ (inner s (Bare separator.Else ∷ (statement_spelling other ++ rest)) w.1 (omega arith) (λ h. absurd (true≢false (sym h ∙ w.2))))
      (leads_next _ (inner other rest w.3 (omega arith) ends) (equal refl))))
  from_reads (tree.Switch at paren e brace items) rest w low ends =
      rw (flat_two (expr_spelling e) (Bare separator.CloseParen) [] (Mark mark.OpenBrace brace) (block_items_spelling items ++ close_brace) rest, append_assoc (block_items_spelling items) close_brace rest)
      (leads_next _ (condition_reads names d g e (Mark mark.OpenBrace brace ∷ (block_items_spelling items ++ Bare separator.CloseBrace ∷ rest)) w.0 (omega arith))
      (leads_next _ (block_items_read names d g inner true items rest w.1 w.2 (omega arith)) (equal refl)))
  from_reads (tree.While at paren test s) rest w low ends =
      rw (flat (expr_spelling test) (Bare separator.CloseParen) (statement_spelling s) rest)
      (leads_next _ (condition_reads names d g test (statement_spelling s ++ rest) w.0 (omega arith)) (leads_next _ (inner s rest w.1 (omega arith) ends) (equal refl)))
  from_reads (tree.DoWhile s at paren test) rest w low ends =
      rw (flat_two (statement_spelling s) (Word keyword.While at) (Mark mark.OpenParen paren ∷ expr_spelling test) (Bare separator.CloseParen) semicolon rest)
      (leads_next _ (inner s (Word keyword.While at ∷ Mark mark.OpenParen paren ∷ (expr_spelling test ++ Bare separator.CloseParen ∷ Bare separator.Semicolon ∷ rest)) w.0 (omega arith) (λ _. refl))
      (leads_next _ (condition_reads names d g test (Bare separator.Semicolon ∷ rest) w.1 (omega arith)) (equal refl)))
  from_reads (tree.For at paren start test step s) rest w low ends =
      rw (flat_three (optional_spelling start) (Bare separator.Semicolon) (optional_spelling test) (Bare separator.Semicolon) (optional_spelling step) (Bare separator.CloseParen) (statement_spelling s) rest)
      (leads_fails _ (no_specifier g names start _ w.0)
      (leads_next _ (optional_reads names d g start separator.Semicolon _ refl w.0 (omega arith))
      (leads_next _ (optional_reads names d g test separator.Semicolon _ refl w.1 (omega arith))
      (leads_next _ (optional_reads names d g step separator.CloseParen _ refl w.2 (omega arith)) (leads_next _ (inner s rest w.3 (omega arith) ends) (equal refl))))))
  from_reads (tree.ForDeclaration at paren start test step s) rest w low ends =
      rw (flat_declaration (declaration_spelling start) (optional_spelling test) (Bare separator.Semicolon) (optional_spelling step) (Bare separator.CloseParen) (statement_spelling s) rest)
      (leads_passes _ (declaration_starts g names start _ w.0)
      (leads_next _ (declaration_reads names d g InBlock start _ w.0 (omega arith))
      (leads_next _ (optional_reads names d g test separator.Semicolon _ refl w.1 (omega arith))
      (leads_next _ (optional_reads names d g step separator.CloseParen _ refl w.2 (omega arith)) (leads_next _ (inner s rest w.3 (omega arith) ends) (equal refl))))))
  from_reads (tree.Break at) rest w low ends = equal refl
  from_reads (tree.Continue at) rest w low ends = equal refl
  from_reads (tree.Return at e) rest w low ends =
      rw (append_assoc (optional_spelling e) semicolon rest) (leads_next _ (optional_reads names d g e separator.Semicolon rest refl w (omega arith)) (equal refl))

pub statement_reads : (names : TypeNames) (d : ℕ) (g : Language) → ReadsStatement names d g
statement_reads names zero g s rest w low ends = absurd (omega (arith, statement_high s))
statement_reads names (suc d) g s rest w low ends = from_reads names d g (statement_reads names d g) s rest w low ends
