-- The spelling of what a block holds leads to it, where the statements inside are read.
use Rattle.std.proofs.Common.{◌≡◌, ℕ, ◌≤◌, Bool, true, false, ◌||◌, ◌&&◌, ◌==◌, not, Option, Some, None, List, ◌∷◌, ◌++◌, refl, append_assoc, arith}
use Rattle.cc_base.specs.declared.place.Place.{Place}
use Rattle.c_lexer.specs.declared.word.Keyword.{Keyword}
use Rattle.c_lexer.specs.declared.word.Keyword.TheVariants as keyword
use Rattle.parse_rules.specs.Parsers.{Read, first, next, loop}
use Rattle.parse_rules.specs.Grammars.{Language}
use Rattle.parse_rules.proofs.Completeness.{LeadsTo, equal, ◌▷◌, leads_next, leads_passes, leads_fails, leads_loop, leads_loop_stops}
use Rattle.c_tree.specs.declared.leaf.Separator.{Separator}
use Rattle.c_tree.specs.declared.leaf.Separator.TheVariants as separator
use Rattle.c_tree.specs.Depth.{expr_height, optional_height, statement_height, block_items_height}
use Rattle.c_tree.specs.Grammar.{IsExpr, IsOptional, IsDeclaration, IsStatement, AreBlockItems, is_open, ends_in_label}
use Rattle.c_tree.specs.Spelling.{colon, semicolon, expr_spelling, optional_spelling, specifiers_spelling, init_declarators_spelling, declaration_spelling, statement_spelling, block_items_spelling}
use Rattle.c_tree.specs.Symbols.{Symbol, Word, Bare}
use Rattle.c_tree.specs.Tree as tree
use Rattle.c_tree.specs.Words.{TypeNames, InBlock}
use Rattle.c_parse_words.specs.Tests.{is_comma, begins_specifier, is_specifier_start, specifier_start_of_word}
use Rattle.c_parse_words.proofs.Starts.{expr_starts}
use Rattle.c_expr_parse.proofs.AllReads.{inner_reads}
use Rattle.c_expr_parse.proofs.DeclarationStarts.{and_none, specifiers_start}
use Rattle.c_expr_parse.proofs.ExprReads.{bare_expr}
use Rattle.c_parser.specs.StatementRules.{optional, condition, with_label, next_declaration, next_statement, unlabelled, item_step, end_of_items, block_items, statement}
use Rattle.c_parser.specs.Tests.{is_else, label_start, label_of_keyword, is_label_start, begins_declaration, begins_item}
use Rattle.c_parser.proofs.BlockLaws.{item_steps}
use Rattle.c_parser.proofs.DeclarationReads.{declaration_reads}
use Rattle.c_parser.proofs.StatementDepth.{keeps_statement}
use Rattle.c_parser.proofs.StatementStarts.{or_right, statement_starts, statement_apart}

-- what is known of the statements inside
abbrev pub ReadsStatement : TypeNames → ℕ → Language → Type 0
ReadsStatement names d g = (s : tree.Statement) (rest : List Symbol) → IsStatement g names s → statement_height s ≤ d → (is_open s ≡ true → is_else (first rest) ≡ false) → LeadsTo g (statement names d (statement_spelling s ++ rest)) (Read s rest)

-- A specifier begins no label, and isn't `else`.

specifier_word : (word : Keyword) (at : Place) → is_specifier_start (specifier_start_of_word InBlock word at) ≡ true → is_label_start (label_of_keyword word at) ≡ false
specifier_word keyword.Case at e = cc
specifier_word keyword.Default at e = cc
specifier_word word at e = refl

specifier_no_label : (names : TypeNames) (next : Option Symbol) → begins_specifier names InBlock next ≡ true → is_label_start (label_start next) ≡ false
specifier_no_label names (Some (Word word at)) e = specifier_word word at e
specifier_no_label names next e = refl

specifier_no_else : (names : TypeNames) (next : Option Symbol) → begins_specifier names InBlock next ≡ true → is_else next ≡ false
specifier_no_else names (Some (Bare b)) e = cc
specifier_no_else names next e = refl

pub declaration_starts : (g : Language) (names : TypeNames) (x : tree.Declaration) (rest : List Symbol) → IsDeclaration g names InBlock x → begins_specifier names InBlock (first (declaration_spelling x ++ rest)) ≡ true
declaration_starts g names (tree.Declare specifiers x) rest w = rw (append_assoc (specifiers_spelling specifiers) (init_declarators_spelling x ++ semicolon) rest) (specifiers_start g names InBlock specifiers _ w.0 w.1)

no_declaration : (names : TypeNames) (items : tree.BlockItems) (other : Option Symbol) → begins_specifier names InBlock other ≡ false → begins_declaration names items other ≡ false
no_declaration names items other e = rw e (and_none (not (ends_in_label items)))

a_declaration : (names : TypeNames) (items : tree.BlockItems) (other : Option Symbol) → ends_in_label items ≡ false → begins_specifier names InBlock other ≡ true → begins_declaration names items other ≡ true
a_declaration names items other after e = rw (after, e) refl

or_left : (a b : Bool) → a ≡ true → (a || b) ≡ true
or_left true b e = refl
or_left false b e = cc

no_labels : false ≡ true → ⊥
no_labels e = cc

module _ (names : TypeNames) (d : ℕ) (g : Language) where
  pub optional_reads : (e : Option tree.Expr) (b : Separator) (rest : List Symbol) → (0 == 0 && is_comma (Some (Bare b))) ≡ false → IsOptional g names e → optional_height e ≤ d
      → LeadsTo g (optional names d (optional_spelling e ++ Bare b ∷ rest)) (Read e (Bare b ∷ rest))
  unfolding optional
  optional_reads None b rest ends w low = equal refl
  optional_reads (Some e) b rest ends w low =
      leads_passes _ (expr_starts g names e w (Bare b ∷ rest)) (leads_next _ ((inner_reads names d).expr g 0 e (Bare b ∷ rest) (omega arith) w (omega arith) low (bare_expr 0 b ends)) (equal refl))

  pub condition_reads : (e : tree.Expr) (rest : List Symbol) → IsExpr g names e → expr_height e ≤ d → LeadsTo g (condition names d (expr_spelling e ++ Bare separator.CloseParen ∷ rest)) (Read e rest)
  unfolding condition
  condition_reads e rest w low = leads_next _ ((inner_reads names d).expr g 0 e (Bare separator.CloseParen ∷ rest) (omega arith) w (omega arith) low (bare_expr 0 separator.CloseParen refl)) (equal refl)

  module _ (inner : ReadsStatement names d g) where
    unlabelled_statement : (has_labels : Bool) (items : tree.BlockItems) (s : tree.Statement) (rest : List Symbol) → IsStatement g names s → statement_height s ≤ d → is_else (first rest) ≡ false
        → LeadsTo g (item_step names d (statement names d) has_labels items (statement_spelling s ++ rest)) (Read (tree.AndStatement items s) rest)
    unfolding item_step unlabelled next_statement
    unlabelled_statement true items s rest w low ends =
        let apart = statement_apart names (first (statement_spelling s ++ rest)) (statement_starts g names s rest w) in
        leads_fails _ apart.no_label (leads_fails _ (no_declaration names items _ apart.no_specifier) (leads_next _ (inner s rest w low (λ _. ends)) (equal refl)))
    unlabelled_statement false items s rest w low ends =
        let apart = statement_apart names (first (statement_spelling s ++ rest)) (statement_starts g names s rest w) in
        leads_fails _ (no_declaration names items _ apart.no_specifier) (leads_next _ (inner s rest w low (λ _. ends)) (equal refl))

    unlabelled_declaration : (has_labels : Bool) (items : tree.BlockItems) (x : tree.Declaration) (rest : List Symbol) → ends_in_label items ≡ false → IsDeclaration g names InBlock x → block_items_height (tree.AndDeclaration items x) ≤ d
        → LeadsTo g (item_step names d (statement names d) has_labels items (declaration_spelling x ++ rest)) (Read (tree.AndDeclaration items x) rest)
    unfolding item_step unlabelled next_declaration
    unlabelled_declaration true items x rest after w low =
        let starts = declaration_starts g names x rest w in
        leads_fails _ (specifier_no_label names _ starts) (leads_passes _ (a_declaration names items _ after starts) (leads_next _ (declaration_reads names d g InBlock x rest w (omega arith)) (equal refl)))
    unlabelled_declaration false items x rest after w low =
        let starts = declaration_starts g names x rest w in
        leads_passes _ (a_declaration names items _ after starts) (leads_next _ (declaration_reads names d g InBlock x rest w (omega arith)) (equal refl))

    items_lead : (has_labels : Bool) (x : tree.BlockItems) (rest : List Symbol) → AreBlockItems g names has_labels x → block_items_height x ≤ d → is_else (first rest) ≡ false
        → LeadsTo g (loop (begins_item names has_labels) (item_step names d (statement names d) has_labels) tree.NoBlockItem (block_items_spelling x ++ rest)) (loop (begins_item names has_labels) (item_step names d (statement names d) has_labels) x rest)
    unfolding item_step with_label
    items_lead has_labels tree.NoBlockItem rest w low ends = equal refl
    items_lead has_labels (tree.AndStatement items s) rest w low ends =
        let starts = statement_starts g names s rest w.1 in
        rw (append_assoc (block_items_spelling items) (statement_spelling s) rest)
        (items_lead has_labels items (statement_spelling s ++ rest) w.0 (omega arith) (statement_apart names _ starts).no_else
        ▷ leads_loop (item_steps (keeps_statement names d) has_labels) items (statement_spelling s ++ rest) tt (or_right _ _ (or_right _ _ starts)) (unlabelled_statement has_labels items s rest w.1 (omega arith) ends))
    items_lead has_labels (tree.AndDeclaration items x) rest w low ends =
        let starts = declaration_starts g names x rest w.2 in
        rw (append_assoc (block_items_spelling items) (declaration_spelling x) rest)
        (items_lead has_labels items (declaration_spelling x ++ rest) w.0 (omega arith) (specifier_no_else names _ starts)
        ▷ leads_loop (item_steps (keeps_statement names d) has_labels) items (declaration_spelling x ++ rest) tt (or_right _ _ (or_left _ _ (a_declaration names items _ w.1 starts))) (unlabelled_declaration has_labels items x rest w.1 w.2 low))
    items_lead false (tree.AndCase items at e) rest w low ends = absurd (no_labels w.1)
    items_lead true (tree.AndCase items at e) rest w low ends =
        rw (append_assoc (block_items_spelling items) (Word keyword.Case at ∷ (expr_spelling e ++ colon)) rest, append_assoc (expr_spelling e) colon rest)
        (items_lead true items (Word keyword.Case at ∷ (expr_spelling e ++ Bare separator.Colon ∷ rest)) w.0 (omega arith) refl
        ▷ leads_loop (item_steps (keeps_statement names d) true) items (Word keyword.Case at ∷ (expr_spelling e ++ Bare separator.Colon ∷ rest)) tt refl
        (leads_next _ ((inner_reads names d).expr g 2 e (Bare separator.Colon ∷ rest) (omega arith) w.2 w.3 (omega arith) (bare_expr 2 separator.Colon refl)) (equal refl)))
    items_lead false (tree.AndDefault items at) rest w low ends = absurd (no_labels w.1)
    items_lead true (tree.AndDefault items at) rest w low ends =
        rw (append_assoc (block_items_spelling items) (Word keyword.Default at ∷ colon) rest)
        (items_lead true items (Word keyword.Default at ∷ Bare separator.Colon ∷ rest) w.0 low refl
        ▷ leads_loop (item_steps (keeps_statement names d) true) items (Word keyword.Default at ∷ Bare separator.Colon ∷ rest) tt refl (equal refl))

    -- with the closing brace after them
    pub block_items_read : (has_labels : Bool) (x : tree.BlockItems) (rest : List Symbol) → AreBlockItems g names has_labels x → ends_in_label x ≡ false → block_items_height x ≤ d
        → LeadsTo g (block_items names d (statement names d) has_labels (block_items_spelling x ++ Bare separator.CloseBrace ∷ rest)) (Read x (Bare separator.CloseBrace ∷ rest))
    unfolding block_items end_of_items
    block_items_read has_labels x rest w whole low =
        leads_next _ (items_lead has_labels x (Bare separator.CloseBrace ∷ rest) w low refl
        ▷ leads_loop_stops (begins_item names has_labels) (item_step names d (statement names d) has_labels) x (Bare separator.CloseBrace ∷ rest) (rw (and_none has_labels, and_none (not (ends_in_label x))) refl))
        (rw whole (equal refl))
