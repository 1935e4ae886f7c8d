-- What the rules for blocks keep, where the rule for the statements inside is known.
use Rattle.std.proofs.Common.{◌≡◌, ℕ, ◌≤◌, Bool, true, false, ◌||◌, ◌&&◌, not, cond, None, List, [], ◌∷◌, ◌++◌, refl, ◌∙◌, append-nil, arith}
use Rattle.c_lexer.specs.declared.word.Keyword.TheVariants as keyword
use Rattle.parse_rules.specs.Parsers.{first, by_first, pure, refuse}
use Rattle.parse_rules.specs.Grammars.{Language, Any}
use Rattle.parse_rules.specs.Rules.{Rule}
use Rattle.parse_rules.proofs.Combinators.{rule_pure, rule_refuse, rule_bind, rule_seq, rule_branch, rule_told, rule_weaker, rule_skip_the}
use Rattle.parse_rules.proofs.Loops.{Steps, rule_loop}
use Rattle.c_tree.specs.declared.leaf.Separator.TheVariants as separator
use Rattle.c_tree.specs.Depth.{expr_height, optional_height, statement_height, block_items_height}
use Rattle.c_tree.specs.Grammar.{IsExpr, IsOptional, IsStatement, AreBlockItems, ends_in_label, is_open}
use Rattle.c_tree.specs.Spelling.{close_paren, expr_spelling, optional_spelling, statement_spelling, block_items_spelling}
use Rattle.c_tree.specs.Symbols.{Symbol, Word, Bare}
use Rattle.c_tree.specs.Tree as tree
use Rattle.c_tree.specs.Words.{TypeNames, InBlock}
use Rattle.c_parse_words.specs.Spells.{Spells}
use Rattle.c_parse_words.specs.Tests.{begins_expr, begins_specifier}
use Rattle.c_parse_words.specs.Written.{IsWritten}
use Rattle.c_parse_words.proofs.Closers.{keeps_close_paren, keeps_colon}
use Rattle.c_parse_words.proofs.Written.{written_semicolon}
use Rattle.c_expr_parse.proofs.DeclarationDepth.{inner_keeps}
use Rattle.c_expr_parse.proofs.ExprLaws.{deeper}
use Rattle.c_parser.specs.StatementRules.{optional, condition, with_label, next_declaration, next_statement, unlabelled, item_step, end_of_items, block_items, statement}
use Rattle.c_parser.specs.Tests.{is_else, LabelStart, StartCase, StartDefault, NoLabelStart, label_start, is_label_start, begins_declaration, begins_statement, begins_item}
use Rattle.c_parser.proofs.DeclarationLaws.{keeps_declaration}
use Rattle.c_parser.proofs.StatementTokens.{label_here}

and_none : (b : Bool) → (b && false) ≡ false
and_none true = refl
and_none false = refl

both : (a b : Bool) → (a && b) ≡ true → (a ≡ true) × (b ≡ true)
both true true e = (refl, refl)
both true false e = cc
both false b e = cc

other : (a b : Bool) → a ≡ false → (a || b) ≡ true → b ≡ true
other true b e h = cc
other false b e h = h

not_true : (b : Bool) → not b ≡ true → b ≡ false
not_true true e = cc
not_true false e = refl

abbrev pub StatementIn : TypeNames → Language → tree.Statement → List Symbol → Type 0
StatementIn names g = Spells (IsStatement g names) statement_spelling

-- no `else` follows a statement that would take it
abbrev pub Closed : tree.Statement → List Symbol → Type 0
Closed s rest = is_open s ≡ true → is_else (first rest) ≡ false

-- what is known of the rule for the statements inside
abbrev pub KeepsStatement : TypeNames → ℕ → Type 0
KeepsStatement names d = (moves : Bool) (ts : List Symbol) → (moves ≡ true → begins_statement names (first ts) ≡ true)
    → Rule IsWritten true moves (λ d'. statement names d') d (StatementIn names) (λ s. statement_height s ≤ d) Closed ts

module _ (names : TypeNames) (d : ℕ) where
  pub keeps_optional : (ts : List Symbol) → Rule IsWritten true false (λ d'. optional names d') d (λ g. Spells (IsOptional g names) optional_spelling) (λ e. optional_height e ≤ d) Any ts
  unfolding optional
  keeps_optional ts =
      rule_branch (begins_expr names) refl
      (λ begins. rule_bind (deeper names d (inner_keeps names d) true 0 ts (omega arith) (λ _. begins)) (λ e s1 r1.
      rule_pure (λ g x. record { within = x.within.0; spelled = append-nil s1 ∙ x.spelled }) (λ low. low) tt))
      (λ _. rule_pure (λ g. record { within = tt; spelled = refl }) (omega arith) tt)

  pub keeps_condition : (ts : List Symbol) → Rule IsWritten true false (λ d'. condition names d') d (λ g. Spells (IsExpr g names) (λ e. expr_spelling e ++ close_paren)) (λ e. expr_height e ≤ d) Any ts
  unfolding condition
  keeps_condition ts =
      rule_bind (deeper names d (inner_keeps names d) false 0 ts (omega arith) (λ m. cc)) (λ e s1 r1.
      rule_seq keeps_close_paren (λ t s2 r2.
      rule_pure (λ g closes x. record { within = x.within.0; spelled = rw (x.spelled, closes) refl }) (λ _ low. low) tt))

abbrev pub ItemsIn : TypeNames → Bool → Language → tree.BlockItems → List Symbol → Type 0
ItemsIn names has_labels g = Spells (AreBlockItems g names has_labels) block_items_spelling

module _ {names : TypeNames} {d : ℕ} (inner : KeepsStatement names d) (has_labels : Bool) where
  keeps_label : has_labels ≡ true → (items : tree.BlockItems) (s ts : List Symbol) (x : LabelStart) → label_start (first ts) ≡ x → is_label_start x ≡ true
      → Rule IsWritten true true (λ d'. by_first label_start (with_label names d' items)) d (λ g y s'. ItemsIn names has_labels g items s → ItemsIn names has_labels g y (s ++ s'))
      (λ y. block_items_height items ≤ d → block_items_height y ≤ d) Any ts
  unfolding with_label
  keeps_label labels items s ts (StartCase at) e some =
      rule_told label_start (λ d'. with_label names d' items) e
      (rule_seq (rule_skip_the (Word keyword.Case at) (label_here (first ts) (StartCase at) e)) (λ t s1 r1.
      rule_bind (deeper names d (inner_keeps names d) false 2 r1 (omega arith) (λ m. cc)) (λ e s2 r2.
      rule_seq keeps_colon (λ t s3 r3.
      rule_pure (λ g ends x begun b. record { within = (b.within, labels, x.within.0, x.within.1); spelled = rw (b.spelled, begun, x.spelled, ends) refl }) (λ _ low_x _ low_b. omega arith) tt))))
  keeps_label labels items s ts (StartDefault at) e some =
      rule_told label_start (λ d'. with_label names d' items) e
      (rule_seq (rule_skip_the (Word keyword.Default at) (label_here (first ts) (StartDefault at) e)) (λ t s1 r1.
      rule_seq keeps_colon (λ t s2 r2.
      rule_pure (λ g ends begun b. record { within = (b.within, labels); spelled = rw (b.spelled, begun, ends) refl }) (λ _ _ low_b. low_b) tt)))
  keeps_label labels items s ts NoLabelStart e some = cc

  keeps_unlabelled : (items : tree.BlockItems) (s ts : List Symbol) → (begins_declaration names items (first ts) || begins_statement names (first ts)) ≡ true
      → Rule IsWritten true true (λ d'. unlabelled names d' (statement names d') items) d (λ g y s'. ItemsIn names has_labels g items s → ItemsIn names has_labels g y (s ++ s'))
      (λ y. block_items_height items ≤ d → block_items_height y ≤ d) Any ts
  unfolding unlabelled next_declaration next_statement
  keeps_unlabelled items s ts begins =
      rule_branch (begins_declaration names items) (and_none (not (ends_in_label items)))
      (λ declares. rule_bind (keeps_declaration names d InBlock true ts (λ _. (both (not (ends_in_label items)) (begins_specifier names InBlock (first ts)) declares).1)) (λ x s1 r1.
      rule_pure (λ g u b. record { within = (b.within, not_true (ends_in_label items) (both (not (ends_in_label items)) (begins_specifier names InBlock (first ts)) declares).0, u.within); spelled = rw (b.spelled, u.spelled, append-nil) refl })
      (λ low_u low_b. omega arith) tt))
      (λ none. rule_bind (rule_weaker (λ g x s h. h) (λ x low. low) (λ x rest e. tt) (inner true ts (λ _. other (begins_declaration names items (first ts)) (begins_statement names (first ts)) none begins))) (λ x s1 r1.
      rule_pure (λ g u b. record { within = (b.within, u.within); spelled = rw (b.spelled, u.spelled, append-nil) refl }) (λ low_u low_b. omega arith) tt))

no_item : (names : TypeNames) (has_labels : Bool) (items : tree.BlockItems) → begins_item names has_labels items None ≡ false
no_item names has_labels items = rw (and_none has_labels, and_none (not (ends_in_label items))) refl

module _ {names : TypeNames} {d : ℕ} (inner : KeepsStatement names d) where
  keeps_item : (has_labels : Bool) (items : tree.BlockItems) (s ts : List Symbol) → begins_item names has_labels items (first ts) ≡ true
      → Rule IsWritten true true (λ d'. item_step names d' (statement names d') has_labels items) d (λ g y s'. ItemsIn names has_labels g items s → ItemsIn names has_labels g y (s ++ s'))
      (λ y. block_items_height items ≤ d → block_items_height y ≤ d) Any ts
  unfolding item_step
  keeps_item true items s ts begins =
      rule_branch (λ next. is_label_start (label_start next)) refl
      (λ label. keeps_label inner true refl items s ts (label_start (first ts)) refl label)
      (λ none. keeps_unlabelled inner true items s ts (other (is_label_start (label_start (first ts))) (begins_declaration names items (first ts) || begins_statement names (first ts)) none begins))
  keeps_item false items s ts begins = keeps_unlabelled inner false items s ts begins

  pub item_steps : (has_labels : Bool) → Steps IsWritten true d (begins_item names has_labels) (λ d'. item_step names d' (statement names d') has_labels) (ItemsIn names has_labels) (λ x. block_items_height x ≤ d) Any
  item_steps has_labels = record { never = no_item names has_labels; at_end = λ _. tt; steps = λ items s rest _ goes. keeps_item has_labels items s rest goes }

  -- items of which the last is no label
  abbrev pub WholeItems : Bool → Language → tree.BlockItems → List Symbol → Type 0
  WholeItems has_labels g = Spells (λ x. AreBlockItems g names has_labels x × (ends_in_label x ≡ false)) block_items_spelling

  keeps_end : (has_labels : Bool) (items : tree.BlockItems) (s ts : List Symbol)
      → Rule IsWritten true false (λ d'. end_of_items items) d (λ g y s'. ItemsIn names has_labels g items s → WholeItems has_labels g y (s ++ s')) (λ y. block_items_height items ≤ d → block_items_height y ≤ d) Any ts
  unfolding end_of_items
  keeps_end has_labels items s ts = by_label (ends_in_label items) refl
    where
      by_label : (b : Bool) → ends_in_label items ≡ b
          → Rule IsWritten true false (λ d'. cond b refuse (pure items)) d (λ g y s'. ItemsIn names has_labels g items s → WholeItems has_labels g y (s ++ s')) (λ y. block_items_height items ≤ d → block_items_height y ≤ d) Any ts
      by_label true e = rule_refuse (record {
        part = tree.AndStatement items tree.Empty;
        more = Bare separator.Semicolon ∷ [];
        valid = (written_semicolon, tt);
        spells = λ g b. record { within = ((b.within, tt), refl); spelled = rw (b.spelled) refl };
      })
      by_label false e = rule_pure (λ g b. record { within = (b.within, e); spelled = append-nil s ∙ b.spelled }) (λ low. low) tt

  pub keeps_block_items : (has_labels : Bool) (ts : List Symbol)
      → Rule IsWritten true false (λ d'. block_items names d' (statement names d') has_labels) d (WholeItems has_labels) (λ x. block_items_height x ≤ d) Any ts
  unfolding block_items
  keeps_block_items has_labels ts =
      rule_bind (rule_weaker (λ g x s h. h (record { within = tt; spelled = refl })) (λ x low. low (omega arith)) (λ x rest e. tt)
      (rule_loop (item_steps has_labels) tree.NoBlockItem [] (λ g (u : ItemsIn names has_labels g tree.NoBlockItem []). u) (λ (low : block_items_height tree.NoBlockItem ≤ d). low) tt)) (λ items s rest.
      keeps_end has_labels items s rest)
