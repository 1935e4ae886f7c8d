-- What the rules for statements keep (C99 6.8).
use Rattle.std.proofs.Common.{◌≡◌, ℕ, suc, ◌≤◌, Bool, true, false, ◌||◌, Option, List, [], ◌∷◌, ◌++◌, refl, sym, ◌∙◌, subst, append_assoc, append-nil, true≢false, arith}
use Rattle.cc_base.specs.declared.place.Place.{Place}
use Rattle.c_lexer.specs.declared.word.Keyword.TheVariants as keyword
use Rattle.c_lexer.specs.declared.punctuator.Punctuator.TheVariants as mark
use Rattle.parse_rules.specs.Parsers.{first, by_first}
use Rattle.parse_rules.specs.Grammars.{Any}
use Rattle.parse_rules.specs.Rules.{Rule}
use Rattle.parse_rules.proofs.Combinators.{rule_pure, rule_bind, rule_bind_ends, rule_seq, rule_branch, rule_told, rule_told_end, rule_weaker, rule_skip_the}
use Rattle.c_tree.specs.declared.leaf.Separator.TheVariants as separator
use Rattle.c_tree.specs.Depth.{expr_height, optional_height, statement_height}
use Rattle.c_tree.specs.Grammar.{IsExpr, IsOptional, is_open}
use Rattle.c_tree.specs.Spelling.{close_paren, semicolon, expr_spelling, optional_spelling}
use Rattle.c_tree.specs.Symbols.{Symbol, Word, Mark, Bare}
use Rattle.c_tree.specs.Tree as tree
use Rattle.c_tree.specs.Words.{TypeNames, InBlock}
use Rattle.c_parse_words.specs.Spells.{Spells}
use Rattle.c_parse_words.specs.Tests.{open_paren, open_brace, begins_expr, begins_specifier}
use Rattle.c_parse_words.specs.Written.{IsWritten}
use Rattle.c_parse_words.proofs.Closers.{keeps_close_paren, keeps_close_brace, keeps_semicolon}
use Rattle.c_parse_words.specs.WordRules.{take}
use Rattle.c_parse_words.proofs.Take.{IsTold, rule_take}
use Rattle.c_parse_words.proofs.Written.{some_place, written_open_brace}
use Rattle.c_expr_parse.proofs.DeclarationDepth.{inner_keeps}
use Rattle.c_expr_parse.proofs.ExprLaws.{deeper}
use Rattle.c_parser.specs.StatementRules.{with_else, for_rest, for_expr, for_declaration, statement_from, statement}
use Rattle.c_parser.specs.Tests.{is_else, while_word, StatementStart, StartBlock, StartEmpty, StartIf, StartSwitch, StartWhile, StartDo, StartFor, StartBreak, StartContinue, StartReturn, NoStatementStart, statement_start, is_statement_start, begins_statement}
use Rattle.c_parser.proofs.BlockLaws.{StatementIn, Closed, KeepsStatement, keeps_optional, keeps_condition, keeps_block_items}
use Rattle.c_parser.proofs.DeclarationLaws.{keeps_declaration}
use Rattle.c_parser.proofs.StatementTokens.{start_here, else_here, tells_open_paren, tells_open_brace, tells_while, written_open_paren, written_while}

-- a statement that no `else` can follow is closed
not_open : (s : tree.Statement) (rest : List Symbol) → is_open s ≡ false → Closed s rest
not_open s rest e h = absurd (true≢false (sym h ∙ e))

closed_at_else : (s : tree.Statement) (rest : List Symbol) → Closed s rest → is_else (first rest) ≡ true → is_open s ≡ false
closed_at_else s rest closed e = by_test (is_open s) refl
  where
    by_test : (b : Bool) → is_open s ≡ b → is_open s ≡ false
    by_test true h = absurd (true≢false (sym e ∙ closed h))
    by_test false h = h

module _ {names : TypeNames} {d : ℕ} (inner : KeepsStatement names d) where
  keeps_else : (at paren : Place) (test : tree.Expr) (s : tree.Statement) (s0 s1 s2 s3 ts : List Symbol) → Closed s ts
      → Rule IsWritten true false (λ d'. with_else (statement names d') at paren test s) d
      (λ g y s'. StatementIn names g s s3 → Spells (IsExpr g names) (λ e. expr_spelling e ++ close_paren) test s2 → (s1 ≡ Mark mark.OpenParen paren ∷ []) → (s0 ≡ Word keyword.If at ∷ []) → StatementIn names g y (s0 ++ (s1 ++ (s2 ++ (s3 ++ s')))))
      (λ y. statement_height s ≤ d → expr_height test ≤ d → Unit {0} → Unit {0} → statement_height y ≤ suc d) Closed ts
  unfolding with_else
  keeps_else at paren test s s0 s1 s2 s3 ts closed =
      rule_branch is_else refl
      (λ comes. rule_seq (rule_skip_the (Bare separator.Else) (else_here (first ts) comes)) (λ t s4 r4.
      rule_bind_ends (inner false r4 (λ m. cc)) (λ x h. refl) (λ other s5 r5 ends.
      rule_pure (λ g o e b c opens begun. record { within = (c.within, b.within, closed_at_else s ts closed comes, o.within); spelled = rw (begun, opens, c.spelled, b.spelled, e, o.spelled, append-nil) (simp append_assoc) })
      (λ low_o _ low_s low_c _ _. omega arith) ends)))
      (λ none. rule_pure (λ g b c opens begun. record { within = (c.within, b.within); spelled = rw (begun, opens, c.spelled, b.spelled, append-nil) (simp append_assoc) }) (λ low_s low_c _ _. omega arith) (λ _. none))

  keeps_paren : {ts : List Symbol} → Rule IsWritten true false (λ d'. take open_paren) d (λ _. IsTold open_paren (λ at. Mark mark.OpenParen at)) (λ _. Unit {0}) Any ts
  keeps_paren = rule_take open_paren (λ at. Mark mark.OpenParen at) tells_open_paren some_place (written_open_paren some_place) refl

  -- of a `for`, after `for` and `(`
  keeps_for_rest : (at paren : Place) (start : Option tree.Expr) (s0 s1 s2 ts : List Symbol)
      → Rule IsWritten true false (λ d'. for_rest names d' (statement names d') (tree.For at paren start)) d
      (λ g y s'. Spells (IsOptional g names) (λ e. optional_spelling e ++ semicolon) start s2 → (s1 ≡ Mark mark.OpenParen paren ∷ []) → (s0 ≡ Word keyword.For at ∷ []) → StatementIn names g y (s0 ++ (s1 ++ (s2 ++ s'))))
      (λ y. optional_height start ≤ d → Unit {0} → Unit {0} → statement_height y ≤ suc d) Closed ts
  unfolding for_rest
  keeps_for_rest at paren start s0 s1 s2 ts =
      rule_bind (keeps_optional names d ts) (λ test s3 r3.
      rule_seq keeps_semicolon (λ t s4 r4.
      rule_bind (keeps_optional names d r4) (λ step s5 r5.
      rule_seq keeps_close_paren (λ u s6 r6.
      rule_bind_ends (inner false r6 (λ m. cc)) (λ x h. refl) (λ s s7 r7 ends.
      rule_pure (λ g b closes st semi te start_in opens begun. record {
        within = (start_in.within, te.within, st.within, b.within);
        spelled = rw (begun, opens, start_in.spelled, te.spelled, semi, st.spelled, closes, b.spelled, append-nil) (simp append_assoc);
      }) (λ low_s _ low_st _ low_te low_start _ _. omega arith) ends)))))

  keeps_for_expr : (at paren : Place) (s0 s1 ts : List Symbol)
      → Rule IsWritten true false (λ d'. for_expr names d' (statement names d') at paren) d
      (λ g y s'. (s1 ≡ Mark mark.OpenParen paren ∷ []) → (s0 ≡ Word keyword.For at ∷ []) → StatementIn names g y (s0 ++ (s1 ++ s'))) (λ y. Unit {0} → Unit {0} → statement_height y ≤ suc d) Closed ts
  unfolding for_expr
  keeps_for_expr at paren s0 s1 ts =
      rule_bind (keeps_optional names d ts) (λ start s2 r2.
      rule_seq keeps_semicolon (λ t s3 r3.
      rule_weaker
      (λ g y s' h semi start_in opens begun. simp append_assoc at (h (record { within = start_in.within; spelled = rw (start_in.spelled, semi) refl }) opens begun))
      (λ y low _ low_start _ _. low low_start tt tt) (λ y rest e. e) (keeps_for_rest at paren start s0 s1 (s2 ++ s3) r3)))

  keeps_for_declaration : (at paren : Place) (s0 s1 ts : List Symbol) → begins_specifier names InBlock (first ts) ≡ true
      → Rule IsWritten true true (λ d'. for_declaration names d' (statement names d') at paren) d
      (λ g y s'. (s1 ≡ Mark mark.OpenParen paren ∷ []) → (s0 ≡ Word keyword.For at ∷ []) → StatementIn names g y (s0 ++ (s1 ++ s'))) (λ y. Unit {0} → Unit {0} → statement_height y ≤ suc d) Closed ts
  unfolding for_declaration for_rest
  keeps_for_declaration at paren s0 s1 ts begins =
      rule_bind (keeps_declaration names d InBlock true ts (λ _. begins)) (λ start s2 r2.
      rule_bind (keeps_optional names d r2) (λ test s3 r3.
      rule_seq keeps_semicolon (λ t s4 r4.
      rule_bind (keeps_optional names d r4) (λ step s5 r5.
      rule_seq keeps_close_paren (λ u s6 r6.
      rule_bind_ends (inner false r6 (λ m. cc)) (λ x h. refl) (λ s s7 r7 ends.
      rule_pure (λ g b closes st semi te start_in opens begun. record {
        within = (start_in.within, te.within, st.within, b.within);
        spelled = rw (begun, opens, start_in.spelled, te.spelled, semi, st.spelled, closes, b.spelled, append-nil) refl;
      }) (λ low_s _ low_st _ low_te low_start _ _. omega arith) ends))))))

  pub keeps_from : (x : StatementStart) (moves : Bool) (ts : List Symbol) → statement_start (first ts) ≡ x → (moves ≡ true → begins_statement names (first ts) ≡ true)
      → Rule IsWritten true moves (λ d'. by_first statement_start (statement_from names d' (statement names d'))) d (StatementIn names) (λ s. statement_height s ≤ suc d) Closed ts
  unfolding statement_from
  keeps_from (StartBlock brace) moves ts e moved =
      rule_told statement_start (λ d'. statement_from names d' (statement names d')) e
      (rule_seq (rule_skip_the (Mark mark.OpenBrace brace) (start_here (first ts) (StartBlock brace) e)) (λ t s1 r1.
      rule_bind (keeps_block_items inner false r1) (λ items s2 r2.
      rule_seq keeps_close_brace (λ u s3 r3.
      rule_pure (λ g closes b opens. record { within = (b.within.0, b.within.1); spelled = rw (opens, b.spelled, closes) refl }) (λ _ low_b _. omega arith) (λ h. cc)))))
  keeps_from StartEmpty moves ts e moved =
      rule_told statement_start (λ d'. statement_from names d' (statement names d')) e
      (rule_seq (rule_skip_the (Bare separator.Semicolon) (start_here (first ts) StartEmpty e)) (λ t s1 r1.
      rule_pure (λ g is. record { within = tt; spelled = rw is refl }) (λ _. omega arith) (λ h. cc)))
  keeps_from (StartIf at) moves ts e moved =
      rule_told statement_start (λ d'. statement_from names d' (statement names d')) e
      (rule_seq (rule_skip_the (Word keyword.If at) (start_here (first ts) (StartIf at) e)) (λ t s0 r0.
      rule_bind keeps_paren (λ paren s1 r1.
      rule_bind (keeps_condition names d r1) (λ test s2 r2.
      rule_bind_ends (inner false r2 (λ m. cc)) (λ x h. refl) (λ s s3 r3 ends.
      rule_weaker (λ g y s' h b c told begun. h b c told.spelled begun) (λ y low. low) (λ y rest x. x) (keeps_else at paren test s s0 s1 s2 s3 r3 ends))))))
  keeps_from (StartSwitch at) moves ts e moved =
      rule_told statement_start (λ d'. statement_from names d' (statement names d')) e
      (rule_seq (rule_skip_the (Word keyword.Switch at) (start_here (first ts) (StartSwitch at) e)) (λ t s0 r0.
      rule_bind keeps_paren (λ paren s1 r1.
      rule_bind (keeps_condition names d r1) (λ test s2 r2.
      rule_bind (rule_take open_brace (λ at. Mark mark.OpenBrace at) tells_open_brace some_place (written_open_brace some_place) refl) (λ brace s3 r3.
      rule_bind (keeps_block_items inner true r3) (λ items s4 r4.
      rule_seq keeps_close_brace (λ u s5 r5.
      rule_pure (λ g closes b opens c paren_in begun. record {
        within = (c.within, b.within.0, b.within.1);
        spelled = rw (begun, paren_in.spelled, c.spelled, opens.spelled, b.spelled, closes) (simp append_assoc);
      }) (λ _ low_b _ low_c _ _. omega arith) (λ h. cc))))))))
  keeps_from (StartWhile at) moves ts e moved =
      rule_told statement_start (λ d'. statement_from names d' (statement names d')) e
      (rule_seq (rule_skip_the (Word keyword.While at) (start_here (first ts) (StartWhile at) e)) (λ t s0 r0.
      rule_bind keeps_paren (λ paren s1 r1.
      rule_bind (keeps_condition names d r1) (λ test s2 r2.
      rule_bind_ends (inner false r2 (λ m. cc)) (λ x h. refl) (λ s s3 r3 ends.
      rule_pure (λ g b c told begun. record { within = (c.within, b.within); spelled = rw (begun, told.spelled, c.spelled, b.spelled, append-nil) (simp append_assoc) }) (λ low_s low_c _ _. omega arith) ends)))))
  keeps_from StartDo moves ts e moved =
      rule_told statement_start (λ d'. statement_from names d' (statement names d')) e
      (rule_seq (rule_skip_the (Bare separator.Do) (start_here (first ts) StartDo e)) (λ t s0 r0.
      rule_bind (rule_weaker (λ g x s h. h) (λ x low. low) (λ x rest h. tt) (inner false r0 (λ m. cc))) (λ s s1 r1.
      rule_bind (rule_take while_word (λ at. Word keyword.While at) tells_while some_place (written_while some_place) refl) (λ at s2 r2.
      rule_bind keeps_paren (λ paren s3 r3.
      rule_bind (keeps_condition names d r3) (λ test s4 r4.
      rule_seq keeps_semicolon (λ u s5 r5.
      rule_pure (λ g ends c told while_in b begun. record {
        within = (b.within, c.within);
        spelled = rw (begun, b.spelled, while_in.spelled, told.spelled, c.spelled, ends) (simp append_assoc);
      }) (λ _ low_c _ _ low_s _. omega arith) (λ h. cc))))))))
  keeps_from (StartFor at) moves ts e moved =
      rule_told statement_start (λ d'. statement_from names d' (statement names d')) e
      (rule_seq (rule_skip_the (Word keyword.For at) (start_here (first ts) (StartFor at) e)) (λ t s0 r0.
      rule_bind keeps_paren (λ paren s1 r1.
      rule_weaker (λ g y s' h told begun. h told.spelled begun) (λ y low. low) (λ y rest x. x)
      (rule_branch (begins_specifier names InBlock) refl (λ begins. keeps_for_declaration at paren s0 s1 r1 begins) (λ _. keeps_for_expr at paren s0 s1 r1)))))
  keeps_from (StartBreak at) moves ts e moved =
      rule_told statement_start (λ d'. statement_from names d' (statement names d')) e
      (rule_seq (rule_skip_the (Word keyword.Break at) (start_here (first ts) (StartBreak at) e)) (λ t s0 r0.
      rule_seq keeps_semicolon (λ u s1 r1.
      rule_pure (λ g ends begun. record { within = tt; spelled = rw (begun, ends) refl }) (λ _ _. omega arith) (λ h. cc))))
  keeps_from (StartContinue at) moves ts e moved =
      rule_told statement_start (λ d'. statement_from names d' (statement names d')) e
      (rule_seq (rule_skip_the (Word keyword.Continue at) (start_here (first ts) (StartContinue at) e)) (λ t s0 r0.
      rule_seq keeps_semicolon (λ u s1 r1.
      rule_pure (λ g ends begun. record { within = tt; spelled = rw (begun, ends) refl }) (λ _ _. omega arith) (λ h. cc))))
  keeps_from (StartReturn at) moves ts e moved =
      rule_told statement_start (λ d'. statement_from names d' (statement names d')) e
      (rule_seq (rule_skip_the (Word keyword.Return at) (start_here (first ts) (StartReturn at) e)) (λ t s0 r0.
      rule_bind (keeps_optional names d r0) (λ value s1 r1.
      rule_seq keeps_semicolon (λ u s2 r2.
      rule_pure (λ g ends v begun. record { within = v.within; spelled = rw (begun, v.spelled, ends) refl }) (λ _ low_v _. omega arith) (λ h. cc)))))
  keeps_from NoStatementStart moves ts e moved =
      rule_told_end statement_start (λ d'. statement_from names d' (statement names d')) e
      (rule_bind (deeper names d (inner_keeps names d) moves 0 ts (omega arith) (λ m. subst (λ x. (is_statement_start x || begins_expr names (first ts)) ≡ true) e (moved m))) (λ x s1 r1.
      rule_seq keeps_semicolon (λ u s2 r2.
      rule_pure (λ g ends v. record { within = v.within.0; spelled = rw (v.spelled, ends) refl }) (λ _ low_v. omega arith) (λ h. cc))))
