-- What the rules for units keep (C99 6.9).
use Rattle.std.proofs.Common.{◌≡◌, ℕ, zero, suc, ◌≤◌, true, false, Option, Some, None, is_some, List, [], ◌∷◌, ◌++◌, refl, sym, ap, subst, append_assoc, append-nil, arith}
use Rattle.cc_base.specs.declared.place.Place.{Place}
use Rattle.c_lexer.specs.declared.punctuator.Punctuator.TheVariants as mark
use Rattle.parse_rules.specs.Parsers.{Read, Stopped, Syntax, first, by_first}
use Rattle.parse_rules.specs.Grammars.{Language, CanBegin, InBoth, Any}
use Rattle.parse_rules.specs.Rules.{Instead, alike, nothing, Rule}
use Rattle.parse_rules.proofs.Combinators.{rule_pure, rule_bind, rule_seq, rule_branch, rule_told, rule_told_end, rule_weaker, rule_deeper, rule_shallow, rule_uncut}
use Rattle.parse_rules.proofs.Loops.{Steps, rule_loop}
use Rattle.c_tree.specs.declared.leaf.Separator.TheVariants as separator
use Rattle.c_tree.specs.Depth.{specifier_list_height, declarator_height, init_declarators_height, unit_height}
use Rattle.c_tree.specs.Grammar.{WithName, names_after, type_names, IsUnit}
use Rattle.c_tree.specs.Spelling.{semicolon, specifiers_spelling, init_declarators_spelling, unit_spelling}
use Rattle.c_tree.specs.Symbols.{Symbol, Mark, Bare}
use Rattle.c_tree.specs.Tree as tree
use Rattle.c_tree.specs.Words.{AtFile, has_typedef}
use Rattle.c_parse_words.specs.WordRules.{take}
use Rattle.c_parse_words.specs.Spells.{Spells}
use Rattle.c_parse_words.specs.Tests.{open_brace, equals_sign, begins_specifier, begins_declarator}
use Rattle.c_parse_words.specs.Written.{IsWritten}
use Rattle.c_parse_words.proofs.Closers.{keeps_close_brace, keeps_semicolon}
use Rattle.c_parse_words.proofs.Take.{rule_take_here}
use Rattle.c_parse_words.proofs.TokenLaws.{open_brace_here}
use Rattle.c_parse_words.proofs.Written.{some_place, written_open_brace, written_close_brace}
use Rattle.c_expr_parse.specs.Parts.{SpellsSpecifiers, SpellsDeclarator}
use Rattle.c_expr_parse.proofs.DeclarationDepth.{inner_keeps}
use Rattle.c_parser.specs.UnitRules.{function_body, after_declarator, external, at_end, unit_rule}
use Rattle.c_parser.proofs.BlockLaws.{keeps_block_items}
use Rattle.c_parser.proofs.DeclarationLaws.{InitIn, keeps_with, keeps_from}
use Rattle.c_parser.proofs.StatementDepth.{keeps_statement}
use Rattle.c_parser.proofs.StatementTokens.{tells_open_brace}

some_same : {X : Type 0} {x y : X} → Some x ≡ Some y → x ≡ y
some_same e = cc

nothing_there : {X : Type 0} (o : Option X) → is_some o ≡ false → o ≡ None
nothing_there None e = refl
nothing_there (Some x) e = cc

abbrev pub UnitIn : Language → tree.TranslationUnit → List Symbol → Type 0
UnitIn g = Spells (IsUnit g) unit_spelling

-- what stands before the body of a function
abbrev Headed : tree.TranslationUnit → tree.Specifiers → tree.Declarator → (s s1 s2 : List Symbol) → Language → tree.TranslationUnit → List Symbol → Type 0
Headed unit specifiers x s s1 s2 g y s' =
    SpellsDeclarator (type_names unit) WithName g x s2 → SpellsSpecifiers (type_names unit) AtFile g specifiers s1 → UnitIn g unit s → UnitIn g y (s ++ (s1 ++ (s2 ++ s')))

module _ (unit : tree.TranslationUnit) (specifiers : tree.Specifiers) (x : tree.Declarator) (s s1 s2 : List Symbol) where
  empty_body : (at : Place) → (g : Language) → Headed unit specifiers x s s1 s2 g (tree.AndFunctionBody unit specifiers x at tree.NoBlockItem) (Mark mark.OpenBrace at ∷ Bare separator.CloseBrace ∷ [])
  empty_body at g x_in specs unit_in = record { within = (unit_in.within, specs.within.0, specs.within.1, x_in.within, tt, refl); spelled = rw (unit_in.spelled, specs.spelled, x_in.spelled) refl }

  with_brace : (t : Symbol) (o : Option Place) → open_brace (Some t) ≡ o → is_some o ≡ true → CanBegin IsWritten (InBoth (Headed unit specifiers x s s1 s2)) (t ∷ [])
  with_brace t (Some at) e some = record {
    part = tree.AndFunctionBody unit specifiers x at tree.NoBlockItem;
    more = Bare separator.CloseBrace ∷ [];
    valid = (written_close_brace, tt);
    spells = λ g. subst (λ u. Headed unit specifiers x s s1 s2 g (tree.AndFunctionBody unit specifiers x at tree.NoBlockItem) (u ∷ Bare separator.CloseBrace ∷ [])) (sym (some_same (open_brace_here (Some t) at e))) (empty_body at g);
  }
  with_brace t None e some = cc

  body_refuses : (d : ℕ) (ts : List Symbol) → is_some (open_brace (first ts)) ≡ false → function_body unit specifiers x d ts ≡ Stopped Syntax ts
  unfolding function_body take
  body_refuses zero ts none = rw none refl
  body_refuses (suc d) ts none = rw (nothing_there (open_brace (first ts)) none) refl

  keeps_body : (d : ℕ) (ts : List Symbol) → is_some (open_brace (first ts)) ≡ true
      → Rule IsWritten true true (λ d'. function_body unit specifiers x d') d (Headed unit specifiers x s s1 s2)
      (λ y. declarator_height x ≤ d → specifier_list_height specifiers ≤ d → unit_height unit ≤ d → unit_height y ≤ d) Any ts
  unfolding function_body
  keeps_body zero ts some =
      rule_shallow (λ next. is_some (open_brace next)) refl (λ _. some) (λ ts' h. rw h refl) (λ d' ts' none. body_refuses d' ts' none)
      (record {
        part = tree.AndFunctionBody unit specifiers x some_place tree.NoBlockItem;
        more = Mark mark.OpenBrace some_place ∷ Bare separator.CloseBrace ∷ [];
        valid = (written_open_brace some_place, (written_close_brace, tt));
        spells = λ g. empty_body some_place g;
      })
      (λ t h. with_brace t (open_brace (Some t)) refl h)
  keeps_body (suc d) ts some =
      rule_deeper
      (rule_bind (rule_take_here open_brace (λ at. Mark mark.OpenBrace at) tells_open_brace some) (λ brace s3 r3.
      rule_bind (keeps_block_items (keeps_statement (names_after (has_typedef specifiers) (type_names unit) x) d) false r3) (λ items s4 r4.
      rule_seq keeps_close_brace (λ t s5 r5.
      rule_pure (λ g closes b opens x_in specs unit_in. record {
        within = (unit_in.within, specs.within.0, specs.within.1, x_in.within, b.within.0, b.within.1);
        spelled = rw (unit_in.spelled, specs.spelled, x_in.spelled, opens.spelled, b.spelled, closes) refl;
      }) (λ _ low_b _ low_x low_s low_u. omega arith) tt))))

-- a declaration whose declarators were read in three pieces
three_pieces : (a b c e f z : List Symbol) → (c ++ e) ++ f ≡ z → a ++ (b ++ (c ++ (e ++ (f ++ semicolon)))) ≡ a ++ (b ++ (z ++ semicolon))
three_pieces a b c e f z is = rw (← is) (simp append_assoc)

module _ (d : ℕ) (unit : tree.TranslationUnit) (specifiers : tree.Specifiers) where
  -- after the first declarator
  keeps_after : (x : tree.Declarator) (s s1 s2 ts : List Symbol) (o : Option Place) → open_brace (first ts) ≡ o
      → Rule IsWritten true false (λ d'. by_first open_brace (after_declarator d' unit specifiers x)) d (Headed unit specifiers x s s1 s2)
      (λ y. declarator_height x ≤ d → specifier_list_height specifiers ≤ d → unit_height unit ≤ d → unit_height y ≤ d) Any ts
  unfolding after_declarator
  keeps_after x s s1 s2 ts (Some brace) e =
      rule_told open_brace (λ d'. after_declarator d' unit specifiers x) e (keeps_body unit specifiers x s s1 s2 d ts (ap (λ o. is_some o) e))
  keeps_after x s s1 s2 ts None e =
      rule_told_end open_brace (λ d'. after_declarator d' unit specifiers x) e
      (rule_bind (keeps_with (has_typedef specifiers) tree.NoInitDeclarator x [] s2 ts (equals_sign (first ts)) refl) (λ start s3 r3.
      rule_bind (keeps_from (has_typedef specifiers) {Start = λ g. InitIn (type_names unit) (has_typedef specifiers) g start (s2 ++ s3)} start (s2 ++ s3) r3 (λ g u. u) (λ (low : init_declarators_height start ≤ d). low)) (λ declarators s4 r4.
      rule_seq keeps_semicolon (λ t s5 r5.
      rule_pure (λ g ends more one x_in specs unit_in. with_it g declarators s3 s4 s5 ends unit_in specs (more (one x_in (record { within = tt; spelled = refl }))))
      (λ _ low_more low_one low_x low_s low_u. low_it declarators (low_more (low_one low_x (omega arith))) low_s low_u) tt))))
    where
      with_it : (g : Language) (y : tree.InitDeclarators) (s3 s4 s5 : List Symbol) → s5 ≡ Bare separator.Semicolon ∷ [] → UnitIn g unit s → SpellsSpecifiers (type_names unit) AtFile g specifiers s1 → InitIn (type_names unit) (has_typedef specifiers) g y ((s2 ++ s3) ++ s4)
          → UnitIn g (tree.AndExternal unit (tree.Declare specifiers y)) (s ++ (s1 ++ (s2 ++ (s3 ++ (s4 ++ (s5 ++ []))))))
      with_it g y s3 s4 s5 ends unit_in specs v = record {
        within = (unit_in.within, (specs.within.0, specs.within.1, v.within.0));
        spelled = rw (unit_in.spelled, specs.spelled, ends) (three_pieces (unit_spelling unit) (specifiers_spelling specifiers) s2 s3 s4 (init_declarators_spelling y) v.spelled);
      }

      low_it : (y : tree.InitDeclarators) → init_declarators_height y ≤ d → specifier_list_height specifiers ≤ d → unit_height unit ≤ d → unit_height (tree.AndExternal unit (tree.Declare specifiers y)) ≤ d
      low_it y low_y low_s low_u = omega arith

-- one declaration or function
pub external_steps : (d : ℕ) → Steps IsWritten true d (λ unit. begins_specifier (type_names unit) AtFile) external UnitIn (λ x. unit_height x ≤ d) Any
unfolding external
external_steps d = record {
  never = λ unit. refl;
  at_end = λ _. tt;
  steps = λ unit s rest _ goes.
      rule_bind ((inner_keeps (type_names unit) d).specifiers AtFile true rest (λ _. goes)) (λ specifiers s1 r1.
      rule_branch (begins_declarator (type_names unit) WithName) refl
      (λ begins. rule_bind ((inner_keeps (type_names unit) d).declarator WithName true r1 (λ _. begins)) (λ x s2 r2.
      keeps_after d unit specifiers x s s1 s2 r2 (open_brace (first r2)) refl))
      (λ _. rule_seq keeps_semicolon (λ t s2 r2.
      rule_pure (λ g ends specs unit_in. record { within = (unit_in.within, (specs.within.0, specs.within.1, tt)); spelled = rw (unit_in.spelled, specs.spelled, ends) refl }) (λ _ low_s low_u. omega arith) tt)));
}

-- nothing is left after a unit
pub IsLast : tree.TranslationUnit → List Symbol → Type 0
IsLast unit rest = rest ≡ []

keeps_end : (d : ℕ) (unit : tree.TranslationUnit) (s ts : List Symbol)
    → Rule IsWritten false false (λ d'. at_end unit) d (λ g y s'. UnitIn g unit s → UnitIn g y (s ++ s')) (λ y. unit_height unit ≤ d → unit_height y ≤ d) IsLast ts
unfolding at_end IsLast
keeps_end d unit s [] = record { kept = record { pre = []; whole = refl; moved = λ h _. cc; spells = λ g u. rw (append-nil s) u; low = λ low. low; ends = refl; again = λ d' rest' _ near. here rest' near } }
  where
    here : (rest' : List Symbol) → Instead false [] rest' → at_end unit rest' ≡ Read unit rest'
    here rest' (alike e) = rw e refl
    here rest' (nothing h _) = cc
keeps_end d unit s (t ∷ ts) = record {
  kept = record {
    pre = [];
    whole = refl;
    moved = λ h _. cc;
    begins = record { part = unit; more = []; valid = tt; spells = λ g u. rw (append-nil s) u };
    again = λ d' rest' _ near. here rest' near;
  };
}
  where
    here : (rest' : List Symbol) → Instead false (t ∷ ts) rest' → at_end unit rest' ≡ Stopped Syntax rest'
    here rest' (alike e) = rw e refl
    here rest' (nothing h _) = cc

pub keeps_unit : (d : ℕ) (ts : List Symbol) → Rule IsWritten false false (λ d'. unit_rule d') d UnitIn (λ x. unit_height x ≤ d) IsLast ts
unfolding unit_rule
keeps_unit d ts =
    rule_bind (rule_uncut (rule_weaker (λ g x s h. h (record { within = tt; spelled = refl })) (λ x low. low (omega arith)) (λ x rest e. tt)
    (rule_loop (external_steps d) tree.NoExternal [] (λ g (u : UnitIn g tree.NoExternal []). u) (λ (low : unit_height tree.NoExternal ≤ d). low) tt))) (λ unit s rest.
    keeps_end d unit s rest)

-- a unit is read only at the end
pub unit_to_end : (unit : tree.TranslationUnit) (rest : List Symbol) → IsLast unit rest → rest ≡ []
unfolding IsLast
unit_to_end unit rest e = e
