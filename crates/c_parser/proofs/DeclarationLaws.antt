-- What the rules for declarations keep.
use Rattle.std.proofs.Common.{◌≡◌, ℕ, ◌≤◌, Bool, true, false, Option, Some, None, List, [], ◌++◌, refl, sym, subst, append_assoc, append-nil, arith}
use Rattle.cc_base.specs.declared.place.Place.{Place}
use Rattle.c_lexer.specs.declared.punctuator.Punctuator.TheVariants as mark
use Rattle.parse_rules.specs.Parsers.{first, by_first, skip, ◌>>◌}
use Rattle.parse_rules.specs.Grammars.{Language, Any}
use Rattle.parse_rules.specs.Rules.{Rule}
use Rattle.parse_rules.proofs.Combinators.{rule_pure, rule_bind, rule_seq, rule_branch, rule_told, rule_told_end, rule_weaker, rule_skip_the}
use Rattle.parse_rules.proofs.Loops.{Steps, rule_loop}
use Rattle.c_tree.specs.declared.leaf.Separator.TheVariants as separator
use Rattle.c_tree.specs.Depth.{declarator_height, init_declarators_height, declaration_height}
use Rattle.c_tree.specs.Grammar.{WithName, AreInitDeclarators, IsDeclaration, names_after, names_after_all}
use Rattle.c_tree.specs.Spelling.{comma, init_declarators_spelling, before_init_declarator, declaration_spelling}
use Rattle.c_tree.specs.Symbols.{Symbol, Mark, Bare}
use Rattle.c_tree.specs.Tree as tree
use Rattle.c_tree.specs.Words.{TypeNames, Scope, has_typedef}
use Rattle.c_parse_words.specs.Spells.{Spells}
use Rattle.c_parse_words.specs.Tests.{is_comma, equals_sign, begins_specifier, begins_declarator}
use Rattle.c_parse_words.specs.Written.{IsWritten}
use Rattle.c_parse_words.proofs.Closers.{keeps_semicolon}
use Rattle.c_parse_words.proofs.TokenLaws.{comma_here, equals_sign_here}
use Rattle.c_expr_parse.specs.Parts.{SpellsDeclarator}
use Rattle.c_expr_parse.proofs.DeclarationDepth.{inner_keeps}
use Rattle.c_expr_parse.proofs.InitialiserLaws.{keeps_initialiser}
use Rattle.c_parser.specs.DeclarationRules.{with_initialiser, next_declarator, declarators_from, init_declarators, declaration}

abbrev pub is_no_init : tree.InitDeclarators → Bool
is_no_init tree.NoInitDeclarator = true
is_no_init x = false

abbrev pub InitBefore : TypeNames → Bool → Language → tree.InitDeclarators → List Symbol → Type 0
InitBefore names is_typedef g = Spells (AreInitDeclarators g names is_typedef) before_init_declarator

abbrev pub InitIn : TypeNames → Bool → Language → tree.InitDeclarators → List Symbol → Type 0
InitIn names is_typedef g = Spells (λ x. AreInitDeclarators g names is_typedef x × (is_no_init x ≡ false)) init_declarators_spelling

pub then_comma : (x : tree.InitDeclarators) → is_no_init x ≡ false → before_init_declarator x ≡ init_declarators_spelling x ++ comma
then_comma tree.NoInitDeclarator e = cc
then_comma (tree.AndPlain before x) e = simp append_assoc refl
then_comma (tree.AndInitialised before x at value) e = simp append_assoc refl

module _ {names : TypeNames} {d : ℕ} (is_typedef : Bool) where
  -- after a declarator, which was read as s1
  pub keeps_with : (before : tree.InitDeclarators) (x : tree.Declarator) (s s1 ts : List Symbol) (o : Option Place) → equals_sign (first ts) ≡ o
      → Rule IsWritten true false (λ d'. by_first equals_sign (with_initialiser (names_after is_typedef (names_after_all is_typedef names before) x) d' before x)) d
      (λ g y s'. SpellsDeclarator (names_after_all is_typedef names before) WithName g x s1 → InitBefore names is_typedef g before s → InitIn names is_typedef g y (s ++ (s1 ++ s')))
      (λ y. declarator_height x ≤ d → init_declarators_height before ≤ d → init_declarators_height y ≤ d) Any ts
  unfolding with_initialiser
  keeps_with before x s s1 ts (Some at) e =
      rule_told equals_sign (λ d'. with_initialiser (names_after is_typedef (names_after_all is_typedef names before) x) d' before x) e
      (rule_seq (rule_skip_the (Mark mark.Equal at) (equals_sign_here (first ts) at e)) (λ t s2 r2.
      rule_bind (keeps_initialiser (names_after is_typedef (names_after_all is_typedef names before) x) (inner_keeps (names_after is_typedef (names_after_all is_typedef names before) x)) d false r2 (λ m. cc)) (λ value s3 r3.
      rule_pure (λ g v equals u b. record { within = ((b.within, u.within, v.within), refl); spelled = rw (b.spelled, u.spelled, equals, v.spelled, append-nil) refl })
      (λ low_v _ low_x low_b. omega arith) tt)))
  keeps_with before x s s1 ts None e =
      rule_told_end equals_sign (λ d'. with_initialiser (names_after is_typedef (names_after_all is_typedef names before) x) d' before x) e
      (rule_pure (λ g u b. record { within = ((b.within, u.within), refl); spelled = rw (b.spelled, u.spelled, append-nil) refl }) (λ low_x low_b. omega arith) tt)

  keeps_next : (before : tree.InitDeclarators) (s ts : List Symbol) (moves : Bool) → (moves ≡ true → begins_declarator (names_after_all is_typedef names before) WithName (first ts) ≡ true)
      → Rule IsWritten true moves (λ d'. next_declarator (names_after_all is_typedef names before) is_typedef d' before) d (λ g y s'. InitBefore names is_typedef g before s → InitIn names is_typedef g y (s ++ s'))
      (λ y. init_declarators_height before ≤ d → init_declarators_height y ≤ d) Any ts
  unfolding next_declarator
  keeps_next before s ts moves moved =
      rule_bind ((inner_keeps (names_after_all is_typedef names before) d).declarator WithName moves ts moved) (λ x s1 r1.
      keeps_with before x s s1 r1 (equals_sign (first r1)) refl)

  pub init_steps : Steps IsWritten true d (λ _. is_comma) (λ d' before. skip >> next_declarator (names_after_all is_typedef names before) is_typedef d' before) (InitIn names is_typedef) (λ x. init_declarators_height x ≤ d) Any
  init_steps = record {
    never = λ _. refl;
    at_end = λ _. tt;
    steps = λ x s rest _ goes.
        rule_seq (rule_skip_the (Bare separator.Comma) (comma_here (first rest) goes)) (λ t s1 r1.
        rule_weaker
        (λ g y s' h after b. subst (λ z. InitIn names is_typedef g y z) (append_assoc s s1 s') (h (record { within = b.within.0; spelled = rw (b.spelled, after) (sym (then_comma x b.within.1)) })))
        (λ y low _ low_x. low low_x) (λ y rest' e. e) (keeps_next x (s ++ s1) r1 false (λ m. cc)));
  }

  pub keeps_from : {Start : Language → Type 0} {LowStart : Type 0} (x : tree.InitDeclarators) (s ts : List Symbol) → ((g : Language) → Start g → InitIn names is_typedef g x s) → (LowStart → init_declarators_height x ≤ d)
      → Rule IsWritten true false (λ d'. declarators_from names is_typedef d' x) d (λ g y s'. Start g → InitIn names is_typedef g y (s ++ s')) (λ y. LowStart → init_declarators_height y ≤ d) Any ts
  unfolding declarators_from
  keeps_from x s ts starts low = rule_weaker (λ g y s' h. h) (λ y l. l) (λ y rest e. tt) (rule_loop init_steps x s starts low tt)

  keeps_init_declarators : (ts : List Symbol)
      → Rule IsWritten true false (λ d'. init_declarators names is_typedef d') d (λ g. Spells (AreInitDeclarators g names is_typedef) init_declarators_spelling) (λ x. init_declarators_height x ≤ d) Any ts
  unfolding init_declarators
  keeps_init_declarators ts =
      rule_branch (begins_declarator names WithName) refl
      (λ begins. rule_bind (rule_weaker (λ g x s h. h (record { within = tt; spelled = refl })) (λ x low. low (omega arith)) (λ x rest e. e) (keeps_next tree.NoInitDeclarator [] ts true (λ _. begins))) (λ x s rest.
      rule_weaker (λ g y s' h u. record { within = (h u).within.0; spelled = (h u).spelled }) (λ y low. low) (λ y r e. e) (keeps_from x s rest (λ g u. u) (λ low. low))))
      (λ _. rule_pure (λ g. record { within = tt; spelled = refl }) (omega arith) tt)

pub keeps_declaration : (names : TypeNames) (d : ℕ) (scope : Scope) (moves : Bool) (ts : List Symbol) → (moves ≡ true → begins_specifier names scope (first ts) ≡ true)
    → Rule IsWritten true moves (λ d'. declaration names scope d') d (λ g. Spells (IsDeclaration g names scope) declaration_spelling) (λ x. declaration_height x ≤ d) Any ts
unfolding declaration
keeps_declaration names d scope moves ts moved =
    rule_bind ((inner_keeps names d).specifiers scope moves ts moved) (λ specifiers s1 r1.
    rule_bind (keeps_init_declarators (has_typedef specifiers) r1) (λ x s2 r2.
    rule_seq keeps_semicolon (λ t s3 r3.
    rule_pure (λ g ends u a. record { within = (a.within.0, a.within.1, u.within); spelled = rw (a.spelled, u.spelled, ends) refl }) (λ _ low_u low_a. omega arith) tt)))
