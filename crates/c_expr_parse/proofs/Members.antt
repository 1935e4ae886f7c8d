-- What the rules for the members of a structure or union keep (C99 6.7.2.1).
use Rattle.std.proofs.Common.{◌≡◌, ℕ, ◌≤◌, true, false, List, [], ◌∷◌, ◌++◌, refl, sym, subst, append_assoc, append-nil, arith}
use Rattle.parse_rules.specs.Parsers.{first, skip, ◌>>◌}
use Rattle.parse_rules.specs.Grammars.{Language, Any}
use Rattle.parse_rules.specs.Rules.{Rule}
use Rattle.parse_rules.proofs.Combinators.{rule_pure, rule_bind, rule_seq, rule_unsupported, rule_weaker, rule_skip_the}
use Rattle.parse_rules.proofs.Loops.{Steps, rule_loop}
use Rattle.c_tree.specs.declared.leaf.Separator.TheVariants as separator
use Rattle.c_tree.specs.Depth.{members_height, member_declarators_height}
use Rattle.c_tree.specs.Grammar.{WithName, AreMembers, AreMemberDeclarators, is_no_declarator}
use Rattle.c_tree.specs.Spelling.{name_symbol, comma, members_spelling, member_declarators_spelling, before_declarator, declarator_spelling}
use Rattle.c_tree.specs.Symbols.{Symbol, Bare}
use Rattle.c_tree.specs.Tree as tree
use Rattle.c_tree.specs.Words.{TypeNames, InType}
use Rattle.c_parse_words.specs.Spells.{Spells}
use Rattle.c_parse_words.specs.Tests.{is_comma, is_colon, begins_specifier}
use Rattle.c_parse_words.specs.Written.{IsWritten}
use Rattle.c_parse_words.proofs.Closers.{keeps_semicolon}
use Rattle.c_parse_words.proofs.Fresh.{fresh_name, written_fresh_name, fresh_declarator, fresh_declares, fresh_spelling}
use Rattle.c_parse_words.proofs.TokenLaws.{colon_only, comma_here}
use Rattle.c_expr_parse.specs.Rules.{rules}
use Rattle.c_expr_parse.specs.TypeRules.{next_member, member_declarators, next_members, members}
use Rattle.c_expr_parse.proofs.Kept.{InnerKeeps}

-- Declarators of members: those read so far, with a comma after each or between them.

abbrev Before : TypeNames → Language → tree.MemberDeclarators → List Symbol → Type 0
Before names g = Spells (AreMemberDeclarators g names) before_declarator

abbrev pub Declarators : TypeNames → Language → tree.MemberDeclarators → List Symbol → Type 0
Declarators names g = Spells (λ x. AreMemberDeclarators g names x × (is_no_declarator x ≡ false)) member_declarators_spelling

-- a comma goes on
pub then_comma : (x : tree.MemberDeclarators) → is_no_declarator x ≡ false → before_declarator x ≡ member_declarators_spelling x ++ comma
then_comma tree.NoDeclarator e = cc
then_comma (tree.AndDeclarator before d) e = sym (append_assoc (before_declarator before) (declarator_spelling d) comma)
then_comma (tree.AndBitField before d) e = simp append_assoc refl
then_comma (tree.AndUnnamedBitField before) e = simp append_assoc refl

module _ {names : TypeNames} {d : ℕ} (inner : InnerKeeps names d) where
  keeps_next_member : (before : tree.MemberDeclarators) (s ts : List Symbol)
      → Rule IsWritten true false (λ d'. next_member (rules names d') before) d (λ g x s'. Before names g before s → Declarators names g x (s ++ s'))
      (λ x. member_declarators_height before ≤ d → member_declarators_height x ≤ d) Any ts
  unfolding next_member
  keeps_next_member before s ts =
      rule_unsupported is_colon refl
      (λ _. record {
        part = tree.AndDeclarator before (fresh_declarator names);
        more = name_symbol (fresh_name names) ∷ [];
        valid = (written_fresh_name names, tt);
        spells = λ g b. record { within = ((b.within, fresh_declares g names), refl); spelled = rw (b.spelled, fresh_spelling names) refl };
      })
      (λ t _ colon. record {
        part = tree.AndUnnamedBitField before;
        more = [];
        valid = tt;
        spells = λ b. record { within = ((tt, b.within), refl); spelled = rw (b.spelled, colon_only t colon) refl };
      })
      (λ _. rule_bind (inner.declarator WithName false ts (λ m. cc)) (λ x s1 r1.
      rule_unsupported is_colon refl
      (λ _. record { part = tree.AndDeclarator before x; more = []; valid = tt; spells = λ g x_in b. record { within = ((b.within, x_in.within), refl); spelled = rw (b.spelled, x_in.spelled, append-nil) refl } })
      (λ t _ colon. record {
        part = tree.AndBitField before x;
        more = [];
        valid = tt;
        spells = λ x_in b. record { within = ((tt, b.within, x_in.within), refl); spelled = rw (b.spelled, x_in.spelled, colon_only t colon) refl };
      })
      (λ _. rule_pure (λ g x_in b. record { within = ((b.within, x_in.within), refl); spelled = rw (b.spelled, x_in.spelled, append-nil) refl }) (λ low_x low_b. omega arith) tt)))

  pub declarator_steps : Steps IsWritten true d (λ _. is_comma) (λ d' before. skip >> next_member (rules names d') before) (Declarators names) (λ x. member_declarators_height x ≤ d) Any
  declarator_steps = record {
    never = λ _. refl;
    at_end = λ _. tt;
    steps = λ x s rest _ goes.
        rule_seq (rule_skip_the (Bare separator.Comma) (comma_here (first rest) goes)) (λ t s1 r1.
        rule_weaker
        (λ g y s' h after before. subst (λ z. Declarators names g y z) (append_assoc s s1 s') (h (record { within = before.within.0; spelled = rw (before.spelled, after) (sym (then_comma x before.within.1)) })))
        (λ y low _ low_x. low low_x) (λ y rest' e. e) (keeps_next_member x (s ++ s1) r1));
  }

  keeps_member_declarators : (ts : List Symbol) → Rule IsWritten true false (λ d'. member_declarators (rules names d')) d (Declarators names) (λ x. member_declarators_height x ≤ d) Any ts
  unfolding member_declarators
  keeps_member_declarators ts =
      rule_bind (rule_weaker (λ g x s h. h (record { within = tt; spelled = refl })) (λ x low. low (omega arith)) (λ x rest e. e) (keeps_next_member tree.NoDeclarator [] ts)) (λ x s rest.
      rule_weaker (λ g y s' h. h) (λ y low. low) (λ y rest' e. tt) (rule_loop declarator_steps x s (λ g x_in. x_in) (λ low. low) tt))

  -- Rows.

  pub row_steps : Steps IsWritten true d (λ _. begins_specifier names InType) (λ d'. next_members (rules names d')) (λ g. Spells (AreMembers g names) members_spelling) (λ x. members_height x ≤ d) Any
  unfolding next_members
  row_steps = record {
    never = λ _. refl;
    at_end = λ _. tt;
    steps = λ rows s rest _ goes.
        rule_bind (inner.specifiers InType true rest (λ _. goes)) (λ specifiers s1 r1.
        rule_bind (keeps_member_declarators r1) (λ declarators s2 r2.
        rule_seq keeps_semicolon (λ t s3 r3.
        rule_pure (λ g ends x a b. record { within = (b.within, a.within.0, a.within.1, x.within.0, x.within.1); spelled = rw (b.spelled, a.spelled, x.spelled, ends) refl })
        (λ _ low_x low_a low_b. omega arith) tt)));
  }

  pub keeps_members : (ts : List Symbol) → Rule IsWritten true false (λ d'. members names (rules names d')) d (λ g. Spells (AreMembers g names) members_spelling) (λ x. members_height x ≤ d) Any ts
  unfolding members
  keeps_members ts =
      rule_weaker (λ g x s h. h (record { within = tt; spelled = refl })) (λ x low. low (omega arith)) (λ x rest e. tt)
      (rule_loop row_steps tree.NoMember [] (λ g (u : Spells (AreMembers g names) members_spelling tree.NoMember []). u) (λ (low : members_height tree.NoMember ≤ d). low) tt)
