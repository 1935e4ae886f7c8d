-- What the rules for enumerators keep (C99 6.7.2.2).
use Rattle.std.proofs.Common.{◌≡◌, ℕ, ◌≤◌, Bool, true, false, Option, Some, None, is_some, List, [], ◌∷◌, ◌++◌, refl, sym, subst, append_assoc, append-nil, arith}
use Rattle.cc_base.specs.declared.place.Place.{Place}
use Rattle.c_lexer.specs.declared.punctuator.Punctuator.TheVariants as mark
use Rattle.parse_rules.specs.Parsers.{first, by_first}
use Rattle.parse_rules.specs.Grammars.{Language, Any}
use Rattle.parse_rules.specs.Rules.{Rule}
use Rattle.parse_rules.proofs.Combinators.{rule_pure, rule_refuse, rule_bind, rule_seq, rule_branch, rule_told, rule_told_end, rule_weaker, rule_skip_the}
use Rattle.parse_rules.proofs.Loops.{Steps, rule_loop}
use Rattle.c_tree.specs.declared.leaf.Identifier.{Identifier}
use Rattle.c_tree.specs.declared.leaf.Separator.TheVariants as separator
use Rattle.c_tree.specs.Depth.{enumerators_height}
use Rattle.c_tree.specs.Grammar.{AreEnumerators, is_no_enumerator}
use Rattle.c_tree.specs.Spelling.{name_symbol, comma, enumerators_spelling, before_enumerator}
use Rattle.c_tree.specs.Symbols.{Symbol, Mark, Bare}
use Rattle.c_tree.specs.Tree as tree
use Rattle.c_tree.specs.Words.{TypeNames, is_type_name}
use Rattle.c_parse_words.specs.Spells.{Spells}
use Rattle.c_parse_words.specs.Tests.{equals_sign, plain_name}
use Rattle.c_parse_words.specs.Written.{IsWritten}
use Rattle.c_parse_words.proofs.Fresh.{fresh_name, fresh_name_is_new, written_fresh_name}
use Rattle.c_parse_words.proofs.TokenLaws.{comma_here, equals_sign_here}
use Rattle.c_parse_words.proofs.SpecifierTokens.{plain_name_here}
use Rattle.c_expr_parse.specs.Rules.{rules}
use Rattle.c_expr_parse.specs.TypeRules.{Series, Upto, goes_on_series, with_value, with_name, next_enumerator, enumerator_step, enumerators}
use Rattle.c_expr_parse.proofs.Kept.{InnerKeeps}

abbrev Before : TypeNames → Language → tree.Enumerators → List Symbol → Type 0
Before names g = Spells (AreEnumerators g names) before_enumerator

-- a series, with a comma after the last element or not
abbrev pub series_spelling : Series tree.Enumerators → List Symbol
series_spelling (Upto x true) = before_enumerator x
series_spelling (Upto x false) = enumerators_spelling x

abbrev pub elements : Series tree.Enumerators → tree.Enumerators
elements (Upto x _) = x

abbrev pub SeriesIn : TypeNames → Language → Series tree.Enumerators → List Symbol → Type 0
SeriesIn names g = Spells (λ x. AreEnumerators g names (elements x) × (is_no_enumerator (elements x) ≡ false)) series_spelling

abbrev NextIn : TypeNames → Language → tree.Enumerators → List Symbol → Type 0
NextIn names g = Spells (λ x. AreEnumerators g names x × (is_no_enumerator x ≡ false)) enumerators_spelling

pub then_comma : (x : tree.Enumerators) → is_no_enumerator x ≡ false → before_enumerator x ≡ enumerators_spelling x ++ comma
then_comma tree.NoEnumerator e = cc
then_comma (tree.AndEnumerator before name) e = simp append_assoc refl
then_comma (tree.AndValued before name at e) is = simp append_assoc refl

module _ {names : TypeNames} {d : ℕ} (inner : InnerKeeps names d) where
  -- after a name that was read as s1
  keeps_value : (before : tree.Enumerators) (name : Identifier) (s s1 ts : List Symbol) (o : Option Place) → is_type_name names name.bytes ≡ false → equals_sign (first ts) ≡ o
      → Rule IsWritten true false (λ d'. by_first equals_sign (with_value (rules names d') before name)) d
      (λ g x s'. (s1 ≡ name_symbol name ∷ []) → Before names g before s → NextIn names g x (s ++ (s1 ++ s'))) (λ x. Unit {0} → enumerators_height before ≤ d → enumerators_height x ≤ d) Any ts
  unfolding with_value
  keeps_value before name s s1 ts (Some at) plain e =
      rule_told equals_sign (λ d'. with_value (rules names d') before name) e
      (rule_seq (rule_skip_the (Mark mark.Equal at) (equals_sign_here (first ts) at e)) (λ t s2 r2.
      rule_bind (rule_weaker (λ g x s' h. h) (λ x low. low) (λ x r e. tt) (inner.expr 2 false r2 (omega arith) (λ m. cc))) (λ x s3 r3.
      rule_pure (λ g a equals called b. record { within = ((b.within, plain, a.within.0, a.within.1), refl); spelled = rw (b.spelled, called, equals, a.spelled, append-nil) refl })
      (λ low_x _ _ low_b. omega arith) tt)))
  keeps_value before name s s1 ts None plain e =
      rule_told_end equals_sign (λ d'. with_value (rules names d') before name) e
      (rule_pure (λ g called b. record { within = ((b.within, plain), refl); spelled = rw (b.spelled, called) refl }) (λ _ low_b. low_b) tt)

  keeps_name : (before : tree.Enumerators) (s ts : List Symbol) (moves : Bool) (o : Option Identifier) → plain_name names (first ts) ≡ o → (moves ≡ true → is_some o ≡ true)
      → Rule IsWritten true moves (λ d'. by_first (plain_name names) (with_name (rules names d') before)) d
      (λ g x s'. Before names g before s → NextIn names g x (s ++ s')) (λ x. enumerators_height before ≤ d → enumerators_height x ≤ d) Any ts
  unfolding with_name
  keeps_name before s ts moves (Some name) e moved =
      rule_told (plain_name names) (λ d'. with_name (rules names d') before) e
      (rule_seq (rule_skip_the (name_symbol name) (plain_name_here names (first ts) name e).0) (λ t s1 r1.
      keeps_value before name s s1 r1 (equals_sign (first r1)) (plain_name_here names (first ts) name e).1 refl))
  keeps_name before s ts true None e moved =
      let no : false ≡ true = moved refl in
      cc
  keeps_name before s ts false None e moved =
      rule_told_end (plain_name names) (λ d'. with_name (rules names d') before) e
      (rule_refuse (record {
        part = tree.AndEnumerator before (fresh_name names);
        more = name_symbol (fresh_name names) ∷ [];
        valid = (written_fresh_name names, tt);
        spells = λ g b. record { within = ((b.within, fresh_name_is_new names), refl); spelled = rw (b.spelled) refl };
      }))

  keeps_next : (before : tree.Enumerators) (s ts : List Symbol) (moves : Bool) → (moves ≡ true → is_some (plain_name names (first ts)) ≡ true)
      → Rule IsWritten true moves (λ d'. next_enumerator names (rules names d') before) d
      (λ g x s'. Before names g before s → SeriesIn names g x (s ++ s')) (λ x. enumerators_height before ≤ d → enumerators_height (elements x) ≤ d) Any ts
  unfolding next_enumerator
  keeps_next before s ts moves moved =
      rule_bind (keeps_name before s ts moves (plain_name names (first ts)) refl moved) (λ x s1 r1.
      rule_pure (λ g next b. record { within = (next b).within; spelled = rw (append-nil s1) (next b).spelled }) (λ low low_b. low low_b) tt)

  -- a comma and maybe another element go on from a series that doesn't end with a comma
  keeps_step : (x : Series tree.Enumerators) (s ts : List Symbol) → goes_on_series x (first ts) ≡ true
      → Rule IsWritten true true (λ d'. enumerator_step names (rules names d') x) d (λ g y s'. SeriesIn names g x s → SeriesIn names g y (s ++ s'))
      (λ y. enumerators_height (elements x) ≤ d → enumerators_height (elements y) ≤ d) Any ts
  unfolding enumerator_step
  keeps_step (Upto before true) s ts goes = cc
  keeps_step (Upto before false) s ts goes =
      rule_seq (rule_skip_the (Bare separator.Comma) (comma_here (first ts) goes)) (λ t s1 r1.
      rule_branch (λ next. is_some (plain_name names next)) refl
      (λ some. rule_weaker
      (λ g y s' h after b. subst (λ z. SeriesIn names g y z) (append_assoc s s1 s') (h (record { within = b.within.0; spelled = rw (b.spelled, after) (sym (then_comma before b.within.1)) })))
      (λ y low _ low_b. low low_b) (λ y rest e. e) (keeps_next before (s ++ s1) r1 true (λ _. some)))
      (λ _. rule_pure (λ g after b. record { within = b.within; spelled = rw (b.spelled, after) (sym (then_comma before b.within.1)) }) (λ _ low. low) tt))

  pub series_steps : Steps IsWritten true d goes_on_series (λ d'. enumerator_step names (rules names d')) (SeriesIn names) (λ x. enumerators_height (elements x) ≤ d) Any
  series_steps = record { never = never; at_end = λ _. tt; steps = λ x s rest _ goes. keeps_step x s rest goes }
    where
      never : (x : Series tree.Enumerators) → goes_on_series x None ≡ false
      never (Upto x true) = refl
      never (Upto x false) = refl

  pub keeps_enumerators : (ts : List Symbol) → Rule IsWritten true false (λ d'. enumerators names (rules names d')) d (SeriesIn names) (λ x. enumerators_height (elements x) ≤ d) Any ts
  unfolding enumerators
  keeps_enumerators ts =
      rule_bind (rule_weaker (λ g x s h. h (record { within = tt; spelled = refl })) (λ x low. low (omega arith)) (λ x rest e. e) (keeps_next tree.NoEnumerator [] ts false (λ m. cc))) (λ x s rest.
      rule_weaker (λ g y s' h. h) (λ y low. low) (λ y rest' e. tt) (rule_loop series_steps x s (λ g x_in. x_in) (λ low. low) tt))
