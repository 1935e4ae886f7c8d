-- What the rules for specifier lists keep (C99 6.7, 6.7.1 to 6.7.3).
use Rattle.std.proofs.Common.{◌≡◌, ℕ, suc, ◌≤◌, Bool, true, false, ◌&&◌, cond, Option, Some, None, inl, inr, List, [], ◌∷◌, ◌++◌, refl, sym, ◌∙◌, ap, subst, append_assoc, append-nil, arith}
use Rattle.cc_base.specs.declared.place.Place.{Place}
use Rattle.c_lexer.specs.declared.word.Keyword.{Keyword}
use Rattle.c_lexer.specs.declared.word.Keyword.TheVariants as keyword
use Rattle.c_lexer.specs.declared.punctuator.Punctuator.TheVariants as mark
use Rattle.parse_rules.specs.Parsers.{first, by_first, pure, refuse}
use Rattle.parse_rules.specs.Grammars.{Language, Extended, CanBegin, Any}
use Rattle.parse_rules.specs.Rules.{Rule}
use Rattle.parse_rules.proofs.Combinators.{rule_pure, rule_refuse, rule_bind, rule_seq, rule_told, rule_told_end, rule_unsupported, rule_weaker, rule_skip_the}
use Rattle.parse_rules.proofs.Loops.{Steps, rule_loop, rule_loop_moves}
use Rattle.c_tree.specs.declared.leaf.Identifier.{Identifier}
use Rattle.c_tree.specs.declared.leaf.Separator.TheVariants as separator
use Rattle.c_tree.specs.declared.leaf.Word.{Word as PlacedWord}
use Rattle.c_tree.specs.declared.operator.AggregateKind.{AggregateKind}
use Rattle.c_tree.specs.Depth.{specifiers_height, specifier_list_height, enumerators_height}
use Rattle.c_tree.specs.Grammar.{AreSpecifiers}
use Rattle.c_tree.specs.Operators.{aggregate_keyword}
use Rattle.c_tree.specs.Spelling.{name_symbol, word_symbol, tag_spelling, members_spelling, specifiers_spelling, close_brace, before_enumerator, enumerators_spelling}
use Rattle.c_tree.specs.Symbols.{Symbol, Word, Mark, Bare}
use Rattle.c_tree.specs.Tree as tree
use Rattle.c_tree.specs.Words.{TypeNames, Scope, has_type, has_long, is_long, is_long_word}
use Rattle.c_parse_words.specs.Spells.{Spells}
use Rattle.c_parse_words.specs.Tests.{open_brace, word_name, SpecifierStart, StartWord, StartTypedef, StartAggregate, StartEnum, NoSpecifierStart, specifier_start, is_specifier_start, begins_specifier, is_long_next}
use Rattle.c_parse_words.specs.Written.{IsWritten}
use Rattle.c_parse_words.proofs.Closers.{keeps_close_brace}
use Rattle.c_parse_words.proofs.Fresh.{fresh_name, written_fresh_name}
use Rattle.c_parse_words.proofs.SpecifierTokens.{start_word_here, start_typedef_here, start_aggregate_here, start_enum_here, long_here}
use Rattle.c_parse_words.proofs.TokenLaws.{word_name_here, open_brace_here}
use Rattle.c_parse_words.proofs.Written.{some_place, written_int}
use Rattle.c_expr_parse.specs.Parts.{SpellsSpecifiers}
use Rattle.c_expr_parse.specs.Rules.{rules}
use Rattle.c_expr_parse.specs.TypeRules.{Series, Upto, aggregate_body, after_aggregate_tag, aggregate_without_tag, after_aggregate, enumeration, enumeration_body, after_enum_tag, enum_without_tag, after_enum, with_specifier, specifier_step, with_type, specifiers_layer}
use Rattle.c_expr_parse.proofs.Enumerators.{SeriesIn, elements, keeps_enumerators}
use Rattle.c_expr_parse.proofs.Kept.{InnerKeeps}
use Rattle.c_expr_parse.proofs.Members.{keeps_members}

abbrev pub ListIn : TypeNames → Scope → Language → tree.Specifiers → List Symbol → Type 0
ListIn names scope g = Spells (AreSpecifiers g names scope) specifiers_spelling

-- a structure or union after what stands before its `{`, which was read as s1
module _ {names : TypeNames} {d : ℕ} (inner : InnerKeeps names d) (scope : Scope) (before : tree.Specifiers) (s : List Symbol) where
  keeps_aggregate_body : (kind : AggregateKind) (at : Place) (tag : Option Identifier) (brace : Place) (s1 ts : List Symbol)
      → Rule IsWritten true false (λ d'. aggregate_body names (rules names d') before kind at tag brace) d
      (λ g x s'. (s1 ≡ Word (aggregate_keyword kind) at ∷ (tag_spelling tag ++ Mark mark.OpenBrace brace ∷ [])) → ListIn names scope g before s → ListIn names scope g x (s ++ (s1 ++ s')))
      (λ x. specifiers_height before ≤ d → specifiers_height x ≤ d) Any ts
  unfolding aggregate_body
  keeps_aggregate_body kind at tag brace s1 ts =
      rule_bind (keeps_members inner ts) (λ rows s2 r2.
      rule_seq keeps_close_brace (λ t s3 r3.
      rule_pure (λ g closes m begun b. record { within = (b.within, m.within, inr refl); spelled = rw (b.spelled, begun, m.spelled, closes) (ap (λ x. specifiers_spelling before ++ Word (aggregate_keyword kind) at ∷ x) (append_assoc (tag_spelling tag) (Mark mark.OpenBrace brace ∷ []) (members_spelling rows ++ close_brace))) })
      (λ _ low_m low_b. omega arith) tt))

  -- after the tag, which was read as s2 after the word
  keeps_aggregate_tag : (kind : AggregateKind) (at : Place) (tag : Identifier) (s1 s2 ts : List Symbol) (o : Option Place) → open_brace (first ts) ≡ o
      → Rule IsWritten true false (λ d'. by_first open_brace (after_aggregate_tag names (rules names d') before kind at tag)) d
      (λ g x s'. (s2 ≡ name_symbol tag ∷ []) → (s1 ≡ Word (aggregate_keyword kind) at ∷ []) → ListIn names scope g before s → ListIn names scope g x (s ++ (s1 ++ (s2 ++ s'))))
      (λ x. Unit {0} → Unit {0} → specifiers_height before ≤ d → specifiers_height x ≤ d) Any ts
  unfolding after_aggregate_tag
  keeps_aggregate_tag kind at tag s1 s2 ts (Some brace) e =
      rule_told open_brace (λ d'. after_aggregate_tag names (rules names d') before kind at tag) e
      (rule_seq (rule_skip_the (Mark mark.OpenBrace brace) (open_brace_here (first ts) brace e)) (λ t s3 r3.
      rule_weaker
      (λ g x s' h opens tagged begun b. simp append_assoc at (h (rw (begun, tagged, opens) refl) b))
      (λ x low _ _ _ low_b. low low_b) (λ x rest e. e) (keeps_aggregate_body kind at (Some tag) brace (s1 ++ (s2 ++ s3)) r3)))
  keeps_aggregate_tag kind at tag s1 s2 ts None e =
      rule_told_end open_brace (λ d'. after_aggregate_tag names (rules names d') before kind at tag) e
      (rule_pure (λ g tagged begun b. record { within = (b.within, tt, inr refl); spelled = rw (b.spelled, begun, tagged) refl }) (λ _ _ low_b. omega arith) tt)

  keeps_aggregate_no_tag : (kind : AggregateKind) (at : Place) (s1 ts : List Symbol) (o : Option Place) → open_brace (first ts) ≡ o
      → Rule IsWritten true false (λ d'. by_first open_brace (aggregate_without_tag names (rules names d') before kind at)) d
      (λ g x s'. (s1 ≡ Word (aggregate_keyword kind) at ∷ []) → ListIn names scope g before s → ListIn names scope g x (s ++ (s1 ++ s')))
      (λ x. Unit {0} → specifiers_height before ≤ d → specifiers_height x ≤ d) Any ts
  unfolding aggregate_without_tag
  keeps_aggregate_no_tag kind at s1 ts (Some brace) e =
      rule_told open_brace (λ d'. aggregate_without_tag names (rules names d') before kind at) e
      (rule_seq (rule_skip_the (Mark mark.OpenBrace brace) (open_brace_here (first ts) brace e)) (λ t s2 r2.
      rule_weaker
      (λ g x s' h opens begun b. simp append_assoc at (h (rw (begun, opens) refl) b))
      (λ x low _ _ low_b. low low_b) (λ x rest e. e) (keeps_aggregate_body kind at None brace (s1 ++ s2) r2)))
  keeps_aggregate_no_tag kind at s1 ts None e =
      rule_told_end open_brace (λ d'. aggregate_without_tag names (rules names d') before kind at) e
      (rule_refuse (record {
        part = tree.AndSpecifier before (tree.Tagged kind at (fresh_name names));
        more = name_symbol (fresh_name names) ∷ [];
        valid = (written_fresh_name names, tt);
        spells = λ g begun b. record { within = (b.within, tt, inr refl); spelled = rw (b.spelled, begun) refl };
      }))

  keeps_aggregate : (kind : AggregateKind) (at : Place) (s1 ts : List Symbol) (o : Option Identifier) → word_name (first ts) ≡ o
      → Rule IsWritten true false (λ d'. by_first word_name (after_aggregate names (rules names d') before kind at)) d
      (λ g x s'. (s1 ≡ Word (aggregate_keyword kind) at ∷ []) → ListIn names scope g before s → ListIn names scope g x (s ++ (s1 ++ s')))
      (λ x. Unit {0} → specifiers_height before ≤ d → specifiers_height x ≤ d) Any ts
  unfolding after_aggregate
  keeps_aggregate kind at s1 ts (Some tag) e =
      rule_told word_name (λ d'. after_aggregate names (rules names d') before kind at) e
      (rule_seq (rule_skip_the (name_symbol tag) (word_name_here (first ts) tag e)) (λ t s2 r2.
      keeps_aggregate_tag kind at tag s1 s2 r2 (open_brace (first r2)) refl))
  keeps_aggregate kind at s1 ts None e =
      rule_told_end word_name (λ d'. after_aggregate names (rules names d') before kind at) e
      (keeps_aggregate_no_tag kind at s1 ts (open_brace (first ts)) refl)

  -- an enumeration, likewise
  keeps_enumeration : (at : Place) (tag : Option Identifier) (brace : Place) (x : Series tree.Enumerators) (s1 s2 s3 ts : List Symbol)
      → Rule IsWritten true false (λ d'. enumeration before at tag brace x) d
      (λ g y s'. (s3 ≡ Bare separator.CloseBrace ∷ []) → SeriesIn names g x s2 → (s1 ≡ Word keyword.Enum at ∷ (tag_spelling tag ++ Mark mark.OpenBrace brace ∷ [])) → ListIn names scope g before s
      → ListIn names scope g y (s ++ (s1 ++ (s2 ++ (s3 ++ s')))))
      (λ y. Unit {0} → enumerators_height (elements x) ≤ d → specifiers_height before ≤ d → specifiers_height y ≤ d) Any ts
  unfolding enumeration
  keeps_enumeration at tag brace (Upto x true) s1 s2 s3 ts =
      rule_pure (λ g closes x_in begun b. record {
        within = (b.within, (x_in.within.0, x_in.within.1), inr refl);
        spelled = rw (b.spelled, begun, x_in.spelled, closes) (ap (λ y. specifiers_spelling before ++ Word keyword.Enum at ∷ y) (append_assoc (tag_spelling tag) (Mark mark.OpenBrace brace ∷ []) (before_enumerator x ++ close_brace)));
      }) (λ _ low_x low_b. omega arith) tt
  keeps_enumeration at tag brace (Upto x false) s1 s2 s3 ts =
      rule_pure (λ g closes x_in begun b. record {
        within = (b.within, (x_in.within.0, x_in.within.1), inr refl);
        spelled = rw (b.spelled, begun, x_in.spelled, closes) (ap (λ y. specifiers_spelling before ++ Word keyword.Enum at ∷ y) (append_assoc (tag_spelling tag) (Mark mark.OpenBrace brace ∷ []) (enumerators_spelling x ++ close_brace)));
      }) (λ _ low_x low_b. omega arith) tt

  keeps_enumeration_body : (at : Place) (tag : Option Identifier) (brace : Place) (s1 ts : List Symbol)
      → Rule IsWritten true false (λ d'. enumeration_body names (rules names d') before at tag brace) d
      (λ g x s'. (s1 ≡ Word keyword.Enum at ∷ (tag_spelling tag ++ Mark mark.OpenBrace brace ∷ [])) → ListIn names scope g before s → ListIn names scope g x (s ++ (s1 ++ s')))
      (λ x. specifiers_height before ≤ d → specifiers_height x ≤ d) Any ts
  unfolding enumeration_body
  keeps_enumeration_body at tag brace s1 ts =
      rule_bind (keeps_enumerators inner ts) (λ x s2 r2.
      rule_seq keeps_close_brace (λ t s3 r3.
      keeps_enumeration at tag brace x s1 s2 s3 r3))

  keeps_enum_tag : (at : Place) (tag : Identifier) (s1 s2 ts : List Symbol) (o : Option Place) → open_brace (first ts) ≡ o
      → Rule IsWritten true false (λ d'. by_first open_brace (after_enum_tag names (rules names d') before at tag)) d
      (λ g x s'. (s2 ≡ name_symbol tag ∷ []) → (s1 ≡ Word keyword.Enum at ∷ []) → ListIn names scope g before s → ListIn names scope g x (s ++ (s1 ++ (s2 ++ s'))))
      (λ x. Unit {0} → Unit {0} → specifiers_height before ≤ d → specifiers_height x ≤ d) Any ts
  unfolding after_enum_tag
  keeps_enum_tag at tag s1 s2 ts (Some brace) e =
      rule_told open_brace (λ d'. after_enum_tag names (rules names d') before at tag) e
      (rule_seq (rule_skip_the (Mark mark.OpenBrace brace) (open_brace_here (first ts) brace e)) (λ t s3 r3.
      rule_weaker
      (λ g x s' h opens tagged begun b. simp append_assoc at (h (rw (begun, tagged, opens) refl) b))
      (λ x low _ _ _ low_b. low low_b) (λ x rest e. e) (keeps_enumeration_body at (Some tag) brace (s1 ++ (s2 ++ s3)) r3)))
  keeps_enum_tag at tag s1 s2 ts None e =
      rule_told_end open_brace (λ d'. after_enum_tag names (rules names d') before at tag) e
      (rule_pure (λ g tagged begun b. record { within = (b.within, tt, inr refl); spelled = rw (b.spelled, begun, tagged) refl }) (λ _ _ low_b. omega arith) tt)

  keeps_enum_no_tag : (at : Place) (s1 ts : List Symbol) (o : Option Place) → open_brace (first ts) ≡ o
      → Rule IsWritten true false (λ d'. by_first open_brace (enum_without_tag names (rules names d') before at)) d
      (λ g x s'. (s1 ≡ Word keyword.Enum at ∷ []) → ListIn names scope g before s → ListIn names scope g x (s ++ (s1 ++ s')))
      (λ x. Unit {0} → specifiers_height before ≤ d → specifiers_height x ≤ d) Any ts
  unfolding enum_without_tag
  keeps_enum_no_tag at s1 ts (Some brace) e =
      rule_told open_brace (λ d'. enum_without_tag names (rules names d') before at) e
      (rule_seq (rule_skip_the (Mark mark.OpenBrace brace) (open_brace_here (first ts) brace e)) (λ t s2 r2.
      rule_weaker
      (λ g x s' h opens begun b. simp append_assoc at (h (rw (begun, opens) refl) b))
      (λ x low _ _ low_b. low low_b) (λ x rest e. e) (keeps_enumeration_body at None brace (s1 ++ s2) r2)))
  keeps_enum_no_tag at s1 ts None e =
      rule_told_end open_brace (λ d'. enum_without_tag names (rules names d') before at) e
      (rule_refuse (record {
        part = tree.AndSpecifier before (tree.Enum at (fresh_name names));
        more = name_symbol (fresh_name names) ∷ [];
        valid = (written_fresh_name names, tt);
        spells = λ g begun b. record { within = (b.within, tt, inr refl); spelled = rw (b.spelled, begun) refl };
      }))

  keeps_enum : (at : Place) (s1 ts : List Symbol) (o : Option Identifier) → word_name (first ts) ≡ o
      → Rule IsWritten true false (λ d'. by_first word_name (after_enum names (rules names d') before at)) d
      (λ g x s'. (s1 ≡ Word keyword.Enum at ∷ []) → ListIn names scope g before s → ListIn names scope g x (s ++ (s1 ++ s')))
      (λ x. Unit {0} → specifiers_height before ≤ d → specifiers_height x ≤ d) Any ts
  unfolding after_enum
  keeps_enum at s1 ts (Some tag) e =
      rule_told word_name (λ d'. after_enum names (rules names d') before at) e
      (rule_seq (rule_skip_the (name_symbol tag) (word_name_here (first ts) tag e)) (λ t s2 r2.
      keeps_enum_tag at tag s1 s2 r2 (open_brace (first r2)) refl))
  keeps_enum at s1 ts None e =
      rule_told_end word_name (λ d'. after_enum names (rules names d') before at) e
      (keeps_enum_no_tag at s1 ts (open_brace (first ts)) refl)

-- a further `long`, told by the token and by the word
pub long_told : (word : PlacedWord) → is_long_next (Some (word_symbol word)) ≡ is_long (tree.Keyword word)
long_told word = by_keyword word.keyword
  where
    by_keyword : (k : Keyword) → is_long_next (Some (Word k word.place)) ≡ is_long_word k
    by_keyword keyword.Long = refl
    by_keyword k = refl

pub and_swap : (a b : Bool) → (a && b) ≡ (b && a)
and_swap true true = refl
and_swap true false = refl
and_swap false true = refl
and_swap false false = refl

and_false : (b : Bool) → (b && false) ≡ false
and_false true = refl
and_false false = refl

and_true : (a b : Bool) → (a && b) ≡ true → (a ≡ true) × (b ≡ true)
and_true true true e = (refl, refl)
and_true true false e = cc
and_true false b e = cc

module _ {names : TypeNames} {d : ℕ} (inner : InnerKeeps names d) (scope : Scope) where
  keeps_specifier : (before : tree.Specifiers) (s ts : List Symbol) (x : SpecifierStart) → specifier_start names scope (first ts) ≡ x → is_specifier_start x ≡ true → (has_long before && is_long_next (first ts)) ≡ false
      → Rule IsWritten true true (λ d'. by_first (specifier_start names scope) (with_specifier names (rules names d') before)) d
      (λ g y s'. ListIn names scope g before s → ListIn names scope g y (s ++ s')) (λ y. specifiers_height before ≤ d → specifiers_height y ≤ d) Any ts
  unfolding with_specifier
  keeps_specifier before s ts (StartWord word) e _ once =
      rule_told (specifier_start names scope) (λ d'. with_specifier names (rules names d') before) e
      (rule_seq (rule_skip_the (word_symbol word) (start_word_here names scope (first ts) word e).0) (λ t s1 r1.
      rule_pure (λ g begun b. record { within = (b.within, (start_word_here names scope (first ts) word e).1, inr not_again); spelled = rw (b.spelled, begun) refl }) (λ _ low_b. omega arith) tt))
    where
      not_again : (is_long (tree.Keyword word) && has_long before) ≡ false
      not_again = and_swap (is_long (tree.Keyword word)) (has_long before) ∙ (ap (λ b. has_long before && b) (sym (long_told word)) ∙ subst (λ o. (has_long before && is_long_next o) ≡ false) (start_word_here names scope (first ts) word e).0 once)
  keeps_specifier before s ts (StartTypedef name) e _ once =
      rule_told (specifier_start names scope) (λ d'. with_specifier names (rules names d') before) e
      (rule_seq (rule_skip_the (name_symbol name) (start_typedef_here names scope (first ts) name e).0) (λ t s1 r1.
      rule_pure (λ g begun b. record { within = (b.within, (start_typedef_here names scope (first ts) name e).1, inr refl); spelled = rw (b.spelled, begun) refl }) (λ _ low_b. omega arith) tt))
  keeps_specifier before s ts (StartAggregate kind at) e _ once =
      rule_told (specifier_start names scope) (λ d'. with_specifier names (rules names d') before) e
      (rule_seq (rule_skip_the (Word (aggregate_keyword kind) at) (start_aggregate_here names scope (first ts) kind at e)) (λ t s1 r1.
      keeps_aggregate inner scope before s kind at s1 r1 (word_name (first r1)) refl))
  keeps_specifier before s ts (StartEnum at) e _ once =
      rule_told (specifier_start names scope) (λ d'. with_specifier names (rules names d') before) e
      (rule_seq (rule_skip_the (Word keyword.Enum at) (start_enum_here names scope (first ts) at e)) (λ t s1 r1.
      keeps_enum inner scope before s at s1 r1 (word_name (first r1)) refl))
  keeps_specifier before s ts NoSpecifierStart e starts once = cc

  pub specifier_steps : Steps IsWritten true d (λ _. begins_specifier names scope) (λ d'. specifier_step names (rules names d') scope) (ListIn names scope) (λ x. specifiers_height x ≤ d) Any
  unfolding specifier_step
  specifier_steps = record {
    never = λ _. refl;
    at_end = λ _. tt;
    steps = λ x s rest _ goes.
        rule_unsupported (λ next. has_long x && is_long_next next) (and_false (has_long x))
        (λ _. record { part = x; more = []; valid = tt; spells = λ g b. rw (append-nil s) b })
        (λ t _ long. further x s t (and_true (has_long x) (is_long_next (Some t)) long).0 (long_here t (and_true (has_long x) (is_long_next (Some t)) long).1))
        (λ once. keeps_specifier x s rest (specifier_start names scope (first rest)) refl goes once);
  }
    where
      further : (x : tree.Specifiers) (s : List Symbol) (t : Symbol) → has_long x ≡ true → (at : Place) × (t ≡ Word keyword.Long at) → CanBegin IsWritten (λ y s'. ListIn names scope Extended x s → ListIn names scope Extended y (s ++ s')) (t ∷ [])
      further x s t has (at, is) = record {
        part = tree.AndSpecifier x (tree.Keyword (record { keyword = keyword.Long; place = at }));
        more = [];
        valid = tt;
        spells = λ b. record { within = (b.within, refl, inl tt); spelled = rw (b.spelled, is) refl };
      }

  -- at the end of a list
  keeps_with_type : (x : tree.Specifiers) (s1 ts : List Symbol)
      → Rule IsWritten true false (λ d'. with_type x) d (λ g y s'. ListIn names scope g x s1 → SpellsSpecifiers names scope g y (s1 ++ s')) (λ y. specifiers_height x ≤ d → specifier_list_height y ≤ suc d) Any ts
  unfolding with_type
  keeps_with_type x s1 ts = by_type (has_type x) refl
    where
      by_type : (b : Bool) → has_type x ≡ b
          → Rule IsWritten true false (λ d'. cond b (pure x) refuse) d (λ g y s'. ListIn names scope g x s1 → SpellsSpecifiers names scope g y (s1 ++ s')) (λ y. specifiers_height x ≤ d → specifier_list_height y ≤ suc d) Any ts
      by_type true e = rule_pure (λ g b. record { within = (b.within, e); spelled = rw (append-nil s1) b.spelled }) (λ low. omega arith) tt
      by_type false e = rule_refuse (record {
        part = tree.AndSpecifier x (tree.Keyword (record { keyword = keyword.Int; place = some_place }));
        more = Word keyword.Int some_place ∷ [];
        valid = (written_int some_place, tt);
        spells = λ g b. record { within = ((b.within, refl, inr refl), refl); spelled = rw (b.spelled) refl };
      })

  pub keeps_specifiers : (moves : Bool) (ts : List Symbol) → (moves ≡ true → begins_specifier names scope (first ts) ≡ true)
      → Rule IsWritten true moves (λ d'. specifiers_layer names (rules names d') scope) d (SpellsSpecifiers names scope) (λ x. specifier_list_height x ≤ suc d) Any ts
  unfolding specifiers_layer
  keeps_specifiers true ts moved =
      rule_bind (rule_weaker (λ g x s h. h (record { within = tt; spelled = refl })) (λ x low. low (omega arith)) (λ x rest e. tt)
      (rule_loop_moves specifier_steps tree.NoSpecifier [] (λ g (u : ListIn names scope g tree.NoSpecifier []). u) (λ (low : specifiers_height tree.NoSpecifier ≤ d). low) tt (moved refl)))
      (λ x s1 r1. keeps_with_type x s1 r1)
  keeps_specifiers false ts moved =
      rule_bind (rule_weaker (λ g x s h. h (record { within = tt; spelled = refl })) (λ x low. low (omega arith)) (λ x rest e. tt)
      (rule_loop specifier_steps tree.NoSpecifier [] (λ g (u : ListIn names scope g tree.NoSpecifier []). u) (λ (low : specifiers_height tree.NoSpecifier ≤ d). low) tt))
      (λ x s1 r1. keeps_with_type x s1 r1)
