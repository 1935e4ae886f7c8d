-- What the rules for array and function parts keep (C99 6.7.5).
use Rattle.std.proofs.Common.{◌≡◌, ℕ, ◌≤◌, Bool, true, false, ◌||◌, cond, Option, Some, None, List, [], ◌∷◌, ◌++◌, refl, ◌∙◌, ap, arith}
use Rattle.cc_base.specs.declared.place.Place.{Place}
use Rattle.c_lexer.specs.declared.punctuator.Punctuator.TheVariants as mark
use Rattle.parse_rules.specs.Parsers.{first, refuse, pure, expect, ◌>>◌}
use Rattle.parse_rules.specs.Grammars.{Language, Any}
use Rattle.parse_rules.specs.Rules.{Rule}
use Rattle.parse_rules.proofs.Combinators.{rule_pure, rule_refuse, rule_bind, rule_seq, rule_branch, rule_told, rule_weaker, rule_skip_the, rule_expect_here}
use Rattle.parse_rules.proofs.Composition.{rule_like, Starts, same, gone}
use Rattle.parse_rules.proofs.Loops.{rule_loop}
use Rattle.c_tree.specs.declared.leaf.Word.{Word as PlacedWord}
use Rattle.c_tree.specs.declared.leaf.Separator.TheVariants as separator
use Rattle.c_tree.specs.Depth.{parts_height}
use Rattle.c_tree.specs.Grammar.{AreParts}
use Rattle.c_tree.specs.Spelling.{name_symbol, parts_spelling}
use Rattle.c_tree.specs.Symbols.{Symbol, Mark, Bare}
use Rattle.c_tree.specs.Tree as tree
use Rattle.c_tree.specs.Words.{TypeNames, InBlock, has_static}
use Rattle.c_parse_words.specs.Spells.{Spells}
use Rattle.c_parse_words.specs.Tests.{is_close_paren, is_close_bracket, begins_specifier, begins_parameters, begins_expr, PartStart, ArrayAt, FunctionAt, NoPartStart, part_start, is_part_start}
use Rattle.c_parse_words.specs.Written.{IsWritten}
use Rattle.c_parse_words.proofs.Closers.{keeps_close_bracket, keeps_close_paren}
use Rattle.c_parse_words.proofs.DeclaratorTokens.{array_here, function_here}
use Rattle.c_parse_words.proofs.Fresh.{fresh_name, fresh_name_is_new, written_fresh_name}
use Rattle.c_parse_words.proofs.TokenLaws.{close_paren_only}
use Rattle.c_parse_words.proofs.WordLaws.{ArrayWords, array_word_steps, no_static}
use Rattle.c_parse_words.proofs.Written.{written_close_bracket}
use Rattle.c_expr_parse.specs.DeclaratorRules.{parameters, without_size, array_part, function_part, with_part, part_step}
use Rattle.c_expr_parse.specs.Rules.{rules}
use Rattle.c_expr_parse.proofs.ExprLaws.{deeper}
use Rattle.c_expr_parse.proofs.Kept.{InnerKeeps}
use Rattle.c_expr_parse.proofs.Parameters.{keeps_parameters, keeps_parameters_here}

or_right : (a b : Bool) → b ≡ false → (a || b) ≡ true → a ≡ true
or_right true b e h = refl
or_right false true e h = cc
or_right false false e h = cc

close_paren_here : (o : Option Symbol) → is_close_paren o ≡ true → o ≡ Some (Bare separator.CloseParen)
close_paren_here None e = cc
close_paren_here (Some t) e = ap Some (close_paren_only t e)

-- Parts: `before` was read as s; then a part goes on.
abbrev pub PartsIn : TypeNames → Language → tree.Parts → List Symbol → Type 0
PartsIn names g = Spells (AreParts g names) parts_spelling

abbrev pub is_no_part : tree.Parts → Bool
is_no_part tree.NoPart = true
is_no_part parts = false

abbrev pub NextPart : TypeNames → Language → tree.Parts → List Symbol → Type 0
NextPart names g = Spells (λ x. AreParts g names x × (is_no_part x ≡ false)) parts_spelling

module _ {names : TypeNames} {d : ℕ} (inner : InnerKeeps names d) (before : tree.Parts) (s : List Symbol) where
  -- after `[` and words
  keeps_without_size : (at : Place) (words : List PlacedWord) (s1 s2 ts : List Symbol)
      → Rule IsWritten true false (λ d'. without_size before at words) d
      (λ g x s'. ArrayWords g words s2 → (s1 ≡ Mark mark.OpenBracket at ∷ []) → PartsIn names g before s → NextPart names g x (s ++ (s1 ++ (s2 ++ s'))))
      (λ x. Unit {0} → Unit {0} → parts_height before ≤ d → parts_height x ≤ d) Any ts
  unfolding without_size
  keeps_without_size at words s1 s2 ts = by_static (has_static words) refl
    where
      by_static : (b : Bool) → has_static words ≡ b
          → Rule IsWritten true false (λ d'. cond b refuse (expect is_close_bracket >> pure (tree.AndArray before at words))) d
          (λ g x s'. ArrayWords g words s2 → (s1 ≡ Mark mark.OpenBracket at ∷ []) → PartsIn names g before s → NextPart names g x (s ++ (s1 ++ (s2 ++ s'))))
          (λ x. Unit {0} → Unit {0} → parts_height before ≤ d → parts_height x ≤ d) Any ts
      by_static true e = rule_refuse (record {
        part = tree.AndSizedArray before at words (tree.Name (fresh_name names));
        more = name_symbol (fresh_name names) ∷ Bare separator.CloseBracket ∷ [];
        valid = (written_fresh_name names, (written_close_bracket, tt));
        spells = λ g w opens b. record { within = ((b.within, w.within, fresh_name_is_new names, omega arith), refl); spelled = rw (b.spelled, opens, w.spelled) refl };
      })
      by_static false e =
          rule_seq keeps_close_bracket (λ t s3 r3.
          rule_pure (λ g closes w opens b. record { within = ((b.within, no_static words w.within e), refl); spelled = rw (b.spelled, opens, w.spelled, closes) refl }) (λ _ _ _ low_b. low_b) tt)

  keeps_array : (at : Place) (s1 ts : List Symbol)
      → Rule IsWritten true false (λ d'. array_part names (rules names d') before at) d
      (λ g x s'. (s1 ≡ Mark mark.OpenBracket at ∷ []) → PartsIn names g before s → NextPart names g x (s ++ (s1 ++ s'))) (λ x. Unit {0} → parts_height before ≤ d → parts_height x ≤ d) Any ts
  unfolding array_part
  keeps_array at s1 ts =
      rule_bind (rule_weaker (λ g w s h. h (record { within = refl; spelled = refl })) (λ w low. low tt) (λ w rest e. tt)
      (rule_loop array_word_steps [] [] (λ g (u : ArrayWords g [] []). u) (λ (low : Unit {0}). low) tt)) (λ words s2 r2.
      rule_branch (begins_expr names) refl
      (λ begins. rule_bind (deeper names d inner true 1 r2 (omega arith) (λ _. begins)) (λ e s3 r3.
      rule_seq keeps_close_bracket (λ t s4 r4.
      rule_pure (λ g closes x w opens b. record { within = ((b.within, w.within, x.within.0, x.within.1), refl); spelled = rw (b.spelled, opens, w.spelled, x.spelled, closes) refl }) (λ _ low_e _ _ low_b. omega arith) tt)))
      (λ _. keeps_without_size at words s1 s2 r2))

  pub keeps_function : (at : Place) (s1 ts : List Symbol)
      → Rule IsWritten true false (λ d'. function_part names (rules names d') before at) d
      (λ g x s'. (s1 ≡ Mark mark.OpenParen at ∷ []) → PartsIn names g before s → NextPart names g x (s ++ (s1 ++ s'))) (λ x. Unit {0} → parts_height before ≤ d → parts_height x ≤ d) Any ts
  unfolding function_part
  keeps_function at s1 ts =
      rule_bind (keeps_parameters inner ts) (λ list s2 r2.
      rule_seq keeps_close_paren (λ t s3 r3.
      rule_pure (λ g closes x opens b. record { within = ((b.within, x.within), refl); spelled = rw (b.spelled, opens, x.spelled, closes) refl }) (λ _ low_x _ low_b. omega arith) tt))

  -- the same, where parameters or the closing parenthesis come
  pub keeps_function_here : (at : Place) (s1 ts : List Symbol) → begins_parameters names (first ts) ≡ true
      → Rule IsWritten true true (λ d'. function_part names (rules names d') before at) d
      (λ g x s'. (s1 ≡ Mark mark.OpenParen at ∷ []) → PartsIn names g before s → NextPart names g x (s ++ (s1 ++ s'))) (λ x. Unit {0} → parts_height before ≤ d → parts_height x ≤ d) Any ts
  unfolding function_part parameters
  keeps_function_here at s1 ts begins = by_specifier (begins_specifier names InBlock (first ts)) refl
    where
      by_specifier : (b : Bool) → begins_specifier names InBlock (first ts) ≡ b
          → Rule IsWritten true true (λ d'. function_part names (rules names d') before at) d
          (λ g x s'. (s1 ≡ Mark mark.OpenParen at ∷ []) → PartsIn names g before s → NextPart names g x (s ++ (s1 ++ s'))) (λ x. Unit {0} → parts_height before ≤ d → parts_height x ≤ d) Any ts
      by_specifier true e =
          rule_bind (keeps_parameters_here inner ts e) (λ list s2 r2.
          rule_seq keeps_close_paren (λ t s3 r3.
          rule_pure (λ g closes x opens b. record { within = ((b.within, x.within), refl); spelled = rw (b.spelled, opens, x.spelled, closes) refl }) (λ _ low_x _ low_b. omega arith) tt))
      by_specifier false e =
          rule_like (λ d'. function_part names (rules names d') before at) (λ d'. expect is_close_paren >> pure (tree.AndFunction before at tree.NoParameter)) (λ d' ts' _ start. none_comes d' ts' start)
          (rule_seq (rule_expect_here is_close_paren (Bare separator.CloseParen) (close_paren_here (first ts) (or_right (is_close_paren (first ts)) (begins_specifier names InBlock (first ts)) e begins)) refl) (λ t s2 r2.
          rule_pure (λ g closes opens b. record { within = ((b.within, tt), refl); spelled = rw (b.spelled, opens, closes) refl }) (λ _ _ low_b. omega arith) tt))
        where
          none_comes : (d' : ℕ) (ts' : List Symbol) → Starts true ts ts' → function_part names (rules names d') before at ts' ≡ (expect is_close_paren >> pure (tree.AndFunction before at tree.NoParameter)) ts'
          none_comes d' ts' (same h) = rw (ap (begins_specifier names InBlock) h ∙ e) refl
          none_comes d' ts' (gone h _) = cc

  pub keeps_part : (ts : List Symbol) (x : PartStart) → part_start (first ts) ≡ x → is_part_start x ≡ true
      → Rule IsWritten true true (λ d'. part_step names (rules names d') before) d (λ g y s'. PartsIn names g before s → NextPart names g y (s ++ s')) (λ y. parts_height before ≤ d → parts_height y ≤ d) Any ts
  unfolding part_step with_part
  keeps_part ts (ArrayAt at) e starts =
      rule_told part_start (λ d'. with_part names (rules names d') before) e
      (rule_seq (rule_skip_the (Mark mark.OpenBracket at) (array_here (first ts) at e)) (λ t s1 r1.
      keeps_array at s1 r1))
  keeps_part ts (FunctionAt at) e starts =
      rule_told part_start (λ d'. with_part names (rules names d') before) e
      (rule_seq (rule_skip_the (Mark mark.OpenParen at) (function_here (first ts) at e)) (λ t s1 r1.
      keeps_function at s1 r1))
  keeps_part ts NoPartStart e starts = cc
