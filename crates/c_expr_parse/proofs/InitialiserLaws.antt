-- What the rules for initialisers keep (C99 6.7.8).
use Rattle.std.proofs.Common.{◌≡◌, ℕ, zero, suc, ◌≤◌, Bool, true, false, ◌||◌, Option, Some, None, is_some, List, [], ◌∷◌, ◌++◌, refl, sym, ◌∙◌, ap, append_assoc, append-nil, arith}
use Rattle.std.proofs.lemmas.Bool.{or_parts}
use Rattle.cc_base.specs.declared.place.Place.{Place}
use Rattle.c_lexer.specs.declared.number.IntegerType.TheVariants.{Int}
use Rattle.c_lexer.specs.declared.punctuator.Punctuator.TheVariants as mark
use Rattle.parse_rules.specs.Parsers.{Stopped, Syntax, first, by_first}
use Rattle.parse_rules.specs.Grammars.{Language, Extended, CanBegin, InBoth, Any}
use Rattle.parse_rules.specs.Rules.{Rule}
use Rattle.parse_rules.proofs.Combinators.{rule_pure, rule_bind, rule_seq, rule_branch, rule_told, rule_told_end, rule_weaker, rule_skip_the, rule_unsupported, rule_shallow, rule_deeper}
use Rattle.parse_rules.proofs.Loops.{Steps, rule_loop}
use Rattle.c_tree.specs.declared.leaf.Separator.TheVariants as separator
use Rattle.c_tree.specs.Depth.{items_height, initialiser_height}
use Rattle.c_tree.specs.Grammar.{AreItems, is_no_item}
use Rattle.c_tree.specs.Spelling.{comma, items_spelling, before_item}
use Rattle.c_tree.specs.Symbols.{Symbol, Integer, Mark, Bare}
use Rattle.c_tree.specs.Tree as tree
use Rattle.c_tree.specs.Words.{TypeNames}
use Rattle.c_parse_words.specs.Spells.{Spells}
use Rattle.c_parse_words.specs.Tests.{is_designator, open_brace, begins_expr, begins_initialiser}
use Rattle.c_parse_words.specs.Written.{IsWritten}
use Rattle.c_parse_words.proofs.Closers.{keeps_close_brace}
use Rattle.c_parse_words.proofs.TokenLaws.{comma_here, open_brace_here}
use Rattle.c_parse_words.proofs.Written.{some_place, written_close_brace}
use Rattle.c_expr_parse.specs.Parts.{SpellsInitialiser}
use Rattle.c_expr_parse.specs.Rules.{rules, next_item, item_step, listed, initialiser_list, value, initialiser_from, initialiser}
use Rattle.c_expr_parse.specs.TypeRules.{Series, Upto, goes_on_series}
use Rattle.c_expr_parse.proofs.ExprDepth.{begun, expr_refuses}
use Rattle.c_expr_parse.proofs.ExprLaws.{join, zero_expr, written_zero}
use Rattle.c_expr_parse.proofs.Kept.{InnerKeeps}
use Rattle.c_expr_parse.proofs.OperatorLaws.{keeps_layer}

-- Lists of items.

abbrev pub item_series_spelling : Series tree.Items → List Symbol
item_series_spelling (Upto x true) = before_item x
item_series_spelling (Upto x false) = items_spelling x

abbrev pub items_in : Series tree.Items → tree.Items
items_in (Upto x _) = x

abbrev pub ItemSeries : TypeNames → Language → Series tree.Items → List Symbol → Type 0
ItemSeries names g = Spells (λ x. AreItems g names (items_in x) × (is_no_item (items_in x) ≡ false)) item_series_spelling

pub before_some_item : (x : tree.Items) → is_no_item x ≡ false → before_item x ≡ items_spelling x ++ comma
before_some_item tree.NoItem e = cc
before_some_item (tree.AndItem before value) e = simp append_assoc refl
before_some_item (tree.AndMemberDesignator before at) e = simp append_assoc refl
before_some_item (tree.AndIndexDesignator before at) e = simp append_assoc refl

-- what is known of the rule for the initialisers inside
abbrev pub KeepsInside : TypeNames → ℕ → Type 0
KeepsInside names d = (moves : Bool) (ts : List Symbol) → (moves ≡ true → begins_initialiser names (first ts) ≡ true)
    → Rule IsWritten true moves (λ d'. initialiser names d') d (SpellsInitialiser names) (λ x. initialiser_height x ≤ d) Any ts

module _ {names : TypeNames} {d : ℕ} (inside : KeepsInside names d) where
  designated : (before : tree.Items) (t : Symbol) → is_designator (Some t) ≡ true
      → CanBegin IsWritten (λ x s. AreItems Extended names before → ItemSeries names Extended x (before_item before ++ s)) (t ∷ [])
  designated before (Mark mark.Dot at) e = record { part = Upto (tree.AndMemberDesignator before at) false; more = []; valid = tt; spells = λ w. record { within = ((tt, w), refl); spelled = refl } }
  designated before (Mark mark.OpenBracket at) e = record { part = Upto (tree.AndIndexDesignator before at) false; more = []; valid = tt; spells = λ w. record { within = ((tt, w), refl); spelled = refl } }
  designated before t e = cc

  keeps_next_item : (before : tree.Items) (moves : Bool) (ts : List Symbol) → (moves ≡ true → (is_designator (first ts) || begins_initialiser names (first ts)) ≡ true)
      → Rule IsWritten true moves (λ d'. next_item (initialiser names d') before) d (λ g x s. AreItems g names before → ItemSeries names g x (before_item before ++ s))
      (λ x. items_height before ≤ d → items_height (items_in x) ≤ d) Any ts
  unfolding next_item
  keeps_next_item before moves ts begins =
      rule_unsupported is_designator refl
      (λ _. record { part = Upto (tree.AndItem before (tree.Value zero_expr)) false; more = Integer Int 0 some_place ∷ []; valid = (written_zero, tt); spells = λ g w. record { within = ((w, (tt, omega arith)), refl); spelled = refl } })
      (λ t _ test. designated before t test)
      (λ no_designator. rule_bind (inside moves ts (λ m. no_other (is_designator (first ts)) (begins_initialiser names (first ts)) (begins m) no_designator)) (λ x s r.
      rule_pure (λ g u w. record { within = ((w, u.within), refl); spelled = rw (u.spelled, append-nil) refl }) (λ low low'. omega arith) tt))
    where
      no_other : (a b : Bool) → (a || b) ≡ true → a ≡ false → b ≡ true
      no_other true b e f = cc
      no_other false b e f = e

  pub item_keeps : Steps IsWritten true d goes_on_series (λ d' x. item_step names (initialiser names d') x) (ItemSeries names) (λ x. items_height (items_in x) ≤ d) Any
  unfolding item_step
  item_keeps = record {
    never = λ x. never x;
    at_end = λ x. tt;
    steps = λ x s rest _ goes. step x s rest goes;
  }
    where
      never : (x : Series tree.Items) → goes_on_series x None ≡ false
      never (Upto x true) = refl
      never (Upto x false) = refl

      step : (x : Series tree.Items) (s rest : List Symbol) → goes_on_series x (first rest) ≡ true
          → Rule IsWritten true true (λ d'. item_step names (initialiser names d') x) d (λ g y s'. ItemSeries names g x s → ItemSeries names g y (s ++ s'))
          (λ y. items_height (items_in x) ≤ d → items_height (items_in y) ≤ d) Any rest
      step (Upto x true) s rest goes = cc
      step (Upto x false) s rest goes =
          rule_seq (rule_skip_the (Bare separator.Comma) (comma_here (first rest) goes)) (λ t s1 r1.
          rule_branch (λ next. is_designator next || begins_initialiser names next) refl
          (λ more.
          rule_weaker
          (λ g y s' h c u. record { within = (h u.within.0).within; spelled = join (items_spelling x) comma (before_item x) s s1 s' (item_series_spelling y) u.spelled c (before_some_item x u.within.1) (h u.within.0).spelled })
          (λ y h _ low. h low) (λ y r e. tt)
          (keeps_next_item x true r1 (λ _. more)))
          (λ _. rule_pure (λ g c u. record { within = u.within; spelled = rw (u.spelled, c) (sym (before_some_item x u.within.1)) }) (λ _ low. low) tt))

  keeps_listed : (brace : Place) (series : Series tree.Items) (s1 s2 s3 : List Symbol) (ts : List Symbol)
      → Rule IsWritten true false (λ d'. listed brace series) d
      (λ g x s'. s3 ≡ Bare separator.CloseBrace ∷ [] → ItemSeries names g series (s1 ++ s2) → SpellsInitialiser names g x (Mark mark.OpenBrace brace ∷ (s1 ++ (s2 ++ (s3 ++ s')))))
      (λ x. items_height (items_in series) ≤ d → initialiser_height x ≤ suc d) Any ts
  unfolding listed
  keeps_listed brace (Upto x true) s1 s2 s3 ts =
      rule_pure (λ g c u. record { within = u.within; spelled = ap (λ z. Mark mark.OpenBrace brace ∷ z) (rw (← append_assoc s1 s2 (s3 ++ []), u.spelled, c) refl) }) (λ low. omega arith) tt
  keeps_listed brace (Upto x false) s1 s2 s3 ts =
      rule_pure (λ g c u. record { within = u.within; spelled = ap (λ z. Mark mark.OpenBrace brace ∷ z) (rw (← append_assoc s1 s2 (s3 ++ []), u.spelled, c) refl) }) (λ low. omega arith) tt

  keeps_list : (brace : Place) (ts : List Symbol)
      → Rule IsWritten true false (λ d'. initialiser_list names (initialiser names d') brace) d (λ g x s. SpellsInitialiser names g x (Mark mark.OpenBrace brace ∷ s)) (λ x. initialiser_height x ≤ suc d) Any ts
  unfolding initialiser_list
  keeps_list brace ts =
      rule_bind (keeps_next_item tree.NoItem false ts (λ m. cc)) (λ first_ s1 r1.
      rule_bind (rule_weaker (λ g x s h. h) (λ x low. low) (λ x r e. tt) (rule_loop item_keeps first_ s1 (λ g u. u) (λ low. low) tt)) (λ series s2 r2.
      rule_seq keeps_close_brace (λ c s3 r3.
      rule_weaker (λ g x s' h close looped begun_. h close (looped (begun_ tt))) (λ x h _ looped low. h (looped (low (omega arith)))) (λ x r e. e)
      (keeps_listed brace series s1 s2 s3 r3))))

-- One initialiser, where all the rules for expressions are known.

no_brace_or_expr : (names : TypeNames) (next : Option Symbol) → open_brace next ≡ None → begins_initialiser names next ≡ true → begins_expr names next ≡ true
no_brace_or_expr names next none some = second (open_brace next) (begins_expr names next) none some
  where
    second : (o : Option Place) (b : Bool) → o ≡ None → (is_some o || b) ≡ true → b ≡ true
    second None b e h = h
    second (Some at) b e h = cc

keeps_from : (names : TypeNames) (d : ℕ) → InnerKeeps names d → KeepsInside names d → (moves : Bool) (ts : List Symbol) (o : Option Place) → open_brace (first ts) ≡ o → (moves ≡ true → begins_initialiser names (first ts) ≡ true)
    → Rule IsWritten true moves (λ d'. by_first open_brace (initialiser_from names (rules names (suc d')) (initialiser names d'))) d (SpellsInitialiser names) (λ x. initialiser_height x ≤ suc d) Any ts
unfolding initialiser_from value rules
keeps_from names d inner inside moves ts (Some brace) here begins =
    rule_told open_brace (λ d'. initialiser_from names (rules names (suc d')) (initialiser names d')) here
    (rule_seq (rule_skip_the (Mark mark.OpenBrace brace) (open_brace_here (first ts) brace here)) (λ t s1 r1.
    rule_weaker (λ g x s' h is. rw is h) (λ x low _. low) (λ x r e. e) (keeps_list inside brace r1)))
keeps_from names d inner inside moves ts None here begins =
    rule_told_end open_brace (λ d'. initialiser_from names (rules names (suc d')) (initialiser names d')) here
    (rule_bind (rule_weaker (λ g e s h. h) (λ e low. low) (λ e r h. tt) (keeps_layer names d inner 1 moves ts (omega arith) (λ m. no_brace_or_expr names (first ts) here (begins m)))) (λ e s r.
    rule_pure (λ g u. record { within = u.within; spelled = append-nil s ∙ u.spelled }) (λ low. low) tt))

-- a token that begins an initialiser
some_initialiser : (names : TypeNames) (t : Symbol) (o : Option Place) → open_brace (Some t) ≡ o → begins_initialiser names (Some t) ≡ true → CanBegin IsWritten (InBoth (SpellsInitialiser names)) (t ∷ [])
some_initialiser names t (Some brace) here some =
    let is : Some t ≡ Some (Mark mark.OpenBrace brace) = open_brace_here (Some t) brace here in
    record {
      part = tree.Listed brace (tree.AndItem tree.NoItem (tree.Value zero_expr)) false;
      more = Integer Int 0 some_place ∷ Bare separator.CloseBrace ∷ [];
      valid = (written_zero, (written_close_brace, tt));
      spells = λ g. record { within = ((tt, (tt, omega arith)), refl); spelled = cc };
    }
some_initialiser names t None here some =
    let h = begun names t (no_brace_or_expr names (Some t) here some) in
    record { part = tree.Value h.e; more = h.more; valid = h.valid; spells = λ g. record { within = (h.within g, omega (arith, h.high)); spelled = h.spelled } }

initialiser_refuses : (names : TypeNames) (d : ℕ) (ts : List Symbol) → begins_initialiser names (first ts) ≡ false → initialiser names d ts ≡ Stopped Syntax ts
unfolding initialiser initialiser_from value
initialiser_refuses names zero ts none = rw none refl
initialiser_refuses names (suc d) ts none =
    let parts = or_parts (is_some (open_brace (first ts))) (begins_expr names (first ts)) none in
    rw (nothing_at (open_brace (first ts)) parts.0) (rw (expr_refuses names (suc d) 1 ts parts.1) refl)
  where
    nothing_at : (o : Option Place) → is_some o ≡ false → o ≡ None
    nothing_at None e = refl
    nothing_at (Some at) e = cc

pub keeps_initialiser : (names : TypeNames) → ((d : ℕ) → InnerKeeps names d) → (d : ℕ) → KeepsInside names d
unfolding initialiser
keeps_initialiser names all zero moves ts begins =
    rule_shallow (begins_initialiser names) refl begins (λ ts' some. rw some refl) (λ d' ts' none. initialiser_refuses names d' ts' none)
    (record { part = tree.Value zero_expr; more = Integer Int 0 some_place ∷ []; valid = (written_zero, tt); spells = λ g. record { within = (tt, omega arith); spelled = refl } })
    (λ t some. some_initialiser names t (open_brace (Some t)) refl some)
keeps_initialiser names all (suc d) moves ts begins = rule_deeper (keeps_from names d (all d) (keeps_initialiser names all d) moves ts (open_brace (first ts)) refl begins)
