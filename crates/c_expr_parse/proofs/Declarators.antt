-- What the rules for declarators keep (C99 6.7.5, 6.7.6).
use Rattle.std.proofs.Common.{◌≡◌, ℕ, suc, ◌≤◌, Bool, true, false, ◌&&◌, ◌||◌, cond, Option, Some, is_some, List, [], ◌∷◌, ◌++◌, refl, sym, ◌∙◌, ap, subst, append_assoc, append-nil, true≢false, arith}
use Rattle.std.specs.List.{All}
use Rattle.cc_base.specs.declared.place.Place.{Place}
use Rattle.c_lexer.specs.declared.punctuator.Punctuator.TheVariants as mark
use Rattle.parse_rules.specs.Parsers.{first, next, by_first, refuse, loop, ◌>>=◌}
use Rattle.parse_rules.specs.Grammars.{Language, Any}
use Rattle.parse_rules.specs.Rules.{Rule}
use Rattle.parse_rules.proofs.Composition.{rule_like, Starts, same, gone}
use Rattle.parse_rules.proofs.Combinators.{rule_pure, rule_refuse, rule_bind, rule_seq, rule_branch, rule_told, rule_told_end, rule_weaker, rule_skip_the, rule_may_stay}
use Rattle.parse_rules.proofs.Loops.{Steps, rule_loop, rule_loop_moves, rule_loop_first, loop_stops}
use Rattle.c_tree.specs.declared.leaf.Identifier.{Identifier}
use Rattle.c_tree.specs.declared.leaf.Star.{Star}
use Rattle.c_tree.specs.declared.leaf.Separator.TheVariants as separator
use Rattle.c_tree.specs.Depth.{core_height, parts_height, declarator_height}
use Rattle.c_tree.specs.Grammar.{Naming, WithName, WithoutName, WithOrWithout, HasQualifiers, MayName, IsCore, AreParts, IsSome}
use Rattle.c_tree.specs.Spelling.{name_symbol, stars_spelling, core_spelling, parts_spelling}
use Rattle.c_tree.specs.Symbols.{Symbol, Mark, Bare}
use Rattle.c_tree.specs.Tree as tree
use Rattle.c_tree.specs.Words.{TypeNames}
use Rattle.c_parse_words.specs.WordRules.{star_step}
use Rattle.c_parse_words.specs.Tests.{star_sign, open_bracket, begins_parameters, begins_part, part_start, begins_declarator, CoreStart, CoreName, CoreParen, NoCore, core_start, is_core, may_omit_name}
use Rattle.c_parse_words.specs.Written.{IsWritten}
use Rattle.c_parse_words.proofs.Closers.{keeps_close_paren}
use Rattle.c_parse_words.proofs.DeclaratorTokens.{core_name_here, core_paren_here, may_have_name, may_have_none}
use Rattle.c_parse_words.proofs.Fresh.{fresh_name, fresh_name_is_new, written_fresh_name}
use Rattle.c_parse_words.proofs.WordLaws.{StarsIn, star_steps}
use Rattle.c_parse_words.proofs.Written.{some_place, written_close_bracket, written_open_bracket}
use Rattle.c_expr_parse.specs.DeclaratorRules.{part_step, parts_from, nested, unnamed_function, after_core_paren, unnamed, with_core, declarator_layer}
use Rattle.c_expr_parse.specs.Parts.{SpellsDeclarator}
use Rattle.c_expr_parse.specs.Rules.{rules}
use Rattle.c_expr_parse.proofs.Kept.{InnerKeeps}
use Rattle.c_expr_parse.proofs.Parts.{NextPart, is_no_part, keeps_function_here, keeps_part}

-- a declarator with a part, a name, a nested one or a star is some declarator
some_part : (stars : List Star) (core : tree.Core) (x : tree.Parts) → is_no_part x ≡ false → IsSome stars core x
some_part [] tree.Unnamed tree.NoPart e = cc
some_part stars core x e = tt

some_name : (stars : List Star) (name : Identifier) (x : tree.Parts) → IsSome stars (tree.Names name) x
some_name [] name x = tt
some_name (star ∷ stars) name x = tt

some_nested : (stars : List Star) (at : Place) (inside : tree.Declarator) (x : tree.Parts) → IsSome stars (tree.Nested at inside) x
some_nested [] at inside x = tt
some_nested (star ∷ stars) at inside x = tt

bracket_begins : (o : Option Symbol) → is_some (open_bracket o) ≡ true → begins_part o ≡ true
bracket_begins (Some (Mark mark.OpenBracket at)) e = refl
bracket_begins o e = cc

may_name_if : (naming : Naming) → may_omit_name naming ≡ false → MayName naming
may_name_if WithName e = tt
may_name_if WithoutName e = cc
may_name_if WithOrWithout e = cc

core_or_bracket : (star core may bracket : Bool) → (star || (core || (may && bracket))) ≡ true → star ≡ false → core ≡ false → (may ≡ true) × (bracket ≡ true)
core_or_bracket true core may bracket h e f = cc
core_or_bracket false true may bracket h e f = cc
core_or_bracket false false true true h e f = (refl, refl)
core_or_bracket false false true false h e f = cc
core_or_bracket false false false bracket h e f = cc

-- The declarator up to its parts so far, which may still have none of what makes it some declarator.
pub record Upto (names : TypeNames) (naming : Naming) (stars : List Star) (core : tree.Core) (g : Language) (x : tree.Parts) (s : List Symbol) : Type 0 where
  pub stars_in : All HasQualifiers stars
  pub core_in : IsCore g names naming core
  pub parts_in : AreParts g names x
  pub spelled : s ≡ stars_spelling stars ++ (core_spelling core ++ parts_spelling x)

module _ {names : TypeNames} {d : ℕ} (inner : InnerKeeps names d) (naming : Naming) where
  -- a further part
  keeps_next_part : (stars : List Star) (core : tree.Core) (x : tree.Parts) (s ts : List Symbol) → begins_part (first ts) ≡ true
      → Rule IsWritten true true (λ d'. part_step names (rules names d') x) d (λ g y s'. Upto names naming stars core g x s → SpellsDeclarator names naming g (tree.Declares stars core y) (s ++ s'))
      (λ y. parts_height x ≤ d → parts_height y ≤ d) Any ts
  keeps_next_part stars core x s ts goes =
      rule_weaker (λ g y s' h u. with_it g y s' u (h (record { within = u.parts_in; spelled = refl }))) (λ y low. low) (λ y rest e. e)
      (keeps_part inner x (parts_spelling x) ts (part_start (first ts)) refl goes)
    where
      with_it : (g : Language) (y : tree.Parts) (s' : List Symbol) → Upto names naming stars core g x s → NextPart names g y (parts_spelling x ++ s') → SpellsDeclarator names naming g (tree.Declares stars core y) (s ++ s')
      with_it g y s' u h = record {
        within = (u.stars_in, u.core_in, h.within.0, some_part stars core y h.within.1);
        spelled = rw (u.spelled, append_assoc (stars_spelling stars) (core_spelling core ++ parts_spelling x) s', append_assoc (core_spelling core) (parts_spelling x) s', h.spelled) refl;
      }

  pub part_steps : (stars : List Star) (core : tree.Core)
      → Steps IsWritten true d (λ _. begins_part) (λ d'. part_step names (rules names d')) (λ g x. SpellsDeclarator names naming g (tree.Declares stars core x)) (λ x. parts_height x ≤ d) Any
  part_steps stars core = record {
    never = λ _. refl;
    at_end = λ _. tt;
    steps = λ x s rest _ goes.
        rule_weaker (λ g y s' h u. h (record { stars_in = u.within.0; core_in = u.within.1; parts_in = u.within.2; spelled = u.spelled })) (λ y low. low) (λ y rest' e. e) (keeps_next_part stars core x s rest goes);
  }

  -- the parts, where there is some declarator already
  keeps_parts : (stars : List Star) (core : tree.Core) (x : tree.Parts) (s ts : List Symbol)
      → Rule IsWritten true false (λ d'. parts_from names (rules names d') stars core x) d
      (λ g y s'. SpellsDeclarator names naming g (tree.Declares stars core x) s → SpellsDeclarator names naming g y (s ++ s'))
      (λ y. core_height core ≤ d → parts_height x ≤ d → declarator_height y ≤ suc d) Any ts
  unfolding parts_from
  keeps_parts stars core x s ts =
      rule_bind (rule_weaker (λ g y s' h. h) (λ y low. low) (λ y rest e. tt) (rule_loop (part_steps stars core) x s (λ g u. u) (λ low. low) tt)) (λ y s1 r1.
      rule_pure (λ g u b. rw (append-nil s1) (u b)) (λ low low_core low_x. omega arith) tt)

  -- the parts, where one comes
  keeps_first_parts : (stars : List Star) (core : tree.Core) (s ts : List Symbol) → begins_part (first ts) ≡ true
      → Rule IsWritten true true (λ d'. parts_from names (rules names d') stars core tree.NoPart) d
      (λ g y s'. Upto names naming stars core g tree.NoPart s → SpellsDeclarator names naming g y (s ++ s')) (λ y. core_height core ≤ d → declarator_height y ≤ suc d) Any ts
  unfolding parts_from
  keeps_first_parts stars core s ts goes =
      rule_bind (rule_weaker (λ g y s' h. h) (λ y low. low) (λ y rest e. tt) (rule_loop_first (part_steps stars core) tree.NoPart s goes (keeps_next_part stars core tree.NoPart s ts goes))) (λ y s1 r1.
      rule_pure (λ g u b. rw (append-nil s1) (u b)) (λ low low_core. omega arith) tt)

  -- after a `(`, a declarator in parentheses; what stands before it was read as s
  keeps_nested : (stars : List Star) (at : Place) (s s1 ts : List Symbol)
      → Rule IsWritten true false (λ d'. nested names (rules names d') naming stars at) d
      (λ g y s'. (s1 ≡ Mark mark.OpenParen at ∷ []) → StarsIn g stars s → SpellsDeclarator names naming g y (s ++ (s1 ++ s'))) (λ y. Unit {0} → Unit {0} → declarator_height y ≤ suc d) Any ts
  unfolding nested
  keeps_nested stars at s s1 ts =
      rule_bind (inner.declarator naming false ts (λ m. cc)) (λ x s2 r2.
      rule_seq keeps_close_paren (λ t s3 r3.
      rule_weaker
      (λ g y s' h closes x_in opens st. simp append_assoc at (h (record {
        within = (st.within, x_in.within, tt, some_nested stars at x tree.NoPart);
        spelled = rw (st.spelled, opens, x_in.spelled, closes) (ap (λ z. stars_spelling stars ++ z) (sym (append-nil (core_spelling (tree.Nested at x)))));
      })))
      (λ y low _ low_x _ _. low low_x (omega arith)) (λ y rest e. e) (keeps_parts stars (tree.Nested at x) tree.NoPart (s ++ (s1 ++ (s2 ++ s3))) r3)))

  -- after a `(`, parameters of a declarator without a name
  keeps_unnamed_function : may_omit_name naming ≡ true → (stars : List Star) (at : Place) (s s1 ts : List Symbol) → begins_parameters names (first ts) ≡ true
      → Rule IsWritten true true (λ d'. unnamed_function names (rules names d') stars at) d
      (λ g y s'. (s1 ≡ Mark mark.OpenParen at ∷ []) → StarsIn g stars s → SpellsDeclarator names naming g y (s ++ (s1 ++ s'))) (λ y. Unit {0} → Unit {0} → declarator_height y ≤ suc d) Any ts
  unfolding unnamed_function
  keeps_unnamed_function none stars at s s1 ts begins =
      rule_bind (keeps_function_here inner tree.NoPart [] at s1 ts begins) (λ x s2 r2.
      rule_weaker
      (λ g y s' h u opens st. simp append_assoc at (h (with_it g x s2 (st.within) (st.spelled) (u opens (record { within = tt; spelled = refl })))))
      (λ y low low_x _ _. low (omega arith) (low_x tt (omega arith))) (λ y rest e. e) (keeps_parts stars tree.Unnamed x (s ++ (s1 ++ s2)) r2))
    where
      with_it : (g : Language) (x : tree.Parts) (s2 : List Symbol) → All HasQualifiers stars → s ≡ stars_spelling stars → NextPart names g x (s1 ++ s2) → SpellsDeclarator names naming g (tree.Declares stars tree.Unnamed x) (s ++ (s1 ++ s2))
      with_it g x s2 stars_in e u = record { within = (stars_in, may_have_none naming none, u.within.0, some_part stars tree.Unnamed x u.within.1); spelled = rw (e, u.spelled) refl }

  -- a declarator without a name or parentheses
  keeps_unnamed : may_omit_name naming ≡ true → (stars : List Star) (s ts : List Symbol) (moves : Bool) → (moves ≡ true → (stars ≡ []) × (is_some (open_bracket (first ts)) ≡ true))
      → Rule IsWritten true moves (λ d'. unnamed names (rules names d') stars) d (λ g y s'. StarsIn g stars s → SpellsDeclarator names naming g y (s ++ s')) (λ y. Unit {0} → declarator_height y ≤ suc d) Any ts
  unfolding unnamed
  keeps_unnamed none (star ∷ stars) s ts true moved =
      let no : (star ∷ stars) ≡ [] = (moved refl).0 in
      cc
  keeps_unnamed none (star ∷ stars) s ts false moved =
      rule_weaker
      (λ g y s' h st. h (record { within = (st.within, may_have_none naming none, tt, tt); spelled = st.spelled ∙ sym (append-nil (stars_spelling (star ∷ stars))) }))
      (λ y low _. low (omega arith) (omega arith)) (λ y rest e. e) (keeps_parts (star ∷ stars) tree.Unnamed tree.NoPart s ts)
  keeps_unnamed none [] s ts moves moved =
      rule_branch (λ next. is_some (open_bracket next)) refl
      (λ opens. rule_weaker
      (λ g y s' h st. h (record { stars_in = st.within; core_in = may_have_none naming none; parts_in = tt; spelled = st.spelled }))
      (λ y low _. low (omega arith)) (λ y rest e. e) (keeps_first_parts [] tree.Unnamed s ts (bracket_begins (first ts) opens)))
      (λ fails. refused moves (λ m. (moved m).1) fails)
    where
      refused : (moves : Bool) → (moves ≡ true → is_some (open_bracket (first ts)) ≡ true) → is_some (open_bracket (first ts)) ≡ false
          → Rule IsWritten true moves (λ d'. refuse) d (λ g y s'. StarsIn g [] s → SpellsDeclarator names naming g y (s ++ s')) (λ y. Unit {0} → declarator_height y ≤ suc d) Any ts
      refused true moved fails = absurd (true≢false (sym (moved refl) ∙ fails))
      refused false moved fails = rule_refuse (record {
        part = tree.Declares [] tree.Unnamed (tree.AndArray tree.NoPart some_place []);
        more = Mark mark.OpenBracket some_place ∷ Bare separator.CloseBracket ∷ [];
        valid = (written_open_bracket some_place, (written_close_bracket, tt));
        spells = λ g st. record { within = (st.within, may_have_none naming none, (tt, refl), tt); spelled = rw (st.spelled) refl };
      })

module _ {names : TypeNames} {d : ℕ} (inner : InnerKeeps names d) where
  keeps_core_paren : (naming : Naming) (stars : List Star) (at : Place) (s s1 ts : List Symbol)
      → Rule IsWritten true false (λ d'. after_core_paren names (rules names d') naming stars at) d
      (λ g y s'. (s1 ≡ Mark mark.OpenParen at ∷ []) → StarsIn g stars s → SpellsDeclarator names naming g y (s ++ (s1 ++ s'))) (λ y. Unit {0} → Unit {0} → declarator_height y ≤ suc d) Any ts
  unfolding after_core_paren
  keeps_core_paren WithName stars at s s1 ts = keeps_nested inner WithName stars at s s1 ts
  keeps_core_paren WithoutName stars at s s1 ts =
      rule_branch (begins_parameters names) refl (λ begins. keeps_unnamed_function inner WithoutName refl stars at s s1 ts begins) (λ _. keeps_nested inner WithoutName stars at s s1 ts)
  keeps_core_paren WithOrWithout stars at s s1 ts =
      rule_branch (begins_parameters names) refl (λ begins. keeps_unnamed_function inner WithOrWithout refl stars at s s1 ts begins) (λ _. keeps_nested inner WithOrWithout stars at s s1 ts)

  keeps_no_core : (naming : Naming) (stars : List Star) (s ts : List Symbol) (moves b : Bool) → may_omit_name naming ≡ b → (moves ≡ true → (b ≡ true) × (stars ≡ []) × (is_some (open_bracket (first ts)) ≡ true))
      → Rule IsWritten true moves (λ d'. cond b (unnamed names (rules names d') stars) refuse) d (λ g y s'. StarsIn g stars s → SpellsDeclarator names naming g y (s ++ s')) (λ y. Unit {0} → declarator_height y ≤ suc d) Any ts
  keeps_no_core naming stars s ts moves true e moved = keeps_unnamed inner naming e stars s ts moves (λ m. ((moved m).1, (moved m).2))
  keeps_no_core naming stars s ts true false e moved = absurd (true≢false (sym (moved refl).0))
  keeps_no_core naming stars s ts false false e moved = rule_refuse (record {
    part = tree.Declares stars (tree.Names (fresh_name names)) tree.NoPart;
    more = name_symbol (fresh_name names) ∷ [];
    valid = (written_fresh_name names, tt);
    spells = λ g st. record { within = (st.within, (may_name_if naming e, fresh_name_is_new names), tt, some_name stars (fresh_name names) tree.NoPart); spelled = rw (st.spelled) refl };
  })

  -- what comes after the stars, which were read as s
  keeps_core : (naming : Naming) (stars : List Star) (s ts : List Symbol) (moves : Bool) (c : CoreStart) → core_start names naming (first ts) ≡ c
      → (moves ≡ true → (is_core c ≡ false) → (may_omit_name naming ≡ true) × (stars ≡ []) × (is_some (open_bracket (first ts)) ≡ true))
      → Rule IsWritten true moves (λ d'. by_first (core_start names naming) (with_core names (rules names d') naming stars)) d
      (λ g y s'. StarsIn g stars s → SpellsDeclarator names naming g y (s ++ s')) (λ y. Unit {0} → declarator_height y ≤ suc d) Any ts
  unfolding with_core
  keeps_core naming stars s ts moves (CoreName name) e moved =
      rule_told (core_start names naming) (λ d'. with_core names (rules names d') naming stars) e
      (rule_seq (rule_skip_the (name_symbol name) (core_name_here names naming (first ts) name e).0) (λ t s1 r1.
      rule_weaker
      (λ g y s' h called st. subst (λ z. SpellsDeclarator names naming g y z) (append_assoc s s1 s') (h (record {
        within = (st.within, (may_have_name naming (core_name_here names naming (first ts) name e).1, (core_name_here names naming (first ts) name e).2), tt, some_name stars name tree.NoPart);
        spelled = rw (st.spelled, called) refl;
      })))
      (λ y low _ _. low (omega arith) (omega arith)) (λ y rest x. x) (keeps_parts inner naming stars (tree.Names name) tree.NoPart (s ++ s1) r1)))
  keeps_core naming stars s ts moves (CoreParen at) e moved =
      rule_told (core_start names naming) (λ d'. with_core names (rules names d') naming stars) e
      (rule_seq (rule_skip_the (Mark mark.OpenParen at) (core_paren_here names naming (first ts) at e)) (λ t s1 r1.
      keeps_core_paren naming stars at s s1 r1))
  keeps_core naming stars s ts moves NoCore e moved =
      rule_told_end (core_start names naming) (λ d'. with_core names (rules names d') naming stars) e
      (keeps_no_core naming stars s ts moves (may_omit_name naming) refl (λ m. moved m refl))

  pub keeps_declarator : (naming : Naming) (moves : Bool) (ts : List Symbol) → (moves ≡ true → begins_declarator names naming (first ts) ≡ true)
      → Rule IsWritten true moves (λ d'. declarator_layer names (rules names d') naming) d (SpellsDeclarator names naming) (λ y. declarator_height y ≤ suc d) Any ts
  unfolding declarator_layer
  keeps_declarator naming moves ts moved = by_star (is_some (star_sign (first ts))) refl
    where
      by_star : (b : Bool) → is_some (star_sign (first ts)) ≡ b
          → Rule IsWritten true moves (λ d'. loop (λ _ next. is_some (star_sign next)) star_step [] >>= (λ stars. by_first (core_start names naming) (with_core names (rules names d') naming stars))) d (SpellsDeclarator names naming) (λ y. declarator_height y ≤ suc d) Any ts
      by_star true e =
          rule_may_stay (rule_bind (rule_weaker (λ g x s h. h (record { within = λ k x h. absurd (omega arith); spelled = refl })) (λ x low. low tt) (λ x rest h. tt)
          (rule_loop_moves star_steps [] [] (λ g (u : StarsIn g [] []). u) (λ (low : Unit {0}). low) tt e)) (λ stars s rest.
          keeps_core naming stars s rest false (core_start names naming (first rest)) refl (λ m. cc)))
      by_star false e =
          rule_like (λ d'. loop (λ _ next. is_some (star_sign next)) star_step [] >>= (λ stars. by_first (core_start names naming) (with_core names (rules names d') naming stars))) (λ d'. by_first (core_start names naming) (with_core names (rules names d') naming []))
          (λ d' ts' _ start. no_star d' ts' start)
          (rule_weaker (λ g y s' h. h (record { within = λ k x h. absurd (omega arith); spelled = refl })) (λ y low. low tt) (λ y rest h. h)
          (keeps_core naming [] [] ts moves (core_start names naming (first ts)) refl (λ m none. let x = core_or_bracket (is_some (star_sign (first ts))) (is_core (core_start names naming (first ts))) (may_omit_name naming) (is_some (open_bracket (first ts))) (moved m) e none in (x.0, refl, x.1))))
        where
          stays : (ts' : List Symbol) → Starts moves ts ts' → is_some (star_sign (first ts')) ≡ false
          stays ts' (same h) = ap (λ o. is_some (star_sign o)) h ∙ e
          stays ts' (gone _ h) = rw h refl

          no_star : (d' : ℕ) (ts' : List Symbol) → Starts moves ts ts' → (loop (λ _ next. is_some (star_sign next)) star_step [] >>= (λ stars. by_first (core_start names naming) (with_core names (rules names d') naming stars))) ts' ≡ by_first (core_start names naming) (with_core names (rules names d') naming []) ts'
          no_star d' ts' start =
              ap (λ r. next r (λ stars. by_first (core_start names naming) (with_core names (rules names d') naming stars))) (loop_stops (λ _ other. is_some (star_sign other)) star_step [] ts' (stays ts' start))
