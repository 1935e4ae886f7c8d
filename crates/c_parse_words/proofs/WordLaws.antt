-- What the rules for words in array parts and for stars keep (C99 6.7.5).
use Rattle.std.proofs.Common.{◌≡◌, ℕ, Bool, true, false, ◌&&◌, ◌||◌, cond, is_some, List, [], ◌∷◌, ◌++◌, map, length, ◌==◌, refl, sym, ◌∙◌, ap, append_assoc, append-nil}
use Rattle.std.specs.List.{All}
use Rattle.std.proofs.lemmas.List.{map-append}
use Rattle.std.proofs.lemmas.List.Elements.{All-push}
use Rattle.std.proofs.lemmas.List.Folds.{list_all-append}
use Rattle.c_lexer.specs.declared.punctuator.Punctuator.TheVariants as mark
use Rattle.parse_rules.specs.Grammars.{Language, Any}
use Rattle.parse_rules.proofs.Combinators.{rule_pure, rule_bind, rule_weaker}
use Rattle.parse_rules.proofs.Loops.{Steps, rule_loop}
use Rattle.c_tree.specs.declared.leaf.Star.{Star}
use Rattle.c_tree.specs.declared.leaf.Word.{Word as PlacedWord}
use Rattle.c_tree.specs.Grammar.{HasQualifiers}
use Rattle.c_tree.specs.Spelling.{word_symbol, star_spelling, stars_spelling}
use Rattle.c_tree.specs.Symbols.{Symbol, Mark}
use Rattle.c_tree.specs.Words.{is_qualifier, is_static_word, has_static, are_qualifiers, end_in_static, are_array_words}
use Rattle.c_parse_words.specs.WordRules.{next_array_word, next_qualifier, star_step}
use Rattle.c_parse_words.specs.Spells.{Spells}
use Rattle.c_parse_words.specs.Tests.{star_sign, qualifier_word, array_word}
use Rattle.c_parse_words.specs.Written.{IsWritten}
use Rattle.c_parse_words.proofs.DeclaratorTokens.{tells_star, tells_qualifier, qualifier_told, tells_array_word, array_word_told}
use Rattle.c_parse_words.proofs.Take.{rule_take_here}

-- Words.

words_more : (words : List PlacedWord) (word : PlacedWord) (s s' : List Symbol) → s ≡ map word_symbol words → s' ≡ word_symbol word ∷ [] → s ++ (s' ++ []) ≡ map word_symbol (words ++ word ∷ [])
words_more words word s s' e e' = rw (e, e', map-append) refl

-- a list of words that passes without `static` is one of qualifiers
no_static_step : (static qualifier here rest others : Bool) → cond static here (qualifier && rest) ≡ true → (static || others) ≡ false → (static ≡ false) × (qualifier ≡ true) × (rest ≡ true) × (others ≡ false)
no_static_step true qualifier here rest others e f = cc
no_static_step false true here true others e f = (refl, refl, refl, f)
no_static_step false true here false others e f = cc
no_static_step false false here rest others e f = cc

ends_in_qualifier : (words : List PlacedWord) → end_in_static words ≡ true → has_static words ≡ false → are_qualifiers words ≡ true
ends_in_qualifier [] e f = refl
ends_in_qualifier (word ∷ words) e f =
    let parts = no_static_step (is_static_word word.keyword) (is_qualifier word.keyword) (length words == 0) (end_in_static words) (has_static words) e f in
    rw (parts.1, ends_in_qualifier words parts.2 parts.3) refl

pub no_static : (words : List PlacedWord) → are_array_words words ≡ true → has_static words ≡ false → are_qualifiers words ≡ true
no_static [] e f = refl
no_static (word ∷ words) e f =
    let parts = no_static_step (is_static_word word.keyword) (is_qualifier word.keyword) (are_qualifiers words) (end_in_static words) (has_static words) e f in
    rw (parts.1, ends_in_qualifier words parts.2 parts.3) refl

abbrev pub ArrayWords : Language → List PlacedWord → List Symbol → Type 0
ArrayWords g = Spells (λ words. are_array_words words ≡ true) (map word_symbol)

pub array_word_steps : {d : ℕ} → Steps IsWritten true d (λ words next. is_some (array_word words next)) (λ _. next_array_word) ArrayWords (λ _. Unit {0}) Any
unfolding next_array_word
array_word_steps = record {
  never = λ _. refl;
  at_end = λ _. tt;
  steps = λ words s rest _ goes.
      rule_bind (rule_take_here (array_word words) word_symbol (tells_array_word words) goes) (λ word s1 r1.
      rule_pure (λ g told w. record { within = array_word_told words word told.told; spelled = words_more words word s s1 w.spelled told.spelled }) (λ _ _. tt) tt);
}

-- Stars.

abbrev pub Qualifiers : Language → List PlacedWord → List Symbol → Type 0
Qualifiers g = Spells (λ words. are_qualifiers words ≡ true) (map word_symbol)

qualifiers_more : (words : List PlacedWord) (word : PlacedWord) → are_qualifiers words ≡ true → is_qualifier word.keyword ≡ true → are_qualifiers (words ++ word ∷ []) ≡ true
qualifiers_more words word e f = list_all-append (λ x. is_qualifier x.keyword) words (word ∷ []) ∙ rw (e, f) refl

pub qualifier_steps : {d : ℕ} → Steps IsWritten true d (λ _ next. is_some (qualifier_word next)) (λ _. next_qualifier) Qualifiers (λ _. Unit {0}) Any
unfolding next_qualifier
qualifier_steps = record {
  never = λ _. refl;
  at_end = λ _. tt;
  steps = λ words s rest _ goes.
      rule_bind (rule_take_here qualifier_word word_symbol tells_qualifier goes) (λ word s1 r1.
      rule_pure (λ g told w. record { within = qualifiers_more words word w.within (qualifier_told word told.told); spelled = words_more words word s s1 w.spelled told.spelled }) (λ _ _. tt) tt);
}

abbrev pub StarsIn : Language → List Star → List Symbol → Type 0
StarsIn g = Spells (All HasQualifiers) stars_spelling

stars_more : (stars : List Star) (star : Star) → stars_spelling (stars ++ star ∷ []) ≡ stars_spelling stars ++ star_spelling star
stars_more [] star = append-nil (star_spelling star)
stars_more (other ∷ stars) star = ap (λ x. star_spelling other ++ x) (stars_more stars star) ∙ sym (append_assoc (star_spelling other) (stars_spelling stars) (star_spelling star))

pub star_steps : {d : ℕ} → Steps IsWritten true d (λ _ next. is_some (star_sign next)) (λ _. star_step) StarsIn (λ _. Unit {0}) Any
unfolding star_step
star_steps = record {
  never = λ _. refl;
  at_end = λ _. tt;
  steps = λ stars s rest _ goes.
      rule_bind (rule_take_here star_sign (λ at. Mark mark.Star at) tells_star goes) (λ at s1 r1.
      rule_bind (rule_weaker (λ g w s h. h (record { within = refl; spelled = refl })) (λ w low. low tt) (λ w rest e. tt)
      (rule_loop qualifier_steps [] [] (λ g (u : Qualifiers g [] []). u) (λ (low : Unit {0}). low) tt)) (λ words s2 r2.
      rule_pure (λ g w told b. record {
        within = All-push HasQualifiers stars (record { place = at; qualifiers = words }) b.within w.within;
        spelled = rw (b.spelled, told.spelled, w.spelled, append-nil) (sym (stars_more stars (record { place = at; qualifiers = words })));
      }) (λ _ _ _. tt) tt));
}
