-- Words in array parts and after stars are read from their spelling.
use Rattle.std.proofs.Common.{◌≡◌, ℕ, Bool, true, false, cond, ◌&&◌, ◌==◌, Option, Some, is_some, List, [], ◌∷◌, ◌++◌, length, map, length-append, refl, sym, ◌∙◌, ap, subst, append_assoc, append-nil, arith}
use Rattle.std.proofs.lemmas.Bool.{and_parts, eqb-true, ne_eqb}
use Rattle.std.proofs.lemmas.List.Elements.{All-head, All-tail}
use Rattle.std.proofs.lemmas.List.Folds.{list_all-append}
use Rattle.std.specs.List.{All}
use Rattle.cc_base.specs.declared.place.Place.{Place}
use Rattle.c_lexer.specs.declared.word.Keyword.{Keyword}
use Rattle.c_lexer.specs.declared.word.Keyword.TheVariants as keyword
use Rattle.parse_rules.specs.Parsers.{Answer, Read, first, loop}
use Rattle.parse_rules.specs.Grammars.{Language}
use Rattle.parse_rules.proofs.Completeness.{LeadsTo, equal, ◌▷◌, leads_next, leads_loop, leads_loop_stops}
use Rattle.c_tree.specs.declared.leaf.Star.{Star}
use Rattle.c_tree.specs.declared.leaf.Word.{Word as PlacedWord}
use Rattle.c_tree.specs.Spelling.{word_symbol, star_spelling, stars_spelling}
use Rattle.c_tree.specs.Symbols.{Symbol, Name, Word}
use Rattle.c_tree.specs.Words.{is_qualifier, is_static_word, are_qualifiers, end_in_static, are_array_words}
use Rattle.c_tree.specs.Grammar.{HasQualifiers}
use Rattle.c_tree.specs.Words.{TypeNames}
use Rattle.c_parse_words.specs.WordRules.{next_array_word, next_qualifier, star_step, take}
use Rattle.c_parse_words.specs.Tests.{array_word, qualifier_word, star_sign, begins_expr, is_start, start_of_word}
use Rattle.c_parse_words.proofs.WordLaws.{array_word_steps, qualifier_steps, star_steps}

-- A front of such words is such words.

front_of_all : (words more : List PlacedWord) → are_qualifiers (words ++ more) ≡ true → are_qualifiers words ≡ true
front_of_all words more e = (and_parts (are_qualifiers words) (are_qualifiers more) (sym (list_all-append (λ w. is_qualifier w.keyword) words more) ∙ e)).0

no_more : (words more : List PlacedWord) → (length (words ++ more) == 0) ≡ true → (length words == 0) ≡ true
no_more [] more e = refl
no_more (word ∷ words) more e = absurd (omega (arith, eqb-true (length (word ∷ (words ++ more))) 0 e))

front_of_ending : (words more : List PlacedWord) → end_in_static (words ++ more) ≡ true → end_in_static words ≡ true
front_of_ending [] more e = refl
front_of_ending (word ∷ words) more e = by_static (is_static_word word.keyword) (is_qualifier word.keyword) e (no_more words more) (front_of_ending words more)
  where
    by_static : (static qualifier : Bool) {a b c d : Bool} → cond static a (qualifier && b) ≡ true → (a ≡ true → c ≡ true) → (b ≡ true → d ≡ true) → cond static c (qualifier && d) ≡ true
    by_static true qualifier e f h = f e
    by_static false true e f h = h e
    by_static false false e f h = cc

front_of_words : (words more : List PlacedWord) → are_array_words (words ++ more) ≡ true → are_array_words words ≡ true
front_of_words [] more e = refl
front_of_words (word ∷ words) more e = by_static (is_static_word word.keyword) (is_qualifier word.keyword) e (front_of_all words more) (front_of_ending words more)
  where
    by_static : (static qualifier : Bool) {a b c d : Bool} → cond static a (qualifier && b) ≡ true → (a ≡ true → c ≡ true) → (b ≡ true → d ≡ true) → cond static c (qualifier && d) ≡ true
    by_static true qualifier e f h = f e
    by_static false true e f h = h e
    by_static false false e f h = cc

-- No other word may follow.

abbrev IsOther : PlacedWord → Type 0
IsOther word = (is_static_word word.keyword ≡ false) × (is_qualifier word.keyword ≡ false)

and_false : (b : Bool) → (b && false) ≡ false
and_false true = refl
and_false false = refl

other_in_all : (words : List PlacedWord) (word : PlacedWord) → IsOther word → are_qualifiers (words ++ word ∷ []) ≡ false
other_in_all [] word h = rw h.1 refl
other_in_all (first_ ∷ words) word h = rw (other_in_all words word h) (and_false (is_qualifier first_.keyword))

after_static : (static qualifier : Bool) {a b : Bool} → a ≡ false → b ≡ false → cond static a (qualifier && b) ≡ false
after_static true qualifier f h = f
after_static false true f h = h
after_static false false f h = refl

other_in_ending : (words : List PlacedWord) (word : PlacedWord) → IsOther word → end_in_static (words ++ word ∷ []) ≡ false
other_in_ending [] word h = rw (h.0, h.1) refl
other_in_ending (first_ ∷ words) word h =
    after_static (is_static_word first_.keyword) (is_qualifier first_.keyword) (ne_eqb (length (words ++ word ∷ [])) 0 (λ e. omega (arith, length-append words (word ∷ [])))) (other_in_ending words word h)

other_in_words : (words : List PlacedWord) (word : PlacedWord) → IsOther word → are_array_words (words ++ word ∷ []) ≡ false
other_in_words [] word h = rw (h.0, h.1) refl
other_in_words (first_ ∷ words) word h = after_static (is_static_word first_.keyword) (is_qualifier first_.keyword) (other_in_all words word h) (other_in_ending words word h)

sizeof_is_other : (place : Place) → IsOther (record { keyword = keyword.Sizeof; place = place })
sizeof_is_other place = (refl, refl)

expr_word : (words : List PlacedWord) (word : Keyword) (place : Place) → is_start (start_of_word word place) ≡ true → is_some (array_word words (Some (Word word place))) ≡ false
expr_word words keyword.Sizeof place e = rw (other_in_words words (record { keyword = keyword.Sizeof; place = place }) (sizeof_is_other place)) refl
expr_word words word place e = cc

-- a token that begins an expression goes on with no words
pub expr_no_word : (names : TypeNames) (words : List PlacedWord) (next : Option Symbol) → begins_expr names next ≡ true → is_some (array_word words next) ≡ false
expr_no_word names words (Some (Word word place)) e = expr_word words word place e
expr_no_word names words (Some (Name bytes place)) e = refl
expr_no_word names words next e = refl

-- Words in an array part.

abbrev pub words_loop : List PlacedWord → List Symbol → Answer Symbol (List PlacedWord)
words_loop words ts = loop (λ words next. is_some (array_word words next)) next_array_word words ts

word_goes : (words : List PlacedWord) (word : PlacedWord) → are_array_words (words ++ word ∷ []) ≡ true → array_word words (Some (word_symbol word)) ≡ Some word
word_goes words word e = rw e refl

next_word_reads : (g : Language) (words : List PlacedWord) (word : PlacedWord) (rest : List Symbol) → are_array_words (words ++ word ∷ []) ≡ true → LeadsTo g (next_array_word words (word_symbol word ∷ rest)) (Read (words ++ word ∷ []) rest)
unfolding next_array_word take
next_word_reads g words word rest e = rw e (equal refl)

pub words_read : (d : ℕ) (g : Language) (before words : List PlacedWord) (rest : List Symbol) → are_array_words (before ++ words) ≡ true → is_some (array_word (before ++ words) (first rest)) ≡ false
    → LeadsTo g (words_loop before (map word_symbol words ++ rest)) (Read (before ++ words) rest)
words_read d g before [] rest fits ends =
    let none : is_some (array_word before (first rest)) ≡ false = rw append-nil at ends in
    rw (append-nil before) (leads_loop_stops (λ words next. is_some (array_word words next)) next_array_word before rest none)
words_read d g before (word ∷ words) rest fits ends =
    let more : are_array_words ((before ++ word ∷ []) ++ words) ≡ true = rw (append_assoc before (word ∷ []) words) fits in
    let here : are_array_words (before ++ word ∷ []) ≡ true = front_of_words (before ++ word ∷ []) words more in
    leads_loop (array_word_steps {d = d}) before (word_symbol word ∷ (map word_symbol words ++ rest)) tt (ap is_some (word_goes before word here)) (next_word_reads g before word (map word_symbol words ++ rest) here)
    ▷ rw (← append_assoc before (word ∷ []) words) (words_read d g (before ++ word ∷ []) words rest more (rw (append_assoc before (word ∷ []) words) ends))

-- Qualifiers after a star, and stars.

next_qualifier_reads : (g : Language) (words : List PlacedWord) (word : PlacedWord) (rest : List Symbol) → is_qualifier word.keyword ≡ true → LeadsTo g (next_qualifier words (word_symbol word ∷ rest)) (Read (words ++ word ∷ []) rest)
unfolding next_qualifier take
next_qualifier_reads g words word rest e = rw e (equal refl)

qualifiers_read : (d : ℕ) (g : Language) (before words : List PlacedWord) (rest : List Symbol) → are_qualifiers words ≡ true → is_some (qualifier_word (first rest)) ≡ false
    → LeadsTo g (loop (λ _ next. is_some (qualifier_word next)) next_qualifier before (map word_symbol words ++ rest)) (Read (before ++ words) rest)
qualifiers_read d g before [] rest fits ends = rw (append-nil before) (leads_loop_stops (λ _ next. is_some (qualifier_word next)) next_qualifier before rest ends)
qualifiers_read d g before (word ∷ words) rest fits ends =
    let parts = and_parts (is_qualifier word.keyword) (are_qualifiers words) fits in
    leads_loop (qualifier_steps {d = d}) before (word_symbol word ∷ (map word_symbol words ++ rest)) tt (rw parts.0 refl) (next_qualifier_reads g before word (map word_symbol words ++ rest) parts.0)
    ▷ rw (← append_assoc before (word ∷ []) words) (qualifiers_read d g (before ++ word ∷ []) words rest parts.1 ends)

-- the first of some stars, or of what follows them, is no qualifier
stars_no_qualifier : (stars : List Star) (rest : List Symbol) → is_some (qualifier_word (first rest)) ≡ false → is_some (qualifier_word (first (stars_spelling stars ++ rest))) ≡ false
stars_no_qualifier [] rest ends = ends
stars_no_qualifier (star ∷ stars) rest ends = refl

star_reads : (d : ℕ) (g : Language) (before : List Star) (star : Star) (rest : List Symbol) → are_qualifiers star.qualifiers ≡ true → is_some (qualifier_word (first rest)) ≡ false
    → LeadsTo g (star_step before (star_spelling star ++ rest)) (Read (before ++ star ∷ []) rest)
unfolding star_step take
star_reads d g before star rest fits ends = leads_next _ (qualifiers_read d g [] star.qualifiers rest fits ends) (equal refl)

pub stars_read : (d : ℕ) (g : Language) (before stars : List Star) (rest : List Symbol) → All HasQualifiers stars → is_some (qualifier_word (first rest)) ≡ false → is_some (star_sign (first rest)) ≡ false
    → LeadsTo g (loop (λ _ next. is_some (star_sign next)) star_step before (stars_spelling stars ++ rest)) (Read (before ++ stars) rest)
stars_read d g before [] rest fits ends over = rw (append-nil before) (leads_loop_stops (λ _ next. is_some (star_sign next)) star_step before rest over)
stars_read d g before (star ∷ stars) rest fits ends over =
    subst (λ s. LeadsTo g (loop (λ _ next. is_some (star_sign next)) star_step before s) (Read (before ++ star ∷ stars) rest)) (sym (append_assoc (star_spelling star) (stars_spelling stars) rest))
    (leads_loop (star_steps {d = d}) before (star_spelling star ++ (stars_spelling stars ++ rest)) tt refl (star_reads d g before star (stars_spelling stars ++ rest) (All-head HasQualifiers star stars fits) (stars_no_qualifier stars rest ends))
    ▷ subst (λ x. LeadsTo g (loop (λ _ next. is_some (star_sign next)) star_step (before ++ star ∷ []) (stars_spelling stars ++ rest)) (Read x rest)) (append_assoc before (star ∷ []) stars) (stars_read d g (before ++ star ∷ []) stars rest (All-tail HasQualifiers star stars fits) ends over))
