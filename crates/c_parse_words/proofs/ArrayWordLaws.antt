-- Which word may follow the words of an array part.
use Rattle.std.proofs.Common.{◌≡◌, Bool, true, false, cond, ◌&&◌, ◌||◌, ◌==◌, not, List, [], ◌∷◌, ◌++◌, length, length-append, refl, sym, ◌∙◌, arith}
use Rattle.std.proofs.lemmas.Bool.{and_parts, ne_eqb}
use Rattle.c_tree.specs.declared.leaf.Word.{Word}
use Rattle.c_tree.specs.Words.{is_qualifier, is_static_word, has_static, are_qualifiers, end_in_static, are_array_words}
use Rattle.c_parse_words.specs.Lists.{AreArrayWords, starts_with_static}

and_true : (b : Bool) → (b && true) ≡ b
and_true true = refl
and_true false = refl

or_false : (b : Bool) → (b || false) ≡ b
or_false true = refl
or_false false = refl

-- a word passes after words that are all qualifiers where it is one
qualifiers-snoc : (words : List Word) (word : Word) → are_qualifiers words ≡ true → are_qualifiers (words ++ word ∷ []) ≡ is_qualifier word.keyword
qualifiers-snoc [] word e = and_true (is_qualifier word.keyword)
qualifiers-snoc (first ∷ words) word e =
    let parts = and_parts (is_qualifier first.keyword) (are_qualifiers words) e in
    rw (parts.0, qualifiers-snoc words word parts.1) refl

-- What may follow where `static` may stand at the end, by the tests of the word that follows.
abbrev at_end : (static qualifier has : Bool) → Bool
at_end static qualifier has = cond qualifier (not has) (not has && static)

lone : (static qualifier : Bool) → cond static true (qualifier && true) ≡ at_end static qualifier false
lone true true = refl
lone true false = refl
lone false true = refl
lone false false = refl

none_after : (static qualifier : Bool) → false ≡ at_end static qualifier true
none_after true true = refl
none_after true false = refl
none_after false true = refl
none_after false false = refl

-- after a further word before it
later : (static qualifier ends all : Bool) (words : List Word) (word : Word) (has : Bool) → cond static (length words == 0) (qualifier && ends) ≡ true → all ≡ end_in_static (words ++ word ∷ [])
    → (ends ≡ true → all ≡ at_end (is_static_word word.keyword) (is_qualifier word.keyword) has)
    → cond static (length (words ++ word ∷ []) == 0) (qualifier && all) ≡ at_end (is_static_word word.keyword) (is_qualifier word.keyword) (static || has)
later true qualifier ends all words word has e same next =
    ne_eqb (length (words ++ word ∷ [])) 0 (λ e. omega (arith, length-append words (word ∷ []))) ∙ none_after (is_static_word word.keyword) (is_qualifier word.keyword)
later false true ends all words word has e same next = next e
later false false ends all words word has e same next = cc

end-snoc : (words : List Word) (word : Word) → end_in_static words ≡ true → end_in_static (words ++ word ∷ []) ≡ at_end (is_static_word word.keyword) (is_qualifier word.keyword) (has_static words)
end-snoc [] word e = lone (is_static_word word.keyword) (is_qualifier word.keyword)
end-snoc (first ∷ words) word e =
    later (is_static_word first.keyword) (is_qualifier first.keyword) (end_in_static words) (end_in_static (words ++ word ∷ [])) words word (has_static words) e refl (end-snoc words word)

-- What may follow the words of an array part, the first of which is `static` or a qualifier.
abbrev follows : (static qualifier has starts : Bool) → Bool
follows static qualifier has starts = cond qualifier (not has || starts) (not has && static)

after_static : (static qualifier : Bool) → qualifier ≡ follows static qualifier true true
after_static true true = refl
after_static true false = refl
after_static false true = refl
after_static false false = refl

after_qualifier : (static qualifier has : Bool) → at_end static qualifier has ≡ follows static qualifier has false
after_qualifier static true has = sym (or_false (not has))
after_qualifier static false has = refl

after_first : (static qualifier : Bool) (words : List Word) (word : Word) → cond static (are_qualifiers words) (qualifier && end_in_static words) ≡ true
    → cond static (are_qualifiers (words ++ word ∷ [])) (qualifier && end_in_static (words ++ word ∷ []))
    ≡ follows (is_static_word word.keyword) (is_qualifier word.keyword) (static || has_static words) static
after_first true qualifier words word e = qualifiers-snoc words word e ∙ after_static (is_static_word word.keyword) (is_qualifier word.keyword)
after_first false true words word e =
    end-snoc words word e ∙ after_qualifier (is_static_word word.keyword) (is_qualifier word.keyword) (has_static words)
after_first false false words word e = cc

pub array_words-snoc : (words : List Word) (word : Word) → are_array_words words ≡ true
    → are_array_words (words ++ word ∷ []) ≡ follows (is_static_word word.keyword) (is_qualifier word.keyword) (has_static words) (starts_with_static words)
array_words-snoc [] word e = alone (is_static_word word.keyword) (is_qualifier word.keyword)
  where
    alone : (static qualifier : Bool) → cond static true (qualifier && true) ≡ follows static qualifier false false
    alone true true = refl
    alone true false = refl
    alone false true = refl
    alone false false = refl
array_words-snoc (first ∷ words) word e = after_first (is_static_word first.keyword) (is_qualifier first.keyword) words word e

pub qualifier_follows : (words : List Word) (word : Word) (static : Bool) → AreArrayWords words static → is_qualifier word.keyword ≡ true
    → are_array_words (words ++ word ∷ []) ≡ (not static || starts_with_static words)
qualifier_follows words word static are q = rw (are.counted, array_words-snoc words word are.allowed, q) refl

pub other_follows : (words : List Word) (word : Word) (static : Bool) → AreArrayWords words static → is_qualifier word.keyword ≡ false
    → are_array_words (words ++ word ∷ []) ≡ (not static && is_static_word word.keyword)
other_follows words word static are q = rw (are.counted, array_words-snoc words word are.allowed, q) refl

-- Whether `static` is one of the words, with one more.
has_static-snoc : (words : List Word) (word : Word) → has_static (words ++ word ∷ []) ≡ (has_static words || is_static_word word.keyword)
has_static-snoc [] word = or_false (is_static_word word.keyword)
has_static-snoc (first ∷ words) word = rw (has_static-snoc words word) (regroup (is_static_word first.keyword) (has_static words) (is_static_word word.keyword))
  where
    regroup : (a b c : Bool) → (a || (b || c)) ≡ ((a || b) || c)
    regroup true b c = refl
    regroup false b c = refl

pub one_more : (words : List Word) (word : Word) (static : Bool) → AreArrayWords words static → are_array_words (words ++ word ∷ []) ≡ true
    → AreArrayWords (words ++ word ∷ []) (static || is_static_word word.keyword)
one_more words word static are fits = record { allowed = fits; counted = rw (are.counted, has_static-snoc words word) refl }
