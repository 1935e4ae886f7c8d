-- Each text that begins with no blank begins with one longest lexeme, with a literal that is not closed, or with a byte that begins nothing.
use Rattle.std.proofs.Common.{◌≡◌, ℕ, ◌<◌, Bool, true, false, cond, List, [], ◌∷◌, ◌++◌, length, take, drop, Some, None, Result, Err, refl, sym, ap, ◌∙◌, subst, ⊎_elim, append_assoc, arith, length-append}
use Rattle.std.specs.Prelude.{find, ◌&&◌, ◌||◌, not, nat_eq, ◌==◌, bytes_eq, is_some}
use Rattle.std.specs.List.{list_all, starts_with, prefix_len}
use Rattle.std.specs.Char.{is_ascii_digit}
use Rattle.std.proofs.lemmas.Bool.{and_parts, or_parts, or_cases, or_from, false≢true, not-true, not_from_false, false_from_ne_true, true_from_ne_false, agree_below, agree_below_at}
use Rattle.std.proofs.lemmas.Bool.Decides.{nat_tests}
use Rattle.cc_base.specs.declared.fault.Rule.{Rule}
use Rattle.cc_base.specs.declared.fault.Rule.TheVariants.{BadByte, OpenText, Unsupported}
use Rattle.c_lexer.specs.Bytes.{is_blank, is_letter, is_word_byte, is_quote, is_bad_byte, begins_with}
use Rattle.c_lexer.specs.Cut.{IsOpenLiteral}
use Rattle.c_lexer.specs.Lexemes.{is_lexeme, lexeme_kind, Begins}
use Rattle.c_lexer.specs.Literals.{is_literal}
use Rattle.c_lexer.specs.Numbers.{is_number, begins_number, number_kind}
use Rattle.c_lexer.specs.Punctuators.{punctuator_spelling, ellipsis, punctuator_of, is_punctuator}
use Rattle.c_lexer.specs.Reading.{number_size, literal_end, literal_size, literal_step, token_of, lexeme_at, punctuator_at, punctuator_step}
use Rattle.c_lexer.specs.Words.{is_word, word_kind}
use Rattle.c_lexer.specs.declared.punctuator.Punctuator.{Punctuator}
use Rattle.c_lexer.specs.declared.punctuator.TheConstants.{PUNCTUATORS}
use Rattle.c_lexer.specs.declared.step.Step.{Step}
use Rattle.c_lexer.proofs.ListLaws.{Fronts, equal, first_shorter, second_shorter, fronts, starts_from, starts_gives, bytes_eq_gives, find_has, find_weaker}
use Rattle.c_lexer.proofs.LexemeLaws.{is_other, quote_letter, literal_found, punctuator_lexeme, lexeme_kind-punctuator, is_ordered, ordered}
use Rattle.c_lexer.proofs.FirstLexeme.{not_word, not_number, not_literal, not_punctuator, not_lexeme, quote_other, quote_no_number, begins_number_front, Found, found_word, found_number, literal_lexeme, open_literal}

-- What a byte says that begins no word, no number and no literal of the text.
record Rest (b : ℕ) (rest : List ℕ) : Type 0 where
  no_letter : is_letter b ≡ false
  no_number : begins_number (b ∷ rest) ≡ false
  no_quote : is_quote b ≡ false
  no_ellipsis : starts_with nat_eq (b ∷ rest) ellipsis ≡ false

-- what begins such a text is a punctuator, if it is a lexeme
front_punctuator : (b : ℕ) (rest front after : List ℕ) → Rest b rest → b ∷ rest ≡ front ++ after → is_punctuator front ≡ false → is_lexeme front ≡ false
front_punctuator b rest [] after r e p = refl
front_punctuator b rest (x ∷ front) after r e p =
    let same : b ≡ x = cc in
    not_lexeme (x ∷ front)
    (not_word x front (subst (λ y. is_letter y ≡ false) same r.no_letter))
    (not_number x front (false_from_ne_true (begins_number (x ∷ front)) (λ begins. false≢true (sym r.no_number ∙ ap begins_number e ∙ begins_number_front (x ∷ front) after begins))))
    (not_literal x front (subst (λ y. is_quote y ≡ false) same r.no_quote))
    p

-- no punctuator longer than the first that is found begins the text
first_longest : (text : List ℕ) (ms : List Punctuator) (m other : Punctuator) (c : ℕ) (more after : List ℕ)
    → is_ordered ms ≡ true
    → find (λ each. starts_with nat_eq text (punctuator_spelling each)) ms ≡ Some m
    → find (λ each. bytes_eq (punctuator_spelling each) (punctuator_spelling m ++ c ∷ more)) ms ≡ Some other
    → text ≡ (punctuator_spelling m ++ c ∷ more) ++ after → ⊥
first_longest text [] m other c more after in_order found longer whole = none_some found
  where
    none_some : {k : Punctuator} → None ≡ Some k → ⊥
    none_some e = cc
first_longest text (x ∷ ms) m other c more after in_order found longer whole =
    let order = and_parts (list_all (λ later. not (starts_with nat_eq (punctuator_spelling later) (punctuator_spelling x))) ms) (is_ordered ms) in_order in
    (elim (bytes_eq (punctuator_spelling x) (punctuator_spelling m ++ c ∷ more)) as (λ t. bytes_eq (punctuator_spelling x) (punctuator_spelling m ++ c ∷ more) ≡ t → cond t (Some x) (find (λ each. bytes_eq (punctuator_spelling each) (punctuator_spelling m ++ c ∷ more)) ms) ≡ Some other → ⊥) [
      | true ↦ λ is_x f.
          let spelled : punctuator_spelling x ≡ punctuator_spelling m ++ c ∷ more = bytes_eq_gives (punctuator_spelling x) (punctuator_spelling m ++ c ∷ more) is_x in
          let begins : starts_with nat_eq text (punctuator_spelling x) ≡ true = starts_from text (punctuator_spelling x) after (whole ∙ ap (λ l. l ++ after) (sym spelled)) in
          let first : cond true (Some x) (find (λ each. starts_with nat_eq text (punctuator_spelling each)) ms) ≡ Some m = ap (λ t. cond t (Some x) (find (λ each. starts_with nat_eq text (punctuator_spelling each)) ms)) (sym begins) ∙ found in
          longer_than_itself m x c more (some_same first) spelled
      | false ↦ λ not_x f.
          (elim (starts_with nat_eq text (punctuator_spelling x)) as (λ t. cond t (Some x) (find (λ each. starts_with nat_eq text (punctuator_spelling each)) ms) ≡ Some m → ⊥) [
            | true ↦ λ g.
                let same : x ≡ m = some_same g in
                let has = find_has (λ each. bytes_eq (punctuator_spelling each) (punctuator_spelling m ++ c ∷ more)) (λ later. not (starts_with nat_eq (punctuator_spelling later) (punctuator_spelling x))) ms other f order.0 in
                let spelled = bytes_eq_gives (punctuator_spelling other) (punctuator_spelling m ++ c ∷ more) has.0 in
                false≢true (sym (not-true _ has.1) ∙ starts_from (punctuator_spelling other) (punctuator_spelling x) (c ∷ more) (spelled ∙ ap (λ k. punctuator_spelling k ++ c ∷ more) (sym same)))
            | false ↦ λ g. first_longest text ms m other c more after order.1 g f whole
          ]) found
    ]) refl longer
  where
    some_same : {j k : Punctuator} → Some j ≡ Some k → j ≡ k
    some_same e = cc

    longer_than_itself : (j k : Punctuator) (d : ℕ) (ds : List ℕ) → k ≡ j → punctuator_spelling k ≡ punctuator_spelling j ++ d ∷ ds → ⊥
    longer_than_itself j k d ds same e =
        let lengths = ap length e in
        let same_length = ap (λ p. length (punctuator_spelling p)) same in
        omega (arith, simp length-append at lengths, same_length)

found_punctuator : (b : ℕ) (rest : List ℕ) (m : Punctuator) → Rest b rest → punctuator_at (b ∷ rest) ≡ Some m → Found (b ∷ rest) (punctuator_step (Some m))
found_punctuator b rest m r found =
    let text = b ∷ rest in
    let spelling = punctuator_spelling m in
    let begins = find_has (λ each. starts_with nat_eq text (punctuator_spelling each)) (λ each. true) PUNCTUATORS m found refl in
    let whole = starts_gives text spelling begins.0 in
    record {
      lexeme = spelling;
      after = drop (length spelling) text;
      begins = record {
        whole = whole;
        is_one = punctuator_lexeme m;
        longest = λ c more after e.
            let longer = whole ∙ ap (λ l. spelling ++ l) e ∙ sym (append_assoc spelling (c ∷ more) after) in
            front_punctuator b rest (spelling ++ c ∷ more) after r longer (false_from_ne_true (is_punctuator (spelling ++ c ∷ more)) (none_longer c more after longer));
      };
      result_is = ap (token_of (length spelling)) (sym (lexeme_kind-punctuator m));
    }
  where
    none_longer : (c : ℕ) (more after : List ℕ) → b ∷ rest ≡ (punctuator_spelling m ++ c ∷ more) ++ after → is_punctuator (punctuator_spelling m ++ c ∷ more) ≡ true → ⊥
    none_longer c more after longer e =
        ⊎_elim
        (λ dots. false≢true (sym r.no_ellipsis ∙ starts_from (b ∷ rest) ellipsis after (longer ∙ ap (λ l. l ++ after) (sym (bytes_eq_gives ellipsis (punctuator_spelling m ++ c ∷ more) dots)))))
        (λ one.
        (elim (punctuator_of (punctuator_spelling m ++ c ∷ more)) as (λ o. punctuator_of (punctuator_spelling m ++ c ∷ more) ≡ o → is_some o ≡ true → ⊥) [
          | Some other ↦ λ is_other some. first_longest (b ∷ rest) PUNCTUATORS m other c more after ordered found is_other longer
          | None ↦ λ is_none some. false≢true some
        ]) refl one)
        (or_cases (bytes_eq ellipsis (punctuator_spelling m ++ c ∷ more)) (is_some (punctuator_of (punctuator_spelling m ++ c ∷ more))) e)

ellipsis_longest : (c : ℕ) (more : List ℕ) → is_lexeme (ellipsis ++ c ∷ more) ≡ false
ellipsis_longest c more = refl

found_ellipsis : (text : List ℕ) → starts_with nat_eq text ellipsis ≡ true → Found text (Err Unsupported)
found_ellipsis text e = record {
  lexeme = ellipsis;
  after = drop (length ellipsis) text;
  begins = record { whole = starts_gives text ellipsis e; is_one = refl; longest = λ c more after f. ellipsis_longest c more };
  result_is = refl;
}

-- Bytes that begin nothing.

-- a byte below 127 that may begin a punctuator is one
abbrev covered : ℕ → Bool
covered b = not (is_other b) || is_some (punctuator_of (b ∷ []))

all_covered : agree_below covered (λ b. true) 127 ≡ true
all_covered = refl

bad_first : (b : ℕ) (rest : List ℕ) → Rest b rest → is_blank b ≡ false → punctuator_at (b ∷ rest) ≡ None → is_bad_byte b ≡ true
bad_first b rest r no_blank none =
    true_from_ne_false (is_bad_byte b) (λ not_bad.
    let digit = or_parts (is_ascii_digit b) ((b == 46) && begins_with is_ascii_digit rest) r.no_number in
    let other : is_other b ≡ true = not_from_false (((is_letter b || is_ascii_digit b) || is_quote b) || (is_blank b || is_bad_byte b)) (or_from ((is_letter b || is_ascii_digit b) || is_quote b) (is_blank b || is_bad_byte b) (or_from (is_letter b || is_ascii_digit b) (is_quote b) (or_from (is_letter b) (is_ascii_digit b) r.no_letter digit.0) r.no_quote) (or_from (is_blank b) (is_bad_byte b) no_blank not_bad)) in
    let cover : covered b ≡ true = agree_below_at covered (λ k. true) 127 b all_covered (below b not_bad) in
    ⊎_elim
    (λ not_other. false≢true (sym (not-true (is_other b) not_other) ∙ other))
    (λ one. false≢true (sym (ap is_some single_none) ∙ one))
    (or_cases (not (is_other b)) (is_some (punctuator_of (b ∷ []))) cover))
  where
    below : (k : ℕ) → is_bad_byte k ≡ false → k < 127
    below k e = grind (arith, nat_tests)

    single_none : punctuator_of (b ∷ []) ≡ None
    single_none = find_weaker (λ each. starts_with nat_eq (b ∷ rest) (punctuator_spelling each)) (λ each. bytes_eq (punctuator_spelling each) (b ∷ [])) PUNCTUATORS (λ each e. starts_from (b ∷ rest) (punctuator_spelling each) rest (ap (λ l. l ++ rest) (sym (bytes_eq_gives (punctuator_spelling each) (b ∷ []) e)))) none

-- no lexeme begins where nothing is found
no_lexeme : (b : ℕ) (rest : List ℕ) → Rest b rest → punctuator_at (b ∷ rest) ≡ None → (lexeme after : List ℕ) → Begins (b ∷ rest) lexeme after → ⊥
no_lexeme b rest r none lexeme after begins =
    false≢true (sym (front_punctuator b rest lexeme after r begins.whole (false_from_ne_true (is_punctuator lexeme) no_punctuator)) ∙ begins.is_one)
  where
    no_punctuator : is_punctuator lexeme ≡ true → ⊥
    no_punctuator e =
        ⊎_elim
        (λ dots. false≢true (sym r.no_ellipsis ∙ starts_from (b ∷ rest) ellipsis after (begins.whole ∙ ap (λ l. l ++ after) (sym (bytes_eq_gives ellipsis lexeme dots)))))
        (λ one. false≢true (sym (ap is_some none_so) ∙ one))
        (or_cases (bytes_eq ellipsis lexeme) (is_some (punctuator_of lexeme)) e)
      where
        none_so : punctuator_of lexeme ≡ None
        none_so = find_weaker (λ each. starts_with nat_eq (b ∷ rest) (punctuator_spelling each)) (λ each. bytes_eq (punctuator_spelling each) lexeme) PUNCTUATORS (λ each h. starts_from (b ∷ rest) (punctuator_spelling each) after (begins.whole ∙ ap (λ l. l ++ after) (sym (bytes_eq_gives (punctuator_spelling each) lexeme h)))) none

-- a lexeme that begins with a quote is a literal
quote_literal : (quote : ℕ) (rest : List ℕ) → is_quote quote ≡ true → is_lexeme (quote ∷ rest) ≡ true → is_literal (quote ∷ rest) ≡ true
quote_literal quote rest is_q e =
    ⊎_elim
    (λ words. ⊎_elim
    (λ word. absurd (false≢true (sym (not_word quote rest (quote_letter quote is_q)) ∙ word)))
    (λ number. absurd (false≢true (sym (not_number quote rest (quote_no_number quote rest is_q)) ∙ number)))
    (or_cases (is_word (quote ∷ rest)) (is_number (quote ∷ rest)) words))
    (λ marks. ⊎_elim
    (λ literal. literal)
    (λ mark. absurd (false≢true (sym (not_punctuator quote rest (quote_other quote is_q)) ∙ mark)))
    (or_cases (is_literal (quote ∷ rest)) (is_punctuator (quote ∷ rest)) marks))
    (or_cases (is_word (quote ∷ rest) || is_number (quote ∷ rest)) (is_literal (quote ∷ rest) || is_punctuator (quote ∷ rest)) e)

-- no lexeme begins where a literal is not closed
pub none_at_open : (text : List ℕ) → IsOpenLiteral text → (lexeme after : List ℕ) → Begins text lexeme after → ⊥
none_at_open text open' [] after begins = false≢true begins.is_one
none_at_open text open' (x ∷ rest) after begins =
    let is_q : is_quote x ≡ true = sym (ap (begins_with is_quote) begins.whole) ∙ open'.quote in
    false≢true (sym (open'.none_closed (x ∷ rest) after begins.whole) ∙ quote_literal x rest is_q begins.is_one)

-- What begins a text.

pub data Start (text : List ℕ) (result : Result Step Rule) : Type 0 where
  lexeme : Found text result → Start text result
  open_literal_at : IsOpenLiteral text → result ≡ Err OpenText → Start text result
  bad_byte : begins_with is_bad_byte text ≡ true → result ≡ Err BadByte → ((one after : List ℕ) → Begins text one after → ⊥) → Start text result

start_literal : (quote : ℕ) (rest : List ℕ) → is_letter quote ≡ false → is_quote quote ≡ true → Start (quote ∷ rest) (literal_step (quote ∷ rest) (literal_size (quote ∷ rest)))
start_literal quote rest no_letter is_q =
    (elim (literal_end quote 1 false rest) as (λ o. literal_end quote 1 false rest ≡ o → Start (quote ∷ rest) (literal_step (quote ∷ rest) o)) [
      | None ↦ λ none. open_literal_at (open_literal quote rest is_q none) refl
      | Some size ↦ λ found. lexeme (literal_lexeme quote rest no_letter is_q size (literal_found quote 1 false rest size found))
    ]) refl

start_punctuator : (b : ℕ) (rest : List ℕ) → is_blank b ≡ false → Rest b rest → Start (b ∷ rest) (punctuator_step (punctuator_at (b ∷ rest)))
start_punctuator b rest no_blank r =
    (elim (punctuator_at (b ∷ rest)) as (λ o. punctuator_at (b ∷ rest) ≡ o → Start (b ∷ rest) (punctuator_step o)) [
      | None ↦ λ none. bad_byte (bad_first b rest r no_blank none) refl (no_lexeme b rest r none)
      | Some m ↦ λ found. lexeme (found_punctuator b rest m r found)
    ]) refl

pub start : (b : ℕ) (rest : List ℕ) → is_blank b ≡ false → Start (b ∷ rest) (lexeme_at (b ∷ rest))
start b rest no_blank =
    (elim (is_letter b) as (λ t. is_letter b ≡ t → Start (b ∷ rest) (cond t word (cond (begins_number (b ∷ rest)) number (cond (is_quote b) literal other)))) [
      | true ↦ λ letter. lexeme (found_word b rest letter)
      | false ↦ λ no_letter.
          (elim (begins_number (b ∷ rest)) as (λ t. begins_number (b ∷ rest) ≡ t → Start (b ∷ rest) (cond t number (cond (is_quote b) literal other))) [
            | true ↦ λ begins. lexeme (found_number b rest no_letter begins)
            | false ↦ λ no_number.
                (elim (is_quote b) as (λ t. is_quote b ≡ t → Start (b ∷ rest) (cond t literal other)) [
                  | true ↦ λ is_q. start_literal b rest no_letter is_q
                  | false ↦ λ no_quote.
                      (elim (starts_with nat_eq (b ∷ rest) ellipsis) as (λ t. starts_with nat_eq (b ∷ rest) ellipsis ≡ t → Start (b ∷ rest) (cond t (Err Unsupported) (punctuator_step (punctuator_at (b ∷ rest))))) [
                        | true ↦ λ dots. lexeme (found_ellipsis (b ∷ rest) dots)
                        | false ↦ λ no_dots. start_punctuator b rest no_blank (record { no_letter = no_letter; no_number = no_number; no_quote = no_quote; no_ellipsis = no_dots })
                      ]) refl
                ]) refl
          ]) refl
    ]) refl
  where
    word : Result Step Rule
    word = token_of (prefix_len is_word_byte (b ∷ rest)) (word_kind (take (prefix_len is_word_byte (b ∷ rest)) (b ∷ rest)))

    number : Result Step Rule
    number = token_of (number_size (b ∷ rest)) (number_kind (take (number_size (b ∷ rest)) (b ∷ rest)))

    literal : Result Step Rule
    literal = literal_step (b ∷ rest) (literal_size (b ∷ rest))

    other : Result Step Rule
    other = cond (starts_with nat_eq (b ∷ rest) ellipsis) (Err Unsupported) (punctuator_step (punctuator_at (b ∷ rest)))

-- Only one lexeme is the longest.

pub one_longest : (text one one_after other other_after : List ℕ) → Begins text one one_after → Begins text other other_after → one ≡ other
one_longest text one one_after other other_after p q =
    decided (fronts one other one_after other_after (sym p.whole ∙ q.whole))
  where
    decided : Fronts one other one_after other_after → one ≡ other
    decided (equal same rest) = same
    decided (first_shorter c more longer rest) = absurd (false≢true (sym (p.longest c more other_after rest) ∙ subst (λ l. is_lexeme l ≡ true) longer q.is_one))
    decided (second_shorter c more longer rest) = absurd (false≢true (sym (q.longest c more one_after rest) ∙ subst (λ l. is_lexeme l ≡ true) longer p.is_one))

-- what reading forward gives where a lexeme begins
pub lexeme_at-begins : (b : ℕ) (rest lexeme after : List ℕ) → is_blank b ≡ false → Begins (b ∷ rest) lexeme after → lexeme_at (b ∷ rest) ≡ token_of (length lexeme) (lexeme_kind lexeme)
lexeme_at-begins b rest one after no_blank begins = decided (start b rest no_blank)
  where
    decided : Start (b ∷ rest) (lexeme_at (b ∷ rest)) → lexeme_at (b ∷ rest) ≡ token_of (length one) (lexeme_kind one)
    decided (lexeme f) = f.result_is ∙ ap (λ l. token_of (length l) (lexeme_kind l)) (one_longest (b ∷ rest) f.lexeme f.after one after f.begins begins)
    decided (open_literal_at o e) = absurd (none_at_open (b ∷ rest) o one after begins)
    decided (bad_byte bad e none) = absurd (none one after begins)
