-- What begins a text: one longest lexeme, which reading forward finds; or a literal that is not closed; or a byte that begins nothing.
use Rattle.std.proofs.Common.{◌≡◌, ℕ, ◌+◌, suc, Bool, true, false, cond, List, [], ◌∷◌, ◌++◌, length, take, drop, Some, None, Result, refl, sym, ap, ◌∙◌, subst, ⊎_elim, arith, take-append-drop}
use Rattle.std.specs.Prelude.{◌&&◌, ◌||◌, ◌==◌, bytes_eq}
use Rattle.std.specs.List.{list_all, prefix_len}
use Rattle.std.specs.Char.{is_ascii_digit}
use Rattle.std.proofs.lemmas.Bool.{and_parts, or_cases, or_from, or_left, or_right, and_from, and_left, and_right, false≢true, not_from_true, eqb-true, false_from_ne_true, cond-true, cond-false}
use Rattle.std.proofs.lemmas.Bool.Decides.{nat_tests}
use Rattle.std.proofs.lemmas.List.{length-take-le}
use Rattle.std.proofs.Math.Seq.{take-append_seam}
use Rattle.cc_base.specs.declared.fault.Rule.{Rule}
use Rattle.c_lexer.specs.Bytes.{is_blank, is_letter, is_word_byte, is_quote, is_bad_byte, begins_with}
use Rattle.c_lexer.specs.Cut.{IsOpenLiteral}
use Rattle.c_lexer.specs.Lexemes.{is_lexeme, lexeme_kind, Begins}
use Rattle.c_lexer.specs.Literals.{is_literal, closes, literal_kind}
use Rattle.c_lexer.specs.Numbers.{is_number, begins_number, goes_on, all_go_on, number_kind}
use Rattle.c_lexer.specs.Punctuators.{is_punctuator}
use Rattle.c_lexer.specs.Reading.{number_run, number_size, literal_end, token_of}
use Rattle.c_lexer.specs.Words.{is_word, word_kind}
use Rattle.c_lexer.specs.declared.step.Step.{Step}
use Rattle.c_lexer.proofs.LexemeLaws.{is_other, letter_digit, letter_quote, letter_point, quote_digit, quote_point, punctuator_other, one_more, run_passes, run_longest, number_passes, number_longest, run-le, number_run-le, Closed, closes_end, closes_longest}

-- What a first byte rules out.

pub not_word : (b : ℕ) (rest : List ℕ) → is_letter b ≡ false → is_word (b ∷ rest) ≡ false
not_word b rest e = and_left (is_letter b) (list_all is_word_byte rest) e

pub not_number : (b : ℕ) (rest : List ℕ) → begins_number (b ∷ rest) ≡ false → is_number (b ∷ rest) ≡ false
not_number b rest e = and_left (begins_number (b ∷ rest)) (all_go_on b rest) e

pub not_literal : (b : ℕ) (rest : List ℕ) → is_quote b ≡ false → is_literal (b ∷ rest) ≡ false
not_literal b rest e = and_left (is_quote b) (closes b false rest) e

pub not_punctuator : (b : ℕ) (rest : List ℕ) → is_other b ≡ false → is_punctuator (b ∷ rest) ≡ false
not_punctuator b rest e = false_from_ne_true (is_punctuator (b ∷ rest)) (λ yes'. false≢true (sym e ∙ punctuator_other b rest yes'))

pub not_lexeme : (bytes : List ℕ) → is_word bytes ≡ false → is_number bytes ≡ false → is_literal bytes ≡ false → is_punctuator bytes ≡ false → is_lexeme bytes ≡ false
not_lexeme bytes w n l p = or_from (is_word bytes || is_number bytes) (is_literal bytes || is_punctuator bytes) (or_from (is_word bytes) (is_number bytes) w n) (or_from (is_literal bytes) (is_punctuator bytes) l p)

pub letter_other : (b : ℕ) → is_letter b ≡ true → is_other b ≡ false
letter_other b e = not_from_true (((is_letter b || is_ascii_digit b) || is_quote b) || (is_blank b || is_bad_byte b)) (or_left ((is_letter b || is_ascii_digit b) || is_quote b) (is_blank b || is_bad_byte b) (or_left (is_letter b || is_ascii_digit b) (is_quote b) (or_left (is_letter b) (is_ascii_digit b) e)))

pub digit_other : (b : ℕ) → is_ascii_digit b ≡ true → is_other b ≡ false
digit_other b e = not_from_true (((is_letter b || is_ascii_digit b) || is_quote b) || (is_blank b || is_bad_byte b)) (or_left ((is_letter b || is_ascii_digit b) || is_quote b) (is_blank b || is_bad_byte b) (or_left (is_letter b || is_ascii_digit b) (is_quote b) (or_right (is_letter b) (is_ascii_digit b) e)))

pub quote_other : (b : ℕ) → is_quote b ≡ true → is_other b ≡ false
quote_other b e = not_from_true (((is_letter b || is_ascii_digit b) || is_quote b) || (is_blank b || is_bad_byte b)) (or_left ((is_letter b || is_ascii_digit b) || is_quote b) (is_blank b || is_bad_byte b) (or_right (is_letter b || is_ascii_digit b) (is_quote b) e))

pub letter_no_number : (b : ℕ) (rest : List ℕ) → is_letter b ≡ true → begins_number (b ∷ rest) ≡ false
letter_no_number b rest e = or_from (is_ascii_digit b) ((b == 46) && begins_with is_ascii_digit rest) (letter_digit b e) (and_left (b == 46) (begins_with is_ascii_digit rest) (letter_point b e))

pub quote_no_number : (b : ℕ) (rest : List ℕ) → is_quote b ≡ true → begins_number (b ∷ rest) ≡ false
quote_no_number b rest e = or_from (is_ascii_digit b) ((b == 46) && begins_with is_ascii_digit rest) (quote_digit b e) (and_left (b == 46) (begins_with is_ascii_digit rest) (quote_point b e))

pub number_no_quote : (b : ℕ) (rest : List ℕ) → begins_number (b ∷ rest) ≡ true → is_quote b ≡ false
number_no_quote b rest e = false_from_ne_true (is_quote b) (λ quote. false≢true (sym (quote_no_number b rest quote) ∙ e))

pub begins_front : (test : ℕ → Bool) (front after : List ℕ) → begins_with test front ≡ true → begins_with test (front ++ after) ≡ true
begins_front test [] after e = absurd (false≢true e)
begins_front test (b ∷ rest) after e = e

-- a front that begins a number begins one in a longer text
pub begins_number_front : (front after : List ℕ) → begins_number front ≡ true → begins_number (front ++ after) ≡ true
begins_number_front [] after e = absurd (false≢true e)
begins_number_front (b ∷ rest) after e =
    ⊎_elim
    (λ digit. or_left (is_ascii_digit b) ((b == 46) && begins_with is_ascii_digit (rest ++ after)) digit)
    (λ point.
    let parts = and_parts (b == 46) (begins_with is_ascii_digit rest) point in
    or_right (is_ascii_digit b) ((b == 46) && begins_with is_ascii_digit (rest ++ after)) (and_from (b == 46) (begins_with is_ascii_digit (rest ++ after)) parts.0 (begins_front is_ascii_digit rest after parts.1)))
    (or_cases (is_ascii_digit b) ((b == 46) && begins_with is_ascii_digit rest) e)

-- `.` and a digit are no punctuator
pub point_digit : (d : ℕ) (rest : List ℕ) → is_ascii_digit d ≡ true → is_punctuator (46 ∷ d ∷ rest) ≡ false
point_digit d rest e = or_from ((46 == d) && bytes_eq (46 ∷ []) rest) false (and_left (46 == d) (bytes_eq (46 ∷ []) rest) (digit_no_point d e)) refl
  where
    digit_no_point : (k : ℕ) → is_ascii_digit k ≡ true → (46 == k) ≡ false
    digit_no_point k h = grind (arith, nat_tests)

pub number_no_punctuator : (b : ℕ) (rest : List ℕ) → begins_number (b ∷ rest) ≡ true → is_punctuator (b ∷ rest) ≡ false
number_no_punctuator b [] e =
    not_punctuator b [] (digit_other b (⊎_elim (λ digit. digit) (λ point. absurd (false≢true (and_parts (b == 46) false point).1)) (or_cases (is_ascii_digit b) ((b == 46) && false) e)))
number_no_punctuator b (d ∷ rest) e =
    ⊎_elim
    (λ digit. not_punctuator b (d ∷ rest) (digit_other b digit))
    (λ point.
    let parts = and_parts (b == 46) (is_ascii_digit d) point in
    subst (λ x. is_punctuator (x ∷ d ∷ rest) ≡ false) (sym (eqb-true b 46 parts.0)) (point_digit d rest parts.1))
    (or_cases (is_ascii_digit b) ((b == 46) && is_ascii_digit d) e)

-- Each kind of lexeme is found where it begins.

pub record Found (text : List ℕ) (result : Result Step Rule) : Type 0 where
  pub lexeme : List ℕ
  pub after : List ℕ
  pub begins : Begins text lexeme after
  pub result_is : result ≡ token_of (length lexeme) (lexeme_kind lexeme)

pub found_word : (b : ℕ) (rest : List ℕ) → is_letter b ≡ true → Found (b ∷ rest) (token_of (prefix_len is_word_byte (b ∷ rest)) (word_kind (take (prefix_len is_word_byte (b ∷ rest)) (b ∷ rest))))
found_word b rest letter =
    let k = prefix_len is_word_byte rest in
    let word = b ∷ take k rest in
    let is_one : is_word word ≡ true = and_from (is_letter b) (list_all is_word_byte (take k rest)) letter (run_passes is_word_byte rest) in
    let size : prefix_len is_word_byte (b ∷ rest) ≡ suc k = ap (λ t. cond t (1 + k) 0) (or_left (is_letter b) (is_ascii_digit b) letter) ∙ one_more k in
    record {
      lexeme = word;
      after = drop k rest;
      begins = record {
        whole = ap (λ l. b ∷ l) (sym (take-append-drop k rest));
        is_one = or_left (is_word word || is_number word) (is_literal word || is_punctuator word) (or_left (is_word word) (is_number word) is_one);
        longest = λ c more r e.
            not_lexeme (word ++ c ∷ more)
            (and_right (is_letter b) (list_all is_word_byte (take k rest ++ c ∷ more)) (run_longest is_word_byte rest c more r e))
            (not_number b (take k rest ++ c ∷ more) (letter_no_number b (take k rest ++ c ∷ more) letter))
            (not_literal b (take k rest ++ c ∷ more) (letter_quote b letter))
            (not_punctuator b (take k rest ++ c ∷ more) (letter_other b letter));
      };
      result_is =
          ap (λ n. token_of n (word_kind (take n (b ∷ rest)))) size
          ∙ ap (λ n. token_of (suc n) (word_kind word)) (sym (run-le is_word_byte rest))
          ∙ ap (token_of (length word)) (sym (cond-true (is_word word) (word_kind word) _ is_one));
    }

pub begins_run : (b : ℕ) (rest : List ℕ) → begins_number (b ∷ rest) ≡ true → begins_number (b ∷ take (number_run b rest) rest) ≡ true
begins_run b [] e = e
begins_run b (d ∷ rest) e =
    ⊎_elim
    (λ digit. or_left (is_ascii_digit b) ((b == 46) && begins_with is_ascii_digit (take (number_run b (d ∷ rest)) (d ∷ rest))) digit)
    (λ point.
    let parts = and_parts (b == 46) (is_ascii_digit d) point in
    let goes : goes_on b d ≡ true = or_left (is_word_byte d || (d == 46)) _ (or_left (is_word_byte d) (d == 46) (or_right (is_letter d) (is_ascii_digit d) parts.1)) in
    let first : begins_with is_ascii_digit (take (number_run b (d ∷ rest)) (d ∷ rest)) ≡ true =
    ap (λ t. begins_with is_ascii_digit (take (cond t (1 + number_run d rest) 0) (d ∷ rest))) goes
    ∙ ap (λ n. begins_with is_ascii_digit (take n (d ∷ rest))) (one_more (number_run d rest)) ∙ parts.1 in
    or_right (is_ascii_digit b) ((b == 46) && begins_with is_ascii_digit (take (number_run b (d ∷ rest)) (d ∷ rest))) (and_from (b == 46) _ parts.0 first))
    (or_cases (is_ascii_digit b) ((b == 46) && is_ascii_digit d) e)

pub found_number : (b : ℕ) (rest : List ℕ) → is_letter b ≡ false → begins_number (b ∷ rest) ≡ true → Found (b ∷ rest) (token_of (number_size (b ∷ rest)) (number_kind (take (number_size (b ∷ rest)) (b ∷ rest))))
found_number b rest no_letter begins =
    let k = number_run b rest in
    let number = b ∷ take k rest in
    let begins_so = begins_run b rest begins in
    let is_one : is_number number ≡ true = and_from (begins_number number) (all_go_on b (take k rest)) begins_so (number_passes b rest) in
    let no_word : is_word number ≡ false = not_word b (take k rest) no_letter in
    record {
      lexeme = number;
      after = drop k rest;
      begins = record {
        whole = ap (λ l. b ∷ l) (sym (take-append-drop k rest));
        is_one = or_left (is_word number || is_number number) (is_literal number || is_punctuator number) (or_right (is_word number) (is_number number) is_one);
        longest = λ c more r e.
            not_lexeme (number ++ c ∷ more)
            (not_word b (take k rest ++ c ∷ more) no_letter)
            (and_right (begins_number (number ++ c ∷ more)) (all_go_on b (take k rest ++ c ∷ more)) (number_longest b rest c more r e))
            (not_literal b (take k rest ++ c ∷ more) (number_no_quote b rest begins))
            (number_no_punctuator b (take k rest ++ c ∷ more) (begins_number_front number (c ∷ more) begins_so));
      };
      result_is =
          ap (λ n. token_of n (number_kind (take n (b ∷ rest)))) (one_more k)
          ∙ ap (λ n. token_of (suc n) (number_kind number)) (sym (length-take-le k rest (number_run-le b rest)))
          ∙ ap (token_of (length number)) (sym (cond-false (is_word number) (word_kind number) _ no_word ∙ cond-true (is_number number) (number_kind number) _ is_one));
    }

pub literal_lexeme : (quote : ℕ) (rest : List ℕ) → is_letter quote ≡ false → is_quote quote ≡ true → (size : ℕ) → Closed quote 1 false rest size → Found (quote ∷ rest) (token_of size (literal_kind (take size (quote ∷ rest))))
literal_lexeme quote rest no_letter is_q size c =
    let literal = quote ∷ c.body in
    let is_one : is_literal literal ≡ true = and_from (is_quote quote) (closes quote false c.body) is_q c.closed in
    let no_word : is_word literal ≡ false = not_word quote c.body no_letter in
    let no_number : is_number literal ≡ false = not_number quote c.body (quote_no_number quote c.body is_q) in
    let size_is : size ≡ length literal = omega (arith, c.counted) in
    let taken : take (length literal) (quote ∷ rest) ≡ literal = ap (λ l. quote ∷ take (length c.body) l) c.whole ∙ ap (λ l. quote ∷ l) (take-append_seam c.body c.after) in
    record {
      lexeme = literal;
      after = c.after;
      begins = record {
        whole = ap (λ l. quote ∷ l) c.whole;
        is_one = or_right (is_word literal || is_number literal) (is_literal literal || is_punctuator literal) (or_left (is_literal literal) (is_punctuator literal) is_one);
        longest = λ d more r e.
            not_lexeme (literal ++ d ∷ more)
            (not_word quote (c.body ++ d ∷ more) no_letter)
            (not_number quote (c.body ++ d ∷ more) (quote_no_number quote (c.body ++ d ∷ more) is_q))
            (and_right (is_quote quote) (closes quote false (c.body ++ d ∷ more)) (closes_longest quote false c.body d more c.closed))
            (not_punctuator quote (c.body ++ d ∷ more) (quote_other quote is_q));
      };
      result_is =
          ap (λ n. token_of n (literal_kind (take n (quote ∷ rest)))) size_is
          ∙ ap (λ l. token_of (length literal) (literal_kind l)) taken
          ∙ ap (token_of (length literal)) (sym (cond-false (is_word literal) (word_kind literal) _ no_word ∙ cond-false (is_number literal) (number_kind literal) _ no_number ∙ cond-true (is_literal literal) (literal_kind literal) _ is_one));
    }

pub open_literal : (quote : ℕ) (rest : List ℕ) → is_quote quote ≡ true → literal_end quote 1 false rest ≡ None → IsOpenLiteral (quote ∷ rest)
open_literal quote rest is_q none = record { quote = is_q; none_closed = λ literal after e. false_from_ne_true (is_literal literal) (never literal after e) }
  where
    never : (literal after : List ℕ) → quote ∷ rest ≡ literal ++ after → is_literal literal ≡ true → ⊥
    never [] after e is_one = false≢true is_one
    never (x ∷ body) after e is_one =
        let same : quote ≡ x = cc in
        let tail : rest ≡ body ++ after = cc in
        let closed : closes quote false body ≡ true = subst (λ q. closes q false body ≡ true) (sym same) (and_parts (is_quote x) (closes x false body) is_one).1 in
        let ends = closes_end quote 1 false body after closed in
        let none' : literal_end quote 1 false (body ++ after) ≡ None = ap (literal_end quote 1 false) (sym tail) ∙ none in
        some_none (sym ends.1 ∙ none')
      where
        some_none : {n : ℕ} → Some n ≡ None → ⊥
        some_none e = cc
