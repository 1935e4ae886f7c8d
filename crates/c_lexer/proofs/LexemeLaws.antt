-- The lexeme that reading forward finds is the longest that begins a text, and the only one.
use Rattle.std.proofs.Common.{◌≡◌, ℕ, ◌+◌, Bool, true, false, cond, List, [], ◌∷◌, ◌++◌, length, take, drop, suc, ◌≤◌, length-append, Some, None, Ok, refl, sym, ap, ◌∙◌, subst, ⊎_elim, arith}
use Rattle.std.specs.Prelude.{◌&&◌, ◌||◌, not, nat_eq, ◌==◌, bytes_eq, is_some}
use Rattle.std.specs.List.{list_all, starts_with, prefix_len}
use Rattle.std.specs.Char.{is_ascii_digit}
use Rattle.std.proofs.lemmas.Bool.{and_parts, or_parts, or_cases, and_from, and_left, and_right, ne_eqb, false≢true, not-true}
use Rattle.std.proofs.lemmas.Bool.Decides.{nat_tests}
use Rattle.c_lexer.specs.Bytes.{is_blank, is_letter, is_quote, is_bad_byte, begins_with, backslash, line_feed}
use Rattle.c_lexer.specs.Lexemes.{is_lexeme, lexeme_kind}
use Rattle.c_lexer.specs.Literals.{closes}
use Rattle.c_lexer.specs.Numbers.{goes_on, all_go_on}
use Rattle.c_lexer.specs.Punctuators.{punctuator_spelling, ellipsis, punctuator_of, is_punctuator}
use Rattle.c_lexer.specs.declared.punctuator.Punctuator.{Punctuator}
use Rattle.c_lexer.specs.declared.punctuator.TheConstants.{PUNCTUATORS}
use Rattle.std.proofs.lemmas.List.{length-take-le}
use Rattle.std.proofs.lemmas.List.Sums.{prefix_len-le-length}
use Rattle.c_lexer.specs.Reading.{number_run, literal_end}
use Rattle.c_lexer.specs.declared.punctuator.Punctuator.TheVariants as mark
use Rattle.c_lexer.specs.declared.token.TokenKind.TheVariants.{Punctuator as PunctuatorKind}
use Rattle.c_lexer.proofs.ListLaws.{bytes_eq_gives, find_has}

-- The classes of first bytes.

-- a byte that begins neither a word, a number or a literal, nor a gap, nor is refused
abbrev pub is_other : ℕ → Bool
is_other b = not (((is_letter b || is_ascii_digit b) || is_quote b) || (is_blank b || is_bad_byte b))

pub record Other (b : ℕ) : Type 0 where
  pub letter : is_letter b ≡ false
  pub digit : is_ascii_digit b ≡ false
  pub quote : is_quote b ≡ false
  pub blank : is_blank b ≡ false
  pub bad : is_bad_byte b ≡ false

pub other_is : (b : ℕ) → is_other b ≡ true → Other b
other_is b e =
    let all = or_parts ((is_letter b || is_ascii_digit b) || is_quote b) (is_blank b || is_bad_byte b) (not-true _ e) in
    let left = or_parts (is_letter b || is_ascii_digit b) (is_quote b) all.0 in
    let words = or_parts (is_letter b) (is_ascii_digit b) left.0 in
    let right = or_parts (is_blank b) (is_bad_byte b) all.1 in
    record { letter = words.0; digit = words.1; quote = left.1; blank = right.0; bad = right.1 }

pub both : {A : Type 0} (t : Bool) → t ≡ true → t ≡ false → A
both t is_true is_false = absurd (false≢true (sym is_false ∙ is_true))

pub letter_digit : (b : ℕ) → is_letter b ≡ true → is_ascii_digit b ≡ false
letter_digit b e = grind (arith, nat_tests)

pub letter_quote : (b : ℕ) → is_letter b ≡ true → is_quote b ≡ false
letter_quote b e = grind (arith, nat_tests)

pub letter_blank : (b : ℕ) → is_letter b ≡ true → is_blank b ≡ false
letter_blank b e = grind (arith, nat_tests)

pub letter_bad : (b : ℕ) → is_letter b ≡ true → is_bad_byte b ≡ false
letter_bad b e = grind (arith, nat_tests)

pub letter_point : (b : ℕ) → is_letter b ≡ true → (b == 46) ≡ false
letter_point b e = grind (arith, nat_tests)

pub digit_quote : (b : ℕ) → is_ascii_digit b ≡ true → is_quote b ≡ false
digit_quote b e = grind (arith, nat_tests)

pub digit_blank : (b : ℕ) → is_ascii_digit b ≡ true → is_blank b ≡ false
digit_blank b e = grind (arith, nat_tests)

pub digit_bad : (b : ℕ) → is_ascii_digit b ≡ true → is_bad_byte b ≡ false
digit_bad b e = grind (arith, nat_tests)

pub quote_letter : (b : ℕ) → is_quote b ≡ true → is_letter b ≡ false
quote_letter b e = grind (arith, nat_tests)

pub quote_digit : (b : ℕ) → is_quote b ≡ true → is_ascii_digit b ≡ false
quote_digit b e = grind (arith, nat_tests)

pub quote_point : (b : ℕ) → is_quote b ≡ true → (b == 46) ≡ false
quote_point b e = grind (arith, nat_tests)

pub quote_blank : (b : ℕ) → is_quote b ≡ true → is_blank b ≡ false
quote_blank b e = grind (arith, nat_tests)

pub quote_bad : (b : ℕ) → is_quote b ≡ true → is_bad_byte b ≡ false
quote_bad b e = grind (arith, nat_tests)

-- Punctuators.

pub each_other : list_all (λ each. begins_with is_other (punctuator_spelling each)) PUNCTUATORS ≡ true
each_other = refl

pub punctuator_other : (b : ℕ) (rest : List ℕ) → is_punctuator (b ∷ rest) ≡ true → is_other b ≡ true
punctuator_other b rest e =
    ⊎_elim
    (λ same. subst (λ l. begins_with is_other l ≡ true) (bytes_eq_gives ellipsis (b ∷ rest) same) refl)
    (λ found.
    (elim (punctuator_of (b ∷ rest)) as (λ o. punctuator_of (b ∷ rest) ≡ o → is_some o ≡ true → is_other b ≡ true) [
      | Some m ↦ λ is_m some.
          let has = find_has (λ each. bytes_eq (punctuator_spelling each) (b ∷ rest)) (λ each. begins_with is_other (punctuator_spelling each)) PUNCTUATORS m is_m each_other in
          subst (λ l. begins_with is_other l ≡ true) (bytes_eq_gives (punctuator_spelling m) (b ∷ rest) has.0) has.1
      | None ↦ λ is_none some. absurd (false≢true some)
    ]) refl found)
    (or_cases (bytes_eq ellipsis (b ∷ rest)) (is_some (punctuator_of (b ∷ rest))) e)

-- Runs of bytes.

pub one_more : (n : ℕ) → 1 + n ≡ suc n
one_more n = omega arith

pub run_passes : (test : ℕ → Bool) (text : List ℕ) → list_all test (take (prefix_len test text) text) ≡ true
run_passes test [] = refl
run_passes test (b ∷ rest) =
    (elim (test b) as (λ t. test b ≡ t → list_all test (take (cond t (1 + prefix_len test rest) 0) (b ∷ rest)) ≡ true) [
      | true ↦ λ is_t. rw (one_more (prefix_len test rest)) (and_from (test b) _ is_t (run_passes test rest))
      | false ↦ λ is_t. refl
    ]) refl

pub run_longest : (test : ℕ → Bool) (text : List ℕ) (c : ℕ) (more after : List ℕ) → drop (prefix_len test text) text ≡ c ∷ (more ++ after) → list_all test (take (prefix_len test text) text ++ c ∷ more) ≡ false
run_longest test [] c more after e = cc
run_longest test (b ∷ rest) c more after e =
    (elim (test b) as (λ t. test b ≡ t → drop (cond t (1 + prefix_len test rest) 0) (b ∷ rest) ≡ c ∷ (more ++ after) → list_all test (take (cond t (1 + prefix_len test rest) 0) (b ∷ rest) ++ c ∷ more) ≡ false) [
      | true ↦ λ is_t f.
          let g : drop (suc (prefix_len test rest)) (b ∷ rest) ≡ c ∷ (more ++ after) = ap (λ n. drop n (b ∷ rest)) (sym (one_more (prefix_len test rest))) ∙ f in
          rw (one_more (prefix_len test rest)) (and_right (test b) _ (run_longest test rest c more after g))
      | false ↦ λ is_t f.
          let same : b ≡ c = cc in
          and_left (test c) (list_all test more) (ap test (sym same) ∙ is_t)
    ]) refl e

pub number_passes : (previous : ℕ) (text : List ℕ) → all_go_on previous (take (number_run previous text) text) ≡ true
number_passes previous [] = refl
number_passes previous (b ∷ rest) =
    (elim (goes_on previous b) as (λ t. goes_on previous b ≡ t → all_go_on previous (take (cond t (1 + number_run b rest) 0) (b ∷ rest)) ≡ true) [
      | true ↦ λ is_t. rw (one_more (number_run b rest)) (and_from (goes_on previous b) _ is_t (number_passes b rest))
      | false ↦ λ is_t. refl
    ]) refl

pub number_longest : (previous : ℕ) (text : List ℕ) (c : ℕ) (more after : List ℕ) → drop (number_run previous text) text ≡ c ∷ (more ++ after) → all_go_on previous (take (number_run previous text) text ++ c ∷ more) ≡ false
number_longest previous [] c more after e = cc
number_longest previous (b ∷ rest) c more after e =
    (elim (goes_on previous b) as (λ t. goes_on previous b ≡ t → drop (cond t (1 + number_run b rest) 0) (b ∷ rest) ≡ c ∷ (more ++ after) → all_go_on previous (take (cond t (1 + number_run b rest) 0) (b ∷ rest) ++ c ∷ more) ≡ false) [
      | true ↦ λ is_t f.
          let g : drop (suc (number_run b rest)) (b ∷ rest) ≡ c ∷ (more ++ after) = ap (λ n. drop n (b ∷ rest)) (sym (one_more (number_run b rest))) ∙ f in
          rw (one_more (number_run b rest)) (and_right (goes_on previous b) _ (number_longest b rest c more after g))
      | false ↦ λ is_t f.
          let same : b ≡ c = cc in
          and_left (goes_on previous c) (all_go_on c more) (ap (goes_on previous) (sym same) ∙ is_t)
    ]) refl e

pub run-le : (test : ℕ → Bool) (text : List ℕ) → length (take (prefix_len test text) text) ≡ prefix_len test text
run-le test text = length-take-le (prefix_len test text) text (prefix_len-le-length test text)

pub number_run-le : (previous : ℕ) (text : List ℕ) → number_run previous text ≤ length text
number_run-le previous [] = omega arith
number_run-le previous (b ∷ rest) =
    (elim (goes_on previous b) as (λ t. cond t (1 + number_run b rest) 0 ≤ length (b ∷ rest)) [
      | true ↦ (let within = number_run-le b rest in omega arith)
      | false ↦ omega arith
    ])

-- Literals.

-- a literal ends in these bytes, and the rest goes on after them
pub record Closed (quote passed : ℕ) (is_escaped : Bool) (rest : List ℕ) (size : ℕ) : Type 0 where
  pub body : List ℕ
  pub after : List ℕ
  pub whole : rest ≡ body ++ after
  pub closed : closes quote is_escaped body ≡ true
  pub counted : size ≡ passed + length body

pub more_closed : (quote passed : ℕ) (is_escaped next_escaped : Bool) (b : ℕ) (rest : List ℕ) (size : ℕ)
    → ((body : List ℕ) → closes quote is_escaped (b ∷ body) ≡ closes quote next_escaped body)
    → Closed quote (passed + 1) next_escaped rest size → Closed quote passed is_escaped (b ∷ rest) size
more_closed quote passed is_escaped next_escaped b rest size step c = record {
  body = b ∷ c.body;
  after = c.after;
  whole = ap (λ l. b ∷ l) c.whole;
  closed = step c.body ∙ c.closed;
  counted = omega (arith, c.counted);
}

-- how a literal goes on after a byte that is no line feed
pub closes_escaped : (quote b : ℕ) (body : List ℕ) → (b == line_feed) ≡ false → closes quote true (b ∷ body) ≡ closes quote false body
closes_escaped quote b body no_end = ap (λ t. not t && closes quote false body) no_end

pub closes_at : (quote b : ℕ) (body : List ℕ) → (b == line_feed) ≡ false → (b == quote) ≡ true → closes quote false (b ∷ body) ≡ (length body == 0)
closes_at quote b body no_end is_quote =
    ap (λ t. not t && cond (b == quote) (length body == 0) (closes quote (b == backslash) body)) no_end
    ∙ ap (λ t. cond t (length body == 0) (closes quote (b == backslash) body)) is_quote

pub closes_after : (quote b : ℕ) (body : List ℕ) → (b == line_feed) ≡ false → (b == quote) ≡ false → closes quote false (b ∷ body) ≡ closes quote (b == backslash) body
closes_after quote b body no_end no_quote =
    ap (λ t. not t && cond (b == quote) (length body == 0) (closes quote (b == backslash) body)) no_end
    ∙ ap (λ t. cond t (length body == 0) (closes quote (b == backslash) body)) no_quote

pub literal_found : (quote passed : ℕ) (is_escaped : Bool) (rest : List ℕ) (size : ℕ) → literal_end quote passed is_escaped rest ≡ Some size → Closed quote passed is_escaped rest size
literal_found quote passed is_escaped [] size e = cc
literal_found quote passed true (b ∷ rest) size e =
    (elim (b == line_feed) as (λ t. (b == line_feed) ≡ t → cond t None (literal_end quote (passed + 1) false rest) ≡ Some size → Closed quote passed true (b ∷ rest) size) [
      | true ↦ λ is_end f. cc
      | false ↦ λ no_end f. more_closed quote passed true false b rest size (λ body. closes_escaped quote b body no_end) (literal_found quote (passed + 1) false rest size f)
    ]) refl e
literal_found quote passed false (b ∷ rest) size e =
    (elim (b == line_feed) as (λ t. (b == line_feed) ≡ t → cond t None (cond (b == quote) (Some (passed + 1)) (literal_end quote (passed + 1) (b == backslash) rest)) ≡ Some size → Closed quote passed false (b ∷ rest) size) [
      | true ↦ λ is_end f. cc
      | false ↦ λ no_end f.
          (elim (b == quote) as (λ t. (b == quote) ≡ t → cond t (Some (passed + 1)) (literal_end quote (passed + 1) (b == backslash) rest) ≡ Some size → Closed quote passed false (b ∷ rest) size) [
            | true ↦ λ is_quote g. record { body = b ∷ []; after = rest; whole = refl; closed = closes_at quote b [] no_end is_quote; counted = (let same : passed + 1 ≡ size = cc in omega arith) }
            | false ↦ λ no_quote g. more_closed quote passed false (b == backslash) b rest size (λ body. closes_after quote b body no_end no_quote) (literal_found quote (passed + 1) (b == backslash) rest size g)
          ]) refl f
    ]) refl e

pub closes_end : (quote passed : ℕ) (is_escaped : Bool) (body after : List ℕ) → closes quote is_escaped body ≡ true → (size : ℕ) × (literal_end quote passed is_escaped (body ++ after) ≡ Some size)
closes_end quote passed is_escaped [] after e = absurd (false≢true e)
closes_end quote passed true (b ∷ body) after e =
    let parts = and_parts (not (b == line_feed)) (closes quote false body) e in
    let rest = closes_end quote (passed + 1) false body after parts.1 in
    (rest.0, ap (λ t. cond t None (literal_end quote (passed + 1) false (body ++ after))) (not-true _ parts.0) ∙ rest.1)
closes_end quote passed false (b ∷ body) after e =
    let parts = and_parts (not (b == line_feed)) (cond (b == quote) (length body == 0) (closes quote (b == backslash) body)) e in
    let no_end : cond (b == line_feed) None (cond (b == quote) (Some (passed + 1)) (literal_end quote (passed + 1) (b == backslash) (body ++ after))) ≡ cond (b == quote) (Some (passed + 1)) (literal_end quote (passed + 1) (b == backslash) (body ++ after)) = ap (λ t. cond t None (cond (b == quote) (Some (passed + 1)) (literal_end quote (passed + 1) (b == backslash) (body ++ after)))) (not-true _ parts.0) in
    (elim (b == quote) as (λ t. (b == quote) ≡ t → cond t (length body == 0) (closes quote (b == backslash) body) ≡ true → (size : ℕ) × (literal_end quote passed false ((b ∷ body) ++ after) ≡ Some size)) [
      | true ↦ λ is_quote f. (passed + 1, no_end ∙ ap (λ t. cond t (Some (passed + 1)) (literal_end quote (passed + 1) (b == backslash) (body ++ after))) is_quote)
      | false ↦ λ no_quote f.
          (let rest = closes_end quote (passed + 1) (b == backslash) body after f in
          (rest.0, no_end ∙ ap (λ t. cond t (Some (passed + 1)) (literal_end quote (passed + 1) (b == backslash) (body ++ after))) no_quote ∙ rest.1))
    ]) refl parts.1

pub closes_longest : (quote : ℕ) (is_escaped : Bool) (body : List ℕ) (c : ℕ) (more : List ℕ) → closes quote is_escaped body ≡ true → closes quote is_escaped (body ++ c ∷ more) ≡ false
closes_longest quote is_escaped [] c more e = absurd (false≢true e)
closes_longest quote true (b ∷ body) c more e =
    let parts = and_parts (not (b == line_feed)) (closes quote false body) e in
    and_right (not (b == line_feed)) _ (closes_longest quote false body c more parts.1)
closes_longest quote false (b ∷ body) c more e =
    let parts = and_parts (not (b == line_feed)) (cond (b == quote) (length body == 0) (closes quote (b == backslash) body)) e in
    and_right (not (b == line_feed)) _
    ((elim (b == quote) as (λ t. cond t (length body == 0) (closes quote (b == backslash) body) ≡ true → cond t (length (body ++ c ∷ more) == 0) (closes quote (b == backslash) (body ++ c ∷ more)) ≡ false) [
      | true ↦ λ f. ne_eqb (length (body ++ c ∷ more)) 0 (λ none. omega (arith, simp length-append at none))
      | false ↦ λ f. closes_longest quote (b == backslash) body c more f
    ]) parts.1)

-- Punctuators are tokens, and the first that begins a text is the longest.

pub punctuator_lexeme : (each : Punctuator) → is_lexeme (punctuator_spelling each) ≡ true
punctuator_lexeme mark.ShiftLeftEqual = refl
punctuator_lexeme mark.ShiftRightEqual = refl
punctuator_lexeme mark.Arrow = refl
punctuator_lexeme mark.PlusPlus = refl
punctuator_lexeme mark.MinusMinus = refl
punctuator_lexeme mark.ShiftLeft = refl
punctuator_lexeme mark.ShiftRight = refl
punctuator_lexeme mark.LessEqual = refl
punctuator_lexeme mark.GreaterEqual = refl
punctuator_lexeme mark.EqualEqual = refl
punctuator_lexeme mark.NotEqual = refl
punctuator_lexeme mark.AndAnd = refl
punctuator_lexeme mark.OrOr = refl
punctuator_lexeme mark.StarEqual = refl
punctuator_lexeme mark.SlashEqual = refl
punctuator_lexeme mark.PercentEqual = refl
punctuator_lexeme mark.PlusEqual = refl
punctuator_lexeme mark.MinusEqual = refl
punctuator_lexeme mark.AndEqual = refl
punctuator_lexeme mark.CaretEqual = refl
punctuator_lexeme mark.OrEqual = refl
punctuator_lexeme mark.HashHash = refl
punctuator_lexeme mark.OpenBracket = refl
punctuator_lexeme mark.CloseBracket = refl
punctuator_lexeme mark.OpenParen = refl
punctuator_lexeme mark.CloseParen = refl
punctuator_lexeme mark.OpenBrace = refl
punctuator_lexeme mark.CloseBrace = refl
punctuator_lexeme mark.Dot = refl
punctuator_lexeme mark.And = refl
punctuator_lexeme mark.Star = refl
punctuator_lexeme mark.Plus = refl
punctuator_lexeme mark.Minus = refl
punctuator_lexeme mark.Tilde = refl
punctuator_lexeme mark.Not = refl
punctuator_lexeme mark.Slash = refl
punctuator_lexeme mark.Percent = refl
punctuator_lexeme mark.Less = refl
punctuator_lexeme mark.Greater = refl
punctuator_lexeme mark.Caret = refl
punctuator_lexeme mark.Or = refl
punctuator_lexeme mark.Question = refl
punctuator_lexeme mark.Colon = refl
punctuator_lexeme mark.Semicolon = refl
punctuator_lexeme mark.Equal = refl
punctuator_lexeme mark.Comma = refl
punctuator_lexeme mark.Hash = refl

pub lexeme_kind-punctuator : (each : Punctuator) → lexeme_kind (punctuator_spelling each) ≡ Ok (PunctuatorKind each)
lexeme_kind-punctuator mark.ShiftLeftEqual = refl
lexeme_kind-punctuator mark.ShiftRightEqual = refl
lexeme_kind-punctuator mark.Arrow = refl
lexeme_kind-punctuator mark.PlusPlus = refl
lexeme_kind-punctuator mark.MinusMinus = refl
lexeme_kind-punctuator mark.ShiftLeft = refl
lexeme_kind-punctuator mark.ShiftRight = refl
lexeme_kind-punctuator mark.LessEqual = refl
lexeme_kind-punctuator mark.GreaterEqual = refl
lexeme_kind-punctuator mark.EqualEqual = refl
lexeme_kind-punctuator mark.NotEqual = refl
lexeme_kind-punctuator mark.AndAnd = refl
lexeme_kind-punctuator mark.OrOr = refl
lexeme_kind-punctuator mark.StarEqual = refl
lexeme_kind-punctuator mark.SlashEqual = refl
lexeme_kind-punctuator mark.PercentEqual = refl
lexeme_kind-punctuator mark.PlusEqual = refl
lexeme_kind-punctuator mark.MinusEqual = refl
lexeme_kind-punctuator mark.AndEqual = refl
lexeme_kind-punctuator mark.CaretEqual = refl
lexeme_kind-punctuator mark.OrEqual = refl
lexeme_kind-punctuator mark.HashHash = refl
lexeme_kind-punctuator mark.OpenBracket = refl
lexeme_kind-punctuator mark.CloseBracket = refl
lexeme_kind-punctuator mark.OpenParen = refl
lexeme_kind-punctuator mark.CloseParen = refl
lexeme_kind-punctuator mark.OpenBrace = refl
lexeme_kind-punctuator mark.CloseBrace = refl
lexeme_kind-punctuator mark.Dot = refl
lexeme_kind-punctuator mark.And = refl
lexeme_kind-punctuator mark.Star = refl
lexeme_kind-punctuator mark.Plus = refl
lexeme_kind-punctuator mark.Minus = refl
lexeme_kind-punctuator mark.Tilde = refl
lexeme_kind-punctuator mark.Not = refl
lexeme_kind-punctuator mark.Slash = refl
lexeme_kind-punctuator mark.Percent = refl
lexeme_kind-punctuator mark.Less = refl
lexeme_kind-punctuator mark.Greater = refl
lexeme_kind-punctuator mark.Caret = refl
lexeme_kind-punctuator mark.Or = refl
lexeme_kind-punctuator mark.Question = refl
lexeme_kind-punctuator mark.Colon = refl
lexeme_kind-punctuator mark.Semicolon = refl
lexeme_kind-punctuator mark.Equal = refl
lexeme_kind-punctuator mark.Comma = refl
lexeme_kind-punctuator mark.Hash = refl

abbrev pub is_ordered : List Punctuator → Bool
is_ordered [] = true
is_ordered (m ∷ ms) = list_all (λ later. not (starts_with nat_eq (punctuator_spelling later) (punctuator_spelling m))) ms && is_ordered ms

pub ordered : is_ordered PUNCTUATORS ≡ true
ordered = refl
