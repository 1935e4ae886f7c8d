-- Reading forward finds the one piece that begins a text, or the one rule that refuses it.
use Rattle.std.proofs.Common.{◌≡◌, ℕ, ◌+◌, Bool, true, false, cond, ◌⊎◌, List, [], ◌∷◌, ◌++◌, length, drop, Option, Some, None, Result, Ok, Err, refl, sym, ap, ◌∙◌, subst, inl, inr, ⊎_elim, append_assoc, arith, length-append}
use Rattle.std.specs.Prelude.{◌&&◌, ◌||◌, nat_eq, ◌==◌, codes, ok_or, option_map, bytes_eq, is_some}
use Rattle.std.specs.Option.{option_map_or}
use Rattle.std.specs.List.{starts_with, list_any}
use Rattle.std.specs.Char.{is_ascii_digit}
use Rattle.std.proofs.lemmas.Bool.{and_parts, or_parts, or_cases, or_from, and_from, and_left, and_right, false≢true, cond-true, cond-false, eqb-true, false_from_ne_true}
use Rattle.std.proofs.lemmas.Bool.Decides.{nat_tests}
use Rattle.cc_base.specs.declared.fault.Rule.{Rule}
use Rattle.cc_base.specs.declared.fault.Rule.TheVariants.{BadByte, OpenComment, OpenText, BadNumber, Syntax, Unsupported, UnknownName, Redeclared, Incomplete, Mismatch, NotPlace, NotConstant, BadCall, NoMain}
use Rattle.c_lexer.specs.Bytes.{is_blank, is_letter, is_quote, is_bad_byte, begins_with}
use Rattle.c_lexer.specs.Cut.{Piece, Blank, BlockComment, LineComment, LineMarker, Spelled, piece_bytes, IsRestOfLine, IsTokenAt, Stands, is_first_on_line, IsRefusedLexeme, IsOpenLiteral, IsDirective, IsFault}
use Rattle.c_lexer.specs.Gaps.{has_comment_end, begins_comment, line_of, is_line_marker}
use Rattle.c_lexer.specs.Lexemes.{is_lexeme, lexeme_kind, Begins, begins_wide_literal}
use Rattle.c_lexer.specs.Literals.{is_literal, literal_kind, characters_of, constant_kind, is_universal, is_bad}
use Rattle.c_lexer.specs.Numbers.{is_number, begins_number, number_kind, integer_of, is_floating, has_long_long_suffix}
use Rattle.c_lexer.specs.Punctuators.{ellipsis, is_punctuator, punctuator_kind, punctuator_of}
use Rattle.c_lexer.specs.declared.punctuator.Punctuator.{Punctuator}
use Rattle.c_lexer.specs.Reading.{step_at, lexeme_at, gap_of, token_of, comment_end, comment_step, directive_step}
use Rattle.c_lexer.specs.Words.{is_word, is_left_out, keyword_of, word_kind}
use Rattle.c_lexer.specs.declared.literal.Character.{Character}
use Rattle.c_lexer.specs.declared.literal.Character.TheVariants.{Byte, Bad, Universal}
use Rattle.c_lexer.specs.declared.step.Step.{Step}
use Rattle.c_lexer.specs.declared.token.TokenKind.{TokenKind}
use Rattle.c_lexer.specs.declared.token.TokenKind.TheVariants.{Keyword as KeywordKind, Punctuator as PunctuatorKind, Identifier, StringLiteral}
use Rattle.c_lexer.proofs.FirstLexeme.{Found, begins_front, not_word, not_number, not_literal}
use Rattle.c_lexer.proofs.GapLaws.{begins_gives, comment_found, no_comment_end, comment_end-none, comment_end-at, line_size, line_of-cons, line_of-whole, IsRestOfLine-line_of}
use Rattle.c_lexer.proofs.LexemeLaws.{is_other, other_is, punctuator_other, letter_blank, letter_bad, digit_blank, digit_bad, quote_blank, quote_bad}
use Rattle.c_lexer.proofs.ListLaws.{starts_gives}
use Rattle.c_lexer.proofs.TextStart.{Start, lexeme, open_literal_at, bad_byte, start, none_at_open, lexeme_at-begins}

-- what reading forward answers at a piece
abbrev pub kind_of : Piece → Option TokenKind
kind_of (Blank b) = None
kind_of (BlockComment body) = None
kind_of (LineComment body) = None
kind_of (LineMarker line) = None
kind_of (Spelled kind bytes) = Some kind

abbrev pub step_of : Piece → Step
step_of piece = record { size = length (piece_bytes piece); kind = kind_of piece }

-- The tests of a step, one after another.

module _ (starts_line : Bool) (text : List ℕ) where
  abbrev at_wide : Result Step Rule
  at_wide = cond (begins_wide_literal text) (Err Unsupported) (lexeme_at text)

  abbrev at_directive : Result Step Rule
  at_directive = cond (starts_line && begins_with (λ b. b == 35) text) (directive_step (line_of text)) at_wide

  abbrev at_line_comment : Result Step Rule
  at_line_comment = cond (starts_with nat_eq text (codes "//")) (gap_of (length (line_of text))) at_directive

  abbrev at_comment : Result Step Rule
  at_comment = cond (starts_with nat_eq text (codes "/*")) (comment_step (comment_end 2 (drop 2 text))) at_line_comment

  past_blank : begins_with is_blank text ≡ false → step_at starts_line text ≡ at_comment
  past_blank e = cond-false (begins_with is_blank text) (gap_of 1) at_comment e

  past_comments : begins_comment text ≡ false → at_comment ≡ at_directive
  past_comments e =
      let parts = or_parts (starts_with nat_eq text (codes "/*")) (starts_with nat_eq text (codes "//")) e in
      cond-false (starts_with nat_eq text (codes "/*")) (comment_step (comment_end 2 (drop 2 text))) at_line_comment parts.0
      ∙ cond-false (starts_with nat_eq text (codes "//")) (gap_of (length (line_of text))) at_directive parts.1

  past_directive : (starts_line && begins_with (λ b. b == 35) text) ≡ false → at_directive ≡ at_wide
  past_directive e = cond-false (starts_line && begins_with (λ b. b == 35) text) (directive_step (line_of text)) at_wide e

  past_wide : begins_wide_literal text ≡ false → at_wide ≡ lexeme_at text
  past_wide e = cond-false (begins_wide_literal text) (Err Unsupported) (lexeme_at text) e

-- The first byte of a lexeme.

lexeme_class : (b : ℕ) (rest : List ℕ) (A : Type 0) → is_lexeme (b ∷ rest) ≡ true
    → (is_letter b ≡ true → A) → (is_number (b ∷ rest) ≡ true → A) → (is_quote b ≡ true → A) → (is_other b ≡ true → A) → A
lexeme_class b rest A e letter number quote other =
    ⊎_elim
    (λ words. ⊎_elim (λ w. letter (and_parts (is_letter b) _ w).0) number (or_cases (is_word (b ∷ rest)) (is_number (b ∷ rest)) words))
    (λ marks. ⊎_elim (λ l. quote (and_parts (is_quote b) _ l).0) (λ p. other (punctuator_other b rest p)) (or_cases (is_literal (b ∷ rest)) (is_punctuator (b ∷ rest)) marks))
    (or_cases (is_word (b ∷ rest) || is_number (b ∷ rest)) (is_literal (b ∷ rest) || is_punctuator (b ∷ rest)) e)

-- a test that is false of letters, digits, quotes, the point and other bytes is false of a lexeme's first byte
first_byte : (test : ℕ → Bool) (b : ℕ) (rest : List ℕ) → is_lexeme (b ∷ rest) ≡ true
    → ((x : ℕ) → is_letter x ≡ true → test x ≡ false) → ((x : ℕ) → is_ascii_digit x ≡ true → test x ≡ false) → test 46 ≡ false
    → ((x : ℕ) → is_quote x ≡ true → test x ≡ false) → ((x : ℕ) → is_other x ≡ true → test x ≡ false) → test b ≡ false
first_byte test b rest e letter digit point quote other =
    lexeme_class b rest (test b ≡ false) e (letter b)
    (λ number. ⊎_elim (digit b) (λ p. ap test (eqb-true b 46 (and_parts (b == 46) (begins_with is_ascii_digit rest) p).0) ∙ point) (or_cases (is_ascii_digit b) ((b == 46) && begins_with is_ascii_digit rest) (and_parts (begins_number (b ∷ rest)) _ number).0))
    (quote b) (other b)

pub lexeme_no_blank : (b : ℕ) (rest : List ℕ) → is_lexeme (b ∷ rest) ≡ true → is_blank b ≡ false
lexeme_no_blank b rest e = first_byte is_blank b rest e letter_blank digit_blank refl quote_blank (λ x o. (other_is x o).blank)

pub lexeme_not_bad : (b : ℕ) (rest : List ℕ) → is_lexeme (b ∷ rest) ≡ true → is_bad_byte b ≡ false
lexeme_not_bad b rest e = first_byte is_bad_byte b rest e letter_bad digit_bad refl quote_bad (λ x o. (other_is x o).bad)

-- Only these rules refuse a lexeme.

err_rule : (r s : Rule) → ◌≡◌ {A = Result TokenKind Rule} (Err r) (Err s) → s ≡ r
err_rule r s e = cc

word_rule : (bytes : List ℕ) (rule : Rule) → word_kind bytes ≡ Err rule → rule ≡ Unsupported
word_rule bytes rule e =
    (elim (is_left_out bytes) as (λ t. cond t (Err Unsupported) (Ok (option_map_or KeywordKind (keyword_of bytes) Identifier)) ≡ Err rule → rule ≡ Unsupported) [
      | true ↦ λ f. cc
      | false ↦ λ f. cc
    ]) e

number_rule : (bytes : List ℕ) (rule : Rule) → number_kind bytes ≡ Err rule → (rule ≡ BadNumber) ⊎ (rule ≡ Unsupported)
number_rule bytes rule e =
    (elim (integer_of bytes) as (λ o. ok_or o (cond (is_floating bytes || has_long_long_suffix bytes) Unsupported BadNumber) ≡ Err rule → (rule ≡ BadNumber) ⊎ (rule ≡ Unsupported)) [
      | Some kind ↦ λ f. cc
      | None ↦ λ f.
          (elim (is_floating bytes || has_long_long_suffix bytes) as (λ t. ◌≡◌ {A = Result TokenKind Rule} (Err (cond t Unsupported BadNumber)) (Err rule) → (rule ≡ BadNumber) ⊎ (rule ≡ Unsupported)) [
            | true ↦ λ g. inr (err_rule Unsupported rule g)
            | false ↦ λ g. inl (err_rule BadNumber rule g)
          ]) f
    ]) e

constant_rule : (cs : List Character) (rule : Rule) → constant_kind cs ≡ Err rule → (rule ≡ BadNumber) ⊎ (rule ≡ Unsupported)
constant_rule [] rule e = inl (cc)
constant_rule (Byte value ∷ []) rule e = cc
constant_rule (Bad ∷ []) rule e = inl (cc)
constant_rule (Universal ∷ []) rule e = inr (cc)
constant_rule (Byte value ∷ second ∷ rest) rule e = inr (cc)
constant_rule (Bad ∷ second ∷ rest) rule e = inr (cc)
constant_rule (Universal ∷ second ∷ rest) rule e = inr (cc)

literal_rule : (bytes : List ℕ) (rule : Rule) → literal_kind bytes ≡ Err rule → (rule ≡ BadNumber) ⊎ (rule ≡ Unsupported)
literal_rule bytes rule e =
    (elim (list_any is_universal (characters_of bytes)) as (λ t. cond t (Err Unsupported) (cond (begins_with (λ b. b == 39) bytes) (constant_kind (characters_of bytes)) (cond (list_any is_bad (characters_of bytes)) (Err BadNumber) (Ok StringLiteral))) ≡ Err rule → (rule ≡ BadNumber) ⊎ (rule ≡ Unsupported)) [
      | true ↦ λ f. inr (cc)
      | false ↦ λ f.
          (elim (begins_with (λ b. b == 39) bytes) as (λ t. cond t (constant_kind (characters_of bytes)) (cond (list_any is_bad (characters_of bytes)) (Err BadNumber) (Ok StringLiteral)) ≡ Err rule → (rule ≡ BadNumber) ⊎ (rule ≡ Unsupported)) [
            | true ↦ λ g. constant_rule (characters_of bytes) rule g
            | false ↦ λ g.
                (elim (list_any is_bad (characters_of bytes)) as (λ t. cond t (Err BadNumber) (Ok StringLiteral) ≡ Err rule → (rule ≡ BadNumber) ⊎ (rule ≡ Unsupported)) [
                  | true ↦ λ h. inl (cc)
                  | false ↦ λ h. cc
                ]) g
          ]) f
    ]) e

punctuator_rule : (bytes : List ℕ) (rule : Rule) → punctuator_kind bytes ≡ Err rule → rule ≡ Unsupported
punctuator_rule bytes rule e =
    (elim (punctuator_of bytes) as (λ o. ok_or (option_map PunctuatorKind o) Unsupported ≡ Err rule → rule ≡ Unsupported) [
      | Some found ↦ λ f. cc
      | None ↦ λ f. cc
    ]) e

lexeme_rule : (bytes : List ℕ) (rule : Rule) → lexeme_kind bytes ≡ Err rule → (rule ≡ BadNumber) ⊎ (rule ≡ Unsupported)
lexeme_rule bytes rule e =
    (elim (is_word bytes) as (λ t. cond t (word_kind bytes) (cond (is_number bytes) (number_kind bytes) (cond (is_literal bytes) (literal_kind bytes) (punctuator_kind bytes))) ≡ Err rule → (rule ≡ BadNumber) ⊎ (rule ≡ Unsupported)) [
      | true ↦ λ f. inr (word_rule bytes rule f)
      | false ↦ λ f.
          (elim (is_number bytes) as (λ t. cond t (number_kind bytes) (cond (is_literal bytes) (literal_kind bytes) (punctuator_kind bytes)) ≡ Err rule → (rule ≡ BadNumber) ⊎ (rule ≡ Unsupported)) [
            | true ↦ λ g. number_rule bytes rule g
            | false ↦ λ g.
                (elim (is_literal bytes) as (λ t. cond t (literal_kind bytes) (punctuator_kind bytes) ≡ Err rule → (rule ≡ BadNumber) ⊎ (rule ≡ Unsupported)) [
                  | true ↦ λ h. literal_rule bytes rule h
                  | false ↦ λ h. inr (punctuator_rule bytes rule h)
                ]) g
          ]) f
    ]) e

-- What stands at the front of a text, or refuses it.

pub data Explained (before text : List ℕ) (result : Result Step Rule) : Type 0 where
  stands : (piece : Piece) (after : List ℕ) → text ≡ piece_bytes piece ++ after → Stands before piece after → result ≡ Ok (step_of piece) → Explained before text result
  faulty : (rule : Rule) → IsFault before text rule → result ≡ Err rule → Explained before text result

explained_comment : (before text : List ℕ) → starts_with nat_eq text (codes "/*") ≡ true → Explained before text (comment_step (comment_end 2 (drop 2 text)))
explained_comment before text e =
    (elim (comment_end 2 (drop 2 text)) as (λ o. comment_end 2 (drop 2 text) ≡ o → Explained before text (comment_step o)) [
      | None ↦ λ none. faulty OpenComment (e, no_comment_end 2 (drop 2 text) none) refl
      | Some size ↦ λ found.
          let end = comment_found 2 (drop 2 text) size found in
          let counted : size ≡ length (piece_bytes (BlockComment end.body)) = size_of_comment end.body size end.counted in
          stands (BlockComment end.body) end.after
          (starts_gives text (codes "/*") e ∙ ap (λ l. codes "/*" ++ l) end.whole ∙ ap (λ l. codes "/*" ++ l) (sym (append_assoc end.body (codes "*/") end.after)))
          end.no_end (ap gap_of counted)
    ]) refl
  where
    size_of_comment : (body : List ℕ) (size : ℕ) → size ≡ 2 + length body + 2 → size ≡ length (piece_bytes (BlockComment body))
    size_of_comment body size h = simp length-append (omega arith)

explained_line_comment : (before text : List ℕ) → starts_with nat_eq text (codes "//") ≡ true → Explained before text (gap_of (length (line_of text)))
explained_line_comment before text e =
    let rest = drop 2 text in
    let whole = starts_gives text (codes "//") e in
    let line : line_of text ≡ codes "//" ++ line_of rest = ap line_of whole ∙ line_of-cons 47 (47 ∷ rest) refl ∙ ap (λ l. 47 ∷ l) (line_of-cons 47 rest refl) in
    stands (LineComment (line_of rest)) (drop (line_size rest) rest)
    (whole ∙ ap (λ l. codes "//" ++ l) (line_of-whole rest))
    (IsRestOfLine-line_of rest) (ap (λ l. gap_of (length l)) line)

explained_directive : (before text : List ℕ) → is_first_on_line before ≡ true → begins_with (λ b. b == 35) text ≡ true → Explained before text (directive_step (line_of text))
explained_directive before text first begins =
    (elim (is_line_marker (line_of text)) as (λ t. is_line_marker (line_of text) ≡ t → Explained before text (cond t (gap_of (length (line_of text))) (Err Unsupported))) [
      | true ↦ λ marker. stands (LineMarker (line_of text)) (drop (line_size text) text) (line_of-whole text) (first, IsRestOfLine-line_of text, marker) refl
      | false ↦ λ no_marker. faulty Unsupported (inr (inr (first, begins, no_marker))) refl
    ]) refl

refused_lexeme : (before text lexeme after : List ℕ) (rule : Rule) → Begins text lexeme after → lexeme_kind lexeme ≡ Err rule → IsFault before text rule
refused_lexeme before text one after rule begins kind_is =
    let refused : IsRefusedLexeme text rule = record { lexeme = one; after = after; begins = begins; kind_is = kind_is } in
    ⊎_elim
    (λ bad_number. subst (IsFault before text) (sym bad_number) (subst (IsRefusedLexeme text) bad_number refused))
    (λ unsupported. subst (IsFault before text) (sym unsupported) (inl (subst (IsRefusedLexeme text) unsupported refused)))
    (lexeme_rule one rule kind_is)

explained_lexeme : (before : List ℕ) (b : ℕ) (rest : List ℕ) → is_blank b ≡ false → begins_comment (b ∷ rest) ≡ false
    → (is_first_on_line before && begins_with (λ c. c == 35) (b ∷ rest)) ≡ false → begins_wide_literal (b ∷ rest) ≡ false → Explained before (b ∷ rest) (lexeme_at (b ∷ rest))
explained_lexeme before b rest no_blank no_comment no_directive not_wide = decided (start b rest no_blank)
  where
    text : List ℕ
    text = b ∷ rest

    front_directive : (front after : List ℕ) → b ∷ rest ≡ front ++ after → (is_first_on_line before && begins_with (λ c. c == 35) front) ≡ false
    front_directive front after whole = false_from_ne_true (is_first_on_line before && begins_with (λ c. c == 35) front) (λ h.
        let parts = and_parts (is_first_on_line before) (begins_with (λ c. c == 35) front) h in
        false≢true (sym no_directive ∙ and_from (is_first_on_line before) (begins_with (λ c. c == 35) (b ∷ rest)) parts.0 (ap (begins_with (λ c. c == 35)) whole ∙ begins_front (λ c. c == 35) front after parts.1)))

    judged : (f : Found (b ∷ rest) (lexeme_at (b ∷ rest))) → (kind : Result TokenKind Rule) → lexeme_kind f.lexeme ≡ kind → Explained before (b ∷ rest) (lexeme_at (b ∷ rest))
    judged f (Ok kind) kind_is =
        stands (Spelled kind f.lexeme) f.after f.begins.whole
        (record {
          begins = record { whole = refl; is_one = f.begins.is_one; longest = f.begins.longest };
          kind_is = kind_is;
          no_comment = ap begins_comment (sym f.begins.whole) ∙ no_comment;
          no_directive = front_directive f.lexeme f.after f.begins.whole;
          not_wide = ap begins_wide_literal (sym f.begins.whole) ∙ not_wide;
        })
        (f.result_is ∙ ap (token_of (length f.lexeme)) kind_is)
    judged f (Err rule) kind_is =
        faulty rule (refused_lexeme before (b ∷ rest) f.lexeme f.after rule f.begins kind_is) (f.result_is ∙ ap (token_of (length f.lexeme)) kind_is)

    decided : Start (b ∷ rest) (lexeme_at (b ∷ rest)) → Explained before (b ∷ rest) (lexeme_at (b ∷ rest))
    decided (lexeme f) = judged f (lexeme_kind f.lexeme) refl
    decided (open_literal_at o e) = faulty OpenText o e
    decided (bad_byte bad e none) = faulty BadByte bad e

pub explained : (before : List ℕ) (b : ℕ) (rest : List ℕ) → Explained before (b ∷ rest) (step_at (is_first_on_line before) (b ∷ rest))
explained before b rest =
    (elim (is_blank b) as (λ t. is_blank b ≡ t → Explained before (b ∷ rest) (cond t (gap_of 1) (at_comment (is_first_on_line before) (b ∷ rest)))) [
      | true ↦ λ blank. stands (Blank b) rest refl blank refl
      | false ↦ λ no_blank.
          (elim (starts_with nat_eq (b ∷ rest) (codes "/*")) as (λ t. starts_with nat_eq (b ∷ rest) (codes "/*") ≡ t → Explained before (b ∷ rest) (cond t (comment_step (comment_end 2 (drop 2 (b ∷ rest)))) (at_line_comment (is_first_on_line before) (b ∷ rest)))) [
            | true ↦ λ e. explained_comment before (b ∷ rest) e
            | false ↦ λ no_block.
                (elim (starts_with nat_eq (b ∷ rest) (codes "//")) as (λ t. starts_with nat_eq (b ∷ rest) (codes "//") ≡ t → Explained before (b ∷ rest) (cond t (gap_of (length (line_of (b ∷ rest)))) (at_directive (is_first_on_line before) (b ∷ rest)))) [
                  | true ↦ λ e. explained_line_comment before (b ∷ rest) e
                  | false ↦ λ no_line.
                      (elim (is_first_on_line before && (b == 35)) as (λ t. (is_first_on_line before && (b == 35)) ≡ t → Explained before (b ∷ rest) (cond t (directive_step (line_of (b ∷ rest))) (at_wide (is_first_on_line before) (b ∷ rest)))) [
                        | true ↦ λ e. (let parts = and_parts (is_first_on_line before) (b == 35) e in explained_directive before (b ∷ rest) parts.0 parts.1)
                        | false ↦ λ no_directive.
                            (elim (begins_wide_literal (b ∷ rest)) as (λ t. begins_wide_literal (b ∷ rest) ≡ t → Explained before (b ∷ rest) (cond t (Err Unsupported) (lexeme_at (b ∷ rest)))) [
                              | true ↦ λ wide. faulty Unsupported (inr (inl wide)) refl
                              | false ↦ λ not_wide. explained_lexeme before b rest no_blank (or_from (starts_with nat_eq (b ∷ rest) (codes "/*")) (starts_with nat_eq (b ∷ rest) (codes "//")) no_block no_line) no_directive not_wide
                            ]) refl
                      ]) refl
                ]) refl
          ]) refl
    ]) refl

-- What stands at the front of a text is found there.

abbrev no_directive_at : Bool → List ℕ → Type 0
no_directive_at starts_line text = (starts_line && begins_with (λ b. b == 35) text) ≡ false

step_at-lexeme : (starts_line : Bool) (text : List ℕ) → begins_with is_blank text ≡ false → begins_comment text ≡ false → no_directive_at starts_line text → begins_wide_literal text ≡ false → step_at starts_line text ≡ lexeme_at text
step_at-lexeme starts_line text no_blank no_comment no_directive not_wide =
    past_blank starts_line text no_blank ∙ past_comments starts_line text no_comment ∙ past_directive starts_line text no_directive ∙ past_wide starts_line text not_wide

found_token : (before : List ℕ) (kind : TokenKind) (bytes after : List ℕ) → IsTokenAt before kind bytes after → step_at (is_first_on_line before) (bytes ++ after) ≡ Ok (step_of (Spelled kind bytes))
found_token before kind [] after t = absurd (false≢true t.begins.is_one)
found_token before kind (b ∷ bytes) after t =
    step_at-lexeme (is_first_on_line before) (b ∷ bytes ++ after) (lexeme_no_blank b bytes t.begins.is_one) t.no_comment t.no_directive t.not_wide
    ∙ lexeme_at-begins b (bytes ++ after) (b ∷ bytes) after (lexeme_no_blank b bytes t.begins.is_one) t.begins
    ∙ ap (token_of (length (b ∷ bytes))) t.kind_is

found_comment : (before body after : List ℕ) → has_comment_end body ≡ false → step_at (is_first_on_line before) (piece_bytes (BlockComment body) ++ after) ≡ Ok (step_of (BlockComment body))
found_comment before body after no_end =
    ap (λ l. comment_step (comment_end 2 l)) (append_assoc body (codes "*/") after)
    ∙ ap comment_step (comment_end-at 2 body after no_end)
    ∙ ap gap_of (size_is body)
  where
    size_is : (l : List ℕ) → 2 + length l + 2 ≡ length (piece_bytes (BlockComment l))
    size_is l = simp length-append (omega arith)

found_line_comment : (before body after : List ℕ) → IsRestOfLine body after → step_at (is_first_on_line before) (piece_bytes (LineComment body) ++ after) ≡ Ok (step_of (LineComment body))
found_line_comment before body after line =
    ap (λ l. gap_of (length l)) (line_of-cons 47 (47 ∷ body ++ after) refl ∙ ap (λ l. 47 ∷ l) (line_of-cons 47 (body ++ after) refl ∙ ap (λ l. 47 ∷ l) line))

found_marker : (before line after : List ℕ) → is_first_on_line before ≡ true → IsRestOfLine line after → is_line_marker line ≡ true → step_at (is_first_on_line before) (line ++ after) ≡ Ok (step_of (LineMarker line))
found_marker before line after first rest marker =
    let hash = begins_gives 35 line (and_parts (begins_with (λ b. b == 35) line) _ marker).0 in
    let text_is : line ++ after ≡ 35 ∷ (hash.0 ++ after) = ap (λ l. l ++ after) hash.1 in
    past_blank (is_first_on_line before) (line ++ after) (ap (begins_with is_blank) text_is)
    ∙ past_comments (is_first_on_line before) (line ++ after) (ap begins_comment text_is)
    ∙ cond-true (is_first_on_line before && begins_with (λ b. b == 35) (line ++ after)) (directive_step (line_of (line ++ after))) _ (and_from (is_first_on_line before) _ first (ap (begins_with (λ b. b == 35)) text_is))
    ∙ ap directive_step rest
    ∙ cond-true (is_line_marker line) (gap_of (length line)) (Err Unsupported) marker

pub found_piece : (before : List ℕ) (piece : Piece) (after : List ℕ) → Stands before piece after → step_at (is_first_on_line before) (piece_bytes piece ++ after) ≡ Ok (step_of piece)
found_piece before (Blank b) after blank = cond-true (is_blank b) (gap_of 1) (at_comment (is_first_on_line before) (b ∷ after)) blank
found_piece before (BlockComment body) after no_end = found_comment before body after no_end
found_piece before (LineComment body) after line = found_line_comment before body after line
found_piece before (LineMarker line) after s = found_marker before line after s.0 s.1 s.2
found_piece before (Spelled kind bytes) after t = found_token before kind bytes after t

-- A rule that refuses what stands there is found there.

bad_not : (b byte : ℕ) → is_bad_byte byte ≡ false → is_bad_byte b ≡ true → (byte == b) ≡ false
bad_not b byte good bad = false_from_ne_true (byte == b) (λ e. false≢true (sym good ∙ ap is_bad_byte (eqb-true byte b e) ∙ bad))

quote_not : (b byte : ℕ) → is_quote byte ≡ false → is_quote b ≡ true → (byte == b) ≡ false
quote_not b byte other quote = false_from_ne_true (byte == b) (λ e. false≢true (sym other ∙ ap is_quote (eqb-true byte b e) ∙ quote))

-- a text begins with none of `/`, `#` and `L`
record Plain (b : ℕ) : Type 0 where
  no_blank : is_blank b ≡ false
  no_slash : (47 == b) ≡ false
  no_hash : (b == 35) ≡ false
  no_wide : (76 == b) ≡ false

step_at-plain : (starts_line : Bool) (b : ℕ) (rest : List ℕ) → Plain b → step_at starts_line (b ∷ rest) ≡ lexeme_at (b ∷ rest)
step_at-plain starts_line b rest plain =
    step_at-lexeme starts_line (b ∷ rest) plain.no_blank
    (or_from (starts_with nat_eq (b ∷ rest) (codes "/*")) (starts_with nat_eq (b ∷ rest) (codes "//")) (and_left (47 == b) _ plain.no_slash) (and_left (47 == b) _ plain.no_slash))
    (and_right starts_line (b == 35) plain.no_hash)
    (or_from (starts_with nat_eq (b ∷ rest) (codes "L'")) (starts_with nat_eq (b ∷ rest) (codes "L\"")) (and_left (76 == b) _ plain.no_wide) (and_left (76 == b) _ plain.no_wide))

found_bad_byte : (starts_line : Bool) (text : List ℕ) → begins_with is_bad_byte text ≡ true → step_at starts_line text ≡ Err BadByte
found_bad_byte starts_line [] bad = absurd (false≢true bad)
found_bad_byte starts_line (b ∷ rest) bad = step_at-plain starts_line b rest plain ∙ decided (start b rest plain.no_blank)
  where
    plain : Plain b
    plain = record { no_blank = bad_no_blank b bad; no_slash = bad_not b 47 refl bad; no_hash = bad_no_hash b bad; no_wide = bad_not b 76 refl bad }
      where
        bad_no_blank : (k : ℕ) → is_bad_byte k ≡ true → is_blank k ≡ false
        bad_no_blank k h = grind (arith, nat_tests)

        bad_no_hash : (k : ℕ) → is_bad_byte k ≡ true → (k == 35) ≡ false
        bad_no_hash k h = grind (arith, nat_tests)

    no_lexeme_at : (one after : List ℕ) → Begins (b ∷ rest) one after → ⊥
    no_lexeme_at [] after begins = false≢true begins.is_one
    no_lexeme_at (x ∷ one) after begins =
        false≢true (sym (lexeme_not_bad x one begins.is_one) ∙ sym (ap (begins_with is_bad_byte) begins.whole) ∙ bad)

    decided : Start (b ∷ rest) (lexeme_at (b ∷ rest)) → lexeme_at (b ∷ rest) ≡ Err BadByte
    decided (lexeme f) = absurd (no_lexeme_at f.lexeme f.after f.begins)
    decided (open_literal_at o e) = absurd (false≢true (sym (quote_bad b o.quote) ∙ bad))
    decided (bad_byte again e none) = e

found_open_comment : (starts_line : Bool) (text : List ℕ) → starts_with nat_eq text (codes "/*") ≡ true → has_comment_end (drop 2 text) ≡ false → step_at starts_line text ≡ Err OpenComment
found_open_comment starts_line text begins no_end =
    ap (step_at starts_line) (starts_gives text (codes "/*") begins) ∙ ap comment_step (comment_end-none 2 (drop 2 text) no_end)

found_open_literal : (starts_line : Bool) (text : List ℕ) → IsOpenLiteral text → step_at starts_line text ≡ Err OpenText
found_open_literal starts_line [] o = absurd (false≢true o.quote)
found_open_literal starts_line (b ∷ rest) o = step_at-plain starts_line b rest plain ∙ decided (start b rest (quote_blank b o.quote))
  where
    plain : Plain b
    plain = record { no_blank = quote_blank b o.quote; no_slash = quote_not b 47 refl o.quote; no_hash = quote_no_hash b o.quote; no_wide = quote_not b 76 refl o.quote }
      where
        quote_no_hash : (k : ℕ) → is_quote k ≡ true → (k == 35) ≡ false
        quote_no_hash k h = grind (arith, nat_tests)

    decided : Start (b ∷ rest) (lexeme_at (b ∷ rest)) → lexeme_at (b ∷ rest) ≡ Err OpenText
    decided (lexeme f) = absurd (none_at_open (b ∷ rest) o f.lexeme f.after f.begins)
    decided (open_literal_at again e) = e
    decided (bad_byte bad e none) = absurd (false≢true (sym (quote_bad b o.quote) ∙ bad))

found_wide : (starts_line : Bool) (text : List ℕ) → begins_wide_literal text ≡ true → step_at starts_line text ≡ Err Unsupported
found_wide starts_line text wide =
    ⊎_elim (at_quote 39 refl) (at_quote 34 refl) (or_cases (starts_with nat_eq text (codes "L'")) (starts_with nat_eq text (codes "L\"")) wide)
  where
    at_quote : (quote : ℕ) → is_quote quote ≡ true → starts_with nat_eq text (76 ∷ quote ∷ []) ≡ true → step_at starts_line text ≡ Err Unsupported
    at_quote quote is_q begins =
        let text_is = starts_gives text (76 ∷ quote ∷ []) begins in
        past_blank starts_line text (ap (begins_with is_blank) text_is)
        ∙ past_comments starts_line text (ap begins_comment text_is)
        ∙ past_directive starts_line text (and_right starts_line _ (ap (begins_with (λ b. b == 35)) text_is))
        ∙ cond-true (begins_wide_literal text) (Err Unsupported) (lexeme_at text) wide

found_directive : (before text : List ℕ) → IsDirective before text → step_at (is_first_on_line before) text ≡ Err Unsupported
found_directive before text d =
    let hash = begins_gives 35 text d.1 in
    past_blank (is_first_on_line before) text (ap (begins_with is_blank) hash.1)
    ∙ past_comments (is_first_on_line before) text (ap begins_comment hash.1)
    ∙ cond-true (is_first_on_line before && begins_with (λ b. b == 35) text) (directive_step (line_of text)) _ (and_from (is_first_on_line before) _ d.0 d.1)
    ∙ cond-false (is_line_marker (line_of text)) (gap_of (length (line_of text))) (Err Unsupported) d.2

-- a lexeme that begins with a byte of punctuators, other than a point, is a punctuator, and none of these is refused
other_allowed : (b : ℕ) (rest : List ℕ) (rule : Rule) → is_other b ≡ true → (b == 46) ≡ false → (46 == b) ≡ false → is_lexeme (b ∷ rest) ≡ true → lexeme_kind (b ∷ rest) ≡ Err rule → ⊥
other_allowed b rest rule other no_point no_point' is_one kind_is =
    let o = other_is b other in
    let no_word = not_word b rest o.letter in
    let no_number = not_number b rest (or_from (is_ascii_digit b) ((b == 46) && begins_with is_ascii_digit rest) o.digit (and_left (b == 46) (begins_with is_ascii_digit rest) no_point)) in
    let no_literal = not_literal b rest o.quote in
    let kind_so : punctuator_kind (b ∷ rest) ≡ Err rule =
    sym (cond-false (is_word (b ∷ rest)) (word_kind (b ∷ rest)) _ no_word ∙ cond-false (is_number (b ∷ rest)) (number_kind (b ∷ rest)) _ no_number ∙ cond-false (is_literal (b ∷ rest)) (literal_kind (b ∷ rest)) _ no_literal) ∙ kind_is in
    ⊎_elim
    (λ words. ⊎_elim (λ w. false≢true (sym no_word ∙ w)) (λ n. false≢true (sym no_number ∙ n)) (or_cases (is_word (b ∷ rest)) (is_number (b ∷ rest)) words))
    (λ marks. ⊎_elim (λ l. false≢true (sym no_literal ∙ l))
    (λ p. ⊎_elim
    (λ dots. false≢true (sym (and_left (46 == b) _ no_point') ∙ dots))
    (λ some. known (punctuator_of (b ∷ rest)) some kind_so)
    (or_cases (bytes_eq ellipsis (b ∷ rest)) (is_some (punctuator_of (b ∷ rest))) p))
    (or_cases (is_literal (b ∷ rest)) (is_punctuator (b ∷ rest)) marks))
    (or_cases (is_word (b ∷ rest) || is_number (b ∷ rest)) (is_literal (b ∷ rest) || is_punctuator (b ∷ rest)) is_one)
  where
    known : (o : Option Punctuator) → is_some o ≡ true → ok_or (option_map PunctuatorKind o) Unsupported ≡ Err rule → ⊥
    known None some e = false≢true some
    known (Some m) some e = cc

-- a lexeme that begins with `L` is a word
wide_word : (rest : List ℕ) → is_lexeme (76 ∷ rest) ≡ true → lexeme_kind (76 ∷ rest) ≡ Err BadNumber → ⊥
wide_word rest is_one kind_is =
    ⊎_elim
    (λ words. ⊎_elim
    (λ w. differ (word_rule (76 ∷ rest) BadNumber (sym (cond-true (is_word (76 ∷ rest)) (word_kind (76 ∷ rest)) _ w) ∙ kind_is)))
    (λ n. false≢true n)
    (or_cases (is_word (76 ∷ rest)) false words))
    (λ marks. false≢true marks)
    (or_cases (is_word (76 ∷ rest) || false) false is_one)
  where
    differ : BadNumber ≡ Unsupported → ⊥
    differ e = cc

found_refused : (before text : List ℕ) (rule : Rule) → IsRefusedLexeme text rule → step_at (is_first_on_line before) text ≡ Err rule
found_refused before text rule r = at_front r.lexeme r.after r.begins r.kind_is
  where
    at_front : (one after : List ℕ) → Begins text one after → lexeme_kind one ≡ Err rule → step_at (is_first_on_line before) text ≡ Err rule
    at_front [] after begins kind_is = absurd (false≢true begins.is_one)
    at_front (x ∷ one) after begins kind_is =
        let whole : text ≡ x ∷ (one ++ after) = begins.whole in
        let no_blank = lexeme_no_blank x one begins.is_one in
        let no_slash : (47 == x) ≡ false = false_from_ne_true (47 == x) (λ e. other_at 47 refl refl refl (eqb-true 47 x e)) in
        let no_hash : (x == 35) ≡ false = false_from_ne_true (x == 35) (λ e. other_at 35 refl refl refl (sym (eqb-true x 35 e))) in
        let no_comment : begins_comment text ≡ false = ap begins_comment whole ∙ or_from (starts_with nat_eq (x ∷ (one ++ after)) (codes "/*")) (starts_with nat_eq (x ∷ (one ++ after)) (codes "//")) (and_left (47 == x) _ no_slash) (and_left (47 == x) _ no_slash) in
        let no_directive = and_right (is_first_on_line before) _ (ap (begins_with (λ b. b == 35)) whole ∙ no_hash) in
        (elim (begins_wide_literal text) as (λ t. begins_wide_literal text ≡ t → step_at (is_first_on_line before) text ≡ Err rule) [
          | true ↦ λ wide. ⊎_elim (λ e. absurd (no_wide wide (subst (λ k. lexeme_kind (x ∷ one) ≡ Err k) e kind_is))) (λ e. found_wide (is_first_on_line before) text wide ∙ ap Err (sym e)) (lexeme_rule (x ∷ one) rule kind_is)
          | false ↦ λ not_wide.
              step_at-lexeme (is_first_on_line before) text (ap (begins_with is_blank) whole ∙ no_blank) no_comment no_directive not_wide
              ∙ ap lexeme_at whole
              ∙ lexeme_at-begins x (one ++ after) (x ∷ one) after no_blank (subst (λ l. Begins l (x ∷ one) after) whole begins)
              ∙ ap (token_of (length (x ∷ one))) kind_is
        ]) refl
      where
        other_at : (byte : ℕ) → is_other byte ≡ true → (byte == 46) ≡ false → (46 == byte) ≡ false → byte ≡ x → ⊥
        other_at byte other no_point no_point' same = other_allowed byte one rule other no_point no_point' (ap (λ b. is_lexeme (b ∷ one)) same ∙ begins.is_one) (ap (λ b. lexeme_kind (b ∷ one)) same ∙ kind_is)

        no_wide : begins_wide_literal text ≡ true → lexeme_kind (x ∷ one) ≡ Err BadNumber → ⊥
        no_wide wide bad_number =
            ⊎_elim (at_quote 39) (at_quote 34) (or_cases (starts_with nat_eq text (codes "L'")) (starts_with nat_eq text (codes "L\"")) wide)
          where
            at_quote : (quote : ℕ) → starts_with nat_eq text (76 ∷ quote ∷ []) ≡ true → ⊥
            at_quote quote starts =
                let same : x ≡ 76 = head_same x 76 (one ++ after) (quote ∷ drop 2 text) (sym begins.whole ∙ starts_gives text (76 ∷ quote ∷ []) starts) in
                wide_word one (ap (λ b. is_lexeme (b ∷ one)) (sym same) ∙ begins.is_one) (ap (λ b. lexeme_kind (b ∷ one)) (sym same) ∙ bad_number)
              where
                head_same : (a b : ℕ) (us vs : List ℕ) → a ∷ us ≡ b ∷ vs → a ≡ b
                head_same a b us vs e = cc

pub found_fault : (before text : List ℕ) (rule : Rule) → IsFault before text rule → step_at (is_first_on_line before) text ≡ Err rule
found_fault before text BadByte f = found_bad_byte (is_first_on_line before) text f
found_fault before text OpenComment f = found_open_comment (is_first_on_line before) text f.0 f.1
found_fault before text OpenText f = found_open_literal (is_first_on_line before) text f
found_fault before text BadNumber f = found_refused before text BadNumber f
found_fault before text Unsupported f = ⊎_elim (found_refused before text Unsupported) (λ g. ⊎_elim (found_wide (is_first_on_line before) text) (found_directive before text) g) f
found_fault before text Syntax f = absurd f
found_fault before text UnknownName f = absurd f
found_fault before text Redeclared f = absurd f
found_fault before text Incomplete f = absurd f
found_fault before text Mismatch f = absurd f
found_fault before text NotPlace f = absurd f
found_fault before text NotConstant f = absurd f
found_fault before text BadCall f = absurd f
found_fault before text NoMain f = absurd f

-- nothing begins the empty text
pub step_at-empty : (starts_line : Bool) → step_at starts_line [] ≡ Err BadByte
step_at-empty true = refl
step_at-empty false = refl
