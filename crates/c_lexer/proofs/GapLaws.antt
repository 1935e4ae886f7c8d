-- Comments and lines.
use Rattle.std.proofs.Common.{◌≡◌, ℕ, ◌+◌, true, false, cond, List, [], ◌∷◌, ◌++◌, length, take, drop, Some, None, refl, sym, ap, ◌∙◌, arith, take-append-drop}
use Rattle.std.specs.Prelude.{◌&&◌, ◌||◌, not, ◌==◌}
use Rattle.std.specs.List.{position_or_len}
use Rattle.std.proofs.lemmas.Bool.{and_parts, or_parts, or_from, and_from, and_right, false≢true, eqb-true, false_from_ne_true}
use Rattle.c_lexer.specs.Bytes.{begins_with, line_feed}
use Rattle.c_lexer.specs.Cut.{IsRestOfLine}
use Rattle.c_lexer.specs.Gaps.{has_comment_end, line_of}
use Rattle.c_lexer.specs.Reading.{comment_end}
use Rattle.c_lexer.proofs.LexemeLaws.{one_more}
use Rattle.c_lexer.proofs.FirstLexeme.{begins_front}

-- the byte that a text begins with, and the rest
pub begins_gives : (byte : ℕ) (text : List ℕ) → begins_with (λ c. c == byte) text ≡ true → (rest : List ℕ) × (text ≡ byte ∷ rest)
begins_gives byte [] e = absurd (false≢true e)
begins_gives byte (b ∷ rest) e = (rest, ap (λ c. c ∷ rest) (eqb-true b byte e))

-- a comment ends in the text, and the rest goes on after it
pub record CommentEnd (passed : ℕ) (text : List ℕ) (size : ℕ) : Type 0 where
  pub body : List ℕ
  pub after : List ℕ
  pub whole : text ≡ body ++ (42 ∷ 47 ∷ after)
  pub no_end : has_comment_end body ≡ false
  pub counted : size ≡ passed + length body + 2

pub comment_found : (passed : ℕ) (text : List ℕ) (size : ℕ) → comment_end passed text ≡ Some size → CommentEnd passed text size
comment_found passed [] size e = cc
comment_found passed (b ∷ rest) size e =
    (elim ((b == 42) && begins_with (λ c. c == 47) rest) as (λ t. ((b == 42) && begins_with (λ c. c == 47) rest) ≡ t → cond t (Some (passed + 2)) (comment_end (passed + 1) rest) ≡ Some size → CommentEnd passed (b ∷ rest) size) [
      | true ↦ λ is_end f.
          let parts = and_parts (b == 42) (begins_with (λ c. c == 47) rest) is_end in
          let tail = begins_gives 47 rest parts.1 in
          let size_is : passed + 2 ≡ size = cc in
          record {
            body = [];
            after = tail.0;
            whole = ap (λ c. c ∷ rest) (eqb-true b 42 parts.0) ∙ ap (λ l. 42 ∷ l) tail.1;
            no_end = refl;
            counted = omega arith;
          }
      | false ↦ λ no_end f.
          let more = comment_found (passed + 1) rest size f in
          record {
            body = b ∷ more.body;
            after = more.after;
            whole = ap (λ l. b ∷ l) more.whole;
            no_end = or_from ((b == 42) && begins_with (λ c. c == 47) more.body) (has_comment_end more.body) (not_here more no_end) more.no_end;
            counted = omega (arith, more.counted);
          }
    ]) refl e
  where
    not_here : (more : CommentEnd (passed + 1) rest size) → ((b == 42) && begins_with (λ c. c == 47) rest) ≡ false → ((b == 42) && begins_with (λ c. c == 47) more.body) ≡ false
    not_here more no_end = false_from_ne_true ((b == 42) && begins_with (λ c. c == 47) more.body) (λ here.
        let parts = and_parts (b == 42) (begins_with (λ c. c == 47) more.body) here in
        let later : begins_with (λ c. c == 47) rest ≡ true = ap (begins_with (λ c. c == 47)) more.whole ∙ begins_front (λ c. c == 47) more.body (42 ∷ 47 ∷ more.after) parts.1 in
        false≢true (sym no_end ∙ and_from (b == 42) (begins_with (λ c. c == 47) rest) parts.0 later))

pub no_comment_end : (passed : ℕ) (text : List ℕ) → comment_end passed text ≡ None → has_comment_end text ≡ false
no_comment_end passed [] e = refl
no_comment_end passed (b ∷ rest) e =
    (elim ((b == 42) && begins_with (λ c. c == 47) rest) as (λ t. cond t (Some (passed + 2)) (comment_end (passed + 1) rest) ≡ None → (t || has_comment_end rest) ≡ false) [
      | true ↦ λ f. cc
      | false ↦ λ f. no_comment_end (passed + 1) rest f
    ]) e

pub comment_end-none : (passed : ℕ) (text : List ℕ) → has_comment_end text ≡ false → comment_end passed text ≡ None
comment_end-none passed [] e = refl
comment_end-none passed (b ∷ rest) e =
    let parts = or_parts ((b == 42) && begins_with (λ c. c == 47) rest) (has_comment_end rest) e in
    ap (λ t. cond t (Some (passed + 2)) (comment_end (passed + 1) rest)) parts.0 ∙ comment_end-none (passed + 1) rest parts.1

pub comment_end-at : (passed : ℕ) (body after : List ℕ) → has_comment_end body ≡ false → comment_end passed (body ++ (42 ∷ 47 ∷ after)) ≡ Some (passed + length body + 2)
comment_end-at passed [] after e = ap Some (omega arith)
comment_end-at passed (b ∷ body) after e =
    let parts = or_parts ((b == 42) && begins_with (λ c. c == 47) body) (has_comment_end body) e in
    ap (λ t. cond t (Some (passed + 2)) (comment_end (passed + 1) (body ++ (42 ∷ 47 ∷ after)))) (still body parts.0)
    ∙ comment_end-at (passed + 1) body after parts.1 ∙ ap Some (omega arith)
  where
    still : (l : List ℕ) → ((b == 42) && begins_with (λ c. c == 47) l) ≡ false → ((b == 42) && begins_with (λ c. c == 47) (l ++ (42 ∷ 47 ∷ after))) ≡ false
    still [] f = and_right (b == 42) false refl
    still (x ∷ l) f = f

-- Lines.

abbrev pub line_size : List ℕ → ℕ
line_size text = position_or_len (λ b. b == line_feed) text

pub line_of-cons : (b : ℕ) (rest : List ℕ) → (b == line_feed) ≡ false → line_of (b ∷ rest) ≡ b ∷ line_of rest
line_of-cons b rest no_end =
    ap (λ t. take (cond (not t) (1 + line_size rest) 0) (b ∷ rest)) no_end
    ∙ ap (λ n. take n (b ∷ rest)) (one_more (line_size rest))

-- a text is its line and what follows it
pub line_of-whole : (text : List ℕ) → text ≡ line_of text ++ drop (line_size text) text
line_of-whole text = sym (take-append-drop (line_size text) text)

pub IsRestOfLine-line_of : (text : List ℕ) → IsRestOfLine (line_of text) (drop (line_size text) text)
IsRestOfLine-line_of text = ap line_of (sym (line_of-whole text))
