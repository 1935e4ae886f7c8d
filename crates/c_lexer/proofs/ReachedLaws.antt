-- How far a reading has come in a text, and what its next step does.
use Rattle.std.proofs.Common.{◌≡◌, ℕ, ◌+◌, ◌-◌, ◌≤◌, Bool, true, false, cond, List, [], ◌∷◌, ◌++◌, length, take, drop, Ok, Err, refl, sym, ap, ◌∙◌, subst, append_assoc, append-nil, arith, length-append}
use Rattle.std.specs.Prelude.{◌&&◌, ◌==◌, count_by}
use Rattle.std.specs.List.{fold, list_all}
use Rattle.std.proofs.lemmas.Bool.{false≢true, ne_eqb}
use Rattle.std.proofs.lemmas.List.Sums.{fold-append}
use Rattle.std.proofs.lemmas.List.Folds.{list_all-append}
use Rattle.std.proofs.Math.Bool.{and-true}
use Rattle.cc_base.specs.declared.fault.Rule.{Rule}
use Rattle.c_lexer.specs.Bytes.{is_blank, line_feed}
use Rattle.c_lexer.specs.Cut.{IsCutBefore, IsCut, IsRefusal, is_first_on_line, last_line, place_after}
use Rattle.c_lexer.specs.Reading.{step_at, next_position, token_list}
use Rattle.c_lexer.specs.Tokens.{Token}
use Rattle.c_lexer.specs.declared.position.Position.{Position}
use Rattle.c_lexer.specs.declared.step.Step.{Step}
use Rattle.c_lexer.proofs.CutLaws.{CutStep, cut_step, cut_refused, cut_none, cut_all, first_token}

-- Positions.

abbrev pub position_of : List ℕ → Position
position_of front = record { place = place_after front; starts_line = is_first_on_line front }

abbrev position : ℕ → ℕ → Bool → Position
position line col starts_line = record { place = record { line = line; col = col }; starts_line = starts_line }

count_by-snoc : (p : ℕ → Bool) (front : List ℕ) (b : ℕ) → count_by p (front ++ b ∷ []) ≡ count_by p front + cond (p b) 1 0
count_by-snoc p front b = fold-append (λ a x. a + cond (p x) 1 0) 0 front (b ∷ [])

last_line-snoc : (front : List ℕ) (b : ℕ) → last_line (front ++ b ∷ []) ≡ cond (b == line_feed) [] (last_line front ++ b ∷ [])
last_line-snoc front b = fold-append (λ line c. cond (c == line_feed) [] (line ++ c ∷ [])) [] front (b ∷ [])

next_so : (t : Bool) (count : ℕ) (line : List ℕ) (b : ℕ)
    → cond t (position (1 + count + 1) 1 true) (position (1 + count) (1 + length line + 1) (list_all is_blank line && is_blank b))
    ≡ position (1 + (count + cond t 1 0)) (1 + length (cond t [] (line ++ b ∷ []))) (list_all is_blank (cond t [] (line ++ b ∷ [])))
next_so true count line b = ap (λ n. position n 1 true) (lines count)
  where
    lines : (n : ℕ) → 1 + n + 1 ≡ 1 + (n + 1)
    lines n = omega arith
next_so false count line b =
    ap (λ n. position n (1 + length line + 1) (list_all is_blank line && is_blank b)) (lines count)
    ∙ ap (λ n. position (1 + (count + 0)) n (list_all is_blank line && is_blank b)) (columns line)
    ∙ ap (position (1 + (count + 0)) (1 + length (line ++ b ∷ []))) (sym (list_all-append is_blank line (b ∷ []) ∙ ap (λ t. list_all is_blank line && t) (and-true (is_blank b))))
  where
    lines : (n : ℕ) → 1 + n ≡ 1 + (n + 0)
    lines n = omega arith

    columns : (l : List ℕ) → 1 + length l + 1 ≡ 1 + length (l ++ b ∷ [])
    columns l = simp length-append (omega arith)

next_position-is : (front : List ℕ) (b : ℕ) → next_position (position_of front) b ≡ position_of (front ++ b ∷ [])
next_position-is front b =
    next_so (b == line_feed) (count_by (λ c. c == line_feed) front) (last_line front) b
    ∙ ap (λ n. position (1 + n) (1 + length (cond (b == line_feed) [] (last_line front ++ b ∷ []))) (list_all is_blank (cond (b == line_feed) [] (last_line front ++ b ∷ [])))) (sym (count_by-snoc (λ c. c == line_feed) front b))
    ∙ ap (λ l. position (1 + count_by (λ c. c == line_feed) (front ++ b ∷ [])) (1 + length l) (list_all is_blank l)) (sym (last_line-snoc front b))

fold-position : (front bytes : List ℕ) → fold next_position (position_of front) bytes ≡ position_of (front ++ bytes)
fold-position front [] = ap position_of (sym (append-nil front))
fold-position front (b ∷ bytes) =
    ap (λ p. fold next_position p bytes) (next_position-is front b) ∙ fold-position (front ++ b ∷ []) bytes
    ∙ ap position_of (append_assoc front (b ∷ []) bytes)

-- a text that is read to its end
pub end_place : (text : List ℕ) → (fold next_position (position 1 1 true) text).place ≡ place_after text
end_place text = ap (λ p. p.place) (fold-position [] text)

-- no more lines and no more columns than bytes
count_by-le : (p : ℕ → Bool) (front : List ℕ) (a : ℕ) → fold (λ n x. n + cond (p x) 1 0) a front ≤ a + length front
count_by-le p [] a = omega arith
count_by-le p (b ∷ front) a =
    let rest = count_by-le p front (a + cond (p b) 1 0) in
    let one = at_most_one (p b) in
    omega (arith, rest, one)
  where
    at_most_one : (t : Bool) → cond t 1 0 ≤ 1
    at_most_one true = omega arith
    at_most_one false = omega arith

last_line-le : (front line : List ℕ) → length (fold (λ l c. cond (c == line_feed) [] (l ++ c ∷ [])) line front) ≤ length line + length front
last_line-le [] line = omega arith
last_line-le (b ∷ front) line =
    let rest = last_line-le front (cond (b == line_feed) [] (line ++ b ∷ [])) in
    let one = at_most_one (b == line_feed) in
    omega (arith, rest, one)
  where
    at_most_one : (t : Bool) → length (cond t [] (line ++ b ∷ [])) ≤ length line + 1
    at_most_one true = omega arith
    at_most_one false = simp length-append (omega arith)

-- How far a reading has come.

pub record Reached (text : List ℕ) (tokens : List Token) (rest : List ℕ) (at : Position) : Type 0 where
  pub front : List ℕ
  pub cut : IsCutBefore text tokens front rest
  pub position_is : at ≡ position_of front

pub reached_none : (text : List ℕ) → Reached text [] text (position 1 1 true)
reached_none text = record { front = []; cut = cut_none text; position_is = refl }

pub reached_all : (text : List ℕ) (tokens : List Token) (rest : List ℕ) (at : Position) → Reached text tokens rest at → (length rest == 0) ≡ true → IsCut text tokens
reached_all text tokens [] at r e = cut_all text tokens r.front r.cut
reached_all text tokens (b ∷ rest) at r e = absurd (false≢true (sym (ne_eqb (length (b ∷ rest)) 0 (λ h. omega arith)) ∙ e))

module _ {text : List ℕ} {tokens : List Token} {rest : List ℕ} {at : Position} (r : Reached text tokens rest at) where
  lengths : length text ≡ length r.front + length rest
  lengths = ap length r.cut.whole ∙ length-append r.front rest

  pub line_room : at.place.line ≤ 1 + (length text - length rest)
  line_room =
      let bound = count_by-le (λ c. c == line_feed) r.front 0 in
      let line_is = ap (λ p. p.place.line) r.position_is in
      let total = lengths in
      omega (arith, bound, line_is, total)

  pub column_room : at.place.col ≤ 1 + (length text - length rest)
  column_room =
      let bound = last_line-le r.front [] in
      let col_is = ap (λ p. p.place.col) r.position_is in
      let total = lengths in
      omega (arith, bound, col_is, total)

  pub rest_fits : length rest ≤ length text
  rest_fits = (let total = lengths in omega (arith, total))

  start_is : length text - length rest ≡ length r.front
  start_is = (let total = lengths in omega (arith, total))

-- a step goes on where the text is not at its end
pub cut_at : (text : List ℕ) (tokens : List Token) (rest : List ℕ) (at : Position) (step : Step) → (r : Reached text tokens rest at) → (length rest == 0) ≡ false → step_at at.starts_line rest ≡ Ok step → CutStep text tokens r.front rest step
cut_at text tokens [] at step r e found = absurd (false≢true (sym e))
cut_at text tokens (b ∷ rest) at step r e found =
    cut_step text tokens r.front b rest step r.cut (ap (λ p. step_at p.starts_line (b ∷ rest)) (sym r.position_is) ∙ found)

pub refused_at : (text : List ℕ) (tokens : List Token) (rest : List ℕ) (at : Position) (rule : Rule) → Reached text tokens rest at → (length rest == 0) ≡ false → step_at at.starts_line rest ≡ Err rule → IsRefusal text at.place rule
refused_at text tokens [] at rule r e found = absurd (false≢true (sym e))
refused_at text tokens (b ∷ rest) at rule r e found =
    subst (λ p. IsRefusal text p.place rule) (sym r.position_is)
    (cut_refused text tokens r.front b rest rule r.cut (ap (λ p. step_at p.starts_line (b ∷ rest)) (sym r.position_is) ∙ found))

-- what a step leaves
pub reached_step : (text : List ℕ) (tokens : List Token) (rest : List ℕ) (at : Position) (step : Step) → (r : Reached text tokens rest at) → CutStep text tokens r.front rest step
    → (found : List Token) (bytes after : List ℕ) (start : ℕ) (next : Position)
    → bytes ≡ take step.size rest → after ≡ drop step.size rest → start ≡ length text - length rest
    → found ≡ tokens ++ token_list step.kind bytes start at.place → next ≡ fold next_position at bytes → Reached text found after next
reached_step text tokens rest at step r s found bytes after start next bytes_are after_is start_so found_is next_is = record {
  front = r.front ++ bytes;
  cut = subst (λ l. IsCutBefore text l (r.front ++ bytes) after) (sym tokens_so) (subst (λ l. IsCutBefore text (tokens ++ first_token r.front step.kind bytes) (r.front ++ bytes) l) (sym after_is) (subst (λ l. IsCutBefore text (tokens ++ first_token r.front step.kind l) (r.front ++ l) (drop step.size rest)) (sym bytes_are) s.cut));
  position_is = next_is ∙ ap (λ p. fold next_position p bytes) r.position_is ∙ fold-position r.front bytes;
}
  where
    tokens_so : found ≡ tokens ++ first_token r.front step.kind bytes
    tokens_so =
        found_is
        ∙ ap (λ n. tokens ++ token_list step.kind bytes n at.place) (start_so ∙ start_is r)
        ∙ ap (λ p. tokens ++ token_list step.kind bytes (length r.front) p.place) r.position_is
