-- The lines of instructions are those of one tree.
use Rattle.std.proofs.Common.{ℕ, true, false, List, [], ◌∷◌, ◌++◌, ◌≡◌, ◌∙◌, ap, append_assoc, refl, sym}
use Rattle.cured_code.specs.declared.instr.Instr.{Instr, Row_of-Instr, end_of-Instr, more_of-Instr}
use Rattle.cured_code.specs.declared.instr.Instr.TheVariants as instr
use Rattle.cured_spelling.specs.Lines.{Line}
use Rattle.cured_spelling.specs.Spelling.{lines_of, lines_of_row, line_of, else_line, end_line, code_lines}
use Rattle.cured_spelling.specs.Plain.{Tree, If, Block, Loop, then, row_tree, tree}
use Rattle.cured_spelling.proofs.Cuts.{cons_head, cons_tail}
use Rattle.cured_spelling.proofs.Heads.{Head, One, OpensIf, head, head_of, head-read, held_lines, first_line, closes, else-closes, end-closes, instr-opens, one_told, same_head, same_rest}

true-not_false : true ≡ false → ⊥
true-not_false e = cc

-- no instruction's lines begin with one that closes a part
pub closing-apart : (c : Line) (i : Instr) (r s : List Line) → closes (head c) ≡ true → c ∷ r ≡ lines_of i ++ s → ⊥
closing-apart c i r s k e =
    let h : c ∷ r ≡ line_of i ∷ (held_lines i ++ s) = e ∙ ap (λ l. l ++ s) (first_line i) in
    true-not_false (sym k ∙ ap (λ l. closes (head l)) (cons_head h) ∙ ap closes (head-read i) ∙ instr-opens i)

-- Two lists of lines that begin with instructions': these have the same tree, and the same lines are left
abbrev IsTold : Instr → Instr → List Line → List Line → Type 0
IsTold i j r s = ((t : Tree) → then i t ≡ then j t) × (r ≡ s)

one-instr : (i j : Instr) (r s : List Line) → One i ≡ head_of i → [] ≡ held_lines i → lines_of i ++ r ≡ lines_of j ++ s → IsTold i j r s
one-instr i j r s h k e =
    let both = one_told i j (h ∙ same_head i j r s e) in
    ((λ t. ap (λ x. then x t) both.0), ap (λ l. l ++ r) k ∙ same_rest i j r s e ∙ ap (λ l. l ++ s) (sym both.1))

-- two lists, each in three parts
regrouped : (a b r c d s : List Line) → (a ++ b) ++ r ≡ (c ++ d) ++ s → a ++ (b ++ r) ≡ c ++ (d ++ s)
regrouped a b r c d s e = sym (append_assoc a b r) ∙ e ∙ append_assoc c d s

if-lines : (x y r : List Line) → (x ++ (else_line ∷ (y ++ (end_line ∷ [])))) ++ r ≡ x ++ (else_line ∷ (y ++ (end_line ∷ r)))
if-lines x y r = append_assoc x (else_line ∷ (y ++ (end_line ∷ []))) r ∙ ap (λ l. x ++ (else_line ∷ l)) (append_assoc y (end_line ∷ []) r)

number_in : Head → ℕ
number_in (OpensIf a) = a
number_in h = 0

if_number : {a b : ℕ} → OpensIf a ≡ OpensIf b → a ≡ b
unfolding number_in
if_number e = ap number_in e

mutual
  unfolding head_of held_lines

  pub instr_told : (i j : Instr) (r s : List Line) → lines_of i ++ r ≡ lines_of j ++ s → IsTold i j r s
  instr_told (instr.If' a u x v y) (instr.If' b u2 x2 v2 y2) r s e =
      let number : a ≡ b = if_number (same_head (instr.If' a u x v y) (instr.If' b u2 x2 v2 y2) r s e) in
      let inner = same_rest (instr.If' a u x v y) (instr.If' b u2 x2 v2 y2) r s e in
      let fst = row_told x x2 else_line else_line (lines_of_row y ++ (end_line ∷ r)) (lines_of_row y2 ++ (end_line ∷ s)) else-closes else-closes
      (sym (if-lines (lines_of_row x) (lines_of_row y) r) ∙ inner ∙ if-lines (lines_of_row x2) (lines_of_row y2) s) in
      let snd = row_told y y2 end_line end_line r s end-closes end-closes (cons_tail fst.1) in (
        (λ t. ap (λ n. If n (row_tree x) (row_tree y) t) number ∙ ap (λ z. If b z (row_tree y) t) fst.0 ∙ ap (λ z. If b (row_tree x2) z t) snd.0),
        cons_tail snd.1,
      )
  instr_told (instr.If' a u x v y) j r s e = absurd (let h = same_head (instr.If' a u x v y) j r s e in cc)
  instr_told (instr.Block' u x) (instr.Block' u2 x2) r s e =
      let inner = same_rest (instr.Block' u x) (instr.Block' u2 x2) r s e in
      let part = row_told x x2 end_line end_line r s end-closes end-closes
      (regrouped (lines_of_row x) (end_line ∷ []) r (lines_of_row x2) (end_line ∷ []) s inner) in
      ((λ t. ap (λ z. Block z t) part.0), cons_tail part.1)
  instr_told (instr.Block' u x) j r s e = absurd (let h = same_head (instr.Block' u x) j r s e in cc)
  instr_told (instr.Loop' u x) (instr.Loop' u2 x2) r s e =
      let inner = same_rest (instr.Loop' u x) (instr.Loop' u2 x2) r s e in
      let part = row_told x x2 end_line end_line r s end-closes end-closes
      (regrouped (lines_of_row x) (end_line ∷ []) r (lines_of_row x2) (end_line ∷ []) s inner) in
      ((λ t. ap (λ z. Loop z t) part.0), cons_tail part.1)
  instr_told (instr.Loop' u x) j r s e = absurd (let h = same_head (instr.Loop' u x) j r s e in cc)
  instr_told i j r s e = one-instr i j r s refl refl e

  -- the instructions of rows that lines which close parts come after
  pub row_told : {m n : _} (x : Row_of-Instr m) (y : Row_of-Instr n) (c d : Line) (r s : List Line) → closes (head c) ≡ true → closes (head d) ≡ true
      → lines_of_row x ++ (c ∷ r) ≡ lines_of_row y ++ (d ∷ s) → (row_tree x ≡ row_tree y) × (c ∷ r ≡ d ∷ s)
  row_told end_of-Instr end_of-Instr c d r s k l e = (refl, e)
  row_told end_of-Instr (more_of-Instr j y) c d r s k l e =
      absurd (closing-apart c j r (lines_of_row y ++ (d ∷ s)) k (e ∙ append_assoc (lines_of j) (lines_of_row y) (d ∷ s)))
  row_told (more_of-Instr i x) end_of-Instr c d r s k l e =
      absurd (closing-apart d i s (lines_of_row x ++ (c ∷ r)) l (sym e ∙ append_assoc (lines_of i) (lines_of_row x) (c ∷ r)))
  row_told (more_of-Instr i x) (more_of-Instr j y) c d r s k l e =
      let here = instr_told i j (lines_of_row x ++ (c ∷ r)) (lines_of_row y ++ (d ∷ s))
      (regrouped (lines_of i) (lines_of_row x) (c ∷ r) (lines_of j) (lines_of_row y) (d ∷ s) e) in
      let after = row_told x y c d r s k l here.1 in
      (here.0 (row_tree x) ∙ ap (then j) after.0, after.1)

-- instructions in order, with a line after them that ends them
pub code_told : (is js : List Instr) (r s : List Line) → code_lines is ++ (end_line ∷ r) ≡ code_lines js ++ (end_line ∷ s)
    → (tree is ≡ tree js) × (r ≡ s)
code_told [] [] r s e = (refl, cons_tail e)
code_told [] (j ∷ js) r s e =
    absurd (closing-apart end_line j r (code_lines js ++ (end_line ∷ s)) end-closes (e ∙ append_assoc (lines_of j) (code_lines js) (end_line ∷ s)))
code_told (i ∷ is) [] r s e =
    absurd (closing-apart end_line i s (code_lines is ++ (end_line ∷ r)) end-closes
    (sym e ∙ append_assoc (lines_of i) (code_lines is) (end_line ∷ r)))
code_told (i ∷ is) (j ∷ js) r s e =
    let here = instr_told i j (code_lines is ++ (end_line ∷ r)) (code_lines js ++ (end_line ∷ s))
    (regrouped (lines_of i) (code_lines is) (end_line ∷ r) (lines_of j) (code_lines js) (end_line ∷ s) e) in
    let after = code_told is js r s here.1 in
    (here.0 (tree is) ∙ ap (then j) after.0, after.1)
