-- The lines of programs are those of one program.
use Rattle.std.proofs.Common.{ℕ, List, [], ◌∷◌, ◌++◌, ◌≡◌, ◌∙◌, map, length, ap, append_assoc, refl, sym, arith}
use Rattle.std.specs.Prelude.{flat_map, codes}
use Rattle.cured_code.specs.declared.parts.Sig.{Sig}
use Rattle.cured_code.specs.declared.parts.AreaLine.{AreaLine}
use Rattle.cured_code.specs.declared.parts.GlobalLine.{GlobalLine}
use Rattle.cured_code.specs.declared.parts.Function.{Function}
use Rattle.cured_code.specs.declared.parts.Parts.{Parts}
use Rattle.cured_spelling.specs.Lines.{Line, line}
use Rattle.cured_spelling.specs.Spelling.{end_line, code_lines, sig_line, node_line, area_line, function_line, local_line, body_lines, counted, program_lines}
use Rattle.cured_spelling.specs.Plain.{PlainFunction, PlainProgram, plain_function, plain}
use Rattle.cured_spelling.proofs.Cuts.{cons_head, cons_tail}
use Rattle.cured_spelling.proofs.Heads.{first_of, after_first, number, bytes_in, tag_in, first_field, second_field, third_field, fourth_field}
use Rattle.cured_spelling.proofs.TreeLaws.{code_told}

count_told : (name : List ℕ) (m n : ℕ) → line name (m ∷ []) ≡ line name (n ∷ []) → m ≡ n
unfolding first_of after_first number first_field
count_told name m n e = ap (λ l. number (first_field l)) e

module _ {A : Type 0} (f : A → Line) where
  -- as many lines of each are the same, and so are those after them
  pub each_told : (xs ys : List A) (r s : List Line) → length xs ≡ length ys → map f xs ++ r ≡ map f ys ++ s → (map f xs ≡ map f ys) × (r ≡ s)
  each_told [] [] r s n e = (refl, e)
  each_told [] (y ∷ ys) r s n e = absurd (omega (arith, n))
  each_told (x ∷ xs) [] r s n e = absurd (omega (arith, n))
  each_told (x ∷ xs) (y ∷ ys) r s n e =
      let after = each_told xs ys r s (omega (arith, n)) (cons_tail e) in
      (ap (λ l. l ∷ map f xs) (cons_head e) ∙ ap (λ l. f y ∷ l) after.0, after.1)

  pub map_told : ((x y : A) → f x ≡ f y → x ≡ y) → (xs ys : List A) → map f xs ≡ map f ys → xs ≡ ys
  map_told h [] [] e = refl
  map_told h [] (y ∷ ys) e = cc
  map_told h (x ∷ xs) [] e = cc
  map_told h (x ∷ xs) (y ∷ ys) e = ap (λ z. z ∷ xs) (h x y (cons_head e)) ∙ ap (λ l. y ∷ l) (map_told h xs ys (cons_tail e))

  -- a count and a line for each
  pub counted_told : (name : List ℕ) (xs ys : List A) (r s : List Line) → counted name f xs ++ r ≡ counted name f ys ++ s
      → (map f xs ≡ map f ys) × (r ≡ s)
  counted_told name xs ys r s e =
      each_told xs ys r s (count_told name (length xs) (length ys) (cons_head e))
      (cons_tail e)

sig_told : (a b : Sig) → sig_line a ≡ sig_line b → a ≡ b
unfolding first_of after_first number tag_in bytes_in first_field second_field third_field
sig_told a b e =
    ap (λ n. record { params = n; results = a.results }) (ap (λ l. number (first_field l)) e)
    ∙ ap (λ n. record { params = b.params; results = n }) (ap (λ l. number (second_field l)) e)

node_told : (a b : ℕ) → node_line a ≡ node_line b → a ≡ b
unfolding first_of after_first number tag_in bytes_in first_field second_field third_field
node_told a b e = ap (λ l. number (first_field l)) e

local_told : (a b : AreaLine) → local_line a ≡ local_line b → a ≡ b
unfolding first_of after_first number tag_in bytes_in first_field second_field third_field
local_told a b e =
    ap (λ t. record { tagged = t; bytes = a.bytes }) (ap (λ l. tag_in (first_field l)) e)
    ∙ ap (λ n. record { tagged = b.tagged; bytes = n }) (ap (λ l. number (second_field l)) e)

area_told : (a b : GlobalLine) → area_line a ≡ area_line b → a ≡ b
unfolding first_of after_first number tag_in bytes_in first_field second_field third_field
area_told a b e =
    ap (λ t. record { area = record { tagged = t; bytes = a.area.bytes }; first = a.first }) (ap (λ l. tag_in (first_field l)) e)
    ∙ ap (λ n. record { area = record { tagged = b.area.tagged; bytes = n }; first = a.first }) (ap (λ l. number (second_field l)) e)
    ∙ ap (λ bytes. record { area = b.area; first = bytes }) (ap (λ l. bytes_in (third_field l)) e)

body-lines : (f : Function) (r : List Line) → body_lines f ++ r ≡ map local_line f.locals ++ (code_lines f.body.0.items ++ (end_line ∷ r))
body-lines f r = append_assoc (map local_line f.locals) (code_lines f.body.0.items ++ (end_line ∷ [])) r
    ∙ ap (λ l. map local_line f.locals ++ l) (append_assoc (code_lines f.body.0.items) (end_line ∷ []) r)

same-function : (f g : PlainFunction) → f.sig ≡ g.sig → f.slots ≡ g.slots → f.charge ≡ g.charge → f.locals ≡ g.locals → f.body ≡ g.body → f ≡ g
same-function f g a b c d e =
    ap (λ n. record { sig = n; slots = f.slots; charge = f.charge; locals = f.locals; body = f.body }) a
    ∙ ap (λ n. record { sig = g.sig; slots = n; charge = f.charge; locals = f.locals; body = f.body }) b
    ∙ ap (λ n. record { sig = g.sig; slots = g.slots; charge = n; locals = f.locals; body = f.body }) c
    ∙ ap (λ n. record { sig = g.sig; slots = g.slots; charge = g.charge; locals = n; body = f.body }) d
    ∙ ap (λ n. record { sig = g.sig; slots = g.slots; charge = g.charge; locals = g.locals; body = n }) e

function_told : (f g : Function) (r s : List Line) → function_line f ≡ function_line g → body_lines f ++ r ≡ body_lines g ++ s
    → (plain_function f ≡ plain_function g) × (r ≡ s)
unfolding first_of after_first number first_field second_field third_field fourth_field
function_told f g r s e b =
    let locals = each_told local_line f.locals g.locals (code_lines f.body.0.items ++ (end_line ∷ r)) (code_lines g.body.0.items ++ (end_line ∷ s))
    (ap (λ l. number (fourth_field l)) e) (sym (body-lines f r) ∙ b ∙ body-lines g s) in
    let code = code_told f.body.0.items g.body.0.items r s locals.1 in (
      same-function (plain_function f) (plain_function g)
          (ap (λ l. number (first_field l)) e) (ap (λ l. number (second_field l)) e) (ap (λ l. number (third_field l)) e)
          (map_told local_line local_told f.locals g.locals locals.0) code.0,
      code.1,
    )

functions_told : (fs gs : List Function) → map function_line fs ≡ map function_line gs → flat_map body_lines fs ≡ flat_map body_lines gs
    → map plain_function fs ≡ map plain_function gs
functions_told [] [] e b = refl
functions_told [] (g ∷ gs) e b = cc
functions_told (f ∷ fs) [] e b = cc
functions_told (f ∷ fs) (g ∷ gs) e b =
    let here = function_told f g (flat_map body_lines fs) (flat_map body_lines gs) (cons_head e) b in
    ap (λ x. x ∷ map plain_function fs) here.0 ∙ ap (λ l. plain_function g ∷ l) (functions_told fs gs (cons_tail e) here.1)

same-program : (p q : PlainProgram) → p.sigs ≡ q.sigs → p.nodes ≡ q.nodes → p.globals ≡ q.globals → p.functions ≡ q.functions → p ≡ q
same-program p q a b c d =
    ap (λ l. record { sigs = l; nodes = p.nodes; globals = p.globals; functions = p.functions }) a
    ∙ ap (λ l. record { sigs = q.sigs; nodes = l; globals = p.globals; functions = p.functions }) b
    ∙ ap (λ l. record { sigs = q.sigs; nodes = q.nodes; globals = l; functions = p.functions }) c
    ∙ ap (λ l. record { sigs = q.sigs; nodes = q.nodes; globals = q.globals; functions = l }) d

-- lists of lines are those of one program
pub program_told : (p q : Parts) → program_lines p ≡ program_lines q → plain p ≡ plain q
program_told p q e =
    let b = flat_map body_lines p.functions in
    let b2 = flat_map body_lines q.functions in
    let f = counted (codes "functions") function_line p.functions in
    let f2 = counted (codes "functions") function_line q.functions in
    let g = counted (codes "globals") area_line p.globals in
    let g2 = counted (codes "globals") area_line q.globals in
    let n = counted (codes "nodes") node_line p.nodes in
    let n2 = counted (codes "nodes") node_line q.nodes in
    let s = counted (codes "sigs") sig_line p.sigs in
    let s2 = counted (codes "sigs") sig_line q.sigs in
    let first = line (codes "ccured") (1 ∷ []) in
    let after_first = cons_tail e in
    let sigs = counted_told sig_line (codes "sigs") p.sigs q.sigs (n ++ (g ++ (f ++ b))) (n2 ++ (g2 ++ (f2 ++ b2))) after_first in
    let nodes = counted_told node_line (codes "nodes") p.nodes q.nodes (g ++ (f ++ b)) (g2 ++ (f2 ++ b2)) sigs.1 in
    let globals = counted_told area_line (codes "globals") p.globals q.globals (f ++ b) (f2 ++ b2) nodes.1 in
    let functions = counted_told function_line (codes "functions") p.functions q.functions b b2 globals.1 in
    same-program (plain p) (plain q) (map_told sig_line sig_told p.sigs q.sigs sigs.0) (map_told node_line node_told p.nodes q.nodes nodes.0)
    (map_told area_line area_told p.globals q.globals globals.0) (functions_told p.functions q.functions functions.0 functions.1)
