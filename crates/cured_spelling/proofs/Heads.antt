-- What a line begins, read back from it.
use Rattle.std.proofs.Common.{ℕ, Bool, true, false, List, [], ◌∷◌, ◌++◌, ◌≡◌, ◌∙◌, ap, refl, sym}
use Rattle.std.specs.Prelude.{cond, codes}
use Rattle.std.specs.Str.{bytes_eq}
use Rattle.cc_base.specs.declared.fault.Check.{Check}
use Rattle.cc_base.specs.declared.fault.Check.TheVariants as check
use Rattle.cured_code.specs.declared.instr.Narrow.{Narrow}
use Rattle.cured_code.specs.declared.instr.Narrow.TheVariants.{S8}
use Rattle.cured_code.specs.declared.instr.Instr.{Instr}
use Rattle.cured_code.specs.declared.instr.Instr.TheVariants as instr
use Rattle.cured_spelling.specs.Lines.{Field, Number, Form, Name, Tag, Hex, Line}
use Rattle.cured_spelling.specs.Spelling.{lines_of, lines_of_row, line_of, else_line, end_line}
use Rattle.cured_spelling.proofs.Cuts.{cons_head, cons_tail}

pub data Head : Type 0 where
  One : Instr → Head
  OpensIf : ℕ → Head
  OpensBlock : Head
  OpensLoop : Head
  TurnsElse : Head
  Ends : Head

unfoldable pub number : Field → ℕ
number (Number n) = n
number f = 0

unfoldable pub bytes_in : Field → List ℕ
bytes_in (Hex bytes) = bytes
bytes_in f = []

unfoldable pub form_in : Field → Narrow
form_in (Form form) = form
form_in f = S8

unfoldable pub check_in : Field → Check
check_in (Name c) = c
check_in f = check.Null

unfoldable pub tag_in : Field → Bool
tag_in (Tag tagged) = tagged
tag_in f = false

-- the first of the fields, and the ones after it
unfoldable pub first_of : List Field → Field
first_of [] = Number 0
first_of (f ∷ fs) = f

unfoldable pub after_first : List Field → List Field
after_first [] = []
after_first (f ∷ fs) = fs

unfoldable pub first_field : Line → Field
unfolding first_of after_first
first_field line = first_of line.fields

unfoldable pub second_field : Line → Field
unfolding first_of after_first
second_field line = first_of (after_first line.fields)

unfoldable pub third_field : Line → Field
unfolding first_of after_first
third_field line = first_of (after_first (after_first line.fields))

unfoldable pub fourth_field : Line → Field
unfolding first_of after_first
fourth_field line = first_of (after_first (after_first (after_first line.fields)))

unfoldable pub fifth_field : Line → Field
unfolding first_of after_first
fifth_field line = first_of (after_first (after_first (after_first (after_first line.fields))))

unfoldable pub head : Line → Head
unfolding number form_in check_in tag_in first_field second_field third_field fourth_field fifth_field
head line =
    let a = number (first_field line) in
    let b = number (second_field line) in
    let c = number (third_field line) in
    let d = number (fourth_field line) in
    let e = number (fifth_field line) in
    cond (bytes_eq line.name (codes "const")) (One (instr.Const a b)) (
    cond (bytes_eq line.name (codes "copy")) (One (instr.Copy a b)) (
    cond (bytes_eq line.name (codes "ext")) (One (instr.Ext a b (form_in (third_field line)))) (
    cond (bytes_eq line.name (codes "add")) (One (instr.Add a b c)) (
    cond (bytes_eq line.name (codes "sub")) (One (instr.Sub a b c)) (
    cond (bytes_eq line.name (codes "mul")) (One (instr.Mul a b c)) (
    cond (bytes_eq line.name (codes "and")) (One (instr.And a b c)) (
    cond (bytes_eq line.name (codes "or")) (One (instr.Or a b c)) (
    cond (bytes_eq line.name (codes "xor")) (One (instr.Xor a b c)) (
    cond (bytes_eq line.name (codes "shl")) (One (instr.Shl a b c)) (
    cond (bytes_eq line.name (codes "shr")) (One (instr.Shr a b c)) (
    cond (bytes_eq line.name (codes "sar")) (One (instr.Sar a b c)) (
    cond (bytes_eq line.name (codes "divu")) (One (instr.Divu a b c)) (
    cond (bytes_eq line.name (codes "divs")) (One (instr.Divs a b c)) (
    cond (bytes_eq line.name (codes "remu")) (One (instr.Remu a b c)) (
    cond (bytes_eq line.name (codes "rems")) (One (instr.Rems a b c)) (
    cond (bytes_eq line.name (codes "eq")) (One (instr.Eq a b c)) (
    cond (bytes_eq line.name (codes "ne")) (One (instr.Ne a b c)) (
    cond (bytes_eq line.name (codes "ltu")) (One (instr.Ltu a b c)) (
    cond (bytes_eq line.name (codes "lts")) (One (instr.Lts a b c)) (
    cond (bytes_eq line.name (codes "ld")) (One (instr.Ld a b c)) (
    cond (bytes_eq line.name (codes "st")) (One (instr.St a b c)) (
    cond (bytes_eq line.name (codes "ldw")) (One (instr.Ldw a b c)) (
    cond (bytes_eq line.name (codes "stw")) (One (instr.Stw a b c)) (
    cond (bytes_eq line.name (codes "move")) (One (instr.Move a b c)) (
    cond (bytes_eq line.name (codes "zero")) (One (instr.Zero a b)) (
    cond (bytes_eq line.name (codes "len")) (One (instr.Len a b)) (
    cond (bytes_eq line.name (codes "plain")) (One (instr.Plain a b c d)) (
    cond (bytes_eq line.name (codes "untag")) (One (instr.Untag a b c)) (
    cond (bytes_eq line.name (codes "tagged")) (One (instr.Tagged a b c)) (
    cond (bytes_eq line.name (codes "base")) (One (instr.Base a b c)) (
    cond (bytes_eq line.name (codes "mark")) (One (instr.Mark a b c)) (
    cond (bytes_eq line.name (codes "tmove")) (One (instr.Tmove a b c d e)) (
    cond (bytes_eq line.name (codes "tzero")) (One (instr.Tzero a b c)) (
    cond (bytes_eq line.name (codes "tdepth")) (One (instr.Tdepth a b c d)) (
    cond (bytes_eq line.name (codes "frame")) (One (instr.Frame a b)) (
    cond (bytes_eq line.name (codes "depth")) (One (instr.Depth a b)) (
    cond (bytes_eq line.name (codes "below")) (One (instr.Below a b c)) (
    cond (bytes_eq line.name (codes "sigof")) (One (instr.Sigof a b)) (
    cond (bytes_eq line.name (codes "room")) (One (instr.Room a b)) (
    cond (bytes_eq line.name (codes "new")) (One (instr.New (tag_in (first_field line)) b c d)) (
    cond (bytes_eq line.name (codes "call")) (One (instr.Call a b c)) (
    cond (bytes_eq line.name (codes "icall")) (One (instr.Icall a b c d)) (
    cond (bytes_eq line.name (codes "get")) (One (instr.Get a)) (
    cond (bytes_eq line.name (codes "put")) (One (instr.Put a)) (
    cond (bytes_eq line.name (codes "exit")) (One (instr.Exit a)) (
    cond (bytes_eq line.name (codes "check")) (One (instr.Check (check_in (first_field line)) (record { line = b; col = c }) d)) (
    cond (bytes_eq line.name (codes "if")) (OpensIf a) (
    cond (bytes_eq line.name (codes "block")) (OpensBlock) (
    cond (bytes_eq line.name (codes "loop")) (OpensLoop) (
    cond (bytes_eq line.name (codes "break")) (One (instr.Break a)) (
    cond (bytes_eq line.name (codes "return")) (One (instr.Return a)) (
    cond (bytes_eq line.name (codes "else")) TurnsElse Ends))))))))))))))))))))))))))))))))))))))))))))))))))))

unfoldable pub head_of : Instr → Head
head_of (instr.If' a s x t y) = OpensIf a
head_of (instr.Block' s x) = OpensBlock
head_of (instr.Loop' s x) = OpensLoop
head_of i = One i

pub head-read : (i : Instr) → head (line_of i) ≡ head_of i
unfolding head head_of first_of after_first number form_in check_in tag_in first_field second_field third_field fourth_field fifth_field
head-read (instr.Const v n) = refl
head-read (instr.Copy v a) = refl
head-read (instr.Ext v a form) = refl
head-read (instr.Add v a b) = refl
head-read (instr.Sub v a b) = refl
head-read (instr.Mul v a b) = refl
head-read (instr.And v a b) = refl
head-read (instr.Or v a b) = refl
head-read (instr.Xor v a b) = refl
head-read (instr.Shl v a b) = refl
head-read (instr.Shr v a b) = refl
head-read (instr.Sar v a b) = refl
head-read (instr.Divu v a b) = refl
head-read (instr.Divs v a b) = refl
head-read (instr.Remu v a b) = refl
head-read (instr.Rems v a b) = refl
head-read (instr.Eq v a b) = refl
head-read (instr.Ne v a b) = refl
head-read (instr.Ltu v a b) = refl
head-read (instr.Lts v a b) = refl
head-read (instr.Ld n v a) = refl
head-read (instr.St n a v) = refl
head-read (instr.Ldw k v a) = refl
head-read (instr.Stw k a v) = refl
head-read (instr.Move a b n) = refl
head-read (instr.Zero a n) = refl
head-read (instr.Len v b) = refl
head-read (instr.Plain v a b n) = refl
head-read (instr.Untag a b n) = refl
head-read (instr.Tagged v a b) = refl
head-read (instr.Base v a b) = refl
head-read (instr.Mark a b u) = refl
head-read (instr.Tmove a b d e n) = refl
head-read (instr.Tzero a b n) = refl
head-read (instr.Tdepth v a b n) = refl
head-read (instr.Frame v k) = refl
head-read (instr.Depth v a) = refl
head-read (instr.Below v a n) = refl
head-read (instr.Sigof v a) = refl
head-read (instr.Room v a) = refl
head-read (instr.New tagged v n s) = refl
head-read (instr.Call f a v) = refl
head-read (instr.Icall g u a v) = refl
head-read (instr.Get v) = refl
head-read (instr.Put a) = refl
head-read (instr.Exit a) = refl
head-read (instr.Check check place a) = refl
head-read (instr.If' a s x t y) = refl
head-read (instr.Block' s x) = refl
head-read (instr.Loop' s x) = refl
head-read (instr.Break k) = refl
head-read (instr.Return a) = refl

-- the lines of the instructions that an instruction holds, and its last
unfoldable pub held_lines : Instr → List Line
held_lines (instr.If' a s x t y) = lines_of_row x ++ (else_line ∷ (lines_of_row y ++ (end_line ∷ [])))
held_lines (instr.Block' s x) = lines_of_row x ++ (end_line ∷ [])
held_lines (instr.Loop' s x) = lines_of_row x ++ (end_line ∷ [])
held_lines i = []

pub first_line : (i : Instr) → lines_of i ≡ line_of i ∷ held_lines i
unfolding held_lines
first_line (instr.If' a s x t y) = refl
first_line (instr.Block' s x) = refl
first_line (instr.Loop' s x) = refl
first_line i = refl

pub closes : Head → Bool
closes TurnsElse = true
closes Ends = true
closes h = false

pub else-closes : closes (head else_line) ≡ true
unfolding closes head
else-closes = refl

pub end-closes : closes (head end_line) ≡ true
unfolding closes head
end-closes = refl

pub instr-opens : (i : Instr) → closes (head_of i) ≡ false
unfolding closes head_of
instr-opens (instr.If' a s x t y) = refl
instr-opens (instr.Block' s x) = refl
instr-opens (instr.Loop' s x) = refl
instr-opens i = refl

-- the instruction of a head, else another
instr_in : Instr → Head → Instr
instr_in d (One i) = i
instr_in d h = d

pub one_told : (i j : Instr) → One i ≡ head_of j → (i ≡ j) × ([] ≡ held_lines j)
unfolding head_of held_lines instr_in
one_told i (instr.If' a s x t y) e = cc
one_told i (instr.Block' s x) e = cc
one_told i (instr.Loop' s x) e = cc
one_told i j e = (ap (instr_in i) e, refl)

-- instructions whose lines begin in one way
pub same_head : (i j : Instr) (r s : List Line) → lines_of i ++ r ≡ lines_of j ++ s → head_of i ≡ head_of j
same_head i j r s e =
    let h : line_of i ∷ (held_lines i ++ r) ≡ line_of j ∷ (held_lines j ++ s) = ap (λ l. l ++ r) (sym (first_line i)) ∙ e
    ∙ ap (λ l. l ++ s) (first_line j) in
    sym (head-read i) ∙ ap head (cons_head h) ∙ head-read j

pub same_rest : (i j : Instr) (r s : List Line) → lines_of i ++ r ≡ lines_of j ++ s → held_lines i ++ r ≡ held_lines j ++ s
same_rest i j r s e =
    let h : line_of i ∷ (held_lines i ++ r) ≡ line_of j ∷ (held_lines j ++ s) = ap (λ l. l ++ r) (sym (first_line i)) ∙ e
    ∙ ap (λ l. l ++ s) (first_line j) in
    cons_tail h
