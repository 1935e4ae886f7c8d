-- The lines of a program are written as their names say.
use Rattle.std.proofs.Common.{List, [], ◌∷◌, ◌++◌, map, refl}
use Rattle.std.specs.Prelude.{flat_map, codes}
use Rattle.std.specs.List.{AllByRecursion as Each}
use Rattle.cured_code.specs.declared.instr.Instr.{Instr, Row_of-Instr, end_of-Instr, more_of-Instr}
use Rattle.cured_code.specs.declared.instr.Instr.TheVariants as instr
use Rattle.cured_code.specs.declared.parts.Function.{Function}
use Rattle.cured_code.specs.declared.parts.Parts.{Parts}
use Rattle.cured_spelling.specs.Lines.{Line}
use Rattle.cured_spelling.specs.Spelling.{lines_of, lines_of_row, line_of, else_line, end_line, code_lines, sig_line, node_line, area_line, function_line, local_line, body_lines, counted, program_lines}
use Rattle.cured_spelling.proofs.Writings.{IsWritten}
use Rattle.cured_spelling.proofs.Cuts.{each-append}
use Rattle.cured_spelling.proofs.FieldLaws.{above-tested}

pub first-written : (i : Instr) → IsWritten (line_of i)
first-written (instr.Const v n) = record { name = above-tested (codes "const") refl; fields = refl }
first-written (instr.Copy v a) = record { name = above-tested (codes "copy") refl; fields = refl }
first-written (instr.Ext v a form) = record { name = above-tested (codes "ext") refl; fields = refl }
first-written (instr.Add v a b) = record { name = above-tested (codes "add") refl; fields = refl }
first-written (instr.Sub v a b) = record { name = above-tested (codes "sub") refl; fields = refl }
first-written (instr.Mul v a b) = record { name = above-tested (codes "mul") refl; fields = refl }
first-written (instr.And v a b) = record { name = above-tested (codes "and") refl; fields = refl }
first-written (instr.Or v a b) = record { name = above-tested (codes "or") refl; fields = refl }
first-written (instr.Xor v a b) = record { name = above-tested (codes "xor") refl; fields = refl }
first-written (instr.Shl v a b) = record { name = above-tested (codes "shl") refl; fields = refl }
first-written (instr.Shr v a b) = record { name = above-tested (codes "shr") refl; fields = refl }
first-written (instr.Sar v a b) = record { name = above-tested (codes "sar") refl; fields = refl }
first-written (instr.Divu v a b) = record { name = above-tested (codes "divu") refl; fields = refl }
first-written (instr.Divs v a b) = record { name = above-tested (codes "divs") refl; fields = refl }
first-written (instr.Remu v a b) = record { name = above-tested (codes "remu") refl; fields = refl }
first-written (instr.Rems v a b) = record { name = above-tested (codes "rems") refl; fields = refl }
first-written (instr.Eq v a b) = record { name = above-tested (codes "eq") refl; fields = refl }
first-written (instr.Ne v a b) = record { name = above-tested (codes "ne") refl; fields = refl }
first-written (instr.Ltu v a b) = record { name = above-tested (codes "ltu") refl; fields = refl }
first-written (instr.Lts v a b) = record { name = above-tested (codes "lts") refl; fields = refl }
first-written (instr.Ld n v a) = record { name = above-tested (codes "ld") refl; fields = refl }
first-written (instr.St n a v) = record { name = above-tested (codes "st") refl; fields = refl }
first-written (instr.Ldw k v a) = record { name = above-tested (codes "ldw") refl; fields = refl }
first-written (instr.Stw k a v) = record { name = above-tested (codes "stw") refl; fields = refl }
first-written (instr.Move a b n) = record { name = above-tested (codes "move") refl; fields = refl }
first-written (instr.Zero a n) = record { name = above-tested (codes "zero") refl; fields = refl }
first-written (instr.Len v b) = record { name = above-tested (codes "len") refl; fields = refl }
first-written (instr.Plain v a b n) = record { name = above-tested (codes "plain") refl; fields = refl }
first-written (instr.Untag a b n) = record { name = above-tested (codes "untag") refl; fields = refl }
first-written (instr.Tagged v a b) = record { name = above-tested (codes "tagged") refl; fields = refl }
first-written (instr.Base v a b) = record { name = above-tested (codes "base") refl; fields = refl }
first-written (instr.Mark a b u) = record { name = above-tested (codes "mark") refl; fields = refl }
first-written (instr.Tmove a b d e n) = record { name = above-tested (codes "tmove") refl; fields = refl }
first-written (instr.Tzero a b n) = record { name = above-tested (codes "tzero") refl; fields = refl }
first-written (instr.Tdepth v a b n) = record { name = above-tested (codes "tdepth") refl; fields = refl }
first-written (instr.Frame v k) = record { name = above-tested (codes "frame") refl; fields = refl }
first-written (instr.Depth v a) = record { name = above-tested (codes "depth") refl; fields = refl }
first-written (instr.Below v a n) = record { name = above-tested (codes "below") refl; fields = refl }
first-written (instr.Sigof v a) = record { name = above-tested (codes "sigof") refl; fields = refl }
first-written (instr.Room v a) = record { name = above-tested (codes "room") refl; fields = refl }
first-written (instr.New tagged v n s) = record { name = above-tested (codes "new") refl; fields = refl }
first-written (instr.Call f a v) = record { name = above-tested (codes "call") refl; fields = refl }
first-written (instr.Icall g u a v) = record { name = above-tested (codes "icall") refl; fields = refl }
first-written (instr.Get v) = record { name = above-tested (codes "get") refl; fields = refl }
first-written (instr.Put a) = record { name = above-tested (codes "put") refl; fields = refl }
first-written (instr.Exit a) = record { name = above-tested (codes "exit") refl; fields = refl }
first-written (instr.Check check place a) = record { name = above-tested (codes "check") refl; fields = refl }
first-written (instr.If' a s x t y) = record { name = above-tested (codes "if") refl; fields = refl }
first-written (instr.Block' s x) = record { name = above-tested (codes "block") refl; fields = refl }
first-written (instr.Loop' s x) = record { name = above-tested (codes "loop") refl; fields = refl }
first-written (instr.Break k) = record { name = above-tested (codes "break") refl; fields = refl }
first-written (instr.Return a) = record { name = above-tested (codes "return") refl; fields = refl }

pub else-written : IsWritten else_line
else-written = record { name = above-tested (codes "else") refl; fields = refl }

pub end-written : IsWritten end_line
end-written = record { name = above-tested (codes "end") refl; fields = refl }

mutual
  instr-written : (i : Instr) → Each IsWritten (lines_of i)
  instr-written (instr.Const v n) = (first-written (instr.Const v n), tt)
  instr-written (instr.Copy v a) = (first-written (instr.Copy v a), tt)
  instr-written (instr.Ext v a form) = (first-written (instr.Ext v a form), tt)
  instr-written (instr.Add v a b) = (first-written (instr.Add v a b), tt)
  instr-written (instr.Sub v a b) = (first-written (instr.Sub v a b), tt)
  instr-written (instr.Mul v a b) = (first-written (instr.Mul v a b), tt)
  instr-written (instr.And v a b) = (first-written (instr.And v a b), tt)
  instr-written (instr.Or v a b) = (first-written (instr.Or v a b), tt)
  instr-written (instr.Xor v a b) = (first-written (instr.Xor v a b), tt)
  instr-written (instr.Shl v a b) = (first-written (instr.Shl v a b), tt)
  instr-written (instr.Shr v a b) = (first-written (instr.Shr v a b), tt)
  instr-written (instr.Sar v a b) = (first-written (instr.Sar v a b), tt)
  instr-written (instr.Divu v a b) = (first-written (instr.Divu v a b), tt)
  instr-written (instr.Divs v a b) = (first-written (instr.Divs v a b), tt)
  instr-written (instr.Remu v a b) = (first-written (instr.Remu v a b), tt)
  instr-written (instr.Rems v a b) = (first-written (instr.Rems v a b), tt)
  instr-written (instr.Eq v a b) = (first-written (instr.Eq v a b), tt)
  instr-written (instr.Ne v a b) = (first-written (instr.Ne v a b), tt)
  instr-written (instr.Ltu v a b) = (first-written (instr.Ltu v a b), tt)
  instr-written (instr.Lts v a b) = (first-written (instr.Lts v a b), tt)
  instr-written (instr.Ld n v a) = (first-written (instr.Ld n v a), tt)
  instr-written (instr.St n a v) = (first-written (instr.St n a v), tt)
  instr-written (instr.Ldw k v a) = (first-written (instr.Ldw k v a), tt)
  instr-written (instr.Stw k a v) = (first-written (instr.Stw k a v), tt)
  instr-written (instr.Move a b n) = (first-written (instr.Move a b n), tt)
  instr-written (instr.Zero a n) = (first-written (instr.Zero a n), tt)
  instr-written (instr.Len v b) = (first-written (instr.Len v b), tt)
  instr-written (instr.Plain v a b n) = (first-written (instr.Plain v a b n), tt)
  instr-written (instr.Untag a b n) = (first-written (instr.Untag a b n), tt)
  instr-written (instr.Tagged v a b) = (first-written (instr.Tagged v a b), tt)
  instr-written (instr.Base v a b) = (first-written (instr.Base v a b), tt)
  instr-written (instr.Mark a b u) = (first-written (instr.Mark a b u), tt)
  instr-written (instr.Tmove a b d e n) = (first-written (instr.Tmove a b d e n), tt)
  instr-written (instr.Tzero a b n) = (first-written (instr.Tzero a b n), tt)
  instr-written (instr.Tdepth v a b n) = (first-written (instr.Tdepth v a b n), tt)
  instr-written (instr.Frame v k) = (first-written (instr.Frame v k), tt)
  instr-written (instr.Depth v a) = (first-written (instr.Depth v a), tt)
  instr-written (instr.Below v a n) = (first-written (instr.Below v a n), tt)
  instr-written (instr.Sigof v a) = (first-written (instr.Sigof v a), tt)
  instr-written (instr.Room v a) = (first-written (instr.Room v a), tt)
  instr-written (instr.New tagged v n s) = (first-written (instr.New tagged v n s), tt)
  instr-written (instr.Call f a v) = (first-written (instr.Call f a v), tt)
  instr-written (instr.Icall g u a v) = (first-written (instr.Icall g u a v), tt)
  instr-written (instr.Get v) = (first-written (instr.Get v), tt)
  instr-written (instr.Put a) = (first-written (instr.Put a), tt)
  instr-written (instr.Exit a) = (first-written (instr.Exit a), tt)
  instr-written (instr.Check check place a) = (first-written (instr.Check check place a), tt)
  instr-written (instr.If' a s x t y) = (
    first-written (instr.If' a s x t y),
    each-append IsWritten (lines_of_row x) (else_line ∷ (lines_of_row y ++ (end_line ∷ [])))
        (row-written x) (else-written, each-append IsWritten (lines_of_row y) (end_line ∷ []) (row-written y) (end-written, tt)),
  )
  instr-written (instr.Block' s x) =
      (first-written (instr.Block' s x), each-append IsWritten (lines_of_row x) (end_line ∷ []) (row-written x) (end-written, tt))
  instr-written (instr.Loop' s x) =
      (first-written (instr.Loop' s x), each-append IsWritten (lines_of_row x) (end_line ∷ []) (row-written x) (end-written, tt))
  instr-written (instr.Break k) = (first-written (instr.Break k), tt)
  instr-written (instr.Return a) = (first-written (instr.Return a), tt)

  row-written : {m : _} (r : Row_of-Instr m) → Each IsWritten (lines_of_row r)
  row-written end_of-Instr = tt
  row-written (more_of-Instr i r) = each-append IsWritten (lines_of i) (lines_of_row r) (instr-written i) (row-written r)

code-written : (is : List Instr) → Each IsWritten (code_lines is)
code-written [] = tt
code-written (i ∷ is) = each-append IsWritten (lines_of i) (code_lines is) (instr-written i) (code-written is)

pub each-written : {A : Type 0} (f : A → Line) → ((x : A) → IsWritten (f x)) → (xs : List A) → Each IsWritten (map f xs)
each-written f h [] = tt
each-written f h (x ∷ xs) = (h x, each-written f h xs)

body-written : (f : Function) → Each IsWritten (body_lines f)
body-written f =
    each-append IsWritten (map local_line f.locals) (code_lines f.body.0.items ++ (end_line ∷ [])) (each-written local_line (λ a. record {
      name =
          above-tested (codes "local") refl;
      fields = refl;
    }) f.locals)
    (each-append IsWritten (code_lines f.body.0.items) (end_line ∷ []) (code-written f.body.0.items) (end-written, tt))

bodies-written : (fs : List Function) → Each IsWritten (flat_map body_lines fs)
bodies-written [] = tt
bodies-written (f ∷ fs) = each-append IsWritten (body_lines f) (flat_map body_lines fs) (body-written f) (bodies-written fs)

-- each line of a program
pub program-written : (p : Parts) → Each IsWritten (program_lines p)
program-written p =
    let sigs = counted (codes "sigs") sig_line p.sigs in
    let nodes = counted (codes "nodes") node_line p.nodes in
    let globals = counted (codes "globals") area_line p.globals in
    let functions = counted (codes "functions") function_line p.functions in
    let bodies = flat_map body_lines p.functions in (
      record { name = above-tested (codes "ccured") refl; fields = refl },
      each-append IsWritten sigs (nodes ++ (globals ++ (functions ++ bodies))) (
        record {
          name =
              above-tested (codes "sigs") refl;
          fields =
              refl;
        },
        each-written sig_line (λ x. record { name = above-tested (codes "sig") refl; fields = refl }) p.sigs,
      )
          (each-append IsWritten nodes (globals ++ (functions ++ bodies)) (
            record {
              name =
                  above-tested (codes "nodes") refl;
              fields =
                  refl;
            },
            each-written node_line (λ x. record { name = above-tested (codes "node") refl; fields = refl }) p.nodes,
          )
          (each-append IsWritten globals (functions ++ bodies) (
            record {
              name =
                  above-tested (codes "globals") refl;
              fields =
                  refl;
            },
            each-written area_line (λ x. record { name = above-tested (codes "area") refl; fields = refl }) p.globals,
          )
          (each-append IsWritten functions bodies (
            record {
              name =
                  above-tested (codes "functions") refl;
              fields =
                  refl;
            },
            each-written function_line (λ x. record { name = above-tested (codes "fn") refl; fields = refl }) p.functions,
          )
          (bodies-written p.functions)))),
    )
