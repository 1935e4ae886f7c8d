-- The lines of instructions that hold others, by the lists that they hold.
use Rattle.std.proofs.Common.{ℕ, List, [], ◌∷◌, ◌++◌, ◌≡◌, ◌∙◌, ap, refl}
use Rattle.std.specs.Prelude.{codes, flat_map}
use Rattle.std.proofs.lemmas.Grind.{flat_map-append}
use Rattle.cured_code.specs.declared.instr.Instr.{Row_of-Instr, end_of-Instr, more_of-Instr}
use Rattle.cured_code.specs.declared.instr.Instr.TheVariants as instr
use Rattle.cured_code.specs.declared.instr.Instr.TheBlock.{hidden-the_row-Instr-0, items-the_row-Instr, items_hidden-the_row-Instr-0}
use Rattle.cured_code.specs.declared.instr.Code.{Code}
use Rattle.cured_code.specs.declared.parts.Sig.{Sig}
use Rattle.cured_code.specs.declared.parts.GlobalLine.{GlobalLine}
use Rattle.cured_code.specs.declared.parts.Function.{Function}
use Rattle.cured_spelling.specs.Lines.{Line, line, line_text}
use Rattle.cured_spelling.specs.Spelling.{lines_of, lines_of_row, code_lines, else_line, end_line, parts_lines, counted, sig_line, node_line, area_line, function_line, body_lines}

row-lines : {m : _} (r : Row_of-Instr m) → lines_of_row r ≡ code_lines (items-the_row-Instr m r)
row-lines end_of-Instr = refl
row-lines (more_of-Instr i r) = ap (λ l. lines_of i ++ l) (row-lines r)

-- the lines of a part
pub part-lines : (x : Code) → lines_of_row (hidden-the_row-Instr-0 x.0) ≡ code_lines x.0.items
part-lines x = row-lines (hidden-the_row-Instr-0 x.0) ∙ ap code_lines (items_hidden-the_row-Instr-0 x.0)

pub if-lines : (a : ℕ) (x y : Code) → lines_of (instr.If a x y) ≡ line (codes "if") (a ∷ []) ∷ (code_lines x.0.items ++ (else_line ∷ (code_lines y.0.items ++ (end_line ∷ []))))
if-lines a x y = ap (λ l. line (codes "if") (a ∷ []) ∷ (l ++ (else_line ∷ (lines_of_row (hidden-the_row-Instr-0 y.0) ++ (end_line ∷ []))))) (part-lines x)
    ∙ ap (λ l. line (codes "if") (a ∷ []) ∷ (code_lines x.0.items ++ (else_line ∷ (l ++ (end_line ∷ []))))) (part-lines y)

pub block-lines : (x : Code) → lines_of (instr.Block x) ≡ line (codes "block") [] ∷ (code_lines x.0.items ++ (end_line ∷ []))
block-lines x = ap (λ l. line (codes "block") [] ∷ (l ++ (end_line ∷ []))) (part-lines x)

pub loop-lines : (x : Code) → lines_of (instr.Loop x) ≡ line (codes "loop") [] ∷ (code_lines x.0.items ++ (end_line ∷ []))
loop-lines x = ap (λ l. line (codes "loop") [] ∷ (l ++ (end_line ∷ []))) (part-lines x)

-- the text of a first line, a part, and a last line
pub held-text : (l m : Line) (ls : List Line) → flat_map line_text (l ∷ (ls ++ (m ∷ []))) ≡ line_text l ++ (flat_map line_text ls ++ (line_text m ++ []))
held-text l m ls = ap (λ t. line_text l ++ t) (flat_map-append line_text ls (m ∷ []))

-- the text of a block is its first line, its part, and its end
pub block-text : (x : Code) → flat_map line_text (lines_of (instr.Block x))
    ≡ line_text (line (codes "block") []) ++ (flat_map line_text (code_lines x.0.items) ++ (line_text end_line ++ []))
block-text x = ap (flat_map line_text) (block-lines x) ∙ held-text (line (codes "block") []) end_line (code_lines x.0.items)

pub loop-text : (x : Code) → flat_map line_text (lines_of (instr.Loop x))
    ≡ line_text (line (codes "loop") []) ++ (flat_map line_text (code_lines x.0.items) ++ (line_text end_line ++ []))
loop-text x = ap (flat_map line_text) (loop-lines x) ∙ held-text (line (codes "loop") []) end_line (code_lines x.0.items)

pub if-text : (a : ℕ) (x y : Code) → flat_map line_text (lines_of (instr.If a x y))
    ≡ line_text (line (codes "if") (a ∷ [])) ++ (flat_map line_text (code_lines x.0.items) ++ (line_text else_line ++ (flat_map line_text (code_lines y.0.items) ++ (line_text end_line ++ []))))
if-text a x y = ap (flat_map line_text) (if-lines a x y)
    ∙ ap (λ t. line_text (line (codes "if") (a ∷ [])) ++ t) (flat_map-append line_text (code_lines x.0.items) (else_line ∷ (code_lines y.0.items ++ (end_line ∷ [])))
    ∙ ap (λ t. flat_map line_text (code_lines x.0.items) ++ (line_text else_line ++ t)) (flat_map-append line_text (code_lines y.0.items) (end_line ∷ [])))

-- the text of a program, part by part
pub parts-text : (sigs : List Sig) (nodes : List ℕ) (globals : List GlobalLine) (functions : List Function) → flat_map line_text (parts_lines sigs nodes globals functions)
    ≡ line_text (line (codes "ccured") (1 ∷ [])) ++ (flat_map line_text (counted (codes "sigs") sig_line sigs) ++ (flat_map line_text (counted (codes "nodes") node_line nodes)
    ++ (flat_map line_text (counted (codes "globals") area_line globals) ++ (flat_map line_text (counted (codes "functions") function_line functions)
    ++ flat_map line_text (flat_map body_lines functions)))))
parts-text sigs nodes globals functions =
    let s = counted (codes "sigs") sig_line sigs in
    let n = counted (codes "nodes") node_line nodes in
    let g = counted (codes "globals") area_line globals in
    let f = counted (codes "functions") function_line functions in
    let b = flat_map body_lines functions in
    ap (λ t. line_text (line (codes "ccured") (1 ∷ [])) ++ t) (flat_map-append line_text s (n ++ (g ++ (f ++ b)))
    ∙ ap (λ t. flat_map line_text s ++ t) (flat_map-append line_text n (g ++ (f ++ b))
    ∙ ap (λ t. flat_map line_text n ++ t) (flat_map-append line_text g (f ++ b)
    ∙ ap (λ t. flat_map line_text g ++ t) (flat_map-append line_text f b))))
