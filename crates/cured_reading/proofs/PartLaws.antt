-- What is read of a part is spelled so.
use Rattle.std.proofs.Common.{ℕ, List, [], ◌∷◌, ◌++◌, ◌≡◌, ◌∙◌, ap, subst, sym, append_assoc, append-nil, length, length-append, arith, ◌<◌}
use Rattle.std.specs.Prelude.{codes, flat_map}
use Rattle.std.specs.Fmt.{decimal}
use Rattle.std.proofs.lemmas.Grind.{flat_map-append}
use Rattle.std.proofs.lemmas.List.Elements.{All-push}
use Rattle.cured_code.specs.declared.instr.Instr.{Instr}
use Rattle.cured_code.specs.declared.instr.Instr.TheVariants as instr
use Rattle.cured_code.specs.declared.instr.Code.{Code}
use Rattle.cured_code.specs.Ranges.{Names, IsInstrInRange, AreInstrsInRange, HasSlot, inside_if, inside_block, flat_nest_limit}
use Rattle.cured_code.proofs.RangeLaws.{list-code}
use Rattle.cured_spelling.specs.Lines.{Line, line, line_text, words_text}
use Rattle.cured_spelling.specs.Spelling.{lines_of, code_lines, else_line, end_line}
use Rattle.cured_spelling.proofs.RowLaws.{if-text, block-text, loop-text}

-- the line that ends a part, from its name
pub part-ended : (l : Line) (whole code left fields name after new : List ℕ) → whole ≡ code ++ left → left ≡ fields ++ (10 ∷ new)
    → fields ≡ name ++ after → after ≡ [] → name ≡ words_text l
    → whole ≡ code ++ (line_text l ++ new)
part-ended l whole code left fields name after new e f g h i = rw (e, f, g, h, i) (simp (append_assoc, append-nil))

-- one more instruction
pub pushed : (instrs more : List Instr) (i : Instr) (whole left rest : List ℕ) → whole ≡ flat_map line_text (code_lines instrs) ++ left
    → left ≡ flat_map line_text (lines_of i) ++ rest
    → more ≡ instrs ++ (i ∷ []) → whole ≡ flat_map line_text (code_lines more) ++ rest
pushed instrs more i whole left rest e f g =
    rw (e, f, g, flat_map-append lines_of instrs (i ∷ []), flat_map-append line_text (code_lines instrs) (lines_of i ++ []))
    (simp (append_assoc, append-nil))

-- a block, and a loop, from their first line
pub block-read : (x : Code) (left fields name after held rest : List ℕ) → left ≡ fields ++ (10 ∷ held) → fields ≡ name ++ after → after ≡ []
    → name ≡ codes "block"
    → held ≡ flat_map line_text (code_lines x.0.items) ++ (line_text end_line ++ rest) → left ≡ flat_map line_text (lines_of (instr.Block x)) ++ rest
block-read x left fields name after held rest e f g h i =
    let shape : left ≡ (line_text (line (codes "block") []) ++ (flat_map line_text (code_lines x.0.items)
    ++ (line_text end_line ++ []))) ++ rest = rw (e, f, g, h, i) (simp (append_assoc, append-nil)) in
    shape ∙ ap (λ t. t ++ rest) (sym (block-text x))

pub loop-read : (x : Code) (left fields name after held rest : List ℕ) → left ≡ fields ++ (10 ∷ held) → fields ≡ name ++ after → after ≡ []
    → name ≡ codes "loop"
    → held ≡ flat_map line_text (code_lines x.0.items) ++ (line_text end_line ++ rest) → left ≡ flat_map line_text (lines_of (instr.Loop x)) ++ rest
loop-read x left fields name after held rest e f g h i =
    let shape : left ≡ (line_text (line (codes "loop") []) ++ (flat_map line_text (code_lines x.0.items)
    ++ (line_text end_line ++ []))) ++ rest = rw (e, f, g, h, i) (simp (append_assoc, append-nil)) in
    shape ∙ ap (λ t. t ++ rest) (sym (loop-text x))

if-shape : (name d t u l m fields after held between rest : List ℕ) → fields ≡ 32 ∷ (d ++ after) → after ≡ [] → held ≡ t ++ (l ++ between)
    → between ≡ u ++ (m ++ rest)
    → name ++ (fields ++ (10 ∷ held)) ≡ (((name ++ ((32 ∷ d) ++ [])) ++ (10 ∷ [])) ++ (t ++ (l ++ (u ++ (m ++ []))))) ++ rest
if-shape name d t u l m fields after held between rest f g h i =
    let whole : fields ≡ 32 ∷ d = f ∙ ap (λ t. 32 ∷ (d ++ t)) g ∙ ap (λ t. 32 ∷ t) (append-nil d) in
    rw (whole, h, i) (simp (append_assoc, append-nil))

-- an `if`, from its fields
pub if-read : (a n : ℕ) (x y : Code) (fields after held between rest : List ℕ) → a ≡ n → fields ≡ 32 ∷ (decimal n ++ after) → after ≡ []
    → held ≡ flat_map line_text (code_lines x.0.items) ++ (line_text else_line ++ between)
    → between ≡ flat_map line_text (code_lines y.0.items) ++ (line_text end_line ++ rest)
    → codes "if" ++ (fields ++ (10 ∷ held)) ≡ flat_map line_text (lines_of (instr.If a x y)) ++ rest
if-read a n x y fields after held between rest e f g h i =
    let shape : codes "if" ++ (fields ++ (10 ∷ held))
    ≡ (line_text (line (codes "if") (a ∷ [])) ++ (flat_map line_text (code_lines x.0.items) ++ (line_text else_line
    ++ (flat_map line_text (code_lines y.0.items) ++ (line_text end_line ++ []))))) ++ rest =
    rw e (if-shape (codes "if") (decimal n) (flat_map line_text (code_lines x.0.items)) (flat_map line_text (code_lines y.0.items)) (line_text else_line) (line_text end_line) fields after held between rest f g h i) in
    shape ∙ ap (λ t. t ++ rest) (sym (if-text a x y))

-- what comes after a line is shorter than what began with it
pub line-shorter : (left fields rest : List ℕ) → left ≡ fields ++ (10 ∷ rest) → length rest < length left
line-shorter left fields rest e = rw (e, length-append) (omega arith)

-- instructions in range, and one more
pub instrs-push : (names : Names) (instrs more : List Instr) (i : Instr) → more ≡ instrs ++ (i ∷ []) → AreInstrsInRange names instrs → IsInstrInRange names i
    → AreInstrsInRange names more
instrs-push names instrs more i e h k = subst (AreInstrsInRange names) (sym e) (All-push (IsInstrInRange names) instrs i h k)

pub if-in_range : (names : Names) (a : ℕ) (x y : Code) → HasSlot names a → names.nest < flat_nest_limit → AreInstrsInRange (inside_if names) x.0.items
    → AreInstrsInRange (inside_if names) y.0.items → IsInstrInRange names (instr.If a x y)
if-in_range names a x y slot nest h k = (slot, nest, list-code (inside_if names) x h, list-code (inside_if names) y k)

pub block-in_range : (names : Names) (x : Code) → names.nest < flat_nest_limit → AreInstrsInRange (inside_block names) x.0.items
    → IsInstrInRange names (instr.Block x)
block-in_range names x nest h = (nest, list-code (inside_block names) x h)

pub loop-in_range : (names : Names) (x : Code) → names.nest < flat_nest_limit → AreInstrsInRange (inside_block names) x.0.items
    → IsInstrInRange names (instr.Loop x)
loop-in_range names x nest h = (nest, list-code (inside_block names) x h)

-- what was read of a line, as an instruction's

pub straight-spelled : (i : Instr) (left fields name after rest : List ℕ) → left ≡ fields ++ (10 ∷ rest) → fields ≡ name ++ after
    → name ++ (after ++ (10 ∷ [])) ≡ flat_map line_text (lines_of i) → left ≡ flat_map line_text (lines_of i) ++ rest
straight-spelled i left fields name after rest e f g =
    let shape : left ≡ (name ++ (after ++ (10 ∷ []))) ++ rest = rw (e, f) (simp append_assoc) in
    shape ∙ ap (λ t. t ++ rest) g

pub branch-spelled : (i : Instr) (left fields name after held rest : List ℕ) → left ≡ fields ++ (10 ∷ held) → fields ≡ name ++ after → name ≡ codes "if"
    → codes "if" ++ (after ++ (10 ∷ held)) ≡ flat_map line_text (lines_of i) ++ rest → left ≡ flat_map line_text (lines_of i) ++ rest
branch-spelled i left fields name after held rest e f n g =
    e ∙ ap (λ l. l ++ (10 ∷ held)) (f ∙ ap (λ m. m ++ after) n) ∙ append_assoc (codes "if") after (10 ∷ held) ∙ g
