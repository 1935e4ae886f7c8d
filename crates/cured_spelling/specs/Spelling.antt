-- The one spelling of a cured program, by its lines (docs/cured-text.md has the format in words).
use Rattle.std.specs.Prelude.{ℕ, List, [], ◌∷◌, ◌++◌, length, map, flat_map, codes}
use Rattle.cured_code.specs.declared.instr.Instr.{Instr, Row_of-Instr, end_of-Instr, more_of-Instr}
use Rattle.cured_code.specs.declared.instr.Instr.TheVariants as instr
use Rattle.cured_code.specs.declared.parts.Sig.{Sig}
use Rattle.cured_code.specs.declared.parts.AreaLine.{AreaLine}
use Rattle.cured_code.specs.declared.parts.GlobalLine.{GlobalLine}
use Rattle.cured_code.specs.declared.parts.Function.{Function}
use Rattle.cured_code.specs.declared.parts.Parts.{Parts}
use Rattle.cured_spelling.specs.Lines.{Number, Form, Name, Tag, Hex, Line, line, line_text}

-- the line of an instruction; of one that holds others, its first
abbrev pub line_of : Instr → Line
line_of (instr.Const v n) = line (codes "const") (v ∷ n ∷ [])
line_of (instr.Copy v a) = line (codes "copy") (v ∷ a ∷ [])
line_of (instr.Ext v a form) = record { name = codes "ext"; fields = Number v ∷ Number a ∷ Form form ∷ [] }
line_of (instr.Add v a b) = line (codes "add") (v ∷ a ∷ b ∷ [])
line_of (instr.Sub v a b) = line (codes "sub") (v ∷ a ∷ b ∷ [])
line_of (instr.Mul v a b) = line (codes "mul") (v ∷ a ∷ b ∷ [])
line_of (instr.And v a b) = line (codes "and") (v ∷ a ∷ b ∷ [])
line_of (instr.Or v a b) = line (codes "or") (v ∷ a ∷ b ∷ [])
line_of (instr.Xor v a b) = line (codes "xor") (v ∷ a ∷ b ∷ [])
line_of (instr.Shl v a b) = line (codes "shl") (v ∷ a ∷ b ∷ [])
line_of (instr.Shr v a b) = line (codes "shr") (v ∷ a ∷ b ∷ [])
line_of (instr.Sar v a b) = line (codes "sar") (v ∷ a ∷ b ∷ [])
line_of (instr.Divu v a b) = line (codes "divu") (v ∷ a ∷ b ∷ [])
line_of (instr.Divs v a b) = line (codes "divs") (v ∷ a ∷ b ∷ [])
line_of (instr.Remu v a b) = line (codes "remu") (v ∷ a ∷ b ∷ [])
line_of (instr.Rems v a b) = line (codes "rems") (v ∷ a ∷ b ∷ [])
line_of (instr.Eq v a b) = line (codes "eq") (v ∷ a ∷ b ∷ [])
line_of (instr.Ne v a b) = line (codes "ne") (v ∷ a ∷ b ∷ [])
line_of (instr.Ltu v a b) = line (codes "ltu") (v ∷ a ∷ b ∷ [])
line_of (instr.Lts v a b) = line (codes "lts") (v ∷ a ∷ b ∷ [])
line_of (instr.Ld n v a) = line (codes "ld") (n ∷ v ∷ a ∷ [])
line_of (instr.St n a v) = line (codes "st") (n ∷ a ∷ v ∷ [])
line_of (instr.Ldw k v a) = line (codes "ldw") (k ∷ v ∷ a ∷ [])
line_of (instr.Stw k a v) = line (codes "stw") (k ∷ a ∷ v ∷ [])
line_of (instr.Move a b n) = line (codes "move") (a ∷ b ∷ n ∷ [])
line_of (instr.Zero a n) = line (codes "zero") (a ∷ n ∷ [])
line_of (instr.Len v b) = line (codes "len") (v ∷ b ∷ [])
line_of (instr.Plain v a b n) = line (codes "plain") (v ∷ a ∷ b ∷ n ∷ [])
line_of (instr.Untag a b n) = line (codes "untag") (a ∷ b ∷ n ∷ [])
line_of (instr.Tagged v a b) = line (codes "tagged") (v ∷ a ∷ b ∷ [])
line_of (instr.Base v a b) = line (codes "base") (v ∷ a ∷ b ∷ [])
line_of (instr.Mark a b u) = line (codes "mark") (a ∷ b ∷ u ∷ [])
line_of (instr.Tmove a b d e n) = line (codes "tmove") (a ∷ b ∷ d ∷ e ∷ n ∷ [])
line_of (instr.Tzero a b n) = line (codes "tzero") (a ∷ b ∷ n ∷ [])
line_of (instr.Tdepth v a b n) = line (codes "tdepth") (v ∷ a ∷ b ∷ n ∷ [])
line_of (instr.Frame v k) = line (codes "frame") (v ∷ k ∷ [])
line_of (instr.Depth v a) = line (codes "depth") (v ∷ a ∷ [])
line_of (instr.Below v a n) = line (codes "below") (v ∷ a ∷ n ∷ [])
line_of (instr.Sigof v a) = line (codes "sigof") (v ∷ a ∷ [])
line_of (instr.Room v a) = line (codes "room") (v ∷ a ∷ [])
line_of (instr.New tagged v n s) = record { name = codes "new"; fields = Tag tagged ∷ Number v ∷ Number n ∷ Number s ∷ [] }
line_of (instr.Call f a v) = line (codes "call") (f ∷ a ∷ v ∷ [])
line_of (instr.Icall g u a v) = line (codes "icall") (g ∷ u ∷ a ∷ v ∷ [])
line_of (instr.Get v) = line (codes "get") (v ∷ [])
line_of (instr.Put a) = line (codes "put") (a ∷ [])
line_of (instr.Exit a) = line (codes "exit") (a ∷ [])
line_of (instr.Check check place a) = record { name = codes "check"; fields = Name check ∷ Number place.line ∷ Number place.col ∷ Number a ∷ [] }
line_of (instr.If' a s x t y) = line (codes "if") (a ∷ [])
line_of (instr.Block' s x) = line (codes "block") []
line_of (instr.Loop' s x) = line (codes "loop") []
line_of (instr.Break k) = line (codes "break") (k ∷ [])
line_of (instr.Return a) = line (codes "return") (a ∷ [])

abbrev pub else_line : Line
else_line = line (codes "else") []

abbrev pub end_line : Line
end_line = line (codes "end") []

-- the lines of an instruction, with those that it holds
abbrev mutual
  pub lines_of : Instr → List Line
  lines_of (instr.If' a s x t y) = line_of (instr.If' a s x t y) ∷ (lines_of_row x ++ (else_line ∷ (lines_of_row y ++ (end_line ∷ []))))
  lines_of (instr.Block' s x) = line_of (instr.Block' s x) ∷ (lines_of_row x ++ (end_line ∷ []))
  lines_of (instr.Loop' s x) = line_of (instr.Loop' s x) ∷ (lines_of_row x ++ (end_line ∷ []))
  lines_of i = line_of i ∷ []

  -- the lines of the instructions that an instruction holds
  pub lines_of_row : {m : _} → Row_of-Instr m → List Line
  lines_of_row end_of-Instr = []
  lines_of_row (more_of-Instr i rest) = lines_of i ++ lines_of_row rest

-- the lines of instructions in order
abbrev pub code_lines : List Instr → List Line
code_lines = flat_map lines_of

abbrev pub sig_line : Sig → Line
sig_line sig = line (codes "sig") (sig.params ∷ sig.results ∷ [])

abbrev pub node_line : ℕ → Line
node_line parent = line (codes "node") (parent ∷ [])

abbrev pub area_line : GlobalLine → Line
area_line global = record { name = codes "area"; fields = Tag global.area.tagged ∷ Number global.area.bytes ∷ Hex global.first ∷ [] }

-- signature, slots, charge and the number of areas
abbrev pub function_line : Function → Line
function_line f = line (codes "fn") (f.sig ∷ f.slots ∷ f.charge ∷ length f.locals ∷ [])

abbrev pub local_line : AreaLine → Line
local_line area = record { name = codes "local"; fields = Tag area.tagged ∷ Number area.bytes ∷ [] }

-- the areas of a function's frame, its instructions, and its end
abbrev pub body_lines : Function → List Line
body_lines f = map local_line f.locals ++ (code_lines f.body.0.items ++ (end_line ∷ []))

-- a count, and a line for each
abbrev pub counted : {A : Type 0} → List ℕ → (A → Line) → List A → List Line
counted name of each = line name (length each ∷ []) ∷ map of each

abbrev pub parts_lines : List Sig → List ℕ → List GlobalLine → List Function → List Line
parts_lines sigs nodes globals functions =
    line (codes "ccured") (1 ∷ [])
    ∷ (counted (codes "sigs") sig_line sigs
    ++ (counted (codes "nodes") node_line nodes
    ++ (counted (codes "globals") area_line globals
    ++ (counted (codes "functions") function_line functions ++ flat_map body_lines functions))))

abbrev pub program_lines : Parts → List Line
program_lines parts = parts_lines parts.sigs parts.nodes parts.globals parts.functions

-- the text of a program
abbrev pub cured_spelling : Parts → List ℕ
cured_spelling parts = flat_map line_text (program_lines parts)
