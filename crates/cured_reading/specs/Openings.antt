-- The lines that begin and end parts of instructions, and those of other instructions.
use Rattle.std.specs.Prelude.{ℕ, List, ◌≡◌, ◌≢◌, codes}
use Rattle.cured_spelling.specs.Lines.{Line}
use Rattle.cured_spelling.specs.Spelling.{else_line, end_line}
use Rattle.cured_reading.specs.declared.code.Opening.{Opening}
use Rattle.cured_reading.specs.declared.code.Opening.TheVariants as opening
use Rattle.cured_reading.specs.declared.code.Closing.{Closing}
use Rattle.cured_reading.specs.declared.code.Closing.TheVariants as closing
use Rattle.cured_reading.specs.declared.straight.Wording.{Wording}
use Rattle.cured_reading.specs.declared.straight.Wording.TheVariants as wording

-- what a line of this name does
abbrev pub IsOpening : List ℕ → Opening → Type 0
IsOpening name opening.Else = name ≡ codes "else"
IsOpening name opening.End = name ≡ codes "end"
IsOpening name opening.If = name ≡ codes "if"
IsOpening name opening.Block = name ≡ codes "block"
IsOpening name opening.Loop = name ≡ codes "loop"
IsOpening name opening.Straight =
    (name ≢ codes "else") × (name ≢ codes "end") × (name ≢ codes "if") × (name ≢ codes "block") × (name ≢ codes "loop")

abbrev pub closing_line : Closing → Line
closing_line closing.Else = else_line
closing_line closing.End = end_line

-- how the fields of a line of this name are written, if it is that of an instruction that holds no others
abbrev pub IsWording : List ℕ → Wording → Type 0
IsWording name wording.Ext = name ≡ codes "ext"
IsWording name wording.New = name ≡ codes "new"
IsWording name wording.Check = name ≡ codes "check"
IsWording name wording.Numbers = (name ≢ codes "ext") × (name ≢ codes "new") × (name ≢ codes "check")
