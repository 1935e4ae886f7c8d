-- The numbers and bytes of a program that can be spelled: 64 bits each, and 8.
use Rattle.std.specs.Prelude.{◌<◌, ◌^◌, List}
use Rattle.std.specs.List.{AllByRecursion}
use Rattle.cured_code.specs.declared.parts.Parts.{Parts}
use Rattle.cured_spelling.specs.Lines.{Field, Number, Form, Name, Tag, Hex, Line}
use Rattle.cured_spelling.specs.Spelling.{program_lines}

-- a number of a program fits 64 bits, and a byte of it 8
abbrev pub IsFieldInRange : Field → Type 0
IsFieldInRange (Number n) = n < 2 ^ 64
IsFieldInRange (Form form) = Unit {0}
IsFieldInRange (Name check) = Unit {0}
IsFieldInRange (Tag tagged) = Unit {0}
IsFieldInRange (Hex bytes) = AllByRecursion (λ byte. byte < 256) bytes

-- the numbers and bytes of lines are in range
abbrev pub AreLinesInRange : List Line → Type 0
AreLinesInRange = AllByRecursion (λ line. AllByRecursion IsFieldInRange line.fields)

-- the numbers and bytes of a program are in range, as those of its Rust types are
abbrev pub AreNumbersInRange : Parts → Type 0
AreNumbersInRange p = AreLinesInRange (program_lines p)
