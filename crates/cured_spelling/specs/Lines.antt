-- A line of cured text: a name, and fields with one space before each.
use Rattle.std.specs.Prelude.{ℕ, Bool, true, false, List, [], ◌∷◌, ◌++◌, map, flat_map, codes, ◌/◌, ◌%◌, slice_index}
use Rattle.std.specs.Fmt.{decimal}
use Rattle.cc_base.specs.declared.fault.Check.{Check}
use Rattle.cc_base.specs.Names.{check_name}
use Rattle.cured_code.specs.declared.instr.Narrow.{Narrow}
use Rattle.cured_code.specs.declared.instr.Narrow.TheVariants.{S8, S16, S32, U8, U16, U32}

pub data Field : Type 0 where
  -- a number, in decimal digits without leading zeros
  Number : ℕ → Field
  -- the part that `ext` keeps
  Form : Narrow → Field
  -- a check's name
  Name : Check → Field
  -- whether an area is tagged: `W` or `T`
  Tag : Bool → Field
  -- bytes, two lower-case hexadecimal digits each, or `-` for none
  Hex : List ℕ → Field

pub record Line : Type 0 where
  pub name : List ℕ
  pub fields : List Field

-- the line of a name and numbers
abbrev pub line : List ℕ → List ℕ → Line
line name numbers = record { name = name; fields = map Number numbers }

abbrev pub form_text : Narrow → List ℕ
form_text S8 = codes "s8"
form_text S16 = codes "s16"
form_text S32 = codes "s32"
form_text U8 = codes "u8"
form_text U16 = codes "u16"
form_text U32 = codes "u32"

abbrev pub tag_text : Bool → List ℕ
tag_text true = codes "W"
tag_text false = codes "T"

-- a hexadecimal digit below 16, in lower case
abbrev pub hex_digit : ℕ → ℕ
hex_digit n = slice_index (codes "0123456789abcdef") n

abbrev pub hex_byte : ℕ → List ℕ
hex_byte byte = hex_digit (byte / 16) ∷ hex_digit (byte % 16) ∷ []

abbrev pub hex_text : List ℕ → List ℕ
hex_text [] = codes "-"
hex_text (byte ∷ bytes) = hex_byte byte ++ flat_map hex_byte bytes

abbrev pub field_text : Field → List ℕ
field_text (Number n) = decimal n
field_text (Form form) = form_text form
field_text (Name check) = check_name check
field_text (Tag tagged) = tag_text tagged
field_text (Hex bytes) = hex_text bytes

-- the fields of a line, with a space before each
abbrev pub fields_text : List Field → List ℕ
fields_text fields = flat_map (λ field. 32 ∷ field_text field) fields

-- a line without the line feed that ends it
abbrev pub words_text : Line → List ℕ
words_text line = line.name ++ fields_text line.fields

abbrev pub line_text : Line → List ℕ
line_text line = words_text line ++ (10 ∷ [])
