-- What the functions of the reader say of a text that they refuse, on the way to the fault that it has (Faults.antt).
use Rattle.std.specs.Prelude.{ℕ, Bool, true, false, ◌+◌, ◌<◌, ◌≤◌, ◌≡◌, ◌≢◌, ◌^◌, List, [], ◌∷◌, ◌++◌, length, flat_map}
use Rattle.std.specs.List.{AllByRecursion}
use Rattle.cured_code.specs.declared.instr.Instr.{Instr}
use Rattle.cured_code.specs.declared.parts.Sig.{Sig}
use Rattle.cured_code.specs.declared.parts.AreaLine.{AreaLine}
use Rattle.cured_code.specs.declared.parts.Function.{Function}
use Rattle.cured_code.specs.Ranges.{Names, IsInstrInRange, slots_limit, locals_limit, flat_functions_limit, flat_nest_limit}
use Rattle.cured_spelling.specs.Lines.{Field, Number, Tag, Line, line, fields_text, line_text}
use Rattle.cured_spelling.specs.Spelling.{line_of}
use Rattle.cured_spelling.specs.InRange.{IsFieldInRange}
use Rattle.cured_reading.specs.declared.code.Closing.{Closing}
use Rattle.cured_reading.specs.declared.code.Closing.TheVariants as closing
use Rattle.cured_reading.specs.declared.sections.Head.{Head}
use Rattle.cured_reading.specs.declared.wrong.CuredLimit.{CuredLimit}
use Rattle.cured_reading.specs.declared.wrong.CuredFault.{CuredFault}
use Rattle.cured_reading.specs.declared.wrong.CuredFault.TheVariants as fault
use Rattle.cured_reading.specs.declared.wrong.Form.TheVariants as form
use Rattle.cured_reading.specs.declared.wrong.Wrong.{Wrong}
use Rattle.cured_reading.specs.declared.wrong.Wrong.TheVariants as wrong
use Rattle.cured_reading.specs.Parts.{Left, IsWithout, IsWordBefore}
use Rattle.cured_reading.specs.Faults.{Told, Block, Loop, Else, End, Part, Awaited, InBody, told_text, IsStraight, IsPlaceKept, HasSignature, AreRight, IsWrong}

-- as a fault of the text, where so many lines were read
abbrev pub fault_at : Wrong → ℕ → CuredFault
fault_at wrong.Next n = fault.Form (n + 1) form.Syntax
fault_at (wrong.Form f) n = fault.Form n f
fault_at (wrong.TooLarge name) n = fault.TooLarge n name
fault_at wrong.NoMemory n = fault.NoMemory

-- Fields and lines

abbrev pub AreFieldsInRange : List Field → Type 0
AreFieldsInRange fields = AllByRecursion IsFieldInRange fields

-- the bytes begin with no such fields
abbrev pub LacksFields : {A : Type 0} → (A → List Field) → List ℕ → Type 0
LacksFields {A} of bytes = (a : A) (more : List Field) → AllByRecursion IsFieldInRange (of a) → bytes ≡ fields_text (of a ++ more) → ⊥

abbrev pub any_field : Field → List Field
any_field f = f ∷ []

abbrev pub one_number : ℕ → List Field
one_number n = Number n ∷ []

abbrev pub two_numbers : ℕ × ℕ → List Field
two_numbers p = Number p.0 ∷ Number p.1 ∷ []

abbrev pub three_numbers : ℕ × ℕ × ℕ → List Field
three_numbers t = Number t.0 ∷ Number t.1 ∷ Number t.2 ∷ []

-- the area of a global or of a frame
abbrev pub area_fields : AreaLine → List Field
area_fields area = Tag area.tagged ∷ Number area.bytes ∷ []

-- whatever fields come after it, the line doesn't begin with this name
abbrev pub LacksName : List ℕ → List ℕ → Type 0
LacksName name bytes = (fields : List Field) → bytes ≡ name ++ fields_text fields → ⊥

-- the text begins with no such line
abbrev pub LacksLine : {A : Type 0} → (A → Line) → List ℕ → Type 0
LacksLine {A} of text = (a : A) (rest : List ℕ) → AllByRecursion IsFieldInRange (of a).fields → text ≡ line_text (of a) ++ rest → ⊥

-- the next line is none of these, and so has a wrong form
pub record IsMisread {A : Type 0} (of : A → Line) (before : Left) (why : Wrong) (number : ℕ) : Type 0 where
  pub place : fault_at why number ≡ fault.Form (before.number + 1) form.Syntax
  pub none : LacksLine of before.text

-- the instruction holds no others, and its line has this name and these fields
pub record IsLineOf (i : Instr) (name fields : List ℕ) : Type 0 where
  pub straight : IsStraight i
  pub writable : AllByRecursion IsFieldInRange (line_of i).fields
  pub named : (line_of i).name ≡ name
  pub spelled : fields ≡ fields_text (line_of i).fields

-- what is wrong with a line of this name and these fields as that of an instruction that names these and holds no others
abbrev pub IsBadLine : Names → List ℕ → List ℕ → Wrong → Type 0
IsBadLine names name fields (wrong.Form form.Syntax) = (i : Instr) → IsLineOf i name fields → ⊥
IsBadLine names name fields (wrong.Form form.Range) =
    (i : Instr) × IsLineOf i name fields × (IsInstrInRange names i × IsPlaceKept (line_of i).fields → ⊥)
IsBadLine names name fields why = ⊥

-- there are fewer things to name than 2^32
pub record IsFew (names : Names) : Type 0 where
  pub sigs : length names.sigs ≤ 2 ^ 32
  pub functions : length names.functions ≤ 2 ^ 32
  pub nodes : names.nodes < 2 ^ 32
  pub slots : names.slots < 2 ^ 32
  pub areas : names.areas ≤ 2 ^ 32
  pub blocks : names.blocks ≤ names.nest
  pub nest : names.nest ≤ flat_nest_limit

-- a line whose name was read, and its fields not yet
pub record IsBegun (name fields : List ℕ) (before after : Left) : Type 0 where
  pub cut : before.text ≡ (name ++ fields) ++ (10 ∷ after.text)
  pub whole : IsWithout 10 (name ++ fields)
  pub counted : after.number ≡ before.number + 1
  pub word : IsWordBefore name fields

-- instructions of a part come, which ends so and stands in these
abbrev pub in_part : Names → Closing → List Part → List Names → Awaited
in_part names closing parts rest = InBody 0 (record { names = names; closing = closing }) parts rest

-- the first line of a block, or of a loop
abbrev pub told_held : Bool → Told
told_held true = Loop
told_held false = Block

-- what the line says that ends a part
abbrev pub told_closing : Closing → Told
told_closing closing.Else = Else
told_closing closing.End = End

-- Parts of a text

-- the lines from one place of the text to another are right, and then this is awaited
pub record AreRead (awaited : Awaited) (before : Left) (after : Awaited) (left : Left) : Type 0 where
  pub lines : List Told
  pub cut : before.text ≡ flat_map told_text lines ++ left.text
  pub counted : left.number ≡ before.number + length lines
  pub right : AreRight awaited lines after

-- from this place on the text has this fault: lines that are right in turn, and then one that is wrong
pub record Fails (awaited : Awaited) (before : Left) (why : CuredFault) : Type 0 where
  pub lines : List Told
  pub reached : Awaited
  pub rest : List ℕ
  pub cut : before.text ≡ flat_map told_text lines ++ rest
  pub right : AreRight awaited lines reached
  pub wrong : IsWrong reached rest (before.number + length lines + 1) why

-- the same, unless memory was wanted, of what was found wrong after so many lines of the text
abbrev pub IsRefused : Awaited → Left → Wrong → ℕ → Type 0
IsRefused awaited before why number = why ≢ wrong.NoMemory → Fails awaited before (fault_at why number)

-- Names that lines begin with, and lines with numbers alone

-- a byte or more, none of which ends a word or a line
pub record IsName (name : List ℕ) : Type 0 where
  pub some : 0 < length name
  pub bytes : AllByRecursion (λ byte. 32 < byte) name

abbrev pub line_of_one : List ℕ → ℕ → Line
line_of_one name n = line name (n ∷ [])

abbrev pub line_of_two : List ℕ → ℕ × ℕ → Line
line_of_two name p = line name (p.0 ∷ p.1 ∷ [])

-- the line of a count has a wrong form, or the count passes the limit
abbrev pub IsMiscounted : List ℕ → ℕ → CuredLimit → Left → Wrong → ℕ → Type 0
IsMiscounted name most limit before (wrong.TooLarge l) number =
    (l ≡ limit) × (number ≡ before.number + 1)
    × ((n : ℕ) × (rest : List ℕ) × (most < n) × (n < 2 ^ 64) × (before.text ≡ line_text (line_of_one name n) ++ rest))
IsMiscounted name most limit before why number = IsMisread (line_of_one name) before why number

-- What sections keep

-- the line of a function, after so many others, keeps its limits and its range
pub record IsHeadKept (sigs : List Sig) (before : ℕ) (head : Head) : Type 0 where
  pub signature : HasSignature sigs before head
  pub slots : head.slots ≤ slots_limit
  pub areas : head.areas ≤ locals_limit

-- those of functions in order, after so many others
abbrev pub AreHeadsInOrder : List Sig → ℕ → List Head → Type 0
AreHeadsInOrder sigs before [] = Unit {0}
AreHeadsInOrder sigs before (head ∷ heads) = IsHeadKept sigs before head × AreHeadsInOrder sigs (before + 1) heads

-- those of all functions, of which there is one
pub record AreHeadsKept (sigs : List Sig) (heads : List Head) : Type 0 where
  pub some : 0 < length heads
  pub count : length heads ≤ flat_functions_limit
  pub each : AreHeadsInOrder sigs 0 heads

-- the function has what its line gave
pub record IsHeadOf (f : Function) (head : Head) : Type 0 where
  pub sig : f.sig ≡ head.sig
  pub slots : f.slots ≡ head.slots
  pub areas : length f.locals ≡ head.areas
