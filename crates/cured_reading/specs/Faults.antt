-- What is wrong with a text that spells no program: the first line that fails, and how (docs/cured-text.md has it in words).
use Rattle.std.specs.Prelude.{ℕ, zero, suc, ◌+◌, ◌-◌, ◌<◌, ◌≤◌, ◌≡◌, ◌≢◌, ◌^◌, ◌⊎◌, List, [], ◌∷◌, ◌++◌, length, map, flat_map, codes, slice_get, slice_index, IfSome}
use Rattle.std.specs.List.{AllByRecursion}
use Rattle.cured_code.specs.declared.instr.Instr.{Instr}
use Rattle.cured_code.specs.declared.instr.Instr.TheVariants as instr
use Rattle.cured_code.specs.declared.parts.Sig.{Sig}
use Rattle.cured_code.specs.declared.parts.AreaLine.{AreaLine}
use Rattle.cured_code.specs.declared.parts.GlobalLine.{GlobalLine}
use Rattle.cured_code.specs.Ranges.{Names, IsSigInRange, IsGlobalInRange, IsInstrInRange, IsBare, HasSlot, inside_if, inside_block, sigs_limit, nodes_limit, flat_globals_limit, global_bytes_limit, flat_functions_limit, slots_limit, locals_limit, local_bytes_limit, flat_nest_limit}
use Rattle.cured_spelling.specs.Lines.{Field, Number, Name, Line, line, line_text}
use Rattle.cured_spelling.specs.Spelling.{line_of, else_line, end_line, sig_line, node_line, area_line, local_line}
use Rattle.cured_spelling.specs.InRange.{IsFieldInRange}
use Rattle.cured_reading.specs.declared.sections.Head.{Head}
use Rattle.cured_reading.specs.declared.code.Closing.{Closing}
use Rattle.cured_reading.specs.declared.code.Closing.TheVariants as closing
use Rattle.cured_reading.specs.declared.wrong.CuredLimit.{CuredLimit}
use Rattle.cured_reading.specs.declared.wrong.CuredLimit.TheVariants as limit
use Rattle.cured_reading.specs.declared.wrong.CuredFault.{CuredFault}
use Rattle.cured_reading.specs.declared.wrong.CuredFault.TheVariants as fault
use Rattle.cured_reading.specs.declared.wrong.Form.TheVariants as form
use Rattle.cured_reading.specs.Heads.{head_line}

-- What a line says

pub data Section : Type 0 where
  Sigs : Section
  Nodes : Section
  Globals : Section
  Functions : Section

abbrev pub section_name : Section → List ℕ
section_name Sigs = codes "sigs"
section_name Nodes = codes "nodes"
section_name Globals = codes "globals"
section_name Functions = codes "functions"

pub data Told : Type 0 where
  Version : ℕ → Told
  -- how many lines a section has
  Count : Section → ℕ → Told
  Signature : Sig → Told
  -- the parent of a type node
  Node : ℕ → Told
  Area : GlobalLine → Told
  Fn : Head → Told
  Local : AreaLine → Told
  -- an instruction that holds no others
  Straight : Instr → Told
  -- the first lines of those that do
  If : ℕ → Told
  Block : Told
  Loop : Told
  Else : Told
  End : Told

abbrev pub told_line : Told → Line
told_line (Version n) = line (codes "ccured") (n ∷ [])
told_line (Count section n) = line (section_name section) (n ∷ [])
told_line (Signature sig) = sig_line sig
told_line (Node parent) = node_line parent
told_line (Area global) = area_line global
told_line (Fn head) = head_line head
told_line (Local area) = local_line area
told_line (Straight i) = line_of i
told_line (If a) = line (codes "if") (a ∷ [])
told_line Block = line (codes "block") []
told_line Loop = line (codes "loop") []
told_line Else = else_line
told_line End = end_line

-- the line with its line feed
abbrev pub told_text : Told → List ℕ
told_text told = line_text (told_line told)

-- its numbers are below 2^64, and its bytes are bytes
abbrev pub IsWritable : Told → Type 0
IsWritable told = AllByRecursion IsFieldInRange (told_line told).fields

-- What may stand where

-- instructions that end with `else` or with `end`, and what they may name
pub record Part : Type 0 where
  pub names : Names
  pub closing : Closing

-- which line comes next, by the lines before it
pub data Awaited : Type 0 where
  TheVersion : Awaited
  TheSigs : Awaited
  -- so many more signatures after these, and then `nodes`
  MoreSigs : ℕ → List Sig → Awaited
  -- so many more type nodes, with these signatures after so many nodes, and then `globals`
  MoreNodes : ℕ → List Sig → ℕ → Awaited
  -- so many more globals, which have so many bytes at most, and then `functions`
  MoreGlobals : ℕ → ℕ → List Sig → ℕ → Awaited
  -- so many more functions after these, and then the bodies
  MoreFunctions : ℕ → List Sig → ℕ → List Head → Awaited
  -- so many more areas of a frame, and then instructions of this part, which stands in those; then the bodies of these
  InBody : ℕ → Part → List Part → List Names → Awaited
  -- the text ends
  Nothing : Awaited

-- what the body of a function may name
abbrev pub names_of : List Sig → ℕ → List Head → Head → Names
names_of sigs nodes heads head = record {
  sigs = sigs;
  functions = map (λ h. h.sig) heads;
  nodes = nodes;
  slots = head.slots;
  areas = head.areas;
  results = slice_index (map (λ sig. sig.results) sigs) head.sig;
  blocks = 0;
  nest = 0;
}

-- the bodies of these come
abbrev pub bodies : List Names → Awaited
bodies [] = Nothing
bodies (names ∷ rest) = InBody names.areas (record { names = names; closing = closing.End }) [] rest

-- so many functions more after these
abbrev pub functions_left : ℕ → List Sig → ℕ → List Head → Awaited
functions_left zero sigs nodes heads = bodies (map (names_of sigs nodes heads) heads)
functions_left (suc k) sigs nodes heads = MoreFunctions (suc k) sigs nodes heads

-- an instruction that holds no others
abbrev pub IsStraight : Instr → Type 0
IsStraight (instr.If' a s x t y) = ⊥
IsStraight (instr.Block' s x) = ⊥
IsStraight (instr.Loop' s x) = ⊥
IsStraight i = Unit {0}

-- a line of this form may stand there
abbrev pub MayStand : Awaited → Told → Type 0
MayStand TheVersion (Version n) = Unit {0}
MayStand TheSigs (Count Sigs n) = Unit {0}
MayStand (MoreSigs k sigs) (Signature sig) = 0 < k
MayStand (MoreSigs k sigs) (Count Nodes n) = k ≡ 0
MayStand (MoreNodes k sigs before) (Node parent) = 0 < k
MayStand (MoreNodes k sigs before) (Count Globals n) = k ≡ 0
MayStand (MoreGlobals k left sigs nodes) (Area global) = 0 < k
MayStand (MoreGlobals k left sigs nodes) (Count Functions n) = k ≡ 0
MayStand (MoreFunctions k sigs nodes heads) (Fn head) = 0 < k
MayStand (InBody k part parts rest) (Local area) = 0 < k
MayStand (InBody k part parts rest) (Straight i) = (k ≡ 0) × IsStraight i
MayStand (InBody k part parts rest) (If a) = k ≡ 0
MayStand (InBody k part parts rest) Block = k ≡ 0
MayStand (InBody k part parts rest) Loop = k ≡ 0
MayStand (InBody k part parts rest) Else = (k ≡ 0) × (part.closing ≡ closing.Else)
MayStand (InBody k part parts rest) End = (k ≡ 0) × (part.closing ≡ closing.End)
MayStand awaited told = ⊥

-- after the end of a part: the part that it stands in, or the next body
abbrev pub after_part : List Part → List Names → Awaited
after_part [] rest = bodies rest
after_part (part ∷ parts) rest = InBody 0 part parts rest

-- which line comes after it
abbrev pub next : Awaited → Told → Awaited
next TheVersion (Version n) = TheSigs
next TheSigs (Count section n) = MoreSigs n []
next (MoreSigs k sigs) (Signature sig) = MoreSigs (k - 1) (sigs ++ (sig ∷ []))
next (MoreSigs k sigs) (Count section n) = MoreNodes n sigs 0
next (MoreNodes k sigs before) (Node parent) = MoreNodes (k - 1) sigs (before + 1)
next (MoreNodes k sigs before) (Count section n) = MoreGlobals n global_bytes_limit sigs before
next (MoreGlobals k left sigs nodes) (Area global) = MoreGlobals (k - 1) (left - global.area.bytes) sigs nodes
next (MoreGlobals k left sigs nodes) (Count section n) = functions_left n sigs nodes []
next (MoreFunctions k sigs nodes heads) (Fn head) = functions_left (k - 1) sigs nodes (heads ++ (head ∷ []))
next (InBody k part parts rest) (Local area) = InBody (k - 1) part parts rest
next (InBody k part parts rest) (Straight i) = InBody k part parts rest
next (InBody k part parts rest) (If a) = InBody k (record { names = inside_if part.names; closing = closing.Else }) (part ∷ parts) rest
next (InBody k part parts rest) Block = InBody k (record { names = inside_block part.names; closing = closing.End }) (part ∷ parts) rest
next (InBody k part parts rest) Loop = InBody k (record { names = inside_block part.names; closing = closing.End }) (part ∷ parts) rest
next (InBody k part parts rest) Else = InBody k (record { names = part.names; closing = closing.End }) parts rest
next (InBody k part parts rest) End = after_part parts rest
next awaited told = Nothing

-- What is wrong with a line

-- a version that isn't known
abbrev pub IsOtherVersion : Told → Type 0
IsOtherVersion (Version n) = n ≢ 1
IsOtherVersion told = ⊥

abbrev pub section_limit : Section → CuredLimit
section_limit Sigs = limit.Sigs
section_limit Nodes = limit.Nodes
section_limit Globals = limit.Globals
section_limit Functions = limit.Functions

abbrev pub most_lines : Section → ℕ
most_lines Sigs = sigs_limit
most_lines Nodes = nodes_limit
most_lines Globals = flat_globals_limit
most_lines Functions = flat_functions_limit

-- the line passes this limit; of two limits of one line the first that is passed
abbrev pub Passes : Awaited → Told → CuredLimit → Type 0
Passes awaited (Count section n) l = (l ≡ section_limit section) × (most_lines section < n)
Passes (MoreGlobals k left sigs nodes) (Area global) l = (l ≡ limit.Bytes) × (left < global.area.bytes)
Passes awaited (Fn head) l = ((l ≡ limit.Slots) × (slots_limit < head.slots))
    ⊎ ((l ≡ limit.Locals) × (head.slots ≤ slots_limit) × (locals_limit < head.areas))
Passes awaited (Local area) l = (l ≡ limit.LocalBytes) × (local_bytes_limit < area.bytes)
Passes (InBody k part parts rest) (If a) l = (l ≡ limit.Nest) × (flat_nest_limit ≤ part.names.nest)
Passes (InBody k part parts rest) Block l = (l ≡ limit.Nest) × (flat_nest_limit ≤ part.names.nest)
Passes (InBody k part parts rest) Loop l = (l ≡ limit.Nest) × (flat_nest_limit ≤ part.names.nest)
Passes awaited told l = ⊥

abbrev pub PassesNone : Awaited → Told → Type 0
PassesNone awaited told = (l : CuredLimit) → Passes awaited told l → ⊥

-- its signature is there, its slots hold the parameters, and the first function takes and gives nothing
pub record HasSignature (sigs : List Sig) (before : ℕ) (head : Head) : Type 0 where
  pub there : head.sig < length sigs
  pub params_held : IfSome (slice_get sigs head.sig) (λ sig. sig.params ≤ head.slots)
  pub first_bare : before ≡ 0 → IfSome (slice_get sigs head.sig) IsBare

-- the line and the column of a check are below 2^32
abbrev pub IsPlaceKept : List Field → Type 0
IsPlaceKept (Name check ∷ Number row ∷ Number col ∷ fields) = (row < 2 ^ 32) × (col < 2 ^ 32)
IsPlaceKept fields = Unit {0}

-- each number of the line is in its range
abbrev pub IsKept : Awaited → Told → Type 0
IsKept awaited (Count Functions n) = 0 < n
IsKept awaited (Signature sig) = IsSigInRange sig
IsKept (MoreNodes k sigs before) (Node parent) = parent ≤ before
IsKept awaited (Area global) = IsGlobalInRange global
IsKept (MoreFunctions k sigs nodes heads) (Fn head) = HasSignature sigs (length heads) head
IsKept (InBody k part parts rest) (Straight i) = IsInstrInRange part.names i × IsPlaceKept (line_of i).fields
IsKept (InBody k part parts rest) (If a) = HasSlot part.names a
IsKept awaited told = Unit {0}

-- The first line that fails

-- a line that is right where it stands
pub record IsRight (awaited : Awaited) (told : Told) : Type 0 where
  pub stands : MayStand awaited told
  pub writable : IsWritable told
  pub known : IsOtherVersion told → ⊥
  pub limits : PassesNone awaited told
  pub range : IsKept awaited told

-- lines in turn, and what comes after them
abbrev pub AreRight : Awaited → List Told → Awaited → Type 0
AreRight awaited [] after = awaited ≡ after
AreRight awaited (told ∷ lines) after = IsRight awaited told × AreRight (next awaited told) lines after

-- the text begins with a line that says this, in a form that may stand there
pub record Begins (awaited : Awaited) (text : List ℕ) (told : Told) : Type 0 where
  pub stands : MayStand awaited told
  pub writable : IsWritable told
  pub rest : List ℕ
  pub cut : text ≡ told_text told ++ rest

-- the text ends where it should
abbrev pub IsDone : Awaited → List ℕ → Type 0
IsDone Nothing text = text ≡ []
IsDone awaited text = ⊥

-- The text doesn't begin with a line as it should, which would be its line `number`. Where it ends early, or goes on after
-- its end, that is a wrong form too.
abbrev pub IsWrong : Awaited → List ℕ → ℕ → CuredFault → Type 0
IsWrong awaited text number (fault.Form line form.Version) = (line ≡ number) × ((told : Told) × Begins awaited text told × IsOtherVersion told)
IsWrong awaited text number (fault.Form line form.Syntax) = (line ≡ number) × (IsDone awaited text → ⊥) × ((told : Told) → Begins awaited text told → ⊥)
IsWrong awaited text number (fault.TooLarge line l) = (line ≡ number) × ((told : Told) × Begins awaited text told × Passes awaited told l)
IsWrong awaited text number (fault.Form line form.Range) = (line ≡ number)
    × ((told : Told) × Begins awaited text told × (IsOtherVersion told → ⊥) × PassesNone awaited told × (IsKept awaited told → ⊥))
IsWrong awaited text number fault.NoMemory = ⊥

-- the text has this fault: lines that are right in turn, and then one that is wrong
pub record IsUncured (text : List ℕ) (why : CuredFault) : Type 0 where
  pub lines : List Told
  pub awaited : Awaited
  pub rest : List ℕ
  pub cut : text ≡ flat_map told_text lines ++ rest
  pub right : AreRight TheVersion lines awaited
  pub wrong : IsWrong awaited rest (length lines + 1) why

-- the places of a program's checks fit 32 bits, as those of its Rust types do
abbrev pub ArePlacesKept : List Line → Type 0
ArePlacesKept = AllByRecursion (λ line. IsPlaceKept line.fields)
