-- How code is put together from pieces. A form says which code is meant.
use Rattle.std.specs.Prelude.{◌≡◌, List, [], ◌∷◌, ◌++◌}
use Rattle.cil_form.specs.declared.number.Temp.{Temp}
use Rattle.cil_form.specs.declared.instr.Instr.{Instr}
use Rattle.cil_form.specs.declared.instr.Instr.TheVariants as instr
use Rattle.cil_form.specs.declared.instr.Code.{Code}

abbrev pub Form : Type 1
Form = List Instr → Type 0

-- these instructions
unfoldable pub Line : List Instr → Form
Line is code = code ≡ is

-- code after code
unfoldable pub Then : Form → Form → Form
Then P Q code = (x y : List Instr) × P x × Q y × (code ≡ x ++ y)

-- a choice by a temporary
unfoldable pub Choice : Temp → Form → Form → Form
Choice t P Q code = (a b : Code) × P a.0.items × Q b.0.items × (code ≡ instr.If t a b ∷ [])

-- code in a block, and code in a loop
unfoldable pub Blocked : Form → Form
Blocked P code = (a : Code) × P a.0.items × (code ≡ instr.Block a ∷ [])

unfoldable pub Looped : Form → Form
Looped P code = (a : Code) × P a.0.items × (code ≡ instr.Loop a ∷ [])

-- code where something holds
unfoldable pub When : Type 0 → Form → Form
When A P code = A × P code

-- no code
abbrev pub Never : Form
Never code = ⊥
