-- How cured code is put together from pieces. A piece says which instructions are meant.
use Rattle.std.specs.Prelude.{◌≡◌, ◌⊎◌, ℕ, List, [], ◌∷◌, ◌++◌}
use Rattle.cured_code.specs.declared.instr.Instr.{Instr}
use Rattle.cured_code.specs.declared.instr.Instr.TheVariants as instr
use Rattle.cured_code.specs.declared.instr.Code.{Code}

abbrev pub Piece : Type 1
Piece = List Instr → Type 0

-- these instructions
unfoldable pub Line : List Instr → Piece
Line is code = code ≡ is

-- code after code
unfoldable pub Then : Piece → Piece → Piece
Then P Q code = (x y : List Instr) × P x × Q y × (code ≡ x ++ y)

-- code where something holds
unfoldable pub When : Type 0 → Piece → Piece
When A P code = A × P code

-- code for some value
unfoldable pub For : (A : Type 0) → (A → Piece) → Piece
For A P code = (a : A) × P a code

-- one code or another
unfoldable pub Either : Piece → Piece → Piece
Either P Q code = P code ⊎ Q code

-- a choice by a slot
unfoldable pub Choice : ℕ → Piece → Piece → Piece
Choice a P Q code = (x y : Code) × P x.0.items × Q y.0.items × (code ≡ instr.If a x y ∷ [])

-- code in a block, and code in a loop
unfoldable pub Blocked : Piece → Piece
Blocked P code = (x : Code) × P x.0.items × (code ≡ instr.Block x ∷ [])

unfoldable pub Looped : Piece → Piece
Looped P code = (x : Code) × P x.0.items × (code ≡ instr.Loop x ∷ [])

-- no code
abbrev pub Never : Piece
Never code = ⊥
