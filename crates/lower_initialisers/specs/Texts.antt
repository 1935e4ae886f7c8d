-- A byte of a string literal that initialises an array (C99 6.7.8p14).
use Rattle.std.specs.Prelude.{ℕ, pos, [], ◌∷◌}
use Rattle.cc_base.specs.declared.number.TypeId.{TypeId}
use Rattle.cc_base.specs.declared.place.Place.{Place}
use Rattle.cil_form.specs.declared.instr.Access.TheVariants as access
use Rattle.cil_form.specs.declared.instr.Instr.TheVariants as instr
use Rattle.lower_rules.specs.Pieces.{Form, Line, Then}
use Rattle.lower_rules.specs.Words.{Context, value, Constant}
use Rattle.lower_rules.specs.Initialisers.{Initialised, part}

-- this byte is stored at this offset
abbrev pub Byte : Context → Initialised → TypeId → Place → ℕ → ℕ → Form
Byte k o char at base b = Then (Constant k 0 char (pos b)) (Line (instr.Access (access.Store (part o base) (value 0) char at at) ∷ []))
