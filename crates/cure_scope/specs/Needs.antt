-- The lines that set the numbers of checks.
use Rattle.std.specs.Prelude.{◌≡◌, List, [], ◌∷◌}
use Rattle.cc_base.specs.declared.kind.Kind.{Kind}
use Rattle.cc_base.specs.declared.place.Place.{Place}
use Rattle.cured_code.specs.declared.instr.Instr.{Instr}
use Rattle.cured_code.specs.declared.instr.Instr.TheVariants as instr
use Rattle.check_forms.specs.Pieces.{Piece, Line, Then}
use Rattle.check_forms.specs.declared.op.Op.{Op}
use Rattle.check_forms.specs.Rows.{flat_conditions}
use Rattle.check_forms.specs.RowChecks.{AreChecks}
use Rattle.cure_rules.specs.Checks.{Need, numbers_of}
use Rattle.cure_scope.specs.Scopes.{fixed_work, seat}

abbrev pub sets : List Need → List Instr
sets [] = []
sets (x ∷ xs) = instr.Const x.number.slot x.number.value ∷ sets xs

-- each number is set in its slot
unfoldable pub Needs : List Need → Piece
Needs xs code = code ≡ sets xs

-- what an operation asks, behind the lines that set its numbers
unfoldable pub Guards : Op → Kind → Place → Piece
Guards op kind at = Then (Needs (numbers_of op kind)) (AreChecks fixed_work (flat_conditions op kind at))

-- each number stands in the working slot of its role
abbrev pub AreSeated : List Need → Type 0
AreSeated [] = Unit {0}
AreSeated (x ∷ xs) = (x.number.slot ≡ seat x.role) × AreSeated xs
