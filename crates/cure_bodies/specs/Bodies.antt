-- Where code is in shape, its lines are cured code of it.
use Rattle.std.specs.Prelude.{◌≡◌, ◌≢◌, ℕ, List, [], ◌++◌, length, map, slice_get, Some, IsSome}
use Rattle.cil_form.specs.declared.instr.Instr.{Instr}
use Rattle.cil_form.specs.Typing.{Context, Typing, Includes, no_types, IsShaped, AreShaped}
use Rattle.check_forms.specs.Pieces.{Piece}
use Rattle.cured_code.specs.declared.instr.Instr as flat
use Rattle.cure_rules.specs.Known.{World, known_of, nothing_known}
use Rattle.cure_rules.specs.Code.{Blocks, IsCuring, AreCuring, outside}
use Rattle.cure_instrs.specs.Cured.{IsIn}
use Rattle.cure_points.specs.Cured.{AreMembersWhole}
use Rattle.cure_objects.specs.Cured.{ArePartsWhole}
use Rattle.cure_bodies.specs.declared.holding.Holdings.{Holdings}
use Rattle.cure_bodies.specs.Holding.{holds_now, Extends}

-- Code of the world stands in the context, with so many blocks around; what is known behind each of them is kept.
pub record IsInside (w : World) (c : Context) (blocks : List Typing) : Type 0 where
  pub stands : IsIn w c
  pub result : c.result ≡ w.result
  pub numbered : IsSome c.result → w.number ≢ 0
  pub members : AreMembersWhole w.whole.table
  pub parts : ArePartsWhole w.whole.table
  pub count : c.blocks ≡ length blocks
  pub kept : (n : ℕ) (b : Typing) → slice_get blocks n ≡ Some b → Includes c.kept b

-- what is known behind each block around
abbrev pub known_behind : World → List Typing → Blocks
known_behind w blocks = map (λ b. known_of w.slots b) blocks

-- From what is held before an instruction to what is held behind it, its lines.
unfoldable pub InstrCured : Instr → World → Holdings → Holdings → Piece
InstrCured i w before after code = Extends after before
    × ((c : Context) (blocks : List Typing) (types less : Typing) → IsInside w c blocks → Includes (holds_now before) types → IsShaped i c types less
    → Includes (holds_now after) less × IsCuring i w (known_behind w blocks) (known_of w.slots types) (known_of w.slots less) code)

-- the same of instructions in order
unfoldable pub CodeCured : List Instr → World → Holdings → Holdings → Piece
CodeCured is w before after code = Extends after before
    × ((c : Context) (blocks : List Typing) (types less : Typing) → IsInside w c blocks → Includes (holds_now before) types → AreShaped is c types less
    → Includes (holds_now after) less × AreCuring is w (known_behind w blocks) (known_of w.slots types) (known_of w.slots less) code)

-- Whatever lines cure the rest of the code, behind these lines they cure the whole.
unfoldable pub Begun : List Instr → List Instr → World → Holdings → Holdings → Piece
Begun whole rest w first now code =
    (last : Holdings) (lines : List flat.Instr) → CodeCured rest w now last lines → CodeCured whole w first last (code ++ lines)

-- a function's body, or the static initialisers
unfoldable pub BodyCured : List Instr → World → Piece
BodyCured is w code = (c : Context) → IsInside w c [] → AreShaped is c no_types no_types
    → AreCuring is w outside nothing_known nothing_known code
