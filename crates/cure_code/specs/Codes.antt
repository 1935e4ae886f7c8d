-- The code of functions.
use Rattle.std.specs.Prelude.{◌≡◌, true, List, []}
use Rattle.cil_form.specs.declared.program.Function.{Function}
use Rattle.cil_form.specs.declared.program.Program.{Program}
use Rattle.cil_form.specs.declared.instr.Instr.{Instr}
use Rattle.cil_form.specs.Typing.{Context, AreShaped, no_types}
use Rattle.cured_code.specs.declared.instr.Code.{Code}
use Rattle.check_forms.specs.Pieces.{Piece, Then}
use Rattle.check_insert.specs.declared.draft.Draft.{Draft}
use Rattle.cure_rules.specs.Known.{World}
use Rattle.cure_rules.specs.Programs.{EntersMain}
use Rattle.cure_ready.specs.Curable.{IsCurable}
use Rattle.cure_calls.specs.Storing.{ParametersStored}
use Rattle.cure_bodies.specs.Bodies.{IsInside, BodyCured}

-- the code of a function: its parameters are stored, and its body runs
abbrev pub FunctionCode : World → Function → Piece
FunctionCode w f = Then (ParametersStored w f.parameters 0 0) (BodyCured f.body.0.items w)

-- the code of function 0: the static initialisers run, and `main` is entered
abbrev pub StartCode : World → Program → Piece
StartCode w p = Then (BodyCured p.initialisers.0.items w) (EntersMain w p.main.0 p.main_place)

-- A body is in shape where it may be cured.
pub record IsCurableBody (w : World) (is : List Instr) : Type 0 where
  pub context : Context
  pub inside : IsInside w context []
  pub curable : IsCurable context w
  pub shaped : AreShaped is context no_types no_types

-- what a draft gave in which nothing failed
pub record IsOf (out : Draft) (code : Code) : Type 0 where
  pub fine : out.fine ≡ true
  pub same : code.0.items ≡ out.items.items
