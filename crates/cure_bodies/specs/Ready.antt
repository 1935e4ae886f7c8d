-- Where the shape of code, the kinds and the sites are as they should be, nothing is met that has no code.
use Rattle.std.specs.Prelude.{◌≡◌, true, List, []}
use Rattle.check_insert.specs.declared.draft.Draft.{Draft}
use Rattle.cil_form.specs.declared.instr.Instr.{Instr}
use Rattle.cil_form.specs.Told.{AreAsked}
use Rattle.cil_form.specs.Typing.{Context, Typing, Includes, IsShaped, AreShaped, no_types}
use Rattle.cure_rules.specs.Known.{World}
use Rattle.cure_ready.specs.Curable.{IsCurable}
use Rattle.cure_bodies.specs.declared.holding.Holdings.{Holdings}
use Rattle.cure_bodies.specs.Holding.{holds_now}
use Rattle.cure_bodies.specs.Bodies.{IsInside}

-- where R holds, nothing was met that has no code
abbrev pub StaysReady : Type 0 → Draft → Draft → Type 0
StaysReady R before after = R → before.ready ≡ true → after.ready ≡ true

-- Code that may be cured has come to where this is known of the temporaries, of which the sites tell. All that was met has code, and where nothing
-- failed no less is held than is known.
pub record HasCome (w : World) (c : Context) (blocks : List Typing) (types : Typing) (held : Holdings) (out : Draft) : Type 0 where
  pub inside : IsInside w c blocks
  pub curable : IsCurable c w
  pub asked : AreAsked c.sites types
  pub holds : out.fine ≡ true → Includes (holds_now held) types
  pub ready : out.ready ≡ true

-- An instruction in shape that code has come to has code.
abbrev pub InstrReady : Instr → World → Holdings → Draft → Draft → Type 0
InstrReady i w held before after =
    (c : Context) (blocks : List Typing) (types less : Typing) → HasCome w c blocks types held before → IsShaped i c types less → after.ready ≡ true

-- the same of instructions in order
abbrev pub CodeReady : List Instr → World → Holdings → Draft → Draft → Type 0
CodeReady is w held before after =
    (c : Context) (blocks : List Typing) (types less : Typing) → HasCome w c blocks types held before → AreShaped is c types less → after.ready ≡ true

-- what is left of the code that was come to, where the rest begins
abbrev pub RestReady : List Instr → List Instr → World → Holdings → Draft → Holdings → Draft → Type 0
RestReady whole rest w held before now after =
    (c : Context) (blocks : List Typing) (types less : Typing) → HasCome w c blocks types held before → AreShaped whole c types less
    → (middle : Typing) × HasCome w c blocks middle now after × AreShaped rest c middle less

-- a function's body, or the static initialisers
abbrev pub BodyReady : List Instr → World → Draft → Draft → Type 0
BodyReady is w before after =
    (c : Context) → IsInside w c [] → IsCurable c w → AreShaped is c no_types no_types → before.ready ≡ true → after.ready ≡ true
