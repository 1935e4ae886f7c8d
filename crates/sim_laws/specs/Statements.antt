-- The one form of what is said of code: from a point before it, the lines and the three-address code match.
use Rattle.std.specs.Prelude.{◌≡◌, ◌≢◌, ℕ, List, [], ◌∷◌, ◌++◌, slice_get, Option, Some, None}
use Rattle.cc_base.specs.declared.number.TypeId.{TypeId}
use Rattle.cc_base.specs.declared.place.Place.{Place}
use Rattle.c_types.specs.Table.{shape_at}
use Rattle.integers.specs.Words.{is_true_word}
use Rattle.runs.specs.Outcome.{Outcome, Matches}
use Rattle.runs.specs.Control.{Control, Alike}
use Rattle.src_mem.specs.Pointers.{Value, Integer, Address, is_true}
use Rattle.src_mem.specs.State as source
use Rattle.cil_form.specs.declared.number.Temp.{Temp}
use Rattle.cil_form.specs.declared.instr.Instr as code_instr
use Rattle.cil_form.specs.declared.instr.Instr.TheVariants as instr
use Rattle.cil_form.specs.State as code
use Rattle.cil_form.specs.Typing.{HeldType, IntegerOf, PointerTo}
use Rattle.cil_form.specs.Meaning as meaning
use Rattle.cured_code.specs.declared.instr.Instr.{Instr}
use Rattle.cured_code.specs.FlatState as flat
use Rattle.cured_code.specs.FlatState.{slot}
use Rattle.cured_code.specs.FlatMachine.{run}
use Rattle.sim_relation.specs.Ground.{Ground, pointer_words}
use Rattle.sim_relation.specs.Related.{Related}
use Rattle.sim_relation.specs.Outcomes.{EndAlike}
use Rattle.sim_relation.specs.Points.{Form, Exact, HoldsAs, Knowledge, AreWords}
use Rattle.cure_rules.specs.Slots.{AreSlots}
use Rattle.cure_rules.specs.Known.{Whole, World, held_shape}
use Rattle.cure_rules.specs.Setting.{IsTested, IsCuringSet, IsCuringCalculate}
use Rattle.cure_rules.specs.Pointing.{IsCuringPoint, IsCuringConvert}
use Rattle.cure_rules.specs.Accesses.{IsCuringAccess}
use Rattle.cure_rules.specs.Calling.{IsCuringAllocate, IsCuringCall, IsCuringRuntime}
use Rattle.cure_rules.specs.Code.{Blocks, Returns, ReturnsNone}
use Rattle.sim_laws.specs.Scenes.{Programs, Scene, Running, setting_of, world_of, around_of, context_of}
use Rattle.sim_laws.specs.Held.{IsInCode}
use Rattle.sim_laws.specs.Points.{Holds, There, Point, ground_of}

abbrev pub Lines : Type 0
Lines = List Instr

abbrev pub CodeOutcome : Type 0
CodeOutcome = Outcome source.Ending code.Local (Control Value)

abbrev pub FlatOutcome : Type 0
FlatOutcome = Outcome flat.Ending flat.Local (Control (List ℕ))

-- Endings

-- both runs end, alike, in related states
abbrev pub StatesEndAlike : Programs → source.Ending → source.State → flat.Ending → flat.State → Type 0
StatesEndAlike p e s f c = EndAlike e f × Related (setting_of p) p.whole.node s c

abbrev pub EndsAlike : Programs → source.Ending → code.Local → flat.Ending → flat.Local → Type 0
EndsAlike p e l f c = StatesEndAlike p e l.state f c.state

-- Values that are passed

-- so many words stand for a value: an integer by one, in this form, and a pointer by its own
abbrev pub StandAs : Ground → Form → HeldType → Value → List ℕ → Type 0
StandAs g form (IntegerOf i) (Integer z) words = (n : ℕ) × (words ≡ n ∷ []) × HoldsAs form i z n
StandAs g form (PointerTo n u) (Address q) words = (words ≡ pointer_words g (g.kind n) q) × AreWords words
StandAs g form x v words = ⊥

-- a value of this type, or of none that has words, is passed to a call of this depth or from one
abbrev pub IsPassed : Programs → ℕ → source.State → flat.State → Form → Option HeldType → Value → List ℕ → Type 0
IsPassed p depth s c form None v words = words ≡ []
IsPassed p depth s c form (Some x) v words = Holds p s depth x v × StandAs (ground_of p s c) form x v words

abbrev pub held_at : Whole → TypeId → Option HeldType
held_at w t = held_shape (shape_at w.table t)

abbrev pub held_result : Whole → Option TypeId → Option HeldType
held_result w None = None
held_result w (Some t) = held_at w t

-- Code

-- a body gives a value, which the call around may hold; function 0 gives none
abbrev pub GivesAlike : Scene → Running → Value → code.Local → List ℕ → flat.Local → Type 0
GivesAlike w b v l words c = (w.number ≢ 0) × There w.programs b l.state c.state
    × IsPassed w.programs b.outer l.state c.state Exact (held_result w.programs.whole w.result) v words

-- a block around is left, with what is known behind it
abbrev pub Leaving : (w : Scene) → AreSlots w.slots → Running → Blocks → ℕ → code.Local → flat.Local → Type 0
Leaving w g b blocks n l c = (k : Knowledge) × (slice_get blocks n ≡ Some k) × Point w g b k l c

-- THE FORM: from a point at which the first is known, the two runs go on to one at which the second is known; or both leave a block around,
-- with what is known behind it; or both give a value; or both end alike, in related states, as by one check at one place.
abbrev pub Match : (w : Scene) → AreSlots w.slots → Running → Knowledge → Blocks → CodeOutcome → FlatOutcome → Type 0
Match w g b after blocks o q =
    Matches (Alike (Point w g b after) (Leaving w g b blocks) (GivesAlike w b)) (EndsAlike w.programs) o q

abbrev pub Follows : (w : Scene) → AreSlots w.slots → Running → Blocks → Knowledge → Knowledge → code.Step → Lines → Type 0
Follows w g b blocks known after m lines = (l : code.Local) (c : flat.Local) → Point w g b known l c
    → Match w g b after blocks (m l) (run lines (context_of w b) c)

-- The lines of a test run through, to a point of the same, with a slot that isn't 0 exactly where the temporary is true.
pub record Tested (w : Scene) (g : AreSlots w.slots) (b : Running) (known : Knowledge) (t : Temp) (a : ℕ) (lines : Lines) (l : code.Local) (c : flat.Local) : Type 0 where
  pub after : flat.Local
  pub runs : (rest : Lines) → run (lines ++ rest) (context_of w b) c ≡ run rest (context_of w b) after
  pub point : Point w g b known l after
  pub truth : is_true_word (slot after a) ≡ is_true (l.temps t)

-- Instructions of this kind that code consists of follow, whatever is known and whatever blocks are around.
abbrev pub AllFollow : {I : Type 0} → (w : Scene) → AreSlots w.slots → Running → List code_instr.Instr → (I → code_instr.Instr)
    → (I → World → Knowledge → Knowledge → Lines → Type 0) → Type 0
AllFollow {I} w g b whole code IsCuring = (i : I) → IsInCode (code i) whole → (known after : Knowledge) (blocks : Blocks) (lines : Lines) → IsCuring i (world_of w) known after lines
    → Follows w g b blocks known after (meaning.act (code i) (around_of w b)) lines

-- The laws of the single instructions that code consists of, in a call. They are asked of these alone: of one that names what isn't there no
-- law holds.
pub record Laws (w : Scene) (g : AreSlots w.slots) (b : Running) (whole : List code_instr.Instr) : Type 0 where
  pub set : AllFollow w g b whole (λ i. instr.Set i) IsCuringSet
  pub calculate : AllFollow w g b whole (λ i. instr.Calculate i) IsCuringCalculate
  pub point : AllFollow w g b whole (λ i. instr.Point i) IsCuringPoint
  pub convert : AllFollow w g b whole (λ i. instr.Convert i) IsCuringConvert
  pub access : AllFollow w g b whole (λ i. instr.Access i) IsCuringAccess
  pub allocate : AllFollow w g b whole (λ i. instr.Allocate i) IsCuringAllocate
  pub call : AllFollow w g b whole (λ i. instr.Call i) IsCuringCall
  pub runtime : AllFollow w g b whole (λ i. instr.Runtime i) IsCuringRuntime
  pub test : (known : Knowledge) (t : Temp) (a : ℕ) (lines : Lines) → IsTested (world_of w) known t a lines
      → (l : code.Local) (c : flat.Local) → Point w g b known l c → Tested w g b known t a lines l c
  pub given : (known after : Knowledge) (blocks : Blocks) (v : Temp) (t : TypeId) (at : Place) (lines : Lines)
      → IsInCode (instr.ReturnValue v t at) whole → Returns (world_of w) known v t at lines → Follows w g b blocks known after (meaning.act (instr.ReturnValue v t at) (around_of w b)) lines
  pub given_none : (known after : Knowledge) (blocks : Blocks) (lines : Lines) → ReturnsNone (world_of w) lines
      → Follows w g b blocks known after (meaning.act instr.Return (around_of w b)) lines
