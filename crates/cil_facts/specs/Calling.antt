-- What calls are given and give, and how code is left.
use Rattle.std.specs.Prelude.{◌≡◌, ℕ, suc, ◌<◌, ⊤, List, slice_get, Some, true, IsSome}
use Rattle.cc_base.specs.declared.number.TypeId.{TypeId}
use Rattle.cc_base.specs.declared.number.NodeId.{NodeId}
use Rattle.c_types.specs.declared.shape.TypeShape.{TypeShape}
use Rattle.c_types.specs.declared.shape.TypeShape.TheVariants as shape
use Rattle.kind_sites.specs.declared.site.Site.{Site}
use Rattle.c_types.specs.Table.{shape_at}
use Rattle.flat_mem.specs.Bytes.{AreBytes}
use Rattle.integers.specs.Arithmetic.{converted}
use Rattle.runs.specs.Input.{Input}
use Rattle.runs.specs.Outcome.{Outcome, Ended, Done}
use Rattle.runs.specs.Control.{Control, Goes, Leaves, Gives}
use Rattle.src_mem.specs.Pointers.{Value, Integer, Address}
use Rattle.src_mem.specs.Memory.{Memory}
use Rattle.src_mem.specs.State.{Ending, Wrong, State, Setting, Defined, bytes_of}
use Rattle.src_mem.specs.Checks.{IsNotOfFrame, holds}
use Rattle.src_mem.specs.Uses.{home}
use Rattle.src_mem.specs.Runs.{Calls}
use Rattle.src_mem.specs.Facts.{IsHeldIn, IsMade, IsSoundAt}
use Rattle.src_mem.specs.Laws as laws
use Rattle.facts_kept.specs.Kept.{IsLater, IsArgumentOf}
use Rattle.cil_form.specs.declared.number.StaticNumber.{StaticNumber}
use Rattle.cil_form.specs.declared.number.Object.TheVariants as object
use Rattle.cil_form.specs.declared.instr.Instr.{Instr}
use Rattle.cil_form.specs.State.{Local, Around}
use Rattle.cil_form.specs.Typing.{PlaceOf, Typing, Context, IsObject, IsShaped}
use Rattle.cil_form.specs.Meaning.{act}
use Rattle.cil_facts.specs.Held.{IsHeldAs, IsSolvedFor, AreFacts, AreFactsBehind, GoesOn}

-- Calls

-- these are arguments of parameters of these types, one each and in order
pub record AreArgumentsOf (w : Setting) (sites : List Site) (memory : Memory) (depth : ℕ) (types : List TypeId) (arguments : List Value) : Type 0 where
  pub each : (i : ℕ) (t : TypeId) → slice_get types i ≡ Some t
      → (v : Value) × (slice_get arguments i ≡ Some v) × IsArgumentOf w sites memory depth (shape_at w.table t) v

abbrev pub AreArgumentsIn : Setting → List Site → Memory → ℕ → TypeShape → List Value → Type 0
AreArgumentsIn w sites memory depth (shape.Function parameters result) arguments = AreArgumentsOf w sites memory depth parameters arguments
AreArgumentsIn w sites memory depth other arguments = ⊥

-- the value is one of the result's type, which the caller may hold; of a function that gives nothing it is whatever it is
abbrev pub IsResultOf : Setting → List Site → Memory → ℕ → TypeShape → Value → Type 0
IsResultOf w sites memory depth (shape.Integer bytes signed) (Integer z) = converted (record { bytes = bytes; signed = signed }) z ≡ z
IsResultOf w sites memory depth (shape.Pointer node to) (Address p) = IsHeldIn w memory depth (w.kind node) to p × IsMade sites p
IsResultOf w sites memory depth shape.Void v = ⊤
IsResultOf w sites memory depth other v = ⊥

abbrev pub IsResultIn : Setting → List Site → Memory → ℕ → TypeShape → Value → Type 0
IsResultIn w sites memory depth (shape.Function parameters result) v = IsResultOf w sites memory depth (shape_at w.table result) v
IsResultIn w sites memory depth other v = ⊥

-- the objects that live as long as the program are places of the types that they are named with
abbrev pub AreStaticsThere : Context → Setting → Memory → ℕ → Type 0
AreStaticsThere k w memory depth = (n : StaticNumber) (node : NodeId) (t : TypeId) → IsObject k (object.Static n) node t
    → IsHeldAs w k.sites memory depth (PlaceOf node t) (Address (home w.table n.0 t))

-- A call of a function of type t gave a value of its result's type, to a caller of this depth, and left later objects, of which
-- the facts are true.
pub record HasReturned (w : Setting) (sites : List Site) (depth : ℕ) (t : TypeId) (old : Memory) (v : Value) (new : State) : Type 0 where
  pub sound : IsSoundAt w sites new.memory depth
  pub later : IsLater depth old.objects new.memory.objects
  pub value : IsResultIn w sites new.memory depth (shape_at w.table t) v

-- Calls keep the facts: a call of a defined function, with arguments of its parameters, isn't wrong, and gives its caller such a value. The run
-- reads this input.
pub record CallsKeepTheFacts (k : Context) (w : Setting) (input : Input) (depth : ℕ) (call : Calls) : Type 0 where
  pub each : (f : ℕ) (d : Defined) (arguments : List Value) (s : State) → slice_get w.functions f ≡ Some d → laws.ReadsWhatIsThere input s
      → IsSoundAt w k.sites s.memory depth → AreStaticsThere k w s.memory depth
      → AreArgumentsIn w k.sites s.memory depth (shape_at w.table d.type) arguments
      → laws.Gives (call f (suc depth) arguments s) (HasReturned w k.sites depth d.type s.memory)

-- An instruction keeps the facts where the calls that it makes do, and where the input consists of bytes.
abbrev pub KeepsFactsAmongCalls : Instr → Type 0
KeepsFactsAmongCalls i = (k : Context) (a : Around) (types after : Typing) (input : Input) (c : Local) → IsSolvedFor k a.setting
    → (IsSome k.result → CallsKeepTheFacts k a.setting input a.depth a.call) → AreBytes (bytes_of input) → laws.ReadsWhatIsThere input c.state
    → IsShaped i k types after → AreFacts k a types c → GoesOn (act i a c) (AreFactsBehind k a after c)

-- Code

-- the value that a call of this depth returns is one of the result's type, and what it points to outlives the call
abbrev pub IsReturned : Setting → List Site → Memory → ℕ → TypeShape → Value → Type 0
IsReturned w sites memory depth (shape.Integer bytes signed) (Integer z) = converted (record { bytes = bytes; signed = signed }) z ≡ z
IsReturned w sites memory depth (shape.Pointer node to) (Address p) =
    IsHeldIn w memory depth (w.kind node) to p × IsMade sites p × (holds w memory (IsNotOfFrame depth p) ≡ true)
IsReturned w sites memory depth shape.Void v = ⊤
IsReturned w sites memory depth other v = ⊥

-- a function is left with such a value, and the facts are true of the memory
pub record IsLeftWith (k : Context) (a : Around) (v : Value) (before now : Local) : Type 0 where
  pub type : TypeId
  pub result : k.result ≡ Some type
  pub value : IsReturned a.setting k.sites now.state.memory a.depth (shape_at a.setting.table type) v
  pub memory : IsSoundAt a.setting k.sites now.state.memory a.depth
  pub later : IsLater a.depth before.state.memory.objects now.state.memory.objects

-- How code in shape is left: it goes on with what is known behind it; it leaves a block or loop of the function with what is kept
-- there; or it leaves the function.
abbrev pub IsLeftWell : Context → Around → Typing → Local → Control Value → Local → Type 0
IsLeftWell k a after before Goes now = AreFactsBehind k a after before now
IsLeftWell k a after before (Leaves n) now = (n < k.blocks) × AreFactsBehind k a k.kept before now
IsLeftWell k a after before (Gives v) now = IsLeftWith k a v before now

-- code isn't wrong: a check or what it does ends the run, or P is true of how it is left, and of where it has come to
abbrev pub ComesTo : Outcome Ending Local (Control Value) → (Control Value → Local → Type 0) → Type 0
ComesTo (Ended Wrong c) P = ⊥
ComesTo (Ended e c) P = ⊤
ComesTo (Done x c) P = P x c
