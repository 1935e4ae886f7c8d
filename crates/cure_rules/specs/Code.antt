-- Cured code of three-address code, one clause an instruction.
use Rattle.std.specs.Prelude.{◌≡◌, ◌≢◌, ℕ, List, [], ◌∷◌, slice_get, Some}
use Rattle.cc_base.specs.declared.number.TypeId.{TypeId}
use Rattle.cc_base.specs.declared.place.Place.{Place}
use Rattle.cil_form.specs.declared.number.Temp.{Temp}
use Rattle.cil_form.specs.declared.instr.Instr.{Instr, Row_of-Instr, end_of-Instr, more_of-Instr}
use Rattle.cil_form.specs.declared.instr.Instr.TheVariants as instr
use Rattle.cil_form.specs.Typing.{HeldType, PointerTo}
use Rattle.src_mem.specs.Memory.{Planned}
use Rattle.cured_code.specs.declared.instr.Instr.TheVariants as flat
use Rattle.check_forms.specs.declared.op.Op.TheVariants as op
use Rattle.check_forms.specs.Rows.{home_slot}
use Rattle.check_forms.specs.Pieces.{Piece, Line, Then, Choice, Blocked, Looped}
use Rattle.sim_relation.specs.Points.{Exact, Known, Knowledge}
use Rattle.cure_rules.specs.Known.{World, kind_of, words_in, held_by, Includes, pointer_slots}
use Rattle.cure_rules.specs.Checks.{IsGuarded}
use Rattle.cure_rules.specs.Setting.{IsTested, IsCuringSet, IsCuringCalculate}
use Rattle.cure_rules.specs.Pointing.{IsCuringPoint, IsCuringConvert}
use Rattle.cure_rules.specs.Accesses.{IsCuringAccess}
use Rattle.cure_rules.specs.Calling.{IsCuringAllocate, IsCuringCall, IsCuringRuntime}

-- What is known behind each block and loop around, the innermost first. What is known further out needs no premise.
abbrev pub Blocks : Type 0
Blocks = List Knowledge

-- no block is around
abbrev pub outside : Blocks
outside = []

-- what is asked of a value that is returned: where the call has objects, a pointer is to none of them
abbrev pub ReturnGuard : HeldType → List Planned → World → ℕ → Place → Piece
ReturnGuard (PointerTo n u) (v ∷ vs) w a at = IsGuarded w (op.ReturnPointer (home_slot (kind_of w n) (pointer_slots a))) (kind_of w n) at
ReturnGuard type variables w a at = Line []

-- a value of type t is returned, from slot a on
abbrev pub Returns : World → Knowledge → Temp → TypeId → Place → Piece
Returns w known v t at lines = (x : Known) × (a : ℕ) × (w.number ≢ 0) × (w.result ≡ Some t) × (known v ≡ Some x) × (x.place ≡ Some a) × (x.form ≡ Exact)
    × (held_by w t ≡ Some x.type) × Then (ReturnGuard x.type w.variables w a at) (Line (flat.Return a ∷ [])) lines

-- nothing is returned
abbrev pub ReturnsNone : World → Piece
ReturnsNone w lines = (t : TypeId) × (w.number ≢ 0) × (w.result ≡ Some t) × (words_in w.whole t ≡ 0) × Line (flat.Return w.slots.nought ∷ []) lines

-- Code begins with what the first knows, and what the second knows holds behind it. Behind what leaves a block or the function nothing runs,
-- and no more is known than before it; behind a loop no more than where it begins. So what stands where nothing runs names slots that there are.
abbrev mutual
  pub IsCuring : Instr → World → Blocks → Knowledge → Knowledge → Piece
  IsCuring (instr.Set i) w b known after lines = IsCuringSet i w known after lines
  IsCuring (instr.Calculate i) w b known after lines = IsCuringCalculate i w known after lines
  IsCuring (instr.Point i) w b known after lines = IsCuringPoint i w known after lines
  IsCuring (instr.Convert i) w b known after lines = IsCuringConvert i w known after lines
  IsCuring (instr.Access i) w b known after lines = IsCuringAccess i w known after lines
  IsCuring (instr.Allocate i) w b known after lines = IsCuringAllocate i w known after lines
  IsCuring (instr.Call i) w b known after lines = IsCuringCall i w known after lines
  IsCuring (instr.Runtime i) w b known after lines = IsCuringRuntime i w known after lines
  IsCuring (instr.If' t shape code shape' other) w b known after lines =
      (a : ℕ) × Then (IsTested w known t a) (Choice a (IsCuringRow code w b known after) (IsCuringRow other w b known after)) lines
  IsCuring (instr.Block' shape code) w b known after lines = Blocked (IsCuringRow code w (after ∷ b) known after) lines
  IsCuring (instr.Loop' shape code) w b known after lines =
      (entry : Knowledge) × Includes known entry × Looped (IsCuringRow code w (after ∷ b) entry entry) lines × Includes entry after
  IsCuring (instr.Break n) w b known after lines = (k : Knowledge) × (slice_get b n ≡ Some k) × Includes known k × Line (flat.Break n ∷ []) lines
      × Includes known after
  IsCuring instr.Return w b known after lines = ReturnsNone w lines × Includes known after
  IsCuring (instr.ReturnValue v t at) w b known after lines = Returns w known v t at lines × Includes known after

  -- instructions in order, as an instruction holds them
  pub IsCuringRow : {m : _} → Row_of-Instr m → World → Blocks → Knowledge → Knowledge → Piece
  IsCuringRow end_of-Instr w b known after lines = Includes known after × Line [] lines
  IsCuringRow (more_of-Instr i rest) w b known after lines =
      (middle : Knowledge) × Then (IsCuring i w b known middle) (IsCuringRow rest w b middle after) lines

-- instructions in order
abbrev pub AreCuring : List Instr → World → Blocks → Knowledge → Knowledge → Piece
AreCuring [] w b known after lines = Includes known after × Line [] lines
AreCuring (i ∷ is) w b known after lines = (middle : Knowledge) × Then (IsCuring i w b known middle) (AreCuring is w b middle after) lines
