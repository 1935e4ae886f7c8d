-- What a function of the cured program is: its signature, the areas of its frame and what the frame is charged, its prologue and its body.
use Rattle.std.specs.Prelude.{⊤, ◌≡◌, ◌⊎◌, ◌↔◌, ℕ, suc, ◌+◌, ◌<◌, ◌≤◌, true, List, [], ◌∷◌, ◌++◌, length, map, slice_get, Option, Some, None, sum_by, nat_le, if◌then◌else◌}
use Rattle.cc_base.specs.declared.number.TypeId.{TypeId}
use Rattle.cc_base.specs.declared.number.NodeId.{NodeId}
use Rattle.cc_base.specs.declared.kind.Kind.{Kind}
use Rattle.c_types.specs.declared.shape.TypeShape.{TypeShape}
use Rattle.c_types.specs.declared.shape.TypeShape.TheVariants as shape
use Rattle.c_types.specs.Table.{Table, shape_at, is_function}
use Rattle.c_types.specs.Layouts.{size_of}
use Rattle.c_types.specs.Equality.{cells_of}
use Rattle.c_types.specs.Flows.{IsOfOneClass}
use Rattle.flat_mem.specs.declared.Area.{Area}
use Rattle.integers.specs.Arithmetic.{IntegerType}
use Rattle.src_mem.specs.Memory.{Planned, frame_charge}
use Rattle.src_mem.specs.Checks.{source_frame_limit}
use Rattle.cil_form.specs.declared.number.Object.TheVariants as object
use Rattle.cil_form.specs.declared.program.Parameter.{Parameter}
use Rattle.cil_form.specs.declared.program.Function.{Function}
use Rattle.cil_form.specs.Machine.{variables_of}
use Rattle.cil_form.specs.Shape.{parameters_limit, result_of_shape}
use Rattle.cured_code.specs.declared.instr.Instr.{Instr}
use Rattle.cured_code.specs.declared.parts.Sig.{Sig}
use Rattle.cured_code.specs.declared.parts.Function as cured
use Rattle.cured_code.specs.Tables.{areas_of}
use Rattle.cured_code.specs.Ranges.{slots_limit, params_limit}
use Rattle.check_forms.specs.Pieces.{Piece, Line, Then}
use Rattle.check_forms.specs.declared.slots.PointerSlots.{PointerSlots}
use Rattle.sim_relation.specs.Objects.{area_by}
use Rattle.sim_relation.specs.Points.{KeptSlot, Content, Start, Knowledge}
use Rattle.cure_rules.specs.Slots.{Slots, AreSlots, Address}
use Rattle.cure_rules.specs.Known.{Whole, World, kind_of, words_by, words_in, Sets, Gets, nothing_known, IsPlainInteger, IsPointer}
use Rattle.cure_rules.specs.Accesses.{IsHome, integer_stored, PointerStored}
use Rattle.cure_rules.specs.Code.{AreCuring, outside}

-- Signatures

-- how many words a value of a type takes
abbrev pub words_at : Table → (NodeId → Kind) → TypeId → ℕ
words_at table kind t = words_by kind (shape_at table t)

abbrev pub bare : Sig
bare = record { params = 0; results = 0 }

-- What functions of this shape take and give. None has more parameters than a defined function may, so of such a type nothing is said.
abbrev pub signature_by : (TypeId → ℕ) → TypeShape → Sig
signature_by words (shape.Function parameters result) = if nat_le (length parameters) parameters_limit
    then record { params = sum_by words parameters; results = words result }
    else bare
signature_by words other = bare

abbrev pub signature_of : Table → (NodeId → Kind) → TypeId → Sig
signature_of table kind t = signature_by (words_at table kind) (shape_at table t)

-- Function types have one signature exactly where they are of one class; so a function that is called through a pointer of a type is of its
-- class where its signature's number is that of the type. The first signature is that of function 0 alone.
pub record AreSignatures (table : Table) (kind : NodeId → Kind) (signature : TypeId → ℕ) (sigs : List Sig) : Type 0 where
  pub start : slice_get sigs 0 ≡ Some bare
  pub each : (t : TypeId) → is_function table t ≡ true → (0 < signature t) × (slice_get sigs (signature t) ≡ Some (signature_of table kind t))
  pub class : (t u : TypeId) → is_function table t ≡ true → is_function table u ≡ true
      → (signature t ≡ signature u) ↔ IsOfOneClass table kind t u
  pub kept : (g : ℕ) → 0 < g → g < length sigs → (t : TypeId) × (is_function table t ≡ true) × (signature t ≡ g)

-- Prologues

-- an object whose address is kept is one of the function's variables, or of the static objects
abbrev pub IsKnownContent : World → Content → Type 0
IsKnownContent w (Start (object.Variable k)) = k.0 < length w.variables
IsKnownContent w (Start (object.Static k)) = k.0 < length w.whole.statics
IsKnownContent w other = ⊤

-- each kept slot is set
abbrev pub AreSet : World → List KeptSlot → Piece
AreSet w [] = Line []
AreSet w (x ∷ xs) = λ lines. IsKnownContent w x.content × Then (Sets w x.content x.slot) (AreSet w xs) lines

-- the slots of the address of a new object
abbrev pub new_slots : World → ℕ → PointerSlots
new_slots w a = record { first = a; second = a; third = w.slots.nought }

-- The value from slot p on is stored into the new variable k, by the kind of its home. Of an integer the low bytes count.
abbrev pub StoresParameter : World → NodeId → TypeId → ℕ → ℕ → Piece
StoresParameter w home t p k lines = (a : ℕ) × IsHome (kind_of w home)
    × (((i : IntegerType) × IsPlainInteger w t i
    × Then (Gets w Address (Start (object.Variable (record { 0 = k }))) a) (Line (integer_stored (kind_of w home) i.bytes (new_slots w a) p)) lines)
    ⊎ ((n : NodeId) × (u : TypeId) × IsPointer w t n u
    × Then (Gets w Address (Start (object.Variable (record { 0 = k }))) a) (PointerStored (kind_of w home) (kind_of w n) w (new_slots w a) p) lines))

-- a parameter without a name is no variable
abbrev pub StoresNamed : World → Option NodeId → TypeId → ℕ → ℕ → (ℕ → Piece) → Piece
StoresNamed w None t p k others = others k
StoresNamed w (Some home) t p k others = Then (StoresParameter w home t p k) (others (suc k))

-- the parameters whose words come from slot p on are stored, the first that has a name into variable k
abbrev pub AreStored : World → List Parameter → ℕ → ℕ → Piece
AreStored w [] p k = Line []
AreStored w (x ∷ xs) p k = StoresNamed w x.home x.ty p k (AreStored w xs (p + words_in w.whole x.ty))

abbrev pub parameter_words : Whole → List Parameter → ℕ
parameter_words w parameters = sum_by (λ x. words_in w x.ty) parameters

-- Functions

-- the world of function k of the source
abbrev pub world_of : Whole → ℕ → Function → Slots → World
world_of w k f slots = record {
  whole = w;
  number = suc k;
  variables = variables_of f;
  result = result_of_shape (shape_at w.table f.ty);
  slots = slots;
}

-- the area of an object, by its type and the kind of its home
abbrev pub area_for : Table → (NodeId → Kind) → Planned → Area
area_for table kind o = area_by kind (kind o.node) (size_of table o.type) (cells_of table o.type)

-- the areas of the variables of a frame, in order
abbrev pub areas_for : Table → (NodeId → Kind) → List Planned → List Area
areas_for table kind variables = map (area_for table kind) variables

-- A body behind its prologue: first the kept slots are set, then the parameters are stored.
pub record IsBody (w : World) (f : Function) (body : List Instr) : Type 0 where
  pub sets : List Instr
  pub stores : List Instr
  pub code : List Instr
  pub after : Knowledge
  pub are_set : AreSet w w.slots.kept sets
  pub are_stored : AreStored w f.parameters 0 0 stores
  pub are_curing : AreCuring f.body.0.items w outside nothing_known after code
  pub is : body ≡ (sets ++ stores) ++ code

-- a function whose frame may be pushed
pub record IsEntered (w : World) (f : Function) (h : cured.Function) : Type 0 where
  pub areas : areas_of h.locals ≡ areas_for w.whole.table w.whole.kind (variables_of f)
  pub charge : h.charge ≡ frame_charge w.whole.table (variables_of f)
  pub body : IsBody w f h.body.0.items

-- One whose variables alone are more than all frames may have: it is never entered, and has no areas and no instructions.
pub record IsNeverEntered (h : cured.Function) : Type 0 where
  pub areas : h.locals ≡ []
  pub charge : source_frame_limit < h.charge
  pub body : h.body.0.items ≡ []

-- The slots of a function: its parameters come in the first, and the arguments of its calls find room in the row.
pub record HasSlots (w : World) (f : Function) (h : cured.Function) : Type 0 where
  pub slots : AreSlots w.slots
  pub count : h.slots ≡ w.slots.count
  pub few : w.slots.count ≤ slots_limit
  pub parameters : w.slots.parameters ≡ parameter_words w.whole f.parameters
  pub held : w.slots.parameters ≤ w.slots.count
  pub row : w.slots.row_width ≡ params_limit

-- function k of the source is this function of the cured program
pub record IsCuredFunction (w : World) (f : Function) (h : cured.Function) : Type 0 where
  pub slots : HasSlots w f h
  pub sig : h.sig ≡ w.whole.signature f.ty
  pub entered : frame_charge w.whole.table (variables_of f) ≤ source_frame_limit → IsEntered w f h
  pub never : source_frame_limit < frame_charge w.whole.table (variables_of f) → IsNeverEntered h
