-- When lines, tests and checks name what there is, by recursion on them.
use Rattle.std.specs.Prelude.{◌≡◌, ◌≢◌, true, false, slice_get, slice_index, ℕ, ◌+◌, ◌<◌, ◌≤◌, ◌⊎◌, suc, max, List, [], ◌∷◌, Some, length}
use Rattle.cured_code.specs.declared.instr.Instr.{Instr}
use Rattle.cured_code.specs.Ranges.{Names, IsInstrInRange, inside_if}
use Rattle.cured_code.specs.Straight.{instrs}
use Rattle.cured_code.specs.declared.parts.Sig.{Sig}
use Rattle.check_forms.specs.declared.slots.PointerSlots.{PointerSlots}
use Rattle.check_forms.specs.declared.slots.Distance.{Distance}
use Rattle.check_forms.specs.declared.slots.Distance.TheVariants.{Bytes, Elements}
use Rattle.check_forms.specs.declared.slots.Work.{Work}
use Rattle.check_forms.specs.Conditions.{Condition, Never, IsNotZero, IsInPart, IsByteInPart, IsWithinPart, IsInArea, IsByteInArea, IsWithinArea, IsArea, IsNear, IsSmall, IsBelowBound, IsAtLeast, IsAligned, HoldsNoPointer, HoldsPointer, IsNoDeeper, AreNoDeeper, IsNotOwn, IsMadeFor, IsFunctionOf, HasRoom, AreOfPart, AreOfArea, AreElementsApart, IsNoOverflow, Unless, UnlessNull, AreOfPartOr, AreOfAreaOr, Both}
use Rattle.check_forms.specs.Tests.{Test, Pass, Flag, After, Choose, Then}
use Rattle.check_forms.specs.declared.op.Op.{Op}
use Rattle.check_forms.specs.declared.op.Conversion.{Conversion}
use Rattle.check_forms.specs.declared.op.Conversion.TheVariants.{Down}
use Rattle.check_forms.specs.Rows.{Asked}
use Rattle.check_forms.specs.declared.op.Op.TheVariants.{ReadInteger, ReadPointer, WriteInteger, WritePointer, CopyPlain, CopyPointers, KeepCell, Member, Move, Order, Equate, Call, ReturnPointer, Convert as Converts, Allocate, DivideUnsigned, DivideSigned, EnterMain}
use Rattle.cil_form.specs.declared.number.Temp.{Temp}
use Rattle.sim_relation.specs.Points.{Known, Knowledge, Start}
use Rattle.cil_form.specs.declared.instr.Target.{Target}
use Rattle.cil_form.specs.declared.instr.Target.TheVariants as target
use Rattle.cil_form.specs.declared.instr.Access.{Access}
use Rattle.cil_form.specs.declared.instr.Access.TheVariants as access
use Rattle.cil_form.specs.declared.instr.Set.{Set}
use Rattle.cil_form.specs.declared.instr.Set.TheVariants as set
use Rattle.cure_rules.specs.Functions.{IsKnownContent}
use Rattle.cc_base.specs.declared.number.TypeId.{TypeId}
use Rattle.cc_base.specs.declared.number.NodeId.{NodeId}
use Rattle.cc_base.specs.declared.kind.Kind.TheVariants.{Rtti}
use Rattle.c_types.specs.declared.flow_class.FlowClass.TheVariants.{DownTile, Down as Lower}
use Rattle.c_types.specs.Flows.{flow_class}
use Rattle.cil_form.specs.declared.instr.Convert.{Convert}
use Rattle.cil_form.specs.declared.instr.Convert.TheVariants as convert
use Rattle.std.specs.List.{Contains}
use Rattle.cc_base.specs.declared.place.Place.{Place}
use Rattle.kind_sites.specs.declared.site.Site.TheVariants.{Flow}
use Rattle.c_types.specs.Table.{is_function}
use Rattle.cil_form.specs.Typing.{Context}
use Rattle.cure_rules.specs.Known.{World, IsPointer, words_in}
use Rattle.cure_rules.specs.Checks.{Need}

-- each instruction is in range
abbrev pub Fits : Names → List Instr → Type 0
Fits n [] = Unit {0}
Fits n (i ∷ is) = IsInstrInRange n i × Fits n is

-- the lines of a test are in range
abbrev pub TestFits : Names → Test → Type 0
TestFits n Pass = Unit {0}
TestFits n (Flag a) = a < n.slots
TestFits n (After lines t) = Fits n (instrs lines) × TestFits n t
TestFits n (Choose a t u) = (a < n.slots) × (n.nest < 1024) × TestFits (inside_if n) t × TestFits (inside_if n) u
TestFits n (Then t u) = TestFits n t × TestFits n u

-- the working slots of checks are there
pub record WorkFits (c : ℕ) (k : Work) : Type 0 where
  pub x : k.x < c
  pub y : k.y < c
  pub z : k.z < c
  pub to : k.to < c
  pub none : k.none < c

-- the slots of a pointer are there
pub record PointerFits (c : ℕ) (p : PointerSlots) : Type 0 where
  pub first : p.first < c
  pub second : p.second < c
  pub third : p.third < c

abbrev pub DistanceFits : ℕ → Distance → Type 0
DistanceFits c (Bytes n) = n < c
DistanceFits c (Elements n size) = (n < c) × (size.slot < c)

-- the slots, areas and nodes that a condition reads are there
abbrev pub Reads : Names → Condition → Type 0
Reads n Never = Unit {0}
Reads n (IsNotZero a) = a < n.slots
Reads n (IsInPart p size) = PointerFits n.slots p × (size.slot < n.slots)
Reads n (IsByteInPart p) = PointerFits n.slots p
Reads n (IsWithinPart p) = PointerFits n.slots p
Reads n (IsInArea p size) = PointerFits n.slots p × (size.slot < n.slots)
Reads n (IsByteInArea p) = PointerFits n.slots p
Reads n (IsWithinArea p) = PointerFits n.slots p
Reads n (IsArea a last) = (a < n.slots) × (last.slot < n.slots)
Reads n (IsNear p direction d least span) = PointerFits n.slots p × DistanceFits n.slots d × (least.slot < n.slots) × (span.slot < n.slots)
Reads n (IsSmall a least span) = (a < n.slots) × (least.slot < n.slots) × (span.slot < n.slots)
Reads n (IsBelowBound a bound) = (a < n.slots) × (bound.slot < n.slots)
Reads n (IsAtLeast a least) = (a < n.slots) × (least.slot < n.slots)
Reads n (IsAligned a seven) = (a < n.slots) × (seven < n.slots)
Reads n (HoldsNoPointer p bytes) = PointerFits n.slots p
Reads n (HoldsPointer p eight) = PointerFits n.slots p × (eight < n.slots)
Reads n (IsNoDeeper home target) = (home < n.slots) × (target < n.slots)
Reads n (AreNoDeeper p bytes target) = PointerFits n.slots p × (target < n.slots)
Reads n (IsNotOwn home) = (home < n.slots) × (0 < n.areas)
Reads n (IsMadeFor a node) = (a < n.slots) × (0 < node) × (node ≤ n.nodes)
Reads n (IsFunctionOf p signature) = PointerFits n.slots p × (signature.slot < n.slots)
Reads n (HasRoom a) = a < n.slots
Reads n (AreOfPart p q) = PointerFits n.slots p × PointerFits n.slots q
Reads n (AreOfArea p q) = PointerFits n.slots p × PointerFits n.slots q
Reads n (AreElementsApart p q size) = PointerFits n.slots p × PointerFits n.slots q × (size.slot < n.slots)
Reads n (IsNoOverflow a b least minus_one) = (a < n.slots) × (b < n.slots) × (least.slot < n.slots) × (minus_one.slot < n.slots)
Reads n (Unless a c) = (a < n.slots) × Reads n c
Reads n (UnlessNull p c) = PointerFits n.slots p × Reads n c
Reads n (AreOfPartOr p q c) = PointerFits n.slots p × PointerFits n.slots q × Reads n c
Reads n (AreOfAreaOr p q c) = PointerFits n.slots p × PointerFits n.slots q × Reads n c
Reads n (Both c d) = Reads n c × Reads n d

-- how many choices stand around the innermost conditions
abbrev pub height : Condition → ℕ
height (Unless a c) = suc (height c)
height (UnlessNull p c) = suc (height c)
height (AreOfPartOr p q c) = suc (height c)
height (AreOfAreaOr p q c) = suc (height c)
height (Both c d) = max (height c) (height d)
height c = 0

-- all that is asked reads what there is
abbrev pub AsksFit : Names → List Asked → Type 0
AsksFit n [] = Unit {0}
AsksFit n (a ∷ rest) = Reads n a.condition × (height a.condition ≤ 2) × AsksFit n rest

abbrev pub ReadAll : Names → List Condition → Type 0
ReadAll n [] = Unit {0}
ReadAll n (c ∷ cs) = Reads n c × (height c ≤ 2) × ReadAll n cs

-- the slots of the numbers are there
abbrev pub NeedsFit : ℕ → List Need → Type 0
NeedsFit c [] = Unit {0}
NeedsFit c (x ∷ xs) = (x.number.slot < c) × NeedsFit c xs

abbrev pub MovedBy : ℕ → Distance → Type 0
MovedBy c (Bytes n) = n < c
MovedBy c (Elements n size) = n < c

abbrev pub ConversionFits : Names → Conversion → Type 0
ConversionFits n (Down node) = (0 < node) × (node ≤ n.nodes)
ConversionFits n other = Unit {0}

-- the operands of an operation are there
abbrev pub OperandsFit : Names → Op → Type 0
OperandsFit n (ReadInteger p size) = PointerFits n.slots p
OperandsFit n (ReadPointer p size numbers) = PointerFits n.slots p
OperandsFit n (WriteInteger p size) = PointerFits n.slots p
OperandsFit n (WritePointer p size numbers home assignment) = PointerFits n.slots p × (home < n.slots)
OperandsFit n (CopyPlain source target other size target_at) = PointerFits n.slots source × PointerFits n.slots target
OperandsFit n (CopyPointers source target other size numbers target_at assignment) = PointerFits n.slots source × PointerFits n.slots target
OperandsFit n (KeepCell home target) = (home < n.slots) × (target < n.slots)
OperandsFit n (Member p size numbers offset reach) = PointerFits n.slots p × (offset < n.slots)
OperandsFit n (Move p way a factor distance numbers reach) = PointerFits n.slots p × (a < n.slots) × MovedBy n.slots distance
OperandsFit n (Order p q other numbers apart) = PointerFits n.slots p × PointerFits n.slots q
OperandsFit n (Equate p q other) = PointerFits n.slots p × PointerFits n.slots q
OperandsFit n (Call p signature) = PointerFits n.slots p
OperandsFit n (ReturnPointer home) = (home < n.slots) × (0 < n.areas)
OperandsFit n (Converts p conversion) = PointerFits n.slots p × ConversionFits n conversion
OperandsFit n (Allocate made size needed) = (made < n.slots) × (size < n.slots)
OperandsFit n (DivideUnsigned a b) = (a < n.slots) × (b < n.slots)
OperandsFit n (DivideSigned a b least minus_one) = (a < n.slots) × (b < n.slots)
OperandsFit n (EnterMain address) = address < n.slots

-- Worlds

-- what code of a program may name besides the slots and areas of its function
pub record Around : Type 0 where
  pub sigs : List Sig
  pub functions : List ℕ
  pub nodes : ℕ
  pub results : ℕ

abbrev pub names_at : World → Around → ℕ → ℕ → Names
names_at w r blocks nest = record {
  sigs = r.sigs;
  functions = r.functions;
  nodes = r.nodes;
  slots = w.slots.count;
  areas = length w.variables;
  results = r.results;
  blocks = blocks;
  nest = nest;
}

-- where the words of a temporary stand, three slots are
abbrev pub Placed : World → Knowledge → Type 0
Placed w known = (t : Temp) (x : Known) (a : ℕ) → known t ≡ Some x → x.place ≡ Some a → a + 3 ≤ w.slots.count

-- an object that is named is one of the function's variables, or of the static objects
abbrev pub NamesObject : World → Set → Type 0
NamesObject w (set.Object into o home t) = IsKnownContent w (Start o)
NamesObject w other = Unit {0}

-- the type node of the target of a downcast is there
abbrev pub NamesNode : World → ℕ → Convert → Type 0
NamesNode w nodes (convert.Pointer into from t s at) = (m n : NodeId) (u v : TypeId) → IsPointer w t m u → IsPointer w s n v → w.whole.kind m ≡ Rtti
    → (flow_class w.whole.table u v ≡ Lower) ⊎ (flow_class w.whole.table u v ≡ DownTile) → (0 < w.whole.node v) × (w.whole.node v ≤ nodes)
NamesNode w nodes other = Unit {0}

-- so is the object that a store goes to
abbrev pub NamesTarget : World → Target → Type 0
NamesTarget w (target.Part o home u offset) = IsKnownContent w (Start o)
NamesTarget w other = Unit {0}

abbrev pub NamesPart : World → Access → Type 0
NamesPart w (access.Store to v t at assignment) = NamesTarget w to
NamesPart w (access.Copy to to_place from n from_place t assignment) = NamesTarget w to
NamesPart w other = Unit {0}

-- what calls stand on: signatures are few words, functions have signatures that there are, and the row has room for the most parameters
pub record CanPassIn (w : World) (r : Around) : Type 0 where
  pub sigs : (g : ℕ) (x : Sig) → slice_get r.sigs g ≡ Some x → (x.params ≤ 381) × (x.results ≤ 3)
  pub functions : (f : ℕ) → f < w.whole.functions → (suc f < length r.functions) × (slice_index r.functions (suc f) < length r.sigs)
  pub types : (u : TypeId) → is_function w.whole.table u ≡ true → w.whole.signature u < length r.sigs
  pub width : w.slots.row_width ≡ 381
  pub row : w.slots.row + 381 ≤ w.slots.count

-- the context of source code that is cured here
pub record IsCuredIn (w : World) (r : Around) (k : Context) : Type 0 where
  pub variables : k.variables ≡ w.variables
  pub statics : k.statics ≡ w.whole.statics
  pub table : k.table ≡ w.whole.table
  pub nodes : (a b : NodeId) (t u : TypeId) (at : Place) → Contains k.sites (Flow a t b u at) → w.whole.kind a ≡ Rtti → is_function w.whole.table u ≡ false
      → (0 < w.whole.node u) × (w.whole.node u ≤ r.nodes)

-- what is returned: no value has more words than the function gives, and a function that returns nothing gives none
pub record CanReturnIn (w : World) (r : Around) : Type 0 where
  pub few : r.results ≤ 3
  pub none : (t : TypeId) → w.number ≢ 0 → w.result ≡ Some t → words_in w.whole t ≡ 0 → r.results ≡ 0
