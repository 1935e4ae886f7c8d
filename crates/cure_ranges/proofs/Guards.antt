-- The slots of a function, operands, and the lines of what operations ask are in range.
use Rattle.std.specs.Prelude.{slice_index, if◌then◌else◌}
use Rattle.std.proofs.Common.{◌≡◌, ℕ, zero, suc, ◌+◌, ◌<◌, ◌≤◌, Bool, true, false, List, [], ◌∷◌, Option, None, Some, ap, sym, subst, ◌∙◌, inl, inr, arith}
use Rattle.std.proofs.lemmas.Option.{slice_get-get_or}
use Rattle.cc_base.specs.declared.place.Place.{Place}
use Rattle.cc_base.specs.declared.number.TypeId.{TypeId}
use Rattle.cc_base.specs.declared.number.NodeId.{NodeId}
use Rattle.cc_base.specs.declared.kind.Kind.{Kind}
use Rattle.cc_base.specs.declared.kind.Kind.TheVariants.{Safe, Seq, Rtti, Wild}
use Rattle.c_types.specs.declared.shape.TypeShape.{TypeShape}
use Rattle.c_types.specs.declared.shape.TypeShape.TheVariants as shape
use Rattle.integers.specs.Arithmetic.{IntegerType}
use Rattle.cil_form.specs.declared.number.Temp.{Temp}
use Rattle.cil_form.specs.declared.number.Object.TheVariants as object
use Rattle.cil_form.specs.State.{is_same}
use Rattle.cil_form.specs.Typing.{HeldType, IntegerOf, PointerTo, PlaceOf}
use Rattle.cured_code.specs.declared.instr.Instr.{Instr}
use Rattle.cured_code.specs.declared.instr.Instr.TheVariants as instr
use Rattle.cured_code.specs.declared.instr.Narrow.{Narrow}
use Rattle.cured_code.specs.Ranges.{Names}
use Rattle.check_forms.specs.declared.op.Op.{Op}
use Rattle.check_forms.specs.Pieces.{Line, Then}
use Rattle.check_forms.specs.Rows.{flat_conditions}
use Rattle.sim_relation.specs.Ground.{word_number}
use Rattle.sim_relation.specs.Points.{Form, Exact, Zeroed, Low, Sure, Known, Knowledge, KeptSlot, Content, Number, Start, End}
use Rattle.cure_rules.specs.Slots.{AreSlots, Role, First, Second, Third, Moved, Size, Least, Span, LeastFactor, SpanFactor, Seven, Eight, Last, Signature, Offset, Mask, Address, Base, Word, OtherWord, ThirdWord, Amount, Bytes, Charge, Made, role_number, slot_of, work_of}
use Rattle.cure_rules.specs.Known.{Whole, World, IsKept, Sets, Gets, Includes, Leaves, column, Takes, held_words, words_by, Points, IsAddress, IsExactly, IsLowly, pointer_slots, copies, noughts, narrow_of, narrowed_lines, narrowing_lines, Narrows}
use Rattle.cure_rules.specs.Functions.{IsKnownContent}
use Rattle.cure_rules.specs.Checks.{Need, numbers_of, AreGot, IsGuarded}
use Rattle.cure_ranges.proofs.Fitting.{Fits, WorkFits, PointerFits, NeedsFit, OperandsFit, Around, names_at, Placed}
use Rattle.cure_ranges.proofs.Tests.{line, in_turn, checks}
use Rattle.cure_ranges.proofs.Rows.{asks}

pub same_some : {A : Type 0} (x y : A) → Some x ≡ Some y → x ≡ y
same_some x y h = cc

role_small : (r : Role) → role_number r < 24
role_small First = omega arith
role_small Second = omega arith
role_small Third = omega arith
role_small Moved = omega arith
role_small Size = omega arith
role_small Least = omega arith
role_small Span = omega arith
role_small LeastFactor = omega arith
role_small SpanFactor = omega arith
role_small Seven = omega arith
role_small Eight = omega arith
role_small Last = omega arith
role_small Signature = omega arith
role_small Offset = omega arith
role_small Mask = omega arith
role_small Address = omega arith
role_small Base = omega arith
role_small Word = omega arith
role_small OtherWord = omega arith
role_small ThirdWord = omega arith
role_small Amount = omega arith
role_small Bytes = omega arith
role_small Charge = omega arith
role_small Made = omega arith

-- words

pub word_few : (k : Kind) → word_number k ≤ 3
word_few Safe = omega arith
word_few Seq = omega arith
word_few Rtti = omega arith
word_few Wild = omega arith

pub held_few : (w : Whole) (x : HeldType) → held_words w x ≤ 3
held_few w (IntegerOf i) = omega arith
held_few w (PointerTo n u) = word_few (w.kind n)
held_few w (PlaceOf n u) = word_few (w.kind n)

pub words_few : (kind : NodeId → Kind) (s : TypeShape) → words_by kind s ≤ 3
words_few kind shape.Void = omega arith
words_few kind (shape.Integer bytes signed) = omega arith
words_few kind (shape.Pointer n u) = word_few (kind n)
words_few kind (shape.Array t count) = omega arith
words_few kind (shape.Function parameters result) = omega arith
words_few kind (shape.Struct n) = omega arith
words_few kind (shape.Union n) = omega arith

pub at_0 : (a c : ℕ) → a + 3 ≤ c → a < c
at_0 a c l = omega (arith, l)

pub at_1 : (a c : ℕ) → a + 3 ≤ c → a + 1 < c
at_1 a c l = omega (arith, l)

pub at_2 : (a c : ℕ) → a + 3 ≤ c → a + 2 < c
at_2 a c l = omega (arith, l)

pub pointer : (a c : ℕ) → a + 3 ≤ c → PointerFits c (pointer_slots a)
pointer a c l = record { first = at_0 a c l; second = at_1 a c l; third = at_2 a c l }

-- lines by number

pub copied : (n : Names) (k v a : ℕ) → v + k ≤ n.slots → a + k ≤ n.slots → Fits n (copies k v a)
copied n zero v a l m = tt
copied n (suc k) v a l m = ((omega (arith, l), omega (arith, m)), copied n k (v + 1) (a + 1) (omega (arith, l)) (omega (arith, m)))

pub nulled : (n : Names) (k v : ℕ) → v + k ≤ n.slots → Fits n (noughts k v)
nulled n zero v l = tt
nulled n (suc k) v l = (omega (arith, l), nulled n k (v + 1) (omega (arith, l)))

pub narrowing : (n : Names) (v : ℕ) (x : Option Narrow) → v < n.slots → Fits n (narrowing_lines v x)
narrowing n v None l = tt
narrowing n v (Some x) l = ((l, l), tt)

pub narrowed : (n : Names) (v a : ℕ) (x : Option Narrow) → v < n.slots → a < n.slots → Fits n (narrowed_lines v a x)
narrowed n v a None l m = ((l, m), tt)
narrowed n v a (Some x) l m = ((l, m), tt)

pub narrows : (n : Names) (i : IntegerType) (v : ℕ) (f : Form) (code : List Instr) → v < n.slots → Narrows i v f code → Fits n code
unfolding Line
narrows n i v Low code l e = line n [] code e tt
narrows n i v Exact code l e = line n (narrowing_lines v (narrow_of i)) code e (narrowing n v (narrow_of i) l)
narrows n i v Zeroed code l e = absurd e

module _ (w : World) where
  -- What is known

  pub left : (known : Knowledge) (into : Temp) (y : Option Known) (after : Knowledge) → Placed w known
      → ((x : Known) (a : ℕ) → y ≡ Some x → x.place ≡ Some a → a + 3 ≤ w.slots.count) → Leaves known into y after → Placed w after
  left known into y after p q l t x a e f = by (is_same t into) (l t x e)
    where
      by : (b : Bool) → (if b then y else known t) ≡ Some x → a + 3 ≤ w.slots.count
      by true g = q x a g f
      by false g = p t x a g f

  pub left_at : (known : Knowledge) (into : Temp) (z : Known) (after : Knowledge) (a : ℕ) → Placed w known → z.place ≡ Some a → a + 3 ≤ w.slots.count
      → Leaves known into (Some z) after → Placed w after
  left_at known into z after a p e l h = left known into (Some z) after p at h
    where
      at : (x : Known) (b : ℕ) → Some z ≡ Some x → x.place ≡ Some b → b + 3 ≤ w.slots.count
      at x b g f = let k : a ≡ b = same_some a b (sym e ∙ ap (λ (y : Known). y.place) (same_some z x g) ∙ f) in omega (arith, k, l)

  pub left_none : (known : Knowledge) (into : Temp) (after : Knowledge) → Placed w known → Leaves known into None after → Placed w after
  left_none known into after p h = left known into None after p (λ x a g f. absurd (cc (g))) h

  pub included : (known after : Knowledge) → Placed w known → Includes known after → Placed w after
  included known after p i t x a e f = p t x a (i t x e) f

  pub points : (known : Knowledge) (t : Temp) (n : NodeId) (u : TypeId) (a : ℕ) (sure : List Sure) → Placed w known → Points known t n u a sure → a + 3 ≤ w.slots.count
  points known t n u a sure p (x, e, ty, pl, su) = p t x a e pl

  pub addressed : (known : Knowledge) (t : Temp) (n : NodeId) (u : TypeId) (a : ℕ) (sure : List Sure) → Placed w known → IsAddress known t n u a sure → a + 3 ≤ w.slots.count
  addressed known t n u a sure p (x, e, ty, pl, su) = p t x a e pl

  pub exact : (known : Knowledge) (t : Temp) (i : IntegerType) (a : ℕ) → Placed w known → IsExactly known t i a → a + 3 ≤ w.slots.count
  exact known t i a p (x, e, ty, pl, fo) = p t x a e pl

  pub lowly : (known : Knowledge) (t : Temp) (i : IntegerType) (a : ℕ) → Placed w known → IsLowly known t i a → a + 3 ≤ w.slots.count
  lowly known t i a p (x, e, ty, pl) = p t x a e pl

  module _ (s : AreSlots w.slots) where
    pub role : (r : Role) → slot_of w.slots r < w.slots.count
    role r = (s.works (role_number r) (role_small r)).below

    pub nought : w.slots.nought < w.slots.count
    nought = s.nought.below

    pub kept : (a : ℕ) (content : Content) → IsKept w a content → a + 3 ≤ w.slots.count
    kept a content (j, l, e) =
        let x : KeptSlot = record { slot = a; content = content } in
        s.kept_room j x (slice_get-get_or w.slots.kept j x l ∙ ap (λ (y : KeptSlot). Some y) e)

    pub room : (t : Temp) (n : ℕ) → Takes w t n → column w t + 3 ≤ w.slots.count
    room t n h = s.column_room t h.0

    -- a column with room for so many words ends where slots are
    pub wide : (t : Temp) (n : ℕ) → Takes w t n → column w t + n ≤ w.slots.count
    wide t zero h = let r = s.column_room t h.0 in omega (arith, r)
    wide t (suc m) h = let l = h.1 in let r = (s.columns t m h.0 (omega (arith, l))).below in omega (arith, r)

    pub work : WorkFits w.slots.count (work_of w.slots)
    work = record { x = role First; y = role Second; z = role Third; to = role Moved; none = nought }

    module _ (r : Around) (b n : ℕ) where
      pub sets : (content : Content) (a : ℕ) (code : List Instr) → a < w.slots.count → IsKnownContent w content → Sets w content a code → Fits (names_at w r b n) code
      unfolding Line
      sets (Number v) a code l k e = line (names_at w r b n) (instr.Const a v ∷ []) code e (l, tt)
      sets (Start (object.Variable v)) a code l k e = line (names_at w r b n) (instr.Frame a v.0 ∷ []) code e ((l, k), tt)
      sets (Start (object.Static v)) a code l k e = line (names_at w r b n) (instr.Const a (slice_index w.whole.addresses v.0) ∷ []) code e (l, tt)
      sets (End o) a code l k e = absurd e

      -- an operand, and its slot
      pub gets : (x : Role) (content : Content) (a : ℕ) (code : List Instr) → IsKnownContent w content → Gets w x content a code → Fits (names_at w r b n) code × (a < w.slots.count)
      unfolding Line
      gets x content a code k (inl (h, e)) = (line (names_at w r b n) [] code e tt, at_0 a w.slots.count (kept a content h))
      gets x content a code k (inr (e, h)) =
          let l : a < w.slots.count = subst (λ m. m < w.slots.count) (sym e) (role x) in (sets content a code l k h, l)

      pub number : (x : Role) (v a : ℕ) (code : List Instr) → Gets w x (Number v) a code → Fits (names_at w r b n) code × (a < w.slots.count)
      number x v a code h = gets x (Number v) a code tt h

      got : (all : List Need) (code : List Instr) → AreGot w all code → Fits (names_at w r b n) code × NeedsFit w.slots.count all
      unfolding Line Then
      got [] code e = (line (names_at w r b n) [] code e tt, tt)
      got (x ∷ xs) code (y, z, g, h, e) =
          let one = number x.role x.number.value x.number.slot y g in let rest = got xs z h in
          (in_turn (names_at w r b n) y z code e one.0 rest.0, (one.1, rest.1))

      -- what an operation asks, and the slots of its numbers
      pub guarded_with : n + 4 ≤ 1024 → (op : Op) (k : Kind) (at : Place) (code : List Instr) → OperandsFit (names_at w r b n) op → IsGuarded w op k at code
          → Fits (names_at w r b n) code × NeedsFit w.slots.count (numbers_of op k)
      unfolding Then
      guarded_with l op k at code o (y, z, g, h, e) =
          let numbers = got (numbers_of op k) y g in (
            in_turn (names_at w r b n) y z code e numbers.0 (checks (names_at w r b n) (work_of w.slots) (flat_conditions op k at) z work l (asks (names_at w r b n) op k at o numbers.1) h),
            numbers.1,
          )

      pub guarded : n + 4 ≤ 1024 → (op : Op) (k : Kind) (at : Place) (code : List Instr) → OperandsFit (names_at w r b n) op → IsGuarded w op k at code → Fits (names_at w r b n) code
      guarded l op k at code o g = (guarded_with l op k at code o g).0
