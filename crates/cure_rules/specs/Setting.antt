-- The lines of constants, copies, integer operators and truth values.
use Rattle.std.specs.Prelude.{◌≡◌, ◌≢◌, ◌⊎◌, ℕ, ◌+◌, ◌-◌, ◌^◌, Bool, true, false, List, [], ◌∷◌, Option, Some, None, if◌then◌else◌}
use Rattle.std.specs.List.{Contains}
use Rattle.cc_base.specs.declared.kind.Kind.{Kind}
use Rattle.cc_base.specs.declared.kind.Kind.TheVariants.{Safe, Seq, Rtti, Wild}
use Rattle.cc_base.specs.declared.number.TypeId.{TypeId}
use Rattle.cc_base.specs.declared.number.NodeId.{NodeId}
use Rattle.cc_base.specs.declared.place.Place.{Place}
use Rattle.c_types.specs.Layouts.{size_of}
use Rattle.integers.specs.Words.{word}
use Rattle.integers.specs.Arithmetic.{IntegerType, int, converted, bits_of}
use Rattle.cil_form.specs.declared.number.Temp.{Temp}
use Rattle.cil_form.specs.declared.number.Object.{Object}
use Rattle.cil_form.specs.declared.instr.Comparison.{Comparison}
use Rattle.cil_form.specs.declared.instr.Comparison.TheVariants as comparison
use Rattle.cil_form.specs.declared.instr.Operator.{Operator}
use Rattle.cil_form.specs.declared.instr.Operator.TheVariants as operator
use Rattle.cil_form.specs.declared.instr.Set.{Set}
use Rattle.cil_form.specs.declared.instr.Set.TheVariants as set
use Rattle.cil_form.specs.declared.instr.Calculate.{Calculate}
use Rattle.cil_form.specs.declared.instr.Calculate.TheVariants as calculate
use Rattle.cil_form.specs.Typing.{HeldType, IntegerOf, PointerTo, PlaceOf}
use Rattle.cured_code.specs.declared.instr.Instr.{Instr}
use Rattle.cured_code.specs.declared.instr.Instr.TheVariants as instr
use Rattle.check_forms.specs.Pieces.{Piece, Line, Then}
use Rattle.sim_relation.specs.Ground.{word_number, function_word}
use Rattle.sim_relation.specs.Points.{Form, Exact, Low, Sure, IsNotNull, IsBased, IsWithin, IsFunction, Known, Knowledge, Content, Number, Start}
use Rattle.cure_rules.specs.Slots.{First, Mask, slot_of}
use Rattle.cure_rules.specs.Known.{Whole, World, kind_of, column, Takes, IsKept, Sets, Gets, held_words, IsPointer, IsPlainInteger, IsExactly, IsLowly, Narrows, Leaves, an_integer, a_pointer, a_place, copies, noughts}
use Rattle.cure_rules.specs.Checks.{Seat, divide_by, IsGuarded}

-- Constants and copies

-- a word that a temporary is: a kept slot has it, or its column is set
abbrev pub Fills : World → Temp → Content → ℕ → Piece
Fills w into content a lines = (IsKept w a content × Line [] lines) ⊎ ((a ≡ column w into) × Takes w into 1 × Sets w content a lines)

-- what is listed is true
abbrev pub AreTrue : List Sure → List Sure → Type 0
AreTrue sure truths = (y : Sure) → Contains sure y → Contains truths y

-- the address of a function: a WILD pointer has it twice
abbrev pub FunctionWords : Kind → World → Temp → ℕ → Piece
FunctionWords Safe w into n lines = Takes w into 1 × Line (instr.Const (column w into) n ∷ []) lines
FunctionWords Wild w into n lines = Takes w into 2 × Line (instr.Const (column w into) n ∷ instr.Const (column w into + 1) n ∷ []) lines
FunctionWords kind w into n lines = ⊥

-- The address of an object, from slot a on: a home is SAFE or WILD.
abbrev pub ObjectWords : Kind → World → Temp → Object → ℕ → Piece
ObjectWords Safe w into o a lines = Fills w into (Start o) a lines
ObjectWords Wild w into o a lines =
    (a ≡ column w into) × Takes w into 2 × Then (Sets w (Start o) a) (Line (instr.Copy (a + 1) a ∷ [])) lines
ObjectWords kind w into o a lines = ⊥

-- So many words are copied. Of what nothing is known, any may be: nothing is known then of what they become.
abbrev pub CopiedWords : World → Temp → Temp → Option Known → Knowledge → Knowledge → Piece
CopiedWords w into from None known after lines = (n : ℕ) × Takes w into n × Takes w from n
    × Line (copies n (column w into) (column w from)) lines × Leaves known into None after
CopiedWords w into from (Some x) known after lines = (a : ℕ) × (x.place ≡ Some a) × Takes w into (held_words w.whole x.type)
    × Line (copies (held_words w.whole x.type) (column w into) a) lines × Leaves known into (Some (record x { place = Some (column w into) })) after

abbrev pub IsCuringSet : Set → World → Knowledge → Knowledge → Piece
IsCuringSet (set.Integer into z t) w known after lines = (i : IntegerType) × (a : ℕ) × IsPlainInteger w t i × (converted i z ≡ z)
    × Fills w into (Number (word z)) a lines × Leaves known into (Some (an_integer a Exact i)) after
IsCuringSet (set.Null into t) w known after lines = (n : NodeId) × (u : TypeId) × IsPointer w t n u × Takes w into (word_number (kind_of w n))
    × Line (noughts (word_number (kind_of w n)) (column w into)) lines × Leaves known into (Some (a_pointer (column w into) n u [])) after
IsCuringSet (set.Function into f t) w known after lines = (n : NodeId) × (u : TypeId) × (sure : List Sure) × IsPointer w t n u
    × AreTrue sure (IsNotNull ∷ IsFunction f.0 ∷ []) × FunctionWords (kind_of w n) w into (function_word f.0) lines
    × Leaves known into (Some (a_pointer (column w into) n u sure)) after
IsCuringSet (set.Object into o home t) w known after lines = (a : ℕ) × (sure : List Sure)
    × AreTrue sure (IsNotNull ∷ IsBased ∷ IsWithin (size_of w.whole.table t) ∷ []) × ObjectWords (kind_of w home) w into o a lines
    × Leaves known into (Some (a_place a home t sure)) after
IsCuringSet (set.Copy into from) w known after lines = CopiedWords w into from (known from) known after lines

-- Truth values

-- whether a value is null only where the first two of its words are zero; of other values the first says it
abbrev pub is_wide_kind : Kind → Bool
is_wide_kind Safe = false
is_wide_kind Rtti = false
is_wide_kind Seq = true
is_wide_kind Wild = true

abbrev pub is_wide : Whole → HeldType → Bool
is_wide w (IntegerOf i) = false
is_wide w (PointerTo n u) = is_wide_kind (w.kind n)
is_wide w (PlaceOf n u) = is_wide_kind (w.kind n)

abbrev pub TestedBy : Bool → World → ℕ → ℕ → Piece
TestedBy true w p a lines = (a ≡ slot_of w.slots First) × Line (instr.Or a p (p + 1) ∷ []) lines
TestedBy false w p a lines = (a ≡ p) × Line [] lines

-- Slot a isn't 0 exactly where the value of the temporary is true: no integer of which the low bytes alone count.
abbrev pub IsTested : World → Knowledge → Temp → ℕ → Piece
IsTested w known t a lines = (x : Known) × (p : ℕ) × (known t ≡ Some x) × (x.place ≡ Some p) × (x.form ≢ Low)
    × TestedBy (is_wide w.whole x.type) w p a lines

-- Operators

-- the operator on two words of which the low bytes alone count
abbrev pub Reckons : (ℕ → ℕ → ℕ → Instr) → World → Temp → Temp → Temp → TypeId → Knowledge → Knowledge → Piece
Reckons operation w into a b t known after lines = (i : IntegerType) × (p : ℕ) × (q : ℕ) × (f : Form) × IsPlainInteger w t i
    × IsLowly known a i p × IsLowly known b i q × Takes w into 1
    × Then (Line (operation (column w into) p q ∷ [])) (Narrows i (column w into) f) lines
    × Leaves known into (Some (an_integer (column w into) f i)) after

-- the quotient, or the remainder, behind its check
abbrev pub Divides : (ℕ → ℕ → ℕ → Instr) → (ℕ → ℕ → ℕ → Instr) → World → Temp → Temp → Temp → TypeId → Place → Knowledge → Knowledge → Piece
Divides signed unsigned w into a b t at known after lines = (i : IntegerType) × (p : ℕ) × (q : ℕ) × (seat : Seat) × IsPlainInteger w t i
    × IsExactly known a i p × IsExactly known b i q × Takes w into 1
    × Then (IsGuarded w (divide_by seat i p q) Safe at) (Line ((if i.signed then signed else unsigned) (column w into) p q ∷ [])) lines
    × Leaves known into (Some (an_integer (column w into) Exact i)) after

-- the low bits of slot q are the amount of a shift
abbrev pub Masks : World → Seat → IntegerType → ℕ → Piece
Masks w seat i q = Then (Gets w Mask (Number (bits_of i - 1)) (seat Mask)) (Line (instr.And (slot_of w.slots First) q (seat Mask) ∷ []))

-- the right operand may have another type (C99 6.5.7)
abbrev pub ShiftsLeft : World → Temp → Temp → Temp → TypeId → Knowledge → Knowledge → Piece
ShiftsLeft w into a b t known after lines = (i : IntegerType) × (j : IntegerType) × (p : ℕ) × (q : ℕ) × (seat : Seat) × (f : Form)
    × IsPlainInteger w t i × IsLowly known a i p × IsExactly known b j q × Takes w into 1
    × Then (Masks w seat i q) (Then (Line (instr.Shl (column w into) p (slot_of w.slots First) ∷ [])) (Narrows i (column w into) f)) lines
    × Leaves known into (Some (an_integer (column w into) f i)) after

abbrev pub ShiftsRight : World → Temp → Temp → Temp → TypeId → Knowledge → Knowledge → Piece
ShiftsRight w into a b t known after lines = (i : IntegerType) × (j : IntegerType) × (p : ℕ) × (q : ℕ) × (seat : Seat)
    × IsPlainInteger w t i × IsExactly known a i p × IsExactly known b j q × Takes w into 1
    × Then (Masks w seat i q) (Line ((if i.signed then instr.Sar else instr.Shr) (column w into) p (slot_of w.slots First) ∷ [])) lines
    × Leaves known into (Some (an_integer (column w into) Exact i)) after

abbrev pub less : Bool → ℕ → ℕ → ℕ → Instr
less true v a b = instr.Lts v a b
less false v a b = instr.Ltu v a b

-- slot v becomes 1 where slots a and b compare so, else 0; `none` holds 0
abbrev pub comparison_lines : Comparison → Bool → ℕ → ℕ → ℕ → ℕ → List Instr
comparison_lines comparison.Equal signed none v a b = instr.Eq v a b ∷ []
comparison_lines comparison.Different signed none v a b = instr.Ne v a b ∷ []
comparison_lines comparison.Less signed none v a b = less signed v a b ∷ []
comparison_lines comparison.LessOrEqual signed none v a b = less signed v b a ∷ instr.Eq v v none ∷ []
comparison_lines comparison.Greater signed none v a b = less signed v b a ∷ []
comparison_lines comparison.GreaterOrEqual signed none v a b = less signed v a b ∷ instr.Eq v v none ∷ []

abbrev pub Compares : Comparison → World → Temp → Temp → Temp → TypeId → Knowledge → Knowledge → Piece
Compares which w into a b t known after lines = (i : IntegerType) × (p : ℕ) × (q : ℕ) × IsPlainInteger w t i
    × IsExactly known a i p × IsExactly known b i q × Takes w into 1
    × Line (comparison_lines which i.signed w.slots.nought (column w into) p q) lines
    × Leaves known into (Some (an_integer (column w into) Exact int)) after

abbrev pub IsCuringBinary : Operator → World → Temp → Temp → Temp → TypeId → Place → Knowledge → Knowledge → Piece
IsCuringBinary operator.Add w into a b t at = Reckons instr.Add w into a b t
IsCuringBinary operator.Subtract w into a b t at = Reckons instr.Sub w into a b t
IsCuringBinary operator.Multiply w into a b t at = Reckons instr.Mul w into a b t
IsCuringBinary operator.And w into a b t at = Reckons instr.And w into a b t
IsCuringBinary operator.Or w into a b t at = Reckons instr.Or w into a b t
IsCuringBinary operator.ExclusiveOr w into a b t at = Reckons instr.Xor w into a b t
IsCuringBinary operator.Divide w into a b t at = Divides instr.Divs instr.Divu w into a b t at
IsCuringBinary operator.Remainder w into a b t at = Divides instr.Rems instr.Remu w into a b t at
IsCuringBinary operator.ShiftLeft w into a b t at = ShiftsLeft w into a b t
IsCuringBinary operator.ShiftRight w into a b t at = ShiftsRight w into a b t
IsCuringBinary (operator.Compare which) w into a b t at = Compares which w into a b t

-- a truth value of what is tested
abbrev pub Tells : (ℕ → ℕ → ℕ → Instr) → World → Temp → Temp → Knowledge → Knowledge → Piece
Tells operation w into a known after lines = (p : ℕ) × Takes w into 1
    × Then (IsTested w known a p) (Line (operation (column w into) p w.slots.nought ∷ [])) lines
    × Leaves known into (Some (an_integer (column w into) Exact int)) after

abbrev pub IsCuringCalculate : Calculate → World → Knowledge → Knowledge → Piece
IsCuringCalculate (calculate.Negate into a t) w known after lines = (i : IntegerType) × (p : ℕ) × (f : Form) × IsPlainInteger w t i
    × IsLowly known a i p × Takes w into 1
    × Then (Line (instr.Sub (column w into) w.slots.nought p ∷ [])) (Narrows i (column w into) f) lines
    × Leaves known into (Some (an_integer (column w into) f i)) after
IsCuringCalculate (calculate.Complement into a t) w known after lines = (i : IntegerType) × (p : ℕ) × (f : Form) × (seat : Seat)
    × IsPlainInteger w t i × IsLowly known a i p × Takes w into 1
    × Then (Gets w Mask (Number (2 ^ 64 - 1)) (seat Mask)) (Then (Line (instr.Xor (column w into) p (seat Mask) ∷ [])) (Narrows i (column w into) f)) lines
    × Leaves known into (Some (an_integer (column w into) f i)) after
IsCuringCalculate (calculate.Binary into operator a b t at) w known after lines = IsCuringBinary operator w into a b t at known after lines
IsCuringCalculate (calculate.Truth into a) w known after lines = Tells instr.Ne w into a known after lines
IsCuringCalculate (calculate.Not into a) w known after lines = Tells instr.Eq w into a known after lines
