-- The lines of operators on integers, and of truth values.
use Rattle.std.proofs.Common.{◌≡◌, ◌≢◌, refl, ap, sym, subst, ◌∙◌, ℕ, ◌+◌, ◌-◌, ◌^◌, ◌≤◌, inl, inr, Bool, true, false, Option, Some, None, List, [], ◌∷◌, arith, if◌then◌else◌}
use Rattle.cc_base.specs.declared.number.TypeId.{TypeId}
use Rattle.cc_base.specs.declared.place.Place.{Place}
use Rattle.cc_base.specs.declared.kind.Kind.TheVariants.{Safe}
use Rattle.c_types.specs.declared.shape.TypeShape.TheVariants as shape
use Rattle.c_types.specs.Table.{shape_at}
use Rattle.integers.specs.Arithmetic.{IntegerType, int, bits_of}
use Rattle.src_mem.specs.Operations.{integer_of_shape}
use Rattle.cil_form.specs.declared.number.Temp.{Temp}
use Rattle.cil_form.specs.declared.instr.Calculate.TheVariants as calculate
use Rattle.cil_form.specs.declared.instr.Operator.{Operator}
use Rattle.cil_form.specs.declared.instr.Operator.TheVariants as operator
use Rattle.cil_form.specs.declared.instr.Comparison.{Comparison}
use Rattle.cil_form.specs.Typing as shaped
use Rattle.cil_form.specs.Typing.{Context, Typing, HeldType, IntegerOf, PointerTo, PlaceOf, IsInteger}
use Rattle.cured_code.specs.declared.instr.Instr.{Instr}
use Rattle.cured_code.specs.declared.instr.Instr.TheVariants as instr
use Rattle.check_forms.specs.Pieces.{Line, Then}
use Rattle.check_forms.specs.declared.slots.Fixed.{Fixed}
use Rattle.check_forms.specs.declared.op.Op.TheVariants.{DivideSigned, DivideUnsigned}
use Rattle.sim_relation.specs.Points.{Known, Exact, Low, Number}
use Rattle.cure_rules.specs.Slots.{First, Mask, Least, Span}
use Rattle.cure_rules.specs.Known.{World, IsPlainInteger, known_of, known_at}
use Rattle.cure_rules.specs.Checks.{numbers_of, divide_by, IsGuarded}
use Rattle.cure_rules.specs.Setting.{is_wide, IsTested, TestedBy, Reckons, Divides, Masks, ShiftsLeft, ShiftsRight, Compares, Tells, IsCuringBinary}
use Rattle.cure_scope.specs.declared.scope.Scope.{Scope}
use Rattle.cure_scope.specs.Scopes.{fixed_column, fixed_slots, seat, whole_of, world_of}
use Rattle.cure_scope.specs.Needs.{Guards, AreSeated}
use Rattle.cure_scope.proofs.GuardLaws.{guarded}
use Rattle.cure_instrs.specs.Cured.{CalculateCured, IsIn}
use Rattle.cure_instrs.specs.Lines.{IsIntegerAt, Reckoned, Divided, masked, shifted_right, binary_lines, tested_slot, tested_lines}
use Rattle.cure_instrs.proofs.KnownLaws.{leaves_held, is_plain, is_exactly, is_lowly}

-- a type is one integer type
one_type : (k : Scope) (c : Context) (t : TypeId) (i j : IntegerType) → IsIn (world_of k) c → IsIntegerAt (whole_of k) t i → IsInteger c t j → i ≡ j
unfolding IsIntegerAt
one_type k c t i j is h g = ap integer_of_shape (sym h.0 ∙ ap (λ z. shape_at z t) (sym is.table) ∙ g.1)

module _ (k : Scope) (types after : Typing) (into a b : Temp) (t : TypeId) (i : IntegerType) (code : List Instr) (plain : IsPlainInteger (world_of k) t i)
    (left : shaped.Holds types a (IntegerOf i)) where
  reckons : (operation : ℕ → ℕ → ℕ → Instr) → shaped.Holds types b (IntegerOf i) → shaped.Leaves types into (Some (IntegerOf i)) after
      → Reckoned (operation (fixed_column into) (fixed_column a) (fixed_column b)) i (fixed_column into) code
      → Reckons operation (world_of k) into a b t (known_of (fixed_slots k.parameters) types) (known_of (fixed_slots k.parameters) after) code
  reckons operation right leaves h = (
    i,
    fixed_column a,
    fixed_column b,
    Exact,
    plain,
    is_lowly k.parameters types a i left,
    is_lowly k.parameters types b i right,
    (leaves.0, omega arith),
    h,
    leaves_held k.parameters types after into (Some (IntegerOf i)) leaves.1,
  )

  seated-division : (signed : Bool) (l m : Fixed) (p q : ℕ) → l.slot ≡ seat Least → m.slot ≡ seat Span
      → AreSeated (numbers_of (if signed then DivideSigned p q l m else DivideUnsigned p q) Safe)
  seated-division true l m p q e f = (e, (f, tt))
  seated-division false l m p q e f = tt

  one-of : (signed : Bool) (f g : ℕ → ℕ → ℕ → Instr) (v p q : ℕ) → (if signed then f v p q else g v p q) ≡ (if signed then f else g) v p q
  one-of true f g v p q = refl
  one-of false f g v p q = refl

  divides : (f g : ℕ → ℕ → ℕ → Instr) (at : Place) → shaped.Holds types b (IntegerOf i) → shaped.Leaves types into (Some (IntegerOf i)) after
      → Divided (f (fixed_column into) (fixed_column a) (fixed_column b)) (g (fixed_column into) (fixed_column a) (fixed_column b)) i (fixed_column a) (fixed_column b) at code
      → Divides f g (world_of k) into a b t at (known_of (fixed_slots k.parameters) types) (known_of (fixed_slots k.parameters) after) code
  unfolding Then Line
  divides f g at right leaves h = (
    i,
    fixed_column a,
    fixed_column b,
    seat,
    plain,
    is_exactly k.parameters types a i left,
    is_exactly k.parameters types b i right,
    (leaves.0, omega arith),
    (
      h.0,
      h.1,
      guarded k (divide_by seat i (fixed_column a) (fixed_column b)) Safe at h.0 (seated-division i.signed _ _ (fixed_column a) (fixed_column b) refl refl) h.2,
      h.3 ∙ ap (λ x. x ∷ []) (one-of i.signed f g (fixed_column into) (fixed_column a) (fixed_column b)),
      h.4,
    ),
    leaves_held k.parameters types after into (Some (IntegerOf i)) leaves.1,
  )

  masks : (x : List Instr) → Line (masked i (fixed_column b)) x → Masks (world_of k) seat i (fixed_column b) x
  unfolding Then Line
  masks x e = (instr.Const (seat Mask) (bits_of i - 1) ∷ [], instr.And (seat First) (fixed_column b) (seat Mask) ∷ [], inr (refl, refl), refl, e)

  shifts-left : (j : IntegerType) → shaped.Holds types b (IntegerOf j) → shaped.Leaves types into (Some (IntegerOf i)) after
      → Then (Line (masked i (fixed_column b))) (Reckoned (instr.Shl (fixed_column into) (fixed_column a) (seat First)) i (fixed_column into)) code
      → ShiftsLeft (world_of k) into a b t (known_of (fixed_slots k.parameters) types) (known_of (fixed_slots k.parameters) after) code
  unfolding Then
  shifts-left j right leaves h = (
    i,
    j,
    fixed_column a,
    fixed_column b,
    seat,
    Exact,
    plain,
    is_lowly k.parameters types a i left,
    is_exactly k.parameters types b j right,
    (leaves.0, omega arith),
    (h.0, h.1, masks h.0 h.2, h.3, h.4),
    leaves_held k.parameters types after into (Some (IntegerOf i)) leaves.1,
  )

  shifts-right : (j : IntegerType) → shaped.Holds types b (IntegerOf j) → shaped.Leaves types into (Some (IntegerOf i)) after
      → Then (Line (masked i (fixed_column b))) (Line (shifted_right i.signed (fixed_column into) (fixed_column a) (seat First) ∷ [])) code
      → ShiftsRight (world_of k) into a b t (known_of (fixed_slots k.parameters) types) (known_of (fixed_slots k.parameters) after) code
  unfolding Then
  shifts-right j right leaves h = (
    i,
    j,
    fixed_column a,
    fixed_column b,
    seat,
    plain,
    is_exactly k.parameters types a i left,
    is_exactly k.parameters types b j right,
    (leaves.0, omega arith),
    (h.0, h.1, masks h.0 h.2, h.3, h.4),
    leaves_held k.parameters types after into (Some (IntegerOf i)) leaves.1,
  )

  compares : (which : Comparison) → shaped.Holds types b (IntegerOf i) → shaped.Leaves types into (Some (IntegerOf int)) after
      → binary_lines (operator.Compare which) i (fixed_column into) (fixed_column a) (fixed_column b) (record { line = 0; col = 0 }) code
      → Compares which (world_of k) into a b t (known_of (fixed_slots k.parameters) types) (known_of (fixed_slots k.parameters) after) code
  compares which right leaves h = (
    i,
    fixed_column a,
    fixed_column b,
    plain,
    is_exactly k.parameters types a i left,
    is_exactly k.parameters types b i right,
    (leaves.0, omega arith),
    h,
    leaves_held k.parameters types after into (Some (IntegerOf int)) leaves.1,
  )

  binary : (which : Operator) (at : Place) → shaped.IsRightOperand which types b i → shaped.Leaves types into (Some (IntegerOf (shaped.result_type which i))) after
      → binary_lines which i (fixed_column into) (fixed_column a) (fixed_column b) at code
      → IsCuringBinary which (world_of k) into a b t at (known_of (fixed_slots k.parameters) types) (known_of (fixed_slots k.parameters) after) code
  binary operator.Add at right leaves h = reckons instr.Add right leaves h
  binary operator.Subtract at right leaves h = reckons instr.Sub right leaves h
  binary operator.Multiply at right leaves h = reckons instr.Mul right leaves h
  binary operator.And at right leaves h = reckons instr.And right leaves h
  binary operator.Or at right leaves h = reckons instr.Or right leaves h
  binary operator.ExclusiveOr at right leaves h = reckons instr.Xor right leaves h
  binary operator.Divide at right leaves h = divides instr.Divs instr.Divu at right leaves h
  binary operator.Remainder at right leaves h = divides instr.Rems instr.Remu at right leaves h
  binary operator.ShiftLeft at right leaves h = shifts-left right.0 right.1 leaves h
  binary operator.ShiftRight at right leaves h = shifts-right right.0 right.1 leaves h
  binary (operator.Compare which) at right leaves h = compares which right leaves h

pub binary_cured : (k : Scope) (types : Typing) (which : Operator) (into a b : Temp) (t : TypeId) (at : Place) (i : IntegerType) (code : List Instr)
    → IsIntegerAt (whole_of k) t i → binary_lines which i (fixed_column into) (fixed_column a) (fixed_column b) at code
    → CalculateCured (calculate.Binary into which a b t at) (world_of k) types code
unfolding CalculateCured
binary_cured k types which into a b t at i code type h c after is s =
    binary k types after into a b t s.0 code (is_plain (world_of k) c t s.0 is s.1) s.2 which at s.3 s.4
    (subst (λ z. binary_lines which z (fixed_column into) (fixed_column a) (fixed_column b) at code) (one_type k c t i s.0 is type s.1) h)

pub negate_cured : (k : Scope) (types : Typing) (into a : Temp) (t : TypeId) (i : IntegerType) (code : List Instr)
    → IsIntegerAt (whole_of k) t i → Reckoned (instr.Sub (fixed_column into) 381 (fixed_column a)) i (fixed_column into) code
    → CalculateCured (calculate.Negate into a t) (world_of k) types code
unfolding CalculateCured
negate_cured k types into a t i code type h c after is s = (
  s.0,
  fixed_column a,
  Exact,
  is_plain (world_of k) c t s.0 is s.1,
  is_lowly k.parameters types a s.0 s.2,
  (s.3.0, omega arith),
  subst (λ z. Reckoned (instr.Sub (fixed_column into) 381 (fixed_column a)) z (fixed_column into) code) (one_type k c t i s.0 is type s.1) h,
  leaves_held k.parameters types after into (Some (IntegerOf s.0)) s.3.1,
)

pub complement_cured : (k : Scope) (types : Typing) (into a : Temp) (t : TypeId) (i : IntegerType) (code : List Instr)
    → IsIntegerAt (whole_of k) t i
    → Then (Line (instr.Const (seat Mask) (2 ^ 64 - 1) ∷ [])) (Reckoned (instr.Xor (fixed_column into) (fixed_column a) (seat Mask)) i (fixed_column into)) code
    → CalculateCured (calculate.Complement into a t) (world_of k) types code
unfolding CalculateCured Then
complement_cured k types into a t i code type h c after is s =
    let g = subst (λ z. Then (Line (instr.Const (seat Mask) (2 ^ 64 - 1) ∷ [])) (Reckoned (instr.Xor (fixed_column into) (fixed_column a) (seat Mask)) z (fixed_column into)) code)
    (one_type k c t i s.0 is type s.1) h in (
      s.0,
      fixed_column a,
      Exact,
      seat,
      is_plain (world_of k) c t s.0 is s.1,
      is_lowly k.parameters types a s.0 s.2,
      (s.3.0, omega arith),
      (g.0, g.1, inr (refl, g.2), g.3, g.4),
      leaves_held k.parameters types after into (Some (IntegerOf s.0)) s.3.1,
    )

-- truth values

tested-by : (k : Scope) (wide : Bool) (p : ℕ) (code : List Instr) → Line (tested_lines wide p) code → TestedBy wide (world_of k) p (tested_slot wide p) code
tested-by k true p code h = (refl, h)
tested-by k false p code h = (refl, h)

pub is_tested : (k : Scope) (types : Typing) (t : Temp) (x : HeldType) (code : List Instr) → types t ≡ Some x
    → Line (tested_lines (is_wide (whole_of k) x) (fixed_column t)) code
    → IsTested (world_of k) (known_of (fixed_slots k.parameters) types) t (tested_slot (is_wide (whole_of k) x) (fixed_column t)) code
is_tested k types t x code e h = (
  record { type = x; place = Some (fixed_column t); form = Exact; sure = [] },
  fixed_column t,
  ap (known_at (fixed_column t)) e,
  refl,
  λ f. cc,
  tested-by k (is_wide (whole_of k) x) (fixed_column t) code h,
)

tells : (k : Scope) (types after : Typing) (operation : ℕ → ℕ → ℕ → Instr) (into a : Temp) (x : HeldType) (code : List Instr) → types a ≡ Some x
    → shaped.Leaves types into (Some (IntegerOf int)) after
    → Then (Line (tested_lines (is_wide (whole_of k) x) (fixed_column a))) (Line (operation (fixed_column into) (tested_slot (is_wide (whole_of k) x) (fixed_column a)) 381 ∷ [])) code
    → Tells operation (world_of k) into a (known_of (fixed_slots k.parameters) types) (known_of (fixed_slots k.parameters) after) code
unfolding Then
tells k types after operation into a x code e leaves h = (
  tested_slot (is_wide (whole_of k) x) (fixed_column a),
  (leaves.0, omega arith),
  (h.0, h.1, is_tested k types a x h.0 e h.2, h.3, h.4),
  leaves_held k.parameters types after into (Some (IntegerOf int)) leaves.1,
)

pub truth_cured : (k : Scope) (types : Typing) (into a : Temp) (x : HeldType) (code : List Instr) → types a ≡ Some x
    → Then (Line (tested_lines (is_wide (whole_of k) x) (fixed_column a))) (Line (instr.Ne (fixed_column into) (tested_slot (is_wide (whole_of k) x) (fixed_column a)) 381 ∷ [])) code
    → CalculateCured (calculate.Truth into a) (world_of k) types code
unfolding CalculateCured
truth_cured k types into a x code e h c after is s = tells k types after instr.Ne into a x code e s.1 h

pub not_cured : (k : Scope) (types : Typing) (into a : Temp) (x : HeldType) (code : List Instr) → types a ≡ Some x
    → Then (Line (tested_lines (is_wide (whole_of k) x) (fixed_column a))) (Line (instr.Eq (fixed_column into) (tested_slot (is_wide (whole_of k) x) (fixed_column a)) 381 ∷ [])) code
    → CalculateCured (calculate.Not into a) (world_of k) types code
unfolding CalculateCured
not_cured k types into a x code e h c after is s = tells k types after instr.Eq into a x code e s.1 h
