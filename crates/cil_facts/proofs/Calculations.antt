-- Operators on integers, and tests for being true, keep the facts.
use Rattle.std.proofs.Common.{◌≡◌, ℤ, neg_ℤ, ◌-ℤ◌, ◌+ℤ◌, ◌*ℤ◌, negsuc, pos, Bool, true, false, not, refl, sym, subst}
use Rattle.std.specs.Int.{int_div_euclid}
use Rattle.std.specs.Ordering.{int_eq}
use Rattle.std.specs.Prelude.{◌^◌, int_div, int_rem, int_lt, int_le, bit_and, bit_or, bit_xor}
use Rattle.cc_base.specs.declared.place.Place.{Place}
use Rattle.c_types.specs.declared.shape.TypeShape.TheVariants as shape
use Rattle.integers.specs.Arithmetic.{IntegerType, int, truth, converted, computed, computed_alone, divides, shift_amount, UnaryOperator, Negate, Complement}
use Rattle.integers.specs.Words.{word}
use Rattle.runs.specs.Outcome.{Done, done, from, either, ◌>>=◌}
use Rattle.src_mem.specs.Pointers.{Value, Integer, Address, is_true}
use Rattle.src_mem.specs.State.{Act, as_integer}
use Rattle.src_mem.specs.Checks.{CanDivide, checked}
use Rattle.src_mem.specs.Operations.{integer_of_shape, calculate}
use Rattle.src_mem.specs.Values.{calculated, calculated_alone}
use Rattle.src_mem.specs.Laws.{Gives}
use Rattle.facts_kept.proofs.Giving.{gives-from, gives-tried}
use Rattle.cil_form.specs.declared.number.Temp.{Temp}
use Rattle.cil_form.specs.declared.instr.Comparison.TheVariants as comparison
use Rattle.cil_form.specs.declared.instr.Operator.{Operator}
use Rattle.cil_form.specs.declared.instr.Operator.TheVariants as operator
use Rattle.cil_form.specs.declared.instr.Calculate.{Calculate}
use Rattle.cil_form.specs.declared.instr.Calculate.TheVariants as calculate
use Rattle.cil_form.specs.declared.instr.Instr.TheVariants as instr
use Rattle.cil_form.specs.State.{Local, Around}
use Rattle.cil_form.specs.Typing.{IntegerOf, Typing, Context, HoldsInteger, IsRightOperand, result_type, IsShaped}
use Rattle.cil_form.specs.Meaning.{act, operator_of}
use Rattle.cil_facts.specs.Held.{IsHeldAs, IsSolvedFor, AreFacts, AreFactsBehind, GoesOn}
use Rattle.cil_facts.proofs.Conversions.{converted-fits, shape-in, Given, goes-held}

-- a truth value is an int
pub truth-fits : (b : Bool) → converted int (truth b) ≡ truth b
truth-fits true = refl
truth-fits false = refl

-- what an operator gives fits its result's type
fits : (o : Operator) (t : IntegerType) (x y : ℤ) → converted (result_type o t) (computed (operator_of o) t x y) ≡ computed (operator_of o) t x y
fits operator.Add t x y = converted-fits t (x +ℤ y)
fits operator.Subtract t x y = converted-fits t (x -ℤ y)
fits operator.Multiply t x y = converted-fits t (x *ℤ y)
fits operator.Divide t x y = converted-fits t (int_div x y)
fits operator.Remainder t x y = converted-fits t (int_rem x y)
fits operator.And t x y = converted-fits t (pos (bit_and (word x) (word y)))
fits operator.Or t x y = converted-fits t (pos (bit_or (word x) (word y)))
fits operator.ExclusiveOr t x y = converted-fits t (pos (bit_xor (word x) (word y)))
fits operator.ShiftLeft t x y = converted-fits t (x *ℤ pos (2 ^ shift_amount t y))
fits operator.ShiftRight t x y = converted-fits t (int_div_euclid x (pos (2 ^ shift_amount t y)))
fits (operator.Compare comparison.Equal) t x y = truth-fits (int_eq x y)
fits (operator.Compare comparison.Different) t x y = truth-fits (not (int_eq x y))
fits (operator.Compare comparison.Less) t x y = truth-fits (int_lt x y)
fits (operator.Compare comparison.LessOrEqual) t x y = truth-fits (int_le x y)
fits (operator.Compare comparison.Greater) t x y = truth-fits (int_lt y x)
fits (operator.Compare comparison.GreaterOrEqual) t x y = truth-fits (int_le y x)

right-integer : (o : Operator) (types : Typing) (b : Temp) (i : IntegerType) → IsRightOperand o types b i → HoldsInteger types b
right-integer operator.ShiftLeft types b i h = h
right-integer operator.ShiftRight types b i h = h
right-integer other types b i h = (i, h)

module _ (k : Context) (a : Around) (solved : IsSolvedFor k a.setting) (types after : Typing) (c : Local) (facts : AreFacts k a types c) where
  abbrev alone_of : UnaryOperator → IntegerType → Value → Act Value
  alone_of o i v = as_integer v >>= (λ x. done (Integer (computed_alone o i x)))

  alone : (o : UnaryOperator) (i j : IntegerType) (v : Value) → IsHeldAs a.setting k.sites c.state.memory a.depth (IntegerOf j) v
      → Gives (alone_of o i v c.state) (Given k a solved types after c facts (IntegerOf i))
  alone o i j (Address p) h = absurd h
  alone Negate i j (Integer x) h = (refl, converted-fits i (neg_ℤ x))
  alone Complement i j (Integer x) h = (refl, converted-fits i (negsuc 0 -ℤ x))

  abbrev both_of : Place → Operator → IntegerType → Value → Value → Act Value
  both_of at o i v u =
      as_integer v >>= (λ x. as_integer u >>= (λ y. calculate a.setting at (operator_of o) i x y >>= (λ z. done (Integer z))))

  both : (at : Place) (o : Operator) (i j l : IntegerType) (v u : Value) → IsHeldAs a.setting k.sites c.state.memory a.depth (IntegerOf j) v
      → IsHeldAs a.setting k.sites c.state.memory a.depth (IntegerOf l) u
      → Gives (both_of at o i v u c.state) (Given k a solved types after c facts (IntegerOf (result_type o i)))
  both at o i j l (Address p) u h g = absurd h
  both at o i j l (Integer x) (Address p) h g = absurd g
  both at o i j l (Integer x) (Integer y) h g =
      gives-from (λ z r. (r.memory ≡ c.state.memory) × (z ≡ computed (operator_of o) i x y))
      (Given k a solved types after c facts (IntegerOf (result_type o i))) (calculate a.setting at (operator_of o) i x y c.state)
      (λ z. done (Integer z)) (by (divides (operator_of o)))
      (λ z r e. (e.0, subst (λ n. converted (result_type o i) n ≡ n) (sym e.1) (fits o i x y)))
    where
      by : (b : Bool) → Gives (from (either b (checked a.setting at (CanDivide i x y)) (done tt) c.state) (λ e. done (computed (operator_of o) i x y)))
          (λ z r. (r.memory ≡ c.state.memory) × (z ≡ computed (operator_of o) i x y))
      by true =
          gives-tried a.setting at (CanDivide i x y) (done (computed (operator_of o) i x y)) c.state
          (λ z r. (r.memory ≡ c.state.memory) × (z ≡ computed (operator_of o) i x y)) (λ e. (refl, refl))
      by false = (refl, refl)

  pub calculate-keeps : (i : Calculate) → IsShaped (instr.Calculate i) k types after → GoesOn (act (instr.Calculate i) a c) (AreFactsBehind k a after c)
  calculate-keeps (calculate.Negate into x t) s =
      goes-held k a solved types after c facts (instr.Calculate (calculate.Negate into x t)) into (IntegerOf s.0)
      (calculated_alone a.setting Negate t (c.temps x) c.state) s s.3
      (subst (λ sh. Gives (alone_of Negate (integer_of_shape sh) (c.temps x) c.state) (Given k a solved types after c facts (IntegerOf s.0)))
      (sym (shape-in k a solved t (shape.Integer (s.0).bytes (s.0).signed) s.1.1))
      (alone Negate s.0 s.0 (c.temps x) (facts.held x (IntegerOf s.0) s.2.1)))
  calculate-keeps (calculate.Complement into x t) s =
      goes-held k a solved types after c facts (instr.Calculate (calculate.Complement into x t)) into (IntegerOf s.0)
      (calculated_alone a.setting Complement t (c.temps x) c.state) s s.3
      (subst (λ sh. Gives (alone_of Complement (integer_of_shape sh) (c.temps x) c.state) (Given k a solved types after c facts (IntegerOf s.0)))
      (sym (shape-in k a solved t (shape.Integer (s.0).bytes (s.0).signed) s.1.1))
      (alone Complement s.0 s.0 (c.temps x) (facts.held x (IntegerOf s.0) s.2.1)))
  calculate-keeps (calculate.Binary into o x y t at) s =
      let r = right-integer o types y s.0 s.3 in
      goes-held k a solved types after c facts (instr.Calculate (calculate.Binary into o x y t at)) into (IntegerOf (result_type o s.0))
      (calculated a.setting at (operator_of o) t (c.temps x) (c.temps y) c.state) s s.4
      (subst
      (λ sh. Gives (both_of at o (integer_of_shape sh) (c.temps x) (c.temps y) c.state)
      (Given k a solved types after c facts (IntegerOf (result_type o s.0))))
      (sym (shape-in k a solved t (shape.Integer (s.0).bytes (s.0).signed) s.1.1))
      (both at o s.0 s.0 r.0 (c.temps x) (c.temps y) (facts.held x (IntegerOf s.0) s.2.1) (facts.held y (IntegerOf r.0) r.1.1)))
  calculate-keeps (calculate.Truth into x) s =
      goes-held k a solved types after c facts (instr.Calculate (calculate.Truth into x)) into (IntegerOf int)
      (Done (Integer (truth (is_true (c.temps x)))) c.state) s s.1 (refl, truth-fits (is_true (c.temps x)))
  calculate-keeps (calculate.Not into x) s =
      goes-held k a solved types after c facts (instr.Calculate (calculate.Not into x)) into (IntegerOf int)
      (Done (Integer (truth (not (is_true (c.temps x))))) c.state) s s.1 (refl, truth-fits (not (is_true (c.temps x))))
