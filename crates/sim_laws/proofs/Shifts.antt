-- Shifts by an amount that is taken modulo the width of the left operand.
use Rattle.std.proofs.Common.{◌≡◌, ℕ, ◌-◌, ◌*◌, ◌/◌, ◌%◌, ◌^◌, ◌<◌, inl, inr, ℤ, pos, negsuc, Bool, true, false, [], ◌∷◌, ◌++◌, refl, ap, sym, subst, ◌∙◌, arith, if◌then◌else◌, get_or-set_same, div-le_self}
use Rattle.std.specs.Prelude.{◌*ℤ◌, bit_and}
use Rattle.std.specs.Int.{int_div_euclid}
use Rattle.std.proofs.lemmas.Nat.{and_mask}
use Rattle.cc_base.specs.declared.number.TypeId.{TypeId}
use Rattle.cc_base.specs.declared.place.Place.{Place}
use Rattle.integers.specs.Words.{word, residue}
use Rattle.integers.specs.Operators.{signed, shifted_left, shifted_right, shifted_down, shifted_signed}
use Rattle.integers.specs.Arithmetic.{IntegerType, converted, bits_of, shift_amount}
use Rattle.integers.proofs.WordLaws.{word-small}
use Rattle.runs.specs.Outcome.{Outcome, Done, Matches}
use Rattle.runs.specs.Control.{Goes}
use Rattle.flat_mem.specs.Bytes.{IsAccessSize}
use Rattle.src_mem.specs.Pointers.{Value, Integer}
use Rattle.src_mem.specs.State as source
use Rattle.src_mem.specs.Values.{calculated}
use Rattle.cil_form.specs.declared.number.Temp.{Temp}
use Rattle.cil_form.specs.declared.instr.Operator.TheVariants as operator
use Rattle.cil_form.specs.declared.instr.Calculate.TheVariants as calculate
use Rattle.cil_form.specs.declared.instr.Instr.TheVariants as instr
use Rattle.cil_form.specs.State as code
use Rattle.cil_form.specs.Meaning as meaning
use Rattle.cured_code.specs.declared.instr.Instr as flat_code
use Rattle.cured_code.specs.declared.instr.Instr.TheVariants as flat_instr
use Rattle.cured_code.specs.FlatState as flat
use Rattle.cured_code.specs.FlatState.{slot, with_slot}
use Rattle.cured_code.specs.FlatMachine.{run}
use Rattle.check_forms.specs.Pieces.{Line, Then}
use Rattle.check_forms.proofs.TestLaws.{append-append}
use Rattle.sim_relation.specs.Points.{Exact, Low, HoldsAs, Knowledge}
use Rattle.cure_rules.specs.Slots.{AreSlots, First, Mask, slot_of}
use Rattle.cure_rules.specs.Checks.{Seat}
use Rattle.cure_rules.specs.Setting.{Masks, IsCuringCalculate}
use Rattle.cure_rules.specs.Code.{Blocks}
use Rattle.sim_laws.specs.Scenes.{Scene, Running, setting_of, world_of, around_of, context_of}
use Rattle.sim_laws.specs.Points.{Point}
use Rattle.sim_laws.specs.Statements.{Lines, FlatOutcome, StatesEndAlike, Match, Follows}
use Rattle.sim_laws.proofs.Guards.{passed-role, role-there, Got, got-number}
use Rattle.sim_laws.proofs.Giving.{Gave, gives-follows}
use Rattle.sim_laws.proofs.Calculations.{Operand, lowly, exactly, integer_type, low-gives, exact-gives}
use Rattle.sim_laws.proofs.Integers.{width-of}
use Rattle.sim_laws.proofs.Reckoning.{low-product}
use Rattle.sim_laws.proofs.Comparisons.{width-most, signed-exact}
use Rattle.sim_laws.proofs.Ranges.{IsNearer, in-range, nearer-in}
use Rattle.sim_laws.proofs.Checks.{passed-point}

-- The amount

-- the low bits of a word are the integer modulo the width
amount-word : (n : ℕ) → IsAccessSize n → (z : ℤ) → bit_and (word z) (8 * n - 1) ≡ residue z (8 * n)
amount-word n (inl e) z = subst (λ (k : ℕ). bit_and (word z) (8 * k - 1) ≡ residue z (8 * k)) (sym e) (and_mask (word z) 3 ∙ by z)
  where
    by : (z : ℤ) → word z % 8 ≡ residue z 8
    by (pos n) = omega arith
    by (negsuc n) = omega arith
amount-word n (inr (inl e)) z = subst (λ (k : ℕ). bit_and (word z) (8 * k - 1) ≡ residue z (8 * k)) (sym e) (and_mask (word z) 4 ∙ by z)
  where
    by : (z : ℤ) → word z % 16 ≡ residue z 16
    by (pos n) = omega arith
    by (negsuc n) = omega arith
amount-word n (inr (inr (inl e))) z = subst (λ (k : ℕ). bit_and (word z) (8 * k - 1) ≡ residue z (8 * k)) (sym e) (and_mask (word z) 5 ∙ by z)
  where
    by : (z : ℤ) → word z % 32 ≡ residue z 32
    by (pos n) = omega arith
    by (negsuc n) = omega arith
amount-word n (inr (inr (inr e))) z = subst (λ (k : ℕ). bit_and (word z) (8 * k - 1) ≡ residue z (8 * k)) (sym e) (and_mask (word z) 6 ∙ by z)
  where
    by : (z : ℤ) → word z % 64 ≡ residue z 64
    by (pos n) = omega arith
    by (negsuc n) = omega arith

-- it is less than 64
amount-below : (n : ℕ) → IsAccessSize n → (z : ℤ) → residue z (8 * n) % 64 ≡ residue z (8 * n)
amount-below n (inl e) (pos z) = subst (λ (k : ℕ). residue (pos z) (8 * k) % 64 ≡ residue (pos z) (8 * k)) (sym e) (omega arith)
amount-below n (inl e) (negsuc z) = subst (λ (k : ℕ). residue (negsuc z) (8 * k) % 64 ≡ residue (negsuc z) (8 * k)) (sym e) (omega arith)
amount-below n (inr (inl e)) (pos z) = subst (λ (k : ℕ). residue (pos z) (8 * k) % 64 ≡ residue (pos z) (8 * k)) (sym e) (omega arith)
amount-below n (inr (inl e)) (negsuc z) = subst (λ (k : ℕ). residue (negsuc z) (8 * k) % 64 ≡ residue (negsuc z) (8 * k)) (sym e) (omega arith)
amount-below n (inr (inr (inl e))) (pos z) = subst (λ (k : ℕ). residue (pos z) (8 * k) % 64 ≡ residue (pos z) (8 * k)) (sym e) (omega arith)
amount-below n (inr (inr (inl e))) (negsuc z) = subst (λ (k : ℕ). residue (negsuc z) (8 * k) % 64 ≡ residue (negsuc z) (8 * k)) (sym e) (omega arith)
amount-below n (inr (inr (inr e))) (pos z) = subst (λ (k : ℕ). residue (pos z) (8 * k) % 64 ≡ residue (pos z) (8 * k)) (sym e) (omega arith)
amount-below n (inr (inr (inr e))) (negsuc z) = subst (λ (k : ℕ). residue (negsuc z) (8 * k) % 64 ≡ residue (negsuc z) (8 * k)) (sym e) (omega arith)

-- one temporary holds one integer
same-integer : (l : code.Local) (y : Temp) (j : IntegerType) (q : ℕ) {c d : flat.Local} → (m : Operand l d y j q Exact) (n : Operand l c y j q Exact) → m.z ≡ n.z
same-integer l y j q m n = let e : Integer m.z ≡ Integer n.z = sym m.value ∙ n.value in cc (e)

-- behind the lines that take the low bits of slot q the first working slot holds the amount
record Masked (w : Scene) (g : AreSlots w.slots) (b : Running) (known : Knowledge) (l : code.Local) (c : flat.Local) (lines : Lines) (amount : ℕ) : Type 0 where
  after : flat.Local
  point : Point w g b known l after
  runs : (rest : Lines) → run (lines ++ rest) (context_of w b) c ≡ run rest (context_of w b) after
  is : slot after (slot_of w.slots First) ≡ amount

masked : (w : Scene) (g : AreSlots w.slots) (b : Running) (known : Knowledge) (l : code.Local) (c : flat.Local) → Point w g b known l c
    → (i j : IntegerType) → IsAccessSize i.bytes → (y : Temp) (q : ℕ) (o : Operand l c y j q Exact)
    → ((d : flat.Local) → Point w g b known l d → slot d q ≡ word o.z)
    → (seat : Seat) (lines : Lines) → Masks (world_of w) seat i q lines → Masked w g b known l c lines (shift_amount i o.z)
unfolding Line Then
masked w g b known l c p i j size y q o stays seat lines (first, line, gets, is_line, is) =
    subst (λ (js : Lines). Masked w g b known l c js (shift_amount i o.z)) (sym (is ∙ ap (λ (js : Lines). first ++ js) is_line))
    (of (got-number w g b known l c p Mask (omega arith) (bits_of i - 1) (seat Mask) first gets))
  where
    of : Got w g (context_of w b) first c (seat Mask) (bits_of i - 1)
        → Masked w g b known l c (first ++ (flat_instr.And (slot_of w.slots First) q (seat Mask) ∷ [])) (shift_amount i o.z)
    of z = record {
      after = with_slot (slot_of w.slots First) n z.after;
      point = passed-point w g b known l z.after (with_slot (slot_of w.slots First) n z.after) at refl (passed-role w g z.after.slots First n);
      runs = λ rest. ap (λ (js : Lines). run js (context_of w b) c) (append-append first (flat_instr.And (slot_of w.slots First) q (seat Mask) ∷ []) rest)
          ∙ z.runs (flat_instr.And (slot_of w.slots First) q (seat Mask) ∷ rest);
      is = get_or-set_same z.after.slots (slot_of w.slots First) n 0 (let h = role-there w g First in let e = at.count in omega (arith, h, e))
          ∙ ap (λ (k : ℕ). bit_and k (slot z.after (seat Mask))) (stays z.after at) ∙ ap (bit_and (word o.z)) z.is ∙ amount-word i.bytes size o.z;
    }
      where
        at : Point w g b known l z.after
        at = passed-point w g b known l c z.after p z.state z.passed

        n : ℕ
        n = bit_and (slot z.after q) (slot z.after (seat Mask))

-- Shifts to the left

shift-left : (i : IntegerType) → IsAccessSize i.bytes → (x : ℤ) (a s : ℕ) → s % 64 ≡ s → HoldsAs Low i x a → HoldsAs Low i (x *ℤ pos (2 ^ s)) (shifted_left a s)
shift-left i size x a s few h =
    ap (λ (k : ℕ). ((a * 2 ^ k) % 2 ^ 64) % 2 ^ bits_of i) few ∙ low-product (2 ^ bits_of i) (width-of i.bytes size) x (pos (2 ^ s)) a (2 ^ s) h refl

pub shift-left-follows : (w : Scene) (g : AreSlots w.slots) (b : Running) (into x y : Temp) (t : TypeId) (at : Place) (known after : Knowledge) (blocks : Blocks)
    (lines : Lines) → IsCuringCalculate (calculate.Binary into operator.ShiftLeft x y t at) (world_of w) known after lines
    → Follows w g b blocks known after (meaning.act (instr.Calculate (calculate.Binary into operator.ShiftLeft x y t at)) (around_of w b)) lines
unfolding Line Then
shift-left-follows w g b into x y t at known after blocks lines
    (i, j, p, q, seat, f, plain, hx, hy, takes, (first, more, masks, (line, rest, is_line, narrows, is_more), is), leave) l c point =
    subst (λ (js : Lines). Goal (run js (context_of w b) c)) (sym (is ∙ ap (λ (js : Lines). first ++ js) (is_more ∙ ap (λ (js : Lines). js ++ rest) is_line)))
    (of (exactly w g b known l c point y j q hy))
  where
    Goal : FlatOutcome → Type 0
    Goal o = Match w g b after blocks (meaning.act (instr.Calculate (calculate.Binary into operator.ShiftLeft x y t at)) (around_of w b) l) o

    last : flat_code.Instr
    last = flat_instr.Shl (w.slots.column into) p (slot_of w.slots First)

    of : Operand l c y j q Exact → Goal (run (first ++ (last ∷ rest)) (context_of w b) c)
    of o = behind (masked w g b known l c point i j plain.1 y q o
        (λ d r. (exactly w g b known l d r y j q hy).holds ∙ ap word (same-integer l y j q (exactly w g b known l d r y j q hy) o)) seat first masks)
      where
        behind : Masked w g b known l c first (shift_amount i o.z) → Goal (run (first ++ (last ∷ rest)) (context_of w b) c)
        behind k = subst Goal (sym (k.runs (last ∷ rest))) (by (lowly w g b known l k.after k.point x i p plain.1 hx))
          where
            n : ℕ
            n = shifted_left (slot k.after p) (slot k.after (slot_of w.slots First))

            result : Value → Value → Outcome source.Ending source.State Value
            result u r = calculated (setting_of w.programs) at (meaning.operator_of operator.ShiftLeft) t u r l.state

            Part : Outcome source.Ending source.State Value → Type 0
            Part r = Matches (Gave w g b known after into l k.after) (λ e s h d. StatesEndAlike w.programs e s h d.state) r
                (run rest (context_of w b) (with_slot (w.slots.column into) n k.after))

            by : Operand l k.after x i p Low → Goal (run rest (context_of w b) (with_slot (w.slots.column into) n k.after))
            by m = gives-follows w g b known after blocks into l k.after k.point (result (l.temps x) (l.temps y))
                (run rest (context_of w b) (with_slot (w.slots.column into) n k.after))
                (subst (λ (u : Value). Part (result u (l.temps y))) (sym m.value) (subst (λ (u : Value). Part (result (Integer m.z) u)) (sym o.value)
                (subst (λ (h : IntegerType). Part (Done (Integer (converted h (m.z *ℤ pos (2 ^ shift_amount h o.z)))) l.state)) (sym (integer_type w t i plain.0))
                (low-gives w g b known after into l k.after k.point i f rest plain.1 takes narrows leave (m.z *ℤ pos (2 ^ shift_amount i o.z)) n
                (subst (λ (s : ℕ). HoldsAs Low i (m.z *ℤ pos (2 ^ shift_amount i o.z)) (shifted_left (slot k.after p) s)) (sym k.is)
                (shift-left i plain.1 m.z (slot k.after p) (shift_amount i o.z) (amount-below i.bytes plain.1 o.z) m.holds)) (omega arith)))))

-- Shifts to the right

abbrev shifted_by : Bool → ℕ → ℕ → ℕ
shifted_by true a s = shifted_signed a s
shifted_by false a s = shifted_right a s

nearer-down : (x : ℤ) (k : ℕ) → IsNearer (int_div_euclid x (pos k)) x
nearer-down (pos n) k = div-le_self n k
nearer-down (negsuc n) k = div-le_self n k

shift-right : (i : IntegerType) → IsAccessSize i.bytes → (x : ℤ) (a s : ℕ) → s % 64 ≡ s → converted i x ≡ x → a ≡ word x
    → shifted_by i.signed a s ≡ word (int_div_euclid x (pos (2 ^ s)))
shift-right i size x a s few range is = by i.signed range
  where
    down : (x : ℤ) → word (shifted_down x s) ≡ word (int_div_euclid x (pos (2 ^ s)))
    down (pos n) = refl
    down (negsuc n) = refl

    unsigned : (x : ℤ) → pos (residue x (2 ^ bits_of i)) ≡ x → word x / 2 ^ s ≡ word (int_div_euclid x (pos (2 ^ s)))
    unsigned (negsuc n) e = absurd (cc (e))
    unsigned (pos n) e =
        let few = width-most i.bytes size in let r : n < 2 ^ (8 * i.bytes) = in-range (record { bytes = i.bytes; signed = false }) size (pos n) e in
        let small : n < 2 ^ 64 = omega (arith, few, r) in
        ap (λ (k : ℕ). k / 2 ^ s) (word-small n small) ∙ sym (word-small (n / 2 ^ s) (let l = div-le_self n (2 ^ s) in omega (arith, l, small)))

    by : (q : Bool) → converted (record { bytes = i.bytes; signed = q }) x ≡ x → shifted_by q a s ≡ word (int_div_euclid x (pos (2 ^ s)))
    by true e = ap (λ (k : ℕ). word (shifted_down (signed a) k)) few ∙ ap (λ (k : ℕ). word (shifted_down (signed k) s)) is
        ∙ ap (λ (z : ℤ). word (shifted_down z s)) (signed-exact i.bytes size x e) ∙ down x
    by false e = ap (λ (k : ℕ). a / 2 ^ k) few ∙ ap (λ (k : ℕ). k / 2 ^ s) is ∙ unsigned x e

shift-runs : (signed : Bool) (v p q : ℕ) (w : Scene) (b : Running) (c : flat.Local)
    → run ((if signed then flat_instr.Sar else flat_instr.Shr) v p q ∷ []) (context_of w b) c ≡ Done Goes (with_slot v (shifted_by signed (slot c p) (slot c q)) c)
shift-runs true v p q w b c = refl
shift-runs false v p q w b c = refl

pub shift-right-follows : (w : Scene) (g : AreSlots w.slots) (b : Running) (into x y : Temp) (t : TypeId) (at : Place) (known after : Knowledge) (blocks : Blocks)
    (lines : Lines) → IsCuringCalculate (calculate.Binary into operator.ShiftRight x y t at) (world_of w) known after lines
    → Follows w g b blocks known after (meaning.act (instr.Calculate (calculate.Binary into operator.ShiftRight x y t at)) (around_of w b)) lines
unfolding Line Then
shift-right-follows w g b into x y t at known after blocks lines
    (i, j, p, q, seat, plain, hx, hy, takes, (first, line, masks, is_line, is), leave) l c point =
    subst (λ (js : Lines). Goal (run js (context_of w b) c)) (sym (is ∙ ap (λ (js : Lines). first ++ js) is_line)) (of (exactly w g b known l c point y j q hy))
  where
    Goal : FlatOutcome → Type 0
    Goal o = Match w g b after blocks (meaning.act (instr.Calculate (calculate.Binary into operator.ShiftRight x y t at)) (around_of w b) l) o

    last : Lines
    last = (if i.signed then flat_instr.Sar else flat_instr.Shr) (w.slots.column into) p (slot_of w.slots First) ∷ []

    of : Operand l c y j q Exact → Goal (run (first ++ last) (context_of w b) c)
    of o = behind (masked w g b known l c point i j plain.1 y q o
        (λ d r. (exactly w g b known l d r y j q hy).holds ∙ ap word (same-integer l y j q (exactly w g b known l d r y j q hy) o)) seat first masks)
      where
        behind : Masked w g b known l c first (shift_amount i o.z) → Goal (run (first ++ last) (context_of w b) c)
        behind k = subst Goal (sym (k.runs last ∙ shift-runs i.signed (w.slots.column into) p (slot_of w.slots First) w b k.after))
            (by (exactly w g b known l k.after k.point x i p hx))
          where
            s : ℕ
            s = shift_amount i o.z

            n : ℕ
            n = shifted_by i.signed (slot k.after p) (slot k.after (slot_of w.slots First))

            result : Value → Value → Outcome source.Ending source.State Value
            result u r = calculated (setting_of w.programs) at (meaning.operator_of operator.ShiftRight) t u r l.state

            Part : Outcome source.Ending source.State Value → Type 0
            Part r = Matches (Gave w g b known after into l k.after) (λ e s h d. StatesEndAlike w.programs e s h d.state) r
                (Done Goes (with_slot (w.slots.column into) n k.after))

            by : Operand l k.after x i p Exact → Goal (Done Goes (with_slot (w.slots.column into) n k.after))
            by m = gives-follows w g b known after blocks into l k.after k.point (result (l.temps x) (l.temps y)) (Done Goes (with_slot (w.slots.column into) n k.after))
                (subst (λ (u : Value). Part (result u (l.temps y))) (sym m.value) (subst (λ (u : Value). Part (result (Integer m.z) u)) (sym o.value)
                (subst (λ (h : IntegerType). Part (Done (Integer (converted h (int_div_euclid m.z (pos (2 ^ shift_amount h o.z))))) l.state)) (sym (integer_type w t i plain.0))
                (subst (λ (z : ℤ). Part (Done (Integer z) l.state)) (sym range)
                (exact-gives w g b known after into l k.after k.point i plain.1 takes leave (int_div_euclid m.z (pos (2 ^ s))) range n
                (ap (shifted_by i.signed (slot k.after p)) k.is
                ∙ shift-right i plain.1 m.z (slot k.after p) s (amount-below i.bytes plain.1 o.z) m.range m.holds))))))
              where
                range : converted i (int_div_euclid m.z (pos (2 ^ s))) ≡ int_div_euclid m.z (pos (2 ^ s))
                range = nearer-in i plain.1 (int_div_euclid m.z (pos (2 ^ s))) m.z (nearer-down m.z (2 ^ s)) m.range
