-- Operators of one operand: the negative and the complement of an integer.
use Rattle.std.proofs.Common.{◌≡◌, ℕ, zero, suc, ◌+◌, ◌-◌, ◌*◌, ◌/◌, ◌%◌, ◌^◌, ◌<◌, ℤ, pos, negsuc, ◌-ℤ◌, neg_ℤ, ◌∷◌, ◌++◌, refl, ap, sym, subst, ◌∙◌, arith, pow-suc}
use Rattle.std.specs.Prelude.{bit_xor}
use Rattle.std.proofs.lemmas.Bool.Decides.{nat_tests}
use Rattle.std.proofs.lemmas.Nat.{xor_mod, xor_lt, xor_block}
use Rattle.cc_base.specs.declared.number.TypeId.{TypeId}
use Rattle.integers.specs.Words.{word, residue}
use Rattle.integers.specs.Operators.{difference_words}
use Rattle.integers.specs.Arithmetic as integer
use Rattle.integers.specs.Arithmetic.{IntegerType, converted, bits_of}
use Rattle.runs.specs.Outcome.{Outcome, Done, Matches}
use Rattle.flat_mem.specs.Bytes.{IsAccessSize}
use Rattle.src_mem.specs.Pointers.{Value, Integer}
use Rattle.src_mem.specs.State as source
use Rattle.src_mem.specs.Values.{calculated_alone}
use Rattle.cil_form.specs.declared.number.Temp.{Temp}
use Rattle.cil_form.specs.declared.instr.Calculate.TheVariants as calculate
use Rattle.cil_form.specs.declared.instr.Instr.TheVariants as instr
use Rattle.cil_form.specs.Meaning as meaning
use Rattle.cured_code.specs.declared.instr.Instr.TheVariants as flat_instr
use Rattle.cured_code.specs.FlatState.{slot, with_slot}
use Rattle.cured_code.specs.FlatMachine.{run}
use Rattle.check_forms.specs.Pieces.{Line, Then}
use Rattle.sim_relation.specs.Points.{Low, HoldsAs, Knowledge}
use Rattle.cure_rules.specs.Slots.{AreSlots, Mask}
use Rattle.cure_rules.specs.Setting.{IsCuringCalculate}
use Rattle.cure_rules.specs.Code.{Blocks}
use Rattle.sim_laws.specs.Scenes.{Scene, Running, setting_of, world_of, around_of, context_of}
use Rattle.sim_laws.specs.Points.{Point}
use Rattle.sim_laws.specs.Statements.{Lines, FlatOutcome, StatesEndAlike, Match, Follows}
use Rattle.sim_laws.proofs.Guards.{Got, got-number}
use Rattle.sim_laws.proofs.Giving.{Gave, gives-follows}
use Rattle.sim_laws.proofs.Calculations.{Operand, lowly, integer_type, low-gives}
use Rattle.sim_laws.proofs.Integers.{width-of, IsWidth, one, two, four, eight}
use Rattle.sim_laws.proofs.Reckoning.{low-difference, low-word, of-word}
use Rattle.sim_laws.proofs.Checks.{passed-point}

zero-minus : (z : ℤ) → pos 0 -ℤ z ≡ neg_ℤ z
zero-minus (pos zero) = refl
zero-minus (pos (suc n)) = grind (arith, nat_tests)
zero-minus (negsuc n) = grind (arith, nat_tests)

pub negate-follows : (w : Scene) (g : AreSlots w.slots) (b : Running) (into a : Temp) (t : TypeId) (known after : Knowledge) (blocks : Blocks) (lines : Lines)
    → IsCuringCalculate (calculate.Negate into a t) (world_of w) known after lines
    → Follows w g b blocks known after (meaning.act (instr.Calculate (calculate.Negate into a t)) (around_of w b)) lines
unfolding Line Then
negate-follows w g b into a t known after blocks lines (i, p, f, plain, ha, takes, (first, rest, is_first, narrows, is), leave) l c point =
    subst (λ (js : Lines). Goal (run js (context_of w b) c)) (sym (is ∙ ap (λ (js : Lines). js ++ rest) is_first)) (by (lowly w g b known l c point a i p plain.1 ha))
  where
    n : ℕ
    n = difference_words (slot c w.slots.nought) (slot c p)

    Goal : FlatOutcome → Type 0
    Goal o = Match w g b after blocks (meaning.act (instr.Calculate (calculate.Negate into a t)) (around_of w b) l) o

    Part : Outcome source.Ending source.State Value → Type 0
    Part o = Matches (Gave w g b known after into l c) (λ e s k d. StatesEndAlike w.programs e s k d.state) o (run rest (context_of w b) (with_slot (w.slots.column into) n c))

    by : Operand l c a i p Low → Goal (run rest (context_of w b) (with_slot (w.slots.column into) n c))
    by m = gives-follows w g b known after blocks into l c point (calculated_alone (setting_of w.programs) integer.Negate t (l.temps a) l.state)
        (run rest (context_of w b) (with_slot (w.slots.column into) n c))
        (subst (λ (u : Value). Part (calculated_alone (setting_of w.programs) integer.Negate t u l.state)) (sym m.value)
        (subst (λ (k : IntegerType). Part (Done (Integer (converted k (neg_ℤ m.z))) l.state)) (sym (integer_type w t i plain.0))
        (low-gives w g b known after into l c point i f rest plain.1 takes narrows leave (neg_ℤ m.z) n
        (subst (λ (z : ℤ). HoldsAs Low i z n) (zero-minus m.z) (of-word i plain.1 (pos 0 -ℤ m.z) n low)) (omega arith))))
      where
        low : n % 2 ^ bits_of i ≡ word (pos 0 -ℤ m.z) % 2 ^ bits_of i
        low = ap (λ (k : ℕ). difference_words k (slot c p) % 2 ^ bits_of i) point.nought
            ∙ low-difference (2 ^ bits_of i) (width-of i.bytes plain.1) (pos 0) m.z 0 (slot c p) m.below refl (low-word i plain.1 m.z (slot c p) m.holds)

-- The complement

flipped : (r : ℕ) → r < 2 → bit_xor r 1 ≡ 1 - r
flipped zero h = refl
flipped (suc zero) h = refl
flipped (suc (suc n)) h = absurd (omega (arith, h))

-- each bit of a number of k bits is turned
complement : (k a : ℕ) → a < 2 ^ k → bit_xor a (2 ^ k - 1) ≡ 2 ^ k - 1 - a
complement zero a h = let e : a ≡ 0 = omega (arith, h) in ap (λ (n : ℕ). bit_xor n 0) e ∙ (let f : 0 ≡ 0 - a = omega (arith, e) in f)
complement (suc k) a h =
    ap (λ (n : ℕ). bit_xor n (2 ^ suc k - 1)) parts ∙ ap (λ (n : ℕ). bit_xor (a / 2 * 2 ^ 1 + a % 2) n) ones
    ∙ xor_block 1 (a / 2) (2 ^ k - 1) (a % 2) 1 (omega arith) (omega arith)
    ∙ ap (λ (n : ℕ). n * 2 ^ 1 + bit_xor (a % 2) 1) (complement k (a / 2) half) ∙ ap (λ (n : ℕ). (2 ^ k - 1 - a / 2) * 2 ^ 1 + n) (flipped (a % 2) (omega arith))
    ∙ (let p = twice in let q = half in omega (arith, p, q))
  where
    twice : 2 ^ suc k ≡ 2 ^ k * 2
    twice = pow-suc 2 k

    parts : a ≡ a / 2 * 2 ^ 1 + a % 2
    parts = omega arith

    half : a / 2 < 2 ^ k
    half = let p = twice in omega (arith, h, p)

    ones : 2 ^ suc k - 1 ≡ (2 ^ k - 1) * 2 ^ 1 + 1
    ones = let p = twice in let q : 0 < 2 ^ k = omega (arith, half) in omega (arith, p, q)

-- with all bits of a word
complement-modulo : (k a : ℕ) → 2 ^ k - 1 ≡ (2 ^ 64 - 1) % 2 ^ k → 0 < 2 ^ k → a % 2 ^ k < 2 ^ k → bit_xor a (2 ^ 64 - 1) % 2 ^ k ≡ 2 ^ k - 1 - a % 2 ^ k
complement-modulo k a ones some below = xor_mod a (2 ^ 64 - 1) k ∙ ap (bit_xor (a % 2 ^ k)) (sym ones) ∙ complement k (a % 2 ^ k) below

complement-residue : (m : ℕ) → IsWidth m → (z : ℤ) → residue (negsuc 0 -ℤ z) m ≡ m - 1 - residue z m
complement-residue m one (pos n) = grind (arith, nat_tests)
complement-residue m two (pos n) = grind (arith, nat_tests)
complement-residue m four (pos n) = grind (arith, nat_tests)
complement-residue m eight (pos n) = grind (arith, nat_tests)
complement-residue m one (negsuc n) = grind (arith, nat_tests)
complement-residue m two (negsuc n) = grind (arith, nat_tests)
complement-residue m four (negsuc n) = grind (arith, nat_tests)
complement-residue m eight (negsuc n) = grind (arith, nat_tests)

ones-of : (m : ℕ) → IsWidth m → m - 1 ≡ (2 ^ 64 - 1) % m
ones-of m one = refl
ones-of m two = refl
ones-of m four = refl
ones-of m eight = refl

low-complement : (i : IntegerType) → IsAccessSize i.bytes → (z : ℤ) (n : ℕ) → HoldsAs Low i z n → HoldsAs Low i (negsuc 0 -ℤ z) (bit_xor n (2 ^ 64 - 1))
low-complement i size z n h =
    complement-modulo (bits_of i) n (ones-of (2 ^ bits_of i) width) (some (2 ^ bits_of i) width) (below (2 ^ bits_of i) width n)
    ∙ ap (λ (k : ℕ). 2 ^ bits_of i - 1 - k) h ∙ sym (complement-residue (2 ^ bits_of i) width z)
  where
    width : IsWidth (2 ^ bits_of i)
    width = width-of i.bytes size

    some : (m : ℕ) → IsWidth m → 0 < m
    some m one = omega arith
    some m two = omega arith
    some m four = omega arith
    some m eight = omega arith

    below : (m : ℕ) → IsWidth m → (n : ℕ) → n % m < m
    below m one n = omega arith
    below m two n = omega arith
    below m four n = omega arith
    below m eight n = omega arith

pub complement-follows : (w : Scene) (g : AreSlots w.slots) (b : Running) (into a : Temp) (t : TypeId) (known after : Knowledge) (blocks : Blocks) (lines : Lines)
    → IsCuringCalculate (calculate.Complement into a t) (world_of w) known after lines
    → Follows w g b blocks known after (meaning.act (instr.Calculate (calculate.Complement into a t)) (around_of w b)) lines
unfolding Line Then
complement-follows w g b into a t known after blocks lines (i, p, f, seat, plain, ha, takes, (first, more, gets, (line, rest, is_line, narrows, is_more), is), leave) l c point =
    subst (λ (js : Lines). Goal (run js (context_of w b) c)) (sym (is ∙ ap (λ (js : Lines). first ++ js) (is_more ∙ ap (λ (js : Lines). js ++ rest) is_line)))
    (of (got-number w g b known l c point Mask (omega arith) (2 ^ 64 - 1) (seat Mask) first gets))
  where
    Goal : FlatOutcome → Type 0
    Goal o = Match w g b after blocks (meaning.act (instr.Calculate (calculate.Complement into a t)) (around_of w b) l) o

    of : Got w g (context_of w b) first c (seat Mask) (2 ^ 64 - 1)
        → Goal (run (first ++ (flat_instr.Xor (w.slots.column into) p (seat Mask) ∷ rest)) (context_of w b) c)
    of z = subst Goal (sym (z.runs (flat_instr.Xor (w.slots.column into) p (seat Mask) ∷ rest))) (by (lowly w g b known l z.after at a i p plain.1 ha))
      where
        at : Point w g b known l z.after
        at = passed-point w g b known l c z.after point z.state z.passed

        n : ℕ
        n = bit_xor (slot z.after p) (slot z.after (seat Mask))

        Part : Outcome source.Ending source.State Value → Type 0
        Part o = Matches (Gave w g b known after into l z.after) (λ e s k d. StatesEndAlike w.programs e s k d.state) o
            (run rest (context_of w b) (with_slot (w.slots.column into) n z.after))

        by : Operand l z.after a i p Low → Goal (run rest (context_of w b) (with_slot (w.slots.column into) n z.after))
        by m = gives-follows w g b known after blocks into l z.after at (calculated_alone (setting_of w.programs) integer.Complement t (l.temps a) l.state)
            (run rest (context_of w b) (with_slot (w.slots.column into) n z.after))
            (subst (λ (u : Value). Part (calculated_alone (setting_of w.programs) integer.Complement t u l.state)) (sym m.value)
            (subst (λ (k : IntegerType). Part (Done (Integer (converted k (negsuc 0 -ℤ m.z))) l.state)) (sym (integer_type w t i plain.0))
            (low-gives w g b known after into l z.after at i f rest plain.1 takes narrows leave (negsuc 0 -ℤ m.z) n
            (subst (λ (k : ℕ). HoldsAs Low i (negsuc 0 -ℤ m.z) (bit_xor (slot z.after p) k)) (sym z.is) (low-complement i plain.1 m.z (slot z.after p) m.holds))
            (subst (λ (k : ℕ). bit_xor (slot z.after p) k < 2 ^ 64) (sym z.is) (xor_lt 64 (slot z.after p) (2 ^ 64 - 1) m.below (omega arith))))))
