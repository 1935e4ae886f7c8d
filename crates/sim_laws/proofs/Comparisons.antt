-- Comparisons of integers that stand exactly in slots.
use Rattle.std.proofs.Common.{◌≡◌, ◌≢◌, ℕ, ◌+◌, ◌-◌, ◌*◌, ◌%◌, ◌^◌, ◌<◌, ◌≤◌, inl, inr, ℤ, pos, negsuc, Bool, true, false, not, List, [], ◌∷◌, length, slice_index, slice_set, refl, ap, sym, subst, ◌∙◌, arith, if◌then◌else◌, nat_eq, nat_lt, int_eq, length-set, get_or-set_other, get_or-set_same}
use Rattle.std.specs.Prelude.{int_lt, int_le}
use Rattle.std.proofs.lemmas.Bool.Decides.{nat_tests}
use Rattle.cc_base.specs.declared.number.TypeId.{TypeId}
use Rattle.cc_base.specs.declared.place.Place.{Place}
use Rattle.integers.specs.Words.{word, residue, as_signed, truth_word, equal_words, different_words}
use Rattle.integers.specs.Operators.{signed, less_words, less_signed}
use Rattle.integers.specs.Arithmetic.{IntegerType, int, converted, bits_of, truth}
use Rattle.integers.proofs.WordLaws.{word-small, word-below}
use Rattle.integers.proofs.SignedLaws.{not-truth}
use Rattle.runs.specs.Outcome.{Outcome, Done, Matches}
use Rattle.runs.specs.Control.{Goes}
use Rattle.flat_mem.specs.Bytes.{IsAccessSize}
use Rattle.src_mem.specs.Pointers.{Value, Integer}
use Rattle.src_mem.specs.State as source
use Rattle.src_mem.specs.State.{Setting}
use Rattle.src_mem.specs.Values.{calculated}
use Rattle.cil_form.specs.declared.number.Temp.{Temp}
use Rattle.cil_form.specs.declared.instr.Comparison.{Comparison}
use Rattle.cil_form.specs.declared.instr.Comparison.TheVariants as comparison
use Rattle.cil_form.specs.declared.instr.Operator.TheVariants as operator
use Rattle.cil_form.specs.declared.instr.Calculate.TheVariants as calculate
use Rattle.cil_form.specs.declared.instr.Instr.TheVariants as instr
use Rattle.cil_form.specs.Meaning as meaning
use Rattle.cil_form.specs.Meaning.{operator_of_comparison}
use Rattle.cured_code.specs.declared.instr.Instr.{Instr}
use Rattle.cured_code.specs.declared.instr.Instr.TheVariants as flat_instr
use Rattle.cured_code.specs.FlatState as flat
use Rattle.cured_code.specs.FlatState.{slot, with_slot}
use Rattle.cured_code.specs.FlatMachine.{Context, run}
use Rattle.check_forms.specs.Pieces.{Line}
use Rattle.sim_relation.specs.Points.{Exact, Knowledge}
use Rattle.cure_rules.specs.Slots.{AreSlots}
use Rattle.cure_rules.specs.Known.{Takes}
use Rattle.cure_rules.specs.Setting.{less, comparison_lines, IsCuringCalculate}
use Rattle.cure_rules.specs.Code.{Blocks}
use Rattle.sim_laws.specs.Scenes.{Scene, Running, setting_of, world_of, around_of, context_of}
use Rattle.sim_laws.specs.Points.{IsSpared}
use Rattle.sim_laws.specs.Statements.{Lines, FlatOutcome, StatesEndAlike, Match, Follows}
use Rattle.sim_laws.proofs.Giving.{Gave, gives-follows, column-apart, column-room, Changed, changed-one}
use Rattle.sim_laws.proofs.Sets.{gave-integer}
use Rattle.sim_laws.proofs.Calculations.{Operand, exactly, changed-twice, int-size, truth-range, truth-word}
use Rattle.sim_laws.proofs.Integers.{eight, width-of, word-low, residue-below, converted-same}

-- an integer of a type is known from its word
pub word-same : (i : IntegerType) → IsAccessSize i.bytes → (x y : ℤ) → converted i x ≡ x → converted i y ≡ y → word x ≡ word y → x ≡ y
word-same i size x y hx hy e =
    sym hx ∙ converted-same i x y (sym (word-low (2 ^ bits_of i) (width-of i.bytes size) x) ∙ ap (λ (n : ℕ). n % 2 ^ bits_of i) e ∙ word-low (2 ^ bits_of i) (width-of i.bytes size) y) ∙ hy

pub int-same : (x y : ℤ) → x ≡ y → int_eq x y ≡ true
int-same x y h = grind (arith, nat_tests, h)

int-other : (x y : ℤ) → x ≢ y → int_eq x y ≡ false
int-other x y h = grind (arith, nat_tests, h)

pub equal-exact : (i : IntegerType) → IsAccessSize i.bytes → (x y : ℤ) → converted i x ≡ x → converted i y ≡ y → nat_eq (word x) (word y) ≡ int_eq x y
equal-exact i size x y hx hy = by (nat_eq (word x) (word y)) refl
  where
    by : (q : Bool) → nat_eq (word x) (word y) ≡ q → q ≡ int_eq x y
    by true e = sym (int-same x y (word-same i size x y hx hy (let h : word x ≡ word y = grind (arith, nat_tests, e) in h)))
    by false e = sym (int-other x y (λ h. let f : nat_eq (word x) (word y) ≡ true = (let q = ap word h in grind (arith, nat_tests, q)) in cc (e, f)))

-- Signed words

bound-pos : (m half r : ℕ) → half ≤ 2 ^ 63 → (q : Bool) → nat_lt (r % m) half ≡ q → (if q then pos (r % m) else negsuc (m - 1 - r % m)) ≡ pos r → r < 2 ^ 63
bound-pos m half r few true e h = let k : r % m ≡ r = cc (h) in let l : r % m < half = grind (arith, nat_tests, e) in omega (arith, k, l, few)
bound-pos m half r few false e h = absurd (cc (h))

bound-neg : (m half n r : ℕ) → half ≤ 2 ^ 63 → m ≤ half + half → (q : Bool) → nat_lt r half ≡ q → (if q then pos r else negsuc (m - 1 - r)) ≡ negsuc n → n < 2 ^ 63
bound-neg m half n r few large true e h = absurd (cc (h))
bound-neg m half n r few large false e h =
    let k : m - 1 - r ≡ n = cc (h) in let l : half ≤ r = grind (arith, nat_tests, e) in omega (arith, k, l, few, large)

wide-pos : (r : ℕ) → r < 2 ^ 63 → as_signed 64 (pos r) ≡ pos r
wide-pos r h = grind (arith, nat_tests, h)

wide-neg : (n : ℕ) → n < 2 ^ 63 → as_signed 64 (negsuc n) ≡ negsuc n
wide-neg n h = grind (arith, nat_tests, h)

wide : (m half : ℕ) → half ≤ 2 ^ 63 → m ≤ half + half → (z : ℤ)
    → (if nat_lt (residue z m) half then pos (residue z m) else negsuc (m - 1 - residue z m)) ≡ z → as_signed 64 z ≡ z
wide m half few large (pos r) h = wide-pos r (bound-pos m half r few (nat_lt (r % m) half) refl h)
wide m half few large (negsuc n) h = wide-neg n (bound-neg m half n (m - 1 - n % m) few large (nat_lt (m - 1 - n % m) half) refl h)

IsWide : ℕ → Type 0
IsWide k = (z : ℤ) → as_signed (8 * k) z ≡ z → as_signed 64 z ≡ z

wide-1 : IsWide 1
unfolding IsWide
wide-1 z h = wide 256 128 (omega arith) (omega arith) z h

wide-2 : IsWide 2
unfolding IsWide
wide-2 z h = wide 65536 32768 (omega arith) (omega arith) z h

wide-4 : IsWide 4
unfolding IsWide
wide-4 z h = wide 4294967296 2147483648 (omega arith) (omega arith) z h

wide-8 : IsWide 8
unfolding IsWide
wide-8 z h = h

wide-of : (n : ℕ) → IsAccessSize n → IsWide n
wide-of n (inl e) = subst IsWide (sym e) wide-1
wide-of n (inr (inl e)) = subst IsWide (sym e) wide-2
wide-of n (inr (inr (inl e))) = subst IsWide (sym e) wide-4
wide-of n (inr (inr (inr e))) = subst IsWide (sym e) wide-8

pub signed-exact : (bytes : ℕ) → IsAccessSize bytes → (z : ℤ) → as_signed (8 * bytes) z ≡ z → signed (word z) ≡ z
unfolding IsWide
signed-exact bytes size z h = converted-same (record { bytes = 8; signed = true }) (pos (word z)) z (word-low 18446744073709551616 eight z) ∙ wide-of bytes size z h

pub unsigned-exact : (m : ℕ) → m ≤ 2 ^ 64 → (z : ℤ) → residue z m < m → pos (residue z m) ≡ z → pos (word z) ≡ z
unsigned-exact m few z less h = ap pos (sym (ap word h) ∙ word-small (residue z m) (omega (arith, less, few))) ∙ h

int-less : (a b : ℕ) → nat_lt a b ≡ int_lt (pos a) (pos b)
int-less a b = grind (arith, nat_tests)

abbrev pub less_by : Bool → ℕ → ℕ → ℕ
less_by true a b = less_signed a b
less_by false a b = less_words a b

pub width-most : (n : ℕ) → IsAccessSize n → 2 ^ (8 * n) ≤ 2 ^ 64
width-most n (inl e) = subst (λ (k : ℕ). 2 ^ (8 * k) ≤ 2 ^ 64) (sym e) (omega arith)
width-most n (inr (inl e)) = subst (λ (k : ℕ). 2 ^ (8 * k) ≤ 2 ^ 64) (sym e) (omega arith)
width-most n (inr (inr (inl e))) = subst (λ (k : ℕ). 2 ^ (8 * k) ≤ 2 ^ 64) (sym e) (omega arith)
width-most n (inr (inr (inr e))) = subst (λ (k : ℕ). 2 ^ (8 * k) ≤ 2 ^ 64) (sym e) (omega arith)

less-by-signs : (bytes : ℕ) (q : Bool) → IsAccessSize bytes → (x y : ℤ) → converted (record { bytes = bytes; signed = q }) x ≡ x → converted (record { bytes = bytes; signed = q }) y ≡ y
    → less_by q (word x) (word y) ≡ truth_word (int_lt x y)
less-by-signs bytes true size x y hx hy =
    ap (λ (z : ℤ). truth_word (int_lt z (signed (word y)))) (signed-exact bytes size x hx) ∙ ap (λ (z : ℤ). truth_word (int_lt x z)) (signed-exact bytes size y hy)
less-by-signs bytes false size x y hx hy =
    ap truth_word (int-less (word x) (word y)) ∙ ap (λ (z : ℤ). truth_word (int_lt z (pos (word y)))) (exact x hx) ∙ ap (λ (z : ℤ). truth_word (int_lt x z)) (exact y hy)
  where
    exact : (z : ℤ) → pos (residue z (2 ^ (8 * bytes))) ≡ z → pos (word z) ≡ z
    exact z h = unsigned-exact (2 ^ (8 * bytes)) (width-most bytes size) z (residue-below (2 ^ (8 * bytes)) (width-of bytes size) z) h

pub less-exact : (i : IntegerType) → IsAccessSize i.bytes → (x y : ℤ) → converted i x ≡ x → converted i y ≡ y → less_by i.signed (word x) (word y) ≡ truth_word (int_lt x y)
less-exact i size x y hx hy = less-by-signs i.bytes i.signed size x y hx hy

-- `<=` is `>` turned round
pub not-less : (x y : ℤ) → int_le x y ≡ not (int_lt y x)
not-less x y = grind (arith, nat_tests)

-- The lines

abbrev pub result_of : Comparison → ℤ → ℤ → Bool
result_of comparison.Equal x y = int_eq x y
result_of comparison.Different x y = not (int_eq x y)
result_of comparison.Less x y = int_lt x y
result_of comparison.LessOrEqual x y = int_le x y
result_of comparison.Greater x y = int_lt y x
result_of comparison.GreaterOrEqual x y = int_le y x

calculated-is : (which : Comparison) (w : Setting) (at : Place) (t : TypeId) (x y : ℤ) (s : source.State)
    → calculated w at (operator_of_comparison which) t (Integer x) (Integer y) s ≡ Done (Integer (truth (result_of which x y))) s
calculated-is comparison.Equal w at t x y s = refl
calculated-is comparison.Different w at t x y s = refl
calculated-is comparison.Less w at t x y s = refl
calculated-is comparison.LessOrEqual w at t x y s = refl
calculated-is comparison.Greater w at t x y s = refl
calculated-is comparison.GreaterOrEqual w at t x y s = refl

-- lines that leave a truth value in slot v, and change nothing else
pub record Compared (ctx : Context) (c : flat.Local) (lines : Lines) (v : ℕ) (q : Bool) : Type 0 where
  pub slots : List ℕ
  pub runs : run lines ctx c ≡ Done Goes (record c { slots = slots })
  pub changed : Changed 1 v c.slots slots
  pub holds : slice_index slots v ≡ truth_word q

different-word : (q : Bool) → truth_word (if q then false else true) ≡ truth_word (not q)
different-word true = refl
different-word false = refl

one-line : (ctx : Context) (c : flat.Local) (i : Instr) (v n : ℕ) (q : Bool) → run (i ∷ []) ctx c ≡ Done Goes (with_slot v n c) → v < length c.slots → n ≡ truth_word q
    → Compared ctx c (i ∷ []) v q
one-line ctx c i v n q runs room is = record {
  slots = slice_set c.slots v n;
  runs = runs;
  changed = changed-one c.slots v n;
  holds = get_or-set_same c.slots v n 0 room ∙ is;
}

less-runs : (signed : Bool) (ctx : Context) (c : flat.Local) (v a b : ℕ) (rest : Lines)
    → run (less signed v a b ∷ rest) ctx c ≡ run rest ctx (with_slot v (less_by signed (slot c a) (slot c b)) c)
less-runs true ctx c v a b rest = refl
less-runs false ctx c v a b rest = refl

-- and turned round by the slot that holds 0
turned : (signed : Bool) (ctx : Context) (c : flat.Local) (v a b none : ℕ) (q r : Bool) → v < length c.slots → none ≢ v → slot c none ≡ 0
    → less_by signed (slot c a) (slot c b) ≡ truth_word q → r ≡ not q → Compared ctx c (less signed v a b ∷ flat_instr.Eq v v none ∷ []) v r
turned signed ctx c v a b none q r room other clear is same = record {
  slots = slice_set (slice_set c.slots v n) v m;
  runs = less-runs signed ctx c v a b (flat_instr.Eq v v none ∷ []);
  changed = changed-twice 1 v c.slots (slice_set c.slots v n) (slice_set (slice_set c.slots v n) v m) (changed-one c.slots v n) (changed-one (slice_set c.slots v n) v m);
  holds = get_or-set_same (slice_set c.slots v n) v m 0 (let e = length-set c.slots v n in omega (arith, room, e))
      ∙ ap (λ (k : ℕ). equal_words k (slot d none)) (get_or-set_same c.slots v n 0 room ∙ is)
      ∙ ap (λ (k : ℕ). equal_words (truth_word q) k) (get_or-set_other c.slots v none n 0 other ∙ clear) ∙ not-truth q ∙ ap truth_word (sym same);
}
  where
    n : ℕ
    n = less_by signed (slot c a) (slot c b)

    d : flat.Local
    d = with_slot v n c

    m : ℕ
    m = equal_words (slot d v) (slot d none)

pub compared : (which : Comparison) (signed : Bool) (ctx : Context) (c : flat.Local) (none v p q : ℕ) (x y : ℤ) → v < length c.slots → none ≢ v → slot c none ≡ 0
    → nat_eq (slot c p) (slot c q) ≡ int_eq x y → less_by signed (slot c p) (slot c q) ≡ truth_word (int_lt x y) → less_by signed (slot c q) (slot c p) ≡ truth_word (int_lt y x)
    → Compared ctx c (comparison_lines which signed none v p q) v (result_of which x y)
compared comparison.Equal signed ctx c none v p q x y room other clear eq lt gt =
    one-line ctx c (flat_instr.Eq v p q) v (equal_words (slot c p) (slot c q)) (int_eq x y) refl room (ap truth_word eq)
compared comparison.Different signed ctx c none v p q x y room other clear eq lt gt =
    one-line ctx c (flat_instr.Ne v p q) v (different_words (slot c p) (slot c q)) (not (int_eq x y)) refl room
    (ap (λ (z : Bool). truth_word (if z then false else true)) eq ∙ different-word (int_eq x y))
compared comparison.Less signed ctx c none v p q x y room other clear eq lt gt =
    one-line ctx c (less signed v p q) v (less_by signed (slot c p) (slot c q)) (int_lt x y) (less-runs signed ctx c v p q []) room lt
compared comparison.LessOrEqual signed ctx c none v p q x y room other clear eq lt gt =
    turned signed ctx c v q p none (int_lt y x) (int_le x y) room other clear gt (not-less x y)
compared comparison.Greater signed ctx c none v p q x y room other clear eq lt gt =
    one-line ctx c (less signed v q p) v (less_by signed (slot c q) (slot c p)) (int_lt y x) (less-runs signed ctx c v q p []) room gt
compared comparison.GreaterOrEqual signed ctx c none v p q x y room other clear eq lt gt =
    turned signed ctx c v p q none (int_lt x y) (int_le y x) room other clear lt (not-less y x)

-- the slot that holds 0 is in no column
pub nought-apart : (w : Scene) (g : AreSlots w.slots) (into : Temp) → Takes (world_of w) into 1 → w.slots.nought ≢ w.slots.column into
nought-apart w g into takes e =
    column-apart w g into 1 takes w.slots.nought 0 (subst (IsSpared into) (sym g.nought.is) tt) (omega arith) (omega (arith, e))

-- THE LAW OF COMPARISONS
pub compare-follows : (w : Scene) (g : AreSlots w.slots) (b : Running) (into : Temp) (which : Comparison) (x y : Temp) (t : TypeId) (at : Place) (known after : Knowledge) (blocks : Blocks) (lines : Lines)
    → IsCuringCalculate (calculate.Binary into (operator.Compare which) x y t at) (world_of w) known after lines
    → Follows w g b blocks known after (meaning.act (instr.Calculate (calculate.Binary into (operator.Compare which) x y t at)) (around_of w b)) lines
unfolding Line
compare-follows w g b into which x y t at known after blocks lines (i, p, q, plain, hx, hy, takes, is, leave) l c point =
    subst (λ (js : Lines). Goal (run js (context_of w b) c)) (sym is) (by (exactly w g b known l c point x i p hx) (exactly w g b known l c point y i q hy))
  where
    v : ℕ
    v = w.slots.column into

    body : Lines
    body = comparison_lines which i.signed w.slots.nought v p q

    Goal : FlatOutcome → Type 0
    Goal o = Match w g b after blocks (meaning.act (instr.Calculate (calculate.Binary into (operator.Compare which) x y t at)) (around_of w b) l) o

    result : Value → Value → Outcome source.Ending source.State Value
    result u r = calculated (setting_of w.programs) at (operator_of_comparison which) t u r l.state

    Part : Outcome source.Ending source.State Value → FlatOutcome → Type 0
    Part o z = Matches (Gave w g b known after into l c) (λ e s k d. StatesEndAlike w.programs e s k d.state) o z

    by : Operand l c x i p Exact → Operand l c y i q Exact → Goal (run body (context_of w b) c)
    by m n = gives-follows w g b known after blocks into l c point (result (l.temps x) (l.temps y)) (run body (context_of w b) c)
        (subst (λ (u : Value). Part (result u (l.temps y)) (run body (context_of w b) c)) (sym m.value)
        (subst (λ (u : Value). Part (result (Integer m.z) u) (run body (context_of w b) c)) (sym n.value)
        (subst (λ (o : Outcome source.Ending source.State Value). Part o (run body (context_of w b) c)) (sym (calculated-is which (setting_of w.programs) at t m.z n.z l.state))
        (of (compared which i.signed (context_of w b) c w.slots.nought v p q m.z n.z
        (let r = column-room w g into 1 takes (omega arith) in let k = point.count in omega (arith, r, k)) (nought-apart w g into takes) point.nought
        (ap (λ (k : ℕ). nat_eq k (slot c q)) m.holds ∙ ap (λ (k : ℕ). nat_eq (word m.z) k) n.holds ∙ equal-exact i plain.1 m.z n.z m.range n.range)
        (ap (λ (k : ℕ). less_by i.signed k (slot c q)) m.holds ∙ ap (λ (k : ℕ). less_by i.signed (word m.z) k) n.holds ∙ less-exact i plain.1 m.z n.z m.range n.range)
        (ap (λ (k : ℕ). less_by i.signed k (slot c p)) n.holds ∙ ap (λ (k : ℕ). less_by i.signed (word n.z) k) m.holds ∙ less-exact i plain.1 n.z m.z n.range m.range))))))
      where
        of : Compared (context_of w b) c body v (result_of which m.z n.z) → Part (Done (Integer (truth (result_of which m.z n.z))) l.state) (run body (context_of w b) c)
        of h = subst (λ (o : FlatOutcome). Part (Done (Integer (truth (result_of which m.z n.z))) l.state) o) (sym h.runs)
            (gave-integer w g b known after into int Exact (truth (result_of which m.z n.z)) l c h.slots point takes h.changed int-size (truth-range (result_of which m.z n.z))
            (h.holds ∙ truth-word (result_of which m.z n.z))
            (subst (λ (k : ℕ). k < 2 ^ 64) (sym (h.holds ∙ truth-word (result_of which m.z n.z))) (word-below (truth (result_of which m.z n.z)))) leave)
