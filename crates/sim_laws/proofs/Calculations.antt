-- Operators on integers of which the low bytes alone count, and truth values.
use Rattle.std.proofs.Common.{◌≡◌, ℕ, ◌*◌, ◌%◌, ◌^◌, ◌<◌, inl, inr, ℤ, pos, Bool, true, false, not, List, [], ◌∷◌, ◌++◌, length, slice_index, slice_set, Option, Some, None, refl, ap, sym, subst, ◌∙◌, arith, if◌then◌else◌, nat_eq, length-set, get_or-set_same}
use Rattle.std.proofs.Math.Nat.{mod-eq_of_lt}
use Rattle.cc_base.specs.declared.number.TypeId.{TypeId}
use Rattle.cc_base.specs.declared.place.Place.{Place}
use Rattle.integers.specs.Words.{word, residue, truth_word, is_true_word, equal_words, different_words}
use Rattle.integers.specs.Arithmetic.{IntegerType, int, converted, truth}
use Rattle.integers.proofs.WordLaws.{word-small, word-below}
use Rattle.runs.specs.Outcome.{Outcome, Done, Matches}
use Rattle.runs.specs.Control.{Goes}
use Rattle.flat_mem.specs.Bytes.{IsAccessSize}
use Rattle.src_mem.specs.Pointers.{Value, Integer, Address, is_true}
use Rattle.src_mem.specs.State as source
use Rattle.src_mem.specs.State.{Setting}
use Rattle.src_mem.specs.Operations.{integer_in, integer_of_shape}
use Rattle.src_mem.specs.Values.{calculated}
use Rattle.cil_form.specs.declared.number.Temp.{Temp}
use Rattle.cil_form.specs.declared.instr.Operator.{Operator}
use Rattle.cil_form.specs.declared.instr.Calculate.TheVariants as calculate
use Rattle.cil_form.specs.declared.instr.Instr.TheVariants as instr
use Rattle.cil_form.specs.State as code
use Rattle.cil_form.specs.Typing.{HeldType, IntegerOf}
use Rattle.cil_form.specs.Meaning as meaning
use Rattle.cured_code.specs.declared.instr.Instr as flat_code
use Rattle.cured_code.specs.declared.instr.Instr.TheVariants as flat_instr
use Rattle.cured_code.specs.declared.instr.Narrow.{Narrow}
use Rattle.cured_code.specs.FlatState as flat
use Rattle.cured_code.specs.FlatState.{slot, with_slot}
use Rattle.cured_code.specs.FlatMachine as machine
use Rattle.cured_code.specs.FlatMachine.{Context, run}
use Rattle.check_forms.specs.Pieces.{Line, Then}
use Rattle.sim_relation.specs.Points.{Form, Exact, Zeroed, Low, HoldsAs, Known, Knowledge, StandsFor}
use Rattle.cure_rules.specs.Slots.{AreSlots}
use Rattle.cure_rules.specs.Known as rules
use Rattle.cure_rules.specs.Known.{IsInteger, IsLowly, IsExactly, Takes, Narrows, narrow_of_bytes, narrow_of, narrowing_lines, an_integer}
use Rattle.cure_rules.specs.Setting.{Reckons, IsCuringCalculate}
use Rattle.cure_rules.specs.Code.{Blocks}
use Rattle.sim_laws.specs.Scenes.{Scene, Running, setting_of, world_of, around_of, context_of}
use Rattle.sim_laws.specs.Points.{Holds, Point, IsWordFor, ground_of}
use Rattle.sim_laws.specs.Statements.{Lines, FlatOutcome, StatesEndAlike, Match, Tested, Follows}
use Rattle.sim_laws.proofs.Integers.{low-of, converted-low, converted-same, converted-twice}
use Rattle.sim_laws.proofs.Giving.{Gave, gives-follows, column-room, Changed, changed-one}
use Rattle.sim_laws.proofs.Sets.{gave-integer}
use Rattle.sim_laws.proofs.Tests.{tested}

-- Operands

-- an integer that stands in a slot
pub record Operand (l : code.Local) (c : flat.Local) (t : Temp) (i : IntegerType) (a : ℕ) (f : Form) : Type 0 where
  pub z : ℤ
  pub value : l.temps t ≡ Integer z
  pub range : converted i z ≡ z
  pub holds : HoldsAs f i z (slot c a)
  pub below : slot c a < 2 ^ 64

integer-of : (w : Scene) (b : Running) (l : code.Local) (c : flat.Local) (x : Known) (i : IntegerType) (v : Value) (a : ℕ) → x.place ≡ Some a
    → Holds w.programs l.state b.depth (IntegerOf i) v → StandsFor (ground_of w.programs l.state c.state) c.slots x (IntegerOf i) v
    → (z : ℤ) × (v ≡ Integer z) × (converted i z ≡ z) × HoldsAs x.form i z (slot c a)
integer-of w b l c x i (Integer z) a place held stands = (z, refl, held, stands a place)
integer-of w b l c x i (Address q) a place held stands = absurd held

pub operand : (w : Scene) (g : AreSlots w.slots) (b : Running) (known : Knowledge) (l : code.Local) (c : flat.Local) → Point w g b known l c
    → (t : Temp) (i : IntegerType) (a : ℕ) (x : Known) → known t ≡ Some x → x.type ≡ IntegerOf i → x.place ≡ Some a → Operand l c t i a x.form
operand w g b known l c p t i a x fact type place =
    let h = integer-of w b l c x i (l.temps t) a place (subst (λ (h : HeldType). Holds w.programs l.state b.depth h (l.temps t)) type (p.held t x fact))
    (subst (λ (h : HeldType). StandsFor (ground_of w.programs l.state c.state) c.slots x h (l.temps t)) type (p.stands t x fact)) in
    record {
      z = h.0;
      value = h.1;
      range = h.2;
      holds = h.3;
      below = subst (λ (h : HeldType). IsWordFor h (slot c a)) type (p.words t x fact a place);
    }

pub lowly : (w : Scene) (g : AreSlots w.slots) (b : Running) (known : Knowledge) (l : code.Local) (c : flat.Local) → Point w g b known l c
    → (t : Temp) (i : IntegerType) (a : ℕ) → IsAccessSize i.bytes → IsLowly known t i a → Operand l c t i a Low
lowly w g b known l c p t i a size (x, fact, type, place) = of (operand w g b known l c p t i a x fact type place)
  where
    of : Operand l c t i a x.form → Operand l c t i a Low
    of o = record { z = o.z; value = o.value; range = o.range; holds = low-of i size x.form o.z (slot c a) o.holds; below = o.below }

pub exactly : (w : Scene) (g : AreSlots w.slots) (b : Running) (known : Knowledge) (l : code.Local) (c : flat.Local) → Point w g b known l c
    → (t : Temp) (i : IntegerType) (a : ℕ) → IsExactly known t i a → Operand l c t i a Exact
exactly w g b known l c p t i a (x, fact, type, place, form) = subst (λ (f : Form). Operand l c t i a f) form (operand w g b known l c p t i a x fact type place)

pub integer_type : (w : Scene) (t : TypeId) (i : IntegerType) → IsInteger (world_of w) t i → integer_in (setting_of w.programs) t ≡ i
integer_type w t i e = ap integer_of_shape e

-- Narrowing

abbrev pub narrowed_word : Option Narrow → ℕ → ℕ
narrowed_word None n = n
narrowed_word (Some f) n = machine.narrowed f n

-- the word of an integer, from its low bytes
IsNarrowed : ℕ → Type 0
IsNarrowed k = (signed : Bool) (z : ℤ) (n : ℕ) → converted (record { bytes = k; signed = signed }) z ≡ z → n % 2 ^ (8 * k) ≡ residue z (2 ^ (8 * k)) → n < 2 ^ 64
    → narrowed_word (narrow_of_bytes k signed) n ≡ word z

unsigned-word : (m n : ℕ) (z : ℤ) → pos (residue z m) ≡ z → residue z m < 2 ^ 64 → n % m ≡ residue z m → n % m ≡ word z
unsigned-word m n z range below e = e ∙ sym (word-small (residue z m) below) ∙ ap word range

narrowed-1 : IsNarrowed 1
unfolding IsNarrowed
narrowed-1 true z n range e below = ap word (converted-same (record { bytes = 1; signed = true }) (pos n) z e ∙ range)
narrowed-1 false z n range e below = unsigned-word 256 n z range (let l : n % 256 < 256 = omega arith in omega (arith, e, l)) e

narrowed-2 : IsNarrowed 2
unfolding IsNarrowed
narrowed-2 true z n range e below = ap word (converted-same (record { bytes = 2; signed = true }) (pos n) z e ∙ range)
narrowed-2 false z n range e below = unsigned-word 65536 n z range (let l : n % 65536 < 65536 = omega arith in omega (arith, e, l)) e

narrowed-4 : IsNarrowed 4
unfolding IsNarrowed
narrowed-4 true z n range e below = ap word (converted-same (record { bytes = 4; signed = true }) (pos n) z e ∙ range)
narrowed-4 false z n range e below = unsigned-word 4294967296 n z range (let l : n % 4294967296 < 4294967296 = omega arith in omega (arith, e, l)) e

narrowed-8 : IsNarrowed 8
unfolding IsNarrowed
narrowed-8 signed z n range e below = sym (mod-eq_of_lt below) ∙ e

pub exact-word : (i : IntegerType) (z : ℤ) (n : ℕ) → IsAccessSize i.bytes → converted i z ≡ z → HoldsAs Low i z n → n < 2 ^ 64 → narrowed_word (narrow_of i) n ≡ word z
unfolding IsNarrowed
exact-word i z n size range low below = by size i.signed z n range low below
  where
    by : IsAccessSize i.bytes → IsNarrowed i.bytes
    by (inl e) = subst IsNarrowed (sym e) narrowed-1
    by (inr (inl e)) = subst IsNarrowed (sym e) narrowed-2
    by (inr (inr (inl e))) = subst IsNarrowed (sym e) narrowed-4
    by (inr (inr (inr e))) = subst IsNarrowed (sym e) narrowed-8

-- behind the lines slot v holds the integer in this form
pub record Narrowed (ctx : Context) (d : flat.Local) (lines : Lines) (v : ℕ) (f : Form) (i : IntegerType) (z : ℤ) : Type 0 where
  pub slots : List ℕ
  pub runs : run lines ctx d ≡ Done Goes (record d { slots = slots })
  pub changed : Changed 1 v d.slots slots
  pub holds : HoldsAs f i z (slice_index slots v)
  pub below : slice_index slots v < 2 ^ 64

pub changed-none : (k v : ℕ) (slots : List ℕ) → Changed k v slots slots
changed-none k v slots = record { others = λ a h. refl; long = refl }

pub changed-twice : (k v : ℕ) (before middle after : List ℕ) → Changed k v before middle → Changed k v middle after → Changed k v before after
changed-twice k v before middle after h q = record { others = λ a e. q.others a e ∙ h.others a e; long = q.long ∙ h.long }

pub narrowed : (ctx : Context) (d : flat.Local) (v : ℕ) (i : IntegerType) (z : ℤ) (f : Form) (lines : Lines) → v < length d.slots → IsAccessSize i.bytes → converted i z ≡ z
    → HoldsAs Low i z (slot d v) → slot d v < 2 ^ 64 → Narrows i v f lines → Narrowed ctx d lines v f i z
unfolding Line
narrowed ctx d v i z Low lines room size range low below js =
    record { slots = d.slots; runs = ap (λ (ks : Lines). run ks ctx d) js; changed = changed-none 1 v d.slots; holds = low; below = below }
narrowed ctx d v i z Zeroed lines room size range low below js = absurd js
narrowed ctx d v i z Exact lines room size range low below js =
    subst (λ (ks : Lines). Narrowed ctx d ks v Exact i z) (sym js) (by (narrow_of i) (exact-word i z (slot d v) size range low below))
  where
    by : (o : Option Narrow) → narrowed_word o (slot d v) ≡ word z → Narrowed ctx d (narrowing_lines v o) v Exact i z
    by None e = record { slots = d.slots; runs = refl; changed = changed-none 1 v d.slots; holds = e; below = below }
    by (Some f) e = record {
      slots = slice_set d.slots v (machine.narrowed f (slot d v));
      runs = refl;
      changed = changed-one d.slots v (machine.narrowed f (slot d v));
      holds = get_or-set_same d.slots v (machine.narrowed f (slot d v)) 0 room ∙ e;
      below = subst (λ (n : ℕ). n < 2 ^ 64) (sym (get_or-set_same d.slots v (machine.narrowed f (slot d v)) 0 room ∙ e)) (word-below z);
    }

-- Results by their low bytes

-- a slot that holds the result by its low bytes is the column, which is narrowed where it has to be
pub low-gives : (w : Scene) (g : AreSlots w.slots) (b : Running) (known after : Knowledge) (into : Temp) (l : code.Local) (c : flat.Local) → Point w g b known l c
    → (i : IntegerType) (f : Form) (rest : Lines) → IsAccessSize i.bytes → Takes (world_of w) into 1 → Narrows i (w.slots.column into) f rest
    → rules.Leaves known into (Some (an_integer (w.slots.column into) f i)) after → (z : ℤ) (n : ℕ) → HoldsAs Low i z n → n < 2 ^ 64
    → Matches (Gave w g b known after into l c) (λ e s k d. StatesEndAlike w.programs e s k d.state) (Done (Integer (converted i z)) l.state)
    (run rest (context_of w b) (with_slot (w.slots.column into) n c))
low-gives w g b known after into l c point i f rest size takes narrows leave z n low below =
    of (narrowed (context_of w b) (with_slot v n c) v i (converted i z) f rest (let e = length-set c.slots v n in omega (arith, room, e)) size (converted-twice i size z)
    (subst (λ (k : ℕ). HoldsAs Low i (converted i z) k) (sym here) (low ∙ sym (converted-low i size z))) (subst (λ (k : ℕ). k < 2 ^ 64) (sym here) below) narrows)
  where
    v : ℕ
    v = w.slots.column into

    room : v < length c.slots
    room = let r = column-room w g into 1 takes (omega arith) in let m = point.count in omega (arith, r, m)

    here : slice_index (slice_set c.slots v n) v ≡ n
    here = get_or-set_same c.slots v n 0 room

    of : Narrowed (context_of w b) (with_slot v n c) rest v f i (converted i z)
        → Matches (Gave w g b known after into l c) (λ e s k d. StatesEndAlike w.programs e s k d.state) (Done (Integer (converted i z)) l.state)
        (run rest (context_of w b) (with_slot v n c))
    of h = subst (λ (o : FlatOutcome). Matches (Gave w g b known after into l c) (λ e s k d. StatesEndAlike w.programs e s k d.state)
        (Done (Integer (converted i z)) l.state) o) (sym h.runs)
        (gave-integer w g b known after into i f (converted i z) l c h.slots point takes
        (changed-twice 1 v c.slots (slice_set c.slots v n) h.slots (changed-one c.slots v n) h.changed)
        size (converted-twice i size z) h.holds h.below leave)

-- the column becomes the word of an integer of the type
pub exact-gives : (w : Scene) (g : AreSlots w.slots) (b : Running) (known after : Knowledge) (into : Temp) (l : code.Local) (c : flat.Local) → Point w g b known l c
    → (i : IntegerType) → IsAccessSize i.bytes → Takes (world_of w) into 1 → rules.Leaves known into (Some (an_integer (w.slots.column into) Exact i)) after
    → (z : ℤ) → converted i z ≡ z → (n : ℕ) → n ≡ word z
    → Gave w g b known after into l c (Integer z) l.state Goes (with_slot (w.slots.column into) n c)
exact-gives w g b known after into l c point i size takes leave z range n is =
    gave-integer w g b known after into i Exact z l c (slice_set c.slots (w.slots.column into) n) point takes (changed-one c.slots (w.slots.column into) n) size range
    (here ∙ is) (subst (λ (m : ℕ). m < 2 ^ 64) (sym (here ∙ is)) (word-below z)) leave
  where
    here : slice_index (slice_set c.slots (w.slots.column into) n) (w.slots.column into) ≡ n
    here = get_or-set_same c.slots (w.slots.column into) n 0 (let r = column-room w g into 1 takes (omega arith) in let m = point.count in omega (arith, r, m))

-- an operator of two operands, `f` on words and `h` on integers
pub record Reckoning (operation : ℕ → ℕ → ℕ → flat_code.Instr) (f : ℕ → ℕ → ℕ) (o : Operator) (h : ℤ → ℤ → ℤ) : Type 0 where
  pub runs : (v p q : ℕ) (rest : Lines) (ctx : Context) (c : flat.Local) → run (operation v p q ∷ rest) ctx c ≡ run rest ctx (with_slot v (f (slot c p) (slot c q)) c)
  pub gives : (w : Setting) (at : Place) (t : TypeId) (x y : ℤ) (s : source.State)
      → calculated w at (meaning.operator_of o) t (Integer x) (Integer y) s ≡ Done (Integer (converted (integer_in w t) (h x y))) s
  pub low : (i : IntegerType) (x y : ℤ) (a b : ℕ) → IsAccessSize i.bytes → a < 2 ^ 64 → b < 2 ^ 64 → HoldsAs Low i x a → HoldsAs Low i y b → HoldsAs Low i (h x y) (f a b)
  pub below : (a b : ℕ) → a < 2 ^ 64 → b < 2 ^ 64 → f a b < 2 ^ 64

pub reckons-follows : (operation : ℕ → ℕ → ℕ → flat_code.Instr) (f : ℕ → ℕ → ℕ) (o : Operator) (h : ℤ → ℤ → ℤ) → Reckoning operation f o h
    → (w : Scene) (g : AreSlots w.slots) (b : Running) (into x y : Temp) (t : TypeId) (at : Place) (known after : Knowledge) (blocks : Blocks) (lines : Lines)
    → Reckons operation (world_of w) into x y t known after lines
    → Follows w g b blocks known after (meaning.act (instr.Calculate (calculate.Binary into o x y t at)) (around_of w b)) lines
unfolding Line Then
reckons-follows operation f o h law w g b into x y t at known after blocks lines (i, p, q, form, plain, hx, hy, takes, (first, rest, is_first, narrows, is), leave) l c point =
    subst (λ (js : Lines). Goal (run js (context_of w b) c)) (sym (is ∙ ap (λ (js : Lines). js ++ rest) is_first))
    (subst Goal (sym (law.runs v p q rest (context_of w b) c))
    (by (lowly w g b known l c point x i p plain.1 hx) (lowly w g b known l c point y i q plain.1 hy)))
  where
    v : ℕ
    v = w.slots.column into

    n : ℕ
    n = f (slot c p) (slot c q)

    Goal : FlatOutcome → Type 0
    Goal r = Match w g b after blocks (meaning.act (instr.Calculate (calculate.Binary into o x y t at)) (around_of w b) l) r

    result : Value → Value → Outcome source.Ending source.State Value
    result u r = calculated (setting_of w.programs) at (meaning.operator_of o) t u r l.state

    Part : Outcome source.Ending source.State Value → Type 0
    Part r = Matches (Gave w g b known after into l c) (λ e s k d. StatesEndAlike w.programs e s k d.state) r (run rest (context_of w b) (with_slot v n c))

    by : Operand l c x i p Low → Operand l c y i q Low → Goal (run rest (context_of w b) (with_slot v n c))
    by m r = gives-follows w g b known after blocks into l c point (result (l.temps x) (l.temps y)) (run rest (context_of w b) (with_slot v n c))
        (subst (λ (u : Value). Part (result u (l.temps y))) (sym m.value) (subst (λ (u : Value). Part (result (Integer m.z) u)) (sym r.value)
        (subst Part (sym (law.gives (setting_of w.programs) at t m.z r.z l.state))
        (subst (λ (k : IntegerType). Part (Done (Integer (converted k (h m.z r.z))) l.state)) (sym (integer_type w t i plain.0))
        (low-gives w g b known after into l c point i form rest plain.1 takes narrows leave (h m.z r.z) n
        (law.low i m.z r.z (slot c p) (slot c q) plain.1 m.below r.below m.holds r.holds) (law.below (slot c p) (slot c q) m.below r.below))))))

-- Truth values

pub truth-range : (q : Bool) → converted int (truth q) ≡ truth q
truth-range true = refl
truth-range false = refl

pub truth-word : (q : Bool) → truth_word q ≡ word (truth q)
truth-word true = refl
truth-word false = refl

pub int-size : IsAccessSize int.bytes
int-size = inr (inr (inl refl))

pub different-zero : (n : ℕ) → different_words n 0 ≡ truth_word (is_true_word n)
different-zero n = refl

pub equal-zero : (n : ℕ) → equal_words n 0 ≡ truth_word (not (is_true_word n))
equal-zero n = by (nat_eq n 0)
  where
    by : (q : Bool) → truth_word q ≡ truth_word (not (if q then false else true))
    by true = refl
    by false = refl

-- a truth value is given behind the lines of a test
pub told : (w : Scene) (g : AreSlots w.slots) (b : Running) (known after : Knowledge) (into : Temp) (q : Bool) (l : code.Local) (d : flat.Local) (n : ℕ)
    → Point w g b known l d → Takes (world_of w) into 1 → n ≡ truth_word q → rules.Leaves known into (Some (an_integer (w.slots.column into) Exact int)) after
    → Gave w g b known after into l d (Integer (truth q)) l.state Goes (with_slot (w.slots.column into) n d)
told w g b known after into q l d n point takes e leave =
    exact-gives w g b known after into l d point int int-size takes leave (truth q) (truth-range q) n (e ∙ truth-word q)

pub truth-follows : (w : Scene) (g : AreSlots w.slots) (b : Running) (into a : Temp) (known after : Knowledge) (blocks : Blocks) (lines : Lines)
    → IsCuringCalculate (calculate.Truth into a) (world_of w) known after lines
    → Follows w g b blocks known after (meaning.act (instr.Calculate (calculate.Truth into a)) (around_of w b)) lines
unfolding Line Then
truth-follows w g b into a known after blocks lines (p, takes, (test, last, tests, is_last, is), leave) l c point = of (tested w g b known a p test tests l c point)
  where
    Goal : FlatOutcome → Type 0
    Goal o = Match w g b after blocks (meaning.act (instr.Calculate (calculate.Truth into a)) (around_of w b) l) o

    of : Tested w g b known a p test l c → Goal (run lines (context_of w b) c)
    of t = subst Goal (sym (ap (λ (js : Lines). run js (context_of w b) c) (is ∙ ap (λ (js : Lines). test ++ js) is_last) ∙ t.runs (flat_instr.Ne (w.slots.column into) p w.slots.nought ∷ [])))
        (gives-follows w g b known after blocks into l t.after t.point (Done (Integer (truth (is_true (l.temps a)))) l.state)
        (Done Goes (with_slot (w.slots.column into) (different_words (slot t.after p) (slot t.after w.slots.nought)) t.after))
        (told w g b known after into (is_true (l.temps a)) l t.after (different_words (slot t.after p) (slot t.after w.slots.nought)) t.point takes
        (ap (λ (n : ℕ). different_words (slot t.after p) n) t.point.nought ∙ different-zero (slot t.after p) ∙ ap truth_word t.truth) leave))

pub not-follows : (w : Scene) (g : AreSlots w.slots) (b : Running) (into a : Temp) (known after : Knowledge) (blocks : Blocks) (lines : Lines)
    → IsCuringCalculate (calculate.Not into a) (world_of w) known after lines
    → Follows w g b blocks known after (meaning.act (instr.Calculate (calculate.Not into a)) (around_of w b)) lines
unfolding Line Then
not-follows w g b into a known after blocks lines (p, takes, (test, last, tests, is_last, is), leave) l c point = of (tested w g b known a p test tests l c point)
  where
    Goal : FlatOutcome → Type 0
    Goal o = Match w g b after blocks (meaning.act (instr.Calculate (calculate.Not into a)) (around_of w b) l) o

    of : Tested w g b known a p test l c → Goal (run lines (context_of w b) c)
    of t = subst Goal (sym (ap (λ (js : Lines). run js (context_of w b) c) (is ∙ ap (λ (js : Lines). test ++ js) is_last) ∙ t.runs (flat_instr.Eq (w.slots.column into) p w.slots.nought ∷ [])))
        (gives-follows w g b known after blocks into l t.after t.point (Done (Integer (truth (not (is_true (l.temps a))))) l.state)
        (Done Goes (with_slot (w.slots.column into) (equal_words (slot t.after p) (slot t.after w.slots.nought)) t.after))
        (told w g b known after into (not (is_true (l.temps a))) l t.after (equal_words (slot t.after p) (slot t.after w.slots.nought)) t.point takes
        (ap (λ (n : ℕ). equal_words (slot t.after p) n) t.point.nought ∙ equal-zero (slot t.after p) ∙ ap (λ (q : Bool). truth_word (not q)) t.truth) leave))
