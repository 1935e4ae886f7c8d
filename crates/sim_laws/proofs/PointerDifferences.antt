-- Differences of SEQ pointers, behind BASE and SAME.
use Rattle.std.proofs.Common.{◌≡◌, ◌≢◌, ℕ, zero, suc, ◌+◌, ◌*◌, ◌/◌, ◌^◌, ◌<◌, ◌≤◌, inr, ℤ, pos, negsuc, neg_ℤ, ◌+ℤ◌, ◌-ℤ◌, Bool, true, false, ◌&&◌, List, [], ◌∷◌, length, slice_index, slice_set, Option, Some, None, refl, ap, sym, subst, ◌∙◌, arith, nat_eq, if◌then◌else◌, length-set, get_or-set_same, get_or-set_other}
use Rattle.std.specs.Prelude.{int_div, ◌*ℤ◌, ◌==◌, IsTrue}
use Rattle.std.specs.Int.{int_rem_euclid}
use Rattle.std.specs.Ordering.{int_eq}
use Rattle.std.proofs.lemmas.Int.{ints}
use Rattle.std.proofs.lemmas.Bool.Decides.{nat_tests}
use Rattle.std.proofs.Math.Nat.{mod-eq_of_lt, mul-le-mul_left}
use Rattle.std.proofs.lemmas.Nat.{div-mul-add}
use Rattle.cc_base.specs.declared.fault.Check.TheVariants as check
use Rattle.cc_base.specs.declared.kind.Kind.{Kind}
use Rattle.cc_base.specs.declared.kind.Kind.TheVariants.{Seq}
use Rattle.cc_base.specs.declared.number.TypeId.{TypeId}
use Rattle.cc_base.specs.declared.number.NodeId.{NodeId}
use Rattle.cc_base.specs.declared.place.Place.{Place}
use Rattle.c_types.specs.declared.shape.TypeShape.{TypeShape}
use Rattle.c_types.specs.Table.{IsComplete, shape_at}
use Rattle.c_types.specs.Layouts.{size_of}
use Rattle.c_types.specs.Equality.{cells_of, physically_equal}
use Rattle.c_types.specs.Flows.{IsOfOneClass}
use Rattle.c_types.specs.Widths as widths_of
use Rattle.c_types.specs.Widths.{before}
use Rattle.type_laws.proofs.Pointers.{class_turned}
use Rattle.type_laws.proofs.Stairs.{IsWithin, Splits, splits, residue-is}
use Rattle.integers.specs.Words.{word, residue, signed_of}
use Rattle.integers.specs.Operators.{signed, difference_words, quotient_signed, can_divide_signed}
use Rattle.integers.specs.Arithmetic.{long, converted}
use Rattle.integers.proofs.SignedLaws.{signed-word, difference-word}
use Rattle.integers.proofs.WordLaws.{word-below, word-small}
use Rattle.runs.specs.Outcome.{Outcome, Done, done, leaves, from, Matches, ◌>>◌}
use Rattle.runs.specs.Control.{Goes}
use Rattle.src_mem.specs.Pointers.{Location, Pointer, At, Value, Integer, Address, distance, same_part}
use Rattle.src_mem.specs.State as source
use Rattle.src_mem.specs.State.{Setting}
use Rattle.src_mem.specs.Checks.{Condition, Subtract, HasBase, AreElementsApart, conditions_of, holds, all_placed, of_one_part}
use Rattle.src_mem.specs.Primitives.{difference}
use Rattle.src_mem.specs.Operations.{node_of_shape, pointee_of_shape}
use Rattle.src_mem.specs.Values.{difference_value}
use Rattle.src_mem.specs.Outlines.{outlines_of}
use Rattle.src_mem.specs.Facts.{IsHeldIn, IsSequenceAt, IsValueOf}
use Rattle.facts_kept.specs.Kept.{AllHold}
use Rattle.facts_kept.proofs.Agree as agree
use Rattle.facts_kept.proofs.Places.{value-class}
use Rattle.cil_form.specs.declared.number.Temp.{Temp}
use Rattle.cil_form.specs.declared.instr.Point.TheVariants as point
use Rattle.cil_form.specs.declared.instr.Instr.TheVariants as instr
use Rattle.cil_form.specs.State as code
use Rattle.cil_form.specs.State.{with_temp, beside}
use Rattle.cil_form.specs.Meaning as meaning
use Rattle.cured_code.specs.declared.instr.Instr.TheVariants as flat_instr
use Rattle.cured_code.specs.FlatState as flat
use Rattle.cured_code.specs.FlatState.{slot, with_slot}
use Rattle.cured_code.specs.FlatMachine.{Context, run}
use Rattle.check_forms.specs.declared.slots.Fixed.{Fixed}
use Rattle.check_forms.specs.declared.slots.PointerSlots.{PointerSlots}
use Rattle.check_forms.specs.Pieces.{Line, Then}
use Rattle.check_forms.specs.Conditions as condition
use Rattle.check_forms.specs.Conditions.{AreOfPart, IsNotZero}
use Rattle.check_forms.specs.Lines.{IsOther, AreApart}
use Rattle.check_forms.specs.Rows.{Asked, asked, all_asked, elements_apart}
use Rattle.check_forms.specs.RowChecks.{AreChecks, first_false}
use Rattle.sim_relation.specs.Ground.{Ground, place, first_word, word_number}
use Rattle.sim_relation.specs.Points.{Knowledge, Exact}
use Rattle.sim_relation.proofs.Bounds.{widths}
use Rattle.sim_checks.specs.Rows.{IsChecked}
use Rattle.sim_checks.specs.Comparing.{used}
use Rattle.sim_checks.proofs.Pointing.{base-compared}
use Rattle.sim_checks.specs.Moving.{all_hold}
use Rattle.sim_checks.proofs.Sameness.{true-eq, parts-alike}
use Rattle.sim_checks.proofs.Sequences as sequences
use Rattle.sim_checks.proofs.Sequences.{small, some-size}
use Rattle.sim_checks.proofs.Differences.{differences-compared, rem-euclid}
use Rattle.sim_checks.proofs.Standing.{near-small}
use Rattle.cure_rules.specs.Slots.{AreSlots, Size, work_of}
use Rattle.cure_rules.specs.Known as rules
use Rattle.cure_rules.specs.Known.{Takes, IsPointer, pointer_slots}
use Rattle.cure_rules.specs.Checks.{need, number_at, size_needed, AreGot, IsGuarded}
use Rattle.cure_rules.specs.Pointing.{order_by, quotient_lines, IsCuringPoint}
use Rattle.cure_rules.specs.Code.{Blocks}
use Rattle.sim_laws.specs.Scenes.{Scene, Running, setting_of, world_of, around_of, context_of}
use Rattle.sim_laws.specs.Points.{IsLasting, Passed, ground_of}
use Rattle.sim_laws.specs.Statements.{Lines, CodeOutcome, FlatOutcome, StatesEndAlike, Match, Follows}
use Rattle.sim_laws.proofs.Guards.{lasting-other, passed-none}
use Rattle.sim_laws.proofs.Giving.{Gave, Changed, changed-one, column-room}
use Rattle.sim_laws.proofs.Names.{Names}
use Rattle.sim_laws.proofs.Sets.{gave-integer}
use Rattle.sim_laws.proofs.Calculations.{changed-twice}
use Rattle.sim_laws.proofs.Divisions.{quotients}
use Rattle.sim_laws.proofs.Checks.{AreThere, AreOfRoles, AreReady, all-stop, Guarded, StopsAlike, guarded, guarded-lasting, stops-then, stops-together, one-placed, none-false, guard-gives}
use Rattle.sim_laws.proofs.Reaching.{Pointed, pointed, based-at, checked-words}
use Rattle.sim_laws.proofs.Accessing.{all-held}
use Rattle.sim_laws.proofs.Storing.{as-address}
use Rattle.sim_laws.proofs.PointerWords.{seat-apart}
use Rattle.sim_laws.proofs.Ordering.{stair-moved, IsFar, far-whole}
use Rattle.sim_laws.proofs.Together.{class-alike, repetitions-agree}

-- Integers

-- a multiple is divided
pub divided : (q : ℤ) (n : ℕ) → 0 < n → int_div (q *ℤ pos n) (pos n) ≡ q
divided (pos a) n some = ap pos (div-back a)
  where
    div-back : (a : ℕ) → (a * n) / n ≡ a
    div-back a = ap (λ (k : ℕ). k / n) (let e : a * n ≡ a * n + 0 = omega arith in e) ∙ div-mul-add a n 0 some
divided (negsuc a) n some = by n some
  where
    by : (n : ℕ) → 0 < n → int_div (negsuc a *ℤ pos n) (pos n) ≡ negsuc a
    by zero some = absurd (omega (arith, some))
    by (suc k) some = ap (λ (z : ℤ). int_div z (pos (suc k))) (let e : negsuc a *ℤ pos (suc k) ≡ neg_ℤ (pos (suc a * suc k)) = omega (arith, ints) in e) ∙ turned (suc a * suc k)
        (ap (λ (j : ℕ). j / suc k) (let e : suc a * suc k ≡ suc a * suc k + 0 = omega arith in e) ∙ div-mul-add (suc a) (suc k) 0 some) (let e : 0 < suc a * suc k = omega arith in e)
      where
        turned : (m : ℕ) → m / suc k ≡ suc a → 0 < m → int_div (neg_ℤ (pos m)) (pos (suc k)) ≡ negsuc a
        turned (suc m) e h = ap (λ (j : ℕ). neg_ℤ (pos j)) e
        turned zero e h = absurd (omega (arith, h))

-- what is near to 0 is a long
long-near : (z : ℤ) → IsWithin z (2 ^ 61) → converted long z ≡ z
long-near z h =
    ap (signed_of 64) (sym (mod-eq_of_lt (word-below z)))
    ∙ signed-word z (near-small z (let a = h.low in let b = h.high in record { low = omega (arith, ints, a); high = omega (arith, ints, b) }))

within-multiple : (q : ℤ) (n b : ℕ) → 0 < n → IsWithin (q *ℤ pos n) b → IsWithin q b
within-multiple (pos a) n b some h = let m : a * 1 ≤ a * n = mul-le-mul_left a some in let k = h.high in record { low = omega (arith, ints); high = omega (arith, ints, m, k) }
within-multiple (negsuc a) n b some h = let m : suc a * 1 ≤ suc a * n = mul-le-mul_left (suc a) some in let k = h.low in record { low = omega (arith, ints, m, k); high = omega (arith, ints) }

signed-near : (z : ℤ) → IsWithin z (2 ^ 61) → signed (word z) ≡ z
signed-near z h = signed-word z (near-small z (let a = h.low in let b = h.high in record { low = omega (arith, ints, a); high = omega (arith, ints, b) }))

may-divide : (a n : ℕ) → 0 < n → n < 2 ^ 40 → can_divide_signed a n ≡ true
may-divide a n some few = grind (arith, nat_tests)

-- The lines

-- a difference in bytes, as one in elements
record Quotient (ctx : Context) (c : flat.Local) (v p q : ℕ) (size : Fixed) (n : ℤ) : Type 0 where
  slots : List ℕ
  runs : run (flat_instr.Sub v p q ∷ quotient_lines v size) ctx c ≡ Done Goes (record c { slots = slots })
  changed : Changed 1 v c.slots slots
  holds : slice_index slots v ≡ word n

sub-runs : (ctx : Context) (c : flat.Local) (v a b : ℕ) (rest : Lines) → run (flat_instr.Sub v a b ∷ rest) ctx c ≡ run rest ctx (with_slot v (difference_words (slot c a) (slot c b)) c)
sub-runs ctx c v a b rest = refl

quotient-of : (ctx : Context) (c : flat.Local) (v p q : ℕ) (size : Fixed) (n : ℤ) → v < length c.slots → difference_words (slot c p) (slot c q) ≡ word (n *ℤ pos size.value) → 0 < size.value
    → size.value < 2 ^ 40 → IsWithin (n *ℤ pos size.value) (2 ^ 61) → (nat_eq size.value 1 ≡ false → (slot c size.slot ≡ size.value) × (size.slot ≢ v)) → Quotient ctx c v p q size n
quotient-of ctx c v p q size n room apart some few near stands = by (nat_eq size.value 1) refl stands
  where
    m : ℕ
    m = difference_words (slot c p) (slot c q)

    d : flat.Local
    d = with_slot v (difference_words (slot c p) (slot c q)) c

    here : slot d v ≡ word (n *ℤ pos size.value)
    here = get_or-set_same c.slots v m 0 room ∙ apart

    by : (b : Bool) → nat_eq size.value 1 ≡ b → (b ≡ false → (slot c size.slot ≡ size.value) × (size.slot ≢ v)) → Quotient ctx c v p q size n
    by true e h = record {
      slots = slice_set c.slots v m;
      runs = sub-runs ctx c v p q (quotient_lines v size) ∙ ap (λ (z : Bool). run (if z then [] else flat_instr.Divs v v size.slot ∷ []) ctx d) e;
      changed = changed-one c.slots v m;
      holds = here ∙ ap word (ap (λ (k : ℕ). n *ℤ pos k) (true-eq size.value 1 e) ∙ once n);
    }
      where
        once : (z : ℤ) → z *ℤ pos 1 ≡ z
        once z = omega (arith, ints)
    by false e h = record {
      slots = slice_set (slice_set c.slots v m) v k;
      runs = sub-runs ctx c v p q (quotient_lines v size) ∙ ap (λ (z : Bool). run (if z then [] else flat_instr.Divs v v size.slot ∷ []) ctx d) e
          ∙ quotients.signed_runs v v size.slot ctx d (ap (can_divide_signed (slot d v)) sized ∙ may-divide (slot d v) size.value some few);
      changed = changed-twice 1 v c.slots (slice_set c.slots v m) (slice_set (slice_set c.slots v m) v k) (changed-one c.slots v m) (changed-one (slice_set c.slots v m) v k);
      holds = get_or-set_same (slice_set c.slots v m) v k 0 (let l = length-set c.slots v m in omega (arith, room, l))
          ∙ ap (λ (x : ℕ). quotient_signed x (slot d size.slot)) here ∙ ap (quotient_signed (word (n *ℤ pos size.value))) sized
          ∙ ap (λ (x : ℤ). word (int_div x (signed size.value))) (signed-near (n *ℤ pos size.value) near)
          ∙ ap (λ (x : ℤ). word (int_div (n *ℤ pos size.value) x))
          (ap signed (sym (word-small size.value (omega (arith, few)))) ∙ signed-near (pos size.value) (record { low = omega (arith, ints); high = omega (arith, ints, few) }))
          ∙ ap word (divided n size.value some);
    }
      where
        k : ℕ
        k = quotient_signed (slot d v) (slot d size.slot)

        sized : slot d size.slot ≡ size.value
        sized = get_or-set_other c.slots v size.slot m 0 (h refl).1 ∙ (h refl).0

-- What is asked

difference-roles : (size : Fixed) → AreOfRoles (size_needed size)
difference-roles size = by (nat_eq size.value 1)
  where
    by : (q : Bool) → AreOfRoles (if q then [] else need Size size ∷ [])
    by true = tt
    by false = (refl, tt, tt)

-- the size stands in its slot
size-there : (w : Scene) (d : flat.Local) (size : Fixed) → AreThere w d (size_needed size) → nat_eq size.value 1 ≡ false → (slot d size.slot ≡ size.value) × IsOther (work_of w.slots) size.slot
size-there w d size there e = by (nat_eq size.value 1) there e
  where
    by : (q : Bool) → AreThere w d (if q then [] else need Size size ∷ []) → q ≡ false → (slot d size.slot ≡ size.value) × IsOther (work_of w.slots) size.slot
    by true there e = absurd (cc (e))
    by false there e = (there.0, there.1)

size-seat : (w : Scene) (g : AreSlots w.slots) (into : Temp) (takes : Takes (world_of w) into 1) (size : Fixed) (lines : Lines) → AreGot (world_of w) (size_needed size) lines
    → nat_eq size.value 1 ≡ false → size.slot ≢ w.slots.column into
unfolding Then
size-seat w g into takes size lines got e = by (nat_eq size.value 1) got e
  where
    by : (q : Bool) → AreGot (world_of w) (if q then [] else need Size size ∷ []) lines → q ≡ false → size.slot ≢ w.slots.column into
    by true got e f = absurd (cc (e))
    by false (first, rest, gets, more, is) e f = seat-apart w g into 1 takes Size size.value size.slot first gets 0 (omega arith) (omega (arith, f))

-- THE LAW OF DIFFERENCES
pub difference-follows : (w : Scene) (names : Names w) (g : AreSlots w.slots) (b : Running) (into a : Temp) (t : TypeId) (i : Temp) (s : TypeId) (at : Place) (known after : Knowledge)
    (blocks : Blocks) (lines : Lines)
    → ((m n : NodeId) (u v : TypeId) → IsPointer (world_of w) t m u → IsPointer (world_of w) s n v
    → (w.programs.whole.kind m ≡ Seq) × (w.programs.whole.kind n ≡ Seq) × IsComplete w.programs.whole.table v × IsTrue (physically_equal w.programs.whole.table u v))
    → IsCuringPoint (point.Difference into a t i s at) (world_of w) known after lines
    → Follows w g b blocks known after (meaning.act (instr.Point (point.Difference into a t i s at)) (around_of w b)) lines
unfolding Line Then
difference-follows w names g b into a t i s at known after blocks lines plain
    (m, n, u, v, p, q, x, y, seat, pointer_t, pointer_s, complete, points_a, points_i, takes, (first, last, guard, last_is, lines_is), leave) l c point =
    subst (λ (z : Value). Match w g b after blocks (given (difference_value S at t s z (l.temps i) l.state)) (run lines (context_of w b) c)) (sym L.value)
    (subst (λ (z : Value). Match w g b after blocks (given (difference_value S at t s (Address L.pointer) z l.state)) (run lines (context_of w b) c)) (sym R.value)
    (subst (λ (h : TypeShape). Match w g b after blocks (given (shaped h (w.programs.whole.kind (node_of_shape (shape_at w.programs.whole.table s))))) (run lines (context_of w b) c)) (sym pointer_t)
    (subst (λ (h : TypeShape). Match w g b after blocks (given (of_kinds (w.programs.whole.kind m) (w.programs.whole.kind (node_of_shape h)))) (run lines (context_of w b) c)) (sym pointer_s)
    (subst (λ (k : Kind). Match w g b after blocks (given (of_kinds k (w.programs.whole.kind n))) (run lines (context_of w b) c)) (sym seq_m)
    (subst (λ (k : Kind). Match w g b after blocks (given (of_kinds Seq k)) (run lines (context_of w b) c)) (sym seq_n)
    (subst (λ (js : Lines). Match w g b after blocks (given (F (all_placed S (λ z. at) conditions l.state))) (run js (context_of w b) c)) (sym lines_is)
    (subst (λ (f : FlatOutcome). Match w g b after blocks (given (F (all_placed S (λ z. at) conditions l.state))) f) (sym (z.runs last))
    (guard-gives w g b known after blocks into l z.after z.point stop (all_placed S (λ z. at) conditions l.state) alike_stop F (λ e s. refl) last gives))))))))
  where
    S : Setting
    S = setting_of w.programs

    sorts : (w.programs.whole.kind m ≡ Seq) × (w.programs.whole.kind n ≡ Seq) × IsComplete w.programs.whole.table v × IsTrue (physically_equal w.programs.whole.table u v)
    sorts = plain m n u v pointer_t pointer_s

    seq_m : w.programs.whole.kind m ≡ Seq
    seq_m = sorts.0

    seq_n : w.programs.whole.kind n ≡ Seq
    seq_n = sorts.1

    L : Pointed w g b l c a m u p
    L = pointed w g b known l c point a m u p x (as-address known a m u p x points_a)

    R : Pointed w g b l c i n v q
    R = pointed w g b known l c point i n v q y (as-address known i n v q y points_i)

    P : PointerSlots
    P = pointer_slots p

    Q : PointerSlots
    Q = pointer_slots q

    N : ℕ
    N = size_of w.programs.whole.table u

    size : Fixed
    size = number_at seat Size (w.programs.whole.size u)

    size_is : w.programs.whole.size u ≡ widths_of.cured_size w.programs.whole.table w.programs.whole.kind u
    size_is = names.sizes.size u complete

    given : Outcome source.Ending source.State Value → CodeOutcome
    given r = from (beside l.temps r) (λ j. leaves (λ (e : code.Local). record e { temps = with_temp into j e.temps }) >> done Goes)

    shaped : TypeShape → Kind → Outcome source.Ending source.State Value
    shaped h o = from (from (all_placed S (λ z. at) (conditions_of (Subtract (size_of w.programs.whole.table (pointee_of_shape h)) (used o R.pointer)) (w.programs.whole.kind (node_of_shape h)) L.pointer) l.state)
        (λ z. difference (size_of w.programs.whole.table (pointee_of_shape h)) L.pointer R.pointer)) (λ e. done (Integer e))

    of_kinds : Kind → Kind → Outcome source.Ending source.State Value
    of_kinds k o = from (from (all_placed S (λ z. at) (conditions_of (Subtract (size_of w.programs.whole.table u) (used o R.pointer)) k L.pointer) l.state)
        (λ z. difference (size_of w.programs.whole.table u) L.pointer R.pointer)) (λ e. done (Integer e))

    F : Outcome source.Ending source.State (Unit {0}) → Outcome source.Ending source.State Value
    F o = from (from o (λ z. difference (size_of w.programs.whole.table u) L.pointer R.pointer)) (λ e. done (Integer e))

    conditions : List Condition
    conditions = HasBase L.pointer ∷ HasBase R.pointer ∷ AreElementsApart (size_of w.programs.whole.table u) (used Seq L.pointer) (used Seq R.pointer) ∷ []

    same : List Asked
    same = all_asked check.Same at (AreOfPart P Q ∷ elements_apart P Q (Some size))

    asks : List Asked
    asks = asked check.Base at (IsNotZero (p + 1)) ∷ asked check.Base at (IsNotZero (q + 1)) ∷ all_asked check.Same at (AreOfPart (pointer_slots p) (pointer_slots q) ∷ elements_apart (pointer_slots p) (pointer_slots q) (Some size))

    guarding : Then (AreGot (world_of w) (size_needed size)) (AreChecks (work_of w.slots) asks) first
    guarding = subst (λ (o : Kind). IsGuarded (world_of w) (order_by (world_of w) seat Seq P o Q (Some size)) Seq at first) seq_n
        (subst (λ (k : Kind). IsGuarded (world_of w) (order_by (world_of w) seat k P (w.programs.whole.kind n) Q (Some (number_at seat Size (rules.reach_of (world_of w) k u)))) k at first) seq_m guard)

    p_lasts : (j : ℕ) → j < 3 → IsLasting (g.owner (p + j))
    p_lasts j less = L.lasting j (subst (λ (d : Kind). j < word_number d) (sym seq_m) less)

    q_lasts : (j : ℕ) → j < 3 → IsLasting (g.owner (q + j))
    q_lasts j less = R.lasting j (subst (λ (d : Kind). j < word_number d) (sym seq_n) less)

    some : 0 < w.programs.whole.size u
    some = let e = size_is in let h = some-size S names.solved.well_formed u complete in omega (arith, e, h)

    few : w.programs.whole.size u < 2 ^ 40
    few = let e = size_is in let h = small S names.solved.well_formed u complete in omega (arith, e, h)

    base_p : IsOther (work_of w.slots) (p + 1)
    base_p = lasting-other w g (p + 1) (p_lasts 1 (omega arith))

    base_q : IsOther (work_of w.slots) (q + 1)
    base_q = lasting-other w g (q + 1) (q_lasts 1 (omega arith))

    first_p : IsOther (work_of w.slots) p
    first_p = lasting-other w g p (subst (λ (j : ℕ). IsLasting (g.owner j)) (let f : p + 0 ≡ p = omega arith in f) (p_lasts 0 (omega arith)))

    first_q : IsOther (work_of w.slots) q
    first_q = lasting-other w g q (subst (λ (j : ℕ). IsLasting (g.owner j)) (let f : q + 0 ≡ q = omega arith in f) (q_lasts 0 (omega arith)))

    ends : AreApart (work_of w.slots) (AreOfPart (pointer_slots p) (pointer_slots q))
    ends = (base_p, (lasting-other w g (p + 2) (p_lasts 2 (omega arith)), (base_q, (lasting-other w g (q + 2) (q_lasts 2 (omega arith)), tt))))

    is_ready : (d : flat.Local) → AreThere w d (size_needed size) → AreReady w c d asks
    is_ready d there = by (nat_eq size.value 1) refl
      where
        by : (e : Bool) → nat_eq size.value 1 ≡ e → AreReady w c d (asked check.Base at (IsNotZero (p + 1)) ∷ asked check.Base at (IsNotZero (q + 1))
            ∷ all_asked check.Same at (AreOfPart (pointer_slots p) (pointer_slots q) ∷ (if e then [] else condition.AreElementsApart (pointer_slots p) (pointer_slots q) size ∷ [])))
        by true e = record {
          apart = (base_p, (base_q, (ends, tt)));
          held = (tt, (tt, (tt, tt)));
          safe = (tt, λ e. (tt, λ e. (tt, λ e. tt)));
        }
        by false e = record {
          apart = (base_p, (base_q, (ends, ((first_p, (first_q, ((size-there w d size there e).1, tt))), tt))));
          held = (tt, (tt, (tt, ((size-there w d size there e).0, tt))));
          safe = (tt, λ e. (tt, λ e. (tt, λ e. (may-divide (difference_words (slot d p) (slot d q)) (w.programs.whole.size u) some few, λ e. tt))));
        }

    z : Guarded w g b known l (size_needed size) asks first c
    z = guarded w g b known l (size_needed size) asks first c point (difference-roles size) guarding (λ d passed there. is_ready d there)

    stop : Option Asked
    stop = first_false w.programs.parts c.state.memory asks (slot z.middle)

    left : (d : flat.Local) → Passed w g c.slots d.slots → IsChecked S w.programs.whole.node l.state c.state b.depth Seq u L.pointer (slot d) (pointer_slots p)
    left d passed = subst (λ (j : Kind). IsChecked S w.programs.whole.node l.state c.state b.depth j u L.pointer (slot d) (pointer_slots p)) seq_m
        (checked-words w g b known l c d point passed a m u p L)

    right : (d : flat.Local) → Passed w g c.slots d.slots → IsChecked S w.programs.whole.node l.state c.state b.depth Seq v R.pointer (slot d) (pointer_slots q)
    right d passed = subst (λ (j : Kind). IsChecked S w.programs.whole.node l.state c.state b.depth j v R.pointer (slot d) (pointer_slots q)) seq_n
        (checked-words w g b known l c d point passed i n v q R)

    -- of one part, the second too is one to the first type
    as-first : (j d : Location) → L.pointer ≡ At j → R.pointer ≡ At d → ((j.object == d.object) && same_part j.part d.part) ≡ true → (e : flat.Local)
        → IsChecked S w.programs.whole.node l.state c.state b.depth Seq v R.pointer (slot e) (pointer_slots q)
        → IsChecked S w.programs.whole.node l.state c.state b.depth Seq u R.pointer (slot e) (pointer_slots q)
    as-first j d is_j is_d one e h = record {
      related = h.related;
      held = record {
        value = value-class S names.solved.well_formed (outlines_of l.state.memory) Seq v u R.pointer (class_turned w.programs.whole.table w.programs.whole.kind u v class) h.held.value;
        reaches = h.held.reaches;
      };
      words = h.words;
    }
      where
        parts : same_part j.part d.part ≡ true
        parts = agree.second (j.object == d.object) (same_part j.part d.part) one

        class : IsOfOneClass w.programs.whole.table w.programs.whole.kind u v
        class = class-alike S names.solved.well_formed u v complete sorts.2
            (repetitions-agree S names.solved.well_formed w.programs.sites names.solved.made names.solved.told (outlines_of l.state.memory) u v j d
            (subst (IsValueOf S (outlines_of l.state.memory) Seq u) is_j (left c (passed-none w g c.slots)).held.value)
            (subst (IsValueOf S (outlines_of l.state.memory) Seq v) is_d (right c (passed-none w g c.slots)).held.value)
            (true-eq j.object d.object (agree.first (j.object == d.object) (same_part j.part d.part) one))
            (true-eq j.part.low d.part.low (agree.first (j.part.low == d.part.low) (j.part.high == d.part.high) parts))
            (true-eq j.part.high d.part.high (agree.second (j.part.low == d.part.low) (j.part.high == d.part.high) parts)) complete sorts.2) sorts.3

    -- of two parts no number of elements lies between them
    differences-alike : holds S l.state.memory (HasBase L.pointer) ≡ true → holds S l.state.memory (HasBase R.pointer) ≡ true
        → all_hold w.programs.parts c.state.memory same (slot z.middle) ≡ holds S l.state.memory (AreElementsApart N (used Seq L.pointer) (used Seq R.pointer))
    differences-alike one two = of (based-at L.pointer one) (based-at R.pointer two)
      where
        of : (j : Location) × (L.pointer ≡ At j) → (d : Location) × (R.pointer ≡ At d)
            → all_hold w.programs.parts c.state.memory same (slot z.middle) ≡ holds S l.state.memory (AreElementsApart N (used Seq L.pointer) (used Seq R.pointer))
        of (j, is_j) (d, is_d) = by ((j.object == d.object) && same_part j.part d.part) refl
          where
            by : (q : Bool) → ((j.object == d.object) && same_part j.part d.part) ≡ q
                → all_hold w.programs.parts c.state.memory same (slot z.middle) ≡ holds S l.state.memory (AreElementsApart N (used Seq L.pointer) (used Seq R.pointer))
            by true e = differences-compared S w.programs.whole.node l.state c.state w.programs.parts b.depth u names.solved.well_formed complete point.there.facts.outlines (slot z.middle)
                L.pointer R.pointer P Q size at size_is (left z.middle z.passed) (as-first j d is_j is_d e z.middle (right z.middle z.passed)) one two
            by false e =
                ap (λ (q : Bool). q && all_hold w.programs.parts c.state.memory (all_asked check.Same at (elements_apart P Q (Some size))) (slot z.middle))
                (parts-alike S w.programs.whole.node l.state c.state point.there.related point.there.facts.outlines w.programs.parts b.depth (slot z.middle) u v j d P Q
                (subst (λ (q : Pointer). IsChecked S w.programs.whole.node l.state c.state b.depth Seq u q (slot z.middle) P) is_j (left z.middle z.passed))
                (subst (λ (q : Pointer). IsChecked S w.programs.whole.node l.state c.state b.depth Seq v q (slot z.middle) Q) is_d (right z.middle z.passed)) ∙ e)
                ∙ sym (ap (λ (q : Pointer). holds S l.state.memory (AreElementsApart N (used Seq q) (used Seq R.pointer))) is_j
                ∙ ap (λ (q : Pointer). holds S l.state.memory (AreElementsApart N (used Seq (At j)) (used Seq q))) is_d
                ∙ ap (λ (q : Bool). q && int_eq (int_rem_euclid (j.offset -ℤ d.offset) (pos N)) (pos 0)) e)

    alike_stop : StopsAlike stop (all_placed S (λ z. at) conditions l.state) l.state
    alike_stop = stops-then w.programs.parts c.state.memory (slot z.middle) S (λ z. at) l.state (asked check.Base at (IsNotZero (p + 1))) (asked check.Base at (IsNotZero (q + 1)) ∷ same)
        (HasBase L.pointer) (HasBase R.pointer ∷ AreElementsApart N (used Seq L.pointer) (used Seq R.pointer) ∷ []) refl refl
        (base-compared S w.programs.whole.node l.state c.state w.programs.parts b.depth u L.pointer (slot z.middle) P (left z.middle z.passed))
        (λ one. stops-then w.programs.parts c.state.memory (slot z.middle) S (λ z. at) l.state (asked check.Base at (IsNotZero (q + 1))) same (HasBase R.pointer)
        (AreElementsApart N (used Seq L.pointer) (used Seq R.pointer) ∷ []) refl refl
        (base-compared S w.programs.whole.node l.state c.state w.programs.parts b.depth v R.pointer (slot z.middle) Q (right z.middle z.passed))
        (λ two. subst (λ (o : Outcome source.Ending source.State (Unit {0})). StopsAlike (first_false w.programs.parts c.state.memory same (slot z.middle)) o l.state)
        (sym (one-placed S (λ z. at) (AreElementsApart N (used Seq L.pointer) (used Seq R.pointer)) l.state))
        (stops-together w.programs.parts c.state.memory (slot z.middle) S l.state at same (AreElementsApart N (used Seq L.pointer) (used Seq R.pointer))
        (all-stop at (AreOfPart P Q ∷ elements_apart P Q (Some size)))
        (none-false w.programs.parts c.state.memory same (slot z.middle) ∙ differences-alike one two))))

    Goal : Outcome source.Ending source.State Value → FlatOutcome → Type 0
    Goal o f = Matches (Gave w g b known after into l z.after) (λ e s f d. StatesEndAlike w.programs e s f d.state) o f

    gives : stop ≡ None → Goal (F (Done tt l.state)) (run last (context_of w b) z.after)
    gives none = at_objects (based-at L.pointer hold.0) (based-at R.pointer hold.1.0)
      where
        hold : AllHold S l.state.memory conditions
        hold = all-held S (λ z. at) conditions l.state (subst (λ (j : Option Asked). StopsAlike j (all_placed S (λ z. at) conditions l.state) l.state) none alike_stop)

        kept : Passed w g c.slots z.after.slots
        kept = record { others = λ j lasts. guarded-lasting w g b known l (size_needed size) asks first c z j lasts; long = z.point.count ∙ sym point.count }

        at_objects : (j : Location) × (L.pointer ≡ At j) → (d : Location) × (R.pointer ≡ At d) → Goal (F (Done tt l.state)) (run last (context_of w b) z.after)
        at_objects (j, is_j) (d, is_d) = of (splits N (j.offset -ℤ d.offset) (names.solved.well_formed.sized u complete).some)
          where
            together : (of_one_part (used Seq (At j)) (used Seq (At d)) && int_eq (int_rem_euclid (j.offset -ℤ d.offset) (pos N)) (pos 0)) ≡ true
            together = subst (λ (e : Pointer). holds S l.state.memory (AreElementsApart N (used Seq e) (used Seq (At d))) ≡ true) is_j
                (subst (λ (e : Pointer). holds S l.state.memory (AreElementsApart N (used Seq L.pointer) (used Seq e)) ≡ true) is_d hold.1.1.0)

            one : of_one_part (used Seq (At j)) (used Seq (At d)) ≡ true
            one = agree.first _ _ together

            object : j.object ≡ d.object
            object = true-eq j.object d.object (agree.first _ _ one)

            low : j.part.low ≡ d.part.low
            low = true-eq j.part.low d.part.low (agree.first _ _ (agree.second (j.object == d.object) (same_part j.part d.part) one))

            whole : residue (j.offset -ℤ d.offset) N ≡ 0
            whole = true-eq _ _ (sym (rem-euclid (j.offset -ℤ d.offset) N) ∙ agree.second (of_one_part (used Seq (At j)) (used Seq (At d))) _ together)

            held_j : IsHeldIn S l.state.memory b.depth Seq u (At j)
            held_j = subst (IsHeldIn S l.state.memory b.depth Seq u) is_j (left z.middle z.passed).held

            second : (e : flat.Local) → Passed w g c.slots e.slots → IsChecked S w.programs.whole.node l.state c.state b.depth Seq u R.pointer (slot e) (pointer_slots q)
            second e passed = as-first j d is_j is_d one e (right e passed)

            held_d : IsHeldIn S l.state.memory b.depth Seq u (At d)
            held_d = subst (IsHeldIn S l.state.memory b.depth Seq u) is_d (second z.middle z.passed).held

            value_j : IsSequenceAt S (outlines_of l.state.memory) u j
            value_j = held_j.value

            value_d : IsSequenceAt S (outlines_of l.state.memory) u d
            value_d = held_d.value

            gr : Ground
            gr = ground_of w.programs l.state c.state

            start : ℕ
            start = place gr j.object j.part.low

            W : Location → ℤ
            W e = widths w.programs.whole.kind (cells_of w.programs.whole.table u) (distance e)

            far_j : IsFar S j (W j)
            far_j = far-whole S names.solved.well_formed (outlines_of l.state.memory) u complete j value_j

            far_d : IsFar S d (W d)
            far_d = far-whole S names.solved.well_formed (outlines_of l.state.memory) u complete d value_d

            first_j : slot z.after p ≡ word (pos start +ℤ W j)
            first_j = (left z.after kept).words.0 ∙ ap (first_word gr Seq) is_j ∙ ap (λ (e : ℤ). word (pos start +ℤ e)) far_j.is

            first_d : slot z.after q ≡ word (pos start +ℤ W d)
            first_d = (second z.after kept).words.0 ∙ ap (first_word gr Seq) is_d ∙ ap (λ (e : ℤ). word (pos (place gr d.object d.part.low) +ℤ e)) far_d.is
                ∙ ap (λ (e : ℕ). word (pos e +ℤ W d)) (ap (λ (e : ℕ). place gr e d.part.low) (sym object) ∙ ap (place gr j.object) (sym low))

            of : Splits N (j.offset -ℤ d.offset) → Goal (F (Done tt l.state)) (run last (context_of w b) z.after)
            of k =
                subst (λ (js : Lines). Goal (F (Done tt l.state)) (run js (context_of w b) z.after)) (sym lines_are)
                (subst (λ (o : Outcome source.Ending source.State Value). Goal o (run (flat_instr.Sub (w.slots.column into) p q ∷ quotient_lines (w.slots.column into) size) (context_of w b) z.after)) (sym value)
                (subst (Goal (Done (Integer k.q) l.state)) (sym lines_do.runs)
                (gave-integer w g b known after into long Exact k.q l z.after lines_do.slots z.point takes lines_do.changed (inr (inr (inr refl))) (long-near k.q near_q) lines_do.holds
                (subst (λ (e : ℕ). e < 2 ^ 64) (sym lines_do.holds) (word-below k.q)) leave)))
              where
                exact : j.offset -ℤ d.offset ≡ k.q *ℤ pos N
                exact =
                    let e : residue (k.q *ℤ pos N +ℤ pos k.r) N ≡ k.r = residue-is N k.q k.r k.below in
                    let f : residue (j.offset -ℤ d.offset) N ≡ residue (k.q *ℤ pos N +ℤ pos k.r) N = ap (λ (x : ℤ). residue x N) k.is in
                    let r : k.r ≡ 0 = (let h = whole in omega (arith, e, f, h)) in
                    k.is ∙ ap (λ (x : ℕ). k.q *ℤ pos N +ℤ pos x) r ∙ no_more (k.q *ℤ pos N)
                  where
                    no_more : (x : ℤ) → x +ℤ pos 0 ≡ x
                    no_more x = omega (arith, ints)

                value : F (Done tt l.state) ≡ Done (Integer k.q) l.state
                value = ap (λ (e : Pointer). from (difference N e R.pointer l.state) (λ e. done (Integer e))) is_j
                    ∙ ap (λ (e : Pointer). from (difference N (At j) e l.state) (λ e. done (Integer e))) is_d
                    ∙ ap (λ (e : ℤ). Done (Integer (int_div e (pos N))) l.state) exact
                    ∙ ap (λ (e : ℤ). Done (Integer e) l.state) (divided k.q N (names.solved.well_formed.sized u complete).some)

                lines_are : last ≡ flat_instr.Sub (w.slots.column into) p q ∷ quotient_lines (w.slots.column into) size
                lines_are = last_is ∙ ap (λ (e : Kind). flat_instr.Sub (w.slots.column into) p q ∷ quotient_lines (w.slots.column into) (number_at seat Size (rules.reach_of (world_of w) e u))) seq_m

                -- so many elements further, once cured
                moved : W j ≡ W d +ℤ k.q *ℤ pos (w.programs.whole.size u)
                moved =
                    ap (widths w.programs.whole.kind (cells_of w.programs.whole.table u)) (behind j.offset d.offset j.part.low d.part.low low
                    ∙ ap (λ (x : ℤ). distance d +ℤ x) (exact ∙ ap (λ (x : ℕ). k.q *ℤ pos x) (sym (sequences.long S names.solved.well_formed u complete))))
                    ∙ stair-moved (before w.programs.whole.kind (cells_of w.programs.whole.table u)) (length (cells_of w.programs.whole.table u))
                    (widths_of.cured_size w.programs.whole.table w.programs.whole.kind u)
                    (let e = sequences.long S names.solved.well_formed u complete in let h = (names.solved.well_formed.sized u complete).some in omega (arith, e, h)) (distance d) k.q
                    ∙ ap (λ (x : ℕ). W d +ℤ k.q *ℤ pos x) (sym size_is)
                  where
                    behind : (x y : ℤ) (a b : ℕ) → a ≡ b → x -ℤ pos a ≡ (y -ℤ pos b) +ℤ (x -ℤ y)
                    behind x y a b e = omega (arith, ints, e)

                near : IsWithin (k.q *ℤ pos (w.programs.whole.size u)) (2 ^ 61)
                near = let e = moved in let a = far_j.near.low in let b = far_j.near.high in let x = far_d.near.low in let y = far_d.near.high in
                    record { low = omega (arith, ints, e, a, b, x, y); high = omega (arith, ints, e, a, b, x, y) }

                near_q : IsWithin k.q (2 ^ 61)
                near_q = within-multiple k.q (w.programs.whole.size u) (2 ^ 61) some near

                apart : difference_words (slot z.after p) (slot z.after q) ≡ word (k.q *ℤ pos (w.programs.whole.size u))
                apart = ap (λ (x : ℕ). difference_words x (slot z.after q)) first_j ∙ ap (difference_words (word (pos start +ℤ W j))) first_d
                    ∙ difference-word (pos start +ℤ W j) (pos start +ℤ W d) ∙ ap word (let e = moved in less (pos start) (W j) (W d) (k.q *ℤ pos (w.programs.whole.size u)) e)
                  where
                    less : (a x y n : ℤ) → x ≡ y +ℤ n → (a +ℤ x) -ℤ (a +ℤ y) ≡ n
                    less a x y n e = omega (arith, ints, e)

                lines_do : Quotient (context_of w b) z.after (w.slots.column into) p q size k.q
                lines_do = quotient-of (context_of w b) z.after (w.slots.column into) p q size k.q
                    (let e = column-room w g into 1 takes (omega arith) in let f = z.point.count in omega (arith, e, f)) apart some few near
                    (λ e. let h = size-there w z.middle size z.there e in (z.others size.slot h.1 ∙ h.0, size-seat w g into takes size guarding.0 guarding.2 e))
