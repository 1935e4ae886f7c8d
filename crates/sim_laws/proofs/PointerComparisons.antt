-- Comparisons of SAFE and SEQ pointers, behind BASE and SAME.
use Rattle.sim_checks.proofs.Addresses.{there}
use Rattle.std.proofs.Common.{◌≡◌, ◌≢◌, ℕ, ◌+◌, ◌^◌, ◌<◌, ℤ, pos, ◌+ℤ◌, Bool, true, false, not, ◌&&◌, ◌||◌, List, [], ◌∷◌, ◌++◌, length, slice_index, slice_set, Option, Some, None, refl, ap, sym, subst, ◌∙◌, arith, nat_eq, is_none, length-set, get_or-set_same, get_or-set_other}
use Rattle.std.specs.Prelude.{bit_and, ◌==◌, ⊤}
use Rattle.cc_base.specs.declared.fault.Check.TheVariants as check
use Rattle.cc_base.specs.declared.kind.Kind.{Kind}
use Rattle.cc_base.specs.declared.kind.Kind.TheVariants.{Safe, Seq, Rtti, Wild}
use Rattle.cc_base.specs.declared.number.TypeId.{TypeId}
use Rattle.cc_base.specs.declared.number.NodeId.{NodeId}
use Rattle.cc_base.specs.declared.place.Place.{Place}
use Rattle.c_types.specs.declared.shape.TypeShape.{TypeShape}
use Rattle.c_types.specs.Table.{shape_at}
use Rattle.integers.specs.Words.{word, truth_word, equal_words}
use Rattle.integers.specs.Operators.{less_signed}
use Rattle.integers.specs.Arithmetic.{int, truth}
use Rattle.integers.proofs.SignedLaws.{not-truth}
use Rattle.integers.proofs.WordLaws.{word-below}
use Rattle.runs.specs.Outcome.{Outcome, Ended, Done, done, leaves, from, Matches, ◌>>◌}
use Rattle.runs.specs.Control.{Goes}
use Rattle.src_mem.specs.Pointers.{Location, Pointer, At, Value, Integer, Address, same_pointer, same_part}
use Rattle.src_mem.specs.State as source
use Rattle.src_mem.specs.State.{Act, Setting}
use Rattle.src_mem.specs.Checks.{Condition, HasBase, AreComparable, AreOfOnePart, holds, all_placed, of_one_part}
use Rattle.src_mem.specs.Primitives.{is_before, are_equal}
use Rattle.src_mem.specs.Operations.{node_of_shape, compared}
use Rattle.src_mem.specs.Values.{compared_value}
use Rattle.src_mem.specs.Outlines.{outlines_of}
use Rattle.src_mem.specs.Facts.{IsHeldIn, IsSequenceAt}
use Rattle.facts_kept.specs.Kept.{AllHold}
use Rattle.facts_kept.proofs.Agree as agree
use Rattle.cil_form.specs.declared.number.Temp.{Temp}
use Rattle.cil_form.specs.declared.instr.Comparison.{Comparison}
use Rattle.cil_form.specs.declared.instr.Comparison.TheVariants as comparison
use Rattle.cil_form.specs.declared.instr.Point.TheVariants as point
use Rattle.cil_form.specs.declared.instr.Instr.TheVariants as instr
use Rattle.cil_form.specs.State as code
use Rattle.cil_form.specs.State.{with_temp, beside}
use Rattle.cil_form.specs.Meaning as meaning
use Rattle.cil_form.specs.Meaning.{operator_of_comparison}
use Rattle.cured_code.specs.declared.instr.Instr.TheVariants as flat_instr
use Rattle.cured_code.specs.FlatState as flat
use Rattle.cured_code.specs.FlatState.{slot, with_slot}
use Rattle.cured_code.specs.FlatMachine.{Context, run}
use Rattle.check_forms.specs.declared.slots.PointerSlots.{PointerSlots}
use Rattle.check_forms.specs.Pieces.{Line, Then}
use Rattle.check_forms.specs.Conditions.{AreOfPart, IsNotZero}
use Rattle.check_forms.specs.Lines.{IsOther, AreOther, AreApart}
use Rattle.check_forms.specs.Rows.{Asked, asked, all_asked, equated, home_slot}
use Rattle.check_forms.specs.RowChecks.{AreChecks, first_false}
use Rattle.check_forms.proofs.TestLaws.{append-append}
use Rattle.sim_relation.specs.Ground.{Ground, place, first_word, word_number}
use Rattle.sim_relation.specs.Points.{Knowledge, Sure, Exact}
use Rattle.sim_checks.specs.Rows.{IsChecked, AreWordsOf}
use Rattle.sim_checks.specs.Comparing.{used}
use Rattle.sim_checks.specs.Moving.{all_hold}
use Rattle.sim_checks.proofs.Pointing.{base-compared}
use Rattle.sim_checks.proofs.Sameness.{equalities-compared, orders-compared, true-eq}
use Rattle.cure_rules.specs.Slots.{AreSlots, First, Second, slot_of, work_of}
use Rattle.cure_rules.specs.Known as rules
use Rattle.cure_rules.specs.Known.{Takes, IsPointer, Points, an_integer, pointer_slots}
use Rattle.cure_rules.specs.Checks.{AreGot, IsGuarded}
use Rattle.cure_rules.specs.Setting.{is_wide_kind, comparison_lines}
use Rattle.cure_rules.specs.Pointing.{equal_lines, sameness_lines, compared_lines, comparing, order_by, IsCuringPoint}
use Rattle.cure_rules.specs.Code.{Blocks}
use Rattle.sim_laws.specs.Scenes.{Scene, Running, setting_of, world_of, around_of, context_of}
use Rattle.sim_laws.specs.Points.{Point, IsLasting, Passed, ground_of}
use Rattle.sim_laws.specs.Statements.{Lines, CodeOutcome, FlatOutcome, StatesEndAlike, Match, Follows}
use Rattle.sim_laws.specs.Plain.{IsPlainKind}
use Rattle.sim_laws.proofs.Guards.{passed-none, passed-then, passed-role, lasting-apart, lasting-other, role-there}
use Rattle.sim_laws.proofs.Giving.{Gave, gave-past, Changed, changed-one, column-room}
use Rattle.sim_laws.proofs.Names.{Names}
use Rattle.sim_laws.proofs.Sets.{gave-integer}
use Rattle.sim_laws.proofs.Calculations.{changed-twice, int-size, truth-range, truth-word}
use Rattle.sim_laws.proofs.Comparisons as integers
use Rattle.sim_laws.proofs.Comparisons.{Compared, result_of, nought-apart, not-less}
use Rattle.sim_laws.proofs.Checks.{AreReady, all-stop, Guarded, StopsAlike, passed-point, guarded, guarded-lasting, stops-alike, stops-together, one-placed, none-false, guard-gives}
use Rattle.sim_laws.proofs.Reaching.{Pointed, pointed, first-lasts, plain-tags, based-at, checked-words}
use Rattle.sim_laws.proofs.Accessing.{all-held}
use Rattle.sim_laws.proofs.Storing.{as-address}
use Rattle.sim_laws.proofs.Ordering.{AreAlike, alike, words-less, words-same}
use Rattle.sim_laws.proofs.Equalities.{home_word, says_equal, equal-alike}

-- What the lines of an equality leave

-- a truth value in the column, behind lines that write working slots alone
record Says (w : Scene) (g : AreSlots w.slots) (b : Running) (into : Temp) (d : flat.Local) (lines : Lines) (q : Bool) : Type 0 where
  middle : flat.Local
  state : middle.state ≡ d.state
  passed : Passed w g d.slots middle.slots
  slots : List ℕ
  changed : Changed 1 (w.slots.column into) middle.slots slots
  runs : (rest : Lines) → run (lines ++ rest) (context_of w b) d ≡ run rest (context_of w b) (record middle { slots = slots })
  holds : slice_index slots (w.slots.column into) ≡ truth_word q

and-truth : (p q : Bool) → bit_and (truth_word p) (truth_word q) ≡ truth_word (p && q)
and-truth true true = refl
and-truth true false = refl
and-truth false true = refl
and-truth false false = refl

-- one comparison
eq-runs : (ctx : Context) (c : flat.Local) (v a b : ℕ) (rest : Lines) → run (flat_instr.Eq v a b ∷ rest) ctx c ≡ run rest ctx (with_slot v (equal_words (slot c a) (slot c b)) c)
eq-runs ctx c v a b rest = refl

and-runs : (ctx : Context) (c : flat.Local) (v a b : ℕ) (rest : Lines) → run (flat_instr.And v a b ∷ rest) ctx c ≡ run rest ctx (with_slot v (bit_and (slot c a) (slot c b)) c)
and-runs ctx c v a b rest = refl

module _ (w : Scene) (g : AreSlots w.slots) (b : Running) (into : Temp) (takes : Takes (world_of w) into 1) (d : flat.Local) (count : length d.slots ≡ w.slots.count)
    (clear : slot d w.slots.nought ≡ 0) (p q : PointerSlots) (h i : ℕ) (p_lasts : IsLasting (g.owner p.first)) (q_lasts : IsLasting (g.owner q.first))
    (h_lasts : IsLasting (g.owner h)) (i_lasts : IsLasting (g.owner i)) where
  abbrev to_slot : ℕ
  to_slot = w.slots.column into

  room : w.slots.column into < length d.slots
  room = let r = column-room w g into 1 takes (omega arith) in omega (arith, r, count)

  narrow : Says w g b into d (flat_instr.Eq (w.slots.column into) p.first q.first ∷ []) (nat_eq (slot d p.first) (slot d q.first))
  narrow = record {
    middle = d;
    state = refl;
    passed = passed-none w g d.slots;
    slots = slice_set d.slots to_slot (equal_words (slot d p.first) (slot d q.first));
    changed = changed-one d.slots to_slot (equal_words (slot d p.first) (slot d q.first));
    runs = λ rest. eq-runs (context_of w b) d to_slot p.first q.first rest;
    holds = get_or-set_same d.slots to_slot (equal_words (slot d p.first) (slot d q.first)) 0 room;
  }

  abbrev left_slot : ℕ
  left_slot = slot_of w.slots First

  abbrev right_slot : ℕ
  right_slot = slot_of w.slots Second

  -- a slot that lasts isn't among those that are worked in
  off-first : (a : ℕ) → IsLasting (g.owner a) → (slots : List ℕ) (n : ℕ) → slice_index (slice_set slots (slot_of w.slots First) n) a ≡ slice_index slots a
  off-first a lasts slots n = get_or-set_other slots (slot_of w.slots First) a n 0 (lasting-apart w g a 0 lasts (omega arith))

  off-second : (a : ℕ) → IsLasting (g.owner a) → (slots : List ℕ) (n : ℕ) → slice_index (slice_set slots (slot_of w.slots Second) n) a ≡ slice_index slots a
  off-second a lasts slots n = get_or-set_other slots (slot_of w.slots Second) a n 0 (lasting-apart w g a 1 lasts (omega arith))

  broad : Says w g b into d (flat_instr.Eq (slot_of w.slots First) h w.slots.nought ∷ flat_instr.Eq (slot_of w.slots Second) i w.slots.nought
      ∷ flat_instr.Eq (slot_of w.slots First) (slot_of w.slots First) (slot_of w.slots Second)
      ∷ flat_instr.Eq (slot_of w.slots Second) p.first q.first ∷ flat_instr.And (w.slots.column into) (slot_of w.slots First) (slot_of w.slots Second) ∷ [])
      (says_equal true (slot d h) (slot d i) (slot d p.first) (slot d q.first))
  broad = record {
    middle = d4;
    state = refl;
    passed = passed-then w g d.slots s3 s4 (passed-then w g d.slots s2 s3 (passed-then w g d.slots s1 s2 (passed-role w g d.slots First n1) (passed-role w g s1 Second n2))
        (passed-role w g s2 First n3)) (passed-role w g s3 Second n4);
    slots = slice_set s4 to_slot (bit_and (slice_index s4 left_slot) (slice_index s4 right_slot));
    changed = changed-one s4 to_slot (bit_and (slice_index s4 left_slot) (slice_index s4 right_slot));
    runs = λ rest.
        eq-runs (context_of w b) d left_slot h w.slots.nought
        (flat_instr.Eq right_slot i w.slots.nought ∷ flat_instr.Eq left_slot left_slot right_slot ∷ flat_instr.Eq right_slot p.first q.first ∷ flat_instr.And to_slot left_slot right_slot ∷ rest)
        ∙ eq-runs (context_of w b) (record d { slots = s1 }) right_slot i w.slots.nought (flat_instr.Eq left_slot left_slot right_slot ∷ flat_instr.Eq right_slot p.first q.first ∷ flat_instr.And to_slot left_slot right_slot ∷ rest)
        ∙ eq-runs (context_of w b) (record d { slots = s2 }) left_slot left_slot right_slot (flat_instr.Eq right_slot p.first q.first ∷ flat_instr.And to_slot left_slot right_slot ∷ rest)
        ∙ eq-runs (context_of w b) (record d { slots = s3 }) right_slot p.first q.first (flat_instr.And to_slot left_slot right_slot ∷ rest)
        ∙ and-runs (context_of w b) d4 to_slot left_slot right_slot rest;
    holds = get_or-set_same s4 to_slot (bit_and (slice_index s4 left_slot) (slice_index s4 right_slot)) 0
        (let e1 = length-set d.slots left_slot n1 in let e2 = length-set s1 right_slot n2 in let e3 = length-set s2 left_slot n3 in let e4 = length-set s3 right_slot n4 in
        let r = room in omega (arith, e1, e2, e3, e4, r))
        ∙ ap (λ (n : ℕ). bit_and n (slice_index s4 right_slot)) first-is ∙ ap (bit_and (truth_word A)) second-is ∙ and-truth A (nat_eq (slot d p.first) (slot d q.first));
  }
    where
      n1 : ℕ
      n1 = equal_words (slot d h) (slot d w.slots.nought)

      s1 : List ℕ
      s1 = slice_set d.slots left_slot n1

      n2 : ℕ
      n2 = equal_words (slice_index s1 i) (slice_index s1 w.slots.nought)

      s2 : List ℕ
      s2 = slice_set s1 right_slot n2

      n3 : ℕ
      n3 = equal_words (slice_index s2 left_slot) (slice_index s2 right_slot)

      s3 : List ℕ
      s3 = slice_set s2 left_slot n3

      n4 : ℕ
      n4 = equal_words (slice_index s3 p.first) (slice_index s3 q.first)

      s4 : List ℕ
      s4 = slice_set s3 right_slot n4

      d4 : flat.Local
      d4 = record d { slots = s4 }

      A : Bool
      A = nat_eq (truth_word (nat_eq (slot d h) 0)) (truth_word (nat_eq (slot d i) 0))

      nought-lasts : IsLasting (g.owner w.slots.nought)
      nought-lasts = subst IsLasting (sym g.nought.is) tt

      apart : left_slot ≢ right_slot
      apart e = omega (arith, e)

      first-room : left_slot < length d.slots
      first-room = let r = role-there w g First in omega (arith, r, count)

      second-room : right_slot < length d.slots
      second-room = let r = role-there w g Second in omega (arith, r, count)

      one : n1 ≡ truth_word (nat_eq (slot d h) 0)
      one = ap (λ (n : ℕ). truth_word (nat_eq (slot d h) n)) clear

      two : n2 ≡ truth_word (nat_eq (slot d i) 0)
      two = ap (λ (n : ℕ). equal_words n (slice_index s1 w.slots.nought)) (off-first i i_lasts d.slots n1)
          ∙ ap (equal_words (slot d i)) (off-first w.slots.nought nought-lasts d.slots n1 ∙ clear)

      three : n3 ≡ truth_word A
      three = ap (λ (n : ℕ). equal_words n (slice_index s2 right_slot)) (get_or-set_other s1 right_slot left_slot n2 0 apart ∙ get_or-set_same d.slots left_slot n1 0 first-room ∙ one)
          ∙ ap (equal_words (truth_word (nat_eq (slot d h) 0)))
          (get_or-set_same s1 right_slot n2 0 (let e = length-set d.slots left_slot n1 in let r = second-room in omega (arith, e, r)) ∙ two)

      kept : (a : ℕ) → IsLasting (g.owner a) → slice_index s3 a ≡ slot d a
      kept a lasts = off-first a lasts s2 n3 ∙ off-second a lasts s1 n2 ∙ off-first a lasts d.slots n1

      four : n4 ≡ truth_word (nat_eq (slot d p.first) (slot d q.first))
      four = ap (λ (n : ℕ). equal_words n (slice_index s3 q.first)) (kept p.first p_lasts) ∙ ap (equal_words (slot d p.first)) (kept q.first q_lasts)

      first-is : slice_index s4 left_slot ≡ truth_word A
      first-is = get_or-set_other s3 right_slot left_slot n4 0 apart
          ∙ get_or-set_same s2 left_slot n3 0 (let e1 = length-set d.slots left_slot n1 in let e2 = length-set s1 right_slot n2 in let r = first-room in omega (arith, e1, e2, r)) ∙ three

      second-is : slice_index s4 right_slot ≡ truth_word (nat_eq (slot d p.first) (slot d q.first))
      second-is = get_or-set_same s3 right_slot n4 0
          (let e1 = length-set d.slots left_slot n1 in let e2 = length-set s1 right_slot n2 in let e3 = length-set s2 left_slot n3 in let r = second-room in omega (arith, e1, e2, e3, r)) ∙ four

  equal-says : (wide : Bool) → Says w g b into d (equal_lines (world_of w) wide (w.slots.column into) p h q i) (says_equal wide (slot d h) (slot d i) (slot d p.first) (slot d q.first))
  equal-says false = narrow
  equal-says true = broad

-- turned round by the slot that holds 0
turned-says : (w : Scene) (g : AreSlots w.slots) (b : Running) (into : Temp) (takes : Takes (world_of w) into 1) (d : flat.Local) (count : length d.slots ≡ w.slots.count)
    (clear : slot d w.slots.nought ≡ 0) (lines : Lines) (q : Bool) → Says w g b into d lines q
    → Says w g b into d (lines ++ flat_instr.Eq (w.slots.column into) (w.slots.column into) w.slots.nought ∷ []) (not q)
turned-says w g b into takes d count clear lines q h = record {
  middle = h.middle;
  state = h.state;
  passed = h.passed;
  slots = slice_set h.slots v n;
  changed = changed-twice 1 v h.middle.slots h.slots (slice_set h.slots v n) h.changed (changed-one h.slots v n);
  runs = λ rest. ap (λ (js : Lines). run js (context_of w b) d) (append-append lines (flat_instr.Eq v v w.slots.nought ∷ []) rest)
      ∙ h.runs (flat_instr.Eq v v w.slots.nought ∷ rest) ∙ eq-runs (context_of w b) (record h.middle { slots = h.slots }) v v w.slots.nought rest;
  holds = get_or-set_same h.slots v n 0 (let r = column-room w g into 1 takes (omega arith) in let e = h.changed.long in let f = h.passed.long in omega (arith, r, e, f, count))
      ∙ ap (λ (k : ℕ). equal_words k (slice_index h.slots w.slots.nought)) h.holds
      ∙ ap (equal_words (truth_word q)) (h.changed.others w.slots.nought (λ j less e. nought-apart w g into takes (omega (arith, e, less)))
      ∙ h.passed.others w.slots.nought (subst IsLasting (sym g.nought.is) tt) ∙ clear)
      ∙ not-truth q;
}
  where
    v : ℕ
    v = w.slots.column into

    n : ℕ
    n = equal_words (slice_index h.slots v) (slice_index h.slots w.slots.nought)

append-none : (lines : Lines) → lines ++ [] ≡ lines
append-none [] = refl
append-none (i ∷ lines) = ap (λ (js : Lines). i ∷ js) (append-none lines)

-- the truth value is given
says-gives : (w : Scene) (g : AreSlots w.slots) (b : Running) (known after : Knowledge) (into : Temp) (l : code.Local) (d : flat.Local) → Point w g b known l d
    → Takes (world_of w) into 1 → rules.Leaves known into (Some (an_integer (w.slots.column into) Exact int)) after → (lines : Lines) (q : Bool) → Says w g b into d lines q
    → Matches (Gave w g b known after into l d) (λ e s k x. StatesEndAlike w.programs e s k x.state) (Done (Integer (truth q)) l.state) (run lines (context_of w b) d)
says-gives w g b known after into l d p takes leave lines q h =
    subst (λ (o : FlatOutcome). Matches (Gave w g b known after into l d) (λ e s k x. StatesEndAlike w.programs e s k x.state) (Done (Integer (truth q)) l.state) o)
    (sym (ap (λ (js : Lines). run js (context_of w b) d) (sym (append-none lines)) ∙ h.runs []))
    (gave-past w g b known after into l d h.middle h.state h.passed (Integer (truth q)) l.state Goes (record h.middle { slots = h.slots })
    (gave-integer w g b known after into int Exact (truth q) l h.middle h.slots (passed-point w g b known l d h.middle p h.state h.passed) takes h.changed int-size (truth-range q)
    (h.holds ∙ truth-word q) (subst (λ (k : ℕ). k < 2 ^ 64) (sym (h.holds ∙ truth-word q)) (word-below (truth q))) leave))

-- What is asked

home-lasts : (w : Scene) (g : AreSlots w.slots) (k : Kind) (a : ℕ) → ((j : ℕ) → j < word_number k → IsLasting (g.owner (a + j))) → IsPlainKind k → IsLasting (g.owner (home_slot k (pointer_slots a)))
home-lasts w g Safe a h plain = subst (λ (j : ℕ). IsLasting (g.owner j)) (let e : a + 0 ≡ a = omega arith in e) (h 0 (omega arith))
home-lasts w g Seq a h plain = h 1 (omega arith)
home-lasts w g Rtti a h plain = absurd plain
home-lasts w g Wild a h plain = absurd plain

home-of : (gr : Ground) (e : ℕ → ℕ) (p : PointerSlots) (k : Kind) (q : Pointer) → IsPlainKind k → AreWordsOf gr e p k q → (e (home_slot k p) ≡ home_word gr k q) × (e p.first ≡ first_word gr k q)
home-of gr e p Safe q plain h = (h, h)
home-of gr e p Seq q plain h = (h.1, h.0)
home-of gr e p Rtti q plain h = absurd plain
home-of gr e p Wild q plain h = absurd plain

equated-ready : (w : Scene) (g : AreSlots w.slots) (c d : flat.Local) (k o : Kind) → IsPlainKind k → IsPlainKind o → (a i : ℕ) (at : Place)
    → ((j : ℕ) → j < word_number k → IsLasting (g.owner (a + j))) → ((j : ℕ) → j < word_number o → IsLasting (g.owner (i + j)))
    → AreReady w c d (all_asked check.Same at (equated k o (pointer_slots a) (pointer_slots i)))
equated-ready w g c d k o pk po a i at x y = by k o pk po x y
  where
    three : (a : ℕ) → ((j : ℕ) → j < 3 → IsLasting (g.owner (a + j))) → AreOther (work_of w.slots) (a ∷ (a + 1) ∷ (a + 2) ∷ [])
    three a h =
        let first = lasting-other w g a (subst (λ (j : ℕ). IsLasting (g.owner j)) (let e : a + 0 ≡ a = omega arith in e) (h 0 (omega arith))) in
        (first, (lasting-other w g (a + 1) (h 1 (omega arith)), (lasting-other w g (a + 2) (h 2 (omega arith)), tt)))

    by : (k o : Kind) → IsPlainKind k → IsPlainKind o → ((j : ℕ) → j < word_number k → IsLasting (g.owner (a + j))) → ((j : ℕ) → j < word_number o → IsLasting (g.owner (i + j)))
        → AreReady w c d (all_asked check.Same at (equated k o (pointer_slots a) (pointer_slots i)))
    by Safe Safe pk po x y = record { apart = tt; held = tt; safe = tt }
    by Safe Seq pk po x y = record { apart = ((lasting-other w g (i + 1) (y 1 (omega arith)), three i y), tt); held = (tt, tt); safe = ((λ h. tt), λ h. tt) }
    by Seq Safe pk po x y = record { apart = ((lasting-other w g (a + 1) (x 1 (omega arith)), three a x), tt); held = (tt, tt); safe = ((λ h. tt), λ h. tt) }
    by Seq Seq pk po x y = record {
      apart = (
        (
          (
            lasting-other w g (a + 1) (x 1 (omega arith)),
            (
              lasting-other w g (a + 2) (x 2 (omega arith)),
              (lasting-other w g (i + 1) (y 1 (omega arith)), (lasting-other w g (i + 2) (y 2 (omega arith)), tt)),
            ),
          ),
          ((lasting-other w g (a + 1) (x 1 (omega arith)), three a x), (lasting-other w g (i + 1) (y 1 (omega arith)), three i y)),
        ),
        tt,
      );
      held = ((tt, tt), tt);
      safe = (((λ h. tt), λ h. tt), λ h. tt);
    }
    by Rtti o pk po x y = absurd pk
    by Wild o pk po x y = absurd pk
    by Safe Rtti pk po x y = absurd po
    by Safe Wild pk po x y = absurd po
    by Seq Rtti pk po x y = absurd po
    by Seq Wild pk po x y = absurd po

-- Two pointers in slots

pub record TwoPointers (w : Scene) (g : AreSlots w.slots) (b : Running) (known : Knowledge) (l : code.Local) (c : flat.Local) (a i : Temp) (m n : NodeId) (u v : TypeId) (p q : ℕ) : Type 0 where
  pub left : Pointed w g b l c a m u p
  pub right : Pointed w g b l c i n v q

pub two-pointers : (w : Scene) (g : AreSlots w.slots) (b : Running) (known : Knowledge) (l : code.Local) (c : flat.Local) → Point w g b known l c → (a i : Temp) (m n : NodeId) (u v : TypeId)
    (p q : ℕ) (x y : List Sure) → Points known a m u p x → Points known i n v q y → TwoPointers w g b known l c a i m n u v p q
two-pointers w g b known l c point a i m n u v p q x y h k =
    record { left = pointed w g b known l c point a m u p x (as-address known a m u p x h); right = pointed w g b known l c point i n v q y (as-address known i n v q y k) }

-- EQUALITY

-- the value that C gives, by whether it is turned round
abbrev equality : Bool → Pointer → Pointer → Outcome source.Ending source.State (Unit {0}) → Outcome source.Ending source.State Value
equality false q z o = from (from o (λ x. are_equal q z)) (λ e. done (Integer (truth e)))
equality true q z o = from (from (from o (λ x. are_equal q z)) (λ e. done (not e))) (λ e. done (Integer (truth e)))

abbrev turn : Bool → Bool → Bool
turn false q = q
turn true q = not q

abbrev equality_lines : Bool → Scene → Kind → Kind → ℕ → PointerSlots → PointerSlots → Lines
equality_lines false w k o v p q = sameness_lines (world_of w) k o v p q
equality_lines true w k o v p q = sameness_lines (world_of w) k o v p q ++ flat_instr.Eq v v w.slots.nought ∷ []

equality-gives : (w : Scene) (names : Names w) (g : AreSlots w.slots) (b : Running) (known after : Knowledge) (blocks : Blocks) (into a i : Temp) (l : code.Local) (c : flat.Local)
    (point : Point w g b known l c) (m n : NodeId) (u v : TypeId) (p q : ℕ) (x y : List Sure) (h : Points known a m u p x) (k : Points known i n v q y) (at : Place) (turned : Bool)
    → IsPlainKind (w.programs.whole.kind m) → IsPlainKind (w.programs.whole.kind n)
    → Takes (world_of w) into 1 → rules.Leaves known into (Some (an_integer (w.slots.column into) Exact int)) after → (first last : Lines)
    → Then (AreGot (world_of w) []) (AreChecks (work_of w.slots) (all_asked check.Same at (equated (w.programs.whole.kind m) (w.programs.whole.kind n) (pointer_slots p) (pointer_slots q)))) first
    → last ≡ equality_lines turned w (w.programs.whole.kind m) (w.programs.whole.kind n) (w.slots.column into) (pointer_slots p) (pointer_slots q)
    → Match w g b after blocks (from (beside l.temps (equality turned (two-pointers w g b known l c point a i m n u v p q x y h k).left.pointer
    (two-pointers w g b known l c point a i m n u v p q x y h k).right.pointer (all_placed (setting_of w.programs) (λ z. at)
    (AreComparable (used (w.programs.whole.kind m) (two-pointers w g b known l c point a i m n u v p q x y h k).left.pointer)
    (used (w.programs.whole.kind n) (two-pointers w g b known l c point a i m n u v p q x y h k).right.pointer) ∷ []) l.state)))
    (λ r. leaves (λ (e : code.Local). record e { temps = with_temp into r e.temps }) >> done Goes)) (run (first ++ last) (context_of w b) c)
equality-gives w names g b known after blocks into a i l c point m n u v p q x y h k at turned plain_m plain_n takes leave first last guarding last_is =
    subst (λ (f : FlatOutcome). Match w g b after blocks (given (equality turned L.pointer R.pointer (all_placed S (λ z. at) conditions l.state))) f) (sym (z.runs last))
    (guard-gives w g b known after blocks into l z.after z.point stop (all_placed S (λ z. at) conditions l.state) alike_stop (equality turned L.pointer R.pointer) (ended turned) last gives)
  where
    S : Setting
    S = setting_of w.programs

    K : Kind
    K = w.programs.whole.kind m

    O : Kind
    O = w.programs.whole.kind n

    L : Pointed w g b l c a m u p
    L = (two-pointers w g b known l c point a i m n u v p q x y h k).left

    R : Pointed w g b l c i n v q
    R = (two-pointers w g b known l c point a i m n u v p q x y h k).right

    given : Outcome source.Ending source.State Value → CodeOutcome
    given r = from (beside l.temps r) (λ j. leaves (λ (e : code.Local). record e { temps = with_temp into j e.temps }) >> done Goes)

    conditions : List Condition
    conditions = AreComparable (used (w.programs.whole.kind m) L.pointer) (used (w.programs.whole.kind n) R.pointer) ∷ []

    asks : List Asked
    asks = all_asked check.Same at (equated (w.programs.whole.kind m) (w.programs.whole.kind n) (pointer_slots p) (pointer_slots q))

    z : Guarded w g b known l [] asks first c
    z = guarded w g b known l [] asks first c point tt guarding (λ d passed there. equated-ready w g c d K O plain_m plain_n p q at L.lasting R.lasting)

    stop : Option Asked
    stop = first_false w.programs.parts c.state.memory asks (slot z.middle)

    compares : all_hold w.programs.parts c.state.memory asks (slot z.middle) ≡ holds S l.state.memory (AreComparable (used (w.programs.whole.kind m) L.pointer) (used (w.programs.whole.kind n) R.pointer))
    compares = equalities-compared S w.programs.whole.node l.state c.state point.there.related point.there.facts.outlines w.programs.parts b.depth (slot z.middle) names.solved.well_formed
        K O u v L.pointer R.pointer (pointer_slots p) (pointer_slots q) at (plain-tags K plain_m) (plain-tags O plain_n)
        (checked-words w g b known l c z.middle point z.passed a m u p L) (checked-words w g b known l c z.middle point z.passed i n v q R)

    alike_stop : StopsAlike stop (all_placed S (λ z. at) conditions l.state) l.state
    alike_stop = subst (λ (r : Outcome source.Ending source.State (Unit {0})). StopsAlike stop r l.state)
        (sym (one-placed S (λ z. at) (AreComparable (used K L.pointer) (used O R.pointer)) l.state))
        (stops-together w.programs.parts c.state.memory (slot z.middle) S l.state at asks (AreComparable (used K L.pointer) (used O R.pointer))
        (all-stop at (equated K O (pointer_slots p) (pointer_slots q))) (none-false w.programs.parts c.state.memory asks (slot z.middle) ∙ compares))

    ended : (turned : Bool) (e : source.Ending) (s : source.State) → equality turned L.pointer R.pointer (Ended e s) ≡ Ended e s
    ended false e s = refl
    ended true e s = refl

    gives : stop ≡ None → Matches (Gave w g b known after into l z.after) (λ e s f d. StatesEndAlike w.programs e s f d.state) (equality turned L.pointer R.pointer (Done tt l.state))
        (run last (context_of w b) z.after)
    gives none = subst (λ (js : Lines). Goal turned (run js (context_of w b) z.after)) (sym last_is) (by turned)
      where
        Goal : Bool → FlatOutcome → Type 0
        Goal t f = Matches (Gave w g b known after into l z.after) (λ e s f d. StatesEndAlike w.programs e s f d.state) (equality t L.pointer R.pointer (Done tt l.state)) f

        may : holds S l.state.memory (AreComparable (used K L.pointer) (used O R.pointer)) ≡ true
        may = sym (none-false w.programs.parts c.state.memory asks (slot z.middle) ∙ compares) ∙ ap is_none none

        -- the words behind the check
        words : (t : Temp) (j : NodeId) (y : TypeId) (s : ℕ) (P : Pointed w g b l c t j y s) → IsPlainKind (w.programs.whole.kind j)
            → (slot z.after (home_slot (w.programs.whole.kind j) (pointer_slots s)) ≡ home_word (ground_of w.programs l.state c.state) (w.programs.whole.kind j) P.pointer)
            × (slot z.after s ≡ first_word (ground_of w.programs l.state c.state) (w.programs.whole.kind j) P.pointer)
        words t j y s P plain =
            let e = home-of (ground_of w.programs l.state c.state) (slot c) (pointer_slots s) (w.programs.whole.kind j) P.pointer plain
            (checked-words w g b known l c c point (passed-none w g c.slots) t j y s P).words in (
              guarded-lasting w g b known l [] asks first c z (home_slot (w.programs.whole.kind j) (pointer_slots s)) (home-lasts w g (w.programs.whole.kind j) s P.lasting plain) ∙ e.0,
              guarded-lasting w g b known l [] asks first c z s (first-lasts w g b l c t j y s P) ∙ e.1,
            )

        wide : Bool
        wide = is_wide_kind (w.programs.whole.kind m) || is_wide_kind (w.programs.whole.kind n)

        same : says_equal wide (slot z.after (home_slot (w.programs.whole.kind m) (pointer_slots p))) (slot z.after (home_slot (w.programs.whole.kind n) (pointer_slots q))) (slot z.after p) (slot z.after q)
            ≡ same_pointer L.pointer R.pointer
        same =
            let d = words a m u p L plain_m in let e = words i n v q R plain_n in
            ap (λ (j : ℕ). says_equal wide j (slot z.after (home_slot O (pointer_slots q))) (slot z.after p) (slot z.after q)) d.0
            ∙ ap (λ (j : ℕ). says_equal wide (home_word (ground_of w.programs l.state c.state) K L.pointer) j (slot z.after p) (slot z.after q)) e.0
            ∙ ap (λ (j : ℕ). says_equal wide (home_word (ground_of w.programs l.state c.state) K L.pointer) (home_word (ground_of w.programs l.state c.state) O R.pointer) j (slot z.after q)) d.1
            ∙ ap (λ (j : ℕ). says_equal wide (home_word (ground_of w.programs l.state c.state) K L.pointer) (home_word (ground_of w.programs l.state c.state) O R.pointer)
            (first_word (ground_of w.programs l.state c.state) K L.pointer) j) e.1
            ∙ equal-alike S w.programs.whole.node l.state c.state point.there.related point.there.facts.outlines names.solved.well_formed point.there.laid.functions b.depth w.programs.sites names.solved.made names.solved.told K O
            plain_m plain_n u v L.pointer R.pointer L.held.held R.held.held may

        lines : Lines
        lines = sameness_lines (world_of w) (w.programs.whole.kind m) (w.programs.whole.kind n) (w.slots.column into) (pointer_slots p) (pointer_slots q)

        says : Says w g b into z.after (sameness_lines (world_of w) (w.programs.whole.kind m) (w.programs.whole.kind n) (w.slots.column into) (pointer_slots p) (pointer_slots q)) (same_pointer L.pointer R.pointer)
        says = subst (λ (t : Bool). Says w g b into z.after (sameness_lines (world_of w) (w.programs.whole.kind m) (w.programs.whole.kind n) (w.slots.column into) (pointer_slots p) (pointer_slots q)) t) same
            (equal-says w g b into takes z.after z.point.count z.point.nought (pointer_slots p) (pointer_slots q) (home_slot K (pointer_slots p)) (home_slot O (pointer_slots q))
            (first-lasts w g b l c a m u p L) (first-lasts w g b l c i n v q R) (home-lasts w g K p L.lasting plain_m) (home-lasts w g O q R.lasting plain_n) wide)

        by : (t : Bool) → Goal t (run (equality_lines t w (w.programs.whole.kind m) (w.programs.whole.kind n) (w.slots.column into) (pointer_slots p) (pointer_slots q)) (context_of w b) z.after)
        by false = says-gives w g b known after into l z.after z.point takes leave lines (same_pointer L.pointer R.pointer) says
        by true = says-gives w g b known after into l z.after z.point takes leave (lines ++ flat_instr.Eq (w.slots.column into) (w.slots.column into) w.slots.nought ∷ [])
            (not (same_pointer L.pointer R.pointer))
            (turned-says w g b into takes z.after z.point.count z.point.nought lines (same_pointer L.pointer R.pointer) says)

-- ORDER

-- `<`, `<=`, `>` and `>=`
abbrev pub IsOrder : Comparison → Type 0
IsOrder comparison.Equal = ⊥
IsOrder comparison.Different = ⊥
IsOrder order = ⊤

-- what C asks of two pointers that were made for objects, and stand in one part
abbrev pub in_order : Setting → Place → Pointer → Pointer → source.State → Outcome source.Ending source.State (Unit {0})
in_order S at q z s = all_placed S (λ x. at) (HasBase q ∷ HasBase z ∷ AreOfOnePart (used Seq q) (used Seq z) ∷ []) s

order-gives : (w : Scene) (names : Names w) (g : AreSlots w.slots) (b : Running) (known after : Knowledge) (blocks : Blocks) (into a i : Temp) (l : code.Local) (c : flat.Local)
    (point : Point w g b known l c) (m n : NodeId) (u v : TypeId) (p q : ℕ) (x y : List Sure) (h : Points known a m u p x) (k : Points known i n v q y) (at : Place) (which : Comparison)
    (order : Pointer → Pointer → Act Bool) → ((j d : Location) → order (At j) (At d) l.state ≡ Done (result_of which j.offset d.offset) l.state)
    → w.programs.whole.kind m ≡ Seq → w.programs.whole.kind n ≡ Seq → Takes (world_of w) into 1 → rules.Leaves known into (Some (an_integer (w.slots.column into) Exact int)) after → (first last : Lines)
    → Then (AreGot (world_of w) []) (AreChecks (work_of w.slots) (asked check.Base at (IsNotZero (p + 1)) ∷ asked check.Base at (IsNotZero (q + 1))
    ∷ asked check.Same at (AreOfPart (pointer_slots p) (pointer_slots q)) ∷ [])) first
    → last ≡ comparison_lines which true w.slots.nought (w.slots.column into) p q
    → Match w g b after blocks (from (beside l.temps (from (from (in_order (setting_of w.programs) at (two-pointers w g b known l c point a i m n u v p q x y h k).left.pointer
    (two-pointers w g b known l c point a i m n u v p q x y h k).right.pointer l.state)
    (λ z. order (two-pointers w g b known l c point a i m n u v p q x y h k).left.pointer (two-pointers w g b known l c point a i m n u v p q x y h k).right.pointer))
    (λ e. done (Integer (truth e)))))
    (λ r. leaves (λ (e : code.Local). record e { temps = with_temp into r e.temps }) >> done Goes)) (run (first ++ last) (context_of w b) c)
order-gives w names g b known after blocks into a i l c point m n u v p q x y h k at which order order_is seq_m seq_n takes leave first last guarding last_is =
    subst (λ (f : FlatOutcome). Match w g b after blocks (given (F (all_placed S (λ z. at) conditions l.state))) f) (sym (z.runs last))
    (guard-gives w g b known after blocks into l z.after z.point stop (all_placed S (λ z. at) conditions l.state) alike_stop F (λ e s. refl) last gives)
  where
    S : Setting
    S = setting_of w.programs

    L : Pointed w g b l c a m u p
    L = (two-pointers w g b known l c point a i m n u v p q x y h k).left

    R : Pointed w g b l c i n v q
    R = (two-pointers w g b known l c point a i m n u v p q x y h k).right

    given : Outcome source.Ending source.State Value → CodeOutcome
    given r = from (beside l.temps r) (λ j. leaves (λ (e : code.Local). record e { temps = with_temp into j e.temps }) >> done Goes)

    F : Outcome source.Ending source.State (Unit {0}) → Outcome source.Ending source.State Value
    F o = from (from o (λ z. order L.pointer R.pointer)) (λ e. done (Integer (truth e)))

    conditions : List Condition
    conditions = HasBase L.pointer ∷ HasBase R.pointer ∷ AreOfOnePart (used Seq L.pointer) (used Seq R.pointer) ∷ []

    asks : List Asked
    asks = asked check.Base at (IsNotZero (p + 1)) ∷ asked check.Base at (IsNotZero (q + 1)) ∷ asked check.Same at (AreOfPart (pointer_slots p) (pointer_slots q)) ∷ []

    p_lasts : (j : ℕ) → j < 3 → IsLasting (g.owner (p + j))
    p_lasts j less = L.lasting j (subst (λ (d : Kind). j < word_number d) (sym seq_m) less)

    q_lasts : (j : ℕ) → j < 3 → IsLasting (g.owner (q + j))
    q_lasts j less = R.lasting j (subst (λ (d : Kind). j < word_number d) (sym seq_n) less)

    base_p : IsOther (work_of w.slots) (p + 1)
    base_p = lasting-other w g (p + 1) (p_lasts 1 (omega arith))

    base_q : IsOther (work_of w.slots) (q + 1)
    base_q = lasting-other w g (q + 1) (q_lasts 1 (omega arith))

    ends : AreApart (work_of w.slots) (AreOfPart (pointer_slots p) (pointer_slots q))
    ends = (base_p, (lasting-other w g (p + 2) (p_lasts 2 (omega arith)), (base_q, (lasting-other w g (q + 2) (q_lasts 2 (omega arith)), tt))))

    z : Guarded w g b known l [] asks first c
    z = guarded w g b known l [] asks first c point tt guarding (λ d passed there. record {
      apart = (base_p, (base_q, (ends, tt)));
      held = (tt, (tt, (tt, tt)));
      safe = (tt, λ e. (tt, λ e. (tt, λ e. tt)));
    })

    stop : Option Asked
    stop = first_false w.programs.parts c.state.memory asks (slot z.middle)

    left : (d : flat.Local) → Passed w g c.slots d.slots → IsChecked S w.programs.whole.node l.state c.state b.depth Seq u L.pointer (slot d) (pointer_slots p)
    left d passed = subst (λ (j : Kind). IsChecked S w.programs.whole.node l.state c.state b.depth j u L.pointer (slot d) (pointer_slots p)) seq_m
        (checked-words w g b known l c d point passed a m u p L)

    right : (d : flat.Local) → Passed w g c.slots d.slots → IsChecked S w.programs.whole.node l.state c.state b.depth Seq v R.pointer (slot d) (pointer_slots q)
    right d passed = subst (λ (j : Kind). IsChecked S w.programs.whole.node l.state c.state b.depth j v R.pointer (slot d) (pointer_slots q)) seq_n
        (checked-words w g b known l c d point passed i n v q R)

    alike_stop : StopsAlike stop (all_placed S (λ z. at) conditions l.state) l.state
    alike_stop = stops-alike w.programs.parts c.state.memory (slot z.middle) S (λ z. at) l.state asks conditions (
      refl,
      refl,
      base-compared S w.programs.whole.node l.state c.state w.programs.parts b.depth u L.pointer (slot z.middle) (pointer_slots p) (left z.middle z.passed),
      λ one. (
        refl,
        refl,
        base-compared S w.programs.whole.node l.state c.state w.programs.parts b.depth v R.pointer (slot z.middle) (pointer_slots q) (right z.middle z.passed),
        λ two. (
          refl,
          refl,
          orders-compared S w.programs.whole.node l.state c.state point.there.related point.there.facts.outlines w.programs.parts b.depth (slot z.middle) u v L.pointer R.pointer
              (pointer_slots p) (pointer_slots q) (left z.middle z.passed) (right z.middle z.passed) one two,
          λ three. tt,
        ),
      ),
    )

    Goal : Outcome source.Ending source.State Value → FlatOutcome → Type 0
    Goal o f = Matches (Gave w g b known after into l z.after) (λ e s f d. StatesEndAlike w.programs e s f d.state) o f

    gives : stop ≡ None → Goal (F (Done tt l.state)) (run last (context_of w b) z.after)
    gives none = at_objects (based-at L.pointer hold.0) (based-at R.pointer hold.1.0)
      where
        hold : AllHold S l.state.memory conditions
        hold = all-held S (λ z. at) conditions l.state (subst (λ (j : Option Asked). StopsAlike j (all_placed S (λ z. at) conditions l.state) l.state) none alike_stop)

        kept : Passed w g c.slots z.after.slots
        kept = record { others = λ j lasts. guarded-lasting w g b known l [] asks first c z j lasts; long = z.point.count ∙ sym point.count }

        at_objects : (j : Location) × (L.pointer ≡ At j) → (d : Location) × (R.pointer ≡ At d) → Goal (F (Done tt l.state)) (run last (context_of w b) z.after)
        at_objects (j, is_j) (d, is_d) =
            subst (λ (js : Lines). Goal (F (Done tt l.state)) (run js (context_of w b) z.after)) (sym last_is)
            (subst (λ (o : Outcome source.Ending source.State Value). Goal o (run (comparison_lines which true w.slots.nought (w.slots.column into) p q) (context_of w b) z.after)) (sym value)
            (subst (Goal (Done (Integer (truth r)) l.state)) (sym lines_do.runs)
            (gave-integer w g b known after into int Exact (truth r) l z.after lines_do.slots z.point takes lines_do.changed int-size (truth-range r) (lines_do.holds ∙ truth-word r)
            (subst (λ (k : ℕ). k < 2 ^ 64) (sym (lines_do.holds ∙ truth-word r)) (word-below (truth r))) leave)))
          where
            r : Bool
            r = result_of which j.offset d.offset

            value : F (Done tt l.state) ≡ Done (Integer (truth r)) l.state
            value = ap (λ (t : Pointer). from (order t R.pointer l.state) (λ e. done (Integer (truth e)))) is_j ∙ ap (λ (t : Pointer). from (order (At j) t l.state) (λ e. done (Integer (truth e)))) is_d
                ∙ ap (λ (o : Outcome source.Ending source.State Bool). from o (λ e. done (Integer (truth e)))) (order_is j d)

            gr : Ground
            gr = ground_of w.programs l.state c.state

            one : of_one_part (used Seq (At j)) (used Seq (At d)) ≡ true
            one = subst (λ (t : Pointer). of_one_part (used Seq t) (used Seq (At d)) ≡ true) is_j (subst (λ (t : Pointer). of_one_part (used Seq L.pointer) (used Seq t) ≡ true) is_d hold.1.1.0)

            held_j : IsHeldIn S l.state.memory b.depth Seq u (At j)
            held_j = subst (IsHeldIn S l.state.memory b.depth Seq u) is_j (left z.middle z.passed).held

            held_d : IsHeldIn S l.state.memory b.depth Seq v (At d)
            held_d = subst (IsHeldIn S l.state.memory b.depth Seq v) is_d (right z.middle z.passed).held

            object : j.object ≡ d.object
            object = true-eq j.object d.object (agree.first _ _ one)

            low : j.part.low ≡ d.part.low
            low = true-eq j.part.low d.part.low (agree.first _ _ (agree.second (j.object == d.object) (same_part j.part d.part) one))

            high : j.part.high ≡ d.part.high
            high = true-eq j.part.high d.part.high
                (agree.second (j.part.low == d.part.low) (j.part.high == d.part.high) (agree.second (j.object == d.object) (same_part j.part d.part) one))

            value_j : IsSequenceAt S (outlines_of l.state.memory) u j
            value_j = held_j.value

            value_d : IsSequenceAt S (outlines_of l.state.memory) v d
            value_d = held_d.value

            distances : AreAlike S j d
            distances = alike S names.solved.well_formed (outlines_of l.state.memory) w.programs.sites names.solved.made names.solved.told u v j d value_j value_d object low high

            start : ℕ
            start = place gr j.object j.part.low

            small : start < 2 ^ 33
            small = let e = (there S w.programs.whole.node l.state c.state point.there.related b.depth j.object j.part.low value_j.object value_j.located.found held_j.reaches value_j.typed.untagged).below in
                omega (arith, e)

            first_j : slot z.after p ≡ word (pos start +ℤ distances.far_k)
            first_j = (left z.after kept).words.0 ∙ ap (first_word gr Seq) is_j ∙ ap (λ (e : ℤ). word (pos start +ℤ e)) distances.is_k.is

            first_d : slot z.after q ≡ word (pos start +ℤ distances.far_l)
            first_d = (right z.after kept).words.0 ∙ ap (first_word gr Seq) is_d ∙ ap (λ (e : ℤ). word (pos (place gr d.object d.part.low) +ℤ e)) distances.is_l.is
                ∙ ap (λ (e : ℕ). word (pos e +ℤ distances.far_l)) (ap (λ (e : ℕ). place gr e d.part.low) (sym object) ∙ ap (place gr j.object) (sym low))

            lines_do : Compared (context_of w b) z.after (comparison_lines which true w.slots.nought (w.slots.column into) p q) (w.slots.column into) (result_of which j.offset d.offset)
            lines_do = integers.compared which true (context_of w b) z.after w.slots.nought (w.slots.column into) p q j.offset d.offset
                (let e = column-room w g into 1 takes (omega arith) in let f = z.point.count in omega (arith, e, f)) (nought-apart w g into takes) z.point.nought
                (ap (λ (e : ℕ). nat_eq e (slot z.after q)) first_j ∙ ap (nat_eq (word (pos start +ℤ distances.far_k))) first_d
                ∙ words-same start distances.far_k distances.far_l small distances.is_k.near distances.is_l.near ∙ distances.same)
                (ap (λ (e : ℕ). less_signed e (slot z.after q)) first_j ∙ ap (less_signed (word (pos start +ℤ distances.far_k))) first_d
                ∙ ap truth_word (words-less start distances.far_k distances.far_l small distances.is_k.near distances.is_l.near ∙ distances.less))
                (ap (λ (e : ℕ). less_signed e (slot z.after p)) first_d ∙ ap (less_signed (word (pos start +ℤ distances.far_l))) first_j
                ∙ ap truth_word (words-less start distances.far_l distances.far_k small distances.is_l.near distances.is_k.near ∙ distances.more))

-- THE LAW OF COMPARISONS OF POINTERS
pub compare-pointers-follows : (w : Scene) (names : Names w) (g : AreSlots w.slots) (b : Running) (into a : Temp) (which : Comparison) (t : TypeId) (i : Temp) (s : TypeId) (at : Place)
    (known after : Knowledge) (blocks : Blocks) (lines : Lines)
    → ((m n : NodeId) (u v : TypeId) → IsPointer (world_of w) t m u → IsPointer (world_of w) s n v → IsPlainKind (w.programs.whole.kind m) × IsPlainKind (w.programs.whole.kind n)
    × (IsOrder which → (w.programs.whole.kind m ≡ Seq) × (w.programs.whole.kind n ≡ Seq)))
    → IsCuringPoint (point.Compare into which a t i s at) (world_of w) known after lines
    → Follows w g b blocks known after (meaning.act (instr.Point (point.Compare into which a t i s at)) (around_of w b)) lines
unfolding Line Then
compare-pointers-follows w names g b into a which t i s at known after blocks lines plain
    (m, n, u, v, p, q, x, y, seat, pointer_t, pointer_s, points_a, points_i, takes, (first, last, guard, last_is, lines_is), leave) l c point =
    subst (λ (z : Value). Match w g b after blocks (given (compared_value S at (operator_of_comparison which) t s z (l.temps i) l.state)) (run lines (context_of w b) c)) (sym two.left.value)
    (subst (λ (z : Value). Match w g b after blocks (given (compared_value S at (operator_of_comparison which) t s (Address two.left.pointer) z l.state)) (run lines (context_of w b) c)) (sym two.right.value)
    (subst (λ (h : TypeShape). Match w g b after blocks (given (of_kinds which (w.programs.whole.kind (node_of_shape h)) (w.programs.whole.kind (node_of_shape (shape_at w.programs.whole.table s)))))
    (run lines (context_of w b) c)) (sym pointer_t)
    (subst (λ (h : TypeShape). Match w g b after blocks (given (of_kinds which (w.programs.whole.kind m) (w.programs.whole.kind (node_of_shape h)))) (run lines (context_of w b) c)) (sym pointer_s)
    (subst (λ (js : Lines). Match w g b after blocks (given (of_kinds which (w.programs.whole.kind m) (w.programs.whole.kind n))) (run js (context_of w b) c)) (sym lines_is)
    (by which guard last_is sorts.2)))))
  where
    S : Setting
    S = setting_of w.programs

    two : TwoPointers w g b known l c a i m n u v p q
    two = two-pointers w g b known l c point a i m n u v p q x y points_a points_i

    given : Outcome source.Ending source.State Value → CodeOutcome
    given r = from (beside l.temps r) (λ j. leaves (λ (e : code.Local). record e { temps = with_temp into j e.temps }) >> done Goes)

    of_kinds : Comparison → Kind → Kind → Outcome source.Ending source.State Value
    of_kinds which k o = from (compared S at (operator_of_comparison which) (record { kind = k; pointer = two.left.pointer }) (record { kind = o; pointer = two.right.pointer }) l.state)
        (λ e. done (Integer (truth e)))

    sorts : IsPlainKind (w.programs.whole.kind m) × IsPlainKind (w.programs.whole.kind n)
        × (IsOrder which → (w.programs.whole.kind m ≡ Seq) × (w.programs.whole.kind n ≡ Seq))
    sorts = plain m n u v pointer_t pointer_s

    P : PointerSlots
    P = pointer_slots p

    Q : PointerSlots
    Q = pointer_slots q

    -- an order
    ordered : (which : Comparison) (order : Pointer → Pointer → Act Bool) → ((j d : Location) → order (At j) (At d) l.state ≡ Done (result_of which j.offset d.offset) l.state)
        → (w.programs.whole.kind m ≡ Seq) × (w.programs.whole.kind n ≡ Seq)
        → IsGuarded (world_of w) (order_by (world_of w) seat (w.programs.whole.kind m) P (w.programs.whole.kind n) Q None) (w.programs.whole.kind m) at first
        → last ≡ comparison_lines which true w.slots.nought (w.slots.column into) p q
        → ((k o : Kind) → k ≡ Seq → o ≡ Seq → of_kinds which k o ≡ from (from (in_order S at two.left.pointer two.right.pointer l.state) (λ z. order two.left.pointer two.right.pointer))
        (λ e. done (Integer (truth e))))
        → Match w g b after blocks (given (of_kinds which (w.programs.whole.kind m) (w.programs.whole.kind n))) (run (first ++ last) (context_of w b) c)
    ordered which order order_is (seq_m, seq_n) guard last_is value =
        subst (λ (o : Outcome source.Ending source.State Value). Match w g b after blocks (given o) (run (first ++ last) (context_of w b) c))
        (sym (value (w.programs.whole.kind m) (w.programs.whole.kind n) seq_m seq_n))
        (order-gives w names g b known after blocks into a i l c point m n u v p q x y points_a points_i at which order order_is seq_m seq_n takes leave first last
        (subst (λ (o : Kind). IsGuarded (world_of w) (order_by (world_of w) seat Seq P o Q None) Seq at first) seq_n
        (subst (λ (k : Kind). IsGuarded (world_of w) (order_by (world_of w) seat k P (w.programs.whole.kind n) Q None) k at first) seq_m guard)) last_is)

    by : (which : Comparison) → IsGuarded (world_of w) (comparing which (world_of w) seat (w.programs.whole.kind m) P (w.programs.whole.kind n) Q) (w.programs.whole.kind m) at first
        → last ≡ compared_lines which (world_of w) (w.programs.whole.kind m) (w.programs.whole.kind n) (w.slots.column into) P Q
        → (IsOrder which → (w.programs.whole.kind m ≡ Seq) × (w.programs.whole.kind n ≡ Seq))
        → Match w g b after blocks (given (of_kinds which (w.programs.whole.kind m) (w.programs.whole.kind n))) (run (first ++ last) (context_of w b) c)
    by comparison.Equal guard last_is sequence =
        equality-gives w names g b known after blocks into a i l c point m n u v p q x y points_a points_i at false sorts.0 sorts.1 takes leave first last guard last_is
    by comparison.Different guard last_is sequence =
        equality-gives w names g b known after blocks into a i l c point m n u v p q x y points_a points_i at true sorts.0 sorts.1 takes leave first last guard last_is
    by comparison.Less guard last_is sequence =
        ordered comparison.Less is_before (λ j d. refl) (sequence tt) guard last_is
        (λ k o e f. ap (λ (j : Kind). of_kinds comparison.Less j o) e ∙ ap (λ (j : Kind). of_kinds comparison.Less Seq j) f)
    by comparison.Greater guard last_is sequence =
        ordered comparison.Greater (λ j d. is_before d j) (λ j d. refl) (sequence tt) guard last_is
        (λ k o e f. ap (λ (j : Kind). of_kinds comparison.Greater j o) e ∙ ap (λ (j : Kind). of_kinds comparison.Greater Seq j) f)
    by comparison.LessOrEqual guard last_is sequence =
        ordered comparison.LessOrEqual (λ j d. λ s. from (is_before d j s) (λ after. done (not after))) (λ j d. ap (λ (z : Bool). Done z l.state) (sym (not-less j.offset d.offset)))
        (sequence tt) guard last_is
        (λ k o e f. ap (λ (j : Kind). of_kinds comparison.LessOrEqual j o) e ∙ ap (λ (j : Kind). of_kinds comparison.LessOrEqual Seq j) f)
    by comparison.GreaterOrEqual guard last_is sequence =
        ordered comparison.GreaterOrEqual (λ j d. λ s. from (is_before j d s) (λ before. done (not before))) (λ j d. ap (λ (z : Bool). Done z l.state) (sym (not-less d.offset j.offset)))
        (sequence tt) guard last_is
        (λ k o e f. ap (λ (j : Kind). of_kinds comparison.GreaterOrEqual j o) e ∙ ap (λ (j : Kind). of_kinds comparison.GreaterOrEqual Seq j) f)
