-- `malloc` and `calloc` into pointers that are SAFE or SEQ.
use Rattle.std.proofs.Common.{◌≡◌, ◌≢◌, ◌⊎◌, inl, inr, ℕ, suc, ◌+◌, ◌-◌, ◌*◌, ◌/◌, ◌%◌, ◌^◌, ◌<◌, ◌≤◌, Bool, true, false, not, [], ◌∷◌, ◌++◌, length, slice_set, refl, ap, sym, subst, ◌∙◌, arith, nat_eq, nat_lt, get_or-set_other, get_or-set_same, length-set}
use Rattle.std.specs.List.{Contains}
use Rattle.std.proofs.Math.Nat.{mod-eq_of_lt, mul-le-mul_right}
use Rattle.std.proofs.lemmas.Bool.Decides.{nat_tests}
use Rattle.std.proofs.lemmas.List.{append-nil}
use Rattle.std.proofs.lemmas.Nat.{div-add-mod', div-mul-add}
use Rattle.cc_base.specs.declared.kind.Kind.{Kind}
use Rattle.cc_base.specs.declared.kind.Kind.TheVariants.{Safe, Seq, Wild}
use Rattle.cc_base.specs.declared.number.NodeId.{NodeId}
use Rattle.cc_base.specs.declared.number.TypeId.{TypeId}
use Rattle.cc_base.specs.declared.place.Place.{Place}
use Rattle.kind_sites.specs.declared.site.Site.TheVariants as site
use Rattle.integers.specs.Words.{word, different_words, is_true_word}
use Rattle.integers.specs.Arithmetic.{unsigned_long}
use Rattle.integers.specs.Operators.{product_words, quotient_words}
use Rattle.integers.proofs.WordLaws.{word-below}
use Rattle.runs.specs.Outcome.{Outcome, done, leaves, either, from, ◌>>◌}
use Rattle.runs.specs.Control.{Goes, then_go}
use Rattle.src_mem.specs.Pointers.{Pointer, Null, Value, Integer}
use Rattle.src_mem.specs.State as source
use Rattle.src_mem.specs.State.{Setting}
use Rattle.src_mem.specs.Checks.{holds}
use Rattle.src_mem.specs.Primitives as primitive
use Rattle.src_mem.specs.Primitives.{allocate}
use Rattle.src_mem.specs.Runtime.{malloc, calloc}
use Rattle.src_mem.specs.Values.{allocated as allocated_value}
use Rattle.facts_kept.specs.Kept.{MakesBlocks}
use Rattle.cil_form.specs.declared.number.Temp.{Temp}
use Rattle.cil_form.specs.declared.instr.Allocate.TheVariants as allocate
use Rattle.cil_form.specs.declared.instr.Instr.TheVariants as instr
use Rattle.cil_form.specs.State as code
use Rattle.cil_form.specs.State.{with_temp, beside}
use Rattle.cil_form.specs.Meaning as meaning
use Rattle.cured_code.specs.declared.instr.Instr.TheVariants as flat_instr
use Rattle.cured_code.specs.FlatState as flat
use Rattle.cured_code.specs.FlatState.{slot, with_slot}
use Rattle.cured_code.specs.FlatMachine.{run}
use Rattle.check_forms.specs.Pieces.{Line, Then, Choice}
use Rattle.check_forms.specs.Rows.{asked}
use Rattle.check_forms.proofs.TestLaws.{append-append}
use Rattle.sim_relation.specs.Ground.{place}
use Rattle.sim_relation.specs.Points.{Exact, Knowledge}
use Rattle.sim_checks.proofs.Sequences.{small}
use Rattle.cure_rules.specs.Slots.{AreSlots, Role, First, Amount, Bytes, Made, role_number, slot_of}
use Rattle.cure_rules.specs.Known.{IsExactly}
use Rattle.cure_rules.specs.Checks.{Seat}
use Rattle.cure_rules.specs.Calling.{IsCuringAllocate, MakesBlock}
use Rattle.cure_rules.specs.Code.{Blocks}
use Rattle.sim_laws.specs.Scenes.{Scene, Running, setting_of, world_of, around_of, context_of}
use Rattle.sim_laws.specs.Points.{Grows, Point, IsLasting, Passed}
use Rattle.sim_laws.specs.Statements.{Lines, CodeOutcome, FlatOutcome, Match, Follows}
use Rattle.sim_laws.proofs.Guards.{lasting-apart, passed-role, passed-then, role-below, role-there}
use Rattle.sim_laws.proofs.Calculations.{Operand, exactly}
use Rattle.sim_laws.proofs.Names.{Names}
use Rattle.sim_laws.proofs.Checks.{first-lasting, passed-point}
use Rattle.sim_laws.proofs.BlocksGiven.{block-given, choice-runs}
use Rattle.sim_laws.proofs.BlocksMade.{BlockMade, IsAmount, block-lines, block-none, makes-slot, quotient-runs}

-- The instructions

-- what is asked for is a word
word-asked : (w : Scene) (g : AreSlots w.slots) (b : Running) (known : Knowledge) (l : code.Local) (c : flat.Local) → Point w g b known l c → (t : Temp) (a : ℕ)
    → IsExactly known t unsigned_long a → IsLasting (g.owner a)
word-asked w g b known l c p t a (x, fact, type, place, form) = first-lasting w g b known l c p t x fact a place

plain-kind : (k : Kind) → (k ≡ Safe) ⊎ (k ≡ Seq) → k ≢ Wild
plain-kind k (inl e) f = absurd (let g : Safe ≡ Wild = sym e ∙ f in cc (g))
plain-kind k (inr e) f = absurd (let g : Seq ≡ Wild = sym e ∙ f in cc (g))

pub malloc-follows : (w : Scene) (names : Names w) → length w.programs.parts.functions ≡ suc (length (setting_of w.programs).functions) → (g : AreSlots w.slots) (b : Running)
    (into n : Temp) (node : NodeId) (t : TypeId) (at : Place) (known after : Knowledge) (blocks : Blocks) (lines : Lines)
    → (w.programs.whole.kind node ≡ Safe) ⊎ (w.programs.whole.kind node ≡ Seq) → MakesBlocks (setting_of w.programs) node t → Contains w.programs.sites (site.Pointee node t)
    → IsCuringAllocate (allocate.Malloc into n node t at) (world_of w) known after lines
    → Follows w g b blocks known after (meaning.act (instr.Allocate (allocate.Malloc into n node t at)) (around_of w b)) lines
unfolding Then
malloc-follows w names count g b into n node t at known after blocks lines kinds makes told (a, d, seat, given, number, takes, (first, rest, makes_it, gives_it, is), leave) l c p =
    subst (λ (js : Lines). Match w g b after blocks (meaning.act (instr.Allocate (allocate.Malloc into n node t at)) (around_of w b) l) (run js (context_of w b) c)) (sym is)
    (subst (λ (v : Value). Match w g b after blocks (gave (allocated_value (setting_of w.programs) at node t (malloc (setting_of w.programs) node t (v ∷ [])) l.state))
    (run (first ++ rest) (context_of w b) c)) (sym m.value)
    (block-given w names g b known after blocks into l c node t at makes told takes leave
    (primitive.allocate (setting_of w.programs) node t (word m.z) l.state) d
    (whose (makes-slot w (w.programs.whole.kind node) t seat a d first makes_it)) first z given kinds rest gives_it))
  where
    m : Operand l c n unsigned_long a Exact
    m = exactly w g b known l c p n unsigned_long a number

    gave : Outcome source.Ending source.State Value → CodeOutcome
    gave o = from (beside l.temps o) (λ v. leaves (λ (i : code.Local). record i { temps = with_temp into v i.temps }) >> done Goes)

    plain : w.programs.whole.kind node ≢ Wild
    plain = plain-kind (w.programs.whole.kind node) kinds

    lasts : IsAmount w g a
    lasts = inl (word-asked w g b known l c p n a number)

    z : BlockMade w g b known l node t (primitive.allocate (setting_of w.programs) node t (word m.z) l.state) d first c
    z = block-lines w names count g b known l c p node t plain makes (word m.z) (word-below m.z) a lasts m.holds seat d first makes_it

    whose : (d ≡ a) ⊎ (d ≡ slot_of w.slots Bytes) → IsAmount w g d ⊎ (d ≡ slot_of w.slots Bytes)
    whose (inl e) = inl (subst (IsAmount w g) (sym e) lasts)
    whose (inr e) = inr e

-- The product of two words

-- is exact where its quotient by the first is the second
wraps : (m n : ℕ) → 0 < m → m < 2 ^ 64 → nat_eq ((m * n) % 2 ^ 64 / m) n ≡ nat_lt (m * n) (2 ^ 64)
wraps m n some small = by (case (m * n))
  where
    case : (x : ℕ) → (x < 2 ^ 64) ⊎ (2 ^ 64 ≤ x)
    case x = grind arith

    turned : m * n ≡ n * m + 0
    turned = grind arith

    equal : (x y : ℕ) → x ≡ y → nat_eq x y ≡ true
    equal x y h = grind (arith, nat_tests, h)

    below : (x y : ℕ) → x < y → nat_lt x y ≡ true
    below x y h = grind (arith, nat_tests, h)

    less : (x y : ℕ) → x < y → nat_eq x y ≡ false
    less x y h = grind (arith, nat_tests, h)

    not-below : (x y : ℕ) → y ≤ x → nat_lt x y ≡ false
    not-below x y h = grind (arith, nat_tests, h)

    cut : (x : ℕ) → 2 ^ 64 ≤ x → x % 2 ^ 64 < x
    cut x h = omega (arith, h)

    by : (m * n < 2 ^ 64) ⊎ (2 ^ 64 ≤ m * n) → nat_eq ((m * n) % 2 ^ 64 / m) n ≡ nat_lt (m * n) (2 ^ 64)
    by (inl h) = equal ((m * n) % 2 ^ 64 / m) n (ap (λ (x : ℕ). x / m) (mod-eq_of_lt h ∙ turned) ∙ div-mul-add n m 0 some) ∙ sym (below (m * n) (2 ^ 64) h)
    by (inr h) = less ((m * n) % 2 ^ 64 / m) n (few (case' ((m * n) % 2 ^ 64 / m))) ∙ sym (not-below (m * n) (2 ^ 64) h)
      where
        case' : (x : ℕ) → (x < n) ⊎ (n ≤ x)
        case' x = grind arith

        few : ((m * n) % 2 ^ 64 / m < n) ⊎ (n ≤ (m * n) % 2 ^ 64 / m) → (m * n) % 2 ^ 64 / m < n
        few (inl l) = l
        few (inr l) = absurd (
            let a : n * m ≤ (m * n) % 2 ^ 64 / m * m = mul-le-mul_right m l in
            let d : (m * n) % 2 ^ 64 / m * m + (m * n) % 2 ^ 64 % m ≡ (m * n) % 2 ^ 64 = div-add-mod' ((m * n) % 2 ^ 64) m in
            let k = cut (m * n) h in let e = turned in omega (arith, a, d, k, e))

-- behind the lines that multiply, and ask whether the product wraps
record Multiplied (w : Scene) (g : AreSlots w.slots) (b : Running) (m n : ℕ) (lines : Lines) (c : flat.Local) : Type 0 where
  after : flat.Local
  runs : (rest : Lines) → run (lines ++ rest) (context_of w b) c ≡ run rest (context_of w b) after
  state : after.state ≡ c.state
  passed : Passed w g c.slots after.slots
  amount : slot after (slot_of w.slots Amount) ≡ (m * n) % 2 ^ 64
  wrapped : is_true_word (slot after (slot_of w.slots First)) ≡ not (nat_lt (m * n) (2 ^ 64))

multiplied : (w : Scene) (g : AreSlots w.slots) (b : Running) (c : flat.Local) → length c.slots ≡ w.slots.count → (m n p q : ℕ) → IsLasting (g.owner p) → IsLasting (g.owner q)
    → slot c p ≡ m → slot c q ≡ n → m < 2 ^ 64 → n < 2 ^ 64 → (x y : Lines) → x ≡ flat_instr.Mul (slot_of w.slots Amount) p q ∷ []
    → Choice p (Line (flat_instr.Divu (slot_of w.slots First) (slot_of w.slots Amount) p ∷ flat_instr.Ne (slot_of w.slots First) (slot_of w.slots First) q ∷ []))
    (Line (flat_instr.Const (slot_of w.slots First) 0 ∷ [])) y
    → Multiplied w g b m n (x ++ y) c
unfolding Line Choice
multiplied w g b c count m n p q p_lasts q_lasts p_is q_is m_small n_small x y is_x (code, other, code_is, other_is, is_y) = by (nat_eq m 0) refl
  where
    a : ℕ
    a = slot_of w.slots Amount

    f : ℕ
    f = slot_of w.slots First

    d : flat.Local
    d = with_slot a (product_words (slot c p) (slot c q)) c

    there : (r : Role) → slot_of w.slots r < length c.slots
    there r = let h = role-there w g r in omega (arith, h, count)

    amount-is : slot d a ≡ (m * n) % 2 ^ 64
    amount-is = get_or-set_same c.slots a (product_words (slot c p) (slot c q)) 0 (there Amount) ∙ ap (λ (i : ℕ). product_words i (slot c q)) p_is ∙ ap (product_words m) q_is

    lasting : (k : ℕ) → IsLasting (g.owner k) → slot d k ≡ slot c k
    lasting k h = get_or-set_other c.slots a k (product_words (slot c p) (slot c q)) 0 (λ e. lasting-apart w g k (role_number Amount) h (role-below Amount) e)

    quotient_lines : Lines
    quotient_lines = flat_instr.Divu f a p ∷ flat_instr.Ne f f q ∷ []

    nothing_lines : Lines
    nothing_lines = flat_instr.Const f 0 ∷ []

    choice : (rest : Lines) → run ((x ++ y) ++ rest) (context_of w b) c
        ≡ from (either (is_true_word (slot d p)) (run quotient_lines (context_of w b)) (run nothing_lines (context_of w b)) d) (λ z. then_go z (run rest (context_of w b)))
    choice rest =
        ap (λ (js : Lines). run ((js ++ y) ++ rest) (context_of w b) c) is_x ∙ ap (λ (js : Lines). run (js ++ rest) (context_of w b) d) is_y
        ∙ choice-runs (context_of w b) d p code other quotient_lines nothing_lines rest code_is other_is

    by : (z : Bool) → nat_eq m 0 ≡ z → Multiplied w g b m n (x ++ y) c
    by true e = record {
      after = with_slot f 0 d;
      runs = λ rest. choice rest ∙ ap (λ (z : Bool). from (either z (run quotient_lines (context_of w b)) (run nothing_lines (context_of w b)) d) (λ z. then_go z (run rest (context_of w b)))) untrue;
      state = refl;
      passed = passed-then w g c.slots d.slots (slice_set d.slots f 0) (passed-role w g c.slots Amount (product_words (slot c p) (slot c q))) (passed-role w g d.slots First 0);
      amount = get_or-set_other d.slots f a 0 0 (λ h. omega (arith, h)) ∙ amount-is;
      wrapped = ap is_true_word (get_or-set_same d.slots f 0 0 (let h = there First in let k = length-set c.slots a (product_words (slot c p) (slot c q)) in omega (arith, h, k)))
          ∙ sym (ap (λ (i : ℕ). not (nat_lt (i * n) (2 ^ 64))) zero_is ∙ none n);
    }
      where
        zero_is : m ≡ 0
        zero_is = grind (arith, nat_tests, e)

        none : (n : ℕ) → not (nat_lt (0 * n) (2 ^ 64)) ≡ false
        none n = grind (arith, nat_tests)

        untrue : is_true_word (slot d p) ≡ false
        untrue = ap is_true_word (lasting p p_lasts ∙ p_is ∙ zero_is)
    by false e = record {
      after = two;
      runs = λ rest. choice rest
          ∙ ap (λ (z : Bool). from (either z (run quotient_lines (context_of w b)) (run nothing_lines (context_of w b)) d) (λ z. then_go z (run rest (context_of w b)))) holds
          ∙ ap (λ (o : FlatOutcome). from o (λ z. then_go z (run rest (context_of w b))))
          (quotient-runs (context_of w b) d f a p (flat_instr.Ne f f q ∷ []) (let h = lasting p p_lasts in let k = some in omega (arith, h, k, p_is)));
      state = refl;
      passed = passed-then w g c.slots d.slots two.slots (passed-role w g c.slots Amount (product_words (slot c p) (slot c q)))
          (passed-then w g d.slots one.slots two.slots (passed-role w g d.slots First (quotient_words (slot d a) (slot d p)))
          (passed-role w g one.slots First (different_words (slot one f) (slot one q))));
      amount = get_or-set_other one.slots f a (different_words (slot one f) (slot one q)) 0 (λ h. omega (arith, h))
          ∙ get_or-set_other d.slots f a (quotient_words (slot d a) (slot d p)) 0 (λ h. omega (arith, h)) ∙ amount-is;
      wrapped = ap is_true_word (get_or-set_same one.slots f (different_words (slot one f) (slot one q)) 0
          (let h = there First in let k = length-set c.slots a (product_words (slot c p) (slot c q)) in let i = length-set d.slots f (quotient_words (slot d a) (slot d p)) in omega (arith, h, k, i)))
          ∙ ap (λ (i : ℕ). is_true_word (different_words i (slot one q))) quotient_is ∙ ap (λ (i : ℕ). is_true_word (different_words ((m * n) % 2 ^ 64 / m) i)) second_is
          ∙ told ((m * n) % 2 ^ 64 / m) n ∙ ap not (wraps m n some m_small);
    }
      where
        some : 0 < m
        some = grind (arith, nat_tests, e)

        truth : (k : ℕ) → 0 < k → is_true_word k ≡ true
        truth k h = grind (arith, nat_tests, h)

        holds : is_true_word (slot d p) ≡ true
        holds = ap is_true_word (lasting p p_lasts ∙ p_is) ∙ truth m some

        one : flat.Local
        one = with_slot f (quotient_words (slot d a) (slot d p)) d

        two : flat.Local
        two = with_slot f (different_words (slot one f) (slot one q)) one

        quotient_is : slot one f ≡ (m * n) % 2 ^ 64 / m
        quotient_is = get_or-set_same d.slots f (quotient_words (slot d a) (slot d p)) 0
            (let h = there First in let k = length-set c.slots a (product_words (slot c p) (slot c q)) in omega (arith, h, k))
            ∙ ap (λ (i : ℕ). i / slot d p) amount-is ∙ ap (λ (i : ℕ). (m * n) % 2 ^ 64 / i) (lasting p p_lasts ∙ p_is)

        second_is : slot one q ≡ n
        second_is = get_or-set_other d.slots f q (quotient_words (slot d a) (slot d p)) 0 (λ h. lasting-apart w g q (role_number First) q_lasts (role-below First) h) ∙ lasting q q_lasts ∙ q_is

        told : (i j : ℕ) → is_true_word (different_words i j) ≡ not (nat_eq i j)
        told i j = grind (arith, nat_tests)

-- a block of whole elements, or none where their number of bytes is none
elements-block : (w : Scene) (names : Names w) → length w.programs.parts.functions ≡ suc (length (setting_of w.programs).functions) → (g : AreSlots w.slots) (b : Running)
    (known : Knowledge) (l : code.Local) (c : flat.Local) → Point w g b known l c → (node : NodeId) (t : TypeId) → w.programs.whole.kind node ≢ Wild → MakesBlocks (setting_of w.programs) node t
    → (m n : ℕ) (x y : Lines) → Multiplied w g b m n x c → (seat : Seat) (d : ℕ)
    → Choice (slot_of w.slots First) (Line (flat_instr.Const (slot_of w.slots Made) 0 ∷ [])) (MakesBlock (world_of w) seat (w.programs.whole.kind node) t (slot_of w.slots Amount) d) y
    → BlockMade w g b known l node t (primitive.allocate_elements (setting_of w.programs) node t m n l.state) d (x ++ y) c × ((d ≡ slot_of w.slots Amount) ⊎ (d ≡ slot_of w.slots Bytes))
unfolding Line Choice
elements-block w names count g b known l c p node t plain makes m n x y z seat d (code, other, code_is, makes_it, is) =
    (of (by (nat_lt (m * n) (2 ^ 64)) refl), makes-slot w (w.programs.whole.kind node) t seat (slot_of w.slots Amount) d other.0.items makes_it)
  where
    S : Setting
    S = setting_of w.programs

    q : Point w g b known l z.after
    q = passed-point w g b known l c z.after p z.state z.passed

    outcome : Outcome source.Ending source.State Pointer
    outcome = primitive.allocate_elements (setting_of w.programs) node t m n l.state

    makes-by : Bool → Outcome source.Ending source.State Pointer
    makes-by i = either i (primitive.allocate S node t (m * n)) (done Null) l.state

    none_lines : Lines
    none_lines = flat_instr.Const (slot_of w.slots Made) 0 ∷ []

    choice : (i : Bool) → nat_lt (m * n) (2 ^ 64) ≡ i → (rest : Lines) → run (y ++ rest) (context_of w b) z.after
        ≡ from (either (not i) (run none_lines (context_of w b)) (run other.0.items (context_of w b)) z.after) (λ j. then_go j (run rest (context_of w b)))
    choice i e rest =
        ap (λ (js : Lines). run (js ++ rest) (context_of w b) z.after) is
        ∙ choice-runs (context_of w b) z.after (slot_of w.slots First) code other none_lines other.0.items rest code_is refl
        ∙ ap (λ (j : Bool). from (either j (run none_lines (context_of w b)) (run other.0.items (context_of w b)) z.after) (λ k. then_go k (run rest (context_of w b)))) (z.wrapped ∙ ap not e)

    by : (i : Bool) → nat_lt (m * n) (2 ^ 64) ≡ i → BlockMade w g b known l node t outcome d y z.after
    by false e = block-none w g b known l z.after q node t outcome (ap makes-by e) d y (choice false e)
    by true e = record {
      pointer = made.pointer;
      next = made.next;
      source_goes = ap makes-by e ∙ made.source_goes;
      after = made.after;
      runs = λ rest. choice true e rest ∙ ap (λ (o : FlatOutcome). from o (λ j. then_go j (run rest (context_of w b))))
          (ap (λ (js : Lines). run js (context_of w b) z.after) (sym (append-nil other.0.items)) ∙ made.runs []);
      point = made.point;
      grows = made.grows;
      passed = made.passed;
      gives = made.gives;
      is = made.is;
    }
      where
        exact : (i : ℕ) → nat_lt i (2 ^ 64) ≡ true → i < 2 ^ 64
        exact i h = grind (arith, nat_tests, h)

        made : BlockMade w g b known l node t (primitive.allocate S node t (m * n) l.state) d other.0.items z.after
        made = block-lines w names count g b known l z.after q node t plain makes (m * n) (exact (m * n) e) (slot_of w.slots Amount) (inr refl)
            (z.amount ∙ mod-eq_of_lt (exact (m * n) e)) seat d other.0.items makes_it

    of : BlockMade w g b known l node t outcome d y z.after → BlockMade w g b known l node t outcome d (x ++ y) c
    of k = record {
      pointer = k.pointer;
      next = k.next;
      source_goes = k.source_goes;
      after = k.after;
      runs = λ rest. ap (λ (js : Lines). run js (context_of w b) c) (append-append x y rest) ∙ z.runs (y ++ rest) ∙ k.runs rest;
      point = k.point;
      grows = subst (λ (i : flat.State). Grows w.programs b.depth l.state k.next i k.after.state) z.state k.grows;
      passed = passed-then w g c.slots z.after.slots k.after.slots z.passed k.passed;
      gives = k.gives;
      is = k.is;
    }

pub calloc-follows : (w : Scene) (names : Names w) → length w.programs.parts.functions ≡ suc (length (setting_of w.programs).functions) → (g : AreSlots w.slots) (b : Running)
    (into m n : Temp) (node : NodeId) (t : TypeId) (at : Place) (known after : Knowledge) (blocks : Blocks) (lines : Lines)
    → (w.programs.whole.kind node ≡ Safe) ⊎ (w.programs.whole.kind node ≡ Seq) → MakesBlocks (setting_of w.programs) node t → Contains w.programs.sites (site.Pointee node t)
    → IsCuringAllocate (allocate.Calloc into m n node t at) (world_of w) known after lines
    → Follows w g b blocks known after (meaning.act (instr.Allocate (allocate.Calloc into m n node t at)) (around_of w b)) lines
unfolding Line Then
calloc-follows w names count g b into m n node t at known after blocks lines kinds makes told
    (p, q, d, seat, given, first_number, second_number, takes, (x, r1, times, (y, r2, asks, (v, gives, makes_it, gives_it, is2), is1), is), leave) l c point =
    subst (λ (js : Lines). Match w g b after blocks (meaning.act (instr.Allocate (allocate.Calloc into m n node t at)) (around_of w b) l) (run js (context_of w b) c)) (sym whole)
    (subst (λ (i : Value). Match w g b after blocks (gave (allocated_value (setting_of w.programs) at node t (calloc (setting_of w.programs) node t (i ∷ l.temps n ∷ [])) l.state))
    (run (((x ++ y) ++ v) ++ gives) (context_of w b) c)) (sym one.value)
    (subst (λ (i : Value). Match w g b after blocks (gave (allocated_value (setting_of w.programs) at node t (calloc (setting_of w.programs) node t (Integer one.z ∷ i ∷ [])) l.state))
    (run (((x ++ y) ++ v) ++ gives) (context_of w b) c)) (sym two.value)
    (block-given w names g b known after blocks into l c node t at makes told takes leave
    (primitive.allocate_elements (setting_of w.programs) node t (word one.z) (word two.z) l.state) d (whose z.1) ((x ++ y) ++ v) z.0 given kinds gives gives_it)))
  where
    one : Operand l c m unsigned_long p Exact
    one = exactly w g b known l c point m unsigned_long p first_number

    two : Operand l c n unsigned_long q Exact
    two = exactly w g b known l c point n unsigned_long q second_number

    gave : Outcome source.Ending source.State Value → CodeOutcome
    gave o = from (beside l.temps o) (λ i. leaves (λ (j : code.Local). record j { temps = with_temp into i j.temps }) >> done Goes)

    whole : lines ≡ ((x ++ y) ++ v) ++ gives
    whole = is ∙ ap (λ (js : Lines). x ++ js) (is1 ∙ ap (λ (js : Lines). y ++ js) is2) ∙ sym (append-append x y (v ++ gives)) ∙ sym (append-append (x ++ y) v gives)

    plain : w.programs.whole.kind node ≢ Wild
    plain = plain-kind (w.programs.whole.kind node) kinds

    product : Multiplied w g b (word one.z) (word two.z) (x ++ y) c
    product = multiplied w g b c point.count (word one.z) (word two.z) p q (word-asked w g b known l c point m p first_number) (word-asked w g b known l c point n q second_number)
        one.holds two.holds (word-below one.z) (word-below two.z) x y times asks

    z : BlockMade w g b known l node t (primitive.allocate_elements (setting_of w.programs) node t (word one.z) (word two.z) l.state) d ((x ++ y) ++ v) c
        × ((d ≡ slot_of w.slots Amount) ⊎ (d ≡ slot_of w.slots Bytes))
    z = elements-block w names count g b known l c point node t plain makes (word one.z) (word two.z) (x ++ y) v product seat d makes_it

    whose : (d ≡ slot_of w.slots Amount) ⊎ (d ≡ slot_of w.slots Bytes) → IsAmount w g d ⊎ (d ≡ slot_of w.slots Bytes)
    whose (inl e) = inl (inr e)
    whose (inr e) = inr e
