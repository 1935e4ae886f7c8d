-- Quotients and remainders, behind their check.
use Rattle.std.proofs.Common.{◌≡◌, ◌≢◌, ℕ, zero, suc, ◌-◌, ◌*◌, ◌/◌, ◌%◌, ◌^◌, ◌<◌, ◌≤◌, ℤ, pos, negsuc, neg_ℤ, Bool, true, false, not, ◌&&◌, List, [], ◌∷◌, ◌++◌, Some, None, is_none, refl, ap, sym, subst, ◌∙◌, arith, if◌then◌else◌, nat_eq, int_eq, div-le_self, div-mul-le_self}
use native.Mathlib.Nat.{mod-le}
use Rattle.std.specs.Prelude.{int_div, int_rem, nat_abs}
use Rattle.std.proofs.lemmas.Bool.Decides.{nat_tests}
use Rattle.cc_base.specs.declared.fault.Check.TheVariants as check
use Rattle.cc_base.specs.declared.kind.Kind.TheVariants.{Safe}
use Rattle.cc_base.specs.declared.number.TypeId.{TypeId}
use Rattle.cc_base.specs.declared.place.Place.{Place}
use Rattle.integers.specs.Words.{word, as_signed, as_unsigned}
use Rattle.integers.specs.Operators.{signed, quotient_words, quotient_signed, remainder_words, remainder_signed, can_divide_signed}
use Rattle.integers.specs.Arithmetic.{IntegerType, converted, least, can_divide}
use Rattle.integers.proofs.WordLaws.{word-small, word-below}
use Rattle.runs.specs.Outcome.{Outcome, Done, done, from, allowed, Matches}
use Rattle.runs.specs.Control.{Goes, then_go}
use Rattle.flat_mem.specs.Bytes.{IsAccessSize}
use Rattle.src_mem.specs.Pointers.{Value, Integer}
use Rattle.src_mem.specs.State as source
use Rattle.src_mem.specs.State.{Setting}
use Rattle.src_mem.specs.Checks.{CanDivide, checked}
use Rattle.src_mem.specs.Operations.{integer_in}
use Rattle.src_mem.specs.Values.{calculated}
use Rattle.cil_form.specs.declared.number.Temp.{Temp}
use Rattle.cil_form.specs.declared.instr.Operator.{Operator}
use Rattle.cil_form.specs.declared.instr.Operator.TheVariants as operator
use Rattle.cil_form.specs.declared.instr.Calculate.TheVariants as calculate
use Rattle.cil_form.specs.declared.instr.Instr.TheVariants as instr
use Rattle.cil_form.specs.State as code
use Rattle.cil_form.specs.Meaning as meaning
use Rattle.cured_code.specs.declared.instr.Instr as flat_code
use Rattle.cured_code.specs.declared.instr.Instr.TheVariants as flat_instr
use Rattle.cured_code.specs.FlatState as flat
use Rattle.cured_code.specs.FlatState.{slot, with_slot, goes}
use Rattle.cured_code.specs.FlatMachine.{Context, run}
use Rattle.check_forms.specs.Pieces.{Line, Then}
use Rattle.check_forms.specs.declared.slots.Fixed.{Fixed}
use Rattle.check_forms.specs.Conditions.{IsNotZero, IsNoOverflow}
use Rattle.check_forms.specs.declared.op.Op.TheVariants.{DivideSigned, DivideUnsigned}
use Rattle.check_forms.specs.Rows.{Asked, asked}
use Rattle.check_forms.specs.RowChecks.{first_false}
use Rattle.sim_checks.proofs.Division.{unsigned-compared, signed-compared}
use Rattle.sim_relation.specs.Points.{Exact, Knowledge}
use Rattle.cure_rules.specs.Slots.{AreSlots, Least, Span}
use Rattle.cure_rules.specs.Checks.{Need, need, number_at, IsGuarded}
use Rattle.cure_rules.specs.Setting.{Divides}
use Rattle.cure_rules.specs.Code.{Blocks}
use Rattle.sim_laws.specs.Scenes.{Scene, Running, setting_of, world_of, around_of, context_of}
use Rattle.sim_laws.specs.Points.{IsLasting, Passed}
use Rattle.sim_laws.specs.Statements.{Lines, FlatOutcome, StatesEndAlike, Match, Follows}
use Rattle.sim_laws.proofs.Guards.{lasting-other}
use Rattle.sim_laws.proofs.Giving.{Gave}
use Rattle.sim_laws.proofs.Calculations.{Operand, exactly, integer_type, exact-gives}
use Rattle.sim_laws.proofs.Comparisons.{signed-exact, unsigned-exact, width-most}
use Rattle.sim_laws.proofs.Integers.{width-of, residue-below}
use Rattle.sim_laws.proofs.Ranges.{IsBetween, Halved, one, two, four, eight, halved, in-range, range-in, nearer-in}
use Rattle.sim_laws.proofs.Checks.{Guarded, guarded, guarded-lasting, AllStop, stops-together, guard-gives, first-lasting}

-- Which quotients are of the type

negative-in : (m half k n : ℕ) → k ≤ suc n → n < half → IsBetween true m half (neg_ℤ (pos k))
negative-in m half zero n h l = omega (arith, l)
negative-in m half (suc k) n h l = omega (arith, h, l)

-- half of at most all of the negative numbers is less than half of all
half-quotient : (half a b : ℕ) → a < half → suc a / suc (suc b) < half
half-quotient half a b l = let h : suc a / suc (suc b) * suc (suc b) ≤ suc a = div-mul-le_self (suc a) (suc (suc b)) in omega (arith, h, l)

quotient-between : (m half : ℕ) (x y : ℤ) → IsBetween true m half x → (x ≡ neg_ℤ (pos half) → y ≡ negsuc 0 → ⊥) → IsBetween true m half (int_div x y)
quotient-between m half (pos a) (pos b) h other = let l = div-le_self a b in omega (arith, h, l)
quotient-between m half (pos a) (negsuc b) h other = negative-in m half (a / suc b) a (let l = div-le_self a (suc b) in omega (arith, l)) h
quotient-between m half (negsuc a) (pos b) h other = negative-in m half (suc a / b) a (div-le_self (suc a) b) h
quotient-between m half (negsuc a) (negsuc (suc b)) h other = half-quotient half a b h
quotient-between m half (negsuc a) (negsuc zero) h other = by half h other
  where
    whole : suc a / 1 ≡ suc a
    whole = omega arith

    by : (half : ℕ) → a < half → (negsuc a ≡ neg_ℤ (pos half) → negsuc 0 ≡ negsuc 0 → ⊥) → suc a / 1 < half
    by zero l never = absurd (omega (arith, l))
    by (suc k) l never = let e = whole in let n : a ≢ k = (λ f. never (ap negsuc f) refl) in omega (arith, e, l, n)

quotient-in : (i : IntegerType) → IsAccessSize i.bytes → (x y : ℤ) → converted i x ≡ x → converted i y ≡ y → can_divide i x y ≡ true
    → converted i (int_div x y) ≡ int_div x y
quotient-in i size x y hx hy can = by i.signed hx hy can
  where
    not-both : (p q : Bool) → (p && not (true && (q && true))) ≡ true → q ≡ true → ⊥
    not-both true true h e = cc (h)
    not-both true false h e = cc (e)
    not-both false q h e = cc (h)

    excluded : can_divide (record { bytes = i.bytes; signed = true }) x y ≡ true → x ≡ neg_ℤ (pos (2 ^ (8 * i.bytes - 1))) → y ≡ negsuc 0 → ⊥
    excluded h e f =
        let one : int_eq x (neg_ℤ (pos (2 ^ (8 * i.bytes - 1)))) ≡ true = grind (arith, nat_tests, e) in
        let two : int_eq y (negsuc 0) ≡ true = grind (arith, nat_tests, f) in
        not-both (not (int_eq y (pos 0))) (int_eq x (neg_ℤ (pos (2 ^ (8 * i.bytes - 1)))))
        (ap (λ (q : Bool). not (int_eq y (pos 0)) && not (true && (int_eq x (neg_ℤ (pos (2 ^ (8 * i.bytes - 1)))) && q))) (sym two) ∙ h) one

    plain : (x y : ℤ) → converted (record { bytes = i.bytes; signed = false }) x ≡ x → converted (record { bytes = i.bytes; signed = false }) y ≡ y
        → converted (record { bytes = i.bytes; signed = false }) (int_div x y) ≡ int_div x y
    plain (pos a) (pos b) e f = nearer-in (record { bytes = i.bytes; signed = false }) size (pos (a / b)) (pos a) (div-le_self a b) e
    plain (pos a) (negsuc b) e f = absurd (cc (f))
    plain (negsuc a) y e f = absurd (cc (e))

    by : (q : Bool) → converted (record { bytes = i.bytes; signed = q }) x ≡ x → converted (record { bytes = i.bytes; signed = q }) y ≡ y
        → can_divide (record { bytes = i.bytes; signed = q }) x y ≡ true → converted (record { bytes = i.bytes; signed = q }) (int_div x y) ≡ int_div x y
    by true e f h = range-in (record { bytes = i.bytes; signed = true }) size (int_div x y)
        (quotient-between (2 ^ (8 * i.bytes)) (2 ^ (8 * i.bytes - 1)) x y (in-range (record { bytes = i.bytes; signed = true }) size x e) (excluded h))
    by false e f h = plain x y e f

remainder-in : (i : IntegerType) → IsAccessSize i.bytes → (x y : ℤ) → converted i x ≡ x → converted i (int_rem x y) ≡ int_rem x y
remainder-in i size (pos a) y hx = nearer-in i size (pos (a % nat_abs y)) (pos a) (mod-le a (nat_abs y)) hx
remainder-in i size (negsuc a) y hx = by i.signed hx
  where
    by : (q : Bool) → converted (record { bytes = i.bytes; signed = q }) (negsuc a) ≡ negsuc a
        → converted (record { bytes = i.bytes; signed = q }) (neg_ℤ (pos (suc a % nat_abs y))) ≡ neg_ℤ (pos (suc a % nat_abs y))
    by true e = range-in (record { bytes = i.bytes; signed = true }) size (neg_ℤ (pos (suc a % nat_abs y)))
        (negative-in (2 ^ (8 * i.bytes)) (2 ^ (8 * i.bytes - 1)) (suc a % nat_abs y) a (mod-le (suc a) (nat_abs y))
        (in-range (record { bytes = i.bytes; signed = true }) size (negsuc a) e))
    by false e = absurd (cc (e))

-- What the machine divides

-- it doesn't trap where the check has passed
can-divide : (m half : ℕ) → Halved m half → (x : ℤ) (b : ℕ) → IsBetween true m half x → not (nat_eq b 0) ≡ true
    → not (nat_eq b (2 ^ 64 - 1) && nat_eq (word x) (word (neg_ℤ (pos half)))) ≡ true → can_divide_signed (word x) b ≡ true
can-divide m half k x b h some other = ap (λ (q : Bool). q && not (nat_eq (word x) (2 ^ 63) && nat_eq b (2 ^ 64 - 1))) some ∙ by m half k x h other
  where
    never : (q r : Bool) → q ≡ false → not (q && r) ≡ true
    never q r e = ap (λ (z : Bool). not (z && r)) e

    turned : (q r : Bool) → not (q && r) ≡ true → not (r && q) ≡ true
    turned true true e = e
    turned true false e = refl
    turned false true e = refl
    turned false false e = refl

    by : (m half : ℕ) → Halved m half → (x : ℤ) → IsBetween true m half x → not (nat_eq b (2 ^ 64 - 1) && nat_eq (word x) (word (neg_ℤ (pos half)))) ≡ true
        → not (nat_eq (word x) (2 ^ 63) && nat_eq b (2 ^ 64 - 1)) ≡ true
    by m half eight x h e = turned (nat_eq b (2 ^ 64 - 1)) (nat_eq (word x) (2 ^ 63)) e
    by m half one (pos n) h e = never (nat_eq (word (pos n)) (2 ^ 63)) (nat_eq b (2 ^ 64 - 1)) (grind (arith, nat_tests, h))
    by m half one (negsuc n) h e = never (nat_eq (word (negsuc n)) (2 ^ 63)) (nat_eq b (2 ^ 64 - 1)) (grind (arith, nat_tests, h))
    by m half two (pos n) h e = never (nat_eq (word (pos n)) (2 ^ 63)) (nat_eq b (2 ^ 64 - 1)) (grind (arith, nat_tests, h))
    by m half two (negsuc n) h e = never (nat_eq (word (negsuc n)) (2 ^ 63)) (nat_eq b (2 ^ 64 - 1)) (grind (arith, nat_tests, h))
    by m half four (pos n) h e = never (nat_eq (word (pos n)) (2 ^ 63)) (nat_eq b (2 ^ 64 - 1)) (grind (arith, nat_tests, h))
    by m half four (negsuc n) h e = never (nat_eq (word (negsuc n)) (2 ^ 63)) (nat_eq b (2 ^ 64 - 1)) (grind (arith, nat_tests, h))

-- an operator that divides: signed and unsigned, on words and on integers
pub record Dividing (signed_line unsigned_line : ℕ → ℕ → ℕ → flat_code.Instr) (f h : ℕ → ℕ → ℕ) (o : Operator) (d : ℤ → ℤ → ℤ) : Type 0 where
  pub signed_runs : (v p q : ℕ) (ctx : Context) (c : flat.Local) → can_divide_signed (slot c p) (slot c q) ≡ true
      → run (signed_line v p q ∷ []) ctx c ≡ Done Goes (with_slot v (f (slot c p) (slot c q)) c)
  pub unsigned_runs : (v p q : ℕ) (ctx : Context) (c : flat.Local) → not (nat_eq (slot c q) 0) ≡ true
      → run (unsigned_line v p q ∷ []) ctx c ≡ Done Goes (with_slot v (h (slot c p) (slot c q)) c)
  pub gives : (w : Setting) (at : Place) (t : TypeId) (x y : ℤ) (s : source.State) → calculated w at (meaning.operator_of o) t (Integer x) (Integer y) s
      ≡ from (from (checked w at (CanDivide (integer_in w t) x y) s) (λ _. done (converted (integer_in w t) (d x y)))) (λ z. done (Integer z))
  pub range : (i : IntegerType) (x y : ℤ) → IsAccessSize i.bytes → converted i x ≡ x → converted i y ≡ y → can_divide i x y ≡ true → converted i (d x y) ≡ d x y
  pub signed_word : (a b : ℕ) (x y : ℤ) → signed a ≡ x → signed b ≡ y → f a b ≡ word (d x y)
  pub unsigned_word : (a b : ℕ) → a < 2 ^ 64 → h a b ≡ word (d (pos a) (pos b))

pub quotients : Dividing flat_instr.Divs flat_instr.Divu quotient_signed quotient_words operator.Divide int_div
quotients = record {
  signed_runs = λ v p q ctx c can. ap (λ (z : Bool). from (allowed z (flat.Trap ctx.function) (goes (λ (k : flat.Local). with_slot v (quotient_signed (slot k p) (slot k q)) k)) c) (λ x. then_go x (run [] ctx))) can;
  unsigned_runs = λ v p q ctx c can. ap (λ (z : Bool). from (allowed z (flat.Trap ctx.function) (goes (λ (k : flat.Local). with_slot v (quotient_words (slot k p) (slot k q)) k)) c) (λ x. then_go x (run [] ctx))) can;
  gives = λ w at t x y s. refl;
  range = λ i x y size hx hy can. quotient-in i size x y hx hy can;
  signed_word = λ a b x y e f. ap (λ (z : ℤ). word (int_div z (signed b))) e ∙ ap (λ (z : ℤ). word (int_div x z)) f;
  unsigned_word = λ a b h. sym (word-small (a / b) (let l = div-le_self a b in omega (arith, h, l)));
}

pub remainders : Dividing flat_instr.Rems flat_instr.Remu remainder_signed remainder_words operator.Remainder int_rem
remainders = record {
  signed_runs = λ v p q ctx c can. ap (λ (z : Bool). from (allowed z (flat.Trap ctx.function) (goes (λ (k : flat.Local). with_slot v (remainder_signed (slot k p) (slot k q)) k)) c) (λ x. then_go x (run [] ctx))) can;
  unsigned_runs = λ v p q ctx c can. ap (λ (z : Bool). from (allowed z (flat.Trap ctx.function) (goes (λ (k : flat.Local). with_slot v (remainder_words (slot k p) (slot k q)) k)) c) (λ x. then_go x (run [] ctx))) can;
  gives = λ w at t x y s. refl;
  range = λ i x y size hx hy can. remainder-in i size x y hx;
  signed_word = λ a b x y e f. ap (λ (z : ℤ). word (int_rem z (signed b))) e ∙ ap (λ (z : ℤ). word (int_rem x z)) f;
  unsigned_word = λ a b h. sym (word-small (a % b) (let l = mod-le a b in omega (arith, h, l)));
}

-- The laws

none-one : (p : Bool) (a : Asked) → is_none (if p then None else Some a) ≡ p
none-one true a = refl
none-one false a = refl

none-two : (p q : Bool) (a b : Asked) → is_none (if p then (if q then None else Some b) else Some a) ≡ (p && q)
none-two true true a b = refl
none-two true false a b = refl
none-two false q a b = refl

both-true : (p q : Bool) → (p && q) ≡ true → (p ≡ true) × (q ≡ true)
both-true true true e = (refl, refl)
both-true true false e = absurd (cc (e))
both-true false q e = absurd (cc (e))

pub divides-follows : (signed_line unsigned_line : ℕ → ℕ → ℕ → flat_code.Instr) (f h : ℕ → ℕ → ℕ) (o : Operator) (d : ℤ → ℤ → ℤ) → Dividing signed_line unsigned_line f h o d
    → (w : Scene) (g : AreSlots w.slots) (b : Running) (into x y : Temp) (t : TypeId) (at : Place) (known after : Knowledge) (blocks : Blocks) (lines : Lines)
    → Divides signed_line unsigned_line (world_of w) into x y t at known after lines
    → Follows w g b blocks known after (meaning.act (instr.Calculate (calculate.Binary into o x y t at)) (around_of w b)) lines
unfolding Line Then
divides-follows signed_line unsigned_line f h o d law w g b into x y t at known after blocks lines
    (i, p, q, seat, plain, hx, hy, takes, (first, last, guard, is_last, is), leave) l c point =
    subst (λ (js : Lines). Goal (run js (context_of w b) c)) (sym is) (by i.signed refl guard is_last)
  where
    v : ℕ
    v = w.slots.column into

    m : Operand l c x i p Exact
    m = exactly w g b known l c point x i p hx

    r : Operand l c y i q Exact
    r = exactly w g b known l c point y i q hy

    Goal : FlatOutcome → Type 0
    Goal z = Match w g b after blocks (meaning.act (instr.Calculate (calculate.Binary into o x y t at)) (around_of w b) l) z

    p-lasting : IsLasting (g.owner p)
    p-lasting = first-lasting w g b known l c point x hx.0 hx.1 p hx.3

    q-lasting : IsLasting (g.owner q)
    q-lasting = first-lasting w g b known l c point y hy.0 hy.1 q hy.3

    -- what C does with the outcome of its check
    F : IntegerType → Outcome source.Ending source.State (Unit {0}) → Outcome source.Ending source.State Value
    F j u = from (from u (λ _. done (converted j (d m.z r.z)))) (λ z. done (Integer z))

    as_checked : FlatOutcome → Type 0
    as_checked z = Match w g b after blocks (code.gives_to into (λ (s : source.State). F i (checked (setting_of w.programs) at (CanDivide i m.z r.z) s)) l) z

    goal-from : (z : FlatOutcome) → as_checked z → Goal z
    goal-from z k =
        subst (λ (u : Value). Match w g b after blocks (code.gives_to into (calculated (setting_of w.programs) at (meaning.operator_of o) t u (l.temps y)) l) z) (sym m.value)
        (subst (λ (u : Value). Match w g b after blocks (code.gives_to into (calculated (setting_of w.programs) at (meaning.operator_of o) t (Integer m.z) u) l) z) (sym r.value)
        (subst (λ (u : Outcome source.Ending source.State Value). Match w g b after blocks (code.gives_to into (λ (s : source.State). u) l) z)
        (sym (law.gives (setting_of w.programs) at t m.z r.z l.state))
        (subst (λ (j : IntegerType). Match w g b after blocks (code.gives_to into (λ (s : source.State). F j (checked (setting_of w.programs) at (CanDivide j m.z r.z) l.state)) l) z)
        (sym (integer_type w t i plain.0)) k)))

    pass : (needs : List Need) (conditions : List Asked) (z : Guarded w g b known l needs conditions first c) → AllStop check.Divide at conditions
        → is_none (first_false w.programs.parts c.state.memory conditions (slot z.middle)) ≡ can_divide i m.z r.z → (n : ℕ)
        → (can_divide i m.z r.z ≡ true → (run last (context_of w b) z.after ≡ Done Goes (with_slot v n z.after)) × (n ≡ word (d m.z r.z)))
        → Goal (run (first ++ last) (context_of w b) c)
    pass needs conditions z all value n result = goal-from (run (first ++ last) (context_of w b) c) (subst as_checked (sym (z.runs last))
        (guard-gives w g b known after blocks into l z.after z.point (first_false w.programs.parts c.state.memory conditions (slot z.middle))
        (checked (setting_of w.programs) at (CanDivide i m.z r.z) l.state)
        (stops-together w.programs.parts c.state.memory (slot z.middle) (setting_of w.programs) l.state at conditions (CanDivide i m.z r.z) all value)
        (F i) (λ e s. refl) last (λ none. gives (sym value ∙ ap is_none none))))
      where
        gives : can_divide i m.z r.z ≡ true
            → Matches (Gave w g b known after into l z.after) (λ e s u k. StatesEndAlike w.programs e s u k.state) (Done (Integer (converted i (d m.z r.z))) l.state) (run last (context_of w b) z.after)
        gives can = let range = law.range i m.z r.z plain.1 m.range r.range can in
            subst (λ (u : FlatOutcome). Matches (Gave w g b known after into l z.after) (λ e s u k. StatesEndAlike w.programs e s u k.state) (Done (Integer (converted i (d m.z r.z))) l.state) u) (sym (result can).0)
            (subst (λ (u : ℤ). Gave w g b known after into l z.after (Integer u) l.state Goes (with_slot v n z.after)) (sym range)
            (exact-gives w g b known after into l z.after z.point i plain.1 takes leave (d m.z r.z) range n (result can).1))

    -- operands behind the numbers, and behind the check
    p-middle : (z : flat.Local) → Passed w g c.slots z.slots → slot z p ≡ word m.z
    p-middle z passed = passed.others p p-lasting ∙ m.holds

    q-middle : (z : flat.Local) → Passed w g c.slots z.slots → slot z q ≡ word r.z
    q-middle z passed = passed.others q q-lasting ∙ r.holds

    by : (k : Bool) → i.signed ≡ k
        → IsGuarded (world_of w) (if k then DivideSigned p q (number_at seat Least (word (least i))) (number_at seat Span (2 ^ 64 - 1)) else DivideUnsigned p q) Safe at first
        → last ≡ (if k then signed_line else unsigned_line) v p q ∷ [] → Goal (run (first ++ last) (context_of w b) c)
    by false e guards lines_are = with_guard (guarded w g b known l [] (asked check.Divide at (IsNotZero q) ∷ []) first c point tt guards
        (λ z passed there. record { apart = (lasting-other w g q q-lasting, tt); held = (tt, tt); safe = (tt, λ k. tt) }))
      where
        unsigned : (z : ℤ) → converted i z ≡ z → pos (word z) ≡ z
        unsigned z fits = unsigned-exact (2 ^ (8 * i.bytes)) (width-most i.bytes plain.1) z (residue-below (2 ^ (8 * i.bytes)) (width-of i.bytes plain.1) z)
            (sym (ap (λ (k : Bool). if k then as_signed (8 * i.bytes) z else as_unsigned (8 * i.bytes) z) e) ∙ fits)

        with_guard : Guarded w g b known l [] (asked check.Divide at (IsNotZero q) ∷ []) first c → Goal (run (first ++ last) (context_of w b) c)
        with_guard z = pass [] (asked check.Divide at (IsNotZero q) ∷ []) z (refl, refl, tt) value n (λ can. (
          ap (λ (js : Lines). run js (context_of w b) z.after) lines_are ∙ law.unsigned_runs v p q (context_of w b) z.after (some can),
          law.unsigned_word (slot z.after p) (slot z.after q) (subst (λ (u : ℕ). u < 2 ^ 64) (sym p-is) (word-below m.z))
              ∙ ap (λ (u : ℤ). word (d u (pos (slot z.after q)))) (ap pos p-is ∙ unsigned m.z m.range) ∙ ap (λ (u : ℤ). word (d m.z u)) (ap pos q-is ∙ unsigned r.z r.range),
        ))
          where
            n : ℕ
            n = h (slot z.after p) (slot z.after q)

            p-is : slot z.after p ≡ word m.z
            p-is = guarded-lasting w g b known l [] (asked check.Divide at (IsNotZero q) ∷ []) first c z p p-lasting ∙ m.holds

            q-is : slot z.after q ≡ word r.z
            q-is = guarded-lasting w g b known l [] (asked check.Divide at (IsNotZero q) ∷ []) first c z q q-lasting ∙ r.holds

            compared : not (nat_eq (slot z.middle q) 0) ≡ can_divide i m.z r.z
            compared = unsigned-compared (setting_of w.programs) l.state c.state.memory w.programs.parts i m.z r.z (slot z.middle) q plain.1 e r.range (q-middle z.middle z.passed)

            value : is_none (first_false w.programs.parts c.state.memory (asked check.Divide at (IsNotZero q) ∷ []) (slot z.middle)) ≡ can_divide i m.z r.z
            value = none-one (not (nat_eq (slot z.middle q) 0)) (asked check.Divide at (IsNotZero q)) ∙ compared

            some : can_divide i m.z r.z ≡ true → not (nat_eq (slot z.after q) 0) ≡ true
            some can = ap (λ (u : ℕ). not (nat_eq u 0)) (q-is ∙ sym (q-middle z.middle z.passed)) ∙ compared ∙ can
    by true e guards lines_are = with_guard (guarded w g b known l needs conditions first c point ((refl, (refl, tt), (refl, tt, tt))) guards
        (λ z passed there. record {
          apart = (lasting-other w g q q-lasting, ((lasting-other w g p p-lasting, (lasting-other w g q q-lasting, (there.1, (there.2.1, tt)))), tt));
          held = (tt, ((there.0, there.2.0), tt));
          safe = (tt, λ k. (tt, λ k. tt));
        }))
      where
        low : Fixed
        low = number_at seat Least (word (least i))

        minus : Fixed
        minus = number_at seat Span (2 ^ 64 - 1)

        needs : List Need
        needs = need Least low ∷ need Span minus ∷ []

        conditions : List Asked
        conditions = asked check.Divide at (IsNotZero q) ∷ asked check.Divide at (IsNoOverflow p q low minus) ∷ []

        signed-range : (z : ℤ) → converted i z ≡ z → as_signed (8 * i.bytes) z ≡ z
        signed-range z fits = sym (ap (λ (k : Bool). if k then as_signed (8 * i.bytes) z else as_unsigned (8 * i.bytes) z) e) ∙ fits

        signed-in : (z : ℤ) → converted i z ≡ z → IsBetween true (2 ^ (8 * i.bytes)) (2 ^ (8 * i.bytes - 1)) z
        signed-in z fits = in-range (record { bytes = i.bytes; signed = true }) plain.1 z (signed-range z fits)

        with_guard : Guarded w g b known l needs conditions first c → Goal (run (first ++ last) (context_of w b) c)
        with_guard z = pass needs conditions z ((refl, refl, (refl, refl, tt))) value n (λ can. (
          ap (λ (js : Lines). run js (context_of w b) z.after) lines_are ∙ law.signed_runs v p q (context_of w b) z.after (may can),
          law.signed_word (slot z.after p) (slot z.after q) m.z r.z
              (ap signed p-is ∙ signed-exact i.bytes plain.1 m.z (signed-range m.z m.range)) (ap signed q-is ∙ signed-exact i.bytes plain.1 r.z (signed-range r.z r.range)),
        ))
          where
            n : ℕ
            n = f (slot z.after p) (slot z.after q)

            p-is : slot z.after p ≡ word m.z
            p-is = guarded-lasting w g b known l needs conditions first c z p p-lasting ∙ m.holds

            q-is : slot z.after q ≡ word r.z
            q-is = guarded-lasting w g b known l needs conditions first c z q q-lasting ∙ r.holds

            A : Bool
            A = not (nat_eq (slot z.middle q) 0)

            B : Bool
            B = not (nat_eq (slot z.middle q) (2 ^ 64 - 1) && nat_eq (slot z.middle p) (word (least i)))

            compared : (A && B) ≡ can_divide i m.z r.z
            compared = signed-compared (setting_of w.programs) l.state c.state.memory w.programs.parts i m.z r.z (slot z.middle) p q low minus plain.1 e m.range r.range
                (p-middle z.middle z.passed) (q-middle z.middle z.passed) refl refl

            value : is_none (first_false w.programs.parts c.state.memory conditions (slot z.middle)) ≡ can_divide i m.z r.z
            value = none-two A B (asked check.Divide at (IsNotZero q)) (asked check.Divide at (IsNoOverflow p q low minus)) ∙ compared

            may : can_divide i m.z r.z ≡ true → can_divide_signed (slot z.after p) (slot z.after q) ≡ true
            may can = let both = both-true A B (compared ∙ can) in
                ap (λ (u : ℕ). can_divide_signed u (slot z.after q)) p-is ∙ ap (can_divide_signed (word m.z)) q-is
                ∙ can-divide (2 ^ (8 * i.bytes)) (2 ^ (8 * i.bytes - 1)) (halved i.bytes plain.1) m.z (word r.z) (signed-in m.z m.range)
                (ap (λ (u : ℕ). not (nat_eq u 0)) (sym (q-middle z.middle z.passed)) ∙ both.0)
                (ap (λ (u : ℕ). not (nat_eq u (2 ^ 64 - 1) && nat_eq (word m.z) (word (least i)))) (sym (q-middle z.middle z.passed))
                ∙ ap (λ (u : ℕ). not (nat_eq (slot z.middle q) (2 ^ 64 - 1) && nat_eq u (word (least i)))) (sym (p-middle z.middle z.passed)) ∙ both.1)
