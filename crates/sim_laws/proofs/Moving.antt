-- A SEQ pointer that moves by elements, behind BASE and RANGE.
use Rattle.std.proofs.Common.{◌≡◌, ℕ, suc, ◌+◌, ◌*◌, ◌^◌, ◌<◌, ◌≤◌, ℤ, pos, neg_ℤ, ◌+ℤ◌, ◌-ℤ◌, Bool, true, false, List, [], ◌∷◌, ◌++◌, length, slice_set, Option, None, refl, ap, sym, subst, ◌∙◌, arith, nat_eq, nat_le, if◌then◌else◌, length-set, get_or-set_same, get_or-set_other}
use Rattle.std.specs.Prelude.{◌*ℤ◌}
use Rattle.std.proofs.lemmas.Int.{ints}
use Rattle.std.proofs.lemmas.Bool.Decides.{nat_tests}
use Rattle.cc_base.specs.declared.fault.Check.TheVariants as check
use Rattle.cc_base.specs.declared.kind.Kind.{Kind}
use Rattle.cc_base.specs.declared.kind.Kind.TheVariants.{Seq}
use Rattle.cc_base.specs.declared.number.TypeId.{TypeId}
use Rattle.cc_base.specs.declared.number.NodeId.{NodeId}
use Rattle.cc_base.specs.declared.place.Place.{Place}
use Rattle.c_types.specs.declared.shape.TypeShape.{TypeShape}
use Rattle.c_types.specs.Table.{IsComplete}
use Rattle.c_types.specs.Layouts.{size_of}
use Rattle.c_types.specs.Equality.{cells_of}
use Rattle.c_types.specs.Flows.{IsOfOneClass}
use Rattle.c_types.specs.Sound.{IsWellFormed}
use Rattle.c_types.specs.Widths as widths
use Rattle.c_types.specs.Widths.{before, cured_distance}
use Rattle.integers.specs.Words.{word}
use Rattle.integers.specs.Arithmetic.{IntegerType}
use Rattle.integers.specs.Operators.{product_words}
use Rattle.integers.proofs.SignedLaws.{sum-word, difference-word}
use Rattle.integers.proofs.WordLaws.{word-below}
use Rattle.runs.specs.Outcome.{Outcome, Done, done, leaves, from, Matches, ◌>>◌}
use Rattle.runs.specs.Control.{Goes}
use Rattle.flat_mem.specs.Bytes.{IsAccessSize, bytes_at}
use Rattle.flat_mem.specs.Memory as flat_memory
use Rattle.src_mem.specs.Pointers.{Location, Pointer, At, Value, Address, distance}
use Rattle.src_mem.specs.State as source
use Rattle.src_mem.specs.State.{Setting}
use Rattle.src_mem.specs.Checks.{Condition, Move, HasBase, InSequence, conditions_of, holds, all_placed}
use Rattle.src_mem.specs.Primitives.{move}
use Rattle.src_mem.specs.Operations.{amount, node_of_shape, pointee_of_shape}
use Rattle.src_mem.specs.Values.{moved_value}
use Rattle.src_mem.specs.Outlines.{outlines_of, lives_of}
use Rattle.src_mem.specs.Facts.{IsValueOf, IsSequenceAt, IsMade, Reaches, IsHeldIn, IsHeldBy}
use Rattle.facts_kept.specs.Kept.{AllHold}
use Rattle.facts_kept.proofs.Moves.{seq-moved}
use Rattle.cil_form.specs.declared.number.Temp.{Temp}
use Rattle.cil_form.specs.declared.instr.Direction as code_direction
use Rattle.cil_form.specs.declared.instr.Direction.TheVariants as direction
use Rattle.cil_form.specs.declared.instr.Point.TheVariants as point
use Rattle.cil_form.specs.declared.instr.Instr.TheVariants as instr
use Rattle.cil_form.specs.State as code
use Rattle.cil_form.specs.State.{with_temp, beside}
use Rattle.cil_form.specs.Meaning as meaning
use Rattle.cil_form.specs.Meaning.{is_backward}
use Rattle.cured_code.specs.declared.parts.Parts.{Parts}
use Rattle.cured_code.specs.FlatState as flat
use Rattle.cured_code.specs.FlatState.{slot, with_slot}
use Rattle.cured_code.specs.FlatMachine.{Context, run}
use Rattle.check_forms.specs.declared.slots.Work.{Work}
use Rattle.check_forms.specs.declared.slots.PointerSlots.{PointerSlots}
use Rattle.check_forms.specs.declared.slots.Distance.{Distance}
use Rattle.check_forms.specs.declared.slots.Distance.TheVariants.{Bytes, Elements}
use Rattle.check_forms.specs.declared.slots.Direction.{Direction}
use Rattle.check_forms.specs.declared.slots.Direction.TheVariants.{Forward, Backward}
use Rattle.check_forms.specs.declared.op.Factor.{Factor}
use Rattle.check_forms.specs.declared.op.Factor.TheVariants.{Any, Signed, Unsigned}
use Rattle.check_forms.specs.declared.op.Reach.{Reach}
use Rattle.check_forms.specs.Pieces.{Line, Then}
use Rattle.check_forms.specs.Conditions.{IsNear, IsNotZero, moved, distance_of}
use Rattle.check_forms.specs.Lines.{IsOther, AreApart, AreHeld, test_of}
use Rattle.check_forms.specs.Tests.{slots_behind}
use Rattle.check_forms.specs.Rows.{Asked, asked, factor_asked, near}
use Rattle.check_forms.specs.RowChecks.{AreChecks, AreAllApart, AreAllHeld, AreSafe, first_false, slots_after}
use Rattle.check_forms.proofs.ConditionLaws.{IsReady, ready-same, held-same, kept, moved-to}
use Rattle.sim_relation.specs.Ground.{Ground, place, pointer_words, first_word, second_word, third_word, word_number}
use Rattle.sim_relation.specs.Points.{Knowledge, AreWords, Exact}
use Rattle.sim_checks.specs.Rows.{IsChecked}
use Rattle.sim_checks.specs.Moving.{steps, IsFactor, IsDistance, IsMoved}
use Rattle.sim_checks.proofs.Distances.{times-neg, product-word}
use Rattle.sim_checks.proofs.Moves.{moves-compared}
use Rattle.sim_checks.proofs.Pointing.{base-compared}
use Rattle.sim_checks.proofs.Sequences.{long}
use Rattle.cure_rules.specs.Slots.{AreSlots, Size, Moved, slot_of, work_of}
use Rattle.cure_rules.specs.Known as rules
use Rattle.cure_rules.specs.Known.{Takes, IsPointer, copies, pointer_slots}
use Rattle.cure_rules.specs.Checks.{Seat, Need, number_at, factor_needs, distance_needs, near_needs, AreGot, IsGuarded, move_by, direction_of, factor_by, factor_at, distance_at, reach_at}
use Rattle.cure_rules.specs.Pointing.{moved_words, IsCuringPoint}
use Rattle.cure_rules.specs.Code.{Blocks}
use Rattle.sim_laws.specs.Scenes.{Scene, Running, setting_of, world_of, around_of, context_of}
use Rattle.sim_laws.specs.Points.{IsLasting, IsPlainType, ground_of}
use Rattle.sim_laws.specs.Statements.{Lines, CodeOutcome, FlatOutcome, StatesEndAlike, Match, Follows}
use Rattle.sim_laws.proofs.Points.{same-slots}
use Rattle.sim_laws.proofs.Guards.{lasting-other, ready}
use Rattle.sim_laws.proofs.Giving.{Gave, Changed, changed-more, column-room}
use Rattle.sim_laws.proofs.Names.{Names, pointer-asked}
use Rattle.sim_laws.proofs.Sets.{Copied, copied, alone, settled-apart, words-more}
use Rattle.sim_laws.proofs.Rows.{HoldsRow, gives-pointer, comes-same}
use Rattle.sim_laws.proofs.Calculations.{Operand, exactly}
use Rattle.sim_laws.proofs.Checks.{AreThere, AreOfRoles, AllStop, Guarded, StopsAlike, guarded, guard-gives, stops-then, stops-together, one-placed, none-false, first-lasting}
use Rattle.sim_laws.proofs.Reaching.{Pointed, pointed, first-lasts, based-at, checked-words}
use Rattle.sim_laws.proofs.Accessing.{all-held}
use Rattle.sim_laws.proofs.Storing.{as-address, known-words}
use Rattle.sim_laws.proofs.Ordering.{stair-moved, made-distance}

-- How far

steps-are : (way : code_direction.Direction) (z : ℤ) → amount (is_backward way) z ≡ steps (direction_of way) z
steps-are direction.Forward z = refl
steps-are direction.Backward z = refl

module _ (w : Setting) (sound : IsWellFormed w.table) (t : TypeId) (complete : IsComplete w.table t) where
  -- the first word of a pointer that has moved
  moved-first : (number_of : TypeId → ℕ) (gr : Ground) → gr.table ≡ w.table → gr.kind ≡ w.kind → (l : Location) → IsOfOneClass w.table w.kind l.made t → (k : ℤ) → (way : Direction) (z : ℤ)
      → k ≡ steps way z
      → first_word gr Seq (At (record l { offset = l.offset +ℤ k *ℤ pos (size_of w.table t) })) ≡ moved way (first_word gr Seq (At l)) (word (z *ℤ pos (widths.cured_size w.table w.kind t)))
  moved-first number_of gr tables kinds l class k way z is =
      ap (λ (x : ℤ). word (pos (place gr l.object l.part.low) +ℤ x)) far
      ∙ sym (moves way (pos (place gr l.object l.part.low)) (cured_distance w.table w.kind l.made (distance l)) is)
      ∙ ap (λ (x : ℤ). moved way (word (pos (place gr l.object l.part.low) +ℤ x)) (word (z *ℤ pos M))) (sym (gone (distance l)))
    where
      M : ℕ
      M = widths.cured_size w.table w.kind t

      gone : (d : ℤ) → cured_distance gr.table gr.kind l.made d ≡ cured_distance w.table w.kind l.made d
      gone d = ap (λ x. cured_distance x gr.kind l.made d) tables ∙ ap (λ x. cured_distance w.table x l.made d) kinds

      assoc : (a x y : ℤ) → (a +ℤ x) +ℤ y ≡ a +ℤ (x +ℤ y)
      assoc a x y = omega (arith, ints)

      less : (a x y : ℤ) → (a +ℤ x) -ℤ y ≡ a +ℤ (x +ℤ neg_ℤ y)
      less a x y = omega (arith, ints)

      moves : (way : Direction) (a x : ℤ) → k ≡ steps way z → moved way (word (a +ℤ x)) (word (z *ℤ pos M)) ≡ word (a +ℤ (x +ℤ k *ℤ pos M))
      moves Forward a x e = sum-word (a +ℤ x) (z *ℤ pos M) ∙ ap word (assoc a x (z *ℤ pos M) ∙ ap (λ (y : ℤ). a +ℤ (x +ℤ y *ℤ pos M)) (sym e))
      moves Backward a x e =
          difference-word (a +ℤ x) (z *ℤ pos M)
          ∙ ap word (less a x (z *ℤ pos M) ∙ ap (λ (y : ℤ). a +ℤ (x +ℤ y)) (sym (times-neg z M)) ∙ ap (λ (y : ℤ). a +ℤ (x +ℤ y *ℤ pos M)) (sym e))

      behind : (a b : ℤ) (c : ℕ) → (a +ℤ b) -ℤ pos c ≡ (a -ℤ pos c) +ℤ b
      behind a b c = omega (arith, ints)

      some : 0 < length (cells_of w.table t)
      some = let e = long w sound t complete in let h = (sound.sized t complete).some in omega (arith, e, h)

      far : cured_distance gr.table gr.kind l.made (distance (record l { offset = l.offset +ℤ k *ℤ pos (size_of w.table t) }))
          ≡ cured_distance w.table w.kind l.made (distance l) +ℤ k *ℤ pos M
      far =
          gone (distance (record l { offset = l.offset +ℤ k *ℤ pos (size_of w.table t) }))
          ∙ ap (cured_distance w.table w.kind l.made) (behind l.offset (k *ℤ pos (size_of w.table t)) l.part.low
          ∙ ap (λ (n : ℕ). distance l +ℤ k *ℤ pos n) (sym (long w sound t complete)))
          ∙ made-distance w sound t complete l.made class (distance l +ℤ k *ℤ pos (length (cells_of w.table t)))
          ∙ stair-moved (before w.kind (cells_of w.table t)) (length (cells_of w.table t)) M some (distance l) k
          ∙ ap (λ (x : ℤ). x +ℤ k *ℤ pos M) (sym (made-distance w sound t complete l.made class (distance l)))

-- What the lines of a move leave

-- the slot that a pointer moves in holds the address that it moves to, behind whatever conditions come first
moved-last : (n : ℕ) (k : Work) (parts : Parts) (m : flat_memory.Memory) (xs : List Asked) (at : Place) (p : PointerSlots) (way : Direction) (d : Distance) (reach : Reach) (e : ℕ → ℕ)
    → IsReady n k e → AreApart k (IsNear p way d reach.least reach.span) → AreHeld e (IsNear p way d reach.least reach.span)
    → slots_after k parts m (xs ++ near p way d reach at ∷ []) e k.to ≡ moved way (e p.first) (distance_of d e)
moved-last n k parts m [] at p way d reach e r o h = moved-to n k parts m p way d reach.least reach.span e r o h
moved-last n k parts m (x ∷ xs) at p way d reach e r o h =
    moved-last n k parts m xs at p way d reach (slots_behind parts m (test_of k x.condition) e) (ready-same n k e _ r others) o
    (held-same k (IsNear p way d reach.least reach.span) e _ others o h)
    ∙ same d (others p.first o.0) o
  where
    others : (a : ℕ) → IsOther k a → slots_behind parts m (test_of k x.condition) e a ≡ e a
    others a other = kept k parts m x.condition e a other

    same : (d : Distance) → slots_behind parts m (test_of k x.condition) e p.first ≡ e p.first → AreApart k (IsNear p way d reach.least reach.span)
        → moved way (slots_behind parts m (test_of k x.condition) e p.first) (distance_of d (slots_behind parts m (test_of k x.condition) e)) ≡ moved way (e p.first) (distance_of d e)
    same (Bytes i) f o = ap (λ (y : ℕ). moved way y (slots_behind parts m (test_of k x.condition) e i)) f ∙ ap (moved way (e p.first)) (others i o.1.1.1.1.0)
    same (Elements i size) f o =
        ap (λ (y : ℕ). moved way y (product_words (slots_behind parts m (test_of k x.condition) e i) size.value)) f
        ∙ ap (λ (y : ℕ). moved way (e p.first) (product_words y size.value)) (others i o.1.1.1.1.0)

-- the product of the integer and the size
moved-distance : (size n : ℕ) (d : Distance) (e : ℕ → ℕ) (z : ℤ) → IsDistance n size d → e n ≡ word z → distance_of d e ≡ word (z *ℤ pos size)
moved-distance size n (Bytes m) e z h is = ap e h.0 ∙ is ∙ ap word (one z ∙ ap (λ (k : ℕ). z *ℤ pos k) (sym h.1))
  where
    one : (z : ℤ) → z ≡ z *ℤ pos 1
    one z = omega (arith, ints)
moved-distance size n (Elements m f) e z h is =
    ap (λ (k : ℕ). product_words (e k) f.value) h.0 ∙ ap (λ (k : ℕ). product_words k f.value) is ∙ ap (product_words (word z)) h.1 ∙ product-word z size

-- The numbers of a move

-- the rest of what is needed behind BASE
abbrev move_needs : Factor → Distance → Reach → List Need
move_needs factor d reach = factor_needs factor ++ distance_needs d ++ near_needs reach

abbrev move_asks : PointerSlots → Factor → ℕ → Direction → Distance → Reach → Place → List Asked
move_asks p factor n way d reach at = factor_asked factor n at ++ near p way d reach at ∷ []

move-roles : (factor : Factor) (d : Distance) (reach : Reach) → AreOfRoles (move_needs factor d reach)
move-roles Any (Bytes n) reach = (refl, (refl, tt), (refl, tt, tt))
move-roles Any (Elements n f) reach = (refl, (refl, (refl, tt)), (refl, (refl, tt), (refl, tt, tt)))
move-roles (Signed low span) (Bytes n) reach = (refl, (refl, (refl, (refl, tt))), (refl, (refl, (refl, tt)), (refl, (refl, tt), (refl, tt, tt))))
move-roles (Signed low span) (Elements n f) reach =
    (refl, (refl, (refl, (refl, (refl, tt)))), (refl, (refl, (refl, (refl, tt))), (refl, (refl, (refl, tt)), (refl, (refl, tt), (refl, tt, tt)))))
move-roles (Unsigned bound) (Bytes n) reach = (refl, (refl, (refl, tt)), (refl, (refl, tt), (refl, tt, tt)))
move-roles (Unsigned bound) (Elements n f) reach = (refl, (refl, (refl, (refl, tt))), (refl, (refl, (refl, tt)), (refl, (refl, tt), (refl, tt, tt))))

-- what they read is there
pub record MoveReady (k : Work) (p : PointerSlots) (n : ℕ) (factor : Factor) (way : Direction) (d : Distance) (reach : Reach) (at : Place) (e : ℕ → ℕ) : Type 0 where
  apart : AreAllApart k (move_asks p factor n way d reach at)
  held : AreAllHeld e (move_asks p factor n way d reach at)
  far : AreApart k (IsNear p way d reach.least reach.span)
  far_held : AreHeld e (IsNear p way d reach.least reach.span)

move-ready : (w : Scene) (d : flat.Local) (p : PointerSlots) (n i : ℕ) (factor : Factor) (way : Direction) (far : Distance) (reach : Reach) (at : Place) (size : ℕ)
    → IsOther (work_of w.slots) p.first → IsOther (work_of w.slots) p.second → IsOther (work_of w.slots) n → IsDistance n size far → AreThere w d (move_needs factor far reach)
    → MoveReady (work_of w.slots) p n factor way far reach at (slot d)
move-ready w d p n i Any way (Bytes m) reach at size o q r is t =
    let f = subst (IsOther (work_of w.slots)) (sym is.0) r in record {
      apart = ((o, (q, (t.1, (t.2.1, (f, tt))))), tt);
      held = ((t.0, t.2.0, tt), tt);
      far = (o, (q, (t.1, (t.2.1, (f, tt)))));
      far_held = (t.0, t.2.0, tt);
    }
move-ready w d p n i Any way (Elements m size') reach at size o q r is t =
    let f = subst (IsOther (work_of w.slots)) (sym is.0) r in record {
      apart = ((o, (q, (t.2.1, (t.2.2.1, (f, (t.1, tt)))))), tt);
      held = ((t.2.0, t.2.2.0, t.0), tt);
      far = (o, (q, (t.2.1, (t.2.2.1, (f, (t.1, tt))))));
      far_held = (t.2.0, t.2.2.0, t.0);
    }
move-ready w d p n i (Signed low span) way (Bytes m) reach at size o q r is t =
    let f = subst (IsOther (work_of w.slots)) (sym is.0) r in record {
      apart = ((r, (t.1, (t.2.1, tt))), ((o, (q, (t.2.2.1, (t.2.2.2.1, (f, tt))))), tt));
      held = ((t.0, t.2.0), ((t.2.2.0, t.2.2.2.0, tt), tt));
      far = (o, (q, (t.2.2.1, (t.2.2.2.1, (f, tt)))));
      far_held = (t.2.2.0, t.2.2.2.0, tt);
    }
move-ready w d p n i (Signed low span) way (Elements m size') reach at size o q r is t =
    let f = subst (IsOther (work_of w.slots)) (sym is.0) r in record {
      apart = ((r, (t.1, (t.2.1, tt))), ((o, (q, (t.2.2.2.1, (t.2.2.2.2.1, (f, (t.2.2.1, tt)))))), tt));
      held = ((t.0, t.2.0), ((t.2.2.2.0, t.2.2.2.2.0, t.2.2.0), tt));
      far = (o, (q, (t.2.2.2.1, (t.2.2.2.2.1, (f, (t.2.2.1, tt))))));
      far_held = (t.2.2.2.0, t.2.2.2.2.0, t.2.2.0);
    }
move-ready w d p n i (Unsigned bound) way (Bytes m) reach at size o q r is t =
    let f = subst (IsOther (work_of w.slots)) (sym is.0) r in record {
      apart = ((r, (t.1, tt)), ((o, (q, (t.2.1, (t.2.2.1, (f, tt))))), tt));
      held = (t.0, ((t.2.0, t.2.2.0, tt), tt));
      far = (o, (q, (t.2.1, (t.2.2.1, (f, tt)))));
      far_held = (t.2.0, t.2.2.0, tt);
    }
move-ready w d p n i (Unsigned bound) way (Elements m size') reach at size o q r is t =
    let f = subst (IsOther (work_of w.slots)) (sym is.0) r in record {
      apart = ((r, (t.1, tt)), ((o, (q, (t.2.2.1, (t.2.2.2.1, (f, (t.2.1, tt)))))), tt));
      held = (t.0, ((t.2.2.0, t.2.2.2.0, t.2.0), tt));
      far = (o, (q, (t.2.2.1, (t.2.2.2.1, (f, (t.2.1, tt))))));
      far_held = (t.2.2.0, t.2.2.2.0, t.2.0);
    }

move-safe : (parts : Parts) (m : flat_memory.Memory) (e : ℕ → ℕ) (p : PointerSlots) (n : ℕ) (factor : Factor) (way : Direction) (d : Distance) (reach : Reach) (at : Place)
    → AreSafe parts m (move_asks p factor n way d reach at) e
move-safe parts m e p n Any way d reach at = (tt, λ q. tt)
move-safe parts m e p n (Signed low span) way d reach at = (tt, λ q. (tt, λ q. tt))
move-safe parts m e p n (Unsigned bound) way d reach at = (tt, λ q. (tt, λ q. tt))

move-stops : (p : PointerSlots) (n : ℕ) (factor : Factor) (way : Direction) (d : Distance) (reach : Reach) (at : Place) → AllStop check.Range at (move_asks p factor n way d reach at)
move-stops p n Any way d reach at = (refl, refl, tt)
move-stops p n (Signed low span) way d reach at = (refl, refl, (refl, refl, tt))
move-stops p n (Unsigned bound) way d reach at = (refl, refl, (refl, refl, tt))

factor-is : (seat : Seat) (i : IntegerType) (size : ℕ) → IsFactor i size (factor_at seat i size)
factor-is seat i size = by (nat_le i.bytes 4) refl i.signed refl
  where
    by : (q : Bool) → nat_le i.bytes 4 ≡ q → (r : Bool) → i.signed ≡ r → IsFactor i size (factor_by seat q r size)
    by true e r f = less i.bytes e
      where
        less : (n : ℕ) → nat_le n 4 ≡ true → n ≤ 4
        less n h = grind (arith, nat_tests)
    by false e true f = (f, refl, refl)
    by false e false f = (f, refl)

distance-at : (seat : Seat) (n size : ℕ) → IsDistance n size (distance_at seat n size)
distance-at seat n size = by (nat_eq size 1) refl
  where
    by : (q : Bool) → nat_eq size 1 ≡ q → IsDistance n size (if q then Bytes n else Elements n (number_at seat Size size))
    by true e = (refl, one size e)
      where
        one : (n : ℕ) → nat_eq n 1 ≡ true → n ≡ 1
        one n h = grind (arith, nat_tests)
    by false e = (refl, refl)

-- The words

-- a new first word, and the others as they were
record MovedRow (ctx : Context) (c : flat.Local) (v a to : ℕ) : Type 0 where
  slots : List ℕ
  runs : run (moved_words Seq v a to) ctx c ≡ Done Goes (record c { slots = slots })
  changed : Changed 3 v c.slots slots
  is : bytes_at 3 slots v ≡ slot c to ∷ bytes_at 2 c.slots (a + 1)

moved-row : (ctx : Context) (c : flat.Local) (v a to : ℕ) → v + 3 ≤ length c.slots → ((i j : ℕ) → i < j → j < 3 → a + j ≡ v + i → ⊥) → MovedRow ctx c v a to
unfolding bytes_at
moved-row ctx c v a to room apart = of (copied ctx (with_slot v (slot c to) c) 2 (v + 1) (a + 1) (let e = length-set c.slots v (slot c to) in omega (arith, room, e)))
  where
    of : Copied ctx (with_slot v (slot c to) c) 2 (v + 1) (a + 1) → MovedRow ctx c v a to
    of h = record {
      slots = h.by.slots;
      runs = alone ctx (with_slot v (slot c to) c) (copies 2 (v + 1) (a + 1)) 2 (v + 1) h.by;
      changed = changed-more 2 v (slot c to) c.slots h.by.slots h.by.changed;
      is = ap (λ (n : ℕ). n ∷ bytes_at 2 h.by.slots (v + 1))
          (h.by.changed.others v (λ j less e. omega (arith, e)) ∙ get_or-set_same c.slots v (slot c to) 0 (omega (arith, room)))
          ∙ ap (λ (ns : List ℕ). slot c to ∷ ns) (h.values (λ i j less m e. apart (suc i) (suc j) (omega (arith, less)) (omega (arith, m)) (omega (arith, e)))
          ∙ same-slots 2 (a + 1) c.slots (slice_set c.slots v (slot c to))
          (λ j less. get_or-set_other c.slots v (a + 1 + j) (slot c to) 0 (λ e. apart 0 (suc j) (omega arith) (omega (arith, less)) (omega (arith, e)))));
    }

tail-of : (a : ℕ) (slots : List ℕ) {x y z : ℕ} → bytes_at 3 slots a ≡ x ∷ y ∷ z ∷ [] → bytes_at 2 slots (a + 1) ≡ y ∷ z ∷ []
unfolding bytes_at
tail-of a slots h = cc (h)

tail-words : (n : ℕ) (ns : List ℕ) → AreWords (n ∷ ns) → AreWords ns
tail-words n ns h = record { below = λ m i. h.below m (suc i.0, (let l = i.1 in omega (arith, l)), i.2) }

-- THE LAW OF MOVES
pub move-follows : (w : Scene) (names : Names w) (g : AreSlots w.slots) (b : Running) (into p n : Temp) (way : code_direction.Direction) (t : TypeId) (at : Place) (known after : Knowledge)
    (blocks : Blocks) (lines : Lines) → ((m : NodeId) (u : TypeId) → IsPointer (world_of w) t m u → w.programs.whole.kind m ≡ Seq)
    → IsCuringPoint (point.Move into p n way t at) (world_of w) known after lines
    → Follows w g b blocks known after (meaning.act (instr.Point (point.Move into p n way t at)) (around_of w b)) lines
unfolding Line Then
move-follows w names g b into p n way t at known after blocks lines sequence
    (m, u, a, sure, i, d, seat, pointer, complete, points, exact, takes, (first, last, guard, last_is, lines_is), leave) l c point =
    subst (λ (v : Value). Match w g b after blocks (given (moved_value S at (is_backward way) t v (l.temps n) l.state)) (run lines (context_of w b) c)) (sym q.value)
    (subst (λ (v : Value). Match w g b after blocks (given (moved_value S at (is_backward way) t (Address q.pointer) v l.state)) (run lines (context_of w b) c)) (sym o.value)
    (subst (λ (h : TypeShape). Match w g b after blocks (given (shaped h)) (run lines (context_of w b) c)) (sym pointer)
    (subst (λ (k : Kind). Match w g b after blocks (given (of_kind k)) (run lines (context_of w b) c)) (sym is)
    (subst (λ (js : Lines). Match w g b after blocks (given (F (all_placed S (λ x. at) conditions l.state))) (run js (context_of w b) c)) (sym lines_is)
    (subst (λ (y : FlatOutcome). Match w g b after blocks (given (F (all_placed S (λ x. at) conditions l.state))) y) (sym (z.runs last))
    (guard-gives w g b known after blocks into l z.after z.point stop (all_placed S (λ x. at) conditions l.state) alike F (λ e s. refl) last gives))))))
  where
    S : Setting
    S = setting_of w.programs

    is : w.programs.whole.kind m ≡ Seq
    is = sequence m u pointer

    q : Pointed w g b l c p m u a
    q = pointed w g b known l c point p m u a sure (as-address known p m u a sure points)

    o : Operand l c n i d Exact
    o = exactly w g b known l c point n i d exact

    k : ℤ
    k = amount (is_backward way) o.z

    size : ℕ
    size = w.programs.whole.size u

    size_is : w.programs.whole.size u ≡ widths.cured_size w.programs.whole.table w.programs.whole.kind u
    size_is = names.sizes.size u complete

    factor : Factor
    factor = factor_at seat i (w.programs.whole.size u)

    far : Distance
    far = distance_at seat d (w.programs.whole.size u)

    reach : Reach
    reach = reach_at seat Seq (w.programs.whole.size u)

    given : Outcome source.Ending source.State Value → CodeOutcome
    given y = from (beside l.temps y) (λ v. leaves (λ (x : code.Local). record x { temps = with_temp into v x.temps }) >> done Goes)

    shaped : TypeShape → Outcome source.Ending source.State Value
    shaped h = from (from (all_placed S (λ x. at) (conditions_of (Move (size_of w.programs.whole.table (pointee_of_shape h)) (amount (is_backward way) o.z)) (w.programs.whole.kind (node_of_shape h)) q.pointer) l.state)
        (λ x. move (size_of w.programs.whole.table (pointee_of_shape h)) (amount (is_backward way) o.z) q.pointer)) (λ y. done (Address y))

    of_kind : Kind → Outcome source.Ending source.State Value
    of_kind k = from (from (all_placed S (λ x. at) (conditions_of (Move (size_of w.programs.whole.table u) (amount (is_backward way) o.z)) k q.pointer) l.state)
        (λ x. move (size_of w.programs.whole.table u) (amount (is_backward way) o.z) q.pointer)) (λ y. done (Address y))

    F : Outcome source.Ending source.State (Unit {0}) → Outcome source.Ending source.State Value
    F y = from (from y (λ x. move (size_of w.programs.whole.table u) (amount (is_backward way) o.z) q.pointer)) (λ y. done (Address y))

    conditions : List Condition
    conditions = HasBase q.pointer ∷ InSequence (size_of w.programs.whole.table u) (amount (is_backward way) o.z) q.pointer ∷ []

    needs : List Need
    needs = move_needs factor far reach

    asks : List Asked
    asks = asked check.Base at (IsNotZero (a + 1)) ∷ move_asks (pointer_slots a) factor d (direction_of way) far reach at

    guarding : Then (AreGot (world_of w) needs) (AreChecks (work_of w.slots) asks) first
    guarding = subst (λ (k : Kind). IsGuarded (world_of w) (move_by (world_of w) seat k u (pointer_slots a) way i d) k at first) is guard

    words : (j : ℕ) → j < 3 → IsLasting (g.owner (a + j))
    words j less = q.lasting j (subst (λ (k : Kind). j < word_number k) (sym is) less)

    a_other : IsOther (work_of w.slots) a
    a_other = lasting-other w g a (first-lasts w g b l c p m u a q)

    d_lasts : IsLasting (g.owner d)
    d_lasts = let h = exact in first-lasting w g b known l c point n h.0 h.1 d h.3

    move_is_ready : (e : flat.Local) → AreThere w e needs → MoveReady (work_of w.slots) (pointer_slots a) d factor (direction_of way) far reach at (slot e)
    move_is_ready e there = move-ready w e (pointer_slots a) d 0 factor (direction_of way) far reach at (w.programs.whole.size u) a_other
        (lasting-other w g (a + 1) (words 1 (omega arith))) (lasting-other w g d d_lasts) (distance-at seat d (w.programs.whole.size u)) there

    z : Guarded w g b known l needs asks first c
    z = guarded w g b known l needs asks first c point (move-roles factor far reach) guarding
        (λ e passed there. record {
          apart = (lasting-other w g (a + 1) (words 1 (omega arith)), (move_is_ready e there).apart);
          held = (tt, (move_is_ready e there).held);
          safe = (tt, λ x. move-safe w.programs.parts c.state.memory (slot e) (pointer_slots a) d factor (direction_of way) far reach at);
        })

    stop : Option Asked
    stop = first_false w.programs.parts c.state.memory asks (slot z.middle)

    checked : IsChecked S w.programs.whole.node l.state c.state b.depth Seq u q.pointer (slot z.middle) (pointer_slots a)
    checked = subst (λ (k : Kind). IsChecked S w.programs.whole.node l.state c.state b.depth k u q.pointer (slot z.middle) (pointer_slots a)) is
        (checked-words w g b known l c z.middle point z.passed p m u a q)

    plain : IsAccessSize i.bytes
    plain = let h = exact in subst IsPlainType h.2 (point.settled n h.0 h.1).plain

    moves : IsMoved i o.z (widths.cured_size w.programs.whole.table w.programs.whole.kind u) d factor far (slot z.middle)
    moves = subst (λ (x : ℕ). IsMoved i o.z x d factor far (slot z.middle)) size_is (record {
      bytes = plain;
      fits = o.range;
      stands = z.passed.others d d_lasts ∙ o.holds;
      factored = factor-is seat i (w.programs.whole.size u);
      apart = distance-at seat d (w.programs.whole.size u);
    })

    alike : StopsAlike stop (all_placed S (λ x. at) conditions l.state) l.state
    alike = stops-then w.programs.parts c.state.memory (slot z.middle) S (λ x. at) l.state (asked check.Base at (IsNotZero (a + 1)))
        (move_asks (pointer_slots a) factor d (direction_of way) far reach at) (HasBase q.pointer) (InSequence (size_of w.programs.whole.table u) (amount (is_backward way) o.z) q.pointer ∷ [])
        refl refl (base-compared S w.programs.whole.node l.state c.state w.programs.parts b.depth u q.pointer (slot z.middle) (pointer_slots a) checked)
        (λ base. subst (λ (y : Outcome source.Ending source.State (Unit {0})). StopsAlike (first_false w.programs.parts c.state.memory
        (move_asks (pointer_slots a) factor d (direction_of way) far reach at) (slot z.middle)) y l.state)
        (sym (one-placed S (λ x. at) (InSequence (size_of w.programs.whole.table u) (amount (is_backward way) o.z) q.pointer) l.state))
        (stops-together w.programs.parts c.state.memory (slot z.middle) S l.state at (move_asks (pointer_slots a) factor d (direction_of way) far reach at)
        (InSequence (size_of w.programs.whole.table u) (amount (is_backward way) o.z) q.pointer) (move-stops (pointer_slots a) d factor (direction_of way) far reach at)
        (none-false w.programs.parts c.state.memory (move_asks (pointer_slots a) factor d (direction_of way) far reach at) (slot z.middle)
        ∙ moves-compared S w.programs.whole.node l.state c.state w.programs.parts b.depth u names.solved.well_formed complete q.pointer (slot z.middle) (pointer_slots a) i o.z
        (direction_of way) d factor far reach at checked base moves (ap (λ (x : ℕ). 2 ^ 31 * x) size_is) (ap (λ (x : ℕ). 2 ^ 32 * x + x) size_is)
        ∙ ap (λ (x : ℤ). holds S l.state.memory (InSequence (size_of w.programs.whole.table u) x q.pointer)) (sym (steps-are way o.z)))))

    -- the pointer at the point behind the check
    later : Pointed w g b l z.after p m u a
    later = pointed w g b known l z.after z.point p m u a sure (as-address known p m u a sure points)

    later_is : later.pointer ≡ q.pointer
    later_is = let e : Address later.pointer ≡ Address q.pointer = sym later.value ∙ q.value in cc (e)

    gives : stop ≡ None → Matches (Gave w g b known after into l z.after) (λ e s x y. StatesEndAlike w.programs e s x y.state) (F (Done tt l.state)) (run last (context_of w b) z.after)
    gives none = at_object (based-at q.pointer held_conditions.0)
      where
        held_conditions : AllHold S l.state.memory conditions
        held_conditions = all-held S (λ x. at) conditions l.state (subst (λ (y : Option Asked). StopsAlike y (all_placed S (λ x. at) conditions l.state) l.state) none alike)

        at_object : (x : Location) × (q.pointer ≡ At x)
            → Matches (Gave w g b known after into l z.after) (λ e s x y. StatesEndAlike w.programs e s x y.state) (F (Done tt l.state)) (run last (context_of w b) z.after)
        at_object (x, at_x) =
            subst (λ (y : Pointer). Matches (Gave w g b known after into l z.after) (λ e s x y. StatesEndAlike w.programs e s x y.state)
            (from (move (size_of w.programs.whole.table u) k y l.state) (λ y. done (Address y))) (run last (context_of w b) z.after)) (sym at_x)
            (subst (λ (js : Lines). Goal (run js (context_of w b) z.after)) (sym lines_are)
            (subst Goal (sym row.runs)
            (gives-pointer w g b known after into l z.after l.state (record z.after { slots = row.slots }) m u y
            (comes-same w g b known into l z.after row.slots m y z.point takes
            (subst AreWords (sym words_are) below)
            (subst (λ (ws : List ℕ). HoldsRow (word_number (w.programs.whole.kind m)) (w.slots.column into) ws z.after.slots row.slots) (sym words_are)
            (subst (λ (j : Kind). HoldsRow (word_number j) (w.slots.column into) (new ∷ second ∷ third ∷ []) z.after.slots row.slots) (sym is)
            (record { changed = row.changed; is = row.is ∙ row_is })))) is_held (pointer-asked w names t m u pointer) leave)))
          where
            y : Pointer
            y = At (record x { offset = x.offset +ℤ k *ℤ pos (size_of w.programs.whole.table u) })

            Goal : FlatOutcome → Type 0
            Goal f = Matches (Gave w g b known after into l z.after) (λ e s x y. StatesEndAlike w.programs e s x y.state) (Done (Address y) l.state) f

            gr : Ground
            gr = ground_of w.programs l.state z.after.state

            value : IsSequenceAt S (outlines_of l.state.memory) u x
            value = subst (λ (j : Pointer). IsValueOf S (outlines_of l.state.memory) Seq u j) at_x checked.held.value

            lines_are : last ≡ moved_words Seq (w.slots.column into) a (slot_of w.slots Moved)
            lines_are = last_is ∙ ap (λ (j : Kind). moved_words j (w.slots.column into) a (slot_of w.slots Moved)) is

            row : MovedRow (context_of w b) z.after (w.slots.column into) a (slot_of w.slots Moved)
            row = moved-row (context_of w b) z.after (w.slots.column into) a (slot_of w.slots Moved)
                (let r = column-room w g into 3 (subst (λ (j : Kind). Takes (world_of w) into (word_number j)) is takes) (omega arith) in let e = z.point.count in omega (arith, r, e)) apart
              where
                apart : (i j : ℕ) → i < j → j < 3 → a + j ≡ w.slots.column into + i → ⊥
                apart i j less few e = let h = points in settled-apart w g into p h.0 a (point.settled p h.0 h.1) h.3
                    (subst (λ (n : ℕ). Takes (world_of w) into n) (sym (ap (rules.held_words w.programs.whole) h.2)) takes) i j less
                    (let f : rules.held_words w.programs.whole h.0.type ≡ 3 = ap (rules.held_words w.programs.whole) h.2 ∙ ap word_number is in omega (arith, few, f)) e

            new : ℕ
            new = first_word gr Seq y

            second : ℕ
            second = second_word gr Seq (At x)

            third : ℕ
            third = third_word gr (At x)

            words_are : pointer_words gr (w.programs.whole.kind m) y ≡ new ∷ second ∷ third ∷ []
            words_are = ap (λ (j : Kind). pointer_words gr j y) is

            -- the words that stay
            old : bytes_at 3 z.after.slots a ≡ first_word gr Seq (At x) ∷ second ∷ third ∷ []
            old = subst (λ (j : Kind). bytes_at (word_number j) z.after.slots a ≡ pointer_words gr j (At x)) is
                (subst (λ (j : Pointer). bytes_at (word_number (w.programs.whole.kind m)) z.after.slots a ≡ pointer_words gr (w.programs.whole.kind m) j) (later_is ∙ at_x) later.words)

            stay : bytes_at 2 z.after.slots (a + 1) ≡ second ∷ third ∷ []
            stay = tail-of a z.after.slots old

            first_is : slot z.middle a ≡ first_word gr Seq (At x)
            first_is = checked.words.0 ∙ ap (λ (s : flat.State). first_word (ground_of w.programs l.state s) Seq q.pointer) (sym z.state) ∙ ap (first_word gr Seq) at_x

            -- and the new one
            there : slot z.after (slot_of w.slots Moved) ≡ new
            there =
                ap (λ (e : ℕ → ℕ). e (slot_of w.slots Moved)) (z.behind none)
                ∙ moved-last (length z.middle.slots) (work_of w.slots) w.programs.parts c.state.memory (asked check.Base at (IsNotZero (a + 1)) ∷ factor_asked factor d at) at (pointer_slots a)
                (direction_of way) far reach (slot z.middle) (ready w g c z.middle point.count point.nought z.passed) (move_is_ready z.middle z.there).far (move_is_ready z.middle z.there).far_held
                ∙ ap (λ (j : ℕ). moved (direction_of way) j (distance_of far (slot z.middle))) first_is
                ∙ ap (moved (direction_of way) (first_word gr Seq (At x)))
                (moved-distance (widths.cured_size w.programs.whole.table w.programs.whole.kind u) d far (slot z.middle) o.z moves.apart moves.stands)
                ∙ sym (moved-first S names.solved.well_formed u complete w.programs.whole.node gr refl refl x value.made k (direction_of way) o.z (steps-are way o.z))

            row_is : slot z.after (slot_of w.slots Moved) ∷ bytes_at 2 z.after.slots (a + 1) ≡ new ∷ second ∷ third ∷ []
            row_is = ap (λ (j : ℕ). j ∷ bytes_at 2 z.after.slots (a + 1)) there ∙ ap (λ (js : List ℕ). new ∷ js) stay

            below : AreWords (new ∷ second ∷ third ∷ [])
            below = words-more new (second ∷ third ∷ []) (word-below _) (tail-words (first_word gr Seq (At x)) (second ∷ third ∷ [])
                (subst (λ (j : Kind). AreWords (pointer_words gr j (At x))) is
                (subst (λ (j : Pointer). AreWords (pointer_words gr (w.programs.whole.kind m) j)) at_x
                (known-words w g b known l z.after z.point p m u a sure points q.pointer q.value))))

            is_held : IsHeldBy S w.programs.sites l.state.memory b.depth m u y
            is_held = record {
              held = subst (λ (j : Kind). IsHeldIn S l.state.memory b.depth j u y) (sym is) (record {
                value = seq-moved S names.solved.well_formed (outlines_of l.state.memory) u k x complete value
                    (subst (λ (j : Pointer). holds S l.state.memory (InSequence (size_of w.programs.whole.table u) k j) ≡ true) at_x held_conditions.1.0);
                reaches = let r = subst (λ (j : Pointer). Reaches (lives_of l.state.memory) b.depth j) at_x q.held.held.reaches in
                    record { life = r.life; found = r.found; live = r.live; older = r.older };
              });
              made = λ told. subst (λ (j : Pointer). IsMade w.programs.sites j) at_x (q.held.made told);
            }
