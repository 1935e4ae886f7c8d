-- What judging refuses of initialisers breaks the rule that is named.
use Rattle.std.proofs.Common.{◌≡◌, ℕ, ◌+◌, nat_le, Bool, true, false, not, ◌&&◌, [], ◌∷◌, ◌++◌, take, Option, Some, None, refl, ap, sym, subst, ◌∙◌, ◌⊎◌, inl, inr, if◌then◌else◌}
use Rattle.std.proofs.lemmas.Option.{none-some}
use Rattle.cc_base.specs.declared.place.Place.{Place}
use Rattle.cc_base.specs.declared.number.TypeId.{TypeId}
use Rattle.cc_base.specs.declared.fault.Fault.{Fault}
use Rattle.cc_base.specs.declared.fault.Fault.TheVariants.{Refused, TooLarge}
use Rattle.cc_base.specs.declared.fault.Limit.TheVariants.{Types, Cells}
use Rattle.cc_base.specs.declared.fault.Rule.{Rule}
use Rattle.cc_base.specs.declared.fault.Rule.TheVariants as rule
use Rattle.c_types.specs.Table.{Table, IsComplete, shape_at}
use Rattle.c_tree.specs.Literals.{pieces_bytes}
use Rattle.c_tree.specs.Places.{expr_place, initialiser_place, nowhere}
use Rattle.c_tree.specs.Tree as tree
use Rattle.c_tree.specs.TypedTree as typed
use Rattle.c_tree.specs.TypedTree.{TypedExpr, TypedInitialiser, TypedItems}
use Rattle.c_tree.specs.TypedParts.{place_type}
use Rattle.c_typing.specs.Cells.{pointers_in, count_cells}
use Rattle.c_typing.specs.Checking
use Rattle.c_typing.specs.Checking.{checked, checked_value}
use Rattle.c_typing.specs.Extensions.{IsExtended}
use Rattle.c_typing.specs.Judging as judging
use Rattle.c_typing.specs.Judging.{State}
use Rattle.c_typing.specs.Refusals.{Fails, After, Refuses}
use Rattle.c_typing.specs.Scopes.{Scopes}
use Rattle.c_typing.specs.Settled.{IsBasic, IsKnown, GoesOn}
use Rattle.c_typing.specs.Shapes.{is_scalar_shape}
use Rattle.c_typing.specs.Tests.{Elaborated, AsPlace, AsValue, AsAllocation, first_broken, broken_at}
use Rattle.c_typing_laws.proofs.ExtensionLaws.{no_true, and_left, and_right, extended_refl}
use Rattle.c_typing_laws.proofs.KnownStates.{stays, goes-on}
use Rattle.c_typing_laws.proofs.Outcomes
use Rattle.c_typing_laws.proofs.RefusedWhole.{checked_value-refuses}
use Rattle.c_typing_laws.proofs.TableGrowth.{extended_trans}
use Rattle.c_unit_typing.specs.Initialisers.{Slot, slot_of_shape, char_count_of_shape, has_count, is_char_array, items_count, is_constant}
use Rattle.c_unit_typing.specs.InitialiserJudging.{text_tests, text, initialised, constant_tests, value_for, value_or_text, judge_excess, judge_all_excess, excess, excess_braces, judge_plain, is_only_literal, item_slot, slot_type, with_item, judge_initialiser, judge_items}
use Rattle.c_unit_typing.specs.Linkage.{Linkage}
use Rattle.c_unit_typing.specs.UnitJudged.{state_of, AreItemsJudged}
use Rattle.c_unit_typing.specs.UnitJudging.{UnitState, Gives, Stops, next, pure, stop, obeying, lifted}
use Rattle.c_unit_typing.specs.UnitRefusals.{Asked, is_constant_part, initialises_type, value_tests, is_too_long, RefusesValue, item_type, IsExcess, AreExcess, RefusesExcess, RefusesAllExcess, RefusesBraces, RefusesInitialiser, RefusesItems}
use Rattle.c_unit_typing.proofs.ConstantParts.{initial-part}
use Rattle.c_unit_typing.proofs.JudgedInitialisers.{slot_is, items-judged}
use Rattle.c_unit_typing.proofs.KeptInitialisers.{complete-in, complete-kept, is_chars-same, scalar-same, slot-complete, slot-same, items-kept}
use Rattle.c_unit_typing.proofs.NameSteps.{some-same}
use Rattle.c_unit_typing.proofs.RefusedTests.{value-stopped, checked-part}
use Rattle.c_unit_typing.proofs.UnitOutcomes.{bind-gives, never-gives, gives-state, lifted-gives}
use Rattle.c_unit_typing.proofs.UnitStops.{never-stops, stops-fault, stops-state, NeverRefused, gives-unrefused, large-unrefused, next-unrefused, lifted-unrefused, IsStopped, stopped-here, stopped-after, stopped-as, stopped-step, stopped-rules, lifted-stops}

-- what is asked of an initialiser where it is judged
abbrev pub asked_at : Bool → UnitState → Asked
asked_at constant s = record { constant = constant; homes = s.linkage.statics }

-- Tests

failed : (b : Bool) (f g : Fault) → (if b then Some f else None) ≡ Some g → b ≡ true
failed true f g h = refl
failed false f g h = absurd (none-some g h)

first_of : (b : Bool) (f g : Fault) (rest : Option Fault) → (if b then Some f else None) ≡ Some g → (if b then Some f else rest) ≡ Some g
first_of true f g rest h = h
first_of false f g rest h = absurd (none-some g h)

initialises_same : (T : Table) (t : TypeId) (x : Elaborated) → Checking.becomes T t x ≡ initialises_type T t x
initialises_same T t (AsPlace p) = refl
initialises_same T t (AsValue e) = refl
initialises_same T t (AsAllocation e) = refl

cells_never : (at : Place) (t : TypeId) (s : State) → Outcomes.NeverRefuses (count_cells at t s)
unfolding count_cells
cells_never at t s = by (nat_le (s.seen.cells + pointers_in s.table t) 65536)
  where
    by : (b : Bool) → Outcomes.NeverRefuses (if b then judging.Gives t (record s { seen = record s.seen { cells = s.seen.cells + pointers_in s.table t } }) else judging.Stops (TooLarge at Cells) s)
    by true = Outcomes.gives-never t (record s { seen = record s.seen { cells = s.seen.cells + pointers_in s.table t } })
    by false = Outcomes.large-never TypeId at Cells s

pure_value : (v : TypedExpr) (s : UnitState) → NeverRefused (pure (typed.Value v) s)
pure_value v s = gives-unrefused (typed.Value v) s

initialised_never : (at : Place) (v : TypedExpr) (s : UnitState) → NeverRefused (initialised at v s)
unfolding initialised
initialised_never at (typed.Unread q) s =
    next-unrefused (lifted (count_cells at (place_type q)) s) (λ c. pure (typed.Copied q at)) (lifted-unrefused (count_cells at (place_type q)) s (cells_never at (place_type q) (state_of s)))
    (λ c m g. gives-unrefused (typed.Copied q at) m)
initialised_never at v s = pure_value v s

with_item_never : (list : TypedItems) (slot : Option Slot) (one : TypedInitialiser) (s : UnitState) → NeverRefused (with_item list slot one s)
unfolding with_item
with_item_never list None one s = large-unrefused TypedItems nowhere Types s
with_item_never list (Some slot) one s = gives-unrefused (typed.AndItem list slot.offset slot.type one) s

abbrev is_string : tree.Expr → Bool
is_string (tree.String pieces) = true
is_string e = false

-- what is no literal for an array of char is a value
value_refused : (T : Table) (asked : Asked) (e : tree.Expr) (at : Place) (t : TypeId) (b : Bool) (s : Scopes) (f : Fault) → (is_string e && b) ≡ false
    → (Refuses T false e s f ⊎ After T e s (λ x m. Fails (value_tests T asked at (expr_place e) t x) f)) → RefusesValue T asked e at t b s f
value_refused T asked (tree.String pieces) at t true s f n h = no_true (sym n)
value_refused T asked (tree.String pieces) at t false s f n h = h
value_refused T asked e at t b s f n h = h

slot_type_same : (o : Option Slot) → slot_type o ≡ slot_type o
slot_type_same None = refl
slot_type_same (Some slot) = refl

-- What there is no room for, where it is given

record IsExcessRead (P : Table → Scopes → Scopes → Type 0) (s r : UnitState) : Type 0 where
  typed : (T : Table) → IsExtended r.table T → P T s.seen.scopes r.seen.scopes
  goes : GoesOn (state_of s) (state_of r)

mutual
  unfolding judge_excess judge_all_excess

  excess-read : (i : tree.Initialiser) (b : Bool) (s r : UnitState) → IsKnown (state_of s) → judge_excess i s ≡ Gives b r → IsExcessRead (λ T. IsExcess T i) s r
  excess-read (tree.Value e) b s r k h =
      let one = bind-gives (lifted (checked e) s) (λ v. pure true) b r h in
      let j = checked-part e one.0 (state_of s) (state_of one.1) k (lifted-gives (checked e) one.0 s one.1 one.2).0 in
      subst (IsExcessRead (λ T. IsExcess T (tree.Value e)) s) (gives-state true b one.1 r one.3) (record { typed = λ T x. (j.part.x, j.part.part T x); goes = j.part.goes })
  excess-read (tree.Listed brace items comma) b s r k h = all-excess-read items b s r k h

  all-excess-read : (all : tree.Items) (b : Bool) (s r : UnitState) → IsKnown (state_of s) → judge_all_excess all s ≡ Gives b r → IsExcessRead (λ T. AreExcess T all) s r
  all-excess-read tree.NoItem b s r k h =
      subst (IsExcessRead (λ T. AreExcess T tree.NoItem) s) (gives-state true b s r h) (record { typed = λ T x. refl; goes = (stays (state_of s) k).goes })
  all-excess-read (tree.AndItem all i) b s r k h =
      let one = bind-gives (judge_all_excess all s) (λ before. judge_excess i) b r h in
      let j = all-excess-read all one.0 s one.1 k one.2 in
      let l = excess-read i b one.1 r j.goes.known one.3 in
      record {
        typed = λ T x. (one.1.seen.scopes, j.typed T (extended_trans one.1.table r.table T l.goes.extends x), l.typed T x);
        goes = goes-on (state_of s) (state_of one.1) (state_of r) j.goes l.goes;
      }
  all-excess-read (tree.AndMemberDesignator all at) b s r k h = never-gives b (TooLarge at Types) s r h
  all-excess-read (tree.AndIndexDesignator all at) b s r k h = never-gives b (TooLarge at Types) s r h

module _ (p : Place) (t : Rule) where
  value_for-stopped : (constant : Bool) (at : Place) (u : TypeId) (e : tree.Expr) (s r : UnitState) → IsKnown (state_of s) → IsComplete s.table u
      → value_for constant at u e s ≡ Stops (Refused p t) r
      → IsStopped (λ T. Refuses T false e s.seen.scopes (Refused p t) ⊎ After T e s.seen.scopes (λ x m. Fails (value_tests T (asked_at constant s) at (expr_place e) u x) (Refused p t))) s r
  unfolding value_for
  value_for-stopped constant at u e s r k c h =
      let F : Fault = Refused p t in
      let P : Table → Type 0 = λ T. Refuses T false e s.seen.scopes F ⊎ After T e s.seen.scopes (λ x m. Fails (value_tests T (asked_at constant s) at (expr_place e) u x) F) in
      stopped-step p t (lifted (checked_value u at true e) s) (λ v. obeying (λ q. constant_tests q.table constant q.linkage.statics (expr_place e) v) (initialised at v)) P s r
      (λ q.
      let i = checked_value-refuses p t u at true e (state_of s) (state_of r) k (complete-in s.table u c) (lifted-stops (checked_value u at true e) F s r q) in
      record {
        fails = elim i.fails [
          | inl f ↦ inl f
          | inr f ↦
              let same = initialises_same r.table u f.0 in
              inr (
                f.0,
                f.1,
                f.2,
                first_of (not (initialises_type r.table u f.0)) (Refused at rule.Mismatch) F
                    (first_broken (broken_at rule.NotConstant (expr_place e) (constant && not (is_constant_part r.table s.linkage.statics f.0)) ∷ []))
                    ((λ j. first_broken (broken_at rule.Mismatch at (not (sym same j)) ∷ [])) ∙ f.3),
              )
        ];
        extends = i.extends;
      })
      (λ v m q g.
      let l = lifted-gives (checked_value u at true e) v s m q in
      let part = initial-part u at e v (state_of s) (state_of m) k (complete-in s.table u c) l.0 in
      stopped-after p t P s m r part.goes.extends
      (stopped-rules p t (λ w. constant_tests w.table constant w.linkage.statics (expr_place e) v) (initialised at v) P m r
      (λ f. inr (
        part.x,
        m.seen.scopes,
        part.part,
        constant_fails constant at u e s m v part.x (sym (initialises_same m.table u part.x) ∙ part.becomes) (part.constant s.linkage.statics)
            (ap (λ (w : Linkage). first_broken (constant_tests m.table constant w.statics (expr_place e) v)) (sym l.1) ∙ f),
      ))
      (λ n y. absurd (initialised_never at v m p t r y)) g)) h
    where
      constant_fails : (constant : Bool) (at : Place) (u : TypeId) (e : tree.Expr) (s m : UnitState) (v : TypedExpr) (x : Elaborated) → initialises_type m.table u x ≡ true
          → (is_constant_part m.table s.linkage.statics x ≡ true → is_constant m.table s.linkage.statics v ≡ true)
          → Fails (constant_tests m.table constant s.linkage.statics (expr_place e) v) (Refused p t) → Fails (value_tests m.table (asked_at constant s) at (expr_place e) u x) (Refused p t)
      constant_fails constant at u e s m v x fit more f =
          let both = failed (constant && not (is_constant m.table s.linkage.statics v)) (Refused (expr_place e) rule.NotConstant) (Refused p t) f in
          let asked = and_left constant (not (is_constant m.table s.linkage.statics v)) both in
          let no = and_right constant (not (is_constant m.table s.linkage.statics v)) both in
          let open_part : is_constant_part m.table s.linkage.statics x ≡ false = not_part (is_constant_part m.table s.linkage.statics x) (is_constant m.table s.linkage.statics v) more no in
          (λ i. first_broken (broken_at rule.Mismatch at (not (fit i)) ∷ broken_at rule.NotConstant (expr_place e) (asked i && not (open_part i)) ∷ []))
          ∙ (sym (λ i. first_broken (broken_at rule.NotConstant (expr_place e) (both i) ∷ [])) ∙ f)
        where
          not_part : (a b : Bool) → (a ≡ true → b ≡ true) → not b ≡ true → a ≡ false
          not_part false b f h = refl
          not_part true b f h = no_true (ap not (sym (f refl)) ∙ h)

  plain_value : (constant : Bool) (at : Place) (u : TypeId) (e : tree.Expr) (single : Bool) (s r : UnitState) → IsKnown (state_of s) → IsComplete s.table u
      → (is_string e && is_char_array s.table u) ≡ false → value_for constant at u e s ≡ Stops (Refused p t) r
      → IsStopped (λ T. RefusesInitialiser T (asked_at constant s) (tree.Value e) at (Some u) single s.seen.scopes (Refused p t)) s r
  plain_value constant at u e single s r k c n h =
      stopped-as p t (λ T. Refuses T false e s.seen.scopes (Refused p t) ⊎ After T e s.seen.scopes (λ x m. Fails (value_tests T (asked_at constant s) at (expr_place e) u x) (Refused p t)))
      (λ T. RefusesInitialiser T (asked_at constant s) (tree.Value e) at (Some u) single s.seen.scopes (Refused p t)) s r
      (λ x f. value_refused r.table (asked_at constant s) e at u (is_char_array r.table u) s.seen.scopes (Refused p t)
      (ap (λ (b : Bool). is_string e && b) (is_chars-same s.table r.table x k.basic u c) ∙ n) f)
      (value_for-stopped constant at u e s r k c h)

  and_no : (b : Bool) → (b && false) ≡ false
  and_no true = refl
  and_no false = refl

  -- a literal for an array of char, by its count, or a value
  plain_by : (constant : Bool) (at : Place) (u : TypeId) (e : tree.Expr) (single : Bool) (o : Option ℕ) (s r : UnitState) → IsKnown (state_of s) → IsComplete s.table u
      → char_count_of_shape s.table (shape_at s.table u) ≡ o → value_or_text constant at u e o s ≡ Stops (Refused p t) r
      → IsStopped (λ T. RefusesInitialiser T (asked_at constant s) (tree.Value e) at (Some u) single s.seen.scopes (Refused p t)) s r
  unfolding value_or_text text
  plain_by constant at u (tree.String pieces) single (Some count) s r k c q h =
      stopped-rules p t (λ w. text_tests at count pieces) (pure (typed.Text pieces (take count (pieces_bytes pieces ++ 0 ∷ []))))
      (λ T. RefusesInitialiser T (asked_at constant s) (tree.Value (tree.String pieces)) at (Some u) single s.seen.scopes (Refused p t)) s r
      (λ f. subst (λ (b : Bool). RefusesValue s.table (asked_at constant s) (tree.String pieces) at u b s.seen.scopes (Refused p t)) (sym (ap has_count q))
      (subst (λ (w : Option ℕ). Fails (broken_at rule.Mismatch at (is_too_long w pieces) ∷ []) (Refused p t)) (sym q) f))
      (λ n y. never-stops (typed.Text pieces (take count (pieces_bytes pieces ++ 0 ∷ []))) (Refused p t) s r y) h
  plain_by constant at u (tree.String pieces) single None s r k c q h =
      plain_value constant at u (tree.String pieces) single s r k c (ap has_count q) h
  plain_by constant at u e single o s r k c q h = plain_value constant at u e single s r k c refl h

  plain_stopped : (constant : Bool) (e : tree.Expr) (at : Place) (u : TypeId) (single : Bool) (s r : UnitState) → IsKnown (state_of s) → IsComplete s.table u
      → judge_plain constant e at (Some u) s ≡ Stops (Refused p t) r
      → IsStopped (λ T. RefusesInitialiser T (asked_at constant s) (tree.Value e) at (Some u) single s.seen.scopes (Refused p t)) s r
  unfolding judge_plain
  plain_stopped constant e at u single s r k c h = plain_by constant at u e single (char_count_of_shape s.table (shape_at s.table u)) s r k c refl h

  -- what there is no room for
  excess_stopped : (constant : Bool) (e : tree.Expr) (at : Place) (single : Bool) (s r : UnitState) → IsKnown (state_of s) → excess at e s ≡ Stops (Refused p t) r
      → IsStopped (λ T. RefusesInitialiser T (asked_at constant s) (tree.Value e) at None single s.seen.scopes (Refused p t)) s r
  unfolding excess
  excess_stopped constant e at single s r k h =
      let P : Table → Type 0 = λ T. RefusesInitialiser T (asked_at constant s) (tree.Value e) at None single s.seen.scopes (Refused p t) in
      stopped-step p t (lifted (checked e) s) (λ v. stop {A = TypedInitialiser} (Refused at rule.Mismatch)) P s r
      (λ q. stopped-as p t (λ T. Refuses T false e s.seen.scopes (Refused p t)) P s r (λ x f. inl f) (value-stopped p t e s r k q))
      (λ v m q g.
      let l = lifted-gives (checked e) v s m q in
      let j = checked-part e v (state_of s) (state_of m) k l.0 in
      stopped-after p t P s m r j.part.goes.extends
      (stopped-here p t P m r (stops-state TypedInitialiser (Refused at rule.Mismatch) (Refused p t) m r g)
      (inr (j.part.x, m.seen.scopes, j.part.part m.table (extended_refl m.table), sym (stops-fault TypedInitialiser (Refused at rule.Mismatch) (Refused p t) m r g))))) h

  mutual
    unfolding judge_excess judge_all_excess

    excess-stopped : (i : tree.Initialiser) (s r : UnitState) → IsKnown (state_of s) → judge_excess i s ≡ Stops (Refused p t) r
        → IsStopped (λ T. RefusesExcess T i s.seen.scopes (Refused p t)) s r
    excess-stopped (tree.Value e) s r k h =
        stopped-step p t (lifted (checked e) s) (λ v. pure true) (λ T. Refuses T false e s.seen.scopes (Refused p t)) s r (λ q. value-stopped p t e s r k q)
        (λ v m q g. never-stops true (Refused p t) m r g) h
    excess-stopped (tree.Listed brace items comma) s r k h = all-excess-stopped items s r k h

    all-excess-stopped : (all : tree.Items) (s r : UnitState) → IsKnown (state_of s) → judge_all_excess all s ≡ Stops (Refused p t) r
        → IsStopped (λ T. RefusesAllExcess T all s.seen.scopes (Refused p t)) s r
    all-excess-stopped tree.NoItem s r k h = never-stops true (Refused p t) s r h
    all-excess-stopped (tree.AndItem all i) s r k h =
        let P : Table → Type 0 = λ T. RefusesAllExcess T (tree.AndItem all i) s.seen.scopes (Refused p t) in
        stopped-step p t (judge_all_excess all s) (λ before. judge_excess i) P s r
        (λ q. stopped-as p t (λ T. RefusesAllExcess T all s.seen.scopes (Refused p t)) P s r (λ x f. inl f) (all-excess-stopped all s r k q))
        (λ before m q g.
        let j = all-excess-read all before s m k q in
        stopped-after p t P s m r j.goes.extends
        (stopped-as p t (λ T. RefusesExcess T i m.seen.scopes (Refused p t)) P m r (λ x f. inr (m.seen.scopes, j.typed r.table x, f)) (excess-stopped i m r j.goes.known g))) h
    all-excess-stopped (tree.AndMemberDesignator all at) s r k h = absurd (large-unrefused Bool at Types s p t r h)
    all-excess-stopped (tree.AndIndexDesignator all at) s r k h = absurd (large-unrefused Bool at Types s p t r h)

  -- braces that may not stand there
  braces-stopped : (brace : Place) (items : tree.Items) (s r : UnitState) → IsKnown (state_of s) → excess_braces brace items s ≡ Stops (Refused p t) r
      → IsStopped (λ T. RefusesBraces T brace items s.seen.scopes (Refused p t)) s r
  unfolding excess_braces
  braces-stopped brace items s r k h =
      let P : Table → Type 0 = λ T. RefusesBraces T brace items s.seen.scopes (Refused p t) in
      stopped-step p t (judge_all_excess items s) (λ all. stop {A = TypedInitialiser} (Refused brace rule.Mismatch)) P s r
      (λ q. stopped-as p t (λ T. RefusesAllExcess T items s.seen.scopes (Refused p t)) P s r (λ x f. inl f) (all-excess-stopped items s r k q))
      (λ all m q g.
      let j = all-excess-read items all s m k q in
      stopped-after p t P s m r j.goes.extends
      (stopped-here p t P m r (stops-state TypedInitialiser (Refused brace rule.Mismatch) (Refused p t) m r g)
      (inr (m.seen.scopes, j.typed m.table (extended_refl m.table), sym (stops-fault TypedInitialiser (Refused brace rule.Mismatch) (Refused p t) m r g))))) h

  -- what an item initialises, over a later table
  slot_later : (T U : Table) (x : IsExtended T U) (b : IsBasic T) (text : Bool) (u : TypeId) (n : ℕ) → IsComplete T u → item_type U text u n ≡ slot_type (item_slot T text u n)
  slot_later T U x b true u n c = refl
  slot_later T U x b false u n c = slot_type_same (slot_of_shape U u (shape_at U u) n) ∙ ap slot_type (slot-same T U x b u n c)

  slot_whole : (T : Table) (b : IsBasic T) (text : Bool) (u : TypeId) (n : ℕ) → IsComplete T u → (o : Option Slot) → item_slot T text u n ≡ o → (v : TypeId) → slot_type o ≡ Some v
      → IsComplete T v
  slot_whole T b text u n c None q v h = absurd (none-some v h)
  slot_whole T b text u n c (Some slot) q v h =
      subst (IsComplete T) (some-same slot.type v h) (slot-complete T b text u n slot.offset slot.type c (slot_is T text u n slot q))

  literal_same : (items : tree.Items) → is_only_literal items ≡ is_only_literal items
  literal_same tree.NoItem = refl
  literal_same (tree.AndItem tree.NoItem (tree.Value (tree.String pieces))) = refl
  literal_same (tree.AndItem tree.NoItem (tree.Value e)) = refl
  literal_same (tree.AndItem tree.NoItem (tree.Listed brace items comma)) = refl
  literal_same (tree.AndItem all i) = refl
  literal_same (tree.AndMemberDesignator all at) = refl
  literal_same (tree.AndIndexDesignator all at) = refl

  item_refused : (all : tree.Items) (i : tree.Initialiser) (constant text : Bool) (u : TypeId) (before : TypedItems) (s m r : UnitState) → IsKnown (state_of s) → IsComplete s.table u
      → AreItemsJudged all text u before s m
      → IsStopped (λ T. RefusesInitialiser T (asked_at constant m) i (initialiser_place i) (slot_type (item_slot m.table text u (items_count before))) (is_scalar_shape (shape_at m.table u)) m.seen.scopes (Refused p t)) m r
      → IsStopped (λ T. RefusesItems T (asked_at constant s) (tree.AndItem all i) u text s.seen.scopes (Refused p t)) m r
  item_refused all i constant text u before s m r k c j h =
      let x = h.extends in
      let b = j.goes.known.basic in
      let there = complete-kept s.table m.table j.goes.extends k.basic u c in
      record {
        fails = inr (
          before,
          m.seen.scopes,
          items-kept m.table r.table x b before text u s.seen.scopes m.seen.scopes there j.typed,
          j.erases,
          subst (λ (l : Linkage). RefusesInitialiser r.table (record { constant = constant; homes = l.statics }) i (initialiser_place i) (item_type r.table text u (items_count before))
              (is_scalar_shape (shape_at r.table u)) m.seen.scopes (Refused p t)) j.linkage
              (subst (λ (o : Option TypeId). RefusesInitialiser r.table (asked_at constant m) i (initialiser_place i) o (is_scalar_shape (shape_at r.table u)) m.seen.scopes (Refused p t))
              (sym (slot_later m.table r.table x b text u (items_count before) there))
              (subst (λ (f : Bool). RefusesInitialiser r.table (asked_at constant m) i (initialiser_place i) (slot_type (item_slot m.table text u (items_count before))) f m.seen.scopes (Refused p t))
              (sym (scalar-same m.table r.table x b u there)) h.fails)),
        );
        extends = x;
      }

  mutual
    unfolding judge_initialiser judge_items judge_plain

    pub initialiser-stopped : (i : tree.Initialiser) (constant : Bool) (at : Place) (to : Option TypeId) (single : Bool) (s r : UnitState) → IsKnown (state_of s)
        → ((u : TypeId) → to ≡ Some u → IsComplete s.table u) → judge_initialiser constant i at to single s ≡ Stops (Refused p t) r
        → IsStopped (λ T. RefusesInitialiser T (asked_at constant s) i at to single s.seen.scopes (Refused p t)) s r
    initialiser-stopped (tree.Value e) constant at None single s r k c h = excess_stopped constant e at single s r k h
    initialiser-stopped (tree.Value e) constant at (Some u) single s r k c h = plain_stopped constant e at u single s r k (c u refl) h
    initialiser-stopped (tree.Listed brace items comma) constant at None single s r k c h =
        braces-stopped brace items s r k h
    initialiser-stopped (tree.Listed brace items comma) constant at (Some u) true s r k c h =
        braces-stopped brace items s r k h
    initialiser-stopped (tree.Listed brace items comma) constant at (Some u) false s r k c h =
        let text = is_only_literal items && is_char_array s.table u in
        let P : Table → Type 0 = λ T. RefusesInitialiser T (asked_at constant s) (tree.Listed brace items comma) at (Some u) false s.seen.scopes (Refused p t) in
        stopped-step p t (judge_items constant items text u s) (λ list. pure (typed.Listed brace list comma u)) P s r
        (λ q. stopped-as p t (λ T. RefusesItems T (asked_at constant s) items u text s.seen.scopes (Refused p t)) P s r
        (λ x f. subst (λ (b : Bool). RefusesItems r.table (asked_at constant s) items u (is_only_literal items && b) s.seen.scopes (Refused p t)) (sym (is_chars-same s.table r.table x k.basic u (c u refl)))
        (subst (λ (b : Bool). RefusesItems r.table (asked_at constant s) items u (b && is_char_array s.table u) s.seen.scopes (Refused p t)) (literal_same items) f))
        (items-stopped items constant text u s r k (c u refl) q))
        (λ list m q g. never-stops (typed.Listed brace list comma u) (Refused p t) m r g) h

    items-stopped : (all : tree.Items) (constant text : Bool) (u : TypeId) (s r : UnitState) → IsKnown (state_of s) → IsComplete s.table u
        → judge_items constant all text u s ≡ Stops (Refused p t) r
        → IsStopped (λ T. RefusesItems T (asked_at constant s) all u text s.seen.scopes (Refused p t)) s r
    items-stopped tree.NoItem constant text u s r k c h = never-stops typed.NoItem (Refused p t) s r h
    items-stopped (tree.AndItem all i) constant text u s r k c h =
        let P : Table → Type 0 = λ T. RefusesItems T (asked_at constant s) (tree.AndItem all i) u text s.seen.scopes (Refused p t) in
        stopped-step p t (judge_items constant all text u s) (λ before. λ m.
        next (judge_initialiser constant i (initialiser_place i) (slot_type (item_slot m.table text u (items_count before))) (is_scalar_shape (shape_at m.table u)) m)
        (λ v. with_item before (item_slot m.table text u (items_count before)) v)) P s r
        (λ q. stopped-as p t (λ T. RefusesItems T (asked_at constant s) all u text s.seen.scopes (Refused p t)) P s r (λ x f. inl f) (items-stopped all constant text u s r k c q))
        (λ before m q g.
        let j = items-judged all constant text u before s m k c q in
        let there = complete-kept s.table m.table j.goes.extends k.basic u c in
        let slot = item_slot m.table text u (items_count before) in
        stopped-after p t P s m r j.goes.extends
        (stopped-step p t (judge_initialiser constant i (initialiser_place i) (slot_type slot) (is_scalar_shape (shape_at m.table u)) m) (λ v. with_item before slot v) P m r
        (λ y. item_refused all i constant text u before s m r k c j
        (initialiser-stopped i constant (initialiser_place i) (slot_type slot) (is_scalar_shape (shape_at m.table u)) m r j.goes.known
        (slot_whole m.table j.goes.known.basic text u (items_count before) there slot refl) y))
        (λ v n y z. absurd (with_item_never before slot v n p t r z)) g)) h
    items-stopped (tree.AndMemberDesignator all at) constant text u s r k c h = absurd (large-unrefused TypedItems at Types s p t r h)
    items-stopped (tree.AndIndexDesignator all at) constant text u s r k c h = absurd (large-unrefused TypedItems at Types s p t r h)
