-- What judging gives for initialisers is well typed and erases to what was judged.
use Rattle.std.proofs.Common.{◌≡◌, ℕ, ◌≤◌, ◌==◌, nat_lt, Bool, true, false, ◌&&◌, List, [], ◌∷◌, ◌++◌, length, take, Option, Some, None, refl, ap, sym, subst, ◌∙◌, inl, inr, true≢false, arith}
use Rattle.std.proofs.lemmas.Bool.Decides.{nat_tests}
use Rattle.std.proofs.lemmas.Option.{none-some}
use Rattle.cc_base.specs.declared.place.Place.{Place}
use Rattle.cc_base.specs.declared.number.TypeId.{TypeId}
use Rattle.cc_base.specs.declared.fault.Fault.TheVariants.{Refused, TooLarge}
use Rattle.cc_base.specs.declared.fault.Limit.TheVariants.{Types}
use Rattle.cc_base.specs.declared.fault.Rule.TheVariants as rule
use Rattle.c_types.specs.declared.shape.TypeShape.{TypeShape}
use Rattle.c_types.specs.declared.shape.TypeShape.TheVariants.{Void, Integer, Pointer, Array, Function, Struct, Union}
use Rattle.c_types.specs.Table.{Table, IsComplete, shape_at, descend, is_aggregate_shape}
use Rattle.c_types.specs.Sameness.{is_same_type, same_shape, same_step}
use Rattle.c_tree.specs.Literals.{pieces_bytes}
use Rattle.c_tree.specs.declared.leaf.StringPiece.{StringPiece}
use Rattle.c_tree.specs.Erasure.{erased_items}
use Rattle.c_tree.specs.Places.{expr_place, initialiser_place}
use Rattle.c_tree.specs.Tree as tree
use Rattle.c_tree.specs.TypedTree as typed
use Rattle.c_tree.specs.TypedTree.{TypedExpr, TypedPlace, TypedInitialiser, TypedItems}
use Rattle.c_tree.specs.TypedParts.{place_type, item_place}
use Rattle.c_typing.specs.Cells.{count_cells}
use Rattle.c_typing.specs.Checking.{checked, checked_value}
use Rattle.c_typing.specs.Conversions.{IsAssigned}
use Rattle.c_typing.specs.Scopes.{Scopes}
use Rattle.c_typing.specs.Settled.{IsKnown, GoesOnThere}
use Rattle.c_typing.specs.Shapes.{IsScalar, is_scalar_shape}
use Rattle.c_typing.specs.Tests.{AsPlace, first_broken}
use Rattle.c_typing_laws.specs.Judged.{IsCheckedFor, IsUnreadOf}
use Rattle.c_typing_laws.proofs.ConstructLaws.{one_unbroken}
use Rattle.c_typing_laws.proofs.ExtensionLaws.{no_true}
use Rattle.c_typing_laws.proofs.JudgedAssignments.{moved-gives}
use Rattle.c_typing_laws.proofs.JudgedWhole.{checked_value-judged}
use Rattle.c_typing_laws.proofs.KnownStates.{stays, goes-on}
use Rattle.c_unit_typing.specs.Initialisers.{Slot, slot_of_shape, char_count_of_shape, has_count, is_char_array, is_only_text, items_count, IsText, IsItemFor, IsSlot, IsInitialiser, AreItems}
use Rattle.c_unit_typing.specs.InitialiserJudging.{text_tests, text, initialised, constant_tests, value_for, value_or_text, judge_all_excess, excess, excess_braces, judge_plain, is_only_literal, item_slot, slot_type, with_item, judge_initialiser, judge_items}
use Rattle.c_unit_typing.specs.UnitJudged.{state_of, IsInitialiserJudged, AreItemsJudged}
use Rattle.c_unit_typing.specs.UnitJudging.{UnitState, Gives, Stops, next, pure, obeying, lifted}
use Rattle.c_unit_typing.proofs.KeptInitialisers.{when-some, complete-in, slot-complete, slot-kept, scalar-same, complete-kept, is_chars-same, items-kept}
use Rattle.c_unit_typing.proofs.UnitOutcomes.{never-gives, bind-gives, unless-gives, given-same, lifted-gives}

-- Expressions without braces

is_unread : TypedExpr → Bool
is_unread (typed.Unread p) = true
is_unread e = false

unread_place : TypedPlace → TypedExpr → TypedPlace
unread_place d (typed.Unread p) = p
unread_place d e = d

aggregate_not_scalar : (y : TypeShape) → is_aggregate_shape y ≡ true → is_scalar_shape y ≡ false
aggregate_not_scalar (Struct n) h = refl
aggregate_not_scalar (Union n) h = refl
aggregate_not_scalar Void h = no_true h
aggregate_not_scalar (Integer bytes signed) h = no_true h
aggregate_not_scalar (Pointer n t) h = no_true h
aggregate_not_scalar (Array t n) h = no_true h
aggregate_not_scalar (Function ps r) h = no_true h

-- a part without braces was judged; for a scalar it is a value
record IsPlainJudged (e : tree.Expr) (at : Place) (t : TypeId) (one : TypedInitialiser) (s r : UnitState) : Type 0 where
  judged : IsInitialiserJudged (tree.Value e) at t one s r
  item : IsItemFor (is_scalar_shape (shape_at r.table t)) one

no_item : (f : Bool) (i : TypedInitialiser) → f ≡ false → IsItemFor f i
no_item true i h = absurd (true≢false h)
no_item false i h = tt

any_item : (f : Bool) (e : TypedExpr) → IsItemFor f (typed.Value e)
any_item true e = tt
any_item false e = tt

module _ (at : Place) (t : TypeId) (e : tree.Expr) (s m : UnitState) (linkage : m.linkage ≡ s.linkage) where
  copied_from : (p : TypedPlace) → IsCheckedFor t at true e (typed.Unread p) (state_of s) (state_of m) → IsUnreadOf m.table t (typed.Unread p)
  unfolding unread_place
  copied_from p j = elim j.becomes [
    | inl u ↦ u
    | inr c ↦ no_true c.1.plain
  ]

  copied : (p : TypedPlace) (r : UnitState) → IsCheckedFor t at true e (typed.Unread p) (state_of s) (state_of m)
      → GoesOnThere (state_of m) (state_of r) → r.table ≡ m.table → r.linkage ≡ m.linkage → IsPlainJudged e at t (typed.Copied p at) s r
  unfolding unread_place
  copied p r j goes same links =
      let u = copied_from p j in
      let place : u.place ≡ p = ap (unread_place p) (sym u.unread) in
      let kind : is_same_type m.table t (place_type p) ≡ true = subst (λ (q : TypedPlace). is_same_type m.table t (place_type q) ≡ true) place u.same in
      let typed_here : IsInitialiser m.table (typed.Copied p at) at t s.seen.scopes m.seen.scopes = (j.typed.0, refl, j.typed.1, kind) in
      record {
        judged = record {
          typed = subst (λ (c : Scopes). IsInitialiser r.table (typed.Copied p at) at t s.seen.scopes c) (sym goes.scopes)
              (subst (λ (T : Table). IsInitialiser T (typed.Copied p at) at t s.seen.scopes m.seen.scopes) (sym same) typed_here);
          erases = ap tree.Value j.erases;
          linkage = links ∙ linkage;
          goes = goes-on (state_of s) (state_of m) (state_of r) j.goes goes.goes;
        };
        item = no_item (is_scalar_shape (shape_at r.table t)) (typed.Copied p at)
            (subst (λ (T : Table). is_scalar_shape (shape_at T t) ≡ false) (sym same) (aggregate_not_scalar (shape_at m.table t) u.aggregate));
      }

  valued : (v : TypedExpr) → is_unread v ≡ false → IsCheckedFor t at true e v (state_of s) (state_of m) → IsPlainJudged e at t (typed.Value v) s m
  unfolding is_unread
  valued v n j =
      let by : IsScalar m.table t × IsAssigned m.table m.seen.scopes at t v = elim j.becomes [
        | inl u ↦ absurd (true≢false (sym (ap is_unread u.unread) ∙ n))
        | inr c ↦ c
      ] in
      record {
        judged = record { typed = (j.typed, by.0, by.1); erases = ap tree.Value j.erases; linkage = linkage; goes = j.goes };
        item = any_item (is_scalar_shape (shape_at m.table t)) v;
      }

  value_given : (v : TypedExpr) (one : TypedInitialiser) (r : UnitState) → is_unread v ≡ false → IsCheckedFor t at true e v (state_of s) (state_of m)
      → pure (typed.Value v) m ≡ Gives one r → IsPlainJudged e at t one s r
  value_given v one r n j h = given-same (λ (i : TypedInitialiser) (q : UnitState). IsPlainJudged e at t i s q) (typed.Value v) one m r h (valued v n j)

  initialised-judged : (v : TypedExpr) (one : TypedInitialiser) (r : UnitState) → IsCheckedFor t at true e v (state_of s) (state_of m)
      → initialised at v m ≡ Gives one r → IsPlainJudged e at t one s r
  unfolding initialised is_unread
  initialised-judged (typed.Unread p) one r j h =
      let two = bind-gives (lifted (count_cells at (place_type p)) m) (λ c. pure (typed.Copied p at)) one r h in
      let counted = lifted-gives (count_cells at (place_type p)) two.0 m two.1 two.2 in
      let moved = moved-gives at (place_type p) (AsPlace p) (state_of m) two.0 (state_of two.1) j.goes.known counted.0 in
      given-same (λ (i : TypedInitialiser) (q : UnitState). IsPlainJudged e at t i s q) (typed.Copied p at) one two.1 r two.3
      (copied p two.1 j moved.0 moved.1 counted.1)
  initialised-judged v one r j h = value_given v one r refl j h

value_for-judged : (constant : Bool) (at : Place) (t : TypeId) (e : tree.Expr) (one : TypedInitialiser) (s r : UnitState) → IsKnown (state_of s) → IsComplete s.table t
    → value_for constant at t e s ≡ Gives one r → IsPlainJudged e at t one s r
unfolding value_for
value_for-judged constant at t e one s r k c h =
    let first = bind-gives (lifted (checked_value t at true e) s)
    (λ v. obeying (λ q. constant_tests q.table constant q.linkage.statics (expr_place e) v) (initialised at v)) one r h in
    let v = first.0 in
    let m = first.1 in
    let l = lifted-gives (checked_value t at true e) v s m first.2 in
    let j = checked_value-judged t at true e v (state_of s) (state_of m) k (complete-in s.table t c) l.0 in
    let go = unless-gives (first_broken (constant_tests m.table constant m.linkage.statics (expr_place e) v)) (initialised at v) m one r first.3 in
    initialised-judged at t e s m l.1 v one r j go.1

le_from : (a b : ℕ) → nat_lt a b ≡ false → b ≤ a
le_from a b h = grind (arith, nat_tests)

chars_not_scalar : (T : Table) (y : TypeShape) (n : ℕ) → char_count_of_shape T y ≡ Some n → is_scalar_shape y ≡ false
chars_not_scalar T (Array t count) n h = refl
chars_not_scalar T Void n h = absurd (none-some n h)
chars_not_scalar T (Integer bytes signed) n h = absurd (none-some n h)
chars_not_scalar T (Pointer m t) n h = absurd (none-some n h)
chars_not_scalar T (Function ps q) n h = absurd (none-some n h)
chars_not_scalar T (Struct k) n h = absurd (none-some n h)
chars_not_scalar T (Union k) n h = absurd (none-some n h)

text-judged : (at : Place) (t : TypeId) (count : ℕ) (pieces : List StringPiece) (one : TypedInitialiser) (s r : UnitState) → IsKnown (state_of s)
    → char_count_of_shape s.table (shape_at s.table t) ≡ Some count → text at count pieces s ≡ Gives one r → IsPlainJudged (tree.String pieces) at t one s r
unfolding text
text-judged at t count pieces one s r k q h =
    let bytes : List ℕ = take count (pieces_bytes pieces ++ 0 ∷ []) in
    let go = unless-gives (first_broken (text_tests at count pieces)) (pure (typed.Text pieces bytes)) s one r h in
    let short = le_from count (length (pieces_bytes pieces)) (one_unbroken (nat_lt count (length (pieces_bytes pieces))) (Refused at rule.Mismatch) go.0) in
    given-same (λ (i : TypedInitialiser) (w : UnitState). IsPlainJudged (tree.String pieces) at t i s w) (typed.Text pieces bytes) one s r go.1 (record {
      judged = record {
        typed = (refl, subst (λ (n : Option ℕ). IsText n (pieces_bytes pieces) bytes) (sym q) (short, refl));
        erases = refl;
        linkage = refl;
        goes = (stays (state_of s) k).goes;
      };
      item = no_item (is_scalar_shape (shape_at s.table t)) (typed.Text pieces bytes) (chars_not_scalar s.table (shape_at s.table t) count q);
    })

value_or_text-judged : (constant : Bool) (at : Place) (t : TypeId) (e : tree.Expr) (count : Option ℕ) (one : TypedInitialiser) (s r : UnitState) → IsKnown (state_of s)
    → IsComplete s.table t → char_count_of_shape s.table (shape_at s.table t) ≡ count → value_or_text constant at t e count s ≡ Gives one r
    → IsPlainJudged e at t one s r
unfolding value_or_text
value_or_text-judged constant at t (tree.String pieces) (Some count) one s r k c q h = text-judged at t count pieces one s r k q h
value_or_text-judged constant at t (tree.String pieces) None one s r k c q h = value_for-judged constant at t (tree.String pieces) one s r k c h
value_or_text-judged constant at t e count one s r k c q h = value_for-judged constant at t e one s r k c h

plain-judged : (constant : Bool) (e : tree.Expr) (at : Place) (t : TypeId) (one : TypedInitialiser) (s r : UnitState) → IsKnown (state_of s) → IsComplete s.table t
    → judge_plain constant e at (Some t) s ≡ Gives one r → IsPlainJudged e at t one s r
unfolding judge_plain
plain-judged constant e at t one s r k c h =
    value_or_text-judged constant at t e (char_count_of_shape s.table (shape_at s.table t)) one s r k c refl h

excess-never : {P : Type 0} (at : Place) (e : tree.Expr) (one : TypedInitialiser) (s r : UnitState) → excess at e s ≡ Gives one r → P
unfolding excess
excess-never at e one s r h =
    let two = bind-gives (lifted (checked e) s) (λ v. λ q. Stops (Refused at rule.Mismatch) q) one r h in
    never-gives one (Refused at rule.Mismatch) two.1 r two.3

pub braces-never : {P : Type 0} (brace : Place) (items : tree.Items) (one : TypedInitialiser) (s r : UnitState) → excess_braces brace items s ≡ Gives one r → P
unfolding excess_braces
braces-never brace items one s r h =
    let two = bind-gives (judge_all_excess items s) (λ all. λ q. Stops (Refused brace rule.Mismatch) q) one r h in
    never-gives one (Refused brace rule.Mismatch) two.1 r two.3

-- more than there is room for is never given
pub none-never : {P : Type 0} (constant : Bool) (i : tree.Initialiser) (at : Place) (single : Bool) (one : TypedInitialiser) (s r : UnitState)
    → judge_initialiser constant i at None single s ≡ Gives one r → P
unfolding judge_initialiser judge_plain
none-never constant (tree.Value e) at single one s r h = excess-never at e one s r h
none-never constant (tree.Listed brace items comma) at single one s r h = braces-never brace items one s r h

-- Braces

scalar_slot : (T : Table) (t : TypeId) (y : TypeShape) (i : ℕ) (slot : Slot) → is_scalar_shape y ≡ true → slot_of_shape T t y i ≡ Some slot → slot.type ≡ t
scalar_slot T t (Integer bytes signed) i slot n h = when-some (λ (z : Slot). z.type ≡ t) (i == 0) (record { offset = 0; type = t }) slot h refl
scalar_slot T t (Pointer m u) i slot n h = when-some (λ (z : Slot). z.type ≡ t) (i == 0) (record { offset = 0; type = t }) slot h refl
scalar_slot T t Void i slot n h = no_true n
scalar_slot T t (Array u count) i slot n h = no_true n
scalar_slot T t (Function ps r) i slot n h = no_true n
scalar_slot T t (Struct k) i slot n h = no_true n
scalar_slot T t (Union k) i slot n h = no_true n

slot_here : Slot → Option Slot → Slot
slot_here d None = d
slot_here d (Some s) = s

pub slot_is : (T : Table) (text : Bool) (t : TypeId) (i : ℕ) (slot : Slot) → item_slot T text t i ≡ Some slot → IsSlot text T t i slot.offset slot.type
unfolding slot_here
slot_is T true t i slot h = (
  ap (λ (o : Option Slot). (slot_here slot o).offset) (sym h),
  ap (λ (o : Option Slot). (slot_here slot o).type) (sym h),
)
slot_is T false t i slot h = h

single_slot : (T : Table) (text : Bool) (t : TypeId) (i : ℕ) (slot : Slot) → is_scalar_shape (shape_at T t) ≡ true → item_slot T text t i ≡ Some slot → slot.type ≡ t
single_slot T true t i slot n h = (slot_is T true t i slot h).1
single_slot T false t i slot n h = scalar_slot T t (shape_at T t) i slot n h

chars_not_same : (f : TypeId → TypeId → Bool) (T : Table) (y z : TypeShape) → has_count (char_count_of_shape T y) ≡ true → same_shape f y z ≡ true
    → is_aggregate_shape z ≡ false
chars_not_same f T (Array t a) (Array u b) c h = refl
chars_not_same f T (Array t a) Void c h = refl
chars_not_same f T (Array t a) (Integer bytes signed) c h = refl
chars_not_same f T (Array t a) (Pointer n u) c h = refl
chars_not_same f T (Array t a) (Function ps r) c h = refl
chars_not_same f T (Array t a) (Struct k) c h = no_true h
chars_not_same f T (Array t a) (Union k) c h = no_true h
chars_not_same f T Void z c h = no_true c
chars_not_same f T (Integer bytes signed) z c h = no_true c
chars_not_same f T (Pointer n u) z c h = no_true c
chars_not_same f T (Function ps r) z c h = no_true c
chars_not_same f T (Struct k) z c h = no_true c
chars_not_same f T (Union k) z c h = no_true c

pub array_not_struct : (T : Table) (t u : TypeId) → is_char_array T t ≡ true → is_same_type T t u ≡ true → is_aggregate_shape (shape_at T u) ≡ false
unfolding is_same_type
array_not_struct T t u c h = chars_not_same (descend (same_step T) (λ w. false) (length T)) T (shape_at T t) (shape_at T u) c h

pub chars_no_scalar : (T : Table) (y : TypeShape) → has_count (char_count_of_shape T y) ≡ true → is_scalar_shape y ≡ false
chars_no_scalar T (Array t count) h = refl
chars_no_scalar T Void h = no_true h
chars_no_scalar T (Integer bytes signed) h = no_true h
chars_no_scalar T (Pointer m t) h = no_true h
chars_no_scalar T (Function ps q) h = no_true h
chars_no_scalar T (Struct k) h = no_true h
chars_no_scalar T (Union k) h = no_true h

-- in the braces of an array of char, a literal by itself became its text
module _ (T : Table) (t : TypeId) (chars : is_char_array T t ≡ true) where
  no_text : (i : TypedInitialiser) (u : TypeId) (offset : ℕ) (f : Bool) (s s' : Scopes) → (IsInitialiser T i (item_place i) t s s' → ⊥) → IsInitialiser T i (item_place i) u s s' → IsSlot f T t 0 offset u
      → false ≡ f
  no_text i u offset true s s' never h slot = absurd (never (subst (λ (w : TypeId). IsInitialiser T i (item_place i) w s s') slot.1 h))
  no_text i u offset false s s' never h slot = refl

  pub only_text : (list : TypedItems) (s s' : Scopes) → AreItems T list (is_only_literal (erased_items list)) t s s' → is_only_text list ≡ is_only_literal (erased_items list)
  only_text typed.NoItem s s' h = refl
  only_text (typed.AndItem (typed.AndItem all o w j) offset u i) s s' h = refl
  only_text (typed.AndItem typed.NoItem offset u (typed.Text pieces bytes)) s s' h = refl
  only_text (typed.AndItem typed.NoItem offset u (typed.Listed brace items comma w)) s s' h = refl
  only_text (typed.AndItem typed.NoItem offset u (typed.Value e)) s s' h =
      no_text (typed.Value e) u offset (is_only_literal (erased_items (typed.AndItem typed.NoItem offset u (typed.Value e)))) h.0 s'
      (λ v. true≢false (sym v.1 ∙ chars_no_scalar T (shape_at T t) chars)) h.2 h.3
  only_text (typed.AndItem typed.NoItem offset u (typed.Copied p at)) s s' h =
      no_text (typed.Copied p at) u offset (is_only_literal (erased_items (typed.AndItem typed.NoItem offset u (typed.Copied p at)))) h.0 s'
      (λ v. true≢false (sym v.2 ∙ array_not_struct T t (place_type p) chars v.3)) h.2 h.3

and_same : (a b c : Bool) → (c ≡ true → a ≡ b) → (a && c) ≡ (b && c)
and_same a b true h = ap (λ (z : Bool). z && true) (h refl)
and_same true true false h = refl
and_same true false false h = refl
and_same false true false h = refl
and_same false false false h = refl

pub and_unit : (a : Bool) → (a && true) ≡ a
and_unit true = refl
and_unit false = refl

listed : (brace : Place) (items : tree.Items) (comma : _) (at : Place) (t : TypeId) (list : TypedItems) (s r : UnitState) → IsKnown (state_of s) → IsComplete s.table t
    → AreItemsJudged items (is_only_literal items && is_char_array s.table t) t list s r
    → IsInitialiserJudged (tree.Listed brace items comma) at t (typed.Listed brace list comma t) s r
listed brace items comma at t list s r k c j =
    let chars = is_chars-same s.table r.table j.goes.extends k.basic t c in
    let P : Bool → Type 0 = λ f. AreItems r.table list f t s.seen.scopes r.seen.scopes in
    let here : P (is_only_literal (erased_items list) && is_char_array r.table t) =
    subst (λ (all : tree.Items). P (is_only_literal all && is_char_array r.table t)) (sym j.erases)
    (subst (λ (f : Bool). P (is_only_literal items && f)) (sym chars) j.typed) in
    let same : (is_only_text list && is_char_array r.table t) ≡ (is_only_literal (erased_items list) && is_char_array r.table t) =
    and_same (is_only_text list) (is_only_literal (erased_items list)) (is_char_array r.table t)
    (λ y. only_text r.table t y list s.seen.scopes r.seen.scopes
    (subst P (ap (λ (f : Bool). is_only_literal (erased_items list) && f) y ∙ and_unit (is_only_literal (erased_items list))) here)) in
    record { typed = (refl, subst P (sym same) here); erases = ap (λ (all : tree.Items). tree.Listed brace all comma) j.erases; linkage = j.linkage; goes = j.goes }

-- in the braces of a scalar stands a value
single-item : (constant : Bool) (i : tree.Initialiser) (at : Place) (t : TypeId) (single : Bool) (one : TypedInitialiser) (s r : UnitState) → IsKnown (state_of s)
    → IsComplete s.table t → (single ≡ true → is_scalar_shape (shape_at s.table t) ≡ true) → judge_initialiser constant i at (Some t) single s ≡ Gives one r
    → IsItemFor single one
unfolding judge_initialiser
single-item constant (tree.Value e) at t true one s r k c n h =
    let j = plain-judged constant e at t one s r k c h in
    subst (λ (f : Bool). IsItemFor f one) (scalar-same s.table r.table j.judged.goes.extends k.basic t c ∙ n refl) j.item
single-item constant (tree.Value e) at t false one s r k c n h = tt
single-item constant (tree.Listed brace items comma) at t true one s r k c n h = braces-never brace items one s r h
single-item constant (tree.Listed brace items comma) at t false one s r k c n h = tt

-- the initialiser is judged so wherever it stands
abbrev IsJudgedAs : Bool → tree.Initialiser → Type 0
IsJudgedAs constant i = (at : Place) (t : TypeId) (single : Bool) (one : TypedInitialiser) (s r : UnitState) → IsKnown (state_of s) → IsComplete s.table t
    → judge_initialiser constant i at (Some t) single s ≡ Gives one r → IsInitialiserJudged i at t one s r

item-judged : (slot : Option Slot) (all : tree.Items) (i : tree.Initialiser) (constant text : Bool) (t : TypeId) (before : TypedItems) (s m : UnitState) → IsJudgedAs constant i → IsKnown (state_of s)
    → IsComplete s.table t → AreItemsJudged all text t before s m → item_slot m.table text t (items_count before) ≡ slot → (one : TypedInitialiser) (n : UnitState)
    → judge_initialiser constant i (initialiser_place i) (slot_type slot) (is_scalar_shape (shape_at m.table t)) m ≡ Gives one n → (list : TypedItems) (r : UnitState)
    → with_item before slot one n ≡ Gives list r → AreItemsJudged (tree.AndItem all i) text t list s r
unfolding with_item
item-judged None all i constant text t before s m rec k c j q one n h list r g =
    none-never constant i (initialiser_place i) (is_scalar_shape (shape_at m.table t)) one m n h
item-judged (Some slot) all i constant text t before s m rec k c j q one n h list r g =
    let there = complete-kept s.table m.table j.goes.extends k.basic t c in
    let part = slot_is m.table text t (items_count before) slot q in
    let whole = slot-complete m.table j.goes.known.basic text t (items_count before) slot.offset slot.type there part in
    let one_judged = rec (initialiser_place i) slot.type (is_scalar_shape (shape_at m.table t)) one m n j.goes.known whole h in
    let x = one_judged.goes.extends in
    let b = j.goes.known.basic in
    let alone = single-item constant i (initialiser_place i) slot.type (is_scalar_shape (shape_at m.table t)) one m n j.goes.known whole
    (λ y. ap (λ (w : TypeId). is_scalar_shape (shape_at m.table w)) (single_slot m.table text t (items_count before) slot y q) ∙ y) h in
    given-same (λ (v : TypedItems) (w : UnitState). AreItemsJudged (tree.AndItem all i) text t v s w) (typed.AndItem before slot.offset slot.type one) list n r g (record {
      typed = (
        m.seen.scopes,
        items-kept m.table n.table x b before text t s.seen.scopes m.seen.scopes there j.typed,
        subst (λ (e : tree.Initialiser). IsInitialiser n.table one (initialiser_place e) slot.type m.seen.scopes n.seen.scopes) (sym one_judged.erases) one_judged.typed,
        slot-kept m.table n.table x b text t (items_count before) slot.offset slot.type there part,
        subst (λ (f : Bool). IsItemFor f one) (sym (scalar-same m.table n.table x b t there)) alone,
      );
      erases = λ d. tree.AndItem (j.erases d) (one_judged.erases d);
      linkage = one_judged.linkage ∙ j.linkage;
      goes = goes-on (state_of s) (state_of m) (state_of n) j.goes one_judged.goes;
    })

mutual
  unfolding judge_initialiser judge_items

  pub initialiser-judged : (i : tree.Initialiser) (constant : Bool) → IsJudgedAs constant i
  initialiser-judged (tree.Value e) constant at t single one s r k c h = (plain-judged constant e at t one s r k c h).judged
  initialiser-judged (tree.Listed brace items comma) constant at t true one s r k c h = braces-never brace items one s r h
  initialiser-judged (tree.Listed brace items comma) constant at t false one s r k c h =
      let text = is_only_literal items && is_char_array s.table t in
      let two = bind-gives (judge_items constant items text t s) (λ list. pure (typed.Listed brace list comma t)) one r h in
      let j = items-judged items constant text t two.0 s two.1 k c two.2 in
      given-same (λ (v : TypedInitialiser) (q : UnitState). IsInitialiserJudged (tree.Listed brace items comma) at t v s q) (typed.Listed brace two.0 comma t) one two.1 r two.3
      (listed brace items comma at t two.0 s two.1 k c j)

  pub items-judged : (all : tree.Items) (constant text : Bool) (t : TypeId) (list : TypedItems) (s r : UnitState) → IsKnown (state_of s) → IsComplete s.table t
      → judge_items constant all text t s ≡ Gives list r → AreItemsJudged all text t list s r
  items-judged tree.NoItem constant text t list s r k c h =
      given-same (λ (v : TypedItems) (q : UnitState). AreItemsJudged tree.NoItem text t v s q) typed.NoItem list s r h
      (record { typed = refl; erases = refl; linkage = refl; goes = (stays (state_of s) k).goes })
  items-judged (tree.AndItem all i) constant text t list s r k c h =
      let one = bind-gives (judge_items constant all text t s) (λ before. λ m.
      next (judge_initialiser constant i (initialiser_place i) (slot_type (item_slot m.table text t (items_count before))) (is_scalar_shape (shape_at m.table t)) m)
      (λ v. with_item before (item_slot m.table text t (items_count before)) v)) list r h in
      let j = items-judged all constant text t one.0 s one.1 k c one.2 in
      let slot = item_slot one.1.table text t (items_count one.0) in
      let two = bind-gives (judge_initialiser constant i (initialiser_place i) (slot_type slot) (is_scalar_shape (shape_at one.1.table t)) one.1)
      (λ v. with_item one.0 slot v) list r one.3 in
      item-judged slot all i constant text t one.0 s one.1 (initialiser-judged i constant) k c j refl two.0 two.1 two.2 list r two.3
  items-judged (tree.AndMemberDesignator all at) constant text t list s r k c h = never-gives list (TooLarge at Types) s r h
  items-judged (tree.AndIndexDesignator all at) constant text t list s r k c h = never-gives list (TooLarge at Types) s r h
