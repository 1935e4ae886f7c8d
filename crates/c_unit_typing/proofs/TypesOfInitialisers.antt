-- What initialisers use, one after another in the order of the text.
use Rattle.std.proofs.Common.{◌≡◌, ℕ, Bool, true, false, ◌&&◌, List, [], ◌∷◌, ◌++◌, take, Option, Some, None, refl}
use Rattle.cc_base.specs.declared.place.Place.{Place}
use Rattle.cc_base.specs.declared.number.TypeId.{TypeId}
use Rattle.cc_base.specs.declared.fault.Fault.TheVariants.{TooLarge}
use Rattle.cc_base.specs.declared.fault.Limit.TheVariants.{Types}
use Rattle.c_types.specs.Table.{Table, IsComplete, shape_at}
use Rattle.c_tree.specs.Literals.{pieces_bytes}
use Rattle.c_tree.specs.Places.{expr_place, initialiser_place, nowhere}
use Rattle.c_tree.specs.Tree as tree
use Rattle.c_tree.specs.TypedTree as typed
use Rattle.c_tree.specs.TypedTree.{TypedExpr, TypedInitialiser, TypedItems}
use Rattle.c_tree.specs.TypedParts.{place_type}
use Rattle.c_typing.specs.Cells.{count_cells}
use Rattle.c_typing.specs.Checking.{checked_value}
use Rattle.c_typing.specs.Settled.{IsKnown}
use Rattle.c_typing.specs.Shapes.{is_scalar_shape}
use Rattle.c_typing.specs.Tests.{AsPlace, first_broken}
use Rattle.c_type_order.specs.TypesUsed.{used_by_place}
use Rattle.c_type_order.specs.Uses.{IsUsed}
use Rattle.c_type_order.proofs.Uses.{used-none, then_used, used-still}
use Rattle.c_type_order.proofs.UsedAssignments.{moved-table}
use Rattle.c_type_order.proofs.UsedConstructs.{ValueUsed}
use Rattle.c_type_order.proofs.UsedWhole.{checked_value-used}
use Rattle.c_unit_typing.specs.Initialisers.{Slot, char_count_of_shape, is_char_array, items_count}
use Rattle.c_unit_typing.specs.InitialiserJudging.{text_tests, text, initialised, constant_tests, value_for, value_or_text, judge_plain, is_only_literal, item_slot, slot_type, with_item, judge_initialiser, judge_items}
use Rattle.c_unit_typing.specs.TypesUsed.{used_by_initialiser, used_by_items}
use Rattle.c_unit_typing.specs.UnitJudged.{state_of}
use Rattle.c_unit_typing.specs.UnitJudging.{UnitState, Gives, next, pure, obeying, lifted}
use Rattle.c_unit_typing.proofs.JudgedInitialisers.{braces-never, slot_is, items-judged}
use Rattle.c_unit_typing.proofs.KeptInitialisers.{complete-kept, slot-complete}
use Rattle.c_unit_typing.proofs.UnitOutcomes.{never-gives, bind-gives, unless-gives, given-same, lifted-gives}

abbrev InitialiserUsed : TypedInitialiser → Table → Table → Type 0
InitialiserUsed i S R = IsUsed (λ U. used_by_initialiser U i) S R

abbrev ItemsUsed : TypedItems → Table → Table → Type 0
ItemsUsed list S R = IsUsed (λ U. used_by_items U list) S R

value_types : (v : TypedExpr) (one : TypedInitialiser) (S : Table) (m r : UnitState) → ValueUsed v S m.table → pure (typed.Value v) m ≡ Gives one r → InitialiserUsed one S r.table
value_types v one S m r n h = given-same (λ (i : TypedInitialiser) (q : UnitState). InitialiserUsed i S q.table) (typed.Value v) one m r h n

initialised_types : (at : Place) (v : TypedExpr) (one : TypedInitialiser) (S : Table) (m r : UnitState) → ValueUsed v S m.table → initialised at v m ≡ Gives one r → InitialiserUsed one S r.table
unfolding initialised
initialised_types at (typed.Unread p) one S m r n h =
    let two = bind-gives (lifted (count_cells at (place_type p)) m) (λ c. pure (typed.Copied p at)) one r h in
    let counted = lifted-gives (count_cells at (place_type p)) two.0 m two.1 two.2 in
    given-same (λ (i : TypedInitialiser) (q : UnitState). InitialiserUsed i S q.table) (typed.Copied p at) one two.1 r two.3
    (used-still (λ U. used_by_place U p) S m.table two.1.table (moved-table at (place_type p) (AsPlace p) two.0 (state_of m) (state_of two.1) counted.0) n)
initialised_types at v one S m r n h = value_types v one S m r n h

value_for_types : (constant : Bool) (at : Place) (t : TypeId) (e : tree.Expr) (one : TypedInitialiser) (s r : UnitState) → IsKnown (state_of s)
    → value_for constant at t e s ≡ Gives one r → InitialiserUsed one s.table r.table
unfolding value_for
value_for_types constant at t e one s r k h =
    let first = bind-gives (lifted (checked_value t at true e) s)
    (λ v. obeying (λ q. constant_tests q.table constant q.linkage.statics (expr_place e) v) (initialised at v)) one r h in
    let v = first.0 in
    let m = first.1 in
    let l = lifted-gives (checked_value t at true e) v s m first.2 in
    let go = unless-gives (first_broken (constant_tests m.table constant m.linkage.statics (expr_place e) v)) (initialised at v) m one r first.3 in
    initialised_types at v one s.table m r (checked_value-used t at true e v (state_of s) (state_of m) k l.0) go.1

value_or_text_types : (constant : Bool) (at : Place) (t : TypeId) (e : tree.Expr) (count : Option ℕ) (one : TypedInitialiser) (s r : UnitState) → IsKnown (state_of s)
    → value_or_text constant at t e count s ≡ Gives one r → InitialiserUsed one s.table r.table
unfolding value_or_text text
value_or_text_types constant at t (tree.String pieces) (Some count) one s r k h =
    let bytes : List ℕ = take count (pieces_bytes pieces ++ 0 ∷ []) in
    let go = unless-gives (first_broken (text_tests at count pieces)) (pure (typed.Text pieces bytes)) s one r h in
    given-same (λ (i : TypedInitialiser) (q : UnitState). InitialiserUsed i s.table q.table) (typed.Text pieces bytes) one s r go.1 (used-none s.table)
value_or_text_types constant at t (tree.String pieces) None one s r k h = value_for_types constant at t (tree.String pieces) one s r k h
value_or_text_types constant at t e count one s r k h = value_for_types constant at t e one s r k h

plain_types : (constant : Bool) (e : tree.Expr) (at : Place) (t : TypeId) (one : TypedInitialiser) (s r : UnitState) → IsKnown (state_of s)
    → judge_plain constant e at (Some t) s ≡ Gives one r → InitialiserUsed one s.table r.table
unfolding judge_plain
plain_types constant e at t one s r k h = value_or_text_types constant at t e (char_count_of_shape s.table (shape_at s.table t)) one s r k h

abbrev IsUsedAs : Bool → tree.Initialiser → Type 0
IsUsedAs constant i = (at : Place) (t : TypeId) (single : Bool) (one : TypedInitialiser) (s r : UnitState) → IsKnown (state_of s) → IsComplete s.table t
    → judge_initialiser constant i at (Some t) single s ≡ Gives one r → InitialiserUsed one s.table r.table

item_types : (slot : Option Slot) (i : tree.Initialiser) (constant text : Bool) (t : TypeId) (before : TypedItems) (S : Table) (m : UnitState) → IsUsedAs constant i → IsKnown (state_of m)
    → IsComplete m.table t → ItemsUsed before S m.table → item_slot m.table text t (items_count before) ≡ slot
    → (one : TypedInitialiser) (n : UnitState) → judge_initialiser constant i (initialiser_place i) (slot_type slot) (is_scalar_shape (shape_at m.table t)) m ≡ Gives one n
    → (list : TypedItems) (r : UnitState) → with_item before slot one n ≡ Gives list r → ItemsUsed list S r.table
unfolding with_item
item_types None i constant text t before S m rec k c used q one n h list r g = never-gives list (TooLarge nowhere Types) n r g
item_types (Some slot) i constant text t before S m rec k c used q one n h list r g =
    let whole = slot-complete m.table k.basic text t (items_count before) slot.offset slot.type c (slot_is m.table text t (items_count before) slot q) in
    given-same (λ (v : TypedItems) (w : UnitState). ItemsUsed v S w.table) (typed.AndItem before slot.offset slot.type one) list n r g
    (then_used (λ U. used_by_items U before) (λ U. used_by_initialiser U one) S m.table n.table used
    (rec (initialiser_place i) slot.type (is_scalar_shape (shape_at m.table t)) one m n k whole h))

mutual
  unfolding judge_initialiser judge_items

  pub initialiser-types : (i : tree.Initialiser) (constant : Bool) → IsUsedAs constant i
  initialiser-types (tree.Value e) constant at t single one s r k c h = plain_types constant e at t one s r k h
  initialiser-types (tree.Listed brace items comma) constant at t true one s r k c h = braces-never brace items one s r h
  initialiser-types (tree.Listed brace items comma) constant at t false one s r k c h =
      let text = is_only_literal items && is_char_array s.table t in
      let two = bind-gives (judge_items constant items text t s) (λ list. pure (typed.Listed brace list comma t)) one r h in
      given-same (λ (v : TypedInitialiser) (q : UnitState). InitialiserUsed v s.table q.table) (typed.Listed brace two.0 comma t) one two.1 r two.3
      (items_types items constant text t two.0 s two.1 k c two.2)

  items_types : (all : tree.Items) (constant text : Bool) (t : TypeId) (list : TypedItems) (s r : UnitState) → IsKnown (state_of s) → IsComplete s.table t
      → judge_items constant all text t s ≡ Gives list r → ItemsUsed list s.table r.table
  items_types tree.NoItem constant text t list s r k c h =
      given-same (λ (v : TypedItems) (q : UnitState). ItemsUsed v s.table q.table) typed.NoItem list s r h (used-none s.table)
  items_types (tree.AndItem all i) constant text t list s r k c h =
      let one = bind-gives (judge_items constant all text t s) (λ before. λ m.
      next (judge_initialiser constant i (initialiser_place i) (slot_type (item_slot m.table text t (items_count before))) (is_scalar_shape (shape_at m.table t)) m)
      (λ v. with_item before (item_slot m.table text t (items_count before)) v)) list r h in
      let j = items-judged all constant text t one.0 s one.1 k c one.2 in
      let slot = item_slot one.1.table text t (items_count one.0) in
      let two = bind-gives (judge_initialiser constant i (initialiser_place i) (slot_type slot) (is_scalar_shape (shape_at one.1.table t)) one.1)
      (λ v. with_item one.0 slot v) list r one.3 in
      item_types slot i constant text t one.0 s.table one.1 (initialiser-types i constant) j.goes.known (complete-kept s.table one.1.table j.goes.extends k.basic t c)
      (items_types all constant text t one.0 s one.1 k c one.2) refl two.0 two.1 two.2 list r two.3
  items_types (tree.AndMemberDesignator all at) constant text t list s r k c h = never-gives list (TooLarge at Types) s r h
  items_types (tree.AndIndexDesignator all at) constant text t list s r k c h = never-gives list (TooLarge at Types) s r h
