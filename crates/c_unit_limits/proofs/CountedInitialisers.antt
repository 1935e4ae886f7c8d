-- What judging counts for initialisers is the bytes of the literals that it gives.
use Rattle.std.proofs.Common.{◌≡◌, ℕ, Bool, true, false, ◌&&◌, ◌+◌, List, [], ◌∷◌, ◌++◌, take, Option, Some, None, refl, subst, ◌∙◌, arith}
use Rattle.cc_base.specs.declared.place.Place.{Place}
use Rattle.cc_base.specs.declared.number.TypeId.{TypeId}
use Rattle.cc_base.specs.declared.fault.Fault.TheVariants.{TooLarge}
use Rattle.cc_base.specs.declared.fault.Limit.TheVariants.{Types}
use Rattle.c_types.specs.Table.{IsType, IsComplete, shape_at}
use Rattle.c_tree.specs.Literals.{pieces_bytes}
use Rattle.c_tree.specs.Places.{expr_place, initialiser_place, nowhere}
use Rattle.c_tree.specs.Tree as tree
use Rattle.c_tree.specs.TypedTree as typed
use Rattle.c_tree.specs.TypedTree.{TypedExpr, TypedPlace, TypedInitialiser, TypedItems}
use Rattle.c_tree.specs.TypedParts.{Made, Copy, place_type, made_by, made_by_place, made_by_initialiser, made_by_items}
use Rattle.c_typing.specs.Cells.{count_cells}
use Rattle.c_typing.specs.Checking.{checked_value}
use Rattle.c_typing.specs.Judging as judging
use Rattle.c_typing.specs.Judging.{State, Outcome}
use Rattle.c_typing.specs.Settled.{IsKnown}
use Rattle.c_typing.specs.Shapes.{is_scalar_shape}
use Rattle.c_typing.specs.Tests.{first_broken}
use Rattle.c_unit_limits.specs.Literals.{literals_made}
use Rattle.c_unit_limits.proofs.Kept.{Kept}
use Rattle.c_unit_limits.proofs.KeptTypes.{count_cells-kept}
use Rattle.c_unit_limits.proofs.CountedLiterals.{becomes-counted}
use Rattle.c_unit_limits.proofs.LiteralsMade.{literals-append}
use Rattle.c_unit_typing.specs.Initialisers.{Slot, char_count_of_shape, is_char_array, items_count}
use Rattle.c_unit_typing.specs.InitialiserJudging.{text_tests, text, initialised, constant_tests, value_for, value_or_text, judge_plain, is_only_literal, item_slot, slot_type, with_item, judge_initialiser, judge_items}
use Rattle.c_unit_typing.specs.UnitJudged.{state_of}
use Rattle.c_unit_typing.specs.UnitJudging.{UnitState, Gives, next, pure, obeying, lifted}
use Rattle.c_unit_typing.proofs.JudgedInitialisers.{braces-never, slot_is, items-judged}
use Rattle.c_unit_typing.proofs.KeptInitialisers.{complete-in, complete-kept, slot-complete}
use Rattle.c_unit_typing.proofs.UnitOutcomes.{never-gives, bind-gives, unless-gives, given-same, lifted-gives}

-- so much is counted from the state s to the state r
abbrev pub Counts : List Made → UnitState → UnitState → Type 0
Counts made s r = r.seen.globals ≡ s.seen.globals + literals_made made

pub counts-on : (xs ys : List Made) (s m r : UnitState) → Counts xs s m → Counts ys m r → Counts (xs ++ ys) s r
counts-on xs ys s m r p q = let e = literals-append xs ys in omega (arith, p, q, e)

pub counts-none : (s : UnitState) → Counts [] s s
counts-none s = omega arith

abbrev AreMade : TypedInitialiser → UnitState → UnitState → Type 0
AreMade i s r = Counts (made_by_initialiser i) s r

-- counting pointers counts no bytes
cells-stay : (at : Place) (t u : TypeId) (s r : State) → count_cells at t s ≡ judging.Gives u r → r.seen.globals ≡ s.seen.globals
cells-stay at t u s r h = (subst (λ (m : Outcome TypeId). Kept m s) h ((count_cells-kept at t).kept s)).1

value-counts : (v : TypedExpr) (one : TypedInitialiser) (s m r : UnitState) → Counts (made_by v) s m → pure (typed.Value v) m ≡ Gives one r → AreMade one s r
value-counts v one s m r n h = given-same (λ (i : TypedInitialiser) (q : UnitState). AreMade i s q) (typed.Value v) one m r h n

initialised-counts : (at : Place) (v : TypedExpr) (one : TypedInitialiser) (s m r : UnitState) → Counts (made_by v) s m
    → initialised at v m ≡ Gives one r → AreMade one s r
unfolding initialised
initialised-counts at (typed.Unread p) one s m r n h =
    let two = bind-gives (lifted (count_cells at (place_type p)) m) (λ c. pure (typed.Copied p at)) one r h in
    let counted = lifted-gives (count_cells at (place_type p)) two.0 m two.1 two.2 in
    let still = cells-stay at (place_type p) two.0 (state_of m) (state_of two.1) counted.0 in
    given-same (λ (i : TypedInitialiser) (q : UnitState). AreMade i s q) (typed.Copied p at) one two.1 r two.3
    (counts-on (made_by_place p) (Copy (place_type p) ∷ []) s two.1 two.1 (still ∙ n) (counts-none two.1))
initialised-counts at v one s m r n h = value-counts v one s m r n h

value_for-counts : (constant : Bool) (at : Place) (t : TypeId) (e : tree.Expr) (one : TypedInitialiser) (s r : UnitState) → IsKnown (state_of s) → IsType s.table t
    → value_for constant at t e s ≡ Gives one r → AreMade one s r
unfolding value_for
value_for-counts constant at t e one s r k b h =
    let first = bind-gives (lifted (checked_value t at true e) s)
    (λ v. obeying (λ q. constant_tests q.table constant q.linkage.statics (expr_place e) v) (initialised at v)) one r h in
    let v = first.0 in
    let m = first.1 in
    let l = lifted-gives (checked_value t at true e) v s m first.2 in
    let go = unless-gives (first_broken (constant_tests m.table constant m.linkage.statics (expr_place e) v)) (initialised at v) m one r first.3 in
    initialised-counts at v one s m r (becomes-counted t at true e v (state_of s) (state_of m) k b l.0) go.1

value_or_text-counts : (constant : Bool) (at : Place) (t : TypeId) (e : tree.Expr) (count : Option ℕ) (one : TypedInitialiser) (s r : UnitState) → IsKnown (state_of s) → IsType s.table t
    → value_or_text constant at t e count s ≡ Gives one r → AreMade one s r
unfolding value_or_text text
value_or_text-counts constant at t (tree.String pieces) (Some count) one s r k b h =
    let bytes : List ℕ = take count (pieces_bytes pieces ++ 0 ∷ []) in
    let go = unless-gives (first_broken (text_tests at count pieces)) (pure (typed.Text pieces bytes)) s one r h in
    given-same (λ (i : TypedInitialiser) (q : UnitState). AreMade i s q) (typed.Text pieces bytes) one s r go.1 (counts-none s)
value_or_text-counts constant at t (tree.String pieces) None one s r k b h = value_for-counts constant at t (tree.String pieces) one s r k b h
value_or_text-counts constant at t e count one s r k b h = value_for-counts constant at t e one s r k b h

plain-counts : (constant : Bool) (e : tree.Expr) (at : Place) (t : TypeId) (one : TypedInitialiser) (s r : UnitState) → IsKnown (state_of s) → IsType s.table t
    → judge_plain constant e at (Some t) s ≡ Gives one r → AreMade one s r
unfolding judge_plain
plain-counts constant e at t one s r k b h = value_or_text-counts constant at t e (char_count_of_shape s.table (shape_at s.table t)) one s r k b h

abbrev IsMadeAs : Bool → tree.Initialiser → Type 0
IsMadeAs constant i = (at : Place) (t : TypeId) (single : Bool) (one : TypedInitialiser) (s r : UnitState) → IsKnown (state_of s) → IsComplete s.table t
    → judge_initialiser constant i at (Some t) single s ≡ Gives one r → AreMade one s r

item-counts : (slot : Option Slot) (i : tree.Initialiser) (constant text : Bool) (t : TypeId) (before : TypedItems) (s m : UnitState) → IsMadeAs constant i → IsKnown (state_of m)
    → IsComplete m.table t → Counts (made_by_items before) s m → item_slot m.table text t (items_count before) ≡ slot
    → (one : TypedInitialiser) (n : UnitState) → judge_initialiser constant i (initialiser_place i) (slot_type slot) (is_scalar_shape (shape_at m.table t)) m ≡ Gives one n
    → (list : TypedItems) (r : UnitState) → with_item before slot one n ≡ Gives list r → Counts (made_by_items list) s r
unfolding with_item
item-counts None i constant text t before s m rec k c made q one n h list r g = never-gives list (TooLarge nowhere Types) n r g
item-counts (Some slot) i constant text t before s m rec k c made q one n h list r g =
    let whole = slot-complete m.table k.basic text t (items_count before) slot.offset slot.type c (slot_is m.table text t (items_count before) slot q) in
    given-same (λ (v : TypedItems) (w : UnitState). Counts (made_by_items v) s w) (typed.AndItem before slot.offset slot.type one) list n r g
    (counts-on (made_by_items before) (made_by_initialiser one) s m n made
    (rec (initialiser_place i) slot.type (is_scalar_shape (shape_at m.table t)) one m n k whole h))

mutual
  unfolding judge_initialiser judge_items

  pub initialiser-counts : (i : tree.Initialiser) (constant : Bool) → IsMadeAs constant i
  initialiser-counts (tree.Value e) constant at t single one s r k c h = plain-counts constant e at t one s r k (complete-in s.table t c) h
  initialiser-counts (tree.Listed brace items comma) constant at t true one s r k c h = braces-never brace items one s r h
  initialiser-counts (tree.Listed brace items comma) constant at t false one s r k c h =
      let text = is_only_literal items && is_char_array s.table t in
      let two = bind-gives (judge_items constant items text t s) (λ list. pure (typed.Listed brace list comma t)) one r h in
      given-same (λ (v : TypedInitialiser) (q : UnitState). AreMade v s q) (typed.Listed brace two.0 comma t) one two.1 r two.3
      (items-counts items constant text t two.0 s two.1 k c two.2)

  pub items-counts : (all : tree.Items) (constant text : Bool) (t : TypeId) (list : TypedItems) (s r : UnitState) → IsKnown (state_of s) → IsComplete s.table t
      → judge_items constant all text t s ≡ Gives list r → Counts (made_by_items list) s r
  items-counts tree.NoItem constant text t list s r k c h =
      given-same (λ (v : TypedItems) (q : UnitState). Counts (made_by_items v) s q) typed.NoItem list s r h (counts-none s)
  items-counts (tree.AndItem all i) constant text t list s r k c h =
      let one = bind-gives (judge_items constant all text t s) (λ before. λ m.
      next (judge_initialiser constant i (initialiser_place i) (slot_type (item_slot m.table text t (items_count before))) (is_scalar_shape (shape_at m.table t)) m)
      (λ v. with_item before (item_slot m.table text t (items_count before)) v)) list r h in
      let j = items-judged all constant text t one.0 s one.1 k c one.2 in
      let slot = item_slot one.1.table text t (items_count one.0) in
      let two = bind-gives (judge_initialiser constant i (initialiser_place i) (slot_type slot) (is_scalar_shape (shape_at one.1.table t)) one.1)
      (λ v. with_item one.0 slot v) list r one.3 in
      item-counts slot i constant text t one.0 s one.1 (initialiser-counts i constant) j.goes.known (complete-kept s.table one.1.table j.goes.extends k.basic t c)
      (items-counts all constant text t one.0 s one.1 k c one.2) refl two.0 two.1 two.2 list r two.3
  items-counts (tree.AndMemberDesignator all at) constant text t list s r k c h = never-gives list (TooLarge at Types) s r h
  items-counts (tree.AndIndexDesignator all at) constant text t list s r k c h = never-gives list (TooLarge at Types) s r h
