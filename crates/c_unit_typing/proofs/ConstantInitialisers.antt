-- What judging gives for the initialiser of what lives as long as the program is constant, and stays so.
use Rattle.std.proofs.Common.{◌≡◌, ℕ, ℤ, Bool, true, false, not, ◌&&◌, List, [], ◌∷◌, ◌++◌, take, Option, Some, None, refl, ap, sym, ◌∙◌, if◌then◌else◌}
use Rattle.cc_base.specs.declared.place.Place.{Place}
use Rattle.cc_base.specs.declared.number.NodeId.{NodeId}
use Rattle.cc_base.specs.declared.number.TypeId.{TypeId}
use Rattle.cc_base.specs.declared.fault.Fault.TheVariants.{Refused, TooLarge}
use Rattle.cc_base.specs.declared.fault.Limit.TheVariants.{Types}
use Rattle.cc_base.specs.declared.fault.Rule.TheVariants as rule
use Rattle.c_types.specs.declared.shape.TypeShape.{TypeShape}
use Rattle.c_types.specs.declared.shape.TypeShape.TheVariants.{Void, Integer, Pointer, Array, Function, Struct, Union}
use Rattle.c_types.specs.Table.{Table, IsComplete, shape_at}
use Rattle.c_tree.specs.Literals.{pieces_bytes}
use Rattle.c_tree.specs.declared.typed_word.Side.TheVariants as side
use Rattle.c_tree.specs.Places.{expr_place, initialiser_place, nowhere}
use Rattle.c_tree.specs.Tree as tree
use Rattle.c_tree.specs.TypedTree as typed
use Rattle.c_tree.specs.TypedTree.{TypedExpr, TypedPlace, TypedInitialiser, TypedItems}
use Rattle.c_tree.specs.TypedParts.{type_of, item_place}
use Rattle.c_typing.specs.Checking.{checked_value}
use Rattle.c_typing.specs.Constants.{constant_value}
use Rattle.c_typing.specs.Extensions.{IsExtended}
use Rattle.c_typing.specs.Scopes.{Scopes}
use Rattle.c_typing.specs.Settled.{IsBasic, IsKnown}
use Rattle.c_typing.specs.Shapes.{is_integer_shape, is_scalar_shape}
use Rattle.c_typing.specs.Tests.{first_broken}
use Rattle.c_typing.specs.Typing.{IsTyped, IsPlace}
use Rattle.c_typing_laws.proofs.ConstructLaws.{one_unbroken, not_false}
use Rattle.c_typing_laws.proofs.ExtensionLaws.{no_true, and_left, and_right, and_true}
use Rattle.c_typing_laws.proofs.KeptConstants.{own-in, scalar_in, constant-in, constant-kept}
use Rattle.c_unit_typing.specs.Initialisers.{Slot, char_count_of_shape, is_char_array, is_only_text, items_count, has_value, is_integer_constant, is_integer_value, is_division, is_constant_place, is_constant_array, is_constant, is_constant_initialiser, are_constant_items, IsInitialiser, AreItems}
use Rattle.c_unit_typing.specs.InitialiserJudging.{text_tests, text, initialised, constant_tests, value_for, value_or_text, judge_plain, is_only_literal, item_slot, slot_type, with_item, judge_initialiser, judge_items}
use Rattle.c_unit_typing.specs.Linkage.{Linkage}
use Rattle.c_unit_typing.specs.UnitJudged.{state_of, AreItemsJudged}
use Rattle.c_unit_typing.specs.UnitJudging.{UnitState, Gives, next, pure, obeying, lifted}
use Rattle.c_unit_typing.proofs.JudgedInitialisers.{braces-never, slot_is, initialiser-judged, items-judged}
use Rattle.c_unit_typing.proofs.KeptInitialisers.{complete-kept, slot-complete}
use Rattle.c_unit_typing.proofs.UnitOutcomes.{never-gives, bind-gives, unless-gives, given-same, lifted-gives}

-- Tables that follow

some_value : (o : Option ℤ) → has_value o ≡ true → (z : ℤ) × (o ≡ Some z)
some_value (Some z) h = (z, refl)
some_value None h = no_true h

both_kept : (a c a' c' : Bool) → (a ≡ true → a' ≡ true) → (c ≡ true → c' ≡ true) → (a && c) ≡ true → (a' && c') ≡ true
both_kept a c a' c' f g h = and_true a' c' (f (and_left a c h)) (g (and_right a c h))

either_kept : (d a c a' c' : Bool) → (a ≡ true → a' ≡ true) → (c ≡ true → c' ≡ true) → (if d then a else c) ≡ true → (if d then a' else c') ≡ true
either_kept true a c a' c' f g h = f h
either_kept false a c a' c' f g h = g h

integer_scalar : (s : TypeShape) → is_integer_shape s ≡ true → is_scalar_shape s ≡ true
integer_scalar (Integer bytes signed) h = refl
integer_scalar (Pointer n t) h = no_true h
integer_scalar Void h = no_true h
integer_scalar (Array t n) h = no_true h
integer_scalar (Function ps r) h = no_true h
integer_scalar (Struct n) h = no_true h
integer_scalar (Union n) h = no_true h

module _ (T U : Table) (x : IsExtended T U) (b : IsBasic T) where
  integer_value-kept : (e : TypedExpr) → is_integer_value T e ≡ true → is_integer_value U e ≡ true
  integer_value-kept e h =
      ap is_integer_shape (x.shapes (type_of e) (scalar_in T (type_of e) (integer_scalar (shape_at T (type_of e)) h))) ∙ h

  integer-kept : (e : TypedExpr) (s s' : Scopes) → IsTyped T e s s' → is_integer_constant T e ≡ true → is_integer_constant U e ≡ true
  integer-kept e s s' typed h =
      let v = some_value (constant_value T e) h in
      ap has_value (constant-kept T U x b e s s' typed (own-in T e (constant-in T e s s' v.0 typed v.1)) ∙ v.1)

  mutual
    place_constant-kept : (homes : List NodeId) (p : TypedPlace) (s s' : Scopes) → IsPlace T p s s' → is_constant_place T homes p ≡ true → is_constant_place U homes p ≡ true
    place_constant-kept homes (typed.Variable name home t) s s' j h = h
    place_constant-kept homes (typed.String pieces home t) s s' j h = refl
    place_constant-kept homes (typed.ParenPlace at p) s s' j h = place_constant-kept homes p s s' j h
    place_constant-kept homes (typed.Member p at name i n t) s s' j h = place_constant-kept homes p s s' j.0 h
    place_constant-kept homes (typed.Element side.Left a at c t) s s' j h =
        and_true (is_constant_array U homes a) (is_integer_constant U c)
        (array_constant-kept homes a s j.0 j.1 (and_left (is_constant_array T homes a) (is_integer_constant T c) h))
        (integer-kept c j.0 s' j.2 (and_right (is_constant_array T homes a) (is_integer_constant T c) h))
    place_constant-kept homes (typed.Element side.Right a at c t) s s' j h =
        and_true (is_integer_constant U a) (is_constant_array U homes c)
        (integer-kept a s j.0 j.1 (and_left (is_integer_constant T a) (is_constant_array T homes c) h))
        (array_constant-kept homes c j.0 s' j.2 (and_right (is_integer_constant T a) (is_constant_array T homes c) h))
    place_constant-kept homes p s s' j h = no_true h

    array_constant-kept : (homes : List NodeId) (e : TypedExpr) (s s' : Scopes) → IsTyped T e s s' → is_constant_array T homes e ≡ true → is_constant_array U homes e ≡ true
    array_constant-kept homes (typed.Paren at e) s s' j h = array_constant-kept homes e s s' j.0 h
    array_constant-kept homes (typed.Decay p n t) s s' j h = place_constant-kept homes p s s' j.0 h
    array_constant-kept homes e s s' j h = no_true h

  pub is_constant-kept : (homes : List NodeId) (e : TypedExpr) (s s' : Scopes) → IsTyped T e s s' → is_constant T homes e ≡ true → is_constant U homes e ≡ true
  is_constant-kept homes (typed.FunctionName name number n t) s s' j h = refl
  is_constant-kept homes (typed.FunctionAt at e) s s' j h = is_constant-kept homes e s s' j.0 h
  is_constant-kept homes (typed.AddressOfFunction at e) s s' j h = is_constant-kept homes e s s' j.0 h
  is_constant-kept homes (typed.Paren at e) s s' j h = is_constant-kept homes e s s' j.0 h
  is_constant-kept homes (typed.Decay p n t) s s' j h = place_constant-kept homes p s s' j.0 h
  is_constant-kept homes (typed.AddressOf at p n t) s s' j h = place_constant-kept homes p s s' j.0 h
  is_constant-kept homes (typed.AddressOfElement at p t) s s' j h = place_constant-kept homes p s s' j.0 h
  is_constant-kept homes (typed.Convert which at t e) s s' j h = is_constant-kept homes e s s' j.0 h
  is_constant-kept homes (typed.Cast which at to e) s s' j h = is_constant-kept homes e j.0 s' j.2 h
  is_constant-kept homes (typed.Moved operator side.Left a at c t) s s' j h =
      and_true (is_constant U homes a) (is_integer_constant U c)
      (is_constant-kept homes a s j.0 j.1 (and_left (is_constant T homes a) (is_integer_constant T c) h))
      (integer-kept c j.0 s' j.2 (and_right (is_constant T homes a) (is_integer_constant T c) h))
  is_constant-kept homes (typed.Moved operator side.Right a at c t) s s' j h =
      and_true (is_integer_constant U a) (is_constant U homes c)
      (integer-kept a s j.0 j.1 (and_left (is_integer_constant T a) (is_constant T homes c) h))
      (is_constant-kept homes c j.0 s' j.2 (and_right (is_integer_constant T a) (is_constant T homes c) h))
  is_constant-kept homes (typed.Prefix operator at e t) s s' j h =
      both_kept (is_integer_value T e) (is_constant T homes e) (is_integer_value U e) (is_constant U homes e) (integer_value-kept e)
      (λ g. is_constant-kept homes e s s' j.0 g) h
  is_constant-kept homes (typed.Arithmetic operator a at c t) s s' j h =
      either_kept (is_division operator) (is_integer_constant T (typed.Arithmetic operator a at c t)) (is_constant T homes a && is_constant T homes c)
      (is_integer_constant U (typed.Arithmetic operator a at c t)) (is_constant U homes a && is_constant U homes c)
      (λ g. integer-kept (typed.Arithmetic operator a at c t) s s' j g)
      (both_kept (is_constant T homes a) (is_constant T homes c) (is_constant U homes a) (is_constant U homes c) (λ g. is_constant-kept homes a s j.0 j.1 g)
      (λ g. is_constant-kept homes c j.0 s' j.2 g)) h
  is_constant-kept homes (typed.Logical operator a at c t) s s' j h =
      both_kept (is_integer_value T a && is_constant T homes a) (is_integer_value T c && is_constant T homes c)
      (is_integer_value U a && is_constant U homes a) (is_integer_value U c && is_constant U homes c)
      (both_kept (is_integer_value T a) (is_constant T homes a) (is_integer_value U a) (is_constant U homes a) (integer_value-kept a)
      (λ g. is_constant-kept homes a s j.0 j.1 g))
      (both_kept (is_integer_value T c) (is_constant T homes c) (is_integer_value U c) (is_constant U homes c) (integer_value-kept c)
      (λ g. is_constant-kept homes c j.0 s' j.2 g)) h
  is_constant-kept homes (typed.Conditional e at a c t) s s' j h =
      both_kept (is_integer_value T e && is_constant T homes e) (is_constant T homes a && is_constant T homes c)
      (is_integer_value U e && is_constant U homes e) (is_constant U homes a && is_constant U homes c)
      (both_kept (is_integer_value T e) (is_constant T homes e) (is_integer_value U e) (is_constant U homes e) (integer_value-kept e)
      (λ g. is_constant-kept homes e s j.0 j.2 g))
      (both_kept (is_constant T homes a) (is_constant T homes c) (is_constant U homes a) (is_constant U homes c) (λ g. is_constant-kept homes a j.0 j.1 j.3 g)
      (λ g. is_constant-kept homes c j.1 s' j.4 g)) h
  is_constant-kept homes e s s' j h = integer-kept e s s' j h

  mutual
    pub initialiser_constant-kept : (homes : List NodeId) (i : TypedInitialiser) (at : Place) (t : TypeId) (s s' : Scopes) → IsInitialiser T i at t s s'
        → is_constant_initialiser T homes i ≡ true → is_constant_initialiser U homes i ≡ true
    initialiser_constant-kept homes (typed.Value e) at t s s' j h = is_constant-kept homes e s s' j.0 h
    initialiser_constant-kept homes (typed.Copied p seat) at t s s' j h = no_true h
    initialiser_constant-kept homes (typed.Text pieces bytes) at t s s' j h = refl
    initialiser_constant-kept homes (typed.Listed brace items comma u) at t s s' j h = items_constant-kept homes items (is_only_text items && is_char_array T t) t s s' j.1 h

    pub items_constant-kept : (homes : List NodeId) (all : TypedItems) (text : Bool) (t : TypeId) (s s' : Scopes) → AreItems T all text t s s'
        → are_constant_items T homes all ≡ true → are_constant_items U homes all ≡ true
    items_constant-kept homes typed.NoItem text t s s' j h = refl
    items_constant-kept homes (typed.AndItem all offset u i) text t s s' j h =
        and_true (are_constant_items U homes all) (is_constant_initialiser U homes i)
        (items_constant-kept homes all text t s j.0 j.1 (and_left (are_constant_items T homes all) (is_constant_initialiser T homes i) h))
        (initialiser_constant-kept homes i (item_place i) u j.0 s' j.2 (and_right (are_constant_items T homes all) (is_constant_initialiser T homes i) h))

-- Judging

abbrev IsConstantIn : UnitState → TypedInitialiser → UnitState → Type 0
IsConstantIn s i r = is_constant_initialiser r.table s.linkage.statics i ≡ true

value-constant : (v : TypedExpr) (one : TypedInitialiser) (s m r : UnitState) → is_constant m.table s.linkage.statics v ≡ true → pure (typed.Value v) m ≡ Gives one r → IsConstantIn s one r
value-constant v one s m r c h = given-same (λ (i : TypedInitialiser) (q : UnitState). IsConstantIn s i q) (typed.Value v) one m r h c

initialised-constant : (at : Place) (v : TypedExpr) (one : TypedInitialiser) (s m r : UnitState) → is_constant m.table s.linkage.statics v ≡ true
    → initialised at v m ≡ Gives one r → IsConstantIn s one r
unfolding initialised
initialised-constant at (typed.Unread p) one s m r c h = no_true c
initialised-constant at v one s m r c h = value-constant v one s m r c h

value_for-constant : (at : Place) (t : TypeId) (e : tree.Expr) (one : TypedInitialiser) (s r : UnitState) → value_for true at t e s ≡ Gives one r → IsConstantIn s one r
unfolding value_for
value_for-constant at t e one s r h =
    let first = bind-gives (lifted (checked_value t at true e) s)
    (λ v. obeying (λ q. constant_tests q.table true q.linkage.statics (expr_place e) v) (initialised at v)) one r h in
    let v = first.0 in
    let m = first.1 in
    let l = lifted-gives (checked_value t at true e) v s m first.2 in
    let go = unless-gives (first_broken (constant_tests m.table true m.linkage.statics (expr_place e) v)) (initialised at v) m one r first.3 in
    let yes = not_false (is_constant m.table m.linkage.statics v) (one_unbroken (not (is_constant m.table m.linkage.statics v)) (Refused (expr_place e) rule.NotConstant) go.0) in
    initialised-constant at v one s m r (ap (λ (k : Linkage). is_constant m.table k.statics v) (sym l.1) ∙ yes) go.1

value_or_text-constant : (at : Place) (t : TypeId) (e : tree.Expr) (count : Option ℕ) (one : TypedInitialiser) (s r : UnitState)
    → value_or_text true at t e count s ≡ Gives one r → IsConstantIn s one r
unfolding value_or_text text
value_or_text-constant at t (tree.String pieces) (Some count) one s r h =
    let bytes : List ℕ = take count (pieces_bytes pieces ++ 0 ∷ []) in
    let go = unless-gives (first_broken (text_tests at count pieces)) (pure (typed.Text pieces bytes)) s one r h in
    given-same (λ (i : TypedInitialiser) (q : UnitState). IsConstantIn s i q) (typed.Text pieces bytes) one s r go.1 refl
value_or_text-constant at t (tree.String pieces) None one s r h = value_for-constant at t (tree.String pieces) one s r h
value_or_text-constant at t e count one s r h = value_for-constant at t e one s r h

plain-constant : (e : tree.Expr) (at : Place) (t : TypeId) (one : TypedInitialiser) (s r : UnitState) → judge_plain true e at (Some t) s ≡ Gives one r → IsConstantIn s one r
unfolding judge_plain
plain-constant e at t one s r h = value_or_text-constant at t e (char_count_of_shape s.table (shape_at s.table t)) one s r h

abbrev IsConstantAs : tree.Initialiser → Type 0
IsConstantAs i = (at : Place) (t : TypeId) (single : Bool) (one : TypedInitialiser) (s r : UnitState) → IsKnown (state_of s) → IsComplete s.table t
    → judge_initialiser true i at (Some t) single s ≡ Gives one r → IsConstantIn s one r

module _ (all : tree.Items) (i : tree.Initialiser) (text : Bool) (t : TypeId) (before : TypedItems) (s m : UnitState) (rec : IsConstantAs i) (k : IsKnown (state_of s))
    (c : IsComplete s.table t) (j : AreItemsJudged all text t before s m) (known : are_constant_items m.table s.linkage.statics before ≡ true) where
  item-constant : (slot : Option Slot) → item_slot m.table text t (items_count before) ≡ slot → (one : TypedInitialiser) (n : UnitState)
      → judge_initialiser true i (initialiser_place i) (slot_type slot) (is_scalar_shape (shape_at m.table t)) m ≡ Gives one n → (list : TypedItems) (r : UnitState)
      → with_item before slot one n ≡ Gives list r → are_constant_items r.table s.linkage.statics list ≡ true
  unfolding with_item
  item-constant None q one n h list r g = never-gives list (TooLarge nowhere Types) n r g
  item-constant (Some slot) q one n h list r g =
      let there = complete-kept s.table m.table j.goes.extends k.basic t c in
      let part = slot_is m.table text t (items_count before) slot q in
      let whole = slot-complete m.table j.goes.known.basic text t (items_count before) slot.offset slot.type there part in
      let x = (initialiser-judged i true (initialiser_place i) slot.type (is_scalar_shape (shape_at m.table t)) one m n j.goes.known whole h).goes.extends in
      let one_constant = rec (initialiser_place i) slot.type (is_scalar_shape (shape_at m.table t)) one m n j.goes.known whole h in
      given-same (λ (v : TypedItems) (w : UnitState). are_constant_items w.table s.linkage.statics v ≡ true) (typed.AndItem before slot.offset slot.type one) list n r g
      (and_true (are_constant_items n.table s.linkage.statics before) (is_constant_initialiser n.table s.linkage.statics one)
      (items_constant-kept m.table n.table x j.goes.known.basic s.linkage.statics before text t s.seen.scopes m.seen.scopes j.typed known)
      (ap (λ (w : Linkage). is_constant_initialiser n.table w.statics one) (sym j.linkage) ∙ one_constant))

mutual
  unfolding judge_initialiser judge_items

  pub initialiser-constant : (i : tree.Initialiser) → IsConstantAs i
  initialiser-constant (tree.Value e) at t single one s r k c h = plain-constant e at t one s r h
  initialiser-constant (tree.Listed brace items comma) at t true one s r k c h = braces-never brace items one s r h
  initialiser-constant (tree.Listed brace items comma) at t false one s r k c h =
      let text = is_only_literal items && is_char_array s.table t in
      let two = bind-gives (judge_items true items text t s) (λ list. pure (typed.Listed brace list comma t)) one r h in
      given-same (λ (v : TypedInitialiser) (q : UnitState). IsConstantIn s v q) (typed.Listed brace two.0 comma t) one two.1 r two.3
      (items-constant items text t two.0 s two.1 k c two.2)

  items-constant : (all : tree.Items) (text : Bool) (t : TypeId) (list : TypedItems) (s r : UnitState) → IsKnown (state_of s) → IsComplete s.table t
      → judge_items true all text t s ≡ Gives list r → are_constant_items r.table s.linkage.statics list ≡ true
  items-constant tree.NoItem text t list s r k c h =
      given-same (λ (v : TypedItems) (q : UnitState). are_constant_items q.table s.linkage.statics v ≡ true) typed.NoItem list s r h refl
  items-constant (tree.AndItem all i) text t list s r k c h =
      let one = bind-gives (judge_items true all text t s) (λ before. λ m.
      next (judge_initialiser true i (initialiser_place i) (slot_type (item_slot m.table text t (items_count before))) (is_scalar_shape (shape_at m.table t)) m)
      (λ v. with_item before (item_slot m.table text t (items_count before)) v)) list r h in
      let j = items-judged all true text t one.0 s one.1 k c one.2 in
      let slot = item_slot one.1.table text t (items_count one.0) in
      let two = bind-gives (judge_initialiser true i (initialiser_place i) (slot_type slot) (is_scalar_shape (shape_at one.1.table t)) one.1)
      (λ v. with_item one.0 slot v) list r one.3 in
      item-constant all i text t one.0 s one.1 (initialiser-constant i) k c j (items-constant all text t one.0 s one.1 k c one.2) slot refl two.0 two.1 two.2 list r two.3
  items-constant (tree.AndMemberDesignator all at) text t list s r k c h = never-gives list (TooLarge at Types) s r h
  items-constant (tree.AndIndexDesignator all at) text t list s r k c h = never-gives list (TooLarge at Types) s r h
