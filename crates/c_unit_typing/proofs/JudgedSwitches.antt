-- What judging gives for the integer of a `switch`.
use Rattle.std.proofs.Common.{◌≡◌, ℕ, ◌==◌, Bool, true, false, not, Option, Some, None, refl, ap, sym, subst, ◌∙◌, if◌then◌else◌, arith}
use Rattle.std.proofs.lemmas.Bool.Decides.{nat_tests}
use Rattle.cc_base.specs.declared.place.Place.{Place}
use Rattle.cc_base.specs.declared.number.TypeId.{TypeId}
use Rattle.cc_base.specs.declared.fault.Fault.TheVariants.{Refused}
use Rattle.cc_base.specs.declared.fault.Rule.TheVariants as rule
use Rattle.c_types.specs.declared.shape.TypeShape.{TypeShape}
use Rattle.c_types.specs.declared.shape.TypeShape.TheVariants.{Void, Integer, Pointer, Array, Function, Struct, Union}
use Rattle.c_types.specs.Table.{Table, IsType, shape_at}
use Rattle.c_tree.specs.declared.operator.Unary.TheVariants as unary
use Rattle.c_tree.specs.declared.typed_word.Conversion.TheVariants as conversion
use Rattle.c_tree.specs.Erasure.{erased}
use Rattle.c_tree.specs.Tree as tree
use Rattle.c_tree.specs.TypedTree as typed
use Rattle.c_tree.specs.TypedTree.{TypedExpr, TypedStatement, TypedBlockItems}
use Rattle.c_tree.specs.TypedParts.{type_of}
use Rattle.integers.specs.Arithmetic.{IntegerType}
use Rattle.c_typing.specs.Checking.{checked}
use Rattle.c_typing.specs.Conversions.{bare, is_droppable, is_plain, to_integer}
use Rattle.c_typing.specs.Integers.{promoted}
use Rattle.c_typing.specs.Extensions.{IsExtended}
use Rattle.c_typing.specs.Judging.{integer_type}
use Rattle.c_typing.specs.Rules.{IsPromoted}
use Rattle.c_typing.specs.Scopes.{Scopes}
use Rattle.c_typing.specs.Settled.{IsBasic, IsKnown}
use Rattle.c_typing.specs.Shapes.{is_scalar_shape, is_integer_shape, integer_of_shape, integer_at}
use Rattle.c_typing.specs.Tests.{AsValue, first_broken}
use Rattle.c_typing.specs.Typing.{IsTyped}
use Rattle.c_typing_laws.specs.Judged.{IsChecked}
use Rattle.c_typing_laws.proofs.ConstructLaws.{one_unbroken, not_false, operand, promoted_size, integer_size, to_integer-typed, to_integer-bare}
use Rattle.c_typing_laws.proofs.ExtensionLaws.{no_true}
use Rattle.c_typing_laws.proofs.JudgedWhole.{checked-judged}
use Rattle.c_typing_laws.proofs.KeptRules
use Rattle.c_typing_laws.proofs.KeptTrees.{value-kept}
use Rattle.c_typing_laws.proofs.TypesThere.{place-there, value-there}
use Rattle.c_unit_typing.specs.StatementJudging.{promoted_by, promotion, switched}
use Rattle.c_unit_typing.specs.UnitJudged.{state_of, IsOnInteger, IsSwitchJudged}
use Rattle.c_unit_typing.specs.UnitJudging.{UnitState, Gives, pure, lifted}
use Rattle.c_unit_typing.specs.UnitRefusals.{promoted_type, switch_tests, switch_type}
use Rattle.c_unit_typing.proofs.JudgedTests.{scalar-plain}
use Rattle.c_unit_typing.proofs.UnitOutcomes.{unless-gives, gives-state, given-same, lifted-gives}

-- `switch`

same_number : (t u : TypeId) → (t.0 == u.0) ≡ true → t ≡ u
same_number t u h =
    let n : t.0 ≡ u.0 = grind (arith, nat_tests) in
    ap (λ (k : ℕ). record { 0 = k }) n

to_type : (at : Place) (t : TypeId) (e : TypedExpr) → type_of (to_integer at t e) ≡ t
to_type at t e = by ((type_of e).0 == t.0) refl
  where
    by : (b : Bool) → ((type_of e).0 == t.0) ≡ b → type_of (if b then e else typed.Convert conversion.IntegerToInteger at t e) ≡ t
    by true h = same_number (type_of e) t h
    by false h = refl

to_erased : (at : Place) (t : TypeId) (e : TypedExpr) → erased (to_integer at t e) ≡ erased e
to_erased at t e = by ((type_of e).0 == t.0)
  where
    by : (b : Bool) → erased (if b then e else typed.Convert conversion.IntegerToInteger at t e) ≡ erased e
    by true = refl
    by false = refl

plain_bare : (e : TypedExpr) → is_plain e ≡ true → bare e ≡ e
plain_bare (typed.Convert which at t e) h = no_true h
plain_bare e h = refl

integer_scalar : (x : TypeShape) → is_integer_shape x ≡ true → is_scalar_shape x ≡ true
integer_scalar (Integer m r) h = refl
integer_scalar Void h = no_true h
integer_scalar (Pointer n t) h = no_true h
integer_scalar (Array t n) h = no_true h
integer_scalar (Function ps q) h = no_true h
integer_scalar (Struct n) h = no_true h
integer_scalar (Union n) h = no_true h

module _ (at : Place) (e : tree.Expr) (c : TypedExpr) (s m : UnitState) (j : IsChecked e c (state_of s) (state_of m)) (links : m.linkage ≡ s.linkage)
    (integer : is_integer_shape (shape_at m.table (type_of c)) ≡ true) where
  switch_by : (x : TypeShape) → shape_at m.table (type_of c) ≡ x → is_integer_shape x ≡ true
      → IsSwitchJudged at e (promoted_by at c (integer_of_shape x)) s m
  switch_by (Integer n r) h p =
      let T : Table = m.table in
      let kind : IntegerType = record { bytes = n; signed = r } in
      let t : TypeId = integer_type (promoted kind) in
      let basic = j.goes.known.basic in
      let plain : is_plain c ≡ true =
      scalar-plain T c s.seen.scopes m.seen.scopes j.typed j.droppable (integer_scalar (shape_at T (type_of c)) integer) in
      let own = plain_bare c plain in
      let size = promoted_size kind (integer_size T (type_of c) n r basic.formed h) in
      let typed_here = to_integer-typed T s.seen.scopes m.seen.scopes at t c plain j.typed in
      let promoted_here : IsPromoted T at (to_integer at t c) t = record {
        kind = kind;
        integer = ap (λ (v : TypedExpr). integer_at T (type_of v)) (to_integer-bare at t c own) ∙ ap integer_of_shape h;
        operand = operand T at (promoted kind) c basic size plain own;
        type = basic.integers (promoted kind) size;
      } in
      record {
        typed = λ U x. (
          value-kept T U x basic (to_integer at t c) s.seen.scopes m.seen.scopes typed_here,
          subst (IsPromoted U at (to_integer at t c)) (sym (to_type at t c)) (KeptRules.prefix-kept T U x basic unary.Plus at (to_integer at t c) t promoted_here),
        );
        erases = to_erased at t c ∙ j.erases;
        linkage = links;
        goes = j.goes;
      }
  switch_by Void h p = no_true p
  switch_by (Pointer n t) h p = no_true p
  switch_by (Array t n) h p = no_true p
  switch_by (Function ps q) h p = no_true p
  switch_by (Struct n) h p = no_true p
  switch_by (Union n) h p = no_true p

-- what has a value has its type in the table, and so has what a `switch` is on
pub dropped-there : (T : Table) (b : IsBasic T) (v : TypedExpr) (s s' : Scopes) → IsTyped T v s s' → is_droppable v ≡ true → IsType T (type_of v)
dropped-there T b (typed.Unread q) s s' h d = place-there T b q s s' h.0
dropped-there T b v s s' h d = value-there T b v s s' h d

promoted_there : (T : Table) (b : IsBasic T) (at : Place) (v : TypedExpr) → IsType T (type_of v) → (x : TypeShape) → shape_at T (type_of v) ≡ x
    → IsType T (type_of (promoted_by at v (integer_of_shape x)))
promoted_there T b at v there (Integer n r) h =
    let kind : IntegerType = record { bytes = n; signed = r } in
    subst (IsType T) (sym (to_type at (integer_type (promoted kind)) v)) (b.integers (promoted kind) (promoted_size kind (integer_size T (type_of v) n r b.formed h))).0
promoted_there T b at v there Void h = there
promoted_there T b at v there (Pointer n t) h = there
promoted_there T b at v there (Array t n) h = there
promoted_there T b at v there (Function ps q) h = there
promoted_there T b at v there (Struct n) h = there
promoted_there T b at v there (Union n) h = there

pub switch-there : (at : Place) (e : tree.Expr) (c : TypedExpr) (s m : UnitState) → IsKnown (state_of s) → lifted (checked e) s ≡ Gives c m
    → IsType m.table (type_of c) × IsType m.table (type_of (promoted_by at c (integer_at m.table (type_of c))))
switch-there at e c s m k h =
    let l = lifted-gives (checked e) c s m h in
    let j = checked-judged e c (state_of s) (state_of m) k l.0 in
    let there = dropped-there m.table j.goes.known.basic c s.seen.scopes m.seen.scopes j.typed j.droppable in
    (there, promoted_there m.table j.goes.known.basic at c there (shape_at m.table (type_of c)) refl)

-- the type of a `switch` is what the rules of refusals take
promoted_as : (at : Place) (c : TypedExpr) (o : Option IntegerType) → type_of (promoted_by at c o) ≡ promoted_type o (type_of c)
promoted_as at c None = refl
promoted_as at c (Some k) = to_type at (integer_type (promoted k)) c

pub switch-typed : (at : Place) (c : TypedExpr) (T U : Table) → IsExtended T U → IsType T (type_of c) → type_of (promoted_by at c (integer_at T (type_of c))) ≡ switch_type U c
switch-typed at c T U x there =
    promoted_as at c (integer_at T (type_of c)) ∙ ap (λ (y : TypeShape). promoted_type (integer_of_shape y) (type_of c)) (sym (x.shapes (type_of c) there))

-- a `switch` that passes its test, when its block was judged
pub switch-passed : (at : Place) (e : tree.Expr) (c : TypedExpr) (one whole : TypedStatement) (s m q r : UnitState) → IsKnown (state_of s) → lifted (checked e) s ≡ Gives c m
    → IsExtended m.table q.table → switched at c one q ≡ Gives whole r
    → (Gives one q ≡ Gives whole r) × IsSwitchJudged at e (promoted_by at c (integer_at m.table (type_of c))) s m
unfolding switched
switch-passed at e c one whole s m q r k h x g =
    let l = lifted-gives (checked e) c s m h in
    let j = checked-judged e c (state_of s) (state_of m) k l.0 in
    let go = unless-gives (first_broken (switch_tests q.table at (AsValue c))) (pure one) q whole r g in
    let later = not_false (is_integer_shape (shape_at q.table (type_of c)))
    (one_unbroken (not (is_integer_shape (shape_at q.table (type_of c)))) (Refused at rule.Mismatch) go.0) in
    let integer = ap is_integer_shape (sym (x.shapes (type_of c) (switch-there at e c s m k h).0)) ∙ later in
    (go.1, switch_by at e c s m j l.1 integer (shape_at m.table (type_of c)) refl integer)

pub switched-judged : (at : Place) (e : tree.Expr) (c on : TypedExpr) (one whole : TypedStatement) (s m n q r : UnitState) → IsKnown (state_of s) → lifted (checked e) s ≡ Gives c m
    → promotion at c m ≡ Gives on n → IsExtended n.table q.table → switched at c one q ≡ Gives whole r → IsSwitchJudged at e on s n
unfolding promotion
switched-judged at e c on one whole s m n q r k h g x w =
    let made : TypedExpr = promoted_by at c (integer_at m.table (type_of c)) in
    given-same (λ (v : TypedExpr) (u : UnitState). IsSwitchJudged at e v s u) made on m n g
    (switch-passed at e c one whole s m q r k h (subst (λ (u : UnitState). IsExtended u.table q.table) (sym (gives-state made on m n g)) x) w).1

-- a promoted value is an integer
pub promoted-integer : (T : Table) (at : Place) (c : TypedExpr) → IsPromoted T at c (type_of c) → IsOnInteger T (Some (type_of c))
promoted-integer T at c h = (promoted h.kind, ap integer_of_shape h.type.1)
