-- What a table that goes on keeps: conversions, and how pointers meet.
use Rattle.std.proofs.Common.{◌≡◌, Bool, true, false, ◌&&◌, Option, Some, None, refl, ap, sym, subst, ◌∙◌, inl, inr, ◌⊎◌, if◌then◌else◌}
use Rattle.std.proofs.lemmas.Option.{none-some}
use Rattle.cc_base.specs.declared.place.Place.{Place}
use Rattle.cc_base.specs.declared.number.TypeId.{TypeId}
use Rattle.c_types.specs.declared.shape.TypeShape.{TypeShape}
use Rattle.c_types.specs.declared.shape.TypeShape.TheVariants.{Integer, Pointer}
use Rattle.c_types.specs.Table.{Table, IsType, shape_at}
use Rattle.c_tree.specs.declared.typed_word.Conversion.{Conversion}
use Rattle.c_tree.specs.declared.typed_word.Conversion.TheVariants as conversion
use Rattle.c_tree.specs.TypedTree as typed
use Rattle.c_tree.specs.TypedTree.{TypedExpr}
use Rattle.c_tree.specs.TypedParts.{type_of}
use Rattle.c_typing.specs.Constants.{is_null_constant}
use Rattle.c_typing.specs.Conversions.{bare, implicit_between, implicit, converting_by, IsConverted, is_allocation, takes_over, IsAssignedBy, IsAssigned, cast_between, cast_conversion}
use Rattle.c_typing.specs.Extensions.{IsExtended}
use Rattle.c_typing.specs.Rules.{Meeting, NeverMeet, meeting_of, meeting}
use Rattle.c_typing.specs.Scopes.{Scopes}
use Rattle.c_typing.specs.Settled.{IsBasic}
use Rattle.c_typing.specs.Shapes.{is_void_shape}
use Rattle.c_typing.specs.Tests.{has_some}
use Rattle.c_typing.specs.Typing.{IsTyped}
use Rattle.c_typing_laws.proofs.ExtensionLaws.{no_true, shape_kept}
use Rattle.c_typing_laws.proofs.KeptTypes.{PointsIn, points-in, taken_exact, pointees_exact, pointed_exact}
use Rattle.c_typing_laws.proofs.KeptConstants.{Own, own-plain, null-in, null-kept, cast-to}

pub bare-typed : (T : Table) (e : TypedExpr) (s s' : Scopes) → IsTyped T e s s' → IsTyped T (bare e) s s'
bare-typed T (typed.Convert which at t e) s s' h = h.0
bare-typed T e s s' h = h

-- what is converted without being told is a null constant or has a type other than `void`, and so is what it becomes
implicit_from : (T : Table) (null : Bool) (x y : TypeShape) → has_some (implicit_between T null x y) ≡ true → (null ≡ true) ⊎ (is_void_shape x ≡ false)
implicit_from T null (Integer a s) (Integer b r) h = inr refl
implicit_from T true x (Pointer n u) h = inl refl
implicit_from T false (Pointer m t) (Pointer n u) h = inr refl
implicit_from T null x y h = no_true h

implicit_to : (T : Table) (null : Bool) (x y : TypeShape) → has_some (implicit_between T null x y) ≡ true → is_void_shape y ≡ false
implicit_to T null (Integer a s) (Integer b r) h = refl
implicit_to T true x (Pointer n u) h = refl
implicit_to T false (Pointer m t) (Pointer n u) h = refl
implicit_to T null x y h = no_true h

cast_from : (null : Bool) (x y : TypeShape) (which : Conversion) → cast_between null x y ≡ Some which → (null ≡ true) ⊎ (is_void_shape x ≡ false)
cast_from null (Integer a s) (Integer b r) which h = inr refl
cast_from true x (Pointer n u) which h = inl refl
cast_from false (Integer a s) (Pointer n u) which h = inr refl
cast_from false (Pointer m t) (Pointer n u) which h = inr refl
cast_from null x y which h = absurd (none-some which h)

-- pointers meet
abbrev pub Meets : Meeting → Type 0
Meets NeverMeet = ⊥
Meets how = Unit {0}

meets_left : (T : Table) (m n : Bool) (x y : TypeShape) → Meets (meeting_of T m n x y) → (m ≡ true) ⊎ (is_void_shape x ≡ false)
meets_left T m true (Pointer n t) right h = inr refl
meets_left T true n left (Pointer k u) h = inl refl
meets_left T false false (Pointer n t) (Pointer m u) h = inr refl
meets_left T m n x y h = absurd h

meets_right : (T : Table) (m n : Bool) (x y : TypeShape) → Meets (meeting_of T m n x y) → (n ≡ true) ⊎ (is_void_shape y ≡ false)
meets_right T m true (Pointer n t) right h = inl refl
meets_right T true n left (Pointer k u) h = inr refl
meets_right T false false (Pointer n t) (Pointer m u) h = inr refl
meets_right T m n x y h = absurd h

module _ (T U : Table) (x : IsExtended T U) (basic : IsBasic T) where
  shape_exact : (e : TypedExpr) (s s' : Scopes) → IsTyped T e s s' → (is_null_constant T e ≡ true) ⊎ (is_void_shape (shape_at T (type_of e)) ≡ false)
      → shape_at U (type_of e) ≡ shape_at T (type_of e)
  shape_exact e s s' h (inl n) = x.shapes (type_of e) (null-in T e s s' h n)
  shape_exact e s s' h (inr v) = shape_kept T U x (type_of e) v

  implicit_over : (null : Bool) (y z : TypeShape) → PointsIn T y → PointsIn T z → implicit_between U null y z ≡ implicit_between T null y z
  implicit_over null (Integer a s) (Integer b r) p q = refl
  implicit_over true y (Pointer n u) p q = refl
  implicit_over false (Pointer m t) (Pointer n u) p q =
      ap (λ (b : Bool). if b then Some conversion.PointerToPointer else None) (taken_exact T U x basic t u p q)
  implicit_over null y z p q = refl

  pub implicit-kept : (e : TypedExpr) (s s' : Scopes) (t : TypeId) → IsTyped T e s s' → Own T e → has_some (implicit T e t) ≡ true → implicit U e t ≡ implicit T e t
  implicit-kept e s s' t h o some =
      let null = null-kept T U x basic e s s' h o in
      let from = shape_exact e s s' h (implicit_from T (is_null_constant T e) (shape_at T (type_of e)) (shape_at T t) some) in
      let to = shape_kept T U x t (implicit_to T (is_null_constant T e) (shape_at T (type_of e)) (shape_at T t) some) in
      (λ i. implicit_between U (null i) (from i) (to i))
      ∙ implicit_over (is_null_constant T e) (shape_at T (type_of e)) (shape_at T t) (points-in T (type_of e) basic) (points-in T t basic)

  pub cast-kept : (e : TypedExpr) (s s' : Scopes) (t : TypeId) (which : Conversion) → IsTyped T e s s' → Own T e → cast_conversion T e t ≡ Some which
      → cast_conversion U e t ≡ Some which
  cast-kept e s s' t which h o some =
      let null = null-kept T U x basic e s s' h o in
      let from = shape_exact e s s' h (cast_from (is_null_constant T e) (shape_at T (type_of e)) (shape_at T t) which some) in
      let to = shape_kept T U x t (cast-to (is_null_constant T e) (shape_at T (type_of e)) (shape_at T t) which some) in
      (λ i. cast_between (null i) (from i) (to i)) ∙ some

  some_made : (o : Option Conversion) (at : Place) (t : TypeId) (v e : TypedExpr) → converting_by o at t v ≡ Some e → has_some o ≡ true
  some_made (Some which) at t v e h = refl
  some_made None at t v e h = absurd (none-some e h)

  pub converted-kept : (at : Place) (t : TypeId) (e : TypedExpr) (s s' : Scopes) → IsTyped T e s s' → IsConverted T at t e → IsConverted U at t e
  converted-kept at t e s s' h c =
      let some = some_made (implicit T (bare e) t) at t (bare e) e c.made in
      let same = implicit-kept (bare e) s s' t (bare-typed T e s s' h) (own-plain T (bare e) c.plain) some in
      record { plain = c.plain; made = ap (λ (o : Option Conversion). converting_by o at t (bare e)) same ∙ c.made }

  pub takes_over-kept : (s : Scopes) (t : TypeId) (e : TypedExpr) → IsType T t → takes_over U s t e ≡ takes_over T s t e
  takes_over-kept s t e h = ap (λ (b : Bool). is_allocation (bare e) && b) (pointed_exact T U x basic s t h)

  assigned_by : (b : Bool) (at : Place) (t : TypeId) (e : TypedExpr) (s s' : Scopes) → IsTyped T e s s' → IsAssignedBy b T at t e → IsAssignedBy b U at t e
  assigned_by true at t e s s' h a = a
  assigned_by false at t e s s' h a = converted-kept at t e s s' h a

  pub assigned-kept : (m : Scopes) (at : Place) (t : TypeId) (e : TypedExpr) (s s' : Scopes) → IsTyped T e s s' → IsType T t → IsAssigned T m at t e
      → IsAssigned U m at t e
  assigned-kept m at t e s s' h here a =
      subst (λ (b : Bool). IsAssignedBy b U at t e) (sym (takes_over-kept m t e here)) (assigned_by (takes_over T m t e) at t e s s' h a)

  meeting_over : (m n : Bool) (y z : TypeShape) → PointsIn T y → PointsIn T z → meeting_of U m n y z ≡ meeting_of T m n y z
  meeting_over m true (Pointer n t) right p q = refl
  meeting_over true n left (Pointer k u) p q = refl
  meeting_over false false (Pointer n t) (Pointer m u) p q = pointees_exact T U x basic t u p q
  meeting_over m n y z p q = refl

  pub meeting-kept : (a b : TypedExpr) (s m n s' : Scopes) → IsTyped T a s m → IsTyped T b n s' → Own T a → Own T b → Meets (meeting T a b)
      → meeting U a b ≡ meeting T a b
  meeting-kept a b s m n s' ha hb oa ob h =
      let first = null-kept T U x basic a s m ha oa in
      let second = null-kept T U x basic b n s' hb ob in
      let left = shape_exact a s m ha (meets_left T (is_null_constant T a) (is_null_constant T b) (shape_at T (type_of a)) (shape_at T (type_of b)) h) in
      let right = shape_exact b n s' hb (meets_right T (is_null_constant T a) (is_null_constant T b) (shape_at T (type_of a)) (shape_at T (type_of b)) h) in
      (λ i. meeting_of U (first i) (second i) (left i) (right i))
      ∙ meeting_over (is_null_constant T a) (is_null_constant T b) (shape_at T (type_of a)) (shape_at T (type_of b)) (points-in T (type_of a) basic) (points-in T (type_of b) basic)
