-- The rules of choices, assignments and casts are broken by what is made of their operands exactly where they are broken by the operands as
-- they stand.
use Rattle.std.proofs.Common.{◌≡◌, Bool, true, false, not, ◌&&◌, ◌||◌, [], ◌∷◌, refl, ap, sym, ◌∙◌}
use Rattle.cc_base.specs.declared.place.Place.{Place}
use Rattle.cc_base.specs.declared.number.TypeId.{TypeId}
use Rattle.cc_base.specs.declared.fault.Rule.TheVariants as rule
use Rattle.c_types.specs.declared.shape.TypeShape.{TypeShape}
use Rattle.c_types.specs.declared.shape.TypeShape.TheVariants.{Integer, Pointer}
use Rattle.c_types.specs.Table.{Table, shape_at}
use Rattle.c_tree.specs.declared.operator.Assignment.TheVariants as assignment
use Rattle.c_tree.specs.TypedTree.{TypedExpr}
use Rattle.c_tree.specs.TypedParts.{type_of}
use Rattle.c_typing.specs.Conversions.{is_taken_as, implicit_between, cast_between}
use Rattle.c_typing.specs.Scopes.{Scopes}
use Rattle.c_typing.specs.Settled.{flat, IsAlike, IsSideOf}
use Rattle.c_typing.specs.Shapes.{is_scalar_shape, is_integer_shape, is_pointer_shape, is_void_shape}
use Rattle.c_typing.specs.Tests.{Elaborated, AsValue, broken_at, shape_of, is_null_part, has_some, fits, choice_tests, assign_tests, cast_tests, can_be_written, is_array_part}

scalar_flat : (x : TypeShape) → is_scalar_shape x ≡ is_scalar_shape (flat x)
scalar_flat (Pointer n t) = refl
scalar_flat x = refl

integer_flat : (x : TypeShape) → is_integer_shape x ≡ is_integer_shape (flat x)
integer_flat (Pointer n t) = refl
integer_flat x = refl

pointer_flat : (x : TypeShape) → is_pointer_shape x ≡ is_pointer_shape (flat x)
pointer_flat (Pointer n t) = refl
pointer_flat x = refl

void_flat : (x : TypeShape) → is_void_shape x ≡ is_void_shape (flat x)
void_flat (Pointer n t) = refl
void_flat x = refl

abbrev takes : Table → TypeShape → TypeShape → Bool
takes T (Pointer n t) (Pointer w u) = is_taken_as T t u
takes T x y = false

takes_flat : (T : Table) (x y : TypeShape) → takes T x y ≡ takes T (flat x) (flat y)
takes_flat T (Pointer n t) (Pointer m u) = refl
takes_flat T x y = refl

pub fits_flat : (T : Table) (null : Bool) (x y : TypeShape) → has_some (implicit_between T null x y) ≡ has_some (implicit_between T null (flat x) y)
fits_flat T null (Integer a s) (Integer b r) = refl
fits_flat T true x (Pointer n u) = refl
fits_flat T false (Pointer m t) (Pointer n u) = refl
fits_flat T null x y = refl

cast_flat : (null : Bool) (x y : TypeShape) → has_some (cast_between null x y) ≡ has_some (cast_between null (flat x) y)
cast_flat null (Integer a s) (Integer b r) = refl
cast_flat true x (Pointer n u) = refl
cast_flat false (Integer a s) (Pointer n u) = refl
cast_flat false (Pointer m t) (Pointer n u) = refl
cast_flat null x y = refl

module _ (T : Table) (x y : Elaborated) (p : IsSideOf T x y) where
  one : (f : TypeShape → Bool) → ((z : TypeShape) → f z ≡ f (flat z)) → f (shape_of T x) ≡ f (shape_of T y)
  one f same = same (shape_of T x) ∙ ap f p.shape ∙ sym (same (shape_of T y))

  pub fits_same : (to : TypeShape) → fits T x to ≡ fits T y to
  fits_same to =
      fits_flat T (is_null_part T x) (shape_of T x) to
      ∙ (λ i. has_some (implicit_between T (p.null i) (p.shape i) to))
      ∙ sym (fits_flat T (is_null_part T y) (shape_of T y) to)

  pub cast-alike : (at : Place) (t : TypeId) → cast_tests T at x t ≡ cast_tests T at y t
  cast-alike at t =
      let same = cast_flat (is_null_part T x) (shape_of T x) (shape_at T t)
      ∙ (λ i. has_some (cast_between (p.null i) (p.shape i) (shape_at T t)))
      ∙ sym (cast_flat (is_null_part T y) (shape_of T y) (shape_at T t)) in
      λ i. broken_at rule.Mismatch at (not (is_void_shape (shape_at T t) || same i)) ∷ []

  pub assign-alike : (s : Scopes) (at : Place) (z : Elaborated) → assign_tests T s assignment.Assign at z x ≡ assign_tests T s assignment.Assign at z y
  assign-alike s at z =
      let fit = fits_same (shape_of T z) in
      let struct = (p.structs z).1 in
      λ i. broken_at rule.Incomplete at false
      ∷ broken_at rule.Mismatch at (not (fit i || struct i))
      ∷ broken_at rule.NotPlace at (not (can_be_written z) || is_array_part T z)
      ∷ []

module _ (T : Table) (at : Place) (c : Elaborated) (d : TypedExpr) (x y z w : Elaborated) (k : IsAlike T c d) (p : IsSideOf T x y) (q : IsSideOf T z w) where
  pub choice-alike : choice_tests T at c x z ≡ choice_tests T at (AsValue d) y w
  choice-alike =
      let scalar = scalar_flat (shape_of T c) ∙ ap is_scalar_shape k.shape ∙ sym (scalar_flat (shape_at T (type_of d))) in
      let ix = one T x y p is_integer_shape integer_flat in
      let iz = one T z w q is_integer_shape integer_flat in
      let vx = one T x y p is_void_shape void_flat in
      let vz = one T z w q is_void_shape void_flat in
      let px = one T x y p is_pointer_shape pointer_flat in
      let pz = one T z w q is_pointer_shape pointer_flat in
      let struct = (p.structs z).0 ∙ (q.structs y).1 in
      let taken = takes_flat T (shape_of T x) (shape_of T z) ∙ (λ i. takes T (p.shape i) (q.shape i)) ∙ sym (takes_flat T (shape_of T y) (shape_of T w)) in
      let first = p.null in
      let second = q.null in
      λ i. broken_at rule.Mismatch at (not (scalar i
      && ((ix i && iz i) || ((vx i && vz i) || (struct i || ((second i && px i) || ((first i && pz i) || taken i))))))) ∷ []

pub cast-side : (T : Table) (at : Place) (x y : Elaborated) (t : TypeId) → IsSideOf T x y → cast_tests T at x t ≡ cast_tests T at y t
cast-side T at x y t p = cast-alike T x y p at t

pub assign-side : (T : Table) (s : Scopes) (at : Place) (z x y : Elaborated) → IsSideOf T x y → assign_tests T s assignment.Assign at z x ≡ assign_tests T s assignment.Assign at z y
assign-side T s at z x y p = assign-alike T x y p s at z

pub choice-side : (T : Table) (at : Place) (c : Elaborated) (d : TypedExpr) (x y z w : Elaborated) → IsAlike T c d → IsSideOf T x y → IsSideOf T z w
    → choice_tests T at c x z ≡ choice_tests T at (AsValue d) y w
choice-side T at c d x y z w k p q = choice-alike T at c d x y z w k p q
