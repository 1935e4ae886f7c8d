-- A type that is in an earlier table is there what it is in each that goes on from it.
use Rattle.std.proofs.Common.{◌≡◌, ℕ, Bool, true, ◌&&◌, Some, ap, sym, subst, slice_index_or}
use Rattle.cc_base.specs.declared.number.TypeId.{TypeId}
use Rattle.c_types.specs.declared.layout.Layout.{Layout}
use Rattle.c_types.specs.declared.shape.TypeShape.{TypeShape}
use Rattle.c_types.specs.declared.shape.TypeShape.TheVariants.{Void, Integer, Pointer, Array, Function, Struct, Union}
use Rattle.c_types.specs.Table.{Table, Entry, IsType, IsComplete, shape_at}
use Rattle.c_types.specs.Layouts.{size_of, member_at}
use Rattle.c_types.specs.Sameness.{is_same_type}
use Rattle.c_tree.specs.TypedTree.{TypedExpr}
use Rattle.c_typing.specs.Constants.{is_void_pointer}
use Rattle.c_typing.specs.Conversions.{bare, is_allocation, is_taken_as, is_pointer_to_complete, takes_over}
use Rattle.c_typing.specs.Extensions.{IsExtended}
use Rattle.c_typing.specs.Scopes.{Scopes, is_complete_at}
use Rattle.c_typing.specs.Settled.{IsBasic, IsFollowed}
use Rattle.c_typing.specs.Shapes.{is_data, integer_of_shape, integer_at, pointee_of_shape, pointee_at}
use Rattle.c_typing_laws.proofs.KeptTypes.{PointsIn, points-in, same_exact, data_exact, complete_exact, taken_exact, pointed_exact, void_pointer_exact}

some_same : (t u : TypeId) → Some t ≡ Some u → t ≡ u
some_same t u h = cc

pointee_in : (J : Table) (y : TypeShape) (u : TypeId) → PointsIn J y → pointee_of_shape y ≡ Some u → IsType J u
pointee_in J (Pointer n t) u p h = subst (IsType J) (some_same t u h) p
pointee_in J Void u p h = cc
pointee_in J (Integer bytes signed) u p h = cc
pointee_in J (Array t count) u p h = cc
pointee_in J (Function ps r) u p h = cc
pointee_in J (Struct k) u p h = cc
pointee_in J (Union k) u p h = cc

module _ (J T : Table) (x : IsExtended J T) (b : IsBasic J) where
  pub shape-over : (t : TypeId) → IsType J t → shape_at J t ≡ shape_at T t
  shape-over t h = sym (x.shapes t h)

  pub complete-over : (s : Scopes) (t : TypeId) → IsType J t → is_complete_at J s t ≡ is_complete_at T s t
  complete-over s t h = sym (complete_exact J T x b s t h)

  pub integer-over : (t : TypeId) → IsType J t → integer_at J t ≡ integer_at T t
  integer-over t h = ap integer_of_shape (shape-over t h)

  pub pointee-over : (t : TypeId) → IsType J t → pointee_at J t ≡ pointee_at T t
  pointee-over t h = ap pointee_of_shape (shape-over t h)

  -- what a pointer points to is in the table
  pub pointee-in : (t u : TypeId) → pointee_at J t ≡ Some u → IsType J u
  pointee-in t u h = pointee_in J (shape_at J t) u (points-in J t b) h

  pub same-over : (t u : TypeId) → IsType J t → IsType J u → is_same_type J t u ≡ is_same_type T t u
  same-over t u h k = sym (same_exact J T x b t u h k)

  pub data-over : (t : TypeId) → IsType J t → is_data J t ≡ is_data T t
  data-over t h = sym (data_exact J T x b t h)

  pub taken-over : (t u : TypeId) → IsType J t → IsType J u → is_taken_as J t u ≡ is_taken_as T t u
  taken-over t u h k = sym (taken_exact J T x b t u h k)

  pub void_pointer-over : (t : TypeId) → IsType J t → is_void_pointer J t ≡ is_void_pointer T t
  void_pointer-over t h = sym (void_pointer_exact J T x b t h)

  pub pointer_to_complete-over : (s : Scopes) (t : TypeId) → IsType J t → is_pointer_to_complete J s t ≡ is_pointer_to_complete T s t
  pointer_to_complete-over s t h = sym (pointed_exact J T x b s t h)

  pub takes_over-over : (s : Scopes) (t : TypeId) (e : TypedExpr) → IsType J t → takes_over J s t e ≡ takes_over T s t e
  takes_over-over s t e h = ap (λ (c : Bool). is_allocation (bare e) && c) (pointer_to_complete-over s t h)

  -- complete types keep their sizes and their members
  pub size-over : (t : TypeId) → IsComplete J t → size_of J t ≡ size_of T t
  size-over t h = sym (ap (λ (l : Layout). l.size) (x.layouts t h))

  pub size_at-over : (s : Scopes) (t : TypeId) → IsFollowed J s → is_complete_at J s t ≡ true → size_of J t ≡ size_of T t
  size_at-over s t f h = size-over t (f t h)

  pub member-over : (t : TypeId) (i : ℕ) → IsComplete J t → member_at J t i ≡ member_at T t i
  member-over t i h = sym (ap (λ (e : Entry). slice_index_or e.members i t) (x.complete t h))
