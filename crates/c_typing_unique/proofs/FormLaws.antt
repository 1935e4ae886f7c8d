-- The type that specifiers name, and the one that a form makes of it, are each one type.
use Rattle.std.proofs.Common.{◌≡◌, ℕ, Bool, true, false, List, [], ◌∷◌, Option, Some, None, refl, ap, sym, subst, ◌∙◌}
use Rattle.cc_base.specs.declared.number.NodeId.{NodeId}
use Rattle.cc_base.specs.declared.number.TypeId.{TypeId}
use Rattle.c_types.specs.declared.shape.TypeShape.{TypeShape}
use Rattle.c_types.specs.declared.shape.TypeShape.TheVariants.{Void, Integer, Pointer, Array, Function, Struct, Union}
use Rattle.c_types.specs.Table.{Table, HasShape, shape_at}
use Rattle.c_tree.specs.declared.leaf.Word.{Word}
use Rattle.c_tree.specs.declared.typed_word.Adjusted.{Adjusted}
use Rattle.c_tree.specs.declared.typed_word.TypedStar.{TypedStar}
use Rattle.c_tree.specs.TypedTree as typed
use Rattle.c_tree.specs.TypedTree.{TypedSpecifierList, TypedForm, TypedCore, TypedParts, TypedParameters, TypedDeclared}
use Rattle.c_typing.specs.Declarators.{AreOfType, Named, NoType, IsType, IsEnumeration, IsNamedType, named_by_list, counted, words_shape, Outermost, Written, Counts, Points, MakesArray, MakesFunction, IsFunctionOf, taken_types, nearest, outside, PartsMake, StarsMake, FormMakes, CoreMakes, DeclaredMakes, AdjustedShape, MakesAdjusted, is_derived_declared, ParameterMakes}
use Rattle.c_typing.specs.Scopes.{Scopes}
use Rattle.c_typing_unique.proofs.Shapes.{IsDistinct, shape-one}

module _ (T : Table) (D : IsDistinct T) where
  same_shape : (t u : TypeId) (x : TypeShape) → HasShape T t x → HasShape T u x → t ≡ u
  same_shape t u x h k = shape-one T D t u x x refl h k

  named_one : (n : Named) (list : TypedSpecifierList) (t u : TypeId) → IsNamedType T n list t → IsNamedType T n list u → t ≡ u
  named_one NoType list t u h k = same_shape t u (words_shape (counted list)) h k
  named_one (IsType v) list t u h k = h ∙ sym k
  named_one IsEnumeration list t u h k = same_shape t u (Integer 4 true) h k

  -- specifiers name one type
  pub of-type-one : (list more : TypedSpecifierList) (t u : TypeId) → list ≡ more → AreOfType T list t → AreOfType T more u → t ≡ u
  of-type-one list more t u q h k = named_one (named_by_list list) list t u h.type (subst (λ (l : TypedSpecifierList). IsNamedType T (named_by_list l) l u) (sym q) k.type)

  pointer_one : (n : NodeId) (v w t u : TypeId) → v ≡ w → HasShape T t (Pointer n v) → HasShape T u (Pointer n w) → t ≡ u
  pointer_one n v w t u q h k = shape-one T D t u (Pointer n v) (Pointer n w) (ap (Pointer n) q) h k

  array_one : (n : ℕ) (v w t u : TypeId) → v ≡ w → HasShape T t (Array v n) → HasShape T u (Array w n) → t ≡ u
  array_one n v w t u q h k = shape-one T D t u (Array v n) (Array w n) (λ i. Array (q i) n) h k

  function_one : (parameters : TypedParameters) (v w t u : TypeId) → v ≡ w → IsFunctionOf T parameters v t → IsFunctionOf T parameters w u → t ≡ u
  function_one parameters v w t u q h k =
      shape-one T D t u (Function (taken_types parameters) v) (Function (taken_types parameters) w) (ap (Function (taken_types parameters)) q) h.shape k.shape

  pub makes-array : (s : Scopes) (o : Outermost) (words : List Word) (count : Option ℕ) (v w t u : TypeId) → v ≡ w
      → MakesArray T s o words count v t → MakesArray T s o words count w u → t ≡ u
  makes-array s (Points n) words count v w t u q h k = pointer_one n v w t u q h.1 k.1
  makes-array s Written words (Some c) v w t u q h k = array_one c v w t u q h.1.1 k.1.1
  makes-array s (Counts m) words (Some c) v w t u q h k = array_one c v w t u q h.1.1 k.1.1
  makes-array s (Counts m) words None v w t u q h k = array_one m v w t u q h.1.1 k.1.1
  makes-array s Written words None v w t u q h k = absurd h

  pub makes-function : (o : Outermost) (parameters : TypedParameters) (v w t u : TypeId) → v ≡ w → MakesFunction T o parameters v t → MakesFunction T o parameters w u → t ≡ u
  makes-function (Points n) parameters v w t u q h k = pointer_one n h.0 k.0 t u (function_one parameters v w h.0 k.0 q h.1 k.1) h.2 k.2
  makes-function Written parameters v w t u q h k = function_one parameters v w t u q h k
  makes-function (Counts m) parameters v w t u q h k = function_one parameters v w t u q h k

  pub parts-make : (s : Scopes) (parts : TypedParts) (o : Outermost) (v w t u : TypeId) → v ≡ w → PartsMake T s parts o v t → PartsMake T s parts o w u → t ≡ u
  parts-make s typed.NoPart o v w t u q h k = h ∙ q ∙ sym k
  parts-make s (typed.AndArray all at words) o v w t u q h k =
      parts-make s all o h.0 k.0 t u (makes-array s (nearest all o) words None v w h.0 k.0 q h.1 k.1) h.2 k.2
  parts-make s (typed.AndSizedArray all at words e size) o v w t u q h k =
      parts-make s all o h.0 k.0 t u (makes-array s (nearest all o) words (Some size) v w h.0 k.0 q h.1 k.1) h.2 k.2
  parts-make s (typed.AndFunction all at parameters) o v w t u q h k =
      parts-make s all o h.0 k.0 t u (makes-function (nearest all o) parameters v w h.0 k.0 q h.1 k.1) h.2 k.2

  pub stars-make : (stars : List TypedStar) (v w t u : TypeId) → v ≡ w → StarsMake T stars v t → StarsMake T stars w u → t ≡ u
  stars-make [] v w t u q h k = h ∙ q ∙ sym k
  stars-make (star ∷ stars) v w t u q h k = stars-make stars h.0 k.0 t u (pointer_one star.node v w h.0 k.0 q h.1 k.1) h.2 k.2

  mutual
    form_make : (s : Scopes) (form : TypedForm) (o : Outermost) (v w t u : TypeId) → v ≡ w → FormMakes T s form o v t → FormMakes T s form o w u → t ≡ u
    form_make s (typed.Form stars core parts) o v w t u q h k =
        let first = stars-make stars v w h.0 k.0 q h.2 k.2 in
        core_make s core o h.1 k.1 t u (parts-make s parts (outside core o) h.0 k.0 h.1 k.1 first h.3 k.3) h.4 k.4

    core_make : (s : Scopes) (core : TypedCore) (o : Outermost) (v w t u : TypeId) → v ≡ w → CoreMakes T s core o v t → CoreMakes T s core o w u → t ≡ u
    core_make s (typed.Names name home) o v w t u q h k = h ∙ q ∙ sym k
    core_make s typed.Unnamed o v w t u q h k = h ∙ q ∙ sym k
    core_make s (typed.Nested at form) o v w t u q h k = form_make s form o v w t u q h k

  -- a form makes one type of a type
  pub form-makes-one : (s r : Scopes) (x y : TypedForm) (o : Outermost) (v w t u : TypeId) → s ≡ r → x ≡ y → v ≡ w → FormMakes T s x o v t → FormMakes T r y o w u → t ≡ u
  form-makes-one s r x y o v w t u p e q h k = form_make s x o v w t u q h (subst (λ (m : Scopes). FormMakes T m x o w u) (sym p) (subst (λ (z : TypedForm). FormMakes T r z o w u) (sym e) k))

  declared_make : (s : Scopes) (x : TypedDeclared) (o : Outermost) (v w t u : TypeId) → v ≡ w → DeclaredMakes T s x o v t → DeclaredMakes T s x o w u → t ≡ u
  declared_make s typed.NotDeclared o v w t u q h k = h ∙ q ∙ sym k
  declared_make s (typed.DeclaredBy form) o v w t u q h k = form_make s form o v w t u q h k

  pub declared-makes-one : (s r : Scopes) (x y : TypedDeclared) (o : Outermost) (v w t u : TypeId) → s ≡ r → x ≡ y → v ≡ w → DeclaredMakes T s x o v t → DeclaredMakes T r y o w u → t ≡ u
  declared-makes-one s r x y o v w t u p e q h k =
      declared_make s x o v w t u q h (subst (λ (m : Scopes). DeclaredMakes T m x o w u) (sym p) (subst (λ (z : TypedDeclared). DeclaredMakes T r z o w u) (sym e) k))

  adjusted_shape : (n : NodeId) (z : TypeShape) (v t u : TypeId) → AdjustedShape T n z v t → AdjustedShape T n z v u → t ≡ u
  adjusted_shape n (Array element count) v t u h k = same_shape t u (Pointer n element) h k
  adjusted_shape n (Function parameters result) v t u h k = same_shape t u (Pointer n v) h k
  adjusted_shape n Void v t u h k = absurd h
  adjusted_shape n (Integer b s) v t u h k = absurd h
  adjusted_shape n (Pointer m w) v t u h k = absurd h
  adjusted_shape n (Struct m) v t u h k = absurd h
  adjusted_shape n (Union m) v t u h k = absurd h

  makes_adjusted : (derived : Bool) (s : Scopes) (n : NodeId) (x : TypedDeclared) (v t u : TypeId) → MakesAdjusted derived T s n x v t → MakesAdjusted derived T s n x v u → t ≡ u
  makes_adjusted true s n x v t u h k = declared_make s x (Points n) v v t u refl h k
  makes_adjusted false s n x v t u h k = adjusted_shape n (shape_at T v) v t u h k

  parameter_make : (s : Scopes) (adjusted : Option Adjusted) (x : TypedDeclared) (v t u : TypeId) → ParameterMakes T s adjusted x v t → ParameterMakes T s adjusted x v u → t ≡ u
  parameter_make s None x v t u h k = declared_make s x Written v v t u refl h.0 k.0
  parameter_make s (Some adjusted) x v t u h k = makes_adjusted (is_derived_declared x) s adjusted.node x v t u h k

  -- a parameter has one type
  pub parameter-makes-one : (s r : Scopes) (f g : Option Adjusted) (x y : TypedDeclared) (v w t u : TypeId) → s ≡ r → f ≡ g → x ≡ y → v ≡ w
      → ParameterMakes T s f x v t → ParameterMakes T r g y w u → t ≡ u
  parameter-makes-one s r f g x y v w t u p o e q h k =
      parameter_make s f x v t u h
      (subst (λ (m : Scopes). ParameterMakes T m f x v u) (sym p)
      (subst (λ (z : Option Adjusted). ParameterMakes T r z x v u) (sym o)
      (subst (λ (z : TypedDeclared). ParameterMakes T r g z v u) (sym e) (subst (λ (z : TypeId). ParameterMakes T r g y z u) (sym q) k))))
