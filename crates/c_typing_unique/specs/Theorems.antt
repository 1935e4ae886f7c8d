-- What the laws of the crate say.
use Rattle.std.specs.Prelude.{Bool, ℕ, ◌≡◌}
use Rattle.cc_base.specs.declared.number.TypeId.{TypeId}
use Rattle.cc_base.specs.declared.place.Place.{Place}
use Rattle.c_types.specs.Sound.{IsWellFormed}
use Rattle.c_types.specs.Table.{IsAggregate, Table}
use Rattle.c_tree.specs.Erasure.{erased, erased_form, erased_parameters, erased_place, erased_specifiers, erased_type_name}
use Rattle.c_tree.specs.TypedParts.{home_of_form, made_by, made_by_form, made_by_parameters, made_by_place, made_by_specifiers, made_by_type_name, place_type}
use Rattle.c_tree.specs.TypedTree.{TypedExpr, TypedForm, TypedParameters, TypedPlace, TypedSpecifiers, TypedTypeName}
use Rattle.c_typing.specs.Conversions.{IsAssigned, IsConverted, IsPlain, bare}
use Rattle.c_typing.specs.Declarators.{FormMakes, Outermost}
use Rattle.c_typing.specs.Rules.{IsDroppable}
use Rattle.c_typing.specs.Scopes.{Scopes}
use Rattle.c_typing.specs.Typing.{AreAlone, AreParameters, AreSpecifiers, IsForm, IsPlace, IsTypeName, IsTyped}
use Rattle.c_typing_unique.specs.Sameness.{AreHomesAlike, AreNumberedFrom, HasOwnFunctions}

abbrev pub PlainValuesAreOne : Type 0
PlainValuesAreOne =
    (T : Table) (s r q : Scopes) (n : ℕ) → IsWellFormed T → HasOwnFunctions s → (e f : TypedExpr) → erased e ≡ erased f → IsTyped T e s r
    → IsTyped T f s q → AreNumberedFrom n (made_by e) → AreNumberedFrom n (made_by f) → IsPlain e → IsPlain f → (e ≡ f) × (r ≡ q)

abbrev pub DroppedValuesAreOne : Type 0
DroppedValuesAreOne =
    (T : Table) (s r q : Scopes) (n : ℕ) → IsWellFormed T → HasOwnFunctions s → (e f : TypedExpr) → erased e ≡ erased f → IsTyped T e s r
    → IsTyped T f s q → AreNumberedFrom n (made_by e) → AreNumberedFrom n (made_by f) → IsDroppable e → IsDroppable f → (e ≡ f) × (r ≡ q)

abbrev pub ConvertedValuesAreOne : Type 0
ConvertedValuesAreOne =
    (T : Table) (s r q : Scopes) (n : ℕ) → IsWellFormed T → HasOwnFunctions s → (at : Place) (t : TypeId) (e f : TypedExpr) → erased e ≡ erased f
    → IsTyped T e s r → IsTyped T f s q → AreNumberedFrom n (made_by e) → AreNumberedFrom n (made_by f) → IsConverted T at t e → IsConverted T at t f
    → (e ≡ f) × (r ≡ q)

abbrev pub AssignedValuesAreOne : Type 0
AssignedValuesAreOne =
    (T : Table) (s r q : Scopes) (n : ℕ) → IsWellFormed T → HasOwnFunctions s → (at : Place) (t : TypeId) (e f : TypedExpr) → erased e ≡ erased f
    → IsTyped T e s r → IsTyped T f s q → AreNumberedFrom n (made_by e) → AreNumberedFrom n (made_by f) → IsAssigned T r at t e → IsAssigned T q at t f
    → (e ≡ f) × (r ≡ q)

abbrev pub BareValuesAreOne : Type 0
BareValuesAreOne =
    (T : Table) (s r q : Scopes) (n : ℕ) → IsWellFormed T → HasOwnFunctions s → (e f : TypedExpr) → erased e ≡ erased f → IsTyped T e s r
    → IsTyped T f s q → AreNumberedFrom n (made_by e) → AreNumberedFrom n (made_by f) → IsPlain (bare e) → IsPlain (bare f) → (bare e ≡ bare f) × (r ≡ q)

abbrev pub PlacesAreOne : Type 0
PlacesAreOne =
    (T : Table) (s r q : Scopes) (n : ℕ) → IsWellFormed T → HasOwnFunctions s → (x y : TypedPlace) → erased_place x ≡ erased_place y → IsPlace T x s r
    → IsPlace T y s q → AreNumberedFrom n (made_by_place x) → AreNumberedFrom n (made_by_place y) → (x ≡ y) × (r ≡ q)

abbrev pub AggregatesAreNoValues : Type 0
AggregatesAreNoValues =
    (T : Table) (s r q : Scopes) (n : ℕ) → IsWellFormed T → HasOwnFunctions s → (e : TypedExpr) (x : TypedPlace) → erased e ≡ erased_place x
    → IsTyped T e s r → IsPlace T x s q → AreNumberedFrom n (made_by e) → AreNumberedFrom n (made_by_place x) → IsAggregate T (place_type x)
    → IsPlain (bare e) → ⊥

abbrev pub TypeNamesAreOne : Type 0
TypeNamesAreOne =
    (T : Table) (s r q : Scopes) (n : ℕ) → IsWellFormed T → HasOwnFunctions s → (x y : TypedTypeName) → erased_type_name x ≡ erased_type_name y
    → IsTypeName T x s r → IsTypeName T y s q → AreNumberedFrom n (made_by_type_name x) → AreNumberedFrom n (made_by_type_name y) → (x ≡ y) × (r ≡ q)

abbrev pub SpecifiersAreOne : Type 0
SpecifiersAreOne =
    (T : Table) (s r q : Scopes) (n : ℕ) → IsWellFormed T → HasOwnFunctions s → (x y : TypedSpecifiers) → erased_specifiers x ≡ erased_specifiers y
    → AreSpecifiers T x s r → AreSpecifiers T y s q → AreNumberedFrom n (made_by_specifiers x) → AreNumberedFrom n (made_by_specifiers y)
    → (x ≡ y) × (r ≡ q)

abbrev pub LoneSpecifiersAreOne : Type 0
LoneSpecifiersAreOne =
    (T : Table) (s r q : Scopes) (n : ℕ) → IsWellFormed T → HasOwnFunctions s → (x y : TypedSpecifiers) → erased_specifiers x ≡ erased_specifiers y
    → AreAlone T x s r → AreAlone T y s q → AreNumberedFrom n (made_by_specifiers x) → AreNumberedFrom n (made_by_specifiers y) → (x ≡ y) × (r ≡ q)

abbrev pub DeclaratorsAreOne : Type 0
DeclaratorsAreOne =
    (T : Table) (s r q : Scopes) (n : ℕ) → IsWellFormed T → HasOwnFunctions s → (outermost : Outermost) (base : TypeId) (x y : TypedForm) (t u : TypeId)
    → erased_form x ≡ erased_form y → IsForm T x s r → IsForm T y s q → AreNumberedFrom n (made_by_form x t) → AreNumberedFrom n (made_by_form y u)
    → AreHomesAlike (home_of_form x) (home_of_form y) → FormMakes T r x outermost base t → FormMakes T q y outermost base u → (x ≡ y) × (t ≡ u) × (r ≡ q)

abbrev pub ParametersAreOne : Type 0
ParametersAreOne =
    (T : Table) (s r q : Scopes) (n : ℕ) → IsWellFormed T → HasOwnFunctions s → (void other : Bool) (x y : TypedParameters)
    → erased_parameters x ≡ erased_parameters y → AreParameters T void x s r → AreParameters T other y s q → AreNumberedFrom n (made_by_parameters x)
    → AreNumberedFrom n (made_by_parameters y) → (x ≡ y) × (r ≡ q)
