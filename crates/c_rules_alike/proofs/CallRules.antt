-- The rules of calls are over an earlier table what they are over each that goes on from it.
use Rattle.std.proofs.Common.{◌≡◌, true, false, not, ◌||◌, ◌==◌, List, [], ◌∷◌, ◌++◌, length, Option, None, Some, refl, ap, ◌∙◌}
use Rattle.std.specs.List.{All, Contains}
use Rattle.std.proofs.lemmas.List.Elements.{All-contains, All-nil}
use Rattle.cc_base.specs.declared.place.Place.{Place}
use Rattle.cc_base.specs.declared.number.TypeId.{TypeId}
use Rattle.cc_base.specs.declared.fault.Rule.TheVariants as rule
use Rattle.c_types.specs.declared.shape.TypeShape.{TypeShape}
use Rattle.c_types.specs.declared.shape.TypeShape.TheVariants.{Void, Integer, Pointer, Array, Function, Struct, Union}
use Rattle.c_types.specs.Table.{Table, IsType, named_by}
use Rattle.c_types.proofs.Lists.{contains_head, contains_tail}
use Rattle.c_tree.specs.declared.typed_word.Runtime.{Runtime}
use Rattle.runtime_calls.specs.declared.function.RuntimeType.{RuntimeType}
use Rattle.runtime_calls.specs.declared.function.RuntimeType.TheVariants as prototype
use Rattle.runtime_calls.specs.Prototypes.{prototype_of}
use Rattle.c_typing.specs.Extensions.{IsExtended}
use Rattle.c_typing.specs.Settled.{IsBasic}
use Rattle.c_typing.specs.Tests.{Elaborated, Argument, Test, broken_at, shape_of, pointed_shape, argument_tests, call_tests_of, is_taken_by, runtime_argument_tests, call_tests_by, runtime_part, call_tests}
use Rattle.c_rules_alike.specs.PartsThere.{IsPartThere, AreArgumentsThere}
use Rattle.c_rules_alike.proofs.PartsAlike

module _ (J T : Table) (x : IsExtended J T) (b : IsBasic J) where
  -- what is named by the shape that a pointer points to is in the table
  pub pointed-names : (y : TypeShape) → All (IsType J) (named_by (pointed_shape J y))
  pointed-names (Pointer n t) = (b.formed.each t).named
  pointed-names Void = All-nil (IsType J)
  pointed-names (Integer bytes signed) = All-nil (IsType J)
  pointed-names (Array t count) = All-nil (IsType J)
  pointed-names (Function ps r) = All-nil (IsType J)
  pointed-names (Struct k) = All-nil (IsType J)
  pointed-names (Union k) = All-nil (IsType J)

  arguments_over : (ts : List TypeId) (list : List Argument) → ((u : TypeId) → Contains ts u → IsType J u) → AreArgumentsThere J list
      → argument_tests J ts list ≡ argument_tests T ts list
  arguments_over [] list k h = refl
  arguments_over (t ∷ ts) [] k h = refl
  arguments_over (t ∷ ts) (a ∷ list) k h =
      let fit = PartsAlike.fits-over J T x b a.part t h.0 (k t (contains_head t ts)) in
      let rest = arguments_over ts list (λ u c. k u (contains_tail t ts u c)) h.1 in
      λ i. broken_at rule.Mismatch a.place (not (fit i)) ∷ rest i

  of_over : (y : TypeShape) (at : Place) (list : List Argument) → ((u : TypeId) → Contains (named_by y) u → IsType J u) → AreArgumentsThere J list
      → call_tests_of J y at list ≡ call_tests_of T y at list
  of_over (Function ps r) at list k h =
      ap (λ (tests : List Test). tests ++ broken_at rule.BadCall at (not (length ps == length list)) ∷ [])
      (arguments_over ps list (λ u c. k u (contains_tail r ps u c)) h)
  of_over y at list k h = refl

  taken_over : (r : RuntimeType) (p : Elaborated) → IsPartThere J p → is_taken_by J r p ≡ is_taken_by T r p
  taken_over prototype.Void p h = refl
  taken_over prototype.Int p h = PartsAlike.fits_shape-over J T x b p (Integer 4 true) h tt
  taken_over prototype.UnsignedLong p h = PartsAlike.fits_shape-over J T x b p (Integer 8 false) h tt
  taken_over prototype.VoidPointer p h =
      let objects = PartsAlike.data_part-over J T x b p h in
      let null = PartsAlike.null-over J T x b p h in
      λ i. objects i || null i

  runtimes_over : (rs : List RuntimeType) (list : List Argument) → AreArgumentsThere J list
      → runtime_argument_tests J rs list ≡ runtime_argument_tests T rs list
  runtimes_over [] list h = refl
  runtimes_over (r ∷ rs) [] h = refl
  runtimes_over (r ∷ rs) (a ∷ list) h =
      let taken = taken_over r a.part h.0 in
      let rest = runtimes_over rs list h.1 in
      λ i. broken_at rule.Mismatch a.place (not (taken i)) ∷ rest i

  by_over : (o : Option Runtime) (at : Place) (f : Elaborated) (list : List Argument) → IsPartThere J f → AreArgumentsThere J list
      → call_tests_by o J at (shape_of J f) list ≡ call_tests_by o T at (shape_of T f) list
  by_over None at f list h k =
      of_over (pointed_shape J (shape_of J f)) at list (λ u c. All-contains (IsType J) (named_by (pointed_shape J (shape_of J f))) u (pointed-names (shape_of J f)) c) k
      ∙ ap (λ (y : TypeShape). call_tests_of T y at list) (PartsAlike.pointed-over J T x b f h)
  by_over (Some function) at f list h k =
      ap (λ (tests : List Test). tests ++ broken_at rule.BadCall at (not (length (prototype_of function).parameters == length list)) ∷ [])
      (runtimes_over (prototype_of function).parameters list k)

  pub call-over : (at : Place) (f : Elaborated) (list : List Argument) → IsPartThere J f → AreArgumentsThere J list
      → call_tests J at f list ≡ call_tests T at f list
  call-over at f list h k = by_over (runtime_part f) at f list h k
