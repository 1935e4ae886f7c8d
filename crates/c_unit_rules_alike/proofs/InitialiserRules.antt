-- The rules of initialisers, and what they read of types, are over an earlier table what they are over each that goes on from it.
use Rattle.std.proofs.Common.{◌≡◌, ℕ, Bool, true, false, not, ◌&&◌, ◌||◌, List, [], ◌∷◌, None, Some, refl, ap, sym, ◌∙◌, if◌then◌else◌}
use Rattle.cc_base.specs.declared.number.NodeId.{NodeId}
use Rattle.cc_base.specs.declared.number.TypeId.{TypeId}
use Rattle.cc_base.specs.declared.place.Place.{Place}
use Rattle.cc_base.specs.declared.fault.Rule.TheVariants as rule
use Rattle.c_types.specs.declared.shape.TypeShape.{TypeShape}
use Rattle.c_types.specs.declared.shape.TypeShape.TheVariants.{Void, Integer, Pointer, Array, Function, Struct, Union}
use Rattle.c_types.specs.Table.{Table, IsType, IsComplete, shape_at, is_complete, is_aggregate_shape}
use Rattle.c_tree.specs.declared.typed_word.Side.TheVariants as side
use Rattle.c_tree.specs.Tree as tree
use Rattle.c_tree.specs.TypedTree as typed
use Rattle.c_tree.specs.TypedTree.{TypedExpr, TypedPlace}
use Rattle.c_tree.specs.TypedParts.{place_type, type_of}
use Rattle.c_typing.specs.Shapes.{is_integer_shape}
use Rattle.c_typing.specs.Extensions.{IsExtended}
use Rattle.c_typing.specs.Scopes.{Scopes}
use Rattle.c_typing.specs.Settled.{IsBasic}
use Rattle.c_typing.specs.Tests.{Elaborated, AsPlace, AsValue, AsAllocation, broken_at}
use Rattle.c_typing.specs.Typing.{IsTyped, IsPlace}
use Rattle.c_typing_laws.proofs.ExtensionLaws.{array_in}
use Rattle.c_typing_laws.proofs.KeptConstants.{Own, own-plain, scalar_in, prefix-in, constant-kept}
use Rattle.c_rules_alike.specs.PartsThere.{IsPartThere}
use Rattle.c_rules_alike.proofs.TypesAlike
use Rattle.c_rules_alike.proofs.PartsAlike
use Rattle.c_unit_typing.specs.DeclarationJudging.{complete_size}
use Rattle.c_unit_typing.specs.InitialiserJudging.{constant_tests, item_slot}
use Rattle.c_unit_typing.specs.Initialisers.{slot_of_shape, char_count_of_shape, char_count_of_element, has_count, has_value, is_char_array, is_integer_constant, is_integer_value, is_division, is_constant_place, is_constant_array, is_constant, is_one_array, is_char_shape, makes_chars}
use Rattle.c_unit_typing.specs.UnitRefusals.{Asked, is_constant_part, initialises_type, value_tests}
use Rattle.c_unit_typing.proofs.KeptInitialisers.{slot-same}

module _ (J T : Table) (x : IsExtended J T) (b : IsBasic J) where
  -- constants

  integer_over : (e : TypedExpr) (s s' : Scopes) → IsTyped J e s s' → Own J e → is_integer_constant J e ≡ is_integer_constant T e
  integer_over e s s' j o = ap has_value (sym (constant-kept J T x b e s s' j o))

  integer_value_over : (e : TypedExpr) → IsType J (type_of e) → is_integer_value J e ≡ is_integer_value T e
  integer_value_over e h = ap is_integer_shape (TypesAlike.shape-over J T x b (type_of e) h)

  mutual
    pub constant_place-over : (homes : List NodeId) (p : TypedPlace) (s s' : Scopes) → IsPlace J p s s'
        → is_constant_place J homes p ≡ is_constant_place T homes p
    constant_place-over homes (typed.ParenPlace at p) s s' j = constant_place-over homes p s s' j
    constant_place-over homes (typed.Member p at name i n t) s s' j = constant_place-over homes p s s' j.0
    constant_place-over homes (typed.Element side.Left a at c t) s s' j =
        let one = constant_array-over homes a s j.0 j.1 in
        let other = integer_over c j.0 s' j.2 (own-plain J c j.3.integer.plain) in
        λ i. one i && other i
    constant_place-over homes (typed.Element side.Right a at c t) s s' j =
        let one = integer_over a s j.0 j.1 (own-plain J a j.3.integer.plain) in
        let other = constant_array-over homes c j.0 s' j.2 in
        λ i. one i && other i
    constant_place-over homes p s s' j = refl

    constant_array-over : (homes : List NodeId) (e : TypedExpr) (s s' : Scopes) → IsTyped J e s s'
        → is_constant_array J homes e ≡ is_constant_array T homes e
    constant_array-over homes (typed.Paren at e) s s' j = constant_array-over homes e s s' j.0
    constant_array-over homes (typed.Decay p n t) s s' j = constant_place-over homes p s s' j.0
    constant_array-over homes e s s' j = refl

  pub constant-over : (homes : List NodeId) (e : TypedExpr) (s s' : Scopes) → IsTyped J e s s' → is_constant J homes e ≡ is_constant T homes e
  constant-over homes (typed.FunctionName name number n t) s s' j = refl
  constant-over homes (typed.FunctionAt at e) s s' j = constant-over homes e s s' j.0
  constant-over homes (typed.AddressOfFunction at e) s s' j = constant-over homes e s s' j.0
  constant-over homes (typed.Paren at e) s s' j = constant-over homes e s s' j.0
  constant-over homes (typed.Decay p n t) s s' j = constant_place-over homes p s s' j.0
  constant-over homes (typed.AddressOf at p n t) s s' j = constant_place-over homes p s s' j.0
  constant-over homes (typed.AddressOfElement at p t) s s' j = constant_place-over homes p s s' j.0
  constant-over homes (typed.Convert which at t e) s s' j = constant-over homes e s s' j.0
  constant-over homes (typed.Cast which at to e) s s' j = constant-over homes e j.0 s' j.2
  constant-over homes (typed.Moved operator side.Left a at c t) s s' j =
      let one = constant-over homes a s j.0 j.1 in
      let other = integer_over c j.0 s' j.2 (own-plain J c j.3.integer.plain) in
      λ i. one i && other i
  constant-over homes (typed.Moved operator side.Right a at c t) s s' j =
      let one = integer_over a s j.0 j.1 (own-plain J a j.3.integer.plain) in
      let other = constant-over homes c j.0 s' j.2 in
      λ i. one i && other i
  constant-over homes (typed.Prefix operator at e t) s s' j =
      let value = integer_value_over e (prefix-in operator J at e t j.1) in
      let one = constant-over homes e s s' j.0 in
      λ i. value i && one i
  constant-over homes (typed.Arithmetic operator a at c t) s s' j =
      let whole = integer_over (typed.Arithmetic operator a at c t) s s' j tt in
      let one = constant-over homes a s j.0 j.1 in
      let other = constant-over homes c j.0 s' j.2 in
      λ i. if is_division operator then whole i else (one i && other i)
  constant-over homes (typed.Logical operator a at c t) s s' j =
      let left = integer_value_over a (scalar_in J (type_of a) j.3.first.scalar) in
      let right = integer_value_over c (scalar_in J (type_of c) j.3.second.scalar) in
      let one = constant-over homes a s j.0 j.1 in
      let other = constant-over homes c j.0 s' j.2 in
      λ i. (left i && one i) && (right i && other i)
  constant-over homes (typed.Conditional e at a c t) s s' j =
      let test = integer_value_over e (scalar_in J (type_of e) j.5.0.scalar) in
      let first = constant-over homes e s j.0 j.2 in
      let one = constant-over homes a j.0 j.1 j.3 in
      let other = constant-over homes c j.1 s' j.4 in
      λ i. (test i && first i) && (one i && other i)
  constant-over homes e s s' j = integer_over e s s' j tt

  pub constant_part-over : (homes : List NodeId) (p : Elaborated) → IsPartThere J p → is_constant_part J homes p ≡ is_constant_part T homes p
  constant_part-over homes (AsPlace p) h =
      let array = PartsAlike.array-over J T x b (AsPlace p) h in
      let place = constant_place-over homes p h.before h.after h.typed in
      λ i. array i && place i
  constant_part-over homes (AsValue e) h = constant-over homes e h.before h.after h.typed
  constant_part-over homes (AsAllocation e) h = refl

  pub constant_tests-over : (constant : Bool) (homes : List NodeId) (begin : Place) (e : TypedExpr) (s s' : Scopes) → IsTyped J e s s'
      → constant_tests J constant homes begin e ≡ constant_tests T constant homes begin e
  constant_tests-over constant homes begin e s s' j =
      ap (λ (c : Bool). broken_at rule.NotConstant begin (constant && not c) ∷ []) (constant-over homes e s s' j)

  -- values

  pub initialises-over : (t : TypeId) (p : Elaborated) → IsType J t → IsPartThere J p → initialises_type J t p ≡ initialises_type T t p
  initialises-over t (AsPlace p) k h =
      let fit = PartsAlike.fits-over J T x b (AsPlace p) t h k in
      let shape = TypesAlike.shape-over J T x b t k in
      let same = TypesAlike.same-over J T x b t (place_type p) k h.type in
      λ i. fit i || (is_aggregate_shape (shape i) && same i)
  initialises-over t (AsValue e) k h = PartsAlike.fits-over J T x b (AsValue e) t h k
  initialises-over t (AsAllocation e) k h = PartsAlike.fits-over J T x b (AsAllocation e) t h k

  pub value_tests-over : (asked : Asked) (at begin : Place) (t : TypeId) (p : Elaborated) → IsType J t → IsPartThere J p
      → value_tests J asked at begin t p ≡ value_tests T asked at begin t p
  value_tests-over asked at begin t p k h =
      let fit = initialises-over t p k h in
      let constant = constant_part-over asked.homes p h in
      λ i. broken_at rule.Mismatch at (not (fit i)) ∷ broken_at rule.NotConstant begin (asked.constant && not (constant i)) ∷ []

  -- types

  char_at : (t : TypeId) (y : TypeShape) → shape_at J t ≡ y → char_count_of_shape J y ≡ char_count_of_shape T y
  char_at t (Array element count) h =
      ap (λ (z : TypeShape). char_count_of_element z count) (TypesAlike.shape-over J T x b element (array_in J count t element b.formed h))
  char_at t Void h = refl
  char_at t (Integer bytes signed) h = refl
  char_at t (Pointer n u) h = refl
  char_at t (Function ps r) h = refl
  char_at t (Struct n) h = refl
  char_at t (Union n) h = refl

  pub char_count-over : (t : TypeId) → IsType J t → char_count_of_shape J (shape_at J t) ≡ char_count_of_shape T (shape_at T t)
  char_count-over t h = char_at t (shape_at J t) refl ∙ ap (char_count_of_shape T) (TypesAlike.shape-over J T x b t h)

  pub is_char_array-over : (t : TypeId) → IsType J t → is_char_array J t ≡ is_char_array T t
  is_char_array-over t h = ap has_count (char_count-over t h)

  pub makes_chars-over : (base : TypeId) (d : tree.Declarator) → IsType J base → makes_chars J base d ≡ makes_chars T base d
  makes_chars-over base d h = ap (λ (y : TypeShape). is_one_array d && is_char_shape y) (TypesAlike.shape-over J T x b base h)

  pub slot-over : (t : TypeId) (i : ℕ) → IsComplete J t → slot_of_shape J t (shape_at J t) i ≡ slot_of_shape T t (shape_at T t) i
  slot-over t i c = sym (slot-same J T x b t i c)

  pub item_slot-over : (text : Bool) (t : TypeId) (i : ℕ) → IsComplete J t → item_slot J text t i ≡ item_slot T text t i
  item_slot-over true t i c = refl
  item_slot-over false t i c = slot-over t i c

  pub complete_size-over : (t : TypeId) → IsComplete J t → complete_size J t ≡ complete_size T t
  complete_size-over t c =
      let entry = x.complete t c in
      let size = x.layouts t c in
      sym (λ i. if is_complete (entry i) then Some (size i).size else None)
