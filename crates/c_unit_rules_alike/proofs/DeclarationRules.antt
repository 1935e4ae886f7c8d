-- The rules of declared names, of definitions and of `main` are over an earlier table what they are over each that goes on from it.
use Rattle.std.proofs.Common.{◌≡◌, Bool, true, false, not, ◌&&◌, ◌||◌, List, [], ◌∷◌, Option, None, Some, codes, refl, ap, ◌∙◌, if◌then◌else◌}
use Rattle.std.specs.List.{Contains}
use Rattle.std.proofs.lemmas.List.Elements.{All-contains}
use Rattle.cc_base.specs.declared.number.TypeId.{TypeId}
use Rattle.cc_base.specs.declared.place.Place.{Place}
use Rattle.cc_base.specs.declared.fault.Rule.TheVariants as rule
use Rattle.c_types.specs.declared.shape.TypeShape.{TypeShape}
use Rattle.c_types.specs.declared.shape.TypeShape.TheVariants.{Void, Integer, Pointer, Array, Function, Struct, Union}
use Rattle.c_types.specs.Table.{Table, IsType, shape_at, named_by}
use Rattle.c_types.proofs.Lists.{contains_head, contains_tail}
use Rattle.c_tree.specs.declared.typed_word.Runtime.{Runtime}
use Rattle.runtime_calls.specs.declared.function.RuntimeType.{RuntimeType}
use Rattle.runtime_calls.specs.declared.function.RuntimeType.TheVariants as prototype
use Rattle.runtime_calls.specs.Prototypes.{prototype_of, runtime_of}
use Rattle.c_typing.specs.declared.declared.Declared.{Declared}
use Rattle.c_typing.specs.declared.declared.Declared.TheVariants as declared
use Rattle.c_typing.specs.Extensions.{IsExtended}
use Rattle.c_typing.specs.Scopes.{Name, entry_of, here, place_among}
use Rattle.c_typing.specs.Settled.{IsBasic, IsThere}
use Rattle.c_typing.specs.Shapes.{is_function_shape, is_void_shape}
use Rattle.c_typing.specs.Tests.{broken_at, has_some}
use Rattle.c_rules_alike.proofs.TypesAlike
use Rattle.c_unit_typing.specs.DefinitionJudging.{is_main_shape, is_main, main_tests}
use Rattle.c_unit_typing.specs.UnitJudged.{IsUnitKnown}
use Rattle.c_unit_typing.specs.UnitJudging.{UnitState}
use Rattle.c_unit_typing.specs.UnitRefusals.{conflicts, is_integer_of, is_runtime_type, are_runtime_types, is_prototype_shape, conflicts_with_runtime, declared_as, is_function_declared, is_object, has_linkage, is_unlinked, is_redeclared, declared_tests, definition_tests, start_of_text}
use Rattle.c_unit_typing.specs.Units.{Known, Storage, AsTypedef, is_one_of}
use Rattle.c_unit_rules_alike.specs.NamesThere.{IsThereIf, IsNameThere}
use Rattle.c_unit_rules_alike.proofs.NamesThere.{linked-if}

module _ (J T : Table) (x : IsExtended J T) (b : IsBasic J) where
  -- what a name is declared as

  pub declared_as-over : (storage : Storage) (t : TypeId) → IsType J t → declared_as J storage t ≡ declared_as T storage t
  declared_as-over AsTypedef t h = refl
  declared_as-over storage t h =
      ap (λ (y : TypeShape). if is_function_shape y then declared.Function t else declared.Object t (record { 0 = 0 })) (TypesAlike.shape-over J T x b t h)

  function_or_object : (t : TypeId) (c : Bool) → IsType J t → IsThere J (if c then declared.Function t else declared.Object t (record { 0 = 0 }))
  function_or_object t true h = h
  function_or_object t false h = h

  pub declared_as-there : (storage : Storage) (t : TypeId) → IsType J t → IsThere J (declared_as J storage t)
  declared_as-there AsTypedef t h = h
  declared_as-there storage t h = function_or_object t (is_function_shape (shape_at J t)) h

  -- declarations that do not agree

  pub conflicts-over : (o : Option Declared) (what : Declared) → IsThereIf J o → IsThere J what → conflicts J o what ≡ conflicts T o what
  conflicts-over (Some (declared.Object t n)) (declared.Object u m) h k = ap not (TypesAlike.same-over J T x b t u h k)
  conflicts-over (Some (declared.Function t)) (declared.Function u) h k = ap not (TypesAlike.same-over J T x b t u h k)
  conflicts-over o what h k = refl

  pub runtime_type-over : (r : RuntimeType) (t : TypeId) → IsType J t → is_runtime_type J r t ≡ is_runtime_type T r t
  runtime_type-over prototype.Void t h = ap is_void_shape (TypesAlike.shape-over J T x b t h)
  runtime_type-over prototype.Int t h = ap (λ (y : TypeShape). is_integer_of y 4 true) (TypesAlike.shape-over J T x b t h)
  runtime_type-over prototype.UnsignedLong t h = ap (λ (y : TypeShape). is_integer_of y 8 false) (TypesAlike.shape-over J T x b t h)
  runtime_type-over prototype.VoidPointer t h = TypesAlike.void_pointer-over J T x b t h

  runtime_types_over : (rs : List RuntimeType) (ts : List TypeId) → ((u : TypeId) → Contains ts u → IsType J u)
      → are_runtime_types J rs ts ≡ are_runtime_types T rs ts
  runtime_types_over [] [] k = refl
  runtime_types_over [] (t ∷ ts) k = refl
  runtime_types_over (r ∷ rs) [] k = refl
  runtime_types_over (r ∷ rs) (t ∷ ts) k =
      let one = runtime_type-over r t (k t (contains_head t ts)) in
      let rest = runtime_types_over rs ts (λ u c. k u (contains_tail t ts u c)) in
      λ i. one i && rest i

  prototype_over : (function : Runtime) (y : TypeShape) → ((u : TypeId) → Contains (named_by y) u → IsType J u)
      → is_prototype_shape J function y ≡ is_prototype_shape T function y
  prototype_over function (Function ps r) k =
      let each = runtime_types_over (prototype_of function).parameters ps (λ u c. k u (contains_tail r ps u c)) in
      let last = runtime_type-over (prototype_of function).result r (k r (contains_head r ps)) in
      λ i. each i && last i
  prototype_over function y k = refl

  named : (t u : TypeId) → Contains (named_by (shape_at J t)) u → IsType J u
  named t u c = All-contains (IsType J) (named_by (shape_at J t)) u (b.formed.each t).named c

  pub prototype-over : (function : Runtime) (t : TypeId) → IsType J t
      → is_prototype_shape J function (shape_at J t) ≡ is_prototype_shape T function (shape_at T t)
  prototype-over function t h =
      prototype_over function (shape_at J t) (named t) ∙ ap (is_prototype_shape T function) (TypesAlike.shape-over J T x b t h)

  pub runtime-over : (o : Option Runtime) (what : Declared) → IsThere J what → conflicts_with_runtime J o what ≡ conflicts_with_runtime T o what
  runtime-over None what h = refl
  runtime-over (Some function) (declared.Function t) h = ap not (prototype-over function t h)
  runtime-over (Some function) (declared.Typedef t) h = refl
  runtime-over (Some function) (declared.Object t n) h = refl
  runtime-over (Some function) (declared.Enumerator value) h = refl

  pub redeclared-over : (k : Known) (linked defines : Bool) (name : Name) (what : Declared) → IsNameThere J k name → IsThere J what
      → is_redeclared J k linked defines name what ≡ is_redeclared T k linked defines name what
  redeclared-over k true defines name what n h =
      let first = conflicts-over (here k.scopes.levels name) what n.here h in
      let second = conflicts-over (entry_of k.linked name) what n.linked h in
      let third = runtime-over (runtime_of name) what h in
      λ i. first i
      || (is_unlinked (here k.scopes.levels name) (entry_of k.linked name) || (second i || (third i || (defines && is_one_of k.defined name))))
  redeclared-over k false defines name what n h = refl

  -- rules

  pub declared-over : (k : Known) (file : Bool) (storage : Storage) (initialised : Bool) (name : Name) (t : TypeId) (at : Place)
      → IsNameThere J k name → IsType J t
      → declared_tests J k file storage initialised name t at ≡ declared_tests T k file storage initialised name t at
  declared-over k file storage initialised name t at n h =
      let what = declared_as-over storage t h in
      let is : Declared = declared_as J storage t in
      let there = declared_as-there storage t h in
      let again : is_redeclared J k (has_linkage file storage is) (initialised && is_object is) name is
      ≡ is_redeclared T k (has_linkage file storage (declared_as T storage t)) (initialised && is_object (declared_as T storage t)) name (declared_as T storage t) =
      redeclared-over k (has_linkage file storage is) (initialised && is_object is) name is n there
      ∙ ap (λ (w : Declared). is_redeclared T k (has_linkage file storage w) (initialised && is_object w) name w) what in
      let taken : conflicts_with_runtime J (runtime_of name) is ≡ conflicts_with_runtime T (runtime_of name) (declared_as T storage t) =
      runtime-over (runtime_of name) is there ∙ ap (λ (w : Declared). conflicts_with_runtime T (runtime_of name) w) what in
      let complete = TypesAlike.complete-over J T x b k.scopes t h in
      λ i. broken_at rule.Redeclared at (again i || (file && taken i))
      ∷ broken_at rule.Incomplete at (is_object (what i) && not (complete i))
      ∷ broken_at rule.Mismatch at (initialised && not (is_object (what i)))
      ∷ []

  pub definition-over : (k : Known) (storage : Storage) (written : Bool) (name : Name) (t : TypeId) (at : Place) → IsNameThere J k name → IsType J t
      → definition_tests J k storage written name t at ≡ definition_tests T k storage written name t at
  definition-over k storage written name t at n h =
      let what = declared_as-over storage t h in
      let again : is_redeclared J k true true name (declared_as J storage t) ≡ is_redeclared T k true true name (declared_as T storage t) =
      redeclared-over k true true name (declared_as J storage t) n (declared_as-there storage t h)
      ∙ ap (λ (w : Declared). is_redeclared T k true true name w) what in
      λ i. broken_at rule.Redeclared at (again i || has_some (runtime_of name))
      ∷ broken_at rule.Mismatch at (not (written && is_function_declared (what i)))
      ∷ []

  -- `main`

  main_shape : (y : TypeShape) → ((u : TypeId) → Contains (named_by y) u → IsType J u) → is_main_shape J y ≡ is_main_shape T y
  main_shape (Function [] r) k = ap (λ (z : TypeShape). is_integer_of z 4 true) (TypesAlike.shape-over J T x b r (k r (contains_head r [])))
  main_shape (Function (p ∷ ps) r) k = refl
  main_shape Void k = refl
  main_shape (Integer bytes signed) k = refl
  main_shape (Pointer n t) k = refl
  main_shape (Array t count) k = refl
  main_shape (Struct n) k = refl
  main_shape (Union n) k = refl

  pub is_main-over : (o : Option Declared) → IsThereIf J o → is_main J o ≡ is_main T o
  is_main-over None h = refl
  is_main-over (Some (declared.Function t)) h = main_shape (shape_at J t) (named t) ∙ ap (is_main_shape T) (TypesAlike.shape-over J T x b t h)
  is_main-over (Some (declared.Typedef t)) h = refl
  is_main-over (Some (declared.Object t n)) h = refl
  is_main-over (Some (declared.Enumerator value)) h = refl

pub main-over : (s : UnitState) (T : Table) → IsExtended s.table T → IsUnitKnown s → main_tests s ≡ main_tests (record s { table = T })
main-over s T x k =
    let same = is_main-over s.table T x k.known.basic (entry_of s.linkage.linked (codes "main")) (linked-if s k (codes "main")) in
    λ i. broken_at rule.NoMain start_of_text (not (same i && has_some (place_among s.seen.scopes.defined (codes "main")))) ∷ []
