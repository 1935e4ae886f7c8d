-- Where a declaration conflicts with none before it, it agrees with them, over each table that goes on from this one.
use Rattle.std.proofs.Common.{◌≡◌, ℕ, ◌==◌, Bool, true, false, List, [], ◌∷◌, Option, Some, None, refl, ap, sym, subst, ◌∙◌}
use Rattle.std.specs.List.{All, AllZip}
use Rattle.std.proofs.lemmas.Bool.Decides.{Decides-eqb}
use Rattle.std.proofs.lemmas.List.Elements.{All-head, All-tail}
use Rattle.cc_base.specs.declared.number.NodeId.{NodeId}
use Rattle.cc_base.specs.declared.number.TypeId.{TypeId}
use Rattle.c_types.specs.declared.shape.TypeShape.{TypeShape}
use Rattle.c_types.specs.declared.shape.TypeShape.TheVariants.{Void, Integer, Pointer, Array, Function, Struct, Union}
use Rattle.c_types.specs.Equality.{same_bool}
use Rattle.c_types.specs.Table.{Table, IsType, shape_at, named_by}
use Rattle.c_types.specs.Sameness.{is_same_type}
use Rattle.c_tree.specs.declared.typed_word.Runtime.{Runtime}
use Rattle.c_tree.specs.declared.typed_word.Runtime.TheVariants.{Malloc, Calloc, Free, Getchar, Putchar, Exit}
use Rattle.runtime_calls.specs.declared.function.RuntimeType.{RuntimeType}
use Rattle.runtime_calls.specs.declared.function.RuntimeType.TheVariants as prototype
use Rattle.runtime_calls.specs.Prototypes.{IsNamed, runtime_name, runtime_of, prototype_of, IsVoidPointer, IsRuntimeType, HasPrototype}
use Rattle.c_typing.specs.declared.declared.Declared.{Declared}
use Rattle.c_typing.specs.declared.declared.Declared.TheVariants as declared
use Rattle.c_typing.specs.Constants.{is_void_pointer_shape}
use Rattle.c_typing.specs.Extensions.{IsExtended}
use Rattle.c_typing.specs.Settled.{IsBasic, IsThere}
use Rattle.c_typing.specs.Shapes.{is_void_shape}
use Rattle.c_typing_laws.proofs.ConstructLaws.{not_false}
use Rattle.c_typing_laws.proofs.ExtensionLaws.{no_true, and_left, and_right, pointer_in}
use Rattle.c_typing_laws.proofs.KeptRules.{has-kept}
use Rattle.c_typing_laws.proofs.KeptTypes.{same_exact}
use Rattle.c_unit_typing.specs.Units.{AgreesWith, AgreesWithRuntime}
use Rattle.c_unit_typing.specs.UnitRefusals.{conflicts, conflicts_with_runtime, is_integer_of, is_runtime_type, are_runtime_types, is_prototype_shape}

-- Runtime functions

void_shape : (x : TypeShape) → is_void_shape x ≡ true → x ≡ Void
void_shape Void h = refl
void_shape (Integer n r) h = no_true h
void_shape (Pointer n t) h = no_true h
void_shape (Array t n) h = no_true h
void_shape (Function ps r) h = no_true h
void_shape (Struct n) h = no_true h
void_shape (Union n) h = no_true h

same_sign : (a b : Bool) → same_bool a b ≡ true → a ≡ b
same_sign true true h = refl
same_sign false false h = refl
same_sign true false h = no_true h
same_sign false true h = no_true h

pub integer_shape : (x : TypeShape) (n : ℕ) (r : Bool) → is_integer_of x n r ≡ true → x ≡ Integer n r
integer_shape (Integer m q) n r h =
    let bytes = (Decides-eqb m n).0 (and_left (m == n) (same_bool q r) h) in
    let sign = same_sign q r (and_right (m == n) (same_bool q r) h) in
    λ i. Integer (bytes i) (sign i)
integer_shape Void n r h = no_true h
integer_shape (Pointer m t) n r h = no_true h
integer_shape (Array t m) n r h = no_true h
integer_shape (Function ps q) n r h = no_true h
integer_shape (Struct m) n r h = no_true h
integer_shape (Union m) n r h = no_true h

module _ (T : Table) (b : IsBasic T) where
  void_pointer : (t : TypeId) (x : TypeShape) → IsType T t → shape_at T t ≡ x → is_void_pointer_shape T x ≡ true → IsVoidPointer T t
  void_pointer t (Pointer n u) i q h =
      record { node = n; to = u; pointer = (i, q); void = (pointer_in T n t u b.formed q, void_shape (shape_at T u) h) }
  void_pointer t Void i q h = no_true h
  void_pointer t (Integer m r) i q h = no_true h
  void_pointer t (Array u m) i q h = no_true h
  void_pointer t (Function ps r) i q h = no_true h
  void_pointer t (Struct m) i q h = no_true h
  void_pointer t (Union m) i q h = no_true h

  runtime_type : (r : RuntimeType) (t : TypeId) → IsType T t → is_runtime_type T r t ≡ true → IsRuntimeType T r t
  runtime_type prototype.Void t i h = (i, void_shape (shape_at T t) h)
  runtime_type prototype.Int t i h = (i, integer_shape (shape_at T t) 4 true h)
  runtime_type prototype.UnsignedLong t i h = (i, integer_shape (shape_at T t) 8 false h)
  runtime_type prototype.VoidPointer t i h = void_pointer t (shape_at T t) i refl h

  runtime_types : (rs : List RuntimeType) (ts : List TypeId) → All (IsType T) ts → are_runtime_types T rs ts ≡ true → AllZip (IsRuntimeType T) rs ts
  runtime_types [] [] i h = tt
  runtime_types [] (t ∷ ts) i h = no_true h
  runtime_types (r ∷ rs) [] i h = no_true h
  runtime_types (r ∷ rs) (t ∷ ts) i h = (
    runtime_type r t (All-head (IsType T) t ts i) (and_left (is_runtime_type T r t) (are_runtime_types T rs ts) h),
    runtime_types rs ts (All-tail (IsType T) t ts i) (and_right (is_runtime_type T r t) (are_runtime_types T rs ts) h),
  )

  has_prototype : (function : Runtime) (t : TypeId) (x : TypeShape) → IsType T t → shape_at T t ≡ x → is_prototype_shape T function x ≡ true → HasPrototype T function t
  has_prototype function t (Function ps r) i q h =
      let named = subst (λ (y : TypeShape). All (IsType T) (named_by y)) q (b.formed.each t).named in
      let proto = prototype_of function in
      record {
        parameters = ps;
        result = r;
        shape = (i, q);
        each = runtime_types proto.parameters ps (All-tail (IsType T) r ps named)
            (and_left (are_runtime_types T proto.parameters ps) (is_runtime_type T proto.result r) h);
        last = runtime_type proto.result r (All-head (IsType T) r ps named) (and_right (are_runtime_types T proto.parameters ps) (is_runtime_type T proto.result r) h);
      }
  has_prototype function t Void i q h = no_true h
  has_prototype function t (Integer m r) i q h = no_true h
  has_prototype function t (Pointer n u) i q h = no_true h
  has_prototype function t (Array u m) i q h = no_true h
  has_prototype function t (Struct m) i q h = no_true h
  has_prototype function t (Union m) i q h = no_true h

runtime_found : (function : Runtime) → runtime_of (runtime_name function) ≡ Some function
runtime_found Malloc = refl
runtime_found Calloc = refl
runtime_found Free = refl
runtime_found Getchar = refl
runtime_found Putchar = refl
runtime_found Exit = refl

module _ (T U : Table) (x : IsExtended T U) (b : IsBasic T) where
  runtime_type-kept : (r : RuntimeType) (t : TypeId) → IsRuntimeType T r t → IsRuntimeType U r t
  runtime_type-kept prototype.Void t h = has-kept T U x b t Void h
  runtime_type-kept prototype.Int t h = has-kept T U x b t (Integer 4 true) h
  runtime_type-kept prototype.UnsignedLong t h = has-kept T U x b t (Integer 8 false) h
  runtime_type-kept prototype.VoidPointer t h =
      record { node = h.node; to = h.to; pointer = has-kept T U x b t (Pointer h.node h.to) h.pointer; void = has-kept T U x b h.to Void h.void }

  runtime_types-kept : (rs : List RuntimeType) (ts : List TypeId) → AllZip (IsRuntimeType T) rs ts → AllZip (IsRuntimeType U) rs ts
  runtime_types-kept [] [] h = tt
  runtime_types-kept [] (t ∷ ts) h = absurd h
  runtime_types-kept (r ∷ rs) [] h = absurd h
  runtime_types-kept (r ∷ rs) (t ∷ ts) h = (runtime_type-kept r t h.0, runtime_types-kept rs ts h.1)

  prototype-kept : (function : Runtime) (t : TypeId) → HasPrototype T function t → HasPrototype U function t
  prototype-kept function t h = record {
    parameters = h.parameters;
    result = h.result;
    shape = has-kept T U x b t (Function h.parameters h.result) h.shape;
    each = runtime_types-kept (prototype_of function).parameters h.parameters h.each;
    last = runtime_type-kept (prototype_of function).result h.result h.last;
  }

  runtime_by : (function : Runtime) (what : Declared) → IsThere T what → conflicts_with_runtime T (Some function) what ≡ false → AgreesWithRuntime U function what
  runtime_by function (declared.Function t) i h =
      prototype-kept function t (has_prototype T b function t (shape_at T t) i refl (not_false (is_prototype_shape T function (shape_at T t)) h))
  runtime_by function (declared.Typedef t) i h = no_true (sym h)
  runtime_by function (declared.Object t n) i h = no_true (sym h)
  runtime_by function (declared.Enumerator z) i h = no_true (sym h)

  pub runtime-agrees : (name : List ℕ) (what : Declared) → IsThere T what → conflicts_with_runtime T (runtime_of name) what ≡ false
      → (function : Runtime) → IsNamed name function → AgreesWithRuntime U function what
  runtime-agrees name what i h function named =
      runtime_by function what i
      (subst (λ (o : Option Runtime). conflicts_with_runtime T o what ≡ false) (ap runtime_of (sym named) ∙ runtime_found function) h)

  -- Declarations before

  pub object-agrees : (first : Option Declared) (t : TypeId) (n k : NodeId) → IsType T t → ((what : Declared) → first ≡ Some what → IsThere T what)
      → ((u : TypeId) (m : NodeId) → first ≡ Some (declared.Object u m) → m ≡ n) → conflicts T first (declared.Object t k) ≡ false → AgreesWith U first (declared.Object t n)
  object-agrees None t n k i there home h = tt
  object-agrees (Some (declared.Object u m)) t n k i there home h =
      (same_exact T U x b u t (there (declared.Object u m) refl) i ∙ not_false (is_same_type T u t) h, home u m refl)
  object-agrees (Some (declared.Function u)) t n k i there home h = no_true (sym h)
  object-agrees (Some (declared.Typedef u)) t n k i there home h = no_true (sym h)
  object-agrees (Some (declared.Enumerator z)) t n k i there home h = no_true (sym h)

  pub function-agrees : (first : Option Declared) (t : TypeId) → IsType T t → ((what : Declared) → first ≡ Some what → IsThere T what)
      → conflicts T first (declared.Function t) ≡ false → AgreesWith U first (declared.Function t)
  function-agrees None t i there h = tt
  function-agrees (Some (declared.Function u)) t i there h = same_exact T U x b u t (there (declared.Function u) refl) i ∙ not_false (is_same_type T u t) h
  function-agrees (Some (declared.Object u m)) t i there h = no_true (sym h)
  function-agrees (Some (declared.Typedef u)) t i there h = no_true (sym h)
  function-agrees (Some (declared.Enumerator z)) t i there h = no_true (sym h)
