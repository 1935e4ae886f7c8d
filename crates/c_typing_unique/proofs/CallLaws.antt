-- What a call fixes of its arguments, of what is called and of its result.
use Rattle.std.proofs.Common.{◌≡◌, ℕ, true, false, List, [], ◌∷◌, ◌++◌, map, Option, Some, None, refl, ap, sym, subst, ◌∙◌}
use Rattle.std.specs.List.{AllZip}
use Rattle.std.proofs.lemmas.List.{map-append}
use Rattle.cc_base.specs.declared.place.Place.{Place}
use Rattle.cc_base.specs.declared.number.NodeId.{NodeId}
use Rattle.cc_base.specs.declared.number.TypeId.{TypeId}
use Rattle.c_types.specs.declared.shape.TypeShape.TheVariants.{Void, Pointer, Function}
use Rattle.c_types.specs.Table.{Table, shape_at}
use Rattle.integers.specs.Arithmetic.{int, unsigned_long}
use Rattle.c_tree.specs.Erasure.{erased}
use Rattle.c_tree.specs.Places.{expr_place}
use Rattle.c_tree.specs.TypedTree as typed
use Rattle.c_tree.specs.TypedTree.{TypedExpr, TypedArguments}
use Rattle.c_tree.specs.TypedParts.{first_place, type_of}
use Rattle.c_tree.specs.declared.typed_word.Runtime.{Runtime}
use Rattle.c_tree.specs.declared.typed_word.Runtime.TheVariants.{Malloc, Calloc, Free, Getchar, Putchar, Exit}
use Rattle.runtime_calls.specs.declared.function.RuntimeType.{RuntimeType}
use Rattle.runtime_calls.specs.declared.function.RuntimeType.TheVariants as prototype
use Rattle.runtime_calls.specs.Prototypes.{IsNamed, runtime_name, runtime_of, prototype_of}
use Rattle.c_typing.specs.Conversions.{bare, is_plain, IsPlain, is_taken_over}
use Rattle.c_typing.specs.Rules.{listed_arguments, IsArgument, IsCall, IsRuntimeArgument, IsRuntimeResult, IsRuntimeCallOf, IsRuntimeCall, IsAllocation, IsAllocationFor, runtime_named, gives_pointer}
use Rattle.c_typing_unique.proofs.Numbering.{node-same}
use Rattle.c_typing_unique.proofs.OperatorLaws.{plain-same, bare-plain}
use Rattle.c_typing_unique.proofs.Reading.{AreAlike, alike-same, bare-erased, plain-bare, plain-over}
use Rattle.c_typing_unique.proofs.Shapes.{IsDistinct, no_true, shape-one, some-same, pointee-same, integer-type-one}
use Rattle.c_typing_unique.proofs.ValueLaws.{converted-one}

-- Lists of arguments

pub last-same : {A : Type 0} (xs ys : List A) (x y : A) → xs ++ x ∷ [] ≡ ys ++ y ∷ [] → (xs ≡ ys) × (x ≡ y)
last-same [] [] x y h = (refl, (let e : x ∷ [] ≡ y ∷ [] = h in cc))
last-same [] (z ∷ []) x y h = let e : x ∷ [] ≡ z ∷ (y ∷ []) = h in (cc, cc)
last-same [] (z ∷ (w ∷ ys)) x y h = let e : x ∷ [] ≡ z ∷ (w ∷ (ys ++ y ∷ [])) = h in (cc, cc)
last-same (z ∷ []) [] x y h = let e : z ∷ (x ∷ []) ≡ y ∷ [] = h in (cc, cc)
last-same (z ∷ (w ∷ xs)) [] x y h = let e : z ∷ (w ∷ (xs ++ x ∷ [])) ≡ y ∷ [] = h in (cc, cc)
last-same (z ∷ xs) (w ∷ ys) x y h =
    let first : z ≡ w = cc in
    let rest : xs ++ x ∷ [] ≡ ys ++ y ∷ [] = cc in
    let one = last-same xs ys x y rest in
    ((λ i. first i ∷ one.0 i), one.1)

no_last : {A P : Type 0} (xs : List A) (x : A) → [] ≡ xs ++ x ∷ [] → P
no_last {A} [] x h = absurd (let e : ◌≡◌ {A = List A} [] (x ∷ []) = h in cc)
no_last {A} (y ∷ xs) x h = absurd (let e : ◌≡◌ {A = List A} [] (y ∷ (xs ++ x ∷ [])) = h in cc)

pub listed-same : (x y : TypedArguments) → listed_arguments x ≡ listed_arguments y → x ≡ y
listed-same typed.NoArgument typed.NoArgument h = refl
listed-same typed.NoArgument (typed.AndArgument all e) h = no_last (listed_arguments all) e h
listed-same (typed.AndArgument all e) typed.NoArgument h = no_last (listed_arguments all) e (sym h)
listed-same (typed.AndArgument all e) (typed.AndArgument more f) h =
    let one = last-same (listed_arguments all) (listed_arguments more) e f h in
    let before = listed-same all more one.0 in
    let last = one.1 in
    (λ i. typed.AndArgument (before i) (last i))

abbrev pub bares : TypedArguments → List TypedExpr
bares x = map bare (listed_arguments x)

pub bares-last : (x y : TypedArguments) (e f : TypedExpr) → bares x ≡ bares y → bare e ≡ bare f → bares (typed.AndArgument x e) ≡ bares (typed.AndArgument y f)
bares-last x y e f h k =
    map-append bare (listed_arguments x) (e ∷ []) ∙ (λ i. h i ++ k i ∷ []) ∙ sym (map-append bare (listed_arguments y) (f ∷ []))

-- nothing is taken over by any of them
abbrev pub ArePlain : TypedArguments → Type 0
ArePlain typed.NoArgument = Unit {0}
ArePlain (typed.AndArgument all e) = ArePlain all × IsPlain (bare e)

abbrev pub AllOf : {A : Type 0} → (A → Type 0) → List A → Type 0
AllOf P [] = Unit {0}
AllOf P (x ∷ xs) = P x × AllOf P xs

all_split : {A : Type 0} (P : A → Type 0) (xs : List A) (x : A) → AllOf P (xs ++ x ∷ []) → AllOf P xs × P x
all_split P [] x h = (tt, h.0)
all_split P (y ∷ xs) x h = let rest = all_split P xs x h.1 in ((h.0, rest.0), rest.1)

pub all-plain : (x : TypedArguments) → AllOf (λ (e : TypedExpr). IsPlain (bare e)) (listed_arguments x) → ArePlain x
all-plain typed.NoArgument h = tt
all-plain (typed.AndArgument all e) h =
    let two = all_split (λ (d : TypedExpr). IsPlain (bare d)) (listed_arguments all) e h in
    (all-plain all two.0, two.1)

zip_all : {A B : Type 0} (R : A → B → Type 0) (P : B → Type 0) → ((a : A) (b : B) → R a b → P b) → (xs : List A) (ys : List B) → AllZip R xs ys → AllOf P ys
zip_all R P each [] [] h = tt
zip_all R P each [] (y ∷ ys) h = absurd h
zip_all R P each (x ∷ xs) [] h = absurd h
zip_all R P each (x ∷ xs) (y ∷ ys) h = (each x y h.0, zip_all R P each xs ys h.1)

zip_one : {A : Type 0} (R : A → TypedExpr → Type 0) → ((a : A) (e f : TypedExpr) → bare e ≡ bare f → R a e → R a f → e ≡ f)
    → (xs : List A) (es fs : List TypedExpr) → map bare es ≡ map bare fs → AllZip R xs es → AllZip R xs fs → es ≡ fs
zip_one R one [] [] [] q h k = refl
zip_one R one [] (e ∷ es) fs q h k = absurd h
zip_one R one [] [] (f ∷ fs) q h k = absurd k
zip_one R one (x ∷ xs) [] fs q h k = absurd h
zip_one R one (x ∷ xs) (e ∷ es) [] q h k = absurd k
zip_one R one (x ∷ xs) (e ∷ es) (f ∷ fs) q h k =
    let first : bare e ≡ bare f = cc in
    let rest : map bare es ≡ map bare fs = cc in
    let head = one x e f first h.0 k.0 in
    let tail = zip_one R one xs es fs rest h.1 k.1 in
    (λ i. head i ∷ tail i)

-- Arguments

argument_one : (T : Table) (t u : TypeId) (e f : TypedExpr) → t ≡ u → bare e ≡ bare f → IsArgument T t e → IsArgument T u f → e ≡ f
argument_one T t u e f q same h k =
    converted-one T (first_place e) (first_place f) t u e f (ap expr_place (sym (bare-erased e) ∙ ap erased same ∙ bare-erased f)) q same h k

runtime_argument_one : (T : Table) → IsDistinct T → (r : RuntimeType) (e f : TypedExpr) → bare e ≡ bare f → IsRuntimeArgument T r e → IsRuntimeArgument T r f → e ≡ f
runtime_argument_one T D prototype.Void e f same h k = absurd h
runtime_argument_one T D prototype.Int e f same h k = argument_one T h.0 k.0 e f (integer-type-one T D int int h.0 k.0 refl h.1 k.1) same h.2 k.2
runtime_argument_one T D prototype.UnsignedLong e f same h k =
    argument_one T h.0 k.0 e f (integer-type-one T D unsigned_long unsigned_long h.0 k.0 refl h.1 k.1) same h.2 k.2
runtime_argument_one T D prototype.VoidPointer e f same h k = plain-same e f h.plain k.plain same

runtime_argument_plain : (T : Table) (r : RuntimeType) (e : TypedExpr) → IsRuntimeArgument T r e → IsPlain (bare e)
runtime_argument_plain T prototype.Void e h = absurd h
runtime_argument_plain T prototype.Int e h = h.2.plain
runtime_argument_plain T prototype.UnsignedLong e h = h.2.plain
runtime_argument_plain T prototype.VoidPointer e h = bare-plain e h.plain

-- What is called

none_runtime : {P : Type 0} (g : Runtime) → None ≡ Some g → P
none_runtime g h = absurd (let e : ◌≡◌ {A = Option Runtime} None (Some g) = h in cc)

-- a runtime function is no plain value, and nothing is made of it
pub runtime-value : (f : TypedExpr) (g : Runtime) → runtime_named f ≡ Some g → (bare f ≡ f) × (is_taken_over f ≡ false) × (is_plain f ≡ false)
runtime-value (typed.RuntimeName name function t) g h = (refl, refl, refl)
runtime-value (typed.Paren at f) g h = let inner = runtime-value f g h in (refl, inner.1, inner.2)
runtime-value f g h = none_runtime g h

runtime_again : (g : Runtime) → runtime_of (runtime_name g) ≡ Some g
runtime_again Malloc = refl
runtime_again Calloc = refl
runtime_again Free = refl
runtime_again Getchar = refl
runtime_again Putchar = refl
runtime_again Exit = refl

pub runtime-same : (name : List ℕ) (f g : Runtime) → IsNamed name f → IsNamed name g → f ≡ g
runtime-same name f g h k = some-same f g (sym (runtime_again f) ∙ ap runtime_of (h ∙ sym k) ∙ runtime_again g)

-- a call, by what is called: a function of the program, or a runtime function
pub data IsCalled (T : Table) (f : TypedExpr) (at : Place) (x : TypedArguments) (m : ℕ) : TypedExpr → Type 0 where
  function : (t : TypeId) → IsCall T f x t → IsCalled T f at x m (typed.Call f at x t)
  runtime : (g : Runtime) (t : TypeId) → IsRuntimeCall T g f x t → IsCalled T f at x m (typed.CallRuntime g f at x t)
  allocation : (g : Runtime) (n : NodeId) (t : TypeId) → IsAllocation T g f x n t → n.0 ≡ m → IsCalled T f at x m (typed.Allocate g f at x n t)
  taken : (g : Runtime) (t : TypeId) → IsAllocationFor T g f x → IsCalled T f at x m (typed.AllocateFor g f at x t)

called_runtime : (T : Table) (g : Runtime) (f : TypedExpr) (x : TypedArguments) → IsRuntimeCallOf T g f x → ArePlain x
called_runtime T g f x h =
    all-plain x (zip_all (IsRuntimeArgument T) (λ (e : TypedExpr). IsPlain (bare e)) (λ r e p. runtime_argument_plain T r e p) (prototype_of g).parameters (listed_arguments x) h.each)

pub called-plain : (T : Table) (f : TypedExpr) (at : Place) (x : TypedArguments) (m : ℕ) (y : TypedExpr) → IsCalled T f at x m y → ArePlain x
called-plain T f at x m _ (function t h) =
    all-plain x (zip_all (IsArgument T) (λ (e : TypedExpr). IsPlain (bare e)) (λ u e p. p.plain) h.parameters (listed_arguments x) h.each)
called-plain T f at x m _ (runtime g t h) = called_runtime T g f x h.call
called-plain T f at x m _ (allocation g n t h e) = called_runtime T g f x h.call
called-plain T f at x m _ (taken g t h) = called_runtime T g f x h.call

-- nothing is made of what is called, or it has a conversion of its own and nothing takes it over
pub called-over : (T : Table) (f : TypedExpr) (at : Place) (x : TypedArguments) (m : ℕ) (y : TypedExpr) → IsCalled T f at x m y → (bare f ≡ f) × (is_taken_over (bare f) ≡ false)
called-over T f at x m _ (function t h) = (plain-bare f h.pointer.plain, plain-over (bare f) (bare-plain f h.pointer.plain))
called-over T f at x m _ (runtime g t h) = let v = runtime-value f g h.call.named in (v.0, ap is_taken_over v.0 ∙ v.1)
called-over T f at x m _ (allocation g n t h e) = let v = runtime-value f g h.call.named in (v.0, ap is_taken_over v.0 ∙ v.1)
called-over T f at x m _ (taken g t h) = let v = runtime-value f g h.call.named in (v.0, ap is_taken_over v.0 ∙ v.1)

pointer_result : {P : Type 0} (T : Table) (r : RuntimeType) (t : TypeId) → IsRuntimeResult T r t → gives_pointer r ≡ true → P
pointer_result T prototype.Void t h k = no_true k
pointer_result T prototype.Int t h k = no_true k
pointer_result T prototype.UnsignedLong t h k = no_true k
pointer_result T prototype.VoidPointer t h k = absurd h

result_one : (T : Table) → IsDistinct T → (r : RuntimeType) (t u : TypeId) → IsRuntimeResult T r t → IsRuntimeResult T r u → t ≡ u
result_one T D prototype.Void t u h k = shape-one T D t u Void Void refl h k
result_one T D prototype.Int t u h k = integer-type-one T D int int t u refl h k
result_one T D prototype.UnsignedLong t u h k = absurd h
result_one T D prototype.VoidPointer t u h k = absurd h

-- one runtime function, with one list of arguments
runtime_one : (T : Table) → IsDistinct T → (g k : Runtime) (f d : TypedExpr) (x y : TypedArguments) → f ≡ d → bares x ≡ bares y
    → IsRuntimeCallOf T g f x → IsRuntimeCallOf T k d y → (g ≡ k) × (x ≡ y)
runtime_one T D g k f d x y p q h j =
    let same = some-same g k (sym h.named ∙ ap runtime_named p ∙ j.named) in (
      same,
      listed-same x y (zip_one (IsRuntimeArgument T) (λ r e w s a b. runtime_argument_one T D r e w s a b) (prototype_of g).parameters (listed_arguments x) (listed_arguments y) q h.each
          (subst (λ (o : Runtime). AllZip (IsRuntimeArgument T) (prototype_of o).parameters (listed_arguments y)) (sym same) j.each)),
    )

plain_runtime : {P : Type 0} (f d : TypedExpr) (g : Runtime) → f ≡ d → IsPlain f → runtime_named d ≡ Some g → P
plain_runtime f d g p h k = no_true (sym (runtime-value d g k).2 ∙ ap is_plain (sym p) ∙ h)

function_parts : (ps qs : List TypeId) (t u : TypeId) → Function ps t ≡ Function qs u → (ps ≡ qs) × (t ≡ u)
function_parts ps qs t u h = (cc, cc)

taken_same : (g k : Runtime) (f d : TypedExpr) (at : Place) (x y : TypedArguments) (t u : TypeId) → g ≡ k → f ≡ d → x ≡ y
    → AreAlike (typed.AllocateFor g f at x t) (typed.AllocateFor k d at y u)
taken_same g k f d at x y t u p q r = record { allocation = refl; same = λ over type. let types : t ≡ u = type refl in (λ i. typed.AllocateFor (p i) (q i) at (r i) (types i)) }

pub called-one : (T : Table) → IsDistinct T → (f d : TypedExpr) (at : Place) (x y : TypedArguments) (m n : ℕ) (v w : TypedExpr) → f ≡ d → bares x ≡ bares y → m ≡ n
    → IsCalled T f at x m v → IsCalled T d at y n w → AreAlike v w
called-one T D f d at x y m n _ _ p q e (function t h) (function u j) =
    let to = pointee-same T (type_of f) (type_of d) h.function j.function (ap type_of p) h.pointer.type j.pointer.type in
    let parts = function_parts h.parameters j.parameters t u (sym h.shape.1 ∙ ap (shape_at T) to ∙ j.shape.1) in
    let arguments = listed-same x y (zip_one (IsArgument T) (λ r a b s g k. argument_one T r r a b refl s g k) h.parameters (listed_arguments x) (listed_arguments y) q h.each
    (subst (λ (ps : List TypeId). AllZip (IsArgument T) ps (listed_arguments y)) (sym parts.0) j.each)) in
    let type = parts.1 in
    alike-same (typed.Call f at x t) (typed.Call d at y u) (λ i. typed.Call (p i) at (arguments i) (type i))
called-one T D f d at x y m n _ _ p q e (runtime g t h) (runtime k u j) =
    let one = runtime_one T D g k f d x y p q h.call j.call in
    let name = one.0 in
    let arguments = one.1 in
    let type = result_one T D (prototype_of k).result t u (subst (λ (o : Runtime). IsRuntimeResult T (prototype_of o).result t) name h.result) j.result in
    alike-same (typed.CallRuntime g f at x t) (typed.CallRuntime k d at y u) (λ i. typed.CallRuntime (name i) (p i) at (arguments i) (type i))
called-one T D f d at x y m n _ _ p q e (allocation g a t h c) (allocation k b u j l) =
    let one = runtime_one T D g k f d x y p q h.call j.call in
    let name = one.0 in
    let arguments = one.1 in
    let node = node-same a b m n e c l in
    let void = shape-one T D h.void j.void Void Void refl h.nothing j.nothing in
    let type = shape-one T D t u (Pointer a h.void) (Pointer b j.void) (λ i. Pointer (node i) (void i)) h.type j.type in
    alike-same (typed.Allocate g f at x a t) (typed.Allocate k d at y b u) (λ i. typed.Allocate (name i) (p i) at (arguments i) (node i) (type i))
called-one T D f d at x y m n _ _ p q e (taken g t h) (taken k u j) =
    let one = runtime_one T D g k f d x y p q h.call j.call in
    taken_same g k f d at x y t u one.0 p one.1
called-one T D f d at x y m n _ _ p q e (allocation g a t h c) (taken k u j) = record { allocation = refl; same = λ over type. no_true over }
called-one T D f d at x y m n _ _ p q e (taken k u j) (allocation g a t h c) = record { allocation = refl; same = λ over type. no_true (sym over) }
called-one T D f d at x y m n _ _ p q e (function t h) (runtime k u j) = plain_runtime f d k p h.pointer.plain j.call.named
called-one T D f d at x y m n _ _ p q e (function t h) (allocation k a u j c) = plain_runtime f d k p h.pointer.plain j.call.named
called-one T D f d at x y m n _ _ p q e (function t h) (taken k u j) = plain_runtime f d k p h.pointer.plain j.call.named
called-one T D f d at x y m n _ _ p q e (runtime k u j) (function t h) = plain_runtime d f k (sym p) h.pointer.plain j.call.named
called-one T D f d at x y m n _ _ p q e (allocation k a u j c) (function t h) = plain_runtime d f k (sym p) h.pointer.plain j.call.named
called-one T D f d at x y m n _ _ p q e (taken k u j) (function t h) = plain_runtime d f k (sym p) h.pointer.plain j.call.named
called-one T D f d at x y m n _ _ p q e (runtime g t h) (allocation k a u j c) =
    let one = runtime_one T D g k f d x y p q h.call j.call in
    pointer_result T (prototype_of k).result t (subst (λ (o : Runtime). IsRuntimeResult T (prototype_of o).result t) one.0 h.result) j.gives
called-one T D f d at x y m n _ _ p q e (runtime g t h) (taken k u j) =
    let one = runtime_one T D g k f d x y p q h.call j.call in
    pointer_result T (prototype_of k).result t (subst (λ (o : Runtime). IsRuntimeResult T (prototype_of o).result t) one.0 h.result) j.gives
called-one T D f d at x y m n _ _ p q e (allocation k a u j c) (runtime g t h) =
    let one = runtime_one T D k g f d x y p q j.call h.call in
    pointer_result T (prototype_of k).result t (subst (λ (o : Runtime). IsRuntimeResult T (prototype_of o).result t) (sym one.0) h.result) j.gives
called-one T D f d at x y m n _ _ p q e (taken k u j) (runtime g t h) =
    let one = runtime_one T D k g f d x y p q j.call h.call in
    pointer_result T (prototype_of k).result t (subst (λ (o : Runtime). IsRuntimeResult T (prototype_of o).result t) (sym one.0) h.result) j.gives
