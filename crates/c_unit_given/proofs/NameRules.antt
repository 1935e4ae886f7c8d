-- A name that is declared as the rules have it breaks no rule of names (C99 6.2.2, 6.7, 6.9).
use Rattle.std.proofs.Common.{◌≡◌, ◌==◌, Bool, true, false, not, ◌&&◌, ◌||◌, List, [], ◌∷◌, Option, Some, None, refl, ap, sym, subst, ◌∙◌, arith}
use Rattle.std.specs.List.{AllZip}
use Rattle.std.specs.Prelude.{MatchOption}
use Rattle.std.proofs.lemmas.Bool.Decides.{nat_tests}
use Rattle.cc_base.specs.declared.number.NodeId.{NodeId}
use Rattle.cc_base.specs.declared.number.TypeId.{TypeId}
use Rattle.cc_base.specs.declared.place.Place.{Place}
use Rattle.cc_base.specs.declared.fault.Rule.TheVariants as rule
use Rattle.c_types.specs.declared.shape.TypeShape.{TypeShape}
use Rattle.c_types.specs.Table.{Table, shape_at}
use Rattle.c_tree.specs.declared.typed_word.Home.{Home}
use Rattle.c_tree.specs.declared.typed_word.Home.TheVariants as home
use Rattle.c_tree.specs.declared.typed_word.Runtime.{Runtime}
use Rattle.runtime_calls.specs.declared.function.RuntimeType.{RuntimeType}
use Rattle.runtime_calls.specs.declared.function.RuntimeType.TheVariants as prototype
use Rattle.runtime_calls.specs.Prototypes.{IsNamed, IsNoName, IsRuntimeType, HasPrototype, prototype_of, runtime_of}
use Rattle.runtime_calls.proofs.Found.{runtime_of-exact}
use Rattle.c_typing.specs.declared.declared.Declared.{Declared}
use Rattle.c_typing.specs.declared.declared.Declared.TheVariants as declared
use Rattle.c_typing.specs.Constants.{is_void_pointer_shape}
use Rattle.c_typing.specs.Scopes.{Name, here, entry_of, is_complete_at}
use Rattle.c_typing.specs.Shapes.{is_function_shape, is_void_shape}
use Rattle.c_typing.specs.Tests.{Test, broken_at, has_some}
use Rattle.c_typing_unique.proofs.Shapes.{no_true}
use Rattle.c_typing_exact.specs.Passing.{Passes}
use Rattle.c_typing_exact.proofs.Unbroken.{passes_one, passes_and}
use Rattle.c_unit_typing.specs.DeclarationJudging.{is_linked_object}
use Rattle.c_unit_typing.specs.Units.{Known, Storage, Unstored, AsTypedef, AsExtern, AsStatic, AsAutomatic, AgreesWith, AgreesWithRuntime, IsLinkedHome, IsLinked, IsLinkedObject, IsTypedefDeclared, IsFunctionDeclared, IsObjectDeclared, IsOrdinaryDeclared, IsNameDeclared, is_one_of, is_linked_home}
use Rattle.c_unit_typing.specs.UnitRefusals.{conflicts, conflicts_with_runtime, has_linkage, is_unlinked, is_redeclared, is_taken_by_runtime, is_object, is_integer_of, is_runtime_type, are_runtime_types, is_prototype_shape, declared_tests}
use Rattle.c_unit_typing.proofs.DeclaredNames.{is_typedef, zero_home, declared-as, linkage_of_function, linkage_of_object}

or_off : (a b : Bool) → a ≡ false → b ≡ false → (a || b) ≡ false
or_off true b h k = h
or_off false b h k = k

and_off : (a b : Bool) → (a ≡ true → b ≡ false) → (a && b) ≡ false
and_off true b h = h refl
and_off false b h = refl

-- Declarations before

agrees_object : (T : Table) (o : Option Declared) (t : TypeId) (n m : NodeId) → AgreesWith T o (declared.Object t n) → conflicts T o (declared.Object t m) ≡ false
agrees_object T None t n m h = refl
agrees_object T (Some (declared.Object u l)) t n m h = ap not h.0
agrees_object T (Some (declared.Function u)) t n m h = absurd h
agrees_object T (Some (declared.Typedef u)) t n m h = absurd h
agrees_object T (Some (declared.Enumerator z)) t n m h = absurd h

agrees_function : (T : Table) (o : Option Declared) (t : TypeId) → AgreesWith T o (declared.Function t) → conflicts T o (declared.Function t) ≡ false
agrees_function T None t h = refl
agrees_function T (Some (declared.Function u)) t h = ap not h
agrees_function T (Some (declared.Object u l)) t h = absurd h
agrees_function T (Some (declared.Typedef u)) t h = absurd h
agrees_function T (Some (declared.Enumerator z)) t h = absurd h

function_linked : (T : Table) (o first : Option Declared) (t : TypeId) → AgreesWith T o (declared.Function t) → is_unlinked o first ≡ false
function_linked T None first t h = refl
function_linked T (Some (declared.Function u)) first t h = refl
function_linked T (Some (declared.Object u l)) first t h = absurd h
function_linked T (Some (declared.Typedef u)) first t h = absurd h
function_linked T (Some (declared.Enumerator z)) first t h = absurd h

pub equal-numbers : (a b : NodeId) → a ≡ b → (a.0 == b.0) ≡ true
equal-numbers a b h = let e : a.0 ≡ b.0 = ap (λ (n : NodeId). n.0) h in grind (arith, nat_tests)

-- a new home is none of those before
abbrev pub IsNotBefore : Home → NodeId → Type 0
IsNotBefore h m = (n : NodeId) → h ≡ home.Static n → m ≡ n → ⊥

home_linked : (first : Option Declared) (h : Home) (node m : NodeId) → IsLinkedHome first h node → m ≡ node → IsNotBefore h m → is_linked_home first m ≡ true
home_linked (Some (declared.Object t n)) (home.Known l) node m h e apart = equal-numbers n m (h.0 ∙ h.1 ∙ sym e)
home_linked None (home.Static n) node m h e apart = absurd (apart n refl (e ∙ sym h))
home_linked first other node m h e apart = absurd h

object_linked : (T : Table) (o first : Option Declared) (t : TypeId) (h : Home) (node : NodeId) → AgreesWith T o (declared.Object t node) → IsLinkedHome first h node
    → ((u : TypeId) (m : NodeId) → o ≡ Some (declared.Object u m) → IsNotBefore h m) → is_unlinked o first ≡ false
object_linked T None first t h node a l apart = refl
object_linked T (Some (declared.Object u m)) first t h node a l apart = ap not (home_linked first h node m l a.1 (apart u m refl))
object_linked T (Some (declared.Function u)) first t h node a l apart = refl
object_linked T (Some (declared.Typedef u)) first t h node a l apart = refl
object_linked T (Some (declared.Enumerator z)) first t h node a l apart = refl

-- Runtime functions

pub named-runtime : (word : Name) (function : Runtime) → runtime_of word ≡ Some function → IsNamed word function
named-runtime word function h = subst (λ (o : Option Runtime). MatchOption o (IsNoName word) (IsNamed word)) h (runtime_of-exact word)

runtime_type : (T : Table) (r : RuntimeType) (t : TypeId) → IsRuntimeType T r t → is_runtime_type T r t ≡ true
runtime_type T prototype.Void t h = ap is_void_shape h.1
runtime_type T prototype.Int t h = ap (λ (x : TypeShape). is_integer_of x 4 true) h.1
runtime_type T prototype.UnsignedLong t h = ap (λ (x : TypeShape). is_integer_of x 8 false) h.1
runtime_type T prototype.VoidPointer t h = ap (is_void_pointer_shape T) h.pointer.1 ∙ ap is_void_shape h.void.1

and_on : (a b : Bool) → a ≡ true → b ≡ true → (a && b) ≡ true
and_on true b h k = k
and_on false b h k = h

runtime_types : (T : Table) (rs : List RuntimeType) (ts : List TypeId) → AllZip (IsRuntimeType T) rs ts → are_runtime_types T rs ts ≡ true
runtime_types T [] [] h = refl
runtime_types T [] (t ∷ ts) h = absurd h
runtime_types T (r ∷ rs) [] h = absurd h
runtime_types T (r ∷ rs) (t ∷ ts) h = and_on (is_runtime_type T r t) (are_runtime_types T rs ts) (runtime_type T r t h.0) (runtime_types T rs ts h.1)

prototype_shape : (T : Table) (function : Runtime) (t : TypeId) → HasPrototype T function t → is_prototype_shape T function (shape_at T t) ≡ true
prototype_shape T function t h =
    ap (is_prototype_shape T function) h.shape.1
    ∙ and_on (are_runtime_types T (prototype_of function).parameters h.parameters) (is_runtime_type T (prototype_of function).result h.result)
    (runtime_types T (prototype_of function).parameters h.parameters h.each) (runtime_type T (prototype_of function).result h.result h.last)

runtime_function : (T : Table) (name : Name) (t : TypeId) → ((function : Runtime) → IsNamed name function → AgreesWithRuntime T function (declared.Function t)) → (o : Option Runtime)
    → runtime_of name ≡ o → conflicts_with_runtime T o (declared.Function t) ≡ false
runtime_function T name t h None q = refl
runtime_function T name t h (Some function) q = ap not (prototype_shape T function t (h function (named-runtime name function q)))

runtime_object : (T : Table) (name : Name) (t : TypeId) (n m : NodeId) → ((function : Runtime) → IsNamed name function → AgreesWithRuntime T function (declared.Object t n)) → (o : Option Runtime)
    → runtime_of name ≡ o → conflicts_with_runtime T o (declared.Object t m) ≡ false
runtime_object T name t n m h None q = refl
runtime_object T name t n m h (Some function) q = absurd (h function (named-runtime name function q))

runtime_typedef : (T : Table) (name : Name) (t : TypeId) → IsNoName name → (o : Option Runtime) → runtime_of name ≡ o → conflicts_with_runtime T o (declared.Typedef t) ≡ false
runtime_typedef T name t h None q = refl
runtime_typedef T name t h (Some function) q = absurd (h function (named-runtime name function q))

-- Names

abbrev pub IsObjectHome : Home → Type 0
IsObjectHome (home.Static n) = Unit {0}
IsObjectHome (home.Known n) = Unit {0}
IsObjectHome (home.Local n) = Unit {0}
IsObjectHome h = ⊥

module _ (T : Table) (k : Known) (name : Name) where
  all_off : (i : Bool) (what : Declared) → conflicts T (here k.scopes.levels name) what ≡ false → is_unlinked (here k.scopes.levels name) (entry_of k.linked name) ≡ false
      → conflicts T (entry_of k.linked name) what ≡ false → conflicts_with_runtime T (runtime_of name) what ≡ false → (i ≡ true → is_one_of k.defined name ≡ false)
      → is_redeclared T k true i name what ≡ false
  all_off i what a b c d e =
      or_off (conflicts T (here k.scopes.levels name) what) _ a
      (or_off (is_unlinked (here k.scopes.levels name) (entry_of k.linked name)) _ b
      (or_off (conflicts T (entry_of k.linked name) what) _ c
      (or_off (conflicts_with_runtime T (runtime_of name) what) _ d (and_off i (is_one_of k.defined name) e))))

  -- a function may be declared, or defined, here
  pub function-agrees : (i : Bool) (t : TypeId) (k' : Known) → IsLinked T name (declared.Function t) k k' → (i ≡ true → is_one_of k.defined name ≡ false)
      → is_redeclared T k true i name (declared.Function t) ≡ false
  function-agrees i t k' h once =
      all_off i (declared.Function t) (agrees_function T (here k.scopes.levels name) t h.here_agrees)
      (function_linked T (here k.scopes.levels name) (entry_of k.linked name) t h.here_agrees) (agrees_function T (entry_of k.linked name) t h.linked_agrees)
      (runtime_function T name t h.runtime_agrees (runtime_of name) refl) once

  module _ (file : Bool) (storage : Storage) (initialised : Bool) (t : TypeId) (at : Place) where
    abbrev tests_with : Declared → List Test
    tests_with what =
        broken_at rule.Redeclared at (is_redeclared T k (has_linkage file storage what) (initialised && is_object what) name what || is_taken_by_runtime T file name what)
        ∷ broken_at rule.Incomplete at (is_object what && not (is_complete_at T k.scopes t))
        ∷ broken_at rule.Mismatch at (initialised && not (is_object what))
        ∷ []

    passes_with : (what : Declared) → is_redeclared T k (has_linkage file storage what) (initialised && is_object what) name what ≡ false → is_taken_by_runtime T file name what ≡ false
        → (is_object what && not (is_complete_at T k.scopes t)) ≡ false → (initialised && not (is_object what)) ≡ false → Passes (tests_with what)
    passes_with what a r b c =
        let again = is_redeclared T k (has_linkage file storage what) (initialised && is_object what) name what in
        let taken = is_taken_by_runtime T file name what in
        passes_and rule.Redeclared at (again || taken)
        (broken_at rule.Incomplete at (is_object what && not (is_complete_at T k.scopes t)) ∷ broken_at rule.Mismatch at (initialised && not (is_object what)) ∷ []) (or_off again taken a r)
        (passes_and rule.Incomplete at (is_object what && not (is_complete_at T k.scopes t)) (broken_at rule.Mismatch at (initialised && not (is_object what)) ∷ []) b (passes_one rule.Mismatch at (initialised && not (is_object what)) c))

    not_taken : (what : Declared) → conflicts_with_runtime T (runtime_of name) what ≡ false → is_taken_by_runtime T file name what ≡ false
    not_taken what h = and_off file (conflicts_with_runtime T (runtime_of name) what) (λ q. h)

    and_same : (b : Bool) → (b && true) ≡ b
    and_same true = refl
    and_same false = refl

    no_object : {P : Type 0} (b : Bool) → (b && false) ≡ true → P
    no_object true q = no_true q
    no_object false q = no_true q

    plainly : (b : Bool) → (initialised ≡ true → ⊥) → (initialised && b) ≡ false
    plainly b h = and_off initialised b (λ q. absurd (h q))

    objects : (b : Bool) → (initialised && false) ≡ false
    objects b = and_off initialised false (λ q. refl)

    function_passes : (h : Home) (k' : Known) → IsFunctionDeclared T h name t k k' → (initialised ≡ true → IsObjectHome h) → Passes (tests_with (declared.Function t))
    function_passes home.None k' d i =
        passes_with (declared.Function t)
        (subst (λ (l : Bool). is_redeclared T k l (initialised && false) name (declared.Function t) ≡ false) (sym (linkage_of_function file storage t))
        (function-agrees (initialised && false) t k' d (λ q. no_object initialised q)))
        (not_taken (declared.Function t) (runtime_function T name t d.runtime_agrees (runtime_of name) refl)) refl (plainly true i)
    function_passes (home.Static n) k' d i = absurd d
    function_passes (home.Local n) k' d i = absurd d
    function_passes (home.Parameter n) k' d i = absurd d
    function_passes (home.Known n) k' d i = absurd d

    linked_passes : (h : Home) (k' : Known) → is_linked_object file storage ≡ true → IsLinkedObject T name h t k k'
        → ((u : TypeId) (m : NodeId) → here k.scopes.levels name ≡ Some (declared.Object u m) → IsNotBefore h m) → (initialised ≡ true → is_one_of k.defined name ≡ false)
        → Passes (tests_with (declared.Object t zero_home))
    linked_passes h k' l d apart once =
        passes_with (declared.Object t zero_home)
        (subst (λ (b : Bool). is_redeclared T k b (initialised && true) name (declared.Object t zero_home) ≡ false) (sym (linkage_of_object file storage t zero_home l))
        (all_off (initialised && true) (declared.Object t zero_home) (agrees_object T (here k.scopes.levels name) t d.node zero_home d.linked.here_agrees)
        (object_linked T (here k.scopes.levels name) (entry_of k.linked name) t h d.node d.linked.here_agrees d.home apart)
        (agrees_object T (entry_of k.linked name) t d.node zero_home d.linked.linked_agrees) (runtime_object T name t d.node zero_home d.linked.runtime_agrees (runtime_of name) refl) (λ q. once (sym (and_same initialised) ∙ q))))
        (not_taken (declared.Object t zero_home) (runtime_object T name t d.node zero_home d.linked.runtime_agrees (runtime_of name) refl)) (ap not d.complete) (objects true)

    new_passes : file ≡ false → has_linkage file storage (declared.Object t zero_home) ≡ false → is_complete_at T k.scopes t ≡ true → here k.scopes.levels name ≡ None
        → Passes (tests_with (declared.Object t zero_home))
    new_passes block l c fresh =
        passes_with (declared.Object t zero_home)
        (subst (λ (b : Bool). is_redeclared T k b (initialised && true) name (declared.Object t zero_home) ≡ false) (sym l) (ap has_some fresh))
        (and_off file (conflicts_with_runtime T (runtime_of name) (declared.Object t zero_home)) (λ q. no_true (sym block ∙ q))) (ap not c) (objects true)

    typedef_passes : (h : Home) (k' : Known) → has_linkage file storage (declared.Typedef t) ≡ false → IsTypedefDeclared file h name t k k' → (initialised ≡ true → IsObjectHome h)
        → Passes (tests_with (declared.Typedef t))
    typedef_passes home.None k' l d i =
        passes_with (declared.Typedef t)
        (subst (λ (b : Bool). is_redeclared T k b (initialised && false) name (declared.Typedef t) ≡ false) (sym l) (ap has_some d.1.fresh))
        (and_off file (conflicts_with_runtime T (runtime_of name) (declared.Typedef t)) (λ q. runtime_typedef T name t (d.3 q) (runtime_of name) refl)) refl (plainly true i)
    typedef_passes (home.Static n) k' l d i = absurd d
    typedef_passes (home.Local n) k' l d i = absurd d
    typedef_passes (home.Parameter n) k' l d i = absurd d
    typedef_passes (home.Known n) k' l d i = absurd d

  -- an object, by where it stands and its storage
  object_passes : (file : Bool) (storage : Storage) (initialised : Bool) (t : TypeId) (at : Place) (h : Home) (k' : Known) → is_typedef storage ≡ false → IsObjectDeclared T file storage h name t k k'
      → ((u : TypeId) (m : NodeId) → here k.scopes.levels name ≡ Some (declared.Object u m) → IsNotBefore h m) → (initialised ≡ true → is_linked_object file storage ≡ true → is_one_of k.defined name ≡ false)
      → Passes (tests_with file storage initialised t at (declared.Object t zero_home))
  object_passes file AsTypedef initialised t at h k' n d apart once = no_true (sym n)
  object_passes true storage initialised t at h k' n d apart once = linked_passes true storage initialised t at h k' refl d apart (λ q. once q refl)
  object_passes false AsExtern initialised t at h k' n d apart once = linked_passes false AsExtern initialised t at h k' refl d apart (λ q. once q refl)
  object_passes false AsStatic initialised t at (home.Static m) k' n d apart once = new_passes false AsStatic initialised t at refl refl d.1.complete d.1.fresh.fresh
  object_passes false Unstored initialised t at (home.Local m) k' n d apart once = new_passes false Unstored initialised t at refl refl d.1.complete d.1.fresh.fresh
  object_passes false AsAutomatic initialised t at (home.Local m) k' n d apart once = new_passes false AsAutomatic initialised t at refl refl d.1.complete d.1.fresh.fresh
  object_passes false storage initialised t at h k' n d apart once = absurd d

  ordinary_passes : (f : Bool) (file : Bool) (storage : Storage) (initialised : Bool) (t : TypeId) (at : Place) (h : Home) (k' : Known) → is_function_shape (shape_at T t) ≡ f → is_typedef storage ≡ false
      → IsOrdinaryDeclared f T file storage h name t k k' → (initialised ≡ true → IsObjectHome h)
      → ((u : TypeId) (m : NodeId) → here k.scopes.levels name ≡ Some (declared.Object u m) → IsNotBefore h m) → (initialised ≡ true → is_linked_object file storage ≡ true → is_one_of k.defined name ≡ false)
      → Passes (declared_tests T k file storage initialised name t at)
  ordinary_passes true file storage initialised t at h k' q n d i apart once =
      subst (λ (w : Declared). Passes (tests_with file storage initialised t at w)) (sym (declared-as T storage t true n q)) (function_passes file storage initialised t at h k' d i)
  ordinary_passes false file storage initialised t at h k' q n d i apart once =
      subst (λ (w : Declared). Passes (tests_with file storage initialised t at w)) (sym (declared-as T storage t false n q)) (object_passes file storage initialised t at h k' n d apart once)

  -- a name that is declared breaks none of its rules
  pub name-passes : (file : Bool) (storage : Storage) (initialised : Bool) (t : TypeId) (at : Place) (h : Home) (k' : Known) → IsNameDeclared T file storage h name t k k'
      → (initialised ≡ true → IsObjectHome h) → ((u : TypeId) (m : NodeId) → here k.scopes.levels name ≡ Some (declared.Object u m) → IsNotBefore h m)
      → (initialised ≡ true → is_linked_object file storage ≡ true → is_one_of k.defined name ≡ false) → Passes (declared_tests T k file storage initialised name t at)
  name-passes true AsTypedef initialised t at h k' d i apart once = typedef_passes true AsTypedef initialised t at h k' refl d i
  name-passes false AsTypedef initialised t at h k' d i apart once = typedef_passes false AsTypedef initialised t at h k' refl d i
  name-passes file storage initialised t at h k' d i apart once =
      ordinary_passes (is_function_shape (shape_at T t)) file storage initialised t at h k' refl refl d i apart once
