-- That a name is found exactly where a runtime function has it.
use Rattle.std.proofs.Common.{◌≡◌, ℕ, Bool, true, false, if◌then◌else◌, List, [], ◌∷◌, Option, Some, None, MatchOption, find, bytes_eq, refl}
use Rattle.std.specs.Bool.{⊤}
use Rattle.std.proofs.lemmas.Slice.Eq.{bytes_eq-Decides}
use Rattle.std.proofs.lemmas.Bool.Decides.{not_from_Decides}
use Rattle.c_tree.specs.declared.typed_word.Runtime.{Runtime}
use Rattle.c_tree.specs.declared.typed_word.Runtime.TheVariants.{Malloc, Calloc, Free, Getchar, Putchar, Exit}
use Rattle.runtime_calls.specs.declared.naming.TheConstants.{RUNTIME}
use Rattle.runtime_calls.specs.Prototypes.{runtime_name, runtime_of, IsNamed, IsNoName}

abbrev NoneOf : {A : Type 0} → (A → Bool) → List A → Type 0
NoneOf test [] = ⊤
NoneOf test (x ∷ xs) = (test x ≡ false) × NoneOf test xs

push : {A : Type 0} (P Q : Type 0) (R : A → Type 0) (o : Option A) → P → MatchOption o Q R → MatchOption o (P × Q) R
push P Q R None p q = (p, q)
push P Q R (Some x) p r = r

by_head : {A : Type 0} (test : A → Bool) (x : A) (xs : List A) (b : Bool) → test x ≡ b
    → MatchOption (find test xs) (NoneOf test xs) (λ y. test y ≡ true)
    → MatchOption (if b then Some x else find test xs) (NoneOf test (x ∷ xs)) (λ y. test y ≡ true)
by_head test x xs true e rest = e
by_head test x xs false e rest = push _ _ _ (find test xs) e rest

searched : {A : Type 0} (test : A → Bool) (xs : List A) → MatchOption (find test xs) (NoneOf test xs) (λ x. test x ≡ true)
searched test [] = tt
searched test (x ∷ xs) = by_head test x xs (test x) refl (searched test xs)

abbrev test_of : List ℕ → Runtime → Bool
test_of name r = bytes_eq (runtime_name r) name

no_name : (name : List ℕ) (r : Runtime) → test_of name r ≡ false → IsNamed name r → ⊥
no_name name r e = not_from_Decides (test_of name r) (bytes_eq-Decides (runtime_name r) name) e

none_named : (name : List ℕ) → NoneOf (test_of name) RUNTIME → IsNoName name
none_named name n Malloc = no_name name Malloc n.0
none_named name n Calloc = no_name name Calloc n.1.0
none_named name n Free = no_name name Free n.1.1.0
none_named name n Getchar = no_name name Getchar n.1.1.1.0
none_named name n Putchar = no_name name Putchar n.1.1.1.1.0
none_named name n Exit = no_name name Exit n.1.1.1.1.1.0

carried : (name : List ℕ) (o : Option Runtime) → MatchOption o (NoneOf (test_of name) RUNTIME) (λ r. test_of name r ≡ true) → MatchOption o (IsNoName name) (IsNamed name)
carried name None n = none_named name n
carried name (Some r) e = (bytes_eq-Decides (runtime_name r) name).0 e

pub runtime_of-exact : (name : List ℕ) → MatchOption (runtime_of name) (IsNoName name) (IsNamed name)
runtime_of-exact name = carried name (runtime_of name) (searched (test_of name) RUNTIME)
