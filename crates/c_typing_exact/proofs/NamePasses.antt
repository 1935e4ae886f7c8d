-- A well typed name breaks no rule, where a runtime function is named only to be called.
use Rattle.std.proofs.Common.{◌≡◌, ℕ, ℤ, Bool, true, false, not, ◌&&◌, ◌||◌, List, [], ◌∷◌, Option, Some, None, refl, ap, sym, subst, ◌∙◌, codes}
use Rattle.std.specs.Option.{MatchOption}
use Rattle.std.proofs.lemmas.Slice.Eq.{bytes_eq-Decides}
use Rattle.cc_base.specs.declared.place.Place.{Place}
use Rattle.cc_base.specs.declared.number.NodeId.{NodeId}
use Rattle.cc_base.specs.declared.number.TypeId.{TypeId}
use Rattle.cc_base.specs.declared.fault.Rule.TheVariants as rule
use Rattle.c_types.specs.Table.{Table}
use Rattle.c_tree.specs.declared.leaf.Identifier.{Identifier}
use Rattle.c_tree.specs.declared.typed_word.Runtime.{Runtime}
use Rattle.c_tree.specs.declared.typed_word.Runtime.TheVariants.{Malloc, Calloc, Free, Getchar, Putchar, Exit}
use Rattle.runtime_calls.specs.Prototypes.{IsNamed, IsNoName, runtime_of, runtime_name}
use Rattle.runtime_calls.proofs.Found.{runtime_of-exact}
use Rattle.c_typing.specs.declared.declared.Declared.{Declared}
use Rattle.c_typing.specs.declared.declared.Declared.TheVariants as declared
use Rattle.c_typing.specs.Rules.{IsEnumerator, IsFunctionName, IsRuntimeName, IsVariable, is_hidden}
use Rattle.c_typing.specs.Scopes.{Name, Scopes, name_in, place_among}
use Rattle.c_typing.specs.Tests.{Test, broken_at, first_broken, name_tests, has_some, is_none, is_main, is_function_declared, is_type_declared}
use Rattle.c_typing_unique.specs.Sameness.{HasOwnFunctions}
use Rattle.c_typing_unique.proofs.Shapes.{no_true}
use Rattle.c_typing_exact.specs.Passing.{Passes}
use Rattle.c_typing_exact.proofs.Unbroken.{passes_one, and_off}

-- the rules, by what the name stands for, and its place among the functions that are defined
abbrev named_on : Option Declared → Option ℕ → (runtime called main : Bool) → Place → List Test
named_on what number runtime called main at =
    broken_at rule.UnknownName at ((is_none what && not runtime) || (is_type_declared what || (is_function_declared what && (not runtime && is_none number))))
    ∷ broken_at rule.BadCall at ((is_function_declared what && main) || (runtime && (not called && (is_none what || is_function_declared what))))
    ∷ []

object_on : (t : TypeId) (home : NodeId) (number : Option ℕ) (runtime called main : Bool) (at : Place) → Passes (named_on (Some (declared.Object t home)) number runtime called main at)
object_on t home number runtime called main at =
    passes_one rule.BadCall at (runtime && (not called && false)) (and_off runtime (not called && false) (and_off (not called) false refl))

enumerator_on : (value : ℤ) (number : Option ℕ) (runtime called main : Bool) (at : Place)
    → Passes (named_on (Some (declared.Enumerator value)) number runtime called main at)
enumerator_on value number runtime called main at =
    passes_one rule.BadCall at (runtime && (not called && false)) (and_off runtime (not called && false) (and_off (not called) false refl))

function_on : (t : TypeId) (number : ℕ) (called : Bool) (at : Place) → Passes (named_on (Some (declared.Function t)) (Some number) false called false at)
function_on t number called at = refl

runtime_on : (what : Option Declared) (number : Option ℕ) (at : Place) → is_hidden what ≡ false → Passes (named_on what number true true false at)
runtime_on None number at h = refl
runtime_on (Some (declared.Function t)) number at h = refl
runtime_on (Some (declared.Object t home)) number at h = no_true (sym h)
runtime_on (Some (declared.Typedef t)) number at h = no_true (sym h)
runtime_on (Some (declared.Enumerator value)) number at h = no_true (sym h)

-- names of runtime functions

named_runtime : (word : Name) (function : Runtime) → runtime_of word ≡ Some function → IsNamed word function
named_runtime word function h = subst (λ (o : Option Runtime). MatchOption o (IsNoName word) (IsNamed word)) h (runtime_of-exact word)

own_runtime : (word : Name) → IsNoName word → (o : Option Runtime) → runtime_of word ≡ o → has_some o ≡ false
own_runtime word own None h = refl
own_runtime word own (Some function) h = absurd (own function (named_runtime word function h))

some_runtime : (word : Name) (function : Runtime) → IsNamed word function → (o : Option Runtime) → runtime_of word ≡ o → has_some o ≡ true
some_runtime word function n (Some f) h = refl
some_runtime word function n None h = absurd (subst (λ (o : Option Runtime). MatchOption o (IsNoName word) (IsNamed word)) h (runtime_of-exact word) function n)

no_main : (function : Runtime) → is_main (runtime_name function) ≡ false
no_main Malloc = refl
no_main Calloc = refl
no_main Free = refl
no_main Getchar = refl
no_main Putchar = refl
no_main Exit = refl

not_main : (word : Name) → (word ≡ codes "main" → ⊥) → (b : Bool) → is_main word ≡ b → b ≡ false
not_main word h false q = refl
not_main word h true q = absurd (h ((bytes_eq-Decides word (codes "main")).0 q))

module _ (T : Table) (s : Scopes) (called : Bool) (name : Identifier) where
  at_what : (what : Option Declared) (number : Option ℕ) (runtime main : Bool) → name_in s.levels name.bytes ≡ what → place_among s.defined name.bytes ≡ number
      → has_some (runtime_of name.bytes) ≡ runtime → is_main name.bytes ≡ main → Passes (named_on what number runtime called main name.place)
      → Passes (name_tests s (has_some (runtime_of name.bytes)) called name.bytes name.place)
  at_what what number runtime main p q r m h =
      ap first_broken (λ i. named_on (p i) (q i) (r i) called (m i) name.place) ∙ h

  pub variable-passes : (home : NodeId) (t : TypeId) → IsVariable s name home t → Passes (name_tests s (has_some (runtime_of name.bytes)) called name.bytes name.place)
  variable-passes home t h =
      at_what (Some (declared.Object t home)) (place_among s.defined name.bytes) (has_some (runtime_of name.bytes)) (is_main name.bytes) h refl refl refl
      (object_on t home (place_among s.defined name.bytes) (has_some (runtime_of name.bytes)) called (is_main name.bytes) name.place)

  pub enumerator-passes : (value : ℤ) (t : TypeId) → IsEnumerator T s name value t → Passes (name_tests s (has_some (runtime_of name.bytes)) called name.bytes name.place)
  enumerator-passes value t h =
      at_what (Some (declared.Enumerator value)) (place_among s.defined name.bytes) (has_some (runtime_of name.bytes)) (is_main name.bytes) h.known refl refl refl
      (enumerator_on value (place_among s.defined name.bytes) (has_some (runtime_of name.bytes)) called (is_main name.bytes) name.place)

  pub function-name-passes : (number : ℕ) (n : NodeId) (t : TypeId) → HasOwnFunctions s → IsFunctionName T s name number n t
      → Passes (name_tests s (has_some (runtime_of name.bytes)) called name.bytes name.place)
  function-name-passes number n t own h =
      at_what (Some (declared.Function h.function)) (Some number) false false h.known h.defined (own_runtime name.bytes (own name.bytes number h.defined) (runtime_of name.bytes) refl)
      (not_main name.bytes h.not_main (is_main name.bytes) refl) (function_on h.function number called name.place)

  pub runtime-name-passes : (function : Runtime) (t : TypeId) → called ≡ true → IsRuntimeName T s name function t
      → Passes (name_tests s (has_some (runtime_of name.bytes)) called name.bytes name.place)
  runtime-name-passes function t c h =
      at_what (name_in s.levels name.bytes) (place_among s.defined name.bytes) true false refl refl (some_runtime name.bytes function h.named (runtime_of name.bytes) refl)
      (ap is_main (sym h.named) ∙ no_main function)
      (ap (λ (b : Bool). first_broken (named_on (name_in s.levels name.bytes) (place_among s.defined name.bytes) true b false name.place)) c
      ∙ runtime_on (name_in s.levels name.bytes) (place_among s.defined name.bytes) name.place h.seen)
