-- A declarator that makes a type breaks no rule of declarators.
use Rattle.std.proofs.Common.{◌≡◌, ℕ, Bool, true, false, not, ◌&&◌, List, [], ◌∷◌, Option, Some, None, refl, ap, sym, subst, ◌∙◌, inl, inr, ◌⊎◌, if◌then◌else◌}
use Rattle.std.proofs.lemmas.Option.{none-some}
use Rattle.cc_base.specs.declared.place.Place.{Place}
use Rattle.cc_base.specs.declared.number.NodeId.{NodeId}
use Rattle.cc_base.specs.declared.number.TypeId.{TypeId}
use Rattle.cc_base.specs.declared.fault.Fault.{Fault}
use Rattle.cc_base.specs.declared.fault.Rule.TheVariants as rule
use Rattle.c_types.specs.Table.{Table, shape_at, is_empty}
use Rattle.c_tree.specs.declared.leaf.Word.{Word}
use Rattle.c_tree.specs.declared.typed_word.TypedStar.{TypedStar}
use Rattle.c_tree.specs.TypedTree as typed
use Rattle.c_tree.specs.TypedTree.{TypedForm, TypedCore, TypedParts, TypedParameters, TypedDeclared}
use Rattle.c_tree.specs.TypedParts.{name_of_form}
use Rattle.c_typing.specs.Declarators.{Outermost, Written, Counts, Points, MakesArray, MakesFunction, PartsMake, StarsMake, FormMakes, CoreMakes, DeclaredMakes, nearest, outside, is_derived, is_derived_core, is_pointed, first_word_place, is_result_shape}
use Rattle.c_typing.specs.Refusals.{Fails, PartsFail, FormFails, CoreFails, DeclaredFails, name_place}
use Rattle.c_typing.specs.Scopes.{Scopes, is_complete_at}
use Rattle.c_typing.specs.Tests.{Test, broken_at, array_tests, function_tests, lacks_size}
use Rattle.c_typing_unique.proofs.FormLaws.{parts-make, stars-make, makes-array, makes-function}
use Rattle.c_typing_unique.proofs.Shapes.{IsDistinct, no_true}
use Rattle.c_typing_exact.specs.Passing.{Passes}
use Rattle.c_typing_exact.proofs.Unbroken.{passes_one, passes_and, and_off, off}

pub passes-fails : {P : Type 0} (tests : List Test) (f : Fault) → Passes tests → Fails tests f → P
passes-fails tests f h k = absurd (none-some f (sym h ∙ k))

-- where the part nearest to the name is read as a pointer, no more rules are broken
abbrev pub Allows : Outermost → Outermost → Type 0
Allows other o = (other ≡ o) ⊎ ((n : NodeId) × (other ≡ Points n))

-- what an array part keeps to
abbrev KeepsArray : Table → Scopes → Outermost → Bool → List Word → TypeId → Type 0
KeepsArray T s o sized words v = (is_complete_at T s v ≡ true) × (lacks_size o sized ≡ false) × ((not (is_empty words) && not (is_pointed o)) ≡ false)

array_kept : (T : Table) (s : Scopes) (o : Outermost) (words : List Word) (v u : TypeId) → MakesArray T s o words None v u → KeepsArray T s o false words v
array_kept T s (Points n) words v u h = (h.0, refl, and_off (not (is_empty words)) false refl)
array_kept T s (Counts c) words v u h = (h.1.0, refl, ap (λ (w : List Word). not (is_empty w) && true) h.0)
array_kept T s Written words v u h = absurd h

sized_kept : (T : Table) (s : Scopes) (o : Outermost) (words : List Word) (c : ℕ) (v u : TypeId) → MakesArray T s o words (Some c) v u → KeepsArray T s o true words v
sized_kept T s (Points n) words c v u h = (h.0, refl, and_off (not (is_empty words)) false refl)
sized_kept T s (Counts d) words c v u h = (h.1.0, refl, ap (λ (w : List Word). not (is_empty w) && true) h.0)
sized_kept T s Written words c v u h = (h.1.0, refl, ap (λ (w : List Word). not (is_empty w) && true) h.0)

kept_allowed : (T : Table) (s : Scopes) (o other : Outermost) (sized : Bool) (words : List Word) (v : TypeId) → Allows other o → KeepsArray T s o sized words v → KeepsArray T s other sized words v
kept_allowed T s o other sized words v (inl q) h = subst (λ (z : Outermost). KeepsArray T s z sized words v) (sym q) h
kept_allowed T s o other sized words v (inr q) h =
    subst (λ (z : Outermost). KeepsArray T s z sized words v) (sym q.1) (h.0, refl, and_off (not (is_empty words)) false refl)

kept_passes : (T : Table) (s : Scopes) (o : Outermost) (sized : Bool) (bracket : Place) (words : List Word) (v : TypeId) (at : Place) → KeepsArray T s o sized words v
    → Passes (array_tests T s o sized bracket words v at)
kept_passes T s o sized bracket words v at h =
    passes_and rule.Incomplete bracket (lacks_size o sized)
    (broken_at rule.Incomplete at (not (is_complete_at T s v)) ∷ broken_at rule.Mismatch (first_word_place words bracket) (not (is_empty words) && not (is_pointed o)) ∷ []) h.1
    (passes_and rule.Incomplete at (not (is_complete_at T s v)) (broken_at rule.Mismatch (first_word_place words bracket) (not (is_empty words) && not (is_pointed o)) ∷ [])
    (off (is_complete_at T s v) h.0)
    (passes_one rule.Mismatch (first_word_place words bracket) (not (is_empty words) && not (is_pointed o)) h.2))

function_result : (T : Table) (o : Outermost) (parameters : TypedParameters) (v u : TypeId) → MakesFunction T o parameters v u → is_result_shape (shape_at T v) ≡ true
function_result T (Points n) parameters v u h = h.1.gives
function_result T Written parameters v u h = h.gives
function_result T (Counts c) parameters v u h = h.gives

nearest_allows : (all : TypedParts) (o other : Outermost) → Allows other o → Allows (nearest all other) (nearest all o)
nearest_allows typed.NoPart o other a = a
nearest_allows (typed.AndArray all at words) o other a = inl refl
nearest_allows (typed.AndSizedArray all at words e size) o other a = inl refl
nearest_allows (typed.AndFunction all at parameters) o other a = inl refl

pub same_or_last : (all : TypedParts) (o other : Outermost) → (nearest all other ≡ nearest all o) ⊎ (all ≡ typed.NoPart)
same_or_last typed.NoPart o other = inr refl
same_or_last (typed.AndArray all at words) o other = inl refl
same_or_last (typed.AndSizedArray all at words e size) o other = inl refl
same_or_last (typed.AndFunction all at parameters) o other = inl refl

outside_allows : (core : TypedCore) (o other : Outermost) → Allows other o → (b : Bool) → Allows (if b then Written else other) (if b then Written else o)
outside_allows core o other a true = inl refl
outside_allows core o other a false = a

-- what has neither stars nor parts fails nothing
mutual
  form_none : (T : Table) (s : Scopes) (form : TypedForm) (o : Outermost) (v : TypeId) (at : Place) (f : Fault) → is_derived form ≡ false → FormFails T s form o v at f → ⊥
  form_none T s (typed.Form (star ∷ stars) core parts) o v at f h k = no_true (sym h)
  form_none T s (typed.Form [] core (typed.AndArray all p words)) o v at f h k = no_true (sym h)
  form_none T s (typed.Form [] core (typed.AndSizedArray all p words e size)) o v at f h k = no_true (sym h)
  form_none T s (typed.Form [] core (typed.AndFunction all p parameters)) o v at f h k = no_true (sym h)
  form_none T s (typed.Form [] core typed.NoPart) o v at f h (u, m, inl k) = absurd k
  form_none T s (typed.Form [] core typed.NoPart) o v at f h (u, m, inr k) = core_none T s core o k.0 at f h k.2

  core_none : (T : Table) (s : Scopes) (core : TypedCore) (o : Outermost) (v : TypeId) (at : Place) (f : Fault) → is_derived_core core ≡ false → CoreFails T s core o v at f → ⊥
  core_none T s (typed.Names name home) o v at f h k = absurd k
  core_none T s typed.Unnamed o v at f h k = absurd k
  core_none T s (typed.Nested p form) o v at f h k = form_none T s form o v at f h k

module _ (T : Table) (D : IsDistinct T) (s : Scopes) where
  -- a later part, which fails of what the parts before it make
  later_array : (all : TypedParts) (o other : Outermost) (words : List Word) (count : Option ℕ) (v u : TypeId) (at : Place) (f : Fault) → MakesArray T s (nearest all o) words count v u
      → ((w : TypeId) × MakesArray T s (nearest all other) words count v w × PartsFail T s all other w at f) → (PartsFail T s all other u at f → ⊥) → ⊥
  later_array all o other words count v u at f h k next = by (same_or_last all o other)
    where
      by : (nearest all other ≡ nearest all o) ⊎ (all ≡ typed.NoPart) → ⊥
      by (inl q) =
          let same : u ≡ k.0 = makes-array T D s (nearest all o) words count v v u k.0 refl h (subst (λ (z : Outermost). MakesArray T s z words count v k.0) q k.1) in
          next (subst (λ (z : TypeId). PartsFail T s all other z at f) (sym same) k.2)
      by (inr q) = absurd (subst (λ (z : TypedParts). PartsFail T s z other k.0 at f) q k.2)

  later_function : (all : TypedParts) (o other : Outermost) (parameters : TypedParameters) (v u : TypeId) (at : Place) (f : Fault) → MakesFunction T (nearest all o) parameters v u
      → ((w : TypeId) × MakesFunction T (nearest all other) parameters v w × PartsFail T s all other w at f) → (PartsFail T s all other u at f → ⊥) → ⊥
  later_function all o other parameters v u at f h k next = by (same_or_last all o other)
    where
      by : (nearest all other ≡ nearest all o) ⊎ (all ≡ typed.NoPart) → ⊥
      by (inl q) =
          let same : u ≡ k.0 = makes-function T D (nearest all o) parameters v v u k.0 refl h (subst (λ (z : Outermost). MakesFunction T z parameters v k.0) q k.1) in
          next (subst (λ (z : TypeId). PartsFail T s all other z at f) (sym same) k.2)
      by (inr q) = absurd (subst (λ (z : TypedParts). PartsFail T s z other k.0 at f) q k.2)

  parts-hold : (parts : TypedParts) (o other : Outermost) (v t : TypeId) (at : Place) (f : Fault) → Allows other o → PartsMake T s parts o v t → PartsFail T s parts other v at f → ⊥
  parts-hold typed.NoPart o other v t at f a h k = absurd k
  parts-hold (typed.AndArray all bracket words) o other v t at f a h (inl k) =
      passes-fails (array_tests T s (nearest all other) false bracket words v at) f
      (kept_passes T s (nearest all other) false bracket words v at
      (kept_allowed T s (nearest all o) (nearest all other) false words v (nearest_allows all o other a) (array_kept T s (nearest all o) words v h.0 h.1))) k
  parts-hold (typed.AndArray all bracket words) o other v t at f a h (inr k) =
      later_array all o other words None v h.0 at f h.1 k (λ r. parts-hold all o other h.0 t at f a h.2 r)
  parts-hold (typed.AndSizedArray all bracket words e size) o other v t at f a h (inl k) =
      passes-fails (array_tests T s (nearest all other) true bracket words v at) f
      (kept_passes T s (nearest all other) true bracket words v at
      (kept_allowed T s (nearest all o) (nearest all other) true words v (nearest_allows all o other a) (sized_kept T s (nearest all o) words size v h.0 h.1))) k
  parts-hold (typed.AndSizedArray all bracket words e size) o other v t at f a h (inr k) =
      later_array all o other words (Some size) v h.0 at f h.1 k (λ r. parts-hold all o other h.0 t at f a h.2 r)
  parts-hold (typed.AndFunction all paren parameters) o other v t at f a h (inl k) =
      passes-fails (function_tests T v at) f
      (passes_one rule.Mismatch at (not (is_result_shape (shape_at T v))) (off (is_result_shape (shape_at T v)) (function_result T (nearest all o) parameters v h.0 h.1))) k
  parts-hold (typed.AndFunction all paren parameters) o other v t at f a h (inr k) =
      later_function all o other parameters v h.0 at f h.1 k (λ r. parts-hold all o other h.0 t at f a h.2 r)

  -- what stands in the parentheses fails of what the parts make, where it has parts or stars of its own
  inner_core : (core : TypedCore) (parts : TypedParts) (o other : Outermost) (u w : TypeId) (at : Place) (f : Fault) → (b : Bool) → is_derived_core core ≡ b
      → PartsMake T s parts (if b then Written else o) u w
      → ((z : TypeId) × PartsMake T s parts (if b then Written else other) u z × CoreFails T s core other z at f) → (CoreFails T s core other w at f → ⊥) → ⊥
  inner_core core parts o other u w at f false d h k next = core_none T s core other k.0 at f d k.2
  inner_core core parts o other u w at f true d h k next =
      let same = parts-make T D s parts Written u u w k.0 refl h k.1 in
      next (subst (λ (z : TypeId). CoreFails T s core other z at f) (sym same) k.2)

  form_by : (stars : List TypedStar) (core : TypedCore) (parts : TypedParts) (o other : Outermost) (v t : TypeId) (at : Place) (f : Fault) → Allows other o
      → (u w : TypeId) → StarsMake T stars v u → PartsMake T s parts (outside core o) u w
      → ((z : TypeId) × StarsMake T stars v z × (PartsFail T s parts (outside core other) z at f
      ⊎ ((y : TypeId) × PartsMake T s parts (outside core other) z y × CoreFails T s core other y at f))) → (CoreFails T s core other w at f → ⊥) → ⊥
  form_by stars core parts o other v t at f a u w h g k next =
      let same : k.0 ≡ u = sym (stars-make T D stars v v u k.0 refl h k.1) in
      by (subst (λ (z : TypeId). PartsFail T s parts (outside core other) z at f ⊎ ((y : TypeId) × PartsMake T s parts (outside core other) z y × CoreFails T s core other y at f)) same k.2)
    where
      by : PartsFail T s parts (outside core other) u at f ⊎ ((y : TypeId) × PartsMake T s parts (outside core other) u y × CoreFails T s core other y at f) → ⊥
      by (inl r) = parts-hold parts (outside core o) (outside core other) u w at f (outside_allows core o other a (is_derived_core core)) g r
      by (inr r) = inner_core core parts o other u w at f (is_derived_core core) refl g r next

  mutual
    -- a form that makes a type fails nothing
    pub form-hold : (form : TypedForm) (o other : Outermost) (v t : TypeId) (at : Place) (f : Fault) → Allows other o → FormMakes T s form o v t → FormFails T s form other v at f → ⊥
    form-hold (typed.Form stars core parts) o other v t at f a h k =
        form_by stars core parts o other v t at f a h.0 h.1 h.2 h.3 k (λ r. core-hold core o other h.1 t at f a h.4 r)

    core-hold : (core : TypedCore) (o other : Outermost) (v t : TypeId) (at : Place) (f : Fault) → Allows other o → CoreMakes T s core o v t → CoreFails T s core other v at f → ⊥
    core-hold (typed.Names name home) o other v t at f a h k = absurd k
    core-hold typed.Unnamed o other v t at f a h k = absurd k
    core-hold (typed.Nested p form) o other v t at f a h k = form-hold form o other v t at f a h k

  pub declared-hold : (d : TypedDeclared) (o other : Outermost) (v t : TypeId) (at : Place) (f : Fault) → Allows other o → DeclaredMakes T s d o v t → DeclaredFails T s d other v at f → ⊥
  declared-hold typed.NotDeclared o other v t at f a h k = absurd k
  declared-hold (typed.DeclaredBy form) o other v t at f a h k = form-hold form o other v t (name_place (name_of_form form) at) f a h k
