-- The types behind a type that a declarator makes, and the rules of arrays and functions.
use Rattle.std.proofs.Common.{◌≡◌, ◌+◌, ℕ, zero, suc, Bool, true, false, not, ◌&&◌, List, [], ◌∷◌, ◌++◌, length, Option, Some, None, refl, ap, sym, ◌∙◌, append_assoc, arith}
use Rattle.std.proofs.lemmas.List.{append-nil}
use Rattle.cc_base.specs.declared.place.Place.{Place}
use Rattle.cc_base.specs.declared.fault.Rule.TheVariants as rule
use Rattle.cc_base.specs.declared.number.NodeId.{NodeId}
use Rattle.cc_base.specs.declared.number.TypeId.{TypeId}
use Rattle.c_types.specs.declared.shape.TypeShape.{TypeShape}
use Rattle.c_types.specs.declared.shape.TypeShape.TheVariants.{Pointer, Array, Function}
use Rattle.c_types.specs.Table.{Table, HasShape, shape_at, is_empty}
use Rattle.c_tree.specs.declared.leaf.Word.{Word}
use Rattle.c_tree.specs.declared.typed_word.TypedStar.{TypedStar}
use Rattle.c_tree.specs.TypedTree as typed
use Rattle.c_tree.specs.TypedTree.{TypedForm, TypedCore, TypedParts, TypedParameters}
use Rattle.c_typing.specs.Declarators.{Outermost, Written, Counts, Points, StarsMake, PartsMake, MakesArray, MakesFunction, FormMakes, CoreMakes, nearest, outside, taken_types, is_pointed, is_result_shape, first_word_place}
use Rattle.c_typing.specs.Declaring.{array_makes, array_of, function_makes, function_type, function_as}
use Rattle.c_typing.specs.Judging.{State, Outcome, Gives, next, pointer_type}
use Rattle.c_typing.specs.Scopes.{Scopes, is_complete_at}
use Rattle.c_typing.specs.Tests.{first_broken, array_tests, function_tests, lacks_size, broken_at, has_some}
use Rattle.c_typing_exact.specs.Passing.{Passes}
use Rattle.c_typing_exact.proofs.Unbroken.{passes_one, passes_and, off, and_off}
use Rattle.c_type_order.specs.TypesUsed.{made_in, derived_from, function_steps, parts_steps, form_steps, core_steps}
use Rattle.c_typing_given.proofs.Steps.{then-is, obeying-is}

-- The types behind a type

-- what a type was derived from, so many steps before
abbrev pub back : Table → ℕ → TypeId → TypeId
back T zero t = t
back T (suc n) t = back T n (derived_from (shape_at T t) t)

back_last : (T : Table) (n : ℕ) (t : TypeId) → back T (suc n) t ≡ derived_from (shape_at T (back T n t)) (back T n t)
back_last T zero t = refl
back_last T (suc n) t = back_last T n (derived_from (shape_at T t) t)

pub first-made : (T : Table) (n : ℕ) (t : TypeId) → made_in T (suc n) t ≡ back T n t ∷ made_in T n t
first-made T zero t = refl
first-made T (suc n) t = ap (λ (all : List TypeId). all ++ t ∷ []) (first-made T n (derived_from (shape_at T t) t))

pub made-more : (T : Table) (a b : ℕ) (t : TypeId) → made_in T (a + b) t ≡ made_in T b (back T a t) ++ made_in T a t
made-more T zero b t =
    let e : zero + b ≡ b = omega arith in
    ap (λ (n : ℕ). made_in T n t) e ∙ sym (append-nil (made_in T b t))
made-more T (suc a) b t =
    let e : suc a + b ≡ suc (a + b) = omega arith in
    ap (λ (n : ℕ). made_in T n t) e ∙ ap (λ (all : List TypeId). all ++ t ∷ []) (made-more T a b (derived_from (shape_at T t) t))
    ∙ append_assoc (made_in T b (back T a (derived_from (shape_at T t) t))) (made_in T a (derived_from (shape_at T t) t)) (t ∷ [])

back_more : (T : Table) (a b : ℕ) (t : TypeId) → back T (a + b) t ≡ back T b (back T a t)
back_more T zero b t = let e : zero + b ≡ b = omega arith in ap (λ (n : ℕ). back T n t) e
back_more T (suc a) b t =
    let e : suc a + b ≡ suc (a + b) = omega arith in
    ap (λ (n : ℕ). back T n t) e ∙ back_more T a b (derived_from (shape_at T t) t)

pub derived-is : (T : Table) (t : TypeId) (x : TypeShape) → HasShape T t x → derived_from (shape_at T t) t ≡ derived_from x t
derived-is T t x h = ap (λ (y : TypeShape). derived_from y t) h.1

array_back : (T : Table) (s : Scopes) (o : Outermost) (words : List Word) (count : Option ℕ) (base u : TypeId) → MakesArray T s o words count base u → derived_from (shape_at T u) u ≡ base
array_back T s (Points n) words count base u h = derived-is T u (Pointer n base) h.1
array_back T s (Counts c) words (Some count) base u h = derived-is T u (Array base count) h.1.1
array_back T s Written words (Some count) base u h = derived-is T u (Array base count) h.1.1
array_back T s (Counts c) words None base u h = derived-is T u (Array base c) h.1.1
array_back T s Written words None base u h = absurd h

-- made in one step more, before the others
pub one-more : (T : Table) (n : ℕ) (t u : TypeId) → back T n t ≡ u → made_in T (n + 1) t ≡ u ∷ made_in T n t
one-more T n t u h =
    let e : n + 1 ≡ suc n = omega arith in
    ap (λ (m : ℕ). made_in T m t) e ∙ first-made T n t ∙ ap (λ (v : TypeId). v ∷ made_in T n t) h

pub one-back : (T : Table) (n : ℕ) (t u base : TypeId) → back T n t ≡ u → derived_from (shape_at T u) u ≡ base → back T (n + 1) t ≡ base
one-back T n t u base h k =
    let e : n + 1 ≡ suc n = omega arith in
    ap (λ (m : ℕ). back T m t) e ∙ back_last T n t ∙ ap (λ (v : TypeId). derived_from (shape_at T v) v) h ∙ k

pub stars-back : (T : Table) (stars : List TypedStar) (base t : TypeId) → StarsMake T stars base t → back T (length stars) t ≡ base
stars-back T [] base t h = h
stars-back T (star ∷ stars) base t h =
    back_last T (length stars) t ∙ ap (λ (v : TypeId). derived_from (shape_at T v) v) (stars-back T stars h.0 t h.2) ∙ derived-is T h.0 (Pointer star.node base) h.1

function_steps_back : (T : Table) (o : Outermost) (parameters : TypedParameters) (base u : TypeId) (n : ℕ) (t : TypeId) → MakesFunction T o parameters base u → back T n t ≡ u
    → back T (n + function_steps o) t ≡ base
function_steps_back T (Points m) parameters base u n t h k =
    let e : n + 2 ≡ (n + 1) + 1 = omega arith in
    ap (λ (i : ℕ). back T i t) e
    ∙ one-back T (n + 1) t h.0 base (one-back T n t u h.0 k (derived-is T u (Pointer m h.0) h.2)) (derived-is T h.0 (Function (taken_types parameters) base) h.1.shape)
function_steps_back T Written parameters base u n t h k = one-back T n t u base k (derived-is T u (Function (taken_types parameters) base) h.shape)
function_steps_back T (Counts c) parameters base u n t h k = one-back T n t u base k (derived-is T u (Function (taken_types parameters) base) h.shape)

pub parts-back : (T : Table) (s : Scopes) (parts : TypedParts) (o : Outermost) (base t : TypeId) → PartsMake T s parts o base t → back T (parts_steps o parts) t ≡ base
parts-back T s typed.NoPart o base t h = h
parts-back T s (typed.AndArray all at words) o base t h =
    one-back T (parts_steps o all) t h.0 base (parts-back T s all o h.0 t h.2) (array_back T s (nearest all o) words None base h.0 h.1)
parts-back T s (typed.AndSizedArray all at words e size) o base t h =
    one-back T (parts_steps o all) t h.0 base (parts-back T s all o h.0 t h.2) (array_back T s (nearest all o) words (Some size) base h.0 h.1)
parts-back T s (typed.AndFunction all at parameters) o base t h =
    function_steps_back T (nearest all o) parameters base h.0 (parts_steps o all) t h.1 (parts-back T s all o h.0 t h.2)

mutual
  pub form-back : (T : Table) (s : Scopes) (form : TypedForm) (o : Outermost) (base t : TypeId) → FormMakes T s form o base t → back T (form_steps o form) t ≡ base
  form-back T s (typed.Form stars core parts) o base t h =
      back_more T (core_steps o core) (parts_steps (outside core o) parts + length stars) t
      ∙ ap (back T (parts_steps (outside core o) parts + length stars)) (core-back T s core o h.1 t h.4)
      ∙ back_more T (parts_steps (outside core o) parts) (length stars) h.1
      ∙ ap (back T (length stars)) (parts-back T s parts (outside core o) h.0 h.1 h.3)
      ∙ stars-back T stars base h.0 h.2

  pub core-back : (T : Table) (s : Scopes) (core : TypedCore) (o : Outermost) (base t : TypeId) → CoreMakes T s core o base t → back T (core_steps o core) t ≡ base
  core-back T s (typed.Names name home) o base t h = h
  core-back T s typed.Unnamed o base t h = h
  core-back T s (typed.Nested at form) o base t h = form-back T s form o base t h

-- Rules

pub KeepsArray : Table → Scopes → Outermost → Bool → List Word → TypeId → Type 0
KeepsArray T s o sized words v = (is_complete_at T s v ≡ true) × (lacks_size o sized ≡ false) × ((not (is_empty words) && not (is_pointed o)) ≡ false)

pub array-keeps : (T : Table) (s : Scopes) (o : Outermost) (words : List Word) (count : Option ℕ) (v u : TypeId) → MakesArray T s o words count v u → KeepsArray T s o (has_some count) words v
unfolding KeepsArray
array-keeps T s (Points n) words None v u h = (h.0, refl, and_off (not (is_empty words)) false refl)
array-keeps T s (Points n) words (Some c) v u h = (h.0, refl, and_off (not (is_empty words)) false refl)
array-keeps T s (Counts d) words (Some c) v u h = (h.1.0, refl, ap (λ (w : List Word). not (is_empty w) && true) h.0)
array-keeps T s Written words (Some c) v u h = (h.1.0, refl, ap (λ (w : List Word). not (is_empty w) && true) h.0)
array-keeps T s (Counts d) words None v u h = (h.1.0, refl, ap (λ (w : List Word). not (is_empty w) && true) h.0)
array-keeps T s Written words None v u h = absurd h

pub array-passes : (T : Table) (s : Scopes) (o : Outermost) (sized : Bool) (bracket : Place) (words : List Word) (v : TypeId) (at : Place) → KeepsArray T s o sized words v
    → Passes (array_tests T s o sized bracket words v at)
unfolding KeepsArray
array-passes T s o sized bracket words v at h =
    passes_and rule.Incomplete bracket (lacks_size o sized)
    (broken_at rule.Incomplete at (not (is_complete_at T s v)) ∷ broken_at rule.Mismatch (first_word_place words bracket) (not (is_empty words) && not (is_pointed o)) ∷ []) h.1
    (passes_and rule.Incomplete at (not (is_complete_at T s v)) (broken_at rule.Mismatch (first_word_place words bracket) (not (is_empty words) && not (is_pointed o)) ∷ [])
    (off (is_complete_at T s v) h.0)
    (passes_one rule.Mismatch (first_word_place words bracket) (not (is_empty words) && not (is_pointed o)) h.2))

pub complete-element : (T : Table) (s : Scopes) (o : Outermost) (words : List Word) (count : Option ℕ) (v u : TypeId) → MakesArray T s o words count v u → is_complete_at T s v ≡ true
unfolding KeepsArray
complete-element T s o words count v u h = (array-keeps T s o words count v u h).0

pub function-gives : (T : Table) (o : Outermost) (parameters : TypedParameters) (v u : TypeId) → MakesFunction T o parameters v u → is_result_shape (shape_at T v) ≡ true
function-gives T (Points n) parameters v u h = h.1.gives
function-gives T Written parameters v u h = h.gives
function-gives T (Counts c) parameters v u h = h.gives

pub array-makes-is : (at : Place) (o : Outermost) (bracket : Place) (words : List Word) (count : Option ℕ) (base : TypeId) (s : State) (r : Outcome TypeId)
    → first_broken (array_tests s.table s.seen.scopes o (has_some count) bracket words base at) ≡ None → array_of at o count base s ≡ r → array_makes at o bracket words count base s ≡ r
unfolding array_makes
array-makes-is at o bracket words count base s r pass h =
    obeying-is (λ (q : State). array_tests q.table q.seen.scopes o (has_some count) bracket words base at) (array_of at o count base) s r pass h

pub function-makes-is : (at : Place) (o : Outermost) (parameters : TypedParameters) (result f : TypeId) (s k : State) (r : Outcome TypeId) → first_broken (function_tests s.table result at) ≡ None
    → function_type at (taken_types parameters) result s ≡ Gives f k → function_as at o f k ≡ r → function_makes at o parameters result s ≡ r
unfolding function_makes
function-makes-is at o parameters result f s k r pass h j =
    obeying-is (λ (q : State). function_tests q.table result at) (λ q. next (function_type at (taken_types parameters) result q) (λ g. function_as at o g)) s r pass
    (then-is (function_type at (taken_types parameters) result) (λ g. function_as at o g) f s k r h j)

pub function-alone : (at : Place) (f : TypeId) (c : ℕ) (s : State) → (function_as at Written f s ≡ Gives f s) × (function_as at (Counts c) f s ≡ Gives f s)
unfolding function_as
function-alone at f c s = (refl, refl)

pub function-pointed : (at : Place) (n : NodeId) (f : TypeId) (s : State) → function_as at (Points n) f s ≡ pointer_type at n f s
unfolding function_as
function-pointed at n f s = refl
