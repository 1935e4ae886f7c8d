-- A declarator makes its name a function as its tree says, where no parameter makes a pointer of it.
use Rattle.std.proofs.Common.{◌≡◌, ℕ, Bool, true, false, List, [], ◌∷◌, Option, Some, None, refl, ap, sym, ◌∙◌, if◌then◌else◌}
use Rattle.cc_base.specs.declared.number.TypeId.{TypeId}
use Rattle.c_types.specs.declared.shape.TypeShape.{TypeShape}
use Rattle.c_types.specs.Table.{Table, shape_at}
use Rattle.c_tree.specs.declared.leaf.Word.{Word}
use Rattle.c_tree.specs.declared.typed_word.TypedStar.{TypedStar}
use Rattle.c_tree.specs.Erasure.{erased_stars, erased_form, erased_core, erased_parts}
use Rattle.c_tree.specs.TypedTree as typed
use Rattle.c_tree.specs.TypedTree.{TypedForm, TypedCore, TypedParts, TypedParameters}
use Rattle.c_typing.specs.Adjusting.{Derived, ByArray, ByFunction, by_stars, by_parts, derived_by, derived_by_core}
use Rattle.c_typing.specs.Declarators.{Outermost, Written, Counts, Points, is_pointed, MakesArray, MakesFunction, nearest, PartsMake, StarsMake, is_derived_core, outside, FormMakes, CoreMakes}
use Rattle.c_typing.specs.Declaring.{is_function_by}
use Rattle.c_typing.specs.Scopes.{Scopes}
use Rattle.c_typing.specs.Shapes.{is_function_shape}
use Rattle.c_typing_laws.proofs.ExtensionLaws.{no_true}

module _ (T : Table) (c : Scopes) (x : TypeShape) where
  abbrev Tells : Derived → TypeId → Type 0
  Tells outer t = is_function_by outer x ≡ is_function_shape (shape_at T t)

  tells_same : (outer : Derived) (t u : TypeId) → t ≡ u → Tells outer u → Tells outer t
  tells_same outer t u e h = h ∙ ap (λ (v : TypeId). is_function_shape (shape_at T v)) (sym e)

  stars_end : (stars : List TypedStar) (base t : TypeId) → StarsMake T stars base t → is_function_shape (shape_at T base) ≡ false → is_function_shape (shape_at T t) ≡ false
  stars_end [] base t h o = ap (λ (v : TypeId). is_function_shape (shape_at T v)) h ∙ o
  stars_end (star ∷ stars) base t h o = stars_end stars h.0 t h.2 (ap is_function_shape h.1.1)

  stars_tell : (stars : List TypedStar) (base t : TypeId) (outer : Derived) → StarsMake T stars base t → Tells outer base → Tells (by_stars (erased_stars stars) outer) t
  stars_tell [] base t outer h p = tells_same outer t base h p
  stars_tell (star ∷ stars) base t outer h p = sym (stars_end stars h.0 t h.2 (ap is_function_shape h.1.1))

  array_tells : (o : Outermost) (words : List Word) (count : Option ℕ) (element t : TypeId) → is_pointed o ≡ false → MakesArray T c o words count element t
      → is_function_shape (shape_at T t) ≡ false
  array_tells (Points n) words count element t u h = no_true (sym u)
  array_tells Written words (Some count) element t u h = ap is_function_shape h.1.1.1
  array_tells (Counts k) words (Some count) element t u h = ap is_function_shape h.1.1.1
  array_tells (Counts k) words None element t u h = ap is_function_shape h.1.1.1
  array_tells Written words None element t u h = absurd h

  function_tells : (o : Outermost) (parameters : TypedParameters) (result t : TypeId) → is_pointed o ≡ false → MakesFunction T o parameters result t
      → is_function_shape (shape_at T t) ≡ true
  function_tells (Points n) parameters result t u h = no_true (sym u)
  function_tells Written parameters result t u h = ap is_function_shape h.shape.1
  function_tells (Counts k) parameters result t u h = ap is_function_shape h.shape.1

  near : (all : TypedParts) (o : Outermost) → is_pointed o ≡ false → is_pointed (nearest all o) ≡ false
  near typed.NoPart o u = u
  near (typed.AndArray all at words) o u = refl
  near (typed.AndSizedArray all at words e size) o u = refl
  near (typed.AndFunction all at parameters) o u = refl

  out : (core : TypedCore) (o : Outermost) → is_pointed o ≡ false → is_pointed (outside core o) ≡ false
  out core o u = by (is_derived_core core)
    where
      by : (b : Bool) → is_pointed (if b then Written else o) ≡ false
      by true = refl
      by false = u

  parts_tell : (parts : TypedParts) (o : Outermost) (base t : TypeId) (outer : Derived) → is_pointed o ≡ false → PartsMake T c parts o base t → Tells outer base
      → Tells (by_parts (erased_parts parts) outer) t
  parts_tell typed.NoPart o base t outer u h p = tells_same outer t base h p
  parts_tell (typed.AndArray all at words) o base t outer u h p =
      parts_tell all o h.0 t (ByArray at) u h.2 (sym (array_tells (nearest all o) words None base h.0 (near all o u) h.1))
  parts_tell (typed.AndSizedArray all at words e size) o base t outer u h p =
      parts_tell all o h.0 t (ByArray at) u h.2 (sym (array_tells (nearest all o) words (Some size) base h.0 (near all o u) h.1))
  parts_tell (typed.AndFunction all at parameters) o base t outer u h p =
      parts_tell all o h.0 t (ByFunction at) u h.2 (sym (function_tells (nearest all o) parameters base h.0 (near all o u) h.1))

  mutual
    pub form_tells : (form : TypedForm) (o : Outermost) (base t : TypeId) (outer : Derived) → is_pointed o ≡ false → FormMakes T c form o base t → Tells outer base
        → Tells (derived_by (erased_form form) outer) t
    form_tells (typed.Form stars core parts) o base t outer u h p =
        core_tells core o h.1 t (by_parts (erased_parts parts) (by_stars (erased_stars stars) outer)) u h.4
        (parts_tell parts (outside core o) h.0 h.1 (by_stars (erased_stars stars) outer) (out core o u) h.3 (stars_tell stars base h.0 outer h.2 p))

    core_tells : (core : TypedCore) (o : Outermost) (base t : TypeId) (outer : Derived) → is_pointed o ≡ false → CoreMakes T c core o base t → Tells outer base
        → Tells (derived_by_core (erased_core core) outer) t
    core_tells (typed.Names name home) o base t outer u h p = tells_same outer t base h p
    core_tells typed.Unnamed o base t outer u h p = tells_same outer t base h p
    core_tells (typed.Nested at form) o base t outer u h p = form_tells form o base t outer u h p
