-- What the recursion says of whole trees, from scopes and a next node on.
use Rattle.std.proofs.Common.{◌≡◌, ℕ, ◌+◌, Bool, List, length, refl, ap, sym, subst, ◌∙◌}
use Rattle.cc_base.specs.declared.place.Place.{Place}
use Rattle.cc_base.specs.declared.number.TypeId.{TypeId}
use Rattle.c_types.specs.Sound.{IsWellFormed}
use Rattle.c_types.specs.Table.{Table, IsAggregate}
use Rattle.c_tree.specs.Erasure.{erased, erased_place, erased_type_name, erased_specifiers, erased_form, erased_parameters}
use Rattle.c_tree.specs.Tree as tree
use Rattle.c_tree.specs.TypedTree as typed
use Rattle.c_tree.specs.TypedTree.{TypedExpr, TypedPlace, TypedTypeName, TypedSpecifiers, TypedForm, TypedParameters}
use Rattle.c_tree.specs.TypedParts.{Made, nodes_made, made_by, made_by_place, made_by_type_name, made_by_specifiers, made_by_form, made_by_parameters, place_type, home_of_form}
use Rattle.c_typing.specs.Conversions.{bare, is_plain, IsPlain, IsConverted, IsAssigned}
use Rattle.c_typing.specs.Declarators.{Outermost, FormMakes}
use Rattle.c_typing.specs.Rules.{IsDroppable}
use Rattle.c_typing.specs.Scopes.{Scopes, tag_here}
use Rattle.c_typing.specs.Typing.{IsTyped, IsPlace, IsTypeName, AreSpecifiers, AreAlone, IsForm, AreParameters, IsTagged}
use Rattle.c_typing_unique.specs.Sameness.{HasOwnFunctions, AreNumberedFrom, AreHomesAlike}
use Rattle.c_typing_unique.proofs.DeclaratorSteps.{form-numbers}
use Rattle.c_typing_unique.proofs.FormLaws.{form-makes-one}
use Rattle.c_typing_unique.proofs.Numbering.{Numbers, Point, HasOwn, numbers-from, scopes-of, node-of}
use Rattle.c_typing_unique.proofs.Reading.{AreAlike, IsReadAs, place-one, plain-over, point-same, value-one, IsUniqueAs}
use Rattle.c_typing_unique.proofs.Shapes.{IsDistinct, no_true}
use Rattle.c_typing_unique.proofs.SpecifierSteps.{specifiers-unique, tagged-one}
use Rattle.c_typing_unique.proofs.UniqueTrees.{expr-one, type-name-one, list-one, form-one, parameters-one}
use Rattle.c_typing_unique.proofs.ValueLaws.{alike-plain, assigned-one, converted-one, droppable-same, plain-alike}

abbrev begin_at : Scopes → ℕ → Point
begin_at s n = record { scopes = s; node = n }

abbrev end_at : Scopes → ℕ → List Made → Point
end_at r n made = record { scopes = r; node = n + length (nodes_made made) }

-- Values and places

module _ (T : Table) (s r q : Scopes) (n : ℕ) (formed : IsWellFormed T) (own : HasOwnFunctions s) where
  distinct : IsDistinct T
  distinct t u h k = formed.distinct t u h k

  values_alike : (e f : TypedExpr) → erased e ≡ erased f → IsTyped T e s r → IsTyped T f s q → AreNumberedFrom n (made_by e) → AreNumberedFrom n (made_by f)
      → AreAlike (bare e) (bare f) × (r ≡ q)
  values_alike e f h p g j k =
      let one = value-one T distinct (erased f) (expr-one T distinct (erased f)) e f (begin_at s n) (end_at r n (made_by e)) (begin_at s n) (end_at q n (made_by f))
      (h, p, numbers-from (made_by e) n j) (refl, g, numbers-from (made_by f) n k) refl own in
      (one.0, one.1)

  pub bare-whole : (e f : TypedExpr) → erased e ≡ erased f → IsTyped T e s r → IsTyped T f s q → AreNumberedFrom n (made_by e) → AreNumberedFrom n (made_by f)
      → IsPlain (bare e) → IsPlain (bare f) → (bare e ≡ bare f) × (r ≡ q)
  bare-whole e f h p g j k v w =
      let one = values_alike e f h p g j k in
      (alike-plain (bare e) (bare f) one.0 (plain-over (bare e) v) (plain-over (bare f) w), one.1)

  pub plain-whole : (e f : TypedExpr) → erased e ≡ erased f → IsTyped T e s r → IsTyped T f s q → AreNumberedFrom n (made_by e) → AreNumberedFrom n (made_by f)
      → IsPlain e → IsPlain f → (e ≡ f) × (r ≡ q)
  plain-whole e f h p g j k v w = let one = values_alike e f h p g j k in (plain-alike e f one.0 v w, one.1)

  pub dropped-whole : (e f : TypedExpr) → erased e ≡ erased f → IsTyped T e s r → IsTyped T f s q → AreNumberedFrom n (made_by e) → AreNumberedFrom n (made_by f)
      → IsDroppable e → IsDroppable f → (e ≡ f) × (r ≡ q)
  dropped-whole e f h p g j k v w = let one = values_alike e f h p g j k in (droppable-same e f one.0 v w, one.1)

  pub converted-whole : (at : Place) (t : TypeId) (e f : TypedExpr) → erased e ≡ erased f → IsTyped T e s r → IsTyped T f s q → AreNumberedFrom n (made_by e)
      → AreNumberedFrom n (made_by f) → IsConverted T at t e → IsConverted T at t f → (e ≡ f) × (r ≡ q)
  converted-whole at t e f h p g j k v w =
      let one = bare-whole e f h p g j k v.plain w.plain in
      (converted-one T at at t t e f refl refl one.0 v w, one.1)

  pub assigned-whole : (at : Place) (t : TypeId) (e f : TypedExpr) → erased e ≡ erased f → IsTyped T e s r → IsTyped T f s q → AreNumberedFrom n (made_by e)
      → AreNumberedFrom n (made_by f) → IsAssigned T r at t e → IsAssigned T q at t f → (e ≡ f) × (r ≡ q)
  assigned-whole at t e f h p g j k v w =
      let one = values_alike e f h p g j k in
      (assigned-one T r q at t t e f one.1 refl one.0 v w, one.1)

  pub place-whole : (x y : TypedPlace) → erased_place x ≡ erased_place y → IsPlace T x s r → IsPlace T y s q → AreNumberedFrom n (made_by_place x) → AreNumberedFrom n (made_by_place y)
      → (x ≡ y) × (r ≡ q)
  place-whole x y h p g j k =
      let one = place-one T (erased_place y) (expr-one T distinct (erased_place y)) x y (begin_at s n) (end_at r n (made_by_place x)) (begin_at s n) (end_at q n (made_by_place y))
      (h, p, numbers-from (made_by_place x) n j) (refl, g, numbers-from (made_by_place y) n k) refl own in
      (one.0, scopes-of (end_at r n (made_by_place x)) (end_at q n (made_by_place y)) one.1)

  -- a struct or union is no plain value
  pub struct-whole : (e : TypedExpr) (x : TypedPlace) → erased e ≡ erased_place x → IsTyped T e s r → IsPlace T x s q → AreNumberedFrom n (made_by e) → AreNumberedFrom n (made_by_place x)
      → IsAggregate T (place_type x) → IsPlain (bare e) → ⊥
  struct-whole e x h p g j k aggregate plain =
      let one = bare_unread in
      no_true (sym (ap is_plain one) ∙ plain)
    where
      bare_unread : bare e ≡ typed.Unread x
      bare_unread = let one = values_alike e (typed.Unread x) h p (g, aggregate) j k in alike-plain (bare e) (typed.Unread x) one.0 (plain-over (bare e) plain) refl

  -- Type names, specifiers, declarators and parameters

  pub type-name-whole : (x y : TypedTypeName) → erased_type_name x ≡ erased_type_name y → IsTypeName T x s r → IsTypeName T y s q
      → AreNumberedFrom n (made_by_type_name x) → AreNumberedFrom n (made_by_type_name y) → (x ≡ y) × (r ≡ q)
  type-name-whole x y h p g j k =
      let one = type-name-one T distinct (erased_type_name y) x y (begin_at s n) (end_at r n (made_by_type_name x)) (begin_at s n) (end_at q n (made_by_type_name y))
      (h, p, numbers-from (made_by_type_name x) n j) (refl, g, numbers-from (made_by_type_name y) n k) refl own in
      (one.0, scopes-of (end_at r n (made_by_type_name x)) (end_at q n (made_by_type_name y)) one.1)

  pub specifiers-whole : (x y : TypedSpecifiers) → erased_specifiers x ≡ erased_specifiers y → AreSpecifiers T x s r → AreSpecifiers T y s q
      → AreNumberedFrom n (made_by_specifiers x) → AreNumberedFrom n (made_by_specifiers y) → (x ≡ y) × (r ≡ q)
  specifiers-whole x y h p g j k =
      let one = specifiers-unique T distinct (erased_specifiers y) (list-one T distinct (erased_specifiers y)) x y
      (begin_at s n) (end_at r n (made_by_specifiers x)) (begin_at s n) (end_at q n (made_by_specifiers y))
      (h, p, numbers-from (made_by_specifiers x) n j) (refl, g, numbers-from (made_by_specifiers y) n k) refl own in
      (one.0, scopes-of (end_at r n (made_by_specifiers x)) (end_at q n (made_by_specifiers y)) one.1)

  pub form-whole : (o : Outermost) (base : TypeId) (x y : TypedForm) (t u : TypeId) → erased_form x ≡ erased_form y → IsForm T x s r → IsForm T y s q
      → AreNumberedFrom n (made_by_form x t) → AreNumberedFrom n (made_by_form y u) → AreHomesAlike (home_of_form x) (home_of_form y)
      → FormMakes T r x o base t → FormMakes T q y o base u → (x ≡ y) × (t ≡ u) × (r ≡ q)
  form-whole o base x y t u h p g j k alike v w =
      let one = form-one T distinct (erased_form y) x y (begin_at s n) (end_at r n (made_by_form x t)) (begin_at s n) (end_at q n (made_by_form y u))
      (h, p, form-numbers x t n (n + length (nodes_made (made_by_form x t))) (numbers-from (made_by_form x t) n j))
      (refl, g, form-numbers y u n (n + length (nodes_made (made_by_form y u))) (numbers-from (made_by_form y u) n k)) refl own alike in
      let scopes = scopes-of (end_at r n (made_by_form x t)) (end_at q n (made_by_form y u)) one.1 in
      (one.0, form-makes-one T distinct r q x y o base base t u scopes one.0 refl v w, scopes)

  pub parameters-whole : (void other : Bool) (x y : TypedParameters) → erased_parameters x ≡ erased_parameters y → AreParameters T void x s r → AreParameters T other y s q
      → AreNumberedFrom n (made_by_parameters x) → AreNumberedFrom n (made_by_parameters y) → (x ≡ y) × (r ≡ q)
  parameters-whole void other x y h p g j k =
      let one = parameters-one T distinct (erased_parameters y) void other x y (begin_at s n) (end_at r n (made_by_parameters x)) (begin_at s n) (end_at q n (made_by_parameters y))
      (h, p, numbers-from (made_by_parameters x) n j) (refl, g, numbers-from (made_by_parameters y) n k) refl own in
      (one.0, scopes-of (end_at r n (made_by_parameters x)) (end_at q n (made_by_parameters y)) one.1)

-- Specifiers alone

module _ (T : Table) (D : IsDistinct T) where
  abbrev IsAloneOf : tree.Specifiers → TypedSpecifiers → Point → Point → Type 0
  IsAloneOf (tree.AndSpecifier tree.NoSpecifier (tree.Tagged which at name)) y a b =
      (t : TypeId) × IsTagged T (tag_here a.scopes.levels name.bytes) which name t a.scopes b.scopes × (b.node ≡ a.node)
      × (y ≡ typed.Specified (typed.AndSpecifier typed.NoSpecifier (typed.Tagged which at name t)) t)
  IsAloneOf x y a b = IsReadAs erased_specifiers made_by_specifiers (AreSpecifiers T) x y a b

  alone_of : (y : TypedSpecifiers) (a b : Point) → AreAlone T y a.scopes b.scopes → Numbers (made_by_specifiers y) a.node b.node → IsAloneOf (erased_specifiers y) y a b
  alone_of (typed.Specified (typed.AndSpecifier typed.NoSpecifier (typed.Tagged which at name t)) u) a b h k =
      (t, h.0, k, ap (typed.Specified (typed.AndSpecifier typed.NoSpecifier (typed.Tagged which at name t))) h.1)
  alone_of y a b h k = (refl, h, k)

  pub alone-unique : (x : tree.Specifiers) (y z : TypedSpecifiers) (a b c e : Point) → IsAloneOf x y a b → IsAloneOf x z c e → a ≡ c → HasOwn a → (y ≡ z) × (b ≡ e) × HasOwn b
  alone-unique (tree.AndSpecifier tree.NoSpecifier (tree.Tagged which at name)) y z a b c e h k o own =
      let one = tagged-one T D (tag_here a.scopes.levels name.bytes) (tag_here c.scopes.levels name.bytes) which name h.0 k.0 a.scopes c.scopes b.scopes e.scopes
      (ap (λ (p : Point). tag_here p.scopes.levels name.bytes) o) (scopes-of a c o) own h.1 k.1 in
      let type = one.0 in
      let whole : typed.Specified (typed.AndSpecifier typed.NoSpecifier (typed.Tagged which at name h.0)) h.0
      ≡ typed.Specified (typed.AndSpecifier typed.NoSpecifier (typed.Tagged which at name k.0)) k.0 =
      (λ i. typed.Specified (typed.AndSpecifier typed.NoSpecifier (typed.Tagged which at name (type i))) (type i)) in
      (h.3 ∙ whole ∙ sym k.3, point-same b e one.1 (h.2 ∙ node-of a c o ∙ sym k.2), one.2)
  alone-unique x y z a b c e h k o own = specifiers-unique T D x (list-one T D x) y z a b c e h k o own

  pub alone-read : (x : tree.Specifiers) (y : TypedSpecifiers) (a b : Point) → IsReadAs erased_specifiers made_by_specifiers (AreAlone T) x y a b → IsAloneOf x y a b
  alone-read x y a b h = subst (λ (w : tree.Specifiers). IsAloneOf w y a b) h.0 (alone_of y a b h.1 h.2)

  -- a list of specifiers alone has one tree
  pub alone-one : (x : tree.Specifiers) → IsUniqueAs erased_specifiers made_by_specifiers (AreAlone T) x
  alone-one x y z a b c e h k o own = alone-unique x y z a b c e (alone-read x y a b h) (alone-read x z c e k) o own

pub alone-whole : (T : Table) (s r q : Scopes) (n : ℕ) (formed : IsWellFormed T) (own : HasOwnFunctions s) (x y : TypedSpecifiers) → erased_specifiers x ≡ erased_specifiers y
    → AreAlone T x s r → AreAlone T y s q → AreNumberedFrom n (made_by_specifiers x) → AreNumberedFrom n (made_by_specifiers y) → (x ≡ y) × (r ≡ q)
alone-whole T s r q n formed own x y h p g j k =
    let D : IsDistinct T = (λ t u a b. formed.distinct t u a b) in
    let left = alone-read T D (erased_specifiers y) x (begin_at s n) (end_at r n (made_by_specifiers x)) (h, p, numbers-from (made_by_specifiers x) n j) in
    let right = alone-read T D (erased_specifiers y) y (begin_at s n) (end_at q n (made_by_specifiers y)) (refl, g, numbers-from (made_by_specifiers y) n k) in
    let one = alone-unique T D (erased_specifiers y) x y (begin_at s n) (end_at r n (made_by_specifiers x)) (begin_at s n) (end_at q n (made_by_specifiers y)) left right refl own in
    (one.0, scopes-of (end_at r n (made_by_specifiers x)) (end_at q n (made_by_specifiers y)) one.1)
