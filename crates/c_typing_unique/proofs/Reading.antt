-- What it is for a part to have one typed tree: two that erase to it, and begin at one point of the text, are one and end at one point.
-- A value is read without the conversion that is made of it, and an allocation without what takes it over.
use Rattle.std.proofs.Common.{◌≡◌, ℕ, Bool, true, false, List, [], ◌∷◌, refl, ap, sym, subst, ◌∙◌, inl, inr, ◌⊎◌}
use Rattle.cc_base.specs.declared.number.NodeId.{NodeId}
use Rattle.cc_base.specs.declared.number.TypeId.{TypeId}
use Rattle.c_types.specs.declared.shape.TypeShape.TheVariants.{Array, Pointer}
use Rattle.c_types.specs.Table.{Table, IsAggregate, is_aggregate_shape, shape_at}
use Rattle.c_tree.specs.Erasure.{erased}
use Rattle.c_tree.specs.Tree as tree
use Rattle.c_tree.specs.TypedTree as typed
use Rattle.c_tree.specs.TypedTree.{TypedExpr, TypedPlace}
use Rattle.c_tree.specs.TypedParts.{Made, Address, type_of, place_type, made_by, made_by_place}
use Rattle.c_typing.specs.Conversions.{bare, IsPlain, is_allocation, is_taken_over}
use Rattle.c_typing.specs.Rules.{is_made_of_place, IsDecay}
use Rattle.c_typing.specs.Scopes.{Scopes}
use Rattle.c_typing.specs.Shapes.{IsScalar, is_scalar_shape, is_array_shape}
use Rattle.c_typing.specs.Typing.{IsTyped}
use Rattle.c_typing_unique.specs.Sameness.{HasOwnFunctions}
pub use Rattle.c_typing_unique.specs.Points.{IsReadAs, IsRead, IsReadPlace}
use Rattle.c_typing_unique.proofs.Numbering.{Point, HasOwn, ends, two-parts, node-same}
use Rattle.c_typing_unique.proofs.Shapes.{IsDistinct, shape-one, no_true, two-sorts, scalar-no-aggregate, scalar-no-array, aggregate-no-array}

-- x has one typed tree
abbrev pub IsUniqueAs : {A X : Type 0} → (A → X) → (A → List Made) → (A → Scopes → Scopes → Type 0) → X → Type 0
IsUniqueAs {A} {X} erase made typed x =
    (y z : A) (a b c d : Point) → IsReadAs erase made typed x y a b → IsReadAs erase made typed x z c d → a ≡ c → HasOwn a → (y ≡ z) × (b ≡ d) × HasOwn b

-- A value that is not made of a place, or a place.
pub data Part : Type 0 where
  OfValue : TypedExpr → Part
  OfPlace : TypedPlace → Part

abbrev pub IsPartRead : Table → tree.Expr → Part → Point → Point → Type 0
IsPartRead T x (OfValue e) a b = (is_made_of_place e ≡ false) × IsRead T x e a b
IsPartRead T x (OfPlace p) a b = IsReadPlace T x p a b

-- two values are one, where allocations are taken over alike
pub record AreAlike (e f : TypedExpr) : Type 0 where
  pub allocation : is_allocation e ≡ is_allocation f
  pub same : is_taken_over e ≡ is_taken_over f → (is_taken_over e ≡ true → type_of e ≡ type_of f) → e ≡ f

abbrev pub ArePartsAlike : Part → Part → Type 0
ArePartsAlike (OfValue e) (OfValue f) = AreAlike e f
ArePartsAlike (OfPlace p) (OfPlace q) = p ≡ q
ArePartsAlike y z = ⊥

-- an expression has one typed tree
abbrev pub IsUnique : Table → tree.Expr → Type 0
IsUnique T x =
    (y z : Part) (a b c d : Point) → IsPartRead T x y a b → IsPartRead T x z c d → a ≡ c → HasOwn a → ArePartsAlike y z × (b.scopes ≡ d.scopes) × HasOwn b

pub alike-same : (e f : TypedExpr) → e ≡ f → AreAlike e f
alike-same e f h = record { allocation = ap is_allocation h; same = λ p q. h }

pub both-values : (e f : TypedExpr) (y z : Part) → y ≡ OfValue e → z ≡ OfValue f → e ≡ f → ArePartsAlike y z
both-values e f y z p q h =
    subst (λ (w : Part). ArePartsAlike w z) (sym p) (subst (ArePartsAlike (OfValue e)) (sym q) (alike-same e f h))

pub point-same : (a b : Point) → a.scopes ≡ b.scopes → a.node ≡ b.node → a ≡ b
point-same a b p q = (λ i. record { scopes = p i; node = q i })

-- The conversion that is made of a value

pub bare-read : (T : Table) (x : tree.Expr) (e : TypedExpr) (a b : Point) → IsRead T x e a b → IsRead T x (bare e) a b
bare-read T x (typed.Convert which at t e) a b h = (h.0, h.1.0, h.2)
bare-read T x e a b h = h

pub bare-made : (e : TypedExpr) → made_by (bare e) ≡ made_by e
bare-made (typed.Convert which at t e) = refl
bare-made e = refl

pub bare-erased : (e : TypedExpr) → erased (bare e) ≡ erased e
bare-erased (typed.Convert which at t e) = refl
bare-erased e = refl

pub plain-bare : (e : TypedExpr) → IsPlain e → bare e ≡ e
plain-bare (typed.Convert which at t e) h = no_true h
plain-bare e h = refl

pub plain-over : (e : TypedExpr) → IsPlain e → is_taken_over e ≡ false
plain-over (typed.Paren at e) h = plain-over e h
plain-over (typed.AllocateFor runtime f at arguments t) h = no_true h
plain-over e h = refl

-- How a value stands: it is no conversion, and it is made of a place or not

pub data IsMadeOf (T : Table) (p : TypedPlace) (m : ℕ) : TypedExpr → Type 0 where
  by-read : IsScalar T (place_type p) → IsMadeOf T p m (typed.Read p)
  by-unread : IsAggregate T (place_type p) → IsMadeOf T p m (typed.Unread p)
  by-decay : (n : NodeId) (t : TypeId) → IsDecay T p n t → n.0 ≡ m → IsMadeOf T p m (typed.Decay p n t)

abbrev pub IsStanding : Table → tree.Expr → TypedExpr → Point → Point → Type 0
IsStanding T x e a b =
    IsPartRead T x (OfValue e) a b
    ⊎ ((p : TypedPlace) × (m : Point) × IsPartRead T x (OfPlace p) a m × IsMadeOf T p m.node e × (m.scopes ≡ b.scopes))

pub is_conversion : TypedExpr → Bool
is_conversion (typed.Convert which at t e) = true
is_conversion e = false

plain_value : (e : TypedExpr) → IsPlain e → is_conversion e ≡ false
unfolding is_conversion
plain_value (typed.Convert which at t e) h = sym h
plain_value e h = refl

pub bare-value : (T : Table) (e : TypedExpr) (s r : Scopes) → IsTyped T e s r → is_conversion (bare e) ≡ false
unfolding is_conversion
bare-value T (typed.Convert which at t e) s r h = plain_value e h.1
bare-value T e s r h = refl

pub standing : (T : Table) (x : tree.Expr) (e : TypedExpr) (a b : Point) → is_conversion e ≡ false → IsRead T x e a b → IsStanding T x e a b
unfolding is_conversion
standing T x (typed.Read p) a b n h = inr (p, b, (h.0, h.1.0, h.2), by-read h.1.1, refl)
standing T x (typed.Unread p) a b n h = inr (p, b, (h.0, h.1.0, h.2), by-unread h.1.1, refl)
standing T x (typed.Decay p c t) a b n h =
    let cut = two-parts (made_by_place p) (Address c ∷ []) a.node b.node h.2 in
    inr (p, record { scopes = b.scopes; node = cut.0 }, (h.0, h.1.0, cut.1), by-decay c t h.1.1 cut.2.0, refl)
standing T x (typed.Convert which at t e) a b n h = no_true (sym n)
standing T x e a b n h = inl (refl, h)

made_one : (T : Table) → IsDistinct T → (p q : TypedPlace) (m n : ℕ) (e f : TypedExpr) → IsMadeOf T p m e → IsMadeOf T q n f → p ≡ q → m ≡ n → e ≡ f
made_one T D p q m n _ _ (by-read s) (by-read r) h g = ap typed.Read h
made_one T D p q m n _ _ (by-unread s) (by-unread r) h g = ap typed.Unread h
made_one T D p q m n _ _ (by-decay c t s u) (by-decay e w r v) h g =
    let node = node-same c e m n g u v in
    let array : Array s.element s.count ≡ Array r.element r.count = sym s.array.1 ∙ ap (λ (z : TypedPlace). shape_at T (place_type z)) h ∙ r.array.1 in
    let element = element_same s.element r.element s.count r.count array in
    let type = shape-one T D t w (Pointer c s.element) (Pointer e r.element) (λ i. Pointer (node i) (element i)) s.type r.type in
    (λ i. typed.Decay (h i) (node i) (type i))
  where
    element_same : (t u : TypeId) (n m : ℕ) → Array t n ≡ Array u m → t ≡ u
    element_same t u n m h = cc
made_one T D p q m n _ _ (by-read s) (by-unread r) h g =
    two-sorts is_scalar_shape is_aggregate_shape scalar-no-aggregate (shape_at T (place_type p)) (shape_at T (place_type q)) (ap (λ (z : TypedPlace). shape_at T (place_type z)) h) s r
made_one T D p q m n _ _ (by-unread s) (by-read r) h g =
    two-sorts is_scalar_shape is_aggregate_shape scalar-no-aggregate (shape_at T (place_type q)) (shape_at T (place_type p)) (ap (λ (z : TypedPlace). shape_at T (place_type z)) (sym h)) r s
made_one T D p q m n _ _ (by-read s) (by-decay e w r v) h g =
    two-sorts is_scalar_shape is_array_shape scalar-no-array (shape_at T (place_type p)) (shape_at T (place_type q)) (ap (λ (z : TypedPlace). shape_at T (place_type z)) h) s (ap is_array_shape r.array.1)
made_one T D p q m n _ _ (by-decay e w r v) (by-read s) h g =
    two-sorts is_scalar_shape is_array_shape scalar-no-array (shape_at T (place_type q)) (shape_at T (place_type p)) (ap (λ (z : TypedPlace). shape_at T (place_type z)) (sym h)) s (ap is_array_shape r.array.1)
made_one T D p q m n _ _ (by-unread s) (by-decay e w r v) h g =
    two-sorts is_aggregate_shape is_array_shape aggregate-no-array (shape_at T (place_type p)) (shape_at T (place_type q)) (ap (λ (z : TypedPlace). shape_at T (place_type z)) h) s (ap is_array_shape r.array.1)
made_one T D p q m n _ _ (by-decay e w r v) (by-unread s) h g =
    two-sorts is_aggregate_shape is_array_shape aggregate-no-array (shape_at T (place_type q)) (shape_at T (place_type p)) (ap (λ (z : TypedPlace). shape_at T (place_type z)) (sym h)) s (ap is_array_shape r.array.1)

-- a place has one tree
pub place-one : (T : Table) (x : tree.Expr) → IsUnique T x → (p q : TypedPlace) (a b c d : Point) → IsReadPlace T x p a b → IsReadPlace T x q c d → a ≡ c → HasOwn a
    → (p ≡ q) × (b ≡ d) × HasOwn b
place-one T x u p q a b c d h k e own =
    let one = u (OfPlace p) (OfPlace q) a b c d h k e own in
    (one.0, point-same b d one.1 (ends (made_by_place p) (made_by_place q) a.node c.node b.node d.node (ap made_by_place one.0) (ap (λ (z : Point). z.node) e) h.2 k.2), one.2)

-- a value has one tree, but for the conversion that is made of it and for what takes it over
pub value-one : (T : Table) → IsDistinct T → (x : tree.Expr) → IsUnique T x → (e f : TypedExpr) (a b c d : Point) → IsRead T x e a b → IsRead T x f c d → a ≡ c → HasOwn a
    → AreAlike (bare e) (bare f) × (b.scopes ≡ d.scopes) × HasOwn b
value-one T D x u e f a b c d h k q own =
    by (standing T x (bare e) a b (bare-value T e a.scopes b.scopes h.1) (bare-read T x e a b h)) (standing T x (bare f) c d (bare-value T f c.scopes d.scopes k.1) (bare-read T x f c d k))
  where
    by : IsStanding T x (bare e) a b → IsStanding T x (bare f) c d → AreAlike (bare e) (bare f) × (b.scopes ≡ d.scopes) × HasOwn b
    by (inl g) (inl j) = u (OfValue (bare e)) (OfValue (bare f)) a b c d g j q own
    by (inl g) (inr j) = absurd (u (OfValue (bare e)) (OfPlace j.0) a b c j.1 g j.2 q own).0
    by (inr g) (inl j) = absurd (u (OfPlace g.0) (OfValue (bare f)) a g.1 c d g.2 j q own).0
    by (inr g) (inr j) =
        let one = place-one T x u g.0 j.0 a g.1 c j.1 g.2 j.2 q own in
        let node = ap (λ (z : Point). z.node) one.1 in (
          alike-same (bare e) (bare f) (made_one T D g.0 j.0 g.1.node j.1.node (bare e) (bare f) g.3 j.3 one.0 node),
          sym g.4 ∙ ap (λ (z : Point). z.scopes) one.1 ∙ j.4,
          subst HasOwnFunctions g.4 one.2,
        )

-- a plain value is taken over by nothing
pub plain-one : (T : Table) → IsDistinct T → (x : tree.Expr) → IsUnique T x → (e f : TypedExpr) (a b c d : Point) → IsRead T x e a b → IsRead T x f c d → a ≡ c → HasOwn a
    → is_taken_over (bare e) ≡ false → is_taken_over (bare f) ≡ false → (bare e ≡ bare f) × (b ≡ d) × HasOwn b
plain-one T D x u e f a b c d h k q own g j =
    let one = value-one T D x u e f a b c d h k q own in
    let same = one.0.same (g ∙ sym j) (λ over. no_true (sym g ∙ over)) in
    let made = sym (bare-made e) ∙ ap made_by same ∙ bare-made f in
    (same, point-same b d one.1 (ends (made_by e) (made_by f) a.node c.node b.node d.node made (ap (λ (z : Point). z.node) q) h.2 k.2), one.2)
