-- A part that a refusal reads is the part of the well typed tree at the same place: by uniqueness, where both begin at one point.
use Rattle.std.proofs.Common.{◌≡◌, ℕ, Bool, true, false, ◌||◌, List, None, refl, ap, sym, subst, ◌∙◌, inl, inr, ◌⊎◌, if◌then◌else◌}
use Rattle.cc_base.specs.declared.fault.Fault.{Fault}
use Rattle.c_types.specs.declared.shape.TypeShape.{TypeShape}
use Rattle.c_types.specs.declared.shape.TypeShape.TheVariants.{Void, Integer, Pointer, Array, Function, Struct, Union}
use Rattle.c_types.specs.Table.{Table, IsAggregate, is_aggregate_shape, shape_at}
use Rattle.c_tree.specs.Tree as tree
use Rattle.c_tree.specs.TypedTree as typed
use Rattle.c_tree.specs.TypedTree.{TypedExpr, TypedPlace}
use Rattle.c_tree.specs.TypedParts.{type_of, place_type}
use Rattle.c_typing.specs.Constants.{constant_value, is_cast_zero, is_zero_value}
use Rattle.c_typing.specs.Conversions.{bare, is_plain, is_allocation, is_taken_over}
use Rattle.c_typing.specs.Refusals.{Fails, is_natural}
use Rattle.c_typing.specs.Rules.{is_made_of_place, runtime_named}
use Rattle.c_typing.specs.Scopes.{Scopes}
use Rattle.c_typing.specs.Settled.{IsBasic, IsAlike, flat, is_converted}
use Rattle.c_typing.specs.Tests.{Elaborated, AsPlace, AsValue, AsAllocation, Test, decayed, void_type}
use Rattle.c_typing.specs.Typing.{IsTyped}
use Rattle.c_typing_laws.proofs.KeptConversions.{bare-typed}
use Rattle.c_typing_laws.proofs.SidesTaken.{scalar_flat}
use Rattle.c_typing_laws.proofs.ValuesTaken.{natural-no_place, natural-no_allocation}
use Rattle.c_typing_unique.specs.Points.{Point, HasOwn, IsRead, IsReadPlace}
use Rattle.c_typing_unique.proofs.Reading.{OfValue, OfPlace, IsUnique, AreAlike, IsMadeOf, by-read, by-unread, by-decay, IsStanding, standing, bare-value, bare-read, place-one, plain-one}
use Rattle.c_typing_unique.proofs.Shapes.{IsDistinct, no_true, shape-one}
use Rattle.c_typing_unique.proofs.UniqueTrees.{expr-one}
use Rattle.c_typing_exact.specs.Numbered.{IsElaboratedAt, AfterPart, AfterValue, part_of}
use Rattle.c_typing_exact.specs.Passing.{Passes}
use Rattle.c_typing_exact.proofs.DeclaratorPasses.{passes-fails}

-- Values that nothing names, takes over or converts

pub plain_runtime : (e : TypedExpr) → is_plain e ≡ true → runtime_named e ≡ None
plain_runtime (typed.Paren at e) h = plain_runtime e h
plain_runtime (typed.RuntimeName name function t) h = no_true h
plain_runtime e h = refl

pub over_allocation : (e : TypedExpr) → is_taken_over e ≡ true → is_allocation e ≡ true
over_allocation (typed.Paren at e) h = over_allocation e h
over_allocation (typed.AllocateFor runtime f at arguments t) h = refl
over_allocation e h = no_true h

pub over_runtime : (e : TypedExpr) → is_taken_over e ≡ true → runtime_named e ≡ None
over_runtime (typed.Paren at e) h = over_runtime e h
over_runtime (typed.AllocateFor runtime f at arguments t) h = refl
over_runtime e h = no_true h

pub over_no_place : (e : TypedExpr) → is_taken_over e ≡ true → is_made_of_place e ≡ false
over_no_place (typed.Paren at e) h = refl
over_no_place (typed.AllocateFor runtime f at arguments t) h = refl
over_no_place e h = no_true h

pub over_bare : (e : TypedExpr) → is_taken_over e ≡ true → bare e ≡ e
over_bare (typed.Convert which at t e) h = no_true h
over_bare e h = refl

allocation_no_place : (e : TypedExpr) → is_allocation e ≡ true → is_made_of_place e ≡ false
allocation_no_place (typed.Read p) h = no_true h
allocation_no_place (typed.Unread p) h = no_true h
allocation_no_place (typed.Decay p n t) h = no_true h
allocation_no_place (typed.Convert which at t e) h = no_true h
allocation_no_place e h = refl

not_over : (e : TypedExpr) → is_allocation e ≡ false → (b : Bool) → is_taken_over e ≡ b → b ≡ false
not_over e h false q = refl
not_over e h true q = no_true (sym h ∙ over_allocation e q)

pub unconverted_bare : (e : TypedExpr) → is_converted e ≡ false → bare e ≡ e
unconverted_bare (typed.Convert which at t e) h = no_true (sym h)
unconverted_bare e h = refl

-- The part of a value

part_plain : (v : TypedExpr) → is_made_of_place v ≡ false → part_of v ≡ (if is_allocation v then AsAllocation v else AsValue v)
part_plain (typed.Read p) h = no_true (sym h)
part_plain (typed.Unread p) h = no_true (sym h)
part_plain (typed.Decay p n t) h = no_true (sym h)
part_plain v h = refl

pub part_value : (v : TypedExpr) → is_made_of_place v ≡ false → is_allocation v ≡ false → part_of v ≡ AsValue v
part_value v h k = part_plain v h ∙ ap (λ (b : Bool). if b then AsAllocation v else AsValue v) k

pub part_block : (v : TypedExpr) → is_allocation v ≡ true → part_of v ≡ AsAllocation v
part_block v k = part_plain v (allocation_no_place v k) ∙ ap (λ (b : Bool). if b then AsAllocation v else AsValue v) k

aggregate_flat : (x : TypeShape) → is_aggregate_shape x ≡ true → flat (decayed x) ≡ flat x
aggregate_flat (Integer bytes signed) h = refl
aggregate_flat (Pointer n t) h = refl
aggregate_flat Void h = refl
aggregate_flat (Array t n) h = no_true h
aggregate_flat (Function ps r) h = refl
aggregate_flat (Struct n) h = refl
aggregate_flat (Union n) h = refl

module _ (T : Table) (basic : IsBasic T) where
  pub distinct : IsDistinct T
  distinct t u h k = basic.formed.distinct t u h k

  pub one : (e : tree.Expr) → IsUnique T e
  one e = expr-one T distinct e

  block_shape : (v : TypedExpr) (s r : Scopes) → IsTyped T v s r → is_allocation v ≡ true → is_taken_over v ≡ false
      → (flat (shape_at T (type_of v)) ≡ Pointer (record { 0 = 0 }) void_type) × (constant_value T v ≡ None) × (is_cast_zero T v ≡ false)
  block_shape (typed.Paren at e) s r h a o = block_shape e s r h.0 a o
  block_shape (typed.Allocate runtime f at arguments n t) s r h a o =
      let k = h.3 in
      let void = shape-one T distinct k.void void_type Void Void refl k.nothing basic.void in
      (ap flat k.type.1 ∙ ap (Pointer (record { 0 = 0 })) void, refl, refl)
  block_shape (typed.AllocateFor runtime f at arguments t) s r h a o = no_true (sym o)
  block_shape v s r h a o = no_true a

  block_alike : (w v : TypedExpr) (s r : Scopes) → IsTyped T v s r → is_allocation v ≡ true → is_taken_over v ≡ false → IsAlike T (AsAllocation w) v
  block_alike w v s r h a o =
      let k = block_shape v s r h a o in
      record { shape = sym k.0; null = sym (λ i. is_zero_value (k.1 i) || k.2 i); value = inr (refl, k.1) }

  value_alike : (v : TypedExpr) (s r : Scopes) → IsTyped T v s r → is_taken_over v ≡ false → is_made_of_place v ≡ false → (b : Bool) → is_allocation v ≡ b → IsAlike T (part_of v) v
  value_alike v s r h o p true a = subst (λ (x : Elaborated). IsAlike T x v) (sym (part_block v a)) (block_alike v v s r h a o)
  value_alike v s r h o p false a = subst (λ (x : Elaborated). IsAlike T x v) (sym (part_value v p a)) (record { shape = refl; null = refl; value = inl refl })

  -- a value is like the part that it is made of
  pub part-alike : (v : TypedExpr) (s r : Scopes) → IsTyped T v s r → is_converted v ≡ false → is_taken_over v ≡ false → IsAlike T (part_of v) v
  part-alike (typed.Read p) s r h c o = record { shape = (scalar_flat (shape_at T (place_type p)) h.1).0; null = refl; value = inr (refl, refl) }
  part-alike (typed.Unread p) s r h c o = record { shape = aggregate_flat (shape_at T (place_type p)) h.1; null = refl; value = inr (refl, refl) }
  part-alike (typed.Decay p n t) s r h c o =
      record { shape = ap (λ (x : TypeShape). flat (decayed x)) h.1.array.1 ∙ sym (ap flat h.1.type.1); null = refl; value = inr (refl, refl) }
  part-alike (typed.Convert which at t e) s r h c o = no_true (sym c)
  part-alike v s r h c o = value_alike v s r h o refl (is_allocation v) refl

  -- x is the part of the value v, where an allocation is any that is taken over
  abbrev pub IsSame : Elaborated → TypedExpr → Type 0
  IsSame x v = (x ≡ part_of v) ⊎ ((w : TypedExpr) × (x ≡ AsAllocation w) × (is_allocation v ≡ true))

  bare_standing : (e : tree.Expr) (v : TypedExpr) (a b : Point) → IsRead T e v a b → IsStanding T e (bare v) a b
  bare_standing e v a b h = standing T e (bare v) a b (bare-value T v a.scopes b.scopes h.1) (bare-read T e v a b h)

  made_part : (p : TypedPlace) (m : ℕ) (v : TypedExpr) → IsMadeOf T p m v → part_of v ≡ AsPlace p
  made_part p m _ (by-read h) = refl
  made_part p m _ (by-unread h) = refl
  made_part p m _ (by-decay n t h k) = refl

  same_value : (v w : TypedExpr) → is_natural v ≡ true → AreAlike v w → is_made_of_place w ≡ false → AsValue v ≡ part_of w
  same_value v w n h p =
      let none = natural-no_allocation v n in
      let none' = sym h.allocation ∙ none in
      let same = h.same (not_over v none (is_taken_over v) refl ∙ sym (not_over w none' (is_taken_over w) refl)) (λ over. no_true (sym (not_over v none (is_taken_over v) refl) ∙ over)) in
      ap AsValue same ∙ sym (part_value w p none')

  -- what a refusal reads of an expression is the part of its value in the tree
  pub part-same : (e : tree.Expr) (x : Elaborated) (v : TypedExpr) (a b d : Point) → IsElaboratedAt T e x a b → IsRead T e v a d → HasOwn a
      → IsSame x (bare v) × (b.scopes ≡ d.scopes)
  part-same e (AsPlace p) v a b d h k own = by (bare_standing e v a d k)
    where
      by : IsStanding T e (bare v) a d → IsSame (AsPlace p) (bare v) × (b.scopes ≡ d.scopes)
      by (inl g) = absurd (one e (OfPlace p) (OfValue (bare v)) a b a d h g refl own).0
      by (inr g) =
          let q = place-one T e (one e) p g.0 a b a g.1 h g.2 refl own in
          (inl (ap AsPlace q.0 ∙ sym (made_part g.0 g.1.node (bare v) g.3)), ap (λ (z : Point). z.scopes) q.1 ∙ g.4)
  part-same e (AsValue w) v a b d h k own = by (bare_standing e v a d k)
    where
      by : IsStanding T e (bare v) a d → IsSame (AsValue w) (bare v) × (b.scopes ≡ d.scopes)
      by (inl g) =
          let q = one e (OfValue w) (OfValue (bare v)) a b a d (natural-no_place w h.1, h.0) g refl own in
          (inl (same_value w (bare v) h.1 q.0 g.0), q.1)
      by (inr g) = absurd (one e (OfValue w) (OfPlace g.0) a b a g.1 (natural-no_place w h.1, h.0) g.2 refl own).0
  part-same e (AsAllocation w) v a b d h k own = by (bare_standing e v a d k)
    where
      by : IsStanding T e (bare v) a d → IsSame (AsAllocation w) (bare v) × (b.scopes ≡ d.scopes)
      by (inl g) =
          let q = one e (OfValue w) (OfValue (bare v)) a b a d (over_no_place w h.1, h.0) g refl own in
          (inr (w, refl, sym q.0.allocation ∙ over_allocation w h.1), q.1)
      by (inr g) = absurd (one e (OfValue w) (OfPlace g.0) a b a g.1 (over_no_place w h.1, h.0) g.2 refl own).0

  -- or the place in the tree
  pub place-same : (e : tree.Expr) (x : Elaborated) (p : TypedPlace) (a b d : Point) → IsElaboratedAt T e x a b → IsReadPlace T e p a d → HasOwn a
      → (x ≡ AsPlace p) × (b ≡ d) × HasOwn b
  place-same e (AsPlace q) p a b d h k own =
      let r = place-one T e (one e) q p a b a d h k refl own in
      (ap AsPlace r.0, r.1, r.2)
  place-same e (AsValue w) p a b d h k own = absurd (one e (OfValue w) (OfPlace p) a b a d (natural-no_place w h.1, h.0) k refl own).0
  place-same e (AsAllocation w) p a b d h k own = absurd (one e (OfValue w) (OfPlace p) a b a d (over_no_place w h.1, h.0) k refl own).0

  plain_unconverted : (v : TypedExpr) → is_plain v ≡ true → is_converted v ≡ false
  plain_unconverted (typed.Convert which at t e) h = no_true h
  plain_unconverted v h = refl

  bare_unconverted : (v : TypedExpr) (s r : Scopes) → IsTyped T v s r → is_converted (bare v) ≡ false
  bare_unconverted (typed.Convert which at t e) s r h = plain_unconverted e h.1
  bare_unconverted v s r h = refl

  pub same-alike : (x : Elaborated) (v : TypedExpr) (s r : Scopes) → IsTyped T v s r → is_taken_over (bare v) ≡ false → IsSame x (bare v) → IsAlike T x (bare v)
  same-alike x v s r h o (inl q) =
      subst (λ (z : Elaborated). IsAlike T z (bare v)) (sym q) (part-alike (bare v) s r (bare-typed T v s r h) (bare_unconverted v s r h) o)
  same-alike x v s r h o (inr q) =
      subst (λ (z : Elaborated). IsAlike T z (bare v)) (sym q.1) (block_alike q.0 (bare v) s r (bare-typed T v s r h) q.2 o)

  -- what follows a part

  pub after-part : (e : tree.Expr) (v : TypedExpr) (a d : Point) (g : Fault) (tests : Elaborated → Scopes → List Test) → IsRead T e v a d → HasOwn a
      → ((x : Elaborated) → IsSame x (bare v) → Passes (tests x d.scopes)) → AfterPart T e a (λ x b. Fails (tests x b.scopes) g) → ⊥
  after-part e v a d g tests h own pass k =
      let q = part-same e k.0 v a k.1 d k.2 h own in
      passes-fails (tests k.0 d.scopes) g (pass k.0 q.0) (subst (λ (s : Scopes). Fails (tests k.0 s) g) q.1 k.3)

  pub after-place : (e : tree.Expr) (p : TypedPlace) (a d : Point) (Next : Elaborated → Point → Type 0) → IsReadPlace T e p a d → HasOwn a → AfterPart T e a Next
      → HasOwn d × Next (AsPlace p) d
  after-place e p a d Next h own k =
      let q = place-same e k.0 p a k.1 d k.2 h own in
      (subst HasOwn q.1 q.2, subst (Next (AsPlace p)) q.1 (subst (λ (x : Elaborated). Next x k.1) q.0 k.3))

  pub after-value : (e : tree.Expr) (v : TypedExpr) (a d : Point) (Next : Elaborated → Point → Type 0) → IsRead T e v a d → HasOwn a → is_taken_over (bare v) ≡ false
      → AfterValue T e a Next → (x : Elaborated) × (x ≡ part_of (bare v)) × HasOwn d × Next x d
  after-value e v a d Next h own o k =
      let w : TypedExpr = k.0 in
      let own_bare = unconverted_bare k.0 k.3 in
      let q = plain-one T distinct e (one e) k.0 v a k.1 a d k.2 h refl own (ap is_taken_over own_bare ∙ k.4) o in
      (part_of k.0, ap part_of (sym own_bare ∙ q.0), subst HasOwn q.1 q.2, subst (Next (part_of k.0)) q.1 k.5)

  -- where the value in the tree is a struct that is not read
  pub after-struct : (e : tree.Expr) (p : TypedPlace) (a d : Point) (Next : Elaborated → Point → Type 0) → IsReadPlace T e p a d → IsAggregate T (place_type p) → HasOwn a
      → AfterValue T e a Next → HasOwn d × Next (AsPlace p) d
  after-struct e p a d Next h g own k =
      let v : TypedExpr = typed.Unread p in
      let q = after-value e (typed.Unread p) a d Next (h.0, (h.1, g), h.2) own refl k in
      (q.2, subst (λ (x : Elaborated). Next x d) q.1 q.3)
