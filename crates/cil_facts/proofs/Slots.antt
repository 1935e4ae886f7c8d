-- Functions of one class: their parameters and their results are of one class, one by one.
use Rattle.std.proofs.Common.{◌≡◌, ◌⊎◌, ◌∙◌, inl, inr, ℕ, zero, suc, Bool, true, false, ◌&&◌, if◌then◌else◌, List, [], ◌∷◌, length, map, nat_lt, Some, slice_get, refl, ap, sym, subst}
use lib.Pointwise.{pointwise}
use Rattle.cc_base.specs.declared.number.TypeId.{TypeId}
use Rattle.cc_base.specs.declared.number.NodeId.{NodeId}
use Rattle.c_types.specs.declared.shape.TypeShape.{TypeShape}
use Rattle.c_types.specs.declared.shape.TypeShape.TheVariants as shape
use Rattle.c_types.specs.Table.{Table, shape_at}
use Rattle.c_types.specs.Cells.{same_type}
use Rattle.c_types.specs.Equality.{slot_of, same_slot, makeup_of, same_makeup, made_alike, physically_equal}
use Rattle.c_types.specs.Flows.{pointer_at, pointer_in, pointer_of_shape, and_then}
use Rattle.c_types.specs.Sound.{IsWellFormed}
use Rattle.type_laws.proofs.Relations.{same_id}
use Rattle.type_laws.proofs.Levels.{still}

both-first : (a b : Bool) → (a && b) ≡ true → a ≡ true
both-first true b h = refl
both-first false b h = absurd (cc (h))

both-second : (a b : Bool) → (a && b) ≡ true → b ≡ true
both-second true b h = h
both-second false b h = absurd (cc (h))

module _ (table : Table) (sound : IsWellFormed table) where
  abbrev AreAlike : TypeId → TypeId → Type 0
  AreAlike x y = same_slot (physically_equal table) (slot_of x (shape_at table x)) (slot_of y (shape_at table y)) ≡ true

  -- the slot at the same place
  slot-there : (xs ys : List TypeId)
      → pointwise (same_slot (physically_equal table)) (map (λ p. slot_of p (shape_at table p)) xs) (map (λ p. slot_of p (shape_at table p)) ys) ≡ true
      → (i : ℕ) (x : TypeId) → slice_get xs i ≡ Some x → (y : TypeId) × (slice_get ys i ≡ Some y) × AreAlike x y
  slot-there [] ys h i x e = absurd (cc (e))
  slot-there (x ∷ xs) [] h i z e = absurd (cc (h))
  slot-there (x ∷ xs) (y ∷ ys) h zero z e =
      let it : x ≡ z = cc (e) in (
        y,
        refl,
        subst (λ a. AreAlike a y) it
            (both-first (same_slot (physically_equal table) (slot_of x (shape_at table x)) (slot_of y (shape_at table y))) _ h),
      )
  slot-there (x ∷ xs) (y ∷ ys) h (suc i) z e =
      slot-there xs ys (both-second (same_slot (physically_equal table) (slot_of x (shape_at table x)) (slot_of y (shape_at table y))) _ h) i z e

  -- the function's types are those of one that is made alike, place by place
  pub record AreSlotsOf (parameters : List TypeId) (result : TypeId) (t : TypeId) : Type 0 where
    pub own_parameters : List TypeId
    pub own_result : TypeId
    pub shape : shape_at table t ≡ shape.Function own_parameters own_result
    pub each : (i : ℕ) (x : TypeId) → slice_get (own_result ∷ own_parameters) i ≡ Some x
        → (y : TypeId) × (slice_get (result ∷ parameters) i ≡ Some y) × ((x ≡ y) ⊎ AreAlike x y)

  pub function-slots : (t u : TypeId) (parameters : List TypeId) (result : TypeId) → shape_at table u ≡ shape.Function parameters result
      → physically_equal table t u ≡ true → AreSlotsOf parameters result t
  function-slots t u parameters result e h =
      by (nat_lt t.0 (length table)) (nat_lt u.0 (length table)) (sym (ap (λ E. E t u) (still table sound)) ∙ h)
    where
      same : same_type t u ≡ true → AreSlotsOf parameters result t
      same g = record {
        own_parameters = parameters;
        own_result = result;
        shape = ap (λ n. shape_at table (record { 0 = n })) (same_id t u g) ∙ e;
        each = λ i x f. (x, f, inl refl);
      }

      alike : (s : TypeShape) → shape_at table t ≡ s
          → same_makeup (physically_equal table) (makeup_of table (physically_equal table) t s)
          (makeup_of table (physically_equal table) u (shape.Function parameters result)) ≡ true
          → AreSlotsOf parameters result t
      alike (shape.Function ps r) f g = record {
        own_parameters = ps;
        own_result = r;
        shape = f;
        each = λ i x d. let y = slot-there (r ∷ ps) (result ∷ parameters) g i x d in (y.0, y.1, inr y.2);
      }
      alike shape.Void f g = absurd (cc (g))
      alike (shape.Integer b s) f g = absurd (cc (g))
      alike (shape.Pointer n v) f g = absurd (cc (g))
      alike (shape.Array v n) f g = absurd (cc (g))
      alike (shape.Struct tag) f g = absurd (cc (g))
      alike (shape.Union tag) f g = absurd (cc (g))

      by : (a b : Bool) → (if a && b then made_alike table (physically_equal table) t u else same_type t u) ≡ true → AreSlotsOf parameters result t
      by true true g =
          alike (shape_at table t) refl
          (subst (λ s. same_makeup (physically_equal table) (makeup_of table (physically_equal table) t (shape_at table t))
          (makeup_of table (physically_equal table) u s) ≡ true) e g)
      by true false g = same g
      by false true g = same g
      by false false g = same g

  -- the pointer at a place of a function
  pub pointer-in_function : (t : TypeId) (parameters : List TypeId) (result : TypeId) (i : ℕ) (x : TypeId) (n : NodeId) (to : TypeId)
      → shape_at table t ≡ shape.Function parameters result
      → slice_get (result ∷ parameters) i ≡ Some x → shape_at table x ≡ shape.Pointer n to
      → pointer_at table t i ≡ Some (record { node = n; to = to })
  pointer-in_function t parameters result i x n to e f g =
      ap (λ s. pointer_in table t s i) e ∙ ap (λ o. and_then o (λ p. pointer_of_shape (shape_at table p))) f ∙ ap pointer_of_shape g
