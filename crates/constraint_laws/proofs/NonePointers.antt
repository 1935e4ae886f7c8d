-- Whether a type holds a pointer goes by its shape.
use Rattle.std.proofs.Common.{◌≡◌, ℕ, zero, suc, ◌<◌, Bool, true, false, ◌||◌, List, [], ◌∷◌, length, refl, ap, sym, ◌∙◌, arith}
use Rattle.std.specs.List.{Contains, list_any}
use Rattle.std.specs.Prelude.{slice_index_or}
use Rattle.cc_base.specs.declared.number.TypeId.{TypeId}
use Rattle.c_types.specs.declared.shape.TypeShape.{TypeShape}
use Rattle.c_types.specs.declared.shape.TypeShape.TheVariants.{Void, Integer, Pointer, Array, Function, Struct, Union}
use Rattle.c_types.specs.Table.{Table, shape_at, members_at, parts_at, parts_of_shape}
use Rattle.c_types.specs.Cells.{holds_pointer, holds_in_shape}
use Rattle.c_types.specs.Sound.{IsWellFormed}
use Rattle.c_types.proofs.Lists.{contains_head, contains_tail}
use Rattle.c_types.proofs.Descent.{descend_is, rank_bound}

any_same : (f g : TypeId → Bool) (ms : List TypeId) → ((m : TypeId) → Contains ms m → f m ≡ g m) → list_any f ms ≡ list_any g ms
any_same f g [] h = refl
any_same f g (m ∷ ms) h = λ i. h m (contains_head m ms) i || any_same f g ms (λ x c. h x (contains_tail m ms x c)) i

holds_same : (f g : TypeId → Bool) (s : TypeShape) (ms : List TypeId) → ((m : TypeId) → Contains (parts_of_shape s ms) m → f m ≡ g m)
    → holds_in_shape f s ms ≡ holds_in_shape g s ms
holds_same f g Void ms h = refl
holds_same f g (Integer b s) ms h = refl
holds_same f g (Pointer n t) ms h = refl
holds_same f g (Array e n) ms h = h e (contains_head e [])
holds_same f g (Function ps r) ms h = refl
holds_same f g (Struct t) ms h = any_same f g ms h
holds_same f g (Union t) ms h = any_same f g ms h

pub holds_is : (table : Table) → IsWellFormed table → (t : TypeId) → holds_pointer table t ≡ holds_in_shape (holds_pointer table) (shape_at table t) (members_at table t)
unfolding holds_pointer
holds_is table w t =
    descend_is (λ of_part u. holds_in_shape of_part (shape_at table u) (members_at table u)) false (parts_at table) w.order.0
    (λ f g u h. holds_same f g (shape_at table u) (members_at table u) h) w.order.1.falls (suc (length table)) t (rank_bound table w.order.0 w.order.1 t)

any-at : (f : TypeId → Bool) (ms : List TypeId) (k : ℕ) (d : TypeId) → k < length ms → list_any f ms ≡ false → f (slice_index_or ms k d) ≡ false
any-at f [] k d l h = absurd (omega (arith, l))
any-at f (x ∷ ms) zero d l h = by (f x) refl
  where
    by : (b : Bool) → f x ≡ b → f x ≡ false
    by false e = e
    by true e = absurd (let g : list_any f (x ∷ ms) ≡ true = ap (λ b. b || list_any f ms) e in cc (g, h))
any-at f (x ∷ ms) (suc k) d l h = any-at f ms k d (omega (arith, l)) (by (f x) h)
  where
    by : (b : Bool) → (b || list_any f ms) ≡ false → list_any f ms ≡ false
    by false e = e
    by true e = absurd (cc (e))

pub any-none : (f : TypeId → Bool) (ms : List TypeId) → list_any f ms ≡ false → (m : TypeId) → Contains ms m → f m ≡ false
any-none f ms h m c = sym (ap f c.2) ∙ any-at f ms c.0 m c.1 h
