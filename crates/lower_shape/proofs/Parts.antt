-- The parts of an object that its initialisers are stored in.
use Rattle.std.proofs.Common.{ℕ, ◌<◌, ◌+◌, ◌*◌, ◌≡◌, refl, ap, sym, subst, Bool, true, false, List, [], ◌∷◌, arith, if◌then◌else◌, nat_lt, ◌==◌, Some, None, IsTrue, length}
use Rattle.std.proofs.lemmas.Bool.Decides.{nat_tests}
use Rattle.cc_base.specs.declared.number.TypeId.{TypeId}
use Rattle.c_types.specs.declared.shape.TypeShape.{TypeShape}
use Rattle.c_types.specs.declared.shape.TypeShape.TheVariants as shape
use Rattle.c_types.specs.Table.{Table, IsComplete, is_complete_entry, IsAggregate, is_aggregate_shape, shape_at, members_at, descend}
use Rattle.c_types.specs.Layouts.{size_of, layout_of, layout_of_shape, layout_step, no_layout, offset_of, member_at}
use Rattle.c_ready.specs.Rows.{IsSlot, Slot, slot_of_shape}
use Rattle.cil_form.specs.Typing.{IsPart, whole, in_member, in_element}

-- a part of a part
pub part-in : (T : Table) (t u v : TypeId) (a c : ℕ) → IsPart T t a u → IsPart T u c v → IsPart T t (a + c) v
part-in T t u v a c (whole x) q = subst (λ z. IsPart T x z v) (none c) q
  where
    none : (m : ℕ) → m ≡ 0 + m
    none m = omega arith
part-in T t u v a c (in_member x i offset y g l p) q =
    subst (λ z. IsPart T x z v) (sum (offset_of T x i) offset c)
    (in_member x i (offset + c) v g l (part-in T (member_at T x i) u v offset c p q))
  where
    sum : (m n o : ℕ) → m + (n + o) ≡ m + n + o
    sum m n o = omega arith
part-in T t u v a c (in_element x e count i offset y s l p) q =
    subst (λ z. IsPart T x z v) (sum (i * size_of T e) offset c) (in_element x e count i (offset + c) v s l (part-in T e u v offset c p q))
  where
    sum : (m n o : ℕ) → m + (n + o) ≡ m + n + o
    sum m n o = omega arith

pub plus-none : (n : ℕ) → n + 0 ≡ n
plus-none n = omega arith

-- Items of a list in braces

some-slot : (T : Table) (t : TypeId) (o : Slot) (offset : ℕ) (u : TypeId) → Some o ≡ Some (record { offset = offset; type = u })
    → IsPart T t o.offset o.type → IsPart T t offset u
some-slot T t o offset u e p =
    subst (λ (z : Slot). IsPart T t z.offset z.type) (same o (record { offset = offset; type = u }) e) p
  where
    same : (a c : Slot) → Some a ≡ Some c → a ≡ c
    same a c h = cc

slot-if : (T : Table) (t : TypeId) (c : Bool) (o : Slot) (offset : ℕ) (u : TypeId)
    → (if c then Some o else None) ≡ Some (record { offset = offset; type = u }) → (c ≡ true → IsPart T t o.offset o.type) → IsPart T t offset u
slot-if T t true o offset u e p = some-slot T t o offset u e (p refl)
slot-if T t false o offset u e p = absurd (cc (e))

pub lt-below : (n t : ℕ) → nat_lt n t ≡ true → n < t
lt-below n t q = grind (arith, nat_tests, q)

eq-none : (n : ℕ) → (n == 0) ≡ true → n ≡ 0
eq-none n q = grind (arith, nat_tests, q)

-- the first item of a union initialises its first member, which there is where it is complete
slot-part : (T : Table) (t : TypeId) (x : TypeShape) (i offset : ℕ) (u : TypeId) → shape_at T t ≡ x
    → (IsTrue (is_aggregate_shape x) → 0 < length (members_at T t))
    → slot_of_shape T t x i ≡ Some (record { offset = offset; type = u }) → IsPart T t offset u
slot-part T t (shape.Array e count) i offset u s f h =
    slot-if T t (nat_lt i count) (record { offset = i * size_of T e; type = e }) offset u h
    (λ q. subst (λ z. IsPart T t z e) (plus-none (i * size_of T e)) (in_element t e count i 0 e s (lt-below i count q) (whole e)))
slot-part T t (shape.Struct n) i offset u s f h =
    slot-if T t (nat_lt i (length (members_at T t))) (record { offset = offset_of T t i; type = member_at T t i }) offset u h
    (λ q. subst (λ z. IsPart T t z (member_at T t i)) (plus-none (offset_of T t i))
    (in_member t i 0 (member_at T t i) (ap is_aggregate_shape s) (lt-below i (length (members_at T t)) q) (whole (member_at T t i))))
slot-part T t (shape.Union n) i offset u s f h =
    slot-if T t (i == 0) (record { offset = offset_of T t i; type = member_at T t i }) offset u h
    (λ q. subst (λ z. IsPart T t z (member_at T t i)) (plus-none (offset_of T t i))
    (in_member t i 0 (member_at T t i) (ap is_aggregate_shape s)
    (subst (λ z. z < length (members_at T t)) (sym (eq-none i q)) (f refl)) (whole (member_at T t i))))
slot-part T t (shape.Integer bytes signed) i offset u s f h = slot-if T t (i == 0) (record { offset = 0; type = t }) offset u h (λ q. whole t)
slot-part T t (shape.Pointer n v) i offset u s f h = slot-if T t (i == 0) (record { offset = 0; type = t }) offset u h (λ q. whole t)
slot-part T t shape.Void i offset u s f h = absurd (cc (h))
slot-part T t (shape.Function ps r) i offset u s f h = absurd (cc (h))

-- a complete struct or union has a member
some-member : (T : Table) (t : TypeId) → IsComplete T t → IsAggregate T t → 0 < length (members_at T t)
some-member T t c g = by (shape_at T t) (members_at T t) c g
  where
    by : (x : TypeShape) (l : List TypeId) → IsTrue (is_complete_entry x l) → IsTrue (is_aggregate_shape x) → 0 < length l
    by (shape.Struct n) [] c g = absurd (cc (c))
    by (shape.Struct n) (y ∷ l) c g = omega arith
    by (shape.Union n) [] c g = absurd (cc (c))
    by (shape.Union n) (y ∷ l) c g = omega arith
    by shape.Void l c g = absurd (cc (g))
    by (shape.Integer bytes signed) l c g = absurd (cc (g))
    by (shape.Pointer n t) l c g = absurd (cc (g))
    by (shape.Array t n) l c g = absurd (cc (g))
    by (shape.Function ps r) l c g = absurd (cc (g))

-- the part that an item of a list for the complete type t initialises
pub slotted : (T : Table) (text : Bool) (t : TypeId) (i offset : ℕ) (u : TypeId) → IsComplete T t → IsSlot text T t i offset u
    → IsPart T t offset u
slotted T true t i offset u c h =
    subst (λ z. IsPart T t z u) (sym h.0) (subst (λ z. IsPart T t 0 z) (sym h.1) (whole t))
slotted T false t i offset u c h = slot-part T t (shape_at T t) i offset u refl (some-member T t c) h

-- Characters

-- an array of them has no gaps
pub char-size : (T : Table) (t : TypeId) (signed : Bool) → shape_at T t ≡ shape.Integer 1 signed → size_of T t ≡ 1
unfolding layout_of
char-size T t signed h = ap (λ x. (layout_of_shape (descend (layout_step T) no_layout (length T)) x (members_at T t)).size) h
