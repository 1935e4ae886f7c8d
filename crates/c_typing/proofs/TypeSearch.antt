-- The search of the table for a shape, and what a call of `Types::add` does by it.
use Rattle.std.proofs.Common.{◌≡◌, ℕ, zero, suc, ◌+◌, ◌-◌, ◌<◌, ◌≤◌, Bool, true, false, [], ◌∷◌, ◌++◌, length, Option, Some, None, Result, Ok, Err, IfOk, OnErr, refl, ap, sym, ◌∙◌, inl, inr, ◌↔◌, nat_lt, nat_le, get_or, true≢false, if◌then◌else◌, arith}
use Rattle.std.proofs.lemmas.Bool.Decides.{Decides-ltb, leb_tells}
use Rattle.cc_base.specs.declared.place.Place.{Place}
use Rattle.cc_base.specs.declared.number.TypeId.{TypeId}
use Rattle.cc_base.specs.declared.fault.Fault.TheVariants as fault
use Rattle.cc_base.specs.declared.fault.Limit.{Limit}
use Rattle.cc_base.specs.declared.fault.Limit.TheVariants as limit
use Rattle.c_types.specs.declared.fault.TypeFault.{TypeFault}
use Rattle.c_types.specs.declared.fault.TypeFault.TheVariants as type_fault
use Rattle.c_types.specs.declared.shape.TypeShape.{TypeShape}
use Rattle.c_types.specs.declared.shape.TypeShape.TheVariants.{Void, Integer, Pointer, Array, Function, Struct, Union}
use Rattle.c_types.specs.Table.{Table, Entry, HasShape, void_entry}
use Rattle.c_types.specs.Calls.{IsNew, IsTypeFault, basic_entry, new_layout}
use Rattle.c_types.proofs.Shapes.{shape_eq, same_shape, own_shape}
use Rattle.c_typing.specs.Scopes.{Seen}
use Rattle.c_typing.specs.Judging.{known, Gives, Stops, is_shape, type_among, there_or_added, type_with}

-- the test is the derived one
is_shape-eq : (a b : TypeShape) → is_shape a b ≡ shape_eq a b
is_shape-eq Void Void = refl
is_shape-eq (Integer m true) (Integer n true) = refl
is_shape-eq (Integer m true) (Integer n false) = refl
is_shape-eq (Integer m false) (Integer n true) = refl
is_shape-eq (Integer m false) (Integer n false) = refl
is_shape-eq (Pointer n t) (Pointer m u) = refl
is_shape-eq (Array t m) (Array u n) = refl
is_shape-eq (Function ps r) (Function qs q) = refl
is_shape-eq (Struct m) (Struct n) = refl
is_shape-eq (Union m) (Union n) = refl
is_shape-eq a b = refl

pub is_shape-true : (a b : TypeShape) → is_shape a b ≡ true → a ≡ b
is_shape-true a b h = same_shape a b (sym (is_shape-eq a b) ∙ h)

pub is_shape-same : (a : TypeShape) → is_shape a a ≡ true
is_shape-same a = is_shape-eq a a ∙ own_shape a

-- what is found has the shape
pub record IsFound (i : ℕ) (es : Table) (x : TypeShape) (t : TypeId) : Type 0 where
  pub from : i ≤ t.0
  pub within : t.0 - i < length es
  pub shape : (get_or es (t.0 - i) void_entry).shape ≡ x

found_by : (i : ℕ) (e : Entry) (es : Table) (x : TypeShape) (t : TypeId) (b : Bool) → is_shape e.shape x ≡ b
    → ((u : TypeId) → type_among (i + 1) es x ≡ Some u → IsFound (i + 1) es x u)
    → (if b then Some (record { 0 = i }) else type_among (i + 1) es x) ≡ Some t → IsFound i (e ∷ es) x t
found_by i e es x t true b rest h =
    let k : i ≡ t.0 = ap (λ (o : Option TypeId). number o) h in
    let z : t.0 - i ≡ 0 = omega (arith, k) in
    record {
      from = omega (arith, k);
      within = omega (arith, k);
      shape = ap (λ n. (get_or (e ∷ es) n void_entry).shape) z ∙ is_shape-true e.shape x b;
    }
  where
    number : Option TypeId → ℕ
    number None = i
    number (Some u) = u.0
found_by i e es x t false b rest h =
    let r = rest t h in
    let f : i + 1 ≤ t.0 = r.from in
    let w : t.0 - (i + 1) < length es = r.within in
    let z : t.0 - i ≡ suc (t.0 - (i + 1)) = omega (arith, f) in
    record {
      from = omega (arith, f);
      within = omega (arith, f, w);
      shape = ap (λ n. (get_or (e ∷ es) n void_entry).shape) z ∙ r.shape;
    }

pub among-found : (i : ℕ) (es : Table) (x : TypeShape) (t : TypeId) → type_among i es x ≡ Some t → IsFound i es x t
among-found i [] x t h = absurd (cc)
among-found i (e ∷ es) x t h = found_by i e es x t (is_shape e.shape x) refl (λ u g. among-found (i + 1) es x u g) h

absent_by : (i : ℕ) (e : Entry) (es : Table) (x : TypeShape) (b : Bool) → is_shape e.shape x ≡ b
    → (type_among (i + 1) es x ≡ None → (k : ℕ) → k < length es → (get_or es k void_entry).shape ≡ x → ⊥)
    → (if b then Some (record { 0 = i }) else type_among (i + 1) es x) ≡ None
    → (k : ℕ) → k < length (e ∷ es) → (get_or (e ∷ es) k void_entry).shape ≡ x → ⊥
absent_by i e es x true b rest h k l s = cc
absent_by i e es x false b rest h zero l s = true≢false (sym (is_shape-same x) ∙ ap (λ y. is_shape y x) (sym s) ∙ b)
absent_by i e es x false b rest h (suc k) l s = rest h k (omega arith) s

pub among-absent : (i : ℕ) (es : Table) (x : TypeShape) → type_among i es x ≡ None → (k : ℕ) → k < length es → (get_or es k void_entry).shape ≡ x → ⊥
among-absent i [] x h k l s = omega arith
among-absent i (e ∷ es) x h k l s = absent_by i e es x (is_shape e.shape x) refl (λ g. among-absent (i + 1) es x g) h k l s

-- in a whole table
pub type-found : (T : Table) (x : TypeShape) (t : TypeId) → type_among 0 T x ≡ Some t → HasShape T t x
type-found T x t h =
    let f = among-found 0 T x t h in
    let w : t.0 - 0 < length T = f.within in
    let z : t.0 ≡ t.0 - 0 = omega arith in
    (omega (arith, w), ap (λ n. (get_or T n void_entry).shape) z ∙ f.shape)

pub type-absent : (T : Table) (x : TypeShape) → type_among 0 T x ≡ None → IsNew T x
type-absent T x h t s = among-absent 0 T x h t.0 s.0 s.1

-- What `Types::add` says of its answer, and the types after it.
pub record HasAdded (T T' : Table) (x : TypeShape) (result : Result TypeId TypeFault) : Type 0 where
  pub known : (t : TypeId) → HasShape T t x → (result ≡ Ok t) × (T' ≡ T)
  pub added : IsNew T x → IfOk result (λ t. (t.0 ≡ length T) × (T' ≡ T ++ (basic_entry x ∷ [])))
  pub types : (result ≡ Err (type_fault.TooLarge limit.Types)) ↔ (IsNew T x × (16384 < length T + 1))
  pub object : (result ≡ Err (type_fault.TooLarge limit.Object)) ↔ (IsNew T x × (length T + 1 ≤ 16384) × (1048576 < (new_layout T x).size))
  pub refused : OnErr result (T' ≡ T)

lt_true : (a b : ℕ) → a < b → nat_lt a b ≡ true
lt_true a b h = (Decides-ltb a b).1 h

le_true : (a b : ℕ) → a ≤ b → nat_le a b ≡ true
le_true a b h = elim (leb_tells a b) [ inl t ↦ t.0 | inr f ↦ absurd (omega (arith, f.1)) ]

lt_false : (a b : ℕ) → b ≤ a → nat_lt a b ≡ false
lt_false a b h = grind (arith, leb_tells)

pub added_ok : (T T' : Table) (seen : Seen) (at : Place) (x : TypeShape) (t : TypeId) (o : Option TypeId) → type_among 0 T x ≡ o → HasAdded T T' x (Ok t)
    → there_or_added at x (known T seen) o ≡ Gives t (known T' seen)
added_ok T T' seen at x t (Some u) o h =
    let k = h.known u (type-found T x u o) in
    let g = k.0 in
    let f : T' ≡ T = k.1 in cc
added_ok T T' seen at x t None o h =
    let new = type-absent T x o in
    let a = h.added new in
    let room : length T < 16384 = elim (leb_tells (length T + 1) 16384) [ inl w ↦ omega (arith, w.1) | inr w ↦ absurd (let e = h.types.1 (new, w.1) in cc) ] in
    let small : (new_layout T x).size ≤ 1048576 =
    elim (leb_tells (new_layout T x).size 1048576) [ inl w ↦ w.1 | inr w ↦ absurd (let e = h.object.1 (new, omega (arith, room), w.1) in cc) ] in
    let e : t ≡ record { 0 = length T } = ap (λ n. record { 0 = n }) a.0 in
    rw (lt_true (length T) 16384 room, le_true (new_layout T x).size 1048576 small)
    (let f : T' ≡ T ++ (basic_entry x ∷ []) = a.1 in cc)

pub type_with-ok : (T T' : Table) (seen : Seen) (at : Place) (x : TypeShape) (t : TypeId) → HasAdded T T' x (Ok t)
    → type_with at x (known T seen) ≡ Gives t (known T' seen)
unfolding type_with
type_with-ok T T' seen at x t h = added_ok T T' seen at x t (type_among 0 T x) refl h

pub added_limit : (T T' : Table) (seen : Seen) (at : Place) (x : TypeShape) (l : Limit) (o : Option TypeId) → type_among 0 T x ≡ o
    → IsTypeFault (type_fault.TooLarge l) → HasAdded T T' x (Err (type_fault.TooLarge l))
    → there_or_added at x (known T seen) o ≡ Stops (fault.TooLarge at l) (known T' seen)
added_limit T T' seen at x l (Some u) o f h = absurd (let k = (h.known u (type-found T x u o)).0 in cc)
added_limit T T' seen at x limit.Types None o f h =
    let new = h.types.0 refl in
    let same : T' ≡ T = h.refused in
    rw (lt_false (length T) 16384 (omega (arith, new.1))) cc
added_limit T T' seen at x limit.Object None o f h =
    let new = h.object.0 refl in
    let same : T' ≡ T = h.refused in
    rw (lt_true (length T) 16384 (omega (arith, new.1)), leb_false (new_layout T x).size 1048576 new.2) cc
  where
    leb_false : (a b : ℕ) → b < a → nat_le a b ≡ false
    leb_false a b h = elim (leb_tells a b) [ inl t ↦ absurd (omega (arith, t.1)) | inr f ↦ f.0 ]
added_limit T T' seen at x other None o f h = absurd f

pub type_with-limit : (T T' : Table) (seen : Seen) (at : Place) (x : TypeShape) (l : Limit) → IsTypeFault (type_fault.TooLarge l)
    → HasAdded T T' x (Err (type_fault.TooLarge l)) → type_with at x (known T seen) ≡ Stops (fault.TooLarge at l) (known T' seen)
unfolding type_with
type_with-limit T T' seen at x l f h = added_limit T T' seen at x l (type_among 0 T x) refl f h
