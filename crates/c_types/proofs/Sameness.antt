use Rattle.std.proofs.Common.{◌≡◌, ℕ, zero, suc, ◌<◌, Bool, true, false, ◌&&◌, List, [], ◌∷◌, length, map, refl, ap, sym, subst, ◌∙◌, true≢false, eqb, arith}
use Rattle.std.specs.List.{Contains}
use Rattle.std.proofs.lemmas.Bool.Decides.{Decides-eqb}
use Rattle.std.proofs.lemmas.List.Elements.{All-contains}
use lib.Pointwise.{pointwise}
use Rattle.cc_base.specs.declared.number.TypeId.{TypeId}
use Rattle.c_types.specs.declared.shape.TypeShape.{TypeShape}
use Rattle.c_types.specs.declared.shape.TypeShape.TheVariants.{Void, Integer, Pointer, Array, Function, Struct, Union}
use Rattle.c_types.specs.Table.{Table, shape_at, named_by, IsType}
use Rattle.c_types.specs.Equality.{same_bool}
use Rattle.c_types.specs.Sameness.{same_shape, same_step, is_same_type, canonical}
use Rattle.c_types.specs.Sound.{IsWellFormed}
use Rattle.c_types.specs.Kept.{KnownShape, AreFirst, canonical_at, first_at}
use Rattle.c_types.proofs.Lists.{contains_head, contains_tail, map_same}
use Rattle.c_types.proofs.Shapes.{first_true, second_true}
use Rattle.c_types.proofs.Descent.{descend_is}

-- Which types are the same: two types are, exactly where they have the same first type.

-- ---- one step down

lists_local : (f g : TypeId → TypeId → Bool) (ps qs : List TypeId) → ((m : TypeId) → Contains ps m → f m ≡ g m) → pointwise f ps qs ≡ pointwise g ps qs
lists_local f g [] [] h = refl
lists_local f g [] (q ∷ qs) h = refl
lists_local f g (p ∷ ps) [] h = refl
lists_local f g (p ∷ ps) (q ∷ qs) h = λ i. h p (contains_head p ps) i q && lists_local f g ps qs (λ m c. h m (contains_tail p ps m c)) i

shapes_local : (f g : TypeId → TypeId → Bool) (x y : TypeShape) → ((m : TypeId) → Contains (named_by x) m → f m ≡ g m) → same_shape f x y ≡ same_shape g x y
shapes_local f g (Pointer n t) (Pointer m u) h = λ i. h t (contains_head t []) i u
shapes_local f g (Array t a) (Array u b) h = λ i. eqb a b && h t (contains_head t []) i u
shapes_local f g (Function ps r) (Function qs q) h = λ i. h r (contains_head r ps) i q && lists_local f g ps qs (λ m c. h m (contains_tail r ps m c)) i
shapes_local f g x y h = refl

module _ (T : Table) (w : IsWellFormed T) where
  -- two types are the same where their shapes are of the same type
  pub same_is : (t u : TypeId) → IsType T t → is_same_type T t u ≡ same_shape (is_same_type T) (shape_at T t) (shape_at T u)
  unfolding is_same_type
  same_is t u b =
      let e = descend_is (same_step T) (λ v. false) (λ s. named_by (shape_at T s)) (λ s. s.0)
      (λ f g s h j v. shapes_local f g (shape_at T s) (shape_at T v) h j) (λ s m c. w.built s m c) (suc (length T)) t (omega arith) in
      λ i. e i u

-- ---- canonical shapes

-- a canonical shape depends on the first types of what the shape names alone
pub canonical_local : (f g : TypeId → TypeId) (x : TypeShape) → ((m : TypeId) → Contains (named_by x) m → f m ≡ g m) → canonical f x ≡ canonical g x
canonical_local f g (Pointer n t) h = λ i. Pointer (record { 0 = 0 }) (h t (contains_head t []) i)
canonical_local f g (Array t k) h = λ i. Array (h t (contains_head t []) i) k
canonical_local f g (Function ps r) h = λ i. Function (map_same f g ps (λ m c. h m (contains_tail r ps m c)) i) (h r (contains_head r ps) i)
canonical_local f g x h = refl

same_number : (a b : ℕ) → eqb a b ≡ true → a ≡ b
same_number a b h = (Decides-eqb a b).0 h

own_number : (a b : ℕ) → a ≡ b → eqb a b ≡ true
own_number a b e = (Decides-eqb a b).1 e

same_sign : (s r : Bool) → same_bool s r ≡ true → s ≡ r
same_sign true true h = refl
same_sign true false h = absurd (true≢false (sym h))
same_sign false true h = absurd (true≢false (sym h))
same_sign false false h = refl

own_sign : (s r : Bool) → s ≡ r → same_bool s r ≡ true
own_sign true true e = refl
own_sign true false e = absurd (true≢false e)
own_sign false true e = absurd (true≢false (sym e))
own_sign false false e = refl

both_true : (a b : Bool) → a ≡ true → b ≡ true → (a && b) ≡ true
both_true a b p q = λ i. p i && q i

-- where types that are the same have one first type, shapes of the same type have one canonical shape
module _ (same : TypeId → TypeId → Bool) (first : TypeId → TypeId) (In : TypeId → Type 0)
    (one : (a b : TypeId) → In a → In b → same a b ≡ true → first a ≡ first b) where
  lists_equal : (ps qs : List TypeId) → ((m : TypeId) → Contains ps m → In m) → ((m : TypeId) → Contains qs m → In m)
      → pointwise same ps qs ≡ true → map first ps ≡ map first qs
  lists_equal [] [] i j h = refl
  lists_equal [] (q ∷ qs) i j h = absurd (true≢false (sym h))
  lists_equal (p ∷ ps) [] i j h = absurd (true≢false (sym h))
  lists_equal (p ∷ ps) (q ∷ qs) i j h =
      let e = one p q (i p (contains_head p ps)) (j q (contains_head q qs)) (first_true (same p q) (pointwise same ps qs) h) in
      let es = lists_equal ps qs (λ m c. i m (contains_tail p ps m c)) (λ m c. j m (contains_tail q qs m c))
      (second_true (same p q) (pointwise same ps qs) h) in
      λ k. e k ∷ es k

  pub shapes_equal : (x y : TypeShape) → ((m : TypeId) → Contains (named_by x) m → In m) → ((m : TypeId) → Contains (named_by y) m → In m)
      → same_shape same x y ≡ true → canonical first x ≡ canonical first y
  shapes_equal Void Void i j h = refl
  shapes_equal (Integer a s) (Integer b r) i j h =
      let e = same_number a b (first_true (eqb a b) (same_bool s r) h) in let f = same_sign s r (second_true (eqb a b) (same_bool s r) h) in
      λ k. Integer (e k) (f k)
  shapes_equal (Pointer n t) (Pointer m u) i j h =
      let e = one t u (i t (contains_head t [])) (j u (contains_head u [])) h in λ k. Pointer (record { 0 = 0 }) (e k)
  shapes_equal (Array t a) (Array u b) i j h =
      let e = same_number a b (first_true (eqb a b) (same t u) h) in
      let f = one t u (i t (contains_head t [])) (j u (contains_head u [])) (second_true (eqb a b) (same t u) h) in
      λ k. Array (f k) (e k)
  shapes_equal (Function ps r) (Function qs q) i j h =
      let e = one r q (i r (contains_head r ps)) (j q (contains_head q qs)) (first_true (same r q) (pointwise same ps qs) h) in
      let es = lists_equal ps qs (λ m c. i m (contains_tail r ps m c)) (λ m c. j m (contains_tail q qs m c))
      (second_true (same r q) (pointwise same ps qs) h) in
      λ k. Function (es k) (e k)
  shapes_equal (Struct a) (Struct b) i j h = ap Struct (same_number a b h)
  shapes_equal (Union a) (Union b) i j h = ap Union (same_number a b h)
  shapes_equal x y i j h = absurd (true≢false (sym h))

-- and the other way round
module _ (same : TypeId → TypeId → Bool) (first : TypeId → TypeId) (In : TypeId → Type 0)
    (told : (a b : TypeId) → In a → In b → first a ≡ first b → same a b ≡ true) where
  lists_told : (ps qs : List TypeId) → ((m : TypeId) → Contains ps m → In m) → ((m : TypeId) → Contains qs m → In m)
      → map first ps ≡ map first qs → pointwise same ps qs ≡ true
  lists_told [] [] i j h = refl
  lists_told [] (q ∷ qs) i j h = cc
  lists_told (p ∷ ps) [] i j h = cc
  lists_told (p ∷ ps) (q ∷ qs) i j h =
      let e : first p ≡ first q = cc in let es : map first ps ≡ map first qs = cc in
      both_true (same p q) (pointwise same ps qs) (told p q (i p (contains_head p ps)) (j q (contains_head q qs)) e)
      (lists_told ps qs (λ m c. i m (contains_tail p ps m c)) (λ m c. j m (contains_tail q qs m c)) es)

  pub shapes_told : (x y : TypeShape) → ((m : TypeId) → Contains (named_by x) m → In m) → ((m : TypeId) → Contains (named_by y) m → In m)
      → canonical first x ≡ canonical first y → same_shape same x y ≡ true
  shapes_told Void Void i j h = refl
  shapes_told (Integer a s) (Integer b r) i j h =
      let e : a ≡ b = cc in let f : s ≡ r = cc in both_true (eqb a b) (same_bool s r) (own_number a b e) (own_sign s r f)
  shapes_told (Pointer n t) (Pointer m u) i j h =
      let e : first t ≡ first u = cc in told t u (i t (contains_head t [])) (j u (contains_head u [])) e
  shapes_told (Array t a) (Array u b) i j h =
      let e : first t ≡ first u = cc in let f : a ≡ b = cc in
      both_true (eqb a b) (same t u) (own_number a b f) (told t u (i t (contains_head t [])) (j u (contains_head u [])) e)
  shapes_told (Function ps r) (Function qs q) i j h =
      let e : first r ≡ first q = cc in let es : map first ps ≡ map first qs = cc in
      both_true (same r q) (pointwise same ps qs) (told r q (i r (contains_head r ps)) (j q (contains_head q qs)) e)
      (lists_told ps qs (λ m c. i m (contains_tail r ps m c)) (λ m c. j m (contains_tail q qs m c)) es)
  shapes_told (Struct a) (Struct b) i j h = let e : a ≡ b = cc in own_number a b e
  shapes_told (Union a) (Union b) i j h = let e : a ≡ b = cc in own_number a b e
  shapes_told x y i j h = cc

-- ---- what is kept of the types tells which are the same

module _ (T : Table) (firsts : List TypeId) (known : List KnownShape) (w : IsWellFormed T) (a : AreFirst T firsts known) where
  one_first : (t u : TypeId) → IsType T t → IsType T u → canonical_at T firsts t ≡ canonical_at T firsts u → first_at firsts t ≡ first_at firsts u
  one_first t u p q e =
      a.unique (canonical_at T firsts u) (first_at firsts t) (first_at firsts u)
      (subst (λ (s : TypeShape). Contains known (s, first_at firsts t)) e (a.each t p)) (a.each u q)

  one_shape : (t u : TypeId) → IsType T t → IsType T u → first_at firsts t ≡ first_at firsts u → canonical_at T firsts t ≡ canonical_at T firsts u
  one_shape t u p q e =
      sym (a.shaped (canonical_at T firsts t) (first_at firsts t) (a.each t p)).1 ∙ ap (canonical_at T firsts) e
      ∙ (a.shaped (canonical_at T firsts u) (first_at firsts u) (a.each u q)).1

  Before : ℕ → TypeId → Type 0
  Before n m = (m.0 < n) × IsType T m

  before : (n : ℕ) (t : TypeId) → t.0 < suc n → (m : TypeId) → Contains (named_by (shape_at T t)) m → Before n m
  unfolding Before
  before n t b m c = let l = w.built t m c in (omega arith, All-contains (IsType T) (named_by (shape_at T t)) m (w.each t).named c)

  equal_before : (n : ℕ) (t u : TypeId) → Before n t → Before n u → is_same_type T t u ≡ true → first_at firsts t ≡ first_at firsts u
  unfolding Before
  equal_before zero t u p q h = absurd (omega (arith, p.0))
  equal_before (suc n) t u p q h =
      one_first t u p.1 q.1
      (shapes_equal (is_same_type T) (first_at firsts) (Before n) (equal_before n) (shape_at T t) (shape_at T u) (before n t p.0) (before n u q.0)
      (sym (same_is T w t u p.1) ∙ h))

  told_before : (n : ℕ) (t u : TypeId) → Before n t → Before n u → first_at firsts t ≡ first_at firsts u → is_same_type T t u ≡ true
  unfolding Before
  told_before zero t u p q h = absurd (omega (arith, p.0))
  told_before (suc n) t u p q h =
      same_is T w t u p.1
      ∙ shapes_told (is_same_type T) (first_at firsts) (Before n) (told_before n) (shape_at T t) (shape_at T u) (before n t p.0) (before n u q.0)
      (one_shape t u p.1 q.1 h)

  one_answer : (x y : Bool) → (x ≡ true → y ≡ true) → (y ≡ true → x ≡ true) → x ≡ y
  one_answer true y h k = sym (h refl)
  one_answer false true h k = k refl
  one_answer false false h k = refl

  -- the first types of two types are equal exactly where the types are the same
  pub firsts_tell : (t u : TypeId) → IsType T t → IsType T u → eqb (first_at firsts t).0 (first_at firsts u).0 ≡ is_same_type T t u
  unfolding Before
  firsts_tell t u p q =
      one_answer (eqb (first_at firsts t).0 (first_at firsts u).0) (is_same_type T t u)
      (λ h. told_before (length T) t u (p, p) (q, q) (ap (λ (n : ℕ). record { 0 = n }) (same_number (first_at firsts t).0 (first_at firsts u).0 h)))
      (λ h. own_number (first_at firsts t).0 (first_at firsts u).0 (ap (λ (m : TypeId). m.0) (equal_before (length T) t u (p, p) (q, q) h)))
