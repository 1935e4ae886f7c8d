-- What a type covers: of two types that it covers the longer one covers the other.
use Rattle.std.proofs.Common.{◌≡◌, ℕ, zero, suc, ◌≤◌, Bool, true, false, not, ◌&&◌, if◌then◌else◌, List, [], ◌∷◌, length, take, nat_lt, Some, refl, ap, sym, subst, ◌∙◌, true≢false, arith}
use Rattle.std.proofs.lemmas.Bool.Decides.{nat_tests}
use lib.Pointwise.{pointwise_long}
use Rattle.cc_base.specs.declared.number.TypeId.{TypeId}
use Rattle.cc_base.specs.declared.number.NodeId.{NodeId}
use Rattle.cc_base.specs.declared.kind.Kind.{Kind}
use Rattle.c_types.specs.Table.{Table, IsType, shape_at, is_function}
use Rattle.c_types.specs.Cells.{Cell, same_type, alike, all_alike, begins}
use Rattle.c_types.specs.Equality.{bytes, makeup_of, same_makeup, made_alike, physically_equal, cells_of, begins_with}
use Rattle.c_types.specs.Flows.{HeldPointer, StandAlike, Correspond, top, inside, IsOfOneClass, Covers}
use Rattle.c_types.specs.Sound.{IsWellFormed}
use Rattle.c_types.proofs.Shapes.{first_true, second_true}
use Rattle.type_laws.proofs.Relations.{equal_equiv, cells_equiv}
use Rattle.type_laws.proofs.Levels.{still}
use Rattle.type_laws.proofs.OneClass.{data-makeup}
use Rattle.type_laws.proofs.Pointers.{class_turned, class_twice, covers_own, covers_twice}
use Rattle.phys_types.proofs.LawLemmas.{facts_of_cover, facts_of_class, covers_class}

not_true : (b : Bool) → not b ≡ true → b ≡ false
not_true true h = absurd (true≢false (sym h))
not_true false h = refl

-- the parts of the test
pub begun : (table : Table) (t u : TypeId) → begins_with table t u ≡ true
    → (is_function table t ≡ false) × (is_function table u ≡ false) × (begins (physically_equal table) (cells_of table t) (cells_of table u) ≡ true)
begun table t u h =
    let rest = second_true (not (is_function table t)) _ h in (
      not_true (is_function table t) (first_true (not (is_function table t)) _ h),
      not_true (is_function table u) (first_true (not (is_function table u)) _ rest),
      second_true (not (is_function table u)) _ rest,
    )

taken_length : {A : Type 0} (n : ℕ) (xs : List A) → length (take n xs) ≤ length xs
taken_length zero xs = omega arith
taken_length (suc n) [] = omega arith
taken_length (suc n) (x ∷ xs) = let h = taken_length n xs in omega arith

take_all : {A : Type 0} (n : ℕ) (xs : List A) → length xs ≡ n → take n xs ≡ xs
take_all zero [] h = refl
take_all zero (x ∷ xs) h = absurd (omega arith)
take_all (suc n) [] h = refl
take_all (suc n) (x ∷ xs) h = ap (λ l. x ∷ l) (take_all n xs (omega arith))

take_fewer : {A : Type 0} (xs : List A) (m n : ℕ) → m ≤ n → take m (take n xs) ≡ take m xs
take_fewer xs zero n h = refl
take_fewer xs (suc m) zero h = absurd (omega arith)
take_fewer [] (suc m) (suc n) h = refl
take_fewer (x ∷ xs) (suc m) (suc n) h = ap (λ l. x ∷ l) (take_fewer xs m n (omega arith))

module _ (table : Table) (w : IsWellFormed table) (kind : NodeId → Kind) where
  take_alike : (n : ℕ) (xs ys : List Cell) → all_alike (physically_equal table) xs ys ≡ true → all_alike (physically_equal table) (take n xs) (take n ys) ≡ true
  take_alike zero xs ys h = refl
  take_alike (suc n) [] [] h = refl
  take_alike (suc n) (x ∷ xs) (y ∷ ys) h =
      λ i. first_true (alike (physically_equal table) x y) _ h i && take_alike n xs ys (second_true (alike (physically_equal table) x y) _ h) i
  take_alike (suc n) [] (y ∷ ys) h = absurd (true≢false (sym h))
  take_alike (suc n) (x ∷ xs) [] h = absurd (true≢false (sym h))

  -- what a type begins with is no longer than it
  pub no_longer : (t u : TypeId) → begins_with table t u ≡ true → length (cells_of table u) ≤ length (cells_of table t)
  no_longer t u h =
      let b = (begun table t u h).2 in
      let l = taken_length (length (cells_of table u)) (cells_of table t) in
      let e = pointwise_long (alike (physically_equal table)) (take (length (cells_of table u)) (cells_of table t)) (cells_of table u) b in omega arith

  -- of two prefixes of a type the longer begins with the other
  between_prefixes : (xs ys zs : List Cell) → length zs ≤ length ys → begins (physically_equal table) xs ys ≡ true → begins (physically_equal table) xs zs ≡ true
      → begins (physically_equal table) ys zs ≡ true
  between_prefixes xs ys zs l h k =
      let a : all_alike (physically_equal table) (take (length zs) xs) (take (length zs) ys) ≡ true =
      ap (λ v. all_alike (physically_equal table) v (take (length zs) ys)) (sym (take_fewer xs (length zs) (length ys) l)) ∙ take_alike (length zs) (take (length ys) xs) ys h in
      sym ((cells_equiv (equal_equiv table)).congr (take (length zs) xs) (take (length zs) ys) zs a) ∙ k

  pub begins_between : (t u v : TypeId) → length (cells_of table v) ≤ length (cells_of table u) → begins_with table t u ≡ true → begins_with table t v ≡ true
      → begins_with table u v ≡ true
  begins_between t u v l h k =
      let a = begun table t u h in let b = begun table t v k in
      λ i. not (a.1 i) && (not (b.1 i) && between_prefixes (cells_of table t) (cells_of table u) (cells_of table v) l a.2 b.2 i)

  -- pointers at the same places of two types that a third covers
  abbrev Between : HeldPointer → HeldPointer → Type 0
  Between p q = (kind p.node ≡ kind q.node) × IsOfOneClass table kind p.to q.to

  some_same : (p q : HeldPointer) → Some p ≡ Some q → p ≡ q
  some_same p q h = cc

  meet : (t u v : TypeId) (p q r s : HeldPointer) → Some r ≡ Some s → (kind r.node ≡ kind p.node) × IsOfOneClass table kind r.to p.to
      → (kind s.node ≡ kind q.node) × IsOfOneClass table kind s.to q.to → Between p q
  meet t u v p q r s e a b =
      let f : r ≡ s = some_same r s e in (
        sym a.0 ∙ ap (λ (z : HeldPointer). kind z.node) f ∙ b.0,
        class_twice table kind w p.to r.to q.to (class_turned table kind r.to p.to a.1) (subst (λ (z : HeldPointer). IsOfOneClass table kind z.to q.to) (sym f) b.1),
      )

  covered_pointers : (t u v : TypeId) → Covers table kind t u → Covers table kind t v → (p q : HeldPointer) → Correspond table (StandAlike table u v) p q → Between p q
  covered_pointers t u v c d p q (top a b (i, x, y)) =
      let m = facts_of_cover table kind t u i p w c x in let n = facts_of_cover table kind t v i q w d y in
      meet t u v p q m.0 n.0 (sym m.1 ∙ n.1) (m.2, m.3) (n.2, n.3)
  covered_pointers t u v c d p q (inside a b e f h (i, x, y)) =
      let k = covered_pointers t u v c d a b h in
      let m = facts_of_class table kind a.to b.to i q w k.1 y in
      let g : m.0 ≡ p = some_same m.0 p (sym m.1 ∙ x) in
      (sym (ap (λ (z : HeldPointer). kind z.node) g) ∙ m.2, subst (λ (z : HeldPointer). IsOfOneClass table kind z.to q.to) g m.3)

  pub covers_between : (t u v : TypeId) → length (cells_of table v) ≤ length (cells_of table u) → Covers table kind t u → Covers table kind t v → Covers table kind u v
  covers_between t u v l c d = record {
    begins = begins_between t u v l c.begins d.begins;
    kinds = λ p q h. (covered_pointers t u v c d p q h).0;
  }

  -- what is as long as a type that it begins with is equal to it
  pub equal_if_long : (t u : TypeId) → IsType table t → IsType table u → length (cells_of table t) ≡ length (cells_of table u) → begins_with table t u ≡ true
      → physically_equal table t u ≡ true
  equal_if_long t u a b l h =
      let p = begun table t u h in
      let x : nat_lt t.0 (length table) ≡ true = grind (arith, nat_tests) in
      let y : nat_lt u.0 (length table) ≡ true = grind (arith, nat_tests) in
      ap (λ E. E t u) (still table w) ∙ (λ i. if x i && y i then made_alike table (physically_equal table) t u else same_type t u)
      ∙ ap (λ m. same_makeup (physically_equal table) m (makeup_of table (physically_equal table) u (shape_at table u))) (data-makeup table (physically_equal table) t (shape_at table t) p.0)
      ∙ ap (same_makeup (physically_equal table) (bytes (cells_of table t))) (data-makeup table (physically_equal table) u (shape_at table u) p.1)
      ∙ sym (ap (λ xs. all_alike (physically_equal table) xs (cells_of table u)) (take_all (length (cells_of table u)) (cells_of table t) l)) ∙ p.2

  pub class_covers : (t u : TypeId) → is_function table t ≡ false → IsOfOneClass table kind t u → Covers table kind t u
  class_covers t u f c = covers_class table kind t t u w (covers_own table kind t f) c

  pub class_if_long : (t u : TypeId) → IsType table t → IsType table u → length (cells_of table t) ≤ length (cells_of table u) → Covers table kind t u → IsOfOneClass table kind t u
  class_if_long t u a b l c = let k = no_longer t u c.begins in record { equal = equal_if_long t u a b (omega arith) c.begins; kinds = c.kinds }

  -- coverage goes along the classes of both
  pub covers_along : (t t' u u' : TypeId) → is_function table t' ≡ false → IsOfOneClass table kind t t' → IsOfOneClass table kind u u' → Covers table kind t u → Covers table kind t' u'
  covers_along t t' u u' f a b c =
      covers_class table kind t' u u' w (covers_twice table kind w t' t u (class_covers t' t f (class_turned table kind t t' a)) c) b

  -- two types of one length that aren't equal don't begin with one another
  pub other_of_length : (t u : TypeId) → IsType table t → IsType table u → length (cells_of table t) ≡ length (cells_of table u) → (b : Bool) → b ≡ physically_equal table t u → b ≡ false
      → false ≡ begins_with table t u
  other_of_length t u a c l b e f = by (begins_with table t u) refl
    where
      by : (r : Bool) → begins_with table t u ≡ r → false ≡ begins_with table t u
      by true h = absurd (true≢false (sym (equal_if_long t u a c l h) ∙ sym e ∙ f))
      by false h = sym h
