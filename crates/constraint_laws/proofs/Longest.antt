-- The longest list is that of the first member of which none is longer.
use Rattle.std.proofs.Common.{◌≡◌, ℕ, zero, suc, ◌<◌, Bool, true, false, List, [], ◌∷◌, map, length, slice_get, Some, nat_lt, refl, ap, sym, ◌∙◌, arith, if◌then◌else◌}
use Rattle.std.specs.Prelude.{IsTrue, IsFalse}
use Rattle.std.specs.List.{list_all}
use Rattle.std.proofs.lemmas.Bool.Decides.{nat_tests}
use Rattle.cc_base.specs.declared.number.TypeId.{TypeId}
use Rattle.c_types.specs.Cells.{Cell, longest}
use Rattle.c_types.proofs.Shapes.{first_true, second_true}

pub record Largest (f : TypeId → List Cell) (ms : List TypeId) : Type 0 where
  pub member : TypeId
  pub place : ℕ
  pub found : slice_get ms place ≡ Some member
  pub is : longest (map f ms) ≡ f member
  pub before : (i : ℕ) (u : TypeId) → slice_get ms i ≡ Some u → IsTrue (nat_lt i place) → IsTrue (nat_lt (length (f u)) (length (f member)))
  pub after : (i : ℕ) (u : TypeId) → slice_get ms i ≡ Some u → IsFalse (nat_lt (length (f member)) (length (f u)))

pub largest : (f : TypeId → List Cell) (m : TypeId) (ms : List TypeId) → Largest f (m ∷ ms)
largest f m [] = by (nat_lt (length (f m)) 0) refl
  where
    by : (b : Bool) → nat_lt (length (f m)) 0 ≡ b → Largest f (m ∷ [])
    by true e = absurd (let h : length (f m) < 0 = grind (arith, nat_tests) in omega (arith, h))
    by false e = record {
      member = m;
      place = 0;
      found = refl;
      is = ap (λ b. if b then [] else f m) e;
      before = λ i u g h. absurd (none i h);
      after = λ i u g. last i u g;
    }
      where
        none : (i : ℕ) → nat_lt i 0 ≡ true → Prim.⊥
        none i h = grind (arith, nat_tests)

        own : (n : ℕ) → nat_lt n n ≡ false
        own n = grind (arith, nat_tests)

        last : (i : ℕ) (u : TypeId) → slice_get (m ∷ []) i ≡ Some u → nat_lt (length (f m)) (length (f u)) ≡ false
        last zero u g = let h : m ≡ u = cc (g) in ap (λ x. nat_lt (length (f m)) (length (f x))) (sym h) ∙ own (length (f m))
        last (suc i) u g = absurd (cc (g))
largest f m (x ∷ ms) = by (nat_lt (length (f m)) (length (longest (map f (x ∷ ms))))) refl (largest f x ms)
  where
    by : (b : Bool) → nat_lt (length (f m)) (length (longest (map f (x ∷ ms)))) ≡ b → Largest f (x ∷ ms) → Largest f (m ∷ x ∷ ms)
    by true e r = record {
      member = r.member;
      place = suc r.place;
      found = r.found;
      is = ap (λ b. if b then longest (map f (x ∷ ms)) else f m) e ∙ r.is;
      before = λ i u g h. before i u g h;
      after = λ i u g. after i u g;
    }
      where
        more : nat_lt (length (f m)) (length (f r.member)) ≡ true
        more = ap (λ l. nat_lt (length (f m)) (length l)) (sym r.is) ∙ e

        down : (i k : ℕ) → nat_lt (suc i) (suc k) ≡ true → nat_lt i k ≡ true
        down i k h = grind (arith, nat_tests)

        back : (a b : ℕ) → nat_lt a b ≡ true → nat_lt b a ≡ false
        back a b h = grind (arith, nat_tests)

        before : (i : ℕ) (u : TypeId) → slice_get (m ∷ x ∷ ms) i ≡ Some u → nat_lt i (suc r.place) ≡ true → nat_lt (length (f u)) (length (f r.member)) ≡ true
        before zero u g h = let k : m ≡ u = cc (g) in ap (λ y. nat_lt (length (f y)) (length (f r.member))) (sym k) ∙ more
        before (suc i) u g h = r.before i u g (down i r.place h)

        after : (i : ℕ) (u : TypeId) → slice_get (m ∷ x ∷ ms) i ≡ Some u → nat_lt (length (f r.member)) (length (f u)) ≡ false
        after zero u g = let k : m ≡ u = cc (g) in ap (λ y. nat_lt (length (f r.member)) (length (f y))) (sym k) ∙ back (length (f m)) (length (f r.member)) more
        after (suc i) u g = r.after i u g
    by false e r = record {
      member = m;
      place = 0;
      found = refl;
      is = ap (λ b. if b then longest (map f (x ∷ ms)) else f m) e;
      before = λ i u g h. absurd (none i h);
      after = λ i u g. after i u g;
    }
      where
        none : (i : ℕ) → nat_lt i 0 ≡ true → Prim.⊥
        none i h = grind (arith, nat_tests)

        own : (n : ℕ) → nat_lt n n ≡ false
        own n = grind (arith, nat_tests)

        less : nat_lt (length (f m)) (length (f r.member)) ≡ false
        less = ap (λ l. nat_lt (length (f m)) (length l)) (sym r.is) ∙ e

        through : (a b c : ℕ) → nat_lt a b ≡ false → nat_lt b c ≡ false → nat_lt a c ≡ false
        through a b c h k = grind (arith, nat_tests)

        after : (i : ℕ) (u : TypeId) → slice_get (m ∷ x ∷ ms) i ≡ Some u → nat_lt (length (f m)) (length (f u)) ≡ false
        after zero u g = let k : m ≡ u = cc (g) in ap (λ y. nat_lt (length (f m)) (length (f y))) (sym k) ∙ own (length (f m))
        after (suc i) u g = through (length (f m)) (length (f r.member)) (length (f u)) less (r.after i u g)

pub all-of : (p : List Cell → Bool) (f : TypeId → List Cell) (ms : List TypeId) → list_all p (map f ms) ≡ true → (i : ℕ) (u : TypeId) → slice_get ms i ≡ Some u → p (f u) ≡ true
all-of p f [] h i u e = absurd (cc (e))
all-of p f (m ∷ ms) h zero u e = let g : m ≡ u = cc (e) in ap (λ x. p (f x)) (sym g) ∙ first_true (p (f m)) (list_all p (map f ms)) h
all-of p f (m ∷ ms) h (suc i) u e = all-of p f ms (second_true (p (f m)) (list_all p (map f ms)) h) i u e
