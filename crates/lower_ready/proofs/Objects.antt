-- The objects of a ready unit have homes of their own, and numbers.
use Rattle.std.specs.Prelude.{eqb}
use Rattle.std.specs.List.{All, AllByRecursion, Contains, IsDistinct, list_any, position, position_or_len}
use Rattle.std.proofs.Common.{◌≡◌, ◌⊎◌, ℕ, suc, ◌<◌, ◌≤◌, ◌+◌, ◌==◌, ◌||◌, nat_eq, nat_lt, cond, not, Bool, true, false, List, [], ◌∷◌, ◌++◌, map, flat_map, length, Option, Some, None, inl, inr, refl, ap, sym, subst, ◌∙◌, arith}
use Rattle.std.proofs.lemmas.Bool.Decides.{nat_tests}
use Rattle.std.proofs.lemmas.List.Elements.{All-head, All-tail}
use Rattle.std.proofs.lemmas.Map.Steps.{length-le_from_distinct_below}
use Rattle.cc_base.specs.declared.number.NodeId.{NodeId}
use Rattle.src_machine.specs.World.{same_node}
use Rattle.cil_form.specs.declared.number.Object.TheVariants as object
use Rattle.lower_rules.specs.Words.{Context, object_by}
use Rattle.lower_exprs.specs.Ready.{HasObject}
use Rattle.lower_shape.proofs.Addresses.{In}

-- Positions

self : (n : NodeId) → same_node n n ≡ true
self n = same n.0
  where
    same : (a : ℕ) → (a == a) ≡ true
    same a = grind (arith, nat_tests)

abbrev place : NodeId → List NodeId → ℕ
place h keys = position_or_len (same_node h) keys

below-lt : (n t : ℕ) → n < t → nat_lt n t ≡ true
below-lt n t q = grind (arith, nat_tests, q)

lt-below : (n t : ℕ) → nat_lt n t ≡ true → n < t
lt-below n t q = grind (arith, nat_tests, q)

here-step : (h x : NodeId) (keys : List NodeId) (b : Bool) → place h keys < length keys → cond (not b) (1 + place h keys) 0 < suc (length keys)
here-step h x keys true l = omega arith
here-step h x keys false l = omega (arith, l)

here : (h : NodeId) (keys : List NodeId) → In h keys → place h keys < length keys
here h [] q = absurd q
here h (x ∷ keys) (inl q) =
    subst (λ b. cond (not b) (1 + place h keys) 0 < suc (length keys)) (sym (subst (λ (z : NodeId). same_node h z ≡ true) q (self h))) (omega arith)
here h (x ∷ keys) (inr q) = here-step h x keys (same_node h x) (here h keys q)

-- the position of what is there
found : (h : NodeId) (keys : List NodeId) → In h keys → position (same_node h) keys ≡ Some (place h keys)
found h keys q = ap (λ b. cond b (Some (place h keys)) None) (below-lt (place h keys) (length keys) (here h keys q))

within : (h : NodeId) (keys : List NodeId) (i : ℕ) → position (same_node h) keys ≡ Some i → i < length keys
within h keys i e = by (nat_lt (place h keys) (length keys)) refl e
  where
    same : (a c : ℕ) → Some a ≡ Some c → a ≡ c
    same a c g = cc

    by : (b : Bool) → nat_lt (place h keys) (length keys) ≡ b → cond b (Some (place h keys)) None ≡ Some i → i < length keys
    by true g r = subst (λ n. n < length keys) (same (place h keys) i r) (lt-below (place h keys) (length keys) g)
    by false g r = absurd (cc (r))

-- what is among the variables or the static objects has a number
pub numbered : (k : Context) (h : NodeId) → length k.variables < 4294967296 → length k.statics < 4294967296
    → In h k.variables ⊎ In h k.statics → HasObject k h
numbered k h vs ss there = by (position (same_node h) k.variables) refl there
  where
    none : (i : ℕ) → None ≡ Some i → ⊥
    none i e = absurd (cc (e))

    by : (o : Option ℕ) → position (same_node h) k.variables ≡ o → In h k.variables ⊎ In h k.statics → HasObject k h
    by (Some i) e q = (
      object.Variable (record { 0 = i }),
      ap (λ z. object_by z (position (same_node h) k.statics)) e,
      omega (arith, vs, within h k.variables i e),
    )
    by None e (inl q) = absurd (none (place h k.variables) (sym e ∙ found h k.variables q))
    by None e (inr q) = (
      object.Static (record { 0 = place h k.statics }),
      ap (λ z. object_by z (position (same_node h) k.statics)) e ∙ ap (λ z. object_by None z) (found h k.statics q),
      omega (arith, ss, here h k.statics q),
    )

-- Numbers that are apart

front : (P : ℕ → Type 0) (xs ys : List ℕ) → AllByRecursion P (xs ++ ys) → AllByRecursion P xs
front P [] ys h = tt
front P (x ∷ xs) ys h = (h.0, front P xs ys h.1)

pub apart-left : (xs ys : List ℕ) → IsDistinct nat_eq (xs ++ ys) → IsDistinct nat_eq xs
unfolding IsDistinct
apart-left [] ys d = tt
apart-left (x ∷ xs) ys d = (front (λ m. nat_eq x m ≡ false) xs ys d.0, apart-left xs ys d.1)

pub apart-right : (xs ys : List ℕ) → IsDistinct nat_eq (xs ++ ys) → IsDistinct nat_eq ys
unfolding IsDistinct
apart-right [] ys d = d
apart-right (x ∷ xs) ys d = apart-right xs ys d.1

-- those of one among others
pub apart-in : {A : Type 0} (f : A → List ℕ) (xs : List A) (x : A) → In x xs → IsDistinct nat_eq (flat_map f xs) → IsDistinct nat_eq (f x)
apart-in f [] x q d = absurd q
apart-in f (y ∷ ys) x (inl e) d = subst (λ z. IsDistinct nat_eq (f z)) (sym e) (apart-left (f y) (flat_map f ys) d)
apart-in f (y ∷ ys) x (inr q) d = apart-in f ys x q (apart-right (f y) (flat_map f ys) d)

apart-one : (h : NodeId) (homes : List NodeId) → AllByRecursion (λ m. nat_eq h.0 m ≡ false) (map (λ (n : NodeId). n.0) homes)
    → AllByRecursion (λ n. same_node h n ≡ false) homes
apart-one h [] q = tt
apart-one h (n ∷ homes) q = (q.0, apart-one h homes q.1)

-- homes whose numbers are apart
pub apart-homes : (homes : List NodeId) → IsDistinct nat_eq (map (λ (n : NodeId). n.0) homes) → IsDistinct same_node homes
unfolding IsDistinct
apart-homes [] d = tt
apart-homes (h ∷ homes) d = (apart-one h homes d.0, apart-homes homes d.1)

others : (x : ℕ) (xs : List ℕ) → AllByRecursion (λ m. nat_eq x m ≡ false) xs → AllByRecursion (λ m. eqb x m ≡ false) xs
others x [] h = tt
others x (y ∷ ys) h = (same x y h.0, others x ys h.1)
  where
    same : (a c : ℕ) → nat_eq a c ≡ false → eqb a c ≡ false
    same a c g = grind (arith, nat_tests)

told : (xs : List ℕ) → IsDistinct nat_eq xs → IsDistinct eqb xs
unfolding IsDistinct
told [] d = tt
told (x ∷ xs) d = (others x xs d.0, told xs d.1)

any-below : (q n : ℕ) (xs : List ℕ) → All (λ m. m < n) xs → list_any (eqb q) xs ≡ true → q < n
any-below q n [] h e = absurd (cc (e))
any-below q n (x ∷ xs) h e = by (λ r. any-below q n xs (All-tail (λ m. m < n) x xs h) r) (eqb q x) refl e
  where
    same : (a c : ℕ) → eqb a c ≡ true → a ≡ c
    same a c g = grind (arith, nat_tests)

    by : (list_any (eqb q) xs ≡ true → q < n) → (b : Bool) → eqb q x ≡ b → (b || list_any (eqb q) xs) ≡ true → q < n
    by more true g r = subst (λ m. m < n) (sym (same q x g)) (All-head (λ m. m < n) x xs h)
    by more false g r = more r

-- numbers below n that are apart are n at most
pub few : (xs : List ℕ) (n : ℕ) → IsDistinct nat_eq xs → All (λ m. m < n) xs → length xs ≤ n
few xs n d h = length-le_from_distinct_below xs n (told xs d) (λ q e. any-below q n xs h e)
