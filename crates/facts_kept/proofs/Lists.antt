-- Lists, and bytes that are zeroed.
use Rattle.std.proofs.Common.{◌≡◌, ◌≢◌, ℕ, zero, suc, ◌+◌, ◌<◌, ◌≤◌, ◌⊎◌, inl, inr, List, [], ◌∷◌, ◌++◌, map, slice_get, slice_set, slice_index, Some, refl, ap, sym, ◌∙◌, ⊎_elim, arith}
use Rattle.flat_mem.specs.Bytes.{number, zeroed}
use Rattle.flat_mem.proofs.ByteLaws.{get-zeroed_inside, get-zeroed_other}
use Rattle.src_mem.specs.Memory.{Object}
use Rattle.src_mem.specs.Outlines.{Outline, Life, outline, life}

pub map-both : {A B : Type 0} (f : A → B) (xs ys : List A) → map f (xs ++ ys) ≡ map f xs ++ map f ys
map-both f [] ys = refl
map-both f (x ∷ xs) ys = ap (λ zs. f x ∷ zs) (map-both f xs ys)

-- an element once another is replaced
pub set-cases : {A : Type 0} (l : List A) (k j : ℕ) (x y z : A) → slice_get l k ≡ Some x → slice_get (slice_set l k y) j ≡ Some z
    → ((j ≡ k) × (z ≡ y)) ⊎ ((j ≢ k) × (slice_get l j ≡ Some z))
set-cases [] k j x y z e f = absurd (cc (e))
set-cases (a ∷ l) zero zero x y z e f = inl (refl, cc (f))
set-cases (a ∷ l) zero (suc j) x y z e f = inr ((λ h. absurd (omega arith)), f)
set-cases (a ∷ l) (suc k) zero x y z e f = inr ((λ h. absurd (omega arith)), f)
set-cases (a ∷ l) (suc k) (suc j) x y z e f =
    ⊎_elim (λ h. inl (ap suc h.0, h.1)) (λ h. inr ((λ i. h.0 (omega arith)), h.1)) (set-cases l k j x y z e f)

-- an object with the same outline, or of the same life, changes no outlines, or no lives
pub outlines-set : (l : List Object) (k : ℕ) (o new : Object) → slice_get l k ≡ Some o → outline new ≡ outline o
    → map outline (slice_set l k new) ≡ map outline l
outlines-set [] k o new e f = refl
outlines-set (a ∷ l) zero o new e f = let d : a ≡ o = cc (e) in ap (λ (x : Outline). x ∷ map outline l) (f ∙ ap outline (sym d))
outlines-set (a ∷ l) (suc k) o new e f = ap (λ (xs : List Outline). outline a ∷ xs) (outlines-set l k o new e f)

pub lives-set : (l : List Object) (k : ℕ) (o new : Object) → slice_get l k ≡ Some o → life new ≡ life o → map life (slice_set l k new) ≡ map life l
lives-set [] k o new e f = refl
lives-set (a ∷ l) zero o new e f = let d : a ≡ o = cc (e) in ap (λ (x : Life). x ∷ map life l) (f ∙ ap life (sym d))
lives-set (a ∷ l) (suc k) o new e f = ap (λ (xs : List Life). life a ∷ xs) (lives-set l k o new e f)

-- Bytes

pub number-zero : (m : ℕ) (l : List ℕ) (p : ℕ) → number m l p ≡ 0 → (i : ℕ) → i < m → slice_index l (p + i) ≡ 0
unfolding number
number-zero zero l p e i h = absurd (omega arith)
number-zero (suc m) l p e zero h = let f : p + 0 ≡ p = omega arith in ap (slice_index l) f ∙ omega arith
number-zero (suc m) l p e (suc i) h =
    let f : p + suc i ≡ p + 1 + i = omega arith in
    let z : number m l (p + 1) ≡ 0 = omega arith in
    ap (slice_index l) f ∙ number-zero m l (p + 1) z i (omega arith)

pub get-zeroed_either : (n : ℕ) (bytes : List ℕ) (a i : ℕ)
    → (slice_index (zeroed n bytes a) i ≡ 0) ⊎ (slice_index (zeroed n bytes a) i ≡ slice_index bytes i)
get-zeroed_either n bytes a i = ⊎_elim (λ h. inl (get-zeroed_inside n bytes a i h.0 h.1)) (λ h. inr (get-zeroed_other n bytes a i h)) (cases a n i)
  where
    cases : (a n i : ℕ) → ((a ≤ i) × (i < a + n)) ⊎ ((i < a) ⊎ (a + n ≤ i))
    cases a n i = grind arith
