-- Objects by their outlines and lives.
use Rattle.std.proofs.Common.{◌≡◌, ℕ, zero, suc, ◌≤◌, true, List, [], ◌∷◌, map, slice_get, Some, refl, ap, ◌∙◌, arith}
use Rattle.src_mem.specs.Memory.{Object, Memory}
use Rattle.src_mem.specs.Outlines.{Outline, Life, outline, life, outlines_of, lives_of, LivesAt}

-- an element of a mapped list, and what it was mapped from
pub mapped-from : {A B : Type 0} (f : A → B) (xs : List A) (k : ℕ) (y : B) → slice_get (map f xs) k ≡ Some y → (x : A) × (slice_get xs k ≡ Some x) × (f x ≡ y)
mapped-from f [] k y e = absurd (cc (e))
mapped-from f (x ∷ xs) zero y e = (x, refl, cc (e))
mapped-from f (x ∷ xs) (suc k) y e = mapped-from f xs k y e

pub get-mapped : {A B : Type 0} (f : A → B) (xs : List A) (k : ℕ) (x : A) → slice_get xs k ≡ Some x → slice_get (map f xs) k ≡ Some (f x)
get-mapped f [] k x e = absurd (cc (e))
get-mapped f (a ∷ xs) zero x e = let g : a ≡ x = cc (e) in ap (λ b. Some (f b)) g
get-mapped f (a ∷ xs) (suc k) x e = get-mapped f xs k x e

-- the living object that has an outline
pub record HasOutline (memory : Memory) (depth n : ℕ) (x : Outline) : Type 0 where
  pub object : Object
  pub found : slice_get memory.objects n ≡ Some object
  pub is : outline object ≡ x
  pub live : object.live ≡ true
  pub older : object.depth ≤ depth

pub has-outline : (memory : Memory) (depth n : ℕ) (x : Outline) → slice_get (outlines_of memory) n ≡ Some x → LivesAt (lives_of memory) depth n → HasOutline memory depth n x
has-outline memory depth n x e lives =
    let o = mapped-from outline memory.objects n x e in
    let y = mapped-from life memory.objects n lives.life lives.found in
    let same : o.0 ≡ y.0 = (let a = o.1 in let b = y.1 in cc (a, b)) in
    let alike : life o.0 ≡ lives.life = ap life same ∙ y.2 in record {
      object = o.0;
      found = o.1;
      is = o.2;
      live = ap (λ (z : Life). z.live) alike ∙ lives.live;
      older = let d : o.0.depth ≡ lives.life.depth = ap (λ (z : Life). z.depth) alike in let h = lives.older in omega (arith, d, h);
    }
