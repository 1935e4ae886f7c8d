-- Stairs: how far a pointer that moves over elements of one width moves once each byte has its own.
use Rattle.std.proofs.Common.{ℕ, ℤ, pos, negsuc, zero, suc, ◌+◌, ◌-◌, ◌*◌, ◌/◌, ◌%◌, ◌<◌, ◌≤◌, ◌⊎◌, ◌≡◌, ◌+ℤ◌, ◌-ℤ◌, ◌<ℤ◌, ◌≤ℤ◌, Bool, true, false, not, ◌&&◌, refl, ap, sym, subst, ◌∙◌, ⊎_elim, arith}
use Rattle.std.specs.Prelude.{int_lt, int_le, ◌*ℤ◌}
use Rattle.std.proofs.lemmas.Bool.Decides.{nat_tests}
use Rattle.std.proofs.lemmas.Int.{ints}
use Rattle.std.proofs.lemmas.Nat.{div-add-mod', div-mul-add, mod-mul-add}
use Rattle.std.proofs.Math.Nat.{mod-lt, mul-le-mul_left}
use Rattle.integers.specs.Words.{residue}
use Rattle.c_types.specs.Widths.{stair}

pub int_lt-true : (x y : ℤ) → x <ℤ y → int_lt x y ≡ true
int_lt-true x y h = grind (arith, ints)

pub record IsStair (f : ℕ → ℕ) (n m : ℕ) : Type 0 where
  pub some : 0 < n
  pub first : f 0 ≡ 0
  pub below : (r : ℕ) → r < n → f r < m

pub stair-pos : (f : ℕ → ℕ) (n m d : ℕ) → stair f n m (pos d) ≡ pos (d / n * m + f (d % n))
stair-pos f n m d = refl

pub stair-negsuc : (f : ℕ → ℕ) (n m d : ℕ) → stair f n m (negsuc d) ≡ pos (f (n - 1 - d % n)) -ℤ pos (suc (d / n) * m)
stair-negsuc f n m d = omega (arith, ints)

-- a quotient and a remainder of an integer
pub record Splits (n : ℕ) (z : ℤ) : Type 0 where
  pub q : ℤ
  pub r : ℕ
  pub below : r < n
  pub is : z ≡ q *ℤ pos n +ℤ pos r

pub splits : (n : ℕ) (z : ℤ) → 0 < n → Splits n z
splits n (pos d) h = record { q = pos (d / n); r = d % n; below = mod-lt d h; is = (let e : d / n * n + d % n ≡ d = div-add-mod' d n in omega (arith, ints)) }
splits n (negsuc d) h = record {
  q = negsuc (d / n);
  r = n - 1 - d % n;
  below = omega arith;
  is = (let e : d / n * n + d % n ≡ d = div-add-mod' d n in let g : d % n < n = mod-lt d h in omega (arith, ints));
}

pub stair-is : (f : ℕ → ℕ) (n m : ℕ) (q : ℤ) (r : ℕ) → r < n → stair f n m (q *ℤ pos n +ℤ pos r) ≡ q *ℤ pos m +ℤ pos (f r)
stair-is f n m (pos a) r h =
    ap (λ (k : ℕ). pos (k * m + f ((a * n + r) % n))) (div-mul-add a n r h) ∙ ap (λ (k : ℕ). pos (a * m + f k)) (mod-mul-add a n r h)
stair-is f n m (negsuc a) r h =
    ap (stair f n m) same
    ∙ ap (λ (k : ℕ). negsuc k *ℤ pos m +ℤ pos (f (n - 1 - (a * n + (n - 1 - r)) % n))) (div-mul-add a n (n - 1 - r) (omega arith))
    ∙ ap (λ (k : ℕ). negsuc a *ℤ pos m +ℤ pos (f (n - 1 - k))) (mod-mul-add a n (n - 1 - r) (omega arith))
    ∙ ap (λ (k : ℕ). negsuc a *ℤ pos m +ℤ pos (f k)) (omega arith)
  where
    same : negsuc a *ℤ pos n +ℤ pos r ≡ negsuc (a * n + (n - 1 - r))
    same = omega (arith, ints)

pub stair-sign : (f : ℕ → ℕ) (n m : ℕ) → IsStair f n m → (z : ℤ) → int_lt (stair f n m z) (pos 0) ≡ int_lt z (pos 0)
stair-sign f n m s (pos d) = grind (arith, nat_tests)
stair-sign f n m s (negsuc d) = int_lt-true (stair f n m (negsuc d)) (pos 0) (let e = stair-negsuc f n m d in let b : f (n - 1 - d % n) < m = s.below (n - 1 - d % n) (let p = s.some in omega arith) in omega (arith, ints))

pub up_one : (q : ℤ) (n r : ℕ) → (q *ℤ pos n +ℤ pos r) +ℤ pos n ≡ (q +ℤ pos 1) *ℤ pos n +ℤ pos r
up_one (pos a) n r = omega (arith, ints)
up_one (negsuc zero) n r = omega (arith, ints)
up_one (negsuc (suc a)) n r =
    let here : (negsuc (suc a) *ℤ pos n +ℤ pos r) +ℤ pos n ≡ negsuc a *ℤ pos n +ℤ pos r = omega (arith, ints) in
    let e : negsuc a ≡ negsuc (suc a) +ℤ pos 1 = omega (arith, ints) in here ∙ ap (λ (z : ℤ). z *ℤ pos n +ℤ pos r) e

pub stair-step : (f : ℕ → ℕ) (n m : ℕ) → 0 < n → (z : ℤ) → stair f n m (z +ℤ pos n) ≡ stair f n m z +ℤ pos m
stair-step f n m h z = of (splits n z h)
  where
    of : Splits n z → stair f n m (z +ℤ pos n) ≡ stair f n m z +ℤ pos m
    of x =
        ap (λ (y : ℤ). stair f n m (y +ℤ pos n)) x.is
        ∙ ap (stair f n m) (up_one x.q n x.r)
        ∙ stair-is f n m (x.q +ℤ pos 1) x.r x.below
        ∙ sym (up_one x.q m (f x.r))
        ∙ ap (λ (y : ℤ). y +ℤ pos m) (sym (stair-is f n m x.q x.r x.below))
        ∙ ap (λ (y : ℤ). stair f n m y +ℤ pos m) (sym x.is)

pub not-less : (x y : ℤ) → not (int_lt x y) ≡ int_le y x
not-less x y = grind (arith, ints)

pub le-true : (x y : ℤ) → x ≤ℤ y → int_le x y ≡ true
le-true x y h = grind (arith, ints)

pub le-false : (x y : ℤ) → y <ℤ x → int_le x y ≡ false
le-false x y h = grind (arith, ints)

le_or_lt : (x y : ℤ) → (x ≤ℤ y) ⊎ (y <ℤ x)
le_or_lt x y = grind (arith, ints)

pub same_le : (x y a b : ℤ) → (x ≤ℤ y → a ≤ℤ b) → (y <ℤ x → b <ℤ a) → int_le x y ≡ int_le a b
same_le x y a b f g = ⊎_elim (λ h. le-true x y h ∙ sym (le-true a b (f h))) (λ h. le-false x y h ∙ sym (le-false a b (g h))) (le_or_lt x y)

-- the steps of a stair
pub record HasSteps (f u : ℕ → ℕ) (n : ℕ) : Type 0 where
  pub some : 0 < n
  pub first : f 0 ≡ 0
  pub next : (r : ℕ) → r < n → f (suc r) ≡ f r + u r

pub residue-is : (n : ℕ) (q : ℤ) (r : ℕ) → r < n → residue (q *ℤ pos n +ℤ pos r) n ≡ r
residue-is n (pos a) r h = mod-mul-add a n r h
residue-is n (negsuc a) r h =
    let same : negsuc a *ℤ pos n +ℤ pos r ≡ negsuc (a * n + (n - 1 - r)) = omega (arith, ints) in
    ap (λ (z : ℤ). residue z n) same ∙ ap (λ (k : ℕ). n - 1 - k) (mod-mul-add a n (n - 1 - r) (omega arith)) ∙ omega arith

pub stair-suc : (f u : ℕ → ℕ) (n : ℕ) → HasSteps f u n → (z : ℤ) → stair f n (f n) (z +ℤ pos 1) ≡ stair f n (f n) z +ℤ pos (u (residue z n))
stair-suc f u n s z = of (splits n z s.some)
  where
    of : Splits n z → stair f n (f n) (z +ℤ pos 1) ≡ stair f n (f n) z +ℤ pos (u (residue z n))
    of x = ⊎_elim inside last (case (suc x.r) n (let b = x.below in omega arith))
      where
        case : (a b : ℕ) → a ≤ b → (a < b) ⊎ (a ≡ b)
        case a b h = grind arith

        here : stair f n (f n) z +ℤ pos (u (residue z n)) ≡ (x.q *ℤ pos (f n) +ℤ pos (f x.r)) +ℤ pos (u x.r)
        here = ap (λ (y : ℤ). stair f n (f n) y +ℤ pos (u (residue y n))) x.is
            ∙ ap (λ (y : ℤ). y +ℤ pos (u (residue (x.q *ℤ pos n +ℤ pos x.r) n))) (stair-is f n (f n) x.q x.r x.below)
            ∙ ap (λ (k : ℕ). (x.q *ℤ pos (f n) +ℤ pos (f x.r)) +ℤ pos (u k)) (residue-is n x.q x.r x.below)

        up : (x.q *ℤ pos (f n) +ℤ pos (f x.r)) +ℤ pos (u x.r) ≡ x.q *ℤ pos (f n) +ℤ pos (f (suc x.r))
        up = let e = s.next x.r x.below in omega (arith, ints, e)

        inside : suc x.r < n → stair f n (f n) (z +ℤ pos 1) ≡ stair f n (f n) z +ℤ pos (u (residue z n))
        inside l =
            ap (stair f n (f n)) (ap (λ (y : ℤ). y +ℤ pos 1) x.is ∙ omega (arith, ints))
            ∙ stair-is f n (f n) x.q (suc x.r) l ∙ sym up ∙ sym here

        last : suc x.r ≡ n → stair f n (f n) (z +ℤ pos 1) ≡ stair f n (f n) z +ℤ pos (u (residue z n))
        last l =
            ap (stair f n (f n)) (ap (λ (y : ℤ). y +ℤ pos 1) x.is ∙ turn)
            ∙ stair-is f n (f n) (x.q +ℤ pos 1) 0 s.some
            ∙ ap (λ (k : ℕ). (x.q +ℤ pos 1) *ℤ pos (f n) +ℤ pos k) s.first
            ∙ sym (up_one x.q (f n) 0)
            ∙ all
            ∙ sym up ∙ sym here
          where
            turn : (x.q *ℤ pos n +ℤ pos x.r) +ℤ pos 1 ≡ (x.q +ℤ pos 1) *ℤ pos n +ℤ pos 0
            turn = let a : (x.q *ℤ pos n +ℤ pos x.r) +ℤ pos 1 ≡ (x.q *ℤ pos n +ℤ pos 0) +ℤ pos n = omega (arith, ints) in a ∙ up_one x.q n 0

            all : (x.q *ℤ pos (f n) +ℤ pos 0) +ℤ pos (f n) ≡ x.q *ℤ pos (f n) +ℤ pos (f (suc x.r))
            all = let e : f (suc x.r) ≡ f n = ap f l in omega (arith, ints)

pub stair-up : (f u : ℕ → ℕ) (n : ℕ) → HasSteps f u n → (z : ℤ) (k : ℕ) → stair f n (f n) z ≤ℤ stair f n (f n) (z +ℤ pos k)
stair-up f u n s z zero = let e : stair f n (f n) (z +ℤ pos 0) ≡ stair f n (f n) z = ap (stair f n (f n)) (omega (arith, ints)) in omega (arith, ints)
stair-up f u n s z (suc k) =
    let h : stair f n (f n) z ≤ℤ stair f n (f n) (z +ℤ pos k) = stair-up f u n s z k in
    let e : stair f n (f n) (z +ℤ pos (suc k)) ≡ stair f n (f n) ((z +ℤ pos k) +ℤ pos 1) = ap (stair f n (f n)) (omega (arith, ints)) in
    let d : stair f n (f n) ((z +ℤ pos k) +ℤ pos 1) ≡ stair f n (f n) (z +ℤ pos k) +ℤ pos (u (residue (z +ℤ pos k) n)) = stair-suc f u n s (z +ℤ pos k) in omega (arith, ints)

-- the number that leads from one integer to a greater one
pub record Between (x y : ℤ) : Type 0 where
  pub k : ℕ
  pub is : y ≡ x +ℤ pos k

pub between : (x y : ℤ) → x ≤ℤ y → Between x y
between (pos a) (pos b) h = record { k = b - a; is = omega (arith, ints) }
between (pos a) (negsuc b) h = absurd (omega (arith, ints))
between (negsuc a) (pos b) h = record { k = suc a + b; is = omega (arith, ints) }
between (negsuc a) (negsuc b) h = record { k = a - b; is = omega (arith, ints) }

pub stair-mono : (f u : ℕ → ℕ) (n : ℕ) → HasSteps f u n → (x y : ℤ) → x ≤ℤ y → stair f n (f n) x ≤ℤ stair f n (f n) y
stair-mono f u n s x y h = of (between x y h)
  where
    of : Between x y → stair f n (f n) x ≤ℤ stair f n (f n) y
    of b = subst (λ (z : ℤ). stair f n (f n) x ≤ℤ stair f n (f n) z) (sym b.is) (stair-up f u n s x b.k)

steps-up : (f u : ℕ → ℕ) (n : ℕ) → HasSteps f u n → (r k : ℕ) → r + k ≤ n → f r ≤ f (r + k)
steps-up f u n s r zero h = let e : f (r + 0) ≡ f r = ap f (omega arith) in omega arith
steps-up f u n s r (suc k) h =
    let i : f r ≤ f (r + k) = steps-up f u n s r k (omega arith) in
    let e : f (r + suc k) ≡ f (suc (r + k)) = ap f (omega arith) in
    let d : f (suc (r + k)) ≡ f (r + k) + u (r + k) = s.next (r + k) (omega arith) in omega arith

pub steps-stair : (f u : ℕ → ℕ) (n : ℕ) → HasSteps f u n → 0 < u (n - 1) → IsStair f n (f n)
steps-stair f u n s last = record {
  some = s.some;
  first = s.first;
  below = λ r h.
      let i : f r ≤ f (r + (n - 1 - r)) = steps-up f u n s r (n - 1 - r) (omega arith) in
      let e : f (r + (n - 1 - r)) ≡ f (n - 1) = ap f (omega arith) in
      let g : f n ≡ f (suc (n - 1)) = ap f (let p = s.some in omega arith) in
      let d : f (suc (n - 1)) ≡ f (n - 1) + u (n - 1) = s.next (n - 1) (let p = s.some in omega arith) in omega arith;
}

-- BOUNDS: n bytes from d on lie in a part of `len` bytes, exactly where their images do
pub stair-bounds : (f u : ℕ → ℕ) (n : ℕ) → HasSteps f u n → 0 < u (n - 1) → (d : ℤ) (len : ℕ) → 0 < u (residue (d +ℤ pos (n - 1)) n)
    → (not (int_lt (stair f n (f n) d) (pos 0)) && not (int_lt (stair f n (f n) (pos len) -ℤ stair f n (f n) d) (pos (f n)))) ≡ (int_le (pos 0) d && int_le (d +ℤ pos n) (pos len))
stair-bounds f u n s last d len end =
    ap (λ (b : Bool). b && not (int_lt (stair f n (f n) (pos len) -ℤ stair f n (f n) d) (pos (f n)))) first ∙ ap (λ (b : Bool). int_le (pos 0) d && b) second
  where
    first : not (int_lt (stair f n (f n) d) (pos 0)) ≡ int_le (pos 0) d
    first = ap not (stair-sign f n (f n) (steps-stair f u n s last) d) ∙ not-less d (pos 0)

    whole : stair f n (f n) (d +ℤ pos n) ≡ stair f n (f n) d +ℤ pos (f n)
    whole = stair-step f n (f n) s.some d

    before-end : stair f n (f n) (d +ℤ pos n) ≡ stair f n (f n) (d +ℤ pos (n - 1)) +ℤ pos (u (residue (d +ℤ pos (n - 1)) n))
    before-end = ap (stair f n (f n)) (let p = s.some in omega (arith, ints)) ∙ stair-suc f u n s (d +ℤ pos (n - 1))

    fits : (d +ℤ pos n) ≤ℤ pos len → pos (f n) ≤ℤ (stair f n (f n) (pos len) -ℤ stair f n (f n) d)
    fits h = let m : stair f n (f n) (d +ℤ pos n) ≤ℤ stair f n (f n) (pos len) = stair-mono f u n s (d +ℤ pos n) (pos len) h in let w = whole in omega (arith, ints)

    not_fits : pos len <ℤ (d +ℤ pos n) → (stair f n (f n) (pos len) -ℤ stair f n (f n) d) <ℤ pos (f n)
    not_fits h =
        let m : stair f n (f n) (pos len) ≤ℤ stair f n (f n) (d +ℤ pos (n - 1)) = stair-mono f u n s (pos len) (d +ℤ pos (n - 1)) (let p = s.some in omega (arith, ints)) in
        let w = whole in let b = before-end in omega (arith, ints)

    second : not (int_lt (stair f n (f n) (pos len) -ℤ stair f n (f n) d) (pos (f n))) ≡ int_le (d +ℤ pos n) (pos len)
    second = not-less (stair f n (f n) (pos len) -ℤ stair f n (f n) d) (pos (f n)) ∙ sym (same_le (d +ℤ pos n) (pos len) (pos (f n)) (stair f n (f n) (pos len) -ℤ stair f n (f n) d) fits not_fits)

-- a stair rises by at most b a step
pub stair-growth : (f u : ℕ → ℕ) (n b : ℕ) → HasSteps f u n → ((r : ℕ) → u r ≤ b) → (z : ℤ) (k : ℕ) → stair f n (f n) (z +ℤ pos k) ≤ℤ (stair f n (f n) z +ℤ pos (b * k))
stair-growth f u n b s small z zero = let e : stair f n (f n) (z +ℤ pos 0) ≡ stair f n (f n) z = ap (stair f n (f n)) (omega (arith, ints)) in omega (arith, ints)
stair-growth f u n b s small z (suc k) =
    let h : stair f n (f n) (z +ℤ pos k) ≤ℤ (stair f n (f n) z +ℤ pos (b * k)) = stair-growth f u n b s small z k in
    let e : stair f n (f n) (z +ℤ pos (suc k)) ≡ stair f n (f n) ((z +ℤ pos k) +ℤ pos 1) = ap (stair f n (f n)) (omega (arith, ints)) in
    let d : stair f n (f n) ((z +ℤ pos k) +ℤ pos 1) ≡ stair f n (f n) (z +ℤ pos k) +ℤ pos (u (residue (z +ℤ pos k) n)) = stair-suc f u n s (z +ℤ pos k) in
    let g : u (residue (z +ℤ pos k) n) ≤ b = small (residue (z +ℤ pos k) n) in omega (arith, ints)

pub stair-zero : (f u : ℕ → ℕ) (n : ℕ) → HasSteps f u n → stair f n (f n) (pos 0) ≡ pos 0
stair-zero f u n s =
    let z : pos 0 ≡ pos 0 *ℤ pos n +ℤ pos 0 = omega (arith, ints) in
    let e = s.first in
    let i : stair f n (f n) (pos 0 *ℤ pos n +ℤ pos 0) ≡ pos 0 *ℤ pos (f n) +ℤ pos (f 0) = stair-is f n (f n) (pos 0) 0 s.some in
    ap (stair f n (f n)) z ∙ i ∙ omega (arith, ints)

-- how far a stair gets
pub record IsWithin (z : ℤ) (b : ℕ) : Type 0 where
  pub low : pos 0 ≤ℤ (z +ℤ pos b)
  pub high : z ≤ℤ pos b

pub stair-within : (f u : ℕ → ℕ) (n b m : ℕ) → HasSteps f u n → ((r : ℕ) → u r ≤ b) → (z : ℤ) → IsWithin z m → IsWithin (stair f n (f n) z) (b * m)
stair-within f u n b m s small (pos d) h =
    let g : stair f n (f n) (pos 0 +ℤ pos d) ≤ℤ (stair f n (f n) (pos 0) +ℤ pos (b * d)) = stair-growth f u n b s small (pos 0) d in
    let e = stair-zero f u n s in
    let z0 : pos 0 +ℤ pos d ≡ pos d = omega (arith, ints) in
    let i : stair f n (f n) (pos 0 +ℤ pos d) ≡ stair f n (f n) (pos d) = ap (stair f n (f n)) z0 in
    let up : stair f n (f n) (pos 0) ≤ℤ stair f n (f n) (pos d) = stair-mono f u n s (pos 0) (pos d) (omega (arith, ints)) in
    let k : b * d ≤ b * m = mul-le-mul_left b (let q = h.high in omega (arith, ints)) in
    record { low = omega (arith, ints); high = omega (arith, ints) }
stair-within f u n b m s small (negsuc d) h =
    let g : stair f n (f n) (negsuc d +ℤ pos (suc d)) ≤ℤ (stair f n (f n) (negsuc d) +ℤ pos (b * suc d)) = stair-growth f u n b s small (negsuc d) (suc d) in
    let e = stair-zero f u n s in
    let z0 : negsuc d +ℤ pos (suc d) ≡ pos 0 = omega (arith, ints) in
    let i : stair f n (f n) (negsuc d +ℤ pos (suc d)) ≡ stair f n (f n) (pos 0) = ap (stair f n (f n)) z0 in
    let up : stair f n (f n) (negsuc d) ≤ℤ stair f n (f n) (pos 0) = stair-mono f u n s (negsuc d) (pos 0) (omega (arith, ints)) in
    let k : b * suc d ≤ b * m = mul-le-mul_left b (let q = h.low in omega (arith, ints)) in
    record { low = omega (arith, ints); high = omega (arith, ints) }
