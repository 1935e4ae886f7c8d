-- Laws on bytes that two lists share, and on what is stored in two lists.
use Rattle.std.specs.Prelude.{◌≡◌, ℕ, zero, suc, ◌+◌, ◌*◌, ◌/◌, ◌%◌, ◌^◌, ◌<◌, ◌≤◌, List, length, slice_index, slice_set, refl}
use Rattle.std.proofs.Common.{sym, ◌∙◌, ap, inl, arith, get_or-set_same, length-set}
use Rattle.std.proofs.Math.Arith.{mod-mul}
use Rattle.std.proofs.Math.Nat.{pow-suc}
use Rattle.flat_mem.specs.Bytes.{number, stored}
use Rattle.flat_mem.proofs.ByteLaws.{get-stored_other, number-same}

-- what is stored is the same, byte by byte, in two lists
pub stored-both : (n : ℕ) (xs ys : List ℕ) (a b v : ℕ) → a + n ≤ length xs → b + n ≤ length ys → (i : ℕ) → i < n → slice_index (stored n xs a v) (a + i) ≡ slice_index (stored n ys b v) (b + i)
unfolding stored
stored-both zero xs ys a b v h k i l = absurd (omega arith)
stored-both (suc n) xs ys a b v h k zero l = one xs a h ∙ sym (one ys b k)
  where
    one : (zs : List ℕ) (c : ℕ) → c + suc n ≤ length zs → slice_index (stored n (slice_set zs c (v % 256)) (c + 1) (v / 256)) (c + 0) ≡ v % 256
    one zs c m =
        let e : c + 0 ≡ c = omega arith in
        ap (slice_index (stored n (slice_set zs c (v % 256)) (c + 1) (v / 256))) e
        ∙ (get-stored_other n (slice_set zs c (v % 256)) (c + 1) (v / 256) c (inl (omega arith)) ∙ get_or-set_same zs c (v % 256) 0 (omega arith))
stored-both (suc n) xs ys a b v h k (suc i) l =
    let e : a + suc i ≡ a + 1 + i = omega arith in
    let f : b + 1 + i ≡ b + suc i = omega arith in
    let c = length-set xs a (v % 256) in let d = length-set ys b (v % 256) in
    ap (slice_index (stored n (slice_set xs a (v % 256)) (a + 1) (v / 256))) e
    ∙ stored-both n (slice_set xs a (v % 256)) (slice_set ys b (v % 256)) (a + 1) (b + 1) (v / 256) (omega (arith, c)) (omega (arith, d)) i (omega arith)
    ∙ ap (slice_index (stored n (slice_set ys b (v % 256)) (b + 1) (v / 256))) f

power_positive : (n : ℕ) → 0 < 256 ^ n
power_positive zero = omega arith
power_positive (suc n) = let h : 0 < 256 ^ n = power_positive n in let e : 256 ^ suc n ≡ 256 ^ n * 256 = pow-suc 256 n in omega (arith, h, e)

-- only the low bytes of what is stored count
pub stored-low : (n : ℕ) (xs : List ℕ) (a v u : ℕ) → v % 256 ^ n ≡ u % 256 ^ n → stored n xs a v ≡ stored n xs a u
unfolding stored
stored-low zero xs a v u h = refl
stored-low (suc n) xs a v u h =
    let p : 256 ^ suc n ≡ 256 ^ n * 256 = pow-suc 256 n in
    let v0 : v % 256 ^ suc n ≡ v % (256 ^ n * 256) = ap (λ k. v % k) p in
    let u0 : u % 256 ^ suc n ≡ u % (256 ^ n * 256) = ap (λ k. u % k) p in
    let v1 : v % (256 ^ n * 256) ≡ (v / 256 % 256 ^ n) * 256 + v % 256 = mod-mul v (power_positive n) (omega arith) in
    let u1 : u % (256 ^ n * 256) ≡ (u / 256 % 256 ^ n) * 256 + u % 256 = mod-mul u (power_positive n) (omega arith) in
    let low : v % 256 ≡ u % 256 = omega (arith, h, v0, u0, v1, u1) in
    let high : v / 256 % 256 ^ n ≡ u / 256 % 256 ^ n = omega (arith, h, v0, u0, v1, u1) in
    ap (λ (k : ℕ). stored n (slice_set xs a k) (a + 1) (v / 256)) low ∙ stored-low n (slice_set xs a (u % 256)) (a + 1) (v / 256) (u / 256) high

-- a number of one byte is that byte
pub number-one : (bytes : List ℕ) (p : ℕ) → number 1 bytes p ≡ slice_index bytes p
unfolding number
number-one bytes p = omega arith

-- a number that is 0 has zero bytes
pub number-zero : (n : ℕ) (bytes : List ℕ) (p : ℕ) → number n bytes p ≡ 0 → (i : ℕ) → i < n → slice_index bytes (p + i) ≡ 0
unfolding number
number-zero zero bytes p e i h = absurd (omega arith)
number-zero (suc n) bytes p e zero h = let f : p + 0 ≡ p = omega arith in ap (slice_index bytes) f ∙ omega arith
number-zero (suc n) bytes p e (suc i) h =
    let f : p + suc i ≡ p + 1 + i = omega arith in
    let z : number n bytes (p + 1) ≡ 0 = omega arith in
    ap (slice_index bytes) f ∙ number-zero n bytes (p + 1) z i (omega arith)

-- the bytes from `low` up to `high` are the same in two lists
pub record Agree (bytes new : List ℕ) (low high : ℕ) : Type 0 where
  pub each : (i : ℕ) → low ≤ i → i < high → slice_index new i ≡ slice_index bytes i

-- and so are the numbers among them
pub agree-number : (n : ℕ) (bytes new : List ℕ) (low high p : ℕ) → Agree bytes new low high → low ≤ p → p + n ≤ high → number n new p ≡ number n bytes p
agree-number n bytes new low high p a l h = number-same n new bytes p p (λ i k. a.each (p + i) (omega arith) (omega arith))
