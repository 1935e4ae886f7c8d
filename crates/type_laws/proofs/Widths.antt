-- The widths of cells: what the first of them take.
use Rattle.std.proofs.Common.{◌≡◌, ℕ, zero, suc, ◌+◌, ◌-◌, ◌<◌, ◌≤◌, ◌⊎◌, inl, inr, List, [], ◌∷◌, ◌++◌, length, take, slice_get, Some, refl, ap, sym, subst, ◌∙◌, ⊎_elim, arith, if◌then◌else◌}
use Rattle.std.specs.Prelude.{◌==◌, slice_index_or}
use Rattle.std.specs.List.{sum_by}
use Rattle.std.proofs.lemmas.Bool.Decides.{nat_tests}
use Rattle.std.proofs.lemmas.List.{length-append}
use Rattle.std.proofs.lemmas.Option.{slice_get-get_or}
use Rattle.std.proofs.lemmas.List.Sums.{sum_by-cons}
use Rattle.cc_base.specs.declared.number.TypeId.{TypeId}
use Rattle.cc_base.specs.declared.number.NodeId.{NodeId}
use Rattle.cc_base.specs.declared.kind.Kind.{Kind}
use Rattle.cc_base.specs.declared.kind.Kind.TheVariants.{Safe, Seq, Rtti, Wild}
use Rattle.c_types.specs.Cells.{Cell, raw, pointer, mixed, incomplete, AreOrdered, IsBetweenPointers}
use Rattle.c_types.specs.Widths.{kind_width, cell_width, before, width_of}
use Rattle.c_types.proofs.OrderedPointers.{pointer_bytes}

-- the first cells take the sum of their widths
pub before-sum : (kind : NodeId → Kind) (cells : List Cell) (i : ℕ) → sum_by (cell_width kind) (take i cells) ≡ before kind cells i
before-sum kind cells zero = refl
before-sum kind [] (suc i) = refl
before-sum kind (c ∷ cells) (suc i) = sum_by-cons (cell_width kind) c (take i cells) ∙ ap (λ (k : ℕ). cell_width kind c + k) (before-sum kind cells i)

pub before-append : (kind : NodeId → Kind) (xs ys : List Cell) (i : ℕ) → before kind (xs ++ ys) (length xs + i) ≡ width_of kind xs + before kind ys i
before-append kind [] ys i = let e : 0 + i ≡ i = omega arith in ap (before kind ys) e ∙ omega arith
before-append kind (x ∷ xs) ys i =
    let h : before kind (xs ++ ys) (length xs + i) ≡ width_of kind xs + before kind ys i = before-append kind xs ys i in
    let e : suc (length xs) + i ≡ suc (length xs + i) = omega arith in
    ap (before kind (x ∷ xs ++ ys)) e ∙ omega arith

pub width_adds : (kind : NodeId → Kind) (xs ys : List Cell) → width_of kind (xs ++ ys) ≡ width_of kind xs + width_of kind ys
width_adds kind xs ys = ap (before kind (xs ++ ys)) (length-append xs ys) ∙ before-append kind xs ys (length ys)

pub before-suc : (kind : NodeId → Kind) (cells : List Cell) (i : ℕ) (c : Cell) → slice_get cells i ≡ Some c → before kind cells (suc i) ≡ before kind cells i + cell_width kind c
before-suc kind [] i c e = absurd (cc (e))
before-suc kind (x ∷ cells) zero c e = let f : x ≡ c = cc (e) in ap (λ (y : Cell). cell_width kind y + before kind cells zero) f ∙ omega arith
before-suc kind (x ∷ cells) (suc i) c e = let h : before kind cells (suc i) ≡ before kind cells i + cell_width kind c = before-suc kind cells i c e in omega arith

pub before-up : (kind : NodeId → Kind) (cells : List Cell) (i j : ℕ) → before kind cells i ≤ before kind cells (i + j)
before-up kind cells zero j = omega arith
before-up kind [] (suc i) j = omega arith
before-up kind (c ∷ cells) (suc i) j =
    let h : before kind cells i ≤ before kind cells (i + j) = before-up kind cells i j in
    let e : suc i + j ≡ suc (i + j) = omega arith in
    subst (λ (k : ℕ). cell_width kind c + before kind cells i ≤ before kind (c ∷ cells) k) (sym e) (omega arith)

pub before-mono : (kind : NodeId → Kind) (cells : List Cell) (i j : ℕ) → i ≤ j → before kind cells i ≤ before kind cells j
before-mono kind cells i j h = let e : i + (j - i) ≡ j = omega arith in subst (λ (k : ℕ). before kind cells i ≤ before kind cells k) e (before-up kind cells i (j - i))

-- raw bytes from a to a + n
pub record AreRaw (cells : List Cell) (a n : ℕ) : Type 0 where
  pub each : (i : ℕ) → i < n → slice_get cells (a + i) ≡ Some raw

pub before-raw : (kind : NodeId → Kind) (cells : List Cell) (a n : ℕ) → AreRaw cells a n → before kind cells (a + n) ≡ before kind cells a + n
before-raw kind cells a zero are = let e : a + 0 ≡ a = omega arith in ap (before kind cells) e ∙ omega arith
before-raw kind cells a (suc n) are =
    let h : before kind cells (a + n) ≡ before kind cells a + n = before-raw kind cells a n (record { each = λ i l. are.each i (omega arith) }) in
    let s : before kind cells (suc (a + n)) ≡ before kind cells (a + n) + 1 = before-suc kind cells (a + n) raw (are.each n (omega arith)) in
    let e : a + suc n ≡ suc (a + n) = omega arith in
    ap (before kind cells) e ∙ omega arith

-- a pointer's bytes add nothing before its last
pub before-inside : (kind : NodeId → Kind) (cells : List Cell) (k : ℕ) (n : NodeId) (t : TypeId) → AreOrdered cells → slice_get cells k ≡ Some (pointer n t 0)
    → (j : ℕ) → j ≤ 7 → before kind cells (k + j) ≡ before kind cells k
before-inside kind cells k n t are e zero h = ap (before kind cells) (omega arith)
before-inside kind cells k n t are e (suc j) h =
    let i : before kind cells (k + j) ≡ before kind cells k = before-inside kind cells k n t are e j (omega arith) in
    let s : before kind cells (suc (k + j)) ≡ before kind cells (k + j) + cell_width kind (pointer n t j) = before-suc kind cells (k + j) (pointer n t j) (pointer_bytes cells k n t are e j (omega arith)) in
    let z : cell_width kind (pointer n t j) ≡ 0 = inner j h in
    let f : k + suc j ≡ suc (k + j) = omega arith in
    ap (before kind cells) f ∙ omega arith
  where
    inner : (j : ℕ) → suc j ≤ 7 → (if j == 7 then kind_width (kind n) else 0) ≡ 0
    inner j h = grind (arith, nat_tests)

pub before-pointer : (kind : NodeId → Kind) (cells : List Cell) (k : ℕ) (n : NodeId) (t : TypeId) → AreOrdered cells → slice_get cells k ≡ Some (pointer n t 0)
    → before kind cells (k + 8) ≡ before kind cells k + kind_width (kind n)
before-pointer kind cells k n t are e =
    let i : before kind cells (k + 7) ≡ before kind cells k = before-inside kind cells k n t are e 7 (omega arith) in
    let s : before kind cells (suc (k + 7)) ≡ before kind cells (k + 7) + kind_width (kind n) = before-suc kind cells (k + 7) (pointer n t 7) (pointer_bytes cells k n t are e 7 (omega arith)) in
    let f : k + 8 ≡ suc (k + 7) = omega arith in
    ap (before kind cells) f ∙ omega arith

-- what is a pointer's is no raw byte
pub raw_no_pointer : (cells : List Cell) (i j : ℕ) (n : NodeId) (t : TypeId) → slice_get cells i ≡ Some raw → slice_get cells i ≡ Some (pointer n t j) → {A : Type 0} → A
raw_no_pointer cells i j n t e f = absurd (cc (e, f))

pub before-next : (kind : NodeId → Kind) (cells : List Cell) (i j : ℕ) → slice_get cells i ≡ Some raw → i < j → before kind cells i + 1 ≤ before kind cells j
before-next kind cells i j e h =
    let s : before kind cells (suc i) ≡ before kind cells i + 1 = before-suc kind cells i raw e in
    let m : before kind cells (suc i) ≤ before kind cells j = before-mono kind cells (suc i) j (omega arith) in omega arith

pub before-behind : (kind : NodeId → Kind) (cells : List Cell) (k j : ℕ) (n : NodeId) (t : TypeId) → AreOrdered cells → slice_get cells k ≡ Some (pointer n t 0) → k + 8 ≤ j
    → before kind cells k + kind_width (kind n) ≤ before kind cells j
before-behind kind cells k j n t are e h =
    let s : before kind cells (k + 8) ≡ before kind cells k + kind_width (kind n) = before-pointer kind cells k n t are e in
    let m : before kind cells (k + 8) ≤ before kind cells j = before-mono kind cells (k + 8) j h in omega arith

-- where a raw byte lies besides a run of raw bytes
pub raw-apart : (kind : NodeId → Kind) (cells : List Cell) (a n j : ℕ) → AreRaw cells a n → slice_get cells j ≡ Some raw → (j < a) ⊎ (a + n ≤ j)
    → (before kind cells j < before kind cells a) ⊎ (before kind cells a + n ≤ before kind cells j)
raw-apart kind cells a n j are e h = ⊎_elim
    (λ l. inl (let s : before kind cells j + 1 ≤ before kind cells a = before-next kind cells j a e l in omega arith))
    (λ l. inr (let r : before kind cells (a + n) ≡ before kind cells a + n = before-raw kind cells a n are in let m : before kind cells (a + n) ≤ before kind cells j = before-mono kind cells (a + n) j l in omega arith)) h

-- and a pointer
pub sides : (k a n : ℕ) → ((k + 8 ≤ a) ⊎ (a + n ≤ k)) ⊎ (((k < a) × (a < k + 8)) ⊎ ((a ≤ k) × (k < a + n)))
sides k a n = grind arith

pub pointer-besides : (cells : List Cell) (a n k : ℕ) (m : NodeId) (t : TypeId) → AreOrdered cells → AreRaw cells a n → 0 < n → slice_get cells k ≡ Some (pointer m t 0)
    → (k + 8 ≤ a) ⊎ (a + n ≤ k)
pointer-besides cells a n k m t ordered are some e = ⊎_elim (λ h. h) (λ h. ⊎_elim inside within h) (sides k a n)
  where
    inside : (k < a) × (a < k + 8) → (k + 8 ≤ a) ⊎ (a + n ≤ k)
    inside h = raw_no_pointer cells a (a - k) m t (subst (λ (i : ℕ). slice_get cells i ≡ Some raw) (omega arith) (are.each 0 some))
        (subst (λ (i : ℕ). slice_get cells i ≡ Some (pointer m t (a - k))) (let h0 = h.0 in omega arith) (pointer_bytes cells k m t ordered e (a - k) (let h1 = h.1 in omega arith)))

    within : (a ≤ k) × (k < a + n) → (k + 8 ≤ a) ⊎ (a + n ≤ k)
    within h = raw_no_pointer cells k 0 m t (subst (λ (i : ℕ). slice_get cells i ≡ Some raw) (let h0 = h.0 in omega arith) (are.each (k - a) (let h1 = h.1 in let h0 = h.0 in omega arith))) e

pub pointer-apart : (kind : NodeId → Kind) (cells : List Cell) (a n k : ℕ) (m : NodeId) (t : TypeId) → AreOrdered cells → AreRaw cells a n → 0 < n → slice_get cells k ≡ Some (pointer m t 0)
    → (before kind cells k + kind_width (kind m) ≤ before kind cells a) ⊎ (before kind cells a + n ≤ before kind cells k)
pointer-apart kind cells a n k m t ordered are some e = ⊎_elim
    (λ l. inl (before-behind kind cells k a m t ordered e l))
    (λ l. inr (let r : before kind cells (a + n) ≡ before kind cells a + n = before-raw kind cells a n are in let g : before kind cells (a + n) ≤ before kind cells k = before-mono kind cells (a + n) k l in omega arith))
    (pointer-besides cells a n k m t ordered are some e)

-- Places that cut no pointer are told apart by what stands before them.

pub wide : (k : Kind) → 0 < kind_width k
wide Safe = omega arith
wide Seq = omega arith
wide Rtti = omega arith
wide Wild = omega arith

pub before-strict : (kind : NodeId → Kind) (cs : List Cell) (i j : ℕ) → AreOrdered cs → IsBetweenPointers cs i → IsBetweenPointers cs j → i < j → j ≤ length cs → before kind cs i < before kind cs j
before-strict kind cs i j o bi bj less room = of (slice_index_or cs i raw) (slice_get-get_or cs i raw (omega arith))
  where
    one : (c : Cell) → slice_get cs i ≡ Some c → 0 < cell_width kind c → before kind cs i < before kind cs j
    one c e w = let s : before kind cs (suc i) ≡ before kind cs i + cell_width kind c = before-suc kind cs i c e in let m : before kind cs (suc i) ≤ before kind cs j = before-mono kind cs (suc i) j (omega arith) in omega arith

    case : (a b : ℕ) → (a ≤ b) ⊎ (b < a)
    case a b = grind arith

    cut : (n : NodeId) (t : TypeId) (k : ℕ) → slice_get cs j ≡ Some (pointer n t k) → 0 < k → before kind cs i < before kind cs j
    cut n t zero e h = absurd (omega arith)
    cut n t (suc k) e h = absurd (bj.whole n t k e)

    of : (c : Cell) → slice_get cs i ≡ Some c → before kind cs i < before kind cs j
    of raw e = one raw e (omega arith)
    of (mixed u k) e = one (mixed u k) e (omega arith)
    of (incomplete u) e = one (incomplete u) e (omega arith)
    of (pointer n t (suc k)) e = absurd (bi.whole n t k e)
    of (pointer n t zero) e = ⊎_elim
        (λ h. let b = before-behind kind cs i j n t o e h in let w = wide (kind n) in omega arith)
        (λ h. cut n t (j - i) (subst (λ (m : ℕ). slice_get cs m ≡ Some (pointer n t (j - i))) (omega arith) (pointer_bytes cs i n t o e (j - i) (omega arith))) (omega arith))
        (case (i + 8) j)

-- so equal places are one place
pub before-same-place : (kind : NodeId → Kind) (cs : List Cell) (i j : ℕ) → AreOrdered cs → IsBetweenPointers cs i → IsBetweenPointers cs j → i ≤ length cs → j ≤ length cs → before kind cs i ≡ before kind cs j → i ≡ j
before-same-place kind cs i j o bi bj hi hj e = ⊎_elim (λ l. absurd (let s = before-strict kind cs i j o bi bj l hj in omega arith)) (λ h. ⊎_elim (λ l. absurd (let s = before-strict kind cs j i o bj bi l hi in omega arith)) (λ s. s) h) (case i j)
  where
    case : (i j : ℕ) → (i < j) ⊎ ((j < i) ⊎ (i ≡ j))
    case i j = grind arith
