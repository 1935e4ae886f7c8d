-- Cells take at most three bytes each once cured.
use Rattle.std.proofs.Common.{◌≡◌, ℕ, zero, suc, ◌+◌, ◌*◌, ◌<◌, ◌≤◌, Bool, true, false, List, [], ◌∷◌, length, slice_get, Option, None, Some, refl, ap, sym, subst, ◌∙◌, inl, inr, ◌⊎◌, arith, if◌then◌else◌}
use Rattle.std.specs.Prelude.{◌==◌}
use Rattle.std.proofs.lemmas.Bool.Decides.{nat_tests}
use Rattle.cc_base.specs.declared.number.TypeId.{TypeId}
use Rattle.cc_base.specs.declared.number.NodeId.{NodeId}
use Rattle.cc_base.specs.declared.kind.Kind.{Kind}
use Rattle.cc_base.specs.declared.kind.Kind.TheVariants.{Safe, Seq, Rtti, Wild}
use Rattle.c_types.specs.Cells.{Cell, raw, pointer, mixed, incomplete, AreOrdered}
use Rattle.c_types.specs.Widths.{kind_width, cell_width, before, width_of}
use Rattle.type_laws.proofs.Widths.{before-suc}

most : (k : Kind) → kind_width k ≤ 24
most Safe = omega arith
most Seq = omega arith
most Rtti = omega arith
most Wild = omega arith

same_some : {A : Type 0} (x y : A) → Some x ≡ Some y → x ≡ y
same_some x y h = cc

-- the number of a pointer's byte, and of other cells 0
abbrev byte_of : Cell → ℕ
byte_of (pointer n t j) = j
byte_of raw = 0
byte_of (mixed t j) = 0
byte_of (incomplete t) = 0

abbrev byte_at : Option Cell → ℕ
byte_at None = 0
byte_at (Some c) = byte_of c

there : (xs : List Cell) (i : ℕ) → i < length xs → (c : Cell) × (slice_get xs i ≡ Some c)
there [] i h = absurd (omega (arith, h))
there (x ∷ xs) zero h = (x, refl)
there (x ∷ xs) (suc i) h = there xs i (omega (arith, h))

past : (kind : NodeId → Kind) (cells : List Cell) (i : ℕ) → length cells ≤ i → before kind cells (suc i) ≡ before kind cells i
past kind [] zero l = refl
past kind [] (suc i) l = refl
past kind (c ∷ cs) zero l = absurd (omega (arith, l))
past kind (c ∷ cs) (suc i) l = ap (λ n. cell_width kind c + n) (past kind cs i (omega (arith, l)))

behind : (cells : List Cell) (i : ℕ) → length cells ≤ i → slice_get cells i ≡ None
behind [] i l = refl
behind (c ∷ cs) zero l = absurd (omega (arith, l))
behind (c ∷ cs) (suc i) l = behind cs i (omega (arith, l))

alone : (kind : NodeId → Kind) (c : Cell) → cell_width kind c ≤ 3 + 3 * byte_of c
alone kind raw = omega arith
alone kind (mixed t j) = omega arith
alone kind (incomplete t) = omega arith
alone kind (pointer n t j) = by (j == 7) refl
  where
    by : (b : Bool) → (j == 7) ≡ b → (if b then kind_width (kind n) else 0) ≤ 3 + 3 * j
    by true h = let k : j ≡ 7 = grind (arith, nat_tests) in let m = most (kind n) in omega (arith, k, m)
    by false h = omega arith

inside : (kind : NodeId → Kind) (n : NodeId) (t : TypeId) (j : ℕ) → j ≤ 6 → cell_width kind (pointer n t j) ≡ 0
inside kind n t j l = by (j == 7) refl
  where
    by : (b : Bool) → (j == 7) ≡ b → (if b then kind_width (kind n) else 0) ≡ 0
    by true h = let k : j ≡ 7 = grind (arith, nat_tests) in absurd (omega (arith, k, l))
    by false h = refl

module _ (kind : NodeId → Kind) (cells : List Cell) (ordered : AreOrdered cells) where
  -- what goes on behind a cell, with three for each byte of it, finds room in what three for each byte before leave
  one : (i : ℕ) (c : Cell) → slice_get cells i ≡ Some c → (next : Option Cell) → slice_get cells (suc i) ≡ next → cell_width kind c + 3 * byte_at next ≤ 3 + 3 * byte_of c
  one i c e None f = let a = alone kind c in omega (arith, a)
  one i c e (Some raw) f = let a = alone kind c in omega (arith, a)
  one i c e (Some (mixed t j)) f = let a = alone kind c in omega (arith, a)
  one i c e (Some (incomplete t)) f = let a = alone kind c in omega (arith, a)
  one i c e (Some (pointer m u zero)) f = let a = alone kind c in omega (arith, a)
  one i c e (Some (pointer m u (suc j))) f =
      let l = (ordered.least (suc i) (suc j) m u f).0 in
      let same : pointer m u j ≡ c = same_some (pointer m u j) c (sym (ordered.back i j m u f) ∙ e) in
      let z = inside kind m u j (omega (arith, l)) in
      subst (λ (x : Cell). cell_width kind x + 3 * suc j ≤ 3 + 3 * byte_of x) same (omega (arith, z))

  kept : (i : ℕ) → before kind cells i + 3 * byte_at (slice_get cells i) ≤ 3 * i
  kept zero = by (slice_get cells 0) refl
    where
      by : (c : Option Cell) → slice_get cells 0 ≡ c → 0 + 3 * byte_at c ≤ 3 * 0
      by None e = omega arith
      by (Some raw) e = omega arith
      by (Some (mixed t j)) e = omega arith
      by (Some (incomplete t)) e = omega arith
      by (Some (pointer n t j)) e = let l = (ordered.least 0 j n t e).1 in omega (arith, l)
  kept (suc i) = next (kept i) (order i (length cells))
    where
      order : (a b : ℕ) → (a < b) ⊎ (b ≤ a)
      order a b = grind arith

      next : before kind cells i + 3 * byte_at (slice_get cells i) ≤ 3 * i → (i < length cells) ⊎ (length cells ≤ i) → before kind cells (suc i) + 3 * byte_at (slice_get cells (suc i)) ≤ 3 * suc i
      next h (inl l) =
          let c = there cells i l in
          let w = before-suc kind cells i c.0 c.1 in
          let o = one i c.0 c.1 (slice_get cells (suc i)) refl in
          let g : byte_at (slice_get cells i) ≡ byte_of c.0 = ap byte_at c.1 in omega (arith, h, w, o, g)
      next h (inr l) =
          let p = past kind cells i l in
          let q : byte_at (slice_get cells (suc i)) ≡ 0 = ap byte_at (behind cells (suc i) (omega (arith, l))) in omega (arith, h, p, q)

  pub width_few : width_of kind cells ≤ 3 * length cells
  width_few = let h = kept (length cells) in omega (arith, h)
