use Rattle.std.proofs.Common.{◌≡◌, ℕ, zero, suc, ◌<◌, true, ◌&&◌, List, [], ◌∷◌, length, get_or, map, ◌==◌, refl, ap, sym, ◌∙◌, true≢false, arith}
use Rattle.std.proofs.lemmas.Bool.Decides.{Decides-eqb}
use Rattle.cc_base.specs.declared.number.TypeId.{TypeId}
use Rattle.c_types.specs.Cells.{Cell, raw, pointer, mixed, incomplete, same_type, alike, all_alike}
use Rattle.c_types.proofs.Shapes.{first_true, second_true}
use Rattle.type_laws.proofs.Relations.{alike_equiv, cells_equiv, same_type_equiv, same_id}
use Rattle.phys_types.specs.Numbers.{same_number}
use Rattle.phys_types.proofs.Fronts.{fronts}

-- Cells with numbers in place of what their pointers point to: cells are alike where these are the same.

abbrev pub settle : (TypeId → ℕ) → Cell → Cell
settle number (pointer node to i) = pointer (record { 0 = 0 }) (record { 0 = number to }) i
settle number raw = raw
settle number (mixed t i) = mixed t i
settle number (incomplete t) = incomplete t

module _ (number : TypeId → ℕ) where
  settled_is : (x y : Cell) → alike (same_number number) x y ≡ alike same_type (settle number x) (settle number y)
  settled_is raw y = by y
    where
      by : (y : Cell) → alike (same_number number) raw y ≡ alike same_type raw (settle number y)
      by raw = refl
      by (pointer n t i) = refl
      by (mixed t i) = refl
      by (incomplete t) = refl
  settled_is (pointer m u j) y = by y
    where
      by : (y : Cell) → alike (same_number number) (pointer m u j) y ≡ alike same_type (settle number (pointer m u j)) (settle number y)
      by raw = refl
      by (pointer n t i) = refl
      by (mixed t i) = refl
      by (incomplete t) = refl
  settled_is (mixed u j) y = by y
    where
      by : (y : Cell) → alike (same_number number) (mixed u j) y ≡ alike same_type (mixed u j) (settle number y)
      by raw = refl
      by (pointer n t i) = refl
      by (mixed t i) = refl
      by (incomplete t) = refl
  settled_is (incomplete u) y = by y
    where
      by : (y : Cell) → alike (same_number number) (incomplete u) y ≡ alike same_type (incomplete u) (settle number y)
      by raw = refl
      by (pointer n t i) = refl
      by (mixed t i) = refl
      by (incomplete t) = refl

  all_settled_is : (xs ys : List Cell) → all_alike (same_number number) xs ys ≡ all_alike same_type (map (settle number) xs) (map (settle number) ys)
  all_settled_is [] [] = refl
  all_settled_is [] (y ∷ ys) = refl
  all_settled_is (x ∷ xs) [] = refl
  all_settled_is (x ∷ xs) (y ∷ ys) = λ i. settled_is x y i && all_settled_is xs ys i

  pub same_from_alike : (x y : Cell) → alike (same_number number) x y ≡ true → settle number x ≡ settle number y
  same_from_alike raw raw h = refl
  same_from_alike (pointer n t i) (pointer m u j) h =
      let e = (Decides-eqb i j).0 (first_true (i == j) _ h) in
      let f = (Decides-eqb (number t) (number u)).0 (second_true (i == j) (number t == number u) h) in
      λ k. pointer (record { 0 = 0 }) (record { 0 = f k }) (e k)
  same_from_alike (mixed t i) (mixed u j) h =
      let e = (Decides-eqb i j).0 (second_true (same_type t u) (i == j) h) in
      let f = same_id t u (first_true (same_type t u) _ h) in
      λ k. mixed (record { 0 = f k }) (e k)
  same_from_alike (incomplete t) (incomplete u) h = let f = same_id t u h in λ k. incomplete (record { 0 = f k })
  same_from_alike x y h = absurd (true≢false (sym h))

  pub alike_from_same : (x y : Cell) → settle number x ≡ settle number y → alike (same_number number) x y ≡ true
  alike_from_same x y h =
      settled_is x y ∙ ap (λ z. alike same_type z (settle number y)) h ∙ (alike_equiv same_type_equiv).refl (settle number y)

  pub all_same_from_alike : (xs ys : List Cell) → all_alike (same_number number) xs ys ≡ true → map (settle number) xs ≡ map (settle number) ys
  all_same_from_alike [] [] h = refl
  all_same_from_alike [] (y ∷ ys) h = absurd (true≢false (sym h))
  all_same_from_alike (x ∷ xs) [] h = absurd (true≢false (sym h))
  all_same_from_alike (x ∷ xs) (y ∷ ys) h =
      λ i. same_from_alike x y (first_true (alike (same_number number) x y) _ h) i ∷ all_same_from_alike xs ys (second_true (alike (same_number number) x y) _ h) i

  pub all_alike_from_same : (xs ys : List Cell) → map (settle number) xs ≡ map (settle number) ys → all_alike (same_number number) xs ys ≡ true
  all_alike_from_same xs ys h =
      all_settled_is xs ys ∙ ap (λ zs. all_alike same_type zs (map (settle number) ys)) h ∙ (cells_equiv same_type_equiv).refl (map (settle number) ys)

  pub front_same : (xs ys : List Cell) → fronts (same_number number) xs ys ≡ true
      → (i : ℕ) → i < length (map (settle number) ys) → get_or (map (settle number) xs) i raw ≡ get_or (map (settle number) ys) i raw
  front_same xs [] h i l = absurd (omega arith)
  front_same [] (y ∷ ys) h i l = absurd (true≢false (sym h))
  front_same (x ∷ xs) (y ∷ ys) h zero l = same_from_alike x y (first_true (alike (same_number number) x y) _ h)
  front_same (x ∷ xs) (y ∷ ys) h (suc i) l = front_same xs ys (second_true (alike (same_number number) x y) _ h) i (omega arith)

  -- settling reads through
  pub settled_at : (xs : List Cell) (i : ℕ) → get_or (map (settle number) xs) i raw ≡ settle number (get_or xs i raw)
  settled_at [] i = refl
  settled_at (x ∷ xs) zero = refl
  settled_at (x ∷ xs) (suc i) = settled_at xs i
