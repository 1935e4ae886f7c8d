-- To begin with a type, to lie strictly below it, to tile with it, and the class of a flow respect physical equality on both sides; so they may be asked
-- for one type of each class.
use Rattle.std.proofs.Common.{◌≡◌, ℕ, zero, suc, ◌*◌, ◌%◌, Bool, true, false, not, ◌&&◌, if◌then◌else◌, List, [], ◌∷◌, length, get_or, refl, ap, sym, subst, ◌∙◌, true≢false, arith}
use Rattle.std.specs.List.{list_all, range_with_len}
use lib.Pointwise.{pointwise_long}
use Rattle.cc_base.specs.declared.number.TypeId.{TypeId}
use Rattle.c_types.specs.declared.flow_class.FlowClass.TheVariants.{Equal, UpTile, Up, DownTile, Down, Tile, Bad}
use Rattle.kind_sites.specs.declared.site.Site.{Site}
use Rattle.c_types.specs.Table.{Table, is_function, is_empty}
use Rattle.c_types.specs.Cells.{Cell, raw, Relation, alike, all_alike}
use Rattle.c_types.specs.Equality.{physically_equal, cells_of, begins_with, strictly_below, repeated_cell, repeat_alike, tile}
use Rattle.c_types.specs.Flows.{flow_class}
use Rattle.kind_sites.specs.Solutions.{HasBelow}
use Rattle.c_types.specs.Sound.{IsWellFormed}
use Rattle.c_types.proofs.Shapes.{first_true, second_true}
use Rattle.type_laws.proofs.Relations.{equal_equiv, alike_equiv}
use Rattle.type_laws.proofs.Pointers.{begins_with_twice}
use Rattle.phys_types.proofs.Classes.{tile_turned, function_tiles}
use Rattle.phys_types.proofs.LawLemmas.{begins_equal, equal_cells}
use Rattle.phys_types.proofs.Turns.{begins_data, equal_begins, equal_function}
use Rattle.phys_types.proofs.Unions.{same_answer}

-- What is read of alike cells

at-alike : (E : Relation) → ((c : Cell) → alike E c c ≡ true) → (xs ys : List Cell) → all_alike E xs ys ≡ true → (i : ℕ) → alike E (get_or xs i raw) (get_or ys i raw) ≡ true
at-alike E own [] [] h i = own raw
at-alike E own [] (y ∷ ys) h i = absurd (true≢false (sym h))
at-alike E own (x ∷ xs) [] h i = absurd (true≢false (sym h))
at-alike E own (x ∷ xs) (y ∷ ys) h zero = first_true (alike E x y) _ h
at-alike E own (x ∷ xs) (y ∷ ys) h (suc i) = at-alike E own xs ys (second_true (alike E x y) _ h) i

tests-alike : (f g : ℕ → Bool) → ((i : ℕ) → f i ≡ g i) → (is : List ℕ) → list_all f is ≡ list_all g is
tests-alike f g h [] = refl
tests-alike f g h (i ∷ is) = λ j. h i j && tests-alike f g h is j

empty-alike : (xs ys : List Cell) → length xs ≡ length ys → is_empty xs ≡ is_empty ys
empty-alike [] [] h = refl
empty-alike [] (y ∷ ys) h = absurd (omega arith)
empty-alike (x ∷ xs) [] h = absurd (omega arith)
empty-alike (x ∷ xs) (y ∷ ys) h = refl

module _ (table : Table) (w : IsWellFormed table) where
  turned : (t u : TypeId) → physically_equal table t u ≡ true → physically_equal table u t ≡ true
  turned t u e = (equal_equiv table).symm u t ∙ e

  equal-data : (t u : TypeId) → is_function table t ≡ false → physically_equal table t u ≡ true → is_function table u ≡ false
  equal-data t u f e = by (is_function table u) refl
    where
      by : (b : Bool) → is_function table u ≡ b → is_function table u ≡ false
      by true g = absurd (true≢false (sym (equal_function table w u t (turned t u e) g) ∙ f))
      by false g = g

  pub begins-alike : (t u s v : TypeId) → begins_with table t u ≡ true → physically_equal table t s ≡ true → physically_equal table u v ≡ true → begins_with table s v ≡ true
  begins-alike t u s v h e f =
      let d = begins_data table w t u h in
      let b : begins_with table s t ≡ true = equal_begins table w s t (equal-data t s d.0 e) (turned t s e) in
      begins_equal table w s u v (begins_with_twice table s t u b h) f

  not-equal : (b : Bool) → not b ≡ true → b ≡ false
  not-equal true h = absurd (true≢false (sym h))
  not-equal false h = refl

  pub below-alike : (t u s v : TypeId) → strictly_below table t u ≡ true → physically_equal table t s ≡ true → physically_equal table u v ≡ true → strictly_below table s v ≡ true
  below-alike t u s v h e f =
      let q = equal_equiv table in
      let n = not-equal (physically_equal table t u) (second_true (begins_with table t u) _ h) in
      -- s v ≡ t v ≡ v t ≡ u t ≡ t u
      let m : physically_equal table s v ≡ false = sym (q.congr t s v e) ∙ q.symm t v ∙ sym (q.congr u v t f) ∙ q.symm u t ∙ n in
      λ i. begins-alike t u s v (first_true (begins_with table t u) _ h) e f i && not (m i)

  pub has-below-alike : (sites : List Site) (t s : TypeId) → physically_equal table t s ≡ true → HasBelow table sites t → HasBelow table sites s
  has-below-alike sites t s e b = record { node = b.node; pointee = b.pointee; site = b.site; below = below-alike b.pointee t b.pointee s b.below ((equal_equiv table).refl b.pointee) e }

  -- tiling respects it too

  repeated-alike : (xs zs : List Cell) → all_alike (physically_equal table) xs zs ≡ true → length xs ≡ length zs → (i : ℕ)
      → alike (physically_equal table) (repeated_cell xs i) (repeated_cell zs i) ≡ true
  repeated-alike xs zs h l i =
      subst (λ (n : ℕ). alike (physically_equal table) (repeated_cell xs i) (get_or zs (i % n) raw) ≡ true) l
      (at-alike (physically_equal table) (alike_equiv (equal_equiv table)).refl xs zs h (i % length xs))

  repeats-alike : (xs zs ys : List Cell) → all_alike (physically_equal table) xs zs ≡ true → length xs ≡ length zs
      → repeat_alike (physically_equal table) xs ys ≡ repeat_alike (physically_equal table) zs ys
  repeats-alike xs zs ys h l =
      tests-alike (λ i. alike (physically_equal table) (repeated_cell xs i) (repeated_cell ys i)) (λ i. alike (physically_equal table) (repeated_cell zs i) (repeated_cell ys i))
      (λ i. (alike_equiv (equal_equiv table)).congr (repeated_cell xs i) (repeated_cell zs i) (repeated_cell ys i) (repeated-alike xs zs h l i))
      (range_with_len 0 (length xs * length ys))
      ∙ ap (λ n. list_all (λ i. alike (physically_equal table) (repeated_cell zs i) (repeated_cell ys i)) (range_with_len 0 (n * length ys))) l

  -- the first of two types that tile is another one that is equal
  tile-first : (t s u : TypeId) → physically_equal table t s ≡ true → tile table t u ≡ tile table s u
  tile-first t s u e = by (is_function table t) refl
    where
      by : (b : Bool) → is_function table t ≡ b → tile table t u ≡ tile table s u
      by true f = function_tiles table w t u f ∙ sym (function_tiles table w s u (equal_function table w t s e f))
      by false f =
          let c = (equal_cells table w t s f e).1 in
          let l = pointwise_long (alike (physically_equal table)) (cells_of table t) (cells_of table s) c in
          λ i. not (empty-alike (cells_of table t) (cells_of table s) l i)
          && (not (is_empty (cells_of table u)) && repeats-alike (cells_of table t) (cells_of table s) (cells_of table u) c l i)

  tile-alike : (t u s v : TypeId) → physically_equal table t s ≡ true → physically_equal table u v ≡ true → tile table t u ≡ tile table s v
  tile-alike t u s v e f = tile-first t s u e ∙ tile_turned table s u ∙ tile-first u v s f ∙ tile_turned table v s

  -- the class of a flow is that between types that are equal to its ends
  pub class-alike : (t u s v : TypeId) → physically_equal table t s ≡ true → physically_equal table u v ≡ true → flow_class table t u ≡ flow_class table s v
  class-alike t u s v e f =
      let q = equal_equiv table in
      let equal : physically_equal table t u ≡ physically_equal table s v = q.symm t u ∙ q.congr u v t f ∙ q.symm v t ∙ q.congr t s v e in
      let up = begins-same t u s v e f in
      let down = begins-same u t v s f e in
      let tiled = tile-alike t u s v e f in
      λ i. if equal i then Equal else (if up i then (if tiled i then UpTile else Up)
      else (if down i then (if tiled i then DownTile else Down) else (if tiled i then Tile else Bad)))
    where
      back : (x y : TypeId) → physically_equal table x y ≡ true → physically_equal table y x ≡ true
      back x y h = (equal_equiv table).symm y x ∙ h

      begins-same : (t u s v : TypeId) → physically_equal table t s ≡ true → physically_equal table u v ≡ true → begins_with table t u ≡ begins_with table s v
      begins-same t u s v e f =
          same_answer (begins_with table t u) (begins_with table s v) (λ h. begins-alike t u s v h e f) (λ h. begins-alike s v t u h (back t s e) (back u v f))
