-- Two SEQ pointers of one part: their words are equal, ordered and so many elements apart as their offsets are.
use Rattle.std.proofs.Common.{◌≡◌, ℕ, ◌-◌, ◌%◌, ◌^◌, ◌<◌, ◌⊎◌, ⊎_elim, ℤ, pos, ◌+ℤ◌, ◌-ℤ◌, ◌<ℤ◌, ◌≤ℤ◌, Bool, true, false, not, List, length, nat_eq, refl, ap, sym, ◌∙◌, arith}
use Rattle.std.specs.Prelude.{int_lt, int_le, slice_index_or, ◌*ℤ◌}
use Rattle.std.specs.Ordering.{int_eq}
use Rattle.std.proofs.lemmas.Int.{ints}
use Rattle.std.proofs.lemmas.Bool.Decides.{nat_tests}
use Rattle.std.proofs.Math.Nat.{mod-eq_of_lt}
use Rattle.cc_base.specs.declared.number.TypeId.{TypeId}
use Rattle.c_types.specs.Table.{IsComplete, entry_at, is_complete}
use Rattle.c_types.specs.Layouts.{size_of}
use Rattle.c_types.specs.Cells.{raw}
use Rattle.c_types.specs.Equality.{cells_of, repeated_cell}
use Rattle.c_types.specs.Flows.{CellsAgree, IsOfOneClass}
use Rattle.c_types.specs.Sound.{IsWellFormed}
use Rattle.c_types.specs.Widths.{cell_width, before, stair, cured_distance}
use Rattle.type_laws.proofs.OneClass.{move-alike}
use Rattle.type_laws.proofs.Pointers.{class_turned}
use Rattle.type_laws.proofs.Stairs.{HasSteps, IsWithin, Splits, splits, stair-is, stair-step, stair-suc, stair-mono, stair-within, stair-zero, same_le}
use Rattle.kind_sites.specs.declared.site.Site.{Site}
use Rattle.integers.specs.Words.{word, residue}
use Rattle.integers.specs.Operators.{signed}
use Rattle.integers.proofs.SignedLaws.{signed-word}
use Rattle.integers.proofs.WordLaws.{residue-below}
use Rattle.src_mem.specs.Pointers.{Location, distance}
use Rattle.src_mem.specs.Memory.{Planned}
use Rattle.src_mem.specs.State.{Setting}
use Rattle.src_mem.specs.Outlines.{Outline}
use Rattle.src_mem.specs.Facts.{IsSequenceAt, IsSameShifted}
use Rattle.facts_kept.proofs.Blocks.{shifted-none}
use Rattle.cil_form.specs.Told.{AreSitesTold}
use Rattle.cil_facts.proofs.Homes.{complete-along}
use Rattle.sim_relation.proofs.Bounds.{distance-is, step_of, cell-steps, agree-width, width-most, widths}
use Rattle.sim_checks.proofs.Distances.{times-sum}
use Rattle.sim_checks.proofs.Sequences.{long, ends}
use Rattle.sim_checks.proofs.Sameness.{bool-same, eq-true, true-eq}
use Rattle.sim_checks.proofs.Standing.{near-small}
use Rattle.sim_laws.proofs.Comparisons.{int-same}
use Rattle.sim_laws.proofs.Tiles.{still, widths-alike}
use Rattle.sim_laws.proofs.Together.{RepetitionsAgree, repetitions-agree}

-- Integers

pub int-is : (x y : ℤ) → int_eq x y ≡ true → x ≡ y
int-is x y h = grind (arith, nat_tests, h)

less-is : (x y : ℤ) → int_lt x y ≡ not (int_le y x)
less-is x y = grind (arith, nat_tests)

below-one : (x y : ℤ) → x <ℤ y → x ≤ℤ (y -ℤ pos 1)
below-one x y h = omega (arith, ints, h)

case : (x y : ℤ) → (x <ℤ y) ⊎ ((y <ℤ x) ⊎ (x ≡ y))
case x y = grind (arith, ints)

less-not : (x y : ℤ) → x <ℤ y → x ≡ y → ⊥
less-not x y h e = absurd (omega (arith, ints, h, e))

-- an order that is kept is told, and so is equality
kept-less : (x y a b : ℤ) → (y ≤ℤ x → b ≤ℤ a) → (x <ℤ y → a <ℤ b) → int_lt x y ≡ int_lt a b
kept-less x y a b f g = less-is x y ∙ ap not (same_le y x b a f g) ∙ sym (less-is a b)

kept-equal : (x y a b : ℤ) → (x <ℤ y → a <ℤ b) → (y <ℤ x → b <ℤ a) → (x ≡ y → a ≡ b) → int_eq x y ≡ int_eq a b
kept-equal x y a b f g h = bool-same (int_eq x y) (int_eq a b) (λ e. int-same a b (h (int-is x y e)))
    (λ e. ⊎_elim (λ l. absurd (less-not a b (f l) (int-is a b e))) (λ r. ⊎_elim (λ l. absurd (less-not b a (g l) (sym (int-is a b e)))) (λ s. int-same x y s) r) (case x y))

equal-turned : (x y : ℤ) → int_eq x y ≡ int_eq y x
equal-turned x y = bool-same (int_eq x y) (int_eq y x) (λ e. int-same y x (sym (int-is x y e))) (λ e. int-same x y (sym (int-is y x e)))

-- so many elements further, once cured
pub stair-moved : (f : ℕ → ℕ) (n m : ℕ) → 0 < n → (z k : ℤ) → stair f n m (z +ℤ k *ℤ pos n) ≡ stair f n m z +ℤ k *ℤ pos m
stair-moved f n m some z k = of (splits n z some)
  where
    spread : (q k : ℤ) (n r : ℕ) → (q *ℤ pos n +ℤ pos r) +ℤ k *ℤ pos n ≡ (q +ℤ k) *ℤ pos n +ℤ pos r
    spread q k n r = let e = times-sum q k n in omega (arith, ints, e)

    of : Splits n z → stair f n m (z +ℤ k *ℤ pos n) ≡ stair f n m z +ℤ k *ℤ pos m
    of x =
        ap (λ (y : ℤ). stair f n m (y +ℤ k *ℤ pos n)) x.is ∙ ap (stair f n m) (spread x.q k n x.r) ∙ stair-is f n m (x.q +ℤ k) x.r x.below
        ∙ sym (spread x.q k m (f x.r)) ∙ ap (λ (y : ℤ). y +ℤ k *ℤ pos m) (sym (stair-is f n m x.q x.r x.below)) ∙ ap (λ (y : ℤ). stair f n m y +ℤ k *ℤ pos m) (sym x.is)

-- Steps of a type

module _ (w : Setting) (sound : IsWellFormed w.table) (t : TypeId) (complete : IsComplete w.table t) where
  abbrev W : ℤ → ℤ
  W d = widths w.kind (cells_of w.table t) d

  steps : HasSteps (before w.kind (cells_of w.table t)) (step_of w.kind (cells_of w.table t)) (length (cells_of w.table t))
  steps = cell-steps w.kind (cells_of w.table t) (ends w sound t complete).some

  -- the distance of a pointer that was made at a type of one class
  pub made-distance : (made : TypeId) → IsOfOneClass w.table w.kind made t → (d : ℤ)
      → cured_distance w.table w.kind made d ≡ stair (before w.kind (cells_of w.table t)) (length (cells_of w.table t)) (before w.kind (cells_of w.table t) (length (cells_of w.table t))) d
  made-distance made class d =
      move-alike w.table sound w.kind made t (complete-along w sound t made (class_turned w.table w.kind made t class) complete) complete class d
      ∙ distance-is w.table w.kind t complete (long w sound t complete) d

  -- of two distances at which elements begin the greater is greater once cured
  pub distances-less : (a b : ℤ) → IsSameShifted w t b → a <ℤ b → widths w.kind (cells_of w.table t) a <ℤ widths w.kind (cells_of w.table t) b
  distances-less a b shifted h = of (shifted.agree (n - 1))
    where
      n : ℕ
      n = length (cells_of w.table t)

      some : 0 < length (cells_of w.table t)
      some = (ends w sound t complete).some

      r : ℕ
      r = residue (b +ℤ pos (n - 1)) n

      up-to : W a ≤ℤ W (b -ℤ pos 1)
      up-to = stair-mono (before w.kind (cells_of w.table t)) (step_of w.kind (cells_of w.table t)) n steps a (b -ℤ pos 1) (below-one a b h)

      -- the step before the greater one
      step-is : W b ≡ W (b -ℤ pos 1) +ℤ pos (step_of w.kind (cells_of w.table t) r)
      step-is =
          let all : W (b +ℤ pos n) ≡ W b +ℤ pos (before w.kind (cells_of w.table t) n) = stair-step (before w.kind (cells_of w.table t)) n (before w.kind (cells_of w.table t) n) some b in
          let less : W ((b -ℤ pos 1) +ℤ pos n) ≡ W (b -ℤ pos 1) +ℤ pos (before w.kind (cells_of w.table t) n) =
          stair-step (before w.kind (cells_of w.table t)) n (before w.kind (cells_of w.table t) n) some (b -ℤ pos 1) in
          let e : (b +ℤ pos (n - 1)) +ℤ pos 1 ≡ b +ℤ pos n = omega (arith, ints, some) in
          let f : b +ℤ pos (n - 1) ≡ (b -ℤ pos 1) +ℤ pos n = omega (arith, ints, some) in
          let one : W ((b +ℤ pos (n - 1)) +ℤ pos 1) ≡ W (b +ℤ pos (n - 1)) +ℤ pos (step_of w.kind (cells_of w.table t) r) =
          stair-suc (before w.kind (cells_of w.table t)) (step_of w.kind (cells_of w.table t)) n steps (b +ℤ pos (n - 1)) in
          let i = ap W e in let j = ap W f in omega (arith, ints, all, less, one, i, j)

      of : CellsAgree w.table w.kind (repeated_cell (cells_of w.table t) (residue (b +ℤ pos (n - 1)) (size_of w.table t))) (repeated_cell (cells_of w.table t) (n - 1)) → W a <ℤ W b
      of agree =
          let whole = long w sound t complete in
          let below : r < n = residue-below (b +ℤ pos (n - 1)) n some in
          let first : cell_width w.kind (repeated_cell (cells_of w.table t) (residue (b +ℤ pos (n - 1)) (size_of w.table t))) ≡ step_of w.kind (cells_of w.table t) r =
          ap (λ (k : ℕ). cell_width w.kind (slice_index_or (cells_of w.table t) (residue (b +ℤ pos (n - 1)) k % n) raw)) (sym whole)
          ∙ ap (λ (k : ℕ). cell_width w.kind (slice_index_or (cells_of w.table t) k raw)) (mod-eq_of_lt below) in
          let l : n - 1 < n = omega (arith, some) in
          let second : cell_width w.kind (repeated_cell (cells_of w.table t) (n - 1)) ≡ step_of w.kind (cells_of w.table t) (n - 1) =
          ap (λ (k : ℕ). cell_width w.kind (slice_index_or (cells_of w.table t) k raw)) (mod-eq_of_lt l) in
          let same = agree-width w _ _ agree in let last = (ends w sound t complete).last in let e = step-is in let m = up-to in
          omega (arith, ints, first, second, same, last, e, m)

  pub distances-within : (d : ℤ) → IsWithin d (2 ^ 52) → IsWithin (widths w.kind (cells_of w.table t) d) (2 ^ 60)
  distances-within d h =
      let z = stair-within (before w.kind (cells_of w.table t)) (step_of w.kind (cells_of w.table t)) (length (cells_of w.table t)) 24 (2 ^ 52) steps
      (λ r. width-most w.kind (slice_index_or (cells_of w.table t) r raw)) d h in
      let a = z.low in let b = z.high in record { low = omega (arith, ints, a); high = omega (arith, ints, b) }

-- Pointers

-- how far a SEQ pointer stands behind the start of its part, once cured
pub record IsFar (w : Setting) (l : Location) (far : ℤ) : Type 0 where
  pub is : cured_distance w.table w.kind l.made (distance l) ≡ far
  pub near : IsWithin far (2 ^ 60)

-- two of them are so far that they are ordered as their offsets are, and equal where these are
pub record AreAlike (w : Setting) (k l : Location) : Type 0 where
  pub far_k : ℤ
  pub far_l : ℤ
  pub is_k : IsFar w k far_k
  pub is_l : IsFar w l far_l
  pub less : int_lt far_k far_l ≡ int_lt k.offset l.offset
  pub more : int_lt far_l far_k ≡ int_lt l.offset k.offset
  pub same : int_eq far_k far_l ≡ int_eq k.offset l.offset

alike-turned : (w : Setting) (k l : Location) → AreAlike w k l → AreAlike w l k
alike-turned w k l h = record {
  far_k = h.far_l;
  far_l = h.far_k;
  is_k = h.is_l;
  is_l = h.is_k;
  less = h.more;
  more = h.less;
  same = equal-turned h.far_l h.far_k ∙ h.same ∙ equal-turned k.offset l.offset;
}

-- distances from one byte that are kept in order
alike-by : (w : Setting) (k l : Location) (x y : ℤ) → IsFar w k x → IsFar w l y → k.part.low ≡ l.part.low → (distance k <ℤ distance l → x <ℤ y)
    → (distance l <ℤ distance k → y <ℤ x) → (distance k ≡ distance l → x ≡ y) → AreAlike w k l
alike-by w k l x y is_k is_l low less more same = record {
  far_k = x;
  far_l = y;
  is_k = is_k;
  is_l = is_l;
  less = sym (kept-less (distance k) (distance l) x y (at-most (distance k) (distance l) x y more same) less) ∙ lower k.offset l.offset k.part.low l.part.low low;
  more = sym (kept-less (distance l) (distance k) y x (at-most (distance l) (distance k) y x less (λ h. sym (same (sym h)))) more)
      ∙ lower l.offset k.offset l.part.low k.part.low (sym low);
  same = sym (kept-equal (distance k) (distance l) x y less more same) ∙ equal k.offset l.offset k.part.low l.part.low low;
}
  where
    at-most : (a b x y : ℤ) → (b <ℤ a → y <ℤ x) → (a ≡ b → x ≡ y) → b ≤ℤ a → y ≤ℤ x
    at-most a b x y less same h = ⊎_elim (λ l. absurd (omega (arith, ints, h, l)))
        (λ r. ⊎_elim (λ l. let e = less l in omega (arith, ints, e)) (λ e. let f = same e in omega (arith, ints, f)) r) (case a b)

    lower : (x y : ℤ) (a b : ℕ) → a ≡ b → int_lt (x -ℤ pos a) (y -ℤ pos b) ≡ int_lt x y
    lower x y a b e = kept-less (x -ℤ pos a) (y -ℤ pos b) x y (λ h. omega (arith, ints, h, e)) (λ h. omega (arith, ints, h, e))

    equal : (x y : ℤ) (a b : ℕ) → a ≡ b → int_eq (x -ℤ pos a) (y -ℤ pos b) ≡ int_eq x y
    equal x y a b e = kept-equal (x -ℤ pos a) (y -ℤ pos b) x y (λ h. omega (arith, ints, h, e)) (λ h. omega (arith, ints, h, e)) (λ h. omega (arith, ints, h, e))

module _ (w : Setting) (sound : IsWellFormed w.table) (outlines : List Outline) where
  -- to what has a size
  pub far-whole : (t : TypeId) (complete : IsComplete w.table t) (l : Location) → IsSequenceAt w outlines t l → IsFar w l (widths w.kind (cells_of w.table t) (distance l))
  far-whole t complete l v = record {
    is = made-distance w sound t complete l.made v.made (distance l);
    near = distances-within w sound t complete (distance l) (let a = v.least in let b = v.most in record { low = omega (arith, ints, a); high = omega (arith, ints, b) });
  }

  -- and to what has none: it stands where its part begins
  far-none : (t : TypeId) → is_complete (entry_at w.table t) ≡ false → (l : Location) → IsSequenceAt w outlines t l → IsFar w l (pos 0) × (distance l ≡ pos 0)
  far-none t none l v = (
    record { is = by (is_complete (entry_at w.table l.made)) refl; near = record { low = omega (arith, ints); high = omega (arith, ints) } },
    (v.unmoved (λ h. cc (h, none))).1,
  )
    where
      by : (b : Bool) → is_complete (entry_at w.table l.made) ≡ b → cured_distance w.table w.kind l.made (distance l) ≡ pos 0
      by true f = absurd (let h = complete-along w sound l.made t v.made f in cc (h, none))
      by false f = still w l.made f (distance l)

  -- to types that have sizes, and one endless repetition
  sized-alike : (t u : TypeId) → IsComplete w.table t → IsComplete w.table u → RepetitionsAgree w t u → (k l : Location) → IsSequenceAt w outlines t k
      → IsSequenceAt w outlines u l → k.part.low ≡ l.part.low → AreAlike w k l
  sized-alike t u ct cu agree k l v z low = alike-by w k l (widths w.kind (cells_of w.table t) (distance k)) (widths w.kind (cells_of w.table u) (distance l)) (far-whole t ct k v) (far-whole u cu l z) low
      (λ h. let e = moves (distance k) in let f = distances-less w sound u cu (distance k) (distance l) (z.shifted cu) h in omega (arith, ints, e, f))
      (λ h. let e = moves (distance l) in let f = distances-less w sound t ct (distance l) (distance k) (v.shifted ct) h in omega (arith, ints, e, f))
      (λ h. moves (distance k) ∙ ap (widths w.kind (cells_of w.table u)) h)
    where
      moves : (d : ℤ) → widths w.kind (cells_of w.table t) d ≡ widths w.kind (cells_of w.table u) d
      moves d = widths-alike w sound (cells_of w.table t) (cells_of w.table u) (ends w sound t ct).some (ends w sound u cu).some
          (λ i. agree-width w (repeated_cell (cells_of w.table t) i) (repeated_cell (cells_of w.table u) i) (agree i)) d

  -- the first to what has no size
  none-alike : (t u : TypeId) → is_complete (entry_at w.table t) ≡ false → IsComplete w.table u → (k l : Location) → IsSequenceAt w outlines t k → IsSequenceAt w outlines u l
      → k.part.low ≡ l.part.low → AreAlike w k l
  none-alike t u none cu k l v z low = alike-by w k l (pos 0) (widths w.kind (cells_of w.table u) (distance l)) start.0 (far-whole u cu l z) low
      (λ h. let e = start.1 in
      let f = distances-less w sound u cu (pos 0) (distance l) (z.shifted cu) (omega (arith, ints, h, e)) in let s = begin in omega (arith, ints, f, s))
      (λ h. let e = start.1 in
      let f = distances-less w sound u cu (distance l) (pos 0) (shifted-none w sound u cu) (omega (arith, ints, h, e)) in let s = begin in omega (arith, ints, f, s))
      (λ h. sym (ap (widths w.kind (cells_of w.table u)) (sym h ∙ start.1) ∙ begin))
    where
      start : IsFar w k (pos 0) × (distance k ≡ pos 0)
      start = far-none t none k v

      begin : widths w.kind (cells_of w.table u) (pos 0) ≡ pos 0
      begin = stair-zero (before w.kind (cells_of w.table u)) (step_of w.kind (cells_of w.table u)) (length (cells_of w.table u)) (steps w sound u cu)

  -- TWO SEQ POINTERS OF ONE PART
  pub alike : (sites : List Site) (planned : List Planned) → AreSitesTold w.table planned sites → (t u : TypeId) (k l : Location) → IsSequenceAt w outlines t k
      → IsSequenceAt w outlines u l → k.object ≡ l.object → k.part.low ≡ l.part.low → k.part.high ≡ l.part.high → AreAlike w k l
  alike sites planned told t u k l v z object low high = by (is_complete (entry_at w.table t)) refl (is_complete (entry_at w.table u)) refl
    where
      by : (p : Bool) → is_complete (entry_at w.table t) ≡ p → (q : Bool) → is_complete (entry_at w.table u) ≡ q → AreAlike w k l
      by true e true f = sized-alike t u e f (repetitions-agree w sound sites planned told outlines t u k l v z object low high e f) k l v z low
      by true e false f = alike-turned w l k (none-alike u t f e l k z v (sym low))
      by false e true f = none-alike t u e f k l v z low
      by false e false f =
          let x = far-none t e k v in let y = far-none u f l z in
          alike-by w k l (pos 0) (pos 0) x.0 y.0 low (λ h. let a = x.1 in let b = y.1 in absurd (omega (arith, ints, h, a, b)))
          (λ h. let a = x.1 in let b = y.1 in absurd (omega (arith, ints, h, a, b))) (λ h. refl)

-- Words

-- the word of an address that isn't far from another is read as an integer
far-word : (low : ℕ) (z : ℤ) → low < 2 ^ 33 → IsWithin z (2 ^ 60) → signed (word (pos low +ℤ z)) ≡ pos low +ℤ z
far-word low z small near = signed-word (pos low +ℤ z) (near-small (pos low +ℤ z)
    (let a = near.low in let b = near.high in record { low = omega (arith, ints, a, small); high = omega (arith, ints, b, small) }))

pub words-less : (low : ℕ) (x y : ℤ) → low < 2 ^ 33 → IsWithin x (2 ^ 60) → IsWithin y (2 ^ 60) → int_lt (signed (word (pos low +ℤ x))) (signed (word (pos low +ℤ y))) ≡ int_lt x y
words-less low x y small hx hy =
    ap (λ (z : ℤ). int_lt z (signed (word (pos low +ℤ y)))) (far-word low x small hx) ∙ ap (int_lt (pos low +ℤ x)) (far-word low y small hy)
    ∙ kept-less (pos low +ℤ x) (pos low +ℤ y) x y (λ h. omega (arith, ints, h)) (λ h. omega (arith, ints, h))

pub words-same : (low : ℕ) (x y : ℤ) → low < 2 ^ 33 → IsWithin x (2 ^ 60) → IsWithin y (2 ^ 60) → nat_eq (word (pos low +ℤ x)) (word (pos low +ℤ y)) ≡ int_eq x y
words-same low x y small hx hy = bool-same (nat_eq (word (pos low +ℤ x)) (word (pos low +ℤ y))) (int_eq x y)
    (λ e. int-same x y (added x y (sym (far-word low x small hx) ∙ ap signed (true-eq _ _ e) ∙ far-word low y small hy)))
    (λ e. eq-true _ _ (ap (λ (z : ℤ). word (pos low +ℤ z)) (int-is x y e)))
  where
    added : (x y : ℤ) → pos low +ℤ x ≡ pos low +ℤ y → x ≡ y
    added x y h = omega (arith, ints, h)
