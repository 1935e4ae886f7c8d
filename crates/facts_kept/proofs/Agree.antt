-- Cells that agree: an equivalence; types of one class and what a type covers agree cell by cell; types that tile too.
use Rattle.std.proofs.Common.{◌≡◌, ℕ, zero, suc, ◌-◌, ◌<◌, ◌≤◌, Bool, true, false, ◌&&◌, List, [], ◌∷◌, length, take, slice_get, Option, Some, nat_lt, refl, ap, sym, ◌∙◌, arith, if◌then◌else◌}
use Rattle.std.specs.Prelude.{◌==◌, IsTrue, IsFalse}
use Rattle.std.proofs.lemmas.Bool.Decides.{nat_tests}
use Rattle.cc_base.specs.declared.number.TypeId.{TypeId}
use Rattle.cc_base.specs.declared.number.NodeId.{NodeId}
use Rattle.c_types.specs.Table.{Table, shape_at, is_function}
use Rattle.c_types.specs.Cells.{Cell, raw, pointer, mixed, incomplete, Relation, alike, all_alike, same_type, AreOrdered}
use Rattle.std.specs.Int.{IsGcd}
use Rattle.std.specs.List.{list_all, range_with_len}
use Rattle.std.proofs.lemmas.Option.{slice_get_within}
use Rattle.c_types.specs.Equality.{bytes, makeup_of, same_makeup, made_alike, physically_equal, cells_of}
use Rattle.type_laws.proofs.Levels.{still}
use Rattle.type_laws.proofs.Relations.{cells_equiv, same_id, equal_equiv}
use Rattle.c_types.specs.Flows.{HeldPointer, pointer_in_cell, pointer_at, and_then, StandAlike, Correspond, top, inside, CorrespondByPlace, HaveEqualKinds, IsOfOneClass, Covers, CellsAgree}
use Rattle.c_types.specs.Sound.{IsWellFormed}
use Rattle.type_laws.proofs.Pointers.{class_own, class_turned, class_twice}
use Rattle.c_types.proofs.OrderedPointers.{cells_ordered, first_byte}
use Rattle.src_mem.specs.State.{Setting}
use Rattle.type_laws.proofs.OneClass.{data-makeup, data-pointer}

module _ (w : Setting) (sound : IsWellFormed w.table) where
  pub agree-own : (c : Cell) → CellsAgree w.table w.kind c c
  agree-own raw = tt
  agree-own (pointer n t i) = (refl, refl, class_own w.table w.kind t)
  agree-own (mixed u i) = (refl, refl)
  agree-own (incomplete t) = refl

  pub agree-turned : (c d : Cell) → CellsAgree w.table w.kind c d → CellsAgree w.table w.kind d c
  agree-turned raw raw h = tt
  agree-turned raw (pointer m u j) h = absurd h
  agree-turned raw (mixed u j) h = absurd h
  agree-turned raw (incomplete u) h = absurd h
  agree-turned (pointer n t i) raw h = absurd h
  agree-turned (pointer n t i) (pointer m u j) h = (sym h.0, sym h.1, class_turned w.table w.kind t u h.2)
  agree-turned (pointer n t i) (mixed u j) h = absurd h
  agree-turned (pointer n t i) (incomplete u) h = absurd h
  agree-turned (mixed t i) raw h = absurd h
  agree-turned (mixed t i) (pointer m u j) h = absurd h
  agree-turned (mixed t i) (mixed u j) h = (sym h.0, sym h.1)
  agree-turned (mixed t i) (incomplete u) h = absurd h
  agree-turned (incomplete t) raw h = absurd h
  agree-turned (incomplete t) (pointer m u j) h = absurd h
  agree-turned (incomplete t) (mixed u j) h = absurd h
  agree-turned (incomplete t) (incomplete u) h = sym h

  pub agree-twice : (c d e : Cell) → CellsAgree w.table w.kind c d → CellsAgree w.table w.kind d e → CellsAgree w.table w.kind c e
  agree-twice raw raw e h k = k
  agree-twice raw (pointer m u j) e h k = absurd h
  agree-twice raw (mixed u j) e h k = absurd h
  agree-twice raw (incomplete u) e h k = absurd h
  agree-twice (pointer n t i) raw e h k = absurd h
  agree-twice (pointer n t i) (pointer m u j) raw h k = absurd k
  agree-twice (pointer n t i) (pointer m u j) (pointer o v l) h k = (h.0 ∙ k.0, h.1 ∙ k.1, class_twice w.table w.kind sound t u v h.2 k.2)
  agree-twice (pointer n t i) (pointer m u j) (mixed v l) h k = absurd k
  agree-twice (pointer n t i) (pointer m u j) (incomplete v) h k = absurd k
  agree-twice (pointer n t i) (mixed u j) e h k = absurd h
  agree-twice (pointer n t i) (incomplete u) e h k = absurd h
  agree-twice (mixed t i) raw e h k = absurd h
  agree-twice (mixed t i) (pointer m u j) e h k = absurd h
  agree-twice (mixed t i) (mixed u j) raw h k = absurd k
  agree-twice (mixed t i) (mixed u j) (pointer o v l) h k = absurd k
  agree-twice (mixed t i) (mixed u j) (mixed v l) h k = (h.0 ∙ k.0, h.1 ∙ k.1)
  agree-twice (mixed t i) (mixed u j) (incomplete v) h k = absurd k
  agree-twice (mixed t i) (incomplete u) e h k = absurd h
  agree-twice (incomplete t) raw e h k = absurd h
  agree-twice (incomplete t) (pointer m u j) e h k = absurd h
  agree-twice (incomplete t) (mixed u j) e h k = absurd h
  agree-twice (incomplete t) (incomplete u) raw h k = absurd k
  agree-twice (incomplete t) (incomplete u) (pointer o v l) h k = absurd k
  agree-twice (incomplete t) (incomplete u) (mixed v l) h k = absurd k
  agree-twice (incomplete t) (incomplete u) (incomplete v) h k = h ∙ k

pub first : (a b : Bool) → (a && b) ≡ true → a ≡ true
first true b h = refl
first false b h = h

pub second : (a b : Bool) → (a && b) ≡ true → b ≡ true
second true b h = h
second false b h = absurd (cc (h))

pub negated : (b : Bool) → Rattle.std.specs.Prelude.not b ≡ true → b ≡ false
negated true h = absurd (cc (h))
negated false h = refl

pub pointer-there : (table : Table) (t : TypeId) → is_function table t ≡ false → (i : ℕ) (n : NodeId) (u : TypeId)
    → slice_get (cells_of table t) i ≡ Some (pointer n u 0) → pointer_at table t i ≡ Some (record { node = n; to = u })
pointer-there table t c i n u e = data-pointer table t (shape_at table t) i c ∙ ap (λ (x : Option Cell). and_then x pointer_in_cell) e

pub cells-alike : (table : Table) → IsWellFormed table → (t u : TypeId) → is_function table t ≡ false → is_function table u ≡ false
    → physically_equal table t u ≡ true → all_alike (physically_equal table) (cells_of table t) (cells_of table u) ≡ true
cells-alike table w t u ct cu h = by (nat_lt t.0 (length table)) (nat_lt u.0 (length table)) (sym (ap (λ E. E t u) (still table w)) ∙ h)
  where
    both : made_alike table (physically_equal table) t u ≡ true → all_alike (physically_equal table) (cells_of table t) (cells_of table u) ≡ true
    both e =
        sym
        (ap (λ x. same_makeup (physically_equal table) x (bytes (cells_of table u)))
        (data-makeup table (physically_equal table) t (shape_at table t) ct))
        ∙ sym
        (ap (same_makeup (physically_equal table) (makeup_of table (physically_equal table) t (shape_at table t)))
        (data-makeup table (physically_equal table) u (shape_at table u) cu))
        ∙ e

    same : t.0 ≡ u.0 → all_alike (physically_equal table) (cells_of table t) (cells_of table u) ≡ true
    same e =
        ap (λ n. all_alike (physically_equal table) (cells_of table (record { 0 = n })) (cells_of table u)) e ∙ (cells_equiv (equal_equiv table)).refl
        (cells_of table u)

    by : (a b : Bool) → (if a && b then made_alike table (physically_equal table) t u else same_type t u) ≡ true
        → all_alike (physically_equal table) (cells_of table t) (cells_of table u) ≡ true
    by true true e = both e
    by true false e = same (same_id t u e)
    by false true e = same (same_id t u e)
    by false false e = same (same_id t u e)

pub get-taken : (xs : List Cell) (n i : ℕ) → i < n → slice_get (take n xs) i ≡ slice_get xs i
get-taken xs zero i h = absurd (omega arith)
get-taken [] (suc n) i h = refl
get-taken (x ∷ xs) (suc n) zero h = refl
get-taken (x ∷ xs) (suc n) (suc i) h = get-taken xs n i (omega arith)

-- what is alike to a list has as much
pub alike-there : (E : Relation) (xs ys : List Cell) → all_alike E xs ys ≡ true → (i : ℕ) (d : Cell) → slice_get ys i ≡ Some d
    → (c : Cell) × (slice_get xs i ≡ Some c) × (alike E c d ≡ true)
alike-there E xs [] h i d e = absurd (cc (e))
alike-there E [] (y ∷ ys) h i d e = absurd (cc (h))
alike-there E (x ∷ xs) (y ∷ ys) h zero d e = let f : y ≡ d = cc (e) in (x, refl, ap (alike E x) (sym f) ∙ first (alike E x y) (all_alike E xs ys) h)
alike-there E (x ∷ xs) (y ∷ ys) h (suc i) d e = alike-there E xs ys (second (alike E x y) (all_alike E xs ys) h) i d e

pub id-is : (t u : TypeId) → same_type t u ≡ true → t ≡ u
id-is t u h = ap (λ (n : ℕ). record { 0 = n }) (same_id t u h)

pub number-is : (i j : ℕ) → (i == j) ≡ true → i ≡ j
number-is i j h = grind (arith, nat_tests)

module _ (w : Setting) (sound : IsWellFormed w.table) where
  E : Relation
  E = physically_equal w.table

  deeper : (Top : HeldPointer → HeldPointer → Type 0) (p q r s : HeldPointer) → Top p q → CorrespondByPlace w.table p.to q.to r s
      → Correspond w.table Top r s
  deeper Top p q r s here (top c d a) = inside p q c d (top p q here) a
  deeper Top p q r s here (inside a b c d before e) = inside a b c d (deeper Top p q a b here before) e

  -- alike cells agree where the pointers that begin there correspond
  pub agree-top : (Top : HeldPointer → HeldPointer → Type 0) → HaveEqualKinds w.kind (Correspond w.table Top) → (xs ys : List Cell) → AreOrdered xs
      → AreOrdered ys
      → (i k : ℕ) (c d : Cell) → slice_get xs i ≡ Some c → slice_get ys k ≡ Some d → alike (physically_equal w.table) c d ≡ true
      →
      ((j : ℕ) (n m : NodeId) (a b : TypeId) → j ≤ i → j ≤ k → slice_get xs (i - j) ≡ Some (pointer n a 0) → slice_get ys (k - j) ≡ Some
      (pointer m b 0) → Top (record { node = n; to = a }) (record { node = m; to = b }))
      → CellsAgree w.table w.kind c d
  agree-top Top same xs ys ox oy i k raw raw e f h tops = tt
  agree-top Top same xs ys ox oy i k raw (pointer m b l) e f h tops = absurd (cc (h))
  agree-top Top same xs ys ox oy i k raw (mixed v l) e f h tops = absurd (cc (h))
  agree-top Top same xs ys ox oy i k raw (incomplete v) e f h tops = absurd (cc (h))
  agree-top Top same xs ys ox oy i k (pointer n a j) raw e f h tops = absurd (cc (h))
  agree-top Top same xs ys ox oy i k (pointer n a j) (mixed v l) e f h tops = absurd (cc (h))
  agree-top Top same xs ys ox oy i k (pointer n a j) (incomplete v) e f h tops = absurd (cc (h))
  agree-top Top same xs ys ox oy i k (mixed v j) raw e f h tops = absurd (cc (h))
  agree-top Top same xs ys ox oy i k (mixed v j) (pointer m b l) e f h tops = absurd (cc (h))
  agree-top Top same xs ys ox oy i k (mixed v j) (mixed x l) e f h tops =
      (id-is v x (first (same_type v x) (j == l) h), number-is j l (second (same_type v x) (j == l) h))
  agree-top Top same xs ys ox oy i k (mixed v j) (incomplete x) e f h tops = absurd (cc (h))
  agree-top Top same xs ys ox oy i k (incomplete v) raw e f h tops = absurd (cc (h))
  agree-top Top same xs ys ox oy i k (incomplete v) (pointer m b l) e f h tops = absurd (cc (h))
  agree-top Top same xs ys ox oy i k (incomplete v) (mixed x l) e f h tops = absurd (cc (h))
  agree-top Top same xs ys ox oy i k (incomplete v) (incomplete x) e f h tops = id-is v x h
  agree-top Top same xs ys ox oy i k (pointer n a j) (pointer m b l) e f h tops =
      let jl : j ≡ l = number-is j l (first (j == l) (physically_equal w.table a b) h) in
      let e' = first_byte xs ox j i n a e in
      let f' : slice_get ys (k - j) ≡ Some (pointer m b 0) = ap (λ x. slice_get ys (k - x)) jl ∙ first_byte ys oy l k m b f in
      let here = tops j n m a b (ox.least i j n a e).1 (let z = (oy.least k l m b f).1 in omega (arith, z, jl)) e' f' in (
        jl,
        same (record { node = n; to = a }) (record { node = m; to = b }) (top (record { node = n; to = a }) (record { node = m; to = b }) here),
        record {
          equal = second (j == l) (physically_equal w.table a b) h;
          kinds = λ r s x. same r s
              (deeper Top (record { node = n; to = a }) (record { node = m; to = b }) r s here x);
        },
      )

  -- cells that are alike from the first on, of data types whose pointers at the same places have equal kinds
  pub agree-placed : (t u : TypeId) → is_function w.table t ≡ false → is_function w.table u ≡ false
      → HaveEqualKinds w.kind (CorrespondByPlace w.table t u)
      → (i : ℕ) (c d : Cell) → slice_get (cells_of w.table t) i ≡ Some c → slice_get (cells_of w.table u) i ≡ Some d
      → alike (physically_equal w.table) c d ≡ true → CellsAgree w.table w.kind c d
  agree-placed t u ft fu same i c d e f h =
      agree-top (StandAlike w.table t u) same (cells_of w.table t) (cells_of w.table u) (cells_ordered w.table sound t)
      (cells_ordered w.table sound u) i i c d e f h
      (λ j n m a b l k x y. (i - j, pointer-there w.table t ft (i - j) n a x, pointer-there w.table u fu (i - j) m b y))

  -- what a type covers agrees with its cells
  pub covered-cells : (t u : TypeId) → Covers w.table w.kind t u → (i : ℕ) (d : Cell) → slice_get (cells_of w.table u) i ≡ Some d
      → (c : Cell) × (slice_get (cells_of w.table t) i ≡ Some c) × CellsAgree w.table w.kind c d
  covered-cells t u h i d e =
      let rest = second (Rattle.std.specs.Prelude.not (is_function w.table t)) _ h.begins in
      let ft = negated (is_function w.table t) (first (Rattle.std.specs.Prelude.not (is_function w.table t)) _ h.begins) in
      let fu = negated (is_function w.table u) (first (Rattle.std.specs.Prelude.not (is_function w.table u)) _ rest) in
      let b = second (Rattle.std.specs.Prelude.not (is_function w.table u)) _ rest in
      let x = alike-there (physically_equal w.table) (take (length (cells_of w.table u)) (cells_of w.table t)) (cells_of w.table u) b i d e in
      let f = sym (get-taken (cells_of w.table t) (length (cells_of w.table u)) i (slice_get_within (cells_of w.table u) i d e)) ∙ x.1 in
      (x.0, f, agree-placed t u ft fu h.kinds i x.0 d f e x.2)

  -- the cells of types of one class agree, byte by byte
  pub class-cells : (t u : TypeId) → is_function w.table t ≡ false → is_function w.table u ≡ false → IsOfOneClass w.table w.kind t u
      → (i : ℕ) (d : Cell) → slice_get (cells_of w.table u) i ≡ Some d
      → (c : Cell) × (slice_get (cells_of w.table t) i ≡ Some c) × CellsAgree w.table w.kind c d
  class-cells t u ft fu h i d e =
      let x = alike-there (physically_equal w.table) (cells_of w.table t) (cells_of w.table u) (cells-alike w.table sound t u ft fu h.equal) i d e in
      (x.0, x.1, agree-placed t u ft fu h.kinds i x.0 d x.1 e x.2)
