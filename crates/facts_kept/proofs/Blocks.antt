-- Blocks and variables: the pointer to a new object is a value.
use Rattle.std.proofs.Common.{◌≡◌, ◌≢◌, ℕ, zero, suc, ◌+◌, ◌-◌, ◌%◌, ◌/◌, ◌*◌, ◌<◌, ◌≤◌, ◌≤ℤ◌, ◌⊎◌, pos, ◌+ℤ◌, ◌-ℤ◌, List, [], ◌∷◌, ◌++◌, length, slice_get, Some, refl, ap, sym, subst, ◌∙◌, ⊎_elim, arith}
use Rattle.std.specs.Prelude.{slice_index_or, IsFalse}
use Rattle.std.specs.List.{repeat}
use Rattle.std.proofs.lemmas.Int.{ints}
use Rattle.std.proofs.lemmas.Option.{slice_get_within}
use Rattle.std.proofs.lemmas.List.{length-replicate, length-take-le, length-append}
use Rattle.std.proofs.Math.Nat.{add-mod_right, mod-add-div'}
use native.Mathlib.Nat.{mod-lt, mod-eq_of_lt}
use Rattle.cc_base.specs.declared.number.TypeId.{TypeId}
use Rattle.cc_base.specs.declared.number.NodeId.{NodeId}
use Rattle.cc_base.specs.declared.kind.Kind.TheVariants.{Wild}
use Rattle.c_types.specs.Table.{IsComplete, is_function}
use Rattle.c_types.specs.Layouts.{size_of}
use Rattle.c_types.specs.Cells.{Cell, raw, pointer, IsBetweenPointers, AreOrdered}
use Rattle.c_types.specs.Equality.{cells_of, repeated_cell}
use Rattle.c_types.specs.Sound.{IsWellFormed}
use Rattle.type_laws.proofs.Pointers.{class_own, covers_own}
use Rattle.integers.specs.Words.{residue}
use Rattle.src_mem.specs.Pointers.{Location}
use Rattle.src_mem.specs.Memory.{block_cells}
use Rattle.src_mem.specs.State.{Setting}
use Rattle.c_types.specs.Flows.{CellsAgree}
use Rattle.src_mem.specs.Facts.{HoldType, IsBlockFor, IsSameShifted, sequence_least, sequence_most, IsLocated, IsTyped, StandsAt, IsSafeAt, IsTypedAt, IsSequenceAt, IsWildAt, IsTypedPlace}
use Rattle.c_types.proofs.OrderedPointers.{get_front, get_back}
use Rattle.src_mem.specs.Outlines.{Outline}
use Rattle.facts_kept.proofs.Agree.{agree-own, get-taken}
use Rattle.facts_kept.proofs.Flow.{rep-there}
use Rattle.facts_kept.proofs.Complete.{complete-some}

-- repetitions in lists
pub rep-get : (k : ℕ) (xs : List Cell) (i : ℕ) → i < k * length xs → slice_get (repeat k xs) i ≡ Some (repeated_cell xs i)
rep-get zero xs i h = absurd (omega (arith, h))
rep-get (suc k) xs i h = ⊎_elim
    (λ l. get_front xs (repeat k xs) i l ∙ ap (slice_get xs) (sym (mod-eq_of_lt l)) ∙ rep-there xs i (omega (arith, l)))
    (λ l.
    let e : length xs + (i - length xs) ≡ i = omega (arith, l) in
    let f : i - length xs + length xs ≡ i = omega (arith, l) in
    ap (slice_get (xs ++ repeat k xs)) (sym e) ∙ get_back xs (repeat k xs) (i - length xs) ∙ rep-get k xs (i - length xs) (less i (length xs) k h l)
    ∙ ap (λ j. Some (slice_index_or xs j raw)) (sym (add-mod_right (i - length xs) (length xs)) ∙ ap (λ j. j % length xs) f))
    (total i (length xs))
  where
    total : (a b : ℕ) → (a < b) ⊎ (b ≤ a)
    total a b = grind arith

    less : (i n k : ℕ) → i < suc k * n → n ≤ i → i - n < k * n
    less i n k h l = let e : suc k * n ≡ n + k * n = grind arith in omega (arith, e, h, l)

pub rep-length : (k : ℕ) (xs : List Cell) → length (repeat k xs) ≡ k * length xs
rep-length zero xs = omega arith
rep-length (suc k) xs = length-append xs (repeat k xs) ∙ ap (λ n. length xs + n) (rep-length k xs) ∙ times k (length xs)
  where
    times : (k n : ℕ) → n + k * n ≡ suc k * n
    times k n = grind arith

enough : (n m : ℕ) → 0 < m → n < suc (n / m) * m
enough n m h = let e = mod-add-div' n m in let l = mod-lt n h in let t : suc (n / m) * m ≡ m + n / m * m = times (n / m) m in omega (arith, e, l, t)
  where
    times : (k m : ℕ) → suc k * m ≡ m + k * m
    times k m = grind arith

pub block-get : (cells : List Cell) (n i : ℕ) → 0 < length cells → i < n → slice_get (block_cells cells n) i ≡ Some (repeated_cell cells i)
block-get [] n i some h = absurd (omega (arith, some))
block-get (c ∷ cs) n i some h =
    let l = enough n (length (c ∷ cs)) some in
    get-taken (repeat (suc (n / length (c ∷ cs))) (c ∷ cs)) n i h ∙ rep-get (suc (n / length (c ∷ cs))) (c ∷ cs) i (omega (arith, l, h))

pub block-length : (cells : List Cell) (n : ℕ) → length (block_cells cells n) ≡ n
block-length [] n = length-replicate n raw
block-length (c ∷ cs) n =
    let l = enough n (length (c ∷ cs)) (some cs) in let e = rep-length (suc (n / length (c ∷ cs))) (c ∷ cs) in length-take-le n
    (repeat (suc (n / length (c ∷ cs))) (c ∷ cs)) (omega (arith, l, e))
  where
    some : (cs : List Cell) → 0 < length (c ∷ cs)
    some cs = omega arith

-- a block of whole elements, or of what holds no pointer, holds whole pointers
pub record IsBlockOf (cells block : List Cell) (n : ℕ) : Type 0 where
  pub len : length block ≡ n
  pub get : (i : ℕ) → i < n → slice_get block i ≡ Some (repeated_cell cells i)

abbrev pub NoPointers : List Cell → Type 0
NoPointers cells = (i : ℕ) (m : NodeId) (t : TypeId) (j : ℕ) → slice_get cells i ≡ Some (pointer m t j) → Prim.⊥

pub whole-ordered : (cells block : List Cell) (n : ℕ) → 0 < length cells → IsBlockOf cells block n → AreOrdered cells → n % length cells ≡ 0
    → AreOrdered block
whole-ordered cells block n some b o whole = record {
  least =
      λ i j m t e. let l =
      o.least (i % length cells) j m t (from i (pointer m t j) e) in (l.0, let x = l.1 in let y = mod-le i in omega (arith, x, y));
  back = λ i j m t e.
      let f = from (suc i) (pointer m t (suc j)) e in
      let l = (o.least (suc i % length cells) (suc j) m t f).1 in
      let s = step i (omega (arith, l)) in
      let g = o.back (i % length cells) j m t (ap (slice_get cells) (sym s) ∙ f) in
      let h = slice_get_within block (suc i) (pointer m t (suc j)) e in
      to i (pointer m t j) (let k = b.len in omega (arith, h, k)) g;
  on = λ i j m t e h.
      let f = from i (pointer m t j) e in
      let g = o.on (i % length cells) j m t f h in
      let k = slice_get_within cells (suc (i % length cells)) (pointer m t (suc j)) g in
      let a = slice_get_within block i (pointer m t j) e in
      let s : suc i % length cells ≡ suc (i % length cells) = up i k in
      to (suc i) (pointer m t (suc j)) (let z = b.len in next i (omega (arith, a, z)) k) (ap (slice_get cells) s ∙ g);
}
  where
    mod-le : (i : ℕ) → i % length cells ≤ i
    mod-le i = Rattle.std.proofs.Math.Nat.mod-le i (length cells)

    from : (i : ℕ) (c : Cell) → slice_get block i ≡ Some c → slice_get cells (i % length cells) ≡ Some c
    from i c e = rep-there cells i some ∙ sym (b.get i (let l = slice_get_within block i c e in let k = b.len in omega (arith, l, k))) ∙ e

    to : (i : ℕ) (c : Cell) → i < n → slice_get cells (i % length cells) ≡ Some c → slice_get block i ≡ Some c
    to i c h e = b.get i h ∙ sym (rep-there cells i some) ∙ e

    up : (i : ℕ) → suc (i % length cells) < length cells → suc i % length cells ≡ suc (i % length cells)
    up i h =
        let e : suc i ≡ suc (i % length cells) + i / length cells * length cells = (let x = mod-add-div' i (length cells) in omega (arith, x)) in
        ap (λ z. z % length cells) e ∙ Rattle.std.proofs.Math.Nat.add-mul-mod_self_right (suc (i % length cells)) (i / length cells) (length cells)
        ∙ mod-eq_of_lt h

    step : (i : ℕ) → 0 < suc i % length cells → suc i % length cells ≡ suc (i % length cells)
    step i h =
        ⊎_elim (λ l. up i l) (λ e. absurd (let z : suc i % length cells ≡ 0 = last i e in omega (arith, z, h)))
        (case (suc (i % length cells)) (length cells) (mod-lt i some))
      where
        case : (a b : ℕ) → a ≤ b → (a < b) ⊎ (a ≡ b)
        case a b h = grind arith

        last : (i : ℕ) → suc (i % length cells) ≡ length cells → suc i % length cells ≡ 0
        last i e =
            let f : suc i ≡ 0 + suc (i / length cells) * length cells =
            (let x = mod-add-div' i (length cells) in let t : suc
            (i / length cells) * length cells ≡ length cells + i / length cells * length cells = times (i / length cells) (length cells) in
            omega (arith, x, t, e)) in
            ap (λ z. z % length cells) f ∙ Rattle.std.proofs.Math.Nat.add-mul-mod_self_right 0 (suc (i / length cells)) (length cells) ∙ zero-mod
            (length cells)
          where
            times : (k m : ℕ) → suc k * m ≡ m + k * m
            times k m = grind arith

            zero-mod : (n : ℕ) → 0 % n ≡ 0
            zero-mod n = grind arith

    next : (i : ℕ) → i < n → suc (i % length cells) < length cells → suc i < n
    next i h k =
        ⊎_elim (λ l. l) (λ e. absurd (let x = ap (λ z. z % length cells) e in let y = up i k in let z = whole in omega (arith, x, y, z)))
        (case (suc i) n h)
      where
        case : (a b : ℕ) → a ≤ b → (a < b) ⊎ (a ≡ b)
        case a b h = grind arith

module _ (w : Setting) (sound : IsWellFormed w.table) where
  -- the beginning and the end of an object cut no pointer
  start-between : (cells : List Cell) → AreOrdered cells → IsBetweenPointers cells 0
  start-between cells o = record { whole = λ n t i e. let l = (o.least 0 (suc i) n t e).1 in omega (arith, l) }

  end-between : (cells : List Cell) (n : ℕ) → length cells ≡ n → IsBetweenPointers cells n
  end-between cells n e = record { whole = λ m t i f. let l = slice_get_within cells n (pointer m t (suc i)) f in omega (arith, l, e) }

  -- cells that are a repetition of t
  pub record IsFilled (t : TypeId) (o : Outline) : Type 0 where
    pub untagged : w.kind o.node ≢ Wild
    pub ordered : AreOrdered o.cells
    pub celled : length o.cells ≡ o.size
    pub filled : 0 < length (cells_of w.table t) → (i : ℕ) → i < o.size → slice_get o.cells i ≡ Some (repeated_cell (cells_of w.table t) i)
    -- which goes on behind its end as it began
    pub again : IsComplete w.table t → 0 < o.size → (i : ℕ) → repeated_cell (cells_of w.table t) (i % o.size) ≡ repeated_cell (cells_of w.table t) i

  pub shifted-none : (t : TypeId) → IsComplete w.table t → IsSameShifted w t (pos 0)
  shifted-none t c = record {
    agree = λ i.
        let n = (complete-some w.table sound t c).1 in
        let e : residue (pos 0 +ℤ pos i) (size_of w.table t) ≡ i % length (cells_of w.table t) = ap (λ z. residue z (size_of w.table t)) (zero-plus i)
        ∙ ap (λ k. i % k) (sym n) in
        let f : repeated_cell (cells_of w.table t) (residue (pos 0 +ℤ pos i) (size_of w.table t)) ≡ repeated_cell (cells_of w.table t) i =
        ap (repeated_cell (cells_of w.table t)) e ∙ ap (λ k. slice_index_or (cells_of w.table t) k raw)
        (Rattle.std.proofs.Math.Nat.mod-mod i (length (cells_of w.table t))) in
        subst (λ c. CellsAgree w.table w.kind (repeated_cell (cells_of w.table t) (residue (pos 0 +ℤ pos i) (size_of w.table t))) c) f
        (agree-own w sound (repeated_cell (cells_of w.table t) (residue (pos 0 +ℤ pos i) (size_of w.table t))));
  }
    where
      zero-plus : (i : ℕ) → pos 0 +ℤ pos i ≡ pos i
      zero-plus i = omega (arith, ints)

  module _ (outlines : List Outline) (number : ℕ) (o : Outline) (found : slice_get outlines number ≡ Some o) (t : TypeId) where
    whole-pointer : Location
    whole-pointer = record { object = number; part = record { low = 0; high = o.size }; offset = pos 0; made = t }

    abbrev here : Location
    here = record { object = number; part = record { low = 0; high = o.size }; offset = pos 0; made = t }

    located : IsLocated outlines here o
    located = record { found = found; ordered = omega arith; inside = omega arith }

    typed : IsFilled t o → IsTyped w here o
    typed f = record { untagged = f.untagged; low = start-between o.cells f.ordered; high = end-between o.cells o.size f.celled }

    stands : IsFilled t o → StandsAt here o 0
    stands f = record { offset = refl; low = omega arith; high = omega arith; whole = start-between o.cells f.ordered }

    hold : IsFilled t o → length (cells_of w.table t) ≤ o.size → HoldType w o.cells 0 o.size t
    hold f h = record {
      room = omega (arith, h);
      agree = λ i d e.
          let l = slice_get_within (cells_of w.table t) i d e in
          let z : 0 + i ≡ i = omega arith in
          let g : slice_get (cells_of w.table t) i ≡ Some (repeated_cell (cells_of w.table t) i) = ap (slice_get (cells_of w.table t))
          (sym (mod-eq_of_lt l)) ∙ rep-there (cells_of w.table t) i (omega (arith, l)) in
          (d, ap (slice_get o.cells) z ∙ f.filled (omega (arith, l)) i (omega (arith, l, h)) ∙ sym g ∙ e, agree-own w sound d);
    }

    -- SAFE and RTTI, once BOUNDS held
    pub block-safe : IsFilled t o → IsFalse (is_function w.table t) → length (cells_of w.table t) ≤ o.size → IsSafeAt w outlines t here
    block-safe f d h =
        record {
          object = o;
          at = 0;
          located = located;
          typed = typed f;
          stands = stands f;
          data_type = d;
          holds = hold f h;
          covers = covers_own w.table w.kind t d;
        }

    pub block-typed : IsFilled t o → IsFalse (is_function w.table t) → length (cells_of w.table t) ≤ o.size → IsTypedAt w outlines t here
    block-typed f d h =
        record { object = o; at = 0; located = located; typed = typed f; stands = stands f; holds = hold f h; covers = covers_own w.table w.kind t d }

    pub block-place : IsFilled t o → length (cells_of w.table t) ≤ o.size → IsTypedPlace w outlines t here
    block-place f h = record { object = o; at = 0; located = located; typed = typed f; stands = stands f; holds = hold f h }

    -- SEQ, to a complete type that it was made for, or to void
    pub block-seq : IsFilled t o → ((IsComplete w.table t → Prim.⊥) → cells_of w.table t ≡ []) → (IsComplete w.table t → IsBlockFor w o.node t) → IsSequenceAt w outlines t here
    block-seq f void made_for = record {
      object = o;
      located = located;
      typed = typed f;
      made = class_own w.table w.kind t;
      least = near;
      most = near';
      filled =
          λ c. record {
            agree = λ h i.
                let some = (complete-some w.table sound t c).0 in let z : o.size - 0 ≡ o.size = omega arith in let y : 0 + i % o.size ≡ i % o.size = omega arith in (
                  repeated_cell (cells_of w.table t) (i % o.size),
                  ap (λ k. slice_get o.cells (0 + i % k)) z ∙ ap (slice_get o.cells) y ∙ f.filled some (i % o.size) (mod-lt i h),
                  subst (CellsAgree w.table w.kind (repeated_cell (cells_of w.table t) (i % o.size))) (f.again c h i)
                      (agree-own w sound (repeated_cell (cells_of w.table t) (i % o.size))),
                );
          };
      blank = λ c e. made_for c;
      shifted = λ c. subst (IsSameShifted w t) (sym none) (shifted-none t c);
      unmoved = λ c. (void c, none);
    }
      where
        none : pos 0 -ℤ pos 0 ≡ pos 0
        none = omega (arith, ints)

        near : sequence_least ≤ℤ (pos 0 -ℤ pos 0)
        near = omega (arith, ints)

        near' : (pos 0 -ℤ pos 0) ≤ℤ sequence_most
        near' = omega (arith, ints)

    pub block-wild : w.kind o.node ≡ Wild → IsWildAt w outlines here
    block-wild h = record { object = o; found = found; tagged = h; low = refl; high = refl; least = omega (arith, ints); most = omega (arith, ints) }
