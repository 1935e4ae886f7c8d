-- Conversions: every allowed flow, whose conditions hold, gives a value of the target.
use Rattle.std.proofs.Common.{◌≡◌, ◌≢◌, ℕ, suc, ◌+◌, ◌-◌, ◌%◌, ◌/◌, ◌*◌, ◌<◌, ◌≤◌, ◌⊎◌, ℤ, pos, negsuc, ◌+ℤ◌, Bool, true, false, not, ◌&&◌, ◌||◌, List, [], ◌∷◌, length, slice_get, Some, refl, ap, sym, subst, inl, inr, ◌∙◌, ⊎_elim, arith, if◌then◌else◌}
use Rattle.std.specs.Prelude.{IsTrue, slice_index_or}
use Rattle.std.proofs.Math.Nat.{mod-mod, mod-mod_of_dvd, mul-pos, dvd-mul_right, mod-add-div', add-mul-mod_self_right}
use Rattle.std.proofs.lemmas.Option.{slice_get_within}
use native.Mathlib.Nat.{mod-lt, mod-eq_of_lt}
use Rattle.cc_base.specs.declared.number.TypeId.{TypeId}
use Rattle.cc_base.specs.declared.number.NodeId.{NodeId}
use Rattle.cc_base.specs.declared.kind.Kind.{Kind}
use Rattle.cc_base.specs.declared.kind.Kind.TheVariants.{Safe, Seq, Rtti, Wild}
use Rattle.kind_sites.specs.declared.site.Site.{Site}
use Rattle.c_types.specs.declared.flow_class.FlowClass.{FlowClass}
use Rattle.c_types.specs.declared.flow_class.FlowClass.TheVariants.{Equal, UpTile, Up, DownTile, Down, Tile, Bad}
use Rattle.c_types.specs.Table.{IsComplete, is_complete, entry_at, is_function}
use Rattle.c_types.specs.Layouts.{size_of}
use Rattle.c_types.specs.Cells.{Cell, raw}
use Rattle.c_types.specs.Equality.{physically_equal, cells_of, repeated_cell, tile}
use Rattle.c_types.specs.Flows.{Correspond, CorrespondAtTop, HaveEqualKinds, IsOfOneClass, Covers, flow_class, CellsAgree}
use Rattle.kind_sites.specs.Solutions.{allows, is_upward, is_downward, is_tiled, HasBelow, IsPointeeAllowed}
use Rattle.c_types.specs.Sound.{IsWellFormed}
use Rattle.type_laws.proofs.Pointers.{class_own, class_turned, class_twice, covers_own, covers_twice}
use Rattle.type_laws.proofs.Sizes.{equal_counts}
use Rattle.type_laws.proofs.Coverage.{covers_is}
use Rattle.integers.specs.Words.{residue}
use Rattle.src_mem.specs.Outlines.{Outline}
use Rattle.src_mem.specs.Pointers.{Location, Pointer, Null, Number, At, Function, distance}
use Rattle.src_mem.specs.Memory.{Memory}
use Rattle.src_mem.specs.Checks.{Conversion, conditions_of_conversion, conditions_by_kinds, null_or_in_bounds, downcast}
use Rattle.src_mem.specs.Primitives.{is_made_anew, made_at}
use Rattle.src_mem.specs.State.{Setting}
use Rattle.src_mem.specs.Facts.{HoldType, RepeatAlike, IsBlockFor, IsSameShifted, IsSafeAt, IsTypedAt, IsSequenceAt, IsFunctionOf, IsValueOf, IsMade}
use Rattle.facts_kept.specs.Kept.{IsFlow, AllHold}
use Rattle.facts_kept.proofs.Agree.{agree-turned, agree-twice, first, second, negated}
use Rattle.facts_kept.proofs.Flow.{Tells, class-tells, up-told, tiled-told, equal-data, begins-data, covers-up, by-place, rep-there, tile-some, tile-in-class}
use Rattle.facts_kept.proofs.Complete.{complete-like, complete-some, function-empty}
use Rattle.facts_kept.proofs.Holds.{in-bounds, class-covers, class-data, covered-holds, seq-cell, seq-stands, seq-holds}

abbrev pub converted : FlowClass → Kind → Kind → TypeId → Pointer → Pointer
converted class from to u p = if is_made_anew class from to then made_at u p else p

-- a location whose made type is another
abbrev pub remade : TypeId → Location → Location
remade u l = record l { made = u }

kept-safe : (class : FlowClass) (u : TypeId) (p : Pointer) → converted class Safe Safe u p ≡ p
kept-safe Equal u p = refl
kept-safe UpTile u p = refl
kept-safe Up u p = refl
kept-safe DownTile u p = refl
kept-safe Down u p = refl
kept-safe Tile u p = refl
kept-safe Bad u p = refl

kept-safe-rtti : (class : FlowClass) (u : TypeId) (p : Pointer) → converted class Safe Rtti u p ≡ p
kept-safe-rtti Equal u p = refl
kept-safe-rtti UpTile u p = refl
kept-safe-rtti Up u p = refl
kept-safe-rtti DownTile u p = refl
kept-safe-rtti Down u p = refl
kept-safe-rtti Tile u p = refl
kept-safe-rtti Bad u p = refl

kept-rtti-safe : (class : FlowClass) (u : TypeId) (p : Pointer) → converted class Rtti Safe u p ≡ p
kept-rtti-safe Equal u p = refl
kept-rtti-safe UpTile u p = refl
kept-rtti-safe Up u p = refl
kept-rtti-safe DownTile u p = refl
kept-rtti-safe Down u p = refl
kept-rtti-safe Tile u p = refl
kept-rtti-safe Bad u p = refl

kept-rtti : (class : FlowClass) (u : TypeId) (p : Pointer) → converted class Rtti Rtti u p ≡ p
kept-rtti Equal u p = refl
kept-rtti UpTile u p = refl
kept-rtti Up u p = refl
kept-rtti DownTile u p = refl
kept-rtti Down u p = refl
kept-rtti Tile u p = refl
kept-rtti Bad u p = refl

kept-wild : (class : FlowClass) (u : TypeId) (p : Pointer) → converted class Wild Wild u p ≡ p
kept-wild Equal u p = refl
kept-wild UpTile u p = refl
kept-wild Up u p = refl
kept-wild DownTile u p = refl
kept-wild Down u p = refl
kept-wild Tile u p = refl
kept-wild Bad u p = refl

made-seq : (class : FlowClass) (from : Kind) (u : TypeId) (p : Pointer) → converted class from Seq u p ≡ made_at u p
made-seq class from u p = refl

either-true : (a b : Bool) → (a || b) ≡ true → (a ≡ true) ⊎ (b ≡ true)
either-true true b h = inl refl
either-true false b h = inr h

module _ (w : Setting) (sound : IsWellFormed w.table) (outlines : List Outline) where
  -- SAFE to SAFE
  pub safe-function : (t u : TypeId) (f : ℕ) → is_function w.table t ≡ true → IsOfOneClass w.table w.kind t u → IsFunctionOf w t f
      → IsFunctionOf w u f
  safe-function t u f ft one h = record {
    function = h.function;
    found = h.found;
    type = by (is_function w.table u) refl;
    class = class_twice w.table w.kind sound h.function.type t u h.class one;
  }
    where
      by : (b : Bool) → is_function w.table u ≡ b → b ≡ true
      by true e = refl
      by false e = absurd (let g = class-data w sound t u e one in cc (g, ft))

  function-class : (t u : TypeId) (class : FlowClass) → is_function w.table t ≡ true → is_upward class ≡ true → Tells w.table t u class
      → HaveEqualKinds w.kind (Correspond w.table (CorrespondAtTop w.table class t u)) → IsOfOneClass w.table w.kind t u
  function-class t u class ft k told same = record {
    equal = ⊎_elim (λ e. e) (λ b. absurd (let g = (begins-data w.table t u b).0 in cc (g, ft))) (up-told w.table t u class told k);
    kinds = by-place w.table w.kind t u class k same;
  }

  pub safe-at : (t u : TypeId) (l : Location) → Covers w.table w.kind t u → IsSafeAt w outlines t l → IsSafeAt w outlines u l
  safe-at t u l c s = record {
    object = s.object;
    at = s.at;
    located = s.located;
    typed = s.typed;
    stands = s.stands;
    data_type = (begins-data w.table t u c.begins).1;
    holds = covered-holds w sound t u c s.object.cells s.at l.part.high s.holds;
    covers = covers_twice w.table w.kind sound l.made t u s.covers c;
  }

  -- SAFE to RTTI: what it was made for is of one class with what it points to
  pub safe-typed : (t u : TypeId) (l : Location) → physically_equal w.table l.made t ≡ true → Covers w.table w.kind t u → IsSafeAt w outlines t l
      → IsTypedAt w outlines u l
  safe-typed t u l e c s = record {
    object = s.object;
    at = s.at;
    located = s.located;
    typed = s.typed;
    stands = s.stands;
    holds =
        covered-holds w sound t l.made
        (class-covers w sound t l.made s.data_type
        (class_turned w.table w.kind l.made t (record { equal = e; kinds = s.covers.kinds }))) s.object.cells s.at l.part.high s.holds;
    covers = covers_twice w.table w.kind sound l.made t u s.covers c;
  }

  -- RTTI to what the made type covers
  pub typed-safe : (t u : TypeId) (l : Location) → Covers w.table w.kind l.made u → IsTypedAt w outlines t l → IsSafeAt w outlines u l
  typed-safe t u l c s = record {
    object = s.object;
    at = s.at;
    located = s.located;
    typed = s.typed;
    stands = s.stands;
    data_type = (begins-data w.table l.made u c.begins).1;
    holds = covered-holds w sound l.made u c s.object.cells s.at l.part.high s.holds;
    covers = c;
  }

  pub typed-typed : (t u : TypeId) (l : Location) → Covers w.table w.kind l.made u → IsTypedAt w outlines t l → IsTypedAt w outlines u l
  typed-typed t u l c s =
      record { object = s.object; at = s.at; located = s.located; typed = s.typed; stands = s.stands; holds = s.holds; covers = c }

  -- SEQ in bounds, upward
  pub made-covers : (t u : TypeId) (l : Location) → is_function w.table t ≡ false → Covers w.table w.kind t u → IsSequenceAt w outlines t l
      → Covers w.table w.kind l.made u
  made-covers t u l ft c s =
      covers_twice w.table w.kind sound l.made t u (class-covers w sound l.made t (class-data w sound l.made t ft s.made) s.made) c

  seq-safe-up : (t u : TypeId) (l : Location) → is_function w.table t ≡ false → Covers w.table w.kind t u → IsSequenceAt w outlines t l
      → (at : ℕ) → l.offset ≡ pos at → l.part.low ≤ at → at + size_of w.table u ≤ l.part.high → IsSafeAt w outlines u l
  seq-safe-up t u l ft c s at offset low high = record {
    object = s.object;
    at = at;
    located = s.located;
    typed = s.typed;
    stands = seq-stands w sound outlines t l s at offset low (omega (arith, high));
    data_type = (begins-data w.table t u c.begins).1;
    holds = seq-holds w sound outlines t l s u (begins-data w.table t u c.begins).1 c at offset low high;
    covers = made-covers t u l ft c s;
  }

  pub seq-typed-up : (t u : TypeId) (l : Location) → is_function w.table t ≡ false → Covers w.table w.kind t u → IsSequenceAt w outlines t l
      → (at : ℕ) → l.offset ≡ pos at → l.part.low ≤ at → at + size_of w.table t ≤ l.part.high → IsTypedAt w outlines u l
  seq-typed-up t u l ft c s at offset low high = record {
    object = s.object;
    at = at;
    located = s.located;
    typed = s.typed;
    stands = seq-stands w sound outlines t l s at offset low (omega (arith, high));
    holds =
        covered-holds w sound t l.made (class-covers w sound t l.made ft (class_turned w.table w.kind l.made t s.made)) s.object.cells at l.part.high
        (seq-holds w sound outlines t l s t ft (covers_own w.table w.kind t ft) at offset low high);
    covers = made-covers t u l ft c s;
  }

  -- SEQ in bounds, to a type whose repetition is the same
  unfoldable pub Alike : TypeId → TypeId → Type 0
  Alike t u = (i : ℕ) → CellsAgree w.table w.kind (repeated_cell (cells_of w.table t) i) (repeated_cell (cells_of w.table u) i)

  unfoldable pub Both : TypeId → TypeId → Type 0
  Both t u = (0 < length (cells_of w.table t)) × (0 < length (cells_of w.table u)) × Alike t u

  turned : (t u : TypeId) → Alike t u → Alike u t
  unfolding Alike
  turned t u h i = agree-turned w sound (repeated_cell (cells_of w.table t) i) (repeated_cell (cells_of w.table u) i) (h i)

  -- what one of them fills again and again, or is made of, the other does
  pub filled-alike : (t u : TypeId) → Alike t u → (cells : List Cell) (low high : ℕ) → RepeatAlike w cells low high t → RepeatAlike w cells low high u
  unfolding Alike
  filled-alike t u b cells low high h = record {
    agree = λ some i. let x = h.agree some i in
        (x.0, x.1, agree-twice w sound x.0 (repeated_cell (cells_of w.table t) i) (repeated_cell (cells_of w.table u) i) x.2 (b i));
  }

  pub made-alike : (t u : TypeId) → Alike t u → (node : NodeId) → IsBlockFor w node t → IsBlockFor w node u
  unfolding Alike
  made-alike t u b node h = record {
    pointer = h.pointer;
    to = h.to;
    is = h.is;
    agree = λ i. agree-twice w sound (repeated_cell (cells_of w.table h.to) i) (repeated_cell (cells_of w.table t) i) (repeated_cell (cells_of w.table u) i)
        (h.agree i) (b i);
  }

  pub both-complete : (t u : TypeId) → is_function w.table u ≡ false → Both t u → IsComplete w.table t → IsComplete w.table u
  unfolding Alike Both
  both-complete t u fu b c = complete-like w sound t u c fu b.1 (b.2 0)

  -- a SEQ pointer to what has cells points to a complete type
  pub seq-complete : (t : TypeId) (l : Location) → IsSequenceAt w outlines t l → 0 < length (cells_of w.table t) → IsComplete w.table t
  seq-complete t l s some = by (is_complete (entry_at w.table t)) refl
    where
      by : (b : Bool) → is_complete (entry_at w.table t) ≡ b → b ≡ true
      by true e = refl
      by false e = absurd (let x = ap length ((s.unmoved (λ k. cc (k, e))).0) in omega (arith, x, some))

  tiled-holds : (t u : TypeId) (l : Location) → is_function w.table u ≡ false → Both t u → (s : IsSequenceAt w outlines t l)
      → (at : ℕ) → l.offset ≡ pos at → l.part.low ≤ at → at + size_of w.table u ≤ l.part.high → HoldType w s.object.cells at l.part.high u
  unfolding Alike Both
  tiled-holds t u l fu b s at offset low high =
      let ct = seq-complete t l s b.0 in
      let n = (complete-some w.table sound u (both-complete t u fu b ct)).1 in
      record {
        room = omega (arith, n, high);
        agree = λ i d e.
            let k = slice_get_within (cells_of w.table u) i d e in
            let y = seq-cell w sound outlines t l s ct at offset low i (omega (arith, n, high, k)) in
            let same : repeated_cell (cells_of w.table u) i ≡ d =
            let g : slice_get (cells_of w.table u) i ≡ Some (repeated_cell (cells_of w.table u) i) = ap (slice_get (cells_of w.table u))
            (sym (mod-eq_of_lt k)) ∙ rep-there (cells_of w.table u) i b.1 in cc (e, g) in (
              y.0,
              y.1,
              subst (CellsAgree w.table w.kind y.0) same
                  (agree-twice w sound y.0 (repeated_cell (cells_of w.table t) i) (repeated_cell (cells_of w.table u) i) y.2 (b.2 i)),
            );
      }

  seq-safe-tile : (t u : TypeId) (l : Location) → is_function w.table u ≡ false → Both t u → IsSequenceAt w outlines t l
      → (at : ℕ) → l.offset ≡ pos at → l.part.low ≤ at → at + size_of w.table u ≤ l.part.high → IsSafeAt w outlines u (remade u l)
  seq-safe-tile t u l fu b s at offset low high = record {
    object = s.object;
    at = at;
    located = record { found = s.located.found; ordered = s.located.ordered; inside = s.located.inside };
    typed = record { untagged = s.typed.untagged; low = s.typed.low; high = s.typed.high };
    stands =
        let x = seq-stands w sound outlines t l s at offset low (omega (arith, high)) in
        record { offset = x.offset; low = x.low; high = x.high; whole = x.whole };
    data_type = fu;
    holds = tiled-holds t u l fu b s at offset low high;
    covers = covers_own w.table w.kind u fu;
  }

  seq-typed-tile : (t u : TypeId) (l : Location) → is_function w.table u ≡ false → Both t u → IsSequenceAt w outlines t l
      → (at : ℕ) → l.offset ≡ pos at → l.part.low ≤ at → at + size_of w.table u ≤ l.part.high → IsTypedAt w outlines u (remade u l)
  seq-typed-tile t u l fu b s at offset low high = record {
    object = s.object;
    at = at;
    located = record { found = s.located.found; ordered = s.located.ordered; inside = s.located.inside };
    typed = record { untagged = s.typed.untagged; low = s.typed.low; high = s.typed.high };
    stands =
        let x = seq-stands w sound outlines t l s at offset low (omega (arith, high)) in
        record { offset = x.offset; low = x.low; high = x.high; whole = x.whole };
    holds = tiled-holds t u l fu b s at offset low high;
    covers = covers_own w.table w.kind u fu;
  }

  -- SEQ to SEQ
  pub residue-low : (z : ℤ) (a b : ℕ) → 0 < a → 0 < b → residue z (a * b) % a ≡ residue z a
  residue-low (pos n) a b ha hb = mod-mod_of_dvd a n (dvd-mul_right a b)
  residue-low (negsuc n) a b ha hb =
      let r = n % (a * b) in
      let q = r / a in let p = mod-add-div' r a in
      let same : r % a ≡ n % a = mod-mod_of_dvd a n (dvd-mul_right a b) in
      let small : r < a * b = mod-lt n (mul-pos ha hb) in
      let low : r % a < a = mod-lt r ha in
      let whole : a * b - 1 - r ≡ (a - 1 - r % a) + (b - 1 - q) * a = sum a b r (r % a) q p low small in
      ap (λ z. z % a) whole ∙ add-mul-mod_self_right (a - 1 - r % a) (b - 1 - q) a ∙ mod-eq_of_lt (less a (r % a) ha) ∙ ap (λ z. a - 1 - z) same
    where
      less : (a x : ℕ) → 0 < a → a - 1 - x < a
      less a x h = omega arith

      sum : (a b r x q : ℕ) → x + q * a ≡ r → x < a → r < a * b → a * b - 1 - r ≡ (a - 1 - x) + (b - 1 - q) * a
      sum a b r x q e l m =
          let k : q < b = quotient a b r x q e m in
          let d : (b - 1 - q) * a + q * a + a ≡ a * b = product a b q k in
          omega (arith, d, e, l, m)
        where
          quotient : (a b r x q : ℕ) → x + q * a ≡ r → r < a * b → q < b
          quotient a b r x q e m =
              ⊎_elim (λ h. h) (λ h. absurd (let f : b * a ≤ q * a = times b q a h in let g : a * b ≡ b * a = swap a b in omega (arith, e, m, f, g)))
              (total q b)
            where
              total : (q b : ℕ) → (q < b) ⊎ (b ≤ q)
              total q b = grind arith

              swap : (a b : ℕ) → a * b ≡ b * a
              swap a b = grind arith

              times : (b q a : ℕ) → b ≤ q → b * a ≤ q * a
              times b q a h =
                  let k : (q - b) * a + b * a ≡ q * a = (let y : (q - b) + b ≡ q = omega (arith, h) in sym (split (q - b) b a) ∙ ap (λ z. z * a) y) in
                  omega (arith, k)
                where
                  split : (m n a : ℕ) → (m + n) * a ≡ m * a + n * a
                  split m n a = grind arith

          product : (a b q : ℕ) → q < b → (b - 1 - q) * a + q * a + a ≡ a * b
          product a b q k = let y : (b - 1 - q) + q + 1 ≡ b = omega (arith, k) in sym (split (b - 1 - q) q a) ∙ ap (λ z. z * a) y ∙ swap b a
            where
              split : (m n a : ℕ) → (m + n + 1) * a ≡ m * a + n * a + a
              split m n a = grind arith

              swap : (a b : ℕ) → a * b ≡ b * a
              swap a b = grind arith

  rep-mod : (cells : List Cell) (k : ℕ) → repeated_cell cells (k % length cells) ≡ repeated_cell cells k
  rep-mod cells k = ap (λ z. slice_index_or cells z raw) (mod-mod k (length cells))

  pub shifted-alike : (t u : TypeId) → Both t u → length (cells_of w.table t) ≡ size_of w.table t → length (cells_of w.table u) ≡ size_of w.table u
      → (by : ℤ) → IsSameShifted w t by → IsSameShifted w u by
  unfolding Alike Both
  shifted-alike t u b nt nu z h = record {
    agree = λ i.
        let a = length (cells_of w.table t) in let c = length (cells_of w.table u) in
        let k = residue (z +ℤ pos i) (a * c) in
        let kt : repeated_cell (cells_of w.table t) k ≡ repeated_cell (cells_of w.table t) (residue (z +ℤ pos i) (size_of w.table t)) =
        sym (rep-mod (cells_of w.table t) k) ∙ ap (repeated_cell (cells_of w.table t))
        (residue-low (z +ℤ pos i) a c b.0 b.1 ∙ ap (residue (z +ℤ pos i)) nt) in
        let swap : k ≡ residue (z +ℤ pos i) (c * a) = ap (residue (z +ℤ pos i)) (times a c) in
        let ku : repeated_cell (cells_of w.table u) k ≡ repeated_cell (cells_of w.table u) (residue (z +ℤ pos i) (size_of w.table u)) =
        sym (rep-mod (cells_of w.table u) k) ∙ ap (repeated_cell (cells_of w.table u))
        (ap (λ x. x % c) swap ∙ residue-low (z +ℤ pos i) c a b.1 b.0 ∙ ap (residue (z +ℤ pos i)) nu) in
        let x = agree-turned w sound (repeated_cell (cells_of w.table t) k) (repeated_cell (cells_of w.table u) k) (b.2 k) in
        let y = subst (λ d. CellsAgree w.table w.kind d (repeated_cell (cells_of w.table t) i)) (sym kt) (h.agree i) in
        let m = agree-twice w sound (repeated_cell (cells_of w.table u) k) (repeated_cell (cells_of w.table t) k)
        (repeated_cell (cells_of w.table t) i) x y in
        subst (λ d. CellsAgree w.table w.kind d (repeated_cell (cells_of w.table u) i)) ku
        (agree-twice w sound (repeated_cell (cells_of w.table u) k) (repeated_cell (cells_of w.table t) i)
        (repeated_cell (cells_of w.table u) i) m (b.2 i));
  }
    where
      times : (a b : ℕ) → a * b ≡ b * a
      times a b = grind arith

  seq-seq : (t u : TypeId) (l : Location) → is_function w.table t ≡ false → is_function w.table u ≡ false → Both t u → IsSequenceAt w outlines t l
      → IsSequenceAt w outlines u (remade u l)
  unfolding Alike Both
  seq-seq t u l ft fu b s =
      let ct = seq-complete t l s b.0 in let cu = both-complete t u fu b ct in
      record {
        object = s.object;
        located = record { found = s.located.found; ordered = s.located.ordered; inside = s.located.inside };
        typed = record { untagged = s.typed.untagged; low = s.typed.low; high = s.typed.high };
        made = class_own w.table w.kind u;
        least = s.least;
        most = s.most;
        filled = λ c. filled-alike t u b.2 s.object.cells l.part.low l.part.high (s.filled ct);
        blank = λ c e. made-alike t u b.2 s.object.node (s.blank ct e);
        shifted = λ c. shifted-alike t u b (complete-some w.table sound t ct).1 (complete-some w.table sound u cu).1 (distance l) (s.shifted ct);
        unmoved = λ c. absurd (c cu);
      }

  -- both are void
  seq-void : (t u : TypeId) (l : Location) → cells_of w.table t ≡ [] → cells_of w.table u ≡ [] → IsSequenceAt w outlines t l
      → IsSequenceAt w outlines u (remade u l)
  seq-void t u l et eu s =
      let nt : IsComplete w.table t → Prim.⊥ =
      (λ c. let x = (complete-some w.table sound t c).0 in let y : length (cells_of w.table t) ≡ 0 = ap length et in omega (arith, x, y)) in
      let nu : IsComplete w.table u → Prim.⊥ =
      (λ c. let x = (complete-some w.table sound u c).0 in let y : length (cells_of w.table u) ≡ 0 = ap length eu in omega (arith, x, y)) in
      record {
        object = s.object;
        located = record { found = s.located.found; ordered = s.located.ordered; inside = s.located.inside };
        typed = record { untagged = s.typed.untagged; low = s.typed.low; high = s.typed.high };
        made = class_own w.table w.kind u;
        least = s.least;
        most = s.most;
        filled = λ c. absurd (nu c);
        blank = λ c. absurd (nu c);
        shifted = λ c. absurd (nu c);
        unmoved = λ c. (eu, (s.unmoved nt).1);
      }

  -- what tiles, or is equal, has the same repetition, or has no cells
  pub both-or-void : (t u : TypeId) (class : FlowClass) → is_tiled class ≡ true
      → HaveEqualKinds w.kind (Correspond w.table (CorrespondAtTop w.table class t u)) → is_function w.table t ≡ false → is_function w.table u ≡ false
      → Tells w.table t u class → Both t u ⊎ ((cells_of w.table t ≡ []) × (cells_of w.table u ≡ []))
  unfolding Both Alike
  both-or-void t u class k same ft fu told =
      ⊎_elim (λ e. by (cells_of w.table u) refl (equal_counts w.table sound t u e))
      (λ h. let s = tile-some w sound t u h in inl (s.0, s.1, λ i. tile-in-class w sound t u class k same ft fu told s.1 i))
      (tiled-told w.table t u class told k)
    where
      nothing : (cells : List Cell) → length cells ≡ 0 → cells ≡ []
      nothing [] h = refl
      nothing (c ∷ cells) h = absurd (omega (arith, h))

      by : (cells : List Cell) → cells_of w.table u ≡ cells → length (cells_of w.table t) ≡ length (cells_of w.table u)
          → Both t u ⊎ ((cells_of w.table t ≡ []) × (cells_of w.table u ≡ []))
      by [] e n = inr (nothing (cells_of w.table t) (n ∙ ap length e), e)
      by (c ∷ cs) e n =
          let some : 0 < length (cells_of w.table u) = (let x : length (cells_of w.table u) ≡ suc (length cs) = ap length e in omega (arith, x)) in
          inl (omega (arith, n, some), some, λ i. tile-in-class w sound t u class k same ft fu told some i)

  -- the target of a flow from a data type that isn't Bad is one
  target-data : (t u : TypeId) (class : FlowClass) → is_function w.table t ≡ false → Tells w.table t u class
      → (is_upward class || is_tiled class) ≡ true → is_function w.table u ≡ false
  target-data t u Equal ft told h = equal-data w.table sound t u ft told
  target-data t u UpTile ft told h = (begins-data w.table t u told.0).1
  target-data t u Up ft told h = (begins-data w.table t u told).1
  target-data t u DownTile ft told h = (begins-data w.table u t told.0).0
  target-data t u Tile ft told h = tiled u (tile-some w sound t u told).1
    where
      tiled : (u : TypeId) → 0 < length (cells_of w.table u) → is_function w.table u ≡ false
      tiled u some = by (is_function w.table u) refl
        where
          by : (b : Bool) → is_function w.table u ≡ b → b ≡ false
          by false e = refl
          by true e = absurd (let n = ap length (function-empty w.table sound u e) in omega (arith, n, some))
  target-data t u Down ft told h = absurd (cc (h))
  target-data t u Bad ft told h = absurd (cc (h))

  -- a pointer of kind SEQ or RTTI points to no function
  pub not-plain : (k : Kind) (n : NodeId) (t : TypeId) → w.kind n ≡ k → (k ≢ Safe) → (k ≢ Wild) → IsPointeeAllowed w.table w.kind n t
      → is_function w.table t ≡ false
  not-plain k n t e s v a = by (is_function w.table t) refl
    where
      by : (b : Bool) → is_function w.table t ≡ b → b ≡ false
      by false f = refl
      by true f = absurd (⊎_elim (λ g. s (sym e ∙ g)) (λ g. v (sym e ∙ g)) (a.function f))

  seq-safe : Kind → Kind
  seq-safe k = k

  Converted : FlowClass → Kind → Kind → TypeId → Pointer → Type 0
  Converted class k l u p = IsValueOf w outlines l u (converted class k l u p)

  -- what the conditions on a SEQ pointer that isn't null say
  bounds-of : (memory : Memory) (m : ℕ) (l : Location) → AllHold w memory (null_or_in_bounds m (At l))
      → (at : ℕ) × (l.offset ≡ pos at) × (l.part.low ≤ at) × (at + m ≤ l.part.high)
  bounds-of memory m l h = in-bounds l.part.low l.part.high l.offset m h.0

  module _ (memory : Memory) (t u : TypeId) (class : FlowClass) (told : Tells w.table t u class)
      (same : HaveEqualKinds w.kind (Correspond w.table (CorrespondAtTop w.table class t u))) where
    from-safe-safe : is_upward class ≡ true → (p : Pointer) → IsValueOf w outlines Safe t p → IsValueOf w outlines Safe u p
    from-safe-safe k Null h = tt
    from-safe-safe k (Number n) h = absurd h
    from-safe-safe k (At l) h = safe-at t u l (covers-up w.table sound w.kind t u class h.data_type k told same) h
    from-safe-safe k (Function f) h = safe-function t u f h.type (function-class t u class h.type k told same) h

    from-safe-rtti : (sites : List Site) (below : Bool) → (HasBelow w.table sites t → IsTrue below) → (is_upward class && not below) ≡ true
        → is_function w.table u ≡ false
        → (p : Pointer) → IsMade sites p → IsValueOf w outlines Safe t p → IsValueOf w outlines Rtti u p
    from-safe-rtti sites below tells k fu Null made h = tt
    from-safe-rtti sites below tells k fu (Number n) made h = absurd h
    from-safe-rtti sites below tells k fu (At l) made h =
        safe-typed t u l (by (physically_equal w.table l.made t) refl)
        (covers-up w.table sound w.kind t u class h.data_type (first (is_upward class) (not below) k) told same) h
      where
        by : (b : Bool) → physically_equal w.table l.made t ≡ b → b ≡ true
        by true e = refl
        by false e =
            let x : below ≡ true = tells (record { node = made.0; pointee = l.made; site = made.1; below = λ i. h.covers.begins i && not (e i) }) in
            absurd (let y = negated below (second (is_upward class) (not below) k) in cc (x, y))
    from-safe-rtti sites below tells k fu (Function f) made h =
        absurd
        (let one = function-class t u class h.type (first (is_upward class) (not below) k) told same in let d = class-data w sound t u fu one in
        let e = h.type in cc (d, e))

    -- RTTI: upward, or checked
    rtti-covers : (l : Location) → (is_upward class || is_downward class) ≡ true → AllHold w memory (downcast class u (At l))
        → Covers w.table w.kind l.made t → Covers w.table w.kind l.made u
    rtti-covers l k h c = by class refl
      where
        up : is_upward class ≡ true → Covers w.table w.kind l.made u
        up e =
            covers_twice w.table w.kind sound l.made t u c
            (covers-up w.table sound w.kind t u class (begins-data w.table l.made t c.begins).1 e told same)

        by : (x : FlowClass) → class ≡ x → Covers w.table w.kind l.made u
        by Equal e = up (ap is_upward e)
        by UpTile e = up (ap is_upward e)
        by Up e = up (ap is_upward e)
        by DownTile e = (covers_is w.table w.kind l.made u).0 (subst (λ (x : FlowClass). AllHold w memory (downcast x u (At l))) e h).0
        by Down e = (covers_is w.table w.kind l.made u).0 (subst (λ (x : FlowClass). AllHold w memory (downcast x u (At l))) e h).0
        by Tile e = absurd (let f : (is_upward class || is_downward class) ≡ false = ap (λ x. is_upward x || is_downward x) e in cc (k, f))
        by Bad e = absurd (let f : (is_upward class || is_downward class) ≡ false = ap (λ x. is_upward x || is_downward x) e in cc (k, f))

    from-rtti-safe : (is_upward class || is_downward class) ≡ true → (p : Pointer) → AllHold w memory (downcast class u p)
        → IsValueOf w outlines Rtti t p → IsValueOf w outlines Safe u p
    from-rtti-safe k Null c h = tt
    from-rtti-safe k (Number n) c h = absurd h
    from-rtti-safe k (At l) c h = typed-safe t u l (rtti-covers l k c h.covers) h
    from-rtti-safe k (Function f) c h = absurd h

    from-rtti : (is_upward class || is_downward class) ≡ true → (p : Pointer) → AllHold w memory (downcast class u p) → IsValueOf w outlines Rtti t p
        → IsValueOf w outlines Rtti u p
    from-rtti k Null c h = tt
    from-rtti k (Number n) c h = absurd h
    from-rtti k (At l) c h = typed-typed t u l (rtti-covers l k c h.covers) h
    from-rtti k (Function f) c h = absurd h

    from-wild : (p : Pointer) → IsValueOf w outlines Wild t p → IsValueOf w outlines Wild u p
    from-wild Null h = tt
    from-wild (Number n) h = h
    from-wild (At l) h = h
    from-wild (Function f) h = h

    from-seq : is_function w.table t ≡ false → is_tiled class ≡ true → (p : Pointer) → IsValueOf w outlines Seq t p
        → IsValueOf w outlines Seq u (made_at u p)
    from-seq ft k Null h = tt
    from-seq ft k (Number n) h = h
    from-seq ft k (At l) h =
        let fu = target-data t u class ft told (by (is_upward class) (is_tiled class) k) in
        ⊎_elim (λ b. seq-seq t u l ft fu b h) (λ e. seq-void t u l e.0 e.1 h) (both-or-void t u class k same ft fu told)
      where
        by : (a b : Bool) → b ≡ true → (a || b) ≡ true
        by true b h = refl
        by false b h = h
    from-seq ft k (Function f) h = absurd h

    from-seq-safe-up : is_function w.table t ≡ false → is_upward class ≡ true → (p : Pointer)
        → AllHold w memory (null_or_in_bounds (size_of w.table u) p) → IsValueOf w outlines Seq t p → IsValueOf w outlines Safe u p
    from-seq-safe-up ft k Null c h = tt
    from-seq-safe-up ft k (Number n) c h = absurd (let x = c.0 in cc (x))
    from-seq-safe-up ft k (At l) c h =
        let b = bounds-of memory (size_of w.table u) l c in seq-safe-up t u l ft
        (covers-up w.table sound w.kind t u class ft k told same) h b.0 b.1 b.2 b.3
    from-seq-safe-up ft k (Function f) c h = absurd h

    from-seq-safe-tile : is_function w.table t ≡ false → tile w.table t u ≡ true → is_tiled class ≡ true → (p : Pointer)
        → AllHold w memory (null_or_in_bounds (size_of w.table u) p) → IsValueOf w outlines Seq t p → IsValueOf w outlines Safe u (made_at u p)
    unfolding Both Alike
    from-seq-safe-tile ft i k Null c h = tt
    from-seq-safe-tile ft i k (Number n) c h = absurd (let x = c.0 in cc (x))
    from-seq-safe-tile ft i k (At l) c h =
        let fu = target-data t u class ft told (by (is_upward class) (is_tiled class) k) in let b = bounds-of memory (size_of w.table u) l c in
        let s = tile-some w sound t u i in
        seq-safe-tile t u l fu (s.0, s.1, λ j. tile-in-class w sound t u class k same ft fu told s.1 j) h b.0 b.1 b.2 b.3
      where
        by : (a b : Bool) → b ≡ true → (a || b) ≡ true
        by true b h = refl
        by false b h = h
    from-seq-safe-tile ft i k (Function f) c h = absurd h

    from-seq-rtti-up : is_function w.table t ≡ false → is_upward class ≡ true → (p : Pointer)
        → AllHold w memory (null_or_in_bounds (size_of w.table t) p) → IsValueOf w outlines Seq t p → IsValueOf w outlines Rtti u p
    from-seq-rtti-up ft k Null c h = tt
    from-seq-rtti-up ft k (Number n) c h = absurd (let x = c.0 in cc (x))
    from-seq-rtti-up ft k (At l) c h =
        let b = bounds-of memory (size_of w.table t) l c in seq-typed-up t u l ft
        (covers-up w.table sound w.kind t u class ft k told same) h b.0 b.1 b.2 b.3
    from-seq-rtti-up ft k (Function f) c h = absurd h

    from-seq-rtti-tile : is_function w.table t ≡ false → tile w.table t u ≡ true → is_tiled class ≡ true → (p : Pointer)
        → AllHold w memory (null_or_in_bounds (size_of w.table u) p) → IsValueOf w outlines Seq t p → IsValueOf w outlines Rtti u (made_at u p)
    unfolding Both Alike
    from-seq-rtti-tile ft i k Null c h = tt
    from-seq-rtti-tile ft i k (Number n) c h = absurd (let x = c.0 in cc (x))
    from-seq-rtti-tile ft i k (At l) c h =
        let fu = target-data t u class ft told (by (is_upward class) (is_tiled class) k) in let b = bounds-of memory (size_of w.table u) l c in
        let s = tile-some w sound t u i in
        seq-typed-tile t u l fu (s.0, s.1, λ j. tile-in-class w sound t u class k same ft fu told s.1 j) h b.0 b.1 b.2 b.3
      where
        by : (a b : Bool) → b ≡ true → (a || b) ≡ true
        by true b h = refl
        by false b h = h
    from-seq-rtti-tile ft i k (Function f) c h = absurd h

  -- Every allowed conversion whose conditions hold gives a value of its target.
  module _ (sites : List Site) (m : NodeId) (t : TypeId) (n : NodeId) (u : TypeId) (f : IsFlow w sites m t n u) (memory : Memory) where
    conversion : FlowClass → Kind → Kind → Conversion
    conversion class k l = record { class = class; from = k; to = l; from_size = size_of w.table t; to_size = size_of w.table u; to_type = u }

    go : (k l : Kind) → w.kind m ≡ k → w.kind n ≡ l → (class : FlowClass) → Tells w.table t u class
        → HaveEqualKinds w.kind (Correspond w.table (CorrespondAtTop w.table class t u)) → allows k l class f.flow.below ≡ true
        → (p : Pointer) → IsMade sites p → IsValueOf w outlines k t p → AllHold w memory (conditions_by_kinds k l (conversion class k l) p)
        → IsValueOf w outlines l u (converted class k l u p)
    unfolding conversion
    go Safe Safe em en class told same a p made h c =
        subst (IsValueOf w outlines Safe u) (sym (kept-safe class u p)) (from-safe-safe memory t u class told same a p h)
    go Safe Rtti em en class told same a p made h c = subst (IsValueOf w outlines Rtti u) (sym (kept-safe-rtti class u p))
        (from-safe-rtti memory t u class told same sites f.flow.below f.flow.tells.1 a
        (not-plain Rtti n u en (λ e. cc (e)) (λ e. cc (e)) f.target) p made h)
    go Safe Seq em en class told same a p made h c = absurd (cc (a))
    go Safe Wild em en class told same a p made h c = absurd (cc (a))
    go Rtti Safe em en class told same a p made h c =
        subst (IsValueOf w outlines Safe u) (sym (kept-rtti-safe class u p)) (from-rtti-safe memory t u class told same a p c h)
    go Rtti Rtti em en class told same a p made h c =
        subst (IsValueOf w outlines Rtti u) (sym (kept-rtti class u p)) (from-rtti memory t u class told same a p c h)
    go Rtti Seq em en class told same a p made h c = absurd (cc (a))
    go Rtti Wild em en class told same a p made h c = absurd (cc (a))
    go Wild Wild em en class told same a p made h c =
        subst (IsValueOf w outlines Wild u) (sym (kept-wild class u p)) (from-wild memory t u class told same p h)
    go Wild Safe em en class told same a p made h c = absurd (cc (a))
    go Wild Seq em en class told same a p made h c = absurd (cc (a))
    go Wild Rtti em en class told same a p made h c = absurd (cc (a))
    go Seq Wild em en class told same a p made h c = absurd (cc (a))
    go Seq Seq em en class told same a p made h c =
        from-seq memory t u class told same (not-plain Seq m t em (λ e. cc (e)) (λ e. cc (e)) f.source) a p h
    go Seq Safe em en Equal told same a p made h c =
        from-seq-safe-up memory t u Equal told same (not-plain Seq m t em (λ e. cc (e)) (λ e. cc (e)) f.source) refl p c h
    go Seq Safe em en UpTile told same a p made h c =
        from-seq-safe-up memory t u UpTile told same (not-plain Seq m t em (λ e. cc (e)) (λ e. cc (e)) f.source) refl p c h
    go Seq Safe em en Up told same a p made h c =
        from-seq-safe-up memory t u Up told same (not-plain Seq m t em (λ e. cc (e)) (λ e. cc (e)) f.source) refl p c h
    go Seq Safe em en DownTile told same a p made h c =
        from-seq-safe-tile memory t u DownTile told same (not-plain Seq m t em (λ e. cc (e)) (λ e. cc (e)) f.source) told.1 refl p c h
    go Seq Safe em en Tile told same a p made h c =
        from-seq-safe-tile memory t u Tile told same (not-plain Seq m t em (λ e. cc (e)) (λ e. cc (e)) f.source) told refl p c h
    go Seq Safe em en Down told same a p made h c = absurd (cc (a))
    go Seq Safe em en Bad told same a p made h c = absurd (cc (a))
    go Seq Rtti em en Equal told same a p made h c =
        from-seq-rtti-up memory t u Equal told same (not-plain Seq m t em (λ e. cc (e)) (λ e. cc (e)) f.source) refl p c h
    go Seq Rtti em en UpTile told same a p made h c =
        from-seq-rtti-up memory t u UpTile told same (not-plain Seq m t em (λ e. cc (e)) (λ e. cc (e)) f.source) refl p c h
    go Seq Rtti em en Up told same a p made h c =
        from-seq-rtti-up memory t u Up told same (not-plain Seq m t em (λ e. cc (e)) (λ e. cc (e)) f.source) refl p c h
    go Seq Rtti em en DownTile told same a p made h c =
        from-seq-rtti-tile memory t u DownTile told same (not-plain Seq m t em (λ e. cc (e)) (λ e. cc (e)) f.source) told.1 refl p c h
    go Seq Rtti em en Tile told same a p made h c =
        from-seq-rtti-tile memory t u Tile told same (not-plain Seq m t em (λ e. cc (e)) (λ e. cc (e)) f.source) told refl p c h
    go Seq Rtti em en Down told same a p made h c = absurd (cc (a))
    go Seq Rtti em en Bad told same a p made h c = absurd (cc (a))

    pub conversion-right : (p : Pointer) → IsMade sites p → IsValueOf w outlines (w.kind m) t p
        → AllHold w memory
        (conditions_of_conversion
        (record {
          class = flow_class w.table t u;
          from = w.kind m;
          to = w.kind n;
          from_size = size_of w.table t;
          to_size = size_of w.table u;
          to_type = u;
        }) p)
        → IsValueOf w outlines (w.kind n) u (converted (flow_class w.table t u) (w.kind m) (w.kind n) u p)
    unfolding conversion
    conversion-right p made h c =
        go (w.kind m) (w.kind n) refl refl (flow_class w.table t u) (class-tells w.table t u) f.flow.equal f.flow.allowed p made h c

    -- and what it was made for is told of
    pub conversion-made : (p : Pointer) → IsMade sites p → IsMade sites (converted (flow_class w.table t u) (w.kind m) (w.kind n) u p)
    conversion-made p made = by (is_made_anew (flow_class w.table t u) (w.kind m) (w.kind n)) p made
      where
        by : (b : Bool) (p : Pointer) → IsMade sites p → IsMade sites (if b then made_at u p else p)
        by false p h = h
        by true Null h = tt
        by true (Number k) h = tt
        by true (At l) h = (n, f.told)
        by true (Function k) h = tt
