-- A member of a union that isn't mixed: its cells agree with those of the largest member.
use Rattle.std.proofs.Common.{◌≡◌, ℕ, zero, suc, ◌+◌, ◌-◌, ◌<◌, ◌≤◌, Bool, true, false, List, [], ◌∷◌, ◌++◌, map, length, take, replicate, slice_get, Some, None, nat_lt, refl, ap, sym, subst, ◌∙◌, arith, if◌then◌else◌}
use Rattle.std.specs.Prelude.{IsTrue, IsFalse}
use Rattle.std.specs.List.{Contains, All, fold, repeat, list_all, range_with_len}
use Rattle.std.proofs.lemmas.Bool.Decides.{nat_tests}
use Rattle.std.proofs.lemmas.Option.{slice_get_within, get_or_from_slice_get}
use Rattle.std.proofs.lemmas.List.Elements.{All-contains}
use Rattle.cc_base.specs.declared.number.TypeId.{TypeId}
use Rattle.c_types.specs.declared.shape.TypeShape.{TypeShape}
use Rattle.c_types.specs.declared.shape.TypeShape.TheVariants.{Void, Integer, Pointer, Array, Function, Struct, Union}
use Rattle.c_types.specs.Table.{Table, IsComplete, shape_at, members_at, parts_of_shape, is_complete_entry}
use Rattle.c_types.specs.Layouts.{rounded, size_of, align_of}
use Rattle.c_types.specs.Cells.{Cell, raw, mixed, Relation, begins, longest, padded_to, member_cells, union_cells, cells_of_shape, cells_at, holds_pointer, holds_in_shape}
use Rattle.c_types.specs.Equality.{cells_of, physically_equal}
use Rattle.c_types.specs.Flows.{CellsAgree}
use Rattle.c_types.specs.Contents.{HoldsMixed, IsLargest}
use Rattle.kind_sites.specs.Solutions.{IsUnionAllowed}
use Rattle.c_types.specs.Sound.{IsWellFormed}
use Rattle.c_types.proofs.Cells.{cells_are}
use Rattle.c_types.proofs.Lists.{contains_head, contains_tail}
use Rattle.type_laws.proofs.Relations.{alike_equiv, equal_equiv}
use Rattle.src_mem.specs.State.{Setting}
use Rattle.c_types.proofs.OrderedPointers.{get_front}
use Rattle.facts_kept.proofs.Agree.{agree-turned, agree-placed, alike-there, get-taken, first, second}
use Rattle.facts_kept.proofs.Complete.{complete-some, complete-data}
use Rattle.phys_types.proofs.Structs.{holds_is}
use Rattle.facts_kept.specs.Kept.{IsSub}
use Rattle.facts_kept.proofs.NonePointers.{any-none}

-- all raw
abbrev pub AllRaw : List Cell → Type 0
AllRaw cells = (i : ℕ) (c : Cell) → slice_get cells i ≡ Some c → c ≡ raw

none-raw : AllRaw []
none-raw i c e = absurd (cc (e))

raw-raw : (k : ℕ) → AllRaw (replicate k raw)
raw-raw zero i c e = absurd (cc (e))
raw-raw (suc k) zero c e = cc (e)
raw-raw (suc k) (suc i) c e = raw-raw k i c e

append-raw : (xs ys : List Cell) → AllRaw xs → AllRaw ys → AllRaw (xs ++ ys)
append-raw [] ys a b i c e = b i c e
append-raw (x ∷ xs) ys a b zero c e = a zero c e
append-raw (x ∷ xs) ys a b (suc i) c e = append-raw xs ys (λ k d f. a (suc k) d f) b i c e

repeat-raw : (k : ℕ) (cells : List Cell) → AllRaw cells → AllRaw (repeat k cells)
repeat-raw zero cells h = none-raw
repeat-raw (suc k) cells h = append-raw cells (repeat k cells) h (repeat-raw k cells h)

padded-raw : (n : ℕ) (cells : List Cell) → AllRaw cells → AllRaw (padded_to n cells)
padded-raw n cells h = append-raw cells (replicate (n - length cells) raw) h (raw-raw (n - length cells))

members-raw : (align : TypeId → ℕ) (f : TypeId → List Cell) (a : List Cell) (ms : List TypeId) → AllRaw a
    → ((m : TypeId) → Contains ms m → AllRaw (f m))
    → AllRaw (fold (λ cells m. padded_to (rounded (length cells) (align m)) cells ++ f m) a ms)
members-raw align f a [] h each = h
members-raw align f a (m ∷ ms) h each =
    members-raw align f (padded_to (rounded (length a) (align m)) a ++ f m) ms
    (append-raw (padded_to (rounded (length a) (align m)) a) (f m) (padded-raw (rounded (length a) (align m)) a h) (each m (contains_head m ms)))
    (λ x k. each x (contains_tail m ms x k))

shape-raw : (table : Table) (E : Relation) (f : TypeId → List Cell) (t : TypeId) (s : TypeShape) (ms : List TypeId) → holds_pointer table t ≡ false
    → holds_in_shape (holds_pointer table) s ms ≡ false → is_complete_entry s ms ≡ true
    → ((m : TypeId) → Contains (parts_of_shape s ms) m → holds_pointer table m ≡ false → AllRaw (f m)) → AllRaw (cells_of_shape table E f t s ms)
shape-raw table E f t Void ms n h c each = none-raw
shape-raw table E f t (Integer bytes signed) ms n h c each = raw-raw bytes
shape-raw table E f t (Pointer node to) ms n h c each = absurd (cc (h))
shape-raw table E f t (Array element count) ms n h c each = repeat-raw count (f element) (each element (contains_head element []) h)
shape-raw table E f t (Function ps r) ms n h c each = none-raw
shape-raw table E f t (Struct tag) [] n h c each = absurd (cc (c))
shape-raw table E f t (Union tag) [] n h c each = absurd (cc (c))
shape-raw table E f t (Struct tag) (m ∷ ms) n h c each =
    padded-raw (size_of table t) (member_cells (align_of table) f (m ∷ ms))
    (members-raw (align_of table) f [] (m ∷ ms) none-raw (λ x k. each x k (any-none (holds_pointer table) (m ∷ ms) h x k)))
shape-raw table E f t (Union tag) (m ∷ ms) n h c each =
    subst (λ b. AllRaw (union_cells E t (size_of table t) b (map f (m ∷ ms)))) (sym n) (raw-raw (size_of table t))

module _ (table : Table) (w : IsWellFormed table) where
  raw-below : (n : ℕ) (t : TypeId) → w.order.0 t < n → IsComplete table t → holds_pointer table t ≡ false → AllRaw (cells_of table t)
  raw-below zero t b c h = absurd (omega (arith, b))
  raw-below (suc n) t b c h =
      subst AllRaw (sym (cells_are table w.order.0 w.order.1 (physically_equal table) t))
      (shape-raw table (physically_equal table) (cells_at table (physically_equal table)) t (shape_at table t) (members_at table t) h
      (sym (holds_is table w t) ∙ h) c
      (λ m k g. let f = w.order.1.falls t m k in raw-below n m (omega (arith, f, b))
      (All-contains (IsComplete table) (parts_of_shape (shape_at table t) (members_at table t)) m (w.each t).parts k) g))

  pub all-raw : (t : TypeId) → IsComplete table t → holds_pointer table t ≡ false → AllRaw (cells_of table t)
  all-raw t c h = raw-below (suc (w.order.0 t)) t (omega arith) c h

-- the longest list is that of the first member of which none is longer
record Largest (f : TypeId → List Cell) (ms : List TypeId) : Type 0 where
  member : TypeId
  place : ℕ
  found : slice_get ms place ≡ Some member
  is : longest (map f ms) ≡ f member
  before : (i : ℕ) (u : TypeId) → slice_get ms i ≡ Some u → IsTrue (nat_lt i place) → IsTrue (nat_lt (length (f u)) (length (f member)))
  after : (i : ℕ) (u : TypeId) → slice_get ms i ≡ Some u → IsFalse (nat_lt (length (f member)) (length (f u)))

largest : (f : TypeId → List Cell) (m : TypeId) (ms : List TypeId) → Largest f (m ∷ ms)
largest f m [] = by (nat_lt (length (f m)) 0) refl
  where
    by : (b : Bool) → nat_lt (length (f m)) 0 ≡ b → Largest f (m ∷ [])
    by true e = absurd (let h : length (f m) < 0 = grind (arith, nat_tests) in omega (arith, h))
    by false e = record {
      member = m;
      place = 0;
      found = refl;
      is = ap (λ b. if b then [] else f m) e;
      before = λ i u g h. absurd (none i h);
      after = λ i u g. last i u g;
    }
      where
        none : (i : ℕ) → nat_lt i 0 ≡ true → Prim.⊥
        none i h = grind (arith, nat_tests)

        own : (n : ℕ) → nat_lt n n ≡ false
        own n = grind (arith, nat_tests)

        last : (i : ℕ) (u : TypeId) → slice_get (m ∷ []) i ≡ Some u → nat_lt (length (f m)) (length (f u)) ≡ false
        last zero u g = let h : m ≡ u = cc (g) in ap (λ x. nat_lt (length (f m)) (length (f x))) (sym h) ∙ own (length (f m))
        last (suc i) u g = absurd (cc (g))
largest f m (x ∷ ms) = by (nat_lt (length (f m)) (length (longest (map f (x ∷ ms))))) refl (largest f x ms)
  where
    by : (b : Bool) → nat_lt (length (f m)) (length (longest (map f (x ∷ ms)))) ≡ b → Largest f (x ∷ ms) → Largest f (m ∷ x ∷ ms)
    by true e r = record {
      member = r.member;
      place = suc r.place;
      found = r.found;
      is = ap (λ b. if b then longest (map f (x ∷ ms)) else f m) e ∙ r.is;
      before = λ i u g h. before i u g h;
      after = λ i u g. after i u g;
    }
      where
        more : nat_lt (length (f m)) (length (f r.member)) ≡ true
        more = ap (λ l. nat_lt (length (f m)) (length l)) (sym r.is) ∙ e

        down : (i k : ℕ) → nat_lt (suc i) (suc k) ≡ true → nat_lt i k ≡ true
        down i k h = grind (arith, nat_tests)

        back : (a b : ℕ) → nat_lt a b ≡ true → nat_lt b a ≡ false
        back a b h = grind (arith, nat_tests)

        before : (i : ℕ) (u : TypeId) → slice_get (m ∷ x ∷ ms) i ≡ Some u → nat_lt i (suc r.place) ≡ true
            → nat_lt (length (f u)) (length (f r.member)) ≡ true
        before zero u g h = let k : m ≡ u = cc (g) in ap (λ y. nat_lt (length (f y)) (length (f r.member))) (sym k) ∙ more
        before (suc i) u g h = r.before i u g (down i r.place h)

        after : (i : ℕ) (u : TypeId) → slice_get (m ∷ x ∷ ms) i ≡ Some u → nat_lt (length (f r.member)) (length (f u)) ≡ false
        after zero u g =
            let k : m ≡ u = cc (g) in ap (λ y. nat_lt (length (f r.member)) (length (f y))) (sym k) ∙ back (length (f m)) (length (f r.member)) more
        after (suc i) u g = r.after i u g
    by false e r = record {
      member = m;
      place = 0;
      found = refl;
      is = ap (λ b. if b then longest (map f (x ∷ ms)) else f m) e;
      before = λ i u g h. absurd (none i h);
      after = λ i u g. after i u g;
    }
      where
        none : (i : ℕ) → nat_lt i 0 ≡ true → Prim.⊥
        none i h = grind (arith, nat_tests)

        own : (n : ℕ) → nat_lt n n ≡ false
        own n = grind (arith, nat_tests)

        less : nat_lt (length (f m)) (length (f r.member)) ≡ false
        less = ap (λ l. nat_lt (length (f m)) (length l)) (sym r.is) ∙ e

        through : (a b c : ℕ) → nat_lt a b ≡ false → nat_lt b c ≡ false → nat_lt a c ≡ false
        through a b c h k = grind (arith, nat_tests)

        after : (i : ℕ) (u : TypeId) → slice_get (m ∷ x ∷ ms) i ≡ Some u → nat_lt (length (f m)) (length (f u)) ≡ false
        after zero u g = let k : m ≡ u = cc (g) in ap (λ y. nat_lt (length (f m)) (length (f y))) (sym k) ∙ own (length (f m))
        after (suc i) u g = through (length (f m)) (length (f r.member)) (length (f u)) less (r.after i u g)

all-of : (p : List Cell → Bool) (f : TypeId → List Cell) (ms : List TypeId) → list_all p (map f ms) ≡ true → (i : ℕ) (u : TypeId)
    → slice_get ms i ≡ Some u → p (f u) ≡ true
all-of p f [] h i u e = absurd (cc (e))
all-of p f (m ∷ ms) h zero u e = let g : m ≡ u = cc (e) in ap (λ x. p (f x)) (sym g) ∙ first (p (f m)) (list_all p (map f ms)) h
all-of p f (m ∷ ms) h (suc i) u e = all-of p f ms (second (p (f m)) (list_all p (map f ms)) h) i u e

module _ (w : Setting) (sound : IsWellFormed w.table) where
  union-part : (t : TypeId) (tag : ℕ) → shape_at w.table t ≡ Union tag → (m : TypeId) → Contains (members_at w.table t) m → IsComplete w.table m
  union-part t tag e m c =
      All-contains (IsComplete w.table) (members_at w.table t) m
      (subst (λ s. All (IsComplete w.table) (parts_of_shape s (members_at w.table t))) e (sound.each t).parts) c

  -- u is member number i
  pub sub-union : (t : TypeId) (tag i : ℕ) (u : TypeId) → shape_at w.table t ≡ Union tag → slice_get (members_at w.table t) i ≡ Some u
      → (HoldsMixed w.table t t → Prim.⊥) → IsUnionAllowed w.table w.kind t
      → size_of w.table u ≤ size_of w.table t → IsSub w t 0 u
  sub-union t tag i u e found plain allowed small = by (members_at w.table t) refl
    where
      has : Contains (members_at w.table t) u
      has = (i, slice_get_within (members_at w.table t) i u found, get_or_from_slice_get (members_at w.table t) i u u found)

      cu : IsComplete w.table u
      cu = union-part t tag e u has

      complete : (ms : List TypeId) → members_at w.table t ≡ ms → 0 < length ms → IsComplete w.table t
      complete [] g h = absurd (omega (arith, h))
      complete (m ∷ ms) g h = ap (λ s. is_complete_entry s (members_at w.table t)) e ∙ ap (λ l. is_complete_entry (Union tag) l) g

      by : (ms : List TypeId) → members_at w.table t ≡ ms → IsSub w t 0 u
      by [] g = absurd (let h : slice_get (members_at w.table t) i ≡ None = ap (λ l. slice_get l i) g in cc (h, found))
      by (m ∷ ms) g = record { room = omega (arith, nt, nu, small); agree = λ j d f. there j d f }
        where
          ct : IsComplete w.table t
          ct = complete (m ∷ ms) g (omega arith)

          nt : length (cells_of w.table t) ≡ size_of w.table t
          nt = (complete-some w.table sound t ct).1

          nu : length (cells_of w.table u) ≡ size_of w.table u
          nu = (complete-some w.table sound u cu).1

          cells : cells_of w.table t ≡ union_cells (physically_equal w.table) t (size_of w.table t) (holds_pointer w.table t)
              (map (cells_of w.table) (m ∷ ms))
          cells = cells_are w.table sound.order.0 sound.order.1 (physically_equal w.table) t
              ∙ ap (λ s. cells_of_shape w.table (physically_equal w.table) (cells_of w.table) t s (members_at w.table t)) e
              ∙ ap (λ l. cells_of_shape w.table (physically_equal w.table) (cells_of w.table) t (Union tag) l) g

          big : Largest (cells_of w.table) (m ∷ ms)
          big = largest (cells_of w.table) m ms

          raw-at : (n i : ℕ) → i < n → slice_get (replicate n raw) i ≡ Some raw
          raw-at zero i l = absurd (omega (arith, l))
          raw-at (suc n) zero l = refl
          raw-at (suc n) (suc i) l = raw-at n i (omega (arith, l))

          is-mixed : (b c : Bool) → holds_pointer w.table t ≡ b → b ≡ true
              → list_all (begins (physically_equal w.table) (longest (map (cells_of w.table) (m ∷ ms)))) (map (cells_of w.table) (m ∷ ms)) ≡ false
              → HoldsMixed w.table t t
          is-mixed b c hb t1 al = (
            0,
            0,
            ap (λ cs. slice_get cs 0)
                (cells ∙ ap (λ x. union_cells (physically_equal w.table) t (size_of w.table t) x (map (cells_of w.table) (m ∷ ms))) (hb ∙ t1)
                ∙ ap
                (λ (x : Bool). if x then padded_to (size_of w.table t) (longest (map (cells_of w.table) (m ∷ ms))) else map (mixed t)
                (range_with_len 0 (size_of w.table t))) al) ∙ some (size_of w.table t) (sound.sized t ct).some,
          )
            where
              some : (n : ℕ) → 0 < n → slice_get (map (mixed t) (range_with_len 0 n)) 0 ≡ Some (mixed t 0)
              some zero h = absurd (omega (arith, h))
              some (suc n) h = refl

          there : (j : ℕ) (d : Cell) → slice_get (cells_of w.table u) j ≡ Some d
              → (c : Cell) × (slice_get (cells_of w.table t) (0 + j) ≡ Some c) × CellsAgree w.table w.kind c d
          there j d f =
              at (holds_pointer w.table t) refl
              (list_all (begins (physically_equal w.table) (longest (map (cells_of w.table) (m ∷ ms)))) (map (cells_of w.table) (m ∷ ms))) refl
            where
              z : 0 + j ≡ j
              z = omega arith

              k : j < length (cells_of w.table u)
              k = slice_get_within (cells_of w.table u) j d f

              at : (b : Bool) → holds_pointer w.table t ≡ b → (c : Bool)
                  → list_all (begins (physically_equal w.table) (longest (map (cells_of w.table) (m ∷ ms)))) (map (cells_of w.table) (m ∷ ms)) ≡ c
                  → (c : Cell) × (slice_get (cells_of w.table t) (0 + j) ≡ Some c) × CellsAgree w.table w.kind c d
              at false hb c al =
                  let h = any-none (holds_pointer w.table) (members_at w.table t)
                  (sym (ap (λ s. holds_in_shape (holds_pointer w.table) s (members_at w.table t)) e) ∙ sym (holds_is w.table sound t)
                  ∙ hb) u has in (
                    raw,
                    ap (slice_get (cells_of w.table t)) z ∙ ap (λ cs. slice_get cs j)
                        (cells ∙ ap (λ x. union_cells (physically_equal w.table) t (size_of w.table t) x (map (cells_of w.table) (m ∷ ms))) hb)
                        ∙ raw-at (size_of w.table t) j (omega (arith, k, nu, small)),
                    subst (λ y. CellsAgree w.table w.kind raw y) (sym (all-raw w.table sound u cu h j d f)) tt,
                  )
              at true hb false al = absurd (plain (is-mixed true false hb refl al))
              at true hb true al =
                  let p = all-of (begins (physically_equal w.table) (longest (map (cells_of w.table) (m ∷ ms)))) (cells_of w.table) (m ∷ ms) al i u
                  (ap (λ l. slice_get l i) (sym g) ∙ found) in
                  let x = alike-there (physically_equal w.table) (take (length (cells_of w.table u)) (longest (map (cells_of w.table) (m ∷ ms))))
                  (cells_of w.table u) p j d f in
                  let y : slice_get (longest (map (cells_of w.table) (m ∷ ms))) j ≡ Some x.0 = sym
                  (get-taken (longest (map (cells_of w.table) (m ∷ ms))) (length (cells_of w.table u)) j k) ∙ x.1 in
                  let y' : slice_get (cells_of w.table big.member) j ≡ Some x.0 = ap (λ cs. slice_get cs j) (sym big.is) ∙ y in
                  let full = slice_get_within (longest (map (cells_of w.table) (m ∷ ms))) j x.0 y in
                  let large : IsLargest w.table t big.member = record {
                    place = big.place;
                    found = ap (λ l. slice_get l big.place) g ∙ big.found;
                    before = λ a v q r. big.before a v (ap (λ l. slice_get l a) (sym g) ∙ q) r;
                    after = λ a v q. big.after a v (ap (λ l. slice_get l a) (sym g) ∙ q);
                  } in
                  let in-big : IsComplete w.table big.member = union-part t tag e big.member (
                    big.place,
                    slice_get_within (members_at w.table t) big.place big.member large.found,
                    get_or_from_slice_get
                        (members_at w.table t) big.place big.member big.member large.found,
                  ) in
                  let a = agree-placed w sound u big.member (complete-data w.table sound u cu) (complete-data w.table sound big.member in-big)
                  (allowed plain u big.member has large) j d x.0 f y' ((alike_equiv (equal_equiv w.table)).symm d x.0 ∙ x.2) in (
                    x.0,
                    ap (slice_get (cells_of w.table t)) z ∙ ap (λ cs. slice_get cs j)
                        (cells ∙ ap (λ q. union_cells (physically_equal w.table) t (size_of w.table t) q (map (cells_of w.table) (m ∷ ms))) hb
                        ∙ ap
                        (λ (q : Bool). if q then padded_to (size_of w.table t) (longest (map (cells_of w.table) (m ∷ ms))) else map (mixed t)
                        (range_with_len 0 (size_of w.table t))) al)
                        ∙ get_front (longest (map (cells_of w.table) (m ∷ ms)))
                        (replicate (size_of w.table t - length (longest (map (cells_of w.table) (m ∷ ms)))) raw) j full ∙ y,
                    agree-turned w sound d x.0 a,
                  )
