-- A struct or union is copied between objects without tags.
use Rattle.std.proofs.Common.{◌≡◌, ◌≢◌, ◌∙◌, ◌⊎◌, ⊎_elim, inl, inr, ℕ, zero, suc, ◌+◌, ◌-◌, ◌*◌, ◌<◌, ◌≤◌, Bool, true, false, ◌&&◌, List, ◌∷◌, length, nat_le, slice_get, slice_index, Option, Some, None, refl, ap, sym, subst, arith, if◌then◌else◌}
use Rattle.std.specs.Prelude.{slice_index_or}
use Rattle.std.proofs.lemmas.Bool.Decides.{nat_tests}
use Rattle.std.proofs.lemmas.Option.{slice_get-get_or, slice_get_within}
use Rattle.cc_base.specs.declared.kind.Kind.{Kind}
use Rattle.cc_base.specs.declared.kind.Kind.TheVariants.{Wild}
use Rattle.cc_base.specs.declared.number.TypeId.{TypeId}
use Rattle.cc_base.specs.declared.number.NodeId.{NodeId}
use Rattle.c_types.specs.Table.{IsComplete}
use Rattle.c_types.specs.Layouts.{size_of}
use Rattle.c_types.specs.Cells.{Cell, raw, pointer, mixed, incomplete, AreOrdered}
use Rattle.c_types.specs.Equality.{cells_of, physically_equal}
use Rattle.c_types.specs.Flows.{CellsAgree}
use Rattle.c_types.specs.Sound.{IsWellFormed}
use Rattle.c_types.specs.Widths.{kind_width, before, cured_size}
use Rattle.c_types.proofs.Cells.{length_cells}
use Rattle.c_types.proofs.OrderedPointers.{cells_ordered, pointer_bytes}
use Rattle.type_laws.proofs.Widths.{before-suc, before-mono, before-next, before-behind}
use Rattle.runs.specs.Outcome.{Done, allowed}
use Rattle.flat_mem.specs.Bytes.{number, bytes_at, written, moved}
use Rattle.flat_mem.specs.Placement.{contents_size}
use Rattle.flat_mem.proofs.ByteLaws.{length-bytes_at, length-written, length-moved, get-moved_other, get-moved_inside, get-written_other, get-written_inside, get-bytes_at, number-moved, number-moved_apart, moved-bytes}
use Rattle.src_mem.specs.Pointers.{Pointer}
use Rattle.src_mem.specs.Memory.{Object, untouched, with_copied, with_copy, pointer_or_null}
use Rattle.src_mem.specs.State as source
use Rattle.src_mem.specs.State.{Setting, given}
use Rattle.src_mem.specs.Primitives.{Spot, spot, with_object, copy}
use Rattle.src_mem.specs.Outlines.{outline}
use Rattle.src_mem.specs.Facts.{HoldType}
use Rattle.src_mem.proofs.Outlines.{get-mapped}
use Rattle.src_mem.proofs.Spots.{spot-right}
use Rattle.cured_code.specs.declared.instr.Instr.TheVariants as instr
use Rattle.cured_code.specs.FlatState as flat
use Rattle.cured_code.specs.FlatState.{slot, words_at, copied, is_in_list, Trap, goes}
use Rattle.cured_code.specs.FlatMachine.{Context, act}
use Rattle.sim_relation.specs.Ground.{Ground, address, word_number, pointer_words}
use Rattle.sim_relation.specs.Accesses.{IsImage}
use Rattle.sim_relation.specs.Objects.{HoldsTyped, area_of}
use Rattle.sim_relation.specs.Related.{Related, ground_of}
use Rattle.sim_relation.proofs.Bounds.{agree-width}
use Rattle.sim_relation.proofs.Changes.{related-change}
use Rattle.sim_relation.proofs.Integers.{not-touched}
use Rattle.sim_relation.proofs.Kept.{typed-holds, untagged-holds, typed-contents, pointer-inside, words-width}
use Rattle.sim_relation.proofs.Places.{image-typed, images-append, in_list}
use Rattle.sim_memory.specs.Found.{IsFound, GoOnAlike}
use Rattle.sim_memory.proofs.Staying.{stays-change}
use Rattle.sim_memory.proofs.Loading.{right-found}

-- Words that are moved

words-moved : (k n : ℕ) (bytes : List ℕ) (to from i : ℕ) → i + 8 * k ≤ n → to + n ≤ length bytes → words_at k (moved n bytes to from) (to + i) ≡ words_at k bytes (from + i)
words-moved zero n bytes to from i h room = refl
words-moved (suc k) n bytes to from i h room =
    let e : to + i + 8 ≡ to + (i + 8) = omega arith in let f : from + i + 8 ≡ from + (i + 8) = omega arith in
    ap (λ x. x ∷ words_at k (moved n bytes to from) (to + i + 8)) (number-moved 8 n bytes to from i (omega (arith, h)) room)
    ∙ ap (λ p. number 8 bytes (from + i) ∷ words_at k (moved n bytes to from) p) e
    ∙ ap (λ ws. number 8 bytes (from + i) ∷ ws) (words-moved k n bytes to from (i + 8) (omega (arith, h)) room)
    ∙ ap (λ p. number 8 bytes (from + i) ∷ words_at k bytes p) (sym f)

words-moved_apart : (k n : ℕ) (bytes : List ℕ) (to from p : ℕ) → (p + 8 * k ≤ to) ⊎ (to + n ≤ p) → words_at k (moved n bytes to from) p ≡ words_at k bytes p
words-moved_apart zero n bytes to from p h = refl
words-moved_apart (suc k) n bytes to from p h =
    ap (λ x. x ∷ words_at k (moved n bytes to from) (p + 8)) (number-moved_apart 8 n bytes to from p (⊎_elim (λ m. inl (omega (arith, m))) (λ m. inr (omega (arith, m))) h))
    ∙ ap (λ ws. number 8 bytes p ∷ ws) (words-moved_apart k n bytes to from (p + 8) (⊎_elim (λ m. inl (omega (arith, m))) (λ m. inr (omega (arith, m))) h))

-- Cells that hold a type

module _ (w : Setting) (sound : IsWellFormed w.table) (t : TypeId) where
  abbrev ts : List Cell
  ts = cells_of w.table t

  -- the widths are those of the type
  pub before-held : (cells : List Cell) (at high : ℕ) → HoldType w cells at high t → (j : ℕ) → j ≤ length (cells_of w.table t)
      → before w.kind cells (at + j) ≡ before w.kind cells at + before w.kind (cells_of w.table t) j
  before-held cells at high h zero l = let e : at + 0 ≡ at = omega arith in ap (before w.kind cells) e ∙ (let z : before w.kind cells at ≡ before w.kind cells at + 0 = omega arith in z)
  before-held cells at high h (suc j) l =
      let d = slice_index_or (cells_of w.table t) j raw in
      let e = slice_get-get_or (cells_of w.table t) j raw (omega (arith, l)) in
      let x = h.agree j (slice_index_or (cells_of w.table t) j raw) e in
      let i = before-held cells at high h j (omega (arith, l)) in
      let a = before-suc w.kind cells (at + j) x.0 x.1 in
      let b = before-suc w.kind (cells_of w.table t) j (slice_index_or (cells_of w.table t) j raw) e in
      let k = agree-width w x.0 (slice_index_or (cells_of w.table t) j raw) x.2 in
      let f : at + suc j ≡ suc (at + j) = omega arith in
      ap (before w.kind cells) f ∙ (let z : before w.kind cells (suc (at + j)) ≡ before w.kind cells at + before w.kind (cells_of w.table t) (suc j) = omega (arith, i, a, b, k) in z)

  -- a raw byte agrees with a raw byte
  raw-agrees : (d : Cell) → CellsAgree w.table w.kind raw d → d ≡ raw
  raw-agrees raw a = refl
  raw-agrees (pointer n u i) a = absurd a
  raw-agrees (mixed u i) a = absurd a
  raw-agrees (incomplete u) a = absurd a

  agrees-raw : (c : Cell) → CellsAgree w.table w.kind c raw → c ≡ raw
  agrees-raw raw a = refl
  agrees-raw (pointer n u i) a = absurd a
  agrees-raw (mixed u i) a = absurd a
  agrees-raw (incomplete u) a = absurd a

  -- and a pointer's byte with the same byte of one of the same kind
  record IsLike (n : NodeId) (i : ℕ) (d : Cell) : Type 0 where
    node : NodeId
    to : TypeId
    is : d ≡ pointer node to i
    kind : w.kind node ≡ w.kind n

  pointer-agrees : (n : NodeId) (u : TypeId) (i : ℕ) (d : Cell) → CellsAgree w.table w.kind (pointer n u i) d → IsLike n i d
  pointer-agrees n u i raw a = absurd a
  pointer-agrees n u i (pointer m v j) a = record { node = m; to = v; is = ap (pointer m v) (sym a.0); kind = sym a.1 }
  pointer-agrees n u i (mixed v j) a = absurd a
  pointer-agrees n u i (incomplete v) a = absurd a

  agrees-pointer : (n : NodeId) (u : TypeId) (i : ℕ) (c : Cell) → CellsAgree w.table w.kind c (pointer n u i) → IsLike n i c
  agrees-pointer n u i raw a = absurd a
  agrees-pointer n u i (pointer m v j) a = record { node = m; to = v; is = ap (pointer m v) a.0; kind = a.1 }
  agrees-pointer n u i (mixed v j) a = absurd a
  agrees-pointer n u i (incomplete v) a = absurd a

  cell-of : (j : ℕ) → j < length (cells_of w.table t) → slice_get (cells_of w.table t) j ≡ Some (slice_index_or (cells_of w.table t) j raw)
  cell-of j h = slice_get-get_or (cells_of w.table t) j raw h

  -- the other cells that hold the type, from one side to the other
  raw-across : (cells others : List Cell) (at high to end : ℕ) → HoldType w cells at high t → HoldType w others to end t → (j : ℕ) → j < length (cells_of w.table t)
      → slice_get others (to + j) ≡ Some raw → slice_get cells (at + j) ≡ Some raw
  raw-across cells others at high to end h k j l e =
      let d = slice_index_or (cells_of w.table t) j raw in
      let x = h.agree j (slice_index_or (cells_of w.table t) j raw) (cell-of j l) in
      let y = k.agree j (slice_index_or (cells_of w.table t) j raw) (cell-of j l) in
      let same : y.0 ≡ raw = (let f = y.1 in cc (f, e)) in
      let is = raw-agrees (slice_index_or (cells_of w.table t) j raw) (subst (λ (z : Cell). CellsAgree w.table w.kind z (slice_index_or (cells_of w.table t) j raw)) same y.2) in
      x.1 ∙ ap Some (agrees-raw x.0 (subst (CellsAgree w.table w.kind x.0) is x.2))

  record Across (cells : List Cell) (at j : ℕ) (n : NodeId) : Type 0 where
    node : NodeId
    to : TypeId
    found : slice_get cells (at + j) ≡ Some (pointer node to 0)
    kind : w.kind node ≡ w.kind n
    room : j + 8 ≤ length (cells_of w.table t)
    inside : before w.kind (cells_of w.table t) j + kind_width (w.kind n) ≤ before w.kind (cells_of w.table t) (length (cells_of w.table t))

  pointer-across : (cells others : List Cell) (at high to end : ℕ) → HoldType w cells at high t → HoldType w others to end t → (j : ℕ) → j < length (cells_of w.table t)
      → (n : NodeId) (u : TypeId) → slice_get others (to + j) ≡ Some (pointer n u 0) → Across cells at j n
  pointer-across cells others at high to end h k j l n u e =
      let x = h.agree j (slice_index_or (cells_of w.table t) j raw) (cell-of j l) in
      let y = k.agree j (slice_index_or (cells_of w.table t) j raw) (cell-of j l) in
      let same : y.0 ≡ pointer n u 0 = (let f = y.1 in cc (f, e)) in
      let d = pointer-agrees n u 0 (slice_index_or (cells_of w.table t) j raw)
      (subst (λ (z : Cell). CellsAgree w.table w.kind z (slice_index_or (cells_of w.table t) j raw)) same y.2) in
      let z = agrees-pointer d.node d.to 0 x.0 (subst (CellsAgree w.table w.kind x.0) d.is x.2) in
      let mine : slice_get (cells_of w.table t) j ≡ Some (pointer d.node d.to 0) = cell-of j l ∙ ap Some d.is in
      let ordered = cells_ordered w.table sound t in
      record {
        node = z.node;
        to = z.to;
        found = x.1 ∙ ap Some z.is;
        kind = z.kind ∙ d.kind;
        room = (let f = slice_get_within (cells_of w.table t) (j + 7) (pointer d.node d.to 7) (pointer_bytes (cells_of w.table t) j d.node d.to ordered mine 7 (omega arith)) in omega (arith, f));
        inside = (let f = pointer-inside w.kind (cells_of w.table t) j d.node d.to ordered mine in let q = ap kind_width d.kind in omega (arith, f, q));
      }

  -- no pointer is cut where the type begins
  not-cut : (cells : List Cell) (at high : ℕ) → HoldType w cells at high t → 0 < length (cells_of w.table t) → AreOrdered cells → (i : ℕ) (n : NodeId) (u : TypeId)
      → slice_get cells i ≡ Some (pointer n u 0) → i < at → at < i + 8 → ⊥
  not-cut cells at high h some ordered i n u e l m =
      let x = h.agree 0 (slice_index_or (cells_of w.table t) 0 raw) (cell-of 0 some) in
      let f : slice_get cells (i + (at - i)) ≡ Some (pointer n u (at - i)) = pointer_bytes cells i n u ordered e (at - i) (omega (arith, l, m)) in
      let here : i + (at - i) ≡ at + 0 = omega (arith, l) in
      let same : x.0 ≡ pointer n u (at - i) = (let a = x.1 in let b = sym (ap (slice_get cells) here) ∙ f in cc (a, b)) in
      let d = pointer-agrees n u (at - i) (slice_index_or (cells_of w.table t) 0 raw)
      (subst (λ (z : Cell). CellsAgree w.table w.kind z (slice_index_or (cells_of w.table t) 0 raw)) same x.2) in
      let least = ((cells_ordered w.table sound t).least 0 (at - i) d.node d.to (cell-of 0 some ∙ ap Some d.is)).1 in omega (arith, least, l)

-- Where a cell lies, of those that are overwritten

data Side (at n i : ℕ) : Type 0 where
  beside : (i < at) ⊎ (at + n ≤ i) → Side at n i
  within : (j : ℕ) → j < n → i ≡ at + j → Side at n i

side : (at n i : ℕ) → Side at n i
side at n i = ⊎_elim (λ h. beside (inl h)) (λ h. ⊎_elim (λ k. beside (inr k)) (λ k. within (i - at) (omega (arith, h, k)) (omega (arith, h))) (two (at + n) i)) (one i at)
  where
    one : (a b : ℕ) → (a < b) ⊎ (b ≤ a)
    one a b = grind arith

    two : (a b : ℕ) → (a ≤ b) ⊎ (b < a)
    two a b = grind arith

copied-in : (n : ℕ) (source pointers : ℕ → Option Pointer) (from at j : ℕ) → j + 8 ≤ n → with_copied n source from at pointers (at + j) ≡ source (from + j)
copied-in n source pointers from at j h =
    ap (λ b. if b then source (from + (at + j - at)) else untouched n at pointers (at + j)) (yes n at j h)
    ∙ ap (λ i. source (from + i)) (let e : at + j - at ≡ j = omega arith in e)
  where
    yes : (n at j : ℕ) → j + 8 ≤ n → (nat_le at (at + j) && nat_le (at + j + 8) (at + n)) ≡ true
    yes n at j h = grind (arith, nat_tests)

copied-out : (n : ℕ) (source pointers : ℕ → Option Pointer) (from at i : ℕ) → 0 < n → (i + 8 ≤ at) ⊎ (at + n ≤ i) → with_copied n source from at pointers i ≡ pointers i
copied-out n source pointers from at i some h =
    ap (λ b. if b then source (from + (i - at)) else untouched n at pointers i) (no n at i some h) ∙ ap (λ b. if b then None else pointers i) (not-touched n at i h)
  where
    no : (n at i : ℕ) → 0 < n → (i + 8 ≤ at) ⊎ (at + n ≤ i) → (nat_le at i && nat_le (i + 8) (at + n)) ≡ false
    no n at i some h = grind (arith, nat_tests)

-- The target once the bytes are copied

copy-holds : (w : Setting) (sound : IsWellFormed w.table) (t : TypeId) (g : Ground) (kinds : g.kind ≡ w.kind) (bytes : List ℕ) (home house : ℕ) (o p : Object)
    (at high to end : ℕ) → 0 < length (cells_of w.table t) → HoldsTyped g bytes home o → HoldsTyped g bytes house p → HoldType w o.cells at high t
    → HoldType w p.cells to end t → to + length (cells_of w.table t) ≤ length p.bytes
    → house + before w.kind p.cells to + before w.kind (cells_of w.table t) (length (cells_of w.table t)) ≤ length bytes
    → HoldsTyped g (moved (before w.kind (cells_of w.table t) (length (cells_of w.table t))) bytes (house + before w.kind p.cells to) (home + before w.kind o.cells at)) house
    (with_copy (length (cells_of w.table t)) o at to p)
copy-holds w sound t g kinds bytes home house o p at high to end some h k from into room inside = record {
  ordered = k.ordered;
  sized = length-written (bytes_at n o.bytes at) p.bytes to ∙ k.sized;
  integers = λ i e. subst (λ (f : NodeId → Kind). slice_index B (house + before f p.cells i) ≡ slice_index (written (bytes_at n o.bytes at) p.bytes to) i) (sym kinds)
      (byte i e (side to n i));
  pointers = λ i m u e. subst (λ (f : NodeId → Kind). words_at (word_number (f m)) B (house + before f p.cells i)
      ≡ pointer_words g (f m) (pointer_or_null (with_copied n o.pointers at to p.pointers i))) (sym kinds) (words i m u e (side to n i));
}
  where
    n : ℕ
    n = length (cells_of w.table t)

    M : ℕ
    M = before w.kind (cells_of w.table t) (length (cells_of w.table t))

    A : ℕ
    A = house + before w.kind p.cells to

    F : ℕ
    F = home + before w.kind o.cells at

    B : List ℕ
    B = moved (before w.kind (cells_of w.table t) (length (cells_of w.table t))) bytes (house + before w.kind p.cells to) (home + before w.kind o.cells at)

    o-bytes : (i : ℕ) → slice_get o.cells i ≡ Some raw → slice_index bytes (home + before w.kind o.cells i) ≡ slice_index o.bytes i
    o-bytes i e = subst (λ (f : NodeId → Kind). slice_index bytes (home + before f o.cells i) ≡ slice_index o.bytes i) kinds (h.integers i e)

    p-bytes : (i : ℕ) → slice_get p.cells i ≡ Some raw → slice_index bytes (house + before w.kind p.cells i) ≡ slice_index p.bytes i
    p-bytes i e = subst (λ (f : NodeId → Kind). slice_index bytes (house + before f p.cells i) ≡ slice_index p.bytes i) kinds (k.integers i e)

    whole : before w.kind p.cells (to + length (cells_of w.table t)) ≡ before w.kind p.cells to + before w.kind (cells_of w.table t) (length (cells_of w.table t))
    whole = before-held w sound t p.cells to end into (length (cells_of w.table t)) (omega arith)

    byte : (i : ℕ) → slice_get p.cells i ≡ Some raw → Side to (length (cells_of w.table t)) i
        → slice_index B (house + before w.kind p.cells i) ≡ slice_index (written (bytes_at (length (cells_of w.table t)) o.bytes at) p.bytes to) i
    byte i e (beside b) =
        get-moved_other M bytes A F (house + before w.kind p.cells i)
        (⊎_elim (λ l. inl (let x = before-next w.kind p.cells i to e l in omega (arith, x))) (λ l. inr (let x = whole in let y = before-mono w.kind p.cells (to + n) i l in omega (arith, x, y))) b)
        ∙ p-bytes i e
        ∙ sym (get-written_other (bytes_at n o.bytes at) p.bytes to i (let z = length-bytes_at n o.bytes at in ⊎_elim inl (λ l. inr (omega (arith, l, z))) b))
    byte i e (within j l same) =
        let there : slice_get p.cells (to + j) ≡ Some raw = ap (slice_get p.cells) (sym same) ∙ e in
        let mine = raw-across w sound t o.cells p.cells at high to end from into j l there in
        let a = before-held w sound t p.cells to end into j (omega (arith, l)) in
        let b = before-held w sound t o.cells at high from j (omega (arith, l)) in
        let c = before-held w sound t p.cells to end into (suc j) (omega (arith, l)) in
        let step = before-suc w.kind p.cells (to + j) raw there in
        let next : to + suc j ≡ suc (to + j) = omega arith in
        let more = before-mono w.kind (cells_of w.table t) (suc j) (length (cells_of w.table t)) (omega (arith, l)) in
        let up = ap (before w.kind p.cells) next in
        let place : house + before w.kind p.cells i ≡ A + before w.kind (cells_of w.table t) j = ap (λ x. house + before w.kind p.cells x) same ∙ (let z : house + before w.kind p.cells (to + j) ≡ house + before w.kind p.cells to + before w.kind (cells_of w.table t) j = omega (arith, a) in z) in
        let origin : F + before w.kind (cells_of w.table t) j ≡ home + before w.kind o.cells (at + j) = omega (arith, b) in
        let long = length-bytes_at n o.bytes at in
        ap (slice_index B) place
        ∙ get-moved_inside M bytes A F (before w.kind (cells_of w.table t) j) (omega (arith, a, c, step, up, more)) inside
        ∙ ap (slice_index bytes) origin ∙ o-bytes (at + j) mine
        ∙ sym (ap (slice_index (written (bytes_at n o.bytes at) p.bytes to)) same
        ∙ get-written_inside (bytes_at n o.bytes at) p.bytes to j (omega (arith, l, long)) (omega (arith, room, long)) ∙ get-bytes_at n o.bytes at j l)

    apart : (i : ℕ) (m : NodeId) (u : TypeId) → slice_get p.cells i ≡ Some (pointer m u 0) → (i + 8 ≤ to) ⊎ (to + length (cells_of w.table t) ≤ i)
        → words_at (word_number (w.kind m)) B (house + before w.kind p.cells i)
        ≡ pointer_words g (w.kind m) (pointer_or_null (with_copied (length (cells_of w.table t)) o.pointers at to p.pointers i))
    apart i m u e b =
        words-moved_apart (word_number (w.kind m)) M bytes A F (house + before w.kind p.cells i)
        (let v = words-width (w.kind m) in ⊎_elim (λ l. inl (let x = before-behind w.kind p.cells i to m u k.ordered e l in omega (arith, x, v)))
        (λ l. inr (let x = whole in let y = before-mono w.kind p.cells (to + n) i l in omega (arith, x, y))) b)
        ∙ subst (λ (f : NodeId → Kind). words_at (word_number (f m)) bytes (house + before f p.cells i) ≡ pointer_words g (f m) (pointer_or_null (p.pointers i))) kinds (k.pointers i m u e)
        ∙ ap (λ (x : Option Pointer). pointer_words g (w.kind m) (pointer_or_null x)) (sym (copied-out n o.pointers p.pointers at to i some b))

    words : (i : ℕ) (m : NodeId) (u : TypeId) → slice_get p.cells i ≡ Some (pointer m u 0) → Side to (length (cells_of w.table t)) i
        → words_at (word_number (w.kind m)) B (house + before w.kind p.cells i)
        ≡ pointer_words g (w.kind m) (pointer_or_null (with_copied (length (cells_of w.table t)) o.pointers at to p.pointers i))
    words i m u e (beside (inr l)) = apart i m u e (inr l)
    words i m u e (beside (inl l)) = apart i m u e (inl (⊎_elim (λ x. x) (λ x. absurd (not-cut w sound t p.cells to end into some k.ordered i m u e l x)) (case (i + 8) to)))
      where
        case : (a b : ℕ) → (a ≤ b) ⊎ (b < a)
        case a b = grind arith
    words i m u e (within j l same) =
        let there : slice_get p.cells (to + j) ≡ Some (pointer m u 0) = ap (slice_get p.cells) (sym same) ∙ e in
        let x = pointer-across w sound t o.cells p.cells at high to end from into j l m u there in
        let a = before-held w sound t p.cells to end into j (omega (arith, l)) in
        let b = before-held w sound t o.cells at high from j (omega (arith, l)) in
        let v = words-width (w.kind m) in let z = x.inside in
        let place : house + before w.kind p.cells i ≡ A + before w.kind (cells_of w.table t) j = ap (λ y. house + before w.kind p.cells y) same ∙ (let y : house + before w.kind p.cells (to + j) ≡ house + before w.kind p.cells to + before w.kind (cells_of w.table t) j = omega (arith, a) in y) in
        let origin : F + before w.kind (cells_of w.table t) j ≡ home + before w.kind o.cells (at + j) = omega (arith, b) in
        ap (words_at (word_number (w.kind m)) B) place
        ∙ words-moved (word_number (w.kind m)) M bytes A F (before w.kind (cells_of w.table t) j) (omega (arith, v, z)) inside
        ∙ ap (words_at (word_number (w.kind m)) bytes) origin
        ∙ subst (λ (q : Kind). words_at (word_number q) bytes (home + before w.kind o.cells (at + j)) ≡ pointer_words g q (pointer_or_null (o.pointers (at + j)))) x.kind
        (subst (λ (f : NodeId → Kind). words_at (word_number (f x.node)) bytes (home + before f o.cells (at + j)) ≡ pointer_words g (f x.node) (pointer_or_null (o.pointers (at + j)))) kinds
        (h.pointers (at + j) x.node x.to x.found))
        ∙ ap (λ (y : Option Pointer). pointer_words g (w.kind m) (pointer_or_null y)) (sym (copied-in n o.pointers p.pointers at to j x.room)
        ∙ ap (with_copied n o.pointers at to p.pointers) (sym same))

-- Both machines

pub copy-right : (n : ℕ) (from to : Kind) (s : source.State) (p q : Pointer) (x y : Spot) → spot from s.memory.objects p n ≡ Some x → spot to s.memory.objects q n ≡ Some y
    → copy n from p to q s ≡ Done tt (with_object y.number (with_copy n x.object x.at y.at y.object) (source.touched y.number y.at n (source.touched x.number x.at n s)))
copy-right n from to s p q x y e f =
    ap (λ (z : Option Spot). given z (λ (read : Spot). λ (r : source.State). given (spot to r.memory.objects q n)
    (λ (at : Spot). λ (u : source.State). Done tt (with_object at.number (with_copy n read.object read.at at.at at.object) (source.touched at.number at.at n u))) (source.touched read.number read.at n r)) s) e
    ∙ ap (λ (z : Option Spot). given z (λ (at : Spot). λ (u : source.State). Done tt (with_object at.number (with_copy n x.object x.at at.at at.object) (source.touched at.number at.at n u)))
    (source.touched x.number x.at n s)) f

pub structs-copied : (w : Setting) (number_of : TypeId → ℕ) (from to : Kind) (t : TypeId) (p q : Pointer) (s : source.State) (x : Context) (a b m : ℕ) (c : flat.Local)
    → IsWellFormed w.table → IsComplete w.table t → from ≢ Wild → to ≢ Wild → Related w number_of s c.state
    → IsFound w number_of s c.state t p (slot c b) → IsFound w number_of s c.state t q (slot c a) → m ≡ cured_size w.table w.kind t
    → GoOnAlike w number_of s c (copy (size_of w.table t) from p to q s) (act (instr.Move a b m) x c) tt c.slots
structs-copied w number_of from to t p q s x a b m c sound complete plain typed r f h wide = record {
  next = with_object h.location.object new (source.touched h.location.object h.at n (source.touched f.location.object f.at n s));
  after = copied m (slot c a) (slot c b) (moved m bytes (slot c a) (slot c b)) c;
  source_goes = ap (λ k. copy k from p to q s) (sym sized)
      ∙ copy-right n from to s p q (record { number = f.location.object; object = f.object; at = f.at }) (record { number = h.location.object; object = h.object; at = h.at })
      (ap (λ y. spot from s.memory.objects y n) f.is
      ∙ spot-right from s.memory.objects f.location n f.object f.at (right-found w number_of s c.state from t p (slot c b) n plain f (omega arith)))
      (ap (λ y. spot to s.memory.objects y n) h.is
      ∙ spot-right to s.memory.objects h.location n h.object h.at (right-found w number_of s c.state to t q (slot c a) n typed h (omega arith)));
  flat_goes = ap (λ (y : Bool). allowed y (Trap x.function) (goes (λ d. copied m (slot d a) (slot d b) (moved m d.state.memory.bytes (slot d a) (slot d b)) d)) c)
      (both (is_in_list c.state (slot c a) m) (is_in_list c.state (slot c b) m) (in_list (slot c a) m (length bytes) target-inside) (in_list (slot c b) m (length bytes) source-inside));
  slots_are = refl;
  stays = stays-change w number_of s (with_object h.location.object new (source.touched h.location.object h.at n (source.touched f.location.object f.at n s))) c.state
      (copied m (slot c a) (slot c b) (moved m bytes (slot c a) (slot c b)) c).state h.location.object h.object new h.found h.live refl refl refl refl refl refl
      (λ j l. get-moved_other m bytes (slot c a) (slot c b) j (outside j (inl l)));
  related = related-change w number_of (source.touched f.location.object f.at n s) (flat.touched (slot c b) m c.state) h.location.object h.object new
      (moved m bytes (slot c a) (slot c b)) (record { object = h.location.object; offset = h.at; size = n }) (record { at = slot c a; size = m })
      read h.found h.live refl (length-moved m bytes (slot c a) (slot c b)) (moved-bytes m bytes (slot c a) (slot c b) r.sound.bytes)
      (λ j z. get-moved_other m bytes (slot c a) (slot c b) j (outside j z))
      (untagged-holds (w.kind h.object.node) h.untagged g (moved m bytes (slot c a) (slot c b)) (address g h.location.object) new held) target-image;
}
  where
    g : Ground
    g = ground_of w number_of s c.state

    bytes : List ℕ
    bytes = c.state.memory.bytes

    n : ℕ
    n = length (cells_of w.table t)

    M : ℕ
    M = before w.kind (cells_of w.table t) (length (cells_of w.table t))

    sized : length (cells_of w.table t) ≡ size_of w.table t
    sized = length_cells w.table sound (physically_equal w.table) t complete

    some : 0 < length (cells_of w.table t)
    some = let e = sized in let z = (sound.sized t complete).some in omega (arith, e, z)

    both : (a b : Bool) → a ≡ true → b ≡ true → (a && b) ≡ true
    both a b e f = ap (λ x. x && b) e ∙ f

    new : Object
    new = with_copy (length (cells_of w.table t)) f.object f.at h.at h.object

    source-holds : HoldsTyped (ground_of w number_of s c.state) c.state.memory.bytes (address (ground_of w number_of s c.state) f.location.object) f.object
    source-holds = typed-holds (w.kind f.object.node) f.untagged _ _ _ _ (r.holds.each f.location.object f.object f.found f.live)

    target-holds : HoldsTyped (ground_of w number_of s c.state) c.state.memory.bytes (address (ground_of w number_of s c.state) h.location.object) h.object
    target-holds = typed-holds (w.kind h.object.node) h.untagged _ _ _ _ (r.holds.each h.location.object h.object h.found h.live)

    source-end : before w.kind f.object.cells (f.at + length (cells_of w.table t)) ≡ before w.kind f.object.cells f.at + before w.kind (cells_of w.table t) (length (cells_of w.table t))
    source-end = before-held w sound t f.object.cells f.at f.location.part.high f.holds (length (cells_of w.table t)) (omega arith)

    target-end : before w.kind h.object.cells (h.at + length (cells_of w.table t)) ≡ before w.kind h.object.cells h.at + before w.kind (cells_of w.table t) (length (cells_of w.table t))
    target-end = before-held w sound t h.object.cells h.at h.location.part.high h.holds (length (cells_of w.table t)) (omega arith)

    target-most : before w.kind h.object.cells (h.at + length (cells_of w.table t)) ≤ contents_size (area_of w.kind (outline h.object))
    target-most = typed-contents w.kind (w.kind h.object.node) h.untagged (outline h.object) (h.at + length (cells_of w.table t))

    source-inside : slot c b + m ≤ length c.state.memory.bytes
    source-inside =
        let u = typed-contents w.kind (w.kind f.object.node) f.untagged (outline f.object) (f.at + length (cells_of w.table t)) in
        let l = (r.areas.lie f.location.object f.object f.found f.live).inside in let e = source-end in let k = f.here in omega (arith, u, l, e, k, wide)

    target-inside : slot c a + m ≤ length c.state.memory.bytes
    target-inside =
        let u = target-most in
        let l = (r.areas.lie h.location.object h.object h.found h.live).inside in let e = target-end in let k = h.here in omega (arith, u, l, e, k, wide)

    outside : (j : ℕ) → (j < address g h.location.object) ⊎ (address g h.location.object + contents_size (area_of w.kind (outline h.object)) ≤ j) → (j < slot c a) ⊎ (slot c a + m ≤ j)
    outside j z = ⊎_elim (λ l. inl (let k = h.here in omega (arith, k, l))) (λ l. inr (let k = h.here in let e = target-end in let u = target-most in omega (arith, k, l, e, u, wide))) z

    source-image : IsImage (ground_of w number_of s c.state) (record { object = f.location.object; offset = f.at; size = length (cells_of w.table t) }) (record { at = slot c b; size = m })
    source-image = record {
      object = outline f.object;
      found = get-mapped outline s.memory.objects f.location.object f.object f.found;
      is = image-typed (w.kind f.object.node) f.untagged g (outline f.object) (record { object = f.location.object; offset = f.at; size = length (cells_of w.table t) })
          (record { at = slot c b; size = m }) f.here (let e = source-end in let k = f.here in omega (arith, e, k, wide));
    }

    target-image : IsImage (ground_of w number_of s c.state) (record { object = h.location.object; offset = h.at; size = length (cells_of w.table t) }) (record { at = slot c a; size = m })
    target-image = record {
      object = outline h.object;
      found = get-mapped outline s.memory.objects h.location.object h.object h.found;
      is = image-typed (w.kind h.object.node) h.untagged g (outline h.object) (record { object = h.location.object; offset = h.at; size = length (cells_of w.table t) })
          (record { at = slot c a; size = m }) h.here (let e = target-end in let k = h.here in omega (arith, e, k, wide));
    }

    read : Related w number_of (source.touched f.location.object f.at (length (cells_of w.table t)) s) (flat.touched (slot c b) m c.state)
    read = record {
      areas = record { count = r.areas.count; sizes = r.areas.sizes; lie = r.areas.lie; apart = r.areas.apart };
      holds = r.holds;
      sound = r.sound;
      small = r.small;
      room = record { frame_charge = r.room.frame_charge; heap_charge = r.room.heap_charge; frames = r.room.frames; heap = r.room.heap };
      outside = record { output = r.outside.output; read = r.outside.read; input = r.outside.input; turns = r.outside.turns; entered = r.outside.entered };
      accesses = images-append (ground_of w number_of s c.state) s.accesses c.state.accesses _ _ r.accesses source-image;
    }

    room : h.at + length (cells_of w.table t) ≤ length h.object.bytes
    room =
        let l = slice_get_within h.object.cells (h.at + (length (cells_of w.table t) - 1)) _
        (h.holds.agree (length (cells_of w.table t) - 1) (slice_index_or (cells_of w.table t) (length (cells_of w.table t) - 1) raw)
        (slice_get-get_or (cells_of w.table t) (length (cells_of w.table t) - 1) raw (let z = some in omega (arith, z)))).1 in
        let e = target-holds.sized in let z = some in omega (arith, l, e, z)

    held : HoldsTyped (ground_of w number_of s c.state) (moved m c.state.memory.bytes (slot c a) (slot c b)) (address (ground_of w number_of s c.state) h.location.object)
        (with_copy (length (cells_of w.table t)) f.object f.at h.at h.object)
    held =
        subst (λ k. HoldsTyped g (moved k bytes (slot c a) (slot c b)) (address g h.location.object) (with_copy n f.object f.at h.at h.object)) (sym wide)
        (subst (λ k. HoldsTyped g (moved M bytes k (slot c b)) (address g h.location.object) (with_copy n f.object f.at h.at h.object)) (sym h.here)
        (subst (λ k. HoldsTyped g (moved M bytes (address g h.location.object + before w.kind h.object.cells h.at) k) (address g h.location.object) (with_copy n f.object f.at h.at h.object)) (sym f.here)
        (copy-holds w sound t g refl bytes (address g f.location.object) (address g h.location.object) f.object h.object f.at f.location.part.high h.at h.location.part.high
        some source-holds target-holds f.holds h.holds room (let u = target-most in
        let l = (r.areas.lie h.location.object h.object h.found h.live).inside in let e = target-end in omega (arith, u, l, e)))))
