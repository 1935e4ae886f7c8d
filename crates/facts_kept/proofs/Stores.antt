-- What a store, a clearing and a copy keep: integers, pointers typed and tagged, copies typed and WILD.
use Rattle.std.proofs.Common.{◌≡◌, ◌≢◌, ℕ, zero, suc, ◌+◌, ◌-◌, ◌%◌, ◌<◌, ◌≤◌, ◌⊎◌, inl, inr, Bool, true, false, ◌&&◌, List, map, length, replicate, slice_get, slice_set, Option, Some, None, refl, ap, sym, subst, ◌∙◌, ⊎_elim, arith, nat_eq, nat_le, if◌then◌else◌}
use Rattle.std.specs.Prelude.{⊤, IsTrue, IsFalse}
use Rattle.std.proofs.lemmas.Bool.Decides.{nat_tests}
use Rattle.std.proofs.lemmas.Option.{slice_get_within}
use Rattle.cc_base.specs.declared.number.TypeId.{TypeId}
use Rattle.cc_base.specs.declared.number.NodeId.{NodeId}
use Rattle.cc_base.specs.declared.kind.Kind.{Kind}
use Rattle.cc_base.specs.declared.kind.Kind.TheVariants.{Wild}
use Rattle.flat_mem.specs.Bytes.{number, zeroed, written, bytes_at}
use Rattle.flat_mem.proofs.ByteLaws.{length-stored, stored-bytes, number-stored_apart, length-zeroed, zeroed-bytes, number-zeroed, number-zeroed_apart, number-zeros, length-bytes_at, length-written, number-written_apart, written-bytes, bytes_at-bytes}
use Rattle.src_mem.proofs.Whole.{number-copied}
use Rattle.facts_kept.proofs.Lists.{lives-set, get-zeroed_either, set-cases, outlines-set, number-zero}
use Rattle.c_types.specs.Cells.{Cell, raw, pointer, mixed, incomplete, AreOrdered}
use Rattle.c_types.specs.Equality.{cells_of}
use Rattle.c_types.specs.Flows.{IsOfOneClass, CellsAgree}
use Rattle.c_types.specs.Sound.{IsWellFormed}
use Rattle.type_laws.proofs.Pointers.{class_turned}
use Rattle.src_mem.specs.Pointers.{Pointer, Null, Number, At, Function}
use Rattle.src_mem.specs.Memory.{Object, touches, untouched, with_integer, with_pointer, with_entry, entry_of, cleared, with_copy, with_copied}
use Rattle.kind_sites.specs.declared.site.Site.{Site}
use Rattle.src_mem.specs.State.{Setting}
use Rattle.src_mem.specs.Facts.{IsMade, AreSound, HoldType, IsValueOf, Reaches, IsStoredTyped, IsStoredTagged, IsSoundObject}
use Rattle.c_types.proofs.OrderedPointers.{pointer_bytes, cells_ordered}
use Rattle.src_mem.specs.Outlines.{Outline, outline, Life, life}
use Rattle.facts_kept.proofs.Agree.{agree-turned, agree-twice}
use Rattle.facts_kept.proofs.Places.{value-class}

-- A store leaves the facts: outlines and lives are the same lists

-- one law for every store: only the new object has to be looked at, under the old outlines and lives
pub sound-change : (w : Setting) (sites : List Site) (objects : List Object) (k : ℕ) (o new : Object) → AreSound w sites objects
    → slice_get objects k ≡ Some o → outline new ≡ outline o → life new ≡ life o
    → IsSoundObject w sites (map outline objects) (map life objects) new → AreSound w sites (slice_set objects k new)
sound-change w sites objects k o new s found same alike is = record {
  each =
      λ j z e l. subst (λ (xs : List Outline). IsSoundObject w sites xs (map life (slice_set objects k new)) z)
      (sym (outlines-set objects k o new found same))
      (subst (λ (ys : List Life). IsSoundObject w sites (map outline objects) ys z) (sym (lives-set objects k o new found alike))
      (⊎_elim (λ h. subst (IsSoundObject w sites (map outline objects) (map life objects)) (sym h.1) is) (λ h. s.each j z h.1 l)
      (set-cases objects k j o new z found e)));
}

-- the pointers that stay
pub stays : (n at : ℕ) (pointers : ℕ → Option Pointer) (k : ℕ) (p : Pointer) → untouched n at pointers k ≡ Some p
    → (pointers k ≡ Some p) × ((k + 8 ≤ at) ⊎ (at + n ≤ k))
stays n at pointers k p = by (touches n at k) refl
  where
    apart : (n at k : ℕ) → touches n at k ≡ false → (k + 8 ≤ at) ⊎ (at + n ≤ k)
    apart n at k h = grind (arith, nat_tests)

    by : (b : Bool) → touches n at k ≡ b → (if b then None else pointers k) ≡ Some p → (pointers k ≡ Some p) × ((k + 8 ≤ at) ⊎ (at + n ≤ k))
    by true e h = absurd (cc (h))
    by false e h = (h, apart n at k e)

-- an integer stored at raw bytes keeps an object sound
pub sound-integer : (w : Setting) (sites : List Site) (outlines : List Outline) (lives : List Life) (o : Object) (n at u : ℕ)
    → IsSoundObject w sites outlines lives o
    → (w.kind o.node ≢ Wild → (k : ℕ) (m : NodeId) (t : TypeId) → slice_get o.cells k ≡ Some (pointer m t 0) → (k + 8 ≤ at) ⊎ (at + n ≤ k))
    → IsSoundObject w sites outlines lives (with_integer n at u o)
sound-integer w sites outlines lives o n at u s apart = record {
  sized = length-stored n o.bytes at u ∙ s.sized;
  bytes = stored-bytes n o.bytes at u s.bytes;
  typed = λ a k p e. s.typed a k p (stays n at o.pointers k p e).0;
  tagged = λ a k p e. s.tagged a k p (stays n at o.pointers k p e).0;
  under = λ k p e. let x = stays n at o.pointers k p e in number-stored_apart 8 n o.bytes at k u x.1 ∙ s.under k p x.0;
  zeros = λ a k m t e. number-stored_apart 8 n o.bytes at k u (apart a k m t e) ∙ s.zeros a k m t e;
  reaches = λ k p e. s.reaches k p (stays n at o.pointers k p e).0;
  made = λ k p e. s.made k p (stays n at o.pointers k p e).0;
}

-- and so does a pointer that is a value, stored where one begins
pub sound-pointer : (w : Setting) (sites : List Site) (outlines : List Outline) (lives : List Life) (o : Object) (at : ℕ) (n : NodeId) (t : TypeId)
    (q : Pointer)
    → IsSoundObject w sites outlines lives o → w.kind o.node ≢ Wild
    → slice_get o.cells at ≡ Some (pointer n t 0) → IsValueOf w outlines (w.kind n) t q → Reaches lives o.depth q → IsMade sites q
    → IsSoundObject w sites outlines lives (with_pointer at q o)
sound-pointer w sites outlines lives o at n t q s untagged begins value reaches told = record {
  sized = length-zeroed 8 o.bytes at ∙ s.sized;
  bytes = zeroed-bytes 8 o.bytes at s.bytes;
  typed =
      λ a k p e. of (λ k p. IsStoredTyped w outlines (outline o) k p) (record { node = n; to = t; begins = begins; value = value })
      (λ k p f. s.typed untagged k p f) k p e;
  tagged = λ a k p e. absurd (untagged a);
  under = λ k p e. under k p (nat_eq k at) refl e;
  zeros = λ a k m u e. zero k (s.zeros a k m u e);
  reaches = λ k p e. of (λ k p. Reaches lives o.depth p) reaches (λ k p f. s.reaches k p f) k p e;
  made = λ k p e. of (λ k p. IsMade sites p) told (λ k p f. s.made k p f) k p e;
}
  where
    entry : (p : Pointer) → entry_of q ≡ Some p → q ≡ p
    entry p e = one q p e
      where
        one : (q p : Pointer) → entry_of q ≡ Some p → q ≡ p
        one Null p e = absurd (cc (e))
        one (Number m) p e = cc (e)
        one (At l) p e = cc (e)
        one (Function f) p e = cc (e)

    of : (P : ℕ → Pointer → Type 0) → P at q → ((k : ℕ) (p : Pointer) → o.pointers k ≡ Some p → P k p) → (k : ℕ) (p : Pointer)
        → with_entry at (entry_of q) (untouched 8 at o.pointers) k ≡ Some p → P k p
    of P here there k p e = by (nat_eq k at) refl e
      where
        by : (b : Bool) → nat_eq k at ≡ b → (if b then entry_of q else untouched 8 at o.pointers k) ≡ Some p → P k p
        by true f e = let g : at ≡ k = grind (arith, nat_tests) in subst (λ (j : ℕ). P j p) g (subst (P at) (entry p e) here)
        by false f e = there k p (stays 8 at o.pointers k p e).0

    under : (k : ℕ) (p : Pointer) (b : Bool) → nat_eq k at ≡ b → (if b then entry_of q else untouched 8 at o.pointers k) ≡ Some p
        → number 8 (zeroed 8 o.bytes at) k ≡ 0
    under k p true f e = let g : k ≡ at = grind (arith, nat_tests) in number-zeroed 8 8 o.bytes at k (omega arith) (omega arith)
    under k p false f e = let x = stays 8 at o.pointers k p e in number-zeroed_apart 8 8 o.bytes at k x.1 ∙ s.under k p x.0

    zero : (k : ℕ) → number 8 o.bytes k ≡ 0 → number 8 (zeroed 8 o.bytes at) k ≡ 0
    zero k e =
        number-zeros 8 (zeroed 8 o.bytes at) k
        (λ i h. ⊎_elim (λ x. x) (λ x. x ∙ number-zero 8 o.bytes k e i h) (get-zeroed_either 8 o.bytes at (k + i)))

none-written : (source target : List ℕ) (from at : ℕ) → written (bytes_at 0 source from) target at ≡ target
unfolding bytes_at written
none-written source target from at = refl

entry-is : (q p : Pointer) → entry_of q ≡ Some p → q ≡ p
entry-is Null p e = absurd (cc (e))
entry-is (Number m) p e = cc (e)
entry-is (At l) p e = cc (e)
entry-is (Function f) p e = cc (e)

-- a WILD value stored in a tagged object, at a multiple of 8
pub sound-tagged : (w : Setting) (sites : List Site) (outlines : List Outline) (lives : List Life) (o : Object) (at : ℕ) (t : TypeId) (q : Pointer)
    → IsSoundObject w sites outlines lives o → w.kind o.node ≡ Wild
    → at % 8 ≡ 0 → at + 8 ≤ o.size → ((u : TypeId) → IsValueOf w outlines Wild u q) → Reaches lives o.depth q → IsMade sites q
    → IsSoundObject w sites outlines lives (with_pointer at q o)
sound-tagged w sites outlines lives o at t q s tagged aligned room value reaches told = record {
  sized = length-zeroed 8 o.bytes at ∙ s.sized;
  bytes = zeroed-bytes 8 o.bytes at s.bytes;
  typed = λ a k p e. absurd (a tagged);
  tagged =
      λ a k p e. of (λ k p. IsStoredTagged w outlines (outline o) k p) (record { aligned = aligned; inside = room; value = value })
      (λ k p f. s.tagged tagged k p f) k p e;
  under = λ k p e. under k p (nat_eq k at) refl e;
  zeros = λ a k m u e. absurd (a tagged);
  reaches = λ k p e. of (λ k p. Reaches lives o.depth p) reaches (λ k p f. s.reaches k p f) k p e;
  made = λ k p e. of (λ k p. IsMade sites p) told (λ k p f. s.made k p f) k p e;
}
  where
    of : (P : ℕ → Pointer → Type 0) → P at q → ((k : ℕ) (p : Pointer) → o.pointers k ≡ Some p → P k p) → (k : ℕ) (p : Pointer)
        → with_entry at (entry_of q) (untouched 8 at o.pointers) k ≡ Some p → P k p
    of P here there k p e = by (nat_eq k at) refl e
      where
        by : (b : Bool) → nat_eq k at ≡ b → (if b then entry_of q else untouched 8 at o.pointers k) ≡ Some p → P k p
        by true f e = let g : at ≡ k = grind (arith, nat_tests) in subst (λ (j : ℕ). P j p) g (subst (P at) (entry-is q p e) here)
        by false f e = there k p (stays 8 at o.pointers k p e).0

    under : (k : ℕ) (p : Pointer) (b : Bool) → nat_eq k at ≡ b → (if b then entry_of q else untouched 8 at o.pointers k) ≡ Some p
        → number 8 (zeroed 8 o.bytes at) k ≡ 0
    under k p true f e = let g : k ≡ at = grind (arith, nat_tests) in number-zeroed 8 8 o.bytes at k (omega arith) (omega arith)
    under k p false f e = let x = stays 8 at o.pointers k p e in number-zeroed_apart 8 8 o.bytes at k x.1 ∙ s.under k p x.0

-- an object is cleared
pub sound-cleared : (w : Setting) (sites : List Site) (outlines : List Outline) (lives : List Life) (o : Object)
    → IsSoundObject w sites outlines lives o → IsSoundObject w sites outlines lives (cleared o)
sound-cleared w sites outlines lives o s = record {
  sized = length-zeroed o.size o.bytes 0 ∙ s.sized;
  bytes = zeroed-bytes o.size o.bytes 0 s.bytes;
  typed = λ a k p e. absurd (cc (e));
  tagged = λ a k p e. absurd (cc (e));
  under = λ k p e. absurd (cc (e));
  zeros = λ a k n t e. zero k (s.zeros a k n t e);
  reaches = λ k p e. absurd (cc (e));
  made = λ k p e. absurd (cc (e));
}
  where
    zero : (k : ℕ) → number 8 o.bytes k ≡ 0 → number 8 (zeroed o.size o.bytes 0) k ≡ 0
    zero k e =
        number-zeros 8 (zeroed o.size o.bytes 0) k
        (λ i h. ⊎_elim (λ x. x) (λ x. x ∙ number-zero 8 o.bytes k e i h) (get-zeroed_either o.size o.bytes 0 (k + i)))

-- what a copy brings along lies whole in the bytes; what stays lies apart
copied-cases : (n : ℕ) (source : ℕ → Option Pointer) (from at : ℕ) (pointers : ℕ → Option Pointer) (k : ℕ) (p : Pointer)
    → with_copied n source from at pointers k ≡ Some p
    → ((at ≤ k) × (k + 8 ≤ at + n) × (source (from + (k - at)) ≡ Some p)) ⊎ ((pointers k ≡ Some p) × ((k + 8 ≤ at) ⊎ (at + n ≤ k)))
copied-cases n source from at pointers k p = by (nat_le at k) (nat_le (k + 8) (at + n)) refl refl
  where
    by : (b c : Bool) → nat_le at k ≡ b → nat_le (k + 8) (at + n) ≡ c
        → (if b && c then source (from + (k - at)) else untouched n at pointers k) ≡ Some p
        → ((at ≤ k) × (k + 8 ≤ at + n) × (source (from + (k - at)) ≡ Some p)) ⊎ ((pointers k ≡ Some p) × ((k + 8 ≤ at) ⊎ (at + n ≤ k)))
    by true true d e h = inl (grind (arith, nat_tests), grind (arith, nat_tests), h)
    by true false d e h = inr (stays n at pointers k p h)
    by false true d e h = inr (stays n at pointers k p h)
    by false false d e h = inr (stays n at pointers k p h)

module _ (w : Setting) (sound : IsWellFormed w.table) (sites : List Site) (outlines : List Outline) (lives : List Life) where
  -- where raw bytes stand no pointer is
  pub raw-apart : (t : TypeId) (cells : List Cell) (at high n : ℕ) → 0 < n → AreOrdered cells → HoldType w cells at high t
      → cells_of w.table t ≡ replicate n raw
      → (k : ℕ) (m : NodeId) (u : TypeId) → slice_get cells k ≡ Some (pointer m u 0) → (k + 8 ≤ at) ⊎ (at + n ≤ k)
  raw-apart t cells at high n some o h e k m u f = by (nat_le (k + 8) at) (nat_le (at + n) k) refl refl
    where
      raw-at : (n i : ℕ) → i < n → slice_get (replicate n raw) i ≡ Some raw
      raw-at zero i l = absurd (omega arith)
      raw-at (suc n) zero l = refl
      raw-at (suc n) (suc i) l = raw-at n i (omega arith)

      here : (j i : ℕ) → j ≤ 7 → k + j ≡ at + i → i < n → Prim.⊥
      here j i s p l =
          let x = h.agree i raw (ap (λ cs. slice_get cs i) e ∙ raw-at n i l) in
          let y = pointer_bytes cells k m u o f j s in
          let z : x.0 ≡ pointer m u j =
          (let a = x.1 in let b : slice_get cells (at + i) ≡ Some (pointer m u j) = ap (slice_get cells) (sym p) ∙ y in cc (a, b)) in
          subst (λ c. CellsAgree w.table w.kind c raw) z x.2

      by : (a b : Bool) → nat_le (k + 8) at ≡ a → nat_le (at + n) k ≡ b → (k + 8 ≤ at) ⊎ (at + n ≤ k)
      by true b x y = inl (grind (arith, nat_tests))
      by false true x y = inr (grind (arith, nat_tests))
      by false false x y =
          let p : at < k + 8 = grind (arith, nat_tests) in let q : k < at + n = grind (arith, nat_tests) in
          absurd
          (⊎_elim (λ l. here 0 (k - at) (omega arith) (omega (arith, l)) (omega (arith, l, q)))
          (λ l. here (at - k) 0 (omega (arith, p, l)) (omega (arith, l)) some) (total at k))
        where
          total : (a b : ℕ) → (a ≤ b) ⊎ (b < a)
          total a b = grind arith

  -- the pointer that a value of type t holds at j, at a place that holds t
  record Meets (k : Kind) (v : TypeId) (cells : List Cell) (at : ℕ) : Type 0 where
    node : NodeId
    to : TypeId
    found : slice_get cells at ≡ Some (pointer node to 0)
    kind : w.kind node ≡ k
    class : IsOfOneClass w.table w.kind to v

  meets : (m : NodeId) (v : TypeId) (c : Cell) (cells : List Cell) (at : ℕ) → slice_get cells at ≡ Some c
      → CellsAgree w.table w.kind c (pointer m v 0) → Meets (w.kind m) v cells at
  meets m v raw cells at e a = absurd a
  meets m v (pointer n x j) cells at e a = record { node = n; to = x; found = e ∙ ap (λ i. Some (pointer n x i)) a.0; kind = a.1; class = a.2 }
  meets m v (mixed x j) cells at e a = absurd a
  meets m v (incomplete x) cells at e a = absurd a

  -- two places that hold the same type hold pointers of equal kinds and classes at the same distances
  both-hold : (t : TypeId) (xs ys : List Cell) (from hs at ho : ℕ) → HoldType w xs from hs t → HoldType w ys at ho t → (j : ℕ)
      → j < length (cells_of w.table t)
      → (n : NodeId) (v : TypeId) → slice_get xs (from + j) ≡ Some (pointer n v 0) → Meets (w.kind n) v ys (at + j)
  both-hold t xs ys from hs at ho hx hy j l n v e =
      let d = Rattle.std.specs.Prelude.slice_index_or (cells_of w.table t) j raw in
      let f : slice_get (cells_of w.table t) j ≡ Some d = Rattle.std.proofs.lemmas.Option.slice_get-get_or (cells_of w.table t) j raw l in
      let x = hx.agree j d f in let y = hy.agree j d f in
      let z : x.0 ≡ pointer n v 0 = (let a = x.1 in cc (a, e)) in
      meets n v y.0 ys (at + j) y.1
      (agree-twice w sound y.0 d (pointer n v 0) y.2 (agree-turned w sound (pointer n v 0) d (subst (λ c. CellsAgree w.table w.kind c d) z x.2)))

  -- a copy between two objects without tags
  pub sound-copy : (t : TypeId) (n : ℕ) (source o : Object) (from hs at ho : ℕ) → length (cells_of w.table t) ≡ n
      → IsSoundObject w sites outlines lives source → IsSoundObject w sites outlines lives o
      → w.kind source.node ≢ Wild → w.kind o.node ≢ Wild → AreOrdered source.cells → AreOrdered o.cells → HoldType w source.cells from hs t
      → HoldType w o.cells at ho t → at + n ≤ o.size
      → ((j : ℕ) (p : Pointer) → j + 8 ≤ n → source.pointers (from + j) ≡ Some p → Reaches lives o.depth p)
      → IsSoundObject w sites outlines lives (with_copy n source from at o)
  sound-copy t n source o from hs at ho len s p us uo ds do' hs' ho' room keeps = record {
    sized = length-written (bytes_at n source.bytes from) o.bytes at ∙ p.sized;
    bytes = written-bytes (bytes_at n source.bytes from) o.bytes at (bytes_at-bytes n source.bytes from s.bytes) p.bytes;
    typed = λ a k q e. ⊎_elim (λ x. typed k q x.0 x.1 x.2) (λ x. p.typed uo k q x.0) (copied-cases n source.pointers from at o.pointers k q e);
    tagged = λ a k q e. absurd (uo a);
    under =
        λ k q e. ⊎_elim
        (λ x. number-copied n source.bytes o.bytes from at k x.0 x.1 (let f = p.sized in omega (arith, f, room)) ∙ s.under
        (from + (k - at)) q x.2)
        (λ x. far k x.1 ∙ p.under k q x.0) (copied-cases n source.pointers from at o.pointers k q e);
    zeros = λ a k m u e. zeros k m u e (nat_le at k) (nat_le (k + 8) at) (nat_le (at + n) k) refl refl refl;
    reaches =
        λ k q e. ⊎_elim (λ x. keeps (k - at) q (let a = x.0 in let b = x.1 in omega (arith, a, b)) x.2) (λ x. p.reaches k q x.0)
        (copied-cases n source.pointers from at o.pointers k q e);
    made = λ k q e. ⊎_elim (λ x. s.made (from + (k - at)) q x.2) (λ x. p.made k q x.0) (copied-cases n source.pointers from at o.pointers k q e);
  }
    where
      far : (k : ℕ) → (k + 8 ≤ at) ⊎ (at + n ≤ k) → number 8 (written (bytes_at n source.bytes from) o.bytes at) k ≡ number 8 o.bytes k
      far k h =
          number-written_apart 8 (bytes_at n source.bytes from) o.bytes at k
          (subst (λ m. (k + 8 ≤ at) ⊎ (at + m ≤ k)) (sym (length-bytes_at n source.bytes from)) h)

      typed : (k : ℕ) (q : Pointer) → at ≤ k → k + 8 ≤ at + n → source.pointers (from + (k - at)) ≡ Some q → IsStoredTyped w outlines (outline o) k q
      typed k q l m e =
          let x = s.typed us (from + (k - at)) q e in
          let y = both-hold t source.cells o.cells from hs at ho hs' ho' (k - at) (omega (arith, l, m, len)) x.node x.to x.begins in
          let z : at + (k - at) ≡ k = omega (arith, l) in
          record {
            node = y.node;
            to = y.to;
            begins = ap (slice_get o.cells) (sym z) ∙ y.found;
            value =
                subst (λ c. IsValueOf w outlines c y.to q) (sym y.kind)
                (value-class w sound outlines (w.kind x.node) x.to y.to q (class_turned w.table w.kind y.to x.to y.class) x.value);
          }

      -- a pointer cell of the target begins in the bytes, and then it ends in them and has its counterpart; or it lies apart
      starts : (k : ℕ) (m : NodeId) (u : TypeId) → slice_get o.cells k ≡ Some (pointer m u 0) → at ≤ k → k < at + n
          → (k + 8 ≤ at + n) × (number 8 source.bytes (from + (k - at)) ≡ 0)
      starts k m u e l h =
          let j = k - at in
          let z : at + (k - at) ≡ k = omega (arith, l) in
          let y = both-hold t o.cells source.cells at ho from hs ho' hs' (k - at) (omega (arith, l, h, len)) m u (ap (slice_get o.cells) z ∙ e) in
          let d = Rattle.std.specs.Prelude.slice_index_or (cells_of w.table t) (k - at) raw in
          let f : slice_get (cells_of w.table t) (k - at) ≡ Some d = Rattle.std.proofs.lemmas.Option.slice_get-get_or (cells_of w.table t)
          (k - at) raw (omega (arith, l, h, len)) in
          let x = ho'.agree (k - at) d f in
          let g : x.0 ≡ pointer m u 0 =
          (let a = x.1 in let b : slice_get o.cells (at + (k - at)) ≡ Some (pointer m u 0) = ap (slice_get o.cells) z ∙ e in cc (a, b)) in
          let c = meets m u d (cells_of w.table t) (k - at) f
          (agree-turned w sound (pointer m u 0) d (subst (λ b. CellsAgree w.table w.kind b d) g x.2)) in
          let whole = slice_get_within (cells_of w.table t) (k - at + 7) (pointer c.node c.to 7)
          (pointer_bytes (cells_of w.table t) (k - at) c.node c.to (cells_ordered w.table sound t) c.found 7 (omega arith)) in
          (omega (arith, whole, len, l), s.zeros us (from + (k - at)) y.node y.to y.found)

      -- none begins before the bytes and ends in them
      straddles : (k : ℕ) (m : NodeId) (u : TypeId) → slice_get o.cells k ≡ Some (pointer m u 0) → k < at → at < k + 8 → 0 < n → Prim.⊥
      straddles k m u e a b some =
          let d = Rattle.std.specs.Prelude.slice_index_or (cells_of w.table t) 0 raw in
          let f : slice_get (cells_of w.table t) 0 ≡ Some d = Rattle.std.proofs.lemmas.Option.slice_get-get_or (cells_of w.table t) 0 raw
          (omega (arith, some, len)) in
          let x = ho'.agree 0 d f in
          let w0 = pointer_bytes o.cells k m u do' e (at - k) (omega (arith, a, b)) in
          let z : k + (at - k) ≡ at + 0 = omega (arith, a) in
          let g : x.0 ≡ pointer m u (at - k) =
          (let q = x.1 in let r : slice_get o.cells (at + 0) ≡ Some (pointer m u (at - k)) = ap (slice_get o.cells) (sym z) ∙ w0 in cc (q, r)) in
          first d f (subst (λ b. CellsAgree w.table w.kind b d) g x.2)
        where
          first : (d : Cell) → slice_get (cells_of w.table t) 0 ≡ Some d → CellsAgree w.table w.kind (pointer m u (at - k)) d → Prim.⊥
          first raw f h = h
          first (pointer x y i) f h = let l = ((cells_ordered w.table sound t).least 0 i x y f).1 in let g = h.0 in omega (arith, l, g, a)
          first (mixed x y) f h = h
          first (incomplete x) f h = h

      zeros : (k : ℕ) (m : NodeId) (u : TypeId) → slice_get o.cells k ≡ Some (pointer m u 0) → (a b c : Bool) → nat_le at k ≡ a
          → nat_le (k + 8) at ≡ b → nat_le (at + n) k ≡ c
          → number 8 (written (bytes_at n source.bytes from) o.bytes at) k ≡ 0
      zeros k m u e a true c x y z = let l : k + 8 ≤ at = grind (arith, nat_tests) in far k (inl l) ∙ p.zeros uo k m u e
      zeros k m u e a false true x y z = let l : at + n ≤ k = grind (arith, nat_tests) in far k (inr l) ∙ p.zeros uo k m u e
      zeros k m u e true false false x y z =
          let l : at ≤ k = grind (arith, nat_tests) in let h : k < at + n = grind (arith, nat_tests) in
          let r = starts k m u e l h in
          number-copied n source.bytes o.bytes from at k l r.0 (let f = p.sized in omega (arith, f, room)) ∙ r.1
      zeros k m u e false false false x y z =
          let l : k < at = grind (arith, nat_tests) in let h : at < k + 8 = grind (arith, nat_tests) in let i : k < at + n = grind
          (arith, nat_tests) in
          ⊎_elim (λ g. absurd (straddles k m u e l h g)) (λ g. far-none k g ∙ p.zeros uo k m u e) (some n)
        where
          some : (n : ℕ) → (0 < n) ⊎ (n ≡ 0)
          some n = grind arith

          far-none : (k : ℕ) → n ≡ 0 → number 8 (written (bytes_at n source.bytes from) o.bytes at) k ≡ number 8 o.bytes k
          far-none k g =
              ap (λ i. number 8 (written (bytes_at i source.bytes from) o.bytes at) k) g ∙ ap (λ l. number 8 l k)
              (none-written source.bytes o.bytes from at)

  -- a copy between two objects with tags, whose pointers come to multiples of 8
  pub sound-tagged-copy : (n : ℕ) (source o : Object) (from at : ℕ) → IsSoundObject w sites outlines lives source
      → IsSoundObject w sites outlines lives o
      → w.kind source.node ≡ Wild → w.kind o.node ≡ Wild → at + n ≤ o.size
      → ((j : ℕ) (p : Pointer) → j + 8 ≤ n → source.pointers (from + j) ≡ Some p → (at + j) % 8 ≡ 0)
      → ((j : ℕ) (p : Pointer) → j + 8 ≤ n → source.pointers (from + j) ≡ Some p → Reaches lives o.depth p)
      → IsSoundObject w sites outlines lives (with_copy n source from at o)
  sound-tagged-copy n source o from at s p ts to room places keeps = record {
    sized = length-written (bytes_at n source.bytes from) o.bytes at ∙ p.sized;
    bytes = written-bytes (bytes_at n source.bytes from) o.bytes at (bytes_at-bytes n source.bytes from s.bytes) p.bytes;
    typed = λ a k q e. absurd (a to);
    tagged =
        λ a k q e. ⊎_elim
        (λ x. let y = s.tagged ts (from + (k - at)) q x.2 in
        record { aligned = place k q x.0 x.1 x.2; inside = (let b = x.1 in omega (arith, b, room)); value = y.value })
        (λ x. p.tagged to k q x.0) (copied-cases n source.pointers from at o.pointers k q e);
    under =
        λ k q e. ⊎_elim
        (λ x. number-copied n source.bytes o.bytes from at k x.0 x.1 (let f = p.sized in omega (arith, f, room)) ∙ s.under
        (from + (k - at)) q x.2)
        (λ x. far k x.1 ∙ p.under k q x.0) (copied-cases n source.pointers from at o.pointers k q e);
    zeros = λ a k m u e. absurd (a to);
    reaches =
        λ k q e. ⊎_elim (λ x. keeps (k - at) q (let a = x.0 in let b = x.1 in omega (arith, a, b)) x.2) (λ x. p.reaches k q x.0)
        (copied-cases n source.pointers from at o.pointers k q e);
    made = λ k q e. ⊎_elim (λ x. s.made (from + (k - at)) q x.2) (λ x. p.made k q x.0) (copied-cases n source.pointers from at o.pointers k q e);
  }
    where
      far : (k : ℕ) → (k + 8 ≤ at) ⊎ (at + n ≤ k) → number 8 (written (bytes_at n source.bytes from) o.bytes at) k ≡ number 8 o.bytes k
      far k h =
          number-written_apart 8 (bytes_at n source.bytes from) o.bytes at k
          (subst (λ m. (k + 8 ≤ at) ⊎ (at + m ≤ k)) (sym (length-bytes_at n source.bytes from)) h)

      place : (k : ℕ) (q : Pointer) → at ≤ k → k + 8 ≤ at + n → source.pointers (from + (k - at)) ≡ Some q → k % 8 ≡ 0
      place k q l h e = let z = places (k - at) q (omega (arith, l, h)) e in omega (arith, l, z)
