-- A held place is found: its first word is the address of the byte.
use Rattle.std.proofs.Common.{◌≡◌, ◌≢◌, ◌∙◌, ℕ, ◌+◌, ◌-◌, ◌<◌, ◌≤◌, ℤ, pos, ◌+ℤ◌, ◌-ℤ◌, Bool, true, false, length, slice_get, Option, Some, refl, ap, sym, subst, arith, if◌then◌else◌}
use Rattle.std.proofs.lemmas.Int.{ints}
use Rattle.cc_base.specs.declared.kind.Kind.{Kind}
use Rattle.cc_base.specs.declared.kind.Kind.TheVariants.{Safe, Seq, Rtti, Wild}
use Rattle.cc_base.specs.declared.number.TypeId.{TypeId}
use Rattle.c_types.specs.Table.{IsComplete, entry_at, is_complete}
use Rattle.c_types.specs.Layouts.{size_of}
use Rattle.c_types.specs.Equality.{cells_of, physically_equal}
use Rattle.c_types.specs.Sound.{IsWellFormed}
use Rattle.c_types.specs.Widths.{before, stair, cured_size, cured_distance}
use Rattle.c_types.proofs.Cells.{length_cells}
use Rattle.type_laws.proofs.OneClass.{move-alike}
use Rattle.type_laws.proofs.Pointers.{class_turned}
use Rattle.integers.specs.Words.{word}
use Rattle.integers.proofs.WordLaws.{word-small}
use Rattle.src_mem.specs.Pointers.{Location, Pointer, At, distance}
use Rattle.src_mem.specs.State as source
use Rattle.src_mem.specs.State.{Setting}
use Rattle.src_mem.specs.Outlines.{Outline, outlines_of, lives_of, LivesAt}
use Rattle.src_mem.specs.Facts.{HoldType, IsTypedPlace, IsSequenceAt, IsPlaceAt, IsHeldIn, IsPlaceIn}
use Rattle.src_mem.proofs.Outlines.{has-outline}
use Rattle.src_mem.proofs.Right.{filled_part}
use Rattle.cil_facts.proofs.Homes.{complete-along}
use Rattle.cured_code.specs.FlatState as flat
use Rattle.sim_relation.specs.Ground.{Ground, address, cells_in, place, natural, first_word}
use Rattle.sim_relation.specs.Related.{Related, ground_of}
use Rattle.sim_relation.proofs.Bounds.{widths, distance-is, filled-run}
use Rattle.sim_checks.proofs.Addresses.{there}
use Rattle.sim_memory.specs.Found.{IsFound}

module _ (w : Setting) (number_of : TypeId → ℕ) (s : source.State) (c : flat.State) where
  abbrev g : Ground
  g = ground_of w number_of s c

  -- the living object at a typed place
  spot-of : (depth : ℕ) (t : TypeId) (l : Location) (x : IsTypedPlace w (outlines_of s.memory) t l) → LivesAt (lives_of s.memory) depth l.object → (a : ℕ)
      → a ≡ address g l.object + before w.kind x.object.cells x.at → IsFound w number_of s c t (At l) a
  spot-of depth t l x lives a e =
      let f = has-outline s.memory depth l.object x.object x.located.found lives in
      let cells : f.object.cells ≡ x.object.cells = ap (λ (y : Outline). y.cells) f.is in
      let size : f.object.size ≡ x.object.size = ap (λ (y : Outline). y.size) f.is in record {
        location = l;
        is = refl;
        object = f.object;
        at = x.at;
        found = f.found;
        live = f.live;
        untagged = subst (λ (y : Outline). w.kind y.node ≢ Wild) (sym f.is) x.typed.untagged;
        offset = x.stands.offset;
        low = x.stands.low;
        holds = subst (λ cs. HoldType w cs x.at l.part.high t) (sym cells) x.holds;
        inside = let h = x.located.inside in omega (arith, h, size);
        here = e ∙ ap (λ cs. address g l.object + before w.kind cs x.at) (sym cells);
      }

  place-is : (n i : ℕ) (o : Outline) → slice_get (outlines_of s.memory) n ≡ Some o → place g n i ≡ address g n + before w.kind o.cells i
  place-is n i o e = ap (λ (x : Option Outline). address g n + before w.kind (cells_in x) i) e

  -- the word of a pointer that doesn't move
  word-is : (t : TypeId) (l : Location) (x : IsTypedPlace w (outlines_of s.memory) t l)
      → place g l.object (natural l.offset) ≡ address g l.object + before w.kind x.object.cells x.at
  word-is t l x =
      place-is l.object (natural l.offset) x.object x.located.found
      ∙ ap (λ i. address g l.object + before w.kind x.object.cells (natural i)) x.stands.offset

  -- a place in an object without tags is found, whatever pointer leads there
  pub typed-found : Related w number_of s c → (depth : ℕ) (t : TypeId) (l : Location) (x : IsTypedPlace w (outlines_of s.memory) t l) → LivesAt (lives_of s.memory) depth l.object
      → IsFound w number_of s c t (At l) (place g l.object (natural l.offset))
  typed-found r depth t l x lives = spot-of depth t l x lives (place g l.object (natural l.offset)) (word-is t l x)

  -- the first word of a SEQ pointer that stands in its part
  module _ (sound : IsWellFormed w.table) (t : TypeId) (l : Location) (v : IsSequenceAt w (outlines_of s.memory) t l) where
    apart : (at : ℕ) → l.offset ≡ pos at → l.part.low ≤ at → distance l ≡ pos (at - l.part.low)
    apart at offset low = ap (λ z. z -ℤ pos l.part.low) offset ∙ of at l.part.low low
      where
        of : (at low : ℕ) → low ≤ at → pos at -ℤ pos low ≡ pos (at - low)
        of at low h = omega (arith, ints, h)

    -- how far it stands behind the start of its part, once cured
    far : (at : ℕ) → l.offset ≡ pos at → l.part.low ≤ at → at ≤ l.part.high
        → pos (before w.kind v.object.cells l.part.low) +ℤ cured_distance w.table w.kind l.made (distance l) ≡ pos (before w.kind v.object.cells at)
    far at offset low high = by (is_complete (entry_at w.table t)) refl
      where
        whole : IsComplete w.table t → length (cells_of w.table t) ≡ size_of w.table t
        whole complete = length_cells w.table sound (physically_equal w.table) t complete

        full : IsComplete w.table t
            → pos (before w.kind v.object.cells l.part.low) +ℤ cured_distance w.table w.kind l.made (distance l) ≡ pos (before w.kind v.object.cells at)
        full complete =
            let made = complete-along w sound t l.made (class_turned w.table w.kind l.made t v.made) complete in
            let some : 0 < length (cells_of w.table t) = (let e = whole complete in let a = (sound.sized t complete).some in omega (arith, e, a)) in
            let to : l.part.low + (at - l.part.low) ≡ at = omega (arith, low) in
            ap (λ z. pos (before w.kind v.object.cells l.part.low) +ℤ z)
            (move-alike w.table sound w.kind l.made t made complete v.made (distance l)
            ∙ distance-is w.table w.kind t complete (whole complete) (distance l) ∙ ap (widths w.kind (cells_of w.table t)) (apart at offset low))
            ∙ sym (filled-run w v.object.cells l.part.low l.part.high t some (filled_part (v.filled complete)) (at - l.part.low) (omega (arith, to, high)))
            ∙ ap (λ k. pos (before w.kind v.object.cells k)) to

        none : is_complete (entry_at w.table t) ≡ false
            → pos (before w.kind v.object.cells l.part.low) +ℤ cured_distance w.table w.kind l.made (distance l) ≡ pos (before w.kind v.object.cells at)
        none e =
            let d = (v.unmoved (λ h. cc (h, e))).1 in
            let same : l.part.low ≡ at = at-start at l.part.low low (sym (apart at offset low) ∙ d) in
            ap (λ z. pos (before w.kind v.object.cells l.part.low) +ℤ z) (nothing (is_complete (entry_at w.table l.made)) refl)
            ∙ still (before w.kind v.object.cells l.part.low) ∙ ap (λ k. pos (before w.kind v.object.cells k)) same
          where
            at-start : (at low : ℕ) → low ≤ at → pos (at - low) ≡ pos 0 → low ≡ at
            at-start at low h f = omega (arith, ints, h, f)

            still : (n : ℕ) → pos n +ℤ pos 0 ≡ pos n
            still n = omega (arith, ints)

            nothing : (b : Bool) → is_complete (entry_at w.table l.made) ≡ b → cured_distance w.table w.kind l.made (distance l) ≡ pos 0
            nothing true f = absurd (let h = complete-along w sound l.made t v.made f in cc (h, e))
            nothing false f =
                ap (λ (q : Bool). if q then stair (before w.kind (cells_of w.table l.made)) (size_of w.table l.made) (cured_size w.table w.kind l.made)
                (distance l) else pos 0) f

        by : (b : Bool) → is_complete (entry_at w.table t) ≡ b
            → pos (before w.kind v.object.cells l.part.low) +ℤ cured_distance w.table w.kind l.made (distance l) ≡ pos (before w.kind v.object.cells at)
        by true e = full e
        by false e = none e

    pub sequence-here : Related w number_of s c → (depth : ℕ) → LivesAt (lives_of s.memory) depth l.object → (at : ℕ) → l.offset ≡ pos at → l.part.low ≤ at
        → at ≤ l.part.high → first_word g Seq (At l) ≡ address g l.object + before w.kind v.object.cells at
    sequence-here r depth lives at offset low high =
        ap (λ k. word (pos k +ℤ cured_distance w.table w.kind l.made (distance l))) (place-is l.object l.part.low v.object v.located.found)
        ∙ ap word (sums (address g l.object) (before w.kind v.object.cells l.part.low) (before w.kind v.object.cells at)
        (cured_distance w.table w.kind l.made (distance l)) (far at offset low high))
        ∙ word-small (address g l.object + before w.kind v.object.cells at)
        (let h = there w number_of s c r depth l.object at v.object v.located.found lives v.typed.untagged in
        let a = h.is in let b = h.below in omega (arith, a, b))
      where
        sums : (a m n : ℕ) (z : ℤ) → pos m +ℤ z ≡ pos n → pos (a + m) +ℤ z ≡ pos (a + n)
        sums a m n z h = omega (arith, ints, h)

  pub places-found : (depth : ℕ) (kind : Kind) (t : TypeId) (p : Pointer) → IsWellFormed w.table → kind ≢ Wild → Related w number_of s c
      → IsHeldIn w s.memory depth kind t p → IsPlaceIn w s.memory depth kind t p → IsFound w number_of s c t p (first_word g kind p)
  places-found depth kind t p sound plain r held h =
      subst (λ q. IsFound w number_of s c t q (first_word g kind q)) (sym h.is)
      (at kind plain h.location (subst (IsHeldIn w s.memory depth kind t) h.is held) h.place h.reaches)
    where
      at : (k : Kind) → k ≢ Wild → (l : Location) → IsHeldIn w s.memory depth k t (At l) → IsPlaceAt w (outlines_of s.memory) k t l
          → LivesAt (lives_of s.memory) depth l.object → IsFound w number_of s c t (At l) (first_word g k (At l))
      at Safe n l held x lives = spot-of depth t l x lives (place g l.object (natural l.offset)) (word-is t l x)
      at Rtti n l held x lives = spot-of depth t l x lives (place g l.object (natural l.offset)) (word-is t l x)
      at Seq n l held x lives =
          let v : IsSequenceAt w (outlines_of s.memory) t l = held.value in
          let same : v.object ≡ x.object = (let a = v.located.found in let b = x.located.found in cc (a, b)) in
          spot-of depth t l x lives (first_word g Seq (At l))
          (sequence-here sound t l v r depth lives x.at x.stands.offset x.stands.low x.stands.high
          ∙ ap (λ (y : Outline). address g l.object + before w.kind y.cells x.at) same)
      at Wild n l held x lives = absurd (n refl)
