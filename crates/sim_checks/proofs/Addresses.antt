-- Where the words of a held pointer point to: a place in the area of a living object.
use Rattle.std.proofs.Common.{◌≡◌, ◌≢◌, ℕ, ◌+◌, ◌<◌, ◌≤◌, ◌^◌, true, not, nat_eq, slice_get, Option, Some, ap, subst, ◌∙◌, arith}
use Rattle.std.proofs.lemmas.Bool.Decides.{nat_tests}
use Rattle.cc_base.specs.declared.kind.Kind.TheVariants.{Wild}
use Rattle.cc_base.specs.declared.number.TypeId.{TypeId}
use Rattle.c_types.specs.Widths.{before}
use Rattle.flat_mem.specs.Memory.{depth_of}
use Rattle.src_mem.specs.State as source
use Rattle.src_mem.specs.State.{Setting}
use Rattle.src_mem.specs.Outlines.{Outline, outlines_of, lives_of, LivesAt}
use Rattle.src_mem.proofs.Outlines.{has-outline}
use Rattle.cured_code.specs.FlatState as flat
use Rattle.sim_relation.specs.Ground.{Ground, address, cells_in, place}
use Rattle.sim_relation.specs.Objects.{Lies, room_of, flat_depth}
use Rattle.sim_relation.specs.Related.{Related, ground_of}
use Rattle.sim_relation.proofs.Kept.{typed-contents}

-- a word that isn't 0
pub not-zero : (n : ℕ) → 0 < n → not (nat_eq n 0) ≡ true
not-zero n h = grind (arith, nat_tests)

-- the place of a byte of an object without tags
pub record IsThere (w : Setting) (number_of : TypeId → ℕ) (s : source.State) (c : flat.State) (n i : ℕ) (o : Outline) : Type 0 where
  pub is : place (ground_of w number_of s c) n i ≡ address (ground_of w number_of s c) n + before w.kind o.cells i
  pub above : 8 ≤ place (ground_of w number_of s c) n i
  pub below : place (ground_of w number_of s c) n i < 2 ^ 32 + 1
  pub depth : depth_of c.memory (place (ground_of w number_of s c) n i) ≡ flat_depth o.depth

module _ (w : Setting) (number_of : TypeId → ℕ) (s : source.State) (c : flat.State) (r : Related w number_of s c) where
  abbrev g : Ground
  g = ground_of w number_of s c

  lies-there : (depth n : ℕ) (o : Outline) → slice_get (outlines_of s.memory) n ≡ Some o → LivesAt (lives_of s.memory) depth n
      → Lies w.kind c.memory (address g n) o
  lies-there depth n o e l =
      let h = has-outline s.memory depth n o e l in
      subst (Lies w.kind c.memory (address g n)) h.is (r.areas.lie n h.object h.found h.live)

  place-is : (n i : ℕ) (o : Outline) → slice_get (outlines_of s.memory) n ≡ Some o → place g n i ≡ address g n + before w.kind o.cells i
  place-is n i o e = ap (λ (x : Option Outline). address g n + before w.kind (cells_in x) i) e

  pub there : (depth n i : ℕ) (o : Outline) → slice_get (outlines_of s.memory) n ≡ Some o → LivesAt (lives_of s.memory) depth n → w.kind o.node ≢ Wild
      → IsThere w number_of s c n i o
  there depth n i o e l plain =
      let lies = lies-there depth n o e l in
      let inside : before w.kind o.cells i ≤ room_of w.kind o = typed-contents w.kind (w.kind o.node) plain o i in
      let is = place-is n i o e in
      record {
        is = is;
        above = (let a = lies.above in omega (arith, is, a));
        below = (let a = lies.inside in let b = r.small in omega (arith, is, a, b, inside));
        depth = ap (depth_of c.memory) is ∙ lies.depth (before w.kind o.cells i) inside;
      }
