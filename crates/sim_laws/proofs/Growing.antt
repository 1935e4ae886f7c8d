-- Objects are added, of no running call or of a new one: what calls speak of stays.
use Rattle.std.proofs.Common.{◌≡◌, ℕ, ◌+◌, ◌<◌, ◌≤◌, ◌⊎◌, ⊎_elim, true, List, ◌++◌, length, slice_get, Some, refl, ap, sym, subst, ◌∙◌, arith}
use Rattle.std.proofs.lemmas.List.{length-append}
use Rattle.c_types.proofs.OrderedPointers.{Which, old, new, which}
use Rattle.c_types.specs.Cells.{Cell}
use Rattle.c_types.specs.Widths.{width_of}
use Rattle.src_mem.specs.Pointers.{Pointer, Address}
use Rattle.src_mem.specs.Memory.{Object}
use Rattle.src_mem.specs.State as source
use Rattle.src_mem.specs.Outlines.{Life, life, lives_of}
use Rattle.src_mem.proofs.Outlines.{mapped-from, get-mapped}
use Rattle.facts_kept.specs.Kept.{IsLater}
use Rattle.facts_kept.proofs.Later.{later-grown}
use Rattle.cil_form.specs.Typing.{HeldType, IntegerOf, PointerTo, PlaceOf}
use Rattle.cil_facts.proofs.Later.{later-as}
use Rattle.cured_code.specs.FlatState as flat
use Rattle.cured_code.specs.FlatState.{PlacedArea}
use Rattle.sim_relation.specs.Ground.{Ground, ground, address, cells, pointer_words}
use Rattle.sim_relation.specs.Points.{Content, Number, Start, End, IsThere, object_number, content_word}
use Rattle.sim_relation.proofs.Growth as growth
use Rattle.sim_relation.proofs.Growth.{address-grow, cells-grow, words-grow}
use Rattle.sim_relation.proofs.Room.{value_there}
use Rattle.sim_laws.specs.Scenes.{Programs, setting_of}
use Rattle.sim_laws.specs.Points.{Holds, Grows, ground_of}

module _ (p : Programs) (depth : ℕ) (s t : source.State) (c d : flat.State) (more : List Object) (plus : List PlacedArea)
    (objects_are : t.memory.objects ≡ s.memory.objects ++ more) (areas_are : d.areas ≡ c.areas ++ plus) (count : length c.areas ≡ length s.memory.objects)
    (apart : (j : ℕ) (o : Object) → slice_get more j ≡ Some o → (o.depth ≡ 0) ⊎ (depth < o.depth)) where
  ground-is : ground_of p t d ≡ ground (setting_of p) p.whole.node (s.memory.objects ++ more) (c.areas ++ plus)
  ground-is = ap (λ (os : List Object). ground (setting_of p) p.whole.node os d.areas) objects_are
      ∙ ap (ground (setting_of p) p.whole.node (s.memory.objects ++ more)) areas_are

  pub later : (e : ℕ) → IsLater e s.memory.objects t.memory.objects
  later e = subst (IsLater e s.memory.objects) (sym objects_are) (later-grown e s.memory.objects more)

  there-held : (e : ℕ) (x : HeldType) (q : Pointer) → Holds p s e x (Address q) → growth.IsThere (length s.memory.objects) q
  there-held e (IntegerOf i) q h = absurd h
  there-held e (PointerTo n u) q h = value_there (setting_of p) s.memory.objects (p.whole.kind n) u q h.held.value
  there-held e (PlaceOf n u) q h = value_there (setting_of p) s.memory.objects (p.whole.kind n) u q h.0.held.value

  pub address-same : (k : ℕ) → k < length s.memory.objects → address (ground_of p t d) k ≡ address (ground_of p s c) k
  address-same k h = ap (λ (g : Ground). address g k) ground-is ∙ address-grow (setting_of p) p.whole.node s.memory.objects more c.areas plus count k h

  content-same : (first : ℕ) (x : Content) → IsThere (length s.memory.objects) first x
      → content_word (ground (setting_of p) p.whole.node (s.memory.objects ++ more) (c.areas ++ plus)) first x ≡ content_word (ground_of p s c) first x
  content-same first (Number n) h = refl
  content-same first (Start o) h = address-grow (setting_of p) p.whole.node s.memory.objects more c.areas plus count (object_number first o) h
  content-same first (End o) h =
      ap (λ (a : ℕ). a + width_of p.whole.kind (cells (ground (setting_of p) p.whole.node (s.memory.objects ++ more) (c.areas ++ plus)) (object_number first o)))
      (address-grow (setting_of p) p.whole.node s.memory.objects more c.areas plus count (object_number first o) h)
      ∙ ap (λ (xs : List Cell). address (ground_of p s c) (object_number first o) + width_of p.whole.kind xs)
      (cells-grow (setting_of p) p.whole.node s.memory.objects more c.areas plus count (object_number first o) h)

  lived-before : (k : ℕ) (x : Life) → x.live ≡ true → 0 < x.depth → x.depth ≤ depth
      → (o : Object) × (slice_get t.memory.objects k ≡ Some o) × (life o ≡ x) → slice_get (lives_of s.memory) k ≡ Some x
  lived-before k x live some less (o, found, same) = by (which s.memory.objects more k o (ap (λ (os : List Object). slice_get os k) (sym objects_are) ∙ found))
    where
      deep : o.depth ≡ x.depth
      deep = ap (λ (y : Life). y.depth) same

      by : Which s.memory.objects more k o → slice_get (lives_of s.memory) k ≡ Some x
      by (old e l) = get-mapped life s.memory.objects k o e ∙ ap Some same
      by (new j l e) = absurd (⊎_elim (λ z. let n = deep in omega (arith, z, n, some)) (λ z. let n = deep in omega (arith, z, n, less)) (apart j o e))

  pub grows-more : Grows p depth s t c d
  grows-more = record {
    more = (let e = ap (λ (os : List Object). length os) objects_are in let l = length-append s.memory.objects more in omega (arith, e, l));
    lived = λ k x e live some less. lived-before k x live some less (mapped-from life t.memory.objects k x e);
    held = λ e l x v h. later-as (setting_of p) p.sites e s.memory t.memory (later e) x v h;
    words = λ e l x k q h. ap (λ (g : Ground). pointer_words g k q) ground-is
        ∙ words-grow (setting_of p) p.whole.node s.memory.objects more c.areas plus count k q (there-held e x q h);
    contents = λ first x h. ap (λ (g : Ground). content_word g first x) ground-is ∙ content-same first x h;
  }
