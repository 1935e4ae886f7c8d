-- What stays where one object has changed, with bytes of its own area alone.
use Rattle.std.proofs.Common.{◌≡◌, ℕ, ◌<◌, Bool, true, List, map, slice_get, slice_set, slice_index, Some, ap, ◌∙◌}
use Rattle.cc_base.specs.declared.number.TypeId.{TypeId}
use Rattle.flat_mem.specs.Memory.{Memory, with_bytes}
use Rattle.src_mem.specs.Memory.{Object}
use Rattle.src_mem.specs.State as source
use Rattle.src_mem.specs.State.{Setting}
use Rattle.src_mem.specs.Outlines.{Outline, outline, life}
use Rattle.facts_kept.proofs.Lists.{outlines-set, lives-set}
use Rattle.cured_code.specs.FlatState as flat
use Rattle.sim_relation.specs.Ground.{address}
use Rattle.sim_relation.specs.Related.{ground_of}
use Rattle.sim_memory.specs.Found.{StaysAlike}

pub stays-change : (w : Setting) (number_of : TypeId → ℕ) (s t : source.State) (c d : flat.State) (k : ℕ) (old new : Object)
    → slice_get s.memory.objects k ≡ Some old → old.live ≡ true → outline new ≡ outline old → new.live ≡ old.live
    → t.memory.objects ≡ slice_set s.memory.objects k new → t.input ≡ s.input → d.areas ≡ c.areas → d.memory ≡ with_bytes c.memory d.memory.bytes
    → ((j : ℕ) → j < address (ground_of w number_of s c) k → slice_index d.memory.bytes j ≡ slice_index c.memory.bytes j)
    → StaysAlike w number_of s t c d
stays-change w number_of s t c d k old new found live same alive objects input areas memory before = record {
  outlines = ap (λ (xs : List Object). map outline xs) objects ∙ outlines-set s.memory.objects k old new found same;
  lives = ap (λ (xs : List Object). map life xs) objects ∙ lives-set s.memory.objects k old new found
      (ap (λ (x : Outline). record { depth = x.depth; live = new.live }) same ∙ ap (λ (b : Bool). record { depth = old.depth; live = b }) alive);
  input = input;
  areas = areas;
  frames = ap (λ (m : Memory). m.frames) memory;
  bounds = ap (λ (m : Memory). m.bounds) memory;
  top = ap (λ (m : Memory). m.heap_top) memory;
  before = λ i h. before i (h k old found live);
}
