-- What is laid in a whole run stays where no more changes than what objects hold.
use Rattle.std.proofs.Common.{◌≡◌, ℕ, ◌+◌, ◌-◌, ◌<◌, true, List, length, slice_get, slice_index, Some, ap, sym, subst, ◌∙◌, arith}
use Rattle.std.proofs.lemmas.Option.{slice_get_within}
use Rattle.cc_base.specs.declared.number.TypeId.{TypeId}
use Rattle.flat_mem.specs.Bytes.{AreBytes}
use Rattle.flat_mem.specs.Memory as flat_memory
use Rattle.flat_mem.specs.Memory.{Frame, depth_in}
use Rattle.flat_mem.specs.Placement.{function_address}
use Rattle.flat_mem.proofs.ByteLaws.{number-same}
use Rattle.src_mem.specs.Memory.{Object}
use Rattle.src_mem.specs.State as source
use Rattle.src_mem.specs.State.{Setting, Defined, bytes_of}
use Rattle.src_mem.specs.Outlines.{Life, life, outlines_of, lives_of}
use Rattle.src_mem.proofs.Outlines.{mapped-from, get-mapped}
use Rattle.cured_code.specs.FlatState as flat
use Rattle.cured_code.specs.FlatState.{PlacedArea}
use Rattle.sim_relation.specs.Ground.{address, address_in, function_word}
use Rattle.sim_relation.specs.Related as relation
use Rattle.sim_checks.specs.Rows.{AreFunctionsLaid}
use Rattle.sim_memory.specs.Found.{StaysAlike}
use Rattle.sim_memory.proofs.Blocks.{heap-kept}
use Rattle.sim_laws.specs.Scenes.{Programs, setting_of}
use Rattle.sim_laws.specs.Points.{IsLaid}

functions-kept : (w : Setting) (number_of : TypeId → ℕ) (s t : source.State) (c d : flat.State) → StaysAlike w number_of s t c d → AreFunctionsLaid w number_of s c
    → AreFunctionsLaid w number_of t d
functions-kept w number_of s t c d k h = record {
  few = h.few;
  empty = λ f x e. number-same 8 d.memory.bytes c.memory.bytes (function_word f - 8) (function_word f - 8)
      (λ i l. k.before (function_word f - 8 + i) (λ j o found live. low f x e i l (h.beyond j o found live))) ∙ h.empty f x e;
  apart = λ f x e. ap (λ (fs : List Frame). depth_in fs (function_word f)) k.frames ∙ h.apart f x e;
  beyond = λ j o found live. subst (λ (a : ℕ). function_address (length w.functions) < a) (sym (ap (λ (zs : List PlacedArea). address_in (slice_get zs j)) k.areas))
      (was j o live (mapped-from life s.memory.objects j (life o) (ap (λ (xs : List Life). slice_get xs j) (sym k.lives) ∙ get-mapped life t.memory.objects j o found)));
}
  where
    low : (f : ℕ) (x : Defined) → slice_get w.functions f ≡ Some x → (i : ℕ) → i < 8 → {a : ℕ} → function_address (length w.functions) < a → function_word f - 8 + i < a
    low f x e i l {a} more = let m = slice_get_within w.functions f x e in omega (arith, m, l, more)

    was : (j : ℕ) (o : Object) → o.live ≡ true → (y : Object) × (slice_get s.memory.objects j ≡ Some y) × (life y ≡ life o)
        → function_address (length w.functions) < address (relation.ground_of w number_of s c) j
    was j o live (y, found, same) = h.beyond j y found (ap (λ (z : Life). z.live) same ∙ live)

pub laid-kept : (p : Programs) (s t : source.State) (c d : flat.State) → StaysAlike (setting_of p) p.whole.node s t c d → IsLaid p s c → IsLaid p t d
laid-kept p s t c d k h = record {
  bounds = k.bounds ∙ h.bounds;
  heap = heap-kept (setting_of p) p.whole.node s t c d h.heap k.outlines k.lives k.areas k.top;
  functions = functions-kept (setting_of p) p.whole.node s t c d k h.functions;
  input = subst AreBytes (sym (ap bytes_of k.input)) h.input;
}

pub stays-same : (p : Programs) (s t : source.State) (c d : flat.State) → t.memory ≡ s.memory → t.input ≡ s.input → d.areas ≡ c.areas → d.memory ≡ c.memory
    → StaysAlike (setting_of p) p.whole.node s t c d
stays-same p s t c d memory input areas flat = record {
  outlines = ap outlines_of memory;
  lives = ap lives_of memory;
  input = input;
  areas = areas;
  frames = ap (λ (m : flat_memory.Memory). m.frames) flat;
  bounds = ap (λ (m : flat_memory.Memory). m.bounds) flat;
  top = ap (λ (m : flat_memory.Memory). m.heap_top) flat;
  before = λ i h. ap (λ (m : flat_memory.Memory). slice_index m.bytes i) flat;
}

pub laid-same : (p : Programs) (s t : source.State) (c d : flat.State) → t.memory ≡ s.memory → t.input ≡ s.input → d.areas ≡ c.areas → d.memory ≡ c.memory
    → IsLaid p s c → IsLaid p t d
laid-same p s t c d memory input areas flat h = laid-kept p s t c d (stays-same p s t c d memory input areas flat) h
