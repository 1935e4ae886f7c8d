-- Acts that change what objects hold, and nothing else: what calls speak of stays, and the states are those where the call has come to.
use Rattle.std.proofs.Common.{◌≡◌, ℕ, ◌≤◌, List, length, slice_get, Some, ap, sym, subst, ◌∙◌, arith}
use Rattle.std.proofs.lemmas.List.{length-map}
use Rattle.cc_base.specs.declared.number.NodeId.{NodeId}
use Rattle.cc_base.specs.declared.number.TypeId.{TypeId}
use Rattle.src_mem.specs.Pointers.{Pointer, Value, Integer, Address}
use Rattle.src_mem.specs.State as source
use Rattle.src_mem.specs.Outlines.{Outline, Life, outline, outlines_of, lives_of}
use Rattle.src_mem.specs.Facts.{IsHeld, IsPlace, IsSoundAt}
use Rattle.cil_form.specs.Typing.{HeldType, IntegerOf, PointerTo, PlaceOf}
use Rattle.cured_code.specs.FlatState as flat
use Rattle.cured_code.specs.FlatState.{PlacedArea}
use Rattle.sim_relation.specs.Ground.{Ground, pointer_words}
use Rattle.sim_relation.specs.Related.{Related}
use Rattle.sim_relation.specs.Points.{content_word}
use Rattle.sim_memory.specs.Found.{StaysAlike}
use Rattle.sim_laws.specs.Scenes.{Programs, Running, setting_of}
use Rattle.sim_laws.specs.Points.{Holds, Grows, There, ground_of}
use Rattle.sim_laws.proofs.Laid.{laid-kept}
use Rattle.sim_laws.proofs.Points.{there-on}

module _ (p : Programs) (s t : source.State) (c d : flat.State) (stays : StaysAlike (setting_of p) p.whole.node s t c d) where
  pub grounds-kept : ground_of p t d ≡ ground_of p s c
  grounds-kept = ap (λ (xs : List Outline). record { table = p.whole.table; kind = p.whole.kind; number_of = p.whole.node; outlines = xs; areas = d.areas }) stays.outlines
      ∙ ap (λ (zs : List PlacedArea). record { table = p.whole.table; kind = p.whole.kind; number_of = p.whole.node; outlines = outlines_of s.memory; areas = zs }) stays.areas

  pointer-kept : (e : ℕ) (n : NodeId) (u : TypeId) (q : Pointer) → Holds p s e (PointerTo n u) (Address q) → Holds p t e (PointerTo n u) (Address q)
  pointer-kept e n u q h = record {
    held = subst (λ (xs : List Outline). IsHeld (setting_of p) xs (lives_of t.memory) e (p.whole.kind n) u q) (sym stays.outlines)
        (subst (λ (ls : List Life). IsHeld (setting_of p) (outlines_of s.memory) ls e (p.whole.kind n) u q) (sym stays.lives) h.held);
    made = h.made;
  }

  held-kept : (e : ℕ) (x : HeldType) (v : Value) → Holds p s e x v → Holds p t e x v
  held-kept e (IntegerOf i) (Integer z) h = h
  held-kept e (IntegerOf i) (Address q) h = h
  held-kept e (PointerTo n u) (Integer z) h = h
  held-kept e (PointerTo n u) (Address q) h = pointer-kept e n u q h
  held-kept e (PlaceOf n u) (Integer z) h = h
  held-kept e (PlaceOf n u) (Address q) h = (
    pointer-kept e n u q h.0,
    subst (λ (xs : List Outline). IsPlace (setting_of p) xs (lives_of t.memory) e (p.whole.kind n) u q) (sym stays.outlines)
        (subst (λ (ls : List Life). IsPlace (setting_of p) (outlines_of s.memory) ls e (p.whole.kind n) u q) (sym stays.lives) h.1),
  )

  pub grows-kept : (depth : ℕ) → Grows p depth s t c d
  grows-kept depth = record {
    more = (let a = ap (λ (xs : List Outline). length xs) stays.outlines in let b = length-map s.memory.objects outline in
        let e = length-map t.memory.objects outline in omega (arith, a, b, e));
    lived = λ k x h live some less. subst (λ (ls : List Life). slice_get ls k ≡ Some x) stays.lives h;
    held = λ e l x v h. held-kept e x v h;
    words = λ e l x k q h. ap (λ (g : Ground). pointer_words g k q) grounds-kept;
    contents = λ first x h. ap (λ (g : Ground). content_word g first x) grounds-kept;
  }

  pub there-kept : (b : Running) → b.outer ≤ b.depth → There p b s c → Related (setting_of p) p.whole.node t d
      → IsSoundAt (setting_of p) p.sites t.memory b.depth → There p b t d
  there-kept b out there related facts = there-on p b s t c d out there related facts (laid-kept p s t c d stays there.laid) stays.frames (grows-kept b.depth)
