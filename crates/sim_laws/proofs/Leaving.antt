-- A call ends: its frame and its variables go, and all stays that the call around speaks of. And the value for the end of a body.
use Rattle.std.proofs.Common.{◌≡◌, ℕ, suc, ◌≤◌, true, List, ◌∷◌, length, map, slice_get, Some, ap, ◌∙◌, arith}
use Rattle.std.proofs.lemmas.List.{length-map}
use Rattle.std.proofs.lemmas.Option.{slice_get_within}
use Rattle.flat_mem.specs.declared.memory.Bounds.{Bounds}
use Rattle.flat_mem.specs.Memory.{Frame, older_frames}
use Rattle.flat_mem.proofs.FrameLaws.{depth_in-below}
use Rattle.src_mem.specs.Memory.{Object, Planned, frame_charge}
use Rattle.src_mem.specs.State as source
use Rattle.src_mem.specs.State.{Setting, Defined}
use Rattle.src_mem.specs.Primitives.{ended}
use Rattle.src_mem.specs.Outlines.{Outline, Life, life, lives_of}
use Rattle.src_mem.specs.Facts.{IsSoundAt}
use Rattle.src_mem.proofs.Outlines.{mapped-from, get-mapped}
use Rattle.facts_kept.specs.Kept.{IsLater}
use Rattle.facts_kept.proofs.Frames.{gives-left}
use Rattle.facts_kept.proofs.Growth.{outlines-ended}
use Rattle.facts_kept.proofs.Later.{later-ended}
use Rattle.cil_facts.proofs.Later.{later-as}
use Rattle.cured_code.specs.FlatState as flat
use Rattle.cured_code.specs.FlatMachine.{without_frame}
use Rattle.sim_relation.specs.Ground.{Ground, function_word, pointer_words}
use Rattle.sim_relation.specs.Related.{Related}
use Rattle.sim_relation.specs.Points.{content_word}
use Rattle.sim_relation.proofs.Leaving.{Lived, lived, related-leave}
use Rattle.sim_laws.specs.Scenes.{Programs, setting_of}
use Rattle.sim_laws.specs.Points.{IsLaid, Grows, ground_of}
use Rattle.sim_laws.specs.Calls.{source_left}
use Rattle.sim_laws.proofs.Beginning.{IsPlanned}

module _ (p : Programs) (variables : List Planned) (is : IsPlanned p variables) (depth : ℕ) (s : source.State) (c : flat.State) (frame : Frame) (frames : List Frame)
    (r : Related (setting_of p) p.whole.node s c) (facts : IsSoundAt (setting_of p) p.sites s.memory (suc depth)) (laid : IsLaid p s c)
    (newest : c.memory.frames ≡ frame ∷ frames) (deep : length frames ≡ suc depth) (charge : frame.charge ≡ frame_charge p.whole.table variables) where
  abbrev w : Setting
  w = setting_of p

  abbrev t : source.State
  t = source_left p (suc depth) variables s

  pub left-related : Related (setting_of p) p.whole.node (source_left p (suc depth) variables s) (without_frame c)
  left-related = related-leave w p.whole.node s c depth variables frame frames r newest deep charge

  pub left-facts : IsSoundAt (setting_of p) p.sites (source_left p (suc depth) variables s).memory depth
  left-facts = (gives-left w is.formed p.sites depth variables s facts).sound

  -- which objects live on
  lived-on : (k : ℕ) (o : Object) → slice_get (map (ended (suc depth)) s.memory.objects) k ≡ Some o → o.live ≡ true → Lived (suc depth) s.memory.objects k o
  lived-on k o e l = lived (suc depth) s.memory.objects k o e l

  function-below : (f : ℕ) (x : Defined) → slice_get w.functions f ≡ Some x → function_word f ≤ c.memory.bounds.stack_start
  function-below f x e =
      let a = ap (λ (x : Bounds). x.stack_start) laid.bounds in let n = is.count in
      let l = slice_get_within w.functions f x e in omega (arith, a, n, l)

  pub left-laid : IsLaid p (source_left p (suc depth) variables s) (without_frame c)
  left-laid = record {
    bounds = laid.bounds;
    heap = record { each = λ k o e l f. let x = lived-on k o e l in laid.heap.each k o x.found x.live f };
    functions = record {
      few = laid.functions.few;
      empty = laid.functions.empty;
      apart = λ f x e. depth_in-below c.memory.bounds.stack_start (older_frames c.memory.frames) (function_word f) left-related.sound.consecutive (function-below f x e);
      beyond = λ k o e l. let x = lived-on k o e l in laid.functions.beyond k o x.found x.live;
    };
    input = laid.input;
  }

  later : (e : ℕ) → e ≤ depth → IsLater e s.memory.objects (map (ended (suc depth)) s.memory.objects)
  later e l = let h = later-ended depth s.memory.objects in
      record { more = h.more; outlines = h.outlines; lives = λ k x f m. h.lives k x f (omega (arith, l, m)) }

  grounds : ground_of p t (without_frame c) ≡ ground_of p s c
  grounds = ap (λ (xs : List Outline). record { table = p.whole.table; kind = p.whole.kind; number_of = p.whole.node; outlines = xs; areas = c.areas })
      (outlines-ended (suc depth) s.memory.objects)

  pub left-grows : Grows p depth s (source_left p (suc depth) variables s) c (without_frame c)
  left-grows = record {
    more = (let e = length-map s.memory.objects (ended (suc depth)) in omega (arith, e));
    lived = λ k x e live some less. was k x live (mapped-from life (map (ended (suc depth)) s.memory.objects) k x e);
    held = λ e l x v h. later-as w p.sites e s.memory t.memory (later e l) x v h;
    words = λ e l x k q h. ap (λ (g : Ground). pointer_words g k q) grounds;
    contents = λ first x h. ap (λ (g : Ground). content_word g first x) grounds;
  }
    where
      was : (k : ℕ) (x : Life) → x.live ≡ true → (o : Object) × (slice_get (map (ended (suc depth)) s.memory.objects) k ≡ Some o) × (life o ≡ x)
          → slice_get (lives_of s.memory) k ≡ Some x
      was k x live (o, e, same) =
          let y = lived-on k o e (ap (λ (z : Life). z.live) same ∙ live) in get-mapped life s.memory.objects k o y.found ∙ ap Some same
