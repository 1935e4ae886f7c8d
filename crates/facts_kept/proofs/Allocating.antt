-- An allocation isn't wrong, leaves the memory sound, and gives a pointer that may be held once the first element is there.
use Rattle.std.proofs.Common.{◌≡◌, ◌≢◌, ℕ, zero, suc, ◌+◌, ◌≤◌, pos, Bool, true, false, List, [], ◌∷◌, ◌++◌, map, length, nat_le, slice_get, Some, refl, ap, sym, subst, ◌∙◌, ⊎_elim, arith}
use Rattle.cc_base.specs.declared.number.TypeId.{TypeId}
use Rattle.cc_base.specs.declared.number.NodeId.{NodeId}
use Rattle.cc_base.specs.declared.kind.Kind.{Kind}
use Rattle.cc_base.specs.declared.kind.Kind.TheVariants.{Safe, Seq, Rtti, Wild}
use Rattle.kind_sites.specs.declared.site.Site.{Site}
use Rattle.c_types.specs.declared.shape.TypeShape.TheVariants.{Void}
use Rattle.c_types.specs.Table.{IsComplete, shape_at, members_at, is_function, is_function_shape}
use Rattle.c_types.specs.Layouts.{size_of}
use Rattle.c_types.specs.Cells.{AreOrdered, cells_of_shape}
use Rattle.c_types.specs.Equality.{cells_of, physically_equal, repeated_cell}
use Rattle.c_types.specs.Sound.{IsWellFormed}
use Rattle.c_types.proofs.Cells.{cells_are}
use Rattle.c_types.proofs.OrderedPointers.{get_back, Which, old, new, which}
use Rattle.runs.specs.Outcome.{done, leaves, either, ◌>>◌}
use Rattle.src_mem.specs.Pointers.{Pointer, Null}
use Rattle.src_mem.specs.Memory.{Object, Memory, block_size, block_cells, new_block, charge_of}
use Rattle.src_mem.specs.State.{State, Setting}
use Rattle.src_mem.specs.Checks.{conditions_of_allocation, null_or_in_bounds}
use Rattle.src_mem.specs.Primitives.{heap_limit, block_pointer, with_block, allocate}
use Rattle.src_mem.specs.Outlines.{Outline, Life, outline, life, outlines_of, lives_of, AreOutlines, AreNoDeeper}
use Rattle.src_mem.specs.Facts.{IsBlockFor, IsValueOf, IsHeldIn, IsSoundObject, AreSound, IsSoundAt}
use Rattle.src_mem.specs.Laws.{Gives}
use Rattle.src_mem.proofs.Outlines.{get-mapped}
use Rattle.facts_kept.specs.Kept.{AllHold, GivesBlock, MakesBlocks}
use Rattle.facts_kept.proofs.Agree.{agree-own}
use Rattle.facts_kept.proofs.Lists.{map-both}
use Rattle.facts_kept.proofs.Complete.{complete-some, complete-data}
use Rattle.facts_kept.proofs.Holds.{in-bounds}
use Rattle.facts_kept.proofs.Growth.{memory-grown, zero-sound, outlines-grown}
use Rattle.facts_kept.proofs.Blocks.{IsFilled, block-safe, block-typed, block-seq, block-wild, block-length}
use Rattle.facts_kept.proofs.NonePointers.{block-filled}

append-none : {A : Type 0} (xs : List A) → xs ≡ xs ++ []
append-none [] = refl
append-none (x ∷ xs) = ap (λ l. x ∷ l) (append-none xs)

at-end : {A : Type 0} (xs : List A) (x : A) → slice_get (xs ++ x ∷ []) (length xs) ≡ Some x
at-end xs x = let e : length xs ≡ length xs + 0 = omega arith in ap (slice_get (xs ++ x ∷ [])) e ∙ get_back xs (x ∷ []) 0

module _ (w : Setting) (sound : IsWellFormed w.table) (sites : List Site) where
  void-empty : (t : TypeId) → shape_at w.table t ≡ Void → cells_of w.table t ≡ []
  void-empty t e =
      cells_are w.table sound.order.0 sound.order.1 (physically_equal w.table) t ∙ ap
      (λ s. cells_of_shape w.table (physically_equal w.table) (cells_of w.table) t s (members_at w.table t)) e

  block-data : (node : NodeId) (t : TypeId) → MakesBlocks w node t → is_function w.table t ≡ false
  block-data node t h = ⊎_elim (λ e. ap is_function_shape e) (λ c. complete-data w.table sound t c.0) h

  block-long : (node : NodeId) (t : TypeId) (n : ℕ) → MakesBlocks w node t → size_of w.table t ≤ n → length (cells_of w.table t) ≤ n
  block-long node t n h l = ⊎_elim
      (λ e. let z : length (cells_of w.table t) ≡ 0 = ap length (void-empty t e) in omega (arith, z))
      (λ c. let z = (complete-some w.table sound t c.0).1 in omega (arith, z, l)) h

  -- an empty block too was made for a pointer type
  block-made : (node : NodeId) (t : TypeId) → MakesBlocks w node t → IsComplete w.table t → IsBlockFor w node t
  block-made node t h complete = ⊎_elim
      (λ e. absurd (let z : length (cells_of w.table t) ≡ 0 = ap length (void-empty t e) in let s = (complete-some w.table sound t complete).0 in omega (arith, z, s)))
      (λ c. record { pointer = c.1.0; to = t; is = c.1.1; agree = λ i. agree-own w sound (repeated_cell (cells_of w.table t) i) }) h

  module _ (node : NodeId) (t : TypeId) (n : ℕ) (makes : MakesBlocks w node t) (s : State) (depth : ℕ) (facts : IsSoundAt w sites s.memory depth) where
    abbrev size : ℕ
    size = block_size w.table (w.kind node) t n

    abbrev block : Object
    block = new_block w.table node t size

    abbrev objects : List Object
    objects = s.memory.objects ++ block ∷ []

    abbrev after : Memory
    after = record s.memory { objects = objects; heap_bytes = s.memory.heap_bytes + charge_of size }

    abbrev here : Pointer
    here = block_pointer (length s.memory.objects) t size

    there : slice_get (map outline objects) (length s.memory.objects) ≡ Some (outline block)
    there = get-mapped outline objects (length s.memory.objects) block (at-end s.memory.objects block)

    all_sound : AreSound w sites objects
    all_sound = memory-grown w sites s.memory.objects (block ∷ []) facts.objects one
      where
        one : (j : ℕ) (x : Object) → slice_get (block ∷ []) j ≡ Some x → IsSoundObject w sites (map outline objects) (map life objects) x
        one zero x e = let f : block ≡ x = cc (e) in subst (IsSoundObject w sites (map outline objects) (map life objects)) f
            (zero-sound w sites (map outline objects) (map life objects) 0 node size (block_cells (cells_of w.table t) size))
        one (suc j) x e = absurd (cc (e))

    all_outlined : AreOutlines w (map outline objects)
    all_outlined = subst (AreOutlines w) (sym (map-both outline s.memory.objects (block ∷ [])))
        (outlines-grown w (outlines_of s.memory) (outline block ∷ []) facts.outlines (record { ordered = ordered; celled = celled }))
      where
        ordered : (k : ℕ) (x : Outline) → slice_get (outline block ∷ []) k ≡ Some x → w.kind x.node ≢ Wild → AreOrdered x.cells
        ordered zero x e u = let f : outline block ≡ x = cc (e) in
            subst (λ (y : Outline). AreOrdered y.cells) f
            (block-filled w sound node t n (subst (λ (y : Outline). w.kind y.node ≢ Wild) (sym f) u)).ordered
        ordered (suc k) x e u = absurd (cc (e))

        celled : (k : ℕ) (x : Outline) → slice_get (outline block ∷ []) k ≡ Some x → length x.cells ≡ x.size
        celled zero x e =
            let f : outline block ≡ x = cc (e) in subst (λ (y : Outline). length y.cells ≡ y.size) f (block-length (cells_of w.table t) size)
        celled (suc k) x e = absurd (cc (e))

    none_deeper : AreNoDeeper (map life objects) depth
    none_deeper = subst (λ ls. AreNoDeeper ls depth) (sym (map-both life s.memory.objects (block ∷ [])))
        (record { each = λ k x e l. by k x l (which (lives_of s.memory) (life block ∷ []) k x e) })
      where
        one : (j : ℕ) (x : Life) → slice_get (life block ∷ []) j ≡ Some x → x.depth ≤ depth
        one zero x e = let f : life block ≡ x = cc (e) in subst (λ (y : Life). y.depth ≤ depth) f (omega arith)
        one (suc j) x e = absurd (cc (e))

        by : (k : ℕ) (x : Life) → x.live ≡ true → Which (lives_of s.memory) (life block ∷ []) k x → x.depth ≤ depth
        by k x l (old e h) = facts.lives.each k x e l
        by k x l (new j f e) = one j x e

    held : AllHold w after (conditions_of_allocation (w.kind node) (size_of w.table t) here) → IsHeldIn w after depth (w.kind node) t here
    held c = record {
      value = by (w.kind node) refl c;
      reaches = record {
        life = record { depth = 0; live = true };
        found = get-mapped life objects (length s.memory.objects) block (at-end s.memory.objects block);
        live = refl;
        older = omega arith;
      };
    }
      where
        filled : (k : Kind) → w.kind node ≡ k → k ≢ Wild → IsFilled w sound t (outline block)
        filled k e v = block-filled w sound node t n (λ f. v (sym e ∙ f))

        long : AllHold w after (null_or_in_bounds (size_of w.table t) here) → length (cells_of w.table t) ≤ size
        long c = let b = in-bounds 0 size (pos 0) (size_of w.table t) c.0 in block-long node t size makes (let x = b.3 in omega (arith, x))

        by : (k : Kind) → w.kind node ≡ k → AllHold w after (conditions_of_allocation k (size_of w.table t) here)
            → IsValueOf w (map outline objects) k t here
        by Safe e c =
            block-safe w sound (map outline objects) (length s.memory.objects) (outline block) there t (filled Safe e (λ a. cc (a)))
            (block-data node t makes) (long c)
        by Rtti e c =
            block-typed w sound (map outline objects) (length s.memory.objects) (outline block) there t (filled Rtti e (λ a. cc (a)))
            (block-data node t makes) (long c)
        by Seq e c = block-seq w sound (map outline objects) (length s.memory.objects) (outline block) there t (filled Seq e (λ a. cc (a)))
            (λ g. ⊎_elim (λ v. void-empty t v) (λ d. absurd (g d.0)) makes) (block-made node t makes)
        by Wild e c = block-wild w sound (map outline objects) (length s.memory.objects) (outline block) there t e

    pub gives-block : Gives (allocate w node t n s) (GivesBlock w sites depth node t s)
    gives-block = by (nat_le (s.memory.heap_bytes + charge_of size) heap_limit)
      where
        by : (b : Bool) → Gives (either b (leaves (with_block block) >> done here) (done Null) s) (GivesBlock w sites depth node t s)
        by true = record {
          more = block ∷ [];
          grown = refl;
          sound = record { objects = all_sound; outlines = all_outlined; lives = none_deeper };
          held = held;
          made = λ told. (node, told);
        }
        by false = record {
          more = [];
          grown = append-none s.memory.objects;
          sound = facts;
          held = λ c. record { value = tt; reaches = tt };
          made = λ told. tt;
        }
