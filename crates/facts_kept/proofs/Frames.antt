-- A call begins and ends: its frame, the arguments that are stored in it, and what is left of it.
use Rattle.std.proofs.Common.{◌≡◌, ◌≢◌, ℕ, suc, ◌≤◌, ◌⊎◌, Bool, true, false, List, ◌++◌, map, length, slice_get, Some, refl, ap, sym, subst, ◌∙◌, ⊎_elim, arith, if◌then◌else◌}
use Rattle.std.specs.Prelude.{◌==◌}
use Rattle.std.proofs.lemmas.Bool.Decides.{nat_tests}
use Rattle.kind_sites.specs.declared.site.Site.{Site}
use Rattle.c_types.specs.Table.{Table, IsComplete}
use Rattle.c_types.specs.Layouts.{size_of}
use Rattle.c_types.specs.Cells.{AreOrdered}
use Rattle.c_types.specs.Equality.{cells_of}
use Rattle.c_types.specs.Sound.{IsWellFormed}
use Rattle.c_types.proofs.OrderedPointers.{cells_ordered, Which, old, new, which}
use Rattle.src_mem.specs.Memory.{Object, Planned, new_variable}
use Rattle.src_mem.specs.State.{State, Setting}
use Rattle.src_mem.specs.Primitives.{enter, ended, leave}
use Rattle.src_mem.specs.Outlines.{Outline, Life, outline, life, AreOutlines, AreNoDeeper}
use Rattle.src_mem.specs.Facts.{IsSoundObject, AreSound, IsSoundAt}
use Rattle.src_mem.specs.Laws.{Gives}
use Rattle.src_mem.proofs.Outlines.{mapped-from, get-mapped}
use Rattle.facts_kept.specs.Kept.{IsVariable, HasEntered, HasLeft}
use Rattle.facts_kept.proofs.Lists.{map-both}
use Rattle.facts_kept.proofs.Complete.{complete-some}
use Rattle.facts_kept.proofs.Growth.{memory-grown, zero-sound, outlines-grown, memory-ended, outlines-ended, returned-held}
use Rattle.facts_kept.proofs.Later.{later-grown, later-ended}

-- Depths

none-deeper-entered : (table : Table) (depth : ℕ) (variables : List Planned) (objects : List Object) → AreNoDeeper (map life objects) depth
    → AreNoDeeper (map life (objects ++ map (new_variable table (suc depth)) variables)) (suc depth)
none-deeper-entered table depth variables objects a =
    record { each = λ n x e l. by n x l (mapped-from life (objects ++ map (new_variable table (suc depth)) variables) n x e) }
  where
    of : (n : ℕ) (o : Object) → o.live ≡ true → Which objects (map (new_variable table (suc depth)) variables) n o → o.depth ≤ suc depth
    of n o l (old e h) = let d = a.each n (life o) (get-mapped life objects n o e) l in omega (arith, d)
    of n o l (new j f e) =
        let v = mapped-from (new_variable table (suc depth)) variables j o e in
        let d : suc depth ≡ o.depth = ap (λ (z : Object). z.depth) v.2 in omega (arith, d)

    by : (n : ℕ) (x : Life) → x.live ≡ true
        → (o : Object) × (slice_get (objects ++ map (new_variable table (suc depth)) variables) n ≡ Some o) × (life o ≡ x) → x.depth ≤ suc depth
    by n x l o =
        let d = of n o.0 (ap (λ (z : Life). z.live) o.2 ∙ l) (which objects (map (new_variable table (suc depth)) variables) n o.0 o.1) in
        let e : o.0.depth ≡ x.depth = ap (λ (z : Life). z.depth) o.2 in omega (arith, d, e)

none-deeper-left : (depth : ℕ) (objects : List Object) → AreNoDeeper (map life objects) (suc depth)
    → AreNoDeeper (map life (map (ended (suc depth)) objects)) depth
none-deeper-left depth objects a = record { each = λ n x e l. by n x l (mapped-from life (map (ended (suc depth)) objects) n x e) }
  where
    differ : {n : ℕ} → (n == suc depth) ≡ false → n ≢ suc depth
    differ {n} f e = grind (arith, nat_tests)

    less : (a d : ℕ) → a ≤ suc d → a ≢ suc d → a ≤ d
    less a d h n = ⊎_elim (λ l. l) (λ e. absurd (n e)) (case a d h)
      where
        case : (a d : ℕ) → a ≤ suc d → (a ≤ d) ⊎ (a ≡ suc d)
        case a d h = grind arith

    of : (n : ℕ) (o p : Object) → slice_get objects n ≡ Some p → ended (suc depth) p ≡ o → o.live ≡ true → (b : Bool) → (p.depth == suc depth) ≡ b
        → o.depth ≤ depth
    of n o p f e l true g = absurd (
        let h : (ended (suc depth) p).live ≡ false = ap (λ b. (if b then record p { live = false } else p).live) g in
        let k : (ended (suc depth) p).live ≡ true = ap (λ (z : Object). z.live) e ∙ l in cc (h, k))
    of n o p f e l false g =
        let same : p ≡ o = sym (ap (λ b. if b then record p { live = false } else p) g) ∙ e in
        let d = a.each n (life p) (get-mapped life objects n p f) (ap (λ (z : Object). z.live) same ∙ l) in
        let y : p.depth ≡ o.depth = ap (λ (z : Object). z.depth) same in
        let m = less p.depth depth d (differ g) in omega (arith, m, y)

    by : (n : ℕ) (x : Life) → x.live ≡ true → (o : Object) × (slice_get (map (ended (suc depth)) objects) n ≡ Some o) × (life o ≡ x) → x.depth ≤ depth
    by n x l o =
        let p = mapped-from (ended (suc depth)) objects n o.0 o.1 in
        let d = of n o.0 p.0 p.1 p.2 (ap (λ (z : Life). z.live) o.2 ∙ l) (p.0.depth == suc depth) refl in
        let e : o.0.depth ≡ x.depth = ap (λ (z : Life). z.depth) o.2 in omega (arith, d, e)

module _ (w : Setting) (sound : IsWellFormed w.table) (sites : List Site) where
  -- Frames

  entered-sound : (depth : ℕ) (variables : List Planned) (objects : List Object) → AreSound w sites objects
      → AreSound w sites (objects ++ map (new_variable w.table depth) variables)
  entered-sound depth variables objects s = memory-grown w sites objects (map (new_variable w.table depth) variables) s (λ j o e.
      let v = mapped-from (new_variable w.table depth) variables j o e in
      let all = objects ++ map (new_variable w.table depth) variables in
      subst (IsSoundObject w sites (map outline all) (map life all)) v.2
      (zero-sound w sites (map outline all) (map life all) depth v.0.node (size_of w.table v.0.type) (cells_of w.table v.0.type)))

  entered-outlines : (depth : ℕ) (variables : List Planned) (objects : List Object)
      → ((j : ℕ) (v : Planned) → slice_get variables j ≡ Some v → IsComplete w.table v.type)
      → AreOutlines w (map outline objects) → AreOutlines w (map outline (objects ++ map (new_variable w.table depth) variables))
  entered-outlines depth variables objects complete a =
      subst (AreOutlines w) (sym (map-both outline objects (map (new_variable w.table depth) variables)))
      (outlines-grown w (map outline objects) (map outline (map (new_variable w.table depth) variables)) a (record {
        ordered = λ k x e u. let y = made k x e in subst (λ (z : Outline). AreOrdered z.cells) y.2 (cells_ordered w.table sound y.0.type);
        celled =
            λ k x e. let y =
            made k x e in subst (λ (z : Outline). length z.cells ≡ z.size) y.2 (complete-some w.table sound y.0.type (complete k y.0 y.1)).1;
      }))
    where
      made : (k : ℕ) (x : Outline) → slice_get (map outline (map (new_variable w.table depth) variables)) k ≡ Some x
          → (v : Planned) × (slice_get variables k ≡ Some v) × (outline (new_variable w.table depth v) ≡ x)
      made k x e =
          let o = mapped-from outline (map (new_variable w.table depth) variables) k x e in
          let v = mapped-from (new_variable w.table depth) variables k o.0 o.1 in (v.0, v.1, ap outline v.2 ∙ o.2)

  pub gives-entered : (depth f : ℕ) (variables : List Planned) (s : State) → ((j : ℕ) (v : Planned) → slice_get variables j ≡ Some v → IsVariable w v)
      → IsSoundAt w sites s.memory depth
      → Gives (enter w (suc depth) f variables s) (λ x r. HasEntered w sites depth variables s.memory r.memory)
  gives-entered depth f variables s are facts = record {
    outlines = map-both outline s.memory.objects (map (new_variable w.table (suc depth)) variables);
    lives = map-both life s.memory.objects (map (new_variable w.table (suc depth)) variables);
    later = later-grown depth s.memory.objects (map (new_variable w.table (suc depth)) variables);
    sound = record {
      objects = entered-sound (suc depth) variables s.memory.objects facts.objects;
      outlines = entered-outlines (suc depth) variables s.memory.objects (λ j v e. (are j v e).complete) facts.outlines;
      lives = none-deeper-entered w.table depth variables s.memory.objects facts.lives;
    };
  }

  -- The end

  pub gives-left : (depth : ℕ) (variables : List Planned) (s : State) → IsSoundAt w sites s.memory (suc depth)
      → Gives (leave w (suc depth) variables s) (λ x r. HasLeft w sites depth s.memory r.memory)
  gives-left depth variables s facts = record {
    later = later-ended depth s.memory.objects;
    sound = record {
      objects = memory-ended w sites s.memory.objects (suc depth) facts.lives facts.objects;
      outlines = subst (AreOutlines w) (sym (outlines-ended (suc depth) s.memory.objects)) facts.outlines;
      lives = none-deeper-left depth s.memory.objects facts.lives;
    };
    returned = λ kind t p h c. returned-held w s.memory depth kind t p h c;
  }
