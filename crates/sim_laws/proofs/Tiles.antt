-- Types whose endless repetitions agree move a SEQ pointer alike, and what a SEQ pointer's conversion asks where its target has no size.
use Rattle.std.proofs.Common.{◌≡◌, ℕ, zero, suc, ◌*◌, ◌%◌, ◌<◌, ◌⊎◌, inl, inr, ℤ, pos, negsuc, ◌+ℤ◌, Bool, true, false, List, [], length, refl, ap, sym, subst, ◌∙◌, arith, if◌then◌else◌}
use Rattle.std.proofs.lemmas.Int.{ints}
use Rattle.cc_base.specs.declared.kind.Kind.{Kind}
use Rattle.cc_base.specs.declared.kind.Kind.TheVariants.{Seq}
use Rattle.cc_base.specs.declared.number.TypeId.{TypeId}
use Rattle.cc_base.specs.declared.number.NodeId.{NodeId}
use Rattle.c_types.specs.Table.{IsComplete, is_complete, entry_at, is_function}
use Rattle.c_types.specs.Layouts.{size_of}
use Rattle.c_types.specs.Cells.{Cell}
use Rattle.c_types.specs.Equality.{cells_of, repeated_cell}
use Rattle.c_types.specs.Flows.{flow_class}
use Rattle.c_types.specs.Widths.{before, cell_width, stair, cured_size, cured_distance}
use Rattle.c_types.specs.Sound.{IsWellFormed}
use Rattle.kind_sites.specs.declared.site.Site.{Site}
use Rattle.kind_sites.specs.Solutions.{allows, is_tiled}
use Rattle.type_laws.proofs.OneClass.{move-alike}
use Rattle.type_laws.proofs.Pointers.{class_turned}
use Rattle.type_laws.proofs.Stairs.{stair-suc, stair-zero}
use Rattle.integers.specs.Words.{residue}
use Rattle.src_mem.specs.Pointers.{Location, distance}
use Rattle.src_mem.specs.State.{Setting}
use Rattle.src_mem.specs.Outlines.{Outline}
use Rattle.src_mem.specs.Facts.{IsSequenceAt}
use Rattle.facts_kept.specs.Kept.{IsFlow}
use Rattle.facts_kept.proofs.Complete.{complete-some}
use Rattle.facts_kept.proofs.Convert.{Alike, Both, residue-low, seq-complete, both-complete, both-or-void, not-plain}
use Rattle.facts_kept.proofs.Flow.{class-tells}
use Rattle.cil_facts.proofs.Homes.{complete-along}
use Rattle.sim_relation.proofs.Bounds.{step_of, cell-steps, agree-width, distance-is, widths}

-- Stairs of equal steps

module _ (w : Setting) (sound : IsWellFormed w.table) (ts us : List Cell) (some : 0 < length ts) (other : 0 < length us)
    (alike : (i : ℕ) → cell_width w.kind (repeated_cell ts i) ≡ cell_width w.kind (repeated_cell us i)) where
  times : (a b : ℕ) → a * b ≡ b * a
  times a b = grind arith

  step-alike : (z : ℤ) → step_of w.kind ts (residue z (length ts)) ≡ step_of w.kind us (residue z (length us))
  step-alike z =
      ap (step_of w.kind ts) (sym (residue-low w sound [] z (length ts) (length us) some other))
      ∙ alike (residue z (length ts * length us))
      ∙ ap (λ (n : ℕ). step_of w.kind us (residue z n % length us)) (times (length ts) (length us))
      ∙ ap (step_of w.kind us) (residue-low w sound [] z (length us) (length ts) other some)

  one-up : (z : ℤ) → widths w.kind ts z ≡ widths w.kind us z → widths w.kind ts (z +ℤ pos 1) ≡ widths w.kind us (z +ℤ pos 1)
  one-up z h =
      stair-suc (before w.kind ts) (step_of w.kind ts) (length ts) (cell-steps w.kind ts some) z
      ∙ ap (λ (x : ℤ). x +ℤ pos (step_of w.kind ts (residue z (length ts)))) h
      ∙ ap (λ (n : ℕ). widths w.kind us z +ℤ pos n) (step-alike z)
      ∙ sym (stair-suc (before w.kind us) (step_of w.kind us) (length us) (cell-steps w.kind us other) z)

  one-down : (z : ℤ) → widths w.kind ts (z +ℤ pos 1) ≡ widths w.kind us (z +ℤ pos 1) → widths w.kind ts z ≡ widths w.kind us z
  one-down z h = less (widths w.kind ts z) (widths w.kind us z) (step_of w.kind us (residue z (length us)))
      (ap (λ (n : ℕ). widths w.kind ts z +ℤ pos n) (sym (step-alike z))
      ∙ sym (stair-suc (before w.kind ts) (step_of w.kind ts) (length ts) (cell-steps w.kind ts some) z)
      ∙ h ∙ stair-suc (before w.kind us) (step_of w.kind us) (length us) (cell-steps w.kind us other) z)
    where
      less : (x y : ℤ) (n : ℕ) → x +ℤ pos n ≡ y +ℤ pos n → x ≡ y
      less x y n e = omega (arith, ints, e)

  up : (n : ℕ) → widths w.kind ts (pos n) ≡ widths w.kind us (pos n)
  up zero =
      stair-zero (before w.kind ts) (step_of w.kind ts) (length ts) (cell-steps w.kind ts some)
      ∙ sym (stair-zero (before w.kind us) (step_of w.kind us) (length us) (cell-steps w.kind us other))
  up (suc n) = subst (λ (z : ℤ). widths w.kind ts z ≡ widths w.kind us z) (let e : pos n +ℤ pos 1 ≡ pos (suc n) = omega (arith, ints) in e) (one-up (pos n) (up n))

  down : (n : ℕ) → widths w.kind ts (negsuc n) ≡ widths w.kind us (negsuc n)
  down zero = one-down (negsuc 0)
      (subst (λ (z : ℤ). widths w.kind ts z ≡ widths w.kind us z) (let e : pos 0 ≡ negsuc 0 +ℤ pos 1 = omega (arith, ints) in e) (up 0))
  down (suc n) = one-down (negsuc (suc n))
      (subst (λ (z : ℤ). widths w.kind ts z ≡ widths w.kind us z) (let e : negsuc n ≡ negsuc (suc n) +ℤ pos 1 = omega (arith, ints) in e) (down n))

  pub widths-alike : (z : ℤ) → widths w.kind ts z ≡ widths w.kind us z
  widths-alike (pos n) = up n
  widths-alike (negsuc n) = down n

-- Types that tile

pub move-tiled : (w : Setting) (sound : IsWellFormed w.table) (outlines : List Outline) (t u : TypeId) → IsComplete w.table t → IsComplete w.table u
    → Both w sound outlines t u → (z : ℤ) → cured_distance w.table w.kind t z ≡ cured_distance w.table w.kind u z
unfolding Both Alike
move-tiled w sound outlines t u ct cu b z =
    distance-is w.table w.kind t ct (complete-some w.table sound t ct).1 z
    ∙ widths-alike w sound (cells_of w.table t) (cells_of w.table u) b.0 b.1
    (λ i. agree-width w (repeated_cell (cells_of w.table t) i) (repeated_cell (cells_of w.table u) i) (b.2 i)) z
    ∙ sym (distance-is w.table w.kind u cu (complete-some w.table sound u cu).1 z)

-- what has no size moves nowhere
pub still : (w : Setting) (t : TypeId) → is_complete (entry_at w.table t) ≡ false → (z : ℤ) → cured_distance w.table w.kind t z ≡ pos 0
still w t e z = ap (λ (q : Bool). if q then stair (before w.kind (cells_of w.table t)) (size_of w.table t) (cured_size w.table w.kind t) z else pos 0) e

-- A SEQ pointer that is converted to another SEQ type stands as far into its part as before, once cured.
pub move-converted : (w : Setting) (sound : IsWellFormed w.table) (outlines : List Outline) (sites : List Site) (m n : NodeId) (t u : TypeId) → IsFlow w sites m t n u
    → w.kind m ≡ Seq → w.kind n ≡ Seq → (l : Location) → IsSequenceAt w outlines t l
    → cured_distance w.table w.kind u (distance l) ≡ cured_distance w.table w.kind l.made (distance l)
unfolding Both Alike
move-converted w sound outlines sites m n t u f em en l s = by (both-or-void w sound outlines t u (flow_class w.table t u) tiled f.flow.equal ft fu (class-tells w.table t u))
  where
    allowed : allows Seq Seq (flow_class w.table t u) f.flow.below ≡ true
    allowed = subst (λ (k : Kind). allows Seq k (flow_class w.table t u) f.flow.below ≡ true) en
        (subst (λ (k : Kind). allows k (w.kind n) (flow_class w.table t u) f.flow.below ≡ true) em f.flow.allowed)

    tiled : is_tiled (flow_class w.table t u) ≡ true
    tiled = allowed

    ft : is_function w.table t ≡ false
    ft = not-plain w sound outlines Seq m t em (λ e. cc (e)) (λ e. cc (e)) f.source

    fu : is_function w.table u ≡ false
    fu = not-plain w sound outlines Seq n u en (λ e. cc (e)) (λ e. cc (e)) f.target

    by : Both w sound outlines t u ⊎ ((cells_of w.table t ≡ []) × (cells_of w.table u ≡ []))
        → cured_distance w.table w.kind u (distance l) ≡ cured_distance w.table w.kind l.made (distance l)
    by (inl b) =
        let ct = seq-complete w sound outlines t l s b.0 in
        let cu = both-complete w sound outlines t u fu b ct in
        let made = complete-along w sound t l.made (class_turned w.table w.kind l.made t s.made) ct in
        sym (move-tiled w sound outlines t u ct cu b (distance l)) ∙ sym (move-alike w.table sound w.kind l.made t made ct s.made (distance l))
    by (inr (et, eu)) = nowhere u (none u eu) ∙ sym (nowhere l.made (unmade (is_complete (entry_at w.table l.made)) refl))
      where
        none : (v : TypeId) → cells_of w.table v ≡ [] → is_complete (entry_at w.table v) ≡ false
        none v e = of (is_complete (entry_at w.table v)) refl
          where
            of : (q : Bool) → is_complete (entry_at w.table v) ≡ q → q ≡ false
            of false h = refl
            of true h = absurd (let x = (complete-some w.table sound v h).0 in let y : length (cells_of w.table v) ≡ 0 = ap (λ (cs : List Cell). length cs) e in omega (arith, x, y))

        nowhere : (v : TypeId) → is_complete (entry_at w.table v) ≡ false → cured_distance w.table w.kind v (distance l) ≡ pos 0
        nowhere v e = still w v e (distance l)

        unmade : (q : Bool) → is_complete (entry_at w.table l.made) ≡ q → q ≡ false
        unmade false h = refl
        unmade true h = absurd (let x = complete-along w sound l.made t s.made h in let y = none t et in cc (x, y))
