-- A pointer that moves by elements isn't wrong, and may be held where it then stands.
use Rattle.std.proofs.Common.{◌≡◌, ◌⊎◌, ℕ, ℤ, pos, ◌*ℤ◌, List, refl, sym, subst, ⊎_elim}
use Rattle.cc_base.specs.declared.place.Place.{Place}
use Rattle.cc_base.specs.declared.number.TypeId.{TypeId}
use Rattle.cc_base.specs.declared.kind.Kind.{Kind}
use Rattle.cc_base.specs.declared.kind.Kind.TheVariants.{Seq, Wild}
use Rattle.kind_sites.specs.declared.site.Site.{Site}
use Rattle.c_types.specs.Table.{IsComplete}
use Rattle.c_types.specs.Sound.{IsWellFormed}
use Rattle.runs.specs.Outcome.{◌>>◌}
use Rattle.src_mem.specs.Pointers.{Pointer, Null, Number, At, Function}
use Rattle.src_mem.specs.State.{State, Setting}
use Rattle.src_mem.specs.Checks.{Move, conditions_of, all_checked}
use Rattle.src_mem.specs.Primitives.{move}
use Rattle.src_mem.specs.Operations.{kind_in, pointee, pointee_size, moved}
use Rattle.src_mem.specs.Outlines.{outlines_of}
use Rattle.src_mem.specs.Facts.{IsMade, IsHeldIn}
use Rattle.src_mem.specs.Laws.{Gives}
use Rattle.facts_kept.specs.Kept.{GivesPointer}
use Rattle.facts_kept.proofs.Moves.{seq-moved, wild-moved}
use Rattle.facts_kept.proofs.Giving.{gives-checked}

module _ (w : Setting) (sound : IsWellFormed w.table) (sites : List Site) (at : Place) (t : TypeId) (n : ℤ) (s : State) (depth : ℕ) where
  Moved : Kind → Pointer → Type 0
  Moved k p =
      Gives ((all_checked w at (conditions_of (Move (pointee_size w t) n) k p) >> move (pointee_size w t) n p) s)
      (GivesPointer w sites depth k (pointee w t) s)

  sequence : IsComplete w.table (pointee w t) → (p : Pointer) → IsHeldIn w s.memory depth Seq (pointee w t) p → IsMade sites p → Moved Seq p
  unfolding Moved
  sequence c Null h made = tt
  sequence c (Number m) h made = tt
  sequence c (Function f) h made = tt
  sequence c (At l) h made =
      gives-checked w (λ c. at) (conditions_of (Move (pointee_size w t) n) Seq (At l)) (move (pointee_size w t) n (At l)) s
      (GivesPointer w sites depth Seq (pointee w t) s)
      (λ a. record {
        memory = refl;
        held = record {
          value = seq-moved w sound (outlines_of s.memory) (pointee w t) n l c h.value a.1.0;
          reaches = let r = h.reaches in record { life = r.life; found = r.found; live = r.live; older = r.older };
        };
        made = made;
      })

  wild : (p : Pointer) → IsHeldIn w s.memory depth Wild (pointee w t) p → IsMade sites p → Moved Wild p
  unfolding Moved
  wild Null h made = tt
  wild (Number m) h made = tt
  wild (Function f) h made = tt
  wild (At l) h made =
      gives-checked w (λ c. at) (conditions_of (Move (pointee_size w t) n) Wild (At l)) (move (pointee_size w t) n (At l)) s
      (GivesPointer w sites depth Wild (pointee w t) s)
      (λ a. record {
        memory = refl;
        held = record {
          value = wild-moved w sound (outlines_of s.memory) (n *ℤ pos (pointee_size w t)) l h.value a.1.0;
          reaches = let r = h.reaches in record { life = r.life; found = r.found; live = r.live; older = r.older };
        };
        made = made;
      })

  pub gives-moved : (p : Pointer) → (kind_in w t ≡ Seq) ⊎ (kind_in w t ≡ Wild) → IsComplete w.table (pointee w t)
      → IsHeldIn w s.memory depth (kind_in w t) (pointee w t) p → IsMade sites p
      → Gives (moved w at t n p s) (GivesPointer w sites depth (kind_in w t) (pointee w t) s)
  unfolding Moved
  gives-moved p k c h made = ⊎_elim
      (λ e. subst (λ y. Moved y p) (sym e) (sequence c p (subst (λ y. IsHeldIn w s.memory depth y (pointee w t) p) e h) made))
      (λ e. subst (λ y. Moved y p) (sym e) (wild p (subst (λ y. IsHeldIn w s.memory depth y (pointee w t) p) e h) made)) k
