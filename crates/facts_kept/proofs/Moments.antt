-- What leaves outlines and lives as they are leaves the other facts of a moment, and what is held.
use Rattle.std.proofs.Common.{ℕ, List, sym, subst}
use Rattle.cc_base.specs.declared.number.TypeId.{TypeId}
use Rattle.cc_base.specs.declared.kind.Kind.{Kind}
use Rattle.kind_sites.specs.declared.site.Site.{Site}
use Rattle.src_mem.specs.Pointers.{Pointer}
use Rattle.src_mem.specs.Memory.{Memory}
use Rattle.src_mem.specs.State.{Setting}
use Rattle.src_mem.specs.Outlines.{outlines_of, lives_of, AreOutlines, AreNoDeeper}
use Rattle.src_mem.specs.Facts.{IsHeld, IsHeldIn, IsSoundAt}
use Rattle.facts_kept.specs.Kept.{IsKept}

pub kept-sound : (w : Setting) (sites : List Site) (depth : ℕ) (old new : Memory) → IsSoundAt w sites old depth → IsKept w sites old new
    → IsSoundAt w sites new depth
kept-sound w sites depth old new s k = record {
  objects = k.sound;
  outlines = subst (AreOutlines w) (sym k.outlines) s.outlines;
  lives = subst (λ ls. AreNoDeeper ls depth) (sym k.lives) s.lives;
}

pub kept-held : (w : Setting) (sites : List Site) (depth : ℕ) (kind : Kind) (t : TypeId) (p : Pointer) (old new : Memory) → IsKept w sites old new
    → IsHeldIn w old depth kind t p → IsHeldIn w new depth kind t p
kept-held w sites depth kind t p old new k h =
    subst (λ xs. IsHeld w xs (lives_of new) depth kind t p) (sym k.outlines)
    (subst (λ ls. IsHeld w (outlines_of old) ls depth kind t p) (sym k.lives) h)
