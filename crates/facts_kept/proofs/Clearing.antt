-- A living object that is cleared leaves the memory sound.
use Rattle.std.proofs.Common.{◌≡◌, ℕ, true, List, slice_get, Some, refl, sym, subst}
use Rattle.kind_sites.specs.declared.site.Site.{Site}
use Rattle.runs.specs.Outcome.{leaves, allowed}
use Rattle.src_mem.specs.Memory.{Object, cleared}
use Rattle.src_mem.specs.State.{State, Setting, Wrong, touched}
use Rattle.src_mem.specs.Primitives.{with_object, clear_at, clear}
use Rattle.src_mem.specs.Outlines.{outlines_of, lives_of}
use Rattle.src_mem.specs.Facts.{IsSoundMemory}
use Rattle.src_mem.specs.Laws.{Gives}
use Rattle.facts_kept.specs.Kept.{IsKept}
use Rattle.facts_kept.proofs.Lists.{outlines-set, lives-set}
use Rattle.facts_kept.proofs.Stores.{sound-change, sound-cleared}

pub gives-cleared : (w : Setting) (sites : List Site) (number : ℕ) (o : Object) (s : State) → IsSoundMemory w sites s.memory
    → slice_get s.memory.objects number ≡ Some o → o.live ≡ true
    → Gives (clear number s) (λ x r. IsKept w sites s.memory r.memory)
gives-cleared w sites number o s memory found live =
    subst (λ r. Gives (clear_at number r s) (λ x r. IsKept w sites s.memory r.memory)) (sym found)
    (subst
    (λ b. Gives (allowed b Wrong (leaves (λ u. with_object number (cleared o) (touched number 0 o.size u))) s)
    (λ x r. IsKept w sites s.memory r.memory))
    (sym live)
    (record {
      sound = sound-change w sites s.memory.objects number o (cleared o) memory found refl refl
          (sound-cleared w sites (outlines_of s.memory) (lives_of s.memory) o (memory.each number o found live));
      outlines = outlines-set s.memory.objects number o (cleared o) found refl;
      lives = lives-set s.memory.objects number o (cleared o) found refl;
    }))
