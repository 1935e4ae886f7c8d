-- The pointer to a whole variable is a place of the variable's type.
use Rattle.std.proofs.Common.{◌≡◌, ℕ, ◌≤◌, pos, ◌⊎◌, true, List, slice_get, Some, refl, ap, sym, subst, ◌∙◌, ⊎_elim, arith}
use Rattle.std.proofs.lemmas.Int.{ints}
use Rattle.cc_base.specs.declared.kind.Kind.{Kind}
use Rattle.cc_base.specs.declared.kind.Kind.TheVariants.{Safe, Wild}
use Rattle.c_types.specs.Table.{IsComplete}
use Rattle.c_types.specs.Layouts.{size_of}
use Rattle.kind_sites.specs.Solutions.{IsPlain}
use Rattle.c_types.specs.Sound.{IsWellFormed}
use Rattle.src_mem.specs.Memory.{Memory, Planned, new_variable, size_of_object}
use Rattle.src_mem.specs.State.{Setting}
use Rattle.src_mem.specs.Checks.{InObject, holds, fits_between}
use Rattle.src_mem.specs.Uses.{home}
use Rattle.src_mem.specs.Outlines.{Outline, LivesAt, outline, outlines_of, lives_of}
use Rattle.src_mem.specs.Facts.{IsValueOf, IsPlaceIn}
use Rattle.src_mem.proofs.Outlines.{mapped-from}
use Rattle.facts_kept.specs.Kept.{AllHold, asked_of}
use Rattle.facts_kept.proofs.Complete.{complete-some, complete-data}
use Rattle.facts_kept.proofs.Places.{held-place}
use Rattle.facts_kept.proofs.Blocks.{block-safe, block-wild}
use Rattle.facts_kept.proofs.NonePointers.{variable-filled}

module _ (w : Setting) (sound : IsWellFormed w.table) where
  pub home-value : (outlines : List Outline) (number depth : ℕ) (v : Planned) (k : Kind) → w.kind v.node ≡ k → (k ≡ Safe) ⊎ (k ≡ Wild)
      → IsComplete w.table v.type
      → slice_get outlines number ≡ Some (outline (new_variable w.table depth v)) → IsValueOf w outlines k v.type (home w.table number v.type)
  home-value outlines number depth v k e plain c found = ⊎_elim
      (λ f. subst (λ y. IsValueOf w outlines y v.type (home w.table number v.type)) (sym f)
      (block-safe w sound outlines number (outline (new_variable w.table depth v)) found v.type
      (variable-filled w sound depth v c (λ g. cc (e, f, g)))
      (complete-data w.table sound v.type c) (let n = (complete-some w.table sound v.type c).1 in omega (arith, n))))
      (λ f. subst (λ y. IsValueOf w outlines y v.type (home w.table number v.type)) (sym f)
      (block-wild w sound outlines number (outline (new_variable w.table depth v)) found v.type (e ∙ f))) plain

  -- what fits into the variable lies in its object
  pub home-room : (memory : Memory) (number depth m : ℕ) (v : Planned)
      → slice_get (outlines_of memory) number ≡ Some (outline (new_variable w.table depth v)) → m ≤ size_of w.table v.type
      → holds w memory (InObject m (home w.table number v.type)) ≡ true
  home-room memory number depth m v found room =
      let o = mapped-from outline memory.objects number (outline (new_variable w.table depth v)) found in
      let size : size_of_object (slice_get memory.objects number) ≡ size_of w.table v.type = ap size_of_object o.1 ∙ ap
      (λ (y : Outline). y.size) o.2 in
      ap (λ n. fits_between 0 n (pos 0) m) size ∙ fits m (size_of w.table v.type) room
    where
      fits : (m n : ℕ) → m ≤ n → fits_between 0 n (pos 0) m ≡ true
      fits m n h = grind (arith, ints)

  pub home-place : (memory : Memory) (number depth deeper : ℕ) (v : Planned) → IsComplete w.table v.type → IsPlain w.kind v.node
      → slice_get (outlines_of memory) number ≡ Some (outline (new_variable w.table deeper v)) → LivesAt (lives_of memory) depth number
      → IsPlaceIn w memory depth (w.kind v.node) v.type (home w.table number v.type)
  home-place memory number depth deeper v c plain found lives = by (w.kind v.node) refl plain
    where
      by : (k : Kind) → w.kind v.node ≡ k → (k ≡ Safe) ⊎ (k ≡ Wild) → IsPlaceIn w memory depth k v.type (home w.table number v.type)
      by k e p =
          held-place w sound (outlines_of memory) (lives_of memory) depth memory k v.type (home w.table number v.type)
          (complete-data w.table sound v.type c)
          (record { value = home-value (outlines_of memory) number deeper v k e p c found; reaches = lives })
          (⊎_elim (λ f. subst (λ y. AllHold w memory (asked_of (size_of w.table v.type) y (home w.table number v.type))) (sym f) (refl, tt))
          (λ f. subst (λ y. AllHold w memory (asked_of (size_of w.table v.type) y (home w.table number v.type))) (sym f) (
            home-room memory number deeper (size_of w.table v.type) v found
                (let n : size_of w.table v.type ≡ size_of w.table v.type = refl in omega (arith, n)),
            tt,
          )) p)
