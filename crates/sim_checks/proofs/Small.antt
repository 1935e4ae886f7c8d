-- The small runs are alike, and the changed ones aren't.
use Rattle.std.proofs.Common.{◌≡◌, ◌∙◌, ℕ, zero, suc, ◌<◌, ◌^◌, true, false, [], ◌∷◌, refl, ap, sym, subst, arith}
use Rattle.std.specs.List.{Contains}
use Rattle.cc_base.specs.declared.kind.Kind.TheVariants.{Seq}
use Rattle.c_types.specs.Layouts.{layout_of}
use Rattle.c_types.specs.Cells.{cells_at}
use Rattle.flat_mem.specs.declared.Area.{Area}
use Rattle.flat_mem.specs.Bytes.{bytes_at}
use Rattle.sim_relation.specs.Ground.{pointer_words}
use Rattle.sim_relation.specs.Objects.{HoldsAll}
use Rattle.sim_relation.specs.Related.{AreAreas, HasRoom, IsAlikeOutside, Related}
use Rattle.sim_relation.specs.Outcomes.{IsFaithful, StandsForMemory, RunAlike}
use Rattle.sim_relation.specs.Points.{Sure, IsNotNull, IsBased, IsWithin, IsTrueOf, AreWords, PointerStands}
use Rattle.sim_relation.specs.Small.{node, bytes_with, first, pointer_one_past, small_setting, number_of, small_source, small_flat, small_ground}
use Rattle.sim_relation.proofs.Small.{small-related, wrong-byte, too-short}
use Rattle.sim_relation.proofs.Ends.{ends-alike}
use Rattle.src_mem.specs.State as source
use Rattle.cured_code.specs.FlatState as flat
use Rattle.sim_checks.specs.Small.{flat_with_byte, flat_with_short_area, short_ground, flat_with_frame, flat_with_output, small_run, small_cured_run, run_with_byte, run_with_status, run_with_short_range, run_with_call, known_p, p_within, slots_to}

-- States

pub other-byte : HoldsAll small_ground (bytes_with 6 1) small_source.memory.objects → ⊥
other-byte h = wrong-byte (h.each 0 first refl refl)

pub short-area : AreAreas short_ground small_source.memory.objects flat_with_short_area → ⊥
short-area h = let e = h.sizes 0 first (record { area = record { tagged = false; bytes = 16 }; address = 16 }) refl refl in
    let n : 16 ≡ 32 = ap (λ (a : Area). a.bytes) e in absurd (cc (n))

pub no-charge : HasRoom small_source flat_with_frame → ⊥
no-charge h = let f = h.frames.0 in absurd (omega (arith, f))

pub output-more : IsAlikeOutside small_source flat_with_output → ⊥
output-more h = absurd (let e = h.output in cc (e))

pub unrelated : Related small_setting number_of small_source flat_with_byte → ⊥
unrelated h = other-byte h.holds

-- Runs

pub runs-alike : RunAlike small_setting number_of small_run small_cured_run
runs-alike = ends-alike small_setting number_of (source.Exited 0) small_source (flat.Exited 0) small_flat small-related refl

pub other-status : RunAlike small_setting number_of small_run run_with_status → ⊥
other-status h = let e : 1 ≡ 0 = h.ending in absurd (cc (e))

pub faithful : IsFaithful small_setting number_of small_run small_cured_run
faithful = runs-alike.faithful

pub short-range : IsFaithful small_setting number_of small_run run_with_short_range → ⊥
short-range h = too-short h.accesses.0

pub call-more : IsFaithful small_setting number_of small_run run_with_call → ⊥
call-more h = absurd (let e = h.entered in cc (e))

pub memory : StandsForMemory small_setting number_of small_run small_cured_run
memory = runs-alike.memory

pub other-memory : StandsForMemory small_setting number_of small_run run_with_byte → ⊥
other-memory h = other-byte h.objects

-- Words

pub are-words : AreWords (20 ∷ 16 ∷ 20 ∷ [])
are-words = record { below = each }
  where
    each : (n : ℕ) → Contains (20 ∷ 16 ∷ 20 ∷ []) n → n < 2 ^ 64
    each n (zero, less, e) = omega (arith, e)
    each n (suc zero, less, e) = omega (arith, e)
    each n (suc (suc zero), less, e) = omega (arith, e)
    each n (suc (suc (suc k)), less, e) = absurd (omega (arith, less))

pub too-great : AreWords (20 ∷ 2 ^ 64 ∷ []) → ⊥
too-great h = let l = h.below (2 ^ 64) (1, omega arith, refl) in absurd (omega (arith, l))

words-of : pointer_words small_ground Seq pointer_one_past ≡ 20 ∷ 16 ∷ 20 ∷ []
unfolding layout_of cells_at
words-of = refl

pub pointer-stands : PointerStands small_ground (slots_to 20) known_p (node 1) pointer_one_past
unfolding bytes_at
pointer-stands = record {
  words = subst AreWords (sym words-of) are-words;
  in_slots = λ a e. let f : 1 ≡ a = cc (e) in subst (λ (k : ℕ). bytes_at 3 (slots_to 20) k ≡ pointer_words small_ground Seq pointer_one_past) f (sym words-of);
  sure = each;
}
  where
    each : (y : Sure) → Contains (IsNotNull ∷ IsBased ∷ []) y → IsTrueOf y pointer_one_past
    each y (zero, less, e) = subst (λ (z : Sure). IsTrueOf z pointer_one_past) e refl
    each y (suc zero, less, e) = subst (λ (z : Sure). IsTrueOf z pointer_one_past) e refl
    each y (suc (suc k), less, e) = absurd (omega (arith, less))

pub other-end : PointerStands small_ground (slots_to 16) known_p (node 1) pointer_one_past → ⊥
unfolding bytes_at
other-end h = let e : 20 ∷ 16 ∷ 16 ∷ [] ≡ 20 ∷ 16 ∷ 20 ∷ [] = h.in_slots 1 refl ∙ words-of in absurd (cc (e))

pub not-within : PointerStands small_ground (slots_to 20) p_within (node 1) pointer_one_past → ⊥
not-within h = let e : false ≡ true = h.sure (IsWithin 4) (0, omega arith, refl) in absurd (cc (e))
