-- Pointers that come from no other pointer: from integers, from the names of functions, and null.
use Rattle.std.proofs.Common.{◌≡◌, ℕ, zero, suc, ◌^◌, ◌<◌, ◌⊎◌, ℤ, true, List, slice_get, Some, refl, sym, subst, ⊎_elim, arith}
use Rattle.cc_base.specs.declared.kind.Kind.{Kind}
use Rattle.cc_base.specs.declared.kind.Kind.TheVariants.{Safe, Seq, Wild}
use Rattle.cc_base.specs.declared.number.TypeId.{TypeId}
use Rattle.kind_sites.specs.declared.site.Site.{Site}
use Rattle.c_types.specs.Table.{is_function}
use Rattle.type_laws.proofs.Pointers.{class_own}
use Rattle.integers.specs.Words.{word}
use Rattle.integers.proofs.WordLaws.{residue-below}
use Rattle.src_mem.specs.Pointers.{Function, pointer_of_word}
use Rattle.src_mem.specs.State.{State, Setting, Defined}
use Rattle.src_mem.specs.Primitives.{pointer_from}
use Rattle.src_mem.specs.Outlines.{Outline}
use Rattle.src_mem.specs.Facts.{IsValueOf}
use Rattle.src_mem.specs.Laws.{Gives}
use Rattle.facts_kept.specs.Kept.{GivesPointer}

-- an integer becomes a SEQ or a WILD pointer
pub gives-number : (w : Setting) (sites : List Site) (depth : ℕ) (kind : Kind) (t : TypeId) (z : ℤ) (s : State) → (kind ≡ Seq) ⊎ (kind ≡ Wild)
    → Gives (pointer_from z s) (GivesPointer w sites depth kind t s)
gives-number w sites depth kind t z s which = ⊎_elim
    (λ e. subst (λ k. Gives (pointer_from z s) (GivesPointer w sites depth k t s)) (sym e)
    (as_sequence (word z) (residue-below z (2 ^ 64) (omega arith))))
    (λ e. subst (λ k. Gives (pointer_from z s) (GivesPointer w sites depth k t s)) (sym e)
    (as_wild (word z) (residue-below z (2 ^ 64) (omega arith)))) which
  where
    as_sequence : (n : ℕ) → n < 2 ^ 64 → GivesPointer w sites depth Seq t s (pointer_of_word n) s
    as_sequence zero h = record { memory = refl; held = record { value = tt; reaches = tt }; made = tt }
    as_sequence (suc n) h = record { memory = refl; held = record { value = ((λ e. absurd (omega (arith, e))), h); reaches = tt }; made = tt }

    as_wild : (n : ℕ) → n < 2 ^ 64 → GivesPointer w sites depth Wild t s (pointer_of_word n) s
    as_wild zero h = record { memory = refl; held = record { value = tt; reaches = tt }; made = tt }
    as_wild (suc n) h = record { memory = refl; held = record { value = ((λ e. absurd (omega (arith, e))), h); reaches = tt }; made = tt }

-- the name of a function is a SAFE or a WILD pointer to its type
pub function-value : (w : Setting) (outlines : List Outline) (kind : Kind) (f : ℕ) (d : Defined) → slice_get w.functions f ≡ Some d
    → is_function w.table d.type ≡ true
    → (kind ≡ Safe) ⊎ (kind ≡ Wild) → IsValueOf w outlines kind d.type (Function f)
function-value w outlines kind f d found is which = ⊎_elim
    (λ e. subst (λ k. IsValueOf w outlines k d.type (Function f)) (sym e)
    (record { function = d; found = found; type = is; class = class_own w.table w.kind d.type }))
    (λ e. subst (λ k. IsValueOf w outlines k d.type (Function f)) (sym e) (d, found)) which
