-- Objects stay whole: as many bytes as their size, and zero bytes under stored pointers.
use Rattle.std.proofs.Common.{◌≡◌, ℕ, ◌+◌, ◌-◌, ◌<◌, ◌≤◌, ◌⊎◌, Bool, true, false, ◌&&◌, if◌then◌else◌, List, length, nat_le, nat_eq, slice_index, Option, None, Some, refl, ap, sym, subst, ◌∙◌, arith}
use Rattle.std.proofs.lemmas.Bool.Decides.{nat_tests}
use Rattle.flat_mem.specs.Bytes.{number, zeroed, bytes_at, written}
use Rattle.flat_mem.proofs.ByteLaws.{length-stored, length-zeroed, length-written, length-bytes_at, number-stored_apart, number-zeroed_apart, number-zeroed, number-written_apart, number-same, get-written_inside, get-bytes_at}
use Rattle.src_mem.specs.Pointers.{Pointer}
use Rattle.src_mem.specs.Memory.{Object, touches, untouched, with_integer, with_pointer, entry_of, with_copy, cleared}
use Rattle.src_mem.specs.Laws.{IsWhole}

-- what isn't touched lies before or behind
apart : (n at k : ℕ) → touches n at k ≡ false → (k + 8 ≤ at) ⊎ (at + n ≤ k)
apart n at k h = grind (arith, nat_tests)

-- a pointer that stays was there, and lies apart from what is overwritten
stays : (n at : ℕ) (pointers : ℕ → Option Pointer) (k : ℕ) (p : Pointer) → untouched n at pointers k ≡ Some p → (pointers k ≡ Some p) × ((k + 8 ≤ at) ⊎ (at + n ≤ k))
stays n at pointers k p = by (touches n at k) refl
  where
    by : (b : Bool) → touches n at k ≡ b → (if b then None else pointers k) ≡ Some p → (pointers k ≡ Some p) × ((k + 8 ≤ at) ⊎ (at + n ≤ k))
    by true e h = absurd (cc (h))
    by false e h = (h, apart n at k e)

pub integer_whole : (n at w : ℕ) (o : Object) → IsWhole o → IsWhole (with_integer n at w o)
integer_whole n at w o whole = record {
  sized = length-stored n o.bytes at w ∙ whole.sized;
  under = λ k p h.
      let a = stays n at o.pointers k p h in number-stored_apart 8 n o.bytes at k w a.1 ∙ whole.under k p a.0;
}

pub pointer_whole : (at : ℕ) (q : Pointer) (o : Object) → IsWhole o → IsWhole (with_pointer at q o)
pointer_whole at q o whole = record {
  sized = length-zeroed 8 o.bytes at ∙ whole.sized;
  under = λ k p. by k p (nat_eq k at) refl;
}
  where
    by : (k : ℕ) (p : Pointer) (b : Bool) → nat_eq k at ≡ b → (if b then entry_of q else untouched 8 at o.pointers k) ≡ Some p → number 8 (zeroed 8 o.bytes at) k ≡ 0
    by k p true e h = let f : k ≡ at = grind (arith, nat_tests) in number-zeroed 8 8 o.bytes at k (omega arith) (omega arith)
    by k p false e h = let a = stays 8 at o.pointers k p h in number-zeroed_apart 8 8 o.bytes at k a.1 ∙ whole.under k p a.0

pub cleared_whole : (o : Object) → IsWhole o → IsWhole (cleared o)
cleared_whole o whole = record {
  sized = length-zeroed o.size o.bytes 0 ∙ whole.sized;
  under = λ k p h. absurd (cc (h));
}

-- a number that was copied with others is what it was
pub number-copied : (n : ℕ) (source target : List ℕ) (from at k : ℕ) → at ≤ k → k + 8 ≤ at + n → at + n ≤ length target
    → number 8 (written (bytes_at n source from) target at) k ≡ number 8 source (from + (k - at))
number-copied n source target from at k low high room = number-same 8 (written (bytes_at n source from) target at) source k (from + (k - at)) each
  where
    inside : (i : ℕ) → i < 8 → slice_index (written (bytes_at n source from) target at) (at + (k - at + i)) ≡ slice_index source (from + (k - at + i))
    inside i h =
        let e = length-bytes_at n source from in
        get-written_inside (bytes_at n source from) target at (k - at + i) (omega (arith, e)) (omega (arith, e))
        ∙ get-bytes_at n source from (k - at + i) (omega arith)

    each : (i : ℕ) → i < 8 → slice_index (written (bytes_at n source from) target at) (k + i) ≡ slice_index source (from + (k - at) + i)
    each i h =
        let e : at + (k - at + i) ≡ k + i = omega arith in
        let f : from + (k - at + i) ≡ from + (k - at) + i = omega arith in
        ap (λ j. slice_index (written (bytes_at n source from) target at) j) (sym e) ∙ inside i h ∙ ap (λ j. slice_index source j) f

pub copy_whole : (n : ℕ) (source : Object) (from at : ℕ) (o : Object) → IsWhole source → IsWhole o → at + n ≤ o.size → IsWhole (with_copy n source from at o)
copy_whole n source from at o read whole room = record {
  sized = length-written (bytes_at n source.bytes from) o.bytes at ∙ whole.sized;
  under = λ k p. by k p (nat_le at k) (nat_le (k + 8) (at + n)) refl refl;
}
  where
    kept : (k : ℕ) (p : Pointer) → untouched n at o.pointers k ≡ Some p → number 8 (written (bytes_at n source.bytes from) o.bytes at) k ≡ 0
    kept k p h =
        let a = stays n at o.pointers k p h in
        let e = length-bytes_at n source.bytes from in
        number-written_apart 8 (bytes_at n source.bytes from) o.bytes at k (subst (λ m. (k + 8 ≤ at) ⊎ (at + m ≤ k)) (sym e) a.1) ∙ whole.under k p a.0

    by : (k : ℕ) (p : Pointer) (b c : Bool) → nat_le at k ≡ b → nat_le (k + 8) (at + n) ≡ c
        → (if b && c then source.pointers (from + (k - at)) else untouched n at o.pointers k) ≡ Some p
        → number 8 (written (bytes_at n source.bytes from) o.bytes at) k ≡ 0
    by k p true true d e h =
        let l : at ≤ k = grind (arith, nat_tests) in
        let m : k + 8 ≤ at + n = grind (arith, nat_tests) in
        number-copied n source.bytes o.bytes from at k l m (let f = whole.sized in omega (arith, f)) ∙ read.under (from + (k - at)) p h
    by k p true false d e h = kept k p h
    by k p false true d e h = kept k p h
    by k p false false d e h = kept k p h
