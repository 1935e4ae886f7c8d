-- Zero bytes hold an object without tags that is zero.
use Rattle.std.proofs.Common.{◌≡◌, ◌∙◌, ℕ, ◌+◌, ◌<◌, List, length, replicate, slice_index, Option, None, refl, ap, sym, arith}
use Rattle.std.proofs.lemmas.Option.{slice_get_within}
use Rattle.cc_base.specs.declared.kind.Kind.{Kind}
use Rattle.cc_base.specs.declared.kind.Kind.TheVariants.{Safe, Seq, Rtti, Wild}
use Rattle.c_types.specs.Cells.{raw, AreOrdered}
use Rattle.c_types.specs.Widths.{before}
use Rattle.src_mem.specs.Pointers.{Pointer}
use Rattle.src_mem.specs.Memory.{Object, pointer_or_null}
use Rattle.cured_code.proofs.SlotLaws.{words-zero}
use Rattle.sim_relation.specs.Ground.{Ground, word_number, pointer_words, row}
use Rattle.sim_relation.specs.Objects.{HoldsTyped}
use Rattle.sim_relation.proofs.Kept.{raw-inside, pointer-inside, words-width}

row-zero : (k : Kind) → replicate (word_number k) 0 ≡ row k 0 0 0
row-zero Safe = refl
row-zero Seq = refl
row-zero Rtti = refl
row-zero Wild = refl

pub zeros-hold : (g : Ground) (bytes : List ℕ) (at : ℕ) (o : Object) → AreOrdered o.cells → length o.bytes ≡ length o.cells
    → ((i : ℕ) → i < before g.kind o.cells (length o.cells) → slice_index bytes (at + i) ≡ 0)
    → ((i : ℕ) → i < length o.cells → slice_index o.bytes i ≡ 0) → ((i : ℕ) → o.pointers i ≡ None) → HoldsTyped g bytes at o
zeros-hold g bytes at o ordered sized zeros own none = record {
  ordered = ordered;
  sized = sized;
  integers = λ i e. zeros (before g.kind o.cells i) (let k = raw-inside g.kind o.cells i e in omega (arith, k))
      ∙ sym (own i (slice_get_within o.cells i raw e));
  pointers = λ i m t e.
      words-zero (word_number (g.kind m)) bytes (at + before g.kind o.cells i) (λ j l.
      let f : at + before g.kind o.cells i + j ≡ at + (before g.kind o.cells i + j) = omega arith in
      ap (slice_index bytes) f ∙ zeros (before g.kind o.cells i + j)
      (let k = pointer-inside g.kind o.cells i m t ordered e in let w = words-width (g.kind m) in omega (arith, k, w, l))) ∙ row-zero (g.kind m)
      ∙ sym (ap (λ (p : Option Pointer). pointer_words g (g.kind m) (pointer_or_null p)) (none i));
}
