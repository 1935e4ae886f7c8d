-- How many bytes a block takes once it is cured.
use Rattle.std.proofs.Common.{◌≡◌, ◌∙◌, ℕ, zero, suc, ◌+◌, ◌*◌, ◌<◌, ◌≤◌, ◌%◌, false, List, [], ◌∷◌, length, replicate, slice_get, Some, refl, ap, sym, arith}
use Rattle.std.specs.Prelude.{slice_index_or}
use Rattle.std.proofs.lemmas.Nat.{mod-mul-add}
use Rattle.std.proofs.lemmas.Option.{slice_get-get_or, slice_get_within}
use Rattle.cc_base.specs.declared.kind.Kind.{Kind}
use Rattle.cc_base.specs.declared.number.TypeId.{TypeId}
use Rattle.cc_base.specs.declared.number.NodeId.{NodeId}
use Rattle.c_types.specs.Table.{IsComplete}
use Rattle.c_types.specs.Layouts.{size_of}
use Rattle.c_types.specs.Cells.{Cell, raw, pointer, mixed, incomplete, holds_pointer}
use Rattle.c_types.specs.Equality.{cells_of, repeated_cell}
use Rattle.c_types.specs.Sound.{IsWellFormed}
use Rattle.c_types.specs.Widths.{cell_width, before, width_of, cured_size}
use Rattle.type_laws.proofs.Widths.{before-suc}
use Rattle.src_mem.specs.Memory.{block_cells}
use Rattle.src_mem.specs.State.{Setting}
use Rattle.facts_kept.proofs.Blocks.{NoPointers, block-get, block-length}
use Rattle.facts_kept.proofs.Complete.{complete-some}
use Rattle.facts_kept.proofs.Flow.{rep-there}
use Rattle.facts_kept.proofs.NonePointers.{no-pointers}

-- bytes that are no pointer's take one each
flat-width : (kind : NodeId → Kind) (cells : List Cell) → NoPointers cells → (i : ℕ) → i ≤ length cells → before kind cells i ≡ i
flat-width kind cells none zero h = refl
flat-width kind cells none (suc i) h =
    let e = slice_get-get_or cells i raw (omega (arith, h)) in
    let s = before-suc kind cells i (slice_index_or cells i raw) e in
    let one = wide (slice_index_or cells i raw) e in
    let k = flat-width kind cells none i (omega (arith, h)) in omega (arith, s, one, k)
  where
    wide : (c : Cell) → slice_get cells i ≡ Some c → cell_width kind c ≡ 1
    wide raw e = refl
    wide (pointer n t j) e = absurd (none i n t j e)
    wide (mixed t j) e = refl
    wide (incomplete t) e = refl

raw-none : (k : ℕ) → NoPointers (replicate k raw)
raw-none zero i m t j e = cc (e)
raw-none (suc k) zero m t j e = cc (e)
raw-none (suc k) (suc i) m t j e = raw-none k i m t j e

block-none : (cells : List Cell) (n : ℕ) → NoPointers cells → NoPointers (block_cells cells n)
block-none [] n none i m t j e = raw-none n i m t j e
block-none (c ∷ cs) n none i m t j e =
    let l = slice_get_within (block_cells (c ∷ cs) n) i (pointer m t j) e in
    let long = block-length (c ∷ cs) n in
    let x = block-get (c ∷ cs) n i (omega arith) (omega (arith, l, long)) in
    none (i % length (c ∷ cs)) m t j (rep-there (c ∷ cs) i (omega arith) ∙ sym x ∙ e)

pub blocks-of-bytes : (w : Setting) (t : TypeId) (n : ℕ) → IsWellFormed w.table → holds_pointer w.table t ≡ false
    → width_of w.kind (block_cells (cells_of w.table t) n) ≡ n
blocks-of-bytes w t n sound none =
    flat-width w.kind (block_cells (cells_of w.table t) n) (block-none (cells_of w.table t) n (no-pointers w.table sound t none))
    (length (block_cells (cells_of w.table t) n)) (omega arith) ∙ block-length (cells_of w.table t) n

-- the first bytes of a repetition take whole elements, and then what the rest of one takes
repeat-width : (kind : NodeId → Kind) (cells block : List Cell) (n : ℕ) → 0 < length cells → ((i : ℕ) → i < n → slice_get block i ≡ Some (repeated_cell cells i))
    → (q r : ℕ) → r ≤ length cells → q * length cells + r ≤ n
    → before kind block (q * length cells + r) ≡ q * before kind cells (length cells) + before kind cells r
repeat-width kind cells block n some get zero zero h l = let e : 0 * length cells + 0 ≡ 0 = omega arith in ap (before kind block) e ∙ omega arith
repeat-width kind cells block n some get (suc q) zero h l =
    let e : suc q * length cells + 0 ≡ q * length cells + length cells = omega arith in
    let k = repeat-width kind cells block n some get q (length cells) (omega arith) (omega (arith, l)) in
    ap (before kind block) e ∙ k ∙ (let z : q * before kind cells (length cells) + before kind cells (length cells) ≡ suc q * before kind cells (length cells) + 0 = omega arith in z)
repeat-width kind cells block n some get q (suc r) h l =
    let k = repeat-width kind cells block n some get q r (omega (arith, h)) (omega (arith, l)) in
    let e : q * length cells + suc r ≡ suc (q * length cells + r) = omega arith in
    let s = before-suc kind block (q * length cells + r) (repeated_cell cells (q * length cells + r)) (get (q * length cells + r) (omega (arith, l))) in
    let there = slice_get-get_or cells r raw (omega (arith, h)) in
    let m = before-suc kind cells r (slice_index_or cells r raw) there in
    let same : repeated_cell cells (q * length cells + r) ≡ slice_index_or cells r raw = ap (λ i. slice_index_or cells i raw) (mod-mul-add q (length cells) r (omega (arith, h))) in
    let width = ap (cell_width kind) same in
    ap (before kind block) e ∙ (let z : before kind block (suc (q * length cells + r)) ≡ q * before kind cells (length cells) + before kind cells (suc r) = omega (arith, k, s, m, width) in z)

pub blocks-of-elements : (w : Setting) (t : TypeId) (k : ℕ) → IsWellFormed w.table → IsComplete w.table t
    → width_of w.kind (block_cells (cells_of w.table t) (k * size_of w.table t)) ≡ k * cured_size w.table w.kind t
blocks-of-elements w t k sound complete =
    let some = complete-some w.table sound t complete in
    let long = block-length (cells_of w.table t) (k * size_of w.table t) in
    let e : k * size_of w.table t ≡ k * length (cells_of w.table t) + 0 = (let z = some.1 in ap (λ n. k * n) (sym z) ∙ omega arith) in
    ap (before w.kind (block_cells (cells_of w.table t) (k * size_of w.table t))) (long ∙ e)
    ∙ repeat-width w.kind (cells_of w.table t) (block_cells (cells_of w.table t) (k * size_of w.table t)) (k * size_of w.table t) some.0
    (λ i h. block-get (cells_of w.table t) (k * size_of w.table t) i some.0 h) k 0 (omega arith) (omega (arith, e))
    ∙ (let z : k * before w.kind (cells_of w.table t) (length (cells_of w.table t)) + 0 ≡ k * before w.kind (cells_of w.table t) (length (cells_of w.table t)) = omega arith in z)
