-- What is left of objects where bytes elsewhere change.
use Rattle.std.proofs.Common.{◌≡◌, ◌≢◌, ℕ, zero, suc, ◌+◌, ◌-◌, ◌*◌, ◌%◌, ◌<◌, ◌≤◌, List, [], ◌∷◌, length, slice_get, Option, Some, None, ap, refl, ◌∙◌, arith, nat_eq}
use Rattle.std.specs.Int.{bit_at}
use Rattle.cc_base.specs.declared.number.TypeId.{TypeId}
use Rattle.cc_base.specs.declared.number.NodeId.{NodeId}
use Rattle.cc_base.specs.declared.kind.Kind.{Kind}
use Rattle.cc_base.specs.declared.kind.Kind.TheVariants.{Safe, Seq, Rtti, Wild}
use Rattle.c_types.specs.Cells.{Cell, raw, pointer, AreOrdered}
use Rattle.c_types.specs.Widths.{kind_width, before, width_of}
use Rattle.type_laws.proofs.Widths.{before-suc, before-pointer}
use Rattle.flat_mem.specs.Bytes.{number}
use Rattle.flat_mem.specs.Placement.{word_count, contents_size, tagged_size, tag_byte, base_word}
use Rattle.flat_mem.proofs.StoreLaws.{Agree, agree-number}
use Rattle.src_mem.specs.Pointers.{Pointer}
use Rattle.src_mem.specs.Memory.{Object}
use Rattle.src_mem.specs.Outlines.{Outline}
use Rattle.cured_code.specs.FlatState.{words_at}
use Rattle.sim_relation.specs.Ground.{Ground, word_number}
use Rattle.sim_relation.specs.Objects.{HoldsTyped, HoldsTagged, HoldsWord, HoldsBy, area_by}

-- Kinds without tags

pub typed-holds : (k : Kind) → k ≢ Wild → (g : Ground) (bytes : List ℕ) (at : ℕ) (o : Object) → HoldsBy k g bytes at o → HoldsTyped g bytes at o
typed-holds Safe n g bytes at o h = h
typed-holds Seq n g bytes at o h = h
typed-holds Rtti n g bytes at o h = h
typed-holds Wild n g bytes at o h = absurd (n refl)

pub untagged-holds : (k : Kind) → k ≢ Wild → (g : Ground) (bytes : List ℕ) (at : ℕ) (o : Object) → HoldsTyped g bytes at o → HoldsBy k g bytes at o
untagged-holds Safe n g bytes at o h = h
untagged-holds Seq n g bytes at o h = h
untagged-holds Rtti n g bytes at o h = h
untagged-holds Wild n g bytes at o h = absurd (n refl)

-- no place lies behind the end
pub before-most : (kind : NodeId → Kind) (cs : List Cell) (i : ℕ) → before kind cs i ≤ width_of kind cs
before-most kind [] zero = omega arith
before-most kind [] (suc i) = omega arith
before-most kind (c ∷ cs) zero = omega arith
before-most kind (c ∷ cs) (suc i) = let h : before kind cs i ≤ before kind cs (length cs) = before-most kind cs i in omega arith

pub typed-contents : (kind : NodeId → Kind) (k : Kind) → k ≢ Wild → (o : Outline) (i : ℕ) → before kind o.cells i ≤ contents_size (area_by kind k o.size o.cells)
typed-contents kind Safe n o i = let h : before kind o.cells i ≤ before kind o.cells (length o.cells) = before-most kind o.cells i in omega arith
typed-contents kind Seq n o i = let h : before kind o.cells i ≤ before kind o.cells (length o.cells) = before-most kind o.cells i in omega arith
typed-contents kind Rtti n o i = let h : before kind o.cells i ≤ before kind o.cells (length o.cells) = before-most kind o.cells i in omega arith
typed-contents kind Wild n o i = absurd (n refl)

-- Bytes that agree

pub agree-words : (k : ℕ) (bytes new : List ℕ) (low high p : ℕ) → Agree bytes new low high → low ≤ p → p + 8 * k ≤ high → words_at k new p ≡ words_at k bytes p
agree-words zero bytes new low high p a l h = refl
agree-words (suc k) bytes new low high p a l h =
    ap (λ (n : ℕ). n ∷ words_at k new (p + 8)) (agree-number 8 bytes new low high p a l (omega arith))
    ∙ ap (λ (ws : List ℕ). number 8 bytes p ∷ ws) (agree-words k bytes new low high (p + 8) a (omega arith) (omega arith))

pub words-width : (k : Kind) → 8 * word_number k ≡ kind_width k
words-width Safe = refl
words-width Seq = refl
words-width Rtti = refl
words-width Wild = refl

-- a raw byte and a pointer lie in their object
pub raw-inside : (kind : NodeId → Kind) (cs : List Cell) (i : ℕ) → slice_get cs i ≡ Some raw → before kind cs i + 1 ≤ before kind cs (length cs)
raw-inside kind cs i e =
    let s : before kind cs (suc i) ≡ before kind cs i + 1 = before-suc kind cs i raw e in
    let m : before kind cs (suc i) ≤ before kind cs (length cs) = before-most kind cs (suc i) in omega arith

pub pointer-inside : (kind : NodeId → Kind) (cs : List Cell) (k : ℕ) (n : NodeId) (t : TypeId) → AreOrdered cs → slice_get cs k ≡ Some (pointer n t 0) → before kind cs k + kind_width (kind n) ≤ before kind cs (length cs)
pointer-inside kind cs k n t o e =
    let s : before kind cs (k + 8) ≡ before kind cs k + kind_width (kind n) = before-pointer kind cs k n t o e in
    let m : before kind cs (k + 8) ≤ before kind cs (length cs) = before-most kind cs (k + 8) in omega arith

typed-agree : (g : Ground) (bytes new : List ℕ) (at : ℕ) (o : Object) → Agree bytes new at (at + before g.kind o.cells (length o.cells)) → HoldsTyped g bytes at o → HoldsTyped g new at o
typed-agree g bytes new at o a h = record {
  ordered = h.ordered;
  sized = h.sized;
  integers = λ i e. a.each (at + before g.kind o.cells i) (omega arith) (let k = raw-inside g.kind o.cells i e in omega arith) ∙ h.integers i e;
  pointers = λ i n t e.
      agree-words (word_number (g.kind n)) bytes new at (at + before g.kind o.cells (length o.cells)) (at + before g.kind o.cells i) a (omega arith)
      (let k = pointer-inside g.kind o.cells i n t h.ordered e in let w = words-width (g.kind n) in omega (arith, k, w)) ∙ h.pointers i n t e;
}

word-agree : (g : Ground) (bytes new : List ℕ) (at : ℕ) (o : Object) (k : ℕ) (p : Option Pointer) → k < word_count o.size → Agree bytes new (at - 8) (at + tagged_size o.size) → HoldsWord g bytes at o k p → HoldsWord g new at o k p
unfolding tagged_size
word-agree g bytes new at o k None l a h = (
  ap (λ (n : ℕ). nat_eq (bit_at n (k % 8)) 1) (a.each (tag_byte at o.size k) (omega arith) (omega arith)) ∙ h.0,
  λ i m n. a.each (at + 8 * k + i) (omega arith) (omega arith) ∙ h.1 i m n,
)
word-agree g bytes new at o k (Some p) l a h = (
  ap (λ (n : ℕ). nat_eq (bit_at n (k % 8)) 1) (a.each (tag_byte at o.size k) (omega arith) (omega arith)) ∙ h.0,
  agree-number 8 bytes new (at - 8) (at + tagged_size o.size) (at + 8 * k) a (omega arith) (omega arith) ∙ h.1,
  agree-number 8 bytes new (at - 8) (at + tagged_size o.size) (base_word at o.size k) a (omega arith) (omega arith) ∙ h.2,
)

tagged-agree : (g : Ground) (bytes new : List ℕ) (at : ℕ) (o : Object) → 8 ≤ at → Agree bytes new (at - 8) (at + tagged_size o.size) → HoldsTagged g bytes at o → HoldsTagged g new at o
tagged-agree g bytes new at o above a h = record {
  size = agree-number 8 bytes new (at - 8) (at + tagged_size o.size) (at - 8) a (omega arith) (omega arith) ∙ h.size;
  words = λ k l. word-agree g bytes new at o k (o.pointers (8 * k)) l a (h.words k l);
}

-- an object stays as it is where the bytes of its area stay
pub holds-agree : (k : Kind) (g : Ground) (bytes new : List ℕ) (at : ℕ) (o : Object) → 8 ≤ at → Agree bytes new (at - 8) (at + contents_size (area_by g.kind k o.size o.cells)) → HoldsBy k g bytes at o → HoldsBy k g new at o
holds-agree Safe g bytes new at o above a h = typed-agree g bytes new at o (record { each = λ i l m. a.each i (omega arith) (omega arith) }) h
holds-agree Seq g bytes new at o above a h = typed-agree g bytes new at o (record { each = λ i l m. a.each i (omega arith) (omega arith) }) h
holds-agree Rtti g bytes new at o above a h = typed-agree g bytes new at o (record { each = λ i l m. a.each i (omega arith) (omega arith) }) h
holds-agree Wild g bytes new at o above a h = tagged-agree g bytes new at o above a h
