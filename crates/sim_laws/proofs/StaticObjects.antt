-- What static objects begin with: zeros, or the bytes of a text. They are sound, and bytes that stand in an area hold them.
use Rattle.std.proofs.Common.{◌≡◌, ℕ, zero, suc, ◌+◌, ◌-◌, ◌*◌, ◌/◌, ◌%◌, ◌<◌, ◌≤◌, ◌⊎◌, inl, inr, ⊎_elim, true, List, [], ◌∷◌, ◌++◌, length, replicate, slice_get, slice_index, Option, Some, None, refl, ap, sym, subst, ◌∙◌, arith, nat_eq}
use Rattle.std.specs.Int.{bit_at}
use Rattle.std.specs.List.{repeat}
use Rattle.std.proofs.lemmas.List.{length-append, length-replicate, get_or_past}
use Rattle.std.proofs.lemmas.Option.{slice_get_within}
use Rattle.cc_base.specs.declared.kind.Kind.{Kind}
use Rattle.cc_base.specs.declared.kind.Kind.TheVariants.{Safe, Seq, Rtti, Wild}
use Rattle.cc_base.specs.declared.number.NodeId.{NodeId}
use Rattle.cc_base.specs.declared.number.TypeId.{TypeId}
use Rattle.kind_sites.specs.declared.site.Site.{Site}
use Rattle.c_types.specs.Table.{members_at}
use Rattle.c_types.specs.Layouts.{size_of}
use Rattle.c_types.specs.Cells.{Cell, raw, pointer, AreOrdered, cells_of_shape}
use Rattle.c_types.specs.Equality.{cells_of, physically_equal}
use Rattle.c_types.specs.Widths.{before, width_of}
use Rattle.c_types.proofs.Cells.{cells_are}
use Rattle.type_laws.proofs.Widths.{before-raw, raw_no_pointer}
use Rattle.flat_mem.specs.Bytes.{AreBytes, number}
use Rattle.flat_mem.specs.Placement.{contents_size, first_word, tag_byte, tagged_size, word_count}
use Rattle.flat_mem.proofs.ByteLaws.{number-zeros}
use Rattle.src_mem.specs.Memory.{Object, Planned, new_variable}
use Rattle.src_mem.specs.State.{Setting}
use Rattle.src_mem.specs.Outlines.{Outline, Life, outline, life}
use Rattle.src_mem.specs.Facts.{IsSoundObject}
use Rattle.src_mem.specs.Runs.{static_from}
use Rattle.facts_kept.proofs.Complete.{complete-some}
use Rattle.cil_form.specs.declared.program.Static.{Static}
use Rattle.cil_form.specs.declared.program.Program.{Program}
use Rattle.cil_form.specs.Machine.{plan, setting_of}
use Rattle.cil_form.specs.Shape.{IsInShape, IsStaticInShape, IsText}
use Rattle.cil_form.specs.Sites.{Each}
use Rattle.sim_relation.specs.Ground.{Ground}
use Rattle.sim_relation.specs.Objects.{HoldsTyped, HoldsTagged, HoldsWord, HoldsBy, area_by}
use Rattle.sim_memory.proofs.Blocks.{index-zero}
use Rattle.sim_memory.proofs.Zeros.{zeros-hold}
use Rattle.cure_rules.specs.Programs.{IsFirstOf}

-- Lists of bytes and of raw cells

index-padded : (xs : List ℕ) (n i : ℕ) → slice_index (xs ++ replicate n 0) i ≡ slice_index xs i
index-padded [] n i = index-zero n i
index-padded (x ∷ xs) n zero = refl
index-padded (x ∷ xs) n (suc i) = index-padded xs n i

text-bytes : (xs : List ℕ) → Each (λ b. b < 256) xs → (i : ℕ) → slice_index xs i < 256
text-bytes [] h i = omega arith
text-bytes (x ∷ xs) h zero = h.0
text-bytes (x ∷ xs) h (suc i) = text-bytes xs h.1 i

raw-there : (n i : ℕ) → i < n → slice_get (replicate n raw) i ≡ Some raw
raw-there zero i h = absurd (omega (arith, h))
raw-there (suc n) zero h = refl
raw-there (suc n) (suc i) h = raw-there n i (omega (arith, h))

raw-repeated : (n : ℕ) → repeat n (raw ∷ []) ≡ replicate n raw
raw-repeated zero = refl
raw-repeated (suc n) = ap (λ (cs : List Cell). raw ∷ cs) (raw-repeated n)

raw-alone : (cells : List Cell) (n i : ℕ) (m : NodeId) (t : TypeId) → cells ≡ replicate n raw → slice_get cells i ≡ Some (pointer m t 0) → ⊥
raw-alone cells n i m t is e =
    let f : slice_get (replicate n raw) i ≡ Some (pointer m t 0) = ap (λ (cs : List Cell). slice_get cs i) (sym is) ∙ e in
    let l = slice_get_within (replicate n raw) i (pointer m t 0) f in let k = length-replicate n raw in
    raw_no_pointer (replicate n raw) i 0 m t (raw-there n i (omega (arith, l, k))) f

raw-before : (kind : NodeId → Kind) (cells : List Cell) (n i : ℕ) → cells ≡ replicate n raw → i ≤ n → before kind cells i ≡ i
raw-before kind cells n i is h =
    let none : 0 + i ≡ i = omega arith in
    let r : before kind cells (0 + i) ≡ 0 + i = before-raw kind cells 0 i (record { each = λ j l. ap (λ (cs : List Cell). slice_get cs (0 + j)) is ∙ raw-there n (0 + j) (omega (arith, l, h)) }) in
    ap (before kind cells) (sym none) ∙ r ∙ none

-- An object begins as a variable of its type is made, but for its bytes, which are these and zeros behind them: there are none, or the object has
-- no pointers.
pub record Begins (w : Setting) (v : Planned) (x : Object) (first : List ℕ) : Type 0 where
  pub outlined : outline x ≡ outline (new_variable w.table 0 v)
  pub lives : life x ≡ record { depth = 0; live = true }
  pub none : (i : ℕ) → x.pointers i ≡ None
  pub bytes : (i : ℕ) → slice_index x.bytes i ≡ slice_index first i
  pub sized : length x.bytes ≡ x.size
  pub fit : length first ≤ x.size
  pub are : AreBytes first
  pub form : (first ≡ []) ⊎ (x.cells ≡ replicate x.size raw)

pub static-begins : (p : Program) (kind : NodeId → Kind) → IsInShape p → (o : Static) (first : List ℕ) → IsStaticInShape p o → IsFirstOf o.text first
    → Begins (setting_of p kind) (plan o.planned) (static_from (setting_of p kind) o.planned.ty o.planned.home o.text) first
static-begins p kind shaped o first static is = by o.text static.text is
  where
    by : (text : Option (List ℕ)) → IsText p.types o.planned.ty text → IsFirstOf text first
        → Begins (setting_of p kind) (plan o.planned) (static_from (setting_of p kind) o.planned.ty o.planned.home text) first
    by None h e = record {
      outlined = refl;
      lives = refl;
      none = λ i. refl;
      bytes = λ i. index-zero (size_of p.types o.planned.ty) i ∙ sym (ap (λ (xs : List ℕ). slice_index xs i) e);
      sized = length-replicate (size_of p.types o.planned.ty) 0;
      fit = (let l = ap (λ (xs : List ℕ). length xs) e in omega (arith, l));
      are = subst AreBytes (sym e) (record { below = λ i. omega arith });
      form = inl e;
    }
    by (Some text) h (n, padded, last) = record {
      outlined = ap (λ (cs : List Cell). record { depth = 0; node = o.planned.home; size = length text; cells = cs }) (sym cells)
          ∙ ap (λ (m : ℕ). record { depth = 0; node = o.planned.home; size = m; cells = cells_of p.types o.planned.ty }) size;
      lives = refl;
      none = λ i. refl;
      bytes = λ i. at i;
      sized = refl;
      fit = (let l = ap (λ (xs : List ℕ). length xs) padded in let m = length-append first (replicate n 0) in omega (arith, l, m));
      are = record { below = λ i. subst (λ (b : ℕ). b < 256) (at i) (text-bytes text h.6 i) };
      form = inr refl;
    }
      where
        at : (i : ℕ) → slice_index text i ≡ slice_index first i
        at i = ap (λ (xs : List ℕ). slice_index xs i) padded ∙ index-padded first n i

        element : cells_of p.types h.0 ≡ raw ∷ []
        element = cells_are p.types shaped.formed.order.0 shaped.formed.order.1 (physically_equal p.types) h.0
            ∙ ap (λ s. cells_of_shape p.types (physically_equal p.types) (cells_of p.types) h.0 s (members_at p.types h.0)) h.4.1

        cells : cells_of p.types o.planned.ty ≡ replicate (length text) raw
        cells = cells_are p.types shaped.formed.order.0 shaped.formed.order.1 (physically_equal p.types) o.planned.ty
            ∙ ap (λ s. cells_of_shape p.types (physically_equal p.types) (cells_of p.types) o.planned.ty s (members_at p.types o.planned.ty)) h.3.1
            ∙ ap (λ (cs : List Cell). repeat h.1 cs) element ∙ raw-repeated h.1 ∙ ap (λ (m : ℕ). replicate m raw) (sym h.5)

        size : length text ≡ size_of p.types o.planned.ty
        size = sym (length-replicate (length text) raw) ∙ ap (λ (cs : List Cell). length cs) (sym cells)
            ∙ (complete-some p.types shaped.formed o.planned.ty static.planned.1.1).1

module _ (w : Setting) (v : Planned) (x : Object) (first : List ℕ) (begins : Begins w v x first) where
  pub begins-sound : (sites : List Site) (outlines : List Outline) (lives : List Life) → IsSoundObject w sites outlines lives x
  begins-sound sites outlines lives = record {
    sized = begins.sized;
    bytes = record { below = λ i. subst (λ (b : ℕ). b < 256) (sym (begins.bytes i)) (begins.are.below i) };
    typed = λ a k q e. absurd (let n = begins.none k in cc (n, e));
    tagged = λ a k q e. absurd (let n = begins.none k in cc (n, e));
    under = λ k q e. absurd (let n = begins.none k in cc (n, e));
    zeros = λ a k n t e. ⊎_elim
        (λ f. number-zeros 8 x.bytes k (λ i l. begins.bytes (k + i) ∙ ap (λ (xs : List ℕ). slice_index xs (k + i)) f))
        (λ f. absurd (raw-alone x.cells x.size k n t f e)) begins.form;
    reaches = λ k q e. absurd (let n = begins.none k in cc (n, e));
    made = λ k q e. absurd (let n = begins.none k in cc (n, e));
  }

  module _ (g : Ground) (bytes : List ℕ) (at : ℕ) (ordered : AreOrdered x.cells) (celled : length x.cells ≡ x.size) where
    begins-typed : ((i : ℕ) → i < width_of g.kind x.cells → slice_index bytes (at + i) ≡ slice_index first i) → HoldsTyped g bytes at x
    begins-typed held = ⊎_elim
        (λ f. zeros-hold g bytes at x ordered (begins.sized ∙ sym celled) (λ i l. held i l ∙ ap (λ (xs : List ℕ). slice_index xs i) f)
        (λ i l. begins.bytes i ∙ ap (λ (xs : List ℕ). slice_index xs i) f) begins.none)
        (λ f. record {
          ordered = ordered;
          sized = begins.sized ∙ sym celled;
          integers = λ i e.
              let l = slice_get_within x.cells i raw e in
              ap (λ (n : ℕ). slice_index bytes (at + n)) (raw-before g.kind x.cells x.size i f (omega (arith, l, celled)))
              ∙ held i (let k = raw-before g.kind x.cells x.size (length x.cells) f (omega (arith, celled)) in omega (arith, l, k)) ∙ sym (begins.bytes i);
          pointers = λ i n t e. absurd (raw-alone x.cells x.size i n t f e);
        }) begins.form

    begins-word : (k : ℕ) → k < word_count x.size → ((i : ℕ) → i < tagged_size x.size → slice_index bytes (at + i) ≡ slice_index first i)
        → HoldsWord g bytes at x k None
    unfolding tagged_size
    begins-word k h held = (
      (let e : tag_byte at x.size k ≡ at + (16 * word_count x.size + k / 8) = omega arith in
          let z : slice_index bytes (tag_byte at x.size k) ≡ 0 = ap (slice_index bytes) e ∙ held (16 * word_count x.size + k / 8) (omega (arith, h))
          ∙ sym (begins.bytes (16 * word_count x.size + k / 8))
          ∙ get_or_past x.bytes (16 * word_count x.size + k / 8) 0 (let s = begins.sized in omega (arith, s)) in
          ap (λ (n : ℕ). nat_eq (bit_at n (k % 8)) 1) z ∙ ap (λ (n : ℕ). nat_eq n 1) (bit-zero (k % 8) (omega arith))),
      λ i l m. (let e : at + 8 * k + i ≡ at + (8 * k + i) = omega arith in
          ap (slice_index bytes) e ∙ held (8 * k + i) (omega (arith, h, l)) ∙ sym (begins.bytes (8 * k + i))),
    )
      where
        bit-zero : (k : ℕ) → k < 8 → bit_at 0 k ≡ 0
        bit-zero k h = omega (arith, h)

    begins-tagged : number 8 bytes (at - 8) ≡ x.size → ((i : ℕ) → i < tagged_size x.size → slice_index bytes (at + i) ≡ slice_index first i) → HoldsTagged g bytes at x
    begins-tagged size held = record {
      size = size;
      words = λ k h. subst (λ (o : Option _). HoldsWord g bytes at x k o) (sym (begins.none (8 * k))) (begins-word k h held);
    }

    -- bytes of its area that are these hold it
    pub begins-held : (kind : Kind) → number 8 bytes (at - 8) ≡ first_word (area_by g.kind kind x.size x.cells)
        → ((i : ℕ) → i < contents_size (area_by g.kind kind x.size x.cells) → slice_index bytes (at + i) ≡ slice_index first i) → HoldsBy kind g bytes at x
    begins-held Safe size held = begins-typed (λ i l. held i (omega (arith, l)))
    begins-held Seq size held = begins-typed (λ i l. held i (omega (arith, l)))
    begins-held Rtti size held = begins-typed (λ i l. held i (omega (arith, l)))
    begins-held Wild size held = begins-tagged size held

  raw-width : (kind : NodeId → Kind) → length x.cells ≡ x.size → length first ≤ width_of kind x.cells
  raw-width kind celled = ⊎_elim (λ f. let l = ap (λ (xs : List ℕ). length xs) f in omega (arith, l))
      (λ f. let k = raw-before kind x.cells x.size (length x.cells) f (omega (arith, celled)) in let l = begins.fit in omega (arith, k, l, celled)) begins.form

  -- they find room in its area
  pub begins-room : (kind : NodeId → Kind) (k : Kind) → length x.cells ≡ x.size → length first ≤ contents_size (area_by kind k x.size x.cells)
  unfolding tagged_size
  begins-room kind Safe celled = let l = raw-width kind celled in omega (arith, l)
  begins-room kind Seq celled = let l = raw-width kind celled in omega (arith, l)
  begins-room kind Rtti celled = let l = raw-width kind celled in omega (arith, l)
  begins-room kind Wild celled = let l = begins.fit in omega (arith, l)
