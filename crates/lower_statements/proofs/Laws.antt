-- How drafts grow by blocks, loops and items.
use Rattle.std.proofs.Common.{◌≡◌, ap, sym, subst, ◌∙◌, ◌+◌, ◌<◌, take, get_or, length, ℕ, true, List, [], ◌∷◌, ◌++◌}
use Rattle.c_tree.specs.TypedTree as typed
use Rattle.c_tree.specs.TypedStatementViews.{typed_block_item_view, typed_block_view}
use Rattle.c_tree.specs.declared.typed_statement.TypedBlockItem.{TypedBlockItem}
use Rattle.cil_form.specs.declared.instr.Instr.TheVariants as instr
use Rattle.lower_rules.specs.Pieces.{Form, Line, Blocked, Looped, When}
use Rattle.lower_rules.specs.Words.{Context}
use Rattle.lower_rules.specs.Statements.{IsCodeOfBlock, Nesting}
use Rattle.lower_exprs.specs.declared.draft.Draft.{Draft}
use Rattle.lower_exprs.specs.Drafts.{Grows, Starts}
use Rattle.c_tree.proofs.ListLaws.{one_more}
use Rattle.lower_statements.specs.Ready.{HasCodeOfBlock}

-- Blocks and loops. The draft of what is in them begins empty.

made : (P : Form) (R : Type 0) (s d : Draft) → Starts s → Grows P R s d → d.fine ≡ true → P d.items.items
unfolding Grows Starts
made P R s d empty f fine = let p = (f.0 fine).1 in subst P (sym (p.2 ∙ ap (λ z. z ++ p.0) empty.0)) p.1

stays : (P : Form) (R : Type 0) (s d : Draft) → Starts s → Grows P R s d → R → d.ready ≡ true
unfolding Grows Starts
stays P R s d empty f r = f.1 r empty.1

pub grows_blocked : (P : Form) (R : Type 0) (s d a b : Draft)
    → Grows (When (d.fine ≡ true) (Line (instr.Block (record { 0 = d.items }) ∷ []))) (d.ready ≡ true) a b
    → Starts s → Grows P R s d → Grows (Blocked P) R a b
unfolding Grows Blocked When Line
grows_blocked P R s d a b h es f = (
  λ fine.
      let q = h.0 fine in (q.0, (q.1.0, (record { 0 = d.items }, made P R s d es f q.1.1.0, q.1.1.1), q.1.2)),
  λ r e. h.1 (stays P R s d es f r) e,
)

pub grows_looped : (P : Form) (R : Type 0) (s d a b : Draft)
    → Grows (When (d.fine ≡ true) (Line (instr.Loop (record { 0 = d.items }) ∷ []))) (d.ready ≡ true) a b
    → Starts s → Grows P R s d → Grows (Looped P) R a b
unfolding Grows Looped When Line
grows_looped P R s d a b h es f = (
  λ fine.
      let q = h.0 fine in (q.0, (q.1.0, (record { 0 = d.items }, made P R s d es f q.1.1.0, q.1.1.1), q.1.2)),
  λ r e. h.1 (stays P R s d es f r) e,
)

-- one item more

pub more_block : (items : List TypedBlockItem) (i : ℕ) (item : TypedBlockItem) (k : Context) (v : Nesting) (a c : Draft)
    → i < length items → item ≡ get_or items i item
    → Grows (IsCodeOfBlock (typed_block_item_view item (typed_block_view (take i items))) k v)
    (HasCodeOfBlock (typed_block_item_view item (typed_block_view (take i items))) k v) a c
    → Grows (IsCodeOfBlock (typed_block_view (take (i + 1) items)) k v) (HasCodeOfBlock (typed_block_view (take (i + 1) items)) k v) a c
more_block items i item k v a c within at f =
    let law : typed_block_view (take (i + 1) items) ≡ typed_block_item_view item (typed_block_view (take i items))
    = one_more typed_block_item_view items i item within at typed.NoBlockItem in
    subst (λ all. Grows (IsCodeOfBlock all k v) (HasCodeOfBlock all k v) a c) (sym law) f
