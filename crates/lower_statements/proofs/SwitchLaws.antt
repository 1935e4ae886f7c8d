-- The laws of the code of a `switch`.
use Rattle.std.proofs.Common.{◌≡◌, ap, sym, subst, ◌∙◌, zero, ◌+◌, ◌-◌, ◌<◌, ◌≤◌, take, get_or, length, min, arith, ℕ, ℤ, suc, true, List, [], ◌++◌, append-nil, append_assoc, refl}
use Rattle.std.proofs.Math.Seq.{take-length}
use Rattle.cc_base.specs.declared.number.TypeId.{TypeId}
use Rattle.cc_base.specs.declared.place.Place.{Place}
use Rattle.c_tree.specs.TypedTree as typed
use Rattle.c_tree.specs.TypedTree.{TypedBlockItems, TypedExpr, TypedStatement, TypedDeclaration}
use Rattle.c_tree.specs.TypedStatementViews.{typed_block_item_view, typed_block_view}
use Rattle.c_tree.specs.declared.typed_statement.TypedBlockItem.{TypedBlockItem}
use Rattle.c_tree.specs.declared.typed_statement.TypedBlockItem.TheVariants as item
use Rattle.c_tree.proofs.TypedStatementViewLaws.{typed_block_item-Statement, typed_block_item-Declaration, typed_block_item-Case, typed_block_item-Default}
use Rattle.src_machine.specs.Statements.{labels}
use Rattle.cil_form.specs.declared.instr.Instr.{Instr}
use Rattle.lower_rules.specs.Pieces.{Choice, Form, Line, Then, When}
use Rattle.lower_rules.specs.Words.{Context, value}
use Rattle.lower_rules.specs.Initialisers.{IsCodeOfDeclaration}
use Rattle.lower_rules.specs.Statements.{Guarded, IsCodeOfPieces, IsCodeOfStatement, IsCodeOfTests, Nesting, guard_code, in_switch}
use Rattle.lower_exprs.specs.declared.draft.Draft.{Draft}
use Rattle.lower_exprs.specs.Drafts.{AreBothReady, Chosen as ChosenOf, Grows, Starts}
use Rattle.lower_exprs.proofs.Laws.{grows_nothing, grows_of}
use Rattle.lower_initialisers.specs.Ready.{HasCodeOfDeclaration}
use Rattle.lower_statements.specs.Ready.{HasCodeOfStatement, HasPieces}
use Rattle.lower_statements.specs.Switches.{AreLabels, Chosen, GrowsInPieces, Guards, Nests, Pieces, Tested, capped, equal_code}
use Rattle.lower_statements.specs.declared.switching.Labels.{Labels}
use Rattle.c_tree.proofs.ListLaws.{one_more, with_next}

-- where something holds, before what else is appended
pub grows_where : (A R : Type 0) (P : Form) (a b c : Draft) → Grows (When A (Line [])) (Unit {0}) a b → Grows P R b c → Grows (When A P) R a c
unfolding Grows When Line
grows_where A R P a b c f g = (
  λ fine.
      let q = g.0 fine in let p = f.0 q.0 in
      (p.0, (q.1.0, (p.1.1.0, q.1.1), q.1.2 ∙ ap (λ m. m ++ q.1.0) (p.1.2 ∙ ap (λ m. a.items.items ++ m) p.1.1.1 ∙ append-nil a.items.items))),
  λ r e. g.1 r (f.1 tt e),
)

-- code behind two pieces
grows_behind : (A B P : Form) (R S : Type 0) (a b c : Draft) → Grows (Then A B) R a b → Grows P S b c → Grows (Then A (Then B P)) (R × S) a c
unfolding Grows Then
grows_behind A B P R S a b c f g = (
  λ fine.
      let q = g.0 fine in let p = f.0 q.0 in let d = p.1.1 in (
        p.0,
        (
          p.1.0 ++ q.1.0,
          (d.0, d.1 ++ q.1.0, d.2, (d.1, q.1.0, d.3, q.1.1, refl), ap (λ m. m ++ q.1.0) d.4 ∙ append_assoc d.0 d.1 q.1.0),
          q.1.2 ∙ ap (λ m. m ++ q.1.0) p.1.2 ∙ append_assoc a.items.items p.1.0 q.1.0,
        ),
      ),
  λ r e. g.1 r.1 (f.1 r.0 e),
)

-- The choice of a label, from the last item to the first

grows_after_nothing : (P : Form) (a b c : Draft) → Grows (Line []) (Unit {0}) a b → Grows P (Unit {0}) b c → Grows P (Unit {0}) a c
unfolding Grows Line
grows_after_nothing P a b c f g = (
  λ fine.
      let q = g.0 fine in let p = f.0 q.0 in
      (p.0, (q.1.0, q.1.1, q.1.2 ∙ ap (λ m. m ++ q.1.0) (p.1.2 ∙ ap (λ m. a.items.items ++ m) p.1.1 ∙ append-nil a.items.items))),
  λ r e. g.1 tt (f.1 tt e),
)

one_test : (x : TypedBlockItem) (all : TypedBlockItems) (label n : ℕ) (t : TypeId) (at : Place) (a b c : Draft)
    → label ≡ labels (typed_block_item_view x all) → Grows (Tested x label n t at) (Unit {0}) a b → Grows (IsCodeOfTests all n t at) (Unit {0}) b c
    → Grows (IsCodeOfTests (typed_block_item_view x all) n t at) (Unit {0}) a c
unfolding Tested
one_test (item.Statement s) all label n t at a b c same f g = rw typed_block_item-Statement (grows_after_nothing _ a b c f g)
one_test (item.Declaration d) all label n t at a b c same f g = rw typed_block_item-Declaration (grows_after_nothing _ a b c f g)
one_test (item.Default place) all label n t at a b c same f g = rw typed_block_item-Default (grows_after_nothing _ a b c f g)
one_test (item.Case place e z) all label n t at a b c same f g =
    let number : label ≡ suc (labels all) = same ∙ ap (λ step. labels (step all)) (typed_block_item-Case place e z) in
    rw typed_block_item-Case (tested-case z all n t at a b c (subst (λ m. Grows (Then (Line (equal_code z t at)) (Chosen n m)) (Unit {0}) a b) number f) g)
  where
    tested-case : (z : ℤ) (all : TypedBlockItems) (n : ℕ) (t : TypeId) (at : Place) (a b c : Draft)
        → Grows (Then (Line (equal_code z t at)) (Chosen n (suc (labels all)))) (Unit {0}) a b → Grows (IsCodeOfTests all n t at) (Unit {0}) b c
        → Grows (Then (Line (equal_code z t at)) (Then (Chosen n (suc (labels all))) (IsCodeOfTests all n t at))) (Unit {0}) a c
    tested-case z all n t at a b c f g = grows_of _ _ (Unit {0} × Unit {0}) _ _ (λ r. (tt, tt)) (grows_behind _ _ _ _ _ a b c f g)

last_item : (xs : List TypedBlockItem) (i : ℕ) (x : TypedBlockItem) → 0 < i → i < suc (length xs) → x ≡ get_or xs (i - 1) x
    → typed_block_view (take i xs) ≡ typed_block_item_view x (typed_block_view (take (i - 1) xs))
last_item xs zero x some within at = absurd (omega arith)
last_item xs (suc i) x some within at =
    let number : suc i - 1 ≡ i = omega arith in
    rw number (with_next typed_block_item_view xs i x (omega arith) (at ∙ ap (λ j. get_or xs j x) number) typed.NoBlockItem)

pub tests_all : (xs : List TypedBlockItem) (n : ℕ) (t : TypeId) (at : Place) (a c : Draft)
    → Grows (IsCodeOfTests (typed_block_view (take (length xs) xs)) n t at) (Unit {0}) a c
    → Grows (IsCodeOfTests (typed_block_view xs) n t at) (Unit {0}) a c
tests_all xs n t at a c f = subst (λ z. Grows (IsCodeOfTests (typed_block_view z) n t at) (Unit {0}) a c) (take-length xs) f

pub next_test : (xs : List TypedBlockItem) (i : ℕ) (x : TypedBlockItem) (label n : ℕ) (t : TypeId) (at : Place) (a b c : Draft)
    → 0 < i → i < suc (length xs) → x ≡ get_or xs (i - 1) x → label ≡ labels (typed_block_view (take i xs))
    → Grows (Tested x label n t at) (Unit {0}) a b
    → Grows (IsCodeOfTests (typed_block_view (take (i - 1) xs)) n t at) (Unit {0}) b c
    → Grows (IsCodeOfTests (typed_block_view (take i xs)) n t at) (Unit {0}) a c
next_test xs i x label n t at a b c some within e same f g =
    let law = last_item xs i x some within e in
    subst (λ z. Grows (IsCodeOfTests z n t at) (Unit {0}) a c) (sym law)
    (one_test x (typed_block_view (take (i - 1) xs)) label n t at a b c (same ∙ ap labels law) f g)

pub next_label : (xs : List TypedBlockItem) (i : ℕ) (x : TypedBlockItem) (label new : ℕ)
    → 0 < i → i < suc (length xs) → x ≡ get_or xs (i - 1) x → label ≡ labels (typed_block_view (take i xs))
    → ((all : TypedBlockItems) → label ≡ labels (typed_block_item_view x all) → new ≡ labels all)
    → new ≡ labels (typed_block_view (take (i - 1) xs))
next_label xs i x label new some within e same f =
    f (typed_block_view (take (i - 1) xs)) (same ∙ ap labels (last_item xs i x some within e))

pub no_test : (xs : List TypedBlockItem) (i n : ℕ) (t : TypeId) (at : Place) (a : Draft) → i ≤ 0
    → Grows (IsCodeOfTests (typed_block_view (take i xs)) n t at) (Unit {0}) a a
no_test xs zero n t at a none = grows_nothing _ a
no_test xs (suc i) n t at a none = absurd (omega arith)

pub more_number : (items : List TypedBlockItem) (i : ℕ) (item : TypedBlockItem) (n : ℕ) → i < length items → item ≡ get_or items i item
    → n ≡ labels (typed_block_item_view item (typed_block_view (take i items))) → n ≡ labels (typed_block_view (take (i + 1) items))
more_number items i item n within e same =
    let law : typed_block_view (take (i + 1) items) ≡ typed_block_item_view item (typed_block_view (take i items))
    = one_more typed_block_item_view items i item within e typed.NoBlockItem in
    same ∙ ap labels (sym law)

pub one_label : (a b : ℕ) → a ≡ b → a + 1 ≡ suc b
one_label a b same = omega arith

pub more_labels : (items : List TypedBlockItem) (i : ℕ) (item : TypedBlockItem) (l m : Labels) → i < length items → item ≡ get_or items i item
    → AreLabels (typed_block_view (take i items)) l → ((all : TypedBlockItems) → AreLabels all l → AreLabels (typed_block_item_view item all) m)
    → AreLabels (typed_block_view (take (i + 1) items)) m
more_labels items i item l m within e made f =
    let law : typed_block_view (take (i + 1) items) ≡ typed_block_item_view item (typed_block_view (take i items))
    = one_more typed_block_item_view items i item within e typed.NoBlockItem in
    subst (λ all. AreLabels all m) (sym law) (f (typed_block_view (take i items)) made)

-- Pieces

pub grows_piece : (label n : ℕ) (at : Place) (piece other a b c : Draft)
    → Grows (Line (guard_code label n at)) (Unit {0}) a b
    → Grows (ChosenOf (value 0) piece other) (AreBothReady piece other) b c → Starts other
    → Grows (Guards label n at piece) (piece.ready ≡ true) a c
unfolding Grows Guards ChosenOf Starts Line Then Choice When
grows_piece label n at piece other a b c f g empty = (
  λ fine.
      let q = g.0 fine in let p = f.0 q.0 in let d = q.1.1 in let h = d.2 in (
        p.0,
        (
          p.1.0 ++ q.1.0,
          (d.0, (p.1.0, q.1.0, p.1.1, (h.0, h.1, h.2, h.3 ∙ empty.0, h.4), refl)),
          q.1.2 ∙ ap (λ m. m ++ q.1.0) p.1.2 ∙ append_assoc a.items.items p.1.0 q.1.0,
        ),
      ),
  λ r e. g.1 (r, empty.1) (f.1 tt e),
)

pub pieces_begun : (k : Context) (v : Nesting) (at : Place) (R : Type 0) (a d : Draft) → Starts d → GrowsInPieces typed.NoBlockItem k v at R a a d
unfolding GrowsInPieces Starts Line
pieces_begun k v at R a d empty = (λ fine whole. (fine, ([], (refl, empty.0), sym (append-nil a.items.items))), λ r e. (e, empty.1))

pieces_grown : (all more : TypedBlockItems) (k : Context) (v : Nesting) (at : Place) (P : Form) (R S Q : Type 0) (a c d e : Draft)
    → ((closed x y : List Instr) → IsCodeOfPieces all k v at closed x → P y → IsCodeOfPieces more k v at closed (x ++ y))
    → (Q → R × S) → GrowsInPieces all k v at R a c d → Grows P S d e → GrowsInPieces more k v at Q a c e
unfolding GrowsInPieces Grows
pieces_grown all more k v at P R S Q a c d e add parts f g = (
  λ fine whole.
      let q = g.0 whole in let p = f.0 fine q.0 in
      (p.0, (p.1.0, subst (λ m. IsCodeOfPieces more k v at p.1.0 m) (sym q.1.2) (add p.1.0 d.items.items q.1.0 p.1.1 q.1.1), p.1.2)),
  λ r z. let s = parts r in let y = f.1 s.0 z in (y.0, g.1 s.1 y.1),
)

capped-is : (v : Nesting) → Nests v → capped v ≡ in_switch v
unfolding capped
capped-is v h =
    let continues : min (suc v.continues) 4294967295 ≡ suc v.continues = grind (arith, h.0) in
    let switches : min (suc v.switches) 255 ≡ suc v.switches = grind (arith, h.1) in
    ap (λ m. record { breaks = 0; continues = m; switches = min (suc v.switches) 255 }) continues
    ∙ ap (λ m. record { breaks = 0; continues = suc v.continues; switches = m }) switches

inside : (s : TypedStatement) (k : Context) (v w : Nesting) (a b c : Draft) → Grows (When (Nests v) (Line [])) (Nests v) a b → w ≡ capped v
    → Grows (IsCodeOfStatement s k w) (HasCodeOfStatement s k w) b c
    → Grows (IsCodeOfStatement s k (in_switch v)) (Nests v × HasCodeOfStatement s k (in_switch v)) a c
unfolding Grows When Line
inside s k v w a b c f same g = (
  λ fine.
      let q = g.0 fine in let p = f.0 q.0 in (
        p.0,
        (
          q.1.0,
          subst (λ z. IsCodeOfStatement s k z q.1.0) (same ∙ capped-is v p.1.1.0) q.1.1,
          q.1.2 ∙ ap (λ m. m ++ q.1.0) (p.1.2 ∙ ap (λ m. a.items.items ++ m) p.1.1.1 ∙ append-nil a.items.items),
        ),
      ),
  λ r e. g.1 (subst (HasCodeOfStatement s k) (sym (same ∙ capped-is v r.0)) r.1) (f.1 r.0 e),
)

pub pieces_statement : (all : TypedBlockItems) (s : TypedStatement) (k : Context) (v w : Nesting) (at : Place) (a c d e f : Draft)
    → GrowsInPieces all k v at (HasPieces all k v) a c d → Grows (When (Nests v) (Line [])) (Nests v) d e → w ≡ capped v
    → Grows (IsCodeOfStatement s k w) (HasCodeOfStatement s k w) e f
    → GrowsInPieces (typed.AndStatement all s) k v at (HasPieces (typed.AndStatement all s) k v) a c f
unfolding Then Line
pieces_statement all s k v w at a c d e f made room same more =
    pieces_grown all (typed.AndStatement all s) k v at (IsCodeOfStatement s k (in_switch v)) _ _ _ a c d f
    (λ closed x y h p. (x, h, (x, y, refl, p, refl)))
    (λ r. ((r.0, r.1.0), (r.0, r.1.1))) made (inside s k v w d e f room same more)

pub pieces_declaration : (all : TypedBlockItems) (s : TypedDeclaration) (k : Context) (v : Nesting) (at : Place) (a c d e : Draft)
    → GrowsInPieces all k v at (HasPieces all k v) a c d
    → Grows (IsCodeOfDeclaration s k) (HasCodeOfDeclaration s k) d e
    → GrowsInPieces (typed.AndDeclaration all s) k v at (HasPieces (typed.AndDeclaration all s) k v) a c e
unfolding Then Line
pieces_declaration all s k v at a c d e made more =
    pieces_grown all (typed.AndDeclaration all s) k v at (IsCodeOfDeclaration s k) _ _ _ a c d e
    (λ closed x y h p. (x, h, (x, y, refl, p, refl)))
    (λ r. ((r.0, r.1.0), r.1.1)) made more

pieces_closed : (all more : TypedBlockItems) (label : ℕ) (k : Context) (v : Nesting) (at : Place) (R : Type 0) (a c d e f : Draft)
    → ((closed x code last : List Instr) → IsCodeOfPieces all k v at closed x → Guarded (labels all) v.switches at (Line x) code → last ≡ []
    → IsCodeOfPieces more k v at (closed ++ code) last)
    → label ≡ labels all → GrowsInPieces all k v at R a c d → Grows (Guards label v.switches at d) (d.ready ≡ true) c e → Starts f
    → GrowsInPieces more k v at R a e f
unfolding GrowsInPieces Grows Guards When Starts
pieces_closed all more label k v at R a c d e f add same made more_code empty = (
  λ fine whole.
      let q = more_code.0 fine in let p = made.0 q.0 q.1.1.0 in (
        p.0,
        (
          p.1.0 ++ q.1.0,
          add p.1.0 d.items.items q.1.0 f.items.items p.1.1
              (subst (λ n. Guarded n v.switches at (Line d.items.items) q.1.0) same q.1.1.1) empty.0,
          q.1.2 ∙ ap (λ m. m ++ q.1.0) p.1.2 ∙ append_assoc a.items.items p.1.0 q.1.0,
        ),
      ),
  λ r z. let y = made.1 r z in (more_code.1 y.1 y.0, empty.1),
)

pub pieces_case : (all : TypedBlockItems) (place : Place) (x : TypedExpr) (z : ℤ) (label : ℕ) (k : Context) (v : Nesting) (at : Place) (a c d e f : Draft)
    → label ≡ labels all → GrowsInPieces all k v at (HasPieces all k v) a c d → Grows (Guards label v.switches at d) (d.ready ≡ true) c e → Starts f
    → GrowsInPieces (typed.AndCase all place x z) k v at (HasPieces (typed.AndCase all place x z) k v) a e f
unfolding Then Line
pieces_case all place x z label k v at a c d e f same made more empty =
    pieces_closed all (typed.AndCase all place x z) label k v at _ a c d e f
    (λ closed y code last h g nothing. (closed, y, h, (closed, code, refl, g, refl), nothing)) same made more empty

pub pieces_default : (all : TypedBlockItems) (place : Place) (label : ℕ) (k : Context) (v : Nesting) (at : Place) (a c d e f : Draft)
    → label ≡ labels all → GrowsInPieces all k v at (HasPieces all k v) a c d → Grows (Guards label v.switches at d) (d.ready ≡ true) c e → Starts f
    → GrowsInPieces (typed.AndDefault all place) k v at (HasPieces (typed.AndDefault all place) k v) a e f
unfolding Then Line
pieces_default all place label k v at a c d e f same made more empty =
    pieces_closed all (typed.AndDefault all place) label k v at _ a c d e f
    (λ closed y code last h g nothing. (closed, y, h, (closed, code, refl, g, refl), nothing)) same made more empty

pub pieces_done : (all : TypedBlockItems) (label : ℕ) (k : Context) (v : Nesting) (at : Place) (R : Type 0) (a c d e : Draft)
    → label ≡ labels all → GrowsInPieces all k v at R a c d → Grows (Guards label v.switches at d) (d.ready ≡ true) c e
    → Grows (Pieces all k v at) R a e
unfolding GrowsInPieces Grows Guards Pieces When Then Line
pieces_done all label k v at R a c d e same made more = (
  λ fine.
      let q = more.0 fine in let p = made.0 q.0 q.1.1.0 in (
        p.0,
        (
          p.1.0 ++ q.1.0,
          (
            p.1.0,
            d.items.items,
            p.1.1,
            (p.1.0, q.1.0, refl, subst (λ n. Guarded n v.switches at (Line d.items.items) q.1.0) same q.1.1.1, refl),
          ),
          q.1.2 ∙ ap (λ m. m ++ q.1.0) p.1.2 ∙ append_assoc a.items.items p.1.0 q.1.0,
        ),
      ),
  λ r z. let y = made.1 r z in more.1 y.1 y.0,
)

pub more_pieces : (items : List TypedBlockItem) (i : ℕ) (item : TypedBlockItem) (k : Context) (v : Nesting) (at : Place) (a c d : Draft)
    → i < length items → item ≡ get_or items i item
    → GrowsInPieces (typed_block_item_view item (typed_block_view (take i items))) k v at
    (HasPieces (typed_block_item_view item (typed_block_view (take i items))) k v) a c d
    → GrowsInPieces (typed_block_view (take (i + 1) items)) k v at (HasPieces (typed_block_view (take (i + 1) items)) k v) a c d
more_pieces items i item k v at a c d within e f =
    let law : typed_block_view (take (i + 1) items) ≡ typed_block_item_view item (typed_block_view (take i items))
    = one_more typed_block_item_view items i item within e typed.NoBlockItem in
    subst (λ all. GrowsInPieces all k v at (HasPieces all k v) a c d) (sym law) f
