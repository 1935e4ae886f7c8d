-- The code of statements is in shape.
use Rattle.std.proofs.Common.{ℕ, suc, ◌<◌, ◌≤◌, ◌+◌, ◌^◌, ◌≡◌, refl, ◌∙◌, sym, subst, ap, List, [], ◌∷◌, ◌++◌, arith, Option, Some, None, IsTrue, pos}
use Rattle.cc_base.specs.declared.place.Place.{Place}
use Rattle.cc_base.specs.declared.number.TypeId.{TypeId}
use Rattle.c_types.specs.Table.{IsType, shape_at}
use Rattle.c_tree.specs.Erasure.{erased, erased_optional, erased_statement, erased_block_items}
use Rattle.c_tree.specs.Depth.{statement_height, block_items_height}
use Rattle.c_tree.specs.TypedTree as typed
use Rattle.c_tree.specs.TypedTree.{TypedExpr, TypedStatement, TypedBlockItems}
use Rattle.c_tree.specs.TypedParts.{type_of}
use Rattle.c_typing.specs.Integers.{promoted}
use Rattle.c_typing.specs.Shapes.{is_scalar_shape}
use Rattle.c_unit_typing.specs.Holding.{expr_holds, optional_holds, statement_holds, block_items_holds}
use Rattle.c_ready.specs.Rows.{Around, in_a_loop, in_a_switch}
use Rattle.c_ready.specs.Ready.{Stage, IsReadyStatement, AreReadyBlockItems, IsReadyOptional, IsReadyTest, IsReadyTestOrNone, IsReadyReturn}
use Rattle.src_machine.specs.Statements.{labels, otherwise}
use Rattle.src_machine.specs.Pieces.{Piece, pieces_of, pieces_of_optional, pieces_of_statement, pieces_of_block_items, pieces_of_declaration}
use Rattle.cil_form.specs.declared.instr.Set.TheVariants as set
use Rattle.cil_form.specs.declared.instr.Convert.TheVariants as convert
use Rattle.cil_form.specs.declared.instr.Instr.{Instr}
use Rattle.cil_form.specs.declared.instr.Instr.TheVariants as instr
use Rattle.cil_form.specs.Typing.{Typing, Context, Includes, held_by}
use Rattle.cil_form.proofs.TypingLaws.{includes-all}
use Rattle.lower_rules.specs.Pieces.{Form, Line, Then, Blocked, Looped, When}
use Rattle.lower_rules.specs.Words.{value, work, unsigned_long}
use Rattle.lower_rules.specs.Expressions.{IsCodeOf}
use Rattle.lower_rules.specs.Initialisers.{IsCodeOfDeclaration}
use Rattle.lower_rules.specs.Statements.{Nesting, in_loop, in_switch, label_of, IsCodeOfEffect, IsCodeOfTest, IsCodeOfTests, Guarded, IsCodeOfStatement, IsCodeOfBlock, IsCodeOfPieces}
use Rattle.lower_shape.specs.Stands.{Frame, stand, low, Knows, Told}
use Rattle.lower_shape.proofs.Forms.{AllLead, of-type}
use Rattle.lower_shape.proofs.Types.{scalar-some}
use Rattle.lower_shape.proofs.Expressions.{leads, left, right}
use Rattle.lower_shape.proofs.Between.{between, AllDo, Does, does-line, does-nothing, does-one, does-then, does-value, value-then, ends-one, does-choice, does-block, does-loop, does-break}
use Rattle.lower_shape.proofs.Initialisers.{held-alone, declares}
use Rattle.lower_shape.proofs.Switches.{between-more, otherwise-few, tested, guarded, begins}

-- What stands around a statement is around its code: the blocks that `break` and `continue` leave, and the function that `return` ends.
pub record IsNestedIn (f : Frame) (a : Around) (v : Nesting) (b : ℕ) : Type 0 where
  pub breaks : IsTrue a.breakable → v.breaks < b
  pub continues : IsTrue a.in_loop → v.continues < b
  pub result : f.result ≡ Some a.result

within-loop : (f : Frame) (a : Around) (v : Nesting) (b : ℕ) → IsNestedIn f a v b → IsNestedIn f (in_a_loop a) (in_loop v) (suc (suc b))
within-loop f a v b h = record { breaks = λ _. omega arith; continues = λ _. omega arith; result = h.result }

within-switch : (f : Frame) (a : Around) (v : Nesting) (b : ℕ) → IsNestedIn f a v b → IsNestedIn f (in_a_switch a) (in_switch v) (suc b)
within-switch f a v b h = record { breaks = λ _. omega arith; continues = λ i. omega (arith, h.continues i); result = h.result }

module _ (s : Stage) (f : Frame) (w : Knows s f) where
  condition : (b : ℕ) (kept : Typing) (e : TypedExpr) → IsReadyTest s e → Told s f (pieces_of e) → expr_holds (erased e) ≤ 256
      → AllLead (stand s f b kept) (IsCodeOf e (low s f) 0) 0 (held_by (stand s f b kept) (type_of e))
  condition b kept e r told m = λ c d. leads s f w b kept e (Unit {0}) 0 c d r.0 told (held-alone (erased e) m)

  tests : (b n : ℕ) (kept : Typing) (o : Option TypedExpr) → 0 < b → Includes (between n) kept → IsReadyTestOrNone s o
      → Told s f (pieces_of_optional o) → optional_holds (erased_optional o) ≤ 256 → AllDo (stand s f b kept) n (IsCodeOfTest o (low s f))
  tests b n kept None some inc r told m = does-nothing (stand s f b kept) n
  tests b n kept (Some e) some inc r told m =
      does-choice (stand s f b kept) n (IsCodeOf e (low s f) 0) (Line []) (Line (instr.Break 0 ∷ [])) (held_by (stand s f b kept) (type_of e))
      (scalar-some (shape_at s.table (type_of e)) r.1.scalar) (condition b kept e r told m) (does-nothing (stand s f b kept) n)
      (does-break (stand s f b kept) n 0 some inc)

  effect : (b n : ℕ) (kept : Typing) (o : Option TypedExpr) → IsReadyOptional s o → Told s f (pieces_of_optional o)
      → optional_holds (erased_optional o) ≤ 256 → AllDo (stand s f b kept) n (IsCodeOfEffect o (low s f))
  effect b n kept None r told m = does-nothing (stand s f b kept) n
  effect b n kept (Some e) r told m =
      does-value (stand s f b kept) n (IsCodeOf e (low s f) 0) (held_by (stand s f b kept) (type_of e))
      (λ c d. leads s f w b kept e (Unit {0}) 0 c d r.0 told (held-alone (erased e) m))

  returned : (e : TypedExpr) (a : Around) (v : Nesting) (b : ℕ) (kept : Typing) (at : Place) → IsReadyReturn s a.result (Some e)
      → IsNestedIn f a v b → Told s f (pieces_of e) → expr_holds (erased e) ≤ 256
      → AllDo (stand s f b kept) v.switches (Then (IsCodeOf e (low s f) 0) (Line (instr.ReturnValue (value 0) (type_of e) at ∷ [])))
  returned e a v b kept at r within told m =
      value-then (stand s f b kept) v.switches (IsCodeOf e (low s f) 0) (Line (instr.ReturnValue (value 0) (type_of e) at ∷ []))
      (held_by (stand s f b kept) (type_of e)) (λ c d. leads s f w b kept e (Unit {0}) 0 c d r.0 told (held-alone (erased e) m))
      (ends-one (stand s f b kept) v.switches (held_by (stand s f b kept) (type_of e)) (instr.ReturnValue (value 0) (type_of e) at) (λ U g. (
        within.result ∙ ap (λ z. Some z) (sym r.1.0),
        of-type (stand s f b kept) (type_of e) 0 U (omega arith) (
          subst (λ z. IsType s.table z) (sym r.1.0) r.1.1,
          scalar-some (shape_at s.table (type_of e)) (subst (λ z. IsTrue (is_scalar_shape (shape_at s.table z))) (sym r.1.0) r.1.2),
        ) g,
        includes-all U,
      )))

  -- Loops

  -- what a loop's code stands in, around its body
  abbrev around : ℕ → ℕ → Context
  around b n = stand s f (suc b) (between n)

  while-does : (b n : ℕ) (kept : Typing) (c : TypedExpr) (P : Form) → Includes (between n) kept → IsReadyTest s c → Told s f (pieces_of c)
      → expr_holds (erased c) ≤ 256 → AllDo (around (suc b) n) n P
      → AllDo (stand s f b kept) n (Looped (Then (IsCodeOfTest (Some c) (low s f)) (Blocked P)))
  while-does b n kept c P inc r told m p =
      does-loop (stand s f b kept) n (Then (IsCodeOfTest (Some c) (low s f)) (Blocked P)) inc
      (does-then (around b n) n (IsCodeOfTest (Some c) (low s f)) (Blocked P)
      (tests (suc b) n (between n) (Some c) (omega arith) (includes-all (between n)) r told m)
      (does-block (around b n) n P (includes-all (between n)) p))

  do-does : (b n : ℕ) (kept : Typing) (c : TypedExpr) (P : Form) → Includes (between n) kept → IsReadyTest s c → Told s f (pieces_of c)
      → expr_holds (erased c) ≤ 256 → AllDo (around (suc b) n) n P
      → AllDo (stand s f b kept) n (Looped (Then (Blocked P) (IsCodeOfTest (Some c) (low s f))))
  do-does b n kept c P inc r told m p =
      does-loop (stand s f b kept) n (Then (Blocked P) (IsCodeOfTest (Some c) (low s f))) inc
      (does-then (around b n) n (Blocked P) (IsCodeOfTest (Some c) (low s f)) (does-block (around b n) n P (includes-all (between n)) p)
      (tests (suc b) n (between n) (Some c) (omega arith) (includes-all (between n)) r told m))

  -- behind what `for` begins with
  for-does : (b n : ℕ) (kept : Typing) (c step : Option TypedExpr) (P : Form) → Includes (between n) kept → IsReadyTestOrNone s c
      → IsReadyOptional s step → Told s f (pieces_of_optional c) → Told s f (pieces_of_optional step)
      → optional_holds (erased_optional c) ≤ 256 → optional_holds (erased_optional step) ≤ 256 → AllDo (around (suc b) n) n P
      → AllDo (stand s f b kept) n (Looped (Then (IsCodeOfTest c (low s f)) (Then (Blocked P) (IsCodeOfEffect step (low s f)))))
  for-does b n kept c step P inc rc rt test_told step_told test_few step_few p =
      does-loop (stand s f b kept) n (Then (IsCodeOfTest c (low s f)) (Then (Blocked P) (IsCodeOfEffect step (low s f)))) inc
      (does-then (around b n) n (IsCodeOfTest c (low s f)) (Then (Blocked P) (IsCodeOfEffect step (low s f)))
      (tests (suc b) n (between n) c (omega arith) (includes-all (between n)) rc test_told test_few)
      (does-then (around b n) n (Blocked P) (IsCodeOfEffect step (low s f)) (does-block (around b n) n P (includes-all (between n)) p)
      (effect (suc b) n (between n) step rt step_told step_few)))

  -- `switch`

  -- the pieces before the last, and the last
  abbrev PiecesDo : TypedBlockItems → Place → Nesting → ℕ → Type 0
  PiecesDo items at v b = (closed last : List Instr) → IsCodeOfPieces items (low s f) v at closed last
      → Does (around b v.switches) (suc v.switches) closed × Does (around b v.switches) (suc v.switches) last

  switch-does : (e : TypedExpr) (items : TypedBlockItems) (at paren brace : Place) (a : Around) (v : Nesting) (static : Stage) (b : ℕ)
      (kept : Typing) → v.switches < 256 → IsReadyStatement s static a (typed.Switch at paren e brace items) → Includes (between v.switches) kept
      → Told s f (pieces_of e) → expr_holds (erased e) ≤ 256 → (suc (labels items) < 2 ^ 64 → PiecesDo items at v b)
      → AllDo (stand s f b kept) v.switches (IsCodeOfStatement (typed.Switch at paren e brace items) (low s f) v)
  unfolding When
  switch-does e items at paren brace a v static b kept here (re, on, ri) inc told m p code (few, h) =
      does-block (stand s f b kept) n (Then E (Then I (Then Q R))) inc
      (value-then (around b n) n E (Then I (Then Q R)) (held_by (around b n) (type_of e))
      (λ c d. leads s f w (suc b) (between n) e (Unit {0}) 0 c d re told (held-alone (erased e) m))
      (begins (around b n) n here w.long (promoted on.operand.kind) (type_of e) (otherwise items) Q R on.operand.type
      (otherwise-few items (2 ^ 64) few)
      (tested (around b n) n here w.long items s static (in_a_switch a) (type_of e) at refl few ri)
      (λ c (closed, last, made, d). does-then (around b n) (suc n) (Line closed) (Guarded (labels items) n at (Line last))
      (does-line (around b n) (suc n) closed (p few closed last made).0)
      (guarded (around b n) n here w.long (labels items) at (Line last) (omega (arith, few))
      (does-line (around b n) (suc n) last (p few closed last made).1)) c d))) code h
    where
      n : ℕ
      n = v.switches

      E : Form
      E = IsCodeOf e (low s f) 0

      I : Form
      I = Line (instr.Convert (convert.Integer work (value 0) (type_of e))
          ∷ instr.Set (set.Integer (label_of v.switches) (pos (otherwise items)) unsigned_long) ∷ [])

      Q : Form
      Q = IsCodeOfTests items v.switches (type_of e) at

      R : Form
      R = λ c. (closed last : List Instr) × IsCodeOfPieces items (low s f) v at closed last
          × Then (Line closed) (Guarded (labels items) v.switches at (Line last)) c

  -- a piece that a label ends
  closes : (j : ℕ) (at : Place) (v : Nesting) (b : ℕ) (x closed last c : List Instr) → v.switches < 256 → j < 2 ^ 64
      → Does (around b v.switches) (suc v.switches) c × Does (around b v.switches) (suc v.switches) x
      → Then (Line c) (Guarded j v.switches at (Line x)) closed → Line [] last
      → Does (around b v.switches) (suc v.switches) closed × Does (around b v.switches) (suc v.switches) last
  closes j at v b x closed last c here few p h l = (
    does-then (around b v.switches) (suc v.switches) (Line c) (Guarded j v.switches at (Line x))
        (does-line (around b v.switches) (suc v.switches) c p.0)
        (guarded (around b v.switches) v.switches here w.long j at (Line x) few (does-line (around b v.switches) (suc v.switches) x p.1))
        closed h,
    does-nothing (around b v.switches) (suc v.switches) last l,
  )

  mutual
    pub does : (st : TypedStatement) (a : Around) (v : Nesting) (static : Stage) (b : ℕ) (kept : Typing) → IsReadyStatement s static a st
        → IsNestedIn f a v b → Includes (between v.switches) kept → Told s f (pieces_of_statement st) → statement_holds (erased_statement st) ≤ 256
        → v.switches + statement_height (erased_statement st) ≤ 256 → AllDo (stand s f b kept) v.switches (IsCodeOfStatement st (low s f) v)
    does (typed.Block brace items) a v static b kept r within inc told m less =
        does-items items a None v static b kept r within inc told m (omega (arith, less))
    does (typed.Express e) a v static b kept r within inc told m less = effect b v.switches kept (Some e) r told m
    does typed.Empty a v static b kept r within inc told m less = does-nothing (stand s f b kept) v.switches
    does (typed.If at paren c st) a v static b kept (rc, rs) within inc told m less =
        does-choice (stand s f b kept) v.switches (IsCodeOf c (low s f) 0) (IsCodeOfStatement st (low s f) v) (Line [])
        (held_by (stand s f b kept) (type_of c)) (scalar-some (shape_at s.table (type_of c)) rc.1.scalar)
        (condition b kept c rc (left s f (pieces_of c) (pieces_of_statement st) told) (omega (arith, m)))
        (does st a v static b kept rs within inc (right s f (pieces_of c) (pieces_of_statement st) told) (omega (arith, m)) (omega (arith, less)))
        (does-nothing (stand s f b kept) v.switches)
    does (typed.IfElse at paren c st su) a v static b kept (rc, rs, ru) within inc told m less =
        does-choice (stand s f b kept) v.switches (IsCodeOf c (low s f) 0) (IsCodeOfStatement st (low s f) v) (IsCodeOfStatement su (low s f) v)
        (held_by (stand s f b kept) (type_of c)) (scalar-some (shape_at s.table (type_of c)) rc.1.scalar)
        (condition b kept c rc (left s f (pieces_of c) (pieces_of_statement st) both) (omega (arith, m)))
        (does st a v static b kept rs within inc (right s f (pieces_of c) (pieces_of_statement st) both) (omega (arith, m)) (omega (arith, less)))
        (does su a v static b kept ru within inc (right s f (pieces_of c ++ pieces_of_statement st) (pieces_of_statement su) told)
        (omega (arith, m)) (omega (arith, less)))
      where
        both : Told s f (pieces_of c ++ pieces_of_statement st)
        both = left s f (pieces_of c ++ pieces_of_statement st) (pieces_of_statement su) told
    does (typed.Switch at paren e brace items) a v static b kept r within inc told m less =
        switch-does e items at paren brace a v static b kept (omega (arith, less)) r inc
        (left s f (pieces_of e) (pieces_of_block_items items) told) (omega (arith, m))
        (λ few. pieces items at a (Some (type_of e)) v static b r.2 (omega (arith, less)) (within-switch f a v b within)
        (right s f (pieces_of e) (pieces_of_block_items items) told) (omega (arith, m)) few (omega (arith, less)))
    does (typed.While at paren c st) a v static b kept (rc, rs) within inc told m less =
        while-does b v.switches kept c (IsCodeOfStatement st (low s f) (in_loop v)) inc rc (left s f (pieces_of c) (pieces_of_statement st) told)
        (omega (arith, m))
        (does st (in_a_loop a) (in_loop v) static (suc (suc b)) (between v.switches) rs (within-loop f a v b within)
        (includes-all (between v.switches)) (right s f (pieces_of c) (pieces_of_statement st) told) (omega (arith, m)) (omega (arith, less)))
    does (typed.DoWhile st at paren c) a v static b kept (rs, rc) within inc told m less =
        do-does b v.switches kept c (IsCodeOfStatement st (low s f) (in_loop v)) inc rc (right s f (pieces_of_statement st) (pieces_of c) told)
        (omega (arith, m))
        (does st (in_a_loop a) (in_loop v) static (suc (suc b)) (between v.switches) rs (within-loop f a v b within)
        (includes-all (between v.switches)) (left s f (pieces_of_statement st) (pieces_of c) told) (omega (arith, m)) (omega (arith, less)))
    does (typed.For at paren first c step st) a v static b kept (rf, rc, rt, rs) within inc told m less =
        does-then (stand s f b kept) v.switches (IsCodeOfEffect first (low s f)) (Looped (Then (IsCodeOfTest c (low s f))
        (Then (Blocked (IsCodeOfStatement st (low s f) (in_loop v))) (IsCodeOfEffect step (low s f)))))
        (effect b v.switches kept first rf (left s f A C (left s f (A ++ C) E (left s f (A ++ C ++ E) S told))) (omega (arith, m)))
        (for-does b v.switches kept c step (IsCodeOfStatement st (low s f) (in_loop v)) inc rc rt
        (right s f A C (left s f (A ++ C) E (left s f (A ++ C ++ E) S told))) (right s f (A ++ C) E (left s f (A ++ C ++ E) S told))
        (omega (arith, m)) (omega (arith, m))
        (does st (in_a_loop a) (in_loop v) static (suc (suc b)) (between v.switches) rs (within-loop f a v b within)
        (includes-all (between v.switches)) (right s f (A ++ C ++ E) S told) (omega (arith, m)) (omega (arith, less))))
      where
        A : List Piece
        A = pieces_of_optional first

        C : List Piece
        C = pieces_of_optional c

        E : List Piece
        E = pieces_of_optional step

        S : List Piece
        S = pieces_of_statement st
    does (typed.ForDeclaration at paren d c step st) a v static b kept (rf, rc, rt, rs) within inc told m less =
        does-then (stand s f b kept) v.switches (IsCodeOfDeclaration d (low s f)) (Looped (Then (IsCodeOfTest c (low s f))
        (Then (Blocked (IsCodeOfStatement st (low s f) (in_loop v))) (IsCodeOfEffect step (low s f)))))
        (declares s f w b kept v.switches d static rf (left s f A C (left s f (A ++ C) E (left s f (A ++ C ++ E) S told))) (omega (arith, m)))
        (for-does b v.switches kept c step (IsCodeOfStatement st (low s f) (in_loop v)) inc rc rt
        (right s f A C (left s f (A ++ C) E (left s f (A ++ C ++ E) S told))) (right s f (A ++ C) E (left s f (A ++ C ++ E) S told))
        (omega (arith, m)) (omega (arith, m))
        (does st (in_a_loop a) (in_loop v) static (suc (suc b)) (between v.switches) rs (within-loop f a v b within)
        (includes-all (between v.switches)) (right s f (A ++ C ++ E) S told) (omega (arith, m)) (omega (arith, less))))
      where
        A : List Piece
        A = pieces_of_declaration d

        C : List Piece
        C = pieces_of_optional c

        E : List Piece
        E = pieces_of_optional step

        S : List Piece
        S = pieces_of_statement st
    does (typed.Break at) a v static b kept r within inc told m less =
        does-break (stand s f b kept) v.switches v.breaks (within.breaks r) inc
    does (typed.Continue at) a v static b kept r within inc told m less =
        does-break (stand s f b kept) v.switches v.continues (within.continues r) inc
    does (typed.Return at None) a v static b kept r within inc told m less =
        does-one (stand s f b kept) v.switches instr.Return (λ T g. ((a.result, within.result, r.1), includes-all T))
    does (typed.Return at (Some e)) a v static b kept r within inc told m less = returned e a v b kept at r within told m

    pub does-items : (items : TypedBlockItems) (a : Around) (on : Option TypeId) (v : Nesting) (static : Stage) (b : ℕ) (kept : Typing)
        → AreReadyBlockItems s static a on items → IsNestedIn f a v b → Includes (between v.switches) kept → Told s f (pieces_of_block_items items)
        → block_items_holds (erased_block_items items) ≤ 256 → v.switches + block_items_height (erased_block_items items) ≤ 256
        → AllDo (stand s f b kept) v.switches (IsCodeOfBlock items (low s f) v)
    does-items typed.NoBlockItem a on v static b kept r within inc told m less = does-nothing (stand s f b kept) v.switches
    does-items (typed.AndStatement all st) a on v static b kept r within inc told m less =
        does-then (stand s f b kept) v.switches (IsCodeOfBlock all (low s f) v) (IsCodeOfStatement st (low s f) v)
        (does-items all a on v static b kept r.0 within inc (left s f (pieces_of_block_items all) (pieces_of_statement st) told)
        (omega (arith, m)) (omega (arith, less)))
        (does st a v static b kept r.1 within inc (right s f (pieces_of_block_items all) (pieces_of_statement st) told)
        (omega (arith, m)) (omega (arith, less)))
    does-items (typed.AndDeclaration all d) a on v static b kept r within inc told m less =
        does-then (stand s f b kept) v.switches (IsCodeOfBlock all (low s f) v) (IsCodeOfDeclaration d (low s f))
        (does-items all a on v static b kept r.0 within inc (left s f (pieces_of_block_items all) (pieces_of_declaration d) told)
        (omega (arith, m)) (omega (arith, less)))
        (declares s f w b kept v.switches d static r.1 (right s f (pieces_of_block_items all) (pieces_of_declaration d) told) (omega (arith, m)))
    does-items (typed.AndCase all at e z) a on v static b kept r within inc told m less =
        does-items all a on v static b kept r.0 within inc (left s f (pieces_of_block_items all) (pieces_of e) told)
        (omega (arith, m)) (omega (arith, less))
    does-items (typed.AndDefault all at) a on v static b kept r within inc told m less =
        does-items all a on v static b kept r within inc told m less

    -- the pieces of a `switch`
    pieces : (items : TypedBlockItems) (at : Place) (a : Around) (on : Option TypeId) (v : Nesting) (static : Stage) (b : ℕ)
        → AreReadyBlockItems s static (in_a_switch a) on items → v.switches < 256 → IsNestedIn f (in_a_switch a) (in_switch v) (suc b)
        → Told s f (pieces_of_block_items items) → block_items_holds (erased_block_items items) ≤ 256 → suc (labels items) < 2 ^ 64
        → suc v.switches + block_items_height (erased_block_items items) ≤ 256 → PiecesDo items at v b
    pieces typed.NoBlockItem at a on v static b r here within told m few less closed last h =
        (does-nothing (around b v.switches) (suc v.switches) closed h.0, does-nothing (around b v.switches) (suc v.switches) last h.1)
    pieces (typed.AndStatement all st) at a on v static b r here within told m few less closed last (x, before, h) =
        let p = pieces all at a on v static b r.0 here within (left s f (pieces_of_block_items all) (pieces_of_statement st) told)
        (omega (arith, m)) few (omega (arith, less)) closed x before in (
          p.0,
          does-then (around b v.switches) (suc v.switches) (Line x) (IsCodeOfStatement st (low s f) (in_switch v))
              (does-line (around b v.switches) (suc v.switches) x p.1)
              (does st (in_a_switch a) (in_switch v) static (suc b) (between v.switches) r.1 within (between-more v.switches)
              (right s f (pieces_of_block_items all) (pieces_of_statement st) told) (omega (arith, m)) (omega (arith, less))) last h,
        )
    pieces (typed.AndDeclaration all d) at a on v static b r here within told m few less closed last (x, before, h) =
        let p = pieces all at a on v static b r.0 here within (left s f (pieces_of_block_items all) (pieces_of_declaration d) told)
        (omega (arith, m)) few (omega (arith, less)) closed x before in (
          p.0,
          does-then (around b v.switches) (suc v.switches) (Line x) (IsCodeOfDeclaration d (low s f))
              (does-line (around b v.switches) (suc v.switches) x p.1)
              (declares s f w (suc b) (between v.switches) (suc v.switches) d static r.1
              (right s f (pieces_of_block_items all) (pieces_of_declaration d) told) (omega (arith, m))) last h,
        )
    pieces (typed.AndCase all place e z) at a on v static b r here within told m few less closed last (c, x, before, h, l) =
        closes (labels all) at v b x closed last c here (omega (arith, few))
        (pieces all at a on v static b r.0 here within (left s f (pieces_of_block_items all) (pieces_of e) told) (omega (arith, m))
        (omega (arith, few)) (omega (arith, less)) c x before) h l
    pieces (typed.AndDefault all place) at a on v static b r here within told m few less closed last (c, x, before, h, l) =
        closes (labels all) at v b x closed last c here (omega (arith, few))
        (pieces all at a on v static b r here within told m (omega (arith, few)) less c x before) h l
