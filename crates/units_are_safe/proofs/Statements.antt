-- The code of a statement converts no pointer to an integer, where the tree is ready.
use Rattle.std.proofs.Common.{ℕ, suc, ◌+◌, sym, subst, Bool, true, false, List, [], ◌∷◌, ◌&&◌, Option, Some, None, pos}
use Rattle.cc_base.specs.declared.place.Place.{Place}
use Rattle.cc_base.specs.declared.number.NodeId.{NodeId}
use Rattle.cc_base.specs.declared.number.TypeId.{TypeId}
use Rattle.c_types.specs.Table.{Table, shape_at}
use Rattle.c_tree.specs.TypedTree as typed
use Rattle.c_tree.specs.TypedTree.{TypedExpr, TypedStatement, TypedBlockItems, TypedInitialiser, TypedItems, TypedInitDeclarators, TypedDeclaration}
use Rattle.c_tree.specs.TypedParts.{type_of, place_at, item_place, home_of}
use Rattle.c_tree.specs.declared.typed_word.Home.{Home}
use Rattle.c_tree.specs.declared.typed_word.Home.TheVariants as home
use Rattle.c_ready.specs.Rows.{is_only_text, is_char_array, Around, in_a_loop, in_a_switch}
use Rattle.c_ready.specs.Ready.{Stage, IsReady, IsReadyStatement, AreReadyBlockItems, IsReadyOptional, IsReadyTestOrNone, IsReadyInitialiser, AreReadyItems, AreReadyDeclarators, IsReadyDeclaration, initialised_in}
use Rattle.src_machine.specs.Statements.{labels, otherwise, element_of_shape, clears}
use Rattle.cil_form.specs.declared.number.Object.{Object}
use Rattle.cil_form.specs.declared.instr.Access.TheVariants as access
use Rattle.cil_form.specs.declared.instr.Calculate.TheVariants as calculate
use Rattle.cil_form.specs.declared.instr.Comparison.TheVariants as comparison
use Rattle.cil_form.specs.declared.instr.Convert.TheVariants as convert
use Rattle.cil_form.specs.declared.instr.Operator.TheVariants as operator
use Rattle.cil_form.specs.declared.instr.Set.TheVariants as set
use Rattle.cil_form.specs.declared.instr.Instr.{Instr}
use Rattle.cil_form.specs.declared.instr.Instr.TheVariants as instr
use Rattle.cil_facts.specs.Whole.{CodeNumbersNone}
use Rattle.lower_rules.specs.declared.after.After.TheVariants as after
use Rattle.lower_rules.specs.Pieces.{Form, Line, Then, Choice, Blocked, Looped, When}
use Rattle.lower_rules.specs.Words as lowered
use Rattle.lower_rules.specs.Words.{value, work, unsigned_long}
use Rattle.lower_rules.specs.Expressions.{IsCodeOf}
use Rattle.lower_rules.specs.Initialisers.{Initialised, part, text_code, Clears, IsCodeOfInitialiser, IsCodeOfItems, IsCodeOfObject, IsCodeOfDeclared, IsCodeOfDeclarators, IsCodeOfDeclaration}
use Rattle.lower_rules.specs.Statements.{Nesting, in_loop, in_switch, label_of, guard_code, IsCodeOfEffect, IsCodeOfTest, IsCodeOfTests, Guarded, IsCodeOfStatement, IsCodeOfBlock, IsCodeOfPieces}
use Rattle.units_are_safe.proofs.Forms.{Spares, line, then, choice, block, loop, sides}
use Rattle.units_are_safe.proofs.Values.{spares, spares-followed}

texts : (T : Table) (o : Initialised) (char : TypeId) (at : Place) (base : ℕ) (bytes : List ℕ) → CodeNumbersNone (text_code T o char at base bytes)
texts T o char at base [] = tt
texts T o char at base (c ∷ bytes) = (tt, (tt, texts T o char at (base + 1) bytes))

cleared : (c : Bool) (o : Object) → Spares (Clears c o)
unfolding Clears Line
cleared true o c d = subst CodeNumbersNone (sym d) (tt, tt)
cleared false o c d = subst CodeNumbersNone (sym d) tt

-- the tests of a `switch`
tests : (items : TypedBlockItems) (l : ℕ) (t : TypeId) (at : Place) → Spares (IsCodeOfTests items l t at)
tests typed.NoBlockItem l t at = line [] tt
tests (typed.AndStatement all s) l t at = tests all l t at
tests (typed.AndDeclaration all d) l t at = tests all l t at
tests (typed.AndCase all place e z) l t at =
    then (Line (S ∷ B ∷ [])) (Then (Choice (value 1) (Line (L ∷ [])) (Line [])) (IsCodeOfTests all l t at)) (line (S ∷ B ∷ []) (tt, (tt, tt)))
    (then (Choice (value 1) (Line (L ∷ [])) (Line [])) (IsCodeOfTests all l t at)
    (choice (value 1) (Line (L ∷ [])) (Line []) (line (L ∷ []) (tt, tt)) (line [] tt)) (tests all l t at))
  where
    S : Instr
    S = instr.Set (set.Integer (value 1) z t)

    B : Instr
    B = instr.Calculate (calculate.Binary (value 1) (operator.Compare comparison.Equal) (value 1) (value 0) t at)

    L : Instr
    L = instr.Set (set.Integer (label_of l) (pos (suc (labels all))) unsigned_long)
tests (typed.AndDefault all place) l t at = tests all l t at

guarded : (j l : ℕ) (at : Place) (P : Form) → Spares P → Spares (Guarded j l at P)
guarded j l at P p =
    then (Line (guard_code j l at)) (Choice (value 0) P (Line [])) (line (guard_code j l at) (tt, (tt, tt))) (choice (value 0) P (Line []) p (line [] tt))

module _ (s : Stage) (k : lowered.Context) where
  -- Initialisers

  mutual
    pub spares-initialiser : (i : TypedInitialiser) (at : Place) (t : TypeId) (base : ℕ) (o : Initialised) → IsReadyInitialiser s t i
        → Spares (IsCodeOfInitialiser i k at t base o)
    spares-initialiser (typed.Value e) at t base o r =
        then (IsCodeOf e k 0) (Line (instr.Access (access.Store (part o base) (value 0) t at at) ∷ [])) (spares s k e (Unit {0}) 0 r.0)
        (line (instr.Access (access.Store (part o base) (value 0) t at at) ∷ []) (tt, tt))
    spares-initialiser (typed.Copied p seat) at t base o r = spares-followed s k p 0 (after.Copy (part o base) seat (place_at p) t seat) r.0
    spares-initialiser (typed.Text pieces bytes) at t base o r =
        line (text_code k.table o (element_of_shape (shape_at k.table t)) at base bytes)
        (texts k.table o (element_of_shape (shape_at k.table t)) at base bytes)
    spares-initialiser (typed.Listed brace items comma u) at t base o r =
        spares-items items (is_only_text items && is_char_array s.table t) t base o r.1

    pub spares-items : (l : TypedItems) (text : Bool) (t : TypeId) (base : ℕ) (o : Initialised) → AreReadyItems s text t l → Spares (IsCodeOfItems l k base o)
    spares-items typed.NoItem text t base o r = line [] tt
    spares-items (typed.AndItem all offset u i) text t base o r =
        then (IsCodeOfItems all k base o) (IsCodeOfInitialiser i k (item_place i) u (base + offset) o) (spares-items all text t base o r.0)
        (spares-initialiser i (item_place i) u (base + offset) o r.1)

  pub spares-object : (node : NodeId) (t : TypeId) (at : Place) (i : TypedInitialiser) → IsReadyInitialiser s t i → Spares (IsCodeOfObject node t at i k)
  spares-object node t at i r c (o, got, x) =
      then (Clears (clears k.table i) o) (IsCodeOfInitialiser i k at t 0 (record { object = o; node = node; type = t })) (cleared (clears k.table i) o)
      (spares-initialiser i at t 0 (record { object = o; node = node; type = t }) r) c x

  by-home : (h : Home) (static : Stage) (t : TypeId) (at : Place) (i : TypedInitialiser) → IsReadyInitialiser (initialised_in h s static) t i
      → Spares (IsCodeOfDeclared h t at i k)
  by-home (home.Local node) static t at i r = spares-object node t at i r
  by-home other static t at i r = line [] tt

  declarators : (all : TypedInitDeclarators) (static : Stage) → AreReadyDeclarators s static all → Spares (IsCodeOfDeclarators all k)
  declarators typed.NoInitDeclarator static r = line [] tt
  declarators (typed.AndPlain all (typed.Declares form t)) static r = declarators all static r.0
  declarators (typed.AndInitialised all (typed.Declares form t) at i) static (before, ready, complete, there, object, given) =
      then (IsCodeOfDeclarators all k) (IsCodeOfDeclared (home_of (typed.Declares form t)) t at i k) (declarators all static before)
      (by-home (home_of (typed.Declares form t)) static t at i given)

  pub spares-declaration : (d : TypedDeclaration) (static : Stage) → IsReadyDeclaration s static d → Spares (IsCodeOfDeclaration d k)
  spares-declaration (typed.Declare specifiers all) static r = declarators all static r.1

  -- Statements

  effect : (o : Option TypedExpr) → IsReadyOptional s o → Spares (IsCodeOfEffect o k)
  effect None r = line [] tt
  effect (Some e) r = spares s k e (Unit {0}) 0 r.0

  test : (o : Option TypedExpr) → IsReadyTestOrNone s o → Spares (IsCodeOfTest o k)
  test None r = line [] tt
  test (Some e) r =
      sides (value 0) (IsCodeOf e k 0) (Line []) (Line (instr.Break 0 ∷ [])) (spares s k e (Unit {0}) 0 r.0) (line [] tt)
      (line (instr.Break 0 ∷ []) (tt, tt))

  -- what is repeated by `for`
  repeated : (c step : Option TypedExpr) (P : Form) → IsReadyTestOrNone s c → IsReadyOptional s step → Spares P
      → Spares (Looped (Then (IsCodeOfTest c k) (Then (Blocked P) (IsCodeOfEffect step k))))
  repeated c step P rc rt p =
      loop (Then (IsCodeOfTest c k) (Then (Blocked P) (IsCodeOfEffect step k)))
      (then (IsCodeOfTest c k) (Then (Blocked P) (IsCodeOfEffect step k)) (test c rc)
      (then (Blocked P) (IsCodeOfEffect step k) (block P p) (effect step rt)))

  -- the pieces of a `switch`
  abbrev PiecesSpare : TypedBlockItems → Nesting → Place → Type 0
  PiecesSpare items v at = (closed last : List Instr) → IsCodeOfPieces items k v at closed last → CodeNumbersNone closed × CodeNumbersNone last

  switched : (e : TypedExpr) (items : TypedBlockItems) (at paren brace : Place) (v : Nesting) → IsReady s e → PiecesSpare items v at
      → Spares (IsCodeOfStatement (typed.Switch at paren e brace items) k v)
  unfolding When
  switched e items at paren brace v r p code (few, h) =
      block (Then E (Then I (Then Q R)))
      (then E (Then I (Then Q R)) (spares s k e (Unit {0}) 0 r)
      (then I (Then Q R) (line (C ∷ S ∷ []) (tt, (tt, tt)))
      (then Q R (tests items v.switches (type_of e) at)
      (λ c (closed, last, made, d). then (Line closed) (Guarded (labels items) v.switches at (Line last)) (line closed (p closed last made).0)
      (guarded (labels items) v.switches at (Line last) (line last (p closed last made).1)) c d)))) code h
    where
      C : Instr
      C = instr.Convert (convert.Integer work (value 0) (type_of e))

      S : Instr
      S = instr.Set (set.Integer (label_of v.switches) (pos (otherwise items)) unsigned_long)

      E : Form
      E = IsCodeOf e k 0

      I : Form
      I = Line (C ∷ S ∷ [])

      Q : Form
      Q = IsCodeOfTests items v.switches (type_of e) at

      R : Form
      R = λ c. (closed last : List Instr) × IsCodeOfPieces items k v at closed last
          × Then (Line closed) (Guarded (labels items) v.switches at (Line last)) c

  closes : (j : ℕ) (v : Nesting) (at : Place) (x closed last c : List Instr) → CodeNumbersNone c × CodeNumbersNone x
      → Then (Line c) (Guarded j v.switches at (Line x)) closed → Line [] last → CodeNumbersNone closed × CodeNumbersNone last
  closes j v at x closed last c p h l = (
    then (Line c) (Guarded j v.switches at (Line x)) (line c p.0) (guarded j v.switches at (Line x) (line x p.1)) closed h,
    line [] tt last l,
  )

  mutual
    pub spares-statement : (st : TypedStatement) (a : Around) (static : Stage) (v : Nesting) → IsReadyStatement s static a st
        → Spares (IsCodeOfStatement st k v)
    spares-statement (typed.Block brace items) a static v r = spares-block items a None static v r
    spares-statement (typed.Express e) a static v r = spares s k e (Unit {0}) 0 r.0
    spares-statement typed.Empty a static v r = line [] tt
    spares-statement (typed.If at paren c st) a static v (rc, rs) =
        sides (value 0) (IsCodeOf c k 0) (IsCodeOfStatement st k v) (Line []) (spares s k c (Unit {0}) 0 rc.0) (spares-statement st a static v rs)
        (line [] tt)
    spares-statement (typed.IfElse at paren c st su) a static v (rc, rs, ru) =
        sides (value 0) (IsCodeOf c k 0) (IsCodeOfStatement st k v) (IsCodeOfStatement su k v) (spares s k c (Unit {0}) 0 rc.0)
        (spares-statement st a static v rs) (spares-statement su a static v ru)
    spares-statement (typed.Switch at paren e brace items) a static v (re, on, ri) =
        switched e items at paren brace v re (spares-pieces items at (in_a_switch a) (Some (type_of e)) static v ri)
    spares-statement (typed.While at paren c st) a static v (rc, rs) =
        loop (Then (IsCodeOfTest (Some c) k) (Blocked (IsCodeOfStatement st k (in_loop v))))
        (then (IsCodeOfTest (Some c) k) (Blocked (IsCodeOfStatement st k (in_loop v))) (test (Some c) rc)
        (block (IsCodeOfStatement st k (in_loop v)) (spares-statement st (in_a_loop a) static (in_loop v) rs)))
    spares-statement (typed.DoWhile st at paren c) a static v (rs, rc) =
        loop (Then (Blocked (IsCodeOfStatement st k (in_loop v))) (IsCodeOfTest (Some c) k))
        (then (Blocked (IsCodeOfStatement st k (in_loop v))) (IsCodeOfTest (Some c) k)
        (block (IsCodeOfStatement st k (in_loop v)) (spares-statement st (in_a_loop a) static (in_loop v) rs)) (test (Some c) rc))
    spares-statement (typed.For at paren first c step st) a static v (rf, rc, rt, rs) =
        then (IsCodeOfEffect first k) (Looped (Then (IsCodeOfTest c k) (Then (Blocked (IsCodeOfStatement st k (in_loop v))) (IsCodeOfEffect step k))))
        (effect first rf)
        (repeated c step (IsCodeOfStatement st k (in_loop v)) rc rt (spares-statement st (in_a_loop a) static (in_loop v) rs))
    spares-statement (typed.ForDeclaration at paren d c step st) a static v (rf, rc, rt, rs) =
        then (IsCodeOfDeclaration d k) (Looped (Then (IsCodeOfTest c k) (Then (Blocked (IsCodeOfStatement st k (in_loop v))) (IsCodeOfEffect step k))))
        (spares-declaration d static rf)
        (repeated c step (IsCodeOfStatement st k (in_loop v)) rc rt (spares-statement st (in_a_loop a) static (in_loop v) rs))
    spares-statement (typed.Break at) a static v r = line (instr.Break v.breaks ∷ []) (tt, tt)
    spares-statement (typed.Continue at) a static v r = line (instr.Break v.continues ∷ []) (tt, tt)
    spares-statement (typed.Return at None) a static v r = line (instr.Return ∷ []) (tt, tt)
    spares-statement (typed.Return at (Some e)) a static v r =
        then (IsCodeOf e k 0) (Line (instr.ReturnValue (value 0) (type_of e) at ∷ [])) (spares s k e (Unit {0}) 0 r.0)
        (line (instr.ReturnValue (value 0) (type_of e) at ∷ []) (tt, tt))

    pub spares-block : (items : TypedBlockItems) (a : Around) (on : Option TypeId) (static : Stage) (v : Nesting) → AreReadyBlockItems s static a on items
        → Spares (IsCodeOfBlock items k v)
    spares-block typed.NoBlockItem a on static v r = line [] tt
    spares-block (typed.AndStatement all st) a on static v r =
        then (IsCodeOfBlock all k v) (IsCodeOfStatement st k v) (spares-block all a on static v r.0) (spares-statement st a static v r.1)
    spares-block (typed.AndDeclaration all d) a on static v r =
        then (IsCodeOfBlock all k v) (IsCodeOfDeclaration d k) (spares-block all a on static v r.0) (spares-declaration d static r.1)
    spares-block (typed.AndCase all at e z) a on static v r = spares-block all a on static v r.0
    spares-block (typed.AndDefault all at) a on static v r = spares-block all a on static v r

    spares-pieces : (items : TypedBlockItems) (at : Place) (a : Around) (on : Option TypeId) (static : Stage) (v : Nesting)
        → AreReadyBlockItems s static a on items → PiecesSpare items v at
    spares-pieces typed.NoBlockItem at a on static v r closed last h = (line [] tt closed h.0, line [] tt last h.1)
    spares-pieces (typed.AndStatement all st) at a on static v r closed last (x, before, h) =
        let p = spares-pieces all at a on static v r.0 closed x before in (
          p.0,
          then (Line x) (IsCodeOfStatement st k (in_switch v)) (line x p.1) (spares-statement st a static (in_switch v) r.1) last h,
        )
    spares-pieces (typed.AndDeclaration all d) at a on static v r closed last (x, before, h) =
        let p = spares-pieces all at a on static v r.0 closed x before in
        (p.0, then (Line x) (IsCodeOfDeclaration d k) (line x p.1) (spares-declaration d static r.1) last h)
    spares-pieces (typed.AndCase all place e z) at a on static v r closed last (c, x, before, h, l) =
        closes (labels all) v at x closed last c (spares-pieces all at a on static v r.0 c x before) h l
    spares-pieces (typed.AndDefault all place) at a on static v r closed last (c, x, before, h, l) =
        closes (labels all) v at x closed last c (spares-pieces all at a on static v r c x before) h l
