-- How deep the code of a statement is nested: less than twice as deep as the statement is high, since a loop's body is a block in a loop.
use Rattle.std.proofs.Common.{ℕ, suc, ◌<◌, ◌≤◌, ◌+◌, ◌*◌, ◌-◌, sym, subst, Bool, true, false, List, [], ◌∷◌, ◌&&◌, arith, Option, Some, None, pos}
use Rattle.cc_base.specs.declared.place.Place.{Place}
use Rattle.cc_base.specs.declared.number.NodeId.{NodeId}
use Rattle.cc_base.specs.declared.number.TypeId.{TypeId}
use Rattle.c_types.specs.Table.{Table, shape_at}
use Rattle.c_tree.specs.Depth.{statement_height, block_items_height, initialiser_height, items_height, init_declarators_height, declaration_height, optional_height}
use Rattle.c_tree.specs.Erasure.{erased, erased_optional, erased_statement, erased_block_items, erased_initialiser, erased_items, erased_init_declarators, erased_declaration}
use Rattle.c_tree.specs.Tree as tree
use Rattle.c_tree.specs.TypedTree as typed
use Rattle.c_tree.specs.TypedTree.{TypedExpr, TypedStatement, TypedBlockItems, TypedInitialiser, TypedItems, TypedInitDeclarators, TypedDeclaration}
use Rattle.c_tree.specs.TypedParts.{type_of, place_at, item_place, home_of}
use Rattle.c_tree.specs.declared.typed_word.Home.{Home}
use Rattle.c_tree.specs.declared.typed_word.Home.TheVariants as home
use Rattle.c_ready.specs.Rows.{is_only_text, is_char_array, Around, in_a_loop, in_a_switch}
use Rattle.c_ready.specs.Ready.{Stage, IsReady, IsReadyStatement, AreReadyBlockItems, IsReadyOptional, IsReadyTestOrNone, IsReadyInitialiser, AreReadyItems, AreReadyDeclarators, IsReadyDeclaration, initialised_in}
use Rattle.src_machine.specs.Statements.{labels, otherwise, element_of_shape, clears}
use Rattle.cil_form.specs.declared.number.Object.{Object}
use Rattle.cil_form.specs.declared.instr.Access.TheVariants as access
use Rattle.cil_form.specs.declared.instr.Calculate.TheVariants as calculate
use Rattle.cil_form.specs.declared.instr.Comparison.TheVariants as comparison
use Rattle.cil_form.specs.declared.instr.Convert.TheVariants as convert
use Rattle.cil_form.specs.declared.instr.Operator.TheVariants as operator
use Rattle.cil_form.specs.declared.instr.Set.TheVariants as set
use Rattle.cil_form.specs.declared.instr.Instr.{Instr}
use Rattle.cil_form.specs.declared.instr.Instr.TheVariants as instr
use Rattle.cil_form.specs.Shape.{nest_of_code}
use Rattle.lower_rules.specs.declared.after.After.TheVariants as after
use Rattle.lower_rules.specs.Pieces.{Form, Line, Then, Choice, Blocked, Looped, When}
use Rattle.lower_rules.specs.Words as lowered
use Rattle.lower_rules.specs.Words.{value, work, unsigned_long}
use Rattle.lower_rules.specs.Expressions.{IsCodeOf}
use Rattle.lower_rules.specs.Initialisers.{Initialised, part, text_code, Clears, IsCodeOfInitialiser, IsCodeOfItems, IsCodeOfObject, IsCodeOfDeclared, IsCodeOfDeclarators, IsCodeOfDeclaration}
use Rattle.lower_rules.specs.Statements.{Nesting, in_loop, in_switch, label_of, guard_code, IsCodeOfEffect, IsCodeOfTest, IsCodeOfTests, Guarded, IsCodeOfStatement, IsCodeOfBlock, IsCodeOfPieces}
use Rattle.lower_shape.proofs.Nests.{Nests, nests-more, nests-line, nests-then, nests-choice, nests-block, nests-loop, nests-sides, height-some, height, nested, flat-place}

pub statement-some : (x : tree.Statement) → 0 < statement_height x
statement-some (tree.Block brace items) = omega arith
statement-some (tree.Express e) = omega arith
statement-some tree.Empty = omega arith
statement-some (tree.If at paren test s) = omega arith
statement-some (tree.IfElse at paren test s other) = omega arith
statement-some (tree.Switch at paren e brace items) = omega arith
statement-some (tree.While at paren test s) = omega arith
statement-some (tree.DoWhile s at paren test) = omega arith
statement-some (tree.For at paren first test step s) = omega arith
statement-some (tree.ForDeclaration at paren first test step s) = omega arith
statement-some (tree.Break at) = omega arith
statement-some (tree.Continue at) = omega arith
statement-some (tree.Return at e) = omega arith

abbrev statement : TypedStatement → ℕ
statement st = statement_height (erased_statement st)

abbrev block : TypedBlockItems → ℕ
block items = block_items_height (erased_block_items items)

abbrev optional : Option TypedExpr → ℕ
optional o = optional_height (erased_optional o)

text-flat : (T : Table) (o : Initialised) (char : TypeId) (at : Place) (base : ℕ) (bytes : List ℕ)
    → nest_of_code (text_code T o char at base bytes) ≤ 0
text-flat T o char at base [] = omega arith
text-flat T o char at base (c ∷ bytes) = omega (arith, text-flat T o char at (base + 1) bytes)

clears-flat : (c : Bool) (o : Object) (n : ℕ) → Nests n (Clears c o)
unfolding Clears Line
clears-flat true o n c d = subst (λ z. nest_of_code z ≤ n) (sym d) (omega arith)
clears-flat false o n c d = subst (λ z. nest_of_code z ≤ n) (sym d) (omega arith)

-- the tests of a `switch` are choices one behind another
tests-nest : (items : TypedBlockItems) (l : ℕ) (t : TypeId) (at : Place) (n : ℕ) → 0 < n → Nests n (IsCodeOfTests items l t at)
tests-nest typed.NoBlockItem l t at n some = nests-line [] n (omega arith)
tests-nest (typed.AndStatement all s) l t at n some = tests-nest all l t at n some
tests-nest (typed.AndDeclaration all d) l t at n some = tests-nest all l t at n some
tests-nest (typed.AndCase all place e z) l t at n some =
    nests-then (Line (S ∷ B ∷ [])) (Then (Choice (value 1) (Line (L ∷ [])) (Line [])) (IsCodeOfTests all l t at)) n
    (nests-line (S ∷ B ∷ []) n (omega arith))
    (nests-then (Choice (value 1) (Line (L ∷ [])) (Line [])) (IsCodeOfTests all l t at) n
    (nests-choice (value 1) (Line (L ∷ [])) (Line []) n some (nests-line (L ∷ []) (n - 1) (omega arith)) (nests-line [] (n - 1) (omega arith)))
    (tests-nest all l t at n some))
  where
    S : Instr
    S = instr.Set (set.Integer (value 1) z t)

    B : Instr
    B = instr.Calculate (calculate.Binary (value 1) (operator.Compare comparison.Equal) (value 1) (value 0) t at)

    L : Instr
    L = instr.Set (set.Integer (label_of l) (pos (suc (labels all))) unsigned_long)
tests-nest (typed.AndDefault all place) l t at n some = tests-nest all l t at n some

guarded-nest : (j l : ℕ) (at : Place) (P : Form) (n : ℕ) → 0 < n → Nests (n - 1) P → Nests n (Guarded j l at P)
guarded-nest j l at P n some p =
    nests-then (Line (guard_code j l at)) (Choice (value 0) P (Line [])) n (nests-line (guard_code j l at) n (omega arith))
    (nests-choice (value 0) P (Line []) n some p (nests-line [] (n - 1) (omega arith)))

module _ (s : Stage) (k : lowered.Context) where
  -- Initialisers

  mutual
    pub nested-initialiser : (i : TypedInitialiser) (at : Place) (t : TypeId) (base : ℕ) (o : Initialised) (n : ℕ) → IsReadyInitialiser s t i
        → initialiser_height (erased_initialiser i) ≤ suc n → Nests n (IsCodeOfInitialiser i k at t base o)
    nested-initialiser (typed.Value e) at t base o n r m =
        nests-then (IsCodeOf e k 0) (Line (instr.Access (access.Store (part o base) (value 0) t at at) ∷ [])) n
        (nested s k e (Unit {0}) 0 n r.0 m) (nests-line (instr.Access (access.Store (part o base) (value 0) t at at) ∷ []) n (omega arith))
    nested-initialiser (typed.Copied p seat) at t base o n r m = flat-place s k p 0 (after.Copy (part o base) seat (place_at p) t seat) n r.0 m
    nested-initialiser (typed.Text pieces bytes) at t base o n r m =
        nests-more (Line (text_code k.table o (element_of_shape (shape_at k.table t)) at base bytes)) 0 n (omega arith)
        (nests-line (text_code k.table o (element_of_shape (shape_at k.table t)) at base bytes) 0
        (text-flat k.table o (element_of_shape (shape_at k.table t)) at base bytes))
    nested-initialiser (typed.Listed brace items comma u) at t base o n r m =
        nested-items items (is_only_text items && is_char_array s.table t) t base o n r.1 (omega (arith, m))

    pub nested-items : (l : TypedItems) (text : Bool) (t : TypeId) (base : ℕ) (o : Initialised) (n : ℕ) → AreReadyItems s text t l
        → items_height (erased_items l) ≤ suc n → Nests n (IsCodeOfItems l k base o)
    nested-items typed.NoItem text t base o n r m = nests-line [] n (omega arith)
    nested-items (typed.AndItem all offset u i) text t base o n r m =
        nests-then (IsCodeOfItems all k base o) (IsCodeOfInitialiser i k (item_place i) u (base + offset) o) n
        (nested-items all text t base o n r.0 (omega (arith, m))) (nested-initialiser i (item_place i) u (base + offset) o n r.1 (omega (arith, m)))

  pub nested-object : (node : NodeId) (t : TypeId) (at : Place) (i : TypedInitialiser) (n : ℕ) → IsReadyInitialiser s t i
      → initialiser_height (erased_initialiser i) ≤ suc n → Nests n (IsCodeOfObject node t at i k)
  nested-object node t at i n r m c (o, got, x) =
      nests-then (Clears (clears k.table i) o) (IsCodeOfInitialiser i k at t 0 (record { object = o; node = node; type = t })) n
      (clears-flat (clears k.table i) o n) (nested-initialiser i at t 0 (record { object = o; node = node; type = t }) n r m) c x

  by-home : (h : Home) (static : Stage) (t : TypeId) (at : Place) (i : TypedInitialiser) (n : ℕ) → IsReadyInitialiser (initialised_in h s static) t i
      → initialiser_height (erased_initialiser i) ≤ suc n → Nests n (IsCodeOfDeclared h t at i k)
  by-home (home.Local node) static t at i n r m = nested-object node t at i n r m
  by-home other static t at i n r m = nests-line [] n (omega arith)

  nested-declarators : (all : TypedInitDeclarators) (static : Stage) (n : ℕ) → AreReadyDeclarators s static all
      → init_declarators_height (erased_init_declarators all) ≤ suc n → Nests n (IsCodeOfDeclarators all k)
  nested-declarators typed.NoInitDeclarator static n r m = nests-line [] n (omega arith)
  nested-declarators (typed.AndPlain all (typed.Declares form t)) static n r m = nested-declarators all static n r.0 (omega (arith, m))
  nested-declarators (typed.AndInitialised all (typed.Declares form t) at i) static n (before, ready, complete, there, object, given) m =
      nests-then (IsCodeOfDeclarators all k) (IsCodeOfDeclared (home_of (typed.Declares form t)) t at i k) n
      (nested-declarators all static n before (omega (arith, m)))
      (by-home (home_of (typed.Declares form t)) static t at i n given (omega (arith, m)))

  pub nested-declaration : (d : TypedDeclaration) (static : Stage) (n : ℕ) → IsReadyDeclaration s static d
      → declaration_height (erased_declaration d) ≤ suc n → Nests n (IsCodeOfDeclaration d k)
  nested-declaration (typed.Declare specifiers all) static n r m = nested-declarators all static n r.1 (omega (arith, m))

  -- Statements

  effect-nest : (o : Option TypedExpr) (n : ℕ) → IsReadyOptional s o → optional o ≤ suc n → Nests n (IsCodeOfEffect o k)
  effect-nest None n r m = nests-line [] n (omega arith)
  effect-nest (Some e) n r m = nested s k e (Unit {0}) 0 n r.0 m

  test-nest : (o : Option TypedExpr) (n : ℕ) → 0 < n → IsReadyTestOrNone s o → optional o ≤ suc n → Nests n (IsCodeOfTest o k)
  test-nest None n some r m = nests-line [] n (omega arith)
  test-nest (Some e) n some r m =
      nests-sides (value 0) (IsCodeOf e k 0) (Line []) (Line (instr.Break 0 ∷ [])) n some (nested s k e (Unit {0}) 0 n r.0 m)
      (nests-line [] (n - 1) (omega arith)) (nests-line (instr.Break 0 ∷ []) (n - 1) (omega arith))

  -- what is repeated by `for`
  loop-nest : (c step : Option TypedExpr) (P : Form) (n : ℕ) → 1 < n → IsReadyTestOrNone s c → IsReadyOptional s step → optional c ≤ n
      → optional step ≤ n → Nests (n - 2) P
      → Nests n (Looped (Then (IsCodeOfTest c k) (Then (Blocked P) (IsCodeOfEffect step k))))
  loop-nest c step P n some rc rt hc ht p =
      nests-loop (Then (IsCodeOfTest c k) (Then (Blocked P) (IsCodeOfEffect step k))) n (omega (arith, some))
      (nests-then (IsCodeOfTest c k) (Then (Blocked P) (IsCodeOfEffect step k)) (n - 1)
      (test-nest c (n - 1) (omega (arith, some)) rc (omega (arith, hc, some)))
      (nests-then (Blocked P) (IsCodeOfEffect step k) (n - 1)
      (nests-block P (n - 1) (omega (arith, some)) (nests-more P (n - 2) (n - 1 - 1) (omega (arith, some)) p))
      (effect-nest step (n - 1) rt (omega (arith, ht, some)))))

  -- the pieces of a `switch`
  abbrev PiecesNest : TypedBlockItems → Nesting → Place → ℕ → Type 0
  PiecesNest items v at n = (closed last : List Instr) → IsCodeOfPieces items k v at closed last
      → (nest_of_code closed ≤ n) × (nest_of_code last ≤ n - 1)

  switch-nest : (e : TypedExpr) (items : TypedBlockItems) (at paren brace : Place) (v : Nesting) (n : ℕ) → 1 < n → IsReady s e → height e ≤ n
      → PiecesNest items v at (n - 1) → Nests n (IsCodeOfStatement (typed.Switch at paren e brace items) k v)
  unfolding When
  switch-nest e items at paren brace v n some r m p code (few, h) =
      nests-block (Then E (Then I (Then Q R))) n (omega (arith, some))
      (nests-then E (Then I (Then Q R)) (n - 1) (nested s k e (Unit {0}) 0 (n - 1) r (omega (arith, m, some)))
      (nests-then I (Then Q R) (n - 1) (nests-line (C ∷ S ∷ []) (n - 1) (omega arith))
      (nests-then Q R (n - 1) (tests-nest items v.switches (type_of e) at (n - 1) (omega (arith, some)))
      (λ c (closed, last, made, d). nests-then (Line closed) (Guarded (labels items) v.switches at (Line last)) (n - 1)
      (nests-line closed (n - 1) (p closed last made).0)
      (guarded-nest (labels items) v.switches at (Line last) (n - 1) (omega (arith, some)) (nests-line last (n - 1 - 1) (p closed last made).1))
      c d)))) code h
    where
      C : Instr
      C = instr.Convert (convert.Integer work (value 0) (type_of e))

      S : Instr
      S = instr.Set (set.Integer (label_of v.switches) (pos (otherwise items)) unsigned_long)

      E : Form
      E = IsCodeOf e k 0

      I : Form
      I = Line (C ∷ S ∷ [])

      Q : Form
      Q = IsCodeOfTests items v.switches (type_of e) at

      R : Form
      R = λ c. (closed last : List Instr) × IsCodeOfPieces items k v at closed last
          × Then (Line closed) (Guarded (labels items) v.switches at (Line last)) c

  closes : (j : ℕ) (v : Nesting) (at : Place) (n : ℕ) (x closed last c : List Instr) → 0 < n → (nest_of_code c ≤ n) × (nest_of_code x ≤ n - 1)
      → Then (Line c) (Guarded j v.switches at (Line x)) closed → Line [] last → (nest_of_code closed ≤ n) × (nest_of_code last ≤ n - 1)
  closes j v at n x closed last c some p h l = (
    nests-then (Line c) (Guarded j v.switches at (Line x)) n (nests-line c n p.0)
        (guarded-nest j v.switches at (Line x) n some (nests-line x (n - 1) p.1)) closed h,
    nests-line [] (n - 1) (omega arith) last l,
  )

  mutual
    pub nested-statement : (st : TypedStatement) (a : Around) (static : Stage) (v : Nesting) (n : ℕ) → IsReadyStatement s static a st
        → 2 * statement st ≤ n + 2 → Nests n (IsCodeOfStatement st k v)
    nested-statement (typed.Block brace items) a static v n r m = nested-block items a None static v n r (omega (arith, m))
    nested-statement (typed.Express e) a static v n r m = nested s k e (Unit {0}) 0 n r.0 (omega (arith, m))
    nested-statement typed.Empty a static v n r m = nests-line [] n (omega arith)
    nested-statement (typed.If at paren c st) a static v n (rc, rs) m =
        nests-sides (value 0) (IsCodeOf c k 0) (IsCodeOfStatement st k v) (Line []) n (omega (arith, m, statement-some (erased_statement st)))
        (nested s k c (Unit {0}) 0 n rc.0 (omega (arith, m)))
        (nested-statement st a static v (n - 1) rs (omega (arith, m, statement-some (erased_statement st)))) (nests-line [] (n - 1) (omega arith))
    nested-statement (typed.IfElse at paren c st su) a static v n (rc, rs, ru) m =
        nests-sides (value 0) (IsCodeOf c k 0) (IsCodeOfStatement st k v) (IsCodeOfStatement su k v) n
        (omega (arith, m, statement-some (erased_statement st))) (nested s k c (Unit {0}) 0 n rc.0 (omega (arith, m)))
        (nested-statement st a static v (n - 1) rs (omega (arith, m, statement-some (erased_statement st))))
        (nested-statement su a static v (n - 1) ru (omega (arith, m, statement-some (erased_statement st))))
    nested-statement (typed.Switch at paren e brace items) a static v n (re, on, ri) m =
        switch-nest e items at paren brace v n (omega (arith, m, height-some (erased e))) re (omega (arith, m))
        (nested-pieces items at (in_a_switch a) (Some (type_of e)) static v (n - 1) (omega (arith, m, height-some (erased e))) ri
        (omega (arith, m, height-some (erased e))))
    nested-statement (typed.While at paren c st) a static v n (rc, rs) m =
        nests-loop (Then (IsCodeOfTest (Some c) k) (Blocked (IsCodeOfStatement st k (in_loop v)))) n
        (omega (arith, m, height-some (erased c)))
        (nests-then (IsCodeOfTest (Some c) k) (Blocked (IsCodeOfStatement st k (in_loop v))) (n - 1)
        (test-nest (Some c) (n - 1) (omega (arith, m, height-some (erased c))) rc (omega (arith, m, height-some (erased c))))
        (nests-block (IsCodeOfStatement st k (in_loop v)) (n - 1) (omega (arith, m, height-some (erased c)))
        (nested-statement st (in_a_loop a) static (in_loop v) (n - 1 - 1) rs (omega (arith, m, height-some (erased c))))))
    nested-statement (typed.DoWhile st at paren c) a static v n (rs, rc) m =
        nests-loop (Then (Blocked (IsCodeOfStatement st k (in_loop v))) (IsCodeOfTest (Some c) k)) n
        (omega (arith, m, height-some (erased c)))
        (nests-then (Blocked (IsCodeOfStatement st k (in_loop v))) (IsCodeOfTest (Some c) k) (n - 1)
        (nests-block (IsCodeOfStatement st k (in_loop v)) (n - 1) (omega (arith, m, height-some (erased c)))
        (nested-statement st (in_a_loop a) static (in_loop v) (n - 1 - 1) rs (omega (arith, m, height-some (erased c)))))
        (test-nest (Some c) (n - 1) (omega (arith, m, height-some (erased c))) rc (omega (arith, m, height-some (erased c)))))
    nested-statement (typed.For at paren first c step st) a static v n (rf, rc, rt, rs) m =
        nests-then (IsCodeOfEffect first k) (Looped (Then (IsCodeOfTest c k) (Then (Blocked (IsCodeOfStatement st k (in_loop v)))
        (IsCodeOfEffect step k)))) n (effect-nest first n rf (omega (arith, m)))
        (loop-nest c step (IsCodeOfStatement st k (in_loop v)) n (omega (arith, m, statement-some (erased_statement st))) rc rt (omega (arith, m))
        (omega (arith, m))
        (nested-statement st (in_a_loop a) static (in_loop v) (n - 2) rs (omega (arith, m, statement-some (erased_statement st)))))
    nested-statement (typed.ForDeclaration at paren d c step st) a static v n (rf, rc, rt, rs) m =
        nests-then (IsCodeOfDeclaration d k) (Looped (Then (IsCodeOfTest c k) (Then (Blocked (IsCodeOfStatement st k (in_loop v)))
        (IsCodeOfEffect step k)))) n (nested-declaration d static n rf (omega (arith, m)))
        (loop-nest c step (IsCodeOfStatement st k (in_loop v)) n (omega (arith, m, statement-some (erased_statement st))) rc rt (omega (arith, m))
        (omega (arith, m))
        (nested-statement st (in_a_loop a) static (in_loop v) (n - 2) rs (omega (arith, m, statement-some (erased_statement st)))))
    nested-statement (typed.Break at) a static v n r m = nests-line (instr.Break v.breaks ∷ []) n (omega arith)
    nested-statement (typed.Continue at) a static v n r m = nests-line (instr.Break v.continues ∷ []) n (omega arith)
    nested-statement (typed.Return at None) a static v n r m = nests-line (instr.Return ∷ []) n (omega arith)
    nested-statement (typed.Return at (Some e)) a static v n r m =
        nests-then (IsCodeOf e k 0) (Line (instr.ReturnValue (value 0) (type_of e) at ∷ [])) n (nested s k e (Unit {0}) 0 n r.0 (omega (arith, m)))
        (nests-line (instr.ReturnValue (value 0) (type_of e) at ∷ []) n (omega arith))

    pub nested-block : (items : TypedBlockItems) (a : Around) (on : Option TypeId) (static : Stage) (v : Nesting) (n : ℕ)
        → AreReadyBlockItems s static a on items → 2 * block items ≤ n + 2 → Nests n (IsCodeOfBlock items k v)
    nested-block typed.NoBlockItem a on static v n r m = nests-line [] n (omega arith)
    nested-block (typed.AndStatement all st) a on static v n r m =
        nests-then (IsCodeOfBlock all k v) (IsCodeOfStatement st k v) n (nested-block all a on static v n r.0 (omega (arith, m)))
        (nested-statement st a static v n r.1 (omega (arith, m)))
    nested-block (typed.AndDeclaration all d) a on static v n r m =
        nests-then (IsCodeOfBlock all k v) (IsCodeOfDeclaration d k) n (nested-block all a on static v n r.0 (omega (arith, m)))
        (nested-declaration d static n r.1 (omega (arith, m)))
    nested-block (typed.AndCase all at e z) a on static v n r m = nested-block all a on static v n r.0 (omega (arith, m))
    nested-block (typed.AndDefault all at) a on static v n r m = nested-block all a on static v n r m

    nested-pieces : (items : TypedBlockItems) (at : Place) (a : Around) (on : Option TypeId) (static : Stage) (v : Nesting) (n : ℕ) → 0 < n
        → AreReadyBlockItems s static a on items → 2 * block items ≤ n + 1 → PiecesNest items v at n
    nested-pieces typed.NoBlockItem at a on static v n some r m closed last h =
        (nests-line [] n (omega arith) closed h.0, nests-line [] (n - 1) (omega arith) last h.1)
    nested-pieces (typed.AndStatement all st) at a on static v n some r m closed last (x, before, h) =
        let p = nested-pieces all at a on static v n some r.0 (omega (arith, m)) closed x before in (
          p.0,
          nests-then (Line x) (IsCodeOfStatement st k (in_switch v)) (n - 1) (nests-line x (n - 1) p.1)
              (nested-statement st a static (in_switch v) (n - 1) r.1 (omega (arith, m, some))) last h,
        )
    nested-pieces (typed.AndDeclaration all d) at a on static v n some r m closed last (x, before, h) =
        let p = nested-pieces all at a on static v n some r.0 (omega (arith, m)) closed x before in (
          p.0,
          nests-then (Line x) (IsCodeOfDeclaration d k) (n - 1) (nests-line x (n - 1) p.1)
              (nested-declaration d static (n - 1) r.1 (omega (arith, m, some))) last h,
        )
    nested-pieces (typed.AndCase all place e z) at a on static v n some r m closed last (c, x, before, h, l) =
        closes (labels all) v at n x closed last c some (nested-pieces all at a on static v n some r.0 (omega (arith, m)) c x before) h l
    nested-pieces (typed.AndDefault all place) at a on static v n some r m closed last (c, x, before, h, l) =
        closes (labels all) v at n x closed last c some (nested-pieces all at a on static v n some r m c x before) h l
