-- How many pointers the copies of a statement's code move, and those of the static initialisers in it: as many at most as are counted.
use Rattle.std.specs.Prelude.{sum_by}
use Rattle.std.proofs.Common.{ℕ, suc, ◌≤◌, ◌+◌, ◌≡◌, ap, sym, subst, Bool, true, false, List, [], ◌∷◌, ◌++◌, length, arith, Option, Some, None, pos}
use Rattle.std.proofs.lemmas.List.Sums.{sum_by-append}
use Rattle.cc_base.specs.declared.place.Place.{Place}
use Rattle.cc_base.specs.declared.number.NodeId.{NodeId}
use Rattle.cc_base.specs.declared.number.TypeId.{TypeId}
use Rattle.c_types.specs.Sound.{IsWellFormed}
use Rattle.c_types.specs.Table.{Table, shape_at}
use Rattle.c_tree.specs.TypedTree as typed
use Rattle.c_tree.specs.TypedTree.{TypedExpr, TypedDeclarator, TypedInitialiser, TypedItems, TypedInitDeclarators, TypedDeclaration, TypedStatement, TypedBlockItems}
use Rattle.c_tree.specs.TypedParts as made
use Rattle.c_tree.specs.TypedParts.{Made, StaticInitialiser, type_of, place_type, place_at, item_place, home_of, home_of_form, declared_type, static_home, initialises, initialisers_in_declarators, initialisers_in_declaration, initialisers_in, initialisers_in_items, made_by, made_by_place, made_by_specifiers, made_by_declarator, made_by_initialiser, made_by_items, made_by_init_declarators, made_by_declaration, made_by_optional, made_by_statement, made_by_block_items}
use Rattle.c_tree.specs.declared.typed_word.Home.{Home}
use Rattle.c_tree.specs.declared.typed_word.Home.TheVariants as home
use Rattle.c_ready.specs.Rows.{Around, in_a_loop, in_a_switch}
use Rattle.c_ready.specs.Ready.{Stage, IsReadyInitialiser, AreReadyItems, AreReadyDeclarators, IsReadyDeclaration, IsReadyStatement, AreReadyBlockItems, initialised_in}
use Rattle.src_mem.specs.Uses.{pointer_offsets}
use Rattle.src_machine.specs.Statements.{labels, otherwise, element_of_shape, clears}
use Rattle.cil_form.specs.declared.number.Object.{Object}
use Rattle.cil_form.specs.declared.instr.Access.TheVariants as access
use Rattle.cil_form.specs.declared.instr.Calculate.TheVariants as calculate
use Rattle.cil_form.specs.declared.instr.Comparison.TheVariants as comparison
use Rattle.cil_form.specs.declared.instr.Convert.TheVariants as convert
use Rattle.cil_form.specs.declared.instr.Operator.TheVariants as operator
use Rattle.cil_form.specs.declared.instr.Set.TheVariants as set
use Rattle.cil_form.specs.declared.instr.Instr.{Instr}
use Rattle.cil_form.specs.declared.instr.Instr.TheVariants as instr
use Rattle.cil_form.specs.declared.number.Temp.{Temp}
use Rattle.lower_rules.specs.declared.after.After.{After}
use Rattle.lower_rules.specs.declared.after.After.TheVariants as after
use Rattle.lower_rules.specs.Pieces.{Form, Line, Then, Choice, Blocked, Looped, When}
use Rattle.lower_rules.specs.Words as lowered
use Rattle.lower_rules.specs.Words.{value, work, unsigned_long, Follows}
use Rattle.lower_rules.specs.Expressions.{IsCodeOf, IsCodeOfPlace}
use Rattle.lower_rules.specs.Initialisers.{Initialised, part, text_code, Clears, IsCodeOfInitialiser, IsCodeOfItems, IsCodeOfObject, IsCodeOfDeclared, IsCodeOfDeclarators, IsCodeOfDeclaration}
use Rattle.lower_rules.specs.Statements.{Nesting, in_loop, in_switch, label_of, guard_code, IsCodeOfEffect, IsCodeOfTest, IsCodeOfTests, Guarded, IsCodeOfStatement, IsCodeOfBlock, IsCodeOfPieces}
use Rattle.lower_shape.proofs.Cells.{counted, counted-both, copied-most, cells, Moved, cells-append, cells-held, moved-more, moved-line, moved-then, moved-choice, follows-moved, one-part, both-parts, value-moved, place-moved}

-- Code beside static initialisers

-- what is counted for static initialisers
abbrev pub counted_in : Table → List StaticInitialiser → ℕ
counted_in T is = sum_by (λ (i : StaticInitialiser). counted T (made_by_initialiser i.initialiser)) is

pub counted_in-both : (T : Table) (xs ys : List StaticInitialiser) → counted_in T (xs ++ ys) ≡ counted_in T xs + counted_in T ys
counted_in-both T xs ys = sum_by-append (λ (i : StaticInitialiser). counted T (made_by_initialiser i.initialiser)) xs ys

module _ (T : Table) where
  -- all code of the form moves at most n beside m
  abbrev pub Beside : ℕ → ℕ → Form → Type 0
  Beside n m P = (c : List Instr) → P c → cells T c + m ≤ n

  alone : (P : Form) (n : ℕ) → Moved T n P → Beside n 0 P
  alone P n p c d = omega (arith, p c d)

  beside-more : (P : Form) (n m n' m' : ℕ) → n ≤ n' → m' ≤ m → Beside n m P → Beside n' m' P
  beside-more P n m n' m' l r p c d = omega (arith, l, r, p c d)

  beside-then : (P Q : Form) (n m n' m' : ℕ) → Beside n m P → Beside n' m' Q → Beside (n + n') (m + m') (Then P Q)
  unfolding Then
  beside-then P Q n m n' m' p q c d =
      let r = cells-append T d.0 d.1 in
      subst (λ z. cells T z + (m + m') ≤ n + n') (sym d.4) (omega (arith, r, p d.0 d.2, q d.1 d.3))

  beside-choice : (t : Temp) (P Q : Form) (n m n' m' : ℕ) → Beside n m P → Beside n' m' Q → Beside (n + n') (m + m') (Choice t P Q)
  unfolding Choice
  beside-choice t P Q n m n' m' p q c d =
      let a = cells-held T d.0 in let b = cells-held T d.1 in
      subst (λ z. cells T z + (m + m') ≤ n + n') (sym d.4) (omega (arith, a, b, p d.0.0.items d.2, q d.1.0.items d.3))

  beside-block : (P : Form) (n m : ℕ) → Beside n m P → Beside n m (Blocked P)
  unfolding Blocked
  beside-block P n m p c d = let a = cells-held T d.0 in subst (λ z. cells T z + m ≤ n) (sym d.2) (omega (arith, a, p d.0.0.items d.1))

  beside-loop : (P : Form) (n m : ℕ) → Beside n m P → Beside n m (Looped P)
  unfolding Looped
  beside-loop P n m p c d = let a = cells-held T d.0 in subst (λ z. cells T z + m ≤ n) (sym d.2) (omega (arith, a, p d.0.0.items d.1))

  text-still : (U : Table) (o : Initialised) (char : TypeId) (at : Place) (base : ℕ) (bytes : List ℕ)
      → cells T (text_code U o char at base bytes) ≤ 0
  text-still U o char at base [] = omega arith
  text-still U o char at base (c ∷ bytes) = rest (text-still U o char at (base + 1) bytes)
    where
      rest : cells T (text_code U o char at (base + 1) bytes) ≤ 0 → cells T (text_code U o char at base (c ∷ bytes)) ≤ 0
      rest h = omega (arith, h)

  clears-still : (c : Bool) (o : Object) → Moved T 0 (Clears c o)
  unfolding Clears
  clears-still true o = moved-line T (instr.Access (access.Clear o) ∷ []) 0 (omega arith)
  clears-still false o = moved-line T [] 0 (omega arith)

  tests-still : (items : TypedBlockItems) (l : ℕ) (t : TypeId) (at : Place) → Moved T 0 (IsCodeOfTests items l t at)
  tests-still typed.NoBlockItem l t at = moved-line T [] 0 (omega arith)
  tests-still (typed.AndStatement all s) l t at = tests-still all l t at
  tests-still (typed.AndDeclaration all d) l t at = tests-still all l t at
  tests-still (typed.AndCase all place e z) l t at =
      moved-then T (Line (S ∷ B ∷ [])) (Then (Choice (value 1) (Line (L ∷ [])) (Line [])) (IsCodeOfTests all l t at)) 0 0
      (moved-line T (S ∷ B ∷ []) 0 (omega arith))
      (moved-then T (Choice (value 1) (Line (L ∷ [])) (Line [])) (IsCodeOfTests all l t at) 0 0
      (moved-choice T (value 1) (Line (L ∷ [])) (Line []) 0 (moved-line T (L ∷ []) 0 (omega arith)) (moved-line T [] 0 (omega arith)))
      (tests-still all l t at))
    where
      S : Instr
      S = instr.Set (set.Integer (value 1) z t)

      B : Instr
      B = instr.Calculate (calculate.Binary (value 1) (operator.Compare comparison.Equal) (value 1) (value 0) t at)

      L : Instr
      L = instr.Set (set.Integer (label_of l) (pos (suc (labels all))) unsigned_long)
  tests-still (typed.AndDefault all place) l t at = tests-still all l t at

  -- a piece with its guard
  guarded-moved : (j l : ℕ) (at : Place) (x : List Instr) → Moved T (cells T x) (Guarded j l at (Line x))
  guarded-moved j l at x =
      moved-more T (Guarded j l at (Line x)) (0 + cells T x) (cells T x) (omega arith)
      (moved-then T (Line (guard_code j l at)) (Choice (value 0) (Line x) (Line [])) 0 (cells T x) (moved-line T (guard_code j l at) 0 (omega arith))
      (moved-choice T (value 0) (Line x) (Line []) (cells T x) (moved-line T x (cells T x) (omega arith)) (moved-line T [] (cells T x)
      (omega arith))))

module _ (T : Table) (w : IsWellFormed T) (s : Stage) (k : lowered.Context) where
  mutual
    initialiser-moved : (i : TypedInitialiser) (at : Place) (t : TypeId) (base : ℕ) (o : Initialised) → IsReadyInitialiser s t i
        → Moved T (counted T (made_by_initialiser i)) (IsCodeOfInitialiser i k at t base o)
    initialiser-moved (typed.Value e) at t base o r =
        one-part T w k (IsCodeOf e k 0) (Line (instr.Access (access.Store (part o base) (value 0) t at at) ∷ [])) (made_by e) (counted T (made_by e))
        (omega arith) (value-moved T w k e (Unit {0}) 0) (moved-line T (instr.Access (access.Store (part o base) (value 0) t at at) ∷ []) 0
        (omega arith))
    initialiser-moved (typed.Copied p seat) at t base o r =
        moved-more T (IsCodeOfPlace p k 0 (Follows A 0)) (counted T (made_by_place p) + length (pointer_offsets T t))
        (counted T (made_by_place p ++ made.Copy (place_type p) ∷ []))
        (omega (
          arith,
          counted-both T (made_by_place p) (made.Copy (place_type p) ∷ []),
          copied-most T w (place_type p),
          ap (λ z. length (pointer_offsets T z)) r.2,
        ))
        (place-moved T w k p 0 (Follows A 0) (length (pointer_offsets T t)) (λ v. follows-moved T A 0 v))
      where
        A : After
        A = after.Copy (part o base) seat (place_at p) t seat
    initialiser-moved (typed.Text pieces bytes) at t base o r =
        moved-line T (text_code k.table o (element_of_shape (shape_at k.table t)) at base bytes) 0
        (text-still T k.table o (element_of_shape (shape_at k.table t)) at base bytes)
    initialiser-moved (typed.Listed brace items comma u) at t base o r = items-moved items _ t base o r.1

    items-moved : (l : TypedItems) (text : Bool) (t : TypeId) (base : ℕ) (o : Initialised) → AreReadyItems s text t l
        → Moved T (counted T (made_by_items l)) (IsCodeOfItems l k base o)
    items-moved typed.NoItem text t base o r = moved-line T [] 0 (omega arith)
    items-moved (typed.AndItem all offset u i) text t base o r =
        both-parts T w k (IsCodeOfItems all k base o) (IsCodeOfInitialiser i k (item_place i) u (base + offset) o) (made_by_items all)
        (made_by_initialiser i) (items-moved all text t base o r.0) (initialiser-moved i (item_place i) u (base + offset) o r.1)

  pub object-moved : (node : NodeId) (t : TypeId) (at : Place) (i : TypedInitialiser) → IsReadyInitialiser s t i
      → Moved T (counted T (made_by_initialiser i)) (IsCodeOfObject node t at i k)
  object-moved node t at i r c (o, got, x) =
      moved-more T (Then (Clears (clears k.table i) o) (IsCodeOfInitialiser i k at t 0 O)) (0 + counted T (made_by_initialiser i))
      (counted T (made_by_initialiser i)) (omega arith)
      (moved-then T (Clears (clears k.table i) o) (IsCodeOfInitialiser i k at t 0 O) 0 (counted T (made_by_initialiser i))
      (clears-still T (clears k.table i) o) (initialiser-moved i at t 0 O r)) c x
    where
      O : Initialised
      O = record { object = o; node = node; type = t }

  nothing : (n : ℕ) → Beside T n (0 + n) (Line [])
  unfolding Line
  nothing n c d = subst (λ z. cells T z + (0 + n) ≤ n) (sym d) (omega arith)

  declared-moved : (h : Home) (static : Stage) (t : TypeId) (at : Place) (i : TypedInitialiser) → IsReadyInitialiser (initialised_in h s static) t i
      → Beside T (counted T (made_by_initialiser i)) (counted_in T (initialises (static_home h) t at i)) (IsCodeOfDeclared h t at i k)
  declared-moved (home.Local node) static t at i r =
      alone T (IsCodeOfObject node t at i k) (counted T (made_by_initialiser i)) (object-moved node t at i r)
  declared-moved (home.Static n) static t at i r =
      nothing (counted T (made_by_initialiser i))
  declared-moved (home.Known n) static t at i r =
      nothing (counted T (made_by_initialiser i))
  declared-moved home.None static t at i r = alone T (Line []) (counted T (made_by_initialiser i)) (moved-line T [] _ (omega arith))
  declared-moved (home.Parameter n) static t at i r = alone T (Line []) (counted T (made_by_initialiser i)) (moved-line T [] _ (omega arith))

  declarators-moved : (all : TypedInitDeclarators) (static : Stage) → AreReadyDeclarators s static all
      → Beside T (counted T (made_by_init_declarators all)) (counted_in T (initialisers_in_declarators all)) (IsCodeOfDeclarators all k)
  declarators-moved typed.NoInitDeclarator static r = alone T (Line []) 0 (moved-line T [] 0 (omega arith))
  declarators-moved (typed.AndPlain all (typed.Declares form t)) static r =
      let A = made_by_init_declarators all in let D = made_by_declarator (typed.Declares form t) in
      let m = counted_in T (initialisers_in_declarators all) in
      beside-more T (IsCodeOfDeclarators all k) (counted T A) m (counted T (A ++ D)) m (omega (arith, counted-both T A D)) (omega arith)
      (declarators-moved all static r.0)
  declarators-moved (typed.AndInitialised all (typed.Declares form t) at i) static r =
      let d : TypedDeclarator = typed.Declares form t in
      let A = made_by_init_declarators all in let D = made_by_declarator d in let I = made_by_initialiser i in
      let x = initialisers_in_declarators all in let y = initialises (static_home (home_of d)) t at i in
      beside-more T (Then (IsCodeOfDeclarators all k) (IsCodeOfDeclared (home_of d) t at i k)) (counted T A + counted T I)
      (counted_in T x + counted_in T y) (counted T (A ++ D ++ I)) (counted_in T (x ++ y))
      (omega (arith, counted-both T (A ++ D) I, counted-both T A D)) (omega (arith, counted_in-both T x y))
      (beside-then T (IsCodeOfDeclarators all k) (IsCodeOfDeclared (home_of d) t at i k) (counted T A) (counted_in T x) (counted T I) (counted_in T y)
      (declarators-moved all static r.0) (declared-moved (home_of d) static t at i r.5))

  declaration-moved : (d : TypedDeclaration) (static : Stage) → IsReadyDeclaration s static d
      → Beside T (counted T (made_by_declaration d)) (counted_in T (initialisers_in_declaration d)) (IsCodeOfDeclaration d k)
  declaration-moved (typed.Declare specifiers all) static r =
      let S = made_by_specifiers specifiers in let A = made_by_init_declarators all in let m = counted_in T (initialisers_in_declarators all) in
      beside-more T (IsCodeOfDeclarators all k) (counted T A) m (counted T (S ++ A)) m (omega (arith, counted-both T S A)) (omega arith)
      (declarators-moved all static r.1)

  -- Statements

  effect-moved : (o : Option TypedExpr) → Moved T (counted T (made_by_optional o)) (IsCodeOfEffect o k)
  effect-moved None = moved-line T [] 0 (omega arith)
  effect-moved (Some e) = value-moved T w k e (Unit {0}) 0

  test-moved : (o : Option TypedExpr) → Moved T (counted T (made_by_optional o)) (IsCodeOfTest o k)
  test-moved None = moved-line T [] 0 (omega arith)
  test-moved (Some e) =
      one-part T w k (IsCodeOf e k 0) (Choice (value 0) (Line []) (Line (instr.Break 0 ∷ []))) (made_by e) (counted T (made_by e)) (omega arith)
      (value-moved T w k e (Unit {0}) 0)
      (moved-choice T (value 0) (Line []) (Line (instr.Break 0 ∷ [])) 0 (moved-line T [] 0 (omega arith))
      (moved-line T (instr.Break 0 ∷ []) 0 (omega arith)))

  -- what is repeated by `for`
  loop-moved : (c step : Option TypedExpr) (P : Form) (n m : ℕ) → Beside T n m P
      → Beside T (counted T (made_by_optional c) + (n + counted T (made_by_optional step))) m
      (Looped (Then (IsCodeOfTest c k) (Then (Blocked P) (IsCodeOfEffect step k))))
  loop-moved c step P n m p =
      beside-more T (Looped (Then (IsCodeOfTest c k) (Then (Blocked P) (IsCodeOfEffect step k))))
      (counted T (made_by_optional c) + (n + counted T (made_by_optional step))) (0 + (m + 0))
      (counted T (made_by_optional c) + (n + counted T (made_by_optional step))) m (omega arith) (omega arith)
      (beside-loop T (Then (IsCodeOfTest c k) (Then (Blocked P) (IsCodeOfEffect step k)))
      (counted T (made_by_optional c) + (n + counted T (made_by_optional step))) (0 + (m + 0))
      (beside-then T (IsCodeOfTest c k) (Then (Blocked P) (IsCodeOfEffect step k)) (counted T (made_by_optional c)) 0
      (n + counted T (made_by_optional step)) (m + 0)
      (alone T (IsCodeOfTest c k) (counted T (made_by_optional c)) (test-moved c))
      (beside-then T (Blocked P) (IsCodeOfEffect step k) n m (counted T (made_by_optional step)) 0 (beside-block T P n m p)
      (alone T (IsCodeOfEffect step k) (counted T (made_by_optional step)) (effect-moved step)))))

  -- the pieces of a `switch`
  abbrev PiecesMove : TypedBlockItems → Nesting → Place → Type 0
  PiecesMove items v at = (closed last : List Instr) → IsCodeOfPieces items k v at closed last
      → cells T closed + cells T last + counted_in T (initialisers_in_items items) ≤ counted T (made_by_block_items items)

  switch-moved : (e : TypedExpr) (items : TypedBlockItems) (at paren brace : Place) (v : Nesting) → PiecesMove items v at
      → Beside T (counted T (made_by e ++ made_by_block_items items)) (counted_in T (initialisers_in_items items))
      (IsCodeOfStatement (typed.Switch at paren e brace items) k v)
  unfolding When
  switch-moved e items at paren brace v p code (few, h) =
      beside-more T (Blocked (Then E (Then I (Then Q R)))) (counted T (made_by e) + (0 + (0 + n))) (0 + (0 + (0 + m)))
      (counted T (made_by e ++ made_by_block_items items)) m (omega (arith, counted-both T (made_by e) (made_by_block_items items))) (omega arith)
      (beside-block T (Then E (Then I (Then Q R))) (counted T (made_by e) + (0 + (0 + n))) (0 + (0 + (0 + m)))
      (beside-then T E (Then I (Then Q R)) (counted T (made_by e)) 0 (0 + (0 + n)) (0 + (0 + m))
      (alone T E (counted T (made_by e)) (value-moved T w k e (Unit {0}) 0))
      (beside-then T I (Then Q R) 0 0 (0 + n) (0 + m) (alone T I 0 (moved-line T (C ∷ S ∷ []) 0 (omega arith)))
      (beside-then T Q R 0 0 n m (alone T Q 0 (tests-still T items v.switches (type_of e) at))
      (λ c (closed, last, made, d).
      let r = moved-then T (Line closed) (Guarded (labels items) v.switches at (Line last)) (cells T closed) (cells T last)
      (moved-line T closed (cells T closed) (omega arith)) (guarded-moved T (labels items) v.switches at last) c d in
      omega (arith, r, p closed last made)))))) code h
    where
      n : ℕ
      n = counted T (made_by_block_items items)

      m : ℕ
      m = counted_in T (initialisers_in_items items)

      C : Instr
      C = instr.Convert (convert.Integer work (value 0) (type_of e))

      S : Instr
      S = instr.Set (set.Integer (label_of v.switches) (pos (otherwise items)) unsigned_long)

      E : Form
      E = IsCodeOf e k 0

      I : Form
      I = Line (C ∷ S ∷ [])

      Q : Form
      Q = IsCodeOfTests items v.switches (type_of e) at

      R : Form
      R = λ c. (closed last : List Instr) × IsCodeOfPieces items k v at closed last
          × Then (Line closed) (Guarded (labels items) v.switches at (Line last)) c

  closes : (j : ℕ) (v : Nesting) (at : Place) (n : ℕ) (x closed last c : List Instr) → cells T c + cells T x ≤ n
      → Then (Line c) (Guarded j v.switches at (Line x)) closed → Line [] last → cells T closed + cells T last ≤ n
  closes j v at n x closed last c p h l =
      let r = moved-then T (Line c) (Guarded j v.switches at (Line x)) (cells T c) (cells T x) (moved-line T c (cells T c) (omega arith))
      (guarded-moved T j v.switches at x) closed h in
      let q = moved-line T [] 0 (omega arith) last l in omega (arith, r, q, p)

  mutual
    statement-moved : (st : TypedStatement) (a : Around) (static : Stage) (v : Nesting) → IsReadyStatement s static a st
        → Beside T (counted T (made_by_statement st)) (counted_in T (initialisers_in st)) (IsCodeOfStatement st k v)
    statement-moved (typed.Block brace items) a static v r = block-moved items a None static v r
    statement-moved (typed.Express e) a static v r = alone T (IsCodeOf e k 0) (counted T (made_by e)) (value-moved T w k e (Unit {0}) 0)
    statement-moved typed.Empty a static v r = alone T (Line []) 0 (moved-line T [] 0 (omega arith))
    statement-moved (typed.If at paren c st) a static v r =
        let n = counted T (made_by_statement st) in let m = counted_in T (initialisers_in st) in
        beside-more T (Then (IsCodeOf c k 0) (Choice (value 0) (IsCodeOfStatement st k v) (Line []))) (counted T (made_by c) + (n + 0)) (0 + (m + 0))
        (counted T (made_by c ++ made_by_statement st)) m (omega (arith, counted-both T (made_by c) (made_by_statement st))) (omega arith)
        (beside-then T (IsCodeOf c k 0) (Choice (value 0) (IsCodeOfStatement st k v) (Line [])) (counted T (made_by c)) 0 (n + 0) (m + 0)
        (alone T (IsCodeOf c k 0) (counted T (made_by c)) (value-moved T w k c (Unit {0}) 0))
        (beside-choice T (value 0) (IsCodeOfStatement st k v) (Line []) n m 0 0 (statement-moved st a static v r.1)
        (alone T (Line []) 0 (moved-line T [] 0 (omega arith)))))
    statement-moved (typed.IfElse at paren c st su) a static v r =
        let n = counted T (made_by_statement st) in let m = counted_in T (initialisers_in st) in
        let n' = counted T (made_by_statement su) in let m' = counted_in T (initialisers_in su) in
        beside-more T (Then (IsCodeOf c k 0) (Choice (value 0) (IsCodeOfStatement st k v) (IsCodeOfStatement su k v)))
        (counted T (made_by c) + (n + n')) (0 + (m + m')) (counted T (made_by c ++ made_by_statement st ++ made_by_statement su))
        (counted_in T (initialisers_in st ++ initialisers_in su))
        (omega (arith, counted-both T (made_by c ++ made_by_statement st) (made_by_statement su), counted-both T (made_by c) (made_by_statement st)))
        (omega (arith, counted_in-both T (initialisers_in st) (initialisers_in su)))
        (beside-then T (IsCodeOf c k 0) (Choice (value 0) (IsCodeOfStatement st k v) (IsCodeOfStatement su k v)) (counted T (made_by c)) 0 (n + n')
        (m + m') (alone T (IsCodeOf c k 0) (counted T (made_by c)) (value-moved T w k c (Unit {0}) 0))
        (beside-choice T (value 0) (IsCodeOfStatement st k v) (IsCodeOfStatement su k v) n m n' m' (statement-moved st a static v r.1)
        (statement-moved su a static v r.2)))
    statement-moved (typed.Switch at paren e brace items) a static v r =
        switch-moved e items at paren brace v (pieces-moved items at (in_a_switch a) (Some (type_of e)) static v r.2)
    statement-moved (typed.While at paren c st) a static v r =
        let n = counted T (made_by_statement st) in let m = counted_in T (initialisers_in st) in
        let P = IsCodeOfStatement st k (in_loop v) in
        beside-more T (Looped (Then (IsCodeOfTest (Some c) k) (Blocked P))) (counted T (made_by c) + n) (0 + m)
        (counted T (made_by c ++ made_by_statement st)) m (omega (arith, counted-both T (made_by c) (made_by_statement st))) (omega arith)
        (beside-loop T (Then (IsCodeOfTest (Some c) k) (Blocked P)) (counted T (made_by c) + n) (0 + m)
        (beside-then T (IsCodeOfTest (Some c) k) (Blocked P) (counted T (made_by c)) 0 n m
        (alone T (IsCodeOfTest (Some c) k) (counted T (made_by c)) (test-moved (Some c)))
        (beside-block T P n m (statement-moved st (in_a_loop a) static (in_loop v) r.1))))
    statement-moved (typed.DoWhile st at paren c) a static v r =
        let n = counted T (made_by_statement st) in let m = counted_in T (initialisers_in st) in
        let P = IsCodeOfStatement st k (in_loop v) in
        beside-more T (Looped (Then (Blocked P) (IsCodeOfTest (Some c) k))) (n + counted T (made_by c)) (m + 0)
        (counted T (made_by_statement st ++ made_by c)) m (omega (arith, counted-both T (made_by_statement st) (made_by c))) (omega arith)
        (beside-loop T (Then (Blocked P) (IsCodeOfTest (Some c) k)) (n + counted T (made_by c)) (m + 0)
        (beside-then T (Blocked P) (IsCodeOfTest (Some c) k) n m (counted T (made_by c)) 0
        (beside-block T P n m (statement-moved st (in_a_loop a) static (in_loop v) r.0))
        (alone T (IsCodeOfTest (Some c) k) (counted T (made_by c)) (test-moved (Some c)))))
    statement-moved (typed.For at paren first c step st) a static v r =
        let n = counted T (made_by_statement st) in let m = counted_in T (initialisers_in st) in
        let P = IsCodeOfStatement st k (in_loop v) in
        let A = made_by_optional first in let B = made_by_optional c in let D = made_by_optional step in
        beside-more T (Then (IsCodeOfEffect first k) (Looped (Then (IsCodeOfTest c k) (Then (Blocked P) (IsCodeOfEffect step k)))))
        (counted T A + (counted T B + (n + counted T D))) (0 + m) (counted T (A ++ B ++ D ++ made_by_statement st)) m
        (omega (arith, counted-both T (A ++ B ++ D) (made_by_statement st), counted-both T (A ++ B) D, counted-both T A B)) (omega arith)
        (beside-then T (IsCodeOfEffect first k) (Looped (Then (IsCodeOfTest c k) (Then (Blocked P) (IsCodeOfEffect step k)))) (counted T A) 0
        (counted T B + (n + counted T D)) m (alone T (IsCodeOfEffect first k) (counted T A) (effect-moved first))
        (loop-moved c step P n m (statement-moved st (in_a_loop a) static (in_loop v) r.3)))
    statement-moved (typed.ForDeclaration at paren d c step st) a static v r =
        let n = counted T (made_by_statement st) in let m = counted_in T (initialisers_in st) in
        let P = IsCodeOfStatement st k (in_loop v) in
        let A = made_by_declaration d in let B = made_by_optional c in let D = made_by_optional step in
        let q = counted_in T (initialisers_in_declaration d) in
        beside-more T (Then (IsCodeOfDeclaration d k) (Looped (Then (IsCodeOfTest c k) (Then (Blocked P) (IsCodeOfEffect step k)))))
        (counted T A + (counted T B + (n + counted T D))) (q + m) (counted T (A ++ B ++ D ++ made_by_statement st))
        (counted_in T (initialisers_in_declaration d ++ initialisers_in st))
        (omega (arith, counted-both T (A ++ B ++ D) (made_by_statement st), counted-both T (A ++ B) D, counted-both T A B))
        (omega (arith, counted_in-both T (initialisers_in_declaration d) (initialisers_in st)))
        (beside-then T (IsCodeOfDeclaration d k) (Looped (Then (IsCodeOfTest c k) (Then (Blocked P) (IsCodeOfEffect step k)))) (counted T A) q
        (counted T B + (n + counted T D)) m (declaration-moved d static r.0)
        (loop-moved c step P n m (statement-moved st (in_a_loop a) static (in_loop v) r.3)))
    statement-moved (typed.Break at) a static v r =
        alone T (Line (instr.Break v.breaks ∷ [])) 0 (moved-line T (instr.Break v.breaks ∷ []) 0 (omega arith))
    statement-moved (typed.Continue at) a static v r =
        alone T (Line (instr.Break v.continues ∷ [])) 0 (moved-line T (instr.Break v.continues ∷ []) 0 (omega arith))
    statement-moved (typed.Return at None) a static v r = alone T (Line (instr.Return ∷ [])) 0 (moved-line T (instr.Return ∷ []) 0 (omega arith))
    statement-moved (typed.Return at (Some e)) a static v r =
        alone T (Then (IsCodeOf e k 0) (Line (instr.ReturnValue (value 0) (type_of e) at ∷ []))) (counted T (made_by e))
        (one-part T w k (IsCodeOf e k 0) (Line (instr.ReturnValue (value 0) (type_of e) at ∷ [])) (made_by e) (counted T (made_by e)) (omega arith)
        (value-moved T w k e (Unit {0}) 0) (moved-line T (instr.ReturnValue (value 0) (type_of e) at ∷ []) 0 (omega arith)))

    pub block-moved : (items : TypedBlockItems) (a : Around) (on : Option TypeId) (static : Stage) (v : Nesting)
        → AreReadyBlockItems s static a on items
        → Beside T (counted T (made_by_block_items items)) (counted_in T (initialisers_in_items items)) (IsCodeOfBlock items k v)
    block-moved typed.NoBlockItem a on static v r = alone T (Line []) 0 (moved-line T [] 0 (omega arith))
    block-moved (typed.AndStatement all st) a on static v r =
        let A = made_by_block_items all in let B = made_by_statement st in let x = initialisers_in_items all in let y = initialisers_in st in
        beside-more T (Then (IsCodeOfBlock all k v) (IsCodeOfStatement st k v)) (counted T A + counted T B) (counted_in T x + counted_in T y)
        (counted T (A ++ B)) (counted_in T (x ++ y)) (omega (arith, counted-both T A B)) (omega (arith, counted_in-both T x y))
        (beside-then T (IsCodeOfBlock all k v) (IsCodeOfStatement st k v) (counted T A) (counted_in T x) (counted T B) (counted_in T y)
        (block-moved all a on static v r.0) (statement-moved st a static v r.1))
    block-moved (typed.AndDeclaration all d) a on static v r =
        let A = made_by_block_items all in let B = made_by_declaration d in
        let x = initialisers_in_items all in let y = initialisers_in_declaration d in
        beside-more T (Then (IsCodeOfBlock all k v) (IsCodeOfDeclaration d k)) (counted T A + counted T B) (counted_in T x + counted_in T y)
        (counted T (A ++ B)) (counted_in T (x ++ y)) (omega (arith, counted-both T A B)) (omega (arith, counted_in-both T x y))
        (beside-then T (IsCodeOfBlock all k v) (IsCodeOfDeclaration d k) (counted T A) (counted_in T x) (counted T B) (counted_in T y)
        (block-moved all a on static v r.0) (declaration-moved d static r.1))
    block-moved (typed.AndCase all at e z) a on static v r =
        let A = made_by_block_items all in let m = counted_in T (initialisers_in_items all) in
        beside-more T (IsCodeOfBlock all k v) (counted T A) m (counted T (A ++ made_by e)) m (omega (arith, counted-both T A (made_by e)))
        (omega arith)
        (block-moved all a on static v r.0)
    block-moved (typed.AndDefault all at) a on static v r = block-moved all a on static v r

    pieces-moved : (items : TypedBlockItems) (at : Place) (a : Around) (on : Option TypeId) (static : Stage) (v : Nesting)
        → AreReadyBlockItems s static a on items → PiecesMove items v at
    pieces-moved typed.NoBlockItem at a on static v r closed last h =
        omega (arith, moved-line T [] 0 (omega arith) closed h.0, moved-line T [] 0 (omega arith) last h.1)
    pieces-moved (typed.AndStatement all st) at a on static v r closed last (x, before, h) =
        let A = made_by_block_items all in let B = made_by_statement st in let xs = initialisers_in_items all in let ys = initialisers_in st in
        let p = pieces-moved all at a on static v r.0 closed x before in
        let q = beside-then T (Line x) (IsCodeOfStatement st k (in_switch v)) (cells T x) 0 (counted T B) (counted_in T ys)
        (alone T (Line x) (cells T x) (moved-line T x (cells T x) (omega arith))) (statement-moved st a static (in_switch v) r.1) last h in
        omega (arith, p, q, counted-both T A B, counted_in-both T xs ys)
    pieces-moved (typed.AndDeclaration all d) at a on static v r closed last (x, before, h) =
        let A = made_by_block_items all in let B = made_by_declaration d in
        let xs = initialisers_in_items all in let ys = initialisers_in_declaration d in
        let p = pieces-moved all at a on static v r.0 closed x before in
        let q = beside-then T (Line x) (IsCodeOfDeclaration d k) (cells T x) 0 (counted T B) (counted_in T ys)
        (alone T (Line x) (cells T x) (moved-line T x (cells T x) (omega arith))) (declaration-moved d static r.1) last h in
        omega (arith, p, q, counted-both T A B, counted_in-both T xs ys)
    pieces-moved (typed.AndCase all place e z) at a on static v r closed last (c, x, before, h, l) =
        let p = pieces-moved all at a on static v r.0 c x before in
        let q = closes (labels all) v at (cells T c + cells T x) x closed last c (omega arith) h l in
        omega (arith, p, q, counted-both T (made_by_block_items all) (made_by e))
    pieces-moved (typed.AndDefault all place) at a on static v r closed last (c, x, before, h, l) =
        let p = pieces-moved all at a on static v r c x before in
        let q = closes (labels all) v at (cells T c + cells T x) x closed last c (omega arith) h l in
        omega (arith, p, q)
