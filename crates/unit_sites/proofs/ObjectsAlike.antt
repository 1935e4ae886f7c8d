-- An object has one type, by whatever declarator: that with which it is made, or the same type (C99 6.2.7).
use Rattle.std.specs.List.{All, Contains, AllByRecursion, IsDistinct}
use Rattle.std.proofs.Common.{◌≡◌, ◌⊎◌, ℕ, Bool, true, false, List, [], ◌∷◌, ◌++◌, map, flat_map, Option, Some, None, refl, ap, sym, subst, ◌∙◌, inl, inr, if◌then◌else◌, nat_eq, arith}
use Rattle.std.proofs.lemmas.Bool.Decides.{nat_tests}
use Rattle.std.proofs.lemmas.List.{map-append}
use Rattle.std.proofs.lemmas.List.Elements.{All-nil, All-append, All-weaker, All-map, All-contains, All-contains_itself, All-from_recursion, Contains-append_cases}
use Rattle.std.proofs.lemmas.Option.{none-some}
use Rattle.cc_base.specs.declared.number.NodeId.{NodeId}
use Rattle.cc_base.specs.declared.number.TypeId.{TypeId}
use Rattle.c_types.specs.Table.{Table}
use Rattle.c_tree.specs.declared.typed_word.Home.{Home}
use Rattle.c_tree.specs.declared.typed_word.Home.TheVariants as home
use Rattle.c_tree.specs.TypedTree as typed
use Rattle.c_tree.specs.TypedTree.{TypedDeclarator, TypedInitDeclarators, TypedDeclaration, TypedStatement, TypedBlockItems, TypedTranslationUnit}
use Rattle.c_tree.specs.TypedParts as made
use Rattle.c_tree.specs.TypedParts.{Made, MadeObject, DefinedFunction, static_made, declared_type, home_of, home_of_form, type_of, statics_of, functions_of, made_by_unit, home_node}
use Rattle.c_ready.specs.Rows.{Around, in_a_loop, in_a_switch}
use Rattle.c_ready.specs.Ready.{Stage, Named, IsAlike, IsWhole, static_named, made_named, variables_named, IsReadyHome, AreReadyDeclarators, IsReadyDeclaration, IsReadyStatement, AreReadyBlockItems, AreReadyExternals, static_stage, homes_of}
use Rattle.c_ready.proofs.Basics.{all-left, all-right, unmap, flat-left, flat-right}
use Rattle.src_machine.specs.Names.{is_typedef, declarators_of, declarators_in_declaration, declarators_in_statement, declarators_in_items, declarators_in}
use Rattle.unit_sites.proofs.Elements.{only, flat, unflat}

-- all objects of a unit, each by its home and the type that it is made with
abbrev pub objects_made : TypedTranslationUnit → List Named
objects_made u = map made_named (statics_of u) ++ flat_map variables_named (functions_of u)

-- One object for each home

abbrev node : Named → ℕ
node o = o.0.0

pub same-nat : (m n : ℕ) → m ≡ n → nat_eq m n ≡ false → ⊥
same-nat m n e h = grind (arith, nat_tests)

none-in : {A : Type 0} → (x : A) → Contains [] x → ⊥
none-in x c = All-contains (λ y. ⊥) [] x (All-nil (λ y. ⊥)) c

first-or-later : {A : Type 0} → (z : A) (xs : List A) (x : A) → Contains (z ∷ xs) x → (z ≡ x) ⊎ Contains xs x
first-or-later z xs x c = elim (Contains-append_cases (z ∷ []) xs x c) [
  | inl own ↦ inl (All-contains (λ v. z ≡ v) (z ∷ []) x (only (λ v. z ≡ v) z refl) own)
  | inr later ↦ inr later
]

not-again : (z : Named) (xs : List Named) → AllByRecursion (λ m. nat_eq (node z) m ≡ false) (map node xs) → (y : Named) → Contains xs y
    → node z ≡ node y → ⊥
not-again z xs h y c e =
    same-nat (node z) (node y) e
    (All-contains (λ (v : Named). nat_eq (node z) (node v) ≡ false) xs y
    (unmap (λ m. nat_eq (node z) m ≡ false) node xs (All-from_recursion (λ m. nat_eq (node z) m ≡ false) (map node xs) h)) c)

one-object : (xs : List Named) → IsDistinct nat_eq (map node xs) → (x y : Named) → Contains xs x → Contains xs y → node x ≡ node y → x ≡ y
unfolding IsDistinct
one-object [] d x y a b e = absurd (none-in x a)
one-object (z ∷ xs) d x y a b e = elim (first-or-later z xs x a) [
  | inl p ↦ elim (first-or-later z xs y b) [
    | inl q ↦ sym p ∙ q
    | inr c ↦ absurd (not-again z xs d.0 y c (ap node p ∙ e))
  ]
  | inr c ↦ elim (first-or-later z xs y b) [
    | inl q ↦ absurd (not-again z xs d.0 x c (ap node q ∙ sym e))
    | inr g ↦ one-object xs d.1 x y c g e
  ]
]

statics-nodes : (os : List MadeObject) → map node (map made_named os) ≡ map (λ (o : MadeObject). o.home.0) os
statics-nodes [] = refl
statics-nodes (o ∷ os) = ap (λ (ns : List ℕ). o.home.0 ∷ ns) (statics-nodes os)

frames-nodes : (fs : List DefinedFunction) → map node (flat_map variables_named fs) ≡ flat_map (λ f. map (λ (o : Named). o.0.0) (variables_named f)) fs
frames-nodes [] = refl
frames-nodes (f ∷ fs) =
    map-append node (variables_named f) (flat_map variables_named fs) ∙ ap (λ (ns : List ℕ). map node (variables_named f) ++ ns) (frames-nodes fs)

objects-nodes : (u : TypedTranslationUnit) → map node (objects_made u) ≡ homes_of u
objects-nodes u =
    map-append node (map made_named (statics_of u)) (flat_map variables_named (functions_of u))
    ∙ (ap (λ (ns : List ℕ). ns ++ map node (flat_map variables_named (functions_of u))) (statics-nodes (statics_of u))
    ∙ ap (λ (ns : List ℕ). map (λ (o : MadeObject). o.home.0) (statics_of u) ++ ns) (frames-nodes (functions_of u)))

pub one-type : (u : TypedTranslationUnit) → IsDistinct nat_eq (homes_of u) → (n : NodeId) (t v : TypeId) → Contains (objects_made u) (n, t)
    → Contains (objects_made u) (n, v) → t ≡ v
one-type u d n t v a b =
    ap (λ (o : Named). o.1)
    (one-object (objects_made u) (subst (λ (ns : List ℕ). IsDistinct nat_eq ns) (sym (objects-nodes u)) d) (n, t) (n, v) a b refl)

-- The statics of a stage are among the objects

static-named : (P : Named → Type 0) (m : Made) → All (λ o. P (made_named o)) (static_made m) → All P (static_named m)
static-named P (made.Name name (home.Static n) t) h =
    All-map P (λ (x : Named). x) ((n, t) ∷ []) (All-map P made_named (static_made (made.Name name (home.Static n) t)) h)
static-named P (made.Name name (home.Local n) t) h = All-nil P
static-named P (made.Name name (home.Parameter n) t) h = All-nil P
static-named P (made.Name name (home.Known n) t) h = All-nil P
static-named P (made.Name name home.None t) h = All-nil P
static-named P (made.Literal pieces n t) h = All-nil P
static-named P (made.Written place n) h = All-nil P
static-named P (made.Address n) h = All-nil P
static-named P (made.Copy t) h = All-nil P

pub statics-named : (P : Named → Type 0) (ms : List Made) → All P (map made_named (flat_map static_made ms)) → All P (flat_map static_named ms)
statics-named P ms h =
    flat P static_named ms
    (All-weaker (λ m. All (λ o. P (made_named o)) (static_made m)) (λ m. All P (static_named m)) (static-named P) ms
    (unflat (λ o. P (made_named o)) static_made ms (unmap P made_named (flat_map static_made ms) h)))

-- Declarators

-- the declarator names an object of the unit with the type that it is made with, or the same one
abbrev pub IsObjectAlike : Table → List Named → NodeId → TypeId → Type 0
IsObjectAlike T objects n t = (first : TypeId) × Contains objects (n, first) × IsAlike T first t

abbrev pub Names : Stage → List Named → TypedDeclarator → Type 0
Names static objects d =
    (n : NodeId) → home_node (home_of d) ≡ Some n → IsObjectAlike static.table objects n (declared_type d) × IsWhole static (declared_type d)

module _ (static : Stage) (objects : List Named) (statics : All (Contains objects) static.statics) where
  abbrev NamesObject : TypedDeclarator → Type 0
  NamesObject d = Names static objects d

  abbrev inside : List Named → Stage
  inside variables = record static { variables = variables; calls = true }

  abbrev Within : List Named → Type 0
  Within vs = All (Contains objects) vs

  some-node : (m n : NodeId) → Some m ≡ Some n → m ≡ n
  some-node m n h = cc

  home-alike : (vs : List Named) → Within vs → (h : Home) (t : TypeId) → IsReadyHome (inside vs) h t → (n : NodeId) → home_node h ≡ Some n
      → IsObjectAlike static.table objects n t × IsWhole static t
  home-alike vs w home.None t r n e = absurd (none-some n e)
  home-alike vs w (home.Parameter m) t r n e = absurd r
  home-alike vs w (home.Static m) t r n e =
      subst (λ (i : NodeId). IsObjectAlike static.table objects i t × IsWhole static t) (some-node m n e)
      ((r.2.first, All-contains (Contains objects) static.statics (m, r.2.first) statics r.2.made, r.2.alike), r.1)
  home-alike vs w (home.Known m) t r n e =
      subst (λ (i : NodeId). IsObjectAlike static.table objects i t × IsWhole static t) (some-node m n e)
      ((r.2.first, All-contains (Contains objects) static.statics (m, r.2.first) statics r.2.made, r.2.alike), r.1)
  home-alike vs w (home.Local m) t r n e =
      subst (λ (i : NodeId). IsObjectAlike static.table objects i t × IsWhole static t) (some-node m n e)
      ((t, All-contains (Contains objects) vs (m, t) w r.2, inl refl), r.1)

  declarators-name : (vs : List Named) → Within vs → (all : TypedInitDeclarators) → AreReadyDeclarators (inside vs) static all
      → All NamesObject (declarators_of all)
  declarators-name vs w typed.NoInitDeclarator r = All-nil NamesObject
  declarators-name vs w (typed.AndPlain all (typed.Declares form t)) r =
      All-append NamesObject (declarators_of all) (typed.Declares form t ∷ []) (declarators-name vs w all r.0)
      (only NamesObject (typed.Declares form t) (home-alike vs w (home_of_form form) t r.3))
  declarators-name vs w (typed.AndInitialised all (typed.Declares form t) at i) r =
      All-append NamesObject (declarators_of all) (typed.Declares form t ∷ []) (declarators-name vs w all r.0)
      (only NamesObject (typed.Declares form t) (home-alike vs w (home_of_form form) t r.3))

  declaration-names : (vs : List Named) → Within vs → (d : TypedDeclaration) → IsReadyDeclaration (inside vs) static d
      → All NamesObject (declarators_in_declaration d)
  declaration-names vs w (typed.Declare specifiers all) r = by (is_typedef specifiers)
    where
      by : (b : Bool) → All NamesObject (if b then [] else declarators_of all)
      by true = All-nil NamesObject
      by false = declarators-name vs w all r.1

  mutual
    statement-names : (vs : List Named) → Within vs → (a : Around) (s : TypedStatement) → IsReadyStatement (inside vs) static a s
        → All NamesObject (declarators_in_statement s)
    statement-names vs w a (typed.Block at items) r = items-name vs w a None items r
    statement-names vs w a (typed.If at paren c s) r = statement-names vs w a s r.1
    statement-names vs w a (typed.IfElse at paren c s q) r =
        All-append NamesObject (declarators_in_statement s) (declarators_in_statement q) (statement-names vs w a s r.1) (statement-names vs w a q r.2)
    statement-names vs w a (typed.Switch at paren e brace items) r = items-name vs w (in_a_switch a) (Some (type_of e)) items r.2
    statement-names vs w a (typed.While at paren c s) r = statement-names vs w (in_a_loop a) s r.1
    statement-names vs w a (typed.DoWhile s at paren c) r = statement-names vs w (in_a_loop a) s r.0
    statement-names vs w a (typed.For at paren x y z s) r = statement-names vs w (in_a_loop a) s r.3
    statement-names vs w a (typed.ForDeclaration at paren d y z s) r =
        All-append NamesObject (declarators_in_declaration d) (declarators_in_statement s) (declaration-names vs w d r.0)
        (statement-names vs w (in_a_loop a) s r.3)
    statement-names vs w a s r = All-nil NamesObject

    items-name : (vs : List Named) → Within vs → (a : Around) (on : Option TypeId) (items : TypedBlockItems)
        → AreReadyBlockItems (inside vs) static a on items → All NamesObject (declarators_in_items items)
    items-name vs w a on typed.NoBlockItem r = All-nil NamesObject
    items-name vs w a on (typed.AndStatement all s) r =
        All-append NamesObject (declarators_in_items all) (declarators_in_statement s) (items-name vs w a on all r.0) (statement-names vs w a s r.1)
    items-name vs w a on (typed.AndDeclaration all d) r =
        All-append NamesObject (declarators_in_items all) (declarators_in_declaration d) (items-name vs w a on all r.0)
        (declaration-names vs w d r.1)
    items-name vs w a on (typed.AndCase all at e value) r = items-name vs w a on all r.0
    items-name vs w a on (typed.AndDefault all at) r = items-name vs w a on all r

  unit-names : Within static.variables → (u : TypedTranslationUnit) → All (Contains objects) (flat_map variables_named (functions_of u))
      → AreReadyExternals static u → All NamesObject (declarators_in u)
  unit-names w typed.NoExternal f r = All-nil NamesObject
  unit-names w (typed.AndExternal u d) f r =
      All-append NamesObject (declarators_in u) (declarators_in_declaration d) (unit-names w u f r.0) (declaration-names static.variables w d r.1)
  unit-names w (typed.AndFunctionBody u specifiers (typed.Declares form t) brace body) f r =
      let g : DefinedFunction = record { declarator = typed.Declares form t; body = body } in
      let own = all-left (Contains objects) (variables_named g) [] (flat-right (Contains objects) variables_named (functions_of u) (g ∷ []) f) in
      let before = flat-left (Contains objects) variables_named (functions_of u) (g ∷ []) f in
      All-append NamesObject (declarators_in u) (typed.Declares form t ∷ declarators_in_items body) (unit-names w u before r.0)
      (All-append NamesObject (typed.Declares form t ∷ []) (declarators_in_items body)
      (only NamesObject (typed.Declares form t) (home-alike static.variables w (home_of_form form) t r.3))
      (items-name (variables_named g) own _ None body r.4.body))

-- each declarator of a ready unit that names an object
pub objects-named : (T : Table) (u : TypedTranslationUnit) → AreReadyExternals (static_stage T u) u
    → All (Names (static_stage T u) (objects_made u)) (declarators_in u)
objects-named T u r =
    let here = All-contains_itself (objects_made u) in
    unit-names (static_stage T u) (objects_made u)
    (statics-named (Contains (objects_made u)) (made_by_unit u)
    (all-left (Contains (objects_made u)) (map made_named (statics_of u)) (flat_map variables_named (functions_of u)) here))
    (All-nil (Contains (objects_made u))) u
    (all-right (Contains (objects_made u)) (map made_named (statics_of u)) (flat_map variables_named (functions_of u)) here) r
