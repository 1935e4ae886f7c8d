-- What stands in the parts of a unit is gathered: its functions, and the initialisers of what lives as long as the program.
use Rattle.std.specs.List.{All, Contains}
use Rattle.std.proofs.Common.{◌∷◌, ◌++◌, ◌≡◌, ℕ, true, false, slice_get, List, [], length, Option, Some, None, refl, sym, inr}
use Rattle.std.proofs.lemmas.List.Elements.{All-nil, All-cons, All-head, All-push, All-append, All-weaker, All-contains_itself, Contains-append_left, Contains-append_right}
use Rattle.std.proofs.lemmas.Option.{slice_get_read}
use Rattle.cc_base.specs.declared.place.Place.{Place}
use Rattle.cc_base.specs.declared.number.TypeId.{TypeId}
use Rattle.c_tree.specs.declared.typed_word.Home.{Home}
use Rattle.c_tree.specs.declared.typed_word.Home.TheVariants as home
use Rattle.c_tree.specs.TypedTree as typed
use Rattle.c_tree.specs.TypedTree.{TypedInitialiser, TypedInitDeclarators, TypedDeclaration, TypedStatement, TypedBlockItems, TypedTranslationUnit}
use Rattle.c_tree.specs.TypedParts.{DefinedFunction, StaticInitialiser, home_of_form, static_home, initialises, initialisers_in_declarators, initialisers_in_declaration, initialisers_in, initialisers_in_items, static_initialisers, functions_of}
use Rattle.c_unit_typing.specs.Units.{Around, in_a_loop, in_a_switch}
use Rattle.src_machine.specs.Names.{declarators_in, declarators_in_declaration, declarators_in_items}
use Rattle.c_ready.specs.Ready.{Stage, Named, IsReadyInitialiser, HasObject, initialised_in, IsReadyHome, AreReadyDeclarators, IsReadyDeclaration, IsReadyStatement, AreReadyBlockItems, IsReadyFunction, AreReadyExternals, IsReadyStatic}

module _ (static : Stage) where
  abbrev Statics : List StaticInitialiser → Type 0
  Statics is = All (IsReadyStatic static) is

  -- a part stands outside functions or in one
  abbrev in_function : List Named → Stage
  in_function variables = record static { variables = variables; calls = true }

  initialiser-static : (vs : List Named) (h : Home) (t : TypeId) (at : Place) (i : TypedInitialiser) → IsReadyHome (in_function vs) h t → HasObject h
      → IsReadyInitialiser (initialised_in h (in_function vs) static) t i → Statics (initialises (static_home h) t at i)
  initialiser-static vs (home.Static n) t at i o h r =
      All-cons (IsReadyStatic static) (record { home = n; type = t; place = at; initialiser = i }) []
      (r, (o.0, o.1, inr (record { first = o.2.first; made = o.2.made; alike = o.2.alike; declared = o.2.declared; begun = o.2.begun })))
      (All-nil (IsReadyStatic static))
  initialiser-static vs (home.Known n) t at i o h r =
      All-cons (IsReadyStatic static) (record { home = n; type = t; place = at; initialiser = i }) []
      (r, (o.0, o.1, inr (record { first = o.2.first; made = o.2.made; alike = o.2.alike; declared = o.2.declared; begun = o.2.begun })))
      (All-nil (IsReadyStatic static))
  initialiser-static vs (home.Local n) t at i o h r = All-nil (IsReadyStatic static)
  initialiser-static vs home.None t at i o h r = absurd h
  initialiser-static vs (home.Parameter n) t at i o h r = absurd h

  declarators-static : (vs : List Named) (all : TypedInitDeclarators) → AreReadyDeclarators (in_function vs) static all
      → Statics (initialisers_in_declarators all)
  declarators-static vs typed.NoInitDeclarator h = All-nil (IsReadyStatic static)
  declarators-static vs (typed.AndPlain all (typed.Declares form t)) h = declarators-static vs all h.0
  declarators-static vs (typed.AndInitialised all (typed.Declares form t) at i) h =
      All-append (IsReadyStatic static) (initialisers_in_declarators all) (initialises (static_home (home_of_form form)) t at i)
      (declarators-static vs all h.0) (initialiser-static vs (home_of_form form) t at i h.3 h.4 h.5)

  declaration-static : (vs : List Named) (d : TypedDeclaration) → IsReadyDeclaration (in_function vs) static d
      → Statics (initialisers_in_declaration d)
  declaration-static vs (typed.Declare specifiers all) h = declarators-static vs all h.1

  mutual
    statement-static : (vs : List Named) (a : Around) (s : TypedStatement) → IsReadyStatement (in_function vs) static a s
        → Statics (initialisers_in s)
    statement-static vs a (typed.Block at items) h = items-static vs a None items h
    statement-static vs a (typed.Express e) h = All-nil (IsReadyStatic static)
    statement-static vs a typed.Empty h = All-nil (IsReadyStatic static)
    statement-static vs a (typed.If at paren c s) h = statement-static vs a s h.1
    statement-static vs a (typed.IfElse at paren c s r) h =
        All-append (IsReadyStatic static) (initialisers_in s) (initialisers_in r) (statement-static vs a s h.1) (statement-static vs a r h.2)
    statement-static vs a (typed.Switch at paren e brace items) h = items-static vs (in_a_switch a) _ items h.2
    statement-static vs a (typed.While at paren c s) h = statement-static vs (in_a_loop a) s h.1
    statement-static vs a (typed.DoWhile s at paren c) h = statement-static vs (in_a_loop a) s h.0
    statement-static vs a (typed.For at paren x y z s) h = statement-static vs (in_a_loop a) s h.3
    statement-static vs a (typed.ForDeclaration at paren d y z s) h =
        All-append (IsReadyStatic static) (initialisers_in_declaration d) (initialisers_in s) (declaration-static vs d h.0)
        (statement-static vs (in_a_loop a) s h.3)
    statement-static vs a (typed.Break at) h = All-nil (IsReadyStatic static)
    statement-static vs a (typed.Continue at) h = All-nil (IsReadyStatic static)
    statement-static vs a (typed.Return at e) h = All-nil (IsReadyStatic static)

    items-static : (vs : List Named) (a : Around) (on : Option TypeId) (items : TypedBlockItems)
        → AreReadyBlockItems (in_function vs) static a on items
        → Statics (initialisers_in_items items)
    items-static vs a on typed.NoBlockItem h = All-nil (IsReadyStatic static)
    items-static vs a on (typed.AndStatement all s) h =
        All-append (IsReadyStatic static) (initialisers_in_items all) (initialisers_in s) (items-static vs a on all h.0) (statement-static vs a s h.1)
    items-static vs a on (typed.AndDeclaration all d) h =
        All-append (IsReadyStatic static) (initialisers_in_items all) (initialisers_in_declaration d) (items-static vs a on all h.0)
        (declaration-static vs d h.1)
    items-static vs a on (typed.AndCase all at e value) h = items-static vs a on all h.0
    items-static vs a on (typed.AndDefault all at) h = items-static vs a on all h

  pub functions-gathered : (u : TypedTranslationUnit) → AreReadyExternals static u → All (IsReadyFunction static) (functions_of u)
  functions-gathered typed.NoExternal h = All-nil (IsReadyFunction static)
  functions-gathered (typed.AndExternal u d) h = functions-gathered u h.0
  functions-gathered (typed.AndFunctionBody u specifiers (typed.Declares form t) brace body) h =
      All-push (IsReadyFunction static) (functions_of u) (record { declarator = typed.Declares form t; body = body }) (functions-gathered u h.0) h.4

  pub initialisers-gathered : (u : TypedTranslationUnit) → AreReadyExternals static u → Statics (static_initialisers u)
  initialisers-gathered typed.NoExternal h = All-nil (IsReadyStatic static)
  initialisers-gathered (typed.AndExternal u d) h =
      All-append (IsReadyStatic static) (static_initialisers u) (initialisers_in_declaration d) (initialisers-gathered u h.0)
      (declaration-static static.variables d h.1)
  initialisers-gathered (typed.AndFunctionBody u specifiers (typed.Declares form t) brace body) h =
      All-append (IsReadyStatic static) (static_initialisers u) (initialisers_in_items body) (initialisers-gathered u h.0)
      (items-static _ (record { result = h.4.result; in_loop = false; breakable = false }) None body h.4.body)

-- an element has a place of its own
pub at-its-place : {A : Type 0} (xs : List A) (x : A) → Contains xs x → (i : ℕ) × (slice_get xs i ≡ Some x)
at-its-place xs x c = (c.0, slice_get_read xs (length xs) c.0 x refl c.1 (sym c.2))

-- each function is declared where it is defined
pub functions-declared : (u : TypedTranslationUnit) → All (λ (f : DefinedFunction). Contains (declarators_in u) f.declarator) (functions_of u)
functions-declared typed.NoExternal = All-nil (λ (f : DefinedFunction). Contains [] f.declarator)
functions-declared (typed.AndExternal u d) =
    All-weaker (λ (f : DefinedFunction). Contains (declarators_in u) f.declarator)
    (λ (f : DefinedFunction). Contains (declarators_in u ++ declarators_in_declaration d) f.declarator)
    (λ f c. Contains-append_left (declarators_in u) (declarators_in_declaration d) f.declarator c) (functions_of u) (functions-declared u)
functions-declared (typed.AndFunctionBody u specifiers d brace body) =
    let later = d ∷ declarators_in_items body in
    let Q : DefinedFunction → Type 0 = λ f. Contains (declarators_in u ++ later) f.declarator in
    All-push Q (functions_of u) (record { declarator = d; body = body })
    (All-weaker (λ (f : DefinedFunction). Contains (declarators_in u) f.declarator) Q
    (λ f c. Contains-append_left (declarators_in u) later f.declarator c) (functions_of u) (functions-declared u))
    (Contains-append_right (declarators_in u) later d
    (All-head (Contains later) d (declarators_in_items body) (All-contains_itself later)))
