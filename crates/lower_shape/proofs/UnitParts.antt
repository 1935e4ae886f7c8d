-- What stands in the bodies and static initialisers of a unit: their pieces are the unit's, and they hold and are as high as it is at most.
use Rattle.std.specs.List.{All}
use Rattle.std.proofs.Common.{◌≡◌, suc, ◌≤◌, List, [], ◌∷◌, ◌++◌, Some, refl, sym, subst, arith}
use Rattle.std.proofs.lemmas.List.Elements.{All-nil, All-cons, All-head, All-push, All-append}
use Rattle.cc_base.specs.declared.place.Place.{Place}
use Rattle.cc_base.specs.declared.number.TypeId.{TypeId}
use Rattle.c_tree.specs.declared.typed_word.Home.{Home}
use Rattle.c_tree.specs.declared.typed_word.Home.TheVariants as home
use Rattle.c_tree.specs.Depth.{statement_height, block_items_height, initialiser_height, init_declarators_height, declaration_height, unit_height}
use Rattle.c_tree.specs.Erasure.{erased_statement, erased_block_items, erased_initialiser, erased_init_declarators, erased_declaration, erased_unit}
use Rattle.c_tree.specs.TypedTree as typed
use Rattle.c_tree.specs.TypedTree.{TypedDeclarator, TypedInitialiser, TypedInitDeclarators, TypedDeclaration, TypedStatement, TypedBlockItems, TypedTranslationUnit}
use Rattle.c_tree.specs.TypedParts.{DefinedFunction, StaticInitialiser, home_of, declared_type, static_home, initialises, initialisers_in_declarators, initialisers_in_declaration, initialisers_in, initialisers_in_items, static_initialisers, functions_of, home_node}
use Rattle.c_unit_typing.specs.Holding.{statement_holds, block_items_holds, initialiser_holds, init_declarators_holds, declaration_holds, unit_holds}
use Rattle.c_ready.proofs.Basics.{all-left, all-right}
use Rattle.src_machine.specs.Pieces.{Piece, AnInitialiser, pieces_of, pieces_of_optional, pieces_of_specifiers, pieces_of_declarator, pieces_of_initialiser, pieces_of_init_declarators, pieces_of_declaration, pieces_of_statement, pieces_of_block_items, pieces_of_unit}

module _ (P : Piece → Type 0) where
  abbrev Are : List Piece → Type 0
  Are pieces = All P pieces

  -- a body
  pub record IsBodyWithin (f : DefinedFunction) : Type 0 where
    pub pieces : All P (pieces_of_block_items f.body)
    pub holds : block_items_holds (erased_block_items f.body) ≤ 256
    pub height : suc (block_items_height (erased_block_items f.body)) ≤ 256

  pub bodies-within : (u : TypedTranslationUnit) → Are (pieces_of_unit u) → unit_holds (erased_unit u) ≤ 256 → unit_height (erased_unit u) ≤ 256
      → All IsBodyWithin (functions_of u)
  bodies-within typed.NoExternal h m n = All-nil IsBodyWithin
  bodies-within (typed.AndExternal u d) h m n =
      bodies-within u (all-left P (pieces_of_unit u) (pieces_of_declaration d) h) (omega (arith, m)) (omega (arith, n))
  bodies-within (typed.AndFunctionBody u specifiers d brace items) h m n =
      let f : DefinedFunction = record { declarator = d; body = items } in
      let x = pieces_of_unit u in let y = pieces_of_specifiers specifiers in let z = pieces_of_declarator d in let v = pieces_of_block_items items in
      All-push IsBodyWithin (functions_of u) f
      (bodies-within u (all-left P x y (all-left P (x ++ y) z (all-left P (x ++ y ++ z) v h))) (omega (arith, m)) (omega (arith, n)))
      (record { pieces = all-right P (x ++ y ++ z) v h; holds = omega (arith, m); height = omega (arith, n) })

  -- a static initialiser
  pub record IsStaticWithin (i : StaticInitialiser) : Type 0 where
    pub pieces : All P (pieces_of_initialiser i.initialiser)
    pub declarator : TypedDeclarator
    pub home : home_node (home_of declarator) ≡ Some i.home
    pub own : P (AnInitialiser declarator i.initialiser)
    pub holds : initialiser_holds (erased_initialiser i.initialiser) ≤ 256
    pub height : initialiser_height (erased_initialiser i.initialiser) ≤ 256

  abbrev Statics : List StaticInitialiser → Type 0
  Statics is = All IsStaticWithin is

  one-static : (d : TypedDeclarator) (h : Home) → home_of d ≡ h → (t : TypeId) (at : Place) (i : TypedInitialiser) → Are (pieces_of_initialiser i)
      → P (AnInitialiser d i) → initialiser_holds (erased_initialiser i) ≤ 256 → initialiser_height (erased_initialiser i) ≤ 256
      → Statics (initialises (static_home h) t at i)
  one-static d (home.Static n) e t at i ps own m k = All-cons IsStaticWithin (record { home = n; type = t; place = at; initialiser = i }) []
      (record { pieces = ps; declarator = d; home = subst (λ x. home_node x ≡ Some n) (sym e) refl; own = own; holds = m; height = k })
      (All-nil IsStaticWithin)
  one-static d (home.Known n) e t at i ps own m k = All-cons IsStaticWithin (record { home = n; type = t; place = at; initialiser = i }) []
      (record { pieces = ps; declarator = d; home = subst (λ x. home_node x ≡ Some n) (sym e) refl; own = own; holds = m; height = k })
      (All-nil IsStaticWithin)
  one-static d (home.Local n) e t at i ps own m k = All-nil IsStaticWithin
  one-static d home.None e t at i ps own m k = All-nil IsStaticWithin
  one-static d (home.Parameter n) e t at i ps own m k = All-nil IsStaticWithin

  declarators-within : (all : TypedInitDeclarators) → Are (pieces_of_init_declarators all)
      → init_declarators_holds (erased_init_declarators all) ≤ 256 → init_declarators_height (erased_init_declarators all) ≤ 256
      → Statics (initialisers_in_declarators all)
  declarators-within typed.NoInitDeclarator h m n = All-nil IsStaticWithin
  declarators-within (typed.AndPlain all (typed.Declares form t)) h m n =
      declarators-within all (all-left P (pieces_of_init_declarators all) (pieces_of_declarator (typed.Declares form t)) h)
      (omega (arith, m)) (omega (arith, n))
  declarators-within (typed.AndInitialised all (typed.Declares form t) at i) h m n =
      let d : TypedDeclarator = typed.Declares form t in
      let x = pieces_of_init_declarators all in let y = pieces_of_declarator d in let z = pieces_of_initialiser i in
      let own = AnInitialiser d i ∷ [] in
      All-append IsStaticWithin (initialisers_in_declarators all) (initialises (static_home (home_of d)) (declared_type d) at i)
      (declarators-within all (all-left P x y (all-left P (x ++ y) z (all-left P (x ++ y ++ z) own h))) (omega (arith, m)) (omega (arith, n)))
      (one-static d (home_of d) refl (declared_type d) at i (all-right P (x ++ y) z (all-left P (x ++ y ++ z) own h))
      (All-head P (AnInitialiser d i) [] (all-right P (x ++ y ++ z) own h)) (omega (arith, m)) (omega (arith, n)))

  declaration-within : (d : TypedDeclaration) → Are (pieces_of_declaration d) → declaration_holds (erased_declaration d) ≤ 256
      → declaration_height (erased_declaration d) ≤ 256 → Statics (initialisers_in_declaration d)
  declaration-within (typed.Declare specifiers all) h m n =
      declarators-within all (all-right P (pieces_of_specifiers specifiers) (pieces_of_init_declarators all) h) (omega (arith, m)) (omega (arith, n))

  mutual
    statement-within : (s : TypedStatement) → Are (pieces_of_statement s) → statement_holds (erased_statement s) ≤ 256
        → statement_height (erased_statement s) ≤ 256 → Statics (initialisers_in s)
    statement-within (typed.Block brace items) h m n = items-within items h m (omega (arith, n))
    statement-within (typed.Express e) h m n = All-nil IsStaticWithin
    statement-within typed.Empty h m n = All-nil IsStaticWithin
    statement-within (typed.If at paren c s) h m n =
        statement-within s (all-right P (pieces_of c) (pieces_of_statement s) h) (omega (arith, m)) (omega (arith, n))
    statement-within (typed.IfElse at paren c s r) h m n =
        let x = pieces_of c in let y = pieces_of_statement s in let z = pieces_of_statement r in
        All-append IsStaticWithin (initialisers_in s) (initialisers_in r)
        (statement-within s (all-right P x y (all-left P (x ++ y) z h)) (omega (arith, m)) (omega (arith, n)))
        (statement-within r (all-right P (x ++ y) z h) (omega (arith, m)) (omega (arith, n)))
    statement-within (typed.Switch at paren e brace items) h m n =
        items-within items (all-right P (pieces_of e) (pieces_of_block_items items) h) (omega (arith, m)) (omega (arith, n))
    statement-within (typed.While at paren c s) h m n =
        statement-within s (all-right P (pieces_of c) (pieces_of_statement s) h) (omega (arith, m)) (omega (arith, n))
    statement-within (typed.DoWhile s at paren c) h m n =
        statement-within s (all-left P (pieces_of_statement s) (pieces_of c) h) (omega (arith, m)) (omega (arith, n))
    statement-within (typed.For at paren a b c s) h m n =
        let x = pieces_of_optional a in let y = pieces_of_optional b in let z = pieces_of_optional c in
        statement-within s (all-right P (x ++ y ++ z) (pieces_of_statement s) h) (omega (arith, m)) (omega (arith, n))
    statement-within (typed.ForDeclaration at paren d b c s) h m n =
        let x = pieces_of_declaration d in let y = pieces_of_optional b in let z = pieces_of_optional c in let v = pieces_of_statement s in
        All-append IsStaticWithin (initialisers_in_declaration d) (initialisers_in s)
        (declaration-within d (all-left P x y (all-left P (x ++ y) z (all-left P (x ++ y ++ z) v h))) (omega (arith, m)) (omega (arith, n)))
        (statement-within s (all-right P (x ++ y ++ z) v h) (omega (arith, m)) (omega (arith, n)))
    statement-within (typed.Break at) h m n = All-nil IsStaticWithin
    statement-within (typed.Continue at) h m n = All-nil IsStaticWithin
    statement-within (typed.Return at e) h m n = All-nil IsStaticWithin

    items-within : (items : TypedBlockItems) → Are (pieces_of_block_items items) → block_items_holds (erased_block_items items) ≤ 256
        → block_items_height (erased_block_items items) ≤ 256 → Statics (initialisers_in_items items)
    items-within typed.NoBlockItem h m n = All-nil IsStaticWithin
    items-within (typed.AndStatement all s) h m n =
        let x = pieces_of_block_items all in let y = pieces_of_statement s in
        All-append IsStaticWithin (initialisers_in_items all) (initialisers_in s)
        (items-within all (all-left P x y h) (omega (arith, m)) (omega (arith, n)))
        (statement-within s (all-right P x y h) (omega (arith, m)) (omega (arith, n)))
    items-within (typed.AndDeclaration all d) h m n =
        let x = pieces_of_block_items all in let y = pieces_of_declaration d in
        All-append IsStaticWithin (initialisers_in_items all) (initialisers_in_declaration d)
        (items-within all (all-left P x y h) (omega (arith, m)) (omega (arith, n)))
        (declaration-within d (all-right P x y h) (omega (arith, m)) (omega (arith, n)))
    items-within (typed.AndCase all at e value) h m n =
        items-within all (all-left P (pieces_of_block_items all) (pieces_of e) h) (omega (arith, m)) (omega (arith, n))
    items-within (typed.AndDefault all at) h m n = items-within all h m n

  pub statics-within : (u : TypedTranslationUnit) → Are (pieces_of_unit u) → unit_holds (erased_unit u) ≤ 256 → unit_height (erased_unit u) ≤ 256
      → Statics (static_initialisers u)
  statics-within typed.NoExternal h m n = All-nil IsStaticWithin
  statics-within (typed.AndExternal u d) h m n =
      let x = pieces_of_unit u in let y = pieces_of_declaration d in
      All-append IsStaticWithin (static_initialisers u) (initialisers_in_declaration d)
      (statics-within u (all-left P x y h) (omega (arith, m)) (omega (arith, n)))
      (declaration-within d (all-right P x y h) (omega (arith, m)) (omega (arith, n)))
  statics-within (typed.AndFunctionBody u specifiers d brace items) h m n =
      let x = pieces_of_unit u in let y = pieces_of_specifiers specifiers in let z = pieces_of_declarator d in let v = pieces_of_block_items items in
      All-append IsStaticWithin (static_initialisers u) (initialisers_in_items items)
      (statics-within u (all-left P x y (all-left P (x ++ y) z (all-left P (x ++ y ++ z) v h))) (omega (arith, m)) (omega (arith, n)))
      (items-within items (all-right P (x ++ y ++ z) v h) (omega (arith, m)) (omega (arith, n)))
