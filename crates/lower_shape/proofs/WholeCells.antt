-- The copies of a program that is lowered from a well typed unit move as many pointers at most as are counted for the unit.
use Rattle.std.specs.List.{All}
use Rattle.std.specs.Prelude.{sum_by}
use Rattle.std.proofs.Common.{ℕ, ◌≤◌, ◌+◌, false, List, [], ◌∷◌, ◌++◌, None, arith}
use Rattle.std.proofs.lemmas.List.Sums.{sum_by-cons, sum_by_push}
use Rattle.std.proofs.lemmas.List.Elements.{All-head, All-tail}
use Rattle.cc_base.specs.declared.place.Place.{Place}
use Rattle.cc_base.specs.declared.number.TypeId.{TypeId}
use Rattle.c_types.specs.Table.{Table}
use Rattle.c_tree.specs.declared.typed_word.Home.{Home}
use Rattle.c_tree.specs.declared.typed_word.Home.TheVariants as home
use Rattle.c_tree.specs.TypedTree as typed
use Rattle.c_tree.specs.TypedTree.{TypedDeclarator, TypedInitialiser, TypedInitDeclarators, TypedDeclaration, TypedTranslationUnit}
use Rattle.c_tree.specs.TypedParts.{DefinedFunction, StaticInitialiser, home_of, declared_type, static_home, initialises, initialisers_in_declarators, initialisers_in_declaration, initialisers_in_items, static_initialisers, functions_of, made_by_unit, made_by_specifiers, made_by_declarator, made_by_initialiser, made_by_init_declarators, made_by_declaration, made_by_block_items}
use Rattle.c_unit_typing.specs.Limits.{IsWithinLimits}
use Rattle.c_ready.specs.Ready.{Stage, IsReadyFunction, IsReadyStatic, body_stage, static_stage, IsReadyUnit}
use Rattle.cil_form.specs.declared.program.Function.{Function}
use Rattle.cil_form.specs.declared.program.Program.{Program}
use Rattle.cil_form.specs.Shape.{cells_moved_by, cells_limit}
use Rattle.lower_rules.specs.Initialisers.{IsCodeOfObject, IsCodeOfStatics}
use Rattle.lower_rules.specs.Units as lowered
use Rattle.lower_rules.specs.Units.{IsCodeOfFunction, AreCodeOf, outermost}
use Rattle.lower_shape.specs.Lowered.{IsLoweredFrom}
use Rattle.lower_shape.proofs.Cells.{counted, counted-both, Moved, moved-line, moved-then}
use Rattle.lower_shape.proofs.StatementCells.{counted_in, counted_in-both, object-moved, block-moved}

-- Static initialisers among what is made outside functions

module _ (T : Table) where
  one-counted : (h : Home) (t : TypeId) (at : Place) (i : TypedInitialiser)
      → counted_in T (initialises (static_home h) t at i) ≤ counted T (made_by_initialiser i)
  one-counted (home.Static n) t at i = omega arith
  one-counted (home.Known n) t at i = omega arith
  one-counted (home.Local n) t at i = omega arith
  one-counted home.None t at i = omega arith
  one-counted (home.Parameter n) t at i = omega arith

  declarators-counted : (all : TypedInitDeclarators) → counted_in T (initialisers_in_declarators all) ≤ counted T (made_by_init_declarators all)
  declarators-counted typed.NoInitDeclarator = omega arith
  declarators-counted (typed.AndPlain all d) =
      omega (arith, declarators-counted all, counted-both T (made_by_init_declarators all) (made_by_declarator d))
  declarators-counted (typed.AndInitialised all d at i) =
      let A = made_by_init_declarators all in let D = made_by_declarator d in let I = made_by_initialiser i in
      omega (
        arith,
        declarators-counted all,
        one-counted (home_of d) (declared_type d) at i,
        counted-both T (A ++ D) I,
        counted-both T A D,
        counted_in-both T (initialisers_in_declarators all) (initialises (static_home (home_of d)) (declared_type d) at i),
      )

  declaration-counted : (d : TypedDeclaration) → counted_in T (initialisers_in_declaration d) ≤ counted T (made_by_declaration d)
  declaration-counted (typed.Declare specifiers all) =
      omega (arith, declarators-counted all, counted-both T (made_by_specifiers specifiers) (made_by_init_declarators all))

  -- what bodies are counted for, and what the static initialisers in them are
  abbrev of_body : DefinedFunction → ℕ
  of_body f = counted T (made_by_block_items f.body)

  abbrev of_statics : DefinedFunction → ℕ
  of_statics f = counted_in T (initialisers_in_items f.body)

  unit-counted : (u : TypedTranslationUnit)
      → counted_in T (static_initialisers u) + sum_by of_body (functions_of u) ≤ counted T (made_by_unit u) + sum_by of_statics (functions_of u)
  unit-counted typed.NoExternal = omega arith
  unit-counted (typed.AndExternal u d) =
      omega (
        arith,
        unit-counted u,
        declaration-counted d,
        counted-both T (made_by_unit u) (made_by_declaration d),
        counted_in-both T (static_initialisers u) (initialisers_in_declaration d),
      )
  unit-counted (typed.AndFunctionBody u specifiers d brace items) =
      let f : DefinedFunction = record { declarator = d; body = items } in
      let A = made_by_unit u in let S = made_by_specifiers specifiers in let D = made_by_declarator d in let B = made_by_block_items items in
      omega (
        arith,
        unit-counted u,
        counted-both T (A ++ S ++ D) B,
        counted-both T (A ++ S) D,
        counted-both T A S,
        counted_in-both T (static_initialisers u) (initialisers_in_items items),
        sum_by_push of_body (functions_of u) f,
        sum_by_push of_statics (functions_of u) f,
      )

module _ (u : TypedTranslationUnit) (p : Program) (w : IsReadyUnit p.types u) (l : IsLoweredFrom u p) where
  abbrev static : Stage
  static = static_stage p.types u

  abbrev of_function : Function → ℕ
  of_function f = cells_moved_by f.body.0.items p.types

  bodies-counted : (ds : List DefinedFunction) (fs : List Function) → All (IsReadyFunction static) ds
      → AreCodeOf p.types (lowered.homes_of u) ds fs
      → sum_by of_function fs + sum_by (of_statics p.types) ds ≤ sum_by (of_body p.types) ds
  bodies-counted [] [] r c = omega arith
  bodies-counted [] (f ∷ fs) r c = absurd c
  bodies-counted (d ∷ ds) [] r c = absurd c
  bodies-counted (d ∷ ds) (f ∷ fs) r c =
      let ready = All-head (IsReadyFunction static) d ds r in
      let one = block-moved p.types w.basic.formed (body_stage static d) (lowered.context_in p.types (lowered.homes_of u) d) d.body
      (record { result = ready.result; in_loop = false; breakable = false }) None static outermost ready.body f.body.0.items c.0.body in
      omega (
        arith,
        one,
        bodies-counted ds fs (All-tail (IsReadyFunction static) d ds r) c.1,
        sum_by-cons of_function f fs,
        sum_by-cons (of_statics p.types) d ds,
        sum_by-cons (of_body p.types) d ds,
      )

  statics-counted : (is : List StaticInitialiser) → All (IsReadyStatic static) is
      → Moved p.types (counted_in p.types is) (IsCodeOfStatics is (lowered.static_context p.types (lowered.homes_of u)))
  statics-counted [] r = moved-line p.types [] 0 (omega arith)
  statics-counted (i ∷ is) r =
      let k = lowered.static_context p.types (lowered.homes_of u) in
      let P = IsCodeOfObject i.home i.type i.place i.initialiser k in
      let n = counted p.types (made_by_initialiser i.initialiser) in
      λ c d. let q = moved-then p.types P (IsCodeOfStatics is k) n (counted_in p.types is)
      (object-moved p.types w.basic.formed static k i.home i.type i.place i.initialiser (All-head (IsReadyStatic static) i is r).0)
      (statics-counted is (All-tail (IsReadyStatic static) i is r)) c d in
      omega (arith, q, sum_by-cons (λ (x : StaticInitialiser). counted p.types (made_by_initialiser x.initialiser)) i is)

  pub cells-few : IsWithinLimits p.types u
      → cells_moved_by p.initialisers.0.items p.types + sum_by (λ (f : Function). cells_moved_by f.body.0.items p.types) p.functions ≤ cells_limit
  cells-few limits =
      omega (
        arith,
        statics-counted (static_initialisers u) w.initialisers p.initialisers.0.items l.code.initialisers,
        bodies-counted (functions_of u) p.functions w.functions l.code.functions,
        unit-counted p.types u,
        limits.cells,
      )
