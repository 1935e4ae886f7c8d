-- The definition of a function that is well typed is given.
use Rattle.std.proofs.Common.{◌≡◌, ◌≤◌, ℕ, Bool, true, false, max, List, [], ◌∷◌, ◌++◌, length, Option, Some, None, refl, ap, sym, subst, ◌∙◌, arith}
use Rattle.std.specs.List.{All}
use Rattle.std.proofs.lemmas.List.Elements.{All-head, All-cons, All-nil, All-push}
use Rattle.cc_base.specs.declared.place.Place.{Place}
use Rattle.cc_base.specs.declared.number.TypeId.{TypeId}
use Rattle.c_types.specs.declared.shape.TypeShape.{TypeShape}
use Rattle.c_types.specs.declared.shape.TypeShape.TheVariants.{Function}
use Rattle.c_types.specs.Table.{Table, IsType, shape_at, named_by}
use Rattle.c_tree.specs.declared.leaf.Identifier.{Identifier}
use Rattle.c_tree.specs.declared.typed_word.Home.{Home}
use Rattle.c_tree.specs.declared.typed_word.Home.TheVariants as home
use Rattle.c_tree.specs.Erasure.{erased_specifiers, erased_form, erased_block_items}
use Rattle.c_tree.specs.Tree as tree
use Rattle.c_tree.specs.TypedTree as typed
use Rattle.c_tree.specs.TypedTree.{TypedSpecifiers, TypedForm, TypedDeclarator, TypedBlockItems, TypedTranslationUnit}
use Rattle.c_tree.specs.TypedParts.{made_by_specifiers, made_by_form, made_by_block_items, specified_type, name_of_form, home_of_form, is_void_list}
use Rattle.c_typing.specs.declared.declared.Declared.TheVariants as declared
use Rattle.c_typing.specs.declared.naming.Naming.{Naming}
use Rattle.c_typing.specs.declared.declared.Declared.{Declared}
use Rattle.c_typing.specs.Declarators.{Written, name_bytes}
use Rattle.c_typing.specs.Declaring.{declarator_name, unless_function}
use Rattle.c_typing.specs.Judging as judging
use Rattle.c_typing.specs.Judging.{State}
use Rattle.c_typing.specs.Scopes.{Name, Level, Scopes, empty_level, entering, innermost, place_among}
use Rattle.c_typing.specs.Settled.{IsBasic, IsLevelThere}
use Rattle.c_typing.specs.Shapes.{is_function_shape}
use Rattle.c_typing.specs.Tests.{has_some}
use Rattle.c_typing.specs.Typing.{AreSpecifiers, AreParameters}
use Rattle.c_typing.specs.Walks.{judge_specifiers_of, judge_declarator}
use Rattle.c_typing_laws.specs.Judged.{IsHomeOf}
use Rattle.c_typing_laws.proofs.ExtensionLaws.{extended_refl, still_in}
use Rattle.c_typing_laws.proofs.KnownScopes.{levels-kept}
use Rattle.c_typing_laws.proofs.JudgedDeclarators.{form_name}
use Rattle.c_typing_laws.proofs.JudgedWhole.{specifiers_of-judged}
use Rattle.c_typing_unique.specs.Points.{Point, Numbers}
use Rattle.c_typing_unique.proofs.Shapes.{no_true}
use Rattle.c_typing_unique.proofs.Numbering.{two-parts}
use Rattle.c_typing_given.specs.Given.{IsHere}
use Rattle.c_type_order.specs.TypesUsed.{AreUses, used_by_specifiers, used_by_declarator}
use Rattle.c_typing_given.proofs.ValuesGiven.{uses-first}
use Rattle.c_typing_given.proofs.Settling.{numbers-end}
use Rattle.c_unit_typing.specs.DeclarationJudging.{naming_for, linked_first}
use Rattle.c_unit_typing.specs.DefinitionJudging.{result_of, body, defined_as, judge_definition}
use Rattle.c_unit_typing.specs.Holding.{specifiers_holds, declarator_holds, block_items_holds}
use Rattle.c_unit_typing.specs.StatementJudging.{judge_block_items}
use Rattle.c_unit_typing.specs.Units.{Known, Around, with_scopes, leaving_known, storage_of, is_one_of, going_on, defaults_in, AreDifferent, IsLinked, IsDeclarator, AreBlockItems, IsDefinition}
use Rattle.c_unit_typing.specs.UnitJudged.{state_of}
use Rattle.c_unit_typing.specs.UnitJudging.{UnitState, UnitJudging, Gives, known_of, known, pure, lifted, ◌>>=◌}
use Rattle.c_unit_typing.proofs.DeclaredNames.{is_typedef}
use Rattle.c_unit_typing.proofs.FunctionParameters.{IsFunctionWith, function-with}
use Rattle.c_unit_typing.proofs.JudgedDefinitions.{level_at, behind_declarator, behind_specifiers}
use Rattle.c_unit_typing.proofs.NearestLists.{level-judged}
use Rattle.c_unit_typing.proofs.UnitOutcomes.{lifted-gives}
use Rattle.c_unit_typing.proofs.JudgedDeclarators.{IsFormKnown, form-known, makes-later}
use Rattle.c_unit_typing.proofs.NameSteps.{some-same}
use Rattle.c_unit_typing.proofs.StillDefined.{specifiers-defined, form-defined}
use Rattle.c_unit_given.proofs.UnitGiven.{IsHomeBelow, HasUnitRoom, IsUnitHere, IsUnitReached, IsUnitGivenAs, IsRun, Nothing, And, HasType, Always, AreSizesWritten, AreScopesKept, AreExpressionsGiven, AreDeclaratorsGiven}
use Rattle.c_unit_typing.specs.TypesUsed.{used_by_block_items}
use Rattle.c_unit_given.proofs.BlockItemsGiven.{AreBlockItemsRun, no-labels}
use Rattle.c_unit_given.proofs.DeclarationsGiven.{left-held, right-held}
use Rattle.c_unit_given.proofs.FunctionsDefined.{placed, no-typedef, IsFunctionLinked, function-linked, defining_function, defined-given}
use Rattle.c_unit_given.proofs.ParameterNames.{own-parameters, parameters-below, list-leaves}
use Rattle.c_unit_given.proofs.LevelsBelow.{IsLevelBelow, innermost-below}
use Rattle.c_unit_given.proofs.Runs.{Then, Among, homes-later, then-is, lifted-is, lift-reached, reached-then, run-then, run-as, run-three, run-lifted, nothing-kept}
use Rattle.c_unit_given.proofs.ScopesGiven.{in_scopes, opened-here, opened-given}
use Rattle.c_unit_given.proofs.UnitRoom.{part-room, unit-room-first, unit-room-then}

-- the name of a function has no home
homeless : (which : Naming) (f : Bool) (o : Option Identifier) (h : Home) → f ≡ true → h ≡ home.None → IsHomeOf (unless_function f which) o h
homeless which true None h q none = none
homeless which true (Some name) h q none = none
homeless which false o h q none = no_true q

abbrev pub inside_function : TypeId → Around
inside_function result = record { result = result; in_loop = false; breakable = false }

-- what follows the specifiers
abbrev defining : TypedTranslationUnit → TypedSpecifiers → tree.Declarator → Place → tree.BlockItems → UnitJudging TypedTranslationUnit
defining before base d brace items = λ (s : UnitState). behind_specifiers before d brace items base s

module _ (T : Table) (basic : IsBasic T) (exprs : AreExpressionsGiven T) (scopes : AreScopesKept T) (decls : AreDeclaratorsGiven T) (sizes : AreSizesWritten T) where
  -- The body

  module _ (brace : Place) (result : TypeId) (level : Level) (list : TypedBlockItems) (run : AreBlockItemsRun T basic exprs scopes decls sizes list)
      (holds : block_items_holds (erased_block_items list) ≤ 256) (s : UnitState) (after k : Known) (n count : ℕ) (here : IsUnitHere T s) (known_result : IsType s.table result)
      (there : IsLevelThere s.table level) (below : IsLevelBelow s.seen.node level)
      (well : AreBlockItems T (inside_function result) None list (with_scopes (known_of s) (going_on level s.seen.scopes)) after) (defaults : defaults_in list ≤ 1) (leaves : k ≡ leaving_known after)
      (numbers : Numbers (made_by_block_items list) s.seen.node n) (uses : AreUses (used_by_block_items T list) (length s.table) count) (room : HasUnitRoom T (made_by_block_items list) s) where
    abbrev inner : UnitJudging TypedBlockItems
    inner = judge_block_items (inside_function result) None (erased_block_items list)

    inner_given : IsUnitGivenAs T Nothing (made_by_block_items list) (inner (in_scopes (going_on level) s)) list (in_scopes (going_on level) s) after n count
    inner_given =
        let s1 : UnitState = in_scopes (going_on level) s in
        let none = no-labels T (inside_function result) list (known_of s1) after well in
        run (inside_function result) None (subst AreDifferent (sym none) tt) defaults holds s1 after n count (opened-here T level s here there below) (known_result, tt) well numbers uses
        (record { things = room.things; nodes = room.nodes; globals = room.globals; cells = room.cells })

    body_given : IsUnitGivenAs T Nothing (made_by_block_items list) (body brace (Some result) level (erased_block_items list) s) list s k n count
    unfolding body
    body_given = opened-given T Nothing (made_by_block_items list) inner list brace (λ (v : TypedBlockItems). v) level s after k n count here inner_given leaves

  -- The whole

  module _ (names : List Name) (few : length names ≤ 65535) (before : TypedTranslationUnit) (specifiers : TypedSpecifiers) (form : TypedForm) (t : TypeId) (brace : Place) (list : TypedBlockItems)
      (among : is_one_of names (name_bytes (name_of_form form)) ≡ true) (run : AreBlockItemsRun T basic exprs scopes decls sizes list)
      (holds : max (specifiers_holds (erased_specifiers specifiers)) (max (declarator_holds (erased_form form)) (block_items_holds (erased_block_items list))) ≤ 256) where
    declarator_held : declarator_holds (erased_form form) ≤ 256
    declarator_held =
        left-held (declarator_holds (erased_form form)) (block_items_holds (erased_block_items list)) 256
        (right-held (specifiers_holds (erased_specifiers specifiers)) (max (declarator_holds (erased_form form)) (block_items_holds (erased_block_items list))) 256 holds)

    items_held : block_items_holds (erased_block_items list) ≤ 256
    items_held =
        right-held (declarator_holds (erased_form form)) (block_items_holds (erased_block_items list)) 256
        (right-held (specifiers_holds (erased_specifiers specifiers)) (max (declarator_holds (erased_form form)) (block_items_holds (erased_block_items list))) 256 holds)

    -- the rest of a definition, behind its specifiers
    abbrev IsDefining : Known → Known → Type 0
    IsDefining k k' = (c : Known) × (d : IsDefinition T specifiers form t list c k') × (k ≡ with_scopes c d.before) × (k.scopes.defined ≡ names)

    module _ (s : UnitState) (k : Known) (n count : ℕ) (here : IsUnitHere T s) (c : IsType s.table (specified_type specifiers)) (q : IsDefining (known_of s) k)
        (numbers : Numbers (made_by_form form t ++ made_by_block_items list) s.seen.node n)
        (uses : AreUses (used_by_declarator T Written (typed.Declares form t) ++ used_by_block_items T list) (length s.table) count) (room : HasUnitRoom T (made_by_form form t ++ made_by_block_items list) s) where
      one : IsDeclarator T true (storage_of specifiers) (specified_type specifiers) Written form t (known_of s) q.1.declared
      one =
          subst (λ (m : Known). IsDeclarator T true (storage_of specifiers) (specified_type specifiers) Written form t m q.1.declared) (sym q.2) q.1.declares

      shape : is_function_shape (shape_at T t) ≡ true
      shape = ap is_function_shape q.1.shape.1

      ordinary : is_typedef (storage_of specifiers) ≡ false
      ordinary = no-typedef (storage_of specifiers) q.1.no_typedef

      linked : IsFunctionLinked T q.1.name.bytes t (with_scopes (known_of s) one.inside) q.1.declared (home_of_form form)
      linked =
          subst (λ (name : Identifier). IsFunctionLinked T name.bytes t (with_scopes (known_of s) one.inside) q.1.declared (home_of_form form))
          (some-same one.name q.1.name (sym one.named ∙ q.1.named))
          (function-linked T one.name.bytes t (with_scopes (known_of s) one.inside) q.1.declared (storage_of specifiers) (home_of_form form) ordinary shape one.declares)

      abbrev which : Naming
      which = naming_for true (storage_of specifiers) (linked_first s.linkage.linked (declarator_name (erased_form form)))

      cut : (m : ℕ) × Numbers (made_by_form form t) s.seen.node m × Numbers (made_by_block_items list) m n
      cut = two-parts (made_by_form form t) (made_by_block_items list) s.seen.node n numbers

      parts : (m : ℕ) × AreUses (used_by_declarator T Written (typed.Declares form t)) (length s.table) m × AreUses (used_by_block_items T list) m count
      parts = uses-first (used_by_declarator T Written (typed.Declares form t)) (used_by_block_items T list) (length s.table) count uses

      -- the declarator
      record IsFormed : Type 0 where
        after : UnitState
        gives : lifted (judge_declarator which specifiers None (erased_form form)) s ≡ Gives (typed.Declares form t) after
        reached : IsUnitReached T (made_by_form form t) s after (with_scopes (known_of s) one.inside) cut.0 parts.0

      formed : IsFormed
      formed =
          let xs = made_by_form form t in
          let b : Point = record { scopes = one.inside; node = cut.0 } in
          let f =
          decls.declarator which specifiers None form t (homeless which (is_function_shape (shape_at T t)) (name_of_form form) (home_of_form form) shape linked.0) declarator_held (state_of s) b parts.0 here.here c
          (one.parts, one.type) cut.1 parts.1 (part-room T xs s (unit-room-first T xs (made_by_block_items list) s room)) in
          record {
            after = known f.after.table f.after.seen s.linkage;
            gives = lifted-is (judge_declarator which specifiers None (erased_form form)) (typed.Declares form t) s f.after f.gives;
            reached = lift-reached T xs s f.after b parts.0 here f.reached (scopes.form form s.seen.scopes one.inside one.parts);
          }

      form_is : IsFormKnown which (specified_type specifiers) None (erased_form form) form t s formed.after
      form_is = form-known which specifiers None (erased_form form) form t s formed.after here.unit c formed.gives

      function_is : IsFunctionWith formed.after.table q.1.parameters t
      function_is =
          function-with formed.after.table formed.after.seen.scopes form (specified_type specifiers) t q.1.parameters q.1.written
          (makes-later which (specified_type specifiers) None (erased_form form) form t s formed.after here.unit form_is formed.after.table (extended_refl formed.after.table))

      -- its name
      tried : IsUnitGivenAs T Nothing [] (defined_as (Some q.1.name) specifiers (typed.Declares form t) formed.after) (typed.Declares form t) formed.after
          (defining_function q.1.name.bytes q.1.declared) formed.after.seen.node (length formed.after.table)
      tried =
          let m : UnitState = formed.after in
          let name : Identifier = q.1.name in
          let there = placed names name.bytes (ap (λ (o : Option Identifier). is_one_of names (name_bytes o)) (sym q.1.named) ∙ among) in
          let low = there.2 in
          let same : m.seen.scopes.defined ≡ names =
          ap (λ (l : Known). l.scopes.defined) formed.reached.known ∙ (form-defined T form s.seen.scopes one.inside one.parts ∙ q.3) in
          defined-given T name specifiers form t m q.1.declared formed.reached.here form_is.judged.there
          (subst (λ (l : Known). IsLinked T name.bytes (declared.Function t) l q.1.declared) (sym formed.reached.known) linked.1) q.1.once ordinary shape (ap has_some q.1.written) q.1.own there.0
          (ap (λ (all : List Name). place_among all name.bytes) same ∙ there.1) (omega (arith, low, few))

      shape_there : shape_at tried.after.table t ≡ Function q.1.types q.1.result
      shape_there =
          sym (tried.reached.here.here.first.shapes t (still_in formed.after.table tried.after.table tried.reached.grown t form_is.judged.there)) ∙ q.1.shape.1

      -- the scope that its parameters leave
      abbrev level : Level
      level = level_at before (erased_form form) brace (erased_block_items list) specifiers s

      record IsLevelGiven : Type 0 where
        same : level ≡ innermost q.1.inside.levels
        there : IsLevelThere formed.after.table level
        below : IsLevelBelow cut.0 level

      leveled : IsLevelGiven
      leveled =
          let m : UnitState = formed.after in
          let ps = q.1.parameters in
          let l = level-judged which specifiers (erased_form form) form t ps (state_of s) (state_of m) here.here.known c
          (lifted-gives (judge_declarator which specifiers None (erased_form form)) (typed.Declares form t) s m formed.gives).0 q.1.written in
          let start : Scopes = s.seen.scopes in
          let begins : start ≡ q.1.before = ap (λ (w : Known). w.scopes) q.2 in
          let listed : AreParameters T (is_void_list ps) ps (entering start) q.1.inside =
          subst (λ (w : Scopes). AreParameters T (is_void_list ps) ps (entering w) q.1.inside) (sym begins) q.1.listed in
          let own = own-parameters T cut.0 form t start one.inside s.seen.node ps one.parts cut.1 q.1.written in
          let inside : l.inside ≡ q.1.inside =
          list-leaves T basic (is_void_list ps) (is_void_list ps) ps (entering start) l.inside q.1.inside own.first own.last (l.listed T formed.reached.here.here.first) listed own.numbers here.here.own in
          let same : level ≡ innermost q.1.inside.levels = l.same ∙ ap (λ (w : Scopes). innermost w.levels) inside in
          let end = numbers-end (made_by_form form t) s.seen.node cut.0 cut.1 in
          let up : s.seen.node ≤ cut.0 = omega (arith, end) in
          let homes = parameters-below T scopes cut.0 (is_void_list ps) ps own.first own.last (entering start) q.1.inside own.below listed own.numbers
          (All-push (IsLevelBelow cut.0) start.levels empty_level (homes-later s.seen.node cut.0 start.levels up here.homes) (All-nil (λ (e : Name × Declared). IsHomeBelow cut.0 e.1))) in
          record { same = same; there = l.there; below = subst (IsLevelBelow cut.0) (sym same) (innermost-below cut.0 q.1.inside.levels homes) }

      -- its body
      bodied : IsUnitGivenAs T Nothing (made_by_block_items list) (body brace (Some q.1.result) level (erased_block_items list) tried.after) list tried.after k n count
      bodied =
          let m : UnitState = formed.after in
          let r : UnitState = tried.after in
          let xs = made_by_form form t in
          let ys = made_by_block_items list in
          let grown = tried.reached.grown in
          let node : r.seen.node ≡ cut.0 = tried.reached.node ∙ formed.reached.node in
          let types : length r.table ≡ parts.0 = tried.reached.types ∙ formed.reached.types in
          let there = All-head (IsLevelThere r.table) level [] (levels-kept m.table r.table grown (level ∷ []) (All-cons (IsLevelThere m.table) level [] leveled.there (All-nil (IsLevelThere m.table)))) in
          let below = subst (λ (i : ℕ). IsLevelBelow i level) (sym node) leveled.below in
          let known_result =
          All-head (IsType r.table) q.1.result q.1.types
          (subst (λ (y : TypeShape). All (IsType r.table) (named_by y)) shape_there (tried.reached.here.here.known.basic.formed.each t).named) in
          body_given brace q.1.result level list run items_held r q.1.after k n count tried.reached.here known_result there below
          (subst (λ (l : Known). AreBlockItems T (inside_function q.1.result) None list (with_scopes l (going_on level l.scopes)) q.1.after) (sym tried.reached.known)
          (subst (λ (v : Level). AreBlockItems T (inside_function q.1.result) None list (with_scopes (defining_function q.1.name.bytes q.1.declared) (going_on v q.1.declared.scopes)) q.1.after) (sym leveled.same) q.1.statements))
          q.1.defaults
          q.1.leaves (subst (λ (i : ℕ). Numbers ys i n) (sym node) cut.2) (subst (λ (i : ℕ). AreUses (used_by_block_items T list) i count) (sym types) parts.2)
          (unit-room-then T [] ys m r (unit-room-then T xs ys s m room formed.reached.spent) tried.reached.spent)

      whole_given : IsUnitGivenAs T Nothing (made_by_form form t ++ made_by_block_items list) (defining before specifiers (erased_form form) brace (erased_block_items list) s)
          (typed.AndFunctionBody before specifiers (typed.Declares form t) brace list) s k n count
      whole_given =
          let m : UnitState = formed.after in
          let r : UnitState = tried.after in
          let z : UnitState = bodied.after in
          let xs = made_by_form form t in
          let ys = made_by_block_items list in
          let d = erased_form form in
          let items = erased_block_items list in
          let here_is : TypedDeclarator = typed.Declares form t in
          let whole = typed.AndFunctionBody before specifiers here_is brace list in
          let written : declarator_name d ≡ Some q.1.name = form_name form ∙ q.1.named in
          let give : TypedBlockItems → UnitJudging TypedTranslationUnit = λ v. pure (typed.AndFunctionBody before specifiers here_is brace v) in
          let third : UnitJudging TypedBlockItems = λ (w : UnitState). body brace (result_of (shape_at w.table t)) level items w in
          let second : Option Identifier → UnitJudging TypedTranslationUnit = λ o. defined_as o specifiers here_is >>= (λ (again : TypedDeclarator). third >>= give) in
          let inside : third r ≡ Gives list z = ap (λ (o : Option TypeId). body brace o level items r) (ap result_of shape_there) ∙ bodied.gives in
          record {
            after = z;
            gives = then-is (lifted (judge_declarator which specifiers None d)) (λ (one : TypedDeclarator) (w : UnitState). behind_declarator before d brace items specifiers s one w) here_is s m (Gives whole z)
                formed.gives
                (ap (λ (o : Option Identifier). second o m) written
                ∙ then-is (defined_as (Some q.1.name) specifiers here_is) (λ (again : TypedDeclarator). third >>= give) here_is m r (Gives whole z) tried.gives
                (then-is third give list r z (Gives whole z) inside refl));
            reached = reached-then T xs ys s m z (with_scopes (known_of s) one.inside) k cut.0 n parts.0 count formed.reached
                (reached-then T [] ys m r z (defining_function q.1.name.bytes q.1.declared) k m.seen.node n (length m.table) count tried.reached bodied.reached);
            gains = tt;
          }

    -- the definition of a function, of which the names are those that the unit defines
    pub definition-run : IsRun T Nothing Nothing (λ (k k' : Known). (k.scopes.defined ≡ names) × IsDefinition T specifiers form t list k k')
        (made_by_specifiers specifiers ++ made_by_form form t ++ made_by_block_items list)
        (used_by_specifiers T specifiers ++ used_by_declarator T Written (typed.Declares form t) ++ used_by_block_items T list)
        (judge_definition before (erased_specifiers specifiers) (erased_form form) brace (erased_block_items list)) (typed.AndFunctionBody before specifiers (typed.Declares form t) brace list)
    unfolding judge_definition
    definition-run =
        let u = specified_type specifiers in
        let one : TypedDeclarator = typed.Declares form t in
        let whole = typed.AndFunctionBody before specifiers one brace list in
        let P = AreSpecifiers T specifiers in
        let zs = made_by_specifiers specifiers in
        let xs = made_by_form form t in
        let ys = made_by_block_items list in
        let ws = used_by_specifiers T specifiers in
        let us = used_by_declarator T Written one in
        let vs = used_by_block_items T list in
        let d = erased_form form in
        let items = erased_block_items list in
        let IsIt : Known → Known → Type 0 = λ k k'. (k.scopes.defined ≡ names) × IsDefinition T specifiers form t list k k' in
        let m = judge_definition before (erased_specifiers specifiers) d brace items in
        let held =
        left-held (specifiers_holds (erased_specifiers specifiers)) (max (declarator_holds (erased_form form)) (block_items_holds (erased_block_items list))) 256 holds in
        let there : (s r : State) → IsHere T s → Nothing s.table → judge_specifiers_of false (erased_specifiers specifiers) s ≡ judging.Gives specifiers r → HasType u r.table =
        λ s r here w g. (specifiers_of-judged false (erased_specifiers specifiers) specifiers s r here.known g).there in
        let first =
        run-lifted T Nothing (HasType u) P zs ws Always (judge_specifiers_of false (erased_specifiers specifiers)) specifiers (scopes.specifiers specifiers) (decls.specifiers specifiers held) (λ s w. tt) there in
        let last : IsRun T (And Nothing (HasType u)) Nothing IsDefining (xs ++ ys) (us ++ vs) (defining before specifiers d brace items) whole =
        λ s k n count here w h numbers uses room. whole_given s k n count here w.1 h numbers uses room in
        run-three T Nothing Nothing IsIt zs xs ys ws us vs m whole
        (run-as T Nothing Nothing Nothing Nothing (Then (Among P) IsDefining) IsIt (zs ++ (xs ++ ys)) (ws ++ (us ++ vs)) m whole (λ J w. w) (λ J w. w)
        (λ k k' h. (with_scopes k h.1.before, (h.1.before, h.1.specified, refl), (k, h.1, refl, specifiers-defined T specifiers k.scopes h.1.before h.1.specified ∙ h.0)))
        (run-then T Nothing (HasType u) Nothing nothing-kept (Among P) IsDefining zs (xs ++ ys) ws (us ++ vs) (lifted (judge_specifiers_of false (erased_specifiers specifiers)))
        (λ (base : TypedSpecifiers). defining before base d brace items) specifiers whole first last))
