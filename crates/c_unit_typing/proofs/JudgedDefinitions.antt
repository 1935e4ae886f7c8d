-- What judging gives for the definition of a function is well typed and erases to what was judged.
use Rattle.std.proofs.Common.{◌≡◌, ℕ, nat_lt, Bool, true, false, not, ◌&&◌, ◌||◌, List, [], ◌∷◌, ◌++◌, Option, Some, None, refl, ap, sym, subst, ◌∙◌, ◌⊎◌, inl, inr, if◌then◌else◌, ◌<◌, ◌≤◌, arith}
use Rattle.std.proofs.lemmas.Bool.Decides.{nat_tests}
use Rattle.std.proofs.lemmas.List.Elements.{All-push}
use Rattle.cc_base.specs.declared.place.Place.{Place}
use Rattle.cc_base.specs.declared.number.TypeId.{TypeId}
use Rattle.cc_base.specs.declared.fault.Fault.TheVariants.{Refused, TooLarge}
use Rattle.cc_base.specs.declared.fault.Limit.TheVariants.{Types, Functions}
use Rattle.cc_base.specs.declared.fault.Rule.TheVariants as rule
use Rattle.c_types.specs.declared.shape.TypeShape.TheVariants.{Function}
use Rattle.c_types.specs.Table.{Table, IsType, shape_at}
use Rattle.c_types.specs.Sameness.{IsSameType, is_same_type}
use Rattle.c_tree.specs.declared.leaf.Identifier.{Identifier}
use Rattle.c_tree.specs.declared.typed_word.Home.{Home}
use Rattle.c_tree.specs.declared.typed_word.Home.TheVariants as home
use Rattle.c_tree.specs.Erasure.{erased_specifiers, erased_declarator, erased_block_items}
use Rattle.c_tree.specs.Tree as tree
use Rattle.c_tree.specs.TypedTree as typed
use Rattle.c_tree.specs.TypedTree.{TypedSpecifiers, TypedForm, TypedDeclarator, TypedParameters, TypedBlockItems, TypedTranslationUnit}
use Rattle.c_tree.specs.TypedParts.{Made, specified_type, declared_type, home_of_form, name_of_form, made_by_specifiers, made_by_declarator, made_by_block_items, is_void_list}
use Rattle.runtime_calls.specs.Prototypes.{IsNoName, runtime_of}
use Rattle.c_typing.specs.declared.declared.Declared.{Declared}
use Rattle.c_typing.specs.declared.declared.Declared.TheVariants as declared
use Rattle.c_typing.specs.declared.naming.Naming.{Naming}
use Rattle.c_typing.specs.Declarators.{Written, taken_types}
use Rattle.c_typing.specs.Declaring.{NotDerived, derived_by, declarator_name, is_function_by, left, unless_function}
use Rattle.c_typing.specs.Extensions.{IsExtended}
use Rattle.c_typing.specs.Judging.{State}
use Rattle.c_typing.specs.Scopes as scopes
use Rattle.c_typing.specs.Scopes.{Name, Level, Scopes, entry_of, entering, place_among}
use Rattle.c_typing.specs.Settled.{IsLevelThere, GoesOn}
use Rattle.c_typing.specs.Specifying.{in_scopes}
use Rattle.c_typing.specs.Shapes.{is_function_shape}
use Rattle.c_typing.specs.Tests.{first_broken, has_some}
use Rattle.c_typing.specs.Typing.{AreSpecifiers, AreParameters}
use Rattle.c_typing.specs.Walks.{judge_declarator, judge_specifiers_of}
use Rattle.c_typing_laws.specs.Judged.{IsHomeOf}
use Rattle.c_typing_laws.specs.Numbers.{AreNumberedFrom}
use Rattle.c_typing_laws.proofs.ConstructLaws.{two_unbroken, not_false, or_left, or_right}
use Rattle.c_typing_laws.proofs.ExtensionLaws.{no_true, still_in, and_left, and_right, extended_refl}
use Rattle.c_typing_laws.proofs.JudgedDeclarators.{no_home}
use Rattle.c_typing_laws.proofs.JudgedSpecifiers.{scopes-known}
use Rattle.c_typing_laws.proofs.Outcomes
use Rattle.c_typing_laws.proofs.KeptRules.{has-kept}
use Rattle.c_typing_laws.proofs.KeptTypes.{same_exact}
use Rattle.c_typing_laws.proofs.KeptTrees.{specifiers-kept}
use Rattle.c_typing_laws.proofs.TableGrowth.{extended_trans}
use Rattle.c_type_order.specs.TypesUsed.{Use, used_by_specifiers, used_by_declarator}
use Rattle.c_type_order.specs.Uses.{IsUsed}
use Rattle.c_type_order.proofs.Uses.{then_used}
use Rattle.c_unit_typing.specs.DeclarationJudging.{naming_for, linked_first, linked_name}
use Rattle.c_unit_typing.specs.DefinitionJudging.{counted, defined, result_of, body, defined_as, judge_definition}
use Rattle.c_unit_typing.specs.ParameterScopes.{level_of}
use Rattle.c_unit_typing.specs.Linkage.{Linkage, with_name}
use Rattle.c_unit_typing.specs.StatementJudging.{judge_block_items}
use Rattle.c_unit_typing.specs.Units.{Known, Storage, AsTypedef, Around, is_one_of, storage_of, with_scopes, leaving_known, unless_linked, IsNameDeclared, IsDeclarator, parameters_of_form, going_on, defaults_in, AreBlockItems, IsDefinition}
use Rattle.c_unit_typing.specs.UnitJudged.{state_of, OverLater, IsResult, IsUnitKnown, UnitGoesOn}
use Rattle.c_unit_typing.specs.UnitJudging.{UnitState, UnitOutcome, Gives, known_of, next, pure, stop, lifted}
use Rattle.c_unit_typing.specs.UnitRefusals.{conflicts, declared_as, is_function_declared, is_redeclared, definition_tests, start_of_text}
use Rattle.c_unit_typing.proofs.FunctionParameters.{IsFunctionWith, function-with, result-is}
use Rattle.c_unit_typing.proofs.JudgedDeclarations.{AreBaseJudged, base-judged, defined-goes}
use Rattle.c_unit_typing.proofs.JudgedDeclarators.{IsFormKnown, form-known, named-form, form-later, makes-later}
use Rattle.c_unit_typing.proofs.DeclaredNames.{IsNotAgain, not-again, no-runtime, is_typedef, declared-as, IsNamedAs, function-named}
use Rattle.c_unit_typing.proofs.JudgedLabels.{items-on}
use Rattle.c_unit_typing.proofs.JudgedStatements.{leave-judged, items-judged, result-kept}
use Rattle.c_unit_typing.proofs.NearestLists.{IsLevelJudged, level-judged}
use Rattle.c_unit_typing.proofs.JudgedTests.{scopes-alone}
use Rattle.c_unit_typing.proofs.NameSteps.{entry-own, linked-there, linked_state, linked-goes, linked-name-gives, name-own}
use Rattle.c_unit_typing.proofs.StillDefined.{specifiers-defined, form-defined}
use Rattle.c_unit_typing.proofs.UnitOutcomes.{never-gives, bind-gives, unless-gives, given-same, gives-state, lifted-gives}
use Rattle.c_unit_typing.proofs.UnitStates.{numbers-on, numbers-before, numbers-after, linkage-stays, unit-on}
use Rattle.c_unit_typing.specs.TypesUsed.{used_by_block_items}
use Rattle.c_unit_typing.proofs.TypesOfTests.{inside-types, leave-table}

-- The name of a function that is defined

function_storage : (T : Table) (storage : Storage) (t : TypeId) → is_function_declared (declared_as T storage t) ≡ true
    → (is_typedef storage ≡ false) × (is_function_shape (shape_at T t) ≡ true)
function_storage T AsTypedef t h = no_true h
function_storage T storage t h = (refl, by (is_function_shape (shape_at T t)) h)
  where
    by : (b : Bool) → is_function_declared (if b then declared.Function t else declared.Object t (record { 0 = 0 })) ≡ true → b ≡ true
    by true g = refl
    by false g = no_true g

no_typedef : (storage : Storage) → is_typedef storage ≡ false → storage ≡ AsTypedef → ⊥
no_typedef storage n e = no_true (sym n ∙ ap is_typedef e)

-- what was tried of the name
pub record IsFunctionName (T : Table) (k : Known) (storage : Storage) (written : Bool) (name : Name) (t : TypeId) : Type 0 where
  pub ordinary : is_typedef storage ≡ false
  pub shape : is_function_shape (shape_at T t) ≡ true
  pub parameters : written ≡ true
  pub again : IsNotAgain T k true name (declared.Function t)
  pub own : IsNoName name

pub function_name : (T : Table) (k : Known) (storage : Storage) (written : Bool) (name : Name) (t : TypeId) (at : Place)
    → first_broken (definition_tests T k storage written name t at) ≡ None → IsFunctionName T k storage written name t
function_name T k storage written name t at h =
    let what = declared_as T storage t in
    let two = two_unbroken (is_redeclared T k true true name what || has_some (runtime_of name)) (not (written && is_function_declared what))
    (Refused at rule.Redeclared) (Refused at rule.Mismatch) h in
    let both = not_false (written && is_function_declared what) two.1 in
    let storage_is = function_storage T storage t (and_right written (is_function_declared what) both) in
    let same = declared-as T storage t true storage_is.0 storage_is.1 in
    record {
      ordinary = storage_is.0;
      shape = storage_is.1;
      parameters = and_left written (is_function_declared what) both;
      again = not-again T k true name (declared.Function t)
          (ap (λ (w : Declared). is_redeclared T k true true name w) (sym same) ∙ or_left (is_redeclared T k true true name what) (has_some (runtime_of name)) two.0);
      own = no-runtime name (or_right (is_redeclared T k true true name what) (has_some (runtime_of name)) two.0);
    }

-- the state once it is declared and defined
abbrev pub defined_function : UnitState → Name → TypeId → UnitState
defined_function s name t =
    let q = linked_state s name (declared.Function t) in
    record q { linkage = record q.linkage { defined = with_name name q.linkage.defined } }

pub defined-gives : (name : Identifier) (t : TypeId) (what : Declared) (s r : UnitState) → defined name t s ≡ Gives what r → r ≡ defined_function s name.bytes t
unfolding defined
defined-gives name t what s r h =
    let one = bind-gives (linked_name name (declared.Function t) s)
    (λ w. λ q. Gives w (record q { linkage = record q.linkage { defined = with_name name.bytes q.linkage.defined } })) what r h in
    let made = linked-name-gives name (declared.Function t) one.0 s one.1 one.2 in
    sym (gives-state one.0 what (record one.1 { linkage = record one.1.linkage { defined = with_name name.bytes one.1.linkage.defined } }) r one.3)
    ∙ ap (λ (q : UnitState). record q { linkage = record q.linkage { defined = with_name name.bytes q.linkage.defined } }) made

-- how many functions come before, of those that a unit may define
abbrev pub IsPlaced : Option ℕ → Type 0
IsPlaced o = (number : ℕ) × (o ≡ Some number) × (number < 65535)

pub counted-gives : (at : Place) (o : Option ℕ) (n : ℕ) (s r : UnitState) → counted at o s ≡ Gives n r → (r ≡ s) × IsPlaced o
unfolding counted
counted-gives at None n s r h = never-gives n (TooLarge at Types) s r h
counted-gives at (Some number) n s r h = by (nat_lt number 65535) refl h
  where
    below : (m k : ℕ) → nat_lt m k ≡ true → m < k
    below m k q = grind (arith, nat_tests)

    by : (b : Bool) → nat_lt number 65535 ≡ b → (if b then pure number else stop (TooLarge at Functions)) s ≡ Gives n r → (r ≡ s) × IsPlaced (Some number)
    by true q g = (sym (gives-state number n s r g), (number, refl, below number 65535 q))
    by false q g = never-gives n (TooLarge at Functions) s r g

-- the first declaration of a defined function is a function of the same type
pub record IsFunctionLinked (T : Table) (linked : List (Name × Declared)) (name : Name) (t : TypeId) : Type 0 where
  pub first : TypeId
  pub found : entry_of linked name ≡ Some (declared.Function first)
  pub same : (first ≡ t) ⊎ IsSameType T first t

linked_as : (T : Table) (name : Name) (t : TypeId) (all : List (Name × Declared)) (o : Option Declared) → entry_of all name ≡ o → conflicts T o (declared.Function t) ≡ false
    → IsFunctionLinked T (unless_linked o name (declared.Function t) all) name t
linked_as T name t all None q h = record { first = t; found = entry-own all name (declared.Function t) q; same = inl refl }
linked_as T name t all (Some (declared.Function u)) q h = record { first = u; found = q; same = inr (not_false (is_same_type T u t) h) }
linked_as T name t all (Some (declared.Object u n)) q h = no_true (sym h)
linked_as T name t all (Some (declared.Typedef u)) q h = no_true (sym h)
linked_as T name t all (Some (declared.Enumerator z)) q h = no_true (sym h)

some_of : {A : Type 0} (o : Option A) → has_some o ≡ true → (x : A) × (o ≡ Some x)
some_of (Some x) h = (x, refl)
some_of None h = no_true h

abbrev pub inside_function : TypeId → Around
inside_function result = record { result = result; in_loop = false; breakable = false }

-- a function with its body, behind what a unit has before it
pub record IsDefinitionJudged (before : TypedTranslationUnit) (all : tree.Specifiers) (d : tree.Declarator) (brace : Place) (items : tree.BlockItems) (whole : TypedTranslationUnit) (s r : UnitState) : Type 0 where
  pub specifiers : TypedSpecifiers
  pub form : TypedForm
  pub type : TypeId
  pub body : TypedBlockItems
  pub name : Identifier
  pub made : whole ≡ typed.AndFunctionBody before specifiers (typed.Declares form type) brace body
  pub specifiers_erase : erased_specifiers specifiers ≡ all
  pub declarator_erases : erased_declarator (typed.Declares form type) ≡ d
  pub body_erases : erased_block_items body ≡ items
  pub numbers : (xs : List Made) (s0 : State) → AreNumberedFrom xs s0 (state_of s)
      → AreNumberedFrom (xs ++ made_by_specifiers specifiers ++ made_by_declarator (typed.Declares form type) ++ made_by_block_items body) s0 (state_of r)
  pub types : (f : Table → List Use) (S : Table) → IsUsed f S s.table
      → IsUsed (λ U. f U ++ used_by_specifiers U specifiers ++ used_by_declarator U Written (typed.Declares form type) ++ used_by_block_items U body) S r.table
  pub goes : UnitGoesOn s r
  pub written : declarator_name d ≡ Some name
  pub named : name_of_form form ≡ Some name
  pub there : IsType r.table type
  pub fresh : is_one_of s.linkage.defined name.bytes ≡ false
  pub defined : is_one_of r.linkage.defined name.bytes ≡ true
  pub linked : IsFunctionLinked r.table r.linkage.linked name.bytes type
  pub placed : IsPlaced (place_among s.seen.scopes.defined name.bytes)
  pub typed : OverLater r.table (λ T. IsDefinition T specifiers form type body (known_of s) (known_of r))

-- The body, in the scope that the list of parameters leaves

-- that scope begins
pub opened-judged : (level : Level) (b : Bool) (s r : UnitState) → IsUnitKnown s → IsLevelThere s.table level → lifted (in_scopes (going_on level) true) s ≡ Gives b r
    → (known_of r ≡ with_scopes (known_of s) (going_on level s.seen.scopes)) × UnitGoesOn s r × (r.seen.node ≡ s.seen.node) × (r.table ≡ s.table)
opened-judged level b s r k there h =
    let l = lifted-gives (in_scopes (going_on level) true) b s r h in
    let c = s.seen.scopes in
    let after : State = record (state_of s) { seen = scopes.with_scopes s.seen (going_on level c) } in
    let e = scopes-known (state_of s) (going_on level c) k.known refl (All-push (IsLevelThere s.table) c.levels level k.known.levels there) in
    let state : after ≡ state_of r = Outcomes.gives-state true b after (state_of r) l.0 in
    let n : r.seen.node ≡ s.seen.node = ap (λ (q : State). q.seen.node) (sym state) in (
      scopes-alone s r l.1 ∙ ap (λ (q : State). with_scopes (known_of s) q.seen.scopes) (sym state),
      linkage-stays s r k (subst (GoesOn (state_of s)) state e) l.1 (omega (arith, n)),
      n,
      ap (λ (q : State). q.table) (sym state),
    )

record IsBodyJudged (result : TypeId) (level : Level) (items : tree.BlockItems) (list : TypedBlockItems) (s r : UnitState) : Type 0 where
  after : Known
  erases : erased_block_items list ≡ items
  numbers : AreNumberedFrom (made_by_block_items list) (state_of s) (state_of r)
  types : IsUsed (λ U. used_by_block_items U list) s.table r.table
  goes : UnitGoesOn s r
  leaves : known_of r ≡ leaving_known after
  defaults : defaults_in list ≤ 1
  typed : OverLater r.table (λ T. AreBlockItems T (inside_function result) None list (with_scopes (known_of s) (going_on level s.seen.scopes)) after)

body_by : (brace : Place) (result : TypeId) (level : Level) (items : tree.BlockItems) (list : TypedBlockItems) (s r : UnitState) → IsUnitKnown s → IsResult s.table result
    → IsLevelThere s.table level → body brace (Some result) level items s ≡ Gives list r → IsBodyJudged result level items list s r
unfolding body
body_by brace result level items list s r k b there h =
    let a : Around = inside_function result in
    let e1 = bind-gives (lifted (in_scopes (going_on level) true) s) (λ inside. λ m. next (judge_block_items a None items m) (λ v. lifted (left brace v))) list r h in
    let en = opened-judged level e1.0 s e1.1 k there e1.2 in
    let e2 = bind-gives (judge_block_items a None items e1.1) (λ v. lifted (left brace v)) list r e1.3 in
    let i = items-judged items a None e2.0 e1.1 e2.1 en.1.known (result-kept s.table e1.1.table result en.1.goes.extends b) tt e2.2 in
    let out = leave-judged brace e2.0 list e2.1 r i.goes.known e2.3 in
    subst (λ (v : TypedBlockItems). IsBodyJudged result level items v s r) out.0 (record {
      after = known_of e2.1;
      erases = i.erases;
      numbers = numbers-before (made_by_block_items e2.0) (state_of s) (state_of e2.1) (state_of r)
          (numbers-after (made_by_block_items e2.0) (state_of s) (state_of e1.1) (state_of e2.1) en.2 i.numbers) out.3;
      types = inside-types (λ U. used_by_block_items U e2.0) s.table e1.1.table e2.1.table r.table en.3 (leave-table brace e2.0 list e2.1 r e2.3) i.types;
      goes = unit-on s e1.1 r en.1 (unit-on e1.1 e2.1 r i.goes out.2);
      leaves = out.1;
      defaults = i.defaults;
      typed = λ T x. subst (λ (c : Known). AreBlockItems T a None e2.0 c (known_of e2.1)) en.0
          (items-on T a None tt e2.0 (known_of e1.1) (known_of e2.1) (i.typed T (extended_trans e2.1.table r.table T out.2.goes.extends x)));
    })

known_same : (s s0 : UnitState) (before : Scopes) → s.linkage ≡ s0.linkage → before ≡ s.seen.scopes → known_of s ≡ with_scopes (known_of s0) before
known_same s s0 before links scopes = λ i. with_scopes (known_of (record s0 { linkage = links i })) (sym scopes i)

module _ (base : TypedSpecifiers) (d : tree.Declarator) (form : TypedForm) (t : TypeId) (s m : UnitState) (k : IsUnitKnown s)
    (j : IsFormKnown (naming_for true (storage_of base) (linked_first s.linkage.linked (declarator_name d))) (specified_type base) None d form t s m)
    (name : Identifier) (q : declarator_name d ≡ Some name)
    (f : IsFunctionName m.table (known_of m) (storage_of base) (has_some (parameters_of_form form None)) name.bytes t) where
  pub named : name_of_form form ≡ Some name
  named = named-form (naming_for true (storage_of base) (linked_first s.linkage.linked (declarator_name d))) (specified_type base) None d form t s m k j (Some name) q

  home_none : home_of_form form ≡ home.None
  home_none = no_home (name_of_form form) (home_of_form form)
      (subst (λ (b : Bool). IsHomeOf (unless_function b (naming_for true (storage_of base) (linked_first s.linkage.linked (declarator_name d)))) (name_of_form form) (home_of_form form)) f.shape j.judged.home)

  again : IsNotAgain m.table (known_of m) false name.bytes (declared.Function t)
  again = record {
    here_same = f.again.here_same;
    unlinked = f.again.unlinked;
    linked_same = f.again.linked_same;
    runtime_same = f.again.runtime_same;
    once = refl;
  }

  function_is : IsNamedAs true (storage_of base) false name.bytes t home.None m (linked_state m name.bytes (declared.Function t))
  function_is = function-named true (storage_of base) false name t m j.goes.known j.judged.there (linked_state m name.bytes (declared.Function t)) f.ordinary f.shape refl again refl

  pub declares : (T : Table) → IsExtended m.table T
      → IsDeclarator T true (storage_of base) (specified_type base) Written form t (known_of s) (known_of (linked_state m name.bytes (declared.Function t)))
  declares T x = record {
    name = name;
    inside = m.seen.scopes;
    named = named;
    parts = form-later (naming_for true (storage_of base) (linked_first s.linkage.linked (declarator_name d))) (specified_type base) None d form t s m k j T x;
    type = makes-later (naming_for true (storage_of base) (linked_first s.linkage.linked (declarator_name d))) (specified_type base) None d form t s m k j T x;
    declares =
        subst (λ (c : Known). IsNameDeclared T true (storage_of base) (home_of_form form) name.bytes t c (known_of (linked_state m name.bytes (declared.Function t)))) (scopes-alone s m j.linkage)
        (subst (λ (h : Home). IsNameDeclared T true (storage_of base) h name.bytes t (known_of m) (known_of (linked_state m name.bytes (declared.Function t)))) (sym home_none)
        (function_is.typed T x));
  }

  pub parameters : (ps : TypedParameters) × (parameters_of_form form None ≡ Some ps)
  parameters = some_of (parameters_of_form form None) f.parameters

  pub with_parameters_made : IsFunctionWith m.table parameters.0 t
  with_parameters_made =
      function-with m.table m.seen.scopes form (specified_type base) t parameters.0 parameters.1
      (makes-later (naming_for true (storage_of base) (linked_first s.linkage.linked (declarator_name d))) (specified_type base) None d form t s m k j m.table (extended_refl m.table))

  pub defined_goes : UnitGoesOn m (defined_function m name.bytes t)
  defined_goes =
      let g = linked-goes name.bytes (declared.Function t) m j.goes.known (j.judged.there, tt) in
      unit-on m (linked_state m name.bytes (declared.Function t)) (defined_function m name.bytes t) g
      (defined-goes true name.bytes (linked_state m name.bytes (declared.Function t)) g.known)

  -- the body
  module _ (base_there : IsType s.table (specified_type base))
      (g : lifted (judge_declarator (naming_for true (storage_of base) (linked_first s.linkage.linked (declarator_name d))) base None d) s ≡ Gives (typed.Declares form t) m) where
    abbrev pub level : Level
    level = level_of (naming_for true (storage_of base) (linked_first s.linkage.linked (declarator_name d))) (specified_type base) d (state_of s)

    pub scope : IsLevelJudged (unless_function (is_function_by (derived_by d NotDerived) (shape_at s.table (specified_type base)))
        (naming_for true (storage_of base) (linked_first s.linkage.linked (declarator_name d)))) d level parameters.0 (state_of s) (state_of m)
    scope =
        let which : Naming = naming_for true (storage_of base) (linked_first s.linkage.linked (declarator_name d)) in
        level-judged which base d form t parameters.0 (state_of s) (state_of m) k.known base_there
        (lifted-gives (judge_declarator which base None d) (typed.Declares form t) s m g).0 parameters.1

    module _ (brace : Place) (items : tree.BlockItems) (list : TypedBlockItems) (r : UnitState)
        (h : body brace (result_of (shape_at m.table t)) level items (defined_function m name.bytes t) ≡ Gives list r) where
      body-judged : IsBodyJudged with_parameters_made.0 level items list (defined_function m name.bytes t) r
      body-judged =
          body_by brace with_parameters_made.0 level items list (defined_function m name.bytes t) r defined_goes.known (result-is m.table t parameters.0 with_parameters_made j.goes.known.known.basic)
          scope.there (ap (λ (o : Option TypeId). body brace o level items (defined_function m name.bytes t)) (ap result_of (sym with_parameters_made.1.1)) ∙ h)

      once : is_one_of m.linkage.defined name.bytes ≡ false
      once = f.again.once

      definition : (T : Table) → IsExtended r.table T → (before : Scopes) → (s0 : UnitState) → s.linkage ≡ s0.linkage → before ≡ s.seen.scopes → AreSpecifiers T base s0.seen.scopes before
          → IsDefinition T base form t list (known_of s0) (known_of r)
      definition T x before s0 links scopes specified =
          let from_m : IsExtended m.table T = extended_trans m.table r.table T (unit-on m (defined_function m name.bytes t) r defined_goes body-judged.goes).goes.extends x in
          let linked : Known = known_of (linked_state m name.bytes (declared.Function t)) in
          record {
            name = name;
            named = named;
            parameters = parameters.0;
            written = parameters.1;
            types = taken_types parameters.0;
            result = with_parameters_made.0;
            shape = has-kept m.table T from_m j.goes.known.known.basic t (Function (taken_types parameters.0) with_parameters_made.0) with_parameters_made.1;
            before = before;
            specified = specified;
            no_typedef = no_typedef (storage_of base) f.ordinary;
            declared = linked;
            declares = subst (λ (c : Known). IsDeclarator T true (storage_of base) (specified_type base) Written form t c linked) (known_same s s0 before links scopes) (declares T from_m);
            inside = scope.inside;
            listed = subst (λ (c : Scopes). AreParameters T (is_void_list parameters.0) parameters.0 (entering c) scope.inside) (sym scopes) (scope.listed T from_m);
            once = once;
            own = f.own;
            after = body-judged.after;
            statements = subst (λ (l : Level). AreBlockItems T (inside_function with_parameters_made.0) None list (record linked {
              scopes = going_on l linked.scopes;
              defined = linked.defined ++ name.bytes ∷ [];
            }) body-judged.after) scope.same
                (subst (λ (names : List Name). AreBlockItems T (inside_function with_parameters_made.0) None list (record linked { scopes = going_on level linked.scopes; defined = names }) body-judged.after)
                (ap (λ (b : Bool). if b then m.linkage.defined else m.linkage.defined ++ name.bytes ∷ []) once) (body-judged.typed T x));
            defaults = body-judged.defaults;
            leaves = body-judged.leaves;
          }

-- what is known of the name, and the state that has it
pub record IsNameDefined (base : TypedSpecifiers) (d : tree.Declarator) (form : TypedForm) (t : TypeId) (m r : UnitState) : Type 0 where
  pub name : Identifier
  pub written : declarator_name d ≡ Some name
  pub tried : IsFunctionName m.table (known_of m) (storage_of base) (has_some (parameters_of_form form None)) name.bytes t
  pub state : r ≡ defined_function m name.bytes t
  pub placed : IsPlaced (place_among m.seen.scopes.defined name.bytes)

pub name-defined : (base : TypedSpecifiers) (d : tree.Declarator) (form : TypedForm) (t : TypeId) (o : Option Identifier) (again : TypedDeclarator) (m r : UnitState) → declarator_name d ≡ o
    → defined_as o base (typed.Declares form t) m ≡ Gives again r → IsNameDefined base d form t m r
unfolding defined_as
name-defined base d form t None again m r q h = never-gives again (TooLarge start_of_text Types) m r h
name-defined base d form t (Some name) again m r q h =
    let go = unless-gives (first_broken (definition_tests m.table (known_of m) (storage_of base) (has_some (parameters_of_form form None)) name.bytes t name.place))
    (λ (w : UnitState). next (counted name.place (place_among w.seen.scopes.defined name.bytes) w) (λ number. λ n. next (defined name t n) (λ what. pure (typed.Declares form t)))) m again r h in
    let e1 = bind-gives (counted name.place (place_among m.seen.scopes.defined name.bytes) m) (λ number. λ n. next (defined name t n) (λ what. pure (typed.Declares form t))) again r go.1 in
    let same = counted-gives name.place (place_among m.seen.scopes.defined name.bytes) e1.0 m e1.1 e1.2 in
    let e2 = bind-gives (defined name t e1.1) (λ what. pure (typed.Declares form t)) again r e1.3 in
    let made = defined-gives name t e2.0 e1.1 e2.1 e2.2 in
    record {
      name = name;
      written = q;
      tried = function_name m.table (known_of m) (storage_of base) (has_some (parameters_of_form form None)) name.bytes t name.place go.0;
      state = sym (gives-state (typed.Declares form t) again e2.1 r e2.3) ∙ (made ∙ ap (λ (w : UnitState). defined_function w name.bytes t) same.0);
      placed = same.1;
    }

module _ (before : TypedTranslationUnit) (all : tree.Specifiers) (d : tree.Declarator) (brace : Place) (items : tree.BlockItems) (base : TypedSpecifiers) (form : TypedForm) (t : TypeId)
    (list : TypedBlockItems) (s0 s m n r : UnitState) (b : AreBaseJudged false all base s0 s)
    (j : IsFormKnown (naming_for true (storage_of base) (linked_first s.linkage.linked (declarator_name d))) (specified_type base) None d form t s m)
    (c : IsNameDefined base d form t m n)
    (g : lifted (judge_declarator (naming_for true (storage_of base) (linked_first s.linkage.linked (declarator_name d))) base None d) s ≡ Gives (typed.Declares form t) m) where
  definition_from : body brace (result_of (shape_at m.table t))
      (level_of (naming_for true (storage_of base) (linked_first s.linkage.linked (declarator_name d))) (specified_type base) d (state_of s)) items (defined_function m c.name.bytes t) ≡ Gives list r
      → IsDefinitionJudged before all d brace items (typed.AndFunctionBody before base (typed.Declares form t) brace list) s0 r
  definition_from h =
      let k = b.goes.known in
      let i = body-judged base d form t s m k j c.name c.written c.tried b.judged.there g brace items list r h in
      let on_name = defined_goes base d form t s m k j c.name c.written c.tried in
      let q : UnitState = defined_function m c.name.bytes t in
      let here = linked_as m.table c.name.bytes t m.linkage.linked (entry_of m.linkage.linked c.name.bytes) refl c.tried.again.linked_same in
      let on_m = unit-on m q r on_name i.goes in
      let basic = j.goes.known.known.basic in
      record {
        specifiers = base;
        form = form;
        type = t;
        body = list;
        name = c.name;
        made = refl;
        specifiers_erase = b.judged.erases;
        declarator_erases = j.judged.erases;
        body_erases = i.erases;
        numbers = λ xs from p.
            numbers-on (xs ++ made_by_specifiers base ++ made_by_declarator (typed.Declares form t)) (made_by_block_items list) from (state_of m) (state_of r)
            (numbers-on (xs ++ made_by_specifiers base) (made_by_declarator (typed.Declares form t)) from (state_of s) (state_of m)
            (numbers-on xs (made_by_specifiers base) from (state_of s0) (state_of s) p b.numbers) j.numbers)
            (numbers-after (made_by_block_items list) (state_of m) (state_of q) (state_of r) refl i.numbers);
        types = λ f S p.
            then_used (λ U. f U ++ used_by_specifiers U base ++ used_by_declarator U Written (typed.Declares form t)) (λ U. used_by_block_items U list) S m.table r.table
            (then_used (λ U. f U ++ used_by_specifiers U base) (λ U. used_by_declarator U Written (typed.Declares form t)) S s.table m.table
            (then_used f (λ U. used_by_specifiers U base) S s0.table s.table p b.types) j.types) i.types;
        goes = unit-on s0 s r b.goes (unit-on s m r j.goes on_m);
        written = c.written;
        named = named base d form t s m k j c.name c.written c.tried;
        there = still_in m.table r.table on_m.goes.extends t j.judged.there;
        fresh = ap (λ (l : Linkage). is_one_of l.defined c.name.bytes) (sym b.linkage) ∙ (ap (λ (l : Linkage). is_one_of l.defined c.name.bytes) (sym j.linkage) ∙ c.tried.again.once);
        defined = i.goes.defined c.name.bytes (name-own m.linkage.defined c.name.bytes);
        placed = subst (λ (names : List Name). IsPlaced (place_among names c.name.bytes))
            (form-defined m.table form s.seen.scopes m.seen.scopes j.judged.typed ∙ specifiers-defined s.table base s0.seen.scopes s.seen.scopes b.judged.typed) c.placed;
        linked = record {
          first = here.first;
          found = i.goes.linked c.name.bytes (declared.Function here.first) here.found;
          same = elim here.same [
            | inl e ↦ inl e
            | inr e ↦
                let known_first = (linked-there q on_name.known c.name.bytes (declared.Function here.first) here.found).0 in
                inr (same_exact m.table r.table on_m.goes.extends basic here.first t known_first j.judged.there ∙ e)
          ];
        };
        typed = λ T x. definition base d form t s m k j c.name c.written c.tried b.judged.there g brace items list r h T x s.seen.scopes s0 b.linkage refl
            (specifiers-kept s.table T (extended_trans s.table r.table T (unit-on s m r j.goes on_m).goes.extends x) b.judged.goes.known.basic base s0.seen.scopes s.seen.scopes b.judged.typed);
      }

-- the steps behind the specifiers, behind the declarator and behind the name
module _ (before : TypedTranslationUnit) (d : tree.Declarator) (brace : Place) (items : tree.BlockItems) (base : TypedSpecifiers) (s : UnitState) where
  abbrev pub which_for : Naming
  which_for = naming_for true (storage_of base) (linked_first s.linkage.linked (declarator_name d))

  abbrev pub level_at : Level
  level_at = level_of which_for (specified_type base) d (state_of s)

  abbrev pub behind_name : TypedDeclarator → UnitState → UnitOutcome TypedTranslationUnit
  behind_name one n = next (body brace (result_of (shape_at n.table (declared_type one))) level_at items n) (λ list. pure (typed.AndFunctionBody before base one brace list))

  abbrev pub behind_declarator : TypedDeclarator → UnitState → UnitOutcome TypedTranslationUnit
  behind_declarator one m = next (defined_as (declarator_name d) base one m) (λ again. λ n. behind_name one n)

  abbrev pub behind_specifiers : UnitOutcome TypedTranslationUnit
  behind_specifiers = next (lifted (judge_declarator which_for base None d) s) (λ one. λ m. behind_declarator one m)

pub definition-judged : (before : TypedTranslationUnit) (all : tree.Specifiers) (d : tree.Declarator) (brace : Place) (items : tree.BlockItems) (whole : TypedTranslationUnit) (s r : UnitState)
    → IsUnitKnown s → judge_definition before all d brace items s ≡ Gives whole r → IsDefinitionJudged before all d brace items whole s r
unfolding judge_definition
definition-judged before all d brace items whole s0 r k h =
    let e1 = bind-gives (lifted (judge_specifiers_of false all) s0) (λ base. λ s. behind_specifiers before d brace items base s) whole r h in
    let base = e1.0 in
    let s = e1.1 in
    let e2 = bind-gives (lifted (judge_declarator (which_for before d brace items base s) base None d) s) (λ one. λ m. behind_declarator before d brace items base s one m) whole r e1.3 in
    let e3 = bind-gives (defined_as (declarator_name d) base e2.0 e2.1) (λ again. λ n. behind_name before d brace items base s e2.0 n) whole r e2.3 in
    let e4 = bind-gives (body brace (result_of (shape_at e3.1.table (declared_type e2.0))) (level_at before d brace items base s) items e3.1) (λ list. pure (typed.AndFunctionBody before base e2.0 brace list)) whole r e3.3 in
    by base s (base-judged false all base s0 s k e1.2) e2.0 e2.1 e2.2 e3.0 e3.1 e3.2 e4.0 e4.1 e4.2 e4.3
  where
    by : (base : TypedSpecifiers) (s : UnitState) → AreBaseJudged false all base s0 s → (one : TypedDeclarator) (m : UnitState)
        → lifted (judge_declarator (which_for before d brace items base s) base None d) s ≡ Gives one m → (again : TypedDeclarator) (n : UnitState)
        → defined_as (declarator_name d) base one m ≡ Gives again n → (list : TypedBlockItems) (q : UnitState)
        → body brace (result_of (shape_at n.table (declared_type one))) (level_at before d brace items base s) items n ≡ Gives list q
        → pure (typed.AndFunctionBody before base one brace list) q ≡ Gives whole r → IsDefinitionJudged before all d brace items whole s0 r
    by base s b (typed.Declares form t) m g2 again n g3 list q g4 g5 =
        let j = form-known (which_for before d brace items base s) base None d form t s m b.goes.known b.judged.there g2 in
        let c = name-defined base d form t (declarator_name d) again m n refl g3 in
        given-same (λ (v : TypedTranslationUnit) (w : UnitState). IsDefinitionJudged before all d brace items v s0 w) (typed.AndFunctionBody before base (typed.Declares form t) brace list) whole q r g5
        (definition_from before all d brace items base form t list s0 s m n q b j c g2
        (ap (λ (w : UnitState). body brace (result_of (shape_at w.table t)) (level_at before d brace items base s) items w) (sym c.state) ∙ g4))
