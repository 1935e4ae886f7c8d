-- What judging counts of a unit is the bytes of all that lasts in it, and so they are within the limit.
use Rattle.std.proofs.Common.{◌≡◌, ℕ, ◌+◌, ◌≤◌, Bool, true, false, ◌++◌, Option, Some, None, refl, ap, sym, subst, ◌∙◌, arith}
use Rattle.cc_base.specs.declared.place.Place.{Place}
use Rattle.cc_base.specs.declared.number.TypeId.{TypeId}
use Rattle.c_types.specs.Table.{IsType, shape_at}
use Rattle.c_tree.specs.declared.typed_word.Home.{Home}
use Rattle.c_tree.specs.declared.typed_word.Home.TheVariants as home
use Rattle.c_tree.specs.Tree as tree
use Rattle.c_tree.specs.TypedTree as typed
use Rattle.c_tree.specs.TypedTree.{TypedSpecifiers, TypedForm, TypedDeclarator, TypedParameters, TypedBlockItems, TypedTranslationUnit}
use Rattle.c_tree.specs.TypedParts.{specified_type, declared_type, home_of_form, name_of_form, made_by_specifiers, made_by_declarator, made_by_declaration, made_by_block_items, made_by_unit}
use Rattle.c_typing.specs.declared.naming.Naming.{Naming}
use Rattle.c_typing.specs.Declaring.{declarator_name, left, unless_function}
use Rattle.c_typing.specs.Judging as judging
use Rattle.c_typing.specs.Judging.{State}
use Rattle.c_typing.specs.Settled.{IsLevelThere}
use Rattle.c_typing.specs.Specifying.{in_scopes}
use Rattle.c_typing.specs.Scopes as scopes
use Rattle.c_typing.specs.Scopes.{Level}
use Rattle.c_typing.specs.Extensions.{IsExtended}
use Rattle.c_typing.specs.Walks.{judge_declarator, judge_specifiers_of}
use Rattle.c_typing_laws.proofs.Outcomes
use Rattle.c_typing_laws.specs.Judged.{IsHomeOf}
use Rattle.c_typing_laws.proofs.ExtensionLaws.{extended_refl}
use Rattle.c_typing_laws.proofs.JudgedDeclarators.{no_home}
use Rattle.c_unit_typing.specs.DeclarationJudging.{naming_for, linked_first, judge_declaration}
use Rattle.c_unit_typing.specs.DefinitionJudging.{result_of, body, defined_as, judge_definition, judge_unit, before_unit, judged_unit}
use Rattle.c_unit_typing.specs.Limits.{global_bytes}
use Rattle.c_unit_typing.specs.StatementJudging.{judge_block_items}
use Rattle.c_unit_typing.specs.Units.{Around, storage_of, going_on}
use Rattle.c_unit_typing.specs.UnitJudged.{state_of, IsResult, IsUnitKnown}
use Rattle.c_unit_typing.specs.UnitJudging.{UnitState, Gives, next, pure, lifted}
use Rattle.c_unit_typing.proofs.FunctionParameters.{result-is}
use Rattle.c_unit_typing.proofs.JudgedDeclarations.{AreBaseJudged, base-judged, declaration-judged}
use Rattle.c_unit_typing.proofs.JudgedDeclarators.{IsFormKnown, form-known, form-later}
use Rattle.c_unit_typing.proofs.JudgedDefinitions.{opened-judged, level_at, behind_name, behind_declarator, behind_specifiers, scope, inside_function, defined_function, IsNameDefined, name-defined, parameters, with_parameters_made, defined_goes}
use Rattle.c_unit_typing.proofs.JudgedStatements.{result-kept, leave-judged, items-judged}
use Rattle.c_unit_typing.proofs.JudgedUnits.{unit-judged}
use Rattle.c_unit_typing.proofs.UnitOutcomes.{bind-gives, given-same, lifted-gives}
use Rattle.c_unit_typing.proofs.UnitStates.{unit-on}
use Rattle.c_unit_typing.proofs.WholeUnits.{before-known}
use Rattle.c_unit_limits.specs.Literals.{literals_made, statics_made, own_bytes}
use Rattle.c_unit_limits.proofs.CountedLiterals.{declarator-counted}
use Rattle.c_unit_limits.proofs.KeptTypes.{left-kept}
use Rattle.c_unit_limits.proofs.LastingDeclarations.{base-lasts, declaration-lasts}
use Rattle.c_unit_limits.proofs.LastingNames.{declarator-alike}
use Rattle.c_unit_limits.proofs.LastingStatements.{items-last}
use Rattle.c_unit_limits.proofs.LastingSteps.{Lasts, lasts-none, lasts-on, lasts-inside, lifted-still}
use Rattle.c_unit_limits.proofs.StaticBytes.{global-bytes}
use Rattle.c_unit_limits.proofs.WholeUnits.{whole-given, whole-formed, whole-bounded}

-- Function definitions

opened_still : (level : Level) (b : Bool) (s r : State) → in_scopes (going_on level) true s ≡ judging.Gives b r → r.seen.globals ≡ s.seen.globals
opened_still level b s r h =
    ap (λ (q : State). q.seen.globals) (sym (Outcomes.gives-state true b (record s { seen = scopes.with_scopes s.seen (going_on level s.seen.scopes) }) r h))

body_lasts : (brace : Place) (result : TypeId) (level : Level) (items : tree.BlockItems) (list : TypedBlockItems) (s r : UnitState) → IsUnitKnown s → IsResult s.table result
    → IsLevelThere s.table level → body brace (Some result) level items s ≡ Gives list r → Lasts (made_by_block_items list) s r × IsExtended s.table r.table
unfolding body
body_lasts brace result level items list s r k b there h =
    let a : Around = inside_function result in
    let e1 = bind-gives (lifted (in_scopes (going_on level) true) s) (λ inside. λ m. next (judge_block_items a None items m) (λ v. lifted (left brace v))) list r h in
    let en = opened-judged level e1.0 s e1.1 k there e1.2 in
    let e2 = bind-gives (judge_block_items a None items e1.1) (λ v. lifted (left brace v)) list r e1.3 in
    let b2 = result-kept s.table e1.1.table result en.1.goes.extends b in
    let i = items-judged items a None e2.0 e1.1 e2.1 en.1.known b2 tt e2.2 in
    let out = leave-judged brace e2.0 list e2.1 r i.goes.known e2.3 in (
      subst (λ (v : TypedBlockItems). Lasts (made_by_block_items v) s r) out.0
          (lasts-inside (made_by_block_items e2.0) s e1.1 e2.1 r (opened_still level e1.0 (state_of s) (state_of e1.1) (lifted-gives (in_scopes (going_on level) true) e1.0 s e1.1 e1.2).0)
          (items-last items a None e2.0 e1.1 e2.1 en.1.known b2 tt e2.2) (lifted-still (left brace e2.0) (left-kept brace e2.0) list e2.1 r e2.3) out.2.goes.extends),
      (unit-on s e1.1 r en.1 (unit-on e1.1 e2.1 r i.goes out.2)).goes.extends,
    )

unowned : (a b l o m : ℕ) → b ≡ a + l → o ≡ 0 → m ≡ l + o → b ≡ a + m
unowned a b l o m p z e = omega (arith, p, z, e)

module _ (base : TypedSpecifiers) (d : tree.Declarator) (form : TypedForm) (t : TypeId) (s m : UnitState) (k : IsUnitKnown s) where
  module _ (j : IsFormKnown (naming_for true (storage_of base) (linked_first s.linkage.linked (declarator_name d))) (specified_type base) None d form t s m) (n : UnitState)
      (c : IsNameDefined base d form t m n) where
    home_none : home_of_form form ≡ home.None
    home_none =
        no_home (name_of_form form) (home_of_form form)
        (subst (λ (b : Bool). IsHomeOf (unless_function b (naming_for true (storage_of base) (linked_first s.linkage.linked (declarator_name d)))) (name_of_form form) (home_of_form form))
        c.tried.shape j.judged.home)

    -- a function has no home
    name_lasts : m.seen.globals ≡ s.seen.globals + literals_made (made_by_declarator (typed.Declares form t)) → Lasts (made_by_declarator (typed.Declares form t)) s m
    name_lasts literals = record {
      counts = λ T x w.
          unowned s.seen.globals m.seen.globals (literals_made (made_by_declarator (typed.Declares form t))) (own_bytes T (home_of_form form) t)
          (statics_made T (made_by_declarator (typed.Declares form t))) literals (ap (λ (h : Home). own_bytes T h t) home_none)
          (declarator-alike T w (typed.Declares form t) s.seen.scopes m.seen.scopes
          (form-later (naming_for true (storage_of base) (linked_first s.linkage.linked (declarator_name d))) (specified_type base) None d form t s m k j T x));
    }

    -- the body, from the state that has the name
    inside_lasts : (base_there : IsType s.table (specified_type base))
        (g : lifted (judge_declarator (naming_for true (storage_of base) (linked_first s.linkage.linked (declarator_name d))) base None d) s ≡ Gives (typed.Declares form t) m)
        (before : TypedTranslationUnit) (brace : Place) (items : tree.BlockItems) (list : TypedBlockItems) (r : UnitState)
        → body brace (result_of (shape_at n.table t)) (level_at before d brace items base s) items n ≡ Gives list r → Lasts (made_by_block_items list) m r × IsExtended m.table r.table
    inside_lasts base_there g before brace items list r h =
        let q : UnitState = defined_function m c.name.bytes t in
        let level : Level = level_at before d brace items base s in
        let ps = parameters base d form t s m k j c.name c.written c.tried in
        let made = with_parameters_made base d form t s m k j c.name c.written c.tried in
        let basic = j.goes.known.known.basic in
        let l = scope base d form t s m k j c.name c.written c.tried base_there g in
        let given : body brace (Some made.0) level items q ≡ Gives list r =
        ap (λ (o : Option TypeId). body brace o level items q) (ap result_of (sym made.1.1))
        ∙ (ap (λ (w : UnitState). body brace (result_of (shape_at w.table t)) level items w) (sym c.state) ∙ h) in
        let b = body_lasts brace made.0 level items list q r (defined_goes base d form t s m k j c.name c.written c.tried).known (result-is m.table t ps.0 made basic) l.there given in
        (lasts-inside (made_by_block_items list) m q r r refl b.0 refl (extended_refl r.table), b.1)

pub definition-lasts : (before : TypedTranslationUnit) (all : tree.Specifiers) (d : tree.Declarator) (brace : Place) (items : tree.BlockItems) (whole : TypedTranslationUnit) (s r : UnitState)
    → IsUnitKnown s → judge_definition before all d brace items s ≡ Gives whole r → (first : UnitState) → Lasts (made_by_unit before) first s → Lasts (made_by_unit whole) first r
unfolding judge_definition
definition-lasts before all d brace items whole s0 r k h first made =
    let e1 = bind-gives (lifted (judge_specifiers_of false all) s0) (λ base. λ s. behind_specifiers before d brace items base s) whole r h in
    let base = e1.0 in
    let s = e1.1 in
    let which = naming_for true (storage_of base) (linked_first s.linkage.linked (declarator_name d)) in
    let e2 = bind-gives (lifted (judge_declarator which base None d) s) (λ one. λ m. behind_declarator before d brace items base s one m) whole r e1.3 in
    let e3 = bind-gives (defined_as (declarator_name d) base e2.0 e2.1) (λ again. λ n. behind_name before d brace items base s e2.0 n) whole r e2.3 in
    let e4 = bind-gives (body brace (result_of (shape_at e3.1.table (declared_type e2.0))) (level_at before d brace items base s) items e3.1) (λ list. pure (typed.AndFunctionBody before base e2.0 brace list)) whole r e3.3 in
    let b = base-judged false all base s0 s k e1.2 in
    let specified = lasts-on (made_by_unit before) (made_by_specifiers base) first s0 s made (base-lasts false all base s0 s k e1.2) b.goes.goes.extends in
    by base s b specified e2.0 e2.1 e2.2 e3.0 e3.1 e3.2 e4.0 e4.1 e4.2 e4.3
  where
    by : (base : TypedSpecifiers) (s : UnitState) → AreBaseJudged false all base s0 s → Lasts (made_by_unit before ++ made_by_specifiers base) first s → (one : TypedDeclarator) (m : UnitState)
        → lifted (judge_declarator (naming_for true (storage_of base) (linked_first s.linkage.linked (declarator_name d))) base None d) s ≡ Gives one m → (again : TypedDeclarator) (n : UnitState)
        → defined_as (declarator_name d) base one m ≡ Gives again n → (list : TypedBlockItems) (q : UnitState)
        → body brace (result_of (shape_at n.table (declared_type one))) (level_at before d brace items base s) items n ≡ Gives list q
        → pure (typed.AndFunctionBody before base one brace list) q ≡ Gives whole r → Lasts (made_by_unit whole) first r
    by base s b specified (typed.Declares form t) m g2 again n g3 list q g4 g5 =
        let which : Naming = naming_for true (storage_of base) (linked_first s.linkage.linked (declarator_name d)) in
        let k1 = b.goes.known in
        let j = form-known which base None d form t s m k1 b.judged.there g2 in
        let c = name-defined base d form t (declarator_name d) again m n refl g3 in
        let literals = declarator-counted which base None d (typed.Declares form t) (state_of s) (state_of m) k1.known b.judged.there
        (lifted-gives (judge_declarator which base None d) (typed.Declares form t) s m g2).0 in
        let inside = inside_lasts base d form t s m k1 j n c b.judged.there g2 before brace items list q g4 in
        given-same (λ (v : TypedTranslationUnit) (w : UnitState). Lasts (made_by_unit v) first w) (typed.AndFunctionBody before base (typed.Declares form t) brace list) whole q r g5
        (lasts-on (made_by_unit before ++ made_by_specifiers base ++ made_by_declarator (typed.Declares form t)) (made_by_block_items list) first m q
        (lasts-on (made_by_unit before ++ made_by_specifiers base) (made_by_declarator (typed.Declares form t)) first s m specified
        (name_lasts base d form t s m k1 j n c literals) j.goes.goes.extends) inside.0 inside.1)

-- Units

pub unit-lasts : (u : tree.TranslationUnit) (whole : TypedTranslationUnit) (s r : UnitState) → IsUnitKnown s → judge_unit u s ≡ Gives whole r → Lasts (made_by_unit whole) s r
unfolding judge_unit
unit-lasts tree.NoExternal whole s r k h =
    given-same (λ (v : TypedTranslationUnit) (q : UnitState). Lasts (made_by_unit v) s q) typed.NoExternal whole s r h (lasts-none s)
unit-lasts (tree.AndExternal u d) whole s r k h =
    let e1 = bind-gives (judge_unit u s) (λ list. λ m. next (judge_declaration true d m) (λ one. pure (typed.AndExternal list one))) whole r h in
    let j = (unit-judged u e1.0 s e1.1 k e1.2).judged in
    let e2 = bind-gives (judge_declaration true d e1.1) (λ one. pure (typed.AndExternal e1.0 one)) whole r e1.3 in
    let i = declaration-judged true d e2.0 e1.1 e2.1 j.goes.known e2.2 in
    given-same (λ (v : TypedTranslationUnit) (q : UnitState). Lasts (made_by_unit v) s q) (typed.AndExternal e1.0 e2.0) whole e2.1 r e2.3
    (lasts-on (made_by_unit e1.0) (made_by_declaration e2.0) s e1.1 e2.1 (unit-lasts u e1.0 s e1.1 k e1.2) (declaration-lasts true d e2.0 e1.1 e2.1 j.goes.known e2.2) i.goes.goes.extends)
unit-lasts (tree.AndFunctionBody u specifiers d brace items) whole s r k h =
    let e1 = bind-gives (judge_unit u s) (λ list. judge_definition list specifiers d brace items) whole r h in
    let j = (unit-judged u e1.0 s e1.1 k e1.2).judged in
    definition-lasts e1.0 specifiers d brace items whole e1.1 r j.goes.known e1.3 s (unit-lasts u e1.0 s e1.1 k e1.2)

counted : (a b c : ℕ) → a ≡ 0 + b → c ≡ b → a ≡ c
counted a b c p q = omega (arith, p, q)

within : (a b : ℕ) → a ≡ b → a ≤ 4194304 → b ≤ 4194304
within a b p h = omega (arith, p, h)

-- what is counted is what the limit counts
pub whole-counted : (u : tree.TranslationUnit) (whole : TypedTranslationUnit) (r : UnitState) → judged_unit u ≡ Gives whole r → r.seen.globals ≡ global_bytes r.table whole
whole-counted u whole r h =
    let lasts = unit-lasts u whole (before_unit u) r (before-known u) (whole-given u whole r h).parts in
    counted r.seen.globals (statics_made r.table (made_by_unit whole)) (global_bytes r.table whole)
    (lasts.counts r.table (extended_refl r.table) (whole-formed u whole r h)) (global-bytes r.table whole)

pub whole-globals : (u : tree.TranslationUnit) (whole : TypedTranslationUnit) (r : UnitState) → judged_unit u ≡ Gives whole r → global_bytes r.table whole ≤ 4194304
whole-globals u whole r h = within r.seen.globals (global_bytes r.table whole) (whole-counted u whole r h) (whole-bounded u whole r h).1
