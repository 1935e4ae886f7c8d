-- What judging counts of a unit is the pointers that its assignments of structs move, and so they are within the limit.
use Rattle.std.proofs.Common.{◌≡◌, ℕ, ◌+◌, ◌≤◌, Bool, true, false, List, [], ◌∷◌, ◌++◌, Option, Some, None, refl, ap, sym, subst, ◌∙◌, arith}
use Rattle.cc_base.specs.declared.place.Place.{Place}
use Rattle.cc_base.specs.declared.number.TypeId.{TypeId}
use Rattle.c_types.specs.Calls.{basic_table}
use Rattle.c_types.specs.Table.{Table, IsType, shape_at}
use Rattle.c_tree.specs.Tree as tree
use Rattle.c_tree.specs.TypedTree as typed
use Rattle.c_tree.specs.TypedTree.{TypedSpecifiers, TypedForm, TypedDeclarator, TypedParameters, TypedBlockItems, TypedTranslationUnit}
use Rattle.c_tree.specs.TypedParts.{specified_type, declared_type, made_by_specifiers, made_by_declarator, made_by_declaration, made_by_block_items, made_by_unit}
use Rattle.c_typing.specs.declared.declared.Declared.TheVariants as declared
use Rattle.c_typing.specs.declared.naming.Naming.{Naming}
use Rattle.c_typing.specs.Declaring.{declarator_name, left}
use Rattle.c_typing.specs.Judging as judging
use Rattle.c_typing.specs.Judging.{State}
use Rattle.c_typing.specs.Settled.{IsLevelThere}
use Rattle.c_typing.specs.Specifying.{in_scopes}
use Rattle.c_typing.specs.Scopes as scopes
use Rattle.c_typing.specs.Walks.{judge_declarator, judge_specifiers_of}
use Rattle.c_typing_laws.proofs.ExtensionLaws.{extended_refl}
use Rattle.c_typing_laws.proofs.Outcomes
use Rattle.c_unit_typing.specs.DeclarationJudging.{naming_for, linked_first, judge_declaration}
use Rattle.c_unit_typing.specs.DefinitionJudging.{result_of, body, defined_as, judge_definition, judge_unit, before_unit, judged_unit}
use Rattle.c_unit_typing.specs.Limits.{pointers_copied_by, pointers_copied}
use Rattle.c_unit_typing.specs.StatementJudging.{judge_block_items}
use Rattle.c_unit_typing.specs.Units.{Around, storage_of, going_on}
use Rattle.c_unit_typing.specs.UnitJudged.{state_of, IsResult, IsUnitKnown}
use Rattle.c_unit_typing.specs.UnitJudging.{UnitState, Gives, next, pure, lifted}
use Rattle.c_unit_typing.proofs.FunctionParameters.{result-is}
use Rattle.c_unit_typing.proofs.JudgedDeclarations.{AreBaseJudged, base-judged}
use Rattle.c_unit_typing.proofs.JudgedDeclarators.{IsFormKnown, form-known}
use Rattle.c_unit_typing.proofs.JudgedDefinitions.{opened-judged, level_at, behind_name, behind_declarator, behind_specifiers, scope, inside_function, defined_function, IsNameDefined, name-defined, parameters, with_parameters_made, defined_goes}
use Rattle.c_unit_typing.proofs.JudgedStatements.{result-kept, leave-judged, items-judged}
use Rattle.c_unit_typing.proofs.JudgedUnits.{unit-judged}
use Rattle.c_unit_typing.proofs.UnitOutcomes.{bind-gives, given-same, lifted-gives}
use Rattle.c_unit_typing.proofs.WholeUnits.{before-known}
use Rattle.c_unit_limits.proofs.StaticBytes.{none_more}
use Rattle.c_unit_limits.proofs.WholeUnits.{whole-given, whole-bounded}
use Rattle.std.specs.Prelude.{sum, flat_map}
use Rattle.std.proofs.lemmas.List.Sums.{sum_by-cons}
use Rattle.std.proofs.lemmas.List.Elements.{All-nil, All-cons, All-push}
use Rattle.c_tree.specs.Places.{nowhere}
use Rattle.c_tree.specs.TypedParts.{Made, Written, Name as NameMade, Literal, Address, Copy}
use Rattle.c_typing.specs.Cells.{pointers_in}
use Rattle.c_typing.specs.Refusals.{name_place}
use Rattle.c_typing.specs.Scopes.{Name, Level, empty_level, here}
use Rattle.c_typing.specs.declared.declared.Declared.{Declared}
use Rattle.c_cells_kept.specs.Counted.{copied, IsObjectWhole, IsLevelWhole, AreWhole, IsReady, Stays}
use Rattle.c_cells_kept.proofs.CellsMoved.{stays-refl}
use Rattle.c_cells_kept.proofs.CountedWhole.{declarator-moves}
use Rattle.c_unit_limits.proofs.CellsDeclarations.{base-moves, declaration-moves}
use Rattle.c_unit_limits.proofs.CellsNames.{linked_by}
use Rattle.c_unit_limits.proofs.CellsParameters.{level-whole}
use Rattle.c_unit_limits.proofs.CellsStatements.{items-move}
use Rattle.c_unit_limits.proofs.CellsSteps.{UnitMoves, UnitStays, unit-none, unit-then, unit-inside, unit-still, leave-stays}

-- Function definitions

level-stays : (level : Level) (b : Bool) (s r : State) → (IsReady s → IsLevelWhole s.table level) → in_scopes (going_on level) true s ≡ judging.Gives b r → Stays s r
level-stays level b s r whole h =
    subst (Stays s) (Outcomes.gives-state true b (record s { seen = scopes.with_scopes s.seen (going_on level s.seen.scopes) }) r h)
    (λ ready. let a = stays-refl s ready in (a.0, (a.1.0, All-push (IsLevelWhole s.table) s.seen.scopes.levels level a.1.1 (whole ready)), a.2))

body_moves : (brace : Place) (result : TypeId) (level : Level) (items : tree.BlockItems) (list : TypedBlockItems) (s r : UnitState) → IsUnitKnown s → IsResult s.table result
    → IsLevelThere s.table level → (IsReady (state_of s) → IsLevelWhole s.table level) → body brace (Some result) level items s ≡ Gives list r → UnitMoves (made_by_block_items list) s r
unfolding body
body_moves brace result level items list s r k b there whole h =
    let a : Around = inside_function result in
    let e1 = bind-gives (lifted (in_scopes (going_on level) true) s) (λ inside. λ m. next (judge_block_items a None items m) (λ v. lifted (left brace v))) list r h in
    let en = opened-judged level e1.0 s e1.1 k there e1.2 in
    let e2 = bind-gives (judge_block_items a None items e1.1) (λ v. lifted (left brace v)) list r e1.3 in
    let b2 = result-kept s.table e1.1.table result en.1.goes.extends b in
    let i = items-judged items a None e2.0 e1.1 e2.1 en.1.known b2 tt e2.2 in
    let out = leave-judged brace e2.0 list e2.1 r i.goes.known e2.3 in
    let opens : UnitStays s e1.1 = record { stays = level-stays level e1.0 (state_of s) (state_of e1.1) whole (lifted-gives (in_scopes (going_on level) true) e1.0 s e1.1 e1.2).0 } in
    subst (λ (v : TypedBlockItems). UnitMoves (made_by_block_items v) s r) out.0
    (unit-inside (made_by_block_items e2.0) s e1.1 e2.1 r opens (items-move items a None e2.0 e1.1 e2.1 en.1.known b2 tt e2.2) (leave-stays brace e2.0 list e2.1 r e2.3))

module _ (base : TypedSpecifiers) (d : tree.Declarator) (form : TypedForm) (t : TypeId) (s m : UnitState) (k : IsUnitKnown s) where
  module _ (j : IsFormKnown (naming_for true (storage_of base) (linked_first s.linkage.linked (declarator_name d))) (specified_type base) None d form t s m) (n : UnitState)
      (c : IsNameDefined base d form t m n) where
    -- the body, from the state that has the name
    inside_moves : (base_there : IsType s.table (specified_type base))
        (g : lifted (judge_declarator (naming_for true (storage_of base) (linked_first s.linkage.linked (declarator_name d))) base None d) s ≡ Gives (typed.Declares form t) m)
        (before : TypedTranslationUnit) (brace : Place) (items : tree.BlockItems) (list : TypedBlockItems) (r : UnitState)
        → body brace (result_of (shape_at n.table t)) (level_at before d brace items base s) items n ≡ Gives list r → (IsReady (state_of s)) → UnitMoves (made_by_block_items list) m r
    inside_moves base_there g before brace items list r h ready =
        let q : UnitState = defined_function m c.name.bytes t in
        let level : Level = level_at before d brace items base s in
        let ps = parameters base d form t s m k j c.name c.written c.tried in
        let made = with_parameters_made base d form t s m k j c.name c.written c.tried in
        let basic = j.goes.known.known.basic in
        let l = scope base d form t s m k j c.name c.written c.tried base_there g in
        let given : body brace (Some made.0) level items q ≡ Gives list r =
        ap (λ (o : Option TypeId). body brace o level items q) (ap result_of (sym made.1.1))
        ∙ (ap (λ (w : UnitState). body brace (result_of (shape_at w.table t)) level items w) (sym c.state) ∙ h) in
        let b = body_moves brace made.0 level items list q r (defined_goes base d form t s m k j c.name c.written c.tried).known (result-is m.table t ps.0 made basic)
        l.there (λ here. level-whole _ d level ps.0 (state_of s) (state_of m) l ready) given in
        let defines : UnitStays m q = record { stays = linked_by m c.name.bytes (declared.Function t) (here m.seen.scopes.levels c.name.bytes) tt } in
        unit-inside (made_by_block_items list) m q r r defines b (unit-still r)

pub definition-moves : (before : TypedTranslationUnit) (all : tree.Specifiers) (d : tree.Declarator) (brace : Place) (items : tree.BlockItems) (whole : TypedTranslationUnit) (s r : UnitState)
    → IsUnitKnown s → judge_definition before all d brace items s ≡ Gives whole r → (first : UnitState) → UnitMoves (made_by_unit before) first s → UnitMoves (made_by_unit whole) first r
unfolding judge_definition
definition-moves before all d brace items whole s0 r k h first made =
    let e1 = bind-gives (lifted (judge_specifiers_of false all) s0) (λ base. λ s. behind_specifiers before d brace items base s) whole r h in
    let base = e1.0 in
    let s = e1.1 in
    let which = naming_for true (storage_of base) (linked_first s.linkage.linked (declarator_name d)) in
    let e2 = bind-gives (lifted (judge_declarator which base None d) s) (λ one. λ m. behind_declarator before d brace items base s one m) whole r e1.3 in
    let e3 = bind-gives (defined_as (declarator_name d) base e2.0 e2.1) (λ again. λ n. behind_name before d brace items base s e2.0 n) whole r e2.3 in
    let e4 = bind-gives (body brace (result_of (shape_at e3.1.table (declared_type e2.0))) (level_at before d brace items base s) items e3.1) (λ list. pure (typed.AndFunctionBody before base e2.0 brace list)) whole r e3.3 in
    let b = base-judged false all base s0 s k e1.2 in
    let specified = unit-then (made_by_unit before) (made_by_specifiers base) first s0 s made (base-moves false all base s0 s k e1.2) in
    by base s b specified e2.0 e2.1 e2.2 e3.0 e3.1 e3.2 e4.0 e4.1 e4.2 e4.3
  where
    by : (base : TypedSpecifiers) (s : UnitState) → AreBaseJudged false all base s0 s → UnitMoves (made_by_unit before ++ made_by_specifiers base) first s → (one : TypedDeclarator) (m : UnitState)
        → lifted (judge_declarator (naming_for true (storage_of base) (linked_first s.linkage.linked (declarator_name d))) base None d) s ≡ Gives one m → (again : TypedDeclarator) (n : UnitState)
        → defined_as (declarator_name d) base one m ≡ Gives again n → (list : TypedBlockItems) (q : UnitState)
        → body brace (result_of (shape_at n.table (declared_type one))) (level_at before d brace items base s) items n ≡ Gives list q
        → pure (typed.AndFunctionBody before base one brace list) q ≡ Gives whole r → UnitMoves (made_by_unit whole) first r
    by base s b specified (typed.Declares form t) m g2 again n g3 list q g4 g5 =
        let which : Naming = naming_for true (storage_of base) (linked_first s.linkage.linked (declarator_name d)) in
        let k1 = b.goes.known in
        let j = form-known which base None d form t s m k1 b.judged.there g2 in
        let c = name-defined base d form t (declarator_name d) again m n refl g3 in
        let at = name_place (declarator_name d) nowhere in
        let own : UnitMoves (made_by_declarator (typed.Declares form t)) s m = record {
          moves = declarator-moves at which (specified_type base) None d (typed.Declares form t) (state_of s) (state_of m) k1.known
              (lifted-gives (judge_declarator which base None d) (typed.Declares form t) s m g2).0;
        } in
        let upto : UnitMoves (made_by_unit before ++ made_by_specifiers base ++ made_by_declarator (typed.Declares form t)) first m =
        unit-then (made_by_unit before ++ made_by_specifiers base) (made_by_declarator (typed.Declares form t)) first s m specified own in
        let with_body : UnitMoves (made_by_unit before ++ made_by_specifiers base ++ made_by_declarator (typed.Declares form t) ++ made_by_block_items list) first q = record {
          moves = λ ready. (unit-then (made_by_unit before ++ made_by_specifiers base ++ made_by_declarator (typed.Declares form t)) (made_by_block_items list) first m q upto
              (inside_moves base d form t s m k1 j n c b.judged.there g2 before brace items list q g4 (specified.moves ready).1)).moves ready;
        } in
        given-same (λ (v : TypedTranslationUnit) (w : UnitState). UnitMoves (made_by_unit v) first w) (typed.AndFunctionBody before base (typed.Declares form t) brace list) whole q r g5 with_body

-- Units

pub unit-moves : (u : tree.TranslationUnit) (whole : TypedTranslationUnit) (s r : UnitState) → IsUnitKnown s → judge_unit u s ≡ Gives whole r → UnitMoves (made_by_unit whole) s r
unfolding judge_unit
unit-moves tree.NoExternal whole s r k h =
    given-same (λ (v : TypedTranslationUnit) (q : UnitState). UnitMoves (made_by_unit v) s q) typed.NoExternal whole s r h (unit-none s)
unit-moves (tree.AndExternal u d) whole s r k h =
    let e1 = bind-gives (judge_unit u s) (λ list. λ m. next (judge_declaration true d m) (λ one. pure (typed.AndExternal list one))) whole r h in
    let j = (unit-judged u e1.0 s e1.1 k e1.2).judged in
    let e2 = bind-gives (judge_declaration true d e1.1) (λ one. pure (typed.AndExternal e1.0 one)) whole r e1.3 in
    given-same (λ (v : TypedTranslationUnit) (q : UnitState). UnitMoves (made_by_unit v) s q) (typed.AndExternal e1.0 e2.0) whole e2.1 r e2.3
    (unit-then (made_by_unit e1.0) (made_by_declaration e2.0) s e1.1 e2.1 (unit-moves u e1.0 s e1.1 k e1.2) (declaration-moves true d e2.0 e1.1 e2.1 j.goes.known e2.2))
unit-moves (tree.AndFunctionBody u specifiers d brace items) whole s r k h =
    let e1 = bind-gives (judge_unit u s) (λ list. judge_definition list specifiers d brace items) whole r h in
    let j = (unit-judged u e1.0 s e1.1 k e1.2).judged in
    definition-moves e1.0 specifiers d brace items whole e1.1 r j.goes.known e1.3 s (unit-moves u e1.0 s e1.1 k e1.2)

-- The limit

pub copies-sum : (T : Table) (made : List Made) → sum (flat_map (pointers_copied_by T) made) ≡ copied T made
copies-sum T [] = refl
copies-sum T (Copy t ∷ made) = sum_by-cons (λ (k : ℕ). k) (pointers_in T t) (flat_map (pointers_copied_by T) made) ∙ ap (λ (k : ℕ). pointers_in T t + k) (copies-sum T made)
copies-sum T (Written place n ∷ made) = none_more (copies-sum T made)
copies-sum T (Address n ∷ made) = none_more (copies-sum T made)
copies-sum T (Literal pieces home t ∷ made) = none_more (copies-sum T made)
copies-sum T (NameMade name h t ∷ made) = none_more (copies-sum T made)

first_whole : AreWhole basic_table (empty_level ∷ [])
first_whole =
    All-cons (IsLevelWhole basic_table) empty_level [] (record { names = All-nil (λ (e : Name × Declared). IsObjectWhole basic_table e.1) })
    (All-nil (IsLevelWhole basic_table))

counted : (a b c : ℕ) → a ≡ 0 + b → c ≡ b → a ≡ c
counted a b c p q = omega (arith, p, q)

within : (a b : ℕ) → a ≡ b → a ≤ 65536 → b ≤ 65536
within a b p h = omega (arith, p, h)

-- what is counted is what the limit counts
pub whole-cells : (u : tree.TranslationUnit) (whole : TypedTranslationUnit) (r : UnitState) → judged_unit u ≡ Gives whole r → r.seen.cells ≡ pointers_copied r.table whole
whole-cells u whole r h =
    let known = before-known u in
    let made = (unit-moves u whole (before_unit u) r known (whole-given u whole r h).parts).moves (known.known.basic, first_whole) in
    counted r.seen.cells (copied r.table (made_by_unit whole)) (pointers_copied r.table whole) (made.2 r.table (extended_refl r.table)) (copies-sum r.table (made_by_unit whole))

pub whole-copied : (u : tree.TranslationUnit) (whole : TypedTranslationUnit) (r : UnitState) → judged_unit u ≡ Gives whole r → pointers_copied r.table whole ≤ 65536
whole-copied u whole r h = within r.seen.cells (pointers_copied r.table whole) (whole-cells u whole r h) (whole-bounded u whole r h).2
