-- A unit that is given defines no more than 65,535 functions: each has its number among those that the unit defines, below that.
use Rattle.std.proofs.Common.{◌≡◌, ℕ, suc, ◌+◌, ◌≤◌, ◌<◌, Bool, true, false, List, [], ◌∷◌, ◌++◌, map, length, Option, Some, None, refl, ap, sym, subst, ◌∙◌, nat_lt, bytes_eq, if◌then◌else◌, arith, inl, inr}
use Rattle.std.proofs.lemmas.Bool.Decides.{nat_tests, leb_tells}
use Rattle.std.proofs.lemmas.List.{append_assoc, length-append, map-append}
use Rattle.std.proofs.lemmas.List.Folds.{list_any_at}
use Rattle.std.proofs.lemmas.List.Quantifiers.{position-Some}
use Rattle.std.proofs.Math.ListN.{get_or-append}
use Rattle.cc_base.specs.declared.place.Place.{Place}
use Rattle.cc_base.specs.declared.fault.Fault.TheVariants.{TooLarge}
use Rattle.cc_base.specs.declared.fault.Limit.TheVariants.{Types, Functions}
use Rattle.c_tree.specs.declared.leaf.Identifier.{Identifier}
use Rattle.c_tree.specs.Tree as tree
use Rattle.c_tree.specs.TypedTree as typed
use Rattle.c_tree.specs.TypedTree.{TypedSpecifiers, TypedDeclarator, TypedTranslationUnit}
use Rattle.c_tree.specs.TypedParts.{DefinedFunction, functions_of, declared_type, form_of}
use Rattle.c_typing.specs.Declaring.{declarator_name}
use Rattle.c_typing.specs.Scopes.{Name, place_among}
use Rattle.c_typing.specs.Tests.{first_broken, has_some}
use Rattle.c_typing.specs.Walks.{judge_specifiers_of, judge_declarator}
use Rattle.c_typing_laws.proofs.ExtensionLaws.{no_true, extended_refl}
use Rattle.c_unit_typing.specs.DeclarationJudging.{naming_for, linked_first, judge_declaration}
use Rattle.c_unit_typing.specs.DefinitionJudging.{counted, defined, defined_as, judge_definition, judge_unit}
use Rattle.c_unit_typing.specs.UnitJudged.{IsUnitKnown}
use Rattle.c_unit_typing.specs.UnitJudging.{UnitState, Gives, Stops, known_of, pure, next, lifted}
use Rattle.c_unit_typing.specs.UnitRefusals.{definition_tests}
use Rattle.c_unit_typing.specs.Units.{is_one_of, storage_of, parameters_of_form}
use Rattle.c_unit_typing.specs.WellTyped.{defined_names}
use Rattle.c_unit_typing.proofs.JudgedDeclarations.{AreBaseJudged, base-judged}
use Rattle.c_unit_typing.proofs.JudgedDeclarators.{form-known}
use Rattle.c_unit_typing.proofs.JudgedDefinitions.{behind_specifiers, behind_declarator, behind_name, definition-judged}
use Rattle.c_unit_typing.proofs.JudgedUnits.{name_in_bytes, unit-judged}
use Rattle.c_unit_typing.proofs.StillDefined.{specifiers-defined, form-defined}
use Rattle.c_unit_typing.proofs.UnitStillDefined.{unit-defined}
use Rattle.c_unit_typing.proofs.UnitOutcomes.{never-gives, bind-gives, unless-gives, gives-value}

-- a name that is none of the first ones stands behind them
behind : (names rest : List Name) (name : Name) (i : ℕ) → is_one_of names name ≡ false → place_among (names ++ rest) name ≡ Some i → length names ≤ i
behind names rest name i n p =
    let at = position-Some (bytes_eq name) (names ++ rest) i [] p in
    elim (leb_tells (length names) i) [
      | inl up ↦ up.1
      | inr below ↦ no_true (sym n ∙ list_any_at (λ each. bytes_eq name each) names i [] below.1
          (ap (bytes_eq name) (sym (get_or-append names rest [] i below.1)) ∙ at.1))
    ]

below : (i : ℕ) → nat_lt i 65535 ≡ true → i < 65535
below i h = grind (arith, nat_tests)

-- the number of a function
abbrev IsNumber : List Name → Name → Type 0
IsNumber names name = (i : ℕ) × (place_among names name ≡ Some i) × (i < 65535)

counted_number : (at : Place) (names : List Name) (name : Name) (o : Option ℕ) (n : ℕ) (s r : UnitState) → place_among names name ≡ o → counted at o s ≡ Gives n r → IsNumber names name
unfolding counted
counted_number at names name None n s r q h = never-gives n (TooLarge at Types) s r h
counted_number at names name (Some i) n s r q h = by (nat_lt i 65535) refl h
  where
    by : (b : Bool) → nat_lt i 65535 ≡ b → (if◌then◌else◌ {A = UnitState → _} b (λ w. Gives i w) (λ w. Stops (TooLarge at Functions) w)) s ≡ Gives n r → IsNumber names name
    by true e g = (i, q, below i e)
    by false e g = never-gives n (TooLarge at Functions) s r g

defined_number : (name : Identifier) (base : TypedSpecifiers) (one again : TypedDeclarator) (m r : UnitState) → defined_as (Some name) base one m ≡ Gives again r
    → IsNumber m.seen.scopes.defined name.bytes
unfolding defined_as
defined_number name base one again m r h =
    let go = unless-gives (first_broken (definition_tests m.table (known_of m) (storage_of base) (has_some (parameters_of_form (form_of one) None)) name.bytes (declared_type one) name.place))
    (λ (w : UnitState). next (counted name.place (place_among w.seen.scopes.defined name.bytes) w) (λ number. λ n. next (defined name (declared_type one) n) (λ what. pure one))) m again r h in
    let e1 = bind-gives (counted name.place (place_among m.seen.scopes.defined name.bytes) m) (λ number. λ n. next (defined name (declared_type one) n) (λ what. pure one)) again r go.1 in
    counted_number name.place m.seen.scopes.defined name.bytes (place_among m.seen.scopes.defined name.bytes) e1.0 m e1.1 refl e1.2

definition_number : (before : TypedTranslationUnit) (all : tree.Specifiers) (d : tree.Declarator) (brace : Place) (items : tree.BlockItems) (whole : TypedTranslationUnit) (name : Identifier) (s0 r : UnitState)
    → IsUnitKnown s0 → declarator_name d ≡ Some name → judge_definition before all d brace items s0 ≡ Gives whole r → IsNumber s0.seen.scopes.defined name.bytes
unfolding judge_definition
definition_number before all d brace items whole name s0 r k q h =
    let e1 = bind-gives (lifted (judge_specifiers_of false all) s0) (λ base. λ s. behind_specifiers before d brace items base s) whole r h in
    let base = e1.0 in
    let s = e1.1 in
    let which = naming_for true (storage_of base) (linked_first s.linkage.linked (declarator_name d)) in
    let e2 = bind-gives (lifted (judge_declarator which base None d) s) (λ one. λ m. behind_declarator before d brace items base s one m) whole r e1.3 in
    let e3 = bind-gives (defined_as (declarator_name d) base e2.0 e2.1) (λ again. λ n. behind_name before d brace items base s e2.0 n) whole r e2.3 in
    by base s (base-judged false all base s0 s k e1.2) e2.0 e2.1 e2.2 e3.0 e3.1 e3.2
  where
    by : (base : TypedSpecifiers) (s : UnitState) → AreBaseJudged false all base s0 s → (one : TypedDeclarator) (m : UnitState)
        → lifted (judge_declarator (naming_for true (storage_of base) (linked_first s.linkage.linked (declarator_name d))) base None d) s ≡ Gives one m → (again : TypedDeclarator) (n : UnitState)
        → defined_as (declarator_name d) base one m ≡ Gives again n → IsNumber s0.seen.scopes.defined name.bytes
    by base s b (typed.Declares form t) m g2 again n g3 =
        let j = form-known (naming_for true (storage_of base) (linked_first s.linkage.linked (declarator_name d))) base None d form t s m b.goes.known b.judged.there g2 in
        let first = specifiers-defined s.table base s0.seen.scopes s.seen.scopes b.judged.typed in
        let then_ = form-defined m.table form s.seen.scopes m.seen.scopes j.judged.typed in
        subst (λ (names : List Name). IsNumber names name.bytes) (then_ ∙ first)
        (defined_number name base (typed.Declares form t) again m n (ap (λ (o : Option Identifier). defined_as o base (typed.Declares form t) m) (sym q) ∙ g3))

names_count : (fs : List DefinedFunction) → length (map name_in_bytes fs) ≡ length fs
names_count [] = refl
names_count (f ∷ fs) = ap suc (names_count fs)

-- what a unit defines comes first among the names of all functions
pub unit-functions : (u : tree.TranslationUnit) (list : TypedTranslationUnit) (rest : List Name) (s r : UnitState) → IsUnitKnown s → s.seen.scopes.defined ≡ defined_names list ++ rest
    → judge_unit u s ≡ Gives list r → length (functions_of list) ≤ 65535
unfolding judge_unit
unit-functions tree.NoExternal list rest s r k q h =
    subst (λ (v : TypedTranslationUnit). length (functions_of v) ≤ 65535) (gives-value typed.NoExternal list s r h) none
  where
    none : 0 ≤ 65535
    none = omega arith
unit-functions (tree.AndExternal u d) list rest s r k q h =
    let e1 = bind-gives (judge_unit u s) (λ before. λ m. next (judge_declaration true d m) (λ one. pure (typed.AndExternal before one))) list r h in
    let e2 = bind-gives (judge_declaration true d e1.1) (λ one. pure (typed.AndExternal e1.0 one)) list r e1.3 in
    let same = gives-value (typed.AndExternal e1.0 e2.0) list e2.1 r e2.3 in
    subst (λ (v : TypedTranslationUnit). length (functions_of v) ≤ 65535) same
    (unit-functions u e1.0 rest s e1.1 k (q ∙ ap (λ (v : TypedTranslationUnit). defined_names v ++ rest) (sym same)) e1.2)
unit-functions (tree.AndFunctionBody u specifiers d brace items) list rest s r k q h =
    let e1 = bind-gives (judge_unit u s) (λ before. judge_definition before specifiers d brace items) list r h in
    let m = e1.1 in
    let before = e1.0 in
    let w = unit-judged u before s m k e1.2 in
    let i = definition-judged before specifiers d brace items list m r w.judged.goes.known e1.3 in
    let n = definition_number before specifiers d brace items list i.name m r w.judged.goes.known i.written e1.3 in
    let same = unit-defined m.table before (known_of s) (known_of m) (w.judged.typed m.table (extended_refl m.table)) in
    let one : DefinedFunction = record { declarator = typed.Declares i.form i.type; body = i.body } in
    let whole : defined_names list ≡ defined_names before ++ name_in_bytes one ∷ [] =
    ap defined_names i.made ∙ map-append name_in_bytes (functions_of before) (one ∷ []) in
    let all : s.seen.scopes.defined ≡ defined_names before ++ name_in_bytes one ∷ rest =
    q ∙ (ap (λ (names : List Name). names ++ rest) whole ∙ append_assoc (defined_names before) (name_in_bytes one ∷ []) rest) in
    let new = no_earlier (defined_names before) m.linkage.defined i.name.bytes (λ g. w.defined i.name.bytes (ap (λ (names : List Name). is_one_of names i.name.bytes) (sym w.names) ∙ g)) i.fresh in
    let up = behind (defined_names before) (name_in_bytes one ∷ rest) i.name.bytes n.0 new
    (ap (λ (names : List Name). place_among names i.name.bytes) (sym (same ∙ all)) ∙ n.1) in
    let count = length-append (functions_of before) (one ∷ []) in
    let listed = ap (λ (v : TypedTranslationUnit). length (functions_of v)) i.made in
    let names = names_count (functions_of before) in
    let small = n.2 in
    enough (length (functions_of list)) (length (functions_of before)) (length (defined_names before)) n.0 (listed ∙ count) names up small
  where
    no_earlier : (names known : List Name) (name : Name) → (is_one_of names name ≡ true → is_one_of known name ≡ true) → is_one_of known name ≡ false → is_one_of names name ≡ false
    no_earlier names known name more new = by (is_one_of names name) refl
      where
        by : (b : Bool) → is_one_of names name ≡ b → is_one_of names name ≡ false
        by true e = no_true (sym new ∙ more e)
        by false e = e

    enough : (a b c i : ℕ) → a ≡ b + 1 → c ≡ b → c ≤ i → i < 65535 → a ≤ 65535
    enough a b c i e f g l = omega (arith, e, f, g, l)
