-- What judging refuses of the definition of a function breaks the rule that is named.
use Rattle.std.proofs.Common.{◌≡◌, ℕ, nat_lt, Bool, true, false, List, [], ◌∷◌, ◌++◌, Option, Some, None, refl, ap, sym, subst, ◌∙◌, ◌⊎◌, inl, inr, if◌then◌else◌}
use Rattle.cc_base.specs.declared.place.Place.{Place}
use Rattle.cc_base.specs.declared.number.TypeId.{TypeId}
use Rattle.cc_base.specs.declared.fault.Fault.TheVariants.{Refused, TooLarge}
use Rattle.cc_base.specs.declared.fault.Limit.TheVariants.{Types, Functions}
use Rattle.cc_base.specs.declared.fault.Rule.{Rule}
use Rattle.c_types.specs.declared.shape.TypeShape.TheVariants.{Function}
use Rattle.c_types.specs.Table.{Table, HasShape, IsType, shape_at}
use Rattle.c_tree.specs.declared.leaf.Identifier.{Identifier}
use Rattle.c_tree.specs.Erasure.{erased_form}
use Rattle.c_tree.specs.Places.{nowhere}
use Rattle.c_tree.specs.Tree as tree
use Rattle.c_tree.specs.TypedTree as typed
use Rattle.c_tree.specs.TypedTree.{TypedSpecifiers, TypedForm, TypedDeclarator, TypedParameters, TypedTranslationUnit}
use Rattle.c_tree.specs.TypedParts.{specified_type, name_of_form, is_void_list}
use Rattle.c_typing.specs.declared.declared.Declared.TheVariants as declared
use Rattle.c_typing.specs.declared.naming.Naming.{Naming}
use Rattle.c_typing.specs.Declarators.{Written, FormMakes, taken_types}
use Rattle.c_typing.specs.Declaring.{declarator_name, left}
use Rattle.c_typing.specs.Refusals.{Fails, FormFails, RefusesDeclarator, RefusesSpecifiers, name_place}
use Rattle.c_typing.specs.Scopes.{Name, Level, Scopes, entering, innermost, place_among}
use Rattle.c_typing.specs.Settled.{IsLevelThere}
use Rattle.c_typing.specs.Specifying.{in_scopes}
use Rattle.c_typing.specs.Tests.{has_some}
use Rattle.c_typing.specs.Typing.{IsForm, AreParameters}
use Rattle.c_typing.specs.Walks.{judge_declarator, judge_specifiers_of}
use Rattle.c_typing_laws.proofs.ExtensionLaws.{extended_refl}
use Rattle.c_typing_laws.proofs.KeptRules.{has-kept}
use Rattle.c_typing_laws.proofs.KeptTrees.{specifiers-kept}
use Rattle.c_typing_laws.proofs.Outcomes
use Rattle.c_unit_typing.specs.DeclarationJudging.{naming_for, linked_first, linked_name}
use Rattle.c_unit_typing.specs.DefinitionJudging.{counted, defined, result_of, body, defined_as, judge_definition}
use Rattle.c_unit_typing.specs.Linkage.{Linkage, with_name}
use Rattle.c_unit_typing.specs.StatementJudging.{judge_block_items}
use Rattle.c_unit_typing.specs.Units.{Known, storage_of, with_scopes, IsDeclarator, parameters_of_form, going_on}
use Rattle.c_unit_typing.specs.UnitJudged.{state_of, IsResult, IsUnitKnown}
use Rattle.c_unit_typing.specs.UnitJudging.{UnitState, Gives, Stops, known_of, next, pure, stop, lifted}
use Rattle.c_unit_typing.specs.UnitRefusals.{start_of_text, definition_tests, RefusesItemsOf, RefusesDefinition}
use Rattle.c_unit_typing.proofs.FunctionParameters.{result-is}
use Rattle.c_unit_typing.proofs.JudgedDeclarations.{base-judged}
use Rattle.c_unit_typing.proofs.JudgedDeclarators.{IsFormKnown, form-known, named-form, form-later, makes-later}
use Rattle.c_unit_typing.proofs.JudgedDefinitions as definitions
use Rattle.c_unit_typing.proofs.JudgedDefinitions.{opened-judged, level_at, behind_name, behind_declarator, behind_specifiers, inside_function, defined_function, IsNameDefined, name-defined}
use Rattle.c_unit_typing.proofs.JudgedStatements.{result-kept}
use Rattle.c_unit_typing.proofs.NearestLists.{level-judged}
use Rattle.c_unit_typing.proofs.JudgedTests.{scopes-alone}
use Rattle.c_unit_typing.proofs.NameSteps.{linked_state}
use Rattle.c_unit_typing.proofs.RefusedDeclarations.{base-stopped}
use Rattle.c_unit_typing.proofs.RefusedNames.{linked-never, form-stopped}
use Rattle.c_unit_typing.proofs.RefusedStatements.{left_not, items-stopped}
use Rattle.c_unit_typing.proofs.UnitOutcomes.{lifted-gives}
use Rattle.c_unit_typing.proofs.UnitStops.{never-stops, NeverRefused, gives-unrefused, large-unrefused, next-unrefused, lifted-unrefused, IsStopped, stopped-after, stopped-as, stopped-step, stopped-rules}

-- What refuses nothing

counted_never : (at : Place) (o : Option ℕ) (s : UnitState) → NeverRefused (counted at o s)
unfolding counted
counted_never at None s = large-unrefused ℕ at Types s
counted_never at (Some number) s = by (nat_lt number 65535)
  where
    by : (b : Bool) → NeverRefused ((if b then pure number else stop (TooLarge at Functions)) s)
    by true = gives-unrefused number s
    by false = large-unrefused ℕ at Functions s

defined_never : (name : Identifier) (t : TypeId) (s : UnitState) → NeverRefused (defined name t s)
unfolding defined
defined_never name t s =
    next-unrefused (linked_name name (declared.Function t) s) (λ w. λ q. Gives w (record q { linkage = record q.linkage { defined = with_name name.bytes q.linkage.defined } }))
    (linked-never name (declared.Function t) s) (λ w m g. gives-unrefused w _)

module _ (p : Place) (t : Rule) where
  -- The body

  body_stopped : (brace : Place) (result : TypeId) (level : Level) (items : tree.BlockItems) (s r : UnitState) → IsUnitKnown s → IsResult s.table result
      → IsLevelThere s.table level → body brace (Some result) level items s ≡ Stops (Refused p t) r
      → IsStopped (λ T. RefusesItemsOf T (inside_function result) None items (with_scopes (known_of s) (going_on level s.seen.scopes)) (Refused p t)) s r
  unfolding body
  body_stopped brace result level items s r k b there h =
      let P : Table → Type 0 = λ T. RefusesItemsOf T (inside_function result) None items (with_scopes (known_of s) (going_on level s.seen.scopes)) (Refused p t) in
      stopped-step p t (lifted (in_scopes (going_on level) true) s) (λ inside. λ n. next (judge_block_items (inside_function result) None items n) (λ v. lifted (left brace v))) P s r
      (λ q. absurd (lifted-unrefused (in_scopes (going_on level) true) s (Outcomes.gives-never true _) p t r q))
      (λ inside n q g.
      let en = opened-judged level inside s n k there q in
      stopped-after p t P s n r en.1.goes.extends
      (stopped-as p t (λ T. RefusesItemsOf T (inside_function result) None items (known_of n) (Refused p t)) P n r
      (λ x f. subst (λ (c : Known). RefusesItemsOf r.table (inside_function result) None items c (Refused p t)) en.0 f)
      (stopped-step p t (judge_block_items (inside_function result) None items n) (λ v. lifted (left brace v))
      (λ T. RefusesItemsOf T (inside_function result) None items (known_of n) (Refused p t)) n r
      (λ z. items-stopped p t items (inside_function result) None n r en.1.known (result-kept s.table n.table result en.1.goes.extends b) tt z)
      (λ list o z z2. left_not p t brace list o r z2) g))) h

  -- The name and the body, behind the specifiers and a declarator that is judged

  -- what is refused of a form that makes the type u
  abbrev FormRefused : TypedSpecifiers → tree.Declarator → tree.BlockItems → Known → Scopes → Table → Type 0
  FormRefused base d items k s T = (form : TypedForm) × (m : Scopes) × IsForm T form s m × (erased_form form ≡ d)
      × (FormFails T m form Written (specified_type base) (name_place (name_of_form form) nowhere) (Refused p t)
      ⊎ ((name : Identifier) × (u : TypeId) × (name_of_form form ≡ Some name) × FormMakes T m form Written (specified_type base) u
      × (Fails (definition_tests T (with_scopes k m) (storage_of base) (has_some (parameters_of_form form None)) name.bytes u name.place) (Refused p t)
      ⊎ ((ps : TypedParameters) × (n : Known) × (types : List TypeId) × (result : TypeId) × (parameters_of_form form None ≡ Some ps)
      × HasShape T u (Function types result) × (inside : Scopes) × AreParameters T (is_void_list ps) ps (entering s) inside
      × IsDeclarator T true (storage_of base) (specified_type base) Written form u (with_scopes k s) n
      × RefusesItemsOf T (inside_function result) None items
      (record n { scopes = going_on (innermost inside.levels) n.scopes; defined = n.defined ++ name.bytes ∷ [] }) (Refused p t)))))

  module _ (base : TypedSpecifiers) (d : tree.Declarator) (brace : Place) (items : tree.BlockItems) (before : TypedTranslationUnit) (form : TypedForm) (u : TypeId) (s m r : UnitState) (k : IsUnitKnown s)
      (j : IsFormKnown (naming_for true (storage_of base) (linked_first s.linkage.linked (declarator_name d))) (specified_type base) None d form u s m) where
    name_stopped : (o : Option Identifier) → declarator_name d ≡ o → defined_as o base (typed.Declares form u) m ≡ Stops (Refused p t) r
        → IsStopped (FormRefused base d items (known_of s) s.seen.scopes) m r
    unfolding defined_as
    name_stopped None q h = absurd (large-unrefused TypedDeclarator start_of_text Types m p t r h)
    name_stopped (Some name) q h =
        let P : Table → Type 0 = FormRefused base d items (known_of s) s.seen.scopes in
        let which : Naming = naming_for true (storage_of base) (linked_first s.linkage.linked (declarator_name d)) in
        stopped-rules p t (λ w. definition_tests w.table (known_of w) (storage_of base) (has_some (parameters_of_form form None)) name.bytes u name.place)
        (λ (w : UnitState). next (counted name.place (place_among w.seen.scopes.defined name.bytes) w) (λ number. λ n. next (defined name u n) (λ what. pure (typed.Declares form u)))) P m r
        (λ f. (
          form,
          m.seen.scopes,
          form-later which (specified_type base) None d form u s m k j m.table (extended_refl m.table),
          j.judged.erases,
          inr (
            name,
            u,
            named-form which (specified_type base) None d form u s m k j (Some name) q,
            makes-later which (specified_type base) None d form u s m k j m.table (extended_refl m.table),
            inl (subst (λ (c : Known). Fails (definition_tests m.table c (storage_of base) (has_some (parameters_of_form form None)) name.bytes u name.place) (Refused p t)) (scopes-alone s m j.linkage) f),
          ),
        ))
        (λ n y. stopped-step p t (counted name.place (place_among m.seen.scopes.defined name.bytes) m) (λ number. λ n2. next (defined name u n2) (λ what. pure (typed.Declares form u))) P m r
        (λ z. absurd (counted_never name.place (place_among m.seen.scopes.defined name.bytes) m p t r z))
        (λ number n2 z g. stopped-step p t (defined name u n2) (λ what. pure (typed.Declares form u)) P m r (λ z2. absurd (defined_never name u n2 p t r z2))
        (λ what n3 z2 g2. never-stops (typed.Declares form u) (Refused p t) n3 r g2) g) y) h

    module _ (base_there : IsType s.table (specified_type base))
        (run : lifted (judge_declarator (naming_for true (storage_of base) (linked_first s.linkage.linked (declarator_name d))) base None d) s ≡ Gives (typed.Declares form u) m) where
      -- the body of a function whose name is defined
      body_refused : (n : UnitState) (c : IsNameDefined base d form u m n) → body brace (result_of (shape_at n.table u)) (level_at before d brace items base s) items n ≡ Stops (Refused p t) r
          → IsStopped (FormRefused base d items (known_of s) s.seen.scopes) m r
      body_refused n c h =
          let which : Naming = naming_for true (storage_of base) (linked_first s.linkage.linked (declarator_name d)) in
          let q : UnitState = defined_function m c.name.bytes u in
          let kd : Known = known_of (linked_state m c.name.bytes (declared.Function u)) in
          let ps = definitions.parameters base d form u s m k j c.name c.written c.tried in
          let f = definitions.with_parameters_made base d form u s m k j c.name c.written c.tried in
          let g = definitions.defined_goes base d form u s m k j c.name c.written c.tried in
          let basic = j.goes.known.known.basic in
          let level : Level = level_at before d brace items base s in
          let scope = level-judged which base d form u ps.0 (state_of s) (state_of m) k.known base_there
          (lifted-gives (judge_declarator which base None d) (typed.Declares form u) s m run).0 ps.1 in
          let given : body brace (Some f.0) level items q ≡ Stops (Refused p t) r =
          ap (λ (o : Option TypeId). body brace o level items q) (ap result_of (sym f.1.1))
          ∙ (ap (λ (w : UnitState). body brace (result_of (shape_at w.table u)) level items w) (sym c.state) ∙ h) in
          let P : Table → Type 0 = λ T. RefusesItemsOf T (inside_function f.0) None items (with_scopes (known_of q) (going_on level q.seen.scopes)) (Refused p t) in
          stopped-as p t P (FormRefused base d items (known_of s) s.seen.scopes) m r
          (λ x w. (
            form,
            m.seen.scopes,
            form-later which (specified_type base) None d form u s m k j r.table x,
            j.judged.erases,
            inr (
              c.name,
              u,
              definitions.named base d form u s m k j c.name c.written c.tried,
              makes-later which (specified_type base) None d form u s m k j r.table x,
              inr (
                ps.0,
                kd,
                taken_types ps.0,
                f.0,
                ps.1,
                has-kept m.table r.table x basic u (Function (taken_types ps.0) f.0) f.1,
                scope.inside,
                scope.listed r.table x,
                definitions.declares base d form u s m k j c.name c.written c.tried r.table x,
                subst (λ (l : Level). RefusesItemsOf r.table (inside_function f.0) None items
                    (record kd { scopes = going_on l kd.scopes; defined = kd.defined ++ c.name.bytes ∷ [] }) (Refused p t)) scope.same
                    (subst (λ (names : List Name). RefusesItemsOf r.table (inside_function f.0) None items (record kd { scopes = going_on level kd.scopes; defined = names }) (Refused p t))
                    (ap (λ (b : Bool). if b then m.linkage.defined else m.linkage.defined ++ c.name.bytes ∷ []) c.tried.again.once) w),
              ),
            ),
          ))
          (stopped-after p t P m q r g.goes.extends (body_stopped brace f.0 level items q r g.known (result-is m.table u ps.0 f basic) scope.there given))

      rest_stopped : behind_declarator before d brace items base s (typed.Declares form u) m ≡ Stops (Refused p t) r → IsStopped (FormRefused base d items (known_of s) s.seen.scopes) m r
      rest_stopped h =
          let P : Table → Type 0 = FormRefused base d items (known_of s) s.seen.scopes in
          stopped-step p t (defined_as (declarator_name d) base (typed.Declares form u) m) (λ again. λ n. behind_name before d brace items base s (typed.Declares form u) n) P m r
          (λ q. name_stopped (declarator_name d) refl q)
          (λ again n q g. stopped-step p t (body brace (result_of (shape_at n.table u)) (level_at before d brace items base s) items n)
          (λ list. pure (typed.AndFunctionBody before base (typed.Declares form u) brace list)) P m r
          (λ y. body_refused n (name-defined base d form u (declarator_name d) again m n refl q) y)
          (λ list o y z. never-stops (typed.AndFunctionBody before base (typed.Declares form u) brace list) (Refused p t) o r z) g) h

  -- what is refused behind the specifiers
  abbrev BehindRefused : TypedSpecifiers → tree.Declarator → tree.BlockItems → UnitState → Table → Type 0
  BehindRefused base d items s T = RefusesDeclarator T d s.seen.scopes (Refused p t) ⊎ FormRefused base d items (known_of s) s.seen.scopes T

  behind_stopped : (base : TypedSpecifiers) (d : tree.Declarator) (brace : Place) (items : tree.BlockItems) (before : TypedTranslationUnit) (s r : UnitState) → IsUnitKnown s
      → IsType s.table (specified_type base)
      → behind_specifiers before d brace items base s ≡ Stops (Refused p t) r
      → IsStopped (BehindRefused base d items s) s r
  behind_stopped base d brace items before s r k b h =
      let which : Naming = naming_for true (storage_of base) (linked_first s.linkage.linked (declarator_name d)) in
      stopped-step p t (lifted (judge_declarator which base None d) s) (λ one. λ m. behind_declarator before d brace items base s one m) (BehindRefused base d items s) s r
      (λ q. stopped-as p t (λ T. RefusesDeclarator T d s.seen.scopes (Refused p t)
      ⊎ ((form : TypedForm) × (m : Scopes) × IsForm T form s.seen.scopes m × (erased_form form ≡ d)
      × FormFails T m form Written (specified_type base) (name_place (name_of_form form) nowhere) (Refused p t))) (BehindRefused base d items s) s r
      (λ x f. elim f [ inl g ↦ inl g | inr g ↦ inr (g.0, g.1, g.2, g.3, inl g.4) ]) (form-stopped p t which base None d s r k.known b q))
      (λ one m q g. by one m q g) h
    where
      by : (one : TypedDeclarator) (m : UnitState)
          → lifted (judge_declarator (naming_for true (storage_of base) (linked_first s.linkage.linked (declarator_name d))) base None d) s ≡ Gives one m
          → behind_declarator before d brace items base s one m ≡ Stops (Refused p t) r
          → IsStopped (BehindRefused base d items s) s r
      by (typed.Declares form u) m q g =
          let j = form-known (naming_for true (storage_of base) (linked_first s.linkage.linked (declarator_name d))) base None d form u s m k b q in
          stopped-after p t (BehindRefused base d items s) s m r j.judged.goes.extends
          (stopped-as p t (FormRefused base d items (known_of s) s.seen.scopes) (BehindRefused base d items s) m r (λ x f. inr f) (rest_stopped base d brace items before form u s m r k j b q g))

  pub definition-stopped : (before : TypedTranslationUnit) (all : tree.Specifiers) (d : tree.Declarator) (brace : Place) (items : tree.BlockItems) (s r : UnitState) → IsUnitKnown s
      → judge_definition before all d brace items s ≡ Stops (Refused p t) r → IsStopped (λ T. RefusesDefinition T all d items (known_of s) (Refused p t)) s r
  unfolding judge_definition
  definition-stopped before all d brace items s0 r k h =
      let P : Table → Type 0 = λ T. RefusesDefinition T all d items (known_of s0) (Refused p t) in
      stopped-step p t (lifted (judge_specifiers_of false all) s0) (λ base. λ s. behind_specifiers before d brace items base s) P s0 r
      (λ q. stopped-as p t (λ T. RefusesSpecifiers T all s0.seen.scopes (Refused p t)) P s0 r (λ x f. inl f) (base-stopped p t all s0 r k.known q))
      (λ base s q g.
      let b = base-judged false all base s0 s k q in
      stopped-after p t P s0 s r b.judged.goes.extends
      (stopped-as p t (BehindRefused base d items s) P s r
      (λ x f. inr (
        base,
        s.seen.scopes,
        specifiers-kept s.table r.table x b.judged.goes.known.basic base s0.seen.scopes s.seen.scopes b.judged.typed,
        b.judged.erases,
        subst (λ (l : Linkage). RefusesDeclarator r.table d s.seen.scopes (Refused p t)
            ⊎ FormRefused base d items (known_of (record s { linkage = l })) s.seen.scopes r.table) b.linkage f,
      ))
      (behind_stopped base d brace items before s r b.goes.known b.judged.there g))) h
