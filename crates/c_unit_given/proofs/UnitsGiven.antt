-- Units are given: one declaration or function definition after another.
use Rattle.std.proofs.Common.{◌≡◌, ◌≤◌, max, true, List, [], ◌++◌, refl, sym, subst, ◌∙◌, append_assoc}
use Rattle.cc_base.specs.declared.number.TypeId.{TypeId}
use Rattle.cc_base.specs.declared.place.Place.{Place}
use Rattle.c_types.specs.Table.{Table}
use Rattle.c_tree.specs.Erasure.{erased_specifiers, erased_form, erased_declaration, erased_block_items, erased_unit}
use Rattle.c_tree.specs.TypedTree as typed
use Rattle.c_tree.specs.TypedTree.{TypedSpecifiers, TypedForm, TypedDeclaration, TypedBlockItems, TypedTranslationUnit}
use Rattle.c_tree.specs.TypedParts.{Made, name_of_form, made_by_specifiers, made_by_form, made_by_declaration, made_by_block_items, made_by_unit}
use Rattle.c_typing.specs.Declarators.{Written, name_bytes}
use Rattle.c_typing.specs.Scopes.{Name}
use Rattle.c_typing.specs.Settled.{IsBasic}
use Rattle.c_type_order.specs.TypesUsed.{Use, used_by_specifiers, used_by_declarator}
use Rattle.c_unit_typing.specs.DeclarationJudging.{judge_declaration}
use Rattle.c_unit_typing.specs.DefinitionJudging.{judge_definition, judge_unit}
use Rattle.c_unit_typing.specs.Holding.{specifiers_holds, declarator_holds, declaration_holds, block_items_holds, unit_holds}
use Rattle.c_unit_typing.specs.Units.{Known, is_one_of, IsDeclaration, IsDefinition, IsUnitTyped}
use Rattle.c_unit_typing.specs.UnitJudging.{UnitJudging, pure, ◌>>=◌}
use Rattle.c_unit_typing.proofs.UnitStillDefined.{unit-defined}
use Rattle.c_unit_given.proofs.UnitGiven.{AreSizesWritten, IsRun, Nothing, And, AreScopesKept, AreExpressionsGiven, AreDeclaratorsGiven}
use Rattle.c_unit_typing.specs.TypesUsed.{used_by_declaration, used_by_block_items, used_by_unit}
use Rattle.c_unit_given.proofs.DeclarationsGiven.{left-held, right-held}
use Rattle.c_unit_given.proofs.DeclarationTrees.{declaration-run}
use Rattle.c_unit_given.proofs.FunctionNames.{AreAmong}
use Rattle.c_unit_given.proofs.Runs.{Then, Stays, run-then, run-last, run-as, run-none, nothing-kept}

module _ (T : Table) (names : List Name) where
  -- a part of a unit that defines these functions
  abbrev pub OfUnit : (Known → Known → Type 0) → Known → Known → Type 0
  OfUnit P k k' = (k.scopes.defined ≡ names) × P k k'

  -- a function with its body, whose name is one of them
  abbrev pub IsDefinitionRun : Type 0
  IsDefinitionRun =
      (before : TypedTranslationUnit) (x : TypedSpecifiers) (form : TypedForm) (t : TypeId) (brace : Place) (body : TypedBlockItems) → is_one_of names (name_bytes (name_of_form form)) ≡ true
      → max (specifiers_holds (erased_specifiers x)) (max (declarator_holds (erased_form form)) (block_items_holds (erased_block_items body))) ≤ 256
      → IsRun T Nothing Nothing (OfUnit (IsDefinition T x form t body)) (made_by_specifiers x ++ made_by_form form t ++ made_by_block_items body)
      (used_by_specifiers T x ++ used_by_declarator T Written (typed.Declares form t) ++ used_by_block_items T body)
      (judge_definition before (erased_specifiers x) (erased_form form) brace (erased_block_items body)) (typed.AndFunctionBody before x (typed.Declares form t) brace body)

  abbrev pub IsUnitRun : TypedTranslationUnit → Type 0
  IsUnitRun u = IsRun T Nothing Nothing (OfUnit (IsUnitTyped T u)) (made_by_unit u) (used_by_unit T u) (judge_unit (erased_unit u)) u

  -- four parts, however they are joined
  four : {A : Type 0} (P : Known → Known → Type 0) (ws xs ys zs : List Made) (ts us vs qs : List Use) (m : UnitJudging A) (a : A)
      → IsRun T Nothing Nothing P (ws ++ (xs ++ ys ++ zs)) (ts ++ (us ++ vs ++ qs)) m a → IsRun T Nothing Nothing P (ws ++ xs ++ ys ++ zs) (ts ++ us ++ vs ++ qs) m a
  four P ws xs ys zs ts us vs qs m a p =
      subst (λ (made : List Made). IsRun T Nothing Nothing P made (ts ++ us ++ vs ++ qs) m a) (joined ws xs ys zs)
      (subst (λ (uses : List Use). IsRun T Nothing Nothing P (ws ++ (xs ++ ys ++ zs)) uses m a) (joined ts us vs qs) p)
    where
      joined : {B : Type 0} (a b c d : List B) → a ++ (b ++ c ++ d) ≡ a ++ b ++ c ++ d
      joined a b c d = sym (append_assoc a (b ++ c) d) ∙ (λ i. sym (append_assoc a b c) i ++ d)

  module _ (basic : IsBasic T) (exprs : AreExpressionsGiven T) (scopes : AreScopesKept T) (decls : AreDeclaratorsGiven T) (sizes : AreSizesWritten T) (definitions : IsDefinitionRun) where
    and_declaration_run : (u : TypedTranslationUnit) (d : TypedDeclaration) → max (unit_holds (erased_unit u)) (declaration_holds (erased_declaration d)) ≤ 256 → IsUnitRun u → IsUnitRun (typed.AndExternal u d)
    unfolding judge_unit
    and_declaration_run u d holds p =
        let P = OfUnit (IsUnitTyped T u) in
        let Q = IsDeclaration T true d in
        let xs = made_by_unit u in
        let ys = made_by_declaration d in
        let us = used_by_unit T u in
        let vs = used_by_declaration T d in
        let give : TypedDeclaration → UnitJudging TypedTranslationUnit = λ one. pure (typed.AndExternal u one) in
        let rest : TypedTranslationUnit → UnitJudging TypedTranslationUnit = λ list. judge_declaration true (erased_declaration d) >>= (λ one. pure (typed.AndExternal list one)) in
        let few = right-held (unit_holds (erased_unit u)) (declaration_holds (erased_declaration d)) 256 holds in
        let one =
        run-as T Nothing (And Nothing Nothing) Nothing Nothing Q Q ys vs (judge_declaration true (erased_declaration d)) d (λ J w. w.0) (λ J w. w) (λ a b w. w)
        (declaration-run T basic exprs scopes decls sizes d true few) in
        let last =
        run-last T (And Nothing Nothing) Nothing Nothing (λ J U x b w. w) Q ys vs (judge_declaration true (erased_declaration d)) give d (typed.AndExternal u d) one (λ r here w e. (refl, tt)) in
        run-as T Nothing Nothing Nothing Nothing (Then P Q) (OfUnit (IsUnitTyped T (typed.AndExternal u d))) (xs ++ ys) (us ++ vs) (judge_unit (erased_unit u) >>= rest) (typed.AndExternal u d)
        (λ J w. w) (λ J w. w) (λ k k' h. (h.1.0, (h.0, h.1.1), h.1.2))
        (run-then T Nothing Nothing Nothing nothing-kept P Q xs ys us vs (judge_unit (erased_unit u)) rest u (typed.AndExternal u d) p last)

    and_function_run : (u : TypedTranslationUnit) (x : TypedSpecifiers) (form : TypedForm) (t : TypeId) (brace : Place) (body : TypedBlockItems)
        → max (unit_holds (erased_unit u)) (max (specifiers_holds (erased_specifiers x)) (max (declarator_holds (erased_form form)) (block_items_holds (erased_block_items body)))) ≤ 256
        → is_one_of names (name_bytes (name_of_form form)) ≡ true → IsUnitRun u → IsUnitRun (typed.AndFunctionBody u x (typed.Declares form t) brace body)
    unfolding judge_unit
    and_function_run u x form t brace body holds among p =
        let P = OfUnit (IsUnitTyped T u) in
        let Q = OfUnit (IsDefinition T x form t body) in
        let whole : TypedTranslationUnit = typed.AndFunctionBody u x (typed.Declares form t) brace body in
        let words = made_by_specifiers x in
        let own = made_by_form form t in
        let items = made_by_block_items body in
        let us = used_by_specifiers T x in
        let vs = used_by_declarator T Written (typed.Declares form t) in
        let qs = used_by_block_items T body in
        let rest : TypedTranslationUnit → UnitJudging TypedTranslationUnit = λ list. judge_definition list (erased_specifiers x) (erased_form form) brace (erased_block_items body) in
        let most = max (specifiers_holds (erased_specifiers x)) (max (declarator_holds (erased_form form)) (block_items_holds (erased_block_items body))) in
        let one =
        run-as T Nothing (And Nothing Nothing) Nothing Nothing Q Q (words ++ own ++ items) (us ++ vs ++ qs) (rest u) whole (λ J w. w.0) (λ J w. w) (λ a b w. w)
        (definitions u x form t brace body among (right-held (unit_holds (erased_unit u)) most 256 holds)) in
        four (OfUnit (IsUnitTyped T whole)) (made_by_unit u) words own items (used_by_unit T u) us vs qs (judge_unit (erased_unit u) >>= rest) whole
        (run-as T Nothing Nothing Nothing Nothing (Then P Q) (OfUnit (IsUnitTyped T whole)) (made_by_unit u ++ (words ++ own ++ items)) (used_by_unit T u ++ (us ++ vs ++ qs))
        (judge_unit (erased_unit u) >>= rest) whole (λ J w. w) (λ J w. w) (λ k k' h. (h.1.0, (h.0, h.1.1), (unit-defined T u k h.1.0 h.1.1 ∙ h.0, h.1.2)))
        (run-then T Nothing Nothing Nothing nothing-kept P Q (made_by_unit u) (words ++ own ++ items) (used_by_unit T u) (us ++ vs ++ qs) (judge_unit (erased_unit u)) rest u whole p one))

    -- a unit that is well typed is given, where these are the functions that it defines
    pub unit-run : (u : TypedTranslationUnit) → unit_holds (erased_unit u) ≤ 256 → AreAmong names u → IsUnitRun u
    unfolding judge_unit
    unit-run typed.NoExternal holds among =
        run-as T Nothing Nothing Nothing Nothing Stays (OfUnit (IsUnitTyped T typed.NoExternal)) [] [] (pure typed.NoExternal) typed.NoExternal (λ J w. w) (λ J w. w) (λ k k' h. h.1)
        (run-none T Nothing Nothing (pure typed.NoExternal) typed.NoExternal (λ s here w. (refl, tt)))
    unit-run (typed.AndExternal u d) holds among =
        and_declaration_run u d holds (unit-run u (left-held (unit_holds (erased_unit u)) (declaration_holds (erased_declaration d)) 256 holds) among)
    unit-run (typed.AndFunctionBody u x (typed.Declares form t) brace body) holds among =
        and_function_run u x form t brace body holds among.1
        (unit-run u
        (left-held (unit_holds (erased_unit u)) (max (specifiers_holds (erased_specifiers x)) (max (declarator_holds (erased_form form)) (block_items_holds (erased_block_items body)))) 256 holds) among.0)
