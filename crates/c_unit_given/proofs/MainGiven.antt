-- The `main` of a unit that is well typed is found where judging looks for it.
use Rattle.std.proofs.Common.{◌≡◌, ℕ, zero, suc, Bool, true, false, not, ◌&&◌, [], ◌∷◌, length, Some, None, ap, sym, ◌∙◌, ◌⊎◌, inl, inr, codes}
use Rattle.std.proofs.lemmas.List.Elements.{All-contains}
use Rattle.cc_base.specs.declared.number.TypeId.{TypeId}
use Rattle.cc_base.specs.declared.fault.Rule.TheVariants as rule
use Rattle.c_types.specs.declared.shape.TypeShape.{TypeShape}
use Rattle.c_types.specs.declared.shape.TypeShape.TheVariants.{Void, Integer, Pointer, Array, Function, Struct, Union}
use Rattle.c_types.specs.Table.{Table, shape_at, descend}
use Rattle.c_types.specs.Sameness.{is_same_type, same_shape, same_step}
use Rattle.c_tree.specs.Tree as tree
use Rattle.c_tree.specs.TypedTree.{TypedTranslationUnit}
use Rattle.c_tree.specs.TypedParts.{functions_of, declared_type}
use Rattle.c_typing.specs.declared.declared.Declared.TheVariants as declared
use Rattle.c_typing.specs.Extensions.{IsExtended}
use Rattle.c_typing.specs.Scopes.{Name, entry_of, place_among}
use Rattle.c_typing.specs.Tests.{first_broken, has_some}
use Rattle.c_typing_exact.proofs.Unbroken.{passes_one}
use Rattle.c_typing_laws.proofs.ExtensionLaws.{and_left, and_right}
use Rattle.c_typing_laws.proofs.KeptTypes.{same_exact}
use Rattle.c_typing_unique.proofs.Shapes.{no_true}
use Rattle.c_unit_rules_alike.proofs.DeclarationRules.{is_main-over}
use Rattle.c_unit_rules_alike.proofs.NamesThere.{linked-if}
use Rattle.c_unit_typing.specs.DefinitionJudging.{is_main, is_main_shape, main_tests}
use Rattle.c_unit_typing.specs.UnitJudged.{IsUnitKnown}
use Rattle.c_unit_typing.specs.UnitJudging.{UnitState}
use Rattle.c_unit_typing.specs.UnitRefusals.{is_integer_of, start_of_text}
use Rattle.c_unit_typing.specs.WellTyped.{HasMain}
use Rattle.c_unit_typing.proofs.JudgedUnits.{name_in_bytes, IsFunctionHere, IsWholeJudged}
use Rattle.c_unit_typing.proofs.NameSteps.{linked-there}
use Rattle.c_unit_given.proofs.FunctionNames.{AreAmong, function-among}
use Rattle.c_unit_given.proofs.FunctionsDefined.{placed}

-- The type of `main`

module _ (T : Table) where
  abbrev same_within : ℕ → TypeId → TypeId → Bool
  same_within n = descend (same_step T) (λ w. false) n

  int_alike : (f : TypeId → TypeId → Bool) (x : TypeShape) → same_shape f x (Integer 4 true) ≡ true → is_integer_of x 4 true ≡ true
  int_alike f (Integer b s) h = h
  int_alike f x h = h

  int_within : (n : ℕ) (q r : TypeId) → shape_at T r ≡ Integer 4 true → same_within n q r ≡ true → is_integer_of (shape_at T q) 4 true ≡ true
  int_within zero q r e h = no_true h
  int_within (suc n) q r e h = int_alike (same_within n) (shape_at T q) (ap (λ (y : TypeShape). same_shape (same_within n) (shape_at T q) y) (sym e) ∙ h)

  main_alike : (x : TypeShape) (r : TypeId) → shape_at T r ≡ Integer 4 true → same_shape (same_within (length T)) x (Function [] r) ≡ true → is_main_shape T x ≡ true
  main_alike (Function [] q) r e h = int_within (length T) q r e (and_left (same_within (length T) q r) true h)
  main_alike (Function (p ∷ ps) q) r e h = no_true (and_right (same_within (length T) q r) false h)
  main_alike Void r e h = h
  main_alike (Integer b s) r e h = h
  main_alike (Pointer n t) r e h = h
  main_alike (Array t n) r e h = h
  main_alike (Struct n) r e h = h
  main_alike (Union n) r e h = h

  -- a function of the type of `int main(void)` is declared with such a type
  main_same : (first t result : TypeId) → shape_at T t ≡ Function [] result → shape_at T result ≡ Integer 4 true → (first ≡ t) ⊎ (is_same_type T first t ≡ true)
      → is_main_shape T (shape_at T first) ≡ true
  unfolding is_same_type
  main_same first t result s e (inl q) =
      ap (λ (u : TypeId). is_main_shape T (shape_at T u)) q ∙ (ap (is_main_shape T) s ∙ ap (λ (y : TypeShape). is_integer_of y 4 true) e)
  main_same first t result s e (inr q) =
      main_alike (shape_at T first) result e (ap (λ (y : TypeShape). same_shape (same_within (length T)) (shape_at T first) y) (sym s) ∙ q)

-- what judging has of a whole unit passes the test of `main`
pub main-passes : (T : Table) (u : tree.TranslationUnit) (whole : TypedTranslationUnit) (s r : UnitState) → IsExtended r.table T → IsUnitKnown r → IsWholeJudged u whole s r → HasMain T whole
    → AreAmong r.seen.scopes.defined whole → first_broken (main_tests r) ≡ None
main-passes T u whole s r x k w m p =
    let t : TypeId = declared_type m.main.declarator in
    let here = All-contains (IsFunctionHere r) (functions_of whole) m.main w.functions m.there in
    let first : TypeId = here.0.first in
    let found : entry_of r.linkage.linked (codes "main") ≡ Some (declared.Function first) = ap (λ (name : Name). entry_of r.linkage.linked name) (sym m.named) ∙ here.0.found in
    let there = (linked-there r k (codes "main") (declared.Function first) found).0 in
    let same : (first ≡ t) ⊎ (is_same_type T first t ≡ true) = elim here.0.same [
      | inl e ↦ inl e
      | inr e ↦ inr (same_exact r.table T x k.known.basic first t there here.1 ∙ e)
    ] in
    let linked : is_main r.table (entry_of r.linkage.linked (codes "main")) ≡ true =
    is_main-over r.table T x k.known.basic (entry_of r.linkage.linked (codes "main")) (linked-if r k (codes "main"))
    ∙ (ap (is_main T) found ∙ main_same T first t m.result m.shape.1 m.gives.1 same) in
    let place = placed r.seen.scopes.defined (name_in_bytes m.main) (function-among r.seen.scopes.defined whole p m.main m.there) in
    let defined : has_some (place_among r.seen.scopes.defined (codes "main")) ≡ true =
    ap has_some (ap (λ (name : Name). place_among r.seen.scopes.defined name) (sym m.named) ∙ place.1) in
    let both : (is_main r.table (entry_of r.linkage.linked (codes "main")) && has_some (place_among r.seen.scopes.defined (codes "main"))) ≡ true = (λ i. linked i && defined i) in
    passes_one rule.NoMain start_of_text (not (is_main r.table (entry_of r.linkage.linked (codes "main")) && has_some (place_among r.seen.scopes.defined (codes "main")))) (ap not both)
