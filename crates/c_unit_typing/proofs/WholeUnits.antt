-- What judging gives for a whole unit is well typed: it has a `main`, and its nodes are numbered.
use Rattle.std.proofs.Common.{◌≡◌, ℕ, zero, suc, ◌==◌, Bool, true, false, not, ◌&&◌, ◌||◌, List, [], ◌∷◌, map, length, Option, Some, None, refl, ap, sym, subst, ◌∙◌, inl, inr, bytes_eq, codes}
use Rattle.std.specs.List.{All, Contains}
use Rattle.std.proofs.lemmas.Bool.Decides.{Decides-eqb}
use Rattle.std.proofs.lemmas.List.Elements.{All-nil, All-head, All-contains}
use Rattle.std.proofs.lemmas.List.Folds.{list_any_at}
use Rattle.std.proofs.lemmas.List.Quantifiers.{position-Some}
use Rattle.std.proofs.lemmas.Slice.Eq.{bytes_eq-Decides}
use Rattle.cc_base.specs.declared.number.TypeId.{TypeId}
use Rattle.cc_base.specs.declared.fault.Fault.TheVariants.{Refused}
use Rattle.cc_base.specs.declared.fault.Rule.TheVariants as rule
use Rattle.c_types.specs.declared.shape.TypeShape.{TypeShape}
use Rattle.c_types.specs.declared.shape.TypeShape.TheVariants.{Void, Integer, Pointer, Array, Function, Struct, Union}
use Rattle.c_types.specs.Equality.{same_bool}
use Rattle.c_types.specs.Table.{Table, IsType, shape_at, named_by, descend}
use Rattle.c_types.specs.Sameness.{is_same_type, same_shape, same_step}
use Rattle.c_types.proofs.Lists.{contains_head, contains_tail}
use Rattle.c_tree.specs.Erasure.{erased_unit}
use Rattle.c_tree.specs.Tree as tree
use Rattle.c_tree.specs.TypedTree.{TypedTranslationUnit}
use Rattle.c_tree.specs.TypedParts.{DefinedFunction, functions_of, declared_type}
use Rattle.c_typing.specs.declared.declared.Declared.{Declared}
use Rattle.c_typing.specs.declared.declared.Declared.TheVariants as declared
use Rattle.c_typing.specs.Scopes.{Name, entry_of, place_among, empty_level}
use Rattle.c_typing.specs.Tests.{first_broken, has_some}
use Rattle.c_typing_laws.proofs.ConstructLaws.{one_unbroken, not_false}
use Rattle.c_typing_laws.proofs.ExtensionLaws.{no_true, and_left, and_right, extended_refl}
use Rattle.c_typing_laws.proofs.FirstState.{first-known}
use Rattle.c_type_order.proofs.Uses.{later-self}
use Rattle.c_unit_typing.specs.DefinitionJudging.{judge_unit, judge_whole, is_main, is_main_shape, main_tests, functions_written, before_unit, judged_unit}
use Rattle.c_unit_typing.specs.Units.{Known, is_one_of, IsUnitTyped}
use Rattle.c_unit_typing.specs.UnitJudged.{state_of, IsLinkedKnown, IsUnitKnown}
use Rattle.c_unit_typing.specs.UnitJudging.{UnitState, Gives, known_of, pure, obeying}
use Rattle.c_unit_typing.specs.UnitRefusals.{start_of_text}
use Rattle.c_unit_typing.specs.WellTyped.{HasMain, IsWellTyped}
use Rattle.c_unit_typing.proofs.BasicTable.{basic-formed}
use Rattle.c_unit_typing.proofs.DeclaredAgain.{integer_shape}
use Rattle.c_unit_typing.proofs.JudgedUnits.{name_in_bytes, IsFunctionHere, IsWholeJudged, unit-judged}
use Rattle.c_unit_typing.proofs.UnitOutcomes.{bind-gives, unless-gives, given-same}
use Rattle.c_unit_typing.proofs.UnitStillDefined.{unit-defined}

-- The type of `main`

-- t is the type of `int main(void)`
pub record IsMainType (T : Table) (t : TypeId) : Type 0 where
  pub result : TypeId
  pub shape : shape_at T t ≡ Function [] result
  pub int : shape_at T result ≡ Integer 4 true

main_shape : (T : Table) (t : TypeId) (x : TypeShape) → shape_at T t ≡ x → is_main_shape T x ≡ true → IsMainType T t
main_shape T t (Function [] result) q h = record { result = result; shape = q; int = integer_shape (shape_at T result) 4 true h }
main_shape T t (Function (p ∷ ps) result) q h = no_true h
main_shape T t Void q h = no_true h
main_shape T t (Integer n s) q h = no_true h
main_shape T t (Pointer n u) q h = no_true h
main_shape T t (Array u n) q h = no_true h
main_shape T t (Struct n) q h = no_true h
main_shape T t (Union n) q h = no_true h

main_linked : (T : Table) (o : Option Declared) → is_main T o ≡ true → (t : TypeId) × (o ≡ Some (declared.Function t)) × IsMainType T t
main_linked T (Some (declared.Function t)) h = (t, refl, main_shape T t (shape_at T t) refl h)
main_linked T (Some (declared.Object t n)) h = no_true h
main_linked T (Some (declared.Typedef t)) h = no_true h
main_linked T (Some (declared.Enumerator z)) h = no_true h
main_linked T None h = no_true h

same_sign : (b : Bool) → same_bool true b ≡ true → true ≡ b
same_sign true h = refl
same_sign false h = no_true h

-- what is the same type as an int is one
int_alike : (f : TypeId → TypeId → Bool) (y : TypeShape) → same_shape f (Integer 4 true) y ≡ true → y ≡ Integer 4 true
int_alike f (Integer b s) h =
    let bytes = (Decides-eqb 4 b).0 (and_left (4 == b) (same_bool true s) h) in
    let sign = same_sign s (and_right (4 == b) (same_bool true s) h) in
    λ i. Integer (sym bytes i) (sym sign i)
int_alike f Void h = no_true h
int_alike f (Pointer n t) h = no_true h
int_alike f (Array t n) h = no_true h
int_alike f (Function ps r) h = no_true h
int_alike f (Struct n) h = no_true h
int_alike f (Union n) h = no_true h

module _ (T : Table) where
  int_same : (n : ℕ) (r q : TypeId) → shape_at T r ≡ Integer 4 true → descend (same_step T) (λ w. false) n r q ≡ true → shape_at T q ≡ Integer 4 true
  int_same zero r q k h = no_true h
  int_same (suc n) r q k h =
      int_alike (descend (same_step T) (λ w. false) n) (shape_at T q) (ap (λ (x : TypeShape). same_shape (descend (same_step T) (λ w. false) n) x (shape_at T q)) (sym k) ∙ h)

  main_alike : (u r : TypeId) (y : TypeShape) → shape_at T u ≡ y → shape_at T r ≡ Integer 4 true
      → same_shape (descend (same_step T) (λ w. false) (length T)) (Function [] r) y ≡ true → IsMainType T u
  main_alike u r (Function [] q) k int h =
      record { result = q; shape = k; int = int_same (length T) r q int (and_left (descend (same_step T) (λ w. false) (length T) r q) true h) }
  main_alike u r (Function (p ∷ ps) q) k int h = no_true (and_right (descend (same_step T) (λ w. false) (length T) r q) false h)
  main_alike u r Void k int h = no_true h
  main_alike u r (Integer n s) k int h = no_true h
  main_alike u r (Pointer n t) k int h = no_true h
  main_alike u r (Array t n) k int h = no_true h
  main_alike u r (Struct n) k int h = no_true h
  main_alike u r (Union n) k int h = no_true h

  main_same : (t u : TypeId) → IsMainType T t → is_same_type T t u ≡ true → IsMainType T u
  unfolding is_same_type
  main_same t u m h =
      main_alike u m.result (shape_at T u) refl m.int
      (ap (λ (x : TypeShape). same_shape (descend (same_step T) (λ w. false) (length T)) x (shape_at T u)) (sym m.shape) ∙ h)

-- The definition of `main`

found_in : (fs : List DefinedFunction) (name : Name) → is_one_of (map name_in_bytes fs) name ≡ true → (f : DefinedFunction) × Contains fs f × (name_in_bytes f ≡ name)
found_in [] name h = no_true h
found_in (f ∷ fs) name h = by (bytes_eq name (name_in_bytes f)) refl h (found_in fs name)
  where
    by : (b : Bool) → bytes_eq name (name_in_bytes f) ≡ b → (b || is_one_of (map name_in_bytes fs) name) ≡ true
        → (is_one_of (map name_in_bytes fs) name ≡ true → (g : DefinedFunction) × Contains fs g × (name_in_bytes g ≡ name))
        → (g : DefinedFunction) × Contains (f ∷ fs) g × (name_in_bytes g ≡ name)
    by true q g rest = (f, contains_head f fs, sym ((bytes_eq-Decides name (name_in_bytes f)).0 q))
    by false q g rest = let more = rest g in (more.0, contains_tail f fs more.0 more.1, more.2)

placed : (names : List Name) (name : Name) (o : Option ℕ) → place_among names name ≡ o → has_some o ≡ true → is_one_of names name ≡ true
placed names name None q h = no_true h
placed names name (Some i) q h =
    let at = position-Some (bytes_eq name) names i [] q in
    list_any_at (λ each. bytes_eq name each) names i [] at.0 at.1

module _ (u : tree.TranslationUnit) (whole : TypedTranslationUnit) (r : UnitState) (w : IsWholeJudged u whole (before_unit u) r) (k : IsUnitKnown r) where
  pub same_functions : r.seen.scopes.defined ≡ map name_in_bytes (functions_of whole)
  same_functions =
      unit-defined r.table whole (known_of (before_unit u)) (known_of r) (w.judged.typed r.table (extended_refl r.table)) ∙ sym w.names

  has-main : (is_main r.table (entry_of r.linkage.linked (codes "main")) && has_some (place_among r.seen.scopes.defined (codes "main"))) ≡ true → HasMain r.table whole
  has-main h =
      let T = r.table in
      let a = is_main T (entry_of r.linkage.linked (codes "main")) in
      let b = has_some (place_among r.seen.scopes.defined (codes "main")) in
      let linked = main_linked T (entry_of r.linkage.linked (codes "main")) (and_left a b h) in
      let is_named = placed r.seen.scopes.defined (codes "main") (place_among r.seen.scopes.defined (codes "main")) refl (and_right a b h) in
      let f = found_in (functions_of whole) (codes "main") (ap (λ (names : List Name). is_one_of names (codes "main")) (sym same_functions) ∙ is_named) in
      let here = All-contains (IsFunctionHere r) (functions_of whole) f.0 w.functions f.1 in
      let t : TypeId = declared_type f.0.declarator in
      let first_is : linked.0 ≡ here.0.first =
      ap (function_or linked.0) (sym linked.1 ∙ (ap (λ (n : Name). entry_of r.linkage.linked n) (sym f.2) ∙ here.0.found)) in
      let first_main = subst (IsMainType T) first_is linked.2 in
      let main : IsMainType T t = elim here.0.same [
        | inl e ↦ subst (IsMainType T) e first_main
        | inr e ↦ main_same T here.0.first t first_main e
      ] in
      let named = subst (λ (y : TypeShape). All (IsType T) (named_by y)) main.shape (k.known.basic.formed.each t).named in
      record {
        main = f.0;
        there = f.1;
        named = f.2;
        result = main.result;
        gives = (All-head (IsType T) main.result [] named, main.int);
        shape = (here.1, main.shape);
      }
    where
      function_or : TypeId → Option Declared → TypeId
      function_or d (Some (declared.Function t)) = t
      function_or d o = d

-- Units

pub before-known : (u : tree.TranslationUnit) → IsUnitKnown (before_unit u)
before-known u = record {
  known = first-known (functions_written u) (state_of (before_unit u)) basic-formed refl refl;
  linked = All-nil (λ (e : Name × Declared). IsLinkedKnown (before_unit u) e.1);
}

abbrev pub before_with : List Name → Known
before_with names = record { scopes = record { levels = empty_level ∷ []; defined = names; members = [] }; linked = []; defined = []; statics = [] }

pub whole-judged : (u : tree.TranslationUnit) (whole : TypedTranslationUnit) (r : UnitState) → judged_unit u ≡ Gives whole r → IsWellTyped r.table whole × (erased_unit whole ≡ u)
unfolding judge_whole
whole-judged u whole r h =
    let s = before_unit u in
    let e1 = bind-gives (judge_unit u s) (λ v. obeying main_tests (pure v)) whole r h in
    let go = unless-gives (first_broken (main_tests e1.1)) (pure e1.0) e1.1 whole r e1.3 in
    let w = unit-judged u e1.0 s e1.1 (before-known u) e1.2 in
    let m = e1.1 in
    let both = is_main m.table (entry_of m.linkage.linked (codes "main")) && has_some (place_among m.seen.scopes.defined (codes "main")) in
    let yes = not_false both (one_unbroken (not both) (Refused start_of_text rule.NoMain) go.0) in
    given-same (λ (v : TypedTranslationUnit) (q : UnitState). IsWellTyped q.table v × (erased_unit v ≡ u)) e1.0 whole m r go.1 (
      record {
        after = known_of m;
        typed = subst (λ (names : List Name). IsUnitTyped m.table e1.0 (before_with names) (known_of m)) (sym w.names) (w.judged.typed m.table (extended_refl m.table));
        numbered = w.judged.numbers.numbers;
        types = w.judged.types.uses m.table (later-self m.table);
        basic = w.judged.goes.known.known.basic;
        structs = w.judged.goes.known.known.numbered;
        main = has-main u e1.0 m w w.judged.goes.known yes;
      },
      w.judged.erases,
    )
