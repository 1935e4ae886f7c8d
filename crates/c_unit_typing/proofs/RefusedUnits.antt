-- What judging refuses of a unit breaks the rule that is named.
use Rattle.std.proofs.Common.{◌≡◌, ℕ, zero, suc, ◌<◌, ◌==◌, nat_lt, Bool, true, false, not, ◌&&◌, ◌||◌, List, [], ◌∷◌, map, length, Some, None, refl, ap, sym, subst, ◌∙◌, inl, inr, codes, bytes_eq, if◌then◌else◌, arith}
use Rattle.std.specs.List.{All, Contains, list_any, position_or_len}
use Rattle.std.proofs.lemmas.Bool.Decides.{Decides-eqb, nat_tests}
use Rattle.std.proofs.lemmas.List.Elements.{All-nil, All-cons, All-weaker, All-contains}
use Rattle.std.proofs.lemmas.Option.{none-some}
use Rattle.std.proofs.lemmas.Slice.Eq.{bytes_eq-Decides}
use Rattle.cc_base.specs.declared.place.Place.{Place}
use Rattle.cc_base.specs.declared.number.TypeId.{TypeId}
use Rattle.cc_base.specs.declared.fault.Fault.{Fault}
use Rattle.cc_base.specs.declared.fault.Fault.TheVariants.{Refused}
use Rattle.cc_base.specs.declared.fault.Rule.{Rule}
use Rattle.cc_base.specs.declared.fault.Rule.TheVariants as rule
use Rattle.c_types.specs.declared.shape.TypeShape.{TypeShape}
use Rattle.c_types.specs.declared.shape.TypeShape.TheVariants.{Void, Integer, Pointer, Array, Function, Struct, Union}
use Rattle.c_types.specs.Equality.{same_bool}
use Rattle.c_types.specs.Table.{Table, shape_at, descend}
use Rattle.c_types.specs.Sameness.{is_same_type, same_shape, same_step}
use Rattle.c_tree.specs.Tree as tree
use Rattle.c_tree.specs.TypedTree as typed
use Rattle.c_tree.specs.TypedTree.{TypedTranslationUnit}
use Rattle.c_tree.specs.TypedParts.{DefinedFunction, functions_of, declared_type}
use Rattle.c_typing.specs.declared.declared.Declared.TheVariants as declared
use Rattle.c_typing.specs.Scopes.{Name, entry_of, place_among}
use Rattle.c_typing.specs.Tests.{has_some}
use Rattle.c_typing_laws.proofs.ExtensionLaws.{no_true, and_left, and_right, and_true, extended_refl}
use Rattle.c_unit_typing.specs.DeclarationJudging.{judge_declaration}
use Rattle.c_unit_typing.specs.DefinitionJudging.{judge_definition, judge_unit, judge_whole, is_main, is_main_shape, main_tests, before_unit, judged_unit}
use Rattle.c_unit_typing.specs.Units.{is_one_of}
use Rattle.c_unit_typing.specs.UnitJudged.{IsUnitKnown}
use Rattle.c_unit_typing.specs.UnitJudging.{UnitState, Stops, known_of, next, pure, obeying}
use Rattle.c_unit_typing.specs.UnitRefusals.{start_of_text, is_integer_of, RefusesDeclaration, RefusesDefinition, RefusesParts, RefusesUnit}
use Rattle.c_unit_typing.specs.WellTyped.{HasMain}
use Rattle.c_unit_typing.proofs.JudgedUnits.{name_in_bytes, IsFunctionHere, IsWholeJudged, unit-judged}
use Rattle.c_unit_typing.proofs.NameSteps.{some-same}
use Rattle.c_unit_typing.proofs.RefusedDeclarations.{declaration-stopped}
use Rattle.c_unit_typing.proofs.RefusedDefinitions.{definition-stopped}
use Rattle.c_unit_typing.proofs.WholeUnits.{IsMainType, same_functions, before-known}
use Rattle.c_unit_typing.proofs.UnitStops.{never-stops, IsStopped, stopped-after, stopped-as, stopped-step, stopped-rules}

-- A unit with a `main` is not refused for want of one

same_sign : (b : Bool) → same_bool b true ≡ true → b ≡ true
same_sign true h = refl
same_sign false h = no_true h

int_alike : (f : TypeId → TypeId → Bool) (y : TypeShape) → same_shape f y (Integer 4 true) ≡ true → y ≡ Integer 4 true
int_alike f (Integer b s) h =
    let bytes = (Decides-eqb b 4).0 (and_left (b == 4) (same_bool s true) h) in
    let sign = same_sign s (and_right (b == 4) (same_bool s true) h) in
    λ i. Integer (bytes i) (sign i)
int_alike f Void h = no_true h
int_alike f (Pointer n t) h = no_true h
int_alike f (Array t n) h = no_true h
int_alike f (Function ps r) h = no_true h
int_alike f (Struct n) h = no_true h
int_alike f (Union n) h = no_true h

module _ (T : Table) where
  int_same : (n : ℕ) (q r : TypeId) → shape_at T r ≡ Integer 4 true → descend (same_step T) (λ w. false) n q r ≡ true → shape_at T q ≡ Integer 4 true
  int_same zero q r k h = no_true h
  int_same (suc n) q r k h =
      int_alike (descend (same_step T) (λ w. false) n) (shape_at T q) (ap (λ (x : TypeShape). same_shape (descend (same_step T) (λ w. false) n) (shape_at T q) x) (sym k) ∙ h)

  main_alike : (u r : TypeId) (y : TypeShape) → shape_at T u ≡ y → shape_at T r ≡ Integer 4 true
      → same_shape (descend (same_step T) (λ w. false) (length T)) y (Function [] r) ≡ true → IsMainType T u
  main_alike u r (Function [] q) k int h =
      record { result = q; shape = k; int = int_same (length T) q r int (and_left (descend (same_step T) (λ w. false) (length T) q r) true h) }
  main_alike u r (Function (p ∷ ps) q) k int h = no_true (and_right (descend (same_step T) (λ w. false) (length T) q r) false h)
  main_alike u r Void k int h = no_true h
  main_alike u r (Integer n s) k int h = no_true h
  main_alike u r (Pointer n t) k int h = no_true h
  main_alike u r (Array t n) k int h = no_true h
  main_alike u r (Struct n) k int h = no_true h
  main_alike u r (Union n) k int h = no_true h

  main_same : (u t : TypeId) → IsMainType T t → is_same_type T u t ≡ true → IsMainType T u
  unfolding is_same_type
  main_same u t m h =
      main_alike u m.result (shape_at T u) refl m.int
      (ap (λ (x : TypeShape). same_shape (descend (same_step T) (λ w. false) (length T)) (shape_at T u) x) (sym m.shape) ∙ h)

  main_told : (t : TypeId) → IsMainType T t → is_main T (Some (declared.Function t)) ≡ true
  main_told t m = ap (is_main_shape T) m.shape ∙ ap (λ (x : TypeShape). is_integer_of x 4 true) m.int

placed_below : {A : Type 0} (test : A → Bool) (xs : List A) → list_any test xs ≡ true → position_or_len test xs < length xs
placed_below test [] h = no_true h
placed_below {A = A} test (x ∷ xs) h = by (test x) refl h (placed_below test xs)
  where
    by : (b : Bool) → test x ≡ b → (b || list_any test xs) ≡ true → (list_any test xs ≡ true → position_or_len test xs < length xs) → position_or_len test (x ∷ xs) < length (x ∷ xs)
    by true q g rest = rw q (omega arith)
    by false q g rest = let below = rest g in rw q (omega (arith, below))

below_told : (m n : ℕ) → m < n → nat_lt m n ≡ true
below_told m n h = grind (arith, nat_tests)

has_place : (names : List Name) (name : Name) → is_one_of names name ≡ true → has_some (place_among names name) ≡ true
has_place names name h =
    ap (λ (b : Bool). has_some (if b then Some (position_or_len (bytes_eq name) names) else None))
    (below_told (position_or_len (bytes_eq name) names) (length names) (placed_below (bytes_eq name) names h))

or_true : (a b : Bool) → b ≡ true → (a || b) ≡ true
or_true true b h = refl
or_true false b h = h

each_named : (fs : List DefinedFunction) → All (λ (f : DefinedFunction). is_one_of (map name_in_bytes fs) (name_in_bytes f) ≡ true) fs
each_named [] = All-nil (λ (f : DefinedFunction). is_one_of (map name_in_bytes []) (name_in_bytes f) ≡ true)
each_named (g ∷ fs) =
    All-cons (λ (f : DefinedFunction). is_one_of (map name_in_bytes (g ∷ fs)) (name_in_bytes f) ≡ true) g fs
    (ap (λ (b : Bool). b || is_one_of (map name_in_bytes fs) (name_in_bytes g)) ((bytes_eq-Decides (name_in_bytes g) (name_in_bytes g)).1 refl))
    (All-weaker (λ (f : DefinedFunction). is_one_of (map name_in_bytes fs) (name_in_bytes f) ≡ true) (λ (f : DefinedFunction). is_one_of (map name_in_bytes (g ∷ fs)) (name_in_bytes f) ≡ true)
    (λ f. or_true (bytes_eq (name_in_bytes f) (name_in_bytes g)) (is_one_of (map name_in_bytes fs) (name_in_bytes f))) fs (each_named fs))

named_there : (fs : List DefinedFunction) (f : DefinedFunction) (name : Name) → Contains fs f → name_in_bytes f ≡ name → is_one_of (map name_in_bytes fs) name ≡ true
named_there fs f name c e =
    subst (λ (n : Name). is_one_of (map name_in_bytes fs) n ≡ true) e
    (All-contains (λ (g : DefinedFunction). is_one_of (map name_in_bytes fs) (name_in_bytes g) ≡ true) fs f (each_named fs) c)

-- where there is a `main`, it is found
main_found : (u : tree.TranslationUnit) (whole : TypedTranslationUnit) (r : UnitState) → IsWholeJudged u whole (before_unit u) r → IsUnitKnown r → HasMain r.table whole
    → (is_main r.table (entry_of r.linkage.linked (codes "main")) && has_some (place_among r.seen.scopes.defined (codes "main"))) ≡ true
main_found u whole r w k h =
    let T = r.table in
    let t : TypeId = declared_type h.main.declarator in
    let here = All-contains (IsFunctionHere r) (functions_of whole) h.main w.functions h.there in
    let own : IsMainType T t = record { result = h.result; shape = h.shape.1; int = h.gives.1 } in
    let first : IsMainType T here.0.first = elim here.0.same [
      | inl e ↦ subst (IsMainType T) (sym e) own
      | inr e ↦ main_same T here.0.first t own e
    ] in
    let found : entry_of r.linkage.linked (codes "main") ≡ Some (declared.Function here.0.first) = ap (entry_of r.linkage.linked) (sym h.named) ∙ here.0.found in
    and_true (is_main T (entry_of r.linkage.linked (codes "main"))) (has_some (place_among r.seen.scopes.defined (codes "main")))
    (ap (is_main T) found ∙ main_told T here.0.first first)
    (has_place r.seen.scopes.defined (codes "main") (ap (λ (names : List Name). is_one_of names (codes "main")) (same_functions u whole r w k)
    ∙ named_there (functions_of whole) h.main (codes "main") h.there h.named))

failed : (b : Bool) (f g : Fault) → (if b then Some f else None) ≡ Some g → (b ≡ true) × (f ≡ g)
failed true f g h = (refl, some-same f g h)
failed false f g h = absurd (none-some g h)

not_both : (b : Bool) → not b ≡ true → b ≡ true → ⊥
not_both true h g = no_true h
not_both false h g = no_true g

-- Units

module _ (p : Place) (t : Rule) where
  pub parts-stopped : (u : tree.TranslationUnit) (s r : UnitState) → IsUnitKnown s → judge_unit u s ≡ Stops (Refused p t) r
      → IsStopped (λ T. RefusesParts T u (known_of s) (Refused p t)) s r
  unfolding judge_unit
  parts-stopped tree.NoExternal s r k h = never-stops typed.NoExternal (Refused p t) s r h
  parts-stopped (tree.AndExternal u d) s r k h =
      let P : Table → Type 0 = λ T. RefusesParts T (tree.AndExternal u d) (known_of s) (Refused p t) in
      stopped-step p t (judge_unit u s) (λ list. λ m. next (judge_declaration true d m) (λ one. pure (typed.AndExternal list one))) P s r
      (λ q. stopped-as p t (λ T. RefusesParts T u (known_of s) (Refused p t)) P s r (λ x f. inl f) (parts-stopped u s r k q))
      (λ list m q g.
      let j = (unit-judged u list s m k q).judged in
      stopped-after p t P s m r j.goes.goes.extends
      (stopped-step p t (judge_declaration true d m) (λ one. pure (typed.AndExternal list one)) P m r
      (λ y. stopped-as p t (λ T. RefusesDeclaration T true d (known_of m) (Refused p t)) P m r (λ x f. inr (list, known_of m, j.typed r.table x, j.erases, f))
      (declaration-stopped p t true d m r j.goes.known y))
      (λ one n y z. never-stops (typed.AndExternal list one) (Refused p t) n r z) g)) h
  parts-stopped (tree.AndFunctionBody u specifiers d brace items) s r k h =
      let P : Table → Type 0 = λ T. RefusesParts T (tree.AndFunctionBody u specifiers d brace items) (known_of s) (Refused p t) in
      stopped-step p t (judge_unit u s) (λ list. judge_definition list specifiers d brace items) P s r
      (λ q. stopped-as p t (λ T. RefusesParts T u (known_of s) (Refused p t)) P s r (λ x f. inl f) (parts-stopped u s r k q))
      (λ list m q g.
      let j = (unit-judged u list s m k q).judged in
      stopped-after p t P s m r j.goes.goes.extends
      (stopped-as p t (λ T. RefusesDefinition T specifiers d items (known_of m) (Refused p t)) P m r (λ x f. inr (list, known_of m, j.typed r.table x, j.erases, f))
      (definition-stopped p t list specifiers d brace items m r j.goes.known g))) h

  pub whole-stopped : (u : tree.TranslationUnit) (r : UnitState) → judged_unit u ≡ Stops (Refused p t) r → RefusesUnit r.table u (known_of (before_unit u)) (Refused p t)
  unfolding judge_whole
  whole-stopped u r h =
      let s = before_unit u in
      let P : Table → Type 0 = λ T. RefusesUnit T u (known_of s) (Refused p t) in
      let all = stopped-step p t (judge_unit u s) (λ v. obeying main_tests (pure v)) P s r
      (λ q. stopped-as p t (λ T. RefusesParts T u (known_of s) (Refused p t)) P s r (λ x f. inl f) (parts-stopped u s r (before-known u) q))
      (λ whole m q g.
      let w = unit-judged u whole s m (before-known u) q in
      let both = is_main m.table (entry_of m.linkage.linked (codes "main")) && has_some (place_among m.seen.scopes.defined (codes "main")) in
      stopped-after p t P s m r w.judged.goes.goes.extends
      (stopped-rules p t main_tests (pure whole) P m r
      (λ f.
      let no = failed (not both) (Refused start_of_text rule.NoMain) (Refused p t) f in
      inr (record {
        typed = whole;
        after = known_of m;
        well = w.judged.typed m.table (extended_refl m.table);
        erases = w.judged.erases;
        without = λ main. not_both both no.0 (main_found u whole m w w.judged.goes.known main);
        fault = sym no.1;
      }))
      (λ n y. never-stops whole (Refused p t) m r y) g)) h in
      all.fails
