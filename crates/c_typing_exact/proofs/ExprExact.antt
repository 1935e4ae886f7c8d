-- An expression that is well typed is not refused, where its parts are not: one step for each form of an expression.
use Rattle.std.proofs.Common.{◌≡◌, Bool, true, false, List, Option, Some, None, refl, ap, sym, subst, ◌∙◌, inl, inr, ◌⊎◌}
use Rattle.cc_base.specs.declared.place.Place.{Place}
use Rattle.cc_base.specs.declared.number.TypeId.{TypeId}
use Rattle.cc_base.specs.declared.fault.Fault.{Fault}
use Rattle.c_types.specs.Table.{Table}
use Rattle.c_tree.specs.declared.leaf.Identifier.{Identifier}
use Rattle.c_tree.specs.declared.operator.Binary.{Binary}
use Rattle.c_tree.specs.declared.operator.Binary.TheVariants as binary
use Rattle.c_tree.specs.declared.operator.MemberOperator.TheVariants as member
use Rattle.c_tree.specs.declared.operator.Step.{Step}
use Rattle.c_tree.specs.declared.operator.Unary.{Unary}
use Rattle.c_tree.specs.declared.operator.Unary.TheVariants as unary
use Rattle.c_tree.specs.declared.typed_word.Side.{Side}
use Rattle.c_tree.specs.declared.typed_word.Side.TheVariants as side
use Rattle.c_tree.specs.Erasure.{erased}
use Rattle.c_tree.specs.Places.{expr_place}
use Rattle.c_tree.specs.Tree as tree
use Rattle.c_tree.specs.TypedTree as typed
use Rattle.c_tree.specs.TypedTree.{TypedExpr, TypedPlace, TypedArguments, TypedTypeName}
use Rattle.c_tree.specs.TypedParts.{place_type}
use Rattle.runtime_calls.specs.Prototypes.{runtime_of}
use Rattle.c_typing.specs.Conversions.{bare, IsPlain, is_allocation, is_taken_over, is_droppable}
use Rattle.c_typing.specs.Refusals.{Fails, member_shape_tests}
use Rattle.c_typing.specs.Rules.{is_designator, is_made_of_place, runtime_named, HasMember, IsMemberAt, IsElement, IsPrefix}
use Rattle.c_typing.specs.Scopes.{Scopes}
use Rattle.c_typing.specs.Settled.{IsBasic, IsAlike}
use Rattle.c_typing.specs.Tests.{Elaborated, AsPlace, AsValue, Test, has_some, name_tests, index_tests, step_tests, prefix_tests, target_tests, address_tests, size_tests, infix_tests}
use Rattle.c_typing_unique.specs.Points.{Point, HasOwn, IsRead, IsReadPlace}
use Rattle.c_typing_unique.proofs.OperatorLaws.{Sort, ByArithmetic, ByMove, ByDifference, ByComparison, ByLogic, IsInfix, sort_of, shape_of, bare-plain, prefix-plain}
use Rattle.c_typing_unique.proofs.Reading.{Part, OfValue, OfPlace, IsPartRead, IsStanding, standing, bare-value, bare-read, plain-bare, plain-over}
use Rattle.c_typing_unique.proofs.Readings.{is-of, Both, IsNamed, variable, enumerator, defined, library, in_parens, IsAddressed, of-place, of-element, of-function, IsPointed, to-function, to-object, IsSized, of-object, of-value, IsTypeNameRead}
use Rattle.c_typing_unique.proofs.Shapes.{no_true}
use Rattle.c_typing_exact.specs.Numbered.{RefusesAt, RefusesTypeNameAt, AfterPart, AfterValue, part_of}
use Rattle.c_typing_exact.specs.Passing.{Passes}
use Rattle.c_typing_exact.proofs.DeclaratorPasses.{passes-fails}
use Rattle.c_typing_exact.proofs.InfixPasses.{infix-by, arithmetic-passes, moved-passes, difference-passes, compared-passes, logical-passes}
use Rattle.c_typing_exact.proofs.OperatorPasses.{index-passes, target-passes, function-passes, prefix-passes, behind_lvalue, address-passes, designator-passes, place-size-passes, value-size-passes, step-passes, dot-passes, arrow-passes}
use Rattle.c_typing_exact.proofs.NamePasses.{variable-passes, enumerator-passes, function-name-passes, runtime-name-passes}
use Rattle.c_typing_exact.proofs.SameParts.{plain_runtime, part_value, part_block, IsSame, same-alike, after-part, after-place, after-value}

-- a part that is not called is no runtime function
abbrev pub IsCallable : Bool → Part → Type 0
IsCallable true y = Unit {0}
IsCallable false (OfValue v) = runtime_named v ≡ None
IsCallable false (OfPlace p) = Unit {0}

-- a well typed tree of the expression is not refused
abbrev pub IsExact : Table → tree.Expr → Type 0
IsExact T e = (called : Bool) (y : Part) (a b : Point) (f : Fault) → IsPartRead T e y a b → HasOwn a → IsCallable called y → RefusesAt T called e a f → ⊥

abbrev pub IsNameExact : Table → tree.TypeName → Type 0
IsNameExact T name = (t : TypedTypeName) (a b : Point) (f : Fault) → IsTypeNameRead T name t a b → HasOwn a → RefusesTypeNameAt T name a f → ⊥

some_none : {A P : Type 0} (x : A) → Some x ≡ None → P
some_none {A} x h = absurd (let e : ◌≡◌ {A = Option A} (Some x) None = h in cc)

pub droppable_over : (e : TypedExpr) → is_droppable e ≡ true → (is_taken_over (bare e) ≡ false) × (runtime_named (bare e) ≡ None)
droppable_over (typed.Unread p) h = (refl, refl)
droppable_over (typed.Convert which at t e) h = no_true h
droppable_over e h = (plain-over e h, plain_runtime e h)

module _ (T : Table) (basic : IsBasic T) where
  abbrev Same : Elaborated → TypedExpr → Type 0
  Same = IsSame T basic

  pub value-exact : (e : tree.Expr) → IsExact T e → (v : TypedExpr) (a b : Point) (f : Fault) → IsRead T e v a b → HasOwn a → runtime_named (bare v) ≡ None → RefusesAt T false e a f → ⊥
  value-exact e exact v a b f h own n k = by (standing T e (bare v) a b (bare-value T v a.scopes b.scopes h.1) (bare-read T e v a b h))
    where
      by : IsStanding T e (bare v) a b → ⊥
      by (inl g) = exact false (OfValue (bare v)) a b f g own n k
      by (inr g) = exact false (OfPlace g.0) a g.1 f g.2 own tt k

  pub called-exact : (e : tree.Expr) → IsExact T e → (v : TypedExpr) (a b : Point) (f : Fault) → IsRead T e v a b → HasOwn a → RefusesAt T true e a f → ⊥
  called-exact e exact v a b f h own k = by (standing T e (bare v) a b (bare-value T v a.scopes b.scopes h.1) (bare-read T e v a b h))
    where
      by : IsStanding T e (bare v) a b → ⊥
      by (inl g) = exact true (OfValue (bare v)) a b f g own tt k
      by (inr g) = exact true (OfPlace g.0) a g.1 f g.2 own tt k

  -- Names

  named : (name : Identifier) (called : Bool) (a b : Point) (f : Fault) (y : Part) → IsNamed T name a b y → HasOwn a → IsCallable called y → RefusesAt T called (tree.Name name) a f → ⊥
  named name called a b f _ (variable home t h) own c k =
      passes-fails (name_tests a.scopes (has_some (runtime_of name.bytes)) called name.bytes name.place) f (variable-passes T a.scopes called name home t h) k
  named name called a b f _ (enumerator value t h) own c k =
      passes-fails (name_tests a.scopes (has_some (runtime_of name.bytes)) called name.bytes name.place) f (enumerator-passes T a.scopes called name value t h) k
  named name called a b f _ (defined number n t h m) own c k =
      passes-fails (name_tests a.scopes (has_some (runtime_of name.bytes)) called name.bytes name.place) f (function-name-passes T a.scopes called name number n t own h) k
  named name true a b f _ (library g t h) own c k =
      passes-fails (name_tests a.scopes (has_some (runtime_of name.bytes)) true name.bytes name.place) f (runtime-name-passes T a.scopes true name g t refl h) k
  named name false a b f _ (library g t h) own c k = some_none g c

  pub name-exact : (name : Identifier) → IsExact T (tree.Name name)
  name-exact name called y a b f h own c k = named name called a b f y (is-of T (tree.Name name) y a b h).0 own c k

  -- Parentheses

  callable_inside : (called : Bool) (at : Place) (z : Part) → IsCallable called (in_parens at z) → IsCallable called z
  callable_inside true at z c = tt
  callable_inside false at (OfValue v) c = c
  callable_inside false at (OfPlace p) c = tt

  pub paren-exact : (at : Place) (x : tree.Expr) → IsExact T x → IsExact T (tree.Paren at x)
  paren-exact at x exact called y a b f h own c k =
      let z = is-of T (tree.Paren at x) y a b h in
      exact called z.0 a b f z.1 own (callable_inside called at z.0 (subst (IsCallable called) z.2 c)) k

  -- Two values

  pub two-exact : (x x' : tree.Expr) → IsExact T x → IsExact T x' → (e d : TypedExpr) (a b : Point) (f : Fault) (tests : Elaborated → Elaborated → Scopes → List Test)
      → Both (IsRead T x e) (IsRead T x' d) a b → HasOwn a → IsPlain (bare e) → IsPlain (bare d)
      → ((p q : Elaborated) → IsAlike T p (bare e) → IsAlike T q (bare d) → Passes (tests p q b.scopes))
      → RefusesAt T false x a f ⊎ AfterValue T x a (λ p m. RefusesAt T false x' m f ⊎ AfterPart T x' m (λ q n. Fails (tests p q n.scopes) f)) → ⊥
  two-exact x x' u v e d a b f tests h own pe pd pass (inl k) = value-exact x u e a h.0 f h.1 own (plain_runtime (bare e) pe) k
  two-exact x x' u v e d a b f tests h own pe pd pass (inr k) = by first.3
    where
      Next : Elaborated → Point → Type 0
      Next p m = RefusesAt T false x' m f ⊎ AfterPart T x' m (λ q n. Fails (tests p q n.scopes) f)

      first : (p : Elaborated) × (p ≡ part_of (bare e)) × HasOwn h.0 × (RefusesAt T false x' h.0 f ⊎ AfterPart T x' h.0 (λ q n. Fails (tests p q n.scopes) f))
      first =
          after-value T basic x e a h.0 (λ p m. RefusesAt T false x' m f ⊎ AfterPart T x' m (λ q n. Fails (tests p q n.scopes) f)) h.1 own (plain-over (bare e) pe) k

      by : RefusesAt T false x' h.0 f ⊎ AfterPart T x' h.0 (λ q n. Fails (tests first.0 q n.scopes) f) → ⊥
      by (inl r) = value-exact x' v d h.0 b f h.2 first.2 (plain_runtime (bare d) pd) r
      by (inr r) =
          after-part T basic x' d h.0 b f (λ q s. tests first.0 q s) h.2 first.2
          (λ q same. pass first.0 q (same-alike T basic first.0 e a.scopes h.0.scopes h.1.1 (plain-over (bare e) pe) (inl first.1))
          (same-alike T basic q d h.0.scopes b.scopes h.2.1 (plain-over (bare d) pd) same)) r

  pub index-exact : (x : tree.Expr) (at : Place) (x' : tree.Expr) → IsExact T x → IsExact T x' → IsExact T (tree.Index x at x')
  index-exact x at x' u v called y a b f h own c k =
      let z = is-of T (tree.Index x at x') y a b h in
      let plain = element_plain z.0 z.1 z.2 z.3 z.5 in
      two-exact x x' u v z.1 z.2 a b f (λ p q s. index_tests T s at p q) z.4 own plain.0 plain.1 (λ p q pa qa. index-passes T b.scopes z.0 at z.1 z.2 z.3 p q z.5 pa qa) k
    where
      element_plain : (which : Side) (e d : TypedExpr) (t : TypeId) → IsElement T b.scopes which e d t → IsPlain (bare e) × IsPlain (bare d)
      element_plain side.Left e d t g = (bare-plain e g.pointer.plain, bare-plain d g.integer.plain)
      element_plain side.Right e d t g = (bare-plain e g.integer.plain, bare-plain d g.pointer.plain)

  is_subtraction : (operator other : Binary) (e d x x' : tree.Expr) (at p : Place) → tree.Infix operator e at d ≡ tree.Infix other x p x' → operator ≡ other
  is_subtraction operator other e d x x' at p h = cc

  infix_passes : (operator : Binary) (x : tree.Expr) (at : Place) (x' : tree.Expr) (begin : Place) (e d : TypedExpr) (y : Part) (a b : Point) (sort : Sort)
      → IsPartRead T (tree.Infix operator x at x') y a b → IsInfix T b.scopes operator e at d y sort
      → (p q : Elaborated) → IsAlike T p (bare e) → IsAlike T q (bare d) → Passes (infix_tests T b.scopes operator at begin p q)
  infix_passes operator x at x' begin e d y a b ByArithmetic r h p q pa qa =
      infix-by T b.scopes operator at begin (bare e) (bare d) p q pa qa (arithmetic-passes T b.scopes operator at begin e d h.0 basic h.1)
  infix_passes operator x at x' begin e d y a b ByMove r h p q pa qa =
      infix-by T b.scopes operator at begin (bare e) (bare d) p q pa qa (moved-passes T b.scopes operator h.0 at begin e d h.1 h.2)
  infix_passes operator x at x' begin e d y a b ByDifference r h p q pa qa =
      let read = subst (λ (w : Part). IsPartRead T (tree.Infix operator x at x') w a b) h.2 r in
      let same : binary.Subtract ≡ operator = is_subtraction binary.Subtract operator (erased e) (erased d) x x' at at read.1.0 in
      infix-by T b.scopes operator at begin (bare e) (bare d) p q pa qa
      (subst (λ (o : Binary). Passes (infix_tests T b.scopes o at begin (AsValue (bare e)) (AsValue (bare d)))) same (difference-passes T b.scopes at begin e d h.0 h.1))
  infix_passes operator x at x' begin e d y a b ByComparison r h p q pa qa =
      infix-by T b.scopes operator at begin (bare e) (bare d) p q pa qa (compared-passes T b.scopes operator at begin e d h.0 h.1)
  infix_passes operator x at x' begin e d y a b ByLogic r h p q pa qa =
      infix-by T b.scopes operator at begin (bare e) (bare d) p q pa qa (logical-passes T b.scopes operator at begin e d h.0 h.1)

  pub infix-exact : (operator : Binary) (x : tree.Expr) (at : Place) (x' : tree.Expr) → IsExact T x → IsExact T x' → IsExact T (tree.Infix operator x at x')
  infix-exact operator x at x' u v called y a b f h own c k =
      let z = is-of T (tree.Infix operator x at x') y a b h in
      two-exact x x' u v z.0 z.1 a b f (λ p q s. infix_tests T s operator at (expr_place x) p q) z.2 own z.3 z.4
      (infix_passes operator x at x' (expr_place x) z.0 z.1 y a b (sort_of operator (shape_of T (bare z.0)) (shape_of T (bare z.1))) h z.5) k

  -- Members and steps

  pub place-exact : (e : tree.Expr) → IsExact T e → (p : TypedPlace) (a b : Point) (f : Fault) → IsReadPlace T e p a b → HasOwn a → RefusesAt T false e a f → ⊥
  place-exact e exact p a b f h own k = exact false (OfPlace p) a b f h own tt k

  -- an operation on a place alone
  pub on-place : (x : tree.Expr) → IsExact T x → (p : TypedPlace) (a b : Point) (f : Fault) (tests : Elaborated → Scopes → List Test) → IsReadPlace T x p a b → HasOwn a
      → Passes (tests (AsPlace p) b.scopes) → RefusesAt T false x a f ⊎ AfterPart T x a (λ q n. Fails (tests q n.scopes) f) → ⊥
  on-place x u p a b f tests h own pass (inl k) = place-exact x u p a b f h own k
  on-place x u p a b f tests h own pass (inr k) =
      passes-fails (tests (AsPlace p) b.scopes) f pass (after-place T basic x p a b (λ q n. Fails (tests q n.scopes) f) h own k).1

  -- and on a value alone
  pub on-value : (x : tree.Expr) → IsExact T x → (e : TypedExpr) (a b : Point) (f : Fault) (tests : Elaborated → Scopes → List Test) → IsRead T x e a b → HasOwn a
      → runtime_named (bare e) ≡ None → ((q : Elaborated) → Same q (bare e) → Passes (tests q b.scopes))
      → RefusesAt T false x a f ⊎ AfterPart T x a (λ q n. Fails (tests q n.scopes) f) → ⊥
  on-value x u e a b f tests h own n pass (inl k) = value-exact x u e a b f h own n k
  on-value x u e a b f tests h own n pass (inr k) = after-part T basic x e a b f tests h own pass k

  pub dot-exact : (x : tree.Expr) (at : Place) (name : Identifier) → IsExact T x → IsExact T (tree.Member x member.Dot at name)
  dot-exact x at name u called y a b f h own c k =
      let z = is-of T (tree.Member x member.Dot at name) y a b h in
      let m : Point = z.4.0 in
      let has : HasMember T m.scopes (place_type z.0) name z.1 z.3 = subst (λ (s : Scopes). HasMember T s (place_type z.0) name z.1 z.3) (sym z.4.2) z.5 in
      on-place x u z.0 a m f (λ q s. member_shape_tests T member.Dot s q at name) z.4.1 own (dot-passes T m.scopes at z.0 name z.1 z.3 has) k

  pub arrow-exact : (x : tree.Expr) (at : Place) (name : Identifier) → IsExact T x → IsExact T (tree.Member x member.Arrow at name)
  arrow-exact x at name u called y a b f h own c k =
      let z = is-of T (tree.Member x member.Arrow at name) y a b h in
      let m : Point = z.4.0 in
      let has : IsMemberAt T m.scopes z.0 name z.1 z.3 = subst (λ (s : Scopes). IsMemberAt T s z.0 name z.1 z.3) (sym z.4.2) z.5 in
      let plain = bare-plain z.0 has.pointer.plain in
      on-value x u z.0 a m f (λ q s. member_shape_tests T member.Arrow s q at name) z.4.1 own (plain_runtime (bare z.0) plain)
      (λ q same. arrow-passes T m.scopes at z.0 name z.1 z.3 q has (same-alike T basic q z.0 a.scopes m.scopes z.4.1.1 (plain-over (bare z.0) plain) same)) k

  pub postfix-exact : (x : tree.Expr) (operator : Step) (at : Place) → IsExact T x → IsExact T (tree.Postfix x operator at)
  postfix-exact x operator at u called y a b f h own c k =
      let z = is-of T (tree.Postfix x operator at) y a b h in
      let read = subst (λ (w : Part). IsPartRead T (tree.Postfix x operator at) w a b) z.2 h in
      on-place x u z.0 a b f (λ q s. step_tests T s at q) z.1 own (step-passes T b.scopes at z.0 read.1.1.1) k

  -- Operators of one operand

  designator_own : (e : TypedExpr) → is_designator e ≡ true → (runtime_named e ≡ None) × (is_allocation e ≡ false) × (is_made_of_place e ≡ false) × (bare e ≡ e)
  designator_own (typed.FunctionName name number n t) h = (refl, refl, refl, refl)
  designator_own (typed.FunctionAt at e) h = (refl, refl, refl, refl)
  designator_own (typed.Paren at e) h = let r = designator_own e h in (r.0, r.1, refl, refl)
  designator_own e h = no_true h

  addressed : (x : tree.Expr) (at : Place) (a b : Point) (y : Part) (f : Fault) → IsExact T x → IsAddressed T x at a b y → HasOwn a
      → RefusesAt T false x a f ⊎ AfterPart T x a (λ q n. Fails (address_tests at q) f) → ⊥
  addressed x at a b _ f u (of-place p n t w g) own k = on-place x u p a w.0 f (λ q s. address_tests at q) w.1 own (address-passes at p g.lvalue) k
  addressed x at a b _ f u (of-element p t w g) own k = on-place x u p a b f (λ q s. address_tests at q) w own (address-passes at p (behind_lvalue p g.pointer g.behind)) k
  addressed x at a b _ f u (of-function e w g) own k =
      let r = designator_own e g in
      on-value x u e a b f (λ q s. address_tests at q) w own (ap runtime_named r.3 ∙ r.0) pass k
    where
      pass : (q : Elaborated) → Same q (bare e) → Passes (address_tests at q)
      pass q (inl s) =
          let r = designator_own e g in
          subst (λ (z : Elaborated). Passes (address_tests at z)) (sym (s ∙ ap part_of r.3 ∙ part_value e r.2 r.1)) (designator-passes at e g)
      pass q (inr s) = let r = designator_own e g in no_true (sym (ap is_allocation r.3 ∙ r.1) ∙ s.2)

  pointed : (x : tree.Expr) (at : Place) (a b : Point) (y : Part) (f : Fault) → IsExact T x → IsPointed T x at a b y → HasOwn a
      → RefusesAt T false x a f ⊎ AfterPart T x a (λ q n. Fails (target_tests T n.scopes at q) f) → ⊥
  pointed x at a b _ f u (to-function e w g) own k =
      let plain = bare-plain e g.pointer.plain in
      on-value x u e a b f (λ q s. target_tests T s at q) w own (plain_runtime (bare e) plain)
      (λ q same. function-passes T b.scopes at e q g (same-alike T basic q e a.scopes b.scopes w.1 (plain-over (bare e) plain) same)) k
  pointed x at a b _ f u (to-object e t w g) own k =
      let plain = bare-plain e g.pointer.plain in
      on-value x u e a b f (λ q s. target_tests T s at q) w own (plain_runtime (bare e) plain)
      (λ q same. target-passes T b.scopes at e t q g (same-alike T basic q e a.scopes b.scopes w.1 (plain-over (bare e) plain) same)) k

  sized : (x : tree.Expr) (at : Place) (a b : Point) (y : Part) (f : Fault) → IsExact T x → IsSized T x at a b y → HasOwn a
      → RefusesAt T false x a f ⊎ AfterPart T x a (λ q n. Fails (size_tests T n.scopes at q) f) → ⊥
  sized x at a b _ f u (of-object p size t w g) own k = on-place x u p a b f (λ q s. size_tests T s at q) w own (place-size-passes T b.scopes at p size t g) k
  sized x at a b _ f u (of-value e size t w alone g) own k =
      on-value x u e a b f (λ q s. size_tests T s at q) w own (plain_runtime (bare e) (bare-plain e alone.plain)) pass k
    where
      own_bare : bare e ≡ e
      own_bare = plain-bare e alone.plain

      at_part : (c : Bool) → is_allocation e ≡ c → Passes (size_tests T b.scopes at (part_of e))
      at_part true s = subst (λ (z : Elaborated). Passes (size_tests T b.scopes at z)) (sym (part_block e s)) refl
      at_part false s = subst (λ (z : Elaborated). Passes (size_tests T b.scopes at z)) (sym (part_value e alone.value s)) (value-size-passes T b.scopes at e size t alone.no_function g)

      pass : (q : Elaborated) → Same q (bare e) → Passes (size_tests T b.scopes at q)
      pass q (inl s) = subst (λ (z : Elaborated). Passes (size_tests T b.scopes at z)) (sym (s ∙ ap part_of own_bare)) (at_part (is_allocation e) refl)
      pass q (inr s) = subst (λ (z : Elaborated). Passes (size_tests T b.scopes at z)) (sym s.1) refl

  arithmetic_prefix : (operator : Unary) (x : tree.Expr) (at : Place) (a b : Point) (f : Fault) → IsExact T x → (e : TypedExpr) (t : TypeId) → IsRead T x e a b → IsPrefix operator T at e t → HasOwn a
      → RefusesAt T false x a f ⊎ AfterPart T x a (λ q n. Fails (prefix_tests T n.scopes operator at q) f) → ⊥
  arithmetic_prefix operator x at a b f u e t w g own k =
      let plain = prefix-plain operator T at e t g in
      on-value x u e a b f (λ q s. prefix_tests T s operator at q) w own (plain_runtime (bare e) plain)
      (λ q same. prefix-passes operator T b.scopes at e t q g (same-alike T basic q e a.scopes b.scopes w.1 (plain-over (bare e) plain) same)) k

  pub prefix-exact : (operator : Unary) (at : Place) (x : tree.Expr) → IsExact T x → IsExact T (tree.Prefix operator at x)
  prefix-exact unary.AddressOf at x u called y a b f h own c k = addressed x at a b y f u (is-of T (tree.Prefix unary.AddressOf at x) y a b h) own k
  prefix-exact unary.Dereference at x u called y a b f h own c k = pointed x at a b y f u (is-of T (tree.Prefix unary.Dereference at x) y a b h) own k
  prefix-exact unary.SizeOf at x u called y a b f h own c k = sized x at a b y f u (is-of T (tree.Prefix unary.SizeOf at x) y a b h) own k
  prefix-exact unary.Increment at x u called y a b f h own c k =
      let z = is-of T (tree.Prefix unary.Increment at x) y a b h in
      let read = subst (λ (w : Part). IsPartRead T (tree.Prefix unary.Increment at x) w a b) z.2 h in
      on-place x u z.0 a b f (λ q s. step_tests T s at q) z.1 own (step-passes T b.scopes at z.0 read.1.1.1) k
  prefix-exact unary.Decrement at x u called y a b f h own c k =
      let z = is-of T (tree.Prefix unary.Decrement at x) y a b h in
      let read = subst (λ (w : Part). IsPartRead T (tree.Prefix unary.Decrement at x) w a b) z.2 h in
      on-place x u z.0 a b f (λ q s. step_tests T s at q) z.1 own (step-passes T b.scopes at z.0 read.1.1.1) k
  prefix-exact unary.Plus at x u called y a b f h own c k =
      let z = is-of T (tree.Prefix unary.Plus at x) y a b h in arithmetic_prefix unary.Plus x at a b f u z.0 z.1 z.2 z.3 own k
  prefix-exact unary.Minus at x u called y a b f h own c k =
      let z = is-of T (tree.Prefix unary.Minus at x) y a b h in arithmetic_prefix unary.Minus x at a b f u z.0 z.1 z.2 z.3 own k
  prefix-exact unary.Complement at x u called y a b f h own c k =
      let z = is-of T (tree.Prefix unary.Complement at x) y a b h in arithmetic_prefix unary.Complement x at a b f u z.0 z.1 z.2 z.3 own k
  prefix-exact unary.Not at x u called y a b f h own c k =
      let z = is-of T (tree.Prefix unary.Not at x) y a b h in arithmetic_prefix unary.Not x at a b f u z.0 z.1 z.2 z.3 own k
