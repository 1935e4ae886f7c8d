-- The expressions of statements have one typed tree: what is tested, dropped, returned, and what labels a case.
use Rattle.std.proofs.Common.{◌≡◌, ℤ, Option, Some, None, refl, ap, sym, subst, ◌∙◌}
use Rattle.cc_base.specs.declared.place.Place.{Place}
use Rattle.cc_base.specs.declared.number.TypeId.{TypeId}
use Rattle.c_types.specs.Table.{Table}
use Rattle.integers.specs.Arithmetic.{converted}
use Rattle.c_tree.specs.Erasure.{erased, erased_optional}
use Rattle.c_tree.specs.Tree as tree
use Rattle.c_tree.specs.TypedTree.{TypedExpr}
use Rattle.c_tree.specs.TypedParts.{made_by, made_by_optional}
use Rattle.c_typing.specs.Constants.{constant_value}
use Rattle.c_typing.specs.Conversions.{bare, IsPlain}
use Rattle.c_typing.specs.Scopes.{Scopes}
use Rattle.c_typing.specs.Typing.{IsTyped}
use Rattle.c_typing_unique.proofs.Numbering.{Numbers, ends}
use Rattle.c_typing_unique.proofs.Reading.{AreAlike, plain-over, value-one}
use Rattle.c_typing_unique.proofs.Shapes.{IsDistinct, some-same}
use Rattle.c_typing_unique.proofs.UniqueTrees.{expr-one}
use Rattle.c_typing_unique.proofs.ValueLaws.{alike-plain, converted-one, droppable-same, plain-alike}
use Rattle.c_unit_typing.specs.Units.{with_scopes, IsDropped, IsTested, IsTestedOrNone, IsReturned, IsLabel}
use Rattle.c_unit_unique.proofs.DeclarationSteps.{Spot, OwnSpot, point_of, spot-same, IsUniqueIn}
use Rattle.c_unit_unique.proofs.HomeLaws.{OwnKnown}

none_expr : {P A : Type 0} (e : A) → None ≡ Some e → P
none_expr {P} {A} e h = absurd (let g : ◌≡◌ {A = Option A} None (Some e) = h in cc)

module _ (T : Table) (D : IsDistinct T) where
  pub with-value : (x : tree.Expr) (e f : TypedExpr) (s r : Scopes) (a b c d : Spot) → erased e ≡ x → erased f ≡ x → IsTyped T e a.known.scopes s → IsTyped T f c.known.scopes r
      → b.known ≡ with_scopes a.known s → d.known ≡ with_scopes c.known r → Numbers (made_by e) a.node b.node → Numbers (made_by f) c.node d.node → a ≡ c → OwnSpot a
      → (AreAlike (bare e) (bare f) → e ≡ f) → (e ≡ f) × (b ≡ d) × OwnSpot b
  with-value x e f s r a b c d p q h k v w n m o own same =
      let one = value-one T D x (expr-one T D x) e f (point_of a) (record { scopes = s; node = b.node }) (point_of c) (record { scopes = r; node = d.node }) (p, h, n) (q, k, m) (ap point_of o) own in
      let scopes = one.1 in
      let known : with_scopes a.known s ≡ with_scopes c.known r = (λ i. with_scopes (o i).known (scopes i)) in
      let value = same one.0 in
      (value, spot-same b d (v ∙ known ∙ sym w) (ends (made_by e) (made_by f) a.node c.node b.node d.node (ap made_by value) (ap (λ (z : Spot). z.node) o) n m), subst OwnKnown (sym v) one.2)

  pub tested-one : (x : tree.Expr) → IsUniqueIn erased made_by (IsTested T) x
  tested-one x e f a b c d h k o own =
      with-value x e f h.1.0 k.1.0 a b c d h.0 k.0 h.1.1 k.1.1 h.1.3 k.1.3 h.2 k.2 o own (λ alike. plain-alike e f alike h.1.2.plain k.1.2.plain)

  optional_same : (e f : TypedExpr) (x : Option tree.Expr) → Some (erased e) ≡ x → Some (erased f) ≡ x → erased e ≡ erased f
  optional_same e f x h k = some-same (erased e) (erased f) (h ∙ sym k)

  pub dropped-one : (x : Option tree.Expr) → IsUniqueIn erased_optional made_by_optional (IsDropped T) x
  dropped-one x None None a b c d h k o own = (refl, spot-same b d (h.1 ∙ ap (λ (z : Spot). z.known) o ∙ sym k.1) (h.2 ∙ ap (λ (z : Spot). z.node) o ∙ sym k.2), subst OwnKnown (sym h.1) own)
  dropped-one x (Some e) (Some f) a b c d h k o own =
      let one = with-value (erased f) e f h.1.0 k.1.0 a b c d (optional_same e f x h.0 k.0) refl h.1.1 k.1.1 h.1.3 k.1.3 h.2 k.2 o own (λ alike. droppable-same e f alike h.1.2 k.1.2) in
      (ap Some one.0, one.1, one.2)
  dropped-one x None (Some f) a b c d h k o own = none_expr (erased f) (h.0 ∙ sym k.0)
  dropped-one x (Some e) None a b c d h k o own = none_expr (erased e) (k.0 ∙ sym h.0)

  pub tested-or-none : (x : Option tree.Expr) → IsUniqueIn erased_optional made_by_optional (IsTestedOrNone T) x
  tested-or-none x None None a b c d h k o own = (refl, spot-same b d (h.1 ∙ ap (λ (z : Spot). z.known) o ∙ sym k.1) (h.2 ∙ ap (λ (z : Spot). z.node) o ∙ sym k.2), subst OwnKnown (sym h.1) own)
  tested-or-none x (Some e) (Some f) a b c d h k o own =
      let one = tested-one (erased f) e f a b c d (optional_same e f x h.0 k.0, h.1, h.2) (refl, k.1, k.2) o own in
      (ap Some one.0, one.1, one.2)
  tested-or-none x None (Some f) a b c d h k o own = none_expr (erased f) (h.0 ∙ sym k.0)
  tested-or-none x (Some e) None a b c d h k o own = none_expr (erased e) (k.0 ∙ sym h.0)

  pub returned-one : (at : Place) (t : TypeId) (x : Option tree.Expr) → IsUniqueIn erased_optional made_by_optional (IsReturned T at t) x
  returned-one at t x None None a b c d h k o own =
      (refl, spot-same b d (h.1.0 ∙ ap (λ (z : Spot). z.known) o ∙ sym k.1.0) (h.2 ∙ ap (λ (z : Spot). z.node) o ∙ sym k.2), subst OwnKnown (sym h.1.0) own)
  returned-one at t x (Some e) (Some f) a b c d h k o own =
      let one = with-value (erased f) e f h.1.0 k.1.0 a b c d (optional_same e f x h.0 k.0) refl h.1.1 k.1.1 h.1.3 k.1.3 h.2 k.2 o own
      (λ alike. converted-one T at at t t e f refl refl (alike-plain (bare e) (bare f) alike (plain-over (bare e) h.1.2.plain) (plain-over (bare f) k.1.2.plain)) h.1.2 k.1.2) in
      (ap Some one.0, one.1, one.2)
  returned-one at t x None (Some f) a b c d h k o own = none_expr (erased f) (h.0 ∙ sym k.0)
  returned-one at t x (Some e) None a b c d h k o own = none_expr (erased e) (k.0 ∙ sym h.0)

  pub label-plain : (on : Option TypeId) (e : TypedExpr) (z : ℤ) → IsLabel T on e z → IsPlain e
  label-plain None e z h = absurd h
  label-plain (Some t) e z h = h.2

  pub label-same : (on : Option TypeId) (e f : TypedExpr) (y z : ℤ) → e ≡ f → IsLabel T on e y → IsLabel T on f z → y ≡ z
  label-same None e f y z value h k = absurd h
  label-same (Some t) e f y z value h k =
      let kind = some-same h.0 k.0 (sym h.3 ∙ k.3) in
      let number = some-same h.1 k.1 (sym h.4 ∙ ap (constant_value T) value ∙ k.4) in
      h.5 ∙ (λ i. converted (kind i) (number i)) ∙ sym k.5
