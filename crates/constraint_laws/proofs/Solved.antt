-- A map meets the constraints of a program exactly where it is a solution of the program.
use Rattle.std.proofs.Common.{◌≡◌, ℕ, zero, suc, Bool, true, false, ◌||◌, List, [], ◌∷◌, refl, ap, sym, ◌∙◌, inl, inr, ◌⊎◌, ◌==◌, true≢false, arith}
use Rattle.std.specs.Prelude.{◌↔◌, IsTrue}
use Rattle.std.specs.List.{Contains, list_any}
use Rattle.std.proofs.lemmas.Bool.Decides.{Decides-eqb}
use Rattle.cc_base.specs.declared.number.TypeId.{TypeId}
use Rattle.cc_base.specs.declared.number.NodeId.{NodeId}
use Rattle.cc_base.specs.declared.place.Place.{Place}
use Rattle.cc_base.specs.declared.kind.Kind.{Kind}
use Rattle.kind_sites.specs.declared.site.Site.{Site}
use Rattle.kind_sites.specs.declared.site.Site.TheVariants as site
use Rattle.c_types.specs.Table.{Table}
use Rattle.c_types.specs.Equality.{strictly_below}
use Rattle.c_types.specs.Flows.{HeldPointer, flow_class, CorrespondInFlow, CorrespondByPlace, HaveEqualKinds}
use Rattle.c_types.specs.Contents.{HoldsMixed}
use Rattle.kind_sites.specs.Solutions.{allows, HasBelow, IsAllowed, IsFlowAllowed, IsPointeeAllowed, IsHomeAllowed, SpreadsWild, IsWildWhereMixed, IsUnionAllowed, IsSolution}
use Rattle.c_types.proofs.Lists.{contains_head, contains_tail}
use Rattle.kind_solver.specs.declared.constraint.Constraint.{Constraint}
use Rattle.kind_solver.specs.declared.constraint.Constraint.TheVariants.{Flow, Needs, Equal, Inside, Linked, Force, Plain}
use Rattle.kind_solver.specs.declared.constraint.Why.TheVariants as why
use Rattle.kind_solver.specs.Constraints.{Meets, MeetsAll}
use Rattle.phys_types.specs.Pairs.{HaveNodes}
use Rattle.constraint_laws.specs.Given.{HasContents, AreOfOneCell, in_flow, declared, in_union, IsGiven, AreGiven}

-- `below` is computed

below_of : Table → TypeId → Site → Bool
below_of table t (site.Pointee n u) = strictly_below table u t
below_of table t other = false

abbrev below_in : Table → List Site → TypeId → Bool
below_in table sites t = list_any (below_of table t) sites

head-or-tail : {X : Type 0} (x : X) (xs : List X) (y : X) → Contains (x ∷ xs) y → (x ≡ y) ⊎ Contains xs y
head-or-tail x xs y (zero, l, e) = inl e
head-or-tail x xs y (suc i, l, e) = inr (i, omega (arith, l), e)

or-left : (a b : Bool) → a ≡ true → (a || b) ≡ true
or-left a b h = ap (λ x. x || b) h

or-right : (a b : Bool) → b ≡ true → (a || b) ≡ true
or-right true b h = refl
or-right false b h = h

either : (a b : Bool) → (a || b) ≡ true → (a ≡ true) ⊎ (b ≡ true)
either true b h = inl refl
either false b h = inr h

pub any-true : {X : Type 0} (f : X → Bool) (xs : List X) (x : X) → Contains xs x → f x ≡ true → list_any f xs ≡ true
any-true f [] x c h = absurd (omega (arith, c.1))
any-true f (y ∷ ys) x c h = elim (head-or-tail y ys x c) [
  | inl e ↦ or-left (f y) (list_any f ys) (ap f e ∙ h)
  | inr k ↦ or-right (f y) (list_any f ys) (any-true f ys x k h)
]

pub true-any : {X : Type 0} (f : X → Bool) (xs : List X) → list_any f xs ≡ true → (x : X) × Contains xs x × (f x ≡ true)
true-any f [] h = absurd (true≢false (sym h))
true-any f (y ∷ ys) h = elim (either (f y) (list_any f ys) h) [
  | inl e ↦ (y, contains_head y ys, e)
  | inr k ↦ let r = true-any f ys k in (r.0, contains_tail y ys r.0 r.1, r.2)
]

below-is : (table : Table) (sites : List Site) (t : TypeId) → IsTrue (below_in table sites t) ↔ HasBelow table sites t
unfolding below_of
below-is table sites t = (
  λ h. let r = true-any (below_of table t) sites h in by r.0 r.1 r.2,
  λ b. any-true (below_of table t) sites (site.Pointee b.node b.pointee) b.site b.below,
)
  where
    by : (s : Site) → Contains sites s → below_of table t s ≡ true → HasBelow table sites t
    by (site.Pointee n u) c h = record { node = n; pointee = u; site = c; below = h }
    by (site.Flow from x to y place) c h = absurd (true≢false (sym h))
    by (site.Arith n place) c h = absurd (true≢false (sym h))
    by (site.Integer n place) c h = absurd (true≢false (sym h))
    by (site.Linked a b) c h = absurd (true≢false (sym h))
    by (site.Same x y) c h = absurd (true≢false (sym h))
    by (site.Home n x) c h = absurd (true≢false (sym h))
    by (site.Union x place) c h = absurd (true≢false (sym h))

pub one-answer : (a b : Bool) (P : Type 0) → IsTrue a ↔ P → IsTrue b ↔ P → a ≡ b
one-answer true true P f g = refl
one-answer true false P f g = absurd (true≢false (sym (g.1 (f.0 refl))))
one-answer false true P f g = absurd (true≢false (sym (f.1 (g.0 refl))))
one-answer false false P f g = refl

one-node : (m n : NodeId) → (m ≡ n) ⊎ (m ≡ n → ⊥)
one-node m n = by (m.0 == n.0) refl
  where
    by : (b : Bool) → (m.0 == n.0) ≡ b → (m ≡ n) ⊎ (m ≡ n → ⊥)
    by true h = inl (ap (λ (k : ℕ). record { 0 = k }) ((Decides-eqb m.0 n.0).0 h))
    by false h = inr (λ e. true≢false (sym ((Decides-eqb m.0 n.0).1 (ap (λ (k : NodeId). k.0) e)) ∙ h))

module _ (table : Table) (sites : List Site) (list : List Constraint) (given : AreGiven table sites list) (kind : NodeId → Kind) where
  -- From the list to the sites

  module _ (meets : MeetsAll kind list) where
    met : (c : Constraint) → IsGiven table sites c → Meets kind c
    met c g = meets c ((given c).1 g)

    equal-met : (R : HeldPointer → HeldPointer → Type 0) → ((a b : NodeId) → HaveNodes R a b → AreOfOneCell table sites a b) → HaveEqualKinds kind R
    equal-met R one p q r = elim (one-node p.node q.node) [
      | inl e ↦ ap kind e
      | inr d ↦ met (Equal p.node q.node) (one p.node q.node (record { p = p; q = q; related = r; first = refl; second = refl }), d)
    ]

    spreads-met : (n : NodeId) (t : TypeId) → HasContents sites n t → SpreadsWild table kind n t
    spreads-met n t c wild p h = met (Inside n p.node) (t, c, (p, h, refl)) wild

    module _ (unions : (t v : TypeId) → HoldsMixed table t v → (place : Place) × Contains sites (site.Union v place)) where
      mixed-met : (n : NodeId) (t : TypeId) → HasContents sites n t → IsWildWhereMixed table kind n t
      mixed-met n t c v h = let u = unions t v h in met (Force n why.Union u.0) (t, v, c, h, u.1)

      allowed : (s : Site) → Contains sites s → IsAllowed table sites kind s
      allowed (site.Flow from t to u place) c = record {
        below = below_in table sites t;
        tells = below-is table sites t;
        allowed = met (Flow from to (flow_class table t u) (below_in table sites t) place) (t, u, c, refl, below-is table sites t);
        equal = equal-met (CorrespondInFlow table t u) (λ a b r. in_flow from to t u place c r);
      }
      allowed (site.Arith n place) c = met (Needs n why.Arith place) c
      allowed (site.Integer n place) c = met (Needs n why.Integer place) c
      allowed (site.Linked a b) c = met (Linked a b) c
      allowed (site.Same t u) c = equal-met (CorrespondByPlace table t u) (λ a b r. declared t u c r)
      allowed (site.Pointee n t) c = record {
        spreads = spreads-met n t (inl c);
        mixed = mixed-met n t (inl c);
        function = λ f. met (Plain n) (inr (t, c, f));
      }
      allowed (site.Home n t) c = record { spreads = spreads-met n t (inr c); mixed = mixed-met n t (inr c); plain = met (Plain n) (inl (t, c)) }
      allowed (site.Union v place) c = λ f u m k l. equal-met (CorrespondByPlace table u m) (λ a b r. in_union v u m place c f k l r)

  -- And back

  module _ (solution : IsSolution table sites kind) where
    equal-told : (R : HeldPointer → HeldPointer → Type 0) → HaveEqualKinds kind R → (a b : NodeId) → HaveNodes R a b → kind a ≡ kind b
    equal-told R e a b h = ap kind (sym h.first) ∙ e h.p h.q h.related ∙ ap kind h.second

    cell-told : (a b : NodeId) → AreOfOneCell table sites a b → kind a ≡ kind b
    cell-told a b (in_flow m n t u place c r) =
        let f : IsFlowAllowed table sites kind m t n u = solution.each (site.Flow m t n u place) c in equal-told (CorrespondInFlow table t u) f.equal a b r
    cell-told a b (declared t u c r) =
        let f : HaveEqualKinds kind (CorrespondByPlace table t u) = solution.each (site.Same t u) c in equal-told (CorrespondByPlace table t u) f a b r
    cell-told a b (in_union v u m place c f k l r) =
        let g : IsUnionAllowed table kind v = solution.each (site.Union v place) c in equal-told (CorrespondByPlace table u m) (g f u m k l) a b r

    spreads-told : (n : NodeId) (t : TypeId) → HasContents sites n t → SpreadsWild table kind n t
    spreads-told n t (inl c) = let f : IsPointeeAllowed table kind n t = solution.each (site.Pointee n t) c in f.spreads
    spreads-told n t (inr c) = let f : IsHomeAllowed table kind n t = solution.each (site.Home n t) c in f.spreads

    mixed-told : (n : NodeId) (t : TypeId) → HasContents sites n t → IsWildWhereMixed table kind n t
    mixed-told n t (inl c) = let f : IsPointeeAllowed table kind n t = solution.each (site.Pointee n t) c in f.mixed
    mixed-told n t (inr c) = let f : IsHomeAllowed table kind n t = solution.each (site.Home n t) c in f.mixed

    meet : (c : Constraint) → IsGiven table sites c → Meets kind c
    meet (Flow from to class below place) g =
        let f : IsFlowAllowed table sites kind from g.0 to g.1 = solution.each (site.Flow from g.0 to g.1 place) g.2 in
        let same : f.below ≡ below = one-answer f.below below (HasBelow table sites g.0) f.tells g.4 in
        (λ i. allows (kind from) (kind to) (g.3 i) (sym same i)) ∙ f.allowed
    meet (Needs n why.Arith place) g = solution.each (site.Arith n place) g
    meet (Needs n why.Integer place) g = solution.each (site.Integer n place) g
    meet (Needs n why.Down place) g = absurd g
    meet (Needs n why.Tile place) g = absurd g
    meet (Needs n why.Bad place) g = absurd g
    meet (Needs n why.Union place) g = absurd g
    meet (Equal a b) g = cell-told a b g.0
    meet (Inside outer inner) g = λ wild. ap kind (sym g.2.2) ∙ spreads-told outer g.0 g.1 wild g.2.0 g.2.1
    meet (Linked a b) g = solution.each (site.Linked a b) g
    meet (Force n why.Union place) g = mixed-told n g.0 g.2 g.1 g.3
    meet (Force n why.Arith place) g = absurd g
    meet (Force n why.Integer place) g = absurd g
    meet (Force n why.Down place) g = absurd g
    meet (Force n why.Tile place) g = absurd g
    meet (Force n why.Bad place) g = absurd g
    meet (Plain n) (inl g) = let f : IsHomeAllowed table kind n g.0 = solution.each (site.Home n g.0) g.1 in f.plain
    meet (Plain n) (inr g) = let f : IsPointeeAllowed table kind n g.0 = solution.each (site.Pointee n g.0) g.1 in f.function g.2

  pub given-is-solution : ((t v : TypeId) → HoldsMixed table t v → (place : Place) × Contains sites (site.Union v place)) → MeetsAll kind list ↔ IsSolution table sites kind
  given-is-solution unions = (
    λ m. record { each = λ s c. allowed m unions s c },
    λ s c k. meet s c ((given c).0 k),
  )
