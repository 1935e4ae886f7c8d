-- The constraints don't depend on the order of the sites.
use Rattle.std.proofs.Common.{List, inl, inr}
use Rattle.std.specs.Prelude.{◌↔◌}
use Rattle.std.specs.List.{Contains}
use Rattle.cc_base.specs.declared.number.TypeId.{TypeId}
use Rattle.cc_base.specs.declared.number.NodeId.{NodeId}
use Rattle.kind_sites.specs.declared.site.Site.{Site}
use Rattle.kind_sites.specs.declared.site.Site.TheVariants as site
use Rattle.c_types.specs.Table.{Table}
use Rattle.kind_sites.specs.Solutions.{HasBelow}
use Rattle.kind_solver.specs.declared.constraint.Constraint.{Constraint}
use Rattle.kind_solver.specs.declared.constraint.Constraint.TheVariants.{Flow, Needs, Equal, Inside, Linked, Force, Plain}
use Rattle.kind_solver.specs.declared.constraint.Why.TheVariants as why
use Rattle.constraint_laws.specs.Given.{HasContents, AreOfOneCell, in_flow, declared, in_union, IsGiven, AreGiven}

module _ (table : Table) (xs ys : List Site) where
  abbrev Into : List Site → List Site → Type 0
  Into l m = (s : Site) → Contains l s → Contains m s

  below-more : (l m : List Site) → Into l m → (t : TypeId) → HasBelow table l t → HasBelow table m t
  below-more l m h t b = record { node = b.node; pointee = b.pointee; site = h (site.Pointee b.node b.pointee) b.site; below = b.below }

  contents-more : (l m : List Site) → Into l m → (n : NodeId) (t : TypeId) → HasContents l n t → HasContents m n t
  contents-more l m h n t (inl c) = inl (h (site.Pointee n t) c)
  contents-more l m h n t (inr c) = inr (h (site.Home n t) c)

  cell-more : (l m : List Site) → Into l m → (a b : NodeId) → AreOfOneCell table l a b → AreOfOneCell table m a b
  cell-more l m h a b (in_flow k n t u place c r) = in_flow k n t u place (h (site.Flow k t n u place) c) r
  cell-more l m h a b (declared t u c r) = declared t u (h (site.Same t u) c) r
  cell-more l m h a b (in_union v u x place c f k e r) = in_union v u x place (h (site.Union v place) c) f k e r

  given-more : (l m : List Site) → Into l m → Into m l → (c : Constraint) → IsGiven table l c → IsGiven table m c
  given-more l m h k (Flow from to class below place) g =
      (g.0, g.1, h (site.Flow from g.0 to g.1 place) g.2, g.3, (λ b. below-more l m h g.0 (g.4.0 b), λ b. g.4.1 (below-more m l k g.0 b)))
  given-more l m h k (Needs n why.Arith place) g = h (site.Arith n place) g
  given-more l m h k (Needs n why.Integer place) g = h (site.Integer n place) g
  given-more l m h k (Needs n why.Down place) g = absurd g
  given-more l m h k (Needs n why.Tile place) g = absurd g
  given-more l m h k (Needs n why.Bad place) g = absurd g
  given-more l m h k (Needs n why.Union place) g = absurd g
  given-more l m h k (Equal a b) g = (cell-more l m h a b g.0, g.1)
  given-more l m h k (Inside outer inner) g = (g.0, contents-more l m h outer g.0 g.1, g.2)
  given-more l m h k (Linked a b) g = h (site.Linked a b) g
  given-more l m h k (Force n why.Union place) g = (g.0, g.1, contents-more l m h n g.0 g.2, g.3, h (site.Union g.1 place) g.4)
  given-more l m h k (Force n why.Arith place) g = absurd g
  given-more l m h k (Force n why.Integer place) g = absurd g
  given-more l m h k (Force n why.Down place) g = absurd g
  given-more l m h k (Force n why.Tile place) g = absurd g
  given-more l m h k (Force n why.Bad place) g = absurd g
  given-more l m h k (Plain n) (inl g) = inl (g.0, h (site.Home n g.0) g.1)
  given-more l m h k (Plain n) (inr g) = inr (g.0, h (site.Pointee n g.0) g.1, g.2)

  -- the constraints are those of whichever list has the same sites
  pub order-of-sites : ((s : Site) → Contains xs s ↔ Contains ys s) → (list : List Constraint) → AreGiven table xs list → AreGiven table ys list
  order-of-sites same list g c = (
    λ i. given-more xs ys (λ s k. (same s).0 k) (λ s k. (same s).1 k) c ((g c).0 i),
    λ i. (g c).1 (given-more ys xs (λ s k. (same s).1 k) (λ s k. (same s).0 k) c i),
  )

-- two lists for the same sites have the same members
pub one-list : (table : Table) (sites : List Site) (list other : List Constraint) → AreGiven table sites list → AreGiven table sites other → (c : Constraint) → Contains list c ↔ Contains other c
one-list table sites list other g h c = (λ i. (h c).1 ((g c).0 i), λ i. (g c).1 ((h c).0 i))
