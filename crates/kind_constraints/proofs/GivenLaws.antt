-- The constraints of a program are those that its sites give one by one, and its equalities.
use Rattle.std.specs.Prelude.{◌↔◌}
use Rattle.std.proofs.Common.{◌≡◌, ℕ, List, [], Some, refl, ap, sym, subst, inl, inr, ◌⊎◌, ⊎_elim}
use Rattle.std.specs.List.{Contains, All}
use Rattle.std.proofs.lemmas.List.Elements.{All-contains}
use Rattle.cc_base.specs.declared.number.TypeId.{TypeId}
use Rattle.cc_base.specs.declared.number.NodeId.{NodeId}
use Rattle.kind_sites.specs.declared.site.Site.{Site}
use Rattle.kind_sites.specs.declared.site.Site.TheVariants as site
use Rattle.c_types.specs.Table.{Table, IsType}
use Rattle.c_types.specs.Flows.{HeldPointer}
use Rattle.c_types.specs.Sound.{IsWellFormed}
use Rattle.src_mem.specs.Memory.{Planned}
use Rattle.cil_form.specs.Shape.{IsSiteInShape}
use Rattle.cil_form.specs.Told.{AreSitesTold}
use Rattle.phys_types.specs.Found.{Pairs, no_pairs, Gains}
use Rattle.phys_types.specs.Standing.{AreEqualTypes}
use Rattle.phys_types.proofs.FoundLemmas.{gains_more}
use Rattle.kind_solver.specs.declared.constraint.Constraint.{Constraint}
use Rattle.kind_solver.specs.declared.constraint.Constraint.TheVariants.{Flow, Needs, Equal, Inside, Linked, Force, Plain}
use Rattle.kind_solver.specs.declared.constraint.Why.TheVariants as why
use Rattle.constraint_laws.specs.Given.{HasContents, AreOfOneCell, IsGiven, AreGiven}
use Rattle.constraint_laws.proofs.Tops.{IsTop, flow_top, same_top, union_top, tops-equal}
use Rattle.kind_constraints.specs.Adding.{Adds, OfSome, RelatedBySome}
use Rattle.kind_constraints.specs.Pieces.{IsPointee, IsOfContents, IsGivenBy, IsUnlike, IsEquality, ArePairs, flow_pair_of, IsFlowTop, IsOtherTop}
use Rattle.kind_constraints.proofs.Adding.{none_in}

module _ (table : Table) (sites : List Site) where
  abbrev OneGives : Constraint → Type 0
  OneGives = OfSome sites (IsGivenBy table sites)

  contents_give : (n : NodeId) (t : TypeId) (c : Constraint) → HasContents sites n t → IsOfContents table sites n t c → OneGives c
  contents_give n t c (inl k) h = (site.Pointee n t, k, inl h)
  contents_give n t c (inr k) h = (site.Home n t, k, inl h)

  given_one : (c : Constraint) → IsGiven table sites c → OneGives c ⊎ IsEquality table sites c
  given_one (Flow m n class below place) g =
      inl (site.Flow m g.0 n g.1 place, g.2, (below, g.4, ap (λ k. Flow m n k below place) g.3))
  given_one (Needs n why.Arith place) g = inl (site.Arith n place, g, refl)
  given_one (Needs n why.Integer place) g = inl (site.Integer n place, g, refl)
  given_one (Needs n why.Down place) g = absurd g
  given_one (Needs n why.Tile place) g = absurd g
  given_one (Needs n why.Bad place) g = absurd g
  given_one (Needs n why.Union place) g = absurd g
  given_one (Equal a b) g = inr (a, b, g.0, g.1, refl)
  given_one (Inside outer inner) g = inl (contents_give outer g.0 (Inside outer inner) g.1 (inl (inner, g.2, refl)))
  given_one (Linked a b) g = inl (site.Linked a b, g, refl)
  given_one (Force n why.Union place) g = inl (contents_give n g.0 (Force n why.Union place) g.2 (inr (g.1, place, g.3, g.4, refl)))
  given_one (Force n why.Arith place) g = absurd g
  given_one (Force n why.Integer place) g = absurd g
  given_one (Force n why.Down place) g = absurd g
  given_one (Force n why.Tile place) g = absurd g
  given_one (Force n why.Bad place) g = absurd g
  given_one (Plain n) (inl g) = inl (site.Home n g.0, g.1, inr refl)
  given_one (Plain n) (inr g) = inl (site.Pointee n g.0, g.1, inr (g.2, refl))

  is : (c d : Constraint) → c ≡ d → IsGiven table sites d → IsGiven table sites c
  is c d e g = subst (IsGiven table sites) (sym e) g

  contents_given : (n : NodeId) (t : TypeId) (c : Constraint) → HasContents sites n t → IsOfContents table sites n t c → IsGiven table sites c
  contents_given n t c k (inl h) = is c (Inside n h.0) h.2 (t, k, h.1)
  contents_given n t c k (inr h) = is c (Force n why.Union h.1) h.4 (t, h.0, k, h.2, h.3)

  one_given : (s : Site) → Contains sites s → (c : Constraint) → IsGivenBy table sites s c → IsGiven table sites c
  one_given (site.Flow m t n u place) k c h = is c (Flow m n _ h.0 place) h.2 (t, u, k, refl, h.1)
  one_given (site.Arith n place) k c h = is c (Needs n why.Arith place) h k
  one_given (site.Integer n place) k c h = is c (Needs n why.Integer place) h k
  one_given (site.Linked a b) k c h = is c (Linked a b) h k
  one_given (site.Same t u) k c h = absurd h
  one_given (site.Pointee n t) k c (inl h) = contents_given n t c (inl k) h
  one_given (site.Pointee n t) k c (inr h) = is c (Plain n) h.1 (inr (t, k, h.0))
  one_given (site.Home n t) k c (inl h) = contents_given n t c (inr k) h
  one_given (site.Home n t) k c (inr h) = is c (Plain n) h (inl (t, k))
  one_given (site.Union v place) k c h = absurd h

  pub all_given : (pairs : List (NodeId × NodeId)) (first list : List Constraint) → Adds OneGives [] first → Adds (OfSome pairs IsUnlike) first list
      → ((a b : NodeId) → Contains pairs (a, b) ↔ AreOfOneCell table sites a b) → AreGiven table sites list
  all_given pairs first list one equal cells c = (
    λ k. ⊎_elim
        (λ m. ⊎_elim (λ n. absurd (none_in c n)) (λ n. one_given n.0 n.1 c n.2) ((one c).0 m))
        (λ m. is c (Equal m.0.0 m.0.1) m.2.1 ((cells m.0.0 m.0.1).0 m.1, m.2.0))
        ((equal c).0 k),
    λ g. (equal c).1 (⊎_elim
        (λ m. inl ((one c).1 (inr m)))
        (λ m. inr ((m.0, m.1), (cells m.0 m.1).1 m.2, (m.3, m.4)))
        (given_one c g)),
  )

  -- The tops of all sites are those of the pairs of flows, and those of each other site

  module _ (pairs : List (TypeId × TypeId)) (each : ArePairs sites pairs) where
    top_parts : (p q : HeldPointer) → IsTop table sites p q → RelatedBySome pairs (IsFlowTop table) p q ⊎ RelatedBySome sites (IsOtherTop table) p q
    top_parts p q (flow_top m n t u place c h) = inl ((t, u), (each (t, u)).1 (site.Flow m t n u place, c, refl), h)
    top_parts p q (same_top t u c h) = inr (site.Same t u, c, h)
    top_parts p q (union_top v u m place c f k l h) = inr (site.Union v place, c, (f, (u, m, k, l, h)))

    flow_is_top : (p q : HeldPointer) → RelatedBySome pairs (IsFlowTop table) p q → IsTop table sites p q
    flow_is_top p q (x, c, h) = let s = (each x).0 c in by s.0 s.1 s.2
      where
        by : (s : Site) → Contains sites s → flow_pair_of s ≡ Some x → IsTop table sites p q
        by (site.Flow m t n u place) k e = let z : (t, u) ≡ x = cc (e) in flow_top m n t u place k (subst (λ (y : TypeId × TypeId). IsFlowTop table y p q) (sym z) h)
        by (site.Same t u) k e = absurd (cc (e))
        by (site.Union v place) k e = absurd (cc (e))
        by (site.Arith n place) k e = absurd (cc (e))
        by (site.Integer n place) k e = absurd (cc (e))
        by (site.Linked a b) k e = absurd (cc (e))
        by (site.Pointee n t) k e = absurd (cc (e))
        by (site.Home n t) k e = absurd (cc (e))

    other_is_top : (p q : HeldPointer) → RelatedBySome sites (IsOtherTop table) p q → IsTop table sites p q
    other_is_top p q (s, c, h) = by s c h
      where
        by : (s : Site) → Contains sites s → IsOtherTop table s p q → IsTop table sites p q
        by (site.Same t u) c h = same_top t u c h
        by (site.Union v place) c h = let z = h.1 in union_top v z.0 z.1 place c h.0 z.2 z.3 z.4
        by (site.Flow m t n u place) c h = absurd h
        by (site.Arith n place) c h = absurd h
        by (site.Integer n place) c h = absurd h
        by (site.Linked a b) c h = absurd h
        by (site.Pointee n t) c h = absurd h
        by (site.Home n t) c h = absurd h

    pub tops_found : (flows found : Pairs) → Gains (RelatedBySome pairs (IsFlowTop table)) no_pairs flows → Gains (RelatedBySome sites (IsOtherTop table)) flows found
        → Gains (IsTop table sites) no_pairs found
    tops_found flows found g h =
        gains_more (RelatedBySome pairs (IsFlowTop table)) (RelatedBySome sites (IsOtherTop table)) (IsTop table sites) no_pairs flows found top_parts flow_is_top other_is_top g h

  -- What the sites make correspond at the top points to equal types

  module _ (w : IsWellFormed table) (nodes : ℕ) (made : List Planned) (shaped : All (IsSiteInShape table nodes) sites) (told : AreSitesTold table made sites) where
    pub found_equal : (found : Pairs) → Gains (IsTop table sites) no_pairs found → (t u : TypeId) → Contains found.pointees (t, u) → AreEqualTypes table t u
    found_equal found g t u c = elim (g.pointees t u c) [
      | inl k ↦ absurd (none_in (t, u) k)
      | inr k ↦
          subst (λ (y : TypeId). AreEqualTypes table t y) k.second (subst (λ (x : TypeId). AreEqualTypes table x k.q.to) k.first
          (tops-equal table sites nodes made w told (λ s m. All-contains (IsSiteInShape table nodes) sites s shaped m) k.p k.q k.related))
    ]

    pub typed_pointee : (t : TypeId) → IsPointee sites t → IsType table t
    typed_pointee t p = (All-contains (IsSiteInShape table nodes) sites (site.Pointee p.0 t) shaped p.1).1

    pub typed_pair : (pairs : List (TypeId × TypeId)) → ArePairs sites pairs → (x : TypeId × TypeId) → Contains pairs x → IsType table x.0 × IsType table x.1
    typed_pair pairs each x c = let s = (each x).0 c in by s.0 s.1 s.2
      where
        by : (s : Site) → Contains sites s → flow_pair_of s ≡ Some x → IsType table x.0 × IsType table x.1
        by (site.Flow m t n u place) k e =
            let z : (t, u) ≡ x = cc (e) in
            let h = All-contains (IsSiteInShape table nodes) sites (site.Flow m t n u place) shaped k in
            subst (λ (y : TypeId × TypeId). IsType table y.0 × IsType table y.1) z (h.1, h.3)
        by (site.Same t u) k e = absurd (cc (e))
        by (site.Union v place) k e = absurd (cc (e))
        by (site.Arith n place) k e = absurd (cc (e))
        by (site.Integer n place) k e = absurd (cc (e))
        by (site.Linked a b) k e = absurd (cc (e))
        by (site.Pointee n t) k e = absurd (cc (e))
        by (site.Home n t) k e = absurd (cc (e))
