-- All equalities of a program at once: the pointers that correspond at the top of some site, and all that they lead to.
use Rattle.std.proofs.Common.{◌≡◌, ℕ, List, [], refl, subst, inl, inr, arith}
use Rattle.std.specs.Prelude.{◌↔◌}
use Rattle.std.specs.List.{Contains}
use Rattle.cc_base.specs.declared.number.TypeId.{TypeId}
use Rattle.cc_base.specs.declared.number.NodeId.{NodeId}
use Rattle.cc_base.specs.declared.place.Place.{Place}
use Rattle.kind_sites.specs.declared.site.Site.{Site}
use Rattle.kind_sites.specs.declared.site.Site.TheVariants as site
use Rattle.c_types.specs.Table.{Table, members_at}
use Rattle.c_types.specs.Flows.{HeldPointer, flow_class, StandAlike, CorrespondAtTop, Correspond, top, inside, CorrespondInFlow, CorrespondByPlace}
use Rattle.c_types.specs.Contents.{HoldsMixed, IsLargest}
use Rattle.c_types.specs.Sound.{IsWellFormed}
use Rattle.phys_types.specs.Pairs.{HaveNodes}
use Rattle.phys_types.specs.Found.{Pairs, no_pairs, Gains}
use Rattle.phys_types.specs.Standing.{AreEqualTypes, CorrespondInSome}
use Rattle.phys_types.proofs.Queue.{all_depths}
use Rattle.src_mem.specs.Memory.{Planned}
use Rattle.cil_form.specs.Shape.{IsSiteInShape}
use Rattle.cil_form.specs.Told.{AreSitesTold}
use Rattle.constraint_laws.specs.Given.{AreOfOneCell, in_flow, declared, in_union}
use Rattle.constraint_laws.proofs.Apart.{flow-sited, same-sited, member-sited}

-- p and q correspond at the top of a site
pub data IsTop (table : Table) (sites : List Site) (p q : HeldPointer) : Type 0 where
  flow_top : (m n : NodeId) (t u : TypeId) (place : Place) → Contains sites (site.Flow m t n u place) → CorrespondAtTop table (flow_class table t u) t u p q → IsTop table sites p q
  same_top : (t u : TypeId) → Contains sites (site.Same t u) → StandAlike table t u p q → IsTop table sites p q
  union_top : (v u m : TypeId) (place : Place) → Contains sites (site.Union v place) → (HoldsMixed table v v → ⊥) → Contains (members_at table v) u → IsLargest table v m
      → StandAlike table u m p q → IsTop table sites p q

module _ (table : Table) (sites : List Site) where
  more : (R S : HeldPointer → HeldPointer → Type 0) → ((p q : HeldPointer) → R p q → S p q) → (p q : HeldPointer) → Correspond table R p q → Correspond table S p q
  more R S f p q (top a b h) = top p q (f p q h)
  more R S f r s (inside p q c d h k) = inside p q r s (more R S f p q h) k

  nodes-more : (R S : HeldPointer → HeldPointer → Type 0) → ((p q : HeldPointer) → R p q → S p q) → (a b : NodeId) → HaveNodes R a b → HaveNodes S a b
  nodes-more R S f a b h = record { p = h.p; q = h.q; related = f h.p h.q h.related; first = h.first; second = h.second }

  all-tops : (a b : NodeId) → AreOfOneCell table sites a b → HaveNodes (Correspond table (IsTop table sites)) a b
  all-tops a b (in_flow m n t u place c r) =
      nodes-more (CorrespondInFlow table t u) (Correspond table (IsTop table sites)) (more (CorrespondAtTop table (flow_class table t u) t u) (IsTop table sites) (λ p q h. flow_top m n t u place c h)) a b r
  all-tops a b (declared t u c r) =
      nodes-more (CorrespondByPlace table t u) (Correspond table (IsTop table sites)) (more (StandAlike table t u) (IsTop table sites) (λ p q h. same_top t u c h)) a b r
  all-tops a b (in_union v u m place c f k l r) =
      nodes-more (CorrespondByPlace table u m) (Correspond table (IsTop table sites)) (more (StandAlike table u m) (IsTop table sites) (λ p q h. union_top v u m place c f k l h)) a b r

  -- p and q correspond in one site
  data InOne (p q : HeldPointer) : Type 0 where
    flow_one : (m n : NodeId) (t u : TypeId) (place : Place) → Contains sites (site.Flow m t n u place) → CorrespondInFlow table t u p q → InOne p q
    same_one : (t u : TypeId) → Contains sites (site.Same t u) → CorrespondByPlace table t u p q → InOne p q
    union_one : (v u m : TypeId) (place : Place) → Contains sites (site.Union v place) → (HoldsMixed table v v → ⊥) → Contains (members_at table v) u → IsLargest table v m
        → CorrespondByPlace table u m p q → InOne p q

  one-top : (p q : HeldPointer) → IsTop table sites p q → InOne p q
  one-top p q (flow_top m n t u place c h) = flow_one m n t u place c (top p q h)
  one-top p q (same_top t u c h) = same_one t u c (top p q h)
  one-top p q (union_top v u m place c f k l h) = union_one v u m place c f k l (top p q h)

  one-inside : (p q r s : HeldPointer) → InOne p q → StandAlike table p.to q.to r s → InOne r s
  one-inside p q r s (flow_one m n t u place c h) k = flow_one m n t u place c (inside p q r s h k)
  one-inside p q r s (same_one t u c h) k = same_one t u c (inside p q r s h k)
  one-inside p q r s (union_one v u m place c f e l h) k = union_one v u m place c f e l (inside p q r s h k)

  in-one : (p q : HeldPointer) → Correspond table (IsTop table sites) p q → InOne p q
  in-one p q (top a b h) = one-top p q h
  in-one r s (inside p q c d h k) = one-inside p q r s (in-one p q h) k

  cell-of : (a b : NodeId) (p q : HeldPointer) → p.node ≡ a → q.node ≡ b → InOne p q → AreOfOneCell table sites a b
  cell-of a b p q e f (flow_one m n t u place c h) = in_flow m n t u place c (record { p = p; q = q; related = h; first = e; second = f })
  cell-of a b p q e f (same_one t u c h) = declared t u c (record { p = p; q = q; related = h; first = e; second = f })
  cell-of a b p q e f (union_one v u m place c g k l h) = in_union v u m place c g k l (record { p = p; q = q; related = h; first = e; second = f })

  pub cells-are-tops : (a b : NodeId) → AreOfOneCell table sites a b ↔ HaveNodes (Correspond table (IsTop table sites)) a b
  cells-are-tops a b = (all-tops a b, λ h. cell-of a b h.p h.q h.first h.second (in-one h.p h.q h.related))

  no-node : (x : NodeId × NodeId) → Contains [] x → ⊥
  no-node x m = omega (arith, m.1)

  -- what the one search over the program finds: first the tops of all sites, then all that they lead to
  pub equals-found : (found all : Pairs) → Gains (IsTop table sites) no_pairs found → Gains (CorrespondInSome table found.pointees) found all
      → (a b : NodeId) → Contains all.nodes (a, b) ↔ AreOfOneCell table sites a b
  equals-found found all g h a b =
      let s = all_depths table (IsTop table sites) no_pairs found all refl g h in (
        λ c. elim (s.nodes a b c) [
          | inl o ↦ absurd (no-node (a, b) o)
          | inr o ↦ (cells-are-tops a b).1 o
        ],
        λ c. let o = (cells-are-tops a b).0 c in subst (λ x. Contains all.nodes x) (λ i. (o.first i, o.second i)) (s.has o.p o.q o.related).nodes,
      )

  -- and what `follow` asks
  pub tops-equal : (nodes : ℕ) (made : List Planned) → IsWellFormed table → AreSitesTold table made sites → ((s : Site) → Contains sites s → IsSiteInShape table nodes s) → (p q : HeldPointer) → IsTop table sites p q → AreEqualTypes table p.to q.to
  tops-equal nodes made w told shaped p q (flow_top m n t u place c h) =
      let s = shaped (site.Flow m t n u place) c in (flow-sited table w nodes made sites told shaped t u s.1 s.3 p q (top p q h)).equal
  tops-equal nodes made w told shaped p q (same_top t u c h) =
      let s = shaped (site.Same t u) c in (same-sited table w nodes made sites told shaped t u (record { first = s.0; second = s.1; equal = told.same t u c }) p q (top p q h)).equal
  tops-equal nodes made w told shaped p q (union_top v u m place c f k l h) = (member-sited table w nodes made sites told shaped v u m (shaped (site.Union v place) c) f k l p q (top p q h)).equal
