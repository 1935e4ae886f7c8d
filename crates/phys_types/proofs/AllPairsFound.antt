use Rattle.std.proofs.Common.{◌≡◌, List, [], refl, ap, sym, subst, ◌∙◌, inl, inr, arith}
use Rattle.std.specs.List.{Contains}
use Rattle.cc_base.specs.declared.number.TypeId.{TypeId}
use Rattle.cc_base.specs.declared.number.NodeId.{NodeId}
use Rattle.cc_base.specs.declared.kind.Kind.{Kind}
use Rattle.c_types.specs.Table.{Table, IsType}
use Rattle.c_types.specs.Flows.{flow_class, CorrespondAtTop}
use Rattle.c_types.specs.Sound.{IsWellFormed}
use Rattle.phys_types.specs.Pairs.{AreCorrespondingNodes, TellsEqualKinds}
use Rattle.phys_types.specs.Found.{Pairs, no_pairs, Gains}
use Rattle.phys_types.specs.Standing.{AreEqualTypes, CorrespondInSome}
use Rattle.phys_types.proofs.Reached.{top_alike}
use Rattle.phys_types.proofs.Queue.{all_depths}

-- All corresponding pointers are found.

no_nodes : (x : NodeId × NodeId) → Contains [] x → ⊥
no_nodes x m = omega (arith, m.1)

no_types : (x : TypeId × TypeId) → Contains [] x → ⊥
no_types x m = omega (arith, m.1)

module _ (table : Table) (w : IsWellFormed table) (t u : TypeId) (a : IsType table t) (b : IsType table u) where
  pub found_equal : (old found : Pairs) → old ≡ no_pairs → Gains (CorrespondAtTop table (flow_class table t u) t u) old found
      → (v z : TypeId) → Contains found.pointees (v, z) → AreEqualTypes table v z
  found_equal old found e g v z c = elim (g.pointees v z c) [
    | inl o ↦ absurd (no_types (v, z) (subst (λ (p : Pairs). Contains p.pointees (v, z)) e o))
    | inr o ↦
        subst (λ x. AreEqualTypes table x z) o.first (subst (λ y. AreEqualTypes table o.p.to y) o.second (top_alike table w t u a b o.p o.q o.related))
  ]

pub found_nodes : (table : Table) (t u : TypeId) (old found all : Pairs) (nodes : List (NodeId × NodeId)) → old ≡ no_pairs → Gains (CorrespondAtTop table (flow_class table t u) t u) old found
    → Gains (CorrespondInSome table found.pointees) found all → nodes ≡ all.nodes → AreCorrespondingNodes table t u nodes
found_nodes table t u old found all nodes e g h f a b =
    let s = all_depths table (CorrespondAtTop table (flow_class table t u) t u) old found all (ap (λ (p : Pairs). p.pointees) e) g h in (
      λ c. elim (s.nodes a b (subst (λ l. Contains l (a, b)) f c)) [
        | inl o ↦ absurd (no_nodes (a, b) (subst (λ (p : Pairs). Contains p.nodes (a, b)) e o))
        | inr o ↦ o
      ],
      λ o. subst (λ l. Contains l (a, b)) (sym f) (subst (λ x. Contains all.nodes x) (λ i. (o.first i, o.second i)) (s.has o.p o.q o.related).nodes),
    )

-- equal kinds of the pairs are equal kinds of the pointers
pub kinds_told : (table : Table) (t u : TypeId) (kind : NodeId → Kind) (nodes : List (NodeId × NodeId)) → AreCorrespondingNodes table t u nodes → TellsEqualKinds table t u kind nodes
kinds_told table t u kind nodes h = (
  λ k p q r. k p.node q.node ((h p.node q.node).1 (record { p = p; q = q; related = r; first = refl; second = refl })),
  λ k a b c. let o = (h a b).0 c in ap kind (sym o.first) ∙ k o.p o.q o.related ∙ ap kind o.second,
)
