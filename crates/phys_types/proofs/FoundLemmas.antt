use Rattle.std.proofs.Common.{◌≡◌, Bool, true, false, List, [], ◌∷◌, ◌++◌, if◌then◌else◌, refl, ap, sym, subst, ◌∙◌, append_assoc, inl, inr, ◌⊎◌}
use Rattle.std.specs.List.{Contains, list_any}
use Rattle.std.proofs.lemmas.List.{append-nil}
use Rattle.std.proofs.lemmas.List.Elements.{Contains-append_left, Contains-push_cases}
use Rattle.indexmap.specs.IndexSet.{insert_key}
use Rattle.indexmap.proofs.CallerLemmas.{Contains-insert_key}
use Rattle.cc_base.specs.declared.number.TypeId.{TypeId}
use Rattle.cc_base.specs.declared.number.NodeId.{NodeId}
use Rattle.c_types.specs.Flows.{HeldPointer}
use Rattle.phys_types.specs.Found.{Pairs, Gains, AreThese}

-- Pairs that are found one after another.

module _ {K : Type 0} (eq : K → K → Bool) where
  insert_behind : (ks : List K) (k : K) → (rest : List K) × (insert_key eq ks k ≡ ks ++ rest)
  insert_behind ks k = by (list_any (eq k) ks)
    where
      by : (b : Bool) → (rest : List K) × ((if b then ks else ks ++ k ∷ []) ≡ ks ++ rest)
      by true = ([], sym (append-nil ks))
      by false = (k ∷ [], refl)

  pub insert_kept : (ks : List K) (k x : K) → Contains ks x → Contains (insert_key eq ks k) x
  insert_kept ks k x c = by (list_any (eq k) ks)
    where
      by : (b : Bool) → Contains (if b then ks else ks ++ k ∷ []) x
      by true = c
      by false = Contains-append_left ks (k ∷ []) x c

  pub insert_only : (ks : List K) (k x : K) → Contains (insert_key eq ks k) x → Contains ks x ⊎ (k ≡ x)
  insert_only ks k x = by (list_any (eq k) ks)
    where
      by : (b : Bool) → Contains (if b then ks else ks ++ k ∷ []) x → Contains ks x ⊎ (k ≡ x)
      by true c = inl c
      by false c = Contains-push_cases ks k x c

module _ (node_eq : NodeId × NodeId → NodeId × NodeId → Bool) (same_nodes : (x y : NodeId × NodeId) → node_eq x y ≡ true → x ≡ y)
    (type_eq : TypeId × TypeId → TypeId × TypeId → Bool) (same_types : (x y : TypeId × TypeId) → type_eq x y ≡ true → x ≡ y) where
  pub added : (old new : Pairs) (p q : HeldPointer) → new.nodes ≡ insert_key node_eq old.nodes (p.node, q.node) → new.pointees ≡ insert_key type_eq old.pointees (p.to, q.to)
      → Gains (AreThese p q) old new
  added old new p q e f = record {
    behind = let b = insert_behind type_eq old.pointees (p.to, q.to) in (b.0, f ∙ b.1);
    kept = λ a b c. subst (λ l. Contains l (a, b)) (sym e) (insert_kept node_eq old.nodes (p.node, q.node) (a, b) c);
    has = λ r s h. record {
      nodes = subst (λ l. Contains l (r.node, s.node)) (sym e)
          (subst (λ x. Contains (insert_key node_eq old.nodes (p.node, q.node)) x) (λ i. ((sym h.0 i).node, (sym h.1 i).node))
          (Contains-insert_key node_eq same_nodes old.nodes (p.node, q.node)));
      pointees = subst (λ l. Contains l (r.to, s.to)) (sym f)
          (subst (λ x. Contains (insert_key type_eq old.pointees (p.to, q.to)) x) (λ i. ((sym h.0 i).to, (sym h.1 i).to))
          (Contains-insert_key type_eq same_types old.pointees (p.to, q.to)));
    };
    nodes = λ a b c. elim (insert_only node_eq old.nodes (p.node, q.node) (a, b) (subst (λ l. Contains l (a, b)) e c)) [
      | inl k ↦ inl k
      | inr k ↦ inr (record { p = p; q = q; related = (refl, refl); first = ap (λ x. x.0) k; second = ap (λ x. x.1) k })
    ];
    pointees = λ a b c. elim (insert_only type_eq old.pointees (p.to, q.to) (a, b) (subst (λ l. Contains l (a, b)) f c)) [
      | inl k ↦ inl k
      | inr k ↦ inr (record { p = p; q = q; related = (refl, refl); first = ap (λ x. x.0) k; second = ap (λ x. x.1) k })
    ];
  }

-- ---- gains

module _ (R S : HeldPointer → HeldPointer → Type 0) where
  pub gains_as : (old new : Pairs) → ((p q : HeldPointer) → R p q → S p q) → ((p q : HeldPointer) → S p q → R p q) → Gains R old new → Gains S old new
  gains_as old new f g h = record {
    behind = h.behind;
    kept = h.kept;
    has = λ p q s. h.has p q (g p q s);
    nodes = λ a b c. elim (h.nodes a b c) [
      | inl k ↦ inl k
      | inr k ↦ inr (record { p = k.p; q = k.q; related = f k.p k.q k.related; first = k.first; second = k.second })
    ];
    pointees = λ a b c. elim (h.pointees a b c) [
      | inl k ↦ inl k
      | inr k ↦ inr (record { p = k.p; q = k.q; related = f k.p k.q k.related; first = k.first; second = k.second })
    ];
  }

  pub gains_then : (a b c : Pairs) → Gains R a b → Gains S b c → Gains (λ p q. R p q ⊎ S p q) a c
  gains_then a b c h k = record {
    behind = (h.behind.0 ++ k.behind.0, k.behind.1 ∙ ap (λ xs. xs ++ k.behind.0) h.behind.1 ∙ append_assoc a.pointees h.behind.0 k.behind.0);
    kept = λ x y m. k.kept x y (h.kept x y m);
    has = λ p q r. elim r [
      | inl e ↦ (let s = h.has p q e in record { nodes = k.kept p.node q.node s.nodes; pointees = subst (λ l. Contains l (p.to, q.to)) (sym k.behind.1) (Contains-append_left b.pointees k.behind.0 (p.to, q.to) s.pointees) })
      | inr e ↦ k.has p q e
    ];
    nodes = λ x y m. elim (k.nodes x y m) [
      | inl e ↦ elim (h.nodes x y e) [
        | inl g ↦ inl g
        | inr g ↦ inr (record { p = g.p; q = g.q; related = inl g.related; first = g.first; second = g.second })
      ]
      | inr g ↦ inr (record { p = g.p; q = g.q; related = inr g.related; first = g.first; second = g.second })
    ];
    pointees = λ x y m. elim (k.pointees x y m) [
      | inl e ↦ elim (h.pointees x y e) [
        | inl g ↦ inl g
        | inr g ↦ inr (record { p = g.p; q = g.q; related = inl g.related; first = g.first; second = g.second })
      ]
      | inr g ↦ inr (record { p = g.p; q = g.q; related = inr g.related; first = g.first; second = g.second })
    ];
  }

-- where R holds of nothing, nothing changes
pub gains_nothing : (R : HeldPointer → HeldPointer → Type 0) (a : Pairs) → ((p q : HeldPointer) → R p q → ⊥) → Gains R a a
gains_nothing R a none = record {
  behind = ([], sym (append-nil a.pointees));
  kept = λ x y c. c;
  has = λ p q r. absurd (none p q r);
  nodes = λ x y c. inl c;
  pointees = λ x y c. inl c;
}

-- one after another
pub gains_more : (R S T : HeldPointer → HeldPointer → Type 0) (a b c : Pairs) → ((p q : HeldPointer) → T p q → R p q ⊎ S p q) → ((p q : HeldPointer) → R p q → T p q)
    → ((p q : HeldPointer) → S p q → T p q) → Gains R a b → Gains S b c → Gains T a c
gains_more R S T a b c f g h x y =
    gains_as (λ p q. R p q ⊎ S p q) T a c (λ p q r. elim r [
      | inl e ↦ g p q e
      | inr e ↦ h p q e
    ]) f (gains_then R S a b c x y)
