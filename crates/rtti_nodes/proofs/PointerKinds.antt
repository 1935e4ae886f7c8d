-- The pointers of the types of a table have nodes of the table of kinds, and what is found of them tells whether their kinds are equal.
use Rattle.std.specs.Prelude.{◌↔◌, IsTrue}
use Rattle.std.proofs.Common.{◌≡◌, ℕ, zero, suc, ◌<◌, ◌≤◌, Bool, true, false, List, [], ◌∷◌, length, slice_get, None, Some, refl, ap, sym, subst, ◌∙◌, inl, inr, ◌⊎◌, true≢false, arith}
use Rattle.std.specs.List.{All, Contains}
use Rattle.std.proofs.lemmas.List.{get_or_past}
use Rattle.std.proofs.lemmas.Option.{get_or_from_slice_get}
use Rattle.cc_base.specs.declared.number.TypeId.{TypeId}
use Rattle.cc_base.specs.declared.number.NodeId.{NodeId}
use Rattle.cc_base.specs.declared.kind.Kind.{Kind}
use Rattle.cc_base.specs.declared.kind.Kind.TheVariants.{Safe, Seq, Rtti, Wild}
use Rattle.cc_base.specs.Kinds.{kind_at, same_kind}
use Rattle.c_types.specs.declared.shape.TypeShape.{TypeShape}
use Rattle.c_types.specs.declared.shape.TypeShape.TheVariants as shape
use Rattle.c_types.specs.Table.{Table, Entry, AreNodesOf, IsType, shape_at, void_entry}
use Rattle.c_types.specs.Cells.{Cell, raw, pointer, mixed, incomplete}
use Rattle.c_types.specs.Equality.{physically_equal, cells_of, begins_with}
use Rattle.c_types.specs.Flows.{HeldPointer, pointer_in_cell, pointer_of_shape, and_then, pointer_in, pointer_at, StandAlike, top, inside, CorrespondByPlace, HaveEqualKinds, IsOfOneClass, Covers}
use Rattle.c_types.specs.Coverage.{covers, of_one_class}
use Rattle.c_types.specs.Sound.{IsWellFormed}
use Rattle.type_laws.proofs.Coverage.{covers_is, one_class_is}
use Rattle.type_laws.proofs.Pointers.{Mirrors, equal_mirrors, begins_mirrors}
use Rattle.phys_types.specs.Pairs.{HaveNodes}
use Rattle.phys_types.specs.Found.{Pairs, no_pairs, Gains}
use Rattle.phys_types.specs.Standing.{AreEqualTypes, CorrespondInSome}
use Rattle.phys_types.proofs.LawLemmas.{opened}
use Rattle.phys_types.proofs.Reached.{pointee_typed}
use Rattle.phys_types.proofs.Queue.{all_depths}
use Rattle.fat_layouts.proofs.NodeCells.{EachHas, cells_have}

no_pointer : (p : HeldPointer) → None ≡ Some p → ⊥
no_pointer p h = cc

some_same : (p q : HeldPointer) → Some p ≡ Some q → p ≡ q
some_same p q h = cc

by_cases : (a b : ℕ) → (a < b) ⊎ (b ≤ a)
by_cases a b = grind arith

module _ (n : ℕ) where
  in_cells : (xs : List Cell) (i : ℕ) (p : HeldPointer) → EachHas n xs → and_then (slice_get xs i) pointer_in_cell ≡ Some p → p.node.0 < n
  in_cells [] i p h e = absurd (no_pointer p e)
  in_cells (pointer node to zero ∷ xs) zero p h e = subst (λ (z : HeldPointer). z.node.0 < n) (some_same (record { node = node; to = to }) p e) h.0
  in_cells (pointer node to (suc k) ∷ xs) zero p h e = absurd (no_pointer p e)
  in_cells (raw ∷ xs) zero p h e = absurd (no_pointer p e)
  in_cells (mixed t k ∷ xs) zero p h e = absurd (no_pointer p e)
  in_cells (incomplete t ∷ xs) zero p h e = absurd (no_pointer p e)
  in_cells (x ∷ xs) (suc i) p h e = in_cells xs i p h.1 e

  in_shape : (s : TypeShape) (p : HeldPointer) → AreNodesOf n s → pointer_of_shape s ≡ Some p → p.node.0 < n
  in_shape (shape.Pointer node to) p h e = subst (λ (z : HeldPointer). z.node.0 < n) (some_same (record { node = node; to = to }) p e) h
  in_shape shape.Void p h e = absurd (no_pointer p e)
  in_shape (shape.Integer b s) p h e = absurd (no_pointer p e)
  in_shape (shape.Array t k) p h e = absurd (no_pointer p e)
  in_shape (shape.Function ps r) p h e = absurd (no_pointer p e)
  in_shape (shape.Struct g) p h e = absurd (no_pointer p e)
  in_shape (shape.Union g) p h e = absurd (no_pointer p e)

  module _ (table : Table) (w : IsWellFormed table) (nodes : All (λ (e : Entry). AreNodesOf n e.shape) table) where
    shaped : (u : TypeId) → AreNodesOf n (shape_at table u)
    shaped u = of (by_cases u.0 (length table))
      where
        of : (u.0 < length table) ⊎ (length table ≤ u.0) → AreNodesOf n (shape_at table u)
        of (inl l) = nodes u.0 void_entry l
        of (inr l) = subst (λ (e : Entry). AreNodesOf n e.shape) (sym (get_or_past table u.0 void_entry l)) tt

    in_slots : (ts : List TypeId) (i : ℕ) (p : HeldPointer) → and_then (slice_get ts i) (λ x. pointer_of_shape (shape_at table x)) ≡ Some p → p.node.0 < n
    in_slots [] i p e = absurd (no_pointer p e)
    in_slots (t ∷ ts) zero p e = in_shape (shape_at table t) p (shaped t) e
    in_slots (t ∷ ts) (suc i) p e = in_slots ts i p e

    at_place : (t : TypeId) (i : ℕ) (p : HeldPointer) → pointer_at table t i ≡ Some p → p.node.0 < n
    at_place t i p = by (shape_at table t)
      where
        have : EachHas n (cells_of table t)
        have = cells_have table w n shaped (physically_equal table) t

        by : (s : TypeShape) → pointer_in table t s i ≡ Some p → p.node.0 < n
        by (shape.Function ps r) e = in_slots (r ∷ ps) i p e
        by shape.Void e = in_cells (cells_of table t) i p have e
        by (shape.Integer b s) e = in_cells (cells_of table t) i p have e
        by (shape.Pointer m to) e = in_cells (cells_of table t) i p have e
        by (shape.Array u k) e = in_cells (cells_of table t) i p have e
        by (shape.Struct g) e = in_cells (cells_of table t) i p have e
        by (shape.Union g) e = in_cells (cells_of table t) i p have e

    pub at_places : (t u : TypeId) (p q : HeldPointer) → StandAlike table t u p q → (p.node.0 < n) × (q.node.0 < n)
    at_places t u p q (i, x, y) = (at_place t i p x, at_place u i q y)

    corresponding : (t u : TypeId) (p q : HeldPointer) → CorrespondByPlace table t u p q → (p.node.0 < n) × (q.node.0 < n)
    corresponding t u p q (top a b h) = at_places t u p q h
    corresponding t u p q (inside a b c d k h) = at_places a.to b.to p q h

    abbrev pub ArePairs : TypeId → TypeId → List (NodeId × NodeId) → Type 0
    ArePairs t u pairs = (a b : NodeId) → Contains pairs (a, b) ↔ HaveNodes (CorrespondByPlace table t u) a b

    pub in_range : (t u : TypeId) (pairs : List (NodeId × NodeId)) → ArePairs t u pairs → (a b : NodeId) → Contains pairs (a, b) → (a.0 < n) × (b.0 < n)
    in_range t u pairs h a b c =
        let o = (h a b).0 c in let r = corresponding t u o.p o.q o.related in
        (subst (λ (x : NodeId). x.0 < n) o.first r.0, subst (λ (x : NodeId). x.0 < n) o.second r.1)

-- equal kinds of the pairs are equal kinds of the pointers
module _ (table : Table) (kind : NodeId → Kind) (t u : TypeId) (pairs : List (NodeId × NodeId))
    (h : (a b : NodeId) → Contains pairs (a, b) ↔ HaveNodes (CorrespondByPlace table t u) a b) where
  abbrev AreEqual : Type 0
  AreEqual = (a b : NodeId) → Contains pairs (a, b) → kind a ≡ kind b

  equal_kinds : AreEqual → HaveEqualKinds kind (CorrespondByPlace table t u)
  equal_kinds k p q r = k p.node q.node ((h p.node q.node).1 (record { p = p; q = q; related = r; first = refl; second = refl }))

  -- pairs of equal kinds tell a test whose other part is true
  pub pairs_tell : (C : Type 0) (b c : Bool) → (C ↔ IsTrue c) → (HaveEqualKinds kind (CorrespondByPlace table t u) → C) → (C → HaveEqualKinds kind (CorrespondByPlace table t u))
      → IsTrue b ↔ ((a b : NodeId) → Contains pairs (a, b) → kind a ≡ kind b) → b ≡ c
  pairs_tell C b c is made told k = by b c refl refl
    where
      forth : b ≡ true → c ≡ true
      forth x = is.0 (made (equal_kinds (k.0 x)))

      back : c ≡ true → b ≡ true
      back x =
          let e = told (is.1 x) in
          k.1 (λ a d m. let o = (h a d).0 m in ap kind (sym o.first) ∙ e o.p o.q o.related ∙ ap kind o.second)

      by : (x y : Bool) → b ≡ x → c ≡ y → b ≡ c
      by true y p q = p ∙ sym (forth p)
      by false true p q = back q ∙ sym q
      by false false p q = p ∙ sym q

  pub covers_tell : (b : Bool) → begins_with table t u ≡ true → IsTrue b ↔ ((a b : NodeId) → Contains pairs (a, b) → kind a ≡ kind b) → b ≡ covers table kind t u
  covers_tell b e k =
      pairs_tell (Covers table kind t u) b (covers table kind t u) ((covers_is table kind t u).1, (covers_is table kind t u).0) (λ d. record { begins = e; kinds = d }) (λ c. c.kinds) k

  pub class_tells : (b : Bool) → physically_equal table t u ≡ true → IsTrue b ↔ ((a b : NodeId) → Contains pairs (a, b) → kind a ≡ kind b) → b ≡ of_one_class table kind t u
  class_tells b e k =
      pairs_tell (IsOfOneClass table kind t u) b (of_one_class table kind t u) ((one_class_is table kind t u).1, (one_class_is table kind t u).0) (λ d. record { equal = e; kinds = d })
      (λ c. c.kinds) k

pub not_equal : (table : Table) (kind : NodeId → Kind) (t u : TypeId) → physically_equal table t u ≡ false → false ≡ of_one_class table kind t u
not_equal table kind t u e = by (of_one_class table kind t u) refl
  where
    by : (y : Bool) → of_one_class table kind t u ≡ y → false ≡ of_one_class table kind t u
    by true q = absurd (true≢false (sym ((one_class_is table kind t u).0 q).equal ∙ e))
    by false q = sym q

pub not_begun : (table : Table) (kind : NodeId → Kind) (t u : TypeId) → begins_with table t u ≡ false → false ≡ covers table kind t u
not_begun table kind t u e = by (covers table kind t u) refl
  where
    by : (y : Bool) → covers table kind t u ≡ y → false ≡ covers table kind t u
    by true q = absurd (true≢false (sym ((covers_is table kind t u).0 q).begins ∙ e))
    by false q = sym q

-- what is found

no_nodes : (x : NodeId × NodeId) → Contains [] x → ⊥
no_nodes x m = omega (arith, m.1)

no_types : (x : TypeId × TypeId) → Contains [] x → ⊥
no_types x m = omega (arith, m.1)

module _ (table : Table) (w : IsWellFormed table) (t u : TypeId) (a : IsType table t) (b : IsType table u)
    (h : (physically_equal table t u ≡ true) ⊎ (begins_with table t u ≡ true)) where
  mirrors : Mirrors table t u
  mirrors = elim h [
    | inl e ↦ equal_mirrors table w t u e
    | inr e ↦ begins_mirrors table t u e
  ]

  stand_equal : (p q : HeldPointer) → StandAlike table t u p q → AreEqualTypes table p.to q.to
  stand_equal p q (i, x, y) =
      let c = opened table t u mirrors i q y in
      record {
        first = pointee_typed table w t i p a x;
        second = pointee_typed table w u i q b y;
        equal = ap (λ (z : HeldPointer). physically_equal table z.to q.to) (some_same p c.0 (sym x ∙ c.1)) ∙ c.2;
      }

  pub found_equal : (old found : Pairs) → old ≡ no_pairs → Gains (StandAlike table t u) old found → (v z : TypeId) → Contains found.pointees (v, z) → AreEqualTypes table v z
  found_equal old found e g v z c = elim (g.pointees v z c) [
    | inl o ↦ absurd (no_types (v, z) (subst (λ (p : Pairs). Contains p.pointees (v, z)) e o))
    | inr o ↦ subst (λ x. AreEqualTypes table x z) o.first (subst (λ y. AreEqualTypes table o.p.to y) o.second (stand_equal o.p o.q o.related))
  ]

pub found_nodes : (table : Table) (t u : TypeId) (old found all : Pairs) (nodes : List (NodeId × NodeId)) → old ≡ no_pairs → Gains (StandAlike table t u) old found
    → Gains (CorrespondInSome table found.pointees) found all → nodes ≡ all.nodes → (a b : NodeId) → Contains nodes (a, b) ↔ HaveNodes (CorrespondByPlace table t u) a b
found_nodes table t u old found all nodes e g h f a b =
    let s = all_depths table (StandAlike table t u) old found all (ap (λ (p : Pairs). p.pointees) e) g h in (
      λ c. elim (s.nodes a b (subst (λ l. Contains l (a, b)) f c)) [
        | inl o ↦ absurd (no_nodes (a, b) (subst (λ (p : Pairs). Contains p.nodes (a, b)) e o))
        | inr o ↦ o
      ],
      λ o. subst (λ l. Contains l (a, b)) (sym f) (subst (λ x. Contains all.nodes x) (λ i. (o.first i, o.second i)) (s.has o.p o.q o.related).nodes),
    )

-- Kinds of pairs, one after another

pub one_kind : (k l : Kind) → same_kind k l ≡ true → k ≡ l
one_kind Safe Safe h = refl
one_kind Seq Seq h = refl
one_kind Rtti Rtti h = refl
one_kind Wild Wild h = refl
one_kind Safe Seq h = absurd (true≢false (sym h))
one_kind Safe Rtti h = absurd (true≢false (sym h))
one_kind Safe Wild h = absurd (true≢false (sym h))
one_kind Seq Safe h = absurd (true≢false (sym h))
one_kind Seq Rtti h = absurd (true≢false (sym h))
one_kind Seq Wild h = absurd (true≢false (sym h))
one_kind Rtti Safe h = absurd (true≢false (sym h))
one_kind Rtti Seq h = absurd (true≢false (sym h))
one_kind Rtti Wild h = absurd (true≢false (sym h))
one_kind Wild Safe h = absurd (true≢false (sym h))
one_kind Wild Seq h = absurd (true≢false (sym h))
one_kind Wild Rtti h = absurd (true≢false (sym h))

own_kind : (k : Kind) → same_kind k k ≡ true
own_kind Safe = refl
own_kind Seq = refl
own_kind Rtti = refl
own_kind Wild = refl

kind_told : (kinds : List Kind) (n : NodeId) (k : Kind) → slice_get kinds n.0 ≡ Some k → kind_at kinds n ≡ k
kind_told kinds n k e = get_or_from_slice_get kinds n.0 k Safe e

pub told_equal : (kinds : List Kind) (m n : NodeId) (k l : Kind) → slice_get kinds m.0 ≡ Some k → slice_get kinds n.0 ≡ Some l → same_kind k l ≡ true → kind_at kinds m ≡ kind_at kinds n
told_equal kinds m n k l e f h = kind_told kinds m k e ∙ one_kind k l h ∙ sym (kind_told kinds n l f)

pub told_unequal : (kinds : List Kind) (m n : NodeId) (k l : Kind) → slice_get kinds m.0 ≡ Some k → slice_get kinds n.0 ≡ Some l → same_kind k l ≡ false → kind_at kinds m ≡ kind_at kinds n → ⊥
told_unequal kinds m n k l e f h g =
    let s : k ≡ l = sym (kind_told kinds m k e) ∙ g ∙ kind_told kinds n l f in
    true≢false (sym (own_kind k) ∙ ap (same_kind k) s ∙ h)
