-- The types whose own pointers a type holds, and the pointers.
use Rattle.std.specs.Prelude.{◌↔◌, ◌≢◌}
use Rattle.std.proofs.Common.{◌≡◌, ℕ, ◌+◌, ◌<◌, ◌≤◌, true, List, [], ◌++◌, length, map, get_or, slice_get, None, Some, refl, ap, sym, subst, ◌∙◌, inl, inr, ◌⊎◌, ⊎_elim, arith}
use Rattle.std.specs.List.{Contains, AllPairs, list_any}
use lib.Dec.{eqb}
use Rattle.std.proofs.lemmas.Bool.{cases_lt}
use Rattle.std.proofs.lemmas.Bool.Decides.{Decides-eqb}
use Rattle.std.proofs.lemmas.Option.{slice_get_within, slice_get-get_or, get_or_from_slice_get}
use Rattle.std.proofs.lemmas.List.{length-map, get_or-map}
use Rattle.std.proofs.lemmas.List.Elements.{Contains-get_or}
use Rattle.std.proofs.lemmas.Map.Made.{IsDistinct-from_AllPairs}
use Rattle.std.proofs.lemmas.Map.Steps.{length-le_from_distinct_below}
use Rattle.indexmap.proofs.CallerLemmas.{Contains-list_any}
use Rattle.cc_base.specs.declared.number.TypeId.{TypeId}
use Rattle.cc_base.specs.declared.number.NodeId.{NodeId}
use Rattle.c_types.specs.Table.{Table, IsType, IsUnion, shape_at}
use Rattle.c_types.specs.Flows.{HeldPointer, pointer_at, StandAlike}
use Rattle.c_types.specs.Contents.{HoldsMixed, Holds, at_place, in_member}
use Rattle.c_types.specs.Sound.{IsWellFormed}
use Rattle.c_types.proofs.OrderedPointers.{get_front}
use Rattle.phys_types.specs.Pairs.{HaveNodes}
use Rattle.phys_types.specs.Found.{Pairs, no_pairs, Gains}
use Rattle.phys_types.proofs.Classes.{types_closed}
use Rattle.constraint_laws.specs.Given.{HoldsNode}
use Rattle.constraint_laws.proofs.Held.{mixed-is-union, in-table, union_tag}
use Rattle.kind_constraints.specs.Adding.{Adds, RelatedBySome}
use Rattle.kind_constraints.specs.Pieces.{IsMixedMember, HoldsType, whole, member, AreNodesIn}
use Rattle.kind_constraints.proofs.Adding.{none_in}

number : TypeId → ℕ
number t = t.0

zeroth : TypeId
zeroth = record { 0 = 0 }

numbers-apart : (xs : List TypeId) → AllPairs (λ x y. x ≢ y) xs → AllPairs (λ x y. x ≢ y) (map number xs)
unfolding number
numbers-apart xs d i j e l m f =
    let k = length-map xs number in
    let s = sym (get_or-map number xs i zeroth e (omega arith)) ∙ f ∙ get_or-map number xs j zeroth e (omega arith) in
    d i j zeroth l (omega arith) (λ v. record { 0 = s v })

-- there are no more types than the table has
pub few_types : (n : ℕ) (xs : List TypeId) → ((x : TypeId) → Contains xs x → x.0 < n) → AllPairs (λ x y. x ≢ y) xs → length xs ≤ n
unfolding number
few_types n xs h d =
    let k = length-map xs number in
    let l = length-le_from_distinct_below (map number xs) n (IsDistinct-from_AllPairs Decides-eqb (map number xs) (numbers-apart xs d)) below in
    omega arith
  where
    below : (q : ℕ) → list_any (eqb q) (map number xs) ≡ true → q < n
    below q m =
        let c = Contains-list_any eqb (λ x y. (Decides-eqb x y).0) (map number xs) q m in
        let k = length-map xs number in
        let i : c.0 < length xs = (let v = c.1 in omega arith) in
        subst (λ v. v < n) (sym (get_or-map number xs c.0 zeroth q i) ∙ c.2) (h (get_or xs c.0 zeroth) (Contains-get_or xs c.0 zeroth i))

module _ (table : Table) (w : IsWellFormed table) where
  pub union_typed : (t v : TypeId) → HoldsMixed table t v → IsType table v
  union_typed t v h = let u = union_tag (shape_at table v) (mixed-is-union table t v h).0 in in-table table v (λ e. absurd (let z = sym e ∙ u.1 in cc (z)))

  pub union_is : (t v : TypeId) → HoldsMixed table t v → IsUnion table v
  union_is t v h = (mixed-is-union table t v h).0

  pub part_typed : (x m : TypeId) → IsMixedMember table x m → IsType table m
  part_typed x m p = (types_closed table w).members p.0 m (union_typed x p.0 p.1) p.2

  pub held_typed : (t x : TypeId) → IsType table t → HoldsType table t x → IsType table x
  held_typed t x y whole = y
  held_typed t x y (member z m h p) = part_typed z x p

  -- What holds a pointer

  later : (t m : TypeId) → HoldsType table t m → (x : TypeId) → HoldsType table m x → HoldsType table t x
  later t m h x whole = h
  later t m h x (member z y k p) = member z x (later t m h z k) p

  down : (t : TypeId) (p : HeldPointer) → Holds table t p → (x : TypeId) × HoldsType table t x × ((i : ℕ) × (pointer_at table x i ≡ Some p))
  down t p (at_place x i q h) = (t, whole, (i, h))
  down t p (in_member x v m q a b h) = let r = down m p h in (r.0, later t m (member t m whole (v, a, b)) r.0 r.1, r.2)

  up : (t x : TypeId) → HoldsType table t x → (p : HeldPointer) → Holds table x p → Holds table t p
  up t x whole p k = k
  up t x (member z m h q) p k = up t z h p (in_member z q.0 x p q.1 q.2 k)

  -- The queue

  pub record Queued (t : TypeId) (i : ℕ) (keys : List TypeId) : Type 0 where
    pub first : Contains keys t
    pub only : (x : TypeId) → Contains keys x → HoldsType table t x
    pub closed : (j : ℕ) (x m : TypeId) → j < i → slice_get keys j ≡ Some x → IsMixedMember table x m → Contains keys m

  pub queue_start : (t : TypeId) (keys : List TypeId) → Adds (λ x. x ≡ t) [] keys → Queued t 0 keys
  queue_start t keys a = record {
    first = (a t).1 (inr refl);
    only = λ x c. ⊎_elim (λ k. absurd (none_in x k)) (λ e. subst (HoldsType table t) (sym e) whole) ((a x).0 c);
    closed = λ j x m l. absurd (omega (arith, l));
  }

  pub queue_more : (t : TypeId) (i : ℕ) (keys new : List TypeId) (x : TypeId) → slice_get keys i ≡ Some x → Queued t i keys → Adds (IsMixedMember table x) keys new
      → ((rest : List TypeId) × (new ≡ keys ++ rest)) → Queued t (i + 1) new
  queue_more t i keys new x at q a b = record {
    first = (a t).1 (inl q.first);
    only = λ y c. ⊎_elim (λ k. q.only y k) (λ p. member x y (q.only x (here i x at)) p) ((a y).0 c);
    closed = λ j y m l e p. ⊎_elim
        (λ k. (a m).1 (inl (q.closed j y m k (kept j (omega (arith, k)) ∙ e) p)))
        (λ k. (a m).1 (inr (subst (λ z. IsMixedMember table z m) (one y x (sym e ∙ sym (kept j (omega (arith, k, l))) ∙ ap (slice_get keys) (let z : j ≡ i = omega (arith, k, l) in z) ∙ at)) p)))
        (cases_lt j i);
  }
    where
      within : i < length keys
      within = slice_get_within keys i x at

      here : (k : ℕ) (z : TypeId) → slice_get keys k ≡ Some z → Contains keys z
      here k z e = (k, slice_get_within keys k z e, get_or_from_slice_get keys k z z e)

      kept : (j : ℕ) → j < i + 1 → slice_get keys j ≡ slice_get new j
      kept j l = sym (ap (λ ks. slice_get ks j) b.1 ∙ get_front keys b.0 j (let z = within in omega (arith, z, l)))

      one : (y z : TypeId) → Some y ≡ Some z → y ≡ z
      one y z e = cc (e)

  pub queue_typed : (t : TypeId) (i : ℕ) (keys : List TypeId) → IsType table t → Queued t i keys → (x : TypeId) → Contains keys x → IsType table x
  queue_typed t i keys y q x c = held_typed t x y (q.only x c)

  pub queue_at_typed : (t : TypeId) (i : ℕ) (keys : List TypeId) (x : TypeId) → IsType table t → Queued t i keys → slice_get keys i ≡ Some x → IsType table x
  queue_at_typed t i keys x y q e = queue_typed t i keys y q x (i, slice_get_within keys i x e, get_or_from_slice_get keys i x x e)

  pub queue_within : (t : TypeId) (i : ℕ) (keys : List TypeId) (x : TypeId) → IsType table t → Queued t i keys → slice_get keys i ≡ Some x → AllPairs (λ x y. x ≢ y) keys → i < length table
  queue_within t i keys x y q e d =
      let l = few_types (length table) keys (queue_typed t i keys y q) d in
      let m = slice_get_within keys i x e in omega arith

  pub queue_done : (t : TypeId) (i : ℕ) (keys : List TypeId) → slice_get keys i ≡ None → Queued t i keys → (x : TypeId) → Contains keys x ↔ HoldsType table t x
  queue_done t i keys e q x = (q.only x, there x)
    where
      none_some : (y : TypeId) → None ≡ Some y → ⊥
      none_some y h = cc

      there : (x : TypeId) → HoldsType table t x → Contains keys x
      there x whole = q.first
      there x (member z m h p) =
          let c = there z h in
          let at : slice_get keys c.0 ≡ Some z = slice_get-get_or keys c.0 z c.1 ∙ ap Some c.2 in
          elim (cases_lt c.0 i) [
            | inl l ↦ q.closed c.0 z x l at p
            | inr l ↦ absurd (none_some (get_or keys i z) (sym e ∙ slice_get-get_or keys i z (let n = c.1 in omega (arith, n, l))))
          ]

  -- the nodes that were found in all of them are those that the type holds
  pub nodes_found : (t : TypeId) (types : List TypeId) (found : Pairs) (nodes : List (NodeId × NodeId)) → ((x : TypeId) → Contains types x ↔ HoldsType table t x)
      → Gains (RelatedBySome types (λ x. StandAlike table x x)) no_pairs found → nodes ≡ found.nodes → AreNodesIn table t nodes
  nodes_found t types found nodes each g e n = (
    λ h. by h.0 (g.nodes n h.0 (subst (λ l. Contains l (n, h.0)) e h.1)),
    λ h. (n, subst (λ l. Contains l (n, n)) (sym e) (back h.0 (down t h.0 h.1) h.2)),
  )
    where
      one_pointer : (p q : HeldPointer) → Some p ≡ Some q → p ≡ q
      one_pointer p q h = cc (h)

      by : (m : NodeId) → Contains no_pairs.nodes (n, m) ⊎ HaveNodes (RelatedBySome types (λ x. StandAlike table x x)) n m → HoldsNode table t n
      by m (inl c) = absurd (none_in (n, m) c)
      by m (inr h) = let r = h.related in (h.p, up t r.0 ((each r.0).0 r.1) h.p (at_place r.0 r.2.0 h.p r.2.1), h.first)

      back : (p : HeldPointer) → ((x : TypeId) × HoldsType table t x × ((i : ℕ) × (pointer_at table x i ≡ Some p))) → p.node ≡ n → Contains found.nodes (n, n)
      back p (x, k, h) q = subst (λ (z : NodeId). Contains found.nodes (z, z)) q (g.has p p (x, (each x).1 k, (h.0, h.1, h.1))).nodes
