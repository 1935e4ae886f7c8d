-- Each pointer type of a table has a node of the unit, and no node is that of two.
use Rattle.std.specs.List.{range_with_len, All, IsDistinct}
use Rattle.std.proofs.Common.{◌≡◌, ◌≢◌, ◌⊎◌, ℕ, zero, suc, ◌<◌, ◌+◌, ◌≤◌, ◌==◌, Bool, true, false, List, [], ◌∷◌, ◌++◌, map, length, nat_eq, refl, ap, sym, ◌∙◌, inl, inr, arith, if◌then◌else◌, true≢false}
use Rattle.std.proofs.lemmas.Bool.Decides.{eqb_tells, nat_tests}
use Rattle.cc_base.specs.declared.number.NodeId.{NodeId}
use Rattle.cc_base.specs.declared.number.TypeId.{TypeId}
use Rattle.c_types.specs.declared.shape.TypeShape.TheVariants.{Pointer}
use Rattle.c_types.specs.Calls.{basic_table}
use Rattle.c_types.specs.Table.{Table, HasShape, shape_at}
use Rattle.c_tree.specs.TypedTree.{TypedTranslationUnit}
use Rattle.c_tree.specs.TypedParts.{nodes_made, made_by_unit}
use Rattle.c_typing.specs.Settled.{IsBasic}
use Rattle.c_typing.specs.Shapes.{is_pointer_shape}
use Rattle.c_type_order.specs.TypesUsed.{AreUses}
use Rattle.c_unit_typing.specs.Units as units
use Rattle.c_unit_typing.specs.Units.{IsUnitTyped}
use Rattle.c_unit_typing.specs.TypesUsed.{used_by_unit}
use Rattle.c_ready.specs.Ready.{AreReadyExternals, static_stage, homes_of, member_nodes}
use Rattle.c_ready.proofs.Counting.{one, one-self, count, range-once}
use Rattle.c_ready.proofs.HomesApart.{occurs, occurs-append, distinct-once, none-equal, homes-most}
use Rattle.c_ready.proofs.NodesUsed.{of_shape, uses}
use Rattle.c_ready.proofs.MembersMade.{unit-less}
use Rattle.c_ready.proofs.NodesOfUnits.{unit-uses, single, two}

-- past the end of the range
range-past : (n a k : ℕ) (nodes : List NodeId) → map (λ (m : NodeId). m.0) nodes ≡ range_with_len a k → a + k ≤ n → count n nodes ≡ 0
unfolding one
range-past n a k [] h p = refl
range-past n a zero (m ∷ ms) h p = let l = ap (λ (xs : List ℕ). length xs) h in absurd (omega (arith, l))
range-past n a (suc k) (m ∷ ms) h p =
    let r = range-past n (a + 1) k ms (tails (map (λ (x : NodeId). x.0) ms) (range_with_len (a + 1) k) m.0 a h) (omega (arith, p)) in
    let e = heads (map (λ (x : NodeId). x.0) ms) (range_with_len (a + 1) k) m.0 a h in
    let z = other m (omega (arith, e, p)) in omega (arith, r, z)
  where
    heads : (xs ys : List ℕ) (x y : ℕ) → x ∷ xs ≡ y ∷ ys → x ≡ y
    heads xs ys x y e = cc

    tails : (xs ys : List ℕ) (x y : ℕ) → x ∷ xs ≡ y ∷ ys → xs ≡ ys
    tails xs ys x y e = cc

    other : (m : NodeId) → m.0 < n → one n m ≡ 0
    other m l = ap (λ (b : Bool). if b then 1 else 0) (apart m.0 l)
      where
        apart : (i : ℕ) → i < n → (i == n) ≡ false
        apart i g = grind (arith, nat_tests)

below_or_not : (i k : ℕ) → (i < k) ⊎ (k ≤ i)
below_or_not i zero = inr (omega arith)
below_or_not zero (suc k) = inl (omega arith)
below_or_not (suc i) (suc k) = elim (below_or_not i k) [
  | inl l ↦ inl (omega (arith, l))
  | inr g ↦ inr (omega (arith, g))
]

-- the basic types are no pointers
number : ℕ → TypeId
number n = record { 0 = n }

module _ (T : Table) (b : IsBasic T) where
  basic-plain : (i : ℕ) → i < 9 → is_pointer_shape (shape_at T (number i)) ≡ false
  unfolding number
  basic-plain zero h = ap is_pointer_shape b.void.1
  basic-plain (suc zero) h = ap is_pointer_shape (b.integers (record { bytes = 1; signed = true }) (inl refl)).1
  basic-plain (suc (suc zero)) h = ap is_pointer_shape (b.integers (record { bytes = 1; signed = false }) (inl refl)).1
  basic-plain (suc (suc (suc zero))) h = ap is_pointer_shape (b.integers (record { bytes = 2; signed = true }) (inr (inl refl))).1
  basic-plain (suc (suc (suc (suc zero)))) h = ap is_pointer_shape (b.integers (record { bytes = 2; signed = false }) (inr (inl refl))).1
  basic-plain (suc (suc (suc (suc (suc zero))))) h = ap is_pointer_shape (b.integers (record { bytes = 4; signed = true }) (inr (inr (inl refl)))).1
  basic-plain (suc (suc (suc (suc (suc (suc zero)))))) h =
      ap is_pointer_shape (b.integers (record { bytes = 4; signed = false }) (inr (inr (inl refl)))).1
  basic-plain (suc (suc (suc (suc (suc (suc (suc zero))))))) h =
      ap is_pointer_shape (b.integers (record { bytes = 8; signed = true }) (inr (inr (inr refl)))).1
  basic-plain (suc (suc (suc (suc (suc (suc (suc (suc zero)))))))) h =
      ap is_pointer_shape (b.integers (record { bytes = 8; signed = false }) (inr (inr (inr refl)))).1
  basic-plain (suc (suc (suc (suc (suc (suc (suc (suc (suc n))))))))) h = absurd (omega (arith, h))

  later : (t : TypeId) (n : NodeId) (to : TypeId) → HasShape T t (Pointer n to) → 9 ≤ t.0
  unfolding number
  later t n to h = elim (below_or_not t.0 9) [
    | inl l ↦ absurd (true≢false (sym (ap is_pointer_shape h.1) ∙ basic-plain t.0 l))
    | inr g ↦ g
  ]

module _ (T : Table) (u : TypedTranslationUnit) (before after : units.Known) (basic : IsBasic T)
    (numbered : map (λ (n : NodeId). n.0) (nodes_made (made_by_unit u)) ≡ range_with_len 0 (length (nodes_made (made_by_unit u))))
    (typed : IsUnitTyped T u before after) (types : AreUses (used_by_unit T u) (length basic_table) (length T))
    (ready : AreReadyExternals (static_stage T u) u) where
  all-most : (n : ℕ) → uses T n (used_by_unit T u) + occurs n (homes_of u ++ member_nodes u) ≤ count n (nodes_made (made_by_unit u))
  all-most n = let a = unit-uses (static_stage T u) n u before after typed ready in let b = homes-most u n in
      let c = (unit-less n u).few in let d = occurs-append n (homes_of u) (member_nodes u) in omega (arith, a, b, c, d)

  made-most : (n : ℕ) → uses T n (used_by_unit T u) ≤ count n (nodes_made (made_by_unit u))
  made-most n = let a = all-most n in omega (arith, a)

  own-node : (t : TypeId) (n : NodeId) (to : TypeId) → HasShape T t (Pointer n to) → of_shape n.0 (shape_at T t) ≡ 1
  own-node t n to h = ap (of_shape n.0) h.1 ∙ one-self n

  made-once : (n : ℕ) → count n (nodes_made (made_by_unit u)) ≤ 1
  made-once n = (range-once n 0 (length (nodes_made (made_by_unit u))) (nodes_made (made_by_unit u)) numbered).1

  -- objects and member expressions have nodes of their own
  pub members-apart : IsDistinct nat_eq (homes_of u ++ member_nodes u)
  members-apart =
      distinct-once (homes_of u ++ member_nodes u) (λ n. let most = all-most n in let once = made-once n in omega (arith, most, once))

  pub nodes-there : (t to : TypeId) (n : NodeId) → HasShape T t (Pointer n to) → n.0 < length (nodes_made (made_by_unit u))
  nodes-there t to n h =
      let once = single T n.0 (used_by_unit T u) (length basic_table) (length T) types t (later T basic t n to h) h.0 in
      let most = made-most n.0 in
      let own = own-node t n to h in
      within (length (nodes_made (made_by_unit u)))
      (λ p. range-past n.0 0 (length (nodes_made (made_by_unit u))) (nodes_made (made_by_unit u)) numbered p) (omega (arith, once, most, own))
    where
      within : (k : ℕ) → (0 + k ≤ n.0 → count n.0 (nodes_made (made_by_unit u)) ≡ 0) → 1 ≤ count n.0 (nodes_made (made_by_unit u)) → n.0 < k
      within k f c = elim (below_or_not n.0 k) [
        | inl l ↦ l
        | inr g ↦ let z = f (omega (arith, g)) in absurd (omega (arith, z, c))
      ]

  pub pointees-one : (t to v w : TypeId) (n : NodeId) → HasShape T t (Pointer n to) → HasShape T v (Pointer n w) → t ≡ v
  pointees-one t to v w n h g = elim (eqb_tells t.0 v.0) [
    | inl same ↦ ap (λ (i : ℕ). record { 0 = i }) same.1
    | inr apart ↦
        let both = two T n.0 (used_by_unit T u) (length basic_table) (length T) types t v apart.1 (later T basic t n to h) h.0
        (later T basic v n w g) g.0 in
        let most = made-most n.0 in
        let a = own-node t n to h in
        let b = own-node v n w g in
        let once = (range-once n.0 0 (length (nodes_made (made_by_unit u))) (nodes_made (made_by_unit u)) numbered).1 in
        absurd (omega (arith, both, most, a, b, once))
  ]

  pub homes-other : (t to : TypeId) (n : NodeId) → HasShape T t (Pointer n to) → All (λ h. h ≢ n.0) (homes_of u ++ member_nodes u)
  homes-other t to n h =
      let used = single T n.0 (used_by_unit T u) (length basic_table) (length T) types t (later T basic t n to h) h.0 in
      let most = all-most n.0 in
      let own = own-node t n to h in
      let once = (range-once n.0 0 (length (nodes_made (made_by_unit u))) (nodes_made (made_by_unit u)) numbered).1 in
      none-equal n.0 (homes_of u ++ member_nodes u) (omega (arith, used, most, own, once))
