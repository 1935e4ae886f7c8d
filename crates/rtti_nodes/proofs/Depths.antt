-- What types tell by their own pointers they tell at every depth, where numbers tell classes.
use Rattle.std.specs.Prelude.{◌↔◌, IsTrue}
use Rattle.std.proofs.Common.{◌≡◌, ℕ, ◌+◌, ◌<◌, ◌≤◌, Bool, true, false, List, [], ◌∷◌, ◌++◌, length, get_or, Some, refl, ap, sym, subst, ◌∙◌, inl, inr, arith}
use Rattle.std.specs.List.{All, Contains}
use Rattle.std.proofs.lemmas.Bool.{cases_lt}
use Rattle.std.proofs.lemmas.List.{get_or_append_left, get_or_push, get_or_default, length_push}
use Rattle.cc_base.specs.declared.number.TypeId.{TypeId}
use Rattle.cc_base.specs.declared.number.NodeId.{NodeId}
use Rattle.cc_base.specs.declared.kind.Kind.{Kind}
use Rattle.c_types.specs.Table.{Table, Entry, IsType, AreNodesOf}
use Rattle.c_types.specs.Equality.{physically_equal, begins_with}
use Rattle.c_types.specs.Flows.{HeldPointer, StandAlike, top, inside, CorrespondByPlace, IsOfOneClass, Covers}
use Rattle.c_types.specs.Coverage.{covers, of_one_class}
use Rattle.c_types.specs.Sound.{IsWellFormed}
use Rattle.type_laws.proofs.Coverage.{covers_is, one_class_is}
use Rattle.type_laws.proofs.Relations.{equal_equiv}
use Rattle.type_laws.proofs.Pointers.{equal_mirrors}
use Rattle.phys_types.specs.declared.spot.Layout.{Layout}
use Rattle.phys_types.specs.Firsts.{AreFirstsWith}
use Rattle.phys_types.specs.Found.{Pairs, no_pairs, Gains}
use Rattle.phys_types.specs.Numbers.{number_in}
use Rattle.phys_types.specs.Shown.{IsLayoutOf}
use Rattle.phys_types.specs.Signatures.{mixed}
use Rattle.phys_types.proofs.LawLemmas.{opened, facts_of_class, facts_of_cover}
use Rattle.phys_types.proofs.Reached.{pointee_typed}
use Rattle.phys_types.proofs.Unions.{same_answer}
use Rattle.rtti_nodes.specs.Numbering.{label_at, AreCoarse, AreFine, AgreeAtPlaces, AreAlikeBy}
use Rattle.rtti_nodes.proofs.Labelled.{labels_alike}
use Rattle.rtti_nodes.proofs.PointerKinds.{at_places}

some_same : (p q : HeldPointer) → Some p ≡ Some q → p ≡ q
some_same p q h = cc

no_nodes : (x : NodeId × NodeId) → Contains [] x → ⊥
no_nodes x m = omega (arith, m.1)

no_types : (x : TypeId × TypeId) → Contains [] x → ⊥
no_types x m = omega (arith, m.1)

same_id : (t : TypeId) (k : ℕ) → t.0 ≡ k → t ≡ record { 0 = k }
same_id t k e = ap (λ (i : ℕ). record { 0 = i }) e

-- the numbers of the first n types are finer
pub record AreFiner (table : Table) (kind : NodeId → Kind) (numbers finer : List ℕ) (n : ℕ) : Type 0 where
  pub count : length finer ≡ n
  pub labelled : (t : TypeId) → t.0 < n → (x : Layout) × IsLayoutOf table (physically_equal table) t x
      × (number_in finer t ≡ mixed (number_in numbers t) (label_at table kind (number_in numbers) t x))

pub none_finer : (table : Table) (kind : NodeId → Kind) (numbers finer : List ℕ) → finer ≡ [] → AreFiner table kind numbers finer 0
none_finer table kind numbers finer e = record { count = ap length e; labelled = λ t l. absurd (omega arith) }

-- one more type is like the first of its number
pub alike_more : (table : Table) (kind : NodeId → Kind) (numbers : List ℕ) (firsts : List TypeId) (n : ℕ) (f : TypeId) → n < length firsts → f ≡ get_or firsts n f
    → ((t d : TypeId) → t.0 < n → AreAlikeBy table kind numbers t (get_or firsts t.0 d)) → AreAlikeBy table kind numbers (record { 0 = n }) f
    → (t d : TypeId) → t.0 < n + 1 → AreAlikeBy table kind numbers t (get_or firsts t.0 d)
alike_more table kind numbers firsts n f l e inv a t d m = elim (cases_lt t.0 n) [
  | inl b ↦ inv t d b
  | inr b ↦
      let q : t.0 ≡ n = omega arith in
      subst (λ (v : TypeId). AreAlikeBy table kind numbers v (get_or firsts v.0 d)) (sym (same_id t n q))
      (subst (AreAlikeBy table kind numbers (record { 0 = n })) (e ∙ get_or_default firsts n f d l) a)
]

module _ (table : Table) (w : IsWellFormed table) (kind : NodeId → Kind) where
  -- ---- types with one number that agree by their own pointers

  module _ (numbers : List ℕ) (each : (t u : TypeId) → IsType table t → IsType table u → number_in numbers t ≡ number_in numbers u → AreAlikeBy table kind numbers t u) where
    record AreLike (p q : HeldPointer) : Type 0 where
      kinds : kind p.node ≡ kind q.node
      same : number_in numbers p.to ≡ number_in numbers q.to
      first : IsType table p.to
      second : IsType table q.to

    like : (t u : TypeId) → IsType table t → IsType table u → AgreeAtPlaces table kind numbers t u → (p q : HeldPointer) → StandAlike table t u p q → AreLike p q
    like t u a b g p q (i, x, y) = record {
      kinds = (g p q (i, x, y)).0;
      same = (g p q (i, x, y)).1;
      first = pointee_typed table w t i p a x;
      second = pointee_typed table w u i q b y;
    }

    all_like : (t u : TypeId) → IsType table t → IsType table u → AgreeAtPlaces table kind numbers t u → (p q : HeldPointer) → CorrespondByPlace table t u p q → AreLike p q
    all_like t u a b g p q (top x y s) = like t u a b g p q s
    all_like t u a b g p q (inside c d x y h s) =
        let k = all_like t u a b g c d h in
        like c.to d.to k.first k.second (each c.to d.to k.first k.second k.same).1 p q s

    pub are_fine : AreFine table kind numbers
    are_fine t u a b e = let k = each t u a b e in record { equal = k.0; kinds = λ p q h. (all_like t u a b k.1 p q h).kinds }

  pub own_alike : (numbers : List ℕ) (t u : TypeId) → t.0 ≡ u.0 → AreAlikeBy table kind numbers t u
  own_alike numbers t u e = subst (AreAlikeBy table kind numbers t) (ap (λ (i : ℕ). record { 0 = i }) e) (
    (equal_equiv table).refl t,
    λ p q s. let h = some_same p q (sym s.1 ∙ s.2) in (ap (λ (z : HeldPointer). kind z.node) h, ap (λ (z : HeldPointer). number_in numbers z.to) h),
  )

  -- ---- each type is compared with the first of its number

  module _ (numbers : List ℕ) (firsts : List TypeId) (f : AreFirstsWith (number_in numbers) (length table) firsts)
      (each : (t d : TypeId) → IsType table t → AreAlikeBy table kind numbers t (get_or firsts t.0 d)) where
    one_first : (t u d : TypeId) → IsType table t → IsType table u → number_in numbers t ≡ number_in numbers u → get_or firsts t.0 d ≡ get_or firsts u.0 d
    one_first t u d a b e =
        let x = f.first t d a in
        let y = f.first u d b in
        let l : (get_or firsts t.0 d).0 ≤ (get_or firsts u.0 d).0 = x.first (get_or firsts u.0 d) (y.same ∙ sym e) in
        let m : (get_or firsts u.0 d).0 ≤ (get_or firsts t.0 d).0 = y.first (get_or firsts t.0 d) (x.same ∙ e) in
        let z : (get_or firsts t.0 d).0 ≡ (get_or firsts u.0 d).0 = omega arith in
        ap (λ (i : ℕ). record { 0 = i }) z

    both : (t u v : TypeId) → AreAlikeBy table kind numbers t v → AreAlikeBy table kind numbers u v → AreAlikeBy table kind numbers t u
    both t u v x y = (
      (equal_equiv table).symm t u ∙ (equal_equiv table).congr u v t y.0 ∙ (equal_equiv table).symm v t ∙ x.0,
      λ p q s.
          let m = opened table v u (equal_mirrors table w v u ((equal_equiv table).symm v u ∙ y.0)) s.0 q s.2 in
          let g = x.1 p m.0 (s.0, s.1, m.1) in
          let h = y.1 q m.0 (s.0, s.2, m.1) in
          (g.0 ∙ sym h.0, g.1 ∙ sym h.1),
    )

    pub fine_by_firsts : AreFine table kind numbers
    fine_by_firsts = are_fine numbers (λ t u a b e.
        both t u (get_or firsts t.0 t) (each t t a) (subst (AreAlikeBy table kind numbers u) (sym (one_first t u t a b e)) (each u t b)))

  -- ---- finer numbers

  pub finer_more : (numbers finer more : List ℕ) (n m : ℕ) (x : Layout) → AreFiner table kind numbers finer n → IsLayoutOf table (physically_equal table) (record { 0 = n }) x
      → m ≡ mixed (number_in numbers (record { 0 = n })) (label_at table kind (number_in numbers) (record { 0 = n }) x) → more ≡ finer ++ m ∷ [] → AreFiner table kind numbers more (n + 1)
  finer_more numbers finer more n m x inv h e pushed = record {
    count = ap length pushed ∙ length_push finer m ∙ ap (λ k. k + 1) inv.count;
    labelled = λ t l. elim (cases_lt t.0 n) [
      | inl a ↦
          let k = inv.labelled t a in
          let c = inv.count in
          (k.0, k.1, ap (λ xs. number_in xs t) pushed ∙ get_or_append_left finer (m ∷ []) 0 t.0 (omega arith) ∙ k.2)
      | inr a ↦
          let q : t.0 ≡ n = omega arith in
          let s = same_id t n q in (
            x,
            subst (λ u. IsLayoutOf table (physically_equal table) u x) (sym s) h,
            ap (λ xs. number_in xs t) pushed ∙ ap (λ k. get_or (finer ++ m ∷ []) k 0) q ∙ get_or_push finer m 0 n inv.count ∙ e
                ∙ sym (ap (λ u. mixed (number_in numbers u) (label_at table kind (number_in numbers) u x)) s),
          )
    ];
  }

  pub finer_coarse : (numbers finer : List ℕ) (n : ℕ) → length table ≤ n → AreFiner table kind numbers finer n → AreCoarse table kind numbers → AreCoarse table kind finer
  finer_coarse numbers finer n l f c t u a b one =
      let x = f.labelled t (omega arith) in
      let y = f.labelled u (omega arith) in
      x.2 ∙ (λ i. mixed (c t u a b one i) (labels_alike table w kind numbers c t u a b one x.0 y.0 x.1 y.1 i)) ∙ sym y.2

  -- ---- covering, by the first places

  module _ (numbers : List ℕ) (coarse : AreCoarse table kind numbers) (fine : AreFine table kind numbers) (t u : TypeId) (a : IsType table t) (b : IsType table u) where
    record AreOne (p q : HeldPointer) : Type 0 where
      kinds : kind p.node ≡ kind q.node
      class : IsOfOneClass table kind p.to q.to

    at_place : (v z : TypeId) → IsOfOneClass table kind v z → (p q : HeldPointer) → StandAlike table v z p q → AreOne p q
    at_place v z c p q (i, x, y) =
        let k = facts_of_class table kind v z i q w c y in
        let s : p ≡ k.0 = some_same p k.0 (sym x ∙ k.1) in
        record {
          kinds = ap (λ (m : HeldPointer). kind m.node) s ∙ k.2;
          class = subst (λ (m : HeldPointer). IsOfOneClass table kind m.to q.to) (sym s) k.3;
        }

    all_one : AgreeAtPlaces table kind numbers t u → (p q : HeldPointer) → CorrespondByPlace table t u p q → AreOne p q
    all_one g p q (top x y (i, c, d)) =
        let k = g p q (i, c, d) in
        record { kinds = k.0; class = fine p.to q.to (pointee_typed table w t i p a c) (pointee_typed table w u i q b d) k.1 }
    all_one g p q (inside c d x y h s) = at_place c.to d.to (all_one g c d h).class p q s

    covers_by : begins_with table t u ≡ true → AgreeAtPlaces table kind numbers t u → Covers table kind t u
    covers_by e g = record { begins = e; kinds = λ p q h. (all_one g p q h).kinds }

    agree_by : Covers table kind t u → AgreeAtPlaces table kind numbers t u
    agree_by c p q (i, x, y) =
        let k = facts_of_cover table kind t u i q w c y in
        let s : p ≡ k.0 = some_same p k.0 (sym x ∙ k.1) in (
          ap (λ (m : HeldPointer). kind m.node) s ∙ k.2,
          coarse p.to q.to (pointee_typed table w t i p a x) (pointee_typed table w u i q b y)
              (subst (λ (m : HeldPointer). IsOfOneClass table kind m.to q.to) (sym s) k.3),
        )

    pub covers_by_places : (r : Bool) → begins_with table t u ≡ true → IsTrue r ↔ AgreeAtPlaces table kind numbers t u → r ≡ covers table kind t u
    covers_by_places r e h =
        same_answer r (covers table kind t u) (λ k. (covers_is table kind t u).1 (covers_by e (h.0 k))) (λ k. h.1 (agree_by ((covers_is table kind t u).0 k)))

  -- ---- classes, by numbers

  pub other_class : (numbers : List ℕ) → AreCoarse table kind numbers → (t u : TypeId) → IsType table t → IsType table u → (m n : ℕ) → m ≡ number_in numbers t → n ≡ number_in numbers u
      → (m ≡ n → ⊥) → false ≡ of_one_class table kind t u
  other_class numbers c t u a b m n e f h = by (of_one_class table kind t u) refl
    where
      by : (r : Bool) → of_one_class table kind t u ≡ r → false ≡ of_one_class table kind t u
      by true k = absurd (h (e ∙ c t u a b ((one_class_is table kind t u).0 k) ∙ sym f))
      by false k = sym k

  pub one_class : (numbers : List ℕ) → AreFine table kind numbers → (t u : TypeId) → IsType table t → IsType table u → (m n : ℕ) → m ≡ number_in numbers t → n ≡ number_in numbers u
      → m ≡ n → true ≡ of_one_class table kind t u
  one_class numbers c t u a b m n e f h = sym ((one_class_is table kind t u).1 (c t u a b (sym e ∙ h ∙ f)))

-- what is found at the same places tells whether they agree
module _ (table : Table) (kind : NodeId → Kind) (numbers : List ℕ) (t u : TypeId) (old found : Pairs) (start : old ≡ no_pairs) (g : Gains (StandAlike table t u) old found) where
  pub agree_told : (nodes : List (NodeId × NodeId)) (pointees : List (TypeId × TypeId)) → nodes ≡ found.nodes → pointees ≡ found.pointees
      → ((a b : NodeId) → Contains nodes (a, b) → kind a ≡ kind b) → ((v z : TypeId) → Contains pointees (v, z) → number_in numbers v ≡ number_in numbers z)
      → AgreeAtPlaces table kind numbers t u
  agree_told nodes pointees e f k n p q s =
      let h = g.has p q s in
      (k p.node q.node (subst (λ xs. Contains xs (p.node, q.node)) (sym e) h.nodes), n p.to q.to (subst (λ xs. Contains xs (p.to, q.to)) (sym f) h.pointees))

  pub kinds_agree : AgreeAtPlaces table kind numbers t u → (nodes : List (NodeId × NodeId)) → nodes ≡ found.nodes → (a b : NodeId) → Contains nodes (a, b) → kind a ≡ kind b
  kinds_agree h nodes e a b c = elim (g.nodes a b (subst (λ xs. Contains xs (a, b)) e c)) [
    | inl o ↦ absurd (no_nodes (a, b) (subst (λ (p : Pairs). Contains p.nodes (a, b)) start o))
    | inr o ↦ ap kind (sym o.first) ∙ (h o.p o.q o.related).0 ∙ ap kind o.second
  ]

  pub numbers_agree : AgreeAtPlaces table kind numbers t u → (pointees : List (TypeId × TypeId)) → pointees ≡ found.pointees → (v z : TypeId) → Contains pointees (v, z)
      → number_in numbers v ≡ number_in numbers z
  numbers_agree h pointees e v z c = elim (g.pointees v z (subst (λ xs. Contains xs (v, z)) e c)) [
    | inl o ↦ absurd (no_types (v, z) (subst (λ (p : Pairs). Contains p.pointees (v, z)) start o))
    | inr o ↦ ap (number_in numbers) (sym o.first) ∙ (h o.p o.q o.related).1 ∙ ap (number_in numbers) o.second
  ]

  pub places_in_range : (n : ℕ) → IsWellFormed table → All (λ (e : Entry). AreNodesOf n e.shape) table → (nodes : List (NodeId × NodeId)) → nodes ≡ found.nodes
      → (a b : NodeId) → Contains nodes (a, b) → (a.0 < n) × (b.0 < n)
  places_in_range n w typed nodes e a b c = elim (g.nodes a b (subst (λ xs. Contains xs (a, b)) e c)) [
    | inl o ↦ absurd (no_nodes (a, b) (subst (λ (p : Pairs). Contains p.nodes (a, b)) start o))
    | inr o ↦
        let r = at_places n table w typed t u o.p o.q o.related in
        (subst (λ (x : NodeId). x.0 < n) o.first r.0, subst (λ (x : NodeId). x.0 < n) o.second r.1)
  ]
