use Rattle.std.specs.Prelude.{◌≢◌}
use Rattle.std.proofs.Common.{◌≡◌, ℕ, zero, suc, ◌+◌, ◌-◌, ◌*◌, ◌<◌, ◌≤◌, true, List, [], ◌∷◌, ◌++◌, length, map, get_or, slice_get, None, Some, refl, ap, sym, subst, ◌∙◌, append_assoc, inl, inr, ◌⊎◌, arith}
use Rattle.std.specs.List.{Contains, AllPairs, list_any}
use lib.Dec.{eqb}
use Rattle.std.proofs.lemmas.Bool.{cases_lt}
use Rattle.std.proofs.lemmas.Bool.Decides.{Decides-eqb}
use Rattle.std.proofs.lemmas.Option.{slice_get_within, slice_get-get_or, get_or_from_slice_get}
use Rattle.std.proofs.lemmas.List.{append-nil, length-map, get_or-map}
use Rattle.std.proofs.lemmas.List.Elements.{Contains-append_left, Contains-get_or}
use Rattle.std.proofs.lemmas.Map.Made.{IsDistinct-from_AllPairs}
use Rattle.std.proofs.lemmas.Map.Steps.{length-le_from_distinct_below}
use Rattle.indexmap.proofs.CallerLemmas.{Contains-list_any}
use Rattle.cc_base.specs.declared.number.TypeId.{TypeId}
use Rattle.cc_base.specs.declared.number.NodeId.{NodeId}
use Rattle.c_types.specs.Table.{Table}
use Rattle.c_types.specs.Flows.{HeldPointer, StandAlike, Correspond, top, inside, CorrespondByPlace}
use Rattle.c_types.specs.Sound.{IsWellFormed}
use Rattle.phys_types.specs.Pairs.{HaveNodes}
use Rattle.phys_types.specs.Found.{Pairs, Has, HavePointees, Gains}
use Rattle.phys_types.specs.Standing.{AreEqualTypes, CorrespondInSome}
use Rattle.phys_types.proofs.FoundLemmas.{gains_more}
use Rattle.phys_types.proofs.Reached.{equal_inside, all_alike}

-- Following pairs of types, one after another.

pair_same : (x y : TypeId × TypeId) → Some x ≡ Some y → x ≡ y
pair_same x y h = cc

has_still : (a b : Pairs) (R : HeldPointer → HeldPointer → Type 0) (p q : HeldPointer) → Gains R a b → Has a p q → Has b p q
has_still a b R p q g h = record {
  nodes = g.kept p.node q.node h.nodes;
  pointees = subst (λ l. Contains l (p.to, q.to)) (sym g.behind.1) (Contains-append_left a.pointees g.behind.0 (p.to, q.to) h.pointees);
}

front_same : (xs ys : List (TypeId × TypeId)) (i : ℕ) → i < length xs → slice_get (xs ++ ys) i ≡ slice_get xs i
front_same [] ys i l = absurd (omega arith)
front_same (x ∷ xs) ys zero l = refl
front_same (x ∷ xs) ys (suc i) l = front_same xs ys i (omega arith)

contained : (xs : List (TypeId × TypeId)) (i : ℕ) (x : TypeId × TypeId) → slice_get xs i ≡ Some x → Contains xs x
contained xs i x h = (i, slice_get_within xs i x h, get_or_from_slice_get xs i x x h)

module _ (table : Table) (w : IsWellFormed table) (old : Pairs) (equal : (t u : TypeId) → Contains old.pointees (t, u) → AreEqualTypes table t u) where
  -- the first i pairs of types are followed
  pub record Following (i : ℕ) (now : Pairs) : Type 0 where
    pub behind : (rest : List (TypeId × TypeId)) × (now.pointees ≡ old.pointees ++ rest)
    pub kept : (a b : NodeId) → Contains old.nodes (a, b) → Contains now.nodes (a, b)
    pub nodes : (a b : NodeId) → Contains now.nodes (a, b) → Contains old.nodes (a, b) ⊎ HaveNodes (CorrespondInSome table old.pointees) a b
    pub pointees : (t u : TypeId) → Contains now.pointees (t, u) → Contains old.pointees (t, u) ⊎ HavePointees (CorrespondInSome table old.pointees) t u
    pub closed : (j : ℕ) (t u : TypeId) (r s : HeldPointer) → j < i → slice_get now.pointees j ≡ Some (t, u) → StandAlike table t u r s → Has now r s

  pub follow_start : Following 0 old
  follow_start = record {
    behind = ([], sym (append-nil old.pointees));
    kept = λ a b c. c;
    nodes = λ a b c. inl c;
    pointees = λ t u c. inl c;
    closed = λ j t u r s l h k. absurd (omega arith);
  }

  -- what stands alike in a pair that is found corresponds in an old one
  led : (i : ℕ) (now : Pairs) (f : Following i now) (t u : TypeId) → Contains now.pointees (t, u) → (p q : HeldPointer) → StandAlike table t u p q → CorrespondInSome table old.pointees p q
  led i now f t u c p q h = elim (f.pointees t u c) [
    | inl o ↦ (t, u, o, top p q h)
    | inr o ↦ (
      o.related.0,
      o.related.1,
      o.related.2,
      inside o.p o.q p q o.related.3 (subst (λ x. StandAlike table x o.q.to p q) (sym o.first) (subst (λ y. StandAlike table t y p q) (sym o.second) h)),
    )
  ]

  pub equal_now : (i : ℕ) (now : Pairs) → Following i now → (t u : TypeId) → Contains now.pointees (t, u) → AreEqualTypes table t u
  equal_now i now f t u c = elim (f.pointees t u c) [
    | inl o ↦ equal t u o
    | inr o ↦
        let e = all_alike table w (StandAlike table o.related.0 o.related.1) (equal_inside table w o.related.0 o.related.1 (equal o.related.0 o.related.1 o.related.2)) o.p o.q o.related.3 in
        subst (λ x. AreEqualTypes table x u) o.first (subst (λ y. AreEqualTypes table o.p.to y) o.second e)
  ]

  pub follow_more : (i : ℕ) (now new : Pairs) (t u : TypeId) → slice_get now.pointees i ≡ Some (t, u) → Following i now → Gains (StandAlike table t u) now new → Following (i + 1) new
  follow_more i now new t u e f g = record {
    behind = (f.behind.0 ++ g.behind.0, g.behind.1 ∙ ap (λ l. l ++ g.behind.0) f.behind.1 ∙ append_assoc old.pointees f.behind.0 g.behind.0);
    kept = λ a b c. g.kept a b (f.kept a b c);
    nodes = λ a b c. elim (g.nodes a b c) [
      | inl o ↦ f.nodes a b o
      | inr o ↦ inr (record { p = o.p; q = o.q; related = led i now f t u here o.p o.q o.related; first = o.first; second = o.second })
    ];
    pointees = λ a b c. elim (g.pointees a b c) [
      | inl o ↦ f.pointees a b o
      | inr o ↦ inr (record { p = o.p; q = o.q; related = led i now f t u here o.p o.q o.related; first = o.first; second = o.second })
    ];
    closed = λ j a b r s l h k. elim (cases_lt j i) [
      | inl m ↦ has_still now new (StandAlike table t u) r s g (f.closed j a b r s m (sym (same j (omega arith)) ∙ h) k)
      | inr m ↦
          let z : i ≡ j = omega arith in
          let x = pair_same (t, u) (a, b) (sym e ∙ ap (slice_get now.pointees) z ∙ sym (same j (omega arith)) ∙ h) in
          g.has r s (subst (λ v. StandAlike table v u r s) (sym (ap (λ v. v.0) x)) (subst (λ v. StandAlike table a v r s) (sym (ap (λ v. v.1) x)) k))
    ];
  }
    where
      here : Contains now.pointees (t, u)
      here = contained now.pointees i (t, u) e

      same : (j : ℕ) → j ≤ i → slice_get new.pointees j ≡ slice_get now.pointees j
      same j l =
          ap (λ xs. slice_get xs j) g.behind.1
          ∙ front_same now.pointees g.behind.0 j (let m = slice_get_within now.pointees i (t, u) e in omega arith)

  -- at the end all pairs are followed
  pub follow_done : (i : ℕ) (now : Pairs) → slice_get now.pointees i ≡ None → Following i now → Gains (CorrespondInSome table old.pointees) old now
  follow_done i now e f = record {
    behind = f.behind;
    kept = f.kept;
    has = λ p q h. found h.0 h.1 h.2 p q h.3;
    nodes = f.nodes;
    pointees = f.pointees;
  }
    where
      none_some : (x : TypeId × TypeId) → None ≡ Some x → ⊥
      none_some x h = cc

      reached : (t u : TypeId) → Contains now.pointees (t, u) → (p q : HeldPointer) → StandAlike table t u p q → Has now p q
      reached t u c p q h =
          let at : slice_get now.pointees c.0 ≡ Some (t, u) = slice_get-get_or now.pointees c.0 (t, u) c.1 ∙ ap (λ z. Some z) c.2 in
          elim (cases_lt c.0 i) [
            | inl l ↦ f.closed c.0 t u p q l at h
            | inr l ↦
                let m : i < length now.pointees = (let n = c.1 in omega arith) in
                absurd (none_some (get_or now.pointees i (t, u)) (sym e ∙ slice_get-get_or now.pointees i (t, u) m))
          ]

      found : (t u : TypeId) → Contains old.pointees (t, u) → (p q : HeldPointer) → CorrespondByPlace table t u p q → Has now p q
      found t u c p q (top a b h) =
          reached t u (subst (λ l. Contains l (t, u)) (sym f.behind.1) (Contains-append_left old.pointees f.behind.0 (t, u) c)) p q h
      found t u c p q (inside a b r s h k) = reached a.to b.to (found t u c a b h).pointees p q k

-- ---- there are no more pairs than the square of the number of types

code : ℕ → TypeId × TypeId → ℕ
code n x = x.0.0 * n + x.1.0

module _ (n : ℕ) where
  row_same : (a b c d : ℕ) → b < n → d < n → a * n + b ≡ c * n + d → a ≡ c
  row_same a b c d l m e = elim (cases_lt a c) [
    | inl k ↦ absurd (let r = rows a c k in omega arith)
    | inr k ↦ elim (cases_lt c a) [
      | inl j ↦ absurd (let r = rows c a j in omega arith)
      | inr j ↦ omega arith
    ]
  ]
    where
      rows : (a b : ℕ) → a < b → a * n + n ≤ b * n
      rows a b l =
          let e : b * n ≡ a * n + n + (b - (a + 1)) * n = ap (λ k. k * n) (split a b l) ∙ spread a (b - (a + 1)) n in omega arith
        where
          split : (a b : ℕ) → a < b → b ≡ a + 1 + (b - (a + 1))
          split a b l = omega arith

          spread : (a d n : ℕ) → (a + 1 + d) * n ≡ a * n + n + d * n
          spread a d n = grind arith

  column_same : (a b c d : ℕ) → a ≡ c → a * n + b ≡ c * n + d → b ≡ d
  column_same a b c d e f = let g : a * n ≡ c * n = ap (λ k. k * n) e in omega arith

  code_below : (x : TypeId × TypeId) → x.0.0 < n → x.1.0 < n → code n x < n * n
  unfolding code
  code_below x l m = grind arith

  codes_apart : (xs : List (TypeId × TypeId)) → ((x : TypeId × TypeId) → Contains xs x → (x.0.0 < n) × (x.1.0 < n)) → AllPairs (λ x y. x ≢ y) xs → AllPairs (λ x y. x ≢ y) (map (code n) xs)
  unfolding code
  codes_apart xs h d i j e l m f =
      let k = length-map xs (code n) in
      let x : TypeId × TypeId = (record { 0 = 0 }, record { 0 = 0 }) in
      let a = h (get_or xs i x) (Contains-get_or xs i x (omega arith)) in
      let b = h (get_or xs j x) (Contains-get_or xs j x (omega arith)) in
      let s = sym (get_or-map (code n) xs i x e (omega arith)) ∙ f ∙ get_or-map (code n) xs j x e (omega arith) in
      let r = row_same (get_or xs i x).0.0 (get_or xs i x).1.0 (get_or xs j x).0.0 (get_or xs j x).1.0 a.1 b.1 s in
      let c = column_same (get_or xs i x).0.0 (get_or xs i x).1.0 (get_or xs j x).0.0 (get_or xs j x).1.0 r s in
      d i j x l (omega arith) (λ v. (record { 0 = r v }, record { 0 = c v }))

  few_codes : (xs : List (TypeId × TypeId)) → ((x : TypeId × TypeId) → Contains xs x → (x.0.0 < n) × (x.1.0 < n)) → AllPairs (λ x y. x ≢ y) xs → length xs ≤ n * n
  unfolding code
  few_codes xs h d =
      let k = length-map xs (code n) in
      let l = length-le_from_distinct_below (map (code n) xs) (n * n) (IsDistinct-from_AllPairs Decides-eqb (map (code n) xs) (codes_apart xs h d)) below in
      omega arith
    where
      below : (q : ℕ) → list_any (eqb q) (map (code n) xs) ≡ true → q < n * n
      below q m =
          let c = Contains-list_any eqb (λ x y. (Decides-eqb x y).0) (map (code n) xs) q m in
          let k = length-map xs (code n) in
          let x : TypeId × TypeId = (record { 0 = 0 }, record { 0 = 0 }) in
          let i : c.0 < length xs = (let v = c.1 in omega arith) in
          let e = h (get_or xs c.0 x) (Contains-get_or xs c.0 x i) in
          subst (λ v. v < n * n) (sym (get_or-map (code n) xs c.0 x q i) ∙ c.2) (code_below (get_or xs c.0 x) e.0 e.1)

pub few_pairs : (table : Table) (xs : List (TypeId × TypeId)) → ((t u : TypeId) → Contains xs (t, u) → AreEqualTypes table t u) → AllPairs (λ x y. x ≢ y) xs → length xs ≤ length table * length table
few_pairs table xs h d = few_codes (length table) xs (λ x c. ((h x.0 x.1 c).first, (h x.0 x.1 c).second)) d

-- ---- at the top

module _ (table : Table) (Top : HeldPointer → HeldPointer → Type 0) where
  deeper : (a b p q : HeldPointer) → Top a b → CorrespondByPlace table a.to b.to p q → Correspond table Top p q
  deeper a b p q t (top c d h) = inside a b p q (top a b t) h
  deeper a b p q t (inside c d r s h k) = inside c d p q (deeper a b c d t h) k

  from_top : (p q : HeldPointer) → Correspond table Top p q → Top p q ⊎ ((a b : HeldPointer) × Top a b × CorrespondByPlace table a.to b.to p q)
  from_top p q (top a b h) = inl h
  from_top p q (inside a b r s h k) = elim (from_top a b h) [
    | inl t ↦ inr (a, b, t, top p q k)
    | inr t ↦ inr (t.0, t.1, t.2, inside a b p q t.3 k)
  ]

  -- what corresponds at the top, and then what is led to
  pub all_depths : (a b c : Pairs) → a.pointees ≡ [] → Gains Top a b → Gains (CorrespondInSome table b.pointees) b c → Gains (Correspond table Top) a c
  all_depths a b c e g h =
      gains_more Top (CorrespondInSome table b.pointees) (Correspond table Top) a b c
      (λ p q k. elim (from_top p q k) [
        | inl t ↦ inl t
        | inr t ↦ inr (t.0.to, t.1.to, (g.has t.0 t.1 t.2).pointees, t.3)
      ])
      (λ p q t. top p q t)
      (λ p q k. elim (g.pointees k.0 k.1 k.2) [
        | inl o ↦ absurd (none (k.0, k.1) (subst (λ l. Contains l (k.0, k.1)) e o))
        | inr o ↦ deeper o.p o.q p q o.related (subst (λ x. CorrespondByPlace table x o.q.to p q) (sym o.first) (subst (λ y. CorrespondByPlace table k.0 y p q) (sym o.second) k.3))
      ])
      g h
    where
      none : (x : TypeId × TypeId) → Contains [] x → ⊥
      none x m = omega (arith, m.1)

-- ---- a step

module _ (table : Table) (w : IsWellFormed table) (old : Pairs) (equal : (t u : TypeId) → Contains old.pointees (t, u) → AreEqualTypes table t u) (i : ℕ) (now : Pairs)
    (f : Following table w old equal i now) (t u : TypeId) (e : slice_get now.pointees i ≡ Some (t, u)) where
  pub equal_at : AreEqualTypes table t u
  equal_at = equal_now table w old equal i now f t u (contained now.pointees i (t, u) e)

  pub step_within : AllPairs (λ x y. x ≢ y) now.pointees → i < length table * length table
  step_within d =
      let l = few_pairs table now.pointees (equal_now table w old equal i now f) d in
      let m = slice_get_within now.pointees i (t, u) e in omega arith

  pub step_small : AllPairs (λ x y. x ≢ y) now.pointees → i < 18446744073709551615
  step_small d = let l = step_within d in let m = square (length table) w.small in omega arith
    where
      square : (n : ℕ) → n ≤ 16384 → n * n ≤ 268435456
      square n h = grind arith
