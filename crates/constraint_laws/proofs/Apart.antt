-- Plain nodes are joined to plain nodes only.
use Rattle.std.proofs.Common.{◌≡◌, ℕ, zero, suc, ◌<◌, ◌≤◌, Bool, true, false, not, ◌&&◌, ◌||◌, List, [], ◌∷◌, length, get_or, map, slice_get, Some, nat_lt, refl, ap, sym, subst, ◌∙◌, inl, inr, true≢false, arith, if◌then◌else◌}
use Rattle.std.specs.List.{Contains, All, list_all, range_with_len}
use Rattle.std.proofs.lemmas.Bool.Decides.{nat_tests}
use Rattle.std.proofs.lemmas.Bool.{cases_lt}
use Rattle.std.proofs.lemmas.Option.{slice_get-get_or, slice_get_within, get_or_from_slice_get}
use Rattle.std.proofs.lemmas.List.Elements.{All-contains, Contains-get_or}
use Rattle.cc_base.specs.declared.number.TypeId.{TypeId}
use Rattle.cc_base.specs.declared.number.NodeId.{NodeId}
use Rattle.c_types.specs.declared.shape.TypeShape.{TypeShape}
use Rattle.c_types.specs.declared.shape.TypeShape.TheVariants as shape
use Rattle.c_types.specs.declared.flow_class.FlowClass.{FlowClass}
use Rattle.c_types.specs.declared.flow_class.FlowClass.TheVariants as class
use Rattle.kind_sites.specs.declared.site.Site.{Site}
use Rattle.kind_sites.specs.declared.site.Site.TheVariants as site
use Rattle.c_types.specs.Table.{Table, IsType, IsComplete, shape_at, members_at, is_function, is_function_shape, is_complete_entry, parts_of_shape}
use Rattle.c_types.specs.Layouts.{size_of}
use Rattle.c_types.specs.Cells.{mixed, begins, longest, padded_to, union_cells, cells_of_shape, holds_pointer, holds_in_shape}
use Rattle.c_types.specs.Equality.{physically_equal, begins_with, cells_of}
use Rattle.c_types.specs.Flows.{HeldPointer, pointer_at, flow_class, StandAlike, StandInTiles, CorrespondAtTop, Correspond, top, inside, CorrespondInFlow, CorrespondByPlace}
use Rattle.c_types.specs.Contents.{HoldsMixed, Holds, at_place, in_member, IsLargest}
use Rattle.c_types.specs.Sound.{IsWellFormed}
use Rattle.c_types.proofs.Cells.{cells_are}
use Rattle.type_laws.proofs.Relations.{equal_equiv}
use Rattle.type_laws.proofs.Pointers.{begins_mirrors}
use Rattle.kind_solver.specs.declared.constraint.Constraint.{Constraint}
use Rattle.kind_solver.specs.declared.constraint.Constraint.TheVariants.{Flow, Needs, Equal, Inside, Linked, Force, Plain}
use Rattle.kind_solver.specs.declared.constraint.Why.TheVariants as why
use Rattle.kind_solver.specs.Constraints.{IsWithin, AreWithin, IsPlain, BothPlain, NonePlain, KeepsPlain, PlainApart}
use Rattle.phys_types.specs.Pairs.{HaveNodes}
use Rattle.phys_types.specs.Standing.{AreEqualTypes}
use Rattle.src_mem.specs.Memory.{Planned}
use Rattle.cil_form.specs.Shape.{IsSiteInShape}
use Rattle.c_types.specs.Table.{IsUnion}
use Rattle.cil_form.specs.Told.{AreSitesTold}
use Rattle.phys_types.proofs.LawLemmas.{opened}
use Rattle.phys_types.proofs.Classes.{function_class, equal_class}
use Rattle.phys_types.proofs.Reached.{Tells, class_tells, top_alike, equal_inside}
use Rattle.phys_types.proofs.Turns.{equal_function}
use Rattle.constraint_laws.specs.Given.{HasContents, AreOfOneCell, in_flow, declared, in_union, IsGiven, AreGiven}
use Rattle.constraint_laws.proofs.NonePointers.{holds_is, any-none}
use Rattle.constraint_laws.proofs.Raw.{AllRaw, all-raw, raw-begins}
use Rattle.constraint_laws.proofs.Longest.{Largest, largest, all-of}
use Rattle.constraint_laws.proofs.Held.{union_tag, held-in-table}

-- Members of a union that isn't mixed

complete-data : (table : Table) (t : TypeId) → IsComplete table t → is_function table t ≡ false
complete-data table t c = by (shape_at table t) (members_at table t) c
  where
    by : (s : TypeShape) (ms : List TypeId) → is_complete_entry s ms ≡ true → is_function_shape s ≡ false
    by shape.Void ms h = refl
    by (shape.Integer n q) ms h = refl
    by (shape.Pointer n t) ms h = refl
    by (shape.Array t n) ms h = refl
    by (shape.Function ps q) ms h = absurd (true≢false (sym h))
    by (shape.Struct n) ms h = refl
    by (shape.Union n) ms h = refl

one-member : (m n : TypeId) → Some m ≡ Some n → m ≡ n
one-member m n h = cc

module _ (table : Table) (w : IsWellFormed table) where
  -- there is one largest member
  one-largest : (v m : TypeId) (ms : List TypeId) → members_at table v ≡ ms → IsLargest table v m → (big : Largest (cells_of table) ms) → big.member ≡ m
  one-largest v m ms e l big = elim (cases_lt big.place l.place) [
    | inl a ↦ absurd (apart (length (cells_of table big.member)) (length (cells_of table m)) (l.before big.place big.member found (lt big.place l.place a)) (big.after l.place m there))
    | inr b ↦ elim (cases_lt l.place big.place) [
      | inl a ↦ absurd (apart (length (cells_of table m)) (length (cells_of table big.member)) (big.before l.place m there (lt l.place big.place a)) (l.after big.place big.member found))
      | inr c ↦ one-member big.member m (sym big.found ∙ ap (slice_get ms) (let z : big.place ≡ l.place = omega (arith, b, c) in z) ∙ there)
    ]
  ]
    where
      there : slice_get ms l.place ≡ Some m
      there = ap (λ xs. slice_get xs l.place) (sym e) ∙ l.found

      found : slice_get (members_at table v) big.place ≡ Some big.member
      found = ap (λ xs. slice_get xs big.place) e ∙ big.found

      lt : (a b : ℕ) → a < b → nat_lt a b ≡ true
      lt a b h = grind (arith, nat_tests)

      apart : (a b : ℕ) → nat_lt a b ≡ true → nat_lt a b ≡ false → ⊥
      apart a b h k = true≢false (sym h ∙ k)

  -- the largest member of a union that isn't mixed begins with each member
  pub member-begins : (v u m : TypeId) → IsUnion table v → (HoldsMixed table v v → ⊥) → Contains (members_at table v) u → IsLargest table v m → begins_with table m u ≡ true
  member-begins v u m iu plain c l = by (members_at table v) refl
    where
      tag : (tag : ℕ) × (shape_at table v ≡ shape.Union tag)
      tag = union_tag (shape_at table v) iu

      part : (x : TypeId) → Contains (members_at table v) x → IsComplete table x
      part x k = All-contains (IsComplete table) (members_at table v) x (subst (λ s. All (IsComplete table) (parts_of_shape s (members_at table v))) tag.1 (w.each v).parts) k

      member : Contains (members_at table v) m
      member = (l.place, slice_get_within (members_at table v) l.place m l.found, get_or_from_slice_get (members_at table v) l.place m m l.found)

      le : (a b : ℕ) → nat_lt a b ≡ false → b ≤ a
      le a b h = grind (arith, nat_tests)

      begun : begins (physically_equal table) (cells_of table m) (cells_of table u) ≡ true → begins_with table m u ≡ true
      begun q = λ i. not (complete-data table m (part m member) i) && (not (complete-data table u (part u c) i) && q i)

      by : (ms : List TypeId) → members_at table v ≡ ms → begins_with table m u ≡ true
      by [] e = absurd (let k : Contains [] u = subst (λ xs. Contains xs u) e c in omega (arith, k.1))
      by (x ∷ xs) e = at (holds_pointer table v) refl (list_all (begins (physically_equal table) (longest (map (cells_of table) (x ∷ xs)))) (map (cells_of table) (x ∷ xs))) refl
        where
          complete : IsComplete table v
          complete = λ i. is_complete_entry (tag.1 i) (e i)

          cells : cells_of table v ≡ union_cells (physically_equal table) v (size_of table v) (holds_pointer table v) (map (cells_of table) (x ∷ xs))
          cells = cells_are table w.order.0 w.order.1 (physically_equal table) v
              ∙ ap (λ s. cells_of_shape table (physically_equal table) (cells_of table) v s (members_at table v)) tag.1
              ∙ ap (λ ys. cells_of_shape table (physically_equal table) (cells_of table) v (shape.Union tag.0) ys) e

          some : (n : ℕ) → 0 < n → slice_get (map (mixed v) (range_with_len 0 n)) 0 ≡ Some (mixed v 0)
          some zero h = absurd (omega (arith, h))
          some (suc n) h = refl

          big : Largest (cells_of table) (x ∷ xs)
          big = largest (cells_of table) x xs

          at : (b : Bool) → holds_pointer table v ≡ b → (a : Bool) → list_all (begins (physically_equal table) (longest (map (cells_of table) (x ∷ xs)))) (map (cells_of table) (x ∷ xs)) ≡ a → begins_with table m u ≡ true
          at false hb a al =
              let none : (x : TypeId) → Contains (members_at table v) x → AllRaw (cells_of table x) = λ x k. all-raw table w x (part x k) (any-none (holds_pointer table) (members_at table v)
              (sym (ap (λ s. holds_in_shape (holds_pointer table) s (members_at table v)) tag.1) ∙ sym (holds_is table w v) ∙ hb) x k) in
              begun (raw-begins (physically_equal table) (cells_of table m) (cells_of table u) (none m member) (none u c) (le (length (cells_of table m)) (length (cells_of table u)) (l.after c.0 u (slice_get-get_or (members_at table v) c.0 u c.1 ∙ ap Some c.2))))
          at true hb false al = absurd (plain (
            0,
            0,
            ap (λ cs. slice_get cs 0) (cells
                ∙ ap (λ b. union_cells (physically_equal table) v (size_of table v) b (map (cells_of table) (x ∷ xs))) hb
                ∙ ap (λ (b : Bool). if b then padded_to (size_of table v) (longest (map (cells_of table) (x ∷ xs))) else map (mixed v) (range_with_len 0 (size_of table v))) al)
                ∙ some (size_of table v) (w.sized v complete).some,
          ))
          at true hb true al =
              let k : Contains (x ∷ xs) u = subst (λ ys. Contains ys u) e c in
              let p = all-of (begins (physically_equal table) (longest (map (cells_of table) (x ∷ xs)))) (cells_of table) (x ∷ xs) al k.0 u (slice_get-get_or (x ∷ xs) k.0 u k.1 ∙ ap Some k.2) in
              let q : begins (physically_equal table) (cells_of table m) (cells_of table u) ≡ true =
              ap (λ cs. begins (physically_equal table) cs (cells_of table u)) (sym (big.is ∙ ap (cells_of table) (one-largest v m (x ∷ xs) e l big))) ∙ p in
              begun q

module _ (table : Table) (w : IsWellFormed table) (nodes : ℕ) (made : List Planned) (sites : List Site) (told : AreSitesTold table made sites) (shaped : (s : Site) → Contains sites s → IsSiteInShape table nodes s) where
  -- a pointer that stands in a type has its site
  pub site-of : (t : TypeId) (i : ℕ) (p : HeldPointer) → pointer_at table t i ≡ Some p → Contains sites (site.Pointee p.node p.to)
  site-of t i p h = let x = held-in-table table t i p h in told.pointers x.0 p.node p.to x.1

  abbrev BothSited : HeldPointer → HeldPointer → Type 0
  BothSited p q = Contains sites (site.Pointee p.node p.to) × Contains sites (site.Pointee q.node q.to)

  -- both have their sites, and what they point to is physically equal
  pub record Sited (p q : HeldPointer) : Type 0 where
    pub both : BothSited p q
    pub equal : AreEqualTypes table p.to q.to

  alike-sited : (t u : TypeId) (p q : HeldPointer) → StandAlike table t u p q → BothSited p q
  alike-sited t u p q h = (site-of t h.0 p h.1, site-of u h.0 q h.2)

  tiles-sited : (t u : TypeId) (p q : HeldPointer) → StandInTiles table t u p q → BothSited p q
  tiles-sited t u p q (g, d, s) = elim s [
    | inl h ↦ (site-of t h.0 p h.3, site-of u h.1 q h.4)
    | inr k ↦ elim k [
      | inl h ↦ (site-of t h.0 p h.3, site-of t h.1 q h.4)
      | inr h ↦ (site-of u h.0 p h.3, site-of u h.1 q h.4)
    ]
  ]

  top-sited : (t u : TypeId) (c : FlowClass) (p q : HeldPointer) → CorrespondAtTop table c t u p q → BothSited p q
  top-sited t u class.Equal p q h = alike-sited t u p q h
  top-sited t u class.UpTile p q h = tiles-sited t u p q h
  top-sited t u class.Up p q h = alike-sited t u p q h
  top-sited t u class.DownTile p q h = tiles-sited t u p q h
  top-sited t u class.Down p q h = alike-sited t u p q h
  top-sited t u class.Tile p q h = tiles-sited t u p q h
  top-sited t u class.Bad p q h = absurd h

  all-sited : (Top : HeldPointer → HeldPointer → Type 0) → ((p q : HeldPointer) → Top p q → Sited p q) → (p q : HeldPointer) → Correspond table Top p q → Sited p q
  all-sited Top f p q (top a b h) = f p q h
  all-sited Top f r s (inside p q c d h k) =
      let x = all-sited Top f p q h in record { both = alike-sited p.to q.to r s k; equal = equal_inside table w p.to q.to x.equal r s k }

  pub flow-sited : (t u : TypeId) → IsType table t → IsType table u → (p q : HeldPointer) → CorrespondInFlow table t u p q → Sited p q
  flow-sited t u a b = all-sited (CorrespondAtTop table (flow_class table t u) t u)
      (λ p q h. record { both = top-sited t u (flow_class table t u) p q h; equal = top_alike table w t u a b p q h })

  pub same-sited : (t u : TypeId) → AreEqualTypes table t u → (p q : HeldPointer) → CorrespondByPlace table t u p q → Sited p q
  same-sited t u e = all-sited (StandAlike table t u) (λ p q h. record { both = alike-sited t u p q h; equal = equal_inside table w t u e p q h })

  one-pointer : (p q : HeldPointer) → Some p ≡ Some q → p ≡ q
  one-pointer p q h = cc

  typed : (p : HeldPointer) → Contains sites (site.Pointee p.node p.to) → IsType table p.to
  typed p c = (shaped (site.Pointee p.node p.to) c).1

  pub member-sited : (v u m : TypeId) → IsUnion table v → (HoldsMixed table v v → ⊥) → Contains (members_at table v) u → IsLargest table v m → (p q : HeldPointer) → CorrespondByPlace table u m p q → Sited p q
  member-sited v u m iu plain c l = all-sited (StandAlike table u m) (λ p q h. record {
    both = alike-sited u m p q h;
    equal = record { first = typed p (alike-sited u m p q h).0; second = typed q (alike-sited u m p q h).1; equal = alike p q h (member-begins table w v u m iu plain c l) };
  })
    where
      alike : (p q : HeldPointer) → StandAlike table u m p q → begins_with table m u ≡ true → physically_equal table p.to q.to ≡ true
      alike p q h b =
          let r = opened table m u (begins_mirrors table m u b) h.0 p h.1 in
          (equal_equiv table).symm p.to q.to ∙ ap (λ (z : HeldPointer). physically_equal table z.to p.to) (one-pointer q r.0 (sym h.2 ∙ r.1)) ∙ r.2

  -- Nodes are the program's

  held-sited : (t : TypeId) (p : HeldPointer) → Holds table t p → Contains sites (site.Pointee p.node p.to)
  held-sited t p (at_place x i q h) = site-of x i q h
  held-sited t p (in_member x v m q a b h) = held-sited m q h

  below-count : (n : NodeId) (t : TypeId) → Contains sites (site.Pointee n t) → n.0 < nodes
  below-count n t c = (shaped (site.Pointee n t) c).0

  nodes-within : (R : HeldPointer → HeldPointer → Type 0) → ((p q : HeldPointer) → R p q → Sited p q) → (a b : NodeId) → HaveNodes R a b → (a.0 < nodes) × (b.0 < nodes)
  nodes-within R f a b h =
      let s = f h.p h.q h.related in
      (subst (λ (x : NodeId). x.0 < nodes) h.first (below-count h.p.node h.p.to s.both.0), subst (λ (x : NodeId). x.0 < nodes) h.second (below-count h.q.node h.q.to s.both.1))

  cell-within : (a b : NodeId) → AreOfOneCell table sites a b → (a.0 < nodes) × (b.0 < nodes)
  cell-within a b (in_flow m n t u place c r) =
      let s = shaped (site.Flow m t n u place) c in nodes-within (CorrespondInFlow table t u) (flow-sited t u s.1 s.3) a b r
  cell-within a b (declared t u c r) =
      let s = shaped (site.Same t u) c in
      nodes-within (CorrespondByPlace table t u) (same-sited t u (record { first = s.0; second = s.1; equal = told.same t u c })) a b r
  cell-within a b (in_union v u m place c f k l r) =
      nodes-within (CorrespondByPlace table u m) (member-sited v u m (shaped (site.Union v place) c) f k l) a b r

  contents-within : (n : NodeId) (t : TypeId) → HasContents sites n t → n.0 < nodes
  contents-within n t (inl c) = (shaped (site.Pointee n t) c).0
  contents-within n t (inr c) = (shaped (site.Home n t) c).0

  pub given-within : (c : Constraint) → IsGiven table sites c → IsWithin nodes c
  given-within (Flow m n k below place) g = let s = shaped (site.Flow m g.0 n g.1 place) g.2 in (s.0, s.2)
  given-within (Needs n why.Arith place) g = shaped (site.Arith n place) g
  given-within (Needs n why.Integer place) g = shaped (site.Integer n place) g
  given-within (Needs n why.Down place) g = absurd g
  given-within (Needs n why.Tile place) g = absurd g
  given-within (Needs n why.Bad place) g = absurd g
  given-within (Needs n why.Union place) g = absurd g
  given-within (Equal a b) g = cell-within a b g.0
  given-within (Inside outer inner) g =
      (contents-within outer g.0 g.1, subst (λ (x : NodeId). x.0 < nodes) g.2.2 (below-count g.2.0.node g.2.0.to (held-sited g.0 g.2.0 g.2.1)))
  given-within (Linked a b) g = shaped (site.Linked a b) g
  given-within (Force n why.Union place) g = contents-within n g.0 g.2
  given-within (Force n why.Arith place) g = absurd g
  given-within (Force n why.Integer place) g = absurd g
  given-within (Force n why.Down place) g = absurd g
  given-within (Force n why.Tile place) g = absurd g
  given-within (Force n why.Bad place) g = absurd g
  given-within (Plain n) (inl g) = (shaped (site.Home n g.0) g.1).0
  given-within (Plain n) (inr g) = (shaped (site.Pointee n g.0) g.1).0

  module _ (list : List Constraint) (given : AreGiven table sites list) where
    -- a node that points to t is plain exactly where t is a function type
    plain-function : (n : NodeId) (t : TypeId) → Contains sites (site.Pointee n t) → IsPlain list n.0 → is_function table t ≡ true
    plain-function n t c h = by ((given (Plain n)).0 h)
      where
        by : IsGiven table sites (Plain n) → is_function table t ≡ true
        by (inl g) = absurd (told.homes n t g.0 c g.1)
        by (inr g) = ap (is_function table) (told.pointees n t g.0 c g.1) ∙ g.2

    function-plain : (n : NodeId) (t : TypeId) → Contains sites (site.Pointee n t) → is_function table t ≡ true → IsPlain list n.0
    function-plain n t c f = (given (Plain n)).1 (inr (t, c, f))

    both-plain : (m n : NodeId) (t u : TypeId) → Contains sites (site.Pointee m t) → Contains sites (site.Pointee n u) → physically_equal table t u ≡ true → BothPlain list m.0 n.0
    both-plain m n t u a b e = (
      λ h. function-plain n u b (equal_function table w t u e (plain-function m t a h)),
      λ h. function-plain m t a (equal_function table w u t ((equal_equiv table).symm u t ∙ e) (plain-function n u b h)),
    )

    joined : (R : HeldPointer → HeldPointer → Type 0) → ((p q : HeldPointer) → R p q → Sited p q) → (a b : NodeId) → HaveNodes R a b → BothPlain list a.0 b.0
    joined R f a b h =
        let s = f h.p h.q h.related in
        subst (λ (x : NodeId). BothPlain list x.0 b.0) h.first (subst (λ (y : NodeId). BothPlain list h.p.node.0 y.0) h.second
        (both-plain h.p.node h.q.node h.p.to h.q.to s.both.0 s.both.1 s.equal.equal))

    cell-apart : (a b : NodeId) → AreOfOneCell table sites a b → BothPlain list a.0 b.0
    cell-apart a b (in_flow m n t u place c r) =
        let s = shaped (site.Flow m t n u place) c in joined (CorrespondInFlow table t u) (flow-sited t u s.1 s.3) a b r
    cell-apart a b (declared t u c r) =
        let s = shaped (site.Same t u) c in
        joined (CorrespondByPlace table t u) (same-sited t u (record { first = s.0; second = s.1; equal = told.same t u c })) a b r
    cell-apart a b (in_union v u m place c f k l r) =
        joined (CorrespondByPlace table u m) (member-sited v u m (shaped (site.Union v place) c) f k l) a b r

    -- of the classes other than Equal and Bad both ends are data
    data-ends : (t u : TypeId) (k : FlowClass) → k ≡ flow_class table t u → (class.Equal ≡ k → ⊥) → (class.Bad ≡ k → ⊥) → (is_function table t || is_function table u) ≡ true → ⊥
    data-ends t u k e unequal good h = by (physically_equal table t u) refl
      where
        by : (b : Bool) → physically_equal table t u ≡ b → ⊥
        by true p = unequal (equal_class table t u p ∙ sym e)
        by false p = good (function_class table w t u p h ∙ sym e)

    or-right : (a : Bool) → (a || true) ≡ true
    or-right true = refl
    or-right false = refl

    none-plain : (m n : NodeId) (t u : TypeId) (k : FlowClass) → Contains sites (site.Pointee m t) → Contains sites (site.Pointee n u) → k ≡ flow_class table t u → (class.Equal ≡ k → ⊥) → (class.Bad ≡ k → ⊥)
        → NonePlain list m.0 n.0
    none-plain m n t u k a b e unequal good = (
      λ h. data-ends t u k e unequal good (ap (λ x. x || is_function table u) (plain-function m t a h)),
      λ h. data-ends t u k e unequal good (ap (λ x. is_function table t || x) (plain-function n u b h) ∙ or-right (is_function table t)),
    )

    apart : (c : Constraint) → IsGiven table sites c → KeepsPlain list c
    apart (Equal a b) g = cell-apart a b g.0
    apart (Flow m n class.Equal below place) g =
        let s = told.flows m n g.0 g.1 place g.2 in
        both-plain m n g.0 g.1 s.0 s.1 (subst (Tells table w g.0 g.1) (sym g.3) (class_tells table w g.0 g.1))
    apart (Flow m n class.Bad below place) g = tt
    apart (Flow m n class.UpTile below place) g =
        let s = told.flows m n g.0 g.1 place g.2 in none-plain m n g.0 g.1 class.UpTile s.0 s.1 g.3 (λ e. cc (e)) (λ e. cc (e))
    apart (Flow m n class.Up below place) g =
        let s = told.flows m n g.0 g.1 place g.2 in none-plain m n g.0 g.1 class.Up s.0 s.1 g.3 (λ e. cc (e)) (λ e. cc (e))
    apart (Flow m n class.DownTile below place) g =
        let s = told.flows m n g.0 g.1 place g.2 in none-plain m n g.0 g.1 class.DownTile s.0 s.1 g.3 (λ e. cc (e)) (λ e. cc (e))
    apart (Flow m n class.Down below place) g =
        let s = told.flows m n g.0 g.1 place g.2 in none-plain m n g.0 g.1 class.Down s.0 s.1 g.3 (λ e. cc (e)) (λ e. cc (e))
    apart (Flow m n class.Tile below place) g =
        let s = told.flows m n g.0 g.1 place g.2 in none-plain m n g.0 g.1 class.Tile s.0 s.1 g.3 (λ e. cc (e)) (λ e. cc (e))
    apart (Needs n reason place) g = tt
    apart (Inside a b) g = tt
    apart (Linked a b) g = tt
    apart (Force n reason place) g = tt
    apart (Plain n) g = tt

    pub given-is-apart : PlainApart list
    given-is-apart c k = apart c ((given c).0 k)

    pub given-are-within : AreWithin nodes list
    given-are-within i d l = given-within (get_or list i d) ((given (get_or list i d)).0 (Contains-get_or list i d l))
