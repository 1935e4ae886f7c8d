-- Differences and comparisons of pointers keep the facts.
use Rattle.std.proofs.Common.{◌≡◌, ◌⊎◌, ℕ, zero, suc, ◌+◌, ◌/◌, ◌^◌, ◌≤◌, ℤ, pos, negsuc, neg_ℤ, ◌-ℤ◌, ◌≤ℤ◌, Bool, true, false, not, ◌&&◌, refl, sym, subst, inl, inr, arith}
use Rattle.std.specs.Prelude.{int_div, ◌==◌}
use Rattle.std.proofs.lemmas.Bool.Decides.{nat_tests}
use Rattle.std.proofs.lemmas.Int.{ints}
use Rattle.std.specs.List.{Contains}
use Rattle.cc_base.specs.declared.place.Place.{Place}
use Rattle.cc_base.specs.declared.kind.Kind.{Kind}
use Rattle.cc_base.specs.declared.kind.Kind.TheVariants.{Safe, Seq, Rtti, Wild}
use Rattle.cc_base.specs.declared.number.NodeId.{NodeId}
use Rattle.cc_base.specs.declared.number.TypeId.{TypeId}
use Rattle.c_types.specs.declared.shape.TypeShape.TheVariants as shape
use Rattle.kind_sites.specs.declared.site.Site.TheVariants as site
use Rattle.c_types.specs.Table.{shape_at}
use Rattle.integers.specs.Arithmetic as integer
use Rattle.integers.specs.Arithmetic.{int, long, converted, truth}
use Rattle.runs.specs.Outcome.{Outcome, done, from}
use Rattle.src_mem.specs.Pointers.{Location, Pointer, Null, Number, At, Function, Value, Integer, Address, same_part, is_at}
use Rattle.src_mem.specs.Memory.{Memory}
use Rattle.src_mem.specs.State.{Ending, State, Setting}
use Rattle.src_mem.specs.Checks.{Used, Subtract, Order, Equate, conditions_of, used_alike, all_checked}
use Rattle.src_mem.specs.Primitives.{difference, is_before, are_equal}
use Rattle.src_mem.specs.Operations.{node_of_shape, node_at, kind_in, pointee_size, subtracted, equated, order_of, compared}
use Rattle.src_mem.specs.Values.{difference_value, compared_value}
use Rattle.src_mem.specs.Facts.{IsValueOf}
use Rattle.src_mem.specs.Outlines.{outlines_of}
use Rattle.src_mem.specs.Laws.{Gives}
use Rattle.facts_kept.specs.Kept.{AllHold}
use Rattle.facts_kept.proofs.Giving.{gives-from, gives-checked}
use Rattle.cil_form.specs.declared.number.Temp.{Temp}
use Rattle.cil_form.specs.declared.instr.Comparison.{Comparison}
use Rattle.cil_form.specs.declared.instr.Comparison.TheVariants as comparison
use Rattle.cil_form.specs.declared.instr.Point.TheVariants as point
use Rattle.cil_form.specs.declared.instr.Instr.TheVariants as instr
use Rattle.cil_form.specs.State.{Local, Around}
use Rattle.cil_form.specs.Typing.{IntegerOf, PointerTo, Typing, Context, IsShaped}
use Rattle.cil_form.specs.Meaning.{operator_of_comparison, act}
use Rattle.cil_form.specs.Sites.{AreAmong, sites_of_comparison}
use Rattle.cil_facts.specs.Held.{IsHeldAs, IsSolvedFor, AreFacts, AreFactsBehind, GoesOn}
use Rattle.cil_facts.proofs.Conversions.{shape-in, Given, goes-held}
use Rattle.cil_facts.proofs.Calculations.{truth-fits}

-- Integers

-- what is this near to 0 is a long
Is-short : ℤ → Type 0
Is-short (pos n) = n ≤ 2 ^ 60
Is-short (negsuc n) = n ≤ 2 ^ 60

short-fits : (z : ℤ) → Is-short z → converted long z ≡ z
unfolding Is-short
short-fits (pos n) h = grind (arith, nat_tests)
short-fits (negsuc n) h = grind (arith, nat_tests)

quotient-most : (n m : ℕ) → n ≤ 2 ^ 60 → n / m ≤ 2 ^ 60
quotient-most n zero h = omega arith
quotient-most n (suc m) h = omega (arith, h)

negated-short : (n : ℕ) → n ≤ 2 ^ 60 → Is-short (neg_ℤ (pos n))
unfolding Is-short
negated-short zero h = omega arith
negated-short (suc n) h = omega (arith, h)

quotient-short : (z : ℤ) (m : ℕ) → (neg_ℤ (pos (2 ^ 59)) ≤ℤ z) → (z ≤ℤ pos (2 ^ 59)) → Is-short (int_div z (pos m))
unfolding Is-short
quotient-short (pos n) m low high = quotient-most n m (grind (arith, ints))
quotient-short (negsuc n) m low high = negated-short (suc n / m) (quotient-most (suc n) m (grind (arith, ints)))

-- Two pointers of one part

left : (a b : Bool) → (a && b) ≡ true → a ≡ true
left true b h = refl
left false b h = absurd (cc (h))

right : (a b : Bool) → (a && b) ≡ true → b ≡ true
right true b h = h
right false b h = absurd (cc (h))

numbers-same : (m n : ℕ) → (m == n) ≡ true → m ≡ n
numbers-same m n h = grind (arith, nat_tests)

record Are-near (p q : Pointer) : Type 0 where
  first : Location
  second : Location
  is : p ≡ At first
  other : q ≡ At second
  low : neg_ℤ (pos (2 ^ 59)) ≤ℤ (first.offset -ℤ second.offset)
  high : (first.offset -ℤ second.offset) ≤ℤ pos (2 ^ 59)

module _ (w : Setting) (memory : Memory) where
  sequence-near : (x y z : ℤ) (a b : ℕ) → a ≡ b → (neg_ℤ (pos (2 ^ 51)) ≤ℤ (x -ℤ pos a)) → ((x -ℤ pos a) ≤ℤ pos (2 ^ 51 + 2 ^ 20))
      → (neg_ℤ (pos (2 ^ 51)) ≤ℤ (y -ℤ pos b)) → ((y -ℤ pos b) ≤ℤ pos (2 ^ 51 + 2 ^ 20))
      → (neg_ℤ (pos (2 ^ 59)) ≤ℤ (x -ℤ y)) × ((x -ℤ y) ≤ℤ pos (2 ^ 59))
  sequence-near x y z a b e h i j k = (omega (arith, ints, e, h, i, j, k), omega (arith, ints, e, h, i, j, k))

  wild-near : (x y : ℤ) → (neg_ℤ (pos (2 ^ 40)) ≤ℤ x) → (x ≤ℤ pos (2 ^ 40)) → (neg_ℤ (pos (2 ^ 40)) ≤ℤ y) → (y ≤ℤ pos (2 ^ 40))
      → (neg_ℤ (pos (2 ^ 59)) ≤ℤ (x -ℤ y)) × ((x -ℤ y) ≤ℤ pos (2 ^ 59))
  wild-near x y h i j k = (omega (arith, ints, h, i, j, k), omega (arith, ints, h, i, j, k))

  at-near : (k l : Kind) (t u : TypeId) (a b : Location) → IsValueOf w (outlines_of memory) k t (At a) → IsValueOf w (outlines_of memory) l u (At b)
      → used_alike k l ≡ true → same_part a.part b.part ≡ true → Are-near (At a) (At b)
  at-near Seq Seq t u a b h g alike part =
      let n = sequence-near a.offset b.offset (pos 0) a.part.low b.part.low (numbers-same a.part.low b.part.low (left (a.part.low == b.part.low) _ part))
      h.least h.most g.least g.most in
      record { first = a; second = b; is = refl; other = refl; low = n.0; high = n.1 }
  at-near Wild Wild t u a b h g alike part =
      let n = wild-near a.offset b.offset h.least h.most g.least g.most in
      record { first = a; second = b; is = refl; other = refl; low = n.0; high = n.1 }
  at-near Safe l t u a b h g alike part = absurd (cc (alike))
  at-near Rtti l t u a b h g alike part = absurd (cc (alike))
  at-near Seq Safe t u a b h g alike part = absurd (cc (alike))
  at-near Seq Rtti t u a b h g alike part = absurd (cc (alike))
  at-near Seq Wild t u a b h g alike part = absurd (cc (alike))
  at-near Wild Safe t u a b h g alike part = absurd (cc (alike))
  at-near Wild Rtti t u a b h g alike part = absurd (cc (alike))
  at-near Wild Seq t u a b h g alike part = absurd (cc (alike))

  abbrev of_part : Kind → Pointer → Kind → Pointer → Bool
  of_part k p l q = used_alike k l && is_at p (λ a. is_at q (λ b. (a.object == b.object) && same_part a.part b.part))

  of-part-near : (k l : Kind) (t u : TypeId) (p q : Pointer) → IsValueOf w (outlines_of memory) k t p → IsValueOf w (outlines_of memory) l u q
      → of_part k p l q ≡ true → Are-near p q
  of-part-near k l t u (At a) (At b) h g e =
      at-near k l t u a b h g (left (used_alike k l) _ e)
      (right (a.object == b.object) (same_part a.part b.part) (right (used_alike k l) ((a.object == b.object) && same_part a.part b.part) e))
  of-part-near k l t u Null q h g e = absurd (cc (right (used_alike k l) false e))
  of-part-near k l t u (Number n) q h g e = absurd (cc (right (used_alike k l) false e))
  of-part-near k l t u (Function f) q h g e = absurd (cc (right (used_alike k l) false e))
  of-part-near k l t u (At a) Null h g e = absurd (cc (right (used_alike k l) false e))
  of-part-near k l t u (At a) (Number n) h g e = absurd (cc (right (used_alike k l) false e))
  of-part-near k l t u (At a) (Function f) h g e = absurd (cc (right (used_alike k l) false e))

  -- once its conditions held
  subtracted-near : (k l : Kind) (t u : TypeId) (m : ℕ) (p q : Pointer) → (k ≡ Seq) ⊎ (k ≡ Wild)
      → IsValueOf w (outlines_of memory) k t p → IsValueOf w (outlines_of memory) l u q
      → AllHold w memory (conditions_of (Subtract m (record { kind = l; pointer = q })) k p) → Are-near p q
  subtracted-near Seq l t u m p q which h g c = of-part-near Seq l t u p q h g (left (of_part Seq p l q) _ c.1.1.0)
  subtracted-near Wild l t u m p q which h g c = of-part-near Wild l t u p q h g (left (of_part Wild p l q) _ c.1.1.0)
  subtracted-near Safe l t u m p q (inl e) h g c = absurd (cc (e))
  subtracted-near Safe l t u m p q (inr e) h g c = absurd (cc (e))
  subtracted-near Rtti l t u m p q (inl e) h g c = absurd (cc (e))
  subtracted-near Rtti l t u m p q (inr e) h g c = absurd (cc (e))

  ordered-near : (k l : Kind) (t u : TypeId) (p q : Pointer) → (k ≡ Seq) ⊎ (k ≡ Wild)
      → IsValueOf w (outlines_of memory) k t p → IsValueOf w (outlines_of memory) l u q
      → AllHold w memory (conditions_of (Order (record { kind = l; pointer = q })) k p) → Are-near p q
  ordered-near Seq l t u p q which h g c = of-part-near Seq l t u p q h g c.1.1.0
  ordered-near Wild l t u p q which h g c = of-part-near Wild l t u p q h g c.1.1.0
  ordered-near Safe l t u p q (inl e) h g c = absurd (cc (e))
  ordered-near Safe l t u p q (inr e) h g c = absurd (cc (e))
  ordered-near Rtti l t u p q (inl e) h g c = absurd (cc (e))
  ordered-near Rtti l t u p q (inr e) h g c = absurd (cc (e))

module _ (k : Context) (a : Around) (solved : IsSolvedFor k a.setting) (types after : Typing) (c : Local) (facts : AreFacts k a types c) where
  moves : (t : TypeId) (m : NodeId) (u : TypeId) → shape_at a.setting.table t ≡ shape.Pointer m u → (kind_in a.setting t ≡ Seq) ⊎ (kind_in a.setting t ≡ Wild)
      → (a.setting.kind m ≡ Seq) ⊎ (a.setting.kind m ≡ Wild)
  moves t m u e which = subst (λ sh. (a.setting.kind (node_of_shape sh) ≡ Seq) ⊎ (a.setting.kind (node_of_shape sh) ≡ Wild)) e which

  in-setting : (t : TypeId) → (a.setting.kind (node_at k.table t) ≡ Seq) ⊎ (a.setting.kind (node_at k.table t) ≡ Wild)
      → (kind_in a.setting t ≡ Seq) ⊎ (kind_in a.setting t ≡ Wild)
  in-setting t h = subst (λ table. (a.setting.kind (node_at table t) ≡ Seq) ⊎ (a.setting.kind (node_at table t) ≡ Wild)) (sym solved.table) h

  -- Differences

  Short : ℤ → State → Type 0
  Short z r = (r.memory ≡ c.state.memory) × (converted long z ≡ z)

  apart-given : (size : ℕ) (p q : Pointer) → Are-near p q → Gives (difference size p q c.state) Short
  unfolding Short
  apart-given size p q near =
      subst (λ x. Gives (difference size x q c.state) Short) (sym near.is)
      (subst (λ y. Gives (difference size (At near.first) y c.state) Short) (sym near.other) (
        refl,
        short-fits (int_div (near.first.offset -ℤ near.second.offset) (pos size))
            (quotient-short (near.first.offset -ℤ near.second.offset) size near.low near.high),
      ))

  difference-held : (t s : TypeId) (at : Place) (m n : NodeId) (u v : TypeId) (x y : Value) → shape_at a.setting.table t ≡ shape.Pointer m u
      → shape_at a.setting.table s ≡ shape.Pointer n v → (a.setting.kind m ≡ Seq) ⊎ (a.setting.kind m ≡ Wild)
      → IsHeldAs a.setting k.sites c.state.memory a.depth (PointerTo m u) x → IsHeldAs a.setting k.sites c.state.memory a.depth (PointerTo n v) y
      → Gives (difference_value a.setting at t s x y c.state) (Given k a solved types after c facts (IntegerOf long))
  unfolding Short
  difference-held t s at m n u v (Integer z) y e f which h g = absurd h
  difference-held t s at m n u v (Address p) (Integer z) e f which h g = absurd g
  difference-held t s at m n u v (Address p) (Address q) e f which h g =
      gives-from Short (Given k a solved types after c facts (IntegerOf long))
      (subtracted a.setting at t p (record { kind = kind_in a.setting s; pointer = q }) c.state) (λ z. done (Integer z))
      (gives-checked a.setting (λ x. at)
      (conditions_of (Subtract (pointee_size a.setting t) (record { kind = kind_in a.setting s; pointer = q })) (kind_in a.setting t) p)
      (difference (pointee_size a.setting t) p q) c.state Short
      (λ holds. apart-given (pointee_size a.setting t) p q
      (subtracted-near a.setting c.state.memory (a.setting.kind m) (a.setting.kind n) u v (pointee_size a.setting t) p q which h.held.value g.held.value
      (subst (λ sh. AllHold a.setting c.state.memory (conditions_of (Subtract (pointee_size a.setting t) (record { kind = a.setting.kind n; pointer = q }))
      (a.setting.kind (node_of_shape sh)) p)) e
      (subst (λ sh. AllHold a.setting c.state.memory (conditions_of
      (Subtract (pointee_size a.setting t) (record { kind = a.setting.kind (node_of_shape sh); pointer = q })) (kind_in a.setting t) p)) f holds)))))
      (λ z r d. d)

  pub difference-keeps : (into x y : Temp) (t s : TypeId) (at : Place) → IsShaped (instr.Point (point.Difference into x t y s at)) k types after
      → GoesOn (act (instr.Point (point.Difference into x t y s at)) a c) (AreFactsBehind k a after c)
  difference-keeps into x y t s at shaped =
      let i = shaped.0 in
      let e = shape-in k a solved t (shape.Pointer i.0 i.2) i.4.1 in
      goes-held k a solved types after c facts (instr.Point (point.Difference into x t y s at)) into (IntegerOf long)
      (difference_value a.setting at t s (c.temps x) (c.temps y) c.state) shaped i.11
      (difference-held t s at i.0 i.1 i.2 i.3 (c.temps x) (c.temps y) e (shape-in k a solved s (shape.Pointer i.1 i.3) i.5.1)
      (moves t i.0 i.2 e (in-setting t (solved.solution.each (site.Arith (node_at k.table t) at) shaped.1.0)))
      (facts.held x (PointerTo i.0 i.2) i.9.1) (facts.held y (PointerTo i.1 i.3) i.10.1))

  -- Comparisons

  abbrev Same : Bool → State → Type 0
  Same b r = r.memory ≡ c.state.memory

  before-given : (p q : Pointer) → Are-near p q → Gives (is_before p q c.state) Same
  before-given p q near =
      subst (λ x. Gives (is_before x q c.state) Same) (sym near.is)
      (subst (λ y. Gives (is_before (At near.first) y c.state) Same) (sym near.other) refl)

  after-given : (p q : Pointer) → Are-near p q → Gives (is_before q p c.state) Same
  after-given p q near =
      subst (λ x. Gives (is_before x p c.state) Same) (sym near.other)
      (subst (λ y. Gives (is_before (At near.second) y c.state) Same) (sym near.is) refl)

  not-given : (m : Outcome Ending State Bool) → Gives m Same → Gives (from m (λ b. done (not b))) Same
  not-given m h = gives-from Same Same m (λ b. done (not b)) h (λ b r e. e)

  module _ (t s : TypeId) (at : Place) (m n : NodeId) (u v : TypeId) (e : shape_at a.setting.table t ≡ shape.Pointer m u)
      (f : shape_at a.setting.table s ≡ shape.Pointer n v) (p q : Pointer)
      (h : IsValueOf a.setting (outlines_of c.state.memory) (a.setting.kind m) u p)
      (g : IsValueOf a.setting (outlines_of c.state.memory) (a.setting.kind n) v q) where
    abbrev first_used : Used
    first_used = record { kind = kind_in a.setting t; pointer = p }

    abbrev second_used : Used
    second_used = record { kind = kind_in a.setting s; pointer = q }

    equal-given : Gives (equated a.setting at first_used second_used c.state) Same
    equal-given =
        gives-checked a.setting (λ x. at) (conditions_of (Equate second_used) (kind_in a.setting t) p) (are_equal p q) c.state Same (λ holds. refl)

    order-given : (o : integer.Operator) → (a.setting.kind m ≡ Seq) ⊎ (a.setting.kind m ≡ Wild)
        → ((x y : Pointer) → Are-near x y → Gives (order_of o x y c.state) Same)
        → Gives (from (all_checked a.setting at (conditions_of (Order second_used) (kind_in a.setting t) p) c.state) (λ x. order_of o p q)) Same
    order-given o which next =
        gives-checked a.setting (λ x. at) (conditions_of (Order second_used) (kind_in a.setting t) p) (order_of o p q) c.state Same
        (λ holds. next p q
        (ordered-near a.setting c.state.memory (a.setting.kind m) (a.setting.kind n) u v p q which h g
        (subst (λ sh. AllHold a.setting c.state.memory
        (conditions_of (Order (record { kind = a.setting.kind n; pointer = q })) (a.setting.kind (node_of_shape sh)) p)) e
        (subst (λ sh. AllHold a.setting c.state.memory
        (conditions_of (Order (record { kind = a.setting.kind (node_of_shape sh); pointer = q })) (kind_in a.setting t) p)) f holds))))

    moving : Contains k.sites (site.Arith (node_at k.table t) at) → (a.setting.kind m ≡ Seq) ⊎ (a.setting.kind m ≡ Wild)
    moving told = moves t m u e (in-setting t (solved.solution.each (site.Arith (node_at k.table t) at) told))

    compared-given : (o : Comparison) → AreAmong k.sites (sites_of_comparison k.table o t s at)
        → Gives (compared a.setting at (operator_of_comparison o) first_used second_used c.state) Same
    compared-given comparison.Equal told = equal-given
    compared-given comparison.Different told = not-given (equated a.setting at first_used second_used c.state) equal-given
    compared-given comparison.Less told = order-given integer.Less (moving told.0) (λ x y near. before-given x y near)
    compared-given comparison.Greater told = order-given integer.Greater (moving told.0) (λ x y near. after-given x y near)
    compared-given comparison.LessOrEqual told =
        order-given integer.LessOrEqual (moving told.0) (λ x y near. not-given (is_before y x c.state) (after-given x y near))
    compared-given comparison.GreaterOrEqual told =
        order-given integer.GreaterOrEqual (moving told.0) (λ x y near. not-given (is_before x y c.state) (before-given x y near))

  comparison-held : (o : Comparison) (t s : TypeId) (at : Place) (m n : NodeId) (u v : TypeId) (x y : Value) → shape_at a.setting.table t ≡ shape.Pointer m u
      → shape_at a.setting.table s ≡ shape.Pointer n v → AreAmong k.sites (sites_of_comparison k.table o t s at)
      → IsHeldAs a.setting k.sites c.state.memory a.depth (PointerTo m u) x → IsHeldAs a.setting k.sites c.state.memory a.depth (PointerTo n v) y
      → Gives (compared_value a.setting at (operator_of_comparison o) t s x y c.state) (Given k a solved types after c facts (IntegerOf int))
  comparison-held o t s at m n u v (Integer z) y e f told h g = absurd h
  comparison-held o t s at m n u v (Address p) (Integer z) e f told h g = absurd g
  comparison-held o t s at m n u v (Address p) (Address q) e f told h g =
      gives-from Same (Given k a solved types after c facts (IntegerOf int))
      (compared a.setting at (operator_of_comparison o) (record { kind = kind_in a.setting t; pointer = p })
      (record { kind = kind_in a.setting s; pointer = q }) c.state) (λ b. done (Integer (truth b)))
      (compared-given t s at m n u v e f p q h.held.value g.held.value o told)
      (λ b r d. (d, truth-fits b))

  pub comparison-keeps : (into : Temp) (o : Comparison) (x y : Temp) (t s : TypeId) (at : Place)
      → IsShaped (instr.Point (point.Compare into o x t y s at)) k types after
      → GoesOn (act (instr.Point (point.Compare into o x t y s at)) a c) (AreFactsBehind k a after c)
  comparison-keeps into o x y t s at shaped =
      let i = shaped.0 in
      goes-held k a solved types after c facts (instr.Point (point.Compare into o x t y s at)) into (IntegerOf int)
      (compared_value a.setting at (operator_of_comparison o) t s (c.temps x) (c.temps y) c.state) shaped i.9
      (comparison-held o t s at i.0 i.1 i.2 i.3 (c.temps x) (c.temps y) (shape-in k a solved t (shape.Pointer i.0 i.2) i.4.1)
      (shape-in k a solved s (shape.Pointer i.1 i.3) i.5.1) shaped.1 (facts.held x (PointerTo i.0 i.2) i.7.1) (facts.held y (PointerTo i.1 i.3) i.8.1))
