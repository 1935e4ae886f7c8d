-- Constructs that are given: from the values and parts of which they are made, with the tree that stands there.
use Rattle.std.proofs.Common.{◌≡◌, ◌≤◌, ℕ, max, Bool, true, false, List, [], ◌∷◌, ◌++◌, length, None, refl, ap, sym, subst, ◌∙◌, inl, inr, ◌⊎◌, arith}
use Rattle.c_types.specs.Table.{Table}
use Rattle.c_tree.specs.Places.{expr_place}
use Rattle.c_tree.specs.Tree as tree
use Rattle.c_tree.specs.TypedTree.{TypedExpr, TypedPlace}
use Rattle.c_tree.specs.TypedParts.{Made, made_by}
use Rattle.c_typing.specs.Conversions.{bare, IsPlain, is_taken_over}
use Rattle.c_typing.specs.Held.{held, held_with}
use Rattle.c_typing.specs.Judging.{State, Gives, next}
use Rattle.c_typing.specs.Operands.{Operand, Value, value}
use Rattle.c_typing.specs.Rules.{runtime_named}
use Rattle.c_typing.specs.Settled.{IsBasic, IsAlike}
use Rattle.c_typing.specs.Tests.{Elaborated, AsPlace, AsValue, AsAllocation}
use Rattle.c_typing.specs.Walks.{judge}
use Rattle.c_typing_laws.specs.Numbers.{made_by_part}
use Rattle.c_typing_laws.proofs.TableGrowth.{extended_trans}
use Rattle.c_typing_laws.proofs.ValuesTaken.{natural-no_allocation}
use Rattle.c_typing_unique.specs.Points.{Point, IsRead}
use Rattle.c_typing_unique.proofs.Reading.{OfValue, OfPlace, plain-over}
use Rattle.c_typing_unique.proofs.Readings.{IsOf, is-of, Both}
use Rattle.c_typing_unique.proofs.Shapes.{no_true}
use Rattle.c_typing_exact.specs.Numbered.{IsElaboratedAt}
use Rattle.c_typing_exact.proofs.SameParts.{plain_runtime, over_allocation}
use Rattle.c_rules_alike.specs.PartsThere.{IsPartThere}
use Rattle.c_rules_alike.proofs.PartsThere.{part_there-kept}
use Rattle.c_type_order.specs.Uses.{used_by_part}
use Rattle.c_typing_given.specs.Given.{point_at, IsHere, IsOnWay, IsReached, IsPartGiven, IsGiven, IsValueGiven}
use Rattle.c_unit_typing.specs.Holding.{expr_holds}
use Rattle.c_typing_given.specs.Spending.{HasRoom}
use Rattle.c_type_order.specs.TypesUsed.{AreUses, used_by, Use}
use Rattle.c_typing_given.proofs.Settling.{of_part, part-read, settle}
use Rattle.c_typing_given.proofs.Spent.{room-first, room-then, spent-both}
use Rattle.c_typing_given.proofs.ValuesGiven.{uses-first, value-given}

-- Which part the tree holds

pub part-value : (x : Elaborated) (v : TypedExpr) → of_part x ≡ OfValue v → (x ≡ AsValue v) ⊎ (x ≡ AsAllocation v)
part-value (AsPlace p) v h = absurd (let e : OfPlace p ≡ OfValue v = h in cc)
part-value (AsValue w) v h = inl (ap AsValue (value_same w v h))
  where
    value_same : (w v : TypedExpr) → OfValue w ≡ OfValue v → w ≡ v
    value_same w v h = cc
part-value (AsAllocation w) v h = inr (ap AsAllocation (value_same w v h))
  where
    value_same : (w v : TypedExpr) → OfValue w ≡ OfValue v → w ≡ v
    value_same w v h = cc

pub as-place : (x : Elaborated) (p : TypedPlace) → of_part x ≡ OfPlace p → x ≡ AsPlace p
as-place (AsPlace q) p h = ap AsPlace (place_same q p h)
  where
    place_same : (q p : TypedPlace) → OfPlace q ≡ OfPlace p → q ≡ p
    place_same q p h = cc
as-place (AsValue w) p h = absurd (let e : OfValue w ≡ OfPlace p = h in cc)
as-place (AsAllocation w) p h = absurd (let e : OfValue w ≡ OfPlace p = h in cc)

module _ (T : Table) (basic : IsBasic T) where
  pub as-value : (e : tree.Expr) (x : Elaborated) (v : TypedExpr) (a b : Point) → IsElaboratedAt T e x a b → of_part x ≡ OfValue v → is_taken_over v ≡ false → x ≡ AsValue v
  as-value e x v a b h q over = by (part-value x v q)
    where
      by : (x ≡ AsValue v) ⊎ (x ≡ AsAllocation v) → x ≡ AsValue v
      by (inl k) = k
      by (inr k) = no_true (sym over ∙ (subst (λ (y : Elaborated). IsElaboratedAt T e y a b) k h).1)

  pub as-block : (e : tree.Expr) (x : Elaborated) (v : TypedExpr) (a b : Point) → IsElaboratedAt T e x a b → of_part x ≡ OfValue v → is_taken_over v ≡ true → x ≡ AsAllocation v
  as-block e x v a b h q over = by (part-value x v q)
    where
      by : (x ≡ AsValue v) ⊎ (x ≡ AsAllocation v) → x ≡ AsAllocation v
      by (inr k) = k
      by (inl k) =
          no_true (sym (natural-no_allocation v (subst (λ (y : Elaborated). IsElaboratedAt T e y a b) k h).1) ∙ over_allocation v over)

  -- how the part is read
  pub of-part : (e : tree.Expr) (x : Elaborated) (a b : Point) → IsElaboratedAt T e x a b → IsOf T e (of_part x) a b
  of-part e x a b h = is-of T e (of_part x) a b (part-read T basic e x a b h)

  -- a construct whose part stands in the tree is given, where judging gives it
  pub finish : (called : Bool) (e : tree.Expr) (z x : Elaborated) (o : Operand) (s r : State) (b : Point) (count : ℕ) → IsHere T s → IsElaboratedAt T e z (point_at s) b → z ≡ x
      → judge called e s ≡ Gives o r → IsOnWay T (made_by_part x) s r count → IsPartGiven T called e z s b count
  finish called e z x o s r b count here h q g way =
      settle T basic called e z o s r b count here h g (subst (λ (y : Elaborated). IsOnWay T (made_by_part y) s r count) (sym q) way)

  pub uses-as : (z x : Elaborated) (n m : ℕ) → z ≡ x → AreUses (used_by_part T z) n m → AreUses (used_by_part T x) n m
  uses-as z x n m q h = subst (λ (y : Elaborated). AreUses (used_by_part T y) n m) q h

  pub room-as : (z x : Elaborated) (s : State) → z ≡ x → HasRoom T (made_by_part z) s → HasRoom T (made_by_part x) s
  room-as z x s q h = subst (λ (y : Elaborated). HasRoom T (made_by_part y) s) q h

  pub alike-as : (v w : TypedExpr) → v ≡ w → IsAlike T (AsValue v) w
  alike-as v w h = subst (IsAlike T (AsValue v)) h (record { shape = refl; null = refl; value = inl refl })

  -- one way after another
  pub way-both : (xs ys : List Made) (s m r : State) (k count : ℕ) → IsOnWay T xs s m k → IsOnWay T ys m r count → IsOnWay T (xs ++ ys) s r count
  way-both xs ys s m r k count p q = record { first = q.first; small = q.small; types = q.types; spent = spent-both T xs ys s m r p.spent q.spent }

  -- where the scopes are those of the tree
  pub scopes-at : (made : List Made) (s r : State) (b : Point) (count : ℕ) → IsReached T made s r b count → r.seen.scopes ≡ b.scopes
  scopes-at made s r b count h = ap (λ (p : Point). p.scopes) h.point

  -- Values

  -- nothing takes the value over, and it is no runtime function
  abbrev pub IsSimple : TypedExpr → Type 0
  IsSimple v = (is_taken_over (bare v) ≡ false) × (runtime_named (bare v) ≡ None)

  pub plain-simple : (v : TypedExpr) → IsPlain (bare v) → IsSimple v
  plain-simple v h = (plain-over (bare v) h, plain_runtime (bare v) h)

  pub simple-given : (e : tree.Expr) → IsGiven T e → (v : TypedExpr) (s : State) (b : Point) (count : ℕ) → IsHere T s → IsRead T e v (point_at s) b → IsSimple v
      → AreUses (used_by T v) (length s.table) count → HasRoom T (made_by v) s → expr_holds e ≤ 256 → IsValueGiven T false e v s b count
  simple-given e given v s b count here h simple uses room holds = value-given T basic e given false v s b count here h simple.0 holds (λ q. simple.1) uses room

  pub plain-given : (e : tree.Expr) → IsGiven T e → (v : TypedExpr) (s : State) (b : Point) (count : ℕ) → IsHere T s → IsRead T e v (point_at s) b → IsPlain (bare v)
      → AreUses (used_by T v) (length s.table) count → HasRoom T (made_by v) s → expr_holds e ≤ 256 → IsValueGiven T false e v s b count
  plain-given e given v s b count here h plain uses room holds = simple-given e given v s b count here h (plain-simple v plain) uses room holds

  -- two values, one after the other
  pub record AreTwoGiven (x y : tree.Expr) (v w : TypedExpr) (s : State) (b : Point) (count : ℕ) : Type 0 where
    pub first : Value
    pub second : Value
    pub middle : State
    pub after : State
    pub gives_first : next (judge false x s) value ≡ Gives first middle
    pub gives_second : next (judge false y middle) value ≡ Gives second after
    pub same_first : first.expr ≡ bare v
    pub same_second : second.expr ≡ bare w
    pub place : first.place ≡ expr_place x
    pub holds : held_with 0 (first.held ∷ second.held ∷ []) ≡ held_with 0 (held x ∷ held y ∷ [])
    pub there_first : IsPartThere after.table (AsValue first.expr)
    pub there_second : IsPartThere after.table (AsValue second.expr)
    pub reached : IsReached T (made_by v ++ made_by w) s after b count

  -- from one point to the next one
  pub reached-both : (xs ys : List Made) (s m r : State) (a b : Point) (k count : ℕ) → IsReached T xs s m a k → IsReached T ys m r b count → IsReached T (xs ++ ys) s r b count
  reached-both xs ys s m r a b k count p q = record {
    here = q.here;
    grown = extended_trans s.table m.table r.table p.grown q.grown;
    point = q.point;
    way = way-both xs ys s m r k count p.way q.way;
  }

  pub uses-at : (us : List Use) (made : List Made) (s m : State) (a : Point) (k count : ℕ) → IsReached T made s m a k → AreUses us k count → AreUses us (length m.table) count
  uses-at us made s m a k count r h = subst (λ (n : ℕ). AreUses us n count) (sym r.way.types) h

  pub two-simple : (x y : tree.Expr) → IsGiven T x → IsGiven T y → (v w : TypedExpr) (s : State) (b : Point) (count : ℕ) → IsHere T s
      → Both (IsRead T x v) (IsRead T y w) (point_at s) b → IsSimple v → IsSimple w → AreUses (used_by T v ++ used_by T w) (length s.table) count
      → HasRoom T (made_by v ++ made_by w) s → expr_holds x ≤ 256 → expr_holds y ≤ 256 → AreTwoGiven x y v w s b count
  two-simple x y gx gy v w s b count here h pv pw uses room hx hy =
      let us = uses-first (used_by T v) (used_by T w) (length s.table) count uses in
      let p = simple-given x gx v s h.0 us.0 here h.1 pv us.1 (room-first T (made_by v) (made_by w) s room) hx in
      let read : IsRead T y w (point_at p.after) b = subst (λ (a : Point). IsRead T y w a b) (sym p.reached.point) h.2 in
      let q =
      simple-given y gy w p.after b count p.reached.here read pw (uses-at (used_by T w) (made_by v) s p.after h.0 us.0 count p.reached us.2)
      (room-then T (made_by v) (made_by w) s p.after room p.reached.way.spent) hy in
      record {
        first = p.value;
        second = q.value;
        middle = p.after;
        after = q.after;
        gives_first = p.gives;
        gives_second = q.gives;
        same_first = p.same;
        same_second = q.same;
        place = p.place;
        holds = (λ i. held_with 0 (p.held i ∷ q.held i ∷ []));
        there_first = part_there-kept p.after.table q.after.table q.reached.grown p.reached.here.known.basic (AsValue p.value.expr) p.there;
        there_second = q.there;
        reached = reached-both (made_by v) (made_by w) s p.after q.after h.0 b us.0 count p.reached q.reached;
      }

  pub two-given : (x y : tree.Expr) → IsGiven T x → IsGiven T y → (v w : TypedExpr) (s : State) (b : Point) (count : ℕ) → IsHere T s
      → Both (IsRead T x v) (IsRead T y w) (point_at s) b → IsPlain (bare v) → IsPlain (bare w) → AreUses (used_by T v ++ used_by T w) (length s.table) count
      → HasRoom T (made_by v ++ made_by w) s → expr_holds x ≤ 256 → expr_holds y ≤ 256 → AreTwoGiven x y v w s b count
  two-given x y gx gy v w s b count here h pv pw uses room hx hy = two-simple x y gx gy v w s b count here h (plain-simple v pv) (plain-simple w pw) uses room hx hy

-- How much is held

pub max-left : (a b n : ℕ) → max a b ≤ n → a ≤ n
max-left a b n h = omega (arith, h)

pub max-right : (a b n : ℕ) → max a b ≤ n → b ≤ n
max-right a b n h = omega (arith, h)

pub held-as : (a b n : ℕ) → a ≡ b → b ≤ n → a ≤ n
held-as a b n q h = omega (arith, q, h)
