-- The types that constructs and declarators make are given: pointers, arrays and functions.
use Rattle.std.proofs.Common.{◌≡◌, ℕ, ◌<◌, ◌≤◌, Bool, true, false, ◌&&◌, List, [], ◌∷◌, length, refl, ap, sym, subst, ◌∙◌, inl, inr, nat_lt, arith}
use Rattle.std.specs.List.{Contains}
use Rattle.std.proofs.lemmas.Bool.Decides.{leb_tells}
use Rattle.std.proofs.lemmas.List.Elements.{All-nil, All-cons}
use Rattle.cc_base.specs.declared.place.Place.{Place}
use Rattle.cc_base.specs.declared.number.NodeId.{NodeId}
use Rattle.cc_base.specs.declared.number.TypeId.{TypeId}
use Rattle.c_types.specs.declared.shape.TypeShape.{TypeShape}
use Rattle.c_types.specs.declared.shape.TypeShape.TheVariants.{Pointer, Array, Function}
use Rattle.c_types.specs.Table.{Table, HasShape, IsComplete, entry_at, named_by, is_complete}
use Rattle.c_types.specs.Sound.{IsProper}
use Rattle.c_types.proofs.Lists.{contains_head, contains_tail}
use Rattle.c_typing.specs.Declaring.{is_element, are_types, array_type, function_type, counting_parameters}
use Rattle.c_typing.specs.Extensions.{IsExtended}
use Rattle.c_typing.specs.Judging.{State, Outcome, next, pointer_type}
use Rattle.c_typing.specs.Settled.{IsBasic, IsKnown}
use Rattle.c_type_order.specs.TypesUsed.{IsUse}
use Rattle.c_typing_given.proofs.TypeGiven.{IsTypeGiven, type-given, lt_true}

pub and-both : (a b : Bool) → a ≡ true → b ≡ true → (a && b) ≡ true
and-both a b h k = rw h k

-- a type that is used is no later than the next one
pub use-next : (t : TypeId) (n m : ℕ) → IsUse t n m → t.0 ≤ n
use-next t n m (inl h) = let l = h.0 in omega (arith, l)
use-next t n m (inr h) = let l = h.0 in omega (arith, l)

module _ (T : Table) (basic : IsBasic T) where
  -- what a type that is used names stands before it
  named-before : (t u : TypeId) (x : TypeShape) (n m : ℕ) → HasShape T t x → Contains (named_by x) u → IsUse t n m → u.0 < n
  named-before t u x n m has c used =
      let l = basic.built t u (subst (λ (y : TypeShape). Contains (named_by y) u) (sym has.1) c) in
      let k = use-next t n m used in
      omega (arith, l, k)

  proper-of : (t : TypeId) (x : TypeShape) → HasShape T t x → IsProper x
  proper-of t x has = subst IsProper has.1 (basic.formed.each t).proper

  pub pointer-given : (at : Place) (n : NodeId) (to t : TypeId) (s : State) (m : ℕ) → IsKnown s → IsExtended s.table T → HasShape T t (Pointer n to)
      → IsUse t (length s.table) m → IsTypeGiven T basic (pointer_type at n to s) t s m
  unfolding pointer_type
  pointer-given at n to t s m k first has used =
      let g = type-given T basic at (Pointer n to) t s m k first has used (All-nil (IsComplete s.table)) in
      let b = lt_true to.0 (length s.table) (named-before t to (Pointer n to) (length s.table) m has (contains_head to []) used) in
      record { after = g.after; gives = rw b g.gives; first = g.first; count = g.count; seen = g.seen; bare = g.bare }

  pub array-given : (at : Place) (element : TypeId) (count : ℕ) (t : TypeId) (s : State) (m : ℕ) → IsKnown s → IsExtended s.table T → HasShape T t (Array element count)
      → IsComplete s.table element → IsUse t (length s.table) m → IsTypeGiven T basic (array_type at element count s) t s m
  unfolding array_type
  array-given at element count t s m k first has full used =
      let g = type-given T basic at (Array element count) t s m k first has used (All-cons (IsComplete s.table) element [] full (All-nil (IsComplete s.table))) in
      let below = lt_true element.0 (length s.table) (named-before t element (Array element count) (length s.table) m has (contains_head element []) used) in
      let some = lt_true 0 count (proper-of t (Array element count) has) in
      let b : is_element s.table element count ≡ true =
      and-both (nat_lt element.0 (length s.table)) (is_complete (entry_at s.table element) && nat_lt 0 count) below (and-both (is_complete (entry_at s.table element)) (nat_lt 0 count) full some) in
      record { after = g.after; gives = rw b g.gives; first = g.first; count = g.count; seen = g.seen; bare = g.bare }

  types_below : (J : Table) (all : List TypeId) → ((u : TypeId) → Contains all u → u.0 < length J) → are_types J all ≡ true
  types_below J [] h = refl
  types_below J (u ∷ all) h =
      and-both (nat_lt u.0 (length J)) (are_types J all) (lt_true u.0 (length J) (h u (contains_head u all)))
      (types_below J all (λ v c. h v (contains_tail u all v c)))

  pub function-given : (at : Place) (parameters : List TypeId) (result t : TypeId) (s : State) (m : ℕ) → IsKnown s → IsExtended s.table T
      → HasShape T t (Function parameters result) → length parameters ≤ 127 → IsUse t (length s.table) m
      → IsTypeGiven T basic (function_type at parameters result s) t s m
  unfolding function_type counting_parameters
  function-given at parameters result t s m k first has few used =
      let g = type-given T basic at (Function parameters result) t s m k first has used (All-nil (IsComplete s.table)) in
      let b : are_types s.table (result ∷ parameters) ≡ true =
      types_below s.table (result ∷ parameters) (λ u c. named-before t u (Function parameters result) (length s.table) m has c used) in
      let c : nat_lt 127 (length parameters) ≡ false = lt_false 127 (length parameters) few in
      record {
        after = g.after;
        gives = rw b (ap (λ (o : Outcome TypeId). next o (counting_parameters at parameters)) g.gives ∙ rw c refl);
        first = g.first;
        count = g.count;
        seen = g.seen;
        bare = g.bare;
      }
    where
      lt_false : (a b : ℕ) → b ≤ a → nat_lt a b ≡ false
      lt_false a b h = grind (arith, leb_tells)
