-- Pointer operations with their conditions before them are wrong nowhere.
use Rattle.std.proofs.Common.{◌≡◌, ◌≢◌, ℕ, ◌⊎◌, inl, inr, ℤ, pos, ◌+ℤ◌, true, false, not, List, [], ◌∷◌, slice_get, Some, refl, sym, subst, arith}
use Rattle.std.specs.Prelude.{◌↔◌}
use Rattle.std.specs.List.{list_all}
use Rattle.cc_base.specs.declared.place.Place.{Place}
use Rattle.cc_base.specs.declared.number.TypeId.{TypeId}
use Rattle.cc_base.specs.declared.number.NodeId.{NodeId}
use Rattle.cc_base.specs.declared.kind.Kind.{Kind}
use Rattle.cc_base.specs.declared.kind.Kind.TheVariants.{Safe, Seq, Rtti, Wild}
use Rattle.c_types.specs.Table.{is_function}
use Rattle.c_types.specs.Layouts.{offset_of}
use Rattle.c_types.specs.Flows.{flow_class}
use Rattle.integers.specs.Arithmetic as integer
use Rattle.integers.specs.Arithmetic.{Operator}
use Rattle.runs.specs.Outcome.{done, from}
use Rattle.src_mem.specs.Pointers.{Location, Pointer, Null, Number, At, Function, Value}
use Rattle.src_mem.specs.Memory.{Object, Memory}
use Rattle.src_mem.specs.State.{State, Act, Setting, given}
use Rattle.src_mem.specs.Checks.{Condition, Used, NotNull, HasBase, InBounds, AreElementsApart, AreOfOnePart, Move, Subtract, Order, Equate, AddressMember, Call, conditions_of, conditions_of_conversion, holds, all_checked}
use Rattle.src_mem.specs.Primitives.{address, whole_part, part_at, move, difference, is_before, are_equal, convert, called}
use Rattle.src_mem.specs.Operations.{kind_in, pointee, pointee_size, size, moved, subtracted, equated, order_of, compared, converted_pointer, member}
use Rattle.src_mem.specs.Outlines.{outline, outlines_of}
use Rattle.src_mem.specs.Facts.{IsHeldIn, IsSafeAt, IsWildAt}
use Rattle.src_mem.specs.Laws.{IsNotWrong, IsOrder}
use Rattle.src_mem.proofs.Outlines.{mapped-from}
use Rattle.src_mem.proofs.NotWrong.{from_right, checked_right, first_holds, second_holds}
use Rattle.src_mem.proofs.Right.{MayTouch, safe≢wild, seq≢wild, rtti≢wild, safe_touches, typed_touches, sequence_touches}

-- what has a base is at an object
record IsAtObject (p : Pointer) : Type 0 where
  location : Location
  is : p ≡ At location

based : (w : Setting) (memory : Memory) (p : Pointer) → holds w memory (HasBase p) ≡ true → IsAtObject p
based w memory Null h = absurd (cc (h))
based w memory (Number n) h = absurd (cc (h))
based w memory (At l) h = record { location = l; is = refl }
based w memory (Function f) h = absurd (cc (h))

-- Moves

move_right : (size : ℕ) (n : ℤ) (p : Pointer) (s : State) → IsAtObject p → IsNotWrong (move size n p s)
move_right size n p s a = subst (λ q. IsNotWrong (move size n q s)) (sym a.is) tt

pub moved_right : (w : Setting) (at : Place) (t : TypeId) (n : ℤ) (p : Pointer) (s : State) → (kind_in w t ≡ Seq) ⊎ (kind_in w t ≡ Wild) → IsNotWrong (moved w at t n p s)
moved_right w at t n p s which = checked_right w (λ c. at) (conditions_of (Move (pointee_size w t) n) (kind_in w t) p) (move (pointee_size w t) n p) s
    (λ h. move_right (pointee_size w t) n p s (of (kind_in w t) which h))
  where
    of : (k : Kind) → (k ≡ Seq) ⊎ (k ≡ Wild) → list_all (holds w s.memory) (conditions_of (Move (pointee_size w t) n) k p) ≡ true → IsAtObject p
    of Seq e h = based w s.memory p (first_holds (holds w s.memory (HasBase p)) _ h)
    of Wild e h = based w s.memory p (first_holds (holds w s.memory (HasBase p)) _ h)
    of Safe (inl e) h = absurd (cc (e))
    of Safe (inr e) h = absurd (cc (e))
    of Rtti (inl e) h = absurd (cc (e))
    of Rtti (inr e) h = absurd (cc (e))

-- Differences and orders

both_based : (w : Setting) (memory : Memory) (p q : Pointer) (rest : List Condition)
    → list_all (holds w memory) (HasBase p ∷ HasBase q ∷ rest) ≡ true → IsAtObject p × IsAtObject q
both_based w memory p q rest h = (
  based w memory p (first_holds (holds w memory (HasBase p)) _ h),
  based w memory q (first_holds (holds w memory (HasBase q)) _ (second_holds (holds w memory (HasBase p)) _ h)),
)

difference_right : (size : ℕ) (p q : Pointer) (s : State) → IsAtObject p → IsAtObject q → IsNotWrong (difference size p q s)
difference_right size p q s a b = subst (λ x. IsNotWrong (difference size x q s)) (sym a.is) (subst (λ y. IsNotWrong (difference size (At a.location) y s)) (sym b.is) tt)

pub subtracted_right : (w : Setting) (at : Place) (t : TypeId) (p : Pointer) (q : Used) (s : State) → (kind_in w t ≡ Seq) ⊎ (kind_in w t ≡ Wild) → IsNotWrong (subtracted w at t p q s)
subtracted_right w at t p q s which = checked_right w (λ c. at) (conditions_of (Subtract (pointee_size w t) q) (kind_in w t) p) (difference (pointee_size w t) p q.pointer) s
    (λ h. let b = of (kind_in w t) which h in difference_right (pointee_size w t) p q.pointer s b.0 b.1)
  where
    of : (k : Kind) → (k ≡ Seq) ⊎ (k ≡ Wild) → list_all (holds w s.memory) (conditions_of (Subtract (pointee_size w t) q) k p) ≡ true → IsAtObject p × IsAtObject q.pointer
    of Seq e h = both_based w s.memory p q.pointer (AreElementsApart (pointee_size w t) (record { kind = Seq; pointer = p }) q ∷ []) h
    of Wild e h = both_based w s.memory p q.pointer (AreElementsApart (pointee_size w t) (record { kind = Wild; pointer = p }) q ∷ []) h
    of Safe (inl e) h = absurd (cc (e))
    of Safe (inr e) h = absurd (cc (e))
    of Rtti (inl e) h = absurd (cc (e))
    of Rtti (inr e) h = absurd (cc (e))

before_right : (p q : Pointer) (s : State) → IsAtObject p → IsAtObject q → IsNotWrong (is_before p q s)
before_right p q s a b = subst (λ x. IsNotWrong (is_before x q s)) (sym a.is) (subst (λ y. IsNotWrong (is_before (At a.location) y s)) (sym b.is) tt)

order_right : (operator : Operator) (p q : Pointer) (s : State) → IsOrder operator → IsAtObject p → IsAtObject q → IsNotWrong (order_of operator p q s)
order_right integer.Less p q s o a b = before_right p q s a b
order_right integer.Greater p q s o a b = before_right q p s b a
order_right integer.LessOrEqual p q s o a b = from_right (is_before q p s) (λ after. done (not after)) (before_right q p s b a) (λ x u. tt)
order_right integer.GreaterOrEqual p q s o a b = from_right (is_before p q s) (λ before. done (not before)) (before_right p q s a b) (λ x u. tt)
order_right integer.Add p q s o a b = absurd o
order_right integer.Subtract p q s o a b = absurd o
order_right integer.Multiply p q s o a b = absurd o
order_right integer.Divide p q s o a b = absurd o
order_right integer.Remainder p q s o a b = absurd o
order_right integer.And p q s o a b = absurd o
order_right integer.Or p q s o a b = absurd o
order_right integer.ExclusiveOr p q s o a b = absurd o
order_right integer.ShiftLeft p q s o a b = absurd o
order_right integer.ShiftRight p q s o a b = absurd o
order_right integer.Equal p q s o a b = absurd o
order_right integer.Different p q s o a b = absurd o

pub ordered_right : (w : Setting) (at : Place) (operator : Operator) (p q : Used) (s : State) → IsOrder operator → (p.kind ≡ Seq) ⊎ (p.kind ≡ Wild)
    → IsNotWrong (from (all_checked w at (conditions_of (Order q) p.kind p.pointer) s) (λ a. order_of operator p.pointer q.pointer))
ordered_right w at operator p q s order which = checked_right w (λ c. at) (conditions_of (Order q) p.kind p.pointer) (order_of operator p.pointer q.pointer) s
    (λ h. let b = of p.kind which h in order_right operator p.pointer q.pointer s order b.0 b.1)
  where
    of : (k : Kind) → (k ≡ Seq) ⊎ (k ≡ Wild) → list_all (holds w s.memory) (conditions_of (Order q) k p.pointer) ≡ true → IsAtObject p.pointer × IsAtObject q.pointer
    of Seq e h = both_based w s.memory p.pointer q.pointer (AreOfOnePart (record { kind = Seq; pointer = p.pointer }) q ∷ []) h
    of Wild e h = both_based w s.memory p.pointer q.pointer (AreOfOnePart (record { kind = Wild; pointer = p.pointer }) q ∷ []) h
    of Safe (inl e) h = absurd (cc (e))
    of Safe (inr e) h = absurd (cc (e))
    of Rtti (inl e) h = absurd (cc (e))
    of Rtti (inr e) h = absurd (cc (e))

pub equated_right : (w : Setting) (at : Place) (p q : Used) (s : State) → IsNotWrong (equated w at p q s)
equated_right w at p q s = checked_right w (λ c. at) (conditions_of (Equate q) p.kind p.pointer) (are_equal p.pointer q.pointer) s (λ h. tt)

pub converted_right : (w : Setting) (at : Place) (t u : TypeId) (p : Pointer) (s : State) → IsNotWrong (converted_pointer w at t u p s)
converted_right w at t u p s = checked_right w (λ c. at) (conditions_of_conversion (record {
  class = flow_class w.table (pointee w t) (pointee w u);
  from = kind_in w t;
  to = kind_in w u;
  from_size = pointee_size w t;
  to_size = pointee_size w u;
  to_type = pointee w u;
}) p)
    (convert (flow_class w.table (pointee w t) (pointee w u)) (kind_in w t) (kind_in w u) (pointee w u) p) s (λ h. tt)

-- Members

plain_part : (n m : ℕ) (t : TypeId) (l : Location) (s : State) → ((at : ℕ) × (l.offset ≡ pos at))
    → IsNotWrong (given (part_at (l.offset +ℤ pos n) m) (λ part. done (At (record { object = l.object; part = part; offset = l.offset +ℤ pos n; made = t }))) s)
plain_part n m t l s a =
    subst (λ z. IsNotWrong (given (part_at (z +ℤ pos n) m) (λ part. done (At (record { object = l.object; part = part; offset = l.offset +ℤ pos n; made = t }))) s)) (sym a.1) tt

-- the address of a part of an object that a pointer is at
pub address_right : (kind : Kind) (n m : ℕ) (t : TypeId) (l : Location) (o : Object) (s : State) → slice_get s.memory.objects l.object ≡ Some o
    → (kind ≢ Wild → (at : ℕ) × (l.offset ≡ pos at)) → IsNotWrong (address kind n m t (At l) s)
address_right Wild n m t l o s found stands =
    subst (λ r. IsNotWrong (given (whole_part r) (λ part. done (At (record { object = l.object; part = part; offset = l.offset +ℤ pos n; made = t }))) s)) (sym found) tt
address_right Safe n m t l o s found stands = plain_part n m t l s (stands safe≢wild)
address_right Seq n m t l o s found stands = plain_part n m t l s (stands seq≢wild)
address_right Rtti n m t l o s found stands = plain_part n m t l s (stands rtti≢wild)

-- a pointer at an object, at a byte of it where it isn't WILD
pub record IsPlaced (kind : Kind) (objects : List Object) (p : Pointer) : Type 0 where
  pub location : Location
  pub is : p ≡ At location
  pub object : Object
  pub found : slice_get objects location.object ≡ Some object
  pub stands : kind ≢ Wild → (at : ℕ) × (location.offset ≡ pos at)

touch_placed : (kind : Kind) (objects : List Object) (p : Pointer) (m : ℕ) → MayTouch kind objects p m → IsPlaced kind objects p
touch_placed kind objects p m t = record { location = t.location; is = t.pointer; object = t.object; found = t.right.found; stands = λ n. (t.at, t.right.offset) }

pub placed : (w : Setting) (memory : Memory) (depth : ℕ) (kind : Kind) (t : TypeId) (p : Pointer) (offset m : ℕ) → IsHeldIn w memory depth kind t p → is_function w.table t ≡ false
    → list_all (holds w memory) (conditions_of (AddressMember offset m) kind p) ≡ true → IsPlaced kind memory.objects p
placed w memory depth Safe t p offset m held data_type h =
    touch_placed Safe memory.objects p 0 (safe_touches w memory depth 0 t p held data_type (first_holds (holds w memory (NotNull p)) _ h) (omega arith))
placed w memory depth Rtti t p offset m held data_type h =
    touch_placed Rtti memory.objects p 0 (typed_touches w memory depth 0 t p held (first_holds (holds w memory (NotNull p)) _ h) (omega arith))
placed w memory depth Seq t p offset m held data_type h =
    touch_placed Seq memory.objects p m (sequence_touches w memory depth m t p held (first_holds (holds w memory (InBounds m p)) _ h))
placed w memory depth Wild t p offset m held data_type h = of (based w memory p (first_holds (holds w memory (HasBase p)) _ h))
  where
    at_location : (l : Location) → p ≡ At l → IsWildAt w (outlines_of memory) l → IsPlaced Wild memory.objects p
    at_location l e v = let o = mapped-from outline memory.objects l.object v.object v.found in record { location = l; is = e; object = o.0; found = o.1; stands = λ n. absurd (n refl) }

    of : IsAtObject p → IsPlaced Wild memory.objects p
    of a = at_location a.location a.is (subst (λ q. IsHeldIn w memory depth Wild t q) a.is held).value

pub member_right : (w : Setting) (at : Place) (depth : ℕ) (kind : Kind) (t : TypeId) (i : ℕ) (node : NodeId) (u : TypeId) (p : Pointer) (s : State)
    → ((kind ≡ Wild) ↔ (w.kind node ≡ Wild)) → is_function w.table t ≡ false → IsHeldIn w s.memory depth kind t p → IsNotWrong (member w at kind t i node u p s)
member_right w at depth kind t i node u p s linked data_type held =
    checked_right w (λ c. at) (conditions_of (AddressMember (offset_of w.table t i) (size w t)) kind p)
    (address (w.kind node) (offset_of w.table t i) (size w u) u p) s
    (λ h. of (placed w s.memory depth kind t p (offset_of w.table t i) (size w t) held data_type h))
  where
    of : IsPlaced kind s.memory.objects p → IsNotWrong (address (w.kind node) (offset_of w.table t i) (size w u) u p s)
    of a = subst (λ q. IsNotWrong (address (w.kind node) (offset_of w.table t i) (size w u) u q s)) (sym a.is)
        (address_right (w.kind node) (offset_of w.table t i) (size w u) u a.location a.object s a.found (λ n. a.stands (λ e. n (linked.0 e))))

-- Calls

record IsCallable (p : Pointer) : Type 0 where
  function : ℕ
  is : p ≡ Function function

called_right : (p : Pointer) (next : ℕ → Act Value) (s : State) → IsCallable p → ((f : ℕ) → IsNotWrong (next f s)) → IsNotWrong (called p next s)
called_right p next s c h = subst (λ q. IsNotWrong (called q next s)) (sym c.is) (h c.function)

callable : (w : Setting) (memory : Memory) (depth deeper : ℕ) (kind : Kind) (t : TypeId) (p : Pointer) → (kind ≡ Safe) ⊎ (kind ≡ Wild) → is_function w.table t ≡ true
    → IsHeldIn w memory depth kind t p → list_all (holds w memory) (conditions_of (Call t deeper) kind p) ≡ true → IsCallable p
callable w memory depth deeper Safe t Null which type held h = absurd (cc (h))
callable w memory depth deeper Safe t (Number n) which type held h = absurd held.value
callable w memory depth deeper Safe t (At l) which type held h = absurd (of held.value)
  where
    of : IsSafeAt w (outlines_of memory) t l → ⊥
    of v = absurd (cc (type, v.data_type))
callable w memory depth deeper Safe t (Function f) which type held h = record { function = f; is = refl }
callable w memory depth deeper Wild t Null which type held h = absurd (cc (h))
callable w memory depth deeper Wild t (Number n) which type held h = absurd (cc (h))
callable w memory depth deeper Wild t (At l) which type held h = absurd (cc (h))
callable w memory depth deeper Wild t (Function f) which type held h = record { function = f; is = refl }
callable w memory depth deeper Seq t p (inl e) type held h = absurd (cc (e))
callable w memory depth deeper Seq t p (inr e) type held h = absurd (cc (e))
callable w memory depth deeper Rtti t p (inl e) type held h = absurd (cc (e))
callable w memory depth deeper Rtti t p (inr e) type held h = absurd (cc (e))

-- a call through a pointer that is SAFE or WILD is wrong only where the function's call is
pub call_right : (w : Setting) (at : Place) (depth deeper : ℕ) (kind : Kind) (t : TypeId) (p : Pointer) (next : ℕ → Act Value) (s : State) → (kind ≡ Safe) ⊎ (kind ≡ Wild)
    → is_function w.table t ≡ true → IsHeldIn w s.memory depth kind t p → ((f : ℕ) → IsNotWrong (next f s))
    → IsNotWrong (from (all_checked w at (conditions_of (Call t deeper) kind p) s) (λ a. called p next))
call_right w at depth deeper kind t p next s which type held h =
    checked_right w (λ c. at) (conditions_of (Call t deeper) kind p) (called p next) s
    (λ k. called_right p next s (callable w s.memory depth deeper kind t p which type held k) h)

-- `<`, `>`, `<=` and `>=` of pointers of which the first may move
pub compared_right : (w : Setting) (at : Place) (operator : Operator) (p q : Used) (s : State) → IsOrder operator → (p.kind ≡ Seq) ⊎ (p.kind ≡ Wild)
    → IsNotWrong (compared w at operator p q s)
compared_right w at integer.Less p q s order which = ordered_right w at integer.Less p q s tt which
compared_right w at integer.LessOrEqual p q s order which = ordered_right w at integer.LessOrEqual p q s tt which
compared_right w at integer.Greater p q s order which = ordered_right w at integer.Greater p q s tt which
compared_right w at integer.GreaterOrEqual p q s order which = ordered_right w at integer.GreaterOrEqual p q s tt which
compared_right w at integer.Add p q s order which = absurd order
compared_right w at integer.Subtract p q s order which = absurd order
compared_right w at integer.Multiply p q s order which = absurd order
compared_right w at integer.Divide p q s order which = absurd order
compared_right w at integer.Remainder p q s order which = absurd order
compared_right w at integer.And p q s order which = absurd order
compared_right w at integer.Or p q s order which = absurd order
compared_right w at integer.ExclusiveOr p q s order which = absurd order
compared_right w at integer.ShiftLeft p q s order which = absurd order
compared_right w at integer.ShiftRight p q s order which = absurd order
compared_right w at integer.Equal p q s order which = absurd order
compared_right w at integer.Different p q s order which = absurd order
