-- The decay of an array, and the copy of a struct that holds no pointers or is WILD, are wrong nowhere.
use Rattle.std.proofs.Common.{◌≡◌, ◌≢◌, ℕ, ◌⊎◌, inl, inr, Bool, true, false, [], ◌∷◌, length, refl, sym, subst, arith}
use Rattle.std.specs.Prelude.{◌↔◌}
use Rattle.std.specs.List.{list_all}
use Rattle.cc_base.specs.declared.place.Place.{Place}
use Rattle.cc_base.specs.declared.number.TypeId.{TypeId}
use Rattle.cc_base.specs.declared.number.NodeId.{NodeId}
use Rattle.cc_base.specs.declared.kind.Kind.{Kind}
use Rattle.cc_base.specs.declared.kind.Kind.TheVariants.{Safe, Seq, Rtti, Wild}
use Rattle.c_types.specs.Table.{is_function}
use Rattle.c_types.specs.Layouts.{size_of}
use Rattle.c_types.specs.Cells.{holds_pointer}
use Rattle.c_types.specs.Equality.{cells_of}
use Rattle.runs.specs.Outcome.{done, leaves, either, from, ◌>>◌}
use Rattle.src_mem.specs.Pointers.{Pointer, Null, Number, At, Function}
use Rattle.src_mem.specs.Memory.{Memory, with_copy}
use Rattle.src_mem.specs.State.{State, Act, Setting, touched}
use Rattle.src_mem.specs.Checks.{HasBase, HoldsNone, IsAligned, AddressMember, CopyFrom, CopyTo, Keep, conditions_of, holds, all_checked}
use Rattle.src_mem.specs.Primitives.{access, with_object, address, copy}
use Rattle.src_mem.specs.Uses.{keep_pointers, pointers_behind, copy_all}
use Rattle.src_mem.specs.Operations.{size, decayed}
use Rattle.src_mem.specs.Outlines.{outline, outlines_of}
use Rattle.src_mem.specs.Facts.{IsHeldIn, IsSafeAt, IsTypedAt, IsWildAt}
use Rattle.src_mem.specs.Laws.{IsNotWrong}
use Rattle.src_mem.proofs.Outlines.{mapped-from}
use Rattle.src_mem.proofs.NotWrong.{checked_right, access_right, bounds_first}
use Rattle.src_mem.proofs.Right.{MayTouch, bounds_of, touches}
use Rattle.src_mem.proofs.OperationsRight.{IsPlaced, placed, address_right}

-- Decay

placed_address : (w : Setting) (kind : Kind) (node : NodeId) (m : ℕ) (t : TypeId) (p : Pointer) (s : State)
    → ((kind ≡ Wild) ↔ (w.kind node ≡ Wild)) → IsPlaced kind s.memory.objects p → IsNotWrong (address (w.kind node) 0 m t p s)
placed_address w kind node m t p s linked a = subst (λ q. IsNotWrong (address (w.kind node) 0 m t q s)) (sym a.is)
    (address_right (w.kind node) 0 m t a.location a.object s a.found (λ n. a.stands (λ e. n (linked.0 e))))

-- what has a base and is no SEQ pointer stands at a byte of its object
based_placed : (w : Setting) (memory : Memory) (depth : ℕ) (kind : Kind) (t : TypeId) (p : Pointer) → kind ≢ Seq → IsHeldIn w memory depth kind t p → holds w memory (HasBase p) ≡ true → IsPlaced kind memory.objects p
based_placed w memory depth kind t Null n held h = absurd (cc (h))
based_placed w memory depth kind t (Number k) n held h = absurd (cc (h))
based_placed w memory depth kind t (Function f) n held h = absurd (cc (h))
based_placed w memory depth Seq t (At l) n held h = absurd (n refl)
based_placed w memory depth Safe t (At l) n held h = of held.value
  where
    of : IsSafeAt w (outlines_of memory) t l → IsPlaced Safe memory.objects (At l)
    of v = let o = mapped-from outline memory.objects l.object v.object v.located.found in record { location = l; is = refl; object = o.0; found = o.1; stands = λ k. (v.at, v.stands.offset) }
based_placed w memory depth Rtti t (At l) n held h = of held.value
  where
    of : IsTypedAt w (outlines_of memory) t l → IsPlaced Rtti memory.objects (At l)
    of v = let o = mapped-from outline memory.objects l.object v.object v.located.found in record { location = l; is = refl; object = o.0; found = o.1; stands = λ k. (v.at, v.stands.offset) }
based_placed w memory depth Wild t (At l) n held h = of held.value
  where
    of : IsWildAt w (outlines_of memory) l → IsPlaced Wild memory.objects (At l)
    of v = let o = mapped-from outline memory.objects l.object v.object v.found in record { location = l; is = refl; object = o.0; found = o.1; stands = λ k. absurd (k refl) }

pub decayed_right : (w : Setting) (at : Place) (depth : ℕ) (kind : Kind) (array : TypeId) (check : Bool) (node : NodeId) (element : TypeId) (p : Pointer) (s : State)
    → ((kind ≡ Wild) ↔ (w.kind node ≡ Wild)) → is_function w.table array ≡ false → IsHeldIn w s.memory depth kind array p
    → (check ≡ true) ⊎ ((kind ≢ Seq) × (holds w s.memory (HasBase p) ≡ true)) → IsNotWrong (decayed w at kind array check node element p s)
decayed_right w at depth kind array true node element p s linked data_type held why =
    checked_right w (λ c. at) (conditions_of (AddressMember 0 (size w array)) kind p) (address (w.kind node) 0 (size w array) element p) s
    (λ h. placed_address w kind node (size w array) element p s linked (placed w s.memory depth kind array p 0 (size w array) held data_type h))
decayed_right w at depth kind array false node element p s linked data_type held (inl e) = absurd (cc (e))
decayed_right w at depth kind array false node element p s linked data_type held (inr a) =
    placed_address w kind node (size w array) element p s linked (based_placed w s.memory depth kind array p a.0 held a.1)

-- Copies

pub from_bounds : (w : Setting) (memory : Memory) (kind : Kind) (b : Bool) (m : ℕ) (p : Pointer)
    → list_all (holds w memory) (conditions_of (CopyFrom b m) kind p) ≡ true → holds w memory (bounds_of kind m p) ≡ true
from_bounds w memory Safe true m p h = bounds_first w memory Safe m p [] h
from_bounds w memory Safe false m p h = bounds_first w memory Safe m p [] h
from_bounds w memory Rtti true m p h = bounds_first w memory Rtti m p [] h
from_bounds w memory Rtti false m p h = bounds_first w memory Rtti m p [] h
from_bounds w memory Seq true m p h = bounds_first w memory Seq m p [] h
from_bounds w memory Seq false m p h = bounds_first w memory Seq m p [] h
from_bounds w memory Wild true m p h = bounds_first w memory Wild m p (IsAligned p ∷ []) h
from_bounds w memory Wild false m p h = bounds_first w memory Wild m p (HoldsNone m p ∷ []) h

pub to_bounds : (w : Setting) (memory : Memory) (kind : Kind) (b : Bool) (m : ℕ) (p : Pointer)
    → list_all (holds w memory) (conditions_of (CopyTo b m) kind p) ≡ true → holds w memory (bounds_of kind m p) ≡ true
to_bounds w memory Safe true m p h = bounds_first w memory Safe m p [] h
to_bounds w memory Safe false m p h = bounds_first w memory Safe m p [] h
to_bounds w memory Rtti true m p h = bounds_first w memory Rtti m p [] h
to_bounds w memory Rtti false m p h = bounds_first w memory Rtti m p [] h
to_bounds w memory Seq true m p h = bounds_first w memory Seq m p [] h
to_bounds w memory Seq false m p h = bounds_first w memory Seq m p [] h
to_bounds w memory Wild true m p h = bounds_first w memory Wild m p (IsAligned p ∷ []) h
to_bounds w memory Wild false m p h = bounds_first w memory Wild m p [] h

pub both_touched : (n : ℕ) (from_kind : Kind) (source : Pointer) (to_kind : Kind) (target : Pointer) (s : State)
    → MayTouch from_kind s.memory.objects source n → MayTouch to_kind s.memory.objects target n → IsNotWrong (copy n from_kind source to_kind target s)
both_touched n from_kind source to_kind target s a b =
    access_right from_kind source n (λ read. access to_kind target n (λ at. leaves (with_object at.number (with_copy n read.object read.at at.at at.object)))) s a
    (λ l o i e r. access_right to_kind target n (λ at. leaves (with_object at.number (with_copy n o i at.at at.object))) (touched l.object i n s) b (λ m p j f q. tt))

-- between the conditions and the copy nothing is done, or conditions are tried
between_right : (w : Setting) (place : Place) (kind : Kind) (source target : Pointer) (t : TypeId) (b : Bool) (next : Act (Unit {0})) (s : State) → (b ≡ false) ⊎ (kind ≡ Wild)
    → IsNotWrong (next s) → IsNotWrong (from (either b (keep_pointers w place kind source target t) (done tt) s) (λ a. next))
between_right w place kind source target t false next s why h = h
between_right w place Wild source target t true next s why h =
    checked_right w (λ c. place) (conditions_of (Keep (pointers_behind s.memory.objects source (size_of w.table t))) Wild target) next s (λ k. h)
between_right w place Safe source target t true next s (inl e) h = absurd (cc (e))
between_right w place Safe source target t true next s (inr e) h = absurd (cc (e))
between_right w place Seq source target t true next s (inl e) h = absurd (cc (e))
between_right w place Seq source target t true next s (inr e) h = absurd (cc (e))
between_right w place Rtti source target t true next s (inl e) h = absurd (cc (e))
between_right w place Rtti source target t true next s (inr e) h = absurd (cc (e))

pub copy_right : (w : Setting) (depth : ℕ) (t : TypeId) (source_place : Place) (from_kind : Kind) (source : Pointer) (target_place : Place) (to_kind : Kind) (target : Pointer) (place : Place) (s : State)
    → (holds_pointer w.table t ≡ false) ⊎ (from_kind ≡ Wild) → is_function w.table t ≡ false → length (cells_of w.table t) ≡ size_of w.table t
    → IsHeldIn w s.memory depth from_kind t source → IsHeldIn w s.memory depth to_kind t target
    → IsNotWrong (copy_all w t source_place from_kind source target_place to_kind target place s)
copy_right w depth t source_place from_kind source target_place to_kind target place s why data_type sized a b =
    checked_right w (λ c. source_place) (conditions_of (CopyFrom (holds_pointer w.table t) (size_of w.table t)) from_kind source) (all_checked w target_place (conditions_of (CopyTo (holds_pointer w.table t) (size_of w.table t)) to_kind target) >> rest) s
    (λ h. checked_right w (λ c. target_place) (conditions_of (CopyTo (holds_pointer w.table t) (size_of w.table t)) to_kind target) rest s
    (λ k. between_right w place from_kind source target t (holds_pointer w.table t) (copy (size_of w.table t) from_kind source to_kind target) s why
    (both_touched (size_of w.table t) from_kind source to_kind target s
    (touches w s.memory depth (size_of w.table t) from_kind t source a data_type (omega (arith, sized)) (from_bounds w s.memory from_kind (holds_pointer w.table t) (size_of w.table t) source h))
    (touches w s.memory depth (size_of w.table t) to_kind t target b data_type (omega (arith, sized)) (to_bounds w s.memory to_kind (holds_pointer w.table t) (size_of w.table t) target k)))))
  where
    rest : Act (Unit {0})
    rest = either (holds_pointer w.table t) (keep_pointers w place from_kind source target t) (done tt) >> copy (size_of w.table t) from_kind source to_kind target
