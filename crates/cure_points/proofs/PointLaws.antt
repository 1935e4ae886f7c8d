-- The lines of pointer arithmetic, and of addresses of parts.
use Rattle.std.proofs.Common.{⊎_elim, ◌≡◌, refl, ap, sym, subst, ◌∙◌, ℕ, ◌+◌, ◌≤◌, ◌<◌, inl, inr, Bool, true, false, Option, Some, None, List, [], ◌∷◌, ◌++◌, nat_eq, nat_le, length, arith, if◌then◌else◌}
use Rattle.cc_base.specs.declared.number.TypeId.{TypeId}
use Rattle.cc_base.specs.declared.number.NodeId.{NodeId}
use Rattle.cc_base.specs.declared.place.Place.{Place}
use Rattle.cc_base.specs.declared.kind.Kind.{Kind}
use Rattle.cc_base.specs.declared.kind.Kind.TheVariants.{Safe, Seq, Rtti, Wild}
use Rattle.c_types.specs.declared.shape.TypeShape.TheVariants as shape
use Rattle.c_types.specs.Table.{shape_at, IsComplete, IsAggregate, members_at}
use Rattle.c_types.specs.Layouts.{offset_of}
use Rattle.c_types.specs.Cells.{IsBetweenPointers}
use Rattle.c_types.specs.Equality.{cells_of}
use Rattle.integers.specs.Arithmetic.{IntegerType, int, long}
use Rattle.src_mem.specs.Operations.{node_of_shape, pointee_of_shape}
use Rattle.cil_form.specs.declared.number.Temp.{Temp}
use Rattle.cil_form.specs.declared.instr.Direction.{Direction}
use Rattle.cil_form.specs.declared.instr.Point.TheVariants as point
use Rattle.cil_form.specs.Typing as shaped
use Rattle.cil_form.specs.Typing.{Context, Typing, HeldType, IntegerOf, PointerTo, PlaceOf}
use Rattle.cured_code.specs.declared.instr.Instr.{Instr}
use Rattle.cured_code.specs.declared.instr.Instr.TheVariants as instr
use Rattle.check_forms.specs.Pieces.{Line, Then}
use Rattle.check_forms.specs.declared.slots.PointerSlots.{PointerSlots}
use Rattle.check_forms.specs.declared.slots.Fixed.{Fixed}
use Rattle.cil_form.specs.declared.instr.Comparison.{Comparison}
use Rattle.cil_form.specs.declared.instr.Comparison.TheVariants as comparison
use Rattle.sim_relation.specs.Points.{Number, Exact}
use Rattle.cure_rules.specs.Slots.{Size, Offset, Moved}
use Rattle.cure_rules.specs.Known.{Whole, World, Gets, IsPlaced, IsArrayAt, known_at, known_of, cured_size, pointer_slots, reach_of}
use Rattle.cure_rules.specs.Checks.{number_at, numbers_of, apart_needs, base_needs, factor_needs, distance_needs, near_needs, wild_numbers, reach_at, factor_at, distance_at, move_by, address_of_part, IsGuarded}
use Rattle.cure_rules.specs.Pointing.{moved_words, PartWords, Decays, cured_offset, null_operation, order_by, comparing}
use Rattle.cure_rules.specs.Setting.{is_wide, IsTested}
use Rattle.cure_scope.specs.declared.scope.Scope.{Scope}
use Rattle.cure_scope.specs.Scopes.{fixed_column, fixed_slots, seat, whole_of, world_of}
use Rattle.cure_scope.specs.Needs.{Guards, AreSeated}
use Rattle.cure_scope.proofs.GuardLaws.{guarded}
use Rattle.cure_instrs.specs.Cured.{IsIn, IsPointerAt, HasPointer}
use Rattle.cure_instrs.specs.Lines.{tested_slot, tested_lines}
use Rattle.cure_instrs.proofs.KnownLaws.{leaves_held, is_exactly, takes, is_address, points}
use Rattle.cure_instrs.proofs.CalculateLaws.{is_tested}
use Rattle.cure_instrs.proofs.SeatLaws.{seated_append, seated_size, seated_base, seated_factor, seated_distance, seated_near, seated_part}
use Rattle.cure_points.specs.Lines.{part_row, MovedBy, PartOf, DecayOf, DifferenceOf, ComparedBy, HavePointers, CanMove, IsSmallReach, IsIntegerHeld}
use Rattle.cure_points.specs.Cured.{PointCured, AreMembersWhole}

at_pointer : (w : Whole) (t : TypeId) (m : NodeId) (u : TypeId) → IsPointerAt w t m u → shape_at w.table t ≡ shape.Pointer m u
unfolding IsPointerAt
at_pointer w t m u h = h

-- a type is one pointer type
pub one_pointer : (w : World) (c : Context) (t : TypeId) (m n : NodeId) (u v : TypeId) → IsIn w c → IsPointerAt w.whole t m u → shaped.IsPointer c t n v
    → (m ≡ n) × (u ≡ v) × (shape_at w.whole.table t ≡ shape.Pointer n v)
unfolding IsPointerAt
one_pointer w c t m n u v is h g =
    let e : shape_at w.whole.table t ≡ shape.Pointer n v = ap (λ z. shape_at z t) (sym is.table) ∙ g.1 in
    (ap node_of_shape (sym h ∙ e), ap pointee_of_shape (sym h ∙ e), e)

seated-move : (k : Scope) (kind : Kind) (u : TypeId) (p : PointerSlots) (way : Direction) (i : IntegerType) (n : ℕ)
    → AreSeated (numbers_of (move_by (world_of k) seat kind u p way i n) kind)
seated-move k kind u p way i n =
    let size = reach_of (world_of k) kind u in
    let base = base_needs kind (wild_numbers (world_of k) seat) in
    let factor = factor_needs (factor_at seat i size) in
    let distance = distance_needs (distance_at seat n size) in
    seated_append (base ++ factor ++ distance) (near_needs (reach_at seat kind size))
    (seated_append (base ++ factor) distance
    (seated_append base factor (seated_base k kind) (seated_factor (nat_le i.bytes 4) i.signed size))
    (seated_distance (nat_eq size 1) n size))
    (seated_near kind size)

pub move_cured : (k : Scope) (types : Typing) (into p n : Temp) (way : Direction) (t : TypeId) (at : Place) (m : NodeId) (u : TypeId) (i : IntegerType) (code : List Instr)
    → IsPointerAt (whole_of k) t m u → types n ≡ Some (IntegerOf i)
    → MovedBy (world_of k) ((whole_of k).kind m) u way i (fixed_column into) (fixed_column p) (fixed_column n) at code
    → PointCured (point.Move into p n way t at) (world_of k) types code
unfolding PointCured Then
move_cured k types into p n way t at m u i code type same h c after is whole s =
    let e = one_pointer (world_of k) c t m s.0 u s.1 is type s.2 in
    let held = subst (λ z. types p ≡ Some (PointerTo z u)) (sym e.0) (subst (λ z. types p ≡ Some (PointerTo s.0 z)) (sym e.1) s.4.1) in
    let more = subst (λ z. shaped.Includes (shaped.with_held into (Some (PointerTo z u)) types) after) (sym e.0)
    (subst (λ z. shaped.Includes (shaped.with_held into (Some (PointerTo s.0 z)) types) after) (sym e.1) s.6.1) in
    let kind = (whole_of k).kind m in (
      m,
      u,
      fixed_column p,
      [],
      i,
      fixed_column n,
      seat,
      type',
      complete e,
      points k.parameters types p m u (s.4.0, held),
      is_exactly k.parameters types n i (s.5.1.0, same),
      takes k into (whole_of k).kind m s.6.0,
      (
        h.0,
        h.1,
        guarded k (move_by (world_of k) seat kind u (pointer_slots (fixed_column p)) way i (fixed_column n)) kind at h.0
            (seated-move k kind u (pointer_slots (fixed_column p)) way i (fixed_column n)) h.2,
        h.3,
        h.4,
      ),
      leaves_held k.parameters types after into (Some (PointerTo m u)) more,
    )
  where
    type' : shape_at (whole_of k).table t ≡ shape.Pointer m u
    type' = at_pointer (whole_of k) t m u type

    complete : (m ≡ s.0) × (u ≡ s.1) × (shape_at (whole_of k).table t ≡ shape.Pointer s.0 s.1) → IsComplete (whole_of k).table u
    complete e = subst (λ z. IsComplete z u) is.table (subst (IsComplete c.table) (sym e.1) s.3.1)

pub can_move : (w : World) (t : TypeId) (x : Option HeldType) (n : NodeId) (u : TypeId) → IsPointerAt w.whole t n u → CanMove w t x → IsSmallReach w (w.whole.kind n) u
unfolding CanMove
can_move w t x n u is h = h.2 n u is

pub no_pointer : (w : World) (t : TypeId) (x : Option HeldType) → (HasPointer w.whole t → Prim.⊥) → CanMove w t x → Prim.⊥
unfolding CanMove
no_pointer w t x none h = none h.0

pub no_integer : (w : World) (t : TypeId) (x : Option HeldType) → (IsIntegerHeld x → Prim.⊥) → CanMove w t x → Prim.⊥
unfolding CanMove
no_integer w t x none h = none h.1

-- Parts

part-words : (k : Scope) (kind : Kind) (size : ℕ) (t : TypeId) (v a o : ℕ) (code : List Instr) → Line (part_row kind (world_of k) size t v a o) code
    → PartWords kind (world_of k) seat size t v a o (a + 1) code
unfolding Line Then
part-words k Safe size t v a o code h = h
part-words k Rtti size t v a o code h = h
part-words k Wild size t v a o code h = h
part-words k Seq size t v a o code h =
    (instr.Const (seat Size) size ∷ [], instr.Add v a o ∷ instr.Copy (v + 1) v ∷ instr.Add (v + 2) v (seat Size) ∷ [], inr (refl, refl), refl, h)

-- the lines of an address of a part are those that the relation asks for
module _ (k : Scope) (outer : Kind) (of : TypeId) (inner : Kind) (size : ℕ) (t : TypeId) (offset v a : ℕ) (at : Place) (code : List Instr) where
  part-of : PartOf (world_of k) outer of inner size t offset v a at code
      → Then (Gets (world_of k) Offset (Number offset) (seat Offset)) (Then (IsGuarded (world_of k) (address_of_part (world_of k) seat outer of (pointer_slots a)) outer at)
      (PartWords inner (world_of k) seat size t v a (seat Offset) (a + 1))) code
  unfolding Then
  part-of h =
      let g = h.3 in (
        h.0,
        h.1,
        inr (refl, h.2),
        (
          g.0,
          g.1,
          guarded k (address_of_part (world_of k) seat outer of (pointer_slots a)) outer at g.0 (seated_part k outer of (pointer_slots a)) g.2,
          part-words k inner size t v a (seat Offset) g.1 g.3,
          g.4,
        ),
        h.4,
      )

decays : (k : Scope) (checked : Bool) (outer inner : Kind) (of t : TypeId) (v a : ℕ) (at : Place) (code : List Instr)
    → DecayOf checked (world_of k) outer of inner (cured_size (whole_of k) of) t v a at code
    → Decays checked (world_of k) seat outer inner of t v a at code
decays k true outer inner of t v a at code h = part-of k outer of inner (cured_size (whole_of k) of) t 0 v a at code h
decays k false outer inner of t v a at code h = part-words k inner (cured_size (whole_of k) of) t v a 381 code h

placed-at : (p : ℕ) (types : Typing) (t : Temp) (n : NodeId) (u : TypeId) → shaped.Holds types t (PlaceOf n u) → IsPlaced (known_of (fixed_slots p) types) t n u (fixed_column t) []
placed-at p types t n u h = (record { type = PlaceOf n u; place = Some (fixed_column t); form = Exact; sure = [] }, ap (known_at (fixed_column t)) h.1, refl, refl, refl)

array-at : (checked : Bool) (p : ℕ) (types : Typing) (from : Temp) (n : NodeId) (t : TypeId) → shaped.HoldsArray checked types from n t
    → IsArrayAt checked (known_of (fixed_slots p) types) from n t (fixed_column from) []
array-at true p types from n t h = is_address p types from n t h
array-at false p types from n t h = placed-at p types from n t h

pub decay_cured : (k : Scope) (types : Typing) (into from : Temp) (outer : NodeId) (of : TypeId) (checked : Bool) (inner : NodeId) (t : TypeId) (at : Place) (code : List Instr)
    → DecayOf checked (world_of k) ((whole_of k).kind outer) of ((whole_of k).kind inner) (cured_size (whole_of k) of) t (fixed_column into) (fixed_column from) at code
    → PointCured (point.Decay into from outer of checked inner t at) (world_of k) types code
unfolding PointCured
decay_cured k types into from outer of checked inner t at code h c after is whole s = (
  fixed_column from,
  [],
  seat,
  array-at checked k.parameters types from outer of s.4,
  takes k into (whole_of k).kind inner s.5.0,
  decays k checked ((whole_of k).kind outer) ((whole_of k).kind inner) of t (fixed_column into) (fixed_column from) at code h,
  leaves_held k.parameters types after into (Some (PointerTo inner t)) s.5.1,
)

pub address_cured : (k : Scope) (types : Typing) (into from : Temp) (outer inner : NodeId) (t : TypeId) (code : List Instr)
    → Line (part_row ((whole_of k).kind inner) (world_of k) (cured_size (whole_of k) t) t (fixed_column into) (fixed_column from) 381) code
    → PointCured (point.Address into from outer inner t) (world_of k) types code
unfolding PointCured
address_cured k types into from outer inner t code h c after is whole s = (
  fixed_column from,
  [],
  seat,
  placed-at k.parameters types from outer t s.3,
  takes k into (whole_of k).kind inner s.4.0,
  part-words k ((whole_of k).kind inner) (cured_size (whole_of k) t) t (fixed_column into) (fixed_column from) 381 code h,
  leaves_held k.parameters types after into (Some (PointerTo inner t)) s.4.1,
)

-- the offset is that of the member, where no pointer lies across it
pub member_cured : (k : Scope) (types : Typing) (into from : Temp) (outer : NodeId) (t : TypeId) (i : ℕ) (inner : NodeId) (u : TypeId) (at : Place) (offset : ℕ) (code : List Instr)
    → (IsBetweenPointers (cells_of (whole_of k).table t) (offset_of (whole_of k).table t i)
    → offset ≡ cured_offset (world_of k) ((whole_of k).kind outer) t (offset_of (whole_of k).table t i))
    → PartOf (world_of k) ((whole_of k).kind outer) t ((whole_of k).kind inner) (cured_size (whole_of k) u) u offset (fixed_column into) (fixed_column from) at code
    → PointCured (point.Member into from outer t i inner u at) (world_of k) types code
unfolding PointCured
member_cured k types into from outer t i inner u at offset code same h c after is whole s =
    let table = is.table in
    let complete = subst (λ z. IsComplete z t) table s.2.1 in
    let aggregate = subst (λ z. IsAggregate z t) table s.3 in
    let there = subst (λ z. i < length (members_at z t)) table s.4 in
    let e = same (whole t i complete aggregate there) in (
      fixed_column from,
      [],
      seat,
      is_address k.parameters types from outer t s.6,
      takes k into (whole_of k).kind inner s.7.0,
      part-of k ((whole_of k).kind outer) t ((whole_of k).kind inner) (cured_size (whole_of k) u) u
          (cured_offset (world_of k) ((whole_of k).kind outer) t (offset_of (whole_of k).table t i)) (fixed_column into) (fixed_column from) at code
          (subst (λ z. PartOf (world_of k) ((whole_of k).kind outer) t ((whole_of k).kind inner) (cured_size (whole_of k) u) u z (fixed_column into) (fixed_column from) at code) e h),
      leaves_held k.parameters types after into (Some (PlaceOf inner u)) s.7.1,
    )

pub null_cured : (k : Scope) (types : Typing) (into p : Temp) (t : TypeId) (different : Bool) (x : HeldType) (code : List Instr) → types p ≡ Some x
    → Then (Line (tested_lines (is_wide (whole_of k) x) (fixed_column p)))
    (Line (null_operation different (fixed_column into) (tested_slot (is_wide (whole_of k) x) (fixed_column p)) 381 ∷ [])) code
    → PointCured (point.IsNull into p t different) (world_of k) types code
unfolding PointCured Then
null_cured k types into p t different x code e h c after is whole s = (
  s.0,
  s.1,
  fixed_column p,
  [],
  tested_slot (is_wide (whole_of k) x) (fixed_column p),
  points k.parameters types p s.0 s.1 s.3,
  (s.4.0, omega arith),
  (h.0, h.1, is_tested k types p x h.0 e h.2, h.3, h.4),
  leaves_held k.parameters types after into (Some (IntegerOf int)) s.4.1,
)

-- Two pointers

seated-order : (k : Scope) (kind other : Kind) (p q : PointerSlots) (apart : Option Fixed) → AreSeated (apart_needs apart)
    → AreSeated (numbers_of (order_by (world_of k) seat kind p other q apart) kind)
seated-order k kind other p q apart h =
    seated_append (base_needs kind (wild_numbers (world_of k) seat) ++ base_needs other (wild_numbers (world_of k) seat)) (apart_needs apart)
    (seated_append (base_needs kind (wild_numbers (world_of k) seat)) (base_needs other (wild_numbers (world_of k) seat)) (seated_base k kind) (seated_base k other)) h

seated-comparing : (k : Scope) (which : Comparison) (kind other : Kind) (p q : PointerSlots)
    → AreSeated (numbers_of (comparing which (world_of k) seat kind p other q) kind)
seated-comparing k comparison.Equal kind other p q = tt
seated-comparing k comparison.Different kind other p q = tt
seated-comparing k comparison.Less kind other p q = seated-order k kind other p q None tt
seated-comparing k comparison.LessOrEqual kind other p q = seated-order k kind other p q None tt
seated-comparing k comparison.Greater kind other p q = seated-order k kind other p q None tt
seated-comparing k comparison.GreaterOrEqual kind other p q = seated-order k kind other p q None tt

pub difference_cured : (k : Scope) (types : Typing) (into a b : Temp) (t s : TypeId) (at : Place) (m n : NodeId) (u v : TypeId) (code : List Instr)
    → IsPointerAt (whole_of k) t m u → IsPointerAt (whole_of k) s n v
    → DifferenceOf (world_of k) ((whole_of k).kind m) ((whole_of k).kind n) u (fixed_column into) (fixed_column a) (fixed_column b) at code
    → PointCured (point.Difference into a t b s at) (world_of k) types code
unfolding PointCured Then Line
difference_cured k types into a b t s at m n u v code left right h c after is whole z =
    let e = one_pointer (world_of k) c t m z.0 u z.2 is left z.4 in
    let f = one_pointer (world_of k) c s n z.1 v z.3 is right z.5 in
    let g = subst (λ x. DifferenceOf (world_of k) ((whole_of k).kind x) ((whole_of k).kind z.1) z.2 (fixed_column into) (fixed_column a) (fixed_column b) at code) e.0
    (subst (λ x. DifferenceOf (world_of k) ((whole_of k).kind m) ((whole_of k).kind x) z.2 (fixed_column into) (fixed_column a) (fixed_column b) at code) f.0
    (subst (λ x. DifferenceOf (world_of k) ((whole_of k).kind m) ((whole_of k).kind n) x (fixed_column into) (fixed_column a) (fixed_column b) at code) e.1 h)) in
    let kind = (whole_of k).kind z.0 in let other = (whole_of k).kind z.1 in
    let size = number_at seat Size (reach_of (world_of k) kind z.2) in
    let rest = g.3 in (
      z.0,
      z.1,
      z.2,
      z.3,
      fixed_column a,
      fixed_column b,
      [],
      [],
      seat,
      e.2,
      f.2,
      subst (λ x. IsComplete x z.2) is.table z.6.1,
      points k.parameters types a z.0 z.2 z.9,
      points k.parameters types b z.1 z.3 z.10,
      (z.11.0, omega arith),
      (
        g.0,
        g.1,
        guarded k (order_by (world_of k) seat kind (pointer_slots (fixed_column a)) other (pointer_slots (fixed_column b)) (Some size)) kind at g.0
            (seated-order k kind other (pointer_slots (fixed_column a)) (pointer_slots (fixed_column b)) (Some size) (seated_size (reach_of (world_of k) kind z.2))) g.2,
        rest.4 ∙ ap (λ x. x ++ rest.1) rest.2 ∙ ap (λ x. instr.Sub (fixed_column into) (fixed_column a) (fixed_column b) ∷ x) rest.3,
        g.4,
      ),
      leaves_held k.parameters types after into (Some (IntegerOf long)) z.11.1,
    )

pub compare_cured : (k : Scope) (types : Typing) (which : Comparison) (into a b : Temp) (t s : TypeId) (at : Place) (m n : NodeId) (u v : TypeId) (code : List Instr)
    → IsPointerAt (whole_of k) t m u → IsPointerAt (whole_of k) s n v
    → ComparedBy which (world_of k) ((whole_of k).kind m) ((whole_of k).kind n) (fixed_column into) (fixed_column a) (fixed_column b) at code
    → PointCured (point.Compare into which a t b s at) (world_of k) types code
unfolding PointCured Then
compare_cured k types which into a b t s at m n u v code left right h c after is whole z =
    let e = one_pointer (world_of k) c t m z.0 u z.2 is left z.4 in
    let f = one_pointer (world_of k) c s n z.1 v z.3 is right z.5 in
    let g = subst (λ x. ComparedBy which (world_of k) ((whole_of k).kind x) ((whole_of k).kind z.1) (fixed_column into) (fixed_column a) (fixed_column b) at code) e.0
    (subst (λ x. ComparedBy which (world_of k) ((whole_of k).kind m) ((whole_of k).kind x) (fixed_column into) (fixed_column a) (fixed_column b) at code) f.0 h) in
    let kind = (whole_of k).kind z.0 in let other = (whole_of k).kind z.1 in (
      z.0,
      z.1,
      z.2,
      z.3,
      fixed_column a,
      fixed_column b,
      [],
      [],
      seat,
      e.2,
      f.2,
      points k.parameters types a z.0 z.2 z.7,
      points k.parameters types b z.1 z.3 z.8,
      (z.9.0, omega arith),
      (
        g.0,
        g.1,
        guarded k (comparing which (world_of k) seat kind (pointer_slots (fixed_column a)) other (pointer_slots (fixed_column b))) kind at g.0
            (seated-comparing k which kind other (pointer_slots (fixed_column a)) (pointer_slots (fixed_column b))) g.2,
        g.3,
        g.4,
      ),
      leaves_held k.parameters types after into (Some (IntegerOf int)) z.9.1,
    )

pub no_left : (w : Whole) (t s : TypeId) → (HasPointer w t → Prim.⊥) → HavePointers w t s → Prim.⊥
unfolding HavePointers
no_left w t s none h = none h.0

pub no_right : (w : Whole) (t s : TypeId) → (HasPointer w s → Prim.⊥) → HavePointers w t s → Prim.⊥
unfolding HavePointers
no_right w t s none h = none h.1
