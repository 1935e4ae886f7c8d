-- The lines that clear and initialise objects are cured code of it.
use Rattle.std.specs.Prelude.{IsSome}
use Rattle.std.proofs.Common.{◌≡◌, refl, ap, subst, ◌∙◌, ◌⊎◌, ℕ, inl, inr, Some, List, [], ◌∷◌, ◌++◌}
use Rattle.cc_base.specs.declared.kind.Kind.{Kind}
use Rattle.cc_base.specs.declared.kind.Kind.TheVariants.{Safe, Seq, Rtti, Wild}
use Rattle.cc_base.specs.declared.number.TypeId.{TypeId}
use Rattle.cc_base.specs.declared.number.NodeId.{NodeId}
use Rattle.cc_base.specs.declared.place.Place.{Place}
use Rattle.c_types.specs.declared.shape.TypeShape.TheVariants as shape
use Rattle.c_types.specs.Table.{IsComplete, shape_at}
use Rattle.c_types.specs.Cells.{IsBetweenPointers}
use Rattle.c_types.specs.Equality.{cells_of}
use Rattle.src_mem.specs.Memory.{Planned}
use Rattle.cil_form.specs.declared.number.Temp.{Temp}
use Rattle.cil_form.specs.declared.number.Object.{Object}
use Rattle.cil_form.specs.declared.number.Object.TheVariants as object
use Rattle.cil_form.specs.declared.instr.Access.TheVariants as access
use Rattle.cil_form.specs.declared.instr.Target.TheVariants as target
use Rattle.cil_form.specs.Typing as shaped
use Rattle.cil_form.specs.Typing.{Typing, IntegerOf, PointerTo, HeldType}
use Rattle.cured_code.specs.declared.instr.Instr.{Instr}
use Rattle.cured_code.specs.declared.instr.Instr.TheVariants as instr
use Rattle.check_forms.specs.declared.slots.PointerSlots.{PointerSlots}
use Rattle.check_forms.specs.Pieces.{Piece, Line, Then}
use Rattle.check_forms.specs.Rows.{home_slot}
use Rattle.integers.specs.Arithmetic.{IntegerType}
use Rattle.sim_relation.specs.Points.{Number, Start}
use Rattle.cure_rules.specs.Slots.{Address, Base, Offset, slot_of}
use Rattle.cure_rules.specs.Known.{Whole, World, Gets, Sets, known_of, pointer_slots}
use Rattle.cure_rules.specs.Checks.{Seat, write_integer, write_pointer}
use Rattle.cure_rules.specs.Pointing.{cured_offset}
use Rattle.cure_rules.specs.Accesses as accesses
use Rattle.cure_rules.specs.Accesses.{ClearedBy, Targets, PointerStored, StoresInteger, StoresPointer, part_slots, plan_of}
use Rattle.cure_scope.specs.declared.scope.Scope.{Scope}
use Rattle.cure_scope.specs.Scopes.{fixed_column, fixed_slots, seat, whole_of, world_of}
use Rattle.cure_scope.proofs.GuardLaws.{guarded}
use Rattle.cure_instrs.specs.Cured.{IsHome, IsPointerAt}
use Rattle.cure_instrs.specs.Lines.{start_line, pointer_stored, IsIntegerAt, StoredInteger, StoredPointer}
use Rattle.cure_instrs.proofs.KnownLaws.{includes_held, is_lowly, points}
use Rattle.cure_instrs.proofs.SeatLaws.{seated_write_integer, seated_write_pointer}
use Rattle.cure_objects.specs.Cured.{CanPlace, HasPlan, ObjectCured}
use Rattle.cure_objects.specs.Lines.{Cleared, PartSet, ScalarStored, part_at}

set-start : (k : Scope) (o : Object) (v : ℕ) → Sets (world_of k) (Start o) v (start_line k o v ∷ [])
unfolding Line
set-start k (object.Variable n) v = refl
set-start k (object.Static n) v = refl

-- Clearing

cleared-by : (k : Scope) (kind : Kind) (o : Object) (t : TypeId) (code : List Instr) → Cleared kind k o t code
    → Then (λ x. ((seat Address ≡ seat Address) × Sets (world_of k) (Start o) (seat Address) x)) (ClearedBy kind (world_of k) t (seat Address)) code
unfolding Line Then
cleared-by k Safe o t code h = (_, _, (refl, set-start k o (seat Address)), refl, h)
cleared-by k Wild o t code h = (_, _, (refl, set-start k o (seat Address)), refl, h)
cleared-by k Seq o t code h = absurd h
cleared-by k Rtti o t code h = absurd h

pub object_cleared : (k : Scope) (types : Typing) (o : Object) (x : Planned) (code : List Instr) → plan_of (world_of k) o ≡ Some x
    → Cleared ((whole_of k).kind x.node) k o x.type code → ObjectCured (access.Clear o) (world_of k) types code
unfolding ObjectCured Then
object_cleared k types o x code e h c after is whole s =
    let p = cleared-by k ((whole_of k).kind x.node) o x.type code h in
    (x, seat Address, e, (p.0, p.1, inr p.2, p.3, p.4), includes_held k.parameters types after s.1)

pub planned_home : (w : World) (o : Object) (x : Planned) → plan_of w o ≡ Some x → HasPlan w o → IsHome (w.whole.kind x.node)
unfolding HasPlan
planned_home w o x e h = h.1 x e

pub not_planned : (w : World) (o : Object) → (IsSome (plan_of w o) → ⊥) → HasPlan w o → ⊥
unfolding HasPlan
not_planned w o none h = none h.0

-- Scalars

pub integer_scalar : (w : World) (outer : Kind) (t : TypeId) (s : PointerSlots) (v : ℕ) (at assignment : Place) (i : IntegerType) (code : List Instr)
    → IsIntegerAt w.whole t i → StoredInteger w outer t i s v at code → ScalarStored w outer t s v at assignment code
unfolding ScalarStored
integer_scalar w outer t s v at assignment i code type h = inl (i, type, h)

pub pointer_scalar : (w : World) (outer : Kind) (t : TypeId) (s : PointerSlots) (v : ℕ) (at assignment : Place) (m : NodeId) (u : TypeId) (code : List Instr)
    → IsPointerAt w.whole t m u → StoredPointer w outer (w.whole.kind m) t s v at assignment code → ScalarStored w outer t s v at assignment code
unfolding ScalarStored
pointer_scalar w outer t s v at assignment m u code type h = inr (m, u, type, h)

-- Parts

held-value : (c : shaped.Context) (types : Typing) (v : Temp) (t : TypeId) (x : HeldType) → shaped.HoldsOf c types v t → shaped.held_by c t ≡ Some x
    → shaped.Holds types v x
held-value c types v t x h e = (h.1, h.2 ∙ e)

pointer-stored : (k : Scope) (outer kind : Kind) (s : PointerSlots) (v : ℕ) (code : List Instr) → pointer_stored outer kind (world_of k) s v code
    → PointerStored outer kind (world_of k) s v code
pointer-stored k Wild Wild s v code h = h
pointer-stored k Wild Safe s v code h = absurd h
pointer-stored k Wild Seq s v code h = absurd h
pointer-stored k Wild Rtti s v code h = absurd h
pointer-stored k Safe kind s v code h = h
pointer-stored k Seq kind s v code h = h
pointer-stored k Rtti kind s v code h = h

pub part_set : (k : Scope) (kind : Kind) (o : Object) (n : ℕ) (x : List Instr) → PartSet kind k o n x
    → (b : ℕ) × (seats : Seat) × accesses.IsHome kind × (part_at ≡ part_slots (world_of k) b)
    × Then (Gets (world_of k) Base (Start o) b) (Then (Gets (world_of k) Offset (Number n) (seats Offset))
    (Line (instr.Add (slot_of (world_of k).slots Address) b (seats Offset) ∷ []))) x
unfolding Line Then
part_set k Safe o n x h = (
  seat Base,
  seat,
  tt,
  refl,
  (
    start_line k o (seat Base) ∷ [],
    _,
    inr (refl, set-start k o (seat Base)),
    (instr.Const (seat Offset) n ∷ [], instr.Add (seat Address) (seat Base) (seat Offset) ∷ [], inr (refl, refl), refl, refl),
    h,
  ),
)
part_set k Wild o n x h = (
  seat Base,
  seat,
  tt,
  refl,
  (
    start_line k o (seat Base) ∷ [],
    _,
    inr (refl, set-start k o (seat Base)),
    (instr.Const (seat Offset) n ∷ [], instr.Add (seat Address) (seat Base) (seat Offset) ∷ [], inr (refl, refl), refl, refl),
    h,
  ),
)
part_set k Seq o n x h = absurd h
part_set k Rtti o n x h = absurd h

scalar-cured : (k : Scope) (types : Typing) (c : shaped.Context) (v : Temp) (t : TypeId) (home : NodeId) (at assignment : Place) (y : List Instr)
    → c.table ≡ (whole_of k).table → shaped.HoldsOf c types v t
    → ((i : IntegerType) × IsIntegerAt (whole_of k) t i × StoredInteger (world_of k) ((whole_of k).kind home) t i part_at (fixed_column v) at y)
    ⊎ ((m : NodeId) × (u : TypeId) × IsPointerAt (whole_of k) t m u
    × StoredPointer (world_of k) ((whole_of k).kind home) ((whole_of k).kind m) t part_at (fixed_column v) at assignment y)
    → StoresInteger (world_of k) v t part_at ((whole_of k).kind home) at (known_of (fixed_slots k.parameters) types) y
    ⊎ StoresPointer (world_of k) v t part_at ((whole_of k).kind home) at assignment (known_of (fixed_slots k.parameters) types) y
unfolding Then IsIntegerAt IsPointerAt
scalar-cured k types c v t home at assignment y table holds (inl h) =
    let kind = (whole_of k).kind home in
    let e : shape_at c.table t ≡ shape.Integer h.0.bytes h.0.signed = ap (λ z. shape_at z t) table ∙ h.1.0 in
    let value = held-value c types v t (IntegerOf h.0) holds (ap shaped.held_shape e) in
    inl (
      h.0,
      fixed_column v,
      seat,
      (h.1.0, h.1.1),
      is_lowly k.parameters types v h.0 value,
      (h.2.0, h.2.1, guarded k (write_integer (world_of k) seat kind t part_at) kind at h.2.0 (seated_write_integer k kind t part_at) h.2.2, h.2.3, h.2.4),
    )
scalar-cured k types c v t home at assignment y table holds (inr h) =
    let kind = (whole_of k).kind home in
    let m = h.0 in
    let e : shape_at c.table t ≡ shape.Pointer h.0 h.1 = ap (λ z. shape_at z t) table ∙ h.2 in
    let value = held-value c types v t (PointerTo h.0 h.1) holds (ap shaped.held_shape e) in
    let home_word = home_slot ((whole_of k).kind m) (pointer_slots (fixed_column v)) in
    inr (
      h.0,
      h.1,
      fixed_column v,
      [],
      seat,
      h.2,
      points k.parameters types v h.0 h.1 value,
      (
        h.3.0,
        h.3.1,
        guarded k (write_pointer (world_of k) seat kind t part_at home_word assignment) kind at h.3.0
            (seated_write_pointer k kind t part_at home_word assignment) h.3.2,
        pointer-stored k kind ((whole_of k).kind m) part_at (fixed_column v) h.3.1 h.3.3,
        h.3.4,
      ),
    )

either-behind : (T A B : Piece) (x y code : List Instr) → T x → code ≡ x ++ y → A y ⊎ B y → Then T A code ⊎ Then T B code
unfolding Then
either-behind T A B x y code p e (inl a) = inl (x, y, p, a, e)
either-behind T A B x y code p e (inr b) = inr (x, y, p, b, e)

pub part_stored : (k : Scope) (types : Typing) (o : Object) (home : NodeId) (u : TypeId) (offset : ℕ) (v : Temp) (t : TypeId) (at assignment : Place)
    (n : ℕ) (code : List Instr)
    → (IsBetweenPointers (cells_of k.layouts.now.table u) offset → n ≡ cured_offset (world_of k) ((whole_of k).kind home) u offset)
    → IsComplete k.layouts.now.table u
    → Then (PartSet ((whole_of k).kind home) k o n) (ScalarStored (world_of k) ((whole_of k).kind home) t part_at (fixed_column v) at assignment) code
    → ObjectCured (access.Store (target.Part o home u offset) v t at assignment) (world_of k) types code
unfolding ObjectCured Then ScalarStored
part_stored k types o home u offset v t at assignment n code far complete h c after is whole s =
    let w = world_of k in
    let kind = (whole_of k).kind home in
    let part = subst (λ z. shaped.IsPart z u offset t) is.table s.0.1 in
    let m = far (whole u t offset complete part) in
    let set = part_set k kind o (cured_offset w kind u offset) h.0 (subst (λ z. PartSet kind k o z h.0) m h.2) in (
      part_at,
      either-behind (Targets (target.Part o home u offset) w (known_of (fixed_slots k.parameters) types) t part_at)
          (StoresInteger w v t part_at kind at (known_of (fixed_slots k.parameters) types))
          (StoresPointer w v t part_at kind at assignment (known_of (fixed_slots k.parameters) types))
          h.0 h.1 code set h.4 (scalar-cured k types c v t home at assignment h.1 is.table s.1 h.3),
      includes_held k.parameters types after s.2,
    )

pub not_placed : (w : Whole) (u : TypeId) (offset : ℕ) (R : Type 0) → (CanPlace w u offset → ⊥) → CanPlace w u offset × R → ⊥
not_placed w u offset R none h = none h.0
