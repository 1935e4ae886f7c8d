-- The lines of loads and stores.
use Rattle.std.proofs.Common.{⊎_elim, ◌≡◌, refl, ap, sym, subst, ◌∙◌, ℕ, ◌+◌, ◌≤◌, inl, inr, true, false, Option, Some, None, List, [], ◌∷◌, nat_eq, arith, if◌then◌else◌}
use Rattle.cc_base.specs.declared.number.TypeId.{TypeId}
use Rattle.cc_base.specs.declared.number.NodeId.{NodeId}
use Rattle.cc_base.specs.declared.place.Place.{Place}
use Rattle.cc_base.specs.declared.kind.Kind.{Kind}
use Rattle.cc_base.specs.declared.kind.Kind.TheVariants.{Safe, Seq, Rtti, Wild}
use Rattle.c_types.specs.declared.shape.TypeShape.TheVariants as shape
use Rattle.c_types.specs.Table.{shape_at}
use Rattle.integers.specs.Arithmetic.{IntegerType}
use Rattle.cil_form.specs.declared.number.Temp.{Temp}
use Rattle.cil_form.specs.declared.instr.Access.TheVariants as access
use Rattle.cil_form.specs.declared.instr.Target.TheVariants as target
use Rattle.cil_form.specs.Typing as shaped
use Rattle.cil_form.specs.Typing.{Context, Typing, HeldType, IntegerOf, PointerTo, PlaceOf}
use Rattle.cured_code.specs.declared.instr.Instr.{Instr}
use Rattle.cured_code.specs.declared.instr.Instr.TheVariants as instr
use Rattle.check_forms.specs.Pieces.{Line, Then}
use Rattle.check_forms.specs.declared.slots.Fixed.{Fixed}
use Rattle.check_forms.specs.declared.slots.PointerSlots.{PointerSlots}
use Rattle.check_forms.specs.declared.op.WildNumbers.{WildNumbers}
use Rattle.check_forms.specs.declared.op.Op.{Op}
use Rattle.check_forms.specs.Rows.{home_slot}
use Rattle.sim_relation.specs.Ground.{word_number}
use Rattle.sim_relation.specs.Points.{Known, Exact}
use Rattle.cure_rules.specs.Known.{Whole, World, IsAddress, known_of, known_at, pointer_slots}
use Rattle.cure_rules.specs.Checks.{Need, numbers_of, size_needed, reach_needs, aligned_needs, tagged_needs, size_at, wild_numbers, read_integer, read_pointer, write_integer, write_pointer, IsGuarded}
use Rattle.cure_rules.specs.Accesses.{LoadsInteger, LoadsPointer, PointerLoaded, PointerStored, Targets}
use Rattle.cure_scope.specs.declared.scope.Scope.{Scope}
use Rattle.cure_scope.specs.Scopes.{fixed_column, fixed_slots, seat, whole_of, world_of}
use Rattle.cure_scope.specs.Needs.{Guards, AreSeated}
use Rattle.cure_scope.proofs.GuardLaws.{guarded}
use Rattle.cure_instrs.specs.Cured.{AccessCured, IsIn, HasPointer, IsPointerAt, CanReach}
use Rattle.cure_instrs.specs.Lines.{IsIntegerAt, LoadedInteger, LoadedPointer, pointer_loaded, StoredInteger, StoredPointer, pointer_stored, HasInteger, AgreeOn}
use Rattle.cure_instrs.proofs.KnownLaws.{leaves_held, includes_held, is_lowly, takes, is_address, points}
use Rattle.cure_instrs.proofs.SeatLaws.{seated_read_integer, seated_read_pointer, seated_write_integer, seated_write_pointer}

-- an integer is loaded
pub integer_loaded : (k : Scope) (types : Typing) (into from : Temp) (n : NodeId) (t : TypeId) (at : Place) (i : IntegerType) (code : List Instr)
    → IsIntegerAt (whole_of k) t i → LoadedInteger (world_of k) ((whole_of k).kind n) t i (fixed_column into) (fixed_column from) at code
    → AccessCured (access.Load into from n t at) (world_of k) types code
unfolding AccessCured IsIntegerAt Then
integer_loaded k types into from n t at i code type h c after is s =
    let kind = (whole_of k).kind n in
    let e : shape_at c.table t ≡ shape.Integer i.bytes i.signed = ap (λ z. shape_at z t) is.table ∙ type.0 in
    let held : shaped.held_by c t ≡ Some (IntegerOf i) = ap shaped.held_shape e in
    let leaves = s.3 in (
      fixed_column from,
      [],
      is_address k.parameters types from n t s.2,
      inl (
        i,
        Exact,
        seat,
        (type.0, type.1),
        (leaves.0, omega arith),
        (
          h.0,
          h.1,
          guarded k (read_integer (world_of k) seat kind t (pointer_slots (fixed_column from))) kind at h.0
              (seated_read_integer k kind t (pointer_slots (fixed_column from))) h.2,
          h.3,
          h.4,
        ),
        leaves_held k.parameters types after into (Some (IntegerOf i)) (subst (λ z. shaped.Includes (shaped.with_held into z types) after) held leaves.1),
      ),
    )

pointer-loaded : (k : Scope) (outer kind : Kind) (v a : ℕ) (code : List Instr) → pointer_loaded outer kind (world_of k) v a code → PointerLoaded outer kind (world_of k) v a code
pointer-loaded k Wild Wild v a code h = h
pointer-loaded k Wild Safe v a code h = absurd h
pointer-loaded k Wild Seq v a code h = absurd h
pointer-loaded k Wild Rtti v a code h = absurd h
pointer-loaded k Safe kind v a code h = h
pointer-loaded k Seq kind v a code h = h
pointer-loaded k Rtti kind v a code h = h

-- a pointer is loaded
pub pointer_load : (k : Scope) (types : Typing) (into from : Temp) (n : NodeId) (t : TypeId) (at : Place) (m : NodeId) (u : TypeId) (code : List Instr)
    → IsPointerAt (whole_of k) t m u
    → LoadedPointer (world_of k) ((whole_of k).kind n) ((whole_of k).kind m) t (fixed_column into) (fixed_column from) at code
    → AccessCured (access.Load into from n t at) (world_of k) types code
unfolding AccessCured Then IsPointerAt
pointer_load k types into from n t at m u code type h c after is s =
    let kind = (whole_of k).kind n in
    let e : shape_at c.table t ≡ shape.Pointer m u = ap (λ z. shape_at z t) is.table ∙ type in
    let held : shaped.held_by c t ≡ Some (PointerTo m u) = ap shaped.held_shape e in
    let leaves = s.3 in (
      fixed_column from,
      [],
      is_address k.parameters types from n t s.2,
      inr (
        m,
        u,
        seat,
        type,
        takes k into (whole_of k).kind m leaves.0,
        (
          h.0,
          h.1,
          guarded k (read_pointer (world_of k) seat kind t (pointer_slots (fixed_column from))) kind at h.0
              (seated_read_pointer k kind t (pointer_slots (fixed_column from))) h.2,
          pointer-loaded k kind ((whole_of k).kind m) (fixed_column into) (fixed_column from) h.1 h.3,
          h.4,
        ),
        leaves_held k.parameters types after into (Some (PointerTo m u)) (subst (λ z. shaped.Includes (shaped.with_held into z types) after) held leaves.1),
      ),
    )

-- Stores

-- the address that a store goes to
pub reaches : (k : Scope) (types : Typing) (c : Context) (p : Temp) (n : NodeId) (t : TypeId) → shaped.HoldsAddress types p n t
    → Targets (target.Pointer p n) (world_of k) (known_of (fixed_slots k.parameters) types) t (pointer_slots (fixed_column p)) []
unfolding Line
reaches k types c p n t h = (fixed_column p, [], is_address k.parameters types p n t h, refl, refl)

held-value : (c : Context) (types : Typing) (v : Temp) (t : TypeId) (x : HeldType) → shaped.HoldsOf c types v t → shaped.held_by c t ≡ Some x
    → shaped.Holds types v x
held-value c types v t x h e = (h.1, h.2 ∙ e)

pub integer_stores : (k : Scope) (types : Typing) (p v : Temp) (n : NodeId) (t : TypeId) (at assignment : Place) (i : IntegerType) (code : List Instr)
    → IsIntegerAt (whole_of k) t i
    → StoredInteger (world_of k) ((whole_of k).kind n) t i (pointer_slots (fixed_column p)) (fixed_column v) at code
    → AccessCured (access.Store (target.Pointer p n) v t at assignment) (world_of k) types code
unfolding AccessCured IsIntegerAt Then
integer_stores k types p v n t at assignment i code type h c after is s =
    let kind = (whole_of k).kind n in
    let e : shape_at c.table t ≡ shape.Integer i.bytes i.signed = ap (λ z. shape_at z t) is.table ∙ type.0 in
    let value = held-value c types v t (IntegerOf i) s.1 (ap shaped.held_shape e) in (
      pointer_slots (fixed_column p),
      inl (
        [],
        code,
        reaches k types c p n t s.0.1,
        (
          i,
          fixed_column v,
          seat,
          (type.0, type.1),
          is_lowly k.parameters types v i value,
          (
            h.0,
            h.1,
            guarded k (write_integer (world_of k) seat kind t (pointer_slots (fixed_column p))) kind at h.0
                (seated_write_integer k kind t (pointer_slots (fixed_column p))) h.2,
            h.3,
            h.4,
          ),
        ),
        refl,
      ),
      includes_held k.parameters types after s.2,
    )

pointer-stored : (k : Scope) (outer kind : Kind) (s : PointerSlots) (v : ℕ) (code : List Instr) → pointer_stored outer kind (world_of k) s v code
    → PointerStored outer kind (world_of k) s v code
pointer-stored k Wild Wild s v code h = h
pointer-stored k Wild Safe s v code h = absurd h
pointer-stored k Wild Seq s v code h = absurd h
pointer-stored k Wild Rtti s v code h = absurd h
pointer-stored k Safe kind s v code h = h
pointer-stored k Seq kind s v code h = h
pointer-stored k Rtti kind s v code h = h

pub pointer_stores : (k : Scope) (types : Typing) (p v : Temp) (n : NodeId) (t : TypeId) (at assignment : Place) (m : NodeId) (u : TypeId) (code : List Instr)
    → IsPointerAt (whole_of k) t m u
    → StoredPointer (world_of k) ((whole_of k).kind n) ((whole_of k).kind m) t (pointer_slots (fixed_column p)) (fixed_column v) at assignment code
    → AccessCured (access.Store (target.Pointer p n) v t at assignment) (world_of k) types code
unfolding AccessCured Then IsPointerAt
pointer_stores k types p v n t at assignment m u code type h c after is s =
    let kind = (whole_of k).kind n in
    let e : shape_at c.table t ≡ shape.Pointer m u = ap (λ z. shape_at z t) is.table ∙ type in
    let value = held-value c types v t (PointerTo m u) s.1 (ap shaped.held_shape e) in (
      pointer_slots (fixed_column p),
      inr (
        [],
        code,
        reaches k types c p n t s.0.1,
        (
          m,
          u,
          fixed_column v,
          [],
          seat,
          type,
          points k.parameters types v m u value,
          (
            h.0,
            h.1,
            guarded k (write_pointer (world_of k) seat kind t (pointer_slots (fixed_column p)) (home_slot ((whole_of k).kind m) (pointer_slots (fixed_column v))) assignment) kind at h.0
                (seated_write_pointer k kind t (pointer_slots (fixed_column p)) (home_slot ((whole_of k).kind m) (pointer_slots (fixed_column v))) assignment) h.2,
            pointer-stored k kind ((whole_of k).kind m) (pointer_slots (fixed_column p)) (fixed_column v) h.1 h.3,
            h.4,
          ),
        ),
        refl,
      ),
      includes_held k.parameters types after s.2,
    )

-- a scalar that is no integer and no pointer isn't there
pub no_scalar : (w : Whole) (n : NodeId) (t : TypeId) → (HasInteger w t → Prim.⊥) → (HasPointer w t → Prim.⊥) → CanReach w n t → Prim.⊥
unfolding CanReach
no_scalar w n t f g (h, agree) = ⊎_elim f g h

pub agreed : (w : Whole) (n : NodeId) (t : TypeId) (m : NodeId) (u : TypeId) → IsPointerAt w t m u → CanReach w n t → AgreeOn (w.kind n) (w.kind m)
unfolding CanReach
agreed w n t m u is h = h.1 m u is
