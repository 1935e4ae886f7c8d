-- Stores into a part of an object, as an initialiser makes them, and the clearing of an object keep the facts.
use Rattle.std.proofs.Common.{◌≡◌, ◌≢◌, inl, ◌∙◌, Option, None, Some, slice_get, ℕ, ◌+◌, ◌*◌, ◌<◌, ◌≤◌, ℤ, pos, ◌+ℤ◌, ◌≤ℤ◌, true, not, List, [], ◌∷◌, length, refl, ap, sym, subst, arith}
use Rattle.std.proofs.lemmas.Int.{ints}
use Rattle.std.specs.Prelude.{IsSome}
use Rattle.std.specs.List.{Contains}
use Rattle.cc_base.specs.declared.place.Place.{Place}
use Rattle.cc_base.specs.declared.kind.Kind.{Kind}
use Rattle.cc_base.specs.declared.kind.Kind.TheVariants.{Safe, Seq, Rtti, Wild}
use Rattle.cc_base.specs.declared.number.NodeId.{NodeId}
use Rattle.cc_base.specs.declared.number.TypeId.{TypeId}
use Rattle.c_types.specs.declared.shape.TypeShape.{TypeShape}
use Rattle.c_types.specs.declared.shape.TypeShape.TheVariants as shape
use Rattle.kind_sites.specs.declared.site.Site.TheVariants as site
use Rattle.c_types.specs.Table.{IsComplete, shape_at, members_at, is_aggregate_shape, is_complete_entry, is_empty}
use Rattle.c_types.specs.Layouts.{size_of, offset_of, member_at}
use Rattle.c_types.specs.Equality.{cells_of}
use Rattle.c_types.specs.Contents.{HoldsMixed}
use Rattle.kind_sites.specs.Solutions.{SpreadsWild, IsWildWhereMixed}
use Rattle.integers.specs.Arithmetic.{IntegerType}
use Rattle.src_mem.specs.Pointers.{Location, At, Value, Integer, Address}
use Rattle.src_mem.specs.Uses.{forward}
use Rattle.src_mem.specs.Values.{stored}
use Rattle.src_mem.specs.Memory as memory
use Rattle.src_mem.specs.Memory.{Planned}
use Rattle.src_mem.specs.Primitives.{clear}
use Rattle.src_mem.specs.Outlines.{Life, life, outlines_of, lives_of, LivesAt}
use Rattle.src_mem.proofs.Outlines.{mapped-from}
use Rattle.facts_kept.proofs.Clearing.{gives-cleared}
use Rattle.src_mem.specs.Facts.{IsPlaceIn, IsPlaceAt, IsTypedPlace, wild_least, wild_most}
use Rattle.src_mem.specs.Laws.{Gives}
use Rattle.src_mem.proofs.Right.{safe≢wild, seq≢wild, rtti≢wild}
use Rattle.facts_kept.specs.Kept.{IsKept, IsSub}
use Rattle.facts_kept.proofs.Complete.{complete-some, complete-data}
use Rattle.facts_kept.proofs.Members.{sub-own}
use Rattle.facts_kept.proofs.Offsets.{part-place}
use Rattle.facts_kept.proofs.Parts.{sub-member, sub-element, sub-twice, plain-sub}
use Rattle.facts_kept.proofs.PartsSpread.{member-fits, member-spreads, element-spreads}
use Rattle.facts_kept.proofs.Writing.{gives-written_pointer_place, gives-written_integer_place}
use Rattle.cil_form.specs.declared.number.Temp.{Temp}
use Rattle.cil_form.specs.declared.number.Object.{Object}
use Rattle.cil_form.specs.declared.instr.Target.TheVariants as target
use Rattle.cil_form.specs.declared.instr.Access.TheVariants as access
use Rattle.cil_form.specs.declared.instr.Instr.TheVariants as instr
use Rattle.cil_form.specs.State.{Local, Around}
use Rattle.cil_form.specs.Typing.{IntegerOf, PointerTo, Typing, Context, plan_of, IsObject, IsPart, whole, in_member, in_element, IsShaped, held_shape}
use Rattle.cil_form.specs.Meaning.{number_of, pointer_to, act}
use Rattle.cil_form.proofs.AskedLaws.{instr-asked}
use Rattle.cil_facts.specs.Held.{IsHeldAs, IsSolvedFor, AreFacts, AreFactsBehind, GoesOn}
use Rattle.cil_facts.proofs.Written.{goes-storing}
use Rattle.cil_facts.proofs.Conversions.{shape-in}
use Rattle.cil_facts.proofs.Accesses.{place-allowed}
use Rattle.cil_facts.proofs.Points.{array-complete, element-complete, member-complete, union-allowed}

module _ (k : Context) (a : Around) (solved : IsSolvedFor k a.setting) (types after : Typing) (c : Local) (facts : AreFacts k a types c) where
  -- Parts of a complete type

  part-complete : (u : TypeId) (offset : ℕ) (t : TypeId) → IsPart a.setting.table u offset t → IsComplete a.setting.table u
      → IsComplete a.setting.table t
  part-complete u offset t (whole x) h = h
  part-complete u offset t (in_member x i o y aggregate l part) h =
      part-complete (member_at a.setting.table x i) o y part (member-complete k a solved types after c facts x i aggregate l)
  part-complete u offset t (in_element x element count i o y e l part) h =
      part-complete element o y part (element-complete k a solved types after c facts x element count e)

  -- what has a complete part is complete
  pub whole-complete : (u : TypeId) (offset : ℕ) (t : TypeId) → IsPart a.setting.table u offset t → IsComplete a.setting.table t
      → IsComplete a.setting.table u
  whole-complete u offset t (whole x) h = h
  whole-complete u offset t (in_element x element count i o y e l part) h = array-complete k a solved types after c facts x element count e
  whole-complete u offset t (in_member x i o y aggregate l part) h = by (shape_at a.setting.table x) (members_at a.setting.table x) aggregate l
    where
      some : (ms : List TypeId) → i < length ms → not (is_empty ms) ≡ true
      some [] g = absurd (omega (arith, g))
      some (m ∷ ms) g = refl

      by : (s : TypeShape) (ms : List TypeId) → is_aggregate_shape s ≡ true → i < length ms → is_complete_entry s ms ≡ true
      by (shape.Struct tag) ms f g = some ms g
      by (shape.Union tag) ms f g = some ms g
      by shape.Void ms f g = absurd (cc (f))
      by (shape.Integer b s) ms f g = refl
      by (shape.Pointer n v) ms f g = refl
      by (shape.Array v n) ms f g = refl
      by (shape.Function ps r) ms f g = absurd (cc (f))

  part-fits : (u : TypeId) (offset : ℕ) (t : TypeId) → IsPart a.setting.table u offset t → IsComplete a.setting.table u
      → offset + size_of a.setting.table t ≤ size_of a.setting.table u
  part-fits u offset t (whole x) h = omega arith
  part-fits u offset t (in_member x i o y aggregate l part) h =
      let whole_part = member-complete k a solved types after c facts x i aggregate l in
      let m = member-fits a.setting solved.well_formed (union-allowed k a solved types after c facts) x i l h aggregate whole_part in
      let n = part-fits (member_at a.setting.table x i) o y part whole_part in
      omega (arith, m, n)
  part-fits u offset t (in_element x element count i o y e l part) h =
      let whole_part = element-complete k a solved types after c facts x element count e in
      let m = (sub-element a.setting solved.well_formed x element count i e l).room in
      let n = part-fits element o y part whole_part in
      let p = (complete-some a.setting.table solved.well_formed x h).1 in
      let q = (complete-some a.setting.table solved.well_formed element whole_part).1 in
      within (i * size_of a.setting.table element) (length (cells_of a.setting.table element)) (length (cells_of a.setting.table x)) o m n p q
    where
      within : (start cells all o : ℕ) → start + cells ≤ all → o + size_of a.setting.table y ≤ size_of a.setting.table element
          → all ≡ size_of a.setting.table x → cells ≡ size_of a.setting.table element
          → start + o + size_of a.setting.table y ≤ size_of a.setting.table x
      within start cells all o m n p q = omega (arith, m, n, p, q)

  part-spreads : (n : NodeId) (u : TypeId) (offset : ℕ) (t : TypeId) → IsPart a.setting.table u offset t → IsComplete a.setting.table u
      → SpreadsWild a.setting.table a.setting.kind n u → SpreadsWild a.setting.table a.setting.kind n t
  part-spreads n u offset t (whole x) h spreads = spreads
  part-spreads n u offset t (in_member x i o y aggregate l part) h spreads =
      let whole_part = member-complete k a solved types after c facts x i aggregate l in
      part-spreads n (member_at a.setting.table x i) o y part whole_part
      (member-spreads a.setting solved.well_formed (union-allowed k a solved types after c facts) x i l n h aggregate whole_part spreads)
  part-spreads n u offset t (in_element x element count i o y e l part) h spreads =
      let whole_part = element-complete k a solved types after c facts x element count e in
      part-spreads n element o y part whole_part
      (element-spreads a.setting solved.well_formed (union-allowed k a solved types after c facts) n x element count i e l h whole_part spreads)

  part-sub : (u : TypeId) (offset : ℕ) (t : TypeId) → IsPart a.setting.table u offset t → ((x : TypeId) → HoldsMixed a.setting.table u x → ⊥)
      → IsSub a.setting u offset t
  part-sub u offset t (whole x) plain = sub-own a.setting solved.well_formed x
  part-sub u offset t (in_member x i o y aggregate l part) plain =
      let first = sub-member a.setting solved.well_formed (union-allowed k a solved types after c facts) x i aggregate l plain in
      sub-twice a.setting solved.well_formed x (member_at a.setting.table x i) y (offset_of a.setting.table x i) o first
      (part-sub (member_at a.setting.table x i) o y part
      (plain-sub a.setting solved.well_formed x (member_at a.setting.table x i) (offset_of a.setting.table x i) first plain))
  part-sub u offset t (in_element x element count i o y e l part) plain =
      let first = sub-element a.setting solved.well_formed x element count i e l in
      sub-twice a.setting solved.well_formed x element y (i * size_of a.setting.table element) o first
      (part-sub element o y part (plain-sub a.setting solved.well_formed x element (i * size_of a.setting.table element) first plain))

  -- The place of a part

  pub part-there : (home : NodeId) (u : TypeId) (offset : ℕ) (t : TypeId) (l : Location) → l.offset ≡ pos 0 → IsPart a.setting.table u offset t
      → IsComplete a.setting.table u → IsWildWhereMixed a.setting.table a.setting.kind home u
      → IsPlaceIn a.setting c.state.memory a.depth (a.setting.kind home) u (At l)
      → IsPlaceIn a.setting c.state.memory a.depth (a.setting.kind home) t (At (record l { offset = l.offset +ℤ pos offset }))
  part-there home u offset t l start part complete mixed h =
      let same : h.location ≡ l = (let e = h.is in cc (e)) in record {
        location = record l { offset = l.offset +ℤ pos offset };
        is = refl;
        place = by (a.setting.kind home) refl (subst (λ m. IsPlaceAt a.setting (outlines_of c.state.memory) (a.setting.kind home) u m) same h.place);
        reaches = subst (λ (m : Location). LivesAt (lives_of c.state.memory) a.depth m.object) same h.reaches;
      }
    where
      small : offset ≤ 1048576
      small =
          let f = part-fits u offset t part complete in let m = (solved.well_formed.sized u complete).most in omega (arith, f, m)

      least : (z : ℤ) (n : ℕ) → z ≡ pos 0 → wild_least ≤ℤ (z +ℤ pos n)
      least z n e = grind (arith, ints)

      most : (z : ℤ) (n : ℕ) → z ≡ pos 0 → n ≤ 1048576 → (z +ℤ pos n) ≤ℤ wild_most
      most z n e h = grind (arith, ints)

      typed : a.setting.kind home ≢ Wild → IsTypedPlace a.setting (outlines_of c.state.memory) u l
          → IsTypedPlace a.setting (outlines_of c.state.memory) t (record l { offset = l.offset +ℤ pos offset })
      typed plain p =
          part-place a.setting solved.well_formed (outlines_of c.state.memory) u t offset l (part-complete u offset t part complete)
          (part-sub u offset t part (λ x m. plain (mixed x m))) p

      by : (y : Kind) → a.setting.kind home ≡ y → IsPlaceAt a.setting (outlines_of c.state.memory) y u l
          → IsPlaceAt a.setting (outlines_of c.state.memory) y t (record l { offset = l.offset +ℤ pos offset })
      by Safe e p = typed (λ f. safe≢wild (sym e ∙ f)) p
      by Seq e p = typed (λ f. seq≢wild (sym e ∙ f)) p
      by Rtti e p = typed (λ f. rtti≢wild (sym e ∙ f)) p
      by Wild e p = record {
        object = p.object;
        found = p.found;
        tagged = p.tagged;
        low = p.low;
        high = p.high;
        least = least l.offset offset start;
        most = most l.offset offset start small;
      }

  -- the address of a part of an object that code names
  named-allowed : (o : Object) (home : NodeId) (u : TypeId) → IsObject k o home u → IsComplete a.setting.table u
      → SpreadsWild a.setting.table a.setting.kind home u × IsWildWhereMixed a.setting.table a.setting.kind home u
  named-allowed o home u object complete =
      place-allowed k a solved home u (complete-data a.setting.table solved.well_formed u complete) (solved.tells.objects o home u object)

  pub part-placed : (o : Object) (home : NodeId) (u : TypeId) (offset : ℕ) (t : TypeId) → IsObject k o home u → IsPart a.setting.table u offset t
      → IsComplete a.setting.table u
      → IsPlaceIn a.setting c.state.memory a.depth (a.setting.kind home) t (forward offset (pointer_to a o u))
  part-placed o home u offset t object part complete =
      let h = facts.objects o home u object in
      let allowed = named-allowed o home u object complete in
      part-there home u offset t (record { object = number_of a o; part = record { low = 0; high = size_of a.setting.table u }; offset = pos 0; made = u })
      refl part complete allowed.1 h.1

  -- Stores

  part-stored : (o : Object) (home : NodeId) (u : TypeId) (offset : ℕ) (t : TypeId) (value : Temp) (at assignment : Place) → IsObject k o home u
      → IsComplete a.setting.table u → IsPart a.setting.table u offset t → IsSome (held_shape (shape_at k.table t))
      → types value ≡ held_shape (shape_at k.table t)
      → Gives (stored a.setting at assignment home t (Address (forward offset (pointer_to a o u))) (c.temps value) c.state)
      (λ x r. IsKept a.setting k.sites c.state.memory r.memory)
  part-stored o home u offset t value at assignment object complete part some is = by (shape_at k.table t) refl some is
    where
      allowed : SpreadsWild a.setting.table a.setting.kind home u × IsWildWhereMixed a.setting.table a.setting.kind home u
      allowed = named-allowed o home u object complete

      there : IsPlaceIn a.setting c.state.memory a.depth (a.setting.kind home) t (forward offset (pointer_to a o u))
      there = part-placed o home u offset t object part complete

      integer : (i : IntegerType) (v : Value) → shape_at a.setting.table t ≡ shape.Integer i.bytes i.signed
          → IsHeldAs a.setting k.sites c.state.memory a.depth (IntegerOf i) v
          → Gives (stored a.setting at assignment home t (Address (forward offset (pointer_to a o u))) v c.state)
          (λ x r. IsKept a.setting k.sites c.state.memory r.memory)
      integer i (Address q) e h = absurd h
      integer i (Integer z) e h =
          gives-written_integer_place a.setting solved.well_formed k.sites t i e c.state a.depth facts.memory.objects z at assignment
          (a.setting.kind home) (forward offset (pointer_to a o u)) facts.memory.outlines there

      pointer : (m : NodeId) (x : TypeId) (v : Value) → shape_at a.setting.table t ≡ shape.Pointer m x → Contains k.sites (site.Pointee m x)
          → IsHeldAs a.setting k.sites c.state.memory a.depth (PointerTo m x) v
          → Gives (stored a.setting at assignment home t (Address (forward offset (pointer_to a o u))) v c.state)
          (λ x r. IsKept a.setting k.sites c.state.memory r.memory)
      pointer m x (Integer z) e told h = absurd h
      pointer m x (Address q) e told h =
          gives-written_pointer_place a.setting solved.well_formed k.sites t x m e c.state a.depth facts.memory.objects q h.held (h.made told) at
          assignment home (forward offset (pointer_to a o u)) (part-spreads home u offset t part complete allowed.0) there

      by : (sh : TypeShape) → shape_at k.table t ≡ sh → IsSome (held_shape sh) → types value ≡ held_shape sh
          → Gives (stored a.setting at assignment home t (Address (forward offset (pointer_to a o u))) (c.temps value) c.state)
          (λ x r. IsKept a.setting k.sites c.state.memory r.memory)
      by (shape.Integer bytes signed) e some is =
          integer (record { bytes = bytes; signed = signed }) (c.temps value) (shape-in k a solved t (shape.Integer bytes signed) e)
          (facts.held value (IntegerOf (record { bytes = bytes; signed = signed })) is)
      by (shape.Pointer m x) e some is =
          pointer m x (c.temps value) (shape-in k a solved t (shape.Pointer m x) e) (facts.asked value (PointerTo m x) is)
          (facts.held value (PointerTo m x) is)
      by shape.Void e some is = absurd (cc (some))
      by (shape.Array element count) e some is = absurd (cc (some))
      by (shape.Function parameters result) e some is = absurd (cc (some))
      by (shape.Struct tag) e some is = absurd (cc (some))
      by (shape.Union tag) e some is = absurd (cc (some))

  pub part_store-keeps : (o : Object) (home : NodeId) (u : TypeId) (offset : ℕ) (value : Temp) (t : TypeId) (at assignment : Place)
      → IsShaped (instr.Access (access.Store (target.Part o home u offset) value t at assignment)) k types after
      → GoesOn (act (instr.Access (access.Store (target.Part o home u offset) value t at assignment)) a c) (AreFactsBehind k a after c)
  part_store-keeps o home u offset value t at assignment shaped =
      let s = shaped.0 in
      let part = subst (λ table. IsPart table u offset t) (sym solved.table) s.0.1 in
      let complete = whole-complete u offset t part (scalar-complete (shape_at k.table t) refl s.1.0.1) in
      goes-storing k a types after c facts
      (instr-asked (instr.Access (access.Store (target.Part o home u offset) value t at assignment)) k types after solved.tells facts.asked shaped)
      (stored a.setting at assignment home t (Address (forward offset (pointer_to a o u))) (c.temps value) c.state) s.2
      (part-stored o home u offset t value at assignment s.0.0 complete part s.1.0.1 s.1.2)
    where
      scalar-complete : (sh : TypeShape) → shape_at k.table t ≡ sh → IsSome (held_shape sh) → IsComplete a.setting.table t
      scalar-complete (shape.Integer bytes signed) e some =
          ap (λ x. is_complete_entry x (members_at a.setting.table t)) (shape-in k a solved t (shape.Integer bytes signed) e)
      scalar-complete (shape.Pointer m x) e some = ap (λ y. is_complete_entry y (members_at a.setting.table t)) (shape-in k a solved t (shape.Pointer m x) e)
      scalar-complete shape.Void e some = absurd (cc (some))
      scalar-complete (shape.Array element count) e some = absurd (cc (some))
      scalar-complete (shape.Function parameters result) e some = absurd (cc (some))
      scalar-complete (shape.Struct tag) e some = absurd (cc (some))
      scalar-complete (shape.Union tag) e some = absurd (cc (some))

  -- Whole objects

  -- an object that code names is there, and has not ended
  there-alive : (o : Object) (x : Planned) → plan_of k o ≡ Some x
      → (y : memory.Object) × (slice_get c.state.memory.objects (number_of a o) ≡ Some y) × (y.live ≡ true)
  there-alive o x e =
      let h = (facts.objects o x.node x.type (x.type, e, inl refl)).1 in
      let same : h.location.object ≡ number_of a o = (let i = h.is in cc (i)) in
      let l = mapped-from life c.state.memory.objects h.location.object h.reaches.life h.reaches.found in
      (l.0, subst (λ n. slice_get c.state.memory.objects n ≡ Some l.0) same l.1, ap (λ (z : Life). z.live) l.2 ∙ h.reaches.live)

  pub clear-keeps : (o : Object) → IsShaped (instr.Access (access.Clear o)) k types after
      → GoesOn (act (instr.Access (access.Clear o)) a c) (AreFactsBehind k a after c)
  clear-keeps o shaped = by (plan_of k o) refl shaped.0.0
    where
      by : (x : Option Planned) → plan_of k o ≡ x → IsSome x → GoesOn (act (instr.Access (access.Clear o)) a c) (AreFactsBehind k a after c)
      by None e some = absurd (cc (some))
      by (Some x) e some =
          let y = there-alive o x e in
          goes-storing k a types after c facts (instr-asked (instr.Access (access.Clear o)) k types after solved.tells facts.asked shaped)
          (clear (number_of a o) c.state) shaped.0.1
          (gives-cleared a.setting k.sites (number_of a o) y.0 c.state facts.memory.objects y.1 y.2)
