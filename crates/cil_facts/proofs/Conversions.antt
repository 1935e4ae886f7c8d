-- Conversions keep the facts.
use Rattle.std.proofs.Common.{◌≡◌, ◌⊎◌, ◌∙◌, ◌^◌, ◌*◌, ℤ, pos, Bool, true, false, Some, refl, ap, sym, subst, if◌then◌else◌}
use Rattle.std.proofs.lemmas.Nat.{pow_pos}
use Rattle.std.specs.List.{Contains}
use Rattle.cc_base.specs.declared.place.Place.{Place}
use Rattle.cc_base.specs.declared.kind.Kind.TheVariants.{Seq, Wild}
use Rattle.cc_base.specs.declared.number.NodeId.{NodeId}
use Rattle.cc_base.specs.declared.number.TypeId.{TypeId}
use Rattle.c_types.specs.declared.shape.TypeShape.{TypeShape}
use Rattle.c_types.specs.declared.shape.TypeShape.TheVariants as shape
use Rattle.kind_sites.specs.declared.site.Site.TheVariants as site
use Rattle.c_types.specs.Table.{shape_at}
use Rattle.integers.specs.Arithmetic.{IntegerType, converted}
use Rattle.integers.specs.Words.{residue, as_signed, signed_of}
use Rattle.integers.proofs.WordLaws.{residue-below, residue-twice}
use Rattle.integers.proofs.SignedLaws.{converted-again}
use Rattle.runs.specs.Outcome.{Outcome, done, leaves, from, ◌>>=◌, ◌>>◌}
use Rattle.runs.specs.Control.{Goes}
use Rattle.src_mem.specs.Pointers.{Value, Integer, Address}
use Rattle.src_mem.specs.State.{Ending, State, Act, as_integer}
use Rattle.src_mem.specs.Operations.{node_of_shape, pointee_of_shape, integer_of_shape, node_at, pointee_at, node_in, pointee, kind_in, converted_pointer}
use Rattle.src_mem.specs.Primitives.{pointer_from}
use Rattle.src_mem.specs.Values.{converted_integer, pointer_from_integer, pointer_value}
use Rattle.src_mem.specs.Facts.{IsHeldIn}
use Rattle.src_mem.specs.Laws.{Gives}
use Rattle.facts_kept.specs.Kept.{IsFlow, GivesPointer}
use Rattle.facts_kept.proofs.Conversions.{gives-converted}
use Rattle.facts_kept.proofs.Sources.{gives-number}
use Rattle.facts_kept.proofs.Giving.{gives-from}
use Rattle.cil_form.specs.declared.number.Temp.{Temp}
use Rattle.cil_form.specs.declared.instr.Convert.TheVariants as convert
use Rattle.cil_form.specs.declared.instr.Instr.TheVariants as instr
use Rattle.cil_form.specs.State.{Local, Around, with_temp, beside}
use Rattle.cil_form.specs.declared.instr.Instr.{Instr}
use Rattle.cil_form.specs.Typing.{HeldType, IntegerOf, PointerTo, Typing, Context, Leaves, IsShaped}
use Rattle.cil_form.specs.Meaning.{act}
use Rattle.cil_form.proofs.AskedLaws.{instr-asked}
use Rattle.cil_facts.specs.Held.{IsHeldAs, IsSolvedFor, AreFacts, AreFactsBehind, GoesOn}
use Rattle.cil_facts.proofs.Written.{goes-giving}

-- what was converted to a type fits it
pub converted-fits : (t : IntegerType) (z : ℤ) → converted t (converted t z) ≡ converted t z
converted-fits t z =
    ap (converted t) reduced ∙ converted-again t (residue z (2 ^ (8 * t.bytes))) (residue-below z (2 ^ (8 * t.bytes)) (pow_pos (8 * t.bytes))) ∙ sym reduced
  where
    same : residue (pos (residue z (2 ^ (8 * t.bytes)))) (2 ^ (8 * t.bytes)) ≡ residue z (2 ^ (8 * t.bytes))
    same = residue-twice z (2 ^ (8 * t.bytes)) (pow_pos (8 * t.bytes))

    by : (q : Bool) → (if q then as_signed (8 * t.bytes) z else pos (residue z (2 ^ (8 * t.bytes))))
        ≡ (if q then as_signed (8 * t.bytes) (pos (residue z (2 ^ (8 * t.bytes)))) else pos (residue (pos (residue z (2 ^ (8 * t.bytes)))) (2 ^ (8 * t.bytes))))
    by true = ap (signed_of (8 * t.bytes)) (sym same)
    by false = ap pos (sym same)

    reduced : converted t z ≡ converted t (pos (residue z (2 ^ (8 * t.bytes))))
    reduced = by t.signed

module _ (k : Context) (a : Around) (solved : IsSolvedFor k a.setting) where
  -- a type's shape is the same in the setting
  pub shape-in : (t : TypeId) (s : TypeShape) → shape_at k.table t ≡ s → shape_at a.setting.table t ≡ s
  shape-in t s e = ap (λ table. shape_at table t) solved.table ∙ e

  module _ (types after : Typing) (c : Local) (facts : AreFacts k a types c) where
    -- the value is held as this, and the memory is as it was
    abbrev pub Given : HeldType → Value → State → Type 0
    Given x v r = (r.memory ≡ c.state.memory) × IsHeldAs a.setting k.sites c.state.memory a.depth x v

    -- the rest of an instruction that gives such a value
    pub goes-held : (i : Instr) (into : Temp) (x : HeldType) (m : Outcome Ending State Value) → IsShaped i k types after → Leaves types into (Some x) after
        → Gives m (Given x)
        → GoesOn (from (beside c.temps m) (λ v. leaves (λ (d : Local). record d { temps = with_temp into v d.temps }) >> done Goes)) (AreFactsBehind k a after c)
    goes-held i into x m shaped l g = goes-giving k a types after c facts (instr-asked i k types after solved.tells facts.asked shaped) into x m l g

    -- Integers

    abbrev integer_of : IntegerType → Value → Act Value
    integer_of i v = as_integer v >>= (λ z. done (Integer (converted i z)))

    integer-converted : (i j : IntegerType) (v : Value) → IsHeldAs a.setting k.sites c.state.memory a.depth (IntegerOf j) v
        → Gives (integer_of i v c.state) (Given (IntegerOf i))
    integer-converted i j (Integer z) h = (refl, converted-fits i z)
    integer-converted i j (Address p) h = absurd h

    pub integer-keeps : (into source : Temp) (t : TypeId) → IsShaped (instr.Convert (convert.Integer into source t)) k types after
        → GoesOn (act (instr.Convert (convert.Integer into source t)) a c) (AreFactsBehind k a after c)
    integer-keeps into source t shaped =
        let s = shaped.0 in
        goes-held (instr.Convert (convert.Integer into source t)) into (IntegerOf s.0) (converted_integer a.setting t (c.temps source) c.state) shaped s.3
        (subst (λ sh. Gives (integer_of (integer_of_shape sh) (c.temps source) c.state) (Given (IntegerOf s.0)))
        (sym (shape-in t (shape.Integer (s.0).bytes (s.0).signed) s.1.1))
        (integer-converted s.0 s.2.0 (c.temps source) (facts.held source (IntegerOf s.2.0) s.2.1.1)))

    -- From integers to pointers

    pointer-made : (node : NodeId) (u : TypeId) (j : IntegerType) (v : Value) → (a.setting.kind node ≡ Seq) ⊎ (a.setting.kind node ≡ Wild)
        → IsHeldAs a.setting k.sites c.state.memory a.depth (IntegerOf j) v → Gives (pointer_from_integer v c.state) (Given (PointerTo node u))
    pointer-made node u j (Address p) which h = absurd h
    pointer-made node u j (Integer z) which h =
        gives-from (GivesPointer a.setting k.sites a.depth (a.setting.kind node) u c.state) (Given (PointerTo node u)) (pointer_from z c.state)
        (λ p. done (Address p)) (gives-number a.setting k.sites a.depth (a.setting.kind node) u z c.state which)
        (λ p r g. (g.memory, record { held = g.held; made = λ x. g.made }))

    pub to_pointer-keeps : (into source : Temp) (t : TypeId) (at : Place) → IsShaped (instr.Convert (convert.ToPointer into source t at)) k types after
        → GoesOn (act (instr.Convert (convert.ToPointer into source t at)) a c) (AreFactsBehind k a after c)
    to_pointer-keeps into source t at shaped =
        let s = shaped.0 in
        goes-held (instr.Convert (convert.ToPointer into source t at)) into (PointerTo s.0 s.1) (pointer_from_integer (c.temps source) c.state) shaped s.4
        (pointer-made s.0 s.1 s.3.0 (c.temps source)
        (subst (λ sh. (a.setting.kind (node_of_shape sh) ≡ Seq) ⊎ (a.setting.kind (node_of_shape sh) ≡ Wild)) s.2.1
        (solved.solution.each (site.Integer (node_at k.table t) at) shaped.1.0)) (facts.held source (IntegerOf s.3.0) s.3.1.1))

    -- Between pointers

    flow-of : (t u : TypeId) (at : Place) → Contains k.sites (site.Flow (node_at k.table t) (pointee_at k.table t) (node_at k.table u) (pointee_at k.table u) at)
        → IsFlow a.setting k.sites (node_in a.setting t) (pointee a.setting t) (node_in a.setting u) (pointee a.setting u)
    flow-of t u at known =
        let w = a.setting in
        let it =
        subst (λ table. Contains k.sites (site.Flow (node_at table t) (pointee_at table t) (node_at table u) (pointee_at table u) at))
        (sym solved.table) known in
        let ends = solved.told.flows (node_in w t) (node_in w u) (pointee w t) (pointee w u) at it in
        record {
          flow = solved.solution.each (site.Flow (node_in w t) (pointee w t) (node_in w u) (pointee w u) at) it;
          source = solved.solution.each (site.Pointee (node_in w t) (pointee w t)) ends.0;
          target = solved.solution.each (site.Pointee (node_in w u) (pointee w u)) ends.1;
          told = ends.1;
        }

    pointer-converted : (t u : TypeId) (at : Place) (m n : NodeId) (x y : TypeId) (v : Value) → shape_at a.setting.table t ≡ shape.Pointer m x
        → shape_at a.setting.table u ≡ shape.Pointer n y → Contains k.sites (site.Pointee m x)
        → IsFlow a.setting k.sites (node_in a.setting t) (pointee a.setting t) (node_in a.setting u) (pointee a.setting u)
        → IsHeldAs a.setting k.sites c.state.memory a.depth (PointerTo m x) v → Gives (pointer_value a.setting at t u v c.state) (Given (PointerTo n y))
    pointer-converted t u at m n x y (Integer z) e f told flow h = absurd h
    pointer-converted t u at m n x y (Address p) e f told flow h =
        gives-from (GivesPointer a.setting k.sites a.depth (kind_in a.setting u) (pointee a.setting u) c.state) (Given (PointerTo n y))
        (converted_pointer a.setting at t u p c.state) (λ q. done (Address q))
        (gives-converted a.setting k.sites at a.depth t u p c.state solved.well_formed flow
        (subst (λ sh. IsHeldIn a.setting c.state.memory a.depth (a.setting.kind (node_of_shape sh)) (pointee_of_shape sh) p) (sym e) h.held) (h.made told))
        (λ q r g. (
          g.memory,
          record {
            held = subst (λ sh. IsHeldIn a.setting c.state.memory a.depth (a.setting.kind (node_of_shape sh)) (pointee_of_shape sh) q) f g.held;
            made = λ z. g.made;
          },
        ))

    pub pointer-keeps : (into source : Temp) (t u : TypeId) (at : Place) → IsShaped (instr.Convert (convert.Pointer into source t u at)) k types after
        → GoesOn (act (instr.Convert (convert.Pointer into source t u at)) a c) (AreFactsBehind k a after c)
    pointer-keeps into source t u at shaped =
        let s = shaped.0 in
        goes-held (instr.Convert (convert.Pointer into source t u at)) into (PointerTo s.1 s.3) (pointer_value a.setting at t u (c.temps source) c.state) shaped s.7
        (pointer-converted t u at s.0 s.1 s.2 s.3 (c.temps source) (shape-in t (shape.Pointer s.0 s.2) s.4.1) (shape-in u (shape.Pointer s.1 s.3) s.5.1)
        (facts.asked source (PointerTo s.0 s.2) s.6.1) (flow-of t u at shaped.1.0) (facts.held source (PointerTo s.0 s.2) s.6.1))
