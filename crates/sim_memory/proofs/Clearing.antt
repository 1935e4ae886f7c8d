-- An object without tags is cleared.
use Rattle.std.proofs.Common.{◌≡◌, ◌≢◌, ◌∙◌, ⊎_elim, inl, inr, ℕ, ◌+◌, ◌≤◌, Bool, true, List, length, slice_get, Option, Some, refl, ap, arith}
use Rattle.cc_base.specs.declared.kind.Kind.TheVariants.{Wild}
use Rattle.cc_base.specs.declared.number.TypeId.{TypeId}
use Rattle.c_types.specs.Widths.{before, width_of}
use Rattle.runs.specs.Outcome.{allowed, leaves}
use Rattle.flat_mem.specs.Bytes.{zeroed}
use Rattle.flat_mem.specs.Placement.{contents_size}
use Rattle.flat_mem.proofs.ByteLaws.{length-zeroed, zeroed-bytes, get-zeroed_inside, get-zeroed_other}
use Rattle.src_mem.specs.Memory.{Object, cleared}
use Rattle.src_mem.specs.State as source
use Rattle.src_mem.specs.State.{Setting, Wrong}
use Rattle.src_mem.specs.Primitives.{with_object, clear, clear_at}
use Rattle.src_mem.specs.Outlines.{outline}
use Rattle.src_mem.proofs.Outlines.{get-mapped}
use Rattle.cured_code.specs.declared.instr.Instr.TheVariants as instr
use Rattle.cured_code.specs.FlatState as flat
use Rattle.cured_code.specs.FlatState.{slot, accessed, Trap, goes}
use Rattle.cured_code.specs.FlatMachine.{Context, act}
use Rattle.sim_relation.specs.Ground.{Ground, address}
use Rattle.sim_relation.specs.Accesses.{IsImage}
use Rattle.sim_relation.specs.Objects.{HoldsTyped, area_of}
use Rattle.sim_relation.specs.Related.{Related, ground_of}
use Rattle.sim_relation.proofs.Changes.{related-change}
use Rattle.sim_relation.proofs.Kept.{typed-holds, untagged-holds, typed-contents}
use Rattle.sim_relation.proofs.Places.{image-typed, in_list}
use Rattle.sim_memory.specs.Found.{GoOnAlike}
use Rattle.sim_memory.proofs.Staying.{stays-change}
use Rattle.sim_memory.proofs.Zeros.{zeros-hold}

pub objects-cleared : (w : Setting) (number_of : TypeId → ℕ) (k : ℕ) (o : Object) (s : source.State) (x : Context) (a n : ℕ) (c : flat.Local)
    → slice_get s.memory.objects k ≡ Some o → o.live ≡ true → w.kind o.node ≢ Wild → length o.cells ≡ o.size → Related w number_of s c.state
    → slot c a ≡ address (ground_of w number_of s c.state) k → n ≡ width_of w.kind o.cells
    → GoOnAlike w number_of s c (clear k s) (act (instr.Zero a n) x c) tt c.slots
objects-cleared w number_of k o s x a n c found live plain celled r here wide = record {
  next = with_object k (cleared o) (source.touched k 0 o.size s);
  after = accessed (slot c a) n (zeroed n bytes (slot c a)) c;
  source_goes = ap (λ (y : Option Object). clear_at k y s) found
      ∙ ap (λ (b : Bool). allowed b Wrong (leaves (λ z. with_object k (cleared o) (source.touched k 0 o.size z))) s) live;
  flat_goes = ap (λ (b : Bool). allowed b (Trap x.function) (goes (λ d. accessed (slot d a) n (zeroed n d.state.memory.bytes (slot d a)) d)) c)
      (in_list (slot c a) n (length c.state.memory.bytes) (let h = inside in let z = most in omega (arith, h, z, here, wide)));
  slots_are = refl;
  stays = stays-change w number_of s (with_object k (cleared o) (source.touched k 0 o.size s)) c.state (accessed (slot c a) n (zeroed n bytes (slot c a)) c).state
      k o (cleared o) found live refl refl refl refl refl refl (λ j l. get-zeroed_other n bytes (slot c a) j (inl (omega (arith, here, l))));
  related = related-change w number_of s c.state k o (cleared o) (zeroed n bytes (slot c a)) (record { object = k; offset = 0; size = o.size })
      (record { at = slot c a; size = n }) r found live refl (length-zeroed n bytes (slot c a)) (zeroed-bytes n bytes (slot c a) r.sound.bytes)
      (λ j z. get-zeroed_other n bytes (slot c a) j (⊎_elim (λ m. inl (omega (arith, here, m))) (λ m. inr (let u = most in omega (arith, here, m, u, wide))) z))
      (untagged-holds (w.kind o.node) plain g (zeroed n bytes (slot c a)) (address g k) (cleared o) held) image;
}
  where
    g : Ground
    g = ground_of w number_of s c.state

    bytes : List ℕ
    bytes = c.state.memory.bytes

    old : HoldsTyped (ground_of w number_of s c.state) c.state.memory.bytes (address (ground_of w number_of s c.state) k) o
    old = typed-holds (w.kind o.node) plain _ _ _ _ (r.holds.each k o found live)

    most : before w.kind o.cells (length o.cells) ≤ contents_size (area_of w.kind (outline o))
    most = typed-contents w.kind (w.kind o.node) plain (outline o) (length o.cells)

    inside : address (ground_of w number_of s c.state) k + contents_size (area_of w.kind (outline o)) ≤ length c.state.memory.bytes
    inside = (r.areas.lie k o found live).inside

    held : HoldsTyped g (zeroed n bytes (slot c a)) (address g k) (cleared o)
    held = zeros-hold g (zeroed n bytes (slot c a)) (address g k) (cleared o) old.ordered (length-zeroed o.size o.bytes 0 ∙ old.sized)
        (λ i l. get-zeroed_inside n bytes (slot c a) (address g k + i) (omega (arith, here)) (omega (arith, here, l, wide)))
        (λ i l. get-zeroed_inside o.size o.bytes 0 i (omega arith) (omega (arith, l, celled))) (λ i. refl)

    image : IsImage g (record { object = k; offset = 0; size = o.size }) (record { at = slot c a; size = n })
    image = record {
      object = outline o;
      found = get-mapped outline s.memory.objects k o found;
      is = image-typed (w.kind o.node) plain g (outline o) (record { object = k; offset = 0; size = o.size }) (record { at = slot c a; size = n })
          (let z : address g k ≡ address g k + before w.kind o.cells 0 = omega arith in here ∙ z)
          (ap (λ m. slot c a + m) wide ∙ ap (λ m. m + before w.kind o.cells (length o.cells)) here
          ∙ ap (λ m. address g k + before w.kind o.cells m) (let z : length o.cells ≡ 0 + o.size = omega (arith, celled) in z));
    }
