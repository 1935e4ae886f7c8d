-- Allocations keep the facts.
use Rattle.std.proofs.Common.{◌≡◌, ◌⊎◌, ◌*◌, ◌^◌, ℕ, Bool, true, false, List, [], ◌∷◌, ◌++◌, Some, nat_lt, refl, ap, sym, subst}
use Rattle.std.specs.List.{Contains}
use Rattle.cc_base.specs.declared.place.Place.{Place}
use Rattle.cc_base.specs.declared.number.NodeId.{NodeId}
use Rattle.cc_base.specs.declared.number.TypeId.{TypeId}
use Rattle.c_types.specs.declared.shape.TypeShape.TheVariants as shape
use Rattle.kind_sites.specs.declared.site.Site.TheVariants as site
use Rattle.c_types.specs.Table.{HasShape, IsComplete, shape_at}
use Rattle.integers.specs.Arithmetic.{unsigned_long}
use Rattle.integers.specs.Words.{word}
use Rattle.runs.specs.Outcome.{Outcome, done, either, from, ◌>>=◌, ◌>>◌}
use Rattle.src_mem.specs.Pointers.{Pointer, Null, Value, Integer, Address}
use Rattle.src_mem.specs.State.{Ending, State, as_pointer}
use Rattle.src_mem.specs.Checks.{conditions_of_allocation}
use Rattle.src_mem.specs.Primitives.{allocate, allocate_elements}
use Rattle.src_mem.specs.Operations.{allocated_for, size}
use Rattle.src_mem.specs.Runtime.{malloc, calloc}
use Rattle.src_mem.specs.Values.{allocated}
use Rattle.src_mem.specs.Laws.{Gives}
use Rattle.facts_kept.specs.Kept.{GivesBlock, MakesBlocks}
use Rattle.facts_kept.proofs.Allocating.{gives-block}
use Rattle.facts_kept.proofs.Giving.{gives-from, gives-checked}
use Rattle.facts_kept.proofs.Later.{later-grown}
use Rattle.facts_kept.specs.Kept.{IsLater}
use Rattle.cil_form.specs.declared.instr.Allocate.{Allocate}
use Rattle.cil_form.specs.declared.instr.Allocate.TheVariants as allocate
use Rattle.cil_form.specs.declared.instr.Instr.TheVariants as instr
use Rattle.cil_form.specs.State.{Local, Around}
use Rattle.cil_form.specs.Typing.{IntegerOf, PointerTo, Typing, Context, IsBlockType, IsShaped}
use Rattle.cil_form.specs.Meaning.{act}
use Rattle.cil_form.proofs.AskedLaws.{instr-asked}
use Rattle.cil_facts.specs.Held.{IsHeldAs, IsSolvedFor, AreFacts, AreFactsBehind, GoesOn}
use Rattle.cil_facts.proofs.Later.{GivesLater, goes-later}

append-none : {A : Type 0} (xs : List A) → xs ≡ xs ++ []
append-none [] = refl
append-none (x ∷ xs) = ap (λ l. x ∷ l) (append-none xs)

module _ (k : Context) (a : Around) (solved : IsSolvedFor k a.setting) (types after : Typing) (c : Local) (facts : AreFacts k a types c) where
  makes : (node : NodeId) (t : TypeId) → IsBlockType k node t → MakesBlocks a.setting node t
  makes node t h =
      subst (λ table. (shape_at table t ≡ shape.Void) ⊎ (IsComplete table t × ((p : TypeId) × HasShape table p (shape.Pointer node t)))) (sym solved.table) h.1

  module _ (at : Place) (node : NodeId) (t : TypeId) (told : Contains k.sites (site.Pointee node t)) where
    -- a block, or none, is tried and given
    tried : (m : Outcome Ending State Pointer) → Gives m (GivesBlock a.setting k.sites a.depth node t c.state)
        → Gives (from (from m (λ p. done (Address p))) (λ v. as_pointer v >>= (λ p. allocated_for a.setting at node t p >> done v)))
        (GivesLater k a c (Some (PointerTo node t)))
    tried m h =
        gives-from (λ v r. (p : Pointer) × (v ≡ Address p) × GivesBlock a.setting k.sites a.depth node t c.state p r)
        (GivesLater k a c (Some (PointerTo node t))) (from m (λ p. done (Address p)))
        (λ v. as_pointer v >>= (λ p. allocated_for a.setting at node t p >> done v))
        (gives-from (GivesBlock a.setting k.sites a.depth node t c.state)
        (λ v r. (p : Pointer) × (v ≡ Address p) × GivesBlock a.setting k.sites a.depth node t c.state p r) m (λ p. done (Address p)) h
        (λ p r g. (p, refl, g)))
        (λ v r g. subst
        (λ x. Gives ((as_pointer x >>= (λ p. allocated_for a.setting at node t p >> done x)) r) (GivesLater k a c (Some (PointerTo node t)))) (sym g.1)
        (block g.0 r g.2))
      where
        block : (p : Pointer) (r : State) → GivesBlock a.setting k.sites a.depth node t c.state p r
            → Gives ((allocated_for a.setting at node t p >> done (Address p)) r) (GivesLater k a c (Some (PointerTo node t)))
        block p r g =
            gives-checked a.setting (λ x. at) (conditions_of_allocation (a.setting.kind node) (size a.setting t) p) (done (Address p)) r
            (GivesLater k a c (Some (PointerTo node t)))
            (λ holds. record {
              sound = g.sound;
              later = subst (IsLater a.depth c.state.memory.objects) (sym g.grown) (later-grown a.depth c.state.memory.objects g.more);
              held = λ x e. let it : PointerTo node t ≡ x = cc (e) in
                  subst (λ y. IsHeldAs a.setting k.sites r.memory a.depth y (Address p)) it (record { held = g.held holds; made = g.made });
            })

    none : GivesBlock a.setting k.sites a.depth node t c.state Null c.state
    none = record {
      more = [];
      grown = append-none c.state.memory.objects;
      sound = facts.memory;
      held = λ h. record { value = tt; reaches = tt };
      made = λ h. tt;
    }

    malloc-given : MakesBlocks a.setting node t → (v : Value) → IsHeldAs a.setting k.sites c.state.memory a.depth (IntegerOf unsigned_long) v
        → Gives (allocated a.setting at node t (malloc a.setting node t (v ∷ [])) c.state) (GivesLater k a c (Some (PointerTo node t)))
    malloc-given m (Address p) h = absurd h
    malloc-given m (Integer z) h =
        tried (allocate a.setting node t (word z) c.state)
        (gives-block a.setting solved.well_formed k.sites node t (word z) m c.state a.depth facts.memory)

    elements-given : MakesBlocks a.setting node t → (x y : ℕ) → Gives (allocate_elements a.setting node t x y c.state) (GivesBlock a.setting k.sites a.depth node t c.state)
    elements-given m x y = by (nat_lt (x * y) (2 ^ 64))
      where
        by : (b : Bool) → Gives (either b (allocate a.setting node t (x * y)) (done Null) c.state) (GivesBlock a.setting k.sites a.depth node t c.state)
        by true = gives-block a.setting solved.well_formed k.sites node t (x * y) m c.state a.depth facts.memory
        by false = none

    calloc-given : MakesBlocks a.setting node t → (v u : Value) → IsHeldAs a.setting k.sites c.state.memory a.depth (IntegerOf unsigned_long) v
        → IsHeldAs a.setting k.sites c.state.memory a.depth (IntegerOf unsigned_long) u
        → Gives (allocated a.setting at node t (calloc a.setting node t (v ∷ u ∷ [])) c.state) (GivesLater k a c (Some (PointerTo node t)))
    calloc-given m (Address p) u h g = absurd h
    calloc-given m (Integer z) (Address p) h g = absurd g
    calloc-given m (Integer z) (Integer y) h g =
        tried (allocate_elements a.setting node t (word z) (word y) c.state) (elements-given m (word z) (word y))

  pub allocate-keeps : (i : Allocate) → IsShaped (instr.Allocate i) k types after → GoesOn (act (instr.Allocate i) a c) (AreFactsBehind k a after c)
  allocate-keeps (allocate.Malloc into n node t at) shaped =
      let s = shaped.0 in
      goes-later k a types after c facts
      (instr-asked (instr.Allocate (allocate.Malloc into n node t at)) k types after solved.tells facts.asked shaped) into (Some (PointerTo node t))
      (allocated a.setting at node t (malloc a.setting node t (c.temps n ∷ [])) c.state) s.3
      (malloc-given at node t shaped.1.0 (makes node t s.1) (c.temps n) (facts.held n (IntegerOf unsigned_long) s.2.1))
  allocate-keeps (allocate.Calloc into m n node t at) shaped =
      let s = shaped.0 in
      goes-later k a types after c facts
      (instr-asked (instr.Allocate (allocate.Calloc into m n node t at)) k types after solved.tells facts.asked shaped) into (Some (PointerTo node t))
      (allocated a.setting at node t (calloc a.setting node t (c.temps m ∷ c.temps n ∷ [])) c.state) s.4
      (calloc-given at node t shaped.1.0 (makes node t s.1) (c.temps m) (c.temps n) (facts.held m (IntegerOf unsigned_long) s.2.1)
      (facts.held n (IntegerOf unsigned_long) s.3.1))
