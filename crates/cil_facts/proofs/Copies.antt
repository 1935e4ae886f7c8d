-- Copies of structs and unions keep the facts.
use Rattle.std.proofs.Common.{◌≡◌, ◌≢◌, ◌⊎◌, ℕ, inl, inr, refl, sym, subst, ⊎_elim}
use Rattle.std.specs.List.{Contains}
use Rattle.cc_base.specs.declared.place.Place.{Place}
use Rattle.cc_base.specs.declared.kind.Kind.{Kind}
use Rattle.cc_base.specs.declared.kind.Kind.TheVariants.{Safe, Seq, Rtti, Wild}
use Rattle.cc_base.specs.declared.number.NodeId.{NodeId}
use Rattle.cc_base.specs.declared.number.TypeId.{TypeId}
use Rattle.kind_sites.specs.declared.site.Site.TheVariants as site
use Rattle.c_types.specs.Table.{IsComplete}
use Rattle.src_mem.specs.Pointers.{Pointer, Address}
use Rattle.src_mem.specs.Uses.{forward, copy_all}
use Rattle.src_mem.specs.Values.{copied}
use Rattle.src_mem.specs.Facts.{IsHeldIn, IsPlaceIn}
use Rattle.src_mem.specs.Laws.{Gives}
use Rattle.src_mem.proofs.Right.{safe≢wild, seq≢wild, rtti≢wild}
use Rattle.facts_kept.specs.Kept.{IsKept}
use Rattle.facts_kept.proofs.Copying.{gives-copied, gives-copied_to, gives-copied_tagged, gives-copied_tagged_to}
use Rattle.cil_form.specs.declared.number.Temp.{Temp}
use Rattle.cil_form.specs.declared.number.Object.{Object}
use Rattle.cil_form.specs.declared.instr.Target.TheVariants as target
use Rattle.cil_form.specs.declared.instr.Access.TheVariants as access
use Rattle.cil_form.specs.declared.instr.Instr.TheVariants as instr
use Rattle.cil_form.specs.State.{Local, Around}
use Rattle.cil_form.specs.Typing.{Typing, Context, IsPart, IsShaped}
use Rattle.cil_form.specs.Meaning.{pointer_to, act}
use Rattle.cil_form.proofs.AskedLaws.{instr-asked}
use Rattle.cil_facts.specs.Held.{IsSolvedFor, AreFacts, AreFactsBehind, GoesOn}
use Rattle.cil_facts.proofs.Written.{goes-storing}
use Rattle.cil_facts.proofs.Accesses.{address-held}
use Rattle.cil_facts.proofs.PartStores.{whole-complete, part-placed}

is-wild : (kind : Kind) → (kind ≡ Wild) ⊎ (kind ≢ Wild)
is-wild Safe = inr safe≢wild
is-wild Seq = inr seq≢wild
is-wild Rtti = inr rtti≢wild
is-wild Wild = inl refl

module _ (k : Context) (a : Around) (solved : IsSolvedFor k a.setting) (types after : Typing) (c : Local) (facts : AreFacts k a types c) where
  -- both sides are WILD, or neither is
  either-way : (node to : NodeId) (P : Kind → Kind → Type 0) → Contains k.sites (site.Linked to node)
      → (a.setting.kind node ≢ Wild → a.setting.kind to ≢ Wild → P (a.setting.kind node) (a.setting.kind to))
      → (a.setting.kind node ≡ Wild → a.setting.kind to ≡ Wild → P Wild Wild)
      → P (a.setting.kind node) (a.setting.kind to)
  either-way node to P known plain tagged =
      let linked = solved.solution.each (site.Linked to node) known in
      ⊎_elim (λ e. subst (λ x. P x (a.setting.kind to)) (sym e) (subst (λ x. P Wild x) (sym (linked.1 e)) (tagged e (linked.1 e))))
      (λ e. plain e (λ f. e (linked.0 f))) (is-wild (a.setting.kind node))

  copy-held : (t : TypeId) (source_place : Place) (node : NodeId) (p : Pointer) (target_place : Place) (to : NodeId) (q : Pointer) (assignment : Place)
      → IsComplete a.setting.table t → Contains k.sites (site.Linked to node)
      → IsHeldIn a.setting c.state.memory a.depth (a.setting.kind node) t p → IsHeldIn a.setting c.state.memory a.depth (a.setting.kind to) t q
      → Gives (copied a.setting t source_place node (Address p) target_place to (Address q) assignment c.state)
      (λ x r. IsKept a.setting k.sites c.state.memory r.memory)
  copy-held t source_place node p target_place to q assignment complete known h g =
      either-way node to
      (λ x y. Gives (copy_all a.setting t source_place x p target_place y q assignment c.state) (λ x r. IsKept a.setting k.sites c.state.memory r.memory))
      known
      (λ e f. gives-copied a.setting solved.well_formed k.sites a.depth t complete (a.setting.kind node) (a.setting.kind to) e f p q source_place
      target_place assignment c.state facts.memory.objects facts.memory.outlines h g)
      (λ e f. gives-copied_tagged a.setting solved.well_formed k.sites a.depth t complete p q source_place target_place assignment c.state
      facts.memory.objects (subst (λ x. IsHeldIn a.setting c.state.memory a.depth x t p) e h)
      (subst (λ x. IsHeldIn a.setting c.state.memory a.depth x t q) f g))

  copy-placed : (t : TypeId) (source_place : Place) (node : NodeId) (p : Pointer) (target_place : Place) (to : NodeId) (q : Pointer) (assignment : Place)
      → IsComplete a.setting.table t → Contains k.sites (site.Linked to node)
      → IsHeldIn a.setting c.state.memory a.depth (a.setting.kind node) t p → IsPlaceIn a.setting c.state.memory a.depth (a.setting.kind to) t q
      → Gives (copied a.setting t source_place node (Address p) target_place to (Address q) assignment c.state)
      (λ x r. IsKept a.setting k.sites c.state.memory r.memory)
  copy-placed t source_place node p target_place to q assignment complete known h g =
      either-way node to
      (λ x y. Gives (copy_all a.setting t source_place x p target_place y q assignment c.state) (λ x r. IsKept a.setting k.sites c.state.memory r.memory))
      known
      (λ e f. gives-copied_to a.setting solved.well_formed k.sites a.depth t complete (a.setting.kind node) (a.setting.kind to) e f p q source_place
      target_place assignment c.state facts.memory.objects facts.memory.outlines h g)
      (λ e f. gives-copied_tagged_to a.setting solved.well_formed k.sites a.depth t complete p q source_place target_place assignment c.state
      facts.memory.objects (subst (λ x. IsHeldIn a.setting c.state.memory a.depth x t p) e h)
      (subst (λ x. IsPlaceIn a.setting c.state.memory a.depth x t q) f g))

  pub copy-keeps : (to source : Temp) (node to_node : NodeId) (to_place source_place : Place) (t : TypeId) (assignment : Place)
      → IsShaped (instr.Access (access.Copy (target.Pointer to to_node) to_place source node source_place t assignment)) k types after
      → GoesOn (act (instr.Access (access.Copy (target.Pointer to to_node) to_place source node source_place t assignment)) a c) (AreFactsBehind k a after c)
  copy-keeps to source node to_node to_place source_place t assignment shaped =
      let s = shaped.0 in
      let p = address-held k a solved types after c facts source node t s.4 in
      let q = address-held k a solved types after c facts to to_node t s.3.1 in
      goes-storing k a types after c facts
      (instr-asked (instr.Access (access.Copy (target.Pointer to to_node) to_place source node source_place t assignment)) k types after solved.tells
      facts.asked shaped)
      (copied a.setting t source_place node (c.temps source) to_place to_node (c.temps to) assignment c.state) s.5
      (subst
      (λ y. Gives (copied a.setting t source_place node y to_place to_node (c.temps to) assignment c.state)
      (λ x r. IsKept a.setting k.sites c.state.memory r.memory))
      (sym p.1)
      (subst
      (λ y. Gives (copied a.setting t source_place node (Address p.0) to_place to_node y assignment c.state)
      (λ x r. IsKept a.setting k.sites c.state.memory r.memory))
      (sym q.1)
      (copy-held t source_place node p.0 to_place to_node q.0 assignment
      (subst (λ table. IsComplete table t) (sym solved.table) s.1.1) shaped.1.0 (p.2).held (q.2).held)))

  -- to a part of an object, as an initialiser makes it
  pub part_copy-keeps : (o : Object) (home : NodeId) (u : TypeId) (offset : ℕ) (source : Temp) (node : NodeId) (to_place source_place : Place) (t : TypeId)
      (assignment : Place)
      → IsShaped (instr.Access (access.Copy (target.Part o home u offset) to_place source node source_place t assignment)) k types after
      → GoesOn (act (instr.Access (access.Copy (target.Part o home u offset) to_place source node source_place t assignment)) a c)
      (AreFactsBehind k a after c)
  part_copy-keeps o home u offset source node to_place source_place t assignment shaped =
      let s = shaped.0 in
      let p = address-held k a solved types after c facts source node t s.4 in
      let q = forward offset (pointer_to a o u) in
      let part = subst (λ table. IsPart table u offset t) (sym solved.table) s.3.1 in
      let complete = subst (λ table. IsComplete table t) (sym solved.table) s.1.1 in
      goes-storing k a types after c facts
      (instr-asked (instr.Access (access.Copy (target.Part o home u offset) to_place source node source_place t assignment)) k types after solved.tells
      facts.asked shaped)
      (copied a.setting t source_place node (c.temps source) to_place home (Address q) assignment c.state) s.5
      (subst
      (λ y. Gives (copied a.setting t source_place node y to_place home (Address q) assignment c.state)
      (λ x r. IsKept a.setting k.sites c.state.memory r.memory))
      (sym p.1)
      (copy-placed t source_place node p.0 to_place home q assignment complete shaped.1.0 (p.2).held
      (part-placed k a solved types after c facts o home u offset t s.3.0 part (whole-complete k a solved types after c facts u offset t part complete))))
