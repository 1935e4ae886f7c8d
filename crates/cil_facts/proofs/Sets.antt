-- Constants, the addresses of objects and functions, and copies of temporaries keep the facts.
use Rattle.std.proofs.Common.{◌≡◌, ℕ, Bool, true, false, Some, refl, sym, subst, slice_get}
use Rattle.cc_base.specs.declared.number.NodeId.{NodeId}
use Rattle.cc_base.specs.declared.number.TypeId.{TypeId}
use Rattle.kind_sites.specs.declared.site.Site.TheVariants as site
use Rattle.c_types.specs.Table.{is_function}
use Rattle.c_types.specs.Equality.{physically_equal}
use Rattle.type_laws.proofs.Pointers.{class_turned}
use Rattle.runs.specs.Outcome.{Done}
use Rattle.src_mem.specs.Pointers.{Null, Function, Integer, Address}
use Rattle.src_mem.specs.Outlines.{outlines_of}
use Rattle.src_mem.specs.Facts.{IsValueOf}
use Rattle.facts_kept.proofs.Flow.{equal-data}
use Rattle.facts_kept.proofs.Places.{value-class}
use Rattle.facts_kept.proofs.Sources.{function-value}
use Rattle.cil_form.specs.declared.instr.Set.{Set}
use Rattle.cil_form.specs.declared.instr.Set.TheVariants as set
use Rattle.cil_form.specs.declared.instr.Instr.TheVariants as instr
use Rattle.cil_form.specs.State.{Local, Around, with_temp}
use Rattle.cil_form.specs.Typing.{IntegerOf, PointerTo, PlaceOf, Typing, Context, AreDeclaredAlike, IsPointer, IsShaped}
use Rattle.cil_form.specs.Meaning.{pointer_to, act}
use Rattle.cil_form.specs.Told.{AreAsked}
use Rattle.cil_form.proofs.AskedLaws.{instr-asked}
use Rattle.cil_facts.specs.Held.{IsSolvedFor, AreFacts, AreFactsBehind, GoesOn}
use Rattle.cil_facts.proofs.Written.{written, same-behind}
use Rattle.cil_facts.proofs.Conversions.{goes-held}
use Rattle.cil_facts.proofs.Accesses.{alike-class}

module _ (k : Context) (a : Around) (solved : IsSolvedFor k a.setting) (types after : Typing) (c : Local) (facts : AreFacts k a types c) where
  -- the name of a function is a pointer to each type that was declared of its name
  function-held : (f : ℕ) (t : TypeId) (node : NodeId) (u v : TypeId) → IsPointer k t node u → slice_get k.functions f ≡ Some v → AreDeclaredAlike k.sites u v
      → IsValueOf a.setting (outlines_of c.state.memory) (a.setting.kind node) u (Function f)
  function-held f t node u v pointer found alike =
      let d = solved.functions f v found in
      let class = alike-class k a solved u v alike in
      let own = solved.solution.each (site.Pointee node u) (solved.tells.pointers t node u pointer.1) in
      value-class a.setting solved.well_formed (outlines_of c.state.memory) (a.setting.kind node) v u (Function f)
      (class_turned a.setting.table a.setting.kind u v class)
      (subst (λ y. IsValueOf a.setting (outlines_of c.state.memory) (a.setting.kind node) y (Function f)) d.2
      (function-value a.setting (outlines_of c.state.memory) (a.setting.kind node) f d.0 d.1
      (subst (λ y. is_function a.setting.table y ≡ true) (sym d.2) d.3)
      (own.function (both (is_function a.setting.table u) refl class.equal d.3))))
    where
      both : (b : Bool) → is_function a.setting.table u ≡ b → physically_equal a.setting.table u v ≡ true
          → is_function a.setting.table v ≡ true → is_function a.setting.table u ≡ true
      both true e p h = e
      both false e p h = absurd (cc (h, equal-data a.setting.table solved.well_formed u v e p))

  pub set-keeps : (i : Set) → IsShaped (instr.Set i) k types after → GoesOn (act (instr.Set i) a c) (AreFactsBehind k a after c)
  set-keeps (set.Integer into z t) s =
      goes-held k a solved types after c facts (instr.Set (set.Integer into z t)) into (IntegerOf s.0) (Done (Integer z) c.state) s s.3 (refl, s.2)
  set-keeps (set.Null into t) s =
      goes-held k a solved types after c facts (instr.Set (set.Null into t)) into (PointerTo s.0 s.1) (Done (Address Null) c.state) s s.3
      (refl, record { held = record { value = tt; reaches = tt }; made = λ z. tt })
  set-keeps (set.Function into f t) s =
      goes-held k a solved types after c facts (instr.Set (set.Function into f t)) into (PointerTo s.0 s.1) (Done (Address (Function f.0)) c.state) s s.7
      (refl, record { held = record { value = function-held f.0 t s.0 s.1 s.2 s.3 s.4 s.6; reaches = tt }; made = λ z. tt })
  set-keeps (set.Object into o home t) s =
      goes-held k a solved types after c facts (instr.Set (set.Object into o home t)) into (PlaceOf home t) (Done (Address (pointer_to a o t)) c.state) s
      s.1 (refl, facts.objects o home t s.0)
  set-keeps (set.Copy into source) s = (
    refl,
    same-behind k a types after c facts asked (record { state = c.state; temps = with_temp into (c.temps source) c.temps })
        (written k a types after c facts asked into (types source) (c.temps source) c.state s.1.1 refl (λ x e. facts.held source x e)) refl,
  )
    where
      asked : AreAsked k.sites after
      asked = instr-asked (instr.Set (set.Copy into source)) k types after solved.tells facts.asked s
