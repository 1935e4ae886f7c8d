-- What a function returns is a value of its result's type, which outlives the call.
use Rattle.std.proofs.Common.{◌≡◌, ◌∙◌, pos, Some, refl, ap, sym, subst}
use Rattle.std.specs.Prelude.{IsSome}
use Rattle.cc_base.specs.declared.place.Place.{Place}
use Rattle.cc_base.specs.declared.number.TypeId.{TypeId}
use Rattle.c_types.specs.declared.shape.TypeShape.{TypeShape}
use Rattle.c_types.specs.declared.shape.TypeShape.TheVariants as shape
use Rattle.c_types.specs.Table.{shape_at}
use Rattle.runs.specs.Outcome.{Outcome, Ended, Done, done, from}
use Rattle.runs.specs.Control.{Gives}
use Rattle.src_mem.specs.Pointers.{Value, Integer, Address}
use Rattle.src_mem.specs.State.{Ending, Exited, Stopped, Turns, Wants, Wrong, State}
use Rattle.src_mem.specs.Outlines.{outlines_of, lives_of}
use Rattle.src_mem.specs.Checks.{Return, conditions_of}
use Rattle.src_mem.specs.Operations.{kind_in}
use Rattle.src_mem.specs.Values.{returned}
use Rattle.src_mem.specs.Facts.{IsSoundAt}
use Rattle.src_mem.specs.Laws as laws
use Rattle.facts_kept.proofs.Giving.{gives-checked}
use Rattle.facts_kept.proofs.Later.{later-same}
use Rattle.cil_form.specs.declared.number.Temp.{Temp}
use Rattle.cil_form.specs.declared.instr.Instr.TheVariants as instr
use Rattle.cil_form.specs.State.{Temporaries, Local, Around, beside}
use Rattle.cil_form.specs.Typing.{HeldType, IntegerOf, PointerTo, Typing, Context, held_shape, HoldsOf, IsShaped}
use Rattle.cil_form.specs.Told.{IsAsked}
use Rattle.cil_form.specs.Meaning.{act}
use Rattle.cil_facts.specs.Held.{IsHeldAs, IsSolvedFor, AreFacts}
use Rattle.cil_facts.specs.Calling.{IsReturned, IsLeftWith, IsLeftWell, ComesTo}
use Rattle.cil_facts.proofs.Conversions.{shape-in}

module _ (k : Context) (a : Around) (solved : IsSolvedFor k a.setting) (types after : Typing) (c : Local) (facts : AreFacts k a types c) where
  abbrev IsGiven : TypeId → Value → State → Type 0
  IsGiven t v r = (r.memory ≡ c.state.memory) × IsReturned a.setting k.sites c.state.memory a.depth (shape_at a.setting.table t) v

  returned-given : (at : Place) (t : TypeId) (v : Temp) → HoldsOf k types v t
      → laws.Gives (returned a.setting a.depth at t (c.temps v) c.state) (IsGiven t)
  returned-given at t v h = by (shape_at k.table t) refl (c.temps v) (λ x e. facts.held v x (h.2 ∙ e)) (λ x e. facts.asked v x (h.2 ∙ e)) h.0.1
    where
      by : (s : TypeShape) → shape_at k.table t ≡ s → (y : Value)
          → ((x : HeldType) → held_shape s ≡ Some x → IsHeldAs a.setting k.sites c.state.memory a.depth x y)
          → ((x : HeldType) → held_shape s ≡ Some x → IsAsked k.sites x) → IsSome (held_shape s)
          → laws.Gives (returned a.setting a.depth at t y c.state) (IsGiven t)
      by (shape.Integer b g) e (Integer z) held asked some = (
        refl,
        subst (λ s. IsReturned a.setting k.sites c.state.memory a.depth s (Integer z)) (sym (shape-in k a solved t (shape.Integer b g) e))
            (held (IntegerOf (record { bytes = b; signed = g })) refl),
      )
      by (shape.Integer b g) e (Address p) held asked some = absurd (held (IntegerOf (record { bytes = b; signed = g })) refl)
      by (shape.Pointer n u) e (Integer z) held asked some = absurd (held (PointerTo n u) refl)
      by (shape.Pointer n u) e (Address p) held asked some =
          let h = held (PointerTo n u) refl in
          gives-checked a.setting (λ x. at) (conditions_of (Return a.depth) (kind_in a.setting t) p) (done (Address p)) c.state (IsGiven t)
          (λ outlives. (
            refl,
            subst (λ s. IsReturned a.setting k.sites c.state.memory a.depth s (Address p)) (sym (shape-in k a solved t (shape.Pointer n u) e))
                (h.held, h.made (asked (PointerTo n u) refl), outlives.0),
          ))
      by shape.Void e y held asked some = absurd (cc (some))
      by (shape.Array element count) e y held asked some = absurd (cc (some))
      by (shape.Function ps r) e y held asked some = absurd (cc (some))
      by (shape.Struct tag) e y held asked some = absurd (cc (some))
      by (shape.Union tag) e y held asked some = absurd (cc (some))

  -- the function is left
  left-with : (t : TypeId) → k.result ≡ Some t → (v : Value) (r : State) (temps : Temporaries) → IsGiven t v r
      → IsLeftWith k a v c (record { state = r; temps = temps })
  left-with t is v r temps g = record {
    type = t;
    result = is;
    value = subst (λ m. IsReturned a.setting k.sites m a.depth (shape_at a.setting.table t) v) (sym g.0) g.1;
    memory = subst (λ m. IsSoundAt a.setting k.sites m a.depth) (sym g.0) facts.memory;
    later = later-same a.depth c.state.memory.objects r.memory.objects (ap outlines_of g.0) (ap lives_of g.0);
  }

  comes-given : (t : TypeId) → k.result ≡ Some t → (m : Outcome Ending State Value) → laws.Gives m (IsGiven t)
      → ComesTo (beside c.temps (from m (λ u. done (Gives u)))) (IsLeftWell k a after c)
  comes-given t is (Ended Wrong r) g = g
  comes-given t is (Ended (Exited n) r) g = tt
  comes-given t is (Ended (Stopped check at) r) g = tt
  comes-given t is (Ended Turns r) g = tt
  comes-given t is (Ended Wants r) g = tt
  comes-given t is (Done v r) g = left-with t is v r c.temps g

  pub value-returns : (v : Temp) (t : TypeId) (at : Place) → IsShaped (instr.ReturnValue v t at) k types after
      → ComesTo (act (instr.ReturnValue v t at) a c) (IsLeftWell k a after c)
  value-returns v t at s = comes-given t s.0 (returned a.setting a.depth at t (c.temps v) c.state) (returned-given at t v s.1)

  pub nothing-returns : IsShaped instr.Return k types after → ComesTo (act instr.Return a c) (IsLeftWell k a after c)
  nothing-returns s =
      left-with s.0.0 s.0.1 (Integer (pos 0)) c.state c.temps
      (refl, subst (λ x. IsReturned a.setting k.sites c.state.memory a.depth x (Integer (pos 0))) (sym (shape-in k a solved s.0.0 shape.Void s.0.2)) tt)
