-- What an instruction leaves: one that gives a value and leaves the memory as it was, and one that stores.
use Rattle.std.proofs.Common.{◌≡◌, Bool, true, false, Option, Some, refl, ap, sym, subst, if◌then◌else◌}
use Rattle.runs.specs.Outcome.{Outcome, Ended, Done, done, leaves, from, ◌>>◌}
use Rattle.runs.specs.Control.{Goes}
use Rattle.src_mem.specs.Pointers.{Value, Integer, Address}
use Rattle.src_mem.specs.Memory.{Memory}
use Rattle.src_mem.specs.State.{Ending, Exited, Stopped, Turns, Wants, Wrong, State}
use Rattle.src_mem.specs.Outlines.{outlines_of, lives_of}
use Rattle.src_mem.specs.Facts.{IsPlace, IsSoundAt}
use Rattle.src_mem.specs.Laws.{Gives}
use Rattle.facts_kept.specs.Kept.{IsKept}
use Rattle.facts_kept.proofs.Later.{later-same}
use Rattle.facts_kept.proofs.Moments.{kept-sound, kept-held}
use Rattle.cil_form.specs.declared.number.Temp.{Temp}
use Rattle.cil_form.specs.State.{Local, Around, is_same, with_temp, beside}
use Rattle.cil_form.specs.Typing.{HeldType, IntegerOf, PointerTo, PlaceOf, Typing, Context, with_held, Includes, Leaves}
use Rattle.cil_form.specs.Told.{AreAsked}
use Rattle.cil_form.specs.Meaning.{pointer_to}
use Rattle.cil_facts.specs.Held.{IsHeldAs, AreFacts, AreFactsBehind, GoesOn}

module _ (k : Context) (a : Around) (types after : Typing) (c : Local) (facts : AreFacts k a types c) (asked : AreAsked k.sites after) where
  -- a temporary is written, and the memory is as it was
  pub written : (into : Temp) (o : Option HeldType) (v : Value) (r : State) → Includes (with_held into o types) after → r.memory ≡ c.state.memory
      → ((x : HeldType) → o ≡ Some x → IsHeldAs a.setting k.sites c.state.memory a.depth x v)
      → AreFacts k a after (record { state = r; temps = with_temp into v c.temps })
  written into o v r more same is = record {
    memory = subst (λ m. IsSoundAt a.setting k.sites m a.depth) (sym same) facts.memory;
    asked = asked;
    held = λ t y e. subst (λ m. IsHeldAs a.setting k.sites m a.depth y (with_temp into v c.temps t)) (sym same)
        (one t y (is_same t into) (more t y e));
    objects = λ o home t h. subst (λ m. IsHeldAs a.setting k.sites m a.depth (PlaceOf home t) (Address (pointer_to a o t))) (sym same)
        (facts.objects o home t h);
  }
    where
      one : (t : Temp) (y : HeldType) (b : Bool) → (if b then o else types t) ≡ Some y
          → IsHeldAs a.setting k.sites c.state.memory a.depth y (if b then v else c.temps t)
      one t y true f = is y f
      one t y false f = facts.held t y f

  -- where the memory is as it was
  pub same-behind : (d : Local) → AreFacts k a after d → d.state.memory ≡ c.state.memory → AreFactsBehind k a after c d
  same-behind d f e = record {
    facts = f;
    later = later-same a.depth c.state.memory.objects d.state.memory.objects (ap outlines_of e) (ap lives_of e);
  }

  -- an instruction that gives a value and leaves the memory as it was
  pub goes-giving : (into : Temp) (x : HeldType) (m : Outcome Ending State Value) → Leaves types into (Some x) after
      → Gives m (λ v r. (r.memory ≡ c.state.memory) × IsHeldAs a.setting k.sites c.state.memory a.depth x v)
      → GoesOn (from (beside c.temps m) (λ v. leaves (λ (d : Local). record d { temps = with_temp into v d.temps }) >> done Goes)) (AreFactsBehind k a after c)
  goes-giving into x (Ended Wrong r) l g = g
  goes-giving into x (Ended (Exited n) r) l g = tt
  goes-giving into x (Ended (Stopped check at) r) l g = tt
  goes-giving into x (Ended Turns r) l g = tt
  goes-giving into x (Ended Wants r) l g = tt
  goes-giving into x (Done v r) l g = (
    refl,
    same-behind (record { state = r; temps = with_temp into v c.temps })
        (written into (Some x) v r l.1 g.0
        (λ y e. let it : x ≡ y = cc (e) in subst (λ z. IsHeldAs a.setting k.sites c.state.memory a.depth z v) it g.1)) g.0,
  )

  -- what is held stays so where outlines and lives do
  kept-as : (new : Memory) → IsKept a.setting k.sites c.state.memory new → (x : HeldType) (v : Value)
      → IsHeldAs a.setting k.sites c.state.memory a.depth x v → IsHeldAs a.setting k.sites new a.depth x v
  kept-as new kept (IntegerOf i) (Integer z) h = h
  kept-as new kept (IntegerOf i) (Address p) h = absurd h
  kept-as new kept (PointerTo n t) (Integer z) h = absurd h
  kept-as new kept (PointerTo n t) (Address p) h = record {
    held = kept-held a.setting k.sites a.depth (a.setting.kind n) t p c.state.memory new kept h.held;
    made = h.made;
  }
  kept-as new kept (PlaceOf n t) (Integer z) h = absurd h
  kept-as new kept (PlaceOf n t) (Address p) h = (
    record {
      held = kept-held a.setting k.sites a.depth (a.setting.kind n) t p c.state.memory new kept h.0.held;
      made = h.0.made;
    },
    subst (λ xs. IsPlace a.setting xs (lives_of new) a.depth (a.setting.kind n) t p) (sym kept.outlines)
        (subst (λ ls. IsPlace a.setting (outlines_of c.state.memory) ls a.depth (a.setting.kind n) t p) (sym kept.lives) h.1),
  )

  -- an instruction that changes what objects contain, and no temporary
  pub goes-storing : (m : Outcome Ending State (Unit {0})) → Includes types after
      → Gives m (λ x r. IsKept a.setting k.sites c.state.memory r.memory)
      → GoesOn (from (beside c.temps m) (λ x. done Goes)) (AreFactsBehind k a after c)
  goes-storing (Ended Wrong r) l g = g
  goes-storing (Ended (Exited n) r) l g = tt
  goes-storing (Ended (Stopped check at) r) l g = tt
  goes-storing (Ended Turns r) l g = tt
  goes-storing (Ended Wants r) l g = tt
  goes-storing (Done x r) l g = (
    refl,
    record {
      facts = record {
        memory = kept-sound a.setting k.sites a.depth c.state.memory r.memory facts.memory g;
        asked = asked;
        held = λ t y e. kept-as r.memory g y (c.temps t) (facts.held t y (l t y e));
        objects = λ o home t h. kept-as r.memory g (PlaceOf home t) (Address (pointer_to a o t)) (facts.objects o home t h);
      };
      later = later-same a.depth c.state.memory.objects r.memory.objects g.outlines g.lives;
    },
  )
