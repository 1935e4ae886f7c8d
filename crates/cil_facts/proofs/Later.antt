-- What an instruction leaves that adds objects, or that calls: what was held is held, and places are places.
use Rattle.std.proofs.Common.{◌≡◌, ℕ, Bool, true, false, List, ◌++◌, map, Option, Some, refl, sym, subst, ◌∙◌, if◌then◌else◌}
use Rattle.std.proofs.lemmas.Option.{slice_get_within}
use Rattle.cc_base.specs.declared.kind.Kind.{Kind}
use Rattle.cc_base.specs.declared.kind.Kind.TheVariants.{Safe, Seq, Rtti, Wild}
use Rattle.cc_base.specs.declared.number.TypeId.{TypeId}
use Rattle.c_types.proofs.OrderedPointers.{get_front}
use Rattle.runs.specs.Outcome.{Outcome, Ended, Done, done, leaves, from, ◌>>◌}
use Rattle.runs.specs.Control.{Goes}
use Rattle.src_mem.specs.Pointers.{Location, Value, Integer, Address}
use Rattle.src_mem.specs.Memory.{Memory}
use Rattle.src_mem.specs.State.{Ending, Exited, Stopped, Turns, Wants, Wrong, State, Setting}
use Rattle.src_mem.specs.Outlines.{Outline, outline}
use Rattle.src_mem.specs.Facts.{IsTypedPlace, IsPlaceAt, IsSoundAt}
use Rattle.src_mem.specs.Laws.{Gives}
use Rattle.facts_kept.specs.Kept.{IsLater}
use Rattle.facts_kept.proofs.Later.{held-later}
use Rattle.cil_form.specs.declared.number.Temp.{Temp}
use Rattle.cil_form.specs.State.{Local, Around, is_same, with_temp, beside}
use Rattle.cil_form.specs.Typing.{HeldType, IntegerOf, PointerTo, PlaceOf, Typing, Context, with_held, Includes, Leaves}
use Rattle.cil_form.specs.Told.{AreAsked}
use Rattle.cil_form.specs.Meaning.{pointer_to}
use Rattle.kind_sites.specs.declared.site.Site.{Site}
use Rattle.cil_facts.specs.Held.{IsHeldAs, AreFacts, AreFactsBehind, GoesOn}

-- Places

module _ (w : Setting) (xs ys : List Outline) where
  typed-grown : (t : TypeId) (l : Location) → IsTypedPlace w xs t l → IsTypedPlace w (xs ++ ys) t l
  typed-grown t l p = record {
    object = p.object;
    at = p.at;
    located = record {
      found = get_front xs ys l.object (slice_get_within xs l.object p.object p.located.found) ∙ p.located.found;
      ordered = p.located.ordered;
      inside = p.located.inside;
    };
    typed = p.typed;
    stands = p.stands;
    holds = p.holds;
  }

  place-grown : (k : Kind) (t : TypeId) (l : Location) → IsPlaceAt w xs k t l → IsPlaceAt w (xs ++ ys) k t l
  place-grown Safe t l p = typed-grown t l p
  place-grown Seq t l p = typed-grown t l p
  place-grown Rtti t l p = typed-grown t l p
  place-grown Wild t l p = record {
    object = p.object;
    found = get_front xs ys l.object (slice_get_within xs l.object p.object p.found) ∙ p.found;
    tagged = p.tagged;
    low = p.low;
    high = p.high;
    least = p.least;
    most = p.most;
  }

module _ (w : Setting) (sites : List Site) (depth : ℕ) (old new : Memory) (later : IsLater depth old.objects new.objects) where
  pub later-as : (x : HeldType) (v : Value) → IsHeldAs w sites old depth x v → IsHeldAs w sites new depth x v
  later-as (IntegerOf i) (Integer z) h = h
  later-as (IntegerOf i) (Address p) h = absurd h
  later-as (PointerTo n t) (Integer z) h = absurd h
  later-as (PointerTo n t) (Address p) h = record { held = held-later w depth old.objects new.objects (w.kind n) t p later h.held; made = h.made }
  later-as (PlaceOf n t) (Integer z) h = absurd h
  later-as (PlaceOf n t) (Address p) h = (
    record { held = held-later w depth old.objects new.objects (w.kind n) t p later h.0.held; made = h.0.made },
    let place = h.1 in record {
      location = place.location;
      is = place.is;
      place = subst (λ xs. IsPlaceAt w xs (w.kind n) t place.location) (sym later.outlines)
          (place-grown w (map outline old.objects) later.more (w.kind n) t place.location place.place);
      reaches = let r = place.reaches in record {
        life = r.life;
        found = later.lives place.location.object r.life r.found r.older;
        live = r.live;
        older = r.older;
      };
    },
  )

-- A temporary is written, and the objects are later ones.

-- what an instruction gives that leaves later objects, in a memory that is sound
pub record GivesLater (k : Context) (a : Around) (c : Local) (o : Option HeldType) (v : Value) (r : State) : Type 0 where
  pub sound : IsSoundAt a.setting k.sites r.memory a.depth
  pub later : IsLater a.depth c.state.memory.objects r.memory.objects
  pub held : (x : HeldType) → o ≡ Some x → IsHeldAs a.setting k.sites r.memory a.depth x v

module _ (k : Context) (a : Around) (types after : Typing) (c : Local) (facts : AreFacts k a types c) (asked : AreAsked k.sites after) where
  pub written-later : (into : Temp) (o : Option HeldType) (v : Value) (r : State) → Includes (with_held into o types) after → GivesLater k a c o v r
      → AreFactsBehind k a after c (record { state = r; temps = with_temp into v c.temps })
  written-later into o v r more g = record {
    facts = record {
      memory = g.sound;
      asked = asked;
      held = λ t y e. one t y (is_same t into) (more t y e);
      objects = λ x home t h. later-as a.setting k.sites a.depth c.state.memory r.memory g.later (PlaceOf home t) (Address (pointer_to a x t))
          (facts.objects x home t h);
    };
    later = g.later;
  }
    where
      one : (t : Temp) (y : HeldType) (b : Bool) → (if b then o else types t) ≡ Some y
          → IsHeldAs a.setting k.sites r.memory a.depth y (if b then v else c.temps t)
      one t y true f = g.held y f
      one t y false f = later-as a.setting k.sites a.depth c.state.memory r.memory g.later y (c.temps t) (facts.held t y f)

  pub goes-later : (into : Temp) (o : Option HeldType) (m : Outcome Ending State Value) → Leaves types into o after → Gives m (GivesLater k a c o)
      → GoesOn (from (beside c.temps m) (λ v. leaves (λ (d : Local). record d { temps = with_temp into v d.temps }) >> done Goes))
      (AreFactsBehind k a after c)
  goes-later into o (Ended Wrong r) l g = g
  goes-later into o (Ended (Exited n) r) l g = tt
  goes-later into o (Ended (Stopped check at) r) l g = tt
  goes-later into o (Ended Turns r) l g = tt
  goes-later into o (Ended Wants r) l g = tt
  goes-later into o (Done v r) l g = (refl, written-later into o v r l.1 g)
