-- A conversion that the sites tell of isn't wrong, and gives a pointer that may be held.
use Rattle.std.proofs.Common.{List, Bool, true, false, ℕ, refl, if◌then◌else◌}
use Rattle.cc_base.specs.declared.place.Place.{Place}
use Rattle.cc_base.specs.declared.number.TypeId.{TypeId}
use Rattle.kind_sites.specs.declared.site.Site.{Site}
use Rattle.c_types.specs.Flows.{flow_class}
use Rattle.c_types.specs.Sound.{IsWellFormed}
use Rattle.src_mem.specs.Pointers.{Pointer, Null, Number, At, Function}
use Rattle.src_mem.specs.State.{State, Setting}
use Rattle.src_mem.specs.Checks.{conditions_of_conversion}
use Rattle.src_mem.specs.Primitives.{convert, is_made_anew, made_at}
use Rattle.src_mem.specs.Operations.{kind_in, node_in, pointee, pointee_size, converted_pointer}
use Rattle.src_mem.specs.Outlines.{Life, outlines_of, lives_of}
use Rattle.src_mem.specs.Facts.{IsMade, Reaches, IsHeldIn}
use Rattle.src_mem.specs.Laws.{Gives}
use Rattle.facts_kept.specs.Kept.{IsFlow, GivesPointer}
use Rattle.facts_kept.proofs.Convert.{conversion-right, conversion-made}
use Rattle.facts_kept.proofs.Giving.{gives-checked}

reaches-made : (lives : List Life) (depth : ℕ) (u : TypeId) (b : Bool) (p : Pointer) → Reaches lives depth p
    → Reaches lives depth (if b then made_at u p else p)
reaches-made lives depth u false p r = r
reaches-made lives depth u true Null r = tt
reaches-made lives depth u true (Number n) r = tt
reaches-made lives depth u true (At l) r = record { life = r.life; found = r.found; live = r.live; older = r.older }
reaches-made lives depth u true (Function n) r = tt

pub gives-converted : (w : Setting) (sites : List Site) (at : Place) (depth : ℕ) (t u : TypeId) (p : Pointer) (s : State) → IsWellFormed w.table
    → IsFlow w sites (node_in w t) (pointee w t) (node_in w u) (pointee w u) → IsHeldIn w s.memory depth (kind_in w t) (pointee w t) p
    → IsMade sites p
    → Gives (converted_pointer w at t u p s) (GivesPointer w sites depth (kind_in w u) (pointee w u) s)
gives-converted w sites at depth t u p s sound f h made =
    gives-checked w (λ c. at)
    (conditions_of_conversion (record {
      class = flow_class w.table (pointee w t) (pointee w u);
      from = kind_in w t;
      to = kind_in w u;
      from_size = pointee_size w t;
      to_size = pointee_size w u;
      to_type = pointee w u;
    }) p)
    (convert (flow_class w.table (pointee w t) (pointee w u)) (kind_in w t) (kind_in w u) (pointee w u) p) s
    (GivesPointer w sites depth (kind_in w u) (pointee w u) s)
    (λ c. record {
      memory = refl;
      held = record {
        value =
            conversion-right w sound (outlines_of s.memory) sites (node_in w t) (pointee w t) (node_in w u) (pointee w u) f s.memory p made h.value c;
        reaches =
            reaches-made (lives_of s.memory) depth (pointee w u)
            (is_made_anew (flow_class w.table (pointee w t) (pointee w u)) (kind_in w t) (kind_in w u)) p h.reaches;
      };
      made = conversion-made w sound (outlines_of s.memory) sites (node_in w t) (pointee w t) (node_in w u) (pointee w u) f s.memory p made;
    })
