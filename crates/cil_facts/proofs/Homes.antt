-- An object is a place of each type that it is named with: its own, and those that were declared of its name besides.
use Rattle.std.proofs.Common.{◌≡◌, ◌⊎◌, ◌∙◌, inl, inr, ℕ, ◌<◌, pos, List, [], ◌∷◌, length, Some, slice_get, refl, ap, sym, subst, arith}
use Rattle.cc_base.specs.declared.kind.Kind.{Kind}
use Rattle.cc_base.specs.declared.kind.Kind.TheVariants.{Safe, Wild}
use Rattle.cc_base.specs.declared.number.TypeId.{TypeId}
use Rattle.kind_sites.specs.declared.site.Site.{Site}
use Rattle.c_types.specs.Table.{IsComplete}
use Rattle.c_types.specs.Layouts.{size_of}
use Rattle.c_types.specs.Cells.{Cell, raw, pointer, mixed, incomplete}
use Rattle.c_types.specs.Equality.{cells_of}
use Rattle.c_types.specs.Flows.{IsOfOneClass, CellsAgree}
use Rattle.kind_sites.specs.Solutions.{IsPlain}
use Rattle.c_types.specs.Sound.{IsWellFormed}
use Rattle.type_laws.proofs.Pointers.{covers_own}
use Rattle.type_laws.proofs.Sizes.{equal_counts, equal_sizes}
use Rattle.src_mem.specs.Pointers.{Location, At, Address}
use Rattle.src_mem.specs.Memory.{Memory, Planned, new_variable}
use Rattle.src_mem.specs.State.{Setting}
use Rattle.src_mem.specs.Uses.{home}
use Rattle.src_mem.specs.Outlines.{LivesAt, outline, outlines_of, lives_of}
use Rattle.src_mem.specs.Facts.{IsSafeAt, IsWildAt, IsPlaceIn, IsHeldIn}
use Rattle.facts_kept.proofs.Agree.{class-cells}
use Rattle.facts_kept.proofs.Complete.{complete-some, complete-data, complete-cell, cells-whole}
use Rattle.facts_kept.proofs.Holds.{class-data}
use Rattle.facts_kept.proofs.Homes.{home-value}
use Rattle.facts_kept.proofs.Places.{value-class}
use Rattle.type_laws.proofs.Pointers.{class_turned}
use Rattle.cil_form.specs.Typing.{PlaceOf}
use Rattle.cil_facts.specs.Held.{IsHeldAs}

module _ (w : Setting) (sound : IsWellFormed w.table) where
  first-cell : (cells : List Cell) → 0 < length cells → (d : Cell) × (slice_get cells 0 ≡ Some d)
  first-cell [] h = absurd (omega (arith, h))
  first-cell (c ∷ cs) h = (c, refl)

  same-hole : (c : Cell) (v : TypeId) → CellsAgree w.table w.kind c (incomplete v) → c ≡ incomplete v
  same-hole raw v h = absurd h
  same-hole (pointer n t i) v h = absurd h
  same-hole (mixed u i) v h = absurd h
  same-hole (incomplete t) v h = ap incomplete h

  -- what is of one class with a complete type is complete
  pub complete-along : (t u : TypeId) → IsOfOneClass w.table w.kind t u → IsComplete w.table t → IsComplete w.table u
  complete-along t u class complete =
      let ft = complete-data w.table sound t complete in
      let fu = class-data w sound u t ft (class_turned w.table w.kind t u class) in
      let long = (complete-some w.table sound t complete).0 in
      let d = first-cell (cells_of w.table u) (let e = equal_counts w.table sound t u class.equal in omega (arith, e, long)) in
      complete-cell w.table sound u fu d.0 d.1
      (λ v e. let c = class-cells w sound t u ft fu class 0 d.0 d.1 in
      cells-whole w.table sound t complete 0 v
      (c.1 ∙ ap Some (same-hole c.0 v (subst (λ x. CellsAgree w.table w.kind c.0 x) e c.2))))

  abbrev whole : ℕ → ℕ → TypeId → Location
  whole number size t = record { object = number; part = record { low = 0; high = size }; offset = pos 0; made = t }

  module _ (memory : Memory) (sites : List Site) (number depth deeper : ℕ) (v : Planned) (complete : IsComplete w.table v.type) (plain : IsPlain w.kind v.node)
      (found : slice_get (outlines_of memory) number ≡ Some (outline (new_variable w.table deeper v))) (lives : LivesAt (lives_of memory) depth number)
      (t : TypeId) (class : IsOfOneClass w.table w.kind v.type t) where
    sizes : size_of w.table v.type ≡ size_of w.table t
    sizes = equal_sizes w.table sound v.type t complete (complete-along v.type t class complete) class.equal

    safe-named : w.kind v.node ≡ Safe → IsSafeAt w (outlines_of memory) t (whole number (size_of w.table t) t)
    safe-named e =
        let own = home-value w sound (outlines_of memory) number deeper v Safe e (inl refl) complete found in
        let s = value-class w sound (outlines_of memory) Safe v.type t (At (whole number (size_of w.table v.type) v.type)) class own in
        remade (subst (λ n. IsSafeAt w (outlines_of memory) t (whole number n v.type)) sizes s)
      where
        remade : IsSafeAt w (outlines_of memory) t (whole number (size_of w.table t) v.type) → IsSafeAt w (outlines_of memory) t (whole number (size_of w.table t) t)
        remade s = record {
          object = s.object;
          at = s.at;
          located = record { found = s.located.found; ordered = s.located.ordered; inside = s.located.inside };
          typed = record { untagged = s.typed.untagged; low = s.typed.low; high = s.typed.high };
          stands = record { offset = s.stands.offset; low = s.stands.low; high = s.stands.high; whole = s.stands.whole };
          data_type = s.data_type;
          holds = s.holds;
          covers = covers_own w.table w.kind t s.data_type;
        }

    wild-named : w.kind v.node ≡ Wild → IsWildAt w (outlines_of memory) (whole number (size_of w.table t) t)
    wild-named e =
        let s = home-value w sound (outlines_of memory) number deeper v Wild e (inr refl) complete found in
        remade (subst (λ n. IsWildAt w (outlines_of memory) (whole number n v.type)) sizes s)
      where
        remade : IsWildAt w (outlines_of memory) (whole number (size_of w.table t) v.type) → IsWildAt w (outlines_of memory) (whole number (size_of w.table t) t)
        remade s = record { object = s.object; found = s.found; tagged = s.tagged; low = s.low; high = s.high; least = s.least; most = s.most }

    by-kind : (k : Kind) → w.kind v.node ≡ k → (k ≡ Safe) ⊎ (k ≡ Wild)
        → IsHeldIn w memory depth k t (home w.table number t) × IsPlaceIn w memory depth k t (home w.table number t)
    by-kind k e (inl f) =
        subst (λ y. IsHeldIn w memory depth y t (home w.table number t) × IsPlaceIn w memory depth y t (home w.table number t)) (sym f)
        (let s = safe-named (e ∙ f) in (
          record { value = s; reaches = lives },
          record {
            location = whole number (size_of w.table t) t;
            is = refl;
            place = record { object = s.object; at = s.at; located = s.located; typed = s.typed; stands = s.stands; holds = s.holds };
            reaches = lives;
          },
        ))
    by-kind k e (inr f) =
        subst (λ y. IsHeldIn w memory depth y t (home w.table number t) × IsPlaceIn w memory depth y t (home w.table number t)) (sym f)
        (let s = wild-named (e ∙ f) in (
          record { value = s; reaches = lives },
          record { location = whole number (size_of w.table t) t; is = refl; place = s; reaches = lives },
        ))

    pub home-named : IsHeldAs w sites memory depth (PlaceOf v.node t) (Address (home w.table number t))
    home-named =
        let h = by-kind (w.kind v.node) refl plain in
        (record { held = h.0; made = λ told. (v.node, told) }, h.1)
