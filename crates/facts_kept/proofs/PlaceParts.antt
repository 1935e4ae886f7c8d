-- The address of a part may be held, and is a place: what it points to is its part.
use Rattle.std.proofs.Common.{◌≡◌, ℕ, ◌+◌, ℤ, pos, negsuc, ◌+ℤ◌, ◌<◌, ◌↔◌, true, List, length, Option, None, Some, slice_get, refl, arith}
use Rattle.std.proofs.lemmas.Int.{ints}
use Rattle.cc_base.specs.declared.place.Place.{Place}
use Rattle.cc_base.specs.declared.kind.Kind.{Kind}
use Rattle.cc_base.specs.declared.kind.Kind.TheVariants.{Safe, Seq, Rtti, Wild}
use Rattle.cc_base.specs.declared.number.TypeId.{TypeId}
use Rattle.kind_sites.specs.declared.site.Site.{Site}
use Rattle.std.specs.List.{Contains}
use Rattle.cc_base.specs.declared.number.NodeId.{NodeId}
use Rattle.kind_sites.specs.declared.site.Site.TheVariants as site
use Rattle.c_types.specs.declared.shape.TypeShape.TheVariants.{Union}
use Rattle.c_types.specs.Table.{IsComplete, IsAggregate, shape_at, members_at}
use Rattle.c_types.specs.Layouts.{size_of, member_at, offset_of}
use Rattle.kind_sites.specs.Solutions.{IsUnionAllowed, IsWildWhereMixed}
use Rattle.c_types.specs.Sound.{IsWellFormed}
use Rattle.runs.specs.Outcome.{Outcome, Ended, Done, done, from}
use Rattle.src_mem.specs.Pointers.{Location, Pointer, Null, Number, At, Function}
use Rattle.src_mem.specs.Memory.{Object}
use Rattle.src_mem.specs.State.{Ending, Exited, Stopped, Turns, Wants, Wrong, State, Act, Setting, given}
use Rattle.src_mem.specs.Checks.{AddressMember, conditions_of, all_checked, fits_between}
use Rattle.src_mem.specs.Primitives.{new_part, whole_part, address}
use Rattle.src_mem.specs.Operations.{member}
use Rattle.src_mem.specs.Outlines.{outlines_of, lives_of, AreOutlines}
use Rattle.src_mem.specs.Facts.{IsHeldIn, IsPlaceIn}
use Rattle.src_mem.specs.Laws.{Gives}
use Rattle.facts_kept.specs.Kept.{GivesPointer}
use Rattle.facts_kept.proofs.Addresses.{gives-member}
use Rattle.facts_kept.proofs.Complete.{complete-data}
use Rattle.facts_kept.proofs.Places.{held-place}

-- what follows from what the last step of a run gives
pub gives-later : {A B : Type 0} (P Q : B → State → Type 0) (m : Outcome Ending State A) (f : A → Act B) → Gives (from m f) P
    → ((a : A) (s : State) → Gives (f a s) P → Gives (f a s) Q) → Gives (from m f) Q
gives-later P Q (Done a s) f h next = next a s h
gives-later P Q (Ended Turns s) f h next = tt
gives-later P Q (Ended Wants s) f h next = tt
gives-later P Q (Ended (Exited n) s) f h next = tt
gives-later P Q (Ended (Stopped c p) s) f h next = tt
gives-later P Q (Ended Wrong s) f h next = h

module _ (w : Setting) (sound : IsWellFormed w.table) (sites : List Site) (depth : ℕ) (t : TypeId) (complete : IsComplete w.table t) (old : State) where
  -- a pointer that may be held, and is a place
  abbrev pub GivesPlace : Kind → Pointer → State → Type 0
  GivesPlace k q r = GivesPointer w sites depth k t old q r × IsPlaceIn w old.memory depth k t q

  -- the address of the part at the offset z
  abbrev Made : State → Location → Kind → ℤ → (Pointer → State → Type 0) → Type 0
  Made s l k z P =
      Gives
      (given (new_part k s.memory.objects l.object z (size_of w.table t))
      (λ part. done (At (record { object = l.object; part = part; offset = z; made = t }))) s) P

  pub gives-address_place : (k : Kind) (n : ℕ) (p : Pointer) (s : State) → Gives (address k n (size_of w.table t) t p s) (GivesPointer w sites depth k t old)
      → Gives (address k n (size_of w.table t) t p s) (GivesPlace k)
  gives-address_place k n Null s h = h
  gives-address_place k n (Number z) s h = h
  gives-address_place k n (Function f) s h = h
  gives-address_place k n (At l) s h = by k (l.offset +ℤ pos n) h
    where
      at_start : (a m : ℕ) → fits_between a (a + m) (pos a) m ≡ true
      at_start a m = grind (arith, ints)

      whole : (z : ℤ) (o : Option Object)
          → Gives (given (whole_part o) (λ part. done (At (record { object = l.object; part = part; offset = z; made = t }))) s)
          (GivesPointer w sites depth Wild t old)
          → Gives (given (whole_part o) (λ part. done (At (record { object = l.object; part = part; offset = z; made = t }))) s) (GivesPlace Wild)
      whole z None h = h
      whole z (Some o) h = (
        h,
        record {
          location = record { object = l.object; part = record { low = 0; high = o.size }; offset = z; made = t };
          is = refl;
          place = h.held.value;
          reaches = h.held.reaches;
        },
      )

      by : (k : Kind) (z : ℤ) → Made s l k z (GivesPointer w sites depth k t old) → Made s l k z (GivesPlace k)
      by Wild z h = whole z (slice_get s.memory.objects l.object) h
      by Safe (negsuc a) h = h
      by Safe (pos a) h = (
        h,
        held-place w sound (outlines_of old.memory) (lives_of old.memory) depth old.memory Safe t
            (At (record { object = l.object; part = record { low = a; high = a + size_of w.table t }; offset = pos a; made = t }))
            (complete-data w.table sound t complete) h.held (refl, tt),
      )
      by Rtti (negsuc a) h = h
      by Rtti (pos a) h = (
        h,
        held-place w sound (outlines_of old.memory) (lives_of old.memory) depth old.memory Rtti t
            (At (record { object = l.object; part = record { low = a; high = a + size_of w.table t }; offset = pos a; made = t }))
            (complete-data w.table sound t complete) h.held (refl, tt),
      )
      by Seq (negsuc a) h = h
      by Seq (pos a) h = (
        h,
        held-place w sound (outlines_of old.memory) (lives_of old.memory) depth old.memory Seq t
            (At (record { object = l.object; part = record { low = a; high = a + size_of w.table t }; offset = pos a; made = t }))
            (complete-data w.table sound t complete) h.held (at_start a (size_of w.table t), tt),
      )

-- the address of a member is a place
pub gives-member_place : (w : Setting) (sound : IsWellFormed w.table) (sites : List Site) (old : State) (depth : ℕ)
    → ((v : TypeId) (tag : ℕ) → shape_at w.table v ≡ Union tag → IsUnionAllowed w.table w.kind v) → (at : Place) (outer node : NodeId) (t : TypeId)
    (i : ℕ) (p : Pointer) → (w.kind outer ≡ Wild) ↔ (w.kind node ≡ Wild) → IsWildWhereMixed w.table w.kind outer t → IsComplete w.table t
    → IsAggregate w.table t → i < length (members_at w.table t) → IsComplete w.table (member_at w.table t i)
    → Contains sites (site.Pointee node (member_at w.table t i)) → AreOutlines w (outlines_of old.memory)
    → IsHeldIn w old.memory depth (w.kind outer) t p
    → Gives (member w at (w.kind outer) t i node (member_at w.table t i) p old)
    (λ q r. GivesPointer w sites depth (w.kind node) (member_at w.table t i) old q r × IsPlaceIn w old.memory depth (w.kind node) (member_at w.table t i) q)
gives-member_place w sound sites old depth allowed at outer node t i p linked mixed ct aggregate l cu told ordered h =
    gives-later (GivesPointer w sites depth (w.kind node) (member_at w.table t i) old)
    (λ q r. GivesPointer w sites depth (w.kind node) (member_at w.table t i) old q r × IsPlaceIn w old.memory depth (w.kind node) (member_at w.table t i) q)
    (all_checked w at (conditions_of (AddressMember (offset_of w.table t i) (size_of w.table t)) (w.kind outer) p) old)
    (λ x. address (w.kind node) (offset_of w.table t i) (size_of w.table (member_at w.table t i)) (member_at w.table t i) p)
    (gives-member w sound sites old depth allowed at outer node t i p linked mixed ct aggregate l cu told ordered h)
    (λ x s g. gives-address_place w sound sites depth (member_at w.table t i) cu old (w.kind node) (offset_of w.table t i) p s g)
