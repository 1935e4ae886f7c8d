-- `&` of a place is wrong nowhere.
use Rattle.std.proofs.Common.{◌≡◌, ◌≢◌, ℕ, pos, List, slice_get, Some, refl, sym, subst}
use Rattle.cc_base.specs.declared.number.TypeId.{TypeId}
use Rattle.cc_base.specs.declared.kind.Kind.{Kind}
use Rattle.cc_base.specs.declared.kind.Kind.TheVariants.{Safe, Seq, Rtti, Wild}
use Rattle.runs.specs.Outcome.{done}
use Rattle.src_mem.specs.Pointers.{Location, At, Address}
use Rattle.src_mem.specs.State.{Setting}
use Rattle.src_mem.specs.Outlines.{Outline, outline, outlines_of}
use Rattle.src_mem.specs.Facts.{IsPlaceAt}
use Rattle.src_mem.specs.Primitives.{address}
use Rattle.src_mem.specs.Operations.{size}
use Rattle.src_mem.specs.ValueLaws.{AddressesAreNotWrong}
use Rattle.src_mem.specs.Laws.{IsNotWrong}
use Rattle.src_mem.proofs.Outlines.{mapped-from}
use Rattle.src_mem.proofs.NotWrong.{from_right}
use Rattle.src_mem.proofs.OperationsRight.{address_right}

-- a location in an object, at a byte of it where it isn't used as WILD
record IsInObject (outlines : List Outline) (kind : Kind) (l : Location) : Type 0 where
  object : Outline
  found : slice_get outlines l.object ≡ Some object
  stands : kind ≢ Wild → (at : ℕ) × (l.offset ≡ pos at)

in_object : (w : Setting) (outlines : List Outline) (kind : Kind) (t : TypeId) (l : Location) → IsPlaceAt w outlines kind t l
    → IsInObject outlines kind l
in_object w outlines Safe t l a = record { object = a.object; found = a.located.found; stands = λ n. (a.at, a.stands.offset) }
in_object w outlines Seq t l a = record { object = a.object; found = a.located.found; stands = λ n. (a.at, a.stands.offset) }
in_object w outlines Rtti t l a = record { object = a.object; found = a.located.found; stands = λ n. (a.at, a.stands.offset) }
in_object w outlines Wild t l a = record { object = a.object; found = a.found; stands = λ n. absurd (n refl) }

pub addressed_right : AddressesAreNotWrong
addressed_right w depth outer inner t p s linked place =
    from_right (address (w.kind inner) 0 (size w t) t p s) (λ q. done (Address q))
    (subst (λ q. IsNotWrong (address (w.kind inner) 0 (size w t) t q s)) (sym place.is)
    (of (in_object w (outlines_of s.memory) (w.kind outer) t place.location place.place))) (λ q r. tt)
  where
    of : IsInObject (outlines_of s.memory) (w.kind outer) place.location → IsNotWrong (address (w.kind inner) 0 (size w t) t (At place.location) s)
    of i =
        let o = mapped-from outline s.memory.objects place.location.object i.object i.found in
        address_right (w.kind inner) 0 (size w t) t place.location o.0 s o.1 (λ n. i.stands (λ e. n (linked.0 e)))
