-- What is true of operations on values.
use Rattle.std.specs.Prelude.{◌≡◌, ◌↔◌, ℕ}
use Rattle.cc_base.specs.declared.number.NodeId.{NodeId}
use Rattle.cc_base.specs.declared.number.TypeId.{TypeId}
use Rattle.cc_base.specs.declared.kind.Kind.TheVariants.{Wild}
use Rattle.src_mem.specs.Pointers.{Pointer, Address}
use Rattle.src_mem.specs.State.{State, Setting}
use Rattle.src_mem.specs.Facts.{IsPlaceIn}
use Rattle.src_mem.specs.Values.{addressed}
use Rattle.src_mem.specs.Laws.{IsNotWrong}

-- `&` of a place is wrong nowhere, where the address that it makes is WILD exactly where the place's own is
abbrev pub AddressesAreNotWrong : Type 0
AddressesAreNotWrong = (w : Setting) (depth : ℕ) (outer inner : NodeId) (t : TypeId) (p : Pointer) (s : State)
    → ((w.kind outer ≡ Wild) ↔ (w.kind inner ≡ Wild)) → IsPlaceIn w s.memory depth (w.kind outer) t p → IsNotWrong (addressed w inner t (Address p) s)
