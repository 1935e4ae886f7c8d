-- The facts where three-address code has come to: of what its temporaries hold, of the memory, and of the objects that it names.
use Rattle.std.specs.Prelude.{◌≡◌, ℕ, ⊤, List, slice_get, Some, IsTrue}
use Rattle.cc_base.specs.declared.number.NodeId.{NodeId}
use Rattle.cc_base.specs.declared.number.TypeId.{TypeId}
use Rattle.kind_sites.specs.declared.site.Site.{Site}
use Rattle.c_types.specs.Table.{is_function}
use Rattle.kind_sites.specs.Solutions.{IsSolution}
use Rattle.c_types.specs.Sound.{IsWellFormed}
use Rattle.integers.specs.Arithmetic.{converted}
use Rattle.runs.specs.Outcome.{Outcome, Ended, Done}
use Rattle.runs.specs.Control.{Control, Goes}
use Rattle.src_mem.specs.Pointers.{Value, Integer, Address}
use Rattle.src_mem.specs.Memory.{Memory, Planned}
use Rattle.src_mem.specs.State.{Ending, Wrong, Setting, Defined}
use Rattle.src_mem.specs.Facts.{IsHeldBy, IsPlaceIn, IsSoundAt}
use Rattle.facts_kept.specs.Kept.{IsLater}
use Rattle.cil_form.specs.declared.number.Temp.{Temp}
use Rattle.cil_form.specs.declared.number.Object.{Object}
use Rattle.cil_form.specs.declared.instr.Instr.{Instr}
use Rattle.cil_form.specs.State.{Local, Around}
use Rattle.cil_form.specs.Typing.{HeldType, IntegerOf, PointerTo, PlaceOf, Typing, Context, IsObject, IsShaped}
use Rattle.cil_form.specs.Meaning.{pointer_to, act}
use Rattle.cil_form.specs.Told.{TellsOf, AreAsked, AreSitesTold}

-- the value is one of what a temporary holds, in a call of this depth: an integer that fits the type, a pointer that may be held, or
-- one that besides is a place of its type
abbrev pub IsHeldAs : Setting → List Site → Memory → ℕ → HeldType → Value → Type 0
IsHeldAs w sites memory depth (IntegerOf i) (Integer z) = converted i z ≡ z
IsHeldAs w sites memory depth (PointerTo node t) (Address p) = IsHeldBy w sites memory depth node t p
IsHeldAs w sites memory depth (PlaceOf node t) (Address p) = IsHeldBy w sites memory depth node t p × IsPlaceIn w memory depth (w.kind node) t p
IsHeldAs w sites memory depth x v = ⊥

-- The kinds of a run are a solution for the sites of the program, which tell all of its types and of the objects that code names.
pub record IsSolvedFor (k : Context) (w : Setting) : Type 0 where
  pub table : w.table ≡ k.table
  pub well_formed : IsWellFormed w.table
  pub solution : IsSolution w.table k.sites w.kind
  pub made : List Planned
  pub told : AreSitesTold w.table made k.sites
  pub tells : TellsOf k.sites k
  -- the functions that code names are those of the run
  pub functions : (f : ℕ) (v : TypeId) → slice_get k.functions f ≡ Some v
      → (d : Defined) × (slice_get w.functions f ≡ Some d) × (d.type ≡ v) × IsTrue (is_function w.table v)

-- The facts of a moment of a call: of the memory, of each temporary of which something is known, and of each object that code may
-- name, whose address is a place of the type that it is named with.
pub record AreFacts (k : Context) (a : Around) (types : Typing) (c : Local) : Type 0 where
  pub memory : IsSoundAt a.setting k.sites c.state.memory a.depth
  pub asked : AreAsked k.sites types
  pub held : (t : Temp) (x : HeldType) → types t ≡ Some x → IsHeldAs a.setting k.sites c.state.memory a.depth x (c.temps t)
  pub objects : (o : Object) (home : NodeId) (t : TypeId) → IsObject k o home t
      → IsHeldAs a.setting k.sites c.state.memory a.depth (PlaceOf home t) (Address (pointer_to a o t))

-- code isn't wrong: a check or what it does ends the run, or it goes on, and P is true of where it has come to
abbrev pub GoesOn : Outcome Ending Local (Control Value) → (Local → Type 0) → Type 0
GoesOn (Ended Wrong c) P = ⊥
GoesOn (Ended e c) P = ⊤
GoesOn (Done x c) P = (x ≡ Goes) × P c

-- The facts behind code: its objects are those that were there before it, or later ones.
pub record AreFactsBehind (k : Context) (a : Around) (after : Typing) (before now : Local) : Type 0 where
  pub facts : AreFacts k a after now
  pub later : IsLater a.depth before.state.memory.objects now.state.memory.objects

-- An instruction in shape keeps the facts: where they are true before it, it isn't wrong, and they are true behind it.
abbrev pub KeepsFacts : Instr → Type 0
KeepsFacts i = (k : Context) (a : Around) (types after : Typing) (c : Local) → IsSolvedFor k a.setting → IsShaped i k types after
    → AreFacts k a types c → GoesOn (act i a c) (AreFactsBehind k a after c)
