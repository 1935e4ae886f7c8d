-- What both machines find where a pointer points to, and how an operation of both goes.
use Rattle.std.specs.Prelude.{◌≡◌, ◌≢◌, ℕ, ◌+◌, ◌<◌, ◌≤◌, pos, true, List, slice_get, slice_index, Some}
use Rattle.cc_base.specs.declared.kind.Kind.{Kind}
use Rattle.cc_base.specs.declared.kind.Kind.TheVariants.{Safe, Wild}
use Rattle.cc_base.specs.declared.number.TypeId.{TypeId}
use Rattle.c_types.specs.Widths.{before}
use Rattle.runs.specs.Outcome.{Outcome, Done}
use Rattle.runs.specs.Control.{Control, Goes}
use Rattle.src_mem.specs.Pointers.{Location, Pointer, At}
use Rattle.src_mem.specs.Memory.{Object}
use Rattle.src_mem.specs.State as source
use Rattle.src_mem.specs.State.{Setting}
use Rattle.src_mem.specs.Outlines.{outlines_of, lives_of}
use Rattle.src_mem.specs.Facts.{HoldType}
use Rattle.cured_code.specs.declared.instr.Instr.{Instr}
use Rattle.cured_code.specs.declared.instr.Instr.TheVariants as instr
use Rattle.cured_code.specs.FlatState as flat
use Rattle.sim_relation.specs.Ground.{address, word_number}
use Rattle.sim_relation.specs.Related.{Related, ground_of}

-- The pointer stands in a living object without tags that holds t there, and this is the address of the byte.
pub record IsFound (w : Setting) (number_of : TypeId → ℕ) (s : source.State) (c : flat.State) (t : TypeId) (p : Pointer) (a : ℕ) : Type 0 where
  pub location : Location
  pub is : p ≡ At location
  pub object : Object
  pub at : ℕ
  pub found : slice_get s.memory.objects location.object ≡ Some object
  pub live : object.live ≡ true
  pub untagged : w.kind object.node ≢ Wild
  pub offset : location.offset ≡ pos at
  pub low : location.part.low ≤ at
  pub holds : HoldType w object.cells at location.part.high t
  pub inside : location.part.high ≤ object.size
  pub here : a ≡ address (ground_of w number_of s c) location.object + before w.kind object.cells at

-- the line that loads the words of a pointer of this kind into the slots from v on, and the one that stores them

abbrev pub loading : Kind → ℕ → ℕ → Instr
loading Safe v a = instr.Ld 8 v a
loading kind v a = instr.Ldw (word_number kind) v a

abbrev pub storing : Kind → ℕ → ℕ → Instr
storing Safe a v = instr.St 8 a v
storing kind a v = instr.Stw (word_number kind) a v

abbrev pub SourceOutcome : Type 0 → Type 0
SourceOutcome A = Outcome source.Ending source.State A

abbrev pub FlatOutcome : Type 0
FlatOutcome = Outcome flat.Ending flat.Local (Control (List ℕ))

-- What an act on what objects hold leaves of both machines: the outlines and lives of objects, and the input; areas, frames and regions, and
-- where the next block begins; and each byte that lies before the areas of all living objects.
pub record StaysAlike (w : Setting) (number_of : TypeId → ℕ) (s t : source.State) (c d : flat.State) : Type 0 where
  pub outlines : outlines_of t.memory ≡ outlines_of s.memory
  pub lives : lives_of t.memory ≡ lives_of s.memory
  pub input : t.input ≡ s.input
  pub areas : d.areas ≡ c.areas
  pub frames : d.memory.frames ≡ c.memory.frames
  pub bounds : d.memory.bounds ≡ c.memory.bounds
  pub top : d.memory.heap_top ≡ c.memory.heap_top
  pub before : (i : ℕ) → ((k : ℕ) (o : Object) → slice_get s.memory.objects k ≡ Some o → o.live ≡ true → i < address (ground_of w number_of s c) k)
      → slice_index d.memory.bytes i ≡ slice_index c.memory.bytes i

-- Both machines go on, to related states in which all but what objects hold stays: C gives a value, and the flat machine's slots are these.
pub record GoOnAlike {A : Type 0} (w : Setting) (number_of : TypeId → ℕ) (s : source.State) (c : flat.Local) (m : SourceOutcome A) (q : FlatOutcome) (value : A) (slots : List ℕ) : Type 0 where
  pub next : source.State
  pub after : flat.Local
  pub source_goes : m ≡ Done value next
  pub flat_goes : q ≡ Done Goes after
  pub slots_are : after.slots ≡ slots
  pub stays : StaysAlike w number_of s next c.state after.state
  pub related : Related w number_of next after.state
