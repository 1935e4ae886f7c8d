-- The statements of the laws: what each change of C's memory leaves of the relation, and how related states end.
use Rattle.std.specs.Prelude.{◌≡◌, ◌⊎◌, ℕ, suc, ◌+◌, ◌<◌, ◌≤◌, true, List, ◌∷◌, length, slice_get, slice_index, Some, IsTrue}
use Rattle.cc_base.specs.declared.number.TypeId.{TypeId}
use Rattle.kind_sites.specs.declared.site.Site.{Site}
use Rattle.c_types.specs.Table.{IsComplete}
use Rattle.c_types.specs.Sound.{IsWellFormed}
use Rattle.flat_mem.specs.Bytes.{AreBytes}
use Rattle.flat_mem.specs.Memory.{Frame, fits, with_bytes}
use Rattle.src_mem.specs.Memory.{Object, Planned, frame_charge}
use Rattle.src_mem.specs.State as source
use Rattle.src_mem.specs.State.{Setting, Access}
use Rattle.src_mem.specs.Primitives.{with_object, with_frame, leave}
use Rattle.src_mem.specs.Runs as runs
use Rattle.src_mem.specs.Outlines.{outline}
use Rattle.src_mem.specs.Facts.{IsSoundMemory}
use Rattle.src_mem.specs.Laws.{Gives}
use Rattle.cured_code.specs.FlatState as flat
use Rattle.cured_code.specs.FlatState.{Range}
use Rattle.cured_code.specs.FlatMachine as machine
use Rattle.sim_relation.specs.Ground.{address}
use Rattle.sim_relation.specs.Objects.{HoldsBy, room_of, frame_areas}
use Rattle.sim_relation.specs.Accesses.{IsImage}
use Rattle.sim_relation.specs.Related.{Related, ground_of}
use Rattle.sim_relation.specs.Outcomes.{EndAlike, RunAlike}

-- an object changes, with bytes of its area alone, by an access of which a range is the image
abbrev pub ChangesOfAnObject : Type 0
ChangesOfAnObject =
    (w : Setting) (number_of : TypeId → ℕ) (s : source.State) (c : flat.State) (k : ℕ) (old new : Object) (bytes : List ℕ) (a : Access) (r : Range)
    → Related w number_of s c → slice_get s.memory.objects k ≡ Some old → old.live ≡ true → outline new ≡ outline old
    → length bytes ≡ length c.memory.bytes → AreBytes bytes
    → ((i : ℕ) → (i < address (ground_of w number_of s c) k) ⊎ (address (ground_of w number_of s c) k + room_of w.kind (outline old) ≤ i)
    → slice_index bytes i ≡ slice_index c.memory.bytes i)
    → HoldsBy (w.kind new.node) (ground_of w number_of s c) bytes (address (ground_of w number_of s c) k) new
    → IsImage (ground_of w number_of s c) a r
    → Related w number_of (with_object k new (source.touched a.object a.offset a.size s)) (flat.touched r.at r.size (record c { memory = with_bytes c.memory bytes }))

-- the variables of a call are made, and a frame with their areas is pushed
abbrev pub FramesBegin : Type 0
FramesBegin =
    (w : Setting) (sites : List Site) (number_of : TypeId → ℕ) (s : source.State) (c : flat.State) (d : ℕ) (variables : List Planned)
    → IsWellFormed w.table → ((j : ℕ) (v : Planned) → slice_get variables j ≡ Some v → IsComplete w.table v.type)
    → IsSoundMemory w sites s.memory → Related w number_of s c → length c.memory.frames ≡ suc d
    → IsTrue (fits c.memory (frame_areas w variables) (frame_charge w.table variables))
    → Related w number_of (with_frame w (suc d) variables s) (machine.with_frame (frame_areas w variables) (frame_charge w.table variables) c)

-- a call ends, and its frame goes
abbrev pub FramesEnd : Type 0
FramesEnd =
    (w : Setting) (number_of : TypeId → ℕ) (s : source.State) (c : flat.State) (d : ℕ) (variables : List Planned) (frame : Frame) (frames : List Frame)
    → Related w number_of s c → c.memory.frames ≡ frame ∷ frames → length frames ≡ suc d → frame.charge ≡ frame_charge w.table variables
    → Gives (leave w (suc d) variables s) (λ x t. Related w number_of t (machine.without_frame c))

-- two runs that end in related states, with the same ending, are alike
abbrev pub RelatedStatesEndAlike : Type 0
RelatedStatesEndAlike =
    (w : Setting) (number_of : TypeId → ℕ) (e : source.Ending) (s : source.State) (f : flat.Ending) (c : flat.State)
    → Related w number_of s c → EndAlike e f → RunAlike w number_of (runs.seen e s) (machine.seen f c)
