-- Two small runs, of which one is the other one cured, and changes of them that aren't. They end in the small states of `sim_relation`.
use Rattle.std.specs.Prelude.{ℕ, false, List, [], ◌∷◌, Some}
use Rattle.cil_form.specs.Typing.{PointerTo}
use Rattle.src_mem.specs.Runs as source_runs
use Rattle.src_mem.specs.Runs.{SourceOutcome}
use Rattle.src_mem.specs.State as source
use Rattle.cured_code.specs.FlatMachine as machine
use Rattle.cured_code.specs.FlatMachine.{FlatOutcome}
use Rattle.cured_code.specs.FlatState as flat
use Rattle.sim_relation.specs.Ground.{Ground}
use Rattle.sim_relation.specs.Related.{ground_of}
use Rattle.sim_relation.specs.Points.{Known, Exact, IsNotNull, IsBased, IsWithin}
use Rattle.sim_relation.specs.Small.{node, int, bytes_with, memory_with_frame, second_area, small_setting, number_of, small_memory, small_source, small_flat}

-- Changes of the flat state

-- another byte for x
abbrev pub flat_with_byte : flat.State
flat_with_byte = record small_flat { memory = record small_memory { bytes = bytes_with 6 1 } }

-- the area of the first object is as long as the object was before it was cured
abbrev pub flat_with_short_area : flat.State
flat_with_short_area = record small_flat { areas = record { area = record { tagged = false; bytes = 16 }; address = 16 } ∷ second_area ∷ [] }

abbrev pub short_ground : Ground
short_ground = ground_of small_setting number_of small_source flat_with_short_area

-- a frame of 88 bytes, for which nothing was charged
abbrev pub flat_with_frame : flat.State
flat_with_frame = record small_flat { memory = memory_with_frame }

-- a byte was put out
abbrev pub flat_with_output : flat.State
flat_with_output = record small_flat { output = 7 ∷ [] }

-- Runs

-- both exit with status 0
abbrev pub small_run : SourceOutcome
small_run = source_runs.seen (source.Exited 0) small_source

abbrev pub small_cured_run : FlatOutcome
small_cured_run = machine.seen (flat.Exited 0) small_flat

-- another byte at the end, another status
abbrev pub run_with_byte : FlatOutcome
run_with_byte = machine.seen (flat.Exited 0) flat_with_byte

abbrev pub run_with_status : FlatOutcome
run_with_status = machine.seen (flat.Exited 1) small_flat

-- of the words of p only the first is touched; function 0 of the cured program is entered once more
abbrev pub run_with_short_range : FlatOutcome
run_with_short_range = machine.seen (flat.Exited 0) (record small_flat { accesses = record { at = 24; size = 8 } ∷ record { at = 64; size = 4 } ∷ [] })

abbrev pub run_with_call : FlatOutcome
run_with_call = machine.seen (flat.Exited 0) (record small_flat { entered = 0 ∷ [] })

-- Slots

-- p in the slots from 1 on, of which it is sure that it was made for an object
abbrev pub known_p : Known
known_p = record { type = PointerTo (node 1) int; place = Some 1; form = Exact; sure = IsNotNull ∷ IsBased ∷ [] }

-- the same, and that four bytes from it on lie in its part
abbrev pub p_within : Known
p_within = record known_p { sure = IsWithin 4 ∷ [] }

-- where it stands, and where its part begins and ends
abbrev pub slots_to : ℕ → List ℕ
slots_to high = 0 ∷ 20 ∷ 16 ∷ high ∷ []
