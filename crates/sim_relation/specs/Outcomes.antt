-- What two whole runs have in common: how they end, what they gave out and read, that the cured one was faithful, and its bytes at the end.
use Rattle.std.specs.Prelude.{◌≡◌, ℕ, suc, length, map}
use Rattle.cc_base.specs.declared.number.TypeId.{TypeId}
use Rattle.flat_mem.specs.Bytes.{AreBytes}
use Rattle.runs.specs.Input.{Input}
use Rattle.src_mem.specs.State as source
use Rattle.src_mem.specs.State.{Setting, bytes_of}
use Rattle.src_mem.specs.Runs.{SourceOutcome}
use Rattle.cured_code.specs.FlatState as flat
use Rattle.cured_code.specs.FlatMachine.{FlatOutcome, flat_run}
use Rattle.cured_code.specs.declared.parts.Parts.{Parts}
use Rattle.sim_relation.specs.Ground.{Ground, ground}
use Rattle.sim_relation.specs.Objects.{HoldsAll}
use Rattle.sim_relation.specs.Accesses.{AreImages}

-- The endings are the same: a status, a check at its place, the end of the turns, or the wish for more input. A run that is wrong, and one that
-- traps, end like no other.
abbrev pub EndAlike : source.Ending → flat.Ending → Type 0
EndAlike (source.Exited n) (flat.Exited m) = m ≡ n
EndAlike (source.Stopped check place) (flat.Stopped other at) = (other ≡ check) × (at ≡ place)
EndAlike source.Turns flat.Turns = Unit {0}
EndAlike source.Wants flat.Wants = Unit {0}
EndAlike e f = ⊥

-- what words are made from at the end of two runs
abbrev pub last_ground : Setting → (TypeId → ℕ) → SourceOutcome → FlatOutcome → Ground
last_ground w number_of o f = ground w number_of o.memory.objects f.areas

-- Faithful: the run of the cured program touched exactly the images of the accesses, in order and no more, and entered exactly the functions that
-- were entered, in order.
pub record IsFaithful (w : Setting) (number_of : TypeId → ℕ) (o : SourceOutcome) (f : FlatOutcome) : Type 0 where
  pub accesses : AreImages (last_ground w number_of o f) o.accesses f.accesses
  pub entered : f.entered ≡ map suc o.entered

-- the bytes at the end stand for the memory at the end: an area for each object, and each that lives is held there
pub record StandsForMemory (w : Setting) (number_of : TypeId → ℕ) (o : SourceOutcome) (f : FlatOutcome) : Type 0 where
  pub areas : length f.areas ≡ length o.memory.objects
  pub objects : HoldsAll (last_ground w number_of o f) f.bytes o.memory.objects

-- The two runs are the same run.
pub record RunAlike (w : Setting) (number_of : TypeId → ℕ) (o : SourceOutcome) (f : FlatOutcome) : Type 0 where
  pub ending : EndAlike o.ending f.ending
  pub output : f.output ≡ o.output
  pub read : f.read ≡ o.read
  pub faithful : IsFaithful w number_of o f
  pub memory : StandsForMemory w number_of o f

-- The cured program runs as a program whose runs are these, for every input of bytes and every number of turns, where RTTI pointers carry these
-- numbers of type nodes.
abbrev pub RunsAlike : Setting → (TypeId → ℕ) → (Input → ℕ → SourceOutcome) → Parts → Type 0
RunsAlike w number_of run c = (input : Input) (turns : ℕ) → AreBytes (bytes_of input) → RunAlike w number_of (run input turns) (flat_run c input turns)
