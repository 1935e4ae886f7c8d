-- What is true of whole runs.
use Rattle.std.specs.Prelude.{◌≡◌, ℕ, slice_get, Some}
use Rattle.src_mem.specs.State.{Access}
use Rattle.src_mem.specs.Runs.{SourceOutcome}
use Rattle.src_mem.specs.Laws.{LiesIn}

-- each access of a run lies in an object that is there
abbrev pub AllLie : SourceOutcome → Type 0
AllLie o = (i : ℕ) (a : Access) → slice_get o.accesses i ≡ Some a → LiesIn o.memory.objects a
