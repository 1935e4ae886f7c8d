-- Counts of faults, and what the call of a file leaves in its count and in the name of the last failure.
use Rattle.std.specs.Prelude.{◌≡◌, ℕ, ◌+◌, ◌-◌, ◌^◌, ◌<◌, min, List, Option, Some, Result, Ok, Err, ◌⊎◌}
use Rattle.cc_io.specs.declared.faults.FileFault.{FileFault}
use Rattle.cc_io.specs.declared.faults.FileFault.TheVariants as fault

-- the greatest count: a count that reaches it stays there
abbrev pub greatest_count : ℕ
greatest_count = 2 ^ 64 - 1

-- one more, up to the greatest count
abbrev pub counted_up : ℕ → ℕ
counted_up n = min (n + 1) greatest_count

-- a count rose: it is greater than it was, or it is the greatest count
abbrev pub Rose : ℕ → ℕ → Type 0
Rose before now = (before < now) ⊎ (now ≡ greatest_count)

-- the count after a call of a file that raises it at `Failed` alone
abbrev pub faults_after : {T : Type 0} → Result T FileFault → ℕ → ℕ
faults_after (Err fault.Failed) before = counted_up before
faults_after (Err fault.TooLarge) before = before
faults_after (Err fault.NoMemory) before = before
faults_after (Ok _) before = before

-- the name in the last call that failed, after a call with this name
abbrev pub last_after : {T : Type 0} → Result T FileFault → List ℕ → Option (List ℕ) → Option (List ℕ)
last_after (Err fault.Failed) name before = Some name
last_after (Err fault.TooLarge) name before = before
last_after (Err fault.NoMemory) name before = before
last_after (Ok _) name before = before
