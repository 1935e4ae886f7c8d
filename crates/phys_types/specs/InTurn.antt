use Rattle.std.specs.Prelude.{◌≡◌, ℕ, ◌<◌, ◌%◌, List, length}
use Rattle.c_types.specs.Flows.{HeldPointer}
use Rattle.phys_types.specs.declared.spot.Spot.{Spot}
use Rattle.phys_types.specs.Standing.{IsAtSpot}

-- Spots that stand again and again.

-- p is at the spot number i of the spots again and again
abbrev pub IsInTurn : List Spot → ℕ → HeldPointer → Type 0
IsInTurn ss i p = IsAtSpot ss (i % length ss) p

-- after n spots both k and l of them begin anew
abbrev pub IsTurn : ℕ → ℕ → ℕ → Type 0
IsTurn k l n = (0 < n) × (n % k ≡ 0) × (n % l ≡ 0)
