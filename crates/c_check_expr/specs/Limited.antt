-- What a call of a unit keeps of the limits.
use Rattle.std.specs.Prelude.{◌≤◌, ℕ}
use Rattle.c_typing.specs.Judging.{State}
use Rattle.c_unit_limits.specs.Few.{IsBounded}

-- What is given, where so many values are held at once, is within the limits: there are no more than 256, and the parameters of each function
-- type, the bytes of literals and the pointers that assignments of structs move are within their limits, where they were before it. How many
-- types there are, and the bytes of each, is within its limit in each table that is well formed.
pub record IsWithin (holds : ℕ) (s r : State) : Type 0 where
  pub held : holds ≤ 256
  pub bounded : IsBounded s.table s.seen → IsBounded r.table r.seen
