-- What is given, and the innermost scope where it ends.
use Rattle.std.specs.Prelude.{◌≡◌}
use Rattle.c_typing.specs.Judging.{Outcome, Gives, Stops}
use Rattle.c_typing.specs.Scopes.{Level, innermost}

-- it is given, and this is the innermost scope then
abbrev pub EndsIn : {A : Type 0} → Level → Outcome A → Type 0
EndsIn level (Gives a s) = innermost s.seen.scopes.levels ≡ level
EndsIn level (Stops fault s) = ⊥
