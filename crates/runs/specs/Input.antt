-- What a run may read.
use Rattle.std.specs.Prelude.{ℕ, List, drop}

-- the bytes that a run may read, in order: after those of a closed input comes its end, after those of an open one more
-- may come, of which nothing is known
pub data Input : Type 0 where
  Closed : List ℕ → Input
  Open : List ℕ → Input

-- What is left of an input once so many of its bytes are read. A meaning that keeps the whole input and counts the bytes that it
-- read, and one that keeps what is left, are joined by this.
abbrev pub left : Input → ℕ → Input
left (Closed bytes) n = Closed (drop n bytes)
left (Open bytes) n = Open (drop n bytes)
