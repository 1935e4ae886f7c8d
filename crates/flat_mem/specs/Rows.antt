-- Two ranges of bytes that are copied as one: all is read before the first is written, and the second is written last.
use Rattle.std.specs.Prelude.{ℕ, List}
use Rattle.flat_mem.specs.declared.rows.Shift.{Shift}
use Rattle.flat_mem.specs.Bytes.{bytes_at, written, moved}

-- m bytes from u to p, and n bytes from v to q
abbrev pub two_moved : (m n : ℕ) → List ℕ → (p u q v : ℕ) → List ℕ
two_moved m n bytes p u q v = written (bytes_at n bytes v) (moved m bytes p u) q

abbrev pub both_moved : List ℕ → Shift → Shift → List ℕ
both_moved bytes first second = two_moved first.count second.count bytes first.to first.from second.to second.from
