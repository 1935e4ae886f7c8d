use Rattle.std.proofs.Common.{◌≡◌, ℕ, List, ◌++◌, length}
use Rattle.std.specs.Prelude.{Option, Some, None, ⊤}
use Rattle.cc_io.proofs.std_sink.write_whole.Given as goal

-- a front of the whole piece was appended, and this rest is left of it
abbrev Wrote : Option (List ℕ) → Option (List ℕ) → List ℕ → List ℕ → Type 0
Wrote None now whole rest = ⊤
Wrote (Some before) now whole rest = (front : List ℕ) × (whole ≡ front ++ rest) × (now ≡ Some (before ++ front))

abbrev pub invariant-loop-rest : goal.invariant-loop-rest
invariant-loop-rest g l = Wrote (g.W.Write.contents l.fn.output) (g.W.Write.contents l.output) l.fn.bytes l.rest

abbrev pub decreases-loop-rest : goal.decreases-loop-rest
decreases-loop-rest g l = length l.rest
