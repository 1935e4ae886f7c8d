-- What the six functions of the C library do that every unit knows (C99 7.19.7, 7.20.3, 7.20.4), on arguments that were converted to
-- the types of their parameters.
use Rattle.std.specs.Prelude.{pos, List, [], ◌∷◌}
use Rattle.cc_base.specs.declared.number.NodeId.{NodeId}
use Rattle.cc_base.specs.declared.number.TypeId.{TypeId}
use Rattle.integers.specs.Words.{word}
use Rattle.runs.specs.Outcome.{done, ◌>>=◌}
use Rattle.src_mem.specs.Pointers.{Value, Integer, Address}
use Rattle.src_mem.specs.State.{Act, Setting, wrong}
use Rattle.src_mem.specs.Primitives.{allocate, allocate_elements, get, put, exit}

-- a new block of zero bytes for a pointer to t, by an allocation of this node; null where the limit would be passed
abbrev pub malloc : Setting → NodeId → TypeId → List Value → Act Value
malloc w node t (Integer n ∷ []) = allocate w node t (word n) >>= (λ p. done (Address p))
malloc w node t arguments = wrong

abbrev pub calloc : Setting → NodeId → TypeId → List Value → Act Value
calloc w node t (Integer a ∷ Integer b ∷ []) = allocate_elements w node t (word a) (word b) >>= (λ p. done (Address p))
calloc w node t arguments = wrong

-- nothing is reclaimed; a null constant may still be an integer
abbrev pub free : List Value → Act Value
free (v ∷ []) = done (Integer (pos 0))
free arguments = wrong

abbrev pub getchar : List Value → Act Value
getchar [] = get >>= (λ z. done (Integer z))
getchar arguments = wrong

abbrev pub putchar : List Value → Act Value
putchar (Integer z ∷ []) = put z >>= (λ b. done (Integer b))
putchar arguments = wrong

abbrev pub exits : List Value → Act Value
exits (Integer z ∷ []) = exit z
exits arguments = wrong
