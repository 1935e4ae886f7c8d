-- The runtime functions are wrong nowhere on arguments of the types of their parameters.
use Rattle.std.proofs.Common.{ℤ, [], ◌∷◌}
use Rattle.cc_base.specs.declared.place.Place.{Place}
use Rattle.cc_base.specs.declared.number.NodeId.{NodeId}
use Rattle.cc_base.specs.declared.number.TypeId.{TypeId}
use Rattle.integers.specs.Words.{word}
use Rattle.runs.specs.Outcome.{Outcome, Ended, Done, done, from, ◌>>=◌, ◌>>◌}
use Rattle.src_mem.specs.Pointers.{Pointer, Value, Integer, Address}
use Rattle.src_mem.specs.State.{Ending, Exited, Stopped, Turns, Wants, Wrong, State, Setting, as_pointer}
use Rattle.src_mem.specs.Primitives.{allocate, allocate_elements, get}
use Rattle.src_mem.specs.Operations.{allocated_for}
use Rattle.src_mem.specs.Values.{allocated}
use Rattle.src_mem.specs.Runtime.{malloc, calloc, free, getchar, putchar, exits}
use Rattle.src_mem.specs.Laws.{IsNotWrong}
use Rattle.src_mem.proofs.NotWrong.{from_right}
use Rattle.src_mem.proofs.CallsRight.{allocate_right, elements_right, first_right, get_right}

-- a pointer that an allocation gives is looked at, and given
block_right : (w : Setting) (at : Place) (node : NodeId) (t : TypeId) (m : Outcome Ending State Pointer) → IsNotWrong m
    → IsNotWrong (from (from m (λ p. done (Address p))) (λ v. as_pointer v >>= (λ p. allocated_for w at node t p >> done v)))
block_right w at node t (Done p s) h = from_right (allocated_for w at node t p s) (λ a. done (Address p)) (first_right w at node t p s) (λ a r. tt)
block_right w at node t (Ended Turns s) h = tt
block_right w at node t (Ended Wants s) h = tt
block_right w at node t (Ended (Exited n) s) h = tt
block_right w at node t (Ended (Stopped c p) s) h = tt
block_right w at node t (Ended Wrong s) h = h

pub malloc_right : (w : Setting) (at : Place) (node : NodeId) (t : TypeId) (n : ℤ) (s : State)
    → IsNotWrong (allocated w at node t (malloc w node t (Integer n ∷ [])) s)
malloc_right w at node t n s = block_right w at node t (allocate w node t (word n) s) (allocate_right w node t (word n) s)

pub calloc_right : (w : Setting) (at : Place) (node : NodeId) (t : TypeId) (a b : ℤ) (s : State)
    → IsNotWrong (allocated w at node t (calloc w node t (Integer a ∷ Integer b ∷ [])) s)
calloc_right w at node t a b s =
    block_right w at node t (allocate_elements w node t (word a) (word b) s) (elements_right w node t (word a) (word b) s)

pub free_right : (v : Value) (s : State) → IsNotWrong (free (v ∷ []) s)
free_right v s = tt

pub getchar_right : (s : State) → IsNotWrong (getchar [] s)
getchar_right s = from_right (get s) (λ z. done (Integer z)) (get_right s) (λ z r. tt)

pub putchar_right : (z : ℤ) (s : State) → IsNotWrong (putchar (Integer z ∷ []) s)
putchar_right z s = tt

pub exits_right : (z : ℤ) (s : State) → IsNotWrong (exits (Integer z ∷ []) s)
exits_right z s = tt
