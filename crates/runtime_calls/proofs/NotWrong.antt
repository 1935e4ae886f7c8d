-- What a well typed call hands to a runtime function is what the function takes.
use Rattle.std.proofs.Common.{[], ◌∷◌, refl}
use Rattle.c_tree.specs.declared.typed_word.Runtime.TheVariants.{Malloc, Calloc, Free, Getchar, Putchar, Exit}
use Rattle.src_mem.specs.Pointers.{Integer, Address}
use Rattle.src_mem.proofs.RuntimeRight.{malloc_right, calloc_right, free_right, getchar_right, putchar_right, exits_right}
use Rattle.runtime_calls.specs.Laws.{CallsAreNotWrong, AllocationsAreNotWrong}

pub call_right : CallsAreNotWrong
call_right Malloc arguments s n h = absurd (n refl)
call_right Calloc arguments s n h = absurd (n refl)
call_right Free [] s n h = absurd h
call_right Free (v ∷ []) s n h = free_right v s
call_right Free (v ∷ u ∷ vs) s n h = absurd h.1
call_right Getchar [] s n h = getchar_right s
call_right Getchar (v ∷ vs) s n h = absurd h
call_right Putchar [] s n h = absurd h
call_right Putchar (Integer z ∷ []) s n h = putchar_right z s
call_right Putchar (Integer z ∷ v ∷ vs) s n h = absurd h.1
call_right Putchar (Address p ∷ vs) s n h = absurd h.0
call_right Exit [] s n h = absurd h
call_right Exit (Integer z ∷ []) s n h = exits_right z s
call_right Exit (Integer z ∷ v ∷ vs) s n h = absurd h.1
call_right Exit (Address p ∷ vs) s n h = absurd h.0

pub allocation_right : AllocationsAreNotWrong
allocation_right w at node t Malloc [] s e h = absurd h
allocation_right w at node t Malloc (Integer n ∷ []) s e h = malloc_right w at node t n s
allocation_right w at node t Malloc (Integer n ∷ v ∷ vs) s e h = absurd h.1
allocation_right w at node t Malloc (Address p ∷ vs) s e h = absurd h.0
allocation_right w at node t Calloc [] s e h = absurd h
allocation_right w at node t Calloc (Integer a ∷ []) s e h = absurd h.1
allocation_right w at node t Calloc (Integer a ∷ Integer b ∷ []) s e h = calloc_right w at node t a b s
allocation_right w at node t Calloc (Integer a ∷ Integer b ∷ v ∷ vs) s e h = absurd h.1.1
allocation_right w at node t Calloc (Integer a ∷ Address p ∷ vs) s e h = absurd h.1.0
allocation_right w at node t Calloc (Address p ∷ vs) s e h = absurd h.0
allocation_right w at node t Free arguments s e h = absurd (cc (e))
allocation_right w at node t Getchar arguments s e h = absurd (cc (e))
allocation_right w at node t Putchar arguments s e h = absurd (cc (e))
allocation_right w at node t Exit arguments s e h = absurd (cc (e))
