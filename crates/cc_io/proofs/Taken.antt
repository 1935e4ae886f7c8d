-- What a read of a list that is held from a place on takes.
use Rattle.std.proofs.Common.{◌≡◌, ℕ, ◌+◌, List, ◌++◌, length, take, drop, sym, ◌∙◌}
use Rattle.std.proofs.lemmas.List.{take-append-drop, take_at, drop-drop}

-- the bytes copied to the front of `into` are those that leave the list
pub front_taken : (count taken : ℕ) (bytes copied into : List ℕ) → copied ≡ take count (drop taken bytes) → length copied ≡ count
    → drop taken bytes ≡ take count (copied ++ drop count into) ++ drop (taken + count) bytes
front_taken count taken bytes copied into same len =
    let front : take count (copied ++ drop count into) ≡ take count (drop taken bytes) = take_at copied (drop count into) count len ∙ same in
    rw (front, ← drop-drop count taken bytes) (sym (take-append-drop count (drop taken bytes)))
