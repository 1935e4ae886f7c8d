-- Stars, one after another.
use Rattle.std.proofs.Common.{◌≡◌, ◌≢◌, refl, ap, sym, ◌∙◌, ℕ, zero, suc, ◌+◌, ◌<◌, ◌≤◌, List, [], ◌∷◌, ◌++◌, drop, get_or, length, append_assoc, add-one, arith}
use Rattle.std.proofs.lemmas.List.{append-nil}
use Rattle.cc_base.specs.declared.fault.Fault.{Fault}
use Rattle.cc_base.specs.declared.fault.Fault.TheVariants.{NoMemory}
use Rattle.cc_base.specs.declared.number.NodeId.{NodeId}
use Rattle.cc_base.specs.declared.place.Place.{Place}
use Rattle.c_tree.specs.declared.leaf.Star.{Star}
use Rattle.c_tree.specs.declared.typed_word.TypedStar.{TypedStar}
use Rattle.c_typing.specs.Declaring.{stars_with_nodes}
use Rattle.c_typing.specs.Judging.{State, Outcome, Judging, Gives, Stops, next, pure, new_node}

-- what is given, behind those that are found
abbrev pub behind : List TypedStar → List TypedStar → Judging (List TypedStar)
behind found rest = pure (found ++ rest)

next_star : (xs : List Star) (i : ℕ) (x : Star) → i < length xs → x ≡ get_or xs i x → drop i xs ≡ x ∷ drop (suc i) xs
next_star [] i x within at = absurd (omega arith)
next_star (y ∷ ys) zero x within at = ap (λ z. z ∷ ys) (sym at)
next_star (y ∷ ys) (suc i) x within at = next_star ys i x (omega arith) at

none_left : (xs : List Star) (i : ℕ) → length xs ≤ i → drop i xs ≡ []
none_left [] zero past = refl
none_left [] (suc i) past = refl
none_left (y ∷ ys) zero past = absurd (omega arith)
none_left (y ∷ ys) (suc i) past = none_left ys i (omega arith)

regroup : (found : List TypedStar) (one : TypedStar) (o : Outcome (List TypedStar))
    → next (next o (λ all. pure (one ∷ all))) (behind found) ≡ next o (behind (found ++ one ∷ []))
regroup found one (Gives all s) = ap (λ l. Gives l s) (sym (append_assoc found (one ∷ []) all))
regroup found one (Stops fault s) = refl

first_given : (at : Place) (star : Star) (stars : List Star) (found : List TypedStar) (n : NodeId) (s t : State) → new_node at s ≡ Gives n t
    → next (stars_with_nodes at (star ∷ stars) s) (behind found) ≡ next (stars_with_nodes at stars t) (behind (found ++ record { star = star; node = n } ∷ []))
unfolding stars_with_nodes
first_given at star stars found n s t given = rw given (regroup found (record { star = star; node = n }) (stars_with_nodes at stars t))

first_stopped : (at : Place) (star : Star) (stars : List Star) (found : List TypedStar) (fault : Fault) (s t : State) → new_node at s ≡ Stops fault t
    → next (stars_with_nodes at (star ∷ stars) s) (behind found) ≡ Stops fault t
unfolding stars_with_nodes
first_stopped at star stars found fault s t stopped = rw stopped refl

pub star_given : (at : Place) (xs : List Star) (i : ℕ) (x : Star) → i < length xs → x ≡ get_or xs i x → (found : List TypedStar) (n : NodeId) (s t : State)
    → new_node at s ≡ Gives n t
    → next (stars_with_nodes at (drop i xs) s) (behind found) ≡ next (stars_with_nodes at (drop (i + 1) xs) t) (behind (found ++ record { star = x; node = n } ∷ []))
star_given at xs i x within here found n s t given =
    ap (λ z. next (stars_with_nodes at z s) (behind found)) (next_star xs i x within here)
    ∙ rw (add-one) (first_given at x (drop (suc i) xs) found n s t given)

pub star_fails : (at : Place) (xs : List Star) (i : ℕ) (x : Star) → i < length xs → x ≡ get_or xs i x → (found : List TypedStar) (fault : Fault) (s t : State)
    → (whole : Outcome (List TypedStar)) → whole ≡ next (stars_with_nodes at (drop i xs) s) (behind found)
    → (fault ≢ NoMemory → new_node at s ≡ Stops fault t) → fault ≢ NoMemory → whole ≡ Stops fault t
star_fails at xs i x within here found fault s t whole so_far stopped real =
    so_far ∙ ap (λ z. next (stars_with_nodes at z s) (behind found)) (next_star xs i x within here)
    ∙ first_stopped at x (drop (suc i) xs) found fault s t (stopped real)

pub no_star_left : (at : Place) (xs : List Star) (i : ℕ) → length xs ≤ i → (found : List TypedStar) (s : State)
    → next (stars_with_nodes at (drop i xs) s) (behind found) ≡ Gives found s
unfolding stars_with_nodes
no_star_left at xs i past found s = rw (none_left xs i past) (ap (λ l. Gives l s) (append-nil found))
