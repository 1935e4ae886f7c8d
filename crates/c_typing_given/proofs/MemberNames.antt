-- Names of members: each is new among those before it, and the lists of names that the scopes hold.
use Rattle.std.proofs.Common.{◌≡◌, ◌<◌, ℕ, zero, suc, Bool, true, false, List, [], ◌∷◌, ◌++◌, length, refl, sym, arith}
use Rattle.std.specs.Prelude.{bytes_eq, slice_set}
use Rattle.std.specs.List.{All, list_any}
use Rattle.std.proofs.lemmas.List.Elements.{All-nil, All-cons, All-head, All-tail}
use Rattle.std.proofs.lemmas.Slice.Eq.{bytes_eq-Decides}
use Rattle.c_typing.specs.Scopes.{Name, members_named}
use Rattle.c_typing.specs.Typing.{AreDistinct}
use Rattle.c_typing_exact.proofs.Unbroken.{or_off}
use Rattle.c_typing_given.proofs.Settling.{naming}
use Rattle.c_types.specs.Table.{is_empty}

all_prefix : (P : Name → Type 0) (xs ys : List Name) → All P (xs ++ ys) → All P xs
all_prefix P [] ys h = All-nil P
all_prefix P (x ∷ xs) ys h = All-cons P x xs (All-head P x (xs ++ ys) h) (all_prefix P xs ys (All-tail P x (xs ++ ys) h))

pub distinct-prefix : (xs ys : List Name) → AreDistinct (xs ++ ys) → AreDistinct xs
distinct-prefix [] ys h = tt
distinct-prefix (x ∷ xs) ys h = (all_prefix (λ (o : Name). x ≡ o → ⊥) xs ys h.0, distinct-prefix xs ys h.1)

all_last : (P : Name → Type 0) (xs : List Name) (n : Name) → All P (xs ++ n ∷ []) → P n
all_last P [] n h = All-head P n [] h
all_last P (x ∷ xs) n h = all_last P xs n (All-tail P x (xs ++ n ∷ []) h)

other_bytes : (x n : Name) → (x ≡ n → ⊥) → (b : Bool) → bytes_eq n x ≡ b → b ≡ false
other_bytes x n h false q = refl
other_bytes x n h true q = absurd (h (sym ((bytes_eq-Decides n x).0 q)))

-- the last of distinct names is none of those before it
pub last-new : (xs : List Name) (n : Name) → AreDistinct (xs ++ n ∷ []) → list_any (λ (each : Name). bytes_eq n each) xs ≡ false
last-new [] n h = refl
last-new (x ∷ xs) n h =
    or_off (bytes_eq n x) (list_any (λ (each : Name). bytes_eq n each) xs)
    (other_bytes x n (all_last (λ (o : Name). x ≡ o → ⊥) xs n h.0) (bytes_eq n x) refl) (last-new xs n h.1)

-- where names of members are set, there are some
pub set-here : (all : List (List Name)) (k : ℕ) (names : List Name) → k < length all → is_empty names ≡ false
    → is_empty (members_named (naming (slice_set all k names)) k) ≡ false
set-here [] k names l h = absurd (omega (arith, l))
set-here (m ∷ all) zero names l h = h
set-here (m ∷ all) (suc k) names l h = set-here all k names (omega (arith, l)) h

-- and where there were some, there are
pub set-still : (all : List (List Name)) (n k : ℕ) (names : List Name) → is_empty names ≡ false → is_empty (members_named (naming all) n) ≡ false
    → is_empty (members_named (naming (slice_set all k names)) n) ≡ false
set-still [] n k names h p = p
set-still (m ∷ all) zero zero names h p = h
set-still (m ∷ all) zero (suc k) names h p = p
set-still (m ∷ all) (suc n) zero names h p = p
set-still (m ∷ all) (suc n) (suc k) names h p = set-still all n k names h p
