-- Laws on ranges that lie in the byte list.
use Rattle.std.specs.Prelude.{◌≡◌, ℕ, ◌+◌, ◌<◌, ◌≤◌, ◌||◌, IsTrue, List, length, nat_eq, nat_le}
use Rattle.std.proofs.Common.{arith, subst}
use Rattle.std.proofs.lemmas.Bool.Decides.{nat_tests}
use Rattle.flat_mem.specs.Memory.{in_flat}

room_of : (n most : ℕ) (at : ℕ) → 0 < n → IsTrue (nat_eq n 0 || nat_le (at + n) most) → at + n ≤ most
room_of n most at some h = grind (arith, nat_tests)

test_of : (n most : ℕ) (at : ℕ) → at + n ≤ most → IsTrue (nat_eq n 0 || nat_le (at + n) most)
test_of n most at h = grind (arith, nat_tests)

pub room_of-in_flat : (bytes : List ℕ) (at n : ℕ) → 0 < n → IsTrue (in_flat bytes at n) → at + n ≤ length bytes
room_of-in_flat bytes at n some h = room_of n (length bytes) at some h

pub in_flat-from_room : (bytes : List ℕ) (at n : ℕ) → at + n ≤ length bytes → IsTrue (in_flat bytes at n)
in_flat-from_room bytes at n h = test_of n (length bytes) at h

-- which ranges lie in the list depends on its length alone
pub in_flat-same : (bytes others : List ℕ) (at n : ℕ) → length bytes ≡ length others → IsTrue (in_flat bytes at n) → IsTrue (in_flat others at n)
in_flat-same bytes others at n same h = subst (λ k. IsTrue (nat_eq n 0 || nat_le (at + n) k)) same h
