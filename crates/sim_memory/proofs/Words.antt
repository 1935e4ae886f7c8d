-- Words in lists, by either form of what they are.
use Rattle.std.proofs.Common.{ℕ, zero, suc, ◌+◌, ◌<◌, ◌^◌, List, [], ◌∷◌, subst, arith}
use Rattle.std.specs.List.{Contains}
use Rattle.c_types.proofs.Lists.{contains_head, contains_tail}
use Rattle.flat_mem.specs.Bytes.{number, AreBytes}
use Rattle.flat_mem.proofs.ByteLaws.{number-below}
use Rattle.cured_code.specs.FlatState.{words_at}
use Rattle.cured_code.proofs.SlotLaws as slots
use Rattle.sim_relation.specs.Points.{AreWords}

words-more : (n : ℕ) (ns : List ℕ) → n < 2 ^ 64 → AreWords ns → AreWords (n ∷ ns)
words-more n ns less h = record { below = below }
  where
    below : (m : ℕ) → Contains (n ∷ ns) m → m < 2 ^ 64
    below m (zero, l, e) = subst (λ (k : ℕ). k < 2 ^ 64) e less
    below m (suc k, l, e) = h.below m (k, omega (arith, l), e)

words-none : AreWords []
words-none = record { below = λ m h. absurd (let l = h.1 in omega (arith, l)) }

-- words that stand in bytes
pub words-below : (k : ℕ) (bytes : List ℕ) (a : ℕ) → AreBytes bytes → AreWords (words_at k bytes a)
words-below zero bytes a are = words-none
words-below (suc k) bytes a are =
    words-more (number 8 bytes a) (words_at k bytes (a + 8)) (let h = number-below 8 bytes a are in omega (arith, h)) (words-below k bytes (a + 8) are)

-- one by one
pub words-each : (words : List ℕ) → AreWords words → slots.AreWords words
words-each [] h = tt
words-each (n ∷ ns) h = (h.below n (contains_head n ns), words-each ns (record { below = λ m c. h.below m (contains_tail n ns m c) }))
