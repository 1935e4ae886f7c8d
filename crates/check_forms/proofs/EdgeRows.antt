-- Conditions on states just inside and just outside.
use Rattle.std.proofs.Common.{◌≡◌, ℕ, ◌+◌, ◌-◌, ◌*◌, ◌^◌, Bool, true, false, List, [], ◌∷◌, map, slice_index, refl}
use Rattle.flat_mem.specs.Bytes.{number}
use Rattle.flat_mem.specs.Memory.{Memory}
use Rattle.cured_code.specs.declared.parts.Parts.{Parts}
use Rattle.check_forms.specs.Conditions.{PointerSlots, Fixed, Elements, Direction, Forward, Backward, IsInPart, IsByteInPart, IsWithinPart, IsInArea, IsByteInArea, IsWithinArea, IsArea, IsNear, IsAligned, IsNoDeeper, IsNotOwn, IsMadeFor, AreElementsApart, IsNoOverflow, Unless, UnlessNull, AreOfPartOr, Both, flat_holds}

-- a pointer in slots 0 to 2, another in slots 3 to 5; numbers in slots 6 to 8
abbrev p : PointerSlots
p = record { first = 0; second = 1; third = 2 }

abbrev q : PointerSlots
q = record { first = 3; second = 4; third = 5 }

abbrev fixed : ℕ → ℕ → Fixed
fixed a n = record { slot = a; value = n }

-- SEQ: so many bytes at a distance of 1000 - 1, 1000, .. from address 0, in a part that begins at 1000
abbrev at_part : ℕ → ℕ → List ℕ
at_part a length = a ∷ 1000 ∷ (1000 + length) ∷ []

in_part-rows : (parts : Parts) (m : Memory) →
    -- four bytes in a part of none, three, four and eight
    (map (λ a. flat_holds parts m (IsInPart p (fixed 6 4)) (slice_index (at_part a 0))) (996 ∷ 999 ∷ 1000 ∷ 1001 ∷ []) ≡ false ∷ false ∷ false ∷
    false ∷ [])
    × (map (λ a. flat_holds parts m (IsInPart p (fixed 6 4)) (slice_index (at_part a 3))) (999 ∷ 1000 ∷ 1003 ∷ []) ≡ false ∷ false ∷ false ∷ [])
    × (map (λ a. flat_holds parts m (IsInPart p (fixed 6 4)) (slice_index (at_part a 4))) (999 ∷ 1000 ∷ 1001 ∷ []) ≡ false ∷ true ∷ false ∷ [])
    × (map (λ a. flat_holds parts m (IsInPart p (fixed 6 4)) (slice_index (at_part a 8))) (999 ∷ 1000 ∷ 1004 ∷ 1005 ∷ []) ≡ false ∷ true ∷ true ∷
    false ∷ [])
    -- eight bytes
    × (map (λ a. flat_holds parts m (IsInPart p (fixed 6 8)) (slice_index (at_part a 8))) (999 ∷ 1000 ∷ 1001 ∷ []) ≡ false ∷ true ∷ false ∷ [])
    -- no bytes: the end is inside
    × (map (λ a. flat_holds parts m (IsInPart p (fixed 6 0)) (slice_index (at_part a 3))) (999 ∷ 1000 ∷ 1003 ∷ 1004 ∷ []) ≡ false ∷ true ∷ true ∷
    false ∷ [])
    -- one byte
    × (map (λ a. flat_holds parts m (IsByteInPart p) (slice_index (at_part a 0))) (999 ∷ 1000 ∷ []) ≡ false ∷ false ∷ [])
    × (map (λ a. flat_holds parts m (IsByteInPart p) (slice_index (at_part a 3))) (999 ∷ 1000 ∷ 1002 ∷ 1003 ∷ []) ≡ false ∷ true ∷ true ∷ false ∷
    [])
    -- null, and an integer made a pointer
    × (flat_holds parts m (IsInPart p (fixed 6 4)) (slice_index (0 ∷ 0 ∷ 0 ∷ [])) ≡ false)
    × (flat_holds parts m (IsInPart p (fixed 6 4)) (slice_index (5 ∷ 0 ∷ 0 ∷ [])) ≡ false)
    × (flat_holds parts m (IsByteInPart p) (slice_index (0 ∷ 0 ∷ 0 ∷ [])) ≡ false)
    -- a conversion asks nothing of null
    × (flat_holds parts m (UnlessNull p (IsInPart p (fixed 6 4))) (slice_index (0 ∷ 0 ∷ 0 ∷ [])) ≡ true)
    × (flat_holds parts m (UnlessNull p (IsInPart p (fixed 6 4))) (slice_index (5 ∷ 0 ∷ 0 ∷ [])) ≡ false)
in_part-rows parts m = (refl, refl, refl, refl, refl, refl, refl, refl, refl, refl, refl, refl, refl)

-- WILD: the same in an area at 8, whose length is the word before it
abbrev in_area : Memory → ℕ → Memory
in_area m length = record m { bytes = length ∷ 0 ∷ 0 ∷ 0 ∷ 0 ∷ 0 ∷ 0 ∷ 0 ∷ [] }

in_area-rows : (parts : Parts) (m : Memory) →
    (map (λ a. flat_holds parts (in_area m 0) (IsInArea p (fixed 6 4)) (slice_index (a ∷ 8 ∷ []))) (7 ∷ 8 ∷ 9 ∷ []) ≡ false ∷ false ∷ false ∷ [])
    × (map (λ a. flat_holds parts (in_area m 3) (IsInArea p (fixed 6 4)) (slice_index (a ∷ 8 ∷ []))) (4 ∷ 7 ∷ 8 ∷ []) ≡ false ∷ false ∷ false ∷ [])
    × (map (λ a. flat_holds parts (in_area m 4) (IsInArea p (fixed 6 4)) (slice_index (a ∷ 8 ∷ []))) (7 ∷ 8 ∷ 9 ∷ []) ≡ false ∷ true ∷ false ∷ [])
    × (map (λ a. flat_holds parts (in_area m 8) (IsInArea p (fixed 6 4)) (slice_index (a ∷ 8 ∷ []))) (7 ∷ 8 ∷ 12 ∷ 13 ∷ []) ≡ false ∷ true ∷ true ∷
    false ∷ [])
    × (map (λ a. flat_holds parts (in_area m 8) (IsInArea p (fixed 6 8)) (slice_index (a ∷ 8 ∷ []))) (7 ∷ 8 ∷ 9 ∷ []) ≡ false ∷ true ∷ false ∷ [])
    × (map (λ a. flat_holds parts (in_area m 3) (IsByteInArea p) (slice_index (a ∷ 8 ∷ []))) (7 ∷ 8 ∷ 10 ∷ 11 ∷ []) ≡ false ∷ true ∷ true ∷ false ∷
    [])
    × (map (λ a. flat_holds parts (in_area m 3) (IsWithinArea p) (slice_index (a ∷ 8 ∷ []))) (7 ∷ 8 ∷ 11 ∷ 12 ∷ []) ≡ false ∷ true ∷ true ∷ false ∷
    [])
unfolding number
in_area-rows parts m = (refl, refl, refl, refl, refl, refl, refl)

-- RANGE: n elements from the start of a part at 2^40, for elements of one, four and 24 bytes; the words of -2^31 - 1, -2^31, 2^31 and
-- 2^31 + 1
abbrev moves : List ℕ
moves = (2 ^ 64 - 2 ^ 31 - 1) ∷ (2 ^ 64 - 2 ^ 31) ∷ (2 ^ 31) ∷ (2 ^ 31 + 1) ∷ []

abbrev moved_by : Parts → Memory → Direction → ℕ → ℕ → ℕ → Bool
moved_by parts m direction size past n =
    flat_holds parts m (IsNear p direction (Elements 3 (fixed 6 size)) (fixed 7 (2 ^ 31 * size)) (fixed 8 (2 ^ 32 * size + size)))
    (slice_index ((2 ^ 40 + past) ∷ (2 ^ 40) ∷ (2 ^ 40 + 24) ∷ n ∷ []))

range-rows : (parts : Parts) (m : Memory) →
    (map (moved_by parts m Forward 1 0) moves ≡ false ∷ true ∷ true ∷ false ∷ [])
    × (map (moved_by parts m Forward 4 0) moves ≡ false ∷ true ∷ true ∷ false ∷ [])
    × (map (moved_by parts m Forward 24 0) moves ≡ false ∷ true ∷ true ∷ false ∷ [])
    -- from inside an element, the floor counts
    × (map (moved_by parts m Forward 4 3) moves ≡ false ∷ true ∷ true ∷ false ∷ [])
    × (map (moved_by parts m Forward 4 4) moves ≡ true ∷ true ∷ false ∷ false ∷ [])
    -- backward
    × (map (moved_by parts m Backward 4 0) moves ≡ false ∷ true ∷ true ∷ false ∷ [])
range-rows parts m = (refl, refl, refl, refl, refl, refl)

-- ALIGN
aligned-rows : (parts : Parts) (m : Memory) → map (λ a. flat_holds parts m (IsAligned 0 6) (slice_index (a ∷ [])))
    (15 ∷ 16 ∷ 17 ∷ 20 ∷ 24 ∷ []) ≡ false ∷ true ∷ false ∷ false ∷ true ∷ []
aligned-rows parts m = refl

-- BASE of WILD: addresses of eight functions end at 64
base-rows : (parts : Parts) (m : Memory) → map (λ a. flat_holds parts m (IsArea 0 (fixed 6 64)) (slice_index (a ∷ [])))
    (0 ∷ 8 ∷ 64 ∷ 72 ∷ []) ≡ false ∷ false ∷ false ∷ true ∷ []
base-rows parts m = refl

-- ESCAPE: two frames, of which the newer has an area at 2008; addresses below 1000 lie in none
abbrev with_frames : Memory → Memory
with_frames m = record m {
  frames = record {
    start =
        2000;
    end = 2100;
    charge = 0;
    addresses = 2008 ∷ [];
  } ∷ record { start = 1000; end = 2000; charge = 0; addresses = 1008 ∷ [] } ∷ [];
}

escape-rows : (parts : Parts) (m : Memory) →
    -- an object of the newer frame into a static, the older frame and its own; of the older into the newer; null anywhere
    (map (λ t. flat_holds parts (with_frames m) (IsNoDeeper 0 1) (slice_index (2008 ∷ t ∷ []))) (500 ∷ 1008 ∷ 2016 ∷ []) ≡ false ∷ false ∷ true ∷
    [])
    × (map (λ t. flat_holds parts (with_frames m) (IsNoDeeper 0 1) (slice_index (1008 ∷ t ∷ []))) (500 ∷ 1016 ∷ 2008 ∷ []) ≡ false ∷ true ∷ true ∷
    [])
    × (flat_holds parts (with_frames m) (IsNoDeeper 0 1) (slice_index (0 ∷ 500 ∷ [])) ≡ true)
    -- what a call returns
    × (map (λ h. flat_holds parts (with_frames m) (IsNotOwn 0) (slice_index (h ∷ []))) (0 ∷ 500 ∷ 1008 ∷ 2008 ∷ []) ≡ true ∷ true ∷ true ∷ false ∷
    [])
escape-rows parts m = (refl, refl, refl, refl)

-- SAME: the second pointer is at the end of its part, and then one past it
abbrev same : Parts → Memory → List ℕ → Bool
same parts m = λ e. flat_holds parts m (AreOfPartOr p q (Both (Unless 1 (IsWithinPart p)) (Unless 4 (IsWithinPart q)))) (slice_index e)

same-rows : (parts : Parts) (m : Memory) →
    (same parts m (1000 ∷ 1000 ∷ 1008 ∷ 2008 ∷ 2000 ∷ 2008 ∷ []) ≡ true)
    × (same parts m (1000 ∷ 1000 ∷ 1008 ∷ 2009 ∷ 2000 ∷ 2008 ∷ []) ≡ false)
    × (same parts m (999 ∷ 1000 ∷ 1008 ∷ 2000 ∷ 2000 ∷ 2008 ∷ []) ≡ false)
    -- of one part, anywhere
    × (same parts m (999 ∷ 1000 ∷ 1008 ∷ 5000 ∷ 1000 ∷ 1008 ∷ []) ≡ true)
    -- null, and an integer made a pointer
    × (same parts m (1000 ∷ 1000 ∷ 1008 ∷ 0 ∷ 0 ∷ 0 ∷ []) ≡ true)
    × (same parts m (1000 ∷ 1000 ∷ 1008 ∷ 7 ∷ 0 ∷ 0 ∷ []) ≡ true)
    -- a difference of ints: eight bytes apart either way, then seven
    × (map (λ b. flat_holds parts m (AreElementsApart p q (fixed 6 4)) (slice_index (1008 ∷ 1000 ∷ 1016 ∷ b ∷ 1000 ∷ 1016 ∷ [])))
    (1000 ∷ 1016 ∷ 1001 ∷ 1015 ∷ []) ≡ true ∷ true ∷ false ∷ false ∷ [])
same-rows parts m = (refl, refl, refl, refl, refl, refl, refl)

-- DIVIDE: the least int, and the one above it, by -1 and by 1
divide-rows : (parts : Parts) (m : Memory) →
    (flat_holds parts m (IsNoOverflow 0 1 (fixed 6 (2 ^ 64 - 2 ^ 31)) (fixed 7 (2 ^ 64 - 1)))
    (slice_index ((2 ^ 64 - 2 ^ 31) ∷ (2 ^ 64 - 1) ∷ [])) ≡ false)
    × (flat_holds parts m (IsNoOverflow 0 1 (fixed 6 (2 ^ 64 - 2 ^ 31)) (fixed 7 (2 ^ 64 - 1))) (slice_index ((2 ^ 64 - 2 ^ 31) ∷ 1 ∷ [])) ≡ true)
    × (flat_holds parts m (IsNoOverflow 0 1 (fixed 6 (2 ^ 64 - 2 ^ 31)) (fixed 7 (2 ^ 64 - 1)))
    (slice_index ((2 ^ 64 - 2 ^ 31 + 1) ∷ (2 ^ 64 - 1) ∷ [])) ≡ true)
divide-rows parts m = (refl, refl, refl)

-- CAST to node 2, where 3 lies below 2, and 2 and 4 below 1: made for each of the four, and null
cast-rows : (parts : Parts) (m : Memory) →
    (map (λ made. flat_holds (record parts { nodes = 0 ∷ 1 ∷ 2 ∷ 1 ∷ [] }) m (Unless 0 (IsMadeFor 1 2)) (slice_index (100 ∷ made ∷ [])))
    (1 ∷ 2 ∷ 3 ∷ 4 ∷ []) ≡ false ∷ true ∷ true ∷ false ∷ [])
    × (flat_holds parts m (Unless 0 (IsMadeFor 1 2)) (slice_index (0 ∷ 0 ∷ [])) ≡ true)
cast-rows parts m = (refl, refl)
