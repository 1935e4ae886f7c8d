-- What a call does to the bytes that a source has left or that a sink holds. Where they are not told, nothing is said.
use Rattle.std.specs.Prelude.{◌≡◌, ℕ, List, [], ◌++◌, Option, Some, None, ⊤}

-- these bytes were taken from the front of what was left
abbrev pub Takes : Option (List ℕ) → Option (List ℕ) → List ℕ → Type 0
Takes None now bytes = ⊤
Takes (Some before) now bytes = (rest : List ℕ) × (before ≡ bytes ++ rest) × (now ≡ Some rest)

-- the bytes are what they were
abbrev pub Keeps : Option (List ℕ) → Option (List ℕ) → Type 0
Keeps None now = ⊤
Keeps (Some before) now = now ≡ Some before

-- nothing is left
abbrev pub IsSpent : Option (List ℕ) → Type 0
IsSpent None = ⊤
IsSpent (Some left) = left ≡ []

-- these bytes were appended
abbrev pub Gains : Option (List ℕ) → Option (List ℕ) → List ℕ → Type 0
Gains None now bytes = ⊤
Gains (Some before) now bytes = now ≡ Some (before ++ bytes)

-- a front of these bytes was appended: none of them, some or all
abbrev pub GainsFront : Option (List ℕ) → Option (List ℕ) → List ℕ → Type 0
GainsFront None now bytes = ⊤
GainsFront (Some before) now bytes = (front back : List ℕ) × (bytes ≡ front ++ back) × (now ≡ Some (before ++ front))
