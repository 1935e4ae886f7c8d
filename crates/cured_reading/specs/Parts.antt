-- Parts of a text: its lines, and the words of a line.
use Rattle.std.specs.Prelude.{ℕ, suc, ◌≡◌, ◌≢◌, ◌<◌, ◌+◌, List, [], ◌∷◌, length, take, drop, min, nat_eq, cond}
use Rattle.std.specs.List.{AllByRecursion}

-- how many bytes stand before the first that equals b; all of them where none does
abbrev pub size_before : ℕ → List ℕ → ℕ
size_before b [] = 0
size_before b (byte ∷ bytes) = cond (nat_eq byte b) 0 (suc (size_before b bytes))

-- these bytes
abbrev pub before : ℕ → List ℕ → List ℕ
before b bytes = take (size_before b bytes) bytes

-- a byte that equals b stands in the list
abbrev pub Holds : ℕ → List ℕ → Type 0
Holds b bytes = size_before b bytes < length bytes

-- the line of a text from a place on, without its line feed, and the place after that
pub record IsLineAt (text : List ℕ) (from : ℕ) (part : List ℕ) (after : ℕ) : Type 0 where
  pub ended : Holds 10 (drop from text)
  pub bytes : part ≡ before 10 (drop from text)
  pub place : after ≡ from + size_before 10 (drop from text) + 1

-- the longest part of a line from a place on without a space, which isn't empty, and the place after it and one space
pub record IsWordAt (line : List ℕ) (from : ℕ) (part : List ℕ) (after : ℕ) : Type 0 where
  pub some : 0 < size_before 32 (drop from line)
  pub bytes : part ≡ before 32 (drop from line)
  pub place : after ≡ min (from + size_before 32 (drop from line) + 1) (length line)

-- What of a text is left: the lines that come, and how many lines stand before them.
pub record Left : Type 0 where
  pub text : List ℕ
  pub number : ℕ

-- no byte of the list equals b
abbrev pub IsWithout : ℕ → List ℕ → Type 0
IsWithout b bytes = AllByRecursion (λ byte. byte ≢ b) bytes

-- a word that comes before these bytes ends there
abbrev pub EndsWord : List ℕ → Type 0
EndsWord [] = Unit {0}
EndsWord (byte ∷ bytes) = byte ≡ 32

-- a word, and what comes after it
pub record IsWordBefore (word bytes : List ℕ) : Type 0 where
  pub some : 0 < length word
  pub whole : IsWithout 32 word
  pub ends : EndsWord bytes
