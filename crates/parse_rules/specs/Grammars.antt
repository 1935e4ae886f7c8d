-- Grammars as memberships: which parts are in a grammar, and which tokens each of them spells. Nothing here reads.
use Rattle.std.specs.Prelude.{◌≡◌, List, [], ◌∷◌, ◌++◌, Option, Some}

-- Each grammar is of two languages: the one that is supported, and the one that also has the constructs that are refused
-- as unsupported. A membership `In g a s` says that the part a is in the language g, and that s are the tokens that it
-- spells.
pub data Language : Type 0 where
  Supported Extended : Language

abbrev pub IsExtended : Language → Type 0
IsExtended Supported = ⊥
IsExtended Extended = Unit {0}

-- P holds of each element
abbrev pub Each : {X : Type 0} → (X → Type 0) → List X → Type 0
Each P [] = Unit {0}
Each P (x ∷ xs) = P x × Each P xs

-- the tokens can be gone on with, by valid ones, until they spell a part
pub record CanBegin {T A : Type 0} (Valid : T → Type 0) (Spells : A → List T → Type 0) (tokens : List T) : Type 0 where
  pub part : A
  pub more : List T
  pub valid : Each Valid more
  pub spells : Spells part (tokens ++ more)

-- the part spells the tokens, and is in both languages
abbrev pub InBoth : {T A : Type 0} → (Language → A → List T → Type 0) → A → List T → Type 0
InBoth In a s = (g : Language) → In g a s

-- one token, of which P holds, spells itself
pub record IsToken {T : Type 0} (P : Option T → Type 0) (t : T) (s : List T) : Type 0 where
  pub spelled : s ≡ t ∷ []
  pub passes : P (Some t)

-- nothing is claimed
abbrev pub Any : {A B : Type 0} → A → B → Type 0
Any a b = Unit {0}
