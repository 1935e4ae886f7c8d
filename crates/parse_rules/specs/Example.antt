-- A small grammar as an example: sums of digits with parentheses, of which an empty pair isn't supported.
use Rattle.std.specs.Prelude.{◌≡◌, ℕ, zero, suc, max, Bool, true, false, Option, Some, List, [], ◌∷◌, ◌++◌}
use Rattle.parse_rules.specs.Parsers.{Parser, pure, refuse, skip, expect, by_first, take_above, too_deep, unsupported, loop, ◌>>=◌, ◌>>◌}
use Rattle.parse_rules.specs.Grammars.{Language, IsExtended}

-- The grammar: only what writes.

pub data Token : Type 0 where
  Number : ℕ → Token
  Plus Open Close : Token

-- an empty pair of parentheses isn't supported: it is in the extended language alone
pub data Sum : Type 0 where
  Digit : ℕ → Sum
  Paren : Sum → Sum
  Add : Sum → Sum → Sum
  Empty : Sum

abbrev pub spell : Sum → List Token
spell (Digit n) = Number n ∷ []
spell (Paren e) = Open ∷ (spell e ++ Close ∷ [])
spell (Add a b) = spell a ++ Plus ∷ spell b
spell Empty = Open ∷ Close ∷ []

abbrev pub height : Sum → ℕ
height (Digit n) = 1
height (Paren e) = suc (height e)
height (Add a b) = suc (max (height a) (height b))
height Empty = 1

pub data Level : Type 0 where
  Sums Operands : Level

-- a sum is no operand
abbrev pub Fits : Level → Sum → Type 0
Fits Operands (Add a b) = ⊥
Fits level e = Unit {0}

abbrev pub Within : Language → Sum → Type 0
Within g (Digit n) = Unit {0}
Within g (Paren e) = Within g e
Within g (Add a b) = Within g a × Within g b × Fits Operands b
Within g Empty = IsExtended g

pub record In (level : Level) (g : Language) (e : Sum) (s : List Token) : Type 0 where
  pub within : Within g e
  pub fits : Fits level e
  pub spelled : s ≡ spell e

-- The rules.

pub data Kind : Type 0 where
  ANumber : ℕ → Kind
  AnOpen Other : Kind

abbrev pub kind : Option Token → Kind
kind (Some (Number n)) = ANumber n
kind (Some Open) = AnOpen
kind _ = Other

abbrev pub is_plus : Option Token → Bool
is_plus (Some Plus) = true
is_plus _ = false

abbrev pub is_close : Option Token → Bool
is_close (Some Close) = true
is_close _ = false

abbrev pub begins : Option Token → Bool
begins (Some (Number n)) = true
begins (Some Open) = true
begins _ = false

unfoldable pub leaf : (Level → Parser Token Sum) → Kind → Parser Token Sum
leaf inner (ANumber n) = do
  skip
  pure (Digit n)
leaf inner AnOpen = do
  skip
  unsupported is_close do
    e ← inner Sums
    expect is_close
    pure (Paren e)
leaf inner Other = refuse

unfoldable pub operand : (Level → Parser Token Sum) → Parser Token Sum
operand inner = by_first kind (leaf inner)

unfoldable pub more : ℕ → (Level → Parser Token Sum) → Sum → Parser Token Sum
more d inner left = do
  take_above d (height left)
  right ← inner Operands
  pure (Add left right)

unfoldable pub layer : ℕ → (Level → Parser Token Sum) → Level → Parser Token Sum
layer d inner Operands = operand inner
layer d inner Sums = do
  e ← operand inner
  loop (λ _. is_plus) (more d inner) e

-- each layer is a node
unfoldable pub sum : ℕ → Level → Parser Token Sum
sum zero level = too_deep begins
sum (suc d) level = layer d (sum d) level

-- each token stands in some text
abbrev pub Valid : Token → Type 0
Valid t = Unit {0}
