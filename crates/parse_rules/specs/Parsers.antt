-- Parsers as functions on the list of tokens that are left, and the ways to build one from others.
-- A rule of a grammar is written with these in a `do` block, and reads like the line of the grammar that it is for.
use Rattle.std.specs.Prelude.{ℕ, zero, suc, Bool, nat_lt, if◌then◌else◌, Option, Some, None, List, [], ◌∷◌, length}

infixr 20 ◌>>=◌
infixr 20 ◌>>◌
-- why a parser stops: the next token can't go on with any part, it begins a construct that isn't supported, or each
-- part that goes on with it lies deeper than is allowed
pub data Reason : Type 0 where
  Syntax Unsupported Deep : Reason

-- what a parser answers: the part that it has read, or why it has stopped; either way with the tokens that are left,
-- which for a stop begin with the token at which it stopped
pub data Answer (T A : Type 0) : Type 0 where
  Read : A → List T → Answer T A
  Stopped : Reason → List T → Answer T A

-- a parser answers for each list of tokens
abbrev pub Parser : Type 0 → Type 0 → Type 0
Parser T A = List T → Answer T A

-- the next token, if there is one
abbrev pub first : {T : Type 0} → List T → Option T
first [] = None
first (t ∷ ts) = Some t

-- how an answer goes on: a stop stays, else the next parser reads what is left
abbrev pub next : {T A B : Type 0} → Answer T A → (A → Parser T B) → Answer T B
next (Read a rest) f = f a rest
next (Stopped why rest) f = Stopped why rest

-- one parser after another, the second with the part that the first has read
abbrev pub ◌>>=◌ : {T A B : Type 0} → Parser T A → (A → Parser T B) → Parser T B
◌>>=◌ p f = λ ts. next (p ts) f

-- one parser after another
abbrev pub ◌>>◌ : {T A B : Type 0} → Parser T A → Parser T B → Parser T B
◌>>◌ p q = λ ts. next (p ts) (λ _. q)

-- reads nothing and gives this
abbrev pub pure : {T A : Type 0} → A → Parser T A
pure a = λ ts. Read a ts

-- refuses the next token, or the end where there is none
abbrev pub refuse : {T A : Type 0} → Parser T A
refuse = λ ts. Stopped Syntax ts

-- takes the next token
abbrev pub skip : {T : Type 0} → Parser T T
skip [] = Stopped Syntax []
skip (t ∷ ts) = Read t ts

-- one parser or the other, by a test of the next token
abbrev pub branch : {T A : Type 0} → (Option T → Bool) → Parser T A → Parser T A → Parser T A
branch test p q = λ ts. if test (first ts) then p ts else q ts

-- the parser for what the next token tells
abbrev pub by_first : {T X A : Type 0} → (Option T → X) → (X → Parser T A) → Parser T A
by_first tells p = λ ts. p (tells (first ts)) ts

-- takes the next token if it passes the test, and refuses it else
abbrev pub expect : {T : Type 0} → (Option T → Bool) → Parser T T
expect test = branch test skip refuse

-- takes a token that goes above parts of this height, where d nodes are allowed below it, and stops as too deep at it else
abbrev pub take_above : {T : Type 0} → (d height : ℕ) → Parser T T
take_above d height = λ ts. if nat_lt d height then Stopped Deep ts else skip ts

-- where nothing more is allowed below: a token that could begin a part is too deep, any other is refused
abbrev pub too_deep : {T A : Type 0} → (Option T → Bool) → Parser T A
too_deep begins = λ ts. if begins (first ts) then Stopped Deep ts else Stopped Syntax ts

-- stops where the next token begins what isn't supported
abbrev pub unsupported : {T A : Type 0} → (Option T → Bool) → Parser T A → Parser T A
unsupported test p = λ ts. if test (first ts) then Stopped Unsupported ts else p ts

-- at most n rounds of a step, each from what was read so far, while the next token goes on
abbrev pub repeat : {T A : Type 0} → ℕ → (A → Option T → Bool) → (A → Parser T A) → A → Parser T A
repeat zero goes_on step a = pure a
repeat (suc n) goes_on step a = branch (goes_on a) (step a >>= repeat n goes_on step) (pure a)

-- a step again and again, while the next token goes on; there are no more rounds than tokens
abbrev pub loop : {T A : Type 0} → (A → Option T → Bool) → (A → Parser T A) → A → Parser T A
loop goes_on step a = λ ts. repeat (length ts) goes_on step a ts
