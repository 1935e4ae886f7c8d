-- What a rule of a grammar promises of each list of tokens, whichever of its four answers it gives.
-- A rule is a family of parsers, one for each number of nodes that is allowed below.
use Rattle.std.specs.Prelude.{◌≡◌, ℕ, ◌≤◌, Bool, true, List, [], ◌∷◌, ◌++◌}
use Rattle.parse_rules.specs.Parsers.{Syntax, Unsupported, Deep, Answer, Read, Stopped, Parser, first}
use Rattle.parse_rules.specs.Grammars.{Language, Extended, CanBegin, InBoth}

-- What may stand in the place of the tokens that are left, so that a rule still answers the same: any tokens that begin
-- with the same one, and for rules that bear to be `cut` off also none.
pub data Instead {T : Type 0} (cut : Bool) (rest rest' : List T) : Type 0 where
  alike : first rest' ≡ first rest → Instead cut rest rest'
  nothing : cut ≡ true → rest' ≡ [] → Instead cut rest rest'

-- `Valid`: which tokens are tokens of some text.
-- `cut`: whether the rule answers the same where the text ends after what it has read. A rule that wants to see the
-- end, as that for a whole unit does, can't.
-- `moves`: whether the rule reads a token before it gives a part or refuses a token.
-- `p`: the rule, `d` the number of nodes that are allowed below, `ts` the tokens that it reads.
-- `In`: the grammar's membership. `Low`: what else holds of a part that is read, as that it isn't too high.
-- `Ends`: what holds of a part and the tokens after it where it is read.
module _ {T A : Type 0} (Valid : T → Type 0) (cut moves : Bool) (p : ℕ → Parser T A) (d : ℕ) (In : Language → A → List T → Type 0) (Low : A → Type 0) (Ends : A → List T → Type 0) (ts : List T) where
  -- a part is read: it is in the grammar and spells the tokens that are gone; with as many nodes or more allowed below,
  -- the same tokens are read as the same part, whatever comes after the next token
  pub record Reads (a : A) (rest : List T) : Type 0 where
    pub pre : List T
    pub whole : ts ≡ pre ++ rest
    pub moved : moves ≡ true → pre ≡ [] → ⊥
    pub spells : InBoth In a pre
    pub low : Low a
    pub ends : Ends a rest
    pub again : (d' : ℕ) (rest' : List T) → d ≤ d' → Instead cut rest rest' → p d' (pre ++ rest') ≡ Read a rest'

  -- the next token is refused: the tokens before it begin a part, and with as many nodes or more allowed below, it is
  -- refused after them whatever comes later
  pub record Refuses (rest : List T) : Type 0 where
    pub pre : List T
    pub whole : ts ≡ pre ++ rest
    pub moved : moves ≡ true → pre ≡ [] → ⊥
    pub begins : CanBegin Valid (InBoth In) pre
    pub again : (d' : ℕ) (rest' : List T) → d ≤ d' → Instead cut rest rest' → p d' (pre ++ rest') ≡ Stopped Syntax rest'

  -- the next token isn't supported: the tokens before it begin a part, with it they begin one of the extended language, and
  -- it is so after them however many more nodes are allowed below and whatever comes later
  pub record Breaks (rest : List T) : Type 0 where
    pub pre : List T
    pub token : T
    pub post : List T
    pub place : rest ≡ token ∷ post
    pub whole : ts ≡ pre ++ token ∷ post
    pub begins : CanBegin Valid (InBoth In) pre
    pub in_extended : CanBegin Valid (In Extended) (pre ++ token ∷ [])
    pub again : (d' : ℕ) (post' : List T) → d ≤ d' → p d' (pre ++ token ∷ post') ≡ Stopped Unsupported (token ∷ post')

  -- the next token lies too deep: the tokens through it begin a part, and with this many nodes allowed below it lies too
  -- deep whatever comes later
  pub record Sinks (rest : List T) : Type 0 where
    pub pre : List T
    pub token : T
    pub post : List T
    pub place : rest ≡ token ∷ post
    pub whole : ts ≡ pre ++ token ∷ post
    pub begins : CanBegin Valid (InBoth In) (pre ++ token ∷ [])
    pub again : (post' : List T) → p d (pre ++ token ∷ post') ≡ Stopped Deep (token ∷ post')

  -- an answer is kept where what it claims holds
  abbrev pub Kept : Answer T A → Type 0
  Kept (Read a rest) = Reads a rest
  Kept (Stopped Syntax rest) = Refuses rest
  Kept (Stopped Unsupported rest) = Breaks rest
  Kept (Stopped Deep rest) = Sinks rest

  -- the rule keeps what it answers
  pub record Rule : Type 0 where
    pub kept : Kept (p d ts)
