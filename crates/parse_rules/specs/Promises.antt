-- What the answers of a parser mean, said of the grammar alone. These are the words that contracts of public calls cite:
-- nothing here speaks of how a parser reads.
use Rattle.std.specs.Prelude.{◌≡◌, ℕ, ◌≤◌, Bool, true, false, List, [], ◌∷◌, ◌++◌}
use Rattle.parse_rules.specs.Parsers.{Answer, Read, Stopped, Syntax, Unsupported, Deep}
use Rattle.parse_rules.specs.Grammars.{Language, Supported, Extended, CanBegin}

-- a stop at a depth
abbrev pub is_deep : {T A : Type 0} → Answer T A → Bool
is_deep (Stopped Deep rest) = true
is_deep answer = false

-- `Valid`: which tokens are tokens of some text. `In`: the grammar of the two languages.
module _ {T A : Type 0} (Valid : T → Type 0) (In : Language → A → List T → Type 0) where
  -- no part's spelling begins with the tokens and the one that is next
  abbrev pub EndsBefore : Language → (tokens rest : List T) → Type 0
  EndsBefore g tokens [] = Unit {0}
  EndsBefore g tokens (t ∷ more) = CanBegin Valid (In g) (tokens ++ t ∷ []) → ⊥

  -- The run: the longest row of tokens from the beginning that begins the spelling of some part.
  pub record IsRun (ts run rest : List T) : Type 0 where
    pub whole : ts ≡ run ++ rest
    pub begins : CanBegin Valid (In Supported) run
    pub longest : EndsBefore Supported run rest

-- `height`: how many nodes a part has on its longest path, and `d`, how many are allowed. `ts`: the tokens from the place
-- where the parser begins.
module _ {T A : Type 0} (Valid : T → Type 0) (In : Language → A → List T → Type 0) (height : A → ℕ) (d : ℕ) (ts : List T) where
  -- A part is read: it spells the run, and the token after the run begins no unsupported construct.
  pub record IsRead (a : A) (rest : List T) : Type 0 where
    pub run : List T
    pub is_run : IsRun Valid In ts run rest
    pub supported : EndsBefore Valid In Extended run rest
    pub spells : In Supported a run
    pub low : height a ≤ d

  -- The token after the run is refused, or the end where there is none: it begins no unsupported
  -- construct, and the run is no part.
  pub record IsRefused (rest : List T) : Type 0 where
    pub run : List T
    pub is_run : IsRun Valid In ts run rest
    pub supported : EndsBefore Valid In Extended run rest
    pub no_part : (a : A) → In Supported a run → ⊥

  -- The token after the run isn't supported: with it, the run begins a part of the extended language.
  pub record IsUnsupported (rest : List T) : Type 0 where
    pub run : List T
    pub is_run : IsRun Valid In ts run rest
    pub token : T
    pub more : List T
    pub place : rest ≡ token ∷ more
    pub in_extended : CanBegin Valid (In Extended) (run ++ token ∷ [])

  -- The next token is too deep: some part begins with the tokens through it, but each that does is too high.
  pub record IsTooDeep (rest : List T) : Type 0 where
    pub before : List T
    pub token : T
    pub more : List T
    pub place : rest ≡ token ∷ more
    pub whole : ts ≡ before ++ rest
    pub begins : CanBegin Valid (In Supported) (before ++ token ∷ [])
    pub none_low : CanBegin Valid (λ a s. In Supported a s × (height a ≤ d)) (before ++ token ∷ []) → ⊥

  -- what an answer means where a part is read from the tokens, and more may follow it
  abbrev pub Answered : Answer T A → Type 0
  Answered (Read a rest) = IsRead a rest
  Answered (Stopped Syntax rest) = IsRefused rest
  Answered (Stopped Unsupported rest) = IsUnsupported rest
  Answered (Stopped Deep rest) = IsTooDeep rest

  -- All the tokens spell the part.
  pub record IsReadWhole (a : A) (rest : List T) : Type 0 where
    pub over : rest ≡ []
    pub spells : In Supported a ts
    pub low : height a ≤ d

  -- The token after the run is refused, which begins no unsupported construct; where there is none, the end is
  -- refused, as the tokens are no part.
  pub record IsRefusedWhole (rest : List T) : Type 0 where
    pub run : List T
    pub is_run : IsRun Valid In ts run rest
    pub supported : EndsBefore Valid In Extended run rest
    pub no_part : rest ≡ [] → (a : A) → In Supported a ts → ⊥

  -- what an answer means where the part is to be all of the tokens
  abbrev pub AnsweredWhole : Answer T A → Type 0
  AnsweredWhole (Read a rest) = IsReadWhole a rest
  AnsweredWhole (Stopped Syntax rest) = IsRefusedWhole rest
  AnsweredWhole (Stopped Unsupported rest) = IsUnsupported rest
  AnsweredWhole (Stopped Deep rest) = IsTooDeep rest
