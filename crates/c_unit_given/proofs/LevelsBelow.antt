-- The outer scopes and the homes of objects where the innermost scope changes, and where one is entered or left.
use Rattle.std.proofs.Common.{ℕ, List, [], ◌∷◌}
use Rattle.std.specs.List.{All}
use Rattle.std.proofs.lemmas.List.Elements.{All-head, All-tail, All-cons, All-nil, All-push}
use Rattle.c_typing.specs.declared.declared.Declared.{Declared}
use Rattle.c_typing.specs.Scopes.{Name, Level, at_innermost, innermost, with_name, without_innermost}
use Rattle.c_unit_given.proofs.UnitGiven.{IsHomeBelow, AreHomesBelow}

abbrev pub IsLevelBelow : ℕ → Level → Type 0
IsLevelBelow n l = All (λ (e : Name × Declared). IsHomeBelow n e.1) l.names

pub homes-changed : (n : ℕ) (f : Level → Level) → ((l : Level) → IsLevelBelow n l → IsLevelBelow n (f l)) → (ls : List Level) → AreHomesBelow n ls → AreHomesBelow n (at_innermost f ls)
homes-changed n f more [] h = h
homes-changed n f more (l ∷ []) h = All-cons (IsLevelBelow n) (f l) [] (more l (All-head (IsLevelBelow n) l [] h)) (All-nil (IsLevelBelow n))
homes-changed n f more (l ∷ (m ∷ ls)) h =
    All-cons (IsLevelBelow n) l (at_innermost f (m ∷ ls)) (All-head (IsLevelBelow n) l (m ∷ ls) h)
    (homes-changed n f more (m ∷ ls) (All-tail (IsLevelBelow n) l (m ∷ ls) h))

pub level-more : (n : ℕ) (name : Name) (what : Declared) (l : Level) → IsHomeBelow n what → IsLevelBelow n l → IsLevelBelow n (with_name name what l)
level-more n name what l h own = All-push (λ (e : Name × Declared). IsHomeBelow n e.1) l.names (name, what) own h

pub homes-more : (n : ℕ) (name : Name) (what : Declared) (ls : List Level) → IsHomeBelow n what → AreHomesBelow n ls → AreHomesBelow n (at_innermost (with_name name what) ls)
homes-more n name what ls h below = homes-changed n (with_name name what) (λ l own. level-more n name what l h own) ls below

pub homes-outer : (n : ℕ) (ls : List Level) → AreHomesBelow n ls → AreHomesBelow n (without_innermost ls)
homes-outer n [] h = h
homes-outer n (l ∷ []) h = All-nil (IsLevelBelow n)
homes-outer n (l ∷ (m ∷ ls)) h =
    All-cons (IsLevelBelow n) l (without_innermost (m ∷ ls)) (All-head (IsLevelBelow n) l (m ∷ ls) h) (homes-outer n (m ∷ ls) (All-tail (IsLevelBelow n) l (m ∷ ls) h))

pub innermost-below : (n : ℕ) (ls : List Level) → AreHomesBelow n ls → IsLevelBelow n (innermost ls)
innermost-below n [] h = All-nil (λ (e : Name × Declared). IsHomeBelow n e.1)
innermost-below n (l ∷ []) h = All-head (IsLevelBelow n) l [] h
innermost-below n (l ∷ (m ∷ ls)) h = innermost-below n (m ∷ ls) (All-tail (IsLevelBelow n) l (m ∷ ls) h)
