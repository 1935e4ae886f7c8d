-- The law of `take`: a token that tells x is taken, any other is refused.
use Rattle.std.proofs.Common.{◌≡◌, ℕ, Bool, true, false, Option, Some, None, is_some, List, [], ◌∷◌, refl, ◌∙◌, ap}
use Rattle.parse_rules.specs.Parsers.{first, pure, skip, refuse, ◌>>◌}
use Rattle.parse_rules.specs.Grammars.{CanBegin, InBoth, Any}
use Rattle.parse_rules.specs.Rules.{Rule}
use Rattle.parse_rules.proofs.Composition.{rule_like, Starts, same, gone}
use Rattle.parse_rules.proofs.Combinators.{rule_pure, rule_refuse, rule_seq, rule_skip_the, rule_may_stay}
use Rattle.c_tree.specs.Symbols.{Symbol}
use Rattle.c_parse_words.specs.WordRules.{take}
use Rattle.c_parse_words.specs.Written.{IsWritten}

-- the symbol that tells x
pub record IsTold {X : Type 0} (tells : Option Symbol → Option X) (symbol : X → Symbol) (x : X) (s : List Symbol) : Type 0 where
  pub spelled : s ≡ symbol x ∷ []
  pub told : tells (Some (symbol x)) ≡ Some x

-- what a symbol tells is told by the symbol of it
pub record Tells {X : Type 0} (tells : Option Symbol → Option X) (symbol : X → Symbol) : Type 0 where
  pub none : tells None ≡ None
  pub only : (t : Symbol) (x : X) → tells (Some t) ≡ Some x → t ≡ symbol x

module _ {X : Type 0} (tells : Option Symbol → Option X) (symbol : X → Symbol) (h : Tells tells symbol) where
  pub told_here : (o : Option Symbol) (x : X) → tells o ≡ Some x → (o ≡ Some (symbol x)) × (tells (Some (symbol x)) ≡ Some x)
  told_here None x e =
      let none : tells None ≡ None = h.none in
      cc
  told_here (Some t) x e =
      let is : t ≡ symbol x = h.only t x e in
      (ap Some is, rw (← is) e)

module _ {X : Type 0} {cut : Bool} {d : ℕ} (tells : Option Symbol → Option X) (symbol : X → Symbol) (h : Tells tells symbol) where
  by_told : (moves : Bool) (ts : List Symbol) (o : Option X) → tells (first ts) ≡ o → (moves ≡ true → is_some o ≡ true) → (o ≡ None → CanBegin IsWritten (InBoth (λ g x s. IsTold tells symbol x s)) [])
      → Rule IsWritten cut moves (λ d'. take tells) d (λ _. IsTold tells symbol) (λ _. Unit {0}) Any ts
  unfolding take
  by_told moves ts (Some x) e moved begins =
      rule_may_stay (rule_like (λ d'. take tells) (λ d'. skip >> pure x) (λ d' ts' _ start. alike d' ts' start)
      (rule_seq (rule_skip_the (symbol x) (told_here tells symbol h (first ts) x e).0) (λ t s rest.
      rule_pure (λ g spelled. record { spelled = rw spelled refl; told = (told_here tells symbol h (first ts) x e).1 }) (λ _. tt) tt)))
    where
      alike : (d' : ℕ) (ts' : List Symbol) → Starts true ts ts' → take tells ts' ≡ (skip >> pure x) ts'
      alike d' ts' (same s) = rw (ap tells s ∙ e) refl
      alike d' ts' (gone not_true _) = cc
  by_told true ts None e moved begins =
      let no : false ≡ true = moved refl in
      cc
  by_told false ts None e moved begins =
      rule_like (λ d'. take tells) (λ d'. refuse) (λ d' ts' _ start. alike d' ts' start) (rule_refuse (begins refl))
    where
      alike : (d' : ℕ) (ts' : List Symbol) → Starts false ts ts' → take tells ts' ≡ refuse ts'
      alike d' ts' (same s) = rw (ap tells s ∙ e) refl
      alike d' ts' (gone _ s) = rw s (rw h.none refl)

  -- x can be told
  pub rule_take : {ts : List Symbol} (x : X) → IsWritten (symbol x) → tells (Some (symbol x)) ≡ Some x
      → Rule IsWritten cut false (λ d'. take tells) d (λ _. IsTold tells symbol) (λ _. Unit {0}) Any ts
  rule_take {ts} x written told = by_told false ts (tells (first ts)) refl (λ m. cc)
      (λ _. record { part = x; more = symbol x ∷ []; valid = (written, tt); spells = λ g. record { spelled = refl; told = told } })

  -- something is told
  pub rule_take_here : {ts : List Symbol} → is_some (tells (first ts)) ≡ true
      → Rule IsWritten cut true (λ d'. take tells) d (λ _. IsTold tells symbol) (λ _. Unit {0}) Any ts
  rule_take_here {ts} some = by_told true ts (tells (first ts)) refl (λ _. some) (λ none. absurd (not_none (tells (first ts)) some none))
    where
      not_none : (o : Option X) → is_some o ≡ true → o ≡ None → ⊥
      not_none None e n = cc
      not_none (Some x) e n = cc
