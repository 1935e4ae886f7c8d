-- Outcomes of the judging of units, by the steps that they are made of.
use Rattle.std.proofs.Common.{◌≡◌, Bool, true, false, Option, Some, None, refl, ap, sym, subst}
use Rattle.cc_base.specs.declared.fault.Fault.{Fault}
use Rattle.c_typing.specs.Judging as judging
use Rattle.c_typing.specs.Judging.{State, Judging, Outcome}
use Rattle.c_unit_typing.specs.Linkage.{Linkage}
use Rattle.c_unit_typing.specs.UnitJudged.{state_of}
use Rattle.c_unit_typing.specs.UnitJudging.{UnitState, UnitOutcome, UnitJudging, Gives, Stops, known, next, unless, with_linkage, lifted}

value_in : {A : Type 0} → A → UnitOutcome A → A
value_in d (Gives a s) = a
value_in d (Stops f s) = d

state_in : {A : Type 0} → UnitState → UnitOutcome A → UnitState
state_in d (Gives a s) = s
state_in d (Stops f s) = d

is_given : {A : Type 0} → UnitOutcome A → Bool
is_given (Gives a s) = true
is_given (Stops f s) = false

pub gives-value : {A : Type 0} (a b : A) (s r : UnitState) → Gives a s ≡ Gives b r → a ≡ b
unfolding value_in
gives-value a b s r h = ap (value_in a) h

pub gives-state : {A : Type 0} (a b : A) (s r : UnitState) → Gives a s ≡ Gives b r → s ≡ r
unfolding state_in
gives-state a b s r h = ap (state_in s) h

pub never-gives : {A P : Type 0} (a : A) (f : Fault) (s r : UnitState) → Stops f s ≡ Gives a r → P
unfolding is_given
never-gives a f s r h = absurd (let e : false ≡ true = ap is_given h in cc)

pub bind-gives : {A B : Type 0} (m : UnitOutcome A) (f : A → UnitJudging B) (b : B) (r : UnitState) → next m f ≡ Gives b r
    → (a : A) × (s : UnitState) × (m ≡ Gives a s) × (f a s ≡ Gives b r)
bind-gives (Gives a s) f b r h = (a, s, refl, h)
bind-gives (Stops x s) f b r h = never-gives b x s r h

pub unless-gives : {A : Type 0} (o : Option Fault) (go : UnitJudging A) (s : UnitState) (a : A) (r : UnitState) → unless o go s ≡ Gives a r → (o ≡ None) × (go s ≡ Gives a r)
unless-gives None go s a r h = (refl, h)
unless-gives (Some f) go s a r h = never-gives a f s r h

pub given-same : {A : Type 0} (P : A → UnitState → Type 0) (a b : A) (s r : UnitState) → Gives a s ≡ Gives b r → P a s → P b r
given-same P a b s r h p = subst (λ (w : UnitState). P b w) (gives-state a b s r h) (subst (λ (v : _). P v s) (gives-value a b s r h) p)

pub given-before : {A : Type 0} (P : A → UnitState → Type 0) (a b : A) (s r : UnitState) → Gives a s ≡ Gives b r → P b r → P a s
given-before P a b s r h p = given-same P b a r s (sym h) p

with_linkage-gives : {A : Type 0} (l : Linkage) (o : Outcome A) (a : A) (r : UnitState) → with_linkage l o ≡ Gives a r
    → (o ≡ judging.Gives a (state_of r)) × (r.linkage ≡ l)
with_linkage-gives l (judging.Gives v q) a r h =
    let value = gives-value v a (known q.table q.seen l) r h in
    let state = gives-state v a (known q.table q.seen l) r h in
    ((λ i. judging.Gives (value i) (state_of (state i))), ap (λ (u : UnitState). u.linkage) (sym state))
with_linkage-gives l (judging.Stops f q) a r h = never-gives a f (known q.table q.seen l) r h

-- what the judging of a part of an expression or a declarator gives
pub lifted-gives : {A : Type 0} (p : Judging A) (a : A) (s r : UnitState) → lifted p s ≡ Gives a r
    → (p (state_of s) ≡ judging.Gives a (state_of r)) × (r.linkage ≡ s.linkage)
lifted-gives p a s r h = with_linkage-gives s.linkage (p (state_of s)) a r h
