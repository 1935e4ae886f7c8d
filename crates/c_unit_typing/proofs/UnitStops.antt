-- Where the judging of units stops, by the steps that it is made of.
use Rattle.std.proofs.Common.{◌≡◌, Bool, true, false, List, Option, Some, None, refl, ap, subst, ◌⊎◌, inl, inr}
use Rattle.cc_base.specs.declared.fault.Fault.{Fault}
use Rattle.cc_base.specs.declared.fault.Fault.TheVariants.{Refused, TooLarge}
use Rattle.cc_base.specs.declared.fault.Limit.{Limit}
use Rattle.cc_base.specs.declared.fault.Rule.{Rule}
use Rattle.cc_base.specs.declared.place.Place.{Place}
use Rattle.c_types.specs.Table.{Table}
use Rattle.c_typing.specs.Extensions.{IsExtended}
use Rattle.c_typing.specs.Judging as judging
use Rattle.c_typing.specs.Judging.{State, Judging, Outcome}
use Rattle.c_typing.specs.Refusals.{Fails}
use Rattle.c_typing.specs.Tests.{Test, first_broken}
use Rattle.c_typing_laws.specs.Judged.{IsRefused}
use Rattle.c_typing_laws.proofs.ExtensionLaws.{extended_refl}
use Rattle.c_typing_laws.proofs.Outcomes
use Rattle.c_typing_laws.proofs.TableGrowth.{extended_trans}
use Rattle.c_unit_typing.specs.Linkage.{Linkage}
use Rattle.c_unit_typing.specs.UnitJudged.{state_of}
use Rattle.c_unit_typing.specs.UnitJudging.{UnitState, UnitOutcome, UnitJudging, Gives, Stops, known, next, unless, obeying, with_linkage, lifted}

fault_in : {A : Type 0} → Fault → UnitOutcome A → Fault
fault_in d (Gives a s) = d
fault_in d (Stops f s) = f

stopped_in : {A : Type 0} → UnitState → UnitOutcome A → UnitState
stopped_in d (Gives a s) = d
stopped_in d (Stops f s) = s

is_stopped : {A : Type 0} → UnitOutcome A → Bool
is_stopped (Gives a s) = false
is_stopped (Stops f s) = true

pub never-stops : {A P : Type 0} (a : A) (f : Fault) (s r : UnitState) → Gives a s ≡ Stops f r → P
unfolding is_stopped
never-stops a f s r h = absurd (let e : false ≡ true = ap is_stopped h in cc)

pub stops-fault : (A : Type 0) (f g : Fault) (s r : UnitState) → ◌≡◌ {A = UnitOutcome A} (Stops f s) (Stops g r) → f ≡ g
unfolding fault_in
stops-fault A f g s r h = ap (fault_in f) h

pub stops-state : (A : Type 0) (f g : Fault) (s r : UnitState) → ◌≡◌ {A = UnitOutcome A} (Stops f s) (Stops g r) → s ≡ r
unfolding stopped_in
stops-state A f g s r h = ap (stopped_in s) h

pub bind-stops : {A B : Type 0} (m : UnitOutcome A) (f : A → UnitJudging B) (x : Fault) (r : UnitState) → next m f ≡ Stops x r
    → (m ≡ Stops x r) ⊎ ((a : A) × (s : UnitState) × (m ≡ Gives a s) × (f a s ≡ Stops x r))
bind-stops (Gives a s) f x r h = inr (a, s, refl, h)
bind-stops {A = A} {B = B} (Stops y s) f x r h =
    let fault = stops-fault B y x s r h in
    let state = stops-state B y x s r h in
    inl (λ i. Stops (fault i) (state i))

with_linkage-stops : {A : Type 0} (l : Linkage) (o : Outcome A) (f : Fault) (r : UnitState) → with_linkage l o ≡ Stops f r → (o ≡ judging.Stops f (state_of r))
with_linkage-stops l (judging.Gives v q) f r h = never-stops v f (known q.table q.seen l) r h
with_linkage-stops {A = A} l (judging.Stops g q) f r h =
    let fault = stops-fault A g f (known q.table q.seen l) r h in
    let state = stops-state A g f (known q.table q.seen l) r h in
    λ i. judging.Stops (fault i) (state_of (state i))

pub lifted-stops : {A : Type 0} (p : Judging A) (f : Fault) (s r : UnitState) → lifted p s ≡ Stops f r → p (state_of s) ≡ judging.Stops f (state_of r)
lifted-stops p f s r h = with_linkage-stops s.linkage (p (state_of s)) f r h

pub unless-stops : {A : Type 0} (o : Option Fault) (go : UnitJudging A) (s : UnitState) (f : Fault) (r : UnitState) → unless o go s ≡ Stops f r
    → ((o ≡ Some f) × (s ≡ r)) ⊎ ((o ≡ None) × (go s ≡ Stops f r))
unless-stops None go s f r h = inr (refl, h)
unless-stops {A = A} (Some g) go s f r h = let fault = stops-fault A g f s r h in inl (ap Some fault, stops-state A g f s r h)

-- nothing is refused there
abbrev pub NeverRefused : {A : Type 0} → UnitOutcome A → Type 0
NeverRefused o = (p : Place) (t : Rule) (r : UnitState) → o ≡ Stops (Refused p t) r → ⊥

pub gives-unrefused : {A : Type 0} (a : A) (s : UnitState) → NeverRefused (Gives a s)
gives-unrefused a s p t r h = never-stops a (Refused p t) s r h

pub large-unrefused : (A : Type 0) (at : Place) (l : Limit) (s : UnitState) → NeverRefused {A = A} (Stops (TooLarge at l) s)
large-unrefused A at l s p t r h = Outcomes.never-large at p l t (stops-fault A (TooLarge at l) (Refused p t) s r h)

pub next-unrefused : {A B : Type 0} (m : UnitOutcome A) (f : A → UnitJudging B) → NeverRefused m → ((a : A) (s : UnitState) → m ≡ Gives a s → NeverRefused (f a s)) → NeverRefused (next m f)
next-unrefused m f n more p t r h = elim (bind-stops m f (Refused p t) r h) [
  | inl e ↦ n p t r e
  | inr q ↦ more q.0 q.1 q.2 p t r q.3
]

pub lifted-unrefused : {A : Type 0} (j : Judging A) (s : UnitState) → Outcomes.NeverRefuses (j (state_of s)) → NeverRefused (lifted j s)
lifted-unrefused j s n p t r h = n p t (state_of r) (lifted-stops j (Refused p t) s r h)

-- What is refused at this place, of this rule

abbrev pub IsStopped : (Table → Type 0) → UnitState → UnitState → Type 0
IsStopped P s r = IsRefused P (state_of s) (state_of r)

module _ (p : Place) (t : Rule) where
  pub stopped-here : (P : Table → Type 0) (s r : UnitState) → s ≡ r → P s.table → IsStopped P s r
  stopped-here P s r e h = subst (λ (w : UnitState). IsStopped P s w) e (record { fails = h; extends = extended_refl s.table })

  pub stopped-after : (P : Table → Type 0) (s m r : UnitState) → IsExtended s.table m.table → IsStopped P m r → IsStopped P s r
  stopped-after P s m r x h = record { fails = h.fails; extends = extended_trans s.table m.table r.table x h.extends }

  pub stopped-as : (P Q : Table → Type 0) (s r : UnitState) → (IsExtended s.table r.table → P r.table → Q r.table) → IsStopped P s r → IsStopped Q s r
  stopped-as P Q s r f h = record { fails = f h.extends h.fails; extends = h.extends }

  -- one step after another
  pub stopped-step : {A B : Type 0} (m : UnitOutcome A) (f : A → UnitJudging B) (P : Table → Type 0) (s r : UnitState) → (m ≡ Stops (Refused p t) r → IsStopped P s r)
      → ((a : A) (q : UnitState) → m ≡ Gives a q → f a q ≡ Stops (Refused p t) r → IsStopped P s r) → next m f ≡ Stops (Refused p t) r → IsStopped P s r
  stopped-step m f P s r first more h = elim (bind-stops m f (Refused p t) r h) [
    | inl e ↦ first e
    | inr q ↦ more q.0 q.1 q.2 q.3
  ]

  -- the rules are tried first
  pub stopped-rules : {A : Type 0} (rules : UnitState → List Test) (go : UnitJudging A) (P : Table → Type 0) (s r : UnitState) → (Fails (rules s) (Refused p t) → P s.table)
      → (first_broken (rules s) ≡ None → go s ≡ Stops (Refused p t) r → IsStopped P s r) → obeying rules go s ≡ Stops (Refused p t) r → IsStopped P s r
  stopped-rules rules go P s r fails more h = elim (unless-stops (first_broken (rules s)) go s (Refused p t) r h) [
    | inl e ↦ stopped-here P s r e.1 (fails e.0)
    | inr q ↦ more q.0 q.1
  ]
