-- How the parts of a unit are judged one after another: as parts of an expression are (`c_typing`), with what is known besides of names
-- that have linkage. Clauses inside the crate cite this; laws say that what is given is well typed, and that what is refused breaks the rule
-- that is named.
use Rattle.std.specs.Prelude.{◌≡◌, ◌≢◌, List, Option, Some, None, Result, Ok, Err}
use Rattle.cc_base.specs.declared.fault.Fault.{Fault}
use Rattle.cc_base.specs.declared.fault.Fault.TheVariants.{NoMemory}
use Rattle.c_types.specs.Table.{Table}
use Rattle.c_typing.specs.Scopes.{Seen}
use Rattle.c_typing.specs.Tests.{Test, first_broken}
use Rattle.c_typing.specs.Judging as judging
use Rattle.c_typing.specs.Judging.{Judging, Outcome}
use Rattle.c_unit_typing.specs.Units.{Known}
use Rattle.c_unit_typing.specs.Linkage.{Linkage}

infixr 20 ◌>>=◌
infixr 20 ◌>>◌
-- What is known where a part of a unit is judged: the types, what a `Scope` holds, and what is linked, defined and lasts.
pub record UnitState : Type 0 where
  pub table : Table
  pub seen : Seen
  pub linkage : Linkage

abbrev pub known : Table → Seen → Linkage → UnitState
known table seen linkage = record { table = table; seen = seen; linkage = linkage }

-- as the rules of units have it
abbrev pub known_of : UnitState → Known
known_of s = record { scopes = s.seen.scopes; linked = s.linkage.linked; defined = s.linkage.defined; statics = s.linkage.statics }

-- what a part gives, and what is known after it; or why it stops, and what is known there
pub data UnitOutcome (A : Type 0) : Type 0 where
  Gives : A → UnitState → UnitOutcome A
  Stops : Fault → UnitState → UnitOutcome A

abbrev pub UnitJudging : Type 0 → Type 0
UnitJudging A = UnitState → UnitOutcome A

-- how an outcome goes on: a stop stays
abbrev pub next : {A B : Type 0} → UnitOutcome A → (A → UnitJudging B) → UnitOutcome B
next (Gives a s) f = f a s
next (Stops fault s) f = Stops fault s

abbrev pub ◌>>=◌ : {A B : Type 0} → UnitJudging A → (A → UnitJudging B) → UnitJudging B
◌>>=◌ p f = λ s. next (p s) f

abbrev pub ◌>>◌ : {A B : Type 0} → UnitJudging A → UnitJudging B → UnitJudging B
◌>>◌ p q = λ s. next (p s) (λ _. q)

abbrev pub pure : {A : Type 0} → A → UnitJudging A
pure a = λ s. Gives a s

abbrev pub stop : {A : Type 0} → Fault → UnitJudging A
stop fault = λ s. Stops fault s

-- a fault that was found stops
abbrev pub unless : {A : Type 0} → Option Fault → UnitJudging A → UnitJudging A
unless None go = go
unless (Some fault) go = stop fault

-- by what is known
abbrev pub by_known : {A : Type 0} → (UnitState → UnitJudging A) → UnitJudging A
by_known f = λ s. f s s

-- the rules are tried first
abbrev pub obeying : {A : Type 0} → (UnitState → List Test) → UnitJudging A → UnitJudging A
obeying rules go = by_known (λ s. unless (first_broken (rules s)) go)

-- the judging of a part of an expression or a declarator leaves the linkage as it is
abbrev pub with_linkage : {A : Type 0} → Linkage → Outcome A → UnitOutcome A
with_linkage l (judging.Gives a s) = Gives a (known s.table s.seen l)
with_linkage l (judging.Stops fault s) = Stops fault (known s.table s.seen l)

abbrev pub lifted : {A : Type 0} → Judging A → UnitJudging A
lifted p = λ s. with_linkage s.linkage (p (judging.known s.table s.seen))

-- What a call of the code answers: want of memory apart, the outcome.
abbrev pub Answers : {A B : Type 0} → (B → A) → UnitOutcome A → Result B Fault → UnitState → Type 0
Answers view outcome (Ok b) after = outcome ≡ Gives (view b) after
Answers view outcome (Err fault) after = fault ≢ NoMemory → outcome ≡ Stops fault after
