-- Steps of the judging of units: where something is given, function types have no more than 127 parameters still, and as many values as are
-- said are no more than 256.
use Rattle.std.proofs.Common.{ℕ, ◌≤◌, max, Option, Some, None, arith}
use Rattle.std.proofs.Math.Nat.{max-le}
use Rattle.cc_base.specs.declared.fault.Fault.{Fault}
use Rattle.c_typing.specs.Judging as judging
use Rattle.c_typing.specs.Judging.{Outcome, Judging}
use Rattle.c_unit_typing.specs.Linkage.{Linkage}
use Rattle.c_unit_typing.specs.UnitJudging.{UnitState, UnitOutcome, UnitJudging, Gives, Stops, next, ◌>>=◌, pure, stop, unless, by_known, with_linkage, lifted}
use Rattle.c_unit_limits.specs.Few.{IsBounded}
use Rattle.c_unit_limits.proofs.Kept.{IsKept}
use Rattle.c_unit_limits.proofs.HeldSteps.{Holds, IsHeld, kept-held}

-- what is said of what is given, and of what is known there
abbrev pub UnitOut : {A : Type 0} → UnitOutcome A → (A → UnitState → Type 0) → Type 0
UnitOut (Gives a r) Q = Q a r
UnitOut (Stops f r) Q = Unit {0}

abbrev pub UnitKeeps : UnitState → UnitState → Type 0
UnitKeeps s r = IsBounded s.table s.seen → IsBounded r.table r.seen

abbrev pub UnitHolds : {A : Type 0} → UnitOutcome A → ℕ → UnitState → Type 0
UnitHolds m n s = UnitOut m (λ a r. UnitKeeps s r × (n ≤ 256))

pub record IsUnitHeld {A : Type 0} (p : UnitJudging A) (n : ℕ) : Type 0 where
  pub holds : (s : UnitState) → UnitHolds (p s) n s

later : {A : Type 0} (o : UnitOutcome A) (m n : ℕ) (s r : UnitState) → UnitKeeps s r → m ≤ 256 → UnitHolds o n r → UnitHolds o (max m n) s
later (Gives b q) m n s r h le k = (λ x. k.0 (h x), max-le le k.1)
later (Stops x q) m n s r h le k = tt

next_holds : {A B : Type 0} (o : UnitOutcome A) (f : A → UnitJudging B) (m n : ℕ) (s : UnitState) → UnitHolds o m s → ((a : A) → IsUnitHeld (f a) n)
    → UnitHolds (next o f) (max m n) s
next_holds (Gives a r) f m n s h g = later (f a r) m n s r h.0 h.1 ((g a).holds r)
next_holds (Stops x r) f m n s h g = tt

-- one step after another
pub unit-bind : {A B : Type 0} {p : UnitJudging A} {f : A → UnitJudging B} {m n : ℕ} → IsUnitHeld p m → ((a : A) → IsUnitHeld (f a) n) → IsUnitHeld (p >>= f) (max m n)
unit-bind {p} {f} {m} {n} h g = record { holds = λ s. next_holds (p s) f m n s (h.holds s) g }

less : {A : Type 0} (o : UnitOutcome A) (m n : ℕ) (s : UnitState) → m ≤ n → UnitHolds o n s → UnitHolds o m s
less (Gives b q) m n s le h = (h.0, let k = h.1 in omega arith)
less (Stops x q) m n s le h = tt

pub unit-less : {A : Type 0} {p : UnitJudging A} (m n : ℕ) → m ≤ n → IsUnitHeld p n → IsUnitHeld p m
unit-less {p} m n le h = record { holds = λ s. less (p s) m n s le (h.holds s) }

max_left : (n : ℕ) → n ≤ max n 0
max_left n = omega arith

max_right : (n : ℕ) → n ≤ max 0 n
max_right n = omega arith

-- a step that holds so many, and others that hold none
pub unit-first : {A B : Type 0} {p : UnitJudging A} {f : A → UnitJudging B} {n : ℕ} → IsUnitHeld p n → ((a : A) → IsUnitHeld (f a) 0) → IsUnitHeld (p >>= f) n
unit-first {n} h g = unit-less n (max n 0) (max_left n) (unit-bind h g)

-- the other way round
pub unit-last : {A B : Type 0} {p : UnitJudging A} {f : A → UnitJudging B} {n : ℕ} → IsUnitHeld p 0 → ((a : A) → IsUnitHeld (f a) n) → IsUnitHeld (p >>= f) n
unit-last {n} h g = unit-less n (max 0 n) (max_right n) (unit-bind h g)

pub unit-known : {A : Type 0} {f : UnitState → UnitJudging A} {n : ℕ} → ((q : UnitState) → IsUnitHeld (f q) n) → IsUnitHeld (by_known f) n
unit-known h = record { holds = λ s. (h s).holds s }

none_small : 0 ≤ 256
none_small = omega arith

pub unit-pure : {A : Type 0} (a : A) → IsUnitHeld (pure a) 0
unit-pure a = record { holds = λ s. (λ h. h, none_small) }

-- something that is read off what is known
pub unit-asked : {A : Type 0} (f : UnitState → A) → IsUnitHeld (λ s. Gives (f s) s) 0
unit-asked f = record { holds = λ s. (λ h. h, none_small) }

-- where the table stays
pub unit-kept : {A : Type 0} {p : UnitJudging A} → ((s : UnitState) → UnitHolds (p s) 0 s) → IsUnitHeld p 0
unit-kept h = record { holds = h }

pub unit-stop : {A : Type 0} (f : Fault) (n : ℕ) → IsUnitHeld {A = A} (stop f) n
unit-stop f n = record { holds = λ s. tt }

small : {A : Type 0} (o : UnitOutcome A) (n : ℕ) (s : UnitState) → n ≤ 256 → UnitHolds o 0 s → UnitHolds o n s
small (Gives b q) n s le k = (k.0, le)
small (Stops x q) n s le k = tt

pub unit-small : {A : Type 0} {p : UnitJudging A} (n : ℕ) → n ≤ 256 → IsUnitHeld p 0 → IsUnitHeld p n
unit-small {p} n le h = record { holds = λ s. small (p s) n s le (h.holds s) }

unless_held : {A : Type 0} (o : Option Fault) (go : UnitJudging A) (n : ℕ) → IsUnitHeld go n → IsUnitHeld (unless o go) n
unless_held None go n h = h
unless_held (Some f) go n h = unit-stop f n

pub unit-unless : {A : Type 0} (o : Option Fault) {go : UnitJudging A} {n : ℕ} → IsUnitHeld go n → IsUnitHeld (unless o go) n
unit-unless o {go} {n} h = unless_held o go n h

with_held : {A : Type 0} (l : Linkage) (o : Outcome A) (n w : ℕ) (s : UnitState) → Holds o n w (judging.known s.table s.seen) → UnitHolds (with_linkage l o) n s
with_held l (judging.Gives a q) n w s h = (h.0, h.1)
with_held l (judging.Stops f q) n w s h = tt

-- parts of expressions and declarators
pub lifted-held : {A : Type 0} {p : Judging A} {n w : ℕ} → IsHeld p n w → IsUnitHeld (lifted p) n
lifted-held {p} {n} {w} h = record { holds = λ s. with_held s.linkage (p (judging.known s.table s.seen)) n w s (h.holds (judging.known s.table s.seen)) }

pub lifted-kept : {A : Type 0} {p : Judging A} → IsKept p → IsUnitHeld (lifted p) 0
lifted-kept h = lifted-held (kept-held h)
