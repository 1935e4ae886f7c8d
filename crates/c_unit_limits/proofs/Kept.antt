-- What the steps of judging keep: no function type of the table has more than 127 parameters, and no bytes of objects that last are counted.
-- By the steps that judging is made of.
use Rattle.std.proofs.Common.{subst, ◌≡◌, ℕ, ◌≤◌, Option, Some, None, refl, sym, ◌∙◌}
use Rattle.cc_base.specs.declared.fault.Fault.{Fault}
use Rattle.c_typing.specs.Judging.{State, Outcome, Judging, Gives, Stops, next, ◌>>=◌, pure, stop, unless, by_known}
use Rattle.c_typing.specs.Scopes.{Seen}
use Rattle.c_unit_limits.specs.Few.{IsBounded}

-- what is said of what is given, and of what is known there
abbrev pub Out : {A : Type 0} → Outcome A → (A → State → Type 0) → Type 0
Out (Gives a r) Q = Q a r
Out (Stops f r) Q = Unit {0}

abbrev pub KeepsTypes : State → State → Type 0
KeepsTypes s r = IsBounded s.table s.seen → IsBounded r.table r.seen

abbrev pub Keeps : State → State → Type 0
Keeps s r = KeepsTypes s r × (r.seen.globals ≡ s.seen.globals)

abbrev pub Kept : {A : Type 0} → Outcome A → State → Type 0
Kept m s = Out m (λ a r. Keeps s r)

pub record IsKept {A : Type 0} (p : Judging A) : Type 0 where
  pub kept : (s : State) → Kept (p s) s

pub pure-kept : {A : Type 0} (a : A) → IsKept (pure a)
pure-kept a = record { kept = λ s. (λ h. h, refl) }

pub stop-kept : {A : Type 0} (f : Fault) → IsKept {A = A} (stop f)
stop-kept f = record { kept = λ s. tt }

pub later-kept : {B : Type 0} (o : Outcome B) (s r : State) → Keeps s r → Kept o r → Kept o s
later-kept (Gives b q) s r h k = (λ x. k.0 (h.0 x), k.1 ∙ h.1)
later-kept (Stops x q) s r h k = tt

next_kept : {A B : Type 0} (m : Outcome A) (f : A → Judging B) (s : State) → Kept m s → ((a : A) → IsKept (f a)) → Kept (next m f) s
next_kept (Gives a r) f s h g = later-kept (f a r) s r h ((g a).kept r)
next_kept (Stops x r) f s h g = tt

pub bind-kept : {A B : Type 0} {p : Judging A} {f : A → Judging B} → IsKept p → ((a : A) → IsKept (f a)) → IsKept (p >>= f)
bind-kept {p} {f} h g = record { kept = λ s. next_kept (p s) f s (h.kept s) g }

pub known-kept : {A : Type 0} {f : State → Judging A} → ((q : State) → IsKept (f q)) → IsKept (by_known f)
known-kept h = record { kept = λ s. (h s).kept s }

unless_kept : {A : Type 0} (o : Option Fault) (go : Judging A) → IsKept go → IsKept (unless o go)
unless_kept None go h = h
unless_kept (Some f) go h = stop-kept f

pub unless-kept : {A : Type 0} (o : Option Fault) {go : Judging A} → IsKept go → IsKept (unless o go)
unless-kept o {go} h = unless_kept o go h

-- where only what a `Scope` holds changes
pub seen-kept : {A : Type 0} (a : A) (seen : State → Seen) → ((s : State) → ((seen s).globals ≡ s.seen.globals) × ((seen s).cells ≡ s.seen.cells))
    → IsKept (λ s. Gives a (record s { seen = seen s }))
seen-kept a seen same = record {
  kept = λ s. (
    λ h. (h.0, subst (λ (n : ℕ). n ≤ 4194304) (sym (same s).0) h.1, subst (λ (n : ℕ). n ≤ 65536) (sym (same s).1) h.2),
    (same s).0,
  );
}
