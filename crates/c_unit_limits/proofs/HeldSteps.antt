-- Where something is given, what is known is kept, as many values as are said are no more than 256, and as many bytes of objects that last
-- are counted as are said.
use Rattle.std.proofs.Common.{◌≡◌, ℕ, ◌+◌, ◌≤◌, max, Bool, true, false, nat_le, List, refl, subst, ◌∙◌, ap, if◌then◌else◌, arith}
use Rattle.std.proofs.Math.Nat.{max-le}
use Rattle.std.proofs.lemmas.Bool.Decides.{nat_tests}
use Rattle.cc_base.specs.declared.fault.Fault.{Fault}
use Rattle.cc_base.specs.declared.fault.Fault.TheVariants.{TooLarge}
use Rattle.cc_base.specs.declared.fault.Limit.TheVariants.{Globals}
use Rattle.cc_base.specs.declared.place.Place.{Place}
use Rattle.c_tree.specs.declared.leaf.StringPiece.{StringPiece}
use Rattle.c_tree.specs.Places.{pieces_place}
use Rattle.c_tree.specs.Tree as tree
use Rattle.c_typing.specs.Assignments.{count_global, literal_size, literal}
use Rattle.c_typing.specs.Declaring.{stopped_outside, stopping_outside}
use Rattle.c_typing.specs.Held.{held}
use Rattle.c_typing.specs.Judging.{State, Outcome, Judging, Gives, Stops, next, ◌>>=◌, pure, stop, by_known}
use Rattle.c_typing.specs.Operands.{Operand}
use Rattle.c_typing.specs.Operations.{leaf}
use Rattle.c_typing.specs.Tests.{Elaborated}
use Rattle.c_typing.specs.Walks.{judge}
use Rattle.c_typing_laws.proofs.HeldTrees.{held-law}
use Rattle.c_unit_limits.proofs.Kept.{Out, Keeps, KeepsTypes, Kept, IsKept, pure-kept}
use Rattle.c_unit_limits.proofs.KeptTypes.{new_node-kept, string_type-kept}
use Rattle.c_unit_limits.proofs.KeptConstructs.{IsFit}

-- `w` is what is counted
abbrev pub Holds : {A : Type 0} → Outcome A → (n w : ℕ) → State → Type 0
Holds m n w s = Out m (λ a r. KeepsTypes s r × (n ≤ 256) × (r.seen.globals ≡ s.seen.globals + w))

pub record IsHeld {A : Type 0} (p : Judging A) (n w : ℕ) : Type 0 where
  pub holds : (s : State) → Holds (p s) n w s

added : (a b c v w : ℕ) → b ≡ a + v → c ≡ b + w → c ≡ a + (v + w)
added a b c v w p q = omega (arith, p, q)

no_more : (a b : ℕ) → b ≡ a → b ≡ a + 0
no_more a b p = omega (arith, p)

later_holds : {A : Type 0} (o : Outcome A) (m n v w : ℕ) (s r : State) → KeepsTypes s r → m ≤ 256 → r.seen.globals ≡ s.seen.globals + v → Holds o n w r → Holds o (max m n) (v + w) s
later_holds (Gives b q) m n v w s r h le g k = (λ x. k.0 (h x), max-le le k.1, added s.seen.globals r.seen.globals q.seen.globals v w g k.2)
later_holds (Stops x q) m n v w s r h le g k = tt

next_holds : {A B : Type 0} (o : Outcome A) (f : A → Judging B) (m n v w : ℕ) (s : State) → Holds o m v s → ((a : A) → IsHeld (f a) n w) → Holds (next o f) (max m n) (v + w) s
next_holds (Gives a r) f m n v w s h g = later_holds (f a r) m n v w s r h.0 h.1 h.2 ((g a).holds r)
next_holds (Stops x r) f m n v w s h g = tt

-- one step after another
pub bind-held : {A B : Type 0} {p : Judging A} {f : A → Judging B} {m n v w : ℕ} → IsHeld p m v → ((a : A) → IsHeld (f a) n w) → IsHeld (p >>= f) (max m n) (v + w)
bind-held {p} {f} {m} {n} {v} {w} h g = record { holds = λ s. next_holds (p s) f m n v w s (h.holds s) g }

of_kept : {A : Type 0} (o : Outcome A) (s : State) → Kept o s → Holds o 0 0 s
of_kept (Gives b q) s h = (h.0, omega arith, no_more s.seen.globals q.seen.globals h.1)
of_kept (Stops x q) s h = tt

pub kept-held : {A : Type 0} {p : Judging A} → IsKept p → IsHeld p 0 0
kept-held {p} h = record { holds = λ s. of_kept (p s) s (h.kept s) }

less : {A : Type 0} (o : Outcome A) (m n v w : ℕ) (s : State) → m ≤ n → w ≡ v → Holds o n w s → Holds o m v s
less (Gives b q) m n v w s le e h = (h.0, (let k = h.1 in omega arith), h.2 ∙ ap (λ (x : ℕ). s.seen.globals + x) e)
less (Stops x q) m n v w s le e h = tt

as_held : {A : Type 0} {p : Judging A} (m n v w : ℕ) → m ≤ n → w ≡ v → IsHeld p n w → IsHeld p m v
as_held {p} m n v w le e h = record { holds = λ s. less (p s) m n v w s le e (h.holds s) }

max_left : (n : ℕ) → n ≤ max n 0
max_left n = omega arith

max_right : (n : ℕ) → n ≤ max 0 n
max_right n = omega arith

none_left : (w : ℕ) → 0 + w ≡ w
none_left w = omega arith

none_right : (w : ℕ) → w + 0 ≡ w
none_right w = omega arith

-- a step that holds so many, and others of which nothing is said
pub first-held : {A B : Type 0} {p : Judging A} {f : A → Judging B} {n w : ℕ} → IsHeld p n w → ((a : A) → IsKept (f a)) → IsHeld (p >>= f) n w
first-held {n} {w} h g = as_held n (max n 0) w (w + 0) (max_left n) (none_right w) (bind-held h (λ a. kept-held (g a)))

-- the other way round
pub last-held : {A B : Type 0} {p : Judging A} {f : A → Judging B} {n w : ℕ} → IsKept p → ((a : A) → IsHeld (f a) n w) → IsHeld (p >>= f) n w
last-held {n} {w} h g = as_held n (max 0 n) w (0 + w) (max_right n) (none_left w) (bind-held (kept-held h) g)

pub known-held : {A : Type 0} {f : State → Judging A} {n w : ℕ} → ((q : State) → IsHeld (f q) n w) → IsHeld (by_known f) n w
known-held h = record { holds = λ s. (h s).holds s }

pub stop-held : {A : Type 0} (f : Fault) (n w : ℕ) → IsHeld {A = A} (stop f) n w
stop-held f n w = record { holds = λ s. tt }

outside_holds : {A : Type 0} (o : Outcome A) (n w : ℕ) (s : State) → Holds o n w s → Holds (stopped_outside o) n w s
outside_holds (Gives a r) n w s h = h
outside_holds (Stops x r) n w s h = tt

-- in a scope of its own, which a stop leaves
pub outside-held : {A : Type 0} {p : Judging A} {n w : ℕ} → IsHeld p n w → IsHeld (stopping_outside p) n w
outside-held {p} {n} {w} h = record { holds = λ s. outside_holds (p s) n w s (h.holds s) }

few_bytes : (n : ℕ) → nat_le n 4194304 ≡ true → n ≤ 4194304
few_bytes n h = grind (arith, nat_tests)

-- what lasts is counted
pub count_global-held : (at : Place) (bytes : ℕ) → IsHeld (count_global at bytes) 0 (bytes + 16)
unfolding count_global
count_global-held at bytes = record { holds = λ s. by s (nat_le (s.seen.globals + (bytes + 16)) 4194304) (few_bytes (s.seen.globals + (bytes + 16))) }
  where
    by : (s : State) (b : Bool) → (b ≡ true → s.seen.globals + (bytes + 16) ≤ 4194304)
        → Holds (if b then Gives bytes (record s { seen = record s.seen { globals = s.seen.globals + (bytes + 16) } }) else Stops (TooLarge at Globals) s) 0 (bytes + 16) s
    by s true le = (λ h. (h.0, le refl, h.2), omega arith, refl)
    by s false le = tt

-- Operands

abbrev Both : Outcome Operand → (n w : ℕ) → State → Type 0
Both m n w s = Out m (λ o r. KeepsTypes s r × (o.held ≤ 256) × (n ≤ 256) × (r.seen.globals ≡ s.seen.globals + w))

-- besides, the operand that is given holds no more than 256
pub record IsWhole (p : Judging Operand) (n w : ℕ) : Type 0 where
  pub both : (s : State) → Both (p s) n w s

later_both : (o : Outcome Operand) (m n v w : ℕ) (s r : State) → KeepsTypes s r → m ≤ 256 → r.seen.globals ≡ s.seen.globals + v → Both o n w r → Both o (max m n) (v + w) s
later_both (Gives b q) m n v w s r h le g k = (λ x. k.0 (h x), k.1, max-le le k.2, added s.seen.globals r.seen.globals q.seen.globals v w g k.3)
later_both (Stops x q) m n v w s r h le g k = tt

next_both : {A : Type 0} (o : Outcome A) (f : A → Judging Operand) (m n v w : ℕ) (s : State) → Holds o m v s → ((a : A) → IsWhole (f a) n w) → Both (next o f) (max m n) (v + w) s
next_both (Gives a r) f m n v w s h g = later_both (f a r) m n v w s r h.0 h.1 h.2 ((g a).both r)
next_both (Stops x r) f m n v w s h g = tt

pub bind-whole : {A : Type 0} {p : Judging A} {f : A → Judging Operand} {m n v w : ℕ} → IsHeld p m v → ((a : A) → IsWhole (f a) n w) → IsWhole (p >>= f) (max m n) (v + w)
bind-whole {p} {f} {m} {n} {v} {w} h g = record { both = λ s. next_both (p s) f m n v w s (h.holds s) g }

less_both : (o : Outcome Operand) (m n v w : ℕ) (s : State) → m ≤ n → w ≡ v → Both o n w s → Both o m v s
less_both (Gives b q) m n v w s le e h = (h.0, h.1, (let k = h.2 in omega arith), h.3 ∙ ap (λ (x : ℕ). s.seen.globals + x) e)
less_both (Stops x q) m n v w s le e h = tt

as_whole : {p : Judging Operand} (m n v w : ℕ) → m ≤ n → w ≡ v → IsWhole p n w → IsWhole p m v
as_whole {p} m n v w le e h = record { both = λ s. less_both (p s) m n v w s le e (h.both s) }

fit_both : (o : Outcome Operand) (s : State) → Out o (λ x r. Keeps s r × (x.held ≤ 256)) → Both o 0 0 s
fit_both (Gives b q) s h = (h.0.0, h.1, omega arith, no_more s.seen.globals q.seen.globals h.0.1)
fit_both (Stops x q) s h = tt

pub fit-whole : {p : Judging Operand} → IsFit p → IsWhole p 0 0
fit-whole {p} h = record { both = λ s. fit_both (p s) s (h.fits s) }

-- the last step makes the operand
pub then-whole : {A : Type 0} {p : Judging A} {f : A → Judging Operand} {n w : ℕ} → IsHeld p n w → ((a : A) → IsFit (f a)) → IsWhole (p >>= f) n w
then-whole {n} {w} h g = as_whole n (max n 0) w (w + 0) (max_left n) (none_right w) (bind-whole h (λ a. fit-whole (g a)))

pub after-whole : {A : Type 0} {p : Judging A} {f : A → Judging Operand} {n w : ℕ} → IsKept p → ((a : A) → IsWhole (f a) n w) → IsWhole (p >>= f) n w
after-whole {n} {w} h g = as_whole n (max 0 n) w (0 + w) (max_right n) (none_left w) (bind-whole (kept-held h) g)

operand_with : Place → Elaborated → Operand
operand_with at x = record { part = x; place = at; held = 1 }

leaf_both : (at : Place) (o : Outcome Elaborated) (w : ℕ) (s : State) → Holds o 0 w s → Both (next o (λ x. pure (operand_with at x))) 0 w s
unfolding operand_with
leaf_both at (Gives x r) w s h = (h.0, omega arith, h.1, h.2)
leaf_both at (Stops f r) w s h = tt

leaf_whole : (at : Place) {made : Judging Elaborated} {w : ℕ} → IsHeld made 0 w → IsWhole (leaf at made) 0 w
unfolding leaf operand_with
leaf_whole at {made} {w} h = record { both = λ s. leaf_both at (made s) w s (h.holds s) }

pub literal-whole : (pieces : List StringPiece) → IsWhole (literal pieces) 0 (literal_size pieces + 16)
unfolding literal
literal-whole pieces = leaf_whole (pieces_place pieces)
    (last-held (new_node-kept (pieces_place pieces)) (λ n.
    last-held (string_type-kept (pieces_place pieces) (literal_size pieces)) (λ t.
    first-held (count_global-held (pieces_place pieces) (literal_size pieces)) (λ bytes. pure-kept (_)))))

whole_by : (called : Bool) (e : tree.Expr) (n w : ℕ) (o : Outcome Operand) (s : State) → judge called e s ≡ o → Both o n w s → Holds o (max (held e) n) w s
whole_by called e n w (Gives x r) s h k = (k.0, max-le (subst (λ (m : ℕ). m ≤ 256) (held-law called e x s r h) k.1) k.2, k.3)
whole_by called e n w (Stops f r) s h k = tt

-- an expression, whose parts hold so many
pub expr-whole : (called : Bool) (e : tree.Expr) {n w : ℕ} → IsWhole (judge called e) n w → IsHeld (judge called e) (max (held e) n) w
expr-whole called e {n} {w} h = record { holds = λ s. whole_by called e n w (judge called e s) s refl (h.both s) }

whole_alone : (called : Bool) (e : tree.Expr) (w : ℕ) (o : Outcome Operand) (s : State) → judge called e s ≡ o → Both o 0 w s → Holds o (held e) w s
whole_alone called e w (Gives x r) s h k = (k.0, subst (λ (m : ℕ). m ≤ 256) (held-law called e x s r h) k.1, k.3)
whole_alone called e w (Stops f r) s h k = tt

-- one without parts
pub expr-alone : (called : Bool) (e : tree.Expr) {w : ℕ} → IsWhole (judge called e) 0 w → IsHeld (judge called e) (held e) w
expr-alone called e {w} h = record { holds = λ s. whole_alone called e w (judge called e s) s refl (h.both s) }
