-- Outcomes: what is given, and where it stops, by the steps that it is made of.
use Rattle.std.proofs.Common.{◌≡◌, ℕ, ◌+◌, Bool, true, false, nat_lt, length, List, Option, Some, None, refl, ap, sym, ◌∙◌, inl, inr, ◌⊎◌, true≢false, if◌then◌else◌}
use Rattle.cc_base.specs.declared.place.Place.{Place}
use Rattle.cc_base.specs.declared.number.NodeId.{NodeId}
use Rattle.cc_base.specs.declared.fault.Fault.{Fault}
use Rattle.cc_base.specs.declared.fault.Fault.TheVariants.{Refused, TooLarge}
use Rattle.cc_base.specs.declared.fault.Limit.{Limit}
use Rattle.cc_base.specs.declared.fault.Limit.TheVariants as limit
use Rattle.cc_base.specs.declared.fault.Rule.{Rule}
use Rattle.c_typing.specs.Held.{held_with}
use Rattle.c_typing.specs.Judging.{State, Outcome, Judging, Gives, Stops, next, ◌>>=◌, pure, unless, new_node, holding}
use Rattle.c_typing.specs.Operands.{Operand}
use Rattle.c_typing.specs.Operations.{construct, leaf}
use Rattle.c_typing.specs.Tests.{Elaborated, Test, first_broken}
use Rattle.c_typing.specs.Declaring.{once_left, stopped_outside}
use Rattle.c_typing.specs.Scopes.{leaving, with_scopes}

value_in : {A : Type 0} → A → Outcome A → A
value_in d (Gives a s) = a
value_in d (Stops f s) = d

state_in : {A : Type 0} → Outcome A → State
state_in (Gives a s) = s
state_in (Stops f s) = s

fault_in : {A : Type 0} → Fault → Outcome A → Fault
fault_in d (Gives a s) = d
fault_in d (Stops f s) = f

is_given : {A : Type 0} → Outcome A → Bool
is_given (Gives a s) = true
is_given (Stops f s) = false

pub gives-value : {A : Type 0} (a b : A) (s r : State) → Gives a s ≡ Gives b r → a ≡ b
unfolding value_in
gives-value a b s r h = ap (value_in a) h

pub gives-state : {A : Type 0} (a b : A) (s r : State) → Gives a s ≡ Gives b r → s ≡ r
unfolding state_in
gives-state a b s r h = ap state_in h

pub never-gives : {A P : Type 0} (a : A) (f : Fault) (s r : State) → Stops f s ≡ Gives a r → P
unfolding is_given
never-gives a f s r h = absurd (let e : false ≡ true = ap is_given h in cc)

pub never-stops : {A P : Type 0} (a : A) (f : Fault) (s r : State) → Gives a s ≡ Stops f r → P
unfolding is_given
never-stops a f s r h = absurd (let e : true ≡ false = ap is_given h in cc)

pub stops-fault : (A : Type 0) (f g : Fault) (s r : State) → ◌≡◌ {A = Outcome A} (Stops f s) (Stops g r) → f ≡ g
unfolding fault_in
stops-fault A f g s r h = ap (fault_in f) h

pub stops-state : (A : Type 0) (f g : Fault) (s r : State) → ◌≡◌ {A = Outcome A} (Stops f s) (Stops g r) → s ≡ r
unfolding state_in
stops-state A f g s r h = ap state_in h

-- One step after another

pub bind-gives : {A B : Type 0} (m : Outcome A) (f : A → Judging B) (b : B) (r : State) → next m f ≡ Gives b r
    → (a : A) × (s : State) × (m ≡ Gives a s) × (f a s ≡ Gives b r)
bind-gives (Gives a s) f b r h = (a, s, refl, h)
bind-gives (Stops x s) f b r h = never-gives b x s r h

pub bind-stops : {A B : Type 0} (m : Outcome A) (f : A → Judging B) (x : Fault) (r : State) → next m f ≡ Stops x r
    → (m ≡ Stops x r) ⊎ ((a : A) × (s : State) × (m ≡ Gives a s) × (f a s ≡ Stops x r))
bind-stops (Gives a s) f x r h = inr (a, s, refl, h)
bind-stops {B = B} (Stops y s) f x r h =
    let fault = stops-fault B y x s r h in
    let state = stops-state B y x s r h in
    inl (λ i. Stops (fault i) (state i))

-- A scope of its own that is left also where judging stops

pub outside-gives : {A : Type 0} (m : Outcome A) (a : A) (r : State) → stopped_outside m ≡ Gives a r → m ≡ Gives a r
outside-gives (Gives b s) a r h = h
outside-gives (Stops x s) a r h = never-gives a x (once_left s) r h

outside_table : (s : State) → (once_left s).table ≡ s.table
outside_table s = by (nat_lt 1 (length s.seen.scopes.levels))
  where
    by : (b : Bool) → (if b then record s { seen = with_scopes s.seen (leaving s.seen.scopes) } else s).table ≡ s.table
    by true = refl
    by false = refl

pub outside-stops : {A : Type 0} (m : Outcome A) (x : Fault) (r : State) → stopped_outside m ≡ Stops x r → (q : State) × (m ≡ Stops x q) × (q.table ≡ r.table)
outside-stops (Gives a s) x r h = never-stops a x s r h
outside-stops {A} (Stops y s) x r h = (
  s,
  ap (λ (f : Fault). Stops f s) (stops-fault A y x (once_left s) r h),
  sym (outside_table s) ∙ ap (λ (q : State). q.table) (stops-state A y x (once_left s) r h),
)

pub unless-gives : {A : Type 0} (o : Option Fault) (go : Judging A) (s : State) (a : A) (r : State) → unless o go s ≡ Gives a r → (o ≡ None) × (go s ≡ Gives a r)
unless-gives None go s a r h = (refl, h)
unless-gives (Some f) go s a r h = never-gives a f s r h

pub unless-stops : {A : Type 0} (o : Option Fault) (go : Judging A) (s : State) (x : Fault) (r : State) → unless o go s ≡ Stops x r
    → ((o ≡ Some x) × (r ≡ s)) ⊎ ((o ≡ None) × (go s ≡ Stops x r))
unless-stops None go s x r h = inr (refl, h)
unless-stops {A} (Some f) go s x r h = inl (ap Some (stops-fault A f x s r h), sym (stops-state A f x s r h))

-- Refusals, and steps that never refuse

pub never-large : {P : Type 0} (at p : Place) (l : Limit) (t : Rule) → TooLarge at l ≡ Refused p t → P
never-large at p l t h = absurd (true≢false (ap is_large h))
  where
    is_large : Fault → Bool
    is_large (TooLarge q k) = true
    is_large other = false

abbrev pub NeverRefuses : {A : Type 0} → Outcome A → Type 0
NeverRefuses m = (p : Place) (t : Rule) (r : State) → m ≡ Stops (Refused p t) r → ⊥

pub gives-never : {A : Type 0} (a : A) (s : State) → NeverRefuses (Gives a s)
gives-never a s p t r h = never-stops a (Refused p t) s r h

pub large-never : (A : Type 0) (at : Place) (l : Limit) (s : State) → NeverRefuses {A = A} (Stops (TooLarge at l) s)
large-never A at l s p t r h = never-large at p l t (stops-fault A (TooLarge at l) (Refused p t) s r h)

pub next-never : {A B : Type 0} (m : Outcome A) (f : A → Judging B) → NeverRefuses m → ((a : A) (s : State) → NeverRefuses (f a s)) → NeverRefuses (next m f)
next-never m f first second p t r h = elim (bind-stops m f (Refused p t) r h) [ inl q ↦ first p t r q | inr q ↦ second q.0 q.1 p t r q.3 ]

-- Values held

pub holding-gives : (at : Place) (n h : ℕ) (s r : State) → holding at n s ≡ Gives h r → (h ≡ n) × (r ≡ s)
unfolding holding
holding-gives at n h s r e = by (nat_lt 256 n) e
  where
    by : (b : Bool) → (if b then Stops (TooLarge at limit.Held) s else Gives n s) ≡ Gives h r → (h ≡ n) × (r ≡ s)
    by true q = never-gives h (TooLarge at limit.Held) s r q
    by false q = (sym (gives-value n h s r q), sym (gives-state n h s r q))

pub holding-never : (at : Place) (n : ℕ) (s : State) → NeverRefuses (holding at n s)
unfolding holding
holding-never at n s = by (nat_lt 256 n)
  where
    by : (b : Bool) → NeverRefuses {A = ℕ} (if b then Stops (TooLarge at limit.Held) s else Gives n s)
    by true = large-never ℕ at limit.Held s
    by false = gives-never n s

-- Constructs

abbrev operand_with : Place → Elaborated → ℕ → Operand
operand_with begin x h = record { part = x; place = begin; held = h }

abbrev body : Place → ℕ → Judging Elaborated → Judging Operand
body begin n made = holding begin n >>= (λ h. made >>= (λ x. pure (operand_with begin x h)))

-- what a construct gives, where none of its rules is broken
pub record IsConstruct (rules : State → List Test) (begin : Place) (values : List ℕ) (made : Judging Elaborated) (s : State) (o : Operand) (r : State) : Type 0 where
  pub unbroken : first_broken (rules s) ≡ None
  pub part : made s ≡ Gives o.part r
  pub place : o.place ≡ begin
  pub held : o.held ≡ held_with 0 values

pub construct-gives : (rules : State → List Test) (begin : Place) (held : List ℕ) (made : Judging Elaborated) (s : State) (o : Operand) (r : State)
    → construct rules begin held made s ≡ Gives o r → IsConstruct rules begin held made s o r
unfolding construct
construct-gives rules begin held made s o r h =
    let go = unless-gives (first_broken (rules s)) (body begin (held_with 0 held) made) s o r h in
    let one = bind-gives (holding begin (held_with 0 held) s) (λ n. made >>= (λ x. pure (operand_with begin x n))) o r go.1 in
    let same = holding-gives begin (held_with 0 held) one.0 s one.1 one.2 in
    let two = bind-gives (made one.1) (λ x. pure (operand_with begin x one.0)) o r one.3 in
    let made_of = gives-value (operand_with begin two.0 one.0) o two.1 r two.3 in
    let part : two.0 ≡ o.part = ap (λ (v : Operand). v.part) made_of in
    let after = gives-state (operand_with begin two.0 one.0) o two.1 r two.3 in
    record {
      unbroken = go.0;
      part = ap made (sym same.1) ∙ two.2 ∙ (λ i. Gives (part i) (after i));
      place = sym (ap (λ (v : Operand). v.place) made_of);
      held = sym (ap (λ (v : Operand). v.held) made_of) ∙ same.0;
    }

-- a refusal names the first of its rules that is broken
pub construct-refuses : (rules : State → List Test) (begin : Place) (held : List ℕ) (made : Judging Elaborated) (s : State) (p : Place) (t : Rule) (r : State)
    → NeverRefuses (made s) → construct rules begin held made s ≡ Stops (Refused p t) r → (first_broken (rules s) ≡ Some (Refused p t)) × (r ≡ s)
unfolding construct
construct-refuses rules begin held made s p t r never h =
    elim (unless-stops (first_broken (rules s)) (body begin (held_with 0 held) made) s (Refused p t) r h) [
      | inl q ↦ q
      | inr q ↦ absurd (inside q.1)
    ]
  where
    made_here : (n : ℕ) (q : State) → q ≡ s → made q ≡ made s
    made_here n q e = ap made e

    inside : body begin (held_with 0 held) made s ≡ Stops (Refused p t) r → ⊥
    inside q = elim (bind-stops (holding begin (held_with 0 held) s) (λ n. made >>= (λ x. pure (operand_with begin x n))) (Refused p t) r q) [
      | inl k ↦ holding-never begin (held_with 0 held) s p t r k
      | inr k ↦ let same = holding-gives begin (held_with 0 held) k.0 s k.1 k.2 in
          elim (bind-stops (made k.1) (λ x. pure (operand_with begin x k.0)) (Refused p t) r k.3) [
            | inl m ↦ never p t r (ap made (sym same.1) ∙ m)
            | inr m ↦ never-stops (operand_with begin m.0 k.0) (Refused p t) m.1 r m.3
          ]
    ]

pub leaf-gives : (at : Place) (made : Judging Elaborated) (s : State) (o : Operand) (r : State) → leaf at made s ≡ Gives o r
    → (made s ≡ Gives o.part r) × (o.place ≡ at) × (o.held ≡ 1)
unfolding leaf
leaf-gives at made s o r h =
    let two = bind-gives (made s) (λ x. pure (operand_with at x 1)) o r h in
    let made_of = gives-value (operand_with at two.0 1) o two.1 r two.3 in
    let part : two.0 ≡ o.part = ap (λ (v : Operand). v.part) made_of in
    let after = gives-state (operand_with at two.0 1) o two.1 r two.3 in (
      two.2 ∙ (λ i. Gives (part i) (after i)),
      sym (ap (λ (v : Operand). v.place) made_of),
      sym (ap (λ (v : Operand). v.held) made_of),
    )

-- Nodes

pub new_node-gives : (at : Place) (n : NodeId) (s r : State) → new_node at s ≡ Gives n r
    → (n ≡ record { 0 = s.seen.node }) × (r ≡ record s { seen = record s.seen { node = s.seen.node + 1 } })
unfolding new_node
new_node-gives at n s r h = by (nat_lt s.seen.node 4294967295) h
  where
    by : (b : Bool) → (if b then Gives (record { 0 = s.seen.node }) (record s { seen = record s.seen { node = s.seen.node + 1 } }) else Stops (TooLarge at limit.Types) s) ≡ Gives n r
        → (n ≡ record { 0 = s.seen.node }) × (r ≡ record s { seen = record s.seen { node = s.seen.node + 1 } })
    by true q = (
      sym (gives-value (record { 0 = s.seen.node }) n (record s { seen = record s.seen { node = s.seen.node + 1 } }) r q),
      sym (gives-state (record { 0 = s.seen.node }) n (record s { seen = record s.seen { node = s.seen.node + 1 } }) r q),
    )
    by false q = never-gives n (TooLarge at limit.Types) s r q

pub new_node-never : (at : Place) (s : State) → NeverRefuses (new_node at s)
unfolding new_node
new_node-never at s = by (nat_lt s.seen.node 4294967295)
  where
    by : (b : Bool) → NeverRefuses {A = NodeId} (if b then Gives (record { 0 = s.seen.node }) (record s { seen = record s.seen { node = s.seen.node + 1 } }) else Stops (TooLarge at limit.Types) s)
    by true = gives-never (record { 0 = s.seen.node }) (record s { seen = record s.seen { node = s.seen.node + 1 } })
    by false = large-never NodeId at limit.Types s
