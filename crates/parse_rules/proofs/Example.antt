-- The laws of the small grammar: what its rules keep, that each part is read, and the promise of each answer.
use Rattle.std.proofs.Common.{◌≡◌, ℕ, zero, suc, ◌≤◌, true, false, Option, Some, None, List, [], ◌∷◌, ◌++◌, refl, subst, append_assoc, append-nil, arith}
use Rattle.parse_rules.specs.Parsers.{Parser, Read, Stopped, Syntax, first, by_first, loop}
use Rattle.parse_rules.specs.Grammars.{Language, Supported, CanBegin, InBoth, Any}
use Rattle.parse_rules.specs.Rules.{Rule}
use Rattle.parse_rules.specs.Promises.{Answered}
use Rattle.parse_rules.proofs.Combinators.{rule_pure, rule_refuse, rule_bind, rule_seq, rule_told, rule_told_end, rule_unsupported, rule_shallow, rule_deeper, rule_weaker, rule_skip_the, rule_take_above_the, rule_expect_the}
use Rattle.parse_rules.proofs.Loops.{Steps, rule_loop}
use Rattle.parse_rules.proofs.Completeness.{LeadsTo, equal, breaks, ◌▷◌, leads_next, leads_fails, leads_take_above, leads_loop, leads_loop_stops}
use Rattle.parse_rules.proofs.Promises.{one_part, answers}
use Rattle.parse_rules.specs.Example.{Token, Number, Plus, Open, Close, Sum, Digit, Paren, Add, Empty, spell, height, Level, Sums, Operands, Fits, Within, In, Kind, ANumber, AnOpen, Other, kind, is_plus, is_close, begins, leaf, operand, more, layer, sum, Valid}

-- What the rules keep: a call for each line.

abbrev pub Keeps : (d : ℕ) (p : ℕ → Parser Token Sum) → Level → (height_allowed : ℕ) → List Token → Type 0
Keeps d p level n ts = Rule Valid true false p d (In level) (λ e. height e ≤ n) Any ts

open_here : (o : Option Token) → kind o ≡ AnOpen → o ≡ Some Open
open_here (Some Open) e = refl
open_here (Some (Number n)) e = cc
open_here (Some Plus) e = cc
open_here (Some Close) e = cc
open_here None e = cc

number_here : (o : Option Token) (n : ℕ) → kind o ≡ ANumber n → o ≡ Some (Number n)
number_here (Some Open) n e = cc
number_here (Some (Number m)) n e = cc
number_here (Some Plus) n e = cc
number_here (Some Close) n e = cc
number_here None n e = cc

plus_here : (o : Option Token) → is_plus o ≡ true → o ≡ Some Plus
plus_here (Some Plus) e = refl
plus_here (Some Open) e = cc
plus_here (Some (Number m)) e = cc
plus_here (Some Close) e = cc
plus_here None e = cc

close_only : (t : Token) → is_close (Some t) ≡ true → t ≡ Close
close_only Close e = refl
close_only Open e = cc
close_only (Number m) e = cc
close_only Plus e = cc

some_digit : (level : Level) → CanBegin Valid (InBoth (In level)) []
some_digit Sums = record { part = Digit 0; more = Number 0 ∷ []; valid = (tt, tt); spells = λ g. record { within = tt; fits = tt; spelled = refl } }
some_digit Operands = record { part = Digit 0; more = Number 0 ∷ []; valid = (tt, tt); spells = λ g. record { within = tt; fits = tt; spelled = refl } }

keeps_leaf : (d : ℕ) → ((level : Level) (ts : List Token) → Keeps d (λ d'. sum d' level) level d ts) → (ts : List Token) (k : Kind) → kind (first ts) ≡ k → Keeps d (λ d'. by_first kind (leaf (sum d'))) Operands (suc d) ts
unfolding leaf
keeps_leaf d inner ts (ANumber n) e =
    rule_told kind (λ d'. leaf (sum d')) e
    (rule_seq (rule_skip_the (Number n) (number_here (first ts) n e)) (λ t s1 r1.
    rule_pure (λ g number. record { within = tt; fits = tt; spelled = rw number }) (λ _. omega arith) tt))
keeps_leaf d inner ts AnOpen e =
    rule_told kind (λ d'. leaf (sum d')) e
    (rule_seq (rule_skip_the Open (open_here (first ts) e)) (λ t s1 r1.
    rule_unsupported is_close refl
    (λ _. record { part = Paren (Digit 0); more = Number 0 ∷ Close ∷ []; valid = (tt, (tt, tt)); spells = λ g opens. record { within = tt; fits = tt; spelled = rw opens refl } })
    (λ c _ closes. record { part = Empty; more = []; valid = tt; spells = λ opens. record { within = tt; fits = tt; spelled = rw (opens, close_only c closes) refl } })
    (λ _. rule_bind (inner Sums r1) (λ b s2 r2.
    rule_seq (rule_expect_the is_close Close tt refl refl close_only) (λ c s3 r3.
    rule_pure (λ g close body opens. record { within = body.within; fits = tt; spelled = rw (opens, body.spelled, close) }) (λ _ low _. omega arith) tt)))))
keeps_leaf d inner ts Other e = rule_told_end kind (λ d'. leaf (sum d')) e (rule_refuse (some_digit Operands))

keeps_operand : (d : ℕ) → ((level : Level) (ts : List Token) → Keeps d (λ d'. sum d' level) level d ts) → (ts : List Token) → Keeps d (λ d'. operand (sum d')) Operands (suc d) ts
unfolding operand
keeps_operand d inner ts = keeps_leaf d inner ts (kind (first ts)) refl

keeps_more : (d : ℕ) → ((level : Level) (ts : List Token) → Keeps d (λ d'. sum d' level) level d ts) → Steps Valid true d (λ _. is_plus) (λ d'. more d' (sum d')) (In Sums) (λ e. height e ≤ suc d) Any
unfolding more
keeps_more d inner = record {
  never = λ a. refl;
  at_end = λ a. tt;
  steps = λ a s rest _ plus.
      rule_seq (rule_take_above_the Plus (plus_here (first rest) plus)) (λ t s1 r1.
      rule_bind (inner Operands r1) (λ b s2 r2.
      rule_pure (λ g right plus left. record { within = (left.within, right.within, right.fits); fits = tt; spelled = rw (left.spelled, plus, right.spelled, append-nil) }) (λ low_b low_a _. omega arith) tt));
}

keeps_layer : (d : ℕ) → ((level : Level) (ts : List Token) → Keeps d (λ d'. sum d' level) level d ts) → (level : Level) (ts : List Token) → Keeps d (λ d'. layer d' (sum d') level) level (suc d) ts
unfolding layer
keeps_layer d inner Operands ts = keeps_operand d inner ts
keeps_layer d inner Sums ts =
    rule_bind (keeps_operand d inner ts) (λ e s rest.
    rule_weaker (λ g b s' h. h) (λ b low. low) (λ b r _. tt) (rule_loop (keeps_more d inner) e s (λ g u. record { within = u.within; fits = tt; spelled = u.spelled }) (λ low. low) tt))

some_with : (level : Level) (t : Token) → begins (Some t) ≡ true → CanBegin Valid (InBoth (In level)) (t ∷ [])
some_with Sums (Number n) e = record { part = Digit n; more = []; valid = tt; spells = λ g. record { within = tt; fits = tt; spelled = refl } }
some_with Operands (Number n) e = record { part = Digit n; more = []; valid = tt; spells = λ g. record { within = tt; fits = tt; spelled = refl } }
some_with Sums Open e = record { part = Paren (Digit 0); more = Number 0 ∷ Close ∷ []; valid = (tt, (tt, tt)); spells = λ g. record { within = tt; fits = tt; spelled = refl } }
some_with Operands Open e = record { part = Paren (Digit 0); more = Number 0 ∷ Close ∷ []; valid = (tt, (tt, tt)); spells = λ g. record { within = tt; fits = tt; spelled = refl } }
some_with level Plus e = cc
some_with level Close e = cc

other_here : (o : Option Token) → begins o ≡ false → kind o ≡ Other
other_here (Some (Number n)) e = cc
other_here (Some Open) e = cc
other_here (Some Plus) e = refl
other_here (Some Close) e = refl
other_here None e = refl

refuses : (d : ℕ) (level : Level) (ts : List Token) → begins (first ts) ≡ false → sum d level ts ≡ Stopped Syntax ts
unfolding sum layer operand leaf
refuses zero level ts e = rw e refl
refuses (suc d) Operands ts e = rw (other_here (first ts) e) refl
refuses (suc d) Sums ts e = rw (other_here (first ts) e) refl

keeps : (d : ℕ) (level : Level) (ts : List Token) → Keeps d (λ d'. sum d' level) level d ts
unfolding sum
keeps zero level ts = rule_shallow begins refl (λ m. cc) (λ ts' e. rw e refl) (λ d' ts' e. refuses d' level ts' e) (some_digit level) (some_with level)
keeps (suc d) level ts = rule_deeper (keeps_layer d (keeps d) level ts)

-- The spelling of each part leads to it.

pub record Reading (g : Language) (e : Sum) : Type 0 where
  -- an operand is read by the rule for operands
  pub as_operand : (d : ℕ) (rest : List Token) → Fits Operands e → height e ≤ suc d → LeadsTo g (operand (sum d) (spell e ++ rest)) (Read e rest)
  -- a sum leads to the loop that goes on with it
  pub as_sum : (d : ℕ) (rest : List Token) → height e ≤ suc d → LeadsTo g (layer d (sum d) Sums (spell e ++ rest)) (loop (λ _. is_plus) (more d (sum d)) e rest)

-- an operand as the first of a sum
first_operand : (g : Language) (e : Sum) → Fits Operands e → ((d : ℕ) (rest : List Token) → Fits Operands e → height e ≤ suc d → LeadsTo g (operand (sum d) (spell e ++ rest)) (Read e rest)) → Reading g e
unfolding layer
first_operand g e fits h = record { as_operand = h; as_sum = λ d rest low. leads_next _ (h d rest fits low) (equal refl) }

high : (e : Sum) → 1 ≤ height e
high (Digit n) = omega arith
high (Paren e) = omega arith
high (Add a b) = omega arith
high Empty = omega arith

-- a whole sum or operand, one node further down
reads_sum : (g : Language) (e : Sum) → Reading g e → (d : ℕ) (rest : List Token) → height e ≤ d → is_plus (first rest) ≡ false → LeadsTo g (sum d Sums (spell e ++ rest)) (Read e rest)
unfolding sum
reads_sum g e h zero rest low ends = absurd (omega (arith, high e))
reads_sum g e h (suc d) rest low ends = h.as_sum d rest low ▷ leads_loop_stops (λ _. is_plus) (more d (sum d)) e rest ends

reads_operand : (g : Language) (e : Sum) → Reading g e → (d : ℕ) (rest : List Token) → Fits Operands e → height e ≤ d → LeadsTo g (sum d Operands (spell e ++ rest)) (Read e rest)
unfolding sum layer
reads_operand g e h zero rest fits low = absurd (omega (arith, high e))
reads_operand g e h (suc d) rest fits low = h.as_operand d rest fits low

-- no sum begins with a closing parenthesis
not_close : (e : Sum) (rest : List Token) → is_close (first (spell e ++ rest)) ≡ false
not_close (Digit n) rest = refl
not_close (Paren e) rest = refl
not_close (Add a b) rest = rw (append_assoc (spell a) (Plus ∷ spell b) rest) (not_close a (Plus ∷ (spell b ++ rest)))
not_close Empty rest = refl

reads : (g : Language) (e : Sum) → Within g e → Reading g e
unfolding operand leaf more
reads g (Digit n) within = first_operand g (Digit n) tt (λ d rest fits low. equal refl)
reads g (Paren e) within = first_operand g (Paren e) tt (λ d rest fits low. rw (append_assoc (spell e) (Close ∷ []) rest)
    (leads_fails _ (not_close e (Close ∷ rest)) (leads_next _ (reads_sum g e (reads g e within) d (Close ∷ rest) (omega arith) refl) (equal refl))))
reads g (Add a b) within = record {
  as_operand = λ d rest fits. absurd fits;
  as_sum = λ d rest low. rw (append_assoc (spell a) (Plus ∷ spell b) rest)
      ((reads g a within.0).as_sum d (Plus ∷ (spell b ++ rest)) (omega arith)
      ▷ leads_loop (keeps_more d (keeps d)) a (Plus ∷ (spell b ++ rest)) tt refl
      (leads_next _ (leads_take_above d (height a) Plus (spell b ++ rest) (omega arith)) (leads_next _ (reads_operand g b (reads g b within.1) d rest within.2 (omega arith)) (equal refl))));
}
reads g Empty within = first_operand g Empty tt (λ d rest fits low. breaks within (Close ∷ rest) refl)

-- No two sums spell the same tokens, and each answer of the parser means what it should.

all_read : (g : Language) (e : Sum) (s : List Token) (d : ℕ) → In Sums g e s → height e ≤ d → LeadsTo g (sum d Sums s) (Read e [])
all_read g e s d h low = rw (h.spelled) (subst (λ x. LeadsTo g (sum d Sums x) (Read e [])) (append-nil (spell e)) (reads_sum g e (reads g e h.within) d [] low refl))

pub one_sum : (a b : Sum) (s : List Token) → In Sums Supported a s → In Sums Supported b s → a ≡ b
one_sum = one_part (λ d. sum d Sums) (In Sums) height (λ d. keeps d Sums) all_read

pub sums_answer : (d : ℕ) (ts : List Token) → Answered Valid (In Sums) height d ts (sum d Sums ts)
sums_answer = answers (λ d. sum d Sums) (In Sums) height (λ d. keeps d Sums) all_read refl
