-- The rounds of a loop whose going on depends on what was read so far, of which `turn` of `end` are done.
use Rattle.std.proofs.Common.{◌≡◌, ◌≢◌, ℕ, zero, suc, ◌-◌, ◌<◌, Bool, true, false, Option, List, refl, sym, ap, IsTrue, IsFalse, ◌+◌, ◌∙◌, arith}
use Rattle.parse_rules.specs.Parsers.{Answer, Read, Stopped, Parser, first, next, repeat}
use Rattle.c_tree.specs.Symbols.{Symbol}
use Rattle.c_parse_words.specs.declared.stop.Stop.{Stop}
use Rattle.c_parse_words.specs.declared.stop.Stop.TheVariants.{NoMemory}
use Rattle.c_parse_words.specs.declared.next.Next.{Next}
use Rattle.c_parse_words.specs.Seen.{next_view, reason_of}

repeat_stops : {T A : Type 0} (n : ℕ) (go : A → Option T → Bool) (step : A → Parser T A) (a : A) (ts : List T) → go a (first ts) ≡ false → repeat n go step a ts ≡ Read a ts
repeat_stops zero go step a ts e = refl
repeat_stops (suc n) go step a ts e = rw e

repeat_goes : {T A : Type 0} (n : ℕ) (go : A → Option T → Bool) (step : A → Parser T A) (a : A) (ts : List T) → go a (first ts) ≡ true → repeat (suc n) go step a ts ≡ next (step a ts) (repeat n go step)
repeat_goes n go step a ts e = rw e

-- A loop's answer is what the rounds that are left give from what was read so far.
pub record IsInStateRound {A : Type 0} (whole : Answer Symbol A) (end turn : ℕ) (go : A → Option Symbol → Bool) (step : A → Parser Symbol A) (a : A) (ts : List Symbol) : Type 0 where
  pub so_far : whole ≡ repeat (end - turn) go step a ts

module _ {A : Type 0} {whole : Answer Symbol A} {end turn : ℕ} {go : A → Option Symbol → Bool} {step : A → Parser Symbol A} {a : A} {ts : List Symbol}
    (round : IsInStateRound whole end turn go step a ts) (n : Next) (seen : next_view n ≡ first ts) (says : Bool) (told : says ≡ go a (next_view n)) where
  went : (b : Bool) → says ≡ b → go a (first ts) ≡ b
  went b e = ap (go a) (sym seen) ∙ sym told ∙ e

  pub state_stops : IsFalse says → whole ≡ Read a ts
  state_stops e = round.so_far ∙ repeat_stops (end - turn) go step a ts (went false e)

  one_more : turn < end → says ≡ true → whole ≡ next (step a ts) (repeat (end - (turn + 1)) go step)
  one_more l e =
      let one : end - turn ≡ suc (end - (turn + 1)) = omega arith in
      round.so_far ∙ ap (λ n. repeat n go step a ts) one ∙ repeat_goes (end - (turn + 1)) go step a ts (went true e)

  pub state_goes : turn < end → IsTrue says → {b : A} {left : List Symbol} → step a ts ≡ Read b left → IsInStateRound whole end (turn + 1) go step b left
  state_goes l e r = record { so_far = one_more l e ∙ ap (λ answer. next answer (repeat (end - (turn + 1)) go step)) r }

  pub state_fails : turn < end → IsTrue says → {why : Stop} {left : List Symbol} → (why ≢ NoMemory → step a ts ≡ Stopped (reason_of why) left)
      → why ≢ NoMemory → whole ≡ Stopped (reason_of why) left
  state_fails l e r other = one_more l e ∙ ap (λ answer. next answer (repeat (end - (turn + 1)) go step)) (r other)
