-- Completeness: the spelling of a part leads to the part. Of a part of the extended language it may also lead to a stop at
-- what isn't supported, and to no other answer.
use Rattle.std.proofs.Common.{◌≡◌, ℕ, ◌≤◌, Bool, true, false, cond, Option, Some, List, ◌∷◌, refl, ◌∙◌, ap}
use Rattle.std.proofs.lemmas.Bool.{le-ltb}
use Rattle.parse_rules.specs.Parsers.{Unsupported, Answer, Read, Stopped, Parser, first, next, expect, by_first, take_above, loop}
use Rattle.parse_rules.specs.Grammars.{Language, Supported, IsExtended}
use Rattle.parse_rules.proofs.Loops.{Steps, loop_goes, loop_stops, loop_halts}

infixr 15 ◌▷◌
-- The answer r is q, or, for a part of the extended language, a stop at what isn't supported.
pub data LeadsTo {T A : Type 0} (g : Language) (r q : Answer T A) : Type 0 where
  equal : r ≡ q → LeadsTo g r q
  breaks : IsExtended g → (rest : List T) → r ≡ Stopped Unsupported rest → LeadsTo g r q

-- in the supported language it is the equation
pub exactly : {T A : Type 0} {r q : Answer T A} → LeadsTo Supported r q → r ≡ q
exactly (equal e) = e
exactly (breaks w rest e) = absurd w

-- one after another
pub ◌▷◌ : {T A : Type 0} {g : Language} {r q s : Answer T A} → LeadsTo g r q → LeadsTo g q s → LeadsTo g r s
◌▷◌ (equal e) (equal f) = equal (e ∙ f)
◌▷◌ (equal e) (breaks w rest f) = breaks w rest (e ∙ f)
◌▷◌ (breaks w rest e) h = breaks w rest e

-- the first of two parsers leads to a part, and the second, with that, to q
pub leads_next : {T A B : Type 0} {g : Language} {r : Answer T A} {a : A} {rest : List T} (f : A → Parser T B) {q : Answer T B}
    → LeadsTo g r (Read a rest) → LeadsTo g (f a rest) q → LeadsTo g (next r f) q
leads_next f (equal e) h = equal (ap (λ x. next x f) e) ▷ h
leads_next f (breaks w rest e) h = breaks w rest (ap (λ x. next x f) e)

-- by a test (`branch`, `unsupported` and `expect` are such), or by what the next token tells
pub leads_passes : {T A : Type 0} {g : Language} {b : Bool} {r q : Answer T A} (s : Answer T A) → b ≡ true → LeadsTo g r q → LeadsTo g (cond b r s) q
leads_passes s e h = rw e h

pub leads_fails : {T A : Type 0} {g : Language} {b : Bool} {s q : Answer T A} (r : Answer T A) → b ≡ false → LeadsTo g s q → LeadsTo g (cond b r s) q
leads_fails r e h = rw e h

pub leads_first : {T X A : Type 0} {g : Language} (tells : Option T → X) (p : X → Parser T A) (ts : List T) {x : X} {q : Answer T A} → tells (first ts) ≡ x → LeadsTo g (p x ts) q → LeadsTo g (by_first tells p ts) q
leads_first tells p ts e h = rw e h

-- a token that passes is taken
pub leads_expect : {T : Type 0} {g : Language} (test : Option T → Bool) (t : T) (ts : List T) → test (Some t) ≡ true → LeadsTo g (expect test (t ∷ ts)) (Read t ts)
leads_expect test t ts e = rw e (equal refl)

pub leads_take_above : {T : Type 0} {g : Language} (d h : ℕ) (t : T) (ts : List T) → h ≤ d → LeadsTo g (take_above d h (t ∷ ts)) (Read t ts)
leads_take_above d h t ts le = rw (le-ltb d h le) (equal refl)

-- what isn't supported stops the parser
pub leads_unsupported : {T A : Type 0} {g : Language} {b : Bool} {q : Answer T A} (ts : List T) (r : Answer T A) → IsExtended g → b ≡ true → LeadsTo g (cond b (Stopped Unsupported ts) r) q
leads_unsupported ts r w e = breaks w ts (rw e refl)

module _ {T A : Type 0} {Valid : T → Type 0} {cut : Bool} {d : ℕ} {goes_on : A → Option T → Bool} {step : ℕ → A → Parser T A} {In : Language → A → List T → Type 0} {Low : A → Type 0} {Ends : A → List T → Type 0} (h : Steps Valid cut d goes_on step In Low Ends) where
  -- where the step leads to b, the loop at a leads to the loop at b
  pub leads_loop : {g : Language} (a : A) (ts : List T) {b : A} {rest : List T} → Ends a ts → goes_on a (first ts) ≡ true → LeadsTo g (step d a ts) (Read b rest)
      → LeadsTo g (loop goes_on (step d) a ts) (loop goes_on (step d) b rest)
  leads_loop a ts {b} {rest} ends e (equal reads) = equal (loop_goes h a ts b rest ends e reads)
  leads_loop a ts ends e (breaks w rest stops) = breaks w rest (loop_halts h a ts Unsupported rest e stops)

-- the loop stops where the next token doesn't go on
pub leads_loop_stops : {T A : Type 0} {g : Language} (goes_on : A → Option T → Bool) (step : A → Parser T A) (a : A) (ts : List T) → goes_on a (first ts) ≡ false → LeadsTo g (loop goes_on step a ts) (Read a ts)
leads_loop_stops goes_on step a ts e = equal (loop_stops goes_on step a ts e)
