-- Loops keep what their steps keep, and a loop can be unrolled.
use Rattle.std.proofs.Common.{◌≡◌, ℕ, zero, suc, pred, ◌<◌, ◌≤◌, Bool, true, false, Option, None, List, [], ◌∷◌, ◌++◌, length, refl, sym, ◌∙◌, ap, subst, append_assoc, append-nil, length-append, true≢false, arith}
use Rattle.parse_rules.specs.Parsers.{Reason, Answer, Read, Stopped, Parser, first, next, pure, repeat, loop}
use Rattle.parse_rules.specs.Grammars.{Language}
use Rattle.parse_rules.specs.Rules.{Reads, Kept, Rule}
use Rattle.parse_rules.proofs.Composition.{rule_like, rule_next, Starts, same, gone, After, rests, over}
use Rattle.parse_rules.proofs.Combinators.{rule_pure, rule_may_stay, rule_weaker}

module _ {T A : Type 0} (goes_on : A → Option T → Bool) (step : A → Parser T A) where
  -- a loop stops where the next token doesn't go on
  repeat_stops : (n : ℕ) (a : A) (ts : List T) → goes_on a (first ts) ≡ false → repeat n goes_on step a ts ≡ Read a ts
  repeat_stops zero a ts e = refl
  repeat_stops (suc n) a ts e = rw e

  repeat_goes : (n : ℕ) (a : A) (ts : List T) → goes_on a (first ts) ≡ true → 1 ≤ n → repeat n goes_on step a ts ≡ next (step a ts) (repeat (pred n) goes_on step)
  repeat_goes zero a ts e h = absurd (omega arith)
  repeat_goes (suc n) a ts e h = rw e

  pub loop_stops : (a : A) (ts : List T) → goes_on a (first ts) ≡ false → loop goes_on step a ts ≡ Read a ts
  loop_stops a ts e = repeat_stops (length ts) a ts e

some_length : {T : Type 0} (s : List T) → (s ≡ [] → ⊥) → 1 ≤ length s
some_length [] h = absurd (h refl)
some_length (t ∷ s) h = omega arith

-- What the step of a loop promises: from a part that was read as s, where the next token goes on, it reads a token at
-- least, and what it reads is once more a part, which spells the tokens of both.
module _ {T A : Type 0} (Valid : T → Type 0) (cut : Bool) (d : ℕ) (goes_on : A → Option T → Bool) (step : ℕ → A → Parser T A) (In : Language → A → List T → Type 0) (Low : A → Type 0) (Ends : A → List T → Type 0) where
  pub record Steps : Type 0 where
    pub never : (a : A) → goes_on a None ≡ false
    pub at_end : (a : A) → Ends a []
    pub steps : (a : A) (s rest : List T) → Ends a rest → goes_on a (first rest) ≡ true
        → Rule Valid cut true (λ d'. step d' a) d (λ g b s'. In g a s → In g b (s ++ s')) (λ b. Low a → Low b) Ends rest

module _ {T A : Type 0} {Valid : T → Type 0} {cut : Bool} {d : ℕ} {goes_on : A → Option T → Bool} {step : ℕ → A → Parser T A} {In : Language → A → List T → Type 0} {Low : A → Type 0} {Ends : A → List T → Type 0} (h : Steps Valid cut d goes_on step In Low Ends) where
  -- with fuel for each list, as long as it is enough for those that matter
  stopped : (F : List T → ℕ) (a : A) (s ts : List T) → Ends a ts → goes_on a (first ts) ≡ false
      → Rule Valid cut false (λ d' ts'. repeat (F ts') goes_on (step d') a ts') d (λ g b s'. In g a s → In g b (s ++ s')) (λ b. Low a → Low b) (λ b rest. Ends b rest × (goes_on b (first rest) ≡ false)) ts
  stopped F a s ts ends e =
      rule_like (λ d' ts'. repeat (F ts') goes_on (step d') a ts') (λ _. pure a) (λ d' ts' _ start. stays d' ts' start)
      (rule_pure (λ g u. rw (append-nil s) u) (λ low. low) (ends, e))
    where
      stays : (d' : ℕ) (ts' : List T) → Starts false ts ts' → repeat (F ts') goes_on (step d') a ts' ≡ Read a ts'
      stays d' ts' (same alike) = repeat_stops goes_on (step d') (F ts') a ts' (ap (goes_on a) alike ∙ e)
      stays d' ts' (gone _ nil) = repeat_stops goes_on (step d') (F ts') a ts' (rw nil (h.never a))

  some_left : (a : A) (ts : List T) → goes_on a (first ts) ≡ true → 1 ≤ length ts
  some_left a [] e = absurd (true≢false (sym e ∙ h.never a))
  some_left a (t ∷ ts) e = omega arith

  -- What the first step keeps, where the loop begins with what may not yet be a part of the grammar.
  abbrev pub First : A → List T → (Start : Language → Type 0) → (LowStart : Type 0) → List T → Type 0
  First a s Start LowStart ts = Rule Valid cut true (λ d'. step d' a) d (λ g b s'. Start g → In g b (s ++ s')) (λ b. LowStart → Low b) Ends ts

  -- one round and then the rest of the loop, which keeps what `inner` says where it reads fewer tokens
  round : (Start : Language → Type 0) (LowStart : Type 0) (n : ℕ) (F : List T → ℕ) → ((ts' : List T) → length ts' ≤ F ts') → (a : A) (s ts : List T) → length ts ≤ suc n → goes_on a (first ts) ≡ true → First a s Start LowStart ts
      → ((F' : List T → ℕ) → ((ts' : List T) → length ts' ≤ F' ts') → (b : A) (s' rest : List T) → length rest ≤ n → Ends b rest
      → Rule Valid cut false (λ d' ts'. repeat (F' ts') goes_on (step d') b ts') d (λ g c s''. In g b s' → In g c (s' ++ s'')) (λ c. Low b → Low c) (λ c rest'. Ends c rest' × (goes_on c (first rest') ≡ false)) rest)
      → Rule Valid cut true (λ d' ts'. repeat (F ts') goes_on (step d') a ts') d (λ g b s'. Start g → In g b (s ++ s')) (λ b. LowStart → Low b) (λ b rest. Ends b rest × (goes_on b (first rest) ≡ false)) ts
  round Start LowStart n F enough a s ts short e begins inner =
      rule_like (λ d' ts'. repeat (F ts') goes_on (step d') a ts') (λ d' ts'. next (step d' a ts') (repeat (pred (F ts')) goes_on (step d'))) (λ d' ts' _ start. unroll d' ts' start)
      (rule_next T A A Valid cut true false d (λ g b s'. Start g → In g b (s ++ s')) (λ b. LowStart → Low b) Ends
      (λ g b s'. Start g → In g b (s ++ s')) (λ b. LowStart → Low b) (λ b rest. Ends b rest × (goes_on b (first rest) ≡ false)) ts
      (λ d'. step d' a) (λ ts' d'. repeat (pred (F ts')) goes_on (step d')) begins continues h.at_end)
    where
      unroll : (d' : ℕ) (ts' : List T) → Starts true ts ts' → repeat (F ts') goes_on (step d') a ts' ≡ next (step d' a ts') (repeat (pred (F ts')) goes_on (step d'))
      unroll d' ts' (same alike) =
          let on : goes_on a (first ts') ≡ true = ap (goes_on a) alike ∙ e in
          repeat_goes goes_on (step d') (F ts') a ts' on (omega (arith, some_left a ts' on, enough ts'))
      unroll d' ts' (gone not_true _) = absurd (true≢false not_true)

      regroup : (b : A) (s1 : List T) (g : Language) (c : A) (s' : List T) → (In g b (s ++ s1) → In g c ((s ++ s1) ++ s')) → (Start g → In g b (s ++ s1)) → Start g → In g c (s ++ (s1 ++ s'))
      regroup b s1 g c s' on u v = rw (← append_assoc s s1 s') (on (u v))

      continues : (b : A) (s1 rest : List T) → Ends b rest → After true ts s1 rest
          → Rule Valid cut false (λ d' rest'. repeat (pred (F (s1 ++ rest'))) goes_on (step d') b rest') d (λ g c s'. (Start g → In g b (s ++ s1)) → Start g → In g c (s ++ (s1 ++ s'))) (λ c. (LowStart → Low b) → LowStart → Low c) (λ c rest'. Ends c rest' × (goes_on c (first rest') ≡ false)) rest
      continues b s1 rest ends_b (over nil) =
          rule_weaker (regroup b s1) (λ c low u v. low (u v)) (λ c rest' x. x)
          (stopped (λ rest'. pred (F (s1 ++ rest'))) b (s ++ s1) rest ends_b (rw nil (h.never b)))
      continues b s1 rest ends_b (rests whole moved) =
          let longer : 1 ≤ length s1 = some_length s1 (moved refl) in
          rule_weaker (regroup b s1) (λ c low u v. low (u v)) (λ c rest' x. x)
          (inner (λ rest'. pred (F (s1 ++ rest'))) (λ rest'. omega (arith, enough (s1 ++ rest'), length-append s1 rest')) b (s ++ s1) rest (omega (arith, ap length whole, length-append s1 rest)) ends_b)

  rule_repeat : (n : ℕ) (F : List T → ℕ) → ((ts' : List T) → length ts' ≤ F ts') → (a : A) (s ts : List T) → length ts ≤ n → Ends a ts
      → Rule Valid cut false (λ d' ts'. repeat (F ts') goes_on (step d') a ts') d (λ g b s'. In g a s → In g b (s ++ s')) (λ b. Low a → Low b) (λ b rest. Ends b rest × (goes_on b (first rest) ≡ false)) ts
  rule_repeat zero F enough a s [] short ends = stopped F a s [] ends (h.never a)
  rule_repeat zero F enough a s (t ∷ ts) short ends = absurd (omega arith)
  rule_repeat (suc n) F enough a s ts short ends = by_test (goes_on a (first ts)) refl (rule_repeat n)
    where
      by_test : (b : Bool) → goes_on a (first ts) ≡ b
          → ((F' : List T → ℕ) → ((ts' : List T) → length ts' ≤ F' ts') → (b : A) (s' rest : List T) → length rest ≤ n → Ends b rest
          → Rule Valid cut false (λ d' ts'. repeat (F' ts') goes_on (step d') b ts') d (λ g c s''. In g b s' → In g c (s' ++ s'')) (λ c. Low b → Low c) (λ c rest'. Ends c rest' × (goes_on c (first rest') ≡ false)) rest)
          → Rule Valid cut false (λ d' ts'. repeat (F ts') goes_on (step d') a ts') d (λ g b s'. In g a s → In g b (s ++ s')) (λ b. Low a → Low b) (λ b rest. Ends b rest × (goes_on b (first rest) ≡ false)) ts
      by_test true e inner = rule_may_stay (round (λ g. In g a s) (Low a) n F enough a s ts short e (h.steps a s ts ends e) inner)
      by_test false e inner = stopped F a s ts ends e

  -- A loop keeps what its steps keep. It begins with a, which was read as s; it reads a token where one goes on.
  pub rule_loop : {Start : Language → Type 0} {LowStart : Type 0} {ts : List T} (a : A) (s : List T) → ((g : Language) → Start g → In g a s) → (LowStart → Low a) → Ends a ts
      → Rule Valid cut false (λ d'. loop goes_on (step d') a) d (λ g b s'. Start g → In g b (s ++ s')) (λ b. LowStart → Low b) (λ b rest. Ends b rest × (goes_on b (first rest) ≡ false)) ts
  rule_loop {Start} {LowStart} {ts} a s starts low ends =
      rule_weaker (λ g b s' on u. on (starts g u)) (λ b on u. on (low u)) (λ b rest x. x)
      (rule_repeat (length ts) length (λ ts'. omega arith) a s ts (omega arith) ends)

  -- the same, where it is known that a token goes on
  pub rule_loop_moves : {Start : Language → Type 0} {LowStart : Type 0} {ts : List T} (a : A) (s : List T) → ((g : Language) → Start g → In g a s) → (LowStart → Low a) → Ends a ts
      → goes_on a (first ts) ≡ true
      → Rule Valid cut true (λ d'. loop goes_on (step d') a) d (λ g b s'. Start g → In g b (s ++ s')) (λ b. LowStart → Low b) (λ b rest. Ends b rest × (goes_on b (first rest) ≡ false)) ts
  rule_loop_moves {Start} {LowStart} {ts} a s starts low ends e =
      rule_weaker (λ g b s' on u. on (starts g u)) (λ b on u. on (low u)) (λ b rest x. x)
      (round (λ g. In g a s) (Low a) (length ts) length (λ ts'. omega arith) a s ts (omega arith) e (h.steps a s ts ends e) (rule_repeat (length ts)))

  -- the same, where what the loop begins with is no part of the grammar by itself, but what its first step reads is
  pub rule_loop_first : {Start : Language → Type 0} {LowStart : Type 0} {ts : List T} (a : A) (s : List T) → goes_on a (first ts) ≡ true → First a s Start LowStart ts
      → Rule Valid cut true (λ d'. loop goes_on (step d') a) d (λ g b s'. Start g → In g b (s ++ s')) (λ b. LowStart → Low b) (λ b rest. Ends b rest × (goes_on b (first rest) ≡ false)) ts
  rule_loop_first {Start} {LowStart} {ts} a s e begins = round Start LowStart (length ts) length (λ ts'. omega arith) a s ts (omega arith) e begins (rule_repeat (length ts))

  -- Unrolling.

  -- what is read by a step leaves fewer tokens
  shorter : (ts pre rest : List T) → ts ≡ pre ++ rest → (true ≡ true → pre ≡ [] → ⊥) → length rest < length ts
  shorter ts pre rest whole moved = omega (arith, some_length pre (moved refl), ap length whole, length-append pre rest)

  -- enough fuel is as good as any
  repeat_same : (n m : ℕ) (a : A) (ts : List T) → Ends a ts → length ts ≤ n → length ts ≤ m → repeat n goes_on (step d) a ts ≡ repeat m goes_on (step d) a ts
  repeat_same zero m a [] ends n_enough m_enough = sym (repeat_stops goes_on (step d) m a [] (h.never a))
  repeat_same zero m a (t ∷ ts) ends n_enough m_enough = absurd (omega arith)
  repeat_same (suc n) m a ts ends n_enough m_enough = by_test (goes_on a (first ts)) refl (repeat_same n (pred m))
    where
      by_answer : (r : Answer T A) → Kept Valid cut true (λ d'. step d' a) d (λ g b s'. In g a [] → In g b s') (λ b. Low a → Low b) Ends ts r
          → ((b : A) (rest : List T) → Ends b rest → length rest ≤ n → length rest ≤ pred m → repeat n goes_on (step d) b rest ≡ repeat (pred m) goes_on (step d) b rest)
          → next r (repeat n goes_on (step d)) ≡ next r (repeat (pred m) goes_on (step d))
      by_answer (Read b rest) k inner = inner b rest k.ends (omega (arith, shorter ts k.pre rest k.whole k.moved)) (omega (arith, shorter ts k.pre rest k.whole k.moved))
      by_answer (Stopped why rest) k inner = refl

      by_test : (b : Bool) → goes_on a (first ts) ≡ b
          → ((b : A) (rest : List T) → Ends b rest → length rest ≤ n → length rest ≤ pred m → repeat n goes_on (step d) b rest ≡ repeat (pred m) goes_on (step d) b rest)
          → repeat (suc n) goes_on (step d) a ts ≡ repeat m goes_on (step d) a ts
      by_test true e inner =
          repeat_goes goes_on (step d) (suc n) a ts e (omega arith) ∙ by_answer (step d a ts) (h.steps a [] ts ends e).kept inner
          ∙ sym (repeat_goes goes_on (step d) m a ts e (omega (arith, some_left a ts e)))
      by_test false e inner = repeat_stops goes_on (step d) (suc n) a ts e ∙ sym (repeat_stops goes_on (step d) m a ts e)

  -- a loop whose step reads b goes on with b
  pub loop_goes : (a : A) (ts : List T) (b : A) (rest : List T) → Ends a ts → goes_on a (first ts) ≡ true → step d a ts ≡ Read b rest
      → loop goes_on (step d) a ts ≡ loop goes_on (step d) b rest
  loop_goes a ts b rest ends e reads = by_kept (subst (λ r. Kept Valid cut true (λ d'. step d' a) d (λ g b s'. In g a [] → In g b s') (λ b. Low a → Low b) Ends ts r) reads (h.steps a [] ts ends e).kept)
    where
      by_kept : Reads Valid cut true (λ d'. step d' a) d (λ g b s'. In g a [] → In g b s') (λ b. Low a → Low b) Ends ts b rest → loop goes_on (step d) a ts ≡ loop goes_on (step d) b rest
      by_kept k =
          repeat_goes goes_on (step d) (length ts) a ts e (some_left a ts e) ∙ ap (λ r. next r (repeat (pred (length ts)) goes_on (step d))) reads
          ∙ repeat_same (pred (length ts)) (length rest) b rest k.ends (omega (arith, shorter ts k.pre rest k.whole k.moved)) (omega arith)

  -- a loop stops where its step does
  pub loop_halts : (a : A) (ts : List T) (why : Reason) (rest : List T) → goes_on a (first ts) ≡ true → step d a ts ≡ Stopped why rest → loop goes_on (step d) a ts ≡ Stopped why rest
  loop_halts a ts why rest e stops = repeat_goes goes_on (step d) (length ts) a ts e (some_left a ts e) ∙ ap (λ r. next r (repeat (pred (length ts)) goes_on (step d))) stops
