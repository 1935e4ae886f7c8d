-- The laws of the combinators: a rule keeps what its parts keep. A proof of a rule is one call for each line of the
-- rule, in the same order.
use Rattle.std.proofs.Common.{◌≡◌, ℕ, zero, suc, ◌≤◌, Bool, true, false, cond, nat_lt, Option, Some, None, List, [], ◌∷◌, ◌++◌, ◌⊎◌, inl, inr, refl, sym, ◌∙◌, ap, arith}
use Rattle.std.proofs.lemmas.Bool.{ltb-false, le-ltb, true≢false}
use Rattle.parse_rules.specs.Parsers.{Syntax, Unsupported, Deep, Answer, Read, Stopped, Parser, first, pure, refuse, skip, expect, branch, by_first, take_above, unsupported, ◌>>=◌, ◌>>◌}
use Rattle.parse_rules.specs.Grammars.{Language, Extended, CanBegin, InBoth, IsToken, Any}
use Rattle.parse_rules.specs.Rules.{Instead, alike, nothing, Kept, Rule}
use Rattle.parse_rules.proofs.Composition.{rule_like, rule_next, Starts, same, gone}

module _ {T A : Type 0} {Valid : T → Type 0} {cut : Bool} {d : ℕ} {In : Language → A → List T → Type 0} {Low : A → Type 0} {Ends : A → List T → Type 0} {ts : List T} where
  -- a rule for a grammar keeps as much for a grammar that has all its parts, and for weaker claims
  pub rule_weaker : {In' : Language → A → List T → Type 0} {Low' : A → Type 0} {Ends' : A → List T → Type 0} {p : ℕ → Parser T A} {moves : Bool}
      → ((g : Language) (a : A) (s : List T) → In g a s → In' g a s) → ((a : A) → Low a → Low' a) → ((a : A) (rest : List T) → Ends a rest → Ends' a rest)
      → Rule Valid cut moves p d In Low Ends ts → Rule Valid cut moves p d In' Low' Ends' ts
  rule_weaker {In'} {Low'} {Ends'} {p} {moves} wider lower looser h = record { kept = by_answer (p d ts) h.kept }
    where
      both : (pre : List T) → CanBegin Valid (InBoth In) pre → CanBegin Valid (InBoth In') pre
      both pre c = record { part = c.part; more = c.more; valid = c.valid; spells = λ g. wider g c.part (pre ++ c.more) (c.spells g) }

      by_answer : (r : Answer T A) → Kept Valid cut moves p d In Low Ends ts r → Kept Valid cut moves p d In' Low' Ends' ts r
      by_answer (Read a rest) k = record { pre = k.pre; whole = k.whole; moved = k.moved; spells = λ g. wider g a k.pre (k.spells g); low = lower a k.low; ends = looser a rest k.ends; again = k.again }
      by_answer (Stopped Syntax rest) k = record { pre = k.pre; whole = k.whole; moved = k.moved; begins = both k.pre k.begins; again = k.again }
      by_answer (Stopped Unsupported rest) k = record { pre = k.pre; token = k.token; post = k.post; place = k.place; whole = k.whole; begins = both k.pre k.begins; in_extended = record { part = k.in_extended.part; more = k.in_extended.more; valid = k.in_extended.valid; spells = wider Extended k.in_extended.part ((k.pre ++ k.token ∷ []) ++ k.in_extended.more) k.in_extended.spells }; again = k.again }
      by_answer (Stopped Deep rest) k = record { pre = k.pre; token = k.token; post = k.post; place = k.place; whole = k.whole; begins = both (k.pre ++ k.token ∷ []) k.begins; again = k.again }

the_token : {T : Type 0} (t u : T) (s : List T) → IsToken (λ o. o ≡ Some t) u s → s ≡ t ∷ []
the_token t u s h =
    let spelled : s ≡ u ∷ [] = h.spelled in
    let passes : Some u ≡ Some t = h.passes in
    cc

module _ {T A : Type 0} {Valid : T → Type 0} {cut : Bool} {d : ℕ} where
  -- what is given without reading is in the grammar with no tokens
  pub rule_pure : {a : A} {In : Language → A → List T → Type 0} {Low : A → Type 0} {Ends : A → List T → Type 0} {ts : List T}
      → ((g : Language) → In g a []) → Low a → Ends a ts → Rule Valid cut false (λ _. pure a) d In Low Ends ts
  rule_pure {a} {In} {Low} {Ends} {ts} spells low ends = record { kept = record { pre = []; whole = refl; moved = λ h _. cc; spells = spells; low = low; ends = ends; again = λ d' rest' _ _. refl } }

  -- where the next token is refused, some part goes on from here
  pub rule_refuse : {In : Language → A → List T → Type 0} {Low : A → Type 0} {Ends : A → List T → Type 0} {ts : List T}
      → CanBegin Valid (InBoth In) [] → Rule Valid cut false (λ _. refuse) d In Low Ends ts
  rule_refuse {In} {Low} {Ends} {ts} begins = record { kept = record { pre = []; whole = refl; moved = λ h _. cc; begins = begins; again = λ d' rest' _ _. refl } }

module _ {T : Type 0} {Valid : T → Type 0} {cut : Bool} {d : ℕ} where
  -- the next token is taken where P holds of it
  pub rule_skip : {P : Option T → Type 0} {ts : List T} → P (first ts) → (P None → ⊥)
      → Rule Valid cut true (λ _. skip) d (λ _. IsToken P) (λ _. Unit {0}) Any ts
  rule_skip {P} {ts = []} here never = absurd (never here)
  rule_skip {P} {ts = t ∷ ts} here never = record {
    kept = record {
      pre = t ∷ [];
      whole = refl;
      moved = λ _ e. cc;
      spells = λ _. record { spelled = refl; passes = here };
      low = tt;
      ends = tt;
      again = λ d' rest' _ _. refl;
    };
  }

  -- a token that goes above a part of height h is taken where P holds of it; then h nodes are allowed below
  pub rule_take_above : {h : ℕ} {P : Option T → Type 0} {ts : List T} → P (first ts) → (P None → ⊥)
      → Rule Valid cut true (λ d'. take_above d' h) d (λ _. IsToken P) (λ _. h ≤ d) Any ts
  rule_take_above {h} {P} {ts = []} here never = absurd (never here)
  rule_take_above {h} {P} {ts = t ∷ ts} here never = record { kept = by_room (nat_lt d h) refl }
    where
      token : (g : Language) → IsToken P t (t ∷ [])
      token g = record { spelled = refl; passes = here }

      by_room : (b : Bool) → nat_lt d h ≡ b → Kept Valid cut true (λ d'. take_above d' h) d (λ _. IsToken P) (λ _. h ≤ d) Any (t ∷ ts) (cond b (Stopped Deep (t ∷ ts)) (Read t ts))
      by_room true e = record {
        pre = [];
        token = t;
        post = ts;
        place = refl;
        whole = refl;
        begins = record { part = t; more = []; valid = tt; spells = token };
        again = λ post'. rw e;
      }
      by_room false e =
          let fits : h ≤ d = ltb-false d h e in
          record {
            pre = t ∷ [];
            whole = refl;
            moved = λ _ e. cc;
            spells = token;
            low = fits;
            ends = tt;
            again = λ d' rest' le near. rw (le-ltb d' h (omega arith));
          }

  -- the next token is taken if it passes a test and refused else; t is one that passes
  pub rule_expect : (test : Option T → Bool) {ts : List T} (t : T) → Valid t → test (Some t) ≡ true → test None ≡ false
      → Rule Valid cut false (λ _. expect test) d (λ _. IsToken (λ o. test o ≡ true)) (λ _. Unit {0}) Any ts
  rule_expect test {ts} t valid passes none = record { kept = by_test (test (first ts)) refl }
    where
      by_test : (b : Bool) → test (first ts) ≡ b → Kept Valid cut false (λ _. expect test) d (λ _. IsToken (λ o. test o ≡ true)) (λ _. Unit {0}) Any ts (cond b (skip ts) (Stopped Syntax ts))
      by_test true e = taken ts e
        where
          taken : (ts : List T) → test (first ts) ≡ true → Kept Valid cut false (λ _. expect test) d (λ _. IsToken (λ o. test o ≡ true)) (λ _. Unit {0}) Any ts (skip ts)
          taken [] e = cc
          taken (u ∷ us) e = record {
            pre = u ∷ [];
            whole = refl;
            moved = λ _ e. cc;
            spells = λ _. record { spelled = refl; passes = e };
            low = tt;
            ends = tt;
            again = λ d' rest' _ _. rw e;
          }
      by_test false e = record {
        pre = [];
        whole = refl;
        moved = λ h _. cc;
        begins = record { part = t; more = t ∷ []; valid = (valid, tt); spells = λ _. record { spelled = refl; passes = passes } };
        again = λ d' rest' _ near. refused rest' near;
      }
        where
          refused : (rest' : List T) → Instead cut ts rest' → expect test rest' ≡ Stopped Syntax rest'
          refused rest' (alike h) = rw (ap test h ∙ e)
          refused rest' (nothing _ h) = rw h (rw none)

  -- the same for one token, of which it is known or tested that it is this one
  pub rule_skip_the : (t : T) {ts : List T} → first ts ≡ Some t → Rule Valid cut true (λ _. skip) d (λ _ _ s. s ≡ t ∷ []) (λ _. Unit {0}) Any ts
  rule_skip_the t here = rule_weaker (λ g u s h. the_token t u s h) (λ u low. low) (λ u rest ends. ends) (rule_skip {P = λ o. o ≡ Some t} here (λ h. cc))

  pub rule_take_above_the : (t : T) {h : ℕ} {ts : List T} → first ts ≡ Some t → Rule Valid cut true (λ d'. take_above d' h) d (λ _ _ s. s ≡ t ∷ []) (λ _. h ≤ d) Any ts
  rule_take_above_the t here = rule_weaker (λ g u s h. the_token t u s h) (λ u low. low) (λ u rest ends. ends) (rule_take_above {P = λ o. o ≡ Some t} here (λ h. cc))

  pub rule_expect_the : (test : Option T → Bool) {ts : List T} (t : T) → Valid t → test (Some t) ≡ true → test None ≡ false → ((u : T) → test (Some u) ≡ true → u ≡ t)
      → Rule Valid cut false (λ _. expect test) d (λ _ _ s. s ≡ t ∷ []) (λ _. Unit {0}) Any ts
  rule_expect_the test t valid passes none only = rule_weaker (λ g u s h. h.spelled ∙ ap (λ x. x ∷ []) (only u h.passes)) (λ u low. low) (λ u rest ends. ends) (rule_expect test t valid passes none)

module _ {T A B : Type 0} {Valid : T → Type 0} {cut moves more_moves : Bool} {d : ℕ} {U : Language → A → List T → Type 0} {LowU : A → Type 0} {In : Language → B → List T → Type 0} {Low : B → Type 0} {Ends : B → List T → Type 0} {p : ℕ → Parser T A} {ts : List T} where
  -- one rule after another, where the second may rely on what follows a part of the first
  pub rule_bind_ends : {EndsU : A → List T → Type 0} {f : ℕ → A → Parser T B} → Rule Valid cut moves p d U LowU EndsU ts
      → ((a : A) → EndsU a [])
      → ((a : A) (s rest : List T) → EndsU a rest → Rule Valid cut more_moves (λ d'. f d' a) d (λ g b s'. U g a s → In g b (s ++ s')) (λ b. LowU a → Low b) Ends rest)
      → Rule Valid cut moves (λ d'. p d' >>= f d') d In Low Ends ts
  rule_bind_ends {EndsU} {f} h at_end continues = rule_next T A B Valid cut moves more_moves d U LowU EndsU In Low Ends ts p (λ _. f) h (λ a s rest e _. continues a s rest e) at_end

  pub rule_seq_ends : {EndsU : A → List T → Type 0} {q : ℕ → Parser T B} → Rule Valid cut moves p d U LowU EndsU ts
      → ((a : A) → EndsU a [])
      → ((a : A) (s rest : List T) → EndsU a rest → Rule Valid cut more_moves q d (λ g b s'. U g a s → In g b (s ++ s')) (λ b. LowU a → Low b) Ends rest)
      → Rule Valid cut moves (λ d'. p d' >> q d') d In Low Ends ts
  rule_seq_ends {EndsU} {q} h at_end continues = rule_next T A B Valid cut moves more_moves d U LowU EndsU In Low Ends ts p (λ _ d' _. q d') h (λ a s rest e _. continues a s rest e) at_end

  -- one rule after another; after the first has read a as s, the second goes on before rest
  pub rule_bind : {f : ℕ → A → Parser T B} → Rule Valid cut moves p d U LowU Any ts
      → ((a : A) (s rest : List T) → Rule Valid cut more_moves (λ d'. f d' a) d (λ g b s'. U g a s → In g b (s ++ s')) (λ b. LowU a → Low b) Ends rest)
      → Rule Valid cut moves (λ d'. p d' >>= f d') d In Low Ends ts
  rule_bind {f} h continues = rule_bind_ends {f = f} h (λ _. tt) (λ a s rest _. continues a s rest)

  pub rule_seq : {q : ℕ → Parser T B} → Rule Valid cut moves p d U LowU Any ts
      → ((a : A) (s rest : List T) → Rule Valid cut more_moves q d (λ g b s'. U g a s → In g b (s ++ s')) (λ b. LowU a → Low b) Ends rest)
      → Rule Valid cut moves (λ d'. p d' >> q d') d In Low Ends ts
  rule_seq {q} h continues = rule_seq_ends {q = q} h (λ _. tt) (λ a s rest _. continues a s rest)

module _ {T A : Type 0} {Valid : T → Type 0} {cut : Bool} {d : ℕ} {In : Language → A → List T → Type 0} {Low : A → Type 0} {Ends : A → List T → Type 0} {ts : List T} where
  -- a rule that surely reads a token may be taken for one that may not
  pub rule_may_stay : {p : ℕ → Parser T A} {moves : Bool} → Rule Valid cut true p d In Low Ends ts → Rule Valid cut moves p d In Low Ends ts
  rule_may_stay {p} {moves} h = record { kept = by_answer (p d ts) h.kept }
    where
      by_answer : (r : Answer T A) → Kept Valid cut true p d In Low Ends ts r → Kept Valid cut moves p d In Low Ends ts r
      by_answer (Read a rest) k = record { pre = k.pre; whole = k.whole; moved = λ _. k.moved refl; spells = k.spells; low = k.low; ends = k.ends; again = k.again }
      by_answer (Stopped Syntax rest) k = record { pre = k.pre; whole = k.whole; moved = λ _. k.moved refl; begins = k.begins; again = k.again }
      by_answer (Stopped Unsupported rest) k = record { pre = k.pre; token = k.token; post = k.post; place = k.place; whole = k.whole; begins = k.begins; in_extended = k.in_extended; again = k.again }
      by_answer (Stopped Deep rest) k = record { pre = k.pre; token = k.token; post = k.post; place = k.place; whole = k.whole; begins = k.begins; again = k.again }

  -- by a test of the next token: the rule for one that passes reads it
  pub rule_branch : (test : Option T → Bool) {p q : ℕ → Parser T A} {moves : Bool}
      → test None ≡ false
      → (test (first ts) ≡ true → Rule Valid cut true p d In Low Ends ts)
      → (test (first ts) ≡ false → Rule Valid cut moves q d In Low Ends ts)
      → Rule Valid cut moves (λ d'. branch test (p d') (q d')) d In Low Ends ts
  rule_branch test {p} {q} {moves} none passes fails = by_test (test (first ts)) refl
    where
      by_test : (b : Bool) → test (first ts) ≡ b → Rule Valid cut moves (λ d'. branch test (p d') (q d')) d In Low Ends ts
      by_test true e = rule_may_stay (rule_like (λ d'. branch test (p d') (q d')) p (λ d' ts' _ start. alike_true d' ts' start) (passes e))
        where
          alike_true : (d' : ℕ) (ts' : List T) → Starts true ts ts' → branch test (p d') (q d') ts' ≡ p d' ts'
          alike_true d' ts' (same h) = rw (ap test h ∙ e)
          alike_true d' ts' (gone h _) = cc
      by_test false e = rule_like (λ d'. branch test (p d') (q d')) q (λ d' ts' _ start. alike_false d' ts' start) (fails e)
        where
          alike_false : (d' : ℕ) (ts' : List T) → Starts moves ts ts' → branch test (p d') (q d') ts' ≡ q d' ts'
          alike_false d' ts' (same h) = rw (ap test h ∙ e)
          alike_false d' ts' (gone _ h) = rw h (rw none)

  -- by what the next token tells: the rule for it reads it, or is the rule for the end
  pub rule_by_first : {X : Type 0} (tells : Option T → X) (p : ℕ → X → Parser T A) {moves : Bool}
      → (moves ≡ true) ⊎ (tells (first ts) ≡ tells None)
      → Rule Valid cut moves (λ d'. p d' (tells (first ts))) d In Low Ends ts
      → Rule Valid cut moves (λ d'. by_first tells (p d')) d In Low Ends ts
  rule_by_first {X} tells p {moves} or_end h = rule_like (λ d'. by_first tells (p d')) (λ d'. p d' (tells (first ts))) (λ d' ts' _ start. alike_first d' ts' start or_end) h
    where
      alike_first : (d' : ℕ) (ts' : List T) → Starts moves ts ts' → (moves ≡ true) ⊎ (tells (first ts) ≡ tells None) → by_first tells (p d') ts' ≡ p d' (tells (first ts)) ts'
      alike_first d' ts' (same e) _ = ap (λ o. p d' (tells o) ts') e
      alike_first d' ts' (gone still e) (inl reads) = cc
      alike_first d' ts' (gone still e) (inr at_end) = rw at_end (rw e)

  -- the same, where the next token tells x: if the rule for x reads it, or is the rule for the end
  pub rule_told : {X : Type 0} (tells : Option T → X) (p : ℕ → X → Parser T A) {moves : Bool} {x : X} → tells (first ts) ≡ x
      → Rule Valid cut true (λ d'. p d' x) d In Low Ends ts → Rule Valid cut moves (λ d'. by_first tells (p d')) d In Low Ends ts
  rule_told tells p {moves} {x} e h = rule_may_stay (rule_by_first tells p (inl refl) (rw e h))

  pub rule_told_end : {X : Type 0} (tells : Option T → X) (p : ℕ → X → Parser T A) {moves : Bool} → tells (first ts) ≡ tells None
      → Rule Valid cut moves (λ d'. p d' (tells None)) d In Low Ends ts → Rule Valid cut moves (λ d'. by_first tells (p d')) d In Low Ends ts
  rule_told_end tells p {moves} e h = rule_by_first tells p (inr e) (rw e h)

  -- a rule that stops where the next token begins what isn't supported: some part of the extended language goes on
  pub rule_unsupported : (test : Option T → Bool) {p : ℕ → Parser T A} {moves : Bool}
      → test None ≡ false
      → (test (first ts) ≡ true → CanBegin Valid (InBoth In) [])
      → ((t : T) → first ts ≡ Some t → test (Some t) ≡ true → CanBegin Valid (In Extended) (t ∷ []))
      → (test (first ts) ≡ false → Rule Valid cut moves p d In Low Ends ts)
      → Rule Valid cut moves (λ d'. unsupported test (p d')) d In Low Ends ts
  rule_unsupported test {p} {moves} none begins wider fails = by_test (test (first ts)) refl
    where
      breaks : (ts' : List T) → ts' ≡ ts → test (first ts') ≡ true → Kept Valid cut moves (λ d'. unsupported test (p d')) d In Low Ends ts (Stopped Unsupported ts)
      breaks [] here e = cc
      breaks (t ∷ post) here e = record {
        pre = [];
        token = t;
        post = post;
        place = sym here;
        whole = sym here;
        begins = begins (rw (← here) e);
        in_extended = wider t (rw (← here) refl) e;
        again = λ d' post' _. rw e;
      }

      by_test : (b : Bool) → test (first ts) ≡ b → Rule Valid cut moves (λ d'. unsupported test (p d')) d In Low Ends ts
      by_test true e = record { kept = rw e (breaks ts refl e) }
      by_test false e = rule_like (λ d'. unsupported test (p d')) p (λ d' ts' _ start. alike_false d' ts' start) (fails e)
        where
          alike_false : (d' : ℕ) (ts' : List T) → Starts moves ts ts' → unsupported test (p d') ts' ≡ p d' ts'
          alike_false d' ts' (same h) = rw (ap test h ∙ e)
          alike_false d' ts' (gone _ h) = rw h (rw none)

  -- a rule that is another, with one node more
  pub rule_deeper : {p : ℕ → Parser T A} {moves : Bool} → Rule Valid cut moves (λ d'. p (suc d')) d In Low Ends ts → Rule Valid cut moves p (suc d) In Low Ends ts
  rule_deeper {p} {moves} h = record { kept = by_answer (p (suc d) ts) h.kept }
    where
      above : (r : Answer T A) (s : List T) → ((d' : ℕ) → d ≤ d' → p (suc d') s ≡ r) → (d' : ℕ) → suc d ≤ d' → p d' s ≡ r
      above r s here zero le = absurd (omega arith)
      above r s here (suc d') le = here d' (omega arith)

      by_answer : (r : Answer T A) → Kept Valid cut moves (λ d'. p (suc d')) d In Low Ends ts r → Kept Valid cut moves p (suc d) In Low Ends ts r
      by_answer (Read a rest) k = record { pre = k.pre; whole = k.whole; moved = k.moved; spells = k.spells; low = k.low; ends = k.ends; again = λ d' rest' le near. above (Read a rest') (k.pre ++ rest') (λ d'' le'. k.again d'' rest' le' near) d' le }
      by_answer (Stopped Syntax rest) k = record { pre = k.pre; whole = k.whole; moved = k.moved; begins = k.begins; again = λ d' rest' le near. above (Stopped Syntax rest') (k.pre ++ rest') (λ d'' le'. k.again d'' rest' le' near) d' le }
      by_answer (Stopped Unsupported rest) k = record { pre = k.pre; token = k.token; post = k.post; place = k.place; whole = k.whole; begins = k.begins; in_extended = k.in_extended; again = λ d' post' le. above (Stopped Unsupported (k.token ∷ post')) (k.pre ++ k.token ∷ post') (λ d'' le'. k.again d'' post' le') d' le }
      by_answer (Stopped Deep rest) k = record { pre = k.pre; token = k.token; post = k.post; place = k.place; whole = k.whole; begins = k.begins; again = k.again }

module _ {T A : Type 0} {Valid : T → Type 0} {cut : Bool} {In : Language → A → List T → Type 0} {Low : A → Type 0} {Ends : A → List T → Type 0} {ts : List T} where
  -- where no node is allowed below, a token that begins a part is too deep and any other is refused
  pub rule_shallow : (begins : Option T → Bool) {p : ℕ → Parser T A} {moves : Bool}
      → begins None ≡ false
      → (moves ≡ true → begins (first ts) ≡ true)
      → ((ts' : List T) → begins (first ts') ≡ true → p 0 ts' ≡ Stopped Deep ts')
      → ((d' : ℕ) (ts' : List T) → begins (first ts') ≡ false → p d' ts' ≡ Stopped Syntax ts')
      → CanBegin Valid (InBoth In) []
      → ((t : T) → begins (Some t) ≡ true → CanBegin Valid (InBoth In) (t ∷ []))
      → Rule Valid cut moves p 0 In Low Ends ts
  rule_shallow begins {p} {moves} none moved sinks refuses some_part some_with = by_test (begins (first ts)) refl
    where
      deep : (ts' : List T) → ts' ≡ ts → begins (first ts') ≡ true → Kept Valid cut moves p 0 In Low Ends ts (Stopped Deep ts)
      deep [] here e = cc
      deep (t ∷ post) here e = record {
        pre = [];
        token = t;
        post = post;
        place = sym here;
        whole = sym here;
        begins = some_with t e;
        again = λ post'. sinks (t ∷ post') e;
      }

      refused : (rest' : List T) → begins (first ts) ≡ false → Instead cut ts rest' → begins (first rest') ≡ false
      refused rest' e (alike h) = ap begins h ∙ e
      refused rest' e (nothing _ h) = rw h none

      by_test : (b : Bool) → begins (first ts) ≡ b → Rule Valid cut moves p 0 In Low Ends ts
      by_test true e = record { kept = rw (sinks ts e) (deep ts refl e) }
      by_test false e = record {
        kept = rw (refuses 0 ts e) (record {
          pre = [];
          whole = refl;
          moved = λ m _. true≢false (sym (moved m) ∙ e);
          begins = some_part;
          again = λ d' rest' _ near. refuses d' rest' (refused rest' e near);
        });
      }

-- the next token is known to be the expected one
pub rule_expect_here : {T : Type 0} {Valid : T → Type 0} {cut : Bool} {d : ℕ} (test : Option T → Bool) {ts : List T} (t : T) → first ts ≡ Some t → test (Some t) ≡ true
    → Rule Valid cut true (λ _. expect test) d (λ _ _ s. s ≡ t ∷ []) (λ _. Unit {0}) Any ts
rule_expect_here {T} test {ts} t here passes = rule_like (λ _. expect test) (λ _. skip) (λ d' ts' _ start. alike_skip ts' start) (rule_skip_the t here)
  where
    alike_skip : (ts' : List T) → Starts true ts ts' → expect test ts' ≡ skip ts'
    alike_skip ts' (same h) = rw (ap test (h ∙ here) ∙ passes)
    alike_skip ts' (gone h _) = cc

-- a rule that bears to be cut off may be taken for one that doesn't
pub rule_uncut : {T A : Type 0} {Valid : T → Type 0} {cut moves : Bool} {p : ℕ → Parser T A} {d : ℕ} {In : Language → A → List T → Type 0} {Low : A → Type 0} {Ends : A → List T → Type 0} {ts : List T}
    → Rule Valid true moves p d In Low Ends ts → Rule Valid cut moves p d In Low Ends ts
rule_uncut {T} {A} {Valid} {cut} {moves} {p} {d} {In} {Low} {Ends} {ts} h = record { kept = by_answer (p d ts) h.kept }
  where
    near : (rest rest' : List T) → Instead cut rest rest' → Instead true rest rest'
    near rest rest' (alike e) = alike e
    near rest rest' (nothing _ e) = nothing refl e

    by_answer : (r : Answer T A) → Kept Valid true moves p d In Low Ends ts r → Kept Valid cut moves p d In Low Ends ts r
    by_answer (Read a rest) k = record { pre = k.pre; whole = k.whole; moved = k.moved; spells = k.spells; low = k.low; ends = k.ends; again = λ d' rest' le n. k.again d' rest' le (near rest rest' n) }
    by_answer (Stopped Syntax rest) k = record { pre = k.pre; whole = k.whole; moved = k.moved; begins = k.begins; again = λ d' rest' le n. k.again d' rest' le (near rest rest' n) }
    by_answer (Stopped Unsupported rest) k = record { pre = k.pre; token = k.token; post = k.post; place = k.place; whole = k.whole; begins = k.begins; in_extended = k.in_extended; again = k.again }
    by_answer (Stopped Deep rest) k = record { pre = k.pre; token = k.token; post = k.post; place = k.place; whole = k.whole; begins = k.begins; again = k.again }
