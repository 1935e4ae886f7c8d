-- From what a rule keeps and from completeness: no two parts spell the same tokens, and each answer means what it should.
use Rattle.std.proofs.Common.{◌≡◌, ℕ, ◌+◌, ◌≤◌, Bool, true, List, [], ◌∷◌, ◌++◌, refl, sym, ◌∙◌, ap, subst, append_assoc, append-nil, arith}
use Rattle.parse_rules.specs.Parsers.{Syntax, Unsupported, Deep, Answer, Read, Stopped, Parser}
use Rattle.parse_rules.specs.Grammars.{Language, Supported, Extended, IsExtended, CanBegin, InBoth}
use Rattle.parse_rules.specs.Rules.{alike, nothing, Reads, Refuses, Breaks, Sinks, Kept, Rule}
use Rattle.parse_rules.specs.Promises.{EndsBefore, IsRun, IsUnsupported, IsTooDeep, Answered, AnsweredWhole}
use Rattle.parse_rules.proofs.Completeness.{LeadsTo, equal, breaks, exactly}

-- `keeps`: the rule keeps what it answers, for each depth and each list.
-- `reads`: it reads the spelling of each part that isn't too high, where nothing follows.
module _ {T A : Type 0} {Valid : T → Type 0} {cut moves : Bool} {Ends : A → List T → Type 0} (p : ℕ → Parser T A) (In : Language → A → List T → Type 0) (height : A → ℕ)
    (keeps : (d : ℕ) (ts : List T) → Rule Valid cut moves p d In (λ a. height a ≤ d) Ends ts)
    (reads : (g : Language) (a : A) (s : List T) (d : ℕ) → In g a s → height a ≤ d → LeadsTo g (p d s) (Read a [])) where
  -- no two parts of the grammar spell the same tokens
  pub one_part : (a b : A) (s : List T) → In Supported a s → In Supported b s → a ≡ b
  one_part a b s in_a in_b =
      let as_a : p (height a + height b) s ≡ Read a [] = exactly (reads Supported a s (height a + height b) in_a (omega arith)) in
      let as_b : p (height a + height b) s ≡ Read b [] = exactly (reads Supported b s (height a + height b) in_b (omega arith)) in
      let same : Read a [] ≡ Read b [] = sym as_a ∙ as_b in
      cc

  -- what the rule answers to tokens, whatever comes later and however deep, is what it answers to each part that begins so
  goes_no_further : (g : Language) (d : ℕ) (ts before : List T) (t : T) (answer : List T → Answer T A)
      → ((d' : ℕ) (post : List T) → d ≤ d' → p d' (before ++ t ∷ post) ≡ answer (t ∷ post))
      → ((a : A) (post : List T) → answer (t ∷ post) ≡ Read a [] → ⊥)
      → ((rest post : List T) → IsExtended g → answer (t ∷ post) ≡ Stopped Unsupported rest → ⊥)
      → CanBegin Valid (In g) (before ++ t ∷ []) → ⊥
  goes_no_further g d ts before t answer again no_read no_break c =
      by_leads (reads g c.part ((before ++ t ∷ []) ++ c.more) (d + height c.part) c.spells (omega arith))
    where
      answered : p (d + height c.part) ((before ++ t ∷ []) ++ c.more) ≡ answer (t ∷ c.more)
      answered = rw (append_assoc before (t ∷ []) c.more) (again (d + height c.part) c.more (omega arith))

      by_leads : LeadsTo g (p (d + height c.part) ((before ++ t ∷ []) ++ c.more)) (Read c.part []) → ⊥
      by_leads (equal e) = no_read c.part c.more (sym answered ∙ e)
      by_leads (breaks w rest e) = no_break rest c.more w (sym answered ∙ e)

  -- a part is read, or refused, and no part of either language goes on
  read_ends : (g : Language) (d : ℕ) (ts : List T) (a : A) (rest : List T) (k : Reads Valid cut moves p d In (λ a. height a ≤ d) Ends ts a rest) → EndsBefore Valid In g k.pre rest
  read_ends g d ts a [] k = tt
  read_ends g d ts a (t ∷ rest) k = goes_no_further g d ts k.pre t (λ post. Read a post) (λ d' post le. k.again d' (t ∷ post) le (alike refl)) (λ b post e. cc) (λ r post w e. cc)

  refused_ends : (g : Language) (d : ℕ) (ts rest : List T) (k : Refuses Valid cut moves p d In (λ a. height a ≤ d) Ends ts rest) → EndsBefore Valid In g k.pre rest
  refused_ends g d ts [] k = tt
  refused_ends g d ts (t ∷ rest) k = goes_no_further g d ts k.pre t (λ post. Stopped Syntax post) (λ d' post le. k.again d' (t ∷ post) le (alike refl)) (λ b post e. cc) (λ r post w e. cc)

  -- what begins a part of both languages begins one that is supported
  begins_supported : (s : List T) → CanBegin Valid (InBoth In) s → CanBegin Valid (In Supported) s
  begins_supported s c = record { part = c.part; more = c.more; valid = c.valid; spells = c.spells Supported }

  refused_run : (d : ℕ) (ts rest : List T) (k : Refuses Valid cut moves p d In (λ a. height a ≤ d) Ends ts rest) → IsRun Valid In ts k.pre rest
  refused_run d ts rest k = record { whole = k.whole; begins = begins_supported k.pre k.begins; longest = refused_ends Supported d ts rest k }

  unsupported_here : (d : ℕ) (ts rest : List T) → Breaks Valid cut moves p d In (λ a. height a ≤ d) Ends ts rest → IsUnsupported Valid In height d ts rest
  unsupported_here d ts rest k = record {
    run = k.pre;
    is_run = record {
      whole = rw k.place k.whole;
      begins = begins_supported k.pre k.begins;
      longest = rw k.place (goes_no_further Supported d ts k.pre k.token (λ post. Stopped Unsupported post) k.again (λ b post e. cc) (λ r post w e. absurd w));
    };
    token = k.token;
    more = k.post;
    place = k.place;
    in_extended = k.in_extended;
  }

  deep_here : (d : ℕ) (ts rest : List T) → Sinks Valid cut moves p d In (λ a. height a ≤ d) Ends ts rest → IsTooDeep Valid In height d ts rest
  deep_here d ts rest k = record {
    before = k.pre;
    token = k.token;
    more = k.post;
    place = k.place;
    whole = rw k.place k.whole;
    begins = begins_supported (k.pre ++ k.token ∷ []) k.begins;
    none_low = none_low;
  }
    where
      none_low : CanBegin Valid (λ a s. In Supported a s × (height a ≤ d)) (k.pre ++ k.token ∷ []) → ⊥
      none_low c =
          let read : p d ((k.pre ++ k.token ∷ []) ++ c.more) ≡ Read c.part [] = exactly (reads Supported c.part ((k.pre ++ k.token ∷ []) ++ c.more) d c.spells.0 c.spells.1) in
          let sunk : p d ((k.pre ++ k.token ∷ []) ++ c.more) ≡ Stopped Deep (k.token ∷ c.more) = rw (append_assoc k.pre (k.token ∷ []) c.more) (k.again c.more) in
          let both : Read c.part [] ≡ Stopped Deep (k.token ∷ c.more) = sym read ∙ sunk in
          cc

  -- a run that is refused where the text ends too is no part
  no_part : (d : ℕ) (run : List T) → ((d' : ℕ) → d ≤ d' → p d' run ≡ Stopped Syntax []) → (a : A) → In Supported a run → ⊥
  no_part d run again a in_a =
      let read : p (d + height a) run ≡ Read a [] = exactly (reads Supported a run (d + height a) in_a (omega arith)) in
      let refused : p (d + height a) run ≡ Stopped Syntax [] = again (d + height a) (omega arith) in
      let both : Read a [] ≡ Stopped Syntax [] = sym read ∙ refused in
      cc

  -- each answer means what it should, where more may follow the part
  pub answers : cut ≡ true → (d : ℕ) (ts : List T) → Answered Valid In height d ts (p d ts)
  answers cuts d ts = by_answer (p d ts) (keeps d ts).kept
    where
      by_answer : (r : Answer T A) → Kept Valid cut moves p d In (λ a. height a ≤ d) Ends ts r → Answered Valid In height d ts r
      by_answer (Read a rest) k = record {
        run = k.pre;
        is_run = record {
          whole = k.whole;
          begins = record { part = a; more = []; valid = tt; spells = rw (append-nil k.pre) (k.spells Supported) };
          longest = read_ends Supported d ts a rest k;
        };
        supported = read_ends Extended d ts a rest k;
        spells = k.spells Supported;
        low = k.low;
      }
      by_answer (Stopped Syntax rest) k = record {
        run = k.pre;
        is_run = refused_run d ts rest k;
        supported = refused_ends Extended d ts rest k;
        no_part = no_part d k.pre (λ d' le. subst (λ s. p d' s ≡ Stopped Syntax []) (append-nil k.pre) (k.again d' [] le (nothing cuts refl)));
      }
      by_answer (Stopped Unsupported rest) k = unsupported_here d ts rest k
      by_answer (Stopped Deep rest) k = deep_here d ts rest k

  -- each answer means what it should, where the part is to be all of the tokens: it is read only at the end
  pub whole_answers : ((a : A) (rest : List T) → Ends a rest → rest ≡ []) → (d : ℕ) (ts : List T) → AnsweredWhole Valid In height d ts (p d ts)
  whole_answers to_end d ts = by_answer (p d ts) (keeps d ts).kept
    where
      by_answer : (r : Answer T A) → Kept Valid cut moves p d In (λ a. height a ≤ d) Ends ts r → AnsweredWhole Valid In height d ts r
      by_answer (Read a rest) k =
          let over : rest ≡ [] = to_end a rest k.ends in
          record { over = over; spells = subst (λ s. In Supported a s) (sym (k.whole ∙ (ap (λ x. k.pre ++ x) over ∙ append-nil k.pre))) (k.spells Supported); low = k.low }
      by_answer (Stopped Syntax rest) k = record {
        run = k.pre;
        is_run = refused_run d ts rest k;
        supported = refused_ends Extended d ts rest k;
        no_part = λ over a in_a. no_part d ts (λ d' le. at_end d' le over) a in_a;
      }
        where
          at_end : (d' : ℕ) → d ≤ d' → rest ≡ [] → p d' ts ≡ Stopped Syntax []
          at_end d' le over = subst (λ s. p d' s ≡ Stopped Syntax []) (sym k.whole) (rw over (k.again d' [] le (alike (rw over refl))))
      by_answer (Stopped Unsupported rest) k = unsupported_here d ts rest k
      by_answer (Stopped Deep rest) k = deep_here d ts rest k
