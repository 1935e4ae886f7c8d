-- Each way to build a rule keeps what its parts keep.
use Rattle.std.proofs.Common.{◌≡◌, ℕ, ◌≤◌, Bool, true, false, List, [], ◌∷◌, ◌++◌, refl, sym, ◌∙◌, ap, subst, append_assoc, append-nil, arith}
use Rattle.parse_rules.specs.Parsers.{Syntax, Unsupported, Deep, Answer, Read, Stopped, Parser, first, next}
use Rattle.parse_rules.specs.Grammars.{Language, Extended, Each, CanBegin, InBoth}
use Rattle.parse_rules.specs.Rules.{Instead, alike, nothing, Reads, Kept, Rule}

pub each_append : {X : Type 0} (P : X → Type 0) (xs ys : List X) → Each P xs → Each P ys → Each P (xs ++ ys)
each_append P [] ys a b = b
each_append P (x ∷ xs) ys a b = (a.0, each_append P xs ys a.1 b)

-- the empty list is no list with a token
empty_apart : {T : Type 0} (pre : List T) (t : T) (post : List T) → [] ≡ pre ++ t ∷ post → ⊥
empty_apart [] t post e = cc
empty_apart (x ∷ pre) t post e = cc

empty_front : {T : Type 0} (pre rest : List T) → [] ≡ pre ++ rest → pre ≡ []
empty_front [] rest e = refl
empty_front (x ∷ pre) rest e = cc

first_same : {T : Type 0} (pre rest rest' : List T) → first rest' ≡ first rest → first (pre ++ rest') ≡ first (pre ++ rest)
first_same [] rest rest' e = e
first_same (x ∷ pre) rest rest' e = refl

-- What stands in the place of the whole list, where something stands in the place of what is left.
pub data Starts {T : Type 0} (moves : Bool) (ts ts' : List T) : Type 0 where
  same : first ts' ≡ first ts → Starts moves ts ts'
  gone : moves ≡ false → ts' ≡ [] → Starts moves ts ts'

starts_alike : {T : Type 0} {moves : Bool} (pre rest rest' : List T) → first rest' ≡ first rest → Starts moves (pre ++ rest) (pre ++ rest')
starts_alike pre rest rest' e = same (first_same pre rest rest' e)

starts_cut : {T : Type 0} (moves : Bool) (pre rest : List T) → (moves ≡ true → pre ≡ [] → ⊥) → Starts moves (pre ++ rest) (pre ++ [])
starts_cut moves (x ∷ pre) rest moved = same refl
starts_cut true [] rest moved = absurd (moved refl refl)
starts_cut false [] rest moved = gone refl refl

starts : {T : Type 0} {cut : Bool} (moves : Bool) (pre rest rest' : List T) → (moves ≡ true → pre ≡ [] → ⊥) → Instead cut rest rest' → Starts moves (pre ++ rest) (pre ++ rest')
starts moves pre rest rest' moved (alike e) = starts_alike pre rest rest' e
starts moves pre rest rest' moved (nothing _ e) = rw e (starts_cut moves pre rest moved)

module _ {T A : Type 0} {Valid : T → Type 0} {cut moves : Bool} {d : ℕ} {In : Language → A → List T → Type 0} {Low : A → Type 0} {Ends : A → List T → Type 0} {ts : List T} where
  -- two rules that answer alike wherever the list starts alike keep the same
  pub rule_like : (q p : ℕ → Parser T A) → ((d' : ℕ) (ts' : List T) → d ≤ d' → Starts moves ts ts' → q d' ts' ≡ p d' ts')
      → Rule Valid cut moves p d In Low Ends ts → Rule Valid cut moves q d In Low Ends ts
  rule_like q p unroll h = record { kept = rw (unroll d ts (omega arith) (same refl)) (by_answer (p d ts) h.kept) }
    where
      by_answer : (r : Answer T A) → Kept Valid cut moves p d In Low Ends ts r → Kept Valid cut moves q d In Low Ends ts r
      by_answer (Read a rest) k = record {
        pre = k.pre;
        whole = k.whole;
        moved = k.moved;
        spells = k.spells;
        low = k.low;
        ends = k.ends;
        again = λ d' rest' le near. unroll d' (k.pre ++ rest') le (rw k.whole (starts moves k.pre rest rest' k.moved near)) ∙ k.again d' rest' le near;
      }
      by_answer (Stopped Syntax rest) k = record {
        pre = k.pre;
        whole = k.whole;
        moved = k.moved;
        begins = k.begins;
        again = λ d' rest' le near. unroll d' (k.pre ++ rest') le (rw k.whole (starts moves k.pre rest rest' k.moved near)) ∙ k.again d' rest' le near;
      }
      by_answer (Stopped Unsupported rest) k = record {
        pre = k.pre;
        token = k.token;
        post = k.post;
        place = k.place;
        whole = k.whole;
        begins = k.begins;
        in_extended = k.in_extended;
        again = λ d' post' le. unroll d' (k.pre ++ k.token ∷ post') le (rw k.whole (starts_alike k.pre (k.token ∷ k.post) (k.token ∷ post') refl)) ∙ k.again d' post' le;
      }
      by_answer (Stopped Deep rest) k = record {
        pre = k.pre;
        token = k.token;
        post = k.post;
        place = k.place;
        whole = k.whole;
        begins = k.begins;
        again = λ post'. unroll d (k.pre ++ k.token ∷ post') (omega arith) (rw k.whole (starts_alike k.pre (k.token ∷ k.post) (k.token ∷ post') refl)) ∙ k.again post';
      }

instead_after : {T : Type 0} {cut : Bool} (pre rest rest' : List T) → Instead cut rest rest' → Instead cut (pre ++ rest) (pre ++ rest')
instead_after pre rest rest' (alike e) = alike (first_same pre rest rest' e)
instead_after [] rest rest' (nothing c e) = nothing c e
instead_after (x ∷ pre) rest rest' (nothing c e) = alike refl

-- Where the second of two rules reads: after the first, or at the end.
pub data After {T : Type 0} (moves : Bool) (ts s rest : List T) : Type 0 where
  rests : ts ≡ s ++ rest → (moves ≡ true → s ≡ [] → ⊥) → After moves ts s rest
  over : rest ≡ [] → After moves ts s rest

module _ (T A B : Type 0) (Valid : T → Type 0) (cut moves more_moves : Bool) (d : ℕ) (U : Language → A → List T → Type 0) (LowU : A → Type 0) (Ends : A → List T → Type 0) (In : Language → B → List T → Type 0) (Low : B → Type 0) (EndsB : B → List T → Type 0) (ts : List T) where
  -- what the second of two rules keeps, where the first has read a as s
  abbrev pub Continues : (List T → ℕ → A → Parser T B) → A → (s rest : List T) → Type 0
  Continues f a s rest = Rule Valid cut more_moves (λ d' rest'. f (s ++ rest') d' a rest') d (λ g b s'. U g a s → In g b (s ++ s')) (λ b. LowU a → Low b) EndsB rest

  -- A part of the first that was completed is completed to a part of both: the second, before no tokens, shows how.
  -- This is so in each of the languages that Q names.
  finish : (Q : Language → Type 0) (f : List T → ℕ → A → Parser T B)
      → ((a : A) (s rest : List T) → Ends a rest → After moves ts s rest → Continues f a s rest) → ((a : A) → Ends a [])
      → (pre : List T) → CanBegin Valid (λ a s. (g : Language) → Q g → U g a s) pre → CanBegin Valid (λ b s. (g : Language) → Q g → In g b s) pre
  finish Q f continues at_end pre c = by_answer (f ((pre ++ c.more) ++ []) d c.part []) (continues c.part (pre ++ c.more) [] (at_end c.part) (over refl)).kept
    where
      by_answer : (r : Answer T B) → Kept Valid cut more_moves (λ d' rest'. f ((pre ++ c.more) ++ rest') d' c.part rest') d (λ g b s'. U g c.part (pre ++ c.more) → In g b ((pre ++ c.more) ++ s')) (λ b. LowU c.part → Low b) EndsB [] r
          → CanBegin Valid (λ b s. (g : Language) → Q g → In g b s) pre
      by_answer (Read b rest) k = record {
        part = b;
        more = c.more;
        valid = c.valid;
        spells = λ g q. subst (λ s. In g b s) (append-nil (pre ++ c.more)) (subst (λ s. In g b ((pre ++ c.more) ++ s)) (empty_front k.pre rest k.whole) (k.spells g (c.spells g q)));
      }
      by_answer (Stopped Syntax rest) k = record {
        part = k.begins.part;
        more = c.more ++ k.begins.more;
        valid = each_append Valid c.more k.begins.more c.valid k.begins.valid;
        spells = λ g q. subst (λ s. In g k.begins.part s) (append_assoc pre c.more k.begins.more) (subst (λ s. In g k.begins.part ((pre ++ c.more) ++ (s ++ k.begins.more))) (empty_front k.pre rest k.whole) (k.begins.spells g (c.spells g q)));
      }
      by_answer (Stopped Unsupported rest) k = absurd (empty_apart k.pre k.token k.post k.whole)
      by_answer (Stopped Deep rest) k = absurd (empty_apart k.pre k.token k.post k.whole)

  finish_both : (f : List T → ℕ → A → Parser T B)
      → ((a : A) (s rest : List T) → Ends a rest → After moves ts s rest → Continues f a s rest) → ((a : A) → Ends a [])
      → (pre : List T) → CanBegin Valid (InBoth U) pre → CanBegin Valid (InBoth In) pre
  finish_both f continues at_end pre c =
      let w : CanBegin Valid (λ b s. (g : Language) → Unit {0} → In g b s) pre = finish (λ _. Unit {0}) f continues at_end pre (record { part = c.part; more = c.more; valid = c.valid; spells = λ g _. c.spells g }) in
      record { part = w.part; more = w.more; valid = w.valid; spells = λ g. w.spells g tt }

  finish_extended : (f : List T → ℕ → A → Parser T B)
      → ((a : A) (s rest : List T) → Ends a rest → After moves ts s rest → Continues f a s rest) → ((a : A) → Ends a [])
      → (pre : List T) → CanBegin Valid (U Extended) pre → CanBegin Valid (In Extended) pre
  finish_extended f continues at_end pre c =
      let w : CanBegin Valid (λ b s. (g : Language) → g ≡ Extended → In g b s) pre = finish (λ g. g ≡ Extended) f continues at_end pre (record { part = c.part; more = c.more; valid = c.valid; spells = λ g e. subst (λ h. U h c.part (pre ++ c.more)) (sym e) c.spells }) in
      record { part = w.part; more = w.more; valid = w.valid; spells = w.spells Extended refl }

  -- a part that the second begins, after the first has read a as s, begins a part of both
  after_both : (a : A) (s pre : List T) → InBoth U a s → CanBegin Valid (InBoth (λ g b s'. U g a s → In g b (s ++ s'))) pre → CanBegin Valid (InBoth In) (s ++ pre)
  after_both a s pre u c = record { part = c.part; more = c.more; valid = c.valid; spells = λ g. subst (λ x. In g c.part x) (sym (append_assoc s pre c.more)) (c.spells g (u g)) }

  after_extended : (a : A) (s pre : List T) → InBoth U a s → CanBegin Valid (λ b s'. U Extended a s → In Extended b (s ++ s')) pre → CanBegin Valid (In Extended) (s ++ pre)
  after_extended a s pre u c = record { part = c.part; more = c.more; valid = c.valid; spells = subst (λ x. In Extended c.part x) (sym (append_assoc s pre c.more)) (c.spells (u Extended)) }

  -- one rule after another, where the second may depend on the whole list
  pub rule_next : (p : ℕ → Parser T A) (f : List T → ℕ → A → Parser T B)
      → Rule Valid cut moves p d U LowU Ends ts → ((a : A) (s rest : List T) → Ends a rest → After moves ts s rest → Continues f a s rest) → ((a : A) → Ends a [])
      → Rule Valid cut moves (λ d' ts'. next (p d' ts') (f ts' d')) d In Low EndsB ts
  rule_next p f h continues at_end = record { kept = first_answer (p d ts) h.kept }
    where
      second_answer : (a : A) (rest : List T) (k : Reads Valid cut moves p d U LowU Ends ts a rest) (r : Answer T B)
          → Kept Valid cut more_moves (λ d' rest'. f (k.pre ++ rest') d' a rest') d (λ g b s'. U g a k.pre → In g b (k.pre ++ s')) (λ b. LowU a → Low b) EndsB rest r
          → Kept Valid cut moves (λ d' ts'. next (p d' ts') (f ts' d')) d In Low EndsB ts r
      second_answer a rest k (Read b rest2) l = record {
        pre = k.pre ++ l.pre;
        whole = k.whole ∙ (ap (λ x. k.pre ++ x) l.whole ∙ sym (append_assoc k.pre l.pre rest2));
        moved = λ e none. k.moved e (empty_front k.pre l.pre (sym none));
        spells = λ g. l.spells g (k.spells g);
        low = l.low k.low;
        ends = l.ends;
        again = λ d' rest' le near. rw (append_assoc k.pre l.pre rest') (ap (λ r. next r (f (k.pre ++ (l.pre ++ rest')) d')) (k.again d' (l.pre ++ rest') le (subst (λ x. Instead cut x (l.pre ++ rest')) (sym l.whole) (instead_after l.pre rest2 rest' near))) ∙ l.again d' rest' le near);
      }
      second_answer a rest k (Stopped Syntax rest2) l = record {
        pre = k.pre ++ l.pre;
        whole = k.whole ∙ (ap (λ x. k.pre ++ x) l.whole ∙ sym (append_assoc k.pre l.pre rest2));
        moved = λ e none. k.moved e (empty_front k.pre l.pre (sym none));
        begins = after_both a k.pre l.pre k.spells l.begins;
        again = λ d' rest' le near. rw (append_assoc k.pre l.pre rest') (ap (λ r. next r (f (k.pre ++ (l.pre ++ rest')) d')) (k.again d' (l.pre ++ rest') le (subst (λ x. Instead cut x (l.pre ++ rest')) (sym l.whole) (instead_after l.pre rest2 rest' near))) ∙ l.again d' rest' le near);
      }
      second_answer a rest k (Stopped Unsupported rest2) l = record {
        pre = k.pre ++ l.pre;
        token = l.token;
        post = l.post;
        place = l.place;
        whole = k.whole ∙ (ap (λ x. k.pre ++ x) l.whole ∙ sym (append_assoc k.pre l.pre (l.token ∷ l.post)));
        begins = after_both a k.pre l.pre k.spells l.begins;
        in_extended = subst (λ x. CanBegin Valid (In Extended) x) (sym (append_assoc k.pre l.pre (l.token ∷ []))) (after_extended a k.pre (l.pre ++ l.token ∷ []) k.spells l.in_extended);
        again = λ d' post' le. rw (append_assoc k.pre l.pre (l.token ∷ post')) (ap (λ r. next r (f (k.pre ++ (l.pre ++ l.token ∷ post')) d')) (k.again d' (l.pre ++ l.token ∷ post') le (subst (λ x. Instead cut x (l.pre ++ l.token ∷ post')) (sym l.whole) (alike (first_same l.pre (l.token ∷ l.post) (l.token ∷ post') refl)))) ∙ l.again d' post' le);
      }
      second_answer a rest k (Stopped Deep rest2) l = record {
        pre = k.pre ++ l.pre;
        token = l.token;
        post = l.post;
        place = l.place;
        whole = k.whole ∙ (ap (λ x. k.pre ++ x) l.whole ∙ sym (append_assoc k.pre l.pre (l.token ∷ l.post)));
        begins = subst (λ x. CanBegin Valid (InBoth In) x) (sym (append_assoc k.pre l.pre (l.token ∷ []))) (after_both a k.pre (l.pre ++ l.token ∷ []) k.spells l.begins);
        again = λ post'. rw (append_assoc k.pre l.pre (l.token ∷ post')) (ap (λ r. next r (f (k.pre ++ (l.pre ++ l.token ∷ post')) d)) (k.again d (l.pre ++ l.token ∷ post') (omega arith) (subst (λ x. Instead cut x (l.pre ++ l.token ∷ post')) (sym l.whole) (alike (first_same l.pre (l.token ∷ l.post) (l.token ∷ post') refl)))) ∙ l.again post');
      }

      first_answer : (r : Answer T A) → Kept Valid cut moves p d U LowU Ends ts r → Kept Valid cut moves (λ d' ts'. next (p d' ts') (f ts' d')) d In Low EndsB ts (next r (f ts d))
      first_answer (Read a rest) k = second_answer a rest k (f ts d a rest) (subst (λ x. Kept Valid cut more_moves (λ d' rest'. f (k.pre ++ rest') d' a rest') d (λ g b s'. U g a k.pre → In g b (k.pre ++ s')) (λ b. LowU a → Low b) EndsB rest (f x d a rest)) (sym k.whole) (continues a k.pre rest k.ends (rests k.whole k.moved)).kept)
      first_answer (Stopped Syntax rest) k = record {
        pre = k.pre;
        whole = k.whole;
        moved = k.moved;
        begins = finish_both f continues at_end k.pre k.begins;
        again = λ d' rest' le near. ap (λ r. next r (f (k.pre ++ rest') d')) (k.again d' rest' le near);
      }
      first_answer (Stopped Unsupported rest) k = record {
        pre = k.pre;
        token = k.token;
        post = k.post;
        place = k.place;
        whole = k.whole;
        begins = finish_both f continues at_end k.pre k.begins;
        in_extended = finish_extended f continues at_end (k.pre ++ k.token ∷ []) k.in_extended;
        again = λ d' post' le. ap (λ r. next r (f (k.pre ++ k.token ∷ post') d')) (k.again d' post' le);
      }
      first_answer (Stopped Deep rest) k = record {
        pre = k.pre;
        token = k.token;
        post = k.post;
        place = k.place;
        whole = k.whole;
        begins = finish_both f continues at_end (k.pre ++ k.token ∷ []) k.begins;
        again = λ post'. ap (λ r. next r (f (k.pre ++ k.token ∷ post') d)) (k.again post');
      }
