-- The promise leaves no choice but one: apart from stops at a depth, one answer to some tokens means what it should.
use Rattle.std.proofs.Common.{◌≡◌, ℕ, Bool, true, false, List, [], ◌∷◌, ◌++◌, refl, sym, ◌∙◌, ap, subst, append_assoc, append-nil}
use Rattle.parse_rules.specs.Parsers.{Syntax, Unsupported, Deep, Answer, Read, Stopped}
use Rattle.parse_rules.specs.Grammars.{Language, Supported, Extended, Each, CanBegin}
use Rattle.parse_rules.specs.Promises.{is_deep, EndsBefore, IsRun, IsRead, IsUnsupported, IsTooDeep, Answered, IsReadWhole, IsRefusedWhole, AnsweredWhole}
use Rattle.parse_rules.proofs.Composition.{each_append}

-- Two fronts of one list: they are equal, or one goes on where the other ends.
data Fronts {T : Type 0} (xs ys us vs : List T) : Type 0 where
  as_long : xs ≡ ys → us ≡ vs → Fronts xs ys us vs
  first_shorter : (t : T) (more : List T) → ys ≡ xs ++ t ∷ more → us ≡ t ∷ (more ++ vs) → Fronts xs ys us vs
  second_shorter : (t : T) (more : List T) → xs ≡ ys ++ t ∷ more → vs ≡ t ∷ (more ++ us) → Fronts xs ys us vs

fronts_more : {T : Type 0} (x y : T) (xs ys us vs : List T) → x ≡ y → Fronts xs ys us vs → Fronts (x ∷ xs) (y ∷ ys) us vs
fronts_more x y xs ys us vs e (as_long p q) = as_long (cc) q
fronts_more x y xs ys us vs e (first_shorter t more p q) = first_shorter t more (cc) q
fronts_more x y xs ys us vs e (second_shorter t more p q) = second_shorter t more (cc) q

fronts : {T : Type 0} (xs ys us vs : List T) → xs ++ us ≡ ys ++ vs → Fronts xs ys us vs
fronts [] [] us vs e = as_long refl e
fronts [] (y ∷ ys) us vs e = first_shorter y ys refl e
fronts (x ∷ xs) [] us vs e = second_shorter x xs refl (sym e)
fronts (x ∷ xs) (y ∷ ys) us vs e =
    let heads : x ≡ y = cc in
    let tails : xs ++ us ≡ ys ++ vs = cc in
    fronts_more x y xs ys us vs heads (fronts xs ys us vs tails)

each_front : {X : Type 0} (P : X → Type 0) (xs ys : List X) → Each P (xs ++ ys) → Each P xs
each_front P [] ys h = tt
each_front P (x ∷ xs) ys h = (h.0, each_front P xs ys h.1)

each_back : {X : Type 0} (P : X → Type 0) (xs ys : List X) → Each P (xs ++ ys) → Each P ys
each_back P [] ys h = h
each_back P (x ∷ xs) ys h = each_back P xs ys h.1

module _ {T A : Type 0} (Valid : T → Type 0) (In : Language → A → List T → Type 0) where
  -- what begins a part, begins one with fewer tokens too
  begins_shorter : (In1 : A → List T → Type 0) (s more : List T) → Each Valid more → CanBegin Valid In1 (s ++ more) → CanBegin Valid In1 s
  begins_shorter In1 s more valid c = record { part = c.part; more = more ++ c.more; valid = each_append Valid more c.more valid c.valid; spells = subst (λ x. In1 c.part x) (append_assoc s more c.more) c.spells }

  -- a run isn't the front of tokens of the text that begin a part
  no_longer : (ts run rest : List T) → Each Valid ts → IsRun Valid In ts run rest → (t : T) (more after : List T) → rest ≡ t ∷ (more ++ after) → CanBegin Valid (In Supported) (run ++ t ∷ more) → ⊥
  no_longer ts run rest valid h t more after e c =
      subst (λ x. EndsBefore Valid In Supported run x) e h.longest
      (begins_shorter (In Supported) (run ++ t ∷ []) more more_valid (subst (λ x. CanBegin Valid (In Supported) x) (sym (append_assoc run (t ∷ []) more)) c))
    where
      more_valid : Each Valid more
      more_valid = each_front Valid more after (each_back Valid (run ++ t ∷ []) (more ++ after) (subst (λ x. Each Valid x) (h.whole ∙ (ap (λ x. run ++ x) e ∙ sym (append_assoc run (t ∷ []) (more ++ after)))) valid))

  pub one_run : (ts run rest run' rest' : List T) → Each Valid ts → IsRun Valid In ts run rest → IsRun Valid In ts run' rest' → (run ≡ run') × (rest ≡ rest')
  one_run ts run rest run' rest' valid h h' = by_fronts (fronts run run' rest rest' (sym h.whole ∙ h'.whole))
    where
      by_fronts : Fronts run run' rest rest' → (run ≡ run') × (rest ≡ rest')
      by_fronts (as_long p q) = (p, q)
      by_fronts (first_shorter t more p q) = absurd (no_longer ts run rest valid h t more rest' q (subst (λ x. CanBegin Valid (In Supported) x) p h'.begins))
      by_fronts (second_shorter t more p q) = absurd (no_longer ts run' rest' valid h' t more rest q (subst (λ x. CanBegin Valid (In Supported) x) p h.begins))

module _ {T A : Type 0} (Valid : T → Type 0) (In : Language → A → List T → Type 0) (height : A → ℕ) (d : ℕ) (ts : List T) (valid : Each Valid ts)
    (one_part : (a b : A) (s : List T) → In Supported a s → In Supported b s → a ≡ b) where
  -- where the token after the run begins an unsupported construct, no other answer is right
  apart : (rest : List T) (h : IsUnsupported Valid In height d ts rest) (run' rest' : List T) → IsRun Valid In ts run' rest' → EndsBefore Valid In Extended run' rest' → ⊥
  apart rest h run' rest' is_run ends =
      let same : (h.run ≡ run') × (rest ≡ rest') = one_run Valid In ts h.run rest run' rest' valid h.is_run is_run in
      let left : rest' ≡ h.token ∷ h.more = sym same.1 ∙ h.place in
      subst (λ x. EndsBefore Valid In Extended run' x) left ends (subst (λ x. CanBegin Valid (In Extended) (x ++ h.token ∷ [])) same.0 h.in_extended)

  -- one answer is right, unless it is a stop at a depth
  pub one_answer : (r r' : Answer T A) → is_deep r ≡ false → is_deep r' ≡ false → Answered Valid In height d ts r → Answered Valid In height d ts r' → r ≡ r'
  one_answer (Read a rest) (Read b rest') e e' h h' =
      let same : (h.run ≡ h'.run) × (rest ≡ rest') = one_run Valid In ts h.run rest h'.run rest' valid h.is_run h'.is_run in
      let part : a ≡ b = one_part a b h'.run (subst (λ x. In Supported a x) same.0 h.spells) h'.spells in
      let left : rest ≡ rest' = same.1 in
      cc
  one_answer (Read a rest) (Stopped Syntax rest') e e' h h' =
      let same : (h.run ≡ h'.run) × (rest ≡ rest') = one_run Valid In ts h.run rest h'.run rest' valid h.is_run h'.is_run in
      absurd (h'.no_part a (subst (λ x. In Supported a x) same.0 h.spells))
  one_answer (Read a rest) (Stopped Unsupported rest') e e' h h' = absurd (apart rest' h' h.run rest h.is_run h.supported)
  one_answer (Read a rest) (Stopped Deep rest') e e' h h' = cc
  one_answer (Stopped Syntax rest) (Read b rest') e e' h h' =
      let same : (h'.run ≡ h.run) × (rest' ≡ rest) = one_run Valid In ts h'.run rest' h.run rest valid h'.is_run h.is_run in
      absurd (h.no_part b (subst (λ x. In Supported b x) same.0 h'.spells))
  one_answer (Stopped Syntax rest) (Stopped Syntax rest') e e' h h' =
      let same : (h.run ≡ h'.run) × (rest ≡ rest') = one_run Valid In ts h.run rest h'.run rest' valid h.is_run h'.is_run in
      let left : rest ≡ rest' = same.1 in
      cc
  one_answer (Stopped Syntax rest) (Stopped Unsupported rest') e e' h h' = absurd (apart rest' h' h.run rest h.is_run h.supported)
  one_answer (Stopped Syntax rest) (Stopped Deep rest') e e' h h' = cc
  one_answer (Stopped Unsupported rest) (Read b rest') e e' h h' = absurd (apart rest h h'.run rest' h'.is_run h'.supported)
  one_answer (Stopped Unsupported rest) (Stopped Syntax rest') e e' h h' = absurd (apart rest h h'.run rest' h'.is_run h'.supported)
  one_answer (Stopped Unsupported rest) (Stopped Unsupported rest') e e' h h' =
      let same : (h.run ≡ h'.run) × (rest ≡ rest') = one_run Valid In ts h.run rest h'.run rest' valid h.is_run h'.is_run in
      let left : rest ≡ rest' = same.1 in
      cc
  one_answer (Stopped Unsupported rest) (Stopped Deep rest') e e' h h' = cc
  one_answer (Stopped Deep rest) r' e e' h h' = cc

  -- where a part is right, a stop at a depth isn't
  pub read_not_deep : (a : A) (rest rest' : List T) → IsRead Valid In height d ts a rest → IsTooDeep Valid In height d ts rest' → ⊥
  read_not_deep a rest rest' h k = by_fronts (fronts h.run (k.before ++ k.token ∷ []) rest k.more (sym h.is_run.whole ∙ (k.whole ∙ (ap (λ x. k.before ++ x) k.place ∙ sym (append_assoc k.before (k.token ∷ []) k.more)))))
    where
      sunk : (more : List T) → Each Valid more → In Supported a ((k.before ++ k.token ∷ []) ++ more) → ⊥
      sunk more more_valid in_a = k.none_low (record { part = a; more = more; valid = more_valid; spells = (in_a, h.low) })

      by_fronts : Fronts h.run (k.before ++ k.token ∷ []) rest k.more → ⊥
      by_fronts (as_long p q) = sunk [] tt (subst (λ x. In Supported a x) (p ∙ sym (append-nil (k.before ++ k.token ∷ []))) h.spells)
      by_fronts (first_shorter t more p q) = no_longer Valid In ts h.run rest valid h.is_run t more k.more q (subst (λ x. CanBegin Valid (In Supported) x) p k.begins)
      by_fronts (second_shorter t more p q) = sunk (t ∷ more) (each_back Valid (k.before ++ k.token ∷ []) (t ∷ more) (each_front Valid ((k.before ++ k.token ∷ []) ++ t ∷ more) rest (subst (λ x. Each Valid x) (h.is_run.whole ∙ ap (λ x. x ++ rest) p) valid))) (subst (λ x. In Supported a x) p h.spells)

-- The same where the part is to be all of the tokens.
module _ {T A : Type 0} (Valid : T → Type 0) (In : Language → A → List T → Type 0) (height : A → ℕ) (d : ℕ) (ts : List T) (valid : Each Valid ts)
    (one_part : (a b : A) (s : List T) → In Supported a s → In Supported b s → a ≡ b) where
  -- a token after the run isn't one of a part that spells all the tokens
  run_to_end : (run rest : List T) → IsRun Valid In ts run rest → (a : A) → In Supported a ts → (t : T) (more : List T) → rest ≡ t ∷ more → ⊥
  run_to_end run rest h a in_a t more e =
      subst (λ x. EndsBefore Valid In Supported run x) e h.longest (record {
        part = a;
        more = more;
        valid = each_back Valid (run ++ t ∷ []) more (subst (λ x. Each Valid x) whole valid);
        spells = subst (λ x. In Supported a x) whole in_a;
      })
    where
      whole : ts ≡ (run ++ t ∷ []) ++ more
      whole = h.whole ∙ (ap (λ x. run ++ x) e ∙ sym (append_assoc run (t ∷ []) more))

  refused_apart : (a : A) (rest rest' : List T) → IsReadWhole Valid In height d ts a rest → IsRefusedWhole Valid In height d ts rest' → ⊥
  refused_apart a rest rest' h h' = by_rest rest' refl
    where
      by_rest : (left : List T) → rest' ≡ left → ⊥
      by_rest [] e = h'.no_part e a h.spells
      by_rest (t ∷ more) e = run_to_end h'.run rest' h'.is_run a h.spells t more e

  unsupported_apart : (a : A) (rest rest' : List T) → IsReadWhole Valid In height d ts a rest → IsUnsupported Valid In height d ts rest' → ⊥
  unsupported_apart a rest rest' h h' = run_to_end h'.run rest' h'.is_run a h.spells h'.token h'.more h'.place

  pub one_whole_answer : (r r' : Answer T A) → is_deep r ≡ false → is_deep r' ≡ false → AnsweredWhole Valid In height d ts r → AnsweredWhole Valid In height d ts r' → r ≡ r'
  one_whole_answer (Read a rest) (Read b rest') e e' h h' =
      let part : a ≡ b = one_part a b ts h.spells h'.spells in
      let here : rest ≡ [] = h.over in
      let there : rest' ≡ [] = h'.over in
      cc
  one_whole_answer (Read a rest) (Stopped Syntax rest') e e' h h' = absurd (refused_apart a rest rest' h h')
  one_whole_answer (Read a rest) (Stopped Unsupported rest') e e' h h' = absurd (unsupported_apart a rest rest' h h')
  one_whole_answer (Read a rest) (Stopped Deep rest') e e' h h' = cc
  one_whole_answer (Stopped Syntax rest) (Read b rest') e e' h h' = absurd (refused_apart b rest' rest h' h)
  one_whole_answer (Stopped Syntax rest) (Stopped Syntax rest') e e' h h' =
      let same : (h.run ≡ h'.run) × (rest ≡ rest') = one_run Valid In ts h.run rest h'.run rest' valid h.is_run h'.is_run in
      let left : rest ≡ rest' = same.1 in
      cc
  one_whole_answer (Stopped Syntax rest) (Stopped Unsupported rest') e e' h h' = absurd (apart Valid In height d ts valid one_part rest' h' h.run rest h.is_run h.supported)
  one_whole_answer (Stopped Syntax rest) (Stopped Deep rest') e e' h h' = cc
  one_whole_answer (Stopped Unsupported rest) (Read b rest') e e' h h' = absurd (unsupported_apart b rest' rest h' h)
  one_whole_answer (Stopped Unsupported rest) (Stopped Syntax rest') e e' h h' = absurd (apart Valid In height d ts valid one_part rest h h'.run rest' h'.is_run h'.supported)
  one_whole_answer (Stopped Unsupported rest) (Stopped Unsupported rest') e e' h h' =
      let same : (h.run ≡ h'.run) × (rest ≡ rest') = one_run Valid In ts h.run rest h'.run rest' valid h.is_run h'.is_run in
      let left : rest ≡ rest' = same.1 in
      cc
  one_whole_answer (Stopped Unsupported rest) (Stopped Deep rest') e e' h h' = cc
  one_whole_answer (Stopped Deep rest) r' e e' h h' = cc
