-- Words of which one is refused are no command's.
use Rattle.std.proofs.Common.{ℕ, ◌≡◌, sym, subst, refl, List, [], ◌∷◌, Option, None, option_map, Bool, true, false, not, cond, ◌&&◌, ◌||◌, bytes_eq, codes, drop, true≢false, eqb-true}
use Rattle.command_words.specs.declared.command.Action.TheVariants.{Kinds, Cure, Run, Exec}
use Rattle.command_words.specs.Commands.{Command, OnFile, Make, asked_by, in_three_words, in_two_words, is_file_name, most_turns, on_file, only_file, only_number, running, sets_turns}
use Rattle.command_words.specs.Numbers.{number_of}
use Rattle.command_words.specs.Passed.{are_read, is_dashed, is_read}
use Rattle.command_words.proofs.RunWords.{no_number}

-- what is known of a word that is refused
pub record IsRefused (w : List ℕ) : Type 0 where
  pub no_name : is_file_name w ≡ false
  pub no_number_of : (most : ℕ) → number_of most w ≡ None
  pub no_option : bytes_eq w (codes "--turns") ≡ false
  pub no_setting : sets_turns w ≡ false

module _ (w : List ℕ) where
  nameless : is_dashed w ≡ true → is_file_name w ≡ false
  nameless = go w
    where
      go : (w : List ℕ) → is_dashed w ≡ true → is_file_name w ≡ false
      go [] e = refl
      go (c ∷ cs) e = rw e refl

  numberless : (most : ℕ) → is_dashed w ≡ true → number_of most w ≡ None
  numberless most = go w
    where
      go : (w : List ℕ) → is_dashed w ≡ true → number_of most w ≡ None
      go [] e = absurd (true≢false (sym e))
      go (c ∷ cs) e = subst (λ (d : ℕ). number_of most (d ∷ cs) ≡ None) (sym (eqb-true c 45 e)) refl

  by_parts : (d o s : Bool) → is_dashed w ≡ d → bytes_eq w (codes "--turns") ≡ o → sets_turns w ≡ s → (not d || (o || s)) ≡ false → IsRefused w
  by_parts true false false d o s e = record { no_name = nameless d; no_number_of = λ most. numberless most d; no_option = o; no_setting = s }
  by_parts false o' s' d o s e = absurd (true≢false e)
  by_parts true true s' d o s e = absurd (true≢false e)
  by_parts true false true d o s e = absurd (true≢false e)

  pub refused_word : is_read w ≡ false → IsRefused w
  refused_word e = by_parts _ _ _ refl refl refl e

no_file : (f n : List ℕ) → is_file_name f ≡ false → on_file f n ≡ None
no_file f n none = rw none refl

-- ---- where one of the words is refused

two_first : (a b : List ℕ) → IsRefused a → in_two_words a b ≡ None
two_first a b bad_word = go (sets_turns b)
  where
    go : (y : Bool) → cond (sets_turns a) (on_file b (drop 8 a)) (cond y (on_file a (drop 8 b)) None) ≡ None
    go true = rw bad_word.no_setting (no_file a (drop 8 b) bad_word.no_name)
    go false = rw bad_word.no_setting refl

two_second : (a b : List ℕ) → IsRefused b → in_two_words a b ≡ None
two_second a b bad_word = go (sets_turns a)
  where
    go : (x : Bool) → cond x (on_file b (drop 8 a)) (cond (sets_turns b) (on_file a (drop 8 b)) None) ≡ None
    go true = no_file b (drop 8 a) bad_word.no_name
    go false = rw bad_word.no_setting refl

module _ (a b c : List ℕ) where
  abbrev Three : (x y : Bool) → Type 0
  Three x y = cond x (on_file c b) (cond y (on_file a c) None) ≡ None

  three_first : IsRefused a → in_three_words a b c ≡ None
  three_first bad_word = go (bytes_eq b (codes "--turns"))
    where
      go : (y : Bool) → Three (bytes_eq a (codes "--turns")) y
      go true = rw bad_word.no_option (no_file a c bad_word.no_name)
      go false = rw bad_word.no_option refl

  three_second : IsRefused b → in_three_words a b c ≡ None
  three_second bad_word = go (bytes_eq a (codes "--turns"))
    where
      go : (x : Bool) → Three x (bytes_eq b (codes "--turns"))
      go true = no_number c b (bad_word.no_number_of most_turns)
      go false = rw bad_word.no_option refl

  three_third : IsRefused c → in_three_words a b c ≡ None
  three_third bad_word = go (bytes_eq a (codes "--turns")) (bytes_eq b (codes "--turns"))
    where
      go : (x y : Bool) → Three x y
      go true y = no_file c b bad_word.no_name
      go false true = no_number a c (bad_word.no_number_of most_turns)
      go false false = refl

no_run : (words : List (List ℕ)) → are_read words ≡ false → running words ≡ None
no_run [] e = refl
no_run (f ∷ []) e = go (is_read f) refl e
  where
    go : (x : Bool) → is_read f ≡ x → (x && true) ≡ false → running (f ∷ []) ≡ None
    go true is bad = absurd (true≢false bad)
    go false is bad = rw (refused_word f is).no_name refl
no_run (a ∷ b ∷ []) e = go (is_read a) (is_read b) refl refl e
  where
    go : (x y : Bool) → is_read a ≡ x → is_read b ≡ y → (x && (y && true)) ≡ false → in_two_words a b ≡ None
    go true true p q bad = absurd (true≢false bad)
    go false y p q bad = two_first a b (refused_word a p)
    go true false p q bad = two_second a b (refused_word b q)
no_run (a ∷ b ∷ c ∷ []) e = go (is_read a) (is_read b) (is_read c) refl refl refl e
  where
    go : (x y z : Bool) → is_read a ≡ x → is_read b ≡ y → is_read c ≡ z → (x && (y && (z && true))) ≡ false → in_three_words a b c ≡ None
    go true true true p q r bad = absurd (true≢false bad)
    go false y z p q r bad = three_first a b c (refused_word a p)
    go true false z p q r bad = three_second a b c (refused_word b q)
    go true true false p q r bad = three_third a b c (refused_word c r)
no_run (a ∷ b ∷ c ∷ d ∷ more) e = refl

no_only_file : (words : List (List ℕ)) → are_read words ≡ false → only_file words ≡ None
no_only_file [] e = refl
no_only_file (f ∷ []) e = no_run-file f e
  where
    no_run-file : (f : List ℕ) → (is_read f && true) ≡ false → only_file (f ∷ []) ≡ None
    no_run-file f e = go (is_read f) refl e
      where
        go : (x : Bool) → is_read f ≡ x → (x && true) ≡ false → only_file (f ∷ []) ≡ None
        go true is bad = absurd (true≢false bad)
        go false is bad = rw (refused_word f is).no_name refl
no_only_file (f ∷ g ∷ more) e = refl

no_only_number : (words : List (List ℕ)) → are_read words ≡ false → only_number words ≡ None
no_only_number [] e = refl
no_only_number (n ∷ []) e = go (is_read n) refl e
  where
    go : (x : Bool) → is_read n ≡ x → (x && true) ≡ false → only_number (n ∷ []) ≡ None
    go true is bad = absurd (true≢false bad)
    go false is bad = (refused_word n is).no_number_of 1000
no_only_number (n ∷ m ∷ more) e = refl

-- whatever the first word is
module _ (words : List (List ℕ)) (e : are_read words ≡ false) where
  abbrev Asked : (r k c x m : Bool) → Option Command
  Asked r k c x m =
      cond r (option_map (λ s. OnFile (Run s.1) s.0) (running words))
      (cond k (option_map (OnFile Kinds) (only_file words))
      (cond c (option_map (OnFile Cure) (only_file words))
      (cond x (option_map (λ s. OnFile (Exec s.1) s.0) (running words))
      (cond m (option_map Make (only_number words)) None))))

  none_of : (r k c x m : Bool) → Asked r k c x m ≡ None
  none_of true k c x m = rw (no_run words e) refl
  none_of false true c x m = rw (no_only_file words e) refl
  none_of false false true x m = rw (no_only_file words e) refl
  none_of false false false true m = rw (no_run words e) refl
  none_of false false false false true = rw (no_only_number words e) refl
  none_of false false false false false = refl

  pub none_asked : (first : List ℕ) → asked_by first words ≡ None
  none_asked first =
      none_of (bytes_eq first (codes "run")) (bytes_eq first (codes "kinds")) (bytes_eq first (codes "cure")) (bytes_eq first (codes "exec")) (bytes_eq first (codes "make"))
