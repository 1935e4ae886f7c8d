-- What the command of a run makes of words that are read: it fails and they are no run's, or it has the file and the turns.
use Rattle.std.proofs.Common.{IsErrAnd, Err, Ok, Result, ap₂, unwrap_or, ◌≢◌, ℕ, ◌≡◌, ◌∙◌, sym, ap, subst, refl, List, [], ◌∷◌, ◌++◌, codes, Option, Some, None, Bool, true, false, cond, ◌==◌, option_map, option_and_then}
use Rattle.clap.specs.Words.{App, Row, Text, Shape, Kinds, first_of, first_value, found_of, fault_of, is_simple_and_free, matches_of}
use Rattle.clap.specs.Simple.{built}
use Rattle.clap.specs.Faults.{turn_fault}
use Rattle.clap.specs.Walk.{Walk, idle, option, has_row, nothing_held, walk_from, walked}
use Rattle.clap.specs.declared.error.kind.ErrorKind.{ErrorKind}
use Rattle.clap.specs.declared.error.kind.ErrorKind.TheVariants as kind
use Rattle.clap.specs.declared.parser.matches.ArgMatches.{ArgMatches}
use Rattle.std.specs.Borrow.{Bor}
use Rattle.clap.proofs.FaultLemmas.{leaf_fault}
use Rattle.clap.proofs.WalkLemmas.{both, first_value-rows}
use Rattle.clap.proofs.OnLiterals.{clap_on_literals}
use Rattle.command_words.specs.Apps.{Parses, run_app}
use Rattle.command_words.specs.Commands.{in_three_words, in_two_words, is_file_name, most_turns, on_file, running}
use Rattle.command_words.specs.Numbers.{number_of}
use Rattle.command_words.specs.declared.fault.WordsFault.{WordsFault}
use Rattle.command_words.specs.declared.fault.WordsFault.TheVariants.{NoCommand, NoMemory}
use Rattle.command_words.specs.Passed.{are_read}
use Rattle.command_words.specs.Reads.{ReadsRun, run_of}
use Rattle.command_words.proofs.Turns.{at, fails_at, fault_from, passes, row, rows_from}
use Rattle.command_words.proofs.WordKinds.{IsPlain, by_kind}

pub run_app_is_simple : is_simple_and_free run_app ≡ true
unfolding clap_on_literals
run_app_is_simple = refl

abbrev top : Shape
top = (built run_app).top

-- ---- what words come to

pub data Comes (words : List Text) (kinds : Kinds) (rows : List Row) : Type 0 where
  fails : (k : ErrorKind) (ks : Kinds) → kinds ≡ k ∷ ks → running words ≡ None → Comes words kinds rows
  reads : (file : Text) (turns : Option Text) → kinds ≡ [] → first_of (codes "file") rows ≡ Some file
      → first_of (codes "turns") rows ≡ turns → running words ≡ run_of file turns → Comes words kinds rows

-- what all the words come to, where these are left
abbrev From : (words : List Text) → Walk → List Text → Type 0
From words w rest = Comes words (fault_from top w rest) (rows_from top w rest)

goes : (words : List Text) (w v : Walk) (word : Text) (rest : List Text) → turn_fault top [] w word ≡ [] → walked top.rules [] w word ≡ v
    → From words v rest → From words w (word ∷ rest)
goes words w v word rest none next h = passes top w word rest (Comes words) v none next h

stops : (words : List Text) (w : Walk) (word : Text) (rest : List Text) (k : ErrorKind) → turn_fault top [] w word ≡ k ∷ [] → running words ≡ None
    → From words w (word ∷ rest)
stops words w word rest k bad none = fails k [] (fails_at top w word rest k bad) none

-- ---- words that are no run's

pub no_number : (f n : Text) → number_of most_turns n ≡ None → on_file f n ≡ None
no_number f n none = go (is_file_name f)
  where
    go : (b : Bool) → option_and_then {U = Text × ℕ} (λ name. option_map (λ k. (name, k)) (number_of most_turns n)) (cond b (Some f) None) ≡ None
    go true = rw none refl
    go false = refl

none_behind_two : (a b : Text) → in_two_words a b ≡ None → ((c : Text) → in_three_words a b c ≡ None) → (rest : List Text) → running (a ∷ b ∷ rest) ≡ None
none_behind_two a b two three [] = two
none_behind_two a b two three (c ∷ []) = three c
none_behind_two a b two three (c ∷ d ∷ rest) = refl

none_behind_three : (a b c : Text) → in_three_words a b c ≡ None → (rest : List Text) → running (a ∷ b ∷ c ∷ rest) ≡ None
none_behind_three a b c three [] = three
none_behind_three a b c three (d ∷ rest) = refl

-- ---- places of the walk

abbrev option_word : Text
option_word = codes "--turns"

abbrev setting_word : Text → Text
setting_word v = codes "--turns=" ++ v

-- the option stands where its value was, with no value yet, or with one
abbrev again : List Row → ℕ → Walk
again rows position = at rows (Some (codes "turns", [])) (option (codes "turns")) position

abbrev again_with : List Row → Text → ℕ → Walk
again_with rows n position = at rows (Some (codes "turns", n ∷ [])) idle position

module _ (words : List Text) (none : running words ≡ None) (rows : List Row) (has : has_row (codes "turns") rows ≡ true) (position : ℕ) where
  twice_with : (n : Text) (rest : List Text) → are_read rest ≡ true → From words (again_with rows n position) rest
  unfolding clap_on_literals
  twice_with n [] read = fails kind.ArgumentConflict [] (rw has refl) none
  twice_with n (c ∷ rest) read =
      by_kind (λ c. From words (again_with rows n position) (c ∷ rest))
      (λ c p. go c p (1 == position) refl)
      (stops words (again_with rows n position) option_word rest kind.ArgumentConflict (rw has refl) none)
      (λ v. stops words (again_with rows n position) (setting_word v) rest kind.ArgumentConflict (rw has refl) none)
      c (both _ _ read).0
    where
      go : (c : Text) → IsPlain c → (b : Bool) → (1 == position) ≡ b → From words (again_with rows n position) (c ∷ rest)
      go c p true same = stops words (again_with rows n position) c rest kind.ArgumentConflict (rw (p.dashes, p.undashed, p.undashed, same, has) refl) none
      go c p false same = stops words (again_with rows n position) c rest kind.UnknownArgument (rw (p.dashes, p.undashed, p.undashed, same) refl) none

  twice : (rest : List Text) → are_read rest ≡ true → From words (again rows position) rest
  unfolding clap_on_literals
  twice [] read = fails kind.InvalidValue [] refl none
  twice (c ∷ rest) read =
      by_kind (λ c. From words (again rows position) (c ∷ rest))
      (λ c p. goes words (again rows position) (again_with rows c position) c rest (rw (p.dashes, p.undashed, p.undashed) refl) (rw (p.dashes, p.undashed, p.undashed) refl)
      (twice_with c rest (both _ _ read).1))
      (stops words (again rows position) option_word rest kind.InvalidValue refl none)
      (λ v. stops words (again rows position) (setting_word v) rest kind.InvalidValue refl none)
      c (both _ _ read).0

-- ---- the words behind one that is left, from each place; the word itself is judged where it is read

-- the file and the turns are there, and no word is left that could be more
module _ (f v : Text) (before : List Text → List Text) (is_last : running (before []) ≡ run_of f (Some v))
    (is_none : (c : Text) (rest : List Text) → running (before (c ∷ rest)) ≡ None) where
  abbrev file_row : Row
  file_row = row (codes "file") f

  abbrev turns_row : Row
  turns_row = row (codes "turns") v

  -- FILE came last
  abbrev file_last : Walk
  file_last = at (turns_row ∷ []) (Some (codes "file", f ∷ [])) idle 2

  -- N came last, in its own word
  abbrev number_last : Walk
  number_last = at (file_row ∷ []) (Some (codes "turns", v ∷ [])) idle 2

  -- N came last, behind `=`
  abbrev setting_last : Walk
  setting_last = at (file_row ∷ turns_row ∷ []) None idle 2

  behind_file : (rest : List Text) → are_read rest ≡ true → From (before rest) file_last rest
  unfolding clap_on_literals
  behind_file [] read = reads f (Some v) refl refl refl is_last
  behind_file (c ∷ rest) read =
      by_kind (λ c. From (before (c ∷ rest)) file_last (c ∷ rest))
      (λ c p. stops (before (c ∷ rest)) file_last c rest kind.UnknownArgument (rw (p.dashes, p.undashed, p.undashed) refl) (is_none c rest))
      (goes (before (option_word ∷ rest)) file_last (again (turns_row ∷ file_row ∷ []) 2) option_word rest refl refl
      (twice (before (option_word ∷ rest)) (is_none option_word rest) (turns_row ∷ file_row ∷ []) refl 2 rest (both _ _ read).1))
      (λ u. stops (before (setting_word u ∷ rest)) file_last (setting_word u) rest kind.ArgumentConflict refl (is_none (setting_word u) rest))
      c (both _ _ read).0

  behind_number : (rest : List Text) → are_read rest ≡ true → From (before rest) number_last rest
  unfolding clap_on_literals
  behind_number [] read = reads f (Some v) refl refl refl is_last
  behind_number (c ∷ rest) read =
      by_kind (λ c. From (before (c ∷ rest)) number_last (c ∷ rest))
      (λ c p. stops (before (c ∷ rest)) number_last c rest kind.UnknownArgument (rw (p.dashes, p.undashed, p.undashed) refl) (is_none c rest))
      (goes (before (option_word ∷ rest)) number_last (again (file_row ∷ turns_row ∷ []) 2) option_word rest refl refl
      (twice (before (option_word ∷ rest)) (is_none option_word rest) (file_row ∷ turns_row ∷ []) refl 2 rest (both _ _ read).1))
      (λ u. stops (before (setting_word u ∷ rest)) number_last (setting_word u) rest kind.ArgumentConflict refl (is_none (setting_word u) rest))
      c (both _ _ read).0

  behind_setting : (rest : List Text) → are_read rest ≡ true → From (before rest) setting_last rest
  unfolding clap_on_literals
  behind_setting [] read = reads f (Some v) refl refl refl is_last
  behind_setting (c ∷ rest) read =
      by_kind (λ c. From (before (c ∷ rest)) setting_last (c ∷ rest))
      (λ c p. stops (before (c ∷ rest)) setting_last c rest kind.UnknownArgument (rw (p.dashes, p.undashed, p.undashed) refl) (is_none c rest))
      (goes (before (option_word ∷ rest)) setting_last (again (file_row ∷ turns_row ∷ []) 2) option_word rest refl refl
      (twice (before (option_word ∷ rest)) (is_none option_word rest) (file_row ∷ turns_row ∷ []) refl 2 rest (both _ _ read).1))
      (λ u. stops (before (setting_word u ∷ rest)) setting_last (setting_word u) rest kind.ArgumentConflict refl (is_none (setting_word u) rest))
      c (both _ _ read).0

-- FILE came first, and nothing else yet
module _ (f : Text) (plain_file : IsPlain f) where
  abbrev file_first : Walk
  file_first = at [] (Some (codes "file", f ∷ [])) idle 2

  -- then the option
  abbrev option_second : Walk
  option_second = at (row (codes "file") f ∷ []) (Some (codes "turns", [])) (option (codes "turns")) 2

  behind_option : (rest : List Text) → are_read rest ≡ true → From (f ∷ option_word ∷ rest) option_second rest
  unfolding clap_on_literals
  behind_option [] read = fails kind.InvalidValue [] refl (rw plain_file.setting refl)
  behind_option (c ∷ rest) read =
      by_kind (λ c. From (f ∷ option_word ∷ c ∷ rest) option_second (c ∷ rest))
      (λ n p. goes (f ∷ option_word ∷ n ∷ rest) option_second (number_last f n (λ more. f ∷ option_word ∷ n ∷ more) (rw plain_file.option refl) (λ d more. refl)) n rest
      (rw (p.dashes, p.undashed, p.undashed) refl) (rw (p.dashes, p.undashed, p.undashed) refl)
      (behind_number f n (λ more. f ∷ option_word ∷ n ∷ more) (rw plain_file.option refl) (λ d more. refl) rest (both _ _ read).1))
      (stops (f ∷ option_word ∷ option_word ∷ rest) option_second option_word rest kind.InvalidValue refl
      (none_behind_three f option_word option_word (rw plain_file.option (no_number f option_word refl)) rest))
      (λ u. stops (f ∷ option_word ∷ setting_word u ∷ rest) option_second (setting_word u) rest kind.InvalidValue refl
      (none_behind_three f option_word (setting_word u) (rw plain_file.option (no_number f (setting_word u) refl)) rest))
      c (both _ _ read).0

  behind_first_file : (rest : List Text) → are_read rest ≡ true → From (f ∷ rest) file_first rest
  unfolding clap_on_literals
  behind_first_file [] read = reads f None refl refl refl refl
  behind_first_file (c ∷ rest) read =
      by_kind (λ c. From (f ∷ c ∷ rest) file_first (c ∷ rest))
      (λ c p. stops (f ∷ c ∷ rest) file_first c rest kind.UnknownArgument (rw (p.dashes, p.undashed, p.undashed) refl)
      (none_behind_two f c (rw (plain_file.setting, p.setting) refl) (λ d. rw (plain_file.option, p.option) refl) rest))
      (goes (f ∷ option_word ∷ rest) file_first option_second option_word rest refl refl (behind_option rest (both _ _ read).1))
      (λ u. goes (f ∷ setting_word u ∷ rest) file_first
      (setting_last f u (λ more. f ∷ setting_word u ∷ more) (rw plain_file.setting refl) (λ d more. with_setting u d more)) (setting_word u) rest refl refl
      (behind_setting f u (λ more. f ∷ setting_word u ∷ more) (rw plain_file.setting refl) (λ d more. with_setting u d more) rest (both _ _ read).1))
      c (both _ _ read).0
    where
      with_setting : (u d : Text) (more : List Text) → running (f ∷ setting_word u ∷ d ∷ more) ≡ None
      with_setting u d more = none_behind_three f (setting_word u) d (rw plain_file.option refl) more

-- the option and N came first
module _ (n : Text) (plain_number : IsPlain n) where
  abbrev number_second : Walk
  number_second = at [] (Some (codes "turns", n ∷ [])) idle 1

  behind_first_number : (rest : List Text) → are_read rest ≡ true → From (option_word ∷ n ∷ rest) number_second rest
  unfolding clap_on_literals
  behind_first_number [] read = fails kind.MissingRequiredArgument [] refl (rw plain_number.setting refl)
  behind_first_number (c ∷ rest) read =
      by_kind (λ c. From (option_word ∷ n ∷ c ∷ rest) number_second (c ∷ rest))
      (λ f p. goes (option_word ∷ n ∷ f ∷ rest) number_second (file_last f n (λ more. option_word ∷ n ∷ f ∷ more) refl (λ d more. refl)) f rest
      (rw (p.dashes, p.undashed, p.undashed) refl) (rw (p.dashes, p.undashed, p.undashed) refl)
      (behind_file f n (λ more. option_word ∷ n ∷ f ∷ more) refl (λ d more. refl) rest (both _ _ read).1))
      (goes (option_word ∷ n ∷ option_word ∷ rest) number_second (again (row (codes "turns") n ∷ []) 1) option_word rest refl refl
      (twice (option_word ∷ n ∷ option_word ∷ rest) (none_behind_three option_word n option_word refl rest) (row (codes "turns") n ∷ []) refl 1 rest (both _ _ read).1))
      (λ u. stops (option_word ∷ n ∷ setting_word u ∷ rest) number_second (setting_word u) rest kind.ArgumentConflict refl
      (none_behind_three option_word n (setting_word u) refl rest))
      c (both _ _ read).0

-- the option came first
abbrev option_first : Walk
option_first = at [] (Some (codes "turns", [])) (option (codes "turns")) 1

behind_first_option : (rest : List Text) → are_read rest ≡ true → From (option_word ∷ rest) option_first rest
unfolding clap_on_literals
behind_first_option [] read = fails kind.InvalidValue [] refl refl
behind_first_option (c ∷ rest) read =
    by_kind (λ c. From (option_word ∷ c ∷ rest) option_first (c ∷ rest))
    (λ n p. goes (option_word ∷ n ∷ rest) option_first (number_second n p) n rest (rw (p.dashes, p.undashed, p.undashed) refl) (rw (p.dashes, p.undashed, p.undashed) refl)
    (behind_first_number n p rest (both _ _ read).1))
    (stops (option_word ∷ option_word ∷ rest) option_first option_word rest kind.InvalidValue refl
    (none_behind_two option_word option_word refl (λ d. no_number d option_word refl) rest))
    (λ u. stops (option_word ∷ setting_word u ∷ rest) option_first (setting_word u) rest kind.InvalidValue refl
    (none_behind_two option_word (setting_word u) refl (λ d. no_number d (setting_word u) refl) rest))
    c (both _ _ read).0

-- the option and its value came first
module _ (v : Text) where
  abbrev setting_first : Walk
  setting_first = at (row (codes "turns") v ∷ []) None idle 1

  behind_first_setting : (rest : List Text) → are_read rest ≡ true → From (setting_word v ∷ rest) setting_first rest
  unfolding clap_on_literals
  behind_first_setting [] read = fails kind.MissingRequiredArgument [] refl refl
  behind_first_setting (c ∷ rest) read =
      by_kind (λ c. From (setting_word v ∷ c ∷ rest) setting_first (c ∷ rest))
      (λ f p. goes (setting_word v ∷ f ∷ rest) setting_first
      (file_last f v (λ more. setting_word v ∷ f ∷ more) refl (λ d more. none_behind_three (setting_word v) f d (rw p.option refl) more)) f rest
      (rw (p.dashes, p.undashed, p.undashed) refl) (rw (p.dashes, p.undashed, p.undashed) refl)
      (behind_file f v (λ more. setting_word v ∷ f ∷ more) refl (λ d more. none_behind_three (setting_word v) f d (rw p.option refl) more) rest (both _ _ read).1))
      (goes (setting_word v ∷ option_word ∷ rest) setting_first (again (row (codes "turns") v ∷ []) 1) option_word rest refl refl
      (twice (setting_word v ∷ option_word ∷ rest) (none_behind_two (setting_word v) option_word refl (λ d. refl) rest) (row (codes "turns") v ∷ []) refl 1 rest (both _ _ read).1))
      (λ u. stops (setting_word v ∷ setting_word u ∷ rest) setting_first (setting_word u) rest kind.ArgumentConflict refl
      (none_behind_two (setting_word v) (setting_word u) refl (λ d. refl) rest))
      c (both _ _ read).0

comes : (words : List Text) → are_read words ≡ true → From words (walk_from nothing_held) words
unfolding clap_on_literals
comes [] read = fails kind.MissingRequiredArgument [] refl refl
comes (c ∷ rest) read =
    by_kind (λ c. From (c ∷ rest) (walk_from nothing_held) (c ∷ rest))
    (λ f p. goes (f ∷ rest) (walk_from nothing_held) (file_first f p) f rest (rw (p.dashes, p.undashed, p.undashed) refl) (rw (p.dashes, p.undashed, p.undashed) refl)
    (behind_first_file f p rest (both _ _ read).1))
    (goes (option_word ∷ rest) (walk_from nothing_held) option_first option_word rest refl refl (behind_first_option rest (both _ _ read).1))
    (λ v. goes (setting_word v ∷ rest) (walk_from nothing_held) (setting_first v) (setting_word v) rest refl refl (behind_first_setting v rest (both _ _ read).1))
    c (both _ _ read).0

-- ---- the command on all the words

whole : (words : List Text) → are_read words ≡ true → Comes words (fault_of run_app words) (matches_of run_app words)
whole words read =
    subst (λ (k : Kinds). Comes words k (matches_of run_app words)) (sym (leaf_fault (built run_app) nothing_held words refl)) (comes words read)

by_fault : (words : List Text) (kinds : Kinds) (rows : List Row) → Comes words kinds rows → kinds ≢ [] → running words ≡ None
by_fault words kinds rows (fails k ks same none) bad = none
by_fault words kinds rows (reads file turns same has_file has_turns is) bad = absurd (bad same)

by_rows : (words : List Text) (kinds : Kinds) (rows : List Row) → Comes words kinds rows → kinds ≡ [] → (file : Text) (turns : Option Text)
    → Some file ≡ first_of (codes "file") rows → turns ≡ first_of (codes "turns") rows → running words ≡ run_of file turns
by_rows words kinds rows (fails k ks same none) empty file turns has_file has_turns = absurd (cc (same, empty))
by_rows words kinds rows (reads f t same is_file is_turns is) empty file turns has_file has_turns =
    let names : Some f ≡ Some file = sym is_file ∙ sym has_file in
    is ∙ ap₂ run_of (ap (λ (o : Option Text). unwrap_or o f) names) (sym is_turns ∙ sym has_turns)

without_file : (words : List Text) (kinds : Kinds) (rows : List Row) → Comes words kinds rows → kinds ≡ [] → None ≡ first_of (codes "file") rows → running words ≡ None
without_file words kinds rows (fails k ks same none) empty missing = none
without_file words kinds rows (reads f t same is_file is_turns is) empty missing = absurd (cc (missing, is_file))

module _ (words : List Text) (read : are_read words ≡ true) (a : App) (is_app : a ≡ run_app) where
  on_app : Comes words (fault_of a words) (matches_of a words)
  on_app = subst (λ (b : App). Comes words (fault_of b words) (matches_of b words)) (sym is_app) (whole words read)

  -- an error that is passed up says what it should
  pub refused : (r : Result (Bor Text × Option (Bor Text)) WordsFault) (fault : WordsFault) → Parses a words (Err fault)
      → IsErrAnd r (λ (e : WordsFault). e ≡ fault) → ReadsRun words r
  refused (Ok x) fault parses same = absurd same
  refused (Err NoMemory) fault parses same = tt {0}
  refused (Err NoCommand) fault parses same =
      by_fault words (fault_of a words) (matches_of a words) on_app (subst (λ (e : WordsFault). Parses a words (Err e)) (sym same) parses)

  module _ (m : ArgMatches) (parses : Parses a words (Ok m)) where
    found : (id : Text) → first_value (found_of m) id ≡ first_of id (matches_of a words)
    found id = first_value-rows (found_of m) id ∙ ap (first_of id) parses.1

    pub taken : (file : Text) (turns : Option Text) → Some file ≡ first_value (found_of m) (codes "file") → turns ≡ first_value (found_of m) (codes "turns")
        → running words ≡ run_of file turns
    taken file turns has_file has_turns =
        by_rows words (fault_of a words) (matches_of a words) on_app parses.0 file turns (has_file ∙ found (codes "file")) (has_turns ∙ found (codes "turns"))

    pub without : None ≡ first_value (found_of m) (codes "file") → running words ≡ None
    without missing = without_file words (fault_of a words) (matches_of a words) on_app parses.0 (missing ∙ found (codes "file"))
