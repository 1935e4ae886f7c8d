-- What the command of one word makes of words that are read: it fails and they are no command's, or it has the word.
use Rattle.std.proofs.Common.{IsErrAnd, Err, Ok, Result, unwrap_or, ◌≢◌, ◌≡◌, ◌∙◌, sym, ap, subst, refl, List, [], ◌∷◌, ◌++◌, codes, Option, Some, None, true}
use Rattle.std.specs.Borrow.{Bor}
use Rattle.clap.specs.Words.{App, Row, Text, Shape, Kinds, first_of, first_value, found_of, fault_of, is_simple_and_free, matches_of}
use Rattle.clap.specs.Simple.{built}
use Rattle.clap.specs.Faults.{turn_fault}
use Rattle.clap.specs.Walk.{Walk, idle, nothing_held, walk_from}
use Rattle.clap.specs.declared.error.kind.ErrorKind.{ErrorKind}
use Rattle.clap.specs.declared.error.kind.ErrorKind.TheVariants as kind
use Rattle.clap.specs.declared.parser.matches.ArgMatches.{ArgMatches}
use Rattle.clap.proofs.FaultLemmas.{leaf_fault}
use Rattle.clap.proofs.WalkLemmas.{both, first_value-rows}
use Rattle.clap.proofs.OnLiterals.{clap_on_literals}
use Rattle.command_words.specs.Apps.{Parses, word_app}
use Rattle.command_words.specs.Commands.{only_file, only_number}
use Rattle.command_words.specs.Passed.{are_read}
use Rattle.command_words.specs.Reads.{ReadsWord}
use Rattle.command_words.specs.declared.fault.WordsFault.{WordsFault}
use Rattle.command_words.specs.declared.fault.WordsFault.TheVariants.{NoCommand, NoMemory}
use Rattle.command_words.proofs.Turns.{at, fails_at, fault_from, passes, rows_from}
use Rattle.command_words.proofs.WordKinds.{by_kind}

pub word_app_is_simple : is_simple_and_free word_app ≡ true
unfolding clap_on_literals
word_app_is_simple = refl

abbrev top : Shape
top = (built word_app).top

-- no command has these words behind its own
abbrev pub HasNone : List Text → Type 0
HasNone words = (only_file words ≡ None) × (only_number words ≡ None)

pub data Comes (words : List Text) (kinds : Kinds) (rows : List Row) : Type 0 where
  fails : (k : ErrorKind) → kinds ≡ k ∷ [] → HasNone words → Comes words kinds rows
  reads : (word : Text) → kinds ≡ [] → first_of (codes "word") rows ≡ Some word → words ≡ word ∷ [] → Comes words kinds rows

-- what all the words come to, where these are left
abbrev From : (words : List Text) → Walk → List Text → Type 0
From words w rest = Comes words (fault_from top w rest) (rows_from top w rest)

stops : (words : List Text) (w : Walk) (word : Text) (rest : List Text) (k : ErrorKind) → turn_fault top [] w word ≡ k ∷ [] → HasNone words
    → From words w (word ∷ rest)
stops words w word rest k bad none = fails k (fails_at top w word rest k bad) none

abbrev option_word : Text
option_word = codes "--turns"

abbrev setting_word : Text → Text
setting_word v = codes "--turns=" ++ v

-- the word is there
abbrev word_first : Text → Walk
word_first w = at [] (Some (codes "word", w ∷ [])) idle 2

behind_word : (w : Text) (rest : List Text) → are_read rest ≡ true → From (w ∷ rest) (word_first w) rest
unfolding clap_on_literals
behind_word w [] read = reads w refl refl refl
behind_word w (c ∷ rest) read =
    by_kind (λ c. From (w ∷ c ∷ rest) (word_first w) (c ∷ rest))
    (λ c p. stops (w ∷ c ∷ rest) (word_first w) c rest kind.UnknownArgument (rw (p.dashes, p.undashed, p.undashed) refl) (refl, refl))
    (stops (w ∷ option_word ∷ rest) (word_first w) option_word rest kind.UnknownArgument refl (refl, refl))
    (λ u. stops (w ∷ setting_word u ∷ rest) (word_first w) (setting_word u) rest kind.UnknownArgument refl (refl, refl))
    c (both _ _ read).0

no_option : (rest : List Text) → HasNone (option_word ∷ rest)
no_option [] = (refl, refl)
no_option (c ∷ rest) = (refl, refl)

no_setting : (u : Text) (rest : List Text) → HasNone (setting_word u ∷ rest)
no_setting u [] = (refl, refl)
no_setting u (c ∷ rest) = (refl, refl)

comes : (words : List Text) → are_read words ≡ true → From words (walk_from nothing_held) words
unfolding clap_on_literals
comes [] read = fails kind.MissingRequiredArgument refl (refl, refl)
comes (c ∷ rest) read =
    by_kind (λ c. From (c ∷ rest) (walk_from nothing_held) (c ∷ rest))
    (λ w p. passes top (walk_from nothing_held) w rest (Comes (w ∷ rest)) (word_first w) (rw (p.dashes, p.undashed, p.undashed) refl)
    (rw (p.dashes, p.undashed, p.undashed) refl) (behind_word w rest (both _ _ read).1))
    (stops (option_word ∷ rest) (walk_from nothing_held) option_word rest kind.UnknownArgument refl (no_option rest))
    (λ u. stops (setting_word u ∷ rest) (walk_from nothing_held) (setting_word u) rest kind.UnknownArgument refl (no_setting u rest))
    c (both _ _ read).0

-- ---- the command on all the words

by_fault : (words : List Text) (kinds : Kinds) (rows : List Row) → Comes words kinds rows → kinds ≢ [] → HasNone words
by_fault words kinds rows (fails k same none) bad = none
by_fault words kinds rows (reads word same has is) bad = absurd (bad same)

by_rows : (words : List Text) (kinds : Kinds) (rows : List Row) → Comes words kinds rows → kinds ≡ [] → (word : Text)
    → Some word ≡ first_of (codes "word") rows → words ≡ word ∷ []
by_rows words kinds rows (fails k same none) empty word has = absurd (cc (same, empty))
by_rows words kinds rows (reads w same is_word is) empty word has =
    let names : Some w ≡ Some word = sym is_word ∙ sym has in
    is ∙ ap (λ (o : Option Text). unwrap_or o w ∷ []) names

without_word : (words : List Text) (kinds : Kinds) (rows : List Row) → Comes words kinds rows → kinds ≡ [] → None ≡ first_of (codes "word") rows → HasNone words
without_word words kinds rows (fails k same none) empty missing = none
without_word words kinds rows (reads w same is_word is) empty missing = absurd (cc (missing, is_word))

module _ (words : List Text) (read : are_read words ≡ true) (a : App) (is_app : a ≡ word_app) where
  whole : Comes words (fault_of word_app words) (matches_of word_app words)
  whole =
      subst (λ (k : Kinds). Comes words k (matches_of word_app words)) (sym (leaf_fault (built word_app) nothing_held words refl)) (comes words read)

  on_app : Comes words (fault_of a words) (matches_of a words)
  on_app = subst (λ (b : App). Comes words (fault_of b words) (matches_of b words)) (sym is_app) whole

  -- an error that is passed up says what it should
  pub refused : (r : Result (Bor Text) WordsFault) (fault : WordsFault) → Parses a words (Err fault)
      → IsErrAnd r (λ (e : WordsFault). e ≡ fault) → ReadsWord words r
  refused (Ok x) fault parses same = absurd same
  refused (Err NoMemory) fault parses same = tt {0}
  refused (Err NoCommand) fault parses same =
      by_fault words (fault_of a words) (matches_of a words) on_app (subst (λ (e : WordsFault). Parses a words (Err e)) (sym same) parses)

  module _ (m : ArgMatches) (parses : Parses a words (Ok m)) where
    found : first_value (found_of m) (codes "word") ≡ first_of (codes "word") (matches_of a words)
    found = first_value-rows (found_of m) (codes "word") ∙ ap (first_of (codes "word")) parses.1

    pub taken : (word : Text) → Some word ≡ first_value (found_of m) (codes "word") → words ≡ word ∷ []
    taken word has = by_rows words (fault_of a words) (matches_of a words) on_app parses.0 word (has ∙ found)

    pub without : None ≡ first_value (found_of m) (codes "word") → HasNone words
    without missing = without_word words (fault_of a words) (matches_of a words) on_app parses.0 (missing ∙ found)
