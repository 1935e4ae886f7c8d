-- Words that are a command begin with a command's own word, and each word behind it is read.
use Rattle.std.proofs.Common.{ℕ, ◌≡◌, refl, List, [], ◌∷◌, None, Some, option_map, Bool, true, false, cond, ◌&&◌, ◌||◌, bytes_eq, codes, true≢false}
use Rattle.command_words.specs.declared.command.Action.TheVariants.{Kinds, Cure, Run, Exec}
use Rattle.command_words.specs.Commands.{Command, OnFile, Make, asked_by, command_of, only_file, only_number, running}
use Rattle.command_words.specs.Passed.{are_asked, are_read, is_name}
use Rattle.command_words.proofs.Refused.{none_asked}

no_name : (first : List ℕ) (words : List (List ℕ)) → is_name first ≡ false → asked_by first words ≡ None
no_name first words e =
    go (bytes_eq first (codes "run")) (bytes_eq first (codes "kinds")) (bytes_eq first (codes "cure")) (bytes_eq first (codes "exec")) (bytes_eq first (codes "make")) e
  where
    go : (r k c x m : Bool) → (r || (k || (c || (x || m)))) ≡ false
        → cond r (option_map (λ s. OnFile (Run s.1) s.0) (running words))
        (cond k (option_map (OnFile Kinds) (only_file words))
        (cond c (option_map (OnFile Cure) (only_file words))
        (cond x (option_map (λ s. OnFile (Exec s.1) s.0) (running words))
        (cond m (option_map Make (only_number words)) None)))) ≡ None
    go false false false false false e = refl
    go true k c x m e = absurd (true≢false e)
    go false true c x m e = absurd (true≢false e)
    go false false true x m e = absurd (true≢false e)
    go false false false true m e = absurd (true≢false e)
    go false false false false true e = absurd (true≢false e)

pub asked_words : (words : List (List ℕ)) (command : Command) → command_of words ≡ Some command → are_asked words ≡ true
asked_words [] command is = absurd (cc is)
asked_words (first ∷ rest) command is = go (is_name first) (are_read rest) refl refl
  where
    go : (b a : Bool) → is_name first ≡ b → are_read rest ≡ a → (b && a) ≡ true
    go true true p q = refl
    go true false p q = absurd (cc (none_asked rest q first, is))
    go false a p q = absurd (cc (no_name first rest p, is))

pub unasked_words : (words : List (List ℕ)) → are_asked words ≡ false → command_of words ≡ None
unasked_words [] e = refl
unasked_words (first ∷ rest) e = go (is_name first) (are_read rest) refl refl e
  where
    go : (b a : Bool) → is_name first ≡ b → are_read rest ≡ a → (b && a) ≡ false → asked_by first rest ≡ None
    go true true p q bad = absurd (true≢false bad)
    go true false p q bad = none_asked rest q first
    go false a p q bad = no_name first rest p
