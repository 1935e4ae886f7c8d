-- A walk of `clap` over words, word by word, for a command with no subcommand.
use Rattle.std.proofs.Common.{ℕ, ◌≡◌, sym, ap, subst, List, [], ◌∷◌, Option, Some, None, false, fold}
use Rattle.clap.specs.Words.{Row, Text, Shape, Kinds}
use Rattle.clap.specs.Kinds.{or_else}
use Rattle.clap.specs.Values.{reading_of}
use Rattle.clap.specs.Faults.{check_fault, defaults_fault, settle_fault, turn_fault, walk_fault}
use Rattle.clap.specs.Walk.{Held, Walk, Waiting, finished, settled, walked}
use Rattle.clap.specs.declared.error.kind.ErrorKind.{ErrorKind}
use Rattle.clap.specs.declared.builder.value_parser.ValueParser.TheVariants as vp
use Rattle.clap.specs.declared.parser.matches.ValueSource.TheVariants.{CommandLine}

-- one value of an argument, from the words
abbrev pub row : Text → Text → Row
row id v = record { id = id; values = v ∷ []; count = None; source = Some CommandLine; reading = reading_of vp.String }

-- a place of the walk
abbrev pub at : List Row → Option (Text × List Text) → Waiting → ℕ → Walk
at rows pending waiting position = record {
  held = record { rows = rows; pending = pending; skip = 0 };
  waiting = waiting;
  position = position;
  is_trailing = false;
  stopped = None;
}

-- what is held at the end of the words that are left
abbrev pub end_from : Shape → Walk → List Text → Held
end_from top w words = (fold (walked top.rules []) w words).held

abbrev pub end_fault : Shape → Held → Kinds
end_fault top end = or_else (settle_fault top.rules top.args_override_self end)
    (or_else (defaults_fault (settled top.rules end).rows top.rules) (check_fault top (finished top.rules end) false))

-- the kinds of the first step that fails, of the words that are left and of the end
abbrev pub fault_from : Shape → Walk → List Text → Kinds
fault_from top w words = or_else (walk_fault top [] w words) (end_fault top (end_from top w words))

abbrev pub rows_from : Shape → Walk → List Text → List Row
rows_from top w words = finished top.rules (end_from top w words)

module _ (top : Shape) (w : Walk) (word : Text) (rest : List Text) where
  -- a word passes, and the words behind it decide
  pub passes : (P : Kinds → List Row → Type 0) (v : Walk) → turn_fault top [] w word ≡ [] → walked top.rules [] w word ≡ v
      → P (fault_from top v rest) (rows_from top v rest) → P (fault_from top w (word ∷ rest)) (rows_from top w (word ∷ rest))
  unfolding walk_fault
  passes P v none next h =
      let x : Walk = walked top.rules [] w word in
      let there : P (fault_from top x rest) (rows_from top x rest) =
      subst (λ (y : Walk). P (fault_from top y rest) (rows_from top y rest)) (sym next) h in
      subst (λ (t : Kinds). P (or_else (or_else t (walk_fault top [] x rest)) (end_fault top (end_from top x rest))) (rows_from top x rest)) (sym none) there

  -- a word fails, whatever is behind it
  pub fails_at : (k : ErrorKind) → turn_fault top [] w word ≡ k ∷ [] → fault_from top w (word ∷ rest) ≡ k ∷ []
  unfolding walk_fault
  fails_at k bad =
      let x : Walk = walked top.rules [] w word in
      ap (λ (t : Kinds). or_else (or_else t (walk_fault top [] x rest)) (end_fault top (end_from top x rest))) bad
