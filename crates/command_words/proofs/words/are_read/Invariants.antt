use Rattle.std.proofs.Common.{◌≡◌, drop, map}
use Rattle.std.specs.String.{string_bytes}
use Rattle.command_words.specs.Passed.{are_read}
use Rattle.command_words.proofs.words.are_read.Given as goal

-- the words that are left are read where all of them are
abbrev pub invariant-loop-word : goal.invariant-loop-word
invariant-loop-word l = are_read (map string_bytes (drop l.word-index l.words)) ≡ are_read (map string_bytes l.words)
