-- The units that a text can hold.
use Rattle.std.specs.Prelude.{◌<◌, length}
use Rattle.c_tree.specs.Spelling.{unit_spelling}
use Rattle.c_tree.specs.Tree.{TranslationUnit}

-- it is spelled with fewer than 2^29 tokens
abbrev pub HasFewTokens : TranslationUnit → Type 0
HasFewTokens u = length (unit_spelling u) < 536870912
