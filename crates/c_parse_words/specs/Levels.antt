-- What the next token says at a level of expressions (C99 6.5).
use Rattle.std.specs.Prelude.{ℕ, Bool, ◌&&◌, Option, None, nat_le, if◌then◌else◌}
use Rattle.cc_base.specs.declared.place.Place.{Place}
use Rattle.c_tree.specs.declared.operator.Assignment.{Assignment}
use Rattle.c_tree.specs.Grammar.{level}
use Rattle.c_tree.specs.Symbols.{Symbol}
use Rattle.c_tree.specs.Tree as tree
use Rattle.c_tree.specs.Words.{TypeNames}
use Rattle.c_parse_words.specs.Tests.{question_mark, Operator, assignment_operator, begins_type}

-- a cast may stand where the level is at most that of a cast
abbrev pub begins_cast : TypeNames → (least : ℕ) → Option Symbol → Bool
begins_cast names least next = nat_le least 13 && begins_type names next

abbrev pub question_after : (least : ℕ) → Option Symbol → Option Place
question_after least next = if nat_le least 2 then question_mark next else None

-- the left side of an assignment is a unary expression
abbrev pub assignment_after : (least : ℕ) → tree.Expr → Option Symbol → Option (Operator Assignment)
assignment_after least left next = if nat_le least 1 && nat_le 14 (level left) then assignment_operator next else None
