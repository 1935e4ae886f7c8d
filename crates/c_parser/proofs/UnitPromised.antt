-- What the rule for units answers means what it should, and no two units spell the same tokens.
use Rattle.std.proofs.Common.{◌≡◌, ℕ, ◌≤◌, List, [], subst, append-nil}
use Rattle.parse_rules.specs.Parsers.{Read}
use Rattle.parse_rules.specs.Grammars.{Language, Supported}
use Rattle.parse_rules.proofs.Completeness.{LeadsTo}
use Rattle.parse_rules.proofs.Promises.{one_part, whole_answers}
use Rattle.c_tree.specs.Depth.{unit_height}
use Rattle.c_tree.specs.Spelling.{unit_spelling}
use Rattle.c_tree.specs.Symbols.{Symbol}
use Rattle.c_tree.specs.Tree as tree
use Rattle.c_parser.specs.Answers.{SpellsUnit, UnitAnswered}
use Rattle.c_parser.specs.UnitRules.{unit_rule}
use Rattle.c_parser.proofs.UnitLaws.{keeps_unit, unit_to_end}
use Rattle.c_parser.proofs.UnitReads.{unit_reads}

unit_alone : (g : Language) (x : tree.TranslationUnit) (s : List Symbol) (d : ℕ) → SpellsUnit g x s → unit_height x ≤ d → LeadsTo g (unit_rule d s) (Read x [])
unit_alone g x s d h low = rw (h.spelled) (subst (λ y. LeadsTo g (unit_rule d y) (Read x [])) (append-nil (unit_spelling x)) (unit_reads d g x h.within low))

pub one_unit : (a b : tree.TranslationUnit) (s : List Symbol) → SpellsUnit Supported a s → SpellsUnit Supported b s → a ≡ b
one_unit = one_part unit_rule SpellsUnit unit_height keeps_unit unit_alone

pub unit_answered : (d : ℕ) (ts : List Symbol) → UnitAnswered d ts (unit_rule d ts)
unit_answered = whole_answers unit_rule SpellsUnit unit_height keeps_unit unit_alone unit_to_end
