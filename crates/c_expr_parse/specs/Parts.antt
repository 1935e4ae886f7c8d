-- Which tokens the parts spell that are parsed here, in each of the two languages.
use Rattle.std.specs.Prelude.{◌≡◌, ℕ, ◌≤◌, true, List}
use Rattle.parse_rules.specs.Grammars.{Language}
use Rattle.c_tree.specs.Grammar.{Naming, level, IsExpr, AreSpecifiers, IsDeclarator, IsInitialiser}
use Rattle.c_tree.specs.Spelling.{expr_spelling, specifiers_spelling, declarator_spelling, initialiser_spelling}
use Rattle.c_tree.specs.Symbols.{Symbol}
use Rattle.c_tree.specs.Tree as tree
use Rattle.c_tree.specs.Words.{TypeNames, Scope, has_type}
use Rattle.c_parse_words.specs.Spells.{Spells}

-- an expression of at least this level
abbrev pub SpellsExpr : TypeNames → (least : ℕ) → Language → tree.Expr → List Symbol → Type 0
SpellsExpr names least g = Spells (λ e. IsExpr g names e × (least ≤ level e)) expr_spelling

-- a list of specifiers that says what type it is
abbrev pub SpellsSpecifiers : TypeNames → Scope → Language → tree.Specifiers → List Symbol → Type 0
SpellsSpecifiers names scope g = Spells (λ specifiers. AreSpecifiers g names scope specifiers × (has_type specifiers ≡ true)) specifiers_spelling

abbrev pub SpellsDeclarator : TypeNames → Naming → Language → tree.Declarator → List Symbol → Type 0
SpellsDeclarator names naming g = Spells (IsDeclarator g names naming) declarator_spelling

abbrev pub SpellsInitialiser : TypeNames → Language → tree.Initialiser → List Symbol → Type 0
SpellsInitialiser names g = Spells (IsInitialiser g names) initialiser_spelling
