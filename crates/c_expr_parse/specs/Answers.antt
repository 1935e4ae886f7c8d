-- What an answer to some tokens means, for each kind of part that is parsed here. d is the number of nodes that are allowed.
use Rattle.std.specs.Prelude.{◌≡◌, ℕ, false, List}
use Rattle.parse_rules.specs.Parsers.{Answer, Read, Stopped, Deep}
use Rattle.parse_rules.specs.Promises.{Answered, is_deep}
use Rattle.c_tree.specs.Depth.{expr_height, specifier_list_height, declarator_height, initialiser_height}
use Rattle.c_tree.specs.Grammar.{Naming}
use Rattle.c_tree.specs.Symbols.{Symbol}
use Rattle.c_tree.specs.Tree as tree
use Rattle.c_tree.specs.Words.{TypeNames, Scope}
use Rattle.c_parse_words.specs.Written.{IsWritten}
use Rattle.c_expr_parse.specs.Parts.{SpellsExpr, SpellsSpecifiers, SpellsDeclarator, SpellsInitialiser}

-- an expression of at least this level
abbrev pub ExprAnswered : TypeNames → (least d : ℕ) → List Symbol → Answer Symbol tree.Expr → Type 0
ExprAnswered names least d tokens = Answered IsWritten (SpellsExpr names least) expr_height d tokens

abbrev pub SpecifiersAnswered : TypeNames → Scope → (d : ℕ) → List Symbol → Answer Symbol tree.Specifiers → Type 0
SpecifiersAnswered names scope d tokens = Answered IsWritten (SpellsSpecifiers names scope) specifier_list_height d tokens

abbrev pub DeclaratorAnswered : TypeNames → Naming → (d : ℕ) → List Symbol → Answer Symbol tree.Declarator → Type 0
DeclaratorAnswered names naming d tokens = Answered IsWritten (SpellsDeclarator names naming) declarator_height d tokens

abbrev pub InitialiserAnswered : TypeNames → (d : ℕ) → List Symbol → Answer Symbol tree.Initialiser → Type 0
InitialiserAnswered names d tokens = Answered IsWritten (SpellsInitialiser names) initialiser_height d tokens

-- of the answers that are no stop at a depth, one at most is right
abbrev pub OneIsRight : {A : Type 0} → (Right : Answer Symbol A → Type 0) → Type 0
OneIsRight {A} Right = (a b : Answer Symbol A) → is_deep a ≡ false → is_deep b ≡ false → Right a → Right b → a ≡ b

-- where a part that is read is a right answer, no stop at a depth is
abbrev pub ReadOrDeep : {A : Type 0} → (Right : Answer Symbol A → Type 0) → Type 0
ReadOrDeep {A} Right = (a : A) (rest rest' : List Symbol) → Right (Read a rest) → Right (Stopped Deep rest') → ⊥
