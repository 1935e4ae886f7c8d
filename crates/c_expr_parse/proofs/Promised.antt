-- What each rule answers means what it should, and no two parts of a kind spell the same tokens.
use Rattle.std.proofs.Common.{◌≡◌, ℕ, ◌≤◌, false, List, [], ◌++◌, refl, subst, append-nil}
use Rattle.parse_rules.specs.Parsers.{Read, Answer}
use Rattle.parse_rules.specs.Grammars.{Language, Supported}
use Rattle.parse_rules.proofs.Completeness.{LeadsTo}
use Rattle.parse_rules.proofs.Promises.{one_part, answers}
use Rattle.c_tree.specs.Depth.{expr_height, specifier_list_height, declarator_height, initialiser_height}
use Rattle.c_tree.specs.Grammar.{Naming}
use Rattle.c_tree.specs.Spelling.{expr_spelling, specifiers_spelling, declarator_spelling, initialiser_spelling}
use Rattle.c_tree.specs.Symbols.{Symbol}
use Rattle.c_tree.specs.Tree as tree
use Rattle.c_tree.specs.Words.{TypeNames, Scope}
use Rattle.c_expr_parse.specs.Answers.{ExprAnswered, SpecifiersAnswered, DeclaratorAnswered, InitialiserAnswered}
use Rattle.c_expr_parse.specs.Parts.{SpellsExpr, SpellsSpecifiers, SpellsDeclarator, SpellsInitialiser}
use Rattle.c_expr_parse.specs.Rules.{rules, initialiser}
use Rattle.c_expr_parse.proofs.Complete.{InnerReads}
use Rattle.c_expr_parse.proofs.DeclarationDepth.{inner_keeps}
use Rattle.c_expr_parse.proofs.ExprReads.{end_expr}
use Rattle.c_expr_parse.proofs.InitialiserLaws.{keeps_initialiser}
use Rattle.c_expr_parse.proofs.InitialiserReads.{initialiser_reads}

-- nothing follows
alone : {A : Type 0} (g : Language) (p : List Symbol → Answer Symbol A) (a : A) (s spelling : List Symbol) → s ≡ spelling → LeadsTo g (p (spelling ++ [])) (Read a []) → LeadsTo g (p s) (Read a [])
alone g p a s spelling e h = rw e (subst (λ x. LeadsTo g (p x) (Read a [])) (append-nil spelling) h)

module _ (names : TypeNames) (reads : (d : ℕ) → InnerReads names d) where
  expr_alone : (least : ℕ) → least ≤ 14 → (g : Language) (e : tree.Expr) (s : List Symbol) (d : ℕ) → SpellsExpr names least g e s → expr_height e ≤ d → LeadsTo g ((rules names d).expr least s) (Read e [])
  expr_alone least le g e s d h low = alone g ((rules names d).expr least) e s (expr_spelling e) h.spelled ((reads d).expr g least e [] le h.within.0 h.within.1 low (end_expr least))

  pub one_expr : (least : ℕ) → least ≤ 14 → (a b : tree.Expr) (s : List Symbol) → SpellsExpr names least Supported a s → SpellsExpr names least Supported b s → a ≡ b
  one_expr least le = one_part (λ d. (rules names d).expr least) (SpellsExpr names least) expr_height (λ d ts. (inner_keeps names d).expr least false ts le (λ m. cc)) (expr_alone least le)

  pub expr_answered : (least : ℕ) → least ≤ 14 → (d : ℕ) (ts : List Symbol) → ExprAnswered names least d ts ((rules names d).expr least ts)
  expr_answered least le = answers (λ d. (rules names d).expr least) (SpellsExpr names least) expr_height (λ d ts. (inner_keeps names d).expr least false ts le (λ m. cc)) (expr_alone least le) refl

  specifiers_alone : (scope : Scope) (g : Language) (x : tree.Specifiers) (s : List Symbol) (d : ℕ) → SpellsSpecifiers names scope g x s → specifier_list_height x ≤ d → LeadsTo g ((rules names d).specifiers scope s) (Read x [])
  specifiers_alone scope g x s d h low = alone g ((rules names d).specifiers scope) x s (specifiers_spelling x) h.spelled ((reads d).specifiers g scope x [] h.within.0 h.within.1 low (record { no_specifier = refl; no_brace = refl }))

  pub one_list : (scope : Scope) (a b : tree.Specifiers) (s : List Symbol) → SpellsSpecifiers names scope Supported a s → SpellsSpecifiers names scope Supported b s → a ≡ b
  one_list scope = one_part (λ d. (rules names d).specifiers scope) (SpellsSpecifiers names scope) specifier_list_height (λ d ts. (inner_keeps names d).specifiers scope false ts (λ m. cc)) (specifiers_alone scope)

  pub specifiers_answered : (scope : Scope) (d : ℕ) (ts : List Symbol) → SpecifiersAnswered names scope d ts ((rules names d).specifiers scope ts)
  specifiers_answered scope = answers (λ d. (rules names d).specifiers scope) (SpellsSpecifiers names scope) specifier_list_height (λ d ts. (inner_keeps names d).specifiers scope false ts (λ m. cc)) (specifiers_alone scope) refl

  declarator_alone : (naming : Naming) (g : Language) (x : tree.Declarator) (s : List Symbol) (d : ℕ) → SpellsDeclarator names naming g x s → declarator_height x ≤ d → LeadsTo g ((rules names d).declarator naming s) (Read x [])
  declarator_alone naming g x s d h low =
      alone g ((rules names d).declarator naming) x s (declarator_spelling x) h.spelled ((reads d).declarator g naming x [] h.within low (record { no_part = refl; no_qualifier = refl; no_star = refl; no_core = refl }))

  pub one_declarator : (naming : Naming) (a b : tree.Declarator) (s : List Symbol) → SpellsDeclarator names naming Supported a s → SpellsDeclarator names naming Supported b s → a ≡ b
  one_declarator naming = one_part (λ d. (rules names d).declarator naming) (SpellsDeclarator names naming) declarator_height (λ d ts. (inner_keeps names d).declarator naming false ts (λ m. cc)) (declarator_alone naming)

  pub declarator_answered : (naming : Naming) (d : ℕ) (ts : List Symbol) → DeclaratorAnswered names naming d ts ((rules names d).declarator naming ts)
  declarator_answered naming = answers (λ d. (rules names d).declarator naming) (SpellsDeclarator names naming) declarator_height (λ d ts. (inner_keeps names d).declarator naming false ts (λ m. cc)) (declarator_alone naming) refl

  initialiser_alone : (g : Language) (x : tree.Initialiser) (s : List Symbol) (d : ℕ) → SpellsInitialiser names g x s → initialiser_height x ≤ d → LeadsTo g (initialiser names d s) (Read x [])
  initialiser_alone g x s d h low = alone g (initialiser names d) x s (initialiser_spelling x) h.spelled (initialiser_reads names (inner_keeps names) reads d g x [] h.within low (end_expr 1))

  pub one_initialiser : (a b : tree.Initialiser) (s : List Symbol) → SpellsInitialiser names Supported a s → SpellsInitialiser names Supported b s → a ≡ b
  one_initialiser = one_part (λ d. initialiser names d) (SpellsInitialiser names) initialiser_height (λ d ts. keeps_initialiser names (inner_keeps names) d false ts (λ m. cc)) initialiser_alone

  pub initialiser_answered : (d : ℕ) (ts : List Symbol) → InitialiserAnswered names d ts (initialiser names d ts)
  initialiser_answered = answers (λ d. initialiser names d) (SpellsInitialiser names) initialiser_height (λ d ts. keeps_initialiser names (inner_keeps names) d false ts (λ m. cc)) initialiser_alone refl
