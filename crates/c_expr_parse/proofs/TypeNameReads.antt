-- The spellings of type names and parameters lead to them.
use Rattle.std.proofs.Common.{◌≡◌, ℕ, ◌≤◌, true, false, Some, List, ◌∷◌, ◌++◌, refl, append_assoc, arith}
use Rattle.parse_rules.specs.Parsers.{Read, Parser, first, next, skip, loop, ◌>>◌}
use Rattle.parse_rules.specs.Grammars.{Language}
use Rattle.parse_rules.proofs.Completeness.{LeadsTo, equal, ◌▷◌, leads_next, leads_passes, leads_fails, leads_loop, leads_loop_stops}
use Rattle.c_tree.specs.declared.leaf.Separator.{Separator}
use Rattle.c_tree.specs.declared.leaf.Separator.TheVariants as separator
use Rattle.c_tree.specs.Depth.{declared_height, specifier_list_height, parameters_height, type_name_height}
use Rattle.c_tree.specs.Grammar.{Naming, WithName, WithoutName, WithOrWithout, AreSpecifiers, AreParameters, IsDeclared, IsTypeName}
use Rattle.c_tree.specs.Spelling.{declared_spelling, specifiers_spelling, type_name_spelling, parameters_spelling, before_parameter}
use Rattle.c_tree.specs.Symbols.{Symbol, Bare}
use Rattle.c_tree.specs.Tree as tree
use Rattle.c_tree.specs.Words.{TypeNames, Scope, InBlock, InType, has_type}
use Rattle.c_parse_words.specs.Tests.{is_comma, begins_specifier, begins_declarator, begins_type}
use Rattle.c_expr_parse.specs.DeclaratorRules.{next_parameter, parameters}
use Rattle.c_expr_parse.specs.ExprRules.{declared, type_name}
use Rattle.c_expr_parse.specs.Rules.{rules}
use Rattle.c_expr_parse.proofs.Complete.{EndsSpecifiers, EndsDeclarator, InnerReads}
use Rattle.c_expr_parse.proofs.DeclarationStarts.{specifiers_start, declarator_starts, declarator_apart}
use Rattle.c_expr_parse.proofs.Kept.{InnerKeeps}
use Rattle.c_expr_parse.proofs.Parameters.{is_no_parameter, then_comma, parameter_steps}
use Rattle.c_expr_parse.proofs.UnaryReads.{TypesRead}

-- Declarators that may be left out, before what closes or separates.

pub bare_declarator : (names : TypeNames) (naming : Naming) (b : Separator) → EndsDeclarator names naming (Some (Bare b))
bare_declarator names naming b = record { no_part = refl; no_qualifier = refl; no_star = refl; no_core = refl }

pub bare_begins_none : (names : TypeNames) (naming : Naming) (b : Separator) → begins_declarator names naming (Some (Bare b)) ≡ false
bare_begins_none names WithName b = refl
bare_begins_none names WithoutName b = refl
bare_begins_none names WithOrWithout b = refl

module _ (names : TypeNames) (d : ℕ) (inner : InnerReads names d) (g : Language) where
  pub declared_reads : (naming : Naming) (x : tree.Declared) (b : Separator) (rest : List Symbol) → IsDeclared g names naming x → declared_height x ≤ d
      → LeadsTo g (declared names (rules names d) naming (declared_spelling x ++ Bare b ∷ rest)) (Read x (Bare b ∷ rest))
  unfolding declared
  declared_reads naming tree.NotDeclared b rest w low = leads_fails _ (bare_begins_none names naming b) (equal refl)
  declared_reads naming (tree.DeclaredBy x) b rest w low =
      leads_passes _ (declarator_starts g names naming x (Bare b ∷ rest) w) (leads_next _ (inner.declarator g naming x (Bare b ∷ rest) w low (bare_declarator names naming b)) (equal refl))

  declared_ends : (naming : Naming) (scope : Scope) (x : tree.Declared) (b : Separator) (rest : List Symbol) → IsDeclared g names naming x → EndsSpecifiers names scope (first (declared_spelling x ++ Bare b ∷ rest))
  declared_ends naming scope tree.NotDeclared b rest w = record { no_specifier = refl; no_brace = refl }
  declared_ends naming scope (tree.DeclaredBy x) b rest w = declarator_apart names naming scope _ (declarator_starts g names naming x (Bare b ∷ rest) w)

  -- Type names.

  pub type_name_starts : (type : tree.TypeName) (rest : List Symbol) → IsTypeName g names type → begins_type names (first (type_name_spelling type ++ rest)) ≡ true
  type_name_starts (tree.Named specifiers x) rest w = rw (append_assoc (specifiers_spelling specifiers) (declared_spelling x) rest) (specifiers_start g names InType specifiers (declared_spelling x ++ rest) w.0 w.1)

  pub type_name_reads : (type : tree.TypeName) (rest : List Symbol) → IsTypeName g names type → type_name_height type ≤ d
      → LeadsTo g (type_name names (rules names d) (type_name_spelling type ++ Bare separator.CloseParen ∷ rest)) (Read type (Bare separator.CloseParen ∷ rest))
  unfolding type_name
  type_name_reads (tree.Named specifiers x) rest w low =
      rw (append_assoc (specifiers_spelling specifiers) (declared_spelling x) (Bare separator.CloseParen ∷ rest))
      (leads_next _ (inner.specifiers g InType specifiers (declared_spelling x ++ Bare separator.CloseParen ∷ rest) w.0 w.1 (omega arith) (declared_ends WithoutName InType x separator.CloseParen rest w.2))
      (leads_next _ (declared_reads WithoutName x separator.CloseParen rest w.2 (omega arith)) (equal refl)))

pub types_read : (names : TypeNames) (d : ℕ) → InnerReads names d → TypesRead names d
types_read names d inner = record { start = λ g. type_name_starts names d inner g; reads = λ g. type_name_reads names d inner g }

-- Parameters.

module _ (names : TypeNames) (d : ℕ) (keeps : InnerKeeps names d) (inner : InnerReads names d) (g : Language) where
  abbrev parameters_loop : tree.Parameters → Parser Symbol tree.Parameters
  parameters_loop = loop (λ _. is_comma) (λ before. skip >> next_parameter names (rules names d) before)

  parameter_reads : (before : tree.Parameters) (specifiers : tree.Specifiers) (x : tree.Declared) (b : Separator) (rest : List Symbol)
      → AreSpecifiers g names InBlock specifiers → has_type specifiers ≡ true → specifier_list_height specifiers ≤ d → IsDeclared g names WithOrWithout x → declared_height x ≤ d
      → LeadsTo g (next_parameter names (rules names d) before (specifiers_spelling specifiers ++ (declared_spelling x ++ Bare b ∷ rest))) (Read (tree.AndParameter before specifiers x) (Bare b ∷ rest))
  unfolding next_parameter
  parameter_reads before specifiers x b rest w typed low wx low_x =
      leads_next _ (inner.specifiers g InBlock specifiers (declared_spelling x ++ Bare b ∷ rest) w typed low (declared_ends names d inner g WithOrWithout InBlock x b rest wx))
      (leads_next _ (declared_reads names d inner g WithOrWithout x b rest wx low_x) (equal refl))

  parameters_flat : (before : tree.Parameters) (s s' rest : List Symbol) → is_no_parameter before ≡ false → (before_parameter before ++ (s ++ s')) ++ rest ≡ parameters_spelling before ++ Bare separator.Comma ∷ (s ++ (s' ++ rest))
  parameters_flat before s s' rest some = rw (then_comma before some) (simp append_assoc)

  parameters_lead : (x : tree.Parameters) (b : Separator) (rest : List Symbol) → AreParameters g names x → is_no_parameter x ≡ false → parameters_height x ≤ d
      → LeadsTo g (next (next_parameter names (rules names d) tree.NoParameter (parameters_spelling x ++ Bare b ∷ rest)) parameters_loop) (parameters_loop x (Bare b ∷ rest))
  parameters_lead tree.NoParameter b rest w some low = cc
  parameters_lead (tree.AndParameter tree.NoParameter specifiers x) b rest w some low =
      rw (append_assoc (specifiers_spelling specifiers) (declared_spelling x) (Bare b ∷ rest))
      (leads_next _ (parameter_reads tree.NoParameter specifiers x b rest w.1 w.2 (omega arith) w.3 (omega arith)) (equal refl))
  parameters_lead (tree.AndParameter (tree.AndParameter before specifiers' x') specifiers x) b rest w some low =
      rw (parameters_flat (tree.AndParameter before specifiers' x') (specifiers_spelling specifiers) (declared_spelling x) (Bare b ∷ rest) refl)
      (parameters_lead (tree.AndParameter before specifiers' x') separator.Comma (specifiers_spelling specifiers ++ (declared_spelling x ++ Bare b ∷ rest)) w.0 refl (omega arith)
      ▷ leads_loop (parameter_steps keeps) (tree.AndParameter before specifiers' x') (Bare separator.Comma ∷ (specifiers_spelling specifiers ++ (declared_spelling x ++ Bare b ∷ rest))) tt refl
      (parameter_reads (tree.AndParameter before specifiers' x') specifiers x b rest w.1 w.2 (omega arith) w.3 (omega arith)))

  pub parameters_start : (x : tree.Parameters) (rest : List Symbol) → AreParameters g names x → is_no_parameter x ≡ false → begins_specifier names InBlock (first (parameters_spelling x ++ rest)) ≡ true
  parameters_start tree.NoParameter rest w some = cc
  parameters_start (tree.AndParameter tree.NoParameter specifiers x) rest w some =
      rw (append_assoc (specifiers_spelling specifiers) (declared_spelling x) rest) (specifiers_start g names InBlock specifiers (declared_spelling x ++ rest) w.1 w.2)
  parameters_start (tree.AndParameter (tree.AndParameter before specifiers' x') specifiers x) rest w some =
      rw (parameters_flat (tree.AndParameter before specifiers' x') (specifiers_spelling specifiers) (declared_spelling x) rest refl)
      (parameters_start (tree.AndParameter before specifiers' x') (Bare separator.Comma ∷ (specifiers_spelling specifiers ++ (declared_spelling x ++ rest))) w.0 refl)

  pub parameters_read : (x : tree.Parameters) (rest : List Symbol) → AreParameters g names x → parameters_height x ≤ d
      → LeadsTo g (parameters names (rules names d) (parameters_spelling x ++ Bare separator.CloseParen ∷ rest)) (Read x (Bare separator.CloseParen ∷ rest))
  unfolding parameters
  parameters_read tree.NoParameter rest w low = equal refl
  parameters_read (tree.AndParameter before specifiers x) rest w low =
      leads_passes _ (parameters_start (tree.AndParameter before specifiers x) (Bare separator.CloseParen ∷ rest) w refl)
      (parameters_lead (tree.AndParameter before specifiers x) separator.CloseParen rest w refl low
      ▷ leads_loop_stops (λ _. is_comma) (λ before. skip >> next_parameter names (rules names d) before) (tree.AndParameter before specifiers x) (Bare separator.CloseParen ∷ rest) refl)
