-- The spelling of each declaration leads to it.
use Rattle.std.proofs.Common.{◌≡◌, ℕ, ◌≤◌, Bool, true, false, List, [], ◌∷◌, ◌++◌, refl, sym, subst, append_assoc, arith}
use Rattle.cc_base.specs.declared.place.Place.{Place}
use Rattle.c_lexer.specs.declared.punctuator.Punctuator.TheVariants as mark
use Rattle.parse_rules.specs.Parsers.{Answer, Read, Stopped, Parser, first, next, skip, ◌>>◌}
use Rattle.parse_rules.specs.Grammars.{Language}
use Rattle.parse_rules.proofs.Completeness.{LeadsTo, equal, ◌▷◌, leads_next, leads_passes, leads_loop, leads_loop_stops}
use Rattle.c_tree.specs.declared.leaf.Separator.{Separator}
use Rattle.c_tree.specs.declared.leaf.Separator.TheVariants as separator
use Rattle.c_tree.specs.Depth.{init_declarators_height, declaration_height}
use Rattle.c_tree.specs.Grammar.{WithName, AreInitDeclarators, IsDeclaration, names_after, names_after_all}
use Rattle.c_tree.specs.Spelling.{semicolon, declarator_spelling, initialiser_spelling, init_declarators_spelling, declaration_spelling, specifiers_spelling}
use Rattle.c_tree.specs.Symbols.{Symbol, Mark, Bare}
use Rattle.c_tree.specs.Tree as tree
use Rattle.c_tree.specs.Words.{TypeNames, Scope, has_typedef}
use Rattle.c_parse_words.specs.Tests.{is_comma, begins_declarator}
use Rattle.c_expr_parse.proofs.AllReads.{inner_reads}
use Rattle.c_expr_parse.proofs.Complete.{EndsSpecifiers}
use Rattle.c_expr_parse.proofs.DeclarationDepth.{inner_keeps}
use Rattle.c_expr_parse.proofs.DeclarationStarts.{declarator_starts, declarator_apart}
use Rattle.c_expr_parse.proofs.ExprReads.{bare_expr, leads_before}
use Rattle.c_expr_parse.proofs.InitialiserReads.{initialiser_reads}
use Rattle.c_expr_parse.proofs.MembersRead.{bare_declarator}
use Rattle.c_parser.specs.DeclarationRules.{with_initialiser, next_declarator, declarators_from, init_declarators, declaration}
use Rattle.c_parser.proofs.DeclarationLaws.{is_no_init, then_comma, init_steps}

-- The last of some declarators, and those before it.

pub last : tree.InitDeclarators → List Symbol
last tree.NoInitDeclarator = []
last (tree.AndPlain before x) = declarator_spelling x
last (tree.AndInitialised before x at value) = declarator_spelling x ++ Mark mark.Equal at ∷ initialiser_spelling value

pub before_last : tree.InitDeclarators → tree.InitDeclarators
before_last tree.NoInitDeclarator = tree.NoInitDeclarator
before_last (tree.AndPlain before x) = before
before_last (tree.AndInitialised before x at value) = before

last_flat : (x : tree.InitDeclarators) (rest : List Symbol) → is_no_init (before_last x) ≡ false → init_declarators_spelling x ++ rest ≡ init_declarators_spelling (before_last x) ++ Bare separator.Comma ∷ (last x ++ rest)
unfolding last before_last
last_flat tree.NoInitDeclarator rest some = cc
last_flat (tree.AndPlain before x) rest some = rw (then_comma before some) (simp append_assoc)
last_flat (tree.AndInitialised before x at value) rest some = rw (then_comma before some) (simp append_assoc)

declaration_flat : (a b rest : List Symbol) → (a ++ (b ++ semicolon)) ++ rest ≡ a ++ (b ++ Bare separator.Semicolon ∷ rest)
declaration_flat a b rest = simp append_assoc

module _ (names : TypeNames) (d : ℕ) (g : Language) (is_typedef : Bool) where
  pub next_reads : (x : tree.InitDeclarators) (b : Separator) (rest : List Symbol) → AreInitDeclarators g names is_typedef x → is_no_init x ≡ false → init_declarators_height x ≤ d
      → LeadsTo g (next_declarator (names_after_all is_typedef names (before_last x)) is_typedef d (before_last x) (last x ++ Bare b ∷ rest)) (Read x (Bare b ∷ rest))
  unfolding next_declarator with_initialiser last before_last
  next_reads tree.NoInitDeclarator b rest w some low = cc
  next_reads (tree.AndPlain before x) b rest w some low =
      leads_next _ ((inner_reads (names_after_all is_typedef names before) d).declarator g WithName x (Bare b ∷ rest) w.1 (omega arith) (bare_declarator (names_after_all is_typedef names before) WithName b)) (equal refl)
  next_reads (tree.AndInitialised before x at value) b rest w some low =
      rw (append_assoc (declarator_spelling x) (Mark mark.Equal at ∷ initialiser_spelling value) (Bare b ∷ rest))
      (leads_next _ ((inner_reads (names_after_all is_typedef names before) d).declarator g WithName x (Mark mark.Equal at ∷ (initialiser_spelling value ++ Bare b ∷ rest)) w.1 (omega arith) (record { no_part = refl; no_qualifier = refl; no_star = refl; no_core = refl }))
      (leads_next _ (initialiser_reads (names_after is_typedef (names_after_all is_typedef names before) x) (inner_keeps (names_after is_typedef (names_after_all is_typedef names before) x)) (inner_reads (names_after is_typedef (names_after_all is_typedef names before) x)) d g value (Bare b ∷ rest) w.2 (omega arith) (bare_expr 1 b refl))
      (equal refl)))

  before_in : (x : tree.InitDeclarators) → AreInitDeclarators g names is_typedef x → AreInitDeclarators g names is_typedef (before_last x)
  unfolding before_last
  before_in tree.NoInitDeclarator w = tt
  before_in (tree.AndPlain before x) w = w.0
  before_in (tree.AndInitialised before x at value) w = w.0

  before_low : (x : tree.InitDeclarators) → init_declarators_height x ≤ d → init_declarators_height (before_last x) ≤ d
  unfolding before_last
  before_low tree.NoInitDeclarator low = low
  before_low (tree.AndPlain before x) low = omega arith
  before_low (tree.AndInitialised before x at value) low = omega arith

  -- Whatever reads the first declarator and goes on with the others, and then with k, reads them all.
  module _ {B : Type 0} (start : Parser Symbol B) (k : tree.InitDeclarators → Parser Symbol B) where
    abbrev pub Leads : tree.InitDeclarators → Type 0
    Leads x = (b : Separator) (rest : List Symbol) → AreInitDeclarators g names is_typedef x → is_no_init x ≡ false → init_declarators_height x ≤ d
        → LeadsTo g (start (init_declarators_spelling x ++ Bare b ∷ rest)) (next (declarators_from names is_typedef d x (Bare b ∷ rest)) k)

    more_lead : (x : tree.InitDeclarators) → is_no_init (before_last x) ≡ false → Leads (before_last x) → Leads x
    unfolding declarators_from
    more_lead x others before b rest w some low =
        rw (last_flat x (Bare b ∷ rest) others)
        (before separator.Comma (last x ++ Bare b ∷ rest) (before_in x w) others (before_low x low)
        ▷ leads_before k (leads_loop (init_steps is_typedef) (before_last x) (Bare separator.Comma ∷ (last x ++ Bare b ∷ rest)) tt refl (next_reads x b rest w some low)))

    pub chain : ((x : tree.Declarator) → Leads (tree.AndPlain tree.NoInitDeclarator x)) → ((x : tree.Declarator) (at : Place) (value : tree.Initialiser) → Leads (tree.AndInitialised tree.NoInitDeclarator x at value)) → (x : tree.InitDeclarators) → Leads x
    unfolding before_last
    chain plain initialised tree.NoInitDeclarator b rest w some low = cc
    chain plain initialised (tree.AndPlain tree.NoInitDeclarator x) b rest w some low = plain x b rest w some low
    chain plain initialised (tree.AndPlain before x) b rest w some low = more_lead (tree.AndPlain before x) refl (chain plain initialised before) b rest w some low
    chain plain initialised (tree.AndInitialised tree.NoInitDeclarator x at value) b rest w some low = initialised x at value b rest w some low
    chain plain initialised (tree.AndInitialised before x at value) b rest w some low = more_lead (tree.AndInitialised before x at value) refl (chain plain initialised before) b rest w some low

  pure_same : (r : Answer Symbol tree.InitDeclarators) → next r (λ x rest. Read x rest) ≡ r
  pure_same (Read x rest) = refl
  pure_same (Stopped why rest) = refl

  plain_first : (x : tree.Declarator) → before_last (tree.AndPlain tree.NoInitDeclarator x) ≡ tree.NoInitDeclarator
  unfolding before_last
  plain_first x = refl

  initialised_first : (x : tree.Declarator) (at : Place) (value : tree.Initialiser) → before_last (tree.AndInitialised tree.NoInitDeclarator x at value) ≡ tree.NoInitDeclarator
  unfolding before_last
  initialised_first x at value = refl

  one_declarator : (x : tree.InitDeclarators) → is_no_init x ≡ false → before_last x ≡ tree.NoInitDeclarator → init_declarators_spelling x ≡ last x
  unfolding last before_last
  one_declarator tree.NoInitDeclarator some none = cc
  one_declarator (tree.AndPlain before x) some none = rw none refl
  one_declarator (tree.AndInitialised before x at value) some none = rw none refl

  -- what an init-declarator list begins with
  pub declarators_start : (x : tree.InitDeclarators) (rest : List Symbol) → AreInitDeclarators g names is_typedef x → is_no_init x ≡ false → begins_declarator names WithName (first (init_declarators_spelling x ++ rest)) ≡ true
  unfolding before_last
  declarators_start tree.NoInitDeclarator rest w some = cc
  declarators_start (tree.AndPlain tree.NoInitDeclarator x) rest w some = declarator_starts g names WithName x rest w.1
  declarators_start (tree.AndPlain before x) rest w some = rw (last_flat (tree.AndPlain before x) rest refl) (declarators_start before _ w.0 refl)
  declarators_start (tree.AndInitialised tree.NoInitDeclarator x at value) rest w some =
      rw (append_assoc (declarator_spelling x) (Mark mark.Equal at ∷ initialiser_spelling value) rest) (declarator_starts g names WithName x _ w.1)
  declarators_start (tree.AndInitialised before x at value) rest w some = rw (last_flat (tree.AndInitialised before x at value) rest refl) (declarators_start before _ w.0 refl)

  some_init : (x : tree.InitDeclarators) → (b : Bool) → is_no_init x ≡ b → (rest : List Symbol) → AreInitDeclarators g names is_typedef x → init_declarators_height x ≤ d
      → LeadsTo g (init_declarators names is_typedef d (init_declarators_spelling x ++ Bare separator.Semicolon ∷ rest)) (Read x (Bare separator.Semicolon ∷ rest))
  unfolding init_declarators declarators_from
  some_init tree.NoInitDeclarator b e rest w low = equal refl
  some_init x true e rest w low = cc
  some_init x false e rest w low =
      leads_passes _ (declarators_start x (Bare separator.Semicolon ∷ rest) w e)
      (chain (λ ts. next (next_declarator names is_typedef d tree.NoInitDeclarator ts) (declarators_from names is_typedef d)) (λ y r. Read y r) (λ y. one (tree.AndPlain tree.NoInitDeclarator y) refl (plain_first y)) (λ y at value. one (tree.AndInitialised tree.NoInitDeclarator y at value) refl (initialised_first y at value)) x separator.Semicolon rest w e low
      ▷ (equal (pure_same (declarators_from names is_typedef d x (Bare separator.Semicolon ∷ rest)))
      ▷ leads_loop_stops (λ _. is_comma) (λ before. skip >> next_declarator (names_after_all is_typedef names before) is_typedef d before) x (Bare separator.Semicolon ∷ rest) refl))
    where
      one : (y : tree.InitDeclarators) → is_no_init y ≡ false → before_last y ≡ tree.NoInitDeclarator → Leads (λ ts. next (next_declarator names is_typedef d tree.NoInitDeclarator ts) (declarators_from names is_typedef d)) (λ z r. Read z r) y
      one y some none b rest' w' some' low' =
          rw (one_declarator y some none)
          (leads_next _ (subst (λ z. LeadsTo g (next_declarator (names_after_all is_typedef names z) is_typedef d z (last y ++ Bare b ∷ rest')) (Read y (Bare b ∷ rest'))) none (next_reads y b rest' w' some' low'))
          (equal (sym (pure_same (declarators_from names is_typedef d y (Bare b ∷ rest'))))))

-- what follows specifiers goes on with none of them
pub declarators_apart : (g : Language) (names : TypeNames) (scope : Scope) (is_typedef : Bool) (x : tree.InitDeclarators) (rest : List Symbol) → AreInitDeclarators g names is_typedef x → EndsSpecifiers names scope (first (init_declarators_spelling x ++ Bare separator.Semicolon ∷ rest))
declarators_apart g names scope is_typedef tree.NoInitDeclarator rest w = record { no_specifier = refl; no_brace = refl }
declarators_apart g names scope is_typedef (tree.AndPlain before x) rest w = declarator_apart names WithName scope _ (declarators_start names 0 g is_typedef (tree.AndPlain before x) (Bare separator.Semicolon ∷ rest) w refl)
declarators_apart g names scope is_typedef (tree.AndInitialised before x at value) rest w =
    declarator_apart names WithName scope _ (declarators_start names 0 g is_typedef (tree.AndInitialised before x at value) (Bare separator.Semicolon ∷ rest) w refl)

pub declaration_reads : (names : TypeNames) (d : ℕ) (g : Language) (scope : Scope) (x : tree.Declaration) (rest : List Symbol) → IsDeclaration g names scope x → declaration_height x ≤ d
    → LeadsTo g (declaration names scope d (declaration_spelling x ++ rest)) (Read x rest)
unfolding declaration
declaration_reads names d g scope (tree.Declare specifiers x) rest w low =
    rw (declaration_flat (specifiers_spelling specifiers) (init_declarators_spelling x) rest)
    (leads_next _ ((inner_reads names d).specifiers g scope specifiers (init_declarators_spelling x ++ Bare separator.Semicolon ∷ rest) w.0 w.1 (omega arith) (declarators_apart g names scope (has_typedef specifiers) x rest w.2))
    (leads_next _ (some_init names d g (has_typedef specifiers) x (is_no_init x) refl rest w.2 (omega arith)) (equal refl)))
