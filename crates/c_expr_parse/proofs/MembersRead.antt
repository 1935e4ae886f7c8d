-- The spelling of the members of a structure or union leads to them.
use Rattle.std.proofs.Common.{◌≡◌, ℕ, ◌≤◌, true, false, Option, Some, List, [], ◌∷◌, ◌++◌, refl, sym, ◌∙◌, subst, append_assoc, true≢false, arith}
use Rattle.parse_rules.specs.Parsers.{Read, Parser, first, next, skip, loop, ◌>>◌}
use Rattle.parse_rules.specs.Grammars.{Language}
use Rattle.parse_rules.proofs.Completeness.{LeadsTo, equal, breaks, ◌▷◌, leads_next, leads_fails, leads_loop, leads_loop_stops}
use Rattle.c_tree.specs.declared.leaf.Separator.{Separator}
use Rattle.c_tree.specs.declared.leaf.Separator.TheVariants as separator
use Rattle.c_tree.specs.Depth.{members_height, member_declarators_height}
use Rattle.c_tree.specs.Grammar.{Naming, WithName, AreMembers, AreMemberDeclarators, is_no_declarator}
use Rattle.c_tree.specs.Spelling.{colon, semicolon, members_spelling, member_declarators_spelling, declarator_spelling, specifiers_spelling}
use Rattle.c_tree.specs.Symbols.{Symbol, Bare}
use Rattle.c_tree.specs.Tree as tree
use Rattle.c_tree.specs.Words.{TypeNames, Scope, InType}
use Rattle.c_parse_words.specs.Tests.{is_comma, is_colon, begins_specifier, begins_declarator, may_omit_name}
use Rattle.c_expr_parse.specs.Rules.{rules}
use Rattle.c_expr_parse.specs.TypeRules.{next_member, member_declarators, next_members, members}
use Rattle.c_expr_parse.proofs.Complete.{EndsSpecifiers, EndsDeclarator, InnerReads}
use Rattle.c_expr_parse.proofs.DeclarationStarts.{and_none, declarator_starts, declarator_apart, specifiers_start}
use Rattle.c_expr_parse.proofs.Kept.{InnerKeeps}
use Rattle.c_expr_parse.proofs.Members.{then_comma, declarator_steps, row_steps}

-- what closes or separates goes on with no declarator
pub bare_declarator : (names : TypeNames) (naming : Naming) (b : Separator) → EndsDeclarator names naming (Some (Bare b))
bare_declarator names naming b = record { no_part = refl; no_qualifier = refl; no_star = refl; no_core = refl }

pub no_colon : (names : TypeNames) (naming : Naming) (next : Option Symbol) → begins_declarator names naming next ≡ true → is_colon next ≡ false
no_colon names naming (Some (Bare separator.Colon)) e = absurd (true≢false (sym e ∙ and_none (may_omit_name naming)))
no_colon names naming next e = refl

-- The last of some declarators of members, and those before it.

last : tree.MemberDeclarators → List Symbol
last tree.NoDeclarator = []
last (tree.AndDeclarator before x) = declarator_spelling x
last (tree.AndBitField before x) = declarator_spelling x ++ colon
last (tree.AndUnnamedBitField before) = colon

before_last : tree.MemberDeclarators → tree.MemberDeclarators
before_last tree.NoDeclarator = tree.NoDeclarator
before_last (tree.AndDeclarator before x) = before
before_last (tree.AndBitField before x) = before
before_last (tree.AndUnnamedBitField before) = before

last_flat : (x : tree.MemberDeclarators) (rest : List Symbol) → is_no_declarator (before_last x) ≡ false
    → member_declarators_spelling x ++ rest ≡ member_declarators_spelling (before_last x) ++ Bare separator.Comma ∷ (last x ++ rest)
unfolding last before_last
last_flat tree.NoDeclarator rest some = cc
last_flat (tree.AndDeclarator before x) rest some = rw (then_comma before some) (simp append_assoc)
last_flat (tree.AndBitField before x) rest some = rw (then_comma before some) (simp append_assoc)
last_flat (tree.AndUnnamedBitField before) rest some = rw (then_comma before some) (simp append_assoc)

row_flat : (a b c rest : List Symbol) → (a ++ (b ++ (c ++ semicolon))) ++ rest ≡ a ++ (b ++ (c ++ Bare separator.Semicolon ∷ rest))
row_flat a b c rest = simp append_assoc

-- declarators of members, or a bit-field, go on with no specifiers
declarators_apart : (g : Language) (names : TypeNames) (scope : Scope) (x : tree.MemberDeclarators) (rest : List Symbol) → AreMemberDeclarators g names x → is_no_declarator x ≡ false → EndsSpecifiers names scope (first (member_declarators_spelling x ++ rest))
unfolding before_last
declarators_apart g names scope tree.NoDeclarator rest w some = cc
declarators_apart g names scope (tree.AndDeclarator tree.NoDeclarator x) rest w some = declarator_apart names WithName scope _ (declarator_starts g names WithName x rest w.1)
declarators_apart g names scope (tree.AndDeclarator before x) rest w some = rw (last_flat (tree.AndDeclarator before x) rest refl) (declarators_apart g names scope before _ w.0 refl)
declarators_apart g names scope (tree.AndBitField tree.NoDeclarator x) rest w some = rw (append_assoc (declarator_spelling x) colon rest) (declarator_apart names WithName scope _ (declarator_starts g names WithName x (Bare separator.Colon ∷ rest) w.2))
declarators_apart g names scope (tree.AndBitField before x) rest w some = rw (last_flat (tree.AndBitField before x) rest refl) (declarators_apart g names scope before _ w.1 refl)
declarators_apart g names scope (tree.AndUnnamedBitField tree.NoDeclarator) rest w some = record { no_specifier = refl; no_brace = refl }
declarators_apart g names scope (tree.AndUnnamedBitField before) rest w some = rw (last_flat (tree.AndUnnamedBitField before) rest refl) (declarators_apart g names scope before _ w.1 refl)

module _ (names : TypeNames) (d : ℕ) (keeps : InnerKeeps names d) (inner : InnerReads names d) (g : Language) where
  next_reads : (x : tree.MemberDeclarators) (b : Separator) (rest : List Symbol) → is_colon (Some (Bare b)) ≡ false → AreMemberDeclarators g names x → is_no_declarator x ≡ false → member_declarators_height x ≤ d
      → LeadsTo g (next_member (rules names d) (before_last x) (last x ++ Bare b ∷ rest)) (Read x (Bare b ∷ rest))
  unfolding next_member last before_last
  next_reads tree.NoDeclarator b rest ends w some low = cc
  next_reads (tree.AndDeclarator before x) b rest ends w some low =
      leads_fails _ (no_colon names WithName _ (declarator_starts g names WithName x (Bare b ∷ rest) w.1))
      (leads_next _ (inner.declarator g WithName x (Bare b ∷ rest) w.1 (omega arith) (bare_declarator names WithName b)) (leads_fails _ ends (equal refl)))
  next_reads (tree.AndBitField before x) b rest ends w some low =
      rw (append_assoc (declarator_spelling x) colon (Bare b ∷ rest))
      (leads_fails _ (no_colon names WithName _ (declarator_starts g names WithName x (Bare separator.Colon ∷ Bare b ∷ rest) w.2))
      (leads_next _ (inner.declarator g WithName x (Bare separator.Colon ∷ Bare b ∷ rest) w.2 (omega arith) (bare_declarator names WithName separator.Colon)) (breaks w.0 _ refl)))
  next_reads (tree.AndUnnamedBitField before) b rest ends w some low = breaks w.0 _ refl

  -- what goes on from some declarators
  Goes : tree.MemberDeclarators → Parser Symbol tree.MemberDeclarators
  Goes = loop (λ _. is_comma) (λ before. skip >> next_member (rules names d) before)

  one_leads : (x : tree.MemberDeclarators) (b : Separator) (rest : List Symbol) → before_last x ≡ tree.NoDeclarator → is_colon (Some (Bare b)) ≡ false → AreMemberDeclarators g names x → is_no_declarator x ≡ false → member_declarators_height x ≤ d
      → LeadsTo g (next (next_member (rules names d) tree.NoDeclarator (last x ++ Bare b ∷ rest)) Goes) (Goes x (Bare b ∷ rest))
  one_leads x b rest none ends w some low =
      leads_next _ (subst (λ z. LeadsTo g (next_member (rules names d) z (last x ++ Bare b ∷ rest)) (Read x (Bare b ∷ rest))) none (next_reads x b rest ends w some low)) (equal refl)

  before_in : (x : tree.MemberDeclarators) → AreMemberDeclarators g names x → AreMemberDeclarators g names (before_last x)
  unfolding before_last
  before_in tree.NoDeclarator w = tt
  before_in (tree.AndDeclarator before x) w = w.0
  before_in (tree.AndBitField before x) w = w.1
  before_in (tree.AndUnnamedBitField before) w = w.1

  before_low : (x : tree.MemberDeclarators) → member_declarators_height x ≤ d → member_declarators_height (before_last x) ≤ d
  unfolding before_last
  before_low tree.NoDeclarator low = low
  before_low (tree.AndDeclarator before x) low = omega arith
  before_low (tree.AndBitField before x) low = omega arith
  before_low (tree.AndUnnamedBitField before) low = low

  -- what is said of some declarators before a token that closes or separates
  Leads : tree.MemberDeclarators → Type 0
  Leads x = (b : Separator) (rest : List Symbol) → is_colon (Some (Bare b)) ≡ false → AreMemberDeclarators g names x → is_no_declarator x ≡ false → member_declarators_height x ≤ d
      → LeadsTo g (next (next_member (rules names d) tree.NoDeclarator (member_declarators_spelling x ++ Bare b ∷ rest)) Goes) (Goes x (Bare b ∷ rest))

  more_lead : (x : tree.MemberDeclarators) → is_no_declarator (before_last x) ≡ false → Leads (before_last x) → Leads x
  unfolding Leads Goes
  more_lead x others before b rest ends w some low =
      rw (last_flat x (Bare b ∷ rest) others)
      (before separator.Comma (last x ++ Bare b ∷ rest) refl (before_in x w) others (before_low x low)
      ▷ leads_loop (declarator_steps keeps) (before_last x) (Bare separator.Comma ∷ (last x ++ Bare b ∷ rest)) tt refl (next_reads x b rest ends w some low))

  leads : (x : tree.MemberDeclarators) → Leads x
  unfolding Leads Goes last before_last
  leads tree.NoDeclarator b rest ends w some low = cc
  leads (tree.AndDeclarator tree.NoDeclarator x) b rest ends w some low = one_leads (tree.AndDeclarator tree.NoDeclarator x) b rest refl ends w some low
  leads (tree.AndDeclarator before x) b rest ends w some low = more_lead (tree.AndDeclarator before x) refl (leads before) b rest ends w some low
  leads (tree.AndBitField tree.NoDeclarator x) b rest ends w some low = one_leads (tree.AndBitField tree.NoDeclarator x) b rest refl ends w some low
  leads (tree.AndBitField before x) b rest ends w some low = more_lead (tree.AndBitField before x) refl (leads before) b rest ends w some low
  leads (tree.AndUnnamedBitField tree.NoDeclarator) b rest ends w some low = one_leads (tree.AndUnnamedBitField tree.NoDeclarator) b rest refl ends w some low
  leads (tree.AndUnnamedBitField before) b rest ends w some low = more_lead (tree.AndUnnamedBitField before) refl (leads before) b rest ends w some low

  declarators_read : (x : tree.MemberDeclarators) (rest : List Symbol) → AreMemberDeclarators g names x → is_no_declarator x ≡ false → member_declarators_height x ≤ d
      → LeadsTo g (member_declarators (rules names d) (member_declarators_spelling x ++ Bare separator.Semicolon ∷ rest)) (Read x (Bare separator.Semicolon ∷ rest))
  unfolding member_declarators Leads Goes
  declarators_read x rest w some low =
      leads x separator.Semicolon rest refl w some low ▷ leads_loop_stops (λ _. is_comma) (λ before. skip >> next_member (rules names d) before) x (Bare separator.Semicolon ∷ rest) refl

  -- Rows.

  row_reads : (before : tree.Members) (specifiers : tree.Specifiers) (declarators : tree.MemberDeclarators) (rest : List Symbol) → AreMembers g names (tree.AndMember before specifiers declarators) → members_height (tree.AndMember before specifiers declarators) ≤ d
      → LeadsTo g (next_members (rules names d) before (specifiers_spelling specifiers ++ (member_declarators_spelling declarators ++ Bare separator.Semicolon ∷ rest))) (Read (tree.AndMember before specifiers declarators) rest)
  unfolding next_members
  row_reads before specifiers declarators rest w low =
      leads_next _ (inner.specifiers g InType specifiers (member_declarators_spelling declarators ++ Bare separator.Semicolon ∷ rest) w.1 w.2 (omega arith) (declarators_apart g names InType declarators (Bare separator.Semicolon ∷ rest) w.3 w.4))
      (leads_next _ (declarators_read declarators rest w.3 w.4 (omega arith)) (equal refl))

  rows_lead : (x : tree.Members) (rest : List Symbol) → AreMembers g names x → members_height x ≤ d
      → LeadsTo g (members names (rules names d) (members_spelling x ++ rest)) (loop (λ _. begins_specifier names InType) (next_members (rules names d)) x rest)
  unfolding members
  rows_lead tree.NoMember rest w low = equal refl
  rows_lead (tree.AndMember before specifiers declarators) rest w low =
      rw (row_flat (members_spelling before) (specifiers_spelling specifiers) (member_declarators_spelling declarators) rest)
      (rows_lead before (specifiers_spelling specifiers ++ (member_declarators_spelling declarators ++ Bare separator.Semicolon ∷ rest)) w.0 (omega arith)
      ▷ leads_loop (row_steps keeps) before (specifiers_spelling specifiers ++ (member_declarators_spelling declarators ++ Bare separator.Semicolon ∷ rest)) tt (specifiers_start g names InType specifiers _ w.1 w.2)
      (row_reads before specifiers declarators rest w low))

  pub members_read : (x : tree.Members) (rest : List Symbol) → AreMembers g names x → members_height x ≤ d → begins_specifier names InType (first rest) ≡ false
      → LeadsTo g (members names (rules names d) (members_spelling x ++ rest)) (Read x rest)
  members_read x rest w low ends = rows_lead x rest w low ▷ leads_loop_stops (λ _. begins_specifier names InType) (next_members (rules names d)) x rest ends
