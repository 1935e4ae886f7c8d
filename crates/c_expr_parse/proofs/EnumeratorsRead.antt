-- The spelling of enumerators leads to them.
use Rattle.std.proofs.Common.{◌≡◌, ℕ, ◌≤◌, true, false, Some, is_some, List, [], ◌∷◌, ◌++◌, refl, subst, append_assoc, arith}
use Rattle.c_lexer.specs.declared.punctuator.Punctuator.TheVariants as mark
use Rattle.parse_rules.specs.Parsers.{Read, Parser, first, next, loop}
use Rattle.parse_rules.specs.Grammars.{Language}
use Rattle.parse_rules.proofs.Completeness.{LeadsTo, equal, ◌▷◌, leads_next, leads_passes, leads_loop, leads_loop_stops}
use Rattle.c_tree.specs.declared.leaf.Identifier.{Identifier}
use Rattle.c_tree.specs.declared.leaf.Separator.{Separator}
use Rattle.c_tree.specs.declared.leaf.Separator.TheVariants as separator
use Rattle.c_tree.specs.Depth.{enumerators_height}
use Rattle.c_tree.specs.Grammar.{AreEnumerators, is_no_enumerator}
use Rattle.c_tree.specs.Spelling.{name_symbol, comma, expr_spelling, enumerators_spelling, before_enumerator}
use Rattle.c_tree.specs.Symbols.{Symbol, Mark, Bare}
use Rattle.c_tree.specs.Tree as tree
use Rattle.c_tree.specs.Words.{TypeNames, is_type_name}
use Rattle.c_parse_words.specs.Tests.{plain_name}
use Rattle.c_expr_parse.specs.Rules.{rules}
use Rattle.c_expr_parse.specs.TypeRules.{Series, Upto, goes_on_series, with_value, with_name, next_enumerator, enumerator_step, enumerators}
use Rattle.c_expr_parse.proofs.Complete.{InnerReads}
use Rattle.c_expr_parse.proofs.Enumerators.{then_comma, series_steps}
use Rattle.c_expr_parse.proofs.ExprReads.{bare_expr}
use Rattle.c_expr_parse.proofs.Kept.{InnerKeeps}

-- The last of some enumerators, and those before it.

last : tree.Enumerators → List Symbol
last tree.NoEnumerator = []
last (tree.AndEnumerator before name) = name_symbol name ∷ []
last (tree.AndValued before name at e) = name_symbol name ∷ Mark mark.Equal at ∷ expr_spelling e

before_last : tree.Enumerators → tree.Enumerators
before_last tree.NoEnumerator = tree.NoEnumerator
before_last (tree.AndEnumerator before name) = before
before_last (tree.AndValued before name at e) = before

last_flat : (x : tree.Enumerators) (rest : List Symbol) → is_no_enumerator (before_last x) ≡ false → enumerators_spelling x ++ rest ≡ enumerators_spelling (before_last x) ++ Bare separator.Comma ∷ (last x ++ rest)
unfolding last before_last
last_flat tree.NoEnumerator rest some = cc
last_flat (tree.AndEnumerator before name) rest some = rw (then_comma before some) (simp append_assoc)
last_flat (tree.AndValued before name at e) rest some = rw (then_comma before some) (simp append_assoc)

-- a name that is no type name begins an enumerator
plain_starts : (names : TypeNames) (name : Identifier) → is_type_name names name.bytes ≡ false → plain_name names (Some (name_symbol name)) ≡ Some name
plain_starts names name e = rw e refl

last_starts : (g : Language) (names : TypeNames) (x : tree.Enumerators) (rest : List Symbol) → AreEnumerators g names x → is_no_enumerator x ≡ false → is_some (plain_name names (first (last x ++ rest))) ≡ true
unfolding last
last_starts g names tree.NoEnumerator rest w some = cc
last_starts g names (tree.AndEnumerator before name) rest w some = rw (plain_starts names name w.1) refl
last_starts g names (tree.AndValued before name at e) rest w some = rw (plain_starts names name w.1) refl

module _ (names : TypeNames) (d : ℕ) (keeps : InnerKeeps names d) (inner : InnerReads names d) (g : Language) where
  next_reads : (x : tree.Enumerators) (b : Separator) (rest : List Symbol) → AreEnumerators g names x → is_no_enumerator x ≡ false → enumerators_height x ≤ d
      → LeadsTo g (next_enumerator names (rules names d) (before_last x) (last x ++ Bare b ∷ rest)) (Read (Upto x false) (Bare b ∷ rest))
  unfolding next_enumerator with_name with_value last before_last
  next_reads tree.NoEnumerator b rest w some low = cc
  next_reads (tree.AndEnumerator before name) b rest w some low = rw (plain_starts names name w.1) (equal refl)
  next_reads (tree.AndValued before name at e) b rest w some low =
      rw (plain_starts names name w.1)
      (leads_next _ (leads_next _ (inner.expr g 2 e (Bare b ∷ rest) (omega arith) w.2 w.3 (omega arith) (bare_expr 2 b refl)) (equal refl)) (equal refl))

  -- what goes on from some enumerators
  Goes : Series tree.Enumerators → Parser Symbol (Series tree.Enumerators)
  Goes = loop goes_on_series (enumerator_step names (rules names d))

  Leads : tree.Enumerators → Type 0
  Leads x = (b : Separator) (rest : List Symbol) → AreEnumerators g names x → is_no_enumerator x ≡ false → enumerators_height x ≤ d
      → LeadsTo g (next (next_enumerator names (rules names d) tree.NoEnumerator (enumerators_spelling x ++ Bare b ∷ rest)) Goes) (Goes (Upto x false) (Bare b ∷ rest))

  one_leads : (x : tree.Enumerators) → before_last x ≡ tree.NoEnumerator → enumerators_spelling x ≡ last x → Leads x
  unfolding Leads
  one_leads x none is b rest w some low =
      leads_next _ (subst (λ z. LeadsTo g (next_enumerator names (rules names d) z (enumerators_spelling x ++ Bare b ∷ rest)) (Read (Upto x false) (Bare b ∷ rest))) none
      (rw is (next_reads x b rest w some low))) (equal refl)

  more_lead : (x : tree.Enumerators) → is_no_enumerator (before_last x) ≡ false → AreEnumerators g names (before_last x) → (enumerators_height x ≤ d → enumerators_height (before_last x) ≤ d) → Leads (before_last x) → Leads x
  unfolding Leads Goes enumerator_step
  more_lead x others before_in before_low before b rest w some low =
      rw (last_flat x (Bare b ∷ rest) others)
      (before separator.Comma (last x ++ Bare b ∷ rest) before_in others (before_low low)
      ▷ leads_loop (series_steps keeps) (Upto (before_last x) false) (Bare separator.Comma ∷ (last x ++ Bare b ∷ rest)) tt refl
      (leads_passes _ (last_starts g names x (Bare b ∷ rest) w some) (next_reads x b rest w some low)))

  leads : (x : tree.Enumerators) → AreEnumerators g names x → Leads x
  unfolding Leads last before_last
  leads tree.NoEnumerator _ b rest w some low = cc
  leads (tree.AndEnumerator tree.NoEnumerator name) _ b rest w some low = one_leads (tree.AndEnumerator tree.NoEnumerator name) refl refl b rest w some low
  leads (tree.AndEnumerator before name) v b rest w some low = more_lead (tree.AndEnumerator before name) refl v.0 (λ l. l) (leads before v.0) b rest w some low
  leads (tree.AndValued tree.NoEnumerator name at e) _ b rest w some low = one_leads (tree.AndValued tree.NoEnumerator name at e) refl refl b rest w some low
  leads (tree.AndValued before name at e) v b rest w some low = more_lead (tree.AndValued before name at e) refl v.0 (λ l. omega arith) (leads before v.0) b rest w some low

  -- with the closing brace after them
  pub enumerators_read : (x : tree.Enumerators) (rest : List Symbol) → AreEnumerators g names x → is_no_enumerator x ≡ false → enumerators_height x ≤ d
      → LeadsTo g (enumerators names (rules names d) (enumerators_spelling x ++ Bare separator.CloseBrace ∷ rest)) (Read (Upto x false) (Bare separator.CloseBrace ∷ rest))
  unfolding enumerators Leads Goes
  enumerators_read x rest w some low =
      leads x w separator.CloseBrace rest w some low ▷ leads_loop_stops goes_on_series (enumerator_step names (rules names d)) (Upto x false) (Bare separator.CloseBrace ∷ rest) refl

  -- and with a comma before that
  pub enumerators_comma_read : (x : tree.Enumerators) (rest : List Symbol) → AreEnumerators g names x → is_no_enumerator x ≡ false → enumerators_height x ≤ d
      → LeadsTo g (enumerators names (rules names d) (before_enumerator x ++ Bare separator.CloseBrace ∷ rest)) (Read (Upto x true) (Bare separator.CloseBrace ∷ rest))
  unfolding enumerators Leads Goes enumerator_step
  enumerators_comma_read x rest w some low =
      rw (then_comma x some, append_assoc (enumerators_spelling x) comma (Bare separator.CloseBrace ∷ rest))
      (leads x w separator.Comma (Bare separator.CloseBrace ∷ rest) w some low
      ▷ (leads_loop (series_steps keeps) (Upto x false) (Bare separator.Comma ∷ Bare separator.CloseBrace ∷ rest) tt refl (equal refl)
      ▷ leads_loop_stops goes_on_series (enumerator_step names (rules names d)) (Upto x true) (Bare separator.CloseBrace ∷ rest) refl))
