-- The spelling of a list of specifiers leads to it.
use Rattle.std.proofs.Common.{◌≡◌, ℕ, suc, ◌≤◌, Bool, true, false, ◌&&◌, cond, ◌⊎◌, inl, inr, Option, Some, None, is_some, List, ◌∷◌, ◌++◌, refl, sym, ◌∙◌, ap, append_assoc, true≢false, arith}
use Rattle.cc_base.specs.declared.place.Place.{Place}
use Rattle.c_lexer.specs.declared.word.Keyword.{Keyword}
use Rattle.c_lexer.specs.declared.word.Keyword.TheVariants as keyword
use Rattle.parse_rules.specs.Parsers.{Read, Stopped, Unsupported, first, by_first, loop}
use Rattle.parse_rules.specs.Grammars.{Language, IsExtended}
use Rattle.parse_rules.proofs.Completeness.{LeadsTo, equal, breaks, ◌▷◌, leads_next, leads_loop, leads_loop_stops}
use Rattle.c_tree.specs.declared.leaf.Identifier.{Identifier}
use Rattle.c_tree.specs.declared.leaf.Separator.TheVariants as separator
use Rattle.c_tree.specs.declared.operator.AggregateKind.{AggregateKind}
use Rattle.c_tree.specs.declared.operator.AggregateKind.TheVariants as aggregate
use Rattle.c_tree.specs.Depth.{specifiers_height, specifier_height, specifier_list_height}
use Rattle.c_tree.specs.Grammar.{AreSpecifiers, IsSpecifier}
use Rattle.c_tree.specs.Operators.{aggregate_keyword}
use Rattle.c_tree.specs.Spelling.{specifiers_spelling, specifier_spelling, members_spelling, enumerators_spelling, before_enumerator, close_brace}
use Rattle.c_tree.specs.Symbols.{Symbol, Word, Bare}
use Rattle.c_tree.specs.Tree as tree
use Rattle.c_tree.specs.Words.{TypeNames, Scope, AtFile, InBlock, InType, may_specify, has_type, has_long, is_long}
use Rattle.c_parse_words.specs.Tests.{open_brace, StartWord, StartAggregate, NoSpecifierStart, specifier_start, specifier_start_of_word, begins_specifier, is_long_next}
use Rattle.c_expr_parse.specs.Rules.{rules}
use Rattle.c_expr_parse.specs.TypeRules.{aggregate_body, after_aggregate_tag, aggregate_without_tag, after_aggregate, enumeration, enumeration_body, after_enum_tag, enum_without_tag, after_enum, with_specifier, specifier_step, with_type, specifiers_layer}
use Rattle.c_expr_parse.proofs.Complete.{EndsSpecifiers, InnerReads}
use Rattle.c_expr_parse.proofs.DeclarationStarts.{specifier_starts}
use Rattle.c_expr_parse.proofs.EnumeratorsRead.{enumerators_read, enumerators_comma_read}
use Rattle.c_expr_parse.proofs.Kept.{InnerKeeps}
use Rattle.c_expr_parse.proofs.MembersRead.{members_read}
use Rattle.c_expr_parse.proofs.Specifiers.{specifier_steps, long_told, and_swap}

-- What tells a specifier.

word_told : (scope : Scope) (word : Keyword) (at : Place) → may_specify scope word ≡ true → specifier_start_of_word scope word at ≡ StartWord (record { keyword = word; place = at })
word_told AtFile keyword.Struct at e = cc
word_told InBlock keyword.Struct at e = cc
word_told InType keyword.Struct at e = cc
word_told AtFile keyword.Union at e = cc
word_told InBlock keyword.Union at e = cc
word_told InType keyword.Union at e = cc
word_told AtFile keyword.Enum at e = cc
word_told InBlock keyword.Enum at e = cc
word_told InType keyword.Enum at e = cc
word_told scope word at e = ap (λ b. cond b (StartWord (record { keyword = word; place = at })) NoSpecifierStart) e

aggregate_told : (names : TypeNames) (scope : Scope) (kind : AggregateKind) (at : Place) → specifier_start names scope (Some (Word (aggregate_keyword kind) at)) ≡ StartAggregate kind at
aggregate_told names scope aggregate.Struct at = refl
aggregate_told names scope aggregate.Union at = refl

is_none : {X : Type 0} (o : Option X) → is_some o ≡ false → o ≡ None
is_none None e = refl
is_none (Some x) e = cc

-- a struct, a union or an enumeration isn't `long`
not_long : (kind : AggregateKind) (at : Place) → is_long_next (Some (Word (aggregate_keyword kind) at)) ≡ false
not_long aggregate.Struct at = refl
not_long aggregate.Union at = refl

-- the next token is `long` where the specifier is
long_first : (one : tree.Specifier) (rest : List Symbol) → is_long_next (first (specifier_spelling one ++ rest)) ≡ is_long one
long_first (tree.Keyword word) rest = long_told word
long_first (tree.Typedef name) rest = refl
long_first (tree.Tagged kind at tag) rest = not_long kind at
long_first (tree.Aggregate kind at tag brace rows) rest = not_long kind at
long_first (tree.Enum at tag) rest = refl
long_first (tree.Enumeration at tag brace x true) rest = refl
long_first (tree.Enumeration at tag brace x false) rest = refl

-- a specifier doesn't begin with a brace
no_brace_first : (one : tree.Specifier) (rest : List Symbol) → is_some (open_brace (first (specifier_spelling one ++ rest))) ≡ false
no_brace_first (tree.Keyword word) rest = refl
no_brace_first (tree.Typedef name) rest = refl
no_brace_first (tree.Tagged kind at tag) rest = refl
no_brace_first (tree.Aggregate kind at tag brace rows) rest = refl
no_brace_first (tree.Enum at tag) rest = refl
no_brace_first (tree.Enumeration at tag brace x true) rest = refl
no_brace_first (tree.Enumeration at tag brace x false) rest = refl

module _ (names : TypeNames) (d : ℕ) (keeps : InnerKeeps names d) (inner : InnerReads names d) (g : Language) (scope : Scope) (before : tree.Specifiers) where
  body_reads : (kind : AggregateKind) (at : Place) (tag : Option Identifier) (brace : Place) (rows : tree.Members) (rest : List Symbol) → IsSpecifier g names scope (tree.Aggregate kind at tag brace rows) → specifier_height (tree.Aggregate kind at tag brace rows) ≤ d
      → LeadsTo g (aggregate_body names (rules names d) before kind at tag brace ((members_spelling rows ++ close_brace) ++ rest)) (Read (tree.AndSpecifier before (tree.Aggregate kind at tag brace rows)) rest)
  unfolding aggregate_body
  body_reads kind at tag brace rows rest w low =
      rw (append_assoc (members_spelling rows) close_brace rest) (leads_next _ (members_read names d keeps inner g rows (Bare separator.CloseBrace ∷ rest) w low refl) (equal refl))

  enum_reads : (at : Place) (tag : Option Identifier) (brace : Place) (x : tree.Enumerators) (comma : Bool) (rest : List Symbol) → IsSpecifier g names scope (tree.Enumeration at tag brace x comma) → specifier_height (tree.Enumeration at tag brace x comma) ≤ d
      → LeadsTo g (enumeration_body names (rules names d) before at tag brace (cond comma (before_enumerator x) (enumerators_spelling x) ++ Bare separator.CloseBrace ∷ rest)) (Read (tree.AndSpecifier before (tree.Enumeration at tag brace x comma)) rest)
  unfolding enumeration_body enumeration
  enum_reads at tag brace x true rest w low = leads_next _ (enumerators_comma_read names d keeps inner g x rest w.0 w.1 low) (equal refl)
  enum_reads at tag brace x false rest w low = leads_next _ (enumerators_read names d keeps inner g x rest w.0 w.1 low) (equal refl)

  specifier_reads : (one : tree.Specifier) (rest : List Symbol) → IsSpecifier g names scope one → specifier_height one ≤ d → is_some (open_brace (first rest)) ≡ false
      → LeadsTo g (by_first (specifier_start names scope) (with_specifier names (rules names d) before) (specifier_spelling one ++ rest)) (Read (tree.AndSpecifier before one) rest)
  unfolding with_specifier after_aggregate after_aggregate_tag aggregate_without_tag after_enum after_enum_tag enum_without_tag
  specifier_reads (tree.Keyword word) rest w low ends = rw (word_told scope word.keyword word.place w) (equal refl)
  specifier_reads (tree.Typedef name) rest w low ends = rw w (equal refl)
  specifier_reads (tree.Tagged kind at tag) rest w low ends = rw (aggregate_told names scope kind at, is_none (open_brace (first rest)) ends) (equal refl)
  specifier_reads (tree.Aggregate kind at (Some tag) brace rows) rest w low ends = rw (aggregate_told names scope kind at) (body_reads kind at (Some tag) brace rows rest w low)
  specifier_reads (tree.Aggregate kind at None brace rows) rest w low ends = rw (aggregate_told names scope kind at) (body_reads kind at None brace rows rest w low)
  specifier_reads (tree.Enum at tag) rest w low ends = rw (is_none (open_brace (first rest)) ends) (equal refl)
  specifier_reads (tree.Enumeration at (Some tag) brace x true) rest w low ends = rw (append_assoc (before_enumerator x) close_brace rest) (enum_reads at (Some tag) brace x true rest w low)
  specifier_reads (tree.Enumeration at (Some tag) brace x false) rest w low ends = rw (append_assoc (enumerators_spelling x) close_brace rest) (enum_reads at (Some tag) brace x false rest w low)
  specifier_reads (tree.Enumeration at None brace x true) rest w low ends = rw (append_assoc (before_enumerator x) close_brace rest) (enum_reads at None brace x true rest w low)
  specifier_reads (tree.Enumeration at None brace x false) rest w low ends = rw (append_assoc (enumerators_spelling x) close_brace rest) (enum_reads at None brace x false rest w low)

  step_reads : (one : tree.Specifier) (rest : List Symbol) → AreSpecifiers g names scope (tree.AndSpecifier before one) → specifiers_height (tree.AndSpecifier before one) ≤ d → is_some (open_brace (first rest)) ≡ false
      → LeadsTo g (specifier_step names (rules names d) scope before (specifier_spelling one ++ rest)) (Read (tree.AndSpecifier before one) rest)
  unfolding specifier_step
  step_reads one rest w low ends = by_long (has_long before && is_long_next (first (specifier_spelling one ++ rest))) refl w.2
    where
      by_long : (b : Bool) → (has_long before && is_long_next (first (specifier_spelling one ++ rest))) ≡ b → IsExtended g ⊎ ((is_long one && has_long before) ≡ false)
          → LeadsTo g (cond b (Stopped Unsupported (specifier_spelling one ++ rest)) (by_first (specifier_start names scope) (with_specifier names (rules names d) before) (specifier_spelling one ++ rest))) (Read (tree.AndSpecifier before one) rest)
      by_long true e (inl extended) = breaks extended (specifier_spelling one ++ rest) refl
      by_long true e (inr once) = absurd (true≢false (sym e ∙ (ap (λ b. has_long before && b) (long_first one rest) ∙ (and_swap (has_long before) (is_long one) ∙ once))))
      by_long false e either = specifier_reads one rest w.1 (omega arith) ends

module _ (names : TypeNames) (d : ℕ) (keeps : InnerKeeps names d) (inner : InnerReads names d) (g : Language) (scope : Scope) where
  list_leads : (x : tree.Specifiers) (rest : List Symbol) → AreSpecifiers g names scope x → specifiers_height x ≤ d → is_some (open_brace (first rest)) ≡ false
      → LeadsTo g (loop (λ _. begins_specifier names scope) (specifier_step names (rules names d) scope) tree.NoSpecifier (specifiers_spelling x ++ rest)) (loop (λ _. begins_specifier names scope) (specifier_step names (rules names d) scope) x rest)
  list_leads tree.NoSpecifier rest w low ends = equal refl
  list_leads (tree.AndSpecifier before one) rest w low ends =
      rw (append_assoc (specifiers_spelling before) (specifier_spelling one) rest)
      (list_leads before (specifier_spelling one ++ rest) w.0 (omega arith) (no_brace_first one rest)
      ▷ leads_loop (specifier_steps keeps scope) before (specifier_spelling one ++ rest) tt (specifier_starts g names scope one rest w.1) (step_reads names d keeps inner g scope before one rest w low ends))

  pub specifiers_read : (x : tree.Specifiers) (rest : List Symbol) → AreSpecifiers g names scope x → has_type x ≡ true → specifier_list_height x ≤ suc d → EndsSpecifiers names scope (first rest)
      → LeadsTo g (specifiers_layer names (rules names d) scope (specifiers_spelling x ++ rest)) (Read x rest)
  unfolding specifiers_layer with_type
  specifiers_read x rest w typed low ends =
      leads_next _ (list_leads x rest w (omega arith) ends.no_brace ▷ leads_loop_stops (λ _. begins_specifier names scope) (specifier_step names (rules names d) scope) x rest ends.no_specifier)
      (rw typed (equal refl))
