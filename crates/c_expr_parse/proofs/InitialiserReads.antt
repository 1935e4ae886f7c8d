-- The spelling of each initialiser leads to it.
use Rattle.std.proofs.Common.{◌≡◌, ℕ, zero, suc, ◌≤◌, Bool, true, false, ◌||◌, Option, Some, None, is_some, List, [], ◌∷◌, ◌++◌, refl, append_assoc, arith}
use Rattle.std.proofs.lemmas.Bool.{or_left, or_right}
use Rattle.cc_base.specs.declared.place.Place.{Place}
use Rattle.c_lexer.specs.declared.punctuator.Punctuator.{Punctuator}
use Rattle.c_lexer.specs.declared.punctuator.Punctuator.TheVariants as mark
use Rattle.parse_rules.specs.Parsers.{Answer, Read, Stopped, Parser, first, next, expect, loop, ◌>>◌}
use Rattle.parse_rules.specs.Grammars.{Language, IsExtended}
use Rattle.parse_rules.proofs.Completeness.{LeadsTo, equal, breaks, ◌▷◌, leads_next, leads_passes, leads_fails, leads_first, leads_unsupported, leads_loop, leads_loop_stops}
use Rattle.c_tree.specs.declared.leaf.Separator.{Separator}
use Rattle.c_tree.specs.declared.leaf.Separator.TheVariants as separator
use Rattle.c_tree.specs.Depth.{expr_height, items_height, initialiser_height}
use Rattle.c_tree.specs.Grammar.{IsExpr, AreItems, IsInitialiser, is_no_item, level}
use Rattle.c_tree.specs.Spelling.{close_brace, items_spelling, before_item, initialiser_spelling, expr_spelling}
use Rattle.c_tree.specs.Symbols.{Symbol, Name, Mark, Bare}
use Rattle.c_tree.specs.Tree as tree
use Rattle.c_tree.specs.Words.{TypeNames}
use Rattle.c_parse_words.specs.Tests.{is_close_brace, is_designator, open_brace, begins_initialiser, start_of, is_start}
use Rattle.c_parse_words.proofs.Starts.{expr_starts}
use Rattle.c_expr_parse.specs.Rules.{rules, next_item, item_step, listed, initialiser_list, value, initialiser_from, initialiser}
use Rattle.c_expr_parse.specs.TypeRules.{Series, Upto, goes_on_series}
use Rattle.c_expr_parse.proofs.Complete.{EndsExpr, InnerReads}
use Rattle.c_expr_parse.proofs.ExprComplete.{expr_high}
use Rattle.c_expr_parse.proofs.ExprReads.{bare_expr, leads_before}
use Rattle.c_expr_parse.proofs.InitialiserLaws.{KeepsInside, before_some_item, item_keeps, keeps_initialiser}
use Rattle.c_expr_parse.proofs.Kept.{InnerKeeps}
use Rattle.c_expr_parse.proofs.UnaryReads.{expr_no_brace}

-- How initialisers begin.

pub initialiser_starts : (g : Language) (names : TypeNames) (x : tree.Initialiser) (rest : List Symbol) → IsInitialiser g names x → begins_initialiser names (first (initialiser_spelling x ++ rest)) ≡ true
initialiser_starts g names (tree.Value e) rest w = or_right (is_some (open_brace (first (expr_spelling e ++ rest)))) _ (expr_starts g names e w.0 rest)
initialiser_starts g names (tree.Listed brace items true) rest w = refl
initialiser_starts g names (tree.Listed brace items false) rest w = refl

mark_no_designator : (p : Punctuator) (at : Place) (b : Bool) → (is_some (open_brace (Some (Mark p at))) || is_start (start_of p at)) ≡ true → is_designator (Some (Mark p at)) ≡ false
mark_no_designator mark.Dot at b e = cc
mark_no_designator mark.OpenBracket at b e = cc
mark_no_designator p at b e = refl

no_designator : (names : TypeNames) (next : Option Symbol) → begins_initialiser names next ≡ true → is_designator next ≡ false
no_designator names (Some (Mark p at)) e = mark_no_designator p at true e
no_designator names (Some (Name bytes at)) e = refl
no_designator names next e = refl

-- Three parsers one after another.

pub grouped : {T A B C : Type 0} (r : Answer T A) (f : A → Parser T B) (k : B → Parser T C) → next (next r f) k ≡ next r (λ a ts. next (f a ts) k)
grouped (Read a rest) f k = refl
grouped (Stopped why rest) f k = refl

pub leads_then : {T A B C : Type 0} {g : Language} (r : Answer T A) (f : A → Parser T B) (k : B → Parser T C) {q : Answer T B} {s : Answer T C} → LeadsTo g (next r f) q → LeadsTo g (next q k) s → LeadsTo g (next r (λ a ts. next (f a ts) k)) s
leads_then r f k h h' = rw (← grouped r f k) (leads_before k h ▷ h')

-- Lists of items.

-- what stands after the `{` of a list
abbrev list_tail : tree.Items → Bool → List Symbol
list_tail items true = before_item items ++ close_brace
list_tail items false = items_spelling items ++ close_brace

module _ (names : TypeNames) (d : ℕ) (keeps : KeepsInside names d) (g : Language)
    (inside : (x : tree.Initialiser) (rest : List Symbol) → IsInitialiser g names x → initialiser_height x ≤ d → EndsExpr 1 (first rest) → LeadsTo g (initialiser names d (initialiser_spelling x ++ rest)) (Read x rest)) where
  abbrev items_loop : Series tree.Items → Parser Symbol (Series tree.Items)
  items_loop = loop goes_on_series (item_step names (initialiser names d))

  item_reads : (before : tree.Items) (x : tree.Initialiser) (b : Separator) (rest : List Symbol) → IsInitialiser g names x → initialiser_height x ≤ d
      → LeadsTo g (next_item (initialiser names d) before (initialiser_spelling x ++ Bare b ∷ rest)) (Read (Upto (tree.AndItem before x) false) (Bare b ∷ rest))
  unfolding next_item
  item_reads before x b rest w low =
      leads_fails _ (no_designator names (first (initialiser_spelling x ++ Bare b ∷ rest)) (initialiser_starts g names x (Bare b ∷ rest) w))
      (leads_next _ (inside x (Bare b ∷ rest) w low (bare_expr 1 b refl)) (equal refl))

  item_flat : (before : tree.Items) (s rest : List Symbol) → is_no_item before ≡ false → (before_item before ++ s) ++ rest ≡ items_spelling before ++ Bare separator.Comma ∷ (s ++ rest)
  item_flat before s rest some = rw (before_some_item before some) (simp append_assoc)

  -- after a comma another item
  item_goes : (before : tree.Items) (x : tree.Initialiser) (b : Separator) (rest : List Symbol) → IsInitialiser g names x → initialiser_height x ≤ d
      → LeadsTo g (items_loop (Upto before false) (Bare separator.Comma ∷ (initialiser_spelling x ++ Bare b ∷ rest))) (items_loop (Upto (tree.AndItem before x) false) (Bare b ∷ rest))
  unfolding item_step
  item_goes before x b rest w low =
      leads_loop (item_keeps keeps) (Upto before false) (Bare separator.Comma ∷ (initialiser_spelling x ++ Bare b ∷ rest)) tt refl
      (leads_passes _ (or_right (is_designator (first (initialiser_spelling x ++ Bare b ∷ rest))) _ (initialiser_starts g names x (Bare b ∷ rest) w)) (item_reads before x b rest w low))

  -- after a comma a designator
  designator_goes : (before z : tree.Items) (t : Symbol) (rest rest' : List Symbol) → IsExtended g → is_designator (Some t) ≡ true
      → LeadsTo g (items_loop (Upto before false) (Bare separator.Comma ∷ t ∷ rest)) (items_loop (Upto z false) rest')
  unfolding item_step next_item
  designator_goes before z t rest rest' wide test =
      leads_loop (item_keeps keeps) (Upto before false) (Bare separator.Comma ∷ t ∷ rest) tt refl
      (leads_passes _ (or_left (is_designator (Some t)) (begins_initialiser names (Some t)) test) (leads_unsupported (t ∷ rest) _ wide test))

  items_lead : (x : tree.Items) (b : Separator) (rest : List Symbol) → AreItems g names x → is_no_item x ≡ false → items_height x ≤ d
      → LeadsTo g (next (next_item (initialiser names d) tree.NoItem (items_spelling x ++ Bare b ∷ rest)) items_loop) (items_loop (Upto x false) (Bare b ∷ rest))
  unfolding next_item
  items_lead tree.NoItem b rest w some low = cc
  items_lead (tree.AndItem tree.NoItem x) b rest w some low = leads_next _ (item_reads tree.NoItem x b rest w.1 (omega arith)) (equal refl)
  items_lead (tree.AndItem (tree.AndItem before y) x) b rest w some low =
      rw (item_flat (tree.AndItem before y) (initialiser_spelling x) (Bare b ∷ rest) refl)
      (items_lead (tree.AndItem before y) separator.Comma (initialiser_spelling x ++ Bare b ∷ rest) w.0 refl (omega arith) ▷ item_goes (tree.AndItem before y) x b rest w.1 (omega arith))
  items_lead (tree.AndItem (tree.AndMemberDesignator before place) x) b rest w some low =
      rw (item_flat (tree.AndMemberDesignator before place) (initialiser_spelling x) (Bare b ∷ rest) refl)
      (items_lead (tree.AndMemberDesignator before place) separator.Comma (initialiser_spelling x ++ Bare b ∷ rest) w.0 refl (omega arith) ▷ item_goes (tree.AndMemberDesignator before place) x b rest w.1 (omega arith))
  items_lead (tree.AndItem (tree.AndIndexDesignator before place) x) b rest w some low =
      rw (item_flat (tree.AndIndexDesignator before place) (initialiser_spelling x) (Bare b ∷ rest) refl)
      (items_lead (tree.AndIndexDesignator before place) separator.Comma (initialiser_spelling x ++ Bare b ∷ rest) w.0 refl (omega arith) ▷ item_goes (tree.AndIndexDesignator before place) x b rest w.1 (omega arith))
  items_lead (tree.AndMemberDesignator tree.NoItem at) b rest w some low = breaks w.0 (Mark mark.Dot at ∷ Bare b ∷ rest) refl
  items_lead (tree.AndMemberDesignator (tree.AndItem before y) at) b rest w some low =
      rw (item_flat (tree.AndItem before y) (Mark mark.Dot at ∷ []) (Bare b ∷ rest) refl)
      (items_lead (tree.AndItem before y) separator.Comma (Mark mark.Dot at ∷ Bare b ∷ rest) w.1 refl (omega arith)
      ▷ designator_goes (tree.AndItem before y) (tree.AndMemberDesignator (tree.AndItem before y) at) (Mark mark.Dot at) (Bare b ∷ rest) (Bare b ∷ rest) w.0 refl)
  items_lead (tree.AndMemberDesignator (tree.AndMemberDesignator before place) at) b rest w some low =
      rw (item_flat (tree.AndMemberDesignator before place) (Mark mark.Dot at ∷ []) (Bare b ∷ rest) refl)
      (items_lead (tree.AndMemberDesignator before place) separator.Comma (Mark mark.Dot at ∷ Bare b ∷ rest) w.1 refl (omega arith)
      ▷ designator_goes (tree.AndMemberDesignator before place) (tree.AndMemberDesignator (tree.AndMemberDesignator before place) at) (Mark mark.Dot at) (Bare b ∷ rest) (Bare b ∷ rest) w.0 refl)
  items_lead (tree.AndMemberDesignator (tree.AndIndexDesignator before place) at) b rest w some low =
      rw (item_flat (tree.AndIndexDesignator before place) (Mark mark.Dot at ∷ []) (Bare b ∷ rest) refl)
      (items_lead (tree.AndIndexDesignator before place) separator.Comma (Mark mark.Dot at ∷ Bare b ∷ rest) w.1 refl (omega arith)
      ▷ designator_goes (tree.AndIndexDesignator before place) (tree.AndMemberDesignator (tree.AndIndexDesignator before place) at) (Mark mark.Dot at) (Bare b ∷ rest) (Bare b ∷ rest) w.0 refl)
  items_lead (tree.AndIndexDesignator tree.NoItem at) b rest w some low = breaks w.0 (Mark mark.OpenBracket at ∷ Bare b ∷ rest) refl
  items_lead (tree.AndIndexDesignator (tree.AndItem before y) at) b rest w some low =
      rw (item_flat (tree.AndItem before y) (Mark mark.OpenBracket at ∷ []) (Bare b ∷ rest) refl)
      (items_lead (tree.AndItem before y) separator.Comma (Mark mark.OpenBracket at ∷ Bare b ∷ rest) w.1 refl (omega arith)
      ▷ designator_goes (tree.AndItem before y) (tree.AndIndexDesignator (tree.AndItem before y) at) (Mark mark.OpenBracket at) (Bare b ∷ rest) (Bare b ∷ rest) w.0 refl)
  items_lead (tree.AndIndexDesignator (tree.AndMemberDesignator before place) at) b rest w some low =
      rw (item_flat (tree.AndMemberDesignator before place) (Mark mark.OpenBracket at ∷ []) (Bare b ∷ rest) refl)
      (items_lead (tree.AndMemberDesignator before place) separator.Comma (Mark mark.OpenBracket at ∷ Bare b ∷ rest) w.1 refl (omega arith)
      ▷ designator_goes (tree.AndMemberDesignator before place) (tree.AndIndexDesignator (tree.AndMemberDesignator before place) at) (Mark mark.OpenBracket at) (Bare b ∷ rest) (Bare b ∷ rest) w.0 refl)
  items_lead (tree.AndIndexDesignator (tree.AndIndexDesignator before place) at) b rest w some low =
      rw (item_flat (tree.AndIndexDesignator before place) (Mark mark.OpenBracket at ∷ []) (Bare b ∷ rest) refl)
      (items_lead (tree.AndIndexDesignator before place) separator.Comma (Mark mark.OpenBracket at ∷ Bare b ∷ rest) w.1 refl (omega arith)
      ▷ designator_goes (tree.AndIndexDesignator before place) (tree.AndIndexDesignator (tree.AndIndexDesignator before place) at) (Mark mark.OpenBracket at) (Bare b ∷ rest) (Bare b ∷ rest) w.0 refl)

  -- what is read after the items
  abbrev after_items : Place → Series tree.Items → Parser Symbol tree.Initialiser
  after_items brace series = expect is_close_brace >> listed brace series

  list_reads : (brace : Place) (items : tree.Items) (comma : Bool) (rest : List Symbol) → AreItems g names items → is_no_item items ≡ false → items_height items ≤ d
      → LeadsTo g (initialiser_list names (initialiser names d) brace (list_tail items comma ++ rest)) (Read (tree.Listed brace items comma) rest)
  unfolding initialiser_list item_step listed
  list_reads brace items false rest w some low =
      rw (append_assoc (items_spelling items) (Bare separator.CloseBrace ∷ []) rest)
      (leads_then (next_item (initialiser names d) tree.NoItem (items_spelling items ++ Bare separator.CloseBrace ∷ rest)) items_loop (after_items brace) (items_lead items separator.CloseBrace rest w some low)
      (leads_next (after_items brace) (leads_loop_stops goes_on_series (item_step names (initialiser names d)) (Upto items false) (Bare separator.CloseBrace ∷ rest) refl) (equal refl)))
  list_reads brace items true rest w some low =
      rw (trailing)
      (leads_then (next_item (initialiser names d) tree.NoItem (items_spelling items ++ Bare separator.Comma ∷ Bare separator.CloseBrace ∷ rest)) items_loop (after_items brace) (items_lead items separator.Comma (Bare separator.CloseBrace ∷ rest) w some low)
      (leads_next (after_items brace)
      (leads_loop (item_keeps keeps) (Upto items false) (Bare separator.Comma ∷ Bare separator.CloseBrace ∷ rest) tt refl (equal refl)
      ▷ leads_loop_stops goes_on_series (item_step names (initialiser names d)) (Upto items true) (Bare separator.CloseBrace ∷ rest) refl)
      (equal refl)))
    where
      trailing : (before_item items ++ close_brace) ++ rest ≡ items_spelling items ++ Bare separator.Comma ∷ Bare separator.CloseBrace ∷ rest
      trailing = rw (before_some_item items some) (simp append_assoc)

-- One initialiser, where all the rules for expressions read.

value_reads : (names : TypeNames) (d : ℕ) → InnerReads names (suc d) → (g : Language) (e : tree.Expr) (rest : List Symbol) → IsExpr g names e → 1 ≤ level e → expr_height e ≤ suc d → EndsExpr 1 (first rest)
    → LeadsTo g (initialiser names (suc d) (expr_spelling e ++ rest)) (Read (tree.Value e) rest)
unfolding initialiser initialiser_from value
value_reads names d inner g e rest w fits low ends =
    leads_first open_brace (initialiser_from names (rules names (suc d)) (initialiser names d)) (expr_spelling e ++ rest) (nothing (open_brace (first (expr_spelling e ++ rest))) (expr_no_brace names (first (expr_spelling e ++ rest)) (expr_starts g names e w rest)))
    (leads_next _ (inner.expr g 1 e rest (omega arith) w fits low ends) (equal refl))
  where
    nothing : (o : Option Place) → is_some o ≡ false → o ≡ None
    nothing None e = refl
    nothing (Some at) e = cc

pub initialiser_reads : (names : TypeNames) → ((d : ℕ) → InnerKeeps names d) → ((d : ℕ) → InnerReads names d) → (d : ℕ) (g : Language) (x : tree.Initialiser) (rest : List Symbol)
    → IsInitialiser g names x → initialiser_height x ≤ d → EndsExpr 1 (first rest) → LeadsTo g (initialiser names d (initialiser_spelling x ++ rest)) (Read x rest)
unfolding initialiser initialiser_from
initialiser_reads names all reads zero g (tree.Value e) rest w low ends = absurd (omega (arith, expr_high e))
initialiser_reads names all reads zero g (tree.Listed brace items comma) rest w low ends = absurd (omega arith)
initialiser_reads names all reads (suc d) g (tree.Value e) rest w low ends = value_reads names d (reads (suc d)) g e rest w.0 w.1 low ends
initialiser_reads names all reads (suc d) g (tree.Listed brace items true) rest w low ends =
    list_reads names d (keeps_initialiser names all d) g (initialiser_reads names all reads d g) brace items true rest w.0 w.1 (omega arith)
initialiser_reads names all reads (suc d) g (tree.Listed brace items false) rest w low ends =
    list_reads names d (keeps_initialiser names all d) g (initialiser_reads names all reads d g) brace items false rest w.0 w.1 (omega arith)
