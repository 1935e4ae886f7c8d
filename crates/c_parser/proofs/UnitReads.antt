-- The spelling of each unit leads to it.
use Rattle.std.proofs.Common.{◌≡◌, ℕ, zero, suc, ◌≤◌, false, cond, List, [], ◌∷◌, ◌++◌, refl, append_assoc, arith}
use Rattle.cc_base.specs.declared.place.Place.{Place}
use Rattle.c_lexer.specs.declared.punctuator.Punctuator.TheVariants as mark
use Rattle.parse_rules.specs.Parsers.{Read, Parser, first, next, pure, skip, expect, by_first, loop, ◌>>◌}
use Rattle.parse_rules.specs.Grammars.{Language}
use Rattle.parse_rules.proofs.Completeness.{LeadsTo, equal, ◌▷◌, leads_next, leads_passes, leads_loop, leads_loop_stops}
use Rattle.c_tree.specs.declared.leaf.Separator.TheVariants as separator
use Rattle.c_tree.specs.Depth.{init_declarators_height, block_items_height, unit_height}
use Rattle.c_tree.specs.Grammar.{WithName, AreInitDeclarators, IsUnit, names_after, names_after_all, type_names}
use Rattle.c_tree.specs.Spelling.{close_brace, semicolon, specifiers_spelling, declarator_spelling, initialiser_spelling, init_declarators_spelling, block_items_spelling, unit_spelling}
use Rattle.c_tree.specs.Symbols.{Symbol, Mark, Bare}
use Rattle.c_tree.specs.Tree as tree
use Rattle.c_tree.specs.Words.{AtFile, has_typedef}
use Rattle.c_parse_words.specs.WordRules.{take}
use Rattle.c_parse_words.specs.Tests.{is_comma, is_semicolon, open_brace, begins_specifier, begins_declarator}
use Rattle.c_expr_parse.specs.Rules.{rules}
use Rattle.c_expr_parse.proofs.AllReads.{inner_reads}
use Rattle.c_expr_parse.proofs.DeclarationDepth.{inner_keeps}
use Rattle.c_expr_parse.proofs.DeclarationStarts.{declarator_starts, declarator_apart, specifiers_start}
use Rattle.c_expr_parse.proofs.ExprReads.{bare_expr}
use Rattle.c_expr_parse.proofs.InitialiserReads.{initialiser_reads}
use Rattle.c_expr_parse.proofs.MembersRead.{bare_declarator}
use Rattle.c_parser.specs.DeclarationRules.{with_initialiser, next_declarator, declarators_from}
use Rattle.c_parser.specs.UnitRules.{function_body, after_declarator, external, at_end, unit_rule}
use Rattle.c_parser.proofs.BlockReads.{block_items_read}
use Rattle.c_parser.proofs.DeclarationLaws.{is_no_init}
use Rattle.c_parser.proofs.DeclarationReads.{Leads, chain, declarators_start, declarators_apart}
use Rattle.c_parser.proofs.StatementReads.{statement_reads}
use Rattle.c_parser.proofs.UnitLaws.{external_steps}

external_flat : (a b c rest : List Symbol) → (a ++ (b ++ (c ++ semicolon))) ++ rest ≡ a ++ (b ++ (c ++ Bare separator.Semicolon ∷ rest))
external_flat a b c rest = simp append_assoc

function_flat : (a b c : List Symbol) (x : Symbol) (e rest : List Symbol) → (a ++ (b ++ (c ++ x ∷ (e ++ close_brace)))) ++ rest ≡ a ++ (b ++ (c ++ x ∷ (e ++ Bare separator.CloseBrace ∷ rest)))
function_flat a b c x e rest = simp append_assoc

module _ (d : ℕ) (g : Language) (unit : tree.TranslationUnit) (specifiers : tree.Specifiers) where
  -- after the specifiers, a declarator first
  start : Parser Symbol tree.TranslationUnit
  start = λ ts. next ((rules (type_names unit) d).declarator WithName ts) (λ x. by_first open_brace (after_declarator d unit specifiers x))

  finish : tree.InitDeclarators → Parser Symbol tree.TranslationUnit
  finish declarators = expect is_semicolon >> pure (tree.AndExternal unit (tree.Declare specifiers declarators))

  plain : (x : tree.Declarator) → Leads (type_names unit) d g (has_typedef specifiers) start finish (tree.AndPlain tree.NoInitDeclarator x)
  unfolding start finish after_declarator with_initialiser
  plain x b rest w some low =
      leads_next _ ((inner_reads (type_names unit) d).declarator g WithName x (Bare b ∷ rest) w.1 (omega arith) (bare_declarator (type_names unit) WithName b)) (equal refl)

  initialised : (x : tree.Declarator) (at : Place) (value : tree.Initialiser) → Leads (type_names unit) d g (has_typedef specifiers) start finish (tree.AndInitialised tree.NoInitDeclarator x at value)
  unfolding start finish after_declarator with_initialiser
  initialised x at value b rest w some low =
      rw (append_assoc (declarator_spelling x) (Mark mark.Equal at ∷ initialiser_spelling value) (Bare b ∷ rest))
      (leads_next _ ((inner_reads (type_names unit) d).declarator g WithName x (Mark mark.Equal at ∷ (initialiser_spelling value ++ Bare b ∷ rest)) w.1 (omega arith) (record { no_part = refl; no_qualifier = refl; no_star = refl; no_core = refl }))
      (leads_next _ (leads_next _ (initialiser_reads (names_after (has_typedef specifiers) (type_names unit) x) (inner_keeps (names_after (has_typedef specifiers) (type_names unit) x)) (inner_reads (names_after (has_typedef specifiers) (type_names unit) x)) d g value (Bare b ∷ rest) w.2 (omega arith) (bare_expr 1 b refl))
      (equal refl)) (equal refl)))

  declarators_read : (x : tree.InitDeclarators) (rest : List Symbol) → AreInitDeclarators g (type_names unit) (has_typedef specifiers) x → is_no_init x ≡ false → init_declarators_height x ≤ d
      → LeadsTo g (start (init_declarators_spelling x ++ Bare separator.Semicolon ∷ rest)) (Read (tree.AndExternal unit (tree.Declare specifiers x)) rest)
  unfolding finish declarators_from
  declarators_read x rest w some low =
      chain (type_names unit) d g (has_typedef specifiers) start finish plain initialised x separator.Semicolon rest w some low
      ▷ leads_next finish (leads_loop_stops (λ _. is_comma) (λ before. skip >> next_declarator (names_after_all (has_typedef specifiers) (type_names unit) before) (has_typedef specifiers) d before) x (Bare separator.Semicolon ∷ rest) refl) (equal refl)

  external_reads : (x : tree.InitDeclarators) (rest : List Symbol) → IsUnit g (tree.AndExternal unit (tree.Declare specifiers x)) → unit_height (tree.AndExternal unit (tree.Declare specifiers x)) ≤ d
      → LeadsTo g (external d unit (specifiers_spelling specifiers ++ (init_declarators_spelling x ++ Bare separator.Semicolon ∷ rest))) (Read (tree.AndExternal unit (tree.Declare specifiers x)) rest)
  unfolding external start
  external_reads x rest w low =
      leads_next _ ((inner_reads (type_names unit) d).specifiers g AtFile specifiers (init_declarators_spelling x ++ Bare separator.Semicolon ∷ rest) w.1.0 w.1.1 (omega arith) (declarators_apart g (type_names unit) AtFile (has_typedef specifiers) x rest w.1.2))
      (after x w.1.2 (omega arith))
    where
      after : (x : tree.InitDeclarators) → AreInitDeclarators g (type_names unit) (has_typedef specifiers) x → init_declarators_height x ≤ d
          → LeadsTo g (cond (begins_declarator (type_names unit) WithName (first (init_declarators_spelling x ++ Bare separator.Semicolon ∷ rest))) (start (init_declarators_spelling x ++ Bare separator.Semicolon ∷ rest))
          ((expect is_semicolon >> pure (tree.AndExternal unit (tree.Declare specifiers tree.NoInitDeclarator))) (init_declarators_spelling x ++ Bare separator.Semicolon ∷ rest))) (Read (tree.AndExternal unit (tree.Declare specifiers x)) rest)
      after tree.NoInitDeclarator v l = equal refl
      after (tree.AndPlain before y) v l = leads_passes _ (declarators_start (type_names unit) d g (has_typedef specifiers) (tree.AndPlain before y) _ v refl) (declarators_read (tree.AndPlain before y) rest v refl l)
      after (tree.AndInitialised before y at value) v l =
          leads_passes _ (declarators_start (type_names unit) d g (has_typedef specifiers) (tree.AndInitialised before y at value) _ v refl) (declarators_read (tree.AndInitialised before y at value) rest v refl l)

-- the body of a function; its `{` comes next
body_reads : (d : ℕ) (g : Language) (unit : tree.TranslationUnit) (specifiers : tree.Specifiers) (x : tree.Declarator) (brace : Place) (items : tree.BlockItems) (rest : List Symbol)
    → IsUnit g (tree.AndFunctionBody unit specifiers x brace items) → suc (block_items_height items) ≤ d
    → LeadsTo g (function_body unit specifiers x d (Mark mark.OpenBrace brace ∷ (block_items_spelling items ++ Bare separator.CloseBrace ∷ rest))) (Read (tree.AndFunctionBody unit specifiers x brace items) rest)
unfolding function_body take
body_reads zero g unit specifiers x brace items rest w low = absurd (omega arith)
body_reads (suc d) g unit specifiers x brace items rest w low =
    leads_next _ (block_items_read (names_after (has_typedef specifiers) (type_names unit) x) d g (statement_reads (names_after (has_typedef specifiers) (type_names unit) x) d g) false items rest w.4 w.5 (omega arith)) (equal refl)

function_reads : (d : ℕ) (g : Language) (unit : tree.TranslationUnit) (specifiers : tree.Specifiers) (x : tree.Declarator) (brace : Place) (items : tree.BlockItems) (rest : List Symbol)
    → IsUnit g (tree.AndFunctionBody unit specifiers x brace items) → unit_height (tree.AndFunctionBody unit specifiers x brace items) ≤ d
    → LeadsTo g (external d unit (specifiers_spelling specifiers ++ (declarator_spelling x ++ Mark mark.OpenBrace brace ∷ (block_items_spelling items ++ Bare separator.CloseBrace ∷ rest)))) (Read (tree.AndFunctionBody unit specifiers x brace items) rest)
unfolding external after_declarator
function_reads d g unit specifiers x brace items rest w low =
    let begins = declarator_starts g (type_names unit) WithName x (Mark mark.OpenBrace brace ∷ (block_items_spelling items ++ Bare separator.CloseBrace ∷ rest)) w.3 in
    leads_next _ ((inner_reads (type_names unit) d).specifiers g AtFile specifiers (declarator_spelling x ++ Mark mark.OpenBrace brace ∷ (block_items_spelling items ++ Bare separator.CloseBrace ∷ rest)) w.1 w.2 (omega arith) (declarator_apart (type_names unit) WithName AtFile _ begins))
    (leads_passes _ begins
    (leads_next _ ((inner_reads (type_names unit) d).declarator g WithName x (Mark mark.OpenBrace brace ∷ (block_items_spelling items ++ Bare separator.CloseBrace ∷ rest)) w.3 (omega arith) (record { no_part = refl; no_qualifier = refl; no_star = refl; no_core = refl }))
    (body_reads d g unit specifiers x brace items rest w (omega arith))))

unit_leads : (d : ℕ) (g : Language) (x : tree.TranslationUnit) (rest : List Symbol) → IsUnit g x → unit_height x ≤ d
    → LeadsTo g (loop (λ unit. begins_specifier (type_names unit) AtFile) (external d) tree.NoExternal (unit_spelling x ++ rest)) (loop (λ unit. begins_specifier (type_names unit) AtFile) (external d) x rest)
unit_leads d g tree.NoExternal rest w low = equal refl
unit_leads d g (tree.AndExternal unit (tree.Declare specifiers x)) rest w low =
    rw (external_flat (unit_spelling unit) (specifiers_spelling specifiers) (init_declarators_spelling x) rest)
    (unit_leads d g unit (specifiers_spelling specifiers ++ (init_declarators_spelling x ++ Bare separator.Semicolon ∷ rest)) w.0 (omega arith)
    ▷ leads_loop (external_steps d) unit (specifiers_spelling specifiers ++ (init_declarators_spelling x ++ Bare separator.Semicolon ∷ rest)) tt
    (specifiers_start g (type_names unit) AtFile specifiers _ w.1.0 w.1.1) (external_reads d g unit specifiers x rest w low))
unit_leads d g (tree.AndFunctionBody unit specifiers x brace items) rest w low =
    rw (function_flat (unit_spelling unit) (specifiers_spelling specifiers) (declarator_spelling x) (Mark mark.OpenBrace brace) (block_items_spelling items) rest)
    (unit_leads d g unit (specifiers_spelling specifiers ++ (declarator_spelling x ++ Mark mark.OpenBrace brace ∷ (block_items_spelling items ++ Bare separator.CloseBrace ∷ rest))) w.0 (omega arith)
    ▷ leads_loop (external_steps d) unit (specifiers_spelling specifiers ++ (declarator_spelling x ++ Mark mark.OpenBrace brace ∷ (block_items_spelling items ++ Bare separator.CloseBrace ∷ rest))) tt
    (specifiers_start g (type_names unit) AtFile specifiers _ w.1 w.2) (function_reads d g unit specifiers x brace items rest w low))

pub unit_reads : (d : ℕ) (g : Language) (x : tree.TranslationUnit) → IsUnit g x → unit_height x ≤ d → LeadsTo g (unit_rule d (unit_spelling x ++ [])) (Read x [])
unfolding unit_rule at_end
unit_reads d g x w low =
    leads_next _ (unit_leads d g x [] w low ▷ leads_loop_stops (λ unit. begins_specifier (type_names unit) AtFile) (external d) x [] refl) (equal refl)
