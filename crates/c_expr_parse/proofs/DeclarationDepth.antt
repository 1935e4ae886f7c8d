-- The rules for specifiers and declarators at each number of nodes that is allowed, and all four rules together.
use Rattle.std.proofs.Common.{◌≡◌, ℕ, zero, suc, ◌≤◌, Bool, true, false, ◌||◌, ◌&&◌, cond, Option, Some, None, is_some, inr, List, [], ◌∷◌, refl, sym, ◌∙◌, ap, subst, true≢false, arith}
use Rattle.std.specs.List.{All}
use Rattle.std.proofs.lemmas.List.Elements.{All-push}
use Rattle.cc_base.specs.declared.place.Place.{Place}
use Rattle.c_lexer.specs.declared.word.Keyword.TheVariants as keyword
use Rattle.c_lexer.specs.declared.punctuator.Punctuator.TheVariants as mark
use Rattle.parse_rules.specs.Parsers.{Stopped, Syntax, first, next, by_first, refuse}
use Rattle.parse_rules.specs.Grammars.{CanBegin, InBoth, Any}
use Rattle.parse_rules.specs.Rules.{Rule}
use Rattle.parse_rules.proofs.Combinators.{rule_deeper, rule_shallow}
use Rattle.parse_rules.proofs.Loops.{loop_stops}
use Rattle.c_tree.specs.declared.leaf.Separator.TheVariants as separator
use Rattle.c_tree.specs.declared.leaf.Word.{Word as PlacedWord}
use Rattle.c_tree.specs.Depth.{specifier_list_height, declarator_height}
use Rattle.c_tree.specs.Grammar.{Naming, WithName, WithoutName, WithOrWithout, HasQualifiers}
use Rattle.c_tree.specs.Operators.{aggregate_keyword}
use Rattle.c_tree.specs.Spelling.{name_symbol, word_symbol}
use Rattle.c_tree.specs.Symbols.{Symbol, Word, Mark, Bare}
use Rattle.c_tree.specs.Tree as tree
use Rattle.c_tree.specs.Words.{TypeNames, Scope, is_long}
use Rattle.c_parse_words.specs.WordRules.{star_step}
use Rattle.c_parse_words.specs.Tests.{begins_specifier, SpecifierStart, StartWord, StartTypedef, StartAggregate, StartEnum, NoSpecifierStart, specifier_start, is_specifier_start, begins_declarator, star_sign, open_bracket, core_start, is_core, CoreStart, CoreName, CoreParen, NoCore, may_omit_name}
use Rattle.c_parse_words.specs.Written.{IsWritten}
use Rattle.c_parse_words.proofs.DeclaratorTokens.{core_name_here, core_paren_here, may_have_name, may_have_none}
use Rattle.c_parse_words.proofs.Fresh.{fresh_name, fresh_name_is_new, written_fresh_name}
use Rattle.c_parse_words.proofs.SpecifierTokens.{start_word_here, start_typedef_here, start_aggregate_here, start_enum_here}
use Rattle.c_parse_words.proofs.TokenLaws.{open_bracket_here, star_sign_here}
use Rattle.c_parse_words.proofs.Written.{some_place, written_int, written_close_paren, written_close_bracket, written_open_bracket}
use Rattle.c_expr_parse.specs.DeclaratorRules.{declarator_layer, with_core, unnamed}
use Rattle.c_expr_parse.specs.ExprRules.{Inner}
use Rattle.c_expr_parse.specs.Parts.{SpellsSpecifiers, SpellsDeclarator}
use Rattle.c_expr_parse.specs.Rules.{rules}
use Rattle.c_expr_parse.specs.TypeRules.{specifiers_layer, specifier_step, with_type}
use Rattle.c_expr_parse.proofs.Declarators.{keeps_declarator}
use Rattle.c_expr_parse.proofs.ExprDepth.{keeps_expr_zero, keeps_paren_zero, keeps_expr_suc, keeps_paren_suc}
use Rattle.c_expr_parse.proofs.Kept.{InnerKeeps}
use Rattle.c_expr_parse.proofs.Specifiers.{keeps_specifiers}

some_same : {X : Type 0} {x y : X} → Some x ≡ Some y → x ≡ y
some_same e = cc

and_first : (a b : Bool) → (a && b) ≡ true → a ≡ true
and_first true b e = refl
and_first false b e = cc

-- Specifiers.

and_none : (b : Bool) → (b && false) ≡ false
and_none true = refl
and_none false = refl

int_word : PlacedWord
int_word = record { keyword = keyword.Int; place = some_place }

int_alone : (names : TypeNames) (scope : Scope) → CanBegin IsWritten (InBoth (SpellsSpecifiers names scope)) []
unfolding int_word
int_alone names scope = record {
  part = tree.AndSpecifier tree.NoSpecifier (tree.Keyword int_word);
  more = Word keyword.Int some_place ∷ [];
  valid = (written_int some_place, tt);
  spells = λ g. record { within = ((tt, refl, inr refl), refl); spelled = refl };
}

-- a list that begins with the token
specifiers_with : (names : TypeNames) (scope : Scope) (t : Symbol) (x : SpecifierStart) → specifier_start names scope (Some t) ≡ x → is_specifier_start x ≡ true → CanBegin IsWritten (InBoth (SpellsSpecifiers names scope)) (t ∷ [])
unfolding int_word
specifiers_with names scope t (StartWord word) e some =
    let here = start_word_here names scope (Some t) word e in
    let is : Some t ≡ Some (word_symbol word) = here.0 in
    record {
      part = tree.AndSpecifier (tree.AndSpecifier tree.NoSpecifier (tree.Keyword word)) (tree.Keyword int_word);
      more = Word keyword.Int some_place ∷ [];
      valid = (written_int some_place, tt);
      spells = λ g. record { within = (((tt, here.1, inr (and_none (is_long (tree.Keyword word)))), refl, inr refl), refl); spelled = cc };
    }
specifiers_with names scope t (StartTypedef name) e some =
    let here = start_typedef_here names scope (Some t) name e in
    let is : Some t ≡ Some (name_symbol name) = here.0 in
    record {
      part = tree.AndSpecifier tree.NoSpecifier (tree.Typedef name);
      more = [];
      valid = tt;
      spells = λ g. record { within = ((tt, here.1, inr refl), refl); spelled = cc };
    }
specifiers_with names scope t (StartAggregate kind at) e some =
    let is : Some t ≡ Some (Word (aggregate_keyword kind) at) = start_aggregate_here names scope (Some t) kind at e in
    record {
      part = tree.AndSpecifier tree.NoSpecifier (tree.Tagged kind at (fresh_name names));
      more = name_symbol (fresh_name names) ∷ [];
      valid = (written_fresh_name names, tt);
      spells = λ g. record { within = ((tt, tt, inr refl), refl); spelled = cc };
    }
specifiers_with names scope t (StartEnum at) e some =
    let is : Some t ≡ Some (Word keyword.Enum at) = start_enum_here names scope (Some t) at e in
    record {
      part = tree.AndSpecifier tree.NoSpecifier (tree.Enum at (fresh_name names));
      more = name_symbol (fresh_name names) ∷ [];
      valid = (written_fresh_name names, tt);
      spells = λ g. record { within = ((tt, tt, inr refl), refl); spelled = cc };
    }
specifiers_with names scope t NoSpecifierStart e some = cc

pub specifiers_refuse : (names : TypeNames) (d : ℕ) (scope : Scope) (ts : List Symbol) → begins_specifier names scope (first ts) ≡ false → (rules names d).specifiers scope ts ≡ Stopped Syntax ts
unfolding rules specifiers_layer with_type
specifiers_refuse names zero scope ts none = rw none refl
specifiers_refuse names (suc d) scope ts none = ap (λ r. next r with_type) (loop_stops (λ _. begins_specifier names scope) (specifier_step names (rules names d) scope) tree.NoSpecifier ts none)

keeps_specifiers_zero : (names : TypeNames) (scope : Scope) (moves : Bool) (ts : List Symbol) → (moves ≡ true → begins_specifier names scope (first ts) ≡ true)
    → Rule IsWritten true moves (λ d'. (rules names d').specifiers scope) 0 (SpellsSpecifiers names scope) (λ x. specifier_list_height x ≤ 0) Any ts
unfolding rules
keeps_specifiers_zero names scope moves ts begins =
    rule_shallow (begins_specifier names scope) refl begins (λ ts' some. rw some refl) (λ d' ts' none. specifiers_refuse names d' scope ts' none)
    (int_alone names scope) (λ t some. specifiers_with names scope t (specifier_start names scope (Some t)) refl some)

keeps_specifiers_suc : (names : TypeNames) (d : ℕ) → InnerKeeps names d → (scope : Scope) (moves : Bool) (ts : List Symbol) → (moves ≡ true → begins_specifier names scope (first ts) ≡ true)
    → Rule IsWritten true moves (λ d'. (rules names d').specifiers scope) (suc d) (SpellsSpecifiers names scope) (λ x. specifier_list_height x ≤ suc d) Any ts
unfolding rules
keeps_specifiers_suc names d inner scope moves ts begins = rule_deeper (keeps_specifiers inner scope moves ts begins)

-- Declarators.

no_star : All HasQualifiers []
no_star k x h = absurd (omega arith)

one_star : (at : Place) → All HasQualifiers (record { place = at; qualifiers = [] } ∷ [])
one_star at = All-push HasQualifiers [] (record { place = at; qualifiers = [] }) no_star refl

some_declarator : (names : TypeNames) (naming : Naming) → CanBegin IsWritten (InBoth (SpellsDeclarator names naming)) []
some_declarator names WithName = record {
  part = tree.Declares [] (tree.Names (fresh_name names)) tree.NoPart;
  more = name_symbol (fresh_name names) ∷ [];
  valid = (written_fresh_name names, tt);
  spells = λ g. record { within = (no_star, (tt, fresh_name_is_new names), tt, tt); spelled = refl };
}
some_declarator names WithOrWithout = record {
  part = tree.Declares [] (tree.Names (fresh_name names)) tree.NoPart;
  more = name_symbol (fresh_name names) ∷ [];
  valid = (written_fresh_name names, tt);
  spells = λ g. record { within = (no_star, (tt, fresh_name_is_new names), tt, tt); spelled = refl };
}
some_declarator names WithoutName = record {
  part = tree.Declares [] tree.Unnamed (tree.AndArray tree.NoPart some_place []);
  more = Mark mark.OpenBracket some_place ∷ Bare separator.CloseBracket ∷ [];
  valid = (written_open_bracket some_place, (written_close_bracket, tt));
  spells = λ g. record { within = (no_star, tt, (tt, refl), tt); spelled = refl };
}

declarator_after_star : (names : TypeNames) (naming : Naming) (at : Place) → CanBegin IsWritten (InBoth (SpellsDeclarator names naming)) (Mark mark.Star at ∷ [])
declarator_after_star names WithName at = record {
  part = tree.Declares (record { place = at; qualifiers = [] } ∷ []) (tree.Names (fresh_name names)) tree.NoPart;
  more = name_symbol (fresh_name names) ∷ [];
  valid = (written_fresh_name names, tt);
  spells = λ g. record { within = (one_star at, (tt, fresh_name_is_new names), tt, tt); spelled = refl };
}
declarator_after_star names WithOrWithout at = record {
  part = tree.Declares (record { place = at; qualifiers = [] } ∷ []) tree.Unnamed tree.NoPart;
  more = [];
  valid = tt;
  spells = λ g. record { within = (one_star at, tt, tt, tt); spelled = refl };
}
declarator_after_star names WithoutName at = record {
  part = tree.Declares (record { place = at; qualifiers = [] } ∷ []) tree.Unnamed tree.NoPart;
  more = [];
  valid = tt;
  spells = λ g. record { within = (one_star at, tt, tt, tt); spelled = refl };
}

declarator_after_paren : (names : TypeNames) (naming : Naming) (at : Place) → CanBegin IsWritten (InBoth (SpellsDeclarator names naming)) (Mark mark.OpenParen at ∷ [])
declarator_after_paren names WithName at = record {
  part = tree.Declares [] (tree.Nested at (tree.Declares [] (tree.Names (fresh_name names)) tree.NoPart)) tree.NoPart;
  more = name_symbol (fresh_name names) ∷ Bare separator.CloseParen ∷ [];
  valid = (written_fresh_name names, (written_close_paren, tt));
  spells = λ g. record { within = (no_star, (no_star, (tt, fresh_name_is_new names), tt, tt), tt, tt); spelled = refl };
}
declarator_after_paren names WithOrWithout at = record {
  part = tree.Declares [] tree.Unnamed (tree.AndFunction tree.NoPart at tree.NoParameter);
  more = Bare separator.CloseParen ∷ [];
  valid = (written_close_paren, tt);
  spells = λ g. record { within = (no_star, tt, (tt, tt), tt); spelled = refl };
}
declarator_after_paren names WithoutName at = record {
  part = tree.Declares [] tree.Unnamed (tree.AndFunction tree.NoPart at tree.NoParameter);
  more = Bare separator.CloseParen ∷ [];
  valid = (written_close_paren, tt);
  spells = λ g. record { within = (no_star, tt, (tt, tt), tt); spelled = refl };
}

declarator_with : (names : TypeNames) (naming : Naming) (t : Symbol) (star bracket : Option Place) (c : CoreStart) → star_sign (Some t) ≡ star → core_start names naming (Some t) ≡ c → open_bracket (Some t) ≡ bracket
    → (is_some star || (is_core c || (may_omit_name naming && is_some bracket))) ≡ true → CanBegin IsWritten (InBoth (SpellsDeclarator names naming)) (t ∷ [])
declarator_with names naming t (Some at) bracket c e f h some =
    let is : Some t ≡ Some (Mark mark.Star at) = star_sign_here (Some t) at e in
    subst (λ x. CanBegin IsWritten (InBoth (SpellsDeclarator names naming)) (x ∷ [])) (sym (some_same is)) (declarator_after_star names naming at)
declarator_with names naming t None bracket (CoreName name) e f h some =
    let here = core_name_here names naming (Some t) name f in
    let is : Some t ≡ Some (name_symbol name) = here.0 in
    record {
      part = tree.Declares [] (tree.Names name) tree.NoPart;
      more = [];
      valid = tt;
      spells = λ g. record { within = (no_star, (may_have_name naming here.1, here.2), tt, tt); spelled = cc };
    }
declarator_with names naming t None bracket (CoreParen at) e f h some =
    let is : Some t ≡ Some (Mark mark.OpenParen at) = core_paren_here names naming (Some t) at f in
    subst (λ x. CanBegin IsWritten (InBoth (SpellsDeclarator names naming)) (x ∷ [])) (sym (some_same is)) (declarator_after_paren names naming at)
declarator_with names naming t None (Some at) NoCore e f h some =
    let is : Some t ≡ Some (Mark mark.OpenBracket at) = open_bracket_here (Some t) at h in
    record {
      part = tree.Declares [] tree.Unnamed (tree.AndArray tree.NoPart at []);
      more = Bare separator.CloseBracket ∷ [];
      valid = (written_close_bracket, tt);
      spells = λ g. record { within = (no_star, may_have_none naming (and_first (may_omit_name naming) true some), (tt, refl), tt); spelled = cc };
    }
declarator_with names naming t None None NoCore e f h some = absurd (true≢false (sym some ∙ and_none (may_omit_name naming)))

-- no star, no core and no bracket that may stand there
none_begins : (star core rest : Bool) → (star || (core || rest)) ≡ false → (star ≡ false) × (core ≡ false) × (rest ≡ false)
none_begins true core rest e = cc
none_begins false true rest e = cc
none_begins false false true e = cc
none_begins false false false e = (refl, refl, refl)

no_core : (c : CoreStart) → is_core c ≡ false → c ≡ NoCore
no_core (CoreName name) e = cc
no_core (CoreParen at) e = cc
no_core NoCore e = refl

unnamed_refused : (names : TypeNames) (inner : Inner) (may : Bool) (ts : List Symbol) → (may && is_some (open_bracket (first ts))) ≡ false → cond may (unnamed names inner []) refuse ts ≡ Stopped Syntax ts
unfolding unnamed
unnamed_refused names inner true ts e = rw e refl
unnamed_refused names inner false ts e = refl

pub declarator_refuses : (names : TypeNames) (d : ℕ) (naming : Naming) (ts : List Symbol) → begins_declarator names naming (first ts) ≡ false → (rules names d).declarator naming ts ≡ Stopped Syntax ts
unfolding rules declarator_layer with_core
declarator_refuses names zero naming ts none = rw none refl
declarator_refuses names (suc d) naming ts none =
    let parts = none_begins (is_some (star_sign (first ts))) (is_core (core_start names naming (first ts))) (may_omit_name naming && is_some (open_bracket (first ts))) none in
    ap (λ r. next r (λ stars. by_first (core_start names naming) (with_core names (rules names d) naming stars))) (loop_stops (λ _ other. is_some (star_sign other)) star_step [] ts parts.0)
    ∙ (ap (λ c. with_core names (rules names d) naming [] c ts) (no_core (core_start names naming (first ts)) parts.1) ∙ unnamed_refused names (rules names d) (may_omit_name naming) ts parts.2)

nothing_at_end : (names : TypeNames) (naming : Naming) → begins_declarator names naming None ≡ false
nothing_at_end names naming = and_none (may_omit_name naming)

keeps_declarator_zero : (names : TypeNames) (naming : Naming) (moves : Bool) (ts : List Symbol) → (moves ≡ true → begins_declarator names naming (first ts) ≡ true)
    → Rule IsWritten true moves (λ d'. (rules names d').declarator naming) 0 (SpellsDeclarator names naming) (λ x. declarator_height x ≤ 0) Any ts
unfolding rules
keeps_declarator_zero names naming moves ts begins =
    rule_shallow (begins_declarator names naming) (nothing_at_end names naming) begins (λ ts' some. rw some refl) (λ d' ts' none. declarator_refuses names d' naming ts' none)
    (some_declarator names naming) (λ t some. declarator_with names naming t (star_sign (Some t)) (open_bracket (Some t)) (core_start names naming (Some t)) refl refl refl some)

keeps_declarator_suc : (names : TypeNames) (d : ℕ) → InnerKeeps names d → (naming : Naming) (moves : Bool) (ts : List Symbol) → (moves ≡ true → begins_declarator names naming (first ts) ≡ true)
    → Rule IsWritten true moves (λ d'. (rules names d').declarator naming) (suc d) (SpellsDeclarator names naming) (λ x. declarator_height x ≤ suc d) Any ts
unfolding rules
keeps_declarator_suc names d inner naming moves ts begins = rule_deeper (keeps_declarator inner naming moves ts begins)

-- All four together.

pub inner_keeps : (names : TypeNames) (d : ℕ) → InnerKeeps names d
inner_keeps names zero = record {
  expr = keeps_expr_zero names;
  paren = keeps_paren_zero names;
  specifiers = keeps_specifiers_zero names;
  declarator = keeps_declarator_zero names;
}
inner_keeps names (suc d) = record {
  expr = keeps_expr_suc names d (inner_keeps names d);
  paren = keeps_paren_suc names d (inner_keeps names d);
  specifiers = keeps_specifiers_suc names d (inner_keeps names d);
  declarator = keeps_declarator_suc names d (inner_keeps names d);
}
