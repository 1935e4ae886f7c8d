-- The rules for so many nodes, by whether any is allowed.
use Rattle.std.proofs.Common.{◌≡◌, ℕ, suc, ◌-◌, Bool, true, false, cond, Option, List, Result, refl, sym, ap, ◌∙◌, subst, arith}
use Rattle.cc_base.specs.declared.place.Place.{Place}
use Rattle.parse_rules.specs.Parsers.{Answer, Stopped, Deep, Syntax, first, too_deep}
use Rattle.c_tree.specs.Grammar.{Naming}
use Rattle.c_tree.specs.Symbols.{Symbol}
use Rattle.c_tree.specs.Tree as tree
use Rattle.c_tree.specs.Words.{TypeNames, Scope}
use Rattle.c_parse_words.specs.declared.stop.Stop.{Stop}
use Rattle.c_parse_words.specs.declared.stop.Stop.TheVariants as stop
use Rattle.c_parse_words.specs.Seen.{Reads, reason_of}
use Rattle.c_parse_words.specs.Tests.{begins_expr, begins_specifier, begins_declarator}
use Rattle.c_expr_parse.specs.DeclaratorRules.{declarator_layer}
use Rattle.c_expr_parse.specs.ExprRules.{expr_layer, after_paren}
use Rattle.c_expr_parse.specs.Rules.{rules}
use Rattle.c_expr_parse.specs.TypeRules.{specifiers_layer}

one_less : (depth : ℕ) → (depth ≡ 0 → ⊥) → depth ≡ suc (depth - 1)
one_less depth some = omega arith

told_why : {A : Type 0} (begins : Bool) (ts : List Symbol) → ◌≡◌ {A = Answer Symbol A} (cond begins (Stopped Deep ts) (Stopped Syntax ts)) (Stopped (reason_of (cond begins stop.Deep stop.Syntax)) ts)
told_why true ts = refl
told_why false ts = refl

-- no node is allowed
pub none_allowed : {A : Type 0} (test : Option Symbol → Bool) (ts : List Symbol) (begins : Bool) (why : Stop)
    → why ≡ cond begins stop.Deep stop.Syntax → begins ≡ test (first ts) → ◌≡◌ {A = Answer Symbol A} (too_deep test ts) (Stopped (reason_of why) ts)
none_allowed test ts begins why told said = told_why (test (first ts)) ts ∙ ap (λ w. Stopped (reason_of w) ts) (sym (told ∙ ap (λ b. cond b stop.Deep stop.Syntax) said))

module _ (names : TypeNames) (depth : ℕ) where
  module _ (none : depth ≡ 0) (ts : List Symbol) (begins : Bool) (why : Stop) (told : why ≡ cond begins stop.Deep stop.Syntax) where
    pub no_expr : (least : ℕ) → begins ≡ begins_expr names (first ts) → (rules names depth).expr least ts ≡ Stopped (reason_of why) ts
    unfolding rules
    no_expr least said = ap (λ n. (rules names n).expr least ts) none ∙ none_allowed (begins_expr names) ts begins why told said

    pub no_paren : (at : Place) → begins ≡ begins_expr names (first ts) → (rules names depth).paren at ts ≡ Stopped (reason_of why) ts
    unfolding rules
    no_paren at said = ap (λ n. (rules names n).paren at ts) none ∙ none_allowed (begins_expr names) ts begins why told said

    pub no_specifiers : (scope : Scope) → begins ≡ begins_specifier names scope (first ts) → (rules names depth).specifiers scope ts ≡ Stopped (reason_of why) ts
    unfolding rules
    no_specifiers scope said = ap (λ n. (rules names n).specifiers scope ts) none ∙ none_allowed (begins_specifier names scope) ts begins why told said

    pub no_declarator : (naming : Naming) → begins ≡ begins_declarator names naming (first ts) → (rules names depth).declarator naming ts ≡ Stopped (reason_of why) ts
    unfolding rules
    no_declarator naming said = ap (λ n. (rules names n).declarator naming ts) none ∙ none_allowed (begins_declarator names naming) ts begins why told said

  -- a node is allowed
  module _ {B : Type 0} (some : depth ≡ 0 → ⊥) (ts : List Symbol) (r : Result B Stop) (left : List Symbol) where
    pub some_expr : (view : B → tree.Expr) (least : ℕ) → Reads view (expr_layer names (depth - 1) (rules names (depth - 1)) least ts) r left → Reads view ((rules names depth).expr least ts) r left
    unfolding rules
    some_expr view least h = subst (λ n. Reads view ((rules names n).expr least ts) r left) (sym (one_less depth some)) h

    pub some_paren : (view : B → tree.Expr) (at : Place) → Reads view (after_paren names (depth - 1) (rules names (depth - 1)) at ts) r left → Reads view ((rules names depth).paren at ts) r left
    unfolding rules
    some_paren view at h = subst (λ n. Reads view ((rules names n).paren at ts) r left) (sym (one_less depth some)) h

    pub some_specifiers : (view : B → tree.Specifiers) (scope : Scope) → Reads view (specifiers_layer names (rules names (depth - 1)) scope ts) r left → Reads view ((rules names depth).specifiers scope ts) r left
    unfolding rules
    some_specifiers view scope h = subst (λ n. Reads view ((rules names n).specifiers scope ts) r left) (sym (one_less depth some)) h

    pub some_declarator : (view : B → tree.Declarator) (naming : Naming) → Reads view (declarator_layer names (rules names (depth - 1)) naming ts) r left → Reads view ((rules names depth).declarator naming ts) r left
    unfolding rules
    some_declarator view naming h = subst (λ n. Reads view ((rules names n).declarator naming ts) r left) (sym (one_less depth some)) h
