-- Initialisers, by whether a node is allowed and whether a brace comes.
use Rattle.std.proofs.Common.{◌≡◌, ℕ, suc, ◌-◌, ◌<◌, Bool, cond, Some, None, List, refl, ap, ◌∙◌, arith}
use Rattle.cc_base.specs.declared.place.Place.{Place}
use Rattle.parse_rules.specs.Parsers.{Stopped, first, next, skip}
use Rattle.c_tree.specs.Symbols.{Symbol}
use Rattle.c_tree.specs.Words.{TypeNames}
use Rattle.c_parse_words.specs.Seen.{reason_of}
use Rattle.c_parse_words.specs.Tests.{open_brace, begins_initialiser}
use Rattle.c_parse_words.specs.declared.stop.Stop.{Stop}
use Rattle.c_parse_words.specs.declared.stop.Stop.TheVariants as stop
use Rattle.c_expr_parse.specs.Rules.{rules, initialiser, initialiser_from, initialiser_list, value}
use Rattle.c_expr_parse.proofs.Layers.{none_allowed}

pub no_initialiser : (names : TypeNames) (depth : ℕ) (ts : List Symbol) (begins : Bool) (why : Stop) → depth ≡ 0 → begins ≡ begins_initialiser names (first ts) → why ≡ cond begins stop.Deep stop.Syntax
    → initialiser names depth ts ≡ Stopped (reason_of why) ts
unfolding initialiser
no_initialiser names depth ts begins why none said told = ap (λ n. initialiser names n ts) none ∙ none_allowed (begins_initialiser names) ts begins why told said

value_at : (names : TypeNames) (depth d : ℕ) (ts : List Symbol) → depth ≡ suc d → open_brace (first ts) ≡ None → initialiser names depth ts ≡ value (rules names depth) ts
unfolding initialiser initialiser_from
value_at names depth d ts one e = rw (one, e) refl

pub value_comes : (names : TypeNames) (depth : ℕ) (ts : List Symbol) → 0 < depth → open_brace (first ts) ≡ None → initialiser names depth ts ≡ value (rules names depth) ts
value_comes names depth ts l e = value_at names depth (depth - 1) ts (omega arith) e

list_at : (names : TypeNames) (depth d : ℕ) (ts : List Symbol) (brace : Place) → depth ≡ suc d → open_brace (first ts) ≡ Some brace
    → initialiser names depth ts ≡ next (skip ts) (λ _. initialiser_list names (initialiser names d) brace)
unfolding initialiser initialiser_from
list_at names depth d ts brace one e = rw (one, e) refl

pub list_comes : (names : TypeNames) (depth : ℕ) (ts : List Symbol) (brace : Place) → 0 < depth → open_brace (first ts) ≡ Some brace
    → initialiser names depth ts ≡ next (skip ts) (λ _. initialiser_list names (initialiser names (depth - 1)) brace)
list_comes names depth ts brace l e = list_at names depth (depth - 1) ts brace (omega arith) e
