-- The rules for expressions at each number of nodes that is allowed.
use Rattle.std.proofs.Common.{◌≡◌, ℕ, zero, suc, ◌≤◌, Bool, true, false, Some, List, [], ◌∷◌, ◌++◌, refl, ap, arith}
use Rattle.cc_base.specs.declared.place.Place.{Place}
use Rattle.c_lexer.specs.declared.number.IntegerType.TheVariants.{Int}
use Rattle.c_lexer.specs.declared.punctuator.Punctuator.TheVariants as mark
use Rattle.parse_rules.specs.Parsers.{Stopped, Syntax, first}
use Rattle.parse_rules.specs.Grammars.{Language, Each, Any}
use Rattle.parse_rules.specs.Rules.{Rule}
use Rattle.parse_rules.proofs.Combinators.{rule_deeper, rule_shallow, rule_weaker}
use Rattle.c_tree.specs.declared.leaf.Separator.TheVariants as separator
use Rattle.c_tree.specs.declared.operator.Unary.TheVariants.{SizeOf}
use Rattle.c_tree.specs.Depth.{expr_height}
use Rattle.c_tree.specs.Grammar.{IsExpr, level}
use Rattle.c_tree.specs.Spelling.{expr_spelling}
use Rattle.c_tree.specs.Symbols.{Symbol, Integer, Mark, Bare}
use Rattle.c_tree.specs.Tree as tree
use Rattle.c_tree.specs.Words.{TypeNames}
use Rattle.c_parse_words.specs.Tests.{begins_expr, Start, StartName, StartInteger, StartCharacter, StartString, StartParen, StartPrefix, StartSizeOf, NoStart, start, is_start}
use Rattle.c_parse_words.specs.Written.{IsWritten}
use Rattle.c_parse_words.proofs.TokenLaws.{start_here, start_is}
use Rattle.c_parse_words.proofs.Written.{some_place, written_close_paren}
use Rattle.c_expr_parse.specs.ExprRules.{expr_layer, operand, operand_from, after_paren}
use Rattle.c_expr_parse.specs.Parts.{SpellsExpr}
use Rattle.c_expr_parse.specs.Rules.{rules}
use Rattle.c_expr_parse.proofs.ExprLaws.{zero_expr, written_zero, operand_low, keeps_after_paren}
use Rattle.c_expr_parse.proofs.Kept.{NoOperator, InnerKeeps}
use Rattle.c_expr_parse.proofs.OperatorLaws.{keeps_layer}

-- Each token that may begin an expression does.

-- an expression of a high level that begins with the token
pub record Begun (names : TypeNames) (t : Symbol) : Type 0 where
  pub e : tree.Expr
  pub more : List Symbol
  pub valid : Each IsWritten more
  pub within : (g : Language) → IsExpr g names e
  pub high : 14 ≤ level e
  pub spelled : t ∷ more ≡ expr_spelling e

begun_from : (names : TypeNames) (t : Symbol) (k : Start) → start names (Some t) ≡ k → is_start k ≡ true → Begun names t
begun_from names t (StartName name) here some =
    let is : Some t ≡ Some _ = start_here names (Some t) (StartName name) here in
    record { e = tree.Name name; more = []; valid = tt; within = λ g. start_is names (Some t) (StartName name) here; high = omega arith; spelled = cc }
begun_from names t (StartInteger type value place) here some =
    let is : Some t ≡ Some _ = start_here names (Some t) (StartInteger type value place) here in
    record { e = tree.Integer type value place; more = []; valid = tt; within = λ g. tt; high = omega arith; spelled = cc }
begun_from names t (StartCharacter value place) here some =
    let is : Some t ≡ Some _ = start_here names (Some t) (StartCharacter value place) here in
    record { e = tree.Character value place; more = []; valid = tt; within = λ g. tt; high = omega arith; spelled = cc }
begun_from names t (StartString piece) here some =
    let is : Some t ≡ Some _ = start_here names (Some t) (StartString piece) here in
    record { e = tree.String (piece ∷ []); more = []; valid = tt; within = λ g. omega arith; high = omega arith; spelled = cc }
begun_from names t (StartParen at) here some =
    let is : Some t ≡ Some _ = start_here names (Some t) (StartParen at) here in
    record { e = tree.Paren at zero_expr; more = Integer Int 0 some_place ∷ Bare separator.CloseParen ∷ []; valid = (written_zero, (written_close_paren, tt)); within = λ g. tt; high = omega arith; spelled = cc }
begun_from names t (StartPrefix op at) here some =
    let is : Some t ≡ Some _ = start_here names (Some t) (StartPrefix op at) here in
    record { e = tree.Prefix op at zero_expr; more = Integer Int 0 some_place ∷ []; valid = (written_zero, tt); within = λ g. (tt, omega (arith, operand_low op)); high = omega arith; spelled = cc }
begun_from names t (StartSizeOf at) here some =
    let is : Some t ≡ Some _ = start_here names (Some t) (StartSizeOf at) here in
    record { e = tree.Prefix SizeOf at zero_expr; more = Integer Int 0 some_place ∷ []; valid = (written_zero, tt); within = λ g. (tt, omega arith); high = omega arith; spelled = cc }
begun_from names t NoStart here some = cc

pub begun : (names : TypeNames) (t : Symbol) → begins_expr names (Some t) ≡ true → Begun names t
begun names t some = begun_from names t (start names (Some t)) refl some

-- Any other token is refused at once.

no_start : (k : Start) → is_start k ≡ false → k ≡ NoStart
no_start NoStart e = refl
no_start (StartName name) e = cc
no_start k e = cc

pub expr_refuses : (names : TypeNames) (d least : ℕ) (ts : List Symbol) → begins_expr names (first ts) ≡ false → (rules names d).expr least ts ≡ Stopped Syntax ts
unfolding rules expr_layer operand operand_from
expr_refuses names zero least ts none = rw none refl
expr_refuses names (suc d) least ts none = rw (no_start (start names (first ts)) none) refl

paren_refuses : (names : TypeNames) (d : ℕ) (at : Place) (ts : List Symbol) → begins_expr names (first ts) ≡ false → (rules names d).paren at ts ≡ Stopped Syntax ts
unfolding rules after_paren
paren_refuses names zero at ts none = rw none refl
paren_refuses names (suc d) at ts none = rw (expr_refuses names d 0 ts none) refl

-- Where no node is allowed.

pub keeps_expr_zero : (names : TypeNames) (least : ℕ) (moves : Bool) (ts : List Symbol) → least ≤ 14 → (moves ≡ true → begins_expr names (first ts) ≡ true)
    → Rule IsWritten true moves (λ d'. (rules names d').expr least) 0 (SpellsExpr names least) (λ e. expr_height e ≤ 0) (NoOperator least) ts
unfolding rules
keeps_expr_zero names least moves ts le begins =
    rule_shallow (begins_expr names) refl begins (λ ts' some. rw some refl) (λ d' ts' none. expr_refuses names d' least ts' none)
    (record { part = zero_expr; more = Integer Int 0 some_place ∷ []; valid = (written_zero, tt); spells = λ g. record { within = (tt, omega arith); spelled = refl } })
    (λ t some.
    let h = begun names t some in
    record { part = h.e; more = h.more; valid = h.valid; spells = λ g. record { within = (h.within g, omega (arith, h.high)); spelled = h.spelled } })

each_more : (s s' : List Symbol) → Each IsWritten s → Each IsWritten s' → Each IsWritten (s ++ s')
each_more [] s' v v' = v'
each_more (t ∷ s) s' v v' = (v.0, each_more s s' v.1 v')

pub keeps_paren_zero : (names : TypeNames) (at : Place) (ts : List Symbol)
    → Rule IsWritten true false (λ d'. (rules names d').paren at) 0 (λ g e s. SpellsExpr names 14 g e (Mark mark.OpenParen at ∷ s)) (λ e. expr_height e ≤ 0) Any ts
unfolding rules
keeps_paren_zero names at ts =
    rule_shallow (begins_expr names) refl (λ m. cc) (λ ts' some. rw some refl) (λ d' ts' none. paren_refuses names d' at ts' none)
    (record { part = tree.Paren at zero_expr; more = Integer Int 0 some_place ∷ Bare separator.CloseParen ∷ []; valid = (written_zero, (written_close_paren, tt)); spells = λ g. record { within = (tt, omega arith); spelled = refl } })
    (λ t some.
    let h = begun names t some in
    record {
      part = tree.Paren at h.e;
      more = h.more ++ Bare separator.CloseParen ∷ [];
      valid = each_more h.more (Bare separator.CloseParen ∷ []) h.valid (written_close_paren, tt);
      spells = λ g. record { within = (h.within g, omega arith); spelled = ap (λ x. Mark mark.OpenParen at ∷ (x ++ Bare separator.CloseParen ∷ [])) h.spelled };
    })

-- Where one node more is allowed than below.

pub keeps_expr_suc : (names : TypeNames) (d : ℕ) → InnerKeeps names d → (least : ℕ) (moves : Bool) (ts : List Symbol) → least ≤ 14 → (moves ≡ true → begins_expr names (first ts) ≡ true)
    → Rule IsWritten true moves (λ d'. (rules names d').expr least) (suc d) (SpellsExpr names least) (λ e. expr_height e ≤ suc d) (NoOperator least) ts
unfolding rules
keeps_expr_suc names d inner least moves ts le begins = rule_deeper (keeps_layer names d inner least moves ts le begins)

pub keeps_paren_suc : (names : TypeNames) (d : ℕ) → InnerKeeps names d → (at : Place) (ts : List Symbol)
    → Rule IsWritten true false (λ d'. (rules names d').paren at) (suc d) (λ g e s. SpellsExpr names 14 g e (Mark mark.OpenParen at ∷ s)) (λ e. expr_height e ≤ suc d) Any ts
unfolding rules
keeps_paren_suc names d inner at ts =
    rule_deeper (rule_weaker (λ g e s u. record { within = (u.within.0, omega (arith, u.within.1)); spelled = u.spelled }) (λ e low. low) (λ e rest _. tt) (keeps_after_paren names d inner at false ts (λ m. cc)))
