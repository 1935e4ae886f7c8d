-- What the rules for operators between expressions keep, and the rule for an expression.
use Rattle.std.proofs.Common.{◌≡◌, ℕ, suc, ◌≤◌, ◌<◌, max, nat_le, Bool, true, false, cond, ◌&&◌, ◌==◌, Option, Some, None, List, [], ◌++◌, refl, sym, ◌∙◌, append_assoc, append-nil, arith}
use Rattle.std.proofs.lemmas.Bool.{leb-true, leb-false, le-leb, eqb-true, and_parts, and_right}
use Rattle.cc_base.specs.declared.place.Place.{Place}
use Rattle.c_lexer.specs.declared.punctuator.Punctuator.TheVariants as mark
use Rattle.parse_rules.specs.Parsers.{first, by_first}
use Rattle.parse_rules.specs.Rules.{Rule}
use Rattle.parse_rules.proofs.Combinators.{rule_pure, rule_expect_the, rule_take_above_the, rule_bind, rule_seq, rule_bind_ends, rule_told, rule_told_end, rule_weaker}
use Rattle.parse_rules.proofs.Loops.{Steps, rule_loop}
use Rattle.c_tree.specs.declared.leaf.Separator.TheVariants as separator
use Rattle.c_tree.specs.declared.operator.Assignment.{Assignment}
use Rattle.c_tree.specs.declared.operator.Binary.{Binary}
use Rattle.c_tree.specs.Depth.{expr_height}
use Rattle.c_tree.specs.Grammar.{level}
use Rattle.c_tree.specs.Operators.{precedence, binary_mark, assignment_mark}
use Rattle.c_tree.specs.Symbols.{Symbol, Mark, Bare}
use Rattle.c_tree.specs.Tree as tree
use Rattle.c_tree.specs.Words.{TypeNames}
use Rattle.c_parse_words.specs.Levels.{question_after, assignment_after}
use Rattle.c_parse_words.specs.Tests.{is_comma, is_colon, question_mark, begins_expr, binds, binds_at, binary_operator, assignment_operator, Operator, At}
use Rattle.c_parse_words.specs.Written.{IsWritten}
use Rattle.c_parse_words.proofs.TokenLaws.{binary_operator_here, assignment_operator_here, question_mark_here, comma_here, colon_only}
use Rattle.c_parse_words.proofs.Written.{written_colon}
use Rattle.c_expr_parse.specs.ExprRules.{with_operator, infix_step, with_question, with_assignment, comma_step, expr_layer}
use Rattle.c_expr_parse.specs.Parts.{SpellsExpr}
use Rattle.c_expr_parse.specs.Rules.{rules}
use Rattle.c_expr_parse.proofs.ExprLaws.{deeper, respell, Fits, precedence_high, precedence_low, keeps_operand}
use Rattle.c_expr_parse.proofs.Kept.{NoOperator, InnerKeeps}

-- Binary operators.

keeps_operator : (names : TypeNames) (d : ℕ) → InnerKeeps names d → (least : ℕ) (e : tree.Expr) (s rest : List Symbol) (o : Option (Operator Binary)) → binary_operator (first rest) ≡ o
    → binds_at least o ≡ true → binds_at (suc (level e)) o ≡ false
    → Rule IsWritten true true (λ d'. infix_step d' (rules names d') e) d (λ g b s'. SpellsExpr names (max least 3) g e s → SpellsExpr names (max least 3) g b (s ++ s'))
    (λ b. expr_height e ≤ suc d → expr_height b ≤ suc d) Fits rest
unfolding infix_step with_operator
keeps_operator names d inner least e s rest (Some (At op at)) here goes fits =
    let high : least ≤ precedence op = leb-true least (precedence op) goes in
    let low : precedence op < suc (level e) = leb-false (suc (level e)) (precedence op) fits in
    rule_told binary_operator (λ d'. with_operator d' (rules names d') e) here
    (rule_seq (rule_take_above_the (Mark (binary_mark op) at) (binary_operator_here (first rest) op at here)) (λ t s1 r1.
    rule_bind_ends (inner.expr (suc (precedence op)) false r1 (omega (arith, precedence_high op)) (λ m. cc)) (λ b. refl) (λ b s2 r2 follows.
    rule_pure (λ g u is v. record { within = ((v.within.0, omega arith, u.within.0, u.within.1), omega (arith, precedence_low op)); spelled = rw (v.spelled, is, u.spelled, append-nil) refl })
    (λ low above _. omega arith) follows)))
keeps_operator names d inner least e s rest None here goes fits = cc

pub infix_steps : (names : TypeNames) (d : ℕ) → InnerKeeps names d → (least : ℕ)
    → Steps IsWritten true d (λ _. binds least) (λ d' e. infix_step d' (rules names d') e) (SpellsExpr names (max least 3)) (λ e. expr_height e ≤ suc d) Fits
infix_steps names d inner least = record {
  never = λ a. refl;
  at_end = λ a. refl;
  steps = λ a s rest fits goes. keeps_operator names d inner least a s rest (binary_operator (first rest)) refl goes fits;
}

-- Below all binary operators.

all_bind : (low low' : ℕ) → low ≤ 3 → low' ≤ 3 → (o : Option (Operator Binary)) → binds_at low o ≡ binds_at low' o
all_bind low low' le le' None = refl
all_bind low low' le le' (Some (At op at)) = le-leb low (precedence op) (omega (arith, precedence_low op)) ∙ sym (le-leb low' (precedence op) (omega (arith, precedence_low op)))

pub none_bind : (low low' : ℕ) → low ≤ 3 → low' ≤ 3 → (rest : List Symbol) → binds low' (first rest) ≡ false → binds low (first rest) ≡ false
none_bind low low' le le' rest e = all_bind low low' le le' (binary_operator (first rest)) ∙ e

-- Conditional expressions.

none_or_none : {A : Type 0} (b : Bool) → ◌≡◌ {A = Option A} (cond b None None) None
none_or_none true = refl
none_or_none false = refl

no_question : (least : ℕ) → question_after least None ≡ None
no_question least = none_or_none (nat_le least 2)

by_level : {A : Type 0} (b : Bool) (o : Option A) (a : A) → cond b o None ≡ Some a → (b ≡ true) × (o ≡ Some a)
by_level true o a e = (refl, e)
by_level false o a e = cc

keeps_question : (names : TypeNames) (d : ℕ) → InnerKeeps names d → (least : ℕ) (e : tree.Expr) (s ts : List Symbol) (o : Option Place) → question_after least (first ts) ≡ o → NoOperator least e ts
    → Rule IsWritten true false (λ d'. by_first (question_after least) (with_question d' (rules names d') e)) d (λ g b s'. SpellsExpr names (max least 3) g e s → SpellsExpr names least g b (s ++ s'))
    (λ b. expr_height e ≤ suc d → expr_height b ≤ suc d) (NoOperator least) ts
unfolding with_question
keeps_question names d inner least e s ts (Some at) here follows =
    let told = by_level (nat_le least 2) (question_mark (first ts)) at here in
    let low : least ≤ 2 = leb-true least 2 told.0 in
    rule_told (question_after least) (λ d'. with_question d' (rules names d') e) here
    (rule_seq (rule_take_above_the (Mark mark.Question at) (question_mark_here (first ts) at told.1)) (λ t s1 r1.
    rule_bind (deeper names d inner false 0 r1 (omega arith) (λ m. cc)) (λ m s2 r2.
    rule_seq (rule_expect_the is_colon (Bare separator.Colon) written_colon refl refl colon_only) (λ c s3 r3.
    rule_bind_ends (inner.expr 2 false r3 (omega arith) (λ m. cc)) (λ b. refl) (λ b s4 r4 none.
    rule_pure (λ g w is u opens v. record { within = ((v.within.0, omega arith, u.within.0, w.within.0, w.within.1), omega arith); spelled = rw (v.spelled, opens, u.spelled, is, w.spelled, append-nil) refl })
    (λ low_b _ low_m above _. omega arith) (none_bind least 2 (omega arith) (omega arith) r4 none))))))
keeps_question names d inner least e s ts None here follows =
    rule_told_end (question_after least) (λ d'. with_question d' (rules names d') e) (here ∙ sym (no_question least))
    (rw (no_question least) (rule_pure (λ g u. respell names g least (max least 3) e s (s ++ []) (omega arith) (append-nil s) u) (λ low. low) follows))

-- Assignments.

no_assignment : (least : ℕ) (e : tree.Expr) → assignment_after least e None ≡ None
no_assignment least e = none_or_none (nat_le least 1 && nat_le 14 (level e))

keeps_assignment : (names : TypeNames) (d : ℕ) → InnerKeeps names d → (least : ℕ) (e : tree.Expr) (s ts : List Symbol) (o : Option (Operator Assignment)) → assignment_after least e (first ts) ≡ o → NoOperator least e ts
    → Rule IsWritten true false (λ d'. by_first (assignment_after least e) (with_assignment d' (rules names d') e)) d (λ g b s'. SpellsExpr names least g e s → SpellsExpr names least g b (s ++ s'))
    (λ b. expr_height e ≤ suc d → expr_height b ≤ suc d) (NoOperator least) ts
unfolding with_assignment
keeps_assignment names d inner least e s ts (Some (At op at)) here follows =
    let told = by_level (nat_le least 1 && nat_le 14 (level e)) (assignment_operator (first ts)) (At op at) here in
    let levels = and_parts (nat_le least 1) (nat_le 14 (level e)) told.0 in
    let low : least ≤ 1 = leb-true least 1 levels.0 in
    let unary : 14 ≤ level e = leb-true 14 (level e) levels.1 in
    rule_told (assignment_after least e) (λ d'. with_assignment d' (rules names d') e) here
    (rule_seq (rule_take_above_the (Mark (assignment_mark op) at) (assignment_operator_here (first ts) op at told.1)) (λ t s1 r1.
    rule_bind_ends (inner.expr 1 false r1 (omega arith) (λ m. cc)) (λ b. refl) (λ b s2 r2 none.
    rule_pure (λ g u is v. record { within = ((v.within.0, unary, u.within.0, u.within.1), omega arith); spelled = rw (v.spelled, is, u.spelled, append-nil) refl })
    (λ low_b above _. omega arith) (none_bind least 1 (omega arith) (omega arith) r2 none))))
keeps_assignment names d inner least e s ts None here follows =
    rule_told_end (assignment_after least e) (λ d'. with_assignment d' (rules names d') e) (here ∙ sym (no_assignment least e))
    (rw (no_assignment least e) (rule_pure (λ g u. respell names g least least e s (s ++ []) (omega arith) (append-nil s) u) (λ low. low) follows))

-- Commas.

pub comma_steps : (names : TypeNames) (d : ℕ) → InnerKeeps names d → (least : ℕ)
    → Steps IsWritten true d (λ _ next. least == 0 && is_comma next) (λ d' e. comma_step d' (rules names d') e) (SpellsExpr names least) (λ e. expr_height e ≤ suc d) (NoOperator least)
unfolding comma_step
comma_steps names d inner least = record {
  never = λ a. and_right (least == 0) false refl;
  at_end = λ a. refl;
  steps = λ a s rest _ goes.
      let parts = and_parts (least == 0) (is_comma (first rest)) goes in
      let low : least ≡ 0 = eqb-true least 0 parts.0 in
      rule_seq (rule_take_above_the (Bare separator.Comma) (comma_here (first rest) parts.1)) (λ t s1 r1.
      rule_bind_ends (inner.expr 1 false r1 (omega arith) (λ m. cc)) (λ b. refl) (λ b s2 r2 none.
      rule_pure (λ g u is v. record { within = ((v.within.0, u.within.0, u.within.1), omega arith); spelled = rw (v.spelled, is, u.spelled, append-nil) refl })
      (λ low_b above _. omega arith) (none_bind least 1 (omega arith) (omega arith) r2 none)));
}

-- The rule for an expression.

pub keeps_layer : (names : TypeNames) (d : ℕ) → InnerKeeps names d → (least : ℕ) (moves : Bool) (ts : List Symbol) → least ≤ 14 → (moves ≡ true → begins_expr names (first ts) ≡ true)
    → Rule IsWritten true moves (λ d'. expr_layer names d' (rules names d') least) d (SpellsExpr names least) (λ e. expr_height e ≤ suc d) (NoOperator least) ts
unfolding expr_layer
keeps_layer names d inner least moves ts le begins =
    rule_bind_ends (keeps_operand names d inner least moves ts le begins) (λ a. refl) (λ a s1 r1 fits.
    rule_bind_ends
    (rule_weaker (λ g b s h. h) (λ b low. low) (λ b r x. x.1)
    (rule_loop (infix_steps names d inner least) a s1 (λ g u. respell names g (max least 3) (max least 13) a s1 s1 (omega arith) refl u) (λ low. low) fits))
    (λ b. refl) (λ b s2 r2 none.
    rule_bind_ends (keeps_question names d inner least b (s1 ++ s2) r2 (question_after least (first r2)) refl none) (λ c. refl) (λ c s3 r3 none'.
    rule_bind_ends (keeps_assignment names d inner least c ((s1 ++ s2) ++ s3) r3 (assignment_after least c (first r3)) refl none') (λ e. refl) (λ e s4 r4 none''.
    rule_weaker
    (λ g f s5 h assigned asked infixed first_. respell names g least least f ((((s1 ++ s2) ++ s3) ++ s4) ++ s5) (s1 ++ (s2 ++ (s3 ++ (s4 ++ s5)))) (omega arith) (simp append_assoc) (h (assigned (asked (infixed first_)))))
    (λ f h low4 low3 low2 low1. h (low4 (low3 (low2 low1)))) (λ f r x. x.0)
    (rule_loop (comma_steps names d inner least) e (((s1 ++ s2) ++ s3) ++ s4) (λ g u. u) (λ low. low) none'')))))
