-- The spellings of expressions with operators between lead to them.
use Rattle.std.proofs.Common.{◌≡◌, ℕ, suc, ◌≤◌, nat_le, Bool, true, false, cond, ◌&&◌, ◌==◌, Option, Some, None, List, ◌∷◌, ◌++◌, refl, ◌∙◌, ap, append_assoc, arith}
use Rattle.std.proofs.lemmas.Bool.{le-leb, lt-leb, and_from, and_left, ne_eqb, eq-eqb}
use Rattle.cc_base.specs.declared.place.Place.{Place}
use Rattle.c_lexer.specs.declared.punctuator.Punctuator.TheVariants as mark
use Rattle.parse_rules.specs.Parsers.{first, next}
use Rattle.parse_rules.specs.Grammars.{Language}
use Rattle.parse_rules.proofs.Completeness.{equal, ◌▷◌, leads_next, leads_first, leads_take_above, leads_loop, leads_loop_stops}
use Rattle.c_tree.specs.declared.leaf.Separator.TheVariants as separator
use Rattle.c_tree.specs.declared.operator.Assignment.{Assignment}
use Rattle.c_tree.specs.declared.operator.Assignment.TheVariants as assignment
use Rattle.c_tree.specs.declared.operator.Binary.{Binary}
use Rattle.c_tree.specs.declared.operator.Binary.TheVariants as binary
use Rattle.c_tree.specs.Depth.{expr_height}
use Rattle.c_tree.specs.Grammar.{IsExpr, level}
use Rattle.c_tree.specs.Operators.{precedence, binary_mark, assignment_mark}
use Rattle.c_tree.specs.Spelling.{expr_spelling}
use Rattle.c_tree.specs.Symbols.{Symbol, Mark, Bare}
use Rattle.c_tree.specs.Tree as tree
use Rattle.c_tree.specs.Words.{TypeNames}
use Rattle.c_parse_words.specs.Levels.{question_after, assignment_after}
use Rattle.c_parse_words.specs.Tests.{question_mark, At, binary_operator, assignment_operator, binds, binds_at}
use Rattle.c_expr_parse.specs.ExprRules.{with_operator, infix_step, with_question, with_assignment, comma_step, expr_layer}
use Rattle.c_expr_parse.specs.Rules.{rules}
use Rattle.c_expr_parse.proofs.Complete.{EndsOperand, EndsExpr, assignment_at, InnerReads}
use Rattle.c_expr_parse.proofs.ExprLaws.{precedence_low, precedence_high}
use Rattle.c_expr_parse.proofs.ExprReads.{none_of, bare_expr, leads_before, commas, after_question, after_infix, no_assignment_after, Reading, reading_infix, reading_expr}
use Rattle.c_expr_parse.proofs.Kept.{InnerKeeps}
use Rattle.c_expr_parse.proofs.OperatorLaws.{infix_steps, comma_steps, none_bind}

-- Binary operators.

operator_told : (op : Binary) (at : Place) → binary_operator (Some (Mark (binary_mark op) at)) ≡ Some (At op at)
operator_told binary.Multiply at = refl
operator_told op at = refl

operator_ends : (op : Binary) (at : Place) → EndsOperand (Some (Mark (binary_mark op) at))
operator_ends binary.Multiply at = record { no_suffix = refl; no_piece = refl; no_brace = refl }
operator_ends op at = record { no_suffix = refl; no_piece = refl; no_brace = refl }

-- what ends an operand and is no operator ends a side of a binary operator
side_ends : (least : ℕ) (next : Option Symbol) → 3 ≤ least → EndsOperand next → binds least next ≡ false → EndsExpr least next
side_ends least next high ends none = record {
  operand = ends;
  no_operator = none;
  no_question = rw (lt-leb least 2 (omega arith)) refl;
  no_assignment = rw (lt-leb least 1 (omega arith)) refl;
  no_comma = and_left (least == 0) _ (ne_eqb least 0 (λ h. omega arith));
}

module _ (names : TypeNames) (d : ℕ) (keeps : InnerKeeps names d) (inner : InnerReads names d) (g : Language) where
  pub infix_reads : (op : Binary) (left : tree.Expr) (at : Place) (right : tree.Expr) → precedence op ≤ level left → Reading names d g left → IsExpr g names right → suc (precedence op) ≤ level right
      → Reading names d g (tree.Infix op left at right)
  unfolding infix_step with_operator
  infix_reads op left at right fits_left h w fits_right = reading_infix names d g (tree.Infix op left at right) (precedence_low op) (omega (arith, precedence_high op)) (λ least k rest fits low ends fit.
      let step = leads_first binary_operator (with_operator d (rules names d) left) (Mark (binary_mark op) at ∷ (expr_spelling right ++ rest)) (operator_told op at)
      (leads_next _ (leads_take_above d (expr_height left) (Mark (binary_mark op) at) (expr_spelling right ++ rest) (omega arith))
      (leads_next _ (inner.expr g (suc (precedence op)) right rest (omega (arith, precedence_high op)) w fits_right (omega arith) (side_ends (suc (precedence op)) (first rest) (omega (arith, precedence_low op)) ends fit)) (equal refl))) in
      rw (append_assoc (expr_spelling left) (Mark (binary_mark op) at ∷ expr_spelling right) rest)
      (h.as_infix least k (Mark (binary_mark op) at ∷ (expr_spelling right ++ rest)) (omega arith) (omega arith) (operator_ends op at) (ap (binds_at (suc (level left))) (operator_told op at) ∙ lt-leb (suc (level left)) (precedence op) (omega arith))
      ▷ leads_before k
      (leads_loop (infix_steps names d keeps least) left (Mark (binary_mark op) at ∷ (expr_spelling right ++ rest))
      (ap (binds_at (suc (level left))) (operator_told op at) ∙ lt-leb (suc (level left)) (precedence op) (omega arith))
      (ap (binds_at least) (operator_told op at) ∙ le-leb least (precedence op) (omega arith))
      step)))

-- Conditional expressions.

given : {A : Type 0} (b : Bool) (o : Option A) → b ≡ true → cond b o None ≡ o
given b o e = rw e refl

none_given : {A : Type 0} (b : Bool) (o : Option A) → b ≡ true → cond b o None ≡ None → o ≡ None
none_given true o e h = h
none_given false o e h = cc

question_flat : (a : List Symbol) (t : Symbol) (b : List Symbol) (u : Symbol) (c rest : List Symbol) → (a ++ t ∷ (b ++ u ∷ c)) ++ rest ≡ a ++ t ∷ (b ++ u ∷ (c ++ rest))
question_flat a t b u c rest = simp append_assoc

module _ (names : TypeNames) (d : ℕ) (inner : InnerReads names d) (g : Language) where
  pub conditional_reads : (test : tree.Expr) (at : Place) (then_ else_ : tree.Expr) → 3 ≤ level test → Reading names d g test → IsExpr g names then_ → IsExpr g names else_ → 2 ≤ level else_
      → Reading names d g (tree.Conditional test at then_ else_)
  unfolding expr_layer with_question with_assignment
  conditional_reads test at then_ else_ high h wt we fits = reading_expr names d g (tree.Conditional test at then_ else_) (omega arith) (λ least rest low_level low ends none no_question no_assignment.
      let le : nat_le least 2 ≡ true = le-leb least 2 low_level in
      let last : EndsExpr 2 (first rest) = record {
        operand = ends;
        no_operator = none_bind 2 least (omega arith) (omega arith) rest none;
        no_question = none_given (nat_le least 2) (question_mark (first rest)) le no_question;
        no_assignment = refl;
        no_comma = refl;
      } in
      rw (question_flat (expr_spelling test) (Mark mark.Question at) (expr_spelling then_) (Bare separator.Colon) (expr_spelling else_) rest)
      (h.as_infix least (after_infix names d least) (Mark mark.Question at ∷ (expr_spelling then_ ++ Bare separator.Colon ∷ (expr_spelling else_ ++ rest))) (omega arith) (omega arith) (record { no_suffix = refl; no_piece = refl; no_brace = refl }) refl
      ▷ leads_next (after_infix names d least) (leads_loop_stops (λ _. binds least) (infix_step d (rules names d)) test (Mark mark.Question at ∷ (expr_spelling then_ ++ Bare separator.Colon ∷ (expr_spelling else_ ++ rest))) refl)
      (leads_next (after_question names d least)
      (leads_first (question_after least) (with_question d (rules names d) test) (Mark mark.Question at ∷ (expr_spelling then_ ++ Bare separator.Colon ∷ (expr_spelling else_ ++ rest))) (given (nat_le least 2) (Some at) le)
      (leads_next _ (leads_take_above d (expr_height test) (Mark mark.Question at) (expr_spelling then_ ++ Bare separator.Colon ∷ (expr_spelling else_ ++ rest)) (omega arith))
      (leads_next _ (inner.expr g 0 then_ (Bare separator.Colon ∷ (expr_spelling else_ ++ rest)) (omega arith) wt (omega arith) (omega arith) (bare_expr 0 separator.Colon refl))
      (leads_next _ (inner.expr g 2 else_ rest (omega arith) we fits (omega arith) last) (equal refl)))))
      (leads_next (commas names d least) (leads_first (assignment_after least (tree.Conditional test at then_ else_)) (with_assignment d (rules names d) (tree.Conditional test at then_ else_)) rest (no_assignment_after least (tree.Conditional test at then_ else_) (first rest) no_assignment) (equal refl)) (equal refl)))))

-- Assignments.

assignment_told : (op : Assignment) (at : Place) → assignment_operator (Some (Mark (assignment_mark op) at)) ≡ Some (At op at)
assignment_told assignment.Assign at = refl
assignment_told op at = refl

assignment_ends : (op : Assignment) (at : Place) → EndsOperand (Some (Mark (assignment_mark op) at))
assignment_ends assignment.Assign at = record { no_suffix = refl; no_piece = refl; no_brace = refl }
assignment_ends op at = record { no_suffix = refl; no_piece = refl; no_brace = refl }

assignment_is_no_binary : (op : Assignment) (at : Place) → binary_operator (Some (Mark (assignment_mark op) at)) ≡ None
assignment_is_no_binary assignment.Assign at = refl
assignment_is_no_binary op at = refl

assignment_is_no_question : (op : Assignment) (at : Place) → question_mark (Some (Mark (assignment_mark op) at)) ≡ None
assignment_is_no_question assignment.Assign at = refl
assignment_is_no_question op at = refl

module _ (names : TypeNames) (d : ℕ) (inner : InnerReads names d) (g : Language) where
  -- what ends an expression that may have an assignment ends its right side
  right_ends : (least : ℕ) (rest : List Symbol) → least ≤ 1 → EndsOperand (first rest) → binds least (first rest) ≡ false → question_after least (first rest) ≡ None → assignment_at least (first rest) ≡ None → EndsExpr 1 (first rest)
  right_ends least rest le ends none no_question no_assignment = record {
    operand = ends;
    no_operator = none_bind 1 least (omega arith) (omega arith) rest none;
    no_question = none_given (nat_le least 2) (question_mark (first rest)) (le-leb least 2 (omega arith)) no_question;
    no_assignment = none_given (nat_le least 1) (assignment_operator (first rest)) (le-leb least 1 le) no_assignment;
    no_comma = refl;
  }

  pub assign_reads : (op : Assignment) (left : tree.Expr) (at : Place) (right : tree.Expr) → 14 ≤ level left → Reading names d g left → IsExpr g names right → 1 ≤ level right
      → Reading names d g (tree.Assign op left at right)
  unfolding expr_layer with_question with_assignment
  assign_reads op left at right high h w fits = reading_expr names d g (tree.Assign op left at right) (omega arith) (λ least rest low_level low ends none no_question no_assignment.
      rw (append_assoc (expr_spelling left) (Mark (assignment_mark op) at ∷ expr_spelling right) rest)
      (h.as_infix least (after_infix names d least) (Mark (assignment_mark op) at ∷ (expr_spelling right ++ rest)) (omega arith) (omega arith) (assignment_ends op at) (ap (binds_at (suc (level left))) (assignment_is_no_binary op at))
      ▷ leads_next (after_infix names d least) (leads_loop_stops (λ _. binds least) (infix_step d (rules names d)) left (Mark (assignment_mark op) at ∷ (expr_spelling right ++ rest)) (ap (binds_at least) (assignment_is_no_binary op at)))
      (leads_next (after_question names d least)
      (leads_first (question_after least) (with_question d (rules names d) left) (Mark (assignment_mark op) at ∷ (expr_spelling right ++ rest)) (none_of (nat_le least 2) (question_mark (Some (Mark (assignment_mark op) at))) (assignment_is_no_question op at)) (equal refl))
      (leads_next (commas names d least)
      (leads_first (assignment_after least left) (with_assignment d (rules names d) left) (Mark (assignment_mark op) at ∷ (expr_spelling right ++ rest))
      (given (nat_le least 1 && nat_le 14 (level left)) (assignment_operator (Some (Mark (assignment_mark op) at))) (and_from (nat_le least 1) (nat_le 14 (level left)) (le-leb least 1 (omega arith)) (le-leb 14 (level left) (omega arith))) ∙ assignment_told op at)
      (leads_next _ (leads_take_above d (expr_height left) (Mark (assignment_mark op) at) (expr_spelling right ++ rest) (omega arith))
      (leads_next _ (inner.expr g 1 right rest (omega arith) w fits (omega arith) (right_ends least rest (omega arith) ends none no_question no_assignment)) (equal refl))))
      (equal refl)))))

  -- Commas.

  pub comma_reads : InnerKeeps names d → (left right : tree.Expr) → Reading names d g left → IsExpr g names right → 1 ≤ level right → Reading names d g (tree.Comma left right)
  unfolding comma_step
  comma_reads keeps left right h w fits = reading_expr names d g (tree.Comma left right) (omega arith) (λ least rest low_level low ends none no_question no_assignment.
      rw (append_assoc (expr_spelling left) (Bare separator.Comma ∷ expr_spelling right) rest)
      (h.as_expr least (Bare separator.Comma ∷ (expr_spelling right ++ rest)) (omega arith) (omega arith) (record { no_suffix = refl; no_piece = refl; no_brace = refl }) refl (none_of (nat_le least 2) None refl) (none_of (nat_le least 1) None refl)
      ▷ leads_loop (comma_steps names d keeps least) left (Bare separator.Comma ∷ (expr_spelling right ++ rest)) refl (and_from (least == 0) true (eq-eqb least 0 (omega arith)) refl)
      (leads_next _ (leads_take_above d (expr_height left) (Bare separator.Comma) (expr_spelling right ++ rest) (omega arith))
      (leads_next _ (inner.expr g 1 right rest (omega arith) w fits (omega arith) (right_ends least rest (omega arith) ends none no_question no_assignment)) (equal refl)))))
