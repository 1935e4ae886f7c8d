-- The spelling of an expression leads to it.
use Rattle.std.proofs.Common.{◌≡◌, ℕ, suc, ◌≤◌, ◌<◌, max, nat_le, Bool, true, false, cond, ◌&&◌, ◌==◌, Option, Some, None, is_some, List, ◌∷◌, ◌++◌, refl, ap, append_assoc, arith}
use Rattle.std.proofs.lemmas.Bool.{lt-leb, leb-false, and_right}
use Rattle.parse_rules.specs.Parsers.{Answer, Read, Parser, first, next, skip, by_first, loop, ◌>>=◌, ◌>>◌}
use Rattle.parse_rules.specs.Grammars.{Language}
use Rattle.parse_rules.proofs.Completeness.{LeadsTo, equal, breaks, ◌▷◌, leads_next, leads_passes, leads_first, leads_loop, leads_loop_stops}
use Rattle.c_tree.specs.declared.leaf.Separator.{Separator}
use Rattle.c_tree.specs.declared.leaf.Separator.TheVariants as separator
use Rattle.c_tree.specs.declared.operator.Binary.{Binary}
use Rattle.c_tree.specs.Depth.{expr_height, arguments_height}
use Rattle.c_tree.specs.Grammar.{IsExpr, AreArguments, level, is_no_argument}
use Rattle.c_tree.specs.Operators.{precedence}
use Rattle.c_tree.specs.Spelling.{expr_spelling, arguments_spelling, before_argument}
use Rattle.c_tree.specs.Symbols.{Symbol, Bare}
use Rattle.c_tree.specs.Tree as tree
use Rattle.c_tree.specs.Words.{TypeNames}
use Rattle.c_parse_words.specs.Levels.{question_after, assignment_after}
use Rattle.c_parse_words.specs.Tests.{Operator, At, is_comma, binds, binds_at, binary_operator, assignment_operator, has_suffix, string_piece, begins_expr}
use Rattle.c_parse_words.proofs.Starts.{expr_starts}
use Rattle.c_expr_parse.specs.ExprRules.{next_argument, arguments, postfix_step, postfix, operand, infix_step, with_question, with_assignment, comma_step, expr_layer}
use Rattle.c_expr_parse.specs.Rules.{rules}
use Rattle.c_expr_parse.proofs.Complete.{EndsOperand, EndsExpr, assignment_at, InnerReads}
use Rattle.c_expr_parse.proofs.ExprLaws.{Fits, argument_steps, before_some}
use Rattle.c_expr_parse.proofs.Kept.{InnerKeeps}

-- Next tokens that go on with nothing.

pub none_of : {A : Type 0} (b : Bool) (o : Option A) → o ≡ None → cond b o None ≡ None
none_of true o e = e
none_of false o e = refl

pub bare_operand : (b : Separator) → EndsOperand (Some (Bare b))
bare_operand b = record { no_suffix = refl; no_piece = refl; no_brace = refl }

-- what closes or separates ends an expression, but a comma one with commas
pub bare_expr : (least : ℕ) (b : Separator) → (least == 0 && is_comma (Some (Bare b))) ≡ false → EndsExpr least (Some (Bare b))
bare_expr least b comma = record {
  operand = bare_operand b;
  no_operator = refl;
  no_question = none_of (nat_le least 2) None refl;
  no_assignment = none_of (nat_le least 1) None refl;
  no_comma = comma;
}

pub end_expr : (least : ℕ) → EndsExpr least None
end_expr least = record {
  operand = record { no_suffix = refl; no_piece = refl; no_brace = refl };
  no_operator = refl;
  no_question = none_of (nat_le least 2) None refl;
  no_assignment = none_of (nat_le least 1) None refl;
  no_comma = and_right (least == 0) false refl;
}

-- one parser leads to another, so they do before a third
pub leads_before : {T A B : Type 0} {g : Language} {r q : Answer T A} (f : A → Parser T B) → LeadsTo g r q → LeadsTo g (next r f) (next q f)
leads_before f (equal e) = equal (ap (λ x. next x f) e)
leads_before f (breaks w rest e) = breaks w rest (ap (λ x. next x f) e)

-- Arguments.

abbrev pub Args : TypeNames → ℕ → tree.Arguments → List Symbol → Answer Symbol tree.Arguments
Args names d x rest = loop (λ _. is_comma) (λ before. skip >> next_argument (rules names d) before) x rest

pub next_argument_reads : (names : TypeNames) (d : ℕ) → InnerReads names d → (g : Language) (before : tree.Arguments) (e : tree.Expr) (rest : List Symbol) → IsExpr g names e → 1 ≤ level e → expr_height e ≤ d → EndsExpr 1 (first rest)
    → LeadsTo g (next_argument (rules names d) before (expr_spelling e ++ rest)) (Read (tree.AndArgument before e) rest)
unfolding next_argument
next_argument_reads names d inner g before e rest w fits low ends = leads_next _ (inner.expr g 1 e rest (omega arith) w fits low ends) (equal refl)

-- with one argument more
pub arguments_flat : (before : tree.Arguments) (s rest : List Symbol) → is_no_argument before ≡ false
    → (before_argument before ++ s) ++ rest ≡ arguments_spelling before ++ Bare separator.Comma ∷ (s ++ rest)
arguments_flat before s rest some = rw (before_some before some) (simp append_assoc)

pub arguments_lead : (names : TypeNames) (d : ℕ) → InnerKeeps names d → InnerReads names d → (g : Language) (x : tree.Arguments) (b : Separator) (rest : List Symbol)
    → AreArguments g names x → is_no_argument x ≡ false → arguments_height x ≤ d
    → LeadsTo g (next (next_argument (rules names d) tree.NoArgument (arguments_spelling x ++ Bare b ∷ rest)) (Args names d)) (Args names d x (Bare b ∷ rest))
arguments_lead names d keeps inner g tree.NoArgument b rest w some low = cc
arguments_lead names d keeps inner g (tree.AndArgument tree.NoArgument e) b rest w some low =
    leads_next _ (next_argument_reads names d inner g tree.NoArgument e (Bare b ∷ rest) w.1 w.2 (omega arith) (bare_expr 1 b refl)) (equal refl)
arguments_lead names d keeps inner g (tree.AndArgument (tree.AndArgument before a) e) b rest w some low =
    rw (arguments_flat (tree.AndArgument before a) (expr_spelling e) (Bare b ∷ rest) refl)
    (arguments_lead names d keeps inner g (tree.AndArgument before a) separator.Comma (expr_spelling e ++ Bare b ∷ rest) w.0 refl (omega arith)
    ▷ leads_loop (argument_steps names d keeps) (tree.AndArgument before a) (Bare separator.Comma ∷ (expr_spelling e ++ Bare b ∷ rest)) tt refl
    (next_argument_reads names d inner g (tree.AndArgument before a) e (Bare b ∷ rest) w.1 w.2 (omega arith) (bare_expr 1 b refl)))

pub arguments_start : (g : Language) (names : TypeNames) (x : tree.Arguments) (rest : List Symbol) → AreArguments g names x → is_no_argument x ≡ false → begins_expr names (first (arguments_spelling x ++ rest)) ≡ true
arguments_start g names tree.NoArgument rest w some = cc
arguments_start g names (tree.AndArgument tree.NoArgument e) rest w some = expr_starts g names e w.1 rest
arguments_start g names (tree.AndArgument (tree.AndArgument before a) e) rest w some =
    rw (arguments_flat (tree.AndArgument before a) (expr_spelling e) rest refl) (arguments_start g names (tree.AndArgument before a) (Bare separator.Comma ∷ (expr_spelling e ++ rest)) w.0 refl)

pub arguments_read : (names : TypeNames) (d : ℕ) → InnerKeeps names d → InnerReads names d → (g : Language) (x : tree.Arguments) (rest : List Symbol) → AreArguments g names x → arguments_height x ≤ d
    → LeadsTo g (arguments names (rules names d) (arguments_spelling x ++ Bare separator.CloseParen ∷ rest)) (Read x (Bare separator.CloseParen ∷ rest))
unfolding arguments
arguments_read names d keeps inner g tree.NoArgument rest w low = equal refl
arguments_read names d keeps inner g (tree.AndArgument before e) rest w low =
    leads_passes _ (arguments_start g names (tree.AndArgument before e) (Bare separator.CloseParen ∷ rest) w refl)
    (arguments_lead names d keeps inner g (tree.AndArgument before e) separator.CloseParen rest w refl low
    ▷ leads_loop_stops (λ _. is_comma) (λ before. skip >> next_argument (rules names d) before) (tree.AndArgument before e) (Bare separator.CloseParen ∷ rest) refl)

-- What is said of each expression at d.

abbrev pub infixes : TypeNames → ℕ → (least : ℕ) → tree.Expr → Parser Symbol tree.Expr
infixes names d least = loop (λ _. binds least) (infix_step d (rules names d))

abbrev pub commas : TypeNames → ℕ → (least : ℕ) → tree.Expr → Parser Symbol tree.Expr
commas names d least = loop (λ _ next. least == 0 && is_comma next) (comma_step d (rules names d))

pub record Reading (names : TypeNames) (d : ℕ) (g : Language) (e : tree.Expr) : Type 0 where
  pub as_postfix : (least : ℕ) (rest : List Symbol) → 15 ≤ level e → expr_height e ≤ suc d → is_some (string_piece (first rest)) ≡ false
      → LeadsTo g (operand names d (rules names d) least (expr_spelling e ++ rest)) (postfix names d (rules names d) e rest)
  pub as_operand : (least : ℕ) (rest : List Symbol) → max least 13 ≤ level e → expr_height e ≤ suc d → EndsOperand (first rest)
      → LeadsTo g (operand names d (rules names d) least (expr_spelling e ++ rest)) (Read e rest)
  -- before whatever comes after the loop over binary operators
  pub as_infix : (least : ℕ) (k : tree.Expr → Parser Symbol tree.Expr) (rest : List Symbol) → max least 3 ≤ level e → expr_height e ≤ suc d → EndsOperand (first rest) → Fits e rest
      → LeadsTo g (next (operand names d (rules names d) least (expr_spelling e ++ rest)) (λ a ts. next (infixes names d least a ts) k)) (next (infixes names d least e rest) k)
  pub as_expr : (least : ℕ) (rest : List Symbol) → least ≤ level e → expr_height e ≤ suc d → EndsOperand (first rest) → binds least (first rest) ≡ false
      → question_after least (first rest) ≡ None → assignment_at least (first rest) ≡ None
      → LeadsTo g (expr_layer names d (rules names d) least (expr_spelling e ++ rest)) (commas names d least e rest)

-- what is read after a conditional expression, and after the binary operators
abbrev pub after_question : TypeNames → ℕ → (least : ℕ) → tree.Expr → Parser Symbol tree.Expr
after_question names d least left = by_first (assignment_after least left) (with_assignment d (rules names d) left) >>= (λ e. commas names d least e)

abbrev pub after_infix : TypeNames → ℕ → (least : ℕ) → tree.Expr → Parser Symbol tree.Expr
after_infix names d least test = by_first (question_after least) (with_question d (rules names d) test) >>= (λ left. after_question names d least left)

not_both : {A : Type 0} (a b : Bool) (o : Option A) → cond a o None ≡ None → cond (a && b) o None ≡ None
not_both true true o e = e
not_both true false o e = refl
not_both false b o e = refl

pub no_assignment_after : (least : ℕ) (e : tree.Expr) (next : Option Symbol) → assignment_at least next ≡ None → assignment_after least e next ≡ None
no_assignment_after least e next none = not_both (nat_le least 1) (nat_le 14 (level e)) (assignment_operator next) none

pub after_infix_plain : (names : TypeNames) (d least : ℕ) (g : Language) (e : tree.Expr) (rest : List Symbol) → question_after least (first rest) ≡ None → assignment_at least (first rest) ≡ None
    → LeadsTo g (after_infix names d least e rest) (commas names d least e rest)
unfolding with_question with_assignment
after_infix_plain names d least g e rest no_question no_assignment =
    leads_next _ (leads_first (question_after least) (with_question d (rules names d) e) rest no_question (equal refl))
    (leads_next _ (leads_first (assignment_after least e) (with_assignment d (rules names d) e) rest (no_assignment_after least e (first rest) no_assignment) (equal refl)) (equal refl))

-- an operator that doesn't bind at a level doesn't at a higher one
pub binds_less : (low high : ℕ) → low ≤ high → (o : Option (Operator Binary)) → binds_at low o ≡ false → binds_at high o ≡ false
binds_less low high le None e = refl
binds_less low high le (Some (At op at)) e = lt-leb high (precedence op) (omega (arith, leb-false low (precedence op) e))

module _ (names : TypeNames) (d : ℕ) (g : Language) (e : tree.Expr) where
  abbrev pub AsPostfix : Type 0
  AsPostfix = (least : ℕ) (rest : List Symbol) → 15 ≤ level e → expr_height e ≤ suc d → is_some (string_piece (first rest)) ≡ false
      → LeadsTo g (operand names d (rules names d) least (expr_spelling e ++ rest)) (postfix names d (rules names d) e rest)

  abbrev pub AsOperand : Type 0
  AsOperand = (least : ℕ) (rest : List Symbol) → max least 13 ≤ level e → expr_height e ≤ suc d → EndsOperand (first rest)
      → LeadsTo g (operand names d (rules names d) least (expr_spelling e ++ rest)) (Read e rest)

  abbrev pub AsInfix : Type 0
  AsInfix = (least : ℕ) (k : tree.Expr → Parser Symbol tree.Expr) (rest : List Symbol) → max least 3 ≤ level e → expr_height e ≤ suc d → EndsOperand (first rest) → Fits e rest
      → LeadsTo g (next (operand names d (rules names d) least (expr_spelling e ++ rest)) (λ a ts. next (infixes names d least a ts) k)) (next (infixes names d least e rest) k)

  abbrev pub AsExpr : Type 0
  AsExpr = (least : ℕ) (rest : List Symbol) → least ≤ level e → expr_height e ≤ suc d → EndsOperand (first rest) → binds least (first rest) ≡ false
      → question_after least (first rest) ≡ None → assignment_at least (first rest) ≡ None
      → LeadsTo g (expr_layer names d (rules names d) least (expr_spelling e ++ rest)) (commas names d least e rest)

  -- each kind of expression is one of the next kind
  pub infix_expr : 3 ≤ level e → AsInfix → AsExpr
  unfolding expr_layer
  infix_expr high h least rest fits low ends none no_question no_assignment =
      h least (after_infix names d least) rest (omega arith) low ends (binds_less least (suc (level e)) (omega arith) (binary_operator (first rest)) none)
      ▷ leads_next _ (leads_loop_stops (λ _. binds least) (infix_step d (rules names d)) e rest none) (after_infix_plain names d least g e rest no_question no_assignment)

  pub operand_infix : 13 ≤ level e → AsOperand → AsInfix
  operand_infix high h least k rest fits low ends fit = leads_next _ (h least rest (omega arith) low ends) (equal refl)

  pub postfix_operand : 15 ≤ level e → AsPostfix → AsOperand
  unfolding postfix
  postfix_operand high h least rest fits low ends = h least rest high low ends.no_piece ▷ leads_loop_stops (λ _. has_suffix) (postfix_step names d (rules names d)) e rest ends.no_suffix

  pub reading_postfix : 15 ≤ level e → AsPostfix → Reading names d g e
  reading_postfix high h = record {
    as_postfix = h;
    as_operand = postfix_operand high h;
    as_infix = operand_infix (omega arith) (postfix_operand high h);
    as_expr = infix_expr (omega arith) (operand_infix (omega arith) (postfix_operand high h));
  }

  pub reading_operand : 13 ≤ level e → level e < 15 → AsOperand → Reading names d g e
  reading_operand high below h = record {
    as_postfix = λ least rest fits. absurd (omega arith);
    as_operand = h;
    as_infix = operand_infix (omega arith) h;
    as_expr = infix_expr (omega arith) (operand_infix (omega arith) h);
  }

  pub reading_infix : 3 ≤ level e → level e < 13 → AsInfix → Reading names d g e
  reading_infix high below h = record {
    as_postfix = λ least rest fits. absurd (omega arith);
    as_operand = λ least rest fits. absurd (omega arith);
    as_infix = h;
    as_expr = infix_expr (omega arith) h;
  }

  pub reading_expr : level e < 3 → AsExpr → Reading names d g e
  reading_expr below h = record {
    as_postfix = λ least rest fits. absurd (omega arith);
    as_operand = λ least rest fits. absurd (omega arith);
    as_infix = λ least k rest fits. absurd (omega arith);
    as_expr = h;
  }
