-- The spellings of operands lead to them.
use Rattle.std.proofs.Common.{◌≡◌, ℕ, ℤ, ◌≤◌, ◌<◌, nat_le, Bool, false, Some, is_some, List, [], ◌∷◌, ◌++◌, length, map, refl, ap, append_assoc, append-nil, arith}
use Rattle.std.proofs.lemmas.Bool.{and_right}
use Rattle.cc_base.specs.declared.place.Place.{Place}
use Rattle.c_lexer.specs.declared.number.IntegerType.{IntegerType}
use Rattle.c_lexer.specs.declared.punctuator.Punctuator.TheVariants as mark
use Rattle.parse_rules.specs.Parsers.{Read, first, loop}
use Rattle.parse_rules.specs.Grammars.{Language}
use Rattle.parse_rules.proofs.Completeness.{LeadsTo, equal, ◌▷◌, leads_next, leads_fails, leads_first, leads_take_above, leads_loop, leads_loop_stops}
use Rattle.c_tree.specs.declared.leaf.Identifier.{Identifier}
use Rattle.c_tree.specs.declared.leaf.StringPiece.{StringPiece}
use Rattle.c_tree.specs.declared.leaf.Separator.TheVariants as separator
use Rattle.c_tree.specs.declared.operator.MemberOperator.{MemberOperator}
use Rattle.c_tree.specs.declared.operator.MemberOperator.TheVariants as member
use Rattle.c_tree.specs.declared.operator.Step.{Step}
use Rattle.c_tree.specs.declared.operator.Step.TheVariants as step
use Rattle.c_tree.specs.Depth.{expr_height}
use Rattle.c_tree.specs.Grammar.{IsExpr, AreArguments, level}
use Rattle.c_tree.specs.Operators.{member_mark, step_mark}
use Rattle.c_tree.specs.Spelling.{expr_spelling, arguments_spelling, name_symbol, piece_symbol}
use Rattle.c_tree.specs.Symbols.{Symbol, Mark, Bare}
use Rattle.c_tree.specs.Tree as tree
use Rattle.c_tree.specs.Words.{TypeNames, InType, is_type_name}
use Rattle.c_parse_words.specs.WordRules.{next_piece, take}
use Rattle.c_parse_words.specs.Levels.{begins_cast}
use Rattle.c_parse_words.specs.Tests.{string_piece, begins_type, start, StartName, suffix, is_suffix, MemberAt, StepAt}
use Rattle.c_parse_words.proofs.Starts.{expr_starts, expr_apart}
use Rattle.c_expr_parse.specs.ExprRules.{with_suffix, postfix_step, postfix, after_paren, operand_from, operand}
use Rattle.c_expr_parse.specs.Rules.{rules}
use Rattle.c_expr_parse.proofs.Complete.{InnerReads}
use Rattle.c_expr_parse.proofs.ExprLaws.{Fits, postfix_steps, piece_steps}
use Rattle.c_expr_parse.proofs.ExprReads.{bare_expr, arguments_read, Reading, reading_postfix}
use Rattle.c_expr_parse.proofs.Kept.{InnerKeeps}

-- Primary expressions.

name_told : (names : TypeNames) (name : Identifier) (b : Bool) → is_type_name names name.bytes ≡ false → start names (Some (name_symbol name)) ≡ StartName name
name_told names name b e = rw e refl

pub name_reads : (names : TypeNames) (d : ℕ) (g : Language) (name : Identifier) → is_type_name names name.bytes ≡ false → Reading names d g (tree.Name name)
unfolding operand operand_from
name_reads names d g name w = reading_postfix names d g (tree.Name name) (omega arith) (λ least rest high low none.
    leads_first (start names) (operand_from names d (rules names d) least) (name_symbol name ∷ rest) (name_told names name false w) (equal refl))

pub integer_reads : (names : TypeNames) (d : ℕ) (g : Language) (type : IntegerType) (value : ℕ) (place : Place) → Reading names d g (tree.Integer type value place)
unfolding operand operand_from
integer_reads names d g type value place = reading_postfix names d g (tree.Integer type value place) (omega arith) (λ least rest high low none. equal refl)

pub character_reads : (names : TypeNames) (d : ℕ) (g : Language) (value : ℤ) (place : Place) → Reading names d g (tree.Character value place)
unfolding operand operand_from
character_reads names d g value place = reading_postfix names d g (tree.Character value place) (omega arith) (λ least rest high low none. equal refl)

-- adjacent literals after those that were read
pieces_read : (d : ℕ) (g : Language) (before pieces : List StringPiece) (rest : List Symbol) → is_some (string_piece (first rest)) ≡ false
    → LeadsTo g (loop (λ _ next. is_some (string_piece next)) next_piece before (map piece_symbol pieces ++ rest)) (Read (before ++ pieces) rest)
unfolding next_piece take
pieces_read d g before [] rest none = rw (append-nil before) (leads_loop_stops (λ _ next. is_some (string_piece next)) next_piece before rest none)
pieces_read d g before (piece ∷ pieces) rest none =
    leads_loop (piece_steps d) before (piece_symbol piece ∷ (map piece_symbol pieces ++ rest)) tt refl (equal refl)
    ▷ (rw (← append_assoc before (piece ∷ []) pieces) (pieces_read d g (before ++ piece ∷ []) pieces rest none))

pub string_reads : (names : TypeNames) (d : ℕ) (g : Language) (pieces : List StringPiece) → 0 < length pieces → Reading names d g (tree.String pieces)
unfolding operand operand_from
string_reads names d g [] some = absurd (omega arith)
string_reads names d g (piece ∷ pieces) some = reading_postfix names d g (tree.String (piece ∷ pieces)) (omega arith) (λ least rest high low none.
    leads_next _ (pieces_read d g (piece ∷ []) pieces rest none) (equal refl))

no_cast : (g : Language) (names : TypeNames) (least : ℕ) (e : tree.Expr) (rest : List Symbol) → IsExpr g names e → begins_cast names least (first (expr_spelling e ++ rest)) ≡ false
no_cast g names least e rest w = and_right (nat_le least 13) (begins_type names (first (expr_spelling e ++ rest))) (expr_apart names InType (first (expr_spelling e ++ rest)) (expr_starts g names e w rest))

pub paren_reads : (names : TypeNames) (d : ℕ) → InnerReads names d → (g : Language) (at : Place) (e : tree.Expr) → IsExpr g names e → Reading names d g (tree.Paren at e)
unfolding operand operand_from after_paren
paren_reads names d inner g at e w = reading_postfix names d g (tree.Paren at e) (omega arith) (λ least rest high low none.
    rw (append_assoc (expr_spelling e) (Bare separator.CloseParen ∷ []) rest)
    (leads_fails _ (no_cast g names least e (Bare separator.CloseParen ∷ rest) w)
    (leads_next _ (inner.expr g 0 e (Bare separator.CloseParen ∷ rest) (omega arith) w (omega arith) (omega arith) (bare_expr 0 separator.CloseParen refl)) (equal refl))))

-- Postfix expressions.

pub flat : {T : Type 0} (a : List T) (t : T) (b c rest : List T) → (a ++ t ∷ (b ++ c)) ++ rest ≡ a ++ t ∷ (b ++ (c ++ rest))
flat a t b c rest = simp append_assoc

member_told : (op : MemberOperator) (at : Place) → suffix (Some (Mark (member_mark op) at)) ≡ MemberAt op at
member_told member.Dot at = refl
member_told member.Arrow at = refl

step_told : (op : Step) (at : Place) → suffix (Some (Mark (step_mark op) at)) ≡ StepAt op at
step_told step.Increment at = refl
step_told step.Decrement at = refl

member_fits : (e : tree.Expr) (op : MemberOperator) (at : Place) (rest : List Symbol) → Fits e (Mark (member_mark op) at ∷ rest)
member_fits e member.Dot at rest = refl
member_fits e member.Arrow at rest = refl

step_fits : (e : tree.Expr) (op : Step) (at : Place) (rest : List Symbol) → Fits e (Mark (step_mark op) at ∷ rest)
step_fits e step.Increment at rest = refl
step_fits e step.Decrement at rest = refl

module _ (names : TypeNames) (d : ℕ) (keeps : InnerKeeps names d) (inner : InnerReads names d) (g : Language) where
  pub index_reads : (e : tree.Expr) (at : Place) (index : tree.Expr) → 15 ≤ level e → Reading names d g e → IsExpr g names index → Reading names d g (tree.Index e at index)
  unfolding postfix postfix_step with_suffix
  index_reads e at index high h w = reading_postfix names d g (tree.Index e at index) (omega arith) (λ least rest _ low none.
      rw (flat (expr_spelling e) (Mark mark.OpenBracket at) (expr_spelling index) (Bare separator.CloseBracket ∷ []) rest)
      (h.as_postfix least (Mark mark.OpenBracket at ∷ (expr_spelling index ++ Bare separator.CloseBracket ∷ rest)) high (omega arith) refl
      ▷ leads_loop (postfix_steps names d keeps) e (Mark mark.OpenBracket at ∷ (expr_spelling index ++ Bare separator.CloseBracket ∷ rest)) refl refl
      (leads_next _ (leads_take_above d (expr_height e) (Mark mark.OpenBracket at) (expr_spelling index ++ Bare separator.CloseBracket ∷ rest) (omega arith))
      (leads_next _ (inner.expr g 0 index (Bare separator.CloseBracket ∷ rest) (omega arith) w (omega arith) (omega arith) (bare_expr 0 separator.CloseBracket refl)) (equal refl)))))

  pub call_reads : (e : tree.Expr) (at : Place) (x : tree.Arguments) → 15 ≤ level e → Reading names d g e → AreArguments g names x → Reading names d g (tree.Call e at x)
  unfolding postfix postfix_step with_suffix
  call_reads e at x high h w = reading_postfix names d g (tree.Call e at x) (omega arith) (λ least rest _ low none.
      rw (flat (expr_spelling e) (Mark mark.OpenParen at) (arguments_spelling x) (Bare separator.CloseParen ∷ []) rest)
      (h.as_postfix least (Mark mark.OpenParen at ∷ (arguments_spelling x ++ Bare separator.CloseParen ∷ rest)) high (omega arith) refl
      ▷ leads_loop (postfix_steps names d keeps) e (Mark mark.OpenParen at ∷ (arguments_spelling x ++ Bare separator.CloseParen ∷ rest)) refl refl
      (leads_next _ (leads_take_above d (expr_height e) (Mark mark.OpenParen at) (arguments_spelling x ++ Bare separator.CloseParen ∷ rest) (omega arith))
      (leads_next _ (arguments_read names d keeps inner g x rest w (omega arith)) (equal refl)))))

  pub member_reads : (e : tree.Expr) (op : MemberOperator) (at : Place) (name : Identifier) → 15 ≤ level e → Reading names d g e → Reading names d g (tree.Member e op at name)
  unfolding postfix postfix_step with_suffix take
  member_reads e op at name high h = reading_postfix names d g (tree.Member e op at name) (omega arith) (λ least rest _ low none.
      rw (append_assoc (expr_spelling e) (Mark (member_mark op) at ∷ name_symbol name ∷ []) rest)
      (h.as_postfix least (Mark (member_mark op) at ∷ name_symbol name ∷ rest) high (omega arith) refl
      ▷ leads_loop (postfix_steps names d keeps) e (Mark (member_mark op) at ∷ name_symbol name ∷ rest) (member_fits e op at (name_symbol name ∷ rest)) (ap is_suffix (member_told op at))
      (leads_first suffix (with_suffix names d (rules names d) e) (Mark (member_mark op) at ∷ name_symbol name ∷ rest) (member_told op at)
      (leads_next _ (leads_take_above d (expr_height e) (Mark (member_mark op) at) (name_symbol name ∷ rest) (omega arith)) (equal refl)))))

  pub step_reads : (e : tree.Expr) (op : Step) (at : Place) → 15 ≤ level e → Reading names d g e → Reading names d g (tree.Postfix e op at)
  unfolding postfix postfix_step with_suffix
  step_reads e op at high h = reading_postfix names d g (tree.Postfix e op at) (omega arith) (λ least rest _ low none.
      rw (append_assoc (expr_spelling e) (Mark (step_mark op) at ∷ []) rest)
      (h.as_postfix least (Mark (step_mark op) at ∷ rest) high (omega arith) refl
      ▷ leads_loop (postfix_steps names d keeps) e (Mark (step_mark op) at ∷ rest) (step_fits e op at rest) (ap is_suffix (step_told op at))
      (leads_first suffix (with_suffix names d (rules names d) e) (Mark (step_mark op) at ∷ rest) (step_told op at)
      (leads_next _ (leads_take_above d (expr_height e) (Mark (step_mark op) at) rest (omega arith)) (equal refl)))))
