-- The spelling of each expression leads to it, at each number of nodes.
use Rattle.std.proofs.Common.{◌≡◌, ℕ, suc, ◌≤◌, ◌&&◌, ◌==◌, List, ◌∷◌, ◌++◌, subst, arith}
use Rattle.cc_base.specs.declared.place.Place.{Place}
use Rattle.c_lexer.specs.declared.punctuator.Punctuator.TheVariants as mark
use Rattle.parse_rules.specs.Parsers.{Read, first}
use Rattle.parse_rules.specs.Grammars.{Language}
use Rattle.parse_rules.proofs.Completeness.{LeadsTo, ◌▷◌, leads_loop_stops}
use Rattle.c_tree.specs.declared.operator.Unary.{Unary}
use Rattle.c_tree.specs.declared.operator.Unary.TheVariants as unary
use Rattle.c_tree.specs.Depth.{expr_height}
use Rattle.c_tree.specs.Grammar.{IsExpr, level}
use Rattle.c_tree.specs.Operators.{operand_level}
use Rattle.c_tree.specs.Spelling.{expr_spelling}
use Rattle.c_tree.specs.Symbols.{Symbol, Mark}
use Rattle.c_tree.specs.Tree as tree
use Rattle.c_tree.specs.Words.{TypeNames}
use Rattle.c_parse_words.specs.Tests.{is_comma}
use Rattle.c_expr_parse.specs.ExprRules.{comma_step, operand, operand_from}
use Rattle.c_expr_parse.specs.Rules.{rules}
use Rattle.c_expr_parse.proofs.Complete.{EndsOperand, EndsExpr, InnerReads}
use Rattle.c_expr_parse.proofs.ExprReads.{Reading}
use Rattle.c_expr_parse.proofs.Kept.{InnerKeeps}
use Rattle.c_expr_parse.proofs.OperandReads.{name_reads, integer_reads, character_reads, string_reads, paren_reads, index_reads, call_reads, member_reads, step_reads}
use Rattle.c_expr_parse.proofs.OperatorReads.{infix_reads, conditional_reads, assign_reads, comma_reads}
use Rattle.c_expr_parse.proofs.UnaryReads.{TypesRead, sign_reads, sizeof_reads, sizeof_type_reads, sizeof_compound_reads, cast_reads, compound_reads}

prefix_reads : (names : TypeNames) (d : ℕ) → InnerReads names d → (g : Language) (op : Unary) (at : Place) (e : tree.Expr) → IsExpr g names e → operand_level op ≤ level e → Reading names d g (tree.Prefix op at e)
prefix_reads names d inner g unary.SizeOf at e w fits = sizeof_reads names d inner g at e w fits
prefix_reads names d inner g op at e w fits = sign_reads names d inner g op at e tt w fits

reads : (names : TypeNames) (d : ℕ) → InnerKeeps names d → InnerReads names d → TypesRead names d → (g : Language) (e : tree.Expr) → IsExpr g names e → Reading names d g e
reads names d keeps inner types g (tree.Name name) w = name_reads names d g name w
reads names d keeps inner types g (tree.Integer type value place) w = integer_reads names d g type value place
reads names d keeps inner types g (tree.Character value place) w = character_reads names d g value place
reads names d keeps inner types g (tree.String pieces) w = string_reads names d g pieces w
reads names d keeps inner types g (tree.Paren at e) w = paren_reads names d inner g at e w
reads names d keeps inner types g (tree.Index e at index) w = index_reads names d keeps inner g e at index w.1 (reads names d keeps inner types g e w.0) w.2
reads names d keeps inner types g (tree.Call e at arguments) w = call_reads names d keeps inner g e at arguments w.1 (reads names d keeps inner types g e w.0) w.2
reads names d keeps inner types g (tree.Member e op at name) w = member_reads names d keeps inner g e op at name w.1 (reads names d keeps inner types g e w.0)
reads names d keeps inner types g (tree.Postfix e step at) w = step_reads names d keeps inner g e step at w.1 (reads names d keeps inner types g e w.0)
reads names d keeps inner types g (tree.Prefix op at e) w = prefix_reads names d inner g op at e w.0 w.1
reads names d keeps inner types g (tree.SizeOfType at paren type) w = sizeof_type_reads names d types g at paren type w
reads names d keeps inner types g (tree.Cast at type e) w = cast_reads names d types g inner at type e w.0 w.1 w.2
reads names d keeps inner types g (tree.Infix op left at right) w = infix_reads names d keeps inner g op left at right w.1 (reads names d keeps inner types g left w.0) w.2 w.3
reads names d keeps inner types g (tree.Conditional test at then_ else_) w = conditional_reads names d inner g test at then_ else_ w.1 (reads names d keeps inner types g test w.0) w.2 w.3 w.4
reads names d keeps inner types g (tree.Assign op left at right) w = assign_reads names d inner g op left at right w.1 (reads names d keeps inner types g left w.0) w.2 w.3
reads names d keeps inner types g (tree.Comma left right) w = comma_reads names d inner g keeps left right (reads names d keeps inner types g left w.0) w.1 w.2
reads names d keeps inner types g (tree.Compound at type brace) w = compound_reads names d types g at type brace w.0 w.1
reads names d keeps inner types g (tree.SizeOfCompound at paren type brace) w = sizeof_compound_reads names d types g at paren type brace w.0 w.1

-- each expression is a node
pub expr_high : (e : tree.Expr) → 1 ≤ expr_height e
expr_high (tree.Name name) = omega arith
expr_high e = omega arith

-- Where one node more is allowed than below.

pub expr_reads_suc : (names : TypeNames) (d : ℕ) → InnerKeeps names d → InnerReads names d → TypesRead names d → (g : Language) (least : ℕ) (e : tree.Expr) (rest : List Symbol)
    → IsExpr g names e → least ≤ level e → expr_height e ≤ suc d → EndsExpr least (first rest) → LeadsTo g ((rules names (suc d)).expr least (expr_spelling e ++ rest)) (Read e rest)
unfolding rules
expr_reads_suc names d keeps inner types g least e rest w fits low ends =
    (reads names d keeps inner types g e w).as_expr least rest fits low ends.operand ends.no_operator ends.no_question ends.no_assignment
    ▷ leads_loop_stops (λ _ next. least == 0 && is_comma next) (comma_step d (rules names d)) e rest ends.no_comma

pub paren_reads_suc : (names : TypeNames) (d : ℕ) → InnerKeeps names d → InnerReads names d → TypesRead names d → (g : Language) (at : Place) (e : tree.Expr) (tail rest : List Symbol)
    → expr_spelling e ≡ Mark mark.OpenParen at ∷ tail → IsExpr g names e → 14 ≤ level e → expr_height e ≤ suc d → EndsOperand (first rest) → LeadsTo g ((rules names (suc d)).paren at (tail ++ rest)) (Read e rest)
unfolding rules operand operand_from
paren_reads_suc names d keeps inner types g at e tail rest begun w fits low ends =
    subst (λ s. LeadsTo g (operand names d (rules names d) 14 (s ++ rest)) (Read e rest)) begun ((reads names d keeps inner types g e w).as_operand 14 rest (omega arith) low ends)
