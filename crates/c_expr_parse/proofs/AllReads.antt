-- The spelling of each part leads to it, at each number of nodes.
use Rattle.std.proofs.Common.{◌≡◌, ℕ, zero, suc, ◌≤◌, true, List, ◌++◌, arith}
use Rattle.parse_rules.specs.Parsers.{Read, first}
use Rattle.parse_rules.specs.Grammars.{Language}
use Rattle.parse_rules.proofs.Completeness.{LeadsTo}
use Rattle.c_tree.specs.Depth.{specifier_list_height, declarator_height}
use Rattle.c_tree.specs.Grammar.{AreSpecifiers}
use Rattle.c_tree.specs.Spelling.{specifiers_spelling}
use Rattle.c_tree.specs.Symbols.{Symbol}
use Rattle.c_tree.specs.Tree as tree
use Rattle.c_tree.specs.Words.{TypeNames, Scope, has_type}
use Rattle.c_expr_parse.specs.Rules.{rules}
use Rattle.c_expr_parse.proofs.Complete.{EndsSpecifiers, InnerReads}
use Rattle.c_expr_parse.proofs.DeclarationDepth.{inner_keeps}
use Rattle.c_expr_parse.proofs.DeclaratorReads.{declarator_reads}
use Rattle.c_expr_parse.proofs.ExprComplete.{expr_high, expr_reads_suc, paren_reads_suc}
use Rattle.c_expr_parse.proofs.SpecifiersRead.{specifiers_read}
use Rattle.c_expr_parse.proofs.TypeNameReads.{types_read}

-- each declarator is a node
declarator_high : (x : tree.Declarator) → 1 ≤ declarator_height x
declarator_high (tree.Declares stars core parts) = omega arith

specifiers_reads : (names : TypeNames) (d : ℕ) → InnerReads names d → (g : Language) (scope : Scope) (x : tree.Specifiers) (rest : List Symbol) → AreSpecifiers g names scope x → has_type x ≡ true → specifier_list_height x ≤ suc d
    → EndsSpecifiers names scope (first rest) → LeadsTo g ((rules names (suc d)).specifiers scope (specifiers_spelling x ++ rest)) (Read x rest)
unfolding rules
specifiers_reads names d inner g scope x rest w typed low ends = specifiers_read names d (inner_keeps names d) inner g scope x rest w typed low ends

pub inner_reads : (names : TypeNames) (d : ℕ) → InnerReads names d
inner_reads names zero = record {
  expr = λ g least e rest le w fits low ends. absurd (omega (arith, expr_high e));
  paren = λ g at e tail rest begun w fits low ends. absurd (omega (arith, expr_high e));
  specifiers = λ g scope x rest w typed low ends. absurd (omega arith);
  declarator = λ g naming x rest w low ends. absurd (omega (arith, declarator_high x));
}
inner_reads names (suc d) = record {
  expr = λ g least e rest le. expr_reads_suc names d (inner_keeps names d) (inner_reads names d) (types_read names d (inner_reads names d)) g least e rest;
  paren = paren_reads_suc names d (inner_keeps names d) (inner_reads names d) (types_read names d (inner_reads names d));
  specifiers = specifiers_reads names d (inner_reads names d);
  declarator = declarator_reads names d (inner_keeps names d) (inner_reads names d);
}
