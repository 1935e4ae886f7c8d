-- The spellings of unary expressions and casts lead to them.
use Rattle.std.proofs.Common.{◌≡◌, ℕ, ◌≤◌, nat_le, true, false, ◌==◌, Option, Some, None, is_some, List, [], ◌∷◌, ◌++◌, refl, sym, subst, append_assoc, arith}
use Rattle.std.proofs.lemmas.Bool.{le-leb, lt-leb, and_from, and_left, ne_eqb, true≢false}
use Rattle.cc_base.specs.declared.place.Place.{Place}
use Rattle.c_lexer.specs.declared.punctuator.Punctuator.{Punctuator}
use Rattle.c_lexer.specs.declared.punctuator.Punctuator.TheVariants as mark
use Rattle.parse_rules.specs.Parsers.{Read, first, next, by_first}
use Rattle.parse_rules.specs.Grammars.{Language, IsExtended}
use Rattle.parse_rules.proofs.Completeness.{LeadsTo, equal, breaks, leads_next, leads_passes, leads_fails, leads_first}
use Rattle.c_tree.specs.declared.leaf.Separator.TheVariants as separator
use Rattle.c_tree.specs.declared.operator.Unary.{Unary}
use Rattle.c_tree.specs.declared.operator.Unary.TheVariants as unary
use Rattle.c_tree.specs.Depth.{expr_height, type_name_height}
use Rattle.c_tree.specs.Grammar.{IsExpr, IsTypeName, level}
use Rattle.c_tree.specs.Operators.{operand_level, unary_symbol}
use Rattle.c_tree.specs.Spelling.{expr_spelling, type_name_spelling}
use Rattle.c_tree.specs.Symbols.{Symbol, Name, Mark, Bare}
use Rattle.c_tree.specs.Tree as tree
use Rattle.c_tree.specs.Words.{TypeNames, InType}
use Rattle.c_parse_words.specs.Tests.{open_paren, open_brace, begins_expr, begins_type, binary_operator, start, start_of, is_start, StartPrefix}
use Rattle.c_parse_words.proofs.Starts.{expr_starts, expr_apart}
use Rattle.c_parse_words.proofs.TokenLaws.{open_paren_here}
use Rattle.c_expr_parse.specs.ExprRules.{type_name, after_cast_paren, after_sizeof_paren, after_sizeof, operand_from, operand}
use Rattle.c_expr_parse.specs.Rules.{rules}
use Rattle.c_expr_parse.proofs.Complete.{EndsOperand, EndsExpr, InnerReads}
use Rattle.c_expr_parse.proofs.ExprLaws.{above_all, operand_low, precedence_high}
use Rattle.c_expr_parse.proofs.ExprReads.{Reading, reading_operand}

-- What ends an operand ends an expression of a high level.
pub high_expr : (least : ℕ) (next : Option Symbol) → 13 ≤ least → EndsOperand next → EndsExpr least next
high_expr least next high ends = record {
  operand = ends;
  no_operator = above_all least high (binary_operator next);
  no_question = rw (lt-leb least 2 (omega arith)) refl;
  no_assignment = rw (lt-leb least 1 (omega arith)) refl;
  no_comma = and_left (least == 0) _ (ne_eqb least 0 (λ h. omega arith));
}

-- `sizeof` has a rule of its own.
abbrev pub IsSign : Unary → Type 0
IsSign unary.SizeOf = ⊥
IsSign op = Unit {0}

sign_told : (names : TypeNames) (op : Unary) (at : Place) → IsSign op → start names (Some (unary_symbol op at)) ≡ StartPrefix op at
sign_told names unary.SizeOf at h = absurd h
sign_told names op at h = refl

operand_high : (op : Unary) → 13 ≤ operand_level op
operand_high unary.SizeOf = omega arith
operand_high op = omega arith

module _ (names : TypeNames) (d : ℕ) (inner : InnerReads names d) (g : Language) where
  pub sign_reads : (op : Unary) (at : Place) (e : tree.Expr) → IsSign op → IsExpr g names e → operand_level op ≤ level e → Reading names d g (tree.Prefix op at e)
  unfolding operand operand_from
  sign_reads op at e sign w fits = reading_operand names d g (tree.Prefix op at e) (omega arith) (omega arith) (λ least rest _ low ends.
      leads_first (start names) (operand_from names d (rules names d) least) (unary_symbol op at ∷ (expr_spelling e ++ rest)) (sign_told names op at sign)
      (leads_next _ (inner.expr g (operand_level op) e rest (operand_low op) w fits (omega arith) (high_expr (operand_level op) (first rest) (operand_high op) ends)) (equal refl)))

-- `sizeof` before an expression. Where that begins with a parenthesis, an expression stands in it.

inside : (names : TypeNames) (s r : List Symbol) (paren : Place) (tail rest : List Symbol) → s ++ r ≡ Mark mark.OpenParen paren ∷ tail → (s ≡ [] → ⊥)
    → ((s' rest' : List Symbol) → s ≡ Mark mark.OpenParen paren ∷ s' → begins_expr names (first (s' ++ rest')) ≡ true) → begins_expr names (first (tail ++ rest)) ≡ true
inside names [] r paren tail rest e some h = absurd (some refl)
inside names (t ∷ s) r paren tail rest e some h =
    let same : s ++ r ≡ tail = cc in
    let head : t ∷ s ≡ Mark mark.OpenParen paren ∷ s = cc in
    rw (← same, append_assoc s r rest) (h s (r ++ rest) head)

no_paren : (op : Unary) (at paren : Place) (s tail : List Symbol) → unary_symbol op at ∷ s ≡ Mark mark.OpenParen paren ∷ tail → ⊥
no_paren unary.SizeOf at paren s tail e = cc
no_paren op at paren s tail e = cc

some_tokens : (g : Language) (names : TypeNames) (e : tree.Expr) → IsExpr g names e → expr_spelling e ≡ [] → ⊥
some_tokens g names e w none = true≢false (sym (subst (λ s. begins_expr names (first (s ++ [])) ≡ true) none (expr_starts g names e w [])))

in_paren : (g : Language) (names : TypeNames) (e : tree.Expr) (paren : Place) (tail rest : List Symbol) → IsExpr g names e → 14 ≤ level e → expr_spelling e ≡ Mark mark.OpenParen paren ∷ tail
    → begins_expr names (first (tail ++ rest)) ≡ true
in_paren g names (tree.Name name) paren tail rest w high e = cc
in_paren g names (tree.Integer type value place) paren tail rest w high e = cc
in_paren g names (tree.Character value place) paren tail rest w high e = cc
in_paren g names (tree.String []) paren tail rest w high e = cc
in_paren g names (tree.String (piece ∷ pieces)) paren tail rest w high e = cc
in_paren g names (tree.Paren at x) paren tail rest w high e =
    let same : expr_spelling x ++ Bare separator.CloseParen ∷ [] ≡ tail = cc in
    rw (← same, append_assoc (expr_spelling x) (Bare separator.CloseParen ∷ []) rest) (expr_starts g names x w (Bare separator.CloseParen ∷ rest))
in_paren g names (tree.Index x at index) paren tail rest w high e =
    inside names (expr_spelling x) _ paren tail rest e (some_tokens g names x w.0) (λ s' rest' e'. in_paren g names x paren s' rest' w.0 (omega (arith, w.1)) e')
in_paren g names (tree.Call x at arguments) paren tail rest w high e =
    inside names (expr_spelling x) _ paren tail rest e (some_tokens g names x w.0) (λ s' rest' e'. in_paren g names x paren s' rest' w.0 (omega (arith, w.1)) e')
in_paren g names (tree.Member x op at name) paren tail rest w high e =
    inside names (expr_spelling x) _ paren tail rest e (some_tokens g names x w.0) (λ s' rest' e'. in_paren g names x paren s' rest' w.0 (omega (arith, w.1)) e')
in_paren g names (tree.Postfix x step at) paren tail rest w high e =
    inside names (expr_spelling x) _ paren tail rest e (some_tokens g names x w.0) (λ s' rest' e'. in_paren g names x paren s' rest' w.0 (omega (arith, w.1)) e')
in_paren g names (tree.Prefix op at x) paren tail rest w high e = absurd (no_paren op at paren (expr_spelling x) tail e)
in_paren g names (tree.SizeOfType at p type) paren tail rest w high e = cc
in_paren g names (tree.SizeOfCompound at p type brace) paren tail rest w high e = cc
in_paren g names (tree.Cast at type x) paren tail rest w high e = absurd (omega arith)
in_paren g names (tree.Compound at type brace) paren tail rest w high e = absurd (omega arith)
in_paren g names (tree.Infix op left at right) paren tail rest w high e = absurd (omega (arith, precedence_high op))
in_paren g names (tree.Conditional test at then_ else_) paren tail rest w high e = absurd (omega arith)
in_paren g names (tree.Assign op left at right) paren tail rest w high e = absurd (omega arith)
in_paren g names (tree.Comma left right) paren tail rest w high e = absurd (omega arith)

module _ (names : TypeNames) (d : ℕ) (inner : InnerReads names d) (g : Language) where
  sizeof_paren : (at : Place) (e : tree.Expr) (t : Symbol) (tail rest : List Symbol) (o : Option Place) → open_paren (Some t) ≡ o → expr_spelling e ≡ t ∷ tail → IsExpr g names e → 14 ≤ level e → expr_height e ≤ d → EndsOperand (first rest)
      → LeadsTo g (by_first open_paren (after_sizeof names (rules names d) at) ((t ∷ tail) ++ rest)) (Read (tree.Prefix unary.SizeOf at e) rest)
  unfolding after_sizeof after_sizeof_paren
  sizeof_paren at e t tail rest None here same w fits low ends =
      leads_first open_paren (after_sizeof names (rules names d) at) ((t ∷ tail) ++ rest) here
      (leads_next _ (subst (λ s. LeadsTo g ((rules names d).expr 14 (s ++ rest)) (Read e rest)) same (inner.expr g 14 e rest (omega arith) w fits low (high_expr 14 (first rest) (omega arith) ends))) (equal refl))
  sizeof_paren at e t tail rest (Some paren) here same w fits low ends =
      let is : Some t ≡ Some (Mark mark.OpenParen paren) = open_paren_here (Some t) paren here in
      let begun : expr_spelling e ≡ Mark mark.OpenParen paren ∷ tail = cc in
      leads_first open_paren (after_sizeof names (rules names d) at) ((t ∷ tail) ++ rest) here
      (leads_fails _ (expr_apart names InType (first (tail ++ rest)) (in_paren g names e paren tail rest w fits begun))
      (leads_next _ (inner.paren g paren e tail rest begun w fits low ends) (equal refl)))

  sizeof_from : (at : Place) (e : tree.Expr) (s rest : List Symbol) → expr_spelling e ≡ s → IsExpr g names e → 14 ≤ level e → expr_height e ≤ d → EndsOperand (first rest)
      → LeadsTo g (by_first open_paren (after_sizeof names (rules names d) at) (s ++ rest)) (Read (tree.Prefix unary.SizeOf at e) rest)
  sizeof_from at e [] rest same w fits low ends = absurd (some_tokens g names e w same)
  sizeof_from at e (t ∷ tail) rest same w fits low ends = sizeof_paren at e t tail rest (open_paren (Some t)) refl same w fits low ends

  pub sizeof_reads : (at : Place) (e : tree.Expr) → IsExpr g names e → 14 ≤ level e → Reading names d g (tree.Prefix unary.SizeOf at e)
  unfolding operand operand_from
  sizeof_reads at e w fits = reading_operand names d g (tree.Prefix unary.SizeOf at e) (omega arith) (omega arith) (λ least rest _ low ends.
      sizeof_from at e (expr_spelling e) rest refl w fits (omega arith) ends)

-- Types in parentheses.

-- type names are read before a `)`, and begin as types
pub record TypesRead (names : TypeNames) (d : ℕ) : Type 0 where
  pub start : (g : Language) (type : tree.TypeName) (rest : List Symbol) → IsTypeName g names type → begins_type names (first (type_name_spelling type ++ rest)) ≡ true
  pub reads : (g : Language) (type : tree.TypeName) (rest : List Symbol) → IsTypeName g names type → type_name_height type ≤ d
      → LeadsTo g (type_name names (rules names d) (type_name_spelling type ++ Bare separator.CloseParen ∷ rest)) (Read type (Bare separator.CloseParen ∷ rest))

mark_no_brace : (p : Punctuator) (at : Place) → is_start (start_of p at) ≡ true → is_some (open_brace (Some (Mark p at))) ≡ false
mark_no_brace mark.OpenBrace at e = cc
mark_no_brace p at e = refl

-- no expression begins with a brace
pub expr_no_brace : (names : TypeNames) (next : Option Symbol) → begins_expr names next ≡ true → is_some (open_brace next) ≡ false
expr_no_brace names (Some (Mark p at)) e = mark_no_brace p at e
expr_no_brace names (Some (Name bytes at)) e = refl
expr_no_brace names next e = refl

module _ (names : TypeNames) (d : ℕ) (types : TypesRead names d) (g : Language) where
  type_flat : (type : tree.TypeName) (s rest : List Symbol) → (type_name_spelling type ++ Bare separator.CloseParen ∷ s) ++ rest ≡ type_name_spelling type ++ Bare separator.CloseParen ∷ (s ++ rest)
  type_flat type s rest = append_assoc (type_name_spelling type) (Bare separator.CloseParen ∷ s) rest

  pub sizeof_type_reads : (at paren : Place) (type : tree.TypeName) → IsTypeName g names type → Reading names d g (tree.SizeOfType at paren type)
  unfolding operand operand_from after_sizeof after_sizeof_paren
  sizeof_type_reads at paren type w = reading_operand names d g (tree.SizeOfType at paren type) (omega arith) (omega arith) (λ least rest _ low ends.
      rw (type_flat type [] rest)
      (leads_passes _ (types.start g type (Bare separator.CloseParen ∷ rest) w)
      (leads_next _ (types.reads g type rest w (omega arith)) (leads_fails _ ends.no_brace (equal refl)))))

  pub sizeof_compound_reads : (at paren : Place) (type : tree.TypeName) (brace : Place) → IsExtended g → IsTypeName g names type → Reading names d g (tree.SizeOfCompound at paren type brace)
  unfolding operand operand_from after_sizeof after_sizeof_paren
  sizeof_compound_reads at paren type brace wide w = reading_operand names d g (tree.SizeOfCompound at paren type brace) (omega arith) (omega arith) (λ least rest _ low ends.
      rw (type_flat type (Mark mark.OpenBrace brace ∷ []) rest)
      (leads_passes _ (types.start g type (Bare separator.CloseParen ∷ Mark mark.OpenBrace brace ∷ rest) w)
      (leads_next _ (types.reads g type (Mark mark.OpenBrace brace ∷ rest) w (omega arith)) (breaks wide (Mark mark.OpenBrace brace ∷ rest) refl))))

  pub compound_reads : (at : Place) (type : tree.TypeName) (brace : Place) → IsExtended g → IsTypeName g names type → Reading names d g (tree.Compound at type brace)
  unfolding operand operand_from after_cast_paren
  compound_reads at type brace wide w = reading_operand names d g (tree.Compound at type brace) (omega arith) (omega arith) (λ least rest high low ends.
      rw (type_flat type (Mark mark.OpenBrace brace ∷ []) rest)
      (leads_passes _ (and_from (nat_le least 13) _ (le-leb least 13 (omega arith)) (types.start g type (Bare separator.CloseParen ∷ Mark mark.OpenBrace brace ∷ rest) w))
      (leads_next _ (types.reads g type (Mark mark.OpenBrace brace ∷ rest) w (omega arith)) (breaks wide (Mark mark.OpenBrace brace ∷ rest) refl))))

  pub cast_reads : InnerReads names d → (at : Place) (type : tree.TypeName) (e : tree.Expr) → IsTypeName g names type → IsExpr g names e → 13 ≤ level e → Reading names d g (tree.Cast at type e)
  unfolding operand operand_from after_cast_paren
  cast_reads inner at type e w we fits = reading_operand names d g (tree.Cast at type e) (omega arith) (omega arith) (λ least rest high low ends.
      rw (type_flat type (expr_spelling e) rest)
      (leads_passes _ (and_from (nat_le least 13) _ (le-leb least 13 (omega arith)) (types.start g type (Bare separator.CloseParen ∷ (expr_spelling e ++ rest)) w))
      (leads_next _ (types.reads g type (expr_spelling e ++ rest) w (omega arith))
      (leads_fails _ (expr_no_brace names (first (expr_spelling e ++ rest)) (expr_starts g names e we rest))
      (leads_next _ (inner.expr g 13 e rest (omega arith) we fits (omega arith) (high_expr 13 (first rest) (omega arith) ends)) (equal refl))))))
