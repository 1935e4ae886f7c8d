-- The rule for statements at each number of nodes that is allowed.
use Rattle.std.proofs.Common.{◌≡◌, ℕ, zero, suc, Bool, true, false, ◌||◌, Some, None, List, [], ◌∷◌, ◌++◌, refl, ap}
use Rattle.c_lexer.specs.declared.number.IntegerType.TheVariants.{Int}
use Rattle.c_lexer.specs.declared.word.Keyword.TheVariants as keyword
use Rattle.c_lexer.specs.declared.punctuator.Punctuator.TheVariants as mark
use Rattle.parse_rules.specs.Parsers.{Stopped, Syntax, first}
use Rattle.parse_rules.specs.Grammars.{CanBegin, InBoth}
use Rattle.parse_rules.proofs.Combinators.{rule_deeper, rule_shallow}
use Rattle.parse_rules.proofs.Composition.{each_append}
use Rattle.c_tree.specs.declared.leaf.Separator.TheVariants as separator
use Rattle.c_tree.specs.Symbols.{Symbol, Integer, Word, Mark, Bare}
use Rattle.c_tree.specs.Tree as tree
use Rattle.c_tree.specs.Words.{TypeNames}
use Rattle.c_parse_words.specs.Tests.{begins_expr}
use Rattle.c_parse_words.specs.Written.{IsWritten}
use Rattle.c_parse_words.proofs.Written.{some_place, written_close_paren, written_close_brace, written_open_brace, written_semicolon}
use Rattle.c_expr_parse.proofs.ExprDepth.{begun, expr_refuses}
use Rattle.c_expr_parse.proofs.ExprLaws.{zero_expr, written_zero}
use Rattle.c_parser.specs.StatementRules.{statement_from, statement}
use Rattle.c_parser.specs.Tests.{StatementStart, StartBlock, StartEmpty, StartIf, StartSwitch, StartWhile, StartDo, StartFor, StartBreak, StartContinue, StartReturn, NoStatementStart, statement_start, is_statement_start, begins_statement}
use Rattle.c_parser.proofs.BlockLaws.{StatementIn, KeepsStatement}
use Rattle.c_parser.proofs.StatementLaws.{keeps_from}
use Rattle.c_parser.proofs.StatementTokens.{start_symbol, start_here, written_open_paren, written_while}

-- A statement that begins with the token.

some_statement : (names : TypeNames) → CanBegin IsWritten (InBoth (StatementIn names)) []
some_statement names = record { part = tree.Empty; more = Bare separator.Semicolon ∷ []; valid = (written_semicolon, tt); spells = λ g. record { within = tt; spelled = refl } }

opens : Symbol
opens = Mark mark.OpenParen some_place

closes : Symbol
closes = Bare separator.CloseParen

ends : Symbol
ends = Bare separator.Semicolon

zero_token : Symbol
zero_token = Integer Int 0 some_place

statement_with : (names : TypeNames) (x : StatementStart) (t : Symbol) → Some t ≡ start_symbol None x → is_statement_start x ≡ true → CanBegin IsWritten (InBoth (StatementIn names)) (t ∷ [])
unfolding opens closes ends zero_token
statement_with names (StartBlock at) t here some = record {
  part = tree.Block at tree.NoBlockItem;
  more = Bare separator.CloseBrace ∷ [];
  valid = (written_close_brace, tt);
  spells = λ g. record { within = (tt, refl); spelled = cc };
}
statement_with names StartEmpty t here some = record { part = tree.Empty; more = []; valid = tt; spells = λ g. record { within = tt; spelled = cc } }
statement_with names (StartIf at) t here some = record {
  part = tree.If at some_place zero_expr tree.Empty;
  more = opens ∷ zero_token ∷ closes ∷ ends ∷ [];
  valid = (written_open_paren some_place, (written_zero, (written_close_paren, (written_semicolon, tt))));
  spells = λ g. record { within = (tt, tt); spelled = cc };
}
statement_with names (StartSwitch at) t here some = record {
  part = tree.Switch at some_place zero_expr some_place tree.NoBlockItem;
  more = opens ∷ zero_token ∷ closes ∷ Mark mark.OpenBrace some_place ∷ Bare separator.CloseBrace ∷ [];
  valid = (written_open_paren some_place, (written_zero, (written_close_paren, (written_open_brace some_place, (written_close_brace, tt)))));
  spells = λ g. record { within = (tt, tt, refl); spelled = cc };
}
statement_with names (StartWhile at) t here some = record {
  part = tree.While at some_place zero_expr tree.Empty;
  more = opens ∷ zero_token ∷ closes ∷ ends ∷ [];
  valid = (written_open_paren some_place, (written_zero, (written_close_paren, (written_semicolon, tt))));
  spells = λ g. record { within = (tt, tt); spelled = cc };
}
statement_with names StartDo t here some = record {
  part = tree.DoWhile tree.Empty some_place some_place zero_expr;
  more = ends ∷ Word keyword.While some_place ∷ opens ∷ zero_token ∷ closes ∷ ends ∷ [];
  valid = (written_semicolon, (written_while some_place, (written_open_paren some_place, (written_zero, (written_close_paren, (written_semicolon, tt))))));
  spells = λ g. record { within = (tt, tt); spelled = cc };
}
statement_with names (StartFor at) t here some = record {
  part = tree.For at some_place None None None tree.Empty;
  more = opens ∷ ends ∷ ends ∷ closes ∷ ends ∷ [];
  valid = (written_open_paren some_place, (written_semicolon, (written_semicolon, (written_close_paren, (written_semicolon, tt)))));
  spells = λ g. record { within = (tt, tt, tt, tt); spelled = cc };
}
statement_with names (StartBreak at) t here some = record { part = tree.Break at; more = ends ∷ []; valid = (written_semicolon, tt); spells = λ g. record { within = tt; spelled = cc } }
statement_with names (StartContinue at) t here some = record { part = tree.Continue at; more = ends ∷ []; valid = (written_semicolon, tt); spells = λ g. record { within = tt; spelled = cc } }
statement_with names (StartReturn at) t here some = record { part = tree.Return at None; more = ends ∷ []; valid = (written_semicolon, tt); spells = λ g. record { within = tt; spelled = cc } }
statement_with names NoStatementStart t here some = cc

expr_with : (names : TypeNames) (t : Symbol) → begins_expr names (Some t) ≡ true → CanBegin IsWritten (InBoth (StatementIn names)) (t ∷ [])
expr_with names t some =
    let h = begun names t some in
    record {
      part = tree.Express h.e;
      more = h.more ++ Bare separator.Semicolon ∷ [];
      valid = each_append IsWritten h.more (Bare separator.Semicolon ∷ []) h.valid (written_semicolon, tt);
      spells = λ g. record { within = h.within g; spelled = ap (λ x. x ++ Bare separator.Semicolon ∷ []) h.spelled };
    }

begins_with : (names : TypeNames) (t : Symbol) (x : StatementStart) (b : Bool) → statement_start (Some t) ≡ x → is_statement_start x ≡ b → (b || begins_expr names (Some t)) ≡ true → CanBegin IsWritten (InBoth (StatementIn names)) (t ∷ [])
begins_with names t NoStatementStart true e is some = cc
begins_with names t x true e is some = statement_with names x t (start_here (Some t) x e) is
begins_with names t x false e is some = expr_with names t some

-- Any other token is refused at once.

no_start : (x : StatementStart) → is_statement_start x ≡ false → x ≡ NoStatementStart
no_start NoStatementStart e = refl
no_start (StartBlock at) e = cc
no_start x e = cc

neither : (a b : Bool) → (a || b) ≡ false → (a ≡ false) × (b ≡ false)
neither true b e = cc
neither false b e = (refl, e)

pub statement_refuses : (names : TypeNames) (d : ℕ) (ts : List Symbol) → begins_statement names (first ts) ≡ false → statement names d ts ≡ Stopped Syntax ts
unfolding statement statement_from
statement_refuses names zero ts none = rw none refl
statement_refuses names (suc d) ts none =
    let parts = neither (is_statement_start (statement_start (first ts))) (begins_expr names (first ts)) none in
    rw (no_start (statement_start (first ts)) parts.0) (rw (expr_refuses names d 0 ts parts.1) refl)

pub keeps_statement : (names : TypeNames) (d : ℕ) → KeepsStatement names d
unfolding statement
keeps_statement names zero moves ts begins =
    rule_shallow (begins_statement names) refl begins (λ ts' some. rw some refl) (λ d' ts' none. statement_refuses names d' ts' none)
    (some_statement names) (λ t some. begins_with names t (statement_start (Some t)) (is_statement_start (statement_start (Some t))) refl refl some)
keeps_statement names (suc d) moves ts begins = rule_deeper (keeps_from (keeps_statement names d) (statement_start (first ts)) moves ts refl begins)
