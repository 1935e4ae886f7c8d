-- What the rules for expressions keep.
use Rattle.std.proofs.Common.{◌≡◌, ℕ, suc, ◌≤◌, ◌<◌, max, nat_le, Bool, true, false, Option, Some, None, is_some, List, [], ◌∷◌, ◌++◌, map, length, refl, sym, ◌∙◌, ap, append_assoc, append-nil, length-append, arith}
use Rattle.std.proofs.lemmas.List.{map-append}
use Rattle.std.proofs.lemmas.Bool.{leb-true, and_parts, and_right, true≢false, lt-leb}
use Rattle.cc_base.specs.declared.place.Place.{Place}
use Rattle.c_lexer.specs.declared.number.IntegerType.TheVariants.{Int}
use Rattle.c_lexer.specs.declared.word.Keyword.TheVariants as keyword
use Rattle.c_lexer.specs.declared.punctuator.Punctuator.TheVariants as mark
use Rattle.c_lexer.specs.declared.token.TokenKind.TheVariants as kind
use Rattle.parse_rules.specs.Parsers.{first, by_first, skip, ◌>>◌}
use Rattle.parse_rules.specs.Grammars.{Language, Extended, CanBegin, Any}
use Rattle.parse_rules.specs.Rules.{Rule}
use Rattle.parse_rules.proofs.Combinators.{rule_pure, rule_refuse, rule_skip_the, rule_expect_the, rule_take_above_the, rule_bind, rule_seq, rule_branch, rule_told, rule_told_end, rule_unsupported, rule_weaker}
use Rattle.parse_rules.proofs.Loops.{Steps, rule_loop}
use Rattle.c_tree.specs.declared.leaf.Identifier.{Identifier}
use Rattle.c_tree.specs.declared.leaf.StringPiece.{StringPiece}
use Rattle.c_tree.specs.declared.leaf.Separator.TheVariants as separator
use Rattle.c_tree.specs.declared.operator.Binary.{Binary}
use Rattle.c_tree.specs.declared.operator.Binary.TheVariants as binary
use Rattle.c_tree.specs.declared.operator.Unary.{Unary}
use Rattle.c_tree.specs.declared.operator.Unary.TheVariants as unary
use Rattle.c_tree.specs.Depth.{expr_height, arguments_height, type_name_height, declared_height}
use Rattle.c_tree.specs.Grammar.{Naming, WithName, WithoutName, WithOrWithout, IsExpr, AreArguments, IsTypeName, IsDeclared, level, is_no_argument}
use Rattle.c_tree.specs.Operators.{precedence, operand_level, unary_symbol, member_mark, step_mark}
use Rattle.c_tree.specs.Spelling.{expr_spelling, arguments_spelling, before_argument, type_name_spelling, declared_spelling, name_symbol, piece_symbol}
use Rattle.c_tree.specs.Symbols.{Symbol, Name, Integer, Character, Mark, Word, Bare}
use Rattle.c_tree.specs.Tree as tree
use Rattle.c_tree.specs.Words.{TypeNames, InType}
use Rattle.c_parse_words.specs.WordRules.{next_piece}
use Rattle.c_parse_words.specs.Levels.{begins_cast}
use Rattle.c_parse_words.specs.Spells.{Spells}
use Rattle.c_parse_words.specs.Tests.{is_close_paren, is_close_bracket, is_comma, begins_expr, begins_specifier, begins_declarator, Suffix, IndexAt, CallAt, MemberAt, StepAt, NoSuffix, suffix, is_suffix, has_suffix, word_name, string_piece, open_paren, open_brace, Start, StartName, StartInteger, StartCharacter, StartString, StartParen, StartPrefix, StartSizeOf, NoStart, start, is_start, begins_type, binds, binds_at, binary_operator, Operator, At}
use Rattle.c_parse_words.specs.Written.{IsWritten}
use Rattle.c_parse_words.proofs.Take.{Tells, rule_take, rule_take_here}
use Rattle.c_parse_words.proofs.TokenLaws.{comma_here, suffix_here, word_name_here, string_piece_here, close_bracket_only, close_paren_only, open_paren_here, open_brace_here, start_here, start_is}
use Rattle.c_parse_words.proofs.Written.{some_place, written_close_paren, written_close_bracket}
use Rattle.c_expr_parse.specs.ExprRules.{declared, type_name, next_argument, arguments, with_suffix, postfix_step, postfix, after_paren, after_cast_paren, after_sizeof_paren, after_sizeof, operand_from, operand}
use Rattle.c_expr_parse.specs.Parts.{SpellsExpr}
use Rattle.c_expr_parse.specs.Rules.{rules}
use Rattle.c_expr_parse.proofs.Kept.{InnerKeeps}

-- Type names.

no_declarator_at_end : (names : TypeNames) (naming : Naming) → begins_declarator names naming None ≡ false
no_declarator_at_end names WithName = refl
no_declarator_at_end names WithoutName = refl
no_declarator_at_end names WithOrWithout = refl

pub keeps_declared : (names : TypeNames) (d : ℕ) → InnerKeeps names d → (naming : Naming) (ts : List Symbol)
    → Rule IsWritten true false (λ d'. declared names (rules names d') naming) d (λ g. Spells (IsDeclared g names naming) declared_spelling) (λ x. declared_height x ≤ d) Any ts
unfolding declared
keeps_declared names d inner naming ts =
    rule_branch (begins_declarator names naming) (no_declarator_at_end names naming)
    (λ begins. rule_bind (inner.declarator naming true ts (λ _. begins)) (λ x s rest.
    rule_pure (λ g u. record { within = u.within; spelled = append-nil s ∙ u.spelled }) (λ low. low) tt))
    (λ _. rule_pure (λ g. record { within = tt; spelled = refl }) (omega arith) tt)

pub keeps_type_name : (names : TypeNames) (d : ℕ) → InnerKeeps names d → (moves : Bool) (ts : List Symbol) → (moves ≡ true → begins_specifier names InType (first ts) ≡ true)
    → Rule IsWritten true moves (λ d'. type_name names (rules names d')) d (λ g. Spells (IsTypeName g names) type_name_spelling) (λ x. type_name_height x ≤ d) Any ts
unfolding type_name
keeps_type_name names d inner moves ts begins =
    rule_bind (inner.specifiers InType moves ts begins) (λ specifiers s rest.
    rule_bind (keeps_declared names d inner WithoutName rest) (λ x s' rest'.
    rule_pure (λ g u v. record { within = (v.within.0, v.within.1, u.within); spelled = rw (v.spelled, u.spelled, append-nil) refl }) (λ low low'. omega arith) tt))

-- What lies deeper, with nothing said of what follows.
pub deeper : (names : TypeNames) (d : ℕ) → InnerKeeps names d → (moves : Bool) (least : ℕ) (ts : List Symbol) → least ≤ 14 → (moves ≡ true → begins_expr names (first ts) ≡ true)
    → Rule IsWritten true moves (λ d'. (rules names d').expr least) d (SpellsExpr names least) (λ e. expr_height e ≤ d) Any ts
deeper names d inner moves least ts le begins = rule_weaker (λ g e s h. h) (λ e low. low) (λ e rest _. tt) (inner.expr least moves ts le begins)

pub join : {T : Type 0} (x y xy s s1 s' r : List T) → s ≡ x → s1 ≡ y → xy ≡ x ++ y → xy ++ s' ≡ r → s ++ (s1 ++ s') ≡ r
join x y xy s s1 s' r e1 e2 e3 e4 = rw (e1, e2, ← append_assoc x y s', ← e3) e4

-- Arguments.

abbrev pub AreSome : TypeNames → Language → tree.Arguments → List Symbol → Type 0
AreSome names g = Spells (λ x. AreArguments g names x × (is_no_argument x ≡ false)) arguments_spelling

keeps_next_argument : (names : TypeNames) (d : ℕ) → InnerKeeps names d → (before : tree.Arguments) (moves : Bool) (ts : List Symbol) → (moves ≡ true → begins_expr names (first ts) ≡ true)
    → Rule IsWritten true moves (λ d'. next_argument (rules names d') before) d
    (λ g x s. AreArguments g names before → AreSome names g x (before_argument before ++ s))
    (λ x. arguments_height before ≤ d → arguments_height x ≤ d) Any ts
unfolding next_argument
keeps_next_argument names d inner before moves ts begins =
    rule_bind (deeper names d inner moves 1 ts (omega arith) begins) (λ e s rest.
    rule_pure (λ g u v. record { within = ((v, u.within.0, u.within.1), refl); spelled = rw (u.spelled, append-nil) refl }) (λ low low'. omega arith) tt)

pub before_some : (x : tree.Arguments) → is_no_argument x ≡ false → before_argument x ≡ arguments_spelling x ++ Bare separator.Comma ∷ []
before_some tree.NoArgument e = cc
before_some (tree.AndArgument x a) e = sym (append_assoc (before_argument x) (expr_spelling a) (Bare separator.Comma ∷ []))

pub argument_steps : (names : TypeNames) (d : ℕ) → InnerKeeps names d
    → Steps IsWritten true d (λ _. is_comma) (λ d' before. skip >> next_argument (rules names d') before) (AreSome names) (λ x. arguments_height x ≤ d) Any
argument_steps names d inner = record {
  never = λ a. refl;
  at_end = λ a. tt;
  steps = λ a s rest _ comma.
      rule_seq (rule_skip_the (Bare separator.Comma) (comma_here (first rest) comma)) (λ t s1 r1.
      rule_weaker
      (λ g b s' h c u. record { within = (h u.within.0).within; spelled = join (arguments_spelling a) (Bare separator.Comma ∷ []) (before_argument a) s s1 s' (arguments_spelling b) u.spelled c (before_some a u.within.1) (h u.within.0).spelled })
      (λ b h _ low. h low) (λ b r _. tt)
      (keeps_next_argument names d inner a false r1 (λ m. cc)));
}

pub keeps_arguments : (names : TypeNames) (d : ℕ) → InnerKeeps names d → (ts : List Symbol)
    → Rule IsWritten true false (λ d'. arguments names (rules names d')) d (λ g. Spells (AreArguments g names) arguments_spelling) (λ x. arguments_height x ≤ d) Any ts
unfolding arguments
keeps_arguments names d inner ts =
    rule_branch (begins_expr names) refl
    (λ begins. rule_bind (keeps_next_argument names d inner tree.NoArgument true ts (λ _. begins)) (λ x s rest.
    rule_weaker (λ g b s' h u. record { within = (h u).within.0; spelled = (h u).spelled }) (λ b h low. h low) (λ b r _. tt)
    (rule_loop (argument_steps names d inner) x s (λ g u. u tt) (λ low. low (omega arith)) tt)))
    (λ _. rule_pure (λ g. record { within = tt; spelled = refl }) (omega arith) tt)

-- No operator comes that binds more tightly than the expression does.
abbrev pub Fits : tree.Expr → List Symbol → Type 0
Fits e rest = binds (suc (level e)) (first rest) ≡ false

pub precedence_high : (op : Binary) → precedence op ≤ 12
precedence_high binary.Multiply = omega arith
precedence_high op = omega arith

pub precedence_low : (op : Binary) → 3 ≤ precedence op
precedence_low binary.Multiply = omega arith
precedence_low op = omega arith

pub above_all : (least : ℕ) → 13 ≤ least → (o : Option (Operator Binary)) → binds_at least o ≡ false
above_all least le None = refl
above_all least le (Some (At op at)) = lt-leb least (precedence op) (omega (arith, precedence_high op))

pub tight : (e : tree.Expr) (rest : List Symbol) → 12 ≤ level e → Fits e rest
tight e rest le = above_all (suc (level e)) (omega arith) (binary_operator (first rest))

-- Postfix expressions.

written_a : IsWritten (Name (97 ∷ []) some_place)
written_a = record { bytes = 97 ∷ []; kind = kind.Identifier; place = some_place; is_token = refl; is_symbol = refl }

abbrev some_name : Identifier
some_name = record { bytes = 97 ∷ []; place = some_place }

words_told : Tells word_name name_symbol
words_told = record {
  none = refl;
  only = λ t x e.
      let here : Some t ≡ Some (name_symbol x) = word_name_here (Some t) x e in
      cc;
}

keeps_suffix : (names : TypeNames) (d : ℕ) → InnerKeeps names d → (e : tree.Expr) (s rest : List Symbol) (k : Suffix) → suffix (first rest) ≡ k → is_suffix k ≡ true
    → Rule IsWritten true true (λ d'. postfix_step names d' (rules names d') e) d (λ g b s'. SpellsExpr names 15 g e s → SpellsExpr names 15 g b (s ++ s'))
    (λ b. expr_height e ≤ suc d → expr_height b ≤ suc d) Fits rest
unfolding postfix_step with_suffix
keeps_suffix names d inner e s rest (IndexAt at) here goes =
    rule_told suffix (λ d'. with_suffix names d' (rules names d') e) here
    (rule_seq (rule_take_above_the (Mark mark.OpenBracket at) (suffix_here (first rest) (IndexAt at) here)) (λ t s1 r1.
    rule_bind (deeper names d inner false 0 r1 (omega arith) (λ m. cc)) (λ index s2 r2.
    rule_seq (rule_expect_the is_close_bracket (Bare separator.CloseBracket) written_close_bracket refl refl close_bracket_only) (λ c s3 r3.
    rule_pure (λ g close u opens v. record { within = ((v.within.0, v.within.1, u.within.0), omega arith); spelled = rw (v.spelled, opens, u.spelled, close) refl })
    (λ _ low above _. omega arith) (tight (tree.Index e at index) r3 (omega arith))))))
keeps_suffix names d inner e s rest (CallAt at) here goes =
    rule_told suffix (λ d'. with_suffix names d' (rules names d') e) here
    (rule_seq (rule_take_above_the (Mark mark.OpenParen at) (suffix_here (first rest) (CallAt at) here)) (λ t s1 r1.
    rule_bind (keeps_arguments names d inner r1) (λ values s2 r2.
    rule_seq (rule_expect_the is_close_paren (Bare separator.CloseParen) written_close_paren refl refl close_paren_only) (λ c s3 r3.
    rule_pure (λ g close u opens v. record { within = ((v.within.0, v.within.1, u.within), omega arith); spelled = rw (v.spelled, opens, u.spelled, close) refl })
    (λ _ low above _. omega arith) (tight (tree.Call e at values) r3 (omega arith))))))
keeps_suffix names d inner e s rest (MemberAt op at) here goes =
    rule_told suffix (λ d'. with_suffix names d' (rules names d') e) here
    (rule_seq (rule_take_above_the (Mark (member_mark op) at) (suffix_here (first rest) (MemberAt op at) here)) (λ t s1 r1.
    rule_bind (rule_take word_name name_symbol words_told some_name written_a refl) (λ name s2 r2.
    rule_pure (λ g u opens v. record { within = ((v.within.0, v.within.1), omega arith); spelled = rw (v.spelled, opens, u.spelled) refl })
    (λ _ above _. omega arith) (tight (tree.Member e op at name) r2 (omega arith)))))
keeps_suffix names d inner e s rest (StepAt step at) here goes =
    rule_told suffix (λ d'. with_suffix names d' (rules names d') e) here
    (rule_seq (rule_take_above_the (Mark (step_mark step) at) (suffix_here (first rest) (StepAt step at) here)) (λ t s1 r1.
    rule_pure (λ g opens v. record { within = ((v.within.0, v.within.1), omega arith); spelled = rw (v.spelled, opens) refl })
    (λ above _. omega arith) (tight (tree.Postfix e step at) r1 (omega arith))))
keeps_suffix names d inner e s rest NoSuffix here goes = cc

pub postfix_steps : (names : TypeNames) (d : ℕ) → InnerKeeps names d
    → Steps IsWritten true d (λ _. has_suffix) (λ d' e. postfix_step names d' (rules names d') e) (SpellsExpr names 15) (λ e. expr_height e ≤ suc d) Fits
postfix_steps names d inner = record {
  never = λ a. refl;
  at_end = λ a. refl;
  steps = λ a s rest _ goes. keeps_suffix names d inner a s rest (suffix (first rest)) refl goes;
}

-- what goes on from a primary expression that was read as s
keeps_postfix : (names : TypeNames) (d : ℕ) → InnerKeeps names d → (e : tree.Expr) (s ts : List Symbol) → 15 ≤ level e
    → Rule IsWritten true false (λ d'. postfix names d' (rules names d') e) d (λ g b s'. SpellsExpr names 15 g e s → SpellsExpr names 15 g b (s ++ s'))
    (λ b. expr_height e ≤ suc d → expr_height b ≤ suc d) Fits ts
unfolding postfix
keeps_postfix names d inner e s ts high =
    rule_weaker (λ g b s' h. h) (λ b h. h) (λ b r x. x.0) (rule_loop (postfix_steps names d inner) e s (λ g u. u) (λ low. low) (tight e ts (omega arith)))

-- Primary expressions.

pub respell : (names : TypeNames) (g : Language) (low high : ℕ) (e : tree.Expr) (s s' : List Symbol) → low ≤ high → s' ≡ s → SpellsExpr names high g e s → SpellsExpr names low g e s'
respell names g low high e s s' le same u = record { within = (u.within.0, omega (arith, u.within.1)); spelled = same ∙ u.spelled }

-- adjacent string literals
abbrev pub ArePieces : Language → List StringPiece → List Symbol → Type 0
ArePieces g = Spells (λ pieces. 0 < length pieces) (map piece_symbol)

pieces_told : Tells string_piece piece_symbol
pieces_told = record {
  none = refl;
  only = λ t x e.
      let here : Some t ≡ Some (piece_symbol x) = string_piece_here (Some t) x e in
      cc;
}

pub piece_steps : (d : ℕ) → Steps IsWritten true d (λ _ next. is_some (string_piece next)) (λ _. next_piece) ArePieces (λ _. Unit {0}) Any
unfolding next_piece
piece_steps d = record {
  never = λ a. refl;
  at_end = λ a. tt;
  steps = λ a s rest _ goes.
      rule_bind (rule_take_here string_piece piece_symbol pieces_told goes) (λ piece s1 r1.
      rule_pure (λ g u v. record { within = omega (arith, length-append a (piece ∷ [])); spelled = rw (v.spelled, u.spelled, map-append) refl }) (λ _ _. tt) tt);
}

-- after the `(` of an expression in parentheses
pub keeps_after_paren : (names : TypeNames) (d : ℕ) → InnerKeeps names d → (at : Place) (moves : Bool) (ts : List Symbol) → (moves ≡ true → begins_expr names (first ts) ≡ true)
    → Rule IsWritten true moves (λ d'. after_paren names d' (rules names d') at) d (λ g e s. SpellsExpr names 15 g e (Mark mark.OpenParen at ∷ s)) (λ e. expr_height e ≤ suc d) Fits ts
unfolding after_paren
keeps_after_paren names d inner at moves ts begins =
    rule_bind (deeper names d inner moves 0 ts (omega arith) begins) (λ e s1 r1.
    rule_seq (rule_expect_the is_close_paren (Bare separator.CloseParen) written_close_paren refl refl close_paren_only) (λ c s2 r2.
    rule_weaker
    (λ g b s' h close u. respell names g 15 15 b ((Mark mark.OpenParen at ∷ (s1 ++ s2)) ++ s') (Mark mark.OpenParen at ∷ (s1 ++ (s2 ++ s'))) (omega arith) (rw append_assoc refl)
    (h (record { within = (u.within.0, omega arith); spelled = rw (u.spelled, close) refl })))
    (λ b h _ low. h (omega arith)) (λ b r x. x)
    (keeps_postfix names d inner (tree.Paren at e) (Mark mark.OpenParen at ∷ (s1 ++ s2)) r2 (omega arith))))

-- Casts and `sizeof`.

abbrev pub zero_expr : tree.Expr
zero_expr = tree.Integer Int 0 some_place

pub written_zero : IsWritten (Integer Int 0 some_place)
written_zero = record { bytes = 48 ∷ []; kind = kind.Integer Int 0; place = some_place; is_token = refl; is_symbol = refl }

brace_here : (next : Option Symbol) (o : Option Place) → open_brace next ≡ o → is_some o ≡ true → (at : Place) × (next ≡ Some (Mark mark.OpenBrace at))
brace_here next None e some = cc
brace_here next (Some at) e some = (at, open_brace_here next at e)

-- after the `(` of a cast
keeps_after_cast_paren : (names : TypeNames) (d : ℕ) → InnerKeeps names d → (at : Place) (moves : Bool) (ts : List Symbol) → (moves ≡ true → begins_type names (first ts) ≡ true)
    → Rule IsWritten true moves (λ d'. after_cast_paren names (rules names d') at) d (λ g e s. SpellsExpr names 13 g e (Mark mark.OpenParen at ∷ s)) (λ e. expr_height e ≤ suc d) Fits ts
unfolding after_cast_paren
keeps_after_cast_paren names d inner at moves ts begins =
    rule_bind (keeps_type_name names d inner moves ts begins) (λ type s1 r1.
    rule_seq (rule_expect_the is_close_paren (Bare separator.CloseParen) written_close_paren refl refl close_paren_only) (λ c s2 r2.
    rule_unsupported (λ next. is_some (open_brace next)) refl
    (λ _. record { part = tree.Cast at type zero_expr; more = Integer Int 0 some_place ∷ []; valid = (written_zero, tt); spells = λ g close u. record { within = ((u.within, tt, omega arith), omega arith); spelled = rw (u.spelled, close) refl } })
    (λ t _ test. wider type s1 s2 t (brace_here (Some t) (open_brace (Some t)) refl test))
    (λ _. rule_bind (deeper names d inner false 13 r2 (omega arith) (λ m. cc)) (λ e s3 r3.
    rule_pure (λ g v close u. record { within = ((u.within, v.within.0, v.within.1), omega arith); spelled = rw (u.spelled, close, v.spelled, append-nil) refl }) (λ low _ low'. omega arith) (tight (tree.Cast at type e) r3 (omega arith))))))
  where
    wider : (type : tree.TypeName) (s1 s2 : List Symbol) (t : Symbol) → (brace : Place) × (Some t ≡ Some (Mark mark.OpenBrace brace))
        → CanBegin IsWritten (λ e s'. s2 ≡ Bare separator.CloseParen ∷ [] → Spells (IsTypeName Extended names) type_name_spelling type s1 → SpellsExpr names 13 Extended e (Mark mark.OpenParen at ∷ (s1 ++ (s2 ++ s')))) (t ∷ [])
    wider type s1 s2 t (brace, here) =
        let is : t ≡ Mark mark.OpenBrace brace = cc in
        record { part = tree.Compound at type brace; more = []; valid = tt; spells = λ close u. record { within = ((tt, u.within), omega arith); spelled = rw (u.spelled, close, is) refl } }

-- after `sizeof` and a `(`
keeps_after_sizeof_paren : (names : TypeNames) (d : ℕ) → InnerKeeps names d → (at paren : Place) (ts : List Symbol)
    → Rule IsWritten true false (λ d'. after_sizeof_paren names (rules names d') at paren) d (λ g e s. SpellsExpr names 14 g e (Word keyword.Sizeof at ∷ Mark mark.OpenParen paren ∷ s)) (λ e. expr_height e ≤ suc d) Fits ts
unfolding after_sizeof_paren
keeps_after_sizeof_paren names d inner at paren ts =
    rule_branch (begins_type names) refl
    (λ begins. rule_bind (keeps_type_name names d inner true ts (λ _. begins)) (λ type s1 r1.
    rule_seq (rule_expect_the is_close_paren (Bare separator.CloseParen) written_close_paren refl refl close_paren_only) (λ c s2 r2.
    rule_unsupported (λ next. is_some (open_brace next)) refl
    (λ _. record { part = tree.SizeOfType at paren type; more = []; valid = tt; spells = λ g close u. record { within = (u.within, omega arith); spelled = rw (u.spelled, close) refl } })
    (λ t _ test. wider type s1 s2 t (brace_here (Some t) (open_brace (Some t)) refl test))
    (λ _. rule_pure (λ g close u. record { within = (u.within, omega arith); spelled = rw (u.spelled, close) refl }) (λ _ low. omega arith) (tight (tree.SizeOfType at paren type) r2 (omega arith))))))
    (λ _. rule_bind (inner.paren paren ts) (λ e s r.
    rule_pure (λ g u. record { within = ((u.within.0, u.within.1), omega arith); spelled = ap (λ x. Word keyword.Sizeof at ∷ x) (rw (append-nil s) u.spelled) }) (λ low. omega arith) (tight (tree.Prefix unary.SizeOf at e) r (omega arith))))
  where
    wider : (type : tree.TypeName) (s1 s2 : List Symbol) (t : Symbol) → (brace : Place) × (Some t ≡ Some (Mark mark.OpenBrace brace))
        → CanBegin IsWritten (λ e s'. s2 ≡ Bare separator.CloseParen ∷ [] → Spells (IsTypeName Extended names) type_name_spelling type s1
        → SpellsExpr names 14 Extended e (Word keyword.Sizeof at ∷ Mark mark.OpenParen paren ∷ (s1 ++ (s2 ++ s')))) (t ∷ [])
    wider type s1 s2 t (brace, here) =
        let is : t ≡ Mark mark.OpenBrace brace = cc in
        record { part = tree.SizeOfCompound at paren type brace; more = []; valid = tt; spells = λ close u. record { within = ((tt, u.within), omega arith); spelled = rw (u.spelled, close, is) refl } }

-- after `sizeof`
keeps_after_sizeof : (names : TypeNames) (d : ℕ) → InnerKeeps names d → (at : Place) (ts : List Symbol) (o : Option Place) → open_paren (first ts) ≡ o
    → Rule IsWritten true false (λ d'. by_first open_paren (after_sizeof names (rules names d') at)) d (λ g e s. SpellsExpr names 14 g e (Word keyword.Sizeof at ∷ s)) (λ e. expr_height e ≤ suc d) Fits ts
unfolding after_sizeof
keeps_after_sizeof names d inner at ts (Some paren) here =
    rule_told open_paren (λ d'. after_sizeof names (rules names d') at) here
    (rule_seq (rule_skip_the (Mark mark.OpenParen paren) (open_paren_here (first ts) paren here)) (λ t s1 r1.
    rule_weaker (λ g b s' h opens. rw opens h) (λ b low _. low) (λ b r x. x) (keeps_after_sizeof_paren names d inner at paren r1)))
keeps_after_sizeof names d inner at ts None here =
    rule_told_end open_paren (λ d'. after_sizeof names (rules names d') at) here
    (rule_bind (deeper names d inner false 14 ts (omega arith) (λ m. cc)) (λ e s r.
    rule_pure (λ g u. record { within = ((u.within.0, u.within.1), omega arith); spelled = rw (u.spelled, append-nil) refl }) (λ low. omega arith) (tight (tree.Prefix unary.SizeOf at e) r (omega arith))))

-- Operands.

-- a token that is a primary expression, and what goes on from it
keeps_primary : (names : TypeNames) (d : ℕ) → InnerKeeps names d → (least : ℕ) → least ≤ 14 → (e : tree.Expr) (t : Symbol) (ts : List Symbol)
    → first ts ≡ Some t → ((g : Language) → IsExpr g names e) → 15 ≤ level e → expr_height e ≤ 1 → t ∷ [] ≡ expr_spelling e
    → Rule IsWritten true true (λ d'. skip >> postfix names d' (rules names d') e) d (SpellsExpr names (max least 13)) (λ b. expr_height b ≤ suc d) Fits ts
keeps_primary names d inner least le e t ts here within high low spelled =
    rule_seq (rule_skip_the t here) (λ u s r.
    rule_weaker
    (λ g b s' h is. respell names g (max least 13) 15 b (s ++ s') (s ++ s') (omega arith) refl (h (record { within = (within g, high); spelled = is ∙ spelled })))
    (λ b h _. h (omega arith)) (λ b rest x. x)
    (keeps_postfix names d inner e s r high))

begins_no_cast_at_end : (names : TypeNames) (least : ℕ) → begins_cast names least None ≡ false
begins_no_cast_at_end names least = and_right (nat_le least 13) false refl

pub operand_low : (op : Unary) → operand_level op ≤ 14
operand_low unary.SizeOf = omega arith
operand_low op = omega arith

keeps_operand_from : (names : TypeNames) (d : ℕ) → InnerKeeps names d → (least : ℕ) (moves : Bool) (ts : List Symbol) → least ≤ 14 → (k : Start) → start names (first ts) ≡ k → (moves ≡ true → is_start k ≡ true)
    → Rule IsWritten true moves (λ d'. by_first (start names) (operand_from names d' (rules names d') least)) d (SpellsExpr names (max least 13)) (λ b. expr_height b ≤ suc d) Fits ts
unfolding operand_from
keeps_operand_from names d inner least moves ts le (StartName name) here begins =
    rule_told (start names) (λ d'. operand_from names d' (rules names d') least) here
    (keeps_primary names d inner least le (tree.Name name) (name_symbol name) ts (start_here names (first ts) (StartName name) here)
    (λ g. start_is names (first ts) (StartName name) here) (omega arith) (omega arith) refl)
keeps_operand_from names d inner least moves ts le (StartInteger type value place) here begins =
    rule_told (start names) (λ d'. operand_from names d' (rules names d') least) here
    (keeps_primary names d inner least le (tree.Integer type value place) (Integer type value place) ts (start_here names (first ts) (StartInteger type value place) here)
    (λ g. tt) (omega arith) (omega arith) refl)
keeps_operand_from names d inner least moves ts le (StartCharacter value place) here begins =
    rule_told (start names) (λ d'. operand_from names d' (rules names d') least) here
    (keeps_primary names d inner least le (tree.Character value place) (Character value place) ts (start_here names (first ts) (StartCharacter value place) here)
    (λ g. tt) (omega arith) (omega arith) refl)
keeps_operand_from names d inner least moves ts le (StartString piece) here begins =
    rule_told (start names) (λ d'. operand_from names d' (rules names d') least) here
    (rule_seq (rule_skip_the (piece_symbol piece) (start_here names (first ts) (StartString piece) here)) (λ t s1 r1.
    rule_bind (rule_weaker (λ g b s' h. h) (λ b low. low) (λ b r _. tt) (rule_loop (piece_steps d) {Start = λ _. Unit {0}} {LowStart = Unit {0}} (piece ∷ []) (piece_symbol piece ∷ []) (λ g _. record { within = omega arith; spelled = refl }) (λ _. tt) tt)) (λ pieces s2 r2.
    rule_weaker
    (λ g b s' h u is. respell names g (max least 13) 15 b ((piece_symbol piece ∷ s2) ++ s') (s1 ++ (s2 ++ s')) (omega arith) (rw is refl)
    (h (record { within = ((u tt).within, omega arith); spelled = (u tt).spelled })))
    (λ b h _ _. h (omega arith)) (λ b r x. x)
    (keeps_postfix names d inner (tree.String pieces) (piece_symbol piece ∷ s2) r2 (omega arith)))))
keeps_operand_from names d inner least moves ts le (StartParen at) here begins =
    rule_told (start names) (λ d'. operand_from names d' (rules names d') least) here
    (rule_seq (rule_skip_the (Mark mark.OpenParen at) (start_here names (first ts) (StartParen at) here)) (λ t s1 r1.
    rule_branch (begins_cast names least) (begins_no_cast_at_end names least)
    (λ cast.
    let parts = and_parts (nat_le least 13) (begins_type names (first r1)) cast in
    let fits : least ≤ 13 = leb-true least 13 parts.0 in
    rule_weaker (λ g b s' h opens. respell names g (max least 13) 13 b (Mark mark.OpenParen at ∷ s') (s1 ++ s') (omega arith) (rw opens refl) h) (λ b low _. low) (λ b r x. x)
    (keeps_after_cast_paren names d inner at true r1 (λ _. parts.1)))
    (λ _.
    rule_weaker (λ g b s' h opens. respell names g (max least 13) 15 b (Mark mark.OpenParen at ∷ s') (s1 ++ s') (omega arith) (rw opens refl) h) (λ b low _. low) (λ b r x. x)
    (keeps_after_paren names d inner at false r1 (λ m. cc)))))
keeps_operand_from names d inner least moves ts le (StartPrefix op at) here begins =
    rule_told (start names) (λ d'. operand_from names d' (rules names d') least) here
    (rule_seq (rule_skip_the (unary_symbol op at) (start_here names (first ts) (StartPrefix op at) here)) (λ t s1 r1.
    rule_bind (deeper names d inner false (operand_level op) r1 (operand_low op) (λ m. cc)) (λ e s2 r2.
    rule_pure (λ g u is. record { within = ((u.within.0, u.within.1), omega arith); spelled = rw (is, u.spelled, append-nil) refl }) (λ low _. omega arith) (tight (tree.Prefix op at e) r2 (omega arith)))))
keeps_operand_from names d inner least moves ts le (StartSizeOf at) here begins =
    rule_told (start names) (λ d'. operand_from names d' (rules names d') least) here
    (rule_seq (rule_skip_the (Word keyword.Sizeof at) (start_here names (first ts) (StartSizeOf at) here)) (λ t s1 r1.
    rule_weaker (λ g b s' h is. respell names g (max least 13) 14 b (Word keyword.Sizeof at ∷ s') (s1 ++ s') (omega arith) (rw is refl) h) (λ b low _. low) (λ b r x. x)
    (keeps_after_sizeof names d inner at r1 (open_paren (first r1)) refl)))
keeps_operand_from names d inner least true ts le NoStart here begins = absurd (true≢false (sym (begins refl)))
keeps_operand_from names d inner least false ts le NoStart here begins =
    rule_told_end (start names) (λ d'. operand_from names d' (rules names d') least) here
    (rule_refuse (record { part = zero_expr; more = Integer Int 0 some_place ∷ []; valid = (written_zero, tt); spells = λ g. record { within = (tt, omega arith); spelled = refl } }))

pub keeps_operand : (names : TypeNames) (d : ℕ) → InnerKeeps names d → (least : ℕ) (moves : Bool) (ts : List Symbol) → least ≤ 14 → (moves ≡ true → begins_expr names (first ts) ≡ true)
    → Rule IsWritten true moves (λ d'. operand names d' (rules names d') least) d (SpellsExpr names (max least 13)) (λ b. expr_height b ≤ suc d) Fits ts
unfolding operand
keeps_operand names d inner least moves ts le begins = keeps_operand_from names d inner least moves ts le (start names (first ts)) refl begins
