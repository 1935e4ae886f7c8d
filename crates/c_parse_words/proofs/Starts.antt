-- How the spelling of an expression begins.
use Rattle.std.proofs.Common.{◌≡◌, ℕ, ◌<◌, Bool, true, false, cond, Option, Some, None, List, [], ◌∷◌, ◌++◌, length, map, refl, append_assoc, arith}
use Rattle.cc_base.specs.declared.place.Place.{Place}
use Rattle.c_lexer.specs.declared.word.Keyword.{Keyword}
use Rattle.c_lexer.specs.declared.word.Keyword.TheVariants as keyword
use Rattle.parse_rules.specs.Parsers.{first}
use Rattle.parse_rules.specs.Grammars.{Language}
use Rattle.c_tree.specs.declared.leaf.StringPiece.{StringPiece}
use Rattle.c_tree.specs.declared.operator.Unary.{Unary}
use Rattle.c_tree.specs.declared.operator.Unary.TheVariants as unary
use Rattle.c_tree.specs.Grammar.{IsExpr}
use Rattle.c_tree.specs.Operators.{unary_symbol}
use Rattle.c_tree.specs.Spelling.{expr_spelling, piece_symbol}
use Rattle.c_tree.specs.Symbols.{Symbol, Name, Integer, Character, Quoted, Word, Mark, Bare}
use Rattle.c_tree.specs.Tree as tree
use Rattle.c_tree.specs.Words.{TypeNames, Scope, AtFile, InBlock, InType, is_type_name}
use Rattle.c_parse_words.specs.Tests.{begins_expr, begins_specifier, start_of_word, is_start, StartName, NoStart, is_specifier_start, NoSpecifierStart, StartTypedef, specifier_start_of_word}

-- An expression begins as one.

-- what is written in two parts begins as the first does
front : {T : Type 0} (test : Option T → Bool) (s s' rest : List T) → ((rest' : List T) → test (first (s ++ rest')) ≡ true) → test (first ((s ++ s') ++ rest)) ≡ true
front test s s' rest h = rw (append_assoc s s' rest) (h (s' ++ rest))

unary_starts : (names : TypeNames) (op : Unary) (at : Place) → begins_expr names (Some (unary_symbol op at)) ≡ true
unary_starts names unary.SizeOf at = refl
unary_starts names op at = refl

name_starts : (names : TypeNames) (bytes : List ℕ) (at : Place) → is_type_name names bytes ≡ false → begins_expr names (Some (Name bytes at)) ≡ true
name_starts names bytes at e = rw e refl

pieces_start : (names : TypeNames) (pieces : List StringPiece) (rest : List Symbol) → 0 < length pieces → begins_expr names (first (map piece_symbol pieces ++ rest)) ≡ true
pieces_start names [] rest some = absurd (omega arith)
pieces_start names (piece ∷ pieces) rest some = refl

pub expr_starts : (g : Language) (names : TypeNames) (e : tree.Expr) → IsExpr g names e → (rest : List Symbol) → begins_expr names (first (expr_spelling e ++ rest)) ≡ true
expr_starts g names (tree.Name name) w rest = name_starts names name.bytes name.place w
expr_starts g names (tree.Integer type value place) w rest = refl
expr_starts g names (tree.Character value place) w rest = refl
expr_starts g names (tree.String pieces) w rest = pieces_start names pieces rest w
expr_starts g names (tree.Paren at e) w rest = refl
expr_starts g names (tree.Index e at index) w rest = front (begins_expr names) (expr_spelling e) _ rest (expr_starts g names e w.0)
expr_starts g names (tree.Call e at arguments) w rest = front (begins_expr names) (expr_spelling e) _ rest (expr_starts g names e w.0)
expr_starts g names (tree.Member e op at name) w rest = front (begins_expr names) (expr_spelling e) _ rest (expr_starts g names e w.0)
expr_starts g names (tree.Postfix e step at) w rest = front (begins_expr names) (expr_spelling e) _ rest (expr_starts g names e w.0)
expr_starts g names (tree.Prefix op at e) w rest = unary_starts names op at
expr_starts g names (tree.SizeOfType at paren type) w rest = refl
expr_starts g names (tree.Cast at type e) w rest = refl
expr_starts g names (tree.Infix op left at right) w rest = front (begins_expr names) (expr_spelling left) _ rest (expr_starts g names left w.0)
expr_starts g names (tree.Conditional test at then_ else_) w rest = front (begins_expr names) (expr_spelling test) _ rest (expr_starts g names test w.0)
expr_starts g names (tree.Assign op left at right) w rest = front (begins_expr names) (expr_spelling left) _ rest (expr_starts g names left w.0)
expr_starts g names (tree.Comma left right) w rest = front (begins_expr names) (expr_spelling left) _ rest (expr_starts g names left w.0)
expr_starts g names (tree.Compound at type brace) w rest = refl
expr_starts g names (tree.SizeOfCompound at paren type brace) w rest = refl

-- A token that begins an expression begins no specifier.

sizeof_apart : (scope : Scope) (at : Place) → is_specifier_start (specifier_start_of_word scope keyword.Sizeof at) ≡ false
sizeof_apart AtFile at = refl
sizeof_apart InBlock at = refl
sizeof_apart InType at = refl

word_apart : (scope : Scope) (word : Keyword) (at : Place) → is_start (start_of_word word at) ≡ true → is_specifier_start (specifier_start_of_word scope word at) ≡ false
word_apart scope keyword.Sizeof at e = sizeof_apart scope at
word_apart scope word at e = cc

name_apart : (is_type : Bool) (bytes : List ℕ) (at : Place) → is_start (cond is_type NoStart (StartName (record { bytes = bytes; place = at }))) ≡ true
    → is_specifier_start (cond is_type (StartTypedef (record { bytes = bytes; place = at })) NoSpecifierStart) ≡ false
name_apart true bytes at e = cc
name_apart false bytes at e = refl

pub expr_apart : (names : TypeNames) (scope : Scope) (next : Option Symbol) → begins_expr names next ≡ true → begins_specifier names scope next ≡ false
expr_apart names scope (Some (Name bytes at)) e = name_apart (is_type_name names bytes) bytes at e
expr_apart names scope (Some (Word word at)) e = word_apart scope word at e
expr_apart names scope (Some (Integer type value at)) e = refl
expr_apart names scope (Some (Character value at)) e = refl
expr_apart names scope (Some (Quoted bytes at)) e = refl
expr_apart names scope (Some (Mark p at)) e = refl
expr_apart names scope (Some (Bare separator)) e = refl
expr_apart names scope None e = refl
