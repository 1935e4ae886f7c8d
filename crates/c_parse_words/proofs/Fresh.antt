-- A name that is no typedef name and no keyword: longer than each of them, with two `a` in front.
use Rattle.std.proofs.Common.{◌≡◌, ℕ, zero, suc, ◌+◌, ◌<◌, Bool, true, false, ◌&&◌, eqb, List, [], ◌∷◌, length, replicate, bytes_eq, refl, arith}
use Rattle.std.specs.List.{list_all}
use Rattle.std.proofs.lemmas.List.{length-replicate}
use Rattle.c_lexer.specs.Bytes.{is_word_byte}
use Rattle.c_lexer.specs.declared.token.TokenKind.TheVariants as kind
use Rattle.c_tree.specs.Symbols.{Name}
use Rattle.c_tree.specs.Words.{TypeNames, is_type_name}
use Rattle.c_tree.specs.declared.leaf.Identifier.{Identifier}
use Rattle.c_tree.specs.Grammar.{WithName, IsDeclarator}
use Rattle.c_tree.specs.Spelling.{name_symbol, declarator_spelling}
use Rattle.c_tree.specs.Tree as tree
use Rattle.parse_rules.specs.Grammars.{Language}
use Rattle.c_parse_words.specs.Written.{IsWritten}
use Rattle.c_parse_words.proofs.Written.{some_place}

total : TypeNames → ℕ
total [] = 0
total (name ∷ names) = length name + total names

pub fresh : TypeNames → List ℕ
fresh names = 97 ∷ 97 ∷ replicate (total names) 97

pub fresh_name : TypeNames → Identifier
fresh_name names = record { bytes = fresh names; place = some_place }

and_false : (b : Bool) → (b && false) ≡ false
and_false true = refl
and_false false = refl

-- bytes of different lengths differ
lengths_differ : (xs ys : List ℕ) → length xs < length ys → bytes_eq xs ys ≡ false
lengths_differ [] (y ∷ ys) h = refl
lengths_differ [] [] h = absurd (omega arith)
lengths_differ (x ∷ xs) [] h = absurd (omega arith)
lengths_differ (x ∷ xs) (y ∷ ys) h = rw (lengths_differ xs ys (omega arith)) (and_false (eqb x y))

longer_is_new : (names : TypeNames) (word : List ℕ) → total names < length word → is_type_name names word ≡ false
unfolding total
longer_is_new [] word h = refl
longer_is_new (name ∷ names) word h = rw (lengths_differ name word (omega arith), longer_is_new names word (omega arith)) refl

pub fresh_is_new : (names : TypeNames) → is_type_name names (fresh names) ≡ false
unfolding fresh
fresh_is_new names = longer_is_new names (97 ∷ 97 ∷ replicate (total names) 97) (omega (arith, length-replicate {A = ℕ} (total names) 97))

all_word_bytes : (n : ℕ) → list_all is_word_byte (replicate n 97) ≡ true
all_word_bytes zero = refl
all_word_bytes (suc n) = all_word_bytes n

pub written_fresh : (names : TypeNames) → IsWritten (Name (fresh names) some_place)
unfolding fresh
written_fresh names = record { bytes = fresh names; kind = kind.Identifier; place = some_place; is_token = rw (all_word_bytes (total names)) refl; is_symbol = refl }

pub fresh_name_is_new : (names : TypeNames) → is_type_name names (fresh_name names).bytes ≡ false
unfolding fresh_name
fresh_name_is_new names = fresh_is_new names

pub written_fresh_name : (names : TypeNames) → IsWritten (name_symbol (fresh_name names))
unfolding fresh_name
written_fresh_name names = written_fresh names

-- a declarator that is a name and no more
unfoldable pub fresh_declarator : TypeNames → tree.Declarator
fresh_declarator names = tree.Declares [] (tree.Names (fresh_name names)) tree.NoPart

pub fresh_declares : (g : Language) (names : TypeNames) → IsDeclarator g names WithName (fresh_declarator names)
unfolding fresh_declarator
fresh_declares g names = (λ k d h. absurd (omega arith), (tt, fresh_name_is_new names), tt, tt)

pub fresh_spelling : (names : TypeNames) → declarator_spelling (fresh_declarator names) ≡ name_symbol (fresh_name names) ∷ []
unfolding fresh_declarator
fresh_spelling names = refl
