-- How the spellings of specifiers and declarators begin.
use Rattle.std.proofs.Common.{◌≡◌, Bool, true, false, ◌||◌, ◌&&◌, not, cond, Option, Some, is_some, List, [], ◌∷◌, ◌++◌, refl, sym, ◌∙◌, ap, append_assoc, true≢false}
use Rattle.cc_base.specs.declared.place.Place.{Place}
use Rattle.c_lexer.specs.declared.word.Keyword.{Keyword}
use Rattle.c_lexer.specs.declared.word.Keyword.TheVariants as keyword
use Rattle.c_lexer.specs.declared.punctuator.Punctuator.{Punctuator}
use Rattle.c_lexer.specs.declared.punctuator.Punctuator.TheVariants as mark
use Rattle.parse_rules.specs.Parsers.{first}
use Rattle.parse_rules.specs.Grammars.{Language}
use Rattle.c_tree.specs.declared.leaf.Identifier.{Identifier}
use Rattle.c_tree.specs.declared.operator.AggregateKind.{AggregateKind}
use Rattle.c_tree.specs.declared.operator.AggregateKind.TheVariants as aggregate
use Rattle.c_tree.specs.Grammar.{Naming, WithName, WithoutName, WithOrWithout, MayName, MayOmitName, AreSpecifiers, IsSpecifier, IsDeclarator}
use Rattle.c_tree.specs.Operators.{aggregate_keyword}
use Rattle.c_tree.specs.Spelling.{specifiers_spelling, specifier_spelling, parts_spelling, declarator_spelling}
use Rattle.c_tree.specs.Symbols.{Symbol, Name, Word, Mark}
use Rattle.c_tree.specs.Tree as tree
use Rattle.c_tree.specs.Words.{TypeNames, Scope, may_specify, has_type, is_type_name}
use Rattle.c_parse_words.specs.Tests.{begins_specifier, is_specifier_start, specifier_start_of_word, StartWord, StartTypedef, NoSpecifierStart, begins_declarator, open_brace, begins_part, is_core, CoreName, NoCore, may_name, may_omit_name}
use Rattle.c_expr_parse.proofs.Complete.{EndsSpecifiers}

-- Specifiers.

-- a word that may stand there begins a specifier
word_starts : (scope : Scope) (word : Keyword) (at : Place) → may_specify scope word ≡ true → is_specifier_start (specifier_start_of_word scope word at) ≡ true
word_starts scope keyword.Struct at e = refl
word_starts scope keyword.Union at e = refl
word_starts scope keyword.Enum at e = refl
word_starts scope word at e = ap (λ b. is_specifier_start (cond b (StartWord (record { keyword = word; place = at })) NoSpecifierStart)) e

aggregate_starts : (names : TypeNames) (scope : Scope) (kind : AggregateKind) (at : Place) → begins_specifier names scope (Some (Word (aggregate_keyword kind) at)) ≡ true
aggregate_starts names scope aggregate.Struct at = refl
aggregate_starts names scope aggregate.Union at = refl

pub specifier_starts : (g : Language) (names : TypeNames) (scope : Scope) (x : tree.Specifier) (rest : List Symbol) → IsSpecifier g names scope x → begins_specifier names scope (first (specifier_spelling x ++ rest)) ≡ true
specifier_starts g names scope (tree.Keyword word) rest w = word_starts scope word.keyword word.place w
specifier_starts g names scope (tree.Typedef name) rest w = rw w refl
specifier_starts g names scope (tree.Tagged kind at tag) rest w = aggregate_starts names scope kind at
specifier_starts g names scope (tree.Aggregate kind at tag brace members) rest w = aggregate_starts names scope kind at
specifier_starts g names scope (tree.Enum at tag) rest w = refl
specifier_starts g names scope (tree.Enumeration at tag brace enumerators true) rest w = refl
specifier_starts g names scope (tree.Enumeration at tag brace enumerators false) rest w = refl

abbrev pub is_no_specifier : tree.Specifiers → Bool
is_no_specifier tree.NoSpecifier = true
is_no_specifier x = false

pub list_starts : (g : Language) (names : TypeNames) (scope : Scope) (x : tree.Specifiers) (rest : List Symbol) → AreSpecifiers g names scope x → is_no_specifier x ≡ false → begins_specifier names scope (first (specifiers_spelling x ++ rest)) ≡ true
list_starts g names scope tree.NoSpecifier rest w some = cc
list_starts g names scope (tree.AndSpecifier tree.NoSpecifier one) rest w some = specifier_starts g names scope one rest w.1
list_starts g names scope (tree.AndSpecifier (tree.AndSpecifier before other) one) rest w some =
    rw (append_assoc (specifiers_spelling (tree.AndSpecifier before other)) (specifier_spelling one) rest) (list_starts g names scope (tree.AndSpecifier before other) (specifier_spelling one ++ rest) w.0 refl)

typed_some : (x : tree.Specifiers) → has_type x ≡ true → is_no_specifier x ≡ false
typed_some tree.NoSpecifier e = cc
typed_some (tree.AndSpecifier before one) e = refl

pub specifiers_start : (g : Language) (names : TypeNames) (scope : Scope) (x : tree.Specifiers) (rest : List Symbol) → AreSpecifiers g names scope x → has_type x ≡ true → begins_specifier names scope (first (specifiers_spelling x ++ rest)) ≡ true
specifiers_start g names scope x rest w typed = list_starts g names scope x rest w (typed_some x typed)

-- Declarators.

may_have : (naming : Naming) → MayName naming → may_name naming ≡ true
may_have WithName h = refl
may_have WithoutName h = absurd h
may_have WithOrWithout h = refl

may_lack : (naming : Naming) → MayOmitName naming → may_omit_name naming ≡ true
may_lack WithName h = absurd h
may_lack WithoutName h = refl
may_lack WithOrWithout h = refl

abbrev is_no_part : tree.Parts → Bool
is_no_part tree.NoPart = true
is_no_part x = false

-- a part begins with a bracket or a parenthesis
pub parts_start : (x : tree.Parts) (rest : List Symbol) → is_no_part x ≡ false → begins_part (first (parts_spelling x ++ rest)) ≡ true
parts_start tree.NoPart rest some = cc
parts_start (tree.AndArray tree.NoPart at words) rest some = refl
parts_start (tree.AndSizedArray tree.NoPart at words e) rest some = refl
parts_start (tree.AndFunction tree.NoPart at parameters) rest some = refl
parts_start (tree.AndArray (tree.AndArray x b u) at words) rest some = rw (append_assoc (parts_spelling (tree.AndArray x b u)) _ rest) (parts_start (tree.AndArray x b u) _ refl)
parts_start (tree.AndArray (tree.AndSizedArray x b u f) at words) rest some = rw (append_assoc (parts_spelling (tree.AndSizedArray x b u f)) _ rest) (parts_start (tree.AndSizedArray x b u f) _ refl)
parts_start (tree.AndArray (tree.AndFunction x b q) at words) rest some = rw (append_assoc (parts_spelling (tree.AndFunction x b q)) _ rest) (parts_start (tree.AndFunction x b q) _ refl)
parts_start (tree.AndSizedArray (tree.AndArray x b u) at words e) rest some = rw (append_assoc (parts_spelling (tree.AndArray x b u)) _ rest) (parts_start (tree.AndArray x b u) _ refl)
parts_start (tree.AndSizedArray (tree.AndSizedArray x b u f) at words e) rest some = rw (append_assoc (parts_spelling (tree.AndSizedArray x b u f)) _ rest) (parts_start (tree.AndSizedArray x b u f) _ refl)
parts_start (tree.AndSizedArray (tree.AndFunction x b q) at words e) rest some = rw (append_assoc (parts_spelling (tree.AndFunction x b q)) _ rest) (parts_start (tree.AndFunction x b q) _ refl)
parts_start (tree.AndFunction (tree.AndArray x b u) at parameters) rest some = rw (append_assoc (parts_spelling (tree.AndArray x b u)) _ rest) (parts_start (tree.AndArray x b u) _ refl)
parts_start (tree.AndFunction (tree.AndSizedArray x b u f) at parameters) rest some = rw (append_assoc (parts_spelling (tree.AndSizedArray x b u f)) _ rest) (parts_start (tree.AndSizedArray x b u f) _ refl)
parts_start (tree.AndFunction (tree.AndFunction x b q) at parameters) rest some = rw (append_assoc (parts_spelling (tree.AndFunction x b q)) _ rest) (parts_start (tree.AndFunction x b q) _ refl)

-- a token that begins a part begins a declarator that may have no name
part_begins : (names : TypeNames) (naming : Naming) (next : Option Symbol) → may_omit_name naming ≡ true → begins_part next ≡ true → begins_declarator names naming next ≡ true
part_begins names naming (Some (Mark mark.OpenBracket at)) e h = rw e refl
part_begins names naming (Some (Mark mark.OpenParen at)) e h = refl
part_begins names naming next e h = cc

pub declarator_starts : (g : Language) (names : TypeNames) (naming : Naming) (x : tree.Declarator) (rest : List Symbol) → IsDeclarator g names naming x → begins_declarator names naming (first (declarator_spelling x ++ rest)) ≡ true
declarator_starts g names naming (tree.Declares (star ∷ stars) core parts) rest w = refl
declarator_starts g names naming (tree.Declares [] (tree.Names name) parts) rest w = rw (may_have naming w.1.0, w.1.1) refl
declarator_starts g names naming (tree.Declares [] (tree.Nested at inside) parts) rest w = refl
declarator_starts g names naming (tree.Declares [] tree.Unnamed tree.NoPart) rest w = absurd w.3
declarator_starts g names naming (tree.Declares [] tree.Unnamed (tree.AndArray x at words)) rest w = part_begins names naming _ (may_lack naming w.1) (parts_start (tree.AndArray x at words) rest refl)
declarator_starts g names naming (tree.Declares [] tree.Unnamed (tree.AndSizedArray x at words e)) rest w = part_begins names naming _ (may_lack naming w.1) (parts_start (tree.AndSizedArray x at words e) rest refl)
declarator_starts g names naming (tree.Declares [] tree.Unnamed (tree.AndFunction x at q)) rest w = part_begins names naming _ (may_lack naming w.1) (parts_start (tree.AndFunction x at q) rest refl)

-- A token that begins a declarator goes on with no specifiers.

pub and_none : (b : Bool) → (b && false) ≡ false
and_none true = refl
and_none false = refl

no_brace : (names : TypeNames) (naming : Naming) (p : Punctuator) (at : Place) → begins_declarator names naming (Some (Mark p at)) ≡ true → is_some (open_brace (Some (Mark p at))) ≡ false
no_brace names naming mark.OpenBrace at e = absurd (true≢false (sym e ∙ and_none (may_omit_name naming)))
no_brace names naming p at e = refl

no_type : (is may other : Bool) (name name' : Identifier) → (is_core (cond (may && not is) (CoreName name) NoCore) || (other && false)) ≡ true → is_specifier_start (cond is (StartTypedef name') NoSpecifierStart) ≡ false
no_type true true other name name' e = absurd (true≢false (sym e ∙ and_none other))
no_type true false other name name' e = absurd (true≢false (sym e ∙ and_none other))
no_type false may other name name' e = refl

pub declarator_apart : (names : TypeNames) (naming : Naming) (scope : Scope) (next : Option Symbol) → begins_declarator names naming next ≡ true → EndsSpecifiers names scope next
declarator_apart names naming scope (Some (Name bytes at)) e = record { no_specifier = no_type (is_type_name names bytes) (may_name naming) (may_omit_name naming) _ _ e; no_brace = refl }
declarator_apart names naming scope (Some (Mark p at)) e = record { no_specifier = refl; no_brace = no_brace names naming p at e }
declarator_apart names naming scope next e = absurd (true≢false (sym e ∙ and_none (may_omit_name naming)))
