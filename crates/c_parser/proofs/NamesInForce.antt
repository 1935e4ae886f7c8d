-- Which typedef names are in force after declarations.
use Rattle.std.proofs.Common.{◌≡◌, ℕ, true, false, List, Result, Ok, Err, IfOk, refl, subst}
use Rattle.parse_rules.specs.Parsers.{Read}
use Rattle.parse_rules.specs.Grammars.{Language}
use Rattle.c_lexer.specs.declared.word.Keyword.{Keyword}
use Rattle.c_lexer.specs.declared.word.Keyword.TheVariants as keyword
use Rattle.c_tree.specs.Grammar.{WithName, AreSpecifiers, IsDeclarator, IsCore, declared_name, core_name, names_after_all}
use Rattle.c_tree.specs.Symbols.{Symbol}
use Rattle.c_tree.specs.Tree as tree
use Rattle.c_tree.specs.Words.{TypeNames, InBlock, has_typedef, is_typedef, is_typedef_word, may_specify}
use Rattle.c_parse_words.specs.Seen.{Reads}
use Rattle.c_parse_words.specs.declared.stop.Stop.{Stop}
use Rattle.c_expr_parse.specs.Answers.{SpecifiersAnswered, DeclaratorAnswered}
use Rattle.c_expr_parse.specs.Rules.{rules}
use Rattle.c_tree.specs.Views.{declarator_view, specifiers_view}
use Rattle.c_tree.specs.declared.expr.Declarator.{Declarator}
use Rattle.c_tree.specs.declared.expr.Specifiers.{Specifiers}
use Rattle.c_parser.specs.Names.{IsNew}
use Rattle.c_expr_parse.proofs.AllReads.{inner_reads}
use Rattle.c_expr_parse.proofs.Promised.{specifiers_answered, declarator_answered}

-- declarators that declare no types
pub no_names : (names : TypeNames) (x : tree.InitDeclarators) → names_after_all false names x ≡ names
no_names names tree.NoInitDeclarator = refl
no_names names (tree.AndPlain before x) = no_names names before
no_names names (tree.AndInitialised before x at value) = no_names names before

-- no `typedef` stands in a block

plain_word : (word : Keyword) → may_specify InBlock word ≡ true → is_typedef_word word ≡ false
plain_word keyword.Typedef e = absurd (cc e)
plain_word word e = refl

plain_specifier : (g : Language) (names : TypeNames) (before : tree.Specifiers) (s : tree.Specifier) → AreSpecifiers g names InBlock (tree.AndSpecifier before s) → is_typedef s ≡ false
plain_specifier g names before (tree.Keyword word) w = plain_word word.keyword w.1
plain_specifier g names before s w = refl

plain_list : (g : Language) (names : TypeNames) (x : tree.Specifiers) → AreSpecifiers g names InBlock x → has_typedef x ≡ false
plain_list g names tree.NoSpecifier w = refl
plain_list g names (tree.AndSpecifier before s) w = rw (plain_specifier g names before s w, plain_list g names before w.0) refl

pub plain_in_block : (names : TypeNames) (d : ℕ) (ts rest : List Symbol) (x : tree.Specifiers) → (rules names d).specifiers InBlock ts ≡ Read x rest → has_typedef x ≡ false
plain_in_block names d ts rest x e =
    let h = subst (SpecifiersAnswered names InBlock d ts) e (specifiers_answered names (inner_reads names) InBlock d ts) in
    plain_list _ names x h.spells.within.0

pub plain_read : (names : TypeNames) (d : ℕ) (ts left : List Symbol) (r : Result Specifiers Stop) → Reads specifiers_view ((rules names d).specifiers InBlock ts) r left
    → IfOk r (λ specifiers. has_typedef (specifiers_view specifiers) ≡ false)
plain_read names d ts left (Ok specifiers) e = plain_in_block names d ts left (specifiers_view specifiers) e
plain_read names d ts left (Err why) e = tt

-- a declarator that is read declares a name that is no typedef name

mutual
  new_name : (g : Language) (names : TypeNames) (x : tree.Declarator) → IsDeclarator g names WithName x → IsNew names (declared_name x)
  new_name g names (tree.Declares stars core parts) w = new_core g names core w.1

  new_core : (g : Language) (names : TypeNames) (core : tree.Core) → IsCore g names WithName core → IsNew names (core_name core)
  new_core g names (tree.Names name) w = record { bytes = name.bytes; is_name = refl; is_new = w.1 }
  new_core g names tree.Unnamed w = absurd w
  new_core g names (tree.Nested at x) w = new_name g names x w

pub declares_new : (names : TypeNames) (d : ℕ) (ts rest : List Symbol) (x : tree.Declarator) → (rules names d).declarator WithName ts ≡ Read x rest → IsNew names (declared_name x)
declares_new names d ts rest x e =
    let h = subst (DeclaratorAnswered names WithName d ts) e (declarator_answered names (inner_reads names) WithName d ts) in
    new_name _ names x h.spells.within

pub new_read : (names : TypeNames) (d : ℕ) (ts left : List Symbol) (r : Result Declarator Stop) → Reads declarator_view ((rules names d).declarator WithName ts) r left
    → IfOk r (λ x. IsNew names (declared_name (declarator_view x)))
new_read names d ts left (Ok x) e = declares_new names d ts left (declarator_view x) e
new_read names d ts left (Err why) e = tt
